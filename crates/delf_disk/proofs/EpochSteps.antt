-- How the images of a disk in memory move with a write, and with a sync or a cut.
use Rattle.std.proofs.Common.{◌≡◌, ◌⊎◌, inl, inr, ⊎_elim, ℕ, ◌+◌, ◌-◌, List, [], ◌∷◌, ◌++◌, length, refl, sym, ◌∙◌, ap, subst, arith, length-append}
use Rattle.std.proofs.lemmas.List.{take-append-le, take_all}
use Rattle.std.proofs.lemmas.Bool.Decides.{leb_tells}
use Rattle.delf_disk.specs.declared.past.Write.{Write}
use Rattle.delf_disk.specs.declared.past.Epoch.{Epoch}
use Rattle.delf_disk.specs.declared.past.End.{End}
use Rattle.delf_disk.specs.declared.past.End.TheVariants.{Synced, Cut}
use Rattle.delf_disk.specs.Areas.{Areas}
use Rattle.delf_disk.specs.Images.{Torn, Same, After, Moves}
use Rattle.delf_disk.specs.Epochs.{laid_all, Image, after_end, stable_after, moment_of, LeftIn, LeftSince}
use Rattle.delf_disk.proofs.Laid.{laid_torn, picked_reached, reached_push, laid_all-push}

moment-push : (es : List Epoch) (ws : List Write) (w : Write) → moment_of es (ws ++ w ∷ []) ≡ moment_of es ws + 1
unfolding moment_of
moment-push [] ws w = length-append ws (w ∷ [])
moment-push (e ∷ es) ws w = let rest = moment-push es ws w in omega (arith, rest)

pushed_in : (ws : List Write) (w : Write) (stable : Areas) (t : ℕ) (c : Areas) → LeftIn (ws ++ w ∷ []) stable t c → LeftIn ws stable t c ⊎ Image (ws ++ w ∷ []) stable c
pushed_in ws w stable t c left =
    let j = left.0 in
    let more = length-append ws (w ∷ []) in
    ⊎_elim (λ early. inl (j, left.1, early.1, subst (λ v. Image v stable c) (take-append-le j ws (w ∷ []) early.1) left.3))
    (λ last. inr (subst (λ v. Image v stable c) (take_all j (ws ++ w ∷ []) (omega (arith, more, last.1))) left.3))
    (leb_tells j (length ws))

push_else : (es : List Epoch) (ws : List Write) (w : Write) (first : Areas) (t : ℕ) (c : Areas) → LeftSince es (ws ++ w ∷ []) first t c
    → LeftSince es ws first t c ⊎ Image (ws ++ w ∷ []) (stable_after es first) c
unfolding LeftSince stable_after
push_else [] ws w first t c left = pushed_in ws w first t c left
push_else (e ∷ es) ws w first t c left =
    ⊎_elim (λ here. inl (inl here))
    (λ later. ⊎_elim (λ past. inl (inr past)) (λ now. inr now) (push_else es ws w (after_end e.end e.writes.items first) (t - (length e.writes.items + 1)) c later)) left

push_keeps : (es : List Epoch) (ws : List Write) (w : Write) (first : Areas) (t : ℕ) (c : Areas) → LeftSince es ws first t c → LeftSince es (ws ++ w ∷ []) first t c
unfolding LeftSince
push_keeps [] ws w first t c left =
    (left.0, left.1, omega (arith, length-append ws (w ∷ []), left.2), subst (λ v. Image v first c) (sym (take-append-le left.0 ws (w ∷ []) left.2)) left.3)
push_keeps (e ∷ es) ws w first t c left =
    ⊎_elim (λ here. inl here) (λ later. inr (push_keeps es ws w (after_end e.end e.writes.items first) (t - (length e.writes.items + 1)) c later)) left

-- a write, failed or not, tears its range
push_follows : (ws : List Write) (w : Write) (stable c : Areas) → Image (ws ++ w ∷ []) stable c → After (Torn w.area w.at (length w.bytes.items)) (Image ws stable) c
unfolding Image
push_follows ws w stable c image =
    let seen = laid_all ws stable in
    ⊎_elim (λ is. (seen, inl refl, subst (λ d. Torn w.area w.at (length w.bytes.items) seen d) (sym (is ∙ laid_all-push ws w stable)) (laid_torn w seen)))
    (λ reached. let from = reached_push ws w stable c reached in (from.0, inr from.1, from.2)) image

pub push_moves : (es : List Epoch) (ws : List Write) (w : Write) (first stable : Areas) → stable_after es first ≡ stable
    → Moves (Torn w.area w.at (length w.bytes.items)) (moment_of es ws) (moment_of es (ws ++ w ∷ [])) (Image ws stable) (Image (ws ++ w ∷ []) stable) (LeftSince es ws first) (LeftSince es (ws ++ w ∷ []) first)
push_moves es ws w first stable base = record {
  later = omega (arith, moment-push es ws w);
  follows = push_follows ws w stable;
  nothing_else = λ t c le left. subst (λ s. LeftSince es ws first t c ⊎ Image (ws ++ w ∷ []) s c) base (push_else es ws w first t c left);
  keeps = λ t c le left. push_keeps es ws w first t c left;
}

moment-end : (es : List Epoch) (e : Epoch) → moment_of (es ++ e ∷ []) [] ≡ moment_of es e.writes.items + 1
unfolding moment_of
moment-end [] e = omega arith
moment-end (v ∷ es) e = let rest = moment-end es e in omega (arith, rest)

end_else : (es : List Epoch) (e : Epoch) (first : Areas) (t : ℕ) (c : Areas) → LeftSince (es ++ e ∷ []) [] first t c
    → LeftSince es e.writes.items first t c ⊎ Image [] (stable_after (es ++ e ∷ []) first) c
unfolding LeftSince stable_after
end_else [] e first t c left =
    let next = after_end e.end e.writes.items first in
    let none : List Write = [] in
    ⊎_elim (λ here. inl here) (λ later. inr (subst (λ v. Image v next c) (take_all later.0 none (omega arith)) later.3)) left
end_else (v ∷ es) e first t c left =
    ⊎_elim (λ here. inl (inl here))
    (λ later. ⊎_elim (λ past. inl (inr past)) (λ now. inr now) (end_else es e (after_end v.end v.writes.items first) (t - (length v.writes.items + 1)) c later)) left

end_keeps : (es : List Epoch) (e : Epoch) (first : Areas) (t : ℕ) (c : Areas) → LeftSince es e.writes.items first t c → LeftSince (es ++ e ∷ []) [] first t c
unfolding LeftSince
end_keeps [] e first t c left = inl left
end_keeps (v ∷ es) e first t c left =
    ⊎_elim (λ here. inl here) (λ later. inr (end_keeps es e (after_end v.end v.writes.items first) (t - (length v.writes.items + 1)) c later)) left

pub stable_after-end : (es : List Epoch) (e : Epoch) (first : Areas) → stable_after (es ++ e ∷ []) first ≡ after_end e.end e.writes.items (stable_after es first)
unfolding stable_after
stable_after-end [] e first = refl
stable_after-end (v ∷ es) e first = stable_after-end es e (after_end v.end v.writes.items first)

-- with nothing pending a crash leaves the stable bytes
pub image_of_none : (stable c : Areas) → Image [] stable c → c ≡ stable
unfolding Image
image_of_none stable c image = ⊎_elim (λ is. is) (λ is. is) image

-- what is stable after a sync or a cut was an image before it
pub end_is_image : (end : End) (ws : List Write) (stable : Areas) → Image ws stable (after_end end ws stable)
unfolding Image
end_is_image Synced ws stable = inl refl
end_is_image (Cut pick) ws stable = inr (picked_reached pick ws stable)

pub end_moves : (es : List Epoch) (e : Epoch) (first stable : Areas) → stable_after es first ≡ stable
    → Moves Same (moment_of es e.writes.items) (moment_of (es ++ e ∷ []) []) (Image e.writes.items stable) (Image [] (after_end e.end e.writes.items stable))
    (LeftSince es e.writes.items first) (LeftSince (es ++ e ∷ []) [] first)
end_moves es e first stable base =
    let ws = e.writes.items in
    let next = after_end e.end ws stable in
    let is : stable_after (es ++ e ∷ []) first ≡ next = stable_after-end es e first ∙ ap (λ s. after_end e.end ws s) base in record {
      later = omega (arith, moment-end es e);
      follows = λ c image. (next, end_is_image e.end ws stable, image_of_none next c image);
      nothing_else = λ t c le left. subst (λ s. LeftSince es ws first t c ⊎ Image [] s c) is (end_else es e first t c left);
      keeps = λ t c le left. end_keeps es e first t c left;
    }
