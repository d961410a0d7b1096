-- What the calls of a disk in memory make of it.
use Rattle.std.proofs.Common.{◌≡◌, ⊎_elim, true, ◌==◌, Vec, Global, ℕ, ◌+◌, ◌≤◌, ◌<◌, List, [], ◌∷◌, ◌++◌, length, refl, sym, ◌∙◌, ap, subst, arith, vec_len}
use Rattle.std.proofs.lemmas.Bool.Decides.{eqb_tells}
use Rattle.delf_disk.specs.declared.area.Area.{Area}
use Rattle.delf_disk.specs.declared.area.Area.TheVariants.{Journal}
use Rattle.delf_disk.specs.declared.content.Content.{Content}
use Rattle.delf_disk.specs.declared.past.Write.{Write}
use Rattle.delf_disk.specs.declared.past.Epoch.{Epoch}
use Rattle.delf_disk.specs.declared.past.End.{End}
use Rattle.delf_disk.specs.Areas.{Areas}
use Rattle.delf_disk.specs.Content.{areas_of, room_of, KeepsRoom, IsRoomy}
use Rattle.delf_disk.specs.Images.{Torn, Same, Moves}
use Rattle.delf_disk.specs.Epochs.{laid, laid_all, end_of, Image, after_end, stable_after, moment_of, LeftSince}
use Rattle.delf_disk.proofs.EpochSteps.{push_moves, end_moves, stable_after-end, image_of_none, end_is_image}
use Rattle.delf_disk.proofs.Laid.{laid_all-push}
use Rattle.delf_disk.proofs.Rooms.{has_room-push, has_room-kept}
use Rattle.delf_disk.proofs.Writes.{same_areas}

-- a write has its place
pub fits : (w : Write) (area : Area) (at : ℕ) (bytes : List ℕ) (content : Content) → w.area ≡ area → w.at ≡ at → w.bytes.items ≡ bytes
    → at + length bytes ≤ room_of area content → end_of w ≤ room_of w.area content
fits w area at bytes content area_is at_is bytes_are room = rw (area_is, at_is, bytes_are) room

pub wrote_reads : (ws ws' : List Write) (w : Write) (stable live live' : Areas) → ws' ≡ ws ++ w ∷ [] → laid_all ws stable ≡ live → live' ≡ laid w live → laid_all ws' stable ≡ live'
wrote_reads ws ws' w stable live live' pending reads lands =
    ap (λ v. laid_all v stable) pending ∙ laid_all-push ws w stable ∙ ap (λ c. laid w c) reads ∙ sym lands

pub wrote_room : (ws ws' : List Write) (w : Write) (live live' stable : Content) → ws' ≡ ws ++ w ∷ [] → IsRoomy ws live stable → KeepsRoom live live'
    → end_of w ≤ room_of w.area live → end_of w ≤ room_of w.area stable → IsRoomy ws' live' stable
wrote_room ws ws' w live live' stable pending room keeps in_live in_stable =
    subst (λ v. IsRoomy v live' stable) (sym pending) (record {
      for_now = has_room-kept (ws ++ w ∷ []) live live' (has_room-push ws w live room.for_now in_live) keeps;
      for_stable = has_room-push ws w stable room.for_stable in_stable;
      journal = omega (arith, room.journal, keeps.journal);
      vault = omega (arith, room.vault, keeps.vault);
    })

pub wrote_moves : (es es' : List Epoch) (ws ws' : List Write) (w : Write) (first first' stable stable' : Areas) (area : Area) (at : ℕ) (bytes : List ℕ)
    → es' ≡ es → ws' ≡ ws ++ w ∷ [] → first' ≡ first → stable' ≡ stable → stable_after es first ≡ stable
    → w.area ≡ area → w.at ≡ at → w.bytes.items ≡ bytes
    → Moves (Torn area at (length bytes)) (moment_of es ws) (moment_of es' ws') (Image ws stable) (Image ws' stable') (LeftSince es ws first) (LeftSince es' ws' first')
wrote_moves es es' ws ws' w first first' stable stable' area at bytes past pending begin base begun area_is at_is bytes_are =
    rw (past, pending, begin, base, ← area_is, ← at_is, ← bytes_are) (push_moves es ws w first stable begun)

pub ended_begun : (es es' : List Epoch) (e : Epoch) (end : End) (ws : List Write) (first stable stable' : Areas) → es' ≡ es ++ e ∷ [] → e.writes.items ≡ ws → e.end ≡ end
    → stable_after es first ≡ stable → stable' ≡ after_end end ws stable → stable_after es' first ≡ stable'
ended_begun es es' e end ws first stable stable' past writes is_end begun is =
    ap (λ v. stable_after v first) past ∙ stable_after-end es e first ∙ ap (λ s. after_end e.end e.writes.items s) begun
    ∙ ap (λ x. after_end x e.writes.items stable) is_end ∙ ap (λ v. after_end end v stable) writes ∙ sym is

pub ended_reads : (ws' : List Write) (stable live : Areas) → ws' ≡ [] → stable ≡ live → laid_all ws' stable ≡ live
ended_reads ws' stable live none is = ap (λ v. laid_all v stable) none ∙ is

pub ended_room : (ws' : List Write) (live stable : Content) → ws' ≡ [] → areas_of stable ≡ areas_of live → IsRoomy ws' live stable
ended_room ws' live stable none same =
    subst (λ v. IsRoomy v live stable) (sym none) (record {
      for_now = record { journal = omega arith; vault = omega arith };
      for_stable = record { journal = omega arith; vault = omega arith };
      journal = let e = ap (λ (c : Areas). length c.journal) same in omega (arith, e, live.journal.ok.0, live.journal.ok.1);
      vault = let e = ap (λ (c : Areas). length c.vault) same in omega (arith, e, live.vault.ok.0, live.vault.ok.1);
    })

pub ended_spare : {P : Type 0} (ws' : List Write) → ws' ≡ [] → 0 < length ws' → P
ended_spare ws' none some = absurd (omega (arith, ap (λ (v : List Write). length v) none, some))

pub ended_moves : (es es' : List Epoch) (e : Epoch) (end : End) (ws ws' : List Write) (first stable stable' : Areas) → es' ≡ es ++ e ∷ [] → e.writes.items ≡ ws → e.end ≡ end → ws' ≡ []
    → stable_after es first ≡ stable → stable' ≡ after_end end ws stable
    → Moves Same (moment_of es ws) (moment_of es' ws') (Image ws stable) (Image ws' stable') (LeftSince es ws first) (LeftSince es' ws' first)
ended_moves es es' e end ws ws' first stable stable' past writes is_end none begun is =
    rw (past, none, is, ← is_end, ← writes) (end_moves es e first stable begun)

-- a crash leaves what is stable
pub ended_only : (ws' : List Write) (stable live c : Areas) → ws' ≡ [] → stable ≡ live → Image ws' stable c → c ≡ live
ended_only ws' stable live c none is image = image_of_none stable c (subst (λ v. Image v stable c) none image) ∙ is

pub picked_image : (end : End) (ws : List Write) (stable live : Areas) → live ≡ after_end end ws stable → Image ws stable live
picked_image end ws stable live is = subst (λ c. Image ws stable c) (sym is) (end_is_image end ws stable)

pub same_content : (a b : Content) (journal vault : List ℕ) → a.journal.items ≡ journal → a.vault.items ≡ vault → b.journal.items ≡ journal → b.vault.items ≡ vault → areas_of a ≡ areas_of b
same_content a b journal vault one two three four = same_areas Journal (areas_of a) (areas_of b) (one ∙ sym three) (two ∙ sym four)

pub begins : (es : List Epoch) (first stable : Areas) → es ≡ [] → first ≡ stable → stable_after es first ≡ stable
unfolding stable_after
begins es first stable none is = ap (λ v. stable_after v first) none ∙ is

no_items : (xs : List Write) → length xs ≡ 0 → xs ≡ []
no_items [] none = refl
no_items (x ∷ xs) none = absurd (omega arith)

is_zero : (n : ℕ) → true ≡ (n == 0) → n ≡ 0
is_zero n test = ⊎_elim (λ yes. yes.1) (λ no. absurd (cc)) (eqb_tells n 0)

pub none_pending : (v : Vec Write Global) → true ≡ (vec_len v == 0) → v.items ≡ []
none_pending v test = let none = is_zero (vec_len v) test in no_items v.items (omega (arith, none, v.ok.0))
