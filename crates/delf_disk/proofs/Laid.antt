-- A write that is laid over an area is one of the torn ones, and so is what a cut of the power leaves of it.
use Rattle.std.proofs.Common.{◌≡◌, ⊎_elim, ℕ, ◌+◌, ◌-◌, ◌/◌, ◌%◌, ◌≤◌, ◌==◌, min, max, Bool, true, false, cond, List, [], ◌∷◌, ◌++◌, length, take, drop, replicate, refl, sym, ◌∙◌, ap, subst, arith, append_assoc, length-append, length-take, take-append-drop}
use Rattle.std.proofs.lemmas.List.{take-append-le, take_all, drop_all, append-nil, take_min, replicate-append-replicate}
use Rattle.std.proofs.lemmas.Bool.Decides.{leb_tells}
use Rattle.std.proofs.Math.ListN.{length-replicate}
use Rattle.std.proofs.lemmas.Slice.{take-put_mid, drop-put_mid}
use borrow.Rule.Slice.PartMut.{put_mid}
use Rattle.delf_disk.specs.declared.area.Area.{Area}
use Rattle.delf_disk.specs.declared.area.Area.TheVariants.{Journal, Vault}
use Rattle.delf_disk.specs.declared.past.Write.{Write}
use Rattle.delf_disk.specs.Areas.{Areas, area_of, rest_of, with_area}
use Rattle.delf_disk.specs.Images.{overwritten, TornAt, Torn}
use Rattle.delf_disk.specs.Laying.{padded, overlaid, overlaid_in}
use Rattle.delf_disk.specs.Epochs.{laid, laid_all, left_of, picked, Reached}
use Rattle.delf_disk.proofs.Writes.{length-overwritten, torn_within, torn_same, written_is_torn}

pub area_of-with_area : (area : Area) (bytes : List ℕ) (areas : Areas) → area_of area (with_area area bytes areas) ≡ bytes
area_of-with_area Journal bytes areas = refl
area_of-with_area Vault bytes areas = refl

pub rest_of-with_area : (area : Area) (bytes : List ℕ) (areas : Areas) → rest_of area (with_area area bytes areas) ≡ rest_of area areas
rest_of-with_area Journal bytes areas = refl
rest_of-with_area Vault bytes areas = refl

pub length-padded : (at : ℕ) (old : List ℕ) → length (padded at old) ≡ max (length old) at
length-padded at old = omega (arith, length-append old (replicate (at - length old) 0), length-replicate {A = ℕ} (at - length old) 0)

pub padded_inside : (at : ℕ) (old : List ℕ) → at ≤ length old → padded at old ≡ old
padded_inside at old within =
    let none : at - length old ≡ 0 = omega arith in
    ap (λ n. old ++ replicate n 0) none ∙ append-nil old

above_padded : (at n : ℕ) (old : List ℕ) → drop (at + n) (padded at old) ≡ drop (at + n) old
above_padded at n old =
    ⊎_elim (λ below. ap (λ (l : List ℕ). drop (at + n) l) (padded_inside at old below.1))
    (λ above. drop_all (at + n) (padded at old) (omega (arith, length-padded at old, above.1)) ∙ sym (drop_all (at + n) old (omega (arith, above.1))))
    (leb_tells at (length old))

padded_torn : (at n : ℕ) (old : List ℕ) → TornAt at n old (padded at old)
padded_torn at n old = record {
  below = take-append-le (min at (length old)) old (replicate (at - length old) 0) (omega arith) ∙ take_min at old;
  above = above_padded at n old;
  no_shorter = omega (arith, length-padded at old);
  no_longer = omega (arith, length-padded at old);
}

pub overlaid_torn : (at n : ℕ) (bytes old : List ℕ) → length bytes ≤ n → TornAt at n old (overlaid at bytes old)
overlaid_torn at n bytes old short =
    let within : at ≤ length (padded at old) = omega (arith, length-padded at old) in
    torn_within at n at (length bytes) old (padded at old) (overlaid at bytes old) (omega arith) (omega arith) (padded_torn at n old) (written_is_torn at bytes (padded at old) within)

pub overlaid_in_torn : (area : Area) (at n : ℕ) (bytes : List ℕ) (old : Areas) → length bytes ≤ n → Torn area at n old (overlaid_in area at bytes old)
overlaid_in_torn area at n bytes old short = record {
  here = subst (λ l. TornAt at n (area_of area old) l) (sym (area_of-with_area area (overlaid at bytes (area_of area old)) old)) (overlaid_torn at n bytes (area_of area old) short);
  other = rest_of-with_area area (overlaid at bytes (area_of area old)) old;
}

-- a list that is padded further, and what is written there in place of the padding
pub filled : (at n byte : ℕ) (old : List ℕ) → overwritten at (replicate n byte) (padded (at + n) old) ≡ overlaid at (replicate n byte) old
filled at n byte old =
    let bytes : List ℕ = replicate n byte in
    let size : length bytes ≡ n = length-replicate {A = ℕ} n byte in
    let front : take at (padded (at + n) old) ≡ take at (padded at old) =
    ⊎_elim (λ below. take-append-le at old (replicate (at + n - length old) 0) below.1 ∙ sym (take-append-le at old (replicate (at - length old) 0) below.1))
    (λ above.
    let more : at + n - length old ≡ at - length old + n = omega (arith, above.1) in
    let longer : padded (at + n) old ≡ padded at old ++ replicate n 0 =
    ap (λ k. old ++ replicate k 0) more ∙ ap (λ (l : List ℕ). old ++ l) (sym (replicate-append-replicate {A = ℕ} (at - length old) n 0)) ∙ sym (append_assoc old (replicate (at - length old) 0) (replicate n 0)) in
    ap (λ (l : List ℕ). take at l) longer ∙ take-append-le at (padded at old) (replicate n 0) (omega (arith, length-padded at old)))
    (leb_tells at (length old)) in
    let none : at + n + 0 ≡ at + n = omega arith in
    let far : drop (at + n) (padded (at + n) old) ≡ drop (at + n) old = subst (λ k. drop k (padded (at + n) old) ≡ drop k old) none (above_padded (at + n) 0 old) in
    let back : drop (at + length bytes) (padded (at + n) old) ≡ drop (at + length bytes) (padded at old) =
    subst (λ m. drop (at + m) (padded (at + n) old) ≡ drop (at + m) (padded at old)) (sym size) (far ∙ sym (above_padded at n old)) in
    ap (λ (l : List ℕ). l ++ bytes ++ drop (at + length bytes) (padded (at + n) old)) front
    ∙ ap (λ (l : List ℕ). take at (padded at old) ++ bytes ++ l) back

either : (P : Areas → Type 0) (b : Bool) (x y : Areas) → P x → P y → P (cond b x y)
either P b x y one other = elim b as (λ v. P (cond v x y)) [ true ↦ one | false ↦ other ]

pub laid_torn : (w : Write) (old : Areas) → Torn w.area w.at (length w.bytes.items) old (laid w old)
laid_torn w old =
    let n = length w.bytes.items in
    either (λ c. Torn w.area w.at n old c) w.landed _ _ (overlaid_in_torn w.area w.at n w.bytes.items old (omega arith)) (torn_same w.area w.at n old)

pub left_torn : (choice : ℕ) (w : Write) (old : Areas) → Torn w.area w.at (length w.bytes.items) old (left_of choice w old)
left_torn choice w old =
    let n = length w.bytes.items in
    let P : Areas → Type 0 = λ c. Torn w.area w.at n old c in
    either P (choice == 0) _ _ (torn_same w.area w.at n old)
    (either P (choice == 1) _ _ (overlaid_in_torn w.area w.at n w.bytes.items old (omega arith))
    (either P (choice == 2) _ _ (overlaid_in_torn w.area w.at n (replicate n 238) old (omega (arith, length-replicate {A = ℕ} n 238)))
    (overlaid_in_torn w.area w.at n (take (n / 2) w.bytes.items) old (omega (arith, length-take (n / 2) w.bytes.items)))))

-- what a cut leaves is one of the images
pub picked_reached : (pick : ℕ) (ws : List Write) (stable : Areas) → Reached ws stable (picked pick ws stable)
picked_reached pick [] stable = refl
picked_reached pick (w ∷ ws) stable =
    let next = left_of (pick % 4) w stable in
    (next, left_torn (pick % 4) w stable, picked_reached (pick / 4) ws next)

-- one write more
pub reached_push : (ws : List Write) (w : Write) (stable c : Areas) → Reached (ws ++ w ∷ []) stable c → (d : Areas) × Reached ws stable d × Torn w.area w.at (length w.bytes.items) d c
reached_push [] w stable c reached =
    (stable, refl, subst (λ e. Torn w.area w.at (length w.bytes.items) stable e) (sym reached.2) reached.1)
reached_push (v ∷ ws) w stable c reached =
    let rest = reached_push ws w reached.0 c reached.2 in
    (rest.0, (reached.0, reached.1, rest.1), rest.2)

pub laid_all-push : (ws : List Write) (w : Write) (areas : Areas) → laid_all (ws ++ w ∷ []) areas ≡ laid w (laid_all ws areas)
laid_all-push [] w areas = refl
laid_all-push (v ∷ ws) w areas = laid_all-push ws w (laid v areas)

-- what a filled part makes of the whole list
pub filled_part : (at n byte : ℕ) (xs ys : List ℕ) → at + n ≤ length xs → ys ≡ replicate n byte → put_mid at (at + n - at) xs ys ≡ overwritten at (replicate n byte) xs
filled_part at n byte xs ys within is =
    let size : length ys ≡ n = ap (λ (l : List ℕ). length l) is ∙ length-replicate {A = ℕ} n byte in
    let whole = put_mid at (at + n - at) xs ys in
    let end : at + length (replicate n byte) ≡ at + n = omega (arith, length-replicate {A = ℕ} n byte) in
    sym (take-append-drop (at + n) whole)
    ∙ ap (λ (l : List ℕ). l ++ drop (at + n) whole) (take-put_mid at (at + n - at) xs ys (at + n) (omega (arith, size)) (omega (arith, within)))
    ∙ ap (λ (l : List ℕ). take at xs ++ ys ++ l) (drop-put_mid at (at + n - at) xs ys (at + n) (omega arith) (omega (arith, within)) (omega (arith, size)))
    ∙ ap (λ (l : List ℕ). take at xs ++ l ++ drop (at + n) xs) is
    ∙ ap (λ k. take at xs ++ replicate n byte ++ drop k xs) (sym end)

-- a slice of a whole vector is written back
pub written_back : (n : ℕ) (ys xs : List ℕ) → length ys ≡ length xs → length xs ≤ n → take n (ys ++ drop (length ys) xs) ≡ ys
written_back n ys xs same within =
    ap (λ (l : List ℕ). take n (ys ++ l)) (drop_all (length ys) xs (omega (arith, same))) ∙ ap (λ (l : List ℕ). take n l) (append-nil ys) ∙ take_all n ys (omega (arith, same, within))

pub length-filled : (at n byte : ℕ) (xs ys : List ℕ) → at + n ≤ length xs → ys ≡ overwritten at (replicate n byte) xs → length ys ≡ length xs
length-filled at n byte xs ys within is =
    let size = ap (λ (l : List ℕ). length l) is ∙ length-overwritten at (replicate n byte) xs (omega (arith, within)) in
    omega (arith, size, length-replicate {A = ℕ} n byte, within)
