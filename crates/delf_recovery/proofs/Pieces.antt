-- What is left of bytes that were read ahead.
use Rattle.std.proofs.Common.{◌≡◌, ℕ, ◌+◌, ◌-◌, ◌≤◌, List, [], ◌++◌, length, take, drop, sym, ◌∙◌, ap, subst, arith, length-drop, length-take, take-append-drop}
use Rattle.std.proofs.lemmas.List.{take-take, take_at, drop-drop, drop-take, drop_all, append-nil}
use Rattle.std.specs.Prelude.{Result, Ok, Err, OnOk}
use Rattle.delf_disk.specs.declared.area.Area.{Area}
use Rattle.delf_disk.specs.Areas.{Areas, area_of}
use Rattle.delf_disk.specs.Images.{overwritten, Written}
use Rattle.delf_disk.proofs.Writes.{written_is_torn}
use Rattle.delf_recovery.specs.Stretches.{Stretch, IsPartOf}

-- a part of the front
within_front : (n k m : ℕ) (xs : List ℕ) → k + n ≤ m → take n (drop k (take m xs)) ≡ take n (drop k xs)
within_front n k m xs few =
    let r = m - k in
    let sum : k + r ≡ m = omega arith in
    let few_left : n ≤ r = omega arith in
    ap (λ j. take n (drop k (take j xs))) (sym sum) ∙ ap (λ (l : List ℕ). take n l) (drop-take k r xs) ∙ take-take n r (drop k xs) few_left

-- so many bytes, those from place p on, stand in a buffer from one index to another
module _ (whole buffer : List ℕ) (start end p : ℕ) (fits : end ≤ length buffer) (order : start ≤ end) where
  pub length-part : length (take (end - start) (drop start buffer)) ≡ end - start
  length-part = omega (arith, length-take (end - start) (drop start buffer), length-drop start buffer)

  pub given : (n k : ℕ) → k + n ≤ end - start
      → take (end - start) (drop start buffer) ≡ take (length (take (end - start) (drop start buffer))) (drop p whole)
      → take n (drop (start + k) buffer) ≡ take n (drop (p + k) whole)
  given n k few is =
      let m = end - start in
      let xs = drop start buffer in
      let is_m : take m xs ≡ take m (drop p whole) = is ∙ ap (λ j. take j (drop p whole)) length-part in
      ap (λ (l : List ℕ). take n l) (sym (drop-drop k start buffer))
      ∙ sym (within_front n k m xs few)
      ∙ ap (λ (l : List ℕ). take n (drop k l)) is_m
      ∙ within_front n k m (drop p whole) few
      ∙ ap (λ (l : List ℕ). take n l) (drop-drop k p whole)

-- bytes behind a write are as they were
behind_write : (at e : ℕ) (bytes old new : List ℕ) → at + length bytes ≤ e → at ≤ length old → new ≡ overwritten at bytes old → drop e new ≡ drop e old
behind_write at e bytes old new few within is =
    let j = e - (at + length bytes) in
    let sum : at + length bytes + j ≡ e = omega arith in
    let above = (written_is_torn at bytes old within).above in
    ap (λ (l : List ℕ). drop e l) is
    ∙ subst (λ k. drop k (overwritten at bytes old) ≡ drop k old) sum
    (sym (drop-drop j (at + length bytes) (overwritten at bytes old)) ∙ ap (λ (l : List ℕ). drop j l) above ∙ drop-drop j (at + length bytes) old)

-- a write that ends before a stretch leaves it as it is
pub passed_before : (stretch : Stretch) (area : Area) (e : ℕ) → area ≡ stretch.area → e ≤ stretch.at → (at : ℕ) (bytes : List ℕ) (old new : Areas)
    → at + length bytes ≤ e → at ≤ length (area_of area old) → Written area at bytes old new → IsPartOf stretch old → IsPartOf stretch new
passed_before stretch area e same early at bytes old new few within written is =
    let few_at : at + length bytes ≤ stretch.at = omega (arith, few, early) in
    is ∙ ap (λ (l : List ℕ). take (length stretch.bytes) l) (sym (subst (λ a. drop stretch.at (area_of a new) ≡ drop stretch.at (area_of a old)) same
    (behind_write at stretch.at bytes (area_of area old) (area_of area new) few_at within written.here)))

-- what stands behind a write is left of one that it reaches into
pub passed_into : (buffer : List ℕ) (area : Area) (start end p e : ℕ) → end ≤ length buffer → start ≤ end → p ≤ e → e - p ≤ end - start
    → (at : ℕ) (bytes : List ℕ) (old new : Areas) → at + length bytes ≤ e → at ≤ length (area_of area old) → Written area at bytes old new
    → IsPartOf (record { area = area; at = p; bytes = take (end - start) (drop start buffer) }) old
    → IsPartOf (record { area = area; at = e; bytes = take (end - (start + (e - p))) (drop (start + (e - p)) buffer) }) new
passed_into buffer area start end p e fits order late few_passed at bytes old new few within written is =
    let k = e - p in
    let n = end - (start + k) in
    let here : p + k ≡ e = omega arith in
    given (area_of area old) buffer start end p fits order n k (omega arith) is
    ∙ ap (λ j. take n (drop j (area_of area old))) here
    ∙ ap (λ (l : List ℕ). take n l) (sym (behind_write at e bytes (area_of area old) (area_of area new) few within written.here))
    ∙ ap (λ j. take j (drop e (area_of area new))) (sym (length-part (area_of area new) buffer (start + k) end e fits (omega arith)))

-- a stretch that was just read
pub loaded : (buffer whole : List ℕ) (at n : ℕ) → n ≤ length buffer → take n buffer ≡ take n (drop at whole)
    → take n buffer ≡ take (length (take n buffer)) (drop at whole)
loaded buffer whole at n fits is = is ∙ ap (λ j. take j (drop at whole)) (sym (omega (arith, length-take n buffer)))

-- the front of a buffer that bytes of a stretch were copied to
pub copied : (buffer front rest : List ℕ) (a area : Area) (start end p at n : ℕ) → a ≡ area → end ≤ length buffer → start ≤ end → p ≤ at → at - p + n ≤ end - start
    → front ≡ take n (drop (start + (at - p)) buffer) → (areas : Areas)
    → IsPartOf (record { area = area; at = p; bytes = take (end - start) (drop start buffer) }) areas
    → take n (front ++ rest) ≡ take n (drop at (area_of a areas))
copied buffer front rest a area start end p at n same fits order late few is areas part =
    let k = at - p in
    let here : p + k ≡ at = omega arith in
    let long : length front ≡ n = ap length is ∙ omega (arith, length-take n (drop (start + k) buffer), length-drop (start + k) buffer) in
    take_at front rest n long ∙ is
    ∙ given (area_of area areas) buffer start end p fits order n k few part
    ∙ ap (λ j. take n (drop j (area_of area areas))) here
    ∙ ap (λ b. take n (drop at (area_of b areas))) (sym same)

-- two parts of what is read
pub joined : (n len at : ℕ) (buf rest whole : List ℕ) → length buf ≡ len → n ≤ len
    → take n buf ≡ take n (drop at whole) → rest ≡ take (length (take (length buf - n) (drop n buf))) (drop (at + n) whole)
    → take n buf ++ (rest ++ drop (length buf - n) (drop n buf)) ≡ take len (drop at whole)
joined n len at buf rest whole long few first second =
    let k = length buf - n in
    let xs = drop at whole in
    let sum : n + k ≡ len = omega (arith, long) in
    let nothing : drop k (drop n buf) ≡ [] = drop_all k (drop n buf) (omega (arith, length-drop n buf)) in
    let many : length (take k (drop n buf)) ≡ k = omega (arith, length-take k (drop n buf), length-drop n buf) in
    let behind : drop n (take len xs) ≡ rest = ap (λ j. drop n (take j xs)) (sym sum) ∙ drop-take n k xs ∙ ap (λ (l : List ℕ). take k l) (drop-drop n at whole) ∙ ap (λ j. take j (drop (at + n) whole)) (sym many) ∙ sym second in
    let front : take n (take len xs) ≡ take n buf = take-take n len xs few ∙ sym first in
    ap (λ (l : List ℕ). take n buf ++ (rest ++ l)) nothing
    ∙ ap (λ (l : List ℕ). take n buf ++ l) (append-nil rest)
    ∙ ap (λ (l : List ℕ). l ++ rest) (sym front)
    ∙ ap (λ (l : List ℕ). take n (take len xs) ++ l) (sym behind)
    ∙ take-append-drop n (take len xs)

-- what is shown of an Ok
pub on_ok : {T E : Type 0} {P Q : Type 0} (result : Result T E) → OnOk result P → (P → Q) → OnOk result Q
on_ok (Ok x) p goes = goes p
on_ok (Err e) p goes = p
