-- The first line of a document's bytes.
use Rattle.std.proofs.Common.{◌≡◌, ℕ, suc, ◌+◌, ◌<◌, ◌≤◌, false, eqb, List, [], ◌∷◌, ◌++◌, length, take, drop, get_or, refl, sym, ap, ◌∙◌, arith}
use Rattle.std.specs.Str.Lines.{lines, lines_of_parts, strip_carriage_return}
use Rattle.std.specs.List.{slice_split, All, onto_first}
use Rattle.std.proofs.lemmas.List.{drop_more}
use Rattle.std.proofs.lemmas.List.Elements.{All-from_get_or}
use Rattle.std.proofs.lemmas.List.Splits.{slice_split_at, slice_split_none, length-slice_split as length-slice_split-is}
use Rattle.std.proofs.lemmas.Bool.{false_from_ne_true, eqb-true}
use Rattle.std.proofs.Common.{take-append-drop, get_or-take, length-take-le}

-- parts after a first one leave it a whole line
parts_more : (x : List ℕ) (parts : List (List ℕ)) → 0 < length parts → lines_of_parts (x ∷ parts) ≡ strip_carriage_return x ∷ lines_of_parts parts
parts_more x [] some = absurd (omega arith)
parts_more x (y ∷ more) some = refl

length-onto_first : (b : ℕ) (parts : List (List ℕ)) → 0 < length (onto_first b parts)
length-onto_first b [] = omega arith
length-onto_first b (x ∷ more) = omega arith

length-slice_split : (bytes : List ℕ) → 0 < length (slice_split (λ byte. eqb byte 10) bytes)
length-slice_split bytes = omega (arith, length-slice_split-is (λ byte. eqb byte 10) bytes)

pub lines_at : (front rest : List ℕ) → All (λ byte. eqb byte 10 ≡ false) front → lines (front ++ 10 ∷ rest) ≡ strip_carriage_return front ∷ lines rest
lines_at front rest apart = ap lines_of_parts (slice_split_at (λ byte. eqb byte 10) front 10 rest apart refl) ∙ parts_more front _ (length-slice_split rest)

false-eqb-suc : (n : ℕ) → eqb (suc n) 0 ≡ false
false-eqb-suc n = false_from_ne_true _ (λ same. absurd (omega (arith, eqb-true (suc n) 0 same)))

pub lines_last : (line : List ℕ) → 0 < length line → All (λ byte. eqb byte 10 ≡ false) line → lines line ≡ line ∷ []
lines_last [] some apart = absurd (omega arith)
lines_last (byte ∷ line) some apart = ap lines_of_parts (slice_split_none (λ b. eqb b 10) (byte ∷ line) apart) ∙ rw (false-eqb-suc (length line)) refl

apart_before : (bytes : List ℕ) (n : ℕ) → n ≤ length bytes → ((k : ℕ) → k < n → get_or bytes k 0 ≡ 10 → ⊥) → All (λ byte. eqb byte 10 ≡ false) (take n bytes)
apart_before bytes n within apart =
    All-from_get_or (λ byte. eqb byte 10 ≡ false) (take n bytes) 0
    (λ i lt. let k : i < n = omega (arith, length-take-le n bytes within) in rw get_or-take (false_from_ne_true _ (λ same. apart i k (eqb-true _ 10 same))))

-- the line before the first LF
pub lines_cut : (bytes : List ℕ) (n : ℕ) → n < length bytes → get_or bytes n 0 ≡ 10 → ((k : ℕ) → k < n → get_or bytes k 0 ≡ 10 → ⊥) → lines bytes ≡ strip_carriage_return (take n bytes) ∷ lines (drop (n + 1) bytes)
lines_cut bytes n within is apart =
    let rest : drop n bytes ≡ 10 ∷ drop (n + 1) bytes = drop_more bytes n 0 within ∙ ap (λ b. b ∷ drop (n + 1) bytes) is in
    let whole : take n bytes ++ 10 ∷ drop (n + 1) bytes ≡ bytes = ap (λ (l : List ℕ). take n bytes ++ l) (sym rest) ∙ take-append-drop n bytes in
    ap lines (sym whole) ∙ lines_at (take n bytes) (drop (n + 1) bytes) (apart_before bytes n (omega arith) apart)

-- a last line without LF
pub lines_rest : (bytes : List ℕ) → 0 < length bytes → ((k : ℕ) → k < length bytes → get_or bytes k 0 ≡ 10 → ⊥) → lines bytes ≡ bytes ∷ []
lines_rest bytes some apart = lines_last bytes some (All-from_get_or (λ byte. eqb byte 10 ≡ false) bytes 0 (λ i lt. false_from_ne_true _ (λ same. apart i lt (eqb-true _ 10 same))))
