-- One record of a list.
use Rattle.std.proofs.Common.{◌≡◌, ℕ, zero, suc, ◌+◌, ◌<◌, List, [], ◌∷◌, ◌++◌, length, map, take, drop, refl, sym, ap, ◌∙◌, arith}
use Rattle.std.proofs.lemmas.List.{length-map}
use Rattle.gate_log.specs.Records.{Record, size_of, head_of, payload_of}
use Rattle.gate_log.specs.Places.{size_in}
use Rattle.delf_recovery.specs.Reading.{record_at}

-- the lengths that the log keeps of record i
pub record Sized (records : List Record) (sizes : List (ℕ × ℕ)) (i : ℕ) : Type 0 where
  pub head : length (head_of records i) ≡ (size_in sizes i).0
  pub payload : length (payload_of records i) ≡ (size_in sizes i).1

sized_here : (rs : List Record) (i : ℕ) → i < length rs → Sized rs (map size_of rs) i
sized_here [] i inside = absurd (omega arith)
sized_here (r ∷ rs) zero inside = record { head = refl; payload = refl }
sized_here (r ∷ rs) (suc i) inside =
    let rest = sized_here rs i (omega arith) in record { head = rest.head; payload = rest.payload }

pub many_records : (rs : List Record) (sizes : List (ℕ × ℕ)) → map size_of rs ≡ sizes → length rs ≡ length sizes
many_records rs sizes sized = omega (arith, ap length sized, length-map rs size_of)

pub sized_at : (rs : List Record) (sizes : List (ℕ × ℕ)) (i : ℕ) → map size_of rs ≡ sizes → i < length sizes → Sized rs sizes i
sized_at rs sizes i sized inside =
    let here = sized_here rs i (omega (arith, many_records rs sizes sized)) in
    record {
      head = here.head ∙ ap (λ (l : List (ℕ × ℕ)). (size_in l i).0) sized;
      payload = here.payload ∙ ap (λ (l : List (ℕ × ℕ)). (size_in l i).1) sized;
    }

one_more : (i : ℕ) → i + 1 ≡ suc i
one_more i = omega arith

-- the records before it, it, and those behind it

split_suc : (rs : List Record) (i : ℕ) → i < length rs → rs ≡ take i rs ++ record_at rs i ∷ drop (suc i) rs
split_suc [] i inside = absurd (omega arith)
split_suc (r ∷ rs) zero inside = refl
split_suc (r ∷ rs) (suc i) inside = ap (λ (l : List Record). r ∷ l) (split_suc rs i (omega arith))

pub split_at : (rs : List Record) (i : ℕ) → i < length rs → rs ≡ take i rs ++ record_at rs i ∷ drop (i + 1) rs
split_at rs i inside = split_suc rs i inside ∙ ap (λ (k : ℕ). take i rs ++ record_at rs i ∷ drop k rs) (sym (one_more i))

front_suc : (rs : List Record) (i : ℕ) → i < length rs → take (suc i) rs ≡ take i rs ++ record_at rs i ∷ []
front_suc [] i inside = absurd (omega arith)
front_suc (r ∷ rs) zero inside = refl
front_suc (r ∷ rs) (suc i) inside = ap (λ (l : List Record). r ∷ l) (front_suc rs i (omega arith))

pub next_front : (rs : List Record) (i : ℕ) → i < length rs → take (i + 1) rs ≡ take i rs ++ record_at rs i ∷ []
next_front rs i inside = ap (λ (k : ℕ). take k rs) (one_more i) ∙ front_suc rs i inside

sizes_suc : (sizes : List (ℕ × ℕ)) (i : ℕ) → i < length sizes → take (suc i) sizes ≡ take i sizes ++ size_in sizes i ∷ []
sizes_suc [] i inside = absurd (omega arith)
sizes_suc (s ∷ sizes) zero inside = refl
sizes_suc (s ∷ sizes) (suc i) inside = ap (λ (l : List (ℕ × ℕ)). s ∷ l) (sizes_suc sizes i (omega arith))

pub next_sizes : (sizes : List (ℕ × ℕ)) (i : ℕ) → i < length sizes → take (i + 1) sizes ≡ take i sizes ++ size_in sizes i ∷ []
next_sizes sizes i inside = ap (λ (k : ℕ). take k sizes) (one_more i) ∙ sizes_suc sizes i inside
