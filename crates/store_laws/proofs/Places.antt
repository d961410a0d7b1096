-- Payloads in longer lists of records, and in ones with a payload replaced.
use Rattle.std.proofs.Common.{◌≡◌, ℕ, zero, suc, ◌<◌, List, [], ◌∷◌, ◌++◌, length, refl, ap, arith}
use Rattle.std.specs.Prelude.{map}
use Rattle.gate_log.specs.Records.{Record, payload_of, replaced}
use Rattle.store_laws.specs.Stores.{length_in}

pub payload_inside : (xs ys : List Record) (i : ℕ) → i < length xs → payload_of (xs ++ ys) i ≡ payload_of xs i
payload_inside [] ys i within = absurd (omega (arith, within))
payload_inside (x ∷ xs) ys zero within = refl
payload_inside (x ∷ xs) ys (suc i) within = payload_inside xs ys i (omega (arith, within))

pub payload_behind : (xs ys : List Record) (i : ℕ) → i ≡ length xs → payload_of (xs ++ ys) i ≡ payload_of ys 0
payload_behind [] ys i is = ap (payload_of ys) is
payload_behind (x ∷ xs) ys zero is = absurd (omega (arith, is))
payload_behind (x ∷ xs) ys (suc i) is = payload_behind xs ys i (omega (arith, is))

pub replaced_other : (xs : List Record) (i : ℕ) (payload : List ℕ) (j : ℕ) → (j ≡ i → ⊥) → payload_of (replaced xs i payload) j ≡ payload_of xs j
replaced_other [] i payload j apart = refl
replaced_other (x ∷ xs) zero payload zero apart = absurd (apart refl)
replaced_other (x ∷ xs) zero payload (suc j) apart = refl
replaced_other (x ∷ xs) (suc i) payload zero apart = refl
replaced_other (x ∷ xs) (suc i) payload (suc j) apart = replaced_other xs i payload j (λ same. apart (ap (λ (n : ℕ). suc n) same))

pub replaced_here : (xs : List Record) (i : ℕ) (payload : List ℕ) → i < length xs → payload_of (replaced xs i payload) i ≡ payload
replaced_here [] i payload within = absurd (omega (arith, within))
replaced_here (x ∷ xs) zero payload within = refl
replaced_here (x ∷ xs) (suc i) payload within = replaced_here xs i payload (omega (arith, within))

pub replaced_heads : {A : Type 0} (f : List ℕ → A) (xs : List Record) (i : ℕ) (payload : List ℕ) → map (λ (r : Record). f r.head) (replaced xs i payload) ≡ map (λ (r : Record). f r.head) xs
replaced_heads {A = A} f [] i payload = refl
replaced_heads {A = A} f (x ∷ xs) zero payload = refl
replaced_heads {A = A} f (x ∷ xs) (suc i) payload = ap (λ (l : List A). f x.head ∷ l) (replaced_heads f xs i payload)

pub replaced_lengths : (xs : List Record) (i : ℕ) (payload : List ℕ) → length payload ≡ length (payload_of xs i) → map length_in (replaced xs i payload) ≡ map length_in xs
replaced_lengths [] i payload same = refl
replaced_lengths (x ∷ xs) zero payload same = ap (λ (n : ℕ). n ∷ map length_in xs) same
replaced_lengths (x ∷ xs) (suc i) payload same = ap (λ (l : List ℕ). length x.payload ∷ l) (replaced_lengths xs i payload same)

pub replaced_length : (xs : List Record) (i : ℕ) (payload : List ℕ) → length (replaced xs i payload) ≡ length xs
replaced_length [] i payload = refl
replaced_length (x ∷ xs) zero payload = refl
replaced_length (x ∷ xs) (suc i) payload = ap (λ (n : ℕ). suc n) (replaced_length xs i payload)
