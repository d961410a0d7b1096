-- The records at the front of an area, apart at one of them.
use Rattle.std.proofs.Common.{◌≡◌, ℕ, zero, suc, ◌+◌, ◌<◌, ◌≤◌, List, [], ◌∷◌, ◌++◌, length, map, take, drop, refl, sym, ap, ◌∙◌, arith, append_assoc, length-append}
use Rattle.std.specs.Int.{w16, w32, to_be_bytes}
use Rattle.gate_log.specs.Records.{Record, size_of, body, spelled, IsBounded, AreBounded}
use Rattle.gate_log.specs.Places.{gate_from}
use Rattle.gate_log.specs.Opening.{Fits}
use Rattle.opening_laws.specs.Places.{Begins, gate_behind}
use Rattle.opening_laws.proofs.Fronts.{fits_next}
use Rattle.delf_recovery.specs.Reading.{record_at}
use Rattle.delf_recovery.proofs.Records.{split_at}

length-body : (head payload : List ℕ) → length (body head payload) ≡ 6 + length head + length payload
unfolding body
length-body head payload =
    omega (
      arith,
      length-append (to_be_bytes w32 (2 + length head + length payload) ++ to_be_bytes w16 (length head) ++ head) payload,
      length-append (to_be_bytes w32 (2 + length head + length payload) ++ to_be_bytes w16 (length head)) head,
    )

spelled-append : (rs ss : List Record) → spelled (rs ++ ss) ≡ spelled rs ++ spelled ss
spelled-append [] ss = refl
spelled-append (r ∷ rs) ss =
    ap (λ (l : List ℕ). 165 ∷ l) (ap (λ (l : List ℕ). body r.head r.payload ++ l) (spelled-append rs ss) ∙ sym (append_assoc (body r.head r.payload) (spelled rs) (spelled ss)))

-- the gate of a record stands behind those before it
gate_from_at : (rs : List Record) (n at : ℕ) → n ≤ length rs → gate_from at (map size_of rs) n ≡ at + length (spelled (take n rs))
gate_from_at [] zero at inside = omega arith
gate_from_at [] (suc n) at inside = absurd (omega arith)
gate_from_at (r ∷ rs) zero at inside = omega arith
gate_from_at (r ∷ rs) (suc n) at inside =
    let rest = gate_from_at rs n (at + 7 + length r.head + length r.payload) (omega arith) in
    omega (arith, rest, length-append (body r.head r.payload) (spelled (take n rs)), length-body r.head r.payload)

pub gate_place : (rs : List Record) (sizes : List (ℕ × ℕ)) (n : ℕ) → map size_of rs ≡ sizes → n ≤ length rs → gate_from 8 sizes n ≡ gate_behind (take n rs)
gate_place rs sizes n sized inside = ap (λ (l : List (ℕ × ℕ)). gate_from 8 l n) (sym sized) ∙ gate_from_at rs n 8 inside

pub bounded_front : (rs : List Record) (n : ℕ) → AreBounded rs → AreBounded (take n rs)
bounded_front [] zero fits = tt
bounded_front [] (suc n) fits = tt
bounded_front (r ∷ rs) zero fits = tt
bounded_front (r ∷ rs) (suc n) fits = (fits.0, bounded_front rs n fits.1)

bounded_one : (rs : List Record) (n : ℕ) → n < length rs → AreBounded rs → IsBounded (record_at rs n).head (record_at rs n).payload
bounded_one [] n inside fits = absurd (omega arith)
bounded_one (r ∷ rs) zero inside fits = fits.0
bounded_one (r ∷ rs) (suc n) inside fits = bounded_one rs n (omega arith) fits.1

-- record n behind its gate
pub record Stood (mark : List ℕ) (rs : List Record) (bytes : List ℕ) (n : ℕ) : Type 0 where
  pub rest : List ℕ
  pub begins : Begins mark (take n rs) (165 ∷ rest) bytes
  pub fits : Fits (record_at rs n).head (record_at rs n).payload rest

module _ (mark : List ℕ) (rs : List Record) (gate : ℕ) (tail bytes : List ℕ) (longer : 9 < length bytes) (bounded : AreBounded rs) (split : bytes ≡ mark ++ spelled rs ++ gate ∷ tail) where
  pub stood : (n : ℕ) → n < length rs → Stood mark rs bytes n
  stood n inside =
      let r = record_at rs n in
      let others = drop (n + 1) rs in
      let behind = spelled others ++ gate ∷ tail in
      let parts : spelled rs ++ gate ∷ tail ≡ spelled (take n rs) ++ 165 ∷ (body r.head r.payload ++ behind) =
      ap (λ (l : List Record). spelled l ++ gate ∷ tail) (split_at rs n inside) ∙
      (ap (λ (l : List ℕ). l ++ gate ∷ tail) (spelled-append (take n rs) (r ∷ others)) ∙
      (append_assoc (spelled (take n rs)) (spelled (r ∷ others)) (gate ∷ tail) ∙
      ap (λ (l : List ℕ). spelled (take n rs) ++ 165 ∷ l) (append_assoc (body r.head r.payload) (spelled others) (gate ∷ tail)))) in
      record {
        rest = body r.head r.payload ++ behind;
        begins = record {
          longer = longer;
          bounded = bounded_front rs n bounded;
          split = split ∙ (append_assoc mark (spelled rs) (gate ∷ tail) ∙ (ap (λ (l : List ℕ). mark ++ l) parts ∙
              sym (append_assoc mark (spelled (take n rs)) (165 ∷ (body r.head r.payload ++ behind)))));
        };
        fits = fits_next r others gate tail (bounded_one rs n inside bounded);
      }

  pub stood_end : (n : ℕ) → n ≡ length rs → Begins mark (take n rs) (gate ∷ tail) bytes
  stood_end n all = record {
    longer = longer;
    bounded = bounded_front rs n bounded;
    split = split ∙ ap (λ (l : List Record). mark ++ spelled l ++ gate ∷ tail) (sym (take_whole rs n all));
  }
    where
      take_whole : (rs : List Record) (n : ℕ) → n ≡ length rs → take n rs ≡ rs
      take_whole [] zero all = refl
      take_whole [] (suc n) all = absurd (omega arith)
      take_whole (r ∷ rs) zero all = absurd (omega arith)
      take_whole (r ∷ rs) (suc n) all = ap (λ (l : List Record). r ∷ l) (take_whole rs n (omega arith))
