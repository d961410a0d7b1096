-- An area that stands for records is a log by its bytes alone, and the other way round.
use Rattle.std.proofs.Common.{◌≡◌, ◌≢◌, ℕ, ◌+◌, ◌≤◌, ◌^◌, Bool, true, false, cond, eqb, ltb, leb, List, [], ◌∷◌, ◌++◌, length, take, drop, refl, sym, ap, ◌∙◌, subst, arith, length-append}
use Rattle.std.proofs.lemmas.Bool.{and_parts, and_from, ltb-true, lt-ltb, leb-true, ne_eqb, not-true, not_from_false, false≢true, eq-eqb}
use Rattle.std.proofs.lemmas.List.{take_at, drop_at, take-append-drop}
use Rattle.std.specs.Prelude.{IsTrue}
use Rattle.std.specs.List.{list_all}
use Rattle.gate_log.specs.Records.{Record, spelled, AreBounded}
use Rattle.gate_log.specs.Logs.{Log, records}
use Rattle.gate_log.proofs.Uniqueness.{records-log}
use Rattle.store_laws.specs.Logged.{held, behind, is_shut, fits_lengths, IsLog}

bounded_test : (rs : List Record) → AreBounded rs → list_all fits_lengths rs ≡ true
bounded_test [] fits = refl
bounded_test (r ∷ rs) fits =
    and_from (fits_lengths r) (list_all fits_lengths rs)
    (and_from (ltb (length r.head) (2 ^ 16)) (ltb (2 + length r.head + length r.payload) (2 ^ 32)) (lt-ltb _ _ fits.0.head_length) (lt-ltb _ _ fits.0.body_length))
    (bounded_test rs fits.1)

test_bounded : (rs : List Record) → list_all fits_lengths rs ≡ true → AreBounded rs
test_bounded [] passes = tt
test_bounded (r ∷ rs) passes =
    let parts = and_parts (fits_lengths r) (list_all fits_lengths rs) passes in
    let both = and_parts (ltb (length r.head) (2 ^ 16)) (ltb (2 + length r.head + length r.payload) (2 ^ 32)) parts.0 in
    (record { head_length = ltb-true _ _ both.0; body_length = ltb-true _ _ both.1 }, test_bounded rs parts.1)

-- nine bytes hold no record
few : (mark : List ℕ) (rs : List Record) (bytes : List ℕ) → Log mark rs bytes → length bytes ≤ 9 → [] ≡ rs
few mark [] bytes log small = refl
few mark (r ∷ rs) bytes log small =
    absurd (omega (arith, small, log.eight, ap length log.split, length-append (mark ++ spelled (r ∷ rs)) (log.gate ∷ log.tail), length-append mark (spelled (r ∷ rs))))

pub held_log : (mark : List ℕ) (rs : List Record) (bytes : List ℕ) → Log mark rs bytes → held bytes ≡ rs
held_log mark rs bytes log = by_size (leb (length bytes) 9) refl
  where
    by_size : (b : Bool) → leb (length bytes) 9 ≡ b → cond b [] (records bytes) ≡ rs
    by_size true is = few mark rs bytes log (leb-true (length bytes) 9 is)
    by_size false is = records-log mark rs bytes log

log_at : (mark : List ℕ) (rs : List Record) (bytes : List ℕ) → Log mark rs bytes → held bytes ≡ rs → IsLog mark bytes
log_at mark rs bytes log is = record {
  eight = log.eight;
  bounded = subst (λ (l : List Record). IsTrue (list_all fits_lengths l)) (sym is) (bounded_test rs log.bounded);
  front = subst (λ (l : List Record). take (8 + length (spelled l)) bytes ≡ mark ++ spelled l) (sym is)
      (ap (λ (l : List ℕ). take (8 + length (spelled rs)) l) log.split ∙ take_at (mark ++ spelled rs) (log.gate ∷ log.tail) (8 + length (spelled rs)) long);
  shut = subst (λ (l : List Record). IsTrue (is_shut (drop (8 + length (spelled l)) bytes))) (sym is)
      (ap (λ (l : List ℕ). is_shut (drop (8 + length (spelled rs)) l)) log.split ∙
      (ap is_shut (drop_at (mark ++ spelled rs) (log.gate ∷ log.tail) (8 + length (spelled rs)) long) ∙ not_from_false (eqb log.gate 165) (ne_eqb log.gate 165 log.closed)));
}
  where
    long : length (mark ++ spelled rs) ≡ 8 + length (spelled rs)
    long = omega (arith, log.eight, length-append mark (spelled rs))

pub told_log : (mark : List ℕ) (rs : List Record) (bytes : List ℕ) → Log mark rs bytes → IsLog mark bytes × (held bytes ≡ rs)
told_log mark rs bytes log = (log_at mark rs bytes log (held_log mark rs bytes log), held_log mark rs bytes log)

-- what stands behind begins with a closed gate
record Closed (bytes : List ℕ) : Type 0 where
  gate : ℕ
  closed : gate ≢ 165
  tail : List ℕ
  is : bytes ≡ gate ∷ tail

closed_of : (bytes : List ℕ) → is_shut bytes ≡ true → Closed bytes
closed_of [] shut = absurd (false≢true shut)
closed_of (gate ∷ tail) shut = record {
  gate = gate;
  closed = λ same. false≢true (sym (not-true (eqb gate 165) shut) ∙ eq-eqb gate 165 same);
  tail = tail;
  is = refl;
}

pub log_told : (mark bytes : List ℕ) → IsLog mark bytes → Log mark (held bytes) bytes
log_told mark bytes log =
    let closed = closed_of (behind bytes) log.shut in
    record {
      eight = log.eight;
      bounded = test_bounded (held bytes) log.bounded;
      gate = closed.gate;
      closed = closed.closed;
      tail = closed.tail;
      split = sym (take-append-drop (8 + length (spelled (held bytes))) bytes) ∙
          (ap (λ (l : List ℕ). l ++ behind bytes) log.front ∙ ap (λ (l : List ℕ). (mark ++ spelled (held bytes)) ++ l) closed.is);
    }
