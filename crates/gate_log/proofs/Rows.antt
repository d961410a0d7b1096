-- Records one after another: where they end, and one more behind them.
use Rattle.std.proofs.Common.{◌≡◌, inl, inr, ⊎_elim, ℕ, ◌+◌, ◌<◌, List, [], ◌∷◌, ◌++◌, length, map, refl, sym, ◌∙◌, ap, subst, arith, append_assoc, length-append}
use Rattle.std.proofs.lemmas.List.{map-append}
use Rattle.std.specs.Int.{w16, w32, to_be_bytes}
use Rattle.delf_disk.specs.declared.area.Area.{Area}
use Rattle.delf_disk.specs.Areas.{Areas, area_of}
use Rattle.gate_log.specs.Records.{Record, size_of, body, spelled, IsBounded, AreBounded}
use Rattle.gate_log.specs.Logs.{Log, Stands, StandIn}
use Rattle.gate_log.specs.Steps.{MayAdd, Adds}
use Rattle.gate_log.specs.Gates.{Shut, Open, ShutIn, MayOpen, Opens}
use Rattle.gate_log.specs.Places.{end_from, gates_from}

pub length-body : (head payload : List ℕ) → length (body head payload) ≡ 6 + length head + length payload
unfolding body
length-body head payload =
    omega (
      arith,
      length-append (to_be_bytes w32 (2 + length head + length payload) ++ to_be_bytes w16 (length head) ++ head) payload,
      length-append (to_be_bytes w32 (2 + length head + length payload) ++ to_be_bytes w16 (length head)) head,
    )

pub spelled-append : (rs ss : List Record) → spelled (rs ++ ss) ≡ spelled rs ++ spelled ss
spelled-append [] ss = refl
spelled-append (r ∷ rs) ss =
    ap (λ (l : List ℕ). 165 ∷ l) (ap (λ (l : List ℕ). body r.head r.payload ++ l) (spelled-append rs ss) ∙ sym (append_assoc (body r.head r.payload) (spelled rs) (spelled ss)))

-- one record more, and what stands behind it
pub spelled-push : (rs : List Record) (r : Record) (rest : List ℕ) → spelled (rs ++ r ∷ []) ++ rest ≡ spelled rs ++ 165 ∷ (body r.head r.payload ++ rest)
spelled-push rs r rest =
    ap (λ (l : List ℕ). l ++ rest) (spelled-append rs (r ∷ []))
    ∙ append_assoc (spelled rs) (165 ∷ (body r.head r.payload ++ [])) rest
    ∙ ap (λ (l : List ℕ). spelled rs ++ 165 ∷ l) (append_assoc (body r.head r.payload) [] rest)

pub length-spelled : (rs : List Record) (at : ℕ) → at + length (spelled rs) ≡ end_from at (map size_of rs)
length-spelled [] at = omega arith
length-spelled (r ∷ rs) at =
    let more = length-spelled rs (at + 7 + length r.head + length r.payload) in
    let sum : at + length (spelled (r ∷ rs)) ≡ at + 7 + length r.head + length r.payload + length (spelled rs) = omega (arith, length-append (body r.head r.payload) (spelled rs), length-body r.head r.payload) in
    sum ∙ more

pub end_from-push : (sizes : List (ℕ × ℕ)) (size : ℕ × ℕ) (at : ℕ) → end_from at (sizes ++ size ∷ []) ≡ end_from at sizes + 7 + size.0 + size.1
end_from-push [] size at = refl
end_from-push (s ∷ sizes) size at = end_from-push sizes size (at + 7 + s.0 + s.1)

pub gates_from-push : (sizes : List (ℕ × ℕ)) (size : ℕ × ℕ) (at : ℕ) → gates_from at (sizes ++ size ∷ []) ≡ gates_from at sizes ++ end_from at sizes ∷ []
gates_from-push [] size at = refl
gates_from-push (s ∷ sizes) size at = ap (λ (l : List ℕ). at ∷ l) (gates_from-push sizes size (at + 7 + s.0 + s.1))

pub bounded-push : (rs : List Record) (r : Record) → AreBounded rs → IsBounded r.head r.payload → AreBounded (rs ++ r ∷ [])
bounded-push [] r fits one = (one, tt)
bounded-push (s ∷ rs) r fits one = (fits.0, bounded-push rs r fits.1 one)

-- what stands before the closed gate of a log
abbrev pub front_of : List ℕ → List Record → List ℕ
front_of mark rs = mark ++ spelled rs

module _ (mark : List ℕ) (rs : List Record) where
  pub length-front : length mark ≡ 8 → length (front_of mark rs) ≡ end_from 8 (map size_of rs)
  length-front eight = length-append mark (spelled rs) ∙ ap (λ (k : ℕ). k + length (spelled rs)) eight ∙ length-spelled rs 8

  -- its closed gate is closed
  pub log_shut : (sizes : List (ℕ × ℕ)) (gate : ℕ) (bytes : List ℕ) → map size_of rs ≡ sizes → gate ≡ end_from 8 sizes → Log mark rs bytes → Shut gate (front_of mark rs) bytes
  log_shut sizes gate bytes sized place log = record {
    place = length-front log.eight ∙ ap (λ (l : List (ℕ × ℕ)). end_from 8 l) sized ∙ sym place;
    value = log.gate;
    closed = log.closed;
    tail = log.tail;
    split = log.split;
  }

  pub shut_log : (gate : ℕ) (bytes new : List ℕ) → Log mark rs bytes → Shut gate (front_of mark rs) new → Log mark rs new
  shut_log gate bytes new log shut = record {
    eight = log.eight;
    bounded = log.bounded;
    gate = shut.value;
    closed = shut.closed;
    tail = shut.tail;
    split = shut.split;
  }

  -- open, with a record's line behind it, it is the gate of that record
  abbrev pub open_log : (r : Record) (bytes new : List ℕ) → Log mark rs bytes → IsBounded r.head r.payload → Open (front_of mark rs) (body r.head r.payload ++ 0 ∷ []) new → Log mark (rs ++ r ∷ []) new
  open_log r bytes new log one opened = record {
    eight = log.eight;
    bounded = bounded-push rs r log.bounded one;
    gate = 0;
    closed = omega arith;
    tail = opened.tail;
    split = opened.split
        ∙ ap (λ (l : List ℕ). front_of mark rs ++ 165 ∷ l) (append_assoc (body r.head r.payload) (0 ∷ []) opened.tail)
        ∙ append_assoc mark (spelled rs) (165 ∷ (body r.head r.payload ++ 0 ∷ opened.tail))
        ∙ ap (λ (l : List ℕ). mark ++ l) (sym (spelled-push rs r (0 ∷ opened.tail)))
        ∙ sym (append_assoc mark (spelled (rs ++ r ∷ [])) (0 ∷ opened.tail));
  }

-- the condition of a commit, from that of an append
pub stand_shut : (area : Area) (sizes : List (ℕ × ℕ)) (gate : ℕ) (images : Areas → Type 0) → gate ≡ end_from 8 sizes → StandIn area sizes images → ShutIn area gate images
stand_shut area sizes gate images place stands c image =
    let s = stands c image in
    record { front = front_of s.mark s.records; shut = log_shut s.mark s.records sizes gate (area_of area c) s.sized place s.log }

module _ (area : Area) (sizes : List (ℕ × ℕ)) (gate : ℕ) (head payload line : List ℕ) (place : gate ≡ end_from 8 sizes) (is : line ≡ body head payload ++ 0 ∷ []) (fits : IsBounded head payload) where
  pub may_add : (old new : Areas) → MayOpen area gate line old new → MayAdd area sizes head payload old new
  may_add old new opens = record {
    other = opens.other;
    here = λ mark rs sized log.
        ⊎_elim (λ shut. inl (shut_log mark rs gate (area_of area old) (area_of area new) log shut))
        (λ opened. inr (open_log mark rs (record { head = head; payload = payload }) (area_of area old) (area_of area new) log fits (subst (λ (l : List ℕ). Open (front_of mark rs) l (area_of area new)) is opened)))
        (opens.here (front_of mark rs) (log_shut mark rs sizes gate (area_of area old) sized place log));
  }

  pub adds : (old new : Areas) → Opens area gate line old new → Adds area sizes head payload old new
  adds old new opens = record {
    other = opens.other;
    here = λ mark rs sized log.
        open_log mark rs (record { head = head; payload = payload }) (area_of area old) (area_of area new) log fits
        (subst (λ (l : List ℕ). Open (front_of mark rs) l (area_of area new)) is (opens.here (front_of mark rs) (log_shut mark rs sizes gate (area_of area old) sized place log)));
    gate_written = λ mark rs sized log. refl;
  }

-- an image after an append at Ok
pub added_stands : (area : Area) (sizes : List (ℕ × ℕ)) (head payload : List ℕ) (old new : Areas) → Adds area sizes head payload old new → Stands area sizes old → Stands area (sizes ++ (length head, length payload) ∷ []) new
added_stands area sizes head payload old new adds s = record {
  mark = s.mark;
  records = s.records ++ record { head = head; payload = payload } ∷ [];
  sized = map-append size_of s.records (record { head = head; payload = payload } ∷ []) ∙ ap (λ (l : List (ℕ × ℕ)). l ++ (length head, length payload) ∷ []) s.sized;
  log = adds.here s.mark s.records s.sized s.log;
}

-- the closed gate stands within the area
pub log_longer : (area : Area) (sizes : List (ℕ × ℕ)) (areas : Areas) → Stands area sizes areas → end_from 8 sizes < length (area_of area areas)
log_longer area sizes areas s =
    omega (arith, ap length s.log.split, length-append (s.mark ++ spelled s.records) (s.log.gate ∷ s.log.tail), length-front s.mark s.records s.log.eight, ap (λ (l : List (ℕ × ℕ)). end_from 8 l) s.sized)
