-- What the last gate of a log, closed, and zeros behind its closed gate make of it.
use Rattle.std.proofs.Common.{◌≡◌, inl, inr, ℕ, suc, ◌+◌, ◌-◌, ◌<◌, List, [], ◌∷◌, ◌++◌, length, map, take, drop, replicate, refl, sym, ◌∙◌, ap, subst, arith, append_assoc, length-append}
use Rattle.std.proofs.lemmas.Bool.{cases_eq}
use Rattle.std.proofs.lemmas.List.{take_at, drop_all, append-nil, map-append, length-replicate}
use Rattle.delf_disk.specs.declared.area.Area.{Area}
use Rattle.delf_disk.specs.Areas.{Areas, area_of}
use Rattle.delf_disk.specs.Images.{overwritten, TornAt, Torn, Written}
use Rattle.delf_disk.proofs.Writes.{torn_split, written_split}
use Rattle.gate_log.specs.Records.{Record, size_of, body, spelled, AreBounded}
use Rattle.gate_log.specs.Logs.{Log, Stands}
use Rattle.gate_log.specs.Gates.{MayChange, Closes}
use Rattle.gate_log.specs.Places.{end_from}
use Rattle.gate_log.specs.Steps.{MayDrop, Drops, MaySettle, Settles}
use Rattle.gate_log.proofs.Rows.{spelled-push, length-front}

pub take_front : (xs ys : List (ℕ × ℕ)) (x : ℕ × ℕ) → ys ≡ xs ++ x ∷ [] → take (length ys - 1) ys ≡ xs
take_front xs ys x is =
    let short : length ys - 1 ≡ length xs = omega (arith, ap length is, length-append xs (x ∷ [])) in
    ap (λ (k : ℕ). take k ys) short ∙ ap (λ (l : List (ℕ × ℕ)). take (length xs) l) is ∙ take_at xs (x ∷ []) (length xs) refl

bounded_front : (rs : List Record) (last : Record) → AreBounded (rs ++ last ∷ []) → AreBounded rs
bounded_front [] last fits = tt
bounded_front (r ∷ rs) last fits = (fits.0, bounded_front rs last fits.1)

-- the last record, behind its gate
last_split : (mark : List ℕ) (rs : List Record) (last : Record) (rest : List ℕ) → mark ++ spelled (rs ++ last ∷ []) ++ rest ≡ mark ++ spelled rs ++ 165 ∷ (body last.head last.payload ++ rest)
last_split mark rs last rest =
    append_assoc mark (spelled (rs ++ last ∷ [])) rest ∙ ap (λ (l : List ℕ). mark ++ l) (spelled-push rs last rest) ∙ sym (append_assoc mark (spelled rs) (165 ∷ (body last.head last.payload ++ rest)))

module _ (area : Area) (sizes : List (ℕ × ℕ)) (gate : ℕ) (place : gate ≡ end_from 8 (take (length sizes - 1) sizes)) where
  last_place : (mark : List ℕ) (rs : List Record) (last : Record) → map size_of (rs ++ last ∷ []) ≡ sizes → length mark ≡ 8 → length (mark ++ spelled rs) ≡ gate
  last_place mark rs last sized eight =
      let front = take_front (map size_of rs) sizes (size_of last) (sym sized ∙ map-append size_of rs (last ∷ [])) in
      length-front mark rs eight ∙ ap (λ (l : List (ℕ × ℕ)). end_from 8 l) (sym front) ∙ sym place

  pub may_drop : (old new : Areas) → MayChange area gate old new → MayDrop area sizes old new
  may_drop old new change = record {
    other = change.other;
    here = λ mark rs last sized log.
        let back = body last.head last.payload ++ log.gate ∷ log.tail in
        let v = change.here (mark ++ spelled rs) 165 back (last_place mark rs last sized log.eight) (log.split ∙ last_split mark rs last (log.gate ∷ log.tail)) in
        elim (cases_eq v.0 165) [
          | inl opened ↦ inl (record {
            eight = log.eight;
            bounded = log.bounded;
            gate = log.gate;
            closed = log.closed;
            tail = log.tail;
            split = v.1 ∙ ap (λ (k : ℕ). mark ++ spelled rs ++ k ∷ back) opened ∙ sym (last_split mark rs last (log.gate ∷ log.tail));
          })
          | inr shut ↦ inr (record {
            eight = log.eight;
            bounded = bounded_front rs last log.bounded;
            gate = v.0;
            closed = shut;
            tail = back;
            split = v.1;
          })
        ];
  }

  pub drops : (old new : Areas) → Closes area gate old new → Drops area sizes old new
  drops old new closes = record {
    other = closes.other;
    here = λ mark rs last sized log.
        let back = body last.head last.payload ++ log.gate ∷ log.tail in
        record {
          eight = log.eight;
          bounded = bounded_front rs last log.bounded;
          gate = 0;
          closed = omega arith;
          tail = back;
          split = closes.here (mark ++ spelled rs) 165 back (last_place mark rs last sized log.eight) (log.split ∙ last_split mark rs last (log.gate ∷ log.tail));
        };
    gate_written = λ mark rs last sized log. refl;
  }

-- a list that is not empty, as its front and its last
last_of : (rs : List Record) → 0 < length rs → (front : List Record) × (last : Record) × (rs ≡ front ++ last ∷ [])
last_of [] some = absurd (omega arith)
last_of (r ∷ []) some = ([], r, refl)
last_of (r ∷ s ∷ rs) some =
    let rest = last_of (s ∷ rs) (omega arith) in
    (r ∷ rest.0, rest.1, ap (λ (l : List Record). r ∷ l) rest.2)

-- an image after a drop at Ok
pub dropped_stands : (area : Area) (sizes : List (ℕ × ℕ)) (old new : Areas) → 0 < length sizes → Drops area sizes old new → Stands area sizes old → Stands area (take (length sizes - 1) sizes) new
dropped_stands area sizes old new some drops s =
    let parts = last_of s.records (omega (arith, ap length s.sized, length-mapped s.records)) in
    let sized : map size_of (parts.0 ++ parts.1 ∷ []) ≡ sizes = ap (λ (l : List Record). map size_of l) (sym parts.2) ∙ s.sized in
    record {
      mark = s.mark;
      records = parts.0;
      sized = sym (take_front (map size_of parts.0) sizes (size_of parts.1) (sym sized ∙ map-append size_of parts.0 (parts.1 ∷ [])));
      log = drops.here s.mark parts.0 parts.1 sized (subst (λ (l : List Record). Log s.mark l (area_of area old)) parts.2 s.log);
    }
  where
    length-mapped : (rs : List Record) → length (map size_of rs) ≡ length rs
    length-mapped [] = refl
    length-mapped (r ∷ rs) = ap suc (length-mapped rs)

-- the bytes of a log up to its closed gate, and those behind it
tail_split : (mark : List ℕ) (rs : List Record) (gate : ℕ) (tail : List ℕ) → mark ++ spelled rs ++ gate ∷ tail ≡ (mark ++ spelled rs ++ gate ∷ []) ++ tail
tail_split mark rs gate tail = sym (append_assoc (mark ++ spelled rs) (gate ∷ []) tail)

module _ (area : Area) (sizes : List (ℕ × ℕ)) (gate : ℕ) (place : gate ≡ end_from 8 sizes) where
  shut_place : (mark : List ℕ) (rs : List Record) (value : ℕ) → map size_of rs ≡ sizes → length mark ≡ 8 → length (mark ++ spelled rs ++ value ∷ []) ≡ gate + 1
  shut_place mark rs value sized eight =
      omega (arith, length-append (mark ++ spelled rs) (value ∷ []), length-front mark rs eight, ap (λ (l : List (ℕ × ℕ)). end_from 8 l) sized, place)

  pub may_settle : (n : ℕ) (old new : Areas) → Torn area (gate + 1) n old new → MaySettle area sizes old new
  may_settle n old new torn = record {
    other = torn.other;
    here = λ mark rs sized log.
        let front = mark ++ spelled rs ++ log.gate ∷ [] in
        let parts = torn_split (gate + 1) n front log.tail (area_of area new) (shut_place mark rs log.gate sized log.eight)
        (subst (λ (l : List ℕ). TornAt (gate + 1) n l (area_of area new)) (log.split ∙ tail_split mark rs log.gate log.tail) torn.here) in (
          record {
            eight = log.eight;
            bounded = log.bounded;
            gate = log.gate;
            closed = log.closed;
            tail = parts.tail;
            split = parts.is ∙ sym (tail_split mark rs log.gate parts.tail);
          },
          refl,
        );
  }

  pub settles : (n : ℕ) (old new : Areas) → n ≡ length (area_of area old) - (gate + 1) → Written area (gate + 1) (replicate n 0) old new → Settles area sizes old new
  settles n old new size written = record {
    other = written.other;
    here = λ mark rs sized log.
        let front = mark ++ spelled rs ++ log.gate ∷ [] in
        let where_shut = shut_place mark rs log.gate sized log.eight in
        let whole = log.split ∙ tail_split mark rs log.gate log.tail in
        let long : length log.tail ≡ n = omega (arith, ap length whole, length-append (mark ++ spelled rs ++ log.gate ∷ []) log.tail, where_shut, size) in
        let none : drop (length (replicate n 0)) log.tail ≡ [] = drop_all (length (replicate n 0)) log.tail (omega (arith, length-replicate {A = ℕ} n 0, long)) in (
          record {
            eight = log.eight;
            bounded = log.bounded;
            gate = log.gate;
            closed = log.closed;
            tail = replicate n 0;
            split = written.here ∙ ap (λ (l : List ℕ). overwritten (gate + 1) (replicate n 0) l) whole ∙ written_split (gate + 1) front log.tail (replicate n 0) where_shut
                ∙ ap (λ (l : List ℕ). front ++ l) (ap (λ (l : List ℕ). replicate n 0 ++ l) none ∙ append-nil (replicate n 0)) ∙ sym (tail_split mark rs log.gate (replicate n 0));
          },
          refl,
          ap (λ (k : ℕ). replicate k 0) (sym long),
        );
  }

-- an image while it is settled, and after
pub settled_stands : (area : Area) (sizes : List (ℕ × ℕ)) (old new : Areas) → MaySettle area sizes old new → Stands area sizes old → Stands area sizes new
settled_stands area sizes old new settle s = record { mark = s.mark; records = s.records; sized = s.sized; log = (settle.here s.mark s.records s.sized s.log).0 }
