-- Areas that are read up to the first gate that is closed, or behind which there is no record.
use Rattle.std.proofs.Common.{◌≡◌, ℕ, zero, suc, ◌+◌, ◌<◌, ◌≤◌, true, false, List, [], ◌∷◌, ◌++◌, length, take, drop, refl, sym, ◌∙◌, ap, arith, length-append, append-nil, Result, Ok, Err}
use Rattle.std.specs.Prelude.{IfOk, IfErr}
use Rattle.delf_disk.specs.declared.area.Area.{Area}
use Rattle.delf_disk.specs.Areas.{Areas, area_of}
use Rattle.gate_log.specs.declared.fault.LogFault.{LogFault}
use Rattle.gate_log.specs.declared.fault.LogFault.TheVariants.{Failed, NotOurs, Broken, OutOfMemory}
use Rattle.gate_log.specs.declared.scan.Place.{Place}
use Rattle.gate_log.specs.declared.scan.Scan.{Scan}
use Rattle.gate_log.specs.Records.{spelled, head_of}
use Rattle.gate_log.specs.Logs.{Log, Fronts}
use Rattle.gate_log.specs.Steps.{FrontHeadRead}
use Rattle.gate_log.specs.Opening.{BreaksOff, IsBroken}
use Rattle.gate_log.specs.Looking.{Reached, Scanned, ScannedFront}
use Rattle.gate_log.specs.Places.{end_from, gate_from, size_in, sizes_at, AreTied}
use Rattle.gate_log.proofs.Rows.{length-front}
use Rattle.gate_log.proofs.Parts.{head_parts, head_size, inside_log, part_read, regroup}

-- a mark and a closed gate
pub empty_log : (mark bytes : List ℕ) → length mark ≡ 8 → bytes ≡ mark ++ 0 ∷ [] → Log mark [] bytes
empty_log mark bytes eight is = record {
  eight = eight;
  bounded = tt;
  gate = 0;
  closed = omega arith;
  tail = [];
  split = is ∙ ap (λ (l : List ℕ). l ++ 0 ∷ []) (sym (append-nil mark));
}

pub no_sizes : (sizes : List (ℕ × ℕ)) (places : List Place) → sizes ≡ sizes_at places → places ≡ [] → sizes ≡ []
no_sizes sizes places is none = is ∙ ap (λ (l : List Place). sizes_at l) none

broken_off : (mark bytes : List ℕ) (places : List Place) (end : ℕ) → length mark ≡ 8 → AreTied places end → BreaksOff mark (sizes_at places) bytes → IsBroken mark bytes end
broken_off mark bytes places end eight tied off = record {
  longer = off.longer;
  records = off.records;
  bounded = off.bounded;
  rest = off.rest;
  split = off.split;
  place = tied.end_is ∙ (ap (λ (l : List (ℕ × ℕ)). end_from 8 l) (sym off.sized) ∙ sym (length-front mark off.records eight));
  unfit = off.unfit;
}

-- a fault of a scan up to the end
pub fault_scanned : (mark bytes : List ℕ) (fault : LogFault) → ScannedFront mark bytes (Err fault) → Scanned mark bytes (Err fault)
fault_scanned mark bytes Failed scanned = tt
fault_scanned mark bytes NotOurs scanned = scanned
fault_scanned mark bytes (Broken at) scanned = absurd scanned
fault_scanned mark bytes OutOfMemory scanned = tt

-- a scan of which it is told whether it is of a whole area
pub wholly_scanned : (mark bytes : List ℕ) (scan : Scan) (r : Result Scan LogFault) → length mark ≡ 8 → AreTied scan.places.items scan.end → ScannedFront mark bytes (Ok scan)
    → IfOk r (λ it. (it ≡ scan) × (scan.whole ≡ true)) → IfErr r (λ fault. (fault ≡ Broken scan.end) × (scan.whole ≡ false)) → Scanned mark bytes r
wholly_scanned mark bytes scan (Ok it) eight tied scanned ok err =
    let log = whole_log (rw ok.1 at scanned) in
    (log.0, log.1 ∙ ap (λ (s : Scan). sizes_at s.places.items) (sym ok.0), log.2)
  where
    whole_log : Reached true mark bytes scan.places.items → Reached true mark bytes scan.places.items
    whole_log log = log
wholly_scanned mark bytes scan (Err fault) eight tied scanned ok err =
    by_fault fault err.0 (broken_off mark bytes scan.places.items scan.end eight tied (off (rw err.1 at scanned)))
  where
    off : Reached false mark bytes scan.places.items → BreaksOff mark (sizes_at scan.places.items) bytes
    off is = is

    by_fault : (fault : LogFault) → fault ≡ Broken scan.end → IsBroken mark bytes scan.end → Scanned mark bytes (Err fault)
    by_fault Failed is broken = tt
    by_fault NotOurs is broken = absurd (cc is)
    by_fault (Broken at) is broken = let same : scan.end ≡ at = cc is in rw (← same) broken
    by_fault OutOfMemory is broken = tt

-- a head at the front of an area

pub front_longer : (area : Area) (sizes : List (ℕ × ℕ)) (areas : Areas) → Fronts area sizes areas → end_from 8 sizes < length (area_of area areas)
front_longer area sizes areas f =
    omega (arith, ap length f.front.split, length-append (f.mark ++ spelled f.records) (f.front.gate ∷ f.front.rest), length-front f.mark f.records f.front.eight, ap (λ (l : List (ℕ × ℕ)). end_from 8 l) f.sized)

pub front_head_read : (area : Area) (sizes : List (ℕ × ℕ)) (i at n : ℕ) → i < length sizes → at ≡ gate_from 8 sizes i + 7 → n ≡ (size_in sizes i).0 → (areas : Areas) (bytes : List ℕ)
    → bytes ≡ take n (drop at (area_of area areas)) → FrontHeadRead area sizes i areas bytes
front_head_read area sizes i at n inside place size areas bytes is mark rs sized front =
    let within = inside_log rs sizes i sized inside in
    let q = head_parts rs i 8 within in
    let behind = front.gate ∷ front.rest in
    let whole : area_of area areas ≡ (mark ++ q.before) ++ (head_of rs i ++ (q.after ++ front.gate ∷ front.rest)) =
    front.split ∙ ap (λ (l : List ℕ). mark ++ l ++ behind) q.self ∙ regroup mark q.before (head_of rs i) q.after behind in
    let gate = ap (λ (l : List (ℕ × ℕ)). gate_from 8 l i) sized in
    is ∙ part_read (mark ++ q.before) (head_of rs i) (q.after ++ behind) (area_of area areas) at n whole
    (omega (arith, length-append mark q.before, front.eight, q.size, gate, place))
    (head_size rs i within ∙ ap (λ (l : List (ℕ × ℕ)). (size_in l i).0) sized ∙ sym size)

-- the gate behind all records
pub gate_from_end : (sizes : List (ℕ × ℕ)) (at i : ℕ) → length sizes ≤ i → gate_from at sizes i ≡ end_from at sizes
gate_from_end [] at i all = refl
gate_from_end (s ∷ sizes) at zero all = absurd (omega arith)
gate_from_end (s ∷ sizes) at (suc i) all = gate_from_end sizes (at + 7 + s.0 + s.1) i (omega arith)
