-- What a torn write and a whole one over the payload of a record make of a log.
use Rattle.std.proofs.Common.{◌≡◌, ℕ, ◌+◌, ◌<◌, ◌≤◌, List, [], ◌∷◌, ◌++◌, length, map, take, drop, replicate, sym, ◌∙◌, ap, subst, arith, length-append, length-take, length-drop, take-append-drop}
use Rattle.std.proofs.lemmas.List.{take_at, drop_at, length-replicate, nil_from_length}
use Rattle.delf_disk.specs.declared.area.Area.{Area}
use Rattle.delf_disk.specs.Areas.{Areas, area_of}
use Rattle.delf_disk.specs.Images.{overwritten, TornAt, Torn, Written}
use Rattle.delf_disk.proofs.Writes.{torn_split, written_split}
use Rattle.gate_log.specs.Records.{Record, size_of, head_of, payload_of, replaced}
use Rattle.gate_log.specs.Logs.{Keeps, Stands}
use Rattle.gate_log.specs.Places.{gate_from, size_in}
use Rattle.gate_log.specs.Steps.{MayScrub, Scrubs, HeadRead, PayloadRead}
use Rattle.gate_log.proofs.Parts.{parts, head_parts, head_size, payload_size, sizes-replaced, inside_log, part_read, log_parts, log_head, length-before, length-before_head, replaced_log}

module _ (area : Area) (sizes : List (ℕ × ℕ)) (i at n : ℕ) (inside : i < length sizes) (place : at ≡ gate_from 8 sizes i + 7 + (size_in sizes i).0) (size : n ≡ (size_in sizes i).1) where
  -- the payload is as long as the log says
  length-payload : (rs : List Record) → map size_of rs ≡ sizes → length (payload_of rs i) ≡ n
  length-payload rs sized = payload_size rs i (inside_log rs sizes i sized inside) ∙ ap (λ (l : List (ℕ × ℕ)). (size_in l i).1) sized ∙ sym size

  pub may_scrub : (old new : Areas) → Torn area at n old new → MayScrub area sizes i old new
  may_scrub old new torn = record {
    other = torn.other;
    here = λ mark rs sized log.
        let q = parts rs i 8 (inside_log rs sizes i sized inside) in
        let rest = q.after ++ log.gate ∷ log.tail in
        let front = mark ++ q.before in
        let long = length-payload rs sized in
        let split = torn_split at n front (payload_of rs i ++ rest) (area_of area new) (length-before mark rs (area_of area old) log i sizes at sized inside place q)
        (subst (λ (l : List ℕ). TornAt at n l (area_of area new)) (log_parts mark rs (area_of area old) log i q) torn.here) in
        let p = take n split.tail in
        let behind : drop n split.tail ≡ rest = split.behind ∙ drop_at (payload_of rs i) rest n long in
        let whole : area_of area new ≡ front ++ (p ++ rest) =
        split.is ∙ ap (λ (l : List ℕ). front ++ l) (sym (take-append-drop n split.tail) ∙ ap (λ (l : List ℕ). p ++ l) behind) in
        let same : length (take n split.tail) ≡ length (payload_of rs i) =
        omega (arith, length-take n split.tail, split.no_shorter, length-append (payload_of rs i) (q.after ++ log.gate ∷ log.tail), long) in
        (p, same, replaced_log mark rs (area_of area old) log i q p (area_of area new) same whole);
  }

  pub scrubs : (old new : Areas) → Written area at (replicate n 0) old new → Scrubs area sizes i old new
  scrubs old new written = record {
    other = written.other;
    here = λ mark rs sized log.
        let q = parts rs i 8 (inside_log rs sizes i sized inside) in
        let rest = q.after ++ log.gate ∷ log.tail in
        let front = mark ++ q.before in
        let long = length-payload rs sized in
        let whole : area_of area new ≡ front ++ (replicate n 0 ++ rest) =
        written.here ∙ ap (λ (l : List ℕ). overwritten at (replicate n 0) l) (log_parts mark rs (area_of area old) log i q)
        ∙ written_split at front (payload_of rs i ++ rest) (replicate n 0) (length-before mark rs (area_of area old) log i sizes at sized inside place q)
        ∙ ap (λ (l : List ℕ). front ++ (replicate n 0 ++ l)) (drop_at (payload_of rs i) rest (length (replicate n 0)) (long ∙ sym (length-replicate n 0))) in
        let same : length (replicate n 0) ≡ length (payload_of rs i) = length-replicate n 0 ∙ sym long in
        subst (λ (k : ℕ). Keeps log (replaced rs i (replicate k 0)) (area_of area new)) (sym long)
        (replaced_log mark rs (area_of area old) log i q (replicate n 0) (area_of area new) same whole);
  }

  pub payload_read : (areas : Areas) (bytes : List ℕ) → bytes ≡ take n (drop at (area_of area areas)) → PayloadRead area sizes i areas bytes
  payload_read areas bytes is mark rs sized log =
      let q = parts rs i 8 (inside_log rs sizes i sized inside) in
      is ∙ part_read (mark ++ q.before) (payload_of rs i) (q.after ++ log.gate ∷ log.tail) (area_of area areas) at n (log_parts mark rs (area_of area areas) log i q)
      (length-before mark rs (area_of area areas) log i sizes at sized inside place q) (length-payload rs sized)

module _ (area : Area) (sizes : List (ℕ × ℕ)) (i at n : ℕ) (inside : i < length sizes) (place : at ≡ gate_from 8 sizes i + 7) (size : n ≡ (size_in sizes i).0) where
  pub head_read : (areas : Areas) (bytes : List ℕ) → bytes ≡ take n (drop at (area_of area areas)) → HeadRead area sizes i areas bytes
  head_read areas bytes is mark rs sized log =
      let q = head_parts rs i 8 (inside_log rs sizes i sized inside) in
      is ∙ part_read (mark ++ q.before) (head_of rs i) (q.after ++ log.gate ∷ log.tail) (area_of area areas) at n (log_head mark rs (area_of area areas) log i q)
      (length-before_head mark rs (area_of area areas) log i sizes at sized place q)
      (head_size rs i (inside_log rs sizes i sized inside) ∙ ap (λ (l : List (ℕ × ℕ)). (size_in l i).0) sized ∙ sym size)

-- an image after a scrub stands for records of the same sizes
pub scrubbed_stands : (area : Area) (sizes : List (ℕ × ℕ)) (i : ℕ) (old new : Areas) → MayScrub area sizes i old new → Stands area sizes old → Stands area sizes new
scrubbed_stands area sizes i old new scrub s =
    let after = scrub.here s.mark s.records s.sized s.log in
    record {
      mark = s.mark;
      records = replaced s.records i after.0;
      sized = sizes-replaced s.records i after.0 after.1 ∙ s.sized;
      log = after.2.log_now;
    }

-- what was read to the front of a buffer
pub read_front : (buf front rest bytes : List ℕ) (at len : ℕ) → front ≡ take (length (take len buf)) (drop at bytes) → len ≤ length buf → at + len ≤ length bytes → take len (front ++ rest) ≡ take len (drop at bytes)
read_front buf front rest bytes at len is fits within =
    let size : length (take len buf) ≡ len = omega (arith, length-take len buf) in
    let whole : front ≡ take len (drop at bytes) = is ∙ ap (λ (k : ℕ). take k (drop at bytes)) size in
    let long : length front ≡ len = omega (arith, ap length whole, length-take len (drop at bytes), length-drop at bytes) in
    take_at front rest len long ∙ whole

-- an empty payload
pub nothing_read : (area : Area) (sizes : List (ℕ × ℕ)) (i : ℕ) (areas : Areas) → i < length sizes → (size_in sizes i).1 ≡ 0 → PayloadRead area sizes i areas []
nothing_read area sizes i areas inside none mark rs sized log =
    let long = payload_size rs i (inside_log rs sizes i sized inside) ∙ ap (λ (l : List (ℕ × ℕ)). (size_in l i).1) sized ∙ none in
    sym (nil_from_length (payload_of rs i) long)
