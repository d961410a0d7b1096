-- An area stands for one list of records.
use Rattle.std.proofs.Common.{◌≡◌, ◌≢◌, ℕ, zero, suc, ◌+◌, ◌-◌, ◌<◌, ◌≤◌, List, [], ◌∷◌, ◌++◌, length, take, drop, Result, Ok, Err, refl, sym, ◌∙◌, ap, arith, append_assoc, length-append}
use Rattle.std.proofs.lemmas.List.{take_at, drop_at, drop-drop, append_cancel_left}
use Rattle.std.proofs.lemmas.Bool.Decides.{nat_tests}
use Rattle.std.proofs.lemmas.Nat.{from_be_bytes-to_be_bytes_2, from_be_bytes-to_be_bytes_4}
use Rattle.std.specs.Int.{w16, w32, to_be_bytes, from_be_bytes}
use Rattle.gate_log.specs.Records.{Record, body, spelled, IsBounded, AreBounded}
use Rattle.gate_log.specs.Logs.{Log, records_within, records}
use Rattle.gate_log.specs.declared.fault.LogFault.{LogFault}
use Rattle.gate_log.specs.declared.fault.LogFault.TheVariants.{Failed, NotOurs, Broken, OutOfMemory}
use Rattle.gate_log.specs.declared.scan.Scan.{Scan}
use Rattle.gate_log.specs.Opening.{Fits, IsUnfit, IsForeign, IsBroken, OnlyFault}
use Rattle.gate_log.specs.Looking.{Scanned}
use Rattle.gate_log.proofs.Rows.{length-body}

closed_first : (n gate : ℕ) (tail : List ℕ) → gate ≢ 165 → records_within n (gate ∷ tail) ≡ []
closed_first zero gate tail shut = refl
closed_first (suc n) gate tail shut = grind (arith, nat_tests)

-- the four parts of a body, and what follows it
four : (head payload behind : List ℕ) → take 4 (body head payload ++ behind) ≡ to_be_bytes w32 (2 + length head + length payload)
unfolding body
four head payload behind = refl

two : (head payload behind : List ℕ) → take 2 (drop 4 (body head payload ++ behind)) ≡ to_be_bytes w16 (length head)
unfolding body
two head payload behind = refl

fields : (head payload behind : List ℕ) → drop 6 (body head payload ++ behind) ≡ head ++ (payload ++ behind)
unfolding body
fields head payload behind = append_assoc head payload behind

module _ (head payload behind : List ℕ) (fits : IsBounded head payload) where
  abbrev rest : List ℕ
  rest = body head payload ++ behind

  body_length : from_be_bytes w32 (take 4 rest) ≡ 2 + length head + length payload
  body_length = ap (λ (l : List ℕ). from_be_bytes w32 l) (four head payload behind) ∙ from_be_bytes-to_be_bytes_4 (2 + length head + length payload) fits.body_length

  head_length : from_be_bytes w16 (take 2 (drop 4 rest)) ≡ length head
  head_length = ap (λ (l : List ℕ). from_be_bytes w16 l) (two head payload behind) ∙ from_be_bytes-to_be_bytes_2 (length head) fits.head_length

  -- an open gate and a record behind it
  open_first : (n : ℕ) → records_within (suc n) (165 ∷ (body head payload ++ behind)) ≡ record { head = head; payload = payload } ∷ records_within n behind
  open_first n =
      parsed (from_be_bytes w32 (take 4 rest)) (from_be_bytes w16 (take 2 (drop 4 rest))) (drop 6 rest) body_length head_length (fields head payload behind)
    where
      parsed : (b h : ℕ) (f : List ℕ) → b ≡ 2 + length head + length payload → h ≡ length head → f ≡ head ++ (payload ++ behind)
          → record { head = take h f; payload = take (b - 2 - h) (drop h f) } ∷ records_within n (drop (b - 2) f) ≡ record { head = head; payload = payload } ∷ records_within n behind
      parsed b h f eb eh ef =
          let e1 : take h f ≡ head = ap (λ (k : ℕ). take k f) eh ∙ ap (λ (l : List ℕ). take (length head) l) ef ∙ take_at head (payload ++ behind) (length head) refl in
          let e2 : drop h f ≡ payload ++ behind = ap (λ (k : ℕ). drop k f) eh ∙ ap (λ (l : List ℕ). drop (length head) l) ef ∙ drop_at head (payload ++ behind) (length head) refl in
          let size : b - 2 - h ≡ length payload = omega arith in
          let e3 : take (b - 2 - h) (drop h f) ≡ payload = ap (λ (k : ℕ). take k (drop h f)) size ∙ ap (λ (l : List ℕ). take (length payload) l) e2 ∙ take_at payload behind (length payload) refl in
          let sum : b - 2 ≡ length head + length payload = omega arith in
          let e4 : drop (b - 2) f ≡ behind = ap (λ (k : ℕ). drop k f) sum ∙ ap (λ (l : List ℕ). drop (length head + length payload) l) ef
          ∙ sym (drop-drop (length payload) (length head) (head ++ (payload ++ behind)))
          ∙ ap (λ (l : List ℕ). drop (length payload) l) (drop_at head (payload ++ behind) (length head) refl) ∙ drop_at payload behind (length payload) refl in
          (λ i. record { head = e1 i; payload = e3 i } ∷ records_within n (e4 i))

-- reading gives the records that are spelled, however much it may read
read_spelled : (rs : List Record) (n gate : ℕ) (tail : List ℕ) → AreBounded rs → gate ≢ 165 → length rs < n → records_within n (spelled rs ++ gate ∷ tail) ≡ rs
read_spelled [] n gate tail fits shut enough = closed_first n gate tail shut
read_spelled (r ∷ rs) zero gate tail fits shut enough = absurd (omega arith)
read_spelled (r ∷ rs) (suc n) gate tail fits shut enough =
    ap (λ (l : List ℕ). records_within (suc n) (165 ∷ l)) (append_assoc (body r.head r.payload) (spelled rs) (gate ∷ tail))
    ∙ open_first r.head r.payload (spelled rs ++ gate ∷ tail) fits.0 n
    ∙ ap (λ (l : List Record). r ∷ l) (read_spelled rs n gate tail fits.1 shut (omega arith))

fewer : (rs : List Record) → length rs ≤ length (spelled rs)
fewer [] = omega arith
fewer (r ∷ rs) = omega (arith, fewer rs, length-append (body r.head r.payload) (spelled rs))

-- an area that stands for records holds just these
pub records-log : (mark : List ℕ) (rs : List Record) (bytes : List ℕ) → Log mark rs bytes → records bytes ≡ rs
unfolding records
records-log mark rs bytes log =
    let front = spelled rs ++ log.gate ∷ log.tail in
    let whole : bytes ≡ mark ++ (spelled rs ++ log.gate ∷ log.tail) = log.split ∙ append_assoc mark (spelled rs) (log.gate ∷ log.tail) in
    ap (λ (l : List ℕ). records_within (length bytes) l) (ap (λ (l : List ℕ). drop 8 l) whole ∙ drop_at mark front 8 log.eight)
    ∙ read_spelled rs (length bytes) log.gate log.tail log.bounded log.closed
    (omega (arith, ap length whole, length-append mark (spelled rs ++ log.gate ∷ log.tail), length-append (spelled rs) (log.gate ∷ log.tail), fewer rs))

pub one_log : (mark : List ℕ) (rs : List Record) (other : List ℕ) (ss : List Record) (bytes : List ℕ) → Log mark rs bytes → Log other ss bytes → rs ≡ ss
one_log mark rs other ss bytes a b = sym (records-log mark rs bytes a) ∙ records-log other ss bytes b

-- a record, with a gate behind it, fits
fitting : (head payload : List ℕ) (rs : List Record) (v : ℕ) (x bytes : List ℕ) → IsBounded head payload → bytes ≡ body head payload ++ (spelled rs ++ v ∷ x) → Fits head payload bytes
fitting head payload [] v x bytes fits is = record { bounded = fits; gate = v; tail = x; split = is }
fitting head payload (r ∷ rs) v x bytes fits is = record { bounded = fits; gate = 165; tail = body r.head r.payload ++ spelled rs ++ v ∷ x; split = is }

-- two bodies at the front of the same bytes are as long
same_bodies : (h p h' p' x y : List ℕ) → IsBounded h p → IsBounded h' p' → body h p ++ x ≡ body h' p' ++ y → (length (body h p) ≡ length (body h' p')) × (x ≡ y)
same_bodies h p h' p' x y fits fits' is =
    let lengths = sym (body_length h p x fits) ∙ ap (λ (l : List ℕ). from_be_bytes w32 (take 4 l)) is ∙ body_length h' p' y fits' in
    let long : length (body h p) ≡ length (body h' p') = omega (arith, length-body h p, length-body h' p', lengths) in
    (long, sym (drop_at (body h p) x (length (body h' p')) long) ∙ ap (λ (l : List ℕ). drop (length (body h' p')) l) is ∙ drop_at (body h' p') y (length (body h' p')) refl)

-- the records end at one place, whether at a closed gate or at one behind which there is none
abbrev Ends : ℕ → List ℕ → Type 0
Ends v x = v ≡ 165 → IsUnfit x

first_same : (v w : ℕ) (x y : List ℕ) → v ∷ x ≡ w ∷ y → v ≡ w
first_same v w x y is = cc

others_same : (v w : ℕ) (x y : List ℕ) → v ∷ x ≡ w ∷ y → x ≡ y
others_same v w x y is = cc

same_end : (rs ss : List Record) (v w : ℕ) (x y : List ℕ) → AreBounded rs → AreBounded ss → spelled rs ++ v ∷ x ≡ spelled ss ++ w ∷ y → Ends v x → Ends w y → (length (spelled rs) ≡ length (spelled ss)) × (v ≡ w)
same_end [] [] v w x y fits fits' is ends ends' = (refl, first_same v w x y is)
same_end [] (s ∷ ss) v w x y fits fits' is ends ends' =
    absurd (ends (first_same _ _ _ _ is) s.head s.payload (fitting s.head s.payload ss w y x fits'.0 (others_same _ _ _ _ is ∙ append_assoc (body s.head s.payload) (spelled ss) (w ∷ y))))
same_end (r ∷ rs) [] v w x y fits fits' is ends ends' =
    absurd (ends' (sym (first_same _ _ _ _ is)) r.head r.payload (fitting r.head r.payload rs v x y fits.0 (sym (others_same _ _ _ _ is) ∙ append_assoc (body r.head r.payload) (spelled rs) (v ∷ x))))
same_end (r ∷ rs) (s ∷ ss) v w x y fits fits' is ends ends' =
    let behind = sym (append_assoc (body r.head r.payload) (spelled rs) (v ∷ x)) ∙ others_same _ _ _ _ is ∙ append_assoc (body s.head s.payload) (spelled ss) (w ∷ y) in
    let first = same_bodies r.head r.payload s.head s.payload (spelled rs ++ v ∷ x) (spelled ss ++ w ∷ y) fits.0 fits'.0 behind in
    let rest = same_end rs ss v w x y fits.1 fits'.1 first.1 ends ends' in
    (omega (arith, first.0, rest.0, length-append (body r.head r.payload) (spelled rs), length-append (body s.head s.payload) (spelled ss)), rest.1)

without : (mark : List ℕ) (rs ss : List Record) (x y bytes : List ℕ) → bytes ≡ mark ++ spelled rs ++ x → bytes ≡ mark ++ spelled ss ++ y → spelled rs ++ x ≡ spelled ss ++ y
without mark rs ss x y bytes one two =
    append_cancel_left mark _ _ (sym (append_assoc mark (spelled rs) x) ∙ sym one ∙ two ∙ append_assoc mark (spelled ss) y)

-- an area that stands for records is not broken
pub log_not_broken : (mark : List ℕ) (rs : List Record) (bytes : List ℕ) (at : ℕ) → Log mark rs bytes → IsBroken mark bytes at → ⊥
log_not_broken mark rs bytes at log broken =
    log.closed (same_end rs broken.records log.gate 165 log.tail broken.rest log.bounded broken.bounded
    (without mark rs broken.records (log.gate ∷ log.tail) (165 ∷ broken.rest) bytes log.split broken.split) (λ opened. absurd (log.closed opened)) (λ opened. broken.unfit)).1

-- it is broken at one place
pub one_broken : (mark bytes : List ℕ) (a b : ℕ) → IsBroken mark bytes a → IsBroken mark bytes b → a ≡ b
one_broken mark bytes a b one two =
    let same = same_end one.records two.records 165 165 one.rest two.rest one.bounded two.bounded (without mark one.records two.records (165 ∷ one.rest) (165 ∷ two.rest) bytes one.split two.split) (λ opened. one.unfit) (λ opened. two.unfit) in
    omega (arith, one.place, two.place, same.0, length-append mark (spelled one.records), length-append mark (spelled two.records))

-- bytes that begin with the mark
begun : (mark bytes rest : List ℕ) → length mark ≡ 8 → bytes ≡ mark ++ rest → IsForeign mark bytes → ⊥
begun mark bytes rest eight is foreign = foreign.another (ap (λ (l : List ℕ). take 8 l) is ∙ take_at mark rest 8 eight)

pub log_not_foreign : (mark : List ℕ) (rs : List Record) (bytes : List ℕ) → Log mark rs bytes → IsForeign mark bytes → ⊥
log_not_foreign mark rs bytes log = begun mark bytes (spelled rs ++ log.gate ∷ log.tail) log.eight (log.split ∙ append_assoc mark (spelled rs) (log.gate ∷ log.tail))

pub broken_not_foreign : (mark bytes : List ℕ) (at : ℕ) → length mark ≡ 8 → IsBroken mark bytes at → IsForeign mark bytes → ⊥
broken_not_foreign mark bytes at eight broken =
    begun mark bytes (spelled broken.records ++ 165 ∷ broken.rest) eight (broken.split ∙ append_assoc mark (spelled broken.records) (165 ∷ broken.rest))

-- a scan tells of a foreign mark and of a broken record exactly
pub scanned_foreign : (mark bytes : List ℕ) (r : Result Scan LogFault) → length mark ≡ 8 → Scanned mark bytes r → IsForeign mark bytes → OnlyFault NotOurs r
scanned_foreign mark bytes (Ok scan) eight scanned foreign = log_not_foreign mark scanned.0 bytes scanned.2 foreign
scanned_foreign mark bytes (Err Failed) eight scanned foreign = tt
scanned_foreign mark bytes (Err NotOurs) eight scanned foreign = refl
scanned_foreign mark bytes (Err (Broken at)) eight scanned foreign = absurd (broken_not_foreign mark bytes at eight scanned foreign)
scanned_foreign mark bytes (Err OutOfMemory) eight scanned foreign = tt

pub scanned_broken : (mark bytes : List ℕ) (r : Result Scan LogFault) (at : ℕ) → length mark ≡ 8 → Scanned mark bytes r → IsBroken mark bytes at → OnlyFault (Broken at) r
scanned_broken mark bytes (Ok scan) at eight scanned broken = log_not_broken mark scanned.0 bytes at scanned.2 broken
scanned_broken mark bytes (Err Failed) at eight scanned broken = tt
scanned_broken mark bytes (Err NotOurs) at eight scanned broken = absurd (broken_not_foreign mark bytes at eight broken scanned)
scanned_broken mark bytes (Err (Broken b)) at eight scanned broken = ap (λ (k : ℕ). Broken k) (one_broken mark bytes at b broken scanned)
scanned_broken mark bytes (Err OutOfMemory) at eight scanned broken = tt
