-- The bytes of a log round the head and the payload of one record.
use Rattle.std.proofs.Common.{◌≡◌, ℕ, zero, suc, ◌+◌, ◌<◌, List, [], ◌∷◌, ◌++◌, length, map, take, drop, refl, sym, ◌∙◌, ap, arith, append_assoc, length-append}
use Rattle.std.proofs.lemmas.List.{take_at, drop_at, length-map}
use Rattle.std.specs.Int.{w16, w32, to_be_bytes}
use Rattle.gate_log.specs.Records.{Record, size_of, body, spelled, AreBounded, head_of, payload_of, replaced}
use Rattle.gate_log.specs.Logs.{Log, Keeps}
use Rattle.gate_log.specs.Places.{gate_from, size_in}
use Rattle.gate_log.proofs.Rows.{length-body}

-- both lengths of a record, as they are spelled
unfoldable pub lengths : List ℕ → ℕ → List ℕ
lengths head n = to_be_bytes w32 (2 + length head + n) ++ to_be_bytes w16 (length head)

length-lengths : (head : List ℕ) (n : ℕ) → length (lengths head n) ≡ 6
unfolding lengths
length-lengths head n = refl

body_parts : (head payload : List ℕ) → body head payload ≡ lengths head (length payload) ++ head ++ payload
unfolding body lengths
body_parts head payload = refl

pub record Parts (rs : List Record) (i at : ℕ) : Type 0 where
  pub before : List ℕ
  pub after : List ℕ
  pub size : at + length before ≡ gate_from at (map size_of rs) i + 7 + length (head_of rs i)
  pub again : (p : List ℕ) → length p ≡ length (payload_of rs i) → spelled (replaced rs i p) ≡ before ++ (p ++ after)
  pub self : spelled rs ≡ before ++ (payload_of rs i ++ after)

pub parts : (rs : List Record) (i at : ℕ) → i < length rs → Parts rs i at
parts [] i at inside = absurd (omega arith)
parts (r ∷ rs) zero at inside =
    let before = lengths r.head (length r.payload) ++ r.head in
    record {
      before = 165 ∷ (lengths r.head (length r.payload) ++ r.head);
      after = spelled rs;
      size = omega (arith, length-append (lengths r.head (length r.payload)) r.head, length-lengths r.head (length r.payload));
      again = λ p same. ap (λ (l : List ℕ). 165 ∷ l)
          (ap (λ (l : List ℕ). l ++ spelled rs) (body_parts r.head p ∙ ap (λ (k : ℕ). lengths r.head k ++ r.head ++ p) same) ∙ append_assoc before p (spelled rs));
      self = ap (λ (l : List ℕ). 165 ∷ l) (ap (λ (l : List ℕ). l ++ spelled rs) (body_parts r.head r.payload) ∙ append_assoc before r.payload (spelled rs));
    }
parts (r ∷ rs) (suc i) at inside =
    let next = parts rs i (at + 7 + length r.head + length r.payload) (omega arith) in
    record {
      before = 165 ∷ (body r.head r.payload ++ next.before);
      after = next.after;
      size = omega (arith, next.size, length-append (body r.head r.payload) next.before, length-body r.head r.payload);
      again = λ p same. ap (λ (l : List ℕ). 165 ∷ l) (ap (λ (l : List ℕ). body r.head r.payload ++ l) (next.again p same) ∙ sym (append_assoc (body r.head r.payload) next.before (p ++ next.after)));
      self = ap (λ (l : List ℕ). 165 ∷ l) (ap (λ (l : List ℕ). body r.head r.payload ++ l) next.self ∙ sym (append_assoc (body r.head r.payload) next.before (payload_of rs i ++ next.after)));
    }

pub record HeadParts (rs : List Record) (i at : ℕ) : Type 0 where
  pub before : List ℕ
  pub after : List ℕ
  pub size : at + length before ≡ gate_from at (map size_of rs) i + 7
  pub self : spelled rs ≡ before ++ (head_of rs i ++ after)

pub head_parts : (rs : List Record) (i at : ℕ) → i < length rs → HeadParts rs i at
head_parts [] i at inside = absurd (omega arith)
head_parts (r ∷ rs) zero at inside = record {
  before = 165 ∷ lengths r.head (length r.payload);
  after = r.payload ++ spelled rs;
  size = omega (arith, length-lengths r.head (length r.payload));
  self = ap (λ (l : List ℕ). 165 ∷ l) (ap (λ (l : List ℕ). l ++ spelled rs) (body_parts r.head r.payload)
      ∙ append_assoc (lengths r.head (length r.payload) ++ r.head) r.payload (spelled rs) ∙ append_assoc (lengths r.head (length r.payload)) r.head (r.payload ++ spelled rs));
}
head_parts (r ∷ rs) (suc i) at inside =
    let next = head_parts rs i (at + 7 + length r.head + length r.payload) (omega arith) in
    record {
      before = 165 ∷ (body r.head r.payload ++ next.before);
      after = next.after;
      size = omega (arith, next.size, length-append (body r.head r.payload) next.before, length-body r.head r.payload);
      self = ap (λ (l : List ℕ). 165 ∷ l) (ap (λ (l : List ℕ). body r.head r.payload ++ l) next.self ∙ sym (append_assoc (body r.head r.payload) next.before (head_of rs i ++ next.after)));
    }

pub head_size : (rs : List Record) (i : ℕ) → i < length rs → length (head_of rs i) ≡ (size_in (map size_of rs) i).0
head_size [] i inside = absurd (omega arith)
head_size (r ∷ rs) zero inside = refl
head_size (r ∷ rs) (suc i) inside = head_size rs i (omega arith)

pub payload_size : (rs : List Record) (i : ℕ) → i < length rs → length (payload_of rs i) ≡ (size_in (map size_of rs) i).1
payload_size [] i inside = absurd (omega arith)
payload_size (r ∷ rs) zero inside = refl
payload_size (r ∷ rs) (suc i) inside = payload_size rs i (omega arith)

pub sizes-replaced : (rs : List Record) (i : ℕ) (p : List ℕ) → length p ≡ length (payload_of rs i) → map size_of (replaced rs i p) ≡ map size_of rs
sizes-replaced [] i p same = refl
sizes-replaced (r ∷ rs) zero p same = ap (λ (k : ℕ). (length r.head, k) ∷ map size_of rs) same
sizes-replaced (r ∷ rs) (suc i) p same = ap (λ (l : List (ℕ × ℕ)). size_of r ∷ l) (sizes-replaced rs i p same)

bounded-replaced : (rs : List Record) (i : ℕ) (p : List ℕ) → length p ≡ length (payload_of rs i) → AreBounded rs → AreBounded (replaced rs i p)
bounded-replaced [] i p same fits = tt
bounded-replaced (r ∷ rs) zero p same fits =
    let first = fits.0 in (record { head_length = first.head_length; body_length = omega (arith, first.body_length, same) }, fits.1)
bounded-replaced (r ∷ rs) (suc i) p same fits = (fits.0, bounded-replaced rs i p same fits.1)

pub inside_log : (rs : List Record) (sizes : List (ℕ × ℕ)) (i : ℕ) → map size_of rs ≡ sizes → i < length sizes → i < length rs
inside_log rs sizes i sized inside = omega (arith, ap length sized, length-map rs size_of)

-- a part that stands behind a front
pub part_read : (front part back bytes : List ℕ) (at n : ℕ) → bytes ≡ front ++ (part ++ back) → length front ≡ at → length part ≡ n → take n (drop at bytes) ≡ part
part_read front part back bytes at n is place size =
    ap (λ (l : List ℕ). take n (drop at l)) is ∙ ap (λ (l : List ℕ). take n l) (drop_at front (part ++ back) at place) ∙ take_at part back n size

pub regroup : (mark before part after end : List ℕ) → mark ++ (before ++ (part ++ after)) ++ end ≡ (mark ++ before) ++ (part ++ (after ++ end))
regroup mark before part after end =
    append_assoc mark (before ++ (part ++ after)) end
    ∙ ap (λ (l : List ℕ). mark ++ l) (append_assoc before (part ++ after) end ∙ ap (λ (l : List ℕ). before ++ l) (append_assoc part after end))
    ∙ sym (append_assoc mark before (part ++ (after ++ end)))

module _ (mark : List ℕ) (rs : List Record) (bytes : List ℕ) (log : Log mark rs bytes) (i : ℕ) where
  pub log_parts : (q : Parts rs i 8) → bytes ≡ (mark ++ q.before) ++ (payload_of rs i ++ (q.after ++ log.gate ∷ log.tail))
  log_parts q = log.split ∙ ap (λ (l : List ℕ). mark ++ l ++ log.gate ∷ log.tail) q.self ∙ regroup mark q.before (payload_of rs i) q.after (log.gate ∷ log.tail)

  pub log_head : (q : HeadParts rs i 8) → bytes ≡ (mark ++ q.before) ++ (head_of rs i ++ (q.after ++ log.gate ∷ log.tail))
  log_head q = log.split ∙ ap (λ (l : List ℕ). mark ++ l ++ log.gate ∷ log.tail) q.self ∙ regroup mark q.before (head_of rs i) q.after (log.gate ∷ log.tail)

  pub length-before : (sizes : List (ℕ × ℕ)) (at : ℕ) → map size_of rs ≡ sizes → i < length sizes → at ≡ gate_from 8 sizes i + 7 + (size_in sizes i).0 → (q : Parts rs i 8) → length (mark ++ q.before) ≡ at
  length-before sizes at sized inside place q =
      let size = head_size rs i (inside_log rs sizes i sized inside) in
      let gate = ap (λ (l : List (ℕ × ℕ)). gate_from 8 l i) sized in
      let head = ap (λ (l : List (ℕ × ℕ)). (size_in l i).0) sized in
      omega (arith, length-append mark q.before, log.eight, q.size, size, gate, head, place)

  pub length-before_head : (sizes : List (ℕ × ℕ)) (at : ℕ) → map size_of rs ≡ sizes → at ≡ gate_from 8 sizes i + 7 → (q : HeadParts rs i 8) → length (mark ++ q.before) ≡ at
  length-before_head sizes at sized place q =
      let gate = ap (λ (l : List (ℕ × ℕ)). gate_from 8 l i) sized in
      omega (arith, length-append mark q.before, log.eight, q.size, gate, place)

  -- the same bytes with another payload there
  pub replaced_log : (q : Parts rs i 8) (p new : List ℕ) → length p ≡ length (payload_of rs i) → new ≡ (mark ++ q.before) ++ (p ++ (q.after ++ log.gate ∷ log.tail)) → Keeps log (replaced rs i p) new
  replaced_log q p new same is = record {
    log_now = record {
      eight = log.eight;
      bounded = bounded-replaced rs i p same log.bounded;
      gate = log.gate;
      closed = log.closed;
      tail = log.tail;
      split = is ∙ sym (regroup mark q.before p q.after (log.gate ∷ log.tail)) ∙ ap (λ (l : List ℕ). mark ++ l ++ log.gate ∷ log.tail) (sym (q.again p same));
    };
    same_gate = refl;
    same_tail = refl;
  }
