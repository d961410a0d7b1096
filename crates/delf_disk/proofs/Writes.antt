-- What a torn write and a whole one make of a list of bytes.
use Rattle.std.proofs.Common.{◌≡◌, ℕ, ◌+◌, ◌-◌, ◌≤◌, min, max, List, [], ◌++◌, length, take, drop, refl, sym, ◌∙◌, ap, subst, arith, append_assoc, length-append, length-drop, length-take, take-append-drop}
use Rattle.std.proofs.lemmas.List.{take_at, drop_at, take-take, drop-drop, take_min, append-nil}
use Rattle.delf_disk.specs.declared.area.Area.{Area}
use Rattle.delf_disk.specs.declared.area.Area.TheVariants.{Journal, Vault}
use Rattle.delf_disk.specs.Areas.{Areas, area_of, rest_of}
use Rattle.delf_disk.specs.Images.{overwritten, TornAt, Torn, Written}

-- equal in one area and in the other is equal
pub same_areas : (area : Area) (a b : Areas) → area_of area a ≡ area_of area b → rest_of area a ≡ rest_of area b → a ≡ b
same_areas Journal a b here other =
    let one : a ≡ record { journal = b.journal; vault = a.vault } = ap (λ (l : List ℕ). let r : Areas = record { journal = l; vault = a.vault } in r) here in
    one ∙ ap (λ (l : List ℕ). let r : Areas = record { journal = b.journal; vault = l } in r) other
same_areas Vault a b here other =
    let one : a ≡ record { journal = a.journal; vault = b.vault } = ap (λ (l : List ℕ). let r : Areas = record { journal = a.journal; vault = l } in r) here in
    one ∙ ap (λ (l : List ℕ). let r : Areas = record { journal = l; vault = b.vault } in r) other

-- the front of it, and behind that a tail that is torn in its first n bytes
pub record Parted (front back : List ℕ) (n : ℕ) (c : List ℕ) : Type 0 where
  pub tail : List ℕ
  pub is : c ≡ front ++ tail
  pub behind : drop n tail ≡ drop n back
  pub no_shorter : length back ≤ length tail
  pub no_longer : length tail ≤ max (length back) n

pub torn_split : (at n : ℕ) (front back c : List ℕ) → length front ≡ at → TornAt at n (front ++ back) c → Parted front back n c
torn_split at n front back c long torn =
    let whole = length-append front back in
    let reaches : min at (length (front ++ back)) ≡ at = omega (arith, whole) in
    let below : take at c ≡ front = subst (λ k. take k c ≡ take at (front ++ back)) reaches torn.below ∙ take_at front back at long in
    let tail = drop at c in
    let behind : drop n tail ≡ drop n back = drop-drop n at c ∙ torn.above ∙ sym (drop-drop n at (front ++ back)) ∙ ap (λ (l : List ℕ). drop n l) (drop_at front back at long) in
    let size = length-drop at c in record {
      tail = tail;
      is = sym (take-append-drop at c) ∙ ap (λ (l : List ℕ). l ++ tail) below;
      behind = behind;
      no_shorter = omega (arith, size, whole, torn.no_shorter);
      no_longer = omega (arith, size, whole, torn.no_longer);
    }

-- bytes that are written behind a front
pub written_split : (at : ℕ) (front back bytes : List ℕ) → length front ≡ at → overwritten at bytes (front ++ back) ≡ front ++ (bytes ++ drop (length bytes) back)
written_split at front back bytes long =
    ap (λ (l : List ℕ). l ++ bytes ++ drop (at + length bytes) (front ++ back)) (take_at front back at long)
    ∙ ap (λ (l : List ℕ). front ++ bytes ++ l) (sym (drop-drop (length bytes) at (front ++ back)) ∙ ap (λ (l : List ℕ). drop (length bytes) l) (drop_at front back at long))
    ∙ append_assoc front bytes (drop (length bytes) back)

pub length-overwritten : (at : ℕ) (bytes old : List ℕ) → at ≤ length old → length (overwritten at bytes old) ≡ max (length old) (at + length bytes)
length-overwritten at bytes old within =
    omega (arith, length-append (take at old ++ bytes) (drop (at + length bytes) old), length-append (take at old) bytes, length-take at old, length-drop (at + length bytes) old)

-- nothing need be torn
pub torn_none : (at n : ℕ) (old : List ℕ) → TornAt at n old old
torn_none at n old = record {
  below = take_min at old;
  above = refl;
  no_shorter = omega arith;
  no_longer = omega arith;
}

-- a write of no bytes tears nothing
pub torn_nothing : (at : ℕ) (old new : List ℕ) → at ≤ length old → TornAt at 0 old new → new ≡ old
torn_nothing at old new within torn =
    let reaches : min at (length old) ≡ at = omega arith in
    let below : take at new ≡ take at old = subst (λ k. take k new ≡ take at old) reaches torn.below in
    let none : at + 0 ≡ at = omega arith in
    let above : drop at new ≡ drop at old = subst (λ k. drop k new ≡ drop k old) none torn.above in
    sym (take-append-drop at new) ∙ ap (λ (l : List ℕ). l ++ drop at new) below ∙ ap (λ (l : List ℕ). take at old ++ l) above ∙ take-append-drop at old

-- a torn write inside the range of a torn write
pub torn_within : (at n at' n' : ℕ) (old mid new : List ℕ) → at ≤ at' → at' + n' ≤ at + n → TornAt at n old mid → TornAt at' n' mid new → TornAt at n old new
torn_within at n at' n' old mid new low high one two =
    let k = min at (length old) in
    let shorter : k ≤ min at' (length mid) = omega (arith, one.no_shorter) in
    let front : take k new ≡ take k mid =
    sym (take-take k (min at' (length mid)) new shorter) ∙ ap (λ (l : List ℕ). take k l) two.below ∙ take-take k at' mid (omega arith) in
    let more = at + n - (at' + n') in
    let sum : at' + n' + more ≡ at + n = omega arith in
    let back : drop (at + n) new ≡ drop (at + n) mid =
    subst (λ j. drop j new ≡ drop j mid) sum (sym (drop-drop more (at' + n') new) ∙ ap (λ (l : List ℕ). drop more l) two.above ∙ drop-drop more (at' + n') mid) in record {
      below = front ∙ one.below;
      above = back ∙ one.above;
      no_shorter = omega (arith, one.no_shorter, two.no_shorter);
      no_longer = omega (arith, one.no_longer, two.no_longer);
    }

-- a larger range
pub torn_wider : (at n at' n' : ℕ) (old new : List ℕ) → at ≤ at' → at' + n' ≤ at + n → TornAt at' n' old new → TornAt at n old new
torn_wider at n at' n' old new low high torn = torn_within at n at' n' old old new low high (torn_none at n old) torn

-- a whole write is one of the torn ones
pub written_is_torn : (at : ℕ) (bytes old : List ℕ) → at ≤ length old → TornAt at (length bytes) old (overwritten at bytes old)
written_is_torn at bytes old within =
    let size = length-overwritten at bytes old within in
    let n = length bytes in
    let front = take at old in
    let rest = drop (at + n) old in
    let long : length front ≡ at = omega (arith, length-take at old) in
    let both : length (front ++ bytes) ≡ at + n = omega (arith, length-append front bytes) in
    let reaches : min at (length old) ≡ at = omega arith in
    record {
      below = subst (λ k. take k (front ++ bytes ++ rest) ≡ front) (sym reaches) (ap (λ (l : List ℕ). take at l) (append_assoc front bytes rest) ∙ take_at front (bytes ++ rest) at long);
      above = drop_at (front ++ bytes) rest (at + n) both;
      no_shorter = omega (arith, size);
      no_longer = omega (arith, size);
    }

-- a write of no bytes
pub written_nothing : (at : ℕ) (old : List ℕ) → overwritten at [] old ≡ old
written_nothing at old =
    let none : at + 0 ≡ at = omega arith in
    ap (λ (l : List ℕ). l ++ drop (at + 0) old) (append-nil (take at old)) ∙ ap (λ k. take at old ++ drop k old) none ∙ take-append-drop at old

-- two writes, the second behind the first, are one
pub written_more : (at : ℕ) (a b old : List ℕ) → at ≤ length old → overwritten (at + length a) b (overwritten at a old) ≡ overwritten at (a ++ b) old
written_more at a b old within =
    let front = take at old in
    let rest = drop (at + length a) old in
    let long : length front ≡ at = omega (arith, length-take at old) in
    let both : length (front ++ a) ≡ at + length a = omega (arith, length-append front a) in
    let size = length-append a b in
    let sum : at + length a + length b ≡ at + length (a ++ b) = omega (arith, size) in
    written_split (at + length a) (front ++ a) rest b both
    ∙ sym (append_assoc (front ++ a) b (drop (length b) rest))
    ∙ ap (λ (l : List ℕ). l ++ drop (length b) rest) (append_assoc front a b)
    ∙ ap (λ (l : List ℕ). front ++ (a ++ b) ++ l) (drop-drop (length b) (at + length a) old ∙ ap (λ k. drop k old) sum)

-- the same of whole disks
pub torn_same : (area : Area) (at n : ℕ) (old : Areas) → Torn area at n old old
torn_same area at n old = record { here = torn_none at n (area_of area old); other = refl }

pub torn_then : (area : Area) (at n at' n' : ℕ) (old mid new : Areas) → at ≤ at' → at' + n' ≤ at + n → Torn area at n old mid → Torn area at' n' mid new → Torn area at n old new
torn_then area at n at' n' old mid new low high one two = record {
  here = torn_within at n at' n' (area_of area old) (area_of area mid) (area_of area new) low high one.here two.here;
  other = two.other ∙ one.other;
}

pub torn_in : (area : Area) (at n at' n' : ℕ) (old new : Areas) → at ≤ at' → at' + n' ≤ at + n → Torn area at' n' old new → Torn area at n old new
torn_in area at n at' n' old new low high torn = record { here = torn_wider at n at' n' (area_of area old) (area_of area new) low high torn.here; other = torn.other }

pub written_torn : (area : Area) (at : ℕ) (bytes : List ℕ) (old new : Areas) → at ≤ length (area_of area old) → Written area at bytes old new → Torn area at (length bytes) old new
written_torn area at bytes old new within written = record {
  here = subst (λ l. TornAt at (length bytes) (area_of area old) l) (sym written.here) (written_is_torn at bytes (area_of area old) within);
  other = written.other;
}

pub written_then : (area : Area) (at : ℕ) (a b : List ℕ) (old mid new : Areas) → at ≤ length (area_of area old)
    → Written area at a old mid → Written area (at + length a) b mid new → Written area at (a ++ b) old new
written_then area at a b old mid new within one two = record {
  here = two.here ∙ ap (λ (l : List ℕ). overwritten (at + length a) b l) one.here ∙ written_more at a b (area_of area old) within;
  other = two.other ∙ one.other;
}

pub written_none : (area : Area) (at : ℕ) (old new : Areas) → Written area at [] old new → new ≡ old
written_none area at old new written = same_areas area new old (written.here ∙ written_nothing at (area_of area old)) written.other
