-- Records at the front of the same bytes.
use Rattle.std.proofs.Common.{◌≡◌, ◌⊎◌, inl, inr, ℕ, ◌+◌, List, [], ◌∷◌, ◌++◌, length, take, drop, refl, sym, ◌∙◌, ap, subst, arith, append_assoc, append-nil}
use Rattle.std.proofs.lemmas.List.{take_at, drop_at, append_cancel_left}
use Rattle.std.proofs.lemmas.Nat.{from_be_bytes-to_be_bytes_2, from_be_bytes-to_be_bytes_4}
use Rattle.std.specs.Int.{w16, w32, to_be_bytes, from_be_bytes}
use Rattle.gate_log.specs.Records.{Record, body, spelled, IsBounded, AreBounded}
use Rattle.gate_log.specs.Opening.{Fits, IsForeign}

-- the parts of a body, and what follows it

four : (head payload behind : List ℕ) → take 4 (body head payload ++ behind) ≡ to_be_bytes w32 (2 + length head + length payload)
unfolding body
four head payload behind = refl

two : (head payload behind : List ℕ) → take 2 (drop 4 (body head payload ++ behind)) ≡ to_be_bytes w16 (length head)
unfolding body
two head payload behind = refl

fields : (head payload behind : List ℕ) → drop 6 (body head payload ++ behind) ≡ head ++ (payload ++ behind)
unfolding body
fields head payload behind = append_assoc head payload behind

module _ (h p k q x y : List ℕ) (fits : IsBounded h p) (other : IsBounded k q) (same : body h p ++ x ≡ body k q ++ y) where
  sums : 2 + length h + length p ≡ 2 + length k + length q
  sums =
      sym (ap (λ (l : List ℕ). from_be_bytes w32 l) (four h p x) ∙ from_be_bytes-to_be_bytes_4 (2 + length h + length p) fits.body_length) ∙
      (ap (λ (l : List ℕ). from_be_bytes w32 (take 4 l)) same ∙
      (ap (λ (l : List ℕ). from_be_bytes w32 l) (four k q y) ∙ from_be_bytes-to_be_bytes_4 (2 + length k + length q) other.body_length))

  head_lengths : length h ≡ length k
  head_lengths =
      sym (ap (λ (l : List ℕ). from_be_bytes w16 l) (two h p x) ∙ from_be_bytes-to_be_bytes_2 (length h) fits.head_length) ∙
      (ap (λ (l : List ℕ). from_be_bytes w16 (take 2 (drop 4 l))) same ∙
      (ap (λ (l : List ℕ). from_be_bytes w16 l) (two k q y) ∙ from_be_bytes-to_be_bytes_2 (length k) other.head_length))

  payload_lengths : length p ≡ length q
  payload_lengths = omega (arith, sums, head_lengths)

  parts : h ++ (p ++ x) ≡ k ++ (q ++ y)
  parts = sym (fields h p x) ∙ (ap (λ (l : List ℕ). drop 6 l) same ∙ fields k q y)

  behind_heads : p ++ x ≡ q ++ y
  behind_heads = sym (drop_at h (p ++ x) (length k) head_lengths) ∙ (ap (λ (l : List ℕ). drop (length k) l) parts ∙ drop_at k (q ++ y) (length k) refl)

  pub same_heads : h ≡ k
  same_heads = sym (take_at h (p ++ x) (length k) head_lengths) ∙ (ap (λ (l : List ℕ). take (length k) l) parts ∙ take_at k (q ++ y) (length k) refl)

  pub same_payloads : p ≡ q
  same_payloads = sym (take_at p x (length q) payload_lengths) ∙ (ap (λ (l : List ℕ). take (length q) l) behind_heads ∙ take_at q y (length q) refl)

  pub same_rests : x ≡ y
  same_rests = sym (drop_at p x (length q) payload_lengths) ∙ (ap (λ (l : List ℕ). drop (length q) l) behind_heads ∙ drop_at q y (length q) refl)

-- a record that stands behind an open gate is the one that is whole there
pub same_record : (r s : Record) (rest x : List ℕ) → Fits r.head r.payload rest → IsBounded s.head s.payload → rest ≡ body s.head s.payload ++ x → r ≡ s
same_record r s rest x fits bounded is =
    let same : body r.head r.payload ++ (fits.gate ∷ fits.tail) ≡ body s.head s.payload ++ x = sym fits.split ∙ is in
    record_of r s (same_heads r.head r.payload s.head s.payload (fits.gate ∷ fits.tail) x fits.bounded bounded same) (same_payloads r.head r.payload s.head s.payload (fits.gate ∷ fits.tail) x fits.bounded bounded same)
  where
    record_of : (a b : Record) → a.head ≡ b.head → a.payload ≡ b.payload → a ≡ b
    record_of a b heads payloads = λ i. record { head = heads i; payload = payloads i }

-- of two lists of records at the front of the same bytes one goes on from the other
pub record GoesOn (front longer : List Record) (x y : List ℕ) : Type 0 where
  pub more : List Record
  pub is : longer ≡ front ++ more
  pub rest : x ≡ spelled more ++ y

heads_same : (v w : ℕ) (x y : List ℕ) → v ∷ x ≡ w ∷ y → v ≡ w
heads_same v w x y is = cc

tails_same : (v w : ℕ) (x y : List ℕ) → v ∷ x ≡ w ∷ y → x ≡ y
tails_same v w x y is = cc

one_more : (r s : Record) (rs ss : List Record) (x y : List ℕ) → r ≡ s → GoesOn rs ss x y → GoesOn (r ∷ rs) (s ∷ ss) x y
one_more r s rs ss x y same goes = record {
  more = goes.more;
  is = ap (λ (l : List Record). s ∷ l) goes.is ∙ ap (λ (z : Record). z ∷ rs ++ goes.more) (sym same);
  rest = goes.rest;
}

pub fronts : (f g : List Record) (x y : List ℕ) → AreBounded f → AreBounded g → spelled f ++ x ≡ spelled g ++ y → GoesOn f g x y ⊎ GoesOn g f y x
fronts [] g x y one two same = inl (record { more = g; is = refl; rest = same })
fronts (r ∷ rs) [] x y one two same = inr (record { more = r ∷ rs; is = refl; rest = sym same })
fronts (r ∷ rs) (s ∷ ss) x y one two same =
    elim (fronts rs ss x y one.1 two.1 (same_rests r.head r.payload s.head s.payload (spelled rs ++ x) (spelled ss ++ y) one.0 two.0 bodies)) [
      | inl goes ↦ inl (one_more r s rs ss x y (first bodies) goes)
      | inr goes ↦ inr (one_more s r ss rs y x (sym (first bodies)) goes)
    ]
  where
    bodies : body r.head r.payload ++ (spelled rs ++ x) ≡ body s.head s.payload ++ (spelled ss ++ y)
    bodies = sym (append_assoc (body r.head r.payload) (spelled rs) x) ∙ (tails_same 165 165 _ _ same ∙ append_assoc (body s.head s.payload) (spelled ss) y)

    first : body r.head r.payload ++ (spelled rs ++ x) ≡ body s.head s.payload ++ (spelled ss ++ y) → r ≡ s
    first is =
        λ i. record {
          head = same_heads r.head r.payload s.head s.payload (spelled rs ++ x) (spelled ss ++ y) one.0 two.0 is i;
          payload = same_payloads r.head r.payload s.head s.payload (spelled rs ++ x) (spelled ss ++ y) one.0 two.0 is i;
        }

-- the record that goes on is whole behind its gate

bounded_rest : (f g : List Record) → AreBounded (f ++ g) → AreBounded g
bounded_rest [] g all = all
bounded_rest (r ∷ rs) g all = bounded_rest rs g all.1

pub fits_next : (m : Record) (ms : List Record) (v : ℕ) (y : List ℕ) → IsBounded m.head m.payload → Fits m.head m.payload (body m.head m.payload ++ (spelled ms ++ v ∷ y))
fits_next m [] v y bounded = record { bounded = bounded; gate = v; tail = y; split = refl }
fits_next m (n ∷ ns) v y bounded = record { bounded = bounded; gate = 165; tail = body n.head n.payload ++ spelled ns ++ v ∷ y; split = refl }

-- what stands behind the first records, where others go on from them
pub record NextRecord (front longer : List Record) (x : List ℕ) : Type 0 where
  pub m : Record
  pub ms : List Record
  pub is : longer ≡ front ++ m ∷ ms
  pub rest : List ℕ
  pub opened : x ≡ 165 ∷ rest
  pub fits : Fits m.head m.payload rest
  pub whole : (r : Record) → Fits r.head r.payload rest → r ≡ m

pub next_or_same : (front longer : List Record) (x : List ℕ) (v : ℕ) (y : List ℕ) → AreBounded longer → GoesOn front longer x (v ∷ y) → ((longer ≡ front) × (x ≡ v ∷ y)) ⊎ NextRecord front longer x
next_or_same front longer x v y bounded goes = by_more goes.more goes.is goes.rest
  where
    by_more : (more : List Record) → longer ≡ front ++ more → x ≡ spelled more ++ v ∷ y → ((longer ≡ front) × (x ≡ v ∷ y)) ⊎ NextRecord front longer x
    by_more [] is rest = inl (is ∙ append-nil front, rest)
    by_more (m ∷ ms) is rest =
        let inside : IsBounded m.head m.payload = (bounded_rest front (m ∷ ms) (subst AreBounded is bounded)).0 in
        inr (record {
          m = m;
          ms = ms;
          is = is;
          rest = body m.head m.payload ++ (spelled ms ++ v ∷ y);
          opened = rest ∙ ap (λ (l : List ℕ). 165 ∷ l) (append_assoc (body m.head m.payload) (spelled ms) (v ∷ y));
          fits = fits_next m ms v y inside;
          whole = λ r fits. same_record r m (body m.head m.payload ++ (spelled ms ++ v ∷ y)) (spelled ms ++ v ∷ y) fits inside refl;
        })

-- bytes that begin with the mark are not foreign
pub not_foreign : (mark front rest bytes : List ℕ) → length mark ≡ 8 → bytes ≡ mark ++ front ++ rest → IsForeign mark bytes → ⊥
not_foreign mark front rest bytes eight is foreign =
    foreign.another (ap (λ (l : List ℕ). take 8 l) (is ∙ append_assoc mark front rest) ∙ take_at mark (front ++ rest) 8 eight)

pub same_fronts : (mark : List ℕ) (f g : List Record) (x y bytes : List ℕ) → bytes ≡ mark ++ spelled f ++ x → bytes ≡ mark ++ spelled g ++ y → spelled f ++ x ≡ spelled g ++ y
same_fronts mark f g x y bytes one two =
    append_cancel_left mark _ _ (sym (append_assoc mark (spelled f) x) ∙ (sym one ∙ (two ∙ append_assoc mark (spelled g) y)))
