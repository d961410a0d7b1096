-- What a book tells of its own payloads, told of any that its disk rests in.
use Rattle.std.proofs.Common.{◌≡◌, ℕ, Bool, true, false, cond, eqb, Option, Some, None, List, [], ◌∷◌, ◌++◌, ◌⊎◌, refl, sym, ap, subst, ◌∙◌, inl, inr, arith}
use Rattle.std.proofs.lemmas.Bool.{eqb-true, eq-eqb, cond-true, cond-false, false≢true}
use Rattle.std.proofs.lemmas.List.Elements.{filter-append}
use Rattle.std.proofs.lemmas.List.Folds.{find-append}
use Rattle.std.specs.Prelude.{find, filter, slice_get}
use Rattle.std.specs.Option.{option_or}
use Rattle.delf_disk.specs.Areas.{Areas}
use Rattle.delf_disk.specs.Moments.{Leaves}
use Rattle.delf_model.specs.declared.entry.Entry.{Entry}
use Rattle.delf_model.specs.declared.entry.What.{What}
use Rattle.delf_model.specs.declared.entry.What.TheVariants.{Cut, Erase}
use Rattle.delf_model.specs.Legal.{Legal}
use Rattle.delf_model.specs.RuleSet.{RuleSet}
use Rattle.delf_model.specs.State.{State, position_of}
use Rattle.delf_model.specs.Step.{step, after}
use Rattle.delf_model.specs.Payloads.{Payloads, is_at, is_needed, is_needed_pair, payload_at, bytes_of_pair, brought, sealed, payloads_after}
use Rattle.delf_model.proofs.Runs.{after_push}
use Rattle.payload_laws.proofs.Moves.{payloads_held}
use Rattle.store_laws.specs.Stores.{digest, Hold, StandBut}
use Rattle.store_laws.specs.Moves.{RestIn, StandsFor}
use Rattle.store_laws.proofs.Appends.{rest_stand}
use Rattle.store_laws.proofs.Carry.{Alone, payload_kept, next_alone}
use Rattle.gate_log.specs.Records.{Record}
use Rattle.opening_laws.specs.Entries.{SamePayloads}
use Rattle.opening_laws.proofs.Unique.{one_payloads}
use Rattle.delf_book.specs.Books.{Booked, state_in, LeavesEntry, RestsLonger, LeavesAlone}
use Rattle.delf_book.specs.Holding.{Holds}
use Rattle.delf_book.specs.Steps.{PutsSealed, TellsDamage}
use Rattle.delf_book.specs.Writing.{Rests}

-- two payloads that rest on a disk with one image read the same
pub rest_same : (rules : RuleSet) (h : List Entry) (d e : Payloads) (images : Areas → Type 0) (c : Areas) → Legal rules h → images c →
    RestIn rules h d images → RestIn rules h e images → SamePayloads d e
rest_same rules h d e images c legal image one two =
    one_payloads rules h d e c (rest_stand rules h d c legal (one c image).0 (one c image).1) (rest_stand rules h e c legal (two c image).0 (two c image).1)

-- what is not found is not found in a part

find_none : {A : Type 0} (q keep : A → Bool) (xs : List A) → find q xs ≡ None → find q (filter keep xs) ≡ None
find_none q keep [] none = refl
find_none {A = A} q keep (x ∷ xs) none = by_both (q x) (keep x) refl refl (λ left. find_none q keep xs left)
  where
    left_none : q x ≡ false → find q xs ≡ None
    left_none miss = sym (cond-false (q x) (Some x) (find q xs) miss) ∙ none

    by_both : (b k : Bool) → q x ≡ b → keep x ≡ k → (find q xs ≡ None → find q (filter keep xs) ≡ None) → find q (cond k (x ∷ filter keep xs) (filter keep xs)) ≡ None
    by_both true k hit kept IH = let found : Some x ≡ None = sym (cond-true (q x) (Some x) (find q xs) hit) ∙ none in absurd (cc found)
    by_both false true miss kept IH = cond-false (q x) (Some x) (find q (filter keep xs)) miss ∙ IH (left_none miss)
    by_both false false miss kept IH = IH (left_none miss)

-- one entry makes of payloads that read the same such that read the same
module _ (s : State) (d e : Payloads) (same : SamePayloads d e) (entry : Entry) (given : List ℕ) (none_d : find (is_at s.len) d.bytes ≡ None) (none_e : find (is_at s.len) e.bytes ≡ None) where
  abbrev keep : ℕ × List ℕ → Bool
  keep = is_needed_pair (step s entry)

  abbrev more : List (ℕ × List ℕ)
  more = brought s.len entry.what given

  abbrev next : Payloads → Payloads
  next x = payloads_after digest s entry given x

  at_last : (x : Payloads) → find (is_at s.len) x.bytes ≡ None → find (is_at s.len) (next x).bytes ≡ find (is_at s.len) (filter keep more)
  at_last x none =
      ap (λ (l : List (ℕ × List ℕ)). find (is_at s.len) l) (filter-append keep x.bytes more) ∙
      (find-append (is_at s.len) (filter keep x.bytes) (filter keep more) ∙
      ap (λ (o : Option (ℕ × List ℕ)). option_or o (find (is_at s.len) (filter keep more))) (find_none (is_at s.len) keep x.bytes none))

  same_bytes : (p : ℕ) → payload_at (next d) p ≡ payload_at (next e) p
  same_bytes p = by_need (is_needed (step s entry) p) refl (eqb p s.len) refl
    where
      by_need : (n : Bool) → is_needed (step s entry) p ≡ n → (b : Bool) → eqb p s.len ≡ b → payload_at (next d) p ≡ payload_at (next e) p
      by_need false unneeded b at = ap bytes_of_pair (next_alone s d entry given p unneeded ∙ sym (next_alone s e entry given p unneeded))
      by_need true needed true at =
          subst (λ (q : ℕ). payload_at (next d) q ≡ payload_at (next e) q) (sym (eqb-true p s.len at)) (ap bytes_of_pair (at_last d none_d ∙ sym (at_last e none_e)))
      by_need true needed false at =
          let apart : p ≡ s.len → ⊥ = λ is. false≢true (sym at ∙ eq-eqb p s.len is) in
          payload_kept s d entry given p needed apart ∙ (same.bytes p ∙ sym (payload_kept s e entry given p needed apart))

  same_sealed : (w : What) → sealed digest s d w ≡ sealed digest s e w
  same_sealed (Cut job edge from to) = ap (λ (l : List ℕ). digest l ∷ []) (same.bytes _)
  same_sealed (Erase job id) = ap (λ (l : List ℕ). digest l ∷ []) (same.bytes _)
  same_sealed w = refl

  pub same_next : SamePayloads (next d) (next e)
  same_next = record {
    bytes = same_bytes;
    seals = ap (λ (l : List (List ℕ)). l ++ sealed digest s d entry.what) same.seals ∙ ap (λ (l : List (List ℕ)). e.seals ++ l) (same_sealed entry.what);
  }

-- records that hold payloads hold those that read the same
hold_as : (rules : RuleSet) (h : List Entry) (d e : Payloads) (journal vault : List Record) → SamePayloads d e → Alone (after rules h) e → Hold rules h d journal vault → Hold rules h e journal vault
hold_as rules h d e journal vault same alone hold = record {
  spell = hold.spell;
  reads = λ p needed. hold.reads p needed ∙ same.bytes p;
  seals = hold.seals ∙ same.seals;
  alone = alone;
}

stand_as : (rules : RuleSet) (h : List Entry) (d e : Payloads) (c : Areas) → SamePayloads d e → Alone (after rules h) e → StandBut rules h d c → StandBut rules h e c
stand_as rules h d e c same alone stands = record {
  legal = stands.legal;
  journal = stands.journal;
  vault = stands.vault;
  one = stands.one;
  hold = hold_as rules h d e _ _ same alone stands.hold;
}

-- the payloads of a book, and others that its disk rests in
module _ (rules : RuleSet) (h : List Entry) (d e : Payloads) (images : Areas → Type 0) (seen : Areas) (legal : Legal rules h) (image : images seen) (own : RestIn rules h d images)
    (other : RestIn rules h e images) where
  same : SamePayloads d e
  same = rest_same rules h d e images seen legal image own other

  alone_of : (x : Payloads) → RestIn rules h x images → Alone (after rules h) x
  alone_of x rests = (rests seen image).1.alone

  -- the next position is not needed yet
  last_none : (x : Payloads) → RestIn rules h x images → find (is_at (after rules h).len) x.bytes ≡ None
  last_none x rests = by_need (is_needed (after rules h) (after rules h).len) refl
    where
      by_need : (b : Bool) → is_needed (after rules h) (after rules h).len ≡ b → find (is_at (after rules h).len) x.bytes ≡ None
      by_need true needed = let below = (payloads_held rules h legal).held.below (after rules h).len needed in absurd (omega (arith, below))
      by_need false unneeded = alone_of x rests (after rules h).len unneeded

  pub alone_as : (c : Areas) → Rests rules h d c → Rests rules h e c
  alone_as c rests = (rests.0, hold_as rules h d e _ _ same (alone_of e other) rests.1)

  module _ (entry : Entry) (given : List ℕ) where
    next_same : SamePayloads (payloads_after digest (after rules h) entry given d) (payloads_after digest (after rules h) entry given e)
    next_same = same_next (after rules h) d e same entry given (last_none d own) (last_none e other)

    next_none : Alone (after rules (h ++ entry ∷ [])) (payloads_after digest (after rules h) entry given e)
    next_none = subst (λ (t : State). Alone t (payloads_after digest (after rules h) entry given e)) (sym (after_push rules h entry)) (next_alone (after rules h) e entry given)

    pub stands_for_as : (c : Areas) → StandsFor rules h d entry given c → StandsFor rules h e entry given c
    stands_for_as c (inl stands) = inl (stand_as rules h d e c same (alone_of e other) stands)
    stands_for_as c (inr stands) = inr (stand_as rules (h ++ entry ∷ []) _ _ c next_same next_none stands)

    pub rests_longer_as : (now : Areas → Type 0) → RestIn rules (h ++ entry ∷ []) (payloads_after digest (after rules h) entry given d) now →
        RestIn rules (h ++ entry ∷ []) (payloads_after digest (after rules h) entry given e) now
    rests_longer_as now rests c at = ((rests c at).0, hold_as rules (h ++ entry ∷ []) _ _ _ _ next_same next_none (rests c at).1)

leaves_as : {D : Type 0} {moment : D → ℕ} {may_leave : D → Areas → Type 0} {left_since : D → ℕ → Areas → Type 0} (P Q : Areas → Type 0) (old new : D) → ((c : Areas) → P c → Q c) →
    Leaves moment may_leave left_since P old new → Leaves moment may_leave left_since Q old new
leaves_as P Q old new weaker leaves = record {
  later = leaves.later;
  now = λ c image. weaker c (leaves.now c image);
  each = λ c image. weaker c (leaves.each c image);
  before = λ t c early image. by_way c (leaves.before t c early image);
}
  where
    by_way : {A : Type 0} (c : Areas) → A ⊎ P c → A ⊎ Q c
    by_way c (inl was) = inl was
    by_way c (inr holds) = inr (weaker c holds)

-- a book with other payloads
abbrev pub with_payloads : {G R : Type 0} → Booked G R → Payloads → Booked G R
with_payloads book e = record book { payloads = e }

-- a legal history that a disk holds, which may leave what reads
pub record OnDisk {G R : Type 0} (seen : R → Areas) (may_leave : R → Areas → Type 0) (book : Booked G R) : Type 0 where
  pub legal : Legal book.rules book.history
  pub image : may_leave book.rig (seen book.rig)
  pub holds : Holds seen may_leave book

module _ {G R : Type 0} (seen : R → Areas) (at : R → ℕ) (may_leave : R → Areas → Type 0) (left_since : R → ℕ → Areas → Type 0) (old now : Booked G R) (e : Payloads)
    (on : OnDisk seen may_leave old) (up : old.down ≡ false)
    (other : RestIn old.rules old.history e (may_leave old.rig)) where
  own : RestIn old.rules old.history old.payloads (may_leave old.rig)
  own = on.holds.rests up

  pub same_as : SamePayloads old.payloads e
  same_as = rest_same old.rules old.history old.payloads e (may_leave old.rig) (seen old.rig) on.legal on.image own other

  pub leaves_entry_as : (entry : Entry) (given : List ℕ) → LeavesEntry at may_leave left_since old entry given now.rig → LeavesEntry at may_leave left_since (with_payloads old e) entry given now.rig
  leaves_entry_as entry given leaves =
      leaves_as (StandsFor old.rules old.history old.payloads entry given) (StandsFor old.rules old.history e entry given) old.rig now.rig
      (stands_for_as old.rules old.history old.payloads e (may_leave old.rig) (seen old.rig) on.legal on.image own other entry given) leaves

  pub longer_as : (entry : Entry) (given : List ℕ) → RestsLonger may_leave old entry given now.rig → RestsLonger may_leave (with_payloads old e) entry given now.rig
  longer_as entry given = rests_longer_as old.rules old.history old.payloads e (may_leave old.rig) (seen old.rig) on.legal on.image own other entry given (may_leave now.rig)

  -- each image now holds them where no entry is made
  pub still_as : LeavesAlone at may_leave left_since old now.rig → RestIn old.rules old.history e (may_leave now.rig)
  still_as leaves c there = alone_as old.rules old.history old.payloads e (may_leave old.rig) (seen old.rig) on.legal on.image own other c (leaves.now c there)

  pub sealed_as : (what : What) → PutsSealed (state_in old) what old.payloads → PutsSealed (state_in old) what e
  sealed_as what puts i logged it =
      ap (λ (l : List (List ℕ)). slice_get l i) (sym same_as.seals) ∙ (puts i logged it ∙ ap (λ (l : List ℕ). Some (digest l)) (same_as.bytes (position_of logged.item)))

  pub damage_as : (item : ℕ) (stored found : List ℕ) → TellsDamage (state_in old) old.payloads item stored found → TellsDamage (state_in old) e item stored found
  damage_as item stored found tells = record {
    sealed = ap (λ (l : List (List ℕ)). slice_get l item) (sym same_as.seals) ∙ tells.sealed;
    reads = λ logged there. tells.reads logged there ∙ ap (λ (l : List ℕ). digest l) (same_as.bytes (position_of logged.item));
  }
