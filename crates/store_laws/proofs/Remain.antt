-- What remains to be scrubbed after an entry.
use Rattle.std.proofs.Common.{◌≡◌, ℕ, zero, suc, ◌<◌, ◌≤◌, true, List, [], ◌∷◌, ◌++◌, length, Option, Some, None, refl, sym, ap, ◌∙◌, subst, arith, inl, inr, ◌⊎◌, length-append}
use Rattle.std.proofs.lemmas.Bool.{cases_eq, cases_order}
use Rattle.std.proofs.lemmas.List.{length-replicate, length-map, nil_from_length}
use Rattle.std.specs.Prelude.{replicate, Contains}
use Rattle.delf_disk.specs.Areas.{Areas}
use Rattle.gate_log.specs.Records.{Record, payload_of}
use Rattle.delf_model.specs.declared.entry.Entry.{Entry}
use Rattle.delf_model.specs.RuleSet.{RuleSet}
use Rattle.delf_model.specs.State.{State}
use Rattle.delf_model.specs.Step.{step, after}
use Rattle.delf_model.specs.Legal.{Legal, is_legal, is_allowed}
use Rattle.delf_model.specs.Payloads.{Payloads, Carrier, Journal, Vault}
use Rattle.delf_model.proofs.Runs.{after_push, Legal_push}
use Rattle.delf_model.proofs.Lines.{allowed_of}
use Rattle.delf_model.proofs.Good.{good_after}
use Rattle.delf_model.proofs.Owners.{OwnedStand}
use Rattle.payload_laws.specs.Holders.{IsLive, position_taken, scrubbed_by, PayloadsMove, PositionsHeld}
use Rattle.payload_laws.proofs.Moves.{payloads_held}
use Rattle.payload_laws.proofs.Carriers.{vault_is, journal_is}
use Rattle.store_laws.specs.Stores.{Hold, AreScrubbed, length_in, logged_size, journal_of, vault_of}
use Rattle.store_laws.specs.Moves.{IsEntryRecord, AreItemRecords, new_items}
use Rattle.store_laws.specs.Steps.{IsZeroed, KeepsOthers, AreScrubbedBut, payload_here}
use Rattle.store_laws.proofs.Places.{payload_inside, payload_behind}
use Rattle.store_laws.proofs.Items.{new_few}
use Rattle.store_laws.proofs.Carry.{none_added, journal_length, vault_length}
use Rattle.store_laws.proofs.Unpurged.{Unpurged, unpurged_after}
use Rattle.store_laws.proofs.Lives.{entry_live, taken_live}

abbrev Zeros : List ℕ → Type 0
Zeros l = l ≡ replicate (length l) 0

zeros_are : (n : ℕ) (l : List ℕ) → l ≡ replicate n 0 → Zeros l
zeros_are n l is = is ∙ ap (λ (k : ℕ). replicate k 0) (sym (ap length is ∙ length-replicate n 0))

empty_zeros : (l : List ℕ) → length l ≡ 0 → Zeros l
empty_zeros l none = zeros_are 0 l (nil_from_length l none)

payload_past : (xs : List Record) (i : ℕ) → length xs ≤ i → payload_of xs i ≡ []
payload_past [] i past = refl
payload_past (x ∷ xs) zero past = absurd (omega (arith, past))
payload_past (x ∷ xs) (suc i) past = payload_past xs i (omega (arith, past))

same_carrier : (a b : Carrier) → (a ≡ b) ⊎ (a ≡ b → ⊥)
same_carrier (Journal p) (Journal q) = elim (cases_eq p q) [ inl same ↦ inl (ap Journal same) | inr apart ↦ inr (λ is. apart (journal_is is)) ]
same_carrier (Journal p) (Vault i) = inr (λ is. cc is)
same_carrier (Vault i) (Journal p) = inr (λ is. cc is)
same_carrier (Vault i) (Vault j) = elim (cases_eq i j) [ inl same ↦ inl (ap Vault same) | inr apart ↦ inr (λ is. apart (vault_is is)) ]

first_or_rest : (y : Carrier) (ys : List Carrier) (x : Carrier) → Contains (y ∷ ys) x → (y ≡ x) ⊎ Contains ys x
first_or_rest y ys x (zero, within, is) = inl is
first_or_rest y ys x (suc k, within, is) = inr (k, omega (arith, within), is)

-- a scrub leaves one less
pub remain_less : (s : State) (carrier : Carrier) (left : List Carrier) (c d : Areas) → AreScrubbedBut s (carrier ∷ left) (journal_of c) (vault_of c) → IsZeroed carrier c d → KeepsOthers carrier c d →
    AreScrubbedBut s left (journal_of d) (vault_of d)
remain_less s carrier left c d before zeroed kept x dead out =
    elim (same_carrier x carrier) [
      | inl same ↦ subst (λ (y : Carrier). Zeros (payload_here d y)) (sym same) (zeros_are (length (payload_here c carrier)) (payload_here d carrier) zeroed)
      | inr apart ↦
          subst Zeros (sym (kept x apart)) (before x dead (λ here. elim (first_or_rest carrier left x here) [ inl first ↦ apart (sym first) | inr rest ↦ out rest ]))
    ]

pub remain_none : (s : State) (journal vault : List Record) → AreScrubbedBut s [] journal vault → AreScrubbed s journal vault
remain_none s journal vault but x dead = but x dead (λ here. let lt : here.0 < 0 = here.1 in omega (arith, lt))

module _ (s : State) (entry : Entry) (given : List ℕ) (journal vault : List Record) (r : Record) (added : List Record)
    (held : PositionsHeld s) (after_held : PositionsHeld (step s entry)) (owned : OwnedStand s) (unpurged : Unpurged s) (moves : PayloadsMove s entry)
    (line : is_allowed s entry.moment entry.what ≡ true) (journal_long : length journal ≡ s.len) (vault_long : length vault ≡ length s.items)
    (before : AreScrubbed s journal vault) (one : IsEntryRecord s vault entry given r) (more : AreItemRecords s journal vault entry.what added) where
  was_dead : (x : Carrier) → (IsLive (step s entry) x → ⊥) → (Contains (scrubbed_by s entry.what) x → ⊥) → IsLive s x → ⊥
  was_dead x dead out live = elim (moves.all x live) [ inl now ↦ dead now | inr scrubbed ↦ out scrubbed ]

  entry_zeros : (IsLive (step s entry) (Journal s.len) → ⊥) → Zeros r.payload
  entry_zeros dead = elim (entry_live s entry held moves line) [ inl live ↦ absurd (dead live) | inr empty ↦ empty_zeros r.payload (one.size ∙ empty) ]

  item_zeros : (o : Option ℕ) → position_taken s entry.what ≡ o → (IsLive (step s entry) (Vault (length s.items)) → ⊥) → Zeros (payload_of added 0)
  item_zeros None none dead = subst (λ (l : List Record). Zeros (payload_of l 0)) (sym (none_added s journal vault entry.what added more none)) refl
  item_zeros (Some p) taken dead = absurd (dead (taken_live s entry after_held owned unpurged line p taken))

  few : length added ≤ 1
  few = omega (arith, ap length more.sizes, length-map added length_in, length-map (new_items s entry.what) logged_size, new_few s entry.what)

  pub remain_by : AreScrubbedBut (step s entry) (scrubbed_by s entry.what) (journal ++ r ∷ []) (vault ++ added)
  remain_by (Journal q) dead out =
      elim (cases_order q (length journal)) [
        | inl last ↦
            subst Zeros (sym (payload_behind journal (r ∷ []) q last))
            (entry_zeros (subst (λ (n : ℕ). IsLive (step s entry) (Journal n) → ⊥) (last ∙ journal_long) dead))
        | inr other ↦
            elim other [
              | inl within ↦ subst Zeros (sym (payload_inside journal (r ∷ []) q within)) (before (Journal q) (was_dead (Journal q) dead out))
              | inr past ↦ subst Zeros (sym (payload_past (journal ++ r ∷ []) q (omega (arith, past, length-append journal (r ∷ []))))) refl
            ]
      ]
  remain_by (Vault i) dead out =
      elim (cases_order i (length vault)) [
        | inl last ↦
            subst Zeros (sym (payload_behind vault added i last))
            (item_zeros (position_taken s entry.what) refl (subst (λ (n : ℕ). IsLive (step s entry) (Vault n) → ⊥) (last ∙ vault_long) dead))
        | inr other ↦
            elim other [
              | inl within ↦ subst Zeros (sym (payload_inside vault added i within)) (before (Vault i) (was_dead (Vault i) dead out))
              | inr past ↦ subst Zeros (sym (payload_past (vault ++ added) i (omega (arith, past, few, length-append vault added)))) refl
            ]
      ]

pub remain_after : (rules : RuleSet) (h : List Entry) (e : Payloads) (entry : Entry) (given : List ℕ) (journal vault : List Record) (r : Record) (added : List Record) →
    Legal rules h → is_legal (after rules h) entry ≡ true → Hold rules h e journal vault → AreScrubbed (after rules h) journal vault →
    IsEntryRecord (after rules h) vault entry given r → AreItemRecords (after rules h) journal vault entry.what added →
    AreScrubbedBut (after rules (h ++ entry ∷ [])) (scrubbed_by (after rules h) entry.what) (journal ++ r ∷ []) (vault ++ added)
remain_after rules h e entry given journal vault r added legal line hold before one more =
    subst (λ (t : State). AreScrubbedBut t (scrubbed_by (after rules h) entry.what) (journal ++ r ∷ []) (vault ++ added)) (sym (after_push rules h entry))
    (remain_by (after rules h) entry given journal vault r added (payloads_held rules h legal).held
    (subst PositionsHeld (after_push rules h entry) (payloads_held rules (h ++ entry ∷ []) (Legal_push rules h entry legal line)).held)
    (good_after rules h legal).owned_stand (unpurged_after rules h legal) ((payloads_held rules h legal).moves entry line) (allowed_of (after rules h) entry line)
    (journal_length rules h journal vault hold.spell) (vault_length rules h journal vault hold.spell) before one more)
