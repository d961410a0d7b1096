-- What the restoration log carries stays what was sealed.
use Rattle.std.proofs.Common.{◌≡◌, ℕ, zero, suc, ◌<◌, true, List, [], ◌∷◌, ◌++◌, length, Some, refl, sym, ap, ◌∙◌, subst, arith}
use Rattle.std.proofs.lemmas.List.{length-map}
use Rattle.std.proofs.lemmas.Option.{same_Some}
use Rattle.std.specs.Prelude.{slice_get}
use Rattle.delf_model.specs.declared.entry.Entry.{Entry}
use Rattle.delf_model.specs.declared.entry.What.{What}
use Rattle.delf_model.specs.declared.entry.What.TheVariants.{Cut, Erase}
use Rattle.delf_model.specs.RuleSet.{RuleSet}
use Rattle.delf_model.specs.State.{State}
use Rattle.delf_model.specs.Step.{step, after}
use Rattle.delf_model.specs.Legal.{Legal, is_legal}
use Rattle.delf_model.specs.Payloads.{Payloads, is_needed, payload_at, sealed, payloads_after, Vault, last_carrier}
use Rattle.delf_model.proofs.Runs.{after_push}
use Rattle.gate_log.specs.Records.{Record}
use Rattle.payload_laws.specs.Holders.{position_taken, Carried, Stays, Brought, Taken, PutBack, PositionsHeld}
use Rattle.payload_laws.proofs.Moves.{payloads_held}
use Rattle.payload_laws.proofs.Carriers.{vault_is, vault_journal}
use Rattle.store_laws.specs.Stores.{digest, seal_in, Hold, AreSealed}
use Rattle.store_laws.proofs.Carry.{payload_kept, vault_length}

inside : (xs ys : List (List ℕ)) (i : ℕ) (x : List ℕ) → slice_get xs i ≡ Some x → slice_get (xs ++ ys) i ≡ Some x
inside [] ys i x at = absurd (cc at)
inside (y ∷ xs) ys zero x at = at
inside (y ∷ xs) ys (suc i) x at = inside xs ys i x at

behind : (xs : List (List ℕ)) (x : List ℕ) (i : ℕ) → i ≡ length xs → slice_get (xs ++ x ∷ []) i ≡ Some x
behind [] x zero is = refl
behind [] x (suc i) is = absurd (omega (arith, is))
behind (y ∷ xs) x zero is = absurd (omega (arith, is))
behind (y ∷ xs) x (suc i) is = behind xs x i (omega (arith, is))

sealed_taken : (s : State) (e : Payloads) (w : What) (p : ℕ) → position_taken s w ≡ Some p → sealed digest s e w ≡ digest (payload_at e p) ∷ []
sealed_taken s e (Cut job edge from to) p taken = ap (λ (n : ℕ). digest (payload_at e n) ∷ []) (same_Some _ _ taken)
sealed_taken s e (Erase job id) p taken = ap (λ (n : ℕ). digest (payload_at e n) ∷ []) (same_Some _ _ taken)
sealed_taken s e w p taken = absurd (cc taken)

abbrev pub SealedIn : State → Payloads → Type 0
SealedIn s e = (p i : ℕ) → is_needed s p ≡ true → last_carrier s p ≡ Vault i → slice_get e.seals i ≡ Some (digest (payload_at e p))

module _ (s : State) (e : Payloads) (entry : Entry) (given : List ℕ) (held : PositionsHeld s) (long : length e.seals ≡ length s.items) (before : SealedIn s e) where
  abbrev next : Payloads
  next = payloads_after digest s entry given e

  kept : (p : ℕ) → is_needed s p ≡ true → is_needed (step s entry) p ≡ true → payload_at next p ≡ payload_at e p
  kept p was needed = payload_kept s e entry given p needed (λ same. let lt : p < s.len = held.below p was in omega (arith, lt, same))

  sealed_by : (p i : ℕ) → is_needed (step s entry) p ≡ true → last_carrier (step s entry) p ≡ Vault i → Carried s entry p → slice_get next.seals i ≡ Some (digest (payload_at next p))
  sealed_by p i needed at (Stays was same) =
      inside e.seals (sealed digest s e entry.what) i (digest (payload_at e p)) (before p i was (sym same ∙ at)) ∙ ap (λ (l : List ℕ). Some (digest l)) (sym (kept p was needed))
  sealed_by p i needed at (Brought here own same) = vault_journal i s.len (sym at ∙ same)
  sealed_by p i needed at (Taken taken was same) =
      ap (λ (l : List (List ℕ)). slice_get (e.seals ++ l) i) (sealed_taken s e entry.what p taken) ∙
      (behind e.seals (digest (payload_at e p)) i (vault_is (sym at ∙ same) ∙ sym long) ∙ ap (λ (l : List ℕ). Some (digest l)) (sym (kept p was needed)))
  sealed_by p i needed at (PutBack job j logged puts there free position was carried same) = vault_journal i s.len (sym at ∙ same)

pub sealed_on : (rules : RuleSet) (h : List Entry) (e : Payloads) (entry : Entry) (given : List ℕ) (journal vault : List Record) → Legal rules h → is_legal (after rules h) entry ≡ true →
    Hold rules h e journal vault → AreSealed rules h e → AreSealed rules (h ++ entry ∷ []) (payloads_after digest (after rules h) entry given e)
sealed_on rules h e entry given journal vault legal line hold before =
    subst (λ (s : State). SealedIn s (payloads_after digest (after rules h) entry given e)) (sym (after_push rules h entry))
    (λ p i needed at. sealed_by (after rules h) e entry given (payloads_held rules h legal).held long before p i needed at (((payloads_held rules h legal).moves entry line).carried p needed))
  where
    long : length e.seals ≡ length (after rules h).items
    long =
        let one : length vault ≡ length (after rules h).items = vault_length rules h journal vault hold.spell in
        omega (arith, one, ap length hold.seals, length-map vault seal_in)
