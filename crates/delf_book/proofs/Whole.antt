-- Seals of a store that stands whole.
use Rattle.std.proofs.Common.{◌≡◌, ℕ, true, List, [], ◌∷◌, ◌++◌, sym, ◌∙◌}
use Rattle.std.proofs.lemmas.Option.{same_Some}
use Rattle.delf_disk.specs.Areas.{Areas}
use Rattle.delf_model.specs.declared.entry.Entry.{Entry}
use Rattle.delf_model.specs.RuleSet.{RuleSet}
use Rattle.delf_model.specs.State.{position_of}
use Rattle.delf_model.specs.Step.{after}
use Rattle.delf_model.specs.Legal.{Legal, is_legal}
use Rattle.delf_model.specs.Payloads.{Payloads, payload_at, payloads_after}
use Rattle.store_laws.specs.Stores.{digest, AreSealed, journal_of, vault_of}
use Rattle.store_laws.specs.Moves.{RestIn}
use Rattle.store_laws.proofs.Sealed.{sealed_on}
use Rattle.delf_book.specs.Steps.{TellsDamage}
use Rattle.delf_book.specs.Stepping.{PutsBackItem}
use Rattle.delf_book.proofs.GoesBack.{waits_put}

-- what was sealed stays sealed: an image that reads holds the payloads
pub stays_sealed : (rules : RuleSet) (h : List Entry) (e : Payloads) (entry : Entry) (given : List ℕ) (seen : Areas) (images : Areas → Type 0) → images seen → Legal rules h →
    is_legal (after rules h) entry ≡ true → RestIn rules h e images → AreSealed rules h e → AreSealed rules (h ++ entry ∷ []) (payloads_after digest (after rules h) entry given e)
stays_sealed rules h e entry given seen images image legal line rests whole = sealed_on rules h e entry given (journal_of seen) (vault_of seen) legal line (rests seen image).1 whole

-- what was sealed is not damaged
pub whole_undamaged : (rules : RuleSet) (h : List Entry) (entry : Entry) (e : Payloads) (item : ℕ) (stored found : List ℕ) → Legal rules h → is_legal (after rules h) entry ≡ true →
    PutsBackItem (after rules h) entry.what item → (stored ≡ found → ⊥) → TellsDamage (after rules h) e item stored found → AreSealed rules h e → ⊥
whole_undamaged rules h entry e item stored found legal line puts differ tells whole =
    let waits = waits_put rules h legal entry line item puts in
    let p : ℕ = position_of waits.logged.item in
    differ (same_Some stored (digest (payload_at e p)) (sym tells.sealed ∙ whole p item waits.needed waits.carried) ∙ sym (tells.reads waits.logged waits.there))
