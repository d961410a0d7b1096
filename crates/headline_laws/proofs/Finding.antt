-- What an opening finds in areas that a run may have left.
use Rattle.std.proofs.Common.{◌≡◌, ◌⊎◌, ℕ, Option, Some, None, List, [], ◌∷◌, ◌++◌, length, refl, sym, ap, subst, ◌∙◌, inl, inr}
use Rattle.std.proofs.lemmas.List.{length-map}
use Rattle.std.specs.Prelude.{slice_get}
use Rattle.delf_disk.specs.Areas.{Areas}
use Rattle.delf_model.specs.declared.schema.Schema.{Schema}
use Rattle.delf_model.specs.declared.entry.Entry.{Entry}
use Rattle.delf_model.specs.declared.script.Command.{Command}
use Rattle.delf_model.specs.RuleSet.{RuleSet}
use Rattle.delf_model.specs.State.{position_of}
use Rattle.delf_model.specs.Payloads.{Payloads, payload_at, payloads_after, Vault, last_carrier, is_needed}
use Rattle.delf_book.specs.Parts.{Interrupted}
use Rattle.delf_book.specs.Holding.{StandWhole, StandsBeside}
use Rattle.opening_laws.proofs.Unique.{one_history, one_payloads}
use Rattle.opening_laws.specs.Entries.{SamePayloads}
use Rattle.store_laws.specs.Stores.{digest, StandBut, Stand, AreSealed, seal_in, seals_of, journal_of, vault_for}
use Rattle.store_laws.proofs.Carry.{vault_length}
use Rattle.store_laws.specs.Moves.{RestIn, StandsFor}
use Rattle.store_laws.proofs.Appends.{rest_stand}
use Rattle.script_runner.specs.Outcomes.{IsWhole}
use Rattle.script_runner.specs.Worlds.{World, IsHeld, Opens, state_of}
use Rattle.headline_laws.specs.Onward.{IsFirst}
use Rattle.headline_laws.specs.Kept.{HasOnlyNeeded, IsSealed}
use Rattle.headline_laws.specs.Found.{IsThat, IsThatWith, StandFor, StandForOneOf}

-- one history stands, with its payloads
that_one : (w : World) (c : Areas) (h : List Entry) (e : Payloads) → StandBut w.rules w.history w.payloads c → StandBut w.rules h e c → IsThat w h e
that_one w c h e stands other =
    let same : h ≡ w.history = one_history w.rules h w.history e w.payloads c other stands in
    record {
      history_is = same;
      payloads_are = one_payloads w.rules w.history e w.payloads c (subst (λ (g : List Entry). StandBut w.rules g e c) same other) stands;
    }

opens_stand : (rules : RuleSet) (moment : ℕ) (c : Areas) (found : World) → Opens rules moment c found → StandBut rules found.history found.payloads c
opens_stand rules moment c found opens = opens.stands

stand_for : (w : World) (c : Areas) → StandBut w.rules w.history w.payloads c → StandFor w c
stand_for w c stands = record {
  stands = stands;
  only = λ h e other. that_one w c h e stands other;
  opened = λ moment found opens. that_one w c found.history found.payloads stands (opens_stand w.rules moment c found opens);
}

pub done_stands : (schema : Schema) (first : World) (commands : List Command) (start now : ℕ) (images : Areas → Type 0) (before after : List ℕ) →
    (done : IsWhole schema first commands start now images before after) → (c : Areas) → images c → StandFor done.ran.last c
done_stands schema first commands start now images before after done c image =
    let w : World = done.ran.last in
    stand_for w c (rest_stand w.rules w.history w.payloads c done.history.legal (done.rests c image).0 (done.rests c image).1)

-- a world that may have an entry beside it

with_entry_one : (w : World) (it : Interrupted) (c : Areas) (h : List Entry) (e : Payloads) → w.beside ≡ Some it →
    StandBut w.rules (w.history ++ it.entry ∷ []) (payloads_after digest (state_of w) it.entry it.payload w.payloads) c → StandBut w.rules h e c → IsThatWith w it h e
with_entry_one w it c h e beside stands other =
    let more : List Entry = w.history ++ it.entry ∷ [] in
    let d : Payloads = payloads_after digest (state_of w) it.entry it.payload w.payloads in
    let same : h ≡ more = one_history w.rules h more e d c other stands in
    record {
      beside = beside;
      history_is = same;
      payloads_are = one_payloads w.rules more e d c (subst (λ (g : List Entry). StandBut w.rules g e c) same other) stands;
    }

one_of : (w : World) (c : Areas) (o : Option Interrupted) → w.beside ≡ o → StandsBeside w.rules w.history w.payloads o c → (h : List Entry) (e : Payloads) → StandBut w.rules h e c →
    IsThat w h e ⊎ ((it : Interrupted) × IsThatWith w it h e)
one_of w c None is stands h e other = inl (that_one w c h e stands other)
one_of w c (Some it) is (inl stands) h e other = inl (that_one w c h e stands other)
one_of w c (Some it) is (inr stands) h e other = inr (it, with_entry_one w it c h e is stands other)

pub held_stands : (w : World) (images : Areas → Type 0) (c : Areas) → IsHeld w images → images c → StandForOneOf w c
held_stands w images c held image = record {
  only = λ h e other. one_of w c w.beside refl (held c image) h e other;
  opened = λ moment found opens. one_of w c w.beside refl (held c image) found.history found.payloads (opens_stand w.rules moment c found opens);
}

-- a world as an opening finds it

pub found_first : (rules : RuleSet) (moment : ℕ) (c : Areas) (w : World) → Opens rules moment c w → IsFirst w × HasOnlyNeeded w
found_first rules moment c w opens =
    let stands : StandBut w.rules w.history w.payloads c = subst (λ (r : RuleSet). StandBut r w.history w.payloads c) (sym opens.rules_are) opens.stands in
    (record { legal = stands.legal; up = opens.up; alone = opens.alone }, stands.hold.alone)

-- seals of a store that stood whole

pub same_sealed_in : (rules : RuleSet) (h : List Entry) (d e : Payloads) → SamePayloads d e → AreSealed rules h d → AreSealed rules h e
same_sealed_in rules h d e same sealed p i needed at =
    ap (λ (l : List (List ℕ)). slice_get l i) (sym same.seals) ∙ (sealed p i needed at ∙ ap (λ (l : List ℕ). Some (digest l)) (same.bytes p))

pub found_sealed : (rules : RuleSet) (moment : ℕ) (c : Areas) (w : World) → Opens rules moment c w → StandWhole rules c → IsSealed w
found_sealed rules moment c w opens whole =
    let stands : StandBut w.rules w.history w.payloads c = subst (λ (r : RuleSet). StandBut r w.history w.payloads c) (sym opens.rules_are) opens.stands in
    let other : Stand w.rules whole.0 whole.1.0 c = subst (λ (r : RuleSet). Stand r whole.0 whole.1.0 c) (sym opens.rules_are) whole.1.1 in
    let that = that_one w c whole.0 whole.1.0 stands other.but in
    let vault = vault_for w.rules w.history c in
    let long : length vault ≡ length (state_of w).items = vault_length w.rules w.history (journal_of c) vault stands.hold.spell in
    record {
      sealed = same_sealed_in w.rules w.history whole.1.0 w.payloads that.payloads_are
          (subst (λ (h : List Entry). AreSealed w.rules h whole.1.0) that.history_is other.sealed);
      count = ap length (sym stands.hold.seals) ∙ (length-map vault seal_in ∙ long);
    }
