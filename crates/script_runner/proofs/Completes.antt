-- That a run which met no fault ends well, from the causes of all other ends.
use Rattle.std.proofs.Common.{◌≡◌, ℕ, Bool, Option, Some, None, List, refl, sym, subst, ◌∙◌}
use Rattle.delf_disk.specs.declared.area.Area.{Area}
use Rattle.delf_disk.specs.Areas.{Areas}
use Rattle.delf_model.specs.RuleSet.{RuleSet}
use Rattle.store_laws.specs.Stores.{StandBut}
use Rattle.script_runner.specs.declared.status.Status.{Status}
use Rattle.script_runner.specs.declared.status.Status.TheVariants.{Done, Usage, BadDocument, ReadFault, WriteFault, OutOfMemory, Down, BadStore}
use Rattle.documents.specs.declared.words.Request.{Request}
use Rattle.documents.specs.declared.words.Request.TheVariants.{Run, Check, Load}
use Rattle.script_runner.specs.Complete.{IsQuiet, IsStore, EndsWell}
use Rattle.documents.proofs.Once.{document_rules, no_fault}
use Rattle.script_runner.specs.Outcomes.{RunCause, IsBad}

not_bad : (plain : Type 0) (rules other : RuleSet) (seen : Areas) (images : Areas → Type 0) (area : Area) (at : ℕ) → rules ≡ other → plain → IsStore other seen → (plain → IsBad rules seen images area at) → ⊥
not_bad plain rules other seen images area at same is store bad =
    (bad is).stands_not store.history store.payloads (subst (λ (r : RuleSet). StandBut r store.history store.payloads seen) (sym same) store.stands)

module _ (blocks : Bool) (plain : Type 0) (seen : Areas) (images : Areas → Type 0) (told : Bool) (left : List ℕ) (read_rose write_rose rig_rose : Type 0) (quiet : IsQuiet read_rose write_rose rig_rose) where
  pub ends_well : (request : Option Request) (status : Status) →
      RunCause blocks request told left read_rose write_rose rig_rose (λ rules area at. plain → IsBad rules seen images area at) status →
      EndsWell blocks request told left (λ rules. plain × IsStore rules seen) status
  ends_well None Usage cause = refl
  ends_well None (WriteFault done) cause = absurd (quiet.sink cause.1)
  ends_well None Done cause = absurd cause
  ends_well None (BadDocument line) cause = absurd cause
  ends_well None ReadFault cause = absurd cause
  ends_well None (OutOfMemory done) cause = absurd cause
  ends_well None (Down len) cause = absurd cause
  ends_well None (BadStore area at) cause = absurd cause
  ends_well (Some (Run start)) Done cause = λ document is read store. tt
  ends_well (Some (Run start)) Usage cause = λ document is read store. cause
  ends_well (Some (Run start)) (BadDocument line) cause = λ document is read store. let has = cause is in absurd (no_fault blocks left document has.fault read has.refused)
  ends_well (Some (Run start)) ReadFault cause = λ document is read store. absurd (quiet.source cause)
  ends_well (Some (Run start)) (WriteFault done) cause = λ document is read store. absurd (quiet.sink cause)
  ends_well (Some (Run start)) (OutOfMemory done) cause = λ document is read store. tt
  ends_well (Some (Run start)) (Down len) cause = λ document is read store. absurd (quiet.rig cause.0)
  ends_well (Some (Run start)) (BadStore area at) cause = λ document is read store.
      let of = cause is in
      absurd (not_bad plain of.document.rules document.rules seen images area at (document_rules blocks left of.document document of.read read) store.0 store.1 of.holds)
  ends_well (Some Check) Done cause = λ document is read. tt
  ends_well (Some Check) Usage cause = λ document is read. cause
  ends_well (Some Check) (BadDocument line) cause = λ document is read. let has = cause is in absurd (no_fault blocks left document has.fault read has.refused)
  ends_well (Some Check) ReadFault cause = λ document is read. absurd (quiet.source cause)
  ends_well (Some Check) (WriteFault done) cause = λ document is read. absurd (quiet.sink cause.1)
  ends_well (Some Check) (OutOfMemory done) cause = λ document is read. tt
  ends_well (Some Check) (Down len) cause = λ document is read. cause
  ends_well (Some Check) (BadStore area at) cause = λ document is read. cause
  ends_well (Some (Load n)) Done cause = λ document load store. tt
  ends_well (Some (Load n)) Usage cause = λ document load store. cause
  ends_well (Some (Load n)) (BadDocument line) cause = λ document load store. cause
  ends_well (Some (Load n)) ReadFault cause = λ document load store. cause
  ends_well (Some (Load n)) (WriteFault done) cause = λ document load store. absurd (quiet.sink cause.1)
  ends_well (Some (Load n)) (OutOfMemory done) cause = λ document load store. tt
  ends_well (Some (Load n)) (Down len) cause = λ document load store. absurd (quiet.rig cause)
  ends_well (Some (Load n)) (BadStore area at) cause = λ document load store.
      absurd (not_bad plain cause.document.rules document.rules seen images area at (cause.load.rules ∙ sym load.rules) store.0 store.1 cause.holds)
