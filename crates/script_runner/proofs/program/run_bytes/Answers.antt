use Rattle.std.proofs.Common.{◌≡◌, ℕ, Bool, refl, subst, rules}
use Rattle.delf_disk.specs.Plain.{Plain}
use Rattle.script_runner.specs.Outcomes.{DocumentText}
use Rattle.documents.specs.Documents.{IsDocument, IsToldFault}
use Rattle.documents.specs.Requests.{moment_of_start}
use Rattle.script_runner.proofs.Sources.{fault_cause_of, fault_text_of, bytes_text}
use Rattle.script_runner.proofs.program.run_bytes.Goals.{in-At, in-Asked}
use Rattle.script_runner.proofs.program.run_bytes.Goals as goal

pub returns-in-Err-clause-cause : goal.returns-in-Err-clause-cause
returns-in-Err-clause-cause g c = fault_cause_of g.B.Blocks.served c.args.bytes.now c.in-Err.fault _ _ _ c.put_fault.result
    (subst (λ (b : Bool). IsToldFault b c.args.bytes.now c.in-Err.fault) c.are_served.ensures c.in-Err.ensures.fault) c.put_fault.ensures.cause

pub returns-in-Err-clause-text : goal.returns-in-Err-clause-text
returns-in-Err-clause-text g c = λ told. fault_text_of g.B.Blocks.served c.args.bytes.now c.in-Err.fault (c.args.rig ≡ c.args.rig)
    (λ document status. Plain (g.R.Disk.told c.args.rig) (g.R.Disk.honest c.args.rig) → DocumentText document (moment_of_start c.args.start (g.C.Clock.last_answer c.args.clock.now))
    (g.R.Disk.seen c.args.rig) (g.R.Disk.may_leave c.args.rig) (g.R.Disk.faults c.args.rig) (g.R.Disk.faults c.args.rig) (g.R.Disk.may_leave c.args.rig)
    (g.K.Sink.held c.args.sink.now) (g.K.Sink.held c.put_fault.new.sink) status) (g.K.Sink.held c.args.sink.now) (g.K.Sink.held c.put_fault.new.sink)
    c.put_fault.result
    (subst (λ (b : Bool). IsToldFault b c.args.bytes.now c.in-Err.fault) c.are_served.ensures c.in-Err.ensures.fault) refl (c.put_fault.ensures.text told)

pub returns-clause-text : goal.returns-clause-text
returns-clause-text g c = λ told.
    let same : c.match-start.moment ≡ moment_of_start c.args.start (g.C.Clock.last_answer c.match-start.clock) =
    elim c.match-start.branch [ in-At w ↦ search rules | in-Asked w ↦ search rules ] in
    bytes_text g.B.Blocks.served c.args.bytes.now (c.run_document.result.1 ≡ c.args.rig)
    (λ document status. Plain (g.R.Disk.told c.args.rig) (g.R.Disk.honest c.args.rig) → DocumentText document (moment_of_start c.args.start (g.C.Clock.last_answer c.match-start.clock))
    (g.R.Disk.seen c.args.rig) (g.R.Disk.may_leave c.args.rig) (g.R.Disk.faults c.args.rig) (g.R.Disk.faults c.run_document.result.1) (g.R.Disk.may_leave c.run_document.result.1)
    (g.K.Sink.held c.args.sink.now) (g.K.Sink.held c.run_document.new.sink) status) (g.K.Sink.held c.args.sink.now) (g.K.Sink.held c.run_document.new.sink)
    c.run_document.result.0 _ _ _ c.in-Ok.document
    (subst (λ (b : Bool). IsDocument b c.args.bytes.now c.in-Ok.document) c.are_served.ensures c.in-Ok.ensures.document) c.run_document.ensures.cause
    (λ plain. subst (λ (m : ℕ). DocumentText c.in-Ok.document m
    (g.R.Disk.seen c.args.rig) (g.R.Disk.may_leave c.args.rig) (g.R.Disk.faults c.args.rig) (g.R.Disk.faults c.run_document.result.1) (g.R.Disk.may_leave c.run_document.result.1)
    (g.K.Sink.held c.args.sink.now) (g.K.Sink.held c.run_document.new.sink) c.run_document.result.0) same (c.run_document.ensures.text told plain))
