use Rattle.std.proofs.Common.{◌≡◌, Bool, subst}
use Rattle.delf_disk.specs.Plain.{Plain}
use Rattle.documents.specs.Loads.{IsLoad}
use Rattle.script_runner.specs.LoadEnds.{LoadText}
use Rattle.script_runner.proofs.LoadSteps.{load_of_text}
use Rattle.script_runner.proofs.loading.run_load.Goals as goal

pub returns-clause-text : goal.returns-clause-text
returns-clause-text g c = λ told.
    load_of_text g.B.Blocks.served c.args.n (c.load_into.result.1 ≡ c.args.rig) (λ document status. Plain (g.R.Disk.told c.args.rig) (g.R.Disk.honest c.args.rig)
    → LoadText c.args.n document (g.C.Clock.last_answer c.now-moment.new.self) (g.R.Disk.seen c.args.rig) (g.R.Disk.may_leave c.args.rig)
    (g.R.Disk.faults c.args.rig) (g.R.Disk.faults c.load_into.result.1) (g.R.Disk.may_leave c.load_into.result.1) (g.K.Sink.held c.args.sink.now) (g.K.Sink.held c.load_into.new.sink) status)
    (g.K.Sink.held c.args.sink.now) (g.K.Sink.held c.load_into.new.sink) c.load_into.result.0 c.in-Ok.document
    (subst (λ (b : Bool). IsLoad b c.args.n c.in-Ok.document) c.are_served.ensures c.in-Ok.ensures.load)
    (rw c.now-moment.ensures.answer (c.load_into.ensures.text told))
