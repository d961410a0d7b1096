use Rattle.std.proofs.Common.{Err}
use Rattle.delf_disk.specs.Areas.{area_of}
use Rattle.gate_log.proofs.Uniqueness.{scanned_foreign, scanned_broken}
use Rattle.gate_log.proofs.Fronts.{fault_scanned, wholly_scanned}
use Rattle.gate_log.proofs.scan.find.Goals as goal

pub returns-in-Err-clause-scanned : goal.returns-in-Err-clause-scanned
returns-in-Err-clause-scanned g c = λ plain.
    fault_scanned c.args.mark.now (area_of c.args.area (g.D.Disk.seen c.args.disk.now)) c.in-Err.fault (c.in-Err.ensures.scanned plain)

pub returns-in-Err-clause-foreign : goal.returns-in-Err-clause-foreign
returns-in-Err-clause-foreign g c = λ plain foreign.
    scanned_foreign c.args.mark.now _ (Err c.in-Err.fault) c.told-mark (returns-in-Err-clause-scanned g c plain) foreign

pub returns-in-Err-clause-broken : goal.returns-in-Err-clause-broken
returns-in-Err-clause-broken g c = λ plain at broken.
    scanned_broken c.args.mark.now _ (Err c.in-Err.fault) at c.told-mark (returns-in-Err-clause-scanned g c plain) broken

pub returns-in-Ok-clause-scanned : goal.returns-in-Ok-clause-scanned
returns-in-Ok-clause-scanned g c = λ plain.
    wholly_scanned c.args.mark.now (area_of c.args.area (g.D.Disk.seen c.args.disk.now)) c.in-Ok.scan c.whole.result c.told-mark c.in-Ok.ensures.tied (c.in-Ok.ensures.scanned plain)
    c.whole.ensures.ok c.whole.ensures.err

pub returns-in-Ok-clause-foreign : goal.returns-in-Ok-clause-foreign
returns-in-Ok-clause-foreign g c = λ plain foreign.
    scanned_foreign c.args.mark.now _ c.whole.result c.told-mark (returns-in-Ok-clause-scanned g c plain) foreign

pub returns-in-Ok-clause-broken : goal.returns-in-Ok-clause-broken
returns-in-Ok-clause-broken g c = λ plain at broken.
    scanned_broken c.args.mark.now _ c.whole.result at c.told-mark (returns-in-Ok-clause-scanned g c plain) broken
