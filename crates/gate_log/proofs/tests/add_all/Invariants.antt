use Rattle.delf_disk.specs.Images.{Only}
use Rattle.delf_disk.specs.Plain.{Plain}
use Rattle.gate_log.proofs.tests.add_all.Given as goal

abbrev pub invariant-loop-head : goal.invariant-loop-head
invariant-loop-head g l = Plain (g.D.Disk.told l.disk) (g.D.Disk.honest l.disk) → Only (g.D.Disk.seen l.disk) (g.D.Disk.may_leave l.disk)
