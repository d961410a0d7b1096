use Rattle.delf_disk.specs.Plain.{Plain}
use Rattle.gate_log.specs.Logs.{StandIn}
use Rattle.lane_tests.proofs.histories.read_entries.Given as goal

abbrev pub invariant-loop-i : goal.invariant-loop-i
invariant-loop-i g l = Plain (g.D.Disk.told l.disk) (g.D.Disk.honest l.disk) → StandIn l.log.area l.log.sizes (g.D.Disk.may_leave l.disk)
