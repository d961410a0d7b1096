use Rattle.delf_disk.proofs.Loops.{LeavesSoFar}
use Rattle.delf_disk.proofs.content.Content.leave_all.Given as goal

abbrev pub invariant-loop-write : goal.invariant-loop-write
invariant-loop-write l = LeavesSoFar l.pick l.rest l.writes l.write-index l.initial.self l.self
