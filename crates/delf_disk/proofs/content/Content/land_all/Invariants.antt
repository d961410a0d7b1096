use Rattle.delf_disk.proofs.Loops.{LandsSoFar}
use Rattle.delf_disk.proofs.content.Content.land_all.Given as goal

abbrev pub invariant-loop-write : goal.invariant-loop-write
invariant-loop-write l = LandsSoFar l.writes l.write-index l.initial.self l.self
