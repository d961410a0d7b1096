use Rattle.delf_disk.proofs.Flags.{was_plain}
use Rattle.lane_tests.proofs.histories.read_entries.Goals as goal

pub loop-i-preserved : goal.loop-i-preserved
loop-i-preserved g c = λ plain. c.take_record.ensures.stands (was_plain c.take_record.ensures.kind plain)
