use Rattle.std.proofs.Common.{append_assoc}
use Rattle.entry_codec.proofs.entry_writer.put_step.Goals as goal

pub returns-in-Cut-clause-bytes : goal.returns-in-Cut-clause-bytes
returns-in-Cut-clause-bytes c = rw (c.put_ends.ensures.bytes, c.put_byte-at.ensures.bytes, c.put_word-at.ensures.bytes, c.in-Cut.is, ← c.job.view_is, ← c.edge.view_is) (simp append_assoc)

pub returns-in-Erase-clause-bytes : goal.returns-in-Erase-clause-bytes
returns-in-Erase-clause-bytes c = rw (c.put_id-in-Erase.ensures.bytes, c.put_word-at-in-Erase.ensures.bytes, c.in-Erase.is, ← c.job-in-Erase.view_is) (simp append_assoc)
