use Rattle.std.proofs.Common.{append_assoc}
use Rattle.entry_codec.proofs.item_writer.put_row.Goals as goal

pub returns-in-Object-clause-bytes : goal.returns-in-Object-clause-bytes
returns-in-Object-clause-bytes c = rw (c.put_word.ensures.bytes, c.put_long-at.ensures.bytes, c.put_word-at-in-Object.ensures.bytes, c.put_byte-at.ensures.bytes, c.put_id-at.ensures.bytes, c.put_word-at.ensures.bytes, c.in-Object.is, ← c.job.view_is, ← c.row.view_is) (simp append_assoc)

pub returns-in-Edge-clause-bytes : goal.returns-in-Edge-clause-bytes
returns-in-Edge-clause-bytes c = rw (c.put_word-in-Edge.ensures.bytes, c.put_word-at-in-Edge-3.ensures.bytes, c.put_word-at-in-Edge-2.ensures.bytes, c.put_ends-at.ensures.bytes, c.put_byte-at-in-Edge.ensures.bytes, c.put_word-at-in-Edge.ensures.bytes, c.in-Edge.is, ← c.job-in-Edge.view_is, ← c.row-in-Edge.view_is) (simp append_assoc)
