use Rattle.std.proofs.Common.{append_assoc}
use Rattle.entry_codec.proofs.entry_writer.put_what.Goals as goal

pub returns-in-Create-clause-bytes : goal.returns-in-Create-clause-bytes
returns-in-Create-clause-bytes c = rw (c.put_id.ensures.bytes, c.put_byte-at.ensures.bytes, c.put_tag-at.ensures.bytes, c.in-Create.is, ← c.kind.view_is) (simp append_assoc)

pub returns-in-Update-clause-bytes : goal.returns-in-Update-clause-bytes
returns-in-Update-clause-bytes c = rw (c.put_id-in-Update.ensures.bytes, c.put_tag-at-in-Update.ensures.bytes, c.in-Update.is) (simp append_assoc)

pub returns-in-Link-clause-bytes : goal.returns-in-Link-clause-bytes
returns-in-Link-clause-bytes c = rw (c.put_ends.ensures.bytes, c.put_byte-at-in-Link.ensures.bytes, c.put_tag-at-in-Link.ensures.bytes, c.in-Link.is, ← c.edge.view_is) (simp append_assoc)

pub returns-in-Unlink-clause-bytes : goal.returns-in-Unlink-clause-bytes
returns-in-Unlink-clause-bytes c = rw (c.put_word.ensures.bytes, c.put_ends-at.ensures.bytes, c.put_byte-at-in-Unlink.ensures.bytes, c.put_tag-at-in-Unlink.ensures.bytes, c.in-Unlink.is, ← c.edge-in-Unlink.view_is) (simp append_assoc)

pub returns-in-Delete-clause-bytes : goal.returns-in-Delete-clause-bytes
returns-in-Delete-clause-bytes c = rw (c.put_word-in-Delete.ensures.bytes, c.put_id-at.ensures.bytes, c.put_tag-at-in-Delete.ensures.bytes, c.in-Delete.is) (simp append_assoc)

pub returns-in-Restore-clause-bytes : goal.returns-in-Restore-clause-bytes
returns-in-Restore-clause-bytes c = rw (c.put_word-in-Restore.ensures.bytes, c.put_tag-at-in-Restore.ensures.bytes, c.in-Restore.is, ← c.job.view_is) (simp append_assoc)
