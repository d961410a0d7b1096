use Rattle.delf_disk.proofs.Rooms.{room_at}
use Rattle.delf_disk.proofs.content.Content.leave_all.Goals as goal

pub leave-requires : goal.leave-requires
leave-requires c = room_at c.args.writes.now c.loop-write.write-index c.write-item.result c.args.self.now c.loop-write.self c.loop-write-test.true c.write-item.is c.requires c.loop-write.invariant.room
