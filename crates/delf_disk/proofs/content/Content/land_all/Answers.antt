use Rattle.delf_disk.proofs.Rooms.{room_at}
use Rattle.delf_disk.proofs.content.Content.land_all.Goals as goal

pub land-requires : goal.land-requires
land-requires c = room_at c.args.writes.now c.loop-write.write-index c.write-item.result c.args.self.now c.loop-write.self c.loop-write-test.true c.write-item.is c.requires c.loop-write.invariant.room
