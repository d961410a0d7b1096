use Rattle.delf_model.proofs.Good.{keeps_room}
use Rattle.reach_laws.proofs.room_is_kept.Goals as goal

pub returns : goal.returns
returns c = keeps_room
