use Rattle.std.proofs.Common.{vec_len}
use Rattle.delf_book.specs.Claims.{room_for}
use Rattle.delf_book.proofs.begin.ready_claim.Goals as goal

pub returns-in_err-make_step_room-clause-keeps : goal.returns-in_err-make_step_room-clause-keeps
returns-in_err-make_step_room-clause-keeps g c =
    c.make_step_room.ensures.kept (room_for c.args.spare (vec_len c.args.claims.now)) c.requires.room
