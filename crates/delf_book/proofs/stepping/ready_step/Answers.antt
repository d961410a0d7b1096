use Rattle.delf_book.specs.Claims.{room_for}
use Rattle.delf_book.proofs.stepping.ready_step.Goals as goal

pub returns-in_err-make_ready-clause-keeps : goal.returns-in_err-make_ready-clause-keeps
returns-in_err-make_ready-clause-keeps g c = c.make_ready.ensures.kept (room_for c.args.spare c.args.claims) c.requires.room
