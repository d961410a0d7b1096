use denote.Exit.{no}
use denote.Param.{param}
use denote.Param.Send.{param_send, arg_send}
use Rattle.delf_service.proofs.Crossing.{book_send}
use Rattle.lane_tests.proofs.sends.book_is_sent.Goals as goal

pub sends-requires-send-T : goal.sends-requires-send-T
sends-requires-send-T g c κs lives =
    param_send 0 _ (arg_send _ no _ (book_send (param 0 g.row.G) (param 1 g.row.R) g.G.GraphStore g.R.Disk c.type_bounds.send-G c.type_bounds.send-R))
