use Rattle.std.proofs.Common.{ap}
use Rattle.delf_model.specs.declared.entry.What.TheVariants.{Update}
use Rattle.delf_model.specs.Reply.{answered_by}
use Rattle.live_writes.proofs.calls.judge_update.Goals as goal

pub returns-in-Some : goal.returns-in-Some
returns-in-Some g c =
    λ s moment t i.
    ap (answered_by (Update c.args.tag c.args.id c.args.size)) (c.in-Some.ensures.refused s moment c.args.tag t i)
