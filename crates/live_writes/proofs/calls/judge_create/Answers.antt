use Rattle.std.proofs.Common.{ap}
use Rattle.delf_model.specs.declared.entry.What.TheVariants.{Create}
use Rattle.delf_model.specs.Reply.{answered_by}
use Rattle.live_writes.proofs.calls.judge_create.Goals as goal

pub returns-in-Some : goal.returns-in-Some
returns-in-Some g c =
    λ s moment t i.
    ap (answered_by (Create c.args.tag c.args.kind c.args.id c.args.size)) (c.in-Some.ensures.refused s moment c.args.kind c.args.tag t i)

pub returns-in-None : goal.returns-in-None
returns-in-None g c =
    λ s moment t i.
    ap (answered_by (Create c.args.tag c.args.kind c.args.id c.args.size)) (c.in-None.ensures.refused s moment c.args.kind c.args.tag t i)
