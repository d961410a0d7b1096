use Rattle.std.proofs.Common.{ap}
use Rattle.delf_model.specs.declared.entry.What.TheVariants.{Unlink}
use Rattle.delf_model.specs.Reply.{answered_by}
use Rattle.live_writes.proofs.calls.judge_unlink.Goals as goal

pub returns-in-Some : goal.returns-in-Some
returns-in-Some g c =
    λ s moment t i.
    ap (answered_by (Unlink c.args.tag c.args.key.edge c.args.key.from c.args.key.to c.args.name)) (c.in-Some.ensures s moment c.args.tag t i)

pub returns-in-None : goal.returns-in-None
returns-in-None g c =
    λ s moment t i.
    ap (answered_by (Unlink c.args.tag c.args.key.edge c.args.key.from c.args.key.to c.args.name)) (c.in-None.ensures s moment c.args.tag t i)
