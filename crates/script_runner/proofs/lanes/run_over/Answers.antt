use Rattle.std.proofs.Common.{subst}
use Rattle.std.specs.Prelude.{IsSomeAnd}
use Rattle.script_runner.specs.Blocks.{RunsInto}
use Rattle.script_runner.proofs.lanes.run_over.Goals as goal

pub run-outs-requires : goal.run-outs-requires
run-outs-requires g c = c.requires.ready.may c.args.store c.args.lanes c.args.workers c.args.turns c.requires.served c.requires.may

pub returns : goal.returns
returns g c =
    subst (λ left. IsSomeAnd left (RunsInto g.R.Disk (λ store. store.book) (λ store. store.clock) (λ v. v.items) c.args.store c.args.lanes.now c.run-outs.result)) c.in-Some.is
    (c.requires.ready.does c.args.store c.args.lanes c.args.workers c.args.turns c.run-outs.result c.run-outs.new.slot c.requires.served c.requires.may c.run-outs.ensures)
