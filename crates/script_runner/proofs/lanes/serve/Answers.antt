use Rattle.documents.specs.Names.{IsNumberedCommand, HasNoLanes}
use Rattle.script_runner.proofs.LaneRuns.{served_if}
use Rattle.std.proofs.Common.{subst, sym}
use Rattle.script_runner.proofs.Calls.{if_ok}
use Rattle.script_runner.proofs.lanes.serve.Goals as goal

pub run_block-requires-clause-numbered : goal.run_block-requires-clause-numbered
run_block-requires-clause-numbered g c = rw c.as_slice.ensures (subst (IsNumberedCommand c.args.store.book.rules) c.in-Par.is c.requires.numbered)

pub run_block-requires-clause-served : goal.run_block-requires-clause-served
run_block-requires-clause-served g c = served_if g.B.Blocks.served (λ plain. subst HasNoLanes c.in-Par.is (c.requires.lanes plain))

pub returns-in-Par-clause-serves : goal.returns-in-Par-clause-serves
returns-in-Par-clause-serves g c = rw c.in-Par.is (rw (sym c.as_slice.ensures) c.run_block.ensures.serves)

pub returns-in-Par-clause-halts : goal.returns-in-Par-clause-halts
returns-in-Par-clause-halts g c = rw c.in-Par.is (rw (sym c.as_slice.ensures) c.run_block.ensures.halts)

pub returns-in-Par-clause-telling : goal.returns-in-Par-clause-telling
returns-in-Par-clause-telling g c = record { tells = c.run_block.ensures.kind.tells; keeps_word = c.run_block.ensures.kind.keeps_word }

pub returns-in-Par-clause-orders : goal.returns-in-Par-clause-orders
returns-in-Par-clause-orders g c = rw c.in-Par.is (c.run_block.ensures.kind.last_order, c.run_block.ensures.kind.order_count)

pub returns-in-Par-clause-settles : goal.returns-in-Par-clause-settles
returns-in-Par-clause-settles g c = if_ok _ c.run_block.result.1 (λ text is plain report. absurd (cc (c.in-Par.is, report)))
