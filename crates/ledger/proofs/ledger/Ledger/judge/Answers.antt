use Rattle.std.proofs.Common.{sym}
use Rattle.ledger.proofs.Judging.{judged_in, judged_legal}
use Rattle.ledger.proofs.ledger.Ledger.judge.Goals as goal

pub judge-requires : goal.judge-requires
judge-requires g c =
    (c.self.inside.history.list, c.self.invariant.is_legal, c.self.invariant.is_table, c.self.invariant.is_graph)

pub returns-clause-reply : goal.returns-clause-reply
returns-clause-reply g c =
    judged_in _ _ c.args.moment c.args.seat c.seat_entries.result c.args.call.now c.judge.result c.self.view_is
    (c.seat_entries.ensures _ c.self.invariant.is_table)
    (c.judge.ensures _ c.self.invariant.is_table c.self.invariant.is_graph)

pub returns-clause-legal : goal.returns-clause-legal
returns-clause-legal g c =
    judged_legal _ _ c.args.moment c.args.seat c.args.call.now c.judge.result c.self.view_is
    (sym c.self.invariant.is_graph.rules) c.self.invariant.is_table.keeps.starts
    (judged_in _ _ c.args.moment c.args.seat c.seat_entries.result c.args.call.now c.judge.result c.self.view_is
    (c.seat_entries.ensures _ c.self.invariant.is_table)
    (c.judge.ensures _ c.self.invariant.is_table c.self.invariant.is_graph))
    c.requires.not_before c.requires.within c.requires.seat c.requires.numbered
