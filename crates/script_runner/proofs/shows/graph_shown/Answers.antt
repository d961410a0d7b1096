use Rattle.std.proofs.Common.{ap, flat_map, ◌∙◌, rules}
use Rattle.std.proofs.lemmas.Result.{IfOk-weaker}
use Rattle.delf_model.specs.Graph.{Graph}
use Rattle.script_runner.specs.Serial.{edge_line}
use Rattle.script_runner.specs.Worlds.{world_of}
use Rattle.delf_book.specs.Books.{state_in}
use Rattle.script_runner.proofs.Moves.{moved_then, leaves_then, leaves_moved, tells_then, line_text, same_state, three_are}
use Rattle.script_runner.proofs.shows.graph_shown.Goals as goal

pub returns-in_err-keys-clause-leaves : goal.returns-in_err-keys-clause-leaves
returns-in_err-keys-clause-leaves g c =
    leaves_then g.R.Disk.told g.R.Disk.honest g.R.Disk.may_leave g.R.Disk.order g.R.Disk.orders g.R.Disk.faults c.args.book.now c.object_rows.new.book c.edge_rows.new.book c.from_residual-in_err-keys.result c.in_ok-rows.ensures.leaves (search rules)

pub returns-clause-leaves : goal.returns-clause-leaves
returns-clause-leaves g c = leaves_moved g.R.Disk.told g.R.Disk.honest g.R.Disk.may_leave g.R.Disk.order g.R.Disk.orders g.R.Disk.faults c.args.book.now c.edge_rows.new.book c.line_or.result
    (moved_then g.R.Disk.told g.R.Disk.honest g.R.Disk.may_leave g.R.Disk.order g.R.Disk.orders g.R.Disk.faults c.args.book.now c.object_rows.new.book c.edge_rows.new.book c.in_ok-rows.ensures.leaves c.in_ok-keys.ensures.leaves) c.line_or.ensures.err

pub returns-clause-text : goal.returns-clause-text
returns-clause-text g c = line_text _ c.joined_three.result c.line_or.result (IfOk-weaker c.joined_three.result _ _ (λ text said plain clock e rests.
    three_are text _ _ _ _ _ _ said (c.as_slice.ensures ∙ c.in_ok-first.ensures.text)
    (c.as_slice-2.ensures ∙ c.in_ok-rows.ensures.text plain clock e rests)
    (c.as_slice-3.ensures ∙ tells_then g.R.Disk.told g.R.Disk.honest g.R.Disk.may_leave g.R.Disk.order g.R.Disk.orders g.R.Disk.faults c.args.book.now c.object_rows.new.book
    (λ w. flat_map (edge_line c.args.schema.now w) (state_in c.object_rows.new.book).graph.edges) c.in_ok-keys.keys c.in_ok-rows.ensures.leaves c.in_ok-keys.ensures.text plain clock e rests
    ∙ ap (λ (x : Graph). flat_map (edge_line c.args.schema.now (world_of c.args.book.now clock e)) x.edges) (same_state c.args.book.now c.object_rows.new.book c.in_ok-rows.ensures.leaves.only)))
    c.joined_three.ensures) c.line_or.ensures.ok
