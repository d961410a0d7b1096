use Rattle.std.proofs.Common.{List, ℕ, ap, flat_map, ◌++◌, ◌∙◌, arith, rules}
use Rattle.delf_book.specs.Books.{state_in}
use Rattle.script_runner.specs.Serial.{object_line}
use Rattle.script_runner.specs.Worlds.{world_of}
use Rattle.script_runner.proofs.Finds.{object_listed}
use Rattle.documents.proofs.Places.{take_past}
use Rattle.script_runner.proofs.Moves.{moved_then, leaves_then, tells_then, tells_more, same_state}
use Rattle.script_runner.proofs.shows.object_rows.Goals as goal

pub object_row_line-requires-clause-there : goal.object_row_line-requires-clause-there
object_row_line-requires-clause-there g c =
    object_listed (state_in c.args.book.now).graph (state_in c.loop-row.book).graph c.in-Ok.rows.items c.as_slice-row-items.result.now c.loop-row.row-index c.row-item.result
    (same_state c.args.book.now c.loop-row.book c.loop-row.invariant.moved.only) c.in-Ok.ensures.rows c.as_slice-row-items.ensures.value c.in-Ok.ensures.rise (omega arith) c.row-item.is

pub returns-in_err-line-clause-leaves : goal.returns-in_err-line-clause-leaves
returns-in_err-line-clause-leaves g c =
    leaves_then g.R.Disk.told g.R.Disk.honest g.R.Disk.may_leave g.R.Disk.order g.R.Disk.orders g.R.Disk.faults c.args.book.now c.loop-row.book c.object_row_line.new.book c.from_residual.result c.loop-row.invariant.moved (search rules)

pub returns-in_default-extend_from_slice-clause-leaves : goal.returns-in_default-extend_from_slice-clause-leaves
returns-in_default-extend_from_slice-clause-leaves g c =
    moved_then g.R.Disk.told g.R.Disk.honest g.R.Disk.may_leave g.R.Disk.order g.R.Disk.orders g.R.Disk.faults c.args.book.now c.loop-row.book c.object_row_line.new.book c.loop-row.invariant.moved c.in_ok-line.ensures.leaves

pub loop-row-preserved : goal.loop-row-preserved
loop-row-preserved g c = record {
  moved = moved_then g.R.Disk.told g.R.Disk.honest g.R.Disk.may_leave g.R.Disk.order g.R.Disk.orders g.R.Disk.faults c.args.book.now c.loop-row.book c.object_row_line.new.book c.loop-row.invariant.moved c.in_ok-line.ensures.leaves;
  said = tells_more g.R.Disk.told g.R.Disk.honest g.R.Disk.may_leave c.args.book.now (object_line c.args.schema.now) c.as_slice-row-items.result.now c.loop-row.row-index c.row-item.result
      c.loop-row.text.items c.extend_from_slice.new.self.items c.in_ok-line.line (omega arith) c.row-item.is c.loop-row.invariant.said
      (tells_then g.R.Disk.told g.R.Disk.honest g.R.Disk.may_leave g.R.Disk.order g.R.Disk.orders g.R.Disk.faults c.args.book.now c.loop-row.book (λ w. object_line c.args.schema.now w c.row-item.result) c.in_ok-line.line c.loop-row.invariant.moved c.in_ok-line.ensures.text)
      (c.in-Ok-extend_from_slice.ensures.items ∙ ap (λ (t : List ℕ). c.loop-row.text.items ++ t) c.as_slice.ensures);
}

pub returns-clause-text : goal.returns-clause-text
returns-clause-text g c = λ plain clock e rests.
    c.from_vec.ensures ∙ c.loop-row.invariant.said plain clock e rests
    ∙ ap (flat_map (object_line c.args.schema.now (world_of c.args.book.now clock e)))
    (take_past c.as_slice-row-items.result.now c.loop-row.row-index (omega arith) ∙ c.as_slice-row-items.ensures.value ∙ c.in-Ok.ensures.rows)
