use Rattle.schema_lang.specs.Views.{said_view}
use Rattle.schema_lang.proofs.PartLemmas.{rows_missing, rows_fail, rows_ended, rows_more}
use Rattle.schema_lang.proofs.parse.read_rows.Goals as goal

pub returns-in-Ok-Missing : goal.returns-in-Ok-Missing
returns-in-Ok-Missing c = rows_missing _ c.loop-said.number c.loop-said.schema _ c.loop-said.invariant c.in-Ok-Missing.next (rw c.in-Ok-Missing.field-0-is at c.in-Ok-Missing.ensures.said)

pub returns-in-Ok-Ended : goal.returns-in-Ok-Ended
returns-in-Ok-Ended c =
    rw c.saturating_add-number.ensures (rows_ended _ c.loop-said.number c.loop-said.schema _ c.loop-said.invariant (said_view c.in-Ok-Line.said) c.in-Ok-Ended.schema (rw c.in-Ok-Line.field-0-is at c.in-Ok-Line.ensures.said) (rw (c.as_slice.ensures, c.in-Ok-Ended.field-0-is) at c.in-Ok-Ended.ensures))

pub returns-in-Err-read_step : goal.returns-in-Err-read_step
returns-in-Err-read_step c =
    rows_fail _ c.loop-said.number c.loop-said.schema _ c.loop-said.invariant (said_view c.in-Ok-Line.said) c.in-Err-read_step.fault (rw c.in-Ok-Line.field-0-is at c.in-Ok-Line.ensures.said) (rw c.as_slice.ensures at c.in-Err-read_step.ensures)

pub loop-said-preserved : goal.loop-said-preserved
loop-said-preserved c =
    rw c.saturating_add-number.ensures (rows_more _ c.loop-said.number c.loop-said.schema _ c.loop-said.invariant (said_view c.in-Ok-Line.said) c.in-Ok-More.schema (rw c.in-Ok-Line.field-0-is at c.in-Ok-Line.ensures.said) (rw (c.as_slice.ensures, c.in-Ok-More.field-0-is) at c.in-Ok-More.ensures))
