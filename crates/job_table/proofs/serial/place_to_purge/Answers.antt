use Rattle.std.proofs.Common.{sym, ◌∙◌, arith}
use Rattle.job_table.specs.Serial.{purges_in}
use Rattle.job_table.proofs.Purges.{passes_here, fails_here, none_passes}
use Rattle.job_table.proofs.serial.place_to_purge.Goals as goal

pub returns-then-is_over : goal.returns-then-is_over
returns-then-is_over c =
    passes_here (purges_in c.args.owners.now.list c.args.items.now.list c.args.window c.args.moment) c.args.rows.now c.rows.i c.rows.invariant c.index-rows-i.result (omega arith) c.index-rows-i.is (sym c.is_over.ensures ∙ c.if-is_over.true)

pub rows-preserved : goal.rows-preserved
rows-preserved c =
    fails_here (purges_in c.args.owners.now.list c.args.items.now.list c.args.window c.args.moment) c.args.rows.now c.rows.i c.rows.invariant c.index-rows-i.result (omega arith) c.index-rows-i.is (sym c.is_over.ensures ∙ c.if-is_over.false)

pub returns : goal.returns
returns c = none_passes (purges_in c.args.owners.now.list c.args.items.now.list c.args.window c.args.moment) c.args.rows.now c.rows.i c.rows.invariant (omega arith)
