use Rattle.std.proofs.Common.{◌∙◌, sym, arith}
use Rattle.job_table.proofs.Rising.{start_found, start_past, start_missing}
use Rattle.job_table.proofs.jobs.place.Goals as goal

pub returns-then-i-rows : goal.returns-then-i-rows
returns-then-i-rows c =
    start_past 4294967296 c.args.job c.place_from-i.result c.args.rows.now c.requires c.place_from-i.ensures.before c.place_from-i.ensures.after (omega arith)

pub returns-then-is_job : goal.returns-then-is_job
returns-then-is_job c =
    start_found 4294967296 c.args.job c.place_from-i.result c.args.rows.now c.requires c.place_from-i.ensures.before c.place_from-i.ensures.after c.index-rows-i.result (omega arith) c.index-rows-i.is
    (sym c.is_job.ensures ∙ c.if-is_job.true)

pub returns : goal.returns
returns c =
    start_missing 4294967296 c.args.job c.place_from-i.result c.args.rows.now c.requires c.place_from-i.ensures.before c.place_from-i.ensures.after c.index-rows-i.result (omega arith) c.index-rows-i.is
    (sym c.is_job.ensures ∙ c.if-is_job.false)
