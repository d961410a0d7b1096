use Rattle.std.proofs.Common.{ℕ, [], Some, subst, sym, ap, ◌∙◌}
use Rattle.std.proofs.lemmas.Result.{IfOk-weaker}
use Rattle.std.specs.Prelude.{IfOk}
use Rattle.delf_model.specs.declared.call.Refusal.TheVariants as refusal
use Rattle.delf_model.specs.declared.script.Command.TheVariants.{Par}
use Rattle.job_report.specs.Texts.{refusal_text}
use Rattle.delf_service.specs.declared.standing.Key.{Key}
use Rattle.delf_service.specs.Blocks.{IsBlock}
use Rattle.delf_service.specs.Standings.{standing_of}
use Rattle.script_runner.specs.Standing.{Carried}
use Rattle.script_runner.specs.Worlds.{world_of}
use Rattle.script_runner.proofs.Calls.{if_ok, ok_is, on_err}
use Rattle.script_runner.proofs.LaneRuns.{may_run, block_serves, block_halts, block_falls, block_kind, block_lined, plain_now, down_block, down_halts}
use Rattle.script_runner.proofs.lanes.run_block.Goals as goal

pub run_over-store-requires-clause-may : goal.run_over-store-requires-clause-may
run_over-store-requires-clause-may g c = may_run c.args.store.book.rules c.args.workers c.args.lanes.now c.requires.numbered

pub lines_of-lines-requires : goal.lines_of-lines-requires
lines_of-lines-requires g c =
    let ran = c.run_over-store.ensures.does in
    λ outs is.
    block_lined g.R.Disk c.args.schema.now c.args.quiet c.args.workers c.args.turns c.args.lanes.now c.args.store.book c.run_over-store.result.0.book c.args.store.clock
    (λ v. v.items) outs c.requires.named c.requires.numbered ran.has
    (subst (λ o. IfOk o (λ v. IsBlock (standing_of g.R.Disk c.args.store.book (Some c.args.store.clock)) (standing_of g.R.Disk c.run_over-store.result.0.book (Some c.args.store.clock))
    c.args.store.clock c.args.lanes.now v.items)) is ran.block)

pub returns-then-is_down-clause-serves : goal.returns-then-is_down-clause-serves
returns-then-is_down-clause-serves g c = IfOk-weaker c.down_refused-line.result _ _ (λ text said plain e stands.
    down_block g.R.Disk c.args.schema.now c.args.quiet c.args.workers c.args.turns c.args.lanes.now
    c.args.store.book c.args.store.book c.args.store.clock e text (sym c.is_down.ensures ∙ c.if-is_down.true)
    (said ∙ ap (λ (n : ℕ). refusal_text (refusal.Down n) n []) c.len-len.ensures.value) stands) c.down_refused-line.ensures

pub returns-then-is_down-clause-halts : goal.returns-then-is_down-clause-halts
returns-then-is_down-clause-halts g c = on_err c.down_refused-line.result (λ plain e stands.
    down_halts g.R.Disk c.args.schema.now c.args.quiet c.args.workers c.args.turns c.args.lanes.now
    c.args.store.book c.args.store.book c.args.store.clock e c.len-len.ensures.legal stands)

pub returns-clause-rules : goal.returns-clause-rules
returns-clause-rules g c =
    let ran = c.run_over-store.ensures.does in
    ap (λ (k : Key). k.rules) ran.has.later.key

pub returns-clause-serves : goal.returns-clause-serves
returns-clause-serves g c =
    let ran = c.run_over-store.ensures.does in
    if_ok _ c.lines_of-lines.result (λ text is plain e stands.
    subst (λ (moment : ℕ). Carried g.R.Disk.may_leave g.R.Disk.faults c.args.schema.now (Par c.args.quiet c.args.workers c.args.turns c.args.lanes.now)
    (world_of c.args.store.book c.args.store.clock e) (g.R.Disk.faults c.args.store.book.rig) c.run_over-store.result.0.book moment text) (sym c.run_over-store.ensures.keeps)
    (block_serves g.R.Disk c.args.schema.now c.args.quiet c.args.workers c.args.turns c.args.lanes.now c.args.store.book c.run_over-store.result.0.book c.args.store.clock
    (λ v. v.items) c.run_over-store.result.1 e text c.len-after.result c.is_down-down.result (sym c.is_down.ensures ∙ c.if-is_down.false) plain c.len-len.ensures.legal
    (g.met.R.Disk.reads_as_image c.args.store.book.rig plain) (c.standing.ensures.holds plain) stands c.standing.ensures.paired c.standing-2.ensures.paired ran c.len-after.ensures.value c.is_down-down.ensures
    (ok_is _ c.lines_of-lines.result text is c.lines_of-lines.ensures)
    c.standing-2.ensures.alone (c.standing-2.ensures.holds
    (plain_now g.R.Disk c.args.schema.now c.args.quiet c.args.workers c.args.turns c.args.lanes.now c.args.store.book c.run_over-store.result.0.book c.args.store.clock ran.has plain))))

pub returns-clause-halts : goal.returns-clause-halts
returns-clause-halts g c =
    let ran = c.run_over-store.ensures.does in
    on_err c.lines_of-lines.result (λ plain e stands.
    block_halts g.R.Disk c.args.schema.now c.args.quiet c.args.workers c.args.turns c.args.lanes.now c.args.store.book c.run_over-store.result.0.book c.args.store.clock
    e (sym c.is_down.ensures ∙ c.if-is_down.false) plain c.len-len.ensures.legal (g.met.R.Disk.reads_as_image c.args.store.book.rig plain) (c.standing.ensures.holds plain) stands
    ran.has ran.told (c.standing-2.ensures.holds
    (plain_now g.R.Disk c.args.schema.now c.args.quiet c.args.workers c.args.turns c.args.lanes.now c.args.store.book c.run_over-store.result.0.book c.args.store.clock ran.has plain)))

pub returns-clause-cause : goal.returns-clause-cause
returns-clause-cause g c =
    let ran = c.run_over-store.ensures.does in
    block_falls g.R.Disk c.args.schema.now c.args.quiet c.args.workers c.args.turns c.args.lanes.now c.args.store.book c.run_over-store.result.0.book c.args.store.clock
    ran.has c.requires.unclaimed
    c.run_over-store.ensures.leaves

pub returns-clause-kind : goal.returns-clause-kind
returns-clause-kind g c =
    let ran = c.run_over-store.ensures.does in
    block_kind g.R.Disk c.args.schema.now c.args.quiet c.args.workers c.args.turns
    c.args.lanes.now c.args.store.book c.run_over-store.result.0.book c.args.store.clock ran.has
