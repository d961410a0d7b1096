use Rattle.std.proofs.Common.{ap, sym, ◌∙◌, arith, ◌<◌, length, get_or}
use Rattle.std.proofs.lemmas.Option.{slice_get-get_or}
use Rattle.script_runner.specs.Blocks.{lane_lines, lanes_lines}
use Rattle.script_runner.proofs.LaneLines.{lanes_none, lanes_grow, outs_all}
use Rattle.script_runner.proofs.LaneRuns.{lane_there, out_there}
use Rattle.script_runner.proofs.lanes.lanes_lines.Goals as goal

pub loop-place-init : goal.loop-place-init
loop-place-init c = c.new-text.ensures.items ∙ sym (lanes_none c.args.schema.now 0 c.args.lanes.now)

pub bounds-lanes-place : goal.bounds-lanes-place
bounds-lanes-place c = lane_there c.args.schema.now c.args.lanes.now c.args.outs.now c.loop-place.place c.requires.numbered c.loop-place-test.true

pub lane_lines-requires : goal.lane_lines-requires
lane_lines-requires c =
    let k = c.loop-place.place in
    let there : k < length c.args.lanes.now = lane_there c.args.schema.now c.args.lanes.now c.args.outs.now k c.requires.numbered c.loop-place-test.true in
    rw c.as_slice.ensures (rw c.as_slice-in-loop-place.ensures (
    out_there c.args.schema.now c.args.lanes.now c.args.outs.now k (get_or c.args.lanes.now k c.index-lanes-place.result) (get_or c.args.outs.now k c.index-outs-place.result)
    c.requires.numbered (slice_get-get_or c.args.lanes.now k c.index-lanes-place.result there) (slice_get-get_or c.args.outs.now k c.index-outs-place.result c.loop-place-test.true)))

pub loop-place-preserved : goal.loop-place-preserved
loop-place-preserved c =
    let k = c.loop-place.place in
    let there : k < length c.args.lanes.now = lane_there c.args.schema.now c.args.lanes.now c.args.outs.now k c.requires.numbered c.loop-place-test.true in
    let one = get_or c.args.lanes.now k c.index-lanes-place.result in
    let out = get_or c.args.outs.now k c.index-outs-place.result in
    lanes_grow c.args.schema.now c.args.lanes.now c.args.outs.now k one out
    c.loop-place.text.items c.extend_from_slice.new.self.items c.as_slice-in-loop-place-2.result.now
    (slice_get-get_or c.args.lanes.now k c.index-lanes-place.result there) (slice_get-get_or c.args.outs.now k c.index-outs-place.result c.loop-place-test.true)
    c.loop-place.invariant
    (c.as_slice-in-loop-place-2.ensures ∙ c.in_ok-lines.ensures
    ∙ ap (λ cs. lane_lines c.args.schema.now k cs c.as_slice-in-loop-place.result.now) c.as_slice.ensures
    ∙ ap (λ rs. lane_lines c.args.schema.now k one.commands rs) c.as_slice-in-loop-place.ensures)
    c.in_ok-extend_from_slice.ensures.items

pub returns : goal.returns
returns c = c.from_vec.ensures ∙ outs_all (lanes_lines c.args.schema.now 0 c.args.lanes.now) c.args.outs.now c.loop-place.place c.loop-place.text.items (omega arith) c.loop-place.invariant
