use Rattle.std.proofs.Common.{sym, ◌∙◌, arith, ◌<◌, length}
use Rattle.script_runner.specs.Blocks.{lane_lines}
use Rattle.script_runner.proofs.LaneLines.{lane_none, place_is, lane_grows, lines_all}
use Rattle.script_runner.proofs.LaneRuns.{command_there, reply_there}
use Rattle.script_runner.proofs.lanes.lane_lines.Goals as goal

pub loop-place-init : goal.loop-place-init
loop-place-init c = c.new-text.ensures.items ∙ sym (lane_none c.args.schema.now c.args.lane c.args.commands.now)

pub bounds-commands-place : goal.bounds-commands-place
bounds-commands-place c = command_there c.args.schema.now c.args.commands.now c.args.replies.now c.loop-place.place c.requires c.loop-place-test.true

pub numbered_line-requires : goal.numbered_line-requires
numbered_line-requires c =
    let there : c.loop-place.place < length c.args.commands.now =
    command_there c.args.schema.now c.args.commands.now c.args.replies.now c.loop-place.place c.requires c.loop-place-test.true in
    reply_there c.args.schema.now c.args.commands.now c.args.replies.now c.loop-place.place c.index-commands-place.result c.index-replies-place.result c.requires
    (place_is c.args.commands.now c.loop-place.place c.index-commands-place.result there c.index-commands-place.is)
    (place_is c.args.replies.now c.loop-place.place c.index-replies-place.result c.loop-place-test.true c.index-replies-place.is)

pub loop-place-preserved : goal.loop-place-preserved
loop-place-preserved c =
    let there : c.loop-place.place < length c.args.commands.now =
    command_there c.args.schema.now c.args.commands.now c.args.replies.now c.loop-place.place c.requires c.loop-place-test.true in
    lane_grows c.args.schema.now c.args.lane c.args.commands.now c.args.replies.now c.loop-place.place c.index-commands-place.result c.index-replies-place.result
    c.loop-place.text.items c.extend_from_slice.new.self.items c.as_slice.result.now
    (place_is c.args.commands.now c.loop-place.place c.index-commands-place.result there c.index-commands-place.is)
    (place_is c.args.replies.now c.loop-place.place c.index-replies-place.result c.loop-place-test.true c.index-replies-place.is)
    c.loop-place.invariant (c.as_slice.ensures ∙ c.in_ok-line.ensures) c.in_ok-extend_from_slice.ensures.items

pub returns : goal.returns
returns c = c.from_vec.ensures ∙ lines_all (lane_lines c.args.schema.now c.args.lane c.args.commands.now) c.args.replies.now c.loop-place.place c.loop-place.text.items (omega arith) c.loop-place.invariant
