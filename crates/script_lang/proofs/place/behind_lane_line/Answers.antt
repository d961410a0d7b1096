use Rattle.std.proofs.Common.{◌≡◌}
use Rattle.std.proofs.lemmas.List.Elements.{All-same}
use Rattle.script_lang.specs.declared.block.LaneLine.TheVariants.{Within}
use Rattle.script_lang.specs.TypeNumbers.{CommandNames}
use Rattle.script_lang.proofs.TypeNumberLemmas.{begin_named, within_named, end_named}
use Rattle.script_lang.proofs.place.behind_lane_line.Goals as goal

pub returns-in_ok-next_lane-in-Begin-clause-names :
    goal.returns-in_ok-next_lane-in-Begin-clause-names
returns-in_ok-next_lane-in-Begin-clause-names c =
    let same : c.commands.inside.items.items ≡ c.args.commands = cc in
    begin_named c.args.schema.now c.args.block c.requires.block_names c.commands.inside.items.items c.args.block.head
    c.in_ok-all_lanes-in-Begin.field-0 c.in_ok-next_lane-in-Begin.field-0
    (All-same (CommandNames c.args.schema.now) c.commands.inside.items.items c.args.commands same c.requires.names)
    c.in_ok-all_lanes-in-Begin.ensures c.in_ok-next_lane-in-Begin.ensures

pub returns-in_ok-with_command-in-Within-clause-names :
    goal.returns-in_ok-with_command-in-Within-clause-names
returns-in_ok-with_command-in-Within-clause-names c =
    let same : c.commands.inside.items.items ≡ c.args.commands = cc in
    let is : c.in_ok-read_lane_line.field-0 ≡ Within c.in-Within.command = cc in
    within_named c.args.schema.now c.args.block c.requires.block_names c.commands.inside.items.items c.in_ok-read_lane_line.field-0
    c.in-Within.command c.in_ok-with_command-in-Within.field-0
    (All-same (CommandNames c.args.schema.now) c.commands.inside.items.items c.args.commands same c.requires.names) is
    c.in_ok-read_lane_line.ensures.names c.in_ok-with_command-in-Within.ensures

pub returns-in_ok-with_block-in-End-clause-names :
    goal.returns-in_ok-with_block-in-End-clause-names
returns-in_ok-with_block-in-End-clause-names c =
    let same : c.commands.inside.items.items ≡ c.args.commands = cc in
    end_named c.args.schema.now c.args.block c.requires.block_names c.commands.inside.items.items c.args.block.head
    c.in_ok-all_lanes-in-End.field-0 c.in_ok-with_block-in-End.field-0
    (All-same (CommandNames c.args.schema.now) c.commands.inside.items.items c.args.commands same c.requires.names)
    c.in_ok-all_lanes-in-End.ensures c.in_ok-with_block-in-End.ensures
