-- The type numbers in what was read behind a line in a lane.
use Rattle.std.proofs.Common.{◌≡◌, IfOk, Bool, true, false, cond, Result, Ok, Err, List, [], length, nat_lt, sym, subst}
use Rattle.std.specs.List.{All}
use Rattle.std.proofs.lemmas.List.Elements.{All-nil, All-push, All-same}
use Rattle.delf_model.specs.declared.script.Command.{Command}
use Rattle.delf_model.specs.declared.script.Command.TheVariants.{Par}
use Rattle.delf_model.specs.declared.script.Lane.{Lane}
use Rattle.delf_model.specs.declared.script.LaneCommand.{LaneCommand}
use Rattle.delf_model.specs.declared.schema.Schema.{Schema}
use Rattle.script_lang.specs.declared.fault.Wrong.{Wrong}
use Rattle.script_lang.specs.declared.fault.Wrong.TheVariants.{OutOfRange}
use Rattle.script_lang.specs.declared.command.BlockHead.{BlockHead}
use Rattle.script_lang.specs.declared.block.LaneLine.{LaneLine}
use Rattle.script_lang.specs.declared.block.LaneLine.TheVariants.{Within}
use Rattle.script_lang.specs.declared.place.OpenBlock.{OpenBlock}
use Rattle.script_lang.specs.declared.place.Place.TheVariants.{Outside, InLane}
use Rattle.script_lang.specs.declared.place.Reading.{Reading}
use Rattle.script_lang.specs.Scripts.{in_lane, next_lane, all_lanes, with_block, with_command}
use Rattle.script_lang.specs.TypeNumbers.{CommandNames, LaneCommandNames, LaneNames, BlockNames, ReadingNames}
use Rattle.script_lang.specs.Lines.{LaneLineNames}

module _ (schema : Schema) (block : OpenBlock) (named : BlockNames schema block) where
  lanes_named : All (LaneNames schema) (all_lanes block)
  lanes_named = All-push (LaneNames schema) block.whole (record { commands = block.commands }) named.whole (record { commands = named.commands })

  by_room : (commands : List Command) (head : BlockHead) (lanes : List Lane) (b : Bool) →
      All (CommandNames schema) commands → All (LaneNames schema) lanes →
      let made : Result Reading Wrong = cond b (Ok (record { commands = commands; place = in_lane head lanes [] })) (Err OutOfRange) in
      IfOk made (ReadingNames schema)
  by_room commands head lanes true all whole =
      record { commands = all; place = record { whole = whole; commands = All-nil (LaneCommandNames schema) } }
  by_room commands head lanes false all whole = tt

  pub begin_named : (commands : List Command) (head : BlockHead) (lanes : List Lane) (reading : Reading) →
      All (CommandNames schema) commands → lanes ≡ all_lanes block → Ok reading ≡ next_lane commands head lanes → ReadingNames schema reading
  begin_named commands head lanes reading all is read =
      let whole = All-same (LaneNames schema) lanes (all_lanes block) is lanes_named in
      subst (λ (r : Result Reading Wrong). IfOk r (ReadingNames schema)) (sym read)
      (by_room commands head lanes (nat_lt (length lanes) 16) all whole)

  pub within_named : (commands : List Command) (line : LaneLine) (command : LaneCommand) (more : OpenBlock) →
      All (CommandNames schema) commands → line ≡ Within command → LaneLineNames schema line → more ≡ with_command block command →
      ReadingNames schema (record { commands = commands; place = InLane more })
  within_named commands line command more all is says made =
      let one = subst (λ (l : LaneLine). LaneLineNames schema l) is says in
      let kept : BlockNames schema (with_command block command) =
      record { whole = named.whole; commands = All-push (LaneCommandNames schema) block.commands command named.commands one } in
      record { commands = all; place = subst (λ (b : OpenBlock). BlockNames schema b) (sym made) kept }

  pub end_named : (commands : List Command) (head : BlockHead) (lanes : List Lane) (more : List Command) →
      All (CommandNames schema) commands → lanes ≡ all_lanes block → more ≡ with_block commands head lanes →
      ReadingNames schema (record { commands = more; place = Outside })
  end_named commands head lanes more all is made =
      let whole = All-same (LaneNames schema) lanes (all_lanes block) is lanes_named in
      record {
        commands = All-same (CommandNames schema) more (with_block commands head lanes) made
            (All-push (CommandNames schema) commands (Par head.quiet head.workers head.turns lanes) all whole);
        place = tt;
      }
