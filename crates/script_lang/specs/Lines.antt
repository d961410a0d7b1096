-- The numbers in a line of a script are those of types that its schema declares.
use Rattle.delf_model.specs.declared.schema.Schema.{Schema}
use Rattle.script_lang.specs.declared.command.ScriptLine.{ScriptLine}
use Rattle.script_lang.specs.declared.command.ScriptLine.TheVariants.{Serial, Block}
use Rattle.script_lang.specs.declared.block.LaneLine.{LaneLine}
use Rattle.script_lang.specs.declared.block.LaneLine.TheVariants.{Begin, Within, End}
use Rattle.script_lang.specs.TypeNumbers.{CommandNames, LaneCommandNames}

abbrev pub ScriptLineNames : Schema → ScriptLine → Type 0
ScriptLineNames schema (Serial command) = CommandNames schema command
ScriptLineNames schema (Block head) = Unit {0}

abbrev pub LaneLineNames : Schema → LaneLine → Type 0
LaneLineNames schema Begin = Unit {0}
LaneLineNames schema (Within command) = LaneCommandNames schema command
LaneLineNames schema End = Unit {0}
