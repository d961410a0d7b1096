use Rattle.std.proofs.Common.{◌≡◌, length}
use Rattle.std.specs.Str.Lines.{lines}
use Rattle.script_lang.specs.Scripts.{script_from, script_of}
use Rattle.script_lang.specs.TypeNumbers.{ReadingNames}
use Rattle.script_lang.proofs.script.parse_script.Given as goal

abbrev pub invariant-loop-line : goal.invariant-loop-line
invariant-loop-line l = record {
  same : script_from l.schema l.blocks (lines l.rest) l.number l.reading ≡ script_of l.schema l.blocks (lines l.bytes) l.first;
  names : ReadingNames l.schema l.reading;
}

abbrev pub decreases-loop-line : goal.decreases-loop-line
decreases-loop-line l = length l.rest
