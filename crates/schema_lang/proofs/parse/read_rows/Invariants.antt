use Rattle.std.proofs.Common.{◌≡◌, length}
use Rattle.std.specs.Str.Lines.{lines}
use Rattle.schema_lang.specs.Grammar.{rows, empty_schema}
use Rattle.schema_lang.proofs.parse.read_rows.Given as goal

abbrev pub invariant-loop-said : goal.invariant-loop-said
invariant-loop-said l = rows (lines l.rest) l.number l.schema ≡ rows (lines l.bytes) l.first (empty_schema l.window)

abbrev pub decreases-loop-said : goal.decreases-loop-said
decreases-loop-said l = length l.rest
