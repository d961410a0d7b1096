use Rattle.std.proofs.Common.{◌≡◌, ◌≤◌, length}
use Rattle.std.specs.Str.Lines.{lines}
use Rattle.schema_lang.specs.Grammar.{first_said}
use Rattle.schema_lang.proofs.parse.first_said.Given as goal

abbrev pub invariant-loop-line : goal.invariant-loop-line
invariant-loop-line l = record { same : first_said l.number (lines l.rest) ≡ first_said l.first (lines l.bytes); bound : length l.rest ≤ length l.bytes }

abbrev pub decreases-loop-line : goal.decreases-loop-line
decreases-loop-line l = length l.rest
