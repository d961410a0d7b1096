use Rattle.std.proofs.Common.{◌≡◌, ◌≤◌, length}
use Rattle.schema_lang.specs.Words.{without_blanks}
use Rattle.schema_lang.proofs.line.skip_blanks.Given as goal

abbrev pub invariant-loop-rest : goal.invariant-loop-rest
invariant-loop-rest l = record { same : without_blanks l.rest ≡ without_blanks l.line; bound : length l.rest ≤ length l.line }

abbrev pub decreases-loop-rest : goal.decreases-loop-rest
decreases-loop-rest l = length l.rest
