use Rattle.std.proofs.Common.{◌≡◌, ◌<◌, ◌++◌, length, option_map}
use Rattle.schema_lang.specs.Words.{words, StartsWord}
use Rattle.schema_lang.proofs.line.read_words.Given as goal

abbrev pub invariant-loop-rest : goal.invariant-loop-rest
invariant-loop-rest l = record { same : option_map (λ more. l.found ++ more) (words l.rest) ≡ words l.line; starts : 0 < length l.rest → StartsWord l.rest }

abbrev pub decreases-loop-rest : goal.decreases-loop-rest
decreases-loop-rest l = length l.rest
