use Rattle.std.proofs.Common.{◌≡◌, ◌++◌, flat_map, take}
use Rattle.job_report.specs.Words.{spaced}
use Rattle.job_report.proofs.line.Line.names.Given as goal

abbrev pub invariant-loop-name : goal.invariant-loop-name
invariant-loop-name l = l.line ≡ l.fn.self ++ flat_map spaced (take l.name-index l.names)
