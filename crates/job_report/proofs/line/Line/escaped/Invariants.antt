use Rattle.std.proofs.Common.{◌≡◌, ◌++◌, flat_map, take}
use Rattle.job_report.specs.Words.{escaped}
use Rattle.job_report.proofs.line.Line.escaped.Given as goal

abbrev pub invariant-loop-byte : goal.invariant-loop-byte
invariant-loop-byte l = l.line ≡ l.fn.self ++ flat_map escaped (take l.byte-index l.payload)
