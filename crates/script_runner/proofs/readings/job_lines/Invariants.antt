use Rattle.std.proofs.Common.{◌≡◌, take, map}
use Rattle.delf_model.specs.Report.{job_line}
use Rattle.delf_book.specs.Books.{state_in}
use Rattle.script_runner.proofs.readings.job_lines.Given as goal

abbrev pub invariant-loop-place : goal.invariant-loop-place
invariant-loop-place g l = l.lines ≡ take l.place (map (job_line (state_in l.book)) (state_in l.book).jobs)
