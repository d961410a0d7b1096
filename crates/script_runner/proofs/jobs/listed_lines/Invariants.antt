use Rattle.std.proofs.Common.{◌≡◌, ◌++◌, flat_map, take}
use Rattle.delf_model.specs.Report.{listed_from}
use Rattle.delf_book.specs.Books.{state_in}
use Rattle.script_runner.specs.Serial.{listed_line}
use Rattle.script_runner.proofs.jobs.listed_lines.Given as goal

abbrev pub invariant-rows : goal.invariant-rows
invariant-rows g l =
    l.text.items ++ flat_map (listed_line l.schema) (listed_from l.job 0 (take l.below (state_in l.book).items))
    ≡ flat_map (listed_line l.schema) (listed_from l.job 0 (state_in l.book).items)

abbrev pub decreases-rows : goal.decreases-rows
decreases-rows g l = l.below
