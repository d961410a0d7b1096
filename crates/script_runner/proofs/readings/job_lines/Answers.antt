use Rattle.std.proofs.Common.{refl, arith}
use Rattle.delf_model.specs.Report.{job_at}
use Rattle.delf_book.specs.Books.{state_in}
use Rattle.script_runner.proofs.Counts.{jobs_within}
use Rattle.script_runner.proofs.Loops.{lines_next, lines_all}
use Rattle.script_runner.proofs.readings.job_lines.Goals as goal

pub loop-place-preserved : goal.loop-place-preserved
loop-place-preserved g c =
    lines_next (state_in c.args.book.now) c.loop-place.place (job_at (state_in c.args.book.now) c.loop-place.place) c.loop-place.lines c.add_line.new.lines
    refl c.loop-place.invariant c.in_ok-add_line.ensures

pub returns-clause-lines : goal.returns-clause-lines
returns-clause-lines g c =
    let few = jobs_within c.args.book.now.rules c.args.book.now.history in
    lines_all (state_in c.args.book.now) c.loop-place.place c.loop-place.lines (omega arith) c.loop-place.invariant
