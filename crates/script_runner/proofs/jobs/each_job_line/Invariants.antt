use Rattle.std.proofs.Common.{◌≡◌, flat_map, take}
use Rattle.job_report.specs.Texts.{job_text}
use Rattle.script_runner.proofs.jobs.each_job_line.Given as goal

abbrev pub invariant-loop-line : goal.invariant-loop-line
invariant-loop-line l = l.text.items ≡ flat_map job_text (take l.line-index l.lines)
