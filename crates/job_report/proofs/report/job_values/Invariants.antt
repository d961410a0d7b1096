use Rattle.std.proofs.Common.{◌≡◌, map, take}
use Rattle.serde_json.specs.View.{view}
use Rattle.job_report.specs.Json.{job_data}
use Rattle.job_report.proofs.report.job_values.Given as goal

abbrev pub invariant-loop-job : goal.invariant-loop-job
invariant-loop-job l = map view l.values.items ≡ map job_data (take l.job-index l.jobs)
