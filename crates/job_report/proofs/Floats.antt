-- A report has no number with a fraction.
use Rattle.std.proofs.Common.{◌≡◌, ℕ, List, [], ◌∷◌, map, false, refl}
use Rattle.delf_model.specs.declared.call.JobLine.{JobLine}
use Rattle.serde_json.specs.View.{items_of}
use Rattle.serde_json.specs.Written.{has_float, items_have_float}
use Rattle.job_report.specs.Json.{job_data, report_data}

pub items_have_float-jobs : (jobs : List JobLine) → items_have_float (items_of (map job_data jobs)) ≡ false
items_have_float-jobs [] = refl
items_have_float-jobs (job ∷ jobs) = items_have_float-jobs jobs

pub has_float-report : (objects edges history : ℕ) (jobs : List JobLine) → has_float (report_data objects edges history jobs) ≡ false
has_float-report objects edges history jobs = rw items_have_float-jobs refl
