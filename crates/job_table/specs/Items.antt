-- Readings of one item: unhandled, listed.
use Rattle.std.specs.Prelude.{ℕ, Bool, cond, ◌&&◌, nat_eq, nat_lt, Option, Some, None, is_none}
use Rattle.delf_model.specs.declared.rows.Item.{Item}
use Rattle.delf_model.specs.declared.call.Cause.{Cause}
use Rattle.delf_model.specs.declared.call.Listed.{Listed}
use Rattle.delf_model.specs.declared.call.Status.{Status}
use Rattle.delf_model.specs.declared.call.Status.TheVariants.{Restoring, Restored}
use Rattle.delf_model.specs.State.{State, JobRow, Logged, Handled, job_of, left}
use Rattle.delf_model.specs.Report.{is_of_job, put_count, listed_count}

-- an item of the job that is neither put back nor listed
abbrev pub is_unhandled_of : ℕ → Logged → Bool
is_unhandled_of job logged = nat_eq (job_of logged.item) job && is_none logged.handled

abbrev pub listing_with : ℕ → Item → Option Cause → Option Listed
listing_with i row None = None
listing_with i row (Some cause) = Some (record { item = i; row = row; cause = cause })

abbrev pub listing_by : ℕ → Item → Option Handled → Option Listed
listing_by i row None = None
listing_by i row (Some how) = listing_with i row how.cause

-- the line of an item of the job that was listed
abbrev pub listing_of : ℕ → ℕ → Logged → Option Listed
listing_of job i logged = cond (is_of_job job logged) (listing_by i logged.item logged.handled) None

-- the status of a restored job that owns nothing
abbrev pub restored_status : State → JobRow → Status
restored_status s row =
    cond (nat_lt 0 (left s row.start)) (Restoring (left s row.start)) (Restored (put_count s row.start) (listed_count s row.start))
