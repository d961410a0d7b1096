-- What a Purge and a Restore have to meet, read of one row.
use Rattle.std.specs.Prelude.{ℕ, ◌+◌, Bool, true, false, ◌&&◌, not, nat_eq, nat_le, is_none, sum_by}
use Rattle.delf_model.specs.declared.call.Status.{Status}
use Rattle.delf_model.specs.declared.call.Status.TheVariants.{NoJob, Pending, Done, Restoring, Restored, Purged}
use Rattle.delf_model.specs.State.{State, JobRow, owned, find_job, is_job}
use Rattle.delf_model.specs.Room.{owed, room_limit}
use Rattle.delf_model.specs.Legal.{window_passed}
use Rattle.delf_model.specs.Report.{status_of_row}
use Rattle.job_table.specs.Notes.{weight_of}

-- a job of which nothing is to be done any more
abbrev pub is_still : Status → Bool
is_still NoJob = false
is_still (Pending n) = false
is_still (Done erased cut last) = true
is_still (Restoring n) = false
is_still (Restored put listed) = true
is_still Purged = false

-- what a Purge of the job with this row has to meet
abbrev pub can_purge : State → ℕ → JobRow → Bool
can_purge s moment row = is_still (status_of_row s row) && window_passed s moment row

-- what a Restore of the job with this row has to meet
abbrev pub can_restore : State → ℕ → JobRow → Bool
can_restore s moment row =
    is_job row.start (find_job s.jobs row.name) && nat_eq (owned s row.start) 0 && is_none row.restored && not row.purged &&
    not (window_passed s moment row) && nat_le (s.len + 1 + (owed s + sum_by (weight_of row.start) s.items)) room_limit
