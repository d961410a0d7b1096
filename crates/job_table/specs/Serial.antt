-- Whether a kept row may be purged, over the parts of a table.
use Rattle.std.specs.Prelude.{ℕ, ◌+◌, Bool, cond, ◌&&◌, not, nat_eq, nat_lt, List, is_some, count_by}
use Rattle.delf_model.specs.State.{Logged}
use Rattle.delf_model.specs.State.{last_erasure_or_zero}
use Rattle.job_table.specs.Table.{owned_among}
use Rattle.job_table.specs.Items.{is_unhandled_of}
use Rattle.job_table.specs.declared.jobs.Row.{Row}

-- what rows of jobs say, over the parts of a table

abbrev pub left_in : List Logged → Row → ℕ
left_in items row = cond (is_some row.restored) (count_by (is_unhandled_of row.start) items) 0

abbrev pub purges_in : List (ℕ × ℕ) → List Logged → ℕ → ℕ → Row → Bool
purges_in pairs items window moment row =
    nat_eq (owned_among pairs row.start) 0 && not row.purged && nat_eq (left_in items row) 0 &&
    nat_lt (last_erasure_or_zero row.last + window) moment
