-- The items of a job that were not put back, by rising number.
use Rattle.std.specs.Prelude.{ℕ, ◌+◌, Bool, cond, ◌&&◌, not, nat_eq, List, [], ◌∷◌, Option, Some, None}
use Rattle.delf_model.specs.State.{Logged, job_of}
use Rattle.delf_model.specs.Report.{was_put}

abbrev pub is_unput : ℕ → Logged → Bool
is_unput job logged = nat_eq (job_of logged.item) job && not (was_put logged.handled)

-- the least number of such an item, where the list begins with this number
abbrev pub next_unput : ℕ → ℕ → List Logged → Option ℕ
next_unput job i [] = None
next_unput job i (x ∷ xs) = cond (is_unput job x) (Some i) (next_unput job (i + 1) xs)
