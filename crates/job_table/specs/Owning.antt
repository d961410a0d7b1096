-- Owned objects with their jobs, in order.
use Rattle.std.specs.Prelude.{◌≡◌, ℕ, ◌+◌, ◌<◌, ◌≤◌, ◌^◌, Bool, true, cond, ◌&&◌, ◌||◌, nat_eq, nat_lt, List, [], ◌∷◌, Option, Some, is_some, length, IsTrue}
use Rattle.delf_model.specs.State.{JobRow, job_row}
use Rattle.job_table.specs.Apart.{are_apart}
use Rattle.job_table.specs.Table.{owner_among, owned_among}

-- pairs of an owned id and its job go by job, then by id
abbrev pub is_before : ℕ → ℕ → ℕ × ℕ → Bool
is_before job id pair = nat_lt pair.1 job || (nat_eq pair.1 job && nat_lt pair.0 id)

abbrev pub rise_after : ℕ × ℕ → List (ℕ × ℕ) → Bool
rise_after low [] = true
rise_after low (x ∷ xs) = is_before x.1 x.0 low && rise_after x xs

abbrev pub pairs_rise : List (ℕ × ℕ) → Bool
pairs_rise [] = true
pairs_rise (x ∷ xs) = rise_after x xs

-- the pairs are owned as before, and this id by this job too
pub record Gains (before after : List (ℕ × ℕ)) (id job : ℕ) : Type 0 where
  pub owner : (other : ℕ) → owner_among after other ≡ cond (nat_eq other id) (Some job) (owner_among before other)
  pub owned : (other : ℕ) → owned_among after other ≡ owned_among before other + cond (nat_eq job other) 1 0

-- the pairs rise, no id stands twice, the jobs by id are those of the pairs, and there is room for the spare
pub record OwnersFit (pairs : List (ℕ × ℕ)) (job_of : ℕ → Option ℕ) (capacity room spare : ℕ) : Type 0 where
  pub rise : IsTrue (pairs_rise pairs)
  pub apart : IsTrue (are_apart pairs)
  pub jobs : (id : ℕ) → job_of id ≡ owner_among pairs id
  pub pairs_spare : length pairs + spare ≤ capacity
  pub jobs_spare : spare ≤ room
  pub fits : length pairs < 2 ^ 32

-- the job of the pair has a row
abbrev pub has_row : List JobRow → ℕ × ℕ → Bool
has_row jobs pair = is_some (job_row jobs pair.1)
