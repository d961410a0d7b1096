-- What the kept structs stand for, each a list with its spare.
use Rattle.std.specs.Prelude.{ℕ, Bool, cond, nat_eq, nat_lt, List, [], ◌∷◌, option_map}
use Rattle.delf_model.specs.declared.entry.What.{What}
use Rattle.delf_model.specs.State.{Handled, Logged, JobRow}
use Rattle.job_table.specs.declared.items.Handling.{Handling}
use Rattle.job_table.specs.declared.items.Kept.{Kept}
use Rattle.job_table.specs.declared.jobs.Row.{Row}

-- a list with the number of further elements that need no memory

pub record ItemPart : Type 0 where
  pub list : List Logged
  pub spare : ℕ

pub record JobPart : Type 0 where
  pub list : List JobRow
  pub spare : ℕ

pub record OwnerPart : Type 0 where
  pub list : List (ℕ × ℕ)
  pub spare : ℕ

pub record SeatPart : Type 0 where
  pub list : List ℕ
  pub spare : ℕ

pub record ClaimPart : Type 0 where
  pub list : List What
  pub spare : ℕ

-- what the kept structs stand for

abbrev pub handled_of : Handling → Handled
handled_of how = record { put = how.put; cause = how.cause }

abbrev pub logged_of : Kept → Logged
logged_of kept = record { item = kept.item; handled = option_map handled_of kept.handled }

abbrev pub row_of : Row → JobRow
row_of row = record {
  start = row.start;
  root = row.root;
  name = row.name;
  restored = row.restored;
  purged = row.purged;
  last = row.last;
}

-- the list with its first element that passes changed
abbrev pub changed_first : {A : Type 0} → (A → Bool) → (A → A) → List A → List A
changed_first test f [] = []
changed_first test f (x ∷ xs) = cond (test x) (f x ∷ xs) (x ∷ changed_first test f xs)

abbrev pub is_start : ℕ → Row → Bool
is_start job row = nat_eq row.start job

abbrev pub starts_before : ℕ → Row → Bool
starts_before job row = nat_lt row.start job
