-- What the items of a job come to, and what holds of the kept tallies.
use Rattle.std.specs.Prelude.{◌≡◌, ℕ, ◌+◌, ◌-◌, ◌<◌, ◌≤◌, ◌^◌, cond, not, List, Option, length, map, count_by, sum_by, is_none, unwrap_or}
use Rattle.delf_model.specs.State.{Logged, is_object_item}
use Rattle.delf_model.specs.Report.{is_object_of, is_edge_of, is_put_of, is_listed_of, was_put, was_listed}
use Rattle.job_table.specs.declared.items.Kept.{Kept}
use Rattle.job_table.specs.declared.tallies.Tally.{Tally}
use Rattle.job_table.specs.Items.{is_unhandled_of}
use Rattle.job_table.specs.Notes.{weight_of}
use Rattle.job_table.specs.Parts.{logged_of}

-- the tally of a job without items
abbrev pub no_tally : Tally
no_tally = record { erased = 0; cut = 0; put = 0; listed = 0; unhandled = 0; weight = 0 }

-- what the items of the job come to
abbrev pub tally_of : ℕ → List Logged → Tally
tally_of job items = record {
  erased = count_by (is_object_of job) items;
  cut = count_by (is_edge_of job) items;
  put = count_by (is_put_of job) items;
  listed = count_by (is_listed_of job) items;
  unhandled = count_by (is_unhandled_of job) items;
  weight = sum_by (weight_of job) items;
}

-- what an item adds to the tally of its job
abbrev pub share_of : Logged → Tally
share_of logged = record {
  erased = cond (is_object_item logged.item) 1 0;
  cut = cond (not (is_object_item logged.item)) 1 0;
  put = cond (was_put logged.handled) 1 0;
  listed = cond (was_listed logged.handled) 1 0;
  unhandled = cond (is_none logged.handled) 1 0;
  weight = cond (is_none logged.handled) (cond (is_object_item logged.item) 4 2) 0;
}

abbrev pub tally_sum : Tally → Tally → Tally
tally_sum a b = record {
  erased = a.erased + b.erased;
  cut = a.cut + b.cut;
  put = a.put + b.put;
  listed = a.listed + b.listed;
  unhandled = a.unhandled + b.unhandled;
  weight = a.weight + b.weight;
}

abbrev pub tally_rest : Tally → Tally → Tally
tally_rest a b = record {
  erased = a.erased - b.erased;
  cut = a.cut - b.cut;
  put = a.put - b.put;
  listed = a.listed - b.listed;
  unhandled = a.unhandled - b.unhandled;
  weight = a.weight - b.weight;
}

-- the sums are numbers of their types
pub record Fits (a b : Tally) : Type 0 where
  pub erased : a.erased + b.erased < 2 ^ 32
  pub cut : a.cut + b.cut < 2 ^ 32
  pub put : a.put + b.put < 2 ^ 32
  pub listed : a.listed + b.listed < 2 ^ 32
  pub unhandled : a.unhandled + b.unhandled < 2 ^ 32
  pub weight : a.weight + b.weight < 2 ^ 64

-- no part of the first is more than that of the second
pub record Within (a b : Tally) : Type 0 where
  pub erased : a.erased ≤ b.erased
  pub cut : a.cut ≤ b.cut
  pub put : a.put ≤ b.put
  pub listed : a.listed ≤ b.listed
  pub unhandled : a.unhandled ≤ b.unhandled
  pub weight : a.weight ≤ b.weight

-- each job has its tally, and there is room for the spare
pub record ItemsFit (kept : List Kept) (tally_at : ℕ → Option Tally) (capacity room spare : ℕ) : Type 0 where
  pub tallies : (job : ℕ) → unwrap_or (tally_at job) no_tally ≡ tally_of job (map logged_of kept)
  pub fits : length kept < 2 ^ 32
  pub items_spare : length kept + spare ≤ capacity
  pub tallies_spare : spare ≤ room
