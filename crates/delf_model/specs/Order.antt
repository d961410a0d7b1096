-- The steps that no call makes, in the order in which one worker takes them, and which of them a claim holds.
use Rattle.std.specs.Prelude.{ℕ, ◌+◌, Bool, true, false, ◌&&◌, ◌||◌, not, nat_eq, nat_lt, nat_le, List, [], ◌∷◌, Option, Some, None, find, is_some, is_none, if◌then◌else◌, option_map}
use Rattle.std.specs.List.{list_any, list_all}
use Rattle.delf_model.specs.declared.rows.ObjectRow.{ObjectRow}
use Rattle.delf_model.specs.declared.rows.EdgeRow.{EdgeRow}
use Rattle.delf_model.specs.declared.entry.What.{What}
use Rattle.delf_model.specs.declared.entry.What.TheVariants.{Expire, Cut, Erase, Put, Purge}
use Rattle.delf_model.specs.Graph.{same_key, out_edges, in_edges}
use Rattle.delf_model.specs.State.{State, JobRow, owner, owned, left, is_pair_of, is_open_of}
use Rattle.delf_model.specs.Owners.{key_of}
use Rattle.std.specs.Option.{option_or}
use Rattle.delf_model.specs.Legal.{is_legal, is_due_row, may_purge}
use Rattle.delf_model.specs.Room.{may_come}

-- entries that no call makes
abbrev pub is_step : What → Bool
is_step (Expire id) = true
is_step (Cut job edge from to) = true
is_step (Erase job id) = true
is_step (Put job i) = true
is_step (Purge job) = true
is_step what = false

-- a step that may come next at this moment
abbrev pub is_legal_step : State → ℕ → What → Bool
is_legal_step s moment what = is_step what && is_legal s (record { moment = moment; what = what })

-- 1. of the oldest restore with unhandled items: its unhandled item with the greatest number

abbrev pub is_restoring : State → JobRow → Bool
is_restoring s row = is_some row.restored && nat_lt 0 (left s row.start)

abbrev pub is_no_older : Option ℕ → Option ℕ → Bool
is_no_older None other = true
is_no_older (Some position) None = false
is_no_older (Some position) (Some other) = nat_le position other

-- no restoring job was restored before this one
abbrev pub is_oldest_restoring : State → JobRow → Bool
is_oldest_restoring s row =
    is_restoring s row && list_all (λ other. not (is_restoring s other) || is_no_older row.restored other.restored) s.jobs

-- the greatest place whose element passes, counted from this number
abbrev pub last_place : {A : Type 0} → (A → Bool) → ℕ → List A → Option ℕ
last_place test i [] = None
last_place test i (x ∷ xs) = option_or (last_place test (i + 1) xs) (if test x then Some i else None)

abbrev pub put_of : ℕ → Option ℕ → Option What
put_of job found = option_map (Put job) found

abbrev pub put_of_job : State → Option JobRow → Option What
put_of_job s None = None
put_of_job s (Some row) = put_of row.start (last_place (is_open_of row.start s.jobs) 0 s.items)

abbrev pub first_put : State → Option What
first_put s = put_of_job s (find (is_oldest_restoring s) s.jobs)

-- 2. of the oldest job that owns objects: of its least owned id the first out-edge, else the first in-edge, else
-- the object itself

abbrev pub owns_some : State → JobRow → Bool
owns_some s row = nat_lt 0 (owned s row.start)

abbrev pub cut_or_erase : ℕ → ℕ → List EdgeRow → List EdgeRow → What
cut_or_erase job id (row ∷ rows) entering = Cut job row.key.edge row.key.from row.key.to
cut_or_erase job id [] (row ∷ rows) = Cut job row.key.edge row.key.from row.key.to
cut_or_erase job id [] [] = Erase job id

abbrev pub erasure_of_pair : State → ℕ → Option (ℕ × Option ℕ) → Option What
erasure_of_pair s job found =
    option_map (λ pair. cut_or_erase job pair.0 (out_edges s.graph pair.0) (in_edges s.graph pair.0)) found

abbrev pub erasure_of_job : State → Option JobRow → Option What
erasure_of_job s None = None
erasure_of_job s (Some row) = erasure_of_pair s row.start (find (is_pair_of row.start) s.owners)

abbrev pub first_erasure : State → Option What
first_erasure s = erasure_of_job s (find (owns_some s) s.jobs)

-- 3. the least id that is due and has no owner

abbrev pub expires : State → ℕ → ObjectRow → Bool
expires s moment row = is_due_row moment (Some row) && is_none (owner s row.id)

abbrev pub expiry_of : Option ObjectRow → Option What
expiry_of found = option_map (λ row. Expire row.id) found

abbrev pub first_expiry : State → ℕ → Option What
first_expiry s moment = expiry_of (find (expires s moment) s.graph.objects)

-- 4. the oldest job that may be purged

abbrev pub purges : State → ℕ → JobRow → Bool
purges s moment row = may_purge s moment (Some row)

abbrev pub purge_of : Option JobRow → Option What
purge_of found = option_map (λ row. Purge row.start) found

abbrev pub first_purge : State → ℕ → Option What
first_purge s moment = purge_of (find (purges s moment) s.jobs)

-- the first of all four
abbrev pub first_in_order : State → ℕ → Option What
first_in_order s moment =
    option_or (first_put s) (option_or (first_erasure s) (option_or (first_expiry s moment) (first_purge s moment)))

-- the first legal step of the serial order; none at a moment at which no entry may come
abbrev pub first_step : State → ℕ → Option What
first_step s moment = if may_come s moment then first_in_order s moment else None

-- two steps that erase the same row, whichever job they name
abbrev pub erases_same : What → What → Bool
erases_same (Cut job edge from to) (Cut other edge' from' to') = same_key (key_of edge from to) (key_of edge' from' to')
erases_same (Erase job id) (Erase other id') = nat_eq id id'
erases_same what other = false

-- a step is held where a held claim has the same edge or the same object
abbrev pub is_held : List What → What → Bool
is_held held what = list_any (erases_same what) held
