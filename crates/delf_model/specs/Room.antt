-- The limits of moments, payloads and histories, and the room that a history takes and owes.
use Rattle.std.specs.Prelude.{ℕ, ◌+◌, ◌&&◌, if◌then◌else◌, min, max, Bool, nat_le, List, sum_by, is_some}
use Rattle.delf_model.specs.declared.rows.ObjectRow.{ObjectRow}
use Rattle.delf_model.specs.declared.rows.EdgeRow.{EdgeRow}
use Rattle.delf_model.specs.State.{Logged, JobRow, Owners, State, owner_in, is_object_item, is_open}

-- the greatest moment, in seconds
abbrev pub greatest_moment : ℕ
greatest_moment = 999999999999

-- the greatest size of a payload, in bytes
abbrev pub payload_limit : ℕ
payload_limit = 512

-- the greatest room
abbrev pub room_limit : ℕ
room_limit = 500000

-- the moment of an entry that is made when the clock says this
abbrev pub moment_of : State → ℕ → ℕ
moment_of s now = max s.moment (min now greatest_moment)

-- a moment at which an entry may come: not before the last one, and at most the greatest
abbrev pub may_come : State → ℕ → Bool
may_come s moment = nat_le s.moment moment && nat_le moment greatest_moment

-- the entries that are there
abbrev pub used : State → ℕ
used s = s.len

-- the entries that may still be owed

abbrev pub owed_for_object : Owners → ObjectRow → ℕ
owed_for_object owners row = if is_some (owner_in owners row.id) then 1 else 3

abbrev pub owed_for_edge : EdgeRow → ℕ
owed_for_edge row = 1

abbrev pub owed_for_job : JobRow → ℕ
owed_for_job row = if row.purged then 0 else 1

abbrev pub owed_for_item : List JobRow → Logged → ℕ
owed_for_item jobs logged = if is_open jobs logged then if is_object_item logged.item then 4 else 2 else 0

-- 3 for each object without owner, 1 for each condemned one, 1 for each edge, 1 for each job that is not purged,
-- 4 for each unhandled object item and 2 for each unhandled edge item
abbrev pub owed : State → ℕ
owed s =
    sum_by (owed_for_object s.owners) s.graph.objects + sum_by owed_for_edge s.graph.edges +
    sum_by owed_for_job s.jobs + sum_by (owed_for_item s.jobs) s.items

abbrev pub room : State → ℕ
room s = used s + owed s
