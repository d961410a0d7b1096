-- That the parts of a table have room for the spare, within the room rule.
use Rattle.std.specs.Prelude.{ℕ, ◌+◌, ◌<◌, ◌≤◌, ◌^◌, length}
use Rattle.job_table.specs.Parts.{ItemPart, JobPart, OwnerPart, SeatPart, ClaimPart}

-- each part has room for the spare, none is longer than the history, and the room rule holds
pub record Fits (len owed spare : ℕ) (owners : OwnerPart) (items : ItemPart) (jobs : JobPart) (seats : SeatPart) (held : ClaimPart) (restoring : OwnerPart) : Type 0 where
  pub room : len + owed ≤ 500000
  pub owners_spare : spare ≤ owners.spare
  pub items_spare : spare ≤ items.spare
  pub jobs_spare : spare ≤ jobs.spare
  pub seats_spare : spare ≤ seats.spare
  pub held_spare : spare ≤ held.spare
  pub restoring_spare : spare ≤ restoring.spare
  pub owners_len : length owners.list ≤ len
  pub items_len : length items.list ≤ len
  pub jobs_len : length jobs.list ≤ len
  pub seats_len : length seats.list ≤ len
  pub held_len : length held.list + spare < 2 ^ 32
