-- What holds of the kept seats and their counts.
use Rattle.std.specs.Prelude.{◌≡◌, ℕ, ◌+◌, ◌<◌, ◌≤◌, ◌^◌, List, Option, nat_eq, length, count_by, unwrap_or}
use Rattle.job_table.specs.Table.{greatest}

-- each seat has its count, the top is the greatest seat, and there is room for the spare
pub record SeatsFit (seats : List ℕ) (count_of : ℕ → Option ℕ) (greatest_seat capacity room spare : ℕ) : Type 0 where
  pub counts : (seat : ℕ) → unwrap_or (count_of seat) 0 ≡ count_by (λ other. nat_eq other seat) seats
  pub top : greatest_seat ≡ greatest seats
  pub fits : length seats < 2 ^ 32
  pub seats_spare : length seats + spare ≤ capacity
  pub counts_spare : spare ≤ room
