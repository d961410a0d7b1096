use Rattle.std.proofs.Common.{◌≡◌, ℕ, ◌-◌, length}
use Rattle.seat_lock.specs.Views.{made_by}
use Rattle.delf_service.specs.Follows.{Follows}
use Rattle.delf_service.specs.Standings.{seat_of, standing_in}
use Rattle.delf_service.proofs.held.Held.finish.Given as goal

abbrev pub invariant-loop-turned : goal.invariant-loop-turned
invariant-loop-turned g l = record {
  moment : l.self.moment ≡ l.fn.self.moment;
  later : Follows (standing_in g.R.Disk l.self.book l.self.moment l.self.lanes) (standing_in g.R.Disk l.fn.self.book l.fn.self.moment l.fn.self.lanes);
  only : (n : ℕ) → made_by seat_of n l.self.book.history ≡ made_by seat_of n l.fn.self.book.history;
}

abbrev pub decreases-loop-turned : goal.decreases-loop-turned
decreases-loop-turned g l = 500001 - length l.self.book.history
