use Rattle.std.proofs.Common.{map, sym, subst}
use Rattle.seat_lock.specs.Locks.{view, start_of}
use Rattle.delf_service.specs.Seats.{Closed}
use Rattle.delf_service.specs.Standings.{standing_in, standing_of}
use Rattle.delf_service.proofs.Joining.{closed_all, closed_laneless}
use Rattle.delf_service.proofs.service.Service.close.Goals as goal

pub returns-clause-closed : goal.returns-clause-closed
returns-clause-closed g c = (
  c.close-book.result.moment,
  subst (λ b. Closed (standing_in g.R.Disk (start_of c.args.self.lock).book (start_of c.args.self.lock).moment (start_of c.args.self.lock).lanes) (view c.args.root)
      (map (λ s. view s) c.args.seats.items) (standing_of g.R.Disk b c.close-book.result.moment)) (sym c.forget.ensures)
      (closed_laneless (standing_in g.R.Disk (start_of c.args.self.lock).book (start_of c.args.self.lock).moment (start_of c.args.self.lock).lanes) (view c.args.root) (map (λ s. view s) c.args.seats.items)
      (standing_in g.R.Disk c.close-book.result.book c.close-book.result.moment c.close-book.result.lanes)
      (closed_all (λ h. standing_in g.R.Disk h.book h.moment h.lanes) (standing_in g.R.Disk (start_of c.args.self.lock).book (start_of c.args.self.lock).moment (start_of c.args.self.lock).lanes) (view c.args.root)
      (view c.join_all-root.result) (map (λ s. view s) c.args.seats.items) c.close-book.result c.join_all-root.ensures.joined c.close-book.ensures c.len-len.ensures.legal c.standing.ensures.fell)),
)
