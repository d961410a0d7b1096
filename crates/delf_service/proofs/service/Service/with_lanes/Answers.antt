use Rattle.std.proofs.Common.{ℕ, ◌+◌, ◌≤◌, arith, ap, ◌∙◌, subst}
use Rattle.seat_lock.specs.Views.{rooted}
use Rattle.delf_service.specs.Standings.{standing_in}
use Rattle.delf_service.proofs.Numbers.{fresh_from, low_top}
use Rattle.delf_service.proofs.service.Service.with_lanes.Goals as goal

pub overflow_add-first : goal.overflow_add-first
overflow_add-first g c =
    let low = low_top c.args.book.rules c.args.book.history c.len-len.ensures.legal in
    let top = c.top_seat-first.ensures in
    let value = c.len-len.ensures.value in
    let below = c.len-len.ensures.below in
    omega (arith, low, top, value, below)

pub new-requires : goal.new-requires
new-requires g c = λ n le. fresh_from c.args.book.rules c.args.book.history n (subst (λ (k : ℕ). k + 1 ≤ n) c.top_seat-first.ensures le)

pub returns-in-Ok-clause-ok : goal.returns-in-Ok-clause-ok
returns-in-Ok-clause-ok g c = (
  c.in-Ok.ensures.lock.0,
  record {
    root_is = c.in-Ok.ensures.root ∙ ap (λ (k : ℕ). rooted (k + 1) (standing_in g.R.Disk c.args.book c.args.moment c.args.lanes)) c.top_seat-first.ensures;
    legal = c.len-len.ensures.legal;
    fresh = fresh_from c.args.book.rules c.args.book.history;
    low = low_top c.args.book.rules c.args.book.history c.len-len.ensures.legal;
  },
)

pub returns-in-Ok-clause-begun : goal.returns-in-Ok-clause-begun
returns-in-Ok-clause-begun g c = ap (λ h. standing_in g.R.Disk h.book h.moment h.lanes) c.in-Ok.ensures.lock.1
