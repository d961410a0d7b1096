use Rattle.std.proofs.Common.{ℕ, Bool, ap}
use Rattle.script_runner.proofs.Openings.{leaves_bad}
use Rattle.script_runner.proofs.store.Store.open.Goals as goal

pub open_book-requires-clause-counts : goal.open_book-requires-clause-counts
open_book-requires-clause-counts g c = λ edge. ap (λ (f : ℕ → Bool). f edge) c.in-Ok.ensures.counts

pub returns-in-Err-open_book-clause-held : goal.returns-in-Err-open_book-clause-held
returns-in-Err-open_book-clause-held g c = λ plain history e stands at image. (c.in-Err-open_book.ensures.crash plain history e stands).now at image

pub returns-in-Err-open_book-clause-held_bad : goal.returns-in-Err-open_book-clause-held_bad
returns-in-Err-open_book-clause-held_bad g c = λ plain area at bad d image. (c.in-Err-open_book.ensures.bad_crash plain area at bad).now d image

pub returns-in-Err-open_book-clause-leaves : goal.returns-in-Err-open_book-clause-leaves
returns-in-Err-open_book-clause-leaves g c = λ plain. leaves_bad c.args.rules (g.R.Disk.seen c.args.rig) g.R.Disk.may_leave c.in-Err-open_book.fault.1 c.in-Err-open_book.fault.0 (c.in-Err-open_book.ensures.stays plain)

pub returns-in-Err-open_book-clause-never : goal.returns-in-Err-open_book-clause-never
returns-in-Err-open_book-clause-never g c = λ plain history e stands. c.in-Err-open_book.ensures.never plain history e stands
