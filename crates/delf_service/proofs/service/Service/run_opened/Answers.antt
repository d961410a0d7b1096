use Rattle.std.proofs.Common.{rules, ◌≡◌, length}
use Rattle.seat_lock.specs.Locks.{view, IsOf}
use Rattle.delf_service.specs.Rows.{IsRowRun}
use Rattle.delf_service.proofs.Blocks.{run_written}
use Rattle.delf_service.proofs.service.Service.run_opened.Goals as goal

pub returns-clause-run : goal.returns-clause-run
returns-clause-run g c =
    let long : length c.run_rows.new.rows ≡ length c.args.rows.now.items = search rules in
    let len : c.args.rows.now.len ≡ length c.args.rows.now.items = search rules in
    run_written (λ o n k. IsOf c.args.self.now.lock n.seat × IsRowRun c.args.now c.args.turns c.args.lanes.now k (view o.seat) (view n.seat) n.replies.items n.starved)
    c.args.rows.now.len c.args.rows.now.items c.deref_mut.result.now c.run_rows.new.rows c.deref_mut.ensures.value long len c.run_rows.ensures.run
