use Rattle.std.proofs.Common.{List, [], length, ap, ◌∙◌, sym, subst, inl}
use Rattle.seat_lock.specs.Locks.{view}
use Rattle.delf_service.specs.declared.replies.LaneReply.{LaneReply}
use Rattle.delf_service.specs.Lanes.{LaneTold}
use Rattle.delf_service.proofs.Lanes.{told_none}
use Rattle.delf_service.proofs.service.Service.run_worker_row.Goals as goal

pub returns-clause-run : goal.returns-clause-run
returns-clause-run g c =
    let v = view c.args.row.now.seat in
    let w = view c.run_worker.new.seat in
    let none = c.requires.ready.none in
    record {
      same = c.run_worker.ensures.same.0;
      later = c.run_worker.ensures.later;
      keeps = c.run_worker.ensures.keeps;
      told = subst (λ (l : List LaneReply). LaneTold w.remembers w.seen.state c.args.now v.number w.made [] l) (sym none)
          (told_none c.args.now v.number [] w.remembers w.seen.state w.made (c.run_worker.ensures.same.1 ∙ c.requires.ready.made));
      end = λ fed. inl (ap (λ (l : List LaneReply). length l) none);
    }
