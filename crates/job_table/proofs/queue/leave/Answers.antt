use Rattle.std.proofs.Common.{arith}
use Rattle.job_table.proofs.Owning.{on_some}
use Rattle.job_table.proofs.WaitingJobs.{left_rises, left_apart, left_told, left_within}
use Rattle.job_table.proofs.queue.leave.Goals as goal

pub returns-clause-rise : goal.returns-clause-rise
returns-clause-rise c =
    left_rises c.args.queue.now.items c.remove.new.self.items c.args.job c.args.rank c.place-i.result c.job.inside.0 c.job.view_is c.requires.rise c.requires.apart c.place-i.ensures.before c.place-i.ensures.after
    (λ l. on_some c.remove.result _ _ c.remove.ensures.items (c.remove.ensures.succeeds (0, 0) (omega (arith, l)))) c.requires.found

pub returns-clause-apart : goal.returns-clause-apart
returns-clause-apart c =
    left_apart c.args.queue.now.items c.remove.new.self.items c.args.job c.args.rank c.place-i.result c.job.inside.0 c.job.view_is c.requires.rise c.requires.apart c.place-i.ensures.before c.place-i.ensures.after
    (λ l. on_some c.remove.result _ _ c.remove.ensures.items (c.remove.ensures.succeeds (0, 0) (omega (arith, l)))) c.requires.found

pub returns-clause-value : goal.returns-clause-value
returns-clause-value c =
    left_told c.args.queue.now.items c.remove.new.self.items c.args.job c.args.rank c.place-i.result c.job.inside.0 c.job.view_is c.requires.rise c.requires.apart c.place-i.ensures.before c.place-i.ensures.after
    (λ l. on_some c.remove.result _ _ c.remove.ensures.items (c.remove.ensures.succeeds (0, 0) (omega (arith, l)))) c.requires.found

pub returns-clause-len : goal.returns-clause-len
returns-clause-len c =
    let l = left_within c.args.queue.now.items c.remove.new.self.items c.args.job c.args.rank c.place-i.result c.job.inside.0 c.job.view_is c.requires.rise c.requires.apart c.place-i.ensures.before c.place-i.ensures.after
    (λ l. on_some c.remove.result _ _ c.remove.ensures.items (c.remove.ensures.succeeds (0, 0) (omega (arith, l)))) c.requires.found in
    let len = on_some c.remove.result _ _ c.remove.ensures.len (c.remove.ensures.succeeds (0, 0) (omega (arith, l))) in
    omega (arith, len)
