use Rattle.job_table.proofs.WaitingJobs.{put_rises, put_apart, put_told}
use Rattle.job_table.proofs.queue.enter.Goals as goal

pub returns-clause-rise : goal.returns-clause-rise
returns-clause-rise c =
    put_rises c.args.queue.now.items c.insert.new.self.items c.args.job c.args.rank c.place-i.result c.job.inside.0 c.job.view_is c.requires.rise c.requires.apart c.place-i.ensures.before c.place-i.ensures.after
    c.in-Ok.ensures.items c.place-i.ensures.bound c.requires.free

pub returns-clause-apart : goal.returns-clause-apart
returns-clause-apart c =
    put_apart c.args.queue.now.items c.insert.new.self.items c.args.job c.args.rank c.place-i.result c.job.inside.0 c.job.view_is c.requires.rise c.requires.apart c.place-i.ensures.before c.place-i.ensures.after
    c.in-Ok.ensures.items c.place-i.ensures.bound c.requires.free

pub returns-clause-value : goal.returns-clause-value
returns-clause-value c =
    put_told c.args.queue.now.items c.insert.new.self.items c.args.job c.args.rank c.place-i.result c.job.inside.0 c.job.view_is c.requires.rise c.requires.apart c.place-i.ensures.before c.place-i.ensures.after
    c.in-Ok.ensures.items c.place-i.ensures.bound c.requires.free
