use Rattle.headline_laws.proofs.Headline as of
use Rattle.headline_laws.proofs.found.done_run_recovers.Goals as goal

pub returns : goal.returns
returns g c = λ schema first commands start now before after up done.
    of.recovers schema first commands start now (g.R.Disk.may_leave c.args.rig.now) before after up done
