use Rattle.headline_laws.proofs.Finding as of
use Rattle.headline_laws.proofs.found.held_is_found_again.Goals as goal

pub returns : goal.returns
returns g c = λ w areas held image. of.held_stands w (g.R.Disk.may_leave c.args.rig.now) areas held image
