use Rattle.std.proofs.Common.{Some}
use Rattle.edge_index.proofs.links.write_link.Goals as goal

pub returns-in-Some : goal.returns-in-Some
returns-in-Some c = ((c.get_mut.follows.holds (Some c.args.link)).3 c.requires).0
