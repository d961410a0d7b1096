use Rattle.reach_laws.proofs.Parts.{each_part}
use Rattle.reach_laws.proofs.each_part_is_legal.Goals as goal

pub returns : goal.returns
returns c = each_part
