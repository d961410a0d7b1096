use Rattle.headline_laws.proofs.Onward as of
use Rattle.headline_laws.proofs.a_block_leaves_it_legal.Goals as goal

pub returns : goal.returns
returns c = λ schema found quiet lanes before now text left runs. of.block_legal schema found left quiet lanes before now text runs
