use Rattle.headline_laws.proofs.Onward as of
use Rattle.headline_laws.proofs.every_length_is_sound.Goals as goal

pub returns : goal.returns
returns c = of.sound_throughout
