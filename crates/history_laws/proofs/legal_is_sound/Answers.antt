use Rattle.history_laws.proofs.Whole as whole
use Rattle.history_laws.proofs.legal_is_sound.Goals as goal

pub returns : goal.returns
returns c = whole.legal_is_sound
