use Rattle.schema_lang.proofs.ReadWords.{read_spells}
use Rattle.schema_lang.proofs.laws.read_words_are_spelled.Goals as goal

pub returns : goal.returns
returns c = read_spells
