use Rattle.schema_lang.proofs.SpelledLemmas.{words_spelled}
use Rattle.schema_lang.proofs.laws.spelled_words_are_read.Goals as goal

pub returns : goal.returns
returns c = words_spelled
