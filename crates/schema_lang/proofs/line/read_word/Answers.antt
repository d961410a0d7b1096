use Rattle.std.proofs.Common.{◌∙◌, rules}
use Rattle.std.proofs.lemmas.List.{take_rest}
use Rattle.schema_lang.proofs.WordLemmas.{words_quote}
use Rattle.schema_lang.proofs.line.read_word.Goals as goal

pub returns-in-Some-clause-words : goal.returns-in-Some-clause-words
returns-in-Some-clause-words c =
    words_quote c.args.text.now c.requires.0 (search (rules, c.if-text-ne34.false)) ∙ (rw take_rest at (rw c.in-Some.is at c.in_ok-bytes.ensures.words))

pub returns-in-None-clause-words : goal.returns-in-None-clause-words
returns-in-None-clause-words c =
    words_quote c.args.text.now c.requires.0 (search (rules, c.if-text-ne34.false)) ∙ (rw take_rest at (rw c.in-None.is at c.in_ok-bytes.ensures.words))
