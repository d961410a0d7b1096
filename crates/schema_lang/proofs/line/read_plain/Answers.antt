use Rattle.std.proofs.Common.{arith}
use Rattle.schema_lang.proofs.WordLemmas.{words_plain, plain_length_within}
use Rattle.schema_lang.proofs.line.read_plain.Goals as goal

pub split_at-requires : goal.split_at-requires
split_at-requires c = rw c.plain_length.ensures ((plain_length_within c.args.text.now c.requires.starts).0)

pub returns-clause-words : goal.returns-clause-words
returns-clause-words c =
    rw (c.in_ok-word.ensures, c.split_at.ensures.front, c.split_at.ensures.back, c.plain_length.ensures) (words_plain c.args.text.now c.requires.starts c.requires.plain)

pub returns-clause-shorter : goal.returns-clause-shorter
returns-clause-shorter c = omega (arith, c.split_at.ensures.back_len, c.plain_length.ensures, (plain_length_within c.args.text.now c.requires.starts).1)
