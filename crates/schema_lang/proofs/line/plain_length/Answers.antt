use Rattle.std.proofs.Common.{length, sym, ◌∙◌, arith}
use Rattle.std.proofs.lemmas.List.Sums.{position_or_len_is}
use Rattle.schema_lang.specs.Words.{is_blank}
use Rattle.schema_lang.proofs.line.plain_length.Goals as goal

pub returns-then-is_blank : goal.returns-then-is_blank
returns-then-is_blank c = sym (position_or_len_is is_blank c.args.text.now c.loop-place.place 0 (omega arith) c.loop-place.invariant (λ _. sym c.is_blank.ensures ∙ c.if-is_blank.true))

pub returns : goal.returns
returns c = sym (position_or_len_is is_blank c.args.text.now (length c.args.text.now) 0 (omega arith) (λ k within. c.loop-place.invariant k (omega arith)) (λ past. absurd (omega arith)))
