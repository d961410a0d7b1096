use Rattle.std.proofs.Common.{◌≡◌, ◌+◌, take, ap, ◌∙◌, arith}
use Rattle.std.proofs.lemmas.List.{take_all}
use Rattle.schema_lang.specs.Numbers.{number_value}
use Rattle.schema_lang.proofs.NumberLemmas.{number_value-take-le, number_value_more}
use Rattle.schema_lang.proofs.number.value_of.Goals as goal

pub returns-in_default : goal.returns-in_default
returns-in_default c = λ fits. c.in_default.ensures (omega (arith, c.loop-digit.invariant.same, number_value-take-le c.args.text.now (c.loop-digit.digit-index + 1), number_value_more c.args.text.now c.loop-digit.digit-index (omega arith)))

pub returns-in_default-checked_add : goal.returns-in_default-checked_add
returns-in_default-checked_add c = λ fits. c.in_default-checked_add.ensures (omega (arith, c.loop-digit.invariant.same, c.in-Some.ensures, c.saturating_sub.ensures, c.from.ensures, number_value-take-le c.args.text.now (c.loop-digit.digit-index + 1), number_value_more c.args.text.now c.loop-digit.digit-index (omega arith)))

pub returns : goal.returns
returns c =
    let whole : take c.loop-digit.digit-index c.args.text.now ≡ c.args.text.now = take_all c.loop-digit.digit-index c.args.text.now (omega arith) in
    let same : c.loop-digit.value ≡ number_value c.args.text.now = c.loop-digit.invariant.same ∙ ap number_value whole in
    (omega (arith, c.loop-digit.invariant.fits), same)
