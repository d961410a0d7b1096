use Rattle.std.proofs.Common.{◌≡◌, ◌<◌, ◌^◌, take}
use Rattle.schema_lang.specs.Numbers.{number_value}
use Rattle.schema_lang.proofs.number.value_of.Given as goal

abbrev pub invariant-loop-digit : goal.invariant-loop-digit
invariant-loop-digit l = record { same : l.value ≡ number_value (take l.digit-index l.text); fits : l.value < 2 ^ 64 }
