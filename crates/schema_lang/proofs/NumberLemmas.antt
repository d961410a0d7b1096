-- The value of digits, one digit on.
use Rattle.std.proofs.Common.{◌≡◌, ℕ, zero, suc, ◌+◌, ◌-◌, ◌*◌, ◌<◌, ◌≤◌, List, [], ◌∷◌, length, take, get_or, arith, fold}
use Rattle.std.proofs.lemmas.List.Sums.{fold_more}
use Rattle.schema_lang.specs.Numbers.{number_value}

abbrev pub digits_on : ℕ → List ℕ → ℕ
digits_on start text = fold (λ n digit. n * 10 + (digit - 48)) start text

digits_on-le : (text : List ℕ) (start : ℕ) → start ≤ digits_on start text
digits_on-le [] start = omega arith
digits_on-le (digit ∷ text) start = omega (arith, digits_on-le text (start * 10 + (digit - 48)))

digits_on-take-le : (text : List ℕ) (start i : ℕ) → digits_on start (take i text) ≤ digits_on start text
digits_on-take-le [] start zero = omega arith
digits_on-take-le [] start (suc i) = omega arith
digits_on-take-le (digit ∷ text) start zero = digits_on-le (digit ∷ text) start
digits_on-take-le (digit ∷ text) start (suc i) = digits_on-take-le text (start * 10 + (digit - 48)) i

pub number_value-take-le : (text : List ℕ) (i : ℕ) → number_value (take i text) ≤ number_value text
number_value-take-le text i = digits_on-take-le text 0 i

pub number_value_more : (text : List ℕ) (i : ℕ) → i < length text → number_value (take (i + 1) text) ≡ number_value (take i text) * 10 + (get_or text i 0 - 48)
number_value_more text i within = grind (arith, fold_more)
