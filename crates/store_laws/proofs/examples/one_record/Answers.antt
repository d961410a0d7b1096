use Rattle.std.proofs.Common.{◌≡◌, ℕ, List, [], ◌∷◌, ◌++◌, get_or, refl, ap, arith}
use Rattle.gate_log.specs.Records.{body}
use Rattle.gate_log.specs.Logs.{records}
use Rattle.store_laws.specs.Logged.{held, IsLog}
use Rattle.store_laws.specs.Stores.{journal_mark, vault_mark}
use Rattle.store_laws.proofs.examples.one_record.Goals as goal

abbrev bytes : List ℕ
bytes = journal_mark ++ 165 ∷ 0 ∷ 0 ∷ 0 ∷ 4 ∷ 0 ∷ 1 ∷ 7 ∷ 9 ∷ 0 ∷ 165 ∷ []

read_one : held bytes ≡ record { head = 7 ∷ []; payload = 9 ∷ [] } ∷ []
unfolding records
read_one = refl

is_log : IsLog journal_mark bytes
unfolding records body
is_log = record { eight = refl; bounded = refl; front = refl; shut = refl }

not_both : (n : ℕ) → n ≡ 86 → n ≡ 74 → ⊥
not_both n one two = omega arith

other_mark : IsLog vault_mark bytes → ⊥
unfolding records body
other_mark log = not_both 74 (ap (λ (l : List ℕ). get_or l 4 0) log.front) refl

pub returns-clause-one : goal.returns-clause-one
returns-clause-one c = read_one

pub returns-clause-log : goal.returns-clause-log
returns-clause-log c = is_log

pub returns-clause-shut : goal.returns-clause-shut
unfolding records
returns-clause-shut c = refl

pub returns-clause-other : goal.returns-clause-other
returns-clause-other c = other_mark
