use Rattle.std.proofs.Common.{◌≡◌, ◌<◌, ℕ, true, false, List, Option, None, Some, length, get_or, subst, arith, inl, inr}
use Rattle.std.specs.Prelude.{Result, Ok, Err, IfOk, IfErr}
use Rattle.std.proofs.lemmas.Bool.{false≢true, cases_lt, cases_Bool}
use Rattle.std.proofs.lemmas.Option.{slice_get_past, slice_get_within}
use Rattle.delf_model.specs.declared.schema.ObjectRule.TheVariants.{ByAny}
use Rattle.delf_model.specs.declared.schema.Schema.{Schema}
use Rattle.delf_model.specs.declared.rules.Broken.{Broken}
use Rattle.delf_model.specs.declared.rules.Broken.TheVariants.{ObjectTwice, EdgeTwice, Undeclared, CannotTake, NoRoute}
use Rattle.delf_model.specs.declared.rules.JudgeFault.{JudgeFault}
use Rattle.delf_model.specs.declared.rules.JudgeFault.TheVariants.{Breaks, OutOfMemory}
use Rattle.delf_model.specs.RuleSet.{RuleSet}
use Rattle.delf_model.specs.Checked.{HasRoute, IsDistance, NoRow, LacksEnd, CondemnsUntaken, LacksRoute, KeepsRules, IsChecked, may_condemn, shape_may_condemn, takes, source_of, target_of, numbered}
use Rattle.delf_model.specs.Distances.{AreDistances}
use Rattle.delf_model.specs.Broken.{IsFirstBroken, BreaksFirst, IsNumbersFault, IsJudgeFault, ObjectNamesOnce, EdgeNamesOnce}

module _ (rules : RuleSet) (distances : List (Option ℕ)) (exact : AreDistances rules distances) where
  route_unless : (kind : ℕ) (d : Option ℕ) → IsDistance rules kind d → ((HasRoute rules kind → ⊥) → ⊥) → HasRoute rules kind
  route_unless kind None none has = absurd (has none)
  route_unless kind (Some n) some has = (some.0.0, some.0.1)

  -- annotations of which no row breaks a rule keep the rules
  pub KeepsRules-from_rows : NoRow (length rules.edges) (LacksEnd rules) → NoRow (length rules.edges) (CondemnsUntaken rules) → NoRow (length rules.objects) (LacksRoute rules) → KeepsRules rules
  KeepsRules-from_rows ends untaken unrouted = record {
    sources = λ edge h. elim (cases_lt (source_of rules edge) (length rules.objects)) [ inl within ↦ within | inr past ↦ absurd (ends edge h (inl past)) ];
    targets = λ edge h. elim (cases_lt (target_of rules edge) (length rules.objects)) [ inl within ↦ within | inr past ↦ absurd (ends edge h (inr past)) ];
    taken = λ edge h. elim (cases_Bool (takes rules (target_of rules edge))) [ inl taken ↦ taken | inr not ↦ absurd (untaken edge (edge_within edge h) (h, not)) ];
    routes = λ kind h. route_unless kind (get_or distances kind None) (exact.each kind) (λ none. unrouted kind (slice_get_within rules.objects kind ByAny h) (h, none));
  } where
    edge_within : (edge : ℕ) → may_condemn rules edge ≡ true → edge < length rules.edges
    edge_within edge h =
        elim (cases_lt edge (length rules.edges)) [
          | inl within ↦ within
          | inr past ↦ absurd (false≢true (subst (λ o. shape_may_condemn o ≡ true) (slice_get_past rules.edges edge past) h))
        ]

first_refutes_ends : (rules : RuleSet) (row : ℕ) → KeepsRules rules → row < length rules.edges → LacksEnd rules row → ⊥
first_refutes_ends rules row kept h (inl source) = let within : source_of rules row < length rules.objects = kept.sources row h in absurd (omega arith)
first_refutes_ends rules row kept h (inr target) = let within : target_of rules row < length rules.objects = kept.targets row h in absurd (omega arith)

BreaksFirst-refutes : (rules : RuleSet) (broken : Broken) → BreaksFirst rules broken → KeepsRules rules → ⊥
BreaksFirst-refutes rules (ObjectTwice row) h kept = h
BreaksFirst-refutes rules (EdgeTwice row) h kept = h
BreaksFirst-refutes rules (Undeclared row target) h kept = first_refutes_ends rules row kept h.0.0 h.0.1
BreaksFirst-refutes rules (CannotTake row) h kept =
    let taken : takes rules (target_of rules row) ≡ true = kept.taken row h.1.1.0 in
    let untaken : takes rules (target_of rules row) ≡ false = h.1.1.1 in
    cc
BreaksFirst-refutes rules (NoRoute row) h kept = h.2.1.1 (kept.routes row h.2.1.0)

-- a schema that breaks a rule is not checked
pub IsFirstBroken-refutes : (schema : Schema) (broken : Broken) → IsFirstBroken schema broken → IsChecked schema → ⊥
IsFirstBroken-refutes schema (ObjectTwice row) h checked = checked.object_names_once row h.0 h.1
IsFirstBroken-refutes schema (EdgeTwice row) h checked = checked.edge_names_once row h.1.0 h.1.1
IsFirstBroken-refutes schema (Undeclared row target) h checked = BreaksFirst-refutes (numbered schema) (Undeclared row target) h.2 checked.numbers
IsFirstBroken-refutes schema (CannotTake row) h checked = BreaksFirst-refutes (numbered schema) (CannotTake row) h.2 checked.numbers
IsFirstBroken-refutes schema (NoRoute row) h checked = BreaksFirst-refutes (numbered schema) (NoRoute row) h.2 checked.numbers

pub IfOk-along : {T E : Type 0} (r : Result T E) (P Q : Type 0) → (P → Q) → IfOk r (λ _. P) → IfOk r (λ _. Q)
IfOk-along (Ok x) P Q f h = f h
IfOk-along (Err e) P Q f h = h

IsJudgeFault-from_numbers : (schema : Schema) (rules : RuleSet) → rules ≡ numbered schema → ObjectNamesOnce schema → EdgeNamesOnce schema → (fault : JudgeFault) → IsNumbersFault rules fault → IsJudgeFault schema fault
IsJudgeFault-from_numbers schema rules is objects edges (Breaks (ObjectTwice row)) h = absurd h
IsJudgeFault-from_numbers schema rules is objects edges (Breaks (EdgeTwice row)) h = absurd h
IsJudgeFault-from_numbers schema rules is objects edges (Breaks (Undeclared row target)) h = (objects, edges, subst (λ r. BreaksFirst r (Undeclared row target)) is h)
IsJudgeFault-from_numbers schema rules is objects edges (Breaks (CannotTake row)) h = (objects, edges, subst (λ r. BreaksFirst r (CannotTake row)) is h)
IsJudgeFault-from_numbers schema rules is objects edges (Breaks (NoRoute row)) h = (objects, edges, subst (λ r. BreaksFirst r (NoRoute row)) is h)
IsJudgeFault-from_numbers schema rules is objects edges OutOfMemory h = tt

pub IfErr-from_numbers : {T : Type 0} (r : Result T JudgeFault) (schema : Schema) (rules : RuleSet) → rules ≡ numbered schema → ObjectNamesOnce schema → EdgeNamesOnce schema → IfErr r (λ fault. IsNumbersFault rules fault) → IfErr r (λ fault. IsJudgeFault schema fault)
IfErr-from_numbers (Ok x) schema rules is objects edges h = h
IfErr-from_numbers (Err fault) schema rules is objects edges h = IsJudgeFault-from_numbers schema rules is objects edges fault h
