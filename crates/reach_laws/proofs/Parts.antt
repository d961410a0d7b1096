-- The supporting laws of one history.
use Rattle.std.proofs.Common.{◌≡◌, ℕ, zero, suc, ◌+◌, ◌≤◌, ◌<◌, List, [], ◌∷◌, ◌++◌, length, take, true, refl, sym, ap, ◌∙◌, arith}
use Rattle.delf_model.specs.declared.entry.Entry.{Entry}
use Rattle.delf_model.specs.RuleSet.{RuleSet}
use Rattle.delf_model.specs.State.{State, start}
use Rattle.delf_model.specs.Step.{step, run, after}
use Rattle.delf_model.specs.Legal.{Legal, is_legal, is_legal_from}
use Rattle.delf_model.proofs.Runs.{after_push, Legal_push, legal_take}
use Rattle.delf_model.proofs.Good.{good_at, owners_push}
use Rattle.reach_laws.specs.Laws.{OneMore, EachPart}

len_run : (s : State) (es : List Entry) → (run s es).len ≡ s.len + length es
len_run s [] = omega arith
len_run s (e ∷ es) = omega (arith, len_run (step s e) es)

pub one_more : (rules : RuleSet) (h : List Entry) (e : Entry) → Legal rules h → is_legal (after rules h) e ≡ true → OneMore rules h e
one_more rules h e legal next = record {
  state = after_push rules h e;
  legal = Legal_push rules h e legal next;
  owners = λ id. owners_push rules h e id legal next;
}

pub each_part : (rules : RuleSet) (h : List Entry) (p : ℕ) → Legal rules h → EachPart rules h p
each_part rules h p legal = record {
  legal = legal_take (start rules) h p legal;
  counted = from_zero _ _ (len_run (start rules) (take p h));
  moment = (good_at rules h p legal).moment;
  ends = (good_at rules h p legal).ends;
}
  where
    from_zero : (a b : ℕ) → a ≡ 0 + b → a ≡ b
    from_zero a b is = omega arith
