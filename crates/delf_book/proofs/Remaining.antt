-- Each entry logs one item at most.
use Rattle.std.proofs.Common.{ℕ, ◌+◌, ◌≤◌, List, [], ◌∷◌, length, take, ap, arith, length-append, length-take}
use Rattle.delf_model.specs.declared.entry.Entry.{Entry}
use Rattle.delf_model.specs.RuleSet.{RuleSet}
use Rattle.delf_model.specs.State.{State, start}
use Rattle.delf_model.specs.Step.{step, run, after, items_after}
use Rattle.store_laws.proofs.Items.{items_split, new_few}
use Rattle.store_laws.specs.Moves.{new_items}

items_step : (s : State) (e : Entry) → length (step s e).items ≤ length s.items + 1
items_step s e =
    omega (arith, ap length (items_split s e.what), length-append (take (length s.items) (items_after s e.what)) (new_items s e.what), length-take (length s.items) (items_after s e.what), new_few s e.what)

items_run : (s : State) (es : List Entry) → length (run s es).items ≤ length s.items + length es
items_run s [] = omega arith
items_run s (e ∷ es) = omega (arith, items_run (step s e) es, items_step s e)

pub items_within : (rules : RuleSet) (h : List Entry) → length (after rules h).items ≤ length h
items_within rules h = from_none (length (after rules h).items) (length h) (items_run (start rules) h)
  where
    from_none : (a b : ℕ) → a ≤ 0 + b → a ≤ b
    from_none a b is = omega arith
