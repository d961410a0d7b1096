-- Laws of one history, each a record so that it can be cited by name.
use Rattle.std.specs.Prelude.{◌≡◌, ℕ, ◌+◌, ◌≤◌, List, [], ◌∷◌, ◌++◌, length, take, true, IsTrue}
use Rattle.delf_model.specs.declared.entry.Entry.{Entry}
use Rattle.delf_model.specs.RuleSet.{RuleSet}
use Rattle.delf_model.specs.State.{State, owner}
use Rattle.delf_model.specs.Step.{step, after}
use Rattle.delf_model.specs.Store.{EndsStand}
use Rattle.delf_model.specs.Legal.{Legal, is_legal}
use Rattle.delf_model.specs.Room.{greatest_moment}
use Rattle.delf_model.proofs.Plain.{plain_owner}

-- one legal entry more: the state is one step further, the history stays legal, and owners change by the kind of the
-- entry alone, as code that keeps them entry by entry changes them
pub record OneMore (rules : RuleSet) (history : List Entry) (entry : Entry) : Type 0 where
  pub state : after rules (history ++ entry ∷ []) ≡ step (after rules history) entry
  pub legal : Legal rules (history ++ entry ∷ [])
  pub owners : (id : ℕ) → owner (after rules (history ++ entry ∷ [])) id ≡ plain_owner (after rules history) entry.what id

-- each part of a legal history is legal, its state counts its entries, its moment is within the limit, and the ends of
-- each of its edges stand
pub record EachPart (rules : RuleSet) (history : List Entry) (p : ℕ) : Type 0 where
  pub legal : Legal rules (take p history)
  pub counted : (after rules (take p history)).len ≡ length (take p history)
  pub moment : (after rules (take p history)).moment ≤ greatest_moment
  pub ends : EndsStand (after rules (take p history)).graph
