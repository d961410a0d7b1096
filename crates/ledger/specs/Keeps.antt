-- What a ledger keeps of its history.
use Rattle.std.specs.Prelude.{ℕ, Bool, List}
use Rattle.entry_codec.specs.EntryHead.{AreEntries}
use Rattle.delf_model.specs.declared.entry.Entry.{Entry}
use Rattle.delf_model.specs.RuleSet.{RuleSet}
use Rattle.delf_model.specs.Graph.{Graph}
use Rattle.delf_model.specs.Step.{after}
use Rattle.delf_model.specs.Legal.{Legal}
use Rattle.job_table.specs.Table.{Table, IsTableOf, IsGraphOf}
use Rattle.ledger.specs.Held.{AreHeld}

-- the history is legal, each of its entries has a spelling, table and graph are those of the state after it, and so are
-- the steps that are held
pub record KeepsState (rules : RuleSet) (history : List Entry) (table : Table) (stored : Graph) (refs : ℕ → Bool) : Type 0 where
  pub is_legal : Legal rules history
  pub spelled : AreEntries history
  pub is_table : IsTableOf (after rules history) table
  pub is_graph : IsGraphOf (after rules history) stored refs rules
  pub are_held : AreHeld (after rules history) table.held
