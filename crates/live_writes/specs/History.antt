-- What a judge is given.
use Rattle.std.specs.Prelude.{ℕ, ◌+◌, Bool, List, [], ◌∷◌, Option}
use Rattle.delf_model.specs.declared.entry.Entry.{Entry}
use Rattle.delf_model.specs.RuleSet.{RuleSet}
use Rattle.delf_model.specs.Graph.{Graph}
use Rattle.delf_model.specs.State.{State}
use Rattle.delf_model.specs.Step.{after}
use Rattle.delf_model.specs.declared.call.Refusal.{Refusal}
use Rattle.delf_model.specs.Legal.{Legal}
use Rattle.delf_model.specs.Reply.{absent, condemned}
use Rattle.delf_model.specs.State.{last_erasure_or_zero}
use Rattle.job_table.specs.Table.{Table, IsTableOf, IsGraphOf, last_erasure}

-- table, graph and rules are those of one history
abbrev pub AreOfOneHistory : Table → Graph → (ℕ → Bool) → RuleSet → Type 0
AreOfOneHistory table stored refs rules =
    (history : List Entry) × Legal rules history × IsTableOf (after rules history) table × IsGraphOf (after rules history) stored refs rules

-- the refusals of a call that names an edge, as far as its ends
abbrev pub ends_refusals : State → ℕ → ℕ → List (Option Refusal)
ends_refusals s from to = absent s from ∷ absent s to ∷ condemned s from ∷ condemned s to ∷ []

-- the table is that of a history under these rules
abbrev pub IsTableOfHistory : Table → RuleSet → Type 0
IsTableOfHistory table rules = (history : List Entry) × Legal rules history × IsTableOf (after rules history) table

-- the last moment at which a job may be restored
abbrev pub end_of_window : State → ℕ → ℕ
end_of_window s job = last_erasure_or_zero (last_erasure s job) + s.rules.window
