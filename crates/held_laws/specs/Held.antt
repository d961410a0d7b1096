-- Held steps: what stays of a legal cut or erasure over entries that do not erase the same row.
use Rattle.std.specs.Prelude.{◌≡◌, ◌≤◌, ℕ, Bool, true, false, not, List, Option, Some, None}
use Rattle.std.specs.List.{list_all}
use Rattle.delf_model.specs.declared.rows.ObjectRow.{ObjectRow}
use Rattle.delf_model.specs.declared.rows.EdgeRow.{EdgeRow}
use Rattle.delf_model.specs.declared.rows.Item.{Item}
use Rattle.delf_model.specs.declared.rows.Item.TheVariants as item
use Rattle.delf_model.specs.declared.entry.Entry.{Entry}
use Rattle.delf_model.specs.declared.entry.What.{What}
use Rattle.delf_model.specs.declared.entry.What.TheVariants.{Cut, Erase}
use Rattle.delf_model.specs.RuleSet.{RuleSet}
use Rattle.delf_model.specs.Graph.{Graph, object_at, edge_at}
use Rattle.delf_model.specs.State.{State, position_of}
use Rattle.delf_model.specs.Step.{step, run, after, birth_of}
use Rattle.delf_model.specs.Owners.{key_of}
use Rattle.delf_model.specs.Legal.{is_legal, is_legal_from}
use Rattle.delf_model.specs.Room.{greatest_moment}
use Rattle.delf_model.specs.Order.{is_legal_step, erases_same}
use Rattle.delf_model.specs.Payloads.{is_needed, last_carrier}

-- a cut or an erasure
abbrev pub takes_row : What → Bool
takes_row (Cut job edge from to) = true
takes_row (Erase job id) = true
takes_row what = false

abbrev pub edge_logged : Graph → ℕ → Option EdgeRow → Option Item
edge_logged g job None = None
edge_logged g job (Some row) = Some (item.Edge job row (birth_of g row.key.from) (birth_of g row.key.to))

abbrev pub object_logged : ℕ → Option ObjectRow → Option Item
object_logged job None = None
object_logged job (Some row) = Some (item.Object job row)

-- the item that the step would log now: its row with the birth, for an edge with the births of the ends
abbrev pub would_log : State → What → Option Item
would_log s (Cut job edge from to) = edge_logged s.graph job (edge_at s.graph (key_of edge from to))
would_log s (Erase job id) = object_logged job (object_at s.graph id)
would_log s what = None

-- the entry does not erase the row of the step
abbrev pub leaves_row : What → Entry → Bool
leaves_row what e = not (erases_same what e.what)

abbrev pub none_erases : What → List Entry → Bool
none_erases what es = list_all (leaves_row what) es

-- what stays of a step from one state to a later one: it is legal at each moment that may come, it logs the same item,
-- and the payload of this item is needed and carried where it was
pub record StaysHeld (s now : State) (what : What) : Type 0 where
  pub legal : (moment : ℕ) → now.moment ≤ moment → moment ≤ greatest_moment → is_legal_step now moment what ≡ true
  pub logs : would_log now what ≡ would_log s what
  pub needed : (it : Item) → would_log s what ≡ Some it → is_needed now (position_of it) ≡ true
  pub carried : (it : Item) → would_log s what ≡ Some it → last_carrier now (position_of it) ≡ last_carrier s (position_of it)

-- a legal cut or erasure stays so over each legal entry, and over each legal list of entries, that does not erase the same row
pub record HeldStepsStay (rules : RuleSet) (history : List Entry) : Type 0 where
  pub one : (what : What) (at : ℕ) (e : Entry) → takes_row what ≡ true → is_legal_step (after rules history) at what ≡ true →
      is_legal (after rules history) e ≡ true → erases_same what e.what ≡ false →
      StaysHeld (after rules history) (step (after rules history) e) what
  pub many : (what : What) (at : ℕ) (es : List Entry) → takes_row what ≡ true → is_legal_step (after rules history) at what ≡ true →
      is_legal_from (after rules history) es ≡ true → none_erases what es ≡ true →
      StaysHeld (after rules history) (run (after rules history) es) what
