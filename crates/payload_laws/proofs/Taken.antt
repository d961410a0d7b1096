-- A row that a cut or an erasure takes stands, and its payload is needed.
use Rattle.std.proofs.Common.{◌≡◌, ℕ, true, ◌||◌, not, List, Option, Some, None, refl, subst}
use Rattle.std.proofs.lemmas.Bool.{and_parts, eq-eqb, or_left, or_right, false≢true}
use Rattle.std.proofs.lemmas.Option.{same_Some}
use Rattle.std.specs.Prelude.{is_some}
use Rattle.std.specs.List.{list_any}
use Rattle.delf_model.specs.declared.rows.ObjectRow.{ObjectRow}
use Rattle.delf_model.specs.declared.rows.EdgeRow.{EdgeRow}
use Rattle.delf_model.specs.declared.entry.What.{What}
use Rattle.delf_model.specs.declared.entry.What.TheVariants.{Cut, Erase}
use Rattle.delf_model.specs.Graph.{has_id, has_key, object_at, edge_at, edge_stands, is_touched}
use Rattle.delf_model.specs.State.{State, is_owned_by}
use Rattle.delf_model.specs.Owners.{key_of}
use Rattle.delf_model.specs.Legal.{is_allowed}
use Rattle.delf_model.specs.Payloads.{is_needed, object_needs, edge_needs, item_needs, position_of_object, position_of_edge}
use Rattle.delf_model.proofs.Leaves.{owner_is}
use Rattle.delf_model.proofs.Owners.{OwnedStand}
use Rattle.payload_laws.specs.Holders.{position_taken}
use Rattle.payload_laws.proofs.Members.{found_in, in_any, In}

pub row_needed : (s : State) (p : ℕ) (row : ObjectRow) → In s.graph.objects row → row.at ≡ p → is_needed s p ≡ true
row_needed s p row here at =
    or_left (list_any (object_needs p) s.graph.objects || list_any (edge_needs p) s.graph.edges) (list_any (item_needs s.jobs p) s.items)
    (or_left (list_any (object_needs p) s.graph.objects) (list_any (edge_needs p) s.graph.edges) (in_any (object_needs p) s.graph.objects row here (eq-eqb row.at p at)))

pub edge_needed : (s : State) (p : ℕ) (row : EdgeRow) → In s.graph.edges row → row.birth ≡ p → is_needed s p ≡ true
edge_needed s p row here at =
    or_left (list_any (object_needs p) s.graph.objects || list_any (edge_needs p) s.graph.edges) (list_any (item_needs s.jobs p) s.items)
    (or_right (list_any (object_needs p) s.graph.objects) (list_any (edge_needs p) s.graph.edges) (in_any (edge_needs p) s.graph.edges row here (eq-eqb row.birth p at)))

edge_found : (s : State) (edge from to : ℕ) (o : Option EdgeRow) → edge_at s.graph (key_of edge from to) ≡ o → is_some o ≡ true → is_needed s (position_of_edge o) ≡ true
edge_found s edge from to None at some = absurd (false≢true some)
edge_found s edge from to (Some row) at some = edge_needed s row.birth row (found_in (has_key (key_of edge from to)) s.graph.edges row at) refl

object_found : (s : State) (id : ℕ) (o : Option ObjectRow) → object_at s.graph id ≡ o → is_some o ≡ true → is_needed s (position_of_object o) ≡ true
object_found s id None at some = absurd (false≢true some)
object_found s id (Some row) at some = row_needed s row.at row (found_in (has_id id) s.graph.objects row at) refl

pub cut_there : (s : State) (moment job edge from to : ℕ) → is_allowed s moment (Cut job edge from to) ≡ true → is_some (edge_at s.graph (key_of edge from to)) ≡ true
cut_there s moment job edge from to line =
    (and_parts (edge_stands s.graph (key_of edge from to)) (is_owned_by s job from || is_owned_by s job to) line).0

pub erase_there : (s : State) (moment job id : ℕ) → OwnedStand s → is_allowed s moment (Erase job id) ≡ true → is_some (object_at s.graph id) ≡ true
erase_there s moment job id owned line =
    owned id job (owner_is s job id (and_parts (is_owned_by s job id) (not (is_touched s.graph id)) line).0)

pub taken_needed : (s : State) (moment : ℕ) (w : What) → OwnedStand s → is_allowed s moment w ≡ true → (p : ℕ) → position_taken s w ≡ Some p → is_needed s p ≡ true
taken_needed s moment (Cut job edge from to) owned line p taken =
    subst (λ (n : ℕ). is_needed s n ≡ true) (same_Some _ _ taken)
    (edge_found s edge from to (edge_at s.graph (key_of edge from to)) refl (cut_there s moment job edge from to line))
taken_needed s moment (Erase job id) owned line p taken =
    subst (λ (n : ℕ). is_needed s n ≡ true) (same_Some _ _ taken)
    (object_found s id (object_at s.graph id) refl (erase_there s moment job id owned line))
taken_needed s moment w owned line p taken = absurd (cc taken)
