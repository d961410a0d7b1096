-- The journal record of a row of the graph: what it is, its size, and what reads from it.
use Rattle.std.proofs.Common.{◌≡◌, ℕ, zero, suc, ◌≤◌, ◌<◌, true, List, [], ◌∷◌, length, take, Option, Some, None, refl, sym, ap, ◌∙◌, subst, arith}
use Rattle.std.specs.Prelude.{slice_get}
use Rattle.std.proofs.lemmas.Option.{same_Some}
use Rattle.delf_disk.specs.declared.area.Area.{Area}
use Rattle.delf_disk.specs.declared.area.Area.TheVariants as area
use Rattle.delf_disk.specs.Areas.{Areas}
use Rattle.gate_log.specs.Logs.{Stands}
use Rattle.gate_log.specs.Places.{size_in}
use Rattle.gate_log.specs.Steps.{PayloadRead}
use Rattle.delf_model.specs.declared.rows.ObjectRow.{ObjectRow}
use Rattle.delf_model.specs.declared.rows.EdgeKey.{EdgeKey}
use Rattle.delf_model.specs.declared.rows.EdgeRow.{EdgeRow}
use Rattle.delf_model.specs.declared.entry.Entry.{Entry}
use Rattle.delf_model.specs.declared.entry.What.{What}
use Rattle.delf_model.specs.declared.entry.What.TheVariants.{Create, Update, Link, Put}
use Rattle.delf_model.specs.RuleSet.{RuleSet}
use Rattle.delf_model.specs.Graph.{has_id, has_key, object_at, edge_at}
use Rattle.delf_model.specs.State.{State, start}
use Rattle.delf_model.specs.Step.{step, run, after}
use Rattle.delf_model.specs.Legal.{Legal, is_allowed}
use Rattle.delf_model.specs.Reply.{refusals}
use Rattle.delf_model.specs.Payloads.{Payloads, is_needed, Journal, last_carrier, payload_at}
use Rattle.delf_model.proofs.Lines.{allowed_of, none_of, short}
use Rattle.delf_model.proofs.Runs.{legal_at}
use Rattle.payload_laws.specs.Holders.{record_size, HasSize, carrier_of_object, carrier_of_edge}
use Rattle.payload_laws.proofs.Members.{found_in}
use Rattle.payload_laws.proofs.Moves.{payloads_held}
use Rattle.payload_laws.proofs.Carriers.{journal_is}
use Rattle.payload_laws.proofs.Placed.{placed_after, size_there}
use Rattle.payload_laws.proofs.Rows.{Source, OfNone, OfObject, OfEdge, OfPut, source_of, Holds, ByObject, ByEdge, not_none, not_put}
use Rattle.store_laws.specs.Stores.{journal_mark, payload_in, journal_of, vault_of}
use Rattle.payload_laws.proofs.Taken.{row_needed, edge_needed}
use Rattle.store_laws.proofs.Spelled.{log_told}
use Rattle.delf_book.specs.Keeping.{journal_sizes}
use Rattle.delf_book.specs.Reads.{IsObjectAt, IsEdgeAt}
use Rattle.delf_book.specs.Writing.{Rests, dead_carriers}
use Rattle.delf_book.proofs.Carrying.{len_is}
use Rattle.delf_book.proofs.Lives.{there_at, source_is}
use Rattle.delf_book.proofs.Settling.{journal_sized_at}
use Rattle.delf_book.proofs.Sizes.{length_journal_sizes}

-- what is read of a record is the payload at the position that it carries
pub read_needed : (rules : RuleSet) (h : List Entry) (e : Payloads) (place : Area) (sizes : List (ℕ × ℕ)) (c : Areas) (i p : ℕ) (bytes : List ℕ) → place ≡ area.Journal →
    Rests rules h e c → Stands place sizes c → PayloadRead place sizes i c bytes → is_needed (after rules h) p ≡ true → last_carrier (after rules h) p ≡ Journal i → bytes ≡ payload_at e p
read_needed rules h e place sizes c i p bytes is rests stood read needed carried =
    subst (λ (a : Area). PayloadRead a sizes i c bytes) is read journal_mark (journal_of c) (journal_sized_at place sizes c is stood) (log_told journal_mark c.journal rests.0.journal) ∙
    (ap (payload_in (journal_of c) (vault_of c)) (sym carried) ∙ rests.1.reads p needed)

-- the sizes in the journal
size_at : (s : State) (h : List Entry) (i : ℕ) (e : Entry) → slice_get h i ≡ Some e → (size_in (journal_sizes s h) i).1 ≡ record_size (run s (take i h)) e.what
size_at s [] i e at = absurd (cc at)
size_at s (x ∷ xs) zero e at = ap (λ (y : Entry). record_size s y.what) (same_Some x e at)
size_at s (x ∷ xs) (suc i) e at = size_at (step s x) xs i e at

-- a payload that an entry brings is not too long
small_entry : (s : State) (moment : ℕ) (what : What) → is_allowed s moment what ≡ true → (source_of what ≡ OfNone → ⊥) → ((i : ℕ) → source_of what ≡ OfPut i → ⊥) → record_size s what ≤ 512
small_entry s moment (Create tag kind id size) line some not_put = short size (none_of (refusals s moment (Create tag kind id size)) line).0
small_entry s moment (Update tag id size) line some not_put = short size (none_of (refusals s moment (Update tag id size)) line).0
small_entry s moment (Link tag edge from to size) line some not_put = short size (none_of (refusals s moment (Link tag edge from to size)) line).0
small_entry s moment (Put job i) line some not_put = absurd (not_put i refl)
small_entry s moment what line some not_put = absurd (some refl)

-- a record that carries the payload of a row
pub record Stored (rules : RuleSet) (h : List Entry) (i p size : ℕ) : Type 0 where
  pub needed : is_needed (after rules h) p ≡ true
  pub carried : last_carrier (after rules h) p ≡ Journal i
  pub inside : i < length h
  pub sized : (size_in (journal_sizes (start rules) h) i).1 ≡ size
  pub small : size ≤ 512

module _ (rules : RuleSet) (h : List Entry) (legal : Legal rules h) where
  small_row : (source : Source) (p size : ℕ) → Holds (after rules h).graph source p size → size ≤ 512
  small_row source p size held =
      let from = (placed_after rules h legal).rows source p size held in
      let at = there_at h p (let below = from.below in omega (arith, below, len_is rules h)) in
      let is : source ≡ source_of at.0.what = sym from.source_is ∙ source_is h p at.0 at.1 in
      let line = allowed_of (after rules (take p h)) at.0 (legal_at (start rules) h p at.0 legal at.1) in
      let small = small_entry (after rules (take p h)) at.0.moment at.0.what line (λ none. not_none (after rules h).graph source p size held (sym (is ∙ none)))
      (λ i put. not_put (after rules h).graph source p size i held (is ∙ put)) in
      let same : record_size (after rules (take p h)) at.0.what ≡ size = sym (size_there rules h p at.0 at.1) ∙ from.size_is in
      omega (arith, small, same)

  sized_at : (q size : ℕ) → q < length h → HasSize rules h q size → (size_in (journal_sizes (start rules) h) q).1 ≡ size
  sized_at q size below has = let at = there_at h q below in size_at (start rules) h q at.0 at.1 ∙ has at.0 at.1

  pub record ObjectStored (id i : ℕ) : Type 0 where
    pub row : ObjectRow
    pub there : object_at (after rules h).graph id ≡ Some row
    pub stored : Stored rules h i row.at row.size

  pub object_stored : (id i : ℕ) → dead_carriers (Some i) ≡ carrier_of_object (after rules h) (object_at (after rules h).graph id) → ObjectStored id i
  object_stored id i at = by_row (object_at (after rules h).graph id) refl at
    where
      by_row : (o : Option ObjectRow) → object_at (after rules h).graph id ≡ o → Journal i ∷ [] ≡ carrier_of_object (after rules h) o → ObjectStored id i
      by_row None is at = absurd (cc at)
      by_row (Some row) is at =
          let held = payloads_held rules h legal in
          let carried : last_carrier (after rules h) row.at ≡ Journal i = cc at in
          let by = held.held.objects id row is in
          let here : by.0 ≡ i = journal_is (sym by.2 ∙ carried) in
          let below : i < length h = omega (arith, by.1, here, len_is rules h) in
          let inn = found_in (has_id id) (after rules h).graph.objects row is in
          record {
            row = row;
            there = is;
            stored = record {
              needed = row_needed (after rules h) row.at row inn refl;
              carried = carried;
              inside = below;
              sized = sized_at i row.size below (held.object_sizes id row i is carried);
              small = small_row (OfObject row.id) row.at row.size (ByObject row inn refl refl refl);
            };
          }

  pub record EdgeStored (key : EdgeKey) (i : ℕ) : Type 0 where
    pub row : EdgeRow
    pub there : edge_at (after rules h).graph key ≡ Some row
    pub stored : Stored rules h i row.birth row.size

  pub edge_stored : (key : EdgeKey) (i : ℕ) → dead_carriers (Some i) ≡ carrier_of_edge (after rules h) (edge_at (after rules h).graph key) → EdgeStored key i
  edge_stored key i at = by_row (edge_at (after rules h).graph key) refl at
    where
      by_row : (o : Option EdgeRow) → edge_at (after rules h).graph key ≡ o → Journal i ∷ [] ≡ carrier_of_edge (after rules h) o → EdgeStored key i
      by_row None is at = absurd (cc at)
      by_row (Some row) is at =
          let held = payloads_held rules h legal in
          let carried : last_carrier (after rules h) row.birth ≡ Journal i = cc at in
          let by = held.held.edges key row is in
          let here : by.0 ≡ i = journal_is (sym by.2 ∙ carried) in
          let below : i < length h = omega (arith, by.1, here, len_is rules h) in
          let inn = found_in (has_key key) (after rules h).graph.edges row is in
          record {
            row = row;
            there = is;
            stored = record {
              needed = edge_needed (after rules h) row.birth row inn refl;
              carried = carried;
              inside = below;
              sized = sized_at i row.size below (held.edge_sizes key row i is carried);
              small = small_row (OfEdge row.key) row.birth row.size (ByEdge row inn refl refl refl);
            };
          }

-- the same, told of a log

pub stored_size : (rules : RuleSet) (h : List Entry) (sizes : List (ℕ × ℕ)) (i p size : ℕ) → sizes ≡ journal_sizes (start rules) h → Stored rules h i p size → (size_in sizes i).1 ≡ size
stored_size rules h sizes i p size is stored = ap (λ (l : List (ℕ × ℕ)). (size_in l i).1) is ∙ stored.sized

pub stored_inside : (rules : RuleSet) (h : List Entry) (sizes : List (ℕ × ℕ)) (i p size : ℕ) → sizes ≡ journal_sizes (start rules) h → Stored rules h i p size → i < length sizes
stored_inside rules h sizes i p size is stored = let long = ap length is ∙ length_journal_sizes (start rules) h in omega (arith, long, stored.inside)

-- one position a row
pub object_position : (o : Option ObjectRow) (row : ObjectRow) (at n : ℕ) → o ≡ Some row → IsObjectAt o at n → row.at ≡ at
object_position o row at n is found = ap (λ (x : ObjectRow). x.at) (same_Some row found.0 (sym is ∙ found.1)) ∙ found.2

pub edge_position : (o : Option EdgeRow) (row : EdgeRow) (at n : ℕ) → o ≡ Some row → IsEdgeAt o at n → row.birth ≡ at
edge_position o row at n is found = ap (λ (x : EdgeRow). x.birth) (same_Some row found.0 (sym is ∙ found.1)) ∙ found.2
