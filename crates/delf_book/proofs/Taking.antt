-- The row that a cut or an erasure takes.
use Rattle.std.proofs.Common.{◌≡◌, ℕ, zero, suc, ◌<◌, ◌≤◌, true, Option, Some, None, List, [], ◌∷◌, length, take, refl, sym, ap, ◌∙◌, subst, arith}
use Rattle.std.proofs.lemmas.Bool.{and_parts, false≢true}
use Rattle.std.proofs.lemmas.List.{drop_at}
use Rattle.std.proofs.lemmas.Option.{same_Some}
use Rattle.std.specs.Prelude.{IsTrue, is_some, not, slice_get}
use Rattle.gate_log.specs.Places.{size_in}
use Rattle.entry_codec.specs.EntryHead.{IsBounded}
use Rattle.entry_codec.specs.ItemHead.{item_size, IsTypeBounded}
use Rattle.delf_model.specs.declared.rows.ObjectRow.{ObjectRow}
use Rattle.delf_model.specs.declared.rows.EdgeKey.{EdgeKey}
use Rattle.delf_model.specs.declared.rows.EdgeRow.{EdgeRow}
use Rattle.delf_model.specs.declared.rows.Item.{Item}
use Rattle.delf_model.specs.declared.rows.Item.TheVariants as item
use Rattle.delf_model.specs.declared.entry.Entry.{Entry}
use Rattle.delf_model.specs.declared.entry.What.{What}
use Rattle.delf_model.specs.declared.entry.What.TheVariants.{Create, Update, Link, Unlink, Delete, Restore, Expire, Cut, Erase, Put, Purge}
use Rattle.delf_model.specs.RuleSet.{RuleSet}
use Rattle.delf_model.specs.Graph.{Graph, has_id, has_key, object_at, edge_at, edge_stands, is_touched}
use Rattle.delf_model.specs.State.{State, start, position_of, is_owned_by}
use Rattle.delf_model.specs.Step.{step, run, after, edge_item, object_item, birth_of}
use Rattle.delf_model.specs.Owners.{key_of}
use Rattle.delf_model.specs.Legal.{Legal, is_legal, is_allowed}
use Rattle.delf_model.specs.Room.{payload_limit}
use Rattle.delf_model.specs.Payloads.{Carrier, Journal, is_needed, last_carrier, position_of_edge, position_of_object}
use Rattle.delf_model.proofs.Lines.{allowed_of}
use Rattle.delf_model.proofs.Good.{good_after}
use Rattle.delf_model.proofs.Leaves.{owner_is}
use Rattle.delf_model.proofs.Owners.{OwnedStand, found_id, found_key}
use Rattle.payload_laws.specs.Holders.{position_taken, scrubbed_by, record_size, carrier_of_edge, carrier_of_object, HasSize}
use Rattle.payload_laws.proofs.Members.{found_in}
use Rattle.payload_laws.proofs.Moves.{payloads_held}
use Rattle.payload_laws.proofs.Taken.{row_needed, edge_needed}
use Rattle.held_laws.specs.Held.{would_log, edge_logged, object_logged}
use Rattle.delete_step.specs.Logging.{logged_by, first_item}
use Rattle.delf_book.specs.Keeping.{journal_sizes, scrubs_rows}
use Rattle.delf_book.specs.Claims.{taken_by}
use Rattle.delf_book.specs.Taken.{TakesItem}
use Rattle.delf_book.proofs.Fitting.{FitsObject, FitsEdge, all_found, objects_fit, edges_fit}

pub scrubs_row : (s : State) (w : What) → IsTrue (is_some (position_taken s w)) → scrubs_rows w ≡ true
scrubs_row s (Put job i) taken = absurd (false≢true taken)
scrubs_row s (Purge job) taken = absurd (false≢true taken)
scrubs_row s w taken = refl

-- the row stands

some_is : {A : Type 0} (o : Option A) → is_some o ≡ true → (x : A) × (o ≡ Some x)
some_is None some = absurd (false≢true some)
some_is (Some x) some = (x, refl)

pub edge_there : (s : State) (moment job edge from to : ℕ) → is_allowed s moment (Cut job edge from to) ≡ true → (row : EdgeRow) × (edge_at s.graph (key_of edge from to) ≡ Some row)
edge_there s moment job edge from to line =
    some_is (edge_at s.graph (key_of edge from to)) (and_parts (edge_stands s.graph (key_of edge from to)) _ line).0

pub object_there : (s : State) (moment job id : ℕ) → OwnedStand s → is_allowed s moment (Erase job id) ≡ true → (row : ObjectRow) × (object_at s.graph id ≡ Some row)
object_there s moment job id owned line =
    some_is (object_at s.graph id) (owned id job (owner_is s job id (and_parts (is_owned_by s job id) (not (is_touched s.graph id)) line).0))

-- what a row is logged as
abbrev pub cut_item : State → ℕ → EdgeRow → Item
cut_item s job row = item.Edge job row (birth_of s.graph row.key.from) (birth_of s.graph row.key.to)

takes_edge : (s : State) (job edge from to : ℕ) (row : EdgeRow) → edge_at s.graph (key_of edge from to) ≡ Some row → TakesItem s (Cut job edge from to) (cut_item s job row)
takes_edge s job edge from to row at = record {
  items = drop_at s.items (edge_item s.graph job (edge_at s.graph (key_of edge from to))) (length s.items) refl ∙ ap (edge_item s.graph job) at;
  position = ap (λ (o : Option EdgeRow). Some (position_of_edge o)) at;
  scrubbed = ap (carrier_of_edge s) at;
}

takes_object : (s : State) (job id : ℕ) (row : ObjectRow) → object_at s.graph id ≡ Some row → TakesItem s (Erase job id) (item.Object job row)
takes_object s job id row at = record {
  items = drop_at s.items (object_item job (object_at s.graph id)) (length s.items) refl ∙ ap (object_item job) at;
  position = ap (λ (o : Option ObjectRow). Some (position_of_object o)) at;
  scrubbed = ap (carrier_of_object s) at;
}

-- the same, of an item that a step would log

pub would_log_is : (s : State) (w : What) → would_log s w ≡ first_item (logged_by s.graph w)
would_log_is s (Cut job edge from to) = by_row (edge_at s.graph (key_of edge from to))
  where
    by_row : (o : Option EdgeRow) → edge_logged s.graph job o ≡ first_item (edge_item s.graph job o)
    by_row None = refl
    by_row (Some row) = refl
would_log_is s (Erase job id) = by_row (object_at s.graph id)
  where
    by_row : (o : Option ObjectRow) → object_logged job o ≡ first_item (object_item job o)
    by_row None = refl
    by_row (Some row) = refl
would_log_is s (Create tag kind id size) = refl
would_log_is s (Update tag id size) = refl
would_log_is s (Link tag edge from to size) = refl
would_log_is s (Unlink tag edge from to name) = refl
would_log_is s (Delete tag id name) = refl
would_log_is s (Restore tag job) = refl
would_log_is s (Expire id) = refl
would_log_is s (Put job i) = refl
would_log_is s (Purge job) = refl

pub takes_logged : (s : State) (w : What) (it : Item) → would_log s w ≡ Some it → TakesItem s w it
takes_logged s (Cut job edge from to) it is = by_row (edge_at s.graph (key_of edge from to)) refl is
  where
    by_row : (o : Option EdgeRow) → edge_at s.graph (key_of edge from to) ≡ o → edge_logged s.graph job o ≡ Some it → TakesItem s (Cut job edge from to) it
    by_row None at is = absurd (cc is)
    by_row (Some row) at is = subst (TakesItem s (Cut job edge from to)) (same_Some (cut_item s job row) it is) (takes_edge s job edge from to row at)
takes_logged s (Erase job id) it is = by_row (object_at s.graph id) refl is
  where
    by_row : (o : Option ObjectRow) → object_at s.graph id ≡ o → object_logged job o ≡ Some it → TakesItem s (Erase job id) it
    by_row None at is = absurd (cc is)
    by_row (Some row) at is = subst (TakesItem s (Erase job id)) (same_Some (item.Object job row) it is) (takes_object s job id row at)
takes_logged s w it is = absurd (cc is)

pub needed_logged : (s : State) (w : What) (it : Item) → would_log s w ≡ Some it → is_needed s (position_of it) ≡ true
needed_logged s (Cut job edge from to) it is = by_row (edge_at s.graph (key_of edge from to)) refl is
  where
    by_row : (o : Option EdgeRow) → edge_at s.graph (key_of edge from to) ≡ o → edge_logged s.graph job o ≡ Some it → is_needed s (position_of it) ≡ true
    by_row None at is = absurd (cc is)
    by_row (Some row) at is =
        subst (λ (x : Item). is_needed s (position_of x) ≡ true) (same_Some (cut_item s job row) it is)
        (edge_needed s row.birth row (found_in (has_key (key_of edge from to)) s.graph.edges row at) refl)
needed_logged s (Erase job id) it is = by_row (object_at s.graph id) refl is
  where
    by_row : (o : Option ObjectRow) → object_at s.graph id ≡ o → object_logged job o ≡ Some it → is_needed s (position_of it) ≡ true
    by_row None at is = absurd (cc is)
    by_row (Some row) at is =
        subst (λ (x : Item). is_needed s (position_of x) ≡ true) (same_Some (item.Object job row) it is)
        (row_needed s row.at row (found_in (has_id id) s.graph.objects row at) refl)
needed_logged s w it is = absurd (cc is)

-- the item names the step
pub taken_is : (s : State) (w : What) (it : Item) → would_log s w ≡ Some it → taken_by it ≡ w
taken_is s (Cut job edge from to) it is = by_row (edge_at s.graph (key_of edge from to)) refl is
  where
    by_row : (o : Option EdgeRow) → edge_at s.graph (key_of edge from to) ≡ o → edge_logged s.graph job o ≡ Some it → taken_by it ≡ Cut job edge from to
    by_row None at is = absurd (cc is)
    by_row (Some row) at is =
        subst (λ (x : Item). taken_by x ≡ Cut job edge from to) (same_Some (cut_item s job row) it is)
        (ap (λ (k : EdgeKey). Cut job k.edge k.from k.to) (found_key s.graph.edges (key_of edge from to) row at))
taken_is s (Erase job id) it is = by_row (object_at s.graph id) refl is
  where
    by_row : (o : Option ObjectRow) → object_at s.graph id ≡ o → object_logged job o ≡ Some it → taken_by it ≡ Erase job id
    by_row None at is = absurd (cc is)
    by_row (Some row) at is =
        subst (λ (x : Item). taken_by x ≡ Erase job id) (same_Some (item.Object job row) it is)
        (ap (Erase job) (found_id s.graph.objects id row at))
taken_is s w it is = absurd (cc is)

-- the size of a record of the journal

entry_at : (es : List Entry) (q : ℕ) → q < length es → (e : Entry) × (slice_get es q ≡ Some e)
entry_at [] q below = absurd (omega (arith, below))
entry_at (e ∷ es) zero below = (e, refl)
entry_at (e ∷ es) (suc q) below = entry_at es q (omega (arith, below))

size_there : (s : State) (es : List Entry) (q : ℕ) (e : Entry) → slice_get es q ≡ Some e → (size_in (journal_sizes s es) q).1 ≡ record_size (run s (take q es)) e.what
size_there s [] q e at = absurd (cc at)
size_there s (x ∷ xs) zero e at = ap (λ (y : Entry). record_size s y.what) (same_Some x e at)
size_there s (x ∷ xs) (suc q) e at = size_there (step s x) xs q e at

pub sized_at : (rules : RuleSet) (h : List Entry) (sizes : List (ℕ × ℕ)) (q size : ℕ) → sizes ≡ journal_sizes (start rules) h → q < length h → HasSize rules h q size →
    (size_in sizes q).1 ≡ size
sized_at rules h sizes q size is below has =
    let e = entry_at h q below in
    ap (λ (l : List (ℕ × ℕ)). (size_in l q).1) is ∙ (size_there (start rules) h q e.0 e.1 ∙ has e.0 e.1)

-- what is known of the item of a legal entry
pub record Fit (rules : RuleSet) (h : List Entry) (w : What) (it : Item) : Type 0 where
  pub takes : TakesItem (after rules h) w it
  pub first : first_item (logged_by (after rules h).graph w) ≡ Some it
  pub size : item_size it ≤ payload_limit
  pub types : IsTypeBounded it
  pub sized : (q : ℕ) → last_carrier (after rules h) (position_of it) ≡ Journal q → HasSize rules h q (item_size it)

module _ (rules : RuleSet) (h : List Entry) (legal : Legal rules h) (few : length rules.objects ≤ 64) where
  fit_edge : (job edge from to : ℕ) (row : EdgeRow) → edge_at (after rules h).graph (key_of edge from to) ≡ Some row →
      Fit rules h (Cut job edge from to) (cut_item (after rules h) job row)
  fit_edge job edge from to row at = record {
    takes = takes_edge (after rules h) job edge from to row at;
    first = ap (λ (o : Option EdgeRow). first_item (edge_item (after rules h).graph job o)) at;
    size = all_found FitsEdge (has_key (key_of edge from to)) (after rules h).graph.edges row (edges_fit rules h legal) at;
    types = tt;
    sized = λ q carried. (payloads_held rules h legal).edge_sizes (key_of edge from to) row q at carried;
  }

  fit_object : (job id : ℕ) (row : ObjectRow) → object_at (after rules h).graph id ≡ Some row → Fit rules h (Erase job id) (item.Object job row)
  fit_object job id row at =
      let fits = all_found (FitsObject rules) (has_id id) (after rules h).graph.objects row (objects_fit rules h legal) at in
      record {
        takes = takes_object (after rules h) job id row at;
        first = ap (λ (o : Option ObjectRow). first_item (object_item job o)) at;
        size = fits.size;
        types = omega (arith, fits.kind, few);
        sized = λ q carried. (payloads_held rules h legal).object_sizes id row q at carried;
      }

  fit_by : (moment : ℕ) (w : What) → is_allowed (after rules h) moment w ≡ true → IsBounded w → IsTrue (is_some (position_taken (after rules h) w)) → (it : Item) × Fit rules h w it
  fit_by moment (Cut job edge from to) line bounded taken =
      let row = edge_there (after rules h) moment job edge from to line in (cut_item (after rules h) job row.0, fit_edge job edge from to row.0 row.1)
  fit_by moment (Erase job id) line bounded taken =
      let row = object_there (after rules h) moment job id (good_after rules h legal).owned_stand line in (item.Object job row.0, fit_object job id row.0 row.1)
  fit_by moment w line bounded taken = absurd (false≢true taken)

  pub fit_of : (entry : Entry) → is_legal (after rules h) entry ≡ true → IsBounded entry.what → IsTrue (is_some (position_taken (after rules h) entry.what)) → (it : Item) × Fit rules h entry.what it
  fit_of entry line bounded taken = fit_by entry.moment entry.what (allowed_of (after rules h) entry line) bounded taken

-- the record that carries the payload of the row
pub carried_at : (s : State) (w : What) (it : Item) (q : ℕ) → TakesItem s w it → Journal q ∷ [] ≡ scrubbed_by s w → last_carrier s (position_of it) ≡ Journal q
carried_at s w it q takes is = let both : Journal q ∷ [] ≡ last_carrier s (position_of it) ∷ [] = is ∙ takes.scrubbed in cc both

-- what is found in the graph is that item
pub record Found (rules : RuleSet) (h : List Entry) (w : What) (found : Option Item) : Type 0 where
  pub it : Item
  pub fit : Fit rules h w it
  pub is : found ≡ Some it

pub row_found : (rules : RuleSet) (h : List Entry) (entry : Entry) (graph : Graph) (found : Option Item) → Legal rules h → length rules.objects ≤ 64 → is_legal (after rules h) entry ≡ true →
    IsBounded entry.what → IsTrue (is_some (position_taken (after rules h) entry.what)) → graph ≡ (after rules h).graph → found ≡ first_item (logged_by graph entry.what) →
    Found rules h entry.what found
row_found rules h entry graph found legal few line bounded taken same is =
    let fit = fit_of rules h legal few entry line bounded taken in
    record { it = fit.0; fit = fit.1; is = is ∙ (ap (λ (g : Graph). first_item (logged_by g entry.what)) same ∙ fit.1.first) }

pub found_fit : (rules : RuleSet) (h : List Entry) (w : What) (found : Option Item) (it : Item) → Found rules h w found → found ≡ Some it → Fit rules h w it
found_fit rules h w found it f is = subst (λ (x : Item). Fit rules h w x) (same_Some f.it it (sym f.is ∙ is)) f.fit

pub found_none : (rules : RuleSet) (h : List Entry) (w : What) (found : Option Item) → Found rules h w found → found ≡ None → ⊥
found_none rules h w found f is = let no : Some f.it ≡ None = sym f.is ∙ is in cc no

-- a record is left to be scrubbed
scrubs_one : (s : State) (moment : ℕ) (w : What) → OwnedStand s → is_allowed s moment w ≡ true → IsTrue (is_some (position_taken s w)) → (carrier : Carrier) × (scrubbed_by s w ≡ carrier ∷ [])
scrubs_one s moment (Cut job edge from to) owned line taken =
    let row = edge_there s moment job edge from to line in (last_carrier s row.0.birth, ap (carrier_of_edge s) row.1)
scrubs_one s moment (Erase job id) owned line taken =
    let row = object_there s moment job id owned line in (last_carrier s row.0.at, ap (carrier_of_object s) row.1)
scrubs_one s moment w owned line taken = absurd (false≢true taken)

pub scrubs_some : (rules : RuleSet) (h : List Entry) (entry : Entry) → Legal rules h → is_legal (after rules h) entry ≡ true → IsTrue (is_some (position_taken (after rules h) entry.what)) →
    [] ≡ scrubbed_by (after rules h) entry.what → ⊥
scrubs_some rules h entry legal line taken none =
    let one = scrubs_one (after rules h) entry.moment entry.what (good_after rules h legal).owned_stand (allowed_of (after rules h) entry line) taken in
    let no : [] ≡ one.0 ∷ [] = none ∙ one.1 in cc no
