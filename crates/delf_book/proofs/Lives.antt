-- Which records carry a needed payload, told by the rows and items that stand now.
use Rattle.std.proofs.Common.{◌≡◌, ℕ, zero, suc, ◌<◌, Bool, true, false, not, ◌||◌, eqb, List, [], ◌∷◌, length, Option, Some, None, refl, sym, ap, ◌∙◌, subst, arith, inl, inr}
use Rattle.std.specs.Prelude.{slice_get, option_map, ◌↔◌}
use Rattle.std.specs.List.{list_any}
use Rattle.std.proofs.lemmas.Bool.{and_parts, and_from, or_cases, or_right, eqb-true, eq-eqb, false≢true, not-true, not_from_false}
use Rattle.std.proofs.lemmas.Option.{same_Some}
use Rattle.delf_model.specs.declared.rows.ObjectRow.{ObjectRow}
use Rattle.delf_model.specs.declared.rows.EdgeKey.{EdgeKey}
use Rattle.delf_model.specs.declared.rows.EdgeRow.{EdgeRow}
use Rattle.delf_model.specs.declared.rows.Item.{Item}
use Rattle.delf_model.specs.declared.rows.Item.TheVariants as item
use Rattle.delf_model.specs.declared.entry.Entry.{Entry}
use Rattle.delf_model.specs.declared.entry.What.{What}
use Rattle.delf_model.specs.declared.entry.What.TheVariants.{Create, Update, Link, Unlink, Delete, Restore, Expire, Cut, Erase, Put, Purge}
use Rattle.delf_model.specs.RuleSet.{RuleSet}
use Rattle.delf_model.specs.Graph.{has_id, has_key, object_at, edge_at}
use Rattle.delf_model.specs.State.{State, Logged, job_of, position_of}
use Rattle.delf_model.specs.Step.{after}
use Rattle.delf_model.specs.Legal.{Legal}
use Rattle.delf_model.specs.Report.{was_put}
use Rattle.delf_model.specs.Payloads.{is_purged, keeps_payload, object_needs, edge_needs, item_needs, is_needed, Carrier, Journal, Vault, last_carrier}
use Rattle.delf_model.proofs.Graphs.{same_key_refl}
use Rattle.delf_model.proofs.Owners.{found_id, found_key}
use Rattle.job_table.specs.Table.{item_at, item_of_logged}
use Rattle.payload_laws.specs.Holders.{IsLive, carrier_of_object, carrier_of_edge}
use Rattle.payload_laws.proofs.Members.{In, some_is, found_in, in_found, any_in, any_at, at_any}
use Rattle.payload_laws.proofs.Carriers.{HeldLast, Unheld, held_or_not, carrier_unheld, carrier_held, put_by, put_journal, vault_is, journal_is, vault_journal}
use Rattle.payload_laws.proofs.Moves.{NeededBy, ByRow, ByItem, payloads_held}
use Rattle.payload_laws.proofs.Placed.{IsFrom, Placed, placed_after, sources_in, sizes_in}
use Rattle.payload_laws.proofs.Rows.{Source, OfNone, OfObject, OfEdge, OfPut, source_of, source_of_item, Holds, ByObject, ByEdge}
use Rattle.payload_laws.proofs.Taken.{row_needed, edge_needed}
use Rattle.ledger.specs.Parts.{what_of}
use Rattle.delf_book.specs.Reads.{carriers_of_row, carriers_of_what}
use Rattle.delf_book.specs.Writing.{dead_carriers}
use Rattle.delf_book.proofs.Carrying.{len_is}

-- what needs a position
needed_by : (s : State) (p : ℕ) → is_needed s p ≡ true → NeededBy s p
needed_by s p needed =
    elim (or_cases ((list_any (object_needs p) s.graph.objects) || (list_any (edge_needs p) s.graph.edges)) (list_any (item_needs s.jobs p) s.items) needed) [
      | inl row ↦
          elim (or_cases (list_any (object_needs p) s.graph.objects) (list_any (edge_needs p) s.graph.edges) row) [
            | inl object ↦
                let found = any_in (object_needs p) s.graph.objects object in
                ByRow (OfObject found.0.id) found.0.size (ByObject found.0 found.1 refl (sym (eqb-true found.0.at p found.2)) refl)
            | inr edge ↦
                let found = any_in (edge_needs p) s.graph.edges edge in
                ByRow (OfEdge found.0.key) found.0.size (ByEdge found.0 found.1 refl (sym (eqb-true found.0.birth p found.2)) refl)
          ]
      | inr item ↦
          let found = any_at (item_needs s.jobs p) s.items item in
          let l = found.1.0 in
          let parts = and_parts (keeps_payload s.jobs l) (eqb (position_of l.item) p) found.1.2 in
          let keeps = and_parts (not (is_purged s.jobs (job_of l.item))) (not (was_put l.handled)) parts.0 in
          ByItem found.0 l found.1.1 (eqb-true (position_of l.item) p parts.1) (not-true (is_purged s.jobs (job_of l.item)) keeps.0) (not-true (was_put l.handled) keeps.1)
    ]

pub there_at : (h : List Entry) (i : ℕ) → i < length h → (e : Entry) × (slice_get h i ≡ Some e)
there_at [] i within = absurd (omega arith)
there_at (e ∷ es) zero within = (e, refl)
there_at (e ∷ es) (suc i) within = there_at es i (omega arith)

pub source_is : (h : List Entry) (i : ℕ) (e : Entry) → slice_get h i ≡ Some e → sources_in h i ≡ source_of e.what
source_is [] i e at = absurd (cc at)
source_is (x ∷ xs) zero e at = ap (λ (y : Entry). source_of y.what) (same_Some x e at)
source_is (x ∷ xs) (suc i) e at = source_is xs i e at

-- the carrier of the row that a source names
abbrev carriers_of : State → Source → List Carrier
carriers_of s OfNone = []
carriers_of s (OfObject id) = carrier_of_object s (object_at s.graph id)
carriers_of s (OfEdge key) = carrier_of_edge s (edge_at s.graph key)
carriers_of s (OfPut i) = carriers_of_row s (item_at s i)

by_source : (s : State) (what : What) → carriers_of_what s what ≡ carriers_of s (source_of what)
by_source s (Create tag kind id size) = refl
by_source s (Update tag id size) = refl
by_source s (Link tag edge from to size) = refl
by_source s (Unlink tag edge from to name) = refl
by_source s (Delete tag id name) = refl
by_source s (Restore tag job) = refl
by_source s (Expire id) = refl
by_source s (Cut job edge from to) = refl
by_source s (Erase job id) = refl
by_source s (Put job i) = refl
by_source s (Purge job) = refl

by_item : (s : State) (it : Item) → carriers_of_row s (Some it) ≡ carriers_of s (source_of_item it)
by_item s (item.Object job row) = refl
by_item s (item.Edge job row from_birth to_birth) = refl

-- a carrier of a row is live
object_live : (s : State) (id i : ℕ) (o : Option ObjectRow) → object_at s.graph id ≡ o → carrier_of_object s o ≡ Journal i ∷ [] → IsLive s (Journal i)
object_live s id i None is at = absurd (cc at)
object_live s id i (Some row) is at = (row.at, row_needed s row.at row (found_in (has_id id) s.graph.objects row is) refl, cc at)

edge_live : (s : State) (key : EdgeKey) (i : ℕ) (o : Option EdgeRow) → edge_at s.graph key ≡ o → carrier_of_edge s o ≡ Journal i ∷ [] → IsLive s (Journal i)
edge_live s key i None is at = absurd (cc at)
edge_live s key i (Some row) is at = (row.birth, edge_needed s row.birth row (found_in (has_key key) s.graph.edges row is) refl, cc at)

row_live : (s : State) (i : ℕ) (o : Option Item) → carriers_of_row s o ≡ Journal i ∷ [] → IsLive s (Journal i)
row_live s i None at = absurd (cc at)
row_live s i (Some (item.Object job row)) at = object_live s row.id i (object_at s.graph row.id) refl at
row_live s i (Some (item.Edge job row from_birth to_birth)) at = edge_live s row.key i (edge_at s.graph row.key) refl at

source_live : (s : State) (i : ℕ) (source : Source) → carriers_of s source ≡ Journal i ∷ [] → IsLive s (Journal i)
source_live s i OfNone at = absurd (cc at)
source_live s i (OfObject id) at = object_live s id i (object_at s.graph id) refl at
source_live s i (OfEdge key) at = edge_live s key i (edge_at s.graph key) refl at
source_live s i (OfPut item) at = row_live s i (item_at s item) at

module _ (rules : RuleSet) (h : List Entry) (legal : Legal rules h) where
  abbrev s : State
  s = after rules h

  placed : Placed (sources_in h) (sizes_in rules h) (after rules h)
  placed = placed_after rules h legal

  -- the row that holds a position is found by its name
  object_found : (source : Source) (p size : ℕ) (row : ObjectRow) → Holds s.graph source p size → In s.graph.objects row → source ≡ OfObject row.id →
      carriers_of s source ≡ last_carrier s p ∷ []
  object_found source p size row held here is =
      let found = in_found (has_id row.id) s.graph.objects row here (eq-eqb row.id row.id refl) in
      let y = found.0 in
      let id : y.id ≡ row.id = found_id s.graph.objects row.id y found.1 in
      let same : p ≡ y.at = placed.one source p y.at size y.size held (ByObject y (found_in (has_id row.id) s.graph.objects y found.1) (is ∙ ap OfObject (sym id)) refl refl) in
      ap (carriers_of s) is ∙ (ap (carrier_of_object s) found.1 ∙ ap (λ (n : ℕ). last_carrier s n ∷ []) (sym same))

  edge_found : (source : Source) (p size : ℕ) (row : EdgeRow) → Holds s.graph source p size → In s.graph.edges row → source ≡ OfEdge row.key →
      carriers_of s source ≡ last_carrier s p ∷ []
  edge_found source p size row held here is =
      let found = in_found (has_key row.key) s.graph.edges row here (same_key_refl row.key) in
      let y = found.0 in
      let key : y.key ≡ row.key = found_key s.graph.edges row.key y found.1 in
      let same : p ≡ y.birth = placed.one source p y.birth size y.size held (ByEdge y (found_in (has_key row.key) s.graph.edges y found.1) (is ∙ ap OfEdge (sym key)) refl refl) in
      ap (carriers_of s) is ∙ (ap (carrier_of_edge s) found.1 ∙ ap (λ (n : ℕ). last_carrier s n ∷ []) (sym same))

  row_found : (source : Source) (p size : ℕ) → Holds s.graph source p size → Holds s.graph source p size → carriers_of s source ≡ last_carrier s p ∷ []
  row_found source p size (ByObject row here is at sized) held = object_found source p size row held here is
  row_found source p size (ByEdge row here is at sized) held = edge_found source p size row held here is

  -- the entry at a place that serves a source
  record Names (i : ℕ) (source : Source) : Type 0 where
    entry : Entry
    there : slice_get h i ≡ Some entry
    names : carriers_of_what s entry.what ≡ carriers_of s source

  names_at : (i : ℕ) (source : Source) → i < s.len → carriers_of s (sources_in h i) ≡ carriers_of s source → Names i source
  names_at i source below same =
      let at = there_at h i (omega (arith, below, len_is rules h)) in
      record { entry = at.0; there = at.1; names = by_source s at.0.what ∙ (ap (carriers_of s) (sym (source_is h i at.0 at.1)) ∙ same) }

  names_row : (source : Source) (p size i : ℕ) → Holds s.graph source p size → last_carrier s p ≡ Journal i → Names i source
  names_row source p size i held carried = elim (held_or_not p s.items) [ inl none ↦ given none | inr last ↦ put_back last.0 last.1 ]
    where
      from : IsFrom (sources_in h) (sizes_in rules h) s.len source p size
      from = placed.rows source p size held

      given : Unheld p s.items → Names i source
      given none =
          let here : p ≡ i = journal_is (sym (carrier_unheld s p none) ∙ carried) in
          subst (λ (n : ℕ). Names n source) here (names_at p source from.below (ap (carriers_of s) from.source_is))

      put_back : (j : ℕ) → HeldLast p s.items j → Names i source
      put_back j last =
          let l = last.logged in
          let by = put_by l.handled (placed.rows_put source p size held j l last.there last.holds) in
          let put = placed.puts j l by.how last.there by.is by.back in
          let here : by.how.put ≡ i = journal_is (sym (carrier_held s p j last ∙ put_journal j l.handled by) ∙ carried) in
          let item : source_of_item l.item ≡ source = sym (placed.items j l last.there).source_is ∙ (ap (sources_in h) last.holds ∙ from.source_is) in
          subst (λ (n : ℕ). Names n source) here
          (names_at by.how.put source put.below
          (ap (carriers_of s) put.source_is ∙ (ap (λ (o : Option Logged). carriers_of_row s (option_map item_of_logged o)) last.there ∙ (by_item s l.item ∙ ap (carriers_of s) item))))

  -- a live journal record is that of an entry whose row it carries now
  record Serves (i : ℕ) : Type 0 where
    entry : Entry
    there : slice_get h i ≡ Some entry
    carries : carriers_of_what s entry.what ≡ Journal i ∷ []

  serves : (i : ℕ) → IsLive s (Journal i) → Serves i
  serves i live = by_need live.0 live.2 (needed_by s live.0 live.1)
    where
      by_need : (p : ℕ) → last_carrier s p ≡ Journal i → NeededBy s p → Serves i
      by_need p carried (ByRow source size held) =
          let named = names_row source p size i held carried in
          record { entry = named.entry; there = named.there; carries = named.names ∙ (row_found source p size held held ∙ ap (λ (c : Carrier). c ∷ []) carried) }
      by_need p carried (ByItem j l at holds unpurged waits) =
          vault_journal j i (sym ((payloads_held rules h legal).held.items j l at waits) ∙ (ap (last_carrier s) holds ∙ carried))

  pub tells_entry : (i : ℕ) (what : What) (found : Option ℕ) (told : Bool) → Some what ≡ option_map what_of (slice_get h i) → dead_carriers found ≡ carriers_of_what s what →
      ((told ≡ true) ↔ (found ≡ Some i)) → (told ≡ true) ↔ IsLive s (Journal i)
  tells_entry i what found told at carries is = (λ tells. live (is.0 tells), λ live. is.1 (found_is found (served live)))
    where
      live : found ≡ Some i → IsLive s (Journal i)
      live same = source_live s i (source_of what) (sym (by_source s what) ∙ (sym carries ∙ ap dead_carriers same))

      served : IsLive s (Journal i) → dead_carriers found ≡ Journal i ∷ []
      served live =
          let entry = serves i live in
          let same : what ≡ entry.entry.what = some_is (at ∙ ap (option_map what_of) entry.there) in
          carries ∙ (ap (carriers_of_what s) same ∙ entry.carries)

      found_is : (o : Option ℕ) → dead_carriers o ≡ Journal i ∷ [] → o ≡ Some i
      found_is None dead = absurd (cc dead)
      found_is (Some j) dead = cc dead

  pub tells_none : (i : ℕ) → None ≡ option_map what_of (slice_get h i) → (false ≡ true) ↔ IsLive s (Journal i)
  tells_none i at = (λ tells. absurd (false≢true tells), λ live. absurd (let entry = serves i live in let none : None ≡ Some entry.entry.what = at ∙ ap (option_map what_of) entry.there in cc none))

  -- a row is carried by a journal record
  row_journal : (source : Source) (p size : ℕ) → Holds s.graph source p size → (q : ℕ) × (last_carrier s p ≡ Journal q)
  row_journal source p size held = elim (held_or_not p s.items) [ inl none ↦ (p, carrier_unheld s p none) | inr last ↦ put_back last.0 last.1 ]
    where
      put_back : (j : ℕ) → HeldLast p s.items j → (q : ℕ) × (last_carrier s p ≡ Journal q)
      put_back j last =
          let by = put_by last.logged.handled (placed.rows_put source p size held j last.logged last.there last.holds) in
          (by.how.put, carrier_held s p j last ∙ put_journal j last.logged.handled by)

  pub tells_item : (i : ℕ) (told : Bool) → ((l : Logged) → slice_get s.items i ≡ Some l → told ≡ keeps_payload s.jobs l) → (slice_get s.items i ≡ None → told ≡ false) →
      (told ≡ true) ↔ IsLive s (Vault i)
  tells_item i told some none = (λ tells. live (slice_get s.items i) refl tells, λ live. kept live.0 live.2 (needed_by s live.0 live.1))
    where
      live : (o : Option Logged) → slice_get s.items i ≡ o → told ≡ true → IsLive s (Vault i)
      live None at tells = absurd (false≢true (sym (none at) ∙ tells))
      live (Some l) at tells =
          let keeps = sym (some l at) ∙ tells in
          let waits = not-true (was_put l.handled) (and_parts (not (is_purged s.jobs (job_of l.item))) (not (was_put l.handled)) keeps).1 in
          (position_of l.item, item_needed l at keeps, (payloads_held rules h legal).held.items i l at waits)
        where
          item_needed : (l : Logged) → slice_get s.items i ≡ Some l → keeps_payload s.jobs l ≡ true → is_needed s (position_of l.item) ≡ true
          item_needed l at keeps =
              let p = position_of l.item in
              or_right (list_any (object_needs p) s.graph.objects || list_any (edge_needs p) s.graph.edges) (list_any (item_needs s.jobs p) s.items)
              (at_any (item_needs s.jobs p) s.items i l at (and_from (keeps_payload s.jobs l) (eqb p p) keeps (eq-eqb p p refl)))

      kept : (p : ℕ) → last_carrier s p ≡ Vault i → NeededBy s p → told ≡ true
      kept p carried (ByRow source size held) = let by = row_journal source p size held in vault_journal i by.0 (sym carried ∙ by.1)
      kept p carried (ByItem j l at holds unpurged waits) =
          let place : j ≡ i = vault_is (sym ((payloads_held rules h legal).held.items j l at waits) ∙ (ap (last_carrier s) holds ∙ carried)) in
          some l (ap (slice_get s.items) (sym place) ∙ at) ∙
          and_from (not (is_purged s.jobs (job_of l.item))) (not (was_put l.handled)) (not_from_false (is_purged s.jobs (job_of l.item)) unpurged) (not_from_false (was_put l.handled) waits)
