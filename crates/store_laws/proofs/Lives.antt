-- The payloads that an entry adds are needed, or empty.
use Rattle.std.proofs.Common.{◌≡◌, ℕ, zero, ◌<◌, Bool, true, false, cond, not, ◌||◌, eqb, List, [], ◌∷◌, ◌++◌, length, Option, Some, None, refl, sym, ap, ◌∙◌, subst, arith, inl, inr, ◌⊎◌}
use Rattle.std.proofs.lemmas.Bool.{and_parts, and_from, or_cases, or_right, eq-eqb, false≢true, not_from_false}
use Rattle.std.specs.Prelude.{slice_get, is_some, is_none, map, Contains}
use Rattle.std.specs.List.{list_any}
use Rattle.delf_model.specs.declared.rows.ObjectRow.{ObjectRow}
use Rattle.delf_model.specs.declared.rows.EdgeRow.{EdgeRow}
use Rattle.delf_model.specs.declared.rows.Item.{Item}
use Rattle.delf_model.specs.declared.rows.Item.TheVariants as item
use Rattle.delf_model.specs.declared.call.Cause.{Cause}
use Rattle.delf_model.specs.declared.entry.Entry.{Entry}
use Rattle.delf_model.specs.declared.entry.What.{What}
use Rattle.delf_model.specs.declared.entry.What.TheVariants.{Create, Update, Link, Unlink, Delete, Restore, Expire, Cut, Erase, Put, Purge}
use Rattle.delf_model.specs.Graph.{Graph, has_id, changed, rewritten, object_at, edge_at, edge_stands, is_touched}
use Rattle.delf_model.specs.State.{State, Logged, position_of, size_of, job_of, is_owned_by}
use Rattle.delf_model.specs.Step.{step, graph_after, put_change, put_unless, put_of_item, new_object, new_edge, unhandled, edge_item, object_item, birth_of}
use Rattle.delf_model.specs.Owners.{key_of}
use Rattle.delf_model.specs.Puts.{judged}
use Rattle.delf_model.specs.Legal.{is_allowed}
use Rattle.delf_model.specs.Reply.{refusals}
use Rattle.delf_model.specs.Report.{was_put}
use Rattle.delf_model.specs.Payloads.{is_needed, is_purged, object_needs, edge_needs, item_needs, keeps_payload, Carrier, Journal, Vault, last_carrier}
use Rattle.delf_model.proofs.Lines.{none_of, there}
use Rattle.delf_model.proofs.Leaves.{owner_is}
use Rattle.delf_model.proofs.Owners.{OwnedStand, found_id}
use Rattle.delf_model.proofs.Places.{may_put_of}
use Rattle.payload_laws.specs.Holders.{IsLive, record_size, put_size, brings, position_taken, scrubbed_by, carrier_of_put, Carried, Stays, Brought, Taken, PutBack, PayloadsMove, PositionsHeld}
use Rattle.payload_laws.proofs.Members.{In, some_is, found_in, in_mapped, at_any, put_object_there, put_edge_there}
use Rattle.payload_laws.proofs.Rows.{none_handled}
use Rattle.payload_laws.proofs.Items.{purged_now}
use Rattle.payload_laws.proofs.Taken.{row_needed, edge_needed}
use Rattle.store_laws.proofs.Unpurged.{Unpurged, owner_unpurged}

-- what an entry brings is needed

rewritten_at : (id at size : ℕ) (row : ObjectRow) → row.id ≡ id → (rewritten id at size row).at ≡ at
rewritten_at id at size row same = ap (λ (b : Bool). (cond b (record row { at = at; size = size }) row).at) (eq-eqb row.id id same)

update_needed : (s : State) (moment : ℕ) (what : What) (id size : ℕ) (o : Option ObjectRow) → graph_after s moment what ≡ record { objects = map (rewritten id s.len size) s.graph.objects; edges = s.graph.edges } →
    object_at s.graph id ≡ o → is_some o ≡ true → is_needed (step s (record { moment = moment; what = what })) s.len ≡ true
update_needed s moment what id size None graph at some = absurd (false≢true some)
update_needed s moment what id size (Some row) graph at some =
    row_needed (step s (record { moment = moment; what = what })) s.len (rewritten id s.len size row)
    (subst (λ (g : Graph). In g.objects (rewritten id s.len size row)) (sym graph) (in_mapped (rewritten id s.len size) s.graph.objects row (found_in (has_id id) s.graph.objects row at)))
    (rewritten_at id s.len size row (found_id s.graph.objects id row at))

brought_needed : (s : State) (moment : ℕ) (w : What) → is_allowed s moment w ≡ true → brings w ≡ true → is_needed (step s (record { moment = moment; what = w })) s.len ≡ true
brought_needed s moment (Create tag kind id size) line own =
    row_needed (step s (record { moment = moment; what = Create tag kind id size })) s.len (new_object s moment kind id size) (put_object_there (new_object s moment kind id size) s.graph.objects) refl
brought_needed s moment (Update tag id size) line own =
    update_needed s moment (Update tag id size) id size (object_at s.graph id) refl refl (there s id (none_of (refusals s moment (Update tag id size)) line).1.0)
brought_needed s moment (Link tag edge from to size) line own =
    edge_needed (step s (record { moment = moment; what = Link tag edge from to size })) s.len (new_edge s edge from to size) (put_edge_there (new_edge s edge from to size) s.graph.edges) refl
brought_needed s moment w line own = absurd (false≢true own)

module _ (s : State) (e : Entry) (held : PositionsHeld s) (moves : PayloadsMove s e) (line : is_allowed s e.moment e.what ≡ true) where
  not_below : is_needed s s.len ≡ true → ⊥
  not_below was = let lt : s.len < s.len = held.below s.len was in omega (arith, lt)

  brought_live : brings e.what ≡ true → IsLive (step s e) (Journal s.len)
  brought_live own = (s.len, needed, by (moves.carried s.len needed))
    where
      needed : is_needed (step s e) s.len ≡ true
      needed = brought_needed s e.moment e.what line own

      by : Carried s e s.len → last_carrier (step s e) s.len ≡ Journal s.len
      by (Stays was same) = absurd (not_below was)
      by (Brought at brings same) = same
      by (Taken taken was same) = absurd (not_below was)
      by (PutBack job i logged puts there free at was carried same) = absurd (not_below was)

-- what an entry puts back is needed

put_needed_by : (s : State) (e : Entry) (it : Item) → graph_after s e.moment e.what ≡ changed s.graph (put_of_item it) → is_needed (step s e) (position_of it) ≡ true
put_needed_by s e (item.Object job row) graph =
    row_needed (step s e) row.at row (subst (λ (g : Graph). In g.objects row) (sym graph) (put_object_there row s.graph.objects)) refl
put_needed_by s e (item.Edge job row from_birth to_birth) graph =
    edge_needed (step s e) row.birth row (subst (λ (g : Graph). In g.edges row) (sym graph) (put_edge_there row s.graph.edges)) refl

module _ (s : State) (moment job i : ℕ) (logged : Logged) (held : PositionsHeld s) (moves : PayloadsMove s (record { moment = moment; what = Put job i }))
    (line : is_allowed s moment (Put job i) ≡ true) (there : slice_get s.items i ≡ Some logged) (free : judged s logged.item ≡ None) where
  abbrev putting : Entry
  putting = record { moment = moment; what = Put job i }

  put_graph : graph_after s moment (Put job i) ≡ changed s.graph (put_of_item logged.item)
  put_graph = ap (λ (o : Option Logged). changed s.graph (put_change s o)) there ∙ ap (λ (c : Option Cause). changed s.graph (put_unless c logged.item)) free

  put_waits : was_put logged.handled ≡ false
  put_waits =
      let may = may_put_of s job i (slice_get s.items i) refl line in
      let same : may.logged ≡ logged = some_is (sym may.at ∙ there) in
      subst (λ (l : Logged). was_put l.handled ≡ false) same (ap was_put (none_handled may.logged.handled may.waiting))

  put_scrubs : scrubbed_by s (Put job i) ≡ Vault i ∷ []
  put_scrubs =
      ap (carrier_of_put s i) there ∙
      ap (λ (c : Option Cause). cond (is_none c) (Vault i ∷ []) []) free

  pub put_live : IsLive (step s putting) (Journal s.len)
  put_live = (position_of logged.item, needed, by (moves.carried (position_of logged.item) needed))
    where
      needed : is_needed (step s putting) (position_of logged.item) ≡ true
      needed = put_needed_by s putting logged.item put_graph

      by : Carried s putting (position_of logged.item) → last_carrier (step s putting) (position_of logged.item) ≡ Journal s.len
      by (Stays was same) =
          absurd
          (moves.dead (Vault i) (subst (λ (l : List Carrier). Contains l (Vault i)) (sym put_scrubs) (zero, omega arith, refl))
          (position_of logged.item, needed, same ∙ held.items i logged there put_waits))
      by (Brought at brings same) = absurd (false≢true brings)
      by (Taken taken was same) = absurd (cc taken)
      by (PutBack other j it puts at judged_free position was carried same) = same

-- the journal record of an entry is live, or empty
put_or_empty : (s : State) (moment job i : ℕ) → PositionsHeld s → PayloadsMove s (record { moment = moment; what = Put job i }) → is_allowed s moment (Put job i) ≡ true →
    (o : Option Logged) → slice_get s.items i ≡ o → IsLive (step s (record { moment = moment; what = Put job i })) (Journal s.len) ⊎ (put_size s o ≡ 0)
put_or_empty s moment job i held moves line None there = inr refl
put_or_empty s moment job i held moves line (Some logged) there = by_judged (judged s logged.item) refl
  where
    by_judged : (c : Option Cause) → judged s logged.item ≡ c → IsLive (step s (record { moment = moment; what = Put job i })) (Journal s.len) ⊎ (put_size s (Some logged) ≡ 0)
    by_judged None free = inl (put_live s moment job i logged held moves line there free)
    by_judged (Some cause) listed = inr (ap (λ (c : Option Cause). cond (is_none c) (size_of logged.item) 0) listed)

entry_live_by : (s : State) (moment : ℕ) (w : What) → PositionsHeld s → PayloadsMove s (record { moment = moment; what = w }) → is_allowed s moment w ≡ true →
    IsLive (step s (record { moment = moment; what = w })) (Journal s.len) ⊎ (record_size s w ≡ 0)
entry_live_by s moment (Create tag kind id size) held moves line = inl (brought_live s (record { moment = moment; what = Create tag kind id size }) held moves line refl)
entry_live_by s moment (Update tag id size) held moves line = inl (brought_live s (record { moment = moment; what = Update tag id size }) held moves line refl)
entry_live_by s moment (Link tag edge from to size) held moves line = inl (brought_live s (record { moment = moment; what = Link tag edge from to size }) held moves line refl)
entry_live_by s moment (Put job i) held moves line = put_or_empty s moment job i held moves line (slice_get s.items i) refl
entry_live_by s moment (Unlink tag edge from to name) held moves line = inr refl
entry_live_by s moment (Delete tag id name) held moves line = inr refl
entry_live_by s moment (Restore tag job) held moves line = inr refl
entry_live_by s moment (Expire id) held moves line = inr refl
entry_live_by s moment (Cut job edge from to) held moves line = inr refl
entry_live_by s moment (Erase job id) held moves line = inr refl
entry_live_by s moment (Purge job) held moves line = inr refl

pub entry_live : (s : State) (e : Entry) → PositionsHeld s → PayloadsMove s e → is_allowed s e.moment e.what ≡ true → IsLive (step s e) (Journal s.len) ⊎ (record_size s e.what ≡ 0)
entry_live s e held moves line = entry_live_by s e.moment e.what held moves line

-- the vault record of the item that an entry logs is live

item_needed : (s : State) (i : ℕ) (l : Logged) → slice_get s.items i ≡ Some l → is_purged s.jobs (job_of l.item) ≡ false → was_put l.handled ≡ false → is_needed s (position_of l.item) ≡ true
item_needed s i l at unpurged waits =
    or_right (list_any (object_needs (position_of l.item)) s.graph.objects || list_any (edge_needs (position_of l.item)) s.graph.edges) (list_any (item_needs s.jobs (position_of l.item)) s.items)
    (at_any (item_needs s.jobs (position_of l.item)) s.items i l at
    (and_from (keeps_payload s.jobs l) (eqb (position_of l.item) (position_of l.item))
    (and_from (not (is_purged s.jobs (job_of l.item))) (not (was_put l.handled)) (not_from_false (is_purged s.jobs (job_of l.item)) unpurged) (not_from_false (was_put l.handled) waits))
    (eq-eqb (position_of l.item) (position_of l.item) refl)))

last_there : (xs : List Logged) (x : Logged) → slice_get (xs ++ x ∷ []) (length xs) ≡ Some x
last_there [] x = refl
last_there (y ∷ xs) x = last_there xs x

logged_live : (s : State) (e : Entry) (it : Item) → PositionsHeld (step s e) → (step s e).items ≡ s.items ++ unhandled it ∷ [] → is_purged (step s e).jobs (job_of it) ≡ false →
    IsLive (step s e) (Vault (length s.items))
logged_live s e it after_held items unpurged =
    (position_of it, item_needed (step s e) (length s.items) (unhandled it) at unpurged refl, after_held.items (length s.items) (unhandled it) at refl)
  where
    at : slice_get (step s e).items (length s.items) ≡ Some (unhandled it)
    at = ap (λ (l : List Logged). slice_get l (length s.items)) items ∙ last_there s.items (unhandled it)

purge_is_not : (s : State) (moment : ℕ) (w : What) (job : ℕ) → is_allowed s moment w ≡ true → (w ≡ Purge job → ⊥) → is_purged s.jobs job ≡ false →
    is_purged (step s (record { moment = moment; what = w })).jobs job ≡ false
purge_is_not s moment w job line other unpurged =
    elim (purged_now s moment w job line) [ inl same ↦ same ∙ unpurged | inr now ↦ absurd (other now.purges) ]

cut_live : (s : State) (moment job edge from to : ℕ) (o : Option EdgeRow) → PositionsHeld (step s (record { moment = moment; what = Cut job edge from to })) → Unpurged s →
    is_allowed s moment (Cut job edge from to) ≡ true → edge_at s.graph (key_of edge from to) ≡ o → is_some o ≡ true → IsLive (step s (record { moment = moment; what = Cut job edge from to })) (Vault (length s.items))
cut_live s moment job edge from to None after_held unpurged line at some = absurd (false≢true some)
cut_live s moment job edge from to (Some row) after_held unpurged line at some =
    logged_live s (record { moment = moment; what = Cut job edge from to }) (item.Edge job row (birth_of s.graph row.key.from) (birth_of s.graph row.key.to)) after_held
    (ap (λ (o : Option EdgeRow). s.items ++ edge_item s.graph job o) at)
    (purge_is_not s moment (Cut job edge from to) job line (λ is. cc is)
    (elim (or_cases (is_owned_by s job from) (is_owned_by s job to) (and_parts (edge_stands s.graph (key_of edge from to)) (is_owned_by s job from || is_owned_by s job to) line).1) [
      | inl own ↦ owner_unpurged s unpurged job from (owner_is s job from own)
      | inr own ↦ owner_unpurged s unpurged job to (owner_is s job to own)
    ]))

erase_live : (s : State) (moment job id : ℕ) (o : Option ObjectRow) → PositionsHeld (step s (record { moment = moment; what = Erase job id })) → Unpurged s →
    is_allowed s moment (Erase job id) ≡ true → object_at s.graph id ≡ o → is_some o ≡ true → IsLive (step s (record { moment = moment; what = Erase job id })) (Vault (length s.items))
erase_live s moment job id None after_held unpurged line at some = absurd (false≢true some)
erase_live s moment job id (Some row) after_held unpurged line at some =
    logged_live s (record { moment = moment; what = Erase job id }) (item.Object job row) after_held
    (ap (λ (o : Option ObjectRow). s.items ++ object_item job o) at)
    (purge_is_not s moment (Erase job id) job line (λ is. cc is)
    (owner_unpurged s unpurged job id (owner_is s job id (and_parts (is_owned_by s job id) (not (is_touched s.graph id)) line).0)))

taken_live_by : (s : State) (moment : ℕ) (w : What) → PositionsHeld (step s (record { moment = moment; what = w })) → OwnedStand s → Unpurged s → is_allowed s moment w ≡ true →
    (p : ℕ) → position_taken s w ≡ Some p → IsLive (step s (record { moment = moment; what = w })) (Vault (length s.items))
taken_live_by s moment (Cut job edge from to) after_held owned unpurged line p taken =
    cut_live s moment job edge from to (edge_at s.graph (key_of edge from to)) after_held unpurged line refl
    (and_parts (edge_stands s.graph (key_of edge from to)) (is_owned_by s job from || is_owned_by s job to) line).0
taken_live_by s moment (Erase job id) after_held owned unpurged line p taken =
    erase_live s moment job id (object_at s.graph id) after_held unpurged line refl
    (owned id job (owner_is s job id (and_parts (is_owned_by s job id) (not (is_touched s.graph id)) line).0))
taken_live_by s moment w after_held owned unpurged line p taken = absurd (cc taken)

pub taken_live : (s : State) (e : Entry) → PositionsHeld (step s e) → OwnedStand s → Unpurged s → is_allowed s e.moment e.what ≡ true →
    (p : ℕ) → position_taken s e.what ≡ Some p → IsLive (step s e) (Vault (length s.items))
taken_live s e after_held owned unpurged line p taken = taken_live_by s e.moment e.what after_held owned unpurged line p taken
