-- What a legal entry leaves of an owned object and of an edge with an owned end, and so of a held step.
use Rattle.std.proofs.Common.{◌≡◌, ℕ, zero, suc, ◌+◌, ◌<◌, ◌≤◌, Bool, true, false, cond, not, ◌&&◌, ◌||◌, eqb, leb, List, [], ◌∷◌, ◌++◌, Option, Some, None, refl, sym, ap, ◌∙◌, subst, arith, inl, inr, ◌⊎◌}
use Rattle.std.proofs.lemmas.Bool.{and_parts, and_from, eqb-true, eq-eqb, false≢true, or_left, or_right, leb-true, le-leb}
use Rattle.std.specs.Prelude.{find, filter, is_some, is_none, slice_get}
use Rattle.std.specs.List.{list_any, list_all}
use Rattle.std.specs.Option.{option_map}
use Rattle.delf_model.specs.declared.rows.ObjectRow.{ObjectRow}
use Rattle.delf_model.specs.declared.rows.EdgeKey.{EdgeKey}
use Rattle.delf_model.specs.declared.rows.EdgeRow.{EdgeRow}
use Rattle.delf_model.specs.declared.rows.Item.{Item}
use Rattle.delf_model.specs.declared.rows.Item.TheVariants as item
use Rattle.delf_model.specs.declared.call.Cause.{Cause}
use Rattle.delf_model.specs.declared.entry.Entry.{Entry}
use Rattle.delf_model.specs.declared.entry.What.{What}
use Rattle.delf_model.specs.declared.entry.What.TheVariants.{Create, Update, Link, Unlink, Delete, Restore, Expire, Cut, Erase, Put, Purge}
use Rattle.delf_model.specs.RuleSet.{RuleSet}
use Rattle.delf_model.specs.Graph.{Graph, PutsObject, TakesObject, RewritesObject, PutsEdge, TakesEdge, changed, has_id, has_key, same_key, object_at, edge_at, edge_stands, stands, is_born_at, touches, touches_row, is_touched, rewritten, put_edge, is_other_edge}
use Rattle.delf_model.specs.State.{State, Logged, owner, is_owned_by, is_job, position_of}
use Rattle.delf_model.specs.Step.{step, run, after, graph_after, new_object, new_edge, put_change, put_unless, birth_of, birth_of_row}
use Rattle.delf_model.specs.Owners.{key_of}
use Rattle.delf_model.specs.Puts.{judged, taken}
use Rattle.delf_model.specs.Legal.{is_legal, is_legal_from, is_allowed, Legal}
use Rattle.delf_model.specs.Reply.{refusals}
use Rattle.delf_model.specs.Room.{greatest_moment}
use Rattle.delf_model.specs.Order.{is_legal_step, erases_same}
use Rattle.delf_model.specs.Payloads.{is_needed, last_carrier, Journal, Vault, object_needs, edge_needs, item_needs, position_of_object, position_of_edge}
use Rattle.delf_model.proofs.Graphs.{same_key_is, same_key_refl, find-put_object, find-filter_object, find-rewritten, find-put_edge, find-filter_edge}
use Rattle.delf_model.proofs.Lines.{none_of, allowed_of, name_free, key_free, free, moment_within}
use Rattle.delf_model.proofs.Leaves.{owner_is, objects_leave}
use Rattle.delf_model.proofs.Owners.{OwnedStand, owner_stays, stands_of, found_id, found_key}
use Rattle.delf_model.proofs.Ends.{fits_of, untouched}
use Rattle.delf_model.proofs.Good.{Good, good_after}
use Rattle.delf_model.proofs.Runs.{after_push, Legal_push}
use Rattle.payload_laws.specs.Holders.{PositionsHeld, PayloadsMove, Carried, Stays, Brought, Taken, PutBack, position_taken}
use Rattle.payload_laws.proofs.Members.{In, any_in, in_any, found_in, in_filter, in_put_edge}
use Rattle.payload_laws.proofs.Carriers.{vault_journal}
use Rattle.payload_laws.proofs.Moves.{payloads_held}
use Rattle.held_laws.specs.Held.{takes_row, would_log, edge_logged, object_logged, leaves_row, none_erases, StaysHeld, HeldStepsStay}

-- the entry does not erase this object
abbrev pub Spares : What → ℕ → Type 0
Spares what id = (job : ℕ) → what ≡ Erase job id → ⊥

-- the entry does not cut this edge
abbrev pub SparesEdge : What → EdgeKey → Type 0
SparesEdge what key = (job : ℕ) → what ≡ Cut job key.edge key.from key.to → ⊥

stood : (o : Option ObjectRow) → is_some o ≡ true → (row : ObjectRow) × (o ≡ Some row)
stood None some = absurd (false≢true some)
stood (Some row) some = (row, refl)

not_both : {A : Type 0} {x : A} (o : Option A) → o ≡ None → o ≡ Some x → ⊥
not_both None one two = cc two
not_both (Some y) one two = cc one

-- an object that is not erased stays with its birth
stands_on : (s : State) (e : Entry) (id birth : ℕ) → is_legal s e ≡ true → Spares e.what id → stands s.graph id birth ≡ true → stands (step s e).graph id birth ≡ true
stands_on s e id birth legal spares here = by_stood (stands (step s e).graph id birth) refl
  where
    by_stood : (b : Bool) → stands (step s e).graph id birth ≡ b → b ≡ true
    by_stood true now = refl
    by_stood false now = absurd (let left = objects_leave s e legal id birth here now in spares left.0 left.2)

born_row : (birth : ℕ) (o : Option ObjectRow) → is_born_at birth o ≡ true → (row : ObjectRow) × (o ≡ Some row) × (row.birth ≡ birth)
born_row birth None born = absurd (false≢true born)
born_row birth (Some row) born = (row, refl, eqb-true row.birth birth born)

owner_on : (s : State) (e : Entry) (id job : ℕ) → is_legal s e ≡ true → OwnedStand s → Spares e.what id → owner s id ≡ Some job → owner (step s e) id ≡ Some job
owner_on s e id job legal stand spares own =
    let was = stood (object_at s.graph id) (stand id job own) in
    let here = stands_of s.graph id was.0 was.1 in
    let now = born_row was.0.birth (object_at (step s e).graph id) (stands_on s e id was.0.birth legal spares here) in
    owner_stays s e id job now.0 now.1 (subst (λ (n : ℕ). stands s.graph id n ≡ true) (sym now.2) here) own

birth_on : (s : State) (e : Entry) (id : ℕ) → is_legal s e ≡ true → Spares e.what id → is_some (object_at s.graph id) ≡ true → birth_of (step s e).graph id ≡ birth_of s.graph id
birth_on s e id legal spares there =
    let was = stood (object_at s.graph id) there in
    let now = born_row was.0.birth (object_at (step s e).graph id) (stands_on s e id was.0.birth legal spares (stands_of s.graph id was.0 was.1)) in
    ap birth_of_row now.1 ∙ (now.2 ∙ sym (ap birth_of_row was.1))

-- the row of an owned object that is not erased stays

free_of : (o : Option ObjectRow) → taken o ≡ None → o ≡ None
free_of None none = refl
free_of (Some row) none = absurd (cc none)

row_put : (g : Graph) (new : ObjectRow) (id : ℕ) (row : ObjectRow) → object_at g new.id ≡ None → object_at g id ≡ Some row → object_at (changed g (PutsObject new)) id ≡ object_at g id
row_put g new id row none was = find-put_object new g.objects id ∙ by_hit (eqb new.id id) refl
  where
    by_hit : (hit : Bool) → eqb new.id id ≡ hit → cond hit (Some new) (object_at g id) ≡ object_at g id
    by_hit true is = absurd (not_both (object_at g id) (sym (ap (λ (n : ℕ). object_at g n) (eqb-true new.id id is)) ∙ none) was)
    by_hit false is = refl

row_put_item : (s : State) (it : Item) (o : Option Cause) (id : ℕ) (row : ObjectRow) → judged s it ≡ o → object_at s.graph id ≡ Some row →
    object_at (changed s.graph (put_unless o it)) id ≡ object_at s.graph id
row_put_item s it (Some c) id row is was = refl
row_put_item s (item.Object job new) None id row is was = row_put s.graph new id row (free_of (object_at s.graph new.id) is) was
row_put_item s (item.Edge job new from_birth to_birth) None id row is was = refl

row_put_change : (s : State) (o : Option Logged) (id : ℕ) (row : ObjectRow) → object_at s.graph id ≡ Some row → object_at (changed s.graph (put_change s o)) id ≡ object_at s.graph id
row_put_change s None id row was = refl
row_put_change s (Some logged) id row was = row_put_item s logged.item (judged s logged.item) id row refl was

row_rewritten : (s : State) (target at size id job : ℕ) (row : ObjectRow) → owner s target ≡ None → owner s id ≡ Some job → object_at s.graph id ≡ Some row →
    object_at (changed s.graph (RewritesObject target at size)) id ≡ object_at s.graph id
row_rewritten s target at size id job row none own was =
    find-rewritten target at size s.graph.objects id ∙ (ap (option_map (rewritten target at size)) was ∙ (by_hit (eqb row.id target) refl ∙ sym was))
  where
    by_hit : (hit : Bool) → eqb row.id target ≡ hit → Some (cond hit (record row { at = at; size = size }) row) ≡ Some row
    by_hit true is =
        absurd (not_both (owner s id) (ap (λ (n : ℕ). owner s n) (sym (found_id s.graph.objects id row was) ∙ eqb-true row.id target is) ∙ none) own)
    by_hit false is = refl

row_on : (s : State) (moment : ℕ) (what : What) (id job : ℕ) (row : ObjectRow) → is_allowed s moment what ≡ true → Spares what id → owner s id ≡ Some job →
    object_at s.graph id ≡ Some row → object_at (graph_after s moment what) id ≡ object_at s.graph id
row_on s moment (Create tag kind new size) id job row line spares own was =
    row_put s.graph (new_object s moment kind new size) id row (name_free s new (none_of (refusals s moment (Create tag kind new size)) line).1.0) was
row_on s moment (Update tag target size) id job row line spares own was =
    row_rewritten s target s.len size id job row (free s target (none_of (refusals s moment (Update tag target size)) line).1.1.0) own was
row_on s moment (Link tag edge from to size) id job row line spares own was = refl
row_on s moment (Unlink tag edge from to name) id job row line spares own was = refl
row_on s moment (Delete tag root name) id job row line spares own was = refl
row_on s moment (Restore tag which) id job row line spares own was = refl
row_on s moment (Expire root) id job row line spares own was = refl
row_on s moment (Cut which edge from to) id job row line spares own was = refl
row_on s moment (Erase which gone) id job row line spares own was = find-filter_object gone s.graph.objects id ∙ by_hit (eqb gone id) refl
  where
    by_hit : (hit : Bool) → eqb gone id ≡ hit → cond hit None (object_at s.graph id) ≡ object_at s.graph id
    by_hit true is = absurd (spares which (ap (λ (n : ℕ). Erase which n) (eqb-true gone id is)))
    by_hit false is = refl
row_on s moment (Put which i) id job row line spares own was = row_put_change s (slice_get s.items i) id row was
row_on s moment (Purge which) id job row line spares own was = refl

-- the row of an edge with an owned end that is not cut stays

abbrev pub HasOwnedEnd : State → EdgeKey → Type 0
HasOwnedEnd s key = ((job : ℕ) × (owner s key.from ≡ Some job)) ⊎ ((job : ℕ) × (owner s key.to ≡ Some job))

edge_put : (g : Graph) (new : EdgeRow) (key : EdgeKey) (row : EdgeRow) → edge_at g new.key ≡ None → edge_at g key ≡ Some row → edge_at (changed g (PutsEdge new)) key ≡ edge_at g key
edge_put g new key row none was = find-put_edge new g.edges key ∙ by_hit (same_key new.key key) refl
  where
    by_hit : (hit : Bool) → same_key new.key key ≡ hit → cond hit (Some new) (edge_at g key) ≡ edge_at g key
    by_hit true is = absurd (not_both (edge_at g key) (sym (ap (λ (k : EdgeKey). edge_at g k) (same_key_is new.key key is)) ∙ none) was)
    by_hit false is = refl

edge_put_item : (s : State) (it : Item) (o : Option Cause) (key : EdgeKey) (row : EdgeRow) → judged s it ≡ o → edge_at s.graph key ≡ Some row →
    edge_at (changed s.graph (put_unless o it)) key ≡ edge_at s.graph key
edge_put_item s it (Some c) key row is was = refl
edge_put_item s (item.Object job new) None key row is was = refl
edge_put_item s (item.Edge job new from_birth to_birth) None key row is was = edge_put s.graph new key row (fits_of s job new from_birth to_birth is).key_is_free was

edge_put_change : (s : State) (o : Option Logged) (key : EdgeKey) (row : EdgeRow) → edge_at s.graph key ≡ Some row → edge_at (changed s.graph (put_change s o)) key ≡ edge_at s.graph key
edge_put_change s None key row was = refl
edge_put_change s (Some logged) key row was = edge_put_item s logged.item (judged s logged.item) key row refl was

edge_taken_other : (g : Graph) (gone key : EdgeKey) → (gone ≡ key → ⊥) → edge_at (changed g (TakesEdge gone)) key ≡ edge_at g key
edge_taken_other g gone key apart = find-filter_edge gone g.edges key ∙ by_hit (same_key gone key) refl
  where
    by_hit : (hit : Bool) → same_key gone key ≡ hit → cond hit None (edge_at g key) ≡ edge_at g key
    by_hit true is = absurd (apart (same_key_is gone key is))
    by_hit false is = refl

not_owned : (s : State) (gone key : EdgeKey) → owner s gone.from ≡ None → owner s gone.to ≡ None → HasOwnedEnd s key → gone ≡ key → ⊥
not_owned s gone key one two own is =
    elim own [
      | inl source ↦ not_both (owner s key.from) (sym (ap (λ (k : EdgeKey). owner s k.from) is) ∙ one) source.1
      | inr target ↦ not_both (owner s key.to) (sym (ap (λ (k : EdgeKey). owner s k.to) is) ∙ two) target.1
    ]

edge_on : (s : State) (moment : ℕ) (what : What) (key : EdgeKey) (row : EdgeRow) → is_allowed s moment what ≡ true → SparesEdge what key → HasOwnedEnd s key →
    edge_at s.graph key ≡ Some row → edge_at (graph_after s moment what) key ≡ edge_at s.graph key
edge_on s moment (Create tag kind new size) key row line spares own was = refl
edge_on s moment (Update tag target size) key row line spares own was = refl
edge_on s moment (Link tag edge from to size) key row line spares own was =
    edge_put s.graph (new_edge s edge from to size) key row (key_free s (key_of edge from to) (none_of (refusals s moment (Link tag edge from to size)) line).1.1.1.1.1.1.1.0) was
edge_on s moment (Unlink tag edge from to name) key row line spares own was =
    let refused = none_of (refusals s moment (Unlink tag edge from to name)) line in
    edge_taken_other s.graph (key_of edge from to) key (not_owned s (key_of edge from to) key (free s from refused.1.1.0) (free s to refused.1.1.1.0) own)
edge_on s moment (Delete tag root name) key row line spares own was = refl
edge_on s moment (Restore tag which) key row line spares own was = refl
edge_on s moment (Expire root) key row line spares own was = refl
edge_on s moment (Cut which edge from to) key row line spares own was =
    edge_taken_other s.graph (key_of edge from to) key (λ is. spares which (ap (λ (k : EdgeKey). Cut which k.edge k.from k.to) is))
edge_on s moment (Erase which gone) key row line spares own was = refl
edge_on s moment (Put which i) key row line spares own was = edge_put_change s (slice_get s.items i) key row was
edge_on s moment (Purge which) key row line spares own was = refl

-- no edge comes to an owned object

none_any : (q : EdgeRow → Bool) (xs ys : List EdgeRow) → list_any q xs ≡ false → ((x : EdgeRow) → In ys x → q x ≡ true → In xs x) → list_any q ys ≡ false
none_any q xs ys none old = by_any (list_any q ys) refl
  where
    by_any : (b : Bool) → list_any q ys ≡ b → b ≡ false
    by_any true is = absurd (let some = any_in q ys is in false≢true (sym none ∙ in_any q xs some.0 (old some.0 some.1 some.2) some.2))
    by_any false is = refl

untouched_put : (g : Graph) (new : EdgeRow) (id : ℕ) → is_touched g id ≡ false → touches id new.key ≡ false → is_touched (changed g (PutsEdge new)) id ≡ false
untouched_put g new id none apart =
    none_any (touches_row id) g.edges (put_edge new g.edges) none
    (λ x here passes. elim (in_put_edge new g.edges x here) [
      | inl is ↦ absurd (false≢true (sym apart ∙ (ap (touches_row id) is ∙ passes)))
      | inr was ↦ was
    ])

untouched_taken : (g : Graph) (gone : EdgeKey) (id : ℕ) → is_touched g id ≡ false → is_touched (changed g (TakesEdge gone)) id ≡ false
untouched_taken g gone id none =
    none_any (touches_row id) g.edges (filter (is_other_edge gone) g.edges) none (λ x here passes. (in_filter (is_other_edge gone) g.edges x here).0)

other_id : (s : State) (a id job : ℕ) → owner s a ≡ None → owner s id ≡ Some job → eqb a id ≡ false
other_id s a id job none own = by_hit (eqb a id) refl
  where
    by_hit : (hit : Bool) → eqb a id ≡ hit → hit ≡ false
    by_hit true is = absurd (not_both (owner s id) (sym (ap (λ (n : ℕ). owner s n) (eqb-true a id is)) ∙ none) own)
    by_hit false is = refl

or_none : (a b : Bool) → a ≡ false → b ≡ false → (a || b) ≡ false
or_none true b one two = one
or_none false b one two = two

untouched_put_item : (s : State) (it : Item) (o : Option Cause) (id job : ℕ) → judged s it ≡ o → owner s id ≡ Some job → is_touched s.graph id ≡ false →
    is_touched (changed s.graph (put_unless o it)) id ≡ false
untouched_put_item s it (Some c) id job is own none = none
untouched_put_item s (item.Object which new) None id job is own none = none
untouched_put_item s (item.Edge which new from_birth to_birth) None id job is own none =
    let fits = fits_of s which new from_birth to_birth is in
    untouched_put s.graph new id none
    (or_none (eqb new.key.from id) (eqb new.key.to id) (other_id s new.key.from id job fits.source_free own) (other_id s new.key.to id job fits.target_free own))

untouched_put_change : (s : State) (o : Option Logged) (id job : ℕ) → owner s id ≡ Some job → is_touched s.graph id ≡ false → is_touched (changed s.graph (put_change s o)) id ≡ false
untouched_put_change s None id job own none = none
untouched_put_change s (Some logged) id job own none = untouched_put_item s logged.item (judged s logged.item) id job refl own none

untouched_on : (s : State) (moment : ℕ) (what : What) (id job : ℕ) → is_allowed s moment what ≡ true → owner s id ≡ Some job → is_touched s.graph id ≡ false →
    is_touched (graph_after s moment what) id ≡ false
untouched_on s moment (Create tag kind new size) id job line own none = none
untouched_on s moment (Update tag target size) id job line own none = none
untouched_on s moment (Link tag edge from to size) id job line own none =
    let refused = none_of (refusals s moment (Link tag edge from to size)) line in
    untouched_put s.graph (new_edge s edge from to size) id none
    (or_none (eqb from id) (eqb to id) (other_id s from id job (free s from refused.1.1.1.0) own) (other_id s to id job (free s to refused.1.1.1.1.0) own))
untouched_on s moment (Unlink tag edge from to name) id job line own none = untouched_taken s.graph (key_of edge from to) id none
untouched_on s moment (Delete tag root name) id job line own none = none
untouched_on s moment (Restore tag which) id job line own none = none
untouched_on s moment (Expire root) id job line own none = none
untouched_on s moment (Cut which edge from to) id job line own none = untouched_taken s.graph (key_of edge from to) id none
untouched_on s moment (Erase which gone) id job line own none = none
untouched_on s moment (Put which i) id job line own none = untouched_put_change s (slice_get s.items i) id job own none
untouched_on s moment (Purge which) id job line own none = none

-- a needed position that the entry does not take is carried as before

carried_on : (s : State) (e : Entry) (p q : ℕ) → PayloadsMove s e → p < s.len → last_carrier s p ≡ Journal q → is_needed (step s e) p ≡ true →
    (position_taken s e.what ≡ Some p → ⊥) → last_carrier (step s e) p ≡ last_carrier s p
carried_on s e p q moves below journal needed spared = by_case (moves.carried p needed)
  where
    by_case : Carried s e p → last_carrier (step s e) p ≡ last_carrier s p
    by_case (Stays was same) = same
    by_case (Brought at brings now) = absurd (omega arith)
    by_case (Taken takes was now) = absurd (spared takes)
    by_case (PutBack job i logged puts at none is was vault now) = vault_journal i q (sym vault ∙ journal)

object_needed : (s : State) (id : ℕ) (row : ObjectRow) → object_at s.graph id ≡ Some row → is_needed s row.at ≡ true
object_needed s id row at =
    or_left (list_any (object_needs row.at) s.graph.objects || list_any (edge_needs row.at) s.graph.edges) (list_any (item_needs s.jobs row.at) s.items)
    (or_left (list_any (object_needs row.at) s.graph.objects) (list_any (edge_needs row.at) s.graph.edges)
    (in_any (object_needs row.at) s.graph.objects row (found_in (has_id id) s.graph.objects row at) (eq-eqb row.at row.at refl)))

edge_needed : (s : State) (key : EdgeKey) (row : EdgeRow) → edge_at s.graph key ≡ Some row → is_needed s row.birth ≡ true
edge_needed s key row at =
    or_left (list_any (object_needs row.birth) s.graph.objects || list_any (edge_needs row.birth) s.graph.edges) (list_any (item_needs s.jobs row.birth) s.items)
    (or_right (list_any (object_needs row.birth) s.graph.objects) (list_any (edge_needs row.birth) s.graph.edges)
    (in_any (edge_needs row.birth) s.graph.edges row (found_in (has_key key) s.graph.edges row at) (eq-eqb row.birth row.birth refl)))

stood_edge : (o : Option EdgeRow) → is_some o ≡ true → (row : EdgeRow) × (o ≡ Some row)
stood_edge None some = absurd (false≢true some)
stood_edge (Some row) some = (row, refl)

number_is : {a b : ℕ} → Some a ≡ Some b → a ≡ b
number_is is = cc

-- no entry takes the position of a row that it spares

object_spared : (s : State) (moment : ℕ) (what : What) (id : ℕ) (row : ObjectRow) → is_allowed s moment what ≡ true → OwnedStand s → PositionsHeld s → Spares what id →
    object_at s.graph id ≡ Some row → position_taken s what ≡ Some row.at → ⊥
object_spared s moment (Create tag kind new size) id row line stand held spares at is = cc is
object_spared s moment (Update tag target size) id row line stand held spares at is = cc is
object_spared s moment (Link tag edge from to size) id row line stand held spares at is = cc is
object_spared s moment (Unlink tag edge from to name) id row line stand held spares at is = cc is
object_spared s moment (Delete tag root name) id row line stand held spares at is = cc is
object_spared s moment (Restore tag which) id row line stand held spares at is = cc is
object_spared s moment (Expire root) id row line stand held spares at is = cc is
object_spared s moment (Cut which edge from to) id row line stand held spares at is =
    let other = stood_edge (edge_at s.graph (key_of edge from to)) (and_parts (edge_stands s.graph (key_of edge from to)) (is_owned_by s which from || is_owned_by s which to) line).0 in
    held.kinds_apart id (key_of edge from to) row other.0 at other.1 (sym (sym (ap position_of_edge other.1) ∙ number_is is))
object_spared s moment (Erase which gone) id row line stand held spares at is =
    let other = stood (object_at s.graph gone) (stand gone which (owner_is s which gone (and_parts (is_owned_by s which gone) (not (is_touched s.graph gone)) line).0)) in
    let same : gone ≡ id = held.apart gone id other.0 row other.1 at (sym (ap position_of_object other.1) ∙ number_is is) in
    spares which (ap (λ (n : ℕ). Erase which n) same)
object_spared s moment (Put which i) id row line stand held spares at is = cc is
object_spared s moment (Purge which) id row line stand held spares at is = cc is

edge_spared : (s : State) (moment : ℕ) (what : What) (key : EdgeKey) (row : EdgeRow) → is_allowed s moment what ≡ true → OwnedStand s → PositionsHeld s → SparesEdge what key →
    edge_at s.graph key ≡ Some row → position_taken s what ≡ Some row.birth → ⊥
edge_spared s moment (Create tag kind new size) key row line stand held spares at is = cc is
edge_spared s moment (Update tag target size) key row line stand held spares at is = cc is
edge_spared s moment (Link tag edge from to size) key row line stand held spares at is = cc is
edge_spared s moment (Unlink tag edge from to name) key row line stand held spares at is = cc is
edge_spared s moment (Delete tag root name) key row line stand held spares at is = cc is
edge_spared s moment (Restore tag which) key row line stand held spares at is = cc is
edge_spared s moment (Expire root) key row line stand held spares at is = cc is
edge_spared s moment (Cut which edge from to) key row line stand held spares at is =
    let other = stood_edge (edge_at s.graph (key_of edge from to)) (and_parts (edge_stands s.graph (key_of edge from to)) (is_owned_by s which from || is_owned_by s which to) line).0 in
    let same : key_of edge from to ≡ key = held.edges_apart (key_of edge from to) key other.0 row other.1 at (sym (ap position_of_edge other.1) ∙ number_is is) in
    spares which (ap (λ (k : EdgeKey). Cut which k.edge k.from k.to) same)
edge_spared s moment (Erase which gone) key row line stand held spares at is =
    let other = stood (object_at s.graph gone) (stand gone which (owner_is s which gone (and_parts (is_owned_by s which gone) (not (is_touched s.graph gone)) line).0)) in
    held.kinds_apart gone key other.0 row other.1 at (sym (ap position_of_object other.1) ∙ number_is is)
edge_spared s moment (Put which i) key row line stand held spares at is = cc is
edge_spared s moment (Purge which) key row line stand held spares at is = cc is

-- a held erasure

not_true : (b : Bool) → not b ≡ true → b ≡ false
not_true true is = absurd (false≢true is)
not_true false is = refl

step_legal : (s : State) (moment : ℕ) (what : What) → takes_row what ≡ true → s.moment ≤ moment → moment ≤ greatest_moment → is_allowed s moment what ≡ true → is_legal_step s moment what ≡ true
step_legal s moment what takes low high line = by_what what takes line
  where
    times : (leb s.moment moment && leb moment greatest_moment) ≡ true
    times = and_from (leb s.moment moment) (leb moment greatest_moment) (le-leb s.moment moment low) (le-leb moment greatest_moment high)

    by_what : (w : What) → takes_row w ≡ true → is_allowed s moment w ≡ true → is_legal_step s moment w ≡ true
    by_what (Create tag kind new size) is allowed = absurd (false≢true is)
    by_what (Update tag target size) is allowed = absurd (false≢true is)
    by_what (Link tag edge from to size) is allowed = absurd (false≢true is)
    by_what (Unlink tag edge from to name) is allowed = absurd (false≢true is)
    by_what (Delete tag root name) is allowed = absurd (false≢true is)
    by_what (Restore tag which) is allowed = absurd (false≢true is)
    by_what (Expire root) is allowed = absurd (false≢true is)
    by_what (Cut which edge from to) is allowed =
        and_from (leb s.moment moment && leb moment greatest_moment && true && true) (is_allowed s moment (Cut which edge from to)) (and_from _ true (and_from _ true times refl) refl) allowed
    by_what (Erase which gone) is allowed =
        and_from (leb s.moment moment && leb moment greatest_moment && true && true) (is_allowed s moment (Erase which gone)) (and_from _ true (and_from _ true times refl) refl) allowed
    by_what (Put which i) is allowed = absurd (false≢true is)
    by_what (Purge which) is allowed = absurd (false≢true is)

mine : (job : ℕ) (o : Option ℕ) → o ≡ Some job → is_job job o ≡ true
mine job o is = ap (is_job job) is ∙ eq-eqb job job refl

item_is : {a b : Item} → Some a ≡ Some b → a ≡ b
item_is is = cc

erase_on : (s : State) (e : Entry) (job id : ℕ) → is_legal s e ≡ true → Good s → PositionsHeld s → PayloadsMove s e →
    is_allowed s e.moment (Erase job id) ≡ true → Spares e.what id → StaysHeld s (step s e) (Erase job id)
erase_on s e job id legal good held moves line spares = record {
  legal = λ moment low high. step_legal (step s e) moment (Erase job id) refl low high
      (and_from (is_owned_by (step s e) job id) (not (is_touched (step s e).graph id)) (mine job (owner (step s e) id) (owner_on s e id job legal good.owned_stand spares own))
      (ap (λ (b : Bool). not b) (untouched_on s e.moment e.what id job allowed own (not_true (is_touched s.graph id) parts.1))));
  logs = ap (object_logged job) same;
  needed = λ it is. subst (λ (x : Item). is_needed (step s e) (position_of x) ≡ true) (it_is it is) needed_now;
  carried = λ it is. subst (λ (x : Item). last_carrier (step s e) (position_of x) ≡ last_carrier s (position_of x)) (it_is it is)
      (carried_on s e was.0.at journal.0 moves (held.below was.0.at (object_needed s id was.0 was.1)) journal.2 needed_now
      (object_spared s e.moment e.what id was.0 allowed good.owned_stand held spares was.1));
}
  where
    allowed : is_allowed s e.moment e.what ≡ true
    allowed = allowed_of s e legal

    parts : (is_owned_by s job id ≡ true) × (not (is_touched s.graph id) ≡ true)
    parts = and_parts (is_owned_by s job id) (not (is_touched s.graph id)) line

    own : owner s id ≡ Some job
    own = owner_is s job id parts.0

    was : (row : ObjectRow) × (object_at s.graph id ≡ Some row)
    was = stood (object_at s.graph id) (good.owned_stand id job own)

    same : object_at (step s e).graph id ≡ object_at s.graph id
    same = row_on s e.moment e.what id job was.0 allowed spares own was.1

    it_is : (it : Item) → would_log s (Erase job id) ≡ Some it → item.Object job was.0 ≡ it
    it_is it is = item_is (sym (ap (object_logged job) was.1) ∙ is)

    needed_now : is_needed (step s e) was.0.at ≡ true
    needed_now = object_needed (step s e) id was.0 (same ∙ was.1)

    journal : (q : ℕ) × (q < s.len) × (last_carrier s was.0.at ≡ Journal q)
    journal = held.objects id was.0 was.1

-- a held cut

owned_end : (s : State) (job from to : ℕ) (a : Bool) → is_owned_by s job from ≡ a → (a || is_owned_by s job to) ≡ true → ((owner s from ≡ Some job) ⊎ (owner s to ≡ Some job))
owned_end s job from to true is line = inl (owner_is s job from is)
owned_end s job from to false is line = inr (owner_is s job to line)

cut_on : (s : State) (e : Entry) (job edge from to : ℕ) → is_legal s e ≡ true → Good s → PositionsHeld s → PayloadsMove s e →
    is_allowed s e.moment (Cut job edge from to) ≡ true → SparesEdge e.what (key_of edge from to) → StaysHeld s (step s e) (Cut job edge from to)
cut_on s e job edge from to legal good held moves line spares = record {
  legal = λ moment low high. step_legal (step s e) moment (Cut job edge from to) refl low high
      (and_from (edge_stands (step s e).graph key) (is_owned_by (step s e) job from || is_owned_by (step s e) job to)
      (ap (λ (o : Option EdgeRow). is_some o) same ∙ parts.0) owned_now);
  logs = ap (edge_logged (step s e).graph job) (same ∙ was.1) ∙
      (ap (λ (n : ℕ). Some (item.Edge job was.0 n (birth_of (step s e).graph was.0.key.to))) (birth_on s e was.0.key.from legal (source_spared was.0.key.from source_is) source_there) ∙
      (ap (λ (n : ℕ). Some (item.Edge job was.0 (birth_of s.graph was.0.key.from) n)) (birth_on s e was.0.key.to legal (source_spared was.0.key.to target_is) target_there) ∙
      sym (ap (edge_logged s.graph job) was.1)));
  needed = λ it is. subst (λ (x : Item). is_needed (step s e) (position_of x) ≡ true) (it_is it is) needed_now;
  carried = λ it is. subst (λ (x : Item). last_carrier (step s e) (position_of x) ≡ last_carrier s (position_of x)) (it_is it is)
      (carried_on s e was.0.birth journal.0 moves (held.below was.0.birth (edge_needed s key was.0 was.1)) journal.2 needed_now
      (edge_spared s e.moment e.what key was.0 allowed good.owned_stand held spares was.1));
}
  where
    key : EdgeKey
    key = key_of edge from to

    allowed : is_allowed s e.moment e.what ≡ true
    allowed = allowed_of s e legal

    parts : (edge_stands s.graph key ≡ true) × ((is_owned_by s job from || is_owned_by s job to) ≡ true)
    parts = and_parts (edge_stands s.graph key) (is_owned_by s job from || is_owned_by s job to) line

    was : (row : EdgeRow) × (edge_at s.graph key ≡ Some row)
    was = stood_edge (edge_at s.graph key) parts.0

    key_is : was.0.key ≡ key
    key_is = found_key s.graph.edges key was.0 was.1

    ends : (owner s from ≡ Some job) ⊎ (owner s to ≡ Some job)
    ends = owned_end s job from to (is_owned_by s job from) refl parts.1

    own : HasOwnedEnd s key
    own = elim ends [ inl source ↦ inl (job, source) | inr target ↦ inr (job, target) ]

    -- an end of the edge is not erased, since the edge touches it
    source_spared : (id : ℕ) → touches id key ≡ true → Spares e.what id
    source_spared id here which is =
        false≢true (sym (untouched s.graph id key
        (not_true (is_touched s.graph id) (and_parts (is_owned_by s which id) (not (is_touched s.graph id)) (subst (λ (w : What). is_allowed s e.moment w ≡ true) is allowed)).1)
        parts.0) ∙ here)

    from_touches : touches from key ≡ true
    from_touches = or_left (eqb from from) (eqb to from) (eq-eqb from from refl)

    to_touches : touches to key ≡ true
    to_touches = or_right (eqb from to) (eqb to to) (eq-eqb to to refl)

    source_is : touches was.0.key.from key ≡ true
    source_is = subst (λ (k : EdgeKey). touches k.from key ≡ true) (sym key_is) from_touches

    target_is : touches was.0.key.to key ≡ true
    target_is = subst (λ (k : EdgeKey). touches k.to key ≡ true) (sym key_is) to_touches

    source_there : is_some (object_at s.graph was.0.key.from) ≡ true
    source_there = subst (λ (k : EdgeKey). is_some (object_at s.graph k.from) ≡ true) (sym key_is) (good.ends.source key parts.0)

    target_there : is_some (object_at s.graph was.0.key.to) ≡ true
    target_there = subst (λ (k : EdgeKey). is_some (object_at s.graph k.to) ≡ true) (sym key_is) (good.ends.target key parts.0)

    same : edge_at (step s e).graph key ≡ edge_at s.graph key
    same = edge_on s e.moment e.what key was.0 allowed spares own was.1

    owned_now : (is_owned_by (step s e) job from || is_owned_by (step s e) job to) ≡ true
    owned_now =
        elim ends [
          | inl source ↦ or_left (is_owned_by (step s e) job from) (is_owned_by (step s e) job to)
              (mine job (owner (step s e) from) (owner_on s e from job legal good.owned_stand (source_spared from from_touches) source))
          | inr target ↦ or_right (is_owned_by (step s e) job from) (is_owned_by (step s e) job to)
              (mine job (owner (step s e) to) (owner_on s e to job legal good.owned_stand (source_spared to to_touches) target))
        ]

    it_is : (it : Item) → would_log s (Cut job edge from to) ≡ Some it → item.Edge job was.0 (birth_of s.graph was.0.key.from) (birth_of s.graph was.0.key.to) ≡ it
    it_is it is = item_is (sym (ap (edge_logged s.graph job) was.1) ∙ is)

    needed_now : is_needed (step s e) was.0.birth ≡ true
    needed_now = edge_needed (step s e) key was.0 (same ∙ was.1)

    journal : (q : ℕ) × (q < s.len) × (last_carrier s was.0.birth ≡ Journal q)
    journal = held.edges key was.0 was.1

-- either

held_on : (s : State) (e : Entry) (what : What) (at : ℕ) → is_legal s e ≡ true → Good s → PositionsHeld s → PayloadsMove s e → takes_row what ≡ true →
    is_legal_step s at what ≡ true → erases_same what e.what ≡ false → StaysHeld s (step s e) what
held_on s e (Create tag kind new size) at legal good held moves is line apart = absurd (false≢true is)
held_on s e (Update tag target size) at legal good held moves is line apart = absurd (false≢true is)
held_on s e (Link tag edge from to size) at legal good held moves is line apart = absurd (false≢true is)
held_on s e (Unlink tag edge from to name) at legal good held moves is line apart = absurd (false≢true is)
held_on s e (Delete tag root name) at legal good held moves is line apart = absurd (false≢true is)
held_on s e (Restore tag which) at legal good held moves is line apart = absurd (false≢true is)
held_on s e (Expire root) at legal good held moves is line apart = absurd (false≢true is)
held_on s e (Cut job edge from to) at legal good held moves is line apart =
    cut_on s e job edge from to legal good held moves (allowed_of s (record { moment = at; what = Cut job edge from to }) line)
    (λ which same. false≢true (sym apart ∙ (ap (erases_same (Cut job edge from to)) same ∙ same_key_refl (key_of edge from to))))
held_on s e (Erase job id) at legal good held moves is line apart =
    erase_on s e job id legal good held moves (allowed_of s (record { moment = at; what = Erase job id }) line)
    (λ which same. false≢true (sym apart ∙ (ap (erases_same (Erase job id)) same ∙ eq-eqb id id refl)))
held_on s e (Put which i) at legal good held moves is line apart = absurd (false≢true is)
held_on s e (Purge which) at legal good held moves is line apart = absurd (false≢true is)

one_on : (rules : RuleSet) (h : List Entry) → Legal rules h → (what : What) (at : ℕ) (e : Entry) → takes_row what ≡ true → is_legal_step (after rules h) at what ≡ true →
    is_legal (after rules h) e ≡ true → erases_same what e.what ≡ false → StaysHeld (after rules h) (step (after rules h) e) what
one_on rules h legal what at e is line next apart =
    let held = payloads_held rules h legal in
    held_on (after rules h) e what at next (good_after rules h legal) held.held (held.moves e next) is line apart

-- what stays from one state to a second and from there to a third stays
onward : (s mid now : State) (what : What) → StaysHeld s mid what → StaysHeld mid now what → StaysHeld s now what
onward s mid now what one two = record {
  legal = two.legal;
  logs = two.logs ∙ one.logs;
  needed = λ it is. two.needed it (one.logs ∙ is);
  carried = λ it is. two.carried it (one.logs ∙ is) ∙ one.carried it is;
}

not_false : (b : Bool) → not b ≡ true → b ≡ false
not_false true is = absurd (false≢true is)
not_false false is = refl

-- at the start of a list
here_on : (s : State) (what : What) (at : ℕ) → takes_row what ≡ true → Good s → PositionsHeld s → is_legal_step s at what ≡ true → StaysHeld s s what
here_on s (Create tag kind new size) at is good held line = absurd (false≢true is)
here_on s (Update tag target size) at is good held line = absurd (false≢true is)
here_on s (Link tag edge from to size) at is good held line = absurd (false≢true is)
here_on s (Unlink tag edge from to name) at is good held line = absurd (false≢true is)
here_on s (Delete tag root name) at is good held line = absurd (false≢true is)
here_on s (Restore tag which) at is good held line = absurd (false≢true is)
here_on s (Expire root) at is good held line = absurd (false≢true is)
here_on s (Cut job edge from to) at is good held line = record {
  legal = λ moment low high. step_legal s moment (Cut job edge from to) refl low high (allowed_of s (record { moment = at; what = Cut job edge from to }) line);
  logs = refl;
  needed = λ it logged. by_row (edge_at s.graph (key_of edge from to)) refl it logged;
  carried = λ it logged. refl;
}
  where
    by_row : (o : Option EdgeRow) → edge_at s.graph (key_of edge from to) ≡ o → (it : Item) → edge_logged s.graph job o ≡ Some it → is_needed s (position_of it) ≡ true
    by_row None found it logged = absurd (cc logged)
    by_row (Some row) found it logged = subst (λ (x : Item). is_needed s (position_of x) ≡ true) (item_is logged) (edge_needed s (key_of edge from to) row found)
here_on s (Erase job id) at is good held line = record {
  legal = λ moment low high. step_legal s moment (Erase job id) refl low high (allowed_of s (record { moment = at; what = Erase job id }) line);
  logs = refl;
  needed = λ it logged. by_row (object_at s.graph id) refl it logged;
  carried = λ it logged. refl;
}
  where
    by_row : (o : Option ObjectRow) → object_at s.graph id ≡ o → (it : Item) → object_logged job o ≡ Some it → is_needed s (position_of it) ≡ true
    by_row None found it logged = absurd (cc logged)
    by_row (Some row) found it logged = subst (λ (x : Item). is_needed s (position_of x) ≡ true) (item_is logged) (object_needed s id row found)
here_on s (Put which i) at is good held line = absurd (false≢true is)
here_on s (Purge which) at is good held line = absurd (false≢true is)

many_on : (rules : RuleSet) (h : List Entry) → Legal rules h → (what : What) (at : ℕ) (es : List Entry) → takes_row what ≡ true → is_legal_step (after rules h) at what ≡ true →
    is_legal_from (after rules h) es ≡ true → none_erases what es ≡ true → StaysHeld (after rules h) (run (after rules h) es) what
many_on rules h legal what at [] is line next spares = here_on (after rules h) what at is (good_after rules h legal) (payloads_held rules h legal).held line
many_on rules h legal what at (e ∷ es) is line next spares =
    let parts = and_parts (is_legal (after rules h) e) (is_legal_from (step (after rules h) e) es) next in
    let apart = and_parts (leaves_row what e) (none_erases what es) spares in
    let one : StaysHeld (after rules h) (step (after rules h) e) what = one_on rules h legal what at e is line parts.0 (not_false (erases_same what e.what) apart.0) in
    let low : e.moment ≤ e.moment = omega arith in
    onward (after rules h) (step (after rules h) e) (run (step (after rules h) e) es) what one
    (subst (λ (s : State). is_legal_step s e.moment what ≡ true → is_legal_from s es ≡ true → StaysHeld s (run s es) what) (after_push rules h e)
    (λ (now : is_legal_step (after rules (h ++ e ∷ [])) e.moment what ≡ true) (more : is_legal_from (after rules (h ++ e ∷ [])) es ≡ true).
    many_on rules (h ++ e ∷ []) (Legal_push rules h e legal parts.0) what e.moment es is now more apart.1)
    (one.legal e.moment low (moment_within (after rules h) e parts.0)) parts.1)

pub held_steps_stay : (rules : RuleSet) (h : List Entry) → Legal rules h → HeldStepsStay rules h
held_steps_stay rules h legal = record {
  one = λ what at e is line next apart. one_on rules h legal what at e is line next apart;
  many = λ what at es is line next spares. many_on rules h legal what at es is line next spares;
}
