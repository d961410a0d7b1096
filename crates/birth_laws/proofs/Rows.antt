-- Each row keeps the entries that made it, entry by entry.
use Rattle.std.proofs.Common.{◌≡◌, ℕ, zero, suc, ◌+◌, Bool, true, false, cond, eqb, ltb, List, [], ◌∷◌, ◌++◌, Option, Some, None, refl, sym, ap, ◌∙◌, subst, arith}
use Rattle.std.proofs.lemmas.Bool.{eqb-true}
use Rattle.std.specs.Prelude.{find, filter, map, slice_get}
use Rattle.delf_model.specs.declared.rows.ObjectRow.{ObjectRow}
use Rattle.delf_model.specs.declared.rows.EdgeKey.{EdgeKey}
use Rattle.delf_model.specs.declared.rows.EdgeRow.{EdgeRow}
use Rattle.delf_model.specs.declared.rows.Item.{Item}
use Rattle.delf_model.specs.declared.rows.Item.TheVariants as item
use Rattle.delf_model.specs.declared.call.Cause.{Cause}
use Rattle.delf_model.specs.declared.entry.Entry.{Entry}
use Rattle.delf_model.specs.declared.entry.Tag.{Tag}
use Rattle.delf_model.specs.declared.entry.What.{What}
use Rattle.delf_model.specs.declared.entry.What.TheVariants.{Create, Update, Link, Unlink, Delete, Restore, Expire, Cut, Erase, Put, Purge}
use Rattle.delf_model.specs.RuleSet.{RuleSet}
use Rattle.delf_model.specs.Graph.{Graph, has_id, has_key, key_before, same_key, object_at, edge_at, put_object, put_edge, rewritten, is_other_object, is_other_edge, changed}
use Rattle.delf_model.specs.State.{State, Logged, Handled, start}
use Rattle.delf_model.specs.Step.{step, run, after, graph_after, items_after, edge_item, object_item, handled_at, outcome, put_change, put_unless}
use Rattle.delf_model.specs.Owners.{key_of}
use Rattle.delf_model.specs.Puts.{judged}
use Rattle.delf_model.proofs.Places.{EachItem, each_append, each_at}
use Rattle.birth_laws.specs.Made.{ObjectMade, EdgeMade, ItemMade, Gives, GivenByEntry, RowsAreMade}

-- rows that all pass

abbrev pub Each : {A : Type 0} → (A → Type 0) → List A → Type 0
Each P [] = Unit {0}
Each P (x ∷ xs) = P x × Each P xs

each_found : {A : Type 0} (P : A → Type 0) (q : A → Bool) (xs : List A) (found : A) → Each P xs → find q xs ≡ Some found → P found
each_found P q [] found each is = absurd (cc is)
each_found P q (x ∷ xs) found each is = by_hit (q x) is (each_found P q xs found each.1)
  where
    by_hit : (b : Bool) → cond b (Some x) (find q xs) ≡ Some found → (find q xs ≡ Some found → P found) → P found
    by_hit true here IH = let same : x ≡ found = cc in subst P same each.0
    by_hit false here IH = IH here

each_filter : {A : Type 0} (P : A → Type 0) (q : A → Bool) (xs : List A) → Each P xs → Each P (filter q xs)
each_filter P q [] each = tt
each_filter P q (x ∷ xs) each = by_kept (q x) (each_filter P q xs each.1)
  where
    by_kept : (b : Bool) → Each P (filter q xs) → Each P (cond b (x ∷ filter q xs) (filter q xs))
    by_kept true IH = (each.0, IH)
    by_kept false IH = IH

each_map : {A : Type 0} (P : A → Type 0) (f : A → A) (xs : List A) → ((x : A) → P x → P (f x)) → Each P xs → Each P (map f xs)
each_map P f [] keeps each = tt
each_map P f (x ∷ xs) keeps each = (keeps x each.0, each_map P f xs keeps each.1)

each_put_object : (P : ObjectRow → Type 0) (row : ObjectRow) (xs : List ObjectRow) → P row → Each P xs → Each P (put_object row xs)
each_put_object P row [] new each = (new, tt)
each_put_object P row (x ∷ xs) new each = by_order (ltb row.id x.id) (eqb row.id x.id) (each_put_object P row xs new each.1)
  where
    by_order : (before same : Bool) → Each P (put_object row xs) → Each P (cond before (row ∷ (x ∷ xs)) (cond same (row ∷ xs) (x ∷ put_object row xs)))
    by_order true same IH = (new, each)
    by_order false true IH = (new, each.1)
    by_order false false IH = (each.0, IH)

each_put_edge : (P : EdgeRow → Type 0) (row : EdgeRow) (xs : List EdgeRow) → P row → Each P xs → Each P (put_edge row xs)
each_put_edge P row [] new each = (new, tt)
each_put_edge P row (x ∷ xs) new each = by_order (key_before row.key x.key) (same_key row.key x.key) (each_put_edge P row xs new each.1)
  where
    by_order : (before same : Bool) → Each P (put_edge row xs) → Each P (cond before (row ∷ (x ∷ xs)) (cond same (row ∷ xs) (x ∷ put_edge row xs)))
    by_order true same IH = (new, each)
    by_order false true IH = (new, each.1)
    by_order false false IH = (each.0, IH)

-- the rows of a state

pub record Made (h : List Entry) (s : State) : Type 0 where
  pub objects : Each (ObjectMade h) s.graph.objects
  pub edges : Each (EdgeMade h) s.graph.edges
  pub items : EachItem (λ (l : Logged). ItemMade h l.item) s.items

-- an update moves the position of its object alone, to its own
updated : (h : List Entry) (e : Entry) (tag : Tag) (id at size : ℕ) → slice_get h at ≡ Some e → e.what ≡ Update tag id size →
    (row : ObjectRow) → ObjectMade h row → ObjectMade h (rewritten id at size row)
updated h e tag id at size there is row made = by_hit (eqb row.id id) refl
  where
    by_hit : (b : Bool) → eqb row.id id ≡ b → ObjectMade h (cond b (record row { at = at; size = size }) row)
    by_hit false hit = made
    by_hit true hit = record {
      born = record { entry = made.born.entry; there = made.born.there; tag = made.born.tag; size = made.born.size; creates = made.born.creates };
      given = record {
        entry = e;
        there = there;
        gives = Gives.ByUpdate tag (is ∙ ap (λ (n : ℕ). Update tag n size) (sym (eqb-true row.id id hit)));
      };
    }

-- a put brings back the row of an item

put_item : (h : List Entry) (s : State) (it : Item) (o : Option Cause) → ItemMade h it → Made h s →
    Each (ObjectMade h) (changed s.graph (put_unless o it)).objects × Each (EdgeMade h) (changed s.graph (put_unless o it)).edges
put_item h s it (Some c) made old = (old.objects, old.edges)
put_item h s (item.Object job row) None made old = (each_put_object (ObjectMade h) row s.graph.objects made old.objects, old.edges)
put_item h s (item.Edge job row from_birth to_birth) None made old = (old.objects, each_put_edge (EdgeMade h) row s.graph.edges made old.edges)

put_rows : (h : List Entry) (s : State) (i : ℕ) (o : Option Logged) → slice_get s.items i ≡ o → Made h s →
    Each (ObjectMade h) (changed s.graph (put_change s o)).objects × Each (EdgeMade h) (changed s.graph (put_change s o)).edges
put_rows h s i None at old = (old.objects, old.edges)
put_rows h s i (Some logged) at old =
    put_item h s logged.item (judged s logged.item) (each_at (λ (l : Logged). ItemMade h l.item) s.items i logged old.items at) old

-- the items

each_same_item : (h : List Entry) (xs : List Logged) (i : ℕ) (how : Handled) → EachItem (λ (l : Logged). ItemMade h l.item) xs →
    EachItem (λ (l : Logged). ItemMade h l.item) (handled_at xs i how)
each_same_item h [] i how each = tt
each_same_item h (x ∷ xs) zero how each = (each.0, each.1)
each_same_item h (x ∷ xs) (suc i) how each = (each.0, each_same_item h xs i how each.1)

object_made : (h : List Entry) (s : State) (job id : ℕ) (o : Option ObjectRow) → object_at s.graph id ≡ o → Made h s →
    EachItem (λ (l : Logged). ItemMade h l.item) (object_item job o)
object_made h s job id None at old = tt
object_made h s job id (Some row) at old = (each_found (ObjectMade h) (has_id id) s.graph.objects row old.objects at, tt)

edge_made : (h : List Entry) (s : State) (job : ℕ) (key : EdgeKey) (o : Option EdgeRow) → edge_at s.graph key ≡ o → Made h s →
    EachItem (λ (l : Logged). ItemMade h l.item) (edge_item s.graph job o)
edge_made h s job key None at old = tt
edge_made h s job key (Some row) at old = (each_found (EdgeMade h) (has_key key) s.graph.edges row old.edges at, tt)

-- one entry more
made_step : (h : List Entry) (s : State) (e : Entry) → slice_get h s.len ≡ Some e → Made h s → Made h (step s e)
made_step h s e there old = by_what e.what refl
  where
    all : (w : What) → Each (ObjectMade h) (graph_after s e.moment w).objects → Each (EdgeMade h) (graph_after s e.moment w).edges →
        EachItem (λ (l : Logged). ItemMade h l.item) (items_after s w) → e.what ≡ w → Made h (step s e)
    all w objects edges items is = record {
      objects = subst (λ (v : What). Each (ObjectMade h) (graph_after s e.moment v).objects) (sym is) objects;
      edges = subst (λ (v : What). Each (EdgeMade h) (graph_after s e.moment v).edges) (sym is) edges;
      items = subst (λ (v : What). EachItem (λ (l : Logged). ItemMade h l.item) (items_after s v)) (sym is) items;
    }

    by_what : (w : What) → e.what ≡ w → Made h (step s e)
    by_what (Create tag kind id size) is =
        all (Create tag kind id size)
        (each_put_object (ObjectMade h) _ s.graph.objects (record {
          born = record { entry = e; there = there; tag = tag; size = size; creates = is };
          given = record { entry = e; there = there; gives = Gives.ByCreate tag is };
        }) old.objects) old.edges old.items is
    by_what (Update tag id size) is =
        all (Update tag id size)
        (each_map (ObjectMade h) (rewritten id s.len size) s.graph.objects (updated h e tag id s.len size there is) old.objects) old.edges old.items is
    by_what (Link tag edge from to size) is =
        all (Link tag edge from to size) old.objects
        (each_put_edge (EdgeMade h) _ s.graph.edges (record { entry = e; there = there; tag = tag; links = is }) old.edges) old.items is
    by_what (Unlink tag edge from to name) is =
        all (Unlink tag edge from to name) old.objects (each_filter (EdgeMade h) (is_other_edge (key_of edge from to)) s.graph.edges old.edges) old.items is
    by_what (Delete tag id name) is = all (Delete tag id name) old.objects old.edges old.items is
    by_what (Restore tag which) is = all (Restore tag which) old.objects old.edges old.items is
    by_what (Expire id) is = all (Expire id) old.objects old.edges old.items is
    by_what (Cut which edge from to) is =
        all (Cut which edge from to) old.objects (each_filter (EdgeMade h) (is_other_edge (key_of edge from to)) s.graph.edges old.edges)
        (each_append (λ (l : Logged). ItemMade h l.item) s.items _ old.items (edge_made h s which (key_of edge from to) (edge_at s.graph (key_of edge from to)) refl old)) is
    by_what (Erase which id) is =
        all (Erase which id) (each_filter (ObjectMade h) (is_other_object id) s.graph.objects old.objects) old.edges
        (each_append (λ (l : Logged). ItemMade h l.item) s.items _ old.items (object_made h s which id (object_at s.graph id) refl old)) is
    by_what (Put which i) is =
        let rows = put_rows h s i (slice_get s.items i) refl old in
        all (Put which i) rows.0 rows.1 (each_same_item h s.items i (outcome s (slice_get s.items i)) old.items) is
    by_what (Purge which) is = all (Purge which) old.objects old.edges old.items is

-- the entries from the state's length on are those of the history
moved : (a b : ℕ) → a + 1 + b ≡ a + suc b
moved a b = omega arith

made_run : (h : List Entry) (s : State) (es : List Entry) → ((j : ℕ) (e : Entry) → slice_get es j ≡ Some e → slice_get h (s.len + j) ≡ Some e) →
    Made h s → Made h (run s es)
made_run h s [] there old = old
made_run h s (e ∷ es) there old =
    made_run h (step s e) es
    (λ j x at. subst (λ (n : ℕ). slice_get h n ≡ Some x) (sym (moved s.len j)) (there (suc j) x at))
    (made_step h s e (subst (λ (n : ℕ). slice_get h n ≡ Some e) (no_more s.len) (there 0 e refl)) old)
  where
    no_more : (n : ℕ) → n + 0 ≡ n
    no_more n = omega arith

made_after : (rules : RuleSet) (h : List Entry) → Made h (after rules h)
made_after rules h =
    made_run h (start rules) h (λ j e at. subst (λ (n : ℕ). slice_get h n ≡ Some e) (sym (from_zero j)) at) (record { objects = tt; edges = tt; items = tt })
  where
    from_zero : (n : ℕ) → 0 + n ≡ n
    from_zero n = omega arith

pub rows_made : (rules : RuleSet) (h : List Entry) → RowsAreMade rules h
rows_made rules h = record {
  objects = λ id row at. each_found (ObjectMade h) (has_id id) (after rules h).graph.objects row (made_after rules h).objects at;
  edges = λ key row at. each_found (EdgeMade h) (has_key key) (after rules h).graph.edges row (made_after rules h).edges at;
  items = λ i logged at. each_at (λ (l : Logged). ItemMade h l.item) (after rules h).items i logged (made_after rules h).items at;
}
