-- Rows in order with equal look-ups are equal lists, and the keys of edges rise after every legal history.
use Rattle.std.proofs.Common.{◌≡◌, ℕ, Bool, true, false, cond, eqb, ltb, List, [], ◌∷◌, Option, Some, None, refl, sym, ap, ◌∙◌, subst, arith}
use Rattle.std.proofs.lemmas.Bool.{and_parts, and_from, eqb-true, eq-eqb, false≢true, lt-ltb}
use Rattle.std.proofs.lemmas.Bool.Decides.{nat_tests}
use Rattle.std.specs.Prelude.{find, filter, slice_get}
use Rattle.delf_model.specs.declared.rows.ObjectRow.{ObjectRow}
use Rattle.delf_model.specs.declared.rows.EdgeKey.{EdgeKey}
use Rattle.delf_model.specs.declared.rows.EdgeRow.{EdgeRow}
use Rattle.delf_model.specs.declared.rows.Item.{Item}
use Rattle.delf_model.specs.declared.rows.Item.TheVariants as item
use Rattle.delf_model.specs.declared.call.Cause.{Cause}
use Rattle.delf_model.specs.declared.entry.Entry.{Entry}
use Rattle.delf_model.specs.declared.entry.What.{What}
use Rattle.delf_model.specs.declared.entry.What.TheVariants.{Create, Update, Link, Unlink, Delete, Restore, Expire, Cut, Erase, Put, Purge}
use Rattle.delf_model.specs.RuleSet.{RuleSet}
use Rattle.delf_model.specs.Graph.{Graph, object_at, edge_at, has_id, has_key, same_key, key_before, objects_rise, rises_after, edges_rise, keys_rise_after, put_object, put_edge, is_other_edge, changed}
use Rattle.delf_model.specs.State.{State, Logged, start}
use Rattle.delf_model.specs.Step.{after, graph_after, put_change, put_unless}
use Rattle.delf_model.specs.Puts.{judged}
use Rattle.delf_model.specs.Owners.{key_of}
use Rattle.delf_model.specs.Legal.{Legal}
use Rattle.delf_model.proofs.Runs.{good_run}
use Rattle.delf_model.proofs.Graphs.{same_key_is, same_key_refl}
use Rattle.order_laws.proofs.Ordered.{Rising, Above, ordered_after}

-- rows in an order

-- each of these comes after this one
abbrev pub AllAfter : {A : Type 0} → (A → A → Bool) → A → List A → Type 0
AllAfter before row [] = Unit {0}
AllAfter before row (x ∷ xs) = (before row x ≡ true) × AllAfter before row xs

abbrev pub Sorted : {A : Type 0} → (A → A → Bool) → List A → Type 0
Sorted before [] = Unit {0}
Sorted before (x ∷ xs) = AllAfter before x xs × Sorted before xs

-- an order of rows, and the test whether a row has the key of another: no row after one has the key of that one
pub record Keyed (A : Type 0) (before hit : A → A → Bool) : Type 0 where
  pub own : (x : A) → hit x x ≡ true
  pub apart : (r x y : A) → hit r x ≡ true → before x y ≡ true → hit r y ≡ false
  pub along : (x y z : A) → before x y ≡ true → before y z ≡ true → before x z ≡ true

none_after : {A : Type 0} (before hit : A → A → Bool) → Keyed A before hit → (r x : A) (xs : List A) → hit r x ≡ true → AllAfter before x xs → find (hit r) xs ≡ None
none_after before hit keyed r x [] same above = refl
none_after before hit keyed r x (y ∷ ys) same above =
    ap (λ (b : Bool). cond b (Some y) (find (hit r) ys)) (keyed.apart r x y same above.0) ∙ none_after before hit keyed r x ys same above.1

found_after : {A : Type 0} (before hit : A → A → Bool) (low found : A) (p : A → Bool) (xs : List A) → AllAfter before low xs → find p xs ≡ Some found → before low found ≡ true
found_after before hit low found p [] above is = absurd (cc is)
found_after before hit low found p (x ∷ xs) above is = by_hit (p x) is (found_after before hit low found p xs above.1)
  where
    by_hit : (b : Bool) → cond b (Some x) (find p xs) ≡ Some found → (find p xs ≡ Some found → before low found ≡ true) → before low found ≡ true
    by_hit true here IH = let same : x ≡ found = cc in subst (λ (y : _). before low y ≡ true) same above.0
    by_hit false here IH = IH here

miss_both : {A : Type 0} (b : Bool) (x : A) (o p : Option A) → b ≡ false → cond b (Some x) o ≡ p → o ≡ p
miss_both true x o p missed is = absurd (false≢true (sym missed))
miss_both false x o p missed is = is

some_is : {A : Type 0} (a b : A) → Some a ≡ Some b → a ≡ b
some_is a b is = cc

-- equal look-ups by the keys of rows make equal lists
pub same_rows : {A : Type 0} (before hit : A → A → Bool) → Keyed A before hit → (a b : List A) → Sorted before a → Sorted before b →
    ((r : A) → find (hit r) a ≡ find (hit r) b) → a ≡ b
same_rows before hit keyed [] [] one two same = refl
same_rows before hit keyed [] (y ∷ ys) one two same =
    absurd (let none : None ≡ Some y = same y ∙ ap (λ (b : Bool). cond b (Some y) (find (hit y) ys)) (keyed.own y) in cc none)
same_rows before hit keyed (x ∷ xs) [] one two same =
    absurd (let none : Some x ≡ None = sym (ap (λ (b : Bool). cond b (Some x) (find (hit x) xs)) (keyed.own x)) ∙ same x in cc none)
same_rows before hit keyed (x ∷ xs) (y ∷ ys) one two same = by_hit (hit x y) refl (same_rows before hit keyed xs ys one.1 two.1)
  where
    at_x : Some x ≡ cond (hit x y) (Some y) (find (hit x) ys)
    at_x = sym (ap (λ (b : Bool). cond b (Some x) (find (hit x) xs)) (keyed.own x)) ∙ same x

    at_y : cond (hit y x) (Some x) (find (hit y) xs) ≡ Some y
    at_y = same y ∙ ap (λ (b : Bool). cond b (Some y) (find (hit y) ys)) (keyed.own y)

    tails : x ≡ y → (r : _) → find (hit r) xs ≡ find (hit r) ys
    tails is r = by_head (hit r x) refl
      where
        by_head : (b : Bool) → hit r x ≡ b → find (hit r) xs ≡ find (hit r) ys
        by_head true here =
            none_after before hit keyed r x xs here one.0 ∙ sym (none_after before hit keyed r y ys (subst (λ (z : _). hit r z ≡ true) is here) two.0)
        by_head false here =
            miss_both (hit r x) x (find (hit r) xs) (find (hit r) ys) here
            (same r ∙ ap (λ (b : Bool). cond b (Some y) (find (hit r) ys)) (subst (λ (z : _). hit r z ≡ false) is here))

    by_hit : (b : Bool) → hit x y ≡ b → (((r : _) → find (hit r) xs ≡ find (hit r) ys) → xs ≡ ys) → x ∷ xs ≡ y ∷ ys
    by_hit true here IH =
        let is : x ≡ y = some_is x y (at_x ∙ ap (λ (b : Bool). cond b (Some y) (find (hit x) ys)) here) in
        ap (λ (z : _). z ∷ xs) is ∙ ap (λ (zs : List _). y ∷ zs) (IH (tails is))
    by_hit false here IH = absurd (by_other (hit y x) refl)
      where
        later : before y x ≡ true
        later = found_after before hit y x (hit x) ys two.0 (sym (at_x ∙ ap (λ (b : Bool). cond b (Some y) (find (hit x) ys)) here))

        by_other : (b : Bool) → hit y x ≡ b → ⊥
        by_other true other =
            false≢true (sym (keyed.apart y x x other (keyed.along x y x (earlier other) later)) ∙ other)
          where
            earlier : hit y x ≡ true → before x y ≡ true
            earlier at = subst (λ (z : _). before z y ≡ true) (sym (some_is x y (sym (ap (λ (b : Bool). cond b (Some x) (find (hit y) xs)) at) ∙ at_y)))
                (subst (λ (z : _). before y z ≡ true) (some_is x y (sym (ap (λ (b : Bool). cond b (Some x) (find (hit y) xs)) at) ∙ at_y)) later)
        by_other false other =
            false≢true (sym (keyed.apart x x x (keyed.own x) (keyed.along x y x
            (found_after before hit x y (hit y) xs one.0 (sym (ap (λ (b : Bool). cond b (Some x) (find (hit y) xs)) other) ∙ at_y)) later)) ∙ keyed.own x)

-- objects by id

abbrev pub object_before : ObjectRow → ObjectRow → Bool
object_before a b = ltb a.id b.id

abbrev pub object_hit : ObjectRow → ObjectRow → Bool
object_hit a b = has_id a.id b

object_keyed : Keyed ObjectRow object_before object_hit
object_keyed = record {
  own = λ x. eq-eqb x.id x.id refl;
  apart = λ r x y same less. later r.id x.id y.id same less;
  along = λ x y z one two. further x.id y.id z.id one two;
}
  where
    later : (r x y : ℕ) → eqb x r ≡ true → ltb x y ≡ true → eqb y r ≡ false
    later r x y same less = grind (arith, nat_tests)

    further : (x y z : ℕ) → ltb x y ≡ true → ltb y z ≡ true → ltb x z ≡ true
    further x y z one two = grind (arith, nat_tests)

-- edges by key

abbrev pub edge_before : EdgeRow → EdgeRow → Bool
edge_before a b = key_before a.key b.key

abbrev pub edge_hit : EdgeRow → EdgeRow → Bool
edge_hit a b = has_key a.key b

key_along : (a b c : EdgeKey) → key_before a b ≡ true → key_before b c ≡ true → key_before a c ≡ true
key_along a b c one two = grind (arith, nat_tests)

key_not_same : (a b : EdgeKey) → key_before a b ≡ true → same_key b a ≡ false
key_not_same a b one = grind (arith, nat_tests)

key_after : (a b : EdgeKey) → key_before a b ≡ false → same_key a b ≡ false → key_before b a ≡ true
key_after a b one two = grind (arith, nat_tests)

edge_keyed : Keyed EdgeRow edge_before edge_hit
edge_keyed = record {
  own = λ x. same_key_refl x.key;
  apart = λ r x y same less. subst (λ (k : EdgeKey). same_key y.key k ≡ false) (same_key_is x.key r.key same) (key_not_same x.key y.key less);
  along = λ x y z one two. key_along x.key y.key z.key one two;
}

-- from the tests

objects_above : (row : ObjectRow) (id : ℕ) (xs : List ObjectRow) → row.id ≡ id → rises_after id xs ≡ true → AllAfter object_before row xs
objects_above row id xs is rises = above row.id xs (subst (λ (n : ℕ). rises_after n xs ≡ true) (sym is) rises) row refl
  where
    above : (n : ℕ) (ys : List ObjectRow) → rises_after n ys ≡ true → (low : ObjectRow) → low.id ≡ n → AllAfter object_before low ys
    above n [] rises low same = tt
    above n (y ∷ ys) rises low same =
        let parts = and_parts (ltb n y.id) (rises_after y.id ys) rises in
        let here : object_before low y ≡ true = ap (λ (m : ℕ). ltb m y.id) same ∙ parts.0 in
        (here, lower ys y low here (above y.id ys parts.1 y refl))
      where
        lower : (zs : List ObjectRow) (mid low : ObjectRow) → object_before low mid ≡ true → AllAfter object_before mid zs → AllAfter object_before low zs
        lower [] mid low less all = tt
        lower (z ∷ zs) mid low less all = (object_keyed.along low mid z less all.0, lower zs mid low less all.1)

sorted_after : (id : ℕ) (xs : List ObjectRow) → rises_after id xs ≡ true → Sorted object_before xs
sorted_after id [] rises = tt
sorted_after id (x ∷ xs) rises =
    let parts = and_parts (ltb id x.id) (rises_after x.id xs) rises in
    (objects_above x x.id xs refl parts.1, sorted_after x.id xs parts.1)

objects_sorted : (xs : List ObjectRow) → objects_rise xs ≡ true → Sorted object_before xs
objects_sorted [] rises = tt
objects_sorted (x ∷ xs) rises = (objects_above x x.id xs refl rises, sorted_after x.id xs rises)

edges_lower : (zs : List EdgeRow) (mid low : EdgeRow) → edge_before low mid ≡ true → AllAfter edge_before mid zs → AllAfter edge_before low zs
edges_lower [] mid low less all = tt
edges_lower (z ∷ zs) mid low less all = (key_along low.key mid.key z.key less all.0, edges_lower zs mid low less all.1)

edges_above : (ys : List EdgeRow) (low : EdgeRow) → keys_rise_after low.key ys ≡ true → AllAfter edge_before low ys
edges_above [] low rises = tt
edges_above (y ∷ ys) low rises =
    let parts = and_parts (key_before low.key y.key) (keys_rise_after y.key ys) rises in
    (parts.0, edges_lower ys y low parts.0 (edges_above ys y parts.1))

edges_sorted_after : (key : EdgeKey) (xs : List EdgeRow) → keys_rise_after key xs ≡ true → Sorted edge_before xs
edges_sorted_after key [] rises = tt
edges_sorted_after key (x ∷ xs) rises =
    let parts = and_parts (key_before key x.key) (keys_rise_after x.key xs) rises in
    (edges_above xs x parts.1, edges_sorted_after x.key xs parts.1)

edges_sorted : (xs : List EdgeRow) → edges_rise xs ≡ true → Sorted edge_before xs
edges_sorted [] rises = tt
edges_sorted (x ∷ xs) rises = (edges_above xs x rises, edges_sorted_after x.key xs rises)

-- two lists of rows in order with equal look-ups are one

pub same_objects_sorted : (a b : List ObjectRow) → Sorted object_before a → Sorted object_before b → ((id : ℕ) → find (has_id id) a ≡ find (has_id id) b) → a ≡ b
same_objects_sorted a b one two same = same_rows object_before object_hit object_keyed a b one two (λ r. same r.id)

pub same_edges_sorted : (a b : List EdgeRow) → Sorted edge_before a → Sorted edge_before b → ((key : EdgeKey) → find (has_key key) a ≡ find (has_key key) b) → a ≡ b
same_edges_sorted a b one two same = same_rows edge_before edge_hit edge_keyed a b one two (λ r. same r.key)

pub same_objects : (a b : List ObjectRow) → objects_rise a ≡ true → objects_rise b ≡ true → ((id : ℕ) → find (has_id id) a ≡ find (has_id id) b) → a ≡ b
same_objects a b one two same = same_objects_sorted a b (objects_sorted a one) (objects_sorted b two) same

pub same_edges : (a b : List EdgeRow) → edges_rise a ≡ true → edges_rise b ≡ true → ((key : EdgeKey) → find (has_key key) a ≡ find (has_key key) b) → a ≡ b
same_edges a b one two same = same_edges_sorted a b (edges_sorted a one) (edges_sorted b two) same

-- rows in order stay so

put_object_after : (low row : ObjectRow) (xs : List ObjectRow) → object_before low row ≡ true → AllAfter object_before low xs → AllAfter object_before low (put_object row xs)
put_object_after low row [] less all = (less, tt)
put_object_after low row (x ∷ xs) less all = by_order (ltb row.id x.id) (eqb row.id x.id) (put_object_after low row xs less all.1)
  where
    by_order : (b c : Bool) → AllAfter object_before low (put_object row xs) → AllAfter object_before low (cond b (row ∷ (x ∷ xs)) (cond c (row ∷ xs) (x ∷ put_object row xs)))
    by_order true c IH = (less, all)
    by_order false true IH = (less, all.1)
    by_order false false IH = (all.0, IH)

object_lower : (zs : List ObjectRow) (mid low : ObjectRow) → ((z : ObjectRow) → object_before mid z ≡ true → object_before low z ≡ true) → AllAfter object_before mid zs → AllAfter object_before low zs
object_lower [] mid low less all = tt
object_lower (z ∷ zs) mid low less all = (less z all.0, object_lower zs mid low less all.1)

pub put_object_sorted : (row : ObjectRow) (xs : List ObjectRow) → Sorted object_before xs → Sorted object_before (put_object row xs)
put_object_sorted row [] sorted = (tt, tt)
put_object_sorted row (x ∷ xs) sorted = by_order (ltb row.id x.id) refl (eqb row.id x.id) refl (put_object_sorted row xs sorted.1)
  where
    further : (x y z : ℕ) → ltb x y ≡ true → ltb y z ≡ true → ltb x z ≡ true
    further x y z one two = grind (arith, nat_tests)

    later : (m n : ℕ) → ltb m n ≡ false → eqb m n ≡ false → ltb n m ≡ true
    later m n one two = grind (arith, nat_tests)

    by_order : (b : Bool) → ltb row.id x.id ≡ b → (c : Bool) → eqb row.id x.id ≡ c → Sorted object_before (put_object row xs) →
        Sorted object_before (cond b (row ∷ (x ∷ xs)) (cond c (row ∷ xs) (x ∷ put_object row xs)))
    by_order true is c at IH = ((is, object_lower xs x row (λ z less. further row.id x.id z.id is less) sorted.0), sorted)
    by_order false is true at IH =
        (object_lower xs x row (λ z less. ap (λ (n : ℕ). ltb n z.id) (eqb-true row.id x.id at) ∙ less) sorted.0, sorted.1)
    by_order false is false at IH = (put_object_after x row xs (later row.id x.id is at) sorted.0, IH)

put_edge_after : (low row : EdgeRow) (xs : List EdgeRow) → edge_before low row ≡ true → AllAfter edge_before low xs → AllAfter edge_before low (put_edge row xs)
put_edge_after low row [] less all = (less, tt)
put_edge_after low row (x ∷ xs) less all = by_order (key_before row.key x.key) (same_key row.key x.key) (put_edge_after low row xs less all.1)
  where
    by_order : (b c : Bool) → AllAfter edge_before low (put_edge row xs) → AllAfter edge_before low (cond b (row ∷ (x ∷ xs)) (cond c (row ∷ xs) (x ∷ put_edge row xs)))
    by_order true c IH = (less, all)
    by_order false true IH = (less, all.1)
    by_order false false IH = (all.0, IH)

edge_same_lower : (zs : List EdgeRow) (mid low : EdgeRow) → low.key ≡ mid.key → AllAfter edge_before mid zs → AllAfter edge_before low zs
edge_same_lower [] mid low same all = tt
edge_same_lower (z ∷ zs) mid low same all = (ap (λ (k : EdgeKey). key_before k z.key) same ∙ all.0, edge_same_lower zs mid low same all.1)

pub put_edge_sorted : (row : EdgeRow) (xs : List EdgeRow) → Sorted edge_before xs → Sorted edge_before (put_edge row xs)
put_edge_sorted row [] sorted = (tt, tt)
put_edge_sorted row (x ∷ xs) sorted = by_order (key_before row.key x.key) refl (same_key row.key x.key) refl (put_edge_sorted row xs sorted.1)
  where
    by_order : (b : Bool) → key_before row.key x.key ≡ b → (c : Bool) → same_key row.key x.key ≡ c → Sorted edge_before (put_edge row xs) →
        Sorted edge_before (cond b (row ∷ (x ∷ xs)) (cond c (row ∷ xs) (x ∷ put_edge row xs)))
    by_order true is c at IH = ((is, edges_lower xs x row is sorted.0), sorted)
    by_order false is true at IH = (edge_same_lower xs x row (same_key_is row.key x.key at) sorted.0, sorted.1)
    by_order false is false at IH = (put_edge_after x row xs (key_after row.key x.key is at) sorted.0, IH)

filter_edge_after : (low : EdgeRow) (p : EdgeRow → Bool) (xs : List EdgeRow) → AllAfter edge_before low xs → AllAfter edge_before low (filter p xs)
filter_edge_after low p [] all = tt
filter_edge_after low p (x ∷ xs) all = by_kept (p x) (filter_edge_after low p xs all.1)
  where
    by_kept : (b : Bool) → AllAfter edge_before low (filter p xs) → AllAfter edge_before low (cond b (x ∷ filter p xs) (filter p xs))
    by_kept true IH = (all.0, IH)
    by_kept false IH = IH

filter_edge_sorted : (p : EdgeRow → Bool) (xs : List EdgeRow) → Sorted edge_before xs → Sorted edge_before (filter p xs)
filter_edge_sorted p [] sorted = tt
filter_edge_sorted p (x ∷ xs) sorted = by_kept (p x) (filter_edge_sorted p xs sorted.1)
  where
    by_kept : (b : Bool) → Sorted edge_before (filter p xs) → Sorted edge_before (cond b (x ∷ filter p xs) (filter p xs))
    by_kept true IH = (filter_edge_after x p xs sorted.0, IH)
    by_kept false IH = IH

-- the keys of edges rise

put_item_sorted : (s : State) (it : Item) (o : Option Cause) → Sorted edge_before s.graph.edges → Sorted edge_before (changed s.graph (put_unless o it)).edges
put_item_sorted s it (Some c) sorted = sorted
put_item_sorted s (item.Object job row) None sorted = sorted
put_item_sorted s (item.Edge job row from_birth to_birth) None sorted = put_edge_sorted row s.graph.edges sorted

put_change_sorted : (s : State) (o : Option Logged) → Sorted edge_before s.graph.edges → Sorted edge_before (changed s.graph (put_change s o)).edges
put_change_sorted s None sorted = sorted
put_change_sorted s (Some logged) sorted = put_item_sorted s logged.item (judged s logged.item) sorted

edges_step : (s : State) (moment : ℕ) (what : What) → Sorted edge_before s.graph.edges → Sorted edge_before (graph_after s moment what).edges
edges_step s moment (Create tag kind id size) sorted = sorted
edges_step s moment (Update tag id size) sorted = sorted
edges_step s moment (Link tag edge from to size) sorted = put_edge_sorted _ s.graph.edges sorted
edges_step s moment (Unlink tag edge from to name) sorted = filter_edge_sorted (is_other_edge (key_of edge from to)) s.graph.edges sorted
edges_step s moment (Delete tag id name) sorted = sorted
edges_step s moment (Restore tag which) sorted = sorted
edges_step s moment (Expire id) sorted = sorted
edges_step s moment (Cut which edge from to) sorted = filter_edge_sorted (is_other_edge (key_of edge from to)) s.graph.edges sorted
edges_step s moment (Erase which id) sorted = sorted
edges_step s moment (Put which i) sorted = put_change_sorted s (slice_get s.items i) sorted
edges_step s moment (Purge which) sorted = sorted

abbrev KeysRise : State → Type 0
KeysRise s = Sorted edge_before s.graph.edges

pub edges_sorted_after_history : (rules : RuleSet) (h : List Entry) → Legal rules h → Sorted edge_before (after rules h).graph.edges
edges_sorted_after_history rules h legal = good_run KeysRise (λ s e sorted line. edges_step s e.moment e.what sorted) (start rules) h tt legal

-- and ids rise

ids_after : (low : ObjectRow) (xs : List ObjectRow) → Above low.id xs → AllAfter object_before low xs
ids_after low [] above = tt
ids_after low (x ∷ xs) above = (lt-ltb low.id x.id above.0, ids_after low xs above.1)

ids_sorted : (xs : List ObjectRow) → Rising xs → Sorted object_before xs
ids_sorted [] rises = tt
ids_sorted (x ∷ xs) rises = (ids_after x xs rises.0, ids_sorted xs rises.1)

pub objects_sorted_after_history : (rules : RuleSet) (h : List Entry) → Legal rules h → Sorted object_before (after rules h).graph.objects
objects_sorted_after_history rules h legal = ids_sorted (after rules h).graph.objects (ordered_after rules h legal).ids

-- the keys rise, as a test

edges_after_test : (low : EdgeRow) (xs : List EdgeRow) → AllAfter edge_before low xs → Sorted edge_before xs → keys_rise_after low.key xs ≡ true
edges_after_test low [] all sorted = refl
edges_after_test low (x ∷ xs) all sorted = and_from (key_before low.key x.key) (keys_rise_after x.key xs) all.0 (edges_after_test x xs sorted.0 sorted.1)

edges_test : (xs : List EdgeRow) → Sorted edge_before xs → edges_rise xs ≡ true
edges_test [] sorted = refl
edges_test (x ∷ xs) sorted = edges_after_test x xs sorted.0 sorted.1

pub edges_rise_after : (rules : RuleSet) (h : List Entry) → Legal rules h → edges_rise (after rules h).graph.edges ≡ true
edges_rise_after rules h legal = edges_test (after rules h).graph.edges (edges_sorted_after_history rules h legal)

-- two graphs with equal look-ups after legal histories are one

pub same_graph : (a b : Graph) → Sorted object_before a.objects → Sorted edge_before a.edges → Sorted object_before b.objects → Sorted edge_before b.edges →
    ((id : ℕ) → object_at a id ≡ object_at b id) → ((key : EdgeKey) → edge_at a key ≡ edge_at b key) → a ≡ b
same_graph a b a_objects a_edges b_objects b_edges objects edges =
    ap (λ (xs : List ObjectRow). record { objects = xs; edges = a.edges }) (same_objects_sorted a.objects b.objects a_objects b_objects objects) ∙
    ap (λ (xs : List EdgeRow). record { objects = b.objects; edges = xs }) (same_edges_sorted a.edges b.edges a_edges b_edges edges)
