-- The counts beside the links, as an edge comes or goes.
use Rattle.std.proofs.Common.{◌≡◌, ◌%◌, ℕ, ◌+◌, ◌<◌, Bool, true, false, cond, ◌&&◌, ◌||◌, Option, Some, None, List, [], ◌∷◌, refl, sym, ap, subst, ◌∙◌, arith}
use Rattle.std.proofs.lemmas.Bool.{eq-eqb, and_parts, and_from}
use Rattle.std.proofs.lemmas.Grind.{common_steps}
use Rattle.std.specs.Prelude.{find, filter, count_by, nat_eq, is_some, if◌then◌else◌}
use Rattle.std.specs.List.{filter_map, list_any}
use Rattle.delf_model.specs.declared.rows.EdgeRow.{EdgeRow}
use Rattle.delf_model.specs.declared.rows.EdgeKey.{EdgeKey}
use Rattle.delf_model.specs.Graph.{same_key, has_key, put_edge, is_other_edge}
use Rattle.delf_model.specs.Store.{is_counted}
use Rattle.delf_model.proofs.Graphs.{same_key_is}
use Rattle.delf_model.proofs.Sums.{count_found}
use Rattle.edge_index.specs.declared.links.Link.{Link}
use Rattle.edge_index.specs.Links.{Entry, rows_of, row_in, row_found, has_room}
use Rattle.edge_index.specs.Ends.{Place, at_target, is_near, has_near, IsOrderOf}
use Rattle.edge_index.specs.Refs.{Count, target_home, count_in, refs_at, refs_of, row_counts, AreRefsOf}
use Rattle.edge_index.proofs.Keys.{target_is}
use Rattle.edge_index.proofs.Rises.{count_put, count_take, passes}
use Rattle.edge_index.proofs.Rows.{Sorted, rows_rise}
use Rattle.edge_index.proofs.Near.{near_rows, has_end}
use Rattle.edge_index.proofs.Orders.{near_from_place}

-- a key with room and no row has no link
pub free_link : (key : EdgeKey) (link : Option (Option Link)) → is_some link ≡ true → row_found key link ≡ None → link ≡ Some None
free_link key None room free = absurd (cc)
free_link key (Some None) room free = refl
free_link key (Some (Some link)) room free = absurd (cc)

pub refs_kept : (counts : ℕ → Bool) (links : List Entry) (refs new : ℕ → List Count) → ((id : ℕ) → refs_of new id ≡ refs_of refs id) →
    ((id : ℕ) → is_some (refs_at refs id) ≡ true → is_some (refs_at new id) ≡ true) → AreRefsOf counts links refs → AreRefsOf counts links new
refs_kept counts links refs new same stay are = record {
  exact = λ id. same id ∙ are.exact id;
  room = λ key room. stay key.to (are.room key room);
}

-- room for one key more, whose target has its place
pub refs_grown : (counts : ℕ → Bool) (links after : List Entry) (refs : ℕ → List Count) (key : EdgeKey) → rows_of after ≡ rows_of links →
    ((q : EdgeKey) → same_key key q ≡ false → has_room after q ≡ true → has_room links q ≡ true) → is_some (refs_at refs key.to) ≡ true →
    AreRefsOf counts links refs → AreRefsOf counts after refs
refs_grown counts links after refs key rows less there are = record {
  exact = λ id. are.exact id ∙ ap (count_by (is_counted counts id)) (sym rows);
  room = λ q room. go q room (same_key key q) refl (λ apart. are.room q (less q apart room));
}
  where
    go : (q : EdgeKey) → has_room after q ≡ true → (b : Bool) → same_key key q ≡ b → (same_key key q ≡ false → is_some (refs_at refs q.to) ≡ true) → is_some (refs_at refs q.to) ≡ true
    go q room true is more = subst (λ (k : EdgeKey). is_some (refs_at refs k.to) ≡ true) (same_key_is key q is) there
    go q room false is more = more is

pub refs_put : (counts : ℕ → Bool) (row : EdgeRow) (links after : List Entry) (refs new : ℕ → List Count) (flag : Bool) → flag ≡ counts row.key.edge →
    rows_of after ≡ put_edge row (rows_of links) → find (has_key row.key) (rows_of links) ≡ None →
    ((q : EdgeKey) → has_room after q ≡ true → has_room links q ≡ true) →
    ((id : ℕ) → refs_of new id ≡ refs_of refs id + (if flag && nat_eq row.key.to id then 1 else 0)) →
    ((id : ℕ) → is_some (refs_at new id) ≡ is_some (refs_at refs id)) → AreRefsOf counts links refs → AreRefsOf counts after new
refs_put counts row links after refs new flag is rows free less more places are = record {
  exact = λ id.
      more id ∙ (ap (λ (n : ℕ). n + (if flag && nat_eq row.key.to id then 1 else 0)) (are.exact id)
      ∙ (ap (λ (b : Bool). count_by (is_counted counts id) (rows_of links) + (if b && nat_eq row.key.to id then 1 else 0)) is
      ∙ (sym (count_put (is_counted counts id) row (rows_of links) free) ∙ ap (count_by (is_counted counts id)) (sym rows))));
  room = λ q room. places q.to ∙ are.room q (less q room);
}

-- the row that is found under a key leads to that key's target
found_counts : (counts : ℕ → Bool) (key : EdgeKey) (id : ℕ) (found : Option EdgeRow) → ((row : EdgeRow) → found ≡ Some row → row.key ≡ key) →
    passes (is_counted counts id) found ≡ (row_counts counts found && nat_eq key.to id)
found_counts counts key id None at = refl
found_counts counts key id (Some row) at = ap (λ (k : EdgeKey). counts row.key.edge && nat_eq k.to id) (at row refl)

pub find_has : (key : EdgeKey) (xs : List EdgeRow) (row : EdgeRow) → find (has_key key) xs ≡ Some row → row.key ≡ key
find_has key [] row is = absurd (cc)
find_has key (x ∷ xs) row is = go (same_key x.key key) refl (find_has key xs row) is
  where
    go : (b : Bool) → same_key x.key key ≡ b → (find (has_key key) xs ≡ Some row → row.key ≡ key) → cond b (Some x) (find (has_key key) xs) ≡ Some row → row.key ≡ key
    go true same more is = let one : x ≡ row = cc in ap (λ (r : EdgeRow). r.key) (sym one) ∙ same_key_is x.key key same
    go false same more is = more is

-- the counts without an edge that was counted
pub exact_taken : (counts : ℕ → Bool) (key : EdgeKey) (links after : List Entry) (refs new : ℕ → List Count) (flag : Bool) →
    flag ≡ row_counts counts (find (has_key key) (rows_of links)) → Sorted links → rows_of after ≡ filter (is_other_edge key) (rows_of links) →
    ((id : ℕ) → refs_of refs id ≡ refs_of new id + (if flag && nat_eq key.to id then 1 else 0)) → AreRefsOf counts links refs →
    (id : ℕ) → refs_of new id ≡ count_by (is_counted counts id) (rows_of after)
exact_taken counts key links after refs new flag is sorted rows less are id =
    let f : EdgeRow → Bool = is_counted counts id in
    let one : count_by f (rows_of links) ≡ count_by f (filter (is_other_edge key) (rows_of links)) + (if passes f (find (has_key key) (rows_of links)) then 1 else 0) =
    count_take f key (rows_of links) (rows_rise links sorted) in
    let same : passes f (find (has_key key) (rows_of links)) ≡ (flag && nat_eq key.to id) =
    found_counts counts key id (find (has_key key) (rows_of links)) (λ row. find_has key (rows_of links) row)
    ∙ ap (λ (b : Bool). b && nat_eq key.to id) (sym is) in
    let two : refs_of refs id ≡ count_by f (rows_of links) = are.exact id in
    let three : refs_of refs id ≡ refs_of new id + (if flag && nat_eq key.to id then 1 else 0) = less id in
    let four : count_by f (filter (is_other_edge key) (rows_of links)) ≡ count_by f (rows_of after) = ap (count_by f) (sym rows) in
    cancel (refs_of new id) (count_by f (rows_of after)) (if flag && nat_eq key.to id then 1 else 0)
    (sym three ∙ (two ∙ (one ∙ (ap (λ (n : ℕ). n + (if passes f (find (has_key key) (rows_of links)) then 1 else 0)) four
    ∙ ap (λ (b : Bool). count_by f (rows_of after) + (if b then 1 else 0)) same))))
  where
    cancel : (a b n : ℕ) → a + n ≡ b + n → a ≡ b
    cancel a b n e = omega arith

-- nothing counts towards a target at which nothing stands
any_filter : {X : Type 0} (p : X → Bool) (xs : List X) → list_any p xs ≡ false → filter p xs ≡ []
any_filter p [] none = refl
any_filter p (x ∷ xs) none = go (p x) (any_filter p xs) none
  where
    go : (b : Bool) → (list_any p xs ≡ false → filter p xs ≡ []) → (b || list_any p xs) ≡ false → cond b (x ∷ filter p xs) (filter p xs) ≡ []
    go true more none = absurd (cc)
    go false more none = more none

count_under : (f p : EdgeRow → Bool) (xs : List EdgeRow) → ((x : EdgeRow) → f x ≡ true → p x ≡ true) → filter p xs ≡ [] → count_by f xs ≡ 0
count_under f p [] under none = refl
count_under f p (x ∷ xs) under none = go (f x) (p x) refl refl (count_under f p xs under) none
  where
    go : (a b : Bool) → f x ≡ a → p x ≡ b → (filter p xs ≡ [] → count_by f xs ≡ 0) → cond b (x ∷ filter p xs) (filter p xs) ≡ [] → count_by f (x ∷ xs) ≡ 0
    go a true fa pb more none = absurd (cc)
    go true false fa pb more none = let yes = under x fa in absurd (cc)
    go false false fa pb more none = let zero = more none in grind (arith, common_steps)

pub none_count : {spare : EdgeKey → Bool} (counts : ℕ → Bool) (links : List Entry) (order : ℕ → List Place) (id : ℕ) → Sorted links → IsOrderOf at_target spare links order → has_near order id ≡ false →
    count_by (is_counted counts id) (rows_of links) ≡ 0
none_count counts links order id sorted o none =
    count_under (is_counted counts id) (has_end (λ key. key.to) id) (rows_of links) (λ x yes. (and_parts (counts x.key.edge) (nat_eq x.key.to id) yes).1)
    (sym (near_rows links at_target (λ key. key.to) target_is id order sorted o)
    ∙ ap (λ (ps : List Place). filter_map (λ (place : Place). row_in links place.1) ps) (any_filter (is_near id) (order (id % 16)) none))

-- an edge that counts is counted
pub some_count : (counts : ℕ → Bool) (links : List Entry) (refs : ℕ → List Count) (key : EdgeKey) (found : Option EdgeRow) → AreRefsOf counts links refs →
    find (has_key key) (rows_of links) ≡ found → row_counts counts found ≡ true → 0 < refs_of refs key.to
some_count counts links refs key None are found counted = absurd (cc)
some_count counts links refs key (Some row) are found counted =
    let at = find_has key (rows_of links) row found in
    subst (λ (n : ℕ). 0 < n) (sym (are.exact key.to))
    (count_found (has_key key) (is_counted counts key.to) row (rows_of links) found
    (and_from (counts row.key.edge) (nat_eq row.key.to key.to) counted (eq-eqb row.key.to key.to (ap (λ (k : EdgeKey). k.to) at))))

-- each target of a key with room keeps its place, as long as a key stands there
pub refs_taken : {spare : EdgeKey → Bool} (counts : ℕ → Bool) (links after : List Entry) (order : ℕ → List Place) (refs middle new : ℕ → List Count) →
    ((q : EdgeKey) → has_room after q ≡ true → has_room links q ≡ true) → IsOrderOf at_target spare after order →
    ((id : ℕ) → refs_of middle id ≡ count_by (is_counted counts id) (rows_of after)) → ((id : ℕ) → is_some (refs_at middle id) ≡ is_some (refs_at refs id)) →
    ((id : ℕ) → refs_of new id ≡ refs_of middle id) → ((id : ℕ) → has_near order id ≡ true → is_some (refs_at new id) ≡ is_some (refs_at middle id)) →
    AreRefsOf counts links refs → AreRefsOf counts after new
refs_taken counts links after order refs middle new less o exact places same stay are = record {
  exact = λ id. same id ∙ exact id;
  room = λ q room. stay q.to (near_from_place order (at_target q) q (o.whole q room)) ∙ (places q.to ∙ are.room q (less q room));
}

-- no counts are those of no edges
pub refs_none : (counts : ℕ → Bool) (links : List Entry) (refs : ℕ → List Count) → links ≡ [] → ((n : ℕ) → refs n ≡ []) → AreRefsOf counts links refs
refs_none counts links refs no_links none = record {
  exact = λ id.
      ap (λ (found : List Count). count_in found id) (none (target_home id))
      ∙ sym (ap (λ (es : List Entry). count_by (is_counted counts id) (rows_of es)) no_links);
  room = λ key room. let no : has_room links key ≡ false = ap (λ (es : List Entry). has_room es key) no_links in absurd (cc);
}
