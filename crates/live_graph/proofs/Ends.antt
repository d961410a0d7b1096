-- Each edge still has both its ends after a change.
use Rattle.std.proofs.Common.{◌≡◌, ℕ, Bool, true, false, cond, ◌||◌, eqb, map, Option, Some, None, List, [], ◌∷◌, refl, ap, ◌∙◌, arith}
use Rattle.std.proofs.lemmas.Bool.Decides.{nat_tests}
use Rattle.std.proofs.lemmas.Bool.{and_parts, and_from}
use Rattle.std.specs.Prelude.{find, filter, is_some}
use Rattle.std.specs.Option.{option_map}
use Rattle.std.specs.List.{list_any}
use Rattle.delf_model.specs.declared.rows.ObjectRow.{ObjectRow}
use Rattle.delf_model.specs.declared.rows.EdgeRow.{EdgeRow}
use Rattle.delf_model.specs.declared.rows.EdgeKey.{EdgeKey}
use Rattle.delf_model.specs.Graph.{has_id, same_key, key_before, put_object, put_edge, is_other_object, is_other_edge, rewritten, touches_row}
use Rattle.delf_model.proofs.Graphs.{find-put_object, find-filter_object, find-rewritten}
use Rattle.live_graph.specs.Ends.{has_row, has_ends, all_have_ends}

-- other objects hold the ends of each edge too, where they hold those ids that are ends
ends_among : (objects others : List ObjectRow) (edges : List EdgeRow) →
    ((row : EdgeRow) → has_ends objects row ≡ true → has_ends others row ≡ true) →
    all_have_ends objects edges ≡ true → all_have_ends others edges ≡ true
ends_among objects others [] more all = refl
ends_among objects others (row ∷ rows) more all =
    let parts = and_parts (has_ends objects row) (all_have_ends objects rows) all in
    and_from (has_ends others row) (all_have_ends others rows) (more row parts.0) (ends_among objects others rows more parts.1)

both_ends : (objects others : List ObjectRow) (row : EdgeRow) → (has_row objects row.key.from ≡ true → has_row others row.key.from ≡ true) →
    (has_row objects row.key.to ≡ true → has_row others row.key.to ≡ true) → has_ends objects row ≡ true → has_ends others row ≡ true
both_ends objects others row from to ends =
    let parts = and_parts (has_row objects row.key.from) (has_row objects row.key.to) ends in
    and_from (has_row others row.key.from) (has_row others row.key.to) (from parts.0) (to parts.1)

some_put : (b : Bool) (row : ObjectRow) (found : Option ObjectRow) → is_some found ≡ true → is_some (cond b (Some row) found) ≡ true
some_put true row found is = refl
some_put false row found is = is

has_row_put : (row : ObjectRow) (objects : List ObjectRow) (id : ℕ) → has_row objects id ≡ true → has_row (put_object row objects) id ≡ true
has_row_put row objects id has =
    ap (λ (found : Option ObjectRow). is_some found) (find-put_object row objects id) ∙ some_put (eqb row.id id) row (find (has_id id) objects) has

pub ends_put_object : (row : ObjectRow) (objects : List ObjectRow) (edges : List EdgeRow) → all_have_ends objects edges ≡ true →
    all_have_ends (put_object row objects) edges ≡ true
ends_put_object row objects edges all = ends_among objects (put_object row objects) edges
    (λ edge. both_ends objects (put_object row objects) edge (has_row_put row objects edge.key.from) (has_row_put row objects edge.key.to)) all

some_map : (f : ObjectRow → ObjectRow) (found : Option ObjectRow) → is_some found ≡ true → is_some (option_map f found) ≡ true
some_map f None is = is
some_map f (Some row) is = refl

has_row_rewritten : (id at size : ℕ) (objects : List ObjectRow) (other : ℕ) → has_row objects other ≡ true → has_row (map (rewritten id at size) objects) other ≡ true
has_row_rewritten id at size objects other has =
    ap (λ (found : Option ObjectRow). is_some found) (find-rewritten id at size objects other) ∙ some_map (rewritten id at size) (find (has_id other) objects) has

pub ends_rewritten : (id at size : ℕ) (objects : List ObjectRow) (edges : List EdgeRow) → all_have_ends objects edges ≡ true →
    all_have_ends (map (rewritten id at size) objects) edges ≡ true
ends_rewritten id at size objects edges all = ends_among objects (map (rewritten id at size) objects) edges
    (λ edge. both_ends objects (map (rewritten id at size) objects) edge (has_row_rewritten id at size objects edge.key.from) (has_row_rewritten id at size objects edge.key.to)) all

kept_some : (gone : Bool) (found : Option ObjectRow) → gone ≡ false → is_some found ≡ true → is_some (cond gone None found) ≡ true
kept_some true found other is = absurd (cc)
kept_some false found other is = is

has_row_filter : (id : ℕ) (objects : List ObjectRow) (other : ℕ) → eqb other id ≡ false → has_row objects other ≡ true →
    has_row (filter (is_other_object id) objects) other ≡ true
has_row_filter id objects other differs has =
    let flipped : eqb id other ≡ false = grind (arith, nat_tests) in
    ap (λ (found : Option ObjectRow). is_some found) (find-filter_object id objects other) ∙ kept_some (eqb id other) (find (has_id other) objects) flipped has

neither : (a b : Bool) → (a || b) ≡ false → (a ≡ false) × (b ≡ false)
neither true b h = absurd (cc)
neither false b h = (refl, h)

pub ends_filter_object : (id : ℕ) (objects : List ObjectRow) (edges : List EdgeRow) → list_any (touches_row id) edges ≡ false →
    all_have_ends objects edges ≡ true → all_have_ends (filter (is_other_object id) objects) edges ≡ true
ends_filter_object id objects [] untouched all = refl
ends_filter_object id objects (row ∷ rows) untouched all =
    let parts = and_parts (has_ends objects row) (all_have_ends objects rows) all in
    let free = neither (touches_row id row) (list_any (touches_row id) rows) untouched in
    let apart = neither (eqb row.key.from id) (eqb row.key.to id) free.0 in
    and_from (has_ends (filter (is_other_object id) objects) row) (all_have_ends (filter (is_other_object id) objects) rows)
    (both_ends objects (filter (is_other_object id) objects) row (has_row_filter id objects row.key.from apart.0) (has_row_filter id objects row.key.to apart.1) parts.0)
    (ends_filter_object id objects rows free.1 parts.1)

ends_cond : (b : Bool) (objects : List ObjectRow) (xs ys : List EdgeRow) → all_have_ends objects xs ≡ true → all_have_ends objects ys ≡ true →
    all_have_ends objects (cond b xs ys) ≡ true
ends_cond true objects xs ys one other = one
ends_cond false objects xs ys one other = other

pub ends_put_edge : (row : EdgeRow) (objects : List ObjectRow) (edges : List EdgeRow) → has_row objects row.key.from ≡ true → has_row objects row.key.to ≡ true →
    all_have_ends objects edges ≡ true → all_have_ends objects (put_edge row edges) ≡ true
ends_put_edge row objects [] from to all = and_from (has_ends objects row) true (and_from (has_row objects row.key.from) (has_row objects row.key.to) from to) refl
ends_put_edge row objects (x ∷ xs) from to all =
    let parts = and_parts (has_ends objects x) (all_have_ends objects xs) all in
    let new : has_ends objects row ≡ true = and_from (has_row objects row.key.from) (has_row objects row.key.to) from to in
    ends_cond (key_before row.key x.key) objects (row ∷ (x ∷ xs)) (cond (same_key row.key x.key) (row ∷ xs) (x ∷ put_edge row xs))
    (and_from (has_ends objects row) (all_have_ends objects (x ∷ xs)) new all)
    (ends_cond (same_key row.key x.key) objects (row ∷ xs) (x ∷ put_edge row xs)
    (and_from (has_ends objects row) (all_have_ends objects xs) new parts.1)
    (and_from (has_ends objects x) (all_have_ends objects (put_edge row xs)) parts.0 (ends_put_edge row objects xs from to parts.1)))

pub ends_filter_edge : (key : EdgeKey) (objects : List ObjectRow) (edges : List EdgeRow) → all_have_ends objects edges ≡ true →
    all_have_ends objects (filter (is_other_edge key) edges) ≡ true
ends_filter_edge key objects [] all = refl
ends_filter_edge key objects (x ∷ xs) all =
    let parts = and_parts (has_ends objects x) (all_have_ends objects xs) all in
    ends_cond (is_other_edge key x) objects (x ∷ filter (is_other_edge key) xs) (filter (is_other_edge key) xs)
    (and_from (has_ends objects x) (all_have_ends objects (filter (is_other_edge key) xs)) parts.0 (ends_filter_edge key objects xs parts.1))
    (ends_filter_edge key objects xs parts.1)
