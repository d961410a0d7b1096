-- The rows that stand at one end, as those of all edges that have it.
use Rattle.std.proofs.Common.{Less, ◌≡◌, ◌%◌, ℕ, Bool, true, false, cond, ◌&&◌, Option, Some, None, List, [], ◌∷◌, refl, sym, ap, subst, ◌∙◌}
use Rattle.std.proofs.lemmas.Bool.{and_from, eqb-true}
use Rattle.std.proofs.lemmas.Map.Keys.{sorted_head, sorted_tail}
use Rattle.std.specs.Prelude.{find, filter, is_some, nat_eq}
use Rattle.std.specs.List.{AllByRecursion, filter_map, cons_option}
use Rattle.std.specs.List.Sorted.{IsStrictlySortedBy}
use Rattle.std.specs.Map.{keys_of}
use Rattle.std.specs.Ordering.{is_eq}
use Rattle.delf_model.specs.declared.rows.EdgeRow.{EdgeRow}
use Rattle.delf_model.specs.declared.rows.EdgeKey.{EdgeKey}
use Rattle.delf_model.specs.Graph.{same_key, key_before, has_key, keys_rise_after, edges_rise}
use Rattle.delf_model.proofs.Graphs.{same_key_is, same_key_refl, same_key_sym}
use Rattle.edge_index.specs.declared.ends.EndKey.{EndKey}
use Rattle.edge_index.specs.declared.links.Link.{Link}
use Rattle.edge_index.specs.Links.{Entry, rows_of, row_found, link_at, row_in}
use Rattle.edge_index.specs.Ends.{Place, end_cmp, is_near, place_in, rows_in, rows_near, stands_at, IsOrderOf}
use Rattle.edge_index.proofs.Keys.{IsEnd}
use Rattle.edge_index.proofs.Rises.{cond_yes, cond_no, rows_one, rises_filter}
use Rattle.edge_index.proofs.Rows.{Sorted, find_row, rows_rise}

-- a row in the table has the key that it is looked up by
row_has : (key : EdgeKey) (link : Option (Option Link)) (row : EdgeRow) → row_found key link ≡ Some row → row.key ≡ key
row_has key None row is = absurd (cc)
row_has key (Some None) row is = absurd (cc)
row_has key (Some (Some link)) row is =
    let made : EdgeRow = record { key = key; birth = link.birth; size = link.size } in
    let same : made ≡ row = cc in ap (λ (r : EdgeRow). r.key) (sym same)

find_cons : (key other : EdgeKey) (found : Option EdgeRow) (rows : List EdgeRow) → ((row : EdgeRow) → found ≡ Some row → row.key ≡ other) → same_key other key ≡ false →
    find (has_key key) (cons_option found rows) ≡ find (has_key key) rows
find_cons key other None rows at apart = refl
find_cons key other (Some row) rows at apart =
    cond_no (same_key row.key key) (Some row) (find (has_key key) rows) (ap (λ (k : EdgeKey). same_key k key) (at row refl) ∙ apart)

find_cons_here : (key : EdgeKey) (found : Option EdgeRow) (rows : List EdgeRow) (b : Bool) → ((row : EdgeRow) → found ≡ Some row → row.key ≡ key) →
    find (has_key key) rows ≡ cond b found None → find (has_key key) (cons_option found rows) ≡ found
find_cons_here key None rows true at rest = rest
find_cons_here key None rows false at rest = rest
find_cons_here key (Some row) rows b at rest =
    cond_yes (same_key row.key key) (Some row) (find (has_key key) rows) (ap (λ (k : EdgeKey). same_key k key) (at row refl) ∙ same_key_refl key)

cond_same : {A : Type 0} (b : Bool) (x : A) → cond b x x ≡ x
cond_same true x = refl
cond_same false x = refl

abbrev row_at_place : List Entry → Place → Option EdgeRow
row_at_place links place = row_in links place.1

near_here : (links : List Entry) (key : EdgeKey) (p : Place) (ps : List Place) (close mine there : Bool) → p.1 ≡ key → close ≡ mine →
    find (has_key key) (filter_map (row_at_place links) ps) ≡ cond (mine && there) (row_in links key) None →
    find (has_key key) (filter_map (row_at_place links) (cond close (p ∷ ps) ps)) ≡ cond (mine && true) (row_in links key) None
near_here links key p ps true true there at far more =
    ap (λ (k : EdgeKey). find (has_key key) (cons_option (row_in links k) (filter_map (row_at_place links) ps))) at
    ∙ find_cons_here key (row_in links key) (filter_map (row_at_place links) ps) there (λ row. row_has key (link_at links key) row) more
near_here links key p ps true false there at far more = absurd (cc)
near_here links key p ps false true there at far more = absurd (cc)
near_here links key p ps false false there at far more = more

near_there : (links : List Entry) (key : EdgeKey) (p : Place) (ps : List Place) (close : Bool) → same_key p.1 key ≡ false →
    find (has_key key) (filter_map (row_at_place links) (cond close (p ∷ ps) ps)) ≡ find (has_key key) (filter_map (row_at_place links) ps)
near_there links key p ps true apart =
    find_cons key p.1 (row_in links p.1) (filter_map (row_at_place links) ps) (λ row. row_has p.1 (link_at links p.1) row) apart
near_there links key p ps false apart = refl

no_place : (b : Bool) (found : Option EdgeRow) → None ≡ cond (b && false) found None
no_place true found = refl
no_place false found = refl

-- what is found among the rows at an end: the row of a key that stands there
find_near : (links : List Entry) (end : EdgeKey → EndKey) (near : EdgeKey → ℕ) → IsEnd end near → (id : ℕ) (order : List Place) → AllByRecursion (stands_at end) order →
    (key : EdgeKey) → find (has_key key) (rows_in links order id) ≡ cond (nat_eq (near key) id && is_some (place_in order (end key))) (row_in links key) None
find_near links end near is id [] places key = no_place (nat_eq (near key) id) (row_in links key)
find_near links end near is id (p ∷ ps) places key =
    go (same_key key p.1) (is_eq (end_cmp (end key) p.0)) refl
    (ap (λ (q : EndKey). is_eq (end_cmp (end key) q)) places.0 ∙ is.one key p.1)
    (ap (λ (q : EndKey). nat_eq q.near id) places.0 ∙ ap (λ (n : ℕ). nat_eq n id) (is.near_is p.1))
    (find_near links end near is id ps places.1 key)
  where
    go : (same hit : Bool) → same_key key p.1 ≡ same → hit ≡ same_key key p.1 → is_near id p ≡ nat_eq (near p.1) id →
        find (has_key key) (rows_in links ps id) ≡ cond (nat_eq (near key) id && is_some (place_in ps (end key))) (row_in links key) None →
        find (has_key key) (rows_in links (p ∷ ps) id) ≡ cond (nat_eq (near key) id && is_some (cond hit (Some p.1) (place_in ps (end key)))) (row_in links key) None
    go true true one at far more =
        let key_is : p.1 ≡ key = sym (same_key_is key p.1 one) in
        near_here links key p (filter (is_near id) ps) (is_near id p) (nat_eq (near key) id) (is_some (place_in ps (end key))) key_is
        (far ∙ ap (λ (k : EdgeKey). nat_eq (near k) id) key_is) more
    go false false one at far more = near_there links key p (filter (is_near id) ps) (is_near id p) (same_key_sym p.1 key ∙ one) ∙ more
    go true false one at far more = absurd (cc)
    go false true one at far more = absurd (cc)

-- they rise, since the order goes by the end first

after_place : (links : List Entry) (low key : EdgeKey) (rows : List EdgeRow) → (found : Option EdgeRow) → ((row : EdgeRow) → found ≡ Some row → row.key ≡ key) →
    key_before low key ≡ true → keys_rise_after key rows ≡ true → keys_rise_after low rows ≡ true → keys_rise_after low (cons_option found rows) ≡ true
after_place links low key rows None at before above rest = rest
after_place links low key rows (Some row) at before above rest =
    let is = sym (at row refl) in
    and_from (key_before low row.key) (keys_rise_after row.key rows) (subst (λ (k : EdgeKey). key_before low k ≡ true) is before)
    (subst (λ (k : EdgeKey). keys_rise_after k rows ≡ true) is above)

near_after : (links : List Entry) (end : EdgeKey → EndKey) (near : EdgeKey → ℕ) → IsEnd end near → (id : ℕ) (low : EdgeKey) → near low ≡ id → (order : List Place) →
    AllByRecursion (stands_at end) order → AllByRecursion (λ place. end_cmp (end low) place ≡ Less) (keys_of order) → IsStrictlySortedBy end_cmp (keys_of order) →
    keys_rise_after low (rows_in links order id) ≡ true
near_after links end near is id low at [] places below sorted = refl
near_after links end near is id low at (p ∷ ps) places below sorted =
    go (is_near id p) refl
    (near_after links end near is id low at ps places.1 below.1 (sorted_tail end_cmp p.0 (keys_of ps) sorted))
    (λ mine. near_after links end near is id p.1 mine ps places.1
    (subst (λ (q : EndKey). AllByRecursion (λ place. end_cmp q place ≡ Less) (keys_of ps)) places.0 (sorted_head end_cmp p.0 (keys_of ps) sorted))
    (sorted_tail end_cmp p.0 (keys_of ps) sorted))
  where
    go : (close : Bool) → is_near id p ≡ close → keys_rise_after low (rows_in links ps id) ≡ true →
        (near p.1 ≡ id → keys_rise_after p.1 (rows_in links ps id) ≡ true) →
        keys_rise_after low (filter_map (row_at_place links) (cond close (p ∷ filter (is_near id) ps) (filter (is_near id) ps))) ≡ true
    go false far rest above = rest
    go true far rest above =
        let mine : near p.1 ≡ id = sym (is.near_is p.1) ∙ (ap (λ (q : EndKey). q.near) (sym places.0) ∙ eqb-true p.0.near id far) in
        let less : end_cmp (end low) (end p.1) ≡ Less = subst (λ (q : EndKey). end_cmp (end low) q ≡ Less) places.0 below.0 in
        after_place links low p.1 (rows_in links ps id) (row_in links p.1) (λ row. row_has p.1 (link_at links p.1) row)
        (is.less low p.1 less (at ∙ sym mine)) (above mine) rest

rise_place : (key : EdgeKey) (rows : List EdgeRow) → (found : Option EdgeRow) → ((row : EdgeRow) → found ≡ Some row → row.key ≡ key) →
    keys_rise_after key rows ≡ true → edges_rise rows ≡ true → edges_rise (cons_option found rows) ≡ true
rise_place key rows None at above rest = rest
rise_place key rows (Some row) at above rest = subst (λ (k : EdgeKey). keys_rise_after k rows ≡ true) (sym (at row refl)) above

near_rises : (links : List Entry) (end : EdgeKey → EndKey) (near : EdgeKey → ℕ) → IsEnd end near → (id : ℕ) (order : List Place) →
    AllByRecursion (stands_at end) order → IsStrictlySortedBy end_cmp (keys_of order) → edges_rise (rows_in links order id) ≡ true
near_rises links end near is id [] places sorted = refl
near_rises links end near is id (p ∷ ps) places sorted =
    go (is_near id p) refl (near_rises links end near is id ps places.1 (sorted_tail end_cmp p.0 (keys_of ps) sorted))
    (λ mine. near_after links end near is id p.1 mine ps places.1
    (subst (λ (q : EndKey). AllByRecursion (λ place. end_cmp q place ≡ Less) (keys_of ps)) places.0 (sorted_head end_cmp p.0 (keys_of ps) sorted))
    (sorted_tail end_cmp p.0 (keys_of ps) sorted))
  where
    go : (close : Bool) → is_near id p ≡ close → edges_rise (rows_in links ps id) ≡ true →
        (near p.1 ≡ id → keys_rise_after p.1 (rows_in links ps id) ≡ true) →
        edges_rise (filter_map (row_at_place links) (cond close (p ∷ filter (is_near id) ps) (filter (is_near id) ps))) ≡ true
    go false far rest above = rest
    go true far rest above =
        let mine : near p.1 ≡ id = sym (is.near_is p.1) ∙ (ap (λ (q : EndKey). q.near) (sym places.0) ∙ eqb-true p.0.near id far) in
        rise_place p.1 (rows_in links ps id) (row_in links p.1) (λ row. row_has p.1 (link_at links p.1) row) (above mine) rest

-- the edges that have an end, among all

abbrev pub has_end : (EdgeKey → ℕ) → ℕ → EdgeRow → Bool
has_end near id row = nat_eq (near row.key) id

find_having : (near : EdgeKey → ℕ) (id : ℕ) (key : EdgeKey) (xs : List EdgeRow) →
    find (has_key key) (filter (has_end near id) xs) ≡ cond (nat_eq (near key) id) (find (has_key key) xs) None
find_having near id key [] = sym (cond_same (nat_eq (near key) id) None)
find_having near id key (x ∷ xs) = go (nat_eq (near x.key) id) (same_key x.key key) refl refl (find_having near id key xs)
  where
    go : (mine same : Bool) → nat_eq (near x.key) id ≡ mine → same_key x.key key ≡ same →
        find (has_key key) (filter (has_end near id) xs) ≡ cond (nat_eq (near key) id) (find (has_key key) xs) None →
        find (has_key key) (cond mine (x ∷ filter (has_end near id) xs) (filter (has_end near id) xs)) ≡ cond (nat_eq (near key) id) (cond same (Some x) (find (has_key key) xs)) None
    go true true far one more =
        let mine : nat_eq (near key) id ≡ true = subst (λ (k : EdgeKey). nat_eq (near k) id ≡ true) (same_key_is x.key key one) far in
        cond_yes (same_key x.key key) (Some x) (find (has_key key) (filter (has_end near id) xs)) one
        ∙ sym (cond_yes (nat_eq (near key) id) (Some x) None mine)
    go true false far one more = cond_no (same_key x.key key) (Some x) (find (has_key key) (filter (has_end near id) xs)) one ∙ more
    go false true far one more =
        let mine : nat_eq (near key) id ≡ false = subst (λ (k : EdgeKey). nat_eq (near k) id ≡ false) (same_key_is x.key key one) far in
        more ∙ (cond_no (nat_eq (near key) id) (find (has_key key) xs) None mine ∙ sym (cond_no (nat_eq (near key) id) (Some x) None mine))
    go false false far one more = more

both_ways : (mine there : Bool) (found : Option EdgeRow) → (mine ≡ true → is_some found ≡ true → there ≡ true) → cond (mine && there) found None ≡ cond mine found None
both_ways true true found whole = refl
both_ways true false None whole = refl
both_ways true false (Some row) whole = absurd (cc (whole refl refl))
both_ways false there found whole = refl

room_of_row : (key : EdgeKey) (link : Option (Option Link)) → is_some (row_found key link) ≡ true → is_some link ≡ true
room_of_row key None some = absurd (cc)
room_of_row key (Some link) some = refl

-- the rows at an end are those of all edges that have it
pub near_rows : {spare : EdgeKey → Bool} (links : List Entry) (end : EdgeKey → EndKey) (near : EdgeKey → ℕ) → IsEnd end near → (id : ℕ) (order : ℕ → List Place) →
    Sorted links → IsOrderOf end spare links order → rows_near links order id ≡ filter (has_end near id) (rows_of links)
near_rows links end near is id order sorted o =
    rows_one (rows_near links order id) (filter (has_end near id) (rows_of links)) (near_rises links end near is id (order (id % 16)) (o.places (id % 16)) (o.rise (id % 16)))
    (rises_filter (has_end near id) (rows_of links) (rows_rise links sorted))
    (λ key. find_near links end near is id (order (id % 16)) (o.places (id % 16)) key
    ∙ (both_ways (nat_eq (near key) id) (is_some (place_in (order (id % 16)) (end key))) (row_in links key) (λ mine some. there key mine some)
    ∙ sym (find_having near id key (rows_of links) ∙ ap (λ (found : Option EdgeRow). cond (nat_eq (near key) id) found None) (find_row links key sorted))))
  where
    there : (key : EdgeKey) → nat_eq (near key) id ≡ true → is_some (row_in links key) ≡ true → is_some (place_in (order (id % 16)) (end key)) ≡ true
    there key mine some =
        ap (λ (n : ℕ). is_some (place_in (order (n % 16)) (end key))) (sym (is.near_is key ∙ eqb-true (near key) id mine))
        ∙ ap is_some (o.whole key (room_of_row key (link_at links key) some))
