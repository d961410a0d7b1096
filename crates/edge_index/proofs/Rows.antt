-- The rows that a table of links makes, and what becomes of them as the table changes.
use Rattle.std.proofs.Common.{Less, Equal, Greater, ◌≡◌, Bool, true, false, cond, not, ◌||◌, Option, Some, None, List, [], ◌∷◌, refl, sym, ap, subst, ◌∙◌}
use Rattle.std.proofs.lemmas.Bool.{and_from}
use Rattle.std.proofs.lemmas.Map.Keys.{sorted_head, sorted_tail}
use Rattle.std.specs.Prelude.{find, filter, is_some}
use Rattle.std.specs.List.{AllByRecursion, list_any, cons_option}
use Rattle.std.specs.List.Sorted.{IsStrictlySortedBy}
use Rattle.std.specs.Map.{keys_of, set_value, remove_entry}
use Rattle.std.specs.BTreeMap.{is_at, insert_entry}
use Rattle.std.specs.declared.cmp.Ordering.{Ordering}
use Rattle.std.specs.Ordering.{is_eq, match_ordering}
use Rattle.delf_model.specs.declared.rows.EdgeRow.{EdgeRow}
use Rattle.delf_model.specs.declared.rows.EdgeKey.{EdgeKey}
use Rattle.delf_model.specs.Graph.{same_key, key_before, has_key, put_edge, is_other_edge, keys_rise_after, edges_rise}
use Rattle.delf_model.proofs.Graphs.{same_key_is, same_key_refl, same_key_sym}
use Rattle.edge_index.specs.declared.links.Link.{Link}
use Rattle.edge_index.specs.Keys.{edge_cmp}
use Rattle.edge_index.specs.Links.{Entry, row_of, link_of, rows_of, row_found, link_at, row_in, has_room}
use Rattle.edge_index.proofs.Keys.{edge_equal, edge_less}
use Rattle.edge_index.proofs.Rises.{find_above, put_first, put_later, filter_above, cond_yes, cond_no}

abbrev pub Sorted : List Entry → Type 0
Sorted es = IsStrictlySortedBy edge_cmp (keys_of es)

-- rows rise as their keys do

after_entry : (low key : EdgeKey) (link : Option Link) (rows : List EdgeRow) → key_before low key ≡ true → keys_rise_after key rows ≡ true →
    keys_rise_after low rows ≡ true → keys_rise_after low (cons_option (row_of key link) rows) ≡ true
after_entry low key None rows before above rest = rest
after_entry low key (Some link) rows before above rest = and_from (key_before low key) (keys_rise_after key rows) before above

pub rows_after : (low : EdgeKey) (es : List Entry) → AllByRecursion (λ key. edge_cmp low key ≡ Less) (keys_of es) → Sorted es →
    keys_rise_after low (rows_of es) ≡ true
rows_after low [] below sorted = refl
rows_after low (e ∷ es) below sorted =
    after_entry low e.0 e.1 (rows_of es) (edge_less low e.0 below.0) (rows_after e.0 es (sorted_head edge_cmp e.0 (keys_of es) sorted) (sorted_tail edge_cmp e.0 (keys_of es) sorted))
    (rows_after low es below.1 (sorted_tail edge_cmp e.0 (keys_of es) sorted))

rise_entry : (key : EdgeKey) (link : Option Link) (rows : List EdgeRow) → keys_rise_after key rows ≡ true → edges_rise rows ≡ true →
    edges_rise (cons_option (row_of key link) rows) ≡ true
rise_entry key None rows above rest = rest
rise_entry key (Some link) rows above rest = above

rows_above : (e : Entry) (es : List Entry) → Sorted (e ∷ es) → keys_rise_after e.0 (rows_of es) ≡ true
rows_above e es sorted = rows_after e.0 es (sorted_head edge_cmp e.0 (keys_of es) sorted) (sorted_tail edge_cmp e.0 (keys_of es) sorted)

pub rows_rise : (es : List Entry) → Sorted es → edges_rise (rows_of es) ≡ true
rows_rise [] sorted = refl
rows_rise (e ∷ es) sorted = rise_entry e.0 e.1 (rows_of es) (rows_above e es sorted) (rows_rise es (sorted_tail edge_cmp e.0 (keys_of es) sorted))

-- a row is found among them as in the table

found_here : (key : EdgeKey) (link : Option Link) (rows : List EdgeRow) → keys_rise_after key rows ≡ true →
    find (has_key key) (cons_option (row_of key link) rows) ≡ row_of key link
found_here key None rows above = find_above key rows above
found_here key (Some link) rows above =
    cond_yes (same_key key key) (Some (record { key = key; birth = link.birth; size = link.size })) (find (has_key key) rows) (same_key_refl key)

found_there : (key other : EdgeKey) (link : Option Link) (rows : List EdgeRow) → same_key other key ≡ false →
    find (has_key key) (cons_option (row_of other link) rows) ≡ find (has_key key) rows
found_there key other None rows apart = refl
found_there key other (Some link) rows apart =
    cond_no (same_key other key) (Some (record { key = other; birth = link.birth; size = link.size })) (find (has_key key) rows) apart

pub find_row : (es : List Entry) (key : EdgeKey) → Sorted es → find (has_key key) (rows_of es) ≡ row_in es key
find_row [] key sorted = refl
find_row (e ∷ es) key sorted =
    go (is_eq (edge_cmp key e.0)) (sym (edge_equal key e.0)) (rows_above e es sorted) (find_row es key (sorted_tail edge_cmp e.0 (keys_of es) sorted))
  where
    go : (b : Bool) → same_key key e.0 ≡ b → keys_rise_after e.0 (rows_of es) ≡ true → find (has_key key) (rows_of es) ≡ row_in es key →
        find (has_key key) (cons_option (row_of e.0 e.1) (rows_of es)) ≡ row_found key (cond b (Some e.1) (link_at es key))
    go true is above rest =
        let at : e.0 ≡ key = sym (same_key_is key e.0 is) in
        subst (λ (k : EdgeKey). find (has_key k) (cons_option (row_of e.0 e.1) (rows_of es)) ≡ row_of k e.1) at (found_here e.0 e.1 (rows_of es) above)
    go false is above rest = found_there key e.0 e.1 (rows_of es) (same_key_sym e.0 key ∙ is) ∙ rest

-- a key that the table has further on stands after this one

pub found_after : (low key : EdgeKey) (es : List Entry) → AllByRecursion (λ k. edge_cmp low k ≡ Less) (keys_of es) → has_room es key ≡ true → key_before low key ≡ true
found_after low key [] below room = absurd (cc)
found_after low key (e ∷ es) below room =
    go (is_eq (edge_cmp key e.0)) (sym (edge_equal key e.0)) (λ more. found_after low key es below.1 more) room
  where
    go : (b : Bool) → same_key key e.0 ≡ b → (has_room es key ≡ true → key_before low key ≡ true) → is_some (cond b (Some e.1) (link_at es key)) ≡ true →
        key_before low key ≡ true
    go true is more room = subst (λ (k : EdgeKey). key_before low k ≡ true) (sym (same_key_is key e.0 is)) (edge_less low e.0 below.0)
    go false is more room = more room

-- a link written at a free key puts its row

written_here : (row : EdgeRow) (key : EdgeKey) (link : Option Link) (rows : List EdgeRow) → key ≡ row.key → link ≡ None → keys_rise_after key rows ≡ true →
    cons_option (row_of key (Some (link_of row))) rows ≡ put_edge row (cons_option (row_of key link) rows)
written_here row key link rows at none above =
    let free : cons_option (row_of key link) rows ≡ rows = ap (λ (l : Option Link). cons_option (row_of key l) rows) none in
    ap (λ (k : EdgeKey). cons_option (row_of k (Some (link_of row))) rows) at
    ∙ (sym (put_first row rows (subst (λ (k : EdgeKey). keys_rise_after k rows ≡ true) at above)) ∙ ap (put_edge row) (sym free))

written_there : (row : EdgeRow) (key : EdgeKey) (link : Option Link) (rows after : List EdgeRow) → key_before key row.key ≡ true → after ≡ put_edge row rows →
    cons_option (row_of key link) after ≡ put_edge row (cons_option (row_of key link) rows)
written_there row key None rows after before is = is
written_there row key (Some link) rows after before is =
    let x : EdgeRow = record { key = key; birth = link.birth; size = link.size } in
    ap (λ (ys : List EdgeRow). x ∷ ys) is ∙ sym (put_later row x rows before)

pub rows_put : (row : EdgeRow) (es : List Entry) → Sorted es → link_at es row.key ≡ Some None →
    rows_of (set_value (is_at (edge_cmp row.key)) es (Some (link_of row))) ≡ put_edge row (rows_of es)
rows_put row [] sorted free = absurd (cc)
rows_put row (e ∷ es) sorted free =
    go (is_eq (edge_cmp row.key e.0)) (sym (edge_equal row.key e.0)) (rows_above e es sorted)
    (λ more. found_after e.0 row.key es (sorted_head edge_cmp e.0 (keys_of es) sorted) more)
    (rows_put row es (sorted_tail edge_cmp e.0 (keys_of es) sorted)) free
  where
    go : (b : Bool) → same_key row.key e.0 ≡ b → keys_rise_after e.0 (rows_of es) ≡ true → (has_room es row.key ≡ true → key_before e.0 row.key ≡ true) →
        (link_at es row.key ≡ Some None → rows_of (set_value (is_at (edge_cmp row.key)) es (Some (link_of row))) ≡ put_edge row (rows_of es)) →
        cond b (Some e.1) (link_at es row.key) ≡ Some None →
        rows_of (cond b ((e.0, Some (link_of row)) ∷ es) (e ∷ set_value (is_at (edge_cmp row.key)) es (Some (link_of row)))) ≡ put_edge row (cons_option (row_of e.0 e.1) (rows_of es))
    go true is above before more free = written_here row e.0 e.1 (rows_of es) (sym (same_key_is row.key e.0 is)) (cc) above
    go false is above before more free =
        written_there row e.0 e.1 (rows_of es) (rows_of (set_value (is_at (edge_cmp row.key)) es (Some (link_of row)))) (before (ap is_some free)) (more free)

-- an entry removed takes its row

removed_here : (key other : EdgeKey) (link : Option Link) (rows : List EdgeRow) → other ≡ key → keys_rise_after other rows ≡ true →
    rows ≡ filter (is_other_edge key) (cons_option (row_of other link) rows)
removed_here key other None rows at above = sym (filter_above key rows (subst (λ (k : EdgeKey). keys_rise_after k rows ≡ true) at above))
removed_here key other (Some link) rows at above =
    let x : EdgeRow = record { key = other; birth = link.birth; size = link.size } in
    let same : same_key other key ≡ true = subst (λ (k : EdgeKey). same_key other k ≡ true) at (same_key_refl other) in
    sym (cond_no (not (same_key other key)) (x ∷ filter (is_other_edge key) rows) (filter (is_other_edge key) rows) (ap not same)
    ∙ filter_above key rows (subst (λ (k : EdgeKey). keys_rise_after k rows ≡ true) at above))

removed_there : (key other : EdgeKey) (link : Option Link) (rows after : List EdgeRow) → same_key other key ≡ false → after ≡ filter (is_other_edge key) rows →
    cons_option (row_of other link) after ≡ filter (is_other_edge key) (cons_option (row_of other link) rows)
removed_there key other None rows after apart is = is
removed_there key other (Some link) rows after apart is =
    let x : EdgeRow = record { key = other; birth = link.birth; size = link.size } in
    ap (λ (ys : List EdgeRow). x ∷ ys) is
    ∙ sym (cond_yes (not (same_key other key)) (x ∷ filter (is_other_edge key) rows) (filter (is_other_edge key) rows) (ap not apart))

pub rows_take : (key : EdgeKey) (es : List Entry) → Sorted es → rows_of (remove_entry (is_at (edge_cmp key)) es) ≡ filter (is_other_edge key) (rows_of es)
rows_take key [] sorted = refl
rows_take key (e ∷ es) sorted =
    go (is_eq (edge_cmp key e.0)) (sym (edge_equal key e.0)) (rows_above e es sorted) (rows_take key es (sorted_tail edge_cmp e.0 (keys_of es) sorted))
  where
    go : (b : Bool) → same_key key e.0 ≡ b → keys_rise_after e.0 (rows_of es) ≡ true →
        rows_of (remove_entry (is_at (edge_cmp key)) es) ≡ filter (is_other_edge key) (rows_of es) →
        rows_of (cond b es (e ∷ remove_entry (is_at (edge_cmp key)) es)) ≡ filter (is_other_edge key) (cons_option (row_of e.0 e.1) (rows_of es))
    go true is above more = removed_here key e.0 e.1 (rows_of es) (sym (same_key_is key e.0 is)) above
    go false is above more = removed_there key e.0 e.1 (rows_of es) (rows_of (remove_entry (is_at (edge_cmp key)) es)) (same_key_sym e.0 key ∙ is) more

-- room made for a key brings no row

pub rows_ready : (key : EdgeKey) (es : List Entry) → link_at es key ≡ None → rows_of (insert_entry edge_cmp es key None) ≡ rows_of es
rows_ready key [] none = refl
rows_ready key (e ∷ es) none = go (edge_cmp key e.0) (λ rest. rows_ready key es rest) none
  where
    go : (o : Ordering) → (link_at es key ≡ None → rows_of (insert_entry edge_cmp es key None) ≡ rows_of es) → cond (is_eq o) (Some e.1) (link_at es key) ≡ None →
        rows_of (match_ordering o ((key, None) ∷ e ∷ es) ((e.0, None) ∷ es) (e ∷ insert_entry edge_cmp es key None)) ≡ cons_option (row_of e.0 e.1) (rows_of es)
    go Less more none = refl
    go Equal more none = absurd (cc)
    go Greater more none = ap (λ (rows : List EdgeRow). cons_option (row_of e.0 e.1) rows) (more none)

-- the keys of the table, as a test

pub room_is_ready : (key : EdgeKey) (es : List Entry) → list_any (same_key key) (keys_of es) ≡ has_room es key
room_is_ready key [] = refl
room_is_ready key (e ∷ es) = go (same_key key e.0) (is_eq (edge_cmp key e.0)) (edge_equal key e.0) (room_is_ready key es)
  where
    go : (a b : Bool) → b ≡ a → list_any (same_key key) (keys_of es) ≡ has_room es key →
        (a || list_any (same_key key) (keys_of es)) ≡ is_some (cond b (Some e.1) (link_at es key))
    go true true same rest = refl
    go false false same rest = rest
    go true false same rest = absurd (cc)
    go false true same rest = absurd (cc)

pub room_same : (before after : List Entry) → keys_of after ≡ keys_of before → (key : EdgeKey) → has_room after key ≡ true → has_room before key ≡ true
room_same before after keys key room =
    sym (room_is_ready key before) ∙ (ap (list_any (same_key key)) (sym keys) ∙ (room_is_ready key after ∙ room))
