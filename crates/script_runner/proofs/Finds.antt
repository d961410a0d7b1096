-- A row of the graph is the one that is found by its id or key, and its payload is read whole.
use Rattle.std.proofs.Common.{◌≡◌, ℕ, zero, suc, ◌<◌, ◌≤◌, min, Bool, true, false, cond, ltb, Option, Some, List, [], ◌∷◌, length, get_or, take, refl, sym, ap, subst, ◌∙◌, arith}
use Rattle.std.proofs.lemmas.Bool.{and_parts}
use Rattle.std.proofs.lemmas.Bool.Decides.{nat_tests}
use Rattle.std.proofs.lemmas.Grind.{common_steps}
use Rattle.std.proofs.lemmas.List.{take_all}
use Rattle.std.specs.Prelude.{find}
use Rattle.delf_model.specs.declared.rows.ObjectRow.{ObjectRow}
use Rattle.delf_model.specs.declared.rows.EdgeRow.{EdgeRow}
use Rattle.delf_model.specs.declared.rows.EdgeKey.{EdgeKey}
use Rattle.delf_model.specs.Graph.{Graph, object_at, edge_at, has_id, has_key, same_key, key_before, rises_after, objects_rise, keys_rise_after, edges_rise}
use Rattle.delf_model.specs.Payloads.{Payloads, payload_at}
use Rattle.delf_book.specs.Reads.{IsObjectAt, IsEdgeAt}

-- ids that rise

above_all : (low : ℕ) (rows : List ObjectRow) (k : ℕ) (row : ObjectRow) → rises_after low rows ≡ true → k < length rows → row ≡ get_or rows k row → low < row.id
above_all low [] k row rise below is = absurd (omega arith)
above_all low (x ∷ xs) zero row rise below is =
    let parts = and_parts (ltb low x.id) (rises_after x.id xs) rise in
    let same : row.id ≡ x.id = ap (λ (r : ObjectRow). r.id) is in grind (arith, nat_tests, parts.0)
above_all low (x ∷ xs) (suc k) row rise below is =
    let parts = and_parts (ltb low x.id) (rises_after x.id xs) rise in
    let first : low < x.id = grind (arith, nat_tests, parts.0) in
    let more : x.id < row.id = above_all x.id xs k row parts.1 (omega arith) is in omega arith

object_head : (x row : ObjectRow) (rest : Option ObjectRow) → row ≡ x → cond (has_id row.id x) (Some x) rest ≡ Some row
object_head x row rest is = subst (λ (r : ObjectRow). cond (has_id r.id x) (Some x) rest ≡ Some r) (sym is) (self x.id)
  where
    self : (n : ℕ) → cond (has_id n (record x { id = n })) (Some x) rest ≡ Some x
    self n = grind (arith, nat_tests)

object_tail : (x row : ObjectRow) (rest : Option ObjectRow) → x.id < row.id → rest ≡ Some row → cond (has_id row.id x) (Some x) rest ≡ Some row
object_tail x row rest less is = grind (arith, nat_tests)

rest_rises : (low : ℕ) (rows : List ObjectRow) → rises_after low rows ≡ true → objects_rise rows ≡ true
rest_rises low [] rise = refl
rest_rises low (x ∷ xs) rise = (and_parts (ltb low x.id) (rises_after x.id xs) rise).1

pub object_there : (rows : List ObjectRow) (k : ℕ) (row : ObjectRow) → objects_rise rows ≡ true → k < length rows → row ≡ get_or rows k row →
    find (has_id row.id) rows ≡ Some row
object_there [] k row rise below is = absurd (omega arith)
object_there (x ∷ xs) zero row rise below is = object_head x row (find (has_id row.id) xs) is
object_there (x ∷ xs) (suc k) row rise below is =
    object_tail x row (find (has_id row.id) xs) (above_all x.id xs k row rise (omega arith) is)
    (object_there xs k row (rest_rises x.id xs rise) (omega arith) is)

-- keys that rise

before_along : (a b c : EdgeKey) → key_before a b ≡ true → key_before b c ≡ true → key_before a c ≡ true
before_along a b c h k = grind (arith, nat_tests, common_steps)

before_differs : (a b : EdgeKey) → key_before a b ≡ true → same_key a b ≡ false
before_differs a b h = grind (arith, nat_tests, common_steps)

key_self : (a : EdgeKey) → same_key a a ≡ true
key_self a = grind (arith, nat_tests, common_steps)

keys_above : (low : EdgeKey) (rows : List EdgeRow) (k : ℕ) (row : EdgeRow) → keys_rise_after low rows ≡ true → k < length rows → row ≡ get_or rows k row →
    key_before low row.key ≡ true
keys_above low [] k row rise below is = absurd (omega arith)
keys_above low (x ∷ xs) zero row rise below is =
    subst (λ (r : EdgeRow). key_before low r.key ≡ true) (sym is) (and_parts (key_before low x.key) (keys_rise_after x.key xs) rise).0
keys_above low (x ∷ xs) (suc k) row rise below is =
    let parts = and_parts (key_before low x.key) (keys_rise_after x.key xs) rise in
    before_along low x.key row.key parts.0 (keys_above x.key xs k row parts.1 (omega arith) is)

keys_rest : (low : EdgeKey) (rows : List EdgeRow) → keys_rise_after low rows ≡ true → edges_rise rows ≡ true
keys_rest low [] rise = refl
keys_rest low (x ∷ xs) rise = (and_parts (key_before low x.key) (keys_rise_after x.key xs) rise).1

pub edge_there : (rows : List EdgeRow) (k : ℕ) (row : EdgeRow) → edges_rise rows ≡ true → k < length rows → row ≡ get_or rows k row →
    find (has_key row.key) rows ≡ Some row
edge_there [] k row rise below is = absurd (omega arith)
edge_there (x ∷ xs) zero row rise below is =
    subst (λ (r : EdgeRow). cond (same_key x.key r.key) (Some x) (find (has_key r.key) xs) ≡ Some r) (sym is)
    (ap (λ (b : Bool). cond b (Some x) (find (has_key x.key) xs)) (key_self x.key))
edge_there (x ∷ xs) (suc k) row rise below is =
    ap (λ (b : Bool). cond b (Some x) (find (has_key row.key) xs)) (before_differs x.key row.key (keys_above x.key xs k row rise (omega arith) is))
    ∙ edge_there xs k row (keys_rest x.key xs rise) (omega arith) is

-- payloads

pub object_bytes : (found : Option ObjectRow) (row : ObjectRow) (at n : ℕ) (e : Payloads) (bytes : List ℕ) → found ≡ Some row → IsObjectAt found at n →
    bytes ≡ payload_at e at → bytes ≡ payload_at e row.at
object_bytes found row at n e bytes there is said =
    let same : is.0 ≡ row = cc (there, is.1) in
    said ∙ ap (λ (p : ℕ). payload_at e p) (sym is.2 ∙ ap (λ (r : ObjectRow). r.at) same)

pub edge_bytes : (found : Option EdgeRow) (row : EdgeRow) (at n : ℕ) (e : Payloads) (bytes : List ℕ) → found ≡ Some row → IsEdgeAt found at n →
    bytes ≡ payload_at e at → bytes ≡ payload_at e row.birth
edge_bytes found row at n e bytes there is said =
    let same : is.0 ≡ row = cc (there, is.1) in
    said ∙ ap (λ (p : ℕ). payload_at e p) (sym is.2 ∙ ap (λ (r : EdgeRow). r.birth) same)

pub take_within : (n m : ℕ) (bytes : List ℕ) → length bytes ≡ m → take (min n m) bytes ≡ take n bytes
take_within n m bytes long = by_order (ltb m n) refl
  where
    by_order : (b : Bool) → ltb m n ≡ b → take (min n m) bytes ≡ take n bytes
    by_order true is =
        let more : m ≤ n = grind (arith, nat_tests) in
        let same : min n m ≡ m = omega arith in
        ap (λ (k : ℕ). take k bytes) same ∙ take_all m bytes (omega arith) ∙ sym (take_all n bytes (omega arith))
    by_order false is =
        let less : n ≤ m = grind (arith, nat_tests) in
        let same : min n m ≡ n = omega arith in
        ap (λ (k : ℕ). take k bytes) same

-- the row that is found by an id has it

hit_has : (x row : ObjectRow) (id : ℕ) (rest : Option ObjectRow) (b : Bool) → has_id id x ≡ b → (rest ≡ Some row → row.id ≡ id) → cond b (Some x) rest ≡ Some row → row.id ≡ id
hit_has x row id rest true hit later found =
    let same : x ≡ row = cc found in
    let here : x.id ≡ id = grind (arith, nat_tests) in
    sym (ap (λ (r : ObjectRow). r.id) same) ∙ here
hit_has x row id rest false hit later found = later found

found_has : (rows : List ObjectRow) (id : ℕ) (row : ObjectRow) → find (has_id id) rows ≡ Some row → row.id ≡ id
found_has [] id row is = absurd (cc is)
found_has (x ∷ xs) id row is = hit_has x row id (find (has_id id) xs) (has_id id x) refl (found_has xs id row) is

pub found_as : (g : Graph) (id : ℕ) (row : ObjectRow) → object_at g id ≡ Some row → row.id ≡ id
found_as g id row is = found_has g.objects id row is

pub found_id : (g : Graph) (id : ℕ) (row : ObjectRow) → object_at g id ≡ Some row → object_at g row.id ≡ Some row
found_id g id row is = ap (λ (n : ℕ). object_at g n) (found_as g id row is) ∙ is

-- a row of the list that a graph gives

pub object_listed : (g h : Graph) (rows xs : List ObjectRow) (k : ℕ) (row : ObjectRow) → h ≡ g → rows ≡ g.objects → xs ≡ rows → objects_rise rows ≡ true → k < length xs →
    row ≡ get_or xs k row → object_at h row.id ≡ Some row
object_listed g h rows xs k row same rows_are xs_are rise below is =
    ap (λ (x : Graph). object_at x row.id) same ∙ ap (λ (ys : List ObjectRow). find (has_id row.id) ys) (sym rows_are ∙ sym xs_are)
    ∙ object_there xs k row (subst (λ (ys : List ObjectRow). objects_rise ys ≡ true) (sym xs_are) rise) below is

pub edge_listed : (g h : Graph) (rows xs : List EdgeRow) (k : ℕ) (row : EdgeRow) → h ≡ g → rows ≡ g.edges → xs ≡ rows → edges_rise rows ≡ true → k < length xs →
    row ≡ get_or xs k row → edge_at h row.key ≡ Some row
edge_listed g h rows xs k row same rows_are xs_are rise below is =
    ap (λ (x : Graph). edge_at x row.key) same ∙ ap (λ (ys : List EdgeRow). find (has_key row.key) ys) (sym rows_are ∙ sym xs_are)
    ∙ edge_there xs k row (subst (λ (ys : List EdgeRow). edges_rise ys ≡ true) (sym xs_are) rise) below is
