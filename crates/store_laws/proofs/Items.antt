-- The items after an entry: those from before it, and what it logs.
use Rattle.std.proofs.Common.{◌≡◌, ℕ, zero, suc, ◌+◌, ◌≤◌, List, [], ◌∷◌, ◌++◌, length, take, drop, Option, Some, None, refl, sym, ap, ◌∙◌, arith}
use Rattle.std.proofs.lemmas.List.{take_at, drop_at, take_all, drop_all, take-append-drop}
use Rattle.std.specs.Prelude.{map, slice_get}
use Rattle.delf_model.specs.declared.rows.ObjectRow.{ObjectRow}
use Rattle.delf_model.specs.declared.rows.EdgeRow.{EdgeRow}
use Rattle.delf_model.specs.declared.rows.Item.{Item}
use Rattle.delf_model.specs.declared.entry.Entry.{Entry}
use Rattle.delf_model.specs.declared.entry.What.{What}
use Rattle.delf_model.specs.declared.entry.What.TheVariants.{Cut, Erase, Put}
use Rattle.delf_model.specs.Graph.{object_at, edge_at}
use Rattle.delf_model.specs.State.{State, Logged, Handled}
use Rattle.delf_model.specs.Step.{step, run, items_after, handled_at, outcome, edge_item, object_item}
use Rattle.delf_model.specs.Owners.{key_of}
use Rattle.entry_codec.specs.ItemHead.{item_head}
use Rattle.payload_laws.specs.Holders.{record_size, position_taken}
use Rattle.store_laws.specs.Stores.{item_heads, logged_size, record_sizes}
use Rattle.store_laws.specs.Moves.{new_items}

abbrev pub item_in : Logged → Item
item_in logged = logged.item

-- heads and sizes read the items alone

pub item_heads_same : (xs ys : List Logged) (seals : List (List ℕ)) → map item_in xs ≡ map item_in ys → item_heads xs seals ≡ item_heads ys seals
item_heads_same [] [] seals same = refl
item_heads_same [] (y ∷ ys) seals same = absurd (cc same)
item_heads_same (x ∷ xs) [] seals same = absurd (cc same)
item_heads_same (x ∷ xs) (y ∷ ys) [] same = refl
item_heads_same (x ∷ xs) (y ∷ ys) (seal ∷ seals) same =
    let first : x.item ≡ y.item = cc same in
    let rest : map item_in xs ≡ map item_in ys = cc same in
    ap (λ (it : Item). item_head it seal ∷ item_heads xs seals) first ∙ ap (λ (l : List (List ℕ)). item_head y.item seal ∷ l) (item_heads_same xs ys seals rest)

pub sizes_same : (xs ys : List Logged) → map item_in xs ≡ map item_in ys → map logged_size xs ≡ map logged_size ys
sizes_same [] [] same = refl
sizes_same [] (y ∷ ys) same = absurd (cc same)
sizes_same (x ∷ xs) [] same = absurd (cc same)
sizes_same (x ∷ xs) (y ∷ ys) same =
    let first : x.item ≡ y.item = cc same in
    let rest : map item_in xs ≡ map item_in ys = cc same in
    cc (sizes_same xs ys rest)

pub item_heads-append : (xs ys : List Logged) (seals more : List (List ℕ)) → length xs ≡ length seals → item_heads (xs ++ ys) (seals ++ more) ≡ item_heads xs seals ++ item_heads ys more
item_heads-append [] ys [] more same = refl
item_heads-append [] ys (seal ∷ seals) more same = absurd (omega (arith, same))
item_heads-append (x ∷ xs) ys [] more same = absurd (omega (arith, same))
item_heads-append (x ∷ xs) ys (seal ∷ seals) more same =
    ap (λ (l : List (List ℕ)). item_head x.item seal ∷ l) (item_heads-append xs ys seals more (omega (arith, same)))

-- what stands of the items, and what is new

handled_length : (xs : List Logged) (i : ℕ) (how : Handled) → length (handled_at xs i how) ≡ length xs
handled_length [] i how = refl
handled_length (x ∷ xs) zero how = refl
handled_length (x ∷ xs) (suc i) how = ap (λ (n : ℕ). suc n) (handled_length xs i how)

handled_items : (xs : List Logged) (i : ℕ) (how : Handled) → map item_in (handled_at xs i how) ≡ map item_in xs
handled_items [] i how = refl
handled_items (x ∷ xs) zero how = refl
handled_items (x ∷ xs) (suc i) how = ap (λ (l : List Item). x.item ∷ l) (handled_items xs i how)

kept_all : (xs : List Logged) → map item_in (take (length xs) xs) ≡ map item_in xs
kept_all xs = ap (map item_in) (take_all (length xs) xs (omega arith))

kept_more : (xs ys : List Logged) → map item_in (take (length xs) (xs ++ ys)) ≡ map item_in xs
kept_more xs ys = ap (map item_in) (take_at xs ys (length xs) refl)

pub kept_items : (s : State) (w : What) → map item_in (take (length s.items) (items_after s w)) ≡ map item_in s.items
kept_items s (Cut job edge from to) = kept_more s.items (edge_item s.graph job (edge_at s.graph (key_of edge from to)))
kept_items s (Erase job id) = kept_more s.items (object_item job (object_at s.graph id))
kept_items s (Put job i) =
    let how = outcome s (slice_get s.items i) in
    ap (map item_in) (take_all (length s.items) (handled_at s.items i how) (omega (arith, handled_length s.items i how))) ∙ handled_items s.items i how
kept_items s w = kept_all s.items

pub new_none : (s : State) (w : What) → position_taken s w ≡ None → new_items s w ≡ []
new_none s (Cut job edge from to) none = absurd (cc none)
new_none s (Erase job id) none = absurd (cc none)
new_none s (Put job i) none =
    let how = outcome s (slice_get s.items i) in
    drop_all (length s.items) (handled_at s.items i how) (omega (arith, handled_length s.items i how))
new_none s w none = drop_all (length s.items) s.items (omega arith)

edge_few : (s : State) (job : ℕ) (o : Option EdgeRow) → length (edge_item s.graph job o) ≤ 1
edge_few s job None = omega arith
edge_few s job (Some row) = omega arith

object_few : (job : ℕ) (o : Option ObjectRow) → length (object_item job o) ≤ 1
object_few job None = omega arith
object_few job (Some row) = omega arith

behind_few : (xs ys : List Logged) → length ys ≤ 1 → length (drop (length xs) (xs ++ ys)) ≤ 1
behind_few xs ys few = omega (arith, few, ap length (drop_at xs ys (length xs) refl))

-- an entry logs one item at most
pub new_few : (s : State) (w : What) → length (new_items s w) ≤ 1
new_few s (Cut job edge from to) =
    behind_few s.items (edge_item s.graph job (edge_at s.graph (key_of edge from to))) (edge_few s job (edge_at s.graph (key_of edge from to)))
new_few s (Erase job id) = behind_few s.items (object_item job (object_at s.graph id)) (object_few job (object_at s.graph id))
new_few s (Put job i) = omega (arith, ap length (new_none s (Put job i) refl))
new_few s w = omega (arith, ap length (drop_all (length s.items) s.items (omega arith)))

pub items_split : (s : State) (w : What) → items_after s w ≡ take (length s.items) (items_after s w) ++ new_items s w
items_split s w = sym (take-append-drop (length s.items) (items_after s w))

-- sizes of the records of a history with one entry more
pub record_sizes-append : (s : State) (es : List Entry) (e : Entry) → record_sizes s (es ++ e ∷ []) ≡ record_sizes s es ++ record_size (run s es) e.what ∷ []
record_sizes-append s [] e = refl
record_sizes-append s (x ∷ xs) e = ap (λ (l : List ℕ). record_size s x.what ∷ l) (record_sizes-append (step s x) xs e)

-- one position more with each entry
pub run-len : (s : State) (es : List Entry) → (run s es).len ≡ s.len + length es
run-len s [] = omega arith
run-len s (e ∷ es) = let is : (run (step s e) es).len ≡ s.len + 1 + length es = run-len (step s e) es in omega (arith, is)
