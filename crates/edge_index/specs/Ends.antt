-- The edges of one end: where each stands, and which rows they are.
use Rattle.std.specs.Prelude.{◌≡◌, ◌%◌, ℕ, Bool, true, false, ◌||◌, nat_eq, cond, List, Option, Some, filter}
use Rattle.std.specs.List.{filter_map, list_any, AllByRecursion}
use Rattle.std.specs.List.Sorted.{IsStrictlySortedBy}
use Rattle.std.specs.Map.{lookup, keys_of}
use Rattle.std.specs.BTreeMap.{BTreeMap, is_at}
use Rattle.std.specs.declared.cmp.Ordering.{Ordering}
use Rattle.std.specs.Ordering.{is_eq, ordering_then, nat_cmp}
use Rattle.delf_model.specs.declared.rows.EdgeKey.{EdgeKey}
use Rattle.delf_model.specs.declared.rows.EdgeRow.{EdgeRow}
use Rattle.edge_index.specs.declared.ends.EndKey.{EndKey}
use Rattle.edge_index.specs.Links.{Entry, row_in, has_room}
use Rattle.edge_index.specs.Shards.{shard}

-- by the end, then edge type, then the other end
abbrev pub end_cmp : EndKey → EndKey → Ordering
end_cmp a b = ordering_then (nat_cmp a.near b.near) (ordering_then (nat_cmp a.edge b.edge) (nat_cmp a.far b.far))

abbrev pub at_source : EdgeKey → EndKey
at_source key = record { near = key.from; edge = key.edge; far = key.to }

abbrev pub at_target : EdgeKey → EndKey
at_target key = record { near = key.to; edge = key.edge; far = key.from }

-- a key with its place
abbrev pub Place : Type 0
Place = EndKey × EdgeKey

-- the shard of a place: that of its end
abbrev pub place_home : EndKey → ℕ
place_home place = place.near % 16

abbrev pub places_of : BTreeMap EndKey EdgeKey → List Place
places_of order = order.entries

-- what an order has in each shard
abbrev pub places_at : List (BTreeMap EndKey EdgeKey) → ℕ → List Place
places_at order n = shard places_of order n

abbrev pub is_near : ℕ → Place → Bool
is_near id place = nat_eq place.0.near id

-- the key at a place, in one shard and in all
abbrev pub place_in : List Place → EndKey → Option EdgeKey
place_in places place = lookup (is_at (end_cmp place)) places

abbrev pub place_of : (ℕ → List Place) → EndKey → Option EdgeKey
place_of order place = place_in (order (place_home place)) place

-- whether any key stands at this end
abbrev pub any_near : List Place → ℕ → Bool
any_near places id = list_any (is_near id) places

abbrev pub has_near : (ℕ → List Place) → ℕ → Bool
has_near order id = any_near (order (id % 16)) id

-- the rows of the edges that stand at this end, in the order there
abbrev pub rows_in : List Entry → List Place → ℕ → List EdgeRow
rows_in links places id = filter_map (λ place. row_in links place.1) (filter (is_near id) places)

abbrev pub rows_near : List Entry → (ℕ → List Place) → ℕ → List EdgeRow
rows_near links order id = rows_in links (order (id % 16)) id

-- what an order has after one place is written or taken out
abbrev pub Placed : (ℕ → List Place) → (ℕ → List Place) → EndKey → Option EdgeKey → Type 0
Placed old new place found = (q : EndKey) → place_of new q ≡ cond (is_eq (end_cmp place q)) found (place_of old q)

-- in each shard the places rise
abbrev pub Rises : (ℕ → List Place) → Type 0
Rises order = (n : ℕ) → IsStrictlySortedBy end_cmp (keys_of (order n))

abbrev pub stands_at : (EdgeKey → EndKey) → Place → Type 0
stands_at end place = place.0 ≡ end place.1

-- each key stands at its place
abbrev pub StandAt : (EdgeKey → EndKey) → (ℕ → List Place) → Type 0
StandAt end order = (n : ℕ) → AllByRecursion (stands_at end) (order n)

-- no two keys stand at one place
abbrev pub TellsApart : (EdgeKey → EndKey) → Type 0
TellsApart end = (a b : EdgeKey) → end a ≡ end b → a ≡ b

abbrev pub no_key : EdgeKey → Bool
no_key key = false

-- an order has each key for which there is room at its place, and no other but these spare ones
pub record IsOrderOf (end : EdgeKey → EndKey) (spare : EdgeKey → Bool) (links : List Entry) (order : ℕ → List Place) : Type 0 where
  pub rise : Rises order
  pub places : StandAt end order
  pub whole : (key : EdgeKey) → has_room links key ≡ true → place_of order (end key) ≡ Some key
  pub only : (place : EndKey) (key : EdgeKey) → place_of order place ≡ Some key → (has_room links key || spare key) ≡ true
