-- An order by one end, as a key comes or goes.
use Rattle.std.proofs.Common.{Less, Equal, Greater, ◌≡◌, ◌<◌, ℕ, length, get_or, Bool, true, false, cond, ◌||◌, Option, Some, None, List, [], ◌∷◌, refl, sym, ap, subst, ◌∙◌}
use Rattle.std.proofs.lemmas.Bool.{eq-eqb}
use Rattle.std.specs.Prelude.{is_some}
use Rattle.std.specs.List.{AllByRecursion}
use Rattle.std.specs.List.Sorted.{IsStrictlySortedBy}
use Rattle.std.specs.Map.{keys_of, remove_entry}
use Rattle.std.specs.BTreeMap.{BTreeMap, is_at, insert_entry}
use Rattle.std.proofs.Math.ListN.{set}
use Rattle.std.specs.declared.cmp.Ordering.{Ordering}
use Rattle.std.specs.Ordering.{is_eq, match_ordering}
use Rattle.delf_model.specs.declared.rows.EdgeKey.{EdgeKey}
use Rattle.delf_model.specs.Graph.{same_key}
use Rattle.delf_model.proofs.Graphs.{same_key_is, same_key_refl}
use Rattle.edge_index.specs.declared.ends.EndKey.{EndKey}
use Rattle.edge_index.specs.declared.links.Link.{Link}
use Rattle.edge_index.specs.Keys.{edge_cmp}
use Rattle.edge_index.specs.Links.{Entry, link_at, has_room}
use Rattle.edge_index.specs.Ends.{Place, end_cmp, place_home, places_of, places_at, place_in, place_of, stands_at, is_near, any_near, has_near, no_key, Placed, Rises, StandAt, TellsApart, IsOrderOf}
use Rattle.edge_index.proofs.Keys.{IsEnd, one_place, place_self, edge_equal}
use Rattle.edge_index.proofs.Sharded.{shard_get, each_set, found_set}

all_inserted : (end : EdgeKey → EndKey) (place : EndKey) (key : EdgeKey) → place ≡ end key → (order : List Place) → AllByRecursion (stands_at end) order →
    AllByRecursion (stands_at end) (insert_entry end_cmp order place key)
all_inserted end place key at [] all = (at, tt)
all_inserted end place key at (p ∷ ps) all = go (end_cmp place p.0) refl (all_inserted end place key at ps all.1)
  where
    go : (o : Ordering) → end_cmp place p.0 ≡ o → AllByRecursion (stands_at end) (insert_entry end_cmp ps place key) →
        AllByRecursion (stands_at end) (match_ordering o ((place, key) ∷ p ∷ ps) ((p.0, key) ∷ ps) (p ∷ insert_entry end_cmp ps place key))
    go Less is more = (at, (all.0, all.1))
    go Equal is more = (sym (one_place place p.0 (ap is_eq is)) ∙ at, all.1)
    go Greater is more = (all.0, more)

all_removed : (end : EdgeKey → EndKey) (test : EndKey → Bool) (order : List Place) → AllByRecursion (stands_at end) order → AllByRecursion (stands_at end) (remove_entry test order)
all_removed end test [] all = tt
all_removed end test (p ∷ ps) all = go (test p.0) (all_removed end test ps all.1)
  where
    go : (b : Bool) → AllByRecursion (stands_at end) (remove_entry test ps) → AllByRecursion (stands_at end) (cond b ps (p ∷ remove_entry test ps))
    go true more = all.1
    go false more = (all.0, more)

-- one shard of an order, as a place of it is written or taken out

homes : (p q : EndKey) → is_eq (end_cmp p q) ≡ true → place_home p ≡ place_home q
homes p q same = ap place_home (one_place p q same)

pub shard_placed : (order : List (BTreeMap EndKey EdgeKey)) (k : ℕ) (old new : BTreeMap EndKey EdgeKey) (place : EndKey) (found : Option EdgeKey) → k ≡ place_home place → k < length order →
    old ≡ get_or order k old → ((q : EndKey) → place_in new.entries q ≡ cond (is_eq (end_cmp place q)) found (place_in old.entries q)) →
    Placed (places_at order) (places_at (set order k new)) place found
shard_placed order k old new place found at below is placed =
    found_set places_of (λ p q. is_eq (end_cmp p q)) place_home homes order k old new place found at below is placed

pub shard_rises : (order : List (BTreeMap EndKey EdgeKey)) (k : ℕ) (new : BTreeMap EndKey EdgeKey) → k < length order → IsStrictlySortedBy end_cmp (keys_of new.entries) →
    Rises (places_at order) → Rises (places_at (set order k new))
shard_rises order k new below rise rises = each_set places_of (λ (ps : List Place). IsStrictlySortedBy end_cmp (keys_of ps)) order k new below rise rises

pub shard_inserted : (end : EdgeKey → EndKey) (order : List (BTreeMap EndKey EdgeKey)) (k : ℕ) (old new : BTreeMap EndKey EdgeKey) (place : EndKey) (key : EdgeKey) → place ≡ end key →
    k < length order → old ≡ get_or order k old → new.entries ≡ insert_entry end_cmp old.entries place key → StandAt end (places_at order) → StandAt end (places_at (set order k new))
shard_inserted end order k old new place key at below is made stand =
    each_set places_of (λ (ps : List Place). AllByRecursion (stands_at end) ps) order k new below
    (subst (λ (ps : List Place). AllByRecursion (stands_at end) ps) (sym made)
    (all_inserted end place key at old.entries (subst (λ (ps : List Place). AllByRecursion (stands_at end) ps) (shard_get places_of order k old below is) (stand k))))
    stand

pub shard_removed : (end : EdgeKey → EndKey) (order : List (BTreeMap EndKey EdgeKey)) (k : ℕ) (old new : BTreeMap EndKey EdgeKey) (place : EndKey) →
    k < length order → old ≡ get_or order k old → new.entries ≡ remove_entry (is_at (end_cmp place)) old.entries → StandAt end (places_at order) → StandAt end (places_at (set order k new))
shard_removed end order k old new place below is made stand =
    each_set places_of (λ (ps : List Place). AllByRecursion (stands_at end) ps) order k new below
    (subst (λ (ps : List Place). AllByRecursion (stands_at end) ps) (sym made)
    (all_removed end (is_at (end_cmp place)) old.entries (subst (λ (ps : List Place). AllByRecursion (stands_at end) ps) (shard_get places_of order k old below is) (stand k))))
    stand

or_left : (a b : Bool) → a ≡ true → (a || b) ≡ true
or_left true b is = refl
or_left false b is = absurd (cc)

or_right : (a b : Bool) → b ≡ true → (a || b) ≡ true
or_right true b is = refl
or_right false b is = is

pub placed_there : (old new : ℕ → List Place) (place : EndKey) (key : EdgeKey) → Placed old new place (Some key) → place_of new place ≡ Some key
placed_there old new place key placed = placed place ∙ ap (λ (b : Bool). cond b (Some key) (place_of old place)) (place_self place)

pub order_inserted : (end : EdgeKey → EndKey) (spare : EdgeKey → Bool) (links : List Entry) (old new : ℕ → List Place) (place : EndKey) (key : EdgeKey) → TellsApart end → end key ≡ place →
    spare key ≡ true → (Rises old → Rises new) → (StandAt end old → StandAt end new) → Placed old new place (Some key) →
    IsOrderOf end spare links old → IsOrderOf end spare links new
order_inserted end spare links old new place key apart at may rise stand placed o = record {
  rise = rise o.rise;
  places = stand o.places;
  whole = λ other room. placed (end other) ∙ go other (o.whole other room) (is_eq (end_cmp place (end other))) refl;
  only = λ q k there. from q k (is_eq (end_cmp place q)) (sym (placed q) ∙ there);
}
  where
    go : (other : EdgeKey) → place_of old (end other) ≡ Some other → (b : Bool) → is_eq (end_cmp place (end other)) ≡ b → cond b (Some key) (place_of old (end other)) ≡ Some other
    go other was true is = ap (λ (k : EdgeKey). Some k) (apart key other (at ∙ one_place place (end other) is))
    go other was false is = was

    from : (q : EndKey) (k : EdgeKey) (b : Bool) → cond b (Some key) (place_of old q) ≡ Some k → (has_room links k || spare k) ≡ true
    from q k true there = let same : key ≡ k = cc in subst (λ (e : EdgeKey). (has_room links e || spare e) ≡ true) same (or_right (has_room links key) (spare key) may)
    from q k false there = o.only q k there

-- any order may have a key to spare
pub order_wider : (end : EdgeKey → EndKey) (spare : EdgeKey → Bool) (links : List Entry) (order : ℕ → List Place) → IsOrderOf end no_key links order → IsOrderOf end spare links order
order_wider end spare links order o = record {
  rise = o.rise;
  places = o.places;
  whole = o.whole;
  only = λ q k there. or_left (has_room links k) (spare k) (none (has_room links k) (o.only q k there));
}
  where
    none : (b : Bool) → (b || false) ≡ true → b ≡ true
    none true is = refl
    none false is = is

-- the same order, where a table of links has room for the same keys
pub order_kept : (end : EdgeKey → EndKey) (before after : List Entry) (order : ℕ → List Place) → ((key : EdgeKey) → has_room after key ≡ true → has_room before key ≡ true) →
    ((key : EdgeKey) → has_room before key ≡ true → has_room after key ≡ true) → IsOrderOf end no_key before order → IsOrderOf end no_key after order
order_kept end before after order less more o = record {
  rise = o.rise;
  places = o.places;
  whole = λ key room. o.whole key (less key room);
  only = λ q k there. or_left (has_room after k) false (more k (none (has_room before k) (o.only q k there)));
}
  where
    none : (b : Bool) → (b || false) ≡ true → b ≡ true
    none true is = refl
    none false is = is

-- what a table of links has after one key is written or taken out
abbrev pub Linked : List Entry → List Entry → EdgeKey → Option (Option Link) → Type 0
Linked old new key found = (q : EdgeKey) → link_at new q ≡ cond (is_eq (edge_cmp key q)) found (link_at old q)

pub room_grown : (old new : List Entry) (key : EdgeKey) (link : Option Link) → Linked old new key (Some link) → (q : EdgeKey) → has_room old q ≡ true → has_room new q ≡ true
room_grown old new key link linked q room = ap (λ (found : Option (Option Link)). is_some found) (linked q) ∙ go (is_eq (edge_cmp key q))
  where
    go : (b : Bool) → is_some (cond b (Some link) (link_at old q)) ≡ true
    go true = refl
    go false = room

pub room_made : (old new : List Entry) (key : EdgeKey) (link : Option Link) → Linked old new key (Some link) → has_room new key ≡ true
room_made old new key link linked =
    ap (λ (found : Option (Option Link)). is_some found) (linked key)
    ∙ ap (λ (b : Bool). is_some (cond b (Some link) (link_at old key))) (edge_equal key key ∙ same_key_refl key)

-- a key that has room now and is not the new one had it
pub room_other : (old new : List Entry) (key : EdgeKey) (link : Option Link) → Linked old new key (Some link) → (q : EdgeKey) → same_key key q ≡ false →
    has_room new q ≡ true → has_room old q ≡ true
room_other old new key link linked q apart room =
    sym (ap (λ (b : Bool). is_some (cond b (Some link) (link_at old q))) (edge_equal key q ∙ apart))
    ∙ (sym (ap (λ (found : Option (Option Link)). is_some found) (linked q)) ∙ room)

pub no_link : (links : List Entry) (key : EdgeKey) → has_room links key ≡ false → link_at links key ≡ None
no_link links key none = go (link_at links key) none
  where
    go : (found : Option (Option Link)) → is_some found ≡ false → found ≡ None
    go None none = refl
    go (Some link) none = absurd (cc)

-- an order that has a new key already serves the table with it
pub order_grown : (end : EdgeKey → EndKey) (old new : List Entry) (order : ℕ → List Place) (key : EdgeKey) (link : Option Link) → Linked old new key (Some link) →
    place_of order (end key) ≡ Some key → IsOrderOf end (same_key key) old order → IsOrderOf end no_key new order
order_grown end old new order key link linked there o = record {
  rise = o.rise;
  places = o.places;
  whole = λ q room. go q (is_eq (edge_cmp key q)) (sym (edge_equal key q)) (o.whole q) (sym (ap (λ (found : Option (Option Link)). is_some found) (linked q)) ∙ room);
  only = λ q k at. or_left (has_room new k) false (grown k (has_room old k) (same_key key k) refl refl (o.only q k at));
}
  where
    go : (q : EdgeKey) (b : Bool) → same_key key q ≡ b → (has_room old q ≡ true → place_of order (end q) ≡ Some q) →
        is_some (cond b (Some link) (link_at old q)) ≡ true → place_of order (end q) ≡ Some q
    go q true is was room = subst (λ (k : EdgeKey). place_of order (end k) ≡ Some k) (same_key_is key q is) there
    go q false is was room = was room

    grown : (k : EdgeKey) (a b : Bool) → has_room old k ≡ a → same_key key k ≡ b → (a || b) ≡ true → has_room new k ≡ true
    grown k true b was is any = room_grown old new key link linked k was
    grown k false true was is any = subst (λ (e : EdgeKey). has_room new e ≡ true) (same_key_is key k is) (room_made old new key link linked)
    grown k false false was is any = absurd (cc)

pub taken_room : (old new : List Entry) (key : EdgeKey) → Linked old new key None → (q : EdgeKey) → has_room new q ≡ true → (same_key key q ≡ false) × (has_room old q ≡ true)
taken_room old new key linked q room =
    go (is_eq (edge_cmp key q)) (sym (edge_equal key q)) (sym (ap (λ (found : Option (Option Link)). is_some found) (linked q)) ∙ room)
  where
    go : (b : Bool) → same_key key q ≡ b → is_some (cond b None (link_at old q)) ≡ true → (same_key key q ≡ false) × (has_room old q ≡ true)
    go true is room = absurd (cc)
    go false is room = (is, room)

pub room_taken : (old new : List Entry) (key : EdgeKey) → Linked old new key None → (q : EdgeKey) → has_room new q ≡ true → has_room old q ≡ true
room_taken old new key linked q room = (taken_room old new key linked q room).1

pub room_left : (old new : List Entry) (key : EdgeKey) → Linked old new key None → (q : EdgeKey) → same_key key q ≡ false → has_room old q ≡ true → has_room new q ≡ true
room_left old new key linked q apart room =
    ap (λ (found : Option (Option Link)). is_some found) (linked q)
    ∙ (ap (λ (b : Bool). is_some (cond b None (link_at old q))) (edge_equal key q ∙ apart) ∙ room)

pub free_apart : (links : List Entry) (key : EdgeKey) → has_room links key ≡ false → (q : EdgeKey) → has_room links q ≡ true → (same_key key q ≡ false) × (has_room links q ≡ true)
free_apart links key free q room = (go (same_key key q) refl, room)
  where
    go : (b : Bool) → same_key key q ≡ b → b ≡ false
    go true is = let same = ap (has_room links) (same_key_is key q is) in absurd (cc)
    go false is = refl

-- a key stands at its place alone
stands_there : (end : EdgeKey → EndKey) (order : List Place) → AllByRecursion (stands_at end) order → (q : EndKey) (key : EdgeKey) → place_in order q ≡ Some key → q ≡ end key
stands_there end [] places q key there = absurd (cc)
stands_there end (p ∷ ps) places q key there = go (is_eq (end_cmp q p.0)) refl (stands_there end ps places.1 q key) there
  where
    go : (b : Bool) → is_eq (end_cmp q p.0) ≡ b → (place_in ps q ≡ Some key → q ≡ end key) → cond b (Some p.1) (place_in ps q) ≡ Some key → q ≡ end key
    go true is more there = let same : p.1 ≡ key = cc in one_place q p.0 is ∙ (places.0 ∙ ap end same)
    go false is more there = more there

-- a key taken out of its order, which no longer has room
pub order_taken : (end : EdgeKey → EndKey) (near : EdgeKey → ℕ) → IsEnd end near → (old new : List Entry) (order after : ℕ → List Place) (key : EdgeKey) (place : EndKey) → place ≡ end key →
    ((q : EdgeKey) → has_room new q ≡ true → (same_key key q ≡ false) × (has_room old q ≡ true)) →
    ((q : EdgeKey) → same_key key q ≡ false → has_room old q ≡ true → has_room new q ≡ true) →
    (Rises order → Rises after) → (StandAt end order → StandAt end after) → Placed order after place None →
    IsOrderOf end (same_key key) old order → IsOrderOf end no_key new after
order_taken end near is old new order after key place at gone left rise stand placed o = record {
  rise = rise o.rise;
  places = stand o.places;
  whole = λ q room. let parts = gone q room in
      placed (end q) ∙ (ap (λ (b : Bool). cond b None (place_of order (end q))) (ap (λ (p : EndKey). is_eq (end_cmp p (end q))) at ∙ (is.one key q ∙ parts.0)) ∙ o.whole q parts.1);
  only = λ q k there. or_left (has_room new k) false (from q k (is_eq (end_cmp place q)) refl (sym (placed q) ∙ there));
}
  where
    apart : (q : EndKey) (k : EdgeKey) → is_eq (end_cmp place q) ≡ false → q ≡ end k → (b : Bool) → same_key key k ≡ b → b ≡ false
    apart q k other there true same =
        let here : is_eq (end_cmp place q) ≡ true =
        ap (λ (p : EndKey). is_eq (end_cmp p q)) at ∙ (ap (λ (p : EndKey). is_eq (end_cmp (end key) p)) there ∙ (is.one key k ∙ same)) in
        absurd (cc)
    apart q k other there false same = refl

    was : (k : EdgeKey) (a b : Bool) → has_room old k ≡ a → same_key key k ≡ b → b ≡ false → (a || b) ≡ true → has_room new k ≡ true
    was k true b room same other any = left k (same ∙ other) room
    was k false true room same other any = absurd (cc)
    was k false false room same other any = absurd (cc)

    from : (q : EndKey) (k : EdgeKey) (b : Bool) → is_eq (end_cmp place q) ≡ b → cond b None (place_of order q) ≡ Some k → has_room new k ≡ true
    from q k true hit there = absurd (cc)
    from q k false hit there =
        was k (has_room old k) (same_key key k) refl refl (apart q k hit (stands_there end (order (place_home q)) (o.places (place_home q)) q k there) (same_key key k) refl) (o.only q k there)

-- a key that has its place stands at that end
any_from_place : (order : List Place) (place : EndKey) (key : EdgeKey) → place_in order place ≡ Some key → any_near order place.near ≡ true
any_from_place [] place key there = absurd (cc)
any_from_place (p ∷ ps) place key there = go (is_eq (end_cmp place p.0)) refl (any_from_place ps place key) there
  where
    go : (b : Bool) → is_eq (end_cmp place p.0) ≡ b → (place_in ps place ≡ Some key → any_near ps place.near ≡ true) → cond b (Some p.1) (place_in ps place) ≡ Some key →
        (is_near place.near p || any_near ps place.near) ≡ true
    go true is more there =
        let at : place ≡ p.0 = one_place place p.0 is in
        ap (λ (b : Bool). b || any_near ps place.near) (eq-eqb p.0.near place.near (ap (λ (q : EndKey). q.near) (sym at)))
    go false is more there = or_right (is_near place.near p) (any_near ps place.near) (more there)

pub near_from_place : (order : ℕ → List Place) (place : EndKey) (key : EdgeKey) → place_of order place ≡ Some key → has_near order place.near ≡ true
near_from_place order place key there = any_from_place (order (place_home place)) place key there

-- an order without keys is that of a table without keys
pub order_none : (end : EdgeKey → EndKey) (links : List Entry) (order : ℕ → List Place) → links ≡ [] → ((n : ℕ) → order n ≡ []) → IsOrderOf end no_key links order
unfolding IsStrictlySortedBy
order_none end links order no_links none = record {
  rise = λ n. subst (λ (ps : List Place). IsStrictlySortedBy end_cmp (keys_of ps)) (sym (none n)) tt;
  places = λ n. subst (λ (ps : List Place). AllByRecursion (stands_at end) ps) (sym (none n)) tt;
  whole = λ key room. let no : has_room links key ≡ false = ap (λ (es : List Entry). has_room es key) no_links in absurd (cc);
  only = λ q k there. let no : place_of order q ≡ None = ap (λ (ps : List Place). place_in ps q) (none (place_home q)) in absurd (cc);
}
