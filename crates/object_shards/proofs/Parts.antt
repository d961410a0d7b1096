-- Shards by rising ids: the shard of an id, a change of one shard, a shard that is parted or dropped.
use Rattle.std.proofs.Common.{◌≡◌, ℕ, zero, suc, ◌+◌, ◌≤◌, ◌<◌, Bool, true, false, ◌&&◌, cond, ltb, Some, List, [], ◌∷◌, ◌++◌, length, get_or, take, refl, sym, ap, subst, ◌∙◌, add-one, arith}
use Rattle.std.proofs.Math.ListN.{set}
use Rattle.std.proofs.lemmas.Bool.Decides.{nat_tests}
use Rattle.std.proofs.lemmas.Bool.{and_parts, and_from}
use Rattle.std.proofs.lemmas.List.{append_assoc, append-nil}
use Rattle.std.specs.Prelude.{find, slice_get}
use Rattle.std.specs.List.{remove}
use Rattle.delf_model.specs.declared.rows.ObjectRow.{ObjectRow}
use Rattle.delf_model.specs.Graph.{has_id, rises_after, objects_rise}
use Rattle.object_shards.specs.declared.shard.Shard.{Shard}
use Rattle.object_shards.specs.Rows.{ids_within}
use Rattle.object_shards.specs.Shards.{rows_of, start, stand, shard_place, has_room, ready_in}
use Rattle.object_shards.proofs.Within.{first_of_within, within_wider, within_append, none_under, none_past, find_front, find_back, IsLocal}

pub record Stands (s : Shard) (ss : List Shard) : Type 0 where
  pub apart : s.low < start ss
  pub inside : ids_within s.low (start ss) s.rows.items ≡ true
  pub rest : stand ss ≡ true

pub stands_first : (s : Shard) (ss : List Shard) → stand (s ∷ ss) ≡ true → Stands s ss
stands_first s ss h =
    let parts = and_parts (ltb s.low (start ss) && ids_within s.low (start ss) s.rows.items) (stand ss) h in
    let both = and_parts (ltb s.low (start ss)) (ids_within s.low (start ss) s.rows.items) parts.0 in
    record { apart = grind (arith, nat_tests, both.0); inside = both.1; rest = parts.1 }

pub stands_from : (s : Shard) (ss : List Shard) → s.low < start ss → ids_within s.low (start ss) s.rows.items ≡ true → stand ss ≡ true →
    stand (s ∷ ss) ≡ true
stands_from s ss apart inside rest =
    let one : ltb s.low (start ss) ≡ true = grind (arith, nat_tests) in
    and_from (ltb s.low (start ss) && ids_within s.low (start ss) s.rows.items) (stand ss)
    (and_from (ltb s.low (start ss)) (ids_within s.low (start ss) s.rows.items) one inside) rest

-- the same beside shards that begin at the same id
pub stands_beside : (s new : Shard) (ss others : List Shard) → new.low ≡ s.low → start others ≡ start ss → s.low < start ss →
    ids_within s.low (start ss) new.rows.items ≡ true → stand others ≡ true → stand (new ∷ others) ≡ true
stands_beside s new ss others low begins apart inside rest =
    stands_from new others (omega arith)
    (subst (λ (n : ℕ). ids_within n (start others) new.rows.items ≡ true) (sym low)
    (subst (λ (n : ℕ). ids_within s.low n new.rows.items ≡ true) (sym begins) inside)) rest

pub start_within : (ss : List Shard) → stand ss ≡ true → start ss ≤ 1000000000000
start_within [] h = omega arith
start_within (s ∷ ss) h =
    let first = stands_first s ss h in
    let apart = first.apart in
    let rest : start ss ≤ 1000000000000 = start_within ss first.rest in omega arith

pub rows_within : (ss : List Shard) → stand ss ≡ true → ids_within (start ss) 1000000000000 (rows_of ss) ≡ true
rows_within [] h = refl
rows_within (s ∷ ss) h =
    let first = stands_first s ss h in
    let apart = first.apart in
    within_append s.low 1000000000000 s.rows.items (rows_of ss)
    (within_wider s.low (start ss) s.low 1000000000000 s.rows.items (omega arith) (start_within ss first.rest) first.inside)
    (within_wider (start ss) 1000000000000 s.low 1000000000000 (rows_of ss) (omega arith) (omega arith) (rows_within ss first.rest))

-- ids rise over all shards

rises_join : (low m high : ℕ) (xs ys : List ObjectRow) → rises_after low xs ≡ true → ids_within 0 m xs ≡ true → low < m →
    objects_rise ys ≡ true → ids_within m high ys ≡ true → rises_after low (xs ++ ys) ≡ true
rises_join low m high [] [] r w l s v = refl
rises_join low m high [] (y ∷ ys) r w l s v =
    let first = first_of_within m high y ys v in
    let above = first.above in
    let next : ltb low y.id ≡ true = grind (arith, nat_tests) in
    and_from (ltb low y.id) (rises_after y.id ys) next s
rises_join low m high (x ∷ xs) ys r w l s v =
    let parts = and_parts (ltb low x.id) (rises_after x.id xs) r in
    let first = first_of_within 0 m x xs w in
    and_from (ltb low x.id) (rises_after x.id (xs ++ ys)) parts.0 (rises_join x.id m high xs ys parts.1 first.rest first.below s v)

rise_join : (m high : ℕ) (xs ys : List ObjectRow) → objects_rise xs ≡ true → ids_within 0 m xs ≡ true →
    objects_rise ys ≡ true → ids_within m high ys ≡ true → objects_rise (xs ++ ys) ≡ true
rise_join m high [] ys r w s v = s
rise_join m high (x ∷ xs) ys r w s v =
    let first = first_of_within 0 m x xs w in rises_join x.id m high xs ys r first.rest first.below s v

pub rows_rise : (ss : List Shard) → stand ss ≡ true → objects_rise (rows_of ss) ≡ true
rows_rise [] h = refl
rows_rise (s ∷ ss) h =
    let first = stands_first s ss h in
    rise_join (start ss) 1000000000000 s.rows.items (rows_of ss) s.ids_rise
    (within_wider s.low (start ss) 0 (start ss) s.rows.items (omega arith) (omega arith) first.inside)
    (rows_rise ss first.rest) (rows_within ss first.rest)

-- the place of the shard of an id

starts_rise : (ss : List Shard) (k : ℕ) (s : Shard) → stand ss ≡ true → slice_get ss k ≡ Some s → start ss ≤ s.low
starts_rise [] k s h is = absurd (cc is)
starts_rise (x ∷ xs) zero s h is = let same : x ≡ s = cc is in omega (arith, ap (λ (t : Shard). t.low) same)
starts_rise (x ∷ xs) (suc k) s h is =
    let first = stands_first x xs h in
    let apart = first.apart in
    let rest : start xs ≤ s.low = starts_rise xs k s first.rest is in omega arith

pub place_at_least : (ss : List Shard) (id k : ℕ) (s : Shard) → stand ss ≡ true → slice_get ss k ≡ Some s → s.low ≤ id → k ≤ shard_place id ss
place_at_least [] id k s h is low = absurd (cc is)
place_at_least (x ∷ xs) id zero s h is low = omega arith
place_at_least (x ∷ xs) id (suc k) s h is low =
    let first = stands_first x xs h in
    let begins : start xs ≤ s.low = starts_rise xs k s first.rest is in
    let rest : k ≤ shard_place id xs = place_at_least xs id k s first.rest is low in
    grind (arith, nat_tests)

pub place_under : (ss : List Shard) (id k : ℕ) (s : Shard) → start ss ≤ id → slice_get ss k ≡ Some s → id < s.low → shard_place id ss < k
place_under [] id k s h is low = absurd (cc is)
place_under (x ∷ xs) id zero s h is low = let same : x ≡ s = cc is in absurd (omega (arith, ap (λ (t : Shard). t.low) same))
place_under (x ∷ xs) id (suc k) s h is low = go (ltb id (start xs)) refl (λ later. place_under xs id k s later is low)
  where
    go : (b : Bool) → ltb id (start xs) ≡ b → (start xs ≤ id → shard_place id xs < k) → cond b 0 (suc (shard_place id xs)) < suc k
    go true before rest = omega arith
    go false past rest = let begins : start xs ≤ id = grind (arith, nat_tests) in let more = rest begins in omega arith

pub place_in_shards : (ss : List Shard) (id : ℕ) → start ss ≤ id → id < 1000000000000 → shard_place id ss < length ss
place_in_shards [] id h top = absurd (omega arith)
place_in_shards (x ∷ xs) id h top = go (ltb id (start xs)) refl (λ later. place_in_shards xs id later top)
  where
    go : (b : Bool) → ltb id (start xs) ≡ b → (start xs ≤ id → shard_place id xs < length xs) → cond b 0 (suc (shard_place id xs)) < length (x ∷ xs)
    go true before rest = omega arith
    go false past rest = let begins : start xs ≤ id = grind (arith, nat_tests) in let more = rest begins in omega arith

-- the shard at the place of an id, and the rest

data At (id : ℕ) (x s : Shard) (xs : List Shard) : Type 0 where
  Here : x ≡ s → id < start xs → shard_place id (x ∷ xs) ≡ 0 → At id x s xs
  Later : start xs ≤ id → slice_get xs (shard_place id xs) ≡ Some s → shard_place id (x ∷ xs) ≡ suc (shard_place id xs) → At id x s xs

at_where : (id : ℕ) (x s : Shard) (xs : List Shard) → slice_get (x ∷ xs) (shard_place id (x ∷ xs)) ≡ Some s → At id x s xs
at_where id x s xs is = go (ltb id (start xs)) refl is
  where
    go : (b : Bool) → ltb id (start xs) ≡ b → slice_get (x ∷ xs) (cond b 0 (suc (shard_place id xs))) ≡ Some s → At id x s xs
    go true before there = Here (cc there) (grind (arith, nat_tests)) (ap (λ (b : Bool). cond b 0 (suc (shard_place id xs))) before)
    go false past there = Later (grind (arith, nat_tests)) there (ap (λ (b : Bool). cond b 0 (suc (shard_place id xs))) past)

-- what is sought is found in the shard of its id
pub find_in_shard : (ss : List Shard) (id : ℕ) (s : Shard) → stand ss ≡ true → slice_get ss (shard_place id ss) ≡ Some s →
    find (has_id id) (rows_of ss) ≡ find (has_id id) s.rows.items
find_in_shard [] id s h is = absurd (cc is)
find_in_shard (x ∷ xs) id s h is = go (at_where id x s xs is) (λ later. find_in_shard xs id s (stands_first x xs h).rest later)
  where
    go : At id x s xs → (slice_get xs (shard_place id xs) ≡ Some s → find (has_id id) (rows_of xs) ≡ find (has_id id) s.rows.items) →
        find (has_id id) (x.rows.items ++ rows_of xs) ≡ find (has_id id) s.rows.items
    go (Here same under place) rest =
        let first = stands_first x xs h in
        find_front (has_id id) x.rows.items (rows_of xs) (none_under id (start xs) 1000000000000 (rows_of xs) under (rows_within xs first.rest)) ∙
        ap (λ (t : Shard). find (has_id id) t.rows.items) same
    go (Later past later place) rest =
        let first = stands_first x xs h in
        find_back (has_id id) x.rows.items (rows_of xs) (none_past id x.low (start xs) x.rows.items past first.inside) ∙ rest later

-- a change in the shard of its id
pub record Edited (f : List ObjectRow → List ObjectRow) (old new : List Shard) : Type 0 where
  pub rows : rows_of new ≡ f (rows_of old)
  pub order : stand new ≡ true
  pub begins : start new ≡ start old

pub edited : (id : ℕ) (f : List ObjectRow → List ObjectRow) → IsLocal id f → (ss : List Shard) (s new : Shard) → stand ss ≡ true → start ss ≤ id →
    slice_get ss (shard_place id ss) ≡ Some s → new.low ≡ s.low → new.rows.items ≡ f s.rows.items → Edited f ss (set ss (shard_place id ss) new)
edited id f local [] s new h low is same changed = absurd (cc is)
edited id f local (x ∷ xs) s new h low is same changed =
    go (at_where id x s xs is) (λ past later. edited id f local xs s new (stands_first x xs h).rest past later same changed)
  where
    go : At id x s xs → (start xs ≤ id → slice_get xs (shard_place id xs) ≡ Some s → Edited f xs (set xs (shard_place id xs) new)) →
        Edited f (x ∷ xs) (set (x ∷ xs) (shard_place id (x ∷ xs)) new)
    go (Here here under place) rest =
        let first = stands_first x xs h in
        let inside : ids_within x.low (start xs) new.rows.items ≡ true =
        subst (λ (rs : List ObjectRow). ids_within x.low (start xs) rs ≡ true) (sym (changed ∙ ap (λ (t : Shard). f t.rows.items) (sym here)))
        (local.kept x.low (start xs) x.rows.items low under first.inside) in
        let lows : new.low ≡ x.low = same ∙ ap (λ (t : Shard). t.low) (sym here) in
        subst (λ (n : ℕ). Edited f (x ∷ xs) (set (x ∷ xs) n new)) (sym place)
        (record {
          rows = ap (λ (rs : List ObjectRow). rs ++ rows_of xs) (changed ∙ ap (λ (t : Shard). f t.rows.items) (sym here)) ∙
              sym (local.front x.rows.items (rows_of xs) (start xs) 1000000000000 under (rows_within xs first.rest));
          order = stands_beside x new xs xs lows refl first.apart inside first.rest;
          begins = lows;
        })
    go (Later past later place) rest =
        let first = stands_first x xs h in
        let more = rest past later in
        subst (λ (n : ℕ). Edited f (x ∷ xs) (set (x ∷ xs) n new)) (sym place)
        (record {
          rows = ap (λ (rs : List ObjectRow). x.rows.items ++ rs) more.rows ∙
              sym (local.back x.rows.items (rows_of xs) x.low (start xs) past first.inside);
          order = stands_beside x x xs (set xs (shard_place id xs) new) refl more.begins first.apart first.inside more.order;
          begins = refl;
        })

-- a shard with no row may be dropped, but for the first

pub dropped : (ss : List Shard) (k : ℕ) (s : Shard) → stand ss ≡ true → slice_get ss (suc k) ≡ Some s → s.rows.items ≡ [] →
    Edited (λ rows. rows) ss (remove ss (suc k))
dropped [] k s h is none = absurd (cc is)
dropped (x ∷ []) k s h is none = absurd (cc is)
dropped (x ∷ (y ∷ ys)) zero s h is none =
    let first = stands_first x (y ∷ ys) h in
    let second = stands_first y ys first.rest in
    let same : y ≡ s = cc is in
    let empty : y.rows.items ≡ [] = ap (λ (t : Shard). t.rows.items) same ∙ none in
    let low : x.low < y.low = first.apart in
    let high : y.low < start ys = second.apart in
    record {
      rows = ap (λ (rs : List ObjectRow). x.rows.items ++ (rs ++ rows_of ys)) (sym empty);
      order = stands_from x ys (omega arith)
          (within_wider x.low y.low x.low (start ys) x.rows.items (omega arith) (omega arith) first.inside) second.rest;
      begins = refl;
    }
dropped (x ∷ (y ∷ ys)) (suc k) s h is none =
    let first = stands_first x (y ∷ ys) h in
    let more = dropped (y ∷ ys) k s first.rest is none in
    record {
      rows = ap (λ (rs : List ObjectRow). x.rows.items ++ rs) more.rows;
      order = stands_beside x x (y ∷ ys) (remove (y ∷ ys) (suc k)) refl more.begins first.apart first.inside more.order;
      begins = refl;
    }

-- an element by its index

pub got_at : {X : Type 0} (xs : List X) (k : ℕ) (x d : X) → k < length xs → x ≡ get_or xs k d → slice_get xs k ≡ Some x
got_at [] k x d below is = absurd (omega arith)
got_at (y ∷ ys) zero x d below is = ap Some (sym is)
got_at (y ∷ ys) (suc k) x d below is = got_at ys k x d (omega arith) is

pub at_shard : (old seen : List Shard) (id k : ℕ) (s : Shard) → seen ≡ old → k ≡ shard_place id seen → k < length seen → s ≡ get_or old k s →
    slice_get old (shard_place id old) ≡ Some s
at_shard old seen id k s same place below is =
    let at : k ≡ shard_place id old = place ∙ ap (λ (ss : List Shard). shard_place id ss) same in
    subst (λ (n : ℕ). slice_get old n ≡ Some s) at
    (got_at old k s s (subst (λ (ss : List Shard). k < length ss) same below) is)

pub edited_at : (id : ℕ) (f : List ObjectRow → List ObjectRow) → IsLocal id f → (old seen : List Shard) (k : ℕ) (s new : Shard) → stand old ≡ true →
    start old ≡ 0 → seen ≡ old → k ≡ shard_place id seen → k < length seen → s ≡ get_or old k s → new.low ≡ s.low → new.rows.items ≡ f s.rows.items →
    Edited f old (set old k new)
edited_at id f local old seen k s new h first same place below is low changed =
    let at : k ≡ shard_place id old = place ∙ ap (λ (ss : List Shard). shard_place id ss) same in
    subst (λ (n : ℕ). Edited f old (set old n new)) (sym at)
    (edited id f local old s new h (omega arith) (at_shard old seen id k s same place below is) low changed)

-- an id that is ready falls into a shard with room
pub ready_room : (ss : List Shard) (id : ℕ) (s : Shard) → slice_get ss (shard_place id ss) ≡ Some s → ready_in id ss ≡ true → has_room s ≡ true
ready_room [] id s is ready = absurd (cc is)
ready_room (x ∷ xs) id s is ready = go (ltb id (start xs)) is ready (λ later more. ready_room xs id s later more)
  where
    go : (b : Bool) → slice_get (x ∷ xs) (cond b 0 (suc (shard_place id xs))) ≡ Some s → cond b (has_room x) (ready_in id xs) ≡ true →
        (slice_get xs (shard_place id xs) ≡ Some s → ready_in id xs ≡ true → has_room s ≡ true) → has_room s ≡ true
    go true there room rest = let same : x ≡ s = cc there in ap has_room (sym same) ∙ room
    go false there room rest = rest there room

pub room_ready : (ss : List Shard) (id : ℕ) (s : Shard) → slice_get ss (shard_place id ss) ≡ Some s → has_room s ≡ true → ready_in id ss ≡ true
room_ready [] id s is room = absurd (cc is)
room_ready (x ∷ xs) id s is room = go (ltb id (start xs)) is (λ later. room_ready xs id s later room)
  where
    go : (b : Bool) → slice_get (x ∷ xs) (cond b 0 (suc (shard_place id xs))) ≡ Some s → (slice_get xs (shard_place id xs) ≡ Some s → ready_in id xs ≡ true) →
        cond b (has_room x) (ready_in id xs) ≡ true
    go true there rest = let same : x ≡ s = cc there in ap has_room same ∙ room
    go false there rest = rest there

-- rows that are copied shard by shard
pub rows_of-take : (ss : List Shard) (i : ℕ) (s : Shard) → slice_get ss i ≡ Some s → rows_of (take (suc i) ss) ≡ rows_of (take i ss) ++ s.rows.items
rows_of-take [] i s is = absurd (cc is)
rows_of-take (x ∷ xs) zero s is =
    let same : x ≡ s = cc is in
    append-nil x.rows.items ∙ ap (λ (t : Shard). t.rows.items) same
rows_of-take (x ∷ xs) (suc i) s is =
    ap (λ (rs : List ObjectRow). x.rows.items ++ rs) (rows_of-take xs i s is) ∙ sym (append_assoc x.rows.items (rows_of (take i xs)) s.rows.items)

pub copied_more : (ss : List Shard) (i : ℕ) (s : Shard) (old new seen : List ObjectRow) → i < length ss → s ≡ get_or ss i s → old ≡ rows_of (take i ss) →
    seen ≡ s.rows.items → new ≡ old ++ seen → new ≡ rows_of (take (i + 1) ss)
copied_more ss i s old new seen below is front same more =
    (more ∙ ap (λ (rs : List ObjectRow). rs ++ seen) front) ∙ (ap (λ (rs : List ObjectRow). rows_of (take i ss) ++ rs) same ∙
    (sym (rows_of-take ss i s (got_at ss i s s below is)) ∙ ap (λ (n : ℕ). rows_of (take n ss)) (sym (add-one i))))

pub drop_at : (ss : List Shard) (k : ℕ) (s : Shard) → stand ss ≡ true → 0 < k → k < length ss → s ≡ get_or ss k s → s.rows.items ≡ [] →
    Edited (λ rows. rows) ss (remove ss k)
drop_at ss zero s h above below is none = absurd (omega arith)
drop_at ss (suc k) s h above below is none = dropped ss k s h (got_at ss (suc k) s s below is) none

pub none_of_length : {X : Type 0} (xs : List X) → length xs ≡ 0 → xs ≡ []
none_of_length [] h = refl
none_of_length (x ∷ xs) h = absurd (omega arith)

-- a shard with more room in its place
roomier : (ss : List Shard) (k other : ℕ) (s new : Shard) → slice_get ss k ≡ Some s → new.low ≡ s.low → (has_room s ≡ true → has_room new ≡ true) →
    (ready_in other ss ≡ true → ready_in other (set ss k new) ≡ true) × (start (set ss k new) ≡ start ss)
roomier [] k other s new is low more = absurd (cc is)
roomier (x ∷ xs) zero other s new is low more =
    let same : x ≡ s = cc is in
    (go (ltb other (start xs)) (ap has_room same), low ∙ ap (λ (t : Shard). t.low) (sym same))
  where
    go : (b : Bool) → has_room x ≡ has_room s → cond b (has_room x) (ready_in other xs) ≡ true → cond b (has_room new) (ready_in other xs) ≡ true
    go true same ready = more (sym same ∙ ready)
    go false same ready = ready
roomier (x ∷ xs) (suc k) other s new is low more =
    let rest = roomier xs k other s new is low more in
    (λ ready. ap (λ (n : ℕ). cond (ltb other n) (has_room x) (ready_in other (set xs k new))) rest.1 ∙ go (ltb other (start xs)) rest.0 ready, refl)
  where
    go : (b : Bool) → (ready_in other xs ≡ true → ready_in other (set xs k new) ≡ true) → cond b (has_room x) (ready_in other xs) ≡ true →
        cond b (has_room x) (ready_in other (set xs k new)) ≡ true
    go true rest ready = ready
    go false rest ready = rest ready

pub kept_at : (old : List Shard) (k other : ℕ) (s new : Shard) → k < length old → s ≡ get_or old k s → new.low ≡ s.low →
    (has_room s ≡ true → has_room new ≡ true) → ready_in other old ≡ true → ready_in other (set old k new) ≡ true
kept_at old k other s new below is low more ready = (roomier old k other s new (got_at old k s s below is) low more).0 ready

made_ready : (ss : List Shard) (id : ℕ) (s new : Shard) → slice_get ss (shard_place id ss) ≡ Some s → new.low ≡ s.low → has_room new ≡ true →
    ready_in id (set ss (shard_place id ss) new) ≡ true
made_ready [] id s new is low room = absurd (cc is)
made_ready (x ∷ xs) id s new is low room = go (at_where id x s xs is) (λ later. made_ready xs id s new later low room)
  where
    go : At id x s xs → (slice_get xs (shard_place id xs) ≡ Some s → ready_in id (set xs (shard_place id xs) new) ≡ true) →
        ready_in id (set (x ∷ xs) (shard_place id (x ∷ xs)) new) ≡ true
    go (Here here under place) rest =
        let before : ltb id (start xs) ≡ true = grind (arith, nat_tests) in
        ap (λ (n : ℕ). ready_in id (set (x ∷ xs) n new)) place ∙
        (ap (λ (b : Bool). cond b (has_room new) (ready_in id xs)) before ∙ room)
    go (Later past later place) rest =
        let begins : start (set xs (shard_place id xs) new) ≡ start xs = (roomier xs (shard_place id xs) id s new later low (λ old. room)).1 in
        let after : ltb id (start xs) ≡ false = grind (arith, nat_tests) in
        ap (λ (n : ℕ). ready_in id (set (x ∷ xs) n new)) place ∙
        (ap (λ (n : ℕ). cond (ltb id n) (has_room x) (ready_in id (set xs (shard_place id xs) new))) begins ∙
        (ap (λ (b : Bool). cond b (has_room x) (ready_in id (set xs (shard_place id xs) new))) after ∙ rest later))

pub ready_at : (old seen : List Shard) (id k : ℕ) (s new : Shard) → seen ≡ old → k ≡ shard_place id seen → k < length seen → s ≡ get_or old k s →
    new.low ≡ s.low → has_room new ≡ true → ready_in id (set old k new) ≡ true
ready_at old seen id k s new same place below is low room =
    let at : k ≡ shard_place id old = place ∙ ap (λ (ss : List Shard). shard_place id ss) same in
    subst (λ (n : ℕ). ready_in id (set old n new) ≡ true) (sym at)
    (made_ready old id s new (at_shard old seen id k s same place below is) low room)
