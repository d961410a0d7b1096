-- The counts of references, as a table of them changes.
use Rattle.std.proofs.Common.{◌≡◌, ◌<◌, ◌+◌, ◌&&◌, ℕ, length, get_or, arith, Bool, true, false, cond, Option, Some, None, List, refl, sym, ap, subst, ◌∙◌}
use Rattle.std.proofs.lemmas.Bool.{eqb-true, eq-eqb}
use Rattle.std.proofs.Math.ListN.{set}
use Rattle.std.specs.Prelude.{is_some, nat_eq, if◌then◌else◌}
use Rattle.std.specs.Option.{unwrap_or}
use Rattle.indexmap.specs.IndexMap.{IndexMap}
use Rattle.edge_index.specs.Refs.{Count, counts_in, counts_at, target_home, ref_in, refs_at, refs_of}
use Rattle.edge_index.proofs.Sharded.{found_set, shard_at}

pub same_target : (a b : ℕ) → nat_eq a b ≡ true → a ≡ b
same_target a b h = eqb-true a b h

-- what the table has after one entry is written or taken out
abbrev pub Updated : (ℕ → List Count) → (ℕ → List Count) → ℕ → Option ℕ → Type 0
Updated old new id count = (other : ℕ) → refs_at new other ≡ cond (nat_eq id other) count (refs_at old other)

-- one shard of the counts, as an entry of it is written or taken out
pub count_set : {S : Type 0} (refs : List (IndexMap ℕ ℕ S)) (k : ℕ) (old new : IndexMap ℕ ℕ S) (id : ℕ) (count : Option ℕ) → k ≡ target_home id → k < length refs → old ≡ get_or refs k old →
    ((q : ℕ) → ref_in new.entries q ≡ cond (nat_eq id q) count (ref_in old.entries q)) → Updated (counts_at refs) (counts_at (set refs k new)) id count
count_set refs k old new id count at below is written =
    found_set counts_in nat_eq target_home (λ a b same. ap target_home (same_target a b same)) refs k old new id count at below is written

pub ref_here : {S : Type 0} (refs : List (IndexMap ℕ ℕ S)) (k : ℕ) (old : IndexMap ℕ ℕ S) (id : ℕ) → k ≡ target_home id → k < length refs → old ≡ get_or refs k old →
    ref_in old.entries id ≡ refs_at (counts_at refs) id
ref_here refs k old id at below is = ap (λ (found : List Count). ref_in found id) (shard_at counts_in refs k (target_home id) old at below is)

pub place_made : (old new : ℕ → List Count) (id n : ℕ) → Updated old new id (Some n) → is_some (refs_at new id) ≡ true
place_made old new id n new_is = ap (λ (found : Option ℕ). is_some found) (new_is id) ∙ ap (λ (b : Bool). is_some (cond b (Some n) (refs_at old id))) (eq-eqb id id refl)

pub counted_there : (refs : ℕ → List Count) (id : ℕ) → 0 < refs_of refs id → is_some (refs_at refs id) ≡ true
counted_there refs id some = go (refs_at refs id) some
  where
    go : (found : Option ℕ) → 0 < unwrap_or found 0 → is_some found ≡ true
    go None some = absurd (omega arith)
    go (Some n) some = refl

pub count_more : (old new : ℕ → List Count) (id n : ℕ) (flag : Bool) → flag ≡ true → n ≡ refs_of old id + 1 → Updated old new id (Some n) →
    (other : ℕ) → refs_of new other ≡ refs_of old other + (if flag && nat_eq id other then 1 else 0)
count_more old new id n flag counted more new_is other =
    ap (λ (found : Option ℕ). unwrap_or found 0) (new_is other)
    ∙ (go (nat_eq id other) refl ∙ ap (λ (b : Bool). refs_of old other + (if b && nat_eq id other then 1 else 0)) (sym counted))
  where
    go : (b : Bool) → nat_eq id other ≡ b → unwrap_or (cond b (Some n) (refs_at old other)) 0 ≡ refs_of old other + (if b then 1 else 0)
    go true is = let same = ap (refs_of old) (same_target id other is) in omega arith
    go false is = omega arith

pub count_less : (old new : ℕ → List Count) (id n : ℕ) (flag : Bool) → flag ≡ true → refs_of old id ≡ n + 1 → Updated old new id (Some n) →
    (other : ℕ) → refs_of old other ≡ refs_of new other + (if flag && nat_eq id other then 1 else 0)
count_less old new id n flag counted less new_is other =
    go (nat_eq id other) refl
    ∙ (ap (λ (found : Option ℕ). unwrap_or found 0 + (if nat_eq id other then 1 else 0)) (sym (new_is other))
    ∙ ap (λ (b : Bool). refs_of new other + (if b && nat_eq id other then 1 else 0)) (sym counted))
  where
    go : (b : Bool) → nat_eq id other ≡ b → refs_of old other ≡ unwrap_or (cond b (Some n) (refs_at old other)) 0 + (if b then 1 else 0)
    go true is = let same = ap (refs_of old) (same_target id other is) in omega arith
    go false is = omega arith

none_is : (found : Option ℕ) → is_some found ≡ false → unwrap_or found 0 ≡ 0
none_is None h = refl
none_is (Some n) h = absurd (cc)

-- an entry of 0 in place of none, or none in place of 0
pub counts_stay : (old new : (ℕ → List Count)) (id : ℕ) (count : Option ℕ) → unwrap_or count 0 ≡ 0 → refs_of old id ≡ 0 → Updated old new id count →
    (other : ℕ) → refs_of new other ≡ refs_of old other
counts_stay old new id count zero was new_is other = ap (λ (found : Option ℕ). unwrap_or found 0) (new_is other) ∙ go (nat_eq id other) refl
  where
    go : (b : Bool) → nat_eq id other ≡ b → unwrap_or (cond b count (refs_at old other)) 0 ≡ refs_of old other
    go true is = zero ∙ sym (subst (λ (n : ℕ). refs_of old n ≡ 0) (same_target id other is) was)
    go false is = refl

pub places_stay : (old new : (ℕ → List Count)) (id : ℕ) (count : ℕ) → is_some (refs_at old id) ≡ true → Updated old new id (Some count) →
    (other : ℕ) → is_some (refs_at new other) ≡ is_some (refs_at old other)
places_stay old new id count was new_is other = ap (λ (found : Option ℕ). is_some found) (new_is other) ∙ go (nat_eq id other) refl
  where
    go : (b : Bool) → nat_eq id other ≡ b → is_some (cond b (Some count) (refs_at old other)) ≡ is_some (refs_at old other)
    go true is = sym (subst (λ (n : ℕ). is_some (refs_at old n) ≡ true) (same_target id other is) was)
    go false is = refl

pub places_grow : (old new : (ℕ → List Count)) (id : ℕ) (count : ℕ) → Updated old new id (Some count) →
    (other : ℕ) → is_some (refs_at old other) ≡ true → is_some (refs_at new other) ≡ true
places_grow old new id count new_is other was = ap (λ (found : Option ℕ). is_some found) (new_is other) ∙ go (nat_eq id other)
  where
    go : (b : Bool) → is_some (cond b (Some count) (refs_at old other)) ≡ true
    go true = refl
    go false = was

pub places_but_one : (old new : (ℕ → List Count)) (id : ℕ) → Updated old new id None → (other : ℕ) → nat_eq id other ≡ false →
    is_some (refs_at new other) ≡ is_some (refs_at old other)
places_but_one old new id new_is other apart =
    ap (λ (found : Option ℕ). is_some found) (new_is other) ∙ ap (λ (b : Bool). is_some (cond b None (refs_at old other))) apart

pub none_counts_none : (refs : (ℕ → List Count)) (id : ℕ) → is_some (refs_at refs id) ≡ false → refs_of refs id ≡ 0
none_counts_none refs id none = none_is (refs_at refs id) none

pub other_target : (id other : ℕ) (p : ℕ → Bool) → p id ≡ false → p other ≡ true → nat_eq id other ≡ false
other_target id other p missing there = go (nat_eq id other) refl
  where
    go : (b : Bool) → nat_eq id other ≡ b → b ≡ false
    go true is = let same = ap p (same_target id other is) in absurd (cc)
    go false is = refl
