-- The least due of a block: what it says of the shards in it, and that a change elsewhere leaves it.
use Rattle.std.proofs.Common.{◌≡◌, ◌≢◌, ℕ, zero, suc, ◌+◌, ◌-◌, ◌*◌, ◌/◌, ◌≤◌, ◌<◌, Bool, true, false, cond, eqb, ltb, List, [], ◌∷◌, length, get_or, take, drop, min, leb, refl, sym, ap, ◌∙◌, arith}
use Rattle.std.proofs.Math.ListN.{set}
use Rattle.std.proofs.lemmas.List.{take_all, length-drop, length-set, get_or-set_other, get_or-set_same}
use Rattle.std.proofs.lemmas.Bool.Decides.{nat_tests}
use Rattle.object_shards.specs.declared.shard.Shard.{Shard}
use Rattle.object_shards.specs.Shards.{dues_of}
use Rattle.object_shards.specs.Blocks.{least_in, block_of}

lesser_early : (moment a b : ℕ) → moment < cond (ltb a b) a b → (moment < a) × (moment < b)
lesser_early moment a b h = go (ltb a b) refl h
  where
    go : (t : Bool) → ltb a b ≡ t → moment < cond t a b → (moment < a) × (moment < b)
    go true less early = let under : a < b = grind (arith, nat_tests) in (early, omega arith)
    go false more early = let over : b ≤ a = grind (arith, nat_tests) in (omega arith, early)

-- where the least due of some shards comes after the moment, so does each one's
early_front : (n : ℕ) (ss : List Shard) (moment k : ℕ) → moment < least_in (take n ss) → k < n → k < length ss → moment < get_or (dues_of ss) k 0
early_front zero ss moment k h near below = absurd (omega arith)
early_front (suc n) [] moment k h near below = absurd (omega arith)
early_front (suc n) (x ∷ xs) moment zero h near below = (lesser_early moment x.least (least_in (take n xs)) h).0
early_front (suc n) (x ∷ xs) moment (suc k) h near below =
    early_front n xs moment k (lesser_early moment x.least (least_in (take n xs)) h).1 (omega arith) (omega arith)

early_part : (m n : ℕ) (ss : List Shard) (moment k : ℕ) → moment < least_in (take n (drop m ss)) → m ≤ k → k < m + n → k < length ss →
    moment < get_or (dues_of ss) k 0
early_part zero n ss moment k h above near below = early_front n ss moment k h (omega arith) below
early_part (suc m) n [] moment k h above near below = absurd (omega arith)
early_part (suc m) n (x ∷ xs) moment zero h above near below = absurd (omega arith)
early_part (suc m) n (x ∷ xs) moment (suc k) h above near below = early_part m n xs moment k h (omega arith) (omega arith) (omega arith)

pub early_block : (block : ℕ) (ss : List Shard) (moment k : ℕ) → moment < least_in (block_of block ss) → 64 * block ≤ k → k < 64 * block + 64 → k < length ss →
    moment < get_or (dues_of ss) k 0
early_block block ss moment k h above near below = early_part (64 * block) 64 ss moment k h above near below

-- shards with the same least dues have the same least due
same_front : (n : ℕ) (ss ts : List Shard) → length ss ≡ length ts → ((k : ℕ) → k < n → get_or (dues_of ss) k 0 ≡ get_or (dues_of ts) k 0) →
    least_in (take n ss) ≡ least_in (take n ts)
same_front zero ss ts long same = refl
same_front (suc n) [] [] long same = refl
same_front (suc n) [] (y ∷ ys) long same = absurd (omega arith)
same_front (suc n) (x ∷ xs) [] long same = absurd (omega arith)
same_front (suc n) (x ∷ xs) (y ∷ ys) long same =
    let first : x.least ≡ y.least = same 0 (omega arith) in
    let rest : least_in (take n xs) ≡ least_in (take n ys) = same_front n xs ys (omega arith) (λ k below. same (suc k) (omega arith)) in
    ap (λ (a : ℕ). cond (ltb a (least_in (take n xs))) a (least_in (take n xs))) first ∙
    ap (λ (b : ℕ). cond (ltb y.least b) y.least b) rest

same_part : (m n : ℕ) (ss ts : List Shard) → length ss ≡ length ts → ((k : ℕ) → m ≤ k → k < m + n → get_or (dues_of ss) k 0 ≡ get_or (dues_of ts) k 0) →
    least_in (take n (drop m ss)) ≡ least_in (take n (drop m ts))
same_part zero n ss ts long same = same_front n ss ts long (λ k below. same k (omega arith) (omega arith))
same_part (suc m) n [] [] long same = refl
same_part (suc m) n [] (y ∷ ys) long same = absurd (omega arith)
same_part (suc m) n (x ∷ xs) [] long same = absurd (omega arith)
same_part (suc m) n (x ∷ xs) (y ∷ ys) long same =
    same_part m n xs ys (omega arith) (λ k above below. same (suc k) (omega arith) (omega arith))

pub same_block : (block : ℕ) (ss ts : List Shard) → length ss ≡ length ts →
    ((k : ℕ) → 64 * block ≤ k → k < 64 * block + 64 → get_or (dues_of ss) k 0 ≡ get_or (dues_of ts) k 0) →
    least_in (block_of block ss) ≡ least_in (block_of block ts)
same_block block ss ts long same = same_part (64 * block) 64 ss ts long same

-- a change of one shard leaves the other blocks
pub other_blocks : (old new : List Shard) (leasts : List ℕ) (place : ℕ) → length new ≡ length old →
    ((k : ℕ) → k ≢ place → get_or (dues_of new) k 0 ≡ get_or (dues_of old) k 0) →
    ((block : ℕ) → block < length leasts → get_or leasts block 0 ≡ least_in (block_of block old)) →
    (block : ℕ) → block < length leasts → block ≢ place / 64 → get_or leasts block 0 ≡ least_in (block_of block new)
other_blocks old new leasts place long elsewhere are block below other =
    are block below ∙ sym (same_block block new old long (λ k above near. elsewhere k (λ same. other (omega (arith, same)))))

-- shards with the same least dues have the same blocks
pub same_blocks : (old new : List Shard) (leasts : List ℕ) → length new ≡ length old → dues_of new ≡ dues_of old →
    ((block : ℕ) → block < length leasts → get_or leasts block 0 ≡ least_in (block_of block old)) →
    (block : ℕ) → block < length leasts → get_or leasts block 0 ≡ least_in (block_of block new)
same_blocks old new leasts long dues are block below =
    are block below ∙ sym (same_block block new old long (λ k above near. ap (λ (ds : List ℕ). get_or ds k 0) dues))

-- one shard in another's place

pub dues_elsewhere : (ss : List Shard) (place : ℕ) (new : Shard) (k : ℕ) → k ≢ place → get_or (dues_of (set ss place new)) k 0 ≡ get_or (dues_of ss) k 0
dues_elsewhere [] zero new k other = refl
dues_elsewhere [] (suc place) new k other = refl
dues_elsewhere (x ∷ xs) zero new zero other = absurd (other refl)
dues_elsewhere (x ∷ xs) zero new (suc k) other = refl
dues_elsewhere (x ∷ xs) (suc place) new zero other = refl
dues_elsewhere (x ∷ xs) (suc place) new (suc k) other = dues_elsewhere xs place new k (λ same. other (ap suc same))

pub dues_same : (ss : List Shard) (place : ℕ) (s new : Shard) → place < length ss → s ≡ get_or ss place s → new.least ≡ s.least →
    dues_of (set ss place new) ≡ dues_of ss
dues_same [] place s new below is same = refl
dues_same (x ∷ xs) zero s new below is same =
    ap (λ (n : ℕ). n ∷ dues_of xs) (same ∙ ap (λ (t : Shard). t.least) is)
dues_same (x ∷ xs) (suc place) s new below is same = ap (λ (ds : List ℕ). x.least ∷ ds) (dues_same xs place s new (omega arith) is same)

-- a block as a range of the shards
pub block_range : (ss : List Shard) (block from end : ℕ) → from ≡ 64 * block → end ≡ min (64 * block + 64) (length ss) → 64 * block ≤ length ss →
    take (end - from) (drop from ss) ≡ block_of block ss
block_range ss block from end at to within = go (leb (64 * block + 64) (length ss)) refl
  where
    long : length (drop (64 * block) ss) ≡ length ss - 64 * block
    long = length-drop (64 * block) ss

    same : take (end - from) (drop from ss) ≡ take (end - from) (drop (64 * block) ss)
    same = ap (λ (n : ℕ). take (end - from) (drop n ss)) at

    go : (b : Bool) → leb (64 * block + 64) (length ss) ≡ b → take (end - from) (drop from ss) ≡ block_of block ss
    go true whole =
        let under : 64 * block + 64 ≤ length ss = grind (arith, nat_tests) in
        let is : end - from ≡ 64 = omega arith in
        same ∙ ap (λ (n : ℕ). take n (drop (64 * block) ss)) is
    go false part =
        let over : length ss < 64 * block + 64 = grind (arith, nat_tests) in
        let is : end - from ≡ length ss - 64 * block = omega arith in
        same ∙ (take_all (end - from) (drop (64 * block) ss) (let l = long in omega arith) ∙
        sym (take_all 64 (drop (64 * block) ss) (let l = long in omega arith)))

-- one block's least due in its place
pub refreshed : (leasts : List ℕ) (ss : List Shard) (at v : ℕ) → at < length leasts →
    ((block : ℕ) → block < length leasts → block ≢ at → get_or leasts block 0 ≡ least_in (block_of block ss)) → v ≡ least_in (block_of at ss) →
    (block : ℕ) → block < length (set leasts at v) → get_or (set leasts at v) block 0 ≡ least_in (block_of block ss)
refreshed leasts ss at v within others is block below = go (eqb block at) refl
  where
    inside : block < length leasts
    inside = let long = length-set leasts at v in omega arith

    go : (b : Bool) → eqb block at ≡ b → get_or (set leasts at v) block 0 ≡ least_in (block_of block ss)
    go true equal =
        let same : block ≡ at = grind (arith, nat_tests) in
        ap (λ (n : ℕ). get_or (set leasts at v) n 0) same ∙ (get_or-set_same leasts at v 0 within ∙ (is ∙ ap (λ (n : ℕ). least_in (block_of n ss)) (sym same)))
    go false differs =
        let other : block ≢ at = grind (arith, nat_tests) in
        get_or-set_other leasts at block v 0 other ∙ others block inside other

pub filled_more : (leasts : List ℕ) (ss : List Shard) (at v : ℕ) → at < length leasts →
    ((block : ℕ) → block < at → get_or leasts block 0 ≡ least_in (block_of block ss)) → v ≡ least_in (block_of at ss) →
    (block : ℕ) → block < at + 1 → get_or (set leasts at v) block 0 ≡ least_in (block_of block ss)
filled_more leasts ss at v within before is block below = go (eqb block at) refl
  where
    go : (b : Bool) → eqb block at ≡ b → get_or (set leasts at v) block 0 ≡ least_in (block_of block ss)
    go true equal =
        let same : block ≡ at = grind (arith, nat_tests) in
        ap (λ (n : ℕ). get_or (set leasts at v) n 0) same ∙ (get_or-set_same leasts at v 0 within ∙ (is ∙ ap (λ (n : ℕ). least_in (block_of n ss)) (sym same)))
    go false differs =
        let other : block ≢ at = grind (arith, nat_tests) in
        get_or-set_other leasts at block v 0 other ∙ before block (omega arith)
