-- The first row that is due: shards that are passed over hold none.
use Rattle.std.proofs.Common.{◌≡◌, ℕ, zero, suc, ◌+◌, ◌-◌, ◌≤◌, ◌<◌, Bool, true, false, cond, ltb, Option, Some, None, List, [], ◌∷◌, ◌++◌, length, get_or, drop, refl, sym, ap, subst, ◌∙◌, add-one, arith}
use Rattle.std.proofs.lemmas.Bool.Decides.{nat_tests}
use Rattle.std.specs.Prelude.{find, slice_get}
use Rattle.delf_model.specs.declared.rows.ObjectRow.{ObjectRow}
use Rattle.delf_model.specs.Store.{is_due_after, id_of_row, least_due}
use Rattle.object_shards.specs.declared.shard.Shard.{Shard}
use Rattle.object_shards.specs.Shards.{rows_of, dues_of, start, stand, shard_place}
use Rattle.object_shards.proofs.Within.{find_back, find_first}
use Rattle.object_shards.proofs.Dues.{none_due, none_after}
use Rattle.object_shards.proofs.Parts.{stands_first, got_at}

-- the shards before that of an id hold none above it
after_found : (ss : List Shard) (moment id : ℕ) → stand ss ≡ true →
    find (is_due_after moment (Some id)) (rows_of ss) ≡ find (is_due_after moment (Some id)) (rows_of (drop (shard_place id ss) ss))
after_found [] moment id h = refl
after_found (x ∷ xs) moment id h = go (ltb id (start xs)) refl (after_found xs moment id (stands_first x xs h).rest)
  where
    go : (b : Bool) → ltb id (start xs) ≡ b →
        find (is_due_after moment (Some id)) (rows_of xs) ≡ find (is_due_after moment (Some id)) (rows_of (drop (shard_place id xs) xs)) →
        find (is_due_after moment (Some id)) (x.rows.items ++ rows_of xs) ≡
        find (is_due_after moment (Some id)) (rows_of (drop (cond b 0 (suc (shard_place id xs))) (x ∷ xs)))
    go true before rest = refl
    go false past rest =
        let first = stands_first x xs h in
        let begins : start xs ≤ id = grind (arith, nat_tests) in
        find_back (is_due_after moment (Some id)) x.rows.items (rows_of xs) (none_after moment id x.low (start xs) x.rows.items begins first.inside) ∙ rest

-- a shard with a due that comes after the moment is passed over
skip_one : (ss : List Shard) (moment k : ℕ) (low : Option ℕ) → k < length ss → moment < get_or (dues_of ss) k 0 →
    find (is_due_after moment low) (rows_of (drop k ss)) ≡ find (is_due_after moment low) (rows_of (drop (suc k) ss))
skip_one [] moment k low below early = absurd (omega arith)
skip_one (x ∷ xs) moment zero low below early =
    find_back (is_due_after moment low) x.rows.items (rows_of xs) (none_due moment low x.rows.items (subst (λ (n : ℕ). moment < n) x.least_is early))
skip_one (x ∷ xs) moment (suc k) low below early = skip_one xs moment k low (omega arith) early

-- a run of such shards
skip_run : (ss : List Shard) (moment from n : ℕ) (low : Option ℕ) → from + n ≤ length ss →
    ((k : ℕ) → from ≤ k → k < from + n → moment < get_or (dues_of ss) k 0) →
    find (is_due_after moment low) (rows_of (drop from ss)) ≡ find (is_due_after moment low) (rows_of (drop (from + n) ss))
skip_run ss moment from zero low within passed =
    let is : from ≡ from + 0 = omega arith in ap (λ (k : ℕ). find (is_due_after moment low) (rows_of (drop k ss))) is
skip_run ss moment from (suc n) low within passed =
    let is : suc (from + n) ≡ from + suc n = omega arith in
    skip_run ss moment from n low (omega arith) (λ k above below. passed k above (omega arith)) ∙
    (skip_one ss moment (from + n) low (omega arith) (passed (from + n) (omega arith) (omega arith)) ∙
    ap (λ (k : ℕ). find (is_due_after moment low) (rows_of (drop k ss))) is)

pub skip_to : (ss : List Shard) (moment from to : ℕ) (low : Option ℕ) → from ≤ to → to ≤ length ss →
    ((k : ℕ) → from ≤ k → k < to → moment < get_or (dues_of ss) k 0) →
    least_due moment low (rows_of (drop from ss)) ≡ least_due moment low (rows_of (drop to ss))
skip_to ss moment from to low above within passed =
    let is : from + (to - from) ≡ to = omega arith in
    ap id_of_row (skip_run ss moment from (to - from) low (omega arith) (λ k over below. passed k over (omega arith)) ∙
    ap (λ (k : ℕ). find (is_due_after moment low) (rows_of (drop k ss))) is)

drop_got : (ss : List Shard) (k : ℕ) (s : Shard) → slice_get ss k ≡ Some s → rows_of (drop k ss) ≡ s.rows.items ++ rows_of (drop (suc k) ss)
drop_got [] k s is = absurd (cc is)
drop_got (x ∷ xs) zero s is = let same : x ≡ s = cc is in ap (λ (t : Shard). t.rows.items ++ rows_of xs) same
drop_got (x ∷ xs) (suc k) s is = drop_got xs k s is

-- one shard that holds none
pub skip_shard : (ss : List Shard) (k : ℕ) (s : Shard) (p : ObjectRow → Bool) → k < length ss → s ≡ get_or ss k s → find p s.rows.items ≡ None →
    find p (rows_of (drop k ss)) ≡ find p (rows_of (drop (k + 1) ss))
skip_shard ss k s p below is none =
    ap (λ (rs : List ObjectRow). find p rs) (drop_got ss k s (got_at ss k s s below is)) ∙
    (find_back p s.rows.items (rows_of (drop (suc k) ss)) none ∙ ap (λ (n : ℕ). find p (rows_of (drop n ss))) (sym (add-one k)))

no_id : (found : Option ObjectRow) → id_of_row found ≡ None → found ≡ None
no_id None none = refl
no_id (Some row) none = absurd (cc none)

pub skip_due : (ss : List Shard) (k moment : ℕ) (low : Option ℕ) (s : Shard) → k < length ss → s ≡ get_or ss k s → least_due moment low s.rows.items ≡ None →
    least_due moment low (rows_of (drop k ss)) ≡ least_due moment low (rows_of (drop (k + 1) ss))
skip_due ss k moment low s below is none =
    ap id_of_row (skip_shard ss k s (is_due_after moment low) below is (no_id (find (is_due_after moment low) s.rows.items) none))

some_id : (p : ObjectRow → Bool) (found : Option ObjectRow) (xs ys : List ObjectRow) (id : ℕ) → found ≡ find p xs → id_of_row found ≡ Some id →
    id_of_row (find p (xs ++ ys)) ≡ Some id
some_id p None xs ys id same is = absurd (cc is)
some_id p (Some row) xs ys id same is = ap id_of_row (find_first p xs ys row (sym same)) ∙ is

pub hit_due : (ss : List Shard) (k moment : ℕ) (low : Option ℕ) (s : Shard) (id : ℕ) → k < length ss → s ≡ get_or ss k s →
    least_due moment low s.rows.items ≡ Some id → least_due moment low (rows_of (drop k ss)) ≡ Some id
hit_due ss k moment low s id below is hit =
    ap (λ (rs : List ObjectRow). least_due moment low rs) (drop_got ss k s (got_at ss k s s below is)) ∙
    some_id (is_due_after moment low) (find (is_due_after moment low) s.rows.items) s.rows.items (rows_of (drop (suc k) ss)) id refl hit

pub none_left : (ss : List Shard) (k moment : ℕ) (low : Option ℕ) → length ss ≤ k → least_due moment low (rows_of (drop k ss)) ≡ None
none_left [] zero moment low past = refl
none_left [] (suc k) moment low past = refl
none_left (x ∷ xs) zero moment low past = absurd (omega arith)
none_left (x ∷ xs) (suc k) moment low past = none_left xs k moment low (omega arith)

pub after_shards : (ss : List Shard) (moment id k : ℕ) → stand ss ≡ true → k ≡ shard_place id ss →
    least_due moment (Some id) (rows_of ss) ≡ least_due moment (Some id) (rows_of (drop k ss))
after_shards ss moment id k h place =
    ap id_of_row (after_found ss moment id h ∙ ap (λ (n : ℕ). find (is_due_after moment (Some id)) (rows_of (drop n ss))) (sym place))

due_got : (ss : List Shard) (k : ℕ) (s : Shard) → slice_get ss k ≡ Some s → get_or (dues_of ss) k 0 ≡ s.least
due_got [] k s is = absurd (cc is)
due_got (x ∷ xs) zero s is = let same : x ≡ s = cc is in ap (λ (t : Shard). t.least) same
due_got (x ∷ xs) (suc k) s is = due_got xs k s is

pub due_at : (ss : List Shard) (k : ℕ) (s : Shard) → k < length ss → s ≡ get_or ss k s → get_or (dues_of ss) k 0 ≡ s.least
due_at ss k s below is = due_got ss k s (got_at ss k s s below is)

pub passed_more : (dues : List ℕ) (moment from k : ℕ) → ((i : ℕ) → from ≤ i → i < k → moment < get_or dues i 0) → moment < get_or dues k 0 →
    (i : ℕ) → from ≤ i → i < k + 1 → moment < get_or dues i 0
passed_more dues moment from k before here i above below = go (ltb i k) refl
  where
    go : (b : Bool) → ltb i k ≡ b → moment < get_or dues i 0
    go true less = before i above (grind (arith, nat_tests))
    go false more = let same : k ≡ i = grind (arith, nat_tests) in subst (λ (n : ℕ). moment < get_or dues n 0) same here
