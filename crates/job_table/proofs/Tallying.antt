-- The counts of a job after one item more, and after one is handled.
use Rattle.std.proofs.Common.{◌≡◌, ℕ, zero, suc, ◌+◌, ◌-◌, ◌*◌, ◌<◌, ◌≤◌, Bool, true, false, cond, ◌&&◌, not, List, [], ◌∷◌, ◌++◌, map, length, get_or, Option, Some, None, refl, sym, ap, ◌∙◌, subst, arith}
use Rattle.std.specs.Prelude.{nat_eq, sum_by, count_by, unwrap_or, is_none}
use Rattle.std.proofs.lemmas.Bool.Decides.{nat_tests}
use Rattle.std.proofs.lemmas.List.Sums.{sum_by-cons, sum_by_push, count_by-le-length}
use Rattle.delf_model.specs.State.{Logged, Handled, is_object_item, job_of}
use Rattle.delf_model.specs.Step.{handled_at}
use Rattle.delf_model.specs.Report.{is_of_job, is_object_of, is_edge_of, is_put_of, is_listed_of, was_put, was_listed}
use Rattle.job_table.specs.declared.tallies.Tally.{Tally}
use Rattle.job_table.specs.Items.{is_unhandled_of}
use Rattle.job_table.specs.Notes.{weight_of}
use Rattle.job_table.specs.declared.items.Kept.{Kept}
use Rattle.job_table.specs.declared.items.Handling.{Handling}
use Rattle.job_table.specs.Parts.{logged_of, handled_of}
use Rattle.job_table.specs.Tallies.{no_tally, tally_of, share_of, tally_sum, tally_rest, Fits, Within, ItemsFit}
use Rattle.job_table.proofs.Places.{map_push, map_length, get_map}

-- tallies with equal parts
pub same_tally : (a b : Tally) → a.erased ≡ b.erased → a.cut ≡ b.cut → a.put ≡ b.put → a.listed ≡ b.listed → a.unhandled ≡ b.unhandled → a.weight ≡ b.weight → a ≡ b
same_tally a b e c p l u w =
    ap (λ n. of n a.cut a.put a.listed a.unhandled a.weight) e ∙ ap (λ n. of b.erased n a.put a.listed a.unhandled a.weight) c
    ∙ ap (λ n. of b.erased b.cut n a.listed a.unhandled a.weight) p ∙ ap (λ n. of b.erased b.cut b.put n a.unhandled a.weight) l
    ∙ ap (λ n. of b.erased b.cut b.put b.listed n a.weight) u ∙ ap (λ n. of b.erased b.cut b.put b.listed b.unhandled n) w
  where
    of : ℕ → ℕ → ℕ → ℕ → ℕ → ℕ → Tally
    of e c p l u w = record { erased = e; cut = c; put = p; listed = l; unhandled = u; weight = w }

-- an item more adds its share to the tally of its job
pub tally_push : (job : ℕ) (xs : List Logged) (y : Logged) →
    tally_of job (xs ++ y ∷ []) ≡ cond (nat_eq (job_of y.item) job) (tally_sum (tally_of job xs) (share_of y)) (tally_of job xs)
tally_push job xs y =
    go (nat_eq (job_of y.item) job) (sum_by_push (λ x. cond (is_object_of job x) 1 0) xs y) (sum_by_push (λ x. cond (is_edge_of job x) 1 0) xs y)
    (sum_by_push (λ x. cond (is_put_of job x) 1 0) xs y) (sum_by_push (λ x. cond (is_listed_of job x) 1 0) xs y)
    (sum_by_push (λ x. cond (is_unhandled_of job x) 1 0) xs y) (sum_by_push (weight_of job) xs y)
  where
    after : List Logged
    after = xs ++ y ∷ []

    go : (b : Bool) → count_by (is_object_of job) after ≡ count_by (is_object_of job) xs + cond (b && is_object_item y.item) 1 0 →
        count_by (is_edge_of job) after ≡ count_by (is_edge_of job) xs + cond (b && not (is_object_item y.item)) 1 0 →
        count_by (is_put_of job) after ≡ count_by (is_put_of job) xs + cond (b && was_put y.handled) 1 0 →
        count_by (is_listed_of job) after ≡ count_by (is_listed_of job) xs + cond (b && was_listed y.handled) 1 0 →
        count_by (is_unhandled_of job) after ≡ count_by (is_unhandled_of job) xs + cond (b && is_none y.handled) 1 0 →
        sum_by (weight_of job) after ≡ sum_by (weight_of job) xs + cond (b && is_none y.handled) (cond (is_object_item y.item) 4 2) 0 →
        tally_of job after ≡ cond b (tally_sum (tally_of job xs) (share_of y)) (tally_of job xs)
    go true e c p l u w = same_tally _ _ e c p l u w
    go false e c p l u w = same_tally _ _ (omega (arith, e)) (omega (arith, c)) (omega (arith, p)) (omega (arith, l)) (omega (arith, u)) (omega (arith, w))

pub sum_handled : (f : Logged → ℕ) (xs : List Logged) (i : ℕ) (old : Logged) (how : Handled) → i < length xs → old ≡ get_or xs i old →
    (sum_by f (handled_at xs i how) + f old ≡ sum_by f xs + f (record { item = old.item; handled = Some how })) × (f old ≤ sum_by f xs)
sum_handled f [] i old how l e = absurd (omega arith)
sum_handled f (x ∷ xs) zero old how l e =
    let was : f old ≡ f x = ap f e in
    let now : f (record { item = old.item; handled = Some how }) ≡ f (record { item = x.item; handled = Some how }) = ap (λ (y : Logged). f (record { item = y.item; handled = Some how })) e in
    let a = sum_by-cons f x xs in
    let b = sum_by-cons f (record { item = x.item; handled = Some how }) xs in
    (omega (arith, was, now, a, b), omega (arith, was, a))
sum_handled f (x ∷ xs) (suc i) old how l e =
    let more = sum_handled f xs i old how (omega arith) e in
    let a = sum_by-cons f x xs in
    let b = sum_by-cons f x (handled_at xs i how) in
    let m0 = more.0 in
    let m1 = more.1 in
    (omega (arith, a, b, m0), omega (arith, a, m1))

-- the tally of its job loses the share that the item had, and gains the one that it has
abbrev pub tally_moved : Tally → Tally → Tally → Tally
tally_moved tally old new = tally_sum (tally_rest tally old) new

moved : (after sum old new : ℕ) → after + old ≡ sum + new → old ≤ sum → after ≡ (sum - old) + new
moved after sum old new e l = omega (arith, e, l)

stays : (after sum : ℕ) → after + 0 ≡ sum + 0 → after ≡ sum
stays after sum e = omega (arith, e)

abbrev Told : List Logged → List Logged → (Logged → ℕ) → ℕ → ℕ → Type 0
Told xs after f was now = (sum_by f after + was ≡ sum_by f xs + now) × (was ≤ sum_by f xs)

pub tally_handled : (job : ℕ) (xs : List Logged) (i : ℕ) (old : Logged) (how : Handled) → i < length xs → old ≡ get_or xs i old →
    tally_of job (handled_at xs i how) ≡ cond (nat_eq (job_of old.item) job) (tally_moved (tally_of job xs) (share_of old) (share_of (record { item = old.item; handled = Some how }))) (tally_of job xs)
tally_handled job xs i old how l e =
    let told = λ (f : Logged → ℕ). sum_handled f xs i old how l e in
    go (nat_eq (job_of old.item) job) (told (λ x. cond (is_object_of job x) 1 0)) (told (λ x. cond (is_edge_of job x) 1 0)) (told (λ x. cond (is_put_of job x) 1 0))
    (told (λ x. cond (is_listed_of job x) 1 0)) (told (λ x. cond (is_unhandled_of job x) 1 0)) (told (weight_of job))
  where
    after : List Logged
    after = handled_at xs i how

    new : Logged
    new = record { item = old.item; handled = Some how }

    go : (b : Bool) → Told xs after (λ x. cond (is_object_of job x) 1 0) (cond (b && is_object_item old.item) 1 0) (cond (b && is_object_item old.item) 1 0) →
        Told xs after (λ x. cond (is_edge_of job x) 1 0) (cond (b && not (is_object_item old.item)) 1 0) (cond (b && not (is_object_item old.item)) 1 0) →
        Told xs after (λ x. cond (is_put_of job x) 1 0) (cond (b && was_put old.handled) 1 0) (cond (b && was_put (Some how)) 1 0) →
        Told xs after (λ x. cond (is_listed_of job x) 1 0) (cond (b && was_listed old.handled) 1 0) (cond (b && was_listed (Some how)) 1 0) →
        Told xs after (λ x. cond (is_unhandled_of job x) 1 0) (cond (b && is_none old.handled) 1 0) (cond (b && false) 1 0) →
        Told xs after (weight_of job) (cond (b && is_none old.handled) (cond (is_object_item old.item) 4 2) 0) (cond (b && false) (cond (is_object_item old.item) 4 2) 0) →
        tally_of job after ≡ cond b (tally_moved (tally_of job xs) (share_of old) (share_of new)) (tally_of job xs)
    go true e c p l u w =
        same_tally _ _ (moved _ _ _ _ e.0 e.1) (moved _ _ _ _ c.0 c.1) (moved _ _ _ _ p.0 p.1) (moved _ _ _ _ l.0 l.1) (moved _ _ _ _ u.0 u.1) (moved _ _ _ _ w.0 w.1)
    go false e c p l u w = same_tally _ _ (stays _ _ e.0) (stays _ _ c.0) (stays _ _ p.0) (stays _ _ l.0) (stays _ _ u.0) (stays _ _ w.0)

-- the share of an item is within the tally of its job
pub share_within : (xs : List Logged) (i : ℕ) (old : Logged) → i < length xs → old ≡ get_or xs i old → Within (share_of old) (tally_of (job_of old.item) xs)
share_within xs i old l e = go (nat_eq (job_of old.item) (job_of old.item)) (grind (arith, nat_tests))
    (told (λ x. cond (is_object_of (job_of old.item) x) 1 0)) (told (λ x. cond (is_edge_of (job_of old.item) x) 1 0)) (told (λ x. cond (is_put_of (job_of old.item) x) 1 0))
    (told (λ x. cond (is_listed_of (job_of old.item) x) 1 0)) (told (λ x. cond (is_unhandled_of (job_of old.item) x) 1 0)) (told (weight_of (job_of old.item)))
  where
    told : (f : Logged → ℕ) → f old ≤ sum_by f xs
    told f = (sum_handled f xs i old (record { put = 0; cause = None }) l e).1

    go : (b : Bool) → b ≡ true → cond (b && is_object_item old.item) 1 0 ≤ count_by (is_object_of (job_of old.item)) xs →
        cond (b && not (is_object_item old.item)) 1 0 ≤ count_by (is_edge_of (job_of old.item)) xs →
        cond (b && was_put old.handled) 1 0 ≤ count_by (is_put_of (job_of old.item)) xs →
        cond (b && was_listed old.handled) 1 0 ≤ count_by (is_listed_of (job_of old.item)) xs →
        cond (b && is_none old.handled) 1 0 ≤ count_by (is_unhandled_of (job_of old.item)) xs →
        cond (b && is_none old.handled) (cond (is_object_item old.item) 4 2) 0 ≤ sum_by (weight_of (job_of old.item)) xs →
        Within (share_of old) (tally_of (job_of old.item) xs)
    go true h e c p l u w = record { erased = e; cut = c; put = p; listed = l; unhandled = u; weight = w }
    go false h e c p l u w = absurd (cc h)

-- how great the parts of a tally are

weight_one : (job : ℕ) (x : Logged) → weight_of job x ≤ 4
weight_one job x = go (is_unhandled_of job x) (is_object_item x.item)
  where
    go : (a b : Bool) → cond a (cond b 4 2) 0 ≤ 4
    go true true = omega arith
    go true false = omega arith
    go false b = omega arith

weight_all : (job : ℕ) (xs : List Logged) → sum_by (weight_of job) xs ≤ 4 * length xs
weight_all job [] = omega arith
weight_all job (x ∷ xs) = omega (arith, sum_by-cons (weight_of job) x xs, weight_one job x, weight_all job xs)

-- a tally of fewer items than a number is one of numbers of their types
pub tally_fits : (job : ℕ) (xs : List Logged) (a b : Tally) → length xs < 4294967296 → tally_sum a b ≡ tally_of job xs → Fits a b
tally_fits job xs a b l e = record {
  erased = omega (arith, ap (λ (t : Tally). t.erased) e, count_by-le-length (is_object_of job) xs, l);
  cut = omega (arith, ap (λ (t : Tally). t.cut) e, count_by-le-length (is_edge_of job) xs, l);
  put = omega (arith, ap (λ (t : Tally). t.put) e, count_by-le-length (is_put_of job) xs, l);
  listed = omega (arith, ap (λ (t : Tally). t.listed) e, count_by-le-length (is_listed_of job) xs, l);
  unhandled = omega (arith, ap (λ (t : Tally). t.unhandled) e, count_by-le-length (is_unhandled_of job) xs, l);
  weight = omega (arith, ap (λ (t : Tally). t.weight) e, weight_all job xs, l);
}

-- the items of a job are its objects and its edges
pub items_counted : (job : ℕ) (xs : List Logged) → count_by (is_object_of job) xs + count_by (is_edge_of job) xs ≡ count_by (is_of_job job) xs
items_counted job [] = refl
items_counted job (x ∷ xs) =
    go (is_of_job job x) (is_object_item x.item) (sum_by-cons (λ y. cond (is_object_of job y) 1 0) x xs) (sum_by-cons (λ y. cond (is_edge_of job y) 1 0) x xs)
    (sum_by-cons (λ y. cond (is_of_job job y) 1 0) x xs) (items_counted job xs)
  where
    go : (a b : Bool) → count_by (is_object_of job) (x ∷ xs) ≡ cond (a && b) 1 0 + count_by (is_object_of job) xs →
        count_by (is_edge_of job) (x ∷ xs) ≡ cond (a && not b) 1 0 + count_by (is_edge_of job) xs →
        count_by (is_of_job job) (x ∷ xs) ≡ cond a 1 0 + count_by (is_of_job job) xs →
        count_by (is_object_of job) xs + count_by (is_edge_of job) xs ≡ count_by (is_of_job job) xs →
        count_by (is_object_of job) (x ∷ xs) + count_by (is_edge_of job) (x ∷ xs) ≡ count_by (is_of_job job) (x ∷ xs)
    go true true o e j h = omega (arith, o, e, j, h)
    go true false o e j h = omega (arith, o, e, j, h)
    go false b o e j h = omega (arith, o, e, j, h)

-- the tally of a job with one item more
pub tally_with : (job : ℕ) (xs : List Logged) (y : Logged) (tally share : Tally) → job ≡ job_of y.item → tally ≡ tally_of job xs → share ≡ share_of y →
    tally_sum tally share ≡ tally_of job (xs ++ y ∷ [])
tally_with job xs y tally share j t s =
    let at : nat_eq (job_of y.item) job ≡ true = grind (arith, nat_tests, j) in
    ap (λ (v : Tally). tally_sum v share) t ∙ ap (tally_sum (tally_of job xs)) s
    ∙ sym (tally_push job xs y ∙ ap (λ (b : Bool). cond b (tally_sum (tally_of job xs) (share_of y)) (tally_of job xs)) at)

-- the tally of a job with an item handled
pub tally_changed : (job : ℕ) (xs : List Logged) (i : ℕ) (old : Logged) (how : Handled) (tally was now : Tally) → i < length xs → old ≡ get_or xs i old → job ≡ job_of old.item →
    tally ≡ tally_of job xs → was ≡ share_of old → now ≡ share_of (record { item = old.item; handled = Some how }) →
    tally_moved tally was now ≡ tally_of job (handled_at xs i how)
tally_changed job xs i old how tally was now l e j t w n =
    let at : nat_eq (job_of old.item) job ≡ true = grind (arith, nat_tests, j) in
    ap (λ (v : Tally). tally_moved v was now) t ∙ ap (λ (v : Tally). tally_moved (tally_of job xs) v now) w ∙ ap (tally_moved (tally_of job xs) (share_of old)) n
    ∙ sym (tally_handled job xs i old how l e ∙ ap (λ (b : Bool). cond b (tally_moved (tally_of job xs) (share_of old) (share_of (record { item = old.item; handled = Some how }))) (tally_of job xs)) at)

-- each job has its tally after one has another
pub tallies_kept : (before after : List Logged) (tally_at tally_at' : ℕ → Option Tally) (job : ℕ) (tally : Tally) →
    ((other : ℕ) → unwrap_or (tally_at other) no_tally ≡ tally_of other before) → tally ≡ tally_of job after →
    ((other : ℕ) → nat_eq job other ≡ false → tally_of other after ≡ tally_of other before) →
    ((other : ℕ) → tally_at' other ≡ cond (nat_eq job other) (Some tally) (tally_at other)) →
    (other : ℕ) → unwrap_or (tally_at' other) no_tally ≡ tally_of other after
tallies_kept before after tally_at tally_at' job tally fit own rest up other =
    ap (λ (o : Option Tally). unwrap_or o no_tally) (up other) ∙ go (nat_eq job other) refl
  where
    go : (b : Bool) → nat_eq job other ≡ b → unwrap_or (cond b (Some tally) (tally_at other)) no_tally ≡ tally_of other after
    go true h = let same : job ≡ other = grind (arith, nat_tests, h) in own ∙ ap (λ (k : ℕ). tally_of k after) same
    go false h = fit other ∙ sym (rest other h)

pub others_pushed : (job : ℕ) (xs : List Logged) (y : Logged) → job ≡ job_of y.item → (other : ℕ) → nat_eq job other ≡ false → tally_of other (xs ++ y ∷ []) ≡ tally_of other xs
others_pushed job xs y j other n =
    let at : nat_eq (job_of y.item) other ≡ false = grind (arith, nat_tests, j, n) in
    tally_push other xs y ∙ ap (λ (b : Bool). cond b (tally_sum (tally_of other xs) (share_of y)) (tally_of other xs)) at

pub others_handled : (job : ℕ) (xs : List Logged) (i : ℕ) (old : Logged) (how : Handled) → i < length xs → old ≡ get_or xs i old → job ≡ job_of old.item → (other : ℕ) → nat_eq job other ≡ false →
    tally_of other (handled_at xs i how) ≡ tally_of other xs
others_handled job xs i old how l e j other n =
    let at : nat_eq (job_of old.item) other ≡ false = grind (arith, nat_tests, j, n) in
    tally_handled other xs i old how l e
    ∙ ap (λ (b : Bool). cond b (tally_moved (tally_of other xs) (share_of old) (share_of (record { item = old.item; handled = Some how }))) (tally_of other xs)) at

grown : {A : Type 0} (xs : List A) (y : A) → length (xs ++ y ∷ []) ≡ length xs + 1
grown [] y = refl
grown (x ∷ xs) y = let more = grown xs y in omega (arith, more)

-- the part with one item more
pub pushed_items_fit : (kept after : List Kept) (tally_at tally_at' : ℕ → Option Tally) (capacity capacity' room room' spare job : ℕ) (y : Kept) (tally : Tally) → ItemsFit kept tally_at capacity room spare →
    after ≡ kept ++ y ∷ [] → job ≡ job_of y.item → tally ≡ tally_of job (map logged_of kept ++ logged_of y ∷ []) →
    ((other : ℕ) → tally_at' other ≡ cond (nat_eq job other) (Some tally) (tally_at other)) → capacity' ≡ capacity → room ≤ room' + 1 → 0 < spare → length kept + 1 < 4294967296 →
    ItemsFit after tally_at' capacity' room' (spare - 1)
pushed_items_fit kept after tally_at tally_at' capacity capacity' room room' spare job y tally fit a j t up c r s f = record {
  tallies = tallies_kept (map logged_of kept) (map logged_of after) tally_at tally_at' job tally fit.tallies (t ∙ ap (tally_of job) (sym list))
      (λ other n. ap (tally_of other) list ∙ others_pushed job (map logged_of kept) (logged_of y) j other n) up;
  fits = let len = longer in omega (arith, len, f);
  items_spare = let len = longer in omega (arith, fit.items_spare, len, c, s);
  tallies_spare = omega (arith, fit.tallies_spare, r, s);
}
  where
    longer : length after ≡ length kept + 1
    longer = ap (λ (xs : List Kept). length xs) a ∙ grown kept y

    list : map logged_of after ≡ map logged_of kept ++ logged_of y ∷ []
    list = ap (map logged_of) a ∙ map_push logged_of kept y

-- the part with one item handled
pub handled_items_fit : (kept after : List Kept) (tally_at tally_at' : ℕ → Option Tally) (capacity capacity' room room' spare job i : ℕ) (old : Kept) (how : Handled) (tally : Tally) → ItemsFit kept tally_at capacity room spare →
    i < length kept → old ≡ get_or kept i old → length after ≡ length kept → map logged_of after ≡ handled_at (map logged_of kept) i how → job ≡ job_of old.item →
    tally ≡ tally_of job (handled_at (map logged_of kept) i how) →
    ((other : ℕ) → tally_at' other ≡ cond (nat_eq job other) (Some tally) (tally_at other)) → capacity' ≡ capacity → room ≤ room' + 1 → 0 < spare →
    ItemsFit after tally_at' capacity' room' (spare - 1)
handled_items_fit kept after tally_at tally_at' capacity capacity' room room' spare job i old how tally fit l e len list j t up c r s = record {
  tallies = tallies_kept (map logged_of kept) (map logged_of after) tally_at tally_at' job tally fit.tallies (t ∙ ap (tally_of job) (sym list))
      (λ other n. ap (tally_of other) list ∙ others_handled job (map logged_of kept) i (logged_of old) how (omega (arith, l, map_length logged_of kept)) item j other n) up;
  fits = omega (arith, fit.fits, len);
  items_spare = omega (arith, fit.items_spare, len, c, s);
  tallies_spare = omega (arith, fit.tallies_spare, r, s);
}
  where
    item : logged_of old ≡ get_or (map logged_of kept) i (logged_of old)
    item = ap logged_of e ∙ sym (get_map logged_of kept i old)

pub handled_length : (xs : List Logged) (i : ℕ) (how : Handled) → length (handled_at xs i how) ≡ length xs
handled_length [] i how = refl
handled_length (x ∷ xs) zero how = refl
handled_length (x ∷ xs) (suc i) how = ap suc (handled_length xs i how)

-- the same over the kept items

module _ (kept : List Kept) (i job : ℕ) (old : Kept) (how : Handling) (tally was now : Tally) (l : i < length kept) (e : old ≡ get_or kept i old) (j : job ≡ job_of old.item)
    (t : tally ≡ tally_of job (map logged_of kept)) (w : was ≡ share_of (logged_of old)) where
  short : i < length (map logged_of kept)
  short = omega (arith, l, map_length logged_of kept)

  item : logged_of old ≡ get_or (map logged_of kept) i (logged_of old)
  item = ap logged_of e ∙ sym (get_map logged_of kept i old)

  pub rest_within : Within was tally
  rest_within =
      let inner : Within was (tally_of (job_of old.item) (map logged_of kept)) = subst (λ (v : Tally). Within v (tally_of (job_of old.item) (map logged_of kept))) (sym w) (share_within (map logged_of kept) i (logged_of old) short item) in
      subst (λ (v : Tally). Within was v) (sym (t ∙ ap (λ (k : ℕ). tally_of k (map logged_of kept)) j)) inner

  pub handled_tally : now ≡ share_of (logged_of (record { item = old.item; handled = Some how })) → tally_moved tally was now ≡ tally_of job (handled_at (map logged_of kept) i (handled_of how))
  handled_tally n = tally_changed job (map logged_of kept) i (logged_of old) (handled_of how) tally was now short item j t w n

  pub handled_within : (rest : Tally) → rest ≡ tally_rest tally was → now ≡ share_of (logged_of (record { item = old.item; handled = Some how })) → length kept < 4294967296 → Fits rest now
  handled_within rest r n f =
      tally_fits job (handled_at (map logged_of kept) i (handled_of how)) rest now (omega (arith, f, map_length logged_of kept, handled_length (map logged_of kept) i (handled_of how)))
      (ap (λ (v : Tally). tally_sum v now) r ∙ handled_tally n)

pub parts_counted : (job : ℕ) (xs : List Logged) (tally : Tally) → tally ≡ tally_of job xs → tally.erased + tally.cut ≡ count_by (is_of_job job) xs
parts_counted job xs tally e =
    let counted = items_counted job xs in
    let a : tally.erased ≡ count_by (is_object_of job) xs = ap (λ (t : Tally). t.erased) e in
    let b : tally.cut ≡ count_by (is_edge_of job) xs = ap (λ (t : Tally). t.cut) e in
    omega (arith, counted, a, b)

-- the part with more room
pub reserved_items : (kept after : List Kept) (tally_at tally_at' : ℕ → Option Tally) (capacity capacity' room room' spare spare' : ℕ) → ItemsFit kept tally_at capacity room spare → after ≡ kept → ((q : ℕ) → tally_at' q ≡ tally_at q) →
    length kept + spare' ≤ capacity' → spare' ≤ room' → ItemsFit after tally_at' capacity' room' spare'
reserved_items kept after tally_at tally_at' capacity capacity' room room' spare spare' fit e same c r = record {
  tallies = λ job. ap (λ (o : Option Tally). unwrap_or o no_tally) (same job) ∙ fit.tallies job ∙ ap (λ (l : List Kept). tally_of job (map logged_of l)) (sym e);
  fits = let len = ap (λ (l : List Kept). length l) e in omega (arith, fit.fits, len);
  items_spare = let len = ap (λ (l : List Kept). length l) e in omega (arith, c, len);
  tallies_spare = r;
}
