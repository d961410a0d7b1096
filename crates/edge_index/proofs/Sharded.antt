-- What is found in shards, and what a change of one shard makes of all.
use Rattle.std.proofs.Common.{◌≡◌, ◌≢◌, ℕ, zero, suc, ◌<◌, Bool, true, false, cond, eqb, Option, Some, None, Result, Ok, Err, OnErr, List, [], ◌∷◌, ◌++◌, length, get_or, drop, refl, sym, ap, subst, ◌∙◌, arith}
use Rattle.std.proofs.lemmas.Bool.Decides.{nat_tests}
use Rattle.std.proofs.lemmas.Bool.{eqb-true}
use Rattle.std.proofs.Math.ListN.{set}
use Rattle.std.specs.Map.{lookup}
use Rattle.std.specs.Option.{option_or}
use Rattle.edge_index.specs.Shards.{shard, all_in, InShards}

-- a fact that holds anyway holds on an error
pub on_err : {A E : Type 0} (r : Result A E) (P : Type 0) → P → OnErr r P
on_err (Ok x) P p = tt
on_err (Err e) P p = p

self : (a : ℕ) → eqb a a ≡ true
self a = grind (arith, nat_tests)

unequal : (a b : ℕ) → eqb a b ≡ false → a ≢ b
unequal a b is = λ same. let no : false ≡ true = sym is ∙ (ap (λ (n : ℕ). eqb n b) same ∙ self b) in absurd (cc)

-- one shard of a list

pub shard_get : {M E : Type 0} (f : M → List E) (ms : List M) (k : ℕ) (m : M) → k < length ms → m ≡ get_or ms k m → shard f ms k ≡ f m
shard_get f [] k m below is = absurd (omega arith)
shard_get f (x ∷ ms) zero m below is = ap f (sym is)
shard_get f (x ∷ ms) (suc k) m below is = shard_get f ms k m (omega arith) is

pub shard_at : {M E : Type 0} (f : M → List E) (ms : List M) (k n : ℕ) (m : M) → k ≡ n → k < length ms → m ≡ get_or ms k m → f m ≡ shard f ms n
shard_at f ms k n m at below is = sym (shard_get f ms k m below is) ∙ ap (shard f ms) at

pub shard_here : {M E : Type 0} (f : M → List E) (ms : List M) (k : ℕ) (new : M) → k < length ms → shard f (set ms k new) k ≡ f new
shard_here f [] k new below = absurd (omega arith)
shard_here f (x ∷ ms) zero new below = refl
shard_here f (x ∷ ms) (suc k) new below = shard_here f ms k new (omega arith)

pub shard_there : {M E : Type 0} (f : M → List E) (ms : List M) (k n : ℕ) (new : M) → n ≢ k → shard f (set ms k new) n ≡ shard f ms n
shard_there f [] zero n new other = refl
shard_there f [] (suc k) n new other = refl
shard_there f (x ∷ ms) zero zero new other = absurd (other refl)
shard_there f (x ∷ ms) zero (suc n) new other = refl
shard_there f (x ∷ ms) (suc k) zero new other = refl
shard_there f (x ∷ ms) (suc k) (suc n) new other = shard_there f ms k n new (λ same. other (ap suc same))

pub set_len : {M : Type 0} (ms : List M) (k : ℕ) (new : M) → length (set ms k new) ≡ length ms
set_len [] zero new = refl
set_len [] (suc k) new = refl
set_len (x ∷ ms) zero new = refl
set_len (x ∷ ms) (suc k) new = ap suc (set_len ms k new)

-- what holds of each shard, after one has changed
pub each_set : {M E : Type 0} (f : M → List E) (P : List E → Type 0) (ms : List M) (k : ℕ) (new : M) → k < length ms → P (f new) →
    ((n : ℕ) → P (shard f ms n)) → (n : ℕ) → P (shard f (set ms k new) n)
each_set {M} {E} f P ms k new below here there n = go (eqb n k) refl
  where
    go : (b : Bool) → eqb n k ≡ b → P (shard f (set ms k new) n)
    go true is = subst (λ (es : List E). P es) (sym (ap (shard f (set ms k new)) (eqb-true n k is) ∙ shard_here f ms k new below)) here
    go false is = subst (λ (es : List E). P es) (sym (shard_there f ms k n new (unequal n k is))) (there n)

-- a shard written with what it had
pub shard_same : {M E : Type 0} (f : M → List E) (ms : List M) (k : ℕ) (old new : M) → k < length ms → old ≡ get_or ms k old → f new ≡ f old → shard f (set ms k new) ≡ shard f ms
shard_same {M} {E} f ms k old new below is same = λ i n. at n i
  where
    at : (n : ℕ) → shard f (set ms k new) n ≡ shard f ms n
    at n = go (eqb n k) refl
      where
        go : (b : Bool) → eqb n k ≡ b → shard f (set ms k new) n ≡ shard f ms n
        go true here = ap (shard f (set ms k new)) (eqb-true n k here) ∙ (shard_here f ms k new below ∙ (same ∙ (sym (shard_get f ms k old below is) ∙ ap (shard f ms) (sym (eqb-true n k here)))))
        go false here = shard_there f ms k n new (unequal n k here)

pub none_more : {M E : Type 0} (f : M → List E) (ms : List M) (new : M) → f new ≡ [] → ((n : ℕ) → shard f ms n ≡ []) → (n : ℕ) → shard f (ms ++ new ∷ []) n ≡ []
none_more f [] new empty none zero = empty
none_more f [] new empty none (suc n) = refl
none_more f (x ∷ ms) new empty none zero = none 0
none_more f (x ∷ ms) new empty none (suc n) = none_more f ms new empty (λ k. none (suc k)) n

-- what is found of a key in its shard

abbrev pub Homes : {K : Type 0} → (K → K → Bool) → (K → ℕ) → Type 0
Homes {K} eq home = (a b : K) → eq a b ≡ true → home a ≡ home b

-- what a map has after one key is written or taken out
abbrev pub Written : {K X : Type 0} → (K → K → Bool) → List (K × X) → List (K × X) → K → Option X → Type 0
Written {K} eq old new key v = (q : K) → lookup (eq q) new ≡ cond (eq key q) v (lookup (eq q) old)

apart : {K : Type 0} (eq : K → K → Bool) (home : K → ℕ) → Homes eq home → (key q : K) → home q ≢ home key → (b : Bool) → eq key q ≡ b → b ≡ false
apart eq home homes key q other true is = absurd (other (sym (homes key q is)))
apart eq home homes key q other false is = refl

pub found_set : {M K X : Type 0} (f : M → List (K × X)) (eq : K → K → Bool) (home : K → ℕ) → Homes eq home → (ms : List M) (k : ℕ) (old new : M) (key : K) (v : Option X) →
    k ≡ home key → k < length ms → old ≡ get_or ms k old → Written eq (f old) (f new) key v →
    (q : K) → lookup (eq q) (shard f (set ms k new) (home q)) ≡ cond (eq key q) v (lookup (eq q) (shard f ms (home q)))
found_set {M} {K} {X} f eq home homes ms k old new key v at below is written q = go (eqb (home q) k) refl
  where
    go : (b : Bool) → eqb (home q) k ≡ b → lookup (eq q) (shard f (set ms k new) (home q)) ≡ cond (eq key q) v (lookup (eq q) (shard f ms (home q)))
    go true same =
        subst (λ (n : ℕ). lookup (eq q) (shard f (set ms k new) n) ≡ cond (eq key q) v (lookup (eq q) (shard f ms n))) (sym (eqb-true (home q) k same))
        (ap (lookup (eq q)) (shard_here f ms k new below)
        ∙ (written q ∙ ap (λ (es : List (K × X)). cond (eq key q) v (lookup (eq q) es)) (sym (shard_get f ms k old below is))))
    go false same =
        let away : home q ≢ k = unequal (home q) k same in
        ap (lookup (eq q)) (shard_there f ms k (home q) new away)
        ∙ sym (ap (λ (b : Bool). cond b v (lookup (eq q) (shard f ms (home q)))) (apart eq home homes key q (λ equal. away (equal ∙ sym at)) (eq key q) refl))

-- what is found among all

pub found_joined : {K X : Type 0} (test : K → Bool) (xs ys : List (K × X)) → lookup test (xs ++ ys) ≡ option_or (lookup test xs) (lookup test ys)
found_joined test [] ys = refl
found_joined test (x ∷ xs) ys = go (test x.0) (found_joined test xs ys)
  where
    go : (b : Bool) → lookup test (xs ++ ys) ≡ option_or (lookup test xs) (lookup test ys) →
        cond b (Some x.1) (lookup test (xs ++ ys)) ≡ option_or (cond b (Some x.1) (lookup test xs)) (lookup test ys)
    go true more = refl
    go false more = more

or_none : {X : Type 0} (o : Option X) → option_or o None ≡ o
or_none None = refl
or_none (Some x) = refl

none_in : {M K X : Type 0} (f : M → List (K × X)) (test : K → Bool) (ms : List M) → ((n : ℕ) → lookup test (shard f ms n) ≡ None) → lookup test (all_in f ms) ≡ None
none_in f test [] none = refl
none_in f test (m ∷ ms) none =
    found_joined test (f m) (all_in f ms)
    ∙ (ap (λ (o : Option _). option_or o (lookup test (all_in f ms))) (none 0) ∙ none_in f test ms (λ n. none (suc n)))

found_in : {M K X : Type 0} (f : M → List (K × X)) (test : K → Bool) (ms : List M) (k : ℕ) → ((n : ℕ) → n ≢ k → lookup test (shard f ms n) ≡ None) →
    lookup test (all_in f ms) ≡ lookup test (shard f ms k)
found_in f test [] k none = refl
found_in f test (m ∷ ms) zero none =
    found_joined test (f m) (all_in f ms)
    ∙ (ap (option_or (lookup test (f m))) (none_in f test ms (λ n. none (suc n) (λ same. omega arith))) ∙ or_none (lookup test (f m)))
found_in f test (m ∷ ms) (suc k) none =
    found_joined test (f m) (all_in f ms)
    ∙ (ap (λ (o : Option _). option_or o (lookup test (all_in f ms))) (none 0 (λ same. omega arith))
    ∙ found_in f test ms k (λ n other. none (suc n) (λ same. other (omega arith))))

pub found_all : {M K X : Type 0} (f : M → List (K × X)) (eq : K → K → Bool) (home : K → ℕ) (ms : List M) → InShards f eq home ms → (q : K) →
    lookup (eq q) (all_in f ms) ≡ lookup (eq q) (shard f ms (home q))
found_all f eq home ms shards q = found_in f (eq q) ms (home q) (λ n other. shards n q other)

pub in_shards_set : {M K X : Type 0} (f : M → List (K × X)) (eq : K → K → Bool) (home : K → ℕ) → Homes eq home → (ms : List M) (k : ℕ) (old new : M) (key : K) (v : Option X) →
    k ≡ home key → k < length ms → old ≡ get_or ms k old → Written eq (f old) (f new) key v → InShards f eq home ms → InShards f eq home (set ms k new)
in_shards_set {M} {K} {X} f eq home homes ms k old new key v at below is written shards = λ n q other. go n q other (eqb n k) refl
  where
    go : (n : ℕ) (q : K) → n ≢ home q → (b : Bool) → eqb n k ≡ b → lookup (eq q) (shard f (set ms k new) n) ≡ None
    go n q other true same =
        let here : n ≡ k = eqb-true n k same in
        ap (λ (m : ℕ). lookup (eq q) (shard f (set ms k new) m)) here
        ∙ (ap (lookup (eq q)) (shard_here f ms k new below)
        ∙ (written q
        ∙ (ap (λ (b : Bool). cond b v (lookup (eq q) (f old))) (apart eq home homes key q (λ equal. other (here ∙ (at ∙ sym equal))) (eq key q) refl)
        ∙ (ap (lookup (eq q)) (sym (shard_get f ms k old below is)) ∙ shards k q (λ equal. other (here ∙ equal))))))
    go n q other false same = ap (lookup (eq q)) (shard_there f ms k n new (unequal n k same)) ∙ shards n q other

pub found_all_set : {M K X : Type 0} (f : M → List (K × X)) (eq : K → K → Bool) (home : K → ℕ) → Homes eq home → (ms : List M) (k : ℕ) (old new : M) (key : K) (v : Option X) →
    k ≡ home key → k < length ms → old ≡ get_or ms k old → Written eq (f old) (f new) key v → InShards f eq home ms → Written eq (all_in f ms) (all_in f (set ms k new)) key v
found_all_set f eq home homes ms k old new key v at below is written shards = λ q.
    found_all f eq home (set ms k new) (in_shards_set f eq home homes ms k old new key v at below is written shards) q
    ∙ (found_set f eq home homes ms k old new key v at below is written q
    ∙ ap (cond (eq key q) v) (sym (found_all f eq home ms shards q)))

pub found_here : {M K X : Type 0} (f : M → List (K × X)) (eq : K → K → Bool) (home : K → ℕ) (ms : List M) (k : ℕ) (m : M) (q : K) → k ≡ home q → k < length ms → m ≡ get_or ms k m →
    InShards f eq home ms → lookup (eq q) (f m) ≡ lookup (eq q) (all_in f ms)
found_here f eq home ms k m q at below is shards =
    ap (lookup (eq q)) (sym (shard_get f ms k m below is) ∙ ap (shard f ms) at) ∙ sym (found_all f eq home ms shards q)

pub more_in : {M E : Type 0} (f : M → List E) (ms : List M) (k : ℕ) (m : M) → k < length ms → m ≡ get_or ms k m → all_in f (drop k ms) ≡ f m ++ all_in f (drop (suc k) ms)
more_in f [] k m below is = absurd (omega arith)
more_in f (x ∷ ms) zero m below is = ap (λ y. f y ++ all_in f ms) (sym is)
more_in f (x ∷ ms) (suc k) m below is = more_in f ms k m (omega arith) is

-- shards that hold nothing
pub none_in_all : {M E : Type 0} (f : M → List E) (ms : List M) → ((n : ℕ) → shard f ms n ≡ []) → all_in f ms ≡ []
none_in_all f [] none = refl
none_in_all {M} {E} f (m ∷ ms) none = ap (λ (es : List E). es ++ all_in f ms) (none 0) ∙ none_in_all f ms (λ n. none (suc n))

pub none_in_shards : {M K X : Type 0} (f : M → List (K × X)) (eq : K → K → Bool) (home : K → ℕ) (ms : List M) → ((n : ℕ) → shard f ms n ≡ []) → InShards f eq home ms
none_in_shards f eq home ms none = λ n q other. ap (lookup (eq q)) (none n)

-- shards of which one was written with what it had
pub all_same : {M E : Type 0} (f : M → List E) (ms : List M) (k : ℕ) (old new : M) → k < length ms → old ≡ get_or ms k old → f new ≡ f old → all_in f (set ms k new) ≡ all_in f ms
all_same f [] k old new below is same = absurd (omega arith)
all_same {M} {E} f (x ∷ ms) zero old new below is same = ap (λ (es : List E). es ++ all_in f ms) (same ∙ ap f is)
all_same {M} {E} f (x ∷ ms) (suc k) old new below is same = ap (λ (es : List E). f x ++ es) (all_same f ms k old new (omega arith) is same)

pub in_shards_same : {M K X : Type 0} (f : M → List (K × X)) (eq : K → K → Bool) (home : K → ℕ) (ms : List M) (k : ℕ) (old new : M) → k < length ms → old ≡ get_or ms k old → f new ≡ f old →
    InShards f eq home ms → InShards f eq home (set ms k new)
in_shards_same f eq home ms k old new below is same shards = λ n q other. ap (λ at. lookup (eq q) (at n)) (shard_same f ms k old new below is same) ∙ shards n q other

-- what is found in the shards from a place on, where one more is looked at
pub more_found : {M K X : Type 0} (f : M → List (K × X)) (test : K → Bool) (ms : List M) (old k : ℕ) (m : M) → old ≡ suc k → k < length ms → m ≡ get_or ms k m →
    option_or (lookup test (f m)) (lookup test (all_in f (drop old ms))) ≡ lookup test (all_in f (drop k ms))
more_found f test ms old k m next below is =
    ap (λ (n : ℕ). option_or (lookup test (f m)) (lookup test (all_in f (drop n ms)))) next
    ∙ (sym (found_joined test (f m) (all_in f (drop (suc k) ms))) ∙ ap (lookup test) (sym (more_in f ms k m below is)))
