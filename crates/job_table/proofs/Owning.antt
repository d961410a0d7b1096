-- Pairs of an object and its owner, in their two orders.
use Rattle.std.proofs.Common.{◌≡◌, ℕ, zero, suc, ◌+◌, ◌-◌, ◌<◌, ◌≤◌, Bool, true, false, cond, not, ◌&&◌, ◌||◌, List, [], ◌∷◌, ◌++◌, length, get_or, Option, Some, None, refl, sym, ap, ◌∙◌, subst, arith}
use Rattle.std.specs.Prelude.{find, is_some, nat_eq, nat_lt, option_map, insert, remove, slice_get, OnSome}
use Rattle.std.specs.List.{list_any}
use Rattle.std.proofs.lemmas.Bool.Decides.{nat_tests}
use Rattle.std.proofs.lemmas.List.Sums.{sum_by-cons}
use Rattle.delf_model.specs.Graph.{Graph, objects_rise, out_edges, in_edges}
use Rattle.delf_model.specs.State.{State, JobRow, owner, owned, job_row, starts_at, is_job, is_pair_of}
use Rattle.delf_model.specs.Order.{owns_some, erasure_of_pair, erasure_of_job, first_erasure, cut_or_erase}
use Rattle.job_table.specs.Apart.{are_apart}
use Rattle.job_table.specs.declared.jobs.Row.{Row}
use Rattle.job_table.specs.Parts.{row_of}
use Rattle.job_table.specs.Owning.{is_before, rise_after, pairs_rise, Gains, OwnersFit, has_row}
use Rattle.job_table.specs.Table.{Table, IsTableOf, starts_rise, owner_among, owned_among, is_of_id, is_of_owner, job_of_pair}
use Rattle.job_table.proofs.Lookups.{both, join}
use Rattle.job_table.proofs.Steps.{eqb_self, eqb_is}
use Rattle.job_table.proofs.Accounts.{pairs_push}
use Rattle.job_table.proofs.Places.{without, owner_without, owned_without, apart_without}
use Rattle.job_table.proofs.Lefts.{later_start, row_at_place}
use Rattle.job_table.proofs.Leasts.{has_pair, has_owner, owner_has, found_owner, found_least, none_owned}
use Rattle.job_table.proofs.FreeSteps.{found_passes, found_place, found_owns}

-- the order of pairs

after_itself : (job id : ℕ) → is_before job id (id, job) ≡ false
after_itself job id = grind (arith, nat_tests)

before_trans : (a b : ℕ × ℕ) (job id : ℕ) → is_before b.1 b.0 a ≡ true → is_before job id b ≡ true → is_before job id a ≡ true
before_trans a b job id h k = grind (arith, nat_tests, h, k)

turned : (x : ℕ × ℕ) (job id : ℕ) → is_before job id x ≡ false → nat_eq x.0 id ≡ false → is_before x.1 x.0 (id, job) ≡ true
turned x job id h n = grind (arith, nat_tests, h, n)

pub rise_tail : (x : ℕ × ℕ) (xs : List (ℕ × ℕ)) → rise_after x xs ≡ true → pairs_rise xs ≡ true
rise_tail x [] h = refl
rise_tail x (y ∷ ys) h = (both (is_before y.1 y.0 x) (rise_after y ys) h).1

rise_lower : (low x : ℕ × ℕ) (xs : List (ℕ × ℕ)) → is_before x.1 x.0 low ≡ true → rise_after x xs ≡ true → rise_after low xs ≡ true
rise_lower low x [] l h = refl
rise_lower low x (y ∷ ys) l h =
    let parts = both (is_before y.1 y.0 x) (rise_after y ys) h in
    join (is_before y.1 y.0 low) (rise_after y ys) (before_trans low x y.1 y.0 l parts.0) parts.1

-- what a test finds behind an element is not before it
pub found_after : (p : ℕ × ℕ → Bool) (low pair : ℕ × ℕ) (xs : List (ℕ × ℕ)) → rise_after low xs ≡ true → find p xs ≡ Some pair → is_before pair.1 pair.0 low ≡ true
found_after p low pair [] r f = absurd (cc f)
found_after p low pair (x ∷ xs) r f =
    let parts = both (is_before x.1 x.0 low) (rise_after x xs) r in
    go (p x) f parts.0 (found_after p x pair xs parts.1)
  where
    go : (b : Bool) → cond b (Some x) (find p xs) ≡ Some pair → is_before x.1 x.0 low ≡ true → (find p xs ≡ Some pair → is_before pair.1 pair.0 x ≡ true) → is_before pair.1 pair.0 low ≡ true
    go true h l more = let same : x ≡ pair = cc h in subst (λ (y : ℕ × ℕ). is_before y.1 y.0 low ≡ true) same l
    go false h l more = before_trans low x pair.1 pair.0 l (more h)

-- any element behind one is behind those before it
rises_at : (low : ℕ × ℕ) (xs : List (ℕ × ℕ)) (j : ℕ) (d : ℕ × ℕ) → rise_after low xs ≡ true → j < length xs → is_before (get_or xs j d).1 (get_or xs j d).0 low ≡ true
rises_at low [] j d r l = absurd (omega arith)
rises_at low (x ∷ xs) zero d r l = (both (is_before x.1 x.0 low) (rise_after x xs) r).0
rises_at low (x ∷ xs) (suc j) d r l =
    let parts = both (is_before x.1 x.0 low) (rise_after x xs) r in
    before_trans low x (get_or xs j d).1 (get_or xs j d).0 parts.0 (rises_at x xs j d parts.1 (omega arith))

-- no element that is before a pair comes behind one that is not
pub parted : (job id : ℕ) (xs : List (ℕ × ℕ)) → pairs_rise xs ≡ true → (i j : ℕ) (d : ℕ × ℕ) → i ≤ j → j < length xs →
    is_before job id (get_or xs j d) ≡ true → is_before job id (get_or xs i d) ≡ true
parted job id [] r i j d l k h = absurd (omega arith)
parted job id (x ∷ xs) r zero zero d l k h = h
parted job id (x ∷ xs) r zero (suc j) d l k h =
    before_trans x (get_or xs j d) job id (rises_at x xs j d r (omega arith)) h
parted job id (x ∷ xs) r (suc i) zero d l k h = absurd (omega arith)
parted job id (x ∷ xs) r (suc i) (suc j) d l k h = parted job id xs (rise_tail x xs r) i j d (omega arith) (omega arith) h

-- a pair put in its place

free_head : (x : ℕ × ℕ) (xs : List (ℕ × ℕ)) (id : ℕ) → owner_among (x ∷ xs) id ≡ None → (nat_eq x.0 id ≡ false) × (owner_among xs id ≡ None)
free_head x xs id n = go (nat_eq x.0 id) refl n
  where
    go : (b : Bool) → nat_eq x.0 id ≡ b → option_map job_of_pair (cond b (Some x) (find (is_of_id id) xs)) ≡ None → (nat_eq x.0 id ≡ false) × (owner_among xs id ≡ None)
    go true e h = absurd (cc h)
    go false e h = (e, h)

module _ (id job : ℕ) where
  insert_after : (low : ℕ × ℕ) (xs : List (ℕ × ℕ)) (i : ℕ) → rise_after low xs ≡ true → is_before job id low ≡ true → i ≤ length xs →
      ((k : ℕ) (d : ℕ × ℕ) → k < i → is_before job id (get_or xs k d) ≡ true) →
      ((k : ℕ) (d : ℕ × ℕ) → i ≤ k → k < length xs → is_before job id (get_or xs k d) ≡ false) → owner_among xs id ≡ None →
      rise_after low (insert xs i (id, job)) ≡ true
  insert_after low [] zero r b l before after n = join _ true b refl
  insert_after low [] (suc i) r b l before after n = absurd (omega arith)
  insert_after low (x ∷ xs) zero r b l before after n =
      let parts = both (is_before x.1 x.0 low) (rise_after x xs) r in
      join (is_before job id low) _ b (join (is_before x.1 x.0 (id, job)) (rise_after x xs) (turned x job id (after 0 x (omega arith) (omega arith)) (free_head x xs id n).0) parts.1)
  insert_after low (x ∷ xs) (suc i) r b l before after n =
      let parts = both (is_before x.1 x.0 low) (rise_after x xs) r in
      join (is_before x.1 x.0 low) _ parts.0
      (insert_after x xs i parts.1 (before 0 x (omega arith)) (omega arith) (λ k d h. before (suc k) d (omega arith)) (λ k d h m. after (suc k) d (omega arith) (omega arith)) (free_head x xs id n).1)

  pub insert_rises : (xs : List (ℕ × ℕ)) (i : ℕ) → pairs_rise xs ≡ true → i ≤ length xs →
      ((k : ℕ) (d : ℕ × ℕ) → k < i → is_before job id (get_or xs k d) ≡ true) →
      ((k : ℕ) (d : ℕ × ℕ) → i ≤ k → k < length xs → is_before job id (get_or xs k d) ≡ false) → owner_among xs id ≡ None →
      pairs_rise (insert xs i (id, job)) ≡ true
  insert_rises [] zero r l before after n = refl
  insert_rises [] (suc i) r l before after n = absurd (omega arith)
  insert_rises (x ∷ xs) zero r l before after n =
      join (is_before x.1 x.0 (id, job)) (rise_after x xs) (turned x job id (after 0 x (omega arith) (omega arith)) (free_head x xs id n).0) r
  insert_rises (x ∷ xs) (suc i) r l before after n =
      insert_after x xs i r (before 0 x (omega arith)) (omega arith) (λ k d h. before (suc k) d (omega arith)) (λ k d h m. after (suc k) d (omega arith) (omega arith)) (free_head x xs id n).1

  head_owner : (other : ℕ) (xs : List (ℕ × ℕ)) → owner_among ((id, job) ∷ xs) other ≡ cond (nat_eq other id) (Some job) (owner_among xs other)
  head_owner other xs = go (nat_eq id other) refl (nat_eq other id) refl
    where
      go : (a : Bool) → nat_eq id other ≡ a → (b : Bool) → nat_eq other id ≡ b → option_map job_of_pair (cond a (Some (id, job)) (find (is_of_id other) xs)) ≡ cond b (Some job) (owner_among xs other)
      go true e true f = refl
      go true e false f = absurd (grind (arith, nat_tests, e, f))
      go false e true f = absurd (grind (arith, nat_tests, e, f))
      go false e false f = refl

  pub insert_owner : (other : ℕ) (xs : List (ℕ × ℕ)) (i : ℕ) → owner_among xs id ≡ None → owner_among (insert xs i (id, job)) other ≡ cond (nat_eq other id) (Some job) (owner_among xs other)
  insert_owner other xs zero n = head_owner other xs
  insert_owner other [] (suc i) n = head_owner other []
  insert_owner other (x ∷ xs) (suc i) n =
      let free = free_head x xs id n in
      go (nat_eq x.0 other) refl (nat_eq other id) refl free.0 (insert_owner other xs i free.1)
    where
      go : (a : Bool) → nat_eq x.0 other ≡ a → (b : Bool) → nat_eq other id ≡ b → nat_eq x.0 id ≡ false → owner_among (insert xs i (id, job)) other ≡ cond (nat_eq other id) (Some job) (owner_among xs other) →
          option_map job_of_pair (cond a (Some x) (find (is_of_id other) (insert xs i (id, job)))) ≡ cond b (Some job) (option_map job_of_pair (cond a (Some x) (find (is_of_id other) xs)))
      go true e true f m more = absurd (grind (arith, nat_tests, e, f, m))
      go true e false f m more = refl
      go false e b f m more = more ∙ ap (λ (c : Bool). cond c (Some job) (owner_among xs other)) f

  head_owned : (other : ℕ) (xs : List (ℕ × ℕ)) → owned_among ((id, job) ∷ xs) other ≡ owned_among xs other + cond (nat_eq job other) 1 0
  head_owned other xs = omega (arith, sum_by-cons (λ (p : ℕ × ℕ). cond (is_of_owner other p) 1 0) (id, job) xs)

  pub insert_owned : (other : ℕ) (xs : List (ℕ × ℕ)) (i : ℕ) → owned_among (insert xs i (id, job)) other ≡ owned_among xs other + cond (nat_eq job other) 1 0
  insert_owned other xs zero = head_owned other xs
  insert_owned other [] (suc i) = head_owned other []
  insert_owned other (x ∷ xs) (suc i) =
      omega (arith, sum_by-cons (λ (p : ℕ × ℕ). cond (is_of_owner other p) 1 0) x xs, sum_by-cons (λ (p : ℕ × ℕ). cond (is_of_owner other p) 1 0) x (insert xs i (id, job)), insert_owned other xs i)

  insert_any : (other : ℕ) (xs : List (ℕ × ℕ)) (i : ℕ) → nat_eq id other ≡ false → list_any (is_of_id other) xs ≡ false → list_any (is_of_id other) (insert xs i (id, job)) ≡ false
  insert_any other xs zero n h = ap (λ (b : Bool). b || list_any (is_of_id other) xs) n ∙ h
  insert_any other [] (suc i) n h = ap (λ (b : Bool). b || false) n
  insert_any other (x ∷ xs) (suc i) n h = go (nat_eq x.0 other) refl h (insert_any other xs i n)
    where
      go : (b : Bool) → nat_eq x.0 other ≡ b → (b || list_any (is_of_id other) xs) ≡ false → (list_any (is_of_id other) xs ≡ false → list_any (is_of_id other) (insert xs i (id, job)) ≡ false) →
          (b || list_any (is_of_id other) (insert xs i (id, job))) ≡ false
      go true e f more = absurd (cc f)
      go false e f more = more f

  none_any : (xs : List (ℕ × ℕ)) → owner_among xs id ≡ None → list_any (is_of_id id) xs ≡ false
  none_any [] n = refl
  none_any (x ∷ xs) n = let free = free_head x xs id n in ap (λ (b : Bool). b || list_any (is_of_id id) xs) free.0 ∙ none_any xs free.1

  pub insert_apart : (xs : List (ℕ × ℕ)) (i : ℕ) → owner_among xs id ≡ None → are_apart xs ≡ true → are_apart (insert xs i (id, job)) ≡ true
  insert_apart xs zero n h = ap (λ (b : Bool). not b && are_apart xs) (none_any xs n) ∙ h
  insert_apart [] (suc i) n h = refl
  insert_apart (x ∷ xs) (suc i) n h = go (list_any (is_of_id x.0) xs) refl h (insert_apart xs i (free_head x xs id n).1)
    where
      flipped : nat_eq x.0 id ≡ false → nat_eq id x.0 ≡ false
      flipped e = grind (arith, nat_tests, e)

      go : (b : Bool) → list_any (is_of_id x.0) xs ≡ b → (not b && are_apart xs) ≡ true → (are_apart xs ≡ true → are_apart (insert xs i (id, job)) ≡ true) →
          (not (list_any (is_of_id x.0) (insert xs i (id, job))) && are_apart (insert xs i (id, job))) ≡ true
      go true e f more = absurd (cc f)
      go false e f more =
          ap (λ (b : Bool). not b && are_apart (insert xs i (id, job))) (insert_any x.0 xs i (flipped (free_head x xs id n).0) e) ∙ more f

pub insert_length : (x : ℕ × ℕ) (xs : List (ℕ × ℕ)) (i : ℕ) → length (insert xs i x) ≡ length xs + 1
insert_length x xs zero = omega arith
insert_length x [] (suc i) = refl
insert_length x (y ∷ ys) (suc i) = let more = insert_length x ys i in omega arith

-- a pair taken from its place

pub taken_at : (id job : ℕ) (xs : List (ℕ × ℕ)) (i : ℕ) → pairs_rise xs ≡ true → owner_among xs id ≡ Some job →
    ((k : ℕ) (d : ℕ × ℕ) → k < i → is_before job id (get_or xs k d) ≡ true) →
    ((k : ℕ) (d : ℕ × ℕ) → i ≤ k → k < length xs → is_before job id (get_or xs k d) ≡ false) →
    (remove xs i ≡ without id xs) × (i < length xs)
taken_at id job [] i r o before after = absurd (cc o)
taken_at id job (x ∷ xs) i r o before after = by_head (nat_eq x.0 id) refl o i before after (λ m q b a. taken_at id job xs m (rise_tail x xs r) q b a)
  where
    Before : ℕ → Type 0
    Before n = (k : ℕ) (d : ℕ × ℕ) → k < n → is_before job id (get_or (x ∷ xs) k d) ≡ true

    After : ℕ → Type 0
    After n = (k : ℕ) (d : ℕ × ℕ) → n ≤ k → k < length (x ∷ xs) → is_before job id (get_or (x ∷ xs) k d) ≡ false

    behind : (f : Option (ℕ × ℕ)) → find (is_of_id id) xs ≡ f → option_map job_of_pair f ≡ Some job → is_before job id x ≡ true
    behind None e h = absurd (cc h)
    behind (Some pair) e h =
        let first : pair.0 ≡ id = eqb_is pair.0 id (found_passes (is_of_id id) xs pair e) in
        let second : pair.1 ≡ job = cc h in
        let up = found_after (is_of_id id) x pair xs r e in
        ap (λ (n : ℕ). is_before n id x) (sym second) ∙ ap (λ (n : ℕ). is_before pair.1 n x) (sym first) ∙ up

    by_head : (b : Bool) → nat_eq x.0 id ≡ b → option_map job_of_pair (cond b (Some x) (find (is_of_id id) xs)) ≡ Some job → (n : ℕ) → Before n → After n →
        ((m : ℕ) → owner_among xs id ≡ Some job → ((k : ℕ) (d : ℕ × ℕ) → k < m → is_before job id (get_or xs k d) ≡ true) →
        ((k : ℕ) (d : ℕ × ℕ) → m ≤ k → k < length xs → is_before job id (get_or xs k d) ≡ false) → (remove xs m ≡ without id xs) × (m < length xs)) →
        (remove (x ∷ xs) n ≡ cond b xs (x ∷ without id xs)) × (n < length (x ∷ xs))
    by_head true e h zero b a more = (refl, omega arith)
    by_head true e h (suc n) b a more =
        absurd (let first : x.0 ≡ id = eqb_is x.0 id e in let second : x.1 ≡ job = cc h in
        let is : is_before job id x ≡ true = b 0 x (omega arith) in
        let nay : is_before job id x ≡ false = ap (λ (n : ℕ). is_before job id (n, x.1)) first ∙ ap (λ (n : ℕ). is_before job id (id, n)) second ∙ after_itself job id in cc (is, nay))
    by_head false e h zero b a more = absurd (let is = behind (find (is_of_id id) xs) refl h in let nay = a 0 x (omega arith) (omega arith) in cc (is, nay))
    by_head false e h (suc n) b a more =
        let rest = more n h (λ k d l. b (suc k) d (omega arith)) (λ k d l m. a (suc k) d (omega arith) (omega arith)) in
        (ap (λ (v : List (ℕ × ℕ)). x ∷ v) rest.0, (let l = rest.1 in omega arith))

without_after : (id : ℕ) (low : ℕ × ℕ) (xs : List (ℕ × ℕ)) → rise_after low xs ≡ true → rise_after low (without id xs) ≡ true
without_after id low [] r = refl
without_after id low (x ∷ xs) r =
    let parts = both (is_before x.1 x.0 low) (rise_after x xs) r in
    go (nat_eq x.0 id) (rise_lower low x xs parts.0 parts.1) (join _ _ parts.0 (without_after id x xs parts.1))
  where
    go : (b : Bool) → rise_after low xs ≡ true → rise_after low (x ∷ without id xs) ≡ true → rise_after low (cond b xs (x ∷ without id xs)) ≡ true
    go true e f = e
    go false e f = f

pub without_rises : (id : ℕ) (xs : List (ℕ × ℕ)) → pairs_rise xs ≡ true → pairs_rise (without id xs) ≡ true
without_rises id [] r = refl
without_rises id (x ∷ xs) r = go (nat_eq x.0 id) (rise_tail x xs r) (without_after id x xs r)
  where
    go : (b : Bool) → pairs_rise xs ≡ true → rise_after x (without id xs) ≡ true → pairs_rise (cond b xs (x ∷ without id xs)) ≡ true
    go true e f = e
    go false e f = f

pub without_length : (id : ℕ) (xs : List (ℕ × ℕ)) → length (without id xs) ≤ length xs
without_length id [] = omega arith
without_length id (x ∷ xs) = go (nat_eq x.0 id) (without_length id xs)
  where
    go : (b : Bool) → length (without id xs) ≤ length xs → length (cond b xs (x ∷ without id xs)) ≤ length (x ∷ xs)
    go true l = omega arith
    go false l = omega arith

eq_flip : (a b : ℕ) → nat_eq a b ≡ nat_eq b a
eq_flip a b = go (nat_eq a b) refl (nat_eq b a) refl
  where
    go : (c : Bool) → nat_eq a b ≡ c → (d : Bool) → nat_eq b a ≡ d → c ≡ d
    go true e true f = refl
    go true e false f = absurd (grind (arith, nat_tests, e, f))
    go false e true f = absurd (grind (arith, nat_tests, e, f))
    go false e false f = refl

-- what stays true of the owners as a pair comes, and as one goes

module _ (pairs after : List (ℕ × ℕ)) (jobs jobs' : ℕ → Option ℕ) (cap cap' room room' spare : ℕ) (fit : OwnersFit pairs jobs cap room spare)
    (id job i : ℕ) (id' job' : ℕ) (same_id : id' ≡ id) (same_job : job' ≡ job) where
  at_pair : (p : ℕ × ℕ) → is_before job id p ≡ is_before job' id' p
  at_pair p = ap (λ (n : ℕ). is_before n id p) (sym same_job) ∙ ap (λ (n : ℕ). is_before job' n p) (sym same_id)

  pub own_fits : after ≡ insert pairs i (id, job) → i ≤ length pairs → ((k : ℕ) (d : ℕ × ℕ) → k < i → is_before job' id' (get_or pairs k d) ≡ true) →
      ((k : ℕ) (d : ℕ × ℕ) → i ≤ k → k < length pairs → is_before job' id' (get_or pairs k d) ≡ false) → owner_among pairs id ≡ None →
      ((q : ℕ) → jobs' q ≡ cond (nat_eq id q) (Some job) (jobs q)) → cap ≤ cap' → room ≤ room' + 1 → 0 < spare → length pairs + 1 < 4294967296 →
      OwnersFit after jobs' cap' room' (spare - 1)
  own_fits is l before behind free told c r s n = record {
    rise =
        ap pairs_rise is
        ∙ insert_rises id job pairs i fit.rise l (λ k d h. at_pair (get_or pairs k d) ∙ before k d h) (λ k d h m. at_pair (get_or pairs k d) ∙ behind k d h m) free;
    apart = ap are_apart is ∙ insert_apart id job pairs i free fit.apart;
    jobs = λ q.
        told q ∙ ap (λ (b : Bool). cond b (Some job) (jobs q)) (eq_flip id q) ∙ ap (λ (o : Option ℕ). cond (nat_eq q id) (Some job) o) (fit.jobs q)
        ∙ sym (ap (λ (l : List (ℕ × ℕ)). owner_among l q) is ∙ insert_owner id job q pairs i free);
    pairs_spare = let len = insert_length (id, job) pairs i in let same = ap (λ (l : List (ℕ × ℕ)). length l) is in omega (arith, fit.pairs_spare, len, same, c, s);
    jobs_spare = omega (arith, fit.jobs_spare, r, s);
    fits = let len = insert_length (id, job) pairs i in let same = ap (λ (l : List (ℕ × ℕ)). length l) is in omega (arith, len, same, n);
  }

  module _ (is : i < length pairs → after ≡ remove pairs i) (before : (k : ℕ) (d : ℕ × ℕ) → k < i → is_before job' id' (get_or pairs k d) ≡ true)
      (behind : (k : ℕ) (d : ℕ × ℕ) → i ≤ k → k < length pairs → is_before job' id' (get_or pairs k d) ≡ false) (found : Some job ≡ jobs id) where
    taken : (remove pairs i ≡ without id pairs) × (i < length pairs)
    taken =
        taken_at id job pairs i fit.rise (sym (found ∙ fit.jobs id)) (λ k d h. at_pair (get_or pairs k d) ∙ before k d h) (λ k d h m. at_pair (get_or pairs k d) ∙ behind k d h m)

    pub disown_is : after ≡ without id pairs
    disown_is = is taken.1 ∙ taken.0

    pub disown_fits : ((q : ℕ) → jobs' q ≡ cond (nat_eq id q) None (jobs q)) → cap' ≡ cap → room ≤ room' → OwnersFit after jobs' cap' room' spare
    disown_fits told c r = record {
      rise = ap pairs_rise disown_is ∙ without_rises id pairs fit.rise;
      apart = ap are_apart disown_is ∙ apart_without id pairs fit.apart;
      jobs = λ q.
          told q ∙ ap (λ (b : Bool). cond b None (jobs q)) (eq_flip id q) ∙ ap (λ (o : Option ℕ). cond (nat_eq q id) None o) (fit.jobs q)
          ∙ sym (ap (λ (l : List (ℕ × ℕ)). owner_among l q) disown_is ∙ owner_without id q pairs fit.apart);
      pairs_spare = let len = without_length id pairs in let same = ap (λ (l : List (ℕ × ℕ)). length l) disown_is in omega (arith, fit.pairs_spare, len, same, c);
      jobs_spare = omega (arith, fit.jobs_spare, r);
      fits = let len = without_length id pairs in let same = ap (λ (l : List (ℕ × ℕ)). length l) disown_is in omega (arith, fit.fits, len, same);
    }

    pub disown_owner : (other : ℕ) → owner_among after other ≡ cond (nat_eq other id) None (owner_among pairs other)
    disown_owner other = ap (λ (l : List (ℕ × ℕ)). owner_among l other) disown_is ∙ owner_without id other pairs fit.apart

    pub disown_owned : (other : ℕ) → owned_among after other + cond (is_job other (owner_among pairs id)) 1 0 ≡ owned_among pairs other
    disown_owned other = ap (λ (l : List (ℕ × ℕ)). owned_among l other + cond (is_job other (owner_among pairs id)) 1 0) disown_is ∙ owned_without id other pairs

pub own_gains : (pairs after : List (ℕ × ℕ)) (id job i : ℕ) → after ≡ insert pairs i (id, job) → owner_among pairs id ≡ None → Gains pairs after id job
own_gains pairs after id job i is free = record {
  owner = λ q. ap (λ (l : List (ℕ × ℕ)). owner_among l q) is ∙ insert_owner id job q pairs i free;
  owned = λ q. ap (λ (l : List (ℕ × ℕ)). owned_among l q) is ∙ insert_owned id job q pairs i;
}

pub gains_from : (pairs list after : List (ℕ × ℕ)) (id job : ℕ) → pairs ≡ list → Gains pairs after id job → Gains list after id job
gains_from pairs list after id job e g = subst (λ (l : List (ℕ × ℕ)). Gains l after id job) e g

pub on_some : {A : Type 0} (o : Option A) (P : Type 0) (y : A) → OnSome o P → o ≡ Some y → P
on_some None P y h e = absurd (cc e)
on_some (Some z) P y h e = h

-- the pairs of a job stand between two places
pub counted_between : (job a b : ℕ) (xs : List (ℕ × ℕ)) → a ≤ length xs → b ≤ length xs →
    ((k : ℕ) (d : ℕ × ℕ) → k < a → is_before job 0 (get_or xs k d) ≡ true) →
    ((k : ℕ) (d : ℕ × ℕ) → a ≤ k → k < length xs → is_before job 0 (get_or xs k d) ≡ false) →
    ((k : ℕ) (d : ℕ × ℕ) → k < b → is_before (job + 1) 0 (get_or xs k d) ≡ true) →
    ((k : ℕ) (d : ℕ × ℕ) → b ≤ k → k < length xs → is_before (job + 1) 0 (get_or xs k d) ≡ false) →
    owned_among xs job + a ≡ b
counted_between job a b [] l m before after before' after' = omega arith
counted_between job zero zero (x ∷ xs) l m before after before' after' =
    let rest = counted_between job zero zero xs (omega arith) (omega arith) (λ k d h. absurd (omega arith)) (λ k d h n. after (suc k) d (omega arith) (omega arith)) (λ k d h. absurd (omega arith)) (λ k d h n. after' (suc k) d (omega arith) (omega arith)) in
    omega (arith, sum_by-cons (λ (p : ℕ × ℕ). cond (is_of_owner job p) 1 0) x xs, rest, past x (after' 0 x (omega arith) (omega arith)))
  where
    past : (y : ℕ × ℕ) → is_before (job + 1) 0 y ≡ false → cond (nat_eq y.1 job) 1 0 ≡ zero
    past y h = let n : nat_eq y.1 job ≡ false = grind (arith, nat_tests, h) in ap (λ (c : Bool). cond c 1 0) n
counted_between job zero (suc b) (x ∷ xs) l m before after before' after' =
    let rest = counted_between job zero b xs (omega arith) (omega arith) (λ k d h. absurd (omega arith)) (λ k d h n. after (suc k) d (omega arith) (omega arith)) (λ k d h. before' (suc k) d (omega arith)) (λ k d h n. after' (suc k) d (omega arith) (omega arith)) in
    omega (arith, sum_by-cons (λ (p : ℕ × ℕ). cond (is_of_owner job p) 1 0) x xs, rest, mine x (after 0 x (omega arith) (omega arith)) (before' 0 x (omega arith)))
  where
    mine : (y : ℕ × ℕ) → is_before job 0 y ≡ false → is_before (job + 1) 0 y ≡ true → cond (nat_eq y.1 job) 1 0 ≡ suc zero
    mine y h k = let n : nat_eq y.1 job ≡ true = grind (arith, nat_tests, h, k) in ap (λ (c : Bool). cond c 1 0) n
counted_between job (suc a) zero (x ∷ xs) l m before after before' after' =
    absurd (clash x (before 0 x (omega arith)) (after' 0 x (omega arith) (omega arith)))
  where
    clash : (y : ℕ × ℕ) → is_before job 0 y ≡ true → is_before (job + 1) 0 y ≡ false → ⊥
    clash y h k = grind (arith, nat_tests, h, k)
counted_between job (suc a) (suc b) (x ∷ xs) l m before after before' after' =
    let rest = counted_between job a b xs (omega arith) (omega arith) (λ k d h. before (suc k) d (omega arith)) (λ k d h n. after (suc k) d (omega arith) (omega arith)) (λ k d h. before' (suc k) d (omega arith)) (λ k d h n. after' (suc k) d (omega arith) (omega arith)) in
    omega (arith, sum_by-cons (λ (p : ℕ × ℕ). cond (is_of_owner job p) 1 0) x xs, rest, early x (before 0 x (omega arith)))
  where
    early : (y : ℕ × ℕ) → is_before job 0 y ≡ true → cond (nat_eq y.1 job) 1 0 ≡ zero
    early y h = let n : nat_eq y.1 job ≡ false = grind (arith, nat_tests, h) in ap (λ (c : Bool). cond c 1 0) n

-- a table whose owners are told by the same facts stands for the same state

pub reowned : (s : State) (t new : Table) → IsTableOf s t → new ≡ record t { owners = new.owners } →
    ((id : ℕ) → owner_among new.owners id ≡ owner_among t.owners id) → ((job : ℕ) → owned_among new.owners job ≡ owned_among t.owners job) → IsTableOf s new
reowned s t new h same owners owned = record {
  len = ap (λ (v : Table). v.len) same ∙ h.len;
  moment = ap (λ (v : Table). v.moment) same ∙ h.moment;
  owed = ap (λ (v : Table). v.owed) same ∙ h.owed;
  owners = λ id. owners id ∙ h.owners id;
  owned = λ job. owned job ∙ h.owned job;
  items = ap (λ (v : Table). v.items) same ∙ h.items;
  jobs = ap (λ (v : Table). v.jobs) same ∙ h.jobs;
  seats = ap (λ (v : Table). v.seats) same ∙ h.seats;
  keeps = h.keeps;
}

owner_push : (id job other : ℕ) (xs : List (ℕ × ℕ)) → owner_among xs id ≡ None → owner_among (xs ++ (id, job) ∷ []) other ≡ cond (nat_eq other id) (Some job) (owner_among xs other)
owner_push id job other [] n = head_owner id job other []
owner_push id job other (x ∷ xs) n =
    let free = free_head x xs id n in
    go (nat_eq x.0 other) refl (nat_eq other id) refl free.0 (owner_push id job other xs free.1)
  where
    go : (a : Bool) → nat_eq x.0 other ≡ a → (b : Bool) → nat_eq other id ≡ b → nat_eq x.0 id ≡ false → owner_among (xs ++ (id, job) ∷ []) other ≡ cond (nat_eq other id) (Some job) (owner_among xs other) →
        option_map job_of_pair (cond a (Some x) (find (is_of_id other) (xs ++ (id, job) ∷ []))) ≡ cond b (Some job) (option_map job_of_pair (cond a (Some x) (find (is_of_id other) xs)))
    go true e true f m more = absurd (grind (arith, nat_tests, e, f, m))
    go true e false f m more = refl
    go false e b f m more = more ∙ ap (λ (c : Bool). cond c (Some job) (owner_among xs other)) f

-- the table to which a pair was put stands for what the one with the pair at the end stands for
pub gained : (s : State) (before : List (ℕ × ℕ)) (id job : ℕ) (t new : Table) → IsTableOf s t → t.owners ≡ before ++ (id, job) ∷ [] → owner_among before id ≡ None →
    new ≡ record t { owners = new.owners } → Gains before new.owners id job → IsTableOf s new
gained s before id job t new h e n same g =
    reowned s t new h same
    (λ other. g.owner other ∙ sym (ap (λ (l : List (ℕ × ℕ)). owner_among l other) e ∙ owner_push id job other before n))
    (λ other. g.owned other ∙ sym (ap (λ (l : List (ℕ × ℕ)). owned_among l other) e ∙ pairs_push id job other before))

-- the first pair whose job has a row

pub row_told : (o : Option Row) (rows jobs : List JobRow) (pair : ℕ × ℕ) (b : Bool) → option_map row_of o ≡ job_row rows pair.1 → rows ≡ jobs → b ≡ is_some o → has_row jobs pair ≡ b
row_told o rows jobs pair b e f h = ap (λ (j : List JobRow). is_some (job_row j pair.1)) (sym f) ∙ ap is_some (sym e) ∙ there o ∙ sym h
  where
    there : (r : Option Row) → is_some (option_map row_of r) ≡ is_some r
    there None = refl
    there (Some row) = refl

later_none : (q : ℕ) (low : ℕ × ℕ) (xs : List (ℕ × ℕ)) → rise_after low xs ≡ true → q < low.1 → owned_among xs q ≡ 0
later_none q low [] r l = refl
later_none q low (x ∷ xs) r l =
    let parts = both (is_before x.1 x.0 low) (rise_after x xs) r in
    let up : low.1 ≤ x.1 = grind (arith, nat_tests, parts.0) in
    omega (arith, sum_by-cons (λ (p : ℕ × ℕ). cond (is_of_owner q p) 1 0) x xs, later_none q x xs parts.1 (omega (arith, l, up)), off x.1 (omega (arith, l, up)))
  where
    off : (n : ℕ) → q < n → cond (nat_eq n q) 1 0 ≡ zero
    off n h = let t : nat_eq n q ≡ false = grind (arith, nat_tests, h) in ap (λ (c : Bool). cond c 1 0) t

other_job : (jobs : List JobRow) (q n : ℕ) → is_some (job_row jobs q) ≡ true → is_some (job_row jobs n) ≡ false → nat_eq n q ≡ false
other_job jobs q n has lacks = go (nat_eq n q) refl
  where
    go : (b : Bool) → nat_eq n q ≡ b → b ≡ false
    go true e = absurd (let same = eqb_is n q e in let z : is_some (job_row jobs n) ≡ true = ap (λ (k : ℕ). is_some (job_row jobs k)) same ∙ has in cc (z, lacks))
    go false e = refl

none_below : (jobs : List JobRow) (q : ℕ) (pair : ℕ × ℕ) (xs : List (ℕ × ℕ)) → is_some (job_row jobs q) ≡ true → q < pair.1 → pairs_rise xs ≡ true →
    find (has_row jobs) xs ≡ Some pair → owned_among xs q ≡ 0
none_below jobs q pair [] has l r f = absurd (cc f)
none_below jobs q pair (x ∷ xs) has l r f = go (has_row jobs x) refl f (none_below jobs q pair xs has l (rise_tail x xs r))
  where
    sum : owned_among (x ∷ xs) q ≡ cond (nat_eq x.1 q) 1 0 + owned_among xs q
    sum = sum_by-cons (λ (p : ℕ × ℕ). cond (is_of_owner q p) 1 0) x xs

    off : nat_eq x.1 q ≡ false → cond (nat_eq x.1 q) 1 0 ≡ zero
    off t = ap (λ (c : Bool). cond c 1 0) t

    go : (b : Bool) → has_row jobs x ≡ b → cond b (Some x) (find (has_row jobs) xs) ≡ Some pair → (find (has_row jobs) xs ≡ Some pair → owned_among xs q ≡ 0) → owned_among (x ∷ xs) q ≡ 0
    go true e h more =
        let same : x ≡ pair = cc h in
        let less : q < x.1 = subst (λ (y : ℕ × ℕ). q < y.1) (sym same) l in
        let t : nat_eq x.1 q ≡ false = grind (arith, nat_tests, less) in
        omega (arith, sum, later_none q x xs r less, off t)
    go false e h more = omega (arith, sum, more h, off (other_job jobs q x.1 has e))

none_at_all : (jobs : List JobRow) (q : ℕ) (xs : List (ℕ × ℕ)) → is_some (job_row jobs q) ≡ true → find (has_row jobs) xs ≡ None → owned_among xs q ≡ 0
none_at_all jobs q [] has f = refl
none_at_all jobs q (x ∷ xs) has f = go (has_row jobs x) refl f (none_at_all jobs q xs has)
  where
    off : nat_eq x.1 q ≡ false → cond (nat_eq x.1 q) 1 0 ≡ zero
    off t = ap (λ (c : Bool). cond c 1 0) t

    go : (b : Bool) → has_row jobs x ≡ b → cond b (Some x) (find (has_row jobs) xs) ≡ None → (find (has_row jobs) xs ≡ None → owned_among xs q ≡ 0) → owned_among (x ∷ xs) q ≡ 0
    go true e h more = absurd (cc h)
    go false e h more = omega (arith, sum_by-cons (λ (p : ℕ × ℕ). cond (is_of_owner q p) 1 0) x xs, more h, off (other_job jobs q x.1 has e))

least_id : (jobs : List JobRow) (m : ℕ) (pair : ℕ × ℕ) (xs : List (ℕ × ℕ)) → pairs_rise xs ≡ true → find (has_row jobs) xs ≡ Some pair → has_row jobs pair ≡ true →
    has_pair pair.1 m xs ≡ true → pair.0 ≤ m
least_id jobs m pair [] r f has h = absurd (cc f)
least_id jobs m pair (x ∷ xs) r f has h = go (has_row jobs x) refl f (λ e. least_id jobs m pair xs (rise_tail x xs r) e has)
  where
    behind : (low : ℕ × ℕ) (ys : List (ℕ × ℕ)) → rise_after low ys ≡ true → has_pair low.1 m ys ≡ true → low.0 ≤ m
    behind low [] rise any = absurd (cc any)
    behind low (y ∷ ys) rise any =
        let parts = both (is_before y.1 y.0 low) (rise_after y ys) rise in
        here (nat_eq y.0 m) refl (nat_eq y.1 low.1) refl any parts.0 (λ q. behind low ys (rise_lower low y ys parts.0 parts.1) q)
      where
        here : (a : Bool) → nat_eq y.0 m ≡ a → (b : Bool) → nat_eq y.1 low.1 ≡ b → ((a && b) || has_pair low.1 m ys) ≡ true → is_before y.1 y.0 low ≡ true →
            (has_pair low.1 m ys ≡ true → low.0 ≤ m) → low.0 ≤ m
        here true e true g k up more = let one = eqb_is y.0 m e in let two = eqb_is y.1 low.1 g in let less : low.0 < y.0 = grind (arith, nat_tests, up, two) in omega (arith, one, less)
        here true e false g k up more = more k
        here false e b g k up more = more k

    go : (b : Bool) → has_row jobs x ≡ b → cond b (Some x) (find (has_row jobs) xs) ≡ Some pair → (find (has_row jobs) xs ≡ Some pair → has_pair pair.1 m xs ≡ true → pair.0 ≤ m) → pair.0 ≤ m
    go true e k more =
        let same : x ≡ pair = cc k in
        first (nat_eq x.0 m) refl (nat_eq x.1 pair.1) refl h same
      where
        first : (a : Bool) → nat_eq x.0 m ≡ a → (b : Bool) → nat_eq x.1 pair.1 ≡ b → ((a && b) || has_pair pair.1 m xs) ≡ true → x ≡ pair → pair.0 ≤ m
        first true p b q t same = let one = eqb_is x.0 m p in let two : x.0 ≡ pair.0 = ap (λ (y : ℕ × ℕ). y.0) same in omega (arith, one, two)
        first false p b q t same =
            subst (λ (y : ℕ × ℕ). y.0 ≤ m) same (behind x xs r (ap (λ (y : ℕ × ℕ). has_pair y.1 m xs) same ∙ t))
    go false e k more = more k (rest (nat_eq x.0 m) (other_job jobs pair.1 x.1 has e) h)
      where
        rest : (a : Bool) → nat_eq x.1 pair.1 ≡ false → ((a && nat_eq x.1 pair.1) || has_pair pair.1 m xs) ≡ true → has_pair pair.1 m xs ≡ true
        rest true n t = sym (ap (λ (b : Bool). b || has_pair pair.1 m xs) n) ∙ t
        rest false n t = t

-- the first job that passes, where all before it fail
first_row : (p : JobRow → Bool) (j low len : ℕ) (row : JobRow) (xs : List JobRow) → starts_rise low len xs ≡ true → find (starts_at j) xs ≡ Some row → p row ≡ true →
    ((i : ℕ) (other : JobRow) → slice_get xs i ≡ Some other → other.start < j → p other ≡ false) → find p xs ≡ Some row
first_row p j low len row [] r f t before = absurd (cc f)
first_row p j low len row (x ∷ xs) r f t before =
    let parts = both (not (nat_lt x.start low) && nat_lt x.start len) (starts_rise (suc x.start) len xs) r in
    go (nat_eq x.start j) refl f (λ e. first_row p j (suc x.start) len row xs parts.1 e t (λ i other g l. before (suc i) other g l)) (λ e. less e parts.1)
  where
    less : find (starts_at j) xs ≡ Some row → starts_rise (suc x.start) len xs ≡ true → x.start < j
    less e rise =
        let at = found_place (starts_at j) xs row e in
        let up = later_start (suc x.start) len at.0 row xs rise at.1 in
        let same = eqb_is row.start j (found_passes (starts_at j) xs row e) in
        grind (arith, nat_tests, up, same)

    go : (b : Bool) → nat_eq x.start j ≡ b → cond b (Some x) (find (starts_at j) xs) ≡ Some row → (find (starts_at j) xs ≡ Some row → find p xs ≡ Some row) →
        (find (starts_at j) xs ≡ Some row → x.start < j) → find p (x ∷ xs) ≡ Some row
    go true e h more up = let same : x ≡ row = cc h in ap (λ (b : Bool). cond b (Some x) (find p xs)) (ap p same ∙ t) ∙ ap (λ (y : JobRow). Some y) same
    go false e h more up = ap (λ (b : Bool). cond b (Some x) (find p xs)) (before 0 x refl (up h)) ∙ more h

some_row : (o : Option JobRow) → is_some o ≡ true → (row : JobRow) × (o ≡ Some row)
some_row None h = absurd (cc h)
some_row (Some row) h = (row, refl)

module _ (s : State) (t : Table) (h : IsTableOf s t) (rise : pairs_rise t.owners ≡ true) (apart : are_apart t.owners ≡ true) where
  has_own : (i : ℕ) (row : JobRow) → slice_get s.jobs i ≡ Some row → is_some (job_row t.jobs row.start) ≡ true
  has_own i row e = ap (λ (j : List JobRow). is_some (job_row j row.start)) h.jobs ∙ ap is_some (row_at_place 0 s.len i row s.jobs h.keeps.starts e)

  idle : (n : ℕ) → n ≡ 0 → nat_lt 0 n ≡ false
  idle n e = ap (nat_lt 0) e

  pub pair_first : (stored : Graph) (pair : ℕ × ℕ) → stored ≡ s.graph → objects_rise s.graph.objects ≡ true → Some pair ≡ find (has_row t.jobs) t.owners →
      Some (cut_or_erase pair.1 pair.0 (out_edges stored pair.0) (in_edges stored pair.0)) ≡ first_erasure s
  pair_first stored pair w objects f =
      let found = sym f in
      let own : owner s pair.0 ≡ Some pair.1 = sym (h.owners pair.0) ∙ owner_has pair.1 pair.0 t.owners apart (found_owns (has_row t.jobs) t.owners pair found) in
      let has : has_row t.jobs pair ≡ true = found_passes (has_row t.jobs) t.owners pair found in
      let row = some_row (job_row t.jobs pair.1) has in
      let at : find (starts_at pair.1) s.jobs ≡ Some row.0 = ap (λ (j : List JobRow). job_row j pair.1) (sym h.jobs) ∙ row.1 in
      let start : row.0.start ≡ pair.1 = eqb_is row.0.start pair.1 (found_passes (starts_at pair.1) s.jobs row.0 at) in
      let owning : owns_some s row.0 ≡ true = ap (λ (n : ℕ). nat_lt 0 (owned s n)) start ∙ ap (nat_lt 0) (sym (h.owned pair.1)) ∙ positive (owned_among t.owners pair.1) (mine pair found) in
      let first : find (owns_some s) s.jobs ≡ Some row.0 =
      first_row (owns_some s) pair.1 0 s.len row.0 s.jobs h.keeps.starts at owning
      (λ i other g l. idle (owned s other.start) (sym (h.owned other.start) ∙ none_below t.jobs other.start pair t.owners (has_own i other g) l rise found)) in
      by_pair (find (is_pair_of pair.1) s.owners) refl own has found start first
    where
      positive : (n : ℕ) → 0 < n → nat_lt 0 n ≡ true
      positive n l = grind (arith, nat_tests, l)

      counts : (p : ℕ × ℕ → Bool) (q : ℕ × ℕ) (xs : List (ℕ × ℕ)) → find p xs ≡ Some q → 0 < owned_among xs q.1
      counts p q [] e = absurd (cc e)
      counts p q (x ∷ xs) e = go (p x) e (counts p q xs)
        where
          self : (y : ℕ × ℕ) → y ≡ q → cond (nat_eq y.1 q.1) 1 0 ≡ suc zero
          self y same = ap (λ (z : ℕ × ℕ). cond (nat_eq z.1 q.1) 1 0) same ∙ ap (λ (c : Bool). cond c 1 0) (eqb_self q.1)

          go : (b : Bool) → cond b (Some x) (find p xs) ≡ Some q → (find p xs ≡ Some q → 0 < owned_among xs q.1) → 0 < owned_among (x ∷ xs) q.1
          go true g more = let same : x ≡ q = cc g in omega (arith, sum_by-cons (λ (y : ℕ × ℕ). cond (is_of_owner q.1 y) 1 0) x xs, self x same)
          go false g more = omega (arith, sum_by-cons (λ (y : ℕ × ℕ). cond (is_of_owner q.1 y) 1 0) x xs, more g)

      mine : (q : ℕ × ℕ) → find (has_row t.jobs) t.owners ≡ Some q → 0 < owned_among t.owners q.1
      mine q e = counts (has_row t.jobs) q t.owners e

      by_pair : (o : Option (ℕ × Option ℕ)) → find (is_pair_of pair.1) s.owners ≡ o → owner s pair.0 ≡ Some pair.1 → has_row t.jobs pair ≡ true →
          find (has_row t.jobs) t.owners ≡ Some pair → {row : JobRow} → row.start ≡ pair.1 → find (owns_some s) s.jobs ≡ Some row →
          Some (cut_or_erase pair.1 pair.0 (out_edges stored pair.0) (in_edges stored pair.0)) ≡ first_erasure s
      by_pair None e own has found start first = absurd (none_owned pair.1 pair.0 s.owners e own)
      by_pair (Some other) e own has found {row = row} start first =
          let low : other.0 ≤ pair.0 = found_least pair.1 pair.0 other s.owners s.graph.objects h.keeps.ids objects e own in
          let theirs : owner_among t.owners other.0 ≡ Some pair.1 = h.owners other.0 ∙ found_owner pair.1 other s.owners s.graph.objects h.keeps.ids objects e in
          let high : pair.0 ≤ other.0 = least_id t.jobs other.0 pair t.owners rise found has (has_owner pair.1 other.0 t.owners theirs) in
          let same : pair.0 ≡ other.0 = omega (arith, low, high) in
          ap (λ (v : Graph). Some (cut_or_erase pair.1 pair.0 (out_edges v pair.0) (in_edges v pair.0))) w
          ∙ ap (λ (n : ℕ). Some (cut_or_erase pair.1 n (out_edges s.graph n) (in_edges s.graph n))) same
          ∙ sym (ap (erasure_of_job s) first ∙ ap (λ (n : ℕ). erasure_of_pair s n (find (is_pair_of n) s.owners)) start ∙ ap (erasure_of_pair s pair.1) e)

  pub pair_none : None ≡ find (has_row t.jobs) t.owners → None ≡ first_erasure s
  pair_none f =
      sym (ap (erasure_of_job s) (nowhere (owns_some s) s.jobs
      (λ i row e. idle (owned s row.start) (sym (h.owned row.start) ∙ none_at_all t.jobs row.start t.owners (has_own i row e) (sym f)))))
    where
      nowhere : (p : JobRow → Bool) (xs : List JobRow) → ((i : ℕ) (row : JobRow) → slice_get xs i ≡ Some row → p row ≡ false) → find p xs ≡ None
      nowhere p [] each = refl
      nowhere p (x ∷ xs) each = ap (λ (b : Bool). cond b (Some x) (find p xs)) (each 0 x refl) ∙ nowhere p xs (λ i row e. each (suc i) row e)
