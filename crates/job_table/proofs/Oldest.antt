-- The oldest job among pairs of a moment and a job.
use Rattle.std.proofs.Common.{◌≡◌, ℕ, zero, suc, ◌<◌, ◌≤◌, Bool, true, false, cond, not, ◌&&◌, ◌||◌, List, [], ◌∷◌, Option, Some, None, is_some, refl, sym, ap, ◌∙◌, arith, ◌⊎◌, inl, inr}
use Rattle.std.specs.Prelude.{find, nat_eq, nat_lt, nat_le, count_by, slice_get, option_map, option_and_then}
use Rattle.std.specs.List.{list_all}
use Rattle.std.proofs.lemmas.Bool.Decides.{nat_tests}
use Rattle.delf_model.specs.State.{State, JobRow, Logged, job_row, is_restored, is_restored_row, left}
use Rattle.delf_model.specs.Order.{is_restoring, is_oldest_restoring, is_no_older, last_place, put_of, put_of_job, first_put}
use Rattle.job_table.specs.Items.{is_unhandled_of}
use Rattle.job_table.specs.Owning.{is_before, rise_after, pairs_rise}
use Rattle.job_table.specs.Restoring.{restoring_at, AreRestoring}
use Rattle.job_table.specs.Table.{Keeps, starts_rise, owner_among, is_of_id, job_of_pair, restored_of_row}
use Rattle.job_table.proofs.Firsts.{last_open}
use Rattle.job_table.proofs.FreeSteps.{found_passes}
use Rattle.job_table.proofs.Lefts.{left_restored, row_at_place}
use Rattle.job_table.proofs.Lookups.{both, join}
use Rattle.job_table.proofs.Owning.{found_after}
use Rattle.job_table.proofs.Rows.{job_row_is, none_starts_below}
use Rattle.job_table.proofs.Steps.{eqb_is, eqb_self}

-- the first row that passes is the only one that may be first

first_passing : (test : JobRow → Bool) (low len job : ℕ) (row : JobRow) (rows : List JobRow) → starts_rise low len rows ≡ true → job_row rows job ≡ Some row → test row ≡ true →
    ((k : ℕ) (y : JobRow) → slice_get rows k ≡ Some y → test y ≡ true → job ≤ y.start) → find test rows ≡ Some row
first_passing test low len job row [] r f t m = absurd (cc f)
first_passing test low len job row (x ∷ xs) r f t m =
    let parts = both (not (nat_lt x.start low) && nat_lt x.start len) (starts_rise (suc x.start) len xs) r in
    go (test x) refl (nat_eq x.start job) refl f parts.1 (λ g. first_passing test (suc x.start) len job row xs parts.1 g t (λ k y e h. m (suc k) y e h))
  where
    go : (a : Bool) → test x ≡ a → (b : Bool) → nat_eq x.start job ≡ b → cond b (Some x) (job_row xs job) ≡ Some row → starts_rise (suc x.start) len xs ≡ true →
        (job_row xs job ≡ Some row → find test xs ≡ Some row) → cond a (Some x) (find test xs) ≡ Some row
    go true e true h g p more = g
    go true e false h g p more =
        absurd (let l = m zero x refl e in let less : job < suc x.start = omega (arith, l) in let none = none_starts_below (suc x.start) len job xs p less in cc (none, g))
    go false e true h g p more = absurd (let same : x ≡ row = cc g in let is : test x ≡ true = ap test same ∙ t in cc (is, e))
    go false e false h g p more = more g

-- each row passes where all do
passes_all : (test : JobRow → Bool) (job : ℕ) (row : JobRow) (rows : List JobRow) → list_all test rows ≡ true → job_row rows job ≡ Some row → test row ≡ true
passes_all test job row [] a f = absurd (cc f)
passes_all test job row (x ∷ xs) a f =
    let parts = both (test x) (list_all test xs) a in
    go (nat_eq x.start job) f parts.0 (passes_all test job row xs parts.1)
  where
    go : (b : Bool) → cond b (Some x) (job_row xs job) ≡ Some row → test x ≡ true → (job_row xs job ≡ Some row → test row ≡ true) → test row ≡ true
    go true g h more = let same : x ≡ row = cc g in ap test (sym same) ∙ h
    go false g h more = more g

all_pass : (test : JobRow → Bool) (rows : List JobRow) → ((k : ℕ) (y : JobRow) → slice_get rows k ≡ Some y → test y ≡ true) → list_all test rows ≡ true
all_pass test [] h = refl
all_pass test (x ∷ xs) h = join (test x) (list_all test xs) (h zero x refl) (all_pass test xs (λ k y e. h (suc k) y e))

none_pass : (test : JobRow → Bool) (rows : List JobRow) → ((k : ℕ) (y : JobRow) → slice_get rows k ≡ Some y → test y ≡ false) → find test rows ≡ None
none_pass test [] h = refl
none_pass test (x ∷ xs) h = ap (λ (b : Bool). cond b (Some x) (find test xs)) (h zero x refl) ∙ none_pass test xs (λ k y e. h (suc k) y e)

-- the first pair is not behind any other
front_least : (x : ℕ × ℕ) (xs : List (ℕ × ℕ)) (start rank : ℕ) → rise_after x xs ≡ true → owner_among (x ∷ xs) start ≡ Some rank → (is_before rank start x ≡ true) ⊎ ((x.0 ≡ start) × (x.1 ≡ rank))
front_least x xs start rank r o = go (nat_eq x.0 start) refl o
  where
    behind : (f : Option (ℕ × ℕ)) → find (is_of_id start) xs ≡ f → option_map job_of_pair f ≡ Some rank → is_before rank start x ≡ true
    behind None e h = absurd (cc h)
    behind (Some pair) e h =
        let first : pair.0 ≡ start = eqb_is pair.0 start (found_passes (is_of_id start) xs pair e) in
        let second : pair.1 ≡ rank = cc h in
        ap (λ (n : ℕ). is_before n start x) (sym second) ∙ ap (λ (n : ℕ). is_before pair.1 n x) (sym first) ∙ found_after (is_of_id start) x pair xs r e

    go : (b : Bool) → nat_eq x.0 start ≡ b → option_map job_of_pair (cond b (Some x) (find (is_of_id start) xs)) ≡ Some rank → (is_before rank start x ≡ true) ⊎ ((x.0 ≡ start) × (x.1 ≡ rank))
    go true e h = inr (eqb_is x.0 start e, cc h)
    go false e h = inl (behind (find (is_of_id start) xs) refl h)

module _ (s : State) (pairs : List (ℕ × ℕ)) (keeps : Keeps s) (told : AreRestoring s.jobs s.items pairs) where
  -- where a job of the state stands in the queue
  stands_at : (k : ℕ) (y : JobRow) → slice_get s.jobs k ≡ Some y → owner_among pairs y.start ≡ cond (is_restoring s y) y.restored None
  stands_at k y e = told y.start ∙ ap (λ (o : Option JobRow). cond (nat_lt 0 n) (option_and_then restored_of_row o) None) found ∙ go y.restored refl
    where
      n : ℕ
      n = count_by (is_unhandled_of y.start) s.items

      found : job_row s.jobs y.start ≡ Some y
      found = row_at_place 0 s.len k y s.jobs keeps.starts e

      go : (o : Option ℕ) → y.restored ≡ o → cond (nat_lt 0 n) y.restored None ≡ cond (is_some y.restored && nat_lt 0 (left s y.start)) y.restored None
      go None h =
          ap (λ (o : Option ℕ). cond (nat_lt 0 n) o None) h ∙ same (nat_lt 0 n)
          ∙ sym (ap (λ (o : Option ℕ). cond (is_some o && nat_lt 0 (left s y.start)) y.restored None) h)
        where
          same : (b : Bool) → ◌≡◌ {A = Option ℕ} (cond b None None) None
          same true = refl
          same false = refl
      go (Some p) h =
          let is : is_restored s.jobs y.start ≡ true = ap (λ (o : Option JobRow). is_restored_row o) found ∙ ap is_some h in
          ap (λ (m : ℕ). cond (nat_lt 0 m) y.restored None) (sym (left_restored s y.start is))
          ∙ sym (ap (λ (o : Option ℕ). cond (is_some o && nat_lt 0 (left s y.start)) y.restored None) h)

  pub none_first : None ≡ slice_get pairs 0 → None ≡ first_put s
  none_first e = sym (ap (put_of_job s) (none_pass (is_oldest_restoring s) s.jobs (λ k y f. fails y (is_restoring s y) refl (sym (stands_at k y f) ∙ empty pairs e y.start))))
    where
      empty : (xs : List (ℕ × ℕ)) → None ≡ slice_get xs 0 → (start : ℕ) → owner_among xs start ≡ None
      empty [] h start = refl
      empty (x ∷ xs) h start = absurd (cc h)

      fails : (y : JobRow) (b : Bool) → is_restoring s y ≡ b → cond (is_restoring s y) y.restored None ≡ None → is_oldest_restoring s y ≡ false
      fails y true h g =
          let parts = both (is_some y.restored) (nat_lt 0 (left s y.start)) h in
          let none : y.restored ≡ None = ap (λ (b : Bool). cond b y.restored None) (sym h) ∙ g in
          absurd (let some : is_some y.restored ≡ false = ap is_some none in let is = parts.0 in cc (some, is))
      fails y false h g = ap (λ (b : Bool). b && list_all (λ other. not (is_restoring s other) || is_no_older y.restored other.restored) s.jobs) h

  module _ (job p : ℕ) (rest : List (ℕ × ℕ)) (first : pairs ≡ (job, p) ∷ rest) (rise : pairs_rise pairs ≡ true) where
    at_front : owner_among pairs job ≡ Some p
    at_front = ap (λ (l : List (ℕ × ℕ)). owner_among l job) first ∙ ap (λ (b : Bool). option_map job_of_pair (cond b (Some (job, p)) (find (is_of_id job) rest))) (eqb_self job)

    restored : restoring_at s.jobs s.items job ≡ Some p
    restored = sym (told job) ∙ at_front

    least : (start q : ℕ) → owner_among pairs start ≡ Some q → (is_before q start (job, p) ≡ true) ⊎ ((job ≡ start) × (p ≡ q))
    least start q o = front_least (job, p) rest start q (sym (ap pairs_rise first) ∙ rise) (sym (ap (λ (l : List (ℕ × ℕ)). owner_among l start) first) ∙ o)

    pub put_first : put_of job (last_place (is_unhandled_of job) 0 s.items) ≡ first_put s
    put_first = by_row (job_row s.jobs job) refl (nat_lt 0 (count_by (is_unhandled_of job) s.items)) refl restored
      where
        no_older : (q : ℕ) (start : ℕ) → (is_before q start (job, p) ≡ true) ⊎ ((job ≡ start) × (p ≡ q)) → nat_le p q ≡ true
        no_older q start (inl h) = grind (arith, nat_tests, h)
        no_older q start (inr h) = let e = h.1 in grind (arith, nat_tests, e)

        no_later : (q : ℕ) (start : ℕ) → (is_before q start (job, p) ≡ true) ⊎ ((job ≡ start) × (p ≡ q)) → nat_le q p ≡ true → job ≤ start
        no_later q start (inl h) l = grind (arith, nat_tests, h, l)
        no_later q start (inr h) l = let e = h.0 in omega (arith, e)

        by_row : (o : Option JobRow) → job_row s.jobs job ≡ o → (b : Bool) → nat_lt 0 (count_by (is_unhandled_of job) s.items) ≡ b → cond b (option_and_then restored_of_row o) None ≡ Some p →
            put_of job (last_place (is_unhandled_of job) 0 s.items) ≡ first_put s
        by_row None e b h g = absurd (none b g)
          where
            none : (b : Bool) → cond {A = Option ℕ} b None None ≡ Some p → ⊥
            none true x = cc x
            none false x = cc x
        by_row (Some row) e false h g = absurd (cc g)
        by_row (Some row) e true h g =
            ap (λ (n : ℕ). put_of n (last_place (is_unhandled_of n) 0 s.items)) (sym start) ∙ ap (put_of row.start) (sym (last_open s row.start 0 s.items is)) ∙ ap (put_of_job s) (sym found)
          where
            start : row.start ≡ job
            start = job_row_is job row s.jobs e

            is_here : is_restored s.jobs job ≡ true
            is_here = ap (λ (o : Option JobRow). is_restored_row o) e ∙ ap is_some g

            is : is_restored s.jobs row.start ≡ true
            is = ap (is_restored s.jobs) start ∙ is_here

            restoring : is_restoring s row ≡ true
            restoring = join (is_some row.restored) (nat_lt 0 (left s row.start)) (ap is_some g) (ap (λ (n : ℕ). nat_lt 0 (left s n)) start ∙ ap (nat_lt 0) (left_restored s job is_here) ∙ h)

            no_older_than : (y : JobRow) (q : Option ℕ) → y.restored ≡ q → is_restoring s y ≡ true → owner_among pairs y.start ≡ q → is_no_older row.restored y.restored ≡ true
            no_older_than y None f r o = absurd (let parts = both (is_some y.restored) (nat_lt 0 (left s y.start)) r in let some = parts.0 in let none : is_some y.restored ≡ false = ap is_some f in cc (some, none))
            no_older_than y (Some q) f r o =
                ap (λ (x : Option ℕ). is_no_older x y.restored) g ∙ ap (is_no_older (Some p)) f ∙ no_older q y.start (least y.start q o)

            each : (k : ℕ) (y : JobRow) → slice_get s.jobs k ≡ Some y → (not (is_restoring s y) || is_no_older row.restored y.restored) ≡ true
            each k y f = go (is_restoring s y) refl
              where
                go : (c : Bool) → is_restoring s y ≡ c → (not c || is_no_older row.restored y.restored) ≡ true
                go true r = no_older_than y y.restored refl r (stands_at k y f ∙ ap (λ (c : Bool). cond c y.restored None) r)
                go false r = refl

            oldest : is_oldest_restoring s row ≡ true
            oldest = join (is_restoring s row) _ restoring (all_pass (λ other. not (is_restoring s other) || is_no_older row.restored other.restored) s.jobs each)

            not_later : (k : ℕ) (y : JobRow) → slice_get s.jobs k ≡ Some y → is_oldest_restoring s y ≡ true → job ≤ y.start
            not_later k y f t =
                let parts = both (is_restoring s y) (list_all (λ other. not (is_restoring s other) || is_no_older y.restored other.restored) s.jobs) t in
                let over = passes_all (λ other. not (is_restoring s other) || is_no_older y.restored other.restored) job row s.jobs parts.1 e in
                let near : is_no_older y.restored row.restored ≡ true = ap (λ (c : Bool). not c || is_no_older y.restored row.restored) (sym restoring) ∙ over in
                go y.restored refl parts.0 near (stands_at k y f ∙ ap (λ (c : Bool). cond c y.restored None) parts.0)
              where
                go : (q : Option ℕ) → y.restored ≡ q → is_restoring s y ≡ true → is_no_older y.restored row.restored ≡ true → owner_among pairs y.start ≡ y.restored → job ≤ y.start
                go None x r n o = absurd (let some = (both (is_some y.restored) (nat_lt 0 (left s y.start)) r).0 in let none : is_some y.restored ≡ false = ap is_some x in cc (some, none))
                go (Some q) x r n o =
                    let l : nat_le q p ≡ true = ap (λ (v : Option ℕ). is_no_older (Some q) v) (sym g) ∙ ap (λ (v : Option ℕ). is_no_older v row.restored) (sym x) ∙ n in
                    no_later q y.start (least y.start q (o ∙ x)) l

            found : find (is_oldest_restoring s) s.jobs ≡ Some row
            found = first_passing (is_oldest_restoring s) 0 s.len job row s.jobs keeps.starts e oldest not_later

-- the same over a table

pub put_at_front : (s : State) (t : List (ℕ × ℕ)) (jobs : List JobRow) (items : List Logged) (pair : ℕ × ℕ) → Keeps s → jobs ≡ s.jobs → items ≡ s.items → AreRestoring jobs items t → pairs_rise t ≡ true → Some pair ≡ slice_get t 0 →
    put_of pair.0 (last_place (is_unhandled_of pair.0) 0 items) ≡ first_put s
put_at_front s [] jobs items pair keeps e f told r g = absurd (cc g)
put_at_front s (x ∷ xs) jobs items pair keeps e f told r g =
    let same : pair ≡ x = cc g in
    ap (λ (l : List Logged). put_of pair.0 (last_place (is_unhandled_of pair.0) 0 l)) f ∙ ap (λ (y : ℕ × ℕ). put_of y.0 (last_place (is_unhandled_of y.0) 0 s.items)) same
    ∙ put_first s (x ∷ xs) keeps (over s jobs items (x ∷ xs) e f told) x.0 x.1 xs refl r
  where
    over : (s : State) (jobs : List JobRow) (items : List Logged) (l : List (ℕ × ℕ)) → jobs ≡ s.jobs → items ≡ s.items → AreRestoring jobs items l → AreRestoring s.jobs s.items l
    over s jobs items l e f told job = told job ∙ ap (λ (v : List JobRow). restoring_at v items job) e ∙ ap (λ (v : List Logged). restoring_at s.jobs v job) f

pub none_at_front : (s : State) (t : List (ℕ × ℕ)) (jobs : List JobRow) (items : List Logged) → Keeps s → jobs ≡ s.jobs → items ≡ s.items → AreRestoring jobs items t → None ≡ slice_get t 0 → None ≡ first_put s
none_at_front s t jobs items keeps e f told g =
    none_first s t keeps (λ job. told job ∙ ap (λ (v : List JobRow). restoring_at v items job) e ∙ ap (λ (v : List Logged). restoring_at s.jobs v job) f) g
