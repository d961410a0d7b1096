-- The queue of restored jobs after an entry.
use Rattle.std.proofs.Common.{◌≡◌, ℕ, zero, suc, ◌<◌, Bool, true, false, cond, List, [], ◌∷◌, ◌++◌, length, get_or, Option, Some, None, refl, sym, ap, ◌∙◌, arith}
use Rattle.std.specs.Prelude.{find, nat_eq, nat_lt, count_by, slice_get, option_and_then}
use Rattle.std.proofs.lemmas.Bool.Decides.{nat_tests}
use Rattle.delf_model.specs.declared.ids.JobName.{JobName}
use Rattle.delf_model.specs.State.{JobRow, Logged, Handled, job_of, starts_at}
use Rattle.delf_model.specs.Step.{new_job, row_restored_at, purged_if, erased_at, handled_at}
use Rattle.job_table.specs.declared.tallies.Tally.{Tally}
use Rattle.job_table.specs.Items.{is_unhandled_of}
use Rattle.job_table.specs.Parts.{changed_first}
use Rattle.job_table.specs.Restoring.{restored_in, restoring_at, AreRestoring}
use Rattle.job_table.specs.Table.{owner_among, restored_of_row}
use Rattle.job_table.proofs.Tallying.{others_pushed, others_handled}

-- the queue after one job changed
pub changed_queue : (jobs jobs' : List JobRow) (items items' : List Logged) (pairs pairs' : List (ℕ × ℕ)) (job : ℕ) (after : Option ℕ) → AreRestoring jobs items pairs →
    ((other : ℕ) → nat_eq other job ≡ false → restoring_at jobs' items' other ≡ restoring_at jobs items other) → after ≡ restoring_at jobs' items' job →
    ((other : ℕ) → owner_among pairs' other ≡ cond (nat_eq other job) after (owner_among pairs other)) → AreRestoring jobs' items' pairs'
changed_queue jobs jobs' items items' pairs pairs' job after told rest own up other = up other ∙ go (nat_eq other job) refl
  where
    go : (b : Bool) → nat_eq other job ≡ b → cond b after (owner_among pairs other) ≡ restoring_at jobs' items' other
    go true h = let same : other ≡ job = grind (arith, nat_tests, h) in own ∙ ap (restoring_at jobs' items') (sym same)
    go false h = told other ∙ sym (rest other h)

-- the queue where no Restore is another
pub kept_queue : (jobs jobs' : List JobRow) (items : List Logged) (pairs : List (ℕ × ℕ)) → ((job : ℕ) → restored_in jobs' job ≡ restored_in jobs job) → AreRestoring jobs items pairs → AreRestoring jobs' items pairs
kept_queue jobs jobs' items pairs same told job = told job ∙ sym (ap (λ (o : Option ℕ). cond (nat_lt 0 (count_by (is_unhandled_of job) items)) o None) (same job))

flip : (a b : ℕ) → nat_eq a b ≡ false → nat_eq b a ≡ false
flip a b h = grind (arith, nat_tests, h)

-- an item more, and one handled, of one job leave the others as they were

counted : (jobs : List JobRow) (items items' : List Logged) (other : ℕ) → count_by (is_unhandled_of other) items' ≡ count_by (is_unhandled_of other) items → restoring_at jobs items' other ≡ restoring_at jobs items other
counted jobs items items' other e = ap (λ (n : ℕ). cond (nat_lt 0 n) (restored_in jobs other) None) e

pub others_with : (jobs : List JobRow) (items : List Logged) (job : ℕ) (y : Logged) → job ≡ job_of y.item → (other : ℕ) → nat_eq other job ≡ false → restoring_at jobs (items ++ y ∷ []) other ≡ restoring_at jobs items other
others_with jobs items job y j other n = counted jobs items (items ++ y ∷ []) other (ap (λ (t : Tally). t.unhandled) (others_pushed job items y j other (flip other job n)))

pub others_after : (jobs : List JobRow) (items : List Logged) (job i : ℕ) (old : Logged) (how : Handled) → Some old ≡ slice_get items i → job ≡ job_of old.item → (other : ℕ) → nat_eq other job ≡ false →
    restoring_at jobs (handled_at items i how) other ≡ restoring_at jobs items other
others_after jobs items job i old how e j other n =
    let at = got_at items i old e in
    counted jobs items (handled_at items i how) other (ap (λ (t : Tally). t.unhandled) (others_handled job items i old how at.0 at.1 j other (flip other job n)))
  where
    got_at : (xs : List Logged) (k : ℕ) (x : Logged) → Some x ≡ slice_get xs k → (k < length xs) × (x ≡ get_or xs k x)
    got_at [] k x h = absurd (cc h)
    got_at (y ∷ ys) zero x h = (omega arith, cc h)
    got_at (y ∷ ys) (suc k) x h = let more = got_at ys k x h in (let l = more.0 in omega (arith, l), more.1)

pub handled_missing : (items : List Logged) (i : ℕ) (how : Handled) → None ≡ slice_get items i → items ≡ handled_at items i how
handled_missing [] i how e = refl
handled_missing (x ∷ xs) zero how e = absurd (cc e)
handled_missing (x ∷ xs) (suc i) how e = ap (λ (v : List Logged). x ∷ v) (handled_missing xs i how e)

-- the Restores as rows come and change

pub restored_started : (start root : ℕ) (name : JobName) (rows : List JobRow) (job : ℕ) → restored_in (rows ++ new_job start root name ∷ []) job ≡ restored_in rows job
restored_started start root name [] job = go (nat_eq start job)
  where
    go : (b : Bool) → option_and_then restored_of_row (cond b (Some (new_job start root name)) None) ≡ None
    go true = refl
    go false = refl
restored_started start root name (x ∷ xs) job = go (nat_eq x.start job) (restored_started start root name xs job)
  where
    go : (b : Bool) → restored_in (xs ++ new_job start root name ∷ []) job ≡ restored_in xs job →
        option_and_then restored_of_row (cond b (Some x) (find (starts_at job) (xs ++ new_job start root name ∷ []))) ≡ option_and_then restored_of_row (cond b (Some x) (find (starts_at job) xs))
    go true more = refl
    go false more = more

restored_changed : (p : JobRow → Bool) (f : JobRow → JobRow) → ((row : JobRow) → (f row).start ≡ row.start) → ((row : JobRow) → (f row).restored ≡ row.restored) → (rows : List JobRow) (job : ℕ) →
    restored_in (changed_first p f rows) job ≡ restored_in rows job
restored_changed p f s r [] job = refl
restored_changed p f s r (x ∷ xs) job = go (p x) (restored_changed p f s r xs job)
  where
    inner : (b : Bool) → option_and_then restored_of_row (cond b (Some (f x)) (find (starts_at job) xs)) ≡ option_and_then restored_of_row (cond b (Some x) (find (starts_at job) xs))
    inner true = r x
    inner false = refl

    later : (b : Bool) → restored_in (changed_first p f xs) job ≡ restored_in xs job →
        option_and_then restored_of_row (cond b (Some x) (find (starts_at job) (changed_first p f xs))) ≡ option_and_then restored_of_row (cond b (Some x) (find (starts_at job) xs))
    later true more = refl
    later false more = more

    go : (b : Bool) → restored_in (changed_first p f xs) job ≡ restored_in xs job → restored_in (cond b (f x ∷ xs) (x ∷ changed_first p f xs)) job ≡ restored_in (x ∷ xs) job
    go true more =
        ap (λ (n : ℕ). option_and_then restored_of_row (cond (nat_eq n job) (Some (f x)) (find (starts_at job) xs))) (s x) ∙ inner (nat_eq x.start job)
    go false more = later (nat_eq x.start job) more

by : {A : Type 0} (b : Bool) (g : JobRow → A) (x y : JobRow) → g x ≡ g y → g (cond b x y) ≡ g y
by true g x y e = e
by false g x y e = refl

pub restored_erased : (job moment : ℕ) (rows : List JobRow) (other : ℕ) → restored_in (changed_first (starts_at job) (erased_at job moment) rows) other ≡ restored_in rows other
restored_erased job moment rows other =
    restored_changed (starts_at job) (erased_at job moment) (λ row. by (nat_eq row.start job) (λ r. r.start) (record row { last = Some moment }) row refl)
    (λ row. by (nat_eq row.start job) (λ r. r.restored) (record row { last = Some moment }) row refl) rows other

pub restored_purged : (job : ℕ) (rows : List JobRow) (other : ℕ) → restored_in (changed_first (starts_at job) (purged_if job) rows) other ≡ restored_in rows other
restored_purged job rows other =
    restored_changed (starts_at job) (purged_if job) (λ row. by (nat_eq row.start job) (λ r. r.start) (record row { purged = true }) row refl)
    (λ row. by (nat_eq row.start job) (λ r. r.restored) (record row { purged = true }) row refl) rows other

pub others_restored : (job at : ℕ) (rows : List JobRow) (items : List Logged) (other : ℕ) → nat_eq other job ≡ false → restoring_at (changed_first (starts_at job) (row_restored_at job at) rows) items other ≡ restoring_at rows items other
others_restored job at rows items other n = ap (λ (o : Option JobRow). cond (nat_lt 0 (count_by (is_unhandled_of other) items)) (option_and_then restored_of_row o) None) (go rows)
  where
    outer : (x : JobRow) (xs : List JobRow) (b : Bool) → nat_eq x.start job ≡ b → find (starts_at other) (changed_first (starts_at job) (row_restored_at job at) xs) ≡ find (starts_at other) xs →
        find (starts_at other) (cond b (cond b (record x { restored = Some at }) x ∷ xs) (x ∷ changed_first (starts_at job) (row_restored_at job at) xs)) ≡ find (starts_at other) (x ∷ xs)
    outer x xs true h more =
        let apart : nat_eq x.start other ≡ false = grind (arith, nat_tests, h, n) in
        ap (λ (c : Bool). cond c (Some (record x { restored = Some at })) (find (starts_at other) xs)) apart ∙ sym (ap (λ (c : Bool). cond c (Some x) (find (starts_at other) xs)) apart)
    outer x xs false h more = ap (λ (o : Option JobRow). cond (nat_eq x.start other) (Some x) o) more

    go : (xs : List JobRow) → find (starts_at other) (changed_first (starts_at job) (row_restored_at job at) xs) ≡ find (starts_at other) xs
    go [] = refl
    go (x ∷ xs) = outer x xs (nat_eq x.start job) refl (go xs)
