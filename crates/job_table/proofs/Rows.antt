-- Look-ups of a job after a change of the rows.
use Rattle.std.proofs.Common.{◌≡◌, ℕ, zero, suc, ◌+◌, ◌<◌, ◌≤◌, Bool, true, false, cond, not, ◌&&◌, ◌||◌, List, [], ◌∷◌, ◌++◌, map, Option, Some, None, is_some, refl, sym, ◌∙◌, ap, arith}
use Rattle.std.specs.Prelude.{option_map, nat_eq, nat_lt, sum_by, slice_get, is_none}
use Rattle.std.proofs.lemmas.Bool.Decides.{nat_tests}
use Rattle.std.proofs.lemmas.Grind.{common_steps}
use Rattle.std.proofs.lemmas.List.Sums.{sum_by-cons, sum_by_push}
use Rattle.delf_model.specs.declared.rows.Item.{Item}
use Rattle.delf_model.specs.declared.ids.JobName.{JobName}
use Rattle.delf_model.specs.State.{JobRow, Logged, Handled, job_row, starts_at, is_restored, is_restored_row, job_of, is_object_item}
use Rattle.delf_model.specs.Step.{row_restored_at, purged_if, erased_at, new_job, unhandled, handled_at}
use Rattle.delf_model.specs.Room.{owed_for_job, owed_for_item}
use Rattle.job_table.specs.Table.{starts_rise}
use Rattle.job_table.specs.Notes.{weight_of}
use Rattle.job_table.specs.Parts.{changed_first}
use Rattle.job_table.proofs.Lookups.{both, join}
use Rattle.job_table.proofs.Sums.{sum_by-same}

-- look-ups of a job after a change of the rows

pub job_row-erased : (job moment other : ℕ) (rows : List JobRow) →
    job_row (map (erased_at job moment) rows) other ≡ option_map (erased_at job moment) (job_row rows other)
job_row-erased job moment other [] = refl
job_row-erased job moment other (x ∷ xs) = grind (arith, nat_tests, common_steps, job_row-erased job moment other xs)

pub job_row-purged : (job other : ℕ) (rows : List JobRow) →
    job_row (map (purged_if job) rows) other ≡ option_map (purged_if job) (job_row rows other)
job_row-purged job other [] = refl
job_row-purged job other (x ∷ xs) = grind (arith, nat_tests, common_steps, job_row-purged job other xs)

pub job_row-restored : (job position other : ℕ) (rows : List JobRow) →
    job_row (map (row_restored_at job position) rows) other ≡ option_map (row_restored_at job position) (job_row rows other)
job_row-restored job position other [] = refl
job_row-restored job position other (x ∷ xs) = grind (arith, nat_tests, common_steps, job_row-restored job position other xs)

pub is_restored-erased : (job moment other : ℕ) (rows : List JobRow) →
    is_restored (map (erased_at job moment) rows) other ≡ is_restored rows other
is_restored-erased job moment other rows = ap is_restored_row (job_row-erased job moment other rows) ∙ go (job_row rows other)
  where
    cases : (b : Bool) (row : JobRow) → is_some (cond b (record row { last = Some moment }) row).restored ≡ is_some row.restored
    cases true row = refl
    cases false row = refl

    go : (o : Option JobRow) → is_restored_row (option_map (erased_at job moment) o) ≡ is_restored_row o
    go None = refl
    go (Some row) = cases (nat_eq row.start job) row

pub is_restored-purged : (job other : ℕ) (rows : List JobRow) →
    is_restored (map (purged_if job) rows) other ≡ is_restored rows other
is_restored-purged job other rows = ap is_restored_row (job_row-purged job other rows) ∙ go (job_row rows other)
  where
    cases : (b : Bool) (row : JobRow) → is_some (cond b (record row { purged = true }) row).restored ≡ is_some row.restored
    cases true row = refl
    cases false row = refl

    go : (o : Option JobRow) → is_restored_row (option_map (purged_if job) o) ≡ is_restored_row o
    go None = refl
    go (Some row) = cases (nat_eq row.start job) row

pub is_restored-new : (start root : ℕ) (name : JobName) (other : ℕ) (rows : List JobRow) →
    is_restored (rows ++ new_job start root name ∷ []) other ≡ is_restored rows other
is_restored-new start root name other [] = go (nat_eq start other)
  where
    go : (b : Bool) → is_restored_row (cond b (Some (new_job start root name)) None) ≡ false
    go true = refl
    go false = refl
is_restored-new start root name other (x ∷ xs) = go (starts_at other x) (is_restored-new start root name other xs)
  where
    go : (b : Bool) → is_restored (xs ++ new_job start root name ∷ []) other ≡ is_restored xs other →
        is_restored_row (cond b (Some x) (job_row (xs ++ new_job start root name ∷ []) other)) ≡ is_restored_row (cond b (Some x) (job_row xs other))
    go true e = refl
    go false e = e

pub job_row_is : (job : ℕ) (row : JobRow) (rows : List JobRow) → job_row rows job ≡ Some row → row.start ≡ job
job_row_is job row [] e = absurd (cc e)
job_row_is job row (x ∷ xs) e = grind (arith, nat_tests, common_steps, job_row_is job row xs)

or_true : (a : Bool) → true ≡ (a || true)
or_true true = refl
or_true false = refl

or_false : (a : Bool) → a ≡ (a || false)
or_false true = refl
or_false false = refl

apart : (other job : ℕ) (rows : List JobRow) (row : JobRow) → job_row rows job ≡ Some row → job_row rows other ≡ None → nat_eq other job ≡ false
apart other job rows row e n = go (nat_eq other job) refl
  where
    same : nat_eq other job ≡ true → other ≡ job
    same h = grind (arith, nat_tests)

    go : (b : Bool) → nat_eq other job ≡ b → b ≡ false
    go true h = absurd (let q : job_row rows other ≡ job_row rows job = ap (job_row rows) (same h) in cc (q, e, n))
    go false h = refl

-- a job that is restored then
pub is_restored-restored : (job position other : ℕ) (row : JobRow) (rows : List JobRow) → job_row rows job ≡ Some row →
    is_restored (map (row_restored_at job position) rows) other ≡ (is_restored rows other || nat_eq other job)
is_restored-restored job position other row rows e =
    ap is_restored_row (job_row-restored job position other rows) ∙ go (job_row rows other) refl
  where
    pick : (b : Bool) (r : JobRow) → is_some (cond b (record r { restored = Some position }) r).restored ≡ (is_some r.restored || b)
    pick true r = or_true (is_some r.restored)
    pick false r = or_false (is_some r.restored)

    missing : job_row rows other ≡ None → nat_eq other job ≡ false
    missing n = apart other job rows row e n

    go : (o : Option JobRow) → job_row rows other ≡ o →
        is_restored_row (option_map (row_restored_at job position) o) ≡ (is_restored_row o || nat_eq other job)
    go None n = sym (missing n)
    go (Some r) n = pick (nat_eq r.start job) r ∙ ap (λ (k : ℕ). is_some r.restored || nat_eq k job) (job_row_is other r rows n)

-- starts

pub starts_wider : (low len more : ℕ) (rows : List JobRow) → len ≤ more → starts_rise low len rows ≡ true → starts_rise low more rows ≡ true
starts_wider low len more [] l h = refl
starts_wider low len more (x ∷ xs) l h = grind (arith, nat_tests, common_steps, starts_wider (suc x.start) len more xs)

pub starts_push : (low len root : ℕ) (name : JobName) (rows : List JobRow) → low ≤ len → starts_rise low len rows ≡ true →
    starts_rise low (len + 1) (rows ++ new_job len root name ∷ []) ≡ true
starts_push low len root name [] l h = grind (arith, nat_tests, common_steps)
starts_push low len root name (x ∷ xs) l h = grind (arith, nat_tests, common_steps, starts_push (suc x.start) len root name xs)

pub starts_map : (f : JobRow → JobRow) (low len : ℕ) (rows : List JobRow) → ((row : JobRow) → (f row).start ≡ row.start) →
    starts_rise low len rows ≡ true → starts_rise low len (map f rows) ≡ true
starts_map f low len [] e h = refl
starts_map f low len (x ∷ xs) e h =
    let parts = both (not (nat_lt x.start low) && nat_lt x.start len) (starts_rise (suc x.start) len xs) h in
    let more = starts_map f (suc x.start) len xs e parts.1 in
    rw (e x) (join (not (nat_lt x.start low) && nat_lt x.start len) (starts_rise (suc x.start) len (map f xs)) parts.0 more)

-- no job starts below or past the starts
pub none_starts_below : (low len job : ℕ) (rows : List JobRow) → starts_rise low len rows ≡ true → job < low → job_row rows job ≡ None
none_starts_below low len job [] h l = refl
none_starts_below low len job (x ∷ xs) h l = grind (arith, nat_tests, common_steps, none_starts_below (suc x.start) len job xs)

pub none_starts_past : (low len job : ℕ) (rows : List JobRow) → starts_rise low len rows ≡ true → len ≤ job → job_row rows job ≡ None
none_starts_past low len job [] h l = refl
none_starts_past low len job (x ∷ xs) h l = grind (arith, nat_tests, common_steps, none_starts_past (suc x.start) len job xs)

-- what unpurged jobs count

pub owed_jobs-same : (f : JobRow → JobRow) (rows : List JobRow) → ((row : JobRow) → (f row).purged ≡ row.purged) →
    sum_by owed_for_job (map f rows) ≡ sum_by owed_for_job rows
owed_jobs-same f [] e = refl
owed_jobs-same f (x ∷ xs) e =
    omega (arith, sum_by-cons owed_for_job (f x) (map f xs), sum_by-cons owed_for_job x xs, owed_jobs-same f xs e, ap (λ (b : Bool). owed_if b) (e x))
  where
    owed_if : Bool → ℕ
    owed_if b = cond b 0 1

pub owed_jobs-absent : (job : ℕ) (rows : List JobRow) → job_row rows job ≡ None →
    sum_by owed_for_job (map (purged_if job) rows) ≡ sum_by owed_for_job rows
owed_jobs-absent job [] e = refl
owed_jobs-absent job (x ∷ xs) e = go (nat_eq x.start job) e (owed_jobs-absent job xs)
  where
    go : (b : Bool) → cond b (Some x) (job_row xs job) ≡ None →
        (job_row xs job ≡ None → sum_by owed_for_job (map (purged_if job) xs) ≡ sum_by owed_for_job xs) →
        sum_by owed_for_job (cond b (record x { purged = true }) x ∷ map (purged_if job) xs) ≡ sum_by owed_for_job (x ∷ xs)
    go true n more = absurd (cc n)
    go false n more = omega (arith, sum_by-cons owed_for_job x (map (purged_if job) xs), sum_by-cons owed_for_job x xs, more n)

pub owed_jobs-purged : (job low len : ℕ) (row : JobRow) (rows : List JobRow) → starts_rise low len rows ≡ true → job_row rows job ≡ Some row →
    row.purged ≡ false → sum_by owed_for_job (map (purged_if job) rows) + 1 ≡ sum_by owed_for_job rows
owed_jobs-purged job low len row [] h e p = absurd (cc e)
owed_jobs-purged job low len row (x ∷ xs) h e p =
    let parts = both (not (nat_lt x.start low) && nat_lt x.start len) (starts_rise (suc x.start) len xs) h in
    go (nat_eq x.start job) refl e (owed_jobs-purged job (suc x.start) len row xs parts.1)
    (λ s. owed_jobs-absent job xs (none_starts_below (suc x.start) len job xs parts.1 (let l : job < suc x.start = grind (arith, nat_tests, s) in l)))
  where
    weight : Bool → ℕ
    weight b = cond b 0 1

    go : (b : Bool) → nat_eq x.start job ≡ b → cond b (Some x) (job_row xs job) ≡ Some row →
        (job_row xs job ≡ Some row → row.purged ≡ false → sum_by owed_for_job (map (purged_if job) xs) + 1 ≡ sum_by owed_for_job xs) →
        (nat_eq x.start job ≡ true → sum_by owed_for_job (map (purged_if job) xs) ≡ sum_by owed_for_job xs) →
        sum_by owed_for_job (cond b (record x { purged = true }) x ∷ map (purged_if job) xs) + 1 ≡ sum_by owed_for_job (x ∷ xs)
    go true s f more rest =
        let at : x ≡ row = cc f in
        let one : owed_for_job x ≡ 1 = ap (λ (r : JobRow). weight r.purged) at ∙ ap weight p in
        omega (arith, sum_by-cons owed_for_job (record x { purged = true }) (map (purged_if job) xs), sum_by-cons owed_for_job x xs, rest s, one)
    go false s f more rest =
        omega (arith, sum_by-cons owed_for_job x (map (purged_if job) xs), sum_by-cons owed_for_job x xs, more f p)

-- what unhandled items count

pub owed_items-same : (old new : List JobRow) (items : List Logged) → ((job : ℕ) → is_restored new job ≡ is_restored old job) →
    sum_by (owed_for_item new) items ≡ sum_by (owed_for_item old) items
owed_items-same old new items e =
    sum_by-same (owed_for_item new) (owed_for_item old) items (λ x. ap (λ (b : Bool). weight (is_none x.handled && b) (is_object_item x.item)) (e (job_of x.item)))
  where
    weight : Bool → Bool → ℕ
    weight a b = cond a (cond b 4 2) 0

pub owed_items-push : (jobs : List JobRow) (items : List Logged) (it : Item) → is_restored jobs (job_of it) ≡ false →
    sum_by (owed_for_item jobs) (items ++ unhandled it ∷ []) ≡ sum_by (owed_for_item jobs) items
owed_items-push jobs items it e =
    let none : owed_for_item jobs (unhandled it) ≡ 0 = ap (λ (b : Bool). weight b (is_object_item it)) e in
    omega (arith, sum_by_push (owed_for_item jobs) items (unhandled it), none)
  where
    weight : Bool → Bool → ℕ
    weight a b = cond a (cond b 4 2) 0

pub owed_items-handled : (jobs : List JobRow) (items : List Logged) (i : ℕ) (how : Handled) (logged : Logged) → slice_get items i ≡ Some logged →
    sum_by (owed_for_item jobs) (handled_at items i how) + owed_for_item jobs logged ≡ sum_by (owed_for_item jobs) items
owed_items-handled jobs [] i how logged e = absurd (cc e)
owed_items-handled jobs (x ∷ xs) zero how logged e =
    let at : x ≡ logged = cc e in
    let same : owed_for_item jobs x ≡ owed_for_item jobs logged = ap (owed_for_item jobs) at in
    omega (arith, sum_by-cons (owed_for_item jobs) (record { item = x.item; handled = Some how }) xs, sum_by-cons (owed_for_item jobs) x xs, same)
owed_items-handled jobs (x ∷ xs) (suc i) how logged e =
    omega (arith, sum_by-cons (owed_for_item jobs) x (handled_at xs i how), sum_by-cons (owed_for_item jobs) x xs, owed_items-handled jobs xs i how logged e)

pub owed_items-restored : (old new : List JobRow) (job : ℕ) (items : List Logged) →
    ((other : ℕ) → is_restored new other ≡ (is_restored old other || nat_eq other job)) → is_restored old job ≡ false →
    sum_by (owed_for_item new) items ≡ sum_by (owed_for_item old) items + sum_by (weight_of job) items
owed_items-restored old new job [] e n = refl
owed_items-restored old new job (x ∷ xs) e n =
    let one = split (is_none x.handled) (is_restored old (job_of x.item)) (nat_eq (job_of x.item) job) (is_restored new (job_of x.item)) (is_object_item x.item) (e (job_of x.item)) (λ s. ap (is_restored old) (same s) ∙ n) in
    omega (arith, sum_by-cons (owed_for_item new) x xs, sum_by-cons (owed_for_item old) x xs, sum_by-cons (weight_of job) x xs, owed_items-restored old new job xs e n, one)
  where
    same : nat_eq (job_of x.item) job ≡ true → job_of x.item ≡ job
    same h = grind (arith, nat_tests)

    split : (h o j r k : Bool) → r ≡ (o || j) → (j ≡ true → o ≡ false) →
        cond (h && r) (cond k 4 2) 0 ≡ cond (h && o) (cond k 4 2) 0 + cond (j && h) (cond k 4 2) 0
    split h o j r k e f = grind (arith, nat_tests, common_steps)

-- starts stand once, so the first row that starts there is the only one

pub changed_nothing : (f : JobRow → JobRow) (job : ℕ) (rows : List JobRow) → ((row : JobRow) → nat_eq row.start job ≡ false → f row ≡ row) →
    job_row rows job ≡ None → map f rows ≡ rows
changed_nothing f job [] e n = refl
changed_nothing f job (x ∷ xs) e n = go (nat_eq x.start job) refl n (changed_nothing f job xs e)
  where
    go : (b : Bool) → nat_eq x.start job ≡ b → cond b (Some x) (job_row xs job) ≡ None → (job_row xs job ≡ None → map f xs ≡ xs) → f x ∷ map f xs ≡ x ∷ xs
    go true h m more = absurd (cc m)
    go false h m more = ap (λ (y : JobRow). y ∷ map f xs) (e x h) ∙ ap (λ (l : List JobRow). x ∷ l) (more m)

pub changed_is_map : (f : JobRow → JobRow) (job low len : ℕ) (rows : List JobRow) → ((row : JobRow) → nat_eq row.start job ≡ false → f row ≡ row) →
    starts_rise low len rows ≡ true → changed_first (starts_at job) f rows ≡ map f rows
changed_is_map f job low len [] e h = refl
changed_is_map f job low len (x ∷ xs) e h =
    let parts = both (not (nat_lt x.start low) && nat_lt x.start len) (starts_rise (suc x.start) len xs) h in
    go (nat_eq x.start job) refl (changed_is_map f job (suc x.start) len xs e parts.1)
    (λ s. changed_nothing f job xs e (none_starts_below (suc x.start) len job xs parts.1 (let l : job < suc x.start = grind (arith, nat_tests, s) in l)))
  where
    go : (b : Bool) → nat_eq x.start job ≡ b → changed_first (starts_at job) f xs ≡ map f xs → (nat_eq x.start job ≡ true → map f xs ≡ xs) →
        cond b (f x ∷ xs) (x ∷ changed_first (starts_at job) f xs) ≡ f x ∷ map f xs
    go true s more rest = ap (λ (l : List JobRow). f x ∷ l) (sym (rest s))
    go false s more rest = ap (λ (l : List JobRow). x ∷ l) more ∙ ap (λ (y : JobRow). y ∷ map f xs) (sym (e x s))

pub erased_other : (job moment : ℕ) (row : JobRow) → nat_eq row.start job ≡ false → erased_at job moment row ≡ row
erased_other job moment row e = ap (λ (b : Bool). cond b (record row { last = Some moment }) row) e

pub purged_other : (job : ℕ) (row : JobRow) → nat_eq row.start job ≡ false → purged_if job row ≡ row
purged_other job row e = ap (λ (b : Bool). cond b (record row { purged = true }) row) e

pub restored_other : (job position : ℕ) (row : JobRow) → nat_eq row.start job ≡ false → row_restored_at job position row ≡ row
restored_other job position row e = ap (λ (b : Bool). cond b (record row { restored = Some position }) row) e
