-- A restore: what the readings of a table say of the job.
use Rattle.std.proofs.Common.{◌≡◌, ℕ, ◌+◌, ◌*◌, ◌<◌, ◌≤◌, Bool, true, false, cond, ◌&&◌, ◌||◌, not, Option, Some, None, List, [], ◌∷◌, map, is_some, refl, sym, ap, subst, ◌∙◌, arith}
use Rattle.std.specs.Prelude.{nat_eq, nat_lt, is_none, sum_by, count_by, option_and_then}
use Rattle.std.proofs.lemmas.Bool.Decides.{nat_tests}
use Rattle.std.proofs.lemmas.Bool.{false≢true}
use Rattle.std.proofs.lemmas.List.Sums.{sum_by-cons}
use Rattle.delf_model.specs.declared.call.Refusal.{Refusal}
use Rattle.delf_model.specs.declared.call.Refusal.TheVariants.{NoJob, Pending, WindowOver}
use Rattle.delf_model.specs.declared.call.Status.{Status}
use Rattle.delf_model.specs.declared.call.Status.TheVariants as status
use Rattle.delf_model.specs.declared.entry.Tag.{Tag}
use Rattle.delf_model.specs.declared.entry.What.TheVariants.{Restore}
use Rattle.delf_model.specs.declared.ids.JobName.{JobName}
use Rattle.delf_model.specs.RuleSet.{RuleSet}
use Rattle.delf_model.specs.State.{State, JobRow, Logged, Handled, owned, left, job_row, find_job, last_of, same_name, job_of, is_object_item, is_restored, is_restored_row}
use Rattle.delf_model.specs.Step.{step, after, row_restored_at}
use Rattle.delf_model.specs.Room.{owed}
use Rattle.delf_model.specs.Reply.{no_job, pending, restored_before, restored_by, window_over, window_end}
use Rattle.delf_model.specs.State.{last_erasure_or_zero}
use Rattle.delf_model.specs.Report.{status_of_row, status_or_none, erased_count, cut_count, put_count, listed_count, is_object_of, is_edge_of}
use Rattle.delf_model.specs.Report.{status as status_of}
use Rattle.delf_model.proofs.Good.{good_after}
use Rattle.delf_model.proofs.Places.{EachItem, HandledOf}
use Rattle.job_table.specs.Table.{Table, IsTableOf, Keeps, restored_of, restored_of_row, last_of_row}
use Rattle.job_table.specs.Notes.{weight_of}
use Rattle.job_table.proofs.Rows.{job_row_is, is_restored-restored, owed_items-restored, owed_jobs-same}
use Rattle.job_table.proofs.Steps.{eqb_is}
use Rattle.job_table.proofs.Accounts.{owes}
use Rattle.job_table.proofs.Begins.{restore_same}
use Rattle.job_table.proofs.Lefts.{done_case, left_none}
use Rattle.live_writes.specs.History.{IsTableOfHistory, end_of_window}

-- the job that a name means has a row

named_row : (row : JobRow) (rows : List JobRow) (same : Bool) (later : Option ℕ) (job : ℕ) → (later ≡ Some job → is_some (job_row rows job) ≡ true) →
    last_of (cond same (Some row.start) None) later ≡ Some job → is_some (job_row (row ∷ rows) job) ≡ true
named_row row rows same (Some other) job more found = go (nat_eq row.start job) (more (rest same found))
  where
    rest : (b : Bool) → last_of (cond b (Some row.start) None) (Some other) ≡ Some job → Some other ≡ Some job
    rest true is = is
    rest false is = is

    go : (b : Bool) → is_some (job_row rows job) ≡ true → is_some (cond b (Some row) (job_row rows job)) ≡ true
    go true is = refl
    go false is = is
named_row row rows true None job more found =
    let same : row.start ≡ job = cc found in
    let hit : nat_eq row.start job ≡ true = grind (arith, nat_tests) in
    ap (λ (b : Bool). is_some (cond b (Some row) (job_row rows job))) hit
named_row row rows false None job more found = absurd (cc found)

pub found_row : (rows : List JobRow) (name : JobName) (job : ℕ) → find_job rows name ≡ Some job → is_some (job_row rows job) ≡ true
found_row [] name job found = absurd (cc found)
found_row (row ∷ rows) name job found = named_row row rows (same_name row.name name) (find_job rows name) job (found_row rows name job) found

some_row : (o : Option JobRow) → is_some o ≡ true → (row : JobRow) × (o ≡ Some row)
some_row None is = absurd (cc is)
some_row (Some row) is = (row, refl)

pub row_of_name : (s : State) (name : JobName) (job : ℕ) → find_job s.jobs name ≡ Some job → (row : JobRow) × (job_row s.jobs job ≡ Some row)
row_of_name s name job found = some_row (job_row s.jobs job) (found_row s.jobs name job found)

-- the refusals before the room

pub job_is_there : (s : State) (name : JobName) (job : ℕ) → find_job s.jobs name ≡ Some job → None ≡ no_job s job
job_is_there s name job found =
    sym (ap (λ (b : Bool). let o : Option Refusal = cond b None (Some NoJob) in o) (found_row s.jobs name job found))

pub pending_now : (s : State) (job n : ℕ) → n ≡ owned s job → 0 < n → Some (Pending n) ≡ pending s job
pending_now s job n is some =
    let miss : nat_eq (owned s job) 0 ≡ false = grind (arith, nat_tests) in
    ap (λ (k : ℕ). Some (Pending k)) is ∙ sym (ap (λ (b : Bool). let o : Option Refusal = cond b None (Some (Pending (owned s job))) in o) miss)

pub none_pending_now : (s : State) (job n : ℕ) → n ≡ owned s job → n ≤ 0 → None ≡ pending s job
none_pending_now s job n is none =
    let hit : nat_eq (owned s job) 0 ≡ true = grind (arith, nat_tests) in
    sym (ap (λ (b : Bool). let o : Option Refusal = cond b None (Some (Pending (owned s job))) in o) hit)

before_by : (o : Option JobRow) (position : Option ℕ) → position ≡ option_and_then restored_of_row o → restored_by position ≡ restored_before o
before_by None position is = ap restored_by is
before_by (Some row) position is = ap restored_by is

pub not_restored_yet : (s : State) (job : ℕ) → None ≡ restored_of s job → None ≡ restored_before (job_row s.jobs job)
not_restored_yet s job is = before_by (job_row s.jobs job) None is

no_restore : (o : Option JobRow) → None ≡ option_and_then restored_of_row o → is_restored_row o ≡ false
no_restore None is = refl
no_restore (Some row) is = ap is_some (sym is)

-- what holds of a job that owns nothing and was not restored
pub record Idle (s : State) (job : ℕ) (row : JobRow) : Type 0 where
  pub found : job_row s.jobs job ≡ Some row
  pub start : row.start ≡ job
  pub owns_none : owned s row.start ≡ 0
  pub unrestored : is_restored s.jobs job ≡ false
  pub unrestored_row : is_some row.restored ≡ false
  pub none_left : left s row.start ≡ 0

pub idle_of : (s : State) (job n : ℕ) (row : JobRow) → job_row s.jobs job ≡ Some row → n ≡ owned s job → n ≤ 0 → None ≡ restored_of s job → Idle s job row
idle_of s job n row found is none unrestored =
    let start = job_row_is job row s.jobs found in
    let not_restored : is_restored s.jobs job ≡ false = no_restore (job_row s.jobs job) unrestored in
    record {
      found = found;
      start = start;
      owns_none = ap (owned s) start ∙ (let zero : owned s job ≡ 0 = omega arith in zero);
      unrestored = not_restored;
      unrestored_row = sym (ap is_restored_row found) ∙ not_restored;
      none_left = ap (left s) start ∙ left_none s job not_restored;
    }

status_row : (s : State) (name : JobName) (job : ℕ) (row : JobRow) → find_job s.jobs name ≡ Some job → job_row s.jobs job ≡ Some row → status_of s name ≡ status_of_row s row
status_row s name job row named found =
    ap (λ (o : Option ℕ). status_or_none s (option_and_then (job_row s.jobs) o)) named ∙ ap (status_or_none s) found

done_now : (s : State) (job : ℕ) (row : JobRow) → Idle s job row → row.purged ≡ false →
    status.Done (erased_count s row.start) (cut_count s row.start) (last_erasure_or_zero row.last) ≡ status_of_row s row
done_now s job row idle unpurged =
    done_case row.purged 0 (owned s row.start) (left s row.start) (is_some row.restored) (put_count s row.start) (listed_count s row.start)
    (erased_count s row.start) (cut_count s row.start) (last_erasure_or_zero row.last) _ _ _ unpurged (sym idle.owns_none) (omega arith) idle.none_left idle.unrestored_row refl refl refl

purged_now : (s : State) (row : JobRow) → row.purged ≡ true → status.Purged ≡ status_of_row s row
purged_now s row purged =
    sym (ap (λ (b : Bool). cond b status.Purged
    (cond (nat_lt 0 (owned s row.start)) (status.Pending (owned s row.start))
    (cond (nat_lt 0 (left s row.start)) (status.Restoring (left s row.start))
    (cond (is_some row.restored) (status.Restored (put_count s row.start) (listed_count s row.start))
    (status.Done (erased_count s row.start) (cut_count s row.start) (last_erasure_or_zero row.last)))))) purged)

-- what a status of done says
pub record Counted (s : State) (job : ℕ) (row : JobRow) (erased cut : ℕ) : Type 0 where
  pub unpurged : row.purged ≡ false
  pub objects : erased ≡ erased_count s job
  pub edges : cut ≡ cut_count s job

pub counted_of : (s : State) (name : JobName) (job : ℕ) (row : JobRow) (erased cut last : ℕ) → find_job s.jobs name ≡ Some job → Idle s job row →
    status.Done erased cut last ≡ status_of s name → Counted s job row erased cut
counted_of s name job row erased cut last named idle is = go row.purged refl
  where
    row_is : status.Done erased cut last ≡ status_of_row s row
    row_is = is ∙ status_row s name job row named idle.found

    go : (b : Bool) → row.purged ≡ b → Counted s job row erased cut
    go true purged = absurd (let a = row_is in let b = purged_now s row purged in cc (a, b))
    go false unpurged =
        let same : status.Done erased cut last ≡ status.Done (erased_count s row.start) (cut_count s row.start) (last_erasure_or_zero row.last) =
        row_is ∙ sym (done_now s job row idle unpurged) in
        let one : erased ≡ erased_count s row.start = cc same in
        let two : cut ≡ cut_count s row.start = cc same in
        record { unpurged = unpurged; objects = one ∙ ap (erased_count s) idle.start; edges = two ∙ ap (cut_count s) idle.start }

-- another status says that it is purged
pub purged_of : (s : State) (name : JobName) (job : ℕ) (row : JobRow) (told : Status) → find_job s.jobs name ≡ Some job → Idle s job row → told ≡ status_of s name →
    ((erased cut last : ℕ) → told ≡ status.Done erased cut last → ⊥) → row.purged ≡ true
purged_of s name job row told named idle is other = go row.purged refl
  where
    go : (b : Bool) → row.purged ≡ b → b ≡ true
    go true purged = refl
    go false unpurged = absurd (other _ _ _ (is ∙ status_row s name job row named idle.found ∙ sym (done_now s job row idle unpurged)))

-- the window

end_is : (s : State) (job : ℕ) (row : JobRow) → job_row s.jobs job ≡ Some row → end_of_window s job ≡ window_end s row
end_is s job row found = ap (λ (o : Option JobRow). last_erasure_or_zero (option_and_then last_of_row o) + s.rules.window) found

over_if : (b : Bool) (last last' : ℕ) → last ≡ last' → b ≡ true → (let o : Option Refusal = Some (WindowOver last) in o) ≡ cond b (Some (WindowOver last')) None
over_if true last last' is is_true = ap (λ (n : ℕ). Some (WindowOver n)) is
over_if false last last' is is_true = absurd (cc is_true)

or_first : (a b : Bool) → a ≡ true → (a || b) ≡ true
or_first true b is_true = refl
or_first false b is_true = absurd (cc is_true)

or_neither : (a b : Bool) → a ≡ false → b ≡ false → (a || b) ≡ false
or_neither true b is_false other = absurd (cc is_false)
or_neither false b is_false other = other

pub over_by_purge : (s : State) (job m last : ℕ) (row : JobRow) → job_row s.jobs job ≡ Some row → last ≡ end_of_window s job → row.purged ≡ true →
    Some (WindowOver last) ≡ window_over s m (job_row s.jobs job)
over_by_purge s job m last row found is purged =
    over_if (row.purged || nat_lt (window_end s row) m) last (window_end s row) (is ∙ end_is s job row found) (or_first row.purged (nat_lt (window_end s row) m) purged)
    ∙ sym (ap (window_over s m) found)

pub not_over : (s : State) (job m last : ℕ) (row : JobRow) → job_row s.jobs job ≡ Some row → last ≡ end_of_window s job → m ≤ last → row.purged ≡ false →
    None ≡ window_over s m (job_row s.jobs job)
not_over s job m last row found is early unpurged =
    let same : last ≡ window_end s row = is ∙ end_is s job row found in
    let test : nat_lt (window_end s row) m ≡ false = grind (arith, nat_tests) in
    sym (ap (window_over s m) found
    ∙ ap (λ (b : Bool). let o : Option Refusal = cond b (Some (WindowOver (window_end s row))) None in o) (or_neither row.purged (nat_lt (window_end s row) m) unpurged test))

-- the room: what the items of a job that was not restored will count

weights : (jobs : List JobRow) (job : ℕ) (items : List Logged) → is_restored jobs job ≡ false → EachItem (HandledOf jobs) items →
    sum_by (weight_of job) items ≡ 4 * count_by (is_object_of job) items + 2 * count_by (is_edge_of job) items
weights jobs job [] not_restored each = omega arith
weights jobs job (x ∷ xs) not_restored each =
    let rest = weights jobs job xs not_restored each.1 in
    let here : weight_of job x ≡ 4 * cond (is_object_of job x) 1 0 + 2 * cond (is_edge_of job x) 1 0 = one (nat_eq (job_of x.item) job) refl x.handled (is_object_item x.item) (waits x.handled refl) in
    omega (arith, rest, here, sum_by-cons (weight_of job) x xs, sum_by-cons (λ y. cond (is_object_of job y) 1 0) x xs, sum_by-cons (λ y. cond (is_edge_of job y) 1 0) x xs)
  where
    waits : (how : Option Handled) → x.handled ≡ how → nat_eq (job_of x.item) job ≡ true → is_none how ≡ true
    waits None is mine = refl
    waits (Some h) is mine =
        let same : job_of x.item ≡ job = eqb_is (job_of x.item) job mine in
        absurd (false≢true (sym not_restored ∙ (sym (ap (is_restored jobs) same) ∙ each.0 (ap is_some is))))

    one : (mine : Bool) → nat_eq (job_of x.item) job ≡ mine → (how : Option Handled) (object : Bool) → (nat_eq (job_of x.item) job ≡ true → is_none how ≡ true) →
        cond (mine && is_none how) (cond object 4 2) 0 ≡ 4 * cond (mine && object) 1 0 + 2 * cond (mine && not object) 1 0
    one true is None true free = refl
    one true is None false free = refl
    one true is (Some h) object free = absurd (cc (free is))
    one false is how object free = refl

pub restored_owed : (s : State) (m job : ℕ) (tag : Tag) (row : JobRow) → Keeps s → Idle s job row → EachItem (HandledOf s.jobs) s.items →
    owed (step s (record { moment = m; what = Restore tag job })) ≡ owed s + (4 * erased_count s job + 2 * cut_count s job)
restored_owed s m job tag row k idle each =
    omega (
      arith,
      (restore_same s k).weight owes,
      owed_jobs-same (row_restored_at job s.len) s.jobs (restored_purged job s.len),
      owed_items-restored s.jobs (map (row_restored_at job s.len) s.jobs) job s.items (λ other. is_restored-restored job s.len other row s.jobs idle.found) idle.unrestored,
      weights s.jobs job s.items idle.unrestored each,
    )
  where
    restored_purged : (other position : ℕ) (r : JobRow) → (row_restored_at other position r).purged ≡ r.purged
    restored_purged other position r = go (nat_eq r.start other)
      where
        go : (b : Bool) → (cond b (record r { restored = Some position }) r).purged ≡ r.purged
        go true = refl
        go false = refl

-- what is known of a table of a history holds of each state that it is the table of

pub handled_of_table : (s : State) (t : Table) (rules : RuleSet) → IsTableOfHistory t rules → IsTableOf s t → EachItem (HandledOf s.jobs) s.items
handled_of_table s t rules h is =
    let good = good_after rules h.0 h.1 in
    let jobs : (after rules h.0).jobs ≡ s.jobs = sym h.2.jobs ∙ is.jobs in
    let items : (after rules h.0).items ≡ s.items = sym h.2.items ∙ is.items in
    subst (λ (js : List JobRow). EachItem (HandledOf js) s.items) jobs
    (subst (λ (xs : List Logged). EachItem (HandledOf (after rules h.0).jobs) xs) items good.handled)
