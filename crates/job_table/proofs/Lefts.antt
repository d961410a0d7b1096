-- How many items of a job are left to be handled.
use Rattle.std.proofs.Common.{◌≡◌, ℕ, zero, suc, ◌<◌, ◌≤◌, Bool, true, false, cond, ◌&&◌, not, List, ◌∷◌, [], Option, Some, None, is_some, refl, sym, ◌∙◌, ap, arith}
use Rattle.std.specs.Prelude.{nat_eq, nat_lt, is_none, count_by, sum_by, slice_get}
use Rattle.std.proofs.lemmas.Bool.Decides.{nat_tests}
use Rattle.std.proofs.lemmas.Grind.{common_steps}
use Rattle.std.specs.Prelude.{option_and_then}
use Rattle.std.specs.Option.{unwrap_or}
use Rattle.delf_model.specs.declared.call.JobLine.{JobLine}
use Rattle.delf_model.specs.State.{last_erasure_or_zero}
use Rattle.delf_model.specs.Report.{erased_count, cut_count, status_of_row, job_line, status, status_or_none, line_of_row, job_at}
use Rattle.delf_model.specs.declared.ids.JobName.{JobName}
use Rattle.job_table.proofs.Rows.{job_row_is}
use Rattle.delf_model.specs.declared.call.Status.{Status}
use Rattle.delf_model.specs.declared.call.Status.TheVariants.{Pending, Done, Restoring, Restored, Purged}
use Rattle.delf_model.specs.State.{State, JobRow, Logged, job_of, left, is_open_of, is_restored, is_restored_row, job_row, find_job}
use Rattle.job_table.specs.Table.{starts_rise}
use Rattle.job_table.specs.Items.{is_unhandled_of}
use Rattle.job_table.proofs.Lookups.{both}
use Rattle.job_table.proofs.Passing.{one_if}
use Rattle.job_table.proofs.Sums.{sum_by-same}
use Rattle.job_table.proofs.Steps.{eqb_is}

open_case : (j h r : Bool) → (j ≡ true → r ≡ true) → (j && (h && r)) ≡ (j && h)
open_case false h r e = refl
open_case true false r e = refl
open_case true true r e = e refl

shut_case : (j h r : Bool) → (j ≡ true → r ≡ false) → (j && (h && r)) ≡ false
shut_case false h r e = refl
shut_case true false r e = refl
shut_case true true r e = e refl

-- of a restored job the unhandled items are left
pub left_restored : (s : State) (job : ℕ) → is_restored s.jobs job ≡ true → left s job ≡ count_by (is_unhandled_of job) s.items
left_restored s job r =
    sum_by-same (λ x. one_if (is_open_of job s.jobs x)) (λ x. one_if (is_unhandled_of job x)) s.items
    (λ x. ap one_if (open_case (nat_eq (job_of x.item) job) (is_none x.handled) (is_restored s.jobs (job_of x.item)) (λ h. ap (is_restored s.jobs) (eqb_is (job_of x.item) job h) ∙ r)))

zero_sum : (xs : List Logged) → sum_by (λ x. 0) xs ≡ 0
zero_sum [] = refl
zero_sum (x ∷ xs) = zero_sum xs

-- of another job none is left
pub left_none : (s : State) (job : ℕ) → is_restored s.jobs job ≡ false → left s job ≡ 0
left_none s job r =
    sum_by-same (λ x. one_if (is_open_of job s.jobs x)) (λ x. 0) s.items
    (λ x. ap one_if (shut_case (nat_eq (job_of x.item) job) (is_none x.handled) (is_restored s.jobs (job_of x.item)) (λ h. ap (is_restored s.jobs) (eqb_is (job_of x.item) job h) ∙ r)))
    ∙ zero_sum s.items

pub is_restored_at : (s : State) (row : JobRow) (b : Bool) → job_row s.jobs row.start ≡ Some row → is_some row.restored ≡ b → is_restored s.jobs row.start ≡ b
is_restored_at s row b e r = ap is_restored_row e ∙ r

-- the row at a place is the row of its start

pub later_start : (low len i : ℕ) (row : JobRow) (rows : List JobRow) → starts_rise low len rows ≡ true → slice_get rows i ≡ Some row → nat_lt row.start low ≡ false
later_start low len i row [] h e = absurd (cc e)
later_start low len zero row (x ∷ xs) h e = grind (arith, nat_tests, common_steps)
later_start low len (suc i) row (x ∷ xs) h e = grind (arith, nat_tests, common_steps, later_start (suc x.start) len i row xs)

pub row_at_place : (low len i : ℕ) (row : JobRow) (rows : List JobRow) → starts_rise low len rows ≡ true → slice_get rows i ≡ Some row →
    job_row rows row.start ≡ Some row
row_at_place low len i row [] h e = absurd (cc e)
row_at_place low len zero row (x ∷ xs) h e = grind (arith, nat_tests, common_steps)
row_at_place low len (suc i) row (x ∷ xs) h e =
    let parts = both (not (nat_lt x.start low) && nat_lt x.start len) (starts_rise (suc x.start) len xs) h in
    let more = row_at_place (suc x.start) len i row xs parts.1 e in
    let apart = later_start (suc x.start) len i row xs parts.1 e in
    let test : nat_eq x.start row.start ≡ false = grind (arith, nat_tests, apart) in
    ap (λ (b : Bool). cond b (Some x) (job_row xs row.start)) test ∙ more

-- a status, by its numbers

abbrev pub status_by : Bool → ℕ → ℕ → Bool → ℕ → ℕ → ℕ → ℕ → ℕ → Status
status_by purged owned left restored put listed erased cut last =
    cond purged Purged (cond (nat_lt 0 owned) (Pending owned) (cond (nat_lt 0 left) (Restoring left) (cond restored (Restored put listed) (Done erased cut last))))

pub pending_case : (purged : Bool) (n owned left : ℕ) (restored : Bool) (put listed erased cut last : ℕ) → purged ≡ false → n ≡ owned → 0 < n →
    Pending n ≡ status_by purged owned left restored put listed erased cut last
pending_case true n owned left restored put listed erased cut last p e h = absurd (cc p)
pending_case false n owned left restored put listed erased cut last p e h =
    let t : nat_lt 0 owned ≡ true = grind (arith, nat_tests, e, h) in
    ap Pending e ∙ sym (ap (λ (b : Bool). cond b (Pending owned) (cond (nat_lt 0 left) (Restoring left) (cond restored (Restored put listed) (Done erased cut last)))) t)

pub restored_case : (purged : Bool) (n owned left : ℕ) (restored : Bool) (put listed erased cut last : ℕ) → purged ≡ false → n ≡ owned → n ≤ 0 → restored ≡ true →
    cond (nat_lt 0 left) (Restoring left) (Restored put listed) ≡ status_by purged owned left restored put listed erased cut last
restored_case true n owned left restored put listed erased cut last p e h r = absurd (cc p)
restored_case false n owned left restored put listed erased cut last p e h r =
    let t : nat_lt 0 owned ≡ false = grind (arith, nat_tests, e, h) in
    sym (ap (λ (b : Bool). cond b (Pending owned) (cond (nat_lt 0 left) (Restoring left) (cond restored (Restored put listed) (Done erased cut last)))) t
    ∙ ap (λ (b : Bool). cond (nat_lt 0 left) (Restoring left) (cond b (Restored put listed) (Done erased cut last))) r)

pub done_case : (purged : Bool) (n owned left : ℕ) (restored : Bool) (put listed erased cut last a b d : ℕ) → purged ≡ false → n ≡ owned → n ≤ 0 → left ≡ 0 →
    restored ≡ false → a ≡ erased → b ≡ cut → d ≡ last → Done a b d ≡ status_by purged owned left restored put listed erased cut last
done_case true n owned left restored put listed erased cut last a b d p e h z r x y w = absurd (cc p)
done_case false n owned left restored put listed erased cut last a b d p e h z r x y w =
    let t : nat_lt 0 owned ≡ false = grind (arith, nat_tests, e, h) in
    let u : nat_lt 0 left ≡ false = grind (arith, nat_tests, z) in
    ap (λ (k : ℕ). Done k b d) x ∙ ap (λ (k : ℕ). Done erased k d) y ∙ ap (λ (k : ℕ). Done erased cut k) w
    ∙ sym (ap (λ (b : Bool). cond b (Pending owned) (cond (nat_lt 0 left) (Restoring left) (cond restored (Restored put listed) (Done erased cut last)))) t
    ∙ ap (λ (b : Bool). cond b (Restoring left) (cond restored (Restored put listed) (Done erased cut last))) u
    ∙ ap (λ (b : Bool). cond b (Restored put listed) (Done erased cut last)) r)

pub restoring_now : (l n : ℕ) (r : Status) → n ≡ l → 0 < n → Restoring n ≡ cond (nat_lt 0 l) (Restoring l) r
restoring_now l n r e h =
    let t : nat_lt 0 l ≡ true = grind (arith, nat_tests, e, h) in
    ap Restoring e ∙ sym (ap (λ (b : Bool). cond b (Restoring l) r) t)

pub restored_now : (l n p q p' q' : ℕ) → n ≡ l → n ≤ 0 → p ≡ p' → q ≡ q' → Restored p q ≡ cond (nat_lt 0 l) (Restoring l) (Restored p' q')
restored_now l n p q p' q' e h a b =
    let t : nat_lt 0 l ≡ false = grind (arith, nat_tests, e, h) in
    ap (λ (k : ℕ). Restored k q) a ∙ ap (λ (k : ℕ). Restored p' k) b ∙ sym (ap (λ (b : Bool). cond b (Restoring l) (Restored p' q')) t)

pub last_is : (o : Option ℕ) → unwrap_or o 0 ≡ last_erasure_or_zero o
last_is None = refl
last_is (Some m) = refl

pub some_is : {A : Type 0} (o : Option A) (a : A) → o ≡ Some a → is_some o ≡ true
some_is o a e = ap is_some e

-- the line of a job, by its parts
pub line_is : (s : State) (row : JobRow) (erased cut : ℕ) (status : Status) → erased ≡ erased_count s row.start → cut ≡ cut_count s row.start →
    status ≡ status_of_row s row →
    record { job = row.start; name = row.name; root = row.root; erased = erased; cut = cut; status = status } ≡ job_line s row
line_is s row erased cut status a b d =
    ap (λ (k : ℕ). line k cut status) a ∙ ap (λ (k : ℕ). line (erased_count s row.start) k status) b
    ∙ ap (λ (v : Status). line (erased_count s row.start) (cut_count s row.start) v) d
  where
    line : ℕ → ℕ → Status → JobLine
    line e c v = record { job = row.start; name = row.name; root = row.root; erased = e; cut = c; status = v }

-- the status of the job that a name means
pub status_row : (s : State) (jobs : List JobRow) (job : ℕ) (row : JobRow) → jobs ≡ s.jobs → Some row ≡ job_row jobs job → job_row s.jobs row.start ≡ Some row
status_row s jobs job row e r =
    let found : job_row s.jobs job ≡ Some row = ap (λ (l : List JobRow). job_row l job) (sym e) ∙ sym r in
    ap (job_row s.jobs) (job_row_is job row s.jobs found) ∙ found

pub status_is : (s : State) (jobs : List JobRow) (name : JobName) (job : ℕ) (row : JobRow) → jobs ≡ s.jobs → Some job ≡ find_job jobs name → Some row ≡ job_row jobs job →
    status_of_row s row ≡ status s name
status_is s jobs name job row e f r =
    let found : find_job s.jobs name ≡ Some job = ap (λ (l : List JobRow). find_job l name) (sym e) ∙ sym f in
    let there : job_row s.jobs job ≡ Some row = ap (λ (l : List JobRow). job_row l job) (sym e) ∙ sym r in
    sym (ap (λ (o : Option ℕ). status_or_none s (option_and_then (job_row s.jobs) o)) found ∙ ap (status_or_none s) there)

pub line_row : (s : State) (jobs : List JobRow) (i : ℕ) (row : JobRow) → jobs ≡ s.jobs → starts_rise 0 s.len s.jobs ≡ true → Some row ≡ slice_get jobs i → job_row s.jobs row.start ≡ Some row
line_row s jobs i row e k r = row_at_place 0 s.len i row s.jobs k (ap (λ (l : List JobRow). slice_get l i) (sym e) ∙ sym r)

pub line_at_is : (s : State) (jobs : List JobRow) (i : ℕ) (row : JobRow) → jobs ≡ s.jobs → Some row ≡ slice_get jobs i → Some (job_line s row) ≡ job_at s i
line_at_is s jobs i row e r = sym (ap (line_of_row s) (ap (λ (l : List JobRow). slice_get l i) (sym e) ∙ sym r))
