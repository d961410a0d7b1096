-- What Restore, Put and Purge have to meet, by the row of the job.
use Rattle.std.proofs.Common.{◌≡◌, ℕ, ◌+◌, ◌*◌, ◌<◌, ◌≤◌, Bool, true, false, cond, not, ◌&&◌, ◌||◌, List, [], ◌∷◌, map, length, Option, Some, None, refl, sym, ◌∙◌, ap, arith}
use Rattle.std.specs.Prelude.{nat_eq, nat_lt, nat_le, is_none, is_some, sum_by}
use Rattle.std.specs.List.{list_all}
use Rattle.std.proofs.lemmas.Bool.Decides.{nat_tests}
use Rattle.std.proofs.lemmas.List.Folds.{list_all-map}
use Rattle.std.proofs.lemmas.List.Sums.{sum_by-cons}
use Rattle.delf_model.specs.declared.call.Refusal.{Refusal}
use Rattle.delf_model.specs.declared.call.Refusal.TheVariants.{NoJob as no_job_there, Pending as still_pending, WindowOver, Full}
use Rattle.delf_model.specs.declared.call.Status.TheVariants.{Pending, Done, Restoring, Restored, Purged}
use Rattle.delf_model.specs.declared.entry.Tag.{Tag}
use Rattle.delf_model.specs.declared.entry.What.TheVariants.{Restore}
use Rattle.delf_model.specs.State.{State, JobRow, Logged, owned, left, job_row, find_job, is_job, is_restored_row, is_object_item}
use Rattle.delf_model.specs.Step.{step}
use Rattle.std.specs.Option.{option_or}
use Rattle.delf_model.specs.Legal.{is_allowed, is_named_so, window_passed, may_purge, is_handled_end, end_handled}
use Rattle.delf_model.specs.Reply.{pending, restored_by, restored_before, window_over, window_end, full}
use Rattle.delf_model.specs.Room.{used, owed, room, room_limit}
use Rattle.delf_model.specs.State.{last_erasure_or_zero}
use Rattle.delf_model.specs.Report.{status_of_row, erased_count, cut_count, put_count, listed_count}
use Rattle.job_table.specs.declared.items.Kept.{Kept}
use Rattle.job_table.specs.Parts.{ItemPart, logged_of}
use Rattle.job_table.specs.Table.{Keeps}
use Rattle.job_table.specs.Items.{is_unhandled_of}
use Rattle.job_table.specs.Notes.{weight_of}
use Rattle.job_table.specs.Allowed.{is_still, can_purge, can_restore}
use Rattle.job_table.proofs.Rows.{job_row_is}
use Rattle.job_table.proofs.Begins.{restore_owed_of}

-- object items of a job, over what is kept of them
pub handled_in : (kept slice : List Kept) (now : ItemPart) (spare job id birth : ℕ) → slice ≡ kept → record { list = map logged_of kept; spare = spare } ≡ now →
    list_all (λ (k : Kept). is_handled_end job id birth (logged_of k)) slice ≡ end_handled now.list job id birth
handled_in kept slice now spare job id birth is view =
    ap (list_all (λ (k : Kept). is_handled_end job id birth (logged_of k))) is ∙
    sym (list_all-map (is_handled_end job id birth) logged_of kept) ∙
    ap (λ (p : ItemPart). list_all (is_handled_end job id birth) p.list) view

-- what the items of a job weigh

small : (a b : Bool) → cond a (cond b 4 2) 0 ≤ 4
small true true = omega arith
small true false = omega arith
small false b = omega arith

weight_by : (job : ℕ) (xs : List Logged) → sum_by (weight_of job) xs ≤ length xs * 4
weight_by job [] = omega arith
weight_by job (x ∷ xs) =
    let one : weight_of job x ≤ 4 = small (is_unhandled_of job x) (is_object_item x.item) in
    omega (arith, sum_by-cons (weight_of job) x xs, one, weight_by job xs)

pub weight_fits : (job len owed : ℕ) (xs : List Logged) → length xs ≤ len → len + owed ≤ 500000 → sum_by (weight_of job) xs < 4294967296
weight_fits job len owed xs few within = omega (arith, weight_by job xs)

-- a purge

positive : (n : ℕ) → nat_lt 0 n ≡ not (nat_eq n 0)
positive n = grind (arith, nat_tests)

still_case : (purged restored a b : Bool) (o l put listed erased cut last : ℕ) →
    is_still (cond purged Purged (cond (not a) (Pending o) (cond (not b) (Restoring l) (cond restored (Restored put listed) (Done erased cut last))))) ≡
    (a && not purged && b)
still_case true restored true b o l put listed erased cut last = refl
still_case true restored false b o l put listed erased cut last = refl
still_case false restored false b o l put listed erased cut last = refl
still_case false restored true false o l put listed erased cut last = refl
still_case false true true true o l put listed erased cut last = refl
still_case false false true true o l put listed erased cut last = refl

still_is : (s : State) (row : JobRow) → is_still (status_of_row s row) ≡ (nat_eq (owned s row.start) 0 && not row.purged && nat_eq (left s row.start) 0)
still_is s row =
    ap (λ (t : Bool). is_still (cond row.purged Purged (cond t (Pending (owned s row.start)) (cond (nat_lt 0 (left s row.start)) (Restoring (left s row.start)) (cond (is_some row.restored) (Restored (put_count s row.start) (listed_count s row.start)) (Done (erased_count s row.start) (cut_count s row.start) (last_erasure_or_zero row.last)))))))
    (positive (owned s row.start))
    ∙ ap (λ (u : Bool). is_still (cond row.purged Purged (cond (not (nat_eq (owned s row.start) 0)) (Pending (owned s row.start)) (cond u (Restoring (left s row.start)) (cond (is_some row.restored) (Restored (put_count s row.start) (listed_count s row.start)) (Done (erased_count s row.start) (cut_count s row.start) (last_erasure_or_zero row.last)))))))
    (positive (left s row.start))
    ∙ still_case row.purged (is_some row.restored) (nat_eq (owned s row.start) 0) (nat_eq (left s row.start) 0) (owned s row.start) (left s row.start)
    (put_count s row.start) (listed_count s row.start) (erased_count s row.start) (cut_count s row.start) (last_erasure_or_zero row.last)

pub purge_is : (s : State) (moment job : ℕ) (row : JobRow) → job_row s.jobs job ≡ Some row → can_purge s moment row ≡ may_purge s moment (job_row s.jobs job)
purge_is s moment job row found =
    ap (λ (b : Bool). b && window_passed s moment row) (still_is s row) ∙ ap (may_purge s moment) (sym found)

-- a restore

all_of : (a b p w g : Bool) (rc : Option ℕ) (x y z : Refusal) →
    (a && b && is_none rc && not p && not w && not g) ≡
    (a && is_none (option_or (cond b None (Some x)) (option_or (restored_by rc) (option_or (cond (p || w) (Some y) None) (option_or (cond g (Some z) None) None)))))
all_of false b p w g rc x y z = refl
all_of true false p w g rc x y z = refl
all_of true true p w g (Some r) x y z = refl
all_of true true true w g None x y z = refl
all_of true true false true g None x y z = refl
all_of true true false false true None x y z = refl
all_of true true false false false None x y z = refl

le_not : (a b limit : ℕ) → a ≡ b → nat_le a limit ≡ not (nat_lt limit b)
le_not a b limit is = grind (arith, nat_tests)

-- the room that a restore leaves counts only where the job was not restored
room_counts : (s : State) (moment job : ℕ) (tag : Tag) (row : JobRow) → Keeps s → job_row s.jobs job ≡ Some row → row.restored ≡ None →
    nat_le (s.len + 1 + (owed s + sum_by (weight_of job) s.items)) room_limit ≡ not (nat_lt room_limit (room (step s (record { moment = moment; what = Restore tag job }))))
room_counts s moment job tag row keeps found none =
    le_not (s.len + 1 + (owed s + sum_by (weight_of job) s.items)) (room (step s (record { moment = moment; what = Restore tag job }))) room_limit
    (sym (ap (λ (n : ℕ). s.len + 1 + n) (restore_owed_of s moment job tag row keeps found (ap is_restored_row found ∙ ap is_some none))))

allowed_by : (s : State) (moment job : ℕ) (tag : Tag) (row : JobRow) → Keeps s → job_row s.jobs job ≡ Some row → (o : Option ℕ) → row.restored ≡ o →
    (is_job job (find_job s.jobs row.name) && nat_eq (owned s job) 0 && is_none o && not row.purged && not (window_passed s moment row) && nat_le (s.len + 1 + (owed s + sum_by (weight_of job) s.items)) room_limit) ≡
    (is_job job (find_job s.jobs row.name) && is_none (option_or (pending s job) (option_or (restored_by o) (option_or (window_over s moment (Some row)) (option_or (full s moment (Restore tag job)) None)))))
allowed_by s moment job tag row keeps found None is =
    ap (λ (f : Bool). is_job job (find_job s.jobs row.name) && nat_eq (owned s job) 0 && true && not row.purged && not (window_passed s moment row) && f)
    (room_counts s moment job tag row keeps found is)
    ∙ all_of (is_job job (find_job s.jobs row.name)) (nat_eq (owned s job) 0) row.purged (window_passed s moment row)
    (nat_lt room_limit (room (step s (record { moment = moment; what = Restore tag job })))) None
    (still_pending (owned s job)) (WindowOver (window_end s row)) (Full (used s) (owed s))
allowed_by s moment job tag row keeps found (Some at) is =
    stops (is_job job (find_job s.jobs row.name)) (nat_eq (owned s job) 0) (not row.purged) (not (window_passed s moment row)) _ (still_pending (owned s job))
    (option_or (window_over s moment (Some row)) (option_or (full s moment (Restore tag job)) None))
  where
    stops : (a b p w f : Bool) (x : Refusal) (rest : Option Refusal) →
        (a && b && false && p && w && f) ≡ (a && is_none (option_or (cond b None (Some x)) (option_or (restored_by (Some at)) rest)))
    stops false b p w f x rest = refl
    stops true false p w f x rest = refl
    stops true true p w f x rest = refl

pub restore_is : (s : State) (moment job : ℕ) (tag : Tag) (row : JobRow) → Keeps s → job_row s.jobs job ≡ Some row →
    can_restore s moment row ≡ is_allowed s moment (Restore tag job)
restore_is s moment job tag row keeps found =
    ap (λ (j : ℕ). is_job j (find_job s.jobs row.name) && nat_eq (owned s j) 0 && is_none row.restored && not row.purged && not (window_passed s moment row) && nat_le (s.len + 1 + (owed s + sum_by (weight_of j) s.items)) room_limit)
    (job_row_is job row s.jobs found)
    ∙ allowed_by s moment job tag row keeps found row.restored refl
    ∙ sym (ap (λ (o : Option JobRow). is_named_so s job o && is_none (option_or (cond (is_some o) None (Some no_job_there)) (option_or (pending s job) (option_or (restored_before o) (option_or (window_over s moment o) (option_or (full s moment (Restore tag job)) None)))))) found)
