-- What an entry does to the items and to the jobs.
use Rattle.std.proofs.Common.{◌≡◌, ℕ, zero, suc, ◌+◌, Bool, true, false, cond, not, ◌&&◌, ◌||◌, eqb, List, [], ◌∷◌, ◌++◌, length, Option, Some, None, refl, sym, ap, ◌∙◌, subst, arith, inl, inr, ◌⊎◌}
use Rattle.std.proofs.lemmas.Bool.{and_parts, or_cases, eqb-true, eq-eqb, false≢true, cases_Bool, not-true}
use Rattle.std.specs.Prelude.{find, slice_get}
use Rattle.std.specs.Option.{option_map}
use Rattle.delf_model.specs.declared.rows.ObjectRow.{ObjectRow}
use Rattle.delf_model.specs.declared.rows.EdgeRow.{EdgeRow}
use Rattle.delf_model.specs.declared.ids.JobName.{JobName}
use Rattle.delf_model.specs.declared.ids.JobName.TheVariants.{Named, Expiry}
use Rattle.delf_model.specs.declared.call.Refusal.TheVariants.{WindowOver}
use Rattle.delf_model.specs.declared.entry.What.{What}
use Rattle.delf_model.specs.declared.entry.What.TheVariants.{Unlink, Delete, Restore, Expire, Cut, Erase, Put, Purge}
use Rattle.delf_model.specs.Graph.{has_id, has_key, object_at, edge_at, edge_stands, is_touched}
use Rattle.delf_model.specs.State.{State, Logged, Handled, JobRow, position_of, size_of, job_of, job_row, starts_at, is_restored, is_open, left, owned, is_owned_by}
use Rattle.delf_model.specs.Step.{items_after, jobs_after, edge_item, object_item, handled_at, outcome, started_job, new_job, row_restored_at, purged_if, erased_at}
use Rattle.delf_model.specs.Owners.{key_of, unlink_start}
use Rattle.delf_model.specs.Puts.{judged}
use Rattle.std.specs.Option.{option_or}
use Rattle.delf_model.specs.Legal.{is_allowed, may_purge, is_named_so, window_passed}
use Rattle.delf_model.specs.Reply.{refusals, window_over, window_end}
use Rattle.delf_model.specs.Payloads.{is_purged, is_purged_row, position_of_edge, position_of_object}
use Rattle.delf_model.proofs.Lines.{none_of}
use Rattle.delf_model.proofs.Leaves.{owner_is}
use Rattle.delf_model.proofs.Owners.{found_id, found_key}
use Rattle.delf_model.proofs.Jobs.{Idle, is_restore_of, job_row-started, job_row-restored, job_row-purged, job_row-erased}
use Rattle.delf_model.proofs.Places.{MayPut, may_put_of}
use Rattle.payload_laws.specs.Holders.{position_taken}
use Rattle.payload_laws.proofs.Members.{some_is, found_in}
use Rattle.payload_laws.proofs.Rows.{OfObject, OfEdge, gone_of, source_of_item, Holds, ByObject, ByEdge, none_handled, may_open}

-- places in a longer list, and in one with an item handled

place_of : (xs ys : List Logged) (i : ℕ) (l : Logged) → slice_get (xs ++ ys) i ≡ Some l → (slice_get xs i ≡ Some l) ⊎ ((k : ℕ) × (i ≡ length xs + k) × (slice_get ys k ≡ Some l))
place_of [] ys i l at = inr (i, omega arith, at)
place_of (x ∷ xs) ys zero l at = inl at
place_of (x ∷ xs) ys (suc i) l at =
    elim (place_of xs ys i l at) [ inl old ↦ inl old | inr new ↦ inr (new.0, (let is : i ≡ length xs + new.0 = new.1 in omega arith), new.2) ]

place_kept : (xs ys : List Logged) (i : ℕ) (l : Logged) → slice_get xs i ≡ Some l → slice_get (xs ++ ys) i ≡ Some l
place_kept [] ys i l at = absurd (cc at)
place_kept (x ∷ xs) ys zero l at = at
place_kept (x ∷ xs) ys (suc i) l at = place_kept xs ys i l at

abbrev pub with_how : Logged → Handled → Logged
with_how l how = record { item = l.item; handled = Some how }

place_handled : (xs : List Logged) (k : ℕ) (how : Handled) (i : ℕ) (l : Logged) → slice_get (handled_at xs k how) i ≡ Some l →
    ((slice_get xs i ≡ Some l) × (i ≡ k → ⊥)) ⊎ ((i ≡ k) × ((x : Logged) × (slice_get xs k ≡ Some x) × (l ≡ with_how x how)))
place_handled [] k how i l at = absurd (cc at)
place_handled (x ∷ xs) zero how zero l at = inr (refl, (x, refl, sym (some_is at)))
place_handled (x ∷ xs) zero how (suc i) l at = inl (at, λ same. absurd (omega arith))
place_handled (x ∷ xs) (suc k) how zero l at = inl (at, λ same. absurd (omega arith))
place_handled (x ∷ xs) (suc k) how (suc i) l at =
    elim (place_handled xs k how i l at) [
      | inl old ↦ inl (old.0, λ same. old.1 (omega arith))
      | inr new ↦ inr (ap (λ (n : ℕ). suc n) new.0, new.1)
    ]

handled_kept : (xs : List Logged) (k : ℕ) (how : Handled) (i : ℕ) (l : Logged) → slice_get xs i ≡ Some l → (i ≡ k → ⊥) → slice_get (handled_at xs k how) i ≡ Some l
handled_kept [] k how i l at apart = absurd (cc at)
handled_kept (x ∷ xs) zero how zero l at apart = absurd (apart refl)
handled_kept (x ∷ xs) zero how (suc i) l at apart = at
handled_kept (x ∷ xs) (suc k) how zero l at apart = at
handled_kept (x ∷ xs) (suc k) how (suc i) l at apart = handled_kept xs k how i l at (λ same. apart (ap (λ (n : ℕ). suc n) same))

handled_now : (xs : List Logged) (k : ℕ) (how : Handled) (x : Logged) → slice_get xs k ≡ Some x → slice_get (handled_at xs k how) k ≡ Some (with_how x how)
handled_now [] k how x at = absurd (cc at)
handled_now (y ∷ ys) zero how x at = ap (λ (l : Logged). Some (with_how l how)) (some_is at)
handled_now (y ∷ ys) (suc k) how x at = handled_now ys k how x at

-- an item after an entry: an old one, one that the entry logs, or one that it handles

abbrev pub put_now : State → Logged → Handled
put_now s x = record { put = s.len; cause = judged s x.item }

-- an item that an entry logs
pub record LogsNow (s : State) (w : What) (j : ℕ) (y : Logged) : Type 0 where
  pub last : j ≡ length s.items
  pub waits : y.handled ≡ None
  pub stood : Holds s.graph (source_of_item y.item) (position_of y.item) (size_of y.item)
  pub gone : gone_of w ≡ source_of_item y.item
  pub took : position_taken s w ≡ Some (position_of y.item)
  pub idle : is_restored s.jobs (job_of y.item) ≡ true → ⊥
  pub restores_none : (job : ℕ) → is_restore_of job w ≡ false

-- an item that an entry handles
pub record HandlesNow (s : State) (w : What) (j : ℕ) (x : Logged) : Type 0 where
  pub job : ℕ
  pub puts : w ≡ Put job j
  pub there : slice_get s.items j ≡ Some x
  pub waits : x.handled ≡ None
  pub opened : is_open s.jobs x ≡ true

pub data ItemNow (s : State) (w : What) (j : ℕ) (y : Logged) : Type 0 where
  Old : slice_get s.items j ≡ Some y → ((job : ℕ) → w ≡ Put job j → ⊥) → ItemNow s w j y
  Logs : LogsNow s w j y → ItemNow s w j y
  Handles : (x : Logged) → HandlesNow s w j x → y ≡ with_how x (put_now s x) → ItemNow s w j y

logs_edge : (s : State) (job edge from to : ℕ) → (is_restored s.jobs job ≡ true → ⊥) → (j k : ℕ) (y : Logged) (o : Option EdgeRow) → edge_at s.graph (key_of edge from to) ≡ o →
    j ≡ length s.items + k → slice_get (edge_item s.graph job o) k ≡ Some y → ItemNow s (Cut job edge from to) j y
logs_edge s job edge from to idle j k y None at last is = absurd (cc is)
logs_edge s job edge from to idle j zero y (Some row) at last is =
    subst (λ (l : Logged). ItemNow s (Cut job edge from to) j l) (some_is is)
    (Logs (record {
      last = omega arith;
      waits = refl;
      stood = ByEdge row (found_in (has_key (key_of edge from to)) s.graph.edges row at) refl refl refl;
      gone = ap OfEdge (sym (found_key s.graph.edges (key_of edge from to) row at));
      took = ap (λ (o : Option EdgeRow). Some (position_of_edge o)) at;
      idle = idle;
      restores_none = λ other. refl;
    }))
logs_edge s job edge from to idle j (suc k) y (Some row) at last is = absurd (cc is)

logs_object : (s : State) (job id : ℕ) → (is_restored s.jobs job ≡ true → ⊥) → (j k : ℕ) (y : Logged) (o : Option ObjectRow) → object_at s.graph id ≡ o →
    j ≡ length s.items + k → slice_get (object_item job o) k ≡ Some y → ItemNow s (Erase job id) j y
logs_object s job id idle j k y None at last is = absurd (cc is)
logs_object s job id idle j zero y (Some row) at last is =
    subst (λ (l : Logged). ItemNow s (Erase job id) j l) (some_is is)
    (Logs (record {
      last = omega arith;
      waits = refl;
      stood = ByObject row (found_in (has_id id) s.graph.objects row at) refl refl refl;
      gone = ap OfObject (sym (found_id s.graph.objects id row at));
      took = ap (λ (o : Option ObjectRow). Some (position_of_object o)) at;
      idle = idle;
      restores_none = λ other. refl;
    }))
logs_object s job id idle j (suc k) y (Some row) at last is = absurd (cc is)

outcome_is : (s : State) (o : Option Logged) (x : Logged) → o ≡ Some x → outcome s o ≡ put_now s x
outcome_is s o x is = ap (outcome s) is

handles_now : (s : State) (job k : ℕ) (may : MayPut s job k) → HandlesNow s (Put job k) k may.logged
handles_now s job k may = record {
  job = job;
  puts = refl;
  there = may.at;
  waits = none_handled may.logged.handled may.waiting;
  opened = may_open s job k may;
}

put_place : {a b : ℕ} {i j : ℕ} → Put a i ≡ Put b j → i ≡ j
put_place is = cc

pub item_now : (s : State) (moment : ℕ) (w : What) → Idle s → is_allowed s moment w ≡ true → (j : ℕ) (y : Logged) → slice_get (items_after s w) j ≡ Some y → ItemNow s w j y
item_now s moment (Cut job edge from to) idle line j y at =
    elim (place_of s.items (edge_item s.graph job (edge_at s.graph (key_of edge from to))) j y at) [
      | inl old ↦ Old old (λ other is. cc is)
      | inr new ↦
          logs_edge s job edge from to
          (λ restored.
          elim (or_cases (is_owned_by s job from) (is_owned_by s job to) (and_parts (edge_stands s.graph (key_of edge from to)) (is_owned_by s job from || is_owned_by s job to) line).1) [
            | inl own ↦ idle job from restored (owner_is s job from own)
            | inr own ↦ idle job to restored (owner_is s job to own)
          ])
          j new.0 y (edge_at s.graph (key_of edge from to)) refl new.1 new.2
    ]
item_now s moment (Erase job id) idle line j y at =
    elim (place_of s.items (object_item job (object_at s.graph id)) j y at) [
      | inl old ↦ Old old (λ other is. cc is)
      | inr new ↦
          logs_object s job id (λ restored. idle job id restored (owner_is s job id (and_parts (is_owned_by s job id) (not (is_touched s.graph id)) line).0))
          j new.0 y (object_at s.graph id) refl new.1 new.2
    ]
item_now s moment (Put job k) idle line j y at =
    let may = may_put_of s job k (slice_get s.items k) refl line in
    elim (place_handled s.items k (outcome s (slice_get s.items k)) j y at) [
      | inl old ↦ Old old.0 (λ other is. old.1 (sym (put_place is)))
      | inr new ↦
          subst (λ (n : ℕ). ItemNow s (Put job k) n y) (sym new.0)
          (Handles may.logged (handles_now s job k may)
          (new.1.2 ∙ (ap (λ (l : Logged). with_how l (outcome s (slice_get s.items k))) (some_is (sym new.1.1 ∙ may.at)) ∙
          ap (λ (h : Handled). with_how may.logged h) (outcome_is s (slice_get s.items k) may.logged may.at))))
    ]
item_now s moment what idle line j y at = Old at (λ job is. cc is)

-- an item stays as it is, or the entry handles it
pub item_stays : (s : State) (moment : ℕ) (w : What) → is_allowed s moment w ≡ true → (i : ℕ) (l : Logged) → slice_get s.items i ≡ Some l →
    (slice_get (items_after s w) i ≡ Some l) ⊎ (HandlesNow s w i l × (slice_get (items_after s w) i ≡ Some (with_how l (put_now s l))))
item_stays s moment (Cut job edge from to) line i l at = inl (place_kept s.items (edge_item s.graph job (edge_at s.graph (key_of edge from to))) i l at)
item_stays s moment (Erase job id) line i l at = inl (place_kept s.items (object_item job (object_at s.graph id)) i l at)
item_stays s moment (Put job k) line i l at = by_place (eqb i k) refl
  where
    by_place : (b : Bool) → eqb i k ≡ b → (slice_get (items_after s (Put job k)) i ≡ Some l) ⊎ (HandlesNow s (Put job k) i l × (slice_get (items_after s (Put job k)) i ≡ Some (with_how l (put_now s l))))
    by_place false is = inl (handled_kept s.items k (outcome s (slice_get s.items k)) i l at (λ same. false≢true (sym is ∙ eq-eqb i k same)))
    by_place true is =
        let may = may_put_of s job k (slice_get s.items k) refl line in
        let same : i ≡ k = eqb-true i k is in
        let one : may.logged ≡ l = some_is (sym may.at ∙ (ap (λ (n : ℕ). slice_get s.items n) (sym same) ∙ at)) in
        inr (
          subst (λ (n : ℕ). HandlesNow s (Put job k) n l) (sym same) (subst (λ (x : Logged). HandlesNow s (Put job k) k x) one (handles_now s job k may)),
          ap (λ (n : ℕ). slice_get (items_after s (Put job k)) n) same ∙
              (handled_now s.items k (outcome s (slice_get s.items k)) may.logged may.at ∙
              (ap (λ (h : Handled). Some (with_how may.logged h)) (outcome_is s (slice_get s.items k) may.logged may.at) ∙
              ap (λ (x : Logged). Some (with_how x (put_now s x))) one)),
        )
item_stays s moment what line i l at = inl at

-- whether a job is purged changes only by its Purge

abbrev pub is_purge_of : ℕ → What → Bool
is_purge_of job (Purge other) = eqb other job
is_purge_of job what = false

started_unpurged : (start : ℕ) (o : Option (ℕ × JobName)) (job : ℕ) → is_purged_row (job_row (started_job start o) job) ≡ false
started_unpurged start None job = refl
started_unpurged start (Some pair) job = by_hit (eqb start job)
  where
    by_hit : (b : Bool) → is_purged_row (cond b (Some (new_job start pair.0 pair.1)) None) ≡ false
    by_hit true = refl
    by_hit false = refl

over_unpurged : (o p : Option JobRow) → is_purged_row p ≡ false → is_purged_row (option_or o p) ≡ is_purged_row o
over_unpurged None p none = none
over_unpurged (Some row) p none = refl

grown_same : (jobs : List JobRow) (start : ℕ) (o : Option (ℕ × JobName)) (job : ℕ) → is_purged (jobs ++ started_job start o) job ≡ is_purged jobs job
grown_same jobs start o job =
    ap is_purged_row (job_row-started jobs start o job) ∙ over_unpurged (job_row jobs job) (job_row (started_job start o) job) (started_unpurged start o job)

restored_purged : (other position : ℕ) (o : Option JobRow) → is_purged_row (option_map (row_restored_at other position) o) ≡ is_purged_row o
restored_purged other position None = refl
restored_purged other position (Some row) = by_hit (eqb row.start other)
  where
    by_hit : (b : Bool) → is_purged_row (Some (cond b (record row { restored = Some position }) row)) ≡ row.purged
    by_hit true = refl
    by_hit false = refl

erased_purged : (other moment : ℕ) (o : Option JobRow) → is_purged_row (option_map (erased_at other moment) o) ≡ is_purged_row o
erased_purged other moment None = refl
erased_purged other moment (Some row) = by_hit (eqb row.start other)
  where
    by_hit : (b : Bool) → is_purged_row (Some (cond b (record row { last = Some moment }) row)) ≡ row.purged
    by_hit true = refl
    by_hit false = refl

found_start : (rows : List JobRow) (j : ℕ) (row : JobRow) → find (starts_at j) rows ≡ Some row → row.start ≡ j
found_start [] j row found = absurd (cc found)
found_start (x ∷ xs) j row found = by_hit (eqb x.start j) refl found (found_start xs j row)
  where
    by_hit : (b : Bool) → eqb x.start j ≡ b → cond b (Some x) (find (starts_at j) xs) ≡ Some row → (find (starts_at j) xs ≡ Some row → row.start ≡ j) → row.start ≡ j
    by_hit true is here IH = subst (λ (r : JobRow). r.start ≡ j) (some_is here) (eqb-true x.start j is)
    by_hit false is here IH = IH here

purged_other : (other job : ℕ) (jobs : List JobRow) → eqb other job ≡ false → is_purged_row (option_map (purged_if other) (job_row jobs job)) ≡ is_purged_row (job_row jobs job)
purged_other other job jobs apart = by_row (job_row jobs job) (λ row found. found_start jobs job row found)
  where
    by_row : (o : Option JobRow) → ((row : JobRow) → o ≡ Some row → row.start ≡ job) → is_purged_row (option_map (purged_if other) o) ≡ is_purged_row o
    by_row None starts = refl
    by_row (Some row) starts = by_hit (eqb row.start other) refl
      where
        by_hit : (b : Bool) → eqb row.start other ≡ b → is_purged_row (Some (cond b (record row { purged = true }) row)) ≡ row.purged
        by_hit true is = absurd (false≢true (sym apart ∙ eq-eqb other job (sym (eqb-true row.start other is) ∙ starts row refl)))
        by_hit false is = refl

pub purged_same : (s : State) (moment : ℕ) (w : What) (job : ℕ) → is_purge_of job w ≡ false → is_purged (jobs_after s moment w) job ≡ is_purged s.jobs job
purged_same s moment (Unlink tag edge from to name) job other = grown_same s.jobs s.len (unlink_start s edge from to name) job
purged_same s moment (Delete tag id name) job other = grown_same s.jobs s.len (Some (id, Named name)) job
purged_same s moment (Expire id) job other = grown_same s.jobs s.len (Some (id, Expiry id)) job
purged_same s moment (Restore tag which) job other = ap is_purged_row (job_row-restored s.jobs which s.len job) ∙ restored_purged which s.len (job_row s.jobs job)
purged_same s moment (Cut which edge from to) job other = ap is_purged_row (job_row-erased s.jobs which moment job) ∙ erased_purged which moment (job_row s.jobs job)
purged_same s moment (Erase which id) job other = ap is_purged_row (job_row-erased s.jobs which moment job) ∙ erased_purged which moment (job_row s.jobs job)
purged_same s moment (Purge which) job other = ap is_purged_row (job_row-purged s.jobs which job) ∙ purged_other which job s.jobs other
purged_same s moment what job other = refl

-- a legal Purge is of a job that has no unhandled item, and the job is purged after it

pub record PurgesNow (s : State) (moment : ℕ) (w : What) (job : ℕ) : Type 0 where
  pub purges : w ≡ Purge job
  pub none_left : left s job ≡ 0
  pub unpurged : is_purged s.jobs job ≡ false
  pub purged : is_purged (jobs_after s moment w) job ≡ true

purge_row : (s : State) (moment job : ℕ) (o : Option JobRow) → job_row s.jobs job ≡ o → may_purge s moment o ≡ true → (left s job ≡ 0) × (is_purged_row o ≡ false) × (is_purged_row (option_map (purged_if job) o) ≡ true)
purge_row s moment job None at may = absurd (false≢true may)
purge_row s moment job (Some row) at may =
    let start : row.start ≡ job = found_start s.jobs job row at in
    let front = and_parts (eqb (owned s row.start) 0 && not row.purged && eqb (left s row.start) 0) (window_passed s moment row) may in
    let none = and_parts (eqb (owned s row.start) 0 && not row.purged) (eqb (left s row.start) 0) front.0 in (
      subst (λ (n : ℕ). left s n ≡ 0) start (eqb-true (left s row.start) 0 none.1),
      not-true row.purged (and_parts (eqb (owned s row.start) 0) (not row.purged) none.0).1,
      ap (λ (b : Bool). is_purged_row (Some (cond b (record row { purged = true }) row))) (eq-eqb row.start job start),
    )

pub purge_now : (s : State) (moment : ℕ) (w : What) (job : ℕ) → is_allowed s moment w ≡ true → is_purge_of job w ≡ true → PurgesNow s moment w job
purge_now s moment (Purge which) job line is =
    let same : which ≡ job = eqb-true which job is in
    let parts = purge_row s moment which (job_row s.jobs which) refl line in
    subst (λ (n : ℕ). PurgesNow s moment (Purge which) n) same (record {
      purges = refl;
      none_left = parts.0;
      unpurged = parts.1;
      purged = ap is_purged_row (job_row-purged s.jobs which which) ∙ parts.2;
    })
purge_now s moment what job line is = absurd (false≢true is)

-- a job after an entry is purged as before, or by this entry
pub purged_now : (s : State) (moment : ℕ) (w : What) (job : ℕ) → is_allowed s moment w ≡ true →
    (is_purged (jobs_after s moment w) job ≡ is_purged s.jobs job) ⊎ PurgesNow s moment w job
purged_now s moment w job line =
    elim (cases_Bool (is_purge_of job w)) [
      | inl is ↦ inr (purge_now s moment w job line is)
      | inr other ↦ inl (purged_same s moment w job other)
    ]

-- a job that a legal Restore names is not purged
open_window : (s : State) (moment : ℕ) (o : Option JobRow) → window_over s moment o ≡ None → is_purged_row o ≡ false
open_window s moment None none = refl
open_window s moment (Some row) none = by_purged row.purged none
  where
    by_purged : (b : Bool) → cond (b || window_passed s moment row) (Some (WindowOver (window_end s row))) None ≡ None → b ≡ false
    by_purged true none = absurd (cc none)
    by_purged false none = refl

pub restore_unpurged : (s : State) (moment : ℕ) (w : What) (job : ℕ) → is_allowed s moment w ≡ true → is_restore_of job w ≡ true → is_purged s.jobs job ≡ false
restore_unpurged s moment (Restore tag which) job line is =
    subst (λ (n : ℕ). is_purged s.jobs n ≡ false) (eqb-true which job is)
    (open_window s moment (job_row s.jobs which)
    (none_of (refusals s moment (Restore tag which)) (and_parts (is_named_so s which (job_row s.jobs which)) _ line).1).1.1.1.0)
restore_unpurged s moment what job line is = absurd (false≢true is)
