-- The steps that come next at a moment.
use Rattle.std.proofs.Common.{◌≡◌, ℕ, zero, suc, ◌+◌, ◌<◌, Bool, true, false, cond, not, ◌&&◌, ◌||◌, List, [], ◌∷◌, Option, Some, None, refl, sym, ap, ◌∙◌, subst, arith, inl, inr, ◌⊎◌}
use Rattle.std.specs.Prelude.{find, is_some, is_none, slice_get, nat_eq, nat_lt, nat_le, count_by}
use Rattle.std.specs.List.{list_all}
use Rattle.std.proofs.lemmas.Bool.Decides.{nat_tests}
use Rattle.std.proofs.lemmas.List.Sums.{sum_by-cons}
use Rattle.delf_model.specs.declared.rows.ObjectRow.{ObjectRow}
use Rattle.delf_model.specs.declared.rows.EdgeRow.{EdgeRow}
use Rattle.delf_model.specs.declared.entry.What.{What}
use Rattle.delf_model.specs.declared.entry.What.TheVariants as what
use Rattle.delf_model.specs.Graph.{Graph, has_id, object_at, out_edges, in_edges, objects_rise}
use Rattle.delf_model.specs.State.{State, Logged, JobRow, owner, is_pair_of, job_row, starts_at, job_of, is_restored_row, is_open_of, left}
use Rattle.std.specs.Option.{option_or}
use Rattle.delf_model.specs.Legal.{is_legal, is_allowed, is_due_row, may_put, may_purge, may_expire}
use Rattle.delf_model.specs.Room.{greatest_moment}
use Rattle.delf_model.specs.Order.{is_step, is_legal_step, is_held, is_restoring, is_oldest_restoring, is_no_older, last_place, put_of, put_of_job, first_put, owns_some, first_erasure, erasure_of_pair, erasure_of_job, cut_or_erase, expires, expiry_of, first_expiry, purges, purge_of, first_purge, first_step}
use Rattle.delf_model.proofs.Places.{may_put_of}
use Rattle.delf_model.proofs.Lines.{first_in}
use Rattle.job_table.specs.declared.next.Next.{Next}
use Rattle.job_table.specs.declared.next.Next.TheVariants.{Expire, Cut, Erase, Put, Purge, Idle, Held}
use Rattle.job_table.specs.Table.{Table, IsTableOf, Keeps}
use Rattle.job_table.specs.Apart.{are_apart}
use Rattle.job_table.specs.Free.{free_among}
use Rattle.job_table.specs.Next.{step_of, IsFree, IsFreeNext, AllHeld, IsFirstHeld}
use Rattle.job_table.proofs.Lookups.{both, join}
use Rattle.job_table.proofs.Steps.{eqb_self, eqb_is}
use Rattle.job_table.proofs.Sums.{rises_tail}
use Rattle.job_table.proofs.Lefts.{row_at_place}
use Rattle.job_table.proofs.Dues.{found_above}
use Rattle.job_table.proofs.FreeSteps.{found_passes, none_passes, found_place, among_open, cut_held, erase_held}

-- steps that come at this moment

pub record InTime (s : State) (moment : ℕ) : Type 0 where
  pub later : nat_le s.moment moment ≡ true
  pub early : nat_le moment greatest_moment ≡ true

legal_parts : (a b c d e : Bool) → (((a && b) && c) && d) && e ≡ true → (a ≡ true) × (b ≡ true) × (e ≡ true)
legal_parts a b c d e h =
    let p = both (((a && b) && c) && d) e h in
    let q = both ((a && b) && c) d p.0 in
    let r = both (a && b) c q.0 in
    let t = both a b r.0 in (t.0, t.1, p.1)

pub in_time : (s : State) (moment : ℕ) (w : What) → is_legal_step s moment w ≡ true → InTime s moment
in_time s moment w h =
    let p = both (is_step w) (is_legal s (record { moment = moment; what = w })) h in
    let q = legal_parts (nat_le s.moment moment) (nat_le moment greatest_moment) _ _ (is_allowed s moment w) p.1 in
    record { later = q.0; early = q.1 }

pub allowed_step : (s : State) (moment : ℕ) (w : What) → is_legal_step s moment w ≡ true → (is_step w ≡ true) × (is_allowed s moment w ≡ true)
allowed_step s moment w h =
    let p = both (is_step w) (is_legal s (record { moment = moment; what = w })) h in
    let q = legal_parts (nat_le s.moment moment) (nat_le moment greatest_moment) _ _ (is_allowed s moment w) p.1 in
    (p.0, q.2)

timed : (s : State) (moment : ℕ) (e : Bool) → InTime s moment → e ≡ true → ((((nat_le s.moment moment && nat_le moment greatest_moment) && true) && true) && e) ≡ true
timed s moment e t h =
    join _ e (join _ true (join _ true (join (nat_le s.moment moment) (nat_le moment greatest_moment) t.later t.early) refl) refl) h

pub legal_step : (s : State) (moment : ℕ) (w : What) → InTime s moment → is_step w ≡ true → is_allowed s moment w ≡ true → is_legal_step s moment w ≡ true
legal_step s moment (what.Create tag kind id size) t is a = absurd (cc is)
legal_step s moment (what.Update tag id size) t is a = absurd (cc is)
legal_step s moment (what.Link tag edge from to size) t is a = absurd (cc is)
legal_step s moment (what.Unlink tag edge from to name) t is a = absurd (cc is)
legal_step s moment (what.Delete tag id name) t is a = absurd (cc is)
legal_step s moment (what.Restore tag job) t is a = absurd (cc is)
legal_step s moment (what.Expire id) t is a = timed s moment _ t a
legal_step s moment (what.Cut job edge from to) t is a = timed s moment _ t a
legal_step s moment (what.Erase job id) t is a = timed s moment _ t a
legal_step s moment (what.Put job i) t is a = timed s moment _ t a
legal_step s moment (what.Purge job) t is a = timed s moment _ t a

-- which steps are the first ones

first_cases : {A : Type 0} (a b : Option A) (x : A) → option_or a b ≡ Some x → (a ≡ Some x) ⊎ ((a ≡ None) × (b ≡ Some x))
first_cases None b x h = inr (refl, h)
first_cases (Some y) b x h = inl h

put_is : (s : State) (w : What) → first_put s ≡ Some w → (is_step w ≡ true) × ((held : List What) → is_held held w ≡ false)
put_is s w e = by_row (find (is_oldest_restoring s) s.jobs) e
  where
    free : (job i : ℕ) (held : List What) → is_held held (what.Put job i) ≡ false
    free job i [] = refl
    free job i (x ∷ xs) = free job i xs

    by_place : (job : ℕ) (o : Option ℕ) → put_of job o ≡ Some w → (is_step w ≡ true) × ((held : List What) → is_held held w ≡ false)
    by_place job None h = absurd (cc h)
    by_place job (Some i) h = let same : what.Put job i ≡ w = cc h in subst (λ (v : What). (is_step v ≡ true) × ((held : List What) → is_held held v ≡ false)) same (refl, free job i)

    by_row : (o : Option JobRow) → put_of_job s o ≡ Some w → (is_step w ≡ true) × ((held : List What) → is_held held w ≡ false)
    by_row None h = absurd (cc h)
    by_row (Some row) h = by_place row.start (last_place (is_open_of row.start s.jobs) 0 s.items) h

erasure_is : (s : State) (w : What) → first_erasure s ≡ Some w → is_step w ≡ true
erasure_is s w e = by_row (find (owns_some s) s.jobs) e
  where
    by_edges : (job id : ℕ) (out entering : List EdgeRow) → is_step (cut_or_erase job id out entering) ≡ true
    by_edges job id (row ∷ rows) entering = refl
    by_edges job id [] (row ∷ rows) = refl
    by_edges job id [] [] = refl

    by_pair : (job : ℕ) (o : Option (ℕ × Option ℕ)) → erasure_of_pair s job o ≡ Some w → is_step w ≡ true
    by_pair job None h = absurd (cc h)
    by_pair job (Some pair) h =
        let same : cut_or_erase job pair.0 (out_edges s.graph pair.0) (in_edges s.graph pair.0) ≡ w = cc h in
        subst (λ (v : What). is_step v ≡ true) same (by_edges job pair.0 (out_edges s.graph pair.0) (in_edges s.graph pair.0))

    by_row : (o : Option JobRow) → erasure_of_job s o ≡ Some w → is_step w ≡ true
    by_row None h = absurd (cc h)
    by_row (Some row) h = by_pair row.start (find (is_pair_of row.start) s.owners) h

pub expiry_is : (s : State) (moment : ℕ) (w : What) → first_expiry s moment ≡ Some w → (row : ObjectRow) × (find (expires s moment) s.graph.objects ≡ Some row) × (what.Expire row.id ≡ w)
expiry_is s moment w e = go (find (expires s moment) s.graph.objects) refl e
  where
    go : (o : Option ObjectRow) → find (expires s moment) s.graph.objects ≡ o → expiry_of o ≡ Some w → (row : ObjectRow) × (o ≡ Some row) × (what.Expire row.id ≡ w)
    go None f h = absurd (cc h)
    go (Some row) f h = (row, refl, cc h)

pub purge_is : (s : State) (moment : ℕ) (w : What) → first_purge s moment ≡ Some w → (row : JobRow) × (find (purges s moment) s.jobs ≡ Some row) × (what.Purge row.start ≡ w)
purge_is s moment w e = go (find (purges s moment) s.jobs) refl e
  where
    go : (o : Option JobRow) → find (purges s moment) s.jobs ≡ o → purge_of o ≡ Some w → (row : JobRow) × (o ≡ Some row) × (what.Purge row.start ≡ w)
    go None f h = absurd (cc h)
    go (Some row) f h = (row, refl, cc h)

pub first_is_step : (s : State) (moment : ℕ) (w : What) → first_step s moment ≡ Some w → is_step w ≡ true
first_is_step s moment w e =
    elim (first_cases (first_put s) _ w (first_in s moment w e).1) [
      | inl put ↦ (put_is s w put).0
      | inr later ↦
          elim (first_cases (first_erasure s) _ w later.1) [
            | inl erasure ↦ erasure_is s w erasure
            | inr rest ↦
                elim (first_cases (first_expiry s moment) (first_purge s moment) w rest.1) [
                  | inl expiry ↦ (let r = expiry_is s moment w expiry in subst (λ (v : What). is_step v ≡ true) r.2 refl)
                  | inr purge ↦ (let r = purge_is s moment w purge.1 in subst (λ (v : What). is_step v ≡ true) r.2 refl)
                ]
          ]
    ]

-- where the first step is held no put comes first
no_first_put : (s : State) (moment : ℕ) (held : List What) → IsFirstHeld s moment held → first_put s ≡ None
no_first_put s moment held f =
    elim (first_cases (first_put s) _ f.0 (first_in s moment f.0 f.1).1) [
      | inl put ↦ absurd (let z = (put_is s f.0 put).1 held in let h = f.3 in cc (z, h))
      | inr later ↦ later.0
    ]

-- an expiry and a purge that come first are legal

own_object : (p : ObjectRow → Bool) (row : ObjectRow) (rows : List ObjectRow) → objects_rise rows ≡ true → find p rows ≡ Some row → find (has_id row.id) rows ≡ Some row
own_object p row [] r f = absurd (cc f)
own_object p row (x ∷ xs) r f = go (p x) f (own_object p row xs (rises_tail x.id xs r)) (λ e. found_above p x.id row xs r e)
  where
    go : (b : Bool) → cond b (Some x) (find p xs) ≡ Some row → (find p xs ≡ Some row → find (has_id row.id) xs ≡ Some row) →
        (find p xs ≡ Some row → x.id < row.id) → find (has_id row.id) (x ∷ xs) ≡ Some row
    go true h more up =
        let same : x ≡ row = cc h in
        ap (λ (b : Bool). cond b (Some x) (find (has_id row.id) xs)) (ap (λ (r : ObjectRow). nat_eq r.id row.id) same ∙ eqb_self row.id) ∙ ap (λ (r : ObjectRow). Some r) same
    go false h more up =
        let less : x.id < row.id = up h in
        let test : nat_eq x.id row.id ≡ false = grind (arith, nat_tests, less) in
        ap (λ (b : Bool). cond b (Some x) (find (has_id row.id) xs)) test ∙ more h

expiry_allowed : (s : State) (moment : ℕ) (w : What) → objects_rise s.graph.objects ≡ true → first_expiry s moment ≡ Some w → (is_step w ≡ true) × (is_allowed s moment w ≡ true)
expiry_allowed s moment w rise e =
    let r = expiry_is s moment w e in
    let parts = both (is_due_row moment (Some r.0)) (is_none (owner s r.0.id)) (found_passes (expires s moment) s.graph.objects r.0 r.1) in
    let own : object_at s.graph r.0.id ≡ Some r.0 = own_object (expires s moment) r.0 s.graph.objects rise r.1 in
    let may : may_expire s moment r.0.id ≡ true = ap (λ (o : Option ObjectRow). is_due_row moment o && is_none (owner s r.0.id)) own ∙ join _ _ parts.0 parts.1 in (
      subst (λ (v : What). is_step v ≡ true) r.2 refl,
      subst (λ (v : What). is_allowed s moment v ≡ true) r.2 may,
    )

own_job : (s : State) → Keeps s → (p : JobRow → Bool) (row : JobRow) → find p s.jobs ≡ Some row → job_row s.jobs row.start ≡ Some row
own_job s keeps p row f = let at = found_place p s.jobs row f in row_at_place 0 s.len at.0 row s.jobs keeps.starts at.1

purge_allowed : (s : State) (moment : ℕ) (w : What) → Keeps s → first_purge s moment ≡ Some w → (is_step w ≡ true) × (is_allowed s moment w ≡ true)
purge_allowed s moment w keeps e =
    let r = purge_is s moment w e in
    let may : may_purge s moment (job_row s.jobs r.0.start) ≡ true = ap (may_purge s moment) (own_job s keeps (purges s moment) r.0 r.1) ∙ found_passes (purges s moment) s.jobs r.0 r.1 in (
      subst (λ (v : What). is_step v ≡ true) r.2 refl,
      subst (λ (v : What). is_allowed s moment v ≡ true) r.2 may,
    )

-- where none comes first, none is legal

none_expiry : (o : Option ObjectRow) → expiry_of o ≡ None → o ≡ None
none_expiry None h = refl
none_expiry (Some row) h = absurd (cc h)

none_purge : (o : Option JobRow) → purge_of o ≡ None → o ≡ None
none_purge None h = refl
none_purge (Some row) h = absurd (cc h)

no_expiry : (s : State) (moment id : ℕ) → first_expiry s moment ≡ None → may_expire s moment id ≡ true → ⊥
no_expiry s moment id n may = go (object_at s.graph id) refl (both (is_due_row moment (object_at s.graph id)) (is_none (owner s id)) may)
  where
    go : (o : Option ObjectRow) → object_at s.graph id ≡ o → (is_due_row moment o ≡ true) × (is_none (owner s id) ≡ true) → ⊥
    go None at parts = cc (parts.0)
    go (Some row) at parts =
        let same : row.id ≡ id = eqb_is row.id id (found_passes (has_id id) s.graph.objects row at) in
        let yes : expires s moment row ≡ true = join _ _ parts.0 (ap (λ (k : ℕ). is_none (owner s k)) same ∙ parts.1) in
        let nay : expires s moment row ≡ false = none_passes (expires s moment) (has_id id) s.graph.objects row (none_expiry (find (expires s moment) s.graph.objects) n) at in
        cc (yes, nay)

no_purge : (s : State) (moment job : ℕ) → first_purge s moment ≡ None → may_purge s moment (job_row s.jobs job) ≡ true → ⊥
no_purge s moment job n may = go (job_row s.jobs job) refl may
  where
    go : (o : Option JobRow) → job_row s.jobs job ≡ o → may_purge s moment o ≡ true → ⊥
    go None at line = cc line
    go (Some row) at line =
        let nay : purges s moment row ≡ false = none_passes (purges s moment) (starts_at job) s.jobs row (none_purge (find (purges s moment) s.jobs) n) at in
        cc (line, nay)

-- of restoring jobs one has no older one

fails : {A : Type 0} (p : A → Bool) (xs : List A) → list_all p xs ≡ false → (x : A) × (find (λ y. not (p y)) xs ≡ Some x)
fails p [] h = absurd (cc h)
fails p (x ∷ xs) h = go (p x) h (fails p xs)
  where
    go : (b : Bool) → (b && list_all p xs) ≡ false → (list_all p xs ≡ false → (y : _) × (find (λ z. not (p z)) xs ≡ Some y)) →
        (y : _) × (cond (not b) (Some x) (find (λ z. not (p z)) xs) ≡ Some y)
    go true e more = more e
    go false e more = (x, refl)

older_parts : (a b : Bool) → not (not a || b) ≡ true → (a ≡ true) × (b ≡ false)
older_parts true true h = absurd (cc h)
older_parts true false h = (refl, refl)
older_parts false b h = absurd (cc h)

earlier : (position : ℕ) (o : Option ℕ) → is_some o ≡ true → is_no_older (Some position) o ≡ false → (q : ℕ) × (o ≡ Some q) × (q < position)
earlier position None some h = absurd (cc some)
earlier position (Some q) some h = (q, refl, grind (arith, nat_tests, h))

oldest_exists : (s : State) (n : ℕ) (row : JobRow) (position : ℕ) → Keeps s → position < n → job_row s.jobs row.start ≡ Some row → row.restored ≡ Some position →
    is_restoring s row ≡ true → find (is_oldest_restoring s) s.jobs ≡ None → ⊥
oldest_exists s zero row position keeps less at is restoring none = omega arith
oldest_exists s (suc n) row position keeps less at is restoring none =
    go (list_all test s.jobs) refl (λ other q lower here there restores. oldest_exists s n other q keeps lower here there restores none)
  where
    test : JobRow → Bool
    test other = not (is_restoring s other) || is_no_older row.restored other.restored

    nay : is_oldest_restoring s row ≡ false
    nay = none_passes (is_oldest_restoring s) (starts_at row.start) s.jobs row none at

    below : (q : ℕ) → q < position → q < n
    below q h = omega arith

    go : (b : Bool) → list_all test s.jobs ≡ b →
        ((other : JobRow) (q : ℕ) → q < n → job_row s.jobs other.start ≡ Some other → other.restored ≡ Some q → is_restoring s other ≡ true → ⊥) → ⊥
    go true all again = let yes : is_oldest_restoring s row ≡ true = join _ _ restoring all in cc (yes, nay)
    go false all again =
        let found = fails test s.jobs all in
        let parts = older_parts (is_restoring s found.0) (is_no_older row.restored found.0.restored) (found_passes (λ y. not (test y)) s.jobs found.0 found.1) in
        let q = earlier position found.0.restored (both (is_some found.0.restored) _ parts.0).0 (subst (λ (o : Option ℕ). is_no_older o found.0.restored ≡ false) is parts.1) in
        again found.0 q.0 (below q.0 q.2) (own_job s keeps (λ y. not (test y)) found.0 found.1) q.1 parts.0

-- a place that passes is counted, and there is a last one

none_counted : (p : Logged → Bool) (xs : List Logged) (n : ℕ) → last_place p n xs ≡ None → count_by p xs ≡ 0
none_counted p [] n h = refl
none_counted p (x ∷ xs) n h = go (last_place p (n + 1) xs) refl h (none_counted p xs (n + 1))
  where
    here : (b : Bool) → cond b (Some n) None ≡ None → cond b 1 0 ≡ zero
    here true e = absurd (cc e)
    here false e = refl

    go : (o : Option ℕ) → last_place p (n + 1) xs ≡ o → option_or o (cond (p x) (Some n) None) ≡ None → (last_place p (n + 1) xs ≡ None → count_by p xs ≡ 0) → count_by p (x ∷ xs) ≡ 0
    go (Some i) at e more = absurd (cc e)
    go None at e more = omega (arith, sum_by-cons (λ y. cond (p y) 1 0) x xs, more at, here (p x) e)

counted : (p : Logged → Bool) (xs : List Logged) (i : ℕ) (l : Logged) → slice_get xs i ≡ Some l → p l ≡ true → 0 < count_by p xs
counted p [] i l at one = absurd (cc at)
counted p (x ∷ xs) zero l at one =
    let same : x ≡ l = cc at in omega (arith, sum_by-cons (λ y. cond (p y) 1 0) x xs, counts (p x) (ap p same ∙ one))
  where
    counts : (b : Bool) → b ≡ true → cond b 1 0 ≡ suc zero
    counts true is = refl
    counts false is = absurd (cc is)
counted p (x ∷ xs) (suc i) l at one = omega (arith, sum_by-cons (λ y. cond (p y) 1 0) x xs, counted p xs i l at one)

restored_row : (o : Option JobRow) → is_restored_row o ≡ true → (row : JobRow) × (o ≡ Some row) × (is_some row.restored ≡ true)
restored_row None h = absurd (cc h)
restored_row (Some row) h = (row, refl, h)

some_number : (o : Option ℕ) → is_some o ≡ true → (n : ℕ) × (o ≡ Some n)
some_number None h = absurd (cc h)
some_number (Some n) h = (n, refl)

no_put : (s : State) (job i : ℕ) → Keeps s → first_put s ≡ None → may_put s job (slice_get s.items i) ≡ true → ⊥
no_put s job i keeps none line =
    let may = may_put_of s job i (slice_get s.items i) refl line in
    let found = restored_row (job_row s.jobs (job_of may.logged.item)) may.restored in
    let start : found.0.start ≡ job_of may.logged.item = eqb_is found.0.start (job_of may.logged.item) (found_passes (starts_at (job_of may.logged.item)) s.jobs found.0 found.1) in
    let same : nat_eq (job_of may.logged.item) found.0.start ≡ true = ap (λ (k : ℕ). nat_eq k found.0.start) (sym start) ∙ eqb_self found.0.start in
    let opened : is_open_of found.0.start s.jobs may.logged ≡ true = join _ _ same (join _ _ may.waiting may.restored) in
    let some_left : 0 < left s found.0.start = counted (is_open_of found.0.start s.jobs) s.items i may.logged may.at opened in
    let restoring : is_restoring s found.0 ≡ true = join _ _ found.2 (positive (left s found.0.start) some_left) in
    let position = some_number found.0.restored found.2 in
    by_row (find (is_oldest_restoring s) s.jobs) refl none
    (oldest_exists s (suc position.0) found.0 position.0 keeps (next position.0)
    (subst (λ (n : ℕ). job_row s.jobs n ≡ Some found.0) (sym start) found.1) position.1 restoring)
  where
    positive : (n : ℕ) → 0 < n → nat_lt 0 n ≡ true
    positive n h = grind (arith, nat_tests, h)

    next : (n : ℕ) → n < suc n
    next n = omega arith

    above : (n : ℕ) → nat_lt 0 n ≡ true → 0 < n
    above n h = grind (arith, nat_tests, h)

    by_place : (row : JobRow) → is_restoring s row ≡ true → (o : Option ℕ) → last_place (is_open_of row.start s.jobs) 0 s.items ≡ o → put_of row.start o ≡ None → ⊥
    by_place row restoring None is here =
        let zero_left : left s row.start ≡ 0 = none_counted (is_open_of row.start s.jobs) s.items 0 is in
        let some_left : 0 < left s row.start = above (left s row.start) (both (is_some row.restored) _ restoring).1 in
        omega arith
    by_place row restoring (Some k) is here = cc here

    by_row : (o : Option JobRow) → find (is_oldest_restoring s) s.jobs ≡ o → put_of_job s o ≡ None → (find (is_oldest_restoring s) s.jobs ≡ None → ⊥) → ⊥
    by_row None at here impossible = impossible at
    by_row (Some row) at here impossible =
        by_place row (both (is_restoring s row) _ (found_passes (is_oldest_restoring s) s.jobs row at)).0 (last_place (is_open_of row.start s.jobs) 0 s.items) refl here

-- an answer that names a legal step that is not held
pub free_named : (s : State) (moment : ℕ) (held : List What) (next : Next) (w : What) → step_of next ≡ Some w → is_legal_step s moment w ≡ true → is_held held w ≡ false →
    IsFreeNext s moment held next
free_named s moment held (Expire id) w e l f = let same : w ≡ what.Expire id = cc e in subst (λ (v : What). IsFree s moment held v) same (l, f)
free_named s moment held (Cut job edge from to) w e l f = let same : w ≡ what.Cut job edge from to = cc e in subst (λ (v : What). IsFree s moment held v) same (l, f)
free_named s moment held (Erase job id) w e l f = let same : w ≡ what.Erase job id = cc e in subst (λ (v : What). IsFree s moment held v) same (l, f)
free_named s moment held (Put job i) w e l f = let same : w ≡ what.Put job i = cc e in subst (λ (v : What). IsFree s moment held v) same (l, f)
free_named s moment held (Purge job) w e l f = let same : w ≡ what.Purge job = cc e in subst (λ (v : What). IsFree s moment held v) same (l, f)
free_named s moment held Idle w e l f = absurd (cc e)
free_named s moment held (Held n) w e l f = absurd (cc e)

expiry_free : (id : ℕ) (held : List What) → is_held held (what.Expire id) ≡ false
expiry_free id [] = refl
expiry_free id (x ∷ xs) = expiry_free id xs

purge_free : (job : ℕ) (held : List What) → is_held held (what.Purge job) ≡ false
purge_free job [] = refl
purge_free job (x ∷ xs) = purge_free job xs

-- the four ways on from a first step that is held

module _ (s : State) (t : Table) (moment : ℕ) (h : IsTableOf s t) (f : IsFirstHeld s moment t.held) where
  time : InTime s moment
  time = in_time s moment f.0 f.2

  pub erasure_next : (g : Graph) (next : Next) (w : What) → g ≡ s.graph → are_apart t.owners ≡ true → Some w ≡ free_among g t.held t.owners → (is_step w ≡ true → step_of next ≡ Some w) →
      IsFreeNext s moment t.held next
  erasure_next g next w same apart e named =
      let is = among_open s t.held t.owners h.owners w apart (ap (λ (v : Graph). free_among v t.held t.owners) (sym same) ∙ sym e) in
      free_named s moment t.held next w (named is.0) (legal_step s moment w time is.0 (is.1 moment)) is.2

  pub expiry_next : (next : Next) (w : What) → objects_rise s.graph.objects ≡ true → Some w ≡ first_expiry s moment → (is_step w ≡ true → step_of next ≡ Some w) → IsFreeNext s moment t.held next
  expiry_next next w rise e named =
      let is = expiry_allowed s moment w rise (sym e) in
      let r = expiry_is s moment w (sym e) in
      free_named s moment t.held next w (named is.0) (legal_step s moment w time is.0 is.1) (subst (λ (v : What). is_held t.held v ≡ false) r.2 (expiry_free r.0.id t.held))

  pub purge_next : (next : Next) (w : What) → Some w ≡ first_purge s moment → (is_step w ≡ true → step_of next ≡ Some w) → IsFreeNext s moment t.held next
  purge_next next w e named =
      let is = purge_allowed s moment w h.keeps (sym e) in
      let r = purge_is s moment w (sym e) in
      free_named s moment t.held next w (named is.0) (legal_step s moment w time is.0 is.1) (subst (λ (v : What). is_held t.held v ≡ false) r.2 (purge_free r.0.start t.held))

  pub all_held : (g : Graph) → g ≡ s.graph → None ≡ free_among g t.held t.owners → None ≡ first_expiry s moment → None ≡ first_purge s moment → AllHeld s moment t.held
  all_held g same e x p = record {
    some = (f.0, f.2);
    each = λ w l. let is = allowed_step s moment w l in go w is.0 is.1;
  }
    where
      shut : free_among s.graph t.held t.owners ≡ None
      shut = ap (λ (v : Graph). free_among v t.held t.owners) (sym same) ∙ sym e

      go : (w : What) → is_step w ≡ true → is_allowed s moment w ≡ true → is_held t.held w ≡ true
      go (what.Create tag kind id size) is a = absurd (cc is)
      go (what.Update tag id size) is a = absurd (cc is)
      go (what.Link tag edge from to size) is a = absurd (cc is)
      go (what.Unlink tag edge from to name) is a = absurd (cc is)
      go (what.Delete tag id name) is a = absurd (cc is)
      go (what.Restore tag job) is a = absurd (cc is)
      go (what.Expire id) is a = absurd (no_expiry s moment id (sym x) a)
      go (what.Cut job edge from to) is a = cut_held s t.held t.owners h.owners moment job edge from to shut a
      go (what.Erase job id) is a = erase_held s t.held t.owners h.owners moment job id shut a
      go (what.Put job i) is a = absurd (no_put s job i h.keeps (no_first_put s moment t.held f) a)
      go (what.Purge job) is a = absurd (no_purge s moment job (sym p) a)
