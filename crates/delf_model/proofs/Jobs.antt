-- Jobs after an entry: their rows, which are restored, and that a restored job owns nothing.
use Rattle.std.proofs.Common.{◌≡◌, ℕ, ◌<◌, Bool, true, false, cond, eqb, List, [], ◌∷◌, ◌++◌, Option, Some, None, refl, sym, ap, ◌∙◌, subst, arith, inl, inr, ◌⊎◌}
use Rattle.std.proofs.lemmas.Bool.{and_parts, eqb-true, eq-eqb, false≢true}
use Rattle.std.specs.Prelude.{find, map, is_some, count_by, option_and_then}
use Rattle.std.specs.Option.{option_map}
use Rattle.delf_model.specs.declared.ids.JobName.{JobName}
use Rattle.delf_model.specs.declared.ids.JobName.TheVariants.{Named, Expiry}
use Rattle.delf_model.specs.declared.entry.Entry.{Entry}
use Rattle.delf_model.specs.declared.entry.What.{What}
use Rattle.delf_model.specs.declared.entry.What.TheVariants.{Create, Update, Link, Unlink, Delete, Restore, Expire, Cut, Erase, Put, Purge}
use Rattle.delf_model.specs.State.{State, JobRow, Owners, owner, owner_in, owned, owns_of, owner_of_pair, is_pair_of, is_job, job_row, starts_at, is_restored, is_restored_row}
use Rattle.delf_model.specs.Step.{step, jobs_after, new_job, started_job, row_restored_at, purged_if, erased_at}
use Rattle.delf_model.specs.Owners.{start_of, unlink_start}
use Rattle.std.specs.Option.{option_or}
use Rattle.delf_model.specs.Legal.{is_legal, is_allowed, is_named_so}
use Rattle.delf_model.specs.Reply.{refusals}
use Rattle.delf_model.proofs.Lines.{none_of, allowed_of, owns_none}
use Rattle.delf_model.proofs.Owners.{owner_from}
use Rattle.delf_model.proofs.Sums.{count_found}

-- look-ups in lists that grew, or whose rows were changed

append_case : {A : Type 0} (p : A → Bool) (x : A) (b : Bool) (found rest more : Option A) → rest ≡ option_or found more →
    cond b (Some x) rest ≡ option_or (cond b (Some x) found) more
append_case p x true found rest more IH = refl
append_case p x false found rest more IH = IH

pub find-append : {A : Type 0} (p : A → Bool) (xs ys : List A) → find p (xs ++ ys) ≡ option_or (find p xs) (find p ys)
find-append p [] ys = refl
find-append p (x ∷ xs) ys = append_case p x (p x) (find p xs) (find p (xs ++ ys)) (find p ys) (find-append p xs ys)

map_case : {A : Type 0} (f : A → A) (x : A) (b : Bool) (found rest : Option A) → rest ≡ option_map f found → cond b (Some (f x)) rest ≡ option_map f (cond b (Some x) found)
map_case f x true found rest IH = refl
map_case f x false found rest IH = IH

-- a change of rows that keeps what the test asks keeps what it finds
pub find-map : {A : Type 0} (p : A → Bool) (f : A → A) (xs : List A) → ((x : A) → p (f x) ≡ p x) → find p (map f xs) ≡ option_map f (find p xs)
find-map p f [] same = refl
find-map p f (x ∷ xs) same =
    ap (λ (b : Bool). cond b (Some (f x)) (find p (map f xs))) (same x) ∙
    map_case f x (p x) (find p xs) (find p (map f xs)) (find-map p f xs same)

restored_start : (job position other : ℕ) (row : JobRow) → starts_at other (row_restored_at job position row) ≡ starts_at other row
restored_start job position other row = by_hit (eqb row.start job)
  where
    by_hit : (b : Bool) → starts_at other (cond b (record row { restored = Some position }) row) ≡ starts_at other row
    by_hit true = refl
    by_hit false = refl

purged_start : (job other : ℕ) (row : JobRow) → starts_at other (purged_if job row) ≡ starts_at other row
purged_start job other row = by_hit (eqb row.start job)
  where
    by_hit : (b : Bool) → starts_at other (cond b (record row { purged = true }) row) ≡ starts_at other row
    by_hit true = refl
    by_hit false = refl

erased_start : (job moment other : ℕ) (row : JobRow) → starts_at other (erased_at job moment row) ≡ starts_at other row
erased_start job moment other row = by_hit (eqb row.start job)
  where
    by_hit : (b : Bool) → starts_at other (cond b (record row { last = Some moment }) row) ≡ starts_at other row
    by_hit true = refl
    by_hit false = refl

-- the row of a job after an entry: with a new row at the end, or a change of its own
pub job_row-started : (jobs : List JobRow) (start : ℕ) (o : Option (ℕ × JobName)) (job : ℕ) →
    job_row (jobs ++ started_job start o) job ≡ option_or (job_row jobs job) (job_row (started_job start o) job)
job_row-started jobs start o job = find-append (starts_at job) jobs (started_job start o)

pub job_row-restored : (jobs : List JobRow) (other position job : ℕ) → job_row (map (row_restored_at other position) jobs) job ≡ option_map (row_restored_at other position) (job_row jobs job)
job_row-restored jobs other position job = find-map (starts_at job) (row_restored_at other position) jobs (restored_start other position job)

pub job_row-purged : (jobs : List JobRow) (other job : ℕ) → job_row (map (purged_if other) jobs) job ≡ option_map (purged_if other) (job_row jobs job)
job_row-purged jobs other job = find-map (starts_at job) (purged_if other) jobs (purged_start other job)

pub job_row-erased : (jobs : List JobRow) (other moment job : ℕ) → job_row (map (erased_at other moment) jobs) job ≡ option_map (erased_at other moment) (job_row jobs job)
job_row-erased jobs other moment job = find-map (starts_at job) (erased_at other moment) jobs (erased_start other moment job)

-- jobs stay, and are restored as before, but for a Restore of this one

-- the entry restores the job
abbrev pub is_restore_of : ℕ → What → Bool
is_restore_of job (Restore tag other) = eqb other job
is_restore_of job what = false

started_unrestored : (start : ℕ) (o : Option (ℕ × JobName)) (job : ℕ) → is_restored_row (job_row (started_job start o) job) ≡ false
started_unrestored start None job = refl
started_unrestored start (Some pair) job = by_hit (eqb start job)
  where
    by_hit : (b : Bool) → is_restored_row (cond b (Some (new_job start pair.0 pair.1)) None) ≡ false
    by_hit true = refl
    by_hit false = refl

over_unrestored : (o p : Option JobRow) → is_restored_row p ≡ false → is_restored_row (option_or o p) ≡ is_restored_row o
over_unrestored None p none = none
over_unrestored (Some row) p none = refl

grown_same : (jobs : List JobRow) (start : ℕ) (o : Option (ℕ × JobName)) (job : ℕ) → is_restored (jobs ++ started_job start o) job ≡ is_restored jobs job
grown_same jobs start o job =
    ap is_restored_row (job_row-started jobs start o job) ∙ over_unrestored (job_row jobs job) (job_row (started_job start o) job) (started_unrestored start o job)

purged_same : (other : ℕ) (o : Option JobRow) → is_restored_row (option_map (purged_if other) o) ≡ is_restored_row o
purged_same other None = refl
purged_same other (Some row) = by_hit (eqb row.start other)
  where
    by_hit : (b : Bool) → is_restored_row (Some (cond b (record row { purged = true }) row)) ≡ is_some row.restored
    by_hit true = refl
    by_hit false = refl

erased_same : (other moment : ℕ) (o : Option JobRow) → is_restored_row (option_map (erased_at other moment) o) ≡ is_restored_row o
erased_same other moment None = refl
erased_same other moment (Some row) = by_hit (eqb row.start other)
  where
    by_hit : (b : Bool) → is_restored_row (Some (cond b (record row { last = Some moment }) row)) ≡ is_some row.restored
    by_hit true = refl
    by_hit false = refl

restored_other : (other position job : ℕ) (jobs : List JobRow) → eqb other job ≡ false → is_restored_row (option_map (row_restored_at other position) (job_row jobs job)) ≡ is_restored_row (job_row jobs job)
restored_other other position job jobs apart = by_row (job_row jobs job) (λ row found. found_start jobs job row found)
  where
    found_start : (rows : List JobRow) (j : ℕ) (row : JobRow) → find (starts_at j) rows ≡ Some row → row.start ≡ j
    found_start [] j row found = absurd (cc found)
    found_start (x ∷ xs) j row found = by_hit (eqb x.start j) refl found (found_start xs j row)
      where
        by_hit : (b : Bool) → eqb x.start j ≡ b → cond b (Some x) (find (starts_at j) xs) ≡ Some row → (find (starts_at j) xs ≡ Some row → row.start ≡ j) → row.start ≡ j
        by_hit true is here IH = let same : x ≡ row = cc in subst (λ (r : JobRow). r.start ≡ j) same (eqb-true x.start j is)
        by_hit false is here IH = IH here

    by_row : (o : Option JobRow) → ((row : JobRow) → o ≡ Some row → row.start ≡ job) → is_restored_row (option_map (row_restored_at other position) o) ≡ is_restored_row o
    by_row None start = refl
    by_row (Some row) start = by_hit (eqb row.start other) refl
      where
        by_hit : (b : Bool) → eqb row.start other ≡ b → is_restored_row (Some (cond b (record row { restored = Some position }) row)) ≡ is_some row.restored
        by_hit true is = absurd (false≢true (sym apart ∙ eq-eqb other job (sym (eqb-true row.start other is) ∙ start row refl)))
        by_hit false is = refl

-- whether a job is restored changes only by its Restore
pub restored_same : (s : State) (moment : ℕ) (what : What) (job : ℕ) → is_restore_of job what ≡ false → is_restored (jobs_after s moment what) job ≡ is_restored s.jobs job
restored_same s moment (Create tag kind id size) job other = refl
restored_same s moment (Update tag id size) job other = refl
restored_same s moment (Link tag edge from to size) job other = refl
restored_same s moment (Unlink tag edge from to name) job other = grown_same s.jobs s.len (unlink_start s edge from to name) job
restored_same s moment (Delete tag id name) job other = grown_same s.jobs s.len (Some (id, Named name)) job
restored_same s moment (Restore tag which) job other =
    ap is_restored_row (job_row-restored s.jobs which s.len job) ∙ restored_other which s.len job s.jobs other
restored_same s moment (Expire id) job other = grown_same s.jobs s.len (Some (id, Expiry id)) job
restored_same s moment (Cut which edge from to) job other = ap is_restored_row (job_row-erased s.jobs which moment job) ∙ erased_same which moment (job_row s.jobs job)
restored_same s moment (Erase which id) job other = ap is_restored_row (job_row-erased s.jobs which moment job) ∙ erased_same which moment (job_row s.jobs job)
restored_same s moment (Put which i) job other = refl
restored_same s moment (Purge which) job other = ap is_restored_row (job_row-purged s.jobs which job) ∙ purged_same which (job_row s.jobs job)

-- jobs after an entry are those before, or the one that starts here

some_first : {A : Type 0} (o p : Option A) → is_some (option_or o p) ≡ true → (is_some o ≡ true) ⊎ (is_some p ≡ true)
some_first None p some = inr some
some_first (Some x) p some = inl refl

started_here : (start : ℕ) (o : Option (ℕ × JobName)) (job : ℕ) → is_some (job_row (started_job start o) job) ≡ true → job ≡ start
started_here start None job some = absurd (false≢true some)
started_here start (Some pair) job some = by_hit (eqb start job) refl some
  where
    by_hit : (b : Bool) → eqb start job ≡ b → is_some (cond b (Some (new_job start pair.0 pair.1)) None) ≡ true → job ≡ start
    by_hit true is here = sym (eqb-true start job is)
    by_hit false is here = absurd (false≢true here)

grown_from : (jobs : List JobRow) (start : ℕ) (o : Option (ℕ × JobName)) (job : ℕ) → is_some (job_row (jobs ++ started_job start o) job) ≡ true →
    (is_some (job_row jobs job) ≡ true) ⊎ (job ≡ start)
grown_from jobs start o job some =
    elim (some_first (job_row jobs job) (job_row (started_job start o) job) (sym (ap (λ (r : Option JobRow). is_some r) (job_row-started jobs start o job)) ∙ some)) [
      | inl old ↦ inl old
      | inr new ↦ inr (started_here start o job new)
    ]

map_some : (f : JobRow → JobRow) (o : Option JobRow) → is_some (option_map f o) ≡ is_some o
map_some f None = refl
map_some f (Some row) = refl

mapped_from : (f : JobRow → JobRow) (start job : ℕ) (o p : Option JobRow) → p ≡ option_map f o → is_some p ≡ true → (is_some o ≡ true) ⊎ (job ≡ start)
mapped_from f start job o p is some = inl (sym (map_some f o) ∙ (sym (ap (λ (r : Option JobRow). is_some r) is) ∙ some))

pub jobs_from : (s : State) (moment : ℕ) (what : What) (job : ℕ) → is_some (job_row (jobs_after s moment what) job) ≡ true →
    (is_some (job_row s.jobs job) ≡ true) ⊎ (job ≡ s.len)
jobs_from s moment (Create tag kind id size) job some = inl some
jobs_from s moment (Update tag id size) job some = inl some
jobs_from s moment (Link tag edge from to size) job some = inl some
jobs_from s moment (Unlink tag edge from to name) job some = grown_from s.jobs s.len (unlink_start s edge from to name) job some
jobs_from s moment (Delete tag id name) job some = grown_from s.jobs s.len (Some (id, Named name)) job some
jobs_from s moment (Restore tag which) job some = mapped_from (row_restored_at which s.len) s.len job (job_row s.jobs job) _ (job_row-restored s.jobs which s.len job) some
jobs_from s moment (Expire id) job some = grown_from s.jobs s.len (Some (id, Expiry id)) job some
jobs_from s moment (Cut which edge from to) job some = mapped_from (erased_at which moment) s.len job (job_row s.jobs job) _ (job_row-erased s.jobs which moment job) some
jobs_from s moment (Erase which id) job some = mapped_from (erased_at which moment) s.len job (job_row s.jobs job) _ (job_row-erased s.jobs which moment job) some
jobs_from s moment (Put which i) job some = inl some
jobs_from s moment (Purge which) job some = mapped_from (purged_if which) s.len job (job_row s.jobs job) _ (job_row-purged s.jobs which job) some

-- each job began at an earlier position
abbrev pub JobsBelow : State → Type 0
JobsBelow s = (job : ℕ) → is_some (job_row s.jobs job) ≡ true → job < s.len

pub below_step : (s : State) (e : Entry) → JobsBelow s → JobsBelow (step s e)
below_step s e below job some =
    elim (jobs_from s e.moment e.what job some) [ inl old ↦ (let lt : job < s.len = below job old in omega arith) | inr new ↦ omega arith ]

-- a restored job owns nothing

restored_some : (o : Option JobRow) → is_restored_row o ≡ true → is_some o ≡ true
restored_some None yes_restored = absurd (false≢true yes_restored)
restored_some (Some row) yes_restored = refl

found_owner : (owners : Owners) (id job : ℕ) → owner_in owners id ≡ Some job → 0 < count_by (is_pair_of job) owners
found_owner owners id job own = by_pair (find (owns_of id) owners) refl own
  where
    by_pair : (o : Option (ℕ × Option ℕ)) → find (owns_of id) owners ≡ o → option_and_then owner_of_pair o ≡ Some job → 0 < count_by (is_pair_of job) owners
    by_pair None at own = absurd (cc own)
    by_pair (Some pair) at own = count_found (owns_of id) (is_pair_of job) pair owners at (ap (is_job job) own ∙ eq-eqb job job refl)

-- what a job owns, it is counted to own
pub owned_positive : (s : State) (id job : ℕ) → owner s id ≡ Some job → 0 < owned s job
owned_positive s id job own = found_owner s.owners id job own

abbrev pub Idle : State → Type 0
Idle s = (job id : ℕ) → is_restored s.jobs job ≡ true → owner s id ≡ Some job → ⊥

-- a legal Restore of a job that owns nothing
pub restore_idle : (s : State) (moment : ℕ) (what : What) (job : ℕ) → is_allowed s moment what ≡ true → is_restore_of job what ≡ true → owned s job ≡ 0
restore_idle s moment (Create tag kind id size) job line is = absurd (false≢true is)
restore_idle s moment (Update tag id size) job line is = absurd (false≢true is)
restore_idle s moment (Link tag edge from to size) job line is = absurd (false≢true is)
restore_idle s moment (Unlink tag edge from to name) job line is = absurd (false≢true is)
restore_idle s moment (Delete tag id name) job line is = absurd (false≢true is)
restore_idle s moment (Restore tag which) job line is =
    subst (λ (n : ℕ). owned s n ≡ 0) (eqb-true which job is)
    (owns_none s which (none_of (refusals s moment (Restore tag which)) (and_parts (is_named_so s which (job_row s.jobs which)) _ line).1).1.0)
restore_idle s moment (Expire id) job line is = absurd (false≢true is)
restore_idle s moment (Cut which edge from to) job line is = absurd (false≢true is)
restore_idle s moment (Erase which id) job line is = absurd (false≢true is)
restore_idle s moment (Put which i) job line is = absurd (false≢true is)
restore_idle s moment (Purge which) job line is = absurd (false≢true is)

owned_here : (s : State) (id job : ℕ) → owner s id ≡ Some job → owned s job ≡ 0 → ⊥
owned_here s id job own none = let positive : 0 < owned s job = owned_positive s id job own in omega arith

-- the entry that restores a job is none that starts one
restore_starts_none : (s : State) (what : What) (job : ℕ) → is_restore_of job what ≡ true → start_of s what ≡ None
restore_starts_none s (Create tag kind id size) job is = absurd (false≢true is)
restore_starts_none s (Update tag id size) job is = absurd (false≢true is)
restore_starts_none s (Link tag edge from to size) job is = absurd (false≢true is)
restore_starts_none s (Unlink tag edge from to name) job is = absurd (false≢true is)
restore_starts_none s (Delete tag id name) job is = absurd (false≢true is)
restore_starts_none s (Restore tag which) job is = refl
restore_starts_none s (Expire id) job is = absurd (false≢true is)
restore_starts_none s (Cut which edge from to) job is = absurd (false≢true is)
restore_starts_none s (Erase which id) job is = absurd (false≢true is)
restore_starts_none s (Put which i) job is = absurd (false≢true is)
restore_starts_none s (Purge which) job is = absurd (false≢true is)

pub idle_step : (s : State) (e : Entry) → is_legal s e ≡ true → JobsBelow s → Idle s → Idle (step s e)
idle_step s e legal below idle job id restored own = by_kind (is_restore_of job e.what) refl
  where
    was_row : is_some (job_row s.jobs job) ≡ true → job ≡ s.len → ⊥
    was_row some same = let lt : job < s.len = below job some in omega arith

    by_kind : (b : Bool) → is_restore_of job e.what ≡ b → ⊥
    by_kind true is =
        elim (owner_from s e id job own) [
          | inl old ↦ owned_here s old.0 job old.1 (restore_idle s e.moment e.what job (allowed_of s e legal) is)
          | inr new ↦
              elim (jobs_from s e.moment e.what job (restored_some (job_row (step s e).jobs job) restored)) [
                | inl some ↦ was_row some new
                | inr same ↦ not_itself new is
              ]
        ]
      where
        -- a Restore names a job that has a row, so not the position where it stands
        not_itself : job ≡ s.len → is_restore_of job e.what ≡ true → ⊥
        not_itself same restores = was_row (named_row e.moment e.what (allowed_of s e legal) restores) same
          where
            named_row : (moment : ℕ) (what : What) → is_allowed s moment what ≡ true → is_restore_of job what ≡ true → is_some (job_row s.jobs job) ≡ true
            named_row moment (Create tag kind x size) line r = absurd (false≢true r)
            named_row moment (Update tag x size) line r = absurd (false≢true r)
            named_row moment (Link tag edge from to size) line r = absurd (false≢true r)
            named_row moment (Unlink tag edge from to name) line r = absurd (false≢true r)
            named_row moment (Delete tag x name) line r = absurd (false≢true r)
            named_row moment (Restore tag which) line r =
                subst (λ (n : ℕ). is_some (job_row s.jobs n) ≡ true) (eqb-true which job r)
                (named (job_row s.jobs which) which (and_parts (is_named_so s which (job_row s.jobs which)) _ line).0)
              where
                named : (o : Option JobRow) (j : ℕ) → is_named_so s j o ≡ true → is_some o ≡ true
                named None j n = absurd (false≢true n)
                named (Some row) j n = refl
            named_row moment (Expire x) line r = absurd (false≢true r)
            named_row moment (Cut which edge from to) line r = absurd (false≢true r)
            named_row moment (Erase which x) line r = absurd (false≢true r)
            named_row moment (Put which i) line r = absurd (false≢true r)
            named_row moment (Purge which) line r = absurd (false≢true r)
    by_kind false is =
        let before : is_restored s.jobs job ≡ true = sym (restored_same s e.moment e.what job is) ∙ restored in
        elim (owner_from s e id job own) [
          | inl old ↦ idle job old.0 before old.1
          | inr new ↦ was_row (restored_some (job_row s.jobs job) before) new
        ]
