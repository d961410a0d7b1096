-- How the jobs that have erased nothing yet go on as rows come and change, and as objects gain and lose owners.
use Rattle.std.proofs.Common.{◌≡◌, ℕ, ◌+◌, ◌<◌, Bool, true, false, cond, List, [], ◌∷◌, ◌++◌, Option, Some, None, refl, sym, ap, ◌∙◌, arith, ◌⊎◌, inl, inr}
use Rattle.std.specs.Prelude.{find, nat_eq, is_none}
use Rattle.std.proofs.lemmas.Bool.Decides.{nat_tests}
use Rattle.delf_model.specs.declared.ids.JobName.{JobName}
use Rattle.delf_model.specs.State.{JobRow, starts_at, is_job}
use Rattle.delf_model.specs.Step.{new_job, row_restored_at, purged_if, erased_at}
use Rattle.job_table.specs.Fresh.{is_fresh_row, is_fresh, FreshOwn}
use Rattle.job_table.specs.Owning.{Gains}
use Rattle.job_table.specs.Parts.{changed_first}
use Rattle.job_table.specs.Table.{owner_among, owned_among}

fresh_started : (start root : ℕ) (name : JobName) (rows : List JobRow) (job : ℕ) → is_fresh (rows ++ new_job start root name ∷ []) job ≡ true → (is_fresh rows job ≡ true) ⊎ (start ≡ job)
fresh_started start root name [] job f = go (nat_eq start job) refl f
  where
    go : (b : Bool) → nat_eq start job ≡ b → is_fresh_row (cond b (Some (new_job start root name)) None) ≡ true → (is_fresh [] job ≡ true) ⊎ (start ≡ job)
    go true h g = inr (grind (arith, nat_tests, h))
    go false h g = absurd (cc g)
fresh_started start root name (x ∷ xs) job f = go (nat_eq x.start job) f (fresh_started start root name xs job)
  where
    go : (b : Bool) → is_fresh_row (cond b (Some x) (find (starts_at job) (xs ++ new_job start root name ∷ []))) ≡ true → (is_fresh (xs ++ new_job start root name ∷ []) job ≡ true → (is_fresh xs job ≡ true) ⊎ (start ≡ job)) →
        (is_fresh_row (cond b (Some x) (find (starts_at job) xs)) ≡ true) ⊎ (start ≡ job)
    go true g more = inl g
    go false g more = more g

pub started_own : (start root : ℕ) (name : JobName) (jobs jobs' : List JobRow) (pairs pairs' : List (ℕ × ℕ)) → FreshOwn jobs pairs → jobs' ≡ jobs ++ new_job start root name ∷ [] → Gains pairs pairs' root start → FreshOwn jobs' pairs'
started_own start root name jobs jobs' pairs pairs' own e g job f = go (fresh_started start root name jobs job (ap (λ (l : List JobRow). is_fresh l job) (sym e) ∙ f))
  where
    go : (is_fresh jobs job ≡ true) ⊎ (start ≡ job) → 0 < owned_among pairs' job
    go (inl h) = let some = own job h in let up = g.owned job in omega (arith, some, up)
    go (inr h) =
        let here : nat_eq start job ≡ true = grind (arith, nat_tests, h) in
        let up : owned_among pairs' job ≡ owned_among pairs job + 1 = g.owned job ∙ ap (λ (b : Bool). owned_among pairs job + cond b 1 0) here in
        omega (arith, up)

pub gained_own : (jobs : List JobRow) (pairs pairs' : List (ℕ × ℕ)) (id owner : ℕ) → FreshOwn jobs pairs → Gains pairs pairs' id owner → FreshOwn jobs pairs'
gained_own jobs pairs pairs' id owner own g job f = let some = own job f in let up = g.owned job in omega (arith, some, up)

fresh_changed : (p : JobRow → Bool) (f : JobRow → JobRow) → ((row : JobRow) → (f row).start ≡ row.start) → ((row : JobRow) → (f row).last ≡ row.last) → (rows : List JobRow) (job : ℕ) →
    is_fresh (changed_first p f rows) job ≡ is_fresh rows job
fresh_changed p f s r [] job = refl
fresh_changed p f s r (x ∷ xs) job = go (p x) (fresh_changed p f s r xs job)
  where
    inner : (b : Bool) → is_fresh_row (cond b (Some (f x)) (find (starts_at job) xs)) ≡ is_fresh_row (cond b (Some x) (find (starts_at job) xs))
    inner true = ap is_none (r x)
    inner false = refl

    later : (b : Bool) → is_fresh (changed_first p f xs) job ≡ is_fresh xs job →
        is_fresh_row (cond b (Some x) (find (starts_at job) (changed_first p f xs))) ≡ is_fresh_row (cond b (Some x) (find (starts_at job) xs))
    later true more = refl
    later false more = more

    go : (b : Bool) → is_fresh (changed_first p f xs) job ≡ is_fresh xs job → is_fresh (cond b (f x ∷ xs) (x ∷ changed_first p f xs)) job ≡ is_fresh (x ∷ xs) job
    go true more = ap (λ (n : ℕ). is_fresh_row (cond (nat_eq n job) (Some (f x)) (find (starts_at job) xs))) (s x) ∙ inner (nat_eq x.start job)
    go false more = later (nat_eq x.start job) more

by : {A : Type 0} (b : Bool) (g : JobRow → A) (x y : JobRow) → g x ≡ g y → g (cond b x y) ≡ g y
by true g x y e = e
by false g x y e = refl

pub restored_own : (job at : ℕ) (jobs jobs' : List JobRow) (pairs : List (ℕ × ℕ)) → FreshOwn jobs pairs → jobs' ≡ changed_first (starts_at job) (row_restored_at job at) jobs → FreshOwn jobs' pairs
restored_own job at jobs jobs' pairs own e other f =
    own other
    (sym (fresh_changed (starts_at job) (row_restored_at job at) (λ row. by (nat_eq row.start job) (λ r. r.start) (record row { restored = Some at }) row refl)
    (λ row. by (nat_eq row.start job) (λ r. r.last) (record row { restored = Some at }) row refl) jobs other)
    ∙ ap (λ (l : List JobRow). is_fresh l other) (sym e) ∙ f)

pub purged_own : (job : ℕ) (jobs jobs' : List JobRow) (pairs : List (ℕ × ℕ)) → FreshOwn jobs pairs → jobs' ≡ changed_first (starts_at job) (purged_if job) jobs → FreshOwn jobs' pairs
purged_own job jobs jobs' pairs own e other f =
    own other
    (sym (fresh_changed (starts_at job) (purged_if job) (λ row. by (nat_eq row.start job) (λ r. r.start) (record row { purged = true }) row refl)
    (λ row. by (nat_eq row.start job) (λ r. r.last) (record row { purged = true }) row refl) jobs other)
    ∙ ap (λ (l : List JobRow). is_fresh l other) (sym e) ∙ f)

-- a job that erases is fresh no more, and the others are as they were
fresh_erased : (job moment : ℕ) (rows : List JobRow) (other : ℕ) → is_fresh (changed_first (starts_at job) (erased_at job moment) rows) other ≡ true → (is_fresh rows other ≡ true) × (nat_eq job other ≡ false)
fresh_erased job moment [] other f = absurd (cc f)
fresh_erased job moment (x ∷ xs) other f = go (nat_eq x.start job) refl (nat_eq x.start other) refl f (fresh_erased job moment xs other)
  where
    go : (b : Bool) → nat_eq x.start job ≡ b → (d : Bool) → nat_eq x.start other ≡ d →
        is_fresh (cond b (cond b (record x { last = Some moment }) x ∷ xs) (x ∷ changed_first (starts_at job) (erased_at job moment) xs)) other ≡ true →
        (is_fresh (changed_first (starts_at job) (erased_at job moment) xs) other ≡ true → (is_fresh xs other ≡ true) × (nat_eq job other ≡ false)) →
        (is_fresh_row (cond d (Some x) (find (starts_at other) xs)) ≡ true) × (nat_eq job other ≡ false)
    go true h true k g more = absurd (let z : is_fresh_row (cond true (Some (record x { last = Some moment })) (find (starts_at other) xs)) ≡ true =
        ap (λ (c : Bool). is_fresh_row (cond c (Some (record x { last = Some moment })) (find (starts_at other) xs))) (sym k) ∙ g in cc z)
    go true h false k g more = (
      ap (λ (c : Bool). is_fresh_row (cond c (Some (record x { last = Some moment })) (find (starts_at other) xs))) (sym k) ∙ g,
      grind (arith, nat_tests, h, k),
    )
    go false h true k g more = (
      ap (λ (c : Bool). is_fresh_row (cond c (Some x) (find (starts_at other) (changed_first (starts_at job) (erased_at job moment) xs)))) (sym k) ∙ g,
      grind (arith, nat_tests, h, k),
    )
    go false h false k g more = more (ap (λ (c : Bool). is_fresh_row (cond c (Some x) (find (starts_at other) (changed_first (starts_at job) (erased_at job moment) xs)))) (sym k) ∙ g)

pub erased_own : (job moment : ℕ) (jobs jobs' : List JobRow) (pairs pairs' : List (ℕ × ℕ)) → FreshOwn jobs pairs → jobs' ≡ changed_first (starts_at job) (erased_at job moment) jobs →
    ((other : ℕ) → nat_eq job other ≡ false → owned_among pairs other ≡ owned_among pairs' other) → FreshOwn jobs' pairs'
erased_own job moment jobs jobs' pairs pairs' own e same other f =
    let was = fresh_erased job moment jobs other (ap (λ (l : List JobRow). is_fresh l other) (sym e) ∙ f) in
    let some = own other was.0 in
    let is = same other was.1 in
    omega (arith, some, is)

-- an object that goes was owned by the job that takes it
pub disowned_same : (pairs pairs' : List (ℕ × ℕ)) (id job : ℕ) → owner_among pairs id ≡ Some job → ((other : ℕ) → owned_among pairs' other + cond (is_job other (owner_among pairs id)) 1 0 ≡ owned_among pairs other) →
    (other : ℕ) → nat_eq job other ≡ false → owned_among pairs other ≡ owned_among pairs' other
disowned_same pairs pairs' id job o told other n =
    let was : ◌≡◌ {A = ℕ} (cond (is_job other (owner_among pairs id)) 1 0) 0 = ap (λ (v : Option ℕ). cond (is_job other v) 1 0) o ∙ ap (λ (b : Bool). cond b 1 0) n in
    let t = told other in
    omega (arith, t, was)
