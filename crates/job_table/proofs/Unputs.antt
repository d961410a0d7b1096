-- The least number of an item of a job that was not put back.
use Rattle.std.proofs.Common.{◌≡◌, ℕ, zero, suc, ◌+◌, ◌<◌, ◌≤◌, max, Bool, true, false, cond, not, ◌&&◌, ◌-◌, List, [], ◌∷◌, drop, Some, None, refl, sym, ap, ◌∙◌, subst, arith}
use Rattle.std.specs.Prelude.{nat_lt, slice_get, count_by}
use Rattle.std.proofs.lemmas.Bool.Decides.{nat_tests}
use Rattle.std.proofs.lemmas.List.Sums.{sum_by-cons}
use Rattle.delf_model.specs.State.{Logged}
use Rattle.delf_model.specs.Report.{is_of_job, is_put_of, was_put}
use Rattle.job_table.specs.declared.spans.Span.{Span}
use Rattle.job_table.specs.Spans.{Spans}
use Rattle.job_table.specs.Unput.{is_unput, next_unput}
use Rattle.job_table.proofs.SpanWalks.{FailsFrom, FailsBefore, others_from, others_before}

-- each element from this number on, and before that one, fails
abbrev pub FailsBetween : (Logged → Bool) → List Logged → ℕ → ℕ → Type 0
FailsBetween p xs m n = (k : ℕ) (x : Logged) → slice_get xs k ≡ Some x → m ≤ k → k < n → p x ≡ false

pub between_more : (p : Logged → Bool) (xs : List Logged) (m i : ℕ) (x : Logged) → FailsBetween p xs m i → slice_get xs i ≡ Some x → p x ≡ false → FailsBetween p xs m (i + 1)
between_more p xs m i x f e n k y g low l = go (nat_lt k i) refl
  where
    go : (b : Bool) → nat_lt k i ≡ b → p y ≡ false
    go true h = f k y g low (grind (arith, nat_tests, h))
    go false h =
        let same : k ≡ i = grind (arith, nat_tests, h, l) in
        let here : Some y ≡ Some x = sym g ∙ ap (slice_get xs) same ∙ e in
        let is : y ≡ x = cc here in ap p is ∙ n

between_all : (p : Logged → Bool) (xs : List Logged) (m i n : ℕ) → FailsBetween p xs m i → FailsFrom p xs n → n ≤ i → FailsFrom p xs m
between_all p xs m i n between from l k x e low = go (nat_lt k i) refl
  where
    go : (b : Bool) → nat_lt k i ≡ b → p x ≡ false
    go true h = between k x e low (grind (arith, nat_tests, h))
    go false h = from k x e (grind (arith, nat_tests, h, l))

-- the first element of a list that passes

first_here : (job n : ℕ) (xs : List Logged) (i : ℕ) (x : Logged) → slice_get xs i ≡ Some x → is_unput job x ≡ true → FailsBefore (is_unput job) xs i → next_unput job n xs ≡ Some (n + i)
first_here job n [] i x e t f = absurd (cc e)
first_here job n (y ∷ ys) zero x e t f =
    let same : y ≡ x = cc e in
    let at : n ≡ n + 0 = omega arith in
    ap (λ (b : Bool). cond b (Some n) (next_unput job (n + 1) ys)) (ap (is_unput job) same ∙ t) ∙ ap (λ (m : ℕ). Some m) at
first_here job n (y ∷ ys) (suc i) x e t f =
    let at : (n + 1) + i ≡ n + suc i = omega arith in
    ap (λ (b : Bool). cond b (Some n) (next_unput job (n + 1) ys)) (f zero y refl (omega arith))
    ∙ first_here job (n + 1) ys i x e t (λ k z g l. f (suc k) z g (omega (arith, l))) ∙ ap (λ (m : ℕ). Some m) at

none_here : (job n : ℕ) (xs : List Logged) → ((k : ℕ) (x : Logged) → slice_get xs k ≡ Some x → is_unput job x ≡ false) → next_unput job n xs ≡ None
none_here job n [] f = refl
none_here job n (y ∷ ys) f =
    ap (λ (b : Bool). cond b (Some n) (next_unput job (n + 1) ys)) (f zero y refl) ∙ none_here job (n + 1) ys (λ k z g. f (suc k) z g)

dropped_get : (n : ℕ) (xs : List Logged) (k : ℕ) → slice_get (drop n xs) k ≡ slice_get xs (n + k)
dropped_get zero xs k = let at : k ≡ 0 + k = omega arith in ap (slice_get xs) at
dropped_get (suc n) [] k = let at : suc (n + k) ≡ suc n + k = omega arith in ap (slice_get {X = Logged} []) at
dropped_get (suc n) (x ∷ xs) k = let at : suc (n + k) ≡ suc n + k = omega arith in dropped_get n xs k ∙ ap (slice_get (x ∷ xs)) at

pub next_found : (job from : ℕ) (xs : List Logged) (i : ℕ) (x : Logged) → from ≤ i → slice_get xs i ≡ Some x → is_unput job x ≡ true → FailsBetween (is_unput job) xs from i → Some i ≡ next_unput job from (drop from xs)
next_found job from xs i x low e t f = go i low e f
  where
    split : (d : ℕ) → slice_get xs (from + d) ≡ Some x → FailsBetween (is_unput job) xs from (from + d) → Some (from + d) ≡ next_unput job from (drop from xs)
    split d at fails =
        sym (first_here job from (drop from xs) d x (dropped_get from xs d ∙ at) t (λ k y g l. fails (from + k) y (sym (dropped_get from xs k) ∙ g) (omega arith) (omega (arith, l))))

    go : (j : ℕ) → from ≤ j → slice_get xs j ≡ Some x → FailsBetween (is_unput job) xs from j → Some j ≡ next_unput job from (drop from xs)
    go j l at fails =
        let is : from + (j - from) ≡ j = omega (arith, l) in
        subst (λ (m : ℕ). Some m ≡ next_unput job from (drop from xs)) is (split (j - from) (ap (slice_get xs) is ∙ at) (subst (FailsBetween (is_unput job) xs from) (sym is) fails))

next_none : (job from : ℕ) (xs : List Logged) → FailsFrom (is_unput job) xs from → None ≡ next_unput job from (drop from xs)
next_none job from xs f = sym (none_here job from (drop from xs) (λ k y g. f (from + k) y (sym (dropped_get from xs k) ∙ g) (omega arith)))

-- what a span says

of_another : (job : ℕ) (x : Logged) → is_of_job job x ≡ false → is_unput job x ≡ false
of_another job x h = ap (λ (b : Bool). b && not (was_put x.handled)) h

module _ (xs : List Logged) (job : ℕ) (span : Span) (spans : Spans xs job span) where
  pub unput_after : (from : ℕ) → FailsBetween (is_unput job) xs from (max from span.first)
  unput_after from k x e low l = of_another job x (others_before xs job span spans k x e (omega (arith, low, l)))

  pub unput_none : (from i : ℕ) → FailsBetween (is_unput job) xs from i → span.end ≤ i → None ≡ next_unput job from (drop from xs)
  unput_none from i f l =
      next_none job from xs (between_all (is_unput job) xs from i span.end f (λ k x e h. of_another job x (others_from xs job span spans k x e h)) l)

-- a job of which each item was put back

abbrev one_if : Bool → ℕ
one_if b = cond b 1 0

put_or_not : (job : ℕ) (xs : List Logged) → count_by (is_of_job job) xs ≡ count_by (is_put_of job) xs + count_by (is_unput job) xs
put_or_not job [] = refl
put_or_not job (x ∷ xs) =
    let a = sum_by-cons (λ (y : Logged). one_if (is_of_job job y)) x xs in
    let b = sum_by-cons (λ (y : Logged). one_if (is_put_of job y)) x xs in
    let d = sum_by-cons (λ (y : Logged). one_if (is_unput job y)) x xs in
    omega (arith, a, b, d, put_or_not job xs, one (is_of_job job x) (was_put x.handled))
  where
    one : (p q : Bool) → one_if p ≡ one_if (p && q) + one_if (p && not q)
    one true true = refl
    one true false = refl
    one false q = refl

uncounted : (p : Logged → Bool) (xs : List Logged) → count_by p xs ≡ 0 → (k : ℕ) (x : Logged) → slice_get xs k ≡ Some x → p x ≡ false
uncounted p [] none k x e = absurd (cc e)
uncounted p (y ∷ ys) none zero x e =
    let same : y ≡ x = cc e in
    ap p (sym same) ∙ fails (p y) (let parts = sum_by-cons (λ (z : Logged). one_if (p z)) y ys in omega (arith, parts, none))
  where
    fails : (b : Bool) → one_if b ≡ 0 → b ≡ false
    fails true h = absurd (omega (arith, h))
    fails false h = refl
uncounted p (y ∷ ys) none (suc k) x e =
    uncounted p ys (let parts = sum_by-cons (λ (z : Logged). one_if (p z)) y ys in omega (arith, parts, none)) k x e

pub all_put : (job from : ℕ) (xs : List Logged) (put all : ℕ) → put ≡ count_by (is_put_of job) xs → all ≡ count_by (is_of_job job) xs → put ≡ all → None ≡ next_unput job from (drop from xs)
all_put job from xs put all p a same =
    next_none job from xs (λ k x e low. uncounted (is_unput job) xs (omega (arith, p, a, same, put_or_not job xs)) k x e)
