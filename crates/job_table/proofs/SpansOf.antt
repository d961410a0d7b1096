-- The stretch of items of a job after one item more, and after one is handled.
use Rattle.std.proofs.Common.{◌≡◌, ℕ, zero, suc, ◌+◌, ◌-◌, ◌<◌, ◌≤◌, Bool, true, false, cond, ◌&&◌, List, [], ◌∷◌, ◌++◌, length, Option, Some, refl, sym, ap, ◌∙◌, subst, arith, ◌⊎◌, inl, inr}
use Rattle.std.specs.Prelude.{nat_eq, nat_lt, slice_get, is_none, unwrap_or}
use Rattle.std.proofs.lemmas.Bool.Decides.{nat_tests}
use Rattle.delf_model.specs.State.{Logged, Handled, job_of}
use Rattle.delf_model.specs.Step.{handled_at}
use Rattle.job_table.specs.declared.spans.Span.{Span}
use Rattle.job_table.specs.Items.{is_unhandled_of}
use Rattle.job_table.specs.Spans.{no_span, grown_span, InSpan, Spans, Within, SpansFit}
use Rattle.job_table.proofs.Tallying.{handled_length}

-- an element of a list with one more, and with one handled

pushed_at : (xs : List Logged) (y : Logged) (k : ℕ) (x : Logged) → slice_get (xs ++ y ∷ []) k ≡ Some x → ((slice_get xs k ≡ Some x) × (k < length xs)) ⊎ ((k ≡ length xs) × (y ≡ x))
pushed_at [] y zero x e = inr (refl, cc e)
pushed_at [] y (suc k) x e = absurd (cc e)
pushed_at (z ∷ zs) y zero x e = inl (e, omega arith)
pushed_at (z ∷ zs) y (suc k) x e = go (pushed_at zs y k x e)
  where
    go : ((slice_get zs k ≡ Some x) × (k < length zs)) ⊎ ((k ≡ length zs) × (y ≡ x)) → ((slice_get zs k ≡ Some x) × (suc k < length (z ∷ zs))) ⊎ ((suc k ≡ length (z ∷ zs)) × (y ≡ x))
    go (inl h) = let l = h.1 in inl (h.0, omega (arith, l))
    go (inr h) = let l = h.0 in inr (omega (arith, l), h.1)

handled_get : (xs : List Logged) (i : ℕ) (how : Handled) (k : ℕ) (x : Logged) → slice_get (handled_at xs i how) k ≡ Some x →
    (slice_get xs k ≡ Some x × (k ≡ i → ⊥)) ⊎ ((k ≡ i) × ((old : Logged) × (slice_get xs k ≡ Some old) × (old.item ≡ x.item) × (is_none x.handled ≡ false)))
handled_get [] i how k x e = absurd (cc e)
handled_get (z ∷ zs) zero how zero x e =
    let same : record { item = z.item; handled = Some how } ≡ x = cc e in
    inr (refl, (z, refl, ap (λ (y : Logged). y.item) same, ap (λ (y : Logged). is_none y.handled) (sym same)))
handled_get (z ∷ zs) zero how (suc k) x e = inl (e, λ h. cc h)
handled_get (z ∷ zs) (suc i) how zero x e = inl (e, λ h. cc h)
handled_get (z ∷ zs) (suc i) how (suc k) x e = go (handled_get zs i how k x e)
  where
    go : (slice_get zs k ≡ Some x × (k ≡ i → ⊥)) ⊎ ((k ≡ i) × ((old : Logged) × (slice_get zs k ≡ Some old) × (old.item ≡ x.item) × (is_none x.handled ≡ false))) →
        (slice_get zs k ≡ Some x × (suc k ≡ suc i → ⊥)) ⊎ ((suc k ≡ suc i) × ((old : Logged) × (slice_get zs k ≡ Some old) × (old.item ≡ x.item) × (is_none x.handled ≡ false)))
    go (inl h) = inl (h.0, λ e. h.1 (omega (arith, e)))
    go (inr h) = inr (ap suc h.0, h.1)

grown : (xs : List Logged) (y : Logged) → length (xs ++ y ∷ []) ≡ length xs + 1
grown [] y = refl
grown (x ∷ xs) y = let more = grown xs y in omega (arith, more)

-- the spans with one item more

pushed_span : (xs : List Logged) (y : Logged) (job : ℕ) (span : Span) → Spans xs job span → Within xs span → Spans (xs ++ y ∷ []) job (grown_span (length xs) span)
pushed_span xs y job span old within k x e j = by (pushed_at xs y k x e)
  where
    first_is : (b : Bool) → nat_eq span.end 0 ≡ b → (m : ℕ) → m < span.end → span.first ≤ m → cond b (length xs) span.first ≤ m
    first_is true h m l f = absurd (let z : span.end ≡ 0 = grind (arith, nat_tests, h) in omega (arith, z, l))
    first_is false h m l f = f

    first_last : (b : Bool) → cond b (length xs) span.first ≤ length xs
    first_last true = omega arith
    first_last false = within.first

    by : ((slice_get xs k ≡ Some x) × (k < length xs)) ⊎ ((k ≡ length xs) × (y ≡ x)) → InSpan (grown_span (length xs) span) k x
    by (inl h) =
        let was = old k x h.0 j in let short = h.1 in
        record { first = first_is (nat_eq span.end 0) refl k was.end was.first; end = omega (arith, short); left = λ n. omega (arith, short) }
    by (inr h) =
        let at = h.0 in let f = first_last (nat_eq span.end 0) in
        record { first = subst (λ (m : ℕ). cond (nat_eq span.end 0) (length xs) span.first ≤ m) (sym at) f; end = omega (arith, at); left = λ n. omega (arith, at) }

other_span : (xs : List Logged) (y : Logged) (job : ℕ) (span : Span) → (job_of y.item ≡ job → ⊥) → Spans xs job span → Spans (xs ++ y ∷ []) job span
other_span xs y job span n old k x e j = by (pushed_at xs y k x e)
  where
    by : ((slice_get xs k ≡ Some x) × (k < length xs)) ⊎ ((k ≡ length xs) × (y ≡ x)) → InSpan span k x
    by (inl h) = old k x h.0 j
    by (inr h) = absurd (n (ap (λ (z : Logged). job_of z.item) h.1 ∙ j))

pub pushed_spans : (xs after : List Logged) (y : Logged) (span_at span_at' : ℕ → Option Span) (room room' spare job n : ℕ) (span : Span) → SpansFit xs span_at room spare → after ≡ xs ++ y ∷ [] → job ≡ job_of y.item →
    n ≡ length xs → span ≡ grown_span n (unwrap_or (span_at job) no_span) → ((other : ℕ) → span_at' other ≡ cond (nat_eq job other) (Some span) (span_at other)) → room ≤ room' + 1 → 0 < spare → SpansFit after span_at' room' (spare - 1)
pushed_spans xs after y span_at span_at' room room' spare job n span fit a j l is up r some = record {
  spans = λ other. subst (λ (o : Option Span). Spans after other (unwrap_or o no_span)) (sym (up other)) (subst (λ (v : List Logged). Spans v other (unwrap_or (cond (nat_eq job other) (Some span) (span_at other)) no_span)) (sym a) (spans other (nat_eq job other) refl));
  within = λ other. subst (λ (o : Option Span). Within after (unwrap_or o no_span)) (sym (up other)) (within other (nat_eq job other) refl);
  spans_spare = omega (arith, fit.spans_spare, r, some);
}
  where
    longer : length after ≡ length xs + 1
    longer = ap (λ (v : List Logged). length v) a ∙ grown xs y

    here : span ≡ grown_span (length xs) (unwrap_or (span_at job) no_span)
    here = is ∙ ap (λ (m : ℕ). grown_span m (unwrap_or (span_at job) no_span)) l

    spans : (other : ℕ) (b : Bool) → nat_eq job other ≡ b → Spans (xs ++ y ∷ []) other (unwrap_or (cond b (Some span) (span_at other)) no_span)
    spans other true h =
        let same : job ≡ other = grind (arith, nat_tests, h) in
        subst (λ (v : Span). Spans (xs ++ y ∷ []) other v) (sym here)
        (subst (λ (m : ℕ). Spans (xs ++ y ∷ []) m (grown_span (length xs) (unwrap_or (span_at job) no_span))) same (pushed_span xs y job (unwrap_or (span_at job) no_span) (fit.spans job) (fit.within job)))
    spans other false h = other_span xs y other (unwrap_or (span_at other) no_span) (λ e. let same : job ≡ other = j ∙ e in absurd (grind (arith, nat_tests, h, same))) (fit.spans other)

    within : (other : ℕ) (b : Bool) → nat_eq job other ≡ b → Within after (unwrap_or (cond b (Some span) (span_at other)) no_span)
    within other true h =
        let w = fit.within job in
        let len = longer in
        subst (λ (v : Span). Within after v) (sym here) (record { first = first_is (nat_eq (unwrap_or (span_at job) no_span).end 0) (let f = w.first in omega (arith, f, len)); end = omega (arith, len); left = omega (arith, len) })
      where
        first_is : (b : Bool) → (unwrap_or (span_at job) no_span).first ≤ length after → cond b (length xs) (unwrap_or (span_at job) no_span).first ≤ length after
        first_is true f = let len = longer in omega (arith, len)
        first_is false f = f
    within other false h = let w = fit.within other in let len = longer in let f = w.first in let e = w.end in let o = w.left in
        record { first = omega (arith, f, len); end = omega (arith, e, len); left = omega (arith, o, len) }

-- the spans with an item handled

-- the span where nothing is left from the handled item on, if it was the last one left
abbrev handled_span : ℕ → Span → Span
handled_span i span = record { first = span.first; end = span.end; left = cond (nat_eq (i + 1) span.left) i span.left }

handled_in_span : (xs : List Logged) (i job : ℕ) (how : Handled) (span : Span) → Spans xs job span → Spans (handled_at xs i how) job (handled_span i span)
handled_in_span xs i job how span old k x e j = by (handled_get xs i how k x e)
  where
    lower : (b : Bool) → nat_eq (i + 1) span.left ≡ b → (k ≡ i → ⊥) → k < span.left → k < cond b i span.left
    lower true h n l = let at : i + 1 ≡ span.left = grind (arith, nat_tests, h) in below (nat_lt k i) refl at
      where
        below : (b : Bool) → nat_lt k i ≡ b → i + 1 ≡ span.left → k < i
        below true g at = grind (arith, nat_tests, g)
        below false g at = absurd (let same : k ≡ i = grind (arith, nat_tests, g, at, l) in n same)
    lower false h n l = l

    by : (slice_get xs k ≡ Some x × (k ≡ i → ⊥)) ⊎ ((k ≡ i) × ((o : Logged) × (slice_get xs k ≡ Some o) × (o.item ≡ x.item) × (is_none x.handled ≡ false))) → InSpan (handled_span i span) k x
    by (inl h) = let was = old k x h.0 j in record { first = was.first; end = was.end; left = λ n. lower (nat_eq (i + 1) span.left) refl h.1 (was.left n) }
    by (inr h) =
        let o = h.1.0 in let was = old k o h.1.1 (ap job_of h.1.2 ∙ j) in
        record { first = was.first; end = was.end; left = λ n. absurd (let f = h.1.3 in cc (f, n)) }

-- an item that was not the last one left
pub handled_inner : (xs : List Logged) (i job : ℕ) (how : Handled) (span : Span) → Spans xs job span → nat_eq (i + 1) span.left ≡ false → Spans (handled_at xs i how) job span
handled_inner xs i job how span old n =
    subst (λ (m : ℕ). Spans (handled_at xs i how) job (record { first = span.first; end = span.end; left = m })) (ap (λ (b : Bool). cond b i span.left) n) (handled_in_span xs i job how span old)

-- the last one left, where no unhandled one stands between it and this number
pub handled_last : (xs : List Logged) (i job low : ℕ) (how : Handled) (span : Span) → Spans xs job span → nat_eq (i + 1) span.left ≡ true →
    ((k : ℕ) (x : Logged) → slice_get xs k ≡ Some x → low ≤ k → k < i → is_unhandled_of job x ≡ false) → Spans (handled_at xs i how) job (record { first = span.first; end = span.end; left = low })
handled_last xs i job low how span old t none k x e j = by (handled_get xs i how k x e)
  where
    was : InSpan (handled_span i span) k x
    was = handled_in_span xs i job how span old k x e j

    short : is_none x.handled ≡ true → k < i
    short n = let l = was.left n in let is : cond (nat_eq (i + 1) span.left) i span.left ≡ i = ap (λ (b : Bool). cond b i span.left) t in omega (arith, l, is)

    here : is_none x.handled ≡ true → is_unhandled_of job x ≡ true
    here n = let own : nat_eq (job_of x.item) job ≡ true = grind (arith, nat_tests, j) in ap (λ (b : Bool). nat_eq (job_of x.item) job && b) n ∙ ap (λ (b : Bool). b && true) own

    by : (slice_get xs k ≡ Some x × (k ≡ i → ⊥)) ⊎ ((k ≡ i) × ((o : Logged) × (slice_get xs k ≡ Some o) × (o.item ≡ x.item) × (is_none x.handled ≡ false))) → InSpan (record { first = span.first; end = span.end; left = low }) k x
    by (inl h) = record { first = was.first; end = was.end; left = λ n. below n (nat_lt k low) refl }
      where
        below : is_none x.handled ≡ true → (b : Bool) → nat_lt k low ≡ b → k < low
        below n true g = grind (arith, nat_tests, g)
        below n false g = absurd (let up : low ≤ k = grind (arith, nat_tests, g) in let f = none k x h.0 up (short n) in let z = here n in cc (f, z))
    by (inr h) = record { first = was.first; end = was.end; left = λ n. absurd (let f = h.1.3 in cc (f, n)) }

same_in_span : (xs : List Logged) (i job : ℕ) (how : Handled) (span : Span) → Spans xs job span → Spans (handled_at xs i how) job span
same_in_span xs i job how span old k x e j = by (handled_get xs i how k x e)
  where
    by : (slice_get xs k ≡ Some x × (k ≡ i → ⊥)) ⊎ ((k ≡ i) × ((o : Logged) × (slice_get xs k ≡ Some o) × (o.item ≡ x.item) × (is_none x.handled ≡ false))) → InSpan span k x
    by (inl h) = old k x h.0 j
    by (inr h) =
        let o = h.1.0 in let was = old k o h.1.1 (ap job_of h.1.2 ∙ j) in
        record { first = was.first; end = was.end; left = λ n. absurd (let f = h.1.3 in cc (f, n)) }

pub handled_spans : (xs after : List Logged) (how : Handled) (span_at span_at' : ℕ → Option Span) (room room' spare job i : ℕ) (span : Span) → SpansFit xs span_at room spare → after ≡ handled_at xs i how → i < length xs →
    Spans (handled_at xs i how) job span → Within xs span → ((other : ℕ) → span_at' other ≡ cond (nat_eq job other) (Some span) (span_at other)) → room ≤ room' + 1 → 0 < spare → SpansFit after span_at' room' (spare - 1)
handled_spans xs after how span_at span_at' room room' spare job i span fit a short own over up r some = record {
  spans = λ other. subst (λ (o : Option Span). Spans after other (unwrap_or o no_span)) (sym (up other)) (subst (λ (v : List Logged). Spans v other (unwrap_or (cond (nat_eq job other) (Some span) (span_at other)) no_span)) (sym a) (spans other (nat_eq job other) refl));
  within = λ other. subst (λ (o : Option Span). Within after (unwrap_or o no_span)) (sym (up other)) (within other (nat_eq job other));
  spans_spare = omega (arith, fit.spans_spare, r, some);
}
  where
    len : length after ≡ length xs
    len = ap (λ (v : List Logged). length v) a ∙ handled_length xs i how

    spans : (other : ℕ) (b : Bool) → nat_eq job other ≡ b → Spans (handled_at xs i how) other (unwrap_or (cond b (Some span) (span_at other)) no_span)
    spans other true h =
        let same : job ≡ other = grind (arith, nat_tests, h) in
        subst (λ (m : ℕ). Spans (handled_at xs i how) m span) same own
    spans other false h = same_in_span xs i other how (unwrap_or (span_at other) no_span) (fit.spans other)

    within : (other : ℕ) (b : Bool) → Within after (unwrap_or (cond b (Some span) (span_at other)) no_span)
    within other true = let e = len in let f = over.first in let d = over.end in let o = over.left in
        record { first = omega (arith, e, f); end = omega (arith, e, d); left = omega (arith, e, o) }
    within other false = let w = fit.within other in let e = len in let f = w.first in let d = w.end in let o = w.left in
        record { first = omega (arith, e, f); end = omega (arith, e, d); left = omega (arith, e, o) }

-- the span that is kept for a job

pub kept_spans : (xs list : List Logged) (span_at : ℕ → Option Span) (room spare job : ℕ) (span : Span) → SpansFit xs span_at room spare → xs ≡ list → unwrap_or (span_at job) no_span ≡ span → Spans list job span
kept_spans xs list span_at room spare job span fit e is = subst (λ (v : Span). Spans list job v) is (subst (λ (l : List Logged). Spans l job (unwrap_or (span_at job) no_span)) e (fit.spans job))

pub span_over : (xs list : List Logged) (span_at : ℕ → Option Span) (room spare job : ℕ) (span : Span) → SpansFit xs span_at room spare → xs ≡ list → unwrap_or (span_at job) no_span ≡ span → Within list span
span_over xs list span_at room spare job span fit e is = subst (λ (v : Span). Within list v) is (subst (λ (l : List Logged). Within l (unwrap_or (span_at job) no_span)) e (fit.within job))

pub reserved_spans : (xs ys : List Logged) (span_at span_at' : ℕ → Option Span) (room room' spare spare' : ℕ) → SpansFit xs span_at room spare → ys ≡ xs → ((q : ℕ) → span_at' q ≡ span_at q) → spare' ≤ room' → SpansFit ys span_at' room' spare'
reserved_spans xs ys span_at span_at' room room' spare spare' fit e same r = record {
  spans = λ job. subst (λ (l : List Logged). Spans l job (unwrap_or (span_at' job) no_span)) (sym e) (subst (λ (o : Option Span). Spans xs job (unwrap_or o no_span)) (sym (same job)) (fit.spans job));
  within = λ job. subst (λ (l : List Logged). Within l (unwrap_or (span_at' job) no_span)) (sym e) (subst (λ (o : Option Span). Within xs (unwrap_or o no_span)) (sym (same job)) (fit.within job));
  spans_spare = r;
}
