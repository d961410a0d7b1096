-- Jobs go by rising start, so those that were started earlier are the first ones.
use Rattle.std.proofs.Common.{◌≡◌, ℕ, zero, suc, ◌+◌, ◌<◌, ◌≤◌, Bool, true, false, cond, eqb, ltb, List, [], ◌∷◌, length, Option, Some, None, refl, sym, ap, ◌∙◌, arith}
use Rattle.std.proofs.lemmas.Bool.{eqb-true, eq-eqb, false≢true, ltb-true, lt-ltb}
use Rattle.std.proofs.lemmas.Bool.Decides.{nat_tests}
use Rattle.std.specs.Prelude.{slice_get}
use Rattle.delf_model.specs.declared.call.JobLine.{JobLine}
use Rattle.delf_model.specs.declared.entry.Entry.{Entry}
use Rattle.delf_model.specs.RuleSet.{RuleSet}
use Rattle.delf_model.specs.State.{State, JobRow, job_row}
use Rattle.delf_model.specs.Step.{after}
use Rattle.delf_model.specs.Legal.{Legal}
use Rattle.delf_model.specs.Report.{job_line, line_of_row}
use Rattle.order_laws.proofs.Ordered.{StartsAbove, StartsRising, ordered_after}
use Rattle.script_runner.specs.Ages.{is_earlier}
use Rattle.script_runner.proofs.Counts.{jobs_within}

-- the earlier ones stand in front

earlier_above : (low job : ℕ) (rows : List JobRow) (j : ℕ) → StartsAbove low rows → is_earlier job (slice_get rows j) ≡ true → low < job
earlier_above low job [] j above is = absurd (cc is)
earlier_above low job (x ∷ xs) zero above is = let less : x.start < job = ltb-true x.start job is in omega (arith, above.0)
earlier_above low job (x ∷ xs) (suc j) above is = earlier_above low job xs j above.1 is

parted : (len job : ℕ) (rows : List JobRow) (i j : ℕ) → StartsRising len rows → i ≤ j → is_earlier job (slice_get rows j) ≡ true → is_earlier job (slice_get rows i) ≡ true
parted len job [] i j rises less is = absurd (cc is)
parted len job (x ∷ xs) zero zero rises less is = is
parted len job (x ∷ xs) zero (suc j) rises less is = lt-ltb x.start job (earlier_above x.start job xs j rises.1 is)
parted len job (x ∷ xs) (suc i) zero rises less is = absurd (omega arith)
parted len job (x ∷ xs) (suc i) (suc j) rises less is = parted len job xs i j rises.2 (omega arith) is

none_past : (rows : List JobRow) (k : ℕ) → length rows ≤ k → slice_get rows k ≡ None
none_past [] k past = refl
none_past (x ∷ xs) zero past = absurd (omega arith)
none_past (x ∷ xs) (suc k) past = none_past xs k (omega arith)

not_earlier : (b : Bool) → (b ≡ true → ⊥) → b ≡ false
not_earlier true not = absurd (not refl)
not_earlier false not = refl

-- halving

module _ (rules : RuleSet) (h : List Entry) (legal : Legal rules h) (job : ℕ) where
  abbrev rows : List JobRow
  rows = (after rules h).jobs

  rises : StartsRising (after rules h).len rows
  rises = (ordered_after rules h legal).starts

  pub earlier_to : (middle : ℕ) → is_earlier job (slice_get rows middle) ≡ true → (k : ℕ) → k < middle + 1 → is_earlier job (slice_get rows k) ≡ true
  earlier_to middle is k less = parted (after rules h).len job rows k middle rises (omega arith) is

  pub later_from : (middle : ℕ) → is_earlier job (slice_get rows middle) ≡ false → (k : ℕ) → middle ≤ k → is_earlier job (slice_get rows k) ≡ false
  later_from middle is k more =
      not_earlier (is_earlier job (slice_get rows k)) (λ early. false≢true (sym is ∙ parted (after rules h).len job rows middle k rises more early))

  pub later_past : (n : ℕ) → n ≡ length h → (k : ℕ) → n ≤ k → is_earlier job (slice_get rows k) ≡ false
  later_past n is k more = let few = jobs_within rules h in ap (is_earlier job) (none_past rows k (omega arith))

-- the line at a place

pub line_earlier : (s : State) (job : ℕ) (o : Option JobRow) (line : JobLine) → Some line ≡ line_of_row s o → ltb line.job job ≡ is_earlier job o
line_earlier s job None line is = absurd (cc is)
line_earlier s job (Some row) line is = let same : line ≡ job_line s row = cc in ap (λ (l : JobLine). ltb l.job job) same

pub no_line_earlier : (s : State) (job : ℕ) (o : Option JobRow) → None ≡ line_of_row s o → false ≡ is_earlier job o
no_line_earlier s job None is = refl
no_line_earlier s job (Some row) is = absurd (cc is)

-- the job that was started there, and none

nowhere : (job : ℕ) (rows : List JobRow) → ((k : ℕ) (row : JobRow) → slice_get rows k ≡ Some row → row.start ≡ job → ⊥) → job_row rows job ≡ None
nowhere job [] other = refl
nowhere job (x ∷ xs) other = by_hit (eqb x.start job) refl (nowhere job xs (λ k. other (suc k)))
  where
    by_hit : (b : Bool) → eqb x.start job ≡ b → job_row xs job ≡ None → cond b (Some x) (job_row xs job) ≡ None
    by_hit true is rest = absurd (other zero x refl (eqb-true x.start job is))
    by_hit false is rest = rest

found_at : (job : ℕ) (rows : List JobRow) (i : ℕ) (row : JobRow) → ((k : ℕ) → k < i → is_earlier job (slice_get rows k) ≡ true) → slice_get rows i ≡ Some row → row.start ≡ job →
    job_row rows job ≡ Some row
found_at job [] i row before is here = absurd (cc is)
found_at job (x ∷ xs) zero row before is here =
    let same : x ≡ row = cc in
    ap (λ (b : Bool). cond b (Some x) (job_row xs job)) (eq-eqb x.start job (ap (λ (r : JobRow). r.start) same ∙ here)) ∙ is
found_at job (x ∷ xs) (suc i) row before is here =
    by_hit (eqb x.start job) refl (ltb-true x.start job (before zero (omega arith))) (found_at job xs i row (λ k less. before (suc k) (omega arith)) is here)
  where
    by_hit : (b : Bool) → eqb x.start job ≡ b → x.start < job → job_row xs job ≡ Some row → cond b (Some x) (job_row xs job) ≡ Some row
    by_hit true hit less rest = let same : x.start ≡ job = eqb-true x.start job hit in absurd (omega arith)
    by_hit false hit less rest = rest

absent : (len job place : ℕ) (rows : List JobRow) → StartsRising len rows → ((k : ℕ) → k < place → is_earlier job (slice_get rows k) ≡ true) →
    is_earlier (job + 1) (slice_get rows place) ≡ false → job_row rows job ≡ None
absent len job place rows rises before later = nowhere job rows (λ k row is here. by_place k row is here (ltb k place) refl)
  where
    by_place : (k : ℕ) (row : JobRow) → slice_get rows k ≡ Some row → row.start ≡ job → (b : Bool) → ltb k place ≡ b → ⊥
    by_place k row is here true less =
        let early : ltb row.start job ≡ true = sym (ap (is_earlier job) is) ∙ before k (ltb-true k place less) in
        let below : row.start < job = ltb-true row.start job early in absurd (omega arith)
    by_place k row is here false less =
        let past : place ≤ k = grind (arith, nat_tests) in
        let met : ltb row.start (job + 1) ≡ true = lt-ltb row.start (job + 1) (omega arith) in
        false≢true (sym later ∙ parted len (job + 1) rows place k rises past (ap (is_earlier (job + 1)) is ∙ met))

module _ (rules : RuleSet) (h : List Entry) (legal : Legal rules h) (job place : ℕ)
    (before : (k : ℕ) → k < place → is_earlier job (slice_get (after rules h).jobs k) ≡ true)
    (behind : (k : ℕ) → place ≤ k → is_earlier job (slice_get (after rules h).jobs k) ≡ false) where
  abbrev s : State
  s = after rules h

  none : is_earlier (job + 1) (slice_get s.jobs place) ≡ false → None ≡ line_of_row s (job_row s.jobs job)
  none later = ap (line_of_row s) (sym (absent s.len job place s.jobs (ordered_after rules h legal).starts before later))

  pub line_absent : None ≡ line_of_row s (slice_get s.jobs place) → None ≡ line_of_row s (job_row s.jobs job)
  line_absent is = none (sym (no_line_earlier s (job + 1) (slice_get s.jobs place) is))

  pub line_met : (line : JobLine) → Some line ≡ line_of_row s (slice_get s.jobs place) → line.job ≡ job → Some line ≡ line_of_row s (job_row s.jobs job)
  line_met line is here = by_row (slice_get s.jobs place) refl is
    where
      by_row : (o : Option JobRow) → slice_get s.jobs place ≡ o → Some line ≡ line_of_row s o → Some line ≡ line_of_row s (job_row s.jobs job)
      by_row None at told = absurd (cc told)
      by_row (Some row) at told =
          let same : line ≡ job_line s row = cc in
          let start : row.start ≡ job = sym (ap (λ (l : JobLine). l.job) same) ∙ here in
          told ∙ ap (line_of_row s) (sym (found_at job s.jobs place row before at start))

  pub line_other : (line : JobLine) → Some line ≡ line_of_row s (slice_get s.jobs place) → (line.job ≡ job → ⊥) → None ≡ line_of_row s (job_row s.jobs job)
  line_other line is other = none (by_order (is_earlier (job + 1) (slice_get s.jobs place)) refl)
    where
      by_order : (b : Bool) → is_earlier (job + 1) (slice_get s.jobs place) ≡ b → b ≡ false
      by_order false e = refl
      by_order true e =
          let below : line.job < job + 1 = ltb-true line.job (job + 1) (line_earlier s (job + 1) (slice_get s.jobs place) line is ∙ e) in
          let late : ltb line.job job ≡ false = line_earlier s job (slice_get s.jobs place) line is ∙ behind place (omega arith) in
          let same : line.job ≡ job = grind (arith, nat_tests) in absurd (other same)
