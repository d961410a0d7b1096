-- The listed items of a job, each read below the one before.
use Rattle.std.proofs.Common.{◌≡◌, ℕ, zero, suc, ◌+◌, ◌<◌, Bool, true, false, cond, List, [], ◌∷◌, ◌++◌, length, take, flat_map, Option, Some, None, refl, sym, ap, ◌∙◌, arith, append_assoc, append-nil}
use Rattle.std.specs.Prelude.{slice_get}
use Rattle.delf_model.specs.declared.call.Cause.{Cause}
use Rattle.delf_model.specs.declared.call.Listed.{Listed}
use Rattle.delf_model.specs.declared.entry.Entry.{Entry}
use Rattle.delf_model.specs.declared.rows.Item.{Item}
use Rattle.delf_model.specs.RuleSet.{RuleSet}
use Rattle.delf_model.specs.State.{Logged, Handled}
use Rattle.delf_model.specs.Step.{after}
use Rattle.delf_model.specs.Report.{listed_from, listed_by, listed_with, is_of_job}
use Rattle.documents.proofs.Places.{take_past}
use Rattle.script_runner.proofs.Counts.{items_within}

-- the first of the listed items of a front, and what is left in front of it
pub record Head (job i below : ℕ) (xs : List Logged) (row : Listed) : Type 0 where
  pub at : ℕ
  pub item : row.item ≡ i + at
  pub within : at < below
  pub left : listed_from job i (take below xs) ≡ row ∷ listed_from job i (take at xs)

one_with : (i : ℕ) (it : Item) (cause : Option Cause) (row : Listed) → slice_get (listed_with i it cause) 0 ≡ Some row → (row.item ≡ i) × (listed_with i it cause ≡ row ∷ [])
one_with i it None row is = absurd (cc is)
one_with i it (Some cause) row is =
    let same : record { item = i; row = it; cause = cause } ≡ row = cc in
    (sym (ap (λ (r : Listed). r.item) same), ap (λ (r : Listed). r ∷ []) same)

one_by : (i : ℕ) (it : Item) (how : Option Handled) (row : Listed) → slice_get (listed_by i it how) 0 ≡ Some row → (row.item ≡ i) × (listed_by i it how ≡ row ∷ [])
one_by i it None row is = absurd (cc is)
one_by i it (Some how) row is = one_with i it how.cause row is

one_of : (b : Bool) (i : ℕ) (it : Item) (how : Option Handled) (row : Listed) → slice_get (cond b (listed_by i it how) []) 0 ≡ Some row →
    (row.item ≡ i) × (cond b (listed_by i it how) [] ≡ row ∷ [])
one_of true i it how row is = one_by i it how row is
one_of false i it how row is = absurd (cc is)

head_cons : (job i below : ℕ) (x : Logged) (xs : List Logged) (row : Listed) (front own : List Listed) → front ≡ listed_from job (i + 1) (take below xs) →
    own ≡ cond (is_of_job job x) (listed_by i x.item x.handled) [] → (slice_get front 0 ≡ Some row → Head job (i + 1) below xs row) →
    (slice_get own 0 ≡ Some row → (row.item ≡ i) × (own ≡ row ∷ [])) → slice_get (front ++ own) 0 ≡ Some row → Head job i (suc below) (x ∷ xs) row
head_cons job i below x xs row [] own front_is own_is above here is =
    let first = here is in
    record {
      at = 0;
      item = omega (arith, first.0);
      within = omega arith;
      left = ap (λ (l : List Listed). l ++ cond (is_of_job job x) (listed_by i x.item x.handled) []) (sym front_is) ∙ sym own_is ∙ first.1;
    }
head_cons job i below x xs row (y ∷ ys) own front_is own_is above here is =
    let head = above is in
    record {
      at = suc head.at;
      item = omega (arith, head.item);
      within = omega (arith, head.within);
      left = ap (λ (l : List Listed). l ++ cond (is_of_job job x) (listed_by i x.item x.handled) []) head.left;
    }

head_of : (job i below : ℕ) (xs : List Logged) (row : Listed) → slice_get (listed_from job i (take below xs)) 0 ≡ Some row → Head job i below xs row
head_of job i zero xs row is = absurd (cc is)
head_of job i (suc below) [] row is = absurd (cc is)
head_of job i (suc below) (x ∷ xs) row is =
    head_cons job i below x xs row (listed_from job (i + 1) (take below xs)) (cond (is_of_job job x) (listed_by i x.item x.handled) []) refl refl
    (head_of job (i + 1) below xs row) (one_of (is_of_job job x) i x.item x.handled row) is

-- lines of what is left, behind a text

pub lines_none : (f : Listed → List ℕ) (rules : RuleSet) (h : List Entry) (job n : ℕ) → n ≡ length h →
    [] ++ flat_map f (listed_from job 0 (take n (after rules h).items)) ≡ flat_map f (listed_from job 0 (after rules h).items)
lines_none f rules h job n is =
    let few = items_within rules h in
    ap (λ (xs : List Logged). flat_map f (listed_from job 0 xs)) (take_past (after rules h).items n (omega arith))

pub lines_left : (f : Listed → List ℕ) (job below : ℕ) (xs : List Logged) (row : Listed) (before after line all : List ℕ) →
    Some row ≡ slice_get (listed_from job 0 (take below xs)) 0 → before ++ flat_map f (listed_from job 0 (take below xs)) ≡ all → line ≡ f row → after ≡ before ++ line →
    after ++ flat_map f (listed_from job 0 (take row.item xs)) ≡ all
lines_left f job below xs row before after line all found so_far said grown =
    let head = head_of job 0 below xs row (sym found) in
    let rest : List ℕ = flat_map f (listed_from job 0 (take head.at xs)) in
    ap (λ (n : ℕ). after ++ flat_map f (listed_from job 0 (take n xs))) (omega (arith, head.item))
    ∙ ap (λ (t : List ℕ). t ++ rest) (grown ∙ ap (λ (t : List ℕ). before ++ t) said) ∙ append_assoc before (f row) rest
    ∙ ap (λ (l : List Listed). before ++ flat_map f l) (sym head.left) ∙ so_far

pub item_below : (job below : ℕ) (xs : List Logged) (row : Listed) → Some row ≡ slice_get (listed_from job 0 (take below xs)) 0 → row.item < below
item_below job below xs row found = let head = head_of job 0 below xs row (sym found) in omega (arith, head.item, head.within)

no_head : (xs : List Listed) → None ≡ slice_get xs 0 → xs ≡ []
no_head [] is = refl
no_head (x ∷ xs) is = absurd (cc is)

pub lines_ended : (f : Listed → List ℕ) (left : List Listed) (text all : List ℕ) → None ≡ slice_get left 0 → text ++ flat_map f left ≡ all → text ≡ all
lines_ended f left text all none so_far = sym (append-nil text) ∙ ap (λ (l : List Listed). text ++ flat_map f l) (sym (no_head left none)) ∙ so_far

pub lines_at_end : (f : Listed → List ℕ) (job below : ℕ) (xs : List Logged) (text all : List ℕ) → below ≡ 0 → text ++ flat_map f (listed_from job 0 (take below xs)) ≡ all → text ≡ all
lines_at_end f job below xs text all none so_far =
    sym (append-nil text) ∙ ap (λ (n : ℕ). text ++ flat_map f (listed_from job 0 (take n xs))) (sym none) ∙ so_far
