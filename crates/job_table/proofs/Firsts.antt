-- The first job that a test finds among the kept rows.
use Rattle.std.proofs.Common.{◌≡◌, ℕ, zero, suc, ◌+◌, ◌<◌, Bool, true, false, cond, ◌&&◌, not, List, ◌∷◌, ◌++◌, [], map, length, get_or, Option, Some, None, is_some, refl, sym, ◌∙◌, ap, arith}
use Rattle.std.specs.Prelude.{nat_eq, nat_lt, find, option_map, slice_get, count_by, is_none}
use Rattle.std.specs.List.{position}
use Rattle.std.proofs.lemmas.List.Quantifiers.{position-Some}
use Rattle.delf_model.specs.declared.entry.What.TheVariants.{Cut, Erase, Purge}
use Rattle.delf_model.specs.State.{State, JobRow, Logged, owned, job_row, is_restored, is_restored_row, left, is_open_of, job_of}
use Rattle.std.specs.Option.{option_or}
use Rattle.delf_model.specs.State.{last_erasure_or_zero}
use Rattle.delf_model.specs.Order.{purges, last_place, first_purge, purge_of, cut_or_erase}
use Rattle.job_table.specs.declared.jobs.Row.{Row}
use Rattle.job_table.specs.Table.{Table, IsTableOf, Keeps, owned_among}
use Rattle.job_table.specs.Parts.{row_of}
use Rattle.job_table.specs.Items.{is_unhandled_of}
use Rattle.delf_model.specs.declared.rows.EdgeRow.{EdgeRow}
use Rattle.job_table.specs.Serial.{left_in, purges_in}
use Rattle.job_table.proofs.Steps.{eqb_is}
use Rattle.job_table.proofs.Places.{find_map, find_at_place, find_nowhere, position_none, less_tail}
use Rattle.job_table.proofs.Lefts.{left_restored, left_none, row_at_place}

-- the first job that a test over the kept rows finds is the first that the state's test finds

-- the kept row at a place is a job of the state
pub slice_map : (rows : List Row) (k : ℕ) (d : Row) → k < length rows → slice_get (map row_of rows) k ≡ Some (row_of (get_or rows k d))
slice_map [] k d l = absurd (omega arith)
slice_map (x ∷ xs) zero d l = refl
slice_map (x ∷ xs) (suc k) d l = slice_map xs k d (less_tail k x xs l)

-- a test that agrees on each kept row
abbrev pub Agrees : (Row → Bool) → (JobRow → Bool) → List Row → Type 0
Agrees p q rows = (k : ℕ) (d : Row) → k < length rows → q (row_of (get_or rows k d)) ≡ p (get_or rows k d)

pub found_job : (p : Row → Bool) (q : JobRow → Bool) (rows : List Row) (jobs : List JobRow) (i : ℕ) (got : Row) → map row_of rows ≡ jobs → Agrees p q rows →
    Some i ≡ position p rows → got ≡ get_or rows i got → find q jobs ≡ Some (row_of got)
found_job p q rows jobs i got e a f g =
    let facts = position-Some p rows i got (sym f) in
    ap (find q) (sym e) ∙ find_map row_of q rows
    ∙ ap (option_map row_of) (find_at_place (λ x. q (row_of x)) rows i got facts.0 (λ k h. let near : k < length rows = omega (arith, h, facts.0) in a k got near ∙ facts.2 k h) (a i got facts.0 ∙ facts.1))
    ∙ sym (ap (λ (r : Row). Some (row_of r)) g)

pub no_job_found : (p : Row → Bool) (q : JobRow → Bool) (rows : List Row) (jobs : List JobRow) → map row_of rows ≡ jobs → Agrees p q rows →
    None ≡ position p rows → find q jobs ≡ None
no_job_found p q rows jobs e a f =
    ap (find q) (sym e) ∙ find_map row_of q rows
    ∙ ap (option_map row_of) (find_nowhere (λ x. q (row_of x)) rows (λ k d l. a k d l ∙ position_none p rows f k d l))

-- what is left of a kept job

pub left_kept : (s : State) (items : List Logged) (rows : List Row) → Keeps s → map row_of rows ≡ s.jobs → items ≡ s.items → (k : ℕ) (d : Row) → k < length rows →
    left s (get_or rows k d).start ≡ left_in items (get_or rows k d)
left_kept s items rows keeps e f k d l = go (is_some row.restored) refl
  where
    row : Row
    row = get_or rows k d

    found : job_row s.jobs row.start ≡ Some (row_of row)
    found = row_at_place 0 s.len k (row_of row) s.jobs keeps.starts (ap (λ (j : List JobRow). slice_get j k) (sym e) ∙ slice_map rows k d l)

    go : (b : Bool) → is_some row.restored ≡ b → left s row.start ≡ cond b (count_by (is_unhandled_of row.start) items) 0
    go true h = left_restored s row.start (ap (λ (o : Option JobRow). is_restored_row o) found ∙ h) ∙ ap (count_by (is_unhandled_of row.start)) (sym f)
    go false h = left_none s row.start (ap (λ (o : Option JobRow). is_restored_row o) found ∙ h)

pub purges_kept : (s : State) (pairs : List (ℕ × ℕ)) (items : List Logged) (moment window : ℕ) (rows : List Row) → Keeps s → map row_of rows ≡ s.jobs → items ≡ s.items →
    ((job : ℕ) → owned_among pairs job ≡ owned s job) → window ≡ s.rules.window →
    Agrees (purges_in pairs items window moment) (purges s moment) rows
purges_kept s pairs items moment window rows keeps e f o w k d l =
    ap (λ (n : ℕ). test n (left s (get_or rows k d).start) s.rules.window) (sym (o (get_or rows k d).start))
    ∙ ap (λ (n : ℕ). test (owned_among pairs (get_or rows k d).start) n s.rules.window) (left_kept s items rows keeps e f k d l)
    ∙ ap (λ (n : ℕ). test (owned_among pairs (get_or rows k d).start) (left_in items (get_or rows k d)) n) (sym w)
  where
    test : ℕ → ℕ → ℕ → Bool
    test a b c = nat_eq a 0 && not (get_or rows k d).purged && nat_eq b 0 && nat_lt (last_erasure_or_zero (get_or rows k d).last + c) moment

-- the greatest unhandled item of a restored job

pub last_open : (s : State) (job i : ℕ) (xs : List Logged) → is_restored s.jobs job ≡ true →
    last_place (is_open_of job s.jobs) i xs ≡ last_place (is_unhandled_of job) i xs
last_open s job i [] r = refl
last_open s job i (x ∷ xs) r =
    ap (λ (o : Option ℕ). option_or o (cond (is_open_of job s.jobs x) (Some i) None)) (last_open s job (i + 1) xs r)
    ∙ ap (λ (b : Bool). option_or (last_place (is_unhandled_of job) (i + 1) xs) (cond b (Some i) None))
    (same (nat_eq (job_of x.item) job) (is_none x.handled) (is_restored s.jobs (job_of x.item)) (λ h. ap (is_restored s.jobs) (eqb_is (job_of x.item) job h) ∙ r))
  where
    same : (j h o : Bool) → (j ≡ true → o ≡ true) → (j && (h && o)) ≡ (j && h)
    same false h o e = refl
    same true false o e = refl
    same true true o e = e refl

-- the greatest place with one element more
pub last_push : (p : Logged → Bool) (i : ℕ) (xs : List Logged) (y : Logged) → last_place p i (xs ++ y ∷ []) ≡ cond (p y) (Some (i + length xs)) (last_place p i xs)
last_push p i [] y = let same : i ≡ i + 0 = omega arith in ap (λ (n : ℕ). cond (p y) (Some n) None) same
last_push p i (x ∷ xs) y =
    let same : (i + 1) + length xs ≡ i + length (x ∷ xs) = omega arith in
    ap (λ (o : Option ℕ). option_or o (cond (p x) (Some i) None)) (last_push p (i + 1) xs y ∙ ap (λ (n : ℕ). cond (p y) (Some n) (last_place p (i + 1) xs)) same)
    ∙ go (p y)
  where
    go : (b : Bool) → option_or (cond b (Some (i + length (x ∷ xs))) (last_place p (i + 1) xs)) (cond (p x) (Some i) None) ≡
        cond b (Some (i + length (x ∷ xs))) (option_or (last_place p (i + 1) xs) (cond (p x) (Some i) None))
    go true = refl
    go false = refl

-- the first steps, by what the kept rows say

module _ (s : State) (t : Table) (rows : List Row) (h : IsTableOf s t) (e : map row_of rows ≡ t.jobs) where
  kept : map row_of rows ≡ s.jobs
  kept = e ∙ h.jobs

  pub purge_found : (window moment i : ℕ) (got : Row) → window ≡ s.rules.window → Some i ≡ position (purges_in t.owners t.items window moment) rows → got ≡ get_or rows i got →
      Some (Purge got.start) ≡ first_purge s moment
  purge_found window moment i got w f g =
      ap purge_of (sym (found_job (purges_in t.owners t.items window moment) (purges s moment) rows s.jobs i got kept (purges_kept s t.owners t.items moment window rows h.keeps kept h.items h.owned w) f g))

  pub purge_missing : (window moment : ℕ) → window ≡ s.rules.window → None ≡ position (purges_in t.owners t.items window moment) rows → None ≡ first_purge s moment
  purge_missing window moment w f =
      ap purge_of (sym (no_job_found (purges_in t.owners t.items window moment) (purges s moment) rows s.jobs kept (purges_kept s t.owners t.items moment window rows h.keeps kept h.items h.owned w) f))

-- the first edges of an object

pub first_out : (job id : ℕ) (out entering : List EdgeRow) (row : EdgeRow) → Some row ≡ slice_get out 0 →
    Cut job row.key.edge row.key.from row.key.to ≡ cut_or_erase job id out entering
first_out job id [] entering row e = absurd (cc e)
first_out job id (x ∷ xs) entering row e = let same : row ≡ x = cc e in ap (λ (r : EdgeRow). Cut job r.key.edge r.key.from r.key.to) same

pub first_in : (job id : ℕ) (out entering : List EdgeRow) (row : EdgeRow) → None ≡ slice_get out 0 → Some row ≡ slice_get entering 0 →
    Cut job row.key.edge row.key.from row.key.to ≡ cut_or_erase job id out entering
first_in job id (x ∷ xs) entering row n e = absurd (cc n)
first_in job id [] [] row n e = absurd (cc e)
first_in job id [] (x ∷ xs) row n e = let same : row ≡ x = cc e in ap (λ (r : EdgeRow). Cut job r.key.edge r.key.from r.key.to) same

pub no_edge_left : (job id : ℕ) (out entering : List EdgeRow) → None ≡ slice_get out 0 → None ≡ slice_get entering 0 →
    Erase job id ≡ cut_or_erase job id out entering
no_edge_left job id (x ∷ xs) entering n e = absurd (cc n)
no_edge_left job id [] (x ∷ xs) n e = absurd (cc e)
no_edge_left job id [] [] n e = refl
