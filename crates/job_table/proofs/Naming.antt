-- What names mean after a row of the jobs changed.
use Rattle.std.proofs.Common.{◌≡◌, ℕ, zero, suc, ◌+◌, ◌-◌, ◌<◌, ◌≤◌, true, cond, List, [], ◌∷◌, ◌++◌, map, length, get_or, set, Option, Some, None, refl, sym, ap, ◌∙◌, arith}
use Rattle.std.specs.List.{position}
use Rattle.std.proofs.lemmas.List.Quantifiers.{position-Some}
use Rattle.delf_model.specs.declared.ids.JobName.{JobName}
use Rattle.delf_model.specs.declared.ids.JobName.TheVariants.{Named, Expiry}
use Rattle.delf_model.specs.State.{JobRow, same_name, find_job, last_of, named_start}
use Rattle.delf_model.specs.Step.{new_job}
use Rattle.job_table.specs.declared.jobs.Row.{Row}
use Rattle.job_table.specs.JobsFit.{JobsFit}
use Rattle.job_table.specs.Table.{starts_rise}
use Rattle.job_table.specs.Parts.{row_of, is_start}
use Rattle.job_table.proofs.Places.{find_job_push}
use Rattle.job_table.proofs.Rising.{map_push, rise_changed, starts_pushed}

-- a changed row keeps what names mean

pub find_set : (name : JobName) (i : ℕ) (y d : Row) (xs : List Row) → y.start ≡ (get_or xs i d).start → y.name ≡ (get_or xs i d).name →
    find_job (map row_of (set xs i y)) name ≡ find_job (map row_of xs) name
find_set name i y d [] e f = refl
find_set name zero y d (x ∷ xs) e f =
    ap (λ (n : ℕ). last_of (cond (same_name y.name name) (Some n) None) (find_job (map row_of xs) name)) e
    ∙ ap (λ (n : JobName). last_of (cond (same_name n name) (Some x.start) None) (find_job (map row_of xs) name)) f
find_set name (suc i) y d (x ∷ xs) e f = ap (last_of (named_start name (row_of x))) (find_set name i y d xs e f)

pub set_length : {A : Type 0} (xs : List A) (i : ℕ) (y : A) → length (set xs i y) ≡ length xs
set_length [] i y = refl
set_length (x ∷ xs) zero y = refl
set_length (x ∷ xs) (suc i) y = let more = set_length xs i y in omega (arith, more)

module _ (rows : List Row) (named expiries : ℕ → Option ℕ) (capacity room other spare : ℕ) (fit : JobsFit rows named expiries capacity room other spare) where
  pub changed_fits : (slice : List Row) (job i : ℕ) (old y : Row) → slice ≡ rows → Some i ≡ position (is_start job) slice → old ≡ get_or rows i old →
      y.start ≡ old.start → y.name ≡ old.name →
      JobsFit (set rows i y) named expiries capacity room other spare
  changed_fits slice job i old y e p g s n =
      let facts = position-Some (is_start job) rows i old (sym (p ∙ ap (position (is_start job)) e)) in
      let start : y.start ≡ (get_or rows i old).start = s ∙ ap (λ (x : Row). x.start) g in
      let called : y.name ≡ (get_or rows i old).name = n ∙ ap (λ (x : Row). x.name) g in
      record {
        rise = rise_changed rows slice job i old y e p g s fit.rise;
        fits = omega (arith, fit.fits, set_length rows i y);
        named = λ k. fit.named k ∙ sym (find_set (Named k) i y old rows start called);
        expiries = λ k. fit.expiries k ∙ sym (find_set (Expiry k) i y old rows start called);
        rows_spare = omega (arith, fit.rows_spare, set_length rows i y);
        named_spare = fit.named_spare;
        expiries_spare = fit.expiries_spare;
      }

  pub started_fits : (after : List Row) (list : List JobRow) (named' expiries' : ℕ → Option ℕ) (capacity' room' other' start root : ℕ) (name : JobName) (y : Row) → map row_of rows ≡ list →
      starts_rise 0 start list ≡ true → start < 4294967296 → after ≡ rows ++ y ∷ [] → row_of y ≡ new_job start root name → length rows + 1 < 4294967296 → 0 < spare →
      ((k : ℕ) → named' k ≡ cond (same_name name (Named k)) (Some start) (named k)) →
      ((k : ℕ) → expiries' k ≡ cond (same_name name (Expiry k)) (Some start) (expiries k)) → room ≤ room' + 1 → other ≤ other' + 1 → capacity' ≡ capacity →
      JobsFit after named' expiries' capacity' room' other' (spare - 1)
  started_fits after list named' expiries' capacity' room' other' start root name y v r l a e f s n x u w same = record {
    rise = starts_pushed rows after list start root name y v r l a e;
    fits = let len = longer in omega (arith, len, f);
    named = λ k.
        n k ∙ ap (λ (o : Option ℕ). cond (same_name name (Named k)) (Some start) o) (fit.named k)
        ∙ sym (found (Named k));
    expiries = λ k.
        x k ∙ ap (λ (o : Option ℕ). cond (same_name name (Expiry k)) (Some start) o) (fit.expiries k)
        ∙ sym (found (Expiry k));
    rows_spare = let len = longer in omega (arith, fit.rows_spare, len, s, same);
    named_spare = omega (arith, fit.named_spare, u, s);
    expiries_spare = omega (arith, fit.expiries_spare, w, s);
  }
    where
      longer : length after ≡ length rows + 1
      longer = ap (λ (xs : List Row). length xs) a ∙ grown rows
        where
          grown : (xs : List Row) → length (xs ++ y ∷ []) ≡ length xs + 1
          grown [] = refl
          grown (z ∷ zs) = let more = grown zs in omega (arith, more)

      found : (called : JobName) → find_job (map row_of after) called ≡ cond (same_name name called) (Some start) (find_job (map row_of rows) called)
      found called =
          ap (λ (xs : List Row). find_job (map row_of xs) called) a ∙ ap (λ (xs : List JobRow). find_job xs called) (map_push rows y)
          ∙ find_job_push called (map row_of rows) (row_of y)
          ∙ ap (λ (row : JobRow). cond (same_name row.name called) (Some row.start) (find_job (map row_of rows) called)) e

pub got_same : (rows : List Row) (i : ℕ) (a b : Row) → i < length rows → a ≡ get_or rows i a → b ≡ get_or rows i b → a ≡ b
got_same rows i a b l e f = e ∙ any rows i l ∙ sym f
  where
    any : (xs : List Row) (k : ℕ) → k < length xs → get_or xs k a ≡ get_or xs k b
    any [] k h = absurd (omega arith)
    any (x ∷ xs) zero h = refl
    any (x ∷ xs) (suc k) h = any xs k (omega arith)

-- the part with room for one row fewer
pub fewer_fits : (rows : List Row) (named expiries : ℕ → Option ℕ) (capacity room other spare : ℕ) → JobsFit rows named expiries capacity room other spare → JobsFit rows named expiries capacity room other (spare - 1)
fewer_fits rows named expiries capacity room other spare fit = record {
  rise = fit.rise;
  fits = fit.fits;
  named = fit.named;
  expiries = fit.expiries;
  rows_spare = omega (arith, fit.rows_spare);
  named_spare = omega (arith, fit.named_spare);
  expiries_spare = omega (arith, fit.expiries_spare);
}
