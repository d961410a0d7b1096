-- The entries of each seat after one entry more.
use Rattle.std.proofs.Common.{◌≡◌, ℕ, ◌+◌, ◌-◌, ◌<◌, ◌≤◌, Bool, true, false, cond, List, [], ◌∷◌, ◌++◌, length, Option, Some, refl, sym, ap, ◌∙◌, arith}
use Rattle.std.specs.Prelude.{nat_eq, max, count_by, unwrap_or}
use Rattle.std.proofs.lemmas.List.Sums.{sum_by-cons}
use Rattle.job_table.specs.Table.{greatest}
use Rattle.job_table.specs.SeatsFit.{SeatsFit}
use Rattle.job_table.proofs.Places.{greatest_push}
use Rattle.job_table.proofs.Steps.{eqb_is}

count_push : (seat y : ℕ) (xs : List ℕ) → count_by (λ other. nat_eq other seat) (xs ++ y ∷ []) ≡ count_by (λ other. nat_eq other seat) xs + cond (nat_eq y seat) 1 0
count_push seat y [] = omega (arith, sum_by-cons (λ (other : ℕ). cond (nat_eq other seat) 1 0) y [])
count_push seat y (x ∷ xs) =
    omega (arith, sum_by-cons (λ (other : ℕ). cond (nat_eq other seat) 1 0) x xs, sum_by-cons (λ (other : ℕ). cond (nat_eq other seat) 1 0) x (xs ++ y ∷ []), count_push seat y xs)

grown : (xs : List ℕ) (y : ℕ) → length (xs ++ y ∷ []) ≡ length xs + 1
grown [] y = refl
grown (x ∷ xs) y = let more = grown xs y in omega (arith, more)

pub pushed_fits : (seats after : List ℕ) (count_of count_of' : ℕ → Option ℕ) (top top' capacity capacity' room room' spare seat entries : ℕ) → SeatsFit seats count_of top capacity room spare →
    after ≡ seats ++ seat ∷ [] → entries ≡ count_by (λ other. nat_eq other seat) seats → ((q : ℕ) → count_of' q ≡ cond (nat_eq seat q) (Some (entries + 1)) (count_of q)) →
    top' ≡ max top seat → capacity' ≡ capacity → room ≤ room' + 1 → 0 < spare → length seats + 1 < 4294967296 → SeatsFit after count_of' top' capacity' room' (spare - 1)
pushed_fits seats after count_of count_of' top top' capacity capacity' room room' spare seat entries fit a e n t c r s f = record {
  counts = λ q. ap (λ (o : Option ℕ). unwrap_or o 0) (n q) ∙ each q (nat_eq seat q) refl ∙ sym (ap (count_by (λ other. nat_eq other q)) a ∙ count_push q seat seats);
  top = t ∙ ap (λ (k : ℕ). max k seat) fit.top ∙ sym (ap greatest a ∙ greatest_push seats seat);
  fits = let len = longer in omega (arith, len, f);
  seats_spare = let len = longer in omega (arith, fit.seats_spare, len, c, s);
  counts_spare = omega (arith, fit.counts_spare, r, s);
}
  where
    longer : length after ≡ length seats + 1
    longer = ap (λ (xs : List ℕ). length xs) a ∙ grown seats seat

    each : (q : ℕ) (b : Bool) → nat_eq seat q ≡ b → unwrap_or (cond b (Some (entries + 1)) (count_of q)) 0 ≡ count_by (λ other. nat_eq other q) seats + cond b 1 0
    each q true h = let same = eqb_is seat q h in ap (λ (k : ℕ). k + 1) (e ∙ ap (λ (k : ℕ). count_by (λ other. nat_eq other k) seats) same)
    each q false h = let told = fit.counts q in omega (arith, told)
