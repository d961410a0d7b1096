-- The damaged item is the user: its seal is that of another payload.
use Rattle.std.proofs.Common.{ℕ, Bool, false, eqb, List, [], ◌∷◌, Option, Some, None, refl, ap}
use Rattle.std.proofs.lemmas.Bool.{false≢true}
use Rattle.delf_model.proofs.worked.rows_join.Goals as goal

abbrev begins_with : ℕ → Option (List ℕ) → Bool
begins_with n None = false
begins_with n (Some []) = false
begins_with n (Some (x ∷ xs)) = eqb x n

pub returns-clause-damaged : goal.returns-clause-damaged
returns-clause-damaged c = record {
  logged = _;
  there = refl;
  needed = refl;
  carried = refl;
  differs = λ same. false≢true (ap (begins_with 97) same);
}
