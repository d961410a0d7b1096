-- Lines of a number of words that no row has.
use Rattle.std.proofs.Common.{◌≡◌, ℕ, ◌≢◌, List, [], ◌∷◌, length, Err, refl}
use Rattle.schema_lang.specs.declared.why.Why.TheVariants.{Malformed}
use Rattle.schema_lang.specs.Rows.{row_of}

pub row_of_misfit : (line : ℕ) (words : List (List ℕ)) → length words ≢ 1 → length words ≢ 3 → length words ≢ 4 → length words ≢ 5 → row_of line words ≡ Err Malformed
unfolding row_of
row_of_misfit line [] one three four five = refl
row_of_misfit line (a ∷ []) one three four five = absurd (one refl)
row_of_misfit line (a ∷ b ∷ []) one three four five = refl
row_of_misfit line (a ∷ b ∷ c ∷ []) one three four five = absurd (three refl)
row_of_misfit line (a ∷ b ∷ c ∷ d ∷ []) one three four five = absurd (four refl)
row_of_misfit line (a ∷ b ∷ c ∷ d ∷ e ∷ []) one three four five = absurd (five refl)
row_of_misfit line (a ∷ b ∷ c ∷ d ∷ e ∷ f ∷ more) one three four five = refl
