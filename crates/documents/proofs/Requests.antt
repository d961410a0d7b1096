-- More than three words are no command.
use Rattle.std.proofs.Common.{◌≡◌, ℕ, ◌≤◌, None, List, [], ◌∷◌, length, map, refl, arith}
use Rattle.documents.specs.Requests.{request_of}

pub past_three : {A : Type 0} (f : A → List ℕ) (words : List A) → 4 ≤ length words → None ≡ request_of (map f words)
past_three f [] long = absurd (omega arith)
past_three f (a ∷ []) long = absurd (omega arith)
past_three f (a ∷ b ∷ []) long = absurd (omega arith)
past_three f (a ∷ b ∷ c ∷ []) long = absurd (omega arith)
past_three f (a ∷ b ∷ c ∷ d ∷ more) long = refl
