-- Lists that only grow.
use Rattle.std.specs.Prelude.{◌≡◌, Bool, List, [], ◌∷◌, ◌++◌, if◌then◌else◌}
use Rattle.std.proofs.Common.{sym, ap, ◌∙◌, append_assoc, append-nil}

-- xs starts with ys
abbrev pub StartsWith : {A : Type 0} → List A → List A → Type 0
StartsWith {A} xs ys = (rest : List A) × (xs ≡ ys ++ rest)

pub StartsWith-itself : {A : Type 0} (xs : List A) → StartsWith xs xs
StartsWith-itself xs = ([], sym (append-nil xs))

pub StartsWith-chain : {A : Type 0} (xs ys zs : List A) → StartsWith xs ys → StartsWith ys zs → StartsWith xs zs
StartsWith-chain {A} xs ys zs a b = (b.0 ++ a.0, a.1 ∙ (ap (λ (l : List A). l ++ a.0) b.1 ∙ append_assoc zs b.0 a.0))

-- the list with x behind it, if it was added
abbrev pub with_added : {A : Type 0} → Bool → A → List A → List A
with_added added x xs = if added then xs ++ x ∷ [] else xs
