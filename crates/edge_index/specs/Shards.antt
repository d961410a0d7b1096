-- What stands in shards, each by its number.
use Rattle.std.specs.Prelude.{◌≡◌, ◌≢◌, ℕ, zero, suc, Bool, List, [], ◌∷◌, ◌++◌, None}
use Rattle.std.specs.Map.{lookup}

-- what a shard holds, nothing where there is no such shard
abbrev pub shard : {M E : Type 0} → (M → List E) → List M → ℕ → List E
shard f [] n = []
shard f (m ∷ ms) zero = f m
shard f (m ∷ ms) (suc n) = shard f ms n

-- what all shards hold
abbrev pub all_in : {M E : Type 0} → (M → List E) → List M → List E
all_in f [] = []
all_in f (m ∷ ms) = f m ++ all_in f ms

-- each key stands in its own shard alone
abbrev pub InShards : {M K X : Type 0} → (M → List (K × X)) → (K → K → Bool) → (K → ℕ) → List M → Type 0
InShards {M} {K} f eq home ms = (n : ℕ) (q : K) → n ≢ home q → lookup (eq q) (shard f ms n) ≡ None
