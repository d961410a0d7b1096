-- The printed route of a type.
use Rattle.std.specs.Prelude.{◌≡◌, ◌<◌, ◌-◌, ◌⊎◌, ℕ, List, [], ◌∷◌, Option, Some, None, length, IsTrue}
use Rattle.std.specs.List.{slice_index_or}
use Rattle.delf_model.specs.RuleSet.{RuleSet, is_deep, is_refcount}
use Rattle.delf_model.specs.Checked.{IsRoute, IsDistance, source_of, target_of}

-- of two lists of numbers of one length, the first is the same or has the lesser number where they first differ
abbrev pub IsAtMost : List ℕ → List ℕ → Type 0
IsAtMost [] ys = Unit {0}
IsAtMost (x ∷ xs) [] = ⊥
IsAtMost (x ∷ xs) (y ∷ ys) = (x < y) ⊎ ((x ≡ y) × IsAtMost xs ys)

-- a shorter list, or one as long that is the same or less
abbrev pub ComesFirst : List ℕ → List ℕ → Type 0
ComesFirst route other = (length route < length other) ⊎ ((length route ≡ length other) × IsAtMost route other)

-- the printed route of a type: a shortest route, and of these the one whose list of edge numbers is least
abbrev pub IsPrintedRoute : RuleSet → ℕ → List ℕ → Type 0
IsPrintedRoute rules kind route =
    IsRoute rules kind route × ((other : List ℕ) → IsRoute rules kind other → ComesFirst route other)

-- the edge type begins a route of n edge types that goes on by a shortest route of its source
abbrev pub BeginsShortest : RuleSet → ℕ → ℕ → ℕ → Type 0
BeginsShortest rules kind n edge =
    (target_of rules edge ≡ kind)
    × ((IsTrue (is_refcount rules edge) × (n ≡ 1))
    ⊎ (IsTrue (is_deep rules edge) × IsDistance rules (source_of rules edge) (Some (n - 1))))

-- the least edge type that begins a shortest route of n edge types
pub record IsFirstOf (rules : RuleSet) (kind edge n : ℕ) : Type 0 where
  pub above : 0 < n
  pub distance : IsDistance rules kind (Some n)
  pub begins : BeginsShortest rules kind n edge
  pub least : (other : ℕ) → other < edge → BeginsShortest rules kind n other → ⊥

-- the first edge type of the printed route, None where the type has no route or the empty one
abbrev pub IsFirstEdge : RuleSet → ℕ → Option ℕ → Type 0
IsFirstEdge rules kind None = IsDistance rules kind None ⊎ IsDistance rules kind (Some 0)
IsFirstEdge rules kind (Some edge) = (n : ℕ) × IsFirstOf rules kind edge n

-- the first edge type of each type's printed route
pub record AreFirstEdges (rules : RuleSet) (firsts : List (Option ℕ)) : Type 0 where
  pub each : (kind : ℕ) → IsFirstEdge rules kind (slice_index_or firsts kind None)
