-- A list, cut where a piece of it was handed on.
use Rattle.std.proofs.Common.{ℕ, ◌≡◌, ◌+◌, List, ◌++◌, take, drop, sym}
use Rattle.std.proofs.lemmas.List.{take-append-drop, drop-drop}

-- what is left is the piece of it that was handed on, and what is left then
pub drop-piece : (bytes : List ℕ) (given count : ℕ) (piece : List ℕ)
    → piece ≡ take count (drop given bytes)
    → drop given bytes ≡ piece ++ drop (given + count) bytes
drop-piece bytes given count piece same =
    rw (same, ← drop-drop count given bytes) (sym (take-append-drop count (drop given bytes)))
