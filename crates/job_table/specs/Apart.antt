-- Lists of pairs in which no id stands twice.
use Rattle.std.specs.Prelude.{ℕ, Bool, true, ◌&&◌, not, List, [], ◌∷◌}
use Rattle.std.specs.List.{list_any}
use Rattle.job_table.specs.Table.{is_of_id}

-- no id stands twice
abbrev pub are_apart : List (ℕ × ℕ) → Bool
are_apart [] = true
are_apart (x ∷ xs) = not (list_any (is_of_id x.0) xs) && are_apart xs
