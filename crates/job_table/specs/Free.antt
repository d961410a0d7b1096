-- Steps of owned objects that are not held.
use Rattle.std.specs.Prelude.{ℕ, Bool, cond, ◌||◌, not, List, Option, Some, None, find, is_some, option_map, option_and_then}
use Rattle.delf_model.specs.declared.rows.EdgeRow.{EdgeRow}
use Rattle.delf_model.specs.declared.entry.What.{What}
use Rattle.delf_model.specs.declared.entry.What.TheVariants.{Cut, Erase}
use Rattle.delf_model.specs.Graph.{Graph, is_touched, out_edges, in_edges}
use Rattle.std.specs.Option.{option_or}
use Rattle.delf_model.specs.Order.{is_held}

-- the step of the job that takes this edge
abbrev pub cut_of : ℕ → EdgeRow → What
cut_of job row = Cut job row.key.edge row.key.from row.key.to

abbrev pub is_free_edge : List What → ℕ → EdgeRow → Bool
is_free_edge held job row = not (is_held held (cut_of job row))

-- the step that takes the first edge whose step is not held
abbrev pub free_cut : List What → ℕ → List EdgeRow → Option What
free_cut held job rows = option_map (cut_of job) (find (is_free_edge held job) rows)

-- the step that takes the object, where no edge touches it and that step is not held
abbrev pub free_erase : Graph → List What → ℕ → ℕ → Option What
free_erase g held job id = cond (is_touched g id || is_held held (Erase job id)) None (Some (Erase job id))

-- a step of the owner that takes an edge of the object, or the object, and is not held
abbrev pub free_step : Graph → List What → ℕ × ℕ → Option What
free_step g held pair =
    option_or (free_cut held pair.1 (out_edges g pair.0))
    (option_or (free_cut held pair.1 (in_edges g pair.0)) (free_erase g held pair.1 pair.0))

abbrev pub has_free : Graph → List What → ℕ × ℕ → Bool
has_free g held pair = is_some (free_step g held pair)

-- such a step of the first owned object that has one
abbrev pub free_among : Graph → List What → List (ℕ × ℕ) → Option What
free_among g held pairs = option_and_then (free_step g held) (find (has_free g held) pairs)
