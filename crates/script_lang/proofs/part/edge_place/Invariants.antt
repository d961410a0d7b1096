use Rattle.std.proofs.Common.{◌≡◌, ℕ, ◌<◌, get_or, false}
use Rattle.std.specs.Str.{bytes_eq}
use Rattle.delf_model.specs.declared.schema.EdgeType.{EdgeType}
use Rattle.script_lang.proofs.part.edge_place.Given as goal

abbrev pub invariant-loop-place : goal.invariant-loop-place
invariant-loop-place l =
    (k : ℕ) (edge : EdgeType) → k < l.place → bytes_eq (get_or l.edges k edge).name l.name ≡ false
