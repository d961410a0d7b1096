use Rattle.std.proofs.Common.{◌≡◌, ℕ, ◌<◌, get_or, false}
use Rattle.std.specs.Str.{bytes_eq}
use Rattle.delf_model.specs.declared.schema.ObjectType.{ObjectType}
use Rattle.script_lang.proofs.part.type_place.Given as goal

abbrev pub invariant-loop-place : goal.invariant-loop-place
invariant-loop-place l =
    (k : ℕ) (object : ObjectType) → k < l.place → bytes_eq (get_or l.types k object).name l.name ≡ false
