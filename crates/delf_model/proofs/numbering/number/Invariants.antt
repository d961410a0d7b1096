use Rattle.std.proofs.Common.{◌≡◌, ℕ, ◌<◌, get_or, false}
use Rattle.std.specs.Str.{bytes_eq}
use Rattle.delf_model.specs.declared.schema.ObjectType.{ObjectType}
use Rattle.delf_model.proofs.numbering.number.Given as goal

abbrev pub invariant-loop-i : goal.invariant-loop-i
invariant-loop-i l =
    (k : ℕ) (object : ObjectType) → k < l.i → bytes_eq (get_or l.objects k object).name l.name ≡ false
