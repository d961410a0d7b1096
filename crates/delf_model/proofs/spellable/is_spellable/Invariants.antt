use Rattle.std.proofs.Common.{◌<◌, ℕ, get_or}
use Rattle.delf_model.specs.declared.schema.ObjectType.{ObjectType}
use Rattle.delf_model.specs.Checked.{IsExpiry}
use Rattle.delf_model.proofs.spellable.is_spellable.Given as goal

abbrev pub invariant-loop-object : goal.invariant-loop-object
invariant-loop-object l = (k : ℕ) (object : ObjectType) → k < l.object-index → IsExpiry (get_or l.objects k object).rule
