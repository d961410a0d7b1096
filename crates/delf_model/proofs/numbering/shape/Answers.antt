use Rattle.std.proofs.Common.{arith}
use Rattle.std.specs.Str.{bytes_eq}
use Rattle.delf_model.proofs.NumberLemmas.{position_or_len-le}
use Rattle.delf_model.proofs.numbering.shape.Goals as goal

pub overflow_cast-result : goal.overflow_cast-result
overflow_cast-result c =
    omega (arith, position_or_len-le (λ object. bytes_eq object.name c.args.edge.now.from) c.args.objects.now, c.number.ensures, c.requires)

pub overflow_cast-result-2 : goal.overflow_cast-result-2
overflow_cast-result-2 c =
    omega (arith, position_or_len-le (λ object. bytes_eq object.name c.args.edge.now.to) c.args.objects.now, c.number-2.ensures, c.requires)
