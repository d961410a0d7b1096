use Rattle.std.proofs.Common.{drop, rules, sym, subst}
use Rattle.delf_recovery.specs.Stretches.{Stretch, IsPartOf}
use Rattle.delf_recovery.proofs.Pieces.{copied}
use Rattle.delf_recovery.proofs.piece.Piece.give.Goals as goal

pub returns-clause-given : goal.returns-clause-given
returns-clause-given c = λ areas part.
    let b = c.self.inside in
    copied b.buffer.items c.copy_from_slice.new.self (drop c.min-n.result c.args.buf.now) c.args.area b.area b.start b.end b.at c.args.at c.min-n.result (search rules) (search rules) (search rules) (search rules) (search rules) (search rules) areas (subst (λ (s : Stretch). IsPartOf s areas) (sym c.self.view_is) part)
