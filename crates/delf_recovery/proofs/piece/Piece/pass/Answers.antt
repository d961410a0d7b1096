use Rattle.std.proofs.Common.{rules, sym, subst}
use Rattle.delf_recovery.specs.Stretches.{Stretch, IsPartOf}
use Rattle.delf_recovery.proofs.Pieces.{passed_before, passed_into}
use Rattle.delf_recovery.proofs.piece.Piece.pass.Goals as goal

pub returns-then-end-self : goal.returns-then-end-self
returns-then-end-self c = record {
  kept = λ at bytes old new few within written part.
      passed_before c.args.self.now c.args.area c.args.end (search rules) (search rules) at bytes old new few within written part;
}

pub returns : goal.returns
returns c = record {
  kept = λ at bytes old new few within written part.
      let b = c.self.inside in
      passed_into b.buffer.items b.area b.start b.end b.at c.args.end (search rules) (search rules) (search rules) (search rules) at bytes old new few (search rules) (search rules) (subst (λ (s : Stretch). IsPartOf s old) (sym c.self.view_is) part);
}
