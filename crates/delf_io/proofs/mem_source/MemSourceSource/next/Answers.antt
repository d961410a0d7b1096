use Rattle.std.proofs.Common.{◌≡◌, arith, ap, sym, ◌∙◌, take, drop}
use Rattle.std.proofs.lemmas.Grind.{common_steps}
use Rattle.delf_io.proofs.Pieces.{drop-piece}
use Rattle.delf_io.proofs.mem_source.MemSourceSource.next.Goals as goal

pub returns-clause-given : goal.returns-clause-given
returns-clause-given c =
    let same = rw c.as_slice.ensures at c.copy_front-count.ensures.same in
    let piece : take c.copy_front-count.result c.copy_front-count.new.to
    ≡ take c.copy_front-count.result (drop c.self.inside.given c.self.inside.bytes) = grind (arith, common_steps, same) in
    sym (ap (λ s. s.left) c.self.view_is) ∙ drop-piece c.self.inside.bytes c.self.inside.given c.copy_front-count.result _ piece
