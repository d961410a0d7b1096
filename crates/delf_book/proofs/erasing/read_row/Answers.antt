use Rattle.std.proofs.Common.{◌∙◌}
use Rattle.delf_book.proofs.erasing.read_row.Goals as goal

pub returns-clause-payload : goal.returns-clause-payload
returns-clause-payload g c = λ plain mark records sized log.
    c.of.ensures.payload ∙ c.in_ok-len.ensures.payload plain mark records sized log
