use Rattle.std.specs.Str.Lines.{lines}
use Rattle.schema_lang.proofs.GrammarLemmas.{part_spells, part_fails, spells_part, fails_part}
use Rattle.schema_lang.proofs.laws.line_forms_are_read.Goals as goal

pub returns-clause-spelled : goal.returns-clause-spelled
returns-clause-spelled c = λ bytes part. (spells_part (lines bytes) part, part_spells (lines bytes) part)

pub returns-clause-faulty : goal.returns-clause-faulty
returns-clause-faulty c = λ bytes fault. (fails_part (lines bytes) fault, part_fails (lines bytes) fault)
