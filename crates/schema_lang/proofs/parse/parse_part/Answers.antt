use Rattle.std.specs.Str.Lines.{lines}
use Rattle.std.specs.Prelude.{Ok, Err}
use Rattle.schema_lang.specs.Grammar.{part_of}
use Rattle.schema_lang.specs.Forms.{SpellsPart, HasPartFault}
use Rattle.schema_lang.specs.Views.{part_view}
use Rattle.schema_lang.proofs.Spellable.{parsed_fits}
use Rattle.schema_lang.proofs.GrammarLemmas.{part_spells, part_fails, spells_part, fails_part}
use Rattle.schema_lang.proofs.AnswerLemmas.{given_spelled, given_told, given_other}
use Rattle.schema_lang.proofs.parse.parse_part.Goals as goal

pub returns-clause-spelled : goal.returns-clause-spelled
returns-clause-spelled c = given_spelled part_view (part_of (lines c.args.bytes.now)) (SpellsPart c.args.bytes.now) (part_spells (lines c.args.bytes.now)) c.read_part.result c.read_part.ensures

pub returns-clause-told : goal.returns-clause-told
returns-clause-told c = given_told part_view (part_of (lines c.args.bytes.now)) (HasPartFault c.args.bytes.now) (part_fails (lines c.args.bytes.now)) c.read_part.result c.read_part.ensures

pub returns-clause-every_spelled : goal.returns-clause-every_spelled
returns-clause-every_spelled c = λ part is. given_other part_view (part_of (lines c.args.bytes.now)) (Ok part) (spells_part (lines c.args.bytes.now) part is) c.read_part.result c.read_part.ensures

pub returns-clause-every_fault : goal.returns-clause-every_fault
returns-clause-every_fault c = λ fault is. given_other part_view (part_of (lines c.args.bytes.now)) (Err fault) (fails_part (lines c.args.bytes.now) fault is) c.read_part.result c.read_part.ensures

pub returns-clause-spellable : goal.returns-clause-spellable
returns-clause-spellable c = parsed_fits (lines c.args.bytes.now) c.read_part.result c.read_part.ensures
