use Rattle.std.proofs.Common.{None, Some, sym}
use Rattle.schema_lang.proofs.WordLemmas.{is_skipped_by}
use Rattle.schema_lang.proofs.line.is_skipped.Goals as goal

pub returns-in-None : goal.returns-in-None
returns-in-None c = sym (is_skipped_by c.args.line.now c.skip_blanks.result.now None c.skip_blanks.ensures.value c.in-None.ensures.value)

pub returns-in-Some : goal.returns-in-Some
returns-in-Some c = sym (is_skipped_by c.args.line.now c.skip_blanks.result.now (Some c.in-Some.byte.now) c.skip_blanks.ensures.value c.in-Some.ensures.value)
