use Rattle.std.proofs.Common.{Result, List, subst}
use Rattle.std.specs.Str.Lines.{lines}
use Rattle.delf_model.specs.declared.script.Command.{Command}
use Rattle.script_lang.specs.Scripts.{Fault, script_of}
use Rattle.script_lang.specs.Documents.{Spells}
use Rattle.script_lang.proofs.ScriptLemmas.{script_ends, script_more, script_fails}
use Rattle.script_lang.proofs.script.parse_script.Goals as goal

pub returns-in-Err-clause-script : goal.returns-in-Err-clause-script
returns-in-Err-clause-script c =
    script_fails c.args.schema.now c.args.blocks (lines c.loop-line.rest.now) c.loop-line.number c.loop-line.reading
    (script_of c.args.schema.now c.args.blocks (lines c.args.bytes.now) c.args.first) c.loop-line.invariant.same c.in-Some.line.now
    (lines c.in-Some.after.now) c.in-Some.ensures.lines c.in-Err.fault c.in-Err.ensures.reading

pub loop-line-preserved : goal.loop-line-preserved
loop-line-preserved c = record {
  same = rw c.saturating_add-number.ensures
      (script_more c.args.schema.now c.args.blocks (lines c.loop-line.rest.now) c.loop-line.number c.loop-line.reading
      (script_of c.args.schema.now c.args.blocks (lines c.args.bytes.now) c.args.first) c.loop-line.invariant.same c.in-Some.line.now
      (lines c.in-Some.after.now) c.in-Some.ensures.lines c.in-Ok.reading c.in-Ok.ensures.reading);
  names = c.in-Ok.ensures.names;
}

pub returns-clause-script : goal.returns-clause-script
returns-clause-script c =
    subst (λ (read : Result (List Command) Fault). Spells c.at_the_end.result read)
    (script_ends c.args.schema.now c.args.blocks (lines c.loop-line.rest.now) c.loop-line.number c.loop-line.reading
    (script_of c.args.schema.now c.args.blocks (lines c.args.bytes.now) c.args.first) c.loop-line.invariant.same c.in_default.ensures.lines)
    c.at_the_end.ensures
