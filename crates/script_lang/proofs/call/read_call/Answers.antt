use Rattle.script_lang.proofs.call.read_call.Goals as goal

pub returns-then-eq-5-clause-names : goal.returns-then-eq-5-clause-names
returns-then-eq-5-clause-names c = c.in_ok-read_delete.ensures.names c.args.schema.now
