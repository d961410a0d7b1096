use Rattle.script_lang.proofs.command.read_script_line.Goals as goal

pub returns-in_ok-read_other-in-None-clause-names :
    goal.returns-in_ok-read_other-in-None-clause-names
returns-in_ok-read_other-in-None-clause-names c = c.in_ok-read_other-in-None.ensures.names c.args.schema.now
