use Rattle.std.proofs.Common.{◌/◌}
use Rattle.script_lang.proofs.GeneratedLemmas.{generated_named_as}
use Rattle.script_lang.proofs.groups.generated.Goals as goal

pub returns-clause-names : goal.returns-clause-names
returns-clause-names c = generated_named_as c.in_ok-schema.schema c.in_ok-script.script (c.args.n / 4) c.in_ok-schema.ensures c.in_ok-script.ensures
