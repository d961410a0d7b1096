use Rattle.std.proofs.Common.{◌∙◌, ap, subst, sym}
use Rattle.delf_model.specs.Broken.{IsFirstBroken, IsJudgeFault}
use Rattle.delf_model.specs.Checked.{IsChecked}
use Rattle.delf_model.proofs.CheckedLemmas.{IsFirstBroken-refutes}
use Rattle.documents.specs.Loads.{commands_of}
use Rattle.documents.proofs.Documents.{has_names}
use Rattle.documents.proofs.Generated.{generated_checked, load_numbered, load_still, load_laneless}
use Rattle.documents.proofs.load.load_document.Goals as goal

pub unreachable-requires : goal.unreachable-requires
unreachable-requires c =
    let first : IsFirstBroken c.in_ok-schema.schema c.in-Err-Breaks.field-0-0 =
    subst (λ fault. IsJudgeFault c.in_ok-schema.schema fault) c.in-Err-Breaks.field-0-is c.in-Err-Breaks.ensures.fault in
    IsFirstBroken-refutes c.in_ok-schema.schema c.in-Err-Breaks.field-0-0 first (subst IsChecked (sym c.in_ok-schema.ensures.schema) generated_checked)

pub returns-clause-numbered : goal.returns-clause-numbered
returns-clause-numbered c =
    load_numbered c.in_ok-schema.schema c.args.blocks c.args.n c.in-Ok.rules c.in_ok-schema.script c.in_ok-commands.commands
    (has_names c.in_ok-schema.schema c.in-Ok.rules c.in-Ok.ensures.value) c.in_ok-schema.ensures.names
    c.in_ok-schema.ensures.script c.in_ok-commands.ensures

pub returns-clause-still : goal.returns-clause-still
returns-clause-still c = load_still c.args.blocks c.args.n c.in_ok-commands.commands (c.in_ok-commands.ensures ∙ ap (commands_of c.args.blocks) c.in_ok-schema.ensures.script)

pub returns-clause-lanes : goal.returns-clause-lanes
returns-clause-lanes c without =
    load_laneless c.args.blocks c.args.n c.in_ok-commands.commands without (c.in_ok-commands.ensures ∙ ap (commands_of c.args.blocks) c.in_ok-schema.ensures.script)
