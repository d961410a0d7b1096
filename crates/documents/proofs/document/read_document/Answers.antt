use Rattle.std.proofs.Common.{arith}
use Rattle.schema_lang.specs.Views.{part_view}
use Rattle.documents.specs.Documents.{HasPart}
use Rattle.documents.proofs.Bounded.{bounded}
use Rattle.documents.proofs.Documents.{has_names, numbered_commands, told_part, told_check, told_script}
use Rattle.documents.proofs.Unblocked.{unblocked}
use Rattle.documents.proofs.document.read_document.Goals as goal

pub returns-in-Err-clause-fault : goal.returns-in-Err-clause-fault
returns-in-Err-clause-fault c = told_part c.args.blocks c.args.bytes.now c.in-Err.fault c.told_fault.result (omega arith) c.in-Err.ensures.part c.told_fault.ensures

pub returns-in-Err-Breaks-clause-fault : goal.returns-in-Err-Breaks-clause-fault
returns-in-Err-Breaks-clause-fault c =
    let has : HasPart c.args.bytes.now (part_view c.in-Ok.part) = record { size = omega arith; spelled = c.in-Ok.ensures.part } in
    told_check c.args.blocks c.args.bytes.now (part_view c.in-Ok.part) c.in-Err-Breaks.broken c.told_broken.result has
    (rw c.in-Err-Breaks.field-0-is at c.in-Err-Breaks.ensures.fault) c.told_broken.ensures

pub returns-in-Err-parse_script-clause-fault : goal.returns-in-Err-parse_script-clause-fault
returns-in-Err-parse_script-clause-fault c =
    let has : HasPart c.args.bytes.now (part_view c.in-Ok.part) = record { size = omega arith; spelled = c.in-Ok.ensures.part } in
    told_script c.args.blocks c.args.bytes.now (part_view c.in-Ok.part) c.in-Err-parse_script.fault has c.in-Ok-judge.ensures.checked c.in-Err-parse_script.ensures.script

pub returns-in-Ok-parse_script-clause-lanes : goal.returns-in-Ok-parse_script-clause-lanes
returns-in-Ok-parse_script-clause-lanes c without = unblocked _ c.args.blocks _ _ c.in-Ok-parse_script.commands without c.in-Ok-parse_script.ensures.script

pub returns-in-Ok-parse_script-clause-numbered : goal.returns-in-Ok-parse_script-clause-numbered
returns-in-Ok-parse_script-clause-numbered c =
    numbered_commands c.in-Ok.part.schema c.in-Ok-judge.rules c.in-Ok-parse_script.commands (has_names c.in-Ok.part.schema c.in-Ok-judge.rules c.in-Ok-judge.ensures.value)
    c.in-Ok-parse_script.ensures.names (bounded c.in-Ok.part.schema c.args.blocks _ _ c.in-Ok-parse_script.commands c.in-Ok-parse_script.ensures.script)
