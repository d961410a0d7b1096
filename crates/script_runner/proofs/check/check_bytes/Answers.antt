use Rattle.script_runner.proofs.Checks.{fault_text_checked, fault_cause_checked}
use Rattle.script_runner.proofs.check.check_bytes.Goals as goal

pub returns-in-Err-clause-cause : goal.returns-in-Err-clause-cause
returns-in-Err-clause-cause g c = fault_cause_checked c.args.blocks c.args.bytes.now c.in-Err.fault _ c.put_fault.result c.in-Err.ensures.fault c.put_fault.ensures.cause

pub returns-in-Err-clause-text : goal.returns-in-Err-clause-text
returns-in-Err-clause-text g c = λ sunk.
    fault_text_checked c.args.blocks c.args.bytes.now c.in-Err.fault _ _ c.put_fault.result c.in-Err.ensures.fault (c.put_fault.ensures.text sunk)
