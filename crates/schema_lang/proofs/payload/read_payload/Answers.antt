use Rattle.std.proofs.Common.{sym, ◌∙◌, arith}
use Rattle.schema_lang.proofs.WordLemmas.{within_payload_step, within_payload_none, within_payload_end, after_quote_shorter}
use Rattle.schema_lang.proofs.payload.read_payload.Goals as goal

pub loop-byte-preserved : goal.loop-byte-preserved
loop-byte-preserved c =
    let step = within_payload_step c.loop-byte.bytes.items c.loop-byte.rest.now c.in-Some.byte c.in-Some.after.now (sym c.in-Some.ensures) in
    record { same = rw c.in_ok-push.ensures.items (sym step.0 ∙ c.loop-byte.invariant.same); bound = omega (arith, step.1) }

pub returns-in-Some-after_quote : goal.returns-in-Some-after_quote
returns-in-Some-after_quote c =
    let closed = sym c.in-Some-after_quote.ensures in
    record {
      words = sym c.loop-byte.invariant.same ∙ rw c.from_vec.ensures (within_payload_end c.loop-byte.bytes.items c.loop-byte.rest.now c.in-Some-after_quote.after.now closed);
      shorter = omega (arith, after_quote_shorter c.loop-byte.rest.now c.in-Some-after_quote.after.now closed);
    }

pub returns-clause-words : goal.returns-clause-words
returns-clause-words c = sym c.loop-byte.invariant.same ∙ within_payload_none c.loop-byte.bytes.items c.loop-byte.rest.now (sym c.in_default.ensures) (sym c.in-None.ensures)
