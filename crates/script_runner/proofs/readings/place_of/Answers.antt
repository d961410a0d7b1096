use Rattle.std.proofs.Common.{◌+◌, ◌-◌, ◌/◌, ◌∙◌, sym, arith}
use Rattle.script_runner.proofs.Ages.{earlier_to, later_from, later_past}
use Rattle.script_runner.proofs.readings.place_of.Goals as goal

pub halves-init : goal.halves-init
halves-init g c = record {
  before = λ k less. absurd (omega arith);
  behind = later_past c.args.book.now.rules c.args.book.now.history c.len-high.ensures.legal c.args.job c.len-high.result c.len-high.ensures.value;
}

pub halves-preserved-then-starts_earlier : goal.halves-preserved-then-starts_earlier
halves-preserved-then-starts_earlier g c = record {
  before = earlier_to c.args.book.now.rules c.args.book.now.history c.len-high.ensures.legal c.args.job (c.halves.low + (c.halves.high - c.halves.low) / 2)
      (sym c.starts_earlier.ensures ∙ c.if-starts_earlier.true);
  behind = c.halves.invariant.behind;
}

pub halves-preserved : goal.halves-preserved
halves-preserved g c = record {
  before = c.halves.invariant.before;
  behind = later_from c.args.book.now.rules c.args.book.now.history c.len-high.ensures.legal c.args.job (c.halves.low + (c.halves.high - c.halves.low) / 2)
      (sym c.starts_earlier.ensures ∙ c.if-starts_earlier.false);
}
