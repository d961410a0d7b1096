use Rattle.std.proofs.Common.{◌≡◌, sym, ap, ◌∙◌, is_ok}
use Rattle.seat_lock.specs.declared.tests.numbers.Numbers.{Numbers}
use Rattle.seat_lock.specs.Lists.{with_added}
use Rattle.seat_lock.proofs.Numbers.{added_starts, added_only}
use Rattle.seat_lock.proofs.tests.numbers.fill.Goals as goal

pub with-outcome-requires-clause-leaves : goal.with-outcome-requires-clause-leaves
with-outcome-requires-clause-leaves g c = λ x r y next e.
    let same : y.list.items ≡ with_added (is_ok r) c.number-number.result x.list.items =
    sym (ap (λ (z : Numbers). z.list.items) e.leaves) ∙ (e.met ∙ ap (λ (z : Numbers). with_added (is_ok r) c.number-number.result z.list.items) e.shows) in
    record {
      later = added_starts (is_ok r) c.number-number.result x.list.items y.list.items same;
      only = added_only (is_ok r) c.number-number.result _ x.list.items y.list.items same (c.number-number.ensures ∙ sym c.loop.invariant.number);
    }
