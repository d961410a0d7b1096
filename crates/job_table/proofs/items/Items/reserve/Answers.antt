use Rattle.std.proofs.Common.{ap, map, refl, arith}
use Rattle.job_table.specs.Parts.{logged_of}
use Rattle.job_table.proofs.OpenEnds.{reserved_ends}
use Rattle.job_table.proofs.SpansOf.{reserved_spans}
use Rattle.job_table.proofs.Tallying.{reserved_items}
use Rattle.job_table.proofs.items.Items.reserve.Goals as goal

pub invariant_of-self-in_err-reserve-3 : goal.invariant_of-self-in_err-reserve-3
invariant_of-self-in_err-reserve-3 c = (
  reserved_items c.self.inside.items.items _ _ _ _ _ _ _ c.self.inside.spare c.self.inside.spare c.self.invariant.0 c.reserve.ensures.items c.reserve-2.ensures.entries.2
      (omega (arith, c.self.invariant.0.items_spare, c.reserve.ensures.capacity)) (omega (arith, c.self.invariant.0.tallies_spare, c.reserve-2.ensures.spare)),
  reserved_spans (map logged_of c.self.inside.items.items) _ _ _ _ _ c.self.inside.spare c.self.inside.spare c.self.invariant.1 (ap (map logged_of) c.reserve.ensures.items) c.reserve-3.ensures.entries.2
      (omega (arith, c.self.invariant.1.spans_spare, c.reserve-3.ensures.spare)),
  reserved_ends (map logged_of c.self.inside.items.items) _ _ _ _ _ c.self.inside.spare c.self.inside.spare c.self.invariant.2 (ap (map logged_of) c.reserve.ensures.items) (λ key. refl) c.self.invariant.2.ends_spare,
)

pub invariant_of-self-in_err-reserve-4 : goal.invariant_of-self-in_err-reserve-4
invariant_of-self-in_err-reserve-4 c = (
  reserved_items c.self.inside.items.items _ _ _ _ _ _ _ c.self.inside.spare c.self.inside.spare c.self.invariant.0 c.reserve.ensures.items c.reserve-2.ensures.entries.2
      (omega (arith, c.self.invariant.0.items_spare, c.reserve.ensures.capacity)) (omega (arith, c.self.invariant.0.tallies_spare, c.reserve-2.ensures.spare)),
  reserved_spans (map logged_of c.self.inside.items.items) _ _ _ _ _ c.self.inside.spare c.self.inside.spare c.self.invariant.1 (ap (map logged_of) c.reserve.ensures.items) c.reserve-3.ensures.entries.2
      (omega (arith, c.self.invariant.1.spans_spare, c.reserve-3.ensures.spare)),
  reserved_ends (map logged_of c.self.inside.items.items) _ _ _ _ _ c.self.inside.spare c.self.inside.spare c.self.invariant.2 (ap (map logged_of) c.reserve.ensures.items) c.reserve-4.ensures.entries.2
      (omega (arith, c.self.invariant.2.ends_spare, c.reserve-4.ensures.spare)),
)

pub invariant_of-self-2 : goal.invariant_of-self-2
invariant_of-self-2 c = (
  reserved_items c.self.inside.items.items _ _ _ _ _ _ _ c.self.inside.spare c.args.n c.self.invariant.0 c.reserve.ensures.items c.reserve-2.ensures.entries.2
      (omega (arith, c.in_ok-reserve.ensures.ok, c.reserve.ensures.len)) (omega (arith, c.in_ok-reserve-2.ensures.ok)),
  reserved_spans (map logged_of c.self.inside.items.items) _ _ _ _ _ c.self.inside.spare c.args.n c.self.invariant.1 (ap (map logged_of) c.reserve.ensures.items) c.reserve-3.ensures.entries.2
      (omega (arith, c.in_ok-reserve-3.ensures.ok)),
  reserved_ends (map logged_of c.self.inside.items.items) _ _ _ _ _ c.self.inside.spare c.args.n c.self.invariant.2 (ap (map logged_of) c.reserve.ensures.items) c.reserve-4.ensures.entries.2
      (omega (arith, c.in_ok-reserve-4.ensures.ok)),
)
