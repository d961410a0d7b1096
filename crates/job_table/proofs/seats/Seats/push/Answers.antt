use Rattle.std.proofs.Common.{◌≡◌, ◌∙◌, sym, ap, arith, length}
use Rattle.std.specs.Prelude.{nat_eq, count_by}
use Rattle.job_table.specs.Parts.{SeatPart}
use Rattle.job_table.proofs.Seating.{pushed_fits}
use Rattle.job_table.proofs.seats.Seats.push.Goals as goal

pub invariant_of-self : goal.invariant_of-self
invariant_of-self c =
    let spare : c.self.inside.spare ≡ c.args.self.now.spare = ap (λ (m : SeatPart). m.spare) c.self.view_is in
    let len : length c.self.inside.seats.items ≡ length c.args.self.now.list = ap (λ (m : SeatPart). length m.list) c.self.view_is in
    pushed_fits c.self.inside.seats.items _ _ _ _ _ _ _ _ _ c.self.inside.spare c.args.seat c.entries-entries.result c.self.invariant c.push_reserved.ensures.items
    (c.entries-entries.ensures.value ∙ sym (ap (λ (m : SeatPart). count_by (λ other. nat_eq other c.args.seat) m.list) c.self.view_is))
    c.in-Ok.ensures.updates.0 c.greater-self-inside.ensures c.push_reserved.ensures.capacity c.in-Ok.ensures.spare (omega (arith, spare, c.requires.spare)) (omega (arith, len, c.requires.fits))
