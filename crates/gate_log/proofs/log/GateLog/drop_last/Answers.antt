-- What the last gate, closed, makes of a log.
use Rattle.std.proofs.Common.{◌≡◌, ◌-◌, ◌<◌, ℕ, List, length, take, refl, sym, ◌∙◌, ap, subst, arith}
use Rattle.std.proofs.lemmas.List.{length-map}
use Rattle.delf_disk.specs.Areas.{Areas}
use Rattle.delf_disk.specs.Moments.{Runs}
use Rattle.delf_disk.proofs.Moments.{widened}
use Rattle.gate_log.specs.declared.scan.Place.{Place}
use Rattle.gate_log.specs.Logs.{Stands, StandIn}
use Rattle.gate_log.specs.Places.{end_from, size_at, sizes_at, AreTied}
use Rattle.gate_log.specs.Steps.{MayDrop, Drops}
use Rattle.gate_log.specs.View.{LogView}
use Rattle.gate_log.proofs.Rows.{log_longer}
use Rattle.gate_log.proofs.Spans.{kept_place, gate_from_front, sizes_at-take, tied_front}
use Rattle.gate_log.proofs.Closing.{may_drop, drops, dropped_stands}
use Rattle.gate_log.proofs.log.GateLog.drop_last.Goals as goal

pub close-requires : goal.close-requires
close-requires g c = λ plain.
    let sizes = sizes_at c.self.inside.places.items in
    let count : c.len-kept.result ≡ length (sizes_at c.self.inside.places.items) = omega (arith, c.len-kept.ensures, c.self.inside.places.ok.0, length-map c.self.inside.places.items size_at) in
    let some : 0 < length (sizes_at c.self.inside.places.items) = subst (λ (v : LogView). 0 < length v.sizes) (sym c.self.view_is) c.requires.some in
    let last = kept_place c.self.inside.places.items c.self.inside.end (c.len-kept.result - 1) c.index.result.now sizes c.self.invariant.tied
    (omega (arith, count, some, length-map c.self.inside.places.items size_at)) c.index.ensures refl in
    let at_view = subst (λ (v : LogView). StandIn v.area v.sizes (g.D.Disk.may_leave c.args.disk.now)) (sym c.self.view_is) (c.requires.stands plain) in
    let stood = at_view (g.D.Disk.seen c.args.disk.now) (g.met.D.Disk.reads_as_image c.args.disk.now plain) in
    omega (arith, log_longer c.self.inside.area (sizes_at c.self.inside.places.items) (g.D.Disk.seen c.args.disk.now) stood, c.self.invariant.tied.end_is, last.within)

pub returns-in_err-close-clause-any_moment : goal.returns-in_err-close-clause-any_moment
returns-in_err-close-clause-any_moment g c = λ plain.
    let sizes = sizes_at c.self.inside.places.items in
    let count : c.len-kept.result ≡ length (sizes_at c.self.inside.places.items) = omega (arith, c.len-kept.ensures, c.self.inside.places.ok.0, length-map c.self.inside.places.items size_at) in
    let some : 0 < length (sizes_at c.self.inside.places.items) = subst (λ (v : LogView). 0 < length v.sizes) (sym c.self.view_is) c.requires.some in
    let last = kept_place c.self.inside.places.items c.self.inside.end (c.len-kept.result - 1) c.index.result.now sizes c.self.invariant.tied
    (omega (arith, count, some, length-map c.self.inside.places.items size_at)) c.index.ensures refl in
    let place = last.gate ∙ gate_from_front sizes 8 (c.len-kept.result - 1) ∙ ap (λ (k : ℕ). end_from 8 (take (k - 1) sizes)) count in
    subst (λ (v : LogView). Runs g.D.Disk.moment g.D.Disk.may_leave g.D.Disk.left_since (MayDrop v.area v.sizes) c.args.disk.now c.close.new.disk) c.self.view_is
    (widened (c.close.ensures.any_moment plain) (λ d x image change. may_drop c.self.inside.area (sizes_at c.self.inside.places.items) c.index.result.now.gate place d x change))

pub returns-clause-any_moment : goal.returns-clause-any_moment
returns-clause-any_moment g c = λ plain.
    let sizes = sizes_at c.self.inside.places.items in
    let count : c.len-kept.result ≡ length (sizes_at c.self.inside.places.items) = omega (arith, c.len-kept.ensures, c.self.inside.places.ok.0, length-map c.self.inside.places.items size_at) in
    let some : 0 < length (sizes_at c.self.inside.places.items) = subst (λ (v : LogView). 0 < length v.sizes) (sym c.self.view_is) c.requires.some in
    let last = kept_place c.self.inside.places.items c.self.inside.end (c.len-kept.result - 1) c.index.result.now sizes c.self.invariant.tied
    (omega (arith, count, some, length-map c.self.inside.places.items size_at)) c.index.ensures refl in
    let place = last.gate ∙ gate_from_front sizes 8 (c.len-kept.result - 1) ∙ ap (λ (k : ℕ). end_from 8 (take (k - 1) sizes)) count in
    subst (λ (v : LogView). Runs g.D.Disk.moment g.D.Disk.may_leave g.D.Disk.left_since (MayDrop v.area v.sizes) c.args.disk.now c.close.new.disk) c.self.view_is
    (widened (c.close.ensures.any_moment plain) (λ d x image change. may_drop c.self.inside.area (sizes_at c.self.inside.places.items) c.index.result.now.gate place d x change))

pub returns-clause-dropped : goal.returns-clause-dropped
returns-clause-dropped g c = λ plain.
    let sizes = sizes_at c.self.inside.places.items in
    let count : c.len-kept.result ≡ length (sizes_at c.self.inside.places.items) = omega (arith, c.len-kept.ensures, c.self.inside.places.ok.0, length-map c.self.inside.places.items size_at) in
    let some : 0 < length (sizes_at c.self.inside.places.items) = subst (λ (v : LogView). 0 < length v.sizes) (sym c.self.view_is) c.requires.some in
    let last = kept_place c.self.inside.places.items c.self.inside.end (c.len-kept.result - 1) c.index.result.now sizes c.self.invariant.tied
    (omega (arith, count, some, length-map c.self.inside.places.items size_at)) c.index.ensures refl in
    let place = last.gate ∙ gate_from_front sizes 8 (c.len-kept.result - 1) ∙ ap (λ (k : ℕ). end_from 8 (take (k - 1) sizes)) count in
    subst (λ (v : LogView). Drops v.area v.sizes (g.D.Disk.seen c.args.disk.now) (g.D.Disk.seen c.close.new.disk)) c.self.view_is
    (drops c.self.inside.area (sizes_at c.self.inside.places.items) c.index.result.now.gate place _ _ (c.in_ok-close.ensures.closes plain))

pub returns-clause-stands : goal.returns-clause-stands
returns-clause-stands g c = λ plain x image.
    let sizes = sizes_at c.self.inside.places.items in
    let count : c.len-kept.result ≡ length (sizes_at c.self.inside.places.items) = omega (arith, c.len-kept.ensures, c.self.inside.places.ok.0, length-map c.self.inside.places.items size_at) in
    let some : 0 < length (sizes_at c.self.inside.places.items) = subst (λ (v : LogView). 0 < length v.sizes) (sym c.self.view_is) c.requires.some in
    let last = kept_place c.self.inside.places.items c.self.inside.end (c.len-kept.result - 1) c.index.result.now sizes c.self.invariant.tied
    (omega (arith, count, some, length-map c.self.inside.places.items size_at)) c.index.ensures refl in
    let place = last.gate ∙ gate_from_front sizes 8 (c.len-kept.result - 1) ∙ ap (λ (k : ℕ). end_from 8 (take (k - 1) sizes)) count in
    let dropped = drops c.self.inside.area sizes c.index.result.now.gate place _ _ (c.in_ok-close.ensures.closes plain) in
    let at_view = subst (λ (v : LogView). StandIn v.area v.sizes (g.D.Disk.may_leave c.args.disk.now)) (sym c.self.view_is) (c.requires.stands plain) in
    let stood = at_view (g.D.Disk.seen c.args.disk.now) (g.met.D.Disk.reads_as_image c.args.disk.now plain) in
    let now = dropped_stands c.self.inside.area sizes (g.D.Disk.seen c.args.disk.now) (g.D.Disk.seen c.close.new.disk) some dropped stood in
    let left : sizes_at c.truncate.new.self.items ≡ take (length (sizes_at c.self.inside.places.items) - 1) (sizes_at c.self.inside.places.items) =
    ap (λ (l : List Place). sizes_at l) c.truncate.ensures.items ∙ sizes_at-take c.self.inside.places.items (c.len-kept.result - 1) ∙ ap (λ (k : ℕ). take (k - 1) sizes) count in
    subst (λ (y : Areas). Stands c.self.inside.area (sizes_at c.truncate.new.self.items) y) (sym (c.in_ok-close.ensures.durable plain x image))
    (subst (λ (l : List (ℕ × ℕ)). Stands c.self.inside.area l (g.D.Disk.seen c.close.new.disk)) (sym left) now)

pub invariant_of-self : goal.invariant_of-self
invariant_of-self g c =
    let sizes = sizes_at c.self.inside.places.items in
    let count : c.len-kept.result ≡ length (sizes_at c.self.inside.places.items) = omega (arith, c.len-kept.ensures, c.self.inside.places.ok.0, length-map c.self.inside.places.items size_at) in
    let some : 0 < length (sizes_at c.self.inside.places.items) = subst (λ (v : LogView). 0 < length v.sizes) (sym c.self.view_is) c.requires.some in
    let last = kept_place c.self.inside.places.items c.self.inside.end (c.len-kept.result - 1) c.index.result.now sizes c.self.invariant.tied
    (omega (arith, count, some, length-map c.self.inside.places.items size_at)) c.index.ensures refl in
    let s = c.self.invariant in
    record {
      tied = subst (λ (l : List Place). AreTied l c.index.result.now.gate) (sym c.truncate.ensures.items)
          (tied_front c.self.inside.places.items (c.len-kept.result - 1) c.self.inside.end c.index.result.now.gate last.gate s.tied);
      room = omega (arith, s.room, c.truncate.ensures.len, c.truncate.ensures.capacity);
      count = omega (arith, s.count, c.truncate.ensures.len);
      reach = omega (arith, s.reach, last.within);
      buffer = s.buffer;
    }
