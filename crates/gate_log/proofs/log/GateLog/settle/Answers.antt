-- What zeros behind the closed gate make of a log.
use Rattle.std.proofs.Common.{◌+◌, ◌-◌, length, refl, sym, subst, arith}
use Rattle.std.proofs.lemmas.Result.{on_ok_weaker}
use Rattle.delf_disk.specs.Areas.{Areas, area_of}
use Rattle.delf_disk.specs.Moments.{Runs}
use Rattle.delf_disk.proofs.Flags.{stays_plain}
use Rattle.delf_disk.proofs.Moments.{widened, kept}
use Rattle.gate_log.specs.Logs.{StandIn}
use Rattle.gate_log.specs.Places.{sizes_at}
use Rattle.gate_log.specs.Steps.{MaySettle, Settles}
use Rattle.gate_log.specs.View.{LogView}
use Rattle.gate_log.proofs.Rows.{log_longer}
use Rattle.gate_log.proofs.Closing.{may_settle, settles, settled_stands}
use Rattle.gate_log.proofs.log.GateLog.settle.Goals as goal

pub wipe_tail-requires-clause-within : goal.wipe_tail-requires-clause-within
wipe_tail-requires-clause-within g c = λ plain.
    let at_view = subst (λ (v : LogView). StandIn v.area v.sizes (g.D.Disk.may_leave c.args.disk.now)) (sym c.self.view_is) (c.requires plain) in
    let stood = at_view (g.D.Disk.seen c.args.disk.now) (g.met.D.Disk.reads_as_image c.args.disk.now plain) in
    omega (arith, log_longer c.self.inside.area (sizes_at c.self.inside.places.items) (g.D.Disk.seen c.args.disk.now) stood, c.self.invariant.tied.end_is)

pub returns-in_err-wipe_tail-clause-any_moment : goal.returns-in_err-wipe_tail-clause-any_moment
returns-in_err-wipe_tail-clause-any_moment g c = λ plain.
    subst (λ (v : LogView). Runs g.D.Disk.moment g.D.Disk.may_leave g.D.Disk.left_since (MaySettle v.area v.sizes) c.args.disk.now c.wipe_tail.new.disk) c.self.view_is
    (widened (c.wipe_tail.ensures.any_moment plain)
    (λ d x image torn. may_settle c.self.inside.area (sizes_at c.self.inside.places.items) c.self.inside.end c.self.invariant.tied.end_is (length (area_of c.self.inside.area (g.D.Disk.seen c.args.disk.now)) - (c.self.inside.end + 1)) d x torn))

pub returns-in_err-wipe_tail-clause-stands : goal.returns-in_err-wipe_tail-clause-stands
returns-in_err-wipe_tail-clause-stands g c = λ plain x image.
    let v = c.args.self.now in
    let from = (returns-in_err-wipe_tail-clause-any_moment g c plain).now x image in
    settled_stands v.area v.sizes from.0 x from.2 (c.requires plain from.0 from.1)

pub returns-clause-any_moment : goal.returns-clause-any_moment
returns-clause-any_moment g c = λ plain.
    let wiped = subst (λ (v : LogView). Runs g.D.Disk.moment g.D.Disk.may_leave g.D.Disk.left_since (MaySettle v.area v.sizes) c.args.disk.now c.wipe_tail.new.disk) c.self.view_is
    (widened (c.wipe_tail.ensures.any_moment plain)
    (λ d x image torn. may_settle c.self.inside.area (sizes_at c.self.inside.places.items) c.self.inside.end c.self.invariant.tied.end_is (length (area_of c.self.inside.area (g.D.Disk.seen c.args.disk.now)) - (c.self.inside.end + 1)) d x torn)) in
    kept wiped (c.sync.ensures.images (stays_plain c.wipe_tail.ensures.kind plain))

pub returns-clause-stands : goal.returns-clause-stands
returns-clause-stands g c = λ plain x image.
    let v = c.args.self.now in
    let from = (returns-clause-any_moment g c plain).now x image in
    settled_stands v.area v.sizes from.0 x from.2 (c.requires plain from.0 from.1)

pub returns-clause-settled : goal.returns-clause-settled
returns-clause-settled g c = on_ok_weaker c.sync.result
    (λ stable plain.
    let written = settles c.self.inside.area (sizes_at c.self.inside.places.items) c.self.inside.end c.self.invariant.tied.end_is _ _ _ refl (c.in_ok-wipe_tail.ensures.written plain) in
    let at_value = subst (λ (v : LogView). Settles v.area v.sizes (g.D.Disk.seen c.args.disk.now) (g.D.Disk.seen c.wipe_tail.new.disk)) c.self.view_is written in
    subst (λ (y : Areas). Settles c.args.self.now.area c.args.self.now.sizes (g.D.Disk.seen c.args.disk.now) y) (sym (c.sync.ensures.seen (stays_plain c.wipe_tail.ensures.kind plain))) at_value)
    c.sync.ensures.stable
