-- What zeros over one payload make of a log.
use Rattle.std.proofs.Common.{◌+◌, ◌≤◌, length, sym, ap, subst, arith}
use Rattle.std.proofs.lemmas.Result.{on_ok_weaker}
use Rattle.delf_disk.specs.declared.area.Area.{Area}
use Rattle.delf_disk.specs.Areas.{area_of}
use Rattle.delf_disk.specs.Moments.{Runs}
use Rattle.delf_disk.proofs.Moments.{widened}
use Rattle.gate_log.specs.Steps.{MayScrub, Scrubs}
use Rattle.gate_log.specs.View.{LogView}
use Rattle.gate_log.proofs.Rows.{log_longer}
use Rattle.gate_log.proofs.Spans.{span_within}
use Rattle.gate_log.proofs.Scrubbing.{may_scrub, scrubs, scrubbed_stands}
use Rattle.gate_log.proofs.log.GateLog.scrub.Goals as goal

pub wipe-requires-clause-within : goal.wipe-requires-clause-within
wipe-requires-clause-within g c = λ plain.
    let v = c.args.self.now in
    let s = c.payload_span-span in
    let stood = c.requires.stands plain (g.D.Disk.seen c.args.disk.now) (g.met.D.Disk.reads_as_image c.args.disk.now plain) in
    subst (λ (x : Area). s.result.at + s.result.len ≤ length (area_of x (g.D.Disk.seen c.args.disk.now))) (sym (ap (λ (w : LogView). w.area) c.self.view_is))
    (omega (arith, s.ensures.at, s.ensures.len, span_within v.sizes 8 c.args.i c.requires.inside, log_longer v.area v.sizes (g.D.Disk.seen c.args.disk.now) stood))

pub returns-clause-scrubbed : goal.returns-clause-scrubbed
returns-clause-scrubbed g c = on_ok_weaker c.wipe.result
    (λ written plain.
    let v = c.args.self.now in
    let s = c.payload_span-span in
    subst (λ (x : Area). Scrubs x v.sizes c.args.i (g.D.Disk.seen c.args.disk.now) (g.D.Disk.seen c.wipe.new.disk)) (ap (λ (w : LogView). w.area) c.self.view_is)
    (scrubs c.self.inside.area v.sizes c.args.i s.result.at s.result.len c.requires.inside s.ensures.at s.ensures.len _ _ (written plain)))
    c.wipe.ensures.written

pub returns-clause-any_moment : goal.returns-clause-any_moment
returns-clause-any_moment g c = λ plain.
    let v = c.args.self.now in
    let s = c.payload_span-span in
    subst (λ (x : Area). Runs g.D.Disk.moment g.D.Disk.may_leave g.D.Disk.left_since (MayScrub x v.sizes c.args.i) c.args.disk.now c.wipe.new.disk) (ap (λ (w : LogView). w.area) c.self.view_is)
    (widened (c.wipe.ensures.any_moment plain) (λ d x image torn. may_scrub c.self.inside.area v.sizes c.args.i s.result.at s.result.len c.requires.inside s.ensures.at s.ensures.len d x torn))

pub returns-clause-stands : goal.returns-clause-stands
returns-clause-stands g c = λ plain x image.
    let v = c.args.self.now in
    let from = (returns-clause-any_moment g c plain).now x image in
    scrubbed_stands v.area v.sizes c.args.i from.0 x from.2 (c.requires.stands plain from.0 from.1)
