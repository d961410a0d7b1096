-- What a read of the place that is kept gives.
use Rattle.std.proofs.Common.{◌≡◌, ◌+◌, ◌≤◌, length, take, drop, sym, ap, subst, arith, length-take}
use Rattle.delf_disk.specs.declared.area.Area.{Area}
use Rattle.delf_disk.specs.Areas.{area_of}
use Rattle.gate_log.specs.View.{LogView}
use Rattle.gate_log.proofs.Spans.{span_within}
use Rattle.gate_log.proofs.Scrubbing.{read_front}
use Rattle.gate_log.proofs.Fronts.{front_longer, front_head_read}
use Rattle.gate_log.proofs.log.GateLog.read_front_head.Goals as goal

pub read-requires : goal.read-requires
read-requires g c = λ plain.
    let v = c.args.self.now in
    let s = c.head_span-head in
    subst (λ (x : Area). s.result.at + length (take s.result.len c.args.buf.now) ≤ length (area_of x (g.D.Disk.seen c.args.disk.now))) (sym (ap (λ (w : LogView). w.area) c.self.view_is))
    (omega (arith, length-take s.result.len c.args.buf.now, s.ensures.at, s.ensures.len, span_within v.sizes 8 c.args.i c.requires.inside, front_longer v.area v.sizes (g.D.Disk.seen c.args.disk.now) (c.requires.fronts plain)))

pub returns-clause-head : goal.returns-clause-head
returns-clause-head g c = λ plain.
    let v = c.args.self.now in
    let s = c.head_span-head in
    let areas = g.D.Disk.seen c.args.disk.now in
    let bytes = subst (λ (x : Area). c.read.new.buf ≡ take (length (take s.result.len c.args.buf.now)) (drop s.result.at (area_of x areas))) (ap (λ (w : LogView). w.area) c.self.view_is) (c.in_ok-read.ensures.bytes plain) in
    let within : s.result.at + s.result.len ≤ length (area_of v.area areas) = omega (arith, s.ensures.at, s.ensures.len, span_within v.sizes 8 c.args.i c.requires.inside, front_longer v.area v.sizes areas (c.requires.fronts plain)) in
    front_head_read v.area v.sizes c.args.i s.result.at s.result.len c.requires.inside s.ensures.at s.ensures.len areas _
    (read_front c.args.buf.now c.read.new.buf _ (area_of v.area areas) s.result.at s.result.len bytes (omega (arith, c.requires.fits, s.ensures.len, c.told-buf)) within)
