use Rattle.std.proofs.Common.{length, ap, arith}
use Rattle.std.proofs.lemmas.List.{length-map}
use Rattle.gate_log.specs.Places.{size_at, end_from}
use Rattle.gate_log.specs.View.{LogView}
use Rattle.gate_log.proofs.Spans.{kept_place}
use Rattle.gate_log.proofs.Fronts.{gate_from_end}
use Rattle.gate_log.proofs.log.GateLog.gate.Goals as goal

pub returns-then-i-len : goal.returns-then-i-len
returns-then-i-len c =
    let sized = ap (λ (v : LogView). v.sizes) c.self.view_is in
    let k = kept_place c.self.inside.places.items c.self.inside.end c.args.i c.index.result.now c.args.self.now.sizes c.self.invariant.tied
    (omega (arith, c.if-i-len.true, c.len.ensures)) c.index.ensures sized in
    k.gate

pub returns-else-i-len : goal.returns-else-i-len
returns-else-i-len c =
    let sized = ap (λ (v : LogView). v.sizes) c.self.view_is in
    let all = gate_from_end c.args.self.now.sizes 8 c.args.i (omega (arith, c.if-i-len.false, c.len.ensures, ap length sized, length-map c.self.inside.places.items size_at)) in
    omega (arith, c.self.invariant.tied.end_is, ap (end_from 8) sized, all)
