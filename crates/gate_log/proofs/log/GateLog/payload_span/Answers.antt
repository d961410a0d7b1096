use Rattle.std.proofs.Common.{length, ap, arith}
use Rattle.std.proofs.lemmas.List.{length-map}
use Rattle.gate_log.specs.Places.{size_at}
use Rattle.gate_log.specs.View.{LogView}
use Rattle.gate_log.proofs.Spans.{kept_place}
use Rattle.gate_log.proofs.log.GateLog.payload_span.Goals as goal

pub overflow_add-result : goal.overflow_add-result
overflow_add-result c =
    let sized = ap (λ (v : LogView). v.sizes) c.self.view_is in
    let k = kept_place c.self.inside.places.items c.self.inside.end c.args.i c.index-place.result.now c.args.self.now.sizes c.self.invariant.tied
    (omega (arith, c.requires, ap length sized, length-map c.self.inside.places.items size_at)) c.index-place.ensures sized in
    omega (arith, k.within, c.self.invariant.reach)

pub overflow_add-result-2 : goal.overflow_add-result-2
overflow_add-result-2 c =
    let sized = ap (λ (v : LogView). v.sizes) c.self.view_is in
    let k = kept_place c.self.inside.places.items c.self.inside.end c.args.i c.index-place.result.now c.args.self.now.sizes c.self.invariant.tied
    (omega (arith, c.requires, ap length sized, length-map c.self.inside.places.items size_at)) c.index-place.ensures sized in
    omega (arith, k.within, c.self.invariant.reach, c.from.ensures)

pub returns-clause-at : goal.returns-clause-at
returns-clause-at c =
    let sized = ap (λ (v : LogView). v.sizes) c.self.view_is in
    let k = kept_place c.self.inside.places.items c.self.inside.end c.args.i c.index-place.result.now c.args.self.now.sizes c.self.invariant.tied
    (omega (arith, c.requires, ap length sized, length-map c.self.inside.places.items size_at)) c.index-place.ensures sized in
    omega (arith, k.gate, k.head, c.from.ensures)

pub returns-clause-reach : goal.returns-clause-reach
returns-clause-reach c =
    let sized = ap (λ (v : LogView). v.sizes) c.self.view_is in
    let k = kept_place c.self.inside.places.items c.self.inside.end c.args.i c.index-place.result.now c.args.self.now.sizes c.self.invariant.tied
    (omega (arith, c.requires, ap length sized, length-map c.self.inside.places.items size_at)) c.index-place.ensures sized in
    omega (arith, k.within, c.self.invariant.reach, c.from.ensures, c.from-2.ensures)
