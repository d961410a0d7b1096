-- What a record's head spells.
use Rattle.std.proofs.Common.{◌≡◌, ◌<◌, ℕ, length, take, ◌∙◌, ap, subst, arith}
use Rattle.gate_log.specs.Records.{head_of, payload_of}
use Rattle.gate_log.specs.Places.{size_in}
use Rattle.gate_log.specs.Steps.{HeadRead}
use Rattle.gate_log.specs.View.{LogView}
use Rattle.vault.proofs.Sizes.{sized_at, too_long}
use Rattle.vault.proofs.ReadLemmas.{spells_read}
use Rattle.vault.proofs.vault.Vault.item.Goals as goal

pub returns-then-head-gt128-clause-item : goal.returns-then-head-gt128-clause-item
returns-then-head-gt128-clause-item g c = λ plain mark records sized log it digest is.
    let v = c.args.self.now in
    let s = sized_at records v.sizes c.args.i sized c.requires.inside in
    let kept = c.sizes-head.ensures ∙ ap (λ (w : LogView). size_in w.sizes c.args.i) c.self.view_is in
    let long : 128 < length (head_of records c.args.i) = omega (arith, s.head, ap (λ (p : ℕ × ℕ). p.0) kept, c.if-head-gt128.true) in
    too_long (head_of records c.args.i) (length (payload_of records c.args.i)) long it digest is

pub returns-clause-item : goal.returns-clause-item
returns-clause-item g c = λ plain mark records sized log.
    let v = c.args.self.now in
    let s = sized_at records v.sizes c.args.i sized c.requires.inside in
    let kept = c.sizes-head.ensures ∙ ap (λ (w : LogView). size_in w.sizes c.args.i) c.self.view_is in
    let read = subst (λ (w : LogView). HeadRead w.area w.sizes c.args.i (g.D.Disk.seen c.args.disk.now) (take c.in_ok-len.len c.read_head.new.buf)) c.self.view_is
    (c.in_ok-len.ensures.head plain) in
    let size : c.from.result ≡ length (payload_of records c.args.i) = omega (arith, s.payload, ap (λ (p : ℕ × ℕ). p.1) kept, c.from.ensures) in
    spells_read c.read_item.result _ (head_of records c.args.i) _ (length (payload_of records c.args.i)) (read mark records sized log) size
    c.read_item.ensures.found c.read_item.ensures.none
