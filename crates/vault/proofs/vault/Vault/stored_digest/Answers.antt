-- The last bytes of a head.
use Rattle.std.proofs.Common.{◌≡◌, take, sym, ◌∙◌, ap, subst, arith}
use Rattle.gate_log.specs.Records.{head_of}
use Rattle.gate_log.specs.Places.{size_in}
use Rattle.gate_log.specs.Steps.{HeadRead}
use Rattle.gate_log.specs.View.{LogView}
use Rattle.vault.proofs.ReadLemmas.{seal_read}
use Rattle.vault.proofs.Sizes.{sized_at}
use Rattle.vault.proofs.vault.Vault.stored_digest.Goals as goal

pub returns-clause-seal : goal.returns-clause-seal
returns-clause-seal g c = λ plain mark records sized log.
    let v = c.args.self.now in
    let s = sized_at records v.sizes c.args.i sized c.requires.inside in
    let read = subst (λ (w : LogView). HeadRead w.area w.sizes c.args.i (g.D.Disk.seen c.args.disk.now) (take c.in_ok-len.field-0 c.read_head.new.buf)) c.self.view_is
    (c.in_ok-len.ensures.head plain) mark records sized log in
    let kept : c.in_ok-len.field-0 ≡ (size_in v.sizes c.args.i).0 = c.in_ok-len.ensures.length ∙ ap (λ (w : LogView). (size_in w.sizes c.args.i).0) c.self.view_is in
    seal_read c.read_head.new.buf (head_of records c.args.i) _ c.in_ok-len.field-0 read (s.head ∙ sym kept) (omega (arith, kept, c.requires.sealed)) c.copy_from_slice.ensures.after
