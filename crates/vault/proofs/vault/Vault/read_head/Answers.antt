-- The head is read from the log that is kept.
use Rattle.std.proofs.Common.{take, IfOk, subst}
use Rattle.delf_disk.specs.Plain.{Plain}
use Rattle.gate_log.specs.Steps.{HeadRead}
use Rattle.gate_log.specs.View.{LogView}
use Rattle.vault.proofs.vault.Vault.read_head.Goals as goal

pub returns-clause-head : goal.returns-clause-head
returns-clause-head g c =
    subst (λ (v : LogView). IfOk c.read_head.result (λ n. Plain (g.D.Disk.told c.args.disk.now) (g.D.Disk.honest c.args.disk.now)
    → HeadRead v.area v.sizes c.args.i (g.D.Disk.seen c.args.disk.now) (take n c.read_head.new.buf)))
    c.self.view_is c.read_head.ensures.head
