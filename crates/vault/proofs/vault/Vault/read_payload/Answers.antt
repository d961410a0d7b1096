-- The payload is read from the log that is kept.
use Rattle.std.proofs.Common.{take, IfOk, subst}
use Rattle.delf_disk.specs.Plain.{Plain}
use Rattle.gate_log.specs.Steps.{PayloadRead}
use Rattle.gate_log.specs.View.{LogView}
use Rattle.vault.proofs.vault.Vault.read_payload.Goals as goal

pub returns-clause-payload : goal.returns-clause-payload
returns-clause-payload g c =
    subst (λ (v : LogView). IfOk c.read_payload.result (λ n. Plain (g.D.Disk.told c.args.disk.now) (g.D.Disk.honest c.args.disk.now)
    → PayloadRead v.area v.sizes c.args.i (g.D.Disk.seen c.args.disk.now) (take n c.read_payload.new.buf)))
    c.self.view_is c.read_payload.ensures.payload
