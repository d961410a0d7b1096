-- What the two reads of a fetch give.
use Rattle.std.proofs.Common.{◌≡◌, List, ℕ, take, sym, ◌∙◌, ap, subst, rules}
use Rattle.sha2.specs.Sha256.{sha256}
use Rattle.delf_disk.specs.Areas.{Areas, area_of}
use Rattle.delf_disk.proofs.Flags.{stays_plain}
use Rattle.gate_log.specs.Logs.{Log}
use Rattle.gate_log.specs.Steps.{PayloadRead}
use Rattle.gate_log.specs.View.{LogView}
use Rattle.vault.proofs.vault.Vault.fetch.Goals as goal

pub returns-then-ne-clause-damaged : goal.returns-then-ne-clause-damaged
returns-then-ne-clause-damaged g c = λ plain mark records sized log.
    let v = c.args.self.now in
    let there = subst (λ (y : Areas). Log mark records (area_of v.area y)) (sym (c.stored_digest.ensures.seen plain)) log in
    let read = subst (λ (w : LogView). PayloadRead w.area w.sizes c.args.i (g.D.Disk.seen c.stored_digest.new.disk) (take c.in_ok-len.len c.read_payload.new.buf)) c.self.view_is
    (c.in_ok-len.ensures.payload (stays_plain c.stored_digest.ensures.kind plain)) mark records sized there in
    (c.in_ok-stored.ensures.seal plain mark records sized log, c.digest_of-found.ensures ∙ ap (λ (l : List ℕ). sha256 l) read)

pub returns-clause-fetched : goal.returns-clause-fetched
returns-clause-fetched g c = λ plain mark records sized log.
    let v = c.args.self.now in
    let there = subst (λ (y : Areas). Log mark records (area_of v.area y)) (sym (c.stored_digest.ensures.seen plain)) log in
    let read = subst (λ (w : LogView). PayloadRead w.area w.sizes c.args.i (g.D.Disk.seen c.stored_digest.new.disk) (take c.in_ok-len.len c.read_payload.new.buf)) c.self.view_is
    (c.in_ok-len.ensures.payload (stays_plain c.stored_digest.ensures.kind plain)) mark records sized there in
    let same : c.in_ok-stored.stored ≡ c.digest_of-found.result = search rules in
    (read, sym (c.in_ok-stored.ensures.seal plain mark records sized log) ∙ same ∙ c.digest_of-found.ensures)
