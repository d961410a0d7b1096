use Rattle.std.proofs.Common.{ℕ, List, [], ◌∷◌, ◌++◌, length, refl, sym, ap, ◌∙◌, subst}
use Rattle.delf_model.specs.declared.entry.Entry.{Entry}
use Rattle.delf_model.specs.RuleSet.{RuleSet}
use Rattle.delf_model.specs.State.{start}
use Rattle.delf_model.specs.Step.{after}
use Rattle.delf_disk.proofs.Flags.{stays_plain}
use Rattle.delf_book.specs.Keeping.{KeepsLogs, KeepsCarriers, KeepsAreas, payloads_in}
use Rattle.delf_book.proofs.Plainly.{plain_writes, clean_for, areas_longer, at_ledger, if_below}
use Rattle.delf_book.proofs.Sizes.{journal_in, logs_longer, length_journal_sizes}
use Rattle.delf_book.proofs.Carrying.{carriers_longer}
use Rattle.delf_book.proofs.adding.add.Goals as goal

pub write_over-requires-clause-stands : goal.write_over-requires-clause-stands
write_over-requires-clause-stands g c = λ plain.
    let l = c.args.ledger.now in
    journal_in l.rules l.history c.args.logs.now.journal c.args.logs.now.vault (g.D.Disk.may_leave c.args.disk.now) c.requires.logs
    (payloads_in (after l.rules l.history) (g.D.Disk.seen c.args.disk.now)) (c.requires.areas plain).rests

pub write_over-requires-clause-inside : goal.write_over-requires-clause-inside
write_over-requires-clause-inside g c =
    let l = c.args.ledger.now in
    if_below c.args.dead (length l.history) (length c.args.logs.now.journal.sizes) (sym (ap length c.requires.logs.journal_is ∙ length_journal_sizes (start l.rules) l.history)) c.requires.inside

pub returns-in_err-write_over-clause-crash : goal.returns-in_err-write_over-clause-crash
returns-in_err-write_over-clause-crash g c = λ plain e rests.
    let l = c.args.ledger.now in
    c.write_over.ensures.crash plain l.rules l.history e c.args.payload.now []
    (plain_writes l.rules l.history e c.args.entry.now c.args.payload.now (g.D.Disk.may_leave c.args.disk.now) c.len-position.ensures.legal c.requires.legal c.requires.no_item c.requires.no_put
    c.requires.size rests) c.requires.dead

pub returns-clause-crash : goal.returns-clause-crash
returns-clause-crash g c = λ plain e rests.
    let l = c.args.ledger.now in
    c.write_over.ensures.crash plain l.rules l.history e c.args.payload.now []
    (plain_writes l.rules l.history e c.args.entry.now c.args.payload.now (g.D.Disk.may_leave c.args.disk.now) c.len-position.ensures.legal c.requires.legal c.requires.no_item c.requires.no_put
    c.requires.size rests) c.requires.dead

pub returns-clause-durable : goal.returns-clause-durable
returns-clause-durable g c = λ plain e rests.
    let l = c.args.ledger.now in
    c.in_ok-write_over.ensures.done plain l.rules l.history e c.args.payload.now []
    (plain_writes l.rules l.history e c.args.entry.now c.args.payload.now (g.D.Disk.may_leave c.args.disk.now) c.len-position.ensures.legal c.requires.legal c.requires.no_item c.requires.no_put
    c.requires.size rests) c.requires.dead

pub returns-clause-areas : goal.returns-clause-areas
returns-clause-areas g c = λ plain.
    let l = c.args.ledger.now in
    let kept = c.requires.areas plain in
    let e = payloads_in (after l.rules l.history) (g.D.Disk.seen c.args.disk.now) in
    let writes = plain_writes l.rules l.history e c.args.entry.now c.args.payload.now (g.D.Disk.may_leave c.args.disk.now) c.len-position.ensures.legal c.requires.legal c.requires.no_item c.requires.no_put
    c.requires.size kept.rests in
    let old = g.met.D.Disk.reads_as_image c.args.disk.now plain in
    let new = g.met.D.Disk.reads_as_image c.write_over.new.disk (stays_plain c.write_over.ensures.kind plain) in
    at_ledger (λ (r : RuleSet) (h : List Entry). KeepsAreas r h (g.D.Disk.seen c.write_over.new.disk) (g.D.Disk.may_leave c.write_over.new.disk)) l.rules _ (l.history ++ c.args.entry.now ∷ []) _
    c.enter.ensures.rules c.enter.ensures.history
    (areas_longer l.rules l.history c.args.entry.now c.args.payload.now e (g.D.Disk.seen c.write_over.new.disk) (g.D.Disk.may_leave c.write_over.new.disk) c.len-position.ensures.legal c.requires.legal new
    (c.in_ok-write_over.ensures.done plain l.rules l.history e c.args.payload.now [] writes c.requires.dead)
    (c.in_ok-write_over.ensures.clean plain l.rules l.history e c.args.payload.now [] writes c.requires.dead
    (clean_for l.rules l.history e (g.D.Disk.seen c.args.disk.now) (g.D.Disk.may_leave c.args.disk.now) old kept.rests kept.clean)))

pub returns-clause-logs : goal.returns-clause-logs
returns-clause-logs g c =
    let l = c.args.ledger.now in
    at_ledger (λ (r : RuleSet) (h : List Entry). KeepsLogs r h c.write_over.new.journal c.args.logs.now.vault) l.rules _ (l.history ++ c.args.entry.now ∷ []) _
    c.enter.ensures.rules c.enter.ensures.history
    (logs_longer l.rules l.history c.args.entry.now c.args.logs.now.journal c.args.logs.now.vault c.write_over.new.journal c.args.logs.now.vault c.requires.logs c.write_over.ensures.area refl
    (length c.args.payload.now) c.requires.size c.in_ok-write_over.ensures.sizes refl c.requires.no_item)

pub returns-clause-carriers : goal.returns-clause-carriers
returns-clause-carriers g c =
    let l = c.args.ledger.now in
    at_ledger (λ (r : RuleSet) (h : List Entry). KeepsCarriers r h c.push_reserved.new.self.items) l.rules _ (l.history ++ c.args.entry.now ∷ []) _
    c.enter.ensures.rules c.enter.ensures.history
    (subst (λ (items : List ℕ). KeepsCarriers l.rules (l.history ++ c.args.entry.now ∷ []) items)
    (sym (c.push_reserved.ensures.items ∙ ap (λ (n : ℕ). c.args.logs.now.carriers.items ++ n ∷ []) c.len-position.ensures.value))
    (carriers_longer l.rules l.history c.args.entry.now c.args.logs.now.carriers.items c.len-position.ensures.legal c.requires.legal c.requires.carriers c.requires.no_put))
