use Rattle.std.proofs.Common.{ℕ, List, [], ◌∷◌, ◌++◌, sym, ap, ◌∙◌, subst}
use Rattle.std.specs.Prelude.{map}
use Rattle.delf_disk.proofs.Flags.{stays_plain}
use Rattle.delf_model.specs.declared.entry.Entry.{Entry}
use Rattle.delf_model.specs.RuleSet.{RuleSet}
use Rattle.delf_model.specs.Step.{after, unhandled}
use Rattle.delf_book.specs.Keeping.{KeepsLogs, KeepsCarriers, KeepsAreas, payloads_in, item_sizes}
use Rattle.delf_book.proofs.Plainly.{areas_longer, at_ledger}
use Rattle.delf_book.proofs.Sizes.{logs_taken}
use Rattle.delf_book.proofs.Carrying.{carriers_longer}
use Rattle.delf_book.proofs.Claiming.{payload_stands}
use Rattle.delf_book.proofs.Taking.{takes_logged}
use Rattle.delf_book.proofs.RowRecords.{puts_none, takes_no_size}
use Rattle.delf_book.proofs.erasing.write_taken.Goals as goal

pub write_row-requires-clause-row : goal.write_row-requires-clause-row
write_row-requires-clause-row g c =
    let l = c.args.ledger.now in
    takes_logged (after l.rules l.history) c.args.entry.now.what c.args.row.now.item c.requires.row

pub write_row-requires-clause-payload : goal.write_row-requires-clause-payload
write_row-requires-clause-payload g c = λ plain.
    let l = c.args.ledger.now in
    let seen = g.D.Disk.seen c.args.disk.now in
    sym (c.requires.payload plain) ∙
    payload_stands l.rules l.history seen (g.D.Disk.may_leave c.args.disk.now) c.args.entry.now.what c.args.row.now.item c.carrying_record-carrier.result c.len-position.ensures.legal
    (g.met.D.Disk.reads_as_image c.args.disk.now plain) (c.requires.areas plain).rests c.requires.row c.carrying_record-carrier.ensures.carrier

pub returns-clause-areas : goal.returns-clause-areas
returns-clause-areas g c = λ plain.
    let l = c.args.ledger.now in
    let e = payloads_in (after l.rules l.history) (g.D.Disk.seen c.args.disk.now) in
    let seen = g.D.Disk.seen c.write_row.new.disk in
    let new = g.met.D.Disk.reads_as_image c.write_row.new.disk (stays_plain c.write_row.ensures.kind plain) in
    at_ledger (λ (r : RuleSet) (h : List Entry). KeepsAreas r h seen (g.D.Disk.may_leave c.write_row.new.disk)) l.rules _ (l.history ++ c.args.entry.now ∷ []) _
    c.enter.ensures.rules c.enter.ensures.history
    (areas_longer l.rules l.history c.args.entry.now [] e seen (g.D.Disk.may_leave c.write_row.new.disk) c.len-position.ensures.legal c.requires.legal new
    (c.in_ok-write_row.ensures.durable plain e (c.requires.areas plain).rests)
    (c.in_ok-write_row.ensures.clean plain))

pub returns-clause-logs : goal.returns-clause-logs
returns-clause-logs g c =
    let l = c.args.ledger.now in
    let takes = takes_logged (after l.rules l.history) c.args.entry.now.what c.args.row.now.item c.requires.row in
    let same = ap (map item_sizes) takes.items in
    at_ledger (λ (r : RuleSet) (h : List Entry). KeepsLogs r h c.write_row.new.journal c.write_row.new.vault) l.rules _ (l.history ++ c.args.entry.now ∷ []) _
    c.enter.ensures.rules c.enter.ensures.history
    (logs_taken l.rules l.history c.args.entry.now c.args.logs.now.journal c.args.logs.now.vault c.write_row.new.journal c.write_row.new.vault c.requires.logs c.write_row.ensures.journal_area c.write_row.ensures.vault_area
    0 (takes_no_size (after l.rules l.history) c.args.entry.now.what c.args.row.now.item takes) c.in_ok-write_row.ensures.journal_sizes
    (item_sizes (unhandled c.args.row.now.item)) (c.in_ok-write_row.ensures.vault_sizes ∙ ap (λ (more : List (ℕ × ℕ)). c.args.logs.now.vault.sizes ++ more) same) same)

pub returns-clause-carriers : goal.returns-clause-carriers
returns-clause-carriers g c =
    let l = c.args.ledger.now in
    let takes = takes_logged (after l.rules l.history) c.args.entry.now.what c.args.row.now.item c.requires.row in
    at_ledger (λ (r : RuleSet) (h : List Entry). KeepsCarriers r h c.push_reserved.new.self.items) l.rules _ (l.history ++ c.args.entry.now ∷ []) _
    c.enter.ensures.rules c.enter.ensures.history
    (subst (λ (items : List ℕ). KeepsCarriers l.rules (l.history ++ c.args.entry.now ∷ []) items)
    (sym (c.push_reserved.ensures.items ∙ ap (λ (n : ℕ). c.args.logs.now.carriers.items ++ n ∷ []) c.len-position.ensures.value))
    (carriers_longer l.rules l.history c.args.entry.now c.args.logs.now.carriers.items c.len-position.ensures.legal c.requires.legal c.requires.carriers
    (puts_none (after l.rules l.history) c.args.entry.now.what c.args.row.now.item takes)))
