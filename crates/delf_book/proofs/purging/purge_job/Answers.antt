use Rattle.std.proofs.Common.{ℕ, List, [], ◌∷◌, ◌++◌, sym, ap, ◌∙◌, subst}
use Rattle.delf_disk.proofs.Flags.{stays_plain, was_plain}
use Rattle.delf_disk.proofs.Moments.{leaves_widened}
use Rattle.delf_model.specs.declared.entry.Entry.{Entry}
use Rattle.delf_model.specs.RuleSet.{RuleSet}
use Rattle.delf_model.specs.Step.{after}
use Rattle.delf_book.specs.Keeping.{KeepsLogs, KeepsCarriers, KeepsAreas, payloads_in}
use Rattle.delf_book.specs.Writing.{longer, next_payloads}
use Rattle.delf_book.proofs.Carrying.{carriers_longer}
use Rattle.delf_book.proofs.Plainly.{clean_for, areas_longer, at_ledger}
use Rattle.delf_book.proofs.Scrubbing.{purges_of, purge_writes, purge_dead, purge_left, vault_stays}
use Rattle.delf_book.proofs.Sizes.{journal_in, logs_longer}
use Rattle.delf_book.proofs.Writes.{leaves_joined, rests_stand}
use Rattle.delf_book.proofs.purging.purge_job.Goals as goal

pub write_record-requires-clause-stands : goal.write_record-requires-clause-stands
write_record-requires-clause-stands g c = λ plain.
    let l = c.args.ledger.now in
    journal_in l.rules l.history c.args.logs.now.journal c.args.logs.now.vault (g.D.Disk.may_leave c.args.disk.now) c.requires.logs
    (payloads_in (after l.rules l.history) (g.D.Disk.seen c.args.disk.now)) (c.requires.areas plain).rests

pub returns-in_err-write_record-clause-crash : goal.returns-in_err-write_record-clause-crash
returns-in_err-write_record-clause-crash g c = λ plain e rests.
    let l = c.args.ledger.now in
    let purges = purges_of (after l.rules l.history) c.args.entry.now.what c.purged_by-job.result c.purged_by-job.ensures in
    c.write_record.ensures.crash plain l.rules l.history e [] []
    (purge_writes l.rules l.history c.args.entry.now c.purged_by-job.result c.len-position.ensures.legal c.requires.legal purges e (g.D.Disk.may_leave c.args.disk.now) rests)

pub scrub_job-requires-clause-stands : goal.scrub_job-requires-clause-stands
scrub_job-requires-clause-stands g c = λ plain.
    let l = c.args.ledger.now in
    let was = was_plain c.write_record.ensures.kind plain in
    let job = c.purged_by-job.result in
    let purges = purges_of (after l.rules l.history) c.args.entry.now.what job c.purged_by-job.ensures in
    let e = payloads_in (after l.rules l.history) (g.D.Disk.seen c.args.disk.now) in
    vault_stays l.rules l.history c.args.entry.now job c.len-position.ensures.legal c.requires.legal purges c.args.logs.now.journal c.args.logs.now.vault
    (next_payloads l.rules l.history e c.args.entry.now []) (g.D.Disk.may_leave c.write_record.new.disk) c.requires.logs
    (c.in_ok-write_record.ensures.done was l.rules l.history e [] []
    (purge_writes l.rules l.history c.args.entry.now job c.len-position.ensures.legal c.requires.legal purges e (g.D.Disk.may_leave c.args.disk.now) (c.requires.areas was).rests))

pub returns-in_err-scrub_job-clause-crash : goal.returns-in_err-scrub_job-clause-crash
returns-in_err-scrub_job-clause-crash g c = λ plain e rests.
    let l = c.args.ledger.now in
    let entry : Entry = c.args.entry.now in
    let job = c.purged_by-job.result in
    let legal = c.len-position.ensures.legal in
    let purges = purges_of (after l.rules l.history) entry.what job c.purged_by-job.ensures in
    let writes = purge_writes l.rules l.history entry job legal c.requires.legal purges e (g.D.Disk.may_leave c.args.disk.now) rests in
    leaves_joined (c.write_record.ensures.crash plain l.rules l.history e [] [] writes)
    (leaves_widened (c.scrub_job.ensures.crash (stays_plain c.write_record.ensures.kind plain) l.rules (longer l.history entry) (next_payloads l.rules l.history e entry [])
    (c.in_ok-write_record.ensures.done plain l.rules l.history e [] [] writes) (purge_dead l.rules l.history entry job legal c.requires.legal purges))
    (rests_stand l.rules l.history e entry [] legal c.requires.legal))

pub returns-clause-crash : goal.returns-clause-crash
returns-clause-crash g c = λ plain e rests.
    let l = c.args.ledger.now in
    let entry : Entry = c.args.entry.now in
    let job = c.purged_by-job.result in
    let legal = c.len-position.ensures.legal in
    let purges = purges_of (after l.rules l.history) entry.what job c.purged_by-job.ensures in
    let writes = purge_writes l.rules l.history entry job legal c.requires.legal purges e (g.D.Disk.may_leave c.args.disk.now) rests in
    leaves_joined (c.write_record.ensures.crash plain l.rules l.history e [] [] writes)
    (leaves_widened (c.scrub_job.ensures.crash (stays_plain c.write_record.ensures.kind plain) l.rules (longer l.history entry) (next_payloads l.rules l.history e entry [])
    (c.in_ok-write_record.ensures.done plain l.rules l.history e [] [] writes) (purge_dead l.rules l.history entry job legal c.requires.legal purges))
    (rests_stand l.rules l.history e entry [] legal c.requires.legal))

pub returns-clause-durable : goal.returns-clause-durable
returns-clause-durable g c = λ plain e rests.
    let l = c.args.ledger.now in
    let entry : Entry = c.args.entry.now in
    let job = c.purged_by-job.result in
    let legal = c.len-position.ensures.legal in
    let purges = purges_of (after l.rules l.history) entry.what job c.purged_by-job.ensures in
    let writes = purge_writes l.rules l.history entry job legal c.requires.legal purges e (g.D.Disk.may_leave c.args.disk.now) rests in
    (c.scrub_job.ensures.crash (stays_plain c.write_record.ensures.kind plain) l.rules (longer l.history entry) (next_payloads l.rules l.history e entry [])
    (c.in_ok-write_record.ensures.done plain l.rules l.history e [] [] writes) (purge_dead l.rules l.history entry job legal c.requires.legal purges)).now

pub returns-clause-areas : goal.returns-clause-areas
returns-clause-areas g c = λ plain.
    let l = c.args.ledger.now in
    let entry : Entry = c.args.entry.now in
    let job = c.purged_by-job.result in
    let legal = c.len-position.ensures.legal in
    let kept = c.requires.areas plain in
    let mid = stays_plain c.write_record.ensures.kind plain in
    let e = payloads_in (after l.rules l.history) (g.D.Disk.seen c.args.disk.now) in
    let next = next_payloads l.rules l.history e entry [] in
    let purges = purges_of (after l.rules l.history) entry.what job c.purged_by-job.ensures in
    let writes = purge_writes l.rules l.history entry job legal c.requires.legal purges e (g.D.Disk.may_leave c.args.disk.now) kept.rests in
    let dead = purge_dead l.rules l.history entry job legal c.requires.legal purges in
    let done = c.in_ok-write_record.ensures.done plain l.rules l.history e [] [] writes in
    let old = g.met.D.Disk.reads_as_image c.args.disk.now plain in
    let new = g.met.D.Disk.reads_as_image c.scrub_job.new.disk (stays_plain c.scrub_job.ensures.kind mid) in
    let seen = g.D.Disk.seen c.scrub_job.new.disk in
    let clean = clean_for l.rules l.history e (g.D.Disk.seen c.args.disk.now) (g.D.Disk.may_leave c.args.disk.now) old kept.rests kept.clean in
    at_ledger (λ (r : RuleSet) (h : List Entry). KeepsAreas r h seen (g.D.Disk.may_leave c.scrub_job.new.disk)) l.rules _ (l.history ++ entry ∷ []) _ c.enter.ensures.rules c.enter.ensures.history
    (areas_longer l.rules l.history entry [] e seen (g.D.Disk.may_leave c.scrub_job.new.disk) legal c.requires.legal new
    (c.scrub_job.ensures.crash mid l.rules (longer l.history entry) next done dead).now
    (c.in_ok-scrub_job.ensures.clean mid l.rules (longer l.history entry) next done dead
    (purge_left l.rules l.history entry job legal c.requires.legal purges (g.D.Disk.seen c.write_record.new.disk) (c.in_ok-write_record.ensures.remains plain l.rules l.history e [] [] writes clean))))

pub returns-clause-logs : goal.returns-clause-logs
returns-clause-logs g c =
    let l = c.args.ledger.now in
    let purges = purges_of (after l.rules l.history) c.args.entry.now.what c.purged_by-job.result c.purged_by-job.ensures in
    at_ledger (λ (r : RuleSet) (h : List Entry). KeepsLogs r h c.write_record.new.journal c.scrub_job.new.vault) l.rules _ (l.history ++ c.args.entry.now ∷ []) _
    c.enter.ensures.rules c.enter.ensures.history
    (logs_longer l.rules l.history c.args.entry.now c.args.logs.now.journal c.args.logs.now.vault c.write_record.new.journal c.scrub_job.new.vault c.requires.logs c.write_record.ensures.area
    c.scrub_job.ensures.area 0 purges.size c.in_ok-write_record.ensures.sizes c.scrub_job.ensures.sizes purges.no_item)

pub returns-clause-carriers : goal.returns-clause-carriers
returns-clause-carriers g c =
    let l = c.args.ledger.now in
    let purges = purges_of (after l.rules l.history) c.args.entry.now.what c.purged_by-job.result c.purged_by-job.ensures in
    at_ledger (λ (r : RuleSet) (h : List Entry). KeepsCarriers r h c.push_reserved.new.self.items) l.rules _ (l.history ++ c.args.entry.now ∷ []) _
    c.enter.ensures.rules c.enter.ensures.history
    (subst (λ (items : List ℕ). KeepsCarriers l.rules (l.history ++ c.args.entry.now ∷ []) items)
    (sym (c.push_reserved.ensures.items ∙ ap (λ (n : ℕ). c.args.logs.now.carriers.items ++ n ∷ []) c.len-position.ensures.value))
    (carriers_longer l.rules l.history c.args.entry.now c.args.logs.now.carriers.items c.len-position.ensures.legal c.requires.legal c.requires.carriers purges.no_put))
