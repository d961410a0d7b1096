use Rattle.std.proofs.Common.{◌≡◌, [], ◌∷◌, sym, ap, ◌∙◌}
use Rattle.delf_disk.proofs.Moments.{leaves_widened}
use Rattle.delf_disk.proofs.Flags.{stays_plain}
use Rattle.delf_model.specs.declared.entry.Entry.{Entry}
use Rattle.delf_model.specs.Step.{after}
use Rattle.delf_model.specs.Payloads.{Journal}
use Rattle.payload_laws.specs.Holders.{scrubbed_by}
use Rattle.delf_book.specs.Writing.{dead_carriers, longer, next_payloads}
use Rattle.delf_book.proofs.Writes.{on_ok, leaves_joined, rests_stand, dead_one, clean_one, clean_none}
use Rattle.delf_book.proofs.records.write_over.Goals as goal

pub returns-in_err-write_record-clause-crash : goal.returns-in_err-write_record-clause-crash
returns-in_err-write_record-clause-crash g c = λ plain rules h e given added writes dead. c.write_record.ensures.crash plain rules h e given added writes

pub returns-in-None-clause-crash : goal.returns-in-None-clause-crash
returns-in-None-clause-crash g c = λ plain rules h e given added writes dead. c.write_record.ensures.crash plain rules h e given added writes

pub returns-in-None-clause-done : goal.returns-in-None-clause-done
returns-in-None-clause-done g c = λ plain rules h e given added writes dead. c.in_ok-write_record.ensures.done plain rules h e given added writes

pub returns-in-None-clause-clean : goal.returns-in-None-clause-clean
returns-in-None-clause-clean g c = λ plain rules h e given added writes dead clean.
    clean_none (after rules (longer h c.args.entry.now)) (scrubbed_by (after rules h) c.args.entry.now.what) (g.D.Disk.seen c.write_record.new.disk)
    (sym (ap dead_carriers c.in-None.is) ∙ dead) (c.in_ok-write_record.ensures.remains plain rules h e given added writes clean)

pub returns-in-Some-clause-crash : goal.returns-in-Some-clause-crash
returns-in-Some-clause-crash g c = λ plain rules h e given added writes dead.
    let entry : Entry = c.args.entry.now in
    let is : Journal c.in-Some.i ∷ [] ≡ scrubbed_by (after rules h) entry.what = sym (ap dead_carriers c.in-Some.is) ∙ dead in
    leaves_joined (c.write_record.ensures.crash plain rules h e given added writes)
    (leaves_widened (c.scrub_entry.ensures.crash (stays_plain c.write_record.ensures.kind plain) rules (longer h entry) (next_payloads rules h e entry given)
    (c.in_ok-write_record.ensures.done plain rules h e given added writes) (dead_one rules h entry writes.legal writes.line (Journal c.in-Some.i) is))
    (rests_stand rules h e entry given writes.legal writes.line))

pub returns-in-Some-clause-done : goal.returns-in-Some-clause-done
returns-in-Some-clause-done g c =
    on_ok c.scrub_entry.result (λ one two plain rules h e given added writes dead.
    let entry : Entry = c.args.entry.now in
    let is : Journal c.in-Some.i ∷ [] ≡ scrubbed_by (after rules h) entry.what = sym (ap dead_carriers c.in-Some.is) ∙ dead in
    (c.scrub_entry.ensures.crash (stays_plain c.write_record.ensures.kind plain) rules (longer h entry) (next_payloads rules h e entry given)
    (c.in_ok-write_record.ensures.done plain rules h e given added writes) (dead_one rules h entry writes.legal writes.line (Journal c.in-Some.i) is)).now)
    c.scrub_entry.ensures.scrubbed c.scrub_entry.ensures.scrubbed

pub returns-in-Some-clause-clean : goal.returns-in-Some-clause-clean
returns-in-Some-clause-clean g c =
    on_ok c.scrub_entry.result (λ scrubbed again plain rules h e given added writes dead clean.
    let entry : Entry = c.args.entry.now in
    let is : Journal c.in-Some.i ∷ [] ≡ scrubbed_by (after rules h) entry.what = sym (ap dead_carriers c.in-Some.is) ∙ dead in
    clean_one (after rules (longer h entry)) (Journal c.in-Some.i) (scrubbed_by (after rules h) entry.what) (g.D.Disk.seen c.write_record.new.disk) (g.D.Disk.seen c.scrub_entry.new.disk)
    is (c.in_ok-write_record.ensures.remains plain rules h e given added writes clean)
    (scrubbed (stays_plain c.write_record.ensures.kind plain) rules (longer h entry) (next_payloads rules h e entry given)
    (c.in_ok-write_record.ensures.done plain rules h e given added writes) (dead_one rules h entry writes.legal writes.line (Journal c.in-Some.i) is)))
    c.scrub_entry.ensures.scrubbed c.scrub_entry.ensures.scrubbed
