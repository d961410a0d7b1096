use Rattle.std.proofs.Common.{rules, ◌∙◌, Bool, List, drop, ◌≡◌, ◌<◌, ℕ, length, false, refl, sym, subst, arith, inl, inr, ◌⊎◌}
use Rattle.std.proofs.lemmas.Result.{err_from_is_err_and}
use Rattle.std.proofs.lemmas.List.{take_at}
use Rattle.delf_disk.specs.declared.area.Area.{Area}
use Rattle.delf_disk.specs.declared.area.Area.TheVariants as area
use Rattle.delf_disk.specs.Areas.{Areas}
use Rattle.delf_disk.specs.Plain.{Plain}
use Rattle.delf_disk.proofs.Flags.{stays_plain, was_plain}
use Rattle.delf_model.specs.RuleSet.{RuleSet}
use Rattle.gate_log.specs.Logs.{Fronts, StandIn}
use Rattle.store_laws.specs.Stores.{journal_mark}
use Rattle.opening_laws.specs.Places.{BadJournal}
use Rattle.delf_recovery.specs.Mending.{AreNoted}
use Rattle.delf_recovery.specs.Reading.{ReadsEntries, EndsWrong}
use Rattle.delf_recovery.proofs.Notes.{none_noted, stands_whole}
use Rattle.delf_recovery.proofs.Started.{fronts_now, start_leaves, leaves_still}
use Rattle.delf_recovery.proofs.Longer.{start_keeps}
use Rattle.delf_recovery.proofs.JournalJudged.{reads_journal, bad_journal, not_bad_journal}
use Rattle.delf_recovery.proofs.journal.read_journal.Goals as goal
use Rattle.delf_recovery.proofs.journal.read_journal.Goals.{then-read-count-via-then-read-count, then-read-count-via-else-read-count+then-not-front}

pub returns-in_err-front-clause-crash : goal.returns-in_err-front-clause-crash
returns-in_err-front-clause-crash g c = λ plain rules h e but.
    start_leaves rules h e area.Journal (g.D.Disk.seen c.args.disk.now) (c.requires.only plain) but (c.start_area.ensures.any_moment_blank plain) (c.start_area.ensures.any_moment plain)

pub returns-in_err-notes-clause-crash : goal.returns-in_err-notes-clause-crash
returns-in_err-notes-clause-crash g c = λ plain rules h e but.
    start_leaves rules h e area.Journal (g.D.Disk.seen c.args.disk.now) (c.requires.only plain) but (c.start_area.ensures.any_moment_blank plain) (c.start_area.ensures.any_moment plain)

pub read_entries-requires-clause-stands : goal.read_entries-requires-clause-stands
read_entries-requires-clause-stands g c = λ whole plain.
    let front = c.in_ok-front.front in
    let was = was_plain c.start_area.ensures.kind plain in
    subst (λ (a : Area). StandIn a front.log.sizes (g.D.Disk.may_leave c.start_area.new.disk)) (sym c.in_ok-front.ensures.area)
    (stands_whole area.Journal journal_mark front.log.sizes (g.D.Disk.seen c.args.disk.now) (g.D.Disk.seen c.start_area.new.disk) (g.D.Disk.may_leave c.start_area.new.disk)
    (c.in_ok-front.ensures.starts whole was) (c.in_ok-front.ensures.durable was (c.requires.only was)))

pub read_entries-requires-clause-noted : goal.read_entries-requires-clause-noted
read_entries-requires-clause-noted g c = λ plain.
    let it = c.in_ok-front.front.log.area in
    let seen = g.D.Disk.seen c.start_area.new.disk in
    subst (λ (l : List Bool). AreNoted it seen l) (sym (c.deref_mut.ensures.value ∙ c.in_ok-notes.ensures)) (none_noted it seen c.count.result)

pub returns-clause-noted : goal.returns-clause-noted
returns-clause-noted g c = λ plain.
    let now = stays_plain c.start_area.ensures.kind plain in
    let long : length c.read_entries.new.notes ≡ c.in_ok-notes.notes.len = search rules in
    subst (λ (l : List Bool). AreNoted area.Journal (g.D.Disk.seen c.read_entries.new.disk) l)
    (sym (take_at c.read_entries.new.notes (drop (length c.read_entries.new.notes) c.in_ok-notes.notes.items) c.in_ok-notes.notes.len long))
    (subst (λ (a : Area). AreNoted a (g.D.Disk.seen c.read_entries.new.disk) c.read_entries.new.notes) c.in_ok-front.ensures.area
    (subst (λ (x : Areas). AreNoted c.in_ok-front.front.log.area x c.read_entries.new.notes) (sym (c.read_entries.ensures.seen now)) (c.in_ok-read.ensures.noted now)))

pub read_entries-requires-clause-fronts : goal.read_entries-requires-clause-fronts
read_entries-requires-clause-fronts g c = λ plain.
    let front = c.in_ok-front.front in
    let was = was_plain c.start_area.ensures.kind plain in
    subst (λ (a : Area). Fronts a front.log.sizes (g.D.Disk.seen c.start_area.new.disk)) (sym c.in_ok-front.ensures.area)
    (fronts_now area.Journal journal_mark front.log.sizes (g.D.Disk.seen c.args.disk.now) (g.D.Disk.seen c.start_area.new.disk) refl front.whole
    (λ is. c.in_ok-front.ensures.starts is was) (λ is. c.in_ok-front.ensures.breaks is was) (c.start_area.ensures.unwritten was))

pub returns-in_err-read-clause-bad : goal.returns-in_err-read-clause-bad
returns-in_err-read-clause-bad g c =
    let p = err_from_is_err_and c.from_residual-in_err-read.result c.from_residual-in_err-read.ensures.1 in
    rw (p.1, p.2) (λ plain. not_bad_journal c.args.fold.now.rules (g.D.Disk.seen c.args.disk.now).journal c.in_err-read.field-0.0 c.in_err-read.ensures.fault)

pub returns-in_err-read-clause-crash : goal.returns-in_err-read-clause-crash
returns-in_err-read-clause-crash g c = λ plain rules h e but.
    leaves_still
    (start_leaves rules h e area.Journal (g.D.Disk.seen c.args.disk.now) (c.requires.only plain) but (c.start_area.ensures.any_moment_blank plain) (c.start_area.ensures.any_moment plain))
    (c.read_entries.ensures.any_moment (stays_plain c.start_area.ensures.kind plain))

pub returns-then-read-count-clause-bad : goal.returns-then-read-count-clause-bad
returns-then-read-count-clause-bad g c = λ plain.
    let front = c.in_ok-front.front in
    let now = stays_plain c.start_area.ensures.kind plain in
    let new = c.read_entries.new.fold in
    let on_journal = λ (a : Area). ReadsEntries (Plain (g.D.Disk.told c.start_area.new.disk) (g.D.Disk.honest c.start_area.new.disk)) a front.log.sizes (g.D.Disk.seen c.start_area.new.disk) new.rules new.history c.in_ok-read.read in
    let ended_on = λ (a : Area). EndsWrong (Plain (g.D.Disk.told c.start_area.new.disk) (g.D.Disk.honest c.start_area.new.disk)) a front.log.sizes (g.D.Disk.seen c.start_area.new.disk) new.rules new.history c.in_ok-read.read in
    let why : (c.in_ok-read.read < length front.log.sizes) ⊎ (front.whole ≡ false) = elim c.then-read-count.branch [
      | then-read-count-via-then-read-count w ↦ inl (omega (arith, w.if-read-count.true, c.count.ensures))
      | then-read-count-via-else-read-count+then-not-front w ↦ inr w.if-not-front.true
    ] in (
      refl,
      subst (λ (r : RuleSet). BadJournal r (g.D.Disk.seen c.args.disk.now).journal c.gate.result) c.in_ok-read.ensures.rules
          (subst (λ (n : ℕ). BadJournal new.rules (g.D.Disk.seen c.args.disk.now).journal n) (sym c.gate.ensures)
          (bad_journal (Plain (g.D.Disk.told c.start_area.new.disk) (g.D.Disk.honest c.start_area.new.disk)) front.log.sizes new.rules new.history c.in_ok-read.read
          (g.D.Disk.seen c.args.disk.now) (g.D.Disk.seen c.start_area.new.disk) now (subst on_journal c.in_ok-front.ensures.area c.in_ok-read.ensures.read) front.whole
          (λ is. c.in_ok-front.ensures.starts is plain) (λ is. c.in_ok-front.ensures.breaks is plain) (c.start_area.ensures.unwritten plain)
          (subst ended_on c.in_ok-front.ensures.area c.in_ok-read.ensures.ended) why)),
    )

pub returns-then-read-count-clause-crash : goal.returns-then-read-count-clause-crash
returns-then-read-count-clause-crash g c = λ plain rules h e but.
    leaves_still
    (start_leaves rules h e area.Journal (g.D.Disk.seen c.args.disk.now) (c.requires.only plain) but (c.start_area.ensures.any_moment_blank plain) (c.start_area.ensures.any_moment plain))
    (c.read_entries.ensures.any_moment (stays_plain c.start_area.ensures.kind plain))

pub returns-clause-reads : goal.returns-clause-reads
returns-clause-reads g c = λ plain.
    let front = c.in_ok-front.front in
    let now = stays_plain c.start_area.ensures.kind plain in
    let new = c.read_entries.new.fold in
    let on_journal = λ (a : Area). ReadsEntries (Plain (g.D.Disk.told c.start_area.new.disk) (g.D.Disk.honest c.start_area.new.disk)) a front.log.sizes (g.D.Disk.seen c.start_area.new.disk) new.rules new.history c.in_ok-read.read in
    reads_journal (Plain (g.D.Disk.told c.start_area.new.disk) (g.D.Disk.honest c.start_area.new.disk)) front.log.sizes new.rules new.history c.in_ok-read.read
    (g.D.Disk.seen c.args.disk.now) (g.D.Disk.seen c.start_area.new.disk) now (subst on_journal c.in_ok-front.ensures.area c.in_ok-read.ensures.read)
    (c.in_ok-front.ensures.starts c.if-not-front.false plain) (omega (arith, c.if-read-count.false, c.count.ensures))

pub returns-clause-crash : goal.returns-clause-crash
returns-clause-crash g c = λ plain rules h e but.
    leaves_still
    (start_leaves rules h e area.Journal (g.D.Disk.seen c.args.disk.now) (c.requires.only plain) but (c.start_area.ensures.any_moment_blank plain) (c.start_area.ensures.any_moment plain))
    (c.read_entries.ensures.any_moment (stays_plain c.start_area.ensures.kind plain))

pub returns-in_err-front-clause-longer : goal.returns-in_err-front-clause-longer
returns-in_err-front-clause-longer g c = λ plain.
    start_keeps area.Journal (g.D.Disk.seen c.args.disk.now) (c.requires.only plain) (c.start_area.ensures.any_moment_blank plain) (c.start_area.ensures.any_moment plain)

pub returns-in_err-notes-clause-longer : goal.returns-in_err-notes-clause-longer
returns-in_err-notes-clause-longer g c = λ plain.
    start_keeps area.Journal (g.D.Disk.seen c.args.disk.now) (c.requires.only plain) (c.start_area.ensures.any_moment_blank plain) (c.start_area.ensures.any_moment plain)

pub returns-in_err-read-clause-longer : goal.returns-in_err-read-clause-longer
returns-in_err-read-clause-longer g c = λ plain.
    leaves_still
    (start_keeps area.Journal (g.D.Disk.seen c.args.disk.now) (c.requires.only plain) (c.start_area.ensures.any_moment_blank plain) (c.start_area.ensures.any_moment plain))
    (c.read_entries.ensures.any_moment (stays_plain c.start_area.ensures.kind plain))

pub returns-then-read-count-clause-longer : goal.returns-then-read-count-clause-longer
returns-then-read-count-clause-longer g c = λ plain.
    leaves_still
    (start_keeps area.Journal (g.D.Disk.seen c.args.disk.now) (c.requires.only plain) (c.start_area.ensures.any_moment_blank plain) (c.start_area.ensures.any_moment plain))
    (c.read_entries.ensures.any_moment (stays_plain c.start_area.ensures.kind plain))

pub returns-clause-longer : goal.returns-clause-longer
returns-clause-longer g c = λ plain.
    leaves_still
    (start_keeps area.Journal (g.D.Disk.seen c.args.disk.now) (c.requires.only plain) (c.start_area.ensures.any_moment_blank plain) (c.start_area.ensures.any_moment plain))
    (c.read_entries.ensures.any_moment (stays_plain c.start_area.ensures.kind plain))
