use Rattle.std.proofs.Common.{◌≡◌, ◌∙◌, List, refl, sym, subst}
use Rattle.delf_disk.specs.Areas.{Areas}
use Rattle.delf_disk.proofs.Flags.{stays_plain}
use Rattle.delf_disk.proofs.Moments.{leaves_widened}
use Rattle.delf_model.specs.declared.entry.Entry.{Entry}
use Rattle.delf_model.specs.RuleSet.{RuleSet}
use Rattle.delf_model.specs.Payloads.{Payloads}
use Rattle.store_laws.specs.Stores.{StandBut}
use Rattle.store_laws.specs.Moves.{RestIn}
use Rattle.opening_laws.specs.Places.{BadPlace}
use Rattle.opening_laws.proofs.Unique.{one_history}
use Rattle.delf_book.specs.Keeping.{KeepsAreas}
use Rattle.delf_book.proofs.Held.{rest_as_read}
use Rattle.delf_book.proofs.Writes.{leaves_joined}
use Rattle.delf_recovery.specs.Opening.{StandsNow, IsBadAt}
use Rattle.delf_recovery.proofs.Faults.{told_place, reads_well}
use Rattle.delf_recovery.proofs.Longer.{stays_bad}
use Rattle.delf_recovery.proofs.parts.open_parts.Goals as goal

-- the same under the same rules
there : (r q : RuleSet) (h g : List Entry) (e : Payloads) (c : Areas) → r ≡ q → h ≡ g → StandBut r h e c → StandBut q g e c
there r q h g e c rules same but = subst (λ (x : RuleSet). StandBut x g e c) rules (subst (λ (l : List Entry). StandBut r l e c) same but)

rest_there : (r q : RuleSet) (h g : List Entry) (e : Payloads) (images : Areas → Type 0) → r ≡ q → h ≡ g → RestIn r h e images → RestIn q g e images
rest_there r q h g e images rules same rests = subst (λ (x : RuleSet). RestIn x g e images) rules (subst (λ (l : List Entry). RestIn r l e images) same rests)

pub returns-in-Err-clause-bad : goal.returns-in-Err-clause-bad
returns-in-Err-clause-bad g c = λ plain.
    subst (λ (r : RuleSet). IsBadAt r (g.D.Disk.seen c.args.disk.now) c.in-Err.fault) c.fold-fold.ensures.rules (c.in-Err.ensures.bad plain)

pub returns-in-Err-clause-told : goal.returns-in-Err-clause-told
returns-in-Err-clause-told g c = λ plain it at place.
    told_place c.args.rules (g.D.Disk.seen c.args.disk.now) c.in-Err.fault it at (returns-in-Err-clause-bad g c plain) place

pub returns-in-Err-clause-never : goal.returns-in-Err-clause-never
returns-in-Err-clause-never g c = λ plain h e but.
    c.in-Err.ensures.never plain h e
    (there c.args.rules c.fold-fold.result.rules h h e (g.D.Disk.seen c.args.disk.now) (sym c.fold-fold.ensures.rules) refl but)

pub returns-in-Err-clause-crash : goal.returns-in-Err-clause-crash
returns-in-Err-clause-crash g c = λ plain h e but. c.read_areas.ensures.crash plain c.args.rules h e but

pub returns-in-Err-clause-bad_crash : goal.returns-in-Err-clause-bad_crash
returns-in-Err-clause-bad_crash g c = λ plain it at place.
    leaves_widened (c.read_areas.ensures.longer plain) (λ x keeps. stays_bad c.args.rules (g.D.Disk.seen c.args.disk.now) x it at keeps place)

pub returns-in-Err-clause-longer : goal.returns-in-Err-clause-longer
returns-in-Err-clause-longer g c = λ reading plain x image. (c.read_areas.ensures.longer plain).now x image

pub returns-clause-well : goal.returns-clause-well
returns-clause-well g c = λ plain it at place.
    let f = c.read_areas.new.fold in
    let rules = c.in-Ok.ensures.rules ∙ c.fold-fold.ensures.rules in
    reads_well f.rules f.history (g.D.Disk.seen c.args.disk.now) it at (c.in-Ok.ensures.journal_reads plain) (c.in-Ok.ensures.vault_reads plain)
    (subst (λ (x : RuleSet). BadPlace x (g.D.Disk.seen c.args.disk.now) it at) (sym rules) place)

pub returns-in-Err-mend-clause-bad_crash : goal.returns-in-Err-mend-clause-bad_crash
returns-in-Err-mend-clause-bad_crash g c = λ plain it at place.
    let f = c.read_areas.new.fold in
    let rules = c.in-Ok.ensures.rules ∙ c.fold-fold.ensures.rules in
    absurd (reads_well f.rules f.history (g.D.Disk.seen c.args.disk.now) it at (c.in-Ok.ensures.journal_reads plain) (c.in-Ok.ensures.vault_reads plain)
    (subst (λ (x : RuleSet). BadPlace x (g.D.Disk.seen c.args.disk.now) it at) (sym rules) place))

pub returns-clause-bad_crash : goal.returns-clause-bad_crash
returns-clause-bad_crash g c = λ plain it at place. absurd (returns-clause-well g c plain it at place)

pub returns-in-Err-mend-clause-crash : goal.returns-in-Err-mend-clause-crash
returns-in-Err-mend-clause-crash g c = λ plain h e but.
    let two = stays_plain c.read_areas.ensures.kind plain in
    let f = c.read_areas.new.fold in
    let seen = g.D.Disk.seen c.args.disk.now in
    let rules = c.in-Ok.ensures.rules ∙ c.fold-fold.ensures.rules in
    let found = c.in-Ok.ensures.found plain in
    let but_now = there c.args.rules f.rules h h e seen (sym rules) refl but in
    let same = one_history f.rules h f.history e found.payloads seen but_now found.stand in
    let first = c.read_areas.ensures.crash plain f.rules f.history e (there f.rules f.rules h f.history e seen refl same but_now) in
    let second = c.mend.ensures.crash two e (first.now (g.D.Disk.seen c.read_areas.new.disk) (g.met.D.Disk.reads_as_image c.read_areas.new.disk two)) in
    leaves_widened (leaves_joined first second) (λ x stood. there f.rules c.args.rules f.history h e x rules (sym same) stood)

pub returns-clause-crash : goal.returns-clause-crash
returns-clause-crash g c = λ plain h e but.
    let two = stays_plain c.read_areas.ensures.kind plain in
    let f = c.read_areas.new.fold in
    let seen = g.D.Disk.seen c.args.disk.now in
    let rules = c.in-Ok.ensures.rules ∙ c.fold-fold.ensures.rules in
    let found = c.in-Ok.ensures.found plain in
    let but_now = there c.args.rules f.rules h h e seen (sym rules) refl but in
    let same = one_history f.rules h f.history e found.payloads seen but_now found.stand in
    let first = c.read_areas.ensures.crash plain f.rules f.history e (there f.rules f.rules h f.history e seen refl same but_now) in
    let second = c.mend.ensures.crash two e (first.now (g.D.Disk.seen c.read_areas.new.disk) (g.met.D.Disk.reads_as_image c.read_areas.new.disk two)) in
    leaves_widened (leaves_joined first second) (λ x stood. there f.rules c.args.rules f.history h e x rules (sym same) stood)

pub returns-clause-opened : goal.returns-clause-opened
returns-clause-opened g c = λ plain h e but.
    let two = stays_plain c.read_areas.ensures.kind plain in
    let f = c.read_areas.new.fold in
    let seen = g.D.Disk.seen c.args.disk.now in
    let rules = c.in-Ok.ensures.rules ∙ c.fold-fold.ensures.rules in
    let found = c.in-Ok.ensures.found plain in
    let but_now = there c.args.rules f.rules h h e seen (sym rules) refl but in
    let same = one_history f.rules h f.history e found.payloads seen but_now found.stand in
    let first = c.read_areas.ensures.crash plain f.rules f.history e (there f.rules f.rules h f.history e seen refl same but_now) in
    let rests = c.in-Ok-mend.ensures.rests two e (first.now (g.D.Disk.seen c.read_areas.new.disk) (g.met.D.Disk.reads_as_image c.read_areas.new.disk two)) in
    (sym same, rest_there f.rules c.args.rules f.history h e (g.D.Disk.may_leave c.mend.new.disk) rules (sym same) rests)

pub returns-clause-areas : goal.returns-clause-areas
returns-clause-areas g c = λ plain.
    let two = stays_plain c.read_areas.ensures.kind plain in
    let three = stays_plain c.mend.ensures.kind two in
    let f = c.read_areas.new.fold in
    let rules = c.in-Ok.ensures.rules ∙ c.fold-fold.ensures.rules in
    let standing = c.in-Ok.ensures.standing plain in
    let last = g.D.Disk.seen c.mend.new.disk in
    let image = g.met.D.Disk.reads_as_image c.mend.new.disk three in
    let keeps : KeepsAreas c.read_areas.new.fold.rules c.read_areas.new.fold.history (g.D.Disk.seen c.mend.new.disk) (g.D.Disk.may_leave c.mend.new.disk) = record {
      rests = rest_as_read f.rules f.history standing.payloads last (g.D.Disk.may_leave c.mend.new.disk) c.in-Ok.ensures.legal image (c.in-Ok-mend.ensures.rests two standing.payloads standing.stand);
      clean = c.in-Ok-mend.ensures.clean two last image;
    } in
    subst (λ (x : RuleSet). KeepsAreas x c.read_areas.new.fold.history (g.D.Disk.seen c.mend.new.disk) (g.D.Disk.may_leave c.mend.new.disk)) rules keeps

pub returns-clause-found : goal.returns-clause-found
returns-clause-found g c = λ plain.
    subst (λ (x : RuleSet). StandsNow x c.read_areas.new.fold.history (g.D.Disk.seen c.args.disk.now))
    (c.in-Ok.ensures.rules ∙ c.fold-fold.ensures.rules) (c.in-Ok.ensures.found plain)
