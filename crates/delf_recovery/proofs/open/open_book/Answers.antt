use Rattle.std.proofs.Common.{◌∙◌, ◌⊎◌, List, sym, subst}
use Rattle.delf_disk.specs.Areas.{Areas}
use Rattle.delf_disk.specs.Moments.{Leaves}
use Rattle.delf_model.specs.declared.entry.Entry.{Entry}
use Rattle.store_laws.specs.Stores.{StandBut}
use Rattle.store_laws.specs.Moves.{RestIn}
use Rattle.delf_model.specs.RuleSet.{RuleSet}
use Rattle.delf_model.specs.Payloads.{Payloads}
use Rattle.delf_disk.proofs.Flags.{stays_plain}
use Rattle.opening_laws.specs.Entries.{SamePayloads}
use Rattle.delf_book.specs.Holding.{StandWhole}
use Rattle.delf_recovery.specs.Opening.{StandsNow}
use Rattle.delf_recovery.proofs.Wholes.{same_read, whole_now}
use Rattle.delf_recovery.proofs.open.open_book.Goals as goal

pub returns-in-Ok-clause-opened : goal.returns-in-Ok-clause-opened
returns-in-Ok-clause-opened g c = λ plain h e but.
    let opened = c.in-Ok.ensures.opened plain h e but in (
      c.into_book.ensures.history ∙ opened.0,
      subst (λ (x : g.row.R.Denot). RestIn c.args.rules h e (g.R.Disk.may_leave x)) (sym c.into_book.ensures.rig) opened.1,
    )

pub returns-in-Ok-clause-crash : goal.returns-in-Ok-clause-crash
returns-in-Ok-clause-crash g c = λ plain h e but.
    subst (λ (x : g.row.R.Denot). Leaves g.R.Disk.moment g.R.Disk.may_leave g.R.Disk.left_since (λ (y : Areas). g.R.Disk.may_leave c.args.rig y ⊎ StandBut c.args.rules h e y) c.args.rig x)
    (sym c.into_book.ensures.rig) (c.in-Ok.ensures.crash plain h e but)

pub returns-in-Ok-clause-found : goal.returns-in-Ok-clause-found
returns-in-Ok-clause-found g c = λ plain.
    subst (λ (h : List Entry). StandsNow c.args.rules h (g.R.Disk.seen c.args.rig)) (sym c.into_book.ensures.history) (c.in-Ok.ensures.found plain)

pub returns-in-Ok-clause-payloads : goal.returns-in-Ok-clause-payloads
returns-in-Ok-clause-payloads g c = λ plain h e but.
    let f = c.in-Ok.parts.fold in
    let opened = c.in-Ok.ensures.opened plain h e but in
    let after_it = stays_plain c.in-Ok.ensures.kind plain in
    subst (λ (d : Payloads). SamePayloads d e) (sym c.into_book.ensures.payloads)
    (same_read c.args.rules f.rules h f.history e (g.R.Disk.seen c.in-Ok.rig) c.in-Ok.ensures.rules opened.0 c.in-Ok.ensures.legal
    (opened.1 (g.R.Disk.seen c.in-Ok.rig) (g.met.R.Disk.reads_as_image c.in-Ok.rig after_it)))

pub returns-in-Ok-clause-whole : goal.returns-in-Ok-clause-whole
returns-in-Ok-clause-whole g c = λ plain whole.
    let f = c.in-Ok.parts.fold in
    let opened = c.in-Ok.ensures.opened plain whole.0 whole.1.0 whole.1.1.but in
    let after_it = stays_plain c.in-Ok.ensures.kind plain in
    subst (λ (r : RuleSet). StandWhole r (g.R.Disk.seen c.into_book.result.opened)) (sym (c.into_book.ensures.rules ∙ c.in-Ok.ensures.rules))
    (subst (λ (x : g.row.R.Denot). StandWhole c.args.rules (g.R.Disk.seen x)) (sym c.into_book.ensures.opened)
    (whole_now c.args.rules whole.0 f.history whole.1.0 (g.R.Disk.seen c.in-Ok.rig) opened.0 c.in-Ok.ensures.legal
    (opened.1 (g.R.Disk.seen c.in-Ok.rig) (g.met.R.Disk.reads_as_image c.in-Ok.rig after_it)) whole.1.1.sealed))

pub returns-in-Ok-clause-bad_crash : goal.returns-in-Ok-clause-bad_crash
returns-in-Ok-clause-bad_crash g c = λ plain it at place. absurd (c.in-Ok.ensures.well plain it at place)
