use Rattle.std.proofs.Common.{rules, ◌∙◌, Bool, List, drop, ◌≡◌, ◌≤◌, ◌+◌, ℕ, Option, IfNone, false, true, length, refl, sym, subst, arith}
use Rattle.std.proofs.lemmas.List.{take_at}
use Rattle.delf_disk.specs.declared.area.Area.{Area}
use Rattle.delf_disk.specs.declared.area.Area.TheVariants as area
use Rattle.delf_disk.specs.Areas.{Areas}
use Rattle.delf_disk.specs.Plain.{Plain}
use Rattle.delf_disk.proofs.Flags.{stays_plain, was_plain}
use Rattle.gate_log.specs.Logs.{Fronts, StandIn}
use Rattle.store_laws.specs.Stores.{vault_mark}
use Rattle.ledger.specs.Ledgers.{state_of}
use Rattle.delf_recovery.specs.Mending.{AreNoted}
use Rattle.delf_recovery.specs.Reading.{ReadsItems, EndsUnspelled, FaultyVault, WhyFaulty}
use Rattle.delf_recovery.proofs.Notes.{none_noted, stands_whole}
use Rattle.delf_recovery.proofs.Started.{fronts_now, start_leaves, leaves_still}
use Rattle.delf_recovery.proofs.Longer.{start_keeps}
use Rattle.delf_recovery.proofs.VaultJudged.{item_there, item_gone, has_items, reads_vault, faulty_vault}
use Rattle.delf_recovery.proofs.vaults.read_vault.Goals as goal

pub returns-in_err-notes-clause-crash : goal.returns-in_err-notes-clause-crash
returns-in_err-notes-clause-crash g c = λ plain rules h e but.
    start_leaves rules h e area.Vault (g.D.Disk.seen c.args.disk.now) (c.requires.only plain) but (c.start_area.ensures.any_moment_blank plain) (c.start_area.ensures.any_moment plain)

pub read_items-requires-clause-stands : goal.read_items-requires-clause-stands
read_items-requires-clause-stands g c = λ whole plain.
    let front = c.in_ok-front.front in
    let was = was_plain c.start_area.ensures.kind plain in
    subst (λ (a : Area). StandIn a front.log.sizes (g.D.Disk.may_leave c.start_area.new.disk)) (sym c.in_ok-front.ensures.area)
    (stands_whole area.Vault vault_mark front.log.sizes (g.D.Disk.seen c.args.disk.now) (g.D.Disk.seen c.start_area.new.disk) (g.D.Disk.may_leave c.start_area.new.disk)
    (c.in_ok-front.ensures.starts whole was) (c.in_ok-front.ensures.durable was (c.requires.only was)))

pub read_items-requires-clause-noted : goal.read_items-requires-clause-noted
read_items-requires-clause-noted g c = λ plain.
    let it = c.in_ok-front.front.log.area in
    let seen = g.D.Disk.seen c.start_area.new.disk in
    subst (λ (l : List Bool). AreNoted it seen l) (sym (c.deref_mut.ensures.value ∙ c.in_ok-notes.ensures)) (none_noted it seen c.count.result)

pub returns-clause-noted : goal.returns-clause-noted
returns-clause-noted g c = λ plain.
    let now = stays_plain c.start_area.ensures.kind plain in
    let long : length c.read_items.new.notes ≡ c.in_ok-notes.notes.len = search rules in
    subst (λ (l : List Bool). AreNoted area.Vault (g.D.Disk.seen c.read_items.new.disk) l)
    (sym (take_at c.read_items.new.notes (drop (length c.read_items.new.notes) c.in_ok-notes.notes.items) c.in_ok-notes.notes.len long))
    (subst (λ (a : Area). AreNoted a (g.D.Disk.seen c.read_items.new.disk) c.read_items.new.notes) c.in_ok-front.ensures.area
    (subst (λ (x : Areas). AreNoted c.in_ok-front.front.log.area x c.read_items.new.notes) (sym (c.read_items.ensures.seen now)) (c.in_ok-read.ensures.noted now)))

pub read_items-requires-clause-fronts : goal.read_items-requires-clause-fronts
read_items-requires-clause-fronts g c = λ plain.
    let front = c.in_ok-front.front in
    let was = was_plain c.start_area.ensures.kind plain in
    subst (λ (a : Area). Fronts a front.log.sizes (g.D.Disk.seen c.start_area.new.disk)) (sym c.in_ok-front.ensures.area)
    (fronts_now area.Vault vault_mark front.log.sizes (g.D.Disk.seen c.args.disk.now) (g.D.Disk.seen c.start_area.new.disk) refl front.whole
    (λ is. c.in_ok-front.ensures.starts is was) (λ is. c.in_ok-front.ensures.breaks is was) (c.start_area.ensures.unwritten was))

pub returns-in_err-read-clause-crash : goal.returns-in_err-read-clause-crash
returns-in_err-read-clause-crash g c = λ plain rules h e but.
    leaves_still
    (start_leaves rules h e area.Vault (g.D.Disk.seen c.args.disk.now) (c.requires.only plain) but (c.start_area.ensures.any_moment_blank plain) (c.start_area.ensures.any_moment plain))
    (c.read_items.ensures.any_moment (stays_plain c.start_area.ensures.kind plain))

pub returns-in-Some-clause-bad : goal.returns-in-Some-clause-bad
returns-in-Some-clause-bad g c = λ plain.
    let front = c.in_ok-front.front in
    let now = stays_plain c.start_area.ensures.kind plain in
    let s = state_of c.args.fold.now in
    let read_on = λ (a : Area). ReadsItems (Plain (g.D.Disk.told c.start_area.new.disk) (g.D.Disk.honest c.start_area.new.disk)) a front.log.sizes (g.D.Disk.seen c.start_area.new.disk) (state_of c.args.fold.now).items c.in_ok-read.read in
    let ended_on = λ (a : Area). EndsUnspelled (Plain (g.D.Disk.told c.start_area.new.disk) (g.D.Disk.honest c.start_area.new.disk)) a front.log.sizes (g.D.Disk.seen c.start_area.new.disk) (state_of c.args.fold.now).items c.in_ok-read.read in
    let has = c.has_item-has_item.result in
    let tells = c.has_item-has_item.ensures in
    let why : WhyFaulty c.has_item-has_item.result c.in_ok-read.read (length front.log.sizes) front.whole c.in-Some.i =
    subst (λ (k : ℕ). WhyFaulty c.has_item-has_item.result c.in_ok-read.read k front.whole c.in-Some.i) c.count-count.ensures c.in-Some.ensures.some in (
      refl,
      subst (λ (n : ℕ). FaultyVault (state_of c.args.fold.now).items (g.D.Disk.seen c.args.disk.now).vault n) (sym c.gate.ensures)
          (faulty_vault (Plain (g.D.Disk.told c.start_area.new.disk) (g.D.Disk.honest c.start_area.new.disk)) front.log.sizes s.items c.in_ok-read.read
          (g.D.Disk.seen c.args.disk.now) (g.D.Disk.seen c.start_area.new.disk) now (subst read_on c.in_ok-front.ensures.area c.in_ok-read.ensures.read) front.whole
          (λ is. c.in_ok-front.ensures.starts is plain) (λ is. c.in_ok-front.ensures.breaks is plain) (c.start_area.ensures.unwritten plain)
          (subst ended_on c.in_ok-front.ensures.area c.in_ok-read.ensures.ended) has (item_there s c.in_ok-read.read has tells) (item_gone s c.in_ok-read.read has tells) c.in-Some.i why),
    )

pub returns-in-Some-clause-crash : goal.returns-in-Some-clause-crash
returns-in-Some-clause-crash g c = λ plain rules h e but.
    leaves_still
    (start_leaves rules h e area.Vault (g.D.Disk.seen c.args.disk.now) (c.requires.only plain) but (c.start_area.ensures.any_moment_blank plain) (c.start_area.ensures.any_moment plain))
    (c.read_items.ensures.any_moment (stays_plain c.start_area.ensures.kind plain))

pub returns-clause-items : goal.returns-clause-items
returns-clause-items g c =
    let front = c.in_ok-front.front in
    let s = state_of c.args.fold.now in
    let none = subst (λ (o : Option ℕ). IfNone o ((c.has_item-has_item.result ≡ false) × (front.whole ≡ true) × (c.count-count.result ≤ c.in_ok-read.read + 1))) c.in_default.is c.faulty_gate.ensures.none in
    has_items (Plain (g.D.Disk.told c.start_area.new.disk) (g.D.Disk.honest c.start_area.new.disk)) front.log.sizes s.items c.in_ok-read.read (g.D.Disk.seen c.start_area.new.disk)
    (subst (λ (a : Area). ReadsItems (Plain (g.D.Disk.told c.start_area.new.disk) (g.D.Disk.honest c.start_area.new.disk)) a front.log.sizes (g.D.Disk.seen c.start_area.new.disk) s.items c.in_ok-read.read)
    c.in_ok-front.ensures.area c.in_ok-read.ensures.read)
    (item_gone s c.in_ok-read.read c.has_item-has_item.result c.has_item-has_item.ensures none.0) (omega (arith, none.2, c.count-count.ensures))

pub returns-clause-reads : goal.returns-clause-reads
returns-clause-reads g c = λ plain.
    let front = c.in_ok-front.front in
    let s = state_of c.args.fold.now in
    let none = subst (λ (o : Option ℕ). IfNone o ((c.has_item-has_item.result ≡ false) × (front.whole ≡ true) × (c.count-count.result ≤ c.in_ok-read.read + 1))) c.in_default.is c.faulty_gate.ensures.none in
    reads_vault (Plain (g.D.Disk.told c.start_area.new.disk) (g.D.Disk.honest c.start_area.new.disk)) front.log.sizes s.items c.in_ok-read.read
    (g.D.Disk.seen c.args.disk.now) (g.D.Disk.seen c.start_area.new.disk) (stays_plain c.start_area.ensures.kind plain)
    (subst (λ (a : Area). ReadsItems (Plain (g.D.Disk.told c.start_area.new.disk) (g.D.Disk.honest c.start_area.new.disk)) a front.log.sizes (g.D.Disk.seen c.start_area.new.disk) s.items c.in_ok-read.read)
    c.in_ok-front.ensures.area c.in_ok-read.ensures.read)
    (item_gone s c.in_ok-read.read c.has_item-has_item.result c.has_item-has_item.ensures none.0) (omega (arith, none.2, c.count-count.ensures)) (c.in_ok-front.ensures.starts none.1 plain)

pub returns-clause-crash : goal.returns-clause-crash
returns-clause-crash g c = λ plain rules h e but.
    leaves_still
    (start_leaves rules h e area.Vault (g.D.Disk.seen c.args.disk.now) (c.requires.only plain) but (c.start_area.ensures.any_moment_blank plain) (c.start_area.ensures.any_moment plain))
    (c.read_items.ensures.any_moment (stays_plain c.start_area.ensures.kind plain))

pub returns-in_err-front-clause-longer : goal.returns-in_err-front-clause-longer
returns-in_err-front-clause-longer g c = λ plain.
    start_keeps area.Vault (g.D.Disk.seen c.args.disk.now) (c.requires.only plain) (c.start_area.ensures.any_moment_blank plain) (c.start_area.ensures.any_moment plain)

pub returns-in_err-notes-clause-longer : goal.returns-in_err-notes-clause-longer
returns-in_err-notes-clause-longer g c = λ plain.
    start_keeps area.Vault (g.D.Disk.seen c.args.disk.now) (c.requires.only plain) (c.start_area.ensures.any_moment_blank plain) (c.start_area.ensures.any_moment plain)

pub returns-in_err-read-clause-longer : goal.returns-in_err-read-clause-longer
returns-in_err-read-clause-longer g c = λ plain.
    leaves_still
    (start_keeps area.Vault (g.D.Disk.seen c.args.disk.now) (c.requires.only plain) (c.start_area.ensures.any_moment_blank plain) (c.start_area.ensures.any_moment plain))
    (c.read_items.ensures.any_moment (stays_plain c.start_area.ensures.kind plain))

pub returns-in-Some-clause-longer : goal.returns-in-Some-clause-longer
returns-in-Some-clause-longer g c = λ plain.
    leaves_still
    (start_keeps area.Vault (g.D.Disk.seen c.args.disk.now) (c.requires.only plain) (c.start_area.ensures.any_moment_blank plain) (c.start_area.ensures.any_moment plain))
    (c.read_items.ensures.any_moment (stays_plain c.start_area.ensures.kind plain))

pub returns-clause-longer : goal.returns-clause-longer
returns-clause-longer g c = λ plain.
    leaves_still
    (start_keeps area.Vault (g.D.Disk.seen c.args.disk.now) (c.requires.only plain) (c.start_area.ensures.any_moment_blank plain) (c.start_area.ensures.any_moment plain))
    (c.read_items.ensures.any_moment (stays_plain c.start_area.ensures.kind plain))
