use Rattle.std.proofs.Common.{◌≡◌, ℕ, ◌+◌, ◌<◌, true, false, List, [], ◌∷◌, ◌++◌, Some, refl, vec_capacity, arith, sym, subst}
use Rattle.std.specs.Prelude.{Err}
use Rattle.delf_model.specs.declared.entry.Entry.{Entry}
use Rattle.delf_model.specs.RuleSet.{RuleSet}
use Rattle.delf_book.specs.declared.stepping.Halt.{Halt}
use Rattle.delf_book.proofs.Payloads.{rests_with, keeps_still, grew_by, keeps_longer, keeps_fallen, opening_still, opening_fell}
use Rattle.delf_book.proofs.Plainly.{at_ledger}
use Rattle.delf_book.proofs.Fallen.{fell_beside}
use Rattle.delf_book.specs.Keeping.{KeepsDown, KeepsPayloads, payloads_in}
use Rattle.delf_book.proofs.Claiming.{claims_same, claims_entered, read_same, read_entered}
use Rattle.delf_book.proofs.Making.{of_made, of_beside, made_line, made_free}
use Rattle.delf_disk.proofs.Flags.{was_plain, stays_plain}
use Rattle.delf_disk.specs.Images.{Same}
use Rattle.delf_disk.specs.Moments.{Runs}
use Rattle.delf_disk.specs.Plain.{Plain}
use Rattle.delf_model.specs.Step.{after}
use Rattle.delf_model.specs.Payloads.{Payloads, payloads_after}
use Rattle.store_laws.specs.Moves.{RestIn}
use Rattle.delf_book.specs.Books.{Booked, state_in, is_reserved, LeavesEntry, RestsLonger}
use Rattle.delf_book.specs.Steps.{PutsSealed, TellsDamage}
use Rattle.delf_book.proofs.RowRecords.{read_rests}
use Rattle.delf_book.proofs.Halts.{at_hurt, waits_hurt}
use Rattle.delf_book.proofs.Whole.{stays_sealed, whole_undamaged}
use Rattle.delf_book.specs.Stepping.{PutsBackItem, CountsHalt}
use Rattle.store_laws.specs.Stores.{digest, AreSealed}
use Rattle.delf_book.proofs.book.Book.make.Goals as goal

pub returns-in-Ok-clause-crash : goal.returns-in-Ok-clause-crash
returns-in-Ok-clause-crash g c = λ plain.
    let view : Booked g.row.G.Denot g.row.R.Denot = (record { rules = c.self.inside.ledger.rules; history = c.self.inside.ledger.history; payloads = payloads_in (after c.self.inside.ledger.rules c.self.inside.ledger.history) (g.R.Disk.seen c.self.inside.rested.value); store = c.self.inside.ledger.store; held = c.self.inside.claims.items; spare = c.self.inside.spare; down = c.self.inside.down; beside = c.self.inside.beside; rig = c.self.inside.rig; opened = c.self.inside.opened.value }) in
    let here : Plain (g.R.Disk.told c.self.inside.rig) (g.R.Disk.honest c.self.inside.rig) =
    subst (λ (b : Booked g.row.G.Denot g.row.R.Denot). Plain (g.R.Disk.told b.rig) (g.R.Disk.honest b.rig)) (sym c.self.view_is) plain in
    let up : c.self.inside.down ≡ false = subst (λ (b : Booked g.row.G.Denot g.row.R.Denot). b.down ≡ false) (sym c.self.view_is) c.requires.up in
    let l = c.self.inside.ledger in
    let e = payloads_in (after l.rules l.history) (g.R.Disk.seen c.self.inside.rested.value) in
    let rests = rests_with l.rules l.history e c.self.inside.down (g.R.Disk.seen c.self.inside.rig) (g.R.Disk.seen c.self.inside.opened.value) up (c.self.invariant.3 here)
    (g.R.Disk.may_leave c.self.inside.rig) ((c.self.invariant.0 up).areas here).rests in
    of_made view c.args.self.now c.self.view_is c.args.entry.now c.step.new.ledger.history c.in-Ok.ensures.ok.history
    (λ (b : Booked g.row.G.Denot g.row.R.Denot) (x : Entry). LeavesEntry g.R.Disk.moment g.R.Disk.may_leave g.R.Disk.left_since b x [] c.step.new.disk × RestsLonger g.R.Disk.may_leave b x [] c.step.new.disk)
    (c.step.ensures.crash here e rests, c.in-Ok.ensures.durable here e rests)

pub returns-in-Ok-clause-seals : goal.returns-in-Ok-clause-seals
returns-in-Ok-clause-seals g c = λ plain.
    let view : Booked g.row.G.Denot g.row.R.Denot = (record { rules = c.self.inside.ledger.rules; history = c.self.inside.ledger.history; payloads = payloads_in (after c.self.inside.ledger.rules c.self.inside.ledger.history) (g.R.Disk.seen c.self.inside.rested.value); store = c.self.inside.ledger.store; held = c.self.inside.claims.items; spare = c.self.inside.spare; down = c.self.inside.down; beside = c.self.inside.beside; rig = c.self.inside.rig; opened = c.self.inside.opened.value }) in
    let here : Plain (g.R.Disk.told c.self.inside.rig) (g.R.Disk.honest c.self.inside.rig) =
    subst (λ (b : Booked g.row.G.Denot g.row.R.Denot). Plain (g.R.Disk.told b.rig) (g.R.Disk.honest b.rig)) (sym c.self.view_is) plain in
    let up : c.self.inside.down ≡ false = subst (λ (b : Booked g.row.G.Denot g.row.R.Denot). b.down ≡ false) (sym c.self.view_is) c.requires.up in
    let l = c.self.inside.ledger in
    let e = payloads_in (after l.rules l.history) (g.R.Disk.seen c.self.inside.rested.value) in
    let line = made_line view c.args.self.now c.self.view_is c.args.entry.now c.requires.may in
    let areas = (c.self.invariant.0 up).areas here in
    let rests = rests_with l.rules l.history e c.self.inside.down (g.R.Disk.seen c.self.inside.rig) (g.R.Disk.seen c.self.inside.opened.value) up (c.self.invariant.3 here)
    (g.R.Disk.may_leave c.self.inside.rig) areas.rests in
    of_made view c.args.self.now c.self.view_is c.args.entry.now c.step.new.ledger.history c.in-Ok.ensures.ok.history
    (λ (b : Booked g.row.G.Denot g.row.R.Denot) (x : Entry). AreSealed b.rules b.history b.payloads → AreSealed b.rules (b.history ++ x ∷ []) (payloads_after digest (state_in b) x [] b.payloads))
    (stays_sealed l.rules l.history e c.args.entry.now [] (g.R.Disk.seen c.self.inside.rig) (g.R.Disk.may_leave c.self.inside.rig) (g.met.R.Disk.reads_as_image c.self.inside.rig here)
    c.len-len.ensures.legal line rests)

pub returns-in-Ok-clause-payloads : goal.returns-in-Ok-clause-payloads
returns-in-Ok-clause-payloads g c = λ plain.
    let view : Booked g.row.G.Denot g.row.R.Denot = (record { rules = c.self.inside.ledger.rules; history = c.self.inside.ledger.history; payloads = payloads_in (after c.self.inside.ledger.rules c.self.inside.ledger.history) (g.R.Disk.seen c.self.inside.rested.value); store = c.self.inside.ledger.store; held = c.self.inside.claims.items; spare = c.self.inside.spare; down = c.self.inside.down; beside = c.self.inside.beside; rig = c.self.inside.rig; opened = c.self.inside.opened.value }) in
    let here : Plain (g.R.Disk.told c.self.inside.rig) (g.R.Disk.honest c.self.inside.rig) =
    subst (λ (b : Booked g.row.G.Denot g.row.R.Denot). Plain (g.R.Disk.told b.rig) (g.R.Disk.honest b.rig)) (sym c.self.view_is) plain in
    let up : c.self.inside.down ≡ false = subst (λ (b : Booked g.row.G.Denot g.row.R.Denot). b.down ≡ false) (sym c.self.view_is) c.requires.up in
    let l = c.self.inside.ledger in
    let now = c.step.new.ledger in
    let e = payloads_in (after l.rules l.history) (g.R.Disk.seen c.self.inside.rested.value) in
    let line = made_line view c.args.self.now c.self.view_is c.args.entry.now c.requires.may in
    let areas = (c.self.invariant.0 up).areas here in
    let rests = rests_with l.rules l.history e c.self.inside.down (g.R.Disk.seen c.self.inside.rig) (g.R.Disk.seen c.self.inside.opened.value) up (c.self.invariant.3 here)
    (g.R.Disk.may_leave c.self.inside.rig) areas.rests in
    let next = stays_plain c.step.ensures.kind here in
    let durable = c.in-Ok.ensures.durable here in
    let longer : List Entry = l.history ++ c.args.entry.now ∷ [] in
    let grew : payloads_in (after now.rules now.history) (g.R.Disk.seen c.of-rested.result.value) ≡ payloads_after digest (after l.rules l.history) c.args.entry.now [] e =
    at_ledger (λ (r : RuleSet) (h : List Entry). payloads_in (after r h) (g.R.Disk.seen c.of-rested.result.value) ≡ payloads_after digest (after l.rules l.history) c.args.entry.now [] e)
    l.rules now.rules longer now.history c.in-Ok.ensures.ok.rules c.in-Ok.ensures.ok.history
    (subst (λ (x : g.row.R.Denot). payloads_in (after l.rules longer) (g.R.Disk.seen x) ≡ payloads_after digest (after l.rules l.history) c.args.entry.now [] e) (sym c.of-rested.ensures)
    (grew_by l.rules l.history e c.self.inside.down (g.R.Disk.seen c.self.inside.rig) (g.R.Disk.seen c.self.inside.opened.value) up (c.self.invariant.3 here) c.args.entry.now []
    (g.R.Disk.seen c.step.new.disk) (g.R.Disk.may_leave c.self.inside.rig) (g.R.Disk.may_leave c.step.new.disk) c.len-len.ensures.legal line
    (g.met.R.Disk.reads_as_image c.self.inside.rig here) (g.met.R.Disk.reads_as_image c.step.new.disk next) areas.rests
    (durable (payloads_in (after l.rules l.history) (g.R.Disk.seen c.self.inside.rig)) areas.rests))) in
    of_made view c.args.self.now c.self.view_is c.args.entry.now c.step.new.ledger.history c.in-Ok.ensures.ok.history
    (λ (b : Booked g.row.G.Denot g.row.R.Denot) (x : Entry). (payloads_in (after now.rules now.history) (g.R.Disk.seen c.of-rested.result.value) ≡ payloads_after digest (state_in b) x [] b.payloads) × PutsSealed (state_in b) x.what b.payloads)
    (grew, c.in-Ok.ensures.sealed here e rests)

pub returns-in-Err-Damaged-clause-payloads : goal.returns-in-Err-Damaged-clause-payloads
returns-in-Err-Damaged-clause-payloads g c = λ plain.
    let here : Plain (g.R.Disk.told c.self.inside.rig) (g.R.Disk.honest c.self.inside.rig) =
    subst (λ (b : Booked g.row.G.Denot g.row.R.Denot). Plain (g.R.Disk.told b.rig) (g.R.Disk.honest b.rig)) (sym c.self.view_is) plain in
    let up : c.self.inside.down ≡ false = subst (λ (b : Booked g.row.G.Denot g.row.R.Denot). b.down ≡ false) (sym c.self.view_is) c.requires.up in
    let l = c.self.inside.ledger in
    let e = payloads_in (after l.rules l.history) (g.R.Disk.seen c.self.inside.rested.value) in
    let areas = (c.self.invariant.0 up).areas here in
    let rests = rests_with l.rules l.history e c.self.inside.down (g.R.Disk.seen c.self.inside.rig) (g.R.Disk.seen c.self.inside.opened.value) up (c.self.invariant.3 here)
    (g.R.Disk.may_leave c.self.inside.rig) areas.rests in
    subst (λ (b : Booked g.row.G.Denot g.row.R.Denot). TellsDamage (state_in b) b.payloads c.in-Err-Damaged.item c.in-Err-Damaged.stored c.in-Err-Damaged.found) c.self.view_is
    (at_hurt (λ item stored found. Plain (g.R.Disk.told c.self.inside.rig) (g.R.Disk.honest c.self.inside.rig) → (o : Payloads) → RestIn l.rules l.history o (g.R.Disk.may_leave c.self.inside.rig) →
    TellsDamage (after l.rules l.history) o item stored found) c.step.result c.in-Err-Damaged.field-0
    c.in-Err-Damaged.item c.in-Err-Damaged.stored c.in-Err-Damaged.found c.in-Err-Damaged.is c.in-Err-Damaged.field-0-is c.step.ensures.damaged here e rests)

pub returns-in-Err-Damaged-clause-crash : goal.returns-in-Err-Damaged-clause-crash
returns-in-Err-Damaged-clause-crash g c = λ plain.
    subst (λ (b : Booked g.row.G.Denot g.row.R.Denot). Plain (g.R.Disk.told b.rig) (g.R.Disk.honest b.rig) → Runs g.R.Disk.moment g.R.Disk.may_leave g.R.Disk.left_since Same b.rig c.step.new.disk) c.self.view_is
    (at_hurt (λ item stored found. Plain (g.R.Disk.told c.self.inside.rig) (g.R.Disk.honest c.self.inside.rig) → Runs g.R.Disk.moment g.R.Disk.may_leave g.R.Disk.left_since Same c.self.inside.rig c.step.new.disk) c.step.result c.in-Err-Damaged.field-0
    c.in-Err-Damaged.item c.in-Err-Damaged.stored c.in-Err-Damaged.found c.in-Err-Damaged.is c.in-Err-Damaged.field-0-is c.step.ensures.only_read) plain

pub returns-in-Err-Damaged-clause-seals : goal.returns-in-Err-Damaged-clause-seals
returns-in-Err-Damaged-clause-seals g c = λ plain.
    let view : Booked g.row.G.Denot g.row.R.Denot = (record { rules = c.self.inside.ledger.rules; history = c.self.inside.ledger.history; payloads = payloads_in (after c.self.inside.ledger.rules c.self.inside.ledger.history) (g.R.Disk.seen c.self.inside.rested.value); store = c.self.inside.ledger.store; held = c.self.inside.claims.items; spare = c.self.inside.spare; down = c.self.inside.down; beside = c.self.inside.beside; rig = c.self.inside.rig; opened = c.self.inside.opened.value }) in
    let here : Plain (g.R.Disk.told c.self.inside.rig) (g.R.Disk.honest c.self.inside.rig) =
    subst (λ (b : Booked g.row.G.Denot g.row.R.Denot). Plain (g.R.Disk.told b.rig) (g.R.Disk.honest b.rig)) (sym c.self.view_is) plain in
    let up : c.self.inside.down ≡ false = subst (λ (b : Booked g.row.G.Denot g.row.R.Denot). b.down ≡ false) (sym c.self.view_is) c.requires.up in
    let l = c.self.inside.ledger in
    let e = payloads_in (after l.rules l.history) (g.R.Disk.seen c.self.inside.rested.value) in
    let line = made_line view c.args.self.now c.self.view_is c.args.entry.now c.requires.may in
    let areas = (c.self.invariant.0 up).areas here in
    let rests = rests_with l.rules l.history e c.self.inside.down (g.R.Disk.seen c.self.inside.rig) (g.R.Disk.seen c.self.inside.opened.value) up (c.self.invariant.3 here)
    (g.R.Disk.may_leave c.self.inside.rig) areas.rests in
    let puts = at_hurt (λ item stored found. PutsBackItem (after l.rules l.history) c.args.entry.now.what item × (stored ≡ found → ⊥)) c.step.result c.in-Err-Damaged.field-0
    c.in-Err-Damaged.item c.in-Err-Damaged.stored c.in-Err-Damaged.found c.in-Err-Damaged.is c.in-Err-Damaged.field-0-is c.step.ensures.refuses in
    let tells = at_hurt (λ item stored found. Plain (g.R.Disk.told c.self.inside.rig) (g.R.Disk.honest c.self.inside.rig) → (o : Payloads) → RestIn l.rules l.history o (g.R.Disk.may_leave c.self.inside.rig) →
    TellsDamage (after l.rules l.history) o item stored found) c.step.result c.in-Err-Damaged.field-0
    c.in-Err-Damaged.item c.in-Err-Damaged.stored c.in-Err-Damaged.found c.in-Err-Damaged.is c.in-Err-Damaged.field-0-is c.step.ensures.damaged here e rests in
    subst (λ (b : Booked g.row.G.Denot g.row.R.Denot). AreSealed b.rules b.history b.payloads → ⊥) c.self.view_is
    (λ whole. whole_undamaged l.rules l.history c.args.entry.now e c.in-Err-Damaged.item c.in-Err-Damaged.stored c.in-Err-Damaged.found c.len-len.ensures.legal line puts.0 puts.1 tells whole)

pub returns-in-Err-Failed-clause-crash : goal.returns-in-Err-Failed-clause-crash
returns-in-Err-Failed-clause-crash g c = λ plain.
    let view : Booked g.row.G.Denot g.row.R.Denot = (record { rules = c.self.inside.ledger.rules; history = c.self.inside.ledger.history; payloads = payloads_in (after c.self.inside.ledger.rules c.self.inside.ledger.history) (g.R.Disk.seen c.self.inside.rested.value); store = c.self.inside.ledger.store; held = c.self.inside.claims.items; spare = c.self.inside.spare; down = c.self.inside.down; beside = c.self.inside.beside; rig = c.self.inside.rig; opened = c.self.inside.opened.value }) in
    let here : Plain (g.R.Disk.told c.self.inside.rig) (g.R.Disk.honest c.self.inside.rig) =
    subst (λ (b : Booked g.row.G.Denot g.row.R.Denot). Plain (g.R.Disk.told b.rig) (g.R.Disk.honest b.rig)) (sym c.self.view_is) plain in
    let up : c.self.inside.down ≡ false = subst (λ (b : Booked g.row.G.Denot g.row.R.Denot). b.down ≡ false) (sym c.self.view_is) c.requires.up in
    let l = c.self.inside.ledger in
    let e = payloads_in (after l.rules l.history) (g.R.Disk.seen c.self.inside.rested.value) in
    let rests = rests_with l.rules l.history e c.self.inside.down (g.R.Disk.seen c.self.inside.rig) (g.R.Disk.seen c.self.inside.opened.value) up (c.self.invariant.3 here)
    (g.R.Disk.may_leave c.self.inside.rig) ((c.self.invariant.0 up).areas here).rests in (
      λ none. absurd (cc none),
      of_beside view c.args.self.now c.self.view_is c.args.entry.now c.of.result c.of.ensures.entry
          (λ (b : Booked g.row.G.Denot g.row.R.Denot) (x : Entry). LeavesEntry g.R.Disk.moment g.R.Disk.may_leave g.R.Disk.left_since b x [] c.step.new.disk) (c.step.ensures.crash here e rests),
    )

pub returns-in-Err-Failed-clause-seals : goal.returns-in-Err-Failed-clause-seals
returns-in-Err-Failed-clause-seals g c = λ plain.
    let view : Booked g.row.G.Denot g.row.R.Denot = (record { rules = c.self.inside.ledger.rules; history = c.self.inside.ledger.history; payloads = payloads_in (after c.self.inside.ledger.rules c.self.inside.ledger.history) (g.R.Disk.seen c.self.inside.rested.value); store = c.self.inside.ledger.store; held = c.self.inside.claims.items; spare = c.self.inside.spare; down = c.self.inside.down; beside = c.self.inside.beside; rig = c.self.inside.rig; opened = c.self.inside.opened.value }) in
    let here : Plain (g.R.Disk.told c.self.inside.rig) (g.R.Disk.honest c.self.inside.rig) =
    subst (λ (b : Booked g.row.G.Denot g.row.R.Denot). Plain (g.R.Disk.told b.rig) (g.R.Disk.honest b.rig)) (sym c.self.view_is) plain in
    let up : c.self.inside.down ≡ false = subst (λ (b : Booked g.row.G.Denot g.row.R.Denot). b.down ≡ false) (sym c.self.view_is) c.requires.up in
    let l = c.self.inside.ledger in
    let e = payloads_in (after l.rules l.history) (g.R.Disk.seen c.self.inside.rested.value) in
    let line = made_line view c.args.self.now c.self.view_is c.args.entry.now c.requires.may in
    let areas = (c.self.invariant.0 up).areas here in
    let rests = rests_with l.rules l.history e c.self.inside.down (g.R.Disk.seen c.self.inside.rig) (g.R.Disk.seen c.self.inside.opened.value) up (c.self.invariant.3 here)
    (g.R.Disk.may_leave c.self.inside.rig) areas.rests in
    of_beside view c.args.self.now c.self.view_is c.args.entry.now c.of.result c.of.ensures.entry
    (λ (b : Booked g.row.G.Denot g.row.R.Denot) (x : Entry). AreSealed b.rules b.history b.payloads → AreSealed b.rules (b.history ++ x ∷ []) (payloads_after digest (state_in b) x [] b.payloads))
    (stays_sealed l.rules l.history e c.args.entry.now [] (g.R.Disk.seen c.self.inside.rig) (g.R.Disk.may_leave c.self.inside.rig) (g.met.R.Disk.reads_as_image c.self.inside.rig here)
    c.len-len.ensures.legal line rests)

pub invariant_of-self : goal.invariant_of-self
invariant_of-self g c =
    let view : Booked g.row.G.Denot g.row.R.Denot = (record { rules = c.self.inside.ledger.rules; history = c.self.inside.ledger.history; payloads = payloads_in (after c.self.inside.ledger.rules c.self.inside.ledger.history) (g.R.Disk.seen c.self.inside.rested.value); store = c.self.inside.ledger.store; held = c.self.inside.claims.items; spare = c.self.inside.spare; down = c.self.inside.down; beside = c.self.inside.beside; rig = c.self.inside.rig; opened = c.self.inside.opened.value }) in
    let up : c.self.inside.down ≡ false = subst (λ (b : Booked g.row.G.Denot g.row.R.Denot). b.down ≡ false) (sym c.self.view_is) c.requires.up in
    let l = c.self.inside.ledger in
    let now = c.step.new.ledger in
    let e = payloads_in (after l.rules l.history) (g.R.Disk.seen c.self.inside.rested.value) in
    let line = made_line view c.args.self.now c.self.view_is c.args.entry.now c.requires.may in
    let longer : List Entry = l.history ++ c.args.entry.now ∷ [] in
    let free = made_free view c.args.self.now c.self.view_is c.args.entry.now l.held c.self.inside.spare (vec_capacity c.self.inside.claims) c.self.invariant.5 c.requires.may in (
      λ is. rw (← c.len-claims.ensures) c.in-Ok.ensures.up,
      λ is. c.self.invariant.1 up,
      λ down plain. absurd (cc (down, up)),
      λ next.
          let here = was_plain c.step.ensures.kind next in
          let areas = (c.self.invariant.0 up).areas here in
          let durable = c.in-Ok.ensures.durable here in
          at_ledger (λ (r : RuleSet) (h : List Entry). KeepsPayloads r h (payloads_in (after r h) (g.R.Disk.seen c.of-rested.result.value)) c.self.inside.down (g.R.Disk.seen c.step.new.disk) (g.R.Disk.seen c.self.inside.opened.value))
          l.rules now.rules longer now.history c.in-Ok.ensures.ok.rules c.in-Ok.ensures.ok.history
          (subst (λ (x : g.row.R.Denot). KeepsPayloads l.rules longer (payloads_in (after l.rules longer) (g.R.Disk.seen x)) c.self.inside.down (g.R.Disk.seen c.step.new.disk) (g.R.Disk.seen c.self.inside.opened.value)) (sym c.of-rested.ensures)
          (keeps_longer l.rules l.history e c.self.inside.down (g.R.Disk.seen c.self.inside.rig) (g.R.Disk.seen c.self.inside.opened.value) up (c.self.invariant.3 here) c.args.entry.now []
          (g.R.Disk.seen c.step.new.disk) (g.R.Disk.may_leave c.self.inside.rig) (g.R.Disk.may_leave c.step.new.disk) c.len-len.ensures.legal line
          (g.met.R.Disk.reads_as_image c.self.inside.rig here) (g.met.R.Disk.reads_as_image c.step.new.disk next) areas.rests
          (durable (payloads_in (after l.rules l.history) (g.R.Disk.seen c.self.inside.rig)) areas.rests))),
      opening_still c.self.invariant.4 c.step.ensures.kind c.in-Ok.ensures.cause,
      claims_entered l.rules now.rules l.history now.history c.args.entry.now l.held now.held c.self.inside.spare c.in-Ok.left c.self.inside.claims.items (vec_capacity c.self.inside.claims) c.len-len.ensures.legal line free
          c.held-held.ensures.are c.in-Ok.ensures.ok.rules c.in-Ok.ensures.ok.history c.step.ensures.held (let kept = c.self.invariant.5.room in omega (arith, kept, c.in-Ok.ensures.less)) c.self.invariant.5,
      λ next.
          let here = was_plain c.step.ensures.kind next in
          let areas = (c.self.invariant.0 up).areas here in
          let durable = c.in-Ok.ensures.durable here in
          let grew : payloads_in (after now.rules now.history) (g.R.Disk.seen c.of-rested.result.value) ≡ payloads_after digest (after l.rules l.history) c.args.entry.now [] e =
          at_ledger (λ (r : RuleSet) (h : List Entry). payloads_in (after r h) (g.R.Disk.seen c.of-rested.result.value) ≡ payloads_after digest (after l.rules l.history) c.args.entry.now [] e)
          l.rules now.rules longer now.history c.in-Ok.ensures.ok.rules c.in-Ok.ensures.ok.history
          (subst (λ (x : g.row.R.Denot). payloads_in (after l.rules longer) (g.R.Disk.seen x) ≡ payloads_after digest (after l.rules l.history) c.args.entry.now [] e) (sym c.of-rested.ensures)
          (grew_by l.rules l.history e c.self.inside.down (g.R.Disk.seen c.self.inside.rig) (g.R.Disk.seen c.self.inside.opened.value) up (c.self.invariant.3 here) c.args.entry.now []
          (g.R.Disk.seen c.step.new.disk) (g.R.Disk.may_leave c.self.inside.rig) (g.R.Disk.may_leave c.step.new.disk) c.len-len.ensures.legal line
          (g.met.R.Disk.reads_as_image c.self.inside.rig here) (g.met.R.Disk.reads_as_image c.step.new.disk next) areas.rests
          (durable (payloads_in (after l.rules l.history) (g.R.Disk.seen c.self.inside.rig)) areas.rests))) in
          read_entered l.rules l.history c.args.entry.now [] l.held c.self.inside.spare c.self.inside.claims.items (vec_capacity c.self.inside.claims) e (payloads_in (after now.rules now.history) (g.R.Disk.seen c.of-rested.result.value))
          c.len-len.ensures.legal line free c.held-held.ensures.are c.self.invariant.5 grew (c.self.invariant.6 here),
    )

pub invariant_of-self-in-Err-Damaged : goal.invariant_of-self-in-Err-Damaged
invariant_of-self-in-Err-Damaged g c =
    let up : c.self.inside.down ≡ false = subst (λ (b : Booked g.row.G.Denot g.row.R.Denot). b.down ≡ false) (sym c.self.view_is) c.requires.up in
    let l = c.self.inside.ledger in
    let now = c.step.new.ledger in
    let cause = subst (λ (f : Halt). CountsHalt {T = ℕ} (g.R.Disk.faults c.self.inside.rig) (g.R.Disk.faults c.step.new.disk) (Err f)) c.in-Err-Damaged.field-0-is c.in-Err-Damaged.ensures.cause in (
      λ is. waits_hurt _ c.in-Err-Damaged.field-0 c.in-Err-Damaged.item c.in-Err-Damaged.stored c.in-Err-Damaged.found c.in-Err-Damaged.field-0-is (rw (← c.len-claims.ensures) c.in-Err-Damaged.ensures.stays),
      λ is. c.self.invariant.1 up,
      λ down plain. absurd (cc (down, up)),
      λ plain.
          let here = was_plain c.step.ensures.kind plain in
          let rests = ((c.self.invariant.0 up).areas here).rests in
          let read = read_rests l.rules l.history (payloads_in (after l.rules l.history) (g.R.Disk.seen c.self.inside.rig)) rests
          (at_hurt (λ item stored found. Plain (g.R.Disk.told c.self.inside.rig) (g.R.Disk.honest c.self.inside.rig) → Runs g.R.Disk.moment g.R.Disk.may_leave g.R.Disk.left_since Same c.self.inside.rig c.step.new.disk) c.step.result c.in-Err-Damaged.field-0
          c.in-Err-Damaged.item c.in-Err-Damaged.stored c.in-Err-Damaged.found c.in-Err-Damaged.is c.in-Err-Damaged.field-0-is c.step.ensures.only_read here) in
          at_ledger (λ (r : RuleSet) (h : List Entry). KeepsPayloads r h (payloads_in (after r h) (g.R.Disk.seen c.self.inside.rested.value)) c.self.inside.down (g.R.Disk.seen c.step.new.disk) (g.R.Disk.seen c.self.inside.opened.value))
          l.rules now.rules l.history now.history c.step.ensures.rules c.in-Err-Damaged.ensures.err
          (keeps_still l.rules l.history (payloads_in (after l.rules l.history) (g.R.Disk.seen c.self.inside.rested.value)) c.self.inside.down (g.R.Disk.seen c.self.inside.rig) (g.R.Disk.seen c.self.inside.opened.value)
          up (c.self.invariant.3 here) (g.R.Disk.seen c.step.new.disk) (read (g.R.Disk.seen c.step.new.disk) (g.met.R.Disk.reads_as_image c.step.new.disk plain)).1),
      opening_still c.self.invariant.4 c.step.ensures.kind cause,
      claims_same l.rules now.rules l.history now.history l.held now.held c.self.inside.spare c.self.inside.spare c.self.inside.claims.items c.self.inside.claims.items (vec_capacity c.self.inside.claims) (vec_capacity c.self.inside.claims)
          c.step.ensures.rules c.in-Err-Damaged.ensures.err c.step.ensures.held refl c.self.invariant.5.room c.self.invariant.5,
      λ plain. read_same l.rules now.rules l.history now.history c.self.inside.claims.items c.self.inside.claims.items (g.R.Disk.seen c.self.inside.rested.value)
          c.step.ensures.rules c.in-Err-Damaged.ensures.err refl (c.self.invariant.6 (was_plain c.step.ensures.kind plain)),
    )

pub invariant_of-self-in-Err-Failed : goal.invariant_of-self-in-Err-Failed
invariant_of-self-in-Err-Failed g c =
    let up : c.self.inside.down ≡ false = subst (λ (b : Booked g.row.G.Denot g.row.R.Denot). b.down ≡ false) (sym c.self.view_is) c.requires.up in
    let l = c.self.inside.ledger in
    let now = c.step.new.ledger in
    let e = payloads_in (after l.rules l.history) (g.R.Disk.seen c.self.inside.rested.value) in
    let cause = subst (λ (f : Halt). CountsHalt {T = ℕ} (g.R.Disk.faults c.self.inside.rig) (g.R.Disk.faults c.step.new.disk) (Err f)) c.in-Err-Failed.field-0-is c.in-Err-Failed.ensures.cause in (
      λ is. absurd (cc is),
      λ is. absurd (cc is),
      λ down plain.
          let here = was_plain c.step.ensures.kind plain in
          let rests = rests_with l.rules l.history e c.self.inside.down (g.R.Disk.seen c.self.inside.rig) (g.R.Disk.seen c.self.inside.opened.value) up (c.self.invariant.3 here)
          (g.R.Disk.may_leave c.self.inside.rig) ((c.self.invariant.0 up).areas here).rests in
          at_ledger (λ (r : RuleSet) (h : List Entry). KeepsDown r h (payloads_in (after r h) (g.R.Disk.seen c.self.inside.rested.value)) (Some c.of.result) (g.R.Disk.may_leave c.step.new.disk))
          l.rules now.rules l.history now.history c.step.ensures.rules c.in-Err-Failed.ensures.err
          (fell_beside l.rules l.history e c.args.entry.now [] c.of.result
          (g.R.Disk.may_leave c.step.new.disk) c.of.ensures.entry c.of.ensures.payload (c.step.ensures.crash here e rests).now),
      λ plain.
          at_ledger (λ (r : RuleSet) (h : List Entry). KeepsPayloads r h (payloads_in (after r h) (g.R.Disk.seen c.self.inside.rested.value)) true (g.R.Disk.seen c.step.new.disk) (g.R.Disk.seen c.self.inside.opened.value))
          l.rules now.rules l.history now.history c.step.ensures.rules c.in-Err-Failed.ensures.err
          (keeps_fallen l.rules l.history e c.self.inside.down (g.R.Disk.seen c.self.inside.rig) (g.R.Disk.seen c.step.new.disk) (g.R.Disk.seen c.self.inside.opened.value)
          (c.self.invariant.3 (was_plain c.step.ensures.kind plain))),
      opening_fell c.self.invariant.4 c.step.ensures.kind cause.0 cause.1,
      claims_same l.rules now.rules l.history now.history l.held now.held c.self.inside.spare c.self.inside.spare c.self.inside.claims.items c.self.inside.claims.items (vec_capacity c.self.inside.claims) (vec_capacity c.self.inside.claims)
          c.step.ensures.rules c.in-Err-Failed.ensures.err c.step.ensures.held refl c.self.invariant.5.room c.self.invariant.5,
      λ plain. read_same l.rules now.rules l.history now.history c.self.inside.claims.items c.self.inside.claims.items (g.R.Disk.seen c.self.inside.rested.value)
          c.step.ensures.rules c.in-Err-Failed.ensures.err refl (c.self.invariant.6 (was_plain c.step.ensures.kind plain)),
    )

pub returns-in-Ok-clause-room : goal.returns-in-Ok-clause-room
returns-in-Ok-clause-room g c =
    let view : Booked g.row.G.Denot g.row.R.Denot = (record { rules = c.self.inside.ledger.rules; history = c.self.inside.ledger.history; payloads = payloads_in (after c.self.inside.ledger.rules c.self.inside.ledger.history) (g.R.Disk.seen c.self.inside.rested.value); store = c.self.inside.ledger.store; held = c.self.inside.claims.items; spare = c.self.inside.spare; down = c.self.inside.down; beside = c.self.inside.beside; rig = c.self.inside.rig; opened = c.self.inside.opened.value }) in
    of_made view c.args.self.now c.self.view_is c.args.entry.now c.step.new.ledger.history c.in-Ok.ensures.ok.history
    (λ (b : Booked g.row.G.Denot g.row.R.Denot) (x : Entry). is_reserved x.what ≡ true → 0 < b.spare → c.in-Ok.left + 1 ≡ b.spare) c.in-Ok.ensures.takes
