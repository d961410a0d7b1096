use Rattle.std.proofs.Common.{◌≡◌, ◌≤◌, true, sym, subst}
use Rattle.delf_disk.specs.Causes.{Rose}
use Rattle.delf_disk.specs.Plain.{Plain, SameTelling}
use Rattle.delf_model.specs.Step.{after}
use Rattle.store_laws.specs.Stores.{AreSealed}
use Rattle.delf_book.specs.Books.{Booked, state_in}
use Rattle.delf_book.specs.Holding.{Holds, StandWhole, ArePaired}
use Rattle.delf_book.specs.Keeping.{payloads_in}
use Rattle.delf_book.proofs.Fallen.{holds_now}
use Rattle.delf_book.proofs.Paired.{are_paired}
use Rattle.delf_book.proofs.book.Book.standing.Goals as goal

pub returns-clause-holds : goal.returns-clause-holds
returns-clause-holds g c = λ plain.
    let view : Booked g.row.G.Denot g.row.R.Denot = (record { rules = c.self.inside.ledger.rules; history = c.self.inside.ledger.history; payloads = payloads_in (after c.self.inside.ledger.rules c.self.inside.ledger.history) (g.R.Disk.seen c.self.inside.rested.value); store = c.self.inside.ledger.store; held = c.self.inside.claims.items; spare = c.self.inside.spare; down = c.self.inside.down; beside = c.self.inside.beside; rig = c.self.inside.rig; opened = c.self.inside.opened.value }) in
    let here : Plain (g.R.Disk.told c.self.inside.rig) (g.R.Disk.honest c.self.inside.rig) =
    subst (λ (b : Booked g.row.G.Denot g.row.R.Denot). Plain (g.R.Disk.told b.rig) (g.R.Disk.honest b.rig)) (sym c.self.view_is) plain in
    subst (λ (b : Booked g.row.G.Denot g.row.R.Denot). Holds g.R.Disk.seen g.R.Disk.may_leave b) c.self.view_is
    (holds_now g.R.Disk.seen g.R.Disk.may_leave view c.len-len.ensures.legal (g.R.Disk.seen c.self.inside.opened.value) (λ up. (c.self.invariant.0 up).areas here) c.self.invariant.1
    (λ down. c.self.invariant.2 down here) (c.self.invariant.3 here))

pub returns-clause-sealed : goal.returns-clause-sealed
returns-clause-sealed g c = λ plain.
    let here : Plain (g.R.Disk.told c.self.inside.rig) (g.R.Disk.honest c.self.inside.rig) =
    subst (λ (b : Booked g.row.G.Denot g.row.R.Denot). Plain (g.R.Disk.told b.rig) (g.R.Disk.honest b.rig)) (sym c.self.view_is) plain in
    subst (λ (b : Booked g.row.G.Denot g.row.R.Denot). StandWhole b.rules (g.R.Disk.seen b.opened) → AreSealed b.rules b.history b.payloads) c.self.view_is (c.self.invariant.3 here).sealed

pub returns-clause-paired : goal.returns-clause-paired
returns-clause-paired g c =
    subst (λ (b : Booked g.row.G.Denot g.row.R.Denot). ArePaired (state_in b) b.payloads) c.self.view_is
    (are_paired c.self.inside.ledger.rules c.self.inside.ledger.history (g.R.Disk.seen c.self.inside.rested.value) c.len-len.ensures.legal)

pub returns-clause-telling : goal.returns-clause-telling
returns-clause-telling g c = subst (λ (b : Booked g.row.G.Denot g.row.R.Denot). SameTelling g.R.Disk.told g.R.Disk.honest b.opened b.rig) c.self.view_is c.self.invariant.4.telling

pub returns-clause-later : goal.returns-clause-later
returns-clause-later g c = subst (λ (b : Booked g.row.G.Denot g.row.R.Denot). g.R.Disk.faults b.opened ≤ g.R.Disk.faults b.rig) c.self.view_is c.self.invariant.4.later

pub returns-clause-fell : goal.returns-clause-fell
returns-clause-fell g c =
    subst (λ (b : Booked g.row.G.Denot g.row.R.Denot). b.down ≡ true → Rose (g.R.Disk.faults b.opened) (g.R.Disk.faults b.rig)) c.self.view_is c.self.invariant.4.rose
