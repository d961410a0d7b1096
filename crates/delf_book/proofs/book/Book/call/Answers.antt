use Rattle.std.proofs.Common.{◌≡◌, ℕ, ◌≤◌, true, List, [], ◌∷◌, ◌++◌, length, max, min, Some, refl, vec_capacity, sym, ap, ◌∙◌, subst, arith}
use Rattle.std.specs.Prelude.{Err}
use Rattle.delf_model.specs.declared.entry.Entry.{Entry}
use Rattle.delf_model.specs.Payloads.{payloads_after}
use Rattle.store_laws.specs.Stores.{digest}
use Rattle.delf_book.specs.declared.faults.EntryFault.{EntryFault}
use Rattle.delf_book.proofs.Payloads.{rests_with, grew_by, keeps_longer, keeps_fallen, opening_still, opening_fell}
use Rattle.delf_book.proofs.Plainly.{at_ledger, starved_is}
use Rattle.delf_book.proofs.Fallen.{fell_beside}
use Rattle.delf_book.specs.Claims.{room_for}
use Rattle.delf_book.specs.Keeping.{KeepsUp, KeepsDown, KeepsPayloads, payloads_in}
use Rattle.delf_model.specs.Step.{after}
use Rattle.delf_disk.proofs.Flags.{was_plain, stays_plain}
use Rattle.delf_disk.specs.Plain.{Plain}
use Rattle.delf_model.specs.RuleSet.{RuleSet}
use Rattle.delf_book.proofs.Claiming.{claims_same, claims_entered, read_same, read_entered}
use Rattle.delf_model.specs.Room.{greatest_moment, moment_of}
use Rattle.delf_book.specs.Books.{Booked, state_in, given_by, IsDurable, LeavesEntry, RestsLonger, CountsEntry}
use Rattle.delf_book.specs.Seals.{StaysSealed}
use Rattle.delf_book.proofs.Callings.{entry_here, of_reply}
use Rattle.delf_book.proofs.Whole.{stays_sealed}
use Rattle.delf_book.proofs.book.Book.call.Goals as goal

pub enter-requires-clause-bounded : goal.enter-requires-clause-bounded
enter-requires-clause-bounded g c =
    let view : Booked g.row.G.Denot g.row.R.Denot = (record { rules = c.self.inside.ledger.rules; history = c.self.inside.ledger.history; payloads = payloads_in (after c.self.inside.ledger.rules c.self.inside.ledger.history) (g.R.Disk.seen c.self.inside.rested.value); store = c.self.inside.ledger.store; held = c.self.inside.claims.items; spare = c.self.inside.spare; down = c.self.inside.down; beside = c.self.inside.beside; rig = c.self.inside.rig; opened = c.self.inside.opened.value }) in
    let m_is : c.moment_at-moment.result ≡ moment_of (state_in view) c.args.now =
    c.moment_at-moment.ensures ∙ ap (λ (k : ℕ). max k (min c.args.now greatest_moment)) c.moment.ensures.value in
    let objects : length c.self.inside.ledger.rules.objects ≤ 64 = subst (λ (r : RuleSet). length r.objects ≤ 64) c.rules.ensures (omega (arith, c.objects_len-kinds.ensures.value, c.objects_len-kinds.ensures.below)) in
    let entry = entry_here view c.args.self.now c.self.view_is c.args.now c.args.seat c.args.call.now c.moment_at-moment.result m_is c.in_ok-what.what c.in_ok-what.ensures.reply objects c.requires.numbers in
    entry.bounded

pub of-requires-clause-bounded : goal.of-requires-clause-bounded
of-requires-clause-bounded g c =
    let view : Booked g.row.G.Denot g.row.R.Denot = (record { rules = c.self.inside.ledger.rules; history = c.self.inside.ledger.history; payloads = payloads_in (after c.self.inside.ledger.rules c.self.inside.ledger.history) (g.R.Disk.seen c.self.inside.rested.value); store = c.self.inside.ledger.store; held = c.self.inside.claims.items; spare = c.self.inside.spare; down = c.self.inside.down; beside = c.self.inside.beside; rig = c.self.inside.rig; opened = c.self.inside.opened.value }) in
    let m_is : c.moment_at-moment.result ≡ moment_of (state_in view) c.args.now =
    c.moment_at-moment.ensures ∙ ap (λ (k : ℕ). max k (min c.args.now greatest_moment)) c.moment.ensures.value in
    let objects : length c.self.inside.ledger.rules.objects ≤ 64 = subst (λ (r : RuleSet). length r.objects ≤ 64) c.rules.ensures (omega (arith, c.objects_len-kinds.ensures.value, c.objects_len-kinds.ensures.below)) in
    let entry = entry_here view c.args.self.now c.self.view_is c.args.now c.args.seat c.args.call.now c.moment_at-moment.result m_is c.in_ok-what.what c.in_ok-what.ensures.reply objects c.requires.numbers in
    entry.bounded

pub enter-requires-clause-size : goal.enter-requires-clause-size
enter-requires-clause-size g c =
    let view : Booked g.row.G.Denot g.row.R.Denot = (record { rules = c.self.inside.ledger.rules; history = c.self.inside.ledger.history; payloads = payloads_in (after c.self.inside.ledger.rules c.self.inside.ledger.history) (g.R.Disk.seen c.self.inside.rested.value); store = c.self.inside.ledger.store; held = c.self.inside.claims.items; spare = c.self.inside.spare; down = c.self.inside.down; beside = c.self.inside.beside; rig = c.self.inside.rig; opened = c.self.inside.opened.value }) in
    let m_is : c.moment_at-moment.result ≡ moment_of (state_in view) c.args.now =
    c.moment_at-moment.ensures ∙ ap (λ (k : ℕ). max k (min c.args.now greatest_moment)) c.moment.ensures.value in
    let objects : length c.self.inside.ledger.rules.objects ≤ 64 = subst (λ (r : RuleSet). length r.objects ≤ 64) c.rules.ensures (omega (arith, c.objects_len-kinds.ensures.value, c.objects_len-kinds.ensures.below)) in
    let entry = entry_here view c.args.self.now c.self.view_is c.args.now c.args.seat c.args.call.now c.moment_at-moment.result m_is c.in_ok-what.what c.in_ok-what.ensures.reply objects c.requires.numbers in
    ap length c.payload_of-payload.ensures ∙ entry.size

pub enter-requires-clause-no_item : goal.enter-requires-clause-no_item
enter-requires-clause-no_item g c =
    let view : Booked g.row.G.Denot g.row.R.Denot = (record { rules = c.self.inside.ledger.rules; history = c.self.inside.ledger.history; payloads = payloads_in (after c.self.inside.ledger.rules c.self.inside.ledger.history) (g.R.Disk.seen c.self.inside.rested.value); store = c.self.inside.ledger.store; held = c.self.inside.claims.items; spare = c.self.inside.spare; down = c.self.inside.down; beside = c.self.inside.beside; rig = c.self.inside.rig; opened = c.self.inside.opened.value }) in
    let m_is : c.moment_at-moment.result ≡ moment_of (state_in view) c.args.now =
    c.moment_at-moment.ensures ∙ ap (λ (k : ℕ). max k (min c.args.now greatest_moment)) c.moment.ensures.value in
    let objects : length c.self.inside.ledger.rules.objects ≤ 64 = subst (λ (r : RuleSet). length r.objects ≤ 64) c.rules.ensures (omega (arith, c.objects_len-kinds.ensures.value, c.objects_len-kinds.ensures.below)) in
    let entry = entry_here view c.args.self.now c.self.view_is c.args.now c.args.seat c.args.call.now c.moment_at-moment.result m_is c.in_ok-what.what c.in_ok-what.ensures.reply objects c.requires.numbers in
    entry.no_item

pub enter-requires-clause-rows : goal.enter-requires-clause-rows
enter-requires-clause-rows g c =
    let view : Booked g.row.G.Denot g.row.R.Denot = (record { rules = c.self.inside.ledger.rules; history = c.self.inside.ledger.history; payloads = payloads_in (after c.self.inside.ledger.rules c.self.inside.ledger.history) (g.R.Disk.seen c.self.inside.rested.value); store = c.self.inside.ledger.store; held = c.self.inside.claims.items; spare = c.self.inside.spare; down = c.self.inside.down; beside = c.self.inside.beside; rig = c.self.inside.rig; opened = c.self.inside.opened.value }) in
    let m_is : c.moment_at-moment.result ≡ moment_of (state_in view) c.args.now =
    c.moment_at-moment.ensures ∙ ap (λ (k : ℕ). max k (min c.args.now greatest_moment)) c.moment.ensures.value in
    let objects : length c.self.inside.ledger.rules.objects ≤ 64 = subst (λ (r : RuleSet). length r.objects ≤ 64) c.rules.ensures (omega (arith, c.objects_len-kinds.ensures.value, c.objects_len-kinds.ensures.below)) in
    let entry = entry_here view c.args.self.now c.self.view_is c.args.now c.args.seat c.args.call.now c.moment_at-moment.result m_is c.in_ok-what.what c.in_ok-what.ensures.reply objects c.requires.numbers in
    entry.rows

pub enter-requires-clause-free : goal.enter-requires-clause-free
enter-requires-clause-free g c =
    let view : Booked g.row.G.Denot g.row.R.Denot = (record { rules = c.self.inside.ledger.rules; history = c.self.inside.ledger.history; payloads = payloads_in (after c.self.inside.ledger.rules c.self.inside.ledger.history) (g.R.Disk.seen c.self.inside.rested.value); store = c.self.inside.ledger.store; held = c.self.inside.claims.items; spare = c.self.inside.spare; down = c.self.inside.down; beside = c.self.inside.beside; rig = c.self.inside.rig; opened = c.self.inside.opened.value }) in
    let m_is : c.moment_at-moment.result ≡ moment_of (state_in view) c.args.now =
    c.moment_at-moment.ensures ∙ ap (λ (k : ℕ). max k (min c.args.now greatest_moment)) c.moment.ensures.value in
    let objects : length c.self.inside.ledger.rules.objects ≤ 64 = subst (λ (r : RuleSet). length r.objects ≤ 64) c.rules.ensures (omega (arith, c.objects_len-kinds.ensures.value, c.objects_len-kinds.ensures.below)) in
    let entry = entry_here view c.args.self.now c.self.view_is c.args.now c.args.seat c.args.call.now c.moment_at-moment.result m_is c.in_ok-what.what c.in_ok-what.ensures.reply objects c.requires.numbers in
    entry.unheld c.self.inside.ledger.held

pub returns-in-Ok-clause-crash : goal.returns-in-Ok-clause-crash
returns-in-Ok-clause-crash g c = λ plain.
    let view : Booked g.row.G.Denot g.row.R.Denot = (record { rules = c.self.inside.ledger.rules; history = c.self.inside.ledger.history; payloads = payloads_in (after c.self.inside.ledger.rules c.self.inside.ledger.history) (g.R.Disk.seen c.self.inside.rested.value); store = c.self.inside.ledger.store; held = c.self.inside.claims.items; spare = c.self.inside.spare; down = c.self.inside.down; beside = c.self.inside.beside; rig = c.self.inside.rig; opened = c.self.inside.opened.value }) in
    let m_is : c.moment_at-moment.result ≡ moment_of (state_in view) c.args.now =
    c.moment_at-moment.ensures ∙ ap (λ (k : ℕ). max k (min c.args.now greatest_moment)) c.moment.ensures.value in
    let here : Plain (g.R.Disk.told c.self.inside.rig) (g.R.Disk.honest c.self.inside.rig) =
    subst (λ (b : Booked g.row.G.Denot g.row.R.Denot). Plain (g.R.Disk.told b.rig) (g.R.Disk.honest b.rig)) (sym c.self.view_is) plain in
    let l = c.self.inside.ledger in
    let e = payloads_in (after l.rules l.history) (g.R.Disk.seen c.self.inside.rested.value) in
    let rests = rests_with l.rules l.history e c.self.inside.down (g.R.Disk.seen c.self.inside.rig) (g.R.Disk.seen c.self.inside.opened.value) c.if-self.false (c.self.invariant.3 here)
    (g.R.Disk.may_leave c.self.inside.rig) ((c.self.invariant.0 c.if-self.false).areas here).rests in
    let entry : Entry = record { moment = c.moment_at-moment.result; what = c.in_ok-what.what } in
    of_reply view c.args.self.now c.self.view_is c.args.now c.args.seat c.args.call.now c.moment_at-moment.result m_is c.in_ok-what.what c.in_ok-what.ensures.reply
    (λ (b : Booked g.row.G.Denot g.row.R.Denot) (x : Entry). LeavesEntry g.R.Disk.moment g.R.Disk.may_leave g.R.Disk.left_since b x (given_by c.args.call.now) c.enter.new.disk × RestsLonger g.R.Disk.may_leave b x (given_by c.args.call.now) c.enter.new.disk)
    (subst (λ (p : List ℕ). LeavesEntry g.R.Disk.moment g.R.Disk.may_leave g.R.Disk.left_since view entry p c.enter.new.disk × RestsLonger g.R.Disk.may_leave view entry p c.enter.new.disk) c.payload_of-payload.ensures
    (c.enter.ensures.crash here e rests, c.in-Ok.ensures.durable here e rests))

pub returns-in-Err-Failed-clause-crash : goal.returns-in-Err-Failed-clause-crash
returns-in-Err-Failed-clause-crash g c = λ plain.
    let view : Booked g.row.G.Denot g.row.R.Denot = (record { rules = c.self.inside.ledger.rules; history = c.self.inside.ledger.history; payloads = payloads_in (after c.self.inside.ledger.rules c.self.inside.ledger.history) (g.R.Disk.seen c.self.inside.rested.value); store = c.self.inside.ledger.store; held = c.self.inside.claims.items; spare = c.self.inside.spare; down = c.self.inside.down; beside = c.self.inside.beside; rig = c.self.inside.rig; opened = c.self.inside.opened.value }) in
    let m_is : c.moment_at-moment.result ≡ moment_of (state_in view) c.args.now =
    c.moment_at-moment.ensures ∙ ap (λ (k : ℕ). max k (min c.args.now greatest_moment)) c.moment.ensures.value in
    let here : Plain (g.R.Disk.told c.self.inside.rig) (g.R.Disk.honest c.self.inside.rig) =
    subst (λ (b : Booked g.row.G.Denot g.row.R.Denot). Plain (g.R.Disk.told b.rig) (g.R.Disk.honest b.rig)) (sym c.self.view_is) plain in
    let l = c.self.inside.ledger in
    let e = payloads_in (after l.rules l.history) (g.R.Disk.seen c.self.inside.rested.value) in
    let rests = rests_with l.rules l.history e c.self.inside.down (g.R.Disk.seen c.self.inside.rig) (g.R.Disk.seen c.self.inside.opened.value) c.if-self.false (c.self.invariant.3 here)
    (g.R.Disk.may_leave c.self.inside.rig) ((c.self.invariant.0 c.if-self.false).areas here).rests in
    let entry : Entry = record { moment = c.moment_at-moment.result; what = c.in_ok-what.what } in
    of_reply view c.args.self.now c.self.view_is c.args.now c.args.seat c.args.call.now c.moment_at-moment.result m_is c.in_ok-what.what c.in_ok-what.ensures.reply
    (λ (b : Booked g.row.G.Denot g.row.R.Denot) (x : Entry). LeavesEntry g.R.Disk.moment g.R.Disk.may_leave g.R.Disk.left_since b x (given_by c.args.call.now) c.enter.new.disk)
    (subst (λ (p : List ℕ). LeavesEntry g.R.Disk.moment g.R.Disk.may_leave g.R.Disk.left_since view entry p c.enter.new.disk) c.payload_of-payload.ensures (c.enter.ensures.crash here e rests))

pub returns-in-Ok-clause-seals : goal.returns-in-Ok-clause-seals
returns-in-Ok-clause-seals g c = λ plain.
    let view : Booked g.row.G.Denot g.row.R.Denot = (record { rules = c.self.inside.ledger.rules; history = c.self.inside.ledger.history; payloads = payloads_in (after c.self.inside.ledger.rules c.self.inside.ledger.history) (g.R.Disk.seen c.self.inside.rested.value); store = c.self.inside.ledger.store; held = c.self.inside.claims.items; spare = c.self.inside.spare; down = c.self.inside.down; beside = c.self.inside.beside; rig = c.self.inside.rig; opened = c.self.inside.opened.value }) in
    let m_is : c.moment_at-moment.result ≡ moment_of (state_in view) c.args.now =
    c.moment_at-moment.ensures ∙ ap (λ (k : ℕ). max k (min c.args.now greatest_moment)) c.moment.ensures.value in
    let here : Plain (g.R.Disk.told c.self.inside.rig) (g.R.Disk.honest c.self.inside.rig) =
    subst (λ (b : Booked g.row.G.Denot g.row.R.Denot). Plain (g.R.Disk.told b.rig) (g.R.Disk.honest b.rig)) (sym c.self.view_is) plain in
    let l = c.self.inside.ledger in
    let e = payloads_in (after l.rules l.history) (g.R.Disk.seen c.self.inside.rested.value) in
    let rests = rests_with l.rules l.history e c.self.inside.down (g.R.Disk.seen c.self.inside.rig) (g.R.Disk.seen c.self.inside.opened.value) c.if-self.false (c.self.invariant.3 here)
    (g.R.Disk.may_leave c.self.inside.rig) ((c.self.invariant.0 c.if-self.false).areas here).rests in
    let entry : Entry = record { moment = c.moment_at-moment.result; what = c.in_ok-what.what } in
    of_reply view c.args.self.now c.self.view_is c.args.now c.args.seat c.args.call.now c.moment_at-moment.result m_is c.in_ok-what.what c.in_ok-what.ensures.reply
    (λ (b : Booked g.row.G.Denot g.row.R.Denot) (x : Entry). StaysSealed b x (given_by c.args.call.now))
    (stays_sealed l.rules l.history e entry (given_by c.args.call.now) (g.R.Disk.seen c.self.inside.rig) (g.R.Disk.may_leave c.self.inside.rig)
    (g.met.R.Disk.reads_as_image c.self.inside.rig here) c.len-len.ensures.legal c.in_ok-what.ensures.legal rests)

pub returns-in-Err-Failed-clause-seals : goal.returns-in-Err-Failed-clause-seals
returns-in-Err-Failed-clause-seals g c = λ plain.
    let view : Booked g.row.G.Denot g.row.R.Denot = (record { rules = c.self.inside.ledger.rules; history = c.self.inside.ledger.history; payloads = payloads_in (after c.self.inside.ledger.rules c.self.inside.ledger.history) (g.R.Disk.seen c.self.inside.rested.value); store = c.self.inside.ledger.store; held = c.self.inside.claims.items; spare = c.self.inside.spare; down = c.self.inside.down; beside = c.self.inside.beside; rig = c.self.inside.rig; opened = c.self.inside.opened.value }) in
    let m_is : c.moment_at-moment.result ≡ moment_of (state_in view) c.args.now =
    c.moment_at-moment.ensures ∙ ap (λ (k : ℕ). max k (min c.args.now greatest_moment)) c.moment.ensures.value in
    let here : Plain (g.R.Disk.told c.self.inside.rig) (g.R.Disk.honest c.self.inside.rig) =
    subst (λ (b : Booked g.row.G.Denot g.row.R.Denot). Plain (g.R.Disk.told b.rig) (g.R.Disk.honest b.rig)) (sym c.self.view_is) plain in
    let l = c.self.inside.ledger in
    let e = payloads_in (after l.rules l.history) (g.R.Disk.seen c.self.inside.rested.value) in
    let rests = rests_with l.rules l.history e c.self.inside.down (g.R.Disk.seen c.self.inside.rig) (g.R.Disk.seen c.self.inside.opened.value) c.if-self.false (c.self.invariant.3 here)
    (g.R.Disk.may_leave c.self.inside.rig) ((c.self.invariant.0 c.if-self.false).areas here).rests in
    let entry : Entry = record { moment = c.moment_at-moment.result; what = c.in_ok-what.what } in
    of_reply view c.args.self.now c.self.view_is c.args.now c.args.seat c.args.call.now c.moment_at-moment.result m_is c.in_ok-what.what c.in_ok-what.ensures.reply
    (λ (b : Booked g.row.G.Denot g.row.R.Denot) (x : Entry). StaysSealed b x (given_by c.args.call.now))
    (stays_sealed l.rules l.history e entry (given_by c.args.call.now) (g.R.Disk.seen c.self.inside.rig) (g.R.Disk.may_leave c.self.inside.rig)
    (g.met.R.Disk.reads_as_image c.self.inside.rig here) c.len-len.ensures.legal c.in_ok-what.ensures.legal rests)

pub returns-in-Ok-clause-payloads : goal.returns-in-Ok-clause-payloads
returns-in-Ok-clause-payloads g c = λ plain.
    let view : Booked g.row.G.Denot g.row.R.Denot = (record { rules = c.self.inside.ledger.rules; history = c.self.inside.ledger.history; payloads = payloads_in (after c.self.inside.ledger.rules c.self.inside.ledger.history) (g.R.Disk.seen c.self.inside.rested.value); store = c.self.inside.ledger.store; held = c.self.inside.claims.items; spare = c.self.inside.spare; down = c.self.inside.down; beside = c.self.inside.beside; rig = c.self.inside.rig; opened = c.self.inside.opened.value }) in
    let m_is : c.moment_at-moment.result ≡ moment_of (state_in view) c.args.now =
    c.moment_at-moment.ensures ∙ ap (λ (k : ℕ). max k (min c.args.now greatest_moment)) c.moment.ensures.value in
    let here : Plain (g.R.Disk.told c.self.inside.rig) (g.R.Disk.honest c.self.inside.rig) =
    subst (λ (b : Booked g.row.G.Denot g.row.R.Denot). Plain (g.R.Disk.told b.rig) (g.R.Disk.honest b.rig)) (sym c.self.view_is) plain in
    let next = stays_plain c.enter.ensures.kind here in
    let l = c.self.inside.ledger in
    let now = c.enter.new.ledger in
    let areas = (c.self.invariant.0 c.if-self.false).areas here in
    let durable = c.in-Ok.ensures.durable here in
    let e = payloads_in (after l.rules l.history) (g.R.Disk.seen c.self.inside.rested.value) in
    let entry : Entry = record { moment = c.moment_at-moment.result; what = c.in_ok-what.what } in
    let longer : List Entry = l.history ++ entry ∷ [] in
    let line = c.in_ok-what.ensures.legal in
    of_reply view c.args.self.now c.self.view_is c.args.now c.args.seat c.args.call.now c.moment_at-moment.result m_is c.in_ok-what.what c.in_ok-what.ensures.reply
    (λ (b : Booked g.row.G.Denot g.row.R.Denot) (x : Entry). payloads_in (after now.rules now.history) (g.R.Disk.seen c.of-rested.result.value) ≡ payloads_after digest (state_in b) x (given_by c.args.call.now) b.payloads)
    (at_ledger (λ (r : RuleSet) (h : List Entry). payloads_in (after r h) (g.R.Disk.seen c.of-rested.result.value) ≡ payloads_after digest (after l.rules l.history) entry (given_by c.args.call.now) e)
    l.rules now.rules longer now.history c.in-Ok.ensures.ok.rules c.in-Ok.ensures.ok.history
    (subst (λ (x : g.row.R.Denot). payloads_in (after l.rules longer) (g.R.Disk.seen x) ≡ payloads_after digest (after l.rules l.history) entry (given_by c.args.call.now) e) (sym c.of-rested.ensures)
    (grew_by l.rules l.history e c.self.inside.down (g.R.Disk.seen c.self.inside.rig) (g.R.Disk.seen c.self.inside.opened.value) c.if-self.false (c.self.invariant.3 here) entry (given_by c.args.call.now)
    (g.R.Disk.seen c.enter.new.disk) (g.R.Disk.may_leave c.self.inside.rig) (g.R.Disk.may_leave c.enter.new.disk) c.len-len.ensures.legal line
    (g.met.R.Disk.reads_as_image c.self.inside.rig here) (g.met.R.Disk.reads_as_image c.enter.new.disk next) areas.rests
    (subst (λ (p : List ℕ). IsDurable g.R.Disk.may_leave l.rules l.history entry p c.self.inside.rig c.enter.new.disk) c.payload_of-payload.ensures durable (payloads_in (after l.rules l.history) (g.R.Disk.seen c.self.inside.rig)) areas.rests))))

pub invariant_of-self : goal.invariant_of-self
invariant_of-self g c =
    let l = c.self.inside.ledger in
    let now = c.enter.new.ledger in
    let view : Booked g.row.G.Denot g.row.R.Denot = (record { rules = c.self.inside.ledger.rules; history = c.self.inside.ledger.history; payloads = payloads_in (after c.self.inside.ledger.rules c.self.inside.ledger.history) (g.R.Disk.seen c.self.inside.rested.value); store = c.self.inside.ledger.store; held = c.self.inside.claims.items; spare = c.self.inside.spare; down = c.self.inside.down; beside = c.self.inside.beside; rig = c.self.inside.rig; opened = c.self.inside.opened.value }) in
    let m_is : c.moment_at-moment.result ≡ moment_of (state_in view) c.args.now =
    c.moment_at-moment.ensures ∙ ap (λ (k : ℕ). max k (min c.args.now greatest_moment)) c.moment.ensures.value in
    let objects : length c.self.inside.ledger.rules.objects ≤ 64 = subst (λ (r : RuleSet). length r.objects ≤ 64) c.rules.ensures (omega (arith, c.objects_len-kinds.ensures.value, c.objects_len-kinds.ensures.below)) in
    let made = entry_here view c.args.self.now c.self.view_is c.args.now c.args.seat c.args.call.now c.moment_at-moment.result m_is c.in_ok-what.what c.in_ok-what.ensures.reply objects c.requires.numbers in
    let entry : Entry = record { moment = c.moment_at-moment.result; what = c.in_ok-what.what } in
    let line = c.in_ok-what.ensures.legal in
    let free = made.unheld l.held in (
      λ up. subst (λ (n : ℕ). KeepsUp now.rules now.history (room_for c.self.inside.spare n) now.spare c.enter.new.logs.journal c.enter.new.logs.vault c.enter.new.logs.carriers.items (vec_capacity c.enter.new.logs.carriers) (g.R.Disk.told c.enter.new.disk) (g.R.Disk.honest c.enter.new.disk) (g.R.Disk.seen c.enter.new.disk) (g.R.Disk.may_leave c.enter.new.disk)) c.len-claims.ensures c.in-Ok.ensures.up,
      λ up. c.self.invariant.1 c.if-self.false,
      λ down plain. absurd (cc (down, c.if-self.false)),
      λ next.
          let here = was_plain c.enter.ensures.kind next in
          let l = c.self.inside.ledger in
          let now = c.enter.new.ledger in
          let areas = (c.self.invariant.0 c.if-self.false).areas here in
          let durable = c.in-Ok.ensures.durable here in
          let e = payloads_in (after l.rules l.history) (g.R.Disk.seen c.self.inside.rested.value) in
          let entry : Entry = record { moment = c.moment_at-moment.result; what = c.in_ok-what.what } in
          let longer : List Entry = l.history ++ entry ∷ [] in
          let line = c.in_ok-what.ensures.legal in
          at_ledger (λ (r : RuleSet) (h : List Entry). KeepsPayloads r h (payloads_in (after r h) (g.R.Disk.seen c.of-rested.result.value)) c.self.inside.down (g.R.Disk.seen c.enter.new.disk) (g.R.Disk.seen c.self.inside.opened.value))
          l.rules now.rules longer now.history c.in-Ok.ensures.ok.rules c.in-Ok.ensures.ok.history
          (subst (λ (x : g.row.R.Denot). KeepsPayloads l.rules longer (payloads_in (after l.rules longer) (g.R.Disk.seen x)) c.self.inside.down (g.R.Disk.seen c.enter.new.disk) (g.R.Disk.seen c.self.inside.opened.value)) (sym c.of-rested.ensures)
          (keeps_longer l.rules l.history e c.self.inside.down (g.R.Disk.seen c.self.inside.rig) (g.R.Disk.seen c.self.inside.opened.value) c.if-self.false (c.self.invariant.3 here) entry (given_by c.args.call.now)
          (g.R.Disk.seen c.enter.new.disk) (g.R.Disk.may_leave c.self.inside.rig) (g.R.Disk.may_leave c.enter.new.disk) c.len-len.ensures.legal line
          (g.met.R.Disk.reads_as_image c.self.inside.rig here) (g.met.R.Disk.reads_as_image c.enter.new.disk next) areas.rests
          (subst (λ (p : List ℕ). IsDurable g.R.Disk.may_leave l.rules l.history entry p c.self.inside.rig c.enter.new.disk) c.payload_of-payload.ensures durable (payloads_in (after l.rules l.history) (g.R.Disk.seen c.self.inside.rig)) areas.rests))),
      opening_still c.self.invariant.4 c.enter.ensures.kind c.in-Ok.ensures.cause,
      claims_entered l.rules now.rules l.history now.history entry l.held now.held c.self.inside.spare c.self.inside.spare c.self.inside.claims.items (vec_capacity c.self.inside.claims) c.len-len.ensures.legal line free
          c.held-held.ensures.are c.in-Ok.ensures.ok.rules c.in-Ok.ensures.ok.history c.enter.ensures.held (c.self.invariant.5.room) c.self.invariant.5,
      λ next.
          let here = was_plain c.enter.ensures.kind next in
          let areas = (c.self.invariant.0 c.if-self.false).areas here in
          let durable = c.in-Ok.ensures.durable here in
          let e = payloads_in (after l.rules l.history) (g.R.Disk.seen c.self.inside.rested.value) in
          let longer : List Entry = l.history ++ entry ∷ [] in
          read_entered l.rules l.history entry (given_by c.args.call.now) l.held c.self.inside.spare c.self.inside.claims.items (vec_capacity c.self.inside.claims) e (payloads_in (after now.rules now.history) (g.R.Disk.seen c.of-rested.result.value))
          c.len-len.ensures.legal line free c.held-held.ensures.are c.self.invariant.5
          (at_ledger (λ (r : RuleSet) (h : List Entry). payloads_in (after r h) (g.R.Disk.seen c.of-rested.result.value) ≡ payloads_after digest (after l.rules l.history) entry (given_by c.args.call.now) e)
          l.rules now.rules longer now.history c.in-Ok.ensures.ok.rules c.in-Ok.ensures.ok.history
          (subst (λ (x : g.row.R.Denot). payloads_in (after l.rules longer) (g.R.Disk.seen x) ≡ payloads_after digest (after l.rules l.history) entry (given_by c.args.call.now) e) (sym c.of-rested.ensures)
          (grew_by l.rules l.history e c.self.inside.down (g.R.Disk.seen c.self.inside.rig) (g.R.Disk.seen c.self.inside.opened.value) c.if-self.false (c.self.invariant.3 here) entry (given_by c.args.call.now)
          (g.R.Disk.seen c.enter.new.disk) (g.R.Disk.may_leave c.self.inside.rig) (g.R.Disk.may_leave c.enter.new.disk) c.len-len.ensures.legal line
          (g.met.R.Disk.reads_as_image c.self.inside.rig here) (g.met.R.Disk.reads_as_image c.enter.new.disk next) areas.rests
          (subst (λ (p : List ℕ). IsDurable g.R.Disk.may_leave l.rules l.history entry p c.self.inside.rig c.enter.new.disk) c.payload_of-payload.ensures durable (payloads_in (after l.rules l.history) (g.R.Disk.seen c.self.inside.rig)) areas.rests)))) (c.self.invariant.6 here),
    )

pub invariant_of-self-in-Err-OutOfMemory : goal.invariant_of-self-in-Err-OutOfMemory
invariant_of-self-in-Err-OutOfMemory g c =
    let l = c.self.inside.ledger in
    let now = c.enter.new.ledger in
    let disk : c.enter.new.disk ≡ c.self.inside.rig = c.enter.ensures.starved (c.in-Err-OutOfMemory.is ∙ ap (λ (f : EntryFault). Err f) c.in-Err-OutOfMemory.field-0-is) in (
      λ up. starved_is _ c.in-Err-OutOfMemory.field-0 c.in-Err-OutOfMemory.field-0-is (rw (← c.len-claims.ensures) c.in-Err-OutOfMemory.ensures.up),
      λ up. c.self.invariant.1 c.if-self.false,
      λ down plain. absurd (cc (down, c.if-self.false)),
      λ plain.
          at_ledger (λ (r : RuleSet) (h : List Entry). KeepsPayloads r h (payloads_in (after r h) (g.R.Disk.seen c.self.inside.rested.value)) c.self.inside.down (g.R.Disk.seen c.enter.new.disk) (g.R.Disk.seen c.self.inside.opened.value))
          l.rules now.rules l.history now.history c.enter.ensures.rules c.in-Err-OutOfMemory.ensures.err
          (subst (λ (x : g.row.R.Denot). KeepsPayloads l.rules l.history (payloads_in (after l.rules l.history) (g.R.Disk.seen c.self.inside.rested.value)) c.self.inside.down (g.R.Disk.seen x) (g.R.Disk.seen c.self.inside.opened.value)) (sym disk)
          (c.self.invariant.3 (was_plain c.enter.ensures.kind plain))),
      opening_still c.self.invariant.4 c.enter.ensures.kind (ap g.R.Disk.faults disk),
      claims_same l.rules now.rules l.history now.history l.held now.held c.self.inside.spare c.self.inside.spare c.self.inside.claims.items c.self.inside.claims.items (vec_capacity c.self.inside.claims) (vec_capacity c.self.inside.claims)
          c.enter.ensures.rules c.in-Err-OutOfMemory.ensures.err c.enter.ensures.held refl c.self.invariant.5.room c.self.invariant.5,
      λ plain. read_same l.rules now.rules l.history now.history c.self.inside.claims.items c.self.inside.claims.items (g.R.Disk.seen c.self.inside.rested.value)
          c.enter.ensures.rules c.in-Err-OutOfMemory.ensures.err refl (c.self.invariant.6 (was_plain c.enter.ensures.kind plain)),
    )

pub invariant_of-self-in-Err-Failed : goal.invariant_of-self-in-Err-Failed
invariant_of-self-in-Err-Failed g c =
    let l = c.self.inside.ledger in
    let now = c.enter.new.ledger in
    let cause = subst (λ (f : EntryFault). CountsEntry {T = Unit {0}} (g.R.Disk.faults c.self.inside.rig) (g.R.Disk.faults c.enter.new.disk) (Err f)) c.in-Err-Failed.field-0-is c.in-Err-Failed.ensures.cause in
    let e = payloads_in (after l.rules l.history) (g.R.Disk.seen c.self.inside.rested.value) in (
      λ up. absurd (cc up),
      λ up. absurd (cc up),
      λ down plain.
          let here = was_plain c.enter.ensures.kind plain in
          let rests = rests_with l.rules l.history e c.self.inside.down (g.R.Disk.seen c.self.inside.rig) (g.R.Disk.seen c.self.inside.opened.value) c.if-self.false (c.self.invariant.3 here)
          (g.R.Disk.may_leave c.self.inside.rig) ((c.self.invariant.0 c.if-self.false).areas here).rests in
          at_ledger (λ (r : RuleSet) (h : List Entry). KeepsDown r h (payloads_in (after r h) (g.R.Disk.seen c.self.inside.rested.value)) (Some c.of.result) (g.R.Disk.may_leave c.enter.new.disk))
          l.rules now.rules l.history now.history c.enter.ensures.rules c.in-Err-Failed.ensures.err
          (fell_beside l.rules l.history e (record { moment = c.moment_at-moment.result; what = c.in_ok-what.what }) c.payload_of-payload.result.now c.of.result
          (g.R.Disk.may_leave c.enter.new.disk) c.of.ensures.entry c.of.ensures.payload (c.enter.ensures.crash here e rests).now),
      λ plain.
          at_ledger (λ (r : RuleSet) (h : List Entry). KeepsPayloads r h (payloads_in (after r h) (g.R.Disk.seen c.self.inside.rested.value)) true (g.R.Disk.seen c.enter.new.disk) (g.R.Disk.seen c.self.inside.opened.value))
          l.rules now.rules l.history now.history c.enter.ensures.rules c.in-Err-Failed.ensures.err
          (keeps_fallen l.rules l.history e c.self.inside.down (g.R.Disk.seen c.self.inside.rig) (g.R.Disk.seen c.enter.new.disk) (g.R.Disk.seen c.self.inside.opened.value)
          (c.self.invariant.3 (was_plain c.enter.ensures.kind plain))),
      opening_fell c.self.invariant.4 c.enter.ensures.kind cause.0 cause.1,
      claims_same l.rules now.rules l.history now.history l.held now.held c.self.inside.spare c.self.inside.spare c.self.inside.claims.items c.self.inside.claims.items (vec_capacity c.self.inside.claims) (vec_capacity c.self.inside.claims)
          c.enter.ensures.rules c.in-Err-Failed.ensures.err c.enter.ensures.held refl c.self.invariant.5.room c.self.invariant.5,
      λ plain. read_same l.rules now.rules l.history now.history c.self.inside.claims.items c.self.inside.claims.items (g.R.Disk.seen c.self.inside.rested.value)
          c.enter.ensures.rules c.in-Err-Failed.ensures.err refl (c.self.invariant.6 (was_plain c.enter.ensures.kind plain)),
    )

pub enter-requires-clause-up : goal.enter-requires-clause-up
enter-requires-clause-up g c =
    let l = c.self.inside.ledger in
    let logs = c.self.inside.logs in
    subst (λ (n : ℕ). KeepsUp l.rules l.history (room_for c.self.inside.spare n) l.spare logs.journal logs.vault logs.carriers.items (vec_capacity logs.carriers) (g.R.Disk.told c.self.inside.rig)
    (g.R.Disk.honest c.self.inside.rig) (g.R.Disk.seen c.self.inside.rig) (g.R.Disk.may_leave c.self.inside.rig)) (sym c.len-claims.ensures) (c.self.invariant.0 c.if-self.false)
