use Rattle.std.proofs.Common.{◌≡◌, ◌+◌, ◌<◌, ◌≤◌, true, false, List, [], ◌∷◌, ◌++◌, Some, refl, vec_len, vec_capacity, sym, ap, ◌∙◌, subst, arith}
use Rattle.delf_disk.specs.Areas.{Areas}
use Rattle.delf_disk.specs.Images.{Same}
use Rattle.delf_disk.specs.Moments.{Runs}
use Rattle.delf_disk.specs.Plain.{Plain}
use Rattle.delf_disk.proofs.Flags.{was_plain}
use Rattle.delf_model.specs.declared.entry.Entry.{Entry}
use Rattle.delf_model.specs.declared.entry.What.{What}
use Rattle.delf_model.specs.RuleSet.{RuleSet}
use Rattle.delf_model.specs.Step.{after}
use Rattle.delete_step.specs.Claims.{ClaimView}
use Rattle.held_laws.specs.Held.{would_log}
use Rattle.ledger.specs.Ledgers.{Ledgered}
use Rattle.delf_book.specs.Begun.{MayBegin}
use Rattle.delf_book.specs.Books.{Booked, state_in}
use Rattle.delf_book.specs.Claims.{room_for, IsLogged, IsRead, AreRead}
use Rattle.delf_book.specs.Keeping.{KeepsAreas, KeepsDown, KeepsPayloads, payloads_in}
use Rattle.delf_book.proofs.Claimed.{logged_is, claims_more, book_same}
use Rattle.delf_book.proofs.Claiming.{claims_same, each_more, read_same}
use Rattle.delf_book.proofs.Fallen.{fell_alone}
use Rattle.delf_book.proofs.Fetching.{areas_read}
use Rattle.delf_book.proofs.Payloads.{rests_with, keeps_fallen, opening_still, opening_fell}
use Rattle.delf_book.proofs.Plainly.{at_ledger, keeps_same}
use Rattle.delf_book.proofs.RowRecords.{read_rests}
use Rattle.delf_book.proofs.Taking.{taken_is}
use Rattle.delf_book.proofs.book.Book.claim.Goals as goal

pub invariant_of-self-in-Ok-read_taken : goal.invariant_of-self-in-Ok-read_taken
invariant_of-self-in-Ok-read_taken g c =
    let l = c.self.inside.ledger in
    let m = c.ready_claim.new.ledger in
    let now = c.hold.new.self in
    let r = c.ready_claim.ensures in
    let old = c.self.inside.logs in
    let new = c.ready_claim.new.logs in
    let list = c.push_reserved.new.self in
    let claim = c.in-Ok-read_taken.claim in
    let up : c.self.inside.down ≡ false = subst (λ (b : Booked g.row.G.Denot g.row.R.Denot). b.down ≡ false) (sym c.self.view_is) c.requires.up in
    let same_rules : now.rules ≡ l.rules = ap (λ (x : Ledgered g.row.G.Denot). x.rules) c.hold.ensures.same ∙ r.ledger.rules in
    let same_history : now.history ≡ l.history = ap (λ (x : Ledgered g.row.G.Denot). x.history) c.hold.ensures.same ∙ r.ledger.history in
    let same_held : now.held ≡ l.held ++ c.args.entry.now.what ∷ [] =
    ap (λ (x : Ledgered g.row.G.Denot). x.held) c.hold.ensures.same ∙ ap (λ (h : List What). h ++ c.args.entry.now.what ∷ []) r.ledger.held in
    let same_claims : list.items ≡ c.self.inside.claims.items ++ claim ∷ [] =
    c.push_reserved.ensures.items ∙ ap (λ (x : ClaimView). c.ready_claim.new.claims.items ++ x ∷ []) c.copy_of.ensures ∙ ap (λ (x : List ClaimView). x ++ claim ∷ []) r.claims in
    let logs : would_log (after l.rules l.history) c.args.entry.now.what ≡ Some claim.item =
    at_ledger (λ (a : RuleSet) (h : List Entry). would_log (after a h) c.args.entry.now.what ≡ Some claim.item) m.rules l.rules m.history l.history (sym r.ledger.rules) (sym r.ledger.history)
    c.in-Ok-read_taken.ensures.logs in
    let e = payloads_in (after l.rules l.history) (g.R.Disk.seen c.self.inside.rested.value) in
    let many : vec_len list ≡ vec_len c.self.inside.claims + 1 = omega (arith, c.push_reserved.ensures.len, r.len) in
    let long = list.ok.0 in (
      λ is.
          let kept = c.self.invariant.0 is in
          let base = keeps_same l.rules now.rules l.history now.history (room_for c.self.inside.spare (vec_len c.self.inside.claims)) l.spare m.spare
          old.journal old.vault new.journal new.vault old.carriers.items new.carriers.items (vec_capacity old.carriers) (vec_capacity new.carriers) _ _ _ _ same_rules same_history
          r.journal_area r.journal_sizes r.vault_area r.vault_sizes r.carriers (λ room. r.keeps) kept in
          let room = c.in-Ok.ensures.room in
          record {
            logs = base.logs;
            carried = base.carried;
            room = record {
              in_ledger = omega (arith, room.in_ledger, c.hold.ensures.spare, many);
              in_journal = omega (arith, room.in_journal, many);
              in_vault = omega (arith, room.in_vault, many);
              in_carriers = omega (arith, room.in_carriers, many);
            };
            areas = λ next.
                let here = was_plain c.read_taken.ensures.kind next in
                let areas = kept.areas here in
                at_ledger (λ (a : RuleSet) (h : List Entry). KeepsAreas a h (g.R.Disk.seen c.read_taken.new.disk) (g.R.Disk.may_leave c.read_taken.new.disk)) l.rules now.rules l.history now.history same_rules same_history
                (areas_read l.rules l.history (g.R.Disk.seen c.self.inside.rig) (g.R.Disk.seen c.read_taken.new.disk) (g.R.Disk.may_leave c.self.inside.rig) (g.R.Disk.may_leave c.read_taken.new.disk) areas
                (c.read_taken.ensures.seen here)
                (read_rests l.rules l.history (payloads_in (after l.rules l.history) (g.R.Disk.seen c.self.inside.rig)) areas.rests (c.read_taken.ensures.any_moment here)));
          },
      c.self.invariant.1,
      λ down plain. absurd (cc (down, up)),
      λ next.
          let here = was_plain c.read_taken.ensures.kind next in
          at_ledger (λ (a : RuleSet) (h : List Entry). KeepsPayloads a h (payloads_in (after a h) (g.R.Disk.seen c.self.inside.rested.value)) c.self.inside.down (g.R.Disk.seen c.read_taken.new.disk) (g.R.Disk.seen c.self.inside.opened.value))
          l.rules now.rules l.history now.history same_rules same_history
          (subst (λ (x : Areas). KeepsPayloads l.rules l.history e c.self.inside.down x (g.R.Disk.seen c.self.inside.opened.value)) (sym (c.read_taken.ensures.seen here)) (c.self.invariant.3 here)),
      opening_still c.self.invariant.4 c.read_taken.ensures.kind c.in-Ok-read_taken.ensures.cause.stays,
      claims_more l.rules now.rules l.history now.history l.held now.held c.self.inside.spare c.in-Ok.left c.self.inside.claims.items list.items (vec_capacity c.self.inside.claims) (vec_capacity list)
          claim c.args.entry.now.what same_rules same_history same_held same_claims logs (let free = c.in-Ok.ensures.list in omega (arith, free, many, long, c.push_reserved.ensures.capacity)) c.self.invariant.5,
      λ next.
          let here = was_plain c.read_taken.ensures.kind next in
          let read : IsRead e claim = subst (λ (d : _). IsRead d claim) (sym ((c.self.invariant.3 here).reads up))
          (at_ledger (λ (a : RuleSet) (h : List Entry). IsRead (payloads_in (after a h) (g.R.Disk.seen c.self.inside.rig)) claim) m.rules l.rules m.history l.history (sym r.ledger.rules) (sym r.ledger.history)
          (c.in-Ok-read_taken.ensures.payload here)) in
          read_same l.rules now.rules l.history now.history list.items list.items (g.R.Disk.seen c.self.inside.rested.value) same_rules same_history refl
          (subst (AreRead e) (sym same_claims) (each_more (IsRead e) c.self.inside.claims.items claim (c.self.invariant.6 here) read)),
    )

pub invariant_of-self-in-Err : goal.invariant_of-self-in-Err
invariant_of-self-in-Err g c =
    let l = c.self.inside.ledger in
    let now = c.ready_claim.new.ledger in
    let r = c.ready_claim.ensures in
    let up : c.self.inside.down ≡ false = subst (λ (b : Booked g.row.G.Denot g.row.R.Denot). b.down ≡ false) (sym c.self.view_is) c.requires.up in
    let e = payloads_in (after l.rules l.history) (g.R.Disk.seen c.self.inside.rested.value) in (
      λ up. absurd (cc up),
      λ up. absurd (cc up),
      λ down next.
          let here = was_plain c.read_taken.ensures.kind next in
          let rests = rests_with l.rules l.history e c.self.inside.down (g.R.Disk.seen c.self.inside.rig) (g.R.Disk.seen c.self.inside.opened.value) up (c.self.invariant.3 here)
          (g.R.Disk.may_leave c.self.inside.rig) ((c.self.invariant.0 up).areas here).rests in
          at_ledger (λ (a : RuleSet) (h : List Entry). KeepsDown a h (payloads_in (after a h) (g.R.Disk.seen c.self.inside.rested.value)) c.self.inside.beside (g.R.Disk.may_leave c.read_taken.new.disk))
          l.rules now.rules l.history now.history r.ledger.rules r.ledger.history
          (fell_alone l.rules l.history e c.self.inside.beside (g.R.Disk.may_leave c.read_taken.new.disk) c.len-len.ensures.legal (c.self.invariant.1 up)
          (read_rests l.rules l.history e rests (c.read_taken.ensures.any_moment here))),
      λ next.
          at_ledger (λ (a : RuleSet) (h : List Entry). KeepsPayloads a h (payloads_in (after a h) (g.R.Disk.seen c.self.inside.rested.value)) true (g.R.Disk.seen c.read_taken.new.disk) (g.R.Disk.seen c.self.inside.opened.value))
          l.rules now.rules l.history now.history r.ledger.rules r.ledger.history
          (keeps_fallen l.rules l.history e c.self.inside.down (g.R.Disk.seen c.self.inside.rig) (g.R.Disk.seen c.read_taken.new.disk) (g.R.Disk.seen c.self.inside.opened.value)
          (c.self.invariant.3 (was_plain c.read_taken.ensures.kind next))),
      opening_fell c.self.invariant.4 c.read_taken.ensures.kind c.in-Err.ensures.cause.later c.in-Err.ensures.cause.failed,
      claims_same l.rules now.rules l.history now.history l.held now.held c.self.inside.spare c.self.inside.spare c.self.inside.claims.items c.ready_claim.new.claims.items
          (vec_capacity c.self.inside.claims) (vec_capacity c.ready_claim.new.claims) r.ledger.rules r.ledger.history r.ledger.held r.claims
          (let kept = r.list_keeps in let long = c.self.inside.claims.ok.0 in omega (arith, kept, long)) c.self.invariant.5,
      λ next. read_same l.rules now.rules l.history now.history c.self.inside.claims.items c.ready_claim.new.claims.items (g.R.Disk.seen c.self.inside.rested.value)
          r.ledger.rules r.ledger.history r.claims (c.self.invariant.6 (was_plain c.read_taken.ensures.kind next)),
    )

pub returns-in-Ok-read_taken-clause-answer : goal.returns-in-Ok-read_taken-clause-answer
returns-in-Ok-read_taken-clause-answer g c =
    let l = c.self.inside.ledger in
    let m = c.ready_claim.new.ledger in
    let now = c.hold.new.self in
    let r = c.ready_claim.ensures in
    let list = c.push_reserved.new.self in
    let claim = c.in-Ok-read_taken.claim in
    let what = c.args.entry.now.what in
    let same_rules : now.rules ≡ l.rules = ap (λ (x : Ledgered g.row.G.Denot). x.rules) c.hold.ensures.same ∙ r.ledger.rules in
    let same_history : now.history ≡ l.history = ap (λ (x : Ledgered g.row.G.Denot). x.history) c.hold.ensures.same ∙ r.ledger.history in
    let same_claims : list.items ≡ c.self.inside.claims.items ++ claim ∷ [] =
    c.push_reserved.ensures.items ∙ ap (λ (x : ClaimView). c.ready_claim.new.claims.items ++ x ∷ []) c.copy_of.ensures ∙ ap (λ (x : List ClaimView). x ++ claim ∷ []) r.claims in
    let logs : would_log (after l.rules l.history) what ≡ Some claim.item =
    at_ledger (λ (a : RuleSet) (h : List Entry). would_log (after a h) what ≡ Some claim.item) m.rules l.rules m.history l.history (sym r.ledger.rules) (sym r.ledger.history)
    c.in-Ok-read_taken.ensures.logs in
    record {
      up = c.requires.up;
      may = subst (MayBegin c.args.self.now c.args.entry.now.moment) (sym (taken_is (after l.rules l.history) what claim.item logs)) c.requires.may;
      logs = subst (λ (b : Booked g.row.G.Denot g.row.R.Denot). IsLogged (state_in b) claim) c.self.view_is (logged_is (after l.rules l.history) what claim logs);
      same = book_same l.rules now.rules l.history now.history (g.R.Disk.seen c.self.inside.rested.value) (c.self.inside.claims.items ++ claim ∷ []) list.items now.store c.in-Ok.left
          c.self.inside.down c.self.inside.beside c.read_taken.new.disk c.self.inside.opened.value same_rules same_history same_claims
          ∙ ap (λ (b : Booked g.row.G.Denot g.row.R.Denot). record b { held = b.held ++ claim ∷ []; store = now.store; spare = c.in-Ok.left; rig = c.read_taken.new.disk }) c.self.view_is;
      spare = subst (λ (b : Booked g.row.G.Denot g.row.R.Denot). b.spare ≤ c.in-Ok.left + 1) c.self.view_is c.in-Ok.ensures.spare;
    }

pub returns-in-Ok-read_taken-clause-room : goal.returns-in-Ok-read_taken-clause-room
returns-in-Ok-read_taken-clause-room g c = subst (λ (b : Booked g.row.G.Denot g.row.R.Denot). 0 < b.spare → c.in-Ok.left + 1 ≡ b.spare) c.self.view_is c.in-Ok.ensures.takes

pub returns-in-Ok-read_taken-clause-reads : goal.returns-in-Ok-read_taken-clause-reads
returns-in-Ok-read_taken-clause-reads g c = λ plain.
    subst (λ (b : Booked g.row.G.Denot g.row.R.Denot). Plain (g.R.Disk.told b.rig) (g.R.Disk.honest b.rig) →
    (g.R.Disk.seen c.read_taken.new.disk ≡ g.R.Disk.seen b.rig) × Runs g.R.Disk.moment g.R.Disk.may_leave g.R.Disk.left_since Same b.rig c.read_taken.new.disk) c.self.view_is
    (λ here. (c.read_taken.ensures.seen here, c.read_taken.ensures.any_moment here)) plain
