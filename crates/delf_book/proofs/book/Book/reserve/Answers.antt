use Rattle.std.proofs.Common.{List, vec_len, vec_capacity, ◌+◌, arith}
use Rattle.delf_model.specs.declared.entry.Entry.{Entry}
use Rattle.delf_model.specs.RuleSet.{RuleSet}
use Rattle.delf_model.specs.Step.{after}
use Rattle.delf_book.specs.Claims.{room_for}
use Rattle.delf_book.specs.Keeping.{KeepsDown, KeepsPayloads, payloads_in}
use Rattle.delf_book.proofs.Claiming.{claims_same, read_same, less_room}
use Rattle.delf_book.proofs.Plainly.{keeps_same, at_ledger}
use Rattle.delf_book.proofs.book.Book.reserve.Goals as goal

pub invariant_of-self : goal.invariant_of-self
invariant_of-self g c =
    let r = c.make_step_room.ensures in
    let l = c.self.inside.ledger in
    let m = c.make_step_room.new.ledger in
    let old = c.self.inside.logs in
    let new = c.make_step_room.new.logs in
    let spare = c.self.inside.spare in (
      λ up.
          let kept = keeps_same l.rules m.rules l.history m.history (room_for spare (vec_len c.self.inside.claims)) l.spare m.spare
          old.journal old.vault new.journal new.vault old.carriers.items new.carriers.items (vec_capacity old.carriers) (vec_capacity new.carriers) _ _ _ _ r.ledger.rules r.ledger.history
          r.journal_area r.journal_sizes r.vault_area r.vault_sizes r.carriers (r.kept (room_for spare (vec_len c.self.inside.claims))) (c.self.invariant.0 up) in
          record {
            logs = kept.logs;
            carried = kept.carried;
            room = rw r.len (less_room (room_for c.args.n (vec_len c.self.inside.claims) + 1) (room_for c.args.n (vec_len c.self.inside.claims)) m.spare new.journal new.vault _ _ (omega arith) c.in-Ok.ensures.room);
            areas = kept.areas;
          },
      c.self.invariant.1,
      λ down plain.
          at_ledger (λ (a : RuleSet) (h : List Entry). KeepsDown a h (payloads_in (after a h) (g.R.Disk.seen c.self.inside.rested.value)) c.self.inside.beside (g.R.Disk.may_leave c.self.inside.rig))
          l.rules m.rules l.history m.history r.ledger.rules r.ledger.history (c.self.invariant.2 down plain),
      λ plain.
          at_ledger (λ (a : RuleSet) (h : List Entry). KeepsPayloads a h (payloads_in (after a h) (g.R.Disk.seen c.self.inside.rested.value)) c.self.inside.down (g.R.Disk.seen c.self.inside.rig) (g.R.Disk.seen c.self.inside.opened.value))
          l.rules m.rules l.history m.history r.ledger.rules r.ledger.history (c.self.invariant.3 plain),
      c.self.invariant.4,
      claims_same l.rules m.rules l.history m.history l.held m.held spare c.args.n c.self.inside.claims.items c.make_step_room.new.claims.items (vec_capacity c.self.inside.claims) (vec_capacity c.make_step_room.new.claims)
          r.ledger.rules r.ledger.history r.ledger.held r.claims (let list = c.in-Ok.ensures.list in let ok = c.self.inside.claims.ok.0 in omega (arith, list, ok)) c.self.invariant.5,
      λ plain. read_same l.rules m.rules l.history m.history c.self.inside.claims.items c.make_step_room.new.claims.items (g.R.Disk.seen c.self.inside.rested.value)
          r.ledger.rules r.ledger.history r.claims (c.self.invariant.6 plain),
    )

pub invariant_of-self-in-Err : goal.invariant_of-self-in-Err
invariant_of-self-in-Err g c =
    let r = c.make_step_room.ensures in
    let l = c.self.inside.ledger in
    let m = c.make_step_room.new.ledger in
    let old = c.self.inside.logs in
    let new = c.make_step_room.new.logs in
    let spare = c.self.inside.spare in (
      λ up. rw r.len (keeps_same l.rules m.rules l.history m.history (room_for spare (vec_len c.self.inside.claims)) l.spare m.spare
          old.journal old.vault new.journal new.vault old.carriers.items new.carriers.items (vec_capacity old.carriers) (vec_capacity new.carriers) _ _ _ _ r.ledger.rules r.ledger.history
          r.journal_area r.journal_sizes r.vault_area r.vault_sizes r.carriers (r.kept (room_for spare (vec_len c.self.inside.claims))) (c.self.invariant.0 up)),
      c.self.invariant.1,
      λ down plain.
          at_ledger (λ (a : RuleSet) (h : List Entry). KeepsDown a h (payloads_in (after a h) (g.R.Disk.seen c.self.inside.rested.value)) c.self.inside.beside (g.R.Disk.may_leave c.self.inside.rig))
          l.rules m.rules l.history m.history r.ledger.rules r.ledger.history (c.self.invariant.2 down plain),
      λ plain.
          at_ledger (λ (a : RuleSet) (h : List Entry). KeepsPayloads a h (payloads_in (after a h) (g.R.Disk.seen c.self.inside.rested.value)) c.self.inside.down (g.R.Disk.seen c.self.inside.rig) (g.R.Disk.seen c.self.inside.opened.value))
          l.rules m.rules l.history m.history r.ledger.rules r.ledger.history (c.self.invariant.3 plain),
      c.self.invariant.4,
      claims_same l.rules m.rules l.history m.history l.held m.held spare spare c.self.inside.claims.items c.make_step_room.new.claims.items (vec_capacity c.self.inside.claims) (vec_capacity c.make_step_room.new.claims)
          r.ledger.rules r.ledger.history r.ledger.held r.claims (let kept = c.self.invariant.5.room in omega (arith, kept, r.capacity)) c.self.invariant.5,
      λ plain. read_same l.rules m.rules l.history m.history c.self.inside.claims.items c.make_step_room.new.claims.items (g.R.Disk.seen c.self.inside.rested.value)
          r.ledger.rules r.ledger.history r.claims (c.self.invariant.6 plain),
    )
