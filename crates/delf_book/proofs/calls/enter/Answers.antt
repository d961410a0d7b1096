use Rattle.std.proofs.Common.{◌≡◌, ℕ, ◌+◌, List, length, vec_capacity, sym, subst}
use Rattle.delf_model.specs.declared.entry.Entry.{Entry}
use Rattle.delf_model.specs.RuleSet.{RuleSet}
use Rattle.delf_disk.proofs.Flags.{was_plain}
use Rattle.delf_book.specs.Books.{IsCrashSafe, IsDurable}
use Rattle.delf_book.specs.Claims.{room_for}
use Rattle.delf_book.specs.Keeping.{HasRoom}
use Rattle.delf_book.proofs.Plainly.{at_ledger, unmoved, keeps_same, unless_failed}
use Rattle.delf_book.proofs.calls.enter.Goals as goal

pub returns-in_default-clause-crash : goal.returns-in_default-clause-crash
returns-in_default-clause-crash g c = λ plain.
    unmoved c.args.ledger.now.rules c.args.ledger.now.history c.args.entry.now c.args.payload.now c.args.disk.now c.len-len.ensures.legal
    (λ x left. g.met.D.Disk.only_now c.args.disk.now x plain left)

pub returns-in_err-make_ready-clause-crash : goal.returns-in_err-make_ready-clause-crash
returns-in_err-make_ready-clause-crash g c = λ plain.
    unmoved c.args.ledger.now.rules c.args.ledger.now.history c.args.entry.now c.args.payload.now c.args.disk.now c.len-len.ensures.legal
    (λ x left. g.met.D.Disk.only_now c.args.disk.now x plain left)

pub returns-in_err-make_ready-clause-up : goal.returns-in_err-make_ready-clause-up
returns-in_err-make_ready-clause-up g c =
    let r = c.make_ready.ensures in
    let old = c.args.logs.now in
    let new = c.make_ready.new.logs in
    unless_failed c.from_residual.result (keeps_same c.args.ledger.now.rules c.make_ready.new.ledger.rules c.args.ledger.now.history c.make_ready.new.ledger.history (room_for c.args.spare c.args.claims) c.args.ledger.now.spare c.make_ready.new.ledger.spare
    old.journal old.vault new.journal new.vault old.carriers.items new.carriers.items (vec_capacity old.carriers) (vec_capacity new.carriers) _ _ _ _ r.ledger.rules r.ledger.history r.journal_area r.journal_sizes r.vault_area r.vault_sizes r.carriers (r.kept (room_for c.args.spare c.args.claims)) c.requires.up)

pub returns-in_err-add-clause-crash : goal.returns-in_err-add-clause-crash
returns-in_err-add-clause-crash g c = λ plain.
    let same = c.make_ready.ensures.ledger in
    at_ledger (λ (r : RuleSet) (h : List Entry). IsCrashSafe g.D.Disk.moment g.D.Disk.may_leave g.D.Disk.left_since r h c.args.entry.now c.args.payload.now c.args.disk.now c.add.new.disk)
    _ _ _ _ (sym same.rules) (sym same.history) (c.add.ensures.crash plain)

pub returns-clause-crash : goal.returns-clause-crash
returns-clause-crash g c = λ plain.
    let same = c.make_ready.ensures.ledger in
    at_ledger (λ (r : RuleSet) (h : List Entry). IsCrashSafe g.D.Disk.moment g.D.Disk.may_leave g.D.Disk.left_since r h c.args.entry.now c.args.payload.now c.args.disk.now c.add.new.disk)
    _ _ _ _ (sym same.rules) (sym same.history) (c.add.ensures.crash plain)

pub returns-clause-durable : goal.returns-clause-durable
returns-clause-durable g c = λ plain.
    let same = c.make_ready.ensures.ledger in
    at_ledger (λ (r : RuleSet) (h : List Entry). IsDurable g.D.Disk.may_leave r h c.args.entry.now c.args.payload.now c.args.disk.now c.add.new.disk)
    _ _ _ _ (sym same.rules) (sym same.history) (c.in_ok-add.ensures.durable plain)

pub returns-clause-up : goal.returns-clause-up
returns-clause-up g c = record {
  logs = c.in_ok-add.ensures.logs;
  carried = c.in_ok-add.ensures.carriers;
  room =
      (let more : c.in-Some.n ≡ room_for c.args.spare c.args.claims + 1 = c.in-Some.ensures in
      let logs = c.make_ready.new.logs in
      c.in_ok-add.ensures.room (room_for c.args.spare c.args.claims)
      (subst (λ (k : ℕ). HasRoom k c.make_ready.new.ledger.spare logs.journal logs.vault (length logs.carriers.items) (vec_capacity logs.carriers)) more c.in_ok-make_ready.ensures.room));
  areas = λ plain. c.in_ok-add.ensures.areas (was_plain c.add.ensures.kind plain);
}
