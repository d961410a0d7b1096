use Rattle.std.proofs.Common.{List, [], Err, sym, subst}
use Rattle.delf_disk.specs.Plain.{Plain}
use Rattle.delf_disk.specs.Images.{Same}
use Rattle.delf_disk.specs.Moments.{Runs}
use Rattle.delf_disk.proofs.Flags.{was_plain}
use Rattle.vault.specs.declared.fault.FetchFault.{FetchFault}
use Rattle.delf_model.specs.declared.entry.Entry.{Entry}
use Rattle.delf_model.specs.RuleSet.{RuleSet}
use Rattle.delf_model.specs.Step.{after}
use Rattle.store_laws.specs.Moves.{RestIn}
use Rattle.delf_book.specs.Claims.{room_for}
use Rattle.delf_book.specs.Stepping.{TellsWhy, IfDamaged}
use Rattle.delf_book.specs.Steps.{TellsDamage}
use Rattle.delf_book.specs.Books.{IsCrashSafe, IsDurable}
use Rattle.delf_book.proofs.Halts.{if_hurt}
use Rattle.delf_book.proofs.Plainly.{at_ledger}
use Rattle.delf_book.proofs.stepping.step.Goals as goal

pub returns-in_err-make_step-clause-crash : goal.returns-in_err-make_step-clause-crash
returns-in_err-make_step-clause-crash g c = λ plain.
    let same = c.ready_step.ensures.ledger in
    at_ledger (λ (r : RuleSet) (h : List Entry). IsCrashSafe g.D.Disk.moment g.D.Disk.may_leave g.D.Disk.left_since r h c.args.entry.now [] c.args.disk.now c.make_step.new.disk)
    _ _ _ _ (sym same.rules) (sym same.history) (c.make_step.ensures.crash plain)

pub returns-in_err-make_step-clause-damaged : goal.returns-in_err-make_step-clause-damaged
returns-in_err-make_step-clause-damaged g c =
    let same = c.ready_step.ensures.ledger in
    if_hurt c.in_err-make_step.field-0.0 c.from_residual-in_err-make_step.result c.from_residual-in_err-make_step.ensures.1 (λ item stored found is plain e.
    at_ledger (λ (r : RuleSet) (h : List Entry). RestIn r h e (g.D.Disk.may_leave c.args.disk.now) → TellsDamage (after r h) e item stored found)
    _ _ _ _ (sym same.rules) (sym same.history)
    (λ rests. subst (TellsWhy (after c.ready_step.new.ledger.rules c.ready_step.new.ledger.history) e) is (c.in_err-make_step.ensures.damaged plain e rests)))

pub returns-in_err-make_step-clause-only_read : goal.returns-in_err-make_step-clause-only_read
returns-in_err-make_step-clause-only_read g c =
    if_hurt c.in_err-make_step.field-0.0 c.from_residual-in_err-make_step.result c.from_residual-in_err-make_step.ensures.1 (λ item stored found is.
    subst (λ (f : FetchFault). IfDamaged {T = Unit {0}} (Err f) (Plain (g.D.Disk.told c.args.disk.now) (g.D.Disk.honest c.args.disk.now) →
    Runs g.D.Disk.moment g.D.Disk.may_leave g.D.Disk.left_since Same c.args.disk.now c.make_step.new.disk)) is c.in_err-make_step.ensures.only_read)

pub returns-clause-crash : goal.returns-clause-crash
returns-clause-crash g c = λ plain.
    let same = c.ready_step.ensures.ledger in
    at_ledger (λ (r : RuleSet) (h : List Entry). IsCrashSafe g.D.Disk.moment g.D.Disk.may_leave g.D.Disk.left_since r h c.args.entry.now [] c.args.disk.now c.make_step.new.disk)
    _ _ _ _ (sym same.rules) (sym same.history) (c.make_step.ensures.crash plain)

pub returns-clause-durable : goal.returns-clause-durable
returns-clause-durable g c = λ plain.
    let same = c.ready_step.ensures.ledger in
    at_ledger (λ (r : RuleSet) (h : List Entry). IsDurable g.D.Disk.may_leave r h c.args.entry.now [] c.args.disk.now c.make_step.new.disk)
    _ _ _ _ (sym same.rules) (sym same.history) (c.in_ok-make_step.ensures.durable plain)

pub returns-clause-up : goal.returns-clause-up
returns-clause-up g c = record {
  logs = c.in_ok-make_step.ensures.logs;
  carried = c.in_ok-make_step.ensures.carriers;
  room = c.in_ok-make_step.ensures.room (room_for c.in_ok-left.left c.args.claims) c.in_ok-left.ensures.room;
  areas = λ plain. c.in_ok-make_step.ensures.areas (was_plain c.make_step.ensures.kind plain);
}
