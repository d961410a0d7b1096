use Rattle.std.proofs.Common.{ℕ, refl, subst, ◌∙◌, arith}
use Rattle.delf_disk.specs.Causes.{Rose}
use Rattle.script_runner.specs.Worlds.{world_of}
use Rattle.script_runner.proofs.Moves.{plain_then, kind_then, kind_stays}
use Rattle.script_runner.proofs.Steps.{none_so_far, stepped, fell, met_damage, starved}
use Rattle.script_runner.proofs.script.make_steps.Goals as goal

pub loop-made-init : goal.loop-made-init
loop-made-init g c = record {
  up = c.requires.up;
  rules = refl;
  held = refl;
  count = refl;
  kind = kind_stays g.R.Disk.told g.R.Disk.honest g.R.Disk.order g.R.Disk.orders c.args.book.now.rig;
  so_far = λ plain e stands. none_so_far g.R.Disk.may_leave c.args.book.now c.args.clock e c.requires.up stands;
}

pub returns-in-Err-OutOfMemory-clause-halts : goal.returns-in-Err-OutOfMemory-clause-halts
returns-in-Err-OutOfMemory-clause-halts g c = λ plain e stands.
    let book = c.loop-made.book in
    let inv = c.loop-made.invariant in
    let next = plain_then (g.R.Disk.told c.args.book.now.rig) (g.R.Disk.honest c.args.book.now.rig) (g.R.Disk.told book.rig) (g.R.Disk.honest book.rig)
    inv.kind.tells inv.kind.keeps_word plain in
    let at = c.in-Err-OutOfMemory in
    starved g.R.Disk.may_leave c.args.n c.loop-made.made (world_of c.args.book.now c.args.clock e) book c.work.new.self.rig c.args.clock inv.up (omega arith)
    c.len-len.ensures.legal (rw at.field-0-is at (at.ensures.crash next)) (inv.so_far plain e stands)

pub returns-in-Err-DiskFault-clause-steps : goal.returns-in-Err-DiskFault-clause-steps
returns-in-Err-DiskFault-clause-steps g c = λ plain e stands.
    let book = c.loop-made.book in
    let inv = c.loop-made.invariant in
    let next = plain_then (g.R.Disk.told c.args.book.now.rig) (g.R.Disk.honest c.args.book.now.rig) (g.R.Disk.told book.rig) (g.R.Disk.honest book.rig)
    inv.kind.tells inv.kind.keeps_word plain in
    let at = c.in-Err-DiskFault in
    let counts = rw at.field-0-is at at.ensures.cause in
    fell g.R.Disk.seen g.R.Disk.moment g.R.Disk.may_leave g.R.Disk.left_since g.R.Disk.faults c.args.n c.loop-made.made (world_of c.args.book.now c.args.clock e)
    (g.R.Disk.faults c.args.book.now.rig) book c.work.new.self c.args.clock at.len
    (record { legal = c.len-len.ensures.legal; image = g.met.R.Disk.reads_as_image c.loop-made.book.rig next; holds = c.standing.ensures.holds next }) (omega arith)
    (subst (λ (k : ℕ). Rose k (g.R.Disk.faults c.work.new.self.rig)) inv.count counts.1)
    (rw at.field-0-is at at.ensures.answer) (rw at.field-0-is at (at.ensures.crash next)) (inv.so_far plain e stands)

pub returns-in-Err-Damaged-clause-steps : goal.returns-in-Err-Damaged-clause-steps
returns-in-Err-Damaged-clause-steps g c = λ plain e stands.
    let book = c.loop-made.book in
    let inv = c.loop-made.invariant in
    let next = plain_then (g.R.Disk.told c.args.book.now.rig) (g.R.Disk.honest c.args.book.now.rig) (g.R.Disk.told book.rig) (g.R.Disk.honest book.rig)
    inv.kind.tells inv.kind.keeps_word plain in
    let at = c.in-Err-Damaged in
    met_damage g.R.Disk.seen g.R.Disk.moment g.R.Disk.may_leave g.R.Disk.left_since g.R.Disk.faults c.args.n c.loop-made.made (world_of c.args.book.now c.args.clock e)
    (g.R.Disk.faults c.args.book.now.rig) book c.work.new.self c.args.clock at.item at.field-0-1 at.field-0-2
    (record { legal = c.len-len.ensures.legal; image = g.met.R.Disk.reads_as_image c.loop-made.book.rig next; holds = c.standing.ensures.holds next }) (omega arith)
    ((rw at.field-0-is at at.ensures.cause) ∙ inv.count)
    (rw at.field-0-is at at.ensures.answer) (rw at.field-0-is at (at.ensures.crash next)) (rw at.field-0-is at (at.ensures.payloads next)) (inv.so_far plain e stands)

pub loop-made-preserved : goal.loop-made-preserved
loop-made-preserved g c =
    let inv = c.loop-made.invariant in
    let at = c.in-Ok-Stepped in
    let answer = rw at.field-0-is at at.ensures.answer in
    record {
      up = answer.grew.up;
      rules = answer.grew.rules ∙ inv.rules;
      held = answer.grew.held ∙ inv.held;
      count = at.ensures.cause ∙ inv.count;
      kind = kind_then g.R.Disk.told g.R.Disk.honest g.R.Disk.order g.R.Disk.orders c.args.book.now.rig c.loop-made.book.rig c.work.new.self.rig inv.kind at.ensures.kind;
      so_far = λ plain e stands.
          let next = plain_then (g.R.Disk.told c.args.book.now.rig) (g.R.Disk.honest c.args.book.now.rig) (g.R.Disk.told c.loop-made.book.rig) (g.R.Disk.honest c.loop-made.book.rig)
          inv.kind.tells inv.kind.keeps_word plain in
          stepped g.R.Disk.seen g.R.Disk.moment g.R.Disk.may_leave g.R.Disk.left_since (world_of c.args.book.now c.args.clock e) c.loop-made.made
          c.loop-made.book c.work.new.self c.args.clock at.field-0-0
          (record { legal = c.len-len.ensures.legal; image = g.met.R.Disk.reads_as_image c.loop-made.book.rig next; holds = c.standing.ensures.holds next })
          answer (rw at.field-0-is at (at.ensures.crash next)) (rw at.field-0-is at (at.ensures.payloads next)) (inv.so_far plain e stands);
    }
