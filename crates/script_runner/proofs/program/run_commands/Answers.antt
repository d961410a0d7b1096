use Rattle.std.proofs.Common.{◌≡◌, ℕ, List, take, IsTrue, refl, sym, ap, subst, ◌∙◌, arith}
use Rattle.delf_model.specs.declared.script.Command.{Command}
use Rattle.delf_io.specs.Faults.{Rose}
use Rattle.script_runner.specs.Endings.{UnopenedCause}
use Rattle.script_runner.specs.Worlds.{world_of}
use Rattle.script_runner.proofs.Causes.{stopped_cause, stopped_orders, cut_orders, falls_next}
use Rattle.script_runner.proofs.Ends.{orders_none, orders_more}
use Rattle.documents.proofs.Places.{take_past}
use Rattle.script_runner.proofs.Moves.{plain_then}
use Rattle.script_runner.proofs.Texts.{SoFar, none_so_far, more_so_far, stopped, cut_in_lines, ended}
use Rattle.script_runner.proofs.program.run_commands.Goals as goal

pub loop-command-init : goal.loop-command-init
loop-command-init g c = record {
  told = refl;
  sink_count = refl;
  done = refl;
  rules = refl;
  held = refl;
  telling = record { tells = refl; keeps_word = refl };
  later = omega arith;
  fell = λ down. absurd (cc (c.requires.up, down));
  orders = orders_none (g.R.Disk.order c.args.store.book.rig) (g.R.Disk.orders c.args.store.book.rig);
  so_far = λ plain e stands. none_so_far g.R.Disk.may_leave g.R.Disk.faults c.args.schema.now c.args.store.book c.args.store.clock e _ _ stands;
}

pub returns-in-Err-clause-cause : goal.returns-in-Err-clause-cause
returns-in-Err-clause-cause g c =
    stopped_cause c.in-Err.fault c.loop-command.done (g.R.Disk.faults c.args.store.book.rig) (g.R.Disk.faults c.loop-command.store.book.rig) (g.R.Disk.faults c.in-Err.rig) _ _
    c.put_unopened.result c.loop-command.invariant.later c.in-Err.ensures.err_count (λ area at is plain e stands.
    let inv = c.loop-command.invariant in
    let here = plain_then (g.R.Disk.told c.args.store.book.rig) (g.R.Disk.honest c.args.store.book.rig) (g.R.Disk.told c.loop-command.store.book.rig)
    (g.R.Disk.honest c.loop-command.store.book.rig) inv.telling.tells inv.telling.keeps_word plain in
    let so_far = inv.so_far plain e stands in
    rw is at (c.in-Err.ensures.stops here so_far.reached.payloads) so_far.reached.stands)
    (subst (λ (k : ℕ). UnopenedCause c.in-Err.fault c.loop-command.done (Rose k (g.K.Sink.faults c.put_unopened.new.sink)) c.put_unopened.result)
    c.loop-command.invariant.sink_count c.put_unopened.ensures.cause)

pub returns-in-Err-clause-text : goal.returns-in-Err-clause-text
returns-in-Err-clause-text g c = λ tell plain e stands.
    let inv = c.loop-command.invariant in
    let here = plain_then (g.R.Disk.told c.args.store.book.rig) (g.R.Disk.honest c.args.store.book.rig) (g.R.Disk.told c.loop-command.store.book.rig)
    (g.R.Disk.honest c.loop-command.store.book.rig) inv.telling.tells inv.telling.keeps_word plain in
    let so_far = inv.so_far plain e stands in
    stopped g.R.Disk.may_leave g.R.Disk.faults c.args.schema.now (world_of c.args.store.book c.args.store.clock e) c.args.commands.now (g.R.Disk.faults c.args.store.book.rig)
    c.loop-command.command-index c.loop-command.done c.command-item.result c.loop-command.store.book c.loop-command.store.clock c.in-Err.rig (IsTrue (g.K.Sink.told c.args.sink.now))
    _ _ _ c.in-Err.fault _ c.put_unopened.result tell inv.done (omega arith) c.command-item.is so_far (c.in-Err.ensures.stops here so_far.reached.payloads) c.in-Err.ensures.err_count
    (c.put_unopened.ensures.text (subst IsTrue (sym inv.told) tell)) c.put_unopened.ensures.cause

pub returns-in-Err-clause-orders : goal.returns-in-Err-clause-orders
returns-in-Err-clause-orders g c =
    stopped_orders c.args.commands.now c.loop-command.command-index c.loop-command.done c.command-item.result _ _ _ _ _ _ c.in-Err.fault _ c.put_unopened.result
    c.loop-command.invariant.done (omega arith) c.command-item.is c.loop-command.invariant.orders c.in-Err.ensures.err_orders c.put_unopened.ensures.cause

pub returns-in_default-clause-text : goal.returns-in_default-clause-text
returns-in_default-clause-text g c = λ tell plain e stands.
    let inv = c.loop-command.invariant in
    let here = plain_then (g.R.Disk.told c.args.store.book.rig) (g.R.Disk.honest c.args.store.book.rig) (g.R.Disk.told c.loop-command.store.book.rig)
    (g.R.Disk.honest c.loop-command.store.book.rig) inv.telling.tells inv.telling.keeps_word plain in
    let so_far = inv.so_far plain e stands in
    cut_in_lines g.R.Disk.may_leave g.R.Disk.faults c.args.schema.now (world_of c.args.store.book c.args.store.clock e) c.args.commands.now (g.R.Disk.faults c.args.store.book.rig)
    c.loop-command.command-index c.loop-command.done c.command-item.result c.loop-command.store.book c.in-Ok.next.book c.loop-command.store.clock c.in-Ok.next.clock c.into_disk.result
    (IsTrue (g.K.Sink.told c.args.sink.now)) _ _ _ c.in-Ok.lines tell inv.done c.into_disk.ensures c.len-len.ensures.legal (omega arith) c.command-item.is so_far
    (c.in-Ok.ensures.serves here so_far.reached.payloads so_far.reached.stands)
    (rw (sym c.as_slice.ensures) (c.in_default.ensures.front (subst IsTrue (sym inv.told) tell))) (c.in-Ok.ensures.settles here)

pub returns-in_default-clause-orders : goal.returns-in_default-clause-orders
returns-in_default-clause-orders g c = rw c.into_disk.ensures (
    cut_orders c.args.commands.now c.loop-command.command-index c.loop-command.done c.command-item.result _ _ _ _ _ _
    c.loop-command.invariant.done (omega arith) c.command-item.is c.loop-command.invariant.orders c.in-Ok.ensures.ok_orders)

pub loop-command-preserved : goal.loop-command-preserved
loop-command-preserved g c =
    let inv = c.loop-command.invariant in
    record {
      told = c.put_all.ensures.same_told ∙ inv.told;
      sink_count = c.in-Ok-put_all.ensures.ok_stays ∙ inv.sink_count;
      done = omega arith;
      rules = c.in-Ok.ensures.same_rules ∙ inv.rules;
      held = c.in-Ok.ensures.ok_count.held ∙ inv.held;
      telling = record { tells = c.in-Ok.ensures.ok_telling.tells ∙ inv.telling.tells; keeps_word = c.in-Ok.ensures.ok_telling.keeps_word ∙ inv.telling.keeps_word };
      later = omega (arith, c.in-Ok.ensures.ok_count.later);
      fell = falls_next g.R.Disk.faults (g.R.Disk.faults c.args.store.book.rig) c.loop-command.store.book c.in-Ok.next.book inv.later inv.fell c.in-Ok.ensures.ok_count;
      orders = orders_more c.args.commands.now c.loop-command.command-index c.command-item.result _ _ _ _ _ _ (omega arith) c.command-item.is inv.orders c.in-Ok.ensures.ok_orders;
      so_far = λ plain e stands.
          let here = plain_then (g.R.Disk.told c.args.store.book.rig) (g.R.Disk.honest c.args.store.book.rig) (g.R.Disk.told c.loop-command.store.book.rig)
          (g.R.Disk.honest c.loop-command.store.book.rig) inv.telling.tells inv.telling.keeps_word plain in
          let so_far = inv.so_far plain e stands in
          more_so_far g.R.Disk.may_leave g.R.Disk.faults c.args.schema.now (world_of c.args.store.book c.args.store.clock e) c.args.commands.now (g.R.Disk.faults c.args.store.book.rig)
          c.loop-command.command-index c.command-item.result c.loop-command.store.book c.in-Ok.next.book c.loop-command.store.clock c.in-Ok.next.clock
          (IsTrue (g.K.Sink.told c.args.sink.now)) _ _ _ c.in-Ok.lines (omega arith) c.command-item.is so_far
          (c.in-Ok.ensures.serves here so_far.reached.payloads so_far.reached.stands)
          (λ tell. rw (sym c.as_slice.ensures) (c.in-Ok-put_all.ensures.all (subst IsTrue (sym inv.told) tell)));
    }

pub returns-clause-text : goal.returns-clause-text
returns-clause-text g c = λ tell plain e stands.
    let inv = c.loop-command.invariant in
    let here = plain_then (g.R.Disk.told c.args.store.book.rig) (g.R.Disk.honest c.args.store.book.rig) (g.R.Disk.told c.loop-command.store.book.rig)
    (g.R.Disk.honest c.loop-command.store.book.rig) inv.telling.tells inv.telling.keeps_word plain in
    let so_far = inv.so_far plain e stands in
    let all : take c.loop-command.command-index c.args.commands.now ≡ c.args.commands.now = take_past c.args.commands.now c.loop-command.command-index (omega arith) in
    let done : SoFar g.R.Disk.may_leave g.R.Disk.faults c.args.schema.now (world_of c.args.store.book c.args.store.clock e) c.args.commands.now (g.R.Disk.faults c.args.store.book.rig) c.loop-command.store.book c.loop-command.store.clock
    (IsTrue (g.K.Sink.told c.args.sink.now)) (g.K.Sink.held c.args.sink.now) (g.K.Sink.held c.loop-command.sink) =
    subst (λ (cs : List Command). SoFar g.R.Disk.may_leave g.R.Disk.faults c.args.schema.now (world_of c.args.store.book c.args.store.clock e) cs (g.R.Disk.faults c.args.store.book.rig)
    c.loop-command.store.book c.loop-command.store.clock (IsTrue (g.K.Sink.told c.args.sink.now)) (g.K.Sink.held c.args.sink.now) (g.K.Sink.held c.loop-command.sink)) all so_far in
    ended g.R.Disk.may_leave g.R.Disk.faults c.args.schema.now (world_of c.args.store.book c.args.store.clock e) c.args.commands.now (g.R.Disk.faults c.args.store.book.rig) c.loop-command.done c.loop-command.store.book c.loop-command.store.clock c.finish.result.1
    (IsTrue (g.K.Sink.told c.args.sink.now)) _ _ _ c.finish.result.0 tell (omega arith) (ap (λ (k : ℕ). take k c.args.commands.now) inv.done ∙ all)
    c.finish.ensures.history.0 c.finish.ensures.history.1 done
    (c.finish.ensures.text (subst IsTrue (sym inv.told) tell) here done.reached.payloads done.reached.stands)
