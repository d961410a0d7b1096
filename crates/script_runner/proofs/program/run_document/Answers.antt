use Rattle.std.proofs.Common.{◌≡◌, ℕ, List, refl, subst, inl, rules, ◌∙◌, arith, min}
use Rattle.delf_disk.specs.Causes.{Rose}
use Rattle.delf_model.specs.declared.script.Command.{Command}
use Rattle.delf_model.specs.Room.{greatest_moment}
use Rattle.script_runner.specs.Outcomes.{ScriptText}
use Rattle.script_runner.specs.Worlds.{world_of}
use Rattle.script_runner.proofs.Causes.{stopped_cause}
use Rattle.script_runner.proofs.Ends.{orders_none}
use Rattle.script_runner.proofs.Moves.{plain_then}
use Rattle.script_runner.proofs.Openings.{found_stands, found_opens, ran_opened, cause_by, counts_stop, bad_is, unopened_text, no_orders}
use Rattle.script_runner.proofs.program.run_document.Goals as goal

pub returns-then-len-clause-orders : goal.returns-then-len-clause-orders
returns-then-len-clause-orders g c = record { n = 0; gives = orders_none (g.R.Disk.order c.args.rig) (g.R.Disk.orders c.args.rig); made = inl refl }

pub returns-in-Ok-clause-cause : goal.returns-in-Ok-clause-cause
returns-in-Ok-clause-cause g c =
    let at = c.in-Ok.ensures in
    cause_by _ _ _ _ _ c.run_commands.result.0
    (λ rose. subst (λ (k : ℕ). Rose k (g.R.Disk.faults c.run_commands.result.1)) at.ok_count rose)
    (λ area place never plain.
    let here = plain_then (g.R.Disk.told c.args.rig) (g.R.Disk.honest c.args.rig) (g.R.Disk.told c.in-Ok.store.book.rig) (g.R.Disk.honest c.in-Ok.store.book.rig)
    c.in-Ok.ensures.ok_kind.tells c.in-Ok.ensures.ok_kind.keeps_word plain in
    absurd (never here (at.found plain).payloads (found_stands g.R.Disk.may_leave c.args.document.rules (g.R.Disk.seen c.args.rig) c.in-Ok.store.book c.in-Ok.store.clock
    at.rules at.up at.beside (at.opened plain) (at.found plain))))
    c.run_commands.ensures.cause

pub returns-in-Ok-clause-text : goal.returns-in-Ok-clause-text
returns-in-Ok-clause-text g c = λ tell plain.
    let at = c.in-Ok.ensures in
    let now = at.found plain in
    let here = plain_then (g.R.Disk.told c.args.rig) (g.R.Disk.honest c.args.rig) (g.R.Disk.told c.in-Ok.store.book.rig) (g.R.Disk.honest c.in-Ok.store.book.rig)
    c.in-Ok.ensures.ok_kind.tells c.in-Ok.ensures.ok_kind.keeps_word plain in
    let first = world_of c.in-Ok.store.book c.in-Ok.store.clock now.payloads in
    ran_opened c.args.document.rules c.args.moment (g.R.Disk.seen c.args.rig) (g.R.Disk.may_leave c.args.rig) (g.R.Disk.faults c.args.rig) (g.R.Disk.faults c.run_commands.result.1) (g.R.Disk.may_leave c.run_commands.result.1) (g.K.Sink.held c.args.sink.now) (g.K.Sink.held c.run_commands.new.sink)
    (λ w it. ScriptText c.args.document.schema w c.args.document.commands (g.R.Disk.faults c.args.rig) (g.R.Disk.faults c.run_commands.result.1) (g.R.Disk.may_leave c.run_commands.result.1) (g.K.Sink.held c.args.sink.now) (g.K.Sink.held c.run_commands.new.sink) it)
    c.run_commands.result.0 (λ w area at text. text) (record {
      first = first;
      opens = found_opens c.args.document.rules (g.R.Disk.seen c.args.rig) c.in-Ok.store.book c.in-Ok.store.clock c.args.moment at.rules at.up at.beside
          (let least : c.min.result ≡ min c.args.moment greatest_moment = search rules in at.clock ∙ least) now;
      text = subst (λ (cs : List Command). ScriptText c.args.document.schema first cs (g.R.Disk.faults c.args.rig) (g.R.Disk.faults c.run_commands.result.1) (g.R.Disk.may_leave c.run_commands.result.1) (g.K.Sink.held c.args.sink.now) (g.K.Sink.held c.run_commands.new.sink) c.run_commands.result.0) c.as_slice.ensures
          (subst (λ (k : ℕ). ScriptText c.args.document.schema first c.as_slice.result.now k (g.R.Disk.faults c.run_commands.result.1) (g.R.Disk.may_leave c.run_commands.result.1) (g.K.Sink.held c.args.sink.now) (g.K.Sink.held c.run_commands.new.sink) c.run_commands.result.0) at.ok_count
          (c.run_commands.ensures.text tell here now.payloads (found_stands g.R.Disk.may_leave c.args.document.rules (g.R.Disk.seen c.args.rig) c.in-Ok.store.book c.in-Ok.store.clock
          at.rules at.up at.beside (at.opened plain) now)));
    })

pub returns-clause-cause : goal.returns-clause-cause
returns-clause-cause g c =
    let at = c.in-Err.ensures in
    stopped_cause c.in-Err.fault 0 (g.R.Disk.faults c.args.rig) (g.R.Disk.faults c.args.rig) (g.R.Disk.faults c.in-Err.rig) _ _ c.put_unopened.result (omega arith)
    (counts_stop (g.R.Disk.faults c.args.rig) (g.R.Disk.faults c.in-Err.rig) c.in-Err.fault at.err_count)
    (λ area place is plain. bad_is c.args.document.rules (g.R.Disk.seen c.args.rig) (g.R.Disk.may_leave c.in-Err.rig) c.in-Err.fault area place is (at.bad plain) (at.never plain) (at.leaves plain)) c.put_unopened.ensures.cause

pub returns-clause-text : goal.returns-clause-text
returns-clause-text g c = λ tell plain.
    let at = c.in-Err.ensures in
    unopened_text c.args.document.rules c.args.moment (g.R.Disk.seen c.args.rig) (g.R.Disk.may_leave c.args.rig) (g.R.Disk.faults c.args.rig) (g.R.Disk.faults c.in-Err.rig)
    (g.R.Disk.may_leave c.in-Err.rig) _ _
    (λ w it. ScriptText c.args.document.schema w c.args.document.commands (g.R.Disk.faults c.args.rig) (g.R.Disk.faults c.in-Err.rig) (g.R.Disk.may_leave c.in-Err.rig) (g.K.Sink.held c.args.sink.now) (g.K.Sink.held c.put_unopened.new.sink) it)
    c.in-Err.fault _ c.put_unopened.result (counts_stop (g.R.Disk.faults c.args.rig) (g.R.Disk.faults c.in-Err.rig) c.in-Err.fault at.err_count)
    (record { stands = at.held plain; bad = at.held_bad plain }) (at.bad plain) (at.never plain) (at.leaves plain) (c.put_unopened.ensures.text tell) c.put_unopened.ensures.cause

pub returns-clause-orders : goal.returns-clause-orders
returns-clause-orders g c =
    no_orders c.args.document.commands _ _ _ _ c.in-Err.fault _ c.put_unopened.result c.in-Err.ensures.err_kind.last_order c.in-Err.ensures.err_kind.order_count
    c.put_unopened.ensures.cause
