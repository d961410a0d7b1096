use Rattle.std.proofs.Common.{◌≡◌, ℕ, List, subst, rules, ◌∙◌, arith, min}
use Rattle.delf_disk.specs.Causes.{Rose}
use Rattle.delf_model.specs.declared.script.Command.{Command}
use Rattle.delf_model.specs.Room.{greatest_moment}
use Rattle.script_runner.specs.LoadEnds.{LoadScriptText}
use Rattle.script_runner.specs.Worlds.{world_of}
use Rattle.script_runner.proofs.LoadSteps.{load_cause_by, load_unopened}
use Rattle.script_runner.proofs.Moves.{plain_then}
use Rattle.script_runner.proofs.Openings.{found_stands, found_opens, ran_opened, counts_stop, bad_is, unopened_text}
use Rattle.script_runner.proofs.loading.load_into.Goals as goal

pub returns-in-Ok-clause-cause : goal.returns-in-Ok-clause-cause
returns-in-Ok-clause-cause g c =
    load_cause_by _ _ _ _ _ c.make_load.result.0
    (λ rose. subst (λ (k : ℕ). Rose k (g.R.Disk.faults c.make_load.result.1)) c.in-Ok.ensures.ok_count rose)
    (λ area place never. absurd never) c.make_load.ensures.cause

pub returns-in-Ok-clause-text : goal.returns-in-Ok-clause-text
returns-in-Ok-clause-text g c = λ tell plain.
    let at = c.in-Ok.ensures in
    let now = at.found plain in
    let here = plain_then (g.R.Disk.told c.args.rig) (g.R.Disk.honest c.args.rig) (g.R.Disk.told c.in-Ok.store.book.rig) (g.R.Disk.honest c.in-Ok.store.book.rig)
    c.in-Ok.ensures.ok_kind.tells c.in-Ok.ensures.ok_kind.keeps_word plain in
    let first = world_of c.in-Ok.store.book c.in-Ok.store.clock now.payloads in
    ran_opened c.args.document.rules c.args.moment (g.R.Disk.seen c.args.rig) (g.R.Disk.may_leave c.args.rig) (g.R.Disk.faults c.args.rig) (g.R.Disk.faults c.make_load.result.1) (g.R.Disk.may_leave c.make_load.result.1) (g.K.Sink.held c.args.sink.now) (g.K.Sink.held c.make_load.new.sink)
    (λ w it. LoadScriptText c.args.n c.args.document.schema w c.args.document.commands (g.R.Disk.faults c.args.rig) (g.R.Disk.faults c.make_load.result.1) (g.R.Disk.may_leave c.make_load.result.1) (g.K.Sink.held c.args.sink.now) (g.K.Sink.held c.make_load.new.sink) it)
    c.make_load.result.0 (λ w area at text. absurd text.end) (record {
      first = first;
      opens = found_opens c.args.document.rules (g.R.Disk.seen c.args.rig) c.in-Ok.store.book c.in-Ok.store.clock c.args.moment at.rules at.up at.beside
          (let least : c.min.result ≡ min c.args.moment greatest_moment = search rules in at.clock ∙ least) now;
      text = subst (λ (cs : List Command). LoadScriptText c.args.n c.args.document.schema first cs (g.R.Disk.faults c.args.rig) (g.R.Disk.faults c.make_load.result.1) (g.R.Disk.may_leave c.make_load.result.1) (g.K.Sink.held c.args.sink.now) (g.K.Sink.held c.make_load.new.sink) c.make_load.result.0) c.as_slice.ensures
          (subst (λ (k : ℕ). LoadScriptText c.args.n c.args.document.schema first c.as_slice.result.now k (g.R.Disk.faults c.make_load.result.1) (g.R.Disk.may_leave c.make_load.result.1) (g.K.Sink.held c.args.sink.now) (g.K.Sink.held c.make_load.new.sink) c.make_load.result.0) at.ok_count
          (c.make_load.ensures.text tell here now.payloads (found_stands g.R.Disk.may_leave c.args.document.rules (g.R.Disk.seen c.args.rig) c.in-Ok.store.book c.in-Ok.store.clock
          at.rules at.up at.beside (at.opened plain) now)));
    })

pub returns-clause-cause : goal.returns-clause-cause
returns-clause-cause g c =
    let at = c.in-Err.ensures in
    load_unopened c.in-Err.fault (g.R.Disk.faults c.args.rig) (g.R.Disk.faults c.args.rig) (g.R.Disk.faults c.in-Err.rig) _ _ c.put_unopened.result (omega arith)
    (counts_stop (g.R.Disk.faults c.args.rig) (g.R.Disk.faults c.in-Err.rig) c.in-Err.fault at.err_count)
    (λ area place is plain. bad_is c.args.document.rules (g.R.Disk.seen c.args.rig) (g.R.Disk.may_leave c.in-Err.rig) c.in-Err.fault area place is (at.bad plain) (at.never plain) (at.leaves plain)) c.put_unopened.ensures.cause

pub returns-clause-text : goal.returns-clause-text
returns-clause-text g c = λ tell plain.
    let at = c.in-Err.ensures in
    unopened_text c.args.document.rules c.args.moment (g.R.Disk.seen c.args.rig) (g.R.Disk.may_leave c.args.rig) (g.R.Disk.faults c.args.rig) (g.R.Disk.faults c.in-Err.rig)
    (g.R.Disk.may_leave c.in-Err.rig) _ _
    (λ w it. LoadScriptText c.args.n c.args.document.schema w c.args.document.commands (g.R.Disk.faults c.args.rig) (g.R.Disk.faults c.in-Err.rig) (g.R.Disk.may_leave c.in-Err.rig) (g.K.Sink.held c.args.sink.now) (g.K.Sink.held c.put_unopened.new.sink) it)
    c.in-Err.fault _ c.put_unopened.result (counts_stop (g.R.Disk.faults c.args.rig) (g.R.Disk.faults c.in-Err.rig) c.in-Err.fault at.err_count)
    (record { stands = at.held plain; bad = at.held_bad plain }) (at.bad plain) (at.never plain) (at.leaves plain) (c.put_unopened.ensures.text tell) c.put_unopened.ensures.cause
