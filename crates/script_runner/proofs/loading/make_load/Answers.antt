use Rattle.std.proofs.Common.{refl, inl, inr}
use Rattle.script_runner.specs.Worlds.{world_of}
use Rattle.script_runner.proofs.Calls.{ok_of, err_of}
use Rattle.script_runner.proofs.LoadSteps.{load_ended, load_script, load_end_cause}
use Rattle.script_runner.proofs.Moves.{plain_then}
use Rattle.script_runner.proofs.loading.make_load.Goals as goal

pub returns-in-Ok-clause-text : goal.returns-in-Ok-clause-text
returns-in-Ok-clause-text g c = λ tell plain e stands.
    let old = c.args.store.book in
    let first = world_of old c.args.store.clock e in
    let made = c.make_all-store.result.0 in
    let here = plain_then (g.R.Disk.told old.rig) (g.R.Disk.honest old.rig) (g.R.Disk.told made.book.rig) (g.R.Disk.honest made.book.rig)
    c.make_all-store.ensures.kind.tells c.make_all-store.ensures.kind.keeps_word plain in
    let leads = ok_of c.make_all-store.result.1 _ c.in-Ok.is c.make_all-store.ensures.made plain e stands in
    load_script c.args.n c.args.schema.now first c.args.commands.now (g.R.Disk.faults old.rig) (g.R.Disk.faults c.finish_load.result.1) (g.R.Disk.may_leave c.finish_load.result.1) _ _
    c.finish_load.result.0
    (load_ended g.R.Disk.may_leave g.R.Disk.faults c.args.n c.args.schema.now first c.args.commands.now (g.R.Disk.faults old.rig) made.book made.clock c.finish_load.result.1 _ _
    c.finish_load.result.0 c.finish_load.ensures.history.0 c.finish_load.ensures.history.1 leads (c.finish_load.ensures.text tell here leads.1.payloads leads.1.stands))

pub returns-in-Ok-clause-cause : goal.returns-in-Ok-clause-cause
returns-in-Ok-clause-cause g c =
    let falls = c.make_all-store.ensures.cause in
    load_end_cause (g.R.Disk.faults c.args.store.book.rig) (g.R.Disk.faults c.make_all-store.result.0.book.rig) (g.R.Disk.faults c.finish_load.result.1) _ _ _ c.finish_load.result.0
    falls.later c.finish_load.ensures.rig_faults (λ down. elim (falls.fell down) [
      | inl was ↦ absurd (cc (c.requires.up, was))
      | inr rose ↦ rose
    ]) c.finish_load.ensures.cause

pub returns-in-Err-clause-text : goal.returns-in-Err-clause-text
returns-in-Err-clause-text g c = λ tell plain e stands.
    rw c.into_disk.ensures (inl (refl, refl, err_of c.make_all-store.result.1 _ c.in-Err.is c.make_all-store.ensures.starves plain e stands))
