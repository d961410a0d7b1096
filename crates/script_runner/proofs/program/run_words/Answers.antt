use Rattle.std.proofs.Common.{◌≡◌, Bool, Option, Some, None, map, string_bytes, refl, subst, sym, Global}
use Rattle.delf_disk.specs.Causes.{Rose as DiskRose}
use Rattle.delf_disk.specs.Plain.{Plain}
use Rattle.delf_io.specs.Faults.{Rose}
use Rattle.documents.specs.declared.words.Request.{Request}
use Rattle.documents.specs.declared.words.Request.TheVariants.{Run, Check, Load}
use Rattle.script_runner.specs.Checks.{CheckCause, CheckText}
use Rattle.script_runner.specs.Outcomes.{RunCause, IsBad}
use Rattle.documents.specs.Requests.{request_of}
use Rattle.script_runner.proofs.Completes.{ends_well}
use Rattle.script_runner.proofs.LoadSteps.{load_untouched}
use Rattle.script_runner.proofs.Headline.{by_request}
use Rattle.script_runner.proofs.program.run_words.Goals as goal

pub returns-in-Some-Run-clause-complete : goal.returns-in-Some-Run-clause-complete
returns-in-Some-Run-clause-complete g c = λ quiet.
    let asked = request_of (map (string_bytes {Z = Global}) c.args.words.now) in
    let is : Some (Run c.in-Some-Run.start) ≡ asked = cc (c.in-Some-Run.is, c.in-Some-Run.field-0-is, c.in-Some-Run.ensures.request) in
    let told = g.S.Source.told c.args.source.now in
    let left = g.S.Source.left c.args.source.now in
    let read_rose = Rose (g.S.Source.faults c.args.source.now) (g.S.Source.faults c.run_source.new.source) in
    let write_rose = Rose (g.K.Sink.faults c.args.sink.now) (g.K.Sink.faults c.run_source.new.sink) in
    let rig_rose = DiskRose (g.R.Disk.faults c.args.rig) (g.R.Disk.faults c.run_source.result.1) in
    ends_well g.B.Blocks.served (Plain (g.R.Disk.told c.args.rig) (g.R.Disk.honest c.args.rig)) (g.R.Disk.seen c.args.rig) (g.R.Disk.may_leave c.run_source.result.1) told left read_rose write_rose rig_rose quiet asked c.run_source.result.0
    (subst (λ (r : Option Request). RunCause g.B.Blocks.served r told left read_rose write_rose rig_rose
    (λ rules area at. Plain (g.R.Disk.told c.args.rig) (g.R.Disk.honest c.args.rig) → IsBad rules (g.R.Disk.seen c.args.rig) (g.R.Disk.may_leave c.run_source.result.1) area at) c.run_source.result.0) is c.run_source.ensures.cause)

pub returns-in-Some-Check-clause-complete : goal.returns-in-Some-Check-clause-complete
returns-in-Some-Check-clause-complete g c = λ quiet.
    let asked = request_of (map (string_bytes {Z = Global}) c.args.words.now) in
    let is : Some Check ≡ asked = cc (c.in-Some-Check.is, c.in-Some-Check.field-0-is, c.in-Some-Check.ensures.request) in
    let told = g.S.Source.told c.args.source.now in
    let left = g.S.Source.left c.args.source.now in
    let read_rose = Rose (g.S.Source.faults c.args.source.now) (g.S.Source.faults c.check_source.new.source) in
    let write_rose = Rose (g.K.Sink.faults c.args.sink.now) (g.K.Sink.faults c.check_source.new.sink) in
    let rig_rose = DiskRose (g.R.Disk.faults c.args.rig) (g.R.Disk.faults c.args.rig) in
    ends_well g.B.Blocks.served (Plain (g.R.Disk.told c.args.rig) (g.R.Disk.honest c.args.rig)) (g.R.Disk.seen c.args.rig) (g.R.Disk.may_leave c.args.rig) told left read_rose write_rose rig_rose quiet asked c.check_source.result
    (subst (λ (r : Option Request). RunCause g.B.Blocks.served r told left read_rose write_rose rig_rose
    (λ rules area at. Plain (g.R.Disk.told c.args.rig) (g.R.Disk.honest c.args.rig) → IsBad rules (g.R.Disk.seen c.args.rig) (g.R.Disk.may_leave c.args.rig) area at) c.check_source.result) is
    (subst (λ (b : Bool). CheckCause b told left read_rose write_rose c.check_source.result) c.are_served.ensures c.check_source.ensures.cause))

pub returns-in-Some-Load-clause-complete : goal.returns-in-Some-Load-clause-complete
returns-in-Some-Load-clause-complete g c = λ quiet.
    let asked = request_of (map (string_bytes {Z = Global}) c.args.words.now) in
    let is : Some (Load c.in-Some-Load.n) ≡ asked = cc (c.in-Some-Load.is, c.in-Some-Load.field-0-is, c.in-Some-Load.ensures.request) in
    let told = g.S.Source.told c.args.source.now in
    let left = g.S.Source.left c.args.source.now in
    let read_rose = Rose (g.S.Source.faults c.args.source.now) (g.S.Source.faults c.args.source.now) in
    let write_rose = Rose (g.K.Sink.faults c.args.sink.now) (g.K.Sink.faults c.run_load.new.sink) in
    let rig_rose = DiskRose (g.R.Disk.faults c.args.rig) (g.R.Disk.faults c.run_load.result.1) in
    ends_well g.B.Blocks.served (Plain (g.R.Disk.told c.args.rig) (g.R.Disk.honest c.args.rig)) (g.R.Disk.seen c.args.rig) (g.R.Disk.may_leave c.run_load.result.1) told left read_rose write_rose rig_rose quiet asked c.run_load.result.0
    (subst (λ (r : Option Request). RunCause g.B.Blocks.served r told left read_rose write_rose rig_rose
    (λ rules area at. Plain (g.R.Disk.told c.args.rig) (g.R.Disk.honest c.args.rig) → IsBad rules (g.R.Disk.seen c.args.rig) (g.R.Disk.may_leave c.run_load.result.1) area at) c.run_load.result.0) is c.run_load.ensures.cause)

pub returns-in-Some-Run-clause-headline : goal.returns-in-Some-Run-clause-headline
returns-in-Some-Run-clause-headline g c = λ told sunk plain.
    let asked = request_of (map (string_bytes {Z = Global}) c.args.words.now) in
    let is : Some (Run c.in-Some-Run.start) ≡ asked = cc (c.in-Some-Run.is, c.in-Some-Run.field-0-is, c.in-Some-Run.ensures.request) in
    by_request (Plain (g.R.Disk.told c.args.rig) (g.R.Disk.honest c.args.rig)) _ (Some (Run c.in-Some-Run.start)) (g.S.Source.told c.args.source.now) c.run_source.result.0
    plain told (sym is) (c.run_source.ensures.text sunk) c.run_source.ensures.untouched

pub returns-in-Some-Check-clause-headline : goal.returns-in-Some-Check-clause-headline
returns-in-Some-Check-clause-headline g c = λ told sunk plain.
    let asked = request_of (map (string_bytes {Z = Global}) c.args.words.now) in
    let is : Some Check ≡ asked = cc (c.in-Some-Check.is, c.in-Some-Check.field-0-is, c.in-Some-Check.ensures.request) in
    by_request (Plain (g.R.Disk.told c.args.rig) (g.R.Disk.honest c.args.rig)) _ (Some Check) (g.S.Source.told c.args.source.now) c.check_source.result
    plain told (sym is) (subst (λ (b : Bool). CheckText b (g.S.Source.told c.args.source.now) (g.S.Source.left c.args.source.now) (g.K.Sink.held c.args.sink.now)
    (g.K.Sink.held c.check_source.new.sink) c.check_source.result) c.are_served.ensures (c.check_source.ensures.text sunk)) refl

pub returns-in-Some-Load-clause-headline : goal.returns-in-Some-Load-clause-headline
returns-in-Some-Load-clause-headline g c = λ told sunk plain.
    let asked = request_of (map (string_bytes {Z = Global}) c.args.words.now) in
    let is : Some (Load c.in-Some-Load.n) ≡ asked = cc (c.in-Some-Load.is, c.in-Some-Load.field-0-is, c.in-Some-Load.ensures.request) in
    by_request (Plain (g.R.Disk.told c.args.rig) (g.R.Disk.honest c.args.rig)) _ (Some (Load c.in-Some-Load.n)) (g.S.Source.told c.args.source.now) c.run_load.result.0
    plain told (sym is) (c.run_load.ensures.text sunk) (load_untouched c.run_load.result.0 _ _ _ _ c.run_load.ensures.cause)

pub returns-in-None-clause-headline : goal.returns-in-None-clause-headline
returns-in-None-clause-headline g c = λ told sunk plain.
    let asked = request_of (map (string_bytes {Z = Global}) c.args.words.now) in
    let is : asked ≡ None = cc (c.in-None.is, c.in-None.ensures.request) in
    by_request (Plain (g.R.Disk.told c.args.rig) (g.R.Disk.honest c.args.rig)) _ None (g.S.Source.told c.args.source.now) c.put_usage.result
    plain told is (c.put_usage.ensures.text sunk) refl
