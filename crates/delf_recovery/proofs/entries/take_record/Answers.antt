use Rattle.std.proofs.Common.{ℕ, Ok, Bool, Option, IfSome, IfNone, ap, subst, refl}
use Rattle.delf_model.specs.declared.entry.Entry.{Entry}
use Rattle.delf_disk.specs.Plain.{Plain}
use Rattle.delf_recovery.specs.Reading.{IsNoEntry, IsRead}
use Rattle.delf_recovery.proofs.JournalRecords.{refused, judges, unchanged}
use Rattle.delf_recovery.proofs.entries.take_record.Goals as goal

pub returns-in_default-clause-judged : goal.returns-in_default-clause-judged
returns-in_default-clause-judged g c =
    let here = λ (x : Option Entry). IfNone x (IsNoEntry (Plain (g.D.Disk.told c.args.disk.now) (g.D.Disk.honest c.args.disk.now)) c.args.log.now.area c.args.log.now.sizes c.args.i (g.D.Disk.seen c.args.disk.now)) in
    refused _ c.args.log.now.area c.args.log.now.sizes c.args.i _ (g.D.Disk.seen c.args.disk.now) c.args.fold.now c.args.fold.now c.requires.inside refl
    (subst here c.in_default.is c.in_ok-entry.ensures.none) (unchanged c.args.fold.now)

pub returns-clause-judged : goal.returns-clause-judged
returns-clause-judged g c =
    let here = λ (x : Option Entry). IfSome x (λ e. IsRead (Plain (g.D.Disk.told c.args.disk.now) (g.D.Disk.honest c.args.disk.now)) c.args.log.now.area c.args.log.now.sizes c.args.i (g.D.Disk.seen c.args.disk.now) e) in
    judges _ c.args.log.now.area c.args.log.now.sizes c.args.i c.sizes-payload.result.1 (g.D.Disk.seen c.args.disk.now) c.args.fold.now c.take.new.self c.requires.inside
    (ap (λ (p : ℕ × ℕ). p.1) c.sizes-payload.ensures) c.in-Some.entry c.in_ok-take.field-0 (subst here c.in-Some.is c.in_ok-entry.ensures.some) c.in_ok-take.ensures.exact
    (λ is. c.in_ok-take.ensures.taken (ap (λ (b : Bool). Ok b) is)) (λ is. c.in_ok-take.ensures.refused (ap (λ (b : Bool). Ok b) is))
