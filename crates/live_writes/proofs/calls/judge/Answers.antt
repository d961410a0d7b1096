use Rattle.std.proofs.Common.{ℕ, Some, refl, sym, ap, ◌∙◌}
use Rattle.delf_model.specs.declared.entry.What.TheVariants.{Create, Update, Link, Unlink, Delete}
use Rattle.delf_model.specs.Reply.{asked, answered}
use Rattle.live_writes.proofs.Answering.{told}
use Rattle.live_writes.proofs.calls.judge.Goals as goal

pub returns-in-Create : goal.returns-in-Create
returns-in-Create g c =
    λ s t i.
    c.judge_create.ensures s c.args.moment t i
    ∙ told s c.args.moment c.args.tag c.args.call.now (Create c.args.tag c.in-Create.kind c.in-Create.id c.len-size.result) _
    (ap (asked s c.args.tag) c.in-Create.is ∙ ap (λ (n : ℕ). Some (Create c.args.tag c.in-Create.kind c.in-Create.id n)) (sym c.len-size.ensures)) refl

pub returns-in-Update : goal.returns-in-Update
returns-in-Update g c =
    λ s t i.
    c.judge_update.ensures s c.args.moment t i
    ∙ told s c.args.moment c.args.tag c.args.call.now (Update c.args.tag c.in-Update.id c.len-size-in-Update.result) _
    (ap (asked s c.args.tag) c.in-Update.is ∙ ap (λ (n : ℕ). Some (Update c.args.tag c.in-Update.id n)) (sym c.len-size-in-Update.ensures)) refl

pub returns-in-Link : goal.returns-in-Link
returns-in-Link g c =
    λ s t i.
    c.judge_link.ensures s c.args.moment t i
    ∙ told s c.args.moment c.args.tag c.args.call.now (Link c.args.tag c.in-Link.edge c.in-Link.from c.in-Link.to c.len-size-in-Link.result) _
    (ap (asked s c.args.tag) c.in-Link.is ∙ ap (λ (n : ℕ). Some (Link c.args.tag c.in-Link.edge c.in-Link.from c.in-Link.to n)) (sym c.len-size-in-Link.ensures)) refl

pub returns-in-Unlink : goal.returns-in-Unlink
returns-in-Unlink g c =
    λ s t i.
    c.judge_unlink.ensures s c.args.moment t i
    ∙ told s c.args.moment c.args.tag c.args.call.now (Unlink c.args.tag c.in-Unlink.edge c.in-Unlink.from c.in-Unlink.to c.in-Unlink.name) _
    (ap (asked s c.args.tag) c.in-Unlink.is) refl

pub returns-in-Delete : goal.returns-in-Delete
returns-in-Delete g c =
    λ s t i.
    c.judge_delete.ensures s c.args.moment t i
    ∙ told s c.args.moment c.args.tag c.args.call.now (Delete c.args.tag c.in-Delete.id c.in-Delete.name) _
    (ap (asked s c.args.tag) c.in-Delete.is) refl

pub returns-in-Restore : goal.returns-in-Restore
returns-in-Restore g c =
    λ s t i.
    c.judge_restore.ensures s t i.rules
    ∙ ap (answered s c.args.moment) (sym (ap (asked s c.args.tag) c.in-Restore.is))
