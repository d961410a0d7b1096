use Rattle.std.proofs.Common.{◌∙◌, ap, sym, refl}
use Rattle.delf_model.specs.RuleSet.{RuleSet}
use Rattle.delf_model.specs.declared.entry.What.TheVariants.{Create}
use Rattle.delf_model.specs.Legal.{is_allowed}
use Rattle.ledger.proofs.Allowing.{by_refusal}
use Rattle.ledger.proofs.legal.is_allowed.Goals as goal

pub returns-in-Create : goal.returns-in-Create
returns-in-Create g c =
    λ s h i.
    by_refusal s c.args.moment (Create c.in-Create.tag c.in-Create.kind c.in-Create.id c.in-Create.size) c.args.what.now c.refused_create.result _
    c.is_none.result c.is_none.ensures
    (c.refused_create.ensures.refused s c.args.moment c.in-Create.kind c.in-Create.tag h i) refl c.in-Create.is

pub returns-in-Link : goal.returns-in-Link
returns-in-Link g c =
    λ s h i.
    c.may_link.ensures s c.args.moment c.in-Link.tag h i ∙ ap (is_allowed s c.args.moment) (sym c.in-Link.is)

pub returns-in-Unlink : goal.returns-in-Unlink
returns-in-Unlink g c =
    λ s h i.
    c.may_unlink.ensures s c.args.moment c.in-Unlink.tag h i ∙ ap (is_allowed s c.args.moment) (sym c.in-Unlink.is)

pub returns-in-Cut : goal.returns-in-Cut
returns-in-Cut g c =
    λ s h i.
    c.may_cut.ensures s c.args.moment h i.graph ∙ ap (is_allowed s c.args.moment) (sym c.in-Cut.is)

pub returns-in-Restore : goal.returns-in-Restore
returns-in-Restore g c =
    λ s h i.
    c.may_restore.ensures s c.in-Restore.tag h (c.window.ensures.value ∙ ap (λ (r : RuleSet). r.window) i.rules) ∙
    ap (is_allowed s c.args.moment) (sym c.in-Restore.is)
