use Rattle.std.proofs.Common.{refl}
use Rattle.delf_model.specs.declared.entry.What.TheVariants.{Unlink}
use Rattle.ledger.proofs.Allowing.{by_refusal}
use Rattle.ledger.proofs.legal.may_unlink.Goals as goal

pub returns : goal.returns
returns g c =
    λ s moment tag h i.
    by_refusal s moment (Unlink tag c.args.edge c.args.from c.args.to c.args.name) _ c.refused_unlink.result _ c.is_none.result c.is_none.ensures
    (c.refused_unlink.ensures s moment tag h i) refl refl
