use Rattle.std.proofs.Common.{refl}
use Rattle.delf_model.specs.declared.entry.What.TheVariants.{Link}
use Rattle.ledger.proofs.Allowing.{by_refusal}
use Rattle.ledger.proofs.legal.may_link.Goals as goal

pub returns : goal.returns
returns g c =
    λ s moment tag h i.
    by_refusal s moment (Link tag c.args.edge c.args.from c.args.to c.args.size) _ c.refused_link.result _ c.is_none.result c.is_none.ensures
    (c.refused_link.ensures.refused s moment tag h i) refl refl
