use Rattle.std.specs.Prelude.{slice_get}
use Rattle.ledger.proofs.Sizes.{size_of_item, size_of_none}
use Rattle.ledger.proofs.edit.put_size.Goals as goal

pub returns-in-Some : goal.returns-in-Some
returns-in-Some g c =
    λ s t i.
    size_of_item s (slice_get s.items c.args.i) c.in-Some.item c.size_back.result (c.in-Some.ensures s t) (c.size_back.ensures s t i)

pub returns-in-None : goal.returns-in-None
returns-in-None g c =
    λ s t i.
    size_of_none s (slice_get s.items c.args.i) (c.in-None.ensures s t)
