use Rattle.std.proofs.Common.{◌∙◌, ℕ, Option, ap, sym}
use Rattle.delf_model.specs.Store.{least_due}
use Rattle.object_shards.specs.Shards.{rows_of}
use Rattle.std.specs.Prelude.{drop}
use Rattle.object_shards.proofs.Moments.{after_shards}
use Rattle.object_shards.proofs.shards.place_after.Goals as goal

pub returns-in-Some-clause-passed : goal.returns-in-Some-clause-passed
returns-in-Some-clause-passed c = λ moment.
    ap (λ (low : Option ℕ). least_due moment low (rows_of c.args.shards.now)) c.in-Some.is ∙
    (after_shards c.args.shards.now moment c.in-Some.id c.place_of.result c.requires.stand c.place_of.ensures.place ∙
    ap (λ (low : Option ℕ). least_due moment low (rows_of (drop c.place_of.result c.args.shards.now))) (sym c.in-Some.is))
