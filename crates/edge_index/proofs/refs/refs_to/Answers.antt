use Rattle.std.proofs.Common.{◌∙◌, ◌%◌, ap, arith, ℕ, Option}
use Rattle.std.specs.Option.{unwrap_or}
use Rattle.edge_index.proofs.Counts.{ref_here}
use Rattle.edge_index.proofs.refs.refs_to.Goals as goal

pub returns : goal.returns
returns c =
    c.count_of.ensures
    ∙ ap (λ (found : Option ℕ). unwrap_or found 0) (ref_here c.args.refs.now.items c.shard_of.result c.index.result.now c.args.id (c.shard_of.ensures ∙ ap (λ n. n % 16) c.get.ensures.value)
    (let count = c.requires in let at = c.shard_of.ensures in omega arith) c.index.ensures)
