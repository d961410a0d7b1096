use Rattle.std.proofs.Common.{◌∙◌, ◌%◌, ap, arith, subst, List}
use Rattle.std.specs.Map.Iter.{TakesFirst, deref_pair}
use Rattle.edge_index.specs.Ends.{Place, is_near, any_near, places_of}
use Rattle.edge_index.proofs.Sharded.{shard_at}
use Rattle.edge_index.proofs.Ranges.{first_is_any}
use Rattle.edge_index.proofs.ends.has_end.Goals as goal

pub returns : goal.returns
returns c =
    c.is_some.ensures
    ∙ (first_is_any deref_pair (is_near c.args.id) c.index.result.now.entries c.next.new.self c.next.result
    (subst (λ (rest : List Place). TakesFirst deref_pair rest c.next.result c.next.new.self) c.places_near.ensures.rest c.next.ensures.steps)
    ∙ ap (λ (ps : List Place). any_near ps c.args.id)
    (shard_at places_of c.args.order.now.items c.shard_of.result (c.args.id % 16) c.index.result.now (c.shard_of.ensures ∙ ap (λ n. n % 16) c.get.ensures.value)
    (let count = c.requires in let at = c.shard_of.ensures in omega arith) c.index.ensures))
