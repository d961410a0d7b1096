use Rattle.std.proofs.Common.{◌≡◌, List, get_or, sym, subst}
use Rattle.object_shards.specs.declared.shard.Shard.{Shard}
use Rattle.object_shards.specs.Blocks.{least_in, block_of}
use Rattle.object_shards.proofs.Leasts.{other_blocks}
use Rattle.object_shards.proofs.due_rows.DueRows.put.Goals as goal

pub refresh-requires-clause-others : goal.refresh-requires-clause-others
refresh-requires-clause-others c = λ block below other.
    subst (λ (ss : List Shard). get_or c.args.self.now.leasts.items block 0 ≡ least_in (block_of block ss)) (sym c.deref.ensures.value)
    (other_blocks c.args.self.now.shards.items c.put-place.new.shards.items c.args.self.now.leasts.items c.put-place.result c.put-place.ensures.count
    c.put-place.ensures.dues c.args.self.now.least_dues block below other)
