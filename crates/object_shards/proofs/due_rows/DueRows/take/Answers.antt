use Rattle.std.proofs.Common.{◌≡◌, List, length, get_or, ap, sym, subst, ◌∙◌, arith}
use Rattle.object_shards.specs.declared.shard.Shard.{Shard}
use Rattle.object_shards.specs.Shards.{shard_place}
use Rattle.object_shards.specs.Blocks.{least_in, block_of}
use Rattle.object_shards.proofs.Leasts.{other_blocks}
use Rattle.object_shards.proofs.due_rows.DueRows.take.Goals as goal

pub refresh-requires-clause-others : goal.refresh-requires-clause-others
refresh-requires-clause-others c = λ block below other.
    let long : length c.take-row.new.shards.items ≡ length c.args.self.now.shards.items =
    (let before = c.len-count.ensures in let after = c.len.ensures in let same = c.if-len-count.true in
    let old = c.args.self.now.shards.ok.0 in let new = c.take-row.new.shards.ok.0 in omega arith) in
    let at : c.place_of-place.result ≡ shard_place c.args.id c.args.self.now.shards.items =
    c.place_of-place.ensures.place ∙ ap (λ (ss : List Shard). shard_place c.args.id ss) c.deref.ensures.value in
    subst (λ (ss : List Shard). get_or c.args.self.now.leasts.items block 0 ≡ least_in (block_of block ss)) (sym c.deref-then-len-count.ensures.value)
    (other_blocks c.args.self.now.shards.items c.take-row.new.shards.items c.args.self.now.leasts.items c.place_of-place.result long
    (λ k elsewhere. c.take-row.ensures.dues long k (λ here. elsewhere (here ∙ sym at))) c.args.self.now.least_dues block below other)
