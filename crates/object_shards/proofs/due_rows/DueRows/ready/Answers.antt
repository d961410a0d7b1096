use Rattle.std.proofs.Common.{◌≡◌, ℕ, ◌<◌, List, length, get_or, ap, sym, subst, arith}
use Rattle.object_shards.specs.Blocks.{least_in, block_of}
use Rattle.object_shards.proofs.Leasts.{same_blocks}
use Rattle.object_shards.proofs.due_rows.DueRows.ready.Goals as goal

pub invariant_of-self-then-len-count-clause-blocks : goal.invariant_of-self-then-len-count-clause-blocks
invariant_of-self-then-len-count-clause-blocks c =
    let before = c.len-count.ensures in let after = c.len.ensures in let same = c.if-len-count.true in
    let old = c.args.self.now.shards.ok.0 in let new = c.make_room-made.new.shards.ok.0 in
    let long = ap (λ (ls : List ℕ). length ls) c.reserve.ensures.items in let count = c.args.self.now.blocks in omega arith

pub invariant_of-self-then-len-count-clause-least_dues : goal.invariant_of-self-then-len-count-clause-least_dues
invariant_of-self-then-len-count-clause-least_dues c =
    let long : length c.make_room-made.new.shards.items ≡ length c.args.self.now.shards.items =
    (let before = c.len-count.ensures in let after = c.len.ensures in let same = c.if-len-count.true in
    let old = c.args.self.now.shards.ok.0 in let new = c.make_room-made.new.shards.ok.0 in omega arith) in
    same_blocks c.args.self.now.shards.items c.make_room-made.new.shards.items c.reserve.new.self.items long (c.make_room-made.ensures.dues long)
    (subst (λ (ls : List ℕ). (block : ℕ) → block < length ls → get_or ls block 0 ≡ least_in (block_of block c.args.self.now.shards.items))
    (sym c.reserve.ensures.items) c.args.self.now.least_dues)
