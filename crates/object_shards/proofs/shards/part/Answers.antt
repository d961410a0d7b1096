use Rattle.std.proofs.Common.{◌≡◌, ℕ, ◌<◌, ◌≤◌, Some, List, false, length, get_or}
use Rattle.std.specs.Prelude.{slice_get}
use Rattle.object_shards.specs.declared.shard.Shard.{Shard}
use Rattle.object_shards.specs.Shards.{has_room}
use Rattle.object_shards.proofs.Parts.{got_at}
use Rattle.object_shards.proofs.Halves.{parted_at}
use Rattle.object_shards.proofs.shards.part.Goals as goal

full : (ss : List Shard) (k : ℕ) (s : Shard) → ((shard : Shard) → slice_get ss k ≡ Some shard → (has_room shard ≡ false) × (2 ≤ length shard.rows.items)) →
    k < length ss → s ≡ get_or ss k s → (has_room s ≡ false) × (2 ≤ length s.rows.items)
full ss k s all below is = all s (got_at ss k s s below is)

pub returns-clause-stand : goal.returns-clause-stand
returns-clause-stand c =
    ((parted_at c.args.shards.now.items c.reserve.new.self.items c.insert_ready.new.list.items c.args.place c.index.result.now c.index_mut.result.now
    c.keep_lower_half.new.self c.in_ok-upper.upper c.requires.stand c.requires.within c.index.ensures c.reserve.ensures.items c.index_mut.ensures.value
    (full c.args.shards.now.items c.args.place c.index.result.now c.requires.full c.requires.within c.index.ensures).1
    (full c.args.shards.now.items c.args.place c.index.result.now c.requires.full c.requires.within c.index.ensures).0
    c.keep_lower_half.ensures.low c.keep_lower_half.ensures.rows c.keep_lower_half.ensures.room
    c.in_ok-upper.ensures.low c.in_ok-upper.ensures.rows c.in_ok-upper.ensures.room c.insert_ready.ensures).each 0).order

pub returns-clause-first : goal.returns-clause-first
returns-clause-first c =
    ((parted_at c.args.shards.now.items c.reserve.new.self.items c.insert_ready.new.list.items c.args.place c.index.result.now c.index_mut.result.now
    c.keep_lower_half.new.self c.in_ok-upper.upper c.requires.stand c.requires.within c.index.ensures c.reserve.ensures.items c.index_mut.ensures.value
    (full c.args.shards.now.items c.args.place c.index.result.now c.requires.full c.requires.within c.index.ensures).1
    (full c.args.shards.now.items c.args.place c.index.result.now c.requires.full c.requires.within c.index.ensures).0
    c.keep_lower_half.ensures.low c.keep_lower_half.ensures.rows c.keep_lower_half.ensures.room
    c.in_ok-upper.ensures.low c.in_ok-upper.ensures.rows c.in_ok-upper.ensures.room c.insert_ready.ensures).each 0).begins

pub returns-clause-rows : goal.returns-clause-rows
returns-clause-rows c =
    ((parted_at c.args.shards.now.items c.reserve.new.self.items c.insert_ready.new.list.items c.args.place c.index.result.now c.index_mut.result.now
    c.keep_lower_half.new.self c.in_ok-upper.upper c.requires.stand c.requires.within c.index.ensures c.reserve.ensures.items c.index_mut.ensures.value
    (full c.args.shards.now.items c.args.place c.index.result.now c.requires.full c.requires.within c.index.ensures).1
    (full c.args.shards.now.items c.args.place c.index.result.now c.requires.full c.requires.within c.index.ensures).0
    c.keep_lower_half.ensures.low c.keep_lower_half.ensures.rows c.keep_lower_half.ensures.room
    c.in_ok-upper.ensures.low c.in_ok-upper.ensures.rows c.in_ok-upper.ensures.room c.insert_ready.ensures).each 0).rows

pub returns-clause-ready : goal.returns-clause-ready
returns-clause-ready c = λ id place.
    (parted_at c.args.shards.now.items c.reserve.new.self.items c.insert_ready.new.list.items c.args.place c.index.result.now c.index_mut.result.now
    c.keep_lower_half.new.self c.in_ok-upper.upper c.requires.stand c.requires.within c.index.ensures c.reserve.ensures.items c.index_mut.ensures.value
    (full c.args.shards.now.items c.args.place c.index.result.now c.requires.full c.requires.within c.index.ensures).1
    (full c.args.shards.now.items c.args.place c.index.result.now c.requires.full c.requires.within c.index.ensures).0
    c.keep_lower_half.ensures.low c.keep_lower_half.ensures.rows c.keep_lower_half.ensures.room
    c.in_ok-upper.ensures.low c.in_ok-upper.ensures.rows c.in_ok-upper.ensures.room c.insert_ready.ensures).ready id place

pub returns-clause-kept : goal.returns-clause-kept
returns-clause-kept c = λ other ready.
    ((parted_at c.args.shards.now.items c.reserve.new.self.items c.insert_ready.new.list.items c.args.place c.index.result.now c.index_mut.result.now
    c.keep_lower_half.new.self c.in_ok-upper.upper c.requires.stand c.requires.within c.index.ensures c.reserve.ensures.items c.index_mut.ensures.value
    (full c.args.shards.now.items c.args.place c.index.result.now c.requires.full c.requires.within c.index.ensures).1
    (full c.args.shards.now.items c.args.place c.index.result.now c.requires.full c.requires.within c.index.ensures).0
    c.keep_lower_half.ensures.low c.keep_lower_half.ensures.rows c.keep_lower_half.ensures.room
    c.in_ok-upper.ensures.low c.in_ok-upper.ensures.rows c.in_ok-upper.ensures.room c.insert_ready.ensures).each other).kept ready
