use Rattle.std.proofs.Common.{◌∙◌, sym}
use Rattle.delf_model.specs.Graph.{put_object}
use Rattle.object_shards.proofs.Within.{put_is_local}
use Rattle.object_shards.proofs.Leasts.{dues_elsewhere}
use Rattle.object_shards.proofs.Parts.{at_shard, edited_at, ready_room, find_in_shard}
use Rattle.object_shards.proofs.shards.put.Goals as goal

pub put-requires-clause-free : goal.put-requires-clause-free
put-requires-clause-free c = sym (find_in_shard c.args.shards.now.items c.args.row.id c.index_mut.result.now c.requires.stand
    (at_shard c.args.shards.now.items c.deref.result.now c.args.row.id c.place_of-place.result c.index_mut.result.now c.deref.ensures.value
    c.place_of-place.ensures.place c.place_of-place.ensures.within c.index_mut.ensures.value)) ∙ c.requires.free

pub put-requires-clause-room : goal.put-requires-clause-room
put-requires-clause-room c = ready_room c.args.shards.now.items c.args.row.id c.index_mut.result.now
    (at_shard c.args.shards.now.items c.deref.result.now c.args.row.id c.place_of-place.result c.index_mut.result.now c.deref.ensures.value
    c.place_of-place.ensures.place c.place_of-place.ensures.within c.index_mut.ensures.value) c.requires.ready

pub returns-clause-stand : goal.returns-clause-stand
returns-clause-stand c =
    (edited_at c.args.row.id (put_object c.args.row) (put_is_local c.args.row) c.args.shards.now.items c.deref.result.now c.place_of-place.result
    c.index_mut.result.now c.put.new.self c.requires.stand c.requires.first c.deref.ensures.value c.place_of-place.ensures.place
    c.place_of-place.ensures.within c.index_mut.ensures.value c.put.ensures.low c.put.ensures.rows).order

pub returns-clause-rows : goal.returns-clause-rows
returns-clause-rows c =
    (edited_at c.args.row.id (put_object c.args.row) (put_is_local c.args.row) c.args.shards.now.items c.deref.result.now c.place_of-place.result
    c.index_mut.result.now c.put.new.self c.requires.stand c.requires.first c.deref.ensures.value c.place_of-place.ensures.place
    c.place_of-place.ensures.within c.index_mut.ensures.value c.put.ensures.low c.put.ensures.rows).rows

pub returns-clause-dues : goal.returns-clause-dues
returns-clause-dues c = λ k other. dues_elsewhere c.args.shards.now.items c.place_of-place.result c.put.new.self k other
