use Rattle.std.proofs.Common.{◌≡◌, ◌<◌, ◌∙◌, length, sym, ap, arith}
use Rattle.std.specs.Prelude.{IsTrue}
use Rattle.std.proofs.lemmas.Result.{IfOk-weaker}
use Rattle.std.proofs.Math.ListN.{set}
use Rattle.object_shards.specs.declared.shard.Shard.{Shard}
use Rattle.object_shards.specs.Shards.{has_room, ready_in}
use Rattle.object_shards.proofs.Within.{same_is_local}
use Rattle.object_shards.proofs.Leasts.{dues_same}
use Rattle.object_shards.proofs.Parts.{at_shard, edited_at, kept_at, ready_at, room_ready, got_at}
use Rattle.object_shards.proofs.shards.make_room.Goals as goal

pub returns-then-has_room-clause-ready : goal.returns-then-has_room-clause-ready
returns-then-has_room-clause-ready c = room_ready c.args.shards.now.items c.args.id c.index.result.now
    (at_shard c.args.shards.now.items c.deref.result.now c.args.id c.place_of-place.result c.index.result.now c.deref.ensures.value
    c.place_of-place.ensures.place c.place_of-place.ensures.within c.index.ensures) (sym c.has_room.ensures ∙ c.if-has_room.true)

pub returns-then-len-lt-SHARD_ROWS-clause-stand : goal.returns-then-len-lt-SHARD_ROWS-clause-stand
returns-then-len-lt-SHARD_ROWS-clause-stand c =
    (edited_at c.args.id (λ rows. rows) (same_is_local c.args.id) c.args.shards.now.items c.deref.result.now c.place_of-place.result
    c.index_mut.result.now c.reserve.new.self c.requires.stand c.requires.first c.deref.ensures.value c.place_of-place.ensures.place
    c.place_of-place.ensures.within c.index_mut.ensures.value c.reserve.ensures.low c.reserve.ensures.rows).order

pub returns-then-len-lt-SHARD_ROWS-clause-rows : goal.returns-then-len-lt-SHARD_ROWS-clause-rows
returns-then-len-lt-SHARD_ROWS-clause-rows c =
    (edited_at c.args.id (λ rows. rows) (same_is_local c.args.id) c.args.shards.now.items c.deref.result.now c.place_of-place.result
    c.index_mut.result.now c.reserve.new.self c.requires.stand c.requires.first c.deref.ensures.value c.place_of-place.ensures.place
    c.place_of-place.ensures.within c.index_mut.ensures.value c.reserve.ensures.low c.reserve.ensures.rows).rows

pub returns-then-len-lt-SHARD_ROWS-clause-ready : goal.returns-then-len-lt-SHARD_ROWS-clause-ready
returns-then-len-lt-SHARD_ROWS-clause-ready c =
    IfOk-weaker c.reserve.result (λ _. IsTrue (has_room c.reserve.new.self))
    (λ _. IsTrue (ready_in c.args.id (set c.args.shards.now.items c.place_of-place.result c.reserve.new.self)))
    (λ done room. ready_at c.args.shards.now.items c.deref.result.now c.args.id c.place_of-place.result c.index_mut.result.now c.reserve.new.self
    c.deref.ensures.value c.place_of-place.ensures.place c.place_of-place.ensures.within c.index_mut.ensures.value c.reserve.ensures.low room)
    c.reserve.ensures.room

pub returns-then-len-lt-SHARD_ROWS-clause-kept : goal.returns-then-len-lt-SHARD_ROWS-clause-kept
returns-then-len-lt-SHARD_ROWS-clause-kept c = λ other ready.
    kept_at c.args.shards.now.items c.place_of-place.result other c.index_mut.result.now c.reserve.new.self
    (let within = c.place_of-place.ensures.within in let long = c.deref.ensures.len in let is = c.args.shards.now.ok.0 in omega arith)
    c.index_mut.ensures.value c.reserve.ensures.low c.reserve.ensures.kept ready

pub part-requires-clause-full : goal.part-requires-clause-full
part-requires-clause-full c = λ shard is.
    let below : c.place_of-place.result < length c.args.shards.now.items =
    (let within = c.place_of-place.ensures.within in let long = c.deref.ensures.len in let ok = c.args.shards.now.ok.0 in omega arith) in
    let first = got_at c.args.shards.now.items c.place_of-place.result c.index.result.now c.index.result.now below c.index.ensures in
    let second = got_at c.args.shards.now.items c.place_of-place.result c.index-2.result.now c.index-2.result.now below c.index-2.ensures in
    let one : c.index.result.now ≡ shard = cc first in
    let other : c.index-2.result.now ≡ shard = cc second in (
      ap has_room (sym one) ∙ (sym c.has_room.ensures ∙ c.if-has_room.false),
      (let long = ap (λ (s : Shard). s.rows.len) other in let ok = shard.rows.ok.0 in omega arith),
    )

pub returns-then-len-lt-SHARD_ROWS-clause-dues : goal.returns-then-len-lt-SHARD_ROWS-clause-dues
returns-then-len-lt-SHARD_ROWS-clause-dues c = λ _. dues_same c.args.shards.now.items c.place_of-place.result c.index_mut.result.now c.reserve.new.self
    (let within = c.place_of-place.ensures.within in let long = c.deref.ensures.len in let is = c.args.shards.now.ok.0 in omega arith)
    c.index_mut.ensures.value c.reserve.ensures.least
