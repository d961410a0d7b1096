use Rattle.std.proofs.Common.{◌≡◌, List, get_or, ap, arith, ◌∙◌, sym}
use Rattle.std.proofs.lemmas.List.{length-set}
use Rattle.object_shards.specs.declared.shard.Shard.{Shard}
use Rattle.object_shards.specs.Shards.{dues_of, shard_place}
use Rattle.object_shards.proofs.Leasts.{dues_elsewhere}
use Rattle.std.specs.Prelude.{filter}
use Rattle.delf_model.specs.Graph.{is_other_object}
use Rattle.object_shards.proofs.Within.{filter_is_local}
use Rattle.object_shards.proofs.Parts.{at_shard, edited_at, find_in_shard}
use Rattle.object_shards.proofs.shards.take.Goals as goal

pub drop_empty-requires-clause-stand : goal.drop_empty-requires-clause-stand
drop_empty-requires-clause-stand c =
    (edited_at c.args.id (filter (is_other_object c.args.id)) (filter_is_local c.args.id) c.args.shards.now.items c.deref.result.now c.place_of-place.result
    c.index_mut.result.now c.take-row.new.self c.requires.stand c.requires.first c.deref.ensures.value c.place_of-place.ensures.place
    c.place_of-place.ensures.within c.index_mut.ensures.value c.take-row.ensures.low c.take-row.ensures.rows).order

pub returns-clause-row : goal.returns-clause-row
returns-clause-row c = c.take-row.ensures.row ∙ sym (find_in_shard c.args.shards.now.items c.args.id c.index_mut.result.now c.requires.stand
    (at_shard c.args.shards.now.items c.deref.result.now c.args.id c.place_of-place.result c.index_mut.result.now c.deref.ensures.value
    c.place_of-place.ensures.place c.place_of-place.ensures.within c.index_mut.ensures.value))

pub returns-clause-first : goal.returns-clause-first
returns-clause-first c = c.drop_empty.ensures.first ∙ (
    (edited_at c.args.id (filter (is_other_object c.args.id)) (filter_is_local c.args.id) c.args.shards.now.items c.deref.result.now c.place_of-place.result
    c.index_mut.result.now c.take-row.new.self c.requires.stand c.requires.first c.deref.ensures.value c.place_of-place.ensures.place
    c.place_of-place.ensures.within c.index_mut.ensures.value c.take-row.ensures.low c.take-row.ensures.rows).begins ∙ c.requires.first)

pub returns-clause-rows : goal.returns-clause-rows
returns-clause-rows c = c.drop_empty.ensures.rows ∙
    (edited_at c.args.id (filter (is_other_object c.args.id)) (filter_is_local c.args.id) c.args.shards.now.items c.deref.result.now c.place_of-place.result
    c.index_mut.result.now c.take-row.new.self c.requires.stand c.requires.first c.deref.ensures.value c.place_of-place.ensures.place
    c.place_of-place.ensures.within c.index_mut.ensures.value c.take-row.ensures.low c.take-row.ensures.rows).rows

pub returns-clause-dues : goal.returns-clause-dues
returns-clause-dues c = λ same k other.
    let long = length-set c.args.shards.now.items c.place_of-place.result c.take-row.new.self in
    let kept = c.drop_empty.ensures.same (omega arith) in
    let at : c.place_of-place.result ≡ shard_place c.args.id c.args.shards.now.items =
    c.place_of-place.ensures.place ∙ ap (λ (ss : List Shard). shard_place c.args.id ss) c.deref.ensures.value in
    ap (λ (ss : List Shard). get_or (dues_of ss) k 0) kept ∙
    dues_elsewhere c.args.shards.now.items c.place_of-place.result c.take-row.new.self k (λ here. other (here ∙ at))
