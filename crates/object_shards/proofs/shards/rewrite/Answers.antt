use Rattle.std.proofs.Common.{map, arith}
use Rattle.delf_model.specs.Graph.{rewritten}
use Rattle.object_shards.proofs.Within.{rewritten_is_local}
use Rattle.object_shards.proofs.Leasts.{dues_same}
use Rattle.object_shards.proofs.Parts.{edited_at}
use Rattle.object_shards.proofs.shards.rewrite.Goals as goal

pub returns-clause-stand : goal.returns-clause-stand
returns-clause-stand c =
    (edited_at c.args.id (map (rewritten c.args.id c.args.at c.args.size)) (rewritten_is_local c.args.id c.args.at c.args.size) c.args.shards.now.items c.deref.result.now c.place_of-place.result
    c.index_mut.result.now c.rewrite.new.self c.requires.stand c.requires.first c.deref.ensures.value c.place_of-place.ensures.place
    c.place_of-place.ensures.within c.index_mut.ensures.value c.rewrite.ensures.low c.rewrite.ensures.rows).order

pub returns-clause-rows : goal.returns-clause-rows
returns-clause-rows c =
    (edited_at c.args.id (map (rewritten c.args.id c.args.at c.args.size)) (rewritten_is_local c.args.id c.args.at c.args.size) c.args.shards.now.items c.deref.result.now c.place_of-place.result
    c.index_mut.result.now c.rewrite.new.self c.requires.stand c.requires.first c.deref.ensures.value c.place_of-place.ensures.place
    c.place_of-place.ensures.within c.index_mut.ensures.value c.rewrite.ensures.low c.rewrite.ensures.rows).rows

pub returns-clause-dues : goal.returns-clause-dues
returns-clause-dues c = dues_same c.args.shards.now.items c.place_of-place.result c.index_mut.result.now c.rewrite.new.self
    (let within = c.place_of-place.ensures.within in let long = c.deref.ensures.len in let is = c.args.shards.now.ok.0 in omega arith)
    c.index_mut.ensures.value c.rewrite.ensures.least
