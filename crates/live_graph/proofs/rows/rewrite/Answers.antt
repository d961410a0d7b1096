use Rattle.std.proofs.Common.{◌+◌, List, sym, subst, arith}
use Rattle.delf_model.specs.declared.rows.ObjectRow.{ObjectRow}
use Rattle.delf_model.specs.Graph.{rewritten}
use Rattle.live_graph.proofs.Loops.{MapsInPlace, maps_more, maps_same}
use Rattle.object_shards.proofs.Ids.{rewritten_hit, rewritten_miss}
use Rattle.live_graph.proofs.rows.rewrite.Goals as goal
use Rattle.live_graph.proofs.rows.rewrite.Goals.{then-get, else-get}

pub loop-i-preserved : goal.loop-i-preserved
loop-i-preserved c =
    elim c.if-get.branch [
      | then-get w ↦ subst (λ (rs : List ObjectRow). MapsInPlace (rewritten c.args.id c.args.at c.args.size) c.args.rows.now rs (c.loop-i.i + 1)) (sym w.rows-is)
          (maps_more (rewritten c.args.id c.args.at c.args.size) c.args.rows.now c.loop-i.rows c.loop-i.i c.index-rows-i.result _ c.loop-i.invariant
          (omega arith) c.index-rows-i.is
          (rewritten_hit c.args.id c.args.at c.args.size c.get.result c.index-rows-i.result (sym c.get.ensures.value) (let t = w.if-get.true in omega arith)))
      | else-get w ↦ subst (λ (rs : List ObjectRow). MapsInPlace (rewritten c.args.id c.args.at c.args.size) c.args.rows.now rs (c.loop-i.i + 1)) (sym w.rows-is)
          (maps_same (rewritten c.args.id c.args.at c.args.size) c.args.rows.now c.loop-i.rows c.loop-i.i c.index-rows-i.result c.loop-i.invariant
          (omega arith) c.index-rows-i.is
          (rewritten_miss c.args.id c.args.at c.args.size c.index-rows-i.result (λ same. let t = w.if-get.false in omega arith)))
    ]
