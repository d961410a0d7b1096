use Rattle.std.proofs.Common.{arith}
use Rattle.object_shards.proofs.Ids.{find_past, find_found, find_other}
use Rattle.live_graph.proofs.rows.object_with.Goals as goal

pub returns-then-place-rows : goal.returns-then-place-rows
returns-then-place-rows c = find_past c.args.rows.now c.args.id c.place_of-place.result c.requires c.place_of-place.ensures (omega arith)

pub returns-then-get : goal.returns-then-get
returns-then-get c =
    find_found c.args.rows.now c.args.id c.place_of-place.result c.index-rows-place.result c.requires c.place_of-place.ensures (omega arith)
    c.index-rows-place.is (omega arith)

pub returns-else-get : goal.returns-else-get
returns-else-get c =
    find_other c.args.rows.now c.args.id c.place_of-place.result c.index-rows-place.result c.requires c.place_of-place.ensures (omega arith)
    c.index-rows-place.is (λ same. omega arith)
