use Rattle.std.proofs.Common.{◌≡◌, List, ap, ◌∙◌, arith}
use Rattle.delf_model.specs.declared.rows.ObjectRow.{ObjectRow}
use Rattle.object_shards.specs.Rows.{place_in}
use Rattle.object_shards.proofs.Ids.{place_within, place_of_put}
use Rattle.object_shards.proofs.rows.put_row.Goals as goal

pub insert_ready-requires-clause-place : goal.insert_ready-requires-clause-place
insert_ready-requires-clause-place c = omega (arith, place_within c.deref.result.now c.args.row.id)

pub returns : goal.returns
returns c =
    let at : c.place_of-place.result ≡ place_in c.args.row.id c.args.rows.now.items =
    c.place_of-place.ensures ∙ ap (λ (rs : List ObjectRow). place_in c.args.row.id rs) c.deref.ensures.value in
    place_of_put c.args.row c.args.rows.now.items c.insert_ready.new.list.items c.place_of-place.result at c.requires.free c.insert_ready.ensures
