use Rattle.std.proofs.Common.{◌≡◌, ℕ, List, sym, ap, ◌∙◌, arith}
use Rattle.delf_model.specs.declared.rows.ObjectRow.{ObjectRow}
use Rattle.std.proofs.Math.ListN.{set}
use Rattle.object_shards.specs.Rows.{place_in}
use Rattle.object_shards.proofs.Ids.{at_place, set_place, map_none, find_other, find_past}
use Rattle.object_shards.proofs.rows.rewrite_row.Goals as goal

pub returns-then-get : goal.returns-then-get
returns-then-get c =
    let at : c.place_of-place.result ≡ place_in c.args.id c.args.rows.now.items =
    c.place_of-place.ensures ∙ ap (λ (rs : List ObjectRow). place_in c.args.id rs) c.deref.ensures.value in
    ap (λ (n : ℕ). set c.args.rows.now.items n (record c.index.result.now { at = c.args.at; size = c.args.size })) at ∙
    set_place c.args.id c.args.at c.args.size c.args.rows.now.items c.index.result.now c.requires
    (at_place c.args.rows.now.items c.args.id c.place_of-place.result c.index.result.now at (omega arith) c.index.ensures) (omega arith)

pub returns-else-get : goal.returns-else-get
returns-else-get c =
    let at : c.place_of-place.result ≡ place_in c.args.id c.args.rows.now.items =
    c.place_of-place.ensures ∙ ap (λ (rs : List ObjectRow). place_in c.args.id rs) c.deref.ensures.value in
    sym (map_none c.args.id c.args.at c.args.size c.args.rows.now.items
    (sym (find_other c.args.rows.now.items c.args.id c.place_of-place.result c.index.result.now c.requires at (omega arith) c.index.ensures (λ same. omega arith))))

pub returns-else-place-len : goal.returns-else-place-len
returns-else-place-len c =
    let at : c.place_of-place.result ≡ place_in c.args.id c.args.rows.now.items =
    c.place_of-place.ensures ∙ ap (λ (rs : List ObjectRow). place_in c.args.id rs) c.deref.ensures.value in
    sym (map_none c.args.id c.args.at c.args.size c.args.rows.now.items
    (sym (find_past c.args.rows.now.items c.args.id c.place_of-place.result c.requires at (omega arith))))
