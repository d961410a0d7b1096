use Rattle.std.proofs.Common.{◌≡◌, ℕ, Some, List, sym, ap, ◌∙◌, arith}
use Rattle.std.specs.Prelude.{slice_get}
use Rattle.delf_model.specs.declared.rows.ObjectRow.{ObjectRow}
use Rattle.std.specs.List.{remove}
use Rattle.object_shards.specs.Rows.{place_in}
use Rattle.object_shards.proofs.Ids.{at_place, remove_place, filter_none, find_other, find_past, find_found}
use Rattle.object_shards.proofs.rows.take_row.Goals as goal

pub returns-then-place-len-clause-row : goal.returns-then-place-len-clause-row
returns-then-place-len-clause-row c =
    let at : c.place_of-place.result ≡ place_in c.args.id c.args.rows.now.items =
    c.place_of-place.ensures ∙ ap (λ (rs : List ObjectRow). place_in c.args.id rs) c.deref.ensures.value in
    find_past c.args.rows.now.items c.args.id c.place_of-place.result c.requires at (omega arith)

pub returns-then-place-len-clause-rest : goal.returns-then-place-len-clause-rest
returns-then-place-len-clause-rest c =
    let at : c.place_of-place.result ≡ place_in c.args.id c.args.rows.now.items =
    c.place_of-place.ensures ∙ ap (λ (rs : List ObjectRow). place_in c.args.id rs) c.deref.ensures.value in
    sym (filter_none c.args.id c.args.rows.now.items
    (sym (find_past c.args.rows.now.items c.args.id c.place_of-place.result c.requires at (omega arith))))

pub returns-then-get-clause-row : goal.returns-then-get-clause-row
returns-then-get-clause-row c =
    let at : c.place_of-place.result ≡ place_in c.args.id c.args.rows.now.items =
    c.place_of-place.ensures ∙ ap (λ (rs : List ObjectRow). place_in c.args.id rs) c.deref.ensures.value in
    find_other c.args.rows.now.items c.args.id c.place_of-place.result c.index.result.now c.requires at (omega arith) c.index.ensures (λ same. omega arith)

pub returns-then-get-clause-rest : goal.returns-then-get-clause-rest
returns-then-get-clause-rest c =
    let at : c.place_of-place.result ≡ place_in c.args.id c.args.rows.now.items =
    c.place_of-place.ensures ∙ ap (λ (rs : List ObjectRow). place_in c.args.id rs) c.deref.ensures.value in
    sym (filter_none c.args.id c.args.rows.now.items
    (sym (find_other c.args.rows.now.items c.args.id c.place_of-place.result c.index.result.now c.requires at (omega arith) c.index.ensures (λ same. omega arith))))

pub returns-clause-row : goal.returns-clause-row
returns-clause-row c =
    let at : c.place_of-place.result ≡ place_in c.args.id c.args.rows.now.items =
    c.place_of-place.ensures ∙ ap (λ (rs : List ObjectRow). place_in c.args.id rs) c.deref.ensures.value in
    let there : slice_get c.args.rows.now.items (place_in c.args.id c.args.rows.now.items) ≡ Some c.remove.result =
    at_place c.args.rows.now.items c.args.id c.place_of-place.result c.remove.result at (omega arith) c.remove.ensures.value in
    let seen : slice_get c.args.rows.now.items (place_in c.args.id c.args.rows.now.items) ≡ Some c.index.result.now =
    at_place c.args.rows.now.items c.args.id c.place_of-place.result c.index.result.now at (omega arith) c.index.ensures in
    let one : c.remove.result ≡ c.index.result.now = cc in
    let same : c.remove.result.id ≡ c.args.id = omega (arith, ap (λ (r : ObjectRow). r.id) one) in
    find_found c.args.rows.now.items c.args.id c.place_of-place.result c.remove.result c.requires at (omega arith) c.remove.ensures.value same

pub returns-clause-rest : goal.returns-clause-rest
returns-clause-rest c =
    let at : c.place_of-place.result ≡ place_in c.args.id c.args.rows.now.items =
    c.place_of-place.ensures ∙ ap (λ (rs : List ObjectRow). place_in c.args.id rs) c.deref.ensures.value in
    let there : slice_get c.args.rows.now.items (place_in c.args.id c.args.rows.now.items) ≡ Some c.remove.result =
    at_place c.args.rows.now.items c.args.id c.place_of-place.result c.remove.result at (omega arith) c.remove.ensures.value in
    let seen : slice_get c.args.rows.now.items (place_in c.args.id c.args.rows.now.items) ≡ Some c.index.result.now =
    at_place c.args.rows.now.items c.args.id c.place_of-place.result c.index.result.now at (omega arith) c.index.ensures in
    let one : c.remove.result ≡ c.index.result.now = cc in
    let same : c.remove.result.id ≡ c.args.id = omega (arith, ap (λ (r : ObjectRow). r.id) one) in
    (c.remove.ensures.items ∙ ap (λ (n : ℕ). remove c.args.rows.now.items n) at) ∙
    remove_place c.args.id c.args.rows.now.items c.remove.result c.requires there same
