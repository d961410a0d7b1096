use Rattle.std.proofs.Common.{◌≡◌, Option, Some, ◌-◌, ◌/◌, ℕ, true, List, length, drop, sym, ap, subst, ◌∙◌, arith}
use Rattle.std.specs.Prelude.{slice_get}
use Rattle.std.proofs.lemmas.Result.{IfOk-weaker}
use Rattle.delf_model.specs.declared.rows.ObjectRow.{ObjectRow}
use Rattle.delf_model.specs.Graph.{objects_rise}
use Rattle.delf_model.specs.Store.{id_of_row}
use Rattle.object_shards.proofs.Ids.{objects_rise_take, objects_rise_drop}
use Rattle.object_shards.proofs.Parts.{got_at}
use Rattle.object_shards.proofs.shard.Shard.upper_half.Goals as goal

pub of-requires-clause-rise : goal.of-requires-clause-rise
of-requires-clause-rise c =
    let rise : objects_rise c.deref.result.now ≡ true = subst (λ (rs : List ObjectRow). objects_rise rs ≡ true) (sym c.deref.ensures.value) c.args.self.now.ids_rise in
    objects_rise_take (length c.deref.result.now - c.len-middle.result / 2) (drop (c.len-middle.result / 2) c.deref.result.now)
    (objects_rise_drop (c.len-middle.result / 2) c.deref.result.now rise)

pub returns-clause-low : goal.returns-clause-low
returns-clause-low c =
    let rows = c.args.self.now.rows in
    let half : c.len-middle.result / 2 ≡ length rows.items / 2 = ap (λ (n : ℕ). n / 2) (c.len-middle.ensures ∙ rows.ok.0) in
    let there : slice_get rows.items (c.len-middle.result / 2) ≡ Some c.index.result.now =
    got_at rows.items (c.len-middle.result / 2) c.index.result.now c.index.result.now (let is = rows.ok.0 in omega arith) c.index.ensures in
    let found : id_of_row (slice_get rows.items (length rows.items / 2)) ≡ Some c.get-low.result =
    ap (λ (n : ℕ). id_of_row (slice_get rows.items n)) (sym half) ∙ (ap (λ (o : Option ObjectRow). id_of_row o) there ∙ ap (λ (n : ℕ). Some n) (sym c.get-low.ensures.value)) in
    IfOk-weaker c.of.result (λ shard. shard.low ≡ c.get-low.result) (λ upper. id_of_row (slice_get rows.items (length rows.items / 2)) ≡ Some upper.low)
    (λ upper is. found ∙ ap (λ (n : ℕ). Some n) (sym is)) c.of.ensures.low
