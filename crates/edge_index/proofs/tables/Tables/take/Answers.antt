use Rattle.std.proofs.Common.{◌≡◌, ◌<◌, sym, ap, subst, ◌∙◌, List, length, arith}
use Rattle.std.specs.Prelude.{filter}
use Rattle.std.specs.List.{slice_get}
use Rattle.delf_model.specs.declared.rows.EdgeRow.{EdgeRow}
use Rattle.delf_model.specs.declared.schema.EdgeShape.{EdgeShape}
use Rattle.delf_model.specs.Graph.{same_key, is_other_edge}
use Rattle.delf_model.specs.RuleSet.{is_refcount_shape}
use Rattle.edge_index.specs.Links.{rows_of}
use Rattle.edge_index.specs.Ends.{places_at, at_source, at_target}
use Rattle.edge_index.specs.Refs.{counts_at, row_counts}
use Rattle.edge_index.specs.Tables.{counts}
use Rattle.edge_index.proofs.Keys.{source_is, target_is}
use Rattle.edge_index.proofs.Rises.{length_filter}
use Rattle.edge_index.proofs.Rows.{rows_take, find_row}
use Rattle.edge_index.proofs.Orders.{room_taken, taken_room, room_left, order_taken, order_wider}
use Rattle.edge_index.proofs.Changes.{exact_taken, none_count, some_count, refs_taken}
use Rattle.edge_index.proofs.tables.Tables.take.Goals as goal

pub count_down-requires-clause-some : goal.count_down-requires-clause-some
count_down-requires-clause-some c = λ counted.
    some_count (counts c.args.self.now) c.args.self.now.links.entries (counts_at c.args.self.now.refs.items) c.args.key.now c.take-row.result c.requires.refs
    (find_row c.args.self.now.links.entries c.args.key.now c.requires.rise ∙ sym c.take-row.ensures.row)
    (sym (c.is_row_counting-counts.ensures
    ∙ ap (λ (shapes : List EdgeShape). row_counts (λ edge. is_refcount_shape (slice_get shapes edge)) c.take-row.result) c.deref.ensures.value) ∙ counted)

pub forget-requires-clause-none : goal.forget-requires-clause-none
forget-requires-clause-none c = λ none.
    let rows = ap rows_of c.take-row.ensures.entries ∙ rows_take c.args.key.now c.args.self.now.links.entries c.requires.rise in
    let flag = c.is_row_counting-counts.ensures
    ∙ (ap (λ (shapes : List EdgeShape). row_counts (λ edge. is_refcount_shape (slice_get shapes edge)) c.take-row.result) c.deref.ensures.value
    ∙ ap (row_counts (counts c.args.self.now)) (c.take-row.ensures.row ∙ sym (find_row c.args.self.now.links.entries c.args.key.now c.requires.rise))) in
    exact_taken (counts c.args.self.now) c.args.key.now c.args.self.now.links.entries c.take-row.new.self.entries (counts_at c.args.self.now.refs.items) (counts_at c.count_down.new.refs.items)
    c.is_row_counting-counts.result flag c.requires.rise rows c.count_down.ensures.count c.requires.refs c.args.key.now.to
    ∙ none_count (counts c.args.self.now) c.take-row.new.self.entries (places_at c.drop_place-2.new.order.items) c.args.key.now.to c.take-row.ensures.rise
    (order_taken at_target _ target_is c.args.self.now.links.entries c.take-row.new.self.entries (places_at c.args.self.now.inward.items) (places_at c.drop_place-2.new.order.items)
    c.args.key.now c.target_end.result c.target_end.ensures (taken_room c.args.self.now.links.entries c.take-row.new.self.entries c.args.key.now c.take-row.ensures.linked)
    (room_left c.args.self.now.links.entries c.take-row.new.self.entries c.args.key.now c.take-row.ensures.linked) c.drop_place-2.ensures.rise (c.drop_place-2.ensures.stand at_target) c.drop_place-2.ensures.placed
    (order_wider at_target (same_key c.args.key.now) c.args.self.now.links.entries (places_at c.args.self.now.inward.items) c.requires.into)) none

pub returns-clause-row : goal.returns-clause-row
returns-clause-row c = c.take-row.ensures.row ∙ sym (find_row c.args.self.now.links.entries c.args.key.now c.requires.rise)

rows_after : (c : goal.After-forget) → rows_of c.take-row.new.self.entries ≡ filter (is_other_edge c.args.key.now) (rows_of c.args.self.now.links.entries)
rows_after c = ap rows_of c.take-row.ensures.entries ∙ rows_take c.args.key.now c.args.self.now.links.entries c.requires.rise

pub returns-clause-rows : goal.returns-clause-rows
returns-clause-rows c = rows_after c

pub returns-clause-agree : goal.returns-clause-agree
returns-clause-agree c =
    let flag = c.is_row_counting-counts.ensures
    ∙ (ap (λ (shapes : List EdgeShape). row_counts (λ edge. is_refcount_shape (slice_get shapes edge)) c.take-row.result) c.deref.ensures.value
    ∙ ap (row_counts (counts c.args.self.now)) (c.take-row.ensures.row ∙ sym (find_row c.args.self.now.links.entries c.args.key.now c.requires.rise))) in
    let into = order_taken at_target _ target_is c.args.self.now.links.entries c.take-row.new.self.entries (places_at c.args.self.now.inward.items) (places_at c.drop_place-2.new.order.items)
    c.args.key.now c.target_end.result c.target_end.ensures (taken_room c.args.self.now.links.entries c.take-row.new.self.entries c.args.key.now c.take-row.ensures.linked)
    (room_left c.args.self.now.links.entries c.take-row.new.self.entries c.args.key.now c.take-row.ensures.linked) c.drop_place-2.ensures.rise (c.drop_place-2.ensures.stand at_target) c.drop_place-2.ensures.placed
    (order_wider at_target (same_key c.args.key.now) c.args.self.now.links.entries (places_at c.args.self.now.inward.items) c.requires.into) in
    record {
      rise = c.take-row.ensures.rise;
      few = subst (λ (rs : List EdgeRow). length rs < 4294967296) (sym (rows_after c))
          (let less = length_filter (is_other_edge c.args.key.now) (rows_of c.args.self.now.links.entries) in let few = c.requires.few in omega arith);
      outs = c.drop_place.ensures.count;
      out = order_taken at_source _ source_is c.args.self.now.links.entries c.take-row.new.self.entries (places_at c.args.self.now.outward.items) (places_at c.drop_place.new.order.items)
          c.args.key.now c.source_end.result c.source_end.ensures (taken_room c.args.self.now.links.entries c.take-row.new.self.entries c.args.key.now c.take-row.ensures.linked)
          (room_left c.args.self.now.links.entries c.take-row.new.self.entries c.args.key.now c.take-row.ensures.linked) c.drop_place.ensures.rise (c.drop_place.ensures.stand at_source) c.drop_place.ensures.placed
          (order_wider at_source (same_key c.args.key.now) c.args.self.now.links.entries (places_at c.args.self.now.outward.items) c.requires.out);
      ins = c.drop_place-2.ensures.count;
      into = into;
      targets = c.forget.ensures.size;
      refs = refs_taken (counts c.args.self.now) c.args.self.now.links.entries c.take-row.new.self.entries (places_at c.drop_place-2.new.order.items) (counts_at c.args.self.now.refs.items)
          (counts_at c.count_down.new.refs.items) (counts_at c.forget.new.refs.items) (room_taken c.args.self.now.links.entries c.take-row.new.self.entries c.args.key.now c.take-row.ensures.linked) into
          (exact_taken (counts c.args.self.now) c.args.key.now c.args.self.now.links.entries c.take-row.new.self.entries (counts_at c.args.self.now.refs.items) (counts_at c.count_down.new.refs.items)
          c.is_row_counting-counts.result flag c.requires.rise (rows_after c) c.count_down.ensures.count c.requires.refs)
          c.count_down.ensures.places c.forget.ensures.counts c.forget.ensures.stay c.requires.refs;
    }
