use Rattle.std.proofs.Common.{◌≡◌, ◌<◌, None, Result, Ok, Err, OnErr, sym, ap, subst, ◌∙◌, List, length}
use Rattle.delf_model.specs.declared.rows.EdgeRow.{EdgeRow}
use Rattle.delf_model.specs.Graph.{same_key}
use Rattle.delf_model.proofs.Graphs.{same_key_refl}
use Rattle.edge_index.specs.Links.{Entry, rows_of}
use Rattle.edge_index.specs.Ends.{places_at, at_source, at_target, place_of, IsOrderOf}
use Rattle.edge_index.specs.Refs.{AreRefsOf, counts_at}
use Rattle.edge_index.specs.Tables.{counts, AgreeBut}
use Rattle.edge_index.proofs.Keys.{source_apart, target_apart}
use Rattle.edge_index.proofs.Rows.{Sorted, rows_ready}
use Rattle.edge_index.proofs.Orders.{order_grown, order_wider, room_grown, room_other, no_link}
use Rattle.edge_index.proofs.Changes.{refs_kept, refs_grown}
use Rattle.edge_index.proofs.tables.Tables.add_places.Goals as goal

-- a fact that holds anyway holds on an error
on_err : {A E : Type 0} (r : Result A E) (P : Type 0) → P → OnErr r P
on_err (Ok x) P p = tt
on_err (Err e) P p = p

pub returns-in_err-add_place-clause-part : goal.returns-in_err-add_place-clause-part
returns-in_err-add_place-clause-part c =
    let agree : AgreeBut (same_key c.args.key) (record { shapes = c.args.self.now.shapes; links = c.args.self.now.links; outward = c.add_place.new.order; inward = c.args.self.now.inward; refs = c.args.self.now.refs }) =
    record {
      rise = c.requires.agree.rise;
      few = c.requires.agree.few;
      outs = c.in_err-add_place.ensures.count;
      out = c.in_err-add_place.ensures.keeps at_source (same_key c.args.key) c.args.self.now.links.entries source_apart (sym c.source_end.ensures) (same_key_refl c.args.key)
          (order_wider at_source (same_key c.args.key) c.args.self.now.links.entries (places_at c.args.self.now.outward.items) c.requires.agree.out);
      ins = c.requires.agree.ins;
      into = order_wider at_target (same_key c.args.key) c.args.self.now.links.entries (places_at c.args.self.now.inward.items) c.requires.agree.into;
      targets = c.requires.agree.targets;
      refs = c.requires.agree.refs;
    } in
    on_err c.from_residual.result _ agree

pub returns-in_err-add_place-2-clause-part : goal.returns-in_err-add_place-2-clause-part
returns-in_err-add_place-2-clause-part c =
    let agree : AgreeBut (same_key c.args.key) (record { shapes = c.args.self.now.shapes; links = c.args.self.now.links; outward = c.add_place.new.order; inward = c.add_place-2.new.order; refs = c.args.self.now.refs }) =
    record {
      rise = c.requires.agree.rise;
      few = c.requires.agree.few;
      outs = c.in_ok-add_place.ensures.count;
      out = c.in_ok-add_place.ensures.keeps at_source (same_key c.args.key) c.args.self.now.links.entries source_apart (sym c.source_end.ensures) (same_key_refl c.args.key)
          (order_wider at_source (same_key c.args.key) c.args.self.now.links.entries (places_at c.args.self.now.outward.items) c.requires.agree.out);
      ins = c.in_err-add_place-2.ensures.count;
      into = c.in_err-add_place-2.ensures.keeps at_target (same_key c.args.key) c.args.self.now.links.entries target_apart (sym c.target_end.ensures) (same_key_refl c.args.key)
          (order_wider at_target (same_key c.args.key) c.args.self.now.links.entries (places_at c.args.self.now.inward.items) c.requires.agree.into);
      targets = c.requires.agree.targets;
      refs = c.requires.agree.refs;
    } in
    on_err c.from_residual-in_err-add_place-2.result _ agree

pub returns-in_err-ready_ref-clause-part : goal.returns-in_err-ready_ref-clause-part
returns-in_err-ready_ref-clause-part c =
    let agree : AgreeBut (same_key c.args.key) (record { shapes = c.args.self.now.shapes; links = c.args.self.now.links; outward = c.add_place.new.order; inward = c.add_place-2.new.order; refs = c.ready_ref.new.refs }) =
    record {
      rise = c.requires.agree.rise;
      few = c.requires.agree.few;
      outs = c.in_ok-add_place.ensures.count;
      out = c.in_ok-add_place.ensures.keeps at_source (same_key c.args.key) c.args.self.now.links.entries source_apart (sym c.source_end.ensures) (same_key_refl c.args.key)
          (order_wider at_source (same_key c.args.key) c.args.self.now.links.entries (places_at c.args.self.now.outward.items) c.requires.agree.out);
      ins = c.in_ok-add_place-2.ensures.count;
      into = c.in_ok-add_place-2.ensures.keeps at_target (same_key c.args.key) c.args.self.now.links.entries target_apart (sym c.target_end.ensures) (same_key_refl c.args.key)
          (order_wider at_target (same_key c.args.key) c.args.self.now.links.entries (places_at c.args.self.now.inward.items) c.requires.agree.into);
      targets = c.in_err-ready_ref.ensures.size;
      refs = refs_kept (counts c.args.self.now) c.args.self.now.links.entries (counts_at c.args.self.now.refs.items) (counts_at c.ready_ref.new.refs.items)
          c.in_err-ready_ref.ensures.counts c.in_err-ready_ref.ensures.stay c.requires.agree.refs;
    } in
    on_err c.from_residual-in_err-ready_ref.result _ agree

pub returns-in_err-ready-clause-part : goal.returns-in_err-ready-clause-part
returns-in_err-ready-clause-part c =
    let same = sym c.in_err-ready.ensures.err in
    let agree : AgreeBut (same_key c.args.key) (record { shapes = c.args.self.now.shapes; links = c.ready.new.self; outward = c.add_place.new.order; inward = c.add_place-2.new.order; refs = c.ready_ref.new.refs }) =
    record {
      rise = subst (λ (links : List Entry). Sorted links) same c.requires.agree.rise;
      few = subst (λ (links : List Entry). length (rows_of links) < 4294967296) same c.requires.agree.few;
      outs = c.in_ok-add_place.ensures.count;
      out = subst (λ (links : List Entry). IsOrderOf at_source (same_key c.args.key) links (places_at c.add_place.new.order.items)) same
          (c.in_ok-add_place.ensures.keeps at_source (same_key c.args.key) c.args.self.now.links.entries source_apart (sym c.source_end.ensures) (same_key_refl c.args.key)
          (order_wider at_source (same_key c.args.key) c.args.self.now.links.entries (places_at c.args.self.now.outward.items) c.requires.agree.out));
      ins = c.in_ok-add_place-2.ensures.count;
      into = subst (λ (links : List Entry). IsOrderOf at_target (same_key c.args.key) links (places_at c.add_place-2.new.order.items)) same
          (c.in_ok-add_place-2.ensures.keeps at_target (same_key c.args.key) c.args.self.now.links.entries target_apart (sym c.target_end.ensures) (same_key_refl c.args.key)
          (order_wider at_target (same_key c.args.key) c.args.self.now.links.entries (places_at c.args.self.now.inward.items) c.requires.agree.into));
      targets = c.in_ok-ready_ref.ensures.size;
      refs = subst (λ (links : List Entry). AreRefsOf (counts c.args.self.now) links (counts_at c.ready_ref.new.refs.items)) same
          (refs_kept (counts c.args.self.now) c.args.self.now.links.entries (counts_at c.args.self.now.refs.items) (counts_at c.ready_ref.new.refs.items)
          c.in_ok-ready_ref.ensures.counts c.in_ok-ready_ref.ensures.stay c.requires.agree.refs);
    } in
    on_err c.from_residual-in_err-ready.result _ agree

rows_after : (c : goal.In_ok-ready) → rows_of c.ready.new.self.entries ≡ rows_of c.args.self.now.links.entries
rows_after c = ap rows_of c.in_ok-ready.ensures.entries ∙ rows_ready c.args.key c.args.self.now.links.entries (no_link c.args.self.now.links.entries c.args.key c.requires.free)

pub returns-clause-rows : goal.returns-clause-rows
returns-clause-rows c = rows_after c

pub returns-clause-stay : goal.returns-clause-stay
returns-clause-stay c = room_grown c.args.self.now.links.entries c.ready.new.self.entries c.args.key None c.in_ok-ready.ensures.linked

pub returns-clause-agree : goal.returns-clause-agree
returns-clause-agree c = record {
  rise = c.in_ok-ready.ensures.rise;
  few = subst (λ (rs : List EdgeRow). length rs < 4294967296) (sym (rows_after c)) c.requires.agree.few;
  outs = c.in_ok-add_place.ensures.count;
  out = order_grown at_source c.args.self.now.links.entries c.ready.new.self.entries (places_at c.add_place.new.order.items) c.args.key None c.in_ok-ready.ensures.linked
      (ap (place_of (places_at c.add_place.new.order.items)) (sym c.source_end.ensures) ∙ c.in_ok-add_place.ensures.there)
      (c.in_ok-add_place.ensures.keeps at_source (same_key c.args.key) c.args.self.now.links.entries source_apart (sym c.source_end.ensures) (same_key_refl c.args.key)
      (order_wider at_source (same_key c.args.key) c.args.self.now.links.entries (places_at c.args.self.now.outward.items) c.requires.agree.out));
  ins = c.in_ok-add_place-2.ensures.count;
  into = order_grown at_target c.args.self.now.links.entries c.ready.new.self.entries (places_at c.add_place-2.new.order.items) c.args.key None c.in_ok-ready.ensures.linked
      (ap (place_of (places_at c.add_place-2.new.order.items)) (sym c.target_end.ensures) ∙ c.in_ok-add_place-2.ensures.there)
      (c.in_ok-add_place-2.ensures.keeps at_target (same_key c.args.key) c.args.self.now.links.entries target_apart (sym c.target_end.ensures) (same_key_refl c.args.key)
      (order_wider at_target (same_key c.args.key) c.args.self.now.links.entries (places_at c.args.self.now.inward.items) c.requires.agree.into));
  targets = c.in_ok-ready_ref.ensures.size;
  refs = refs_grown (counts c.args.self.now) c.args.self.now.links.entries c.ready.new.self.entries (counts_at c.ready_ref.new.refs.items) c.args.key (rows_after c)
      (room_other c.args.self.now.links.entries c.ready.new.self.entries c.args.key None c.in_ok-ready.ensures.linked) c.in_ok-ready_ref.ensures.place
      (refs_kept (counts c.args.self.now) c.args.self.now.links.entries (counts_at c.args.self.now.refs.items) (counts_at c.ready_ref.new.refs.items)
      c.in_ok-ready_ref.ensures.counts c.in_ok-ready_ref.ensures.stay c.requires.agree.refs);
}
