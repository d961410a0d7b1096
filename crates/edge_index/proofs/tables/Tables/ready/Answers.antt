use Rattle.std.proofs.Common.{List, sym, ap, ◌∙◌}
use Rattle.edge_index.specs.Links.{Entry, has_room}
use Rattle.edge_index.specs.Ends.{places_at, at_source, at_target}
use Rattle.edge_index.proofs.Keys.{source_is, target_is}
use Rattle.edge_index.proofs.Orders.{order_taken, free_apart}
use Rattle.edge_index.proofs.tables.Tables.ready.Goals as goal

pub returns-in-Err-clause-agree : goal.returns-in-Err-clause-agree
returns-in-Err-clause-agree c =
    let free = ap (λ (links : List Entry). has_room links c.args.key) c.in-Err.ensures.links ∙ (sym c.has.ensures ∙ c.if-has.false) in
    record {
      rise = c.in-Err.ensures.part.rise;
      few = c.in-Err.ensures.part.few;
      outs = c.drop_place.ensures.count;
      out = order_taken at_source _ source_is c.add_places.new.self.links.entries c.add_places.new.self.links.entries (places_at c.add_places.new.self.outward.items) (places_at c.drop_place.new.order.items)
          c.args.key c.source_end.result c.source_end.ensures (free_apart c.add_places.new.self.links.entries c.args.key free) (λ q apart room. room)
          c.drop_place.ensures.rise (c.drop_place.ensures.stand at_source) c.drop_place.ensures.placed c.in-Err.ensures.part.out;
      ins = c.drop_place-in-Err.ensures.count;
      into = order_taken at_target _ target_is c.add_places.new.self.links.entries c.add_places.new.self.links.entries (places_at c.add_places.new.self.inward.items) (places_at c.drop_place-in-Err.new.order.items)
          c.args.key c.target_end.result c.target_end.ensures (free_apart c.add_places.new.self.links.entries c.args.key free) (λ q apart room. room)
          c.drop_place-in-Err.ensures.rise (c.drop_place-in-Err.ensures.stand at_target) c.drop_place-in-Err.ensures.placed c.in-Err.ensures.part.into;
      targets = c.in-Err.ensures.part.targets;
      refs = c.in-Err.ensures.part.refs;
    }
