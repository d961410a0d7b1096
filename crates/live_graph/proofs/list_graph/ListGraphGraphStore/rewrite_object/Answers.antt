use Rattle.std.proofs.Common.{◌≡◌, true, List, length, ◌++◌, take, drop, map, sym, ap, subst, ◌∙◌}
use Rattle.delf_model.specs.declared.rows.ObjectRow.{ObjectRow}
use Rattle.delf_model.specs.Graph.{objects_rise, rewritten}
use Rattle.live_graph.specs.Ends.{all_have_ends}
use Rattle.std.proofs.lemmas.List.{length-map}
use Rattle.live_graph.proofs.Loops.{written_back}
use Rattle.live_graph.proofs.Objects.{objects_rise_rewritten}
use Rattle.live_graph.proofs.Ends.{ends_rewritten}
use Rattle.live_graph.proofs.list_graph.ListGraphGraphStore.rewrite_object.Goals as goal

pub invariant_of-self : goal.invariant_of-self
invariant_of-self c =
    let is : c.rewrite.new.rows ≡ map (rewritten c.args.id c.args.at c.args.size) c.args.self.now.objects.items =
    c.rewrite.ensures ∙ ap (λ (rs : List ObjectRow). map (rewritten c.args.id c.args.at c.args.size) rs) c.deref_mut.ensures.value in
    let back : take c.args.self.now.objects.len (c.rewrite.new.rows ++ drop (length c.rewrite.new.rows) c.args.self.now.objects.items) ≡
    map (rewritten c.args.id c.args.at c.args.size) c.args.self.now.objects.items =
    written_back c.args.self.now.objects.len c.rewrite.new.rows c.args.self.now.objects.items
    (ap length c.rewrite.ensures ∙ length-map c.deref_mut.result.now (rewritten c.args.id c.args.at c.args.size) ∙ c.deref_mut.ensures.len) ∙ is in
    record {
      ids_rise = subst (λ (rs : List ObjectRow). objects_rise rs ≡ true) (sym back)
          (objects_rise_rewritten c.args.id c.args.at c.args.size c.args.self.now.objects.items c.args.self.now.ids_rise);
      keys_rise = c.args.self.now.keys_rise;
      ends = subst (λ (rs : List ObjectRow). all_have_ends rs c.args.self.now.edges.items ≡ true) (sym back)
          (ends_rewritten c.args.id c.args.at c.args.size c.args.self.now.objects.items c.args.self.now.edges.items c.args.self.now.ends);
      few = c.args.self.now.few;
    }
