use Rattle.std.proofs.Common.{◌≡◌, ◌∙◌, rules, ap, ℕ, ◌+◌}
use Rattle.std.specs.declared.ops.Bound.TheVariants.{Included, Excluded}
use Rattle.std.specs.BTreeMap.Range.{entries_between}
use Rattle.edge_index.specs.declared.ends.EndKey.{EndKey}
use Rattle.edge_index.specs.Ends.{end_cmp}
use Rattle.edge_index.proofs.Ranges.{start_of, between_is_near}
use Rattle.edge_index.proofs.ends.places_near.Goals as goal

pub returns-clause-rest : goal.returns-clause-rest
returns-clause-rest c =
    let from : c.range.result ≡ entries_between end_cmp (Included c.start_of.result) (Excluded c.start_of-2.result) c.args.order.now.entries = search rules in
    from
    ∙ ap (λ (q : EndKey). entries_between end_cmp (Included q) (Excluded c.start_of-2.result) c.args.order.now.entries) (c.start_of.ensures ∙ ap start_of c.get-near.ensures.value)
    ∙ ap (λ (q : EndKey). entries_between end_cmp (Included (start_of c.args.id)) (Excluded q) c.args.order.now.entries) (c.start_of-2.ensures ∙ ap (λ (n : ℕ). start_of (n + 1)) c.get-near.ensures.value)
    ∙ between_is_near c.args.id c.args.order.now.entries
