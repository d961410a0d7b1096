use Rattle.delf_model.specs.Checked.{KeepsRules}
use Rattle.delf_model.proofs.CheckedLemmas.{KeepsRules-from_rows}
use Rattle.delf_model.proofs.rules.Rules.of_numbers.Goals as goal

kept : (c : goal.In_default-first_unrouted) → KeepsRules c.args.numbering
kept c =
    KeepsRules-from_rows c.args.numbering c.in-Ok.distances.items c.in-Ok.ensures c.in_default.ensures c.in_default-first_untaken.ensures
    c.in_default-first_unrouted.ensures

pub returns-clause-kept : goal.returns-clause-kept
returns-clause-kept c = kept c

pub invariant_of-result : goal.invariant_of-result
invariant_of-result c = record {
  objects_few = c.requires.objects;
  edges_few = c.requires.edges;
  kept = kept c;
  exact = c.in-Ok.ensures;
}
