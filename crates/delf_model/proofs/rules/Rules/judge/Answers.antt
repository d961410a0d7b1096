use Rattle.std.proofs.Common.{length, map, subst}
use Rattle.delf_model.specs.Checked.{KeepsRules, IsChecked, IsFirstRow, NoRow, IsRepeated}
use Rattle.delf_model.specs.Broken.{ObjectNamesOnce, EdgeNamesOnce}
use Rattle.delf_model.proofs.CheckedLemmas.{IfOk-along, IfErr-from_numbers}
use Rattle.delf_model.proofs.rules.Rules.judge.Goals as goal

pub returns-in-Some-clause-fault : goal.returns-in-Some-clause-fault
returns-in-Some-clause-fault c =
    subst (λ xs. IsFirstRow (length xs) (IsRepeated (map (λ object. object.name) xs)) c.in-Some.row) c.as_slice.ensures c.in-Some.ensures

pub returns-in-Some-first_repeated_edge-clause-fault :
    goal.returns-in-Some-first_repeated_edge-clause-fault
returns-in-Some-first_repeated_edge-clause-fault c = (
  subst (λ xs. NoRow (length xs) (IsRepeated (map (λ object. object.name) xs))) c.as_slice.ensures c.in_default.ensures,
  subst (λ xs. IsFirstRow (length xs) (IsRepeated (map (λ edge. edge.name) xs)) c.in-Some-first_repeated_edge.row) c.as_slice-2.ensures
      c.in-Some-first_repeated_edge.ensures,
)

objects_once : (c : goal.After-of_numbers) → ObjectNamesOnce c.args.schema.now
objects_once c = subst (λ xs. NoRow (length xs) (IsRepeated (map (λ object. object.name) xs))) c.as_slice.ensures c.in_default.ensures

edges_once : (c : goal.After-of_numbers) → EdgeNamesOnce c.args.schema.now
edges_once c = subst (λ xs. NoRow (length xs) (IsRepeated (map (λ edge. edge.name) xs))) c.as_slice-2.ensures c.in_default-first_repeated_edge.ensures

pub returns-in-Ok-clause-checked : goal.returns-in-Ok-clause-checked
returns-in-Ok-clause-checked c =
    IfOk-along c.of_numbers.result (KeepsRules c.in-Ok.numbering) (IsChecked c.args.schema.now)
    (λ kept. record {
      object_names_once = objects_once c;
      edge_names_once = edges_once c;
      numbers = subst (λ r. KeepsRules r) c.in-Ok.ensures kept;
    })
    c.of_numbers.ensures.kept

pub returns-in-Ok-clause-fault : goal.returns-in-Ok-clause-fault
returns-in-Ok-clause-fault c =
    IfErr-from_numbers c.of_numbers.result c.args.schema.now c.in-Ok.numbering c.in-Ok.ensures (objects_once c) (edges_once c) c.of_numbers.ensures.fault
