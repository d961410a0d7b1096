-- What the rows of a book say: their numbers are those of its rules, and they are few.
use Rattle.std.proofs.Common.{◌≡◌, ℕ, ◌≤◌, Option, Some, None, List, length, take, refl, sym, ap, subst, ◌∙◌}
use Rattle.std.specs.Prelude.{Result, IfErr, IfSome, slice_get}
use Rattle.std.specs.List.{AllByRecursion}
use Rattle.delf_model.specs.declared.call.Call.{Call}
use Rattle.delf_model.specs.declared.call.Refusal.{Refusal}
use Rattle.delf_model.specs.declared.entry.Entry.{Entry}
use Rattle.delf_model.specs.declared.entry.What.{What}
use Rattle.delf_model.specs.declared.call.Listed.{Listed}
use Rattle.delf_model.specs.declared.rows.ObjectRow.{ObjectRow}
use Rattle.delf_model.specs.declared.rows.EdgeRow.{EdgeRow}
use Rattle.delf_model.specs.RuleSet.{RuleSet}
use Rattle.delf_model.specs.Graph.{Graph, has_id, object_at}
use Rattle.delf_model.specs.Report.{listed_from}
use Rattle.delf_model.specs.Step.{after}
use Rattle.delf_model.specs.Legal.{Legal}
use Rattle.delf_model.specs.Reply.{reply}
use Rattle.script_runner.specs.Names.{IsNumberedObject, IsNumberedEdge, IsNumberedListed, IsNumberedRefusal}
use Rattle.script_runner.proofs.Counts.{objects_few, edges_few}
use Rattle.script_runner.proofs.Numbered.{all_found, all_at, rules_after, objects_numbered, edges_numbered, listed_numbered, numbered_after}
use Rattle.script_runner.proofs.Refusals.{reply_numbered}

pub refusal_numbered : (rules : RuleSet) (h : List Entry) (moment : ℕ) (call : Call) (r : Result What Refusal) → Legal rules h →
    r ≡ reply (after rules h) moment 0 call → IfErr r (IsNumberedRefusal (length rules.objects))
refusal_numbered rules h moment call r legal is =
    subst (λ (o : Result What Refusal). IfErr o (IsNumberedRefusal (length rules.objects))) (sym is)
    (subst (λ (x : RuleSet). IfErr (reply (after rules h) moment 0 call) (IsNumberedRefusal (length x.objects))) (rules_after rules h)
    (reply_numbered (after rules h) moment 0 call (numbered_after rules h legal).objects))

pub objects_if : (rules : RuleSet) (h : List Entry) (g : Graph) (rows : List ObjectRow) → Legal rules h → g ≡ (after rules h).graph → rows ≡ g.objects →
    AllByRecursion (IsNumberedObject rules) rows
objects_if rules h g rows legal graph is =
    subst (λ (xs : List ObjectRow). AllByRecursion (IsNumberedObject rules) xs) (sym (is ∙ ap (λ (x : Graph). x.objects) graph)) (objects_numbered rules h legal)

pub edges_if : (rules : RuleSet) (h : List Entry) (g : Graph) (rows : List EdgeRow) → Legal rules h → g ≡ (after rules h).graph → rows ≡ g.edges →
    AllByRecursion (IsNumberedEdge rules) rows
edges_if rules h g rows legal graph is =
    subst (λ (xs : List EdgeRow). AllByRecursion (IsNumberedEdge rules) xs) (sym (is ∙ ap (λ (x : Graph). x.edges) graph)) (edges_numbered rules h legal)

pub objects_count : (rules : RuleSet) (h : List Entry) (g : Graph) (rows : List ObjectRow) → Legal rules h → g ≡ (after rules h).graph → rows ≡ g.objects → length rows ≤ 500000
objects_count rules h g rows legal graph is =
    let few : length (after rules h).graph.objects ≤ 500000 = objects_few rules h legal in
    subst (λ (xs : List ObjectRow). length xs ≤ 500000) (sym (is ∙ ap (λ (x : Graph). x.objects) graph)) few

pub edges_count : (rules : RuleSet) (h : List Entry) (g : Graph) (rows : List EdgeRow) → Legal rules h → g ≡ (after rules h).graph → rows ≡ g.edges → length rows ≤ 500000
edges_count rules h g rows legal graph is =
    let few : length (after rules h).graph.edges ≤ 500000 = edges_few rules h legal in
    subst (λ (xs : List EdgeRow). length xs ≤ 500000) (sym (is ∙ ap (λ (x : Graph). x.edges) graph)) few

pub objects_are : (rules : RuleSet) (h : List Entry) (g : Graph) (rows : List ObjectRow) → g ≡ (after rules h).graph → rows ≡ g.objects → rows ≡ (after rules h).graph.objects
objects_are rules h g rows graph is = is ∙ ap (λ (x : Graph). x.objects) graph

pub edges_are : (rules : RuleSet) (h : List Entry) (g : Graph) (rows : List EdgeRow) → g ≡ (after rules h).graph → rows ≡ g.edges → rows ≡ (after rules h).graph.edges
edges_are rules h g rows graph is = is ∙ ap (λ (x : Graph). x.edges) graph

found_if : (rules : RuleSet) (g : Graph) (id : ℕ) (o : Option ObjectRow) → AllByRecursion (IsNumberedObject rules) g.objects → o ≡ object_at g id →
    IfSome o (IsNumberedObject rules)
found_if rules g id None all is = tt
found_if rules g id (Some row) all is = all_found (IsNumberedObject rules) (has_id id) g.objects row all (sym is)

pub object_if : (rules : RuleSet) (h : List Entry) (g : Graph) (id : ℕ) (o : Option ObjectRow) → Legal rules h → g ≡ (after rules h).graph → o ≡ object_at g id →
    IfSome o (IsNumberedObject rules)
object_if rules h g id o legal graph found = found_if rules g id o (objects_if rules h g g.objects legal graph refl) found

listed_first : (rules : RuleSet) (xs : List Listed) (o : Option Listed) → AllByRecursion (IsNumberedListed rules) xs → o ≡ slice_get xs 0 →
    IfSome o (IsNumberedListed rules)
listed_first rules xs None all is = tt
listed_first rules xs (Some listed) all is = all_at (IsNumberedListed rules) xs 0 listed all (sym is)

pub listed_if : (rules : RuleSet) (h : List Entry) (job below : ℕ) (o : Option Listed) → Legal rules h →
    o ≡ slice_get (listed_from job 0 (take below (after rules h).items)) 0 → IfSome o (IsNumberedListed rules)
listed_if rules h job below o legal found =
    listed_first rules (listed_from job 0 (take below (after rules h).items)) o (listed_numbered rules h job below legal) found
