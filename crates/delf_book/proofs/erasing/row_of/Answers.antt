use Rattle.std.proofs.Common.{◌≤◌, length, ◌∙◌, subst, arith}
use Rattle.delf_model.specs.RuleSet.{RuleSet}
use Rattle.delf_model.specs.Step.{after}
use Rattle.delf_book.proofs.Taking.{Fit, row_found, found_fit, found_none, would_log_is}
use Rattle.delf_book.proofs.erasing.row_of.Given as given
use Rattle.delf_book.proofs.erasing.row_of.Goals as goal

pub unreachable-requires : goal.unreachable-requires
unreachable-requires g c =
    let l = c.args.ledger.now in
    let few : length l.rules.objects ≤ 64 = subst (λ (r : RuleSet). length r.objects ≤ 64) c.rules.ensures (omega (arith, c.objects_len-kinds.ensures.value, c.objects_len-kinds.ensures.below)) in
    found_none l.rules l.history c.args.entry.now.what c.item_of.result
    (row_found l.rules l.history c.args.entry.now _ c.item_of.result c.len-len.ensures.legal few c.requires.legal c.requires.bounded c.requires.taken c.graph.ensures.of.graph c.item_of.ensures)
    c.in-None.is

fit : (g : given.Over) (c : goal.In-Some g) → Fit c.args.ledger.now.rules c.args.ledger.now.history c.args.entry.now.what c.in-Some.item
fit g c =
    let l = c.args.ledger.now in
    let few : length l.rules.objects ≤ 64 = subst (λ (r : RuleSet). length r.objects ≤ 64) c.rules.ensures (omega (arith, c.objects_len-kinds.ensures.value, c.objects_len-kinds.ensures.below)) in
    found_fit l.rules l.history c.args.entry.now.what c.item_of.result c.in-Some.item
    (row_found l.rules l.history c.args.entry.now _ c.item_of.result c.len-len.ensures.legal few c.requires.legal c.requires.bounded c.requires.taken c.graph.ensures.of.graph c.item_of.ensures)
    c.in-Some.is

pub returns-clause-row : goal.returns-clause-row
returns-clause-row g c = (fit g c).takes

pub returns-clause-logs : goal.returns-clause-logs
returns-clause-logs g c =
    let l = c.args.ledger.now in
    would_log_is (after l.rules l.history) c.args.entry.now.what ∙ (fit g c).first

pub returns-clause-largest : goal.returns-clause-largest
returns-clause-largest g c = (fit g c).size

pub returns-clause-types : goal.returns-clause-types
returns-clause-types g c = (fit g c).types

pub returns-clause-sized : goal.returns-clause-sized
returns-clause-sized g c = (fit g c).sized
