use Rattle.std.proofs.Common.{◌≡◌, ℕ, [], ◌∷◌, Some, get_or, refl, sym, ap, ◌∙◌, arith}
use Rattle.delf_model.specs.Graph.{Graph, edge_at}
use Rattle.delf_model.specs.Payloads.{Carrier, Journal}
use Rattle.payload_laws.specs.Holders.{carrier_of_edge}
use Rattle.ledger.specs.Ledgers.{state_of}
use Rattle.delf_book.proofs.Carrying.{RowCarried, edge_carried, carried_index, carried_within}
use Rattle.delf_book.proofs.dead.edge_record.Given as given
use Rattle.delf_book.proofs.dead.edge_record.Goals as goal

stands : (g : given.Over) (c : goal.After-shared_slice_known-2-1 g) → edge_at (state_of c.args.ledger.now).graph c.args.key ≡ Some c.in_ok-row.row
stands g c = ap (λ (graph : Graph). edge_at graph c.args.key) (sym c.graph.ensures.of.graph) ∙ (sym c.edge.ensures ∙ c.in_ok-row.was)

carried : (g : given.Over) (c : goal.After-shared_slice_known-2-1 g) → RowCarried c.args.ledger.now.rules c.args.ledger.now.history c.args.carriers.now c.in_ok-row.row.birth
carried g c = edge_carried c.args.ledger.now.rules c.args.ledger.now.history c.args.carriers.now c.len-len.ensures.legal c.requires c.args.key c.in_ok-row.row (stands g c)

pub bounds-carriers-row : goal.bounds-carriers-row
bounds-carriers-row g c = let r = carried g c in carried_within c.args.carriers.now c.in_ok-row.row.birth r.q r.there

pub returns-clause-carrier : goal.returns-clause-carrier
returns-clause-carrier g c =
    let r = carried g c in
    ap (λ (q : ℕ). Journal q ∷ []) (carried_index c.args.carriers.now c.in_ok-row.row.birth r.q (get_or c.args.carriers.now c.in_ok-row.row.birth 0) r.there refl) ∙
    (sym (ap (λ (x : Carrier). x ∷ []) r.carried) ∙ sym (ap (carrier_of_edge (state_of c.args.ledger.now)) (stands g c)))

pub returns-clause-inside : goal.returns-clause-inside
returns-clause-inside g c =
    let r = carried g c in
    let is : get_or c.args.carriers.now c.in_ok-row.row.birth 0 ≡ r.q = carried_index c.args.carriers.now c.in_ok-row.row.birth r.q (get_or c.args.carriers.now c.in_ok-row.row.birth 0) r.there refl in
    omega (arith, is, r.below)
