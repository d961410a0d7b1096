use Rattle.std.proofs.Common.{◌≡◌, ◌<◌, ◌∙◌, true, false, Some, length, arith, ap, sym, subst}
use Rattle.std.specs.Prelude.{slice_get}
use Rattle.std.proofs.lemmas.Option.{slice_get_read}
use Rattle.std.proofs.lemmas.Bool.{false≢true}
use Rattle.delf_model.specs.RuleSet.{RuleSet}
use Rattle.delf_model.specs.Distances.{unknown_count}
use Rattle.delf_model.proofs.RouteLemmas.{IsWithinRound-end, IsWithinRound-extended, unknown_count-extended}
use Rattle.delf_model.proofs.distances.lengthen.Goals as goal
use Rattle.delf_model.proofs.distances.lengthen.Goals.{then-extend, else-extend}

edge_is : (c : goal.Joined-extend) → slice_get c.args.numbering.now.edges c.loop-row.row ≡ Some c.index.result.now
edge_is c =
    subst (λ xs. slice_get xs c.loop-row.row ≡ Some c.index.result.now) (ap (λ (r : RuleSet). r.edges) c.numbering.view_is)
    (slice_get_read c.numbering.inside.edges.items c.len-row-end.result c.loop-row.row c.index.result.now (omega arith) c.loop-row-test.true c.index.ensures)

fewer : (c : goal.Joined-extend) → c.extend.result ≡ true → unknown_count c.extend.new.distances < unknown_count c.loop-row.distances
fewer c h =
    unknown_count-extended c.args.numbering.now c.args.edges c.loop-row.row c.requires.above c.loop-row.distances c.extend.new.distances
    c.index.result.now c.requires.ends (edge_is c) c.loop-row.invariant.0 (c.extend.ensures.set h)

same : (c : goal.Joined-extend) → c.extend.result ≡ false → unknown_count c.extend.new.distances ≡ unknown_count c.loop-row.distances
same c h = ap unknown_count (c.extend.ensures.kept h)

pub loop-row-preserved : goal.loop-row-preserved
loop-row-preserved c = (
  IsWithinRound-extended c.args.numbering.now c.args.edges c.loop-row.row c.requires.above c.loop-row.distances c.extend.new.distances
      c.index.result.now c.requires.ends (edge_is c) c.loop-row.invariant.0 c.extend.result c.extend.ensures.set c.extend.ensures.kept c.extend.ensures.not,
  elim c.if-extend.branch [
    | then-extend w ↦ omega (arith, fewer c w.if-extend.true, c.loop-row.invariant.1)
    | else-extend w ↦ omega (arith, same c w.if-extend.false, c.loop-row.invariant.1)
  ],
  elim c.if-extend.branch [
    | then-extend w ↦ λ h. omega (arith, fewer c w.if-extend.true, c.loop-row.invariant.1)
    | else-extend w ↦ λ h. omega (arith, same c w.if-extend.false, c.loop-row.invariant.2 (sym w.more-is ∙ h))
  ],
  elim c.if-extend.branch [
    | then-extend w ↦ λ h. absurd (false≢true (sym h ∙ w.more-is))
    | else-extend w ↦ λ h. c.extend.ensures.kept w.if-extend.false ∙ c.loop-row.invariant.3 (sym w.more-is ∙ h)
  ],
)

pub returns-clause-found : goal.returns-clause-found
returns-clause-found c =
    let len : length c.numbering.inside.edges.items ≡ length c.args.numbering.now.edges = ap (λ (r : RuleSet). length r.edges) c.numbering.view_is in
    IsWithinRound-end c.args.numbering.now c.args.edges c.loop-row.row c.loop-row.distances c.requires.above (omega arith) c.loop-row.invariant.0
