use Rattle.std.proofs.Common.{◌≡◌, ◌≤◌, ◌∙◌, ◌+◌, ◌++◌, List, Option, ℕ, length, take, drop, arith, ap, refl, subst, sym}
use Rattle.std.proofs.lemmas.List.{length-map}
use Rattle.std.proofs.lemmas.Grind.{common_steps}
use Rattle.delf_model.specs.Distances.{AreDistances, AreDistancesBelow, unknown_count}
use Rattle.delf_model.proofs.RouteLemmas.{AreDistancesBelow-start, AreDistances-from_rounds, unknown_count-le-length}
use Rattle.delf_model.proofs.distances.distances.Goals as goal

pub loop-edges-init : goal.loop-edges-init
loop-edges-init c =
    let few : unknown_count c.in_ok-distances.distances.items ≤ length c.in_ok-distances.distances.items = unknown_count-le-length c.in_ok-distances.distances.items in
    let len : length c.in_ok-distances.distances.items ≡ length c.args.numbering.now.objects = simp length-map at (ap length c.in_ok-distances.ensures) in
    (omega arith, omega arith, AreDistancesBelow-start c.args.numbering.now c.in_ok-distances.distances.items c.in_ok-distances.ensures)

all_again : (xs : List (Option ℕ)) → xs ≡ take (length xs) (xs ++ drop (length xs) xs)
all_again xs = grind (arith, common_steps)

refilled : (n : ℕ) (ws xs : List (Option ℕ)) → n ≡ length xs → ws ≡ xs → xs ≡ take n (ws ++ drop (length ws) xs)
refilled n ws xs len e =
    subst (λ ys. xs ≡ take n (ys ++ drop (length ys) xs)) (sym e)
    (subst (λ m. xs ≡ take m (xs ++ drop (length xs) xs)) (sym len) (all_again xs))

pub returns : goal.returns
returns c =
    let before : List (Option ℕ) = c.loop-edges.distances.items in
    let same : c.lengthen.new.distances ≡ before = c.loop-edges-test.ensures.none refl ∙ c.deref_mut.ensures.value in
    let more : AreDistancesBelow c.args.numbering.now (c.loop-edges.edges + 1) before = subst (λ d. AreDistancesBelow c.args.numbering.now (c.loop-edges.edges + 1) d) same c.loop-edges-test.ensures.found in
    let all : AreDistances c.args.numbering.now before = AreDistances-from_rounds c.args.numbering.now c.loop-edges.edges before c.loop-edges.invariant.2 more c.loop-edges.invariant.0 in
    subst (λ d. AreDistances c.args.numbering.now d) (refilled c.loop-edges.distances.len c.lengthen.new.distances before (omega arith) same) all
