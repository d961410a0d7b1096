use Rattle.std.proofs.Common.{ℕ, List, length, sym, ◌∙◌, ap, subst, arith, rules}
use Rattle.schema_lang.specs.Words.{words, StartsWord}
use Rattle.schema_lang.proofs.WordLemmas.{words-without_blanks, StartsWord-without_blanks, front_none, front_step, front_all}
use Rattle.schema_lang.proofs.line.read_words.Goals as goal

pub loop-rest-init : goal.loop-rest-init
loop-rest-init c =
    let front = c.skip_blanks-rest.ensures.value in
    record {
      same = front_none c.new-found.result _ c.new-found.ensures ∙ ap words front ∙ words-without_blanks c.args.line.now;
      starts = λ some. subst (λ (t : List ℕ). StartsWord t) (sym front) (StartsWord-without_blanks c.args.line.now (omega (arith, ap length front)));
    }

pub loop-rest-preserved : goal.loop-rest-preserved
loop-rest-preserved c =
    let front = c.skip_blanks-rest-in-loop-rest.ensures.value in
    record {
      same = front_step c.loop-rest.found c.in-Some.word _ c.args.line.now c.loop-rest.rest.now c.in-Some.after.now _ c.in_ok-push.ensures.ok (rw c.in-Some.is at c.in_ok-word.ensures.words) front c.loop-rest.invariant.same;
      starts = λ some. subst (λ (t : List ℕ). StartsWord t) (sym front) (StartsWord-without_blanks c.in-Some.after.now (omega (arith, ap length front)));
    }

pub returns : goal.returns
returns c = sym (front_all c.loop-rest.found c.loop-rest.rest.now (search rules)) ∙ c.loop-rest.invariant.same
