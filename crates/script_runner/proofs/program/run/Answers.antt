use Rattle.std.proofs.Common.{subst, sym}
use Rattle.std.specs.Prelude.{IfSome, IsSomeAnd}
use denote.Param.Send.{Quiet-if}
use mir.Syntax.{of_param}
use Rattle.script_runner.specs.Blocks.{MayRun, RunsInto}
use Rattle.script_runner.proofs.program.run.Goals as goal

pub run_words-requires : goal.run_words-requires
run_words-requires g c = record {
  may = λ store lanes workers turns served may p is. (
    (search, search, record { owned = search; leaving = λ k. Quiet-if (k (of_param 1)) _ _ (λ x w. tt) (λ x w. tt) }),
    subst (λ slot. IsSomeAnd slot (λ it. MayRun it.book.rules workers lanes.now)) (sym is) may,
  );
  does = λ store lanes workers turns outs left served may ran.
      subst (λ slot. IsSomeAnd slot (RunsInto g.R.Disk (λ it. it.book) (λ it. it.clock) (λ v. v.items) store lanes.now outs)) ran.3
      (subst (λ slot. IfSome slot (λ first. IsSomeAnd ran.1.now (RunsInto g.R.Disk (λ it. it.book) (λ it. it.clock) (λ v. v.items) first lanes.now outs))) ran.2 (search (ran.4.0, ran.4.1)));
}
