use Rattle.std.proofs.Common.{◌∙◌, sym, arith}
use Rattle.object_shards.proofs.Moments.{skip_to, skip_due, hit_due, none_left}
use Rattle.object_shards.proofs.shards.due_from.Goals as goal

pub returns-then-place-shards : goal.returns-then-place-shards
returns-then-place-shards c = sym ((c.dues.invariant.same ∙ skip_to c.args.shards.now c.args.moment c.dues.from c.first_due-place.result c.args.after.now
    c.first_due-place.ensures.from c.first_due-place.ensures.within c.first_due-place.ensures.passed) ∙
    none_left c.args.shards.now c.first_due-place.result c.args.moment c.args.after.now (omega arith))

pub returns-in-Some : goal.returns-in-Some
returns-in-Some c = sym ((c.dues.invariant.same ∙ skip_to c.args.shards.now c.args.moment c.dues.from c.first_due-place.result c.args.after.now
    c.first_due-place.ensures.from c.first_due-place.ensures.within c.first_due-place.ensures.passed) ∙
    hit_due c.args.shards.now c.first_due-place.result c.args.moment c.args.after.now c.index-shards-place.result c.in-Some.id (omega arith)
    c.index-shards-place.is (sym c.due.ensures ∙ c.in-Some.is))

pub dues-preserved : goal.dues-preserved
dues-preserved c = record {
  same = (c.dues.invariant.same ∙ skip_to c.args.shards.now c.args.moment c.dues.from c.first_due-place.result c.args.after.now
      c.first_due-place.ensures.from c.first_due-place.ensures.within c.first_due-place.ensures.passed) ∙
      skip_due c.args.shards.now c.first_due-place.result c.args.moment c.args.after.now c.index-shards-place.result (omega arith)
      c.index-shards-place.is (sym c.due.ensures ∙ c.in_default.is);
  within = omega arith;
}

pub returns : goal.returns
returns c = sym (c.dues.invariant.same ∙ none_left c.args.shards.now c.dues.from c.args.moment c.args.after.now (omega arith))
