use Rattle.std.proofs.Common.{ℕ, sym, ◌∙◌, subst, arith}
use Rattle.job_table.specs.Spans.{Spans}
use Rattle.job_table.specs.Parts.{logged_of}
use Rattle.job_table.specs.Unput.{is_unput}
use Rattle.job_table.proofs.Listing.{kept_len}
use Rattle.job_table.proofs.SpanWalks.{item_here}
use Rattle.job_table.proofs.Unputs.{FailsBetween, between_more, next_found, unput_after, unput_none, all_put}
use Rattle.job_table.proofs.items.Items.next_unput.Goals as goal

pub returns-then-put-of_job : goal.returns-then-put-of_job
returns-then-put-of_job c =
    all_put c.args.job c.args.from c.args.self.now.list c.put.result c.of_job.result c.put.ensures c.of_job.ensures c.if-put-of_job.true

pub items-init : goal.items-init
items-init c =
    let spans : Spans c.args.self.now.list c.args.job c.span-span.result = subst (λ (n : ℕ). Spans c.args.self.now.list n c.span-span.result) c.job.view_is c.span-span.ensures.spans in
    record {
      low = omega (arith, c.max-i.ensures);
      passed =
          subst (FailsBetween (is_unput c.args.job) c.args.self.now.list c.args.from) (sym c.max-i.ensures)
          (unput_after c.args.self.now.list c.args.job c.span-span.result spans c.args.from);
    }

pub returns-then-is_unput : goal.returns-then-is_unput
returns-then-is_unput c =
    next_found c.args.job c.args.from c.args.self.now.list c.items.i (logged_of c.index.result.now) c.items.invariant.low
    (item_here c.self.inside.items.items c.args.self.now _ c.items.i c.index.result.now c.self.view_is (omega (arith, c.items-test.true, c.span-span.ensures.within.end, kept_len c.self.inside.items.items c.args.self.now _ c.self.view_is)) c.index.ensures)
    (sym c.is_unput.ensures ∙ c.if-is_unput.true) c.items.invariant.passed

pub items-preserved : goal.items-preserved
items-preserved c = record {
  low = omega (arith, c.items.invariant.low);
  passed =
      between_more (is_unput c.args.job) c.args.self.now.list c.args.from c.items.i (logged_of c.index.result.now) c.items.invariant.passed
      (item_here c.self.inside.items.items c.args.self.now _ c.items.i c.index.result.now c.self.view_is (omega (arith, c.items-test.true, c.span-span.ensures.within.end, kept_len c.self.inside.items.items c.args.self.now _ c.self.view_is)) c.index.ensures)
      (sym c.is_unput.ensures ∙ c.if-is_unput.false);
}

pub returns : goal.returns
returns c =
    let spans : Spans c.args.self.now.list c.args.job c.span-span.result = subst (λ (n : ℕ). Spans c.args.self.now.list n c.span-span.result) c.job.view_is c.span-span.ensures.spans in
    unput_none c.args.self.now.list c.args.job c.span-span.result spans c.args.from c.items.i c.items.invariant.passed c.items-test.false
