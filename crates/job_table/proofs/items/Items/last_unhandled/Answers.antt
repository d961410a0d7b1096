use Rattle.std.proofs.Common.{ℕ, ◌-◌, sym, ◌∙◌, subst, arith}
use Rattle.job_table.specs.Items.{is_unhandled_of}
use Rattle.job_table.specs.Spans.{Spans}
use Rattle.job_table.specs.Parts.{logged_of}
use Rattle.job_table.proofs.Listing.{kept_len}
use Rattle.job_table.proofs.SpanWalks.{one_more, found_last, found_none, not_before, item_here}
use Rattle.job_table.proofs.items.Items.last_unhandled.Goals as goal

pub returns-then-is_unhandled : goal.returns-then-is_unhandled
returns-then-is_unhandled c =
    found_last (is_unhandled_of c.args.job) c.args.self.now.list (c.items.i - 1) (logged_of c.index.result.now)
    (item_here c.self.inside.items.items c.args.self.now _ (c.items.i - 1) c.index.result.now c.self.view_is (omega (arith, c.items.invariant.within, c.items-test.true, kept_len c.self.inside.items.items c.args.self.now _ c.self.view_is)) c.index.ensures)
    (sym c.is_unhandled.ensures ∙ c.if-is_unhandled.true) (λ k x e l. c.items.invariant.later k x e (omega (arith, l)))

pub items-preserved : goal.items-preserved
items-preserved c = record {
  within = omega (arith, c.items.invariant.within);
  later =
      one_more (is_unhandled_of c.args.job) c.args.self.now.list (c.items.i - 1) (logged_of c.index.result.now) (λ k x e l. c.items.invariant.later k x e (omega (arith, l)))
      (item_here c.self.inside.items.items c.args.self.now _ (c.items.i - 1) c.index.result.now c.self.view_is (omega (arith, c.items.invariant.within, c.items-test.true, kept_len c.self.inside.items.items c.args.self.now _ c.self.view_is)) c.index.ensures)
      (sym c.is_unhandled.ensures ∙ c.if-is_unhandled.false);
}

pub returns : goal.returns
returns c =
    let spans : Spans c.args.self.now.list c.args.job c.span-span.result = subst (λ (n : ℕ). Spans c.args.self.now.list n c.span-span.result) c.job.view_is c.span-span.ensures.spans in
    found_none (is_unhandled_of c.args.job) c.args.self.now.list c.items.i c.span-span.result.first c.items.invariant.later (not_before c.args.self.now.list c.args.job c.span-span.result spans) (omega arith)
