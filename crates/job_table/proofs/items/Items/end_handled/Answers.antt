use Rattle.std.proofs.Common.{ℕ, ◌-◌, not, sym, ap, ◌∙◌, subst, arith}
use Rattle.delf_model.specs.Legal.{is_handled_end}
use Rattle.job_table.specs.Spans.{Spans}
use Rattle.job_table.specs.Parts.{logged_of}
use Rattle.job_table.proofs.Listing.{kept_len}
use Rattle.job_table.proofs.SpanWalks.{one_more, one_left, all_handled, ends_before, item_here}
use Rattle.job_table.proofs.items.Items.end_handled.Goals as goal

pub returns-then-not-is_handled_end : goal.returns-then-not-is_handled_end
returns-then-not-is_handled_end c =
    one_left (is_handled_end c.args.job c.args.id c.args.birth) c.args.self.now.list (c.items.i - 1) (logged_of c.index.result.now)
    (item_here c.self.inside.items.items c.args.self.now _ (c.items.i - 1) c.index.result.now c.self.view_is (omega (arith, c.items.invariant.within, c.items-test.true, kept_len c.self.inside.items.items c.args.self.now _ c.self.view_is)) c.index.ensures)
    (sym c.is_handled_end.ensures ∙ c.if-not-is_handled_end.true)

pub items-preserved : goal.items-preserved
items-preserved c = record {
  within = omega (arith, c.items.invariant.within);
  later =
      one_more (λ x. not (is_handled_end c.args.job c.args.id c.args.birth x)) c.args.self.now.list (c.items.i - 1) (logged_of c.index.result.now) (λ k x e l. c.items.invariant.later k x e (omega (arith, l)))
      (item_here c.self.inside.items.items c.args.self.now _ (c.items.i - 1) c.index.result.now c.self.view_is (omega (arith, c.items.invariant.within, c.items-test.true, kept_len c.self.inside.items.items c.args.self.now _ c.self.view_is)) c.index.ensures)
      (ap not (sym c.is_handled_end.ensures ∙ c.if-not-is_handled_end.false));
}

pub returns : goal.returns
returns c =
    let spans : Spans c.args.self.now.list c.args.job c.span-span.result = subst (λ (n : ℕ). Spans c.args.self.now.list n c.span-span.result) c.job.view_is c.span-span.ensures.spans in
    all_handled (is_handled_end c.args.job c.args.id c.args.birth) c.args.self.now.list c.items.i c.span-span.result.first c.items.invariant.later
    (ends_before c.args.self.now.list c.args.job c.span-span.result spans c.args.id c.args.birth) (omega arith)

pub returns-then-not-has_open_end : goal.returns-then-not-has_open_end
returns-then-not-has_open_end c = sym (c.has_open_end.ensures c.if-not-has_open_end.true c.args.id)
