use Rattle.std.proofs.Common.{List, refl, subst, ◌∙◌, sym, ap, arith, take, ℕ, ◌-◌, length}
use Rattle.std.specs.Prelude.{slice_get, nat_lt}
use Rattle.delf_model.specs.declared.call.Listed.{Listed}
use Rattle.delf_model.specs.Report.{listed_from}
use Rattle.job_table.specs.Spans.{Spans}
use Rattle.job_table.proofs.SpanWalks.{listed_upto, listed_end, lesser_within}
use Rattle.job_table.proofs.Listing.{listed_step, found_first, found_not}
use Rattle.job_table.proofs.items.Items.listed_before.Goals as goal

pub returns-then-is_some : goal.returns-then-is_some
returns-then-is_some c =
    found_first c.listing-found.result (listed_from c.args.job 0 (take (c.items.i - 1) c.args.self.now.list)) 0 (slice_get (listed_from c.args.job 0 (take c.args.below c.args.self.now.list)) 0)
    (listed_step c.self.inside.items.items c.args.self.now _ c.args.job c.items.i 0 c.index.result.now c.listing-found.result _
    c.self.view_is (omega (arith, c.items-test.true)) c.items.invariant.within c.index.ensures c.listing-found.ensures c.items.invariant.rest)
    (sym c.is_some.ensures ∙ c.if-is_some.true) refl

pub items-preserved : goal.items-preserved
items-preserved c = record {
  within = omega (arith, c.items.invariant.within);
  rest =
      found_not c.listing-found.result (listed_from c.args.job 0 (take (c.items.i - 1) c.args.self.now.list)) 0 (slice_get (listed_from c.args.job 0 (take c.args.below c.args.self.now.list)) 0)
      (listed_step c.self.inside.items.items c.args.self.now _ c.args.job c.items.i 0 c.index.result.now c.listing-found.result _
      c.self.view_is (omega (arith, c.items-test.true)) c.items.invariant.within c.index.ensures c.listing-found.ensures c.items.invariant.rest)
      (sym c.is_some.ensures ∙ c.if-is_some.false);
}

pub items-init : goal.items-init
items-init c =
    let spans : Spans c.args.self.now.list c.args.job c.span-span.result = subst (λ (n : ℕ). Spans c.args.self.now.list n c.span-span.result) c.job.view_is c.span-span.ensures.spans in
    record {
      within = lesser_within (nat_lt c.args.below c.span-span.result.end) c.args.below c.span-span.result.end c.lesser-i.result (length c.args.self.now.list) refl c.lesser-i.ensures c.span-span.ensures.within.end;
      rest = ap (λ (l : List Listed). slice_get l 0) (listed_upto c.args.self.now.list c.args.job c.span-span.result spans c.args.below c.lesser-i.result c.lesser-i.ensures);
    }

pub returns : goal.returns
returns c =
    let spans : Spans c.args.self.now.list c.args.job c.span-span.result = subst (λ (n : ℕ). Spans c.args.self.now.list n c.span-span.result) c.job.view_is c.span-span.ensures.spans in
    ap (λ (l : List Listed). slice_get l 0) (sym (listed_end c.args.self.now.list c.args.job c.span-span.result spans c.items.i (omega arith))) ∙ c.items.invariant.rest
