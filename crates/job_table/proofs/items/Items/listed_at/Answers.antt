use Rattle.delf_model.specs.declared.call.Listed.{Listed}
use Rattle.job_table.specs.Spans.{Spans}
use Rattle.job_table.proofs.SpanWalks.{listed_within, listed_end}
use Rattle.std.proofs.Common.{List, refl, subst, ◌∙◌, sym, ap, arith, take, ℕ, ◌-◌}
use Rattle.std.specs.Prelude.{nat_eq, slice_get, is_some}
use Rattle.delf_model.specs.Report.{listed_from}
use Rattle.job_table.proofs.Lookups.{both}
use Rattle.job_table.proofs.Steps.{eqb_is}
use Rattle.job_table.proofs.Listing.{listed_step, found_first, found_later}
use Rattle.job_table.proofs.items.Items.listed_at.Goals as goal

pub returns-then-is_asked : goal.returns-then-is_asked
returns-then-is_asked c =
    let parts = both (is_some c.listing-found.result) (nat_eq c.loop-i.left 0) (sym c.is_asked.ensures ∙ c.if-is_asked.true) in
    found_first c.listing-found.result (listed_from c.args.job 0 (take (c.loop-i.i - 1) c.args.self.now.list)) c.loop-i.left (slice_get (listed_from c.args.job 0 c.args.self.now.list) c.args.place)
    (listed_step c.self.inside.items.items c.args.self.now _ c.args.job c.loop-i.i c.loop-i.left c.index.result.now c.listing-found.result _
    c.self.view_is (omega (arith, c.loop-i-test.true)) c.loop-i.invariant.within c.index.ensures c.listing-found.ensures c.loop-i.invariant.rest)
    parts.0 (eqb_is c.loop-i.left 0 parts.1)

pub loop-i-preserved : goal.loop-i-preserved
loop-i-preserved c = record {
  within = omega (arith, c.loop-i.invariant.within);
  rest =
      ap (λ (k : ℕ). slice_get (listed_from c.args.job 0 (take (c.loop-i.i - 1) c.args.self.now.list)) k) c.passed-left.ensures
      ∙ found_later c.listing-found.result (listed_from c.args.job 0 (take (c.loop-i.i - 1) c.args.self.now.list)) c.loop-i.left (slice_get (listed_from c.args.job 0 c.args.self.now.list) c.args.place)
      (listed_step c.self.inside.items.items c.args.self.now _ c.args.job c.loop-i.i c.loop-i.left c.index.result.now c.listing-found.result _
      c.self.view_is (omega (arith, c.loop-i-test.true)) c.loop-i.invariant.within c.index.ensures c.listing-found.ensures c.loop-i.invariant.rest)
      (sym c.is_asked.ensures ∙ c.if-is_asked.false);
}

pub loop-i-init : goal.loop-i-init
loop-i-init c =
    let spans : Spans c.args.self.now.list c.args.job c.span-span.result = subst (λ (n : ℕ). Spans c.args.self.now.list n c.span-span.result) c.job.view_is c.span-span.ensures.spans in
    record {
      within = omega (arith, c.span-span.ensures.within.end);
      rest = ap (λ (l : List Listed). slice_get l c.args.place) (listed_within c.args.self.now.list c.args.job c.span-span.result spans c.span-span.result.end refl);
    }

pub returns : goal.returns
returns c =
    let spans : Spans c.args.self.now.list c.args.job c.span-span.result = subst (λ (n : ℕ). Spans c.args.self.now.list n c.span-span.result) c.job.view_is c.span-span.ensures.spans in
    ap (λ (l : List Listed). slice_get l c.loop-i.left) (sym (listed_end c.args.self.now.list c.args.job c.span-span.result spans c.loop-i.i (omega arith))) ∙ c.loop-i.invariant.rest
