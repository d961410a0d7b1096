use Rattle.std.proofs.Common.{◌-◌, sym, ◌∙◌, arith}
use Rattle.job_table.specs.Items.{is_unhandled_of}
use Rattle.job_table.specs.Parts.{logged_of}
use Rattle.job_table.proofs.Listing.{kept_len}
use Rattle.job_table.proofs.SpanWalks.{one_more_below, item_here}
use Rattle.job_table.proofs.items.Items.left_below.Goals as goal

pub items-preserved : goal.items-preserved
items-preserved c = record {
  within = omega (arith, c.items.invariant.within);
  none =
      one_more_below (is_unhandled_of c.args.job) c.args.self.now.list (c.items.i - 1) c.args.from (logged_of c.index.result.now) (λ k x e l m. c.items.invariant.none k x e (omega (arith, l, c.items-test.true)) m)
      (item_here c.self.inside.items.items c.args.self.now _ (c.items.i - 1) c.index.result.now c.self.view_is (omega (arith, c.items.invariant.within, c.items-test.true, c.requires, kept_len c.self.inside.items.items c.args.self.now _ c.self.view_is)) c.index.ensures)
      (sym c.is_unhandled.ensures ∙ c.if-is_unhandled.false);
}
