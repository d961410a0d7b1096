use Rattle.job_table.proofs.OpenEnds.{handled_ends, one_open}
use Rattle.job_table.proofs.SpansOf.{handled_spans}
use Rattle.job_table.proofs.Places.{map_length}
use Rattle.std.proofs.Common.{set, List, Some, ◌≡◌, ◌<◌, length, map, refl, sym, ap, subst, ◌∙◌, arith}
use Rattle.job_table.specs.Parts.{ItemPart, logged_of, handled_of}
use Rattle.delf_model.specs.State.{Logged}
use Rattle.delf_model.specs.Step.{handled_at}
use Rattle.job_table.specs.Spans.{Spans, Within}
use Rattle.job_table.specs.Tallies.{tally_of, tally_sum}
use Rattle.job_table.specs.declared.tallies.Tally.{Tally}
use Rattle.std.proofs.lemmas.List.{length-set}
use Rattle.job_table.proofs.Places.{handle_in, handled_past}
use Rattle.job_table.proofs.Listing.{kept_len}
use Rattle.job_table.proofs.Tallying.{rest_within, handled_tally, handled_within, handled_items_fit}
use Rattle.job_table.proofs.items.Items.handle.Goals as goal

pub returns-then-i-len-clause-list : goal.returns-then-i-len-clause-list
returns-then-i-len-clause-list c =
    handled_past c.args.self.now.list c.args.i (handled_of c.args.how)
    (omega (arith, c.len.ensures, c.if-i-len.true, kept_len c.self.inside.items.items c.args.self.now _ c.self.view_is))

pub without-rest-requires : goal.without-rest-requires
without-rest-requires c =
    let list : c.args.self.now.list ≡ map logged_of c.self.inside.items.items = ap (λ (m : ItemPart). m.list) (sym c.self.view_is) in
    rest_within c.self.inside.items.items c.args.i c.job_of-job.result c.index.result.now c.args.how c.tally.result c.share_of.result c.share_of.result (omega (arith, c.len.ensures, c.if-i-len.false)) c.index.ensures c.job_of-job.ensures
    (c.tally.ensures.value ∙ ap (tally_of c.job_of-job.result) list) c.share_of.ensures

pub with-tally-requires : goal.with-tally-requires
with-tally-requires c =
    let list : c.args.self.now.list ≡ map logged_of c.self.inside.items.items = ap (λ (m : ItemPart). m.list) (sym c.self.view_is) in
    handled_within c.self.inside.items.items c.args.i c.job_of-job.result c.index.result.now c.args.how c.tally.result c.share_of.result c.share_of-2.result (omega (arith, c.len.ensures, c.if-i-len.false)) c.index.ensures c.job_of-job.ensures
    (c.tally.ensures.value ∙ ap (tally_of c.job_of-job.result) list) c.share_of.ensures c.without-rest.result c.without-rest.ensures c.share_of-2.ensures c.self.invariant.0.fits

pub invariant_of-self : goal.invariant_of-self
invariant_of-self c =
    let list : c.args.self.now.list ≡ map logged_of c.self.inside.items.items = ap (λ (m : ItemPart). m.list) (sym c.self.view_is) in
    let spare : c.self.inside.spare ≡ c.args.self.now.spare = ap (λ (m : ItemPart). m.spare) c.self.view_is in
    let below : c.args.i < length c.self.inside.items.items = omega (arith, c.len.ensures, c.if-i-len.false) in (
      handled_items_fit c.self.inside.items.items _ _ _ _ _ _ _ c.self.inside.spare c.job_of-job.result c.args.i c.index.result.now (handled_of c.args.how) c.with-tally.result c.self.invariant.0
          below c.index.ensures (length-set c.self.inside.items.items c.args.i _)
          (handle_in c.self.inside.items.items (record { list = map logged_of c.self.inside.items.items; spare = c.self.inside.spare }) c.self.inside.spare c.args.i c.index.result.now c.args.how refl below c.index.ensures)
          c.job_of-job.ensures
          (c.with-tally.ensures ∙ ap (λ (v : Tally). tally_sum v c.share_of-2.result) c.without-rest.ensures
          ∙ handled_tally c.self.inside.items.items c.args.i c.job_of-job.result c.index.result.now c.args.how c.tally.result c.share_of.result c.share_of-2.result below c.index.ensures c.job_of-job.ensures
          (c.tally.ensures.value ∙ ap (tally_of c.job_of-job.result) list) c.share_of.ensures c.share_of-2.ensures)
          c.keep.ensures.value refl c.keep.ensures.spare (omega (arith, spare, c.requires)),
      handled_spans (map logged_of c.self.inside.items.items) (map logged_of (set c.self.inside.items.items c.args.i (record { item = c.index.result.now.item; handled = Some c.args.how }))) (handled_of c.args.how) _ _ _ _ c.self.inside.spare c.job_of-job.result c.args.i c.span_after-span.result c.self.invariant.1
          (handle_in c.self.inside.items.items (record { list = map logged_of c.self.inside.items.items; spare = c.self.inside.spare }) c.self.inside.spare c.args.i c.index.result.now c.args.how refl below c.index.ensures)
          (omega (arith, below, map_length logged_of c.self.inside.items.items))
          (subst (λ (l : List Logged). Spans (handled_at l c.args.i (handled_of c.args.how)) c.job_of-job.result c.span_after-span.result) list (c.span_after-span.ensures.spans (handled_of c.args.how)))
          (subst (λ (l : List Logged). Within l c.span_after-span.result) list c.span_after-span.ensures.within) c.keep_span.ensures.value c.keep_span.ensures.spare (omega (arith, spare, c.requires)),
      handled_ends c.self.inside.items.items c.args.i c.index.result.now below c.index.ensures _ _ c.self.inside.spare c.self.invariant.2
          (map logged_of (set c.self.inside.items.items c.args.i (record { item = c.index.result.now.item; handled = Some c.args.how }))) (handled_of c.args.how) _ _
          (handle_in c.self.inside.items.items (record { list = map logged_of c.self.inside.items.items; spare = c.self.inside.spare }) c.self.inside.spare c.args.i c.index.result.now c.args.how refl below c.index.ensures)
          c.close.ensures.count c.close.ensures.spare (omega (arith, spare, c.requires)),
    )

pub close-requires-clause-open : goal.close-requires-clause-open
close-requires-clause-open c =
    one_open c.self.inside.items.items c.args.i c.index.result.now (omega (arith, c.len.ensures, c.if-i-len.false)) c.index.ensures _ _ c.self.inside.spare c.self.invariant.2

pub close-requires-clause-spare : goal.close-requires-clause-spare
close-requires-clause-spare c =
    let spare : c.self.inside.spare ≡ c.args.self.now.spare = ap (λ (m : ItemPart). m.spare) c.self.view_is in
    omega (arith, spare, c.requires, c.self.invariant.2.ends_spare)

pub span_after-span-requires-clause-fits : goal.span_after-span-requires-clause-fits
span_after-span-requires-clause-fits c = omega (arith, c.len.ensures, c.if-i-len.false, c.self.invariant.0.fits)

pub span_after-span-requires-clause-within : goal.span_after-span-requires-clause-within
span_after-span-requires-clause-within c = omega (arith, c.len.ensures, c.if-i-len.false, kept_len c.self.inside.items.items c.args.self.now _ c.self.view_is)

pub returns-clause-list : goal.returns-clause-list
returns-clause-list c =
    handle_in c.self.inside.items.items c.args.self.now _ c.args.i c.index.result.now c.args.how c.self.view_is
    (omega (arith, c.len.ensures, c.if-i-len.false)) c.index.ensures
