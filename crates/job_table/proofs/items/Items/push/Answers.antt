use Rattle.std.proofs.Common.{◌≡◌, ◌+◌, ◌++◌, ◌∷◌, [], List, length, map, sym, ap, ◌∙◌, arith}
use Rattle.delf_model.specs.State.{Logged}
use Rattle.delf_model.specs.Step.{unhandled}
use Rattle.std.proofs.lemmas.List.{length-append}
use Rattle.job_table.specs.Parts.{ItemPart, logged_of}
use Rattle.job_table.specs.Tallies.{tally_of}
use Rattle.job_table.proofs.Places.{map_length, map_push}
use Rattle.job_table.specs.Spans.{grown_span}
use Rattle.job_table.proofs.OpenEnds.{pushed_ends, ends_fit}
use Rattle.job_table.proofs.SpansOf.{pushed_spans}
use Rattle.job_table.proofs.Tallying.{tally_with, tally_fits, pushed_items_fit}
use Rattle.job_table.proofs.items.Items.push.Goals as goal

pub with-tally-requires : goal.with-tally-requires
with-tally-requires c =
    let len : length (c.args.self.now.list ++ unhandled c.args.item ∷ []) ≡ length c.args.self.now.list + 1 = simp length-append in
    tally_fits c.job_of-job.result (c.args.self.now.list ++ unhandled c.args.item ∷ []) c.tally.result c.share_of.result (omega (arith, len, c.requires.fits))
    (tally_with c.job_of-job.result c.args.self.now.list (unhandled c.args.item) c.tally.result c.share_of.result c.job_of-job.ensures c.tally.ensures.value c.share_of.ensures)

pub invariant_of-self : goal.invariant_of-self
invariant_of-self c =
    let spare : c.self.inside.spare ≡ c.args.self.now.spare = ap (λ (m : ItemPart). m.spare) c.self.view_is in
    let len : length c.self.inside.items.items ≡ length c.args.self.now.list = sym (map_length logged_of c.self.inside.items.items) ∙ ap (λ (m : ItemPart). length m.list) c.self.view_is in
    let list : c.args.self.now.list ≡ map logged_of c.self.inside.items.items = ap (λ (m : ItemPart). m.list) (sym c.self.view_is) in (
      pushed_items_fit c.self.inside.items.items _ _ _ _ _ _ _ c.self.inside.spare c.job_of-job.result _ c.with-tally.result c.self.invariant.0 c.push_reserved.ensures.items c.job_of-job.ensures
          (c.with-tally.ensures
          ∙ tally_with c.job_of-job.result c.args.self.now.list (unhandled c.args.item) c.tally.result c.share_of.result c.job_of-job.ensures c.tally.ensures.value c.share_of.ensures
          ∙ ap (λ (xs : List Logged). tally_of c.job_of-job.result (xs ++ unhandled c.args.item ∷ [])) list)
          c.keep.ensures.value c.push_reserved.ensures.capacity c.keep.ensures.spare (omega (arith, spare, c.requires.spare)) (omega (arith, len, c.requires.fits)),
      pushed_spans (map logged_of c.self.inside.items.items) (map logged_of c.push_reserved.new.self.items) (unhandled c.args.item) _ _ _ _ c.self.inside.spare c.job_of-job.result c.len.result c.grown-span.result c.self.invariant.1
          (ap (map logged_of) c.push_reserved.ensures.items ∙ map_push logged_of c.self.inside.items.items _) c.job_of-job.ensures (omega (arith, c.len.ensures, map_length logged_of c.self.inside.items.items))
          (c.grown-span.ensures ∙ ap (grown_span c.len.result) c.span_in.ensures) c.keep_span.ensures.value c.keep_span.ensures.spare (omega (arith, spare, c.requires.spare)),
      pushed_ends (map logged_of c.self.inside.items.items) (map logged_of c.push_reserved.new.self.items) c.args.item _ _ _ _ c.self.inside.spare c.self.invariant.2
          (ap (map logged_of) c.push_reserved.ensures.items ∙ map_push logged_of c.self.inside.items.items _) c.open.ensures.count c.open.ensures.spare (omega (arith, spare, c.requires.spare)),
    )

pub open-requires-clause-spare : goal.open-requires-clause-spare
open-requires-clause-spare c =
    let spare : c.self.inside.spare ≡ c.args.self.now.spare = ap (λ (m : ItemPart). m.spare) c.self.view_is in
    omega (arith, spare, c.requires.spare, c.self.invariant.2.ends_spare)

pub open-requires-clause-fits : goal.open-requires-clause-fits
open-requires-clause-fits c =
    ends_fit (map logged_of c.self.inside.items.items) _ _ c.self.inside.spare c.self.invariant.2
    (omega (arith, c.requires.fits, ap (λ (m : ItemPart). length m.list) c.self.view_is))
