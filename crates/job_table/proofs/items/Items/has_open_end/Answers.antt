use Rattle.std.proofs.Common.{◌≡◌, ◌∙◌, sym, ap, arith}
use Rattle.std.specs.Prelude.{count_by}
use Rattle.std.proofs.lemmas.Bool.Decides.{nat_tests}
use Rattle.job_table.specs.Ends.{end_key, is_open_end}
use Rattle.job_table.specs.Parts.{ItemPart}
use Rattle.job_table.proofs.OpenEnds.{none_open}
use Rattle.job_table.proofs.items.Items.has_open_end.Goals as goal

pub returns : goal.returns
returns c =
    λ f id.
    let key : c.end_key.result ≡ end_key c.args.job c.args.birth = c.end_key.ensures ∙ ap (λ n. end_key n c.args.birth) c.job.view_is in
    let counted : c.count_of.result ≡ count_by (is_open_end c.end_key.result) c.args.self.now.list =
    c.count_of.ensures ∙ c.self.invariant.2.counts c.end_key.result ∙ ap (λ (m : ItemPart). count_by (is_open_end c.end_key.result) m.list) c.self.view_is in
    none_open c.args.job c.args.birth c.end_key.result key id c.args.self.now.list (let zero : c.count_of.result ≡ 0 = grind (arith, nat_tests, f) in sym counted ∙ zero)
