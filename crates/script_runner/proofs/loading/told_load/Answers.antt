use Rattle.std.proofs.Common.{◌≡◌, length, sym, ap, ◌∙◌, arith}
use Rattle.std.proofs.lemmas.Result.{IfOk-weaker}
use Rattle.documents.specs.Loads.{restored_count}
use Rattle.ledger.proofs.Entering.{len_after}
use Rattle.delf_book.specs.Books.{state_in}
use Rattle.script_runner.proofs.Told.{load_told}
use Rattle.script_runner.proofs.loading.told_load.Goals as goal

pub returns : goal.returns
returns g c =
    let objects : c.len.result ≡ length c.in_ok-objects.objects.items = omega arith in
    let edges : c.len-2.result ≡ length c.in_ok-edges.edges.items = omega arith in
    IfOk-weaker c.load_line.result _ _ (λ text said. load_told c.args.n (state_in c.args.book.now) c.in_ok-objects.objects.items c.in_ok-edges.edges.items
    c.in_ok-jobs.jobs c.len.result c.len-2.result c.len-3.result c.len-4.result c.restored_count.result text c.in_ok-objects.ensures.rows c.in_ok-edges.ensures.rows c.in_ok-jobs.ensures.lines
    objects edges (c.len-3.ensures.value ∙ sym (len_after c.args.book.now.rules c.args.book.now.history)) (omega arith)
    (c.restored_count.ensures ∙ ap restored_count c.as_slice.ensures) said) c.load_line.ensures
