use Rattle.std.proofs.Common.{List, ℕ, ◌+◌, length, replicate, ◌∙◌, ap, arith}
use Rattle.delf_disk.specs.Images.{overwritten}
use Rattle.delf_disk.proofs.Laid.{filled, written_back, length-filled, length-padded}
use Rattle.delf_disk.proofs.content.fill.Goals as goal

pub returns-clause-items : goal.returns-clause-items
returns-clause-items c =
    let at = c.args.at in
    let n = c.args.n in
    let byte = c.args.byte in
    let long = c.pad.new.list.items in
    let is = c.fill_inside.ensures ∙ ap (λ (l : List ℕ). overwritten at (replicate n byte) l) c.deref_mut.ensures.value in
    let whole = ap (λ (l : List ℕ). overwritten at (replicate n byte) l) c.pad.ensures.items ∙ filled at n byte c.args.list.now.items in
    let size = ap (λ (l : List ℕ). length l) c.pad.ensures.items in
    written_back c.pad.new.list.len c.fill_inside.new.list long (length-filled at n byte long c.fill_inside.new.list (omega (arith, size, length-padded (at + n) c.args.list.now.items)) is)
    (omega (arith, c.pad.new.list.ok.0)) ∙ is ∙ whole
