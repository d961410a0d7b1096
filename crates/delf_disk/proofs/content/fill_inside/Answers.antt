use Rattle.std.proofs.Common.{◌≡◌, ◌+◌, ◌-◌, length, take, drop, replicate, ◌∙◌, ap, arith, length-take, length-drop}
use Rattle.delf_disk.proofs.Laid.{filled_part}
use Rattle.delf_disk.proofs.content.fill_inside.Goals as goal

pub returns : goal.returns
returns c =
    let back = drop c.args.at c.args.list.now in
    let size : length (take (c.args.at + c.args.n - c.args.at) back) ≡ c.args.n =
    omega (arith, length-take (c.args.at + c.args.n - c.args.at) back, length-drop c.args.at c.args.list.now, c.requires) in
    filled_part c.args.at c.args.n c.args.byte c.args.list.now c.fill.new.self c.requires
    (c.fill.ensures.after (λ y same. same) ∙ ap (λ k. replicate k c.args.byte) size)
