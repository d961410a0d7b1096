use Rattle.std.proofs.Common.{List, ◌∙◌, ap}
use Rattle.object_shards.specs.Table.{Entry, found}
use Rattle.object_shards.proofs.ById.{sorted_is, entries_copied}
use Rattle.object_shards.proofs.table.sorted_copy.Goals as goal

pub returns : goal.returns
returns c =
    let same = entries_copied _ _ c.args.entries.now.entries c.in_ok-copy.copy.entries c.in_ok-copy.ensures.cases (λ x y h. h) (λ x y h. h) in
    sorted_is c.args.entries.now.entries c.sort_keys.new.self.entries c.in_ok-sort_keys.ensures.sorted c.in_ok-sort_keys.ensures.unique
    (λ q. c.in_ok-sort_keys.ensures.reordered.2 q ∙ ap (λ (es : List Entry). found es q) same)
