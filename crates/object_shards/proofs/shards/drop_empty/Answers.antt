use Rattle.std.proofs.lemmas.Bool.Decides.{nat_tests}
use Rattle.std.proofs.Common.{◌≡◌, ◌∙◌, true, List, sym, ap, subst, arith}
use Rattle.object_shards.specs.Shards.{rows_of, stand, start}
use Rattle.object_shards.proofs.Parts.{drop_at, none_of_length}
use Rattle.object_shards.specs.declared.shard.Shard.{Shard}
use Rattle.object_shards.proofs.shards.drop_empty.Goals as goal

pub returns-then-is_empty-clause-stand : goal.returns-then-is_empty-clause-stand
returns-then-is_empty-clause-stand c = let same = c.remove.ensures.items in
    subst (λ (ss : List Shard). stand ss ≡ true) (sym same) (drop_at c.args.shards.now.items c.args.place c.index.result.now c.requires.stand (omega arith) c.requires.within c.index.ensures
    (none_of_length c.index.result.now.rows.items (let is = c.index.result.now.rows.ok.0 in let none = c.is_empty.ensures in let yes = c.if-is_empty.true in grind (arith, nat_tests)))).order

pub returns-then-is_empty-clause-first : goal.returns-then-is_empty-clause-first
returns-then-is_empty-clause-first c = ap start c.remove.ensures.items ∙ (drop_at c.args.shards.now.items c.args.place c.index.result.now c.requires.stand (omega arith) c.requires.within c.index.ensures
    (none_of_length c.index.result.now.rows.items (let is = c.index.result.now.rows.ok.0 in let none = c.is_empty.ensures in let yes = c.if-is_empty.true in grind (arith, nat_tests)))).begins

pub returns-then-is_empty-clause-rows : goal.returns-then-is_empty-clause-rows
returns-then-is_empty-clause-rows c = ap rows_of c.remove.ensures.items ∙ (drop_at c.args.shards.now.items c.args.place c.index.result.now c.requires.stand (omega arith) c.requires.within c.index.ensures
    (none_of_length c.index.result.now.rows.items (let is = c.index.result.now.rows.ok.0 in let none = c.is_empty.ensures in let yes = c.if-is_empty.true in grind (arith, nat_tests)))).rows
