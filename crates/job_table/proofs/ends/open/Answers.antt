use Rattle.std.specs.Prelude.{nat_eq}
use Rattle.std.specs.HashMap.{get}
use Rattle.job_table.proofs.OpenEnds.{counted_more}
use Rattle.job_table.proofs.ends.open.Goals as goal

pub returns-in-Some-clause-count : goal.returns-in-Some-clause-count
returns-in-Some-clause-count c =
    λ q. counted_more c.in-Some.key c.count_of-count.result (get nat_eq c.args.ends.now) (get nat_eq c.set.new.ends) _ c.in-Some.ensures c.count_of-count.ensures c.set.ensures.value q
