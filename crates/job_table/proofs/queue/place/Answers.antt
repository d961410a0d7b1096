use Rattle.std.proofs.Common.{arith, rules}
use Rattle.std.proofs.lemmas.List.Sorted.{IsPartitionPoint-from_clause}
use Rattle.job_table.specs.Owning.{is_before}
use Rattle.job_table.proofs.Owning.{parted}
use Rattle.job_table.proofs.queue.place.Goals as goal

pub returns-clause-before : goal.returns-clause-before
returns-clause-before c =
    let point = IsPartitionPoint-from_clause (is_before c.args.rank c.args.job) _ _ c.partition_point.ensures.partitioned (parted c.args.rank c.args.job _ c.requires) (λ a r q k. search rules) in
    λ k d h. point.0 k d (omega arith) h

pub returns-clause-after : goal.returns-clause-after
returns-clause-after c =
    let point = IsPartitionPoint-from_clause (is_before c.args.rank c.args.job) _ _ c.partition_point.ensures.partitioned (parted c.args.rank c.args.job _ c.requires) (λ a r q k. search rules) in
    λ k d h n. point.1 k d h n
