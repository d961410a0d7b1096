use Rattle.std.proofs.Common.{arith, rules}
use Rattle.std.proofs.lemmas.List.Sorted.{IsPartitionPoint-from_clause}
use Rattle.job_table.specs.Parts.{starts_before}
use Rattle.job_table.proofs.Rising.{starts_parted}
use Rattle.job_table.proofs.jobs.place_from.Goals as goal

pub returns-clause-before : goal.returns-clause-before
returns-clause-before c =
    let point = IsPartitionPoint-from_clause (starts_before c.args.job) _ _ c.partition_point.ensures.partitioned (starts_parted 4294967296 c.args.job _ c.requires) (λ a r q k. search rules) in
    λ k d h. point.0 k d (omega arith) h

pub returns-clause-after : goal.returns-clause-after
returns-clause-after c =
    let point = IsPartitionPoint-from_clause (starts_before c.args.job) _ _ c.partition_point.ensures.partitioned (starts_parted 4294967296 c.args.job _ c.requires) (λ a r q k. search rules) in
    λ k d h n. point.1 k d h n
