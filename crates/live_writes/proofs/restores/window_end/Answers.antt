use Rattle.std.proofs.Common.{arith}
use Rattle.live_writes.proofs.Lasts.{last_of_table}
use Rattle.live_writes.proofs.restores.window_end.Goals as goal

pub overflow_add-result : goal.overflow_add-result
overflow_add-result c =
    let last = last_of_table c.args.jobs.now c.args.rules.now c.args.job c.last_erasure.result c.requires c.last_erasure.ensures in
    omega arith
