use Rattle.job_table.proofs.Allowed.{weight_fits}
use Rattle.job_table.proofs.table.JobTable.has_room.Goals as goal

pub weight-requires : goal.weight-requires
weight-requires c =
    weight_fits c.args.job c.self.inside.len c.self.inside.owed c.self.inside.items.list c.self.invariant.0.items_len c.self.invariant.0.room
