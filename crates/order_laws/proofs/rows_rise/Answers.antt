use Rattle.order_laws.proofs.Ordered.{objects_rise_after}
use Rattle.order_laws.proofs.rows_rise.Goals as goal

pub returns : goal.returns
returns c = objects_rise_after
