use Rattle.std.proofs.Common.{arith}
use Rattle.entry_codec.proofs.Items.{row_read}
use Rattle.entry_codec.proofs.item_reader.row_at.Goals as goal

pub returns-in-1 : goal.returns-in-1
returns-in-1 c = row_read 1 c.args.kind c.args.rest.now c.args.size c.object.result (λ i. omega (arith, c.type_inv.rest i)) (omega arith) c.in-1.is c.object.ensures

pub returns-in-2 : goal.returns-in-2
returns-in-2 c = row_read 2 c.args.kind c.args.rest.now c.args.size c.edge.result (λ i. omega (arith, c.type_inv.rest i)) (omega arith) c.in-2.is c.edge.ensures
