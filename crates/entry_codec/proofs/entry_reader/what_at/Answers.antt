use Rattle.std.proofs.Common.{arith}
use Rattle.entry_codec.proofs.Entries.{what_read}
use Rattle.entry_codec.proofs.entry_reader.what_at.Goals as goal

pub returns-in-1 : goal.returns-in-1
returns-in-1 c = what_read 1 c.args.kind c.args.rest.now c.args.size c.create.result (λ i. omega (arith, c.type_inv.rest i)) (omega arith) c.in-1.is c.create.ensures

pub returns-in-2 : goal.returns-in-2
returns-in-2 c = what_read 2 c.args.kind c.args.rest.now c.args.size c.update.result (λ i. omega (arith, c.type_inv.rest i)) (omega arith) c.in-2.is c.update.ensures

pub returns-in-3 : goal.returns-in-3
returns-in-3 c = what_read 3 c.args.kind c.args.rest.now c.args.size c.link.result (λ i. omega (arith, c.type_inv.rest i)) (omega arith) c.in-3.is c.link.ensures

pub returns-in-10 : goal.returns-in-10
returns-in-10 c = what_read 10 c.args.kind c.args.rest.now c.args.size c.put.result (λ i. omega (arith, c.type_inv.rest i)) (omega arith) c.in-10.is c.put.ensures
