use Rattle.std.proofs.Common.{arith}
use Rattle.entry_codec.proofs.Entries.{bare_read}
use Rattle.entry_codec.proofs.entry_reader.bare_what.Goals as goal

pub returns-in-4 : goal.returns-in-4
returns-in-4 c = bare_read 4 c.args.kind c.args.rest.now c.args.size c.unlink.result (λ i. omega (arith, c.type_inv.rest i)) (omega arith) c.in-4.is c.unlink.ensures

pub returns-in-5 : goal.returns-in-5
returns-in-5 c = bare_read 5 c.args.kind c.args.rest.now c.args.size c.delete.result (λ i. omega (arith, c.type_inv.rest i)) (omega arith) c.in-5.is c.delete.ensures

pub returns-in-6 : goal.returns-in-6
returns-in-6 c = bare_read 6 c.args.kind c.args.rest.now c.args.size c.restore.result (λ i. omega (arith, c.type_inv.rest i)) (omega arith) c.in-6.is c.restore.ensures

pub returns-in-7 : goal.returns-in-7
returns-in-7 c = bare_read 7 c.args.kind c.args.rest.now c.args.size c.expire.result (λ i. omega (arith, c.type_inv.rest i)) (omega arith) c.in-7.is c.expire.ensures

pub returns-in-8 : goal.returns-in-8
returns-in-8 c = bare_read 8 c.args.kind c.args.rest.now c.args.size c.cut.result (λ i. omega (arith, c.type_inv.rest i)) (omega arith) c.in-8.is c.cut.ensures

pub returns-in-9 : goal.returns-in-9
returns-in-9 c = bare_read 9 c.args.kind c.args.rest.now c.args.size c.erase.result (λ i. omega (arith, c.type_inv.rest i)) (omega arith) c.in-9.is c.erase.ensures

pub returns-in-11 : goal.returns-in-11
returns-in-11 c = bare_read 11 c.args.kind c.args.rest.now c.args.size c.purge.result (λ i. omega (arith, c.type_inv.rest i)) (omega arith) c.in-11.is c.purge.ensures
