use Rattle.std.proofs.Common.{◌-◌, length, refl, arith}
use Rattle.std.specs.Int.{w64, to_be_bytes}
use Rattle.entry_codec.proofs.Writing.{take-written}
use Rattle.entry_codec.proofs.field_writer.put_long.Goals as goal

pub returns-clause-bytes : goal.returns-clause-bytes
returns-clause-bytes c = take-written c.args.at (length c.args.out.now - c.args.at) 8 c.args.out.now c.write_u64.new.buf (to_be_bytes w64 c.args.number) _ (omega arith) refl c.write_u64.ensures
