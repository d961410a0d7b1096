use Rattle.std.proofs.Common.{arith}
use Rattle.entry_codec.proofs.Items.{no_kind, item_read}
use Rattle.entry_codec.proofs.item_reader.item_at.Goals as goal

pub returns-in_err-kind : goal.returns-in_err-kind
returns-in_err-kind c = rw c.from_residual.ensures (no_kind c.args.head.now c.args.size c.in_err-kind.ensures)

pub returns : goal.returns
returns c = item_read c.args.head.now c.args.size c.in_ok-kind.kind c.in_ok-kind.rest.now c.row_at.result (λ i. omega (arith, c.type_inv.head i)) c.in_ok-kind.ensures c.row_at.ensures
