use Rattle.std.proofs.Common.{arith}
use Rattle.entry_codec.proofs.Entries.{no_moment, no_kind, no_what, entry_found}
use Rattle.entry_codec.proofs.entry_reader.entry_at.Goals as goal

pub returns-in_err-moment : goal.returns-in_err-moment
returns-in_err-moment c = rw c.from_residual.ensures (no_moment c.args.head.now c.args.size (c.in_err-moment.ensures))

pub returns-in_err-kind : goal.returns-in_err-kind
returns-in_err-kind c = rw c.from_residual-in_err-kind.ensures (no_kind c.args.head.now c.args.size c.in_ok-moment.moment c.in_ok-moment.rest.now c.in_ok-moment.ensures (c.in_err-kind.ensures))

pub returns-in_err-what : goal.returns-in_err-what
returns-in_err-what c = rw c.from_residual-in_err-what.ensures (no_what c.args.head.now c.args.size c.in_ok-moment.moment c.in_ok-moment.rest.now c.in_ok-kind.kind c.in_ok-kind.rest.now c.in_ok-moment.ensures c.in_ok-kind.ensures (c.in_err-what.ensures))

pub returns : goal.returns
returns c = entry_found c.args.head.now c.args.size c.in_ok-moment.moment c.in_ok-moment.rest.now c.in_ok-kind.kind c.in_ok-kind.rest.now c.in_ok-what.what (λ i. omega (arith, c.type_inv.head i)) c.in_ok-moment.ensures c.in_ok-kind.ensures c.in_ok-what.ensures
