use Rattle.std.proofs.Common.{length, arith, rules}
use Rattle.std.proofs.lemmas.List.{take_rest, drop_all}
use Rattle.schema_lang.proofs.LineLemmas.{lines_cut, lines_rest}
use Rattle.schema_lang.proofs.line.split_line.Goals as goal

pub returns-then-byte-eq10-clause-lines : goal.returns-then-byte-eq10-clause-lines
returns-then-byte-eq10-clause-lines c =
    rw (c.without_return.ensures, take_rest) (lines_cut c.args.bytes.now c.loop-place.place (omega arith) (search (rules, c.if-byte-eq10.true)) c.loop-place.invariant)

pub returns-clause-lines : goal.returns-clause-lines
returns-clause-lines c =
    rw (take_rest, drop_all (length c.args.bytes.now) c.args.bytes.now (omega arith)) (lines_rest c.args.bytes.now (search rules) (λ k within. c.loop-place.invariant k (omega arith)))
