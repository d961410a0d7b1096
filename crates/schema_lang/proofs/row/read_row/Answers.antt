use Rattle.std.proofs.Common.{map, ap, arith}
use Rattle.std.proofs.lemmas.List.{length-map}
use Rattle.schema_lang.specs.Rows.{word_text}
use Rattle.schema_lang.specs.Grammar.{at_line}
use Rattle.schema_lang.proofs.RowLemmas.{row_of_misfit}
use Rattle.schema_lang.proofs.row.read_row.Goals as goal

pub returns-in-empty : goal.returns-in-empty
returns-in-empty c =
    let l = length-map c.args.words.now word_text in
    rw c.malformed.ensures (ap (at_line c.args.line) (row_of_misfit c.args.line (map word_text c.args.words.now) (omega arith) (omega arith) (omega arith) (omega arith)))

pub returns-in-len2 : goal.returns-in-len2
returns-in-len2 c =
    let l = length-map c.args.words.now word_text in
    rw c.malformed-in-len2.ensures (ap (at_line c.args.line) (row_of_misfit c.args.line (map word_text c.args.words.now) (omega arith) (omega arith) (omega arith) (omega arith)))

pub returns-in-len6-up : goal.returns-in-len6-up
returns-in-len6-up c =
    let l = length-map c.args.words.now word_text in
    rw c.malformed-in-len6-up.ensures (ap (at_line c.args.line) (row_of_misfit c.args.line (map word_text c.args.words.now) (omega arith) (omega arith) (omega arith) (omega arith)))
