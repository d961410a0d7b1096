use Rattle.std.proofs.Common.{ℕ, Some, Option, sym, ap, ◌∙◌}
use Rattle.std.proofs.lemmas.Result.{IfOk-weaker}
use Rattle.delf_model.specs.declared.rows.ObjectRow.{ObjectRow}
use Rattle.delf_book.specs.Books.{state_in}
use Rattle.script_runner.specs.Serial.{row_found}
use Rattle.script_runner.specs.Worlds.{world_of}
use Rattle.script_runner.proofs.Finds.{found_id, found_as}
use Rattle.script_runner.proofs.shows.found.Goals as goal

pub found_row-requires-clause-there : goal.found_row-requires-clause-there
found_row-requires-clause-there g c = found_id (state_in c.args.book.now).graph c.args.id c.in-Some.row (sym c.in-Some.ensures.row)

pub returns-in-Some-clause-text : goal.returns-in-Some-clause-text
returns-in-Some-clause-text g c = IfOk-weaker c.found_row.result _ _ (λ text tells plain clock e rests.
    tells plain clock e rests
    ∙ ap (λ (n : ℕ). row_found c.args.schema.now (world_of c.args.book.now clock e) n (Some c.in-Some.row)) (found_as (state_in c.args.book.now).graph c.args.id c.in-Some.row (sym c.in-Some.ensures.row))
    ∙ ap (λ (o : Option ObjectRow). row_found c.args.schema.now (world_of c.args.book.now clock e) c.args.id o) c.in-Some.ensures.row) c.found_row.ensures.text
