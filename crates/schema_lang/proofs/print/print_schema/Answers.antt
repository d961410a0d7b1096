use Rattle.std.proofs.Common.{◌≡◌, ℕ, List, sym, subst}
use Rattle.std.proofs.lemmas.Result.{IfOk-weaker}
use Rattle.schema_lang.specs.Spelling.{ReadsAs, spelling}
use Rattle.schema_lang.proofs.RoundTrip.{schema_back}
use Rattle.schema_lang.proofs.print.print_schema.Goals as goal

pub returns-clause-again : goal.returns-clause-again
returns-clause-again c =
    let schema = c.args.schema.now in
    IfOk-weaker c.spell.result (λ (bytes : List ℕ). bytes ≡ spelling schema) (λ (bytes : List ℕ). ReadsAs bytes schema)
    (λ bytes same. subst (λ (text : List ℕ). ReadsAs text schema) (sym same) (schema_back schema c.requires)) c.spell.ensures
