-- The lines of a script, one after the other.
use Rattle.std.proofs.Common.{◌≡◌, ℕ, Bool, Result, Ok, List, [], ◌∷◌, refl, sym, ap, ◌∙◌}
use Rattle.delf_model.specs.declared.script.Command.{Command}
use Rattle.delf_model.specs.declared.schema.Schema.{Schema}
use Rattle.schema_lang.specs.Words.{line_of}
use Rattle.schema_lang.specs.Grammar.{line_after}
use Rattle.script_lang.specs.declared.fault.DocumentFault.{DocumentFault}
use Rattle.script_lang.specs.declared.fault.DocumentFault.TheVariants.{Bad, OutOfMemory}
use Rattle.script_lang.specs.declared.place.Reading.{Reading}
use Rattle.script_lang.specs.Scripts.{Fault, behind_line, at_the_end, script_from, ◌>>=◌}
use Rattle.script_lang.specs.Documents.{Tells}

script_from_line : (schema : Schema) (blocks : Bool) (line : List ℕ) (rest : List (List ℕ)) (number : ℕ) (reading : Reading) →
    script_from schema blocks (line ∷ rest) number reading ≡ behind_line schema blocks number reading (line_of line) >>= script_from schema blocks rest (line_after number)
unfolding script_from
script_from_line schema blocks line rest number reading = refl

script_from_end : (schema : Schema) (blocks : Bool) (number : ℕ) (reading : Reading) → script_from schema blocks [] number reading ≡ at_the_end number reading.commands reading.place
unfolding script_from
script_from_end schema blocks number reading = refl

module _ (schema : Schema) (blocks : Bool) (rows : List (List ℕ)) (number : ℕ) (reading : Reading) (total : Result (List Command) Fault)
    (so_far : script_from schema blocks rows number reading ≡ total) where
  pub script_ends : rows ≡ [] → at_the_end number reading.commands reading.place ≡ total
  script_ends none = sym (script_from_end schema blocks number reading) ∙ ap (λ (ls : List (List ℕ)). script_from schema blocks ls number reading) (sym none) ∙ so_far

  module _ (line : List ℕ) (rest : List (List ℕ)) (split : rows ≡ line ∷ rest) where
    by_line : (behind_line schema blocks number reading (line_of line) >>= script_from schema blocks rest (line_after number)) ≡ total
    by_line = sym (script_from_line schema blocks line rest number reading) ∙ ap (λ (ls : List (List ℕ)). script_from schema blocks ls number reading) (sym split) ∙ so_far

    pub script_more : (next : Reading) → behind_line schema blocks number reading (line_of line) ≡ Ok next →
        script_from schema blocks rest (line_after number) next ≡ total
    script_more next is =
        sym (ap (λ (r : Result Reading Fault). r >>= script_from schema blocks rest (line_after number)) is) ∙ by_line

    pub script_fails : (fault : DocumentFault) → Tells fault (behind_line schema blocks number reading (line_of line)) → Tells fault total
    script_fails OutOfMemory tells = tt
    script_fails (Bad at text) tells =
        sym by_line ∙ ap (λ (r : Result Reading Fault). r >>= script_from schema blocks rest (line_after number)) tells
