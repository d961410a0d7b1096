-- The lines of a schema part, one that says something after the other.
use Rattle.std.proofs.Common.{◌≡◌, ℕ, List, [], ◌∷◌, Option, Some, None, Result, Ok, Err, refl, sym, ap, ◌∙◌}
use Rattle.delf_model.specs.declared.schema.Schema.{Schema}
use Rattle.schema_lang.specs.Words.{line_of}
use Rattle.schema_lang.specs.declared.fault.SchemaFault.{SchemaFault}
use Rattle.schema_lang.specs.declared.fault.SchemaFault.TheVariants.{Bad, OutOfMemory}
use Rattle.schema_lang.specs.declared.parse.Step.TheVariants.{Ended, More}
use Rattle.schema_lang.specs.Grammar.{Fault, Said, Part, Fails, said_by, said_or, said_at, first_said, line_after, rows, step_of, behind_step, ◌>>=◌}

-- the rows of a schema by the next line that says something
abbrev rows_by : Schema → Result Said ℕ → Result Part Fault
rows_by schema (Err number) = Ok (record { schema = schema; rest = []; next = number })
rows_by schema (Ok said) = step_of said.number schema said.words >>= behind_step said.number said.rest (rows said.rest (line_after said.number))

rows_step : (number : ℕ) (schema : Schema) (rest : List (List ℕ)) (said : Option (List (List ℕ)))
    → rows rest (line_after number) schema ≡ rows_by schema (first_said (line_after number) rest)
    → said_at number schema rest (rows rest (line_after number)) said ≡ rows_by schema (said_or said number rest (first_said (line_after number) rest))
rows_step number schema rest None later = later
rows_step number schema rest (Some words) later = refl

rows_is : (lines' : List (List ℕ)) (number : ℕ) (schema : Schema) → rows lines' number schema ≡ rows_by schema (first_said number lines')
unfolding rows
rows_is [] number schema = refl
rows_is (line ∷ rest) number schema = rows_step number schema rest (said_by (line_of line)) (rows_is rest (line_after number) schema)

module _ (lines' : List (List ℕ)) (number : ℕ) (schema : Schema) (total : Result Part Fault) (so_far : rows lines' number schema ≡ total) where
  rows_at : (said : Result Said ℕ) → said ≡ first_said number lines' → rows_by schema said ≡ total
  rows_at said is = ap (rows_by schema) is ∙ sym (rows_is lines' number schema) ∙ so_far

  pub rows_missing : (next : ℕ) → Err next ≡ first_said number lines' → total ≡ Ok (record { schema = schema; rest = []; next = next })
  rows_missing next is = sym (rows_at (Err next) is)

  pub rows_fail : (said : Said) (fault : SchemaFault) → Ok said ≡ first_said number lines' → Fails fault (step_of said.number schema said.words) → Fails fault total
  rows_fail said OutOfMemory is fails = tt
  rows_fail said (Bad line why) is fails = sym (rows_at (Ok said) is) ∙ rw fails refl

  pub rows_ended : (said : Said) (whole : Schema) → Ok said ≡ first_said number lines' → step_of said.number schema said.words ≡ Ok (Ended whole)
      → total ≡ Ok (record { schema = whole; rest = said.rest; next = line_after said.number })
  rows_ended said whole is step = sym (rows_at (Ok said) is) ∙ rw step refl

  pub rows_more : (said : Said) (more : Schema) → Ok said ≡ first_said number lines' → step_of said.number schema said.words ≡ Ok (More more)
      → rows said.rest (line_after said.number) more ≡ total
  rows_more said more is step = sym (rw step refl) ∙ rows_at (Ok said) is
