-- What a call answers, by the grammar.
use Rattle.std.proofs.Common.{◌≡◌, ℕ, Result, Ok, Err, List, refl, sym, ap, subst, ◌∙◌}
use Rattle.std.specs.Prelude.{IfOk, IfErr}
use Rattle.std.specs.Str.Lines.{lines}
use Rattle.delf_model.specs.declared.schema.Schema.{Schema}
use Rattle.schema_lang.specs.declared.fault.SchemaFault.{SchemaFault}
use Rattle.schema_lang.specs.declared.fault.SchemaFault.TheVariants.{Bad, OutOfMemory}
use Rattle.schema_lang.specs.Grammar.{Part, Fault, Gives, part_of, schema_of, ◌>>=◌}
use Rattle.schema_lang.specs.Forms.{SpellsPart, HasPartFault, SpellsSchema, IsTold}
use Rattle.schema_lang.proofs.GrammarLemmas.{part_spells, part_fails, spells_part, fails_part}

module _ {X A : Type 0} (view : X → A) (read : Result A Fault) where
  pub given_spelled : (P : A → Type 0) → ((x : A) → read ≡ Ok x → P x) → (r : Result X SchemaFault) → Gives view r read → IfOk r (λ x. P (view x))
  given_spelled P each (Ok x) is = each (view x) is
  given_spelled P each (Err fault) is = tt

  pub given_told : (Q : Fault → Type 0) → ((fault : Fault) → read ≡ Err fault → Q fault) → (r : Result X SchemaFault) → Gives view r read → IfErr r (IsTold Q)
  given_told Q each (Ok x) is = tt
  given_told Q each (Err (Bad line why)) is = each (record { line = line; why = why }) is
  given_told Q each (Err OutOfMemory) is = tt

  pub given_other : (other : Result A Fault) → read ≡ other → (r : Result X SchemaFault) → Gives view r read → Gives view r other
  given_other other same r is = subst (Gives view r) same is

-- the schema of a part

abbrev schema_by : Result Part Fault → Result Schema Fault
schema_by read = read >>= (λ part. Ok part.schema)

schema_from : (bytes : List ℕ) (schema : Schema) (read : Result Part Fault) → part_of (lines bytes) ≡ read → schema_by read ≡ Ok schema → SpellsSchema bytes schema
schema_from bytes schema (Ok part) is read = (part, part_spells (lines bytes) part is, (let same : Ok part.schema ≡ Ok schema = read in cc))
schema_from bytes schema (Err fault) is read = let wrong : Err fault ≡ Ok schema = read in cc

fault_from : (bytes : List ℕ) (fault : Fault) (read : Result Part Fault) → part_of (lines bytes) ≡ read → schema_by read ≡ Err fault → HasPartFault bytes fault
fault_from bytes fault (Ok part) is read = let wrong : Ok part.schema ≡ Err fault = read in cc
fault_from bytes fault (Err other) is read = let same : Err other ≡ Err fault = read in part_fails (lines bytes) fault (let e : other ≡ fault = cc in is ∙ ap (λ (f : Fault). Err f) e)

pub schema_spells : (bytes : List ℕ) (schema : Schema) → schema_of bytes ≡ Ok schema → SpellsSchema bytes schema
schema_spells bytes schema is = schema_from bytes schema (part_of (lines bytes)) refl is

pub schema_fails : (bytes : List ℕ) (fault : Fault) → schema_of bytes ≡ Err fault → HasPartFault bytes fault
schema_fails bytes fault is = fault_from bytes fault (part_of (lines bytes)) refl is

pub spells_schema : (bytes : List ℕ) (schema : Schema) → SpellsSchema bytes schema → schema_of bytes ≡ Ok schema
spells_schema bytes schema is = ap schema_by (spells_part (lines bytes) is.0 is.1) ∙ ap (λ (s : Schema). Ok s) is.2

pub fails_schema : (bytes : List ℕ) (fault : Fault) → HasPartFault bytes fault → schema_of bytes ≡ Err fault
fails_schema bytes fault is = ap schema_by (fails_part (lines bytes) fault is)
