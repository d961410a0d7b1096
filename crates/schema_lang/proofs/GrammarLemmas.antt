-- The schema part as the grammar has it, and as it is read: both ways.
use Rattle.std.proofs.Common.{◌≡◌, ℕ, ◌+◌, Bool, true, false, cond, eqb, Option, Some, None, Result, Ok, Err, List, [], ◌∷◌, ◌++◌, map, refl, sym, ap, subst, ◌∙◌, inl, inr, ⊎_elim}
use Rattle.std.specs.Prelude.{◌⊎◌}
use Rattle.std.proofs.lemmas.Bool.{eqb-true}
use Rattle.delf_model.specs.declared.schema.ObjectType.{ObjectType}
use Rattle.delf_model.specs.declared.schema.EdgeType.{EdgeType}
use Rattle.delf_model.specs.declared.schema.Schema.{Schema}
use Rattle.schema_lang.specs.declared.line.Word.{Word}
use Rattle.schema_lang.specs.declared.why.Why.{Why}
use Rattle.schema_lang.specs.declared.why.Why.TheVariants.{Malformed, OutOfRange}
use Rattle.schema_lang.specs.declared.row.Row.{Row}
use Rattle.schema_lang.specs.declared.row.Row.TheVariants.{Script, Object, Edge}
use Rattle.schema_lang.specs.Words.{is_blank, is_skipped, words, line_of}
use Rattle.schema_lang.specs.Spelled.{AreBlank, SpellsWords}
use Rattle.schema_lang.specs.Rows.{word_text, row_of, is_header, window_of}
use Rattle.schema_lang.specs.Grammar.{Part, Fault, Said, rows, part_of, said_at, said_by, said_or, step_of, row_at, goes_on, behind_step, with_object, with_edge, at_line, line_after, first_said, owed, header, empty_schema, ◌>>=◌}
use Rattle.schema_lang.specs.Forms.{Place, First, Second, Rows, Over, Fits, SchemaLine, WindowLine, ObjectLine, EdgeLine, ScriptLine, IsWithin, IsSkipped, Blank, Comment, Says, Owes, IsOpen, Spells, Ends, Stops, Skips, Reads, HasFault, Missing, Misfit, Excess, BehindSkipped, BehindRead}
use Rattle.schema_lang.proofs.ReadWords.{OfSome, words_spell}
use Rattle.schema_lang.proofs.SpelledLemmas.{words_spelled}
use Rattle.schema_lang.proofs.FormLemmas.{raw, fits_raw, raw_fits}
use Rattle.schema_lang.proofs.LimitLemmas.{Limited, step, step_row, as_rows, as_window, step_limited}

-- reading, place by place

abbrev at_end : ℕ → Place → Result Part Fault
at_end number First = Err (record { line = number; why = Malformed })
at_end number Second = Err (record { line = number; why = Malformed })
at_end number (Rows schema) = Ok (record { schema = schema; rest = []; next = number })
at_end number (Over schema) = Ok (record { schema = schema; rest = []; next = number })

abbrev on_said : ℕ → Place → (Place → Result Part Fault) → Option (List (List ℕ)) → Result Part Fault
on_said number place more None = more place
on_said number place more (Some texts) = at_line number (step number place texts) >>= more

abbrev on_line : List ℕ → List (List ℕ) → ℕ → (Place → Result Part Fault) → Place → Result Part Fault
on_line line rest number more First = on_said number First more (said_by (line_of line))
on_line line rest number more Second = on_said number Second more (said_by (line_of line))
on_line line rest number more (Rows schema) = on_said number (Rows schema) more (said_by (line_of line))
on_line line rest number more (Over schema) = Ok (record { schema = schema; rest = line ∷ rest; next = number })

abbrev run : List (List ℕ) → ℕ → Place → Result Part Fault
run [] number place = at_end number place
run (line ∷ rest) number place = on_line line rest number (run rest (line_after number)) place

run_over : (text : List (List ℕ)) (number : ℕ) (schema : Schema) → run text number (Over schema) ≡ Ok (record { schema = schema; rest = text; next = number })
run_over [] number schema = refl
run_over (line ∷ rest) number schema = refl

-- the reader does the same

module _ (number : ℕ) (schema : Schema) (rest : List (List ℕ)) (later : (next : Schema) → rows rest (line_after number) next ≡ run rest (line_after number) (Rows next)) where
  goes_run : (next : Result Schema Why) → (goes_on (at_line number next) >>= behind_step number rest (rows rest (line_after number))) ≡ (at_line number (as_rows next) >>= run rest (line_after number))
  goes_run (Ok next) = later next
  goes_run (Err why) = refl

  row_run : (row : Result Row Why)
      → ((at_line number row >>= row_at number schema) >>= behind_step number rest (rows rest (line_after number))) ≡ (at_line number (step_row schema row) >>= run rest (line_after number))
  row_run (Ok Script) = sym (run_over rest (line_after number) schema)
  row_run (Ok (Object object)) = goes_run (with_object schema object)
  row_run (Ok (Edge edge)) = goes_run (with_edge schema edge)
  row_run (Err why) = refl

  said_run : (said : Option (List (List ℕ))) → said_at number schema rest (rows rest (line_after number)) said ≡ on_said number (Rows schema) (run rest (line_after number)) said
  said_run None = later schema
  said_run (Some texts) = row_run (row_of number texts)

rows_run : (text : List (List ℕ)) (number : ℕ) (schema : Schema) → rows text number schema ≡ run text number (Rows schema)
unfolding rows
rows_run [] number schema = refl
rows_run (line ∷ rest) number schema = said_run number schema rest (λ next. rows_run rest (line_after number) next) (said_by (line_of line))

abbrev window_then : Said → Result Part Fault
window_then second = at_line second.number (window_of second.words) >>= (λ window. rows second.rest (line_after second.number) (empty_schema window))

window_run : (number : ℕ) (rest : List (List ℕ)) (window : Result ℕ Why)
    → (at_line number window >>= (λ window. rows rest (line_after number) (empty_schema window))) ≡ (at_line number (as_window window) >>= run rest (line_after number))
window_run number rest (Ok window) = rows_run rest (line_after number) (empty_schema window)
window_run number rest (Err why) = refl

second_said : (number : ℕ) (rest : List (List ℕ)) → (owed (first_said (line_after number) rest) >>= window_then) ≡ run rest (line_after number) Second → (said : Option (List (List ℕ)))
    → (owed (said_or said number rest (first_said (line_after number) rest)) >>= window_then) ≡ on_said number Second (run rest (line_after number)) said
second_said number rest later None = later
second_said number rest later (Some texts) = window_run number rest (window_of texts)

second_run : (text : List (List ℕ)) (number : ℕ) → (owed (first_said number text) >>= window_then) ≡ run text number Second
second_run [] number = refl
second_run (line ∷ rest) number = second_said number rest (second_run rest (line_after number)) (said_by (line_of line))

abbrev header_then : Said → Result Part Fault
header_then first = header first >>= window_then

header_run : (number : ℕ) (rest texts : List (List ℕ)) (is : Bool)
    → (cond is (owed (first_said (line_after number) rest)) (Err (record { line = number; why = Malformed })) >>= window_then)
    ≡ (at_line number (cond is (Ok Second) (Err Malformed)) >>= run rest (line_after number))
header_run number rest texts true = second_run rest (line_after number)
header_run number rest texts false = refl

first_said_run : (number : ℕ) (rest : List (List ℕ)) → (owed (first_said (line_after number) rest) >>= header_then) ≡ run rest (line_after number) First → (said : Option (List (List ℕ)))
    → (owed (said_or said number rest (first_said (line_after number) rest)) >>= header_then) ≡ on_said number First (run rest (line_after number)) said
first_said_run number rest later None = later
first_said_run number rest later (Some texts) = header_run number rest texts (is_header texts)

first_run : (text : List (List ℕ)) (number : ℕ) → (owed (first_said number text) >>= header_then) ≡ run text number First
first_run [] number = refl
first_run (line ∷ rest) number = first_said_run number rest (first_run rest (line_after number)) (said_by (line_of line))

pub part_run : (text : List (List ℕ)) → part_of text ≡ run text 1 First
unfolding part_of
part_run text = first_run text 1

-- lines that are skipped

skipped_by : (byte : ℕ) (rest : List ℕ) (blank : Bool) → is_blank byte ≡ blank → (is_skipped rest ≡ true → IsSkipped rest) → cond blank (is_skipped rest) (eqb byte 35) ≡ true → IsSkipped (byte ∷ rest)
skipped_by byte rest true blank later is = behind (later is)
  where
    behind : IsSkipped rest → IsSkipped (byte ∷ rest)
    behind (Blank all) = Blank (blank, all)
    behind (Comment before after are all) = Comment (byte ∷ before) after (ap (λ (l : List ℕ). byte ∷ l) are) (blank, all)
skipped_by byte rest false blank later is = Comment [] rest (ap (λ (b : ℕ). b ∷ rest) (eqb-true byte 35 is)) tt

pub skipped_is : (line : List ℕ) → is_skipped line ≡ true → IsSkipped line
skipped_is [] is = Blank tt
skipped_is (byte ∷ rest) is = skipped_by byte rest (is_blank byte) refl (skipped_is rest) is

blank_skipped : (line : List ℕ) → AreBlank line → is_skipped line ≡ true
blank_skipped [] all = refl
blank_skipped (byte ∷ rest) all = rw all.0 (blank_skipped rest all.1)

comment_skipped : (before after : List ℕ) → AreBlank before → is_skipped (before ++ 35 ∷ after) ≡ true
comment_skipped [] after all = refl
comment_skipped (byte ∷ before) after all = rw all.0 (comment_skipped before after all.1)

pub is_skipped_of : (line : List ℕ) → IsSkipped line → is_skipped line ≡ true
is_skipped_of line (Blank all) = blank_skipped line all
is_skipped_of line (Comment before after is all) = ap is_skipped is ∙ comment_skipped before after all

-- what a line says

abbrev ReadAs : List ℕ → Option (List (List ℕ)) → Type 0
ReadAs line None = IsSkipped line
ReadAs line (Some texts) =
    (IsSkipped line → ⊥)
    × (((found : List Word) × SpellsWords line found × (texts ≡ map word_text found)) ⊎ (((found : List Word) → SpellsWords line found → ⊥) × (texts ≡ [])))

read_by : (line : List ℕ) (skipped : Bool) (found : Option (List Word)) → is_skipped line ≡ skipped → words line ≡ found → ReadAs line (said_by (line_of line))
unfolding line_of
read_by line true found skipped is = rw skipped (skipped_is line skipped)
read_by line false None skipped is =
    rw (skipped, is) (
      (λ heard. let s : is_skipped line ≡ true = is_skipped_of line heard in let wrong : true ≡ false = sym s ∙ skipped in cc),
      inr ((λ found spelled. let read : words line ≡ Some found = words_spelled line found spelled in cc), refl),
    )
read_by line false (Some found) skipped is =
    rw (skipped, is) (
      (λ heard. let s : is_skipped line ≡ true = is_skipped_of line heard in let wrong : true ≡ false = sym s ∙ skipped in cc),
      inl (found, subst (OfSome (SpellsWords line)) is (words_spell line), refl),
    )

read_as : (line : List ℕ) → ReadAs line (said_by (line_of line))
read_as line = read_by line (is_skipped line) (words line) refl refl

skipped_said : (line : List ℕ) → IsSkipped line → said_by (line_of line) ≡ None
unfolding line_of
skipped_said line is = rw (is_skipped_of line is) refl

heard_false : (line : List ℕ) (b : Bool) → is_skipped line ≡ b → (IsSkipped line → ⊥) → is_skipped line ≡ false
heard_false line true is heard = absurd (heard (skipped_is line is))
heard_false line false is heard = is

says_said : (line : List ℕ) (found : List Word) → Says line found → said_by (line_of line) ≡ Some (map word_text found)
unfolding line_of
says_said line found says = rw (heard_false line (is_skipped line) refl says.heard, words_spelled line found says.spelled) refl

-- what is read is in the grammar

abbrev pub Ruled : List (List ℕ) → ℕ → Place → Result Part Fault → Type 0
Ruled text number place (Ok part) = Spells text number place part
Ruled text number place (Err fault) = HasFault text number place fault

module _ (line : List ℕ) (rest : List (List ℕ)) (number : ℕ) (place : Place) where
  ruled_skipped : IsOpen place → IsSkipped line → (r : Result Part Fault) → Ruled rest (line_after number) place r → Ruled (line ∷ rest) number place r
  ruled_skipped open_ skipped (Ok part) is = Skips line rest number place part open_ skipped is
  ruled_skipped open_ skipped (Err fault) is = BehindSkipped line rest number place fault open_ skipped is

  ruled_read : (found : List Word) (next : Place) → Says line found → Fits number found place next → IsWithin next → (r : Result Part Fault) → Ruled rest (line_after number) next r → Ruled (line ∷ rest) number place r
  ruled_read found next says fits within (Ok part) is = Reads line rest number place part found next says fits within is
  ruled_read found next says fits within (Err fault) is = BehindRead line rest number place fault found next says fits within is

  ruled_step : IsOpen place → (IsSkipped line → ⊥) → (there : Option Place)
      → ((next : Place) → there ≡ Some next → (found : List Word) × SpellsWords line found × Fits number found place next)
      → (there ≡ None → (found : List Word) (next : Place) → SpellsWords line found → Fits number found place next → ⊥)
      → ((next : Place) → IsWithin next → Ruled rest (line_after number) next (run rest (line_after number) next))
      → (r : Result Place Why) → Limited IsWithin there r → Ruled (line ∷ rest) number place (at_line number r >>= run rest (line_after number))
  ruled_step open_ heard there fit misfit later (Ok next) is =
      let f = fit next is.0 in
      ruled_read f.0 next (record { heard = heard; spelled = f.1 }) f.2 is.1 (run rest (line_after number) next) (later next is.1)
  ruled_step open_ heard there fit misfit later (Err OutOfRange) is =
      let f = fit is.0 is.1 in
      Excess line rest number place f.0 is.0 (record { heard = heard; spelled = f.1 }) f.2 is.2
  ruled_step open_ heard there fit misfit later (Err Malformed) is = Misfit line rest number place open_ heard (misfit is)

none_of_nothing : (number : ℕ) (place : Place) → raw number place [] ≡ None
none_of_nothing number First = refl
none_of_nothing number Second = refl
none_of_nothing number (Rows schema) = refl
none_of_nothing number (Over schema) = refl

same_words : (line : List ℕ) (one other : List Word) → SpellsWords line one → SpellsWords line other → one ≡ other
same_words line one other is then = let a : words line ≡ Some one = words_spelled line one is in let b : words line ≡ Some other = words_spelled line other then in cc

ruled_said : (line : List ℕ) (rest : List (List ℕ)) (number : ℕ) (place : Place) → IsOpen place → IsWithin place
    → ((next : Place) → IsWithin next → Ruled rest (line_after number) next (run rest (line_after number) next))
    → (said : Option (List (List ℕ))) → ReadAs line said → Ruled (line ∷ rest) number place (on_said number place (run rest (line_after number)) said)
ruled_said line rest number place open_ within later None is = ruled_skipped line rest number place open_ is (run rest (line_after number) place) (later place within)
ruled_said line rest number place open_ within later (Some texts) is =
    ⊎_elim
    (λ spelled.
    let limited : Limited IsWithin (raw number place (map word_text spelled.0)) (step number place texts) = subst (λ (t : List (List ℕ)). Limited IsWithin (raw number place t) (step number place texts)) spelled.2 (step_limited number place texts within) in
    ruled_step line rest number place open_ is.0 (raw number place (map word_text spelled.0))
    (λ next there. (spelled.0, spelled.1, raw_fits number spelled.0 place next there))
    (λ none found next other fits.
    let same : found ≡ spelled.0 = same_words line found spelled.0 other spelled.1 in
    let there : raw number place (map word_text spelled.0) ≡ Some next = subst (λ (ws : List Word). raw number place (map word_text ws) ≡ Some next) same (fits_raw number found place next fits) in cc)
    later (step number place texts) limited)
    (λ unspelled.
    let limited : Limited IsWithin (raw number place []) (step number place texts) = subst (λ (t : List (List ℕ)). Limited IsWithin (raw number place t) (step number place texts)) unspelled.1 (step_limited number place texts within) in
    ruled_step line rest number place open_ is.0 (raw number place [])
    (λ next there. let none = none_of_nothing number place in let wrong : None ≡ Some next = sym none ∙ there in cc)
    (λ none found next spelled fits. unspelled.0 found spelled)
    later (step number place texts) limited)
    is.1

pub run_ruled : (text : List (List ℕ)) (number : ℕ) (place : Place) → IsWithin place → Ruled text number place (run text number place)
run_ruled [] number First within = Missing number First tt
run_ruled [] number Second within = Missing number Second tt
run_ruled [] number (Rows schema) within = Ends number schema
run_ruled [] number (Over schema) within = Stops [] number schema
run_ruled (line ∷ rest) number First within = ruled_said line rest number First tt within (λ next more. run_ruled rest (line_after number) next more) (said_by (line_of line)) (read_as line)
run_ruled (line ∷ rest) number Second within = ruled_said line rest number Second tt within (λ next more. run_ruled rest (line_after number) next more) (said_by (line_of line)) (read_as line)
run_ruled (line ∷ rest) number (Rows schema) within = ruled_said line rest number (Rows schema) tt within (λ next more. run_ruled rest (line_after number) next more) (said_by (line_of line)) (read_as line)
run_ruled (line ∷ rest) number (Over schema) within = Stops (line ∷ rest) number schema

-- what is in the grammar is read

open_line : (line : List ℕ) (rest : List (List ℕ)) (number : ℕ) (place : Place) → IsOpen place
    → run (line ∷ rest) number place ≡ on_said number place (run rest (line_after number)) (said_by (line_of line))
open_line line rest number First is = refl
open_line line rest number Second is = refl
open_line line rest number (Rows schema) is = refl
open_line line rest number (Over schema) is = absurd is

fits_open : (number : ℕ) (found : List Word) (place next : Place) → Fits number found place next → IsOpen place
fits_open number found place next (SchemaLine is) = tt
fits_open number found place next (WindowLine text window is digits) = tt
fits_open number found place next (ObjectLine before object is) = tt
fits_open number found place next (EdgeLine before edge is) = tt
fits_open number found place next (ScriptLine before is) = tt

limited_ok : (next : Place) (there : Option Place) (r : Result Place Why) → there ≡ Some next → Limited IsWithin there r → IsWithin next → r ≡ Ok next
limited_ok next there (Ok x) is limited within = let same : Some next ≡ Some x = sym is ∙ limited.0 in cc
limited_ok next there (Err OutOfRange) is limited within =
    let both : Some limited.0 ≡ Some next = sym limited.1 ∙ is in
    let same : limited.0 ≡ next = cc in absurd (limited.2 (subst IsWithin (sym same) within))
limited_ok next there (Err Malformed) is limited within = let wrong : None ≡ Some next = sym limited ∙ is in cc

limited_long : (next : Place) (there : Option Place) (r : Result Place Why) → there ≡ Some next → Limited IsWithin there r → (IsWithin next → ⊥) → r ≡ Err OutOfRange
limited_long next there (Ok x) is limited passes =
    let both : Some next ≡ Some x = sym is ∙ limited.0 in
    let same : next ≡ x = cc in absurd (passes (subst IsWithin (sym same) limited.1))
limited_long next there (Err OutOfRange) is limited passes = refl
limited_long next there (Err Malformed) is limited passes = let wrong : None ≡ Some next = sym limited ∙ is in cc

limited_none : (there : Option Place) (r : Result Place Why) → Limited IsWithin there r → ((next : Place) → there ≡ Some next → ⊥) → r ≡ Err Malformed
limited_none there (Ok x) limited none = absurd (none x limited.0)
limited_none there (Err OutOfRange) limited none = absurd (none limited.0 limited.1)
limited_none there (Err Malformed) limited none = refl

module _ (line : List ℕ) (rest : List (List ℕ)) (number : ℕ) (place : Place) (within : IsWithin place) where
  on_skipped : IsOpen place → IsSkipped line → run (line ∷ rest) number place ≡ run rest (line_after number) place
  on_skipped open_ skipped = open_line line rest number place open_ ∙ ap (on_said number place (run rest (line_after number))) (skipped_said line skipped)

  on_found : (found : List Word) (next : Place) → Says line found → Fits number found place next
      → run (line ∷ rest) number place ≡ (at_line number (step number place (map word_text found)) >>= run rest (line_after number))
  on_found found next says fits = open_line line rest number place (fits_open number found place next fits) ∙ ap (on_said number place (run rest (line_after number))) (says_said line found says)

  on_read : (found : List Word) (next : Place) → Says line found → Fits number found place next → IsWithin next → run (line ∷ rest) number place ≡ run rest (line_after number) next
  on_read found next says fits well =
      on_found found next says fits
      ∙ ap (λ (r : Result Place Why). at_line number r >>= run rest (line_after number))
      (limited_ok next (raw number place (map word_text found)) (step number place (map word_text found)) (fits_raw number found place next fits) (step_limited number place (map word_text found) within) well)

  on_excess : (found : List Word) (next : Place) → Says line found → Fits number found place next → (IsWithin next → ⊥) → run (line ∷ rest) number place ≡ Err (record { line = number; why = OutOfRange })
  on_excess found next says fits passes =
      on_found found next says fits
      ∙ ap (λ (r : Result Place Why). at_line number r >>= run rest (line_after number))
      (limited_long next (raw number place (map word_text found)) (step number place (map word_text found)) (fits_raw number found place next fits) (step_limited number place (map word_text found) within) passes)

  misfit_by : (IsSkipped line → ⊥) → ((found : List Word) (next : Place) → SpellsWords line found → Fits number found place next → ⊥) → (said : Option (List (List ℕ))) → ReadAs line said
      → on_said number place (run rest (line_after number)) said ≡ Err (record { line = number; why = Malformed })
  misfit_by heard misfit None is = absurd (heard is)
  misfit_by heard misfit (Some texts) is =
      ap (λ (r : Result Place Why). at_line number r >>= run rest (line_after number))
      (limited_none (raw number place texts) (step number place texts) (step_limited number place texts within)
      (λ next there. ⊎_elim
      (λ spelled. misfit spelled.0 next spelled.1 (raw_fits number spelled.0 place next (subst (λ (t : List (List ℕ)). raw number place t ≡ Some next) spelled.2 there)))
      (λ unspelled. let none = none_of_nothing number place in
      let wrong : None ≡ Some next = sym none ∙ subst (λ (t : List (List ℕ)). raw number place t ≡ Some next) unspelled.1 there in cc)
      is.1))

  on_misfit : IsOpen place → (IsSkipped line → ⊥) → ((found : List Word) (next : Place) → SpellsWords line found → Fits number found place next → ⊥)
      → run (line ∷ rest) number place ≡ Err (record { line = number; why = Malformed })
  on_misfit open_ heard misfit = open_line line rest number place open_ ∙ misfit_by heard misfit (said_by (line_of line)) (read_as line)

pub spelled_run : (text : List (List ℕ)) (number : ℕ) (place : Place) (part : Part) → Spells text number place part → IsWithin place → run text number place ≡ Ok part
spelled_run text number place part (Ends last schema) within = refl
spelled_run text number place part (Stops rest next schema) within = run_over rest next schema
spelled_run text number place part (Skips line rest at there whole open_ skipped more) within =
    on_skipped line rest at there within open_ skipped ∙ spelled_run rest (line_after at) there whole more within
spelled_run text number place part (Reads line rest at there whole found next says fits well more) within =
    on_read line rest at there within found next says fits well ∙ spelled_run rest (line_after at) next whole more well

missing_run : (number : ℕ) (place : Place) → Owes place → run [] number place ≡ Err (record { line = number; why = Malformed })
missing_run number First owes = refl
missing_run number Second owes = refl
missing_run number (Rows schema) owes = absurd owes
missing_run number (Over schema) owes = absurd owes

pub fault_run : (text : List (List ℕ)) (number : ℕ) (place : Place) (fault : Fault) → HasFault text number place fault → IsWithin place → run text number place ≡ Err fault
fault_run text number place fault (Missing at there owes) within = missing_run at there owes
fault_run text number place fault (Misfit line rest at there open_ heard misfit) within = on_misfit line rest at there within open_ heard misfit
fault_run text number place fault (Excess line rest at there found next says fits passes) within = on_excess line rest at there within found next says fits passes
fault_run text number place fault (BehindSkipped line rest at there one open_ skipped more) within =
    on_skipped line rest at there within open_ skipped ∙ fault_run rest (line_after at) there one more within
fault_run text number place fault (BehindRead line rest at there one found next says fits well more) within =
    on_read line rest at there within found next says fits well ∙ fault_run rest (line_after at) next one more well

-- a whole part

pub part_spells : (text : List (List ℕ)) (part : Part) → part_of text ≡ Ok part → Spells text 1 First part
part_spells text part is = subst (Ruled text 1 First) (sym (part_run text) ∙ is) (run_ruled text 1 First tt)

pub part_fails : (text : List (List ℕ)) (fault : Fault) → part_of text ≡ Err fault → HasFault text 1 First fault
part_fails text fault is = subst (Ruled text 1 First) (sym (part_run text) ∙ is) (run_ruled text 1 First tt)

pub spells_part : (text : List (List ℕ)) (part : Part) → Spells text 1 First part → part_of text ≡ Ok part
spells_part text part is = part_run text ∙ spelled_run text 1 First part is tt

pub fails_part : (text : List (List ℕ)) (fault : Fault) → HasFault text 1 First fault → part_of text ≡ Err fault
fails_part text fault is = part_run text ∙ fault_run text 1 First fault is tt
