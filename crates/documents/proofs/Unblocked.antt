-- Where blocks are not served, no command of a script is a block of lanes.
use Rattle.std.proofs.Common.{◌≡◌, ℕ, Bool, true, false, cond, Option, Some, None, Result, Ok, Err, List, [], ◌∷◌, refl, sym, ap, ◌∙◌, subst, codes}
use Rattle.std.specs.Prelude.{IfOk}
use Rattle.std.specs.List.{All}
use Rattle.std.specs.Str.{bytes_eq}
use Rattle.std.proofs.lemmas.List.Elements.{All-nil, All-push}
use Rattle.delf_model.specs.declared.call.Call.{Call}
use Rattle.delf_model.specs.declared.script.Command.{Command}
use Rattle.delf_model.specs.declared.script.Command.TheVariants.{Work, Tick, Get, Show, Job, Jobs, Report, Fail, Crash}
use Rattle.delf_model.specs.declared.schema.Schema.{Schema}
use Rattle.schema_lang.specs.declared.line.Word.{Word}
use Rattle.schema_lang.specs.declared.line.Line.{Line}
use Rattle.schema_lang.specs.declared.line.Line.TheVariants.{Skipped, Faulty, Words}
use Rattle.schema_lang.specs.Words.{line_of}
use Rattle.schema_lang.specs.Rows.{word_text}
use Rattle.schema_lang.specs.Grammar.{line_after}
use Rattle.script_lang.specs.declared.fault.Wrong.{Wrong}
use Rattle.script_lang.specs.declared.command.ScriptLine.{ScriptLine}
use Rattle.script_lang.specs.declared.command.ScriptLine.TheVariants.{Serial, Block}
use Rattle.script_lang.specs.declared.place.Place.{Place}
use Rattle.script_lang.specs.declared.place.Place.TheVariants.{Outside}
use Rattle.script_lang.specs.declared.place.Reading.{Reading}
use Rattle.script_lang.specs.Parts.{mapped}
use Rattle.script_lang.specs.Calls.{call_line, job_name}
use Rattle.script_lang.specs.Commands.{nothing_more, one_number, serial_line, opening_line, other_line, submitted_or, script_line}
use Rattle.script_lang.specs.Scripts.{Fault, behind_script_line, said_at, behind_words, at_line, behind_line, at_the_end, ◌>>=◌, script_from, script_of, nothing_read}
use Rattle.documents.specs.Names.{HasNoLanes}

-- a line on its own

abbrev pub IsSingle : Result Command Wrong → Type 0
IsSingle read = IfOk read HasNoLanes

pub either : {A : Type 0} (P : A → Type 0) (b : Bool) (x y : A) → P x → P y → P (cond b x y)
either P true x y one other = one
either P false x y one other = other

module _ {A : Type 0} (make : A → Command) (single : (x : A) → HasNoLanes (make x)) where
  made_single : (read : Result A Wrong) → IsSingle (mapped make read)
  made_single (Ok x) = single x
  made_single (Err wrong) = tt

  or_single : (b : Bool) (read : Result A Wrong) (other : Result Command Wrong) → IsSingle other → IsSingle (cond b (mapped make read) other)
  or_single b read other is = either IsSingle b (mapped make read) other (made_single read) is

pub serial_single : (keyword : List ℕ) (words : List Word) → IsSingle (serial_line keyword words)
serial_single keyword words =
    or_single (λ n. Work n) (λ n. tt) (bytes_eq keyword (codes "work")) (one_number 1 1000000 words) _
    (or_single (λ n. Tick n) (λ n. tt) (bytes_eq keyword (codes "tick")) (one_number 1 999999999999 words) _
    (or_single (λ id. Get id) (λ id. tt) (bytes_eq keyword (codes "get")) (one_number 1 999999999999 words) _
    (or_single (λ nothing. Show) (λ nothing. tt) (bytes_eq keyword (codes "show")) (nothing_more words) _
    (or_single (λ name. Job name) (λ name. tt) (bytes_eq keyword (codes "job")) (job_name words) _
    (or_single (λ nothing. Jobs) (λ nothing. tt) (bytes_eq keyword (codes "jobs")) (nothing_more words) _
    (or_single (λ nothing. Report) (λ nothing. tt) (bytes_eq keyword (codes "report")) (nothing_more words) _
    (or_single (λ n. Fail n) (λ n. tt) (bytes_eq keyword (codes "fail")) (one_number 1 1000000 words) _
    (or_single (λ pick. Crash pick) (λ pick. tt) (bytes_eq keyword (codes "crash")) (one_number 0 18446744073709551615 words) _ tt))))))))

-- a line outside of a block does not open one

abbrev IsSerial : Result ScriptLine Wrong → Type 0
IsSerial (Ok (Serial command)) = HasNoLanes command
IsSerial (Ok (Block head)) = ⊥
IsSerial (Err wrong) = Unit {0}

serial_of : (read : Result Command Wrong) → IsSingle read → IsSerial (mapped (λ command. Serial command) read)
serial_of (Ok command) is = is
serial_of (Err wrong) is = tt

other_serial : (keyword : List ℕ) (words : List Word) → IsSerial (other_line false keyword words)
other_serial keyword words =
    either IsSerial (bytes_eq keyword (codes "par")) (opening_line false words) (mapped (λ command. Serial command) (serial_line keyword words)) tt
    (serial_of (serial_line keyword words) (serial_single keyword words))

submitted_serial : (read : Result (Option Call) Wrong) (other : Result ScriptLine Wrong) → IsSerial other → IsSerial (submitted_or read other)
submitted_serial (Ok (Some call)) other is = tt
submitted_serial (Ok None) other is = is
submitted_serial (Err wrong) other is = tt

line_serial : (schema : Schema) (words : List Word) → IsSerial (script_line schema false words)
unfolding script_line
line_serial schema [] = tt
line_serial schema (keyword ∷ words) =
    submitted_serial (call_line schema (word_text keyword) words) (other_line false (word_text keyword) words) (other_serial (word_text keyword) words)

-- what was read so far

-- outside of a block, and behind none
record Unblocked (reading : Reading) : Type 0 where
  place : reading.place ≡ Outside
  commands : All HasNoLanes reading.commands

after_line : (commands : List Command) (line : Result ScriptLine Wrong) → All HasNoLanes commands → IsSerial line → IfOk (behind_script_line commands line) Unblocked
after_line commands (Ok (Serial command)) all is = record { place = refl; commands = All-push HasNoLanes commands command all is }
after_line commands (Ok (Block head)) all is = absurd is
after_line commands (Err wrong) all is = tt

after_words : (schema : Schema) (reading : Reading) (words : List Word) → Unblocked reading → IfOk (behind_words schema false reading words) Unblocked
unfolding behind_words
after_words schema reading words so_far =
    subst (λ (place : Place). IfOk (said_at schema false reading.commands place words) Unblocked) (sym so_far.place)
    (after_line reading.commands (script_line schema false words) so_far.commands (line_serial schema words))

numbered : (number : ℕ) (read : Result Reading Wrong) → IfOk read Unblocked → IfOk (at_line number read) Unblocked
numbered number (Ok reading) is = is
numbered number (Err wrong) is = tt

module _ (schema : Schema) where
  after : (number : ℕ) (reading : Reading) (line : Line) → Unblocked reading → IfOk (behind_line schema false number reading line) Unblocked
  unfolding behind_line
  after number reading Skipped so_far = so_far
  after number reading Faulty so_far = tt
  after number reading (Words words) so_far = numbered number (behind_words schema false reading words) (after_words schema reading words so_far)

  then : (next : Result Reading Fault) (more : Reading → Result (List Command) Fault) → IfOk next Unblocked →
      ((reading : Reading) → Unblocked reading → IfOk (more reading) (All HasNoLanes)) → IfOk (next >>= more) (All HasNoLanes)
  then (Ok reading) more is rest = rest reading is
  then (Err fault) more is rest = tt

  unblocked_from : (script : List (List ℕ)) (number : ℕ) (reading : Reading) → Unblocked reading → IfOk (script_from schema false script number reading) (All HasNoLanes)
  unfolding script_from
  unblocked_from [] number reading so_far =
      subst (λ (place : Place). IfOk (at_the_end number reading.commands place) (All HasNoLanes)) (sym so_far.place) so_far.commands
  unblocked_from (line ∷ rest) number reading so_far =
      then (behind_line schema false number reading (line_of line)) (script_from schema false rest (line_after number)) (after number reading (line_of line) so_far)
      (λ next is. unblocked_from rest (line_after number) next is)

  pub unblocked : (blocks : Bool) (script : List (List ℕ)) (first : ℕ) (commands : List Command) → blocks ≡ false → script_of schema blocks script first ≡ Ok commands →
      All HasNoLanes commands
  unblocked blocks script first commands without is =
      subst (λ (read : Result (List Command) Fault). IfOk read (All HasNoLanes)) (ap (λ (b : Bool). script_of schema b script first) (sym without) ∙ is)
      (unblocked_from script first nothing_read (record { place = refl; commands = All-nil HasNoLanes }))
