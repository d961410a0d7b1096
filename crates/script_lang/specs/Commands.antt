-- The lines outside of a block: what their words mean.
use Rattle.std.specs.Prelude.{ℕ, ◌&&◌, Bool, true, false, Option, Some, None, Result, Ok, Err, List, [], ◌∷◌, if◌then◌else◌, codes}
use Rattle.std.specs.Str.{bytes_eq}
use Rattle.delf_model.specs.declared.call.Call.{Call}
use Rattle.delf_model.specs.declared.script.Command.{Command}
use Rattle.delf_model.specs.declared.script.Command.TheVariants.{Submit, Work, Tick, Get, Show, Job, Jobs, Report, Fail, Crash}
use Rattle.delf_model.specs.declared.schema.Schema.{Schema}
use Rattle.schema_lang.specs.declared.line.Word.{Word}
use Rattle.schema_lang.specs.Rows.{word_text}
use Rattle.script_lang.specs.declared.fault.Wrong.{Wrong}
use Rattle.script_lang.specs.declared.fault.Wrong.TheVariants.{Malformed}
use Rattle.script_lang.specs.declared.command.ScriptLine.{ScriptLine}
use Rattle.script_lang.specs.declared.command.ScriptLine.TheVariants.{Serial, Block}
use Rattle.script_lang.specs.declared.command.BlockHead.{BlockHead}
use Rattle.script_lang.specs.Parts.{both, mapped, number_part}
use Rattle.script_lang.specs.Calls.{call_line, job_name}

-- a line whose first word is all
abbrev pub nothing_more : List Word → Result (Unit {0}) Wrong
nothing_more [] = Ok tt
nothing_more (word ∷ more) = Err Malformed

-- a line with one number of these bounds behind its first word
abbrev pub one_number : ℕ → ℕ → List Word → Result ℕ Wrong
one_number least greatest (number ∷ []) = number_part least greatest number
one_number least greatest words = Err Malformed

-- the commands that are no calls and no blocks
abbrev pub serial_line : List ℕ → List Word → Result Command Wrong
serial_line keyword words =
    if bytes_eq keyword (codes "work") then mapped (λ n. Work n) (one_number 1 1000000 words)
    else (if bytes_eq keyword (codes "tick") then mapped (λ n. Tick n) (one_number 1 999999999999 words)
    else (if bytes_eq keyword (codes "get") then mapped (λ id. Get id) (one_number 1 999999999999 words)
    else (if bytes_eq keyword (codes "show") then mapped (λ nothing. Show) (nothing_more words)
    else (if bytes_eq keyword (codes "job") then mapped (λ name. Job name) (job_name words)
    else (if bytes_eq keyword (codes "jobs") then mapped (λ nothing. Jobs) (nothing_more words)
    else (if bytes_eq keyword (codes "report") then mapped (λ nothing. Report) (nothing_more words)
    else (if bytes_eq keyword (codes "fail") then mapped (λ n. Fail n) (one_number 1 1000000 words)
    else (if bytes_eq keyword (codes "crash") then mapped (λ pick. Crash pick) (one_number 0 18446744073709551615 words)
    else Err Malformed))))))))

-- `workers W turns T` in the first line of a block
abbrev pub block_head : Bool → List Word → Result BlockHead Wrong
block_head quiet (workers ∷ most ∷ turns ∷ steps ∷ []) =
    if bytes_eq (word_text workers) (codes "workers") && bytes_eq (word_text turns) (codes "turns")
    then mapped (λ found. record { quiet = quiet; workers = found.0; turns = found.1 }) (both (number_part 0 16 most) (number_part 1 1000000 steps))
    else Err Malformed
block_head quiet words = Err Malformed

-- the first line of a block, with `quiet` or without
abbrev pub par_line : List Word → Result BlockHead Wrong
par_line [] = Err Malformed
par_line (word ∷ more) = if bytes_eq (word_text word) (codes "quiet") then block_head true more else block_head false (word ∷ more)

-- where blocks are not served their first line fits no line
abbrev pub opening_line : Bool → List Word → Result ScriptLine Wrong
opening_line blocks words = if blocks then mapped (λ head. Block head) (par_line words) else Err Malformed

abbrev pub other_line : Bool → List ℕ → List Word → Result ScriptLine Wrong
other_line blocks keyword words =
    if bytes_eq keyword (codes "par") then opening_line blocks words else mapped (λ command. Serial command) (serial_line keyword words)

abbrev pub submitted_or : Result (Option Call) Wrong → Result ScriptLine Wrong → Result ScriptLine Wrong
submitted_or (Ok (Some call)) other = Ok (Serial (Submit call))
submitted_or (Ok None) other = other
submitted_or (Err wrong) other = Err wrong

-- a line outside of a block
unfoldable pub script_line : Schema → Bool → List Word → Result ScriptLine Wrong
script_line schema blocks [] = Err Malformed
script_line schema blocks (keyword ∷ words) =
    submitted_or (call_line schema (word_text keyword) words) (other_line blocks (word_text keyword) words)
