-- The lines within a block: what their words mean.
use Rattle.std.specs.Prelude.{ℕ, Bool, false, Option, Some, None, Result, Ok, Err, List, [], ◌∷◌, if◌then◌else◌, codes}
use Rattle.std.specs.Str.{bytes_eq}
use Rattle.delf_model.specs.declared.call.Call.{Call}
use Rattle.delf_model.specs.declared.script.LaneCommand.TheVariants.{Submit, Get}
use Rattle.delf_model.specs.declared.schema.Schema.{Schema}
use Rattle.schema_lang.specs.declared.line.Word.{Word}
use Rattle.schema_lang.specs.Rows.{word_text}
use Rattle.script_lang.specs.declared.fault.Wrong.{Wrong}
use Rattle.script_lang.specs.declared.fault.Wrong.TheVariants.{Malformed}
use Rattle.script_lang.specs.declared.block.LaneLine.{LaneLine}
use Rattle.script_lang.specs.declared.block.LaneLine.TheVariants.{Begin, Within, End}
use Rattle.script_lang.specs.Parts.{mapped}
use Rattle.script_lang.specs.Calls.{call_line}
use Rattle.script_lang.specs.Commands.{nothing_more, one_number}

-- whether this is the line that begins a lane
abbrev pub is_lane_line : List Word → Bool
is_lane_line (keyword ∷ []) = bytes_eq (word_text keyword) (codes "lane")
is_lane_line words = false

abbrev pub mark_line : List ℕ → List Word → Result LaneLine Wrong
mark_line keyword words =
    if bytes_eq keyword (codes "get") then mapped (λ id. Within (Get id)) (one_number 1 999999999999 words)
    else (if bytes_eq keyword (codes "lane") then mapped (λ nothing. Begin) (nothing_more words)
    else (if bytes_eq keyword (codes "end") then mapped (λ nothing. End) (nothing_more words)
    else Err Malformed))

abbrev pub within_or : Result (Option Call) Wrong → Result LaneLine Wrong → Result LaneLine Wrong
within_or (Ok (Some call)) other = Ok (Within (Submit call))
within_or (Ok None) other = other
within_or (Err wrong) other = Err wrong

-- a line in a lane
unfoldable pub lane_line : Schema → List Word → Result LaneLine Wrong
lane_line schema [] = Err Malformed
lane_line schema (keyword ∷ words) = within_or (call_line schema (word_text keyword) words) (mark_line (word_text keyword) words)
