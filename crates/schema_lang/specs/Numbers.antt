-- Numbers and names of a document: which words are malformed, and which are out of range.
use Rattle.std.specs.Prelude.{ℕ, ◌+◌, ◌-◌, ◌*◌, Bool, not, Result, Ok, Err, List, length, fold, slice_index, ◌==◌, ◌&&◌, ◌||◌, nat_le, if◌then◌else◌}
use Rattle.std.specs.List.{list_all}
use Rattle.std.specs.Char.{is_ascii_digit}
use Rattle.delf_model.specs.Names.{is_name_code}
use Rattle.schema_lang.specs.declared.why.Why.{Why}
use Rattle.schema_lang.specs.declared.why.Why.TheVariants.{Malformed, OutOfRange}

-- 0, or a digit from 1 to 9 and any digits behind it
abbrev pub is_number : List ℕ → Bool
is_number text = not (length text == 0) && list_all is_ascii_digit text && (not (slice_index text 0 == 48) || (length text == 1))

-- the number that decimal digits spell
abbrev pub number_value : List ℕ → ℕ
number_value text = fold (λ n digit. n * 10 + (digit - 48)) 0 text

-- a number of these bounds, however many digits it has
abbrev pub number_in : ℕ → ℕ → List ℕ → Result ℕ Why
number_in least greatest text =
    if is_number text then (if nat_le least (number_value text) && nat_le (number_value text) greatest then Ok (number_value text) else Err OutOfRange)
    else Err Malformed

-- a to z, 0 to 9 and _, and at least one of them
abbrev pub is_name_word : List ℕ → Bool
is_name_word text = not (length text == 0) && list_all is_name_code text

-- a name; one of more than 32 bytes is out of range
abbrev pub name_in : List ℕ → Result (List ℕ) Why
name_in text = if is_name_word text then (if nat_le (length text) 32 then Ok text else Err OutOfRange) else Err Malformed
