-- What a line of a document says: nothing, words, or no words at all.
use Rattle.std.specs.Prelude.{◌≡◌, ℕ, ◌+◌, ◌-◌, ◌*◌, Bool, true, false, not, Option, Some, None, option_map, option_and_then, ◌<◌, length, slice_index, List, [], ◌∷◌, ◌++◌, ◌==◌, ◌&&◌, ◌||◌, nat_le, if◌then◌else◌}
use Rattle.schema_lang.specs.declared.line.Word.{Word}
use Rattle.schema_lang.specs.declared.line.Word.TheVariants.{Plain, Payload}
use Rattle.schema_lang.specs.declared.line.Line.{Line}
use Rattle.schema_lang.specs.declared.line.Line.TheVariants.{Skipped, Faulty, Words}

-- a space or a tab
abbrev pub is_blank : ℕ → Bool
is_blank byte = (byte == 32) || (byte == 9)

-- a line without words, or one whose first word begins with #
abbrev pub is_skipped : List ℕ → Bool
is_skipped [] = true
is_skipped (byte ∷ rest) = if is_blank byte then is_skipped rest else byte == 35

-- a byte that stands for itself in a payload: 0x20 to 0x7E, but neither a quote nor a backslash
abbrev pub stands_for_itself : ℕ → Bool
stands_for_itself byte = nat_le 32 byte && nat_le byte 126 && not (byte == 34) && not (byte == 92)

-- the value of a hexadecimal digit of either case
abbrev pub hex_digit : ℕ → Option ℕ
hex_digit byte =
    if nat_le 48 byte && nat_le byte 57 then Some (byte - 48)
    else (if nat_le 97 byte && nat_le byte 102 then Some (byte - 87)
    else (if nat_le 65 byte && nat_le byte 70 then Some (byte - 55) else None))

-- a word before the words that follow it
abbrev pub with_word : Word → Option (List Word) → Option (List Word)
with_word word more = option_map (λ words. word ∷ words) more

-- The words of a line, by what its bytes say in turn; None where a payload is malformed. Words are separated by
-- blanks. A word that begins with a quote is a payload, and a blank or the end of the line comes after its
-- closing quote. Any other word is plain, whatever bytes it has. The functions after the first go on within a
-- plain word, within a payload, behind a backslash, behind \x, behind its first digit, and behind a closing quote.
unfoldable mutual
  pub words : List ℕ → Option (List Word)
  words [] = Some []
  words (byte ∷ rest) = if is_blank byte then words rest else (if byte == 34 then within_payload [] rest else within_plain (byte ∷ []) rest)

  pub within_plain : List ℕ → List ℕ → Option (List Word)
  within_plain text [] = Some (Plain text ∷ [])
  within_plain text (byte ∷ rest) = if is_blank byte then with_word (Plain text) (words rest) else within_plain (text ++ byte ∷ []) rest

  pub within_payload : List ℕ → List ℕ → Option (List Word)
  within_payload bytes [] = None
  within_payload bytes (byte ∷ rest) =
      if byte == 34 then behind_payload bytes rest
      else (if byte == 92 then behind_backslash bytes rest
      else (if stands_for_itself byte then within_payload (bytes ++ byte ∷ []) rest else None))

  pub behind_backslash : List ℕ → List ℕ → Option (List Word)
  behind_backslash bytes [] = None
  behind_backslash bytes (byte ∷ rest) =
      if (byte == 34) || (byte == 92) then within_payload (bytes ++ byte ∷ []) rest
      else (if byte == 120 then behind_x bytes rest else None)

  pub behind_x : List ℕ → List ℕ → Option (List Word)
  behind_x bytes [] = None
  behind_x bytes (byte ∷ rest) = option_and_then (λ high. behind_high high bytes rest) (hex_digit byte)

  pub behind_high : ℕ → List ℕ → List ℕ → Option (List Word)
  behind_high high bytes [] = None
  behind_high high bytes (byte ∷ rest) = option_and_then (λ low. within_payload (bytes ++ (16 * high + low) ∷ []) rest) (hex_digit byte)

  pub behind_payload : List ℕ → List ℕ → Option (List Word)
  behind_payload bytes [] = Some (Payload bytes ∷ [])
  behind_payload bytes (byte ∷ rest) = if is_blank byte then with_word (Payload bytes) (words rest) else None

abbrev pub as_line : Option (List Word) → Line
as_line None = Faulty
as_line (Some found) = Words found

-- what a line says
unfoldable pub line_of : List ℕ → Line
line_of line = if is_skipped line then Skipped else as_line (words line)

-- the byte of a payload that the front of these bytes spells, and the bytes behind its spelling; None where
-- none stands there, as before the closing quote
abbrev pub hex_byte : List ℕ → Option (ℕ × List ℕ)
hex_byte [] = None
hex_byte (high ∷ []) = None
hex_byte (high ∷ low ∷ rest) = option_and_then (λ h. option_map (λ l. (16 * h + l, rest)) (hex_digit low)) (hex_digit high)

abbrev pub escaped_byte : List ℕ → Option (ℕ × List ℕ)
escaped_byte [] = None
escaped_byte (byte ∷ rest) = if (byte == 34) || (byte == 92) then Some (byte, rest) else (if byte == 120 then hex_byte rest else None)

abbrev pub payload_byte : List ℕ → Option (ℕ × List ℕ)
payload_byte [] = None
payload_byte (byte ∷ rest) = if byte == 92 then escaped_byte rest else (if stands_for_itself byte then Some (byte, rest) else None)

-- what follows a closing quote at the front, where a blank or the end comes there
abbrev pub after_quote : List ℕ → Option (List ℕ)
after_quote [] = None
after_quote (byte ∷ []) = if byte == 34 then Some [] else None
after_quote (byte ∷ next ∷ rest) = if byte == 34 then (if is_blank next then Some (next ∷ rest) else None) else None

-- a list of bytes from its first byte that is no blank
abbrev pub without_blanks : List ℕ → List ℕ
without_blanks [] = []
without_blanks (byte ∷ rest) = if is_blank byte then without_blanks rest else byte ∷ rest

-- a word begins at the front
abbrev pub StartsWord : List ℕ → Type 0
StartsWord text = (0 < length text) × (is_blank (slice_index text 0) ≡ false)
