-- Which lines spell which words, apart from how a line is read.
use Rattle.std.specs.Prelude.{◌≡◌, ◌≢◌, ℕ, ◌+◌, ◌*◌, true, false, Some, List, [], ◌∷◌, ◌++◌, ◌==◌, ◌||◌, ◌⊎◌}
use Rattle.schema_lang.specs.declared.line.Word.{Word}
use Rattle.schema_lang.specs.declared.line.Word.TheVariants.{Plain, Payload}
use Rattle.schema_lang.specs.Words.{is_blank, stands_for_itself, hex_digit}

abbrev pub AreBlank : List ℕ → Type 0
AreBlank [] = Unit {0}
AreBlank (byte ∷ rest) = (is_blank byte ≡ true) × AreBlank rest

abbrev pub HaveNoBlank : List ℕ → Type 0
HaveNoBlank [] = Unit {0}
HaveNoBlank (byte ∷ rest) = (is_blank byte ≡ false) × HaveNoBlank rest

-- a plain word has at least one byte and no blank, and does not begin with a quote
abbrev pub IsPlainText : List ℕ → Type 0
IsPlainText [] = ⊥
IsPlainText (byte ∷ rest) = (is_blank byte ≡ false) × (byte ≢ 34) × HaveNoBlank rest

-- a byte in a payload: as it stands, behind a backslash, or by two hexadecimal digits
abbrev pub IsHexByte : List ℕ → ℕ → Type 0
IsHexByte text byte =
    (high : ℕ) × (low : ℕ) × (h : ℕ) × (l : ℕ)
    × (text ≡ 92 ∷ 120 ∷ high ∷ low ∷ []) × (hex_digit high ≡ Some h) × (hex_digit low ≡ Some l) × (byte ≡ 16 * h + l)

abbrev pub SpellsByte : List ℕ → ℕ → Type 0
SpellsByte text byte =
    ((text ≡ byte ∷ []) × (stands_for_itself byte ≡ true))
    ⊎ (((text ≡ 92 ∷ byte ∷ []) × (((byte == 34) || (byte == 92)) ≡ true)) ⊎ IsHexByte text byte)

-- the text between the quotes of a payload
abbrev pub SpellsBytes : List ℕ → List ℕ → Type 0
SpellsBytes text [] = text ≡ []
SpellsBytes text (byte ∷ bytes) = (front : List ℕ) × (rest : List ℕ) × (text ≡ front ++ rest) × SpellsByte front byte × SpellsBytes rest bytes

abbrev pub SpellsWord : List ℕ → Word → Type 0
SpellsWord text (Plain word) = (text ≡ word) × IsPlainText word
SpellsWord text (Payload bytes) = (inner : List ℕ) × (text ≡ 34 ∷ (inner ++ 34 ∷ [])) × SpellsBytes inner bytes

-- the end of the line, or a blank
abbrev pub EndsWord : List ℕ → Type 0
EndsWord [] = Unit {0}
EndsWord (byte ∷ rest) = is_blank byte ≡ true

-- a line of these words, with blanks between them and maybe at either end
abbrev pub SpellsWords : List ℕ → List Word → Type 0
SpellsWords line [] = AreBlank line
SpellsWords line (word ∷ more) =
    (before : List ℕ) × (text : List ℕ) × (rest : List ℕ)
    × (line ≡ before ++ (text ++ rest)) × AreBlank before × SpellsWord text word × EndsWord rest × SpellsWords rest more
