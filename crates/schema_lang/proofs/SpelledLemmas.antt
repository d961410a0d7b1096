-- A line that spells words is read as these words.
use Rattle.std.proofs.Common.{◌≡◌, ℕ, ◌+◌, ◌*◌, true, false, eqb, Option, Some, List, [], ◌∷◌, ◌++◌, refl, sym, ap, ◌∙◌, append_assoc, ⊎_elim}
use Rattle.std.specs.Prelude.{option_and_then, ◌||◌}
use Rattle.std.proofs.lemmas.Bool.{eqb-true, false_from_ne_true}
use Rattle.std.proofs.lemmas.List.{append-nil}
use Rattle.schema_lang.specs.declared.line.Word.{Word}
use Rattle.schema_lang.specs.declared.line.Word.TheVariants.{Plain, Payload}
use Rattle.schema_lang.specs.Words.{words, within_plain, within_payload, behind_payload, with_word, hex_digit, stands_for_itself}
use Rattle.schema_lang.specs.Spelled.{AreBlank, HaveNoBlank, IsPlainText, SpellsByte, SpellsBytes, SpellsWord, EndsWord, SpellsWords}
use Rattle.schema_lang.proofs.WordLemmas.{itself_step}

words_behind_blanks : (before rest : List ℕ) → AreBlank before → words (before ++ rest) ≡ words rest
unfolding words
words_behind_blanks [] rest blank = refl
words_behind_blanks (byte ∷ before) rest blank = rw blank.0 (words_behind_blanks before rest blank.1)

words_blank : (line : List ℕ) → AreBlank line → words line ≡ Some []
unfolding words
words_blank [] blank = refl
words_blank (byte ∷ rest) blank = rw blank.0 (words_blank rest blank.1)

plain_ends : (text rest : List ℕ) → EndsWord rest → within_plain text rest ≡ with_word (Plain text) (words rest)
unfolding words
plain_ends text [] ends = refl
plain_ends text (byte ∷ rest) ends = rw ends refl

plain_read : (text word rest : List ℕ) → HaveNoBlank word → EndsWord rest → within_plain text (word ++ rest) ≡ with_word (Plain (text ++ word)) (words rest)
unfolding words
plain_read text [] rest plain ends = plain_ends text rest ends ∙ ap (λ (t : List ℕ). with_word (Plain t) (words rest)) (sym (append-nil text))
plain_read text (byte ∷ word) rest plain ends =
    rw plain.0 (plain_read (text ++ byte ∷ []) word rest plain.1 ends ∙ ap (λ (t : List ℕ). with_word (Plain t) (words rest)) (append_assoc text (byte ∷ []) word))

payload_ends : (bytes rest : List ℕ) → EndsWord rest → behind_payload bytes rest ≡ with_word (Payload bytes) (words rest)
unfolding words
payload_ends bytes [] ends = refl
payload_ends bytes (byte ∷ rest) ends = rw ends refl

escaped_read : (bytes rest : List ℕ) (byte : ℕ) → (eqb byte 34 || eqb byte 92) ≡ true → within_payload bytes (92 ∷ byte ∷ rest) ≡ within_payload (bytes ++ byte ∷ []) rest
unfolding words
escaped_read bytes rest byte escaped = rw escaped refl

hex_read : (bytes rest : List ℕ) (high low h l : ℕ) → hex_digit high ≡ Some h → hex_digit low ≡ Some l → within_payload bytes (92 ∷ 120 ∷ high ∷ low ∷ rest) ≡ within_payload (bytes ++ (16 * h + l) ∷ []) rest
unfolding words
hex_read bytes rest high low h l is_high is_low = digits (hex_digit high) (hex_digit low) is_high is_low
  where
    digits : (one two : Option ℕ) → one ≡ Some h → two ≡ Some l
        → option_and_then (λ a. option_and_then (λ b. within_payload (bytes ++ (16 * a + b) ∷ []) rest) two) one ≡ within_payload (bytes ++ (16 * h + l) ∷ []) rest
    digits one two is_one is_two = rw (is_one, is_two) refl

byte_read : (bytes text rest : List ℕ) (byte : ℕ) → SpellsByte text byte → within_payload bytes (text ++ rest) ≡ within_payload (bytes ++ byte ∷ []) rest
byte_read bytes text rest byte spells =
    ⊎_elim
    (λ plain. ap (λ (t : List ℕ). within_payload bytes (t ++ rest)) plain.0 ∙ itself_step bytes rest byte (no_backslash byte plain.1) plain.1)
    (λ other. ⊎_elim
    (λ escaped. ap (λ (t : List ℕ). within_payload bytes (t ++ rest)) escaped.0 ∙ escaped_read bytes rest byte escaped.1)
    (λ hex. hex_case hex.0 hex.1 hex.2 hex.3 hex.4 hex.5 hex.6 hex.7)
    other)
    spells
  where
    no_backslash : (b : ℕ) → stands_for_itself b ≡ true → eqb b 92 ≡ false
    no_backslash b itself = false_from_ne_true _ (λ same. let is : b ≡ 92 = eqb-true b 92 same in let wrong = rw is at itself in cc)

    hex_case : (high low h l : ℕ) → text ≡ 92 ∷ 120 ∷ high ∷ low ∷ [] → hex_digit high ≡ Some h → hex_digit low ≡ Some l → byte ≡ 16 * h + l → within_payload bytes (text ++ rest) ≡ within_payload (bytes ++ byte ∷ []) rest
    hex_case high low h l is one two value =
        ap (λ (t : List ℕ). within_payload bytes (t ++ rest)) is ∙ hex_read bytes rest high low h l one two ∙ ap (λ (b : ℕ). within_payload (bytes ++ b ∷ []) rest) (sym value)

payload_read : (front inner bytes rest : List ℕ) → SpellsBytes inner bytes → within_payload front (inner ++ 34 ∷ rest) ≡ behind_payload (front ++ bytes) rest
unfolding words
payload_read front inner [] rest spells = rw spells (ap (λ (bs : List ℕ). behind_payload bs rest) (sym (append-nil front)))
payload_read front inner (byte ∷ bytes) rest spells =
    ap (λ (t : List ℕ). within_payload front (t ++ 34 ∷ rest)) spells.2
    ∙ ap (λ (t : List ℕ). within_payload front t) (append_assoc spells.0 spells.1 (34 ∷ rest))
    ∙ byte_read front spells.0 (spells.1 ++ 34 ∷ rest) byte spells.3
    ∙ payload_read (front ++ byte ∷ []) spells.1 bytes rest spells.4
    ∙ ap (λ (bs : List ℕ). behind_payload bs rest) (append_assoc front (byte ∷ []) bytes)

plain_word_read : (word rest : List ℕ) → IsPlainText word → EndsWord rest → words (word ++ rest) ≡ with_word (Plain word) (words rest)
unfolding words
plain_word_read [] rest plain ends = absurd plain
plain_word_read (byte ∷ word) rest plain ends =
    rw (plain.0, false_from_ne_true (eqb byte 34) (λ same. absurd (plain.1 (eqb-true byte 34 same)))) (plain_read (byte ∷ []) word rest plain.2 ends)

word_read : (text rest : List ℕ) (word : Word) → SpellsWord text word → EndsWord rest → words (text ++ rest) ≡ with_word word (words rest)
unfolding words
word_read text rest (Plain word) spells ends = ap (λ (t : List ℕ). words (t ++ rest)) spells.0 ∙ plain_word_read word rest spells.1 ends
word_read text rest (Payload bytes) spells ends =
    ap (λ (t : List ℕ). words (t ++ rest)) spells.1
    ∙ ap (λ (t : List ℕ). within_payload [] t) (append_assoc spells.0 (34 ∷ []) rest)
    ∙ payload_read [] spells.0 bytes rest spells.2
    ∙ payload_ends bytes rest ends

pub words_spelled : (line : List ℕ) (found : List Word) → SpellsWords line found → words line ≡ Some found
words_spelled line [] spells = words_blank line spells
words_spelled line (word ∷ more) spells =
    ap words spells.3
    ∙ words_behind_blanks spells.0 (spells.1 ++ spells.2) spells.4
    ∙ word_read spells.1 spells.2 word spells.5 spells.6
    ∙ ap (with_word word) (words_spelled spells.2 more spells.7)
