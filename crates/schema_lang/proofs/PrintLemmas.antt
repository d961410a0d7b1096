-- A printed line has the words that were printed.
use Rattle.std.proofs.Common.{◌≡◌, ◌≢◌, ℕ, zero, suc, ◌-◌, ◌<◌, ◌≤◌, Bool, true, false, eqb, Some, List, [], ◌∷◌, ◌++◌, length, get_or, map, refl, sym, ap, ◌∙◌, append_assoc, arith}
use Rattle.std.specs.Prelude.{◌&&◌}
use Rattle.std.specs.List.{list_all, flat_map, AllByRecursion}
use Rattle.std.specs.Str.Lines.{lines, strip_carriage_return}
use Rattle.std.proofs.lemmas.Bool.{eqb-true, false_from_ne_true}
use Rattle.std.proofs.lemmas.Bool.Decides.{nat_tests}
use Rattle.std.proofs.lemmas.List.{append-nil}
use Rattle.std.proofs.lemmas.List.Elements.{All-from_recursion}
use Rattle.delf_model.specs.Names.{is_name_code}
use Rattle.schema_lang.specs.declared.line.Word.TheVariants.{Plain}
use Rattle.schema_lang.specs.Words.{is_blank, is_skipped, words, within_plain, line_of}
use Rattle.schema_lang.specs.Rows.{word_text}
use Rattle.schema_lang.specs.Grammar.{said_by}
use Rattle.schema_lang.specs.Spelling.{spaced, printed_line}
use Rattle.schema_lang.proofs.LineLemmas.{lines_at}

pub both_true : (a b : Bool) → (a && b) ≡ true → (a ≡ true) × (b ≡ true)
both_true true true h = (refl, refl)
both_true true false h = cc
both_true false true h = cc
both_true false false h = cc

-- a word of bytes that may stand in a name
pub record IsNamed (word : List ℕ) : Type 0 where
  pub some : 0 < length word
  pub each : list_all is_name_code word ≡ true

-- the words of a printed line
abbrev pub AreNamed : List (List ℕ) → Type 0
AreNamed [] = ⊥
AreNamed (word ∷ others) = IsNamed word × AllByRecursion IsNamed others

name_code-ge : (byte : ℕ) → is_name_code byte ≡ true → 48 ≤ byte
name_code-ge byte named = grind (arith, nat_tests)

apart : (n byte : ℕ) → 48 ≤ byte → n < 48 → eqb byte n ≡ false
apart n byte high low = false_from_ne_true _ (λ same. absurd (omega (arith, eqb-true byte n same)))

no_blank : (byte : ℕ) → 48 ≤ byte → is_blank byte ≡ false
no_blank byte high = rw (apart 32 byte high (omega arith), apart 9 byte high (omega arith)) refl

within_plain_named : (text word tail : List ℕ) → list_all is_name_code word ≡ true → within_plain text (word ++ tail) ≡ within_plain (text ++ word) tail
unfolding words
within_plain_named text [] tail named = ap (λ (t : List ℕ). within_plain t tail) (sym (append-nil text))
within_plain_named text (byte ∷ word) tail named =
    let parts = both_true (is_name_code byte) (list_all is_name_code word) named in
    rw (no_blank byte (name_code-ge byte parts.0)) (within_plain_named (text ++ byte ∷ []) word tail parts.1 ∙ ap (λ (t : List ℕ). within_plain t tail) (append_assoc text (byte ∷ []) word))

words_named : (word tail : List ℕ) → IsNamed word → words (word ++ tail) ≡ within_plain word tail
unfolding words
words_named [] tail named = absurd (omega (arith, named.some))
words_named (byte ∷ word) tail named =
    let parts = both_true (is_name_code byte) (list_all is_name_code word) named.each in
    let high = name_code-ge byte parts.0 in
    rw (no_blank byte high, apart 34 byte high (omega arith)) (within_plain_named (byte ∷ []) word tail parts.1)

words_others : (text : List ℕ) (others : List (List ℕ)) → AllByRecursion IsNamed others → within_plain text (flat_map (λ other. 32 ∷ other) others) ≡ Some (Plain text ∷ map Plain others)
unfolding words
words_others text [] named = refl
words_others text (word ∷ others) named = rw (words_named word (flat_map (λ other. 32 ∷ other) others) named.0, words_others word others named.1) refl

words_spaced : (found : List (List ℕ)) → AreNamed found → words (spaced found) ≡ Some (map Plain found)
words_spaced [] named = absurd named
words_spaced (word ∷ others) named = words_named word (flat_map (λ other. 32 ∷ other) others) named.0 ∙ words_others word others named.1

skipped_named : (word tail : List ℕ) → IsNamed word → is_skipped (word ++ tail) ≡ false
skipped_named [] tail named = absurd (omega (arith, named.some))
skipped_named (byte ∷ word) tail named =
    let high = name_code-ge byte (both_true (is_name_code byte) (list_all is_name_code word) named.each).0 in
    rw (no_blank byte high) (apart 35 byte high (omega arith))

skipped_spaced : (found : List (List ℕ)) → AreNamed found → is_skipped (spaced found) ≡ false
skipped_spaced [] named = absurd named
skipped_spaced (word ∷ others) named = skipped_named word _ named.0

texts_of_plain : (found : List (List ℕ)) → map word_text (map Plain found) ≡ found
texts_of_plain [] = refl
texts_of_plain (word ∷ others) = ap (λ (more : List (List ℕ)). word ∷ more) (texts_of_plain others)

-- what a printed line says
pub said_spaced : (found : List (List ℕ)) → AreNamed found → said_by (line_of (spaced found)) ≡ Some found
unfolding line_of
said_spaced found named = rw (skipped_spaced found named, words_spaced found named) (ap (λ (more : List (List ℕ)). Some more) (texts_of_plain found))

-- bytes above CR
abbrev AreAbove : List ℕ → Type 0
AreAbove [] = Unit {0}
AreAbove (byte ∷ rest) = (13 < byte) × AreAbove rest

above-append : (front rest : List ℕ) → AreAbove front → AreAbove rest → AreAbove (front ++ rest)
above-append [] rest a b = b
above-append (byte ∷ front) rest a b = (a.0, above-append front rest a.1 b)

above_named : (word : List ℕ) → list_all is_name_code word ≡ true → AreAbove word
above_named [] named = tt
above_named (byte ∷ word) named =
    let parts = both_true (is_name_code byte) (list_all is_name_code word) named in
    (omega (arith, name_code-ge byte parts.0), above_named word parts.1)

above_others : (others : List (List ℕ)) → AllByRecursion IsNamed others → AreAbove (flat_map (λ other. 32 ∷ other) others)
above_others [] named = tt
above_others (word ∷ others) named = (omega arith, above-append word _ (above_named word named.0.each) (above_others others named.1))

above_spaced : (found : List (List ℕ)) → AreNamed found → AreAbove (spaced found)
above_spaced [] named = absurd named
above_spaced (word ∷ others) named = above-append word _ (above_named word named.0.each) (above_others others named.1)

above_apart : (line : List ℕ) → AreAbove line → AllByRecursion (λ byte. eqb byte 10 ≡ false) line
above_apart [] above = tt
above_apart (byte ∷ rest) above = (false_from_ne_true _ (λ same. absurd (omega (arith, eqb-true byte 10 same))), above_apart rest above.1)

above_at : (line : List ℕ) (k : ℕ) → AreAbove line → get_or line k 0 ≢ 13
above_at [] k above same = absurd (omega arith)
above_at (byte ∷ rest) zero above same = absurd (omega arith)
above_at (byte ∷ rest) (suc k) above same = above_at rest k above.1 same

kept_whole : (line : List ℕ) → AreAbove line → strip_carriage_return line ≡ line
kept_whole line above = rw (false_from_ne_true (eqb (get_or line (length line - 1) 0) 13) (λ same. absurd (above_at line (length line - 1) above (eqb-true _ 13 same)))) refl

-- the lines that were printed
pub lines_printed : (printed : List (List (List ℕ))) → AllByRecursion AreNamed printed → lines (flat_map printed_line printed) ≡ map spaced printed
lines_printed [] named = refl
lines_printed (found ∷ more) named =
    let above = above_spaced found named.0 in
    ap lines (append_assoc (spaced found) (10 ∷ []) (flat_map printed_line more))
    ∙ lines_at (spaced found) (flat_map printed_line more) (All-from_recursion (λ byte. eqb byte 10 ≡ false) (spaced found) (above_apart (spaced found) above))
    ∙ rw (kept_whole (spaced found) above, lines_printed more named.1) refl
