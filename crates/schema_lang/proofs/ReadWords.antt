-- The words that are read of a line are spelled by it.
use Rattle.std.proofs.Common.{◌≡◌, ℕ, ◌+◌, ◌*◌, Bool, true, false, cond, eqb, Option, Some, None, List, [], ◌∷◌, ◌++◌, refl, sym, ap, subst, ◌∙◌, append_assoc, inl, inr}
use Rattle.std.specs.Prelude.{option_map, option_and_then, ◌||◌}
use Rattle.std.proofs.lemmas.Bool.{eqb-true, eqb-false}
use Rattle.std.proofs.lemmas.List.{append-nil}
use Rattle.schema_lang.specs.declared.line.Word.{Word}
use Rattle.schema_lang.specs.declared.line.Word.TheVariants.{Plain, Payload}
use Rattle.schema_lang.specs.Words.{words, within_plain, within_payload, behind_payload, behind_backslash, behind_x, behind_high, with_word, hex_digit, stands_for_itself, is_blank}
use Rattle.schema_lang.specs.Spelled.{AreBlank, HaveNoBlank, SpellsByte, SpellsBytes, EndsWord, SpellsWords}

-- a fact of what is there
abbrev pub OfSome : {A : Type 0} → (A → Type 0) → Option A → Type 0
OfSome P None = Unit {0}
OfSome P (Some x) = P x

pub some_cond : {A : Type 0} (P : A → Type 0) (b : Bool) (x y : Option A) → (b ≡ true → OfSome P x) → (b ≡ false → OfSome P y) → OfSome P (cond b x y)
some_cond P true x y one other = one refl
some_cond P false x y one other = other refl

some_weaker : {A : Type 0} (P Q : A → Type 0) (m : Option A) → ((x : A) → P x → Q x) → OfSome P m → OfSome Q m
some_weaker P Q None more is = tt
some_weaker P Q (Some x) more is = more x is

some_word : (P : List Word → Type 0) (word : Word) (m : Option (List Word)) → OfSome (λ more. P (word ∷ more)) m → OfSome P (with_word word m)
some_word P word None is = tt
some_word P word (Some more) is = is

some_then : {A B : Type 0} (P : B → Type 0) (m : Option A) (f : A → Option B) → ((x : A) → m ≡ Some x → OfSome P (f x)) → OfSome P (option_and_then f m)
some_then P None f is = tt
some_then P (Some x) f is = is x refl

blank_before : (byte : ℕ) (rest : List ℕ) (found : List Word) → is_blank byte ≡ true → SpellsWords rest found → SpellsWords (byte ∷ rest) found
blank_before byte rest [] blank is = (blank, is)
blank_before byte rest (word ∷ more) blank is =
    (byte ∷ is.0, is.1, is.2, ap (λ (l : List ℕ). byte ∷ l) is.3, (blank, is.4), is.5, is.6, is.7)

-- the front of a plain word stood before these bytes
abbrev PlainGoesOn : List ℕ → List ℕ → List Word → Type 0
PlainGoesOn text rest found =
    (word : List ℕ) × (after : List ℕ) × (more : List Word) × (found ≡ Plain (text ++ word) ∷ more) × (rest ≡ word ++ after)
    × HaveNoBlank word × EndsWord after × SpellsWords after more

-- the front of a payload stood before these bytes
abbrev PayloadGoesOn : List ℕ → List ℕ → List Word → Type 0
PayloadGoesOn bytes rest found =
    (inner : List ℕ) × (after : List ℕ) × (others : List ℕ) × (more : List Word) × (found ≡ Payload (bytes ++ others) ∷ more)
    × (rest ≡ inner ++ 34 ∷ after) × SpellsBytes inner others × EndsWord after × SpellsWords after more

plain_begins : (byte : ℕ) (rest : List ℕ) (found : List Word) → is_blank byte ≡ false → eqb byte 34 ≡ false → PlainGoesOn (byte ∷ []) rest found → SpellsWords (byte ∷ rest) found
plain_begins byte rest found blank quote is =
    subst (SpellsWords (byte ∷ rest)) (sym is.3)
    ([], byte ∷ is.0, is.1, ap (λ (l : List ℕ). byte ∷ l) is.4, tt, (refl, (blank, eqb-false byte 34 quote, is.5)), is.6, is.7)

plain_grows : (text : List ℕ) (byte : ℕ) (rest : List ℕ) (found : List Word) → is_blank byte ≡ false → PlainGoesOn (text ++ byte ∷ []) rest found → PlainGoesOn text (byte ∷ rest) found
plain_grows text byte rest found blank is =
    (byte ∷ is.0, is.1, is.2, is.3 ∙ ap (λ (t : List ℕ). Plain t ∷ is.2) (append_assoc text (byte ∷ []) is.0), ap (λ (l : List ℕ). byte ∷ l) is.4, (blank, is.5), is.6, is.7)

payload_begins : (rest : List ℕ) (found : List Word) → PayloadGoesOn [] rest found → SpellsWords (34 ∷ rest) found
payload_begins rest found is =
    subst (SpellsWords (34 ∷ rest)) (sym is.4)
    ([], 34 ∷ (is.0 ++ 34 ∷ []), is.1, ap (λ (l : List ℕ). 34 ∷ l) (is.5 ∙ sym (append_assoc is.0 (34 ∷ []) is.1)), tt, (is.0, refl, is.6), is.7, is.8)

payload_grows : (front rest bytes : List ℕ) (byte : ℕ) (found : List Word) → SpellsByte front byte → PayloadGoesOn (bytes ++ byte ∷ []) rest found → PayloadGoesOn bytes (front ++ rest) found
payload_grows front rest bytes byte found spells is = (
  front ++ is.0,
  is.1,
  byte ∷ is.2,
  is.3,
  is.4 ∙ ap (λ (b : List ℕ). Payload b ∷ is.3) (append_assoc bytes (byte ∷ []) is.2),
  ap (λ (l : List ℕ). front ++ l) is.5 ∙ sym (append_assoc front is.0 (34 ∷ is.1)),
  (front, is.0, refl, spells, is.6),
  is.7,
  is.8,
)

mutual
  unfolding words

  pub words_spell : (line : List ℕ) → OfSome (SpellsWords line) (words line)
  words_spell [] = tt
  words_spell (byte ∷ rest) =
      some_cond (SpellsWords (byte ∷ rest)) (is_blank byte) (words rest) _
      (λ blank. some_weaker (SpellsWords rest) (SpellsWords (byte ∷ rest)) (words rest) (λ found is. blank_before byte rest found blank is) (words_spell rest))
      (λ blank. some_cond (SpellsWords (byte ∷ rest)) (eqb byte 34) (within_payload [] rest) (within_plain (byte ∷ []) rest)
      (λ quote. some_weaker (PayloadGoesOn [] rest) (SpellsWords (byte ∷ rest)) (within_payload [] rest)
      (λ found is. subst (λ (b : ℕ). SpellsWords (b ∷ rest) found) (sym (eqb-true byte 34 quote)) (payload_begins rest found is)) (payload_spell [] rest))
      (λ quote. some_weaker (PlainGoesOn (byte ∷ []) rest) (SpellsWords (byte ∷ rest)) (within_plain (byte ∷ []) rest) (λ found is. plain_begins byte rest found blank quote is) (plain_spell (byte ∷ []) rest)))

  plain_spell : (text rest : List ℕ) → OfSome (PlainGoesOn text rest) (within_plain text rest)
  plain_spell text [] = ([], [], [], ap (λ (t : List ℕ). Plain t ∷ []) (sym (append-nil text)), refl, tt, tt, tt)
  plain_spell text (byte ∷ rest) =
      some_cond (PlainGoesOn text (byte ∷ rest)) (is_blank byte) (with_word (Plain text) (words rest)) (within_plain (text ++ byte ∷ []) rest)
      (λ blank. some_word (PlainGoesOn text (byte ∷ rest)) (Plain text) (words rest)
      (some_weaker (SpellsWords rest) (λ more. PlainGoesOn text (byte ∷ rest) (Plain text ∷ more)) (words rest)
      (λ more is. ([], byte ∷ rest, more, ap (λ (t : List ℕ). Plain t ∷ more) (sym (append-nil text)), refl, tt, blank, blank_before byte rest more blank is)) (words_spell rest)))
      (λ blank. some_weaker (PlainGoesOn (text ++ byte ∷ []) rest) (PlainGoesOn text (byte ∷ rest)) (within_plain (text ++ byte ∷ []) rest)
      (λ found is. plain_grows text byte rest found blank is) (plain_spell (text ++ byte ∷ []) rest))

  payload_spell : (bytes rest : List ℕ) → OfSome (PayloadGoesOn bytes rest) (within_payload bytes rest)
  payload_spell bytes [] = tt
  payload_spell bytes (byte ∷ rest) =
      some_cond (PayloadGoesOn bytes (byte ∷ rest)) (eqb byte 34) (behind_payload bytes rest) _
      (λ quote. some_weaker (PayloadGoesOn bytes (34 ∷ rest)) (PayloadGoesOn bytes (byte ∷ rest)) (behind_payload bytes rest)
      (λ found is. subst (λ (b : ℕ). PayloadGoesOn bytes (b ∷ rest) found) (sym (eqb-true byte 34 quote)) is) (quote_spell bytes rest))
      (λ quote. some_cond (PayloadGoesOn bytes (byte ∷ rest)) (eqb byte 92) (behind_backslash bytes rest) _
      (λ slash. some_weaker (PayloadGoesOn bytes (92 ∷ rest)) (PayloadGoesOn bytes (byte ∷ rest)) (behind_backslash bytes rest)
      (λ found is. subst (λ (b : ℕ). PayloadGoesOn bytes (b ∷ rest) found) (sym (eqb-true byte 92 slash)) is) (backslash_spell bytes rest))
      (λ slash. some_cond (PayloadGoesOn bytes (byte ∷ rest)) (stands_for_itself byte) (within_payload (bytes ++ byte ∷ []) rest) None
      (λ itself. some_weaker (PayloadGoesOn (bytes ++ byte ∷ []) rest) (PayloadGoesOn bytes (byte ∷ rest)) (within_payload (bytes ++ byte ∷ []) rest)
      (λ found is. payload_grows (byte ∷ []) rest bytes byte found (inl (refl, itself)) is) (payload_spell (bytes ++ byte ∷ []) rest))
      (λ other. tt)))

  backslash_spell : (bytes rest : List ℕ) → OfSome (PayloadGoesOn bytes (92 ∷ rest)) (behind_backslash bytes rest)
  backslash_spell bytes [] = tt
  backslash_spell bytes (byte ∷ rest) =
      some_cond (PayloadGoesOn bytes (92 ∷ byte ∷ rest)) (eqb byte 34 || eqb byte 92) (within_payload (bytes ++ byte ∷ []) rest) _
      (λ escaped. some_weaker (PayloadGoesOn (bytes ++ byte ∷ []) rest) (PayloadGoesOn bytes (92 ∷ byte ∷ rest)) (within_payload (bytes ++ byte ∷ []) rest)
      (λ found is. payload_grows (92 ∷ byte ∷ []) rest bytes byte found (inr (inl (refl, escaped))) is) (payload_spell (bytes ++ byte ∷ []) rest))
      (λ plain. some_cond (PayloadGoesOn bytes (92 ∷ byte ∷ rest)) (eqb byte 120) (behind_x bytes rest) None
      (λ hex. some_weaker (PayloadGoesOn bytes (92 ∷ 120 ∷ rest)) (PayloadGoesOn bytes (92 ∷ byte ∷ rest)) (behind_x bytes rest)
      (λ found is. subst (λ (b : ℕ). PayloadGoesOn bytes (92 ∷ b ∷ rest) found) (sym (eqb-true byte 120 hex)) is) (x_spell bytes rest))
      (λ other. tt))

  x_spell : (bytes rest : List ℕ) → OfSome (PayloadGoesOn bytes (92 ∷ 120 ∷ rest)) (behind_x bytes rest)
  x_spell bytes [] = tt
  x_spell bytes (high ∷ rest) =
      some_then (PayloadGoesOn bytes (92 ∷ 120 ∷ high ∷ rest)) (hex_digit high) (λ h. behind_high h bytes rest) (λ h is. high_spell high h bytes is rest)

  high_spell : (high h : ℕ) (bytes : List ℕ) → hex_digit high ≡ Some h → (rest : List ℕ) → OfSome (PayloadGoesOn bytes (92 ∷ 120 ∷ high ∷ rest)) (behind_high h bytes rest)
  high_spell high h bytes is_high [] = tt
  high_spell high h bytes is_high (low ∷ rest) =
      some_then (PayloadGoesOn bytes (92 ∷ 120 ∷ high ∷ low ∷ rest)) (hex_digit low) (λ l. within_payload (bytes ++ (16 * h + l) ∷ []) rest)
      (λ l is_low. some_weaker (PayloadGoesOn (bytes ++ (16 * h + l) ∷ []) rest) (PayloadGoesOn bytes (92 ∷ 120 ∷ high ∷ low ∷ rest)) (within_payload (bytes ++ (16 * h + l) ∷ []) rest)
      (λ found is. payload_grows (92 ∷ 120 ∷ high ∷ low ∷ []) rest bytes (16 * h + l) found (inr (inr (high, low, h, l, refl, is_high, is_low, refl))) is)
      (payload_spell (bytes ++ (16 * h + l) ∷ []) rest))

  quote_spell : (bytes rest : List ℕ) → OfSome (PayloadGoesOn bytes (34 ∷ rest)) (behind_payload bytes rest)
  quote_spell bytes [] = ([], [], [], [], ap (λ (b : List ℕ). Payload b ∷ []) (sym (append-nil bytes)), refl, refl, tt, tt)
  quote_spell bytes (byte ∷ rest) =
      some_cond (PayloadGoesOn bytes (34 ∷ byte ∷ rest)) (is_blank byte) (with_word (Payload bytes) (words rest)) None
      (λ blank. some_word (PayloadGoesOn bytes (34 ∷ byte ∷ rest)) (Payload bytes) (words rest)
      (some_weaker (SpellsWords rest) (λ more. PayloadGoesOn bytes (34 ∷ byte ∷ rest) (Payload bytes ∷ more)) (words rest)
      (λ more is. ([], byte ∷ rest, [], more, ap (λ (b : List ℕ). Payload b ∷ more) (sym (append-nil bytes)), refl, refl, blank, blank_before byte rest more blank is)) (words_spell rest)))
      (λ other. tt)

pub read_spells : (line : List ℕ) (found : List Word) → words line ≡ Some found → SpellsWords line found
read_spells line found is = subst (OfSome (SpellsWords line)) is (words_spell line)
