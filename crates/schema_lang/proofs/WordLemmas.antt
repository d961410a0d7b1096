-- How the words of a line are read from its front.
use Rattle.std.proofs.Common.{◌≡◌, ℕ, ◌+◌, ◌*◌, ◌<◌, ◌≤◌, Bool, true, false, cond, Option, Some, None, option_map, eqb, get_or, List, [], ◌∷◌, ◌++◌, length, take, drop, refl, sym, ap, subst, ◌∙◌, ⊎_elim, ◌⊎◌, inl, inr, append_assoc, arith}
use Rattle.std.specs.List.{position_or_len}
use Rattle.schema_lang.specs.declared.line.Word.{Word}
use Rattle.schema_lang.specs.declared.line.Word.TheVariants.{Plain, Payload}
use Rattle.schema_lang.specs.Words.{is_blank, is_skipped, words, within_plain, within_payload, behind_payload, behind_backslash, behind_x, behind_high, with_word, without_blanks, payload_byte, escaped_byte, hex_byte, hex_digit, stands_for_itself, after_quote, StartsWord}
use Rattle.std.specs.Prelude.{slice_get, option_and_then, ◌||◌}
use Rattle.std.proofs.lemmas.Bool.{eqb-true, false_from_ne_true}
use Rattle.std.proofs.lemmas.List.{append-nil}
use Rattle.std.proofs.lemmas.List.Sums.{prefix_len-le-length}
use Rattle.std.proofs.Math.Bool.{not}
use Rattle.std.proofs.Math.Numerals.{one-add}

pub either_bool : (b : Bool) → (b ≡ true) ⊎ (b ≡ false)
either_bool true = inl refl
either_bool false = inr refl

pub words-without_blanks : (line : List ℕ) → words (without_blanks line) ≡ words line
unfolding words
words-without_blanks [] = refl
words-without_blanks (byte ∷ rest) =
    ⊎_elim (λ yes. rw yes (words-without_blanks rest)) (λ no. rw no (rw no refl)) (either_bool (is_blank byte))

-- what the first byte that is no blank says of a line
abbrev pub is_skipped_at : Option ℕ → Bool
is_skipped_at None = true
is_skipped_at (Some byte) = eqb byte 35

is_skipped_front : (line : List ℕ) → is_skipped line ≡ is_skipped_at (slice_get (without_blanks line) 0)
is_skipped_front [] = refl
is_skipped_front (byte ∷ rest) =
    ⊎_elim (λ yes. rw yes (is_skipped_front rest)) (λ other. rw other refl) (either_bool (is_blank byte))

pub is_skipped_by : (line text : List ℕ) (first : Option ℕ) → text ≡ without_blanks line → first ≡ slice_get text 0 → is_skipped line ≡ is_skipped_at first
is_skipped_by line text first is at = rw (at, is) (is_skipped_front line)

pub StartsWord-without_blanks : (line : List ℕ) → 0 < length (without_blanks line) → StartsWord (without_blanks line)
StartsWord-without_blanks [] some = absurd (omega arith)
StartsWord-without_blanks (byte ∷ rest) some =
    ⊎_elim (λ yes. rw yes (StartsWord-without_blanks rest (rw yes at some))) (λ other. rw other (omega arith, other)) (either_bool (is_blank byte))

pub words_quote : (text : List ℕ) → 0 < length text → get_or text 0 0 ≡ 34 → words text ≡ within_payload [] (drop 1 text)
unfolding words
words_quote [] some quote = absurd (omega arith)
words_quote (byte ∷ rest) some quote = rw quote refl

-- words found before and those of the rest
pub front_none : (found : List Word) (more : Option (List Word)) → found ≡ [] → option_map (λ (words' : List Word). found ++ words') more ≡ more
front_none found None empty = refl
front_none found (Some ws) empty = rw empty refl

pub front_more : (found : List Word) (word : Word) (more : Option (List Word)) → option_map (λ (words' : List Word). (found ++ word ∷ []) ++ words') more ≡ option_map (λ (words' : List Word). found ++ words') (with_word word more)
front_more found word None = refl
front_more found word (Some ws) = simp append_assoc

pub front_all : (found : List Word) (rest : List ℕ) → length rest ≡ 0 → option_map (λ (words' : List Word). found ++ words') (words rest) ≡ Some found
unfolding words
front_all found [] none = ap (λ (ws : List Word). Some ws) (append-nil found)
front_all found (byte ∷ rest) none = absurd (omega arith)

pub front_step : (found : List Word) (word : Word) (pushed : List Word) (line rest after next : List ℕ) → pushed ≡ found ++ word ∷ [] → words rest ≡ with_word word (words after) → next ≡ without_blanks after
    → option_map (λ (more : List Word). found ++ more) (words rest) ≡ words line → option_map (λ (more : List Word). pushed ++ more) (words next) ≡ words line
front_step found word pushed line rest after next push read skip so_far =
    rw (push, skip, words-without_blanks) (front_more found word (words after) ∙ rw (← read) so_far)

-- a plain word ends before the first blank
pub within_plain_cut : (text rest : List ℕ) → within_plain text rest ≡ with_word (Plain (text ++ take (position_or_len is_blank rest) rest)) (words (drop (position_or_len is_blank rest) rest))
unfolding words
within_plain_cut text [] = ap (λ (t : List ℕ). Some (Plain t ∷ [])) (sym (append-nil text))
within_plain_cut text (byte ∷ rest) =
    ⊎_elim
    (λ yes. rw yes (rw yes (ap (λ (t : List ℕ). with_word (Plain t) (words rest)) (sym (append-nil text)))))
    (λ no. rw no (rw (one-add, within_plain_cut (text ++ byte ∷ []) rest) (simp append_assoc)))
    (either_bool (is_blank byte))

words_plain_cons : (byte : ℕ) (rest : List ℕ) → is_blank byte ≡ false → eqb byte 34 ≡ false → words (byte ∷ rest) ≡ with_word (Plain (take (position_or_len is_blank (byte ∷ rest)) (byte ∷ rest))) (words (drop (position_or_len is_blank (byte ∷ rest)) (byte ∷ rest)))
unfolding words
words_plain_cons byte rest word plain = rw (word, plain, one-add, within_plain_cut (byte ∷ []) rest) refl

pub words_plain : (text : List ℕ) → StartsWord text → (get_or text 0 0 ≡ 34 → ⊥) → words text ≡ with_word (Plain (take (position_or_len is_blank text) text)) (words (drop (position_or_len is_blank text) text))
words_plain [] starts plain = absurd (omega (arith, starts.0))
words_plain (byte ∷ rest) starts plain = words_plain_cons byte rest starts.1 (false_from_ne_true _ (λ same. plain (eqb-true byte 34 same)))

pub plain_length_within : (text : List ℕ) → StartsWord text → (position_or_len is_blank text ≤ length text) × (0 < position_or_len is_blank text)
plain_length_within [] starts = absurd (omega (arith, starts.0))
plain_length_within (byte ∷ rest) starts = rw starts.1 (omega (arith, prefix_len-le-length (λ b. not (is_blank b)) rest), omega arith)

some_injective : {A : Type 0} (x y : A) → Some x ≡ Some y → x ≡ y
some_injective x y same = cc

-- which way a chain of tests went, by what it gave
module _ {A : Type 0} (b c : Bool) (e : Option A) (x y : A) where
  picked : cond b e (cond c (Some x) None) ≡ Some y → ((b ≡ true) × (e ≡ Some y)) ⊎ ((b ≡ false) × (c ≡ true) × (x ≡ y))
  picked found = ⊎_elim
      (λ yes. inl (yes, rw yes at found))
      (λ other. let found' = rw other at found in ⊎_elim
      (λ yes. inr (other, yes, some_injective x y (rw yes at found')))
      (λ neither. let wrong = rw neither at found' in cc)
      (either_bool c))
      (either_bool b)

  picked_first : cond b (Some x) (cond c e None) ≡ Some y → ((b ≡ true) × (x ≡ y)) ⊎ ((b ≡ false) × (c ≡ true) × (e ≡ Some y))
  picked_first found = ⊎_elim
      (λ yes. inl (yes, some_injective x y (rw yes at found)))
      (λ other. let found' = rw other at found in ⊎_elim
      (λ yes. inr (other, yes, rw yes at found'))
      (λ neither. let wrong = rw neither at found' in cc)
      (either_bool c))
      (either_bool b)

  picked_none : cond b e (cond c (Some x) None) ≡ None → ((b ≡ true) × (e ≡ None)) ⊎ ((b ≡ false) × (c ≡ false))
  picked_none found = ⊎_elim
      (λ yes. inl (yes, rw yes at found))
      (λ other. let found' = rw other at found in ⊎_elim
      (λ yes. let wrong = rw yes at found' in cc)
      (λ neither. inr (other, neither))
      (either_bool c))
      (either_bool b)

  picked_first_none : cond b (Some x) (cond c e None) ≡ None → (b ≡ false) × ((c ≡ false) ⊎ ((c ≡ true) × (e ≡ None)))
  picked_first_none found = ⊎_elim
      (λ yes. let wrong = rw yes at found in cc)
      (λ other. let found' = rw other at found in (
        other,
        ⊎_elim
            (λ yes. inr (yes, rw yes at found'))
            (λ neither. inl neither)
            (either_bool c),
      ))
      (either_bool b)

-- the rest behind a byte is that of the payload with the byte, and shorter
abbrev Goes : Option (List Word) → List ℕ → List ℕ → ℕ → List ℕ → Type 0
Goes there bytes text byte rest = (there ≡ within_payload (bytes ++ byte ∷ []) rest) × (length rest < length text)

abbrev pair : ℕ → List ℕ → ℕ × List ℕ
pair byte rest = (byte, rest)

goes_at : (there : Option (List Word)) (bytes text : List ℕ) (found byte : ℕ) (more rest : List ℕ) → pair found more ≡ pair byte rest
    → there ≡ within_payload (bytes ++ found ∷ []) more → length more < length text → Goes there bytes text byte rest
goes_at there bytes text found byte more rest same is shorter =
    subst (λ (p : ℕ × List ℕ). Goes there bytes text p.0 p.1) same (is, shorter)

hex_parts : (bytes more : List ℕ) (byte : ℕ) (rest : List ℕ) (o p : Option ℕ) → option_and_then (λ h. option_map (λ l. pair (16 * h + l) more) p) o ≡ Some (pair byte rest)
    → Goes (option_and_then (λ h. option_and_then (λ l. within_payload (bytes ++ (16 * h + l) ∷ []) more) p) o) bytes (0 ∷ more) byte rest
hex_parts bytes more byte rest None p found = cc
hex_parts bytes more byte rest (Some h) None found = cc
hex_parts bytes more byte rest (Some h) (Some l) found =
    goes_at _ bytes (0 ∷ more) (16 * h + l) byte more rest (some_injective _ _ found) refl (omega arith)

hex_step : (bytes text : List ℕ) (byte : ℕ) (rest : List ℕ) → hex_byte text ≡ Some (byte, rest) → Goes (behind_x bytes text) bytes text byte rest
unfolding words
hex_step bytes [] byte rest found = cc
hex_step bytes (high ∷ []) byte rest found = cc
hex_step bytes (high ∷ low ∷ more) byte rest found =
    let parts = hex_parts bytes more byte rest (hex_digit high) (hex_digit low) found in (parts.0, omega (arith, parts.1))

escape_step : (bytes text : List ℕ) (byte : ℕ) (rest : List ℕ) → escaped_byte text ≡ Some (byte, rest) → Goes (behind_backslash bytes text) bytes text byte rest
unfolding words
escape_step bytes [] byte rest found = cc
escape_step bytes (first ∷ more) byte rest found =
    ⊎_elim
    (λ quoted. goes_at (behind_backslash bytes (first ∷ more)) bytes (first ∷ more) first byte more rest quoted.1 (rw quoted.0 refl) (omega arith))
    (λ hex. let step = hex_step bytes more byte rest hex.2 in (rw (hex.0, hex.1) step.0, omega (arith, step.1)))
    (picked_first (eqb first 34 || eqb first 92) (eqb first 120) (hex_byte more) (pair first more) (pair byte rest) found)

backslash_step : (bytes more : List ℕ) (first byte : ℕ) (rest : List ℕ) → first ≡ 92 → escaped_byte more ≡ Some (byte, rest) → Goes (within_payload bytes (first ∷ more)) bytes (first ∷ more) byte rest
unfolding words
backslash_step bytes more first byte rest is found = let step = escape_step bytes more byte rest found in (rw is step.0, omega (arith, step.1))

itself_is_no_quote : (first : ℕ) → stands_for_itself first ≡ true → eqb first 34 ≡ false
itself_is_no_quote first itself = false_from_ne_true _ (λ quote. let is : first ≡ 34 = eqb-true first 34 quote in let wrong = rw is at itself in cc)

third_of : {A : Type 0} (q b s : Bool) (x y z w : A) → q ≡ false → b ≡ false → s ≡ true → cond q x (cond b y (cond s z w)) ≡ z
third_of q b s x y z w first second third = rw (first, second, third) refl

pub itself_step : (bytes more : List ℕ) (first : ℕ) → eqb first 92 ≡ false → stands_for_itself first ≡ true → within_payload bytes (first ∷ more) ≡ within_payload (bytes ++ first ∷ []) more
unfolding words
itself_step bytes more first other itself = third_of (eqb first 34) (eqb first 92) (stands_for_itself first) (behind_payload bytes more) (behind_backslash bytes more) (within_payload (bytes ++ first ∷ []) more) None (itself_is_no_quote first itself) other itself

-- one byte of a payload
pub within_payload_step : (bytes text : List ℕ) (byte : ℕ) (rest : List ℕ) → payload_byte text ≡ Some (byte, rest)
    → (within_payload bytes text ≡ within_payload (bytes ++ byte ∷ []) rest) × (length rest < length text)
within_payload_step bytes [] byte rest found = cc
within_payload_step bytes (first ∷ more) byte rest found =
    ⊎_elim
    (λ escaped. backslash_step bytes more first byte rest (eqb-true first 92 escaped.0) escaped.1)
    (λ plain. goes_at (within_payload bytes (first ∷ more)) bytes (first ∷ more) first byte more rest plain.2 (itself_step bytes more first plain.0 plain.1) (omega arith))
    (picked (eqb first 92) (stands_for_itself first) (escaped_byte more) (pair first more) (pair byte rest) found)

hex_parts_none : (bytes more : List ℕ) (o p : Option ℕ) → option_and_then (λ h. option_map (λ l. pair (16 * h + l) more) p) o ≡ None
    → option_and_then (λ h. option_and_then (λ l. within_payload (bytes ++ (16 * h + l) ∷ []) more) p) o ≡ None
hex_parts_none bytes more None p stop = refl
hex_parts_none bytes more (Some h) None stop = refl
hex_parts_none bytes more (Some h) (Some l) stop = cc

nothing_behind : (bytes : List ℕ) (o : Option ℕ) → option_and_then (λ h. behind_high h bytes []) o ≡ None
unfolding words
nothing_behind bytes None = refl
nothing_behind bytes (Some h) = refl

hex_none : (bytes text : List ℕ) → hex_byte text ≡ None → behind_x bytes text ≡ None
unfolding words
hex_none bytes [] stop = refl
hex_none bytes (high ∷ []) stop = nothing_behind bytes (hex_digit high)
hex_none bytes (high ∷ low ∷ more) stop = hex_parts_none bytes more (hex_digit high) (hex_digit low) stop

escape_none : (bytes text : List ℕ) → escaped_byte text ≡ None → behind_backslash bytes text ≡ None
unfolding words
escape_none bytes [] stop = refl
escape_none bytes (first ∷ more) stop =
    let way = picked_first_none (eqb first 34 || eqb first 92) (eqb first 120) (hex_byte more) (pair first more) (pair first more) stop in
    rw way.0 (⊎_elim (λ other. rw other refl) (λ hex. rw hex.0 (hex_none bytes more hex.1)) way.1)

quote_none : (bytes rest : List ℕ) → after_quote (34 ∷ rest) ≡ None → behind_payload bytes rest ≡ None
unfolding words
quote_none bytes [] none = cc
quote_none bytes (next ∷ more) none =
    ⊎_elim (λ blank. let wrong = rw blank at none in cc) (λ other. rw other refl) (either_bool (is_blank next))

last_of : {A : Type 0} (q b s : Bool) (x y z w : A) → q ≡ false → b ≡ false → s ≡ false → cond q x (cond b y (cond s z w)) ≡ w
last_of q b s x y z w first second third = rw (first, second, third) refl

-- where no byte of a payload and no closing quote stands
pub within_payload_none : (bytes text : List ℕ) → payload_byte text ≡ None → after_quote text ≡ None → within_payload bytes text ≡ None
unfolding words
within_payload_none bytes [] stop none = refl
within_payload_none bytes (first ∷ more) stop none =
    ⊎_elim
    (λ quote. let is : first ≡ 34 = eqb-true first 34 quote in rw quote (quote_none bytes more (subst (λ (b : ℕ). after_quote (b ∷ more) ≡ None) is none)))
    (λ other. ⊎_elim
    (λ escaped. rw (other, escaped.0) (escape_none bytes more escaped.1))
    (λ neither. last_of (eqb first 34) (eqb first 92) (stands_for_itself first) (behind_payload bytes more) (behind_backslash bytes more) (within_payload (bytes ++ first ∷ []) more) None other neither.0 neither.1)
    (picked_none (eqb first 92) (stands_for_itself first) (escaped_byte more) (pair first more) (pair first more) stop))
    (either_bool (eqb first 34))

-- behind a closing quote
pub within_payload_end : (bytes text rest : List ℕ) → after_quote text ≡ Some rest → within_payload bytes text ≡ with_word (Payload bytes) (words rest)
unfolding words
within_payload_end bytes [] rest found = cc
within_payload_end bytes (byte ∷ []) rest found =
    ⊎_elim
    (λ yes. rw yes (let same : [] ≡ rest = some_injective [] rest (rw yes at found) in rw (← same) refl))
    (λ other. let impossible = rw other at found in cc)
    (either_bool (eqb byte 34))
within_payload_end bytes (byte ∷ next ∷ more) rest found =
    ⊎_elim
    (λ yes. let found' = rw yes at found in rw yes (⊎_elim
    (λ blank. rw blank (let same : next ∷ more ≡ rest = some_injective (next ∷ more) rest (rw blank at found') in rw (← same) (rw blank refl)))
    (λ other. let impossible = rw other at found' in cc)
    (either_bool (is_blank next))))
    (λ other. let impossible = rw other at found in cc)
    (either_bool (eqb byte 34))

-- what follows a closing quote is shorter
pub after_quote_shorter : (text rest : List ℕ) → after_quote text ≡ Some rest → length rest < length text
after_quote_shorter [] rest found = cc
after_quote_shorter (byte ∷ []) rest found =
    ⊎_elim
    (λ yes. let same : [] ≡ rest = some_injective [] rest (rw yes at found) in omega (arith, ap length same))
    (λ other. let impossible = rw other at found in cc)
    (either_bool (eqb byte 34))
after_quote_shorter (byte ∷ next ∷ more) rest found =
    ⊎_elim
    (λ yes. let found' = rw yes at found in ⊎_elim
    (λ blank. let same : next ∷ more ≡ rest = some_injective (next ∷ more) rest (rw blank at found') in omega (arith, ap length same))
    (λ other. let impossible = rw other at found' in cc)
    (either_bool (is_blank next)))
    (λ other. let impossible = rw other at found in cc)
    (either_bool (eqb byte 34))
