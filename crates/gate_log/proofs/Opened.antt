-- What stands behind an open gate, from the six bytes that are read there.
use Rattle.std.proofs.Common.{◌≡◌, ⊎_elim, ℕ, zero, suc, ◌+◌, ◌^◌, ◌<◌, ◌≤◌, List, [], ◌∷◌, ◌++◌, length, get_or, take, drop, refl, sym, ◌∙◌, ap, subst, arith, append_assoc, length-append, length-take, length-drop, take-append-drop}
use Rattle.std.specs.Int.{w16, w32, to_be_bytes, from_be_bytes}
use Rattle.std.proofs.lemmas.Nat.{be_bytes_2, be_bytes_4, from_be_bytes-to_be_bytes_2, from_be_bytes-to_be_bytes_4}
use Rattle.std.proofs.lemmas.List.{drop_more, get_or-take, get_or-drop}
use Rattle.gate_log.specs.declared.lengths.Lengths.{Lengths}
use Rattle.gate_log.specs.Records.{body}
use Rattle.gate_log.specs.Opening.{Fits, IsUnfit}
use Rattle.gate_log.specs.Looking.{Told, TellNone, OpenAt, BrokenAt}
use Rattle.gate_log.proofs.Rows.{length-body}

-- the byte that is read at a place
pub gate_read : (bytes gate : List ℕ) (at : ℕ) → gate ≡ take 1 (drop at bytes) → at < length bytes → get_or gate 0 0 ≡ 165 → drop at bytes ≡ 165 ∷ drop (at + 1) bytes
gate_read bytes gate at read within opened =
    let value : get_or bytes at 0 ≡ 165 =
    sym (get_or-drop at bytes 0 0 ∙ ap (λ (k : ℕ). get_or bytes k 0) (let e : at + 0 ≡ at = omega arith in e))
    ∙ sym (get_or-take 1 (drop at bytes) 0 0 (omega arith)) ∙ ap (λ (l : List ℕ). get_or l 0 0) (sym read) ∙ opened in
    drop_more bytes at 0 within ∙ ap (λ (v : ℕ). v ∷ drop (at + 1) bytes) value

length-fits : (head payload rest : List ℕ) → Fits head payload rest → 7 + length head + length payload ≤ length rest
length-fits head payload rest fits =
    omega (arith, ap length fits.split, length-append (body head payload) (fits.gate ∷ fits.tail), length-body head payload)

pub short_unfit : (rest : List ℕ) → length rest < 6 → IsUnfit rest
short_unfit rest short head payload fits = omega (arith, length-fits head payload rest fits)

first_six : (head payload behind : List ℕ) → take 6 (body head payload ++ behind) ≡ to_be_bytes w32 (2 + length head + length payload) ++ to_be_bytes w16 (length head)
unfolding body
first_six head payload behind = refl

pub none_unfit : (start rest : List ℕ) (room : ℕ) → length rest ≡ room → start ≡ take 6 rest → TellNone start room → IsUnfit rest
none_unfit start rest room long read none head payload fits =
    let n = 2 + length head + length payload in
    let six : start ≡ to_be_bytes w32 (2 + length head + length payload) ++ to_be_bytes w16 (length head) = read ∙ ap (λ (l : List ℕ). take 6 l) fits.split ∙ first_six head payload (fits.gate ∷ fits.tail) in
    let body_length : from_be_bytes w32 (take 4 start) ≡ 2 + length head + length payload =
    ap (λ (l : List ℕ). from_be_bytes w32 (take 4 l)) six ∙ from_be_bytes-to_be_bytes_4 (2 + length head + length payload) fits.bounded.body_length in
    let head_length : from_be_bytes w16 (drop 4 start) ≡ length head = ap (λ (l : List ℕ). from_be_bytes w16 (drop 4 l)) six ∙ from_be_bytes-to_be_bytes_2 (length head) fits.bounded.head_length in
    let size = length-fits head payload rest fits in
    ⊎_elim (λ under. clash _ _ _ _ body_length head_length under) (λ over. beyond _ _ _ _ body_length size (subst (λ (k : ℕ). k < 5 + from_be_bytes w32 (take 4 start)) (sym long) over)) none
  where
    clash : (b h x y : ℕ) → b ≡ 2 + x + y → h ≡ x → b < 2 + h → ⊥
    clash b h x y e1 e2 lt = omega arith

    beyond : (b x y r : ℕ) → b ≡ 2 + x + y → 7 + x + y ≤ r → r < 5 + b → ⊥
    beyond b x y r e1 le lt = omega arith

-- the body, once its two lengths are spelled so
body_is : (head payload four two : List ℕ) → to_be_bytes w32 (2 + length head + length payload) ≡ four → to_be_bytes w16 (length head) ≡ two → body head payload ≡ four ++ two ++ head ++ payload
unfolding body
body_is head payload four two e1 e2 =
    ap (λ (l : List ℕ). l ++ to_be_bytes w16 (length head) ++ head ++ payload) e1 ∙ ap (λ (l : List ℕ). four ++ l ++ head ++ payload) e2

-- what is not empty has a first byte
first_of : (xs : List ℕ) → 1 ≤ length xs → (v : ℕ) × (l : List ℕ) × (xs ≡ v ∷ l)
first_of [] some = absurd (omega arith)
first_of (v ∷ l) some = (v, l, refl)

byte_of : (xs : List ℕ) → ((i : ℕ) → get_or xs i 0 < 256) → (n : ℕ) → (i : ℕ) → get_or (drop n xs) i 0 < 256
byte_of xs small n i = subst (λ (k : ℕ). k < 256) (sym (get_or-drop n xs i 0)) (small (n + i))

byte_of_front : (xs : List ℕ) → ((i : ℕ) → get_or xs i 0 < 256) → (n : ℕ) → (i : ℕ) → get_or (take n xs) i 0 < 256
byte_of_front [] small zero i = omega arith
byte_of_front (x ∷ xs) small zero i = omega arith
byte_of_front [] small (suc n) i = omega arith
byte_of_front (x ∷ xs) small (suc n) zero = small 0
byte_of_front (x ∷ xs) small (suc n) (suc i) = byte_of_front xs (λ k. small (suc k)) n i

module _ (bytes start : List ℕ) (at room : ℕ) (lengths : Lengths) (opened : drop at bytes ≡ 165 ∷ drop (at + 1) bytes) (long : length (drop (at + 1) bytes) ≡ room)
    (read : start ≡ take 6 (drop (at + 1) bytes)) (told : Told start room lengths) where
  pub open_at : OpenAt at lengths bytes
  open_at =
      let rest = drop (at + 1) bytes in
      let fields = drop 6 rest in
      let head = take lengths.head fields in
      let behind = drop lengths.head fields in
      let payload = take lengths.payload behind in
      let after = drop lengths.payload behind in
      let six : length start ≡ 6 = omega (arith, ap length read, length-take 6 (drop (at + 1) bytes), long, told.within) in
      let field_size = length-drop 6 (drop (at + 1) bytes) in
      let head_size : length (take lengths.head (drop 6 (drop (at + 1) bytes))) ≡ lengths.head = omega (arith, length-take lengths.head (drop 6 (drop (at + 1) bytes)), field_size, long, told.within) in
      let behind_size = length-drop lengths.head (drop 6 (drop (at + 1) bytes)) in
      let payload_size : length (take lengths.payload (drop lengths.head (drop 6 (drop (at + 1) bytes)))) ≡ lengths.payload =
      omega (arith, length-take lengths.payload (drop lengths.head (drop 6 (drop (at + 1) bytes))), behind_size, field_size, long, told.within) in
      let last = first_of after (omega (arith, length-drop lengths.payload (drop lengths.head (drop 6 (drop (at + 1) bytes))), behind_size, field_size, long, told.within)) in
      let four : to_be_bytes w32 (2 + lengths.head + lengths.payload) ≡ take 4 start =
      be_bytes_4 (take 4 start) (2 + lengths.head + lengths.payload) (omega (arith, length-take 4 start, six)) (byte_of_front start told.bytes 4) (sym told.body_length) in
      let two : to_be_bytes w16 lengths.head ≡ drop 4 start =
      be_bytes_2 (drop 4 start) lengths.head (omega (arith, length-drop 4 start, six)) (byte_of start told.bytes 4) (sym told.head_length) in
      let spelled_body : body head payload ≡ take 4 start ++ drop 4 start ++ head ++ payload =
      body_is head payload (take 4 start) (drop 4 start)
      (ap (λ (k : ℕ). to_be_bytes w32 (2 + k + length payload)) head_size ∙ ap (λ (k : ℕ). to_be_bytes w32 (2 + lengths.head + k)) payload_size ∙ four)
      (ap (λ (k : ℕ). to_be_bytes w16 k) head_size ∙ two) in
      let parts : rest ≡ body head payload ++ last.0 ∷ last.1 =
      sym (take-append-drop 6 rest)
      ∙ ap (λ (l : List ℕ). l ++ fields) (sym read)
      ∙ ap (λ (l : List ℕ). start ++ l) (sym (take-append-drop lengths.head fields))
      ∙ ap (λ (l : List ℕ). start ++ (head ++ l)) (sym (take-append-drop lengths.payload behind))
      ∙ ap (λ (l : List ℕ). start ++ (head ++ (payload ++ l))) last.2
      ∙ sym (regroup start head payload (last.0 ∷ last.1))
      ∙ ap (λ (l : List ℕ). l ++ head ++ payload ++ last.0 ∷ last.1) (sym (take-append-drop 4 start))
      ∙ ap (λ (l : List ℕ). l ++ last.0 ∷ last.1) (sym spelled_body) in
      record {
        rest = rest;
        split = opened;
        head = head;
        payload = payload;
        head_length = head_size;
        payload_length = payload_size;
        fits = record {
          bounded = record {
            head_length = subst (λ (k : ℕ). k < 2 ^ 16) (sym head_size) told.head_small;
            body_length = omega (arith, head_size, payload_size, told.body_small);
          };
          gate = last.0;
          tail = last.1;
          split = parts;
        };
      }
    where
      regroup : (a b c d : List ℕ) → a ++ b ++ c ++ d ≡ a ++ (b ++ (c ++ d))
      regroup a b c d = append_assoc (a ++ b) c d ∙ append_assoc a b (c ++ d)

pub broken_at : (bytes start : List ℕ) (at room : ℕ) → drop at bytes ≡ 165 ∷ drop (at + 1) bytes → length (drop (at + 1) bytes) ≡ room
    → start ≡ take 6 (drop (at + 1) bytes) → TellNone start room → BrokenAt at bytes
broken_at bytes start at room opened long read none = record { rest = drop (at + 1) bytes; split = opened; unfit = none_unfit start (drop (at + 1) bytes) room long read none }

pub cut_off : (bytes : List ℕ) (at : ℕ) → drop at bytes ≡ 165 ∷ drop (at + 1) bytes → length (drop (at + 1) bytes) < 6 → BrokenAt at bytes
cut_off bytes at opened short = record { rest = drop (at + 1) bytes; split = opened; unfit = short_unfit (drop (at + 1) bytes) short }
