-- Fields that are read are those that were written, and fields that were written are read again.
use Rattle.std.proofs.Common.{◌≡◌, ℕ, ◌+◌, ◌^◌, ◌<◌, ◌≤◌, Bool, true, false, cond, ltb, eqb, List, [], ◌∷◌, ◌++◌, length, get_or, take, drop, Option, Some, None, refl, sym, ap, subst, ◌∙◌, append_assoc, arith, inl, inr}
use Rattle.std.specs.Int.{Width, w8, w32, w64, byte_len, from_be_bytes, to_be_bytes}
use Rattle.std.proofs.lemmas.Bool.{cases_lt, ltb-true, ltb-false, leb-true, le-ltb, lt-ltb, le-leb, eqb-true, and_parts, and_from}
use Rattle.std.proofs.Common.{eq-eqb}
use Rattle.std.proofs.lemmas.List.{take_at, drop_at, take-append-drop, length-append, length-take, get_or-drop, get_or-take, get_or_past}
use Rattle.std.proofs.lemmas.Nat.{be_bytes_4, be_bytes_8, from_be_bytes-to_be_bytes_4, from_be_bytes-to_be_bytes_8}
use Rattle.entry_codec.specs.Field.{Sort, Kind, TypeNumber, EdgeNumber, Word, Moment, Id, Due, width_of, IsNumber, Field, spelled, AreFields}
use Rattle.entry_codec.specs.Reading.{◌>>=◌, is_number, checked, number_at, fields_at}

abbrev pub IsBytes : List ℕ → Type 0
IsBytes bytes = (i : ℕ) → get_or bytes i 0 < 256

IsBytes-drop : (n : ℕ) (bytes : List ℕ) → IsBytes bytes → IsBytes (drop n bytes)
IsBytes-drop n bytes h i = rw get_or-drop (h (n + i))

IsBytes-take : (n : ℕ) (bytes : List ℕ) → IsBytes bytes → IsBytes (take n bytes)
IsBytes-take n bytes h i =
    elim (cases_lt i n) [
      | inl lt ↦ rw (get_or-take n bytes i 0 lt) (h i)
      | inr le ↦ rw (get_or_past (take n bytes) i 0 (omega (arith, length-take n bytes))) (omega arith)
    ]

-- the value of a step that found one
pub bind_some : {A B : Type 0} (r : Option A) (f : A → Option B) (y : B) → (r >>= f) ≡ Some y → (x : A) × (r ≡ Some x) × (f x ≡ Some y)
bind_some (Some x) f y e = (x, refl, e)
bind_some None f y e = absurd cc

-- a test that must fail for a value
guard_some : {A : Type 0} (b : Bool) (o : Option A) (y : A) → cond b None o ≡ Some y → (b ≡ false) × (o ≡ Some y)
guard_some true o y e = absurd cc
guard_some false o y e = (refl, e)

-- a test that must hold for a value
choice_some : {A : Type 0} (b : Bool) (x y : A) → cond b (Some x) None ≡ Some y → (b ≡ true) × (x ≡ y)
choice_some true x y e = (refl, cc)
choice_some false x y e = absurd cc

-- the parts of a pair that was found
pub some_parts : {A B : Type 0} (p q : A × B) → Some p ≡ Some q → (p.0 ≡ q.0) × (p.1 ≡ q.1)
some_parts {A} {B} p q e =
    let same : p ≡ q = cc in
    (ap (λ (t : A × B). t.0) same, ap (λ (t : A × B). t.1) same)

-- ---- numbers

pub record IsWide (w : Width) (limit : ℕ) : Type 0 where
  pub len : (n : ℕ) → length (to_be_bytes w n) ≡ byte_len w
  pub back : (bytes : List ℕ) → length bytes ≡ byte_len w → IsBytes bytes → to_be_bytes w (from_be_bytes w bytes) ≡ bytes
  pub again : (n : ℕ) → n < limit → from_be_bytes w (to_be_bytes w n) ≡ n
  pub below : (bytes : List ℕ) → IsBytes bytes → from_be_bytes w bytes < limit

back8 : (bytes : List ℕ) → length bytes ≡ 1 → IsBytes bytes → to_be_bytes w8 (from_be_bytes w8 bytes) ≡ bytes
back8 [] len fits = absurd (omega arith)
back8 (b ∷ []) len fits = let lt : b < 256 = fits 0 in ap (λ (x : ℕ). x ∷ []) (omega arith)
back8 (b ∷ c ∷ bs) len fits = absurd (omega arith)

wide8 : IsWide w8 (2 ^ 8)
wide8 = record {
  len = λ n. refl;
  back = back8;
  again = λ n lt. omega arith;
  below = λ bytes fits. omega (arith, fits 0);
}

wide32 : IsWide w32 (2 ^ 32)
wide32 = record {
  len = λ n. refl;
  back = λ bytes len fits. be_bytes_4 bytes _ len fits refl;
  again = λ n lt. from_be_bytes-to_be_bytes_4 n lt;
  below = λ bytes fits. omega (arith, fits 0, fits 1, fits 2, fits 3);
}

wide64 : IsWide w64 (2 ^ 64)
wide64 = record {
  len = λ n. refl;
  back = λ bytes len fits. be_bytes_8 bytes _ len fits refl;
  again = λ n lt. from_be_bytes-to_be_bytes_8 n lt;
  below = λ bytes fits. omega (arith, fits 0, fits 1, fits 2, fits 3, fits 4, fits 5, fits 6, fits 7);
}

-- above each number that the bytes of the field can spell
abbrev pub limit_of : Sort → ℕ
limit_of Kind = 2 ^ 8
limit_of TypeNumber = 2 ^ 8
limit_of EdgeNumber = 2 ^ 8
limit_of Word = 2 ^ 32
limit_of Moment = 2 ^ 64
limit_of Id = 2 ^ 64
limit_of Due = 2 ^ 64

wide : (s : Sort) → IsWide (width_of s) (limit_of s)
wide Kind = wide8
wide TypeNumber = wide8
wide EdgeNumber = wide8
wide Word = wide32
wide Moment = wide64
wide Id = wide64
wide Due = wide64

is_number-true : (s : Sort) (n : ℕ) → n < limit_of s → is_number s n ≡ true → IsNumber s n
is_number-true Kind n lt e = lt
is_number-true TypeNumber n lt e = ltb-true _ _ e
is_number-true EdgeNumber n lt e = lt
is_number-true Word n lt e = lt
is_number-true Moment n lt e = leb-true _ _ e
is_number-true Id n lt e = let both = and_parts _ _ e in (ltb-true _ _ both.0, leb-true _ _ both.1)
is_number-true Due n lt e = lt

IsNumber-test : (s : Sort) (n : ℕ) → IsNumber s n → is_number s n ≡ true
IsNumber-test Kind n h = refl
IsNumber-test TypeNumber n h = lt-ltb _ _ h
IsNumber-test EdgeNumber n h = refl
IsNumber-test Word n h = refl
IsNumber-test Moment n h = le-leb _ _ h
IsNumber-test Id n h = and_from _ _ (lt-ltb _ _ h.0) (le-leb _ _ h.1)
IsNumber-test Due n h = refl

IsNumber-below : (s : Sort) (n : ℕ) → IsNumber s n → n < limit_of s
IsNumber-below Kind n h = h
IsNumber-below TypeNumber n h = omega arith
IsNumber-below EdgeNumber n h = h
IsNumber-below Word n h = h
IsNumber-below Moment n h = omega arith
IsNumber-below Id n h = omega (arith, h.1)
IsNumber-below Due n h = h

-- what a reader took from the front
pub record Takes (bytes text rest : List ℕ) : Type 0 where
  pub parts : bytes ≡ text ++ rest
  pub rest_fits : IsBytes rest

pub number_takes : (s : Sort) (bytes : List ℕ) (x : ℕ × List ℕ) → IsBytes bytes → number_at s bytes ≡ Some x → Takes bytes (to_be_bytes (width_of s) x.0) x.1 × IsNumber s x.0
unfolding number_at
number_takes s bytes x fits e =
    let w = width_of s in
    let k = byte_len w in
    let front = take k bytes in
    let n = from_be_bytes w front in
    let g = guard_some (ltb (length bytes) k) (checked s n (drop k bytes)) x e in
    let long : k ≤ length bytes = ltb-false _ _ g.0 in
    let c = choice_some (is_number s n) (n, drop k bytes) x g.1 in
    let front_fits : IsBytes front = IsBytes-take k bytes fits in
    let back : to_be_bytes w n ≡ front = (wide s).back front (omega (arith, length-take k bytes)) front_fits in
    let takes : Takes bytes (to_be_bytes w n) (drop k bytes) =
    record { parts = rw back (sym (take-append-drop k bytes)); rest_fits = IsBytes-drop k bytes fits } in
    let is : IsNumber s n = is_number-true s n ((wide s).below front front_fits) c.0 in
    subst (λ (y : ℕ × List ℕ). Takes bytes (to_be_bytes w y.0) y.1 × IsNumber s y.0) c.1 (takes, is)

pub number_again : (s : Sort) (n : ℕ) (rest : List ℕ) → IsNumber s n → number_at s (to_be_bytes (width_of s) n ++ rest) ≡ Some (n, rest)
unfolding number_at
number_again s n rest h =
    let w = width_of s in
    let len : length (to_be_bytes w n) ≡ byte_len w = (wide s).len n in
    let long : ltb (length (to_be_bytes w n ++ rest)) (byte_len w) ≡ false = le-ltb _ _ (omega (arith, length-append (to_be_bytes w n) rest)) in
    rw (long, take_at (to_be_bytes w n) rest (byte_len w) len, drop_at (to_be_bytes w n) rest (byte_len w) len, (wide s).again n (IsNumber-below s n h), IsNumber-test s n h) refl

-- two spellings of a number, with what follows them
pub number_prefix : (s : Sort) (m n : ℕ) (x y : List ℕ) → IsNumber s m → IsNumber s n → to_be_bytes (width_of s) m ++ x ≡ to_be_bytes (width_of s) n ++ y → (m ≡ n) × (x ≡ y)
number_prefix s m n x y hm hn e =
    some_parts (m, x) (n, y) (sym (number_again s m x hm) ∙ ap (number_at s) e ∙ number_again s n y hn)

-- ---- several fields

abbrev pub sort_of : Field → Sort
sort_of f = f.sort

abbrev pub sorts : List Field → List Sort
sorts [] = []
sorts (f ∷ fs) = f.sort ∷ sorts fs

pub fields_take : (len : ℕ) (ss : List Sort) (bytes : List ℕ) (x : List Field × List ℕ) → IsBytes bytes → fields_at len ss bytes ≡ Some x → Takes bytes (spelled x.0) x.1 × AreFields x.0 × (length x.1 ≡ len)
unfolding fields_at
fields_take len [] bytes x fits e =
    let c = choice_some (eqb (length bytes) len) ([], bytes) x e in
    subst (λ (y : List Field × List ℕ). Takes bytes (spelled y.0) y.1 × AreFields y.0 × (length y.1 ≡ len)) c.1 (record { parts = refl; rest_fits = fits }, tt, eqb-true _ _ c.0)
fields_take len (s ∷ ss) bytes x fits e =
    let a = bind_some (number_at s bytes) (λ first. fields_at len ss first.1 >>= λ others. Some (record { sort = s; number = first.0 } ∷ others.0, others.1)) x e in
    let b = bind_some (fields_at len ss a.0.1) (λ others. Some (record { sort = s; number = a.0.0 } ∷ others.0, others.1)) x a.2 in
    let first = number_takes s bytes a.0 fits a.1 in
    let others = fields_take len ss a.0.1 b.0 first.0.rest_fits b.1 in
    let made : List Field × List ℕ = (record { sort = s; number = a.0.0 } ∷ b.0.0, b.0.1) in
    let same : made ≡ x = cc in
    let text : List ℕ = to_be_bytes (width_of s) a.0.0 in
    let parts : bytes ≡ (text ++ spelled b.0.0) ++ b.0.1 =
    first.0.parts ∙ ap (λ (t : List ℕ). text ++ t) others.0.parts ∙ sym (append_assoc text (spelled b.0.0) b.0.1) in
    subst (λ (y : List Field × List ℕ). Takes bytes (spelled y.0) y.1 × AreFields y.0 × (length y.1 ≡ len)) same (record { parts = parts; rest_fits = others.0.rest_fits }, (first.1, others.1), others.2)

pub fields_again : (fs : List Field) (rest : List ℕ) (len : ℕ) → AreFields fs → length rest ≡ len → fields_at len (sorts fs) (spelled fs ++ rest) ≡ Some (fs, rest)
unfolding fields_at
fields_again [] rest len h e = rw (eq-eqb (length rest) len e) refl
fields_again (f ∷ fs) rest len h e =
    let text : List ℕ = to_be_bytes (width_of f.sort) f.number in
    let regrouped : (text ++ spelled fs) ++ rest ≡ text ++ (spelled fs ++ rest) = append_assoc text (spelled fs) rest in
    ap (fields_at len (sorts (f ∷ fs))) regrouped ∙ rw (number_again f.sort f.number (spelled fs ++ rest) h.0, fields_again fs rest len h.1 e) refl

same_field : (f g : Field) → f.sort ≡ g.sort → f.number ≡ g.number → f ≡ g
same_field f g s n =
    ap (λ (t : Sort). record { sort = t; number = f.number }) s ∙ ap (λ (t : ℕ). record { sort = g.sort; number = t }) n

-- no spelling of fields begins another of the same sorts
pub spelled_prefix : (fs gs : List Field) (x y : List ℕ) → sorts fs ≡ sorts gs → AreFields fs → AreFields gs → spelled fs ++ x ≡ spelled gs ++ y → (fs ≡ gs) × (x ≡ y)
spelled_prefix [] [] x y s hf hg e = (refl, e)
spelled_prefix [] (g ∷ gs) x y s hf hg e = absurd cc
spelled_prefix (f ∷ fs) [] x y s hf hg e = absurd cc
spelled_prefix (f ∷ fs) (g ∷ gs) x y s hf hg e =
    let same_sort : f.sort ≡ g.sort = cc in
    let others_sorts : sorts fs ≡ sorts gs = cc in
    let text : Sort → ℕ → List ℕ = λ s n. to_be_bytes (width_of s) n in
    let left : text f.sort f.number ++ (spelled fs ++ x) ≡ text g.sort g.number ++ (spelled gs ++ y) =
    sym (append_assoc (text f.sort f.number) (spelled fs) x) ∙ e ∙ append_assoc (text g.sort g.number) (spelled gs) y in
    let is : IsNumber f.sort g.number = subst (λ (t : Sort). IsNumber t g.number) (sym same_sort) hg.0 in
    let moved : text f.sort f.number ++ (spelled fs ++ x) ≡ text f.sort g.number ++ (spelled gs ++ y) =
    left ∙ ap (λ (t : Sort). text t g.number ++ (spelled gs ++ y)) (sym same_sort) in
    let first = number_prefix f.sort f.number g.number (spelled fs ++ x) (spelled gs ++ y) hf.0 is moved in
    let others = spelled_prefix fs gs x y others_sorts hf.1 hg.1 first.1 in
    let head : f ≡ g = same_field f g same_sort first.0 in
    (cc, others.1)

-- the number of a field, by its place
abbrev pub number_of : List Field → ℕ → ℕ
number_of fs i = (get_or fs i (record { sort = Kind; number = 0 })).number
