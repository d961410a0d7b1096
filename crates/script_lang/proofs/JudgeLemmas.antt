-- What is read of a line, part by part: the line itself, or what is wrong with it.
use Rattle.std.proofs.Common.{◌≡◌, ℕ, ◌<◌, ◌≤◌, Bool, true, false, cond, ltb, leb, Option, Some, None, Result, Ok, Err, List, [], ◌∷◌, length, refl, sym, ap, ◌∙◌, lt-ltb}
use Rattle.std.specs.Prelude.{option_map}
use Rattle.std.proofs.lemmas.Bool.{ltb-true, leb-true, le-leb}
use Rattle.delf_model.specs.declared.schema.Schema.{Schema}
use Rattle.delf_model.specs.Checked.{number_of}
use Rattle.schema_lang.specs.declared.line.Word.{Word}
use Rattle.schema_lang.specs.declared.why.Why.{Why}
use Rattle.schema_lang.specs.declared.why.Why.TheVariants as whys
use Rattle.schema_lang.specs.Rows.{word_text}
use Rattle.schema_lang.specs.Numbers.{number_in, name_in, is_name_word}
use Rattle.schema_lang.proofs.FormLemmas.{raw_number}
use Rattle.schema_lang.proofs.LimitLemmas.{Limited, number_limited}
use Rattle.script_lang.specs.declared.fault.Wrong.{Wrong}
use Rattle.script_lang.specs.declared.fault.Wrong.TheVariants.{Malformed, OutOfRange, Unknown}
use Rattle.script_lang.specs.Parts.{worse, both, mapped, as_part, wrong_of, number_part, place_part, named, type_part, edge_part, edge_number}
use Rattle.script_lang.specs.LineForms.{IsBetween, IsShort}

-- a part that has no name
abbrev pub Counted : {A : Type 0} → (A → Type 0) → Option A → Result A Wrong → Type 0
Counted Fit there (Ok x) = (there ≡ Some x) × Fit x
Counted {A = A} Fit there (Err OutOfRange) = (x : A) × (there ≡ Some x) × (Fit x → ⊥)
Counted Fit there (Err Malformed) = there ≡ None
Counted Fit there (Err (Unknown name)) = ⊥

-- a part that may have one
abbrev pub Called : {A : Type 0} → (A → List ℕ → Type 0) → (A → Type 0) → Option (A × List ℕ) → Result A Wrong → Type 0
Called Fit Known there (Ok x) = (name : List ℕ) × (there ≡ Some (x, name)) × Fit x name × Known x
Called {A = A} Fit Known there (Err OutOfRange) = (x : A) × (name : List ℕ) × (there ≡ Some (x, name)) × (Fit x name → ⊥)
Called Fit Known there (Err Malformed) = there ≡ None
Called {A = A} Fit Known there (Err (Unknown lacked)) = (x : A) × (there ≡ Some (x, lacked)) × Fit x lacked × (Known x → ⊥)

pub counted_of : (least greatest : ℕ) (m : Option ℕ) (r : Result ℕ Why) → Limited (IsBetween least greatest) m r → Counted (IsBetween least greatest) m (as_part r)
counted_of least greatest m (Ok n) is = is
counted_of least greatest m (Err whys.Malformed) is = is
counted_of least greatest m (Err whys.OutOfRange) is = is

pub number_counted : (least greatest : ℕ) (word : Word) → Counted (IsBetween least greatest) (raw_number (word_text word)) (number_part least greatest word)
number_counted least greatest word = counted_of least greatest (raw_number (word_text word)) (number_in least greatest (word_text word)) (number_limited least greatest (word_text word))

-- a name among those of a schema
abbrev pub raw_named : (List ℕ → ℕ) → List ℕ → Option (ℕ × List ℕ)
raw_named place text = cond (is_name_word text) (Some (place text, text)) None

abbrev pub Shortly : ℕ → List ℕ → Type 0
Shortly place name = IsShort name

place_called : (place : List ℕ → ℕ) (count : ℕ) (text : List ℕ) (known : Bool) → ltb (place text) count ≡ known → IsShort text
    → Called Shortly (λ at. at < count) (Some (place text, text)) (cond known (Ok (place text)) (Err (Unknown text)))
place_called place count text true known short = (text, refl, short, ltb-true (place text) count known)
place_called place count text false known short =
    (place text, refl, short, λ below. let is : ltb (place text) count ≡ true = lt-ltb (place text) count below in let wrong : true ≡ false = sym is ∙ known in cc)

named_by : (place : List ℕ → ℕ) (count : ℕ) (text : List ℕ) (is_named is_short : Bool) → leb (length text) 32 ≡ is_short
    → Called Shortly (λ at. at < count) (cond is_named (Some (place text, text)) None) (named place count (cond is_named (cond is_short (Ok text) (Err whys.OutOfRange)) (Err whys.Malformed)))
named_by place count text true true short = place_called place count text (ltb (place text) count) refl (leb-true (length text) 32 short)
named_by place count text true false short =
    (place text, text, refl, λ within. let is : leb (length text) 32 ≡ true = le-leb (length text) 32 within in let wrong : true ≡ false = sym is ∙ short in cc)
named_by place count text false is_short short = refl

pub named_called : (place : List ℕ → ℕ) (count : ℕ) (text : List ℕ) → Called Shortly (λ at. at < count) (raw_named place text) (named place count (name_in text))
named_called place count text = named_by place count text (is_name_word text) (leb (length text) 32) refl

-- two parts

abbrev pub pair : {A B : Type 0} → Option A → Option B → Option (A × B)
pair None n = None
pair (Some x) None = None
pair (Some x) (Some y) = Some (x, y)

pair_left : {A B : Type 0} (m : Option A) (n : Option B) → m ≡ None → pair m n ≡ None
pair_left m n is = ap (λ k. pair k n) is

pair_right : {A B : Type 0} (m : Option A) (n : Option B) → n ≡ None → pair m n ≡ None
pair_right None n is = refl
pair_right (Some x) n is = ap (pair (Some x)) is

pair_both : {A B : Type 0} (m : Option A) (n : Option B) (x : A) (y : B) → m ≡ Some x → n ≡ Some y → pair m n ≡ Some (x, y)
pair_both m n x y is then = ap (λ k. pair k n) is ∙ ap (pair (Some x)) then

module _ {A B : Type 0} (F : A → Type 0) (G : B → Type 0) (m : Option A) (n : Option B) where
  abbrev Both : A × B → Type 0
  Both both = F both.0 × G both.1

  pub counted_both : (r : Result A Wrong) (s : Result B Wrong) → Counted F m r → Counted G n s → Counted Both (pair m n) (both r s)
  counted_both (Ok x) (Ok y) is then = (pair_both m n x y is.0 then.0, (is.1, then.1))
  counted_both (Ok x) (Err Malformed) is then = pair_right m n then
  counted_both (Ok x) (Err OutOfRange) is then = ((x, then.0), pair_both m n x then.0 is.0 then.1, λ all. then.2 all.1)
  counted_both (Ok x) (Err (Unknown name)) is then = absurd then
  counted_both (Err Malformed) (Ok y) is then = pair_left m n is
  counted_both (Err Malformed) (Err other) is then = pair_left m n is
  counted_both (Err OutOfRange) (Ok y) is then = ((is.0, y), pair_both m n is.0 y is.1 then.0, λ all. is.2 all.0)
  counted_both (Err OutOfRange) (Err Malformed) is then = pair_right m n then
  counted_both (Err OutOfRange) (Err OutOfRange) is then = ((is.0, then.0), pair_both m n is.0 then.0 is.1 then.1, λ all. is.2 all.0)
  counted_both (Err OutOfRange) (Err (Unknown name)) is then = absurd then
  counted_both (Err (Unknown name)) s is then = absurd is

-- a name before numbers
abbrev pub name_first : {A B : Type 0} → Option (A × List ℕ) → Option B → Option ((A × B) × List ℕ)
name_first None n = None
name_first (Some x) None = None
name_first (Some x) (Some y) = Some ((x.0, y), x.1)

first_left : {A B : Type 0} (m : Option (A × List ℕ)) (n : Option B) → m ≡ None → name_first m n ≡ None
first_left m n is = ap (λ k. name_first k n) is

first_right : {A B : Type 0} (m : Option (A × List ℕ)) (n : Option B) → n ≡ None → name_first m n ≡ None
first_right None n is = refl
first_right (Some x) n is = ap (name_first (Some x)) is

first_both : {A B : Type 0} (m : Option (A × List ℕ)) (n : Option B) (x : A) (name : List ℕ) (y : B) → m ≡ Some (x, name) → n ≡ Some y → name_first m n ≡ Some ((x, y), name)
first_both m n x name y is then = ap (λ k. name_first k n) is ∙ ap (name_first (Some (x, name))) then

module _ {A B : Type 0} (F : A → List ℕ → Type 0) (K : A → Type 0) (G : B → Type 0) (m : Option (A × List ℕ)) (n : Option B) where
  abbrev FirstFit : A × B → List ℕ → Type 0
  FirstFit both name = F both.0 name × G both.1

  abbrev FirstKnown : A × B → Type 0
  FirstKnown both = K both.0

  pub first_called : (r : Result A Wrong) (s : Result B Wrong) → Called F K m r → Counted G n s → Called FirstFit FirstKnown (name_first m n) (both r s)
  first_called (Ok x) (Ok y) is then = (is.0, first_both m n x is.0 y is.1 then.0, (is.2, then.1), is.3)
  first_called (Ok x) (Err Malformed) is then = first_right m n then
  first_called (Ok x) (Err OutOfRange) is then = ((x, then.0), is.0, first_both m n x is.0 then.0 is.1 then.1, λ all. then.2 all.1)
  first_called (Ok x) (Err (Unknown name)) is then = absurd then
  first_called (Err Malformed) (Ok y) is then = first_left m n is
  first_called (Err Malformed) (Err other) is then = first_left m n is
  first_called (Err OutOfRange) (Ok y) is then = ((is.0, y), is.1, first_both m n is.0 is.1 y is.2 then.0, λ all. is.3 all.0)
  first_called (Err OutOfRange) (Err Malformed) is then = first_right m n then
  first_called (Err OutOfRange) (Err OutOfRange) is then = ((is.0, then.0), is.1, first_both m n is.0 is.1 then.0 is.2 then.1, λ all. is.3 all.0)
  first_called (Err OutOfRange) (Err (Unknown name)) is then = absurd then
  first_called (Err (Unknown lacked)) (Ok y) is then = ((is.0, y), first_both m n is.0 lacked y is.1 then.0, (is.2, then.1), is.3)
  first_called (Err (Unknown lacked)) (Err Malformed) is then = first_right m n then
  first_called (Err (Unknown lacked)) (Err OutOfRange) is then = ((is.0, then.0), lacked, first_both m n is.0 lacked then.0 is.1 then.1, λ all. then.2 all.1)
  first_called (Err (Unknown lacked)) (Err (Unknown name)) is then = absurd then

-- a name behind a number
abbrev pub name_last : {A B : Type 0} → Option A → Option (B × List ℕ) → Option ((A × B) × List ℕ)
name_last None n = None
name_last (Some x) None = None
name_last (Some x) (Some y) = Some ((x, y.0), y.1)

last_left : {A B : Type 0} (m : Option A) (n : Option (B × List ℕ)) → m ≡ None → name_last m n ≡ None
last_left m n is = ap (λ k. name_last k n) is

last_right : {A B : Type 0} (m : Option A) (n : Option (B × List ℕ)) → n ≡ None → name_last m n ≡ None
last_right None n is = refl
last_right (Some x) n is = ap (name_last (Some x)) is

last_both : {A B : Type 0} (m : Option A) (n : Option (B × List ℕ)) (x : A) (y : B) (name : List ℕ) → m ≡ Some x → n ≡ Some (y, name) → name_last m n ≡ Some ((x, y), name)
last_both m n x y name is then = ap (λ k. name_last k n) is ∙ ap (name_last (Some x)) then

module _ {A B : Type 0} (F : A → Type 0) (G : B → List ℕ → Type 0) (K : B → Type 0) (m : Option A) (n : Option (B × List ℕ)) where
  abbrev LastFit : A × B → List ℕ → Type 0
  LastFit both name = F both.0 × G both.1 name

  abbrev LastKnown : A × B → Type 0
  LastKnown both = K both.1

  pub last_called : (r : Result A Wrong) (s : Result B Wrong) → Counted F m r → Called G K n s → Called LastFit LastKnown (name_last m n) (both r s)
  last_called (Ok x) (Ok y) is then = (then.0, last_both m n x y then.0 is.0 then.1, (is.1, then.2), then.3)
  last_called (Ok x) (Err Malformed) is then = last_right m n then
  last_called (Ok x) (Err OutOfRange) is then = ((x, then.0), then.1, last_both m n x then.0 then.1 is.0 then.2, λ all. then.3 all.1)
  last_called (Ok x) (Err (Unknown lacked)) is then = ((x, then.0), last_both m n x then.0 lacked is.0 then.1, (is.1, then.2), then.3)
  last_called (Err Malformed) (Ok y) is then = last_left m n is
  last_called (Err Malformed) (Err other) is then = last_left m n is
  last_called (Err OutOfRange) (Ok y) is then = ((is.0, y), then.0, last_both m n is.0 y then.0 is.1 then.1, λ all. is.2 all.0)
  last_called (Err OutOfRange) (Err Malformed) is then = last_right m n then
  last_called (Err OutOfRange) (Err OutOfRange) is then = ((is.0, then.0), then.1, last_both m n is.0 then.0 then.1 is.1 then.2, λ all. is.2 all.0)
  last_called (Err OutOfRange) (Err (Unknown lacked)) is then = ((is.0, then.0), lacked, last_both m n is.0 then.0 lacked is.1 then.1, λ all. is.2 all.0)
  last_called (Err (Unknown name)) s is then = absurd is

-- what is made of a part

abbrev pub nameless : {A : Type 0} → Option A → Option (A × List ℕ)
nameless None = None
nameless (Some x) = Some (x, [])

abbrev pub renamed : {A B : Type 0} → (A → B) → Option (A × List ℕ) → Option (B × List ℕ)
renamed f None = None
renamed f (Some x) = Some (f x.0, x.1)

pub counted_mapped : {A B : Type 0} (F : A → Type 0) (G : B → Type 0) (f : A → B) → ((x : A) → F x → G (f x)) → ((x : A) → G (f x) → F x)
    → (m : Option A) (r : Result A Wrong) → Counted F m r → Counted G (option_map f m) (mapped f r)
counted_mapped F G f to back m (Ok x) is = (ap (option_map f) is.0, to x is.1)
counted_mapped F G f to back m (Err Malformed) is = ap (option_map f) is
counted_mapped F G f to back m (Err OutOfRange) is = (f is.0, ap (option_map f) is.1, λ fits. is.2 (back is.0 fits))
counted_mapped F G f to back m (Err (Unknown name)) is = absurd is

pub counted_called : {A B : Type 0} (F : A → Type 0) (G : B → List ℕ → Type 0) (K : B → Type 0) (f : A → B) → ((x : A) → F x → G (f x) []) → ((x : A) → G (f x) [] → F x) → ((x : A) → K (f x))
    → (m : Option A) (r : Result A Wrong) → Counted F m r → Called G K (nameless (option_map f m)) (mapped f r)
counted_called F G K f to back known m (Ok x) is = ([], ap (λ k. nameless (option_map f k)) is.0, to x is.1, known x)
counted_called F G K f to back known m (Err Malformed) is = ap (λ k. nameless (option_map f k)) is
counted_called F G K f to back known m (Err OutOfRange) is = (f is.0, [], ap (λ k. nameless (option_map f k)) is.1, λ fits. is.2 (back is.0 fits))
counted_called F G K f to back known m (Err (Unknown name)) is = absurd is

pub called_mapped : {A B : Type 0} (F : A → List ℕ → Type 0) (K : A → Type 0) (G : B → List ℕ → Type 0) (L : B → Type 0) (f : A → B)
    → ((x : A) (name : List ℕ) → F x name → G (f x) name) → ((x : A) (name : List ℕ) → G (f x) name → F x name) → ((x : A) → K x → L (f x)) → ((x : A) → L (f x) → K x)
    → (m : Option (A × List ℕ)) (r : Result A Wrong) → Called F K m r → Called G L (renamed f m) (mapped f r)
called_mapped F K G L f to back know forget m (Ok x) is = (is.0, ap (renamed f) is.1, to x is.0 is.2, know x is.3)
called_mapped F K G L f to back know forget m (Err Malformed) is = ap (renamed f) is
called_mapped F K G L f to back know forget m (Err OutOfRange) is = (f is.0, is.1, ap (renamed f) is.2, λ fits. is.3 (back is.0 is.1 fits))
called_mapped F K G L f to back know forget m (Err (Unknown lacked)) is = (f is.0, ap (renamed f) is.1, to is.0 lacked is.2, λ known. is.3 (forget is.0 known))

pub counted_if : {A : Type 0} (F : A → Type 0) (b : Bool) (m other : Option A) (r rest : Result A Wrong) → Counted F m r → Counted F other rest → Counted F (cond b m other) (cond b r rest)
counted_if F true m other r rest is then = is
counted_if F false m other r rest is then = then

pub called_if : {A : Type 0} (F : A → List ℕ → Type 0) (K : A → Type 0) (b : Bool) (m other : Option (A × List ℕ)) (r rest : Result A Wrong) → Called F K m r → Called F K other rest
    → Called F K (cond b m other) (cond b r rest)
called_if F K true m other r rest is then = is
called_if F K false m other r rest is then = then
