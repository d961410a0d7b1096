-- A list that grows by what one element after the other gives.
use Rattle.std.proofs.Common.{◌≡◌, ℕ, ◌+◌, ◌≤◌, ◌<◌, List, [], ◌∷◌, ◌++◌, length, get_or, take, map, flat_map, sym, ap, ◌∙◌, append_assoc, append-nil}
use Rattle.std.proofs.lemmas.Grind.{flat_map-append}
use Rattle.std.proofs.lemmas.List.{take_more, map-append}
use Rattle.documents.proofs.Places.{take_past}

one_more : {A : Type 0} (xs : List A) (i : ℕ) (x : A) → i < length xs → x ≡ get_or xs i x → take (i + 1) xs ≡ take i xs ++ x ∷ []
one_more xs i x below is = take_more xs i x below ∙ ap (λ (y : _). take i xs ++ y ∷ []) (sym is)

pub lists_grow : {A B : Type 0} (f : A → List B) (xs : List A) (i : ℕ) (x : A) (start before after : List B) → i < length xs → x ≡ get_or xs i x →
    before ≡ start ++ flat_map f (take i xs) → after ≡ before ++ f x → after ≡ start ++ flat_map f (take (i + 1) xs)
lists_grow f xs i x start before after below is so_far grown =
    grown ∙ ap (λ (t : List _). t ++ f x) so_far ∙ append_assoc start (flat_map f (take i xs)) (f x)
    ∙ ap (λ (t : List _). start ++ t)
    (ap (λ (t : List _). flat_map f (take i xs) ++ t) (sym (append-nil (f x))) ∙ sym (flat_map-append f (take i xs) (x ∷ [])) ∙ ap (flat_map f) (sym (one_more xs i x below is)))

pub lists_all : {A B : Type 0} (f : A → List B) (xs : List A) (i : ℕ) (start after : List B) → length xs ≤ i →
    after ≡ start ++ flat_map f (take i xs) → after ≡ start ++ flat_map f xs
lists_all f xs i start after past so_far = so_far ∙ ap (λ (ys : List _). start ++ flat_map f ys) (take_past xs i past)

pub elements_grow : {A B : Type 0} (f : A → B) (xs : List A) (i : ℕ) (x : A) (start before after : List B) → i < length xs → x ≡ get_or xs i x →
    before ≡ start ++ map f (take i xs) → after ≡ before ++ f x ∷ [] → after ≡ start ++ map f (take (i + 1) xs)
elements_grow f xs i x start before after below is so_far grown =
    grown ∙ ap (λ (t : List _). t ++ f x ∷ []) so_far ∙ append_assoc start (map f (take i xs)) (f x ∷ [])
    ∙ ap (λ (t : List _). start ++ t) (sym (map-append f (take i xs) (x ∷ [])) ∙ ap (map f) (sym (one_more xs i x below is)))

pub elements_all : {A B : Type 0} (f : A → B) (xs : List A) (i : ℕ) (start after : List B) → length xs ≤ i →
    after ≡ start ++ map f (take i xs) → after ≡ start ++ map f xs
elements_all f xs i start after past so_far = so_far ∙ ap (λ (ys : List _). start ++ map f ys) (take_past xs i past)
