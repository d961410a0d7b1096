-- A list whose elements are changed in place, from its front.
use Rattle.std.proofs.Common.{◌≡◌, ℕ, zero, suc, ◌+◌, ◌<◌, ◌≤◌, List, [], ◌∷◌, ◌++◌, Some, None, length, get_or, take, drop, map, refl, sym, ap, ◌∙◌, subst, add-one, arith}
use Rattle.std.proofs.Math.ListN.{set, length-set}
use Rattle.std.specs.Prelude.{slice_get}

pub record MapsInPlace {X : Type 0} (f : X → X) (xs ys : List X) (i : ℕ) : Type 0 where
  pub front : take i ys ≡ map f (take i xs)
  pub rest : drop i ys ≡ drop i xs
  pub long : length ys ≡ length xs

map_step : {X : Type 0} (f : X → X) (xs ys : List X) (i : ℕ) (x y : X) → take i ys ≡ map f (take i xs) → drop i ys ≡ drop i xs →
    i < length ys → x ≡ get_or ys i x → y ≡ f x → (take (suc i) (set ys i y) ≡ map f (take (suc i) xs)) × (drop (suc i) (set ys i y) ≡ drop (suc i) xs)
map_step f xs [] i x y front rest below is new = absurd (omega arith)
map_step f [] (b ∷ bs) zero x y front rest below is new = absurd (cc rest)
map_step f (a ∷ more) (b ∷ bs) zero x y front rest below is new =
    let same : b ≡ a = cc rest in
    (ap (λ z. z ∷ []) (new ∙ ap f (is ∙ same)), cc rest)
map_step f [] (b ∷ bs) (suc i) x y front rest below is new = absurd (cc front)
map_step f (a ∷ more) (b ∷ bs) (suc i) x y front rest below is new =
    let later : take i bs ≡ map f (take i more) = cc front in
    let first : b ≡ f a = cc front in
    let step = map_step f more bs i x y later rest (omega arith) is new in
    (cc (first, step.0), step.1)

pub maps_more : {X : Type 0} (f : X → X) (xs ys : List X) (i : ℕ) (x y : X) → MapsInPlace f xs ys i → i < length ys → x ≡ get_or ys i x → y ≡ f x →
    MapsInPlace f xs (set ys i y) (i + 1)
maps_more f xs ys i x y m below is new =
    let step = map_step f xs ys i x y m.front m.rest below is new in
    subst (λ n. MapsInPlace f xs (set ys i y) n) (sym (add-one i))
    (record { front = step.0; rest = step.1; long = length-set ys i y ∙ m.long })

same_step : {X : Type 0} (f : X → X) (xs ys : List X) (i : ℕ) (x : X) → take i ys ≡ map f (take i xs) → drop i ys ≡ drop i xs →
    i < length ys → x ≡ get_or ys i x → x ≡ f x → (take (suc i) ys ≡ map f (take (suc i) xs)) × (drop (suc i) ys ≡ drop (suc i) xs)
same_step f xs [] i x front rest below is new = absurd (omega arith)
same_step f [] (b ∷ bs) zero x front rest below is new = absurd (cc rest)
same_step f (a ∷ more) (b ∷ bs) zero x front rest below is new =
    let same : b ≡ a = cc rest in
    (ap (λ z. z ∷ []) (sym is ∙ new ∙ ap f (is ∙ same)), cc rest)
same_step f [] (b ∷ bs) (suc i) x front rest below is new = absurd (cc front)
same_step f (a ∷ more) (b ∷ bs) (suc i) x front rest below is new =
    let later : take i bs ≡ map f (take i more) = cc front in
    let first : b ≡ f a = cc front in
    let step = same_step f more bs i x later rest (omega arith) is new in
    (cc (first, step.0), step.1)

pub maps_same : {X : Type 0} (f : X → X) (xs ys : List X) (i : ℕ) (x : X) → MapsInPlace f xs ys i → i < length ys → x ≡ get_or ys i x → x ≡ f x →
    MapsInPlace f xs ys (i + 1)
maps_same f xs ys i x m below is new =
    let step = same_step f xs ys i x m.front m.rest below is new in
    subst (λ n. MapsInPlace f xs ys n) (sym (add-one i)) (record { front = step.0; rest = step.1; long = m.long })

take_whole : {X : Type 0} (n : ℕ) (xs : List X) → length xs ≤ n → take n xs ≡ xs
take_whole zero [] past = refl
take_whole (suc n) [] past = refl
take_whole zero (x ∷ xs) past = absurd (omega arith)
take_whole (suc n) (x ∷ xs) past = ap (λ ys. x ∷ ys) (take_whole n xs (omega arith))

pub maps_all : {X : Type 0} (f : X → X) (xs ys : List X) (i : ℕ) → MapsInPlace f xs ys i → length ys ≤ i → ys ≡ map f xs
maps_all f xs ys i m past =
    sym (take_whole i ys past) ∙ (m.front ∙ ap (map f) (take_whole i xs (let long = m.long in omega arith)))

take_front : {X : Type 0} (xs ys : List X) → take (length xs) (xs ++ ys) ≡ xs
take_front [] [] = refl
take_front [] (y ∷ ys) = refl
take_front (x ∷ xs) ys = ap (λ zs. x ∷ zs) (take_front xs ys)

-- a vector's elements after a write through the slice of all of them
pub written_back : {X : Type 0} (n : ℕ) (xs ys : List X) → length xs ≡ n → take n (xs ++ drop (length xs) ys) ≡ xs
written_back n xs ys is = ap (λ m. take m (xs ++ drop (length xs) ys)) (sym is) ∙ take_front xs (drop (length xs) ys)
