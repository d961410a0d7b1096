use Rattle.std.proofs.Common.{◌≡◌, ◌<◌, ◌≤◌, ◌∙◌, ℕ, Bool, true, false, List, [], ◌∷◌, length, get_or, sym, ap, refl, arith, Some}
use Rattle.std.specs.List.{position_or_len}
use Rattle.std.proofs.lemmas.List.Sums.{position_or_len_is, fails_before_first, passes_at_first, prefix_len-le-length}
use Rattle.std.proofs.lemmas.Option.{slice_get-map, slice_get-get_or}
use Rattle.std.proofs.lemmas.Slice.Eq.{bytes_eq-Decides}
use Rattle.std.specs.Option.{option_map}
use Rattle.std.specs.Str.{bytes_eq}
use Rattle.std.specs.Prelude.{slice_get, map}
use Rattle.delf_model.specs.Checked.{IsRepeated}
use mathlib.Core.Bool.{not}

module _ {X : Type 0} (p : X → Bool) (xs : List X) where
  -- the loop stops at the first element that passes
  pub place_found : (i : ℕ) (x : X) (r : Bool) → i < length xs → x ≡ get_or xs i x → ((k : ℕ) (d : X) → k < i → p (get_or xs k d) ≡ false) → r ≡ p x → r ≡ true → i ≡ position_or_len p xs
  place_found i x r within is before tested passed =
      let at : p (get_or xs i x) ≡ true = ap p (sym is) ∙ (sym tested ∙ passed) in
      sym (position_or_len_is p xs i x (omega arith) (λ k h. before k x h) (λ h. at))

-- the loop ends with no element that passes
pub place_none : {X : Type 0} (p : X → Bool) (xs : List X) (i : ℕ) → i ≡ length xs → ((k : ℕ) (d : X) → k < i → p (get_or xs k d) ≡ false) → length xs ≡ position_or_len p xs
place_none p [] i all before = refl
place_none p (x ∷ xs) i all before =
    sym (position_or_len_is p (x ∷ xs) (length (x ∷ xs)) x (omega arith) (λ k h. before k x (omega arith)) (λ h. absurd (omega arith)))

pub position_or_len-le : {X : Type 0} (p : X → Bool) (xs : List X) → position_or_len p xs ≤ length xs
position_or_len-le p xs = prefix_len-le-length (λ x. not (p x)) xs

module _ {X : Type 0} (name_of : X → List ℕ) (xs : List X) (row : ℕ) (x : X) (within : row < length xs) (is : x ≡ get_or xs row x) where
  slice_get_name : (k : ℕ) → k < length xs → slice_get (map name_of xs) k ≡ Some (name_of (get_or xs k x))
  slice_get_name k h = slice_get-map name_of xs k ∙ ap (option_map name_of) (slice_get-get_or xs k x h)

  slice_get_row : slice_get (map name_of xs) row ≡ Some (name_of x)
  slice_get_row = slice_get_name row within ∙ ap (λ y. Some (name_of y)) (sym is)

  module _ (place : ℕ) (tested : place ≡ position_or_len (λ y. bytes_eq (name_of y) (name_of (get_or xs row x))) xs) where
    place_is : place ≡ position_or_len (λ y. bytes_eq (name_of y) (name_of x)) xs
    place_is = tested ∙ ap (λ z. position_or_len (λ y. bytes_eq (name_of y) (name_of z)) xs) (sym is)

    -- a name whose first place is before the row stands there too
    pub repeated_from_place : place < row → IsRepeated (map name_of xs) row
    repeated_from_place before =
        let first : ℕ = position_or_len (λ y. bytes_eq (name_of y) (name_of x)) xs in
        let earlier : first < row = omega (arith, place_is) in
        let inside : first < length xs = omega arith in
        let passes : bytes_eq (name_of (get_or xs first x)) (name_of x) ≡ true = passes_at_first (λ y. bytes_eq (name_of y) (name_of x)) xs x inside in
        let same : name_of (get_or xs first x) ≡ name_of x = (bytes_eq-Decides (name_of (get_or xs first x)) (name_of x)).0 passes in
        (first, earlier, slice_get_name first inside ∙ (ap (λ n. Some n) same ∙ sym slice_get_row))

    pub not_repeated : row ≤ place → IsRepeated (map name_of xs) row → ⊥
    not_repeated after repeated =
        let k : ℕ = repeated.0 in
        let before : k < row = repeated.1 in
        let e : Some (name_of (get_or xs k x)) ≡ Some (name_of x) = sym (slice_get_name k (omega arith)) ∙ (repeated.2 ∙ slice_get_row) in
        let same : name_of (get_or xs k x) ≡ name_of x = cc in
        let passes : bytes_eq (name_of (get_or xs k x)) (name_of x) ≡ true = (bytes_eq-Decides (name_of (get_or xs k x)) (name_of x)).1 same in
        let fails : bytes_eq (name_of (get_or xs k x)) (name_of x) ≡ false = fails_before_first (λ y. bytes_eq (name_of y) (name_of x)) xs k x (omega (arith, place_is)) in
        cc
