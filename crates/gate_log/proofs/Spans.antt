-- Where the head and the payload of a record stand, by the places that a log keeps.
use Rattle.std.proofs.Common.{◌≡◌, ℕ, zero, suc, ◌+◌, ◌<◌, ◌≤◌, List, [], ◌∷◌, length, take, get_or, refl, sym, ◌∙◌, ap, arith}
use Rattle.std.proofs.lemmas.List.{take-map, length-map}
use Rattle.gate_log.specs.declared.scan.Place.{Place}
use Rattle.gate_log.specs.Places.{end_from, gates_from, gate_from, size_in, size_at, gate_at, sizes_at, gates_at, AreTied}

-- what two lists of numbers that are equal begin with, and go on with
same_first : (x y : ℕ) (xs ys : List ℕ) → x ∷ xs ≡ y ∷ ys → x ≡ y
same_first x y xs ys is = cc

same_others : (x y : ℕ) (xs ys : List ℕ) → x ∷ xs ≡ y ∷ ys → xs ≡ ys
same_others x y xs ys is = cc

pub gate_is : (places : List Place) (at i : ℕ) (d : Place) → gates_at places ≡ gates_from at (sizes_at places) → i < length places → (get_or places i d).gate ≡ gate_from at (sizes_at places) i
gate_is [] at i d is inside = absurd (omega arith)
gate_is (p ∷ places) at zero d is inside = same_first _ _ _ _ is
gate_is (p ∷ places) at (suc i) d is inside = gate_is places (at + 7 + p.head + p.payload) i d (same_others _ _ _ _ is) (omega arith)

pub size_is : (places : List Place) (i : ℕ) (d : Place) → i < length places → size_at (get_or places i d) ≡ size_in (sizes_at places) i
size_is [] i d inside = absurd (omega arith)
size_is (p ∷ places) zero d inside = refl
size_is (p ∷ places) (suc i) d inside = size_is places i d (omega arith)

end_above : (sizes : List (ℕ × ℕ)) (at : ℕ) → at ≤ end_from at sizes
end_above [] at = omega arith
end_above (s ∷ sizes) at = omega (arith, end_above sizes (at + 7 + s.0 + s.1))

pub span_within : (sizes : List (ℕ × ℕ)) (at i : ℕ) → i < length sizes → gate_from at sizes i + 7 + (size_in sizes i).0 + (size_in sizes i).1 ≤ end_from at sizes
span_within [] at i inside = absurd (omega arith)
span_within (s ∷ sizes) at zero inside = end_above sizes (at + 7 + s.0 + s.1)
span_within (s ∷ sizes) at (suc i) inside = span_within sizes (at + 7 + s.0 + s.1) i (omega arith)

-- the gate of a record stands where those before it end
pub gate_from_front : (sizes : List (ℕ × ℕ)) (at i : ℕ) → gate_from at sizes i ≡ end_from at (take i sizes)
gate_from_front [] at zero = refl
gate_from_front [] at (suc i) = refl
gate_from_front (s ∷ sizes) at zero = refl
gate_from_front (s ∷ sizes) at (suc i) = gate_from_front sizes (at + 7 + s.0 + s.1) i

gates_from_front : (sizes : List (ℕ × ℕ)) (at i : ℕ) → take i (gates_from at sizes) ≡ gates_from at (take i sizes)
gates_from_front [] at zero = refl
gates_from_front [] at (suc i) = refl
gates_from_front (s ∷ sizes) at zero = refl
gates_from_front (s ∷ sizes) at (suc i) = ap (λ (l : List ℕ). at ∷ l) (gates_from_front sizes (at + 7 + s.0 + s.1) i)

pub sizes_at-take : (places : List Place) (i : ℕ) → sizes_at (take i places) ≡ take i (sizes_at places)
sizes_at-take places i = sym (take-map size_at i places)

-- the first of them alone
pub tied_front : (places : List Place) (i end gate : ℕ) → gate ≡ gate_from 8 (sizes_at places) i → AreTied places end → AreTied (take i places) gate
tied_front places i end gate is tied = record {
  end_is = is ∙ gate_from_front (sizes_at places) 8 i ∙ ap (λ (l : List (ℕ × ℕ)). end_from 8 l) (take-map size_at i places);
  gates = sym (take-map gate_at i places) ∙ ap (λ (l : List ℕ). take i l) tied.gates ∙ gates_from_front (sizes_at places) 8 i
      ∙ ap (λ (l : List (ℕ × ℕ)). gates_from 8 l) (take-map size_at i places);
}

-- what a log keeps of record i
pub record KeptPlace (place : Place) (sizes : List (ℕ × ℕ)) (i end : ℕ) : Type 0 where
  pub gate : place.gate ≡ gate_from 8 sizes i
  pub head : place.head ≡ (size_in sizes i).0
  pub payload : place.payload ≡ (size_in sizes i).1
  pub within : place.gate + 7 + place.head + place.payload ≤ end

pub kept_place : (places : List Place) (end i : ℕ) (place : Place) (sizes : List (ℕ × ℕ)) → AreTied places end → i < length places → place ≡ get_or places i place → sizes_at places ≡ sizes → KeptPlace place sizes i end
kept_place places end i place sizes tied inside is sized =
    let gate : place.gate ≡ gate_from 8 (sizes_at places) i = ap (λ (p : Place). p.gate) is ∙ gate_is places 8 i place tied.gates inside in
    let size : size_at place ≡ size_in (sizes_at places) i = ap (λ (p : Place). size_at p) is ∙ size_is places i place inside in
    let head : place.head ≡ (size_in (sizes_at places) i).0 = ap (λ (s : ℕ × ℕ). s.0) size in
    let payload : place.payload ≡ (size_in (sizes_at places) i).1 = ap (λ (s : ℕ × ℕ). s.1) size in
    record {
      gate = gate ∙ ap (λ (l : List (ℕ × ℕ)). gate_from 8 l i) sized;
      head = head ∙ ap (λ (l : List (ℕ × ℕ)). (size_in l i).0) sized;
      payload = payload ∙ ap (λ (l : List (ℕ × ℕ)). (size_in l i).1) sized;
      within = omega (arith, span_within (sizes_at places) 8 i (omega (arith, length-map places size_at, inside)), gate, head, payload, tied.end_is);
    }
