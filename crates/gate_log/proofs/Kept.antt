-- The places that a log keeps, with one more.
use Rattle.std.proofs.Common.{◌≡◌, ℕ, ◌+◌, List, [], ◌∷◌, ◌++◌, sym, ◌∙◌, ap, arith}
use Rattle.std.proofs.lemmas.List.{map-append}
use Rattle.gate_log.specs.declared.scan.Place.{Place}
use Rattle.gate_log.specs.Places.{end_from, gates_from, size_at, gate_at, sizes_at, gates_at, AreTied}
use Rattle.gate_log.proofs.Rows.{end_from-push, gates_from-push}

pub sizes_at-push : (places after : List Place) (place : Place) → after ≡ places ++ place ∷ [] → sizes_at after ≡ sizes_at places ++ size_at place ∷ []
sizes_at-push places after place is = ap (λ (l : List Place). sizes_at l) is ∙ map-append size_at places (place ∷ [])

pub tied_pushed : (places after : List Place) (place : Place) (end next : ℕ) → after ≡ places ++ place ∷ [] → place.gate ≡ end → next ≡ end + (7 + place.head + place.payload)
    → AreTied places end → AreTied after next
tied_pushed places after place end next is gate sum tied =
    let e1 = ap (λ (l : List (ℕ × ℕ)). end_from 8 l) (sizes_at-push places after place is) in
    let e2 = end_from-push (sizes_at places) (size_at place) 8 in
    record {
      end_is = omega (arith, e1, e2, tied.end_is, sum);
      gates = ap (λ (l : List Place). gates_at l) is ∙ map-append gate_at places (place ∷ [])
          ∙ ap (λ (l : List ℕ). l ++ place.gate ∷ []) tied.gates
          ∙ ap (λ (k : ℕ). gates_from 8 (sizes_at places) ++ k ∷ []) (gate ∙ tied.end_is)
          ∙ sym (gates_from-push (sizes_at places) (size_at place) 8)
          ∙ ap (λ (l : List (ℕ × ℕ)). gates_from 8 l) (sym (sizes_at-push places after place is));
    }
