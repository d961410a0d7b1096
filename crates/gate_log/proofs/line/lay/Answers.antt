use Rattle.std.proofs.Common.{◌≡◌, ℕ, List, [], ◌∷◌, ◌++◌, ◌∙◌, ap}
use Rattle.gate_log.specs.Records.{body}
use Rattle.gate_log.proofs.line.lay.Goals as goal

in_a_row : (none one two three four x y head payload x' y' : List ℕ) → none ≡ [] → x ≡ x' → y ≡ y' → one ≡ none ++ x → two ≡ one ++ y → three ≡ two ++ head → four ≡ three ++ payload
    → four ≡ x' ++ y' ++ head ++ payload
in_a_row none one two three four x y head payload x' y' empty first second e1 e2 e3 e4 =
    e4 ∙ ap (λ (l : List ℕ). l ++ payload) (e3 ∙ ap (λ (l : List ℕ). l ++ head) (e2 ∙ ap (λ (l : List ℕ). one ++ l) second
    ∙ ap (λ (l : List ℕ). l ++ y') (e1 ∙ ap (λ (l : List ℕ). none ++ l) first ∙ ap (λ (l : List ℕ). l ++ x') empty)))

pub returns-clause-items : goal.returns-clause-items
unfolding body
returns-clause-items c =
    c.put-5.ensures.items ∙ ap (λ (l : List ℕ). l ++ 0 ∷ [])
    (in_a_row _ _ _ _ _ _ _ _ _ _ _ c.clear.ensures.items c.to_be_bytes.ensures c.to_be_bytes-2.ensures c.put.ensures.items c.put-2.ensures.items c.put-3.ensures.items c.put-4.ensures.items)
