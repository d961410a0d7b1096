-- What a last step leaves of a line, where the steps before it are known.
use Rattle.std.proofs.Common.{◌≡◌, ℕ, List, ◌++◌, Result, IfOk, ◌∙◌}
use Rattle.std.proofs.lemmas.Result.{IfOk-weaker}

pub whole_line : {E : Type 0} (r : Result (List ℕ) E) (line piece whole : List ℕ) → IfOk r (λ now. now ≡ line ++ piece) → line ++ piece ≡ whole → IfOk r (λ now. now ≡ whole)
whole_line r line piece whole last steps = IfOk-weaker r (λ now. now ≡ line ++ piece) (λ now. now ≡ whole) (λ now e. e ∙ steps) last
