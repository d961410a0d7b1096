-- What stands at the front after a write from a place on.
use Rattle.std.proofs.Common.{◌≡◌, ℕ, ◌+◌, ◌≤◌, List, ◌++◌, length, take, sym, ap, ◌∙◌, append_assoc, arith}
use Rattle.std.proofs.lemmas.List.{take_at, length-append, length-take}
use borrow.Rule.Slice.PartMut.{put_mid, post_of}

pub take-written : (at len n : ℕ) (out part text rest : List ℕ) → at ≤ length out → length text ≡ n → part ≡ text ++ rest → take (at + n) (put_mid at len out part) ≡ take at out ++ text
take-written at len n out part text rest le length_text e =
    let after : List ℕ = rest ++ post_of at len out in
    let regrouped : put_mid at len out part ≡ (take at out ++ text) ++ after =
    ap (λ (p : List ℕ). take at out ++ (p ++ post_of at len out)) e
    ∙ ap (λ (p : List ℕ). take at out ++ p) (append_assoc text rest (post_of at len out))
    ∙ sym (append_assoc (take at out) text after) in
    ap (take (at + n)) regrouped ∙ take_at (take at out ++ text) after (at + n) (omega (arith, length-append (take at out) text, length-take at out))
