-- Bytes that were read, and all that the source had left: a fault of the ones is a fault of the other.
use Rattle.std.proofs.Common.{◌≡◌, ℕ, ◌≤◌, ◌<◌, Bool, List, [], ◌++◌, length, sym, ap, subst, ◌∙◌, arith, length-append, append-nil}
use Rattle.script_lang.specs.Scripts.{Fault}
use Rattle.documents.specs.Documents.{IsFault, TooLong, InPart, InCheck, InScript}

-- what was read is all that was left, where it is short enough to be a document
pub all_read : (left read rest : List ℕ) → left ≡ read ++ rest → (length read < 16777217 → rest ≡ []) →
    length read ≤ 16777216 → left ≡ read
all_read left read rest whole short small =
    let none : rest ≡ [] = short (omega arith) in
    whole ∙ (ap (λ (t : List ℕ). read ++ t) none ∙ append-nil read)

pub lift_fault : (blocks : Bool) (left read rest : List ℕ) (fault : Fault) → left ≡ read ++ rest → (length read < 16777217 → rest ≡ []) → IsFault blocks read fault → IsFault blocks left fault
lift_fault blocks left read rest fault whole short (TooLong long is) =
    TooLong (omega (arith, ap length whole, length-append read rest)) is
lift_fault blocks left read rest fault whole short (InPart found small part is) =
    subst (λ (t : List ℕ). IsFault blocks t fault) (sym (all_read left read rest whole short small)) (InPart found small part is)
lift_fault blocks left read rest fault whole short (InCheck part broken has first is) =
    subst (λ (t : List ℕ). IsFault blocks t fault) (sym (all_read left read rest whole short has.size)) (InCheck part broken has first is)
lift_fault blocks left read rest fault whole short (InScript part has checked is) =
    subst (λ (t : List ℕ). IsFault blocks t fault) (sym (all_read left read rest whole short has.size)) (InScript part has checked is)
