-- What an entry's kind has to meet, from what code finds.
use Rattle.std.proofs.Common.{◌≡◌, ℕ, Bool, true, false, not, Option, Some, None, refl, sym, ap, ◌∙◌}
use Rattle.std.specs.Prelude.{is_some, is_none}
use Rattle.delf_model.specs.declared.call.Refusal.{Refusal}
use Rattle.delf_model.specs.declared.entry.What.{What}
use Rattle.delf_model.specs.State.{State}
use Rattle.delf_model.specs.Legal.{is_allowed}

none_is : (o : Option Refusal) (b : Bool) → is_some o ≡ not b → b ≡ is_none o
none_is None true is = refl
none_is None false is = absurd (cc is)
none_is (Some r) true is = absurd (cc is)
none_is (Some r) false is = refl

-- an entry of a call is allowed where it is not refused
pub by_refusal : (s : State) (moment : ℕ) (what whole : What) (o refusal : Option Refusal) (b : Bool) → is_some o ≡ not b → o ≡ refusal →
    is_none refusal ≡ is_allowed s moment what → whole ≡ what → b ≡ is_allowed s moment whole
by_refusal s moment what whole o refusal b is same allowed whole_is =
    none_is o b is ∙ ap is_none same ∙ allowed ∙ ap (is_allowed s moment) (sym whole_is)
