-- A put of an item whose seal differs from the digest of its payload is a put of a damaged item, and the other way round.
use Rattle.std.proofs.Common.{◌≡◌, ℕ, Bool, true, false, List, Option, Some, None, refl, sym, ap, ◌∙◌, subst}
use Rattle.std.specs.Prelude.{◌≢◌, slice_get}
use Rattle.delf_model.specs.declared.entry.Entry.{Entry}
use Rattle.delf_model.specs.declared.entry.What.{What}
use Rattle.delf_model.specs.declared.entry.What.TheVariants.{Put}
use Rattle.delf_model.specs.RuleSet.{RuleSet}
use Rattle.delf_model.specs.State.{State, Logged, Handled, position_of, is_open}
use Rattle.delf_model.specs.Step.{after}
use Rattle.delf_model.specs.Legal.{is_legal, is_allowed, Legal}
use Rattle.delf_model.specs.Report.{was_put}
use Rattle.delf_model.specs.Payloads.{Payloads, payload_at, IsDamaged}
use Rattle.delf_model.proofs.Lines.{allowed_of}
use Rattle.delf_model.proofs.Places.{MayPut, may_put_of}
use Rattle.payload_laws.specs.Holders.{SealDiffers}
use Rattle.payload_laws.proofs.Members.{some_is}
use Rattle.payload_laws.proofs.Rows.{none_handled, may_open}
use Rattle.payload_laws.proofs.Placed.{placed_after}
use Rattle.payload_laws.proofs.Moves.{payloads_held, item_needed}

pub damaged_at_put : (digest : List ℕ → List ℕ) (rules : RuleSet) (history : List Entry) (e : Payloads) (entry : Entry) (job i : ℕ) (logged : Logged) → Legal rules history →
    is_legal (after rules history) entry ≡ true → entry.what ≡ Put job i → slice_get (after rules history).items i ≡ Some logged → SealDiffers digest e i logged →
    IsDamaged digest (after rules history) e i
damaged_at_put digest rules history e entry job i logged legal line puts there differs = record {
  logged = logged;
  there = there;
  needed = item_needed s (position_of logged.item) i logged there refl ((placed_after rules history legal).unpurged i logged there opened) unput;
  carried = (payloads_held rules history legal).held.items i logged there unput;
  differs = differs;
}
  where
    s : State
    s = after rules history

    may : MayPut s job i
    may = may_put_of s job i (slice_get s.items i) refl (subst (λ (w : What). is_allowed s entry.moment w ≡ true) puts (allowed_of s entry line))

    same : may.logged ≡ logged
    same = some_is (sym may.at ∙ there)

    opened : is_open s.jobs logged ≡ true
    opened = subst (λ (l : Logged). is_open s.jobs l ≡ true) same (may_open s job i may)

    unput : was_put logged.handled ≡ false
    unput =
        ap (λ (l : Logged). was_put l.handled) (sym same) ∙ ap (λ (o : Option Handled). was_put o) (none_handled may.logged.handled may.waiting)

pub damaged_differs : (digest : List ℕ → List ℕ) (rules : RuleSet) (history : List Entry) (e : Payloads) (i : ℕ) (logged : Logged) →
    slice_get (after rules history).items i ≡ Some logged → IsDamaged digest (after rules history) e i → SealDiffers digest e i logged
damaged_differs digest rules history e i logged there damaged =
    subst (λ (l : Logged). SealDiffers digest e i l) (some_is (sym damaged.there ∙ there)) damaged.differs
