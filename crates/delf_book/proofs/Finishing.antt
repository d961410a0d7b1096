-- What a claim that is finished tells of its step.
use Rattle.std.proofs.Common.{◌≡◌, ℕ, zero, suc, ◌+◌, ◌<◌, ◌≤◌, Bool, true, false, cond, List, [], ◌∷◌, length, refl, sym, ap, ◌∙◌, subst, arith}
use Rattle.std.proofs.lemmas.Bool.{and_parts, false≢true}
use Rattle.std.specs.Prelude.{Contains, slice_index_or}
use Rattle.delf_model.specs.declared.entry.What.{What}
use Rattle.delf_model.specs.State.{State}
use Rattle.delf_model.specs.Legal.{is_legal}
use Rattle.delf_model.specs.Order.{is_step}
use Rattle.delf_model.specs.Room.{greatest_moment, moment_of}
use Rattle.delete_step.specs.Claims.{ClaimView}
use Rattle.ledger.specs.Held.{AreHeld, MayBeHeld}
use Rattle.ledger.proofs.Holding.{is_erasing_of}
use Rattle.delf_book.specs.Books.{Booked, state_in}
use Rattle.delf_book.specs.Claims.{step_of, steps_of, without}
use Rattle.delf_book.proofs.Claiming.{on_row, takes_of}

-- its step is legal at each moment that may come
may_finish : (s : State) (claims : List ClaimView) (claim : ClaimView) → AreHeld s (steps_of claims) → Contains claims claim → MayBeHeld s (step_of claim)
may_finish s [] claim are at = absurd (let below = at.1 in omega arith)
may_finish s (x ∷ xs) claim are at = by_place are.0 (λ more. may_finish s xs claim are.2 more) at.0 at.1 at.2
  where
    by_place : MayBeHeld s (step_of x) → (Contains xs claim → MayBeHeld s (step_of claim)) → (k : ℕ) → k < length (x ∷ xs) → slice_index_or (x ∷ xs) k claim ≡ claim →
        MayBeHeld s (step_of claim)
    by_place this more zero below is = subst (λ (c : ClaimView). MayBeHeld s (step_of c)) is this
    by_place this more (suc k) below is = more (k, omega (arith, below), is)

-- and so where the clock says this
pub finish_line : (s : State) (held : List What) (claims : List ClaimView) (claim : ClaimView) (what : What) (moment now : ℕ) → AreHeld s held → held ≡ steps_of claims →
    Contains claims claim → what ≡ step_of claim → s.moment ≤ greatest_moment → moment ≡ moment_of s now → is_legal s (record { moment = moment; what = what }) ≡ true
finish_line s held claims claim what moment now are steps at is within m_is =
    let may = may_finish s claims claim (subst (AreHeld s) steps are) at in
    let low : s.moment ≤ moment = omega (arith, m_is) in
    let high : moment ≤ greatest_moment = omega (arith, m_is, within) in
    subst (λ (w : What). is_legal s (record { moment = moment; what = w }) ≡ true) (sym is)
    (and_parts (is_step (step_of claim)) (is_legal s (record { moment = moment; what = step_of claim })) (may.legal moment low high)).1

-- where it goes there is one claim less
pub without_one : (claim : ClaimView) (claims : List ClaimView) → Contains claims claim → length (without claim claims) + 1 ≡ length claims
without_one claim [] at = absurd (let below = at.1 in omega arith)
without_one claim (x ∷ xs) at = by_hit (λ more. without_one claim xs more) at.0 at.1 at.2 (on_row claim x) refl
  where
    by_hit : (Contains xs claim → length (without claim xs) + 1 ≡ length xs) → (k : ℕ) → k < length (x ∷ xs) → slice_index_or (x ∷ xs) k claim ≡ claim →
        (b : Bool) → on_row claim x ≡ b → length (cond b xs (x ∷ without claim xs)) + 1 ≡ length (x ∷ xs)
    by_hit more k below is true same = omega arith
    by_hit more zero below is false apart = absurd (false≢true (sym apart ∙ (ap (on_row claim) is ∙ is_erasing_of (step_of claim) (takes_of claim.item))))
    by_hit more (suc k) below is false apart = let fewer = more (k, omega (arith, below), is) in omega (arith, fewer)

-- what holds of the step that was made holds of the step of the claim
pub of_claim : {G R : Type 0} (view book : Booked G R) → view ≡ book → (now m : ℕ) → m ≡ moment_of (state_in view) now → (what other : What) → what ≡ other →
    (Q : Booked G R → ℕ → What → Type 0) → Q view m what → Q book (moment_of (state_in book) now) other
of_claim {G} {R} view book is now m m_is what other same Q holds =
    subst (λ (b : Booked G R). Q b (moment_of (state_in b) now) other) is
    (subst (λ (k : ℕ). Q view k other) m_is (subst (λ (w : What). Q view m w) same holds))
