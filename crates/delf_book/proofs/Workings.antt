-- A step's clauses, told of the book that it found.
use Rattle.std.proofs.Common.{◌≡◌, ℕ, true, Some, sym, ap, ◌∙◌, subst}
use Rattle.std.proofs.lemmas.Bool.{and_parts}
use Rattle.std.specs.Prelude.{Option}
use Rattle.delf_model.specs.declared.entry.What.{What}
use Rattle.delf_model.specs.Room.{moment_of}
use Rattle.delf_model.specs.State.{State}
use Rattle.delf_model.specs.Legal.{is_legal}
use Rattle.delf_model.specs.Order.{is_step, first_step}
use Rattle.delf_model.specs.Sound.{FirstIsLegal}
use Rattle.delf_book.specs.Books.{Booked, state_in}

one_step : (o : Option What) (a b : What) → Some a ≡ o → o ≡ Some b → a ≡ b
one_step o a b one two = cc

-- it is legal
pub first_line : (s : State) (moment : ℕ) (what : What) → FirstIsLegal s moment → Some what ≡ first_step s moment → is_legal s (record { moment = moment; what = what }) ≡ true
first_line s moment what first is = (and_parts (is_step what) (is_legal s (record { moment = moment; what = what })) (first.legal what (sym is))).1

-- what holds of the step that was made holds of the first step of the book
pub of_first : {G R : Type 0} (view book : Booked G R) → view ≡ book → (now m : ℕ) → m ≡ moment_of (state_in view) now → (what : What) → Some what ≡ first_step (state_in view) m →
    (Q : Booked G R → ℕ → What → Type 0) → Q view m what →
    (other : What) → first_step (state_in book) (moment_of (state_in book) now) ≡ Some other → Q book (moment_of (state_in book) now) other
of_first {G} {R} view book is now m m_is what first Q holds =
    subst (λ (b : Booked G R). (other : What) → first_step (state_in b) (moment_of (state_in b) now) ≡ Some other → Q b (moment_of (state_in b) now) other) is
    (λ other at. subst (λ (w : What). Q view (moment_of (state_in view) now) w)
    (one_step (first_step (state_in view) (moment_of (state_in view) now)) what other (first ∙ ap (first_step (state_in view)) m_is) at) (subst (λ (k : ℕ). Q view k what) m_is holds))
