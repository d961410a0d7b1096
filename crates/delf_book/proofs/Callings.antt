-- A call's clauses, told of the book that it found.
use Rattle.std.proofs.Common.{◌≡◌, ℕ, ◌≤◌, length, sym, ap, ◌∙◌, subst}
use Rattle.std.specs.Prelude.{Result, Ok}
use Rattle.delf_model.specs.declared.call.Call.{Call}
use Rattle.delf_model.specs.declared.call.Refusal.{Refusal}
use Rattle.delf_model.specs.declared.entry.Entry.{Entry}
use Rattle.delf_model.specs.declared.entry.What.{What}
use Rattle.delf_model.specs.Room.{moment_of}
use Rattle.delf_model.specs.Reply.{reply}
use Rattle.delf_book.specs.Books.{Booked, state_in, HasNumbers, given_by}
use Rattle.delf_book.proofs.Asking.{IsCallEntry, call_entry}

ok_is : (r : Result What Refusal) (a b : What) → Ok a ≡ r → r ≡ Ok b → a ≡ b
ok_is r a b one two = cc

module _ {G R : Type 0} (view book : Booked G R) (is : view ≡ book) (now seat : ℕ) (asked : Call) (m : ℕ) (m_is : m ≡ moment_of (state_in view) now) (what : What)
    (replied : Ok what ≡ reply (state_in view) m seat asked) where
  same_what : (other : What) → reply (state_in view) (moment_of (state_in view) now) seat asked ≡ Ok other → what ≡ other
  same_what other is = ok_is (reply (state_in view) (moment_of (state_in view) now) seat asked) what other (replied ∙ ap (λ (k : ℕ). reply (state_in view) k seat asked) m_is) is

  pub entry_here : length view.rules.objects ≤ 64 → HasNumbers book.rules asked → IsCallEntry (state_in view) (given_by asked) what
  entry_here objects numbers =
      call_entry view.rules (state_in view) objects m seat asked what (subst (λ (b : Booked G R). HasNumbers b.rules asked) (sym is) numbers) (sym replied)

  -- what holds of the entry that was made holds of the one that the call asks for
  pub of_reply : (Q : Booked G R → Entry → Type 0) → Q view (record { moment = m; what = what }) →
      (other : What) → reply (state_in book) (moment_of (state_in book) now) seat asked ≡ Ok other → Q book (record { moment = moment_of (state_in book) now; what = other })
  of_reply Q holds =
      subst (λ (b : Booked G R). (other : What) → reply (state_in b) (moment_of (state_in b) now) seat asked ≡ Ok other → Q b (record { moment = moment_of (state_in b) now; what = other })) is
      (λ other at. subst (λ (w : What). Q view (record { moment = moment_of (state_in view) now; what = w })) (same_what other at)
      (subst (λ (k : ℕ). Q view (record { moment = k; what = what })) m_is holds))
