-- What the disk of a book holds, up or down.
use Rattle.std.proofs.Common.{◌≡◌, ℕ, Bool, true, false, List, refl, sym, subst}
use Rattle.std.specs.Prelude.{Option, Some, None}
use Rattle.delf_disk.specs.Areas.{Areas}
use Rattle.delf_model.specs.declared.entry.Entry.{Entry}
use Rattle.delf_model.specs.RuleSet.{RuleSet}
use Rattle.delf_model.specs.Legal.{Legal}
use Rattle.delf_model.specs.Payloads.{Payloads}
use Rattle.store_laws.specs.Stores.{StandBut}
use Rattle.store_laws.specs.Moves.{StandsFor}
use Rattle.store_laws.proofs.Appends.{rest_stand}
use Rattle.delf_book.specs.Parts.{Interrupted}
use Rattle.delf_book.specs.Books.{Booked}
use Rattle.delf_book.specs.Holding.{StandsBeside, Holds}
use Rattle.delf_book.specs.Keeping.{KeepsAreas, KeepsDown, KeepsPayloads}
use Rattle.delf_book.specs.Writing.{Rests}
use Rattle.delf_book.proofs.Payloads.{rests_with}

beside_none : (rules : RuleSet) (h : List Entry) (e : Payloads) (beside : Option Interrupted) (c : Areas) → beside ≡ None → StandBut rules h e c →
    StandsBeside rules h e beside c
beside_none rules h e beside c none stands = subst (λ (b : Option Interrupted). StandsBeside rules h e b c) (sym none) stands

-- with nothing beside, images that rest stand
pub rest_beside : (rules : RuleSet) (h : List Entry) (e : Payloads) (beside : Option Interrupted) (images : Areas → Type 0) → Legal rules h → beside ≡ None →
    ((c : Areas) → images c → Rests rules h e c) → (c : Areas) → images c → StandsBeside rules h e beside c
rest_beside rules h e beside images legal none rests = λ c image.
    beside_none rules h e beside c none (rest_stand rules h e c legal (rests c image).0 (rests c image).1)

-- a call that adds no entry met a fault
pub fell_alone : (rules : RuleSet) (h : List Entry) (e : Payloads) (beside : Option Interrupted) (images : Areas → Type 0) → Legal rules h → beside ≡ None →
    ((c : Areas) → images c → Rests rules h e c) → KeepsDown rules h e beside images
fell_alone rules h e beside images legal none rests = rest_beside rules h e beside images legal none rests

-- one that adds this entry did
pub fell_beside : (rules : RuleSet) (h : List Entry) (e : Payloads) (entry : Entry) (given : List ℕ) (it : Interrupted) (images : Areas → Type 0) →
    it.entry ≡ entry → it.payload ≡ given → ((c : Areas) → images c → StandsFor rules h e entry given c) → KeepsDown rules h e (Some it) images
fell_beside rules h e entry given it images same_entry same_payload stands = λ c image.
    subst (λ (x : Entry). StandsFor rules h e x it.payload c) (sym same_entry)
    (subst (λ (p : List ℕ). StandsFor rules h e entry p c) (sym same_payload) (stands c image))

-- what a book tells of its disk, of what it keeps
module _ {G R : Type 0} (seen : R → Areas) (may_leave : R → Areas → Type 0) (book : Booked G R) (legal : Legal book.rules book.history) (opened : Areas)
    (up : book.down ≡ false → KeepsAreas book.rules book.history (seen book.rig) (may_leave book.rig)) (alone : book.down ≡ false → book.beside ≡ None)
    (fell : book.down ≡ true → KeepsDown book.rules book.history book.payloads book.beside (may_leave book.rig))
    (kept : KeepsPayloads book.rules book.history book.payloads book.down (seen book.rig) opened) where
  holds_by : (down : Bool) → book.down ≡ down → Holds seen may_leave book
  holds_by true is = record {
    stands = fell is;
    rests = λ not. absurd (cc (not, is));
    clean = λ not. absurd (cc (not, is));
  }
  holds_by false is =
      let areas = up is in
      let rests = rests_with book.rules book.history book.payloads book.down (seen book.rig) opened is kept (may_leave book.rig) areas.rests in
      record {
        stands = rest_beside book.rules book.history book.payloads book.beside (may_leave book.rig) legal (alone is) rests;
        rests = λ same. rests;
        clean = λ same. areas.clean;
      }

  pub holds_now : Holds seen may_leave book
  holds_now = holds_by book.down refl
