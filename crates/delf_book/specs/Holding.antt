-- What the disk of a book holds, told of what the book is seen as.
use Rattle.std.specs.Prelude.{◌≡◌, ℕ, false, List, [], ◌∷◌, Option, Some, None, filter, if◌then◌else◌}
use Rattle.delf_disk.specs.Areas.{Areas}
use Rattle.delf_model.specs.declared.entry.Entry.{Entry}
use Rattle.delf_model.specs.RuleSet.{RuleSet}
use Rattle.delf_model.specs.State.{State}
use Rattle.delf_model.specs.Payloads.{Payloads, payload_at, is_at, is_needed}
use Rattle.store_laws.specs.Stores.{StandBut, Stand, Clean}
use Rattle.store_laws.specs.Moves.{RestIn, StandsFor}
use Rattle.delf_book.specs.Parts.{Interrupted}
use Rattle.delf_book.specs.Books.{Booked}

-- these areas stand for a history and its payloads, or for it with what is beside it
abbrev pub StandsBeside : RuleSet → List Entry → Payloads → Option Interrupted → Areas → Type 0
StandsBeside rules history e None c = StandBut rules history e c
StandsBeside rules history e (Some it) c = StandsFor rules history e it.entry it.payload c

-- these areas stand for some history and its payloads, seals included
abbrev pub StandWhole : RuleSet → Areas → Type 0
StandWhole rules areas = (history : List Entry) × ((e : Payloads) × Stand rules history e areas)

-- The disk holds the history and its payloads, or while the book is down, those with the entry beside them.
pub record Holds {G R : Type 0} (seen : R → Areas) (may_leave : R → Areas → Type 0) (book : Booked G R) : Type 0 where
  pub stands : (c : Areas) → may_leave book.rig c → StandsBeside book.rules book.history book.payloads book.beside c
  -- while it is up, each image has both marks and one vault record an item
  pub rests : book.down ≡ false → RestIn book.rules book.history book.payloads (may_leave book.rig)
  -- and what reads has nothing more but closed tails
  pub clean : book.down ≡ false → Clean book.rules book.history (seen book.rig)

-- each needed position has one pair, and no other position has any
abbrev pub ArePaired : State → Payloads → Type 0
ArePaired s e = (p : ℕ) → filter (is_at p) e.bytes ≡ (if is_needed s p then (p, payload_at e p) ∷ [] else [])
