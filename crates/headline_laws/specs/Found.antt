-- What an opening finds in areas that a run may have left.
use Rattle.std.specs.Prelude.{◌≡◌, ◌⊎◌, ℕ, List, [], ◌∷◌, ◌++◌, Some}
use Rattle.delf_disk.specs.Areas.{Areas}
use Rattle.delf_model.specs.declared.entry.Entry.{Entry}
use Rattle.delf_model.specs.Payloads.{Payloads, payloads_after}
use Rattle.delf_book.specs.Parts.{Interrupted}
use Rattle.opening_laws.specs.Entries.{SamePayloads}
use Rattle.store_laws.specs.Stores.{digest, StandBut}
use Rattle.script_runner.specs.Worlds.{World, state_of, Opens}

-- the history and the payloads of this world
pub record IsThat (w : World) (history : List Entry) (e : Payloads) : Type 0 where
  pub history_is : history ≡ w.history
  pub payloads_are : SamePayloads e w.payloads

-- those of this world with the entry beside it
pub record IsThatWith (w : World) (it : Interrupted) (history : List Entry) (e : Payloads) : Type 0 where
  pub beside : w.beside ≡ Some it
  pub history_is : history ≡ w.history ++ it.entry ∷ []
  pub payloads_are : SamePayloads e (payloads_after digest (state_of w) it.entry it.payload w.payloads)

-- The areas stand for the world, and whatever history and payloads they stand for are the world's. So are those of a world that an
-- opening finds where they read.
pub record StandFor (w : World) (c : Areas) : Type 0 where
  pub stands : StandBut w.rules w.history w.payloads c
  pub only : (history : List Entry) (e : Payloads) → StandBut w.rules history e c → IsThat w history e
  pub opened : (moment : ℕ) (found : World) → Opens w.rules moment c found → IsThat w found.history found.payloads

-- the same of a world that may have an entry beside it: they are the world's, or those with that entry
pub record StandForOneOf (w : World) (c : Areas) : Type 0 where
  pub only : (history : List Entry) (e : Payloads) → StandBut w.rules history e c → IsThat w history e ⊎ ((it : Interrupted) × IsThatWith w it history e)
  pub opened : (moment : ℕ) (found : World) → Opens w.rules moment c found →
      IsThat w found.history found.payloads ⊎ ((it : Interrupted) × IsThatWith w it found.history found.payloads)
