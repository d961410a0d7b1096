-- A world: what a script runs against, between two commands.
use Rattle.std.specs.Prelude.{◌≡◌, ℕ, ◌+◌, min, Bool, true, false, List, [], ◌∷◌, ◌++◌, Option, None}
use Rattle.delf_disk.specs.Areas.{Areas}
use Rattle.delf_model.specs.declared.entry.Entry.{Entry}
use Rattle.delf_model.specs.declared.entry.What.{What}
use Rattle.delf_model.specs.RuleSet.{RuleSet}
use Rattle.delf_model.specs.State.{State}
use Rattle.delf_model.specs.Step.{after}
use Rattle.delf_model.specs.Room.{moment_of, greatest_moment}
use Rattle.delf_model.specs.Payloads.{Payloads, payloads_after}
use Rattle.store_laws.specs.Stores.{digest, StandBut}
use Rattle.store_laws.specs.Moves.{RestIn}
use Rattle.entry_codec.specs.EntryHead.{AreEntries}
use Rattle.delf_book.specs.Parts.{Interrupted}
use Rattle.delf_book.specs.Books.{Booked}
use Rattle.delf_book.specs.Holding.{StandsBeside}

-- a history and its payloads, the moment at which calls are made, whether a disk fault was met since the opening, and the
-- entry that may then stand beside the history
pub record World : Type 0 where
  pub rules : RuleSet
  pub history : List Entry
  pub payloads : Payloads
  pub clock : ℕ
  pub down : Bool
  pub beside : Option Interrupted

-- the state after its history
abbrev pub state_of : World → State
state_of w = after w.rules w.history

-- the moment of an entry that is made now
abbrev pub now_of : World → ℕ
now_of w = moment_of (state_of w) w.clock

-- the entry of this kind that is made now
abbrev pub entry_now : World → What → Entry
entry_now w what = record { moment = now_of w; what = what }

-- the same with the payload that it is given, of a call or step that met a disk fault
abbrev pub interrupted : World → What → List ℕ → Interrupted
interrupted w what given = record { entry = entry_now w what; payload = given }

-- the world with this entry more, and up
abbrev pub entered : World → Interrupted → World
entered w it = record {
  rules = w.rules;
  history = w.history ++ it.entry ∷ [];
  payloads = payloads_after digest (state_of w) it.entry it.payload w.payloads;
  clock = w.clock;
  down = false;
  beside = None;
}

-- the world with one entry more, made now, which gives this payload
abbrev pub with_entry : World → What → List ℕ → World
with_entry w what given = entered w (interrupted w what given)

-- down, with this beside the history
abbrev pub fallen : World → Option Interrupted → World
fallen w beside = record w { down = true; beside = beside }

-- up again, with the history that it kept
abbrev pub mended : World → World
mended w = record w { down = false; beside = None }

-- the world so many seconds later
abbrev pub later : World → ℕ → World
later w seconds = record w { clock = min (w.clock + seconds) greatest_moment }

-- what the bytes of a disk hold of a world

-- every image of a disk stands for the history and its payloads, or for it with what is beside it
abbrev pub IsHeld : World → (Areas → Type 0) → Type 0
IsHeld w images = (c : Areas) → images c → StandsBeside w.rules w.history w.payloads w.beside c

-- a world is what a disk with these images holds; while it is up, with one vault record an item and nothing beside
pub record StandsOn (w : World) (images : Areas → Type 0) : Type 0 where
  pub alone : w.down ≡ false → w.beside ≡ None
  pub rests : w.down ≡ false → RestIn w.rules w.history w.payloads images
  pub held : w.down ≡ true → IsHeld w images

-- the world of a book with these payloads, at this moment of the clock
abbrev pub world_of : {G R : Type 0} → Booked G R → ℕ → Payloads → World
world_of book clock e = record {
  rules = book.rules;
  history = book.history;
  payloads = e;
  clock = clock;
  down = book.down;
  beside = book.beside;
}

-- the world that an opening finds where these areas read
pub record Opens (rules : RuleSet) (moment : ℕ) (seen : Areas) (w : World) : Type 0 where
  pub rules_are : w.rules ≡ rules
  pub clock : w.clock ≡ min moment greatest_moment
  pub up : w.down ≡ false
  pub alone : w.beside ≡ None
  pub entries : AreEntries w.history
  pub stands : StandBut rules w.history w.payloads seen
