-- What is known of a shared book at one moment.
use Rattle.std.specs.Prelude.{◌≡◌, ℕ, List, [], Option, Some, None, true, false}
use Rattle.std.specs.List.{Contains}
use Rattle.delf_disk.specs.Causes.{Rose}
use Rattle.delf_disk.specs.Plain.{Plain}
use Rattle.delf_disk.specs.declared.area.Order.TheVariants.{Nothing}
use Rattle.delf_disk.specs.declared.disk.Disk.{Ghosts}
use Rattle.delf_model.specs.declared.entry.Entry.{Entry}
use Rattle.delf_model.specs.declared.entry.Tag.{Tag}
use Rattle.delf_model.specs.Payloads.{Payloads}
use Rattle.delf_model.specs.State.{State}
use Rattle.delf_model.specs.Step.{tag_of, after}
use Rattle.delf_book.specs.Books.{Booked}
use Rattle.delf_book.specs.Holding.{StandWhole}
use Rattle.seat_lock.specs.declared.view.Moment.{Moment}
use Rattle.seat_lock.specs.Views.{moment}
use Rattle.delf_service.specs.declared.standing.DiskKind.{DiskKind}
use Rattle.delf_service.specs.declared.standing.Key.{Key}
use Rattle.delf_service.specs.declared.standing.Opening.{Opening}
use Rattle.delf_service.specs.declared.standing.Standing.{Standing}

abbrev pub seat_of_tag : Option Tag → Option ℕ
seat_of_tag None = None
seat_of_tag (Some tag) = Some tag.seat

-- the number of the seat that made the entry, or none
abbrev pub seat_of : Entry → Option ℕ
seat_of e = seat_of_tag (tag_of e.what)

-- the state after the history
abbrev pub state_at : Standing → State
state_at s = after s.key.rules s.history

-- the payloads at the needed positions, and the seal of each item
abbrev pub payloads_of : Standing → Payloads
payloads_of s = record { bytes = s.payloads; seals = s.seals }

-- the disk tells its bytes and is honest: what is said of payloads is said of such a disk
abbrev pub IsPlain : Key → Type 0
IsPlain key = Plain key.disk.told key.disk.honest

-- the areas stood for a history and its payloads, seals included, when the book was opened
abbrev pub StoodWhole : Key → Type 0
StoodWhole key = StandWhole key.rules (record { journal = key.opening.journal; vault = key.opening.vault })

-- where the book is down, the disk's count of faults rose since the opening
abbrev pub IsCaused : Standing → Type 0
IsCaused s = s.down ≡ true → Rose s.key.opening.faults s.faults

-- what kind of disk it is, and the disk as it was at an opening
abbrev pub kind_of : {R : Type 0} → Ghosts R → R → DiskKind
kind_of d rig = record { told = d.told rig; honest = d.honest rig; order = d.order rig; orders = d.orders rig }

abbrev pub opening_of : {R : Type 0} → Ghosts R → R → Opening
opening_of d opened = record { faults = d.faults opened; journal = (d.seen opened).journal; vault = (d.seen opened).vault }

-- a book as it stands, where each call hands in this moment and so many lanes of a block are left
abbrev pub standing_in : {G R : Type 0} → Ghosts R → Booked G R → Option ℕ → ℕ → Standing
standing_in d book moment lanes = record {
  history = book.history;
  payloads = book.payloads.bytes;
  seals = book.payloads.seals;
  faults = d.faults book.rig;
  down = book.down;
  lanes = lanes;
  key = record { rules = book.rules; moment = moment; disk = kind_of d book.rig; opening = opening_of d book.opened };
}

-- the same where no lane is left
abbrev pub standing_of : {G R : Type 0} → Ghosts R → Booked G R → Option ℕ → Standing
standing_of d book moment = standing_in d book moment 0

-- so many lanes are left
abbrev pub with_lanes : Standing → ℕ → Standing
with_lanes s n = record s { lanes = n }

-- no lane is left any more
abbrev pub laneless : Standing → Standing
laneless s = with_lanes s 0

-- the standing is that of one of these moments
abbrev pub Sees : List (Moment Standing) → Standing → Type 0
Sees moments s = (at : ℕ) × Contains moments (moment at s)

-- any one
abbrev pub blank_standing : Standing
blank_standing = record {
  history = [];
  payloads = [];
  seals = [];
  faults = 0;
  down = false;
  lanes = 0;
  key = record {
    rules = record { window = 0; objects = []; edges = [] };
    moment = None;
    disk = record { told = false; honest = false; order = Nothing; orders = 0 };
    opening = record { faults = 0; journal = []; vault = [] };
  };
}
