-- What a turn of a worker finds, and what it leaves.
use Rattle.std.specs.Prelude.{◌≡◌, ◌≢◌, ℕ, true, false, List, [], Option, Some, None, Result, Ok, Err, length}
use Rattle.delf_model.specs.declared.entry.What.{What}
use Rattle.delf_model.specs.declared.entry.What.TheVariants.{Put}
use Rattle.delf_model.specs.Legal.{Legal}
use Rattle.delf_model.specs.Order.{first_step, is_legal_step}
use Rattle.delf_model.specs.Room.{moment_of}
use Rattle.delf_model.specs.Sound.{FirstIsLegal}
use Rattle.delf_model.specs.State.{Logged}
use Rattle.delf_model.specs.declared.entry.Entry.{Entry}
use Rattle.delf_book.specs.Steps.{PutsItem, TellsDamage}
use Rattle.delf_book.specs.declared.answers.BookFault.{BookFault}
use Rattle.delf_book.specs.declared.answers.BookFault.TheVariants as book
use Rattle.delf_book.specs.declared.answers.StepFault.{StepFault}
use Rattle.delf_book.specs.declared.answers.StepFault.TheVariants as fault
use Rattle.job_table.specs.Next.{NoneLegal}
use Rattle.delf_service.specs.declared.answers.Began.{Began}
use Rattle.delf_service.specs.declared.answers.Began.TheVariants as began
use Rattle.delf_service.specs.declared.answers.Turned.{Turned}
use Rattle.delf_service.specs.declared.answers.Turned.TheVariants as turned
use Rattle.delf_service.specs.declared.standing.Standing.{Standing}
use Rattle.seat_lock.specs.declared.view.View.{View}
use Rattle.delf_service.specs.Calls.{entry_in, with_entry, PayloadsIn, Falls, IsDown}
use Rattle.delf_service.specs.Standings.{IsCaused, IsPlain, StoodWhole, payloads_of, seat_of, state_at}
use Rattle.delf_service.specs.Follows.{Follows}
use Rattle.delf_service.specs.Turns.{HadTurn, Keeps}

-- the first step of the serial order, where the clock says `now`
abbrev pub first_in : Standing → ℕ → Option What
first_in s now = first_step (state_at s) (moment_of (state_at s) now)

-- a step that is legal there, where the clock says `now`
abbrev pub IsLegalIn : Standing → ℕ → What → Type 0
IsLegalIn s now what = is_legal_step (state_at s) (moment_of (state_at s) now) what ≡ true

-- a legal step was made: its entry stands behind those that were found, and has no seat
pub record SteppedIn (x y : Standing) (now position : ℕ) : Type 0 where
  pub up : x.down ≡ false
  pub what : What
  pub is_legal : IsLegalIn x now what
  pub maker : seat_of (entry_in x now what) ≡ None
  pub left : y ≡ with_entry x (entry_in x now what) (payloads_of y)
  pub payloads : PayloadsIn x y (entry_in x now what) []
  pub position_is : position ≡ length x.history

-- no step is legal
pub record IdleIn (x y : Standing) (now len : ℕ) : Type 0 where
  pub up : x.down ≡ false
  pub none : NoneLegal (state_at x) (moment_of (state_at x) now)
  pub same : y ≡ x
  pub length_is : len ≡ length x.history

-- a step is legal, and was not made
pub record StarvedIn (x y : Standing) (now : ℕ) : Type 0 where
  pub up : x.down ≡ false
  pub what : What
  pub is_legal : IsLegalIn x now what
  pub same : y ≡ x

-- the step met a disk fault
pub record StepFellIn (x y : Standing) (now len : ℕ) : Type 0 where
  pub what : What
  pub is_legal : IsLegalIn x now what
  pub falls : Falls x y
  pub length_is : len ≡ length x.history

-- The item that the step would put back has another digest than the one that was logged: the one is its seal, the other
-- that of the bytes that stand. It never comes where the store stood whole at the opening
pub record DamagedIn (x y : Standing) (now item : ℕ) (stored found : List ℕ) : Type 0 where
  pub up : x.down ≡ false
  pub what : What
  pub is_legal : IsLegalIn x now what
  pub logged : Logged
  pub puts : PutsItem (state_at x) what item logged
  pub differ : stored ≢ found
  pub tells : IsPlain x.key → TellsDamage (state_at x) (payloads_of x) item stored found
  pub never : IsPlain x.key → StoodWhole x.key → ⊥
  pub same : y ≡ x

-- the answer to a turn that finds the standing x and leaves y
abbrev pub StepsIn : Standing → Standing → ℕ → Result Turned StepFault → Type 0
StepsIn x y now (Ok (turned.Stepped position)) = SteppedIn x y now position
StepsIn x y now (Ok (turned.Idle len)) = IdleIn x y now len
StepsIn x y now (Err (fault.Down len)) = IsDown x y len
StepsIn x y now (Err fault.OutOfMemory) = StarvedIn x y now
StepsIn x y now (Err (fault.DiskFault len)) = StepFellIn x y now len
StepsIn x y now (Err (fault.Damaged item stored found)) = DamagedIn x y now item stored found

-- A turn finds a legal history. In it the first step of the serial order is legal, and where there is none no step is
pub record TurnsIn (x y : Standing) (now : ℕ) (outcome : Result Turned StepFault) : Type 0 where
  pub legal : Legal x.key.rules x.history
  pub order : x.down ≡ false → FirstIsLegal (state_at x) (moment_of (state_at x) now)
  pub steps : StepsIn x y now outcome
  pub cause : IsCaused y

-- a turn of a worker's seat: it found a standing that follows what the seat had seen
pub record Worked (v w : View Standing Entry) (now : ℕ) (outcome : Result Turned StepFault) : Type 0 where
  pub found : Standing
  pub turn : HadTurn v w found
  pub turns : TurnsIn found w.seen.state now outcome

-- the serial order: an item that is met damaged is the one that its first step would put back
abbrev pub IsFirstPut : Standing → ℕ → ℕ → Type 0
IsFirstPut s now item = (job : ℕ) × (first_in s now ≡ Some (Put job item))

abbrev pub MeetsFirst : Standing → ℕ → Result Turned StepFault → Type 0
MeetsFirst x now (Err (fault.Damaged item stored found)) = IsFirstPut x now item
MeetsFirst x now (Ok done) = Unit {0}
MeetsFirst x now (Err why) = Unit {0}

-- the fault of the step of a claim, as one of a step
abbrev pub step_fault : BookFault → StepFault
step_fault (book.Down len) = fault.Down len
step_fault (book.DiskFault len) = fault.DiskFault len

-- behind which no further step is made, while memory is there
abbrev pub IsLast : StepFault → Type 0
IsLast fault.OutOfMemory = ⊥
IsLast why = Unit {0}

-- a row was claimed, or given up in vain: nothing that is known of the book changed
pub record LeftIn (x y : Standing) : Type 0 where
  pub legal : Legal x.key.rules x.history
  pub same : y ≡ x

-- what the first half of a turn answers: it is the whole, or a row is claimed
abbrev pub BeginsIn : Standing → Standing → ℕ → Began → Type 0
BeginsIn x y now (began.Claimed claim) = LeftIn x y
BeginsIn x y now (began.Over outcome) = TurnsIn x y now outcome

-- what the second half answers: it made the claimed step, or found the claim given up
abbrev pub EndsIn : Standing → Standing → ℕ → Option (Result Turned StepFault) → Type 0
EndsIn x y now None = LeftIn x y
EndsIn x y now (Some outcome) = TurnsIn x y now outcome

-- turns of the seat that are not the whole of what it does
abbrev pub Passed : View Standing Entry → View Standing Entry → Type 0
Passed v w = Follows w.seen.state v.seen.state × Keeps v w

-- what the seat has seen behind each half
abbrev pub BeginsTurn : View Standing Entry → View Standing Entry → ℕ → Began → Type 0
BeginsTurn v w now (began.Claimed claim) = Passed v w
BeginsTurn v w now (began.Over outcome) = Worked v w now outcome

abbrev pub EndsTurn : View Standing Entry → View Standing Entry → ℕ → Option (Result Turned StepFault) → Type 0
EndsTurn v w now None = Passed v w
EndsTurn v w now (Some outcome) = Worked v w now outcome
