-- The workers of a block, and how many of its lanes are left.
use Rattle.std.specs.Prelude.{◌≡◌, ◌<◌, ℕ, zero, suc, ◌-◌, ◌⊎◌, Result, Ok, Err}
use Rattle.delf_book.specs.declared.answers.StepFault.{StepFault}
use Rattle.delf_service.specs.declared.answers.Turned.{Turned}
use Rattle.delf_service.specs.declared.answers.Turned.TheVariants as turned
use Rattle.delf_service.specs.declared.standing.Standing.{Standing}
use Rattle.delf_service.specs.Follows.{Follows}
use Rattle.delf_service.specs.Works.{TurnsIn}

-- one lane less is left
abbrev pub one_left : Standing → Standing
one_left s = record s { lanes = s.lanes - 1 }

-- what the seat of a lane has seen before and after its last turn, in which it says that the lane is over
pub record LeavesOne (before after : Standing) : Type 0 where
  pub found : Standing
  pub later : Follows found before
  pub left : after ≡ one_left found

-- a turn that leaves as many lanes as it finds
pub record LeavesAll (before after : Standing) : Type 0 where
  pub found : Standing
  pub later : Follows found before
  pub lanes_is : after.lanes ≡ found.lanes

-- so many such turns, one after the other
abbrev pub HasMade : ℕ → Standing → Standing → Type 0
HasMade zero before after = after ≡ before
HasMade (suc n) before after = (between : Standing) × HasMade n before between × LeavesAll between after

-- a worker goes on behind a step, and behind a turn without one while a lane is left
abbrev pub GoesOn : Result Turned StepFault → ℕ → Type 0
GoesOn (Ok (turned.Stepped position)) lanes = Unit {0}
GoesOn (Ok (turned.Idle len)) lanes = 0 < lanes
GoesOn (Err why) lanes = ⊥

-- it ends where there is no step once no lane is left, and at a fault
abbrev pub Ends : Result Turned StepFault → ℕ → Type 0
Ends (Ok (turned.Stepped position)) lanes = ⊥
Ends (Ok (turned.Idle len)) lanes = lanes ≡ 0
Ends (Err why) lanes = Unit {0}

-- one turn of a worker, with what is said of its outcome and of the lanes that were left then
pub record Turn (now : ℕ) (Says : Result Turned StepFault → ℕ → Type 0) (before after : Standing) : Type 0 where
  pub outcome : Result Turned StepFault
  pub found : Standing
  pub later : Follows found before
  pub turns : TurnsIn found after now outcome
  pub says : Says outcome after.lanes

-- so many turns, one after the other, behind each of which the worker goes on
abbrev pub HasTurned : ℕ → ℕ → Standing → Standing → Type 0
HasTurned now zero before after = after ≡ before
HasTurned now (suc n) before after = (between : Standing) × HasTurned now n before between × Turn now GoesOn between after

-- a worker made all its turns, or ended at one of them
abbrev pub WorkerDone : ℕ → ℕ → Standing → Standing → Type 0
WorkerDone now turns before after =
    HasTurned now turns before after ⊎ ((n : ℕ) × (n < turns) × (between : Standing) × HasTurned now n before between × Turn now Ends between after)
