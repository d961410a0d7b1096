-- What an opening that was not answered Ok counts, orders and leaves.
use Rattle.std.specs.Prelude.{◌≡◌, ◌⊎◌, ℕ, ◌≤◌}
use Rattle.delf_disk.specs.Areas.{Areas}
use Rattle.delf_disk.specs.declared.area.Order.{Order}
use Rattle.delf_disk.specs.Causes.{Rose}
use Rattle.delf_model.specs.declared.script.Command.{Command}
use Rattle.delf_model.specs.declared.script.Command.TheVariants.{Crash}
use Rattle.delf_model.specs.Payloads.{Payloads}
use Rattle.delf_model.specs.RuleSet.{RuleSet}
use Rattle.delf_book.specs.Books.{Booked}
use Rattle.delf_recovery.specs.declared.fault.OpenFault.{OpenFault}
use Rattle.delf_recovery.specs.declared.fault.OpenFault.TheVariants.{DiskFault, OutOfMemory, BadStore}
use Rattle.delf_recovery.specs.Opening.{StaysBad}
use Rattle.script_runner.specs.Orders.{Gives}
use Rattle.script_runner.specs.Standing.{Halted}
use Rattle.script_runner.specs.Worlds.{StandsOn, IsHeld, world_of}

-- the count of faults stays, but where a disk fault is answered, where it rises
abbrev pub CountsOpen : ℕ → ℕ → OpenFault → Type 0
CountsOpen before now DiskFault = (before ≤ now) × Rose before now
CountsOpen before now OutOfMemory = now ≡ before
CountsOpen before now (BadStore area at) = now ≡ before

-- where a place is told, whatever a crash leaves is bad at it, with each area of more than nine bytes as it was
abbrev pub LeavesBad : RuleSet → Areas → (Areas → Type 0) → OpenFault → Type 0
LeavesBad rules seen images DiskFault = Unit {0}
LeavesBad rules seen images OutOfMemory = Unit {0}
LeavesBad rules seen images (BadStore area at) = (c : Areas) → images c → StaysBad rules area at seen c

-- a command that was not made: the count never falls, and rose where the disk failed
pub record StopCounts (before now : ℕ) (it : OpenFault) : Type 0 where
  pub later : before ≤ now
  pub failed : it ≡ DiskFault → Rose before now

-- a command that was not made gave no order, or its own
abbrev pub MayGive : Command → Order → ℕ → Order → ℕ → Type 0
MayGive command order count next now = ((next ≡ order) × (now ≡ count)) ⊎ Gives command order count next now

abbrev pub IsCrash : Command → Type 0
IsCrash command = (pick : ℕ) × (command ≡ Crash pick)

-- the disk stands for the world from before a command that was not made; over it no opening finds a bad store
abbrev pub Stops : {G R : Type 0} → (R → Areas → Type 0) → Command → Booked G R → ℕ → Payloads → R → OpenFault → Type 0
Stops may_leave command old clock e rig DiskFault =
    StandsOn (world_of old clock e) (may_leave old.rig) → IsCrash command × IsHeld (world_of old clock e) (may_leave rig)
Stops may_leave command old clock e rig OutOfMemory = Halted may_leave command old clock e rig
Stops may_leave command old clock e rig (BadStore area at) = StandsOn (world_of old clock e) (may_leave old.rig) → ⊥
