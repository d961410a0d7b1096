-- How a script ends: the line of an opening that failed, and the last settling.
use Rattle.std.specs.Prelude.{◌≡◌, ◌≢◌, ◌⊎◌, ℕ, ◌≤◌, true, false, List, [], ◌++◌, length}
use Rattle.delf_disk.specs.Areas.{Areas}
use Rattle.delf_disk.specs.Causes.{Rose}
use Rattle.store_laws.specs.Stores.{Settled}
use Rattle.store_laws.specs.Moves.{RestIn}
use Rattle.job_report.specs.Texts.{down_text}
use Rattle.delf_recovery.specs.declared.fault.OpenFault.{OpenFault}
use Rattle.delf_recovery.specs.declared.fault.OpenFault.TheVariants as fault
use Rattle.script_runner.specs.declared.status.Status.{Status}
use Rattle.script_runner.specs.declared.status.Status.TheVariants.{Done, WriteFault, OutOfMemory, Down, BadStore}
use Rattle.documents.specs.Cuts.{IsCut}
use Rattle.script_runner.specs.Outcomes.{bad_text}
use Rattle.script_runner.specs.Worlds.{World, IsHeld}

-- the line that tells of an opening that failed; want of memory tells none
abbrev pub unopened_line : OpenFault → List ℕ
unopened_line fault.DiskFault = down_text 0
unopened_line fault.OutOfMemory = []
unopened_line (fault.BadStore area at) = bad_text area at

abbrev pub UnopenedText : OpenFault → List ℕ → List ℕ → Status → Type 0
UnopenedText it before after (WriteFault done) = IsCut before after (unopened_line it)
UnopenedText it before after (OutOfMemory done) = after ≡ before
UnopenedText it before after (Down len) = after ≡ before ++ down_text 0
UnopenedText it before after (BadStore area at) = after ≡ before ++ bad_text area at
UnopenedText it before after status = ⊥

abbrev pub UnopenedCause : OpenFault → ℕ → Type 0 → Status → Type 0
UnopenedCause it done write_rose (WriteFault n) = (n ≡ done) × write_rose × (it ≢ fault.OutOfMemory)
UnopenedCause it done write_rose (OutOfMemory n) = n ≡ done
UnopenedCause it done write_rose (Down len) = (it ≡ fault.DiskFault) × (len ≡ 0)
UnopenedCause it done write_rose (BadStore area at) = it ≡ fault.BadStore area at
UnopenedCause it done write_rose status = ⊥

-- the line of a last settling that met a disk fault, after so many commands

abbrev pub DownText : ℕ → List ℕ → List ℕ → Status → Type 0
DownText len before after (WriteFault n) = IsCut before after (down_text len)
DownText len before after (OutOfMemory n) = after ≡ before
DownText len before after (Down n) = after ≡ before ++ down_text len
DownText len before after status = ⊥

abbrev pub DownCause : ℕ → ℕ → Type 0 → Status → Type 0
DownCause len done write_rose (WriteFault n) = (n ≡ done) × write_rose
DownCause len done write_rose (OutOfMemory n) = n ≡ done
DownCause len done write_rose (Down n) = n ≡ len
DownCause len done write_rose status = ⊥

-- sink and disk after the last settling, by the world after so many commands

-- it was settled
pub record Settles (w : World) (start now : ℕ) (images : Areas → Type 0) : Type 0 where
  pub up : w.down ≡ false
  pub count : now ≡ start
  pub settled : (c : Areas) → images c → Settled w.rules w.history c
  pub rests : RestIn w.rules w.history w.payloads images

-- it was down before the settling
pub record StaysDown (w : World) (start now : ℕ) (images : Areas → Type 0) : Type 0 where
  pub down : w.down ≡ true
  pub count : now ≡ start
  pub held : IsHeld w images

-- the settling met a disk fault
pub record FallsAtEnd (w : World) (start now : ℕ) (images : Areas → Type 0) : Type 0 where
  pub up : w.down ≡ false
  pub later : start ≤ now
  pub rose : Rose start now
  pub held : IsHeld w images

-- a script puts a line for the fault that the settling met alone
abbrev pub EndText : World → ℕ → ℕ → ℕ → (Areas → Type 0) → List ℕ → List ℕ → Status → Type 0
EndText w done start now images before after Done = Settles w start now images × (after ≡ before)
EndText w done start now images before after (WriteFault n) =
    (n ≡ done) × FallsAtEnd w start now images × IsCut before after (down_text (length w.history))
EndText w done start now images before after (OutOfMemory n) = (n ≡ done) × (start ≤ now) × IsHeld w images × (after ≡ before)
EndText w done start now images before after (Down len) =
    (StaysDown w start now images × (len ≡ length w.history) × (after ≡ before))
    ⊎ (FallsAtEnd w start now images × (len ≡ length w.history) × (after ≡ before ++ down_text len))
EndText w done start now images before after status = ⊥

-- why it ended so; a book that was up fell only where the disk's count rose
abbrev pub EndCause : ℕ → Type 0 → Type 0 → Status → Type 0
EndCause done write_rose fell Done = Unit {0}
EndCause done write_rose fell (WriteFault n) = (n ≡ done) × write_rose
EndCause done write_rose fell (OutOfMemory n) = n ≡ done
EndCause done write_rose fell (Down len) = fell
EndCause done write_rose fell status = ⊥
