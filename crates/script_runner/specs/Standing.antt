-- What a command makes of a book and its disk, said of the world that they hold.
use Rattle.std.specs.Prelude.{◌≡◌, ◌⊎◌, ℕ, ◌≤◌, true, false, List, Result, Ok, Err}
use Rattle.delf_disk.specs.Areas.{Areas}
use Rattle.delf_disk.specs.Causes.{Rose}
use Rattle.delf_model.specs.declared.schema.Schema.{Schema}
use Rattle.delf_model.specs.declared.script.Command.{Command}
use Rattle.delf_model.specs.declared.script.Command.TheVariants.{Crash, Par}
use Rattle.delf_model.specs.Payloads.{Payloads}
use Rattle.delf_book.specs.Books.{Booked}
use Rattle.store_laws.specs.Stores.{Settled}
use Rattle.script_runner.specs.Worlds.{World, StandsOn, IsHeld, world_of}
use Rattle.job_report.specs.declared.work.WorkEnd.{WorkEnd}
use Rattle.job_report.specs.Texts.{down_text}
use Rattle.script_runner.specs.declared.faults.LineFault.{LineFault}
use Rattle.script_runner.specs.declared.faults.LineFault.TheVariants.{OutOfMemory, Failed}
use Rattle.script_runner.specs.Serial.{Serves, StepsEnd, Reads, Halts, Script}

-- the count of faults never falls, and rose where the book fell; no claim comes or goes
pub record Falls {G R : Type 0} (faults : R → ℕ) (old now : Booked G R) : Type 0 where
  pub later : faults old.rig ≤ faults now.rig
  pub fell : now.down ≡ true → (old.down ≡ true) ⊎ Rose (faults old.rig) (faults now.rig)
  pub held : now.held ≡ old.held

-- the world after a command: it stands on the disk
pub record Carried {G R : Type 0} (may_leave : R → Areas → Type 0) (faults : R → ℕ) (schema : Schema) (command : Command) (w : World) (before : ℕ)
    (now : Booked G R) (clock : ℕ) (text : List ℕ) : Type 0 where
  pub payloads : Payloads
  pub serves : Serves schema w command before (faults now.rig) text (world_of now clock payloads)
  pub stands : StandsOn (world_of now clock payloads) (may_leave now.rig)

-- a command makes of the world that stands on the disk one that it may make, with this text
abbrev pub Carries : {G R : Type 0} → (R → Areas → Type 0) → (R → ℕ) → Schema → Command → Booked G R → Booked G R → ℕ → ℕ → Payloads → List ℕ → Type 0
Carries may_leave faults schema command old now clock next_clock e text =
    StandsOn (world_of old clock e) (may_leave old.rig) →
    Carried may_leave faults schema command (world_of old clock e) (faults old.rig) now next_clock text

-- a world where want of memory may leave the command: the disk stands for it
pub record HaltedAt (command : Command) (w : World) (images : Areas → Type 0) : Type 0 where
  pub next : World
  pub halts : Halts command w next
  pub held : IsHeld next images

abbrev pub Halted : {G R : Type 0} → (R → Areas → Type 0) → Command → Booked G R → ℕ → Payloads → R → Type 0
Halted may_leave command old clock e rig = StandsOn (world_of old clock e) (may_leave old.rig) → HaltedAt command (world_of old clock e) (may_leave rig)

-- the same of steps, by their number and why no more were made

pub record StepsCarried {G R : Type 0} (may_leave : R → Areas → Type 0) (faults : R → ℕ) (n : ℕ) (w : World) (before : ℕ) (now : Booked G R) (clock : ℕ)
    (made : ℕ) (end : WorkEnd) : Type 0 where
  pub payloads : Payloads
  pub ends : StepsEnd n w before (faults now.rig) made end (world_of now clock payloads)
  pub stands : StandsOn (world_of now clock payloads) (may_leave now.rig)

abbrev pub StepsCarry : {G R : Type 0} → (R → Areas → Type 0) → (R → ℕ) → ℕ → Booked G R → Booked G R → ℕ → Payloads → ℕ → WorkEnd → Type 0
StepsCarry may_leave faults n old now clock e made end =
    StandsOn (world_of old clock e) (may_leave old.rig) → StepsCarried may_leave faults n (world_of old clock e) (faults old.rig) now clock made end

-- and of what reads the disk and says this of a world

pub record ReadOut {G R : Type 0} (may_leave : R → Areas → Type 0) (faults : R → ℕ) (said : List ℕ) (w : World) (before : ℕ) (now : Booked G R)
    (clock : ℕ) (e : Payloads) (text : List ℕ) : Type 0 where
  pub reads : Reads w said before (faults now.rig) text (world_of now clock e)
  pub stands : StandsOn (world_of now clock e) (may_leave now.rig)

abbrev pub ReadsOut : {G R : Type 0} → (R → Areas → Type 0) → (R → ℕ) → (World → List ℕ) → Booked G R → Booked G R → List ℕ → Type 0
ReadsOut may_leave faults said old now text =
    (clock : ℕ) (e : Payloads) → StandsOn (world_of old clock e) (may_leave old.rig) →
    ReadOut may_leave faults (said (world_of old clock e)) (world_of old clock e) (faults old.rig) now clock e text

abbrev pub StaysHeld : {G R : Type 0} → (R → Areas → Type 0) → Booked G R → Booked G R → Type 0
StaysHeld may_leave old now =
    (clock : ℕ) (e : Payloads) → StandsOn (world_of old clock e) (may_leave old.rig) → IsHeld (world_of old clock e) (may_leave now.rig)

-- lines that were told, or the line of the disk fault that was met
abbrev pub LineSaid : Result (List ℕ) LineFault → List ℕ → Type 0
LineSaid (Ok line) text = text ≡ line
LineSaid (Err OutOfMemory) text = ⊥
LineSaid (Err (Failed len)) text = text ≡ down_text len

-- while the book is up every image is its settled store
abbrev pub HasSettled : {G R : Type 0} → (R → Areas → Type 0) → Booked G R → Type 0
HasSettled may_leave book = book.down ≡ false → (c : Areas) → may_leave book.rig c → Settled book.rules book.history c

-- a command that keeps the store open
abbrev pub IsOpen : Command → Type 0
IsOpen (Crash pick) = ⊥
IsOpen other = Unit {0}

-- the same, and no block
abbrev pub IsServed : Command → Type 0
IsServed (Crash pick) = ⊥
IsServed (Par quiet workers turns lanes) = ⊥
IsServed other = Unit {0}

-- the commands so far: their text, and the world that they lead to, which stands on the disk
pub record Reached {G R : Type 0} (may_leave : R → Areas → Type 0) (faults : R → ℕ) (schema : Schema) (first : World) (commands : List Command) (start : ℕ)
    (book : Booked G R) (clock : ℕ) (text : List ℕ) : Type 0 where
  pub payloads : Payloads
  pub script : Script schema first commands start (faults book.rig) text (world_of book clock payloads)
  pub stands : StandsOn (world_of book clock payloads) (may_leave book.rig)

-- commands from a world on led to the world of this book, whatever their lines
abbrev pub Leads : {G R : Type 0} → (R → Areas → Type 0) → (R → ℕ) → Schema → World → List Command → ℕ → Booked G R → ℕ → Type 0
Leads may_leave faults schema first commands start book clock = (text : List ℕ) × Reached may_leave faults schema first commands start book clock text
