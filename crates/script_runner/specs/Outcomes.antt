-- What a run leaves in the sink and on the disk, and why it ended, by its status.
use Rattle.std.specs.Prelude.{◌≡◌, ℕ, ◌+◌, ◌<◌, ◌≤◌, Bool, true, false, IsTrue, Option, Some, None, List, [], ◌∷◌, ◌++◌, ◌⊎◌, length, take, slice_get, codes}
use Rattle.delf_disk.specs.declared.area.Area.{Area}
use Rattle.delf_disk.specs.declared.area.Area.TheVariants.{Journal, Vault}
use Rattle.delf_disk.specs.declared.area.Order.{Order}
use Rattle.delf_disk.specs.Areas.{Areas}
use Rattle.delf_disk.specs.Causes.{Rose}
use Rattle.delf_io.specs.Faults.{next_count}
use Rattle.delf_model.specs.declared.entry.Entry.{Entry}
use Rattle.delf_model.specs.declared.schema.Schema.{Schema}
use Rattle.delf_model.specs.declared.script.Command.{Command}
use Rattle.delf_model.specs.declared.script.Command.TheVariants.{Report, Crash}
use Rattle.delf_model.specs.RuleSet.{RuleSet}
use Rattle.delf_model.specs.Legal.{Legal}
use Rattle.delf_model.specs.Payloads.{Payloads}
use Rattle.delf_model.specs.Sound.{Sound}
use Rattle.store_laws.specs.Stores.{StandBut, Settled}
use Rattle.store_laws.specs.Moves.{RestIn}
use Rattle.opening_laws.specs.Places.{BadPlace}
use Rattle.delf_recovery.specs.Opening.{StaysBad}
use Rattle.job_report.specs.Texts.{down_text, bad_journal_text, bad_vault_text}
use Rattle.script_runner.specs.declared.status.Status.{Status}
use Rattle.script_runner.specs.declared.status.Status.TheVariants.{Done, Usage, BadDocument, ReadFault, WriteFault, OutOfMemory, Down, BadStore}
use Rattle.documents.specs.declared.words.Start.{Start}
use Rattle.documents.specs.declared.words.Start.TheVariants.{At, Asked}
use Rattle.documents.specs.declared.words.Request.{Request}
use Rattle.documents.specs.declared.words.Request.TheVariants.{Run, Check, Load}
use Rattle.documents.specs.declared.document.Document.{Document}
use Rattle.documents.specs.Cuts.{IsCut}
use Rattle.documents.specs.Documents.{OfDocument, HasFault}
use Rattle.script_runner.specs.Checks.{CheckText, CheckCause}
use Rattle.documents.specs.Loads.{OfLoad}
use Rattle.script_runner.specs.Faults.{CutLine, TellsFault, CutsFault}
use Rattle.script_runner.specs.Orders.{GivesAll}
use Rattle.documents.specs.Requests.{moment_of_start}
use Rattle.script_runner.specs.Serial.{Serves, Script, Halts}
use Rattle.script_runner.specs.Worlds.{World, IsHeld, Opens}

abbrev pub usage_line : List ℕ
usage_line = codes "usage: delf run [--at N] | check | load N" ++ 10 ∷ []

-- the history of a world is legal, and what every legal history is
pub record HasSound (w : World) : Type 0 where
  pub legal : Legal w.rules w.history
  pub sound : Sound w.rules w.history

-- Commands that were made one after the other from a first world on: their text, the counts of the disk's faults at its ends,
-- and the world that they lead to.
pub record Ran (schema : Schema) (first : World) (commands : List Command) (before : ℕ) : Type 0 where
  pub text : List ℕ
  pub now : ℕ
  pub last : World
  pub script : Script schema first commands before now text last

-- all were made, and then the store was settled
pub record IsWhole (schema : Schema) (first : World) (commands : List Command) (start now : ℕ) (images : Areas → Type 0) (before after : List ℕ) : Type 0 where
  pub ran : Ran schema first commands start
  pub count : now ≡ ran.now
  pub up : ran.last.down ≡ false
  pub text : after ≡ before ++ ran.text
  pub history : HasSound ran.last
  pub settled : (c : Areas) → images c → Settled ran.last.rules ran.last.history c
  pub rests : RestIn ran.last.rules ran.last.history ran.last.payloads images

-- behind a report, while the world is up, every image is the settled store
abbrev pub SettlesAll : Command → World → (Areas → Type 0) → Type 0
SettlesAll command w images = command ≡ Report → w.down ≡ false → (c : Areas) → images c → Settled w.rules w.history c

-- the sink failed in the lines of the command numbered `done`, or where its opening, or the last settling, met a disk fault, in
-- the line of that fault
pub data IsCutScript (schema : Schema) (first : World) (commands : List Command) (start now : ℕ) (images : Areas → Type 0) (before after : List ℕ) (done : ℕ) : Type 0 where
  InLines : (ran : Ran schema first (take done commands) start) (command : Command) (line : List ℕ) (next : World) → slice_get commands done ≡ Some command →
      Serves schema ran.last command ran.now now line next → IsCut (before ++ ran.text) after line → IsHeld next images →
      SettlesAll command next images → IsCutScript schema first commands start now images before after done
  InOpening : (ran : Ran schema first (take done commands) start) (pick : ℕ) → slice_get commands done ≡ Some (Crash pick) → Rose ran.now now →
      IsCut (before ++ ran.text) after (down_text 0) → IsHeld ran.last images → IsCutScript schema first commands start now images before after done
  InSettling : (ran : Ran schema first commands start) → done ≡ length commands → ran.last.down ≡ false → Rose ran.now now →
      IsCut (before ++ ran.text) after (down_text (length ran.last.history)) → IsHeld ran.last images →
      IsCutScript schema first commands start now images before after done

-- the first `done` commands were made, by faults that the disk's count tells, and the disk stands for the world after them, or
-- for it with some of the next one
pub record Starves (schema : Schema) (first : World) (commands : List Command) (start now : ℕ) (images : Areas → Type 0) (done : ℕ) : Type 0 where
  pub ran : Ran schema first (take done commands) start
  pub count : ran.now ≤ now
  pub next : World
  pub halts : (next ≡ ran.last) ⊎ ((command : Command) × ((slice_get commands done ≡ Some command) × Halts command ran.last next))
  pub held : IsHeld next images

-- memory was wanting after the first `done` commands, whose lines were put
pub record IsStarved (schema : Schema) (first : World) (commands : List Command) (start now : ℕ) (images : Areas → Type 0) (before after : List ℕ) (done : ℕ) : Type 0 where
  pub starves : Starves schema first commands start now images done
  pub text : after ≡ before ++ starves.ran.text

-- the store was down after all commands, or the last settling or an opening met a disk fault
pub data IsDown (schema : Schema) (first : World) (commands : List Command) (start now : ℕ) (images : Areas → Type 0) (before after : List ℕ) (len : ℕ) : Type 0 where
  AtEnd : (ran : Ran schema first commands start) → now ≡ ran.now → ran.last.down ≡ true → len ≡ length ran.last.history → after ≡ before ++ ran.text →
      IsHeld ran.last images → IsDown schema first commands start now images before after len
  InSettling : (ran : Ran schema first commands start) → Rose ran.now now → ran.last.down ≡ false → len ≡ length ran.last.history →
      after ≡ before ++ ran.text ++ down_text len → IsHeld ran.last images → IsDown schema first commands start now images before after len
  InOpening : (n pick : ℕ) (ran : Ran schema first (take n commands) start) → slice_get commands n ≡ Some (Crash pick) → Rose ran.now now → len ≡ 0 →
      after ≡ before ++ ran.text ++ down_text 0 → IsHeld ran.last images → IsDown schema first commands start now images before after len

-- the sink and the disk after commands from a world on, by the status that they ended with
abbrev pub ScriptText : Schema → World → List Command → ℕ → ℕ → (Areas → Type 0) → List ℕ → List ℕ → Status → Type 0
ScriptText schema first commands start now images before after Done = IsWhole schema first commands start now images before after
ScriptText schema first commands start now images before after Usage = ⊥
ScriptText schema first commands start now images before after (BadDocument line) = ⊥
ScriptText schema first commands start now images before after ReadFault = ⊥
ScriptText schema first commands start now images before after (WriteFault done) = IsCutScript schema first commands start now images before after done
ScriptText schema first commands start now images before after (OutOfMemory done) = IsStarved schema first commands start now images before after done
ScriptText schema first commands start now images before after (Down len) = IsDown schema first commands start now images before after len
ScriptText schema first commands start now images before after (BadStore area at) = ⊥

-- Why the first opening found no store: a place is bad. Nothing that the areas may stand for has one. Whatever a crash leaves is
-- bad at the same place, with each area of more than nine bytes as it was.
pub record IsBad (rules : RuleSet) (seen : Areas) (images : Areas → Type 0) (area : Area) (at : ℕ) : Type 0 where
  pub place : BadPlace rules seen area at
  pub stands_not : (history : List Entry) (e : Payloads) → StandBut rules history e seen → ⊥
  pub stays : (c : Areas) → images c → StaysBad rules area at seen c

abbrev pub bad_text : Area → ℕ → List ℕ
bad_text Journal at = bad_journal_text at
bad_text Vault at = bad_vault_text at

-- after a first opening that failed the disk stands for what read at the start, or is as bad as that was
pub record StillStands (rules : RuleSet) (seen : Areas) (first images : Areas → Type 0) : Type 0 where
  pub stands : (history : List Entry) (e : Payloads) → StandBut rules history e seen → (c : Areas) → images c →
      first c ⊎ StandBut rules history e c
  pub bad : (area : Area) (at : ℕ) → BadPlace rules seen area at → (c : Areas) → images c → first c ⊎ StaysBad rules area at seen c

-- the opening found a world, of which this holds
pub record RunsFrom (rules : RuleSet) (moment : ℕ) (seen : Areas) (runs : World → Type 0) : Type 0 where
  pub first : World
  pub opens : Opens rules moment seen first
  pub text : runs first

-- a line of the first opening did not go out whole
abbrev pub CutsOpening : RuleSet → Areas → (Areas → Type 0) → ℕ → ℕ → (Areas → Type 0) → List ℕ → List ℕ → Type 0
CutsOpening rules seen first start now images before after =
    (IsCut before after (down_text 0) × Rose start now × StillStands rules seen first images)
    ⊎ ((area : Area) × ((at : ℕ) × (IsBad rules seen images area at × IsCut before after (bad_text area at))))

-- sink and disk after a store was to be opened, by the bytes that read and the images at the start, the counts of faults, and
-- the images at the end; `runs` is said of the world that was found
abbrev pub OpenedText : RuleSet → ℕ → Areas → (Areas → Type 0) → ℕ → ℕ → (Areas → Type 0) → List ℕ → List ℕ → (World → Status → Type 0) → Status → Type 0
OpenedText rules moment seen first start now images before after runs (WriteFault done) =
    ((done ≡ 0) × CutsOpening rules seen first start now images before after)
    ⊎ RunsFrom rules moment seen (λ w. runs w (WriteFault done))
OpenedText rules moment seen first start now images before after runs (OutOfMemory done) =
    ((done ≡ 0) × (after ≡ before) × StillStands rules seen first images)
    ⊎ RunsFrom rules moment seen (λ w. runs w (OutOfMemory done))
OpenedText rules moment seen first start now images before after runs (Down len) =
    ((len ≡ 0) × Rose start now × (after ≡ before ++ down_text 0) × StillStands rules seen first images)
    ⊎ RunsFrom rules moment seen (λ w. runs w (Down len))
OpenedText rules moment seen first start now images before after runs (BadStore area at) =
    IsBad rules seen images area at × (after ≡ before ++ bad_text area at)
OpenedText rules moment seen first start now images before after runs status = RunsFrom rules moment seen (λ w. runs w status)

-- sink and disk after a document was accepted
abbrev pub DocumentText : Document → ℕ → Areas → (Areas → Type 0) → ℕ → ℕ → (Areas → Type 0) → List ℕ → List ℕ → Status → Type 0
DocumentText document moment seen first start now images before after status =
    OpenedText document.rules moment seen first start now images before after
    (λ w it. ScriptText document.schema w document.commands start now images before after it) status

-- the sink after bytes were read, by the status; `same` says that the disk is as it came in, and `runs` is said of an accepted document
abbrev pub BytesText : Bool → List ℕ → Type 0 → (Document → Status → Type 0) → List ℕ → List ℕ → Status → Type 0
BytesText blocks bytes same runs before after Usage = ⊥
BytesText blocks bytes same runs before after (BadDocument line) = TellsFault blocks bytes line before after
BytesText blocks bytes same runs before after ReadFault = ⊥
BytesText blocks bytes same runs before after (WriteFault done) =
    (CutsFault blocks bytes before after done × same) ⊎ OfDocument blocks bytes (λ document. runs document (WriteFault done))
BytesText blocks bytes same runs before after (OutOfMemory done) =
    ((done ≡ 0) × (after ≡ before) × same) ⊎ OfDocument blocks bytes (λ document. runs document (OutOfMemory done))
BytesText blocks bytes same runs before after status = OfDocument blocks bytes (λ document. runs document status)

-- the sink after the words were no command
abbrev pub UsageText : List ℕ → List ℕ → Status → Type 0
UsageText before after Done = ⊥
UsageText before after Usage = after ≡ before ++ usage_line
UsageText before after (BadDocument line) = ⊥
UsageText before after ReadFault = ⊥
UsageText before after (WriteFault done) = CutLine usage_line before after done
UsageText before after (OutOfMemory done) = ⊥
UsageText before after (Down len) = ⊥
UsageText before after (BadStore area at) = ⊥

-- the sink after a source was to be read; where it tells its bytes, the document is all that it had left
abbrev pub SourceText : Bool → Bool → List ℕ → Type 0 → (Document → Status → Type 0) → List ℕ → List ℕ → Status → Type 0
SourceText blocks told left same runs before after Usage = ⊥
SourceText blocks told left same runs before after ReadFault = after ≡ before
SourceText blocks told left same runs before after status = IsTrue told → BytesText blocks left same runs before after status

-- the sink after a load; memory may be wanting before its document is made
abbrev pub LoadedText : Bool → ℕ → Type 0 → (Document → Status → Type 0) → List ℕ → List ℕ → Status → Type 0
LoadedText blocks n same loads before after (OutOfMemory done) =
    ((done ≡ 0) × (after ≡ before) × same) ⊎ OfLoad blocks n (λ document. loads document (OutOfMemory done))
LoadedText blocks n same loads before after status = OfLoad blocks n (λ document. loads document status)

-- the sink after a run, by what its words ask for, if they are a command, and the clock's last answer; `same` says that the disk is
-- as it came in, `runs` is said of a document that was read, and `loads` of one that a load makes
abbrev pub RunText : Bool → Option Request → ℕ → Bool → List ℕ → Type 0 → (ℕ → Document → Status → Type 0) → (ℕ → ℕ → Document → Status → Type 0) → List ℕ → List ℕ →
    Status → Type 0
RunText blocks None answer told left same runs loads before after status = UsageText before after status
RunText blocks (Some (Run start)) answer told left same runs loads before after status =
    SourceText blocks told left same (runs (moment_of_start start answer)) before after status
RunText blocks (Some Check) answer told left same runs loads before after status = CheckText blocks told left before after status
RunText blocks (Some (Load n)) answer told left same runs loads before after status = LoadedText blocks n same (loads n answer) before after status

-- why commands ended so
abbrev pub ScriptCause : Type 0 → Type 0 → (Area → ℕ → Type 0) → Status → Type 0
ScriptCause write_rose rig_rose bad Done = Unit {0}
ScriptCause write_rose rig_rose bad Usage = ⊥
ScriptCause write_rose rig_rose bad (BadDocument line) = ⊥
ScriptCause write_rose rig_rose bad ReadFault = ⊥
ScriptCause write_rose rig_rose bad (WriteFault done) = write_rose
ScriptCause write_rose rig_rose bad (OutOfMemory done) = Unit {0}
ScriptCause write_rose rig_rose bad (Down len) = rig_rose
ScriptCause write_rose rig_rose bad (BadStore area at) = bad area at

-- why a run of bytes that were read ended so, whatever the sink tells; `bad` is why a store of these rules is
abbrev pub BytesCause : Bool → List ℕ → Type 0 → Type 0 → (RuleSet → Area → ℕ → Type 0) → Status → Type 0
BytesCause blocks bytes write_rose rig_rose bad Done = OfDocument blocks bytes (λ document. Unit {0})
BytesCause blocks bytes write_rose rig_rose bad Usage = ⊥
BytesCause blocks bytes write_rose rig_rose bad (BadDocument line) = HasFault blocks bytes line
BytesCause blocks bytes write_rose rig_rose bad ReadFault = ⊥
BytesCause blocks bytes write_rose rig_rose bad (WriteFault done) = write_rose
BytesCause blocks bytes write_rose rig_rose bad (OutOfMemory done) = Unit {0}
BytesCause blocks bytes write_rose rig_rose bad (Down len) = OfDocument blocks bytes (λ document. rig_rose)
BytesCause blocks bytes write_rose rig_rose bad (BadStore area at) = OfDocument blocks bytes (λ document. bad document.rules area at)

abbrev pub UsageCause : Type 0 → Status → Type 0
UsageCause write_rose Usage = Unit {0}
UsageCause write_rose (WriteFault done) = (done ≡ 0) × write_rose
UsageCause write_rose status = ⊥

abbrev pub SourceCause : Bool → Bool → List ℕ → Type 0 → Type 0 → Type 0 → (RuleSet → Area → ℕ → Type 0) → Status → Type 0
SourceCause blocks told left read_rose write_rose rig_rose bad Done = IsTrue told → OfDocument blocks left (λ document. Unit {0})
SourceCause blocks told left read_rose write_rose rig_rose bad Usage = ⊥
SourceCause blocks told left read_rose write_rose rig_rose bad (BadDocument line) = IsTrue told → HasFault blocks left line
SourceCause blocks told left read_rose write_rose rig_rose bad ReadFault = read_rose
SourceCause blocks told left read_rose write_rose rig_rose bad (WriteFault done) = write_rose
SourceCause blocks told left read_rose write_rose rig_rose bad (OutOfMemory done) = Unit {0}
SourceCause blocks told left read_rose write_rose rig_rose bad (Down len) = rig_rose × (IsTrue told → OfDocument blocks left (λ document. rig_rose))
SourceCause blocks told left read_rose write_rose rig_rose bad (BadStore area at) = IsTrue told → OfDocument blocks left (λ document. bad document.rules area at)

-- why a load ended so; it is one command
abbrev pub LoadCause : Type 0 → Type 0 → (Area → ℕ → Type 0) → Status → Type 0
LoadCause write_rose rig_rose bad Done = Unit {0}
LoadCause write_rose rig_rose bad Usage = ⊥
LoadCause write_rose rig_rose bad (BadDocument line) = ⊥
LoadCause write_rose rig_rose bad ReadFault = ⊥
LoadCause write_rose rig_rose bad (WriteFault done) = (done ≡ 0) × write_rose
LoadCause write_rose rig_rose bad (OutOfMemory done) = done ≡ 0
LoadCause write_rose rig_rose bad (Down len) = rig_rose
LoadCause write_rose rig_rose bad (BadStore area at) = bad area at

-- why a run ended so, whatever the sink tells; of want of memory nothing is said but that the words were a command
abbrev pub RunCause : Bool → Option Request → Bool → List ℕ → Type 0 → Type 0 → Type 0 → (RuleSet → Area → ℕ → Type 0) → Status → Type 0
RunCause blocks None told left read_rose write_rose rig_rose bad status = UsageCause write_rose status
RunCause blocks (Some (Run start)) told left read_rose write_rose rig_rose bad status = SourceCause blocks told left read_rose write_rose rig_rose bad status
RunCause blocks (Some Check) told left read_rose write_rose rig_rose bad status = CheckCause blocks told left read_rose write_rose status
RunCause blocks (Some (Load n)) told left read_rose write_rose rig_rose bad status =
    LoadCause write_rose rig_rose (λ area at. OfLoad blocks n (λ document. bad document.rules area at)) status

-- where nothing was run no disk call was made, and no order was given
abbrev pub Untouched : Type 0 → Status → Type 0
Untouched same Usage = same
Untouched same (BadDocument line) = same
Untouched same ReadFault = same
Untouched same status = Unit {0}

-- a run and a load alone make disk calls
abbrev pub UntouchedBy : Option Request → Type 0 → Status → Type 0
UntouchedBy None same status = same
UntouchedBy (Some (Run start)) same status = Untouched same status
UntouchedBy (Some Check) same status = same
UntouchedBy (Some (Load n)) same status = Untouched same status

-- what was read is all that the source had left, or as many bytes as no document has; reading itself may have ended the run
abbrev pub ReadsAll : List ℕ → List ℕ → Status → Type 0
ReadsAll left rest ReadFault = Unit {0}
ReadsAll left rest (OutOfMemory done) = Unit {0}
ReadsAll left rest status = (read : List ℕ) × ((left ≡ read ++ rest) × (length read < 16777217 → rest ≡ []))

-- a run and a check read the source
abbrev pub ReadsAllBy : Option Request → List ℕ → List ℕ → Status → Type 0
ReadsAllBy None left rest status = Unit {0}
ReadsAllBy (Some (Run start)) left rest status = ReadsAll left rest status
ReadsAllBy (Some Check) left rest status = ReadsAll left rest status
ReadsAllBy (Some (Load n)) left rest status = Unit {0}

-- no words but those of a run and a check read the source
abbrev pub UnreadBy : Option Request → Type 0 → Type 0
UnreadBy None same = same
UnreadBy (Some (Run start)) same = Unit {0}
UnreadBy (Some Check) same = Unit {0}
UnreadBy (Some (Load n)) same = same

-- the orders that the disk got are those of the first commands

-- so many of all commands were made, or the next one too
abbrev pub IsMade : Status → ℕ → ℕ → Type 0
IsMade Done n all = n ≡ all
IsMade (WriteFault done) n all = (n ≡ done) ⊎ (n ≡ done + 1)
IsMade (OutOfMemory done) n all = (n ≡ done) ⊎ (n ≡ done + 1)
IsMade status n all = Unit {0}

pub record OrdersMade (commands : List Command) (order : Order) (count : ℕ) (next : Order) (now : ℕ) (status : Status) : Type 0 where
  pub n : ℕ
  pub gives : GivesAll (take n commands) order count next now
  pub made : IsMade status n (length commands)

-- none, where nothing was run
abbrev pub OrdersOf : Bool → List ℕ → Order → ℕ → Order → ℕ → Status → Type 0
OrdersOf blocks bytes order count next now Done = OfDocument blocks bytes (λ document. OrdersMade document.commands order count next now Done)
OrdersOf blocks bytes order count next now status =
    ((next ≡ order) × (now ≡ count)) ⊎ OfDocument blocks bytes (λ document. OrdersMade document.commands order count next now status)

-- a run alone gives orders
abbrev pub OrdersBy : Bool → Option Request → Bool → List ℕ → Order → ℕ → Order → ℕ → Status → Type 0
OrdersBy blocks None told left order count next now status = (next ≡ order) × (now ≡ count)
OrdersBy blocks (Some (Run start)) told left order count next now status = IsTrue told → OrdersOf blocks left order count next now status
OrdersBy blocks (Some Check) told left order count next now status = (next ≡ order) × (now ≡ count)
OrdersBy blocks (Some (Load n)) told left order count next now status = (next ≡ order) × (now ≡ count)

-- the clock is asked once, where the words give no moment and a document is accepted or made, and else not at all

abbrev pub AsksOnce : Status → ℕ → ℕ → Type 0
AsksOnce Done before now = now ≡ next_count before
AsksOnce Usage before now = now ≡ before
AsksOnce (BadDocument line) before now = now ≡ before
AsksOnce ReadFault before now = now ≡ before
AsksOnce (WriteFault done) before now = (now ≡ before) ⊎ (now ≡ next_count before)
AsksOnce (OutOfMemory done) before now = (now ≡ before) ⊎ (now ≡ next_count before)
AsksOnce (Down len) before now = now ≡ next_count before
AsksOnce (BadStore area at) before now = now ≡ next_count before

abbrev pub AsksFor : Start → Status → ℕ → ℕ → Type 0
AsksFor (At moment) status before now = now ≡ before
AsksFor Asked status before now = AsksOnce status before now

abbrev pub Asks : Option Request → Status → ℕ → ℕ → Type 0
Asks None status before now = now ≡ before
Asks (Some (Run start)) status before now = AsksFor start status before now
Asks (Some Check) status before now = now ≡ before
Asks (Some (Load n)) status before now = AsksOnce status before now
