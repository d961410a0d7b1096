-- What a run comes to, row by row of its status: what was read, what was put, and what stands on the disk.
use Rattle.std.specs.Prelude.{◌≡◌, ℕ, Bool, Option, Some, None, List, ◌++◌, length}
use Rattle.delf_disk.specs.declared.area.Area.{Area}
use Rattle.delf_disk.specs.Areas.{Areas}
use Rattle.delf_disk.specs.Causes.{Rose}
use Rattle.documents.specs.declared.document.Document.{Document}
use Rattle.documents.specs.declared.words.Request.{Request}
use Rattle.documents.specs.declared.words.Request.TheVariants.{Run, Check, Load}
use Rattle.documents.specs.declared.words.Start.{Start}
use Rattle.documents.specs.Cuts.{IsCut}
use Rattle.documents.specs.Documents.{IsDocument, IsFault}
use Rattle.documents.specs.Checks.{ChecksAs}
use Rattle.documents.specs.Loads.{IsLoad}
use Rattle.documents.specs.Requests.{moment_of_start}
use Rattle.script_lang.specs.Scripts.{Fault}
use Rattle.job_report.specs.Texts.{down_text}
use Rattle.script_runner.specs.declared.status.Status.{Status}
use Rattle.script_runner.specs.declared.status.Status.TheVariants.{Done, Usage, BadDocument, ReadFault, WriteFault, OutOfMemory, Down, BadStore}
use Rattle.script_runner.specs.Endings.{Settles}
use Rattle.script_runner.specs.Faults.{fault_line}
use Rattle.script_runner.specs.LoadEnds.{StarvesAmong, StopsDown, loaded_line}
use Rattle.script_runner.specs.Outcomes.{Ran, HasSound, IsWhole, IsCutScript, IsStarved, IsDown, IsBad, StillStands, usage_line, bad_text}
use Rattle.script_runner.specs.Worlds.{World, IsHeld, Opens, state_of}

-- what is outside of a run: as it was handed in, and as it came back
pub record Outside : Type 1 where
  -- whether scripts may have blocks of lanes
  pub blocks : Bool
  -- what the words ask for, where they are a command
  pub request : Option Request
  -- the clock's last answer
  pub answer : ℕ
  -- the bytes that the source had left
  pub left : List ℕ
  -- what the sink held, and what it holds
  pub before : List ℕ
  pub after : List ℕ
  -- what the disk read, what a crash could have left of it, and what one may leave of it now
  pub seen : Areas
  pub old_images : Areas → Type 0
  pub images : Areas → Type 0
  -- the disk's count of faults
  pub start : ℕ
  pub now : ℕ
  -- the disk is as it was handed in
  pub untouched : Type 0

-- a script is made from the world that the opening found
pub record Begins (o : Outside) (document : Document) (first : World) : Type 0 where
  pub start : Start
  pub asked : o.request ≡ Some (Run start)
  pub read : IsDocument o.blocks o.left document
  pub opens : Opens document.rules (moment_of_start start o.answer) o.seen first

-- the document whose store is opened: the one that was read, or the one that a load makes
pub data IsMadeOf (o : Outside) (document : Document) : Type 0 where
  OfRun : (start : Start) → o.request ≡ Some (Run start) → IsDocument o.blocks o.left document → IsMadeOf o document
  OfLoad : (n : ℕ) → o.request ≡ Some (Load n) → IsLoad o.blocks n document → IsMadeOf o document

-- a load of n objects made all its commands, whose lines are not put, from the world that the opening found
pub record Loads (o : Outside) (n : ℕ) (document : Document) (first : World) : Type 0 where
  pub asked : o.request ≡ Some (Load n)
  pub load : IsLoad o.blocks n document
  pub opens : Opens document.rules o.answer o.seen first
  pub ran : Ran document.schema first document.commands o.start
  pub history : HasSound ran.last

pub data Headline (o : Outside) (status : Status) : Type 0 where
  -- 0: a script was made whole, all its lines were put, and the store is settled
  RunDone : (document : Document) (first : World) → status ≡ Done → Begins o document first →
      IsWhole document.schema first document.commands o.start o.now o.images o.before o.after → Headline o status
  -- 0: a check put its text
  CheckDone : (text : List ℕ) → status ≡ Done → o.request ≡ Some Check → ChecksAs o.blocks o.left text → o.after ≡ o.before ++ text → o.untouched → Headline o status
  -- 0: a load was made whole, the store is settled, and its one line was put
  LoadDone : (n : ℕ) (document : Document) (first : World) (loads : Loads o n document first) → status ≡ Done → Settles loads.ran.last loads.ran.now o.now o.images →
      o.after ≡ o.before ++ loaded_line n (state_of loads.ran.last) → Headline o status
  -- 1, 2, 3: no disk call was made
  UsageTold : status ≡ Usage → o.request ≡ None → o.after ≡ o.before ++ usage_line → o.untouched → Headline o status
  FaultTold : (fault : Fault) → status ≡ BadDocument fault.line → IsFault o.blocks o.left fault → o.after ≡ o.before ++ fault_line fault → o.untouched →
      Headline o status
  NotRead : status ≡ ReadFault → o.after ≡ o.before → o.untouched → Headline o status
  -- 4: the sink failed in the usage line, in a fault's line, or in the text of a check: no disk call was made
  UsageCut : status ≡ WriteFault 0 → o.request ≡ None → IsCut o.before o.after usage_line → o.untouched → Headline o status
  FaultCut : (fault : Fault) → status ≡ WriteFault 0 → IsFault o.blocks o.left fault → IsCut o.before o.after (fault_line fault) → o.untouched → Headline o status
  CheckCut : (text : List ℕ) → status ≡ WriteFault 0 → o.request ≡ Some Check → ChecksAs o.blocks o.left text → IsCut o.before o.after text → o.untouched →
      Headline o status
  -- 4: in the line of a first opening that met a disk fault, or found no store
  OpeningCut : (document : Document) → status ≡ WriteFault 0 → IsMadeOf o document → IsCut o.before o.after (down_text 0) → Rose o.start o.now →
      StillStands document.rules o.seen o.old_images o.images → Headline o status
  BadCut : (document : Document) (area : Area) (at : ℕ) → status ≡ WriteFault 0 → IsMadeOf o document → IsBad document.rules o.seen o.images area at →
      IsCut o.before o.after (bad_text area at) → Headline o status
  -- 4: in the lines of a command, or of an opening or the last settling that met a disk fault
  ScriptCut : (document : Document) (first : World) (done : ℕ) → status ≡ WriteFault done → Begins o document first →
      IsCutScript document.schema first document.commands o.start o.now o.images o.before o.after done → Headline o status
  -- 4: in the line of a load, or of the disk fault that stopped it
  LoadCut : (n : ℕ) (document : Document) (first : World) (loads : Loads o n document first) → status ≡ WriteFault 0 →
      Settles loads.ran.last loads.ran.now o.now o.images → IsCut o.before o.after (loaded_line n (state_of loads.ran.last)) → Headline o status
  LoadDownCut : (n : ℕ) (document : Document) (first : World) (loads : Loads o n document first) → status ≡ WriteFault 0 →
      StopsDown loads.ran.last loads.ran.now o.now o.images → IsCut o.before o.after (down_text (length loads.ran.last.history)) → Headline o status
  -- 5: memory was wanting before a store was opened: no disk call was made; or in the opening
  EarlyStarved : status ≡ OutOfMemory 0 → o.after ≡ o.before → o.untouched → Headline o status
  OpeningStarved : (document : Document) → status ≡ OutOfMemory 0 → IsMadeOf o document → o.after ≡ o.before →
      StillStands document.rules o.seen o.old_images o.images → Headline o status
  -- 5: behind so many commands, in the next one or in the line of the last settling
  ScriptStarved : (document : Document) (first : World) (done : ℕ) → status ≡ OutOfMemory done → Begins o document first →
      IsStarved document.schema first document.commands o.start o.now o.images o.before o.after done → Headline o status
  -- 5: in a command of a load, or behind all of them
  LoadStarved : (n : ℕ) (document : Document) (first : World) → status ≡ OutOfMemory 0 → o.request ≡ Some (Load n) → IsLoad o.blocks n document →
      Opens document.rules o.answer o.seen first → o.after ≡ o.before → StarvesAmong document.schema first document.commands o.start o.now o.images → Headline o status
  LoadLineStarved : (n : ℕ) (document : Document) (first : World) (loads : Loads o n document first) → status ≡ OutOfMemory 0 → o.after ≡ o.before →
      IsHeld loads.ran.last o.images → Headline o status
  -- 6: the first opening met a disk fault
  OpeningDown : (document : Document) → status ≡ Down 0 → IsMadeOf o document → Rose o.start o.now → o.after ≡ o.before ++ down_text 0 →
      StillStands document.rules o.seen o.old_images o.images → Headline o status
  -- 6: the store was down behind all commands, or a later opening or the last settling met a fault
  ScriptDown : (document : Document) (first : World) (len : ℕ) → status ≡ Down len → Begins o document first →
      IsDown document.schema first document.commands o.start o.now o.images o.before o.after len → Headline o status
  LoadDown : (n : ℕ) (document : Document) (first : World) (loads : Loads o n document first) → status ≡ Down (length loads.ran.last.history) →
      StopsDown loads.ran.last loads.ran.now o.now o.images → o.after ≡ o.before ++ down_text (length loads.ran.last.history) → Headline o status
  -- 7: the first opening found no store, and leaves it as bad, with its longer areas as they were
  NoStore : (document : Document) (area : Area) (at : ℕ) → status ≡ BadStore area at → IsMadeOf o document → IsBad document.rules o.seen o.images area at →
      o.after ≡ o.before ++ bad_text area at → Headline o status
