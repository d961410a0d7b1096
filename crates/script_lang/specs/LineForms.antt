-- The line forms of a script, apart from how a line is read: one for each command, and for each line of a block.
use Rattle.std.specs.Prelude.{◌≡◌, ℕ, ◌≤◌, Bool, true, false, Result, Ok, Err, List, [], ◌∷◌, length, codes}
use Rattle.delf_model.specs.declared.call.Call.{Call}
use Rattle.delf_model.specs.declared.call.Call.TheVariants.{Create, Update, Link, Unlink, Delete, Restore}
use Rattle.delf_model.specs.declared.ids.JobName.{JobName}
use Rattle.delf_model.specs.declared.ids.JobName.TheVariants.{Named, Expiry}
use Rattle.delf_model.specs.declared.script.Command.{Command}
use Rattle.delf_model.specs.declared.script.Command.TheVariants.{Submit, Work, Tick, Get, Show, Job, Jobs, Report, Fail, Crash}
use Rattle.delf_model.specs.declared.script.LaneCommand.{LaneCommand}
use Rattle.delf_model.specs.declared.script.LaneCommand.TheVariants as lane
use Rattle.delf_model.specs.declared.schema.Schema.{Schema}
use Rattle.delf_model.specs.Checked.{number_of}
use Rattle.schema_lang.specs.declared.line.Word.{Word}
use Rattle.schema_lang.specs.declared.line.Word.TheVariants.{Plain, Payload}
use Rattle.schema_lang.specs.Forms.{IsNumber, IsNameWord}
use Rattle.script_lang.specs.declared.fault.Wrong.{Wrong}
use Rattle.script_lang.specs.declared.fault.Wrong.TheVariants.{Malformed, OutOfRange, Unknown}
use Rattle.script_lang.specs.declared.command.BlockHead.{BlockHead}
use Rattle.script_lang.specs.declared.command.ScriptLine.{ScriptLine}
use Rattle.script_lang.specs.declared.command.ScriptLine.TheVariants.{Serial, Block}
use Rattle.script_lang.specs.declared.block.LaneLine.{LaneLine}
use Rattle.script_lang.specs.declared.block.LaneLine.TheVariants.{Begin, Within, End}
use Rattle.script_lang.specs.Parts.{edge_number}

-- a job: its number, or `expiry ID`
pub data IsJob (words : List Word) (job : JobName) : Type 0 where
  ByNumber : (text : List ℕ) → (n : ℕ) → words ≡ Plain text ∷ [] → IsNumber text n → job ≡ Named n → IsJob words job
  ByExpiry : (text : List ℕ) → (id : ℕ) → words ≡ Plain (codes "expiry") ∷ Plain text ∷ [] → IsNumber text id → job ≡ Expiry id → IsJob words job

-- A call, limits apart. The name is the word in the place of a type or edge name, and empty where none stands there;
-- in the call it is told by its number in the schema, which is past the last one where the schema lacks it.
pub data IsCall (schema : Schema) (words : List Word) (call : Call) (name : List ℕ) : Type 0 where
  CreateLine : (text : List ℕ) → (id : ℕ) → words ≡ Plain (codes "create") ∷ Plain text ∷ Plain name ∷ [] →
      IsNumber text id → IsNameWord name → call ≡ Create (number_of schema.objects name) id [] → IsCall schema words call name
  CreateWithLine : (text : List ℕ) → (id : ℕ) → (payload : List ℕ) → words ≡ Plain (codes "create") ∷ Plain text ∷ Plain name ∷ Payload payload ∷ [] →
      IsNumber text id → IsNameWord name → call ≡ Create (number_of schema.objects name) id payload → IsCall schema words call name
  UpdateLine : (text : List ℕ) → (id : ℕ) → (payload : List ℕ) → words ≡ Plain (codes "update") ∷ Plain text ∷ Payload payload ∷ [] →
      IsNumber text id → name ≡ [] → call ≡ Update id payload → IsCall schema words call name
  LinkLine : (a b : List ℕ) → (source target : ℕ) → words ≡ Plain (codes "link") ∷ Plain name ∷ Plain a ∷ Plain b ∷ [] →
      IsNameWord name → IsNumber a source → IsNumber b target → call ≡ Link (edge_number schema.edges name) source target [] → IsCall schema words call name
  LinkWithLine : (a b : List ℕ) → (source target : ℕ) → (payload : List ℕ) → words ≡ Plain (codes "link") ∷ Plain name ∷ Plain a ∷ Plain b ∷ Payload payload ∷ [] →
      IsNameWord name → IsNumber a source → IsNumber b target → call ≡ Link (edge_number schema.edges name) source target payload → IsCall schema words call name
  UnlinkLine : (a b c : List ℕ) → (source target job : ℕ) → words ≡ Plain (codes "unlink") ∷ Plain name ∷ Plain a ∷ Plain b ∷ Plain (codes "job") ∷ Plain c ∷ [] →
      IsNameWord name → IsNumber a source → IsNumber b target → IsNumber c job → call ≡ Unlink (edge_number schema.edges name) source target job → IsCall schema words call name
  DeleteLine : (a c : List ℕ) → (id job : ℕ) → words ≡ Plain (codes "delete") ∷ Plain a ∷ Plain (codes "job") ∷ Plain c ∷ [] →
      IsNumber a id → IsNumber c job → name ≡ [] → call ≡ Delete id job → IsCall schema words call name
  RestoreLine : (behind : List Word) → (job : JobName) → words ≡ Plain (codes "restore") ∷ behind → IsJob behind job → name ≡ [] → call ≡ Restore job → IsCall schema words call name

-- a line outside of a block, where blocks are served or not
pub data IsScriptLine (schema : Schema) (blocks : Bool) (words : List Word) (line : ScriptLine) (name : List ℕ) : Type 0 where
  SubmitLine : (call : Call) → IsCall schema words call name → line ≡ Serial (Submit call) → IsScriptLine schema blocks words line name
  WorkLine : (text : List ℕ) → (n : ℕ) → words ≡ Plain (codes "work") ∷ Plain text ∷ [] → IsNumber text n → name ≡ [] → line ≡ Serial (Work n) → IsScriptLine schema blocks words line name
  TickLine : (text : List ℕ) → (n : ℕ) → words ≡ Plain (codes "tick") ∷ Plain text ∷ [] → IsNumber text n → name ≡ [] → line ≡ Serial (Tick n) → IsScriptLine schema blocks words line name
  GetLine : (text : List ℕ) → (id : ℕ) → words ≡ Plain (codes "get") ∷ Plain text ∷ [] → IsNumber text id → name ≡ [] → line ≡ Serial (Get id) → IsScriptLine schema blocks words line name
  ShowLine : words ≡ Plain (codes "show") ∷ [] → name ≡ [] → line ≡ Serial Show → IsScriptLine schema blocks words line name
  JobLine : (behind : List Word) → (job : JobName) → words ≡ Plain (codes "job") ∷ behind → IsJob behind job → name ≡ [] → line ≡ Serial (Job job) → IsScriptLine schema blocks words line name
  JobsLine : words ≡ Plain (codes "jobs") ∷ [] → name ≡ [] → line ≡ Serial Jobs → IsScriptLine schema blocks words line name
  ReportLine : words ≡ Plain (codes "report") ∷ [] → name ≡ [] → line ≡ Serial Report → IsScriptLine schema blocks words line name
  FailLine : (text : List ℕ) → (n : ℕ) → words ≡ Plain (codes "fail") ∷ Plain text ∷ [] → IsNumber text n → name ≡ [] → line ≡ Serial (Fail n) → IsScriptLine schema blocks words line name
  CrashLine : (text : List ℕ) → (pick : ℕ) → words ≡ Plain (codes "crash") ∷ Plain text ∷ [] → IsNumber text pick → name ≡ [] → line ≡ Serial (Crash pick) → IsScriptLine schema blocks words line name
  ParLine : (a b : List ℕ) → (workers turns : ℕ) → blocks ≡ true →
      words ≡ Plain (codes "par") ∷ Plain (codes "workers") ∷ Plain a ∷ Plain (codes "turns") ∷ Plain b ∷ [] →
      IsNumber a workers → IsNumber b turns → name ≡ [] → line ≡ Block (record { quiet = false; workers = workers; turns = turns }) → IsScriptLine schema blocks words line name
  ParQuietLine : (a b : List ℕ) → (workers turns : ℕ) → blocks ≡ true →
      words ≡ Plain (codes "par") ∷ Plain (codes "quiet") ∷ Plain (codes "workers") ∷ Plain a ∷ Plain (codes "turns") ∷ Plain b ∷ [] →
      IsNumber a workers → IsNumber b turns → name ≡ [] → line ≡ Block (record { quiet = true; workers = workers; turns = turns }) → IsScriptLine schema blocks words line name

-- a line in a lane
pub data IsLaneLine (schema : Schema) (words : List Word) (line : LaneLine) (name : List ℕ) : Type 0 where
  SubmitInLane : (call : Call) → IsCall schema words call name → line ≡ Within (lane.Submit call) → IsLaneLine schema words line name
  GetInLane : (text : List ℕ) → (id : ℕ) → words ≡ Plain (codes "get") ∷ Plain text ∷ [] → IsNumber text id → name ≡ [] → line ≡ Within (lane.Get id) → IsLaneLine schema words line name
  NextLane : words ≡ Plain (codes "lane") ∷ [] → name ≡ [] → line ≡ Begin → IsLaneLine schema words line name
  BlockEnd : words ≡ Plain (codes "end") ∷ [] → name ≡ [] → line ≡ End → IsLaneLine schema words line name

-- the limits of numbers
abbrev pub IsBetween : ℕ → ℕ → ℕ → Type 0
IsBetween least greatest n = (least ≤ n) × (n ≤ greatest)

abbrev pub IsId : ℕ → Type 0
IsId id = IsBetween 1 999999999999 id

abbrev pub IsJobNumber : ℕ → Type 0
IsJobNumber job = IsBetween 0 4294967295 job

abbrev pub IsJobWithin : JobName → Type 0
IsJobWithin (Named job) = IsJobNumber job
IsJobWithin (Expiry id) = IsId id

abbrev pub IsCallWithin : Call → Type 0
IsCallWithin (Create kind id payload) = IsId id
IsCallWithin (Update id payload) = IsId id
IsCallWithin (Link edge source target payload) = IsId source × IsId target
IsCallWithin (Unlink edge source target job) = IsId source × (IsId target × IsJobNumber job)
IsCallWithin (Delete id job) = IsId id × IsJobNumber job
IsCallWithin (Restore job) = IsJobWithin job

abbrev pub IsSerialWithin : Command → Type 0
IsSerialWithin (Submit call) = IsCallWithin call
IsSerialWithin (Work n) = IsBetween 1 1000000 n
IsSerialWithin (Tick n) = IsBetween 1 999999999999 n
IsSerialWithin (Get id) = IsId id
IsSerialWithin (Job job) = IsJobWithin job
IsSerialWithin (Fail n) = IsBetween 1 1000000 n
IsSerialWithin (Crash pick) = IsBetween 0 18446744073709551615 pick
IsSerialWithin other = Unit {0}

abbrev pub IsScriptLineWithin : ScriptLine → Type 0
IsScriptLineWithin (Serial command) = IsSerialWithin command
IsScriptLineWithin (Block head) = IsBetween 0 16 head.workers × IsBetween 1 1000000 head.turns

abbrev pub IsLaneLineWithin : LaneLine → Type 0
IsLaneLineWithin Begin = Unit {0}
IsLaneLineWithin (Within (lane.Submit call)) = IsCallWithin call
IsLaneLineWithin (Within (lane.Get id)) = IsId id
IsLaneLineWithin End = Unit {0}

-- a name has 32 bytes at most
abbrev pub IsShort : List ℕ → Type 0
IsShort name = length name ≤ 32

-- What is read of a line: what its form says, where it is within the limits and the schema has its name; malformed
-- where the words have no form; else out of range where a number passes its limit or the name is too long; else the
-- name that the schema lacks.
abbrev pub IsRight : {A : Type 0} → (A → List ℕ → Type 0) → (A → Type 0) → (A → Type 0) → Result A Wrong → Type 0
IsRight HasForm IsWithin IsKnown (Ok line) = (name : List ℕ) × HasForm line name × (IsWithin line × IsShort name) × IsKnown line
IsRight {A = A} HasForm IsWithin IsKnown (Err Malformed) = (line : A) (name : List ℕ) → HasForm line name → ⊥
IsRight {A = A} HasForm IsWithin IsKnown (Err OutOfRange) = (line : A) × (name : List ℕ) × HasForm line name × (IsWithin line × IsShort name → ⊥)
IsRight {A = A} HasForm IsWithin IsKnown (Err (Unknown lacked)) = (line : A) × HasForm line lacked × (IsWithin line × IsShort lacked) × (IsKnown line → ⊥)
