-- The rows of the headline, from what is said of the sink and the disk by the words and the status.
use Rattle.std.proofs.Common.{◌≡◌, ℕ, Bool, IsTrue, Option, Some, None, List, ◌++◌, refl, sym, ap, ◌∙◌, inl, inr}
use Rattle.documents.specs.declared.document.Document.{Document}
use Rattle.documents.specs.declared.words.Request.{Request}
use Rattle.documents.specs.declared.words.Request.TheVariants.{Run, Check, Load}
use Rattle.documents.specs.declared.words.Start.{Start}
use Rattle.documents.specs.Documents.{IsDocument, OfDocument}
use Rattle.documents.specs.Loads.{IsLoad}
use Rattle.documents.specs.Requests.{moment_of_start}
use Rattle.job_report.specs.Texts.{down_text}
use Rattle.script_runner.specs.declared.status.Status.{Status}
use Rattle.script_runner.specs.declared.status.Status.TheVariants.{Done, Usage, BadDocument, ReadFault, WriteFault, OutOfMemory, Down, BadStore}
use Rattle.script_runner.specs.Checks.{CheckText, CheckedText}
use Rattle.script_runner.specs.Faults.{TellsFault, CutsFault}
use Rattle.script_runner.specs.Headline.{Outside, Begins, IsMadeOf, Loads, Headline}
use Rattle.script_runner.specs.Headline as row
use Rattle.script_runner.specs.LoadEnds.{LoadText, LoadScriptText, LoadRan}
use Rattle.script_runner.specs.Outcomes.{UsageText, BytesText, SourceText, LoadedText, DocumentText, RunText, RunsFrom, UntouchedBy, ScriptText}
use Rattle.script_runner.specs.Worlds.{World}

-- what is said of a document that was read, and of one that a load makes
abbrev pub runs_of : Type 0 → Outside → ℕ → Document → Status → Type 0
runs_of plain o moment document status = plain → DocumentText document moment o.seen o.old_images o.start o.now o.images o.before o.after status

abbrev pub loads_of : Type 0 → Outside → ℕ → ℕ → Document → Status → Type 0
loads_of plain o n moment document status = plain → LoadText n document moment o.seen o.old_images o.start o.now o.images o.before o.after status

written : (a b : ℕ) → a ≡ b → WriteFault a ≡ WriteFault b
written a b is = ap (λ (k : ℕ). WriteFault k) is

starved : (a b : ℕ) → a ≡ b → OutOfMemory a ≡ OutOfMemory b
starved a b is = ap (λ (k : ℕ). OutOfMemory k) is

fell : (a b : ℕ) → a ≡ b → Down a ≡ Down b
fell a b is = ap (λ (k : ℕ). Down k) is

-- no command

usage_row : (o : Outside) (status : Status) → o.request ≡ None → UsageText o.before o.after status → o.untouched → Headline o status
usage_row o Done is text same = absurd text
usage_row o Usage is text same = row.Headline.UsageTold refl is text same
usage_row o (BadDocument line) is text same = absurd text
usage_row o ReadFault is text same = absurd text
usage_row o (WriteFault done) is text same = row.Headline.UsageCut (written done 0 text.0) is text.1 same
usage_row o (OutOfMemory done) is text same = absurd text
usage_row o (Down len) is text same = absurd text
usage_row o (BadStore area at) is text same = absurd text

-- a document that is none

fault_row : (o : Outside) (line : ℕ) → TellsFault o.blocks o.left line o.before o.after → o.untouched → Headline o (BadDocument line)
fault_row o line tells same = row.Headline.FaultTold tells.fault (ap (λ (k : ℕ). BadDocument k) tells.line_is) tells.refused tells.text same

cut_fault_row : (o : Outside) (done : ℕ) → CutsFault o.blocks o.left o.before o.after done → o.untouched → Headline o (WriteFault done)
cut_fault_row o done cuts same = row.Headline.FaultCut cuts.fault (written done 0 cuts.cut.0) cuts.refused cuts.cut.1 same

-- a check

check_row : (o : Outside) (told : Bool) (status : Status) → IsTrue told → o.request ≡ Some Check → CheckText o.blocks told o.left o.before o.after status → o.untouched →
    Headline o status
check_row o told Done tell is text same = let at = text tell in row.Headline.CheckDone at.text refl is at.checks at.held same
check_row o told Usage tell is text same = absurd text
check_row o told (BadDocument line) tell is text same = fault_row o line (text tell) same
check_row o told ReadFault tell is text same = row.Headline.NotRead refl text same
check_row o told (WriteFault done) tell is text same = elim (text tell) [
  | inl x ↦ row.Headline.CheckCut x.text (written done 0 x.cut.0) is x.checks x.cut.1 same
  | inr x ↦ cut_fault_row o done x same
]
check_row o told (OutOfMemory done) tell is text same = row.Headline.EarlyStarved (starved done 0 text.0) text.1 same
check_row o told (Down len) tell is text same = absurd text
check_row o told (BadStore area at) tell is text same = absurd text

-- a script

begun : (o : Outside) (start : Start) (document : Document) (runs : World → Type 0) → o.request ≡ Some (Run start) → IsDocument o.blocks o.left document →
    (from : RunsFrom document.rules (moment_of_start start o.answer) o.seen runs) → Begins o document from.first
begun o start document runs is read from = record { start = start; asked = is; read = read; opens = from.opens }

document_row : (o : Outside) (start : Start) (document : Document) (status : Status) → o.request ≡ Some (Run start) → IsDocument o.blocks o.left document →
    DocumentText document (moment_of_start start o.answer) o.seen o.old_images o.start o.now o.images o.before o.after status → Headline o status
document_row o start document Done is read text = row.Headline.RunDone document text.first refl (begun o start document _ is read text) text.text
document_row o start document Usage is read text = absurd text.text
document_row o start document (BadDocument line) is read text = absurd text.text
document_row o start document ReadFault is read text = absurd text.text
document_row o start document (WriteFault done) is read text = elim text [
  | inl x ↦ elim x.1 [
    | inl y ↦ row.Headline.OpeningCut document (written done 0 x.0) (row.IsMadeOf.OfRun start is read) y.0 y.1 y.2
    | inr y ↦ row.Headline.BadCut document y.0 y.1.0 (written done 0 x.0) (row.IsMadeOf.OfRun start is read) y.1.1.0 y.1.1.1
  ]
  | inr x ↦ row.Headline.ScriptCut document x.first done refl (begun o start document _ is read x) x.text
]
document_row o start document (OutOfMemory done) is read text = elim text [
  | inl x ↦ row.Headline.OpeningStarved document (starved done 0 x.0) (row.IsMadeOf.OfRun start is read) x.1 x.2
  | inr x ↦ row.Headline.ScriptStarved document x.first done refl (begun o start document _ is read x) x.text
]
document_row o start document (Down len) is read text = elim text [
  | inl x ↦ row.Headline.OpeningDown document (fell len 0 x.0) (row.IsMadeOf.OfRun start is read) x.1 x.2 x.3
  | inr x ↦ row.Headline.ScriptDown document x.first len refl (begun o start document _ is read x) x.text
]
document_row o start document (BadStore area at) is read text = row.Headline.NoStore document area at refl (row.IsMadeOf.OfRun start is read) text.0 text.1

run_row : (plain : Type 0) (o : Outside) (start : Start) (told : Bool) (status : Status) → plain → IsTrue told → o.request ≡ Some (Run start) →
    SourceText o.blocks told o.left o.untouched (runs_of plain o (moment_of_start start o.answer)) o.before o.after status → UntouchedBy (Some (Run start)) o.untouched status →
    Headline o status
run_row plain o start told Done holds tell is text same = let at = text tell in document_row o start at.document Done is at.read (at.holds holds)
run_row plain o start told Usage holds tell is text same = absurd text
run_row plain o start told (BadDocument line) holds tell is text same = fault_row o line (text tell) same
run_row plain o start told ReadFault holds tell is text same = row.Headline.NotRead refl text same
run_row plain o start told (WriteFault done) holds tell is text same = elim (text tell) [
  | inl x ↦ cut_fault_row o done x.0 x.1
  | inr x ↦ document_row o start x.document (WriteFault done) is x.read (x.holds holds)
]
run_row plain o start told (OutOfMemory done) holds tell is text same = elim (text tell) [
  | inl x ↦ row.Headline.EarlyStarved (starved done 0 x.0) x.1 x.2
  | inr x ↦ document_row o start x.document (OutOfMemory done) is x.read (x.holds holds)
]
run_row plain o start told (Down len) holds tell is text same = let at = text tell in document_row o start at.document (Down len) is at.read (at.holds holds)
run_row plain o start told (BadStore area place) holds tell is text same = let at = text tell in document_row o start at.document (BadStore area place) is at.read (at.holds holds)

-- a load

abbrev loads_from : (o : Outside) (n : ℕ) (document : Document) (status : Status) (runs : World → Type 0) → o.request ≡ Some (Load n) → IsLoad o.blocks n document →
    (from : RunsFrom document.rules o.answer o.seen runs) → (ran : LoadRan n document.schema from.first document.commands o.start o.now o.images o.before o.after status) →
    Loads o n document from.first
loads_from o n document status runs is load from ran = record { asked = is; load = load; opens = from.opens; ran = ran.ran; history = ran.history }

load_row : (o : Outside) (n : ℕ) (document : Document) (status : Status) → o.request ≡ Some (Load n) → IsLoad o.blocks n document →
    LoadText n document o.answer o.seen o.old_images o.start o.now o.images o.before o.after status → Headline o status
load_row o n document Done is load text =
    row.Headline.LoadDone n document text.first (loads_from o n document Done _ is load text text.text) refl text.text.end.0 text.text.end.1
load_row o n document Usage is load text = absurd text.text.end
load_row o n document (BadDocument line) is load text = absurd text.text.end
load_row o n document ReadFault is load text = absurd text.text.end
load_row o n document (WriteFault done) is load text = elim text [
  | inl x ↦ elim x.1 [
    | inl y ↦ row.Headline.OpeningCut document (written done 0 x.0) (row.IsMadeOf.OfLoad n is load) y.0 y.1 y.2
    | inr y ↦ row.Headline.BadCut document y.0 y.1.0 (written done 0 x.0) (row.IsMadeOf.OfLoad n is load) y.1.1.0 y.1.1.1
  ]
  | inr x ↦
      let loads = loads_from o n document (WriteFault done) _ is load x x.text in
      elim x.text.end.1 [
        | inl y ↦ row.Headline.LoadCut n document x.first loads (written done 0 x.text.end.0) y.0 y.1
        | inr y ↦ row.Headline.LoadDownCut n document x.first loads (written done 0 x.text.end.0) y.0 y.1
      ]
]
load_row o n document (OutOfMemory done) is load text = elim text [
  | inl x ↦ row.Headline.OpeningStarved document (starved done 0 x.0) (row.IsMadeOf.OfLoad n is load) x.1 x.2
  | inr x ↦ elim x.text [
    | inl y ↦ row.Headline.LoadStarved n document x.first (starved done 0 y.0) is load x.opens y.1 y.2
    | inr y ↦ row.Headline.LoadLineStarved n document x.first (loads_from o n document (OutOfMemory done) _ is load x y) (starved done 0 y.end.0) y.end.3 y.end.2
  ]
]
load_row o n document (Down len) is load text = elim text [
  | inl x ↦ row.Headline.OpeningDown document (fell len 0 x.0) (row.IsMadeOf.OfLoad n is load) x.1 x.2 x.3
  | inr x ↦ row.Headline.LoadDown n document x.first (loads_from o n document (Down len) _ is load x x.text) (fell len _ x.text.end.1) x.text.end.0
      (x.text.end.2 ∙ ap (λ (k : ℕ). o.before ++ down_text k) x.text.end.1)
]
load_row o n document (BadStore area at) is load text = row.Headline.NoStore document area at refl (row.IsMadeOf.OfLoad n is load) text.0 text.1

loaded_row : (plain : Type 0) (o : Outside) (n : ℕ) (status : Status) → plain → o.request ≡ Some (Load n) → LoadedText o.blocks n o.untouched (loads_of plain o n o.answer) o.before o.after status →
    Headline o status
loaded_row plain o n Done holds is text = load_row o n text.document Done is text.load (text.holds holds)
loaded_row plain o n Usage holds is text = load_row o n text.document Usage is text.load (text.holds holds)
loaded_row plain o n (BadDocument line) holds is text = load_row o n text.document (BadDocument line) is text.load (text.holds holds)
loaded_row plain o n ReadFault holds is text = load_row o n text.document ReadFault is text.load (text.holds holds)
loaded_row plain o n (WriteFault done) holds is text = load_row o n text.document (WriteFault done) is text.load (text.holds holds)
loaded_row plain o n (OutOfMemory done) holds is text = elim text [
  | inl x ↦ row.Headline.EarlyStarved (starved done 0 x.0) x.1 x.2
  | inr x ↦ load_row o n x.document (OutOfMemory done) is x.load (x.holds holds)
]
loaded_row plain o n (Down len) holds is text = load_row o n text.document (Down len) is text.load (text.holds holds)
loaded_row plain o n (BadStore area at) holds is text = load_row o n text.document (BadStore area at) is text.load (text.holds holds)

-- by the words

pub by_request : (plain : Type 0) (o : Outside) (request : Option Request) (told : Bool) (status : Status) → plain → IsTrue told → o.request ≡ request →
    RunText o.blocks request o.answer told o.left o.untouched (runs_of plain o) (loads_of plain o) o.before o.after status → UntouchedBy request o.untouched status →
    Headline o status
by_request plain o None told status holds tell is text same = usage_row o status is text same
by_request plain o (Some (Run start)) told status holds tell is text same = run_row plain o start told status holds tell is text same
by_request plain o (Some Check) told status holds tell is text same = check_row o told status tell is text same
by_request plain o (Some (Load n)) told status holds tell is text same = loaded_row plain o n status holds is text
