-- What a load leaves in the sink and on the disk: it puts one line, behind the last settling.
use Rattle.std.specs.Prelude.{◌≡◌, ◌⊎◌, ℕ, ◌≤◌, List, ◌++◌, length, map}
use Rattle.delf_disk.specs.Areas.{Areas}
use Rattle.delf_model.specs.declared.schema.Schema.{Schema}
use Rattle.delf_model.specs.declared.script.Command.{Command}
use Rattle.delf_model.specs.Report.{job_line}
use Rattle.delf_model.specs.State.{State}
use Rattle.job_report.specs.Texts.{down_text, load_text}
use Rattle.documents.specs.declared.document.Document.{Document}
use Rattle.script_runner.specs.declared.status.Status.{Status}
use Rattle.script_runner.specs.declared.status.Status.TheVariants.{Done, WriteFault, OutOfMemory, Down}
use Rattle.script_runner.specs.Endings.{Settles, StaysDown, FallsAtEnd}
use Rattle.documents.specs.Loads.{restored_count}
use Rattle.documents.specs.Cuts.{IsCut}
use Rattle.script_runner.specs.Outcomes.{Ran, HasSound, Starves, OpenedText}
use Rattle.script_runner.specs.Worlds.{World, IsHeld, state_of}

-- the line of a load that led to this state
abbrev pub loaded_line : ℕ → State → List ℕ
loaded_line n s =
    load_text n (length s.graph.objects) (length s.graph.edges) s.len (length s.jobs) (restored_count (map (job_line s) s.jobs))

-- the store was down before the settling, or the settling met a disk fault
abbrev pub StopsDown : World → ℕ → ℕ → (Areas → Type 0) → Type 0
StopsDown w start now images = StaysDown w start now images ⊎ FallsAtEnd w start now images

-- the line of a load that led to this world, and the last settling
abbrev pub LoadEndText : ℕ → World → ℕ → ℕ → (Areas → Type 0) → List ℕ → List ℕ → Status → Type 0
LoadEndText n w start now images before after Done = Settles w start now images × (after ≡ before ++ loaded_line n (state_of w))
LoadEndText n w start now images before after (WriteFault done) =
    (done ≡ 0)
    × ((Settles w start now images × IsCut before after (loaded_line n (state_of w)))
    ⊎ (StopsDown w start now images × IsCut before after (down_text (length w.history))))
LoadEndText n w start now images before after (OutOfMemory done) = (done ≡ 0) × (start ≤ now) × IsHeld w images × (after ≡ before)
LoadEndText n w start now images before after (Down len) = StopsDown w start now images × (len ≡ length w.history) × (after ≡ before ++ down_text len)
LoadEndText n w start now images before after status = ⊥

-- the sink after the line of a load was to be put; memory may be wanting before
abbrev pub PutsLine : List ℕ → List ℕ → List ℕ → Status → Type 0
PutsLine line before after Done = after ≡ before ++ line
PutsLine line before after (WriteFault done) = (done ≡ 0) × IsCut before after line
PutsLine line before after (OutOfMemory done) = (done ≡ 0) × (after ≡ before)
PutsLine line before after status = ⊥

-- memory was wanting in some command
abbrev pub StarvesAmong : Schema → World → List Command → ℕ → ℕ → (Areas → Type 0) → Type 0
StarvesAmong schema first commands start now images = (made : ℕ) × Starves schema first commands start now images made

-- a load: its commands were made, their lines not put, and the store was settled
pub record LoadRan (n : ℕ) (schema : Schema) (first : World) (commands : List Command) (start now : ℕ) (images : Areas → Type 0) (before after : List ℕ)
    (status : Status) : Type 0 where
  pub ran : Ran schema first commands start
  pub history : HasSound ran.last
  pub end : LoadEndText n ran.last ran.now now images before after status

-- sink and disk after the commands of a load from a world on
abbrev pub LoadScriptText : ℕ → Schema → World → List Command → ℕ → ℕ → (Areas → Type 0) → List ℕ → List ℕ → Status → Type 0
LoadScriptText n schema first commands start now images before after (OutOfMemory done) =
    ((done ≡ 0) × (after ≡ before) × StarvesAmong schema first commands start now images)
    ⊎ LoadRan n schema first commands start now images before after (OutOfMemory done)
LoadScriptText n schema first commands start now images before after status = LoadRan n schema first commands start now images before after status

-- sink and disk after a load of n objects, by the document that it makes
abbrev pub LoadText : ℕ → Document → ℕ → Areas → (Areas → Type 0) → ℕ → ℕ → (Areas → Type 0) → List ℕ → List ℕ → Status → Type 0
LoadText n document moment seen first start now images before after status =
    OpenedText document.rules moment seen first start now images before after
    (λ w it. LoadScriptText n document.schema w document.commands start now images before after it) status
