-- What is known of a run that is done.
use Rattle.std.proofs.Common.{◌≡◌, ℕ, false, List}
use Rattle.delf_disk.specs.Areas.{Areas}
use Rattle.delf_model.specs.declared.schema.Schema.{Schema}
use Rattle.delf_model.specs.declared.script.Command.{Command}
use Rattle.delf_model.specs.Legal.{Legal}
use Rattle.script_runner.specs.Outcomes.{Ran, IsWhole}
use Rattle.script_runner.specs.Worlds.{World}
use Rattle.headline_laws.specs.Headline.{Recovers}
use Rattle.headline_laws.proofs.Finding.{done_stands}
use Rattle.headline_laws.proofs.Lanes.{lane_stands}
use Rattle.headline_laws.proofs.Onward.{history_goes_on, sound_throughout}
use Rattle.headline_laws.proofs.Placing.{acknowledged_stands}
use Rattle.headline_laws.proofs.Whose as entries

pub recovers : (schema : Schema) (first : World) (commands : List Command) (start now : ℕ) (images : Areas → Type 0) (before after : List ℕ) → first.down ≡ false →
    (done : IsWhole schema first commands start now images before after) → Recovers schema first commands start done.ran images
recovers schema first commands start now images before after up done =
    let ran : Ran schema first commands start = done.ran in
    let legal : Legal ran.last.rules ran.last.history = done.history.legal in
    record {
      onward = history_goes_on schema first commands start ran.now ran.text ran.last ran.script;
      sound = sound_throughout ran.last legal;
      calls = λ asked what at is.
          acknowledged_stands schema at.found at.left ran.last asked at.found_count at.left_count at.line what is
          (history_goes_on schema at.left at.later at.left_count ran.now at.back ran.last at.goes_on) legal;
      lanes = λ quiet workers turns lanes at runs place out there.
          lane_stands schema at.found at.left ran.last quiet lanes at.found_count at.left_count at.line runs
          (history_goes_on schema at.left at.later at.left_count ran.now at.back ran.last at.goes_on) legal place out there;
      whose = λ p entry tag low there tagged. entries.whose schema first commands start ran.now ran.text ran.last p entry tag up ran.script legal low there tagged;
      found = λ c image. done_stands schema first commands start now images before after done c image;
    }
