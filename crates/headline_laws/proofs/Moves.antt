-- The moves that a script makes of a world, and what each keeps.
use Rattle.std.proofs.Common.{◌≡◌, ℕ, zero, suc, Bool, true, false, Option, Some, None, Ok, Err, List, [], ◌∷◌, ◌++◌, refl, sym, ap, subst}
use Rattle.std.specs.Prelude.{Result}
use Rattle.std.specs.List.{AllByRecursion}
use Rattle.delf_model.specs.declared.schema.Schema.{Schema}
use Rattle.delf_model.specs.declared.call.Call.{Call}
use Rattle.delf_model.specs.declared.call.Refusal.{Refusal}
use Rattle.delf_model.specs.declared.entry.What.{What}
use Rattle.delf_model.specs.declared.script.Command.{Command}
use Rattle.delf_model.specs.declared.script.Command.TheVariants.{Submit, Work, Tick, Get, Show, Job, Jobs, Report, Fail, Crash, Par}
use Rattle.delf_model.specs.declared.script.Lane.{Lane}
use Rattle.delf_model.specs.Legal.{Legal}
use Rattle.delf_book.specs.Parts.{Interrupted}
use Rattle.delf_book.specs.Books.{given_by}
use Rattle.job_report.specs.declared.work.WorkEnd.{WorkEnd}
use Rattle.script_runner.specs.Blocks.{RunsLanes}
use Rattle.script_runner.specs.Serial.{Serves, Script, MakesSteps, StepsTo, Submits, Works, StepsEnd, Reads, Crashes, Goes, Blocks, answer, after_answer, next_step}
use Rattle.script_runner.specs.Serial as serial
use Rattle.script_runner.specs.Worlds.{World, interrupted, entered, with_entry, fallen, mended, later}

-- one move, where this is known of the commands
pub data Move (schema : Schema) (known : Command → Type 0) (w next : World) : Type 0 where
  Stays : next ≡ w → Move schema known w next
  Ticks : (seconds : ℕ) → next ≡ later w seconds → Move schema known w next
  Calls : (asked : Call) (what : What) → known (Submit asked) → answer w asked ≡ Ok what → next ≡ with_entry w what (given_by asked) → Move schema known w next
  Steps : StepsTo w next → Move schema known w next
  FallsInCall : (asked : Call) (what : What) → known (Submit asked) → answer w asked ≡ Ok what → next ≡ fallen w (Some (interrupted w what (given_by asked))) →
      Move schema known w next
  FallsInStep : (what : What) → next_step w ≡ Some what → next ≡ fallen w (Some (interrupted w what [])) → Move schema known w next
  FallsReading : next ≡ fallen w None → Move schema known w next
  Mends : next ≡ mended w → Move schema known w next
  Enters : (it : Interrupted) → w.down ≡ true → w.beside ≡ Some it → Legal w.rules (w.history ++ it.entry ∷ []) → next ≡ entered w it → Move schema known w next
  Runs : (quiet : Bool) (workers turns : ℕ) (lanes : List Lane) (before now : ℕ) (text : List ℕ) → known (Par quiet workers turns lanes) →
      RunsLanes schema w quiet lanes before now text next → Move schema known w next

-- what each move keeps a script keeps
module _ (schema : Schema) (known : Command → Type 0) (Q : World → Type 0) (keeps : (w next : World) → Move schema known w next → Q w → Q next) where
  pub steps_keep : (n : ℕ) (w next : World) → MakesSteps n w next → Q w → Q next
  unfolding MakesSteps
  steps_keep zero w next is q = keeps w next (Stays is) q
  steps_keep (suc n) w next made q = keeps made.0 next (Steps made.1.1) (steps_keep n w made.0 made.1.0 q)

  answered : (w next : World) (asked : Call) (r : Result What Refusal) → known (Submit asked) → answer w asked ≡ r → next ≡ after_answer w asked r → Q w → Q next
  answered w next asked (Ok what) is answered_is next_is q = keeps w next (Calls asked what is answered_is next_is) q
  answered w next asked (Err why) is answered_is next_is q = keeps w next (Stays next_is) q

  submit_keeps : (w next : World) (asked : Call) (before now : ℕ) (text : List ℕ) → known (Submit asked) → Submits schema w asked before now text next → Q w → Q next
  submit_keeps w next asked before now text is (serial.Submits.Answers up count text_is next_is) q = answered w next asked (answer w asked) is refl next_is q
  submit_keeps w next asked before now text is (serial.Submits.Falls what up rose answered_is text_is next_is) q =
      keeps w next (FallsInCall asked what is answered_is next_is) q
  submit_keeps w next asked before now text is (serial.Submits.WasDown down count text_is next_is) q = keeps w next (Stays next_is) q

  end_keeps : (n : ℕ) (w next : World) (before now made : ℕ) (end : WorkEnd) → StepsEnd n w before now made end next → Q w → Q next
  end_keeps n w next before now made end (serial.StepsEnd.MakesAll all count steps end_is) q = steps_keep made w next steps q
  end_keeps n w next before now made end (serial.StepsEnd.Idles below count steps none end_is) q = steps_keep made w next steps q
  end_keeps n w next before now made end (serial.StepsEnd.MeetsDamage item what below count steps first damaged end_is) q = steps_keep made w next steps q
  end_keeps n w next before now made end (serial.StepsEnd.Falls here what below rose steps first end_is next_is) q =
      keeps here next (FallsInStep what first next_is) (steps_keep made w here steps q)

  work_keeps : (n : ℕ) (w next : World) (before now : ℕ) (text : List ℕ) → Works n w before now text next → Q w → Q next
  work_keeps n w next before now text (serial.Works.Makes made end up ends text_is) q = end_keeps n w next before now made end ends q
  work_keeps n w next before now text (serial.Works.WasDown down count text_is next_is) q = keeps w next (Stays next_is) q

  read_keeps : (w next : World) (said : List ℕ) (before now : ℕ) (text : List ℕ) → Reads w said before now text next → Q w → Q next
  read_keeps w next said before now text (serial.Reads.Tells up count text_is next_is) q = keeps w next (Stays next_is) q
  read_keeps w next said before now text (serial.Reads.Falls up rose text_is next_is) q = keeps w next (FallsReading next_is) q
  read_keeps w next said before now text (serial.Reads.WasDown down count text_is next_is) q = keeps w next (Stays next_is) q

  crash_keeps : (w next : World) (before now : ℕ) (text : List ℕ) → Crashes w before now text next → Q w → Q next
  crash_keeps w next before now text (serial.Crashes.Keeps count text_is next_is) q = keeps w next (Mends next_is) q
  crash_keeps w next before now text (serial.Crashes.Enters it down beside legal count text_is next_is) q = keeps w next (Enters it down beside legal next_is) q

  block_keeps : (w next : World) (quiet : Bool) (workers turns : ℕ) (lanes : List Lane) (before now : ℕ) (text : List ℕ) → known (Par quiet workers turns lanes) →
      Blocks schema w quiet lanes before now text next → Q w → Q next
  block_keeps w next quiet workers turns lanes before now text is (serial.Blocks.Runs runs) q =
      keeps w next (Runs quiet workers turns lanes before now text is runs) q
  block_keeps w next quiet workers turns lanes before now text is (serial.Blocks.WasDown down count text_is next_is) q = keeps w next (Stays next_is) q

  pub serve_keeps : (w next : World) (command : Command) (before now : ℕ) (text : List ℕ) → known command → Serves schema w command before now text next → Q w → Q next
  serve_keeps w next (Submit asked) before now text is serves q = submit_keeps w next asked before now text is serves q
  serve_keeps w next (Work n) before now text is serves q = work_keeps n w next before now text serves q
  serve_keeps w next (Tick n) before now text is serves q = keeps w next (Ticks n serves.next_is) q
  serve_keeps w next (Get id) before now text is serves q = read_keeps w next _ before now text serves q
  serve_keeps w next Show before now text is serves q = read_keeps w next _ before now text serves q
  serve_keeps w next (Job name) before now text is serves q = keeps w next (Stays serves.next_is) q
  serve_keeps w next Jobs before now text is serves q = keeps w next (Stays serves.next_is) q
  serve_keeps w next Report before now text is serves q = read_keeps w next _ before now text serves q
  serve_keeps w next (Fail n) before now text is serves q = keeps w next (Stays serves.next_is) q
  serve_keeps w next (Crash pick) before now text is serves q = crash_keeps w next before now text serves q
  serve_keeps w next (Par quiet workers turns lanes) before now text is serves q = block_keeps w next quiet workers turns lanes before now text is serves q

  pub script_keeps : (w next : World) (commands : List Command) (before now : ℕ) (text : List ℕ) → AllByRecursion known commands → Script schema w commands before now text next → Q w → Q next
  unfolding Script
  script_keeps w next [] before now text all script q = keeps w next (Stays script.2) q
  script_keeps w next (command ∷ more) before now text all script q =
      let between : ℕ = script.0 in
      let here : World = script.1.0 in
      let line : List ℕ = script.1.1.0 in
      let rest : List ℕ = script.1.1.1.0 in
      script_keeps here next more between now rest all.1 script.1.1.1.1.1 (serve_keeps w here command before between line all.0 script.1.1.1.1.0 q)
