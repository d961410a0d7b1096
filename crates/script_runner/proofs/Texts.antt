-- How a script ends, from what its commands came to.
use Rattle.std.proofs.Common.{◌≡◌, ℕ, ◌+◌, ◌<◌, ◌≤◌, Some, List, [], ◌++◌, length, get_or, take, refl, sym, ap, subst, ◌∙◌, inl, inr, append_assoc, append-nil}
use Rattle.delf_disk.specs.Areas.{Areas}
use Rattle.delf_model.specs.declared.schema.Schema.{Schema}
use Rattle.delf_model.specs.declared.script.Command.{Command}
use Rattle.delf_model.specs.Legal.{Legal}
use Rattle.delf_model.specs.Sound.{Sound}
use Rattle.delf_model.specs.Payloads.{Payloads}
use Rattle.delf_book.specs.Books.{Booked}
use Rattle.delf_recovery.specs.declared.fault.OpenFault.{OpenFault}
use Rattle.delf_recovery.specs.declared.fault.OpenFault.TheVariants as fault
use Rattle.job_report.specs.Texts.{down_text}
use Rattle.script_runner.specs.declared.status.Status.{Status}
use Rattle.script_runner.specs.declared.status.Status.TheVariants.{Done, Usage, BadDocument, ReadFault, WriteFault, OutOfMemory, Down, BadStore}
use Rattle.script_runner.specs.Endings.{EndText, UnopenedText, UnopenedCause}
use Rattle.script_runner.specs.Openings.{Stops, StopCounts}
use Rattle.documents.specs.Cuts.{IsCut}
use Rattle.script_runner.specs.Outcomes.{Ran, IsWhole, IsCutScript, Starves, IsStarved, IsDown, ScriptText, HasSound, SettlesAll}
use Rattle.script_runner.specs.Outcomes as outcome
use Rattle.script_runner.specs.Serial.{Script}
use Rattle.script_runner.specs.Standing.{Carried, HaltedAt, Reached}
use Rattle.script_runner.specs.Worlds.{World, StandsOn, world_of}
use Rattle.script_runner.proofs.Ends.{none_reached, more_reached, got}
use Rattle.script_runner.proofs.Standing.{stands_held}

-- the commands so far, and what the sink holds of their text
pub record SoFar {G R : Type 0} (may_leave : R → Areas → Type 0) (faults : R → ℕ) (schema : Schema) (first : World) (commands : List Command) (start : ℕ)
    (book : Booked G R) (clock : ℕ) (told : Type 0) (before held : List ℕ) : Type 0 where
  pub text : List ℕ
  pub reached : Reached may_leave faults schema first commands start book clock text
  pub put : told → held ≡ before ++ text

abbrev pub ran_of : {G R : Type 0} → (may_leave : R → Areas → Type 0) (faults : R → ℕ) (schema : Schema) (first : World) (commands : List Command) (start : ℕ)
    (book : Booked G R) (clock : ℕ) (text : List ℕ) → Reached may_leave faults schema first commands start book clock text → Ran schema first commands start
ran_of may_leave faults schema first commands start book clock text r = record {
  text = text;
  now = faults book.rig;
  last = world_of book clock r.payloads;
  script = r.script;
}

cut_from : (held at after line : List ℕ) → held ≡ at → IsCut held after line → IsCut at after line
cut_from held at after line is cut = subst (λ (t : List ℕ). IsCut t after line) is cut

-- memory was wanting in the next command, or after all of them

-- in a command: the disk stands for a world where it may leave it
abbrev pub starved_in : {G R : Type 0} → (may_leave : R → Areas → Type 0) (faults : R → ℕ) (schema : Schema) (first : World) (commands : List Command) (start i : ℕ) (command : Command)
    (book : Booked G R) (clock : ℕ) (rig : R) (text : List ℕ) → i < length commands → command ≡ get_or commands i command → faults book.rig ≤ faults rig →
    (r : Reached may_leave faults schema first (take i commands) start book clock text) → HaltedAt command (world_of book clock r.payloads) (may_leave rig) →
    Starves schema first commands start (faults rig) (may_leave rig) i
starved_in may_leave faults schema first commands start i command book clock rig text below is later r halted = record {
  ran = ran_of may_leave faults schema first (take i commands) start book clock text r;
  count = later;
  next = halted.next;
  halts = inr (command, (got commands i command below is, halted.halts));
  held = halted.held;
}

starved : {G R : Type 0} → (may_leave : R → Areas → Type 0) (faults : R → ℕ) (schema : Schema) (first : World) (commands : List Command) (start i : ℕ) (command : Command)
    (book : Booked G R) (clock : ℕ) (rig : R) (told : Type 0) (before held after : List ℕ) → told → i < length commands → command ≡ get_or commands i command → faults book.rig ≤ faults rig →
    (s : SoFar may_leave faults schema first (take i commands) start book clock told before held) → after ≡ held →
    HaltedAt command (world_of book clock s.reached.payloads) (may_leave rig) → IsStarved schema first commands start (faults rig) (may_leave rig) before after i
starved may_leave faults schema first commands start i command book clock rig told before held after tell below is later s same halted = record {
  starves = starved_in may_leave faults schema first commands start i command book clock rig s.text below is later s.reached halted;
  text = same ∙ s.put tell;
}

-- an opening in a crash was not answered Ok
pub stopped : {G R : Type 0} → (may_leave : R → Areas → Type 0) (faults : R → ℕ) (schema : Schema) (first : World) (commands : List Command) (start i n : ℕ) (command : Command)
    (book : Booked G R) (clock : ℕ) (rig : R) (told : Type 0) (before held after : List ℕ) (it : OpenFault) (write_rose : Type 0) (status : Status) → told → n ≡ i →
    i < length commands → command ≡ get_or commands i command →
    (s : SoFar may_leave faults schema first (take i commands) start book clock told before held) → Stops may_leave command book clock s.reached.payloads rig it →
    StopCounts (faults book.rig) (faults rig) it → UnopenedText it held after status → UnopenedCause it n write_rose status →
    ScriptText schema first commands start (faults rig) (may_leave rig) before after status
stopped may_leave faults schema first commands start i n command book clock rig told before held after it write_rose Done tell n_is below is s stops counts text cause = absurd text
stopped may_leave faults schema first commands start i n command book clock rig told before held after it write_rose Usage tell n_is below is s stops counts text cause = text
stopped may_leave faults schema first commands start i n command book clock rig told before held after it write_rose (BadDocument line) tell n_is below is s stops counts text cause = text
stopped may_leave faults schema first commands start i n command book clock rig told before held after it write_rose ReadFault tell n_is below is s stops counts text cause = text
stopped may_leave faults schema first commands start i n command book clock rig told before held after fault.DiskFault write_rose (WriteFault m) tell n_is below is s stops counts text cause =
    let at = stops s.reached.stands in
    subst (λ (k : ℕ). IsCutScript schema first commands start (faults rig) (may_leave rig) before after k) (sym (cause.0 ∙ n_is))
    (outcome.IsCutScript.InOpening (ran_of may_leave faults schema first (take i commands) start book clock s.text s.reached) at.0.0
    (got commands i command below is ∙ ap (λ (c : Command). Some c) at.0.1) (counts.failed refl) (cut_from held (before ++ s.text) after (down_text 0) (s.put tell) text) at.1)
stopped may_leave faults schema first commands start i n command book clock rig told before held after fault.OutOfMemory write_rose (WriteFault m) tell n_is below is s stops counts text cause =
    absurd (cause.2 refl)
stopped may_leave faults schema first commands start i n command book clock rig told before held after (fault.BadStore area at) write_rose (WriteFault m) tell n_is below is s stops counts text cause =
    absurd (stops s.reached.stands)
stopped may_leave faults schema first commands start i n command book clock rig told before held after fault.DiskFault write_rose (OutOfMemory m) tell n_is below is s stops counts text cause =
    subst (λ (k : ℕ). IsStarved schema first commands start (faults rig) (may_leave rig) before after k) (sym (cause ∙ n_is)) (record {
      starves = record {
        ran = ran_of may_leave faults schema first (take i commands) start book clock s.text s.reached;
        count = counts.later;
        next = world_of book clock s.reached.payloads;
        halts = inl refl;
        held = (stops s.reached.stands).1;
      };
      text = text ∙ s.put tell;
    })
stopped may_leave faults schema first commands start i n command book clock rig told before held after fault.OutOfMemory write_rose (OutOfMemory m) tell n_is below is s stops counts text cause =
    subst (λ (k : ℕ). IsStarved schema first commands start (faults rig) (may_leave rig) before after k) (sym (cause ∙ n_is))
    (starved may_leave faults schema first commands start i command book clock rig told before held after tell below is counts.later s text (stops s.reached.stands))
stopped may_leave faults schema first commands start i n command book clock rig told before held after (fault.BadStore area at) write_rose (OutOfMemory m) tell n_is below is s stops counts text cause =
    absurd (stops s.reached.stands)
stopped may_leave faults schema first commands start i n command book clock rig told before held after fault.DiskFault write_rose (Down len) tell n_is below is s stops counts text cause =
    let at = stops s.reached.stands in
    outcome.IsDown.InOpening i at.0.0 (ran_of may_leave faults schema first (take i commands) start book clock s.text s.reached)
    (got commands i command below is ∙ ap (λ (c : Command). Some c) at.0.1) (counts.failed refl) cause.1 (text ∙ ap (λ (t : List ℕ). t ++ down_text 0) (s.put tell)) at.1
stopped may_leave faults schema first commands start i n command book clock rig told before held after fault.OutOfMemory write_rose (Down len) tell n_is below is s stops counts text cause =
    absurd (cc (cause.0))
stopped may_leave faults schema first commands start i n command book clock rig told before held after (fault.BadStore area at) write_rose (Down len) tell n_is below is s stops counts text cause =
    absurd (stops s.reached.stands)
stopped may_leave faults schema first commands start i n command book clock rig told before held after fault.DiskFault write_rose (BadStore area at) tell n_is below is s stops counts text cause =
    absurd (cc cause)
stopped may_leave faults schema first commands start i n command book clock rig told before held after fault.OutOfMemory write_rose (BadStore area at) tell n_is below is s stops counts text cause =
    absurd (cc cause)
stopped may_leave faults schema first commands start i n command book clock rig told before held after (fault.BadStore x y) write_rose (BadStore area at) tell n_is below is s stops counts text cause =
    absurd (stops s.reached.stands)

-- the sink failed in the lines of a command that was made
pub cut_in_lines : {G R : Type 0} → (may_leave : R → Areas → Type 0) (faults : R → ℕ) (schema : Schema) (first : World) (commands : List Command) (start i n : ℕ) (command : Command)
    (old now : Booked G R) (clock next : ℕ) (rig : R) (told : Type 0) (before held after line : List ℕ) → told → n ≡ i → rig ≡ now.rig → Legal now.rules now.history →
    i < length commands → command ≡ get_or commands i command →
    (s : SoFar may_leave faults schema first (take i commands) start old clock told before held) →
    (carried : Carried may_leave faults schema command (world_of old clock s.reached.payloads) (faults old.rig) now next line) → IsCut held after line →
    SettlesAll command (world_of now next carried.payloads) (may_leave now.rig) → IsCutScript schema first commands start (faults rig) (may_leave rig) before after n
cut_in_lines {G} {R} may_leave faults schema first commands start i n command old now clock next rig told before held after line tell n_is rig_is legal below is s carried cut settles =
    subst (λ (r : R). IsCutScript schema first commands start (faults r) (may_leave r) before after n) (sym rig_is)
    (subst (λ (k : ℕ). IsCutScript schema first commands start (faults now.rig) (may_leave now.rig) before after k) (sym n_is)
    (outcome.IsCutScript.InLines (ran_of may_leave faults schema first (take i commands) start old clock s.text s.reached) command line (world_of now next carried.payloads)
    (got commands i command below is) carried.serves (cut_from held (before ++ s.text) after line (s.put tell) cut)
    (stands_held (world_of now next carried.payloads) (may_leave now.rig) legal carried.stands) settles))

-- all commands were made, and the store was to be settled
pub ended : {G R : Type 0} → (may_leave : R → Areas → Type 0) (faults : R → ℕ) (schema : Schema) (first : World) (commands : List Command) (start n : ℕ)
    (book : Booked G R) (clock : ℕ) (rig : R) (told : Type 0) (before held after : List ℕ) (status : Status) → told → n ≡ length commands → take n commands ≡ commands →
    Legal book.rules book.history → Sound book.rules book.history → (s : SoFar may_leave faults schema first commands start book clock told before held) →
    EndText (world_of book clock s.reached.payloads) n (faults book.rig) (faults rig) (may_leave rig) held after status →
    ScriptText schema first commands start (faults rig) (may_leave rig) before after status
ended may_leave faults schema first commands start n book clock rig told before held after Done tell n_is all legal sound s text = record {
  ran = ran_of may_leave faults schema first commands start book clock s.text s.reached;
  count = text.0.count;
  up = text.0.up;
  text = text.1 ∙ s.put tell;
  history = record { legal = legal; sound = sound };
  settled = text.0.settled;
  rests = text.0.rests;
}
ended may_leave faults schema first commands start n book clock rig told before held after Usage tell n_is all legal sound s text = text
ended may_leave faults schema first commands start n book clock rig told before held after (BadDocument line) tell n_is all legal sound s text = text
ended may_leave faults schema first commands start n book clock rig told before held after ReadFault tell n_is all legal sound s text = text
ended may_leave faults schema first commands start n book clock rig told before held after (WriteFault m) tell n_is all legal sound s text =
    outcome.IsCutScript.InSettling (ran_of may_leave faults schema first commands start book clock s.text s.reached) (text.0 ∙ n_is) text.1.up text.1.rose
    (cut_from held (before ++ s.text) after (down_text (length book.history)) (s.put tell) text.2) text.1.held
ended {G} {R} may_leave faults schema first commands start n book clock rig told before held after (OutOfMemory m) tell n_is all legal sound s text =
    subst (λ (k : ℕ). IsStarved schema first commands start (faults rig) (may_leave rig) before after k) (sym text.0) (record {
      starves = record {
        ran = record {
          text = s.text;
          now = faults book.rig;
          last = world_of book clock s.reached.payloads;
          script = subst (λ (cs : List Command). Script schema first cs start (faults book.rig) s.text (world_of book clock s.reached.payloads)) (sym all) s.reached.script;
        };
        count = text.1;
        next = world_of book clock s.reached.payloads;
        halts = inl refl;
        held = text.2;
      };
      text = text.3 ∙ s.put tell;
    })
ended may_leave faults schema first commands start n book clock rig told before held after (Down len) tell n_is all legal sound s text =
    elim text [
      | inl d ↦ outcome.IsDown.AtEnd (ran_of may_leave faults schema first commands start book clock s.text s.reached) d.0.count d.0.down d.1 (d.2 ∙ s.put tell) d.0.held
      | inr f ↦ outcome.IsDown.InSettling (ran_of may_leave faults schema first commands start book clock s.text s.reached) f.0.rose f.0.up f.1
          (f.2 ∙ ap (λ (t : List ℕ). t ++ down_text len) (s.put tell)) f.0.held
    ]
ended may_leave faults schema first commands start n book clock rig told before held after (BadStore area at) tell n_is all legal sound s text = text

-- none yet, and one more

pub none_so_far : {G R : Type 0} → (may_leave : R → Areas → Type 0) (faults : R → ℕ) (schema : Schema) (book : Booked G R) (clock : ℕ) (e : Payloads) (told : Type 0) (before : List ℕ) →
    StandsOn (world_of book clock e) (may_leave book.rig) → SoFar may_leave faults schema (world_of book clock e) [] (faults book.rig) book clock told before before
none_so_far may_leave faults schema book clock e told before stands = record {
  text = [];
  reached = none_reached may_leave faults schema book clock e stands;
  put = λ tell. sym (append-nil before);
}

pub more_so_far : {G R : Type 0} → (may_leave : R → Areas → Type 0) (faults : R → ℕ) (schema : Schema) (first : World) (commands : List Command) (start i : ℕ)
    (command : Command) (old now : Booked G R) (clock next : ℕ) (told : Type 0) (before held after line : List ℕ) → i < length commands → command ≡ get_or commands i command →
    (s : SoFar may_leave faults schema first (take i commands) start old clock told before held) →
    Carried may_leave faults schema command (world_of old clock s.reached.payloads) (faults old.rig) now next line → (told → after ≡ held ++ line) →
    SoFar may_leave faults schema first (take (i + 1) commands) start now next told before after
more_so_far may_leave faults schema first commands start i command old now clock next told before held after line below is s carried put = record {
  text = s.text ++ line;
  reached = more_reached may_leave faults schema first commands start i command old now clock next s.text line below is s.reached carried;
  put = λ tell. put tell ∙ ap (λ (t : List ℕ). t ++ line) (s.put tell) ∙ append_assoc before s.text line;
}
