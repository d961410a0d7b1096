-- The history goes on, and stays legal.
use Rattle.std.proofs.Common.{◌≡◌, ℕ, Bool, true, false, Option, Some, None, List, [], ◌∷◌, ◌++◌, refl, sym, ap, subst, ◌∙◌, append_assoc, append-nil}
use Rattle.std.specs.Prelude.{IsTrue, take}
use Rattle.std.specs.List.{AllByRecursion}
use Rattle.std.proofs.lemmas.List.Elements.{recursion_from_All}
use Rattle.delf_model.specs.declared.schema.Schema.{Schema}
use Rattle.delf_model.specs.declared.entry.Entry.{Entry}
use Rattle.delf_model.specs.declared.call.Call.{Call}
use Rattle.delf_model.specs.declared.script.Command.{Command}
use Rattle.delf_model.specs.declared.script.Lane.{Lane}
use Rattle.delf_model.specs.RuleSet.{RuleSet}
use Rattle.delf_model.specs.State.{State, start}
use Rattle.delf_model.specs.Step.{after}
use Rattle.delf_model.specs.Legal.{Legal, is_legal}
use Rattle.delf_model.proofs.Runs.{Legal_push, legal_take, legal_first}
use Rattle.delf_book.specs.Parts.{Interrupted}
use Rattle.delf_book.specs.Books.{given_by}
use Rattle.delf_service.specs.declared.standing.Key.{Key}
use Rattle.documents.specs.Names.{IsNumberedCall, IsNumberedCommand}
use Rattle.history_laws.proofs.Whole.{legal_is_sound}
use Rattle.seat_lock.specs.Lists.{StartsWith, StartsWith-itself, StartsWith-chain}
use Rattle.script_runner.specs.Blocks.{RunsLanes}
use Rattle.script_runner.specs.Serial.{Script, StepsTo}
use Rattle.script_runner.specs.Worlds.{World, state_of, entry_now, interrupted, entered}
use Rattle.headline_laws.specs.Onward.{AreNumbered, GoesOn, IsSoundThroughout}
use Rattle.headline_laws.proofs.Legal.{answer_legal, step_first}
use Rattle.headline_laws.proofs.Moves.{Move, Stays, Ticks, Calls, Steps, FallsInCall, FallsInStep, FallsReading, Mends, Enters, Runs, script_keeps}

-- the history goes on

same_world : (w next : World) → next ≡ w → GoesOn w next
same_world w next is = record { rules = ap (λ (x : World). x.rules) is; history = ([], ap (λ (x : World). x.history) is ∙ sym (append-nil w.history)) }

pub onward_then : (a b c : World) → GoesOn a b → GoesOn b c → GoesOn a c
onward_then a b c first second = record { rules = second.rules ∙ first.rules; history = StartsWith-chain c.history b.history a.history second.history first.history }

pub step_goes_on : (w next : World) → StepsTo w next → GoesOn w next
step_goes_on w next steps = subst (GoesOn w) (sym steps.is_next) (record { rules = refl; history = (_, refl) })

-- the rules and the history of a world that a block leaves
pub block_rules : (schema : Schema) (w next : World) (quiet : Bool) (lanes : List Lane) (before now : ℕ) (text : List ℕ) → RunsLanes schema w quiet lanes before now text next → next.rules ≡ w.rules
block_rules schema w next quiet lanes before now text runs =
    sym runs.shows_final.rules ∙ (ap (λ (k : Key). k.rules) runs.has.later.key ∙ runs.shows_first.rules)

pub block_history : (schema : Schema) (w next : World) (quiet : Bool) (lanes : List Lane) (before now : ℕ) (text : List ℕ) → RunsLanes schema w quiet lanes before now text next → StartsWith next.history w.history
block_history schema w next quiet lanes before now text runs =
    let more = runs.has.later.history in
    (more.0, sym runs.shows_final.history ∙ (more.1 ∙ ap (λ (h : List Entry). h ++ more.0) runs.shows_first.history))

pub move_goes_on : (schema : Schema) (known : Command → Type 0) (w next : World) → Move schema known w next → GoesOn w next
move_goes_on schema known w next (Stays is) = same_world w next is
move_goes_on schema known w next (Ticks seconds is) = subst (GoesOn w) (sym is) (record { rules = refl; history = StartsWith-itself w.history })
move_goes_on schema known w next (Calls asked what is answered is_next) = subst (GoesOn w) (sym is_next) (record { rules = refl; history = (_, refl) })
move_goes_on schema known w next (Steps steps) = step_goes_on w next steps
move_goes_on schema known w next (FallsInCall asked what is answered is_next) = subst (GoesOn w) (sym is_next) (record { rules = refl; history = StartsWith-itself w.history })
move_goes_on schema known w next (FallsInStep what first is_next) = subst (GoesOn w) (sym is_next) (record { rules = refl; history = StartsWith-itself w.history })
move_goes_on schema known w next (FallsReading is_next) = subst (GoesOn w) (sym is_next) (record { rules = refl; history = StartsWith-itself w.history })
move_goes_on schema known w next (Mends is_next) = subst (GoesOn w) (sym is_next) (record { rules = refl; history = StartsWith-itself w.history })
move_goes_on schema known w next (Enters it down beside legal is_next) = subst (GoesOn w) (sym is_next) (record { rules = refl; history = (_, refl) })
move_goes_on schema known w next (Runs quiet workers turns lanes before now text is runs) = record {
  rules = block_rules schema w next quiet lanes before now text runs;
  history = block_history schema w next quiet lanes before now text runs;
}

-- nothing need be known of the commands
pub all_known : (commands : List Command) → AllByRecursion (λ (command : Command). Unit {0}) commands
all_known [] = tt
all_known (command ∷ more) = (tt, all_known more)

pub history_goes_on : (schema : Schema) (first : World) (commands : List Command) (before now : ℕ) (text : List ℕ) (last : World) →
    Script schema first commands before now text last → GoesOn first last
history_goes_on schema first commands before now text last script =
    script_keeps schema (λ (command : Command). Unit {0}) (GoesOn first) (λ w next move so_far. onward_then first w next so_far (move_goes_on schema _ w next move))
    first last commands before now text (all_known commands) script (same_world first first refl)

-- it stays legal

-- a world whose history is legal, under these rules
pub record Keeps (rules : RuleSet) (w : World) : Type 0 where
  pub ruled : w.rules ≡ rules
  pub legal : Legal w.rules w.history

-- with a legal entry more
entered_keeps : (rules : RuleSet) (w : World) (it : Interrupted) → Keeps rules w → is_legal (state_of w) it.entry ≡ true → Keeps rules (entered w it)
entered_keeps rules w it keeps line = record { ruled = keeps.ruled; legal = Legal_push w.rules w.history it.entry keeps.legal line }

call_numbered : (rules : RuleSet) (w : World) (asked : Call) → w.rules ≡ rules → IsNumberedCall rules asked → IsNumberedCall w.rules asked
call_numbered rules w asked ruled numbered = subst (λ (r : RuleSet). IsNumberedCall r asked) (sym ruled) numbered

pub block_legal : (schema : Schema) (w next : World) (quiet : Bool) (lanes : List Lane) (before now : ℕ) (text : List ℕ) → RunsLanes schema w quiet lanes before now text next →
    Legal next.rules next.history
block_legal schema w next quiet lanes before now text runs =
    subst (λ (h : List Entry). Legal next.rules h) runs.shows_final.history
    (subst (λ (rules : RuleSet). Legal rules runs.final.history) runs.shows_final.rules runs.has.legal)

move_keeps : (schema : Schema) (rules : RuleSet) (w next : World) → Move schema (IsNumberedCommand rules) w next → Keeps rules w → Keeps rules next
move_keeps schema rules w next (Stays is) keeps = subst (Keeps rules) (sym is) keeps
move_keeps schema rules w next (Ticks seconds is) keeps = subst (Keeps rules) (sym is) (record { ruled = keeps.ruled; legal = keeps.legal })
move_keeps schema rules w next (Calls asked what is answered next_is) keeps =
    subst (Keeps rules) (sym next_is)
    (entered_keeps rules w (interrupted w what (given_by asked)) keeps (answer_legal w asked what keeps.legal (call_numbered rules w asked keeps.ruled is) answered))
move_keeps schema rules w next (Steps steps) keeps =
    subst (Keeps rules) (sym steps.is_next) (entered_keeps rules w (interrupted w steps.what []) keeps (step_first w steps.what keeps.legal steps.is_first).1)
move_keeps schema rules w next (FallsInCall asked what is answered next_is) keeps = subst (Keeps rules) (sym next_is) (record { ruled = keeps.ruled; legal = keeps.legal })
move_keeps schema rules w next (FallsInStep what first next_is) keeps = subst (Keeps rules) (sym next_is) (record { ruled = keeps.ruled; legal = keeps.legal })
move_keeps schema rules w next (FallsReading next_is) keeps = subst (Keeps rules) (sym next_is) (record { ruled = keeps.ruled; legal = keeps.legal })
move_keeps schema rules w next (Mends next_is) keeps = subst (Keeps rules) (sym next_is) (record { ruled = keeps.ruled; legal = keeps.legal })
move_keeps schema rules w next (Enters it down beside legal next_is) keeps = subst (Keeps rules) (sym next_is) (record { ruled = keeps.ruled; legal = legal })
move_keeps schema rules w next (Runs quiet workers turns lanes before now text is runs) keeps = record {
  ruled = block_rules schema w next quiet lanes before now text runs ∙ keeps.ruled;
  legal = block_legal schema w next quiet lanes before now text runs;
}

pub stays_legal : (schema : Schema) (first : World) (commands : List Command) (before now : ℕ) (text : List ℕ) (last : World) → Legal first.rules first.history →
    AreNumbered first.rules commands → Script schema first commands before now text last → Legal last.rules last.history
stays_legal schema first commands before now text last legal numbered script =
    (script_keeps schema (IsNumberedCommand first.rules) (Keeps first.rules) (move_keeps schema first.rules) first last commands before now text
    (recursion_from_All _ commands numbered) script (record { ruled = refl; legal = legal })).legal

-- each part of a legal history

pub legal_back : (a b : World) → GoesOn a b → Legal b.rules b.history → Legal a.rules a.history
legal_back a b onward legal =
    subst (λ (rules : RuleSet). Legal rules a.history) onward.rules
    (legal_first (start b.rules) a.history onward.history.0 (subst (λ (h : List Entry). Legal b.rules h) onward.history.1 legal))

pub sound_throughout : (w : World) → Legal w.rules w.history → IsSoundThroughout w
sound_throughout w legal = record {
  legal = λ p. legal_take (start w.rules) w.history p legal;
  sound = λ p. legal_is_sound w.rules (take p w.history) (legal_take (start w.rules) w.history p legal);
}
