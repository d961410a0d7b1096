-- Each command has its place in a script, and an accepted call its entry in the last history.
use Rattle.std.proofs.Common.{◌≡◌, ℕ, zero, suc, ◌<◌, Bool, true, false, Option, Some, None, Result, Ok, Err, List, [], ◌∷◌, ◌++◌, length, take, refl, sym, ap, subst, ◌∙◌, append_assoc}
use Rattle.std.specs.Prelude.{slice_get}
use Rattle.delf_model.specs.declared.schema.Schema.{Schema}
use Rattle.delf_model.specs.declared.call.Call.{Call}
use Rattle.delf_model.specs.declared.call.Refusal.{Refusal}
use Rattle.delf_model.specs.declared.entry.Entry.{Entry}
use Rattle.delf_model.specs.declared.entry.Tag.{Tag}
use Rattle.delf_model.specs.declared.entry.What.{What}
use Rattle.delf_model.specs.declared.script.Command.{Command}
use Rattle.delf_model.specs.declared.script.Command.TheVariants.{Submit}
use Rattle.delf_model.specs.RuleSet.{RuleSet}
use Rattle.delf_model.specs.State.{start}
use Rattle.delf_model.specs.Step.{tag_of}
use Rattle.delf_model.specs.Legal.{Legal}
use Rattle.delf_book.specs.Books.{given_by}
use Rattle.delf_service.specs.Standings.{seat_of_tag}
use Rattle.delf_service.proofs.Tags.{reply_maker}
use Rattle.seat_lock.specs.Lists.{StartsWith}
use Rattle.script_runner.specs.Serial.{Serves, Script, Submits, answer, answer_text, after_answer}
use Rattle.script_runner.specs.Serial as serial
use Rattle.script_runner.specs.Worlds.{World, state_of, now_of, entry_now, interrupted, with_entry}
use Rattle.headline_laws.specs.Onward.{GoesOn}
use Rattle.headline_laws.specs.Places.{MadeAt, IsAcknowledged, CallEnds, Acknowledged, Refused, MetFault, WasDown, StandsOnce}
use Rattle.headline_laws.proofs.Tags.{tag_once}

-- the place of a command

pub none_lead : (schema : Schema) (w : World) (b : ℕ) → Script schema w [] b b [] w
unfolding Script
none_lead schema w b = (refl, refl, refl)

pub one_leads : (schema : Schema) (w here found : World) (c : Command) (earlier : List Command) (before between m : ℕ) (line front : List ℕ) → Serves schema w c before between line here →
    Script schema here earlier between m front found → Script schema w (c ∷ earlier) before m (line ++ front) found
unfolding Script
one_leads schema w here found c earlier before between m line front serves leads = (between, (here, (line, (front, (serves, leads, refl)))))

-- the first one
abbrev pub first_at : (schema : Schema) (w here last : World) (c : Command) (more : List Command) (before between now : ℕ) (line rest text : List ℕ) →
    Serves schema w c before between line here → Script schema here more between now rest last → text ≡ line ++ rest →
    MadeAt schema w (c ∷ more) before now text last c
first_at schema w here last c more before between now line rest text serves goes_on text_is = record {
  earlier = [];
  later = more;
  split = refl;
  found = w;
  left = here;
  found_count = before;
  left_count = between;
  front = [];
  line = line;
  back = rest;
  leads = none_lead schema w before;
  serves = serves;
  goes_on = goes_on;
  text_is = text_is;
}

-- one behind the first
abbrev pub shift_at : (schema : Schema) (w here last : World) (c : Command) (more : List Command) (before between now : ℕ) (line rest text : List ℕ) →
    Serves schema w c before between line here → text ≡ line ++ rest → (command : Command) → MadeAt schema here more between now rest last command →
    MadeAt schema w (c ∷ more) before now text last command
shift_at schema w here last c more before between now line rest text serves text_is command at = record {
  earlier = c ∷ at.earlier;
  later = at.later;
  split = ap (λ (l : List Command). c ∷ l) at.split;
  found = at.found;
  left = at.left;
  found_count = at.found_count;
  left_count = at.left_count;
  front = line ++ at.front;
  line = at.line;
  back = at.back;
  leads = one_leads schema w here at.found c at.earlier before between at.found_count line at.front serves at.leads;
  serves = at.serves;
  goes_on = at.goes_on;
  text_is = text_is ∙ (ap (λ (l : List ℕ). line ++ l) at.text_is ∙
      (sym (append_assoc line (at.front ++ at.line) at.back) ∙ ap (λ (l : List ℕ). l ++ at.back) (sym (append_assoc line at.front at.line))));
}

pub made_at : (schema : Schema) (first : World) (commands : List Command) (before now : ℕ) (text : List ℕ) (last : World) (k : ℕ) (command : Command) →
    slice_get commands k ≡ Some command → Script schema first commands before now text last →
    (at : MadeAt schema first commands before now text last command) × (length at.earlier ≡ k)
unfolding Script
made_at schema first [] before now text last k command there script = absurd (cc there)
made_at schema first (c ∷ more) before now text last zero command there script =
    let is : c ≡ command = cc there in
    subst (λ (x : Command). (at : MadeAt schema first (c ∷ more) before now text last x) × (length at.earlier ≡ 0)) is
    (first_at schema first script.1.0 last c more before script.0 now script.1.1.0 script.1.1.1.0 text script.1.1.1.1.0 script.1.1.1.1.1 script.1.1.1.1.2, refl)
made_at schema first (c ∷ more) before now text last (suc k) command there script =
    let IH = made_at schema script.1.0 more script.0 now script.1.1.1.0 last k command there script.1.1.1.1.1 in
    (shift_at schema first script.1.0 last c more before script.0 now script.1.1.0 script.1.1.1.0 text script.1.1.1.1.0 script.1.1.1.1.2 command IH.0, ap suc IH.1)

-- what came of a call

by_answer : (schema : Schema) (found : World) (asked : Call) (before now : ℕ) (line : List ℕ) (left : World) (r : Result What Refusal) → found.down ≡ false → now ≡ before →
    answer found asked ≡ r → line ≡ answer_text schema found asked r → left ≡ after_answer found asked r → CallEnds schema found asked before now line left
by_answer schema found asked before now line left (Ok what) up count is line_is left_is =
    Acknowledged what (record { up = up; count = count; is_answer = is; line_is = line_is; left_is = left_is })
by_answer schema found asked before now line left (Err why) up count is line_is left_is = Refused why up count is line_is left_is

submit_ends : (schema : Schema) (found : World) (asked : Call) (before now : ℕ) (line : List ℕ) (left : World) → Submits schema found asked before now line left →
    CallEnds schema found asked before now line left
submit_ends schema found asked before now line left (serial.Submits.Answers up count text_is next_is) =
    by_answer schema found asked before now line left (answer found asked) up count refl text_is next_is
submit_ends schema found asked before now line left (serial.Submits.Falls what up rose is text_is next_is) = MetFault what up rose is text_is next_is
submit_ends schema found asked before now line left (serial.Submits.WasDown down count text_is next_is) = WasDown down count text_is next_is

pub call_ends : (schema : Schema) (found : World) (asked : Call) (before now : ℕ) (line : List ℕ) (left : World) → Serves schema found (Submit asked) before now line left →
    CallEnds schema found asked before now line left
call_ends schema found asked before now line left serves = submit_ends schema found asked before now line left serves

-- the entry behind a list

pub at_end : {A : Type 0} (xs : List A) (x : A) (ys : List A) → slice_get (xs ++ x ∷ ys) (length xs) ≡ Some x
at_end [] x ys = refl
at_end (y ∷ xs) x ys = at_end xs x ys

pub inside : {A : Type 0} (xs ys : List A) (i : ℕ) (x : A) → slice_get xs i ≡ Some x → slice_get (xs ++ ys) i ≡ Some x
inside [] ys i x at = absurd (cc at)
inside (y ∷ xs) ys zero x at = at
inside (y ∷ xs) ys (suc i) x at = inside xs ys i x at

pub still_there : (a b : World) (p : ℕ) (e : Entry) → GoesOn a b → slice_get a.history p ≡ Some e → slice_get b.history p ≡ Some e
still_there a b p e onward there =
    subst (λ (h : List Entry). slice_get h p ≡ Some e) (sym onward.history.1) (inside a.history onward.history.0 p e there)

-- the tag of the entry of a seat

record HasTag (o : Option Tag) (seat : ℕ) : Type 0 where
  tag : Tag
  is : o ≡ Some tag
  by : tag.seat ≡ seat

has_tag : (o : Option Tag) (seat : ℕ) → seat_of_tag o ≡ Some seat → HasTag o seat
has_tag None seat is = absurd (cc is)
has_tag (Some tag) seat is = record { tag = tag; is = refl; by = cc is }

pub stands_once : (rules : RuleSet) (h : List Entry) (seat p : ℕ) (e : Entry) → Legal rules h → slice_get h p ≡ Some e → seat_of_tag (tag_of e.what) ≡ Some seat →
    StandsOnce h seat p e
stands_once rules h seat p e legal there by =
    let has = has_tag (tag_of e.what) seat by in
    record {
      tag = has.tag;
      tagged = has.is;
      by_seat = has.by;
      there = there;
      once = λ q other at tagged. tag_once (start rules) h q p other e has.tag legal at there tagged has.is;
    }

pub acknowledged_stands : (schema : Schema) (found left last : World) (asked : Call) (before now : ℕ) (line : List ℕ) (what : What) →
    IsAcknowledged schema found asked before now line left what → GoesOn left last → Legal last.rules last.history →
    StandsOnce last.history 0 (length found.history) (entry_now found what)
acknowledged_stands schema found left last asked before now line what is onward legal =
    let e : Entry = entry_now found what in
    stands_once last.rules last.history 0 (length found.history) e legal
    (still_there left last (length found.history) e onward
    (subst (λ (w : World). slice_get w.history (length found.history) ≡ Some e) (sym is.left_is) (at_end found.history e [])))
    (reply_maker (state_of found) (now_of found) 0 asked what is.is_answer)
