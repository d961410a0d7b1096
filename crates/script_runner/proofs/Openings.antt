-- The first opening, and what a document comes to.
use Rattle.std.proofs.Common.{◌≡◌, ℕ, min, false, None, List, [], length, refl, sym, subst, inl, inr, arith}
use Rattle.delf_disk.specs.declared.area.Area.{Area}
use Rattle.delf_disk.specs.declared.area.Order.{Order}
use Rattle.delf_disk.specs.Areas.{Areas}
use Rattle.delf_model.specs.declared.entry.Entry.{Entry}
use Rattle.delf_model.specs.declared.script.Command.{Command}
use Rattle.delf_model.specs.RuleSet.{RuleSet}
use Rattle.delf_model.specs.Room.{greatest_moment}
use Rattle.delf_model.specs.Payloads.{Payloads}
use Rattle.store_laws.specs.Stores.{StandBut}
use Rattle.store_laws.specs.Moves.{RestIn}
use Rattle.delf_book.specs.Books.{Booked}
use Rattle.delf_recovery.specs.declared.fault.OpenFault.{OpenFault}
use Rattle.delf_recovery.specs.declared.fault.OpenFault.TheVariants as fault
use Rattle.delf_recovery.specs.Opening.{StandsNow, IsNotBad, IsBadAt, StaysAsRead}
use Rattle.script_runner.specs.declared.status.Status.{Status}
use Rattle.script_runner.specs.declared.status.Status.TheVariants.{Done, Usage, BadDocument, ReadFault, WriteFault, OutOfMemory, Down, BadStore}
use Rattle.script_runner.specs.Endings.{UnopenedText, UnopenedCause}
use Rattle.script_runner.specs.Openings.{CountsOpen, LeavesBad, StopCounts}
use Rattle.script_runner.specs.Orders.{GivesAll}
use Rattle.script_runner.specs.Outcomes.{ScriptCause, OpenedText, RunsFrom, StillStands, IsBad, OrdersMade, IsMade}
use Rattle.script_runner.specs.Worlds.{World, StandsOn, Opens, world_of}
use Rattle.script_runner.proofs.Crashes.{Found}
use Rattle.script_runner.proofs.Ends.{orders_none}
use Rattle.script_runner.proofs.Standing.{up_stands}

-- an opened store: the world that it found

pub found_stands : {G R : Type 0} → (may_leave : R → Areas → Type 0) (rules : RuleSet) (seen : Areas) (book : Booked G R) (clock : ℕ) → book.rules ≡ rules → book.down ≡ false →
    book.beside ≡ None → Found may_leave rules seen book → (now : StandsNow rules book.history seen) → StandsOn (world_of book clock now.payloads) (may_leave book.rig)
found_stands {G} {R} may_leave rules seen book clock rules_are up alone found now =
    up_stands (world_of book clock now.payloads) (may_leave book.rig) up alone
    (subst (λ (r : RuleSet). RestIn r book.history now.payloads (may_leave book.rig)) (sym rules_are) (found book.history now.payloads now.stand).1)

pub found_opens : {G R : Type 0} → (rules : RuleSet) (seen : Areas) (book : Booked G R) (clock moment : ℕ) → book.rules ≡ rules → book.down ≡ false →
    book.beside ≡ None → clock ≡ min moment greatest_moment → (now : StandsNow rules book.history seen) → Opens rules moment seen (world_of book clock now.payloads)
found_opens rules seen book clock moment rules_are up alone clock_is now = record {
  rules_are = rules_are;
  clock = clock_is;
  up = up;
  alone = alone;
  entries = now.entries;
  stands = now.stand;
}

pub ran_opened : (rules : RuleSet) (moment : ℕ) (seen : Areas) (old : Areas → Type 0) (start now : ℕ) (images : Areas → Type 0) (before after : List ℕ) (runs : World → Status → Type 0) (status : Status) →
    ((w : World) (area : Area) (at : ℕ) → runs w (BadStore area at) → ⊥) → RunsFrom rules moment seen (λ w. runs w status) →
    OpenedText rules moment seen old start now images before after runs status
ran_opened rules moment seen old start now images before after runs Done never ran = ran
ran_opened rules moment seen old start now images before after runs Usage never ran = ran
ran_opened rules moment seen old start now images before after runs (BadDocument line) never ran = ran
ran_opened rules moment seen old start now images before after runs ReadFault never ran = ran
ran_opened rules moment seen old start now images before after runs (WriteFault done) never ran = inr ran
ran_opened rules moment seen old start now images before after runs (OutOfMemory done) never ran = inr ran
ran_opened rules moment seen old start now images before after runs (Down len) never ran = inr ran
ran_opened rules moment seen old start now images before after runs (BadStore area at) never ran = absurd (never ran.first area at ran.text)

pub cause_by : (write_rose rose rose' : Type 0) (bad bad' : Area → ℕ → Type 0) (status : Status) → (rose → rose') → ((area : Area) (at : ℕ) → bad area at → bad' area at) →
    ScriptCause write_rose rose bad status → ScriptCause write_rose rose' bad' status
cause_by write_rose rose rose' bad bad' Done f h cause = tt
cause_by write_rose rose rose' bad bad' Usage f h cause = cause
cause_by write_rose rose rose' bad bad' (BadDocument line) f h cause = cause
cause_by write_rose rose rose' bad bad' ReadFault f h cause = cause
cause_by write_rose rose rose' bad bad' (WriteFault done) f h cause = cause
cause_by write_rose rose rose' bad bad' (OutOfMemory done) f h cause = tt
cause_by write_rose rose rose' bad bad' (Down len) f h cause = f cause
cause_by write_rose rose rose' bad bad' (BadStore area at) f h cause = h area at cause

-- an opening that failed

pub counts_stop : (before now : ℕ) (it : OpenFault) → CountsOpen before now it → StopCounts before now it
counts_stop before now fault.DiskFault counts = record { later = counts.0; failed = λ is. counts.1 }
counts_stop before now fault.OutOfMemory counts = record { later = omega (arith, counts); failed = λ is. absurd (cc is) }
counts_stop before now (fault.BadStore area at) counts = record { later = omega (arith, counts); failed = λ is. absurd (cc is) }

pub leaves_bad : {R : Type 0} → (rules : RuleSet) (seen : Areas) (may_leave : R → Areas → Type 0) (rig : R) (it : OpenFault) → StaysAsRead rules seen may_leave rig it →
    LeavesBad rules seen (may_leave rig) it
leaves_bad rules seen may_leave rig fault.DiskFault stays = tt
leaves_bad rules seen may_leave rig fault.OutOfMemory stays = tt
leaves_bad rules seen may_leave rig (fault.BadStore area at) stays = stays

pub bad_is : (rules : RuleSet) (seen : Areas) (images : Areas → Type 0) (it : OpenFault) (area : Area) (at : ℕ) → it ≡ fault.BadStore area at → IsBadAt rules seen it →
    ((history : List Entry) (e : Payloads) → StandBut rules history e seen → IsNotBad it) → LeavesBad rules seen images it → IsBad rules seen images area at
bad_is rules seen images it area at is bad never leaves = record {
  place = subst (IsBadAt rules seen) is bad;
  stands_not = subst (λ (f : OpenFault). (history : List Entry) (e : Payloads) → StandBut rules history e seen → IsNotBad f) is never;
  stays = subst (LeavesBad rules seen images) is leaves;
}

pub unopened_text : (rules : RuleSet) (moment : ℕ) (seen : Areas) (old : Areas → Type 0) (start now : ℕ) (images : Areas → Type 0) (before after : List ℕ) (runs : World → Status → Type 0) (it : OpenFault)
    (write_rose : Type 0) (status : Status) → StopCounts start now it → StillStands rules seen old images → IsBadAt rules seen it →
    ((history : List Entry) (e : Payloads) → StandBut rules history e seen → IsNotBad it) → LeavesBad rules seen images it → UnopenedText it before after status →
    UnopenedCause it 0 write_rose status → OpenedText rules moment seen old start now images before after runs status
unopened_text rules moment seen old start now images before after runs it write_rose Done counts still bad never leaves text cause = absurd text
unopened_text rules moment seen old start now images before after runs it write_rose Usage counts still bad never leaves text cause = absurd text
unopened_text rules moment seen old start now images before after runs it write_rose (BadDocument line) counts still bad never leaves text cause = absurd text
unopened_text rules moment seen old start now images before after runs it write_rose ReadFault counts still bad never leaves text cause = absurd text
unopened_text rules moment seen old start now images before after runs fault.DiskFault write_rose (WriteFault done) counts still bad never leaves text cause =
    inl (cause.0, inl (text, counts.failed refl, still))
unopened_text rules moment seen old start now images before after runs fault.OutOfMemory write_rose (WriteFault done) counts still bad never leaves text cause = absurd (cause.2 refl)
unopened_text rules moment seen old start now images before after runs (fault.BadStore area at) write_rose (WriteFault done) counts still bad never leaves text cause =
    inl (cause.0, inr (area, (at, (bad_is rules seen images (fault.BadStore area at) area at refl bad never leaves, text))))
unopened_text rules moment seen old start now images before after runs it write_rose (OutOfMemory done) counts still bad never leaves text cause = inl (cause, text, still)
unopened_text rules moment seen old start now images before after runs it write_rose (Down len) counts still bad never leaves text cause =
    inl (cause.1, counts.failed cause.0, text, still)
unopened_text rules moment seen old start now images before after runs it write_rose (BadStore area at) counts still bad never leaves text cause =
    (bad_is rules seen images it area at cause bad never leaves, text)

no_order_made : (it : OpenFault) (all : ℕ) (write_rose : Type 0) (status : Status) → UnopenedCause it 0 write_rose status → IsMade status 0 all
no_order_made it all write_rose Done cause = absurd cause
no_order_made it all write_rose Usage cause = tt
no_order_made it all write_rose (BadDocument line) cause = tt
no_order_made it all write_rose ReadFault cause = tt
no_order_made it all write_rose (WriteFault done) cause = inl (sym cause.0)
no_order_made it all write_rose (OutOfMemory done) cause = inl (sym cause)
no_order_made it all write_rose (Down len) cause = tt
no_order_made it all write_rose (BadStore area at) cause = tt

pub no_orders : (commands : List Command) (a c : Order) (l o : ℕ) (it : OpenFault) (write_rose : Type 0) (status : Status) → c ≡ a → o ≡ l → UnopenedCause it 0 write_rose status →
    OrdersMade commands a l c o status
no_orders commands a c l o it write_rose status same count cause = record {
  n = 0;
  gives = subst (λ (x : Order). GivesAll [] a l x o) (sym same) (subst (λ (k : ℕ). GivesAll [] a l a k) (sym count) (orders_none a l));
  made = no_order_made it (length commands) write_rose status cause;
}
