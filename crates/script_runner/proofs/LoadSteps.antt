-- The commands of a load, one by one, and how it ends.
use Rattle.std.proofs.Common.{◌≡◌, ◌⊎◌, ℕ, ◌+◌, ◌<◌, ◌≤◌, Bool, false, List, [], ◌++◌, length, get_or, take, refl, sym, ap, subst, ◌∙◌, inl, inr, arith}
use Rattle.delf_disk.specs.declared.area.Area.{Area}
use Rattle.delf_disk.specs.declared.area.Order.{Order}
use Rattle.delf_disk.specs.Areas.{Areas}
use Rattle.delf_disk.specs.Causes.{Rose}
use Rattle.delf_io.specs.Faults.{next_count}
use Rattle.delf_model.specs.declared.schema.Schema.{Schema}
use Rattle.delf_model.specs.declared.script.Command.{Command}
use Rattle.delf_model.specs.declared.script.Command.TheVariants.{Submit, Work, Tick, Get, Show, Job, Jobs, Report, Fail, Crash, Par}
use Rattle.delf_model.specs.Legal.{Legal}
use Rattle.delf_model.specs.Payloads.{Payloads}
use Rattle.delf_model.specs.Sound.{Sound}
use Rattle.store_laws.specs.Moves.{RestIn}
use Rattle.store_laws.specs.Stores.{Settled}
use Rattle.delf_book.specs.Books.{Booked, OnlyRig, WasDown, state_in}
use Rattle.delf_recovery.specs.declared.fault.OpenFault.{OpenFault}
use Rattle.delf_recovery.specs.declared.fault.OpenFault.TheVariants as fault
use Rattle.job_report.specs.Texts.{down_text}
use Rattle.documents.specs.declared.document.Document.{Document}
use Rattle.script_runner.specs.declared.status.Status.{Status}
use Rattle.script_runner.specs.declared.status.Status.TheVariants.{Done, Usage, BadDocument, ReadFault, WriteFault, OutOfMemory, Down, BadStore}
use Rattle.script_runner.specs.Endings.{Settles, DownText, DownCause, EndCause, UnopenedCause}
use Rattle.script_runner.specs.LoadEnds.{StopsDown, LoadEndText, PutsLine, LoadRan, LoadScriptText}
use Rattle.documents.specs.Loads.{IsLoad, IsStill}
use Rattle.script_runner.specs.LoadEnds.{loaded_line}
use Rattle.script_runner.specs.Openings.{StopCounts}
use Rattle.script_runner.specs.Orders.{Gives}
use Rattle.documents.specs.Cuts.{IsCut}
use Rattle.script_runner.specs.Outcomes.{LoadCause, LoadedText, AsksOnce, Untouched}
use Rattle.script_runner.specs.Standing.{Falls, Carried, IsOpen, Leads}
use Rattle.script_runner.specs.Worlds.{World, StandsOn, IsHeld, state_of, world_of}
use Rattle.script_runner.proofs.Causes.{rose_from, rose_to}
use Rattle.script_runner.proofs.Endings.{settled_end, down_end, fell_end}
use Rattle.script_runner.proofs.Ends.{none_reached, more_reached}
use Rattle.documents.proofs.Places.{take_past}
use Rattle.script_runner.proofs.Standing.{rest_held}
use Rattle.script_runner.proofs.Texts.{ran_of}

-- a still command

pub still_open : (command : Command) → IsStill command → IsOpen command
still_open (Submit asked) still = tt
still_open (Work n) still = tt
still_open (Tick n) still = tt
still_open (Get id) still = tt
still_open Show still = tt
still_open (Job name) still = tt
still_open Jobs still = tt
still_open Report still = tt
still_open (Fail n) still = tt
still_open (Crash pick) still = still
still_open (Par quiet workers turns lanes) still = tt

pub open_unless : (command : Command) → ((pick : ℕ) → command ≡ Crash pick → ⊥) → IsOpen command
open_unless (Submit asked) never = tt
open_unless (Work n) never = tt
open_unless (Tick n) never = tt
open_unless (Get id) never = tt
open_unless Show never = tt
open_unless (Job name) never = tt
open_unless Jobs never = tt
open_unless Report never = tt
open_unless (Fail n) never = tt
open_unless (Crash pick) never = never pick refl
open_unless (Par quiet workers turns lanes) never = tt

pub still_orders : (command : Command) (a b : Order) (l m : ℕ) → IsStill command → Gives command a l b m → (b ≡ a) × (m ≡ l)
still_orders (Submit asked) a b l m still gives = gives
still_orders (Work n) a b l m still gives = gives
still_orders (Tick n) a b l m still gives = gives
still_orders (Get id) a b l m still gives = gives
still_orders Show a b l m still gives = gives
still_orders (Job name) a b l m still gives = gives
still_orders Jobs a b l m still gives = gives
still_orders Report a b l m still gives = gives
still_orders (Fail n) a b l m still gives = absurd still
still_orders (Crash pick) a b l m still gives = absurd still
still_orders (Par quiet workers turns lanes) a b l m still gives = gives

-- none yet, one more, and all

pub leads_none : {G R : Type 0} → (may_leave : R → Areas → Type 0) (faults : R → ℕ) (schema : Schema) (book : Booked G R) (clock : ℕ) (e : Payloads) →
    StandsOn (world_of book clock e) (may_leave book.rig) → Leads may_leave faults schema (world_of book clock e) [] (faults book.rig) book clock
leads_none may_leave faults schema book clock e stands = ([], none_reached may_leave faults schema book clock e stands)

pub leads_more : {G R : Type 0} → (may_leave : R → Areas → Type 0) (faults : R → ℕ) (schema : Schema) (first : World) (commands : List Command) (start i : ℕ)
    (command : Command) (old now : Booked G R) (clock next : ℕ) (line : List ℕ) → i < length commands → command ≡ get_or commands i command →
    (leads : Leads may_leave faults schema first (take i commands) start old clock) →
    Carried may_leave faults schema command (world_of old clock leads.1.payloads) (faults old.rig) now next line →
    Leads may_leave faults schema first (take (i + 1) commands) start now next
leads_more may_leave faults schema first commands start i command old now clock next line below is leads carried =
    (leads.0 ++ line, more_reached may_leave faults schema first commands start i command old now clock next leads.0 line below is leads.1 carried)

pub leads_all : {G R : Type 0} → (may_leave : R → Areas → Type 0) (faults : R → ℕ) (schema : Schema) (first : World) (commands : List Command) (start i : ℕ)
    (book : Booked G R) (clock : ℕ) → length commands ≤ i → Leads may_leave faults schema first (take i commands) start book clock →
    Leads may_leave faults schema first commands start book clock
leads_all may_leave faults schema first commands start i book clock past leads =
    subst (λ (cs : List Command). Leads may_leave faults schema first cs start book clock) (take_past commands i past) leads

-- a book that fell, over two commands

pub falls_none : {G R : Type 0} → (faults : R → ℕ) (book : Booked G R) → Falls faults book book
falls_none faults book = record { later = omega arith; fell = λ down. inl down; held = refl }

pub falls_then : {G R : Type 0} → (faults : R → ℕ) (a b c : Booked G R) → Falls faults a b → Falls faults b c → Falls faults a c
falls_then faults a b c first second = record {
  later = omega (arith, first.later, second.later);
  fell = λ down. elim (second.fell down) [
    | inl was ↦ elim (first.fell was) [
      | inl before ↦ inl before
      | inr rose ↦ inr (rose_to (faults a.rig) (faults b.rig) (faults c.rig) rose second.later)
    ]
    | inr rose ↦ inr (rose_from (faults a.rig) (faults b.rig) (faults c.rig) first.later rose)
  ];
  held = second.held ∙ first.held;
}

-- the end

pub put_end : (n : ℕ) (w : World) (start now : ℕ) (images : Areas → Type 0) (before after : List ℕ) (status : Status) → Settles w start now images → IsHeld w images →
    PutsLine (loaded_line n (state_of w)) before after status → LoadEndText n w start now images before after status
put_end n w start now images before after Done settles held puts = (settles, puts)
put_end n w start now images before after Usage settles held puts = puts
put_end n w start now images before after (BadDocument line) settles held puts = puts
put_end n w start now images before after ReadFault settles held puts = puts
put_end n w start now images before after (WriteFault done) settles held puts = (puts.0, inl (settles, puts.1))
put_end n w start now images before after (OutOfMemory done) settles held puts = (puts.0, omega (arith, settles.count), held, puts.1)
put_end n w start now images before after (Down len) settles held puts = absurd puts
put_end n w start now images before after (BadStore area at) settles held puts = puts

stopped_later : (w : World) (start now : ℕ) (images : Areas → Type 0) → StopsDown w start now images → start ≤ now
stopped_later w start now images stops = elim stops [ inl stays ↦ omega (arith, stays.count) | inr falls ↦ falls.later ]

pub down_text_end : (n : ℕ) (w : World) (len start now : ℕ) (images : Areas → Type 0) (before after : List ℕ) (write_rose : Type 0) (status : Status) → len ≡ length w.history →
    StopsDown w start now images → IsHeld w images → DownText len before after status → DownCause len 0 write_rose status → LoadEndText n w start now images before after status
down_text_end n w len start now images before after write_rose Done is stops held text cause = absurd text
down_text_end n w len start now images before after write_rose Usage is stops held text cause = text
down_text_end n w len start now images before after write_rose (BadDocument line) is stops held text cause = text
down_text_end n w len start now images before after write_rose ReadFault is stops held text cause = text
down_text_end n w len start now images before after write_rose (WriteFault done) is stops held text cause =
    (cause.0, inr (stops, subst (λ (l : ℕ). IsCut before after (down_text l)) is text))
down_text_end n w len start now images before after write_rose (OutOfMemory done) is stops held text cause = (cause, stopped_later w start now images stops, held, text)
down_text_end n w len start now images before after write_rose (Down l) is stops held text cause =
    (stops, cause ∙ is, text ∙ ap (λ (k : ℕ). before ++ down_text k) (sym cause))
down_text_end n w len start now images before after write_rose (BadStore area at) is stops held text cause = text

-- the settling was answered Ok, and the line was to be put
pub loaded_end : {G R : Type 0} → (may_leave : R → Areas → Type 0) (faults : R → ℕ) (n : ℕ) (old now : Booked G R) (rig : R) (clock : ℕ) (e : Payloads) (before after : List ℕ)
    (status : Status) → rig ≡ now.rig → OnlyRig old now → Legal old.rules old.history → old.down ≡ false → faults now.rig ≡ faults old.rig →
    ((c : Areas) → may_leave now.rig c → Settled old.rules old.history c) → RestIn old.rules old.history e (may_leave now.rig) →
    StandsOn (world_of old clock e) (may_leave old.rig) → PutsLine (loaded_line n (state_in now)) before after status →
    LoadEndText n (world_of old clock e) (faults old.rig) (faults rig) (may_leave rig) before after status
loaded_end {G} {R} may_leave faults n old now rig clock e before after status same only legal up count settled rests stands puts =
    put_end n (world_of old clock e) (faults old.rig) (faults rig) (may_leave rig) before after status
    (settled_end may_leave faults old now.rig rig clock e same up count settled rests)
    (subst (λ (r : R). IsHeld (world_of old clock e) (may_leave r)) (sym same) (rest_held (world_of old clock e) (may_leave now.rig) legal (stands.alone up) rests))
    (subst (λ (b : Booked G R). PutsLine (loaded_line n (state_in b)) before after status) only puts)

-- it was down before
pub was_down_end : {G R : Type 0} → (may_leave : R → Areas → Type 0) (faults : R → ℕ) (n : ℕ) (old now : Booked G R) (rig : R) (clock len : ℕ) (e : Payloads) (before after : List ℕ)
    (write_rose : Type 0) (status : Status) → rig ≡ now.rig → WasDown old now len → StandsOn (world_of old clock e) (may_leave old.rig) →
    DownText len before after status → DownCause len 0 write_rose status →
    LoadEndText n (world_of old clock e) (faults old.rig) (faults rig) (may_leave rig) before after status
was_down_end may_leave faults n old now rig clock len e before after write_rose status same was stands text cause =
    let stays = down_end may_leave faults old now rig clock len e same was stands in
    down_text_end n (world_of old clock e) len (faults old.rig) (faults rig) (may_leave rig) before after write_rose status was.1 (inl stays) stays.held text cause

-- the settling met a disk fault
pub fell_load : {G R : Type 0} → (may_leave : R → Areas → Type 0) (faults : R → ℕ) (n : ℕ) (old : Booked G R) (now rig : R) (clock len : ℕ) (e : Payloads) (before after : List ℕ)
    (write_rose : Type 0) (status : Status) → rig ≡ now → Legal old.rules old.history → old.down ≡ false → faults old.rig ≤ faults now → Rose (faults old.rig) (faults now) → len ≡ length old.history →
    RestIn old.rules old.history e (may_leave now) → StandsOn (world_of old clock e) (may_leave old.rig) → DownText len before after status →
    DownCause len 0 write_rose status → LoadEndText n (world_of old clock e) (faults old.rig) (faults rig) (may_leave rig) before after status
fell_load may_leave faults n old now rig clock len e before after write_rose status same legal up later rose len_is rests stands text cause =
    let falls = fell_end may_leave faults old now rig clock e same legal up later rose rests stands in
    down_text_end n (world_of old clock e) len (faults old.rig) (faults rig) (may_leave rig) before after write_rose status len_is (inr falls) falls.held text cause

pub load_ended : {G R : Type 0} → (may_leave : R → Areas → Type 0) (faults : R → ℕ) (n : ℕ) (schema : Schema) (first : World) (commands : List Command) (start : ℕ)
    (book : Booked G R) (clock : ℕ) (rig : R) (before after : List ℕ) (status : Status) → Legal book.rules book.history → Sound book.rules book.history →
    (leads : Leads may_leave faults schema first commands start book clock) →
    LoadEndText n (world_of book clock leads.1.payloads) (faults book.rig) (faults rig) (may_leave rig) before after status →
    LoadRan n schema first commands start (faults rig) (may_leave rig) before after status
load_ended may_leave faults n schema first commands start book clock rig before after status legal sound leads end = record {
  ran = ran_of may_leave faults schema first commands start book clock leads.0 leads.1;
  history = record { legal = legal; sound = sound };
  end = end;
}

pub load_script : (n : ℕ) (schema : Schema) (first : World) (commands : List Command) (start now : ℕ) (images : Areas → Type 0) (before after : List ℕ) (status : Status) →
    LoadRan n schema first commands start now images before after status → LoadScriptText n schema first commands start now images before after status
load_script n schema first commands start now images before after Done ran = ran
load_script n schema first commands start now images before after Usage ran = ran
load_script n schema first commands start now images before after (BadDocument line) ran = ran
load_script n schema first commands start now images before after ReadFault ran = ran
load_script n schema first commands start now images before after (WriteFault done) ran = ran
load_script n schema first commands start now images before after (OutOfMemory done) ran = inr ran
load_script n schema first commands start now images before after (Down len) ran = ran
load_script n schema first commands start now images before after (BadStore area at) ran = ran

-- why

pub load_end_cause : (start before now : ℕ) (down write_rose : Type 0) (never : Area → ℕ → Type 0) (status : Status) → start ≤ before → before ≤ now → (down → Rose start before) →
    EndCause 0 write_rose (down ⊎ Rose before now) status → LoadCause write_rose (Rose start now) never status
load_end_cause start before now down write_rose never Done less more fell cause = tt
load_end_cause start before now down write_rose never Usage less more fell cause = cause
load_end_cause start before now down write_rose never (BadDocument line) less more fell cause = cause
load_end_cause start before now down write_rose never ReadFault less more fell cause = cause
load_end_cause start before now down write_rose never (WriteFault m) less more fell cause = cause
load_end_cause start before now down write_rose never (OutOfMemory m) less more fell cause = cause
load_end_cause start before now down write_rose never (Down len) less more fell cause = elim cause [
  | inl is ↦ rose_to start before now (fell is) more
  | inr rose ↦ rose_from start before now less rose
]
load_end_cause start before now down write_rose never (BadStore area at) less more fell cause = absurd cause

pub load_cause_by : (write_rose rose rose' : Type 0) (bad bad' : Area → ℕ → Type 0) (status : Status) → (rose → rose') → ((area : Area) (at : ℕ) → bad area at → bad' area at) →
    LoadCause write_rose rose bad status → LoadCause write_rose rose' bad' status
load_cause_by write_rose rose rose' bad bad' Done f h cause = tt
load_cause_by write_rose rose rose' bad bad' Usage f h cause = cause
load_cause_by write_rose rose rose' bad bad' (BadDocument line) f h cause = cause
load_cause_by write_rose rose rose' bad bad' ReadFault f h cause = cause
load_cause_by write_rose rose rose' bad bad' (WriteFault done) f h cause = cause
load_cause_by write_rose rose rose' bad bad' (OutOfMemory done) f h cause = cause
load_cause_by write_rose rose rose' bad bad' (Down len) f h cause = f cause
load_cause_by write_rose rose rose' bad bad' (BadStore area at) f h cause = h area at cause

pub load_unopened : (it : OpenFault) (start before now : ℕ) (write_rose : Type 0) (never : Area → ℕ → Type 0) (status : Status) → start ≤ before → StopCounts before now it →
    ((area : Area) (at : ℕ) → it ≡ fault.BadStore area at → never area at) → UnopenedCause it 0 write_rose status → LoadCause write_rose (Rose start now) never status
load_unopened it start before now write_rose never Done less counts bad cause = tt
load_unopened it start before now write_rose never Usage less counts bad cause = cause
load_unopened it start before now write_rose never (BadDocument line) less counts bad cause = cause
load_unopened it start before now write_rose never ReadFault less counts bad cause = cause
load_unopened it start before now write_rose never (WriteFault m) less counts bad cause = (cause.0, cause.1)
load_unopened it start before now write_rose never (OutOfMemory m) less counts bad cause = cause
load_unopened it start before now write_rose never (Down len) less counts bad cause = rose_from start before now less (counts.failed cause.0)
load_unopened it start before now write_rose never (BadStore area at) less counts bad cause = bad area at cause

-- the document that a load makes

pub load_of_text : (blocks : Bool) (n : ℕ) (same : Type 0) (runs : Document → Status → Type 0) (before after : List ℕ) (status : Status) (document : Document) → IsLoad blocks n document → runs document status →
    LoadedText blocks n same runs before after status
load_of_text blocks n same runs before after Done document load holds = record { document = document; load = load; holds = holds }
load_of_text blocks n same runs before after Usage document load holds = record { document = document; load = load; holds = holds }
load_of_text blocks n same runs before after (BadDocument line) document load holds = record { document = document; load = load; holds = holds }
load_of_text blocks n same runs before after ReadFault document load holds = record { document = document; load = load; holds = holds }
load_of_text blocks n same runs before after (WriteFault done) document load holds = record { document = document; load = load; holds = holds }
load_of_text blocks n same runs before after (OutOfMemory done) document load holds = inr (record { document = document; load = load; holds = holds })
load_of_text blocks n same runs before after (Down len) document load holds = record { document = document; load = load; holds = holds }
load_of_text blocks n same runs before after (BadStore area at) document load holds = record { document = document; load = load; holds = holds }

-- the clock was asked once
pub asked_once : (status : Status) (before now : ℕ) (write_rose rig_rose : Type 0) (bad : Area → ℕ → Type 0) → now ≡ next_count before → LoadCause write_rose rig_rose bad status →
    AsksOnce status before now
asked_once Done before now write_rose rig_rose bad once cause = once
asked_once Usage before now write_rose rig_rose bad once cause = absurd cause
asked_once (BadDocument line) before now write_rose rig_rose bad once cause = absurd cause
asked_once ReadFault before now write_rose rig_rose bad once cause = absurd cause
asked_once (WriteFault done) before now write_rose rig_rose bad once cause = inr once
asked_once (OutOfMemory done) before now write_rose rig_rose bad once cause = inr once
asked_once (Down len) before now write_rose rig_rose bad once cause = once
asked_once (BadStore area at) before now write_rose rig_rose bad once cause = once

-- a load never ends as one that ran nothing
pub load_untouched : (status : Status) (same write_rose rig_rose : Type 0) (bad : Area → ℕ → Type 0) → LoadCause write_rose rig_rose bad status → Untouched same status
load_untouched Done same write_rose rig_rose bad cause = tt
load_untouched Usage same write_rose rig_rose bad cause = absurd cause
load_untouched (BadDocument line) same write_rose rig_rose bad cause = absurd cause
load_untouched ReadFault same write_rose rig_rose bad cause = absurd cause
load_untouched (WriteFault done) same write_rose rig_rose bad cause = tt
load_untouched (OutOfMemory done) same write_rose rig_rose bad cause = tt
load_untouched (Down len) same write_rose rig_rose bad cause = tt
load_untouched (BadStore area at) same write_rose rig_rose bad cause = tt
