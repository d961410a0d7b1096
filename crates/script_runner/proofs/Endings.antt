-- The last settling, said of the world.
use Rattle.std.proofs.Common.{◌≡◌, ℕ, ◌≤◌, false, List, ◌++◌, length, refl, sym, ap, subst, ◌∙◌, inr}
use Rattle.delf_disk.specs.Areas.{Areas}
use Rattle.delf_disk.specs.Causes.{Rose}
use Rattle.delf_model.specs.Legal.{Legal}
use Rattle.delf_model.specs.Payloads.{Payloads}
use Rattle.store_laws.specs.Stores.{Settled}
use Rattle.store_laws.specs.Moves.{RestIn}
use Rattle.delf_book.specs.Books.{Booked, WasDown}
use Rattle.job_report.specs.Texts.{down_text}
use Rattle.script_runner.specs.declared.status.Status.{Status}
use Rattle.script_runner.specs.declared.status.Status.TheVariants.{Done, Usage, BadDocument, ReadFault, WriteFault, OutOfMemory, Down, BadStore}
use Rattle.script_runner.specs.Endings.{Settles, StaysDown, FallsAtEnd, EndText, EndCause, DownText, DownCause}
use Rattle.documents.specs.Cuts.{IsCut}
use Rattle.script_runner.specs.Worlds.{World, StandsOn, world_of}
use Rattle.script_runner.proofs.Standing.{rest_held}

pub settled_end : {G R : Type 0} → (may_leave : R → Areas → Type 0) (faults : R → ℕ) (old : Booked G R) (now rig : R) (clock : ℕ) (e : Payloads) →
    rig ≡ now → old.down ≡ false → faults now ≡ faults old.rig → ((c : Areas) → may_leave now c → Settled old.rules old.history c) →
    RestIn old.rules old.history e (may_leave now) → Settles (world_of old clock e) (faults old.rig) (faults rig) (may_leave rig)
settled_end {G} {R} may_leave faults old now rig clock e same up count settled rests =
    subst (λ (r : R). Settles (world_of old clock e) (faults old.rig) (faults r) (may_leave r)) (sym same)
    (record { up = up; count = count; settled = settled; rests = rests })

pub down_end : {G R : Type 0} → (may_leave : R → Areas → Type 0) (faults : R → ℕ) (old now : Booked G R) (rig : R) (clock len : ℕ) (e : Payloads) →
    rig ≡ now.rig → WasDown old now len → StandsOn (world_of old clock e) (may_leave old.rig) →
    StaysDown (world_of old clock e) (faults old.rig) (faults rig) (may_leave rig)
down_end {G} {R} may_leave faults old now rig clock len e same was stands =
    let is : rig ≡ old.rig = same ∙ ap (λ (b : Booked G R). b.rig) was.2 in
    subst (λ (r : R). StaysDown (world_of old clock e) (faults old.rig) (faults r) (may_leave r)) (sym is)
    (record { down = was.0; count = refl; held = stands.held was.0 })

pub fell_end : {G R : Type 0} → (may_leave : R → Areas → Type 0) (faults : R → ℕ) (old : Booked G R) (now rig : R) (clock : ℕ) (e : Payloads) → rig ≡ now →
    Legal old.rules old.history → old.down ≡ false → faults old.rig ≤ faults now → Rose (faults old.rig) (faults now) → RestIn old.rules old.history e (may_leave now) →
    StandsOn (world_of old clock e) (may_leave old.rig) → FallsAtEnd (world_of old clock e) (faults old.rig) (faults rig) (may_leave rig)
fell_end {G} {R} may_leave faults old now rig clock e same legal up later rose rests stands =
    subst (λ (r : R). FallsAtEnd (world_of old clock e) (faults old.rig) (faults r) (may_leave r)) (sym same)
    (record { up = up; later = later; rose = rose; held = rest_held (world_of old clock e) (may_leave now) legal (stands.alone up) rests })

-- what was put of the line of a disk fault
pub fell_text : (w : World) (len done start now : ℕ) (images : Areas → Type 0) (before after : List ℕ) (write_rose : Type 0) (status : Status) → len ≡ length w.history →
    FallsAtEnd w start now images → DownText len before after status → DownCause len done write_rose status → EndText w done start now images before after status
fell_text w len done start now images before after write_rose Done is falls text cause = absurd text
fell_text w len done start now images before after write_rose Usage is falls text cause = text
fell_text w len done start now images before after write_rose (BadDocument line) is falls text cause = text
fell_text w len done start now images before after write_rose ReadFault is falls text cause = text
fell_text w len done start now images before after write_rose (WriteFault n) is falls text cause =
    (cause.0, falls, subst (λ (l : ℕ). IsCut before after (down_text l)) is text)
fell_text w len done start now images before after write_rose (OutOfMemory n) is falls text cause = (cause, falls.later, falls.held, text)
fell_text w len done start now images before after write_rose (Down n) is falls text cause =
    inr (falls, cause ∙ is, text ∙ ap (λ (l : ℕ). before ++ down_text l) (sym cause))
fell_text w len done start now images before after write_rose (BadStore area at) is falls text cause = text

-- why

-- nothing failed in the settling: it ended so for its own line alone
pub put_ended : (done : ℕ) (write_rose fell : Type 0) (status : Status) → EndCause done write_rose ⊥ status → EndCause done write_rose fell status
put_ended done write_rose fell Done cause = cause
put_ended done write_rose fell Usage cause = cause
put_ended done write_rose fell (BadDocument line) cause = cause
put_ended done write_rose fell ReadFault cause = cause
put_ended done write_rose fell (WriteFault n) cause = cause
put_ended done write_rose fell (OutOfMemory n) cause = cause
put_ended done write_rose fell (Down len) cause = absurd cause
put_ended done write_rose fell (BadStore area at) cause = cause

pub down_ended : (len done : ℕ) (write_rose fell : Type 0) (status : Status) → fell → DownCause len done write_rose status → EndCause done write_rose fell status
down_ended len done write_rose fell Done down cause = absurd cause
down_ended len done write_rose fell Usage down cause = cause
down_ended len done write_rose fell (BadDocument line) down cause = cause
down_ended len done write_rose fell ReadFault down cause = cause
down_ended len done write_rose fell (WriteFault n) down cause = cause
down_ended len done write_rose fell (OutOfMemory n) down cause = cause
down_ended len done write_rose fell (Down n) down cause = down
down_ended len done write_rose fell (BadStore area at) down cause = cause
