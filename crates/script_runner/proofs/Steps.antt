-- Steps that are made one by one, said of the world.
use Rattle.std.proofs.Common.{◌≡◌, ℕ, ◌+◌, ◌<◌, ◌≤◌, true, false, Some, None, List, [], refl, sym, ap, subst, ◌∙◌, inl, inr, arith, add-one}
use Rattle.std.specs.Prelude.{Ok, Err}
use Rattle.delf_disk.specs.Areas.{Areas}
use Rattle.delf_disk.specs.Causes.{Rose}
use Rattle.delf_model.specs.declared.entry.Entry.{Entry}
use Rattle.delf_model.specs.declared.entry.What.{What}
use Rattle.delf_model.specs.declared.script.Command.TheVariants.{Work}
use Rattle.delf_model.specs.State.{position_of}
use Rattle.delf_model.specs.Legal.{Legal}
use Rattle.delf_model.specs.Room.{moment_of}
use Rattle.delf_model.specs.Payloads.{Payloads, payload_at, payloads_after}
use Rattle.store_laws.specs.Stores.{digest}
use Rattle.store_laws.specs.Moves.{RestIn}
use Rattle.delf_book.specs.Parts.{Interrupted}
use Rattle.delf_book.specs.declared.answers.Worked.TheVariants as worked
use Rattle.delf_book.specs.declared.answers.StepFault.TheVariants as fault
use Rattle.delf_book.specs.Books.{Booked, state_in}
use Rattle.delf_book.specs.Steps.{Steps, Idles, InterruptsStep, MeetsDamage, StepIsSafe, StepPayloads, PutsSealed, step_entry}
use Rattle.delf_model.specs.declared.schema.Schema.{Schema}
use Rattle.job_report.specs.declared.work.WorkEnd.{WorkEnd}
use Rattle.job_report.specs.declared.work.WorkEnd.TheVariants as work_end
use Rattle.job_report.specs.Texts.{work_text}
use Rattle.script_runner.specs.Serial.{next_step, MakesSteps, StepsTo, PutsDamaged}
use Rattle.script_runner.specs.Serial as serial
use Rattle.script_runner.specs.Standing.{Carried, StepsCarried, HaltedAt}
use Rattle.script_runner.specs.Worlds.{World, StandsOn, IsHeld, world_of, state_of, now_of, with_entry, interrupted}
use Rattle.script_runner.proofs.Standing.{stands_held, up_stands, fell_world, fell_stands}
use Rattle.script_runner.proofs.Calls.{grew_world, grew_stands}
use Rattle.delf_book.proofs.RowRecords.{read_rests}
use Rattle.delf_book.proofs.Owned.{OnDisk, leaves_entry_as, longer_as, sealed_as, damage_as}

-- The steps so far, from a first world on: a book that is up, whose world they lead to, and which rests on its disk.
pub record SoFar {G R : Type 0} (may_leave : R → Areas → Type 0) (first : World) (made : ℕ) (book : Booked G R) (clock : ℕ) : Type 0 where
  pub payloads : Payloads
  pub begun : first.down ≡ false
  pub steps : MakesSteps made first (world_of book clock payloads)
  pub alone : book.beside ≡ None
  pub rests : RestIn book.rules book.history payloads (may_leave book.rig)

pub none_so_far : {G R : Type 0} → (may_leave : R → Areas → Type 0) (book : Booked G R) (clock : ℕ) (e : Payloads) → book.down ≡ false →
    StandsOn (world_of book clock e) (may_leave book.rig) → SoFar may_leave (world_of book clock e) 0 book clock
unfolding MakesSteps
none_so_far may_leave book clock e up stands = record { payloads = e; begun = up; steps = refl; alone = stands.alone up; rests = stands.rests up }

one_more : (first here next : World) (made : ℕ) → MakesSteps made first here → StepsTo here next → MakesSteps (made + 1) first next
unfolding MakesSteps
one_more first here next made so_far step = subst (λ (n : ℕ). MakesSteps n first next) (sym (add-one made)) (here, (so_far, step))

-- what is sealed is not damaged
whole : (w : World) (what : What) → PutsSealed (state_of w) what w.payloads → (item : ℕ) → PutsDamaged w what item → ⊥
whole w what sealed item damaged = damaged.differs (sealed item damaged.logged damaged.puts)

-- one step more was made
pub stepped : {G R : Type 0} → (seen : R → Areas) (at : R → ℕ) (may_leave : R → Areas → Type 0) (left_since : R → ℕ → Areas → Type 0) (first : World) (made : ℕ)
    (old now : Booked G R) (clock position : ℕ) → OnDisk seen may_leave old → Steps old now (moment_of (state_in old) clock) position →
    StepIsSafe at may_leave left_since old now (moment_of (state_in old) clock) (Ok (worked.Stepped position)) →
    StepPayloads old now (moment_of (state_in old) clock) (Ok (worked.Stepped position)) → SoFar may_leave first made old clock →
    SoFar may_leave first (made + 1) now clock
stepped seen at may_leave left_since first made old now clock position on s safe given so_far =
    let e : Payloads = so_far.payloads in
    let here : World = world_of old clock e in
    let entry : Entry = step_entry (now_of here) s.what in
    let next : Payloads = payloads_after digest (state_of here) entry [] e in
    let is : world_of now clock next ≡ with_entry here s.what [] = grew_world old now clock e next entry s.grew so_far.alone in
    let stands = grew_stands old now clock next entry (may_leave now.rig) s.grew so_far.alone
    (longer_as seen at may_leave left_since old now e on s.up so_far.rests entry [] (safe s.what s.is_first).1) in
    record {
      payloads = next;
      begun = so_far.begun;
      steps = one_more first here (world_of now clock next) made so_far.steps (record {
        what = s.what;
        is_first = s.is_first;
        whole = whole here s.what (sealed_as seen at may_leave left_since old now e on s.up so_far.rests s.what (given s.what s.is_first).1);
        is_next = is;
      });
      alone = s.grew.beside ∙ so_far.alone;
      rests = stands.rests s.grew.up;
    }

-- why no more were made

same_made : (made n : ℕ) (w here : World) → made ≡ n → MakesSteps made w here → MakesSteps n w here
same_made made n w here is steps = subst (λ (k : ℕ). MakesSteps k w here) is steps

pub all_made : {G R : Type 0} → (may_leave : R → Areas → Type 0) (faults : R → ℕ) (n made : ℕ) (first : World) (before : ℕ) (book : Booked G R) (clock : ℕ) → book.down ≡ false →
    made ≡ n → faults book.rig ≡ before → SoFar may_leave first made book clock → StepsCarried may_leave faults n first before book clock n work_end.All
all_made may_leave faults n made first before book clock up all count so_far = record {
  payloads = so_far.payloads;
  ends = serial.StepsEnd.MakesAll refl count (same_made made n first (world_of book clock so_far.payloads) all so_far.steps) refl;
  stands = up_stands (world_of book clock so_far.payloads) (may_leave book.rig) up so_far.alone so_far.rests;
}

pub idled : {G R : Type 0} → (may_leave : R → Areas → Type 0) (faults : R → ℕ) (n made : ℕ) (first : World) (before : ℕ) (old now : Booked G R) (clock len : ℕ) → made < n →
    faults now.rig ≡ before → Idles old now (moment_of (state_in old) clock) len → SoFar may_leave first made old clock →
    StepsCarried may_leave faults n first before now clock made work_end.Idle
idled {G} {R} may_leave faults n made first before old now clock len below count idles so_far =
    let P : Booked G R → Type 0 = λ b. faults b.rig ≡ before → StepsCarried may_leave faults n first before b clock made work_end.Idle in
    subst P (sym idles.same) (λ same. record {
      payloads = so_far.payloads;
      ends = serial.StepsEnd.Idles below same so_far.steps idles.none refl;
      stands = up_stands (world_of old clock so_far.payloads) (may_leave old.rig) idles.up so_far.alone so_far.rests;
    }) count

pub fell : {G R : Type 0} → (seen : R → Areas) (at : R → ℕ) (may_leave : R → Areas → Type 0) (left_since : R → ℕ → Areas → Type 0) (faults : R → ℕ) (n made : ℕ) (first : World) (before : ℕ)
    (old now : Booked G R) (clock len : ℕ) → OnDisk seen may_leave old → made < n → Rose before (faults now.rig) → InterruptsStep old now (moment_of (state_in old) clock) len →
    StepIsSafe at may_leave left_since old now (moment_of (state_in old) clock) (Err (fault.DiskFault len)) → SoFar may_leave first made old clock →
    StepsCarried may_leave faults n first before now clock made (work_end.Down len)
fell seen at may_leave left_since faults n made first before old now clock len on below rose i safe so_far =
    let e : Payloads = so_far.payloads in
    let here : World = world_of old clock e in
    let beside : Interrupted = interrupted here i.what [] in
    record {
      payloads = e;
      ends = serial.StepsEnd.Falls here i.what below rose so_far.steps i.is_first (ap (λ (l : ℕ). work_end.Down l) i.length_is)
          (fell_world old now clock e (Some beside) i.fell);
      stands = fell_stands old now clock e (Some beside) (may_leave now.rig) i.fell
          (λ c image. (leaves_entry_as seen at may_leave left_since old now e on i.up so_far.rests beside.entry [] (safe i.what i.is_first)).now c image);
    }

pub met_damage : {G R : Type 0} → (seen : R → Areas) (at : R → ℕ) (may_leave : R → Areas → Type 0) (left_since : R → ℕ → Areas → Type 0) (faults : R → ℕ) (n made : ℕ) (first : World) (before : ℕ)
    (old now : Booked G R) (clock item : ℕ) (stored found : List ℕ) → OnDisk seen may_leave old → made < n → faults now.rig ≡ before →
    MeetsDamage old now (moment_of (state_in old) clock) item stored found →
    StepIsSafe at may_leave left_since old now (moment_of (state_in old) clock) (Err (fault.Damaged item stored found)) →
    StepPayloads old now (moment_of (state_in old) clock) (Err (fault.Damaged item stored found)) → SoFar may_leave first made old clock →
    StepsCarried may_leave faults n first before now clock made (work_end.Damaged item)
met_damage {G} {R} seen at may_leave left_since faults n made first before old now clock item stored found on below count m safe given so_far =
    let e : Payloads = so_far.payloads in
    let tells = damage_as seen at may_leave left_since old now e on m.up so_far.rests item stored found given in
    let same : world_of now clock e ≡ world_of old clock e = ap (λ (b : Booked G R). world_of b clock e) m.rest in
    let damaged : PutsDamaged (world_of old clock e) m.what item = record {
      logged = m.logged;
      puts = m.puts;
      differs = λ is. let both : Some stored ≡ Some (digest (payload_at e (position_of m.logged.item))) = sym tells.sealed ∙ is in
          m.differ (cc (both, tells.reads m.logged m.puts.there));
    } in
    record {
      payloads = e;
      ends = subst (λ (w : World). serial.StepsEnd n first before (faults now.rig) made (work_end.Damaged item) w) (sym same)
          (serial.StepsEnd.MeetsDamage item m.what below count so_far.steps m.is_first damaged refl);
      stands = subst (λ (w : World). StandsOn w (may_leave now.rig)) (sym same)
          (up_stands (world_of old clock e) (may_leave now.rig) m.up so_far.alone (read_rests old.rules old.history e so_far.rests safe));
    }

-- memory was wanting
pub starved : {G R : Type 0} → (may_leave : R → Areas → Type 0) (n made : ℕ) (first : World) (old : Booked G R) (rig : R) (clock : ℕ) → old.down ≡ false → made ≤ n →
    Legal old.rules old.history → rig ≡ old.rig → SoFar may_leave first made old clock → HaltedAt (Work n) first (may_leave rig)
starved {G} {R} may_leave n made first old rig clock up below legal same so_far =
    let here : World = world_of old clock so_far.payloads in
    record {
      next = here;
      halts = inr (so_far.begun, (made, (here, (below, so_far.steps, inl refl))));
      held = subst (λ (r : R). IsHeld here (may_leave r)) (sym same)
          (stands_held here (may_leave old.rig) legal (up_stands here (may_leave old.rig) up so_far.alone so_far.rests));
    }

-- a work and its line

pub work_carried : {G R : Type 0} → (may_leave : R → Areas → Type 0) (faults : R → ℕ) (schema : Schema) (n : ℕ) (w : World) (before : ℕ) (now : Booked G R) (clock made : ℕ)
    (end : WorkEnd) (text : List ℕ) → w.down ≡ false → StepsCarried may_leave faults n w before now clock made end → text ≡ work_text made end →
    Carried may_leave faults schema (Work n) w before now clock text
work_carried may_leave faults schema n w before now clock made end text up carried said = record {
  payloads = carried.payloads;
  serves = serial.Works.Makes made end up carried.ends said;
  stands = carried.stands;
}

ends_halts : (n : ℕ) (w : World) (before now made : ℕ) (end : WorkEnd) (next : World) → w.down ≡ false → made ≤ n → serial.StepsEnd n w before now made end next → serial.HaltsWork n w next
ends_halts n w before now made end next up within (serial.StepsEnd.MakesAll all count steps is) = (up, (made, (next, (within, steps, inl refl))))
ends_halts n w before now made end next up within (serial.StepsEnd.Idles below count steps none is) = (up, (made, (next, (within, steps, inl refl))))
ends_halts n w before now made end next up within (serial.StepsEnd.MeetsDamage item what below count steps first damaged is) = (up, (made, (next, (within, steps, inl refl))))
ends_halts n w before now made end next up within (serial.StepsEnd.Falls here what below rose steps first is fallen_is) =
    (up, (made, (here, (within, steps, inr (what, (first, fallen_is))))))

pub work_halts : {G R : Type 0} → (may_leave : R → Areas → Type 0) (faults : R → ℕ) (n : ℕ) (w : World) (before : ℕ) (now : Booked G R) (clock made : ℕ)
    (end : WorkEnd) → w.down ≡ false → made ≤ n → Legal now.rules now.history → StepsCarried may_leave faults n w before now clock made end → HaltedAt (Work n) w (may_leave now.rig)
work_halts may_leave faults n w before now clock made end up within legal carried = record {
  next = world_of now clock carried.payloads;
  halts = inr (ends_halts n w before (faults now.rig) made end (world_of now clock carried.payloads) up within carried.ends);
  held = stands_held (world_of now clock carried.payloads) (may_leave now.rig) legal carried.stands;
}

pub down_halts : {G R : Type 0} → (may_leave : R → Areas → Type 0) (n : ℕ) (book : Booked G R) (clock : ℕ) (e : Payloads) → Legal book.rules book.history →
    StandsOn (world_of book clock e) (may_leave book.rig) → HaltedAt (Work n) (world_of book clock e) (may_leave book.rig)
down_halts may_leave n book clock e legal stands = record {
  next = world_of book clock e;
  halts = inl refl;
  held = stands_held (world_of book clock e) (may_leave book.rig) legal stands;
}

pub down_work : {G R : Type 0} → (may_leave : R → Areas → Type 0) (faults : R → ℕ) (schema : Schema) (n : ℕ) (book : Booked G R) (clock : ℕ) (e : Payloads) (text : List ℕ) →
    book.down ≡ true → text ≡ serial.refused_down (world_of book clock e) → StandsOn (world_of book clock e) (may_leave book.rig) →
    Carried may_leave faults schema (Work n) (world_of book clock e) (faults book.rig) book clock text
down_work may_leave faults schema n book clock e text down said stands = record {
  payloads = e;
  serves = serial.Works.WasDown down refl said refl;
  stands = stands;
}
