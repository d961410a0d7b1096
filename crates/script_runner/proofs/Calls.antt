-- The answer of a call, said of the world.
use Rattle.std.proofs.Common.{◌≡◌, ℕ, ◌<◌, Bool, true, false, cond, Option, Some, None, List, [], ◌∷◌, ◌++◌, length, refl, sym, ap, subst, ◌∙◌, inl, inr, arith}
use Rattle.std.specs.Prelude.{Result, Ok, Err, IfOk, IfErr, OnOk, OnErr, is_some}
use Rattle.delf_disk.specs.Areas.{Areas}
use Rattle.delf_disk.specs.Causes.{Rose}
use Rattle.delf_model.specs.declared.schema.Schema.{Schema}
use Rattle.delf_model.specs.declared.call.Call.{Call}
use Rattle.delf_model.specs.declared.call.Call.TheVariants as call
use Rattle.delf_model.specs.declared.call.Refusal.{Refusal}
use Rattle.delf_model.specs.declared.call.Refusal.TheVariants.{Down, WrongEnd, OutOfMemory, DiskFault}
use Rattle.delf_model.specs.declared.entry.Entry.{Entry}
use Rattle.delf_model.specs.declared.entry.What.{What}
use Rattle.delf_model.specs.declared.entry.What.TheVariants.{Unlink}
use Rattle.delf_model.specs.declared.script.Command.TheVariants.{Submit}
use Rattle.delf_model.specs.State.{State}
use Rattle.delf_model.specs.Owners.{start_of, unlink_start}
use Rattle.delf_model.specs.Legal.{Legal}
use Rattle.delf_model.specs.Reply.{refused, answered_by, next_tag, reply}
use Rattle.delf_model.specs.Room.{moment_of}
use Rattle.delf_model.specs.Payloads.{Payloads, payloads_after}
use Rattle.store_laws.specs.Stores.{digest}
use Rattle.store_laws.specs.Moves.{RestIn}
use Rattle.delf_book.specs.Parts.{Interrupted}
use Rattle.delf_book.specs.declared.answers.Receipt.{Receipt}
use Rattle.delf_book.specs.Books.{Booked, state_in, Grew, Accepted, Interrupts, Answers, CallIsSafe, CountsRefusal, given_by, started_by, job_if, restored_items}
use Rattle.job_report.specs.Texts.{unlinked_text, refusal_text, down_text}
use Rattle.script_runner.specs.Lines.{receipt_text, refusal_name}
use Rattle.script_runner.specs.Names.{IsNumberedRefusal}
use Rattle.script_runner.specs.Serial.{answer, answer_text, accepted_text, after_answer, started_name, refused_down, Submits}
use Rattle.documents.specs.Names.{edge_name}
use Rattle.script_runner.specs.Serial as serial
use Rattle.script_runner.specs.Standing.{Carried, HaltedAt, Falls}
use Rattle.script_runner.specs.Worlds.{World, StandsOn, IsHeld, world_of, state_of, now_of, entry_now, fallen, interrupted}
use Rattle.script_runner.proofs.Keeping.{refusal_numbered}
use Rattle.delf_book.proofs.Owned.{OnDisk, leaves_entry_as, longer_as}
use Rattle.script_runner.proofs.Standing.{world, same_world, stands_held, up_stands, fell_world, fell_stands}

-- the line of a receipt

made : (w what : What) (o : Option Refusal) → answered_by w o ≡ Ok what → w ≡ what
made w what None is = cc
made w what (Some refusal) is = absurd (cc is)

is_job_if : {A : Type 0} → (p : ℕ) (o : Option A) → is_some (job_if p o) ≡ is_some o
is_job_if p None = refl
is_job_if p (Some root) = refl

started : (s : State) (moment edge from to name : ℕ) (what : What) → reply s moment 0 (call.Unlink edge from to name) ≡ Ok what →
    is_some (started_by s what) ≡ is_some (unlink_start s edge from to name)
started s moment edge from to name what is =
    let w = Unlink (next_tag s 0) edge from to name in
    is_job_if s.len (start_of s what)
    ∙ ap (λ (x : What). is_some (start_of s x)) (sym (made w what (refused s moment w) is))

pub receipt_is : (schema : Schema) (w : World) (asked : Call) (what : What) (receipt : Receipt) → answer w asked ≡ Ok what →
    receipt.position ≡ length w.history → receipt.started ≡ started_by (state_of w) what → receipt.items ≡ restored_items (state_of w) what →
    receipt_text schema asked receipt ≡ accepted_text schema w asked what
receipt_is schema w (call.Create kind id payload) what receipt is position begun items = ap (λ (n : ℕ). receipt_text schema (call.Create kind id payload) (record receipt { position = n })) position
receipt_is schema w (call.Update id payload) what receipt is position begun items = ap (λ (n : ℕ). receipt_text schema (call.Update id payload) (record receipt { position = n })) position
receipt_is schema w (call.Link edge from to payload) what receipt is position begun items = ap (λ (n : ℕ). receipt_text schema (call.Link edge from to payload) (record receipt { position = n })) position
receipt_is schema w (call.Unlink edge from to name) what receipt is position begun items =
    ap (λ (n : ℕ). receipt_text schema (call.Unlink edge from to name) (record receipt { position = n })) position
    ∙ ap (λ (b : Bool). unlinked_text (length w.history) (edge_name schema edge) from to (cond b (Some name) None))
    (ap (λ (o : Option ℕ). is_some o) begun ∙ started (state_of w) (now_of w) edge from to name what is)
receipt_is schema w (call.Delete id name) what receipt is position begun items = ap (λ (n : ℕ). receipt_text schema (call.Delete id name) (record receipt { position = n })) position
receipt_is schema w (call.Restore name) what receipt is position begun items =
    ap (λ (n : ℕ). receipt_text schema (call.Restore name) (record receipt { position = n })) position
    ∙ ap (λ (n : ℕ). receipt_text schema (call.Restore name) (record { position = length w.history; started = receipt.started; items = n })) items

-- an accepted call

pub grew_world : {G R : Type 0} → (old now : Booked G R) (clock : ℕ) (d e : Payloads) (entry : Entry) → Grew old now entry → old.beside ≡ None →
    world_of now clock e ≡ world old.rules (old.history ++ entry ∷ []) e clock false None
grew_world old now clock d e entry grew alone =
    same_world now.rules old.rules now.history (old.history ++ entry ∷ []) e clock now.down false now.beside None grew.rules grew.history grew.up (grew.beside ∙ alone)

-- the world of a book that grew stands where its disk rests
pub grew_stands : {G R : Type 0} → (old now : Booked G R) (clock : ℕ) (e : Payloads) (entry : Entry) (images : Areas → Type 0) → Grew old now entry → old.beside ≡ None →
    RestIn old.rules (old.history ++ entry ∷ []) e images → StandsOn (world_of now clock e) images
grew_stands old now clock e entry images grew alone rests =
    subst (λ (w : World). StandsOn w images) (sym (grew_world old now clock e e entry grew alone))
    (up_stands (world old.rules (old.history ++ entry ∷ []) e clock false None) images refl refl rests)

pub accepted_carries : {G R : Type 0} → (seen : R → Areas) (at : R → ℕ) (may_leave : R → Areas → Type 0) (left_since : R → ℕ → Areas → Type 0) (faults : R → ℕ) (schema : Schema) (asked : Call)
    (old now : Booked G R) (clock : ℕ) (e : Payloads) (receipt : Receipt) (text : List ℕ) → OnDisk seen may_leave old → Accepted old now (moment_of (state_in old) clock) 0 asked receipt →
    CallIsSafe at may_leave left_since old now (moment_of (state_in old) clock) 0 asked (Ok receipt) → faults now.rig ≡ faults old.rig →
    text ≡ receipt_text schema asked receipt → StandsOn (world_of old clock e) (may_leave old.rig) →
    Carried may_leave faults schema (Submit asked) (world_of old clock e) (faults old.rig) now clock text
accepted_carries seen at may_leave left_since faults schema asked old now clock e receipt text on a safe count said stands =
    let w : World = world_of old clock e in
    let entry : Entry = record { moment = now_of w; what = a.what } in
    let next : Payloads = payloads_after digest (state_of w) entry (given_by asked) e in
    let alone : old.beside ≡ None = stands.alone a.up in
    record {
      payloads = next;
      serves = serial.Submits.Answers a.up count
          (said ∙ receipt_is schema w asked a.what receipt a.is_reply a.position a.started a.items ∙ ap (answer_text schema w asked) (sym a.is_reply))
          (grew_world old now clock e next entry a.grew alone ∙ ap (after_answer w asked) (sym a.is_reply));
      stands = grew_stands old now clock next entry (may_leave now.rig) a.grew alone
          (longer_as seen at may_leave left_since old now e on a.up (stands.rests a.up) entry (given_by asked) (safe a.what a.is_reply).1);
    }

pub accepted_halts : {G R : Type 0} → (seen : R → Areas) (at : R → ℕ) (may_leave : R → Areas → Type 0) (left_since : R → ℕ → Areas → Type 0) (asked : Call)
    (old now : Booked G R) (clock : ℕ) (e : Payloads) (receipt : Receipt) → OnDisk seen may_leave old → Accepted old now (moment_of (state_in old) clock) 0 asked receipt →
    CallIsSafe at may_leave left_since old now (moment_of (state_in old) clock) 0 asked (Ok receipt) → StandsOn (world_of old clock e) (may_leave old.rig) →
    HaltedAt (Submit asked) (world_of old clock e) (may_leave now.rig)
accepted_halts seen at may_leave left_since asked old now clock e receipt on a safe stands =
    let w : World = world_of old clock e in
    record {
      next = fallen w (Some (interrupted w a.what (given_by asked)));
      halts = inr (a.up, (a.what, (a.is_reply, inr refl)));
      held = λ c image. (leaves_entry_as seen at may_leave left_since old now e on a.up (stands.rests a.up) (entry_now w a.what) (given_by asked) (safe a.what a.is_reply).0).now c image;
    }

-- a call that met a disk fault

down_line : (schema : Schema) (len at : ℕ) → len ≡ at → refusal_text (DiskFault len) at (refusal_name schema (DiskFault len)) ≡ down_text at
unfolding refusal_text down_text
down_line schema len at is = ap (λ (n : ℕ). down_text n) is

down_refused : (schema : Schema) (len at : ℕ) → len ≡ at → refusal_text (Down len) at (refusal_name schema (Down len)) ≡ refusal_text (Down at) at []
down_refused schema len at is = ap (λ (n : ℕ). refusal_text (Down n) at []) is

-- a call that was refused, by the refusal

abbrev RefusedIs : {G R : Type 0} → (R → ℕ) → (R → Areas → Type 0) → (R → ℕ → Areas → Type 0) → (R → ℕ) → Schema → Call → Booked G R → Booked G R → ℕ → Payloads → List ℕ → Refusal → Type 0
RefusedIs at may_leave left_since faults schema asked old now clock e text r =
    Answers old now (moment_of (state_in old) clock) 0 asked (Err r) →
    CallIsSafe at may_leave left_since old now (moment_of (state_in old) clock) 0 asked (Err r) →
    CountsRefusal {T = Receipt} (faults old.rig) (faults now.rig) (Err r) → (r ≡ OutOfMemory → ⊥) →
    text ≡ refusal_text r (length old.history) (refusal_name schema r) → StandsOn (world_of old clock e) (may_leave old.rig) →
    Carried may_leave faults schema (Submit asked) (world_of old clock e) (faults old.rig) now clock text

-- the book is as it was: the answer is that of the serial meaning
plainly : {G R : Type 0} → (at : R → ℕ) (may_leave : R → Areas → Type 0) (left_since : R → ℕ → Areas → Type 0) (faults : R → ℕ) (schema : Schema) (asked : Call)
    (old now : Booked G R) (clock : ℕ) (e : Payloads) (text : List ℕ) (r : Refusal) → old.down ≡ false → reply (state_in old) (moment_of (state_in old) clock) 0 asked ≡ Err r →
    now ≡ old → faults now.rig ≡ faults old.rig → text ≡ refusal_text r (length old.history) (refusal_name schema r) → StandsOn (world_of old clock e) (may_leave old.rig) →
    Carried may_leave faults schema (Submit asked) (world_of old clock e) (faults old.rig) now clock text
plainly {G} {R} at may_leave left_since faults schema asked old now clock e text r up is same count said stands = record {
  payloads = e;
  serves = serial.Submits.Answers up count (said ∙ ap (answer_text schema (world_of old clock e) asked) (sym is))
      (ap (λ (b : Booked G R). world_of b clock e) same ∙ ap (after_answer (world_of old clock e) asked) (sym is));
  stands = subst (λ (b : Booked G R). StandsOn (world_of b clock e) (may_leave b.rig)) (sym same) stands;
}

was_down : {G R : Type 0} → (may_leave : R → Areas → Type 0) (faults : R → ℕ) (schema : Schema) (asked : Call)
    (old now : Booked G R) (clock : ℕ) (e : Payloads) (text : List ℕ) → old.down ≡ true → now ≡ old → faults now.rig ≡ faults old.rig →
    text ≡ refused_down (world_of old clock e) → StandsOn (world_of old clock e) (may_leave old.rig) →
    Carried may_leave faults schema (Submit asked) (world_of old clock e) (faults old.rig) now clock text
was_down {G} {R} may_leave faults schema asked old now clock e text down same count said stands = record {
  payloads = e;
  serves = serial.Submits.WasDown down count said (ap (λ (b : Booked G R). world_of b clock e) same);
  stands = subst (λ (b : Booked G R). StandsOn (world_of b clock e) (may_leave b.rig)) (sym same) stands;
}

fell : {G R : Type 0} → (seen : R → Areas) (at : R → ℕ) (may_leave : R → Areas → Type 0) (left_since : R → ℕ → Areas → Type 0) (faults : R → ℕ) (schema : Schema) (asked : Call)
    (old now : Booked G R) (clock : ℕ) (e : Payloads) (text : List ℕ) (len : ℕ) → OnDisk seen may_leave old → Interrupts old now (moment_of (state_in old) clock) 0 asked len →
    CallIsSafe at may_leave left_since old now (moment_of (state_in old) clock) 0 asked (Err (DiskFault len)) → Rose (faults old.rig) (faults now.rig) →
    text ≡ refusal_text (DiskFault len) (length old.history) (refusal_name schema (DiskFault len)) → StandsOn (world_of old clock e) (may_leave old.rig) →
    Carried may_leave faults schema (Submit asked) (world_of old clock e) (faults old.rig) now clock text
fell seen at may_leave left_since faults schema asked old now clock e text len on i safe rose said stands =
    let w : World = world_of old clock e in
    let beside : Interrupted = interrupted w i.what (given_by asked) in
    record {
      payloads = e;
      serves = serial.Submits.Falls i.what i.up rose i.is_reply (said ∙ down_line schema len (length old.history) i.length_is)
          (fell_world old now clock e (Some beside) i.fell);
      stands = fell_stands old now clock e (Some beside) (may_leave now.rig) i.fell
          (λ c image. (leaves_entry_as seen at may_leave left_since old now e on i.up (stands.rests i.up) beside.entry (given_by asked) (safe i.what i.is_reply)).now c image);
    }

pub refused_carries : {G R : Type 0} → (seen : R → Areas) (at : R → ℕ) (may_leave : R → Areas → Type 0) (left_since : R → ℕ → Areas → Type 0) (faults : R → ℕ) (schema : Schema) (asked : Call)
    (old now : Booked G R) (clock : ℕ) (e : Payloads) (text : List ℕ) (r : Refusal) → OnDisk seen may_leave old → RefusedIs at may_leave left_since faults schema asked old now clock e text r
refused_carries seen at may_leave left_since faults schema asked old now clock e text (Down len) on answers safe counts other said stands =
    was_down may_leave faults schema asked old now clock e text answers.0 answers.2 counts
    (said ∙ down_refused schema len (length old.history) answers.1) stands
refused_carries seen at may_leave left_since faults schema asked old now clock e text OutOfMemory on answers safe counts other said stands = absurd (other refl)
refused_carries seen at may_leave left_since faults schema asked old now clock e text (DiskFault len) on answers safe counts other said stands =
    fell seen at may_leave left_since faults schema asked old now clock e text len on answers safe counts.1 said stands
refused_carries seen at may_leave left_since faults schema asked old now clock e text r on answers safe counts other said stands =
    plainly at may_leave left_since faults schema asked old now clock e text r answers.0 answers.1 answers.2 counts said stands

-- what else a refused call leaves, by the refusal

same_halts : {G R : Type 0} → (may_leave : R → Areas → Type 0) (asked : Call) (old : Booked G R) (rig : R) (clock : ℕ) (e : Payloads) → Legal old.rules old.history →
    rig ≡ old.rig → StandsOn (world_of old clock e) (may_leave old.rig) → HaltedAt (Submit asked) (world_of old clock e) (may_leave rig)
same_halts {G} {R} may_leave asked old rig clock e legal same stands = record {
  next = world_of old clock e;
  halts = inl refl;
  held = subst (λ (r : R). IsHeld (world_of old clock e) (may_leave r)) (sym same) (stands_held (world_of old clock e) (may_leave old.rig) legal stands);
}

pub refused_halts : {G R : Type 0} → (seen : R → Areas) (at : R → ℕ) (may_leave : R → Areas → Type 0) (left_since : R → ℕ → Areas → Type 0) (asked : Call)
    (old now : Booked G R) (clock : ℕ) (e : Payloads) (r : Refusal) → OnDisk seen may_leave old → Answers old now (moment_of (state_in old) clock) 0 asked (Err r) →
    CallIsSafe at may_leave left_since old now (moment_of (state_in old) clock) 0 asked (Err r) → StandsOn (world_of old clock e) (may_leave old.rig) →
    HaltedAt (Submit asked) (world_of old clock e) (may_leave now.rig)
refused_halts seen at may_leave left_since asked old now clock e (DiskFault len) on i safe stands = record {
  next = fallen (world_of old clock e) (Some (interrupted (world_of old clock e) i.what (given_by asked)));
  halts = inr (i.up, (i.what, (i.is_reply, inr refl)));
  held = λ c image. (leaves_entry_as seen at may_leave left_since old now e on i.up (stands.rests i.up) (entry_now (world_of old clock e) i.what) (given_by asked) (safe i.what i.is_reply)).now c image;
}
refused_halts seen at may_leave left_since asked old now clock e r on answers safe stands = same_halts may_leave asked old now.rig clock e on.legal safe stands

pub refused_rules : {G R : Type 0} → (old now : Booked G R) (moment : ℕ) (asked : Call) (r : Refusal) → Answers old now moment 0 asked (Err r) → now.rules ≡ old.rules
refused_rules {G} {R} old now moment asked (Down len) answers = ap (λ (b : Booked G R). b.rules) answers.2
refused_rules {G} {R} old now moment asked OutOfMemory answers = answers.1.rules
refused_rules {G} {R} old now moment asked (DiskFault len) answers = answers.fell.rules
refused_rules {G} {R} old now moment asked r answers = ap (λ (b : Booked G R). b.rules) answers.2

-- a book that is as it was fell not
stays : {G R : Type 0} → (faults : R → ℕ) (old now : Booked G R) → now.down ≡ old.down → now.held ≡ old.held → faults now.rig ≡ faults old.rig → Falls faults old now
stays faults old now down held count = record { later = omega (arith, count); fell = λ is. inl (sym down ∙ is); held = held }

pub accepted_falls : {G R : Type 0} → (faults : R → ℕ) (old now : Booked G R) (moment : ℕ) (asked : Call) (receipt : Receipt) → Accepted old now moment 0 asked receipt →
    faults now.rig ≡ faults old.rig → Falls faults old now
accepted_falls faults old now moment asked receipt a count = stays faults old now (a.grew.up ∙ sym a.up) a.grew.held count

pub refused_falls : {G R : Type 0} → (faults : R → ℕ) (old now : Booked G R) (moment : ℕ) (asked : Call) (r : Refusal) → Answers old now moment 0 asked (Err r) →
    CountsRefusal {T = Receipt} (faults old.rig) (faults now.rig) (Err r) → Falls faults old now
refused_falls {G} {R} faults old now moment asked (Down len) answers count = stays faults old now (ap (λ (b : Booked G R). b.down) answers.2) (ap (λ (b : Booked G R). b.held) answers.2) count
refused_falls faults old now moment asked OutOfMemory answers count = stays faults old now answers.1.down answers.1.held count
refused_falls faults old now moment asked (DiskFault len) answers count = record { later = count.0; fell = λ is. inr count.1; held = answers.fell.held }
refused_falls {G} {R} faults old now moment asked r answers count = stays faults old now (ap (λ (b : Booked G R). b.down) answers.2) (ap (λ (b : Booked G R). b.held) answers.2) count

-- the type of a wrong end has a name
pub refusal_named : {G R : Type 0} → (old now : Booked G R) (moment count : ℕ) (asked : Call) (r : Refusal) → Legal old.rules old.history → length old.rules.objects ≡ count →
    Answers old now moment 0 asked (Err r) → IsNumberedRefusal count r
refusal_named old now moment count asked (WrongEnd id kind) legal many answers =
    subst (λ (n : ℕ). kind < n) many
    (refusal_numbered old.rules old.history moment asked (Err (WrongEnd id kind)) legal (sym answers.1))
refusal_named old now moment count asked r legal many answers = tt

-- what `IfOk` and `OnErr` hold of

pub if_ok : {T E : Type 0} → (P : T → Type 0) (r : Result T E) → ((x : T) → r ≡ Ok x → P x) → IfOk r P
if_ok P (Ok x) each = each x refl
if_ok P (Err e) each = tt

pub on_err : {T E : Type 0} → {P : Type 0} → (r : Result T E) → P → OnErr r P
on_err (Ok x) p = tt
on_err (Err e) p = p

pub err_of : {T E : Type 0} → {P : Type 0} → (r : Result T E) (e : E) → r ≡ Err e → OnErr r P → P
err_of {T} {E} {P} r e is holds = subst (λ (q : Result T E). OnErr q P) is holds

pub ok_of : {T E : Type 0} → {P : Type 0} → (r : Result T E) (x : T) → r ≡ Ok x → OnOk r P → P
ok_of {T} {E} {P} r x is holds = subst (λ (q : Result T E). OnOk q P) is holds

pub ok_is : {T E : Type 0} → (P : T → Type 0) (r : Result T E) (x : T) → r ≡ Ok x → IfOk r P → P x
ok_is {T} {E} P r x is holds = subst (λ (q : Result T E). IfOk q P) is holds

pub if_err : {T E : Type 0} → (P : E → Type 0) (r : Result T E) → ((x : E) → r ≡ Err x → P x) → IfErr r P
if_err P (Ok x) each = tt
if_err P (Err e) each = each e refl

pub err_is : {T E : Type 0} → (P : E → Type 0) (r : Result T E) (x : E) → r ≡ Err x → IfErr r P → P x
err_is {T} {E} P r x is holds = subst (λ (q : Result T E). IfErr q P) is holds
