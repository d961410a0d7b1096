-- What a call or step of the book does to the standing.
use Rattle.std.proofs.Common.{◌≡◌, ℕ, ◌≤◌, Bool, true, false, List, [], ◌∷◌, ◌++◌, Option, Some, None, Result, Ok, Err, refl, sym, ap, ◌∙◌, subst}
use Rattle.std.specs.Prelude.{is_some, length, take, IfOk, IsTrue}
use Rattle.std.specs.Result.{result_err}
use Rattle.delf_disk.specs.Causes.{Rose}
use Rattle.delf_disk.specs.Plain.{Plain, SameKind}
use Rattle.delf_disk.specs.declared.area.Order.{Order}
use Rattle.delf_disk.specs.declared.disk.Disk.{Ghosts}
use Rattle.delf_model.specs.declared.call.Call.{Call}
use Rattle.delf_model.specs.declared.call.Refusal.{Refusal}
use Rattle.delf_model.specs.declared.call.Refusal.TheVariants as refusal
use Rattle.delf_model.specs.declared.entry.Entry.{Entry}
use Rattle.delf_model.specs.declared.rows.ObjectRow.{ObjectRow}
use Rattle.delf_model.specs.declared.entry.What.{What}
use Rattle.delf_model.specs.Order.{is_legal_step}
use Rattle.delf_model.specs.Graph.{object_at}
use Rattle.delf_model.specs.Payloads.{Payloads, payload_at}
use Rattle.delf_model.specs.RuleSet.{RuleSet}
use Rattle.delf_model.specs.Room.{moment_of}
use Rattle.delf_model.specs.Sound.{FirstIsLegal}
use Rattle.delf_model.specs.Legal.{Legal}
use Rattle.delf_model.specs.State.{State, owner}
use Rattle.delf_model.specs.Step.{after}
use Rattle.delf_book.proofs.Fitting.{FitsObject, all_found, objects_fit}
use Rattle.delf_book.specs.Parts.{Interrupted}
use Rattle.delf_book.specs.Books.{Booked, state_in, Answers, CallPayloads, CountsRefusal, Grew, Stayed, Fell, WasDown, ReadAnswers, CountsFault, OnlyRig}
use Rattle.delf_book.specs.Holding.{StandWhole}
use Rattle.delf_book.specs.Reads.{IsObjectAt}
use Rattle.delf_book.specs.Seals.{StepKeepsSeals}
use Rattle.store_laws.specs.Stores.{AreSealed}
use Rattle.delf_book.specs.Begun.{BeginAnswers, BeginPayloads, BeginKeepsSeals, FinishAnswers, FinishPayloads}
use Rattle.delf_book.specs.Claims.{step_of as claimed_step}
use Rattle.delf_book.specs.declared.answers.Begun.{Begun}
use Rattle.delf_book.specs.declared.answers.Begun.TheVariants as begun
use Rattle.delete_step.specs.Claims.{ClaimView}
use Rattle.delf_book.specs.Steps.{StepAnswers, StepPayloads, CountsStep}
use Rattle.delf_book.specs.declared.answers.Receipt.{Receipt}
use Rattle.delf_book.specs.declared.answers.BookFault.{BookFault}
use Rattle.delf_book.specs.declared.answers.BookFault.TheVariants as book
use Rattle.delf_book.specs.declared.answers.StepFault.{StepFault}
use Rattle.delf_book.specs.declared.answers.StepFault.TheVariants as fault
use Rattle.delf_book.specs.declared.answers.Worked.{Worked}
use Rattle.delf_book.specs.declared.answers.Worked.TheVariants as worked
use Rattle.ledger.specs.Ledgers.{found, found_row}
use Rattle.delf_service.specs.declared.answers.Turned.{Turned}
use Rattle.delf_service.specs.declared.answers.Turned.TheVariants as turned
use Rattle.delf_service.specs.declared.standing.DiskKind.{DiskKind}
use Rattle.delf_service.specs.declared.standing.Key.{Key}
use Rattle.delf_service.specs.declared.standing.Standing.{Standing}
use Rattle.delf_service.specs.Asks.{AsksIn, ReadsIn, ReadsTo, down_fault}
use Rattle.delf_service.specs.Calls.{AnswersIn, Falls, IsDown, entry_in, with_entry}
use Rattle.delf_service.specs.Standings.{IsCaused, IsPlain, kind_of, opening_of, payloads_of, standing_in, state_at}
use Rattle.delf_service.specs.Works.{StepsIn, MeetsFirst, TurnsIn, step_fault}
use Rattle.delf_service.proofs.Tags.{reply_maker, step_maker}

-- a key and a standing by their parts
abbrev key_in : {R : Type 0} → Ghosts R → Option ℕ → RuleSet → DiskKind → R → Key
key_in d m rules kind opened = record { rules = rules; moment = m; disk = kind; opening = opening_of d opened }

abbrev kind_by : Bool → Bool → Order → ℕ → DiskKind
kind_by a b o n = record { told = a; honest = b; order = o; orders = n }

abbrev parts : List Entry → Payloads → ℕ → Bool → ℕ → Key → Standing
parts h e f b n k = record { history = h; payloads = e.bytes; seals = e.seals; faults = f; down = b; lanes = n; key = k }

same_parts : (h h' : List Entry) (e e' : Payloads) (f f' : ℕ) (b b' : Bool) (n : ℕ) (k k' : Key) → h ≡ h' → e ≡ e' → f ≡ f' → b ≡ b' → k ≡ k'
    → parts h e f b n k ≡ parts h' e' f' b' n k'
same_parts h h' e e' f f' b b' n k k' p q s t u =
    ap (λ (x : List Entry). parts x e f b n k) p
    ∙ (ap (λ (x : Payloads). parts h' x f b n k) q
    ∙ (ap (λ (x : ℕ). parts h' e' x b n k) s ∙ (ap (λ (x : Bool). parts h' e' f' x n k) t ∙ ap (λ (x : Key). parts h' e' f' b' n x) u)))

-- what the first half of a step comes to: nothing yet where a row was claimed, or each legal step is claimed
abbrev pub begun_by : Result Begun StepFault → Option (Result Turned StepFault)
begun_by (Ok (begun.Stepped position)) = Some (Ok (turned.Stepped position))
begun_by (Ok (begun.Claimed claim)) = None
begun_by (Ok (begun.Idle len)) = Some (Ok (turned.Idle len))
begun_by (Ok (begun.Held n len)) = None
begun_by (Err why) = Some (Err why)

abbrev pub ended_by : Result ℕ BookFault → Result Turned StepFault
ended_by (Ok position) = Ok (turned.Stepped position)
ended_by (Err why) = Err (step_fault why)

abbrev pub BecomesIn : Standing → Standing → ℕ → Option (Result Turned StepFault) → Type 0
BecomesIn x y now None = y ≡ x
BecomesIn x y now (Some outcome) = StepsIn x y now outcome

-- a step of the book, as a worker tells it
abbrev pub turned_by : Result Worked StepFault → Result Turned StepFault
turned_by (Ok (worked.Stepped position)) = Ok (turned.Stepped position)
turned_by (Ok (worked.Idle len)) = Ok (turned.Idle len)
turned_by (Err why) = Err why

module _ {R : Type 0} (d : Ghosts R) where
  -- no call of the book is an order
  abbrev pub SameRig : R → R → Type 0
  SameRig old now = SameKind d.told d.honest d.order d.orders old now

  same_kind : (old now : R) → SameRig old now → kind_of d now ≡ kind_of d old
  same_kind old now same =
      ap (λ (x : Bool). kind_by x (d.honest now) (d.order now) (d.orders now)) same.tells
      ∙ (ap (λ (x : Bool). kind_by (d.told old) x (d.order now) (d.orders now)) same.keeps_word
      ∙ (ap (λ (x : Order). kind_by (d.told old) (d.honest old) x (d.orders now)) same.last_order ∙ ap (λ (x : ℕ). kind_by (d.told old) (d.honest old) (d.order old) x) same.order_count))

  same_key : (m : Option ℕ) (r r' : RuleSet) (k k' : DiskKind) (o o' : R) → r ≡ r' → k ≡ k' → o ≡ o' → key_in d m r k o ≡ key_in d m r' k' o'
  same_key m r r' k k' o o' p q s =
      ap (λ (x : RuleSet). key_in d m x k o) p ∙ (ap (λ (x : DiskKind). key_in d m r' x o) q ∙ ap (λ (x : R). key_in d m r' k' x) s)

  module _ {G : Type 0} (m : Option ℕ) (n : ℕ) (old now : Booked G R) where
    abbrev x : Standing
    x = standing_in d old m n

    abbrev y : Standing
    y = standing_in d now m n

    abbrev Tells : Type 0
    Tells = Plain (d.told old.rig) (d.honest old.rig)

    unchanged : now ≡ old → y ≡ x
    unchanged same = ap (λ (b : Booked G R). standing_in d b m n) same

    key_same : now.rules ≡ old.rules → SameRig old.rig now.rig → now.opened ≡ old.opened → y.key ≡ x.key
    key_same rules kept opened = same_key m now.rules old.rules (kind_of d now.rig) (kind_of d old.rig) now.opened old.opened rules (same_kind old.rig now.rig kept) opened

    grew : {held : List ClaimView} (e : Entry) → old.down ≡ false → Grew (record old { held = held }) now e → d.faults now.rig ≡ d.faults old.rig → SameRig old.rig now.rig
        → y ≡ with_entry x e (payloads_of y)
    grew e up g count kept =
        same_parts now.history (old.history ++ e ∷ []) now.payloads now.payloads (d.faults now.rig) (d.faults old.rig) now.down old.down n y.key x.key
        g.history refl count (g.up ∙ sym up) (key_same g.rules kept g.opened)

    stayed : Stayed old now → y ≡ x
    stayed s =
        same_parts now.history old.history now.payloads old.payloads (d.faults now.rig) (d.faults old.rig) now.down old.down n y.key x.key
        s.history s.payloads (ap d.faults s.rig) s.down
        (same_key m now.rules old.rules (kind_of d now.rig) (kind_of d old.rig) now.opened old.opened s.rules (ap (λ (r : R). kind_of d r) s.rig) s.opened)

    fell : {held : List ClaimView} (beside : Option Interrupted) → old.down ≡ false → Fell (record old { held = held }) now beside → (d.faults old.rig ≤ d.faults now.rig) × Rose (d.faults old.rig) (d.faults now.rig) → SameRig old.rig now.rig
        → Falls x y
    fell beside up f count kept = record {
      up = up;
      left = same_parts now.history old.history now.payloads old.payloads (d.faults now.rig) (d.faults now.rig) now.down true n y.key x.key
          f.history f.payloads refl f.down (key_same f.rules kept f.opened);
      later = count.0;
      rose = count.1;
    }

    -- a row was claimed
    beside : {claims : List ClaimView} {store : G} {spare : ℕ} {rig : R} → now ≡ record old { held = claims; store = store; spare = spare; rig = rig } → d.faults now.rig ≡ d.faults old.rig
        → SameRig old.rig now.rig → y ≡ x
    beside o count kept =
        same_parts now.history old.history now.payloads old.payloads (d.faults now.rig) (d.faults old.rig) now.down old.down n y.key x.key
        (ap (λ (b : Booked G R). b.history) o) (ap (λ (b : Booked G R). b.payloads) o) count (ap (λ (b : Booked G R). b.down) o)
        (key_same (ap (λ (b : Booked G R). b.rules) o) kept (ap (λ (b : Booked G R). b.opened) o))

    was_down : (len : ℕ) → WasDown old now len → IsDown x y len
    was_down len w = record { down = w.0; length_is = w.1; same = unchanged w.2 }

    pub answers_in : (clock seat : ℕ) (asked : Call) (reply : Result Receipt Refusal) → Answers old now (moment_of (state_in old) clock) seat asked reply
        → (Tells → CallPayloads old now (moment_of (state_in old) clock) seat asked reply) → CountsRefusal (d.faults old.rig) (d.faults now.rig) reply → SameRig old.rig now.rig
        → AnswersIn x y clock seat asked reply
    answers_in clock seat asked (Ok receipt) h given count kept = record {
      up = h.up;
      what = h.what;
      is_reply = h.is_reply;
      maker = reply_maker (state_in old) (moment_of (state_in old) clock) seat asked h.what h.is_reply;
      left = grew (entry_in x clock h.what) h.up h.grew count kept;
      payloads = λ plain. given plain h.what h.is_reply;
      position = h.position;
      started = h.started;
      items = h.items;
    }
    answers_in clock seat asked (Err (refusal.Down len)) h given count kept = was_down len h
    answers_in clock seat asked (Err refusal.OutOfMemory) h given count kept = (h.0, stayed h.1)
    answers_in clock seat asked (Err (refusal.DiskFault len)) h given count kept = record {
      what = h.what;
      is_reply = h.is_reply;
      falls = fell _ h.up h.fell count kept;
      length_is = h.length_is;
    }
    answers_in clock seat asked (Err other) h given count kept = (h.0, h.1, unchanged h.2)

    only_rig : OnlyRig old now → d.faults now.rig ≡ d.faults old.rig → SameRig old.rig now.rig → y ≡ x
    only_rig o count kept =
        same_parts now.history old.history now.payloads old.payloads (d.faults now.rig) (d.faults old.rig) now.down old.down n y.key x.key
        (ap (λ (b : Booked G R). b.history) o) (ap (λ (b : Booked G R). b.payloads) o) count (ap (λ (b : Booked G R). b.down) o)
        (key_same (ap (λ (b : Booked G R). b.rules) o) kept (ap (λ (b : Booked G R). b.opened) o))

    pub reads_in : {T : Type 0} (row : ObjectRow × Option ℕ) (r : Result T BookFault) (fault : Option BookFault) → ReadAnswers old now r → CountsFault (d.faults old.rig) (d.faults now.rig) r
        → SameRig old.rig now.rig → fault ≡ result_err r → ReadsIn x y (Some row) fault
    reads_in row (Ok v) fault h count kept is = subst (λ (f : Option BookFault). ReadsIn x y (Some row) f) (sym is) (h.0, only_rig h.1 count kept)
    reads_in row (Err (book.Down len)) fault h count kept is = subst (λ (f : Option BookFault). ReadsIn x y (Some row) f) (sym is) (was_down len h)
    reads_in row (Err (book.DiskFault len)) fault h count kept is =
        subst (λ (f : Option BookFault). ReadsIn x y (Some row) f) (sym is) (fell old.beside h.0 h.1 count kept, h.2)

    held_same : (moment n len : ℕ) (r : Result Begun StepFault) → r ≡ Ok (begun.Held n len) → BeginAnswers old now moment r → now ≡ old
    held_same moment n len r is h = (subst (λ (z : Result Begun StepFault). BeginAnswers old now moment z) is h).same

    -- where each legal step is claimed nothing changed, so a turn behind it is one of the book that was found
    pub held_turn : (moment clock n len : ℕ) (z : Standing) (w : Result Turned StepFault) (r : Result Begun StepFault) (b : Begun) → r ≡ Ok b → b ≡ begun.Held n len
        → BeginAnswers old now moment r → TurnsIn y z clock w → TurnsIn x z clock w
    held_turn moment clock n len z w r b is one h turns =
        subst (λ (s : Standing). TurnsIn s z clock w) (unchanged (held_same moment n len r (is ∙ ap (λ (v : Begun). Ok v) one) h)) turns

    -- what a step answers
    module _ (clock : ℕ) (sealed : Tells → StandWhole old.rules (d.seen old.opened) → AreSealed old.rules old.history old.payloads) where
      pub steps_in : (r : Result Worked StepFault) → StepAnswers old now (moment_of (state_in old) clock) r
          → (Tells → StepPayloads old now (moment_of (state_in old) clock) r)
          → (Tells → StepKeepsSeals old (moment_of (state_in old) clock) r)
          → CountsStep (d.faults old.rig) (d.faults now.rig) r → SameRig old.rig now.rig
          → (old.down ≡ false → FirstIsLegal (state_in old) (moment_of (state_in old) clock)) → StepsIn x y clock (turned_by r)
      steps_in (Ok (worked.Stepped position)) h given seals count kept order = record {
        up = h.up;
        what = h.what;
        is_legal = (order h.up).legal h.what h.is_first;
        maker = step_maker (state_in old) (moment_of (state_in old) clock) h.what ((order h.up).legal h.what h.is_first);
        left = grew (entry_in x clock h.what) h.up h.grew count kept;
        payloads = λ plain. (given plain h.what h.is_first).0;
        position_is = h.position_is;
      }
      steps_in (Ok (worked.Idle len)) h given seals count kept order = record { up = h.up; none = (order h.up).none h.none; same = unchanged h.same; length_is = h.length_is }
      steps_in (Err (fault.Down len)) h given seals count kept order = was_down len h
      steps_in (Err fault.OutOfMemory) h given seals count kept order = record { up = h.up; what = h.what; is_legal = (order h.up).legal h.what h.is_first; same = stayed h.stayed }
      steps_in (Err (fault.DiskFault len)) h given seals count kept order =
          record { what = h.what; is_legal = (order h.up).legal h.what h.is_first; falls = fell _ h.up h.fell count kept; length_is = h.length_is }
      steps_in (Err (fault.Damaged item stored digest)) h given seals count kept order = record {
        up = h.up;
        what = h.what;
        is_legal = (order h.up).legal h.what h.is_first;
        logged = h.logged;
        puts = h.puts;
        differ = h.differ;
        tells = λ plain. given plain;
        never = λ plain whole. seals plain (sealed plain whole);
        same = same_parts now.history old.history now.payloads old.payloads (d.faults now.rig) (d.faults old.rig) now.down old.down n y.key x.key
            (ap (λ (b : Booked G R). b.history) h.rest) (ap (λ (b : Booked G R). b.payloads) h.rest) count (ap (λ (b : Booked G R). b.down) h.rest)
            (key_same (ap (λ (b : Booked G R). b.rules) h.rest) kept (ap (λ (b : Booked G R). b.opened) h.rest));
      }

      -- where an item is met damaged, the first step of the serial order would put it back
      pub meets_first : (r : Result Worked StepFault) → StepAnswers old now (moment_of (state_in old) clock) r → MeetsFirst x clock (turned_by r)
      meets_first (Ok (worked.Stepped position)) h = tt
      meets_first (Ok (worked.Idle len)) h = tt
      meets_first (Err (fault.Down len)) h = tt
      meets_first (Err fault.OutOfMemory) h = tt
      meets_first (Err (fault.DiskFault len)) h = tt
      meets_first (Err (fault.Damaged item stored digest)) h = (h.puts.job, h.is_first ∙ ap (λ (w : What). Some w) h.puts.is_put)

      pub begin_in : (r : Result Begun StepFault) → BeginAnswers old now (moment_of (state_in old) clock) r
          → (Tells → BeginPayloads old now (moment_of (state_in old) clock) r)
          → (Tells → BeginKeepsSeals old now (moment_of (state_in old) clock) r)
          → CountsStep (d.faults old.rig) (d.faults now.rig) r → SameRig old.rig now.rig → BecomesIn x y clock (begun_by r)
      begin_in (Ok (begun.Stepped position)) h given seals count kept = record {
        up = h.up;
        what = h.what;
        is_legal = h.may.free.0;
        maker = step_maker (state_in old) (moment_of (state_in old) clock) h.what h.may.free.0;
        left = grew (entry_in x clock h.what) h.up h.grew count kept;
        payloads = λ plain. (given plain h.what h.grew.history).0;
        position_is = h.position_is;
      }
      begin_in (Ok (begun.Claimed claim)) h given seals count kept = beside h.same count kept
      begin_in (Ok (begun.Idle len)) h given seals count kept = record { up = h.up; none = h.none; same = unchanged h.same; length_is = h.length_is }
      begin_in (Ok (begun.Held n len)) h given seals count kept = unchanged h.same
      begin_in (Err (fault.Down len)) h given seals count kept = was_down len h
      begin_in (Err fault.OutOfMemory) h given seals count kept = record { up = h.up; what = h.what; is_legal = h.may.free.0; same = stayed h.stayed }
      begin_in (Err (fault.DiskFault len)) h given seals count kept =
          record { what = h.what; is_legal = h.may.free.0; falls = fell _ h.up h.fell count kept; length_is = h.length_is }
      begin_in (Err (fault.Damaged item stored digest)) h given seals count kept = record {
        up = h.up;
        what = h.what;
        is_legal = h.may.free.0;
        logged = h.logged;
        puts = h.puts;
        differ = h.differ;
        tells = λ plain. given plain;
        never = λ plain whole. seals plain (sealed plain whole);
        same = same_parts now.history old.history now.payloads old.payloads (d.faults now.rig) (d.faults old.rig) now.down old.down n y.key x.key
            (ap (λ (b : Booked G R). b.history) h.rest) (ap (λ (b : Booked G R). b.payloads) h.rest) count (ap (λ (b : Booked G R). b.down) h.rest)
            (key_same (ap (λ (b : Booked G R). b.rules) h.rest) kept (ap (λ (b : Booked G R). b.opened) h.rest));
      }

      -- the same, where the answer is known
      pub begin_at : (r : Result Begun StepFault) (b b' : Begun) → r ≡ Ok b → b ≡ b' → BeginAnswers old now (moment_of (state_in old) clock) r
          → (Tells → BeginPayloads old now (moment_of (state_in old) clock) r)
          → (Tells → BeginKeepsSeals old now (moment_of (state_in old) clock) r)
          → CountsStep (d.faults old.rig) (d.faults now.rig) r → SameRig old.rig now.rig → BecomesIn x y clock (begun_by (Ok b'))
      begin_at r b b' is one h given seals count kept =
          subst (λ (z : Begun). BecomesIn x y clock (begun_by (Ok z))) one
          (subst (λ (z : Result Begun StepFault). BecomesIn x y clock (begun_by z)) is (begin_in r h given seals count kept))

      -- what the step of a claim answers, which is legal
      pub end_in : (claim : ClaimView) (r : Result ℕ BookFault) → is_legal_step (state_in old) (moment_of (state_in old) clock) (claimed_step claim) ≡ true
          → FinishAnswers old now (moment_of (state_in old) clock) claim r
          → (Tells → FinishPayloads old now (moment_of (state_in old) clock) claim r)
          → CountsFault (d.faults old.rig) (d.faults now.rig) r → SameRig old.rig now.rig → StepsIn x y clock (ended_by r)
      end_in claim (Ok position) legal h given count kept = record {
        up = h.up;
        what = claimed_step claim;
        is_legal = legal;
        maker = step_maker (state_in old) (moment_of (state_in old) clock) (claimed_step claim) legal;
        left = grew (entry_in x clock (claimed_step claim)) h.up h.grew count kept;
        payloads = λ plain. (given plain).0;
        position_is = h.position_is;
      }
      end_in claim (Err (book.Down len)) legal h given count kept = record { down = h.0; length_is = h.1; same = ap (λ (b : Booked G R). standing_in d b m n) h.2 }
      end_in claim (Err (book.DiskFault len)) legal h given count kept =
          record { what = claimed_step claim; is_legal = legal; falls = fell _ h.up h.fell count kept; length_is = h.length_is }

      -- the same, where the answer is known
      pub end_at : (claim : ClaimView) (r r' : Result ℕ BookFault) → r ≡ r' → is_legal_step (state_in old) (moment_of (state_in old) clock) (claimed_step claim) ≡ true
          → FinishAnswers old now (moment_of (state_in old) clock) claim r
          → (Tells → FinishPayloads old now (moment_of (state_in old) clock) claim r)
          → CountsFault (d.faults old.rig) (d.faults now.rig) r → SameRig old.rig now.rig → StepsIn x y clock (ended_by r')
      end_at claim r r' is legal h given count kept = subst (λ (z : Result ℕ BookFault). StepsIn x y clock (ended_by z)) is (end_in claim r legal h given count kept)

stands_if : (s : State) (id : ℕ) (o : Option ObjectRow) (row : ObjectRow × Option ℕ) → found_row s id o ≡ Some row → IsTrue (is_some o)
stands_if s id None row e = absurd (cc e)
stands_if s id (Some r) row e = refl

-- a row that was found stands in the graph
pub stands : (s : State) (id : ℕ) (row : ObjectRow × Option ℕ) → found s id ≡ Some row → IsTrue (is_some (object_at s.graph id))
stands s id row e = stands_if s id (object_at s.graph id) row e

-- the row that was found, and its size

row_of : (s : State) (id : ℕ) (o : Option ObjectRow) (row : ObjectRow × Option ℕ) → found_row s id o ≡ Some row → o ≡ Some row.0
row_of s id None row e = absurd (cc e)
row_of s id (Some r) row e = let same : (r, owner s id) ≡ row = cc in ap (λ (p : ObjectRow × Option ℕ). Some p.0) same

pub row_is : (s : State) (id : ℕ) (row : ObjectRow × Option ℕ) → found s id ≡ Some row → object_at s.graph id ≡ Some row.0
row_is s id row e = row_of s id (object_at s.graph id) row e

-- a row has at most 512 bytes
pub size_fits : (rules : RuleSet) (h : List Entry) (id : ℕ) (row : ObjectRow × Option ℕ) → Legal rules h → found (after rules h) id ≡ Some row → row.0.size ≤ 512
size_fits rules h id row legal is = (all_found (FitsObject rules) _ (after rules h).graph.objects row.0 (objects_fit rules h legal) (row_is (after rules h) id row is)).size

-- the bytes of the row that was found, where they were read
pub reads_to : (s : Standing) (id : ℕ) (row : ObjectRow × Option ℕ) (r : Result ℕ BookFault) (fault : Option BookFault) (bytes : List ℕ) → Legal s.key.rules s.history
    → found (state_at s) id ≡ Some row → fault ≡ result_err r → IfOk r (λ n. (at : ℕ) × IsObjectAt (object_at (state_at s).graph id) at n)
    → IfOk r (λ n. IsPlain s.key → (at : ℕ) → IsObjectAt (object_at (state_at s).graph id) at n → take n bytes ≡ payload_at (payloads_of s) at)
    → ReadsTo s (Some row) fault bytes
reads_to s id row (Ok n) fault bytes legal is why sized reads = subst (λ (f : Option BookFault). ReadsTo s (Some row) f bytes) (sym why) (
  size_fits s.key.rules s.history id row legal is,
  λ plain.
      let there = row_is (state_at s) id row is in
      let same = sized.1.1 in
      let one : row.0 ≡ sized.1.0 = cc (there, same) in
      let size : row.0.size ≡ n = ap (λ (o : ObjectRow). o.size) one ∙ sized.1.3 in
      subst (λ (k : ℕ). take k bytes ≡ payload_at (payloads_of s) row.0.at) (sym size)
      (reads plain row.0.at (row.0, there, refl, size)),
)
reads_to s id row (Err why) fault bytes legal is same sized reads = subst (λ (f : Option BookFault). ReadsTo s (Some row) f bytes) (sym same) tt

-- what is answered of an object that is not there
reads_none : (x : Standing) (b : Bool) (at : ℕ) → x.down ≡ b → at ≡ length x.history → ReadsIn x x None (down_fault b at)
reads_none x true at down is = record { down = down; length_is = is; same = refl }
reads_none x false at up is = (up, refl)

pub asks_none : (x : Standing) (id at : ℕ) (b : Bool) (why : Option BookFault) (bytes : List ℕ) → Legal x.key.rules x.history → at ≡ length x.history → found (state_at x) id ≡ None → b ≡ x.down
    → why ≡ down_fault b at → IsCaused x → AsksIn x x id bytes (record { at = at; found = None; fault = why })
asks_none x id at b why bytes legal is none down told cause = record {
  legal = legal;
  at_is = is;
  found_is = sym none;
  reads = subst (λ (f : Option BookFault). ReadsIn x x None f) (sym told) (reads_none x b at (sym down) is);
  payload = tt;
  cause = cause;
}

-- and of one that is
module _ {G R : Type 0} (d : Ghosts R) (m : Option ℕ) (n : ℕ) (old now : Booked G R) where
  pub asks_some : (id at : ℕ) (row : ObjectRow × Option ℕ) (r : Result ℕ BookFault) (why : Option BookFault) (bytes : List ℕ) → Legal old.rules old.history → at ≡ length old.history
      → found (state_in old) id ≡ Some row → ReadAnswers old now r → CountsFault (d.faults old.rig) (d.faults now.rig) r → SameRig d old.rig now.rig → why ≡ result_err r
      → IfOk r (λ k. (p : ℕ) × IsObjectAt (object_at (state_in old).graph id) p k)
      → IfOk r (λ k. Plain (d.told old.rig) (d.honest old.rig) → (p : ℕ) → IsObjectAt (object_at (state_in old).graph id) p k → take k bytes ≡ payload_at old.payloads p)
      → IsCaused (standing_in d now m n) → AsksIn (standing_in d old m n) (standing_in d now m n) id bytes (record { at = at; found = Some row; fault = why })
  asks_some id at row r why bytes legal is there read count kept told sized reads cause = record {
    legal = legal;
    at_is = is;
    found_is = sym there;
    reads = reads_in d m n old now row r why read count kept told;
    payload = reads_to (standing_in d old m n) id row r why bytes legal there told sized reads;
    cause = cause;
  }
