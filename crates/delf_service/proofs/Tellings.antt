-- What is told of a command holds in the standing that it left, and in each later one.
use Rattle.std.proofs.Common.{◌≡◌, ℕ, ◌≤◌, true, false, List, [], ◌∷◌, length, take, Option, Some, None, Result, Ok, Err, refl, sym, ap, ◌∙◌, subst, arith, length-append}
use Rattle.std.specs.Prelude.{min, slice_get, option_to_list}
use Rattle.std.specs.List.{Contains}
use Rattle.std.proofs.Math.Seq.{take-append_seam}
use Rattle.std.proofs.lemmas.List.{length-take-le, take-append-le}
use Rattle.delf_model.specs.declared.call.Call.{Call}
use Rattle.delf_model.specs.declared.call.Refusal.{Refusal}
use Rattle.delf_model.specs.declared.call.Refusal.TheVariants as refusal
use Rattle.delf_model.specs.declared.entry.Entry.{Entry}
use Rattle.delf_model.specs.declared.rows.ObjectRow.{ObjectRow}
use Rattle.delf_model.specs.declared.script.LaneCommand.{LaneCommand}
use Rattle.delf_model.specs.declared.script.LaneCommand.TheVariants.{Submit, Get}
use Rattle.delf_model.specs.RuleSet.{RuleSet}
use Rattle.delf_model.specs.State.{State}
use Rattle.delf_model.specs.Step.{after}
use Rattle.delf_model.specs.Reply.{reply}
use Rattle.delf_model.specs.Room.{moment_of}
use Rattle.delf_book.specs.Books.{given_by, started_by, restored_items}
use Rattle.delf_book.specs.declared.answers.BookFault.{BookFault}
use Rattle.delf_book.specs.declared.answers.BookFault.TheVariants as fault
use Rattle.delf_book.specs.declared.answers.Receipt.{Receipt}
use Rattle.ledger.specs.Ledgers.{found}
use Rattle.seat_lock.specs.declared.view.Moment.{Moment}
use Rattle.delf_service.specs.declared.answers.Answer.{Answer}
use Rattle.delf_service.specs.declared.answers.Asked.{Asked}
use Rattle.delf_service.specs.declared.replies.LaneReply.{LaneReply}
use Rattle.delf_service.specs.declared.replies.LaneReply.TheVariants.{Submitted, Got}
use Rattle.delf_service.specs.declared.standing.Standing.{Standing}
use Rattle.delf_service.specs.Asks.{AsksIn, ReadsIn, ReadsTo}
use Rattle.delf_service.specs.Calls.{AcceptedIn, AnswersIn, CallsIn, IsDown, Falls, entry_in, own_entries}
use Rattle.delf_service.specs.Follows.{Follows}
use Rattle.delf_service.specs.FollowLaws.{get_first}
use Rattle.delf_service.specs.Lanes.{state_before, size_read, Brings, TellsBytes, TellsPayload, TellsDown, TellsAnswer, TellsFault, TellsWhat, Tells, next_of_reply, next_at, own_of, IsFault, is_fault}
use Rattle.delf_service.specs.Standings.{Sees, state_at, seat_of}
use Rattle.delf_service.proofs.Answering.{own_is, later_rules, later_length}
use Rattle.delf_service.proofs.Entries.{falls_history}
use Rattle.delf_service.proofs.Seeing.{sees_more}

-- the state at a length is the same in each later standing
pub same_before : (s t : Standing) (at : ℕ) → Follows t s → at ≤ length s.history → state_before t at ≡ state_before s at
same_before s t at h le =
    ap (λ (r : RuleSet). after r (take at t.history)) (later_rules t s h)
    ∙ ap (λ (es : List Entry). after s.key.rules es) (ap (λ (es : List Entry). take at es) h.history.1 ∙ take-append-le at s.history h.history.0 le)

-- at the length that was found it is the state found
found_before : (x y : Standing) (at : ℕ) → Follows y x → at ≡ length x.history → state_at x ≡ state_before y at
found_before x y at h is =
    let front : take at y.history ≡ x.history = ap (λ (n : ℕ). take n y.history) is ∙ (ap (λ (es : List Entry). take (length x.history) es) h.history.1 ∙ take-append_seam x.history h.history.0) in
    sym (ap (λ (r : RuleSet). after r (take at y.history)) (later_rules y x h) ∙ ap (λ (es : List Entry). after x.key.rules es) front)

from_reply : (at : ℕ) (r : Result Receipt Refusal) → at ≤ next_of_reply at r
from_reply at (Ok receipt) = omega arith
from_reply at (Err why) = omega arith

-- a book that answers no fault was up
answers_up : (x y : Standing) (now seat : ℕ) (call : Call) (r : Result Receipt Refusal) → AnswersIn x y now seat call r → (is_fault r → ⊥) → x.down ≡ false
answers_up x y now seat call (Ok receipt) h not = h.up
answers_up x y now seat call (Err (refusal.Down len)) h not = absurd (not tt)
answers_up x y now seat call (Err refusal.OutOfMemory) h not = h.0
answers_up x y now seat call (Err (refusal.DiskFault len)) h not = absurd (not tt)
answers_up x y now seat call (Err other) h not = h.0

reads_up : (x y : Standing) (row : Option (ObjectRow × Option ℕ)) (why : Option BookFault) → ReadsIn x y row why → ((b : BookFault) × (why ≡ Some b) → ⊥) → x.down ≡ false
reads_up x y None None h not = h.0
reads_up x y (Some row) None h not = h.0
reads_up x y row (Some b) h not = absurd (not (b, refl))

-- the bytes that were read
bytes_now : (x : Standing) (row : Option (ObjectRow × Option ℕ)) (why : Option BookFault) (bytes payload : List ℕ) → length bytes ≡ 512 → payload ≡ take (size_read row why) bytes
    → ReadsTo x row why bytes → TellsBytes x row why payload
bytes_now x None why bytes payload size is h = is
bytes_now x (Some row) (Some why) bytes payload size is h = is
bytes_now x (Some row) None bytes payload size is h =
    let small = h.0 in
    let all : min row.0.size 512 ≡ row.0.size = omega (arith, small) in
    let front : payload ≡ take row.0.size bytes = is ∙ ap (λ (n : ℕ). take n bytes) all in
    (ap (λ (l : List ℕ). length l) front ∙ length-take-le row.0.size bytes (omega (arith, small, size)), λ plain. front ∙ h.1 plain)

-- in the standing that was left
module _ (x y : Standing) (follows : Follows y x) where
  down_now : (at len : ℕ) → at ≡ length x.history → IsDown x y len → TellsDown y at len
  down_now at len is h = record {
    down = ap (λ (z : Standing). z.down) h.same ∙ h.down;
    length_is = h.length_is ∙ sym (ap (λ (z : Standing). length z.history) h.same);
    at_is = is ∙ sym h.length_is;
  }

  fell_now : (at len : ℕ) → at ≡ length x.history → len ≡ length x.history → Falls x y → TellsDown y at len
  fell_now at len is len_is h = record {
    down = ap (λ (z : Standing). z.down) h.left;
    length_is = len_is ∙ sym (ap (λ (es : List Entry). length es) (falls_history x y h));
    at_is = is ∙ sym len_is;
  }

  module _ (turns : List (Moment Standing)) (sees_x : Sees turns x) (sees_y : Sees turns y) (now seat : ℕ) (call : Call) (a : Answer) (is : a.at ≡ length x.history) where
    brings_now : (receipt : Receipt) → (h : AcceptedIn x y now seat call receipt) → Brings turns a.at (entry_in x now h.what) (given_by call)
    brings_now receipt h = record { found = x; left = y; was_found = sees_x; was_left = sees_y; length_is = sym is; left_is = h.left; payloads = h.payloads }

    answer_now : (r : Result Receipt Refusal) → AnswersIn x y now seat call r → TellsAnswer turns y now seat call a.at r
    answer_now (Ok receipt) h =
        let same = found_before x y a.at follows is in
        record {
          what = h.what;
          is_reply = subst (λ (s : State). reply s (moment_of s now) seat call ≡ Ok h.what) same h.is_reply;
          stands = own_is x y now seat call a receipt is h ∙ ap (λ (s : State). Some (record { moment = moment_of s now; what = h.what })) same;
          maker = subst (λ (s : State). seat_of (record { moment = moment_of s now; what = h.what }) ≡ Some seat) same h.maker;
          position = h.position ∙ sym is;
          started = subst (λ (s : State). receipt.started ≡ started_by s h.what) same h.started;
          items = subst (λ (s : State). receipt.items ≡ restored_items s h.what) same h.items;
          brings = subst (λ (s : State). Brings turns a.at (record { moment = moment_of s now; what = h.what }) (given_by call)) same (brings_now receipt h);
        }
    answer_now (Err (refusal.Down len)) h = down_now a.at len is h
    answer_now (Err refusal.OutOfMemory) h = tt
    answer_now (Err (refusal.DiskFault len)) h = record {
      what = h.what;
      is_reply = subst (λ (s : State). reply s (moment_of s now) seat call ≡ Ok h.what) (found_before x y a.at follows is) h.is_reply;
      down = fell_now a.at len is h.length_is h.falls;
    }
    answer_now (Err other) h =
        subst (λ (s : State). reply s (moment_of s now) seat call ≡ Err other) (found_before x y a.at follows is) h.1

    below_now : (r : Result Receipt Refusal) → AnswersIn x y now seat call r → next_of_reply a.at r ≤ length y.history
    below_now (Ok receipt) h =
        let l = ap (λ (z : Standing). length z.history) h.left in
        let g = length-append x.history (entry_in x now h.what ∷ []) in
        omega (arith, l, g, is)
    below_now (Err why) h = let l = later_length y x follows in omega (arith, l, is)

  pub tells_call : (turns : List (Moment Standing)) → Sees turns x → Sees turns y → (now seat : ℕ) (call : Call) (a : Answer) → CallsIn x y now seat call a
      → Tells turns y now seat (Submit call) (Submitted a)
  tells_call turns sees_x sees_y now seat call a h = record {
    what = answer_now turns sees_x sees_y now seat call a h.at_is a.reply h.answers;
    below = below_now turns sees_x sees_y now seat call a h.at_is a.reply h.answers;
    from = from_reply a.at a.reply;
    found = x;
    was_found = sees_x;
    length_is = sym h.at_is;
    up = λ not. answers_up x y now seat call a.reply h.answers not;
  }

  reads_now : (at : ℕ) (row : Option (ObjectRow × Option ℕ)) (why : Option BookFault) → at ≡ length x.history → ReadsIn x y row why → TellsFault y at row why
  reads_now at None None is h = tt
  reads_now at None (Some (fault.Down len)) is h = down_now at len is h
  reads_now at None (Some (fault.DiskFault len)) is h = absurd h
  reads_now at (Some row) None is h = tt
  reads_now at (Some row) (Some (fault.Down len)) is h = down_now at len is h
  reads_now at (Some row) (Some (fault.DiskFault len)) is h = fell_now at len is h.1 h.0

  pub tells_asked : (turns : List (Moment Standing)) → Sees turns x → (now seat id : ℕ) (asked : Asked) (bytes payload : List ℕ) → length bytes ≡ 512
      → payload ≡ take (size_read asked.found asked.fault) bytes → AsksIn x y id bytes asked → Tells turns y now seat (Get id) (Got asked payload)
  tells_asked turns sees_x now seat id asked bytes payload size is_payload h = record {
    what = record {
      found_is = h.found_is ∙ ap (λ (s : State). found s id) (found_before x y asked.at follows h.at_is);
      reads = reads_now asked.at asked.found asked.fault h.at_is h.reads;
      payload_is = record {
        found = x;
        was_found = sees_x;
        length_is = sym h.at_is;
        bytes = bytes_now x asked.found asked.fault bytes payload size is_payload h.payload;
      };
    };
    below = let l = later_length y x follows in let is = h.at_is in omega (arith, l, is);
    from = omega arith;
    found = x;
    was_found = sees_x;
    length_is = sym h.at_is;
    up = λ not. reads_up x y asked.found asked.fault h.reads not;
  }

-- in each later one
module _ (s t : Standing) (follows : Follows t s) where
  down_later : (at len : ℕ) → TellsDown s at len → TellsDown t at len
  down_later at len h =
      let then = follows.down h.down in
      record { down = then.0; length_is = h.length_is ∙ sym (ap (λ (es : List Entry). length es) then.1); at_is = h.at_is }

  module _ (ms ns : List (Moment Standing)) (more : (m : Moment Standing) → Contains ms m → Contains ns m) (now seat : ℕ) where
    brings_later : (at : ℕ) (e : Entry) (given : List ℕ) → Brings ms at e given → Brings ns at e given
    brings_later at e given h = record {
      found = h.found;
      left = h.left;
      was_found = sees_more ms ns h.found more h.was_found;
      was_left = sees_more ms ns h.left more h.was_left;
      length_is = h.length_is;
      left_is = h.left_is;
      payloads = h.payloads;
    }

    payload_later : (asked : Asked) (payload : List ℕ) → TellsPayload ms asked payload → TellsPayload ns asked payload
    payload_later asked payload h = record { found = h.found; was_found = sees_more ms ns h.found more h.was_found; length_is = h.length_is; bytes = h.bytes }

    answer_later : (call : Call) (at : ℕ) (r : Result Receipt Refusal) → next_of_reply at r ≤ length s.history → TellsAnswer ms s now seat call at r → TellsAnswer ns t now seat call at r
    answer_later call at (Ok receipt) le h =
        let same = sym (same_before s t at follows (omega (arith, le))) in
        record {
          what = h.what;
          is_reply = subst (λ (z : State). reply z (moment_of z now) seat call ≡ Ok h.what) same h.is_reply;
          stands = ap (λ (es : List Entry). slice_get es at) follows.history.1 ∙ (get_first s.history follows.history.0 at (omega (arith, le)) ∙ (h.stands
              ∙ ap (λ (z : State). Some (record { moment = moment_of z now; what = h.what })) same));
          maker = subst (λ (z : State). seat_of (record { moment = moment_of z now; what = h.what }) ≡ Some seat) same h.maker;
          position = h.position;
          started = subst (λ (z : State). receipt.started ≡ started_by z h.what) same h.started;
          items = subst (λ (z : State). receipt.items ≡ restored_items z h.what) same h.items;
          brings = subst (λ (z : State). Brings ns at (record { moment = moment_of z now; what = h.what }) (given_by call)) same (brings_later at _ (given_by call) h.brings);
        }
    answer_later call at (Err (refusal.Down len)) le h = down_later at len h
    answer_later call at (Err refusal.OutOfMemory) le h = tt
    answer_later call at (Err (refusal.DiskFault len)) le h = record {
      what = h.what;
      is_reply = subst (λ (z : State). reply z (moment_of z now) seat call ≡ Ok h.what) (sym (same_before s t at follows le)) h.is_reply;
      down = down_later at len h.down;
    }
    answer_later call at (Err other) le h =
        subst (λ (z : State). reply z (moment_of z now) seat call ≡ Err other) (sym (same_before s t at follows le)) h

    reads_later : (at : ℕ) (row : Option (ObjectRow × Option ℕ)) (why : Option BookFault) → TellsFault s at row why → TellsFault t at row why
    reads_later at None None h = tt
    reads_later at None (Some (fault.Down len)) h = down_later at len h
    reads_later at None (Some (fault.DiskFault len)) h = absurd h
    reads_later at (Some row) None h = tt
    reads_later at (Some row) (Some (fault.Down len)) h = down_later at len h
    reads_later at (Some row) (Some (fault.DiskFault len)) h = down_later at len h

    what_later : (c : LaneCommand) (r : LaneReply) → next_at r ≤ length s.history → TellsWhat ms s now seat c r → TellsWhat ns t now seat c r
    what_later (Submit call) (Submitted a) le h = answer_later call a.at a.reply le h
    what_later (Submit call) (Got asked payload) le h = absurd h
    what_later (Get id) (Submitted a) le h = absurd h
    what_later (Get id) (Got asked payload) le h = record {
      found_is = h.found_is ∙ ap (λ (z : State). found z id) (sym (same_before s t asked.at follows le));
      reads = reads_later asked.at asked.found asked.fault h.reads;
      payload_is = payload_later asked payload h.payload_is;
    }

    pub tells_later : (c : LaneCommand) (r : LaneReply) → Tells ms s now seat c r → Tells ns t now seat c r
    tells_later c r h = record {
      what = what_later c r h.below h.what;
      below = let l = later_length t s follows in let b = h.below in omega (arith, l, b);
      from = h.from;
      found = h.found;
      was_found = sees_more ms ns h.found more h.was_found;
      length_is = h.length_is;
      up = h.up;
    }

  own_reply : (a : Answer) (r : Result Receipt Refusal) → next_of_reply a.at r ≤ length s.history → own_entries t a r ≡ own_entries s a r
  own_reply a (Ok receipt) le =
      ap (λ (o : Option Entry). option_to_list o) (ap (λ (es : List Entry). slice_get es a.at) follows.history.1 ∙ get_first s.history follows.history.0 a.at (omega (arith, le)))
  own_reply a (Err why) le = refl

  -- the entry of an accepted call is the same
  pub own_later : (r : LaneReply) → next_at r ≤ length s.history → own_of t r ≡ own_of s r
  own_later (Submitted a) le = own_reply a a.reply le
  own_later (Got asked payload) le = refl

-- who tells of a fault has seen the book down
module _ (ms : List (Moment Standing)) (s : Standing) (now seat : ℕ) where
  fault_answer : (call : Call) (at : ℕ) (r : Result Receipt Refusal) → TellsAnswer ms s now seat call at r → is_fault r → s.down ≡ true
  fault_answer call at (Ok receipt) h f = absurd f
  fault_answer call at (Err (refusal.Down len)) h f = h.down
  fault_answer call at (Err (refusal.DiskFault len)) h f = h.down.down
  fault_answer call at (Err other) h f = absurd f

  fault_read : (at : ℕ) (row : Option (ObjectRow × Option ℕ)) (o : Option BookFault) (why : BookFault) → o ≡ Some why → TellsFault s at row o → s.down ≡ true
  fault_read at None None why e h = absurd (cc e)
  fault_read at None (Some (fault.Down len)) why e h = h.down
  fault_read at None (Some (fault.DiskFault len)) why e h = absurd h
  fault_read at (Some row) None why e h = absurd (cc e)
  fault_read at (Some row) (Some (fault.Down len)) why e h = h.down
  fault_read at (Some row) (Some (fault.DiskFault len)) why e h = h.down

  fault_what : (c : LaneCommand) (r : LaneReply) → TellsWhat ms s now seat c r → IsFault r → s.down ≡ true
  fault_what (Submit call) (Submitted a) h f = fault_answer call a.at a.reply h f
  fault_what (Submit call) (Got asked payload) h f = absurd h
  fault_what (Get id) (Submitted a) h f = absurd h
  fault_what (Get id) (Got asked payload) h f = fault_read asked.at asked.found asked.fault f.0 f.1 h.reads

  pub fault_down : (c : LaneCommand) (r : LaneReply) → Tells ms s now seat c r → IsFault r → s.down ≡ true
  fault_down c r h f = fault_what c r h.what f
