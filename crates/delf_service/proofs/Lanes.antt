-- The replies of a lane: one more, and in each later standing.
use Rattle.std.proofs.Common.{◌≡◌, ℕ, suc, ◌<◌, ◌≤◌, Bool, true, false, List, [], ◌∷◌, ◌++◌, length, Option, Some, None, Result, Ok, Err, refl, sym, ap, ◌∙◌, subst, arith, ⊎_elim, inr, append_assoc, append-nil, length-append}
use Rattle.std.specs.Prelude.{◌↔◌, IfNone, IfOk, IsTrue, slice_get, take}
use Rattle.std.specs.Result.{result_ok}
use Rattle.std.specs.List.{Contains}
use Rattle.delf_model.specs.declared.call.Call.{Call}
use Rattle.delf_model.specs.declared.call.Refusal.{Refusal}
use Rattle.delf_model.specs.declared.call.Refusal.TheVariants as refusal
use Rattle.delf_model.specs.declared.entry.Entry.{Entry}
use Rattle.delf_model.specs.declared.rows.ObjectRow.{ObjectRow}
use Rattle.delf_model.specs.declared.script.LaneCommand.{LaneCommand}
use Rattle.delf_model.specs.declared.script.LaneCommand.TheVariants.{Submit, Get}
use Rattle.delf_model.specs.RuleSet.{RuleSet}
use Rattle.delf_book.specs.declared.answers.BookFault.{BookFault}
use Rattle.delf_book.specs.declared.answers.BookFault.TheVariants as fault
use Rattle.delf_book.specs.declared.answers.Receipt.{Receipt}
use Rattle.seat_lock.specs.declared.view.Moment.{Moment}
use Rattle.seat_lock.specs.declared.view.View.{View}
use Rattle.delf_service.specs.declared.answers.Answer.{Answer}
use Rattle.delf_service.specs.declared.answers.Asked.{Asked}
use Rattle.delf_service.specs.declared.replies.LaneReply.{LaneReply}
use Rattle.delf_service.specs.declared.replies.LaneReply.TheVariants.{Submitted as SubmittedReply, Got}
use Rattle.delf_service.specs.declared.standing.Standing.{Standing}
use Rattle.delf_service.specs.Asks.{Inquired, ReadsIn}
use Rattle.delf_service.specs.Calls.{AnswersIn, Falls, Submitted, added_by}
use Rattle.delf_service.specs.Follows.{Follows, IsMoment}
use Rattle.delf_service.specs.FollowLaws.{Follows-chain, get_first}
use Rattle.delf_service.specs.Lanes.{Tells, at_of, own_of, accepted, IsFresh, is_fresh, is_fresh_read, LaneTold, Ended, IsStarved, AreFed, HasCommand, Makes, Stops, size_read}
use Rattle.delf_service.specs.Turns.{Keeps}
use Rattle.delf_service.specs.Workers.{LeavesAll}
use Rattle.delf_service.proofs.Answering.{answers_follow, later_rules, later_moment, later_length}
use Rattle.delf_service.proofs.Entries.{get_last}
use Rattle.delf_service.proofs.Places.{push_cases}
use Rattle.delf_service.proofs.Tellings.{tells_call, tells_asked, tells_later, own_later, fault_down}
use Rattle.delf_service.proofs.Turns.{reads_follow}

abbrev SeatView : Type 0
SeatView = View Standing Entry

module _ (s t : Standing) where
  accepted_same : (rs : List LaneReply) → ((k : ℕ) (r : LaneReply) → slice_get rs k ≡ Some r → own_of t r ≡ own_of s r) → accepted t rs ≡ accepted s rs
  accepted_same [] each = refl
  accepted_same (r ∷ rs) each =
      ap (λ (es : List Entry). es ++ accepted t rs) (each 0 r refl) ∙ ap (λ (es : List Entry). own_of s r ++ es) (accepted_same rs (λ k q at. each (suc k) q at))

accepted-push : (t : Standing) (rs : List LaneReply) (r : LaneReply) → accepted t (rs ++ r ∷ []) ≡ accepted t rs ++ own_of t r
accepted-push t [] r = append-nil (own_of t r)
accepted-push t (q ∷ rs) r = ap (λ (es : List Entry). own_of t q ++ es) (accepted-push t rs r) ∙ sym (append_assoc (own_of t q) (accepted t rs) (own_of t r))

module _ (now seat : ℕ) (commands : List LaneCommand) where
  same_accepted : (ms : List (Moment Standing)) (s t : Standing) (made : List Entry) (rs : List LaneReply) → Follows t s → LaneTold ms s now seat made commands rs → accepted t rs ≡ accepted s rs
  same_accepted ms s t made rs follows h = accepted_same s t rs (λ k r at. own_later s t follows r (h.told k r at).2.below)

  -- what is told of a lane holds in each later standing, for one who remembers no less
  pub told_later : (ms ns : List (Moment Standing)) → ((m : Moment Standing) → Contains ms m → Contains ns m) → (s t : Standing) (made : List Entry) (rs : List LaneReply) → Follows t s
      → LaneTold ms s now seat made commands rs → LaneTold ns t now seat made commands rs
  told_later ms ns more s t made rs follows h = record {
    told = λ k r at. let q = h.told k r at in (q.0, q.1, tells_later s t follows ms ns more now seat q.0 r q.2);
    rising = h.rising;
    fresh = h.fresh;
    fed = h.fed;
    made_is = h.made_is ∙ sym (same_accepted ms s t made rs follows h);
  }

  -- one command more
  pub told_push : (v w : SeatView) (rs : List LaneReply) (c : LaneCommand) (r : LaneReply) → v.number ≡ seat → AreFed rs → LaneTold v.remembers v.seen.state now seat v.made commands rs
      → slice_get commands (length rs) ≡ Some c → Makes v w now c r → LaneTold w.remembers w.seen.state now seat w.made commands (rs ++ r ∷ [])
  told_push v w rs c r is_seat all_fed h there m = record {
    told = λ k q at. ⊎_elim
        (λ before. let p = h.told k q before.1 in (p.0, p.1, tells_later s t m.later v.remembers w.remembers m.keeps now seat p.0 q p.2))
        (λ here. (
          c,
          ap (λ (n : ℕ). slice_get commands n) here.0 ∙ there,
          subst (λ (n : ℕ). Tells w.remembers t now n c q) is_seat (subst (λ (z : LaneReply). Tells w.remembers t now v.number c z) here.1 m.tells),
        ))
        (push_cases rs r q k at);
    rising = λ i j a b less at_i at_j. ⊎_elim
        (λ before. h.rising i j a b less (in_front i a j less at_i (omega (arith, before.0))) before.1)
        (λ here.
        let front = in_front i a j less at_i (omega (arith, here.0)) in
        let low = (h.told i a front).2.below in
        let high = m.above in
        let last : at_of r ≡ at_of b = ap at_of here.1 in
        omega (arith, low, high, last))
        (push_cases rs r b j at_j);
    fresh = λ i j a b less at_i at_j fault fresh. ⊎_elim
        (λ before. h.fresh i j a b less (in_front i a j less at_i (omega (arith, before.0))) before.1 fault fresh)
        (λ here.
        let front = in_front i a j less at_i (omega (arith, here.0)) in
        let q = h.told i a front in
        let down = fault_down v.remembers s now seat q.0 a q.2 fault in
        let up = m.fresh (subst (λ (z : LaneReply). IsFresh z) (sym here.1) fresh) in
        absurd (cc (down, up)))
        (push_cases rs r b j at_j);
    fed = λ i j a b less at_i at_j starved. ⊎_elim
        (λ before. h.fed i j a b less (in_front i a j less at_i (omega (arith, before.0))) before.1 starved)
        (λ here. all_fed i a (in_front i a j less at_i (omega (arith, here.0))) starved)
        (push_cases rs r b j at_j);
    made_is = m.made_is ∙ (ap (λ (es : List Entry). es ++ own_of t r) (h.made_is ∙ sym (same_accepted v.remembers s t v.made rs m.later h)) ∙ sym (accepted-push t rs r));
  } where
    s : Standing
    s = v.seen.state

    t : Standing
    t = w.seen.state

    in_front : (i : ℕ) (a : LaneReply) (j : ℕ) → i < j → slice_get (rs ++ r ∷ []) i ≡ Some a → j ≤ length rs → slice_get rs i ≡ Some a
    in_front i a j less at le = sym (get_first rs (r ∷ []) i (omega (arith, less, le))) ∙ at

  -- no command yet
  pub told_none : (ms : List (Moment Standing)) (s : Standing) (made : List Entry) → made ≡ [] → LaneTold ms s now seat made commands []
  told_none ms s made none = record {
    told = λ k r at. absurd (cc at);
    rising = λ i j a b less at_i at_j. absurd (cc at_i);
    fresh = λ i j a b less at_i at_j fault fresh. absurd (cc at_i);
    fed = λ i j a b less at_i at_j starved. absurd (cc at_i);
    made_is = none;
  }

-- a lane with no commands made no entry
pub told_nothing : (ms : List (Moment Standing)) (s : Standing) (now seat : ℕ) (made : List Entry) (commands : List LaneCommand) (rs : List LaneReply) → commands ≡ []
    → LaneTold ms s now seat made commands rs → made ≡ []
told_nothing ms s now seat made commands [] none h = h.made_is
told_nothing ms s now seat made commands (r ∷ rs) none h =
    let told = h.told 0 r refl in
    let there = told.1 in
    let nothing : slice_get commands 0 ≡ None = ap (λ (l : List LaneCommand). slice_get l 0) none in
    absurd (cc (there, nothing))

-- a book that would have been found down was up
not_down : (b : Bool) → (b ≡ true → ⊥) → b ≡ false
not_down true h = absurd (h refl)
not_down false h = refl

was_up : (x s : Standing) → Follows x s → x.down ≡ false → s.down ≡ false
was_up x s follows up = not_down s.down (λ down. let then = follows.down down in let d = then.0 in absurd (cc (up, d)))

fresh_answer : (x y : Standing) (now seat : ℕ) (call : Call) (r : Result Receipt Refusal) → AnswersIn x y now seat call r → is_fresh r → x.down ≡ false
fresh_answer x y now seat call (Ok receipt) h f = absurd f
fresh_answer x y now seat call (Err (refusal.DiskFault len)) h f = h.falls.up
fresh_answer x y now seat call (Err other) h f = absurd f

fresh_read : (x y : Standing) (row : Option (ObjectRow × Option ℕ)) (why : Option BookFault) → ReadsIn x y row why → is_fresh_read why → x.down ≡ false
fresh_read x y row None h f = absurd f
fresh_read x y None (Some (fault.Down len)) h f = absurd f
fresh_read x y None (Some (fault.DiskFault len)) h f = absurd h
fresh_read x y (Some row) (Some (fault.Down len)) h f = absurd f
fresh_read x y (Some row) (Some (fault.DiskFault len)) h f = h.0.up

-- each call and question leaves as many lanes as it finds
fell_lanes : (x y : Standing) → Falls x y → y.lanes ≡ x.lanes
fell_lanes x y h = ap (λ (z : Standing). z.lanes) h.left

answers_lanes : (x y : Standing) (now seat : ℕ) (call : Call) (r : Result Receipt Refusal) → AnswersIn x y now seat call r → y.lanes ≡ x.lanes
answers_lanes x y now seat call (Ok receipt) h = ap (λ (z : Standing). z.lanes) h.left
answers_lanes x y now seat call (Err (refusal.Down len)) h = ap (λ (z : Standing). z.lanes) h.same
answers_lanes x y now seat call (Err refusal.OutOfMemory) h = ap (λ (z : Standing). z.lanes) h.1
answers_lanes x y now seat call (Err (refusal.DiskFault len)) h = fell_lanes x y h.falls
answers_lanes x y now seat call (Err other) h = ap (λ (z : Standing). z.lanes) h.2

reads_lanes : (x y : Standing) (row : Option (ObjectRow × Option ℕ)) (why : Option BookFault) → ReadsIn x y row why → y.lanes ≡ x.lanes
reads_lanes x y None None h = ap (λ (z : Standing). z.lanes) h.1
reads_lanes x y None (Some (fault.Down len)) h = ap (λ (z : Standing). z.lanes) h.same
reads_lanes x y None (Some (fault.DiskFault len)) h = absurd h
reads_lanes x y (Some row) None h = ap (λ (z : Standing). z.lanes) h.1
reads_lanes x y (Some row) (Some (fault.Down len)) h = ap (λ (z : Standing). z.lanes) h.same
reads_lanes x y (Some row) (Some (fault.DiskFault len)) h = fell_lanes x y h.0

module _ (v w : SeatView) (now : ℕ) where
  pub submit_makes : (call : Call) (a : Answer) → IsMoment v.seen.state.key now → Submitted v w now call a → w.made ≡ v.made ++ added_by w.seen.state a → Makes v w now (Submit call) (SubmittedReply a)
  submit_makes call a is h made =
      let s = v.seen.state in
      let t = w.seen.state in
      let x = h.found in
      let step : Follows t x = answers_follow x t now v.number call (later_moment x s now h.turn.later is) a.reply h.calls.answers in
      record {
        later = Follows-chain t x s step h.turn.later;
        keeps = h.turn.keeps;
        tells = tells_call x t step w.remembers h.turn.was_found h.turn.was_left now v.number call a h.calls;
        above = let l = later_length x s h.turn.later in let at = h.calls.at_is in omega (arith, l, at);
        fresh = λ f. was_up x s h.turn.later (fresh_answer x t now v.number call a.reply h.calls.answers f);
        made_is = made;
        leaves = record { found = x; later = h.turn.later; lanes_is = answers_lanes x t now v.number call a.reply h.calls.answers };
      }

  ask_leaves : (id : ℕ) (bytes : List ℕ) (asked : Asked) → Inquired v w id bytes asked → LeavesAll v.seen.state w.seen.state
  ask_leaves id bytes asked h = record { found = h.found; later = h.turn.later; lanes_is = reads_lanes h.found w.seen.state asked.found asked.fault h.asks.reads }

  ask_follows : (id : ℕ) (bytes : List ℕ) (asked : Asked) → Inquired v w id bytes asked → Follows w.seen.state v.seen.state
  ask_follows id bytes asked h = Follows-chain w.seen.state h.found v.seen.state (reads_follow h.found w.seen.state asked.found asked.fault h.asks.reads) h.turn.later

  pub ask_makes : (id : ℕ) (bytes : List ℕ) (asked : Asked) (payload : List ℕ) → Inquired v w id bytes asked → length bytes ≡ 512 → payload ≡ take (size_read asked.found asked.fault) bytes → w.made ≡ v.made
      → Makes v w now (Get id) (Got asked payload)
  ask_makes id bytes asked payload h size is made =
      let s = v.seen.state in
      let t = w.seen.state in
      let x = h.found in
      record {
        later = ask_follows id bytes asked h;
        keeps = h.turn.keeps;
        tells = tells_asked x t (reads_follow x t asked.found asked.fault h.asks.reads) w.remembers h.turn.was_found now v.number id asked bytes payload size is h.asks;
        above = let l = later_length x s h.turn.later in let at = h.asks.at_is in omega (arith, l, at);
        fresh = λ f. was_up x s h.turn.later (fresh_read x t asked.found asked.fault h.asks.reads f);
        made_is = made ∙ sym (append-nil v.made);
        leaves = ask_leaves id bytes asked h;
      }

  pub ask_stops : (id : ℕ) (bytes : List ℕ) (asked : Asked) → Inquired v w id bytes asked → w.made ≡ v.made → Stops v w
  ask_stops id bytes asked h made = record { later = ask_follows id bytes asked h; keeps = h.turn.keeps; made_is = made; leaves = ask_leaves id bytes asked h }

-- what holds in any case holds where there is nothing
pub if_none : {A : Type 0} (o : Option A) (P : Type 0) → P → IfNone o P
if_none None P p = p
if_none (Some x) P p = tt

-- the bytes that were copied
pub read_is : {E : Type 0} (r : Result (List ℕ) E) (payload front : List ℕ) → result_ok r ≡ Some payload → IfOk r (λ b. b ≡ front) → payload ≡ front
read_is (Ok b) payload front ok is = let same : b ≡ payload = cc in sym same ∙ is
read_is (Err why) payload front ok is = absurd (cc ok)

-- numbers of a command that are below the counts stay so
pub later_command : (x s : Standing) (c : LaneCommand) → Follows x s → HasCommand s.key.rules c → HasCommand x.key.rules c
later_command x s c h numbers = subst (λ (r : RuleSet). HasCommand r c) (sym (later_rules x s h)) numbers

-- the next reply of a lane
pub told_next : (now seat i : ℕ) (commands : List LaneCommand) (v w : SeatView) (rs rs' : List LaneReply) (c : LaneCommand) (r : LaneReply) → LaneTold v.remembers v.seen.state now seat v.made commands rs → AreFed rs
    → length rs ≡ i → slice_get commands i ≡ Some c → v.number ≡ seat → Makes v w now c r → rs' ≡ rs ++ r ∷ [] → LaneTold w.remembers w.seen.state now seat w.made commands rs'
told_next now seat i commands v w rs rs' c r h all_fed count there same makes longer =
    subst (λ (l : List LaneReply). LaneTold w.remembers w.seen.state now seat w.made commands l) (sym longer)
    (told_push now seat commands v w rs c r same all_fed h (ap (λ (k : ℕ). slice_get commands k) count ∙ there) makes)

pub told_stops : (now seat : ℕ) (commands : List LaneCommand) (v w : SeatView) (rs : List LaneReply) → LaneTold v.remembers v.seen.state now seat v.made commands rs → Follows w.seen.state v.seen.state
    → Keeps v w → w.made ≡ v.made → LaneTold w.remembers w.seen.state now seat w.made commands rs
told_stops now seat commands v w rs h later keeps made =
    subst (λ (es : List Entry). LaneTold w.remembers w.seen.state now seat es commands rs) (sym made)
    (told_later now seat commands v.remembers w.remembers keeps v.seen.state w.seen.state v.made rs later h)

-- one reply more, which is not starved
pub fed_more : (rs rs' : List LaneReply) (r : LaneReply) → AreFed rs → rs' ≡ rs ++ r ∷ [] → (IsStarved r → ⊥) → AreFed rs'
fed_more rs rs' r all longer not k q at = ⊎_elim
    (λ before. all k q before.1)
    (λ here. subst (λ (z : LaneReply). IsStarved z → ⊥) here.1 not)
    (push_cases rs r q k (ap (λ (l : List LaneReply). slice_get l k) (sym longer) ∙ at))

pub fed_none : (rs : List LaneReply) → rs ≡ [] → AreFed rs
fed_none rs none k r at = let nothing : slice_get rs k ≡ None = ap (λ (l : List LaneReply). slice_get l k) none in absurd (cc (at, nothing))

-- a reply that the test does not tell as starved is not
pub not_starved : (b : Bool) (P : Type 0) → IsTrue b ↔ P → b ≡ false → P → ⊥
not_starved b P both is p = let yes : IsTrue b = both.1 p in absurd (cc (yes, is))

-- a lane that ended with this reply
pub ended_by : (commands : List LaneCommand) (rs rs' : List LaneReply) (r : LaneReply) → rs' ≡ rs ++ r ∷ [] → IsStarved r → Ended commands rs'
ended_by commands rs rs' r longer starved =
    let l = ap (λ (x : List LaneReply). length x) longer in
    let a = length-append rs (r ∷ []) in
    inr (length rs, r, omega (arith, l, a), ap (λ (x : List LaneReply). slice_get x (length rs)) longer ∙ get_last rs r, starved)
