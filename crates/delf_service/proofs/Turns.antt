-- What a question and a step do to the standing that they find, as the lock asks for it and as the seat sees it.
use Rattle.std.proofs.Common.{◌≡◌, ℕ, List, [], Option, Some, None, Result, Ok, Err, ◌++◌, length, take, arith, refl, sym, ap, ◌∙◌, subst}
use Rattle.delf_model.specs.declared.entry.Entry.{Entry}
use Rattle.delf_model.specs.Legal.{Legal}
use Rattle.delf_model.specs.declared.rows.ObjectRow.{ObjectRow}
use Rattle.delf_book.specs.declared.answers.BookFault.{BookFault}
use Rattle.delf_book.specs.declared.answers.BookFault.TheVariants as book
use Rattle.delf_book.specs.declared.answers.StepFault.{StepFault}
use Rattle.delf_book.specs.declared.answers.StepFault.TheVariants as fault
use Rattle.seat_lock.specs.declared.view.View.{View}
use Rattle.seat_lock.specs.Promises.{OnlyMade, IsNext}
use Rattle.seat_lock.specs.Views.{made_by, moment, took_turn, IsSameSeat}
use Rattle.delf_service.specs.declared.answers.Asked.{Asked}
use Rattle.delf_service.specs.declared.answers.Turned.{Turned}
use Rattle.delf_service.specs.declared.answers.Turned.TheVariants as turned
use Rattle.delf_service.specs.declared.standing.Standing.{Standing}
use Rattle.std.proofs.lemmas.List.{take-append-le}
use Rattle.delf_service.specs.Asks.{ReadsIn, ReadsTo, AsksIn, Inquired}
use Rattle.delf_service.specs.Calls.{Falls, entry_in}
use Rattle.delf_service.specs.Follows.{Follows, IsMoment}
use Rattle.delf_service.specs.Blocks.{IsBehind}
use Rattle.delf_service.specs.Standings.{IsCaused, payloads_of, seat_of}
use Rattle.delf_service.specs.Turns.{HadTurn}
use Rattle.delete_step.specs.Claims.{ClaimView}
use Rattle.delf_service.specs.declared.answers.Began.{Began}
use Rattle.delf_service.specs.declared.answers.Began.TheVariants as began
use Rattle.delf_service.specs.FollowLaws.{Follows-chain}
use Rattle.delf_service.specs.Works.{StepsIn, TurnsIn, Worked, BeginsIn, EndsIn, Passed, BeginsTurn, EndsTurn}
use Rattle.delf_service.proofs.Seeing.{had_turn, keeps_chain}
use Rattle.delf_service.proofs.Answering.{moved, later_moment}
use Rattle.delf_service.proofs.Entries.{push_none, entry_follows, falls_follows, same_follows, falls_history}

module _ (x y : Standing) where
  same_all : (k : ℕ) → y ≡ x → made_by seat_of k y.history ≡ made_by seat_of k x.history
  same_all k same = ap (λ (z : Standing). made_by seat_of k z.history) same

  fell_all : (k : ℕ) → Falls x y → made_by seat_of k y.history ≡ made_by seat_of k x.history
  fell_all k falls = ap (λ (es : List Entry). made_by seat_of k es) (falls_history x y falls)

  pub reads_follow : (found : Option (ObjectRow × Option ℕ)) (why : Option BookFault) → ReadsIn x y found why → Follows y x
  reads_follow None None h = same_follows x y h.1
  reads_follow None (Some (book.Down len)) h = same_follows x y h.same
  reads_follow None (Some (book.DiskFault len)) h = absurd h
  reads_follow (Some row) None h = same_follows x y h.1
  reads_follow (Some row) (Some (book.Down len)) h = same_follows x y h.same
  reads_follow (Some row) (Some (book.DiskFault len)) h = falls_follows x y h.0

  -- nobody made an entry
  pub reads_all : (found : Option (ObjectRow × Option ℕ)) (why : Option BookFault) → ReadsIn x y found why → (k : ℕ) → made_by seat_of k y.history ≡ made_by seat_of k x.history
  reads_all None None h k = same_all k h.1
  reads_all None (Some (book.Down len)) h k = same_all k h.same
  reads_all None (Some (book.DiskFault len)) h k = absurd h
  reads_all (Some row) None h k = same_all k h.1
  reads_all (Some row) (Some (book.Down len)) h k = same_all k h.same
  reads_all (Some row) (Some (book.DiskFault len)) h k = fell_all k h.0

  pub steps_follow : (now : ℕ) → IsMoment x.key now → (outcome : Result Turned StepFault) → StepsIn x y now outcome → Follows y x
  steps_follow now is (Ok (turned.Stepped position)) h = subst (λ (z : Standing). Follows z x) (sym h.left) (entry_follows x now h.what [] (payloads_of y) is h.up h.payloads)
  steps_follow now is (Ok (turned.Idle len)) h = same_follows x y h.same
  steps_follow now is (Err (fault.Down len)) h = same_follows x y h.same
  steps_follow now is (Err fault.OutOfMemory) h = same_follows x y h.same
  steps_follow now is (Err (fault.DiskFault len)) h = falls_follows x y h.falls
  steps_follow now is (Err (fault.Damaged item stored found)) h = same_follows x y h.same

  -- no seat made an entry
  pub steps_all : (now : ℕ) (outcome : Result Turned StepFault) → StepsIn x y now outcome → (k : ℕ) → made_by seat_of k y.history ≡ made_by seat_of k x.history
  steps_all now (Ok (turned.Stepped position)) h k = ap (λ (z : Standing). made_by seat_of k z.history) h.left ∙ push_none k x.history (entry_in x now h.what) h.maker
  steps_all now (Ok (turned.Idle len)) h k = same_all k h.same
  steps_all now (Err (fault.Down len)) h k = same_all k h.same
  steps_all now (Err fault.OutOfMemory) h k = same_all k h.same
  steps_all now (Err (fault.DiskFault len)) h k = fell_all k h.falls
  steps_all now (Err (fault.Damaged item stored found)) h k = same_all k h.same

  -- the halves of a turn
  pub begins_follow : (now : ℕ) → IsMoment x.key now → (r : Began) → BeginsIn x y now r → Follows y x
  begins_follow now is (began.Claimed claim) h = same_follows x y h.same
  begins_follow now is (began.Over outcome) h = steps_follow now is outcome h.steps

  pub begins_all : (now : ℕ) (r : Began) → BeginsIn x y now r → (k : ℕ) → made_by seat_of k y.history ≡ made_by seat_of k x.history
  begins_all now (began.Claimed claim) h k = same_all k h.same
  begins_all now (began.Over outcome) h k = steps_all now outcome h.steps k

  pub ends_follow : (now : ℕ) → IsMoment x.key now → (r : Option (Result Turned StepFault)) → EndsIn x y now r → Follows y x
  ends_follow now is None h = same_follows x y h.same
  ends_follow now is (Some outcome) h = steps_follow now is outcome h.steps

  pub ends_all : (now : ℕ) (r : Option (Result Turned StepFault)) → EndsIn x y now r → (k : ℕ) → made_by seat_of k y.history ≡ made_by seat_of k x.history
  ends_all now None h k = same_all k h.same
  ends_all now (Some outcome) h k = steps_all now outcome h.steps k

-- one turn more behind the first standing
pub is_behind : (first x y : Standing) (now : ℕ) (r : Result Turned StepFault) → Follows x first → ((n : ℕ) → made_by seat_of n x.history ≡ made_by seat_of n first.history) → IsMoment x.key now
    → TurnsIn x y now r → Legal y.key.rules y.history → IsCaused y → IsBehind first y
is_behind first x y now r later only is h legal cause = record {
  later = Follows-chain y x first (steps_follow x y now is r h.steps) later;
  legal = legal;
  cause = cause;
  only = λ n. steps_all x y now r h.steps n ∙ only n;
}

-- turns that went before
pub passed_worked : (now : ℕ) (u v w : View Standing Entry) (outcome : Result Turned StepFault) → Passed u v → Worked v w now outcome → Worked u w now outcome
passed_worked now u v w outcome p h = record {
  found = h.found;
  turn = record {
    later = Follows-chain h.found v.seen.state u.seen.state h.turn.later p.0;
    keeps = keeps_chain u v w p.1 h.turn.keeps;
    was_found = h.turn.was_found;
    was_left = h.turn.was_left;
  };
  turns = h.turns;
}

pub passed_ends : (now : ℕ) (u v w : View Standing Entry) (r : Option (Result Turned StepFault)) → Passed u v → EndsTurn v w now r → EndsTurn u w now r
passed_ends now u v w None p h = (Follows-chain w.seen.state v.seen.state u.seen.state h.0 p.0, keeps_chain u v w p.1 h.1)
passed_ends now u v w (Some outcome) p h = passed_worked now u v w outcome p h

-- a row was claimed, or the whole was done
pub begun_passed : (now : ℕ) (v w : View Standing Entry) (r : Began) (claim : ClaimView) → r ≡ began.Claimed claim → BeginsTurn v w now r → Passed v w
begun_passed now v w r claim is h = subst (λ (z : Began). BeginsTurn v w now z) is h

pub begun_over : (now : ℕ) (v w : View Standing Entry) (r : Began) (outcome : Result Turned StepFault) → r ≡ began.Over outcome → BeginsTurn v w now r → Worked v w now outcome
begun_over now v w r outcome is h = subst (λ (z : Began). BeginsTurn v w now z) is h

-- the second half, behind turns that went before
pub ended_some : (now : ℕ) (u v w : View Standing Entry) (r : Option (Result Turned StepFault)) (outcome : Result Turned StepFault) → Passed u v → r ≡ Some outcome → EndsTurn v w now r → Worked u w now outcome
ended_some now u v w r outcome p is h = passed_worked now u v w outcome p (subst (λ (z : Option (Result Turned StepFault)). EndsTurn v w now z) is h)

pub ended_none : (now : ℕ) (u v w : View Standing Entry) (r : Option (Result Turned StepFault)) → Passed u v → ((outcome : Result Turned StepFault) → r ≡ Some outcome → ⊥) → EndsTurn v w now r → Passed u w
ended_none now u v w None p not h = passed_ends now u v w None p h
ended_none now u v w (Some outcome) p not h = absurd (not outcome refl)

-- one turn: what is left may be left
module _ {T : Type 0} (st : T → Standing) (s : Standing) (x y a b : T) (shows : a ≡ x) (leaves : b ≡ y) where
  pub turn_did : (now : ℕ) (r : Result Turned StepFault) → TurnsIn (st a) (st b) now r → TurnsIn (st x) (st y) now r
  turn_did now r met = moved (λ (p : T) (q : T). TurnsIn (st p) (st q) now r) a b x y shows leaves met

  pub turn_grows : (now k : ℕ) (r : Result Turned StepFault) → IsMoment s.key now → Follows (st x) s → TurnsIn (st a) (st b) now r → Follows (st y) (st x) × OnlyMade seat_of k (st x).history (st y).history
  turn_grows now k r is later met =
      let did = turn_did now r met in (
        steps_follow (st x) (st y) now (later_moment (st x) s now later is) r did.steps,
        λ i ne. steps_all (st x) (st y) now r did.steps i,
      )

  pub begin_did : (now : ℕ) (r : Began) → BeginsIn (st a) (st b) now r → BeginsIn (st x) (st y) now r
  begin_did now r met = moved (λ (p : T) (q : T). BeginsIn (st p) (st q) now r) a b x y shows leaves met

  pub begin_grows : (now k : ℕ) (r : Began) → IsMoment s.key now → Follows (st x) s → BeginsIn (st a) (st b) now r → Follows (st y) (st x) × OnlyMade seat_of k (st x).history (st y).history
  begin_grows now k r is later met =
      let did = begin_did now r met in (
        begins_follow (st x) (st y) now (later_moment (st x) s now later is) r did,
        λ i ne. begins_all (st x) (st y) now r did i,
      )

  pub end_did : (now : ℕ) (r : Option (Result Turned StepFault)) → EndsIn (st a) (st b) now r → EndsIn (st x) (st y) now r
  end_did now r met = moved (λ (p : T) (q : T). EndsIn (st p) (st q) now r) a b x y shows leaves met

  pub end_grows : (now k : ℕ) (r : Option (Result Turned StepFault)) → IsMoment s.key now → Follows (st x) s → EndsIn (st a) (st b) now r
      → Follows (st y) (st x) × OnlyMade seat_of k (st x).history (st y).history
  end_grows now k r is later met =
      let did = end_did now r met in (
        ends_follow (st x) (st y) now (later_moment (st x) s now later is) r did,
        λ i ne. ends_all (st x) (st y) now r did i,
      )

  pub ask_did : (id : ℕ) (bytes : List ℕ) (r : Asked) → AsksIn (st a) (st b) id bytes r → AsksIn (st x) (st y) id bytes r
  ask_did id bytes r met = moved (λ (p : T) (q : T). AsksIn (st p) (st q) id bytes r) a b x y shows leaves met

  pub ask_grows : (id k : ℕ) (bytes : List ℕ) (r : Asked) → AsksIn (st a) (st b) id bytes r → Follows (st y) (st x) × OnlyMade seat_of k (st x).history (st y).history
  ask_grows id k bytes r met =
      let did = ask_did id bytes r met in (
        reads_follow (st x) (st y) r.found r.fault did.reads,
        λ i ne. reads_all (st x) (st y) r.found r.fault did.reads i,
      )

-- the bytes at the front of a buffer
fronts : (x : Standing) (found : Option (ObjectRow × Option ℕ)) (why : Option BookFault) (bytes front rest : List ℕ) → length bytes ≡ 512 → front ≡ bytes ++ rest → ReadsTo x found why bytes
    → ReadsTo x found why front
fronts x None why bytes front rest size is h = tt
fronts x (Some row) (Some why) bytes front rest size is h = tt
fronts x (Some row) None bytes front rest size is h =
    let small = h.0 in
    (small, λ plain. ap (λ (l : List ℕ). take row.0.size l) is ∙ (take-append-le row.0.size bytes rest (omega (arith, small, size)) ∙ h.1 plain))

in_front : (x y : Standing) (id : ℕ) (bytes front rest : List ℕ) (r : Asked) → length bytes ≡ 512 → front ≡ bytes ++ rest → AsksIn x y id bytes r → AsksIn x y id front r
in_front x y id bytes front rest r size is h = record {
  legal = h.legal;
  at_is = h.at_is;
  found_is = h.found_is;
  reads = h.reads;
  payload = fronts x r.found r.fault bytes front rest size is h.payload;
  cause = h.cause;
}

-- what the seat has seen afterwards
module _ {T : Type 0} (st : T → Standing) (v w : View Standing Entry) (x y : T) (i j : ℕ) (next : IsNext st (λ s. s.history) seat_of Follows v x)
    (took : w ≡ took_turn v (moment i (st x)) (moment j (st y)) (made_by seat_of v.number (st y).history)) where
  saw : st y ≡ w.seen.state
  saw = sym (ap (λ (z : View Standing Entry). z.seen.state) took)

  pub had : HadTurn v w (st x)
  had = had_turn v w (st x) (st y) i j (made_by seat_of v.number (st y).history) next.later took

  pub turn_seen : (now : ℕ) (r : Result Turned StepFault) → TurnsIn (st x) (st y) now r → Worked v w now r
  turn_seen now r did = record { found = st x; turn = had; turns = subst (λ (z : Standing). TurnsIn (st x) z now r) saw did }

  passed : Follows (st y) (st x) → Passed v w
  passed grew = (Follows-chain w.seen.state (st x) v.seen.state (subst (λ (z : Standing). Follows z (st x)) saw grew) next.later, had.keeps)

  pub begin_seen : (now : ℕ) (r : Began) → BeginsIn (st x) (st y) now r → BeginsTurn v w now r
  begin_seen now (began.Claimed claim) did = passed (same_follows (st x) (st y) did.same)
  begin_seen now (began.Over outcome) did = turn_seen now outcome did

  pub end_seen : (now : ℕ) (r : Option (Result Turned StepFault)) → EndsIn (st x) (st y) now r → EndsTurn v w now r
  end_seen now None did = passed (same_follows (st x) (st y) did.same)
  end_seen now (Some outcome) did = turn_seen now outcome did

  pub ask_seen : (id : ℕ) (bytes front : List ℕ) (r : Asked) → AsksIn (st x) (st y) id bytes r → (rest : List ℕ) → length bytes ≡ 512 → front ≡ bytes ++ rest → Inquired v w id front r
  ask_seen id bytes front r did rest size is = record { found = st x; turn = had; asks = subst (λ (z : Standing). AsksIn (st x) z id front r) saw (in_front (st x) (st y) id bytes front rest r size is did) }

  pub none_made : ((k : ℕ) → made_by seat_of k (st y).history ≡ made_by seat_of k (st x).history) → IsSameSeat v w × (w.made ≡ v.made)
  none_made all = (
    (ap (λ (z : View Standing Entry). z.number) took, ap (λ (z : View Standing Entry). z.next) took, ap (λ (z : View Standing Entry). z.joined) took),
    ap (λ (z : View Standing Entry). z.made) took ∙ (all v.number ∙ next.own),
  )
