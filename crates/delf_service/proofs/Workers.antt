-- What the turns of a worker and the last turn of a lane do to the standing.
use Rattle.std.proofs.Common.{◌≡◌, ◌<◌, ℕ, suc, ◌+◌, Bool, true, false, Result, sym, ap, ◌∙◌, subst, arith, add-one, inl, inr}
use Rattle.std.specs.Prelude.{MatchBool}
use Rattle.delf_book.specs.declared.answers.StepFault.{StepFault}
use Rattle.seat_lock.specs.Promises.{OnlyMade}
use Rattle.seat_lock.specs.Views.{made_by}
use Rattle.delf_service.specs.declared.answers.Turned.{Turned}
use Rattle.delf_service.specs.declared.standing.Standing.{Standing}
use Rattle.delf_service.specs.Follows.{Follows, IsMoment}
use Rattle.delf_service.specs.FollowLaws.{Follows-chain}
use Rattle.delf_service.specs.Standings.{seat_of}
use Rattle.delf_service.specs.Workers.{one_left, HasMade, LeavesAll, LeavesOne, GoesOn, Ends, Turn, HasTurned, WorkerDone}
use Rattle.delf_model.specs.declared.entry.Entry.{Entry}
use Rattle.seat_lock.specs.declared.view.View.{View}
use Rattle.delf_service.specs.Works.{Worked}
use Rattle.delf_service.proofs.Answering.{moved, later_moment}
use Rattle.delf_service.proofs.Entries.{fewer_follows}
use Rattle.delf_service.proofs.Turns.{steps_follow}

-- what a seat has seen behind a turn of a worker
pub worked_follows : (now : ℕ) (v w : View Standing Entry) (outcome : Result Turned StepFault) → IsMoment v.seen.state.key now → Worked v w now outcome → Follows w.seen.state v.seen.state
worked_follows now v w outcome is h =
    let s = v.seen.state in
    let t = w.seen.state in
    Follows-chain t h.found s (steps_follow h.found t now (later_moment h.found s now h.turn.later is) outcome h.turns.steps) h.turn.later

-- what a turn came to
pub turn_of : (now : ℕ) (Says : Result Turned StepFault → ℕ → Type 0) (v w : View Standing Entry) (outcome : Result Turned StepFault) (lanes : ℕ) → Worked v w now outcome → lanes ≡ w.seen.state.lanes
    → Says outcome lanes → Turn now Says v.seen.state w.seen.state
turn_of now Says v w outcome lanes worked same says = record {
  outcome = outcome;
  found = worked.found;
  later = worked.turn.later;
  turns = worked.turns;
  says = subst (λ (k : ℕ). Says outcome k) same says;
}

pub goes_on : (b : Bool) (outcome : Result Turned StepFault) (lanes : ℕ) → MatchBool b (Ends outcome lanes) (GoesOn outcome lanes) → b ≡ false → GoesOn outcome lanes
goes_on true outcome lanes h is = absurd (cc is)
goes_on false outcome lanes h is = h

pub ends_here : (b : Bool) (outcome : Result Turned StepFault) (lanes : ℕ) → MatchBool b (Ends outcome lanes) (GoesOn outcome lanes) → b ≡ true → Ends outcome lanes
ends_here true outcome lanes h is = h
ends_here false outcome lanes h is = absurd (cc is)

-- one turn more
pub more_turned : (now n m : ℕ) (s t u : Standing) → HasTurned now n s t → Turn now GoesOn t u → m ≡ n + 1 → HasTurned now m s u
more_turned now n m s t u made turn is = subst (λ (k : ℕ). HasTurned now k s u) (sym (is ∙ add-one n)) (t, made, turn)

-- one turn more of a lane
pub more_made : (s t u : Standing) → (n : ℕ) × HasMade n s t → LeavesAll t u → (n : ℕ) × HasMade n s u
more_made s t u made leaves = (suc made.0, (t, made.1, leaves))

-- the turn at which a worker ended
pub ended_at : (now turns n : ℕ) (s t u : Standing) → n < turns → HasTurned now n s t → Turn now Ends t u → WorkerDone now turns s u
ended_at now turns n s t u less made turn = inr (n, less, t, made, turn)

-- all turns were made
pub all_turned : (now turns n : ℕ) (s t : Standing) → n ≡ turns → HasTurned now n s t → WorkerDone now turns s t
all_turned now turns n s t is made = inl (subst (λ (k : ℕ). HasTurned now k s t) is made)

pub one_follows : (s : Standing) → Follows (one_left s) s
one_follows s = fewer_follows s (one_left s).lanes (omega arith)

pub leaves_follow : (s t : Standing) → LeavesOne s t → Follows t s
leaves_follow s t h = Follows-chain t h.found s (subst (λ (z : Standing). Follows z h.found) (sym h.left) (one_follows h.found)) h.later

-- the last turn of a lane: what is left may be left, and nobody made an entry
module _ {T : Type 0} (st : T → Standing) (x y a b : T) (shows : a ≡ x) (leaves : b ≡ y) (met : st b ≡ one_left (st a)) where
  pub leave_did : st y ≡ one_left (st x)
  leave_did = moved (λ (p : T) (q : T). st q ≡ one_left (st p)) a b x y shows leaves met

  pub leave_all : (k : ℕ) → made_by seat_of k (st y).history ≡ made_by seat_of k (st x).history
  leave_all k = ap (λ (z : Standing). made_by seat_of k z.history) leave_did

  pub leave_grows : (k : ℕ) → Follows (st y) (st x) × OnlyMade seat_of k (st x).history (st y).history
  leave_grows k = (subst (λ (z : Standing). Follows z (st x)) (sym leave_did) (one_follows (st x)), λ i ne. leave_all i)
