-- The key that a seat has seen stays through its calls.
use Rattle.std.proofs.Common.{◌≡◌, ℕ, ◌+◌, ◌*◌, ◌-◌, ◌<◌, ◌≤◌, ◌^◌, List, Option, None, Some, Result, length, ap, ◌∙◌, sym, subst, arith}
use Rattle.delf_model.specs.declared.call.Call.{Call}
use Rattle.delf_model.specs.declared.entry.Entry.{Entry}
use Rattle.delf_book.specs.Books.{HasNumbers}
use Rattle.delf_book.specs.declared.answers.StepFault.{StepFault}
use Rattle.job_table.specs.Table.{top_seat}
use Rattle.seat_lock.specs.declared.view.View.{View}
use Rattle.seat_lock.specs.Views.{IsRoot, CanSplit, IsSameSeat, split_root, out_of}
use Rattle.delf_service.specs.declared.answers.Answer.{Answer}
use Rattle.delf_service.specs.declared.answers.Asked.{Asked}
use Rattle.delf_service.specs.declared.answers.Turned.{Turned}
use Rattle.delf_service.specs.declared.standing.Key.{Key}
use Rattle.delf_service.specs.declared.standing.Standing.{Standing}
use Rattle.delf_service.specs.Asks.{Inquired}
use Rattle.delf_service.specs.Calls.{Submitted}
use Rattle.delf_service.specs.Follows.{IsMoment}
use Rattle.delf_service.specs.Seats.{Starts}
use Rattle.delf_service.specs.Standings.{state_at}
use Rattle.delf_service.specs.Works.{Worked}
use Rattle.delf_service.proofs.Answering.{answers_follow, later_moment}
use Rattle.delf_service.proofs.Turns.{reads_follow}
use Rattle.delf_service.proofs.Workers.{worked_follows}

-- where no block gives the moment, any one serves
pub any_moment : (key : Key) (now : ℕ) → key.moment ≡ None → IsMoment key now
any_moment key now none m is = absurd (cc)

pub same_numbers : (old new : Key) (call : Call) → new ≡ old → HasNumbers old.rules call → HasNumbers new.rules call
same_numbers old new call same h = subst (λ (k : Key). HasNumbers k.rules call) (sym same) h

pub submitted_key : (v w : View Standing Entry) (now : ℕ) (call : Call) (a : Answer) → v.seen.state.key.moment ≡ None → Submitted v w now call a → w.seen.state.key ≡ v.seen.state.key
submitted_key v w now call a none h =
    (answers_follow h.found w.seen.state now v.number call (later_moment h.found v.seen.state now h.turn.later (any_moment v.seen.state.key now none)) a.reply h.calls.answers).key ∙ h.turn.later.key

pub inquired_key : (v w : View Standing Entry) (id : ℕ) (bytes : List ℕ) (asked : Asked) → Inquired v w id bytes asked → w.seen.state.key ≡ v.seen.state.key
inquired_key v w id bytes asked h = (reads_follow h.found w.seen.state asked.found asked.fault h.asks.reads).key ∙ h.turn.later.key

pub worked_key : (v w : View Standing Entry) (now : ℕ) (outcome : Result Turned StepFault) → v.seen.state.key.moment ≡ None → Worked v w now outcome → w.seen.state.key ≡ v.seen.state.key
worked_key v w now outcome none h = (worked_follows now v w outcome (any_moment v.seen.state.key now none) h).key

pub same_moment : (old new : Key) → new ≡ old → old.moment ≡ None → new.moment ≡ None
same_moment old new same none = ap (λ (k : Key). k.moment) same ∙ none

-- what a root and its first seat have seen is what the service began with
pub root_saw : (start : Standing) (root : View Standing Entry) → Starts start root → root.seen.state ≡ start
root_saw start root h = ap (λ (v : View Standing Entry). v.seen.state) h.root_is

pub seat_numbers : (start : Standing) (v : View Standing Entry) (call : Call) → v.seen.state ≡ start → HasNumbers start.key.rules call → HasNumbers v.seen.state.key.rules call
seat_numbers start v call same h = subst (λ (s : Standing). HasNumbers s.key.rules call) (sym same) h

pub seat_moment : (start : Standing) (v : View Standing Entry) → v.seen.state ≡ start → start.key.moment ≡ None → v.seen.state.key.moment ≡ None
seat_moment start v same none = ap (λ (s : Standing). s.key.moment) same ∙ none

-- a root that has just begun can be split, and then one seat is out
pub root_splits : (start : Standing) (root : View Standing Entry) → Starts start root → length start.history ≤ 500000 → CanSplit root
root_splits start root h few =
    let next : root.next ≡ top_seat (state_at start) + 1 + 1 = ap (λ (v : View Standing Entry). v.next) h.root_is in
    let low : top_seat (state_at start) ≤ 64 * length start.history = h.low in
    (omega arith, omega arith)

pub one_out : (start : Standing) (root v w : View Standing Entry) → Starts start root → v ≡ split_root root → IsSameSeat v w → IsRoot w × (out_of w ≡ 1)
one_out start root v w h split same =
    let number : v.number ≡ top_seat (state_at start) + 1 = ap (λ (u : View Standing Entry). u.number) (split ∙ ap (λ (u : View Standing Entry). split_root u) h.root_is) in
    let next : v.next ≡ top_seat (state_at start) + 1 + 1 + 1 = ap (λ (u : View Standing Entry). u.next) (split ∙ ap (λ (u : View Standing Entry). split_root u) h.root_is) in
    let joined : length v.joined ≡ 0 = ap (λ (u : View Standing Entry). length u.joined) (split ∙ ap (λ (u : View Standing Entry). split_root u) h.root_is) in
    let a : w.number ≡ v.number = same.0 in
    let b : w.next ≡ v.next = same.1 in
    let c : length w.joined ≡ length v.joined = ap (λ (js : List (ℕ × List Entry)). length js) same.2 in
    (omega arith, omega arith)
