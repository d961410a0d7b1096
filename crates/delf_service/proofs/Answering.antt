-- What a call does to the standing that it finds, as the lock asks for it and as its seat sees it.
use Rattle.std.proofs.Common.{◌≡◌, ℕ, ◌+◌, ◌*◌, ◌≤◌, List, [], ◌∷◌, ◌++◌, length, Option, Some, Result, Ok, Err, sym, ap, ◌∙◌, subst, arith, append-nil, length-append}
use Rattle.std.specs.Prelude.{slice_get, option_to_list}
use Rattle.delf_model.specs.declared.call.Call.{Call}
use Rattle.delf_model.specs.declared.call.Refusal.{Refusal}
use Rattle.delf_model.specs.declared.call.Refusal.TheVariants as refusal
use Rattle.delf_model.specs.declared.entry.Entry.{Entry}
use Rattle.delf_model.specs.RuleSet.{RuleSet}
use Rattle.delf_book.specs.Books.{HasNumbers, given_by}
use Rattle.delf_book.specs.declared.answers.Receipt.{Receipt}
use Rattle.seat_lock.specs.declared.view.View.{View}
use Rattle.seat_lock.specs.Views.{made_by, moment, took_turn}
use Rattle.seat_lock.specs.Promises.{OnlyMade, IsNext}
use Rattle.delf_service.specs.declared.answers.Answer.{Answer}
use Rattle.delf_service.specs.declared.standing.Key.{Key}
use Rattle.delf_service.specs.declared.standing.Standing.{Standing}
use Rattle.delf_service.specs.Calls.{AnswersIn, AcceptedIn, CallsIn, Submitted, own_entries, added_by, entry_in}
use Rattle.delf_service.specs.Follows.{Follows, IsMoment}
use Rattle.delf_service.specs.Standings.{payloads_of, seat_of}
use Rattle.delf_service.proofs.Seeing.{had_turn}
use Rattle.delf_service.proofs.Entries.{push_other, push_own, get_last, entry_follows, falls_follows, same_follows, falls_history}

-- a fact of two values at two that are the same
pub moved : {T : Type 0} (P : T → T → Type 0) (a b x y : T) → a ≡ x → b ≡ y → P a b → P x y
moved P a b x y e f h = subst (λ (z : _). P z y) e (subst (λ (z : _). P a z) f h)

same_made : (k : ℕ) (x y : Standing) → y ≡ x → made_by seat_of k y.history ≡ made_by seat_of k x.history
same_made k x y same = ap (λ (z : Standing). made_by seat_of k z.history) same

module _ (x y : Standing) (now seat : ℕ) (call : Call) where
  pub answers_follow : IsMoment x.key now → (reply : Result Receipt Refusal) → AnswersIn x y now seat call reply → Follows y x
  answers_follow is (Ok receipt) h = subst (λ (z : Standing). Follows z x) (sym h.left) (entry_follows x now h.what (given_by call) (payloads_of y) is h.up h.payloads)
  answers_follow is (Err (refusal.Down len)) h = same_follows x y h.same
  answers_follow is (Err refusal.OutOfMemory) h = same_follows x y h.1
  answers_follow is (Err (refusal.DiskFault len)) h = falls_follows x y h.falls
  answers_follow is (Err other) h = same_follows x y h.2

  pub answers_only : (reply : Result Receipt Refusal) → AnswersIn x y now seat call reply → OnlyMade seat_of seat x.history y.history
  answers_only (Ok receipt) h k ne =
      ap (λ (z : Standing). made_by seat_of k z.history) h.left ∙ push_other k seat x.history (entry_in x now h.what) ne h.maker
  answers_only (Err (refusal.Down len)) h k ne = same_made k x y h.same
  answers_only (Err refusal.OutOfMemory) h k ne = same_made k x y h.1
  answers_only (Err (refusal.DiskFault len)) h k ne = ap (λ (es : List Entry). made_by seat_of k es) (falls_history x y h.falls)
  answers_only (Err other) h k ne = same_made k x y h.2

  none_more : (z : Standing) → z.history ≡ x.history → made_by seat_of seat z.history ≡ made_by seat_of seat x.history ++ []
  none_more z same = ap (λ (es : List Entry). made_by seat_of seat es) same ∙ sym (append-nil (made_by seat_of seat x.history))

  -- the own entry of an accepted call stands at the length that was found
  pub own_is : (a : Answer) (receipt : Receipt) → a.at ≡ length x.history → (h : AcceptedIn x y now seat call receipt) → slice_get y.history a.at ≡ Some (entry_in x now h.what)
  own_is a receipt at h =
      ap (λ (z : Standing). slice_get z.history a.at) h.left ∙ (ap (λ (n : ℕ). slice_get (x.history ++ entry_in x now h.what ∷ []) n) at ∙ get_last x.history (entry_in x now h.what))

  answers_own : (a : Answer) → a.at ≡ length x.history → (reply : Result Receipt Refusal) → AnswersIn x y now seat call reply
      → made_by seat_of seat y.history ≡ made_by seat_of seat x.history ++ own_entries y a reply
  answers_own a at (Ok receipt) h =
      ap (λ (z : Standing). made_by seat_of seat z.history) h.left ∙ (push_own seat x.history (entry_in x now h.what) h.maker
      ∙ ap (λ (o : Option Entry). made_by seat_of seat x.history ++ option_to_list o) (sym (own_is a receipt at h)))
  answers_own a at (Err (refusal.Down len)) h = none_more y (ap (λ (z : Standing). z.history) h.same)
  answers_own a at (Err refusal.OutOfMemory) h = none_more y (ap (λ (z : Standing). z.history) h.1)
  answers_own a at (Err (refusal.DiskFault len)) h = none_more y (falls_history x y h.falls)
  answers_own a at (Err other) h = none_more y (ap (λ (z : Standing). z.history) h.2)

  pub calls_own : (a : Answer) → CallsIn x y now seat call a → made_by seat_of seat y.history ≡ made_by seat_of seat x.history ++ added_by y a
  calls_own a h = answers_own a h.at_is a.reply h.answers

-- what a later standing has of an earlier one
pub later_rules : (x s : Standing) → Follows x s → x.key.rules ≡ s.key.rules
later_rules x s h = ap (λ (k : Key). k.rules) h.key

pub later_moment : (x s : Standing) (now : ℕ) → Follows x s → IsMoment s.key now → IsMoment x.key now
later_moment x s now h is = subst (λ (k : Key). IsMoment k now) (sym h.key) is

pub later_length : (x s : Standing) → Follows x s → length s.history ≤ length x.history
later_length x s h =
    let l = ap (λ (es : List Entry). length es) h.history.1 in
    let a = length-append s.history h.history.0 in
    omega (arith, l, a)

pub later_numbers : (x s : Standing) (call : Call) → Follows x s → HasNumbers s.key.rules call → HasNumbers x.key.rules call
later_numbers x s call h numbers = subst (λ (r : RuleSet). HasNumbers r call) (sym (later_rules x s h)) numbers

pub later_number : (x s : Standing) (n : ℕ) → Follows x s → n ≤ 64 * (length s.history + 1) → n ≤ 64 * (length x.history + 1)
later_number x s n h le = let l = later_length x s h in omega (arith, l, le)

-- one turn: what is left may be left, and what the seat has seen afterwards
module _ {T : Type 0} (st : T → Standing) (now n : ℕ) (call : Call) (r : Answer) (x y a b : T) (shows : a ≡ x) (leaves : b ≡ y) (met : CallsIn (st a) (st b) now n call r) where
  did : CallsIn (st x) (st y) now n call r
  did = moved (λ (p : T) (q : T). CallsIn (st p) (st q) now n call r) a b x y shows leaves met

  pub call_grows : (s : Standing) (k : ℕ) → IsMoment s.key now → Follows (st x) s → n ≡ k → Follows (st y) (st x) × OnlyMade seat_of k (st x).history (st y).history
  call_grows s k is later same = (
    answers_follow (st x) (st y) now n call (later_moment (st x) s now later is) r.reply did.answers,
    subst (λ (i : ℕ). OnlyMade seat_of i (st x).history (st y).history) same (answers_only (st x) (st y) now n call r.reply did.answers),
  )

  pub call_seen : (v w : View Standing Entry) (i j : ℕ) → IsNext st (λ s. s.history) seat_of Follows v x → n ≡ v.number
      → w ≡ took_turn v (moment i (st x)) (moment j (st y)) (made_by seat_of v.number (st y).history) → Submitted v w now call r
  call_seen v w i j next same took = record {
    found = st x;
    turn = had_turn v w (st x) (st y) i j (made_by seat_of v.number (st y).history) next.later took;
    calls = moved_to (sym (ap (λ (z : View Standing Entry). z.seen.state) took)) (subst (λ (k : ℕ). CallsIn (st x) (st y) now k call r) same did);
  } where
    moved_to : {s t : Standing} → s ≡ t → CallsIn (st x) s now v.number call r → CallsIn (st x) t now v.number call r
    moved_to e h = subst (λ (z : Standing). CallsIn (st x) z now v.number call r) e h

  pub call_made : (v w : View Standing Entry) (i j : ℕ) → IsNext st (λ s. s.history) seat_of Follows v x → n ≡ v.number
      → w ≡ took_turn v (moment i (st x)) (moment j (st y)) (made_by seat_of v.number (st y).history) → w.made ≡ v.made ++ added_by w.seen.state r
  call_made v w i j next same took =
      ap (λ (z : View Standing Entry). z.made) took
      ∙ (subst (λ (k : ℕ). made_by seat_of k (st y).history ≡ made_by seat_of k (st x).history ++ added_by (st y) r) same (calls_own (st x) (st y) now n call r did)
      ∙ (ap (λ (es : List Entry). es ++ added_by (st y) r) next.own
      ∙ ap (λ (z : Standing). v.made ++ added_by z r) (sym (ap (λ (z : View Standing Entry). z.seen.state) took))))
