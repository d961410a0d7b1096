-- A history with one entry more: who made what, and what follows.
use Rattle.std.proofs.Common.{◌≡◌, ◌≢◌, ◌≤◌, ℕ, Bool, false, cond, List, [], ◌∷◌, ◌++◌, length, take, Option, Some, None, refl, sym, ap, ◌∙◌, subst, arith, eq-eqb, ne_eqb, append-nil, length-append, inl, inr}
use Rattle.std.specs.Prelude.{slice_get}
use Rattle.std.proofs.Math.Seq.{take-append_seam}
use Rattle.std.proofs.lemmas.List.Elements.{filter-append}
use Rattle.std.proofs.lemmas.Option.{slice_get_within}
use Rattle.delf_model.specs.declared.entry.Entry.{Entry}
use Rattle.delf_model.specs.declared.entry.What.{What}
use Rattle.delf_model.specs.Payloads.{Payloads, payloads_after}
use Rattle.store_laws.specs.Stores.{digest}
use Rattle.seat_lock.specs.Views.{made_by, is_maker}
use Rattle.delf_service.specs.declared.standing.Standing.{Standing}
use Rattle.delf_service.specs.Calls.{entry_in, with_entry, Falls}
use Rattle.delf_service.specs.Follows.{FitsFrom, IsDated, KeepsPayloads, Follows, IsMoment}
use Rattle.delf_service.specs.FollowLaws.{Follows-itself, fits_itself, keeps_itself}
use Rattle.delf_service.specs.Standings.{IsPlain, payloads_of, state_at, seat_of, laneless, with_lanes}
use Rattle.delf_service.proofs.Payloads.{keeps_push}

made_push : (k : ℕ) (h : List Entry) (e : Entry) → made_by seat_of k (h ++ e ∷ []) ≡ made_by seat_of k h ++ cond (is_maker k (seat_of e)) (e ∷ []) []
made_push k h e = filter-append (λ (x : Entry). is_maker k (seat_of x)) h (e ∷ [])

made_push_as : (k : ℕ) (h : List Entry) (e : Entry) (o : Option ℕ) → seat_of e ≡ o → made_by seat_of k (h ++ e ∷ []) ≡ made_by seat_of k h ++ cond (is_maker k o) (e ∷ []) []
made_push_as k h e o is = made_push k h e ∙ ap (λ (x : Option ℕ). made_by seat_of k h ++ cond (is_maker k x) (e ∷ []) []) is

pub push_other : (k n : ℕ) (h : List Entry) (e : Entry) → k ≢ n → seat_of e ≡ Some n → made_by seat_of k (h ++ e ∷ []) ≡ made_by seat_of k h
push_other k n h e ne is =
    made_push_as k h e (Some n) is ∙ (ap (λ (b : Bool). made_by seat_of k h ++ cond b (e ∷ []) []) (ne_eqb n k (λ same. ne (sym same))) ∙ append-nil (made_by seat_of k h))

pub push_own : (n : ℕ) (h : List Entry) (e : Entry) → seat_of e ≡ Some n → made_by seat_of n (h ++ e ∷ []) ≡ made_by seat_of n h ++ e ∷ []
push_own n h e is = made_push_as n h e (Some n) is ∙ ap (λ (b : Bool). made_by seat_of n h ++ cond b (e ∷ []) []) (eq-eqb n n refl)

pub push_none : (k : ℕ) (h : List Entry) (e : Entry) → seat_of e ≡ None → made_by seat_of k (h ++ e ∷ []) ≡ made_by seat_of k h
push_none k h e is = made_push_as k h e None is ∙ append-nil (made_by seat_of k h)

module _ {A : Type 0} where
  pub get_last : (xs : List A) (x : A) → slice_get (xs ++ x ∷ []) (length xs) ≡ Some x
  get_last [] x = refl
  get_last (y ∷ xs) x = get_last xs x

  -- a list with one element more fits from there on
  pub fits_push : (P : List A → A → Type 0) (xs : List A) (x : A) → P xs x → FitsFrom P (length xs) (xs ++ x ∷ [])
  fits_push P xs x holds k y le at =
      let below = slice_get_within (xs ++ x ∷ []) k y at in
      let long = length-append xs (x ∷ []) in
      let here : k ≡ length xs = omega (arith, below, long, le) in
      let at' : slice_get (xs ++ x ∷ []) (length xs) ≡ Some y = subst (λ (n : ℕ). slice_get (xs ++ x ∷ []) n ≡ Some y) here at in
      let both = get_last xs x in
      let same : x ≡ y = cc in
      let front : take k (xs ++ x ∷ []) ≡ xs = ap (λ (n : ℕ). take n (xs ++ x ∷ [])) here ∙ take-append_seam xs (x ∷ []) in
      subst (λ (l : List A). P l y) (sym front) (subst (λ (z : A). P xs z) same holds)

module _ (x : Standing) where
  pub entry_follows : (now : ℕ) (what : What) (given : List ℕ) (e : Payloads) → IsMoment x.key now → x.down ≡ false
      → (IsPlain x.key → e ≡ payloads_after digest (state_at x) (entry_in x now what) given (payloads_of x)) → Follows (with_entry x (entry_in x now what) e) x
  entry_follows now what given e is up grown = record {
    history = (entry_in x now what ∷ [], refl);
    dated = λ m same. fits_push (IsDated x.key.rules m) x.history (entry_in x now what)
        (subst (λ (n : ℕ). IsDated x.key.rules n x.history (entry_in x now what)) (sym (is m same)) refl);
    payloads = λ plain. subst (λ (p : Payloads). KeepsPayloads x.history p (payloads_of x)) (sym (grown plain)) (keeps_push x (entry_in x now what) given);
    grown = λ plain. (given, grown plain);
    faults = omega arith;
    cause = λ down. inl down;
    down = λ down. absurd (cc (up, down));
    lanes = omega arith;
    key = refl;
  }

  pub falls_follows : (y : Standing) → Falls x y → Follows y x
  falls_follows y falls = subst (λ (z : Standing). Follows z x) (sym falls.left) (record {
    history = ([], sym (append-nil x.history));
    dated = λ m same. fits_itself (IsDated x.key.rules m) x.history;
    payloads = λ plain. keeps_itself x.history (payloads_of x);
    grown = λ plain. refl;
    faults = falls.later;
    cause = λ down. inr falls.rose;
    down = λ down. absurd (cc (falls.up, down));
    lanes = omega arith;
    key = refl;
  })

  pub same_follows : (y : Standing) → y ≡ x → Follows y x
  same_follows y same = subst (λ (z : Standing). Follows z x) (sym same) (Follows-itself x)

  pub falls_history : (y : Standing) → Falls x y → y.history ≡ x.history
  falls_history y falls = ap (λ (z : Standing). z.history) falls.left

  -- fewer lanes are left
  pub fewer_follows : (n : ℕ) → n ≤ x.lanes → Follows (with_lanes x n) x
  fewer_follows n le = record {
    history = ([], sym (append-nil x.history));
    dated = λ m same. fits_itself (IsDated x.key.rules m) x.history;
    payloads = λ plain. keeps_itself x.history (payloads_of x);
    grown = λ plain. refl;
    faults = omega arith;
    cause = λ down. inl down;
    down = λ down. (down, refl);
    lanes = le;
    key = refl;
  }

  pub laneless_follows : Follows (laneless x) x
  laneless_follows = fewer_follows 0 (omega arith)
