-- The last carrier of a position, by the last item that holds it.
use Rattle.std.proofs.Common.{◌≡◌, ℕ, zero, suc, ◌+◌, ◌≤◌, Bool, true, false, cond, eqb, List, [], ◌∷◌, Option, Some, None, refl, ap, ◌∙◌, arith, inl, inr, ◌⊎◌}
use Rattle.std.proofs.lemmas.Bool.{eqb-true, eqb-false, false≢true}
use Rattle.std.specs.Prelude.{slice_get, is_none}
use Rattle.delf_model.specs.declared.call.Cause.{Cause}
use Rattle.delf_model.specs.State.{State, Logged, Handled, position_of}
use Rattle.std.specs.Option.{option_or}
use Rattle.delf_model.specs.Order.{last_place}
use Rattle.delf_model.specs.Report.{was_put}
use Rattle.delf_model.specs.Payloads.{Journal, Vault, holds_position, carrier_of_item, handled_of, carrier_by, last_carrier}
use Rattle.payload_laws.proofs.Members.{some_is}

-- no item holds the position
abbrev pub Unheld : ℕ → List Logged → Type 0
Unheld p xs = (j : ℕ) (y : Logged) → slice_get xs j ≡ Some y → position_of y.item ≡ p → ⊥

-- this item is the last that holds the position
pub record HeldLast (p : ℕ) (xs : List Logged) (i : ℕ) : Type 0 where
  pub logged : Logged
  pub there : slice_get xs i ≡ Some logged
  pub holds : position_of logged.item ≡ p
  pub last : (j : ℕ) (y : Logged) → slice_get xs j ≡ Some y → position_of y.item ≡ p → j ≤ i

last_case : (p k : ℕ) (xs : List Logged) →
    (Unheld p xs × (last_place (holds_position p) k xs ≡ None)) ⊎ ((i : ℕ) × HeldLast p xs i × (last_place (holds_position p) k xs ≡ Some (k + i)))
last_case p k [] = inl (λ j y at holds. cc at, refl)
last_case p k (x ∷ xs) =
    elim (last_case p (k + 1) xs) [
      | inl none ↦ first_or_none (eqb (position_of x.item) p) refl none
      | inr some ↦
          inr (
            suc some.0,
            record { logged = some.1.logged; there = some.1.there; holds = some.1.holds; last = λ j y at holds. later some.0 some.1 j y at holds },
            ap (λ (o : Option ℕ). option_or o (cond (eqb (position_of x.item) p) (Some k) None)) some.2 ∙ ap (λ (n : ℕ). Some n) (moved k some.0),
          )
    ]
  where
    moved : (a b : ℕ) → a + 1 + b ≡ a + suc b
    moved a b = omega arith

    later : (i : ℕ) → HeldLast p xs i → (j : ℕ) (y : Logged) → slice_get (x ∷ xs) j ≡ Some y → position_of y.item ≡ p → j ≤ suc i
    later i held zero y at holds = omega arith
    later i held (suc j) y at holds = let le : j ≤ i = held.last j y at holds in omega arith

    at_first : Unheld p xs → (j : ℕ) (y : Logged) → slice_get (x ∷ xs) j ≡ Some y → position_of y.item ≡ p → j ≤ 0
    at_first none zero y at holds = omega arith
    at_first none (suc j) y at holds = absurd (none j y at holds)

    no_zero : (n : ℕ) → n ≡ n + 0
    no_zero n = omega arith

    nowhere : (position_of x.item ≡ p → ⊥) → Unheld p xs → Unheld p (x ∷ xs)
    nowhere not_here none zero y at holds = not_here (ap (λ (l : Logged). position_of l.item) (some_is at) ∙ holds)
    nowhere not_here none (suc j) y at holds = none j y at holds

    first_or_none : (b : Bool) → eqb (position_of x.item) p ≡ b → Unheld p xs × (last_place (holds_position p) (k + 1) xs ≡ None) →
        (Unheld p (x ∷ xs) × (last_place (holds_position p) k (x ∷ xs) ≡ None)) ⊎ ((i : ℕ) × HeldLast p (x ∷ xs) i × (last_place (holds_position p) k (x ∷ xs) ≡ Some (k + i)))
    first_or_none true is none =
        inr (
          0,
          record { logged = x; there = refl; holds = eqb-true (position_of x.item) p is; last = λ j y at holds. at_first none.0 j y at holds },
          ap (λ (o : Option ℕ). option_or o (cond (eqb (position_of x.item) p) (Some k) None)) none.1 ∙
              (ap (λ (b : Bool). cond b (Some k) None) is ∙ ap (λ (n : ℕ). Some n) (no_zero k)),
        )
    first_or_none false is none =
        inl (
          nowhere (eqb-false (position_of x.item) p is) none.0,
          ap (λ (o : Option ℕ). option_or o (cond (eqb (position_of x.item) p) (Some k) None)) none.1 ∙ ap (λ (b : Bool). cond b (Some k) None) is,
        )

pub last_same : (p : ℕ) (xs : List Logged) (i j : ℕ) → HeldLast p xs i → HeldLast p xs j → i ≡ j
last_same p xs i j one two =
    let le : j ≤ i = one.last j two.logged two.there two.holds in
    let ge : i ≤ j = two.last i one.logged one.there one.holds in omega arith

pub held_or_not : (p : ℕ) (xs : List Logged) → Unheld p xs ⊎ ((i : ℕ) × HeldLast p xs i)
held_or_not p xs = elim (last_case p 0 xs) [ inl none ↦ inl none.0 | inr some ↦ inr (some.0, some.1) ]

pub carrier_unheld : (s : State) (p : ℕ) → Unheld p s.items → last_carrier s p ≡ Journal p
carrier_unheld s p none =
    elim (last_case p 0 s.items) [
      | inl here ↦ ap (carrier_by s p) here.1
      | inr some ↦ absurd (none some.0 some.1.logged some.1.there some.1.holds)
    ]

pub carrier_held : (s : State) (p i : ℕ) (held : HeldLast p s.items i) → last_carrier s p ≡ carrier_of_item i held.logged.handled
carrier_held s p i held =
    elim (last_case p 0 s.items) [
      | inl none ↦ absurd (none.0 i held.logged held.there held.holds)
      | inr some ↦
          ap (carrier_by s p) (some.2 ∙ ap (λ (n : ℕ). Some n) (from_zero some.0 ∙ last_same p s.items some.0 i some.1 held)) ∙
          ap (λ (o : Option Logged). carrier_of_item i (handled_of o)) held.there
    ]
  where
    from_zero : (n : ℕ) → 0 + n ≡ n
    from_zero n = omega arith

-- the carrier by how the item was handled

pub unput_vault : (i : ℕ) (o : Option Handled) → was_put o ≡ false → carrier_of_item i o ≡ Vault i
unput_vault i None unput = refl
unput_vault i (Some how) unput = ap (λ (b : Bool). cond b (Journal how.put) (Vault i)) unput

-- how an item was put back
pub record PutBy (o : Option Handled) : Type 0 where
  pub how : Handled
  pub is : o ≡ Some how
  pub back : how.cause ≡ None

pub put_by : (o : Option Handled) → was_put o ≡ true → PutBy o
put_by None put = absurd (false≢true put)
put_by (Some how) put = record { how = how; is = refl; back = no_cause how.cause put }
  where
    no_cause : (c : Option Cause) → is_none c ≡ true → c ≡ None
    no_cause None none = refl
    no_cause (Some cause) none = absurd (false≢true none)

pub put_journal : (i : ℕ) (o : Option Handled) (by : PutBy o) → carrier_of_item i o ≡ Journal by.how.put
put_journal i o by = ap (carrier_of_item i) by.is ∙ ap (λ (b : Bool). cond b (Journal by.how.put) (Vault i)) (ap (λ (c : Option Cause). is_none c) by.back)

-- carriers are different

pub vault_is : {i j : ℕ} → Vault i ≡ Vault j → i ≡ j
vault_is is = cc

pub journal_is : {p q : ℕ} → Journal p ≡ Journal q → p ≡ q
journal_is is = cc

pub vault_journal : {A : Type 0} (i p : ℕ) → Vault i ≡ Journal p → A
vault_journal i p is = absurd (cc is)
