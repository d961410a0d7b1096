-- What an entry makes of the payloads that stood.
use Rattle.std.proofs.Common.{◌≡◌, ℕ, Bool, true, false, cond, List, [], ◌∷◌, ◌++◌, refl, sym, ap, arith, ⊎_elim}
use Rattle.std.specs.Prelude.{filter}
use Rattle.std.specs.List.{Contains}
use Rattle.std.proofs.lemmas.List.Elements.{Contains-append_left, Contains-append_right, Contains-append_cases, Contains-push_cases}
use Rattle.delf_model.specs.declared.entry.Entry.{Entry}
use Rattle.delf_model.specs.declared.entry.What.{What}
use Rattle.delf_model.specs.declared.entry.What.TheVariants.{Create, Update, Link, Unlink, Delete, Restore, Expire, Cut, Erase, Put, Purge}
use Rattle.delf_model.specs.Payloads.{brought, is_needed_pair, payloads_after, sealed}
use Rattle.delf_model.specs.Step.{step}
use Rattle.store_laws.specs.Stores.{digest}
use Rattle.ledger.proofs.Entering.{len_after}
use Rattle.delf_service.specs.declared.standing.Standing.{Standing}
use Rattle.delf_service.specs.Follows.{KeepsPayloads}
use Rattle.delf_service.specs.Standings.{payloads_of, state_at}

pub nowhere : {A : Type 0} {P : Type 0} (x : A) → Contains [] x → P
nowhere x there = let less = there.1 in absurd (omega (arith, less))

-- an element of a filtered list is one of the list
filter_from : {A : Type 0} (keep : A → Bool) (xs : List A) (x : A) → Contains (filter keep xs) x → Contains xs x
filter_from keep [] x there = there
filter_from {A = A} keep (y ∷ ys) x there = by_head (keep y) (λ more. filter_from keep ys x more) there where
  by_head : (b : Bool) → (Contains (filter keep ys) x → Contains ys x) → Contains (cond b (y ∷ filter keep ys) (filter keep ys)) x → Contains (y ∷ ys) x
  by_head true from here = ⊎_elim (λ one. Contains-append_left (y ∷ []) ys x one) (λ more. Contains-append_right (y ∷ []) ys x (from more))
      (Contains-append_cases (y ∷ []) (filter keep ys) x here)
  by_head false from here = Contains-append_right (y ∷ []) ys x (from here)

one_place : (n : ℕ) (given : List ℕ) (p : ℕ × List ℕ) → Contains ((n, given) ∷ []) p → p.0 ≡ n
one_place n given p there = ⊎_elim (λ none. nowhere p none) (λ same. sym (ap (λ (q : ℕ × List ℕ). q.0) same)) (Contains-push_cases [] (n, given) p there)

-- an entry brings bytes to its own position alone
brought_place : (n : ℕ) (w : What) (given : List ℕ) (p : ℕ × List ℕ) → Contains (brought n w given) p → p.0 ≡ n
brought_place n (Create tag kind id size) given p there = one_place n given p there
brought_place n (Update tag id size) given p there = one_place n given p there
brought_place n (Link tag edge from to size) given p there = one_place n given p there
brought_place n (Unlink tag edge from to name) given p there = nowhere p there
brought_place n (Delete tag id name) given p there = nowhere p there
brought_place n (Restore tag job) given p there = nowhere p there
brought_place n (Expire id) given p there = nowhere p there
brought_place n (Cut job edge from to) given p there = nowhere p there
brought_place n (Erase job id) given p there = nowhere p there
brought_place n (Put job i) given p there = nowhere p there
brought_place n (Purge job) given p there = nowhere p there

-- the payloads behind an entry may come after those before it
pub keeps_push : (x : Standing) (e : Entry) (given : List ℕ) → KeepsPayloads x.history (payloads_after digest (state_at x) e given (payloads_of x)) (payloads_of x)
keeps_push x e given = record {
  pairs = λ p less there. ⊎_elim
      (λ old. old)
      (λ new.
      let place = brought_place (state_at x).len e.what given p new in
      let long = len_after x.key.rules x.history in
      absurd (omega (arith, place, long, less)))
      (Contains-append_cases x.payloads (brought (state_at x).len e.what given) p
      (filter_from (is_needed_pair (step (state_at x) e)) (x.payloads ++ brought (state_at x).len e.what given) p there));
  seals = (sealed digest (state_at x) (payloads_of x) e.what, refl);
}
