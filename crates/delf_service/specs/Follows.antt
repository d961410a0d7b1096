-- What may come after a standing.
use Rattle.std.specs.Prelude.{◌≡◌, ◌≤◌, ◌<◌, ℕ, ◌⊎◌, true, List, [], ◌∷◌, Some, length, slice_get, take}
use Rattle.std.specs.List.{Contains}
use Rattle.delf_disk.specs.Causes.{Rose}
use Rattle.delf_model.specs.declared.entry.Entry.{Entry}
use Rattle.delf_model.specs.Payloads.{Payloads, payloads_after}
use Rattle.delf_model.specs.RuleSet.{RuleSet}
use Rattle.delf_model.specs.State.{State}
use Rattle.delf_model.specs.Step.{step, after}
use Rattle.delf_model.specs.Room.{moment_of}
use Rattle.store_laws.specs.Stores.{digest}
use Rattle.seat_lock.specs.Lists.{StartsWith}
use Rattle.delf_service.specs.declared.standing.Key.{Key}
use Rattle.delf_service.specs.declared.standing.Standing.{Standing}
use Rattle.delf_service.specs.Standings.{IsPlain, payloads_of, state_at}

-- each element from this place on is one that may stand behind those before it
abbrev pub FitsFrom : {A : Type 0} → (List A → A → Type 0) → ℕ → List A → Type 0
FitsFrom {A} P from xs = (k : ℕ) (x : A) → from ≤ k → slice_get xs k ≡ Some x → P (take k xs) x

-- the entry has the moment that a call behind this history has, where the clock says `now`
abbrev pub IsDated : RuleSet → ℕ → List Entry → Entry → Type 0
IsDated rules now before e = e.moment ≡ moment_of (after rules before) now

-- payloads that may come after those of a history: at its positions there is nothing that was not there, and its items
-- keep their seals
pub record KeepsPayloads (history : List Entry) (now before : Payloads) : Type 0 where
  pub pairs : (p : ℕ × List ℕ) → p.0 < length history → Contains now.bytes p → Contains before.bytes p
  pub seals : StartsWith now.seals before.seals

-- entries from this state on, each of which was given some bytes, lead from the first payloads to the second ones
abbrev pub LeadTo : State → List Entry → Payloads → Payloads → Type 0
LeadTo s [] before now = now ≡ before
LeadTo s (e ∷ es) before now = (given : List ℕ) × LeadTo (step s e) es (payloads_after digest s e given before) now

-- The first standing is the second one or may come after it: the history begins with the other's, each entry behind the
-- other's length has the moment of its place, the payloads at its positions are the other's, where the disk is plain, and
-- the seals begin with the other's: the entries behind lead to both, each with the bytes that it was given. The count of
-- faults is no less, a book is down only where it was or where the count rose and stays so with its history, no more lanes
-- are left, and the key is the same.
pub record Follows (s t : Standing) : Type 0 where
  pub history : StartsWith s.history t.history
  pub dated : (now : ℕ) → s.key.moment ≡ Some now → FitsFrom (IsDated s.key.rules now) (length t.history) s.history
  pub payloads : IsPlain s.key → KeepsPayloads t.history (payloads_of s) (payloads_of t)
  pub grown : IsPlain s.key → LeadTo (state_at t) history.0 (payloads_of t) (payloads_of s)
  pub faults : t.faults ≤ s.faults
  pub cause : s.down ≡ true → (t.down ≡ true) ⊎ Rose t.faults s.faults
  pub down : t.down ≡ true → (s.down ≡ true) × (s.history ≡ t.history)
  pub lanes : s.lanes ≤ t.lanes
  pub key : s.key ≡ t.key

-- this is the moment that each call hands in, where all hand in one
abbrev pub IsMoment : Key → ℕ → Type 0
IsMoment key now = (m : ℕ) → key.moment ≡ Some m → m ≡ now
