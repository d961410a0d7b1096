-- What a legal entry says of the state before it.
use Rattle.std.proofs.Common.{◌≡◌, ℕ, ◌≤◌, Bool, true, false, cond, ◌&&◌, eqb, ltb, leb, List, [], ◌∷◌, Option, Some, None, refl}
use Rattle.std.proofs.lemmas.Bool.{and_parts, eqb-true, false≢true, ltb-false, leb-true}
use Rattle.std.specs.Prelude.{is_some, is_none, if◌then◌else◌}
use Rattle.delf_model.specs.declared.rows.ObjectRow.{ObjectRow}
use Rattle.delf_model.specs.declared.rows.EdgeKey.{EdgeKey}
use Rattle.delf_model.specs.declared.rows.EdgeRow.{EdgeRow}
use Rattle.delf_model.specs.declared.call.Refusal.{Refusal}
use Rattle.delf_model.specs.declared.call.Refusal.TheVariants.{TooLong, Absent, NoEdge, Pending, Full}
use Rattle.delf_model.specs.declared.entry.Entry.{Entry}
use Rattle.delf_model.specs.declared.entry.What.{What}
use Rattle.delf_model.specs.Graph.{object_at, edge_at, edge_stands}
use Rattle.delf_model.specs.State.{State, owner, owned}
use Rattle.delf_model.specs.Step.{step, tag_of}
use Rattle.delf_model.specs.Legal.{is_legal, is_allowed, is_tag, is_numbered}
use Rattle.delf_model.specs.Room.{greatest_moment, payload_limit, room_limit, room, used, owed, may_come}
use Rattle.delf_model.specs.Order.{first_in_order, first_step}
use Rattle.delf_model.specs.Reply.{first_refusal, too_long, absent, condemned, condemned_by, name_taken, name_taken_by, edge_taken, edge_taken_by, no_edge, full, pending}

-- each of these is none
abbrev pub NoneOf : {A : Type 0} → List (Option A) → Type 0
NoneOf [] = Unit {0}
NoneOf (x ∷ xs) = (x ≡ None) × NoneOf xs

pub none_of : (xs : List (Option Refusal)) → is_none (first_refusal xs) ≡ true → NoneOf xs
none_of [] none = tt
none_of (None ∷ xs) none = (refl, none_of xs none)
none_of (Some x ∷ xs) none = absurd (false≢true none)

-- the parts of legality

pub allowed_of : (s : State) (e : Entry) → is_legal s e ≡ true → is_allowed s e.moment e.what ≡ true
allowed_of s e legal = (and_parts (leb s.moment e.moment && leb e.moment greatest_moment && is_tag s (tag_of e.what) && is_numbered s.rules e.what) (is_allowed s e.moment e.what) legal).1

front_of : (s : State) (e : Entry) → is_legal s e ≡ true → (leb s.moment e.moment && leb e.moment greatest_moment && is_tag s (tag_of e.what) && is_numbered s.rules e.what) ≡ true
front_of s e legal = (and_parts (leb s.moment e.moment && leb e.moment greatest_moment && is_tag s (tag_of e.what) && is_numbered s.rules e.what) (is_allowed s e.moment e.what) legal).0

pub numbered_of : (s : State) (e : Entry) → is_legal s e ≡ true → is_numbered s.rules e.what ≡ true
numbered_of s e legal = (and_parts (leb s.moment e.moment && leb e.moment greatest_moment && is_tag s (tag_of e.what)) (is_numbered s.rules e.what) (front_of s e legal)).1

pub tagged_of : (s : State) (e : Entry) → is_legal s e ≡ true → is_tag s (tag_of e.what) ≡ true
tagged_of s e legal =
    (and_parts (leb s.moment e.moment && leb e.moment greatest_moment) (is_tag s (tag_of e.what))
    (and_parts (leb s.moment e.moment && leb e.moment greatest_moment && is_tag s (tag_of e.what)) (is_numbered s.rules e.what) (front_of s e legal)).0).1

moments_of : (s : State) (e : Entry) → is_legal s e ≡ true → (leb s.moment e.moment && leb e.moment greatest_moment) ≡ true
moments_of s e legal =
    (and_parts (leb s.moment e.moment && leb e.moment greatest_moment) (is_tag s (tag_of e.what))
    (and_parts (leb s.moment e.moment && leb e.moment greatest_moment && is_tag s (tag_of e.what)) (is_numbered s.rules e.what) (front_of s e legal)).0).0

pub moment_not_before : (s : State) (e : Entry) → is_legal s e ≡ true → s.moment ≤ e.moment
moment_not_before s e legal = leb-true s.moment e.moment (and_parts (leb s.moment e.moment) (leb e.moment greatest_moment) (moments_of s e legal)).0

pub moment_within : (s : State) (e : Entry) → is_legal s e ≡ true → e.moment ≤ greatest_moment
moment_within s e legal = leb-true e.moment greatest_moment (and_parts (leb s.moment e.moment) (leb e.moment greatest_moment) (moments_of s e legal)).1

-- the first step comes at a moment that may come, and there it is the first in order

pub first_in : (s : State) (moment : ℕ) (what : What) → first_step s moment ≡ Some what →
    (may_come s moment ≡ true) × (first_in_order s moment ≡ Some what)
first_in s moment what found = by_guard (may_come s moment) refl found
  where
    by_guard : (b : Bool) → may_come s moment ≡ b → (if b then first_in_order s moment else None) ≡ Some what →
        (may_come s moment ≡ true) × (first_in_order s moment ≡ Some what)
    by_guard true may found = (may, found)
    by_guard false may found = absurd (cc found)

pub none_in : (s : State) (moment : ℕ) → first_step s moment ≡ None → may_come s moment ≡ true → first_in_order s moment ≡ None
none_in s moment none may = by_guard (may_come s moment) may none
  where
    by_guard : (b : Bool) → b ≡ true → (if b then first_in_order s moment else None) ≡ None → first_in_order s moment ≡ None
    by_guard true may none = none
    by_guard false may none = absurd (false≢true may)

pub may_come_parts : (s : State) (moment : ℕ) → may_come s moment ≡ true → (s.moment ≤ moment) × (moment ≤ greatest_moment)
may_come_parts s moment may =
    let parts = and_parts (leb s.moment moment) (leb moment greatest_moment) may in
    (leb-true s.moment moment parts.0, leb-true moment greatest_moment parts.1)

pub may_come_of : (s : State) (e : Entry) → is_legal s e ≡ true → may_come s e.moment ≡ true
may_come_of s e legal = moments_of s e legal

-- one fact for each refusal that does not hold

unless_some : {A : Type 0} (b : Bool) (r : A) → cond b None (Some r) ≡ None → b ≡ true
unless_some true r none = refl
unless_some false r none = absurd (cc none)

if_some : {A : Type 0} (b : Bool) (r : A) → cond b (Some r) None ≡ None → b ≡ false
if_some true r none = absurd (cc none)
if_some false r none = refl

pub there : (s : State) (id : ℕ) → absent s id ≡ None → is_some (object_at s.graph id) ≡ true
there s id none = unless_some (is_some (object_at s.graph id)) (Absent id) none

free_of : (id : ℕ) (o : Option ℕ) → condemned_by id o ≡ None → o ≡ None
free_of id None none = refl
free_of id (Some job) none = absurd (cc none)

pub free : (s : State) (id : ℕ) → condemned s id ≡ None → owner s id ≡ None
free s id none = free_of id (owner s id) none

name_free_of : (o : Option ObjectRow) → name_taken_by o ≡ None → o ≡ None
name_free_of None none = refl
name_free_of (Some row) none = absurd (cc none)

pub name_free : (s : State) (id : ℕ) → name_taken s id ≡ None → object_at s.graph id ≡ None
name_free s id none = name_free_of (object_at s.graph id) none

key_free_of : (o : Option EdgeRow) → edge_taken_by o ≡ None → o ≡ None
key_free_of None none = refl
key_free_of (Some row) none = absurd (cc none)

pub key_free : (s : State) (key : EdgeKey) → edge_taken s key ≡ None → edge_at s.graph key ≡ None
key_free s key none = key_free_of (edge_at s.graph key) none

pub edge_there : (s : State) (key : EdgeKey) → no_edge s key ≡ None → edge_stands s.graph key ≡ true
edge_there s key none = unless_some (edge_stands s.graph key) NoEdge none

pub room_left : (s : State) (moment : ℕ) (what : What) → full s moment what ≡ None → room (step s (record { moment = moment; what = what })) ≤ room_limit
room_left s moment what none =
    ltb-false room_limit (room (step s (record { moment = moment; what = what })))
    (if_some (ltb room_limit (room (step s (record { moment = moment; what = what })))) (Full (used s) (owed s)) none)

pub short : (size : ℕ) → too_long size ≡ None → size ≤ payload_limit
short size none = ltb-false payload_limit size (if_some (ltb payload_limit size) (TooLong size) none)

pub owns_none : (s : State) (job : ℕ) → pending s job ≡ None → owned s job ≡ 0
owns_none s job none = eqb-true (owned s job) 0 (unless_some (eqb (owned s job) 0) (Pending (owned s job)) none)
