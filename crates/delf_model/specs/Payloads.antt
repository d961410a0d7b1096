-- The payloads of a history: which positions are needed, what is given and sealed, and what carries each payload.
use Rattle.std.specs.Prelude.{◌≡◌, ◌≢◌, ℕ, Bool, true, false, ◌&&◌, ◌||◌, not, nat_eq, List, [], ◌∷◌, ◌++◌, Option, Some, None, find, filter, slice_get, if◌then◌else◌, option_and_then, unwrap_or, map}
use Rattle.std.specs.List.{list_any}
use Rattle.delf_model.specs.declared.rows.ObjectRow.{ObjectRow}
use Rattle.delf_model.specs.declared.rows.EdgeRow.{EdgeRow}
use Rattle.delf_model.specs.declared.entry.Entry.{Entry}
use Rattle.delf_model.specs.declared.entry.What.{What}
use Rattle.delf_model.specs.declared.entry.What.TheVariants.{Create, Update, Link, Cut, Erase}
use Rattle.delf_model.specs.Graph.{object_at, edge_at}
use Rattle.delf_model.specs.RuleSet.{RuleSet}
use Rattle.delf_model.specs.State.{State, Logged, Handled, JobRow, start, job_row, job_of, position_of}
use Rattle.delf_model.specs.Step.{step}
use Rattle.delf_model.specs.Owners.{key_of}
use Rattle.delf_model.specs.Order.{last_place}
use Rattle.delf_model.specs.Report.{was_put}

-- a payload is named by the position of the entry that gave it

abbrev pub is_purged_row : Option JobRow → Bool
is_purged_row None = false
is_purged_row (Some row) = row.purged

abbrev pub is_purged : List JobRow → ℕ → Bool
is_purged jobs job = is_purged_row (job_row jobs job)

-- an item whose payload may still be put back: its job is not purged, and it was not put back
abbrev pub keeps_payload : List JobRow → Logged → Bool
keeps_payload jobs logged = not (is_purged jobs (job_of logged.item)) && not (was_put logged.handled)

abbrev pub object_needs : ℕ → ObjectRow → Bool
object_needs p row = nat_eq row.at p

abbrev pub edge_needs : ℕ → EdgeRow → Bool
edge_needs p row = nat_eq row.birth p

abbrev pub item_needs : List JobRow → ℕ → Logged → Bool
item_needs jobs p logged = keeps_payload jobs logged && nat_eq (position_of logged.item) p

-- a position is needed where a row of the graph, or an item of an unpurged job that was not put back, holds it
abbrev pub is_needed : State → ℕ → Bool
is_needed s p =
    list_any (object_needs p) s.graph.objects || list_any (edge_needs p) s.graph.edges ||
    list_any (item_needs s.jobs p) s.items

-- the payloads at the needed positions, and the seal of each item
pub record Payloads : Type 0 where
  pub bytes : List (ℕ × List ℕ)
  pub seals : List (List ℕ)

abbrev pub no_payloads : Payloads
no_payloads = record { bytes = []; seals = [] }

abbrev pub is_at : ℕ → ℕ × List ℕ → Bool
is_at p pair = nat_eq pair.0 p

abbrev pub bytes_of_pair : Option (ℕ × List ℕ) → List ℕ
bytes_of_pair None = []
bytes_of_pair (Some pair) = pair.1

-- the payload at a position; where there is no pair, as at a position that is not needed, it is empty
abbrev pub payload_at : Payloads → ℕ → List ℕ
payload_at e p = bytes_of_pair (find (is_at p) e.bytes)

-- the bytes that an entry brings, at its own position
abbrev pub brought : ℕ → What → List ℕ → List (ℕ × List ℕ)
brought p (Create tag kind id size) given = (p, given) ∷ []
brought p (Update tag id size) given = (p, given) ∷ []
brought p (Link tag edge from to size) given = (p, given) ∷ []
brought p what given = []

abbrev pub position_of_object : Option ObjectRow → ℕ
position_of_object None = 0
position_of_object (Some row) = row.at

abbrev pub position_of_edge : Option EdgeRow → ℕ
position_of_edge None = 0
position_of_edge (Some row) = row.birth

-- the seal that an erasure adds: the digest of the payload of the row
abbrev pub sealed : (List ℕ → List ℕ) → State → Payloads → What → List (List ℕ)
sealed digest s e (Cut job edge from to) =
    digest (payload_at e (position_of_edge (edge_at s.graph (key_of edge from to)))) ∷ []
sealed digest s e (Erase job id) = digest (payload_at e (position_of_object (object_at s.graph id))) ∷ []
sealed digest s e what = []

abbrev pub is_needed_pair : State → ℕ × List ℕ → Bool
is_needed_pair s pair = is_needed s pair.0

-- the payloads after an entry that was given these bytes: what it brings is added, what is not needed is dropped
abbrev pub payloads_after : (List ℕ → List ℕ) → State → Entry → List ℕ → Payloads → Payloads
payloads_after digest s entry given e = record {
  bytes = filter (is_needed_pair (step s entry)) (e.bytes ++ brought s.len entry.what given);
  seals = e.seals ++ sealed digest s e entry.what;
}

-- payloads along a history

-- the bytes that the call at this position gave; none where no call gave any
abbrev pub given_at : List (List ℕ) → ℕ → List ℕ
given_at given p = unwrap_or (slice_get given p) []

-- the payloads after further entries, each with the bytes given at its position
abbrev pub payloads_run : (List ℕ → List ℕ) → List (List ℕ) → State → List Entry → Payloads → Payloads
payloads_run digest given s [] e = e
payloads_run digest given s (entry ∷ rest) e =
    payloads_run digest given (step s entry) rest (payloads_after digest s entry (given_at given s.len) e)

-- the payloads after a history
abbrev pub payloads_along : (List ℕ → List ℕ) → List (List ℕ) → RuleSet → List Entry → Payloads
payloads_along digest given rules history = payloads_run digest given (start rules) history no_payloads

abbrev pub seal_given : (List ℕ → List ℕ) → List (List ℕ) → Logged → List ℕ
seal_given digest given logged = digest (given_at given (position_of logged.item))

-- the payloads are those that calls gave: a needed position has one pair, with the bytes of its call, and no other
-- position has any; each item has one seal, the digest of those bytes
pub record AreGiven (digest : List ℕ → List ℕ) (given : List (List ℕ)) (s : State) (e : Payloads) : Type 0 where
  pub pairs : (p : ℕ) → filter (is_at p) e.bytes ≡ (if is_needed s p then (p, given_at given p) ∷ [] else [])
  pub seals : e.seals ≡ map (seal_given digest given) s.items

-- what carries a payload: the journal record at this position, or the vault record of this item
pub data Carrier : Type 0 where
  Journal : (position : ℕ) → Carrier
  Vault : (item : ℕ) → Carrier

abbrev pub holds_position : ℕ → Logged → Bool
holds_position p logged = nat_eq (position_of logged.item) p

abbrev pub carrier_of_item : ℕ → Option Handled → Carrier
carrier_of_item i None = Vault i
carrier_of_item i (Some how) = if was_put (Some how) then Journal how.put else Vault i

abbrev pub handled_of : Option Logged → Option Handled
handled_of found = option_and_then (λ logged. logged.handled) found

abbrev pub carrier_by : State → ℕ → Option ℕ → Carrier
carrier_by s p None = Journal p
carrier_by s p (Some i) = carrier_of_item i (handled_of (slice_get s.items i))

-- the last carrier of a position: the entry that gave it, or the vault record of the last item that holds it,
-- or the Put that put this item back
abbrev pub last_carrier : State → ℕ → Carrier
last_carrier s p = carrier_by s p (last_place (holds_position p) 0 s.items)

-- an item is damaged where its vault record is the last carrier of its needed position, and its seal is not the
-- digest of the payload there
pub record IsDamaged (digest : List ℕ → List ℕ) (s : State) (e : Payloads) (i : ℕ) : Type 0 where
  pub logged : Logged
  pub there : slice_get s.items i ≡ Some logged
  pub needed : is_needed s (position_of logged.item) ≡ true
  pub carried : last_carrier s (position_of logged.item) ≡ Vault i
  pub differs : slice_get e.seals i ≢ Some (digest (payload_at e (position_of logged.item)))
