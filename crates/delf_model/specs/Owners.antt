-- Who owns what after an entry: the start of a job, and the edges through which an owner is passed on.
use Rattle.std.specs.Prelude.{ℕ, ◌&&◌, ◌||◌, ◌∷◌, [], if◌then◌else◌, Bool, not, nat_eq, List, Option, Some, None, map}
use Rattle.std.specs.Option.{option_or}
use Rattle.delf_model.specs.declared.rows.ObjectRow.{ObjectRow}
use Rattle.delf_model.specs.declared.rows.EdgeKey.{EdgeKey}
use Rattle.delf_model.specs.declared.rows.EdgeRow.{EdgeRow}
use Rattle.delf_model.specs.declared.ids.JobName.{JobName}
use Rattle.delf_model.specs.declared.entry.What.{What}
use Rattle.delf_model.specs.declared.entry.What.TheVariants.{Unlink, Delete, Expire}
use Rattle.delf_model.specs.declared.ids.JobName.TheVariants.{Named, Expiry}
use Rattle.delf_model.specs.RuleSet.{RuleSet, is_deep, is_refcount}
use Rattle.delf_model.specs.Graph.{Graph, edge_stands, stands, has_refs, changed, TakesEdge}
use Rattle.delf_model.specs.State.{Owners, State, owner_in}

abbrev pub key_of : ℕ → ℕ → ℕ → EdgeKey
key_of edge from to = record { edge = edge; from = from; to = to }

-- an unlink starts a job where the edge is refcount and leaves its target without a reference
abbrev pub unlink_start : State → ℕ → ℕ → ℕ → ℕ → Option (ℕ × JobName)
unlink_start s edge from to name =
    if is_refcount s.rules edge && not (has_refs s.rules (changed s.graph (TakesEdge (key_of edge from to))) to)
    then Some (to, Named name) else None

-- root and name of the job that an entry starts
abbrev pub start_of : State → What → Option (ℕ × JobName)
start_of s (Unlink tag edge from to name) = unlink_start s edge from to name
start_of s (Delete tag id name) = Some (id, Named name)
start_of s (Expire id) = Some (id, Expiry id)
start_of s what = None

abbrev pub root_of_start : Option (ℕ × JobName) → Option ℕ
root_of_start None = None
root_of_start (Some pair) = Some pair.0

-- the root of the job that starts at this position belongs to it
abbrev pub root_owner : Option ℕ → ℕ → ℕ → Option ℕ
root_owner None position id = None
root_owner (Some root) position id = if nat_eq root id then Some position else None

-- an edge condemns its target where it is deep, or refcount with no reference left in the graph afterwards
abbrev pub condemns : RuleSet → Graph → EdgeKey → Bool
condemns rules now key = is_deep rules key.edge || (is_refcount rules key.edge && not (has_refs rules now key.to))

-- the owner that an edge of the graph before passes to this object: the edge points here, is gone and condemns
abbrev pub passed_owner : RuleSet → Graph → Owners → ℕ → EdgeRow → Option ℕ
passed_owner rules now owners id row =
    if nat_eq row.key.to id && not (edge_stands now row.key) && condemns rules now row.key
    then owner_in owners row.key.from else None

abbrev pub first_passed : RuleSet → Graph → Owners → ℕ → List EdgeRow → Option ℕ
first_passed rules now owners id [] = None
first_passed rules now owners id (row ∷ rows) =
    option_or (passed_owner rules now owners id row) (first_passed rules now owners id rows)

-- an object that stood before keeps its owner, or gets one as a root or through an edge that is gone; an object that
-- did not stand before has none
abbrev pub next_owner : RuleSet → Graph → Graph → Option ℕ → ℕ → Owners → ObjectRow → Option ℕ
next_owner rules before now root position owners row =
    if stands before row.id row.birth
    then option_or (owner_in owners row.id)
    (option_or (root_owner root position row.id) (first_passed rules now owners row.id before.edges))
    else None

abbrev pub owned_row : RuleSet → Graph → Graph → Option ℕ → ℕ → Owners → ObjectRow → ℕ × Option ℕ
owned_row rules before now root position owners row = (row.id, next_owner rules before now root position owners row)

-- the owners after an entry, over the graphs before and after it, the root of the job that it starts and its position
abbrev pub owners_after : RuleSet → Graph → Graph → Option ℕ → ℕ → Owners → Owners
owners_after rules before now root position owners = map (owned_row rules before now root position owners) now.objects
