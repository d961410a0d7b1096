-- A graph: its rows, the look-ups in them, the changes that an entry makes.
use Rattle.std.specs.Prelude.{◌≡◌, ℕ, Bool, true, false, ◌&&◌, ◌||◌, not, nat_eq, nat_lt, List, [], ◌∷◌, Option, Some, None, find, filter, map, count_by, is_some, slice_get, IsTrue, if◌then◌else◌}
use Rattle.std.specs.List.{list_any}
use Rattle.delf_model.specs.declared.rows.ObjectRow.{ObjectRow}
use Rattle.delf_model.specs.declared.rows.EdgeKey.{EdgeKey}
use Rattle.delf_model.specs.declared.rows.EdgeRow.{EdgeRow}
use Rattle.delf_model.specs.declared.schema.EdgeShape.{EdgeShape}
use Rattle.delf_model.specs.RuleSet.{RuleSet, is_refcount}

-- a graph: object rows by rising id, edge rows by rising key
pub record Graph : Type 0 where
  pub objects : List ObjectRow
  pub edges : List EdgeRow

abbrev pub empty_graph : Graph
empty_graph = record { objects = []; edges = [] }

abbrev pub same_key : EdgeKey → EdgeKey → Bool
same_key a b = nat_eq a.edge b.edge && nat_eq a.from b.from && nat_eq a.to b.to

-- keys go by edge type, then source, then target
abbrev pub key_before : EdgeKey → EdgeKey → Bool
key_before a b =
    nat_lt a.edge b.edge ||
    (nat_eq a.edge b.edge && (nat_lt a.from b.from || (nat_eq a.from b.from && nat_lt a.to b.to)))

abbrev pub has_id : ℕ → ObjectRow → Bool
has_id id row = nat_eq row.id id

abbrev pub has_key : EdgeKey → EdgeRow → Bool
has_key key row = same_key row.key key

-- the row of the object with this id
abbrev pub object_at : Graph → ℕ → Option ObjectRow
object_at g id = find (has_id id) g.objects

-- the row of the edge with this key
abbrev pub edge_at : Graph → EdgeKey → Option EdgeRow
edge_at g key = find (has_key key) g.edges

abbrev pub edge_stands : Graph → EdgeKey → Bool
edge_stands g key = is_some (edge_at g key)

abbrev pub is_born_at : ℕ → Option ObjectRow → Bool
is_born_at birth (Some row) = nat_eq row.birth birth
is_born_at birth None = false

-- whether the object with this id stands and was born there; an object of the graph is meant by its id and birth
abbrev pub stands : Graph → ℕ → ℕ → Bool
stands g id birth = is_born_at birth (object_at g id)

abbrev pub is_edge_born_at : ℕ → Option EdgeRow → Bool
is_edge_born_at birth (Some row) = nat_eq row.birth birth
is_edge_born_at birth None = false

-- whether the edge with this key stands and was born there; an edge of the graph is meant by its key and birth
abbrev pub edge_stands_born : Graph → EdgeKey → ℕ → Bool
edge_stands_born g key birth = is_edge_born_at birth (edge_at g key)

abbrev pub touches : ℕ → EdgeKey → Bool
touches id key = nat_eq key.from id || nat_eq key.to id

abbrev pub leaves_from : ℕ → EdgeRow → Bool
leaves_from id row = nat_eq row.key.from id

abbrev pub leads_to : ℕ → EdgeRow → Bool
leads_to id row = nat_eq row.key.to id

abbrev pub touches_row : ℕ → EdgeRow → Bool
touches_row id row = touches id row.key

-- whether any edge touches the object
abbrev pub is_touched : Graph → ℕ → Bool
is_touched g id = list_any (touches_row id) g.edges

-- the edges out of an object, by edge type and target
abbrev pub out_edges : Graph → ℕ → List EdgeRow
out_edges g id = filter (leaves_from id) g.edges

-- the edges into an object, by edge type and source
abbrev pub in_edges : Graph → ℕ → List EdgeRow
in_edges g id = filter (leads_to id) g.edges

abbrev pub is_reference : RuleSet → ℕ → EdgeRow → Bool
is_reference rules id row = is_refcount rules row.key.edge && nat_eq row.key.to id

-- how many edges of refcount types point at the object
abbrev pub ref_count : RuleSet → Graph → ℕ → ℕ
ref_count rules g id = count_by (is_reference rules id) g.edges

-- whether an edge of any refcount type points at the object
abbrev pub has_refs : RuleSet → Graph → ℕ → Bool
has_refs rules g id = list_any (is_reference rules id) g.edges

-- putting a row into its place in the order; a row of the same id gives way
abbrev pub put_object : ObjectRow → List ObjectRow → List ObjectRow
put_object row [] = row ∷ []
put_object row (x ∷ xs) =
    if nat_lt row.id x.id then row ∷ (x ∷ xs) else if nat_eq row.id x.id then row ∷ xs else x ∷ put_object row xs

-- putting a row into its place in the order; a row of the same key gives way
abbrev pub put_edge : EdgeRow → List EdgeRow → List EdgeRow
put_edge row [] = row ∷ []
put_edge row (x ∷ xs) =
    if key_before row.key x.key then row ∷ (x ∷ xs) else if same_key row.key x.key then row ∷ xs else x ∷ put_edge row xs

abbrev pub is_other_object : ℕ → ObjectRow → Bool
is_other_object id row = not (has_id id row)

abbrev pub is_other_edge : EdgeKey → EdgeRow → Bool
is_other_edge key row = not (has_key key row)

-- the row with a new payload, given at this position
abbrev pub rewritten : ℕ → ℕ → ℕ → ObjectRow → ObjectRow
rewritten id at size row = if nat_eq row.id id then record row { at = at; size = size } else row

-- what one entry does to a graph
pub data Change : Type 0 where
  Same : Change
  PutsObject : (row : ObjectRow) → Change
  TakesObject : (id : ℕ) → Change
  RewritesObject : (id at size : ℕ) → Change
  PutsEdge : (row : EdgeRow) → Change
  TakesEdge : (key : EdgeKey) → Change

-- the graph after a change
abbrev pub changed : Graph → Change → Graph
changed g Same = g
changed g (PutsObject row) = record { objects = put_object row g.objects; edges = g.edges }
changed g (TakesObject id) = record { objects = filter (is_other_object id) g.objects; edges = g.edges }
changed g (RewritesObject id at size) = record { objects = map (rewritten id at size) g.objects; edges = g.edges }
changed g (PutsEdge row) = record { objects = g.objects; edges = put_edge row g.edges }
changed g (TakesEdge key) = record { objects = g.objects; edges = filter (is_other_edge key) g.edges }

abbrev pub rises_after : ℕ → List ObjectRow → Bool
rises_after id [] = true
rises_after id (x ∷ xs) = nat_lt id x.id && rises_after x.id xs

-- rows by rising id, so that no id stands twice
abbrev pub objects_rise : List ObjectRow → Bool
objects_rise [] = true
objects_rise (x ∷ xs) = rises_after x.id xs

abbrev pub keys_rise_after : EdgeKey → List EdgeRow → Bool
keys_rise_after key [] = true
keys_rise_after key (x ∷ xs) = key_before key x.key && keys_rise_after x.key xs

-- rows by rising key, so that no key stands twice
abbrev pub edges_rise : List EdgeRow → Bool
edges_rise [] = true
edges_rise (x ∷ xs) = keys_rise_after x.key xs

-- an end stands, with the type that the edge type names
abbrev pub has_kind : Graph → ℕ → ℕ → Type 0
has_kind g id kind = (row : ObjectRow) × (object_at g id ≡ Some row) × (row.kind ≡ kind)

-- a graph value: rising ids, rising keys, and each end of an edge in the graph with the type that the edge type names
pub record IsGraph (rules : RuleSet) (g : Graph) : Type 0 where
  pub objects_in_order : IsTrue (objects_rise g.objects)
  pub edges_in_order : IsTrue (edges_rise g.edges)
  pub ends : (key : EdgeKey) → IsTrue (edge_stands g key) →
      (shape : EdgeShape) × (slice_get rules.edges key.edge ≡ Some shape) × has_kind g key.from shape.from × has_kind g key.to shape.to
