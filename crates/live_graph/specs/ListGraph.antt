-- What a graph of two lists stands for.
use Rattle.std.specs.Prelude.{ℕ, Bool, nat_lt, slice_get, vec_len, vec_capacity}
use Rattle.delf_model.specs.declared.rows.EdgeKey.{EdgeKey}
use Rattle.delf_model.specs.RuleSet.{is_refcount_shape}
use Rattle.delf_model.specs.Graph.{Graph}
use Rattle.live_graph.specs.declared.list_graph.ListGraph.{ListGraph}

abbrev pub graph_of : ListGraph → Graph
graph_of g = record { objects = g.objects.items; edges = g.edges.items }

-- whether the edge type with this number is refcount
abbrev pub counts_of : ListGraph → ℕ → Bool
counts_of g = λ edge. is_refcount_shape (slice_get g.shapes.items edge)

-- whether an object more needs no memory
abbrev pub has_object_room : ListGraph → ℕ → Bool
has_object_room g id = nat_lt (vec_len g.objects) (vec_capacity g.objects)

-- whether an edge more needs no memory
abbrev pub has_edge_room : ListGraph → EdgeKey → Bool
has_edge_room g key = nat_lt (vec_len g.edges) (vec_capacity g.edges)
