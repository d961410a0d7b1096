-- What an index of edges shows of its tables, which agree.
use Rattle.std.specs.Map.{keys_of}
use Rattle.edge_index.specs.declared.edge_index.EdgeIndex.TheInside.{Inside}
use Rattle.edge_index.specs.Tables.{Agree, rows}
use Rattle.edge_index.specs.IndexedEdges.{IndexedEdges}

abbrev pub edges_seen : Inside → IndexedEdges
edges_seen a = record { edges = rows a.tables; shapes = a.tables.shapes.items; room = keys_of a.tables.links.entries }

abbrev pub AreAgreed : Inside → Type 0
AreAgreed a = Agree a.tables
