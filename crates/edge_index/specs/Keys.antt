-- The order of edge keys and their equality, as maps of them compare.
use Rattle.std.specs.Prelude.{Bool, ◌&&◌, nat_eq}
use Rattle.std.specs.declared.cmp.Ordering.{Ordering}
use Rattle.std.specs.Ordering.{ordering_then, nat_cmp}
use Rattle.delf_model.specs.declared.rows.EdgeKey.{EdgeKey}

-- by edge type, then source, then target
abbrev pub edge_cmp : EdgeKey → EdgeKey → Ordering
edge_cmp a b = ordering_then (nat_cmp a.edge b.edge) (ordering_then (nat_cmp a.from b.from) (nat_cmp a.to b.to))

-- the same edge type, source and target
abbrev pub edge_eq : EdgeKey → EdgeKey → Bool
edge_eq a b = nat_eq a.edge b.edge && (nat_eq a.from b.from && nat_eq a.to b.to)
