-- How the tables of an index of edges agree.
use Rattle.std.specs.Prelude.{◌≡◌, ℕ, Bool, ◌<◌, ◌^◌, List, length, slice_get}
use Rattle.std.specs.List.Sorted.{IsStrictlySortedBy}
use Rattle.std.specs.Map.{keys_of}
use Rattle.delf_model.specs.declared.rows.EdgeKey.{EdgeKey}
use Rattle.delf_model.specs.declared.rows.EdgeRow.{EdgeRow}
use Rattle.delf_model.specs.RuleSet.{is_refcount_shape}
use Rattle.edge_index.specs.declared.tables.Tables.{Tables}
use Rattle.edge_index.specs.Keys.{edge_cmp}
use Rattle.edge_index.specs.Links.{rows_of}
use Rattle.edge_index.specs.Ends.{IsOrderOf, places_at, at_source, at_target, no_key}
use Rattle.edge_index.specs.Refs.{AreRefsOf, counts_at}

-- the edges of the tables, by rising key
abbrev pub rows : Tables → List EdgeRow
rows tables = rows_of tables.links.entries

-- whether the edge type with this number is refcount
abbrev pub counts : Tables → ℕ → Bool
counts tables = λ edge. is_refcount_shape (slice_get tables.shapes.items edge)

-- the tables agree, but that the orders may have these spare keys
pub record AgreeBut (spare : EdgeKey → Bool) (tables : Tables) : Type 0 where
  pub rise : IsStrictlySortedBy edge_cmp (keys_of tables.links.entries)
  pub few : length (rows tables) < 2 ^ 32
  pub outs : length tables.outward.items ≡ 16
  pub out : IsOrderOf at_source spare tables.links.entries (places_at tables.outward.items)
  pub ins : length tables.inward.items ≡ 16
  pub into : IsOrderOf at_target spare tables.links.entries (places_at tables.inward.items)
  pub targets : length tables.refs.items ≡ 16
  pub refs : AreRefsOf (counts tables) tables.links.entries (counts_at tables.refs.items)

abbrev pub Agree : Tables → Type 0
Agree tables = AgreeBut no_key tables
