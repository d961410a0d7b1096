-- The edge rows that a table of links makes.
use Rattle.std.specs.Prelude.{◌%◌, ℕ, Bool, List, [], ◌∷◌, Option, Some, None, is_some}
use Rattle.std.specs.List.{filter_map}
use Rattle.std.specs.Map.{lookup}
use Rattle.std.specs.BTreeMap.{is_at, insert_entry}
use Rattle.indexmap.specs.IndexMap.{IndexMap}
use Rattle.delf_model.specs.declared.rows.EdgeKey.{EdgeKey}
use Rattle.delf_model.specs.declared.rows.EdgeRow.{EdgeRow}
use Rattle.edge_index.specs.declared.links.Link.{Link}
use Rattle.edge_index.specs.Keys.{edge_cmp, edge_eq}
use Rattle.edge_index.specs.Shards.{shard, all_in}

-- a key with what stands there
abbrev pub Entry : Type 0
Entry = EdgeKey × Option Link

-- what a table of links is seen as: its entries by rising key
pub record LinkTable : Type 0 where
  pub entries : List Entry

-- what stands at a key among entries in no order
abbrev pub found : List Entry → EdgeKey → Option (Option Link)
found entries key = lookup (edge_eq key) entries

-- the shard of a link: that of its source
abbrev pub link_home : EdgeKey → ℕ
link_home key = key.from % 16

abbrev pub entries_of : {S : Type 0} → IndexMap EdgeKey (Option Link) S → List Entry
entries_of table = table.entries

-- what a table has by its number, and what all have
abbrev pub entries_at : {S : Type 0} → List (IndexMap EdgeKey (Option Link) S) → ℕ → List Entry
entries_at tables n = shard entries_of tables n

abbrev pub all_entries : {S : Type 0} → List (IndexMap EdgeKey (Option Link) S) → List Entry
all_entries tables = all_in entries_of tables

-- entries by rising key, and of two at one key the first
abbrev pub by_key : List Entry → List Entry
by_key [] = []
by_key (e ∷ es) = insert_entry edge_cmp (by_key es) e.0 e.1

-- the row of this key with this link
abbrev pub row_of : EdgeKey → Option Link → Option EdgeRow
row_of key None = None
row_of key (Some link) = Some (record { key = key; birth = link.birth; size = link.size })

-- what a row has beside its key
abbrev pub link_of : EdgeRow → Link
link_of row = record { birth = row.birth; size = row.size }

abbrev pub row_of_entry : Entry → Option EdgeRow
row_of_entry entry = row_of entry.0 entry.1

-- the rows, by rising key where the entries are so
abbrev pub rows_of : List Entry → List EdgeRow
rows_of links = filter_map row_of_entry links

abbrev pub row_found : EdgeKey → Option (Option Link) → Option EdgeRow
row_found key None = None
row_found key (Some link) = row_of key link

-- what the table has at a key
abbrev pub link_at : List Entry → EdgeKey → Option (Option Link)
link_at links key = lookup (is_at (edge_cmp key)) links

-- the row of the edge with this key
abbrev pub row_in : List Entry → EdgeKey → Option EdgeRow
row_in links key = row_found key (link_at links key)

-- whether there is room for this key
abbrev pub has_room : List Entry → EdgeKey → Bool
has_room links key = is_some (link_at links key)
