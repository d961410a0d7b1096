-- Which entry of a history made a row: births and positions are places of entries.
use Rattle.std.specs.Prelude.{◌≡◌, ℕ, List, Some, slice_get}
use Rattle.delf_model.specs.declared.rows.ObjectRow.{ObjectRow}
use Rattle.delf_model.specs.declared.rows.EdgeKey.{EdgeKey}
use Rattle.delf_model.specs.declared.rows.EdgeRow.{EdgeRow}
use Rattle.delf_model.specs.declared.rows.Item.{Item}
use Rattle.delf_model.specs.declared.rows.Item.TheVariants as item
use Rattle.delf_model.specs.declared.entry.Entry.{Entry}
use Rattle.delf_model.specs.declared.entry.Tag.{Tag}
use Rattle.delf_model.specs.declared.entry.What.{What}
use Rattle.delf_model.specs.declared.entry.What.TheVariants.{Create, Update, Link}
use Rattle.delf_model.specs.RuleSet.{RuleSet}
use Rattle.delf_model.specs.Graph.{object_at, edge_at}
use Rattle.delf_model.specs.State.{Logged}
use Rattle.delf_model.specs.Step.{after}

-- the entry at the row's birth created the object with its type and id
pub record BornByCreate (history : List Entry) (row : ObjectRow) : Type 0 where
  pub entry : Entry
  pub there : slice_get history row.birth ≡ Some entry
  pub tag : Tag
  pub size : ℕ
  pub creates : entry.what ≡ Create tag row.kind row.id size

-- an entry that gives the object a payload of the row's size
pub data Gives (row : ObjectRow) (what : What) : Type 0 where
  ByCreate : (tag : Tag) → what ≡ Create tag row.kind row.id row.size → Gives row what
  ByUpdate : (tag : Tag) → what ≡ Update tag row.id row.size → Gives row what

-- the entry at the row's position gave the payload
pub record GivenByEntry (history : List Entry) (row : ObjectRow) : Type 0 where
  pub entry : Entry
  pub there : slice_get history row.at ≡ Some entry
  pub gives : Gives row entry.what

pub record ObjectMade (history : List Entry) (row : ObjectRow) : Type 0 where
  pub born : BornByCreate history row
  pub given : GivenByEntry history row

-- the entry at the row's birth linked its ends by its type, with a payload of its size
pub record EdgeMade (history : List Entry) (row : EdgeRow) : Type 0 where
  pub entry : Entry
  pub there : slice_get history row.birth ≡ Some entry
  pub tag : Tag
  pub links : entry.what ≡ Link tag row.key.edge row.key.from row.key.to row.size

abbrev pub ItemMade : List Entry → Item → Type 0
ItemMade history (item.Object job row) = ObjectMade history row
ItemMade history (item.Edge job row from_birth to_birth) = EdgeMade history row

-- each row of the graph and each item was made by the entries that it names
pub record RowsAreMade (rules : RuleSet) (history : List Entry) : Type 0 where
  pub objects : (id : ℕ) (row : ObjectRow) → object_at (after rules history).graph id ≡ Some row → ObjectMade history row
  pub edges : (key : EdgeKey) (row : EdgeRow) → edge_at (after rules history).graph key ≡ Some row → EdgeMade history row
  pub items : (i : ℕ) (logged : Logged) → slice_get (after rules history).items i ≡ Some logged → ItemMade history logged.item
