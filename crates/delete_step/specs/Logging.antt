-- What an erasing step logs.
use Rattle.std.specs.Prelude.{List, [], ◌∷◌, Option, Some, None}
use Rattle.delf_model.specs.declared.rows.Item.{Item}
use Rattle.delf_model.specs.declared.entry.What.{What}
use Rattle.delf_model.specs.declared.entry.What.TheVariants.{Create, Update, Link, Unlink, Delete, Restore, Expire, Cut, Erase, Put, Purge}
use Rattle.delf_model.specs.Graph.{Graph, object_at, edge_at}
use Rattle.delf_model.specs.State.{Logged}
use Rattle.delf_model.specs.Owners.{key_of}
use Rattle.delf_model.specs.Step.{edge_item, object_item}

-- the items that a step adds to those of a history with this graph: one where it erases a row that is there
abbrev pub logged_by : Graph → What → List Logged
logged_by g (Create tag kind id size) = []
logged_by g (Update tag id size) = []
logged_by g (Link tag edge from to size) = []
logged_by g (Unlink tag edge from to name) = []
logged_by g (Delete tag id name) = []
logged_by g (Restore tag job) = []
logged_by g (Expire id) = []
logged_by g (Cut job edge from to) = edge_item g job (edge_at g (key_of edge from to))
logged_by g (Erase job id) = object_item job (object_at g id)
logged_by g (Put job i) = []
logged_by g (Purge job) = []

-- the first of these items
abbrev pub first_item : List Logged → Option Item
first_item [] = None
first_item (logged ∷ others) = Some logged.item
