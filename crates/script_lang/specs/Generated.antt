-- The script that is made to a size: groups of one user and three photos that point at each other.
use Rattle.std.specs.Prelude.{ℕ, ◌+◌, ◌*◌, ◌/◌, ◌%◌, Bool, true, ◌==◌, List, [], ◌∷◌, ◌++◌, map, filter, if◌then◌else◌, codes}
use Rattle.std.specs.List.{flat_map, range_with_len}
use Rattle.delf_model.specs.declared.call.Call.TheVariants.{Create, Link, Delete, Restore}
use Rattle.delf_model.specs.declared.ids.JobName.TheVariants.{Named}
use Rattle.delf_model.specs.declared.schema.ObjectRule.{ObjectRule}
use Rattle.delf_model.specs.declared.schema.ObjectRule.TheVariants.{Directly, ByAny}
use Rattle.delf_model.specs.declared.schema.EdgeRule.{EdgeRule}
use Rattle.delf_model.specs.declared.schema.EdgeRule.TheVariants.{Deep, Shallow, Refcount}
use Rattle.delf_model.specs.declared.schema.ObjectType.{ObjectType}
use Rattle.delf_model.specs.declared.schema.EdgeType.{EdgeType}
use Rattle.delf_model.specs.declared.schema.Schema.{Schema}
use Rattle.delf_model.specs.declared.script.Command.{Command}
use Rattle.delf_model.specs.declared.script.Command.TheVariants.{Submit, Work, Par}
use Rattle.delf_model.specs.declared.script.Lane.{Lane}
use Rattle.delf_model.specs.declared.script.LaneCommand.{LaneCommand}
use Rattle.delf_model.specs.declared.script.LaneCommand.TheVariants as lane

-- a type that stands on no line
abbrev pub object_type : List ℕ → ObjectRule → ObjectType
object_type name rule = record { name = name; rule = rule; line = 0 }

abbrev pub edge_type : List ℕ → List ℕ → List ℕ → EdgeRule → EdgeType
edge_type name source target rule = record { name = name; from = source; to = target; rule = rule; line = 0 }

abbrev pub generated_types : List ObjectType
generated_types = object_type (codes "user") Directly ∷ object_type (codes "photo") ByAny ∷ []

abbrev pub generated_edges : List EdgeType
generated_edges =
    edge_type (codes "owns") (codes "user") (codes "photo") Deep
    ∷ edge_type (codes "likes") (codes "user") (codes "photo") Shallow
    ∷ edge_type (codes "holds") (codes "user") (codes "photo") Refcount
    ∷ edge_type (codes "next") (codes "photo") (codes "photo") Shallow
    ∷ []

abbrev pub generated_schema : Schema
generated_schema = record { window = 100; objects = generated_types; edges = generated_edges }

-- the user of a group; its photos have the three ids behind it
abbrev pub user_of : ℕ → ℕ
user_of group = 4 * group + 1

-- the job that deletes the user of a group
abbrev pub job_of : ℕ → ℕ
job_of group = group + 1

abbrev pub user_created : ℕ → LaneCommand
user_created id = lane.Submit (Create 0 id (codes "u"))

abbrev pub photo_created : ℕ → LaneCommand
photo_created id = lane.Submit (Create 1 id (codes "p"))

abbrev pub linked : ℕ → ℕ → ℕ → LaneCommand
linked edge source target = lane.Submit (Link edge source target [])

abbrev pub objects_of : ℕ → List LaneCommand
objects_of user = user_created user ∷ photo_created (user + 1) ∷ photo_created (user + 2) ∷ photo_created (user + 3) ∷ []

-- a user owns, likes and holds a photo
abbrev pub links_of : ℕ → ℕ → List LaneCommand
links_of user photo = linked 0 user photo ∷ linked 1 user photo ∷ linked 2 user photo ∷ []

-- each photo points at the next, and the last at the first
abbrev pub ring_of : ℕ → List LaneCommand
ring_of user = linked 3 (user + 1) (user + 2) ∷ linked 3 (user + 2) (user + 3) ∷ linked 3 (user + 3) (user + 1) ∷ []

-- the user of an even group is deleted
abbrev pub deletion_of : ℕ → List LaneCommand
deletion_of group = if group % 2 == 0 then lane.Submit (Delete (user_of group) (job_of group)) ∷ [] else []

abbrev pub all_links_of : ℕ → List LaneCommand
all_links_of user = links_of user (user + 1) ++ links_of user (user + 2) ++ links_of user (user + 3) ++ ring_of user

abbrev pub group_of : ℕ → List LaneCommand
group_of group = objects_of (user_of group) ++ all_links_of (user_of group) ++ deletion_of group

-- whether a lane holds a group
abbrev pub is_in_lane : ℕ → ℕ → Bool
is_in_lane lane group = group % 8 == lane

-- a lane holds each eighth of these groups, by rising number
abbrev pub lane_of : ℕ → ℕ → Lane
lane_of groups lane = record { commands = flat_map group_of (filter (is_in_lane lane) (range_with_len 0 groups)) }

abbrev pub restored : ℕ → Command
restored group = Submit (Restore (Named (job_of group)))

-- the job of each eighth group is restored, by rising number
abbrev pub restores_of : ℕ → List Command
restores_of groups = map restored (filter (is_in_lane 0) (range_with_len 0 groups))

abbrev pub script_of_groups : ℕ → List Command
script_of_groups groups =
    Par true 8 1000000 (map (lane_of groups) (range_with_len 0 8)) ∷ (restores_of groups ++ Work 1000000 ∷ [])

-- the script of n objects, or up to three fewer: four to a group
abbrev pub generated_script : ℕ → List Command
generated_script n = script_of_groups (n / 4)
