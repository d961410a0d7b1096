-- Graphs, states and lists of entries of which the examples speak; those said to be wrong are ones that no legal history has.
use Rattle.std.specs.Prelude.{ℕ, List, [], ◌∷◌, ◌++◌}
use Rattle.delf_model.specs.declared.entry.Entry.{Entry}
use Rattle.delf_model.specs.declared.entry.What.TheVariants.{Create, Link, Delete, Restore, Cut, Erase, Put}
use Rattle.delf_model.specs.Graph.{Graph}
use Rattle.delf_model.specs.State.{State, start}
use Rattle.delf_model.specs.Step.{after}
use Rattle.delf_model.specs.Worked.{example_rules, user, photo, album, owning, liking, holding, object, edge}
use Rattle.history_laws.specs.Parts.{tag, at_zero, deleted}

-- a user owns a user, where the edge type points at photos
abbrev pub wrong_target : Graph
wrong_target = record { objects = object 1 user 0 1 ∷ object 9 user 1 1 ∷ []; edges = edge owning 1 9 2 ∷ [] }

-- the edge to photo 3 stands before the edge to photo 2
abbrev pub keys_fall : Graph
keys_fall = record {
  objects = object 1 user 0 1 ∷ object 2 photo 1 1 ∷ object 3 photo 2 1 ∷ [];
  edges = edge owning 1 3 3 ∷ edge owning 1 2 4 ∷ [];
}

-- one key stands twice
abbrev pub key_twice : Graph
key_twice = record {
  objects = object 1 user 0 1 ∷ object 2 photo 1 1 ∷ [];
  edges = edge owning 1 2 2 ∷ edge owning 1 2 3 ∷ [];
}

-- the state after the user was deleted, but its edge is gone
abbrev pub edge_lost : State
edge_lost = record (after example_rules deleted) { graph = record (after example_rules deleted).graph { edges = [] } }

-- wrong: a job for an object that never stood
abbrev pub rootless : List Entry
rootless = at_zero (Delete (tag 0) 1 40) ∷ []

-- wrong: the user is erased before its edge is cut, so that the edge is logged after an end of it
abbrev pub end_first : List Entry
end_first = deleted ++ at_zero (Erase 4 1) ∷ at_zero (Cut 4 owning 1 2) ∷ at_zero (Restore (tag 5) 4) ∷ []

-- the deletion and its restore, with a new user between
abbrev pub with_another : List Entry
with_another =
    deleted ++ at_zero (Cut 4 owning 1 2) ∷ at_zero (Erase 4 2) ∷ at_zero (Erase 4 1) ∷ at_zero (Create (tag 5) user 7 0) ∷
    at_zero (Restore (tag 6) 4) ∷ at_zero (Put 4 2) ∷ at_zero (Put 4 1) ∷ at_zero (Put 4 0) ∷ []

-- a state of so many entries with nothing else in it
abbrev pub long_state : ℕ → State
long_state len = record (start example_rules) { len = len }

-- an album holds a photo that a user likes; then the album is deleted
abbrev pub held_photo : List Entry
held_photo =
    at_zero (Create (tag 0) album 5 0) ∷ at_zero (Create (tag 1) photo 3 0) ∷ at_zero (Create (tag 2) user 9 0) ∷
    at_zero (Link (tag 3) holding 5 3 0) ∷ at_zero (Link (tag 4) liking 9 3 0) ∷ at_zero (Delete (tag 5) 5 40) ∷ []

-- the job's steps: the last reference, the edge of the user who is not deleted, the photo and the album
abbrev pub photo_taken : List Entry
photo_taken = at_zero (Cut 5 holding 5 3) ∷ at_zero (Cut 5 liking 9 3) ∷ at_zero (Erase 5 3) ∷ at_zero (Erase 5 5) ∷ []

-- the album alone is erased
abbrev pub photo_left : List Entry
photo_left = held_photo ++ at_zero (Cut 5 holding 5 3) ∷ at_zero (Erase 5 5) ∷ []

-- wrong: the user is erased too
abbrev pub stranger_taken : List Entry
stranger_taken = held_photo ++ photo_taken ++ at_zero (Erase 5 9) ∷ []
