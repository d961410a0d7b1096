-- Histories of which the examples speak. The entries `deleted` create a user 1, a photo 2 that it owns and a user 9, and
-- delete user 1 by the job 4.
use Rattle.std.specs.Prelude.{ℕ, List, [], ◌∷◌, ◌++◌}
use Rattle.delf_model.specs.declared.rows.Item.{Item}
use Rattle.delf_model.specs.declared.rows.Item.TheVariants as item
use Rattle.delf_model.specs.declared.entry.Entry.{Entry}
use Rattle.delf_model.specs.declared.entry.What.TheVariants.{Create, Link, Delete, Restore, Cut, Erase, Put}
use Rattle.delf_model.specs.Graph.{Graph}
use Rattle.delf_model.specs.Step.{after}
use Rattle.delf_model.specs.Worked.{example_rules, user, photo, owning, object, edge}
use Rattle.history_laws.specs.Parts.{tag, at_zero, deleted, alone_history}

-- the graph right after the deletion was accepted
abbrev pub deleted_graph : Graph
deleted_graph = (after example_rules deleted).graph

-- the user is erased, and its photo is left
abbrev pub left_behind : List Entry
left_behind = deleted ++ at_zero (Cut 4 owning 1 2) ∷ at_zero (Erase 4 1) ∷ []

-- the user and its photo are erased
abbrev pub erased : List Entry
erased = deleted ++ at_zero (Cut 4 owning 1 2) ∷ at_zero (Erase 4 2) ∷ at_zero (Erase 4 1) ∷ []

-- the other user is erased too, which no legal entry does
abbrev pub took_too_much : List Entry
took_too_much = erased ++ at_zero (Erase 4 9) ∷ []

-- the deletion is restored
abbrev pub restored : List Entry
restored = erased ++ at_zero (Restore (tag 5) 4) ∷ []

-- the puts of its three items, in a legal order
abbrev pub puts : List Entry
puts = at_zero (Put 4 2) ∷ at_zero (Put 4 1) ∷ at_zero (Put 4 0) ∷ []

-- the edge is put before its ends, which no legal entry does
abbrev pub edge_first : List Entry
edge_first = restored ++ at_zero (Put 4 0) ∷ at_zero (Put 4 2) ∷ at_zero (Put 4 1) ∷ []

-- the user is put back twice, which no legal entry does
abbrev pub put_twice : List Entry
put_twice = restored ++ at_zero (Put 4 2) ∷ at_zero (Put 4 2) ∷ []

-- the restored user is erased once more by the same job, which no legal entry does
abbrev pub erased_twice : List Entry
erased_twice = alone_history ++ at_zero (Cut 4 owning 1 2) ∷ at_zero (Erase 4 1) ∷ []

-- before the restore another photo takes the id 2
abbrev pub photo_retaken : List Entry
photo_retaken = erased ++ at_zero (Create (tag 5) photo 2 0) ∷ at_zero (Restore (tag 6) 4) ∷ []

-- before the restore another user takes the id 1; then both objects are put
abbrev pub user_retaken : List Entry
user_retaken =
    erased ++ at_zero (Create (tag 5) user 1 0) ∷ at_zero (Restore (tag 6) 4) ∷ at_zero (Put 4 2) ∷ at_zero (Put 4 1) ∷ []

-- the logged edge of the user and the photo, with the births of its ends
abbrev pub logged_edge : ℕ → ℕ → Item
logged_edge from_birth to_birth = item.Edge 4 (edge owning 1 2 2) from_birth to_birth

-- the graph of the first moment, but the user has a payload of another size
abbrev pub other_size : Graph
other_size = record {
  objects = object 1 user 0 2 ∷ object 2 photo 1 1 ∷ object 9 user 3 1 ∷ [];
  edges = edge owning 1 2 2 ∷ [];
}

-- two users own one photo; both are deleted, by the jobs 5 and 6, and the first cuts its edge
abbrev pub two_deletions : List Entry
two_deletions =
    at_zero (Create (tag 0) user 1 0) ∷ at_zero (Create (tag 1) user 9 0) ∷ at_zero (Create (tag 2) photo 2 0) ∷
    at_zero (Link (tag 3) owning 1 2 0) ∷ at_zero (Link (tag 4) owning 9 2 0) ∷ at_zero (Delete (tag 5) 1 40) ∷
    at_zero (Delete (tag 6) 9 41) ∷ at_zero (Cut 5 owning 1 2) ∷ []

abbrev pub both_cut : List Entry
both_cut = two_deletions ++ at_zero (Cut 6 owning 9 2) ∷ []
