-- Parts of histories in which the premises of the inverse are met.
use Rattle.std.specs.Prelude.{◌≡◌, ℕ, ◌<◌, true, List, [], ◌∷◌, ◌++◌, Some, slice_get, take}
use Rattle.delf_model.specs.declared.entry.Entry.{Entry}
use Rattle.delf_model.specs.declared.entry.Tag.{Tag}
use Rattle.delf_model.specs.declared.entry.What.{What}
use Rattle.delf_model.specs.declared.entry.What.TheVariants.{Create, Link, Delete, Restore, Cut, Erase, Put}
use Rattle.delf_model.specs.RuleSet.{RuleSet}
use Rattle.delf_model.specs.Step.{after}
use Rattle.delf_model.specs.Legal.{Legal}
use Rattle.delf_model.specs.Closure.{Calm}
use Rattle.delf_model.specs.Sound.{AllHandled, is_own_entry}
use Rattle.delf_model.specs.Worked.{user, photo, owning}

-- a legal history with a calm part at whose end all items of the job are handled
pub record IsRestored (rules : RuleSet) (history : List Entry) (job root q : ℕ) (ids : List ℕ) : Type 0 where
  pub legal : Legal rules history
  pub calm : Calm rules history job root q ids
  pub handled : AllHandled (after rules (take q history)) job

-- and only entries of the job stand in the part
pub record IsRestoredAlone (rules : RuleSet) (history : List Entry) (job root q : ℕ) (ids : List ℕ) : Type 0 where
  pub restored : IsRestored rules history job root q ids
  pub own : (p : ℕ) (e : Entry) → job < p → p < q → slice_get history p ≡ Some e → is_own_entry job e.what ≡ true

abbrev pub tag : ℕ → Tag
tag k = record { seat = 0; k = k }

abbrev pub at_zero : What → Entry
at_zero what = record { moment = 0; what = what }

-- a user, a photo that it owns and another user; then the first is deleted
abbrev pub deleted : List Entry
deleted =
    at_zero (Create (tag 0) user 1 1) ∷ at_zero (Create (tag 1) photo 2 1) ∷ at_zero (Link (tag 2) owning 1 2 0) ∷
    at_zero (Create (tag 3) user 9 1) ∷ at_zero (Delete (tag 4) 1 40) ∷ []

-- the job's steps, its restore and its puts
abbrev pub alone : List Entry
alone =
    at_zero (Cut 4 owning 1 2) ∷ at_zero (Erase 4 2) ∷ at_zero (Erase 4 1) ∷ at_zero (Restore (tag 5) 4) ∷
    at_zero (Put 4 2) ∷ at_zero (Put 4 1) ∷ at_zero (Put 4 0) ∷ []

-- the same, while a user is created and the other one is deleted and restored
abbrev pub amid_others : List Entry
amid_others =
    at_zero (Cut 4 owning 1 2) ∷ at_zero (Create (tag 5) user 8 0) ∷ at_zero (Delete (tag 6) 9 41) ∷
    at_zero (Erase 4 2) ∷ at_zero (Erase 7 9) ∷ at_zero (Erase 4 1) ∷ at_zero (Restore (tag 7) 4) ∷
    at_zero (Restore (tag 8) 7) ∷ at_zero (Put 4 3) ∷ at_zero (Put 7 2) ∷ at_zero (Put 4 1) ∷ at_zero (Put 4 0) ∷ []

abbrev pub alone_history : List Entry
alone_history = deleted ++ alone

abbrev pub shared_history : List Entry
shared_history = deleted ++ amid_others
