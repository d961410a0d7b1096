-- The entries of a ledger.
use Rattle.std.specs.Prelude.{ℕ, List}
use Rattle.delf_model.specs.declared.entry.Entry.{Entry}
use Rattle.delf_model.specs.declared.entry.What.{What}

-- a list with the number of further elements that need no memory
pub record EntryPart : Type 0 where
  pub list : List Entry
  pub spare : ℕ

-- what an entry says, without its moment
abbrev pub what_of : Entry → What
what_of entry = entry.what
