-- What may stand beside the history after a disk fault.
use Rattle.std.specs.Prelude.{ℕ, List}
use Rattle.delf_model.specs.declared.entry.Entry.{Entry}

-- the entry of a call or step that met a disk fault, and the payload that it was given
pub record Interrupted : Type 0 where
  pub entry : Entry
  pub payload : List ℕ
