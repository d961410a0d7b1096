-- How far the loops over a disk's writes have come.
use Rattle.std.proofs.Common.{◌≡◌, ℕ, List, drop}
use Rattle.delf_disk.specs.declared.content.Content.{Content}
use Rattle.delf_disk.specs.declared.past.Write.{Write}
use Rattle.delf_disk.specs.Content.{areas_of, KeepsRoom}
use Rattle.delf_disk.specs.Epochs.{laid_all, picked}

-- so many of the writes are done
pub record LandsSoFar (writes : List Write) (i : ℕ) (start content : Content) : Type 0 where
  pub rest : laid_all (drop i writes) (areas_of content) ≡ laid_all writes (areas_of start)
  pub room : KeepsRoom start content

-- so many of the writes are left as the pick chooses
pub record LeavesSoFar (pick rest : ℕ) (writes : List Write) (i : ℕ) (start content : Content) : Type 0 where
  pub rest_is : picked rest (drop i writes) (areas_of content) ≡ picked pick writes (areas_of start)
  pub room : KeepsRoom start content
