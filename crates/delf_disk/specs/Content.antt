-- What a disk in memory holds.
use Rattle.std.specs.Prelude.{ℕ, ◌≤◌, List, length, vec_capacity}
use Rattle.delf_disk.specs.declared.area.Area.{Area}
use Rattle.delf_disk.specs.declared.area.Area.TheVariants.{Journal, Vault}
use Rattle.delf_disk.specs.declared.content.Content.{Content}
use Rattle.delf_disk.specs.declared.past.Write.{Write}
use Rattle.delf_disk.specs.Areas.{Areas}
use Rattle.delf_disk.specs.Epochs.{reach}

abbrev pub areas_of : Content → Areas
areas_of content = record { journal = content.journal.items; vault = content.vault.items }

-- how many bytes an area may have without more memory
abbrev pub room_of : Area → Content → ℕ
room_of Journal content = vec_capacity content.journal
room_of Vault content = vec_capacity content.vault

-- no room was lost
pub record KeepsRoom (old new : Content) : Type 0 where
  pub journal : vec_capacity old.journal ≤ vec_capacity new.journal
  pub vault : vec_capacity old.vault ≤ vec_capacity new.vault

-- room for all these writes
pub record HasRoom (writes : List Write) (content : Content) : Type 0 where
  pub journal : reach Journal writes ≤ vec_capacity content.journal
  pub vault : reach Vault writes ≤ vec_capacity content.vault

-- room in both copies for what is pending, and in the one that reads for the stable one
pub record IsRoomy (writes : List Write) (now stable : Content) : Type 0 where
  pub for_now : HasRoom writes now
  pub for_stable : HasRoom writes stable
  pub journal : length stable.journal.items ≤ vec_capacity now.journal
  pub vault : length stable.vault.items ≤ vec_capacity now.vault
