-- Where the files of a disk lie.
use Rattle.std.specs.Prelude.{◌≡◌, ℕ, ◌==◌, List, ◌++◌, length, if◌then◌else◌, codes, string_bytes}
use Rattle.delf_disk.specs.declared.files.Paths.{Paths}

-- the path of a file in a folder: the folder that a program runs in has the empty path
abbrev pub path_in : List ℕ → List ℕ → List ℕ
path_in folder name = if length folder == 0 then name else folder ++ codes "/" ++ name

-- these are the paths of the store in this folder
pub record LieIn (folder : List ℕ) (paths : Paths) : Type 0 where
  pub itself : string_bytes paths.folder ≡ path_in folder (codes ".")
  pub journal : string_bytes paths.journal ≡ path_in folder (codes "delf.journal")
  pub vault : string_bytes paths.vault ≡ path_in folder (codes "delf.vault")
