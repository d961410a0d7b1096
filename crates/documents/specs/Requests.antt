-- Which words are a command of the program, what they ask for, and at which moment a run starts.
use Rattle.std.specs.Prelude.{ℕ, ◌≤◌, ◌&&◌, Option, Some, None, Result, Ok, Err, List, [], ◌∷◌, take, drop, if◌then◌else◌, codes}
use Rattle.std.specs.Str.{bytes_eq}
use Rattle.delf_model.specs.Room.{greatest_moment}
use Rattle.schema_lang.specs.declared.why.Why.{Why}
use Rattle.schema_lang.specs.Numbers.{number_in}
use Rattle.documents.specs.declared.words.Start.{Start}
use Rattle.documents.specs.declared.words.Start.TheVariants.{At, Asked}
use Rattle.documents.specs.declared.words.Request.{Request}
use Rattle.documents.specs.declared.words.Request.TheVariants.{Run, Check, Load}

-- a run from the moment that a word gives
abbrev pub at_moment : Result ℕ Why → Option Request
at_moment (Ok moment) = Some (Run (At moment))
at_moment (Err why) = None

-- a load of the size that a word gives
abbrev pub of_size : Result ℕ Why → Option Request
of_size (Ok n) = Some (Load n)
of_size (Err why) = None

-- `run`, `run --at=N` and `run --at N`, with a number of 0 to 999,999,999,999; `check`; `load N`, with a number of 8 to
-- 20,000; None where the words are no command
abbrev pub request_of : List (List ℕ) → Option Request
request_of [] = None
request_of (word ∷ []) =
    if bytes_eq word (codes "run") then Some (Run Asked) else (if bytes_eq word (codes "check") then Some Check else None)
request_of (word ∷ behind ∷ []) =
    if bytes_eq word (codes "load") then of_size (number_in 8 20000 behind)
    else (if bytes_eq word (codes "run") && bytes_eq (take 5 behind) (codes "--at=") then at_moment (number_in 0 greatest_moment (drop 5 behind)) else None)
request_of (word ∷ at ∷ number ∷ []) =
    if bytes_eq word (codes "run") && bytes_eq at (codes "--at") then at_moment (number_in 0 greatest_moment number) else None
request_of (word ∷ at ∷ number ∷ other ∷ more) = None

-- the size of a load is within its bounds
abbrev pub IsSized : Request → Type 0
IsSized (Run start) = Unit {0}
IsSized Check = Unit {0}
IsSized (Load n) = (8 ≤ n) × (n ≤ 20000)

-- the moment of the start, where the clock's last answer is this one
abbrev pub moment_of_start : Start → ℕ → ℕ
moment_of_start (At moment) told = moment
moment_of_start Asked told = told
