-- What an answer of `next` says of the state.
use Rattle.std.specs.Prelude.{◌≡◌, ℕ, true, false, List, length, Option, Some, None}
use Rattle.delf_model.specs.declared.entry.What.{What}
use Rattle.delf_model.specs.declared.entry.What.TheVariants as what
use Rattle.job_table.specs.declared.next.Next.{Next}
use Rattle.job_table.specs.declared.next.Next.TheVariants.{Expire, Cut, Erase, Put, Purge, Idle, Held}
use Rattle.delf_model.specs.State.{State}
use Rattle.delf_model.specs.Order.{first_step, is_legal_step, is_held}

-- the step that an answer names
abbrev pub step_of : Next → Option What
step_of (Expire id) = Some (what.Expire id)
step_of (Cut job edge from to) = Some (what.Cut job edge from to)
step_of (Erase job id) = Some (what.Erase job id)
step_of (Put job i) = Some (what.Put job i)
step_of (Purge job) = Some (what.Purge job)
step_of Idle = None
step_of (Held n) = None

-- where no step is held: the first step of the serial order, and Idle where there is none
pub record IsSerial (s : State) (moment : ℕ) (next : Next) : Type 0 where
  pub step : step_of next ≡ first_step s moment
  pub idle : (n : ℕ) → next ≡ Held n → ⊥

-- no step is legal
abbrev pub NoneLegal : State → ℕ → Type 0
NoneLegal s moment = (step : What) → is_legal_step s moment step ≡ false

-- some step is legal, and each legal step is held
pub record AllHeld (s : State) (moment : ℕ) (held : List What) : Type 0 where
  pub some : (step : What) × (is_legal_step s moment step ≡ true)
  pub each : (step : What) → is_legal_step s moment step ≡ true → is_held held step ≡ true

-- a legal step that is not held
abbrev pub IsFree : State → ℕ → List What → What → Type 0
IsFree s moment held step = (is_legal_step s moment step ≡ true) × (is_held held step ≡ false)

abbrev pub IsFreeNext : State → ℕ → List What → Next → Type 0
IsFreeNext s moment held (Expire id) = IsFree s moment held (what.Expire id)
IsFreeNext s moment held (Cut job edge from to) = IsFree s moment held (what.Cut job edge from to)
IsFreeNext s moment held (Erase job id) = IsFree s moment held (what.Erase job id)
IsFreeNext s moment held (Put job i) = IsFree s moment held (what.Put job i)
IsFreeNext s moment held (Purge job) = IsFree s moment held (what.Purge job)
IsFreeNext s moment held Idle = NoneLegal s moment
IsFreeNext s moment held (Held n) = (n ≡ length held) × AllHeld s moment held

-- the first step of the serial order is legal, and it is held
abbrev pub IsFirstHeld : State → ℕ → List What → Type 0
IsFirstHeld s moment held =
    (step : What) × (first_step s moment ≡ Some step) × (is_legal_step s moment step ≡ true) × (is_held held step ≡ true)
