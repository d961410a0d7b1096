-- Small histories worked out: what one seat asks, and what it is answered.
use Rattle.std.specs.Prelude.{ℕ, zero, suc, ◌+◌, List, [], ◌∷◌, ◌++◌, Option, Some, None, Result, Ok, Err}
use Rattle.delf_model.specs.declared.rows.ObjectRow.{ObjectRow}
use Rattle.delf_model.specs.declared.rows.EdgeRow.{EdgeRow}
use Rattle.delf_model.specs.declared.call.Call.{Call}
use Rattle.delf_model.specs.declared.call.Call.TheVariants as call
use Rattle.delf_model.specs.declared.call.Refusal.{Refusal}
use Rattle.delf_model.specs.declared.ids.JobName.{JobName}
use Rattle.delf_model.specs.declared.ids.JobName.TheVariants.{Named, Expiry}
use Rattle.delf_model.specs.declared.entry.Entry.{Entry}
use Rattle.delf_model.specs.declared.entry.What.{What}
use Rattle.delf_model.specs.declared.schema.EdgeRule.TheVariants.{Deep, Shallow, Refcount}
use Rattle.delf_model.specs.declared.schema.ObjectRule.TheVariants.{Directly, ByAny, ShortTtl}
use Rattle.delf_model.specs.RuleSet.{RuleSet}
use Rattle.delf_model.specs.State.{State, start}
use Rattle.delf_model.specs.Step.{step}
use Rattle.delf_model.specs.Room.{moment_of}
use Rattle.delf_model.specs.Reply.{reply}
use Rattle.delf_model.specs.Order.{first_step}

-- what one seat asks of the service, one order after another
pub data Order : Type 0 where
  Ask : (call : Call) → Order
  Work : (steps : ℕ) → Order
  Tick : (seconds : ℕ) → Order

-- what it is answered
pub data Answer : Type 0 where
  Accepted : (position : ℕ) → Answer
  Refused : (at : ℕ) (refusal : Refusal) → Answer
  Worked : (steps : ℕ) → Answer
  Idle : (steps : ℕ) → Answer

-- a service at work: its history, the state after it, the clock, the answers so far
pub record Service : Type 0 where
  pub history : List Entry
  pub state : State
  pub now : ℕ
  pub answers : List Answer

abbrev pub opened : RuleSet → ℕ → Service
opened rules now = record { history = []; state = start rules; now = now; answers = [] }

abbrev pub entry_now : Service → What → Entry
entry_now service what = record { moment = moment_of service.state service.now; what = what }

abbrev pub with_entry : Service → What → Service
with_entry service what = record {
  history = service.history ++ entry_now service what ∷ [];
  state = step service.state (entry_now service what);
  now = service.now;
  answers = service.answers;
}

abbrev pub with_answer : Service → Answer → Service
with_answer service answer = record {
  history = service.history;
  state = service.state;
  now = service.now;
  answers = service.answers ++ answer ∷ [];
}

abbrev pub told : Service → Result What Refusal → Service
told service (Ok what) = with_answer (with_entry service what) (Accepted service.state.len)
told service (Err refusal) = with_answer service (Refused service.state.len refusal)

abbrev pub next_step : Service → Option What
next_step service = first_step service.state (moment_of service.state service.now)

-- up to so many steps in the serial order, after so many that were made
abbrev pub worked_on : ℕ → ℕ → Service → Service
worked_on zero made service = with_answer service (Worked made)
worked_on (suc n) made service =
    elim (next_step service) [
      | None ↦ with_answer service (Idle made)
      | Some what ↦ worked_on n (made + 1) (with_entry service what)
    ]

abbrev pub served : Service → Order → Service
served service (Ask call) = told service (reply service.state (moment_of service.state service.now) 0 call)
served service (Work steps) = worked_on steps 0 service
served service (Tick seconds) = record {
  history = service.history;
  state = service.state;
  now = service.now + seconds;
  answers = service.answers;
}

-- the service after these orders
abbrev pub after_orders : Service → List Order → Service
after_orders service [] = service
after_orders service (order ∷ orders) = after_orders (served service order) orders

-- the annotations of the worked examples: users and albums are deleted directly, photos by an edge, sessions after a minute
abbrev pub example_rules : RuleSet
example_rules = record {
  window = 100;
  objects = Directly ∷ ByAny ∷ Directly ∷ ShortTtl 60 ∷ [];
  edges =
      record { from = 0; to = 1; rule = Deep } ∷ record { from = 0; to = 1; rule = Shallow } ∷
      record { from = 2; to = 1; rule = Refcount } ∷ record { from = 0; to = 3; rule = Deep } ∷ [];
}

abbrev pub user : ℕ
user = 0

abbrev pub photo : ℕ
photo = 1

abbrev pub album : ℕ
album = 2

abbrev pub session : ℕ
session = 3

abbrev pub owning : ℕ
owning = 0

abbrev pub liking : ℕ
liking = 1

abbrev pub holding : ℕ
holding = 2

abbrev pub create : ℕ → ℕ → List ℕ → Order
create id kind payload = Ask (call.Create kind id payload)

abbrev pub update : ℕ → List ℕ → Order
update id payload = Ask (call.Update id payload)

abbrev pub link : ℕ → ℕ → ℕ → Order
link edge from to = Ask (call.Link edge from to [])

abbrev pub unlink : ℕ → ℕ → ℕ → ℕ → Order
unlink edge from to name = Ask (call.Unlink edge from to name)

abbrev pub delete : ℕ → ℕ → Order
delete id name = Ask (call.Delete id name)

abbrev pub restore : JobName → Order
restore name = Ask (call.Restore name)

-- what the example service gives for these orders, at first at this moment
abbrev pub played : ℕ → List Order → Service
played now orders = after_orders (opened example_rules now) orders

abbrev pub object : ℕ → ℕ → ℕ → ℕ → ObjectRow
object id kind birth size = record { id = id; kind = kind; birth = birth; due = 0; at = birth; size = size }

abbrev pub edge : ℕ → ℕ → ℕ → ℕ → EdgeRow
edge number from to birth = record { key = record { edge = number; from = from; to = to }; birth = birth; size = 0 }

-- a user and a photo that it owns; then the user is deleted
abbrev pub plain_path : List Order
plain_path =
    create 1 user (97 ∷ []) ∷ create 2 photo (98 ∷ []) ∷ link owning 1 2 ∷ delete 1 40 ∷ Work 10 ∷ []

-- a photo in two albums, of which one is deleted and the other lets it go
abbrev pub last_reference : List Order
last_reference =
    create 5 album [] ∷ create 6 album [] ∷ create 3 photo (112 ∷ []) ∷ link holding 5 3 ∷ link holding 6 3 ∷
    delete 5 40 ∷ Work 10 ∷ unlink holding 6 3 41 ∷ Work 10 ∷ []

-- a photo that an album holds and a user owns; the user is deleted
abbrev pub deep_over_refcount : List Order
deep_over_refcount =
    create 1 user [] ∷ create 5 album [] ∷ create 3 photo [] ∷ link holding 5 3 ∷ link owning 1 3 ∷ delete 1 40 ∷
    Work 10 ∷ []

-- two users own one photo, and both are deleted
abbrev pub two_jobs : List Order
two_jobs =
    create 1 user [] ∷ create 9 user [] ∷ create 2 photo [] ∷ link owning 1 2 ∷ link owning 9 2 ∷ delete 1 40 ∷
    delete 9 41 ∷ Work 4 ∷ []

-- a restore that meets a link made by hand
abbrev pub restore_meets_link : List Order
restore_meets_link =
    create 1 user (97 ∷ []) ∷ create 2 photo (98 ∷ []) ∷ link owning 1 2 ∷ delete 1 40 ∷ restore (Named 40) ∷ Work 1 ∷
    restore (Named 40) ∷ Work 10 ∷ restore (Named 40) ∷ restore (Named 40) ∷ restore (Named 77) ∷ Work 2 ∷
    link owning 1 2 ∷ Work 10 ∷ []

-- a session that expires, is restored within the window and expires again
abbrev pub expiry : List Order
expiry =
    create 7 session (115 ∷ []) ∷ Tick 59 ∷ Work 10 ∷ Tick 1 ∷ Work 10 ∷ restore (Expiry 7) ∷ Work 10 ∷ []

-- each refusal of a live call in its turn
abbrev pub refusals_in_turn : List Order
refusals_in_turn =
    create 1 user (97 ∷ []) ∷ create 2 photo (98 ∷ []) ∷ link owning 1 2 ∷ delete 2 40 ∷ link owning 2 1 ∷
    link owning 1 2 ∷ unlink liking 1 2 9 ∷ update 8 (122 ∷ []) ∷ delete 1 40 ∷ update 1 (99 ∷ []) ∷ delete 1 41 ∷
    unlink owning 1 2 42 ∷ create 1 user [] ∷ create 7 user [] ∷ delete 7 40 ∷ []

-- pages that refer to each other and to themselves by refcount edges
abbrev pub page_rules : RuleSet
page_rules = record {
  window = 0;
  objects = Directly ∷ [];
  edges = record { from = 0; to = 0; rule = Refcount } ∷ [];
}

abbrev pub own_reference : List Order
own_reference =
    create 1 0 [] ∷ link 0 1 1 ∷ create 2 0 [] ∷ link 0 2 1 ∷ unlink 0 2 1 9 ∷ unlink 0 1 1 9 ∷ Work 10 ∷ []
