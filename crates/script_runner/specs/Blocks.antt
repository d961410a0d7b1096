-- A block: lanes that run at once, from a world to the next one, and their lines.
use Rattle.std.specs.Prelude.{◌≡◌, ◌<◌, ◌≤◌, ℕ, ◌+◌, Bool, true, false, not, Option, Some, None, Result, Ok, Err, List, [], ◌∷◌, ◌++◌, IfOk, IsSomeAnd, length, is_ok, slice_get, flat_map, find}
use Rattle.std.specs.Borrow.{Bor}
use Rattle.std.specs.List.{filter}
use Rattle.delf_disk.specs.declared.disk.Disk.{Ghosts}
use Rattle.delf_model.specs.RuleSet.{RuleSet}
use Rattle.delf_book.specs.Books.{Booked}
use Rattle.delf_model.specs.declared.schema.Schema.{Schema}
use Rattle.delf_model.specs.declared.call.Call.{Call}
use Rattle.delf_model.specs.declared.call.Refusal.{Refusal}
use Rattle.delf_model.specs.declared.call.Refusal.TheVariants as refusal
use Rattle.delf_model.specs.declared.rows.ObjectRow.{ObjectRow}
use Rattle.delf_model.specs.declared.script.Lane.{Lane}
use Rattle.delf_model.specs.declared.script.LaneCommand.{LaneCommand}
use Rattle.delf_model.specs.declared.script.LaneCommand.TheVariants as lane
use Rattle.delf_book.specs.declared.answers.Receipt.{Receipt}
use Rattle.delf_book.specs.declared.answers.BookFault.{BookFault}
use Rattle.delf_book.specs.declared.answers.BookFault.TheVariants as fault
use Rattle.delf_service.specs.declared.answers.Asked.{Asked}
use Rattle.delf_service.specs.declared.replies.LaneOut.{LaneOut}
use Rattle.delf_service.specs.declared.replies.LaneReply.{LaneReply}
use Rattle.delf_service.specs.declared.replies.LaneReply.TheVariants.{Submitted, Got}
use Rattle.delf_service.specs.declared.standing.Standing.{Standing}
use Rattle.delf_service.specs.Blocks.{HasLanes, AreToldLanes, IsBlock}
use Rattle.delf_service.specs.Lanes.{HasCommand, IsStarved}
use Rattle.delf_service.specs.Rows.{commands_at}
use Rattle.delf_service.specs.Standings.{IsPlain, payloads_of, standing_of, state_at}
use Rattle.delf_model.specs.Payloads.{Payloads, is_at, is_needed, payload_at}
use Rattle.delf_model.specs.State.{State}
use Rattle.opening_laws.specs.Entries.{SamePayloads}
use Rattle.job_report.specs.Texts.{refusal_text, down_text, found_text, absent_text, lane_text, par_text}
use Rattle.documents.specs.Names.{kind_name}
use Rattle.script_runner.specs.Lines.{receipt_text, refusal_name}
use Rattle.script_runner.specs.Worlds.{World, state_of}

-- who runs lanes

-- at most 16 lanes and 16 workers, and type and edge numbers of calls are below the counts of the rules
pub record MayRun (rules : RuleSet) (workers : ℕ) (lanes : List Lane) : Type 0 where
  pub few_lanes : length lanes ≤ 16
  pub few_workers : workers ≤ 16
  pub numbers : (k i : ℕ) (c : LaneCommand) → slice_get (commands_at lanes k) i ≡ Some c → HasCommand rules c

-- the last standing is one that the lanes may lead to, by replies of the book, and where memory was not wanting each lane has them
pub record RunsTo {V E : Type 0} (first final : Standing) (now : ℕ) (lanes : List Lane) (items : V → List LaneOut) (outs : Result V E) : Type 0 where
  pub has : HasLanes first final (length lanes)
  pub told : AreToldLanes first final now lanes
  pub block : IfOk outs (λ v. IsBlock first final now lanes (items v))

-- the lanes lead from what has a book and a moment of the clock to what has them: at the same moment, and without a claim
pub record RunsInto {G R S V E : Type 0} (disk : Ghosts R) (book : S → Booked G R) (clock : S → ℕ) (items : V → List LaneOut) (store : S) (lanes : List Lane)
    (outs : Result V E) (final : S) : Type 0 where
  pub keeps : clock final ≡ clock store
  pub leaves : (book final).held ≡ []
  pub does : RunsTo (standing_of disk (book store) (Some (clock store))) (standing_of disk (book final) (Some (clock store))) (clock store) lanes items outs

-- one that may be asked to run lanes over what is in a slot, if it serves blocks, and then does, and fills the slot again
pub record IsRunner {G R S V E : Type 0} (served : Bool) (disk : Ghosts R) (book : S → Booked G R) (clock : S → ℕ) (items : V → List LaneOut)
    (pre : Option S → Bor (List Lane) → ℕ → ℕ → Type 0) (post : Option S → Bor (List Lane) → ℕ → ℕ → Result V E → Option S → Type 0) : Type 0 where
  pub may : (store : S) (lanes : Bor (List Lane)) (workers turns : ℕ) → served ≡ true → MayRun (book store).rules workers lanes.now → pre (Some store) lanes workers turns
  pub does : (store : S) (lanes : Bor (List Lane)) (workers turns : ℕ) (outs : Result V E) (left : Option S) → served ≡ true → MayRun (book store).rules workers lanes.now →
      post (Some store) lanes workers turns outs left → IsSomeAnd left (RunsInto disk book clock items store lanes.now outs)

-- A standing of a shared book, over a plain disk with this count of faults and where no lane is left, in which each call is made
-- at the world's moment: it has the world's rules, history and payloads, and is down where the world is.
pub record Shows (s : Standing) (w : World) (faults : ℕ) : Type 0 where
  pub rules : s.key.rules ≡ w.rules
  pub history : s.history ≡ w.history
  pub payloads : SamePayloads (payloads_of s) w.payloads
  pub moment : s.key.moment ≡ Some w.clock
  pub down : s.down ≡ w.down
  pub lanes : s.lanes ≡ 0
  pub count : s.faults ≡ faults
  pub plain : IsPlain s.key

-- no position that is not needed has a payload
abbrev pub HasNoOther : State → Payloads → Type 0
HasNoOther s e = (p : ℕ) → is_needed s p ≡ false → find (is_at p) e.bytes ≡ None

-- the line of a reply, at the length of the history that it found

abbrev pub answer_line : Schema → Call → ℕ → Result Receipt Refusal → List ℕ
answer_line schema asked at (Ok receipt) = receipt_text schema asked receipt
answer_line schema asked at (Err refused) = refusal_text refused at (refusal_name schema refused)

abbrev pub row_line : Schema → ℕ → ℕ → Option (ObjectRow × Option ℕ) → List ℕ → List ℕ
row_line schema at id None payload = absent_text at id
row_line schema at id (Some row) payload = found_text at row.0 (kind_name schema row.0.kind) payload row.1

abbrev pub read_line : Schema → ℕ → Asked → List ℕ → Option BookFault → List ℕ
read_line schema id asked payload None = row_line schema asked.at id asked.found payload
read_line schema id asked payload (Some (fault.Down len)) = refusal_text (refusal.Down len) len []
read_line schema id asked payload (Some (fault.DiskFault len)) = down_text len

abbrev pub reply_line : Schema → LaneCommand → LaneReply → List ℕ
reply_line schema (lane.Submit asked) (Submitted a) = answer_line schema asked a.at a.reply
reply_line schema (lane.Get id) (Got asked payload) = read_line schema id asked payload asked.fault
reply_line schema command reply = []

-- the lines of a lane's commands, each behind the number of the lane
abbrev pub lane_lines : Schema → ℕ → List LaneCommand → List LaneReply → List ℕ
lane_lines schema place [] replies = []
lane_lines schema place (command ∷ more) [] = []
lane_lines schema place (command ∷ more) (reply ∷ rest) = lane_text place (reply_line schema command reply) ++ lane_lines schema place more rest

-- those of the lanes from this number on, lane after lane
abbrev pub lanes_lines : Schema → ℕ → List Lane → List LaneOut → List ℕ
lanes_lines schema place [] outs = []
lanes_lines schema place (one ∷ more) [] = []
lanes_lines schema place (one ∷ more) (out ∷ rest) =
    lane_lines schema place one.commands out.replies ++ lanes_lines schema (place + 1) more rest

abbrev pub is_accepted : LaneReply → Bool
is_accepted (Submitted a) = is_ok a.reply
is_accepted (Got asked payload) = false

abbrev pub is_refused : LaneReply → Bool
is_refused (Submitted a) = not (is_ok a.reply)
is_refused (Got asked payload) = false

-- the replies of all lanes
abbrev pub replies_of : List LaneOut → List LaneReply
replies_of outs = flat_map (λ (out : LaneOut). out.replies) outs

-- the block's line: how many calls were accepted and how many were not, and the length of the history
abbrev pub last_line : List LaneOut → ℕ → Bool → List ℕ
last_line outs len down = par_text (length (filter is_accepted (replies_of outs))) (length (filter is_refused (replies_of outs))) len down

-- the lines of a block, where it is quiet its own alone
abbrev pub block_lines : Schema → Bool → List Lane → List LaneOut → ℕ → Bool → List ℕ
block_lines schema true lanes outs len down = last_line outs len down
block_lines schema false lanes outs len down = lanes_lines schema 0 lanes outs ++ last_line outs len down

-- no call wanted memory
abbrev pub HasOnlyFed : List LaneReply → Type 0
HasOnlyFed replies = (k : ℕ) (reply : LaneReply) → slice_get replies k ≡ Some reply → IsStarved reply → ⊥

abbrev pub AreFed : List LaneOut → Type 0
AreFed outs = (place : ℕ) (out : LaneOut) → slice_get outs place ≡ Some out → HasOnlyFed out.replies

-- The lanes of a block were run from a world that is up. The history of the next world begins with the world's and is legal,
-- each entry behind it has the moment of its place, and is a step or an accepted call of one lane. Each of the world's positions
-- that is still needed has the payload that it had, and each accepted call brought its own; no position that is not needed has any. Each lane has the replies of the book to all its commands,
-- each at its length, and its accepted calls stand in their order. While the next world is up no step is left, or the first is
-- one that would put back a damaged item; it is down only where the count of faults rose.
pub record RunsLanes (schema : Schema) (w : World) (quiet : Bool) (lanes : List Lane) (before now : ℕ) (text : List ℕ) (next : World) : Type 0 where
  pub up : w.down ≡ false
  pub first : Standing
  pub final : Standing
  pub shows_first : Shows first w before
  pub shows_final : Shows final next now
  pub kept : (p : ℕ) → p < length w.history → is_needed (state_of next) p ≡ true → payload_at next.payloads p ≡ payload_at w.payloads p
  pub alone_first : HasNoOther (state_at first) (payloads_of first)
  pub alone : HasNoOther (state_of next) next.payloads
  pub outs : List LaneOut
  pub has : HasLanes first final (length lanes)
  pub block : IsBlock first final w.clock lanes outs
  pub fed : AreFed outs
  pub clock : next.clock ≡ w.clock
  pub text_is : text ≡ block_lines schema quiet lanes outs (length next.history) next.down

-- where want of memory may leave a block: with some of its entries, those of calls by replies that are lost
pub record LeavesLanes (w : World) (lanes : List Lane) (next : World) : Type 0 where
  pub up : w.down ≡ false
  pub first : Standing
  pub final : Standing
  pub before : ℕ
  pub now : ℕ
  pub shows_first : Shows first w before
  pub shows_final : Shows final next now
  pub has : HasLanes first final (length lanes)
  pub told : AreToldLanes first final w.clock lanes
  pub clock : next.clock ≡ w.clock
