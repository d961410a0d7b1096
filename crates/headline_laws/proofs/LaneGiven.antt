-- The payload of an accepted call of a lane is what the call gave.
use Rattle.std.proofs.Common.{◌≡◌, ℕ, ◌+◌, ◌<◌, ◌≤◌, Bool, true, false, Some, None, Result, Ok, List, [], ◌∷◌, ◌++◌, length, refl, sym, ap, subst, ◌∙◌, arith, length-append}
use Rattle.std.specs.Prelude.{find, slice_get}
use Rattle.delf_model.specs.declared.schema.Schema.{Schema}
use Rattle.delf_model.specs.declared.call.Call.{Call}
use Rattle.delf_model.specs.declared.call.Refusal.{Refusal}
use Rattle.delf_model.specs.declared.entry.Entry.{Entry}
use Rattle.delf_model.specs.declared.script.Command.{Command}
use Rattle.delf_model.specs.declared.script.Command.TheVariants.{Par}
use Rattle.delf_model.specs.declared.script.Lane.{Lane}
use Rattle.delf_model.specs.declared.script.LaneCommand.{LaneCommand}
use Rattle.delf_model.specs.declared.script.LaneCommand.TheVariants as lane
use Rattle.delf_model.specs.Legal.{Legal}
use Rattle.delf_model.specs.Payloads.{Payloads, is_needed, is_at, payload_at}
use Rattle.delf_model.specs.RuleSet.{RuleSet}
use Rattle.delf_model.specs.State.{State, start}
use Rattle.delf_model.proofs.Runs.{legal_first}
use Rattle.delf_book.specs.Parts.{Interrupted}
use Rattle.delf_book.specs.Books.{given_by}
use Rattle.delf_book.specs.declared.answers.Receipt.{Receipt}
use Rattle.delf_service.specs.declared.answers.Answer.{Answer}
use Rattle.delf_service.specs.declared.replies.LaneOut.{LaneOut}
use Rattle.delf_service.specs.declared.replies.LaneReply.TheVariants.{Submitted}
use Rattle.delf_service.specs.declared.standing.Key.{Key}
use Rattle.delf_service.specs.declared.standing.Standing.{Standing}
use Rattle.delf_service.specs.Blocks.{lane_seat}
use Rattle.delf_service.specs.Follows.{Follows}
use Rattle.delf_service.specs.Lanes.{Brings, TellsAccepted, TellsAnswer, TellsWhat, entry_before, next_of_reply}
use Rattle.delf_service.specs.Rows.{commands_at}
use Rattle.delf_service.specs.Standings.{IsPlain, payloads_of, with_lanes}
use Rattle.opening_laws.specs.Entries.{SamePayloads}
use Rattle.seat_lock.specs.declared.view.Moment.{Moment}
use Rattle.seat_lock.specs.Views.{moment}
use Rattle.script_runner.specs.Blocks.{RunsLanes}
use Rattle.script_runner.specs.Worlds.{World, state_of, entered}
use Rattle.headline_laws.specs.Kept.{HasOnlyNeeded}
use Rattle.headline_laws.specs.Places.{MadeAt}
use Rattle.headline_laws.proofs.Keeping.{KeepsEntry, Since, alike_since, entered_only, entered_since, keeps_payloads, last_line, leads_to, one_state, own_payload, since_itself}
use Rattle.headline_laws.proofs.Onward.{history_goes_on, legal_back}

-- a standing as a world
abbrev world_at : Standing → World
world_at s = record { rules = s.key.rules; history = s.history; payloads = payloads_of s; clock = 0; down = false; beside = None }

legal_early : (s t : Standing) → Follows s t → Legal s.key.rules s.history → Legal t.key.rules t.history
legal_early s t follows legal =
    subst (λ (k : Key). Legal k.rules t.history) follows.key
    (legal_first (start s.key.rules) t.history follows.history.0 (subst (λ (h : List Entry). Legal s.key.rules h) follows.history.1 legal))

-- what holds with each entry more holds of each later standing
module _ (Q : World → Type 0) (more : KeepsEntry Q)
    (exact : (x y : World) → x.rules ≡ y.rules → x.history ≡ y.history → x.payloads ≡ y.payloads → Q x → Q y) where
  later_holds : (s t : Standing) → Follows s t → IsPlain s.key → Legal s.key.rules s.history → Q (world_at t) → Q (world_at s)
  later_holds s t follows plain legal q =
      let rules : s.key.rules ≡ t.key.rules = ap (λ (k : Key). k.rules) follows.key in
      let led = leads_to Q more follows.history.0 (world_at t) (payloads_of s)
      (subst (λ (r : RuleSet). Legal r (t.history ++ follows.history.0)) rules (subst (λ (h : List Entry). Legal s.key.rules h) follows.history.1 legal))
      (follows.grown plain) q in
      exact led.last (world_at s) (led.rules ∙ sym rules) (led.history ∙ sym follows.history.1) led.payloads led.holds

exact_only : (x y : World) → x.rules ≡ y.rules → x.history ≡ y.history → x.payloads ≡ y.payloads → HasOnlyNeeded x → HasOnlyNeeded y
exact_only x y rules history payloads only p unneeded =
    subst (λ (e : Payloads). find (is_at p) e.bytes ≡ None) payloads
    (only p (subst (λ (s : State). is_needed s p ≡ false) (sym (one_state x y rules history)) unneeded))

same_if : (d e : Payloads) → d ≡ e → SamePayloads d e
same_if d e is = record { bytes = λ p. ap (λ (x : Payloads). payload_at x p) is; seals = ap (λ (x : Payloads). x.seals) is }

exact_since : (first x y : World) → x.rules ≡ y.rules → x.history ≡ y.history → x.payloads ≡ y.payloads → Since first x → Since first y
exact_since first x y rules history payloads since = alike_since first x y rules history (same_if x.payloads y.payloads payloads) since

-- a turn of a block in which the book got an entry
module _ (schema : Schema) (w next : World) (quiet : Bool) (lanes : List Lane) (before now : ℕ) (text : List ℕ) (runs : RunsLanes schema w quiet lanes before now text next)
    (position : ℕ) (e : Entry) (given : List ℕ) (b : Brings runs.block.told.turns position e given) where
  found_later : Follows b.found (with_lanes runs.first (length lanes))
  found_later = runs.block.told.behind (moment b.was_found.0 b.found) b.was_found.1

  final_later : Follows runs.final b.left
  final_later = runs.block.told.moments.last (moment b.was_left.0 b.left) b.was_left.1

  same_key : b.left.key ≡ b.found.key
  same_key = ap (λ (s : Standing). s.key) b.left_is

  plain_found : IsPlain b.found.key
  plain_found = subst (λ (k : Key). IsPlain k) same_key (subst (λ (k : Key). IsPlain k) final_later.key runs.shows_final.plain)

  abbrev it : Interrupted
  it = record { entry = e; payload = given }

  abbrev behind : World
  behind = entered (world_at b.found) it

  legal_behind : Legal behind.rules behind.history
  legal_behind =
      subst (λ (k : Key). Legal k.rules (b.found.history ++ e ∷ [])) same_key
      (subst (λ (h : List Entry). Legal b.left.key.rules h) (ap (λ (s : Standing). s.history) b.left_is) (legal_early runs.final b.left final_later runs.has.legal))

  legal_found : Legal b.found.key.rules b.found.history
  legal_found = legal_first (start b.found.key.rules) b.found.history (e ∷ []) legal_behind

  only_found : HasOnlyNeeded (world_at b.found)
  only_found = later_holds HasOnlyNeeded entered_only exact_only b.found (with_lanes runs.first (length lanes)) found_later plain_found legal_found runs.alone_first

  since_left : Since behind (world_at b.left)
  since_left =
      exact_since behind behind (world_at b.left) (sym (ap (λ (k : Key). k.rules) same_key)) (sym (ap (λ (s : Standing). s.history) b.left_is)) (sym (b.payloads plain_found))
      (since_itself behind)

  since_next : Since behind next
  since_next =
      alike_since behind (world_at runs.final) next runs.shows_final.rules runs.shows_final.history runs.shows_final.payloads
      (later_holds (Since behind) (entered_since behind) (exact_since behind) runs.final b.left final_later runs.shows_final.plain runs.has.legal since_left)

  at_end : is_needed (state_of next) (length b.found.history) ≡ true → payload_at next.payloads (length b.found.history) ≡ given
  at_end needed =
      let long : length behind.history ≡ length b.found.history + 1 = length-append b.found.history (e ∷ []) in
      let below : length b.found.history < length behind.history = omega (arith, long) in
      since_next.kept.bytes (length b.found.history) below needed ∙
      own_payload (world_at b.found) behind it refl legal_found (last_line b.found.key.rules b.found.history e legal_behind) only_found
      (since_next.kept.needed (length b.found.history) below needed)

  pub brought_stands : is_needed (state_of next) position ≡ true → payload_at next.payloads position ≡ given
  brought_stands needed =
      ap (λ (n : ℕ). payload_at next.payloads n) (sym b.length_is) ∙
      at_end (subst (λ (n : ℕ). is_needed (state_of next) n ≡ true) (sym b.length_is) needed)

brought_by : (turns : List (Moment Standing)) (final : Standing) (clock seat : ℕ) (c : LaneCommand) (call : Call) (a : Answer) (receipt : Receipt) → c ≡ lane.Submit call →
    a.reply ≡ Ok receipt → TellsWhat turns final clock seat c (Submitted a) → (e : Entry) × Brings turns a.at e (given_by call)
brought_by turns final clock seat c call a receipt is reply_is told =
    let accepted : TellsAccepted turns final clock seat call a.at receipt =
    subst (λ (r : Result Receipt Refusal). TellsAnswer turns final clock seat call a.at r) reply_is
    (subst (λ (x : LaneCommand). TellsWhat turns final clock seat x (Submitted a)) is told) in
    (entry_before final a.at clock accepted.what, accepted.brings)

pub lane_given : (schema : Schema) (first : World) (commands : List Command) (before now : ℕ) (text : List ℕ) (last : World) (quiet : Bool) (workers turns : ℕ) (lanes : List Lane) →
    Legal last.rules last.history → (at : MadeAt schema first commands before now text last (Par quiet workers turns lanes))
    (runs : RunsLanes schema at.found quiet lanes at.found_count at.left_count at.line at.left) (place k : ℕ) (out : LaneOut) (a : Answer) (receipt : Receipt) (call : Call) →
    slice_get runs.outs place ≡ Some out → slice_get out.replies k ≡ Some (Submitted a) → a.reply ≡ Ok receipt →
    slice_get (commands_at lanes place) k ≡ Some (lane.Submit call) → is_needed (state_of last) a.at ≡ true → payload_at last.payloads a.at ≡ given_by call
lane_given schema first commands before now text last quiet workers turns lanes legal at runs place k out a receipt call there told_at reply_is asked needed =
    let one = (runs.block.told.told place out there).told k (Submitted a) told_at in
    let same : one.0 ≡ lane.Submit call = let known = one.1 in cc (known, asked) in
    let brought = brought_by runs.block.told.turns runs.final at.found.clock (lane_seat runs.first place) one.0 call a receipt same reply_is one.2.what in
    let later_on = keeps_payloads schema at.left at.later at.left_count now at.back last at.goes_on legal in
    let ends : next_of_reply a.at a.reply ≤ length runs.final.history = one.2.below in
    let behind_it : a.at + 1 ≤ length runs.final.history = subst (λ (r : Result Receipt Refusal). next_of_reply a.at r ≤ length runs.final.history) reply_is ends in
    let long : length runs.final.history ≡ length at.left.history = ap (λ (h : List Entry). length h) runs.shows_final.history in
    let below : a.at < length at.left.history = omega (arith, behind_it, long) in
    later_on.bytes a.at below needed ∙
    brought_stands schema at.found at.left quiet lanes at.found_count at.left_count at.line runs a.at brought.0 (given_by call) brought.1 (later_on.needed a.at below needed)
