-- A block that was run, said of the world.
use Rattle.std.proofs.Common.{◌≡◌, ◌⊎◌, ℕ, zero, suc, ◌<◌, ◌≤◌, Bool, true, false, Option, Some, None, Result, Ok, Err, List, [], ◌∷◌, length, get_or, take, refl, sym, ap, subst, ◌∙◌, inl, inr, arith}
use Rattle.std.specs.Prelude.{IfOk, IfErr, IfSome, IsOkAnd, slice_get}
use Rattle.std.specs.List.{All}
use Rattle.std.proofs.lemmas.Option.{slice_get_within, slice_get-get_or, slice_get_past}
use Rattle.delf_disk.specs.Areas.{Areas}
use Rattle.delf_disk.specs.declared.disk.Disk.{Ghosts}
use Rattle.delf_disk.specs.Plain.{Plain, SameKind}
use Rattle.delf_model.specs.declared.schema.Schema.{Schema}
use Rattle.delf_model.specs.declared.call.Call.{Call}
use Rattle.delf_model.specs.declared.call.Call.TheVariants as call
use Rattle.delf_model.specs.declared.call.Refusal.{Refusal}
use Rattle.delf_model.specs.declared.call.Refusal.TheVariants as refusal
use Rattle.delf_model.specs.declared.entry.Entry.{Entry}
use Rattle.delf_model.specs.declared.entry.What.{What}
use Rattle.delf_model.specs.declared.rows.ObjectRow.{ObjectRow}
use Rattle.delf_model.specs.declared.script.Command.TheVariants.{Par}
use Rattle.delf_model.specs.declared.script.Lane.{Lane}
use Rattle.delf_model.specs.declared.script.LaneCommand.{LaneCommand}
use Rattle.delf_model.specs.declared.script.LaneCommand.TheVariants as lane
use Rattle.delf_model.specs.Graph.{object_at}
use Rattle.delf_model.specs.Legal.{Legal}
use Rattle.delf_model.specs.Payloads.{Payloads, is_needed, payload_at}
use Rattle.delf_model.specs.Reply.{reply}
use Rattle.delf_model.specs.Room.{moment_of}
use Rattle.delf_model.specs.RuleSet.{RuleSet}
use Rattle.delf_model.specs.State.{State, start}
use Rattle.delf_model.specs.Step.{after}
use Rattle.delf_model.proofs.Runs.{legal_take}
use Rattle.delf_book.specs.Books.{Booked, HasNumbers, state_in}
use Rattle.delf_book.specs.Holding.{Holds, ArePaired}
use Rattle.delf_book.specs.declared.answers.Receipt.{Receipt}
use Rattle.ledger.specs.Ledgers.{found, found_row}
use Rattle.delf_service.specs.declared.answers.Asked.{Asked}
use Rattle.delf_service.specs.declared.replies.LaneOut.{LaneOut}
use Rattle.delf_service.specs.declared.replies.LaneReply.{LaneReply}
use Rattle.delf_service.specs.declared.replies.LaneReply.TheVariants.{Submitted, Got}
use Rattle.delf_service.specs.declared.standing.Standing.{Standing}
use Rattle.delf_service.specs.declared.standing.Key.{Key}
use Rattle.seat_lock.specs.declared.view.Moment.{Moment}
use Rattle.delf_service.specs.Blocks.{HasLanes, AreToldLanes, IsBlock, lane_seat}
use Rattle.delf_service.specs.Lanes.{HasCommand, LaneTold, Tells, TellsAnswer, TellsAsked, state_before}
use Rattle.delf_service.specs.Rows.{commands_in, commands_at}
use Rattle.delf_service.specs.Standings.{standing_of}
use Rattle.opening_laws.specs.Entries.{SamePayloads}
use Rattle.documents.specs.Names.{HasNames, IsNumberedCall, IsNumberedLaneCommand, IsNumberedLane, IsNumberedBlock}
use Rattle.script_runner.specs.Blocks.{AreFed, MayRun, RunsTo, RunsLanes, LeavesLanes, Shows, block_lines}
use Rattle.script_runner.specs.Names.{IsNamed, IsNumberedRefusal, IsNumberedAnswer, IsNumberedAsked, IsNumberedReply, AreNumberedReplies, AreNumberedOuts}
use Rattle.script_runner.specs.Serial as serial
use Rattle.script_runner.specs.Serial.{refused_down}
use Rattle.script_runner.specs.Standing.{Falls, Carried, HaltedAt}
use Rattle.script_runner.specs.Worlds.{World, StandsOn, IsHeld, world_of}
use Rattle.script_runner.proofs.Kept.{kept_bytes, no_other}
use Rattle.script_runner.proofs.Keeping.{object_if}
use Rattle.delf_book.proofs.Owned.{rest_same}
use Rattle.script_runner.proofs.Numbered.{rules_after, numbered_after}
use Rattle.script_runner.proofs.Refusals.{reply_numbered}
use Rattle.script_runner.proofs.Standing.{stands_held}

-- what is served, by the command

pub served_if : (b : Bool) → (b ≡ false → ⊥) → b ≡ true
served_if true not_false = refl
served_if false not_false = absurd (not_false refl)

-- the numbers of a block's calls are those that lanes have to have

call_numbers : (rules : RuleSet) (asked : Call) → IsNumberedCall rules asked → HasNumbers rules asked
call_numbers rules (call.Create kind id payload) is = is
call_numbers rules (call.Update id payload) is = tt
call_numbers rules (call.Link edge from to payload) is = is
call_numbers rules (call.Unlink edge from to name) is = is
call_numbers rules (call.Delete id name) is = tt
call_numbers rules (call.Restore name) is = tt

command_numbers : (rules : RuleSet) (command : LaneCommand) → IsNumberedLaneCommand rules command → HasCommand rules command
command_numbers rules (lane.Submit asked) is = call_numbers rules asked is
command_numbers rules (lane.Get id) is = tt

all_at : {A : Type 0} (P : A → Type 0) (xs : List A) (k : ℕ) (x : A) → All P xs → slice_get xs k ≡ Some x → P x
all_at P xs k x all at =
    let below : k < length xs = slice_get_within xs k x at in
    subst P (let same : Some (get_or xs k x) ≡ Some x = sym (slice_get-get_or xs k x below) ∙ at in cc same) (all k x below)

-- the commands at a place are those of a lane, each of which is numbered
command_at : (rules : RuleSet) (one : Option Lane) (i : ℕ) (c : LaneCommand) → IfSome one (IsNumberedLane rules) → slice_get (commands_in one) i ≡ Some c →
    IsNumberedLaneCommand rules c
command_at rules None i c is at = absurd (cc at)
command_at rules (Some one) i c is at = all_at (IsNumberedLaneCommand rules) one.commands i c is.commands at

lane_if : (rules : RuleSet) (lanes : List Lane) (k : ℕ) (o : Option Lane) → All (IsNumberedLane rules) lanes → slice_get lanes k ≡ o → IfSome o (IsNumberedLane rules)
lane_if rules lanes k None all at = tt
lane_if rules lanes k (Some one) all at = all_at (IsNumberedLane rules) lanes k one all at

pub may_run : (rules : RuleSet) (workers : ℕ) (lanes : List Lane) → IsNumberedBlock rules workers lanes → MayRun rules workers lanes
may_run rules workers lanes block = record {
  few_lanes = block.few_lanes;
  few_workers = block.few_workers;
  numbers = λ k i c at. command_numbers rules c (command_at rules (slice_get lanes k) i c (lane_if rules lanes k (slice_get lanes k) block.each refl) at);
}

-- what the lanes were answered has lines

named_call : (schema : Schema) (rules : RuleSet) (asked : Call) → HasNames schema rules → IsNumberedCall rules asked → IsNamed schema asked
named_call schema rules (call.Create kind id payload) names is = tt
named_call schema rules (call.Update id payload) names is = tt
named_call schema rules (call.Link edge from to payload) names is = omega (arith, is, names.edges)
named_call schema rules (call.Unlink edge from to name) names is = omega (arith, is, names.edges)
named_call schema rules (call.Delete id name) names is = tt
named_call schema rules (call.Restore name) names is = tt

module _ (schema : Schema) (s : Standing) (names : HasNames schema s.key.rules) (legal : Legal s.key.rules s.history) where
  legal_before : (at : ℕ) → Legal s.key.rules (take at s.history)
  legal_before at = legal_take (start s.key.rules) s.history at legal

  refusal_before : (at moment seat : ℕ) (asked : Call) (r : Refusal) → reply (state_before s at) moment seat asked ≡ Err r →
      IsNumberedRefusal (length schema.objects) r
  refusal_before at moment seat asked r is =
      subst (λ (n : ℕ). IsNumberedRefusal n r) (ap (λ (x : RuleSet). length x.objects) (rules_after s.key.rules (take at s.history)) ∙ names.objects)
      (subst (λ (o : Result What Refusal). IfErr o (IsNumberedRefusal (length (state_before s at).rules.objects))) is
      (reply_numbered (state_before s at) moment seat asked (numbered_after s.key.rules (take at s.history) (legal_before at)).objects))

  answer_numbered : (turns : List (Moment Standing)) (now seat : ℕ) (asked : Call) (at : ℕ) (answer : Result Receipt Refusal) → TellsAnswer turns s now seat asked at answer →
      IfErr answer (IsNumberedRefusal (length schema.objects))
  answer_numbered turns now seat asked at (Ok receipt) tells = tt
  answer_numbered turns now seat asked at (Err (refusal.WrongEnd id kind)) tells =
      refusal_before at (moment_of (state_before s at) now) seat asked (refusal.WrongEnd id kind) tells
  answer_numbered turns now seat asked at (Err other) tells = tt

  found_numbered : (st : State) (id : ℕ) (o : Option ObjectRow) → IfSome o (λ row. row.kind < length s.key.rules.objects) →
      IfSome (found_row st id o) (λ it. it.0.kind < length schema.objects)
  found_numbered st id None is = tt
  found_numbered st id (Some row) is = omega (arith, is, names.objects)

  asked_numbered : (turns : List (Moment Standing)) (id : ℕ) (asked : Asked) (payload : List ℕ) → TellsAsked turns s id asked payload → IsNumberedAsked schema asked
  asked_numbered turns id asked payload tells =
      subst (λ (o : Option (ObjectRow × Option ℕ)). IfSome o (λ it. it.0.kind < length schema.objects)) (sym tells.found_is)
      (found_numbered (state_before s asked.at) id (object_at (state_before s asked.at).graph id)
      (object_if s.key.rules (take asked.at s.history) (state_before s asked.at).graph id (object_at (state_before s asked.at).graph id) (legal_before asked.at) refl refl))

  reply_numbered_by : (turns : List (Moment Standing)) (now seat : ℕ) (command : LaneCommand) (r : LaneReply) → IsNumberedLaneCommand s.key.rules command →
      Tells turns s now seat command r → IsNumberedReply schema command r
  reply_numbered_by turns now seat (lane.Submit asked) (Submitted a) is tells =
      (named_call schema s.key.rules asked names is, answer_numbered turns now seat asked a.at a.reply tells.what)
  reply_numbered_by turns now seat (lane.Submit asked) (Got found_it payload) is tells = tells.what
  reply_numbered_by turns now seat (lane.Get id) (Submitted a) is tells = tells.what
  reply_numbered_by turns now seat (lane.Get id) (Got asked payload) is tells = asked_numbered turns id asked payload tells.what

  replies_numbered : {made : List Entry} (turns : List (Moment Standing)) (now seat : ℕ) (o : Option Lane) (one : Lane) (replies : List LaneReply) →
      IsNumberedLane s.key.rules one → o ≡ Some one → LaneTold turns s now seat made (commands_in o) replies → AreNumberedReplies schema one.commands replies
  replies_numbered {made} turns now seat o one replies is here answered = λ k r at.
      let told : LaneTold turns s now seat made one.commands replies =
      subst (λ (x : Option Lane). LaneTold turns s now seat made (commands_in x) replies) here answered in
      let tells = told.told k r at in
      (tells.0, tells.1, reply_numbered_by turns now seat tells.0 r (all_at (IsNumberedLaneCommand s.key.rules) one.commands k tells.0 is.commands tells.1) tells.2)

some_at : {A : Type 0} (xs : List A) (k : ℕ) → k < length xs → (x : A) × (slice_get xs k ≡ Some x)
some_at [] k below = absurd (omega (arith, below))
some_at (x ∷ xs) zero below = (x, refl)
some_at (x ∷ xs) (suc k) below = some_at xs k (omega (arith, below))

-- each reply has its command, and each lane its replies

pub command_there : (schema : Schema) (commands : List LaneCommand) (replies : List LaneReply) (k : ℕ) → AreNumberedReplies schema commands replies → k < length replies → k < length commands
command_there schema commands replies k numbered below =
    let one = some_at replies k below in
    let it = numbered k one.0 one.1 in
    slice_get_within commands k it.0 it.1

pub reply_there : (schema : Schema) (commands : List LaneCommand) (replies : List LaneReply) (k : ℕ) (command : LaneCommand) (reply : LaneReply) →
    AreNumberedReplies schema commands replies → slice_get commands k ≡ Some command → slice_get replies k ≡ Some reply → IsNumberedReply schema command reply
reply_there schema commands replies k command reply numbered at here =
    let it = numbered k reply here in
    let same : it.0 ≡ command = let is = it.1 in cc (is, at) in
    subst (λ (c : LaneCommand). IsNumberedReply schema c reply) same it.2

pub lane_there : (schema : Schema) (lanes : List Lane) (outs : List LaneOut) (k : ℕ) → AreNumberedOuts schema lanes outs → k < length outs → k < length lanes
lane_there schema lanes outs k numbered below =
    let one = some_at outs k below in
    let it = numbered k one.0 one.1 in
    slice_get_within lanes k it.0 it.1

pub out_there : (schema : Schema) (lanes : List Lane) (outs : List LaneOut) (k : ℕ) (one : Lane) (out : LaneOut) → AreNumberedOuts schema lanes outs →
    slice_get lanes k ≡ Some one → slice_get outs k ≡ Some out → AreNumberedReplies schema one.commands out.replies
out_there schema lanes outs k one out numbered at here =
    let it = numbered k out here in
    let same : it.0 ≡ one = let is = it.1 in cc (is, at) in
    subst (λ (l : Lane). AreNumberedReplies schema l.commands out.replies) same it.2

-- each lane has its answers, and all of them have lines
pub outs_numbered : (schema : Schema) (first final : Standing) (workers now : ℕ) (lanes : List Lane) (outs : List LaneOut) → HasNames schema final.key.rules →
    IsNumberedBlock final.key.rules workers lanes → HasLanes first final (length lanes) → IsBlock first final now lanes outs → AreNumberedOuts schema lanes outs
outs_numbered schema first final workers now lanes outs names numbered has block = λ place out at.
    let below = slice_get_within outs place out at in
    let one = some_at lanes place (omega (arith, below, block.told.count)) in (
      one.0,
      one.1,
      replies_numbered schema final names has.legal block.told.turns now (lane_seat first place) (slice_get lanes place) one.0 out.replies
          (all_at (IsNumberedLane final.key.rules) lanes place one.0 numbered.each one.1) one.1 (block.told.told place out at),
    )

pub outs_few : (first final : Standing) (rules : RuleSet) (workers now : ℕ) (lanes : List Lane) (outs : List LaneOut) → IsNumberedBlock rules workers lanes →
    IsBlock first final now lanes outs → length outs ≤ 16
outs_few first final rules workers now lanes outs numbered block = omega (arith, numbered.few_lanes, block.told.count)

pub same_self : (e : Payloads) → SamePayloads e e
same_self e = record { bytes = λ p. refl; seals = refl }

-- the world that a block leads to

module _ {G R : Type 0} (d : Ghosts R) (schema : Schema) (quiet : Bool) (workers turns : ℕ) (lanes : List Lane) (old now : Booked G R) (clock : ℕ) where
  abbrev first : Standing
  first = standing_of d old (Some clock)

  abbrev final : Standing
  final = standing_of d now (Some clock)

  -- the payloads of a book that is up read as those for which its disk rests
  same_before : (e : Payloads) → old.down ≡ false → Legal old.rules old.history → d.may_leave old.rig (d.seen old.rig) → Holds d.seen d.may_leave old →
      StandsOn (world_of old clock e) (d.may_leave old.rig) → SamePayloads old.payloads e
  same_before e up legal image holds stands =
      rest_same old.rules old.history old.payloads e (d.may_leave old.rig) (d.seen old.rig) legal image (holds.rests up) (stands.rests up)

  shows_old : (e : Payloads) → Plain (d.told old.rig) (d.honest old.rig) → SamePayloads old.payloads e → Shows first (world_of old clock e) (d.faults old.rig)
  shows_old e plain same = record {
    rules = refl;
    history = refl;
    payloads = record { bytes = same.bytes; seals = same.seals };
    moment = refl;
    down = refl;
    lanes = refl;
    count = refl;
    plain = plain;
  }

  shows_now : Plain (d.told now.rig) (d.honest now.rig) → Shows final (world_of now clock now.payloads) (d.faults now.rig)
  shows_now plain = record {
    rules = refl;
    history = refl;
    payloads = record { bytes = λ p. refl; seals = refl };
    moment = refl;
    down = refl;
    lanes = refl;
    count = refl;
    plain = plain;
  }

  pub block_kind : HasLanes first final (length lanes) → SameKind d.told d.honest d.order d.orders old.rig now.rig
  block_kind has = record {
    tells = ap (λ (k : Key). k.disk.told) has.later.key;
    keeps_word = ap (λ (k : Key). k.disk.honest) has.later.key;
    last_order = ap (λ (k : Key). k.disk.order) has.later.key;
    order_count = ap (λ (k : Key). k.disk.orders) has.later.key;
  }

  -- the disk stays plain
  pub plain_now : HasLanes first final (length lanes) → Plain (d.told old.rig) (d.honest old.rig) → Plain (d.told now.rig) (d.honest now.rig)
  plain_now has plain = subst (λ (k : Key). Plain k.disk.told k.disk.honest) (sym has.later.key) plain

  -- the payloads of the book at positions from before the block
  kept_payloads : (e : Payloads) → Plain (d.told old.rig) (d.honest old.rig) → SamePayloads old.payloads e → HasLanes first final (length lanes) →
      ArePaired (state_in old) old.payloads → ArePaired (state_in now) now.payloads → (p : ℕ) → p < length old.history → is_needed (state_in now) p ≡ true →
      payload_at now.payloads p ≡ payload_at e p
  kept_payloads e plain same has paired paired_now p below needed =
      kept_bytes (state_in old) (state_in now) old.payloads now.payloads p paired paired_now needed
      (λ bytes there. (has.later.payloads (plain_now has plain)).pairs (p, bytes) below there) ∙ same.bytes p

  pub block_carried : (e : Payloads) (outs : List LaneOut) (text : List ℕ) → old.down ≡ false → Plain (d.told old.rig) (d.honest old.rig) → SamePayloads old.payloads e →
      ArePaired (state_in old) old.payloads → ArePaired (state_in now) now.payloads →
      HasLanes first final (length lanes) → IsBlock first final clock lanes outs → AreFed outs → text ≡ block_lines schema quiet lanes outs (length now.history) now.down →
      (now.down ≡ false → now.beside ≡ None) → Holds d.seen d.may_leave now →
      Carried d.may_leave d.faults schema (Par quiet workers turns lanes) (world_of old clock e) (d.faults old.rig) now clock text
  block_carried e outs text up plain same paired paired_now has block fed said alone holds = record {
    payloads = now.payloads;
    serves = serial.Blocks.Runs (record {
      up = up;
      first = first;
      final = final;
      shows_first = shows_old e plain same;
      shows_final = shows_now (plain_now has plain);
      kept = kept_payloads e plain same has paired paired_now;
      alone_first = no_other (state_in old) old.payloads paired;
      alone = no_other (state_in now) now.payloads paired_now;
      outs = outs;
      has = has;
      block = block;
      fed = fed;
      clock = refl;
      text_is = said;
    });
    stands = record { alone = alone; rests = holds.rests; held = λ down. holds.stands };
  }

  pub block_halts : (e : Payloads) → old.down ≡ false → Plain (d.told old.rig) (d.honest old.rig) → Legal old.rules old.history →
      d.may_leave old.rig (d.seen old.rig) → Holds d.seen d.may_leave old → StandsOn (world_of old clock e) (d.may_leave old.rig) →
      HasLanes first final (length lanes) → AreToldLanes first final clock lanes → Holds d.seen d.may_leave now →
      HaltedAt (Par quiet workers turns lanes) (world_of old clock e) (d.may_leave now.rig)
  block_halts e up plain legal image held stands has told holds = record {
    next = world_of now clock now.payloads;
    halts = inr (record {
      up = up;
      first = first;
      final = final;
      before = d.faults old.rig;
      now = d.faults now.rig;
      shows_first = shows_old e plain (same_before e up legal image held stands);
      shows_final = shows_now (plain_now has plain);
      has = has;
      told = told;
      clock = refl;
    });
    held = holds.stands;
  }

  pub block_falls : HasLanes first final (length lanes) → old.held ≡ [] → now.held ≡ [] → Falls d.faults old now
  block_falls has none left = record { later = has.later.faults; fell = has.later.cause; held = left ∙ sym none }

  -- a book that is down runs no lanes

  pub down_block : (e : Payloads) (text : List ℕ) → old.down ≡ true → text ≡ refused_down (world_of old clock e) → StandsOn (world_of old clock e) (d.may_leave old.rig) →
      Carried d.may_leave d.faults schema (Par quiet workers turns lanes) (world_of old clock e) (d.faults old.rig) old clock text
  down_block e text down said stands = record { payloads = e; serves = serial.Blocks.WasDown down refl said refl; stands = stands }

  pub down_halts : (e : Payloads) → Legal old.rules old.history → StandsOn (world_of old clock e) (d.may_leave old.rig) →
      HaltedAt (Par quiet workers turns lanes) (world_of old clock e) (d.may_leave old.rig)
  down_halts e legal stands = record {
    next = world_of old clock e;
    halts = inl refl;
    held = stands_held (world_of old clock e) (d.may_leave old.rig) legal stands;
  }

  -- by what the lanes answered, if memory was not wanting
  pub block_serves : {V E : Type 0} (items : V → List LaneOut) (outs : Result V E) (e : Payloads) (text : List ℕ) (len : ℕ) (down : Bool) → old.down ≡ false →
      Plain (d.told old.rig) (d.honest old.rig) → Legal old.rules old.history → d.may_leave old.rig (d.seen old.rig) → Holds d.seen d.may_leave old →
      StandsOn (world_of old clock e) (d.may_leave old.rig) → ArePaired (state_in old) old.payloads → ArePaired (state_in now) now.payloads →
      RunsTo first final clock lanes items outs → len ≡ length now.history → down ≡ now.down →
      IsOkAnd outs (λ v. AreFed (items v) × (text ≡ block_lines schema quiet lanes (items v) len down)) →
      (now.down ≡ false → now.beside ≡ None) → Holds d.seen d.may_leave now →
      Carried d.may_leave d.faults schema (Par quiet workers turns lanes) (world_of old clock e) (d.faults old.rig) now clock text
  block_serves items (Ok v) e text len down up plain legal image held stands paired paired_now runs len_is down_is said alone holds =
      block_carried e (items v) text up plain (same_before e up legal image held stands) paired paired_now runs.has runs.block said.0
      (said.1 ∙ ap (λ (n : ℕ). block_lines schema quiet lanes (items v) n down) len_is
      ∙ ap (λ (b : Bool). block_lines schema quiet lanes (items v) (length now.history) b) down_is) alone holds
  block_serves items (Err why) e text len down up plain legal image held stands paired paired_now runs len_is down_is said alone holds = absurd said

  pub block_lined : {V : Type 0} (items : V → List LaneOut) (v : V) → HasNames schema old.rules → IsNumberedBlock old.rules workers lanes →
      HasLanes first final (length lanes) → IsBlock first final clock lanes (items v) → AreNumberedOuts schema lanes (items v) × (length (items v) ≤ 16)
  block_lined items v names numbered has block =
      let rules : old.rules ≡ now.rules = ap (λ (k : Key). k.rules) (sym has.later.key) in (
        outs_numbered schema first final workers clock lanes (items v) (subst (HasNames schema) rules names)
            (subst (λ (r : RuleSet). IsNumberedBlock r workers lanes) rules numbered) has block,
        outs_few first final old.rules workers clock lanes (items v) numbered block,
      )
