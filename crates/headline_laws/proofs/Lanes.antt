-- The accepted calls of the lanes of a block.
use Rattle.std.proofs.Common.{◌≡◌, ℕ, ◌+◌, ◌<◌, ◌≤◌, Bool, Some, Result, Ok, Err, List, refl, sym, ap, subst, ◌∙◌, arith}
use Rattle.std.specs.Prelude.{slice_get}
use Rattle.delf_model.specs.declared.schema.Schema.{Schema}
use Rattle.delf_model.specs.declared.call.Refusal.{Refusal}
use Rattle.delf_model.specs.declared.entry.Entry.{Entry}
use Rattle.delf_model.specs.declared.script.Lane.{Lane}
use Rattle.delf_model.specs.declared.script.LaneCommand.{LaneCommand}
use Rattle.delf_model.specs.declared.script.LaneCommand.TheVariants as lane
use Rattle.delf_model.specs.Legal.{Legal}
use Rattle.delf_book.specs.declared.answers.Receipt.{Receipt}
use Rattle.delf_service.specs.declared.answers.Answer.{Answer}
use Rattle.delf_service.specs.declared.replies.LaneOut.{LaneOut}
use Rattle.delf_service.specs.declared.replies.LaneReply.{LaneReply}
use Rattle.delf_service.specs.declared.replies.LaneReply.TheVariants.{Submitted, Got}
use Rattle.delf_service.specs.declared.standing.Standing.{Standing}
use Rattle.delf_service.specs.Blocks.{lane_seat, LaneToldAt}
use Rattle.delf_service.specs.Lanes.{LaneTold, TellsWhat, TellsAnswer, TellsAccepted, next_of_reply, accepted, entry_before}
use Rattle.delf_service.specs.Rows.{commands_at}
use Rattle.delf_service.specs.Standings.{seat_of}
use Rattle.seat_lock.specs.declared.view.Moment.{Moment}
use Rattle.seat_lock.specs.Views.{made_by}
use Rattle.script_runner.specs.Blocks.{RunsLanes}
use Rattle.script_runner.specs.Worlds.{World}
use Rattle.headline_laws.specs.Onward.{GoesOn}
use Rattle.headline_laws.specs.Lanes.{LaneCallStands, LaneStands}
use Rattle.headline_laws.proofs.Placing.{still_there, stands_once}

module _ (turns : List (Moment Standing)) (final : Standing) (clock seat : ℕ) (left last : World) (held : final.history ≡ left.history) (onward : GoesOn left last)
    (legal : Legal last.rules last.history) where
  by_accepted : (commands : List LaneCommand) (k : ℕ) (a : Answer) (receipt : Receipt) (call : _) → slice_get commands k ≡ Some (lane.Submit call) →
      TellsAccepted turns final clock seat call a.at receipt → LaneCallStands commands k final clock seat a receipt last.history
  by_accepted commands k a receipt call is t = record {
    call = call;
    is_asked = is;
    what = t.what;
    is_reply = t.is_reply;
    position = t.position;
    stands = stands_once last.rules last.history seat a.at (entry_before final a.at clock t.what) legal
        (still_there left last a.at (entry_before final a.at clock t.what) onward
        (subst (λ (h : List Entry). slice_get h a.at ≡ Some (entry_before final a.at clock t.what)) held t.stands)) t.maker;
  }

  by_command : (commands : List LaneCommand) (k : ℕ) (a : Answer) (receipt : Receipt) (c : LaneCommand) → a.reply ≡ Ok receipt → slice_get commands k ≡ Some c →
      TellsWhat turns final clock seat c (Submitted a) → LaneCallStands commands k final clock seat a receipt last.history
  by_command commands k a receipt (lane.Submit call) reply_is is told =
      by_accepted commands k a receipt call is (subst (λ (r : Result Receipt Refusal). TellsAnswer turns final clock seat call a.at r) reply_is told)
  by_command commands k a receipt (lane.Get id) reply_is is told = absurd told

  lane_told : (commands : List LaneCommand) (replies : List LaneReply) → LaneTold turns final clock seat (made_by seat_of seat final.history) commands replies →
      LaneStands commands final clock seat replies left.history last.history
  lane_told commands replies told = record {
    calls = λ k a receipt there reply_is.
        let one = told.told k (Submitted a) there in by_command commands k a receipt one.0 reply_is one.1 one.2.what;
    order = λ i j a b first second less at_i at_j reply_a reply_b.
        let rises : next_of_reply a.at a.reply ≤ b.at = told.rising i j (Submitted a) (Submitted b) less at_i at_j in
        let next : a.at + 1 ≤ b.at = subst (λ (r : Result Receipt Refusal). next_of_reply a.at r ≤ b.at) reply_a rises in
        omega (arith, next);
    only = ap (λ (h : List Entry). made_by seat_of seat h) (sym held) ∙ told.made_is;
  }

pub lane_stands : (schema : Schema) (found left last : World) (quiet : Bool) (lanes : List Lane) (before now : ℕ) (line : List ℕ) (runs : RunsLanes schema found quiet lanes before now line left) →
    GoesOn left last → Legal last.rules last.history → (place : ℕ) (out : LaneOut) → slice_get runs.outs place ≡ Some out →
    LaneStands (commands_at lanes place) runs.final found.clock (lane_seat runs.first place) out.replies left.history last.history
lane_stands schema found left last quiet lanes before now line runs onward legal place out there =
    lane_told runs.block.told.turns runs.final found.clock (lane_seat runs.first place) left last runs.shows_final.history onward legal (commands_at lanes place) out.replies
    (runs.block.told.told place out there)
