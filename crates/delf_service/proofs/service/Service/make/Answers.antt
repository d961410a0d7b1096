use Rattle.std.proofs.Common.{◌≡◌, ℕ, rules, length, take, ap, ◌∙◌, sym, subst}
use Rattle.seat_lock.specs.Locks.{view}
use Rattle.delf_model.specs.declared.script.LaneCommand.{LaneCommand}
use Rattle.delf_service.specs.declared.replies.LaneReply.TheVariants.{Submitted, Got}
use Rattle.delf_service.specs.Lanes.{Makes, Stops, size_read}
use Rattle.delf_service.proofs.Lanes.{submit_makes, ask_makes, ask_stops, if_none, read_is}
use Rattle.delf_service.proofs.service.Service.make.Goals as goal

pub returns-after-is_ok-clause-made : goal.returns-after-is_ok-clause-made
returns-after-is_ok-clause-made g c =
    let v = view c.args.seat.now in
    let w = view c.submit-answer.new.seat in
    subst (λ (command : LaneCommand). Makes v w c.args.now command (Submitted c.submit-answer.result)) (sym c.in-Submit.is)
    (submit_makes v w c.args.now _ c.submit-answer.result c.requires.moment c.submit-answer.ensures.call c.submit-answer.ensures.made)

pub returns-in_ok-payload-in-Get-clause-made : goal.returns-in_ok-payload-in-Get-clause-made
returns-in_ok-payload-in-Get-clause-made g c =
    let v = view c.args.seat.now in
    let w = view c.ask-asked.new.seat in
    let size : length c.ask-asked.new.buf ≡ 512 = search rules in
    let front : c.in_ok-payload-in-Get.payload ≡ take (size_read c.ask-asked.result.found c.ask-asked.result.fault) c.ask-asked.new.buf =
    read_is c.of.result c.in_ok-payload-in-Get.payload _ (sym c.ok.ensures.value ∙ c.in_ok-payload-in-Get.was) c.of.ensures ∙ ap (λ (n : ℕ). take n c.ask-asked.new.buf) c.size_of.ensures in
    subst (λ (command : LaneCommand). Makes v w c.args.now command (Got c.ask-asked.result c.in_ok-payload-in-Get.payload)) (sym c.in-Get.is)
    (ask_makes v w c.args.now _ c.ask-asked.new.buf c.ask-asked.result c.in_ok-payload-in-Get.payload c.ask-asked.ensures.asked size front c.ask-asked.ensures.same.1)

pub returns-in_err-payload-in-Get-clause-stopped : goal.returns-in_err-payload-in-Get-clause-stopped
returns-in_err-payload-in-Get-clause-stopped g c =
    let v = view c.args.seat.now in
    let w = view c.ask-asked.new.seat in
    if_none c.from_residual.result (Stops v w) (ask_stops v w c.args.now _ c.ask-asked.new.buf c.ask-asked.result c.ask-asked.ensures.asked c.ask-asked.ensures.same.1)
