-- Who made the entry of a call, and of a step.
use Rattle.std.proofs.Common.{◌≡◌, ℕ, true, Option, Some, None, Ok, refl, sym, ap}
use Rattle.std.proofs.lemmas.Bool.{and_parts}
use Rattle.delf_model.specs.declared.call.Call.{Call}
use Rattle.delf_model.specs.declared.call.Call.TheVariants as call
use Rattle.delf_model.specs.declared.call.Refusal.{Refusal}
use Rattle.delf_model.specs.declared.entry.Tag.{Tag}
use Rattle.delf_model.specs.declared.entry.What.{What}
use Rattle.delf_model.specs.declared.entry.What.TheVariants.{Create, Update, Link, Unlink, Delete, Restore, Expire, Cut, Erase, Put, Purge}
use Rattle.delf_model.specs.State.{State, find_job}
use Rattle.delf_model.specs.Step.{tag_of}
use Rattle.delf_model.specs.Reply.{answered_by, answered, restore_of, next_tag, reply}
use Rattle.delf_model.specs.Legal.{is_legal}
use Rattle.delf_model.specs.Order.{is_step, is_legal_step}
use Rattle.delf_service.specs.Standings.{seat_of_tag}

answered_is : (w what : What) (r : Option Refusal) → answered_by w r ≡ Ok what → w ≡ what
answered_is w what None e = cc
answered_is w what (Some r) e = absurd (cc e)

restored_tag : (s : State) (moment : ℕ) (tag : Tag) (o : Option ℕ) (what : What) → answered s moment (restore_of tag o) ≡ Ok what → tag_of what ≡ Some tag
restored_tag s moment tag None what e = absurd (cc e)
restored_tag s moment tag (Some job) what e = sym (ap tag_of (answered_is (Restore tag job) what _ e))

reply_tag : (s : State) (moment seat : ℕ) (c : Call) (what : What) → reply s moment seat c ≡ Ok what → tag_of what ≡ Some (next_tag s seat)
reply_tag s moment seat (call.Create kind id payload) what e = sym (ap tag_of (answered_is _ what _ e))
reply_tag s moment seat (call.Update id payload) what e = sym (ap tag_of (answered_is _ what _ e))
reply_tag s moment seat (call.Link edge from to payload) what e = sym (ap tag_of (answered_is _ what _ e))
reply_tag s moment seat (call.Unlink edge from to name) what e = sym (ap tag_of (answered_is _ what _ e))
reply_tag s moment seat (call.Delete id name) what e = sym (ap tag_of (answered_is _ what _ e))
reply_tag s moment seat (call.Restore name) what e = restored_tag s moment (next_tag s seat) (find_job s.jobs name) what e

-- the entry of a call has the number of its seat
pub reply_maker : (s : State) (moment seat : ℕ) (c : Call) (what : What) → reply s moment seat c ≡ Ok what → seat_of_tag (tag_of what) ≡ Some seat
reply_maker s moment seat c what e = ap seat_of_tag (reply_tag s moment seat c what e)

step_tag : (what : What) → is_step what ≡ true → tag_of what ≡ None
step_tag (Create tag kind id size) e = absurd (cc e)
step_tag (Update tag id size) e = absurd (cc e)
step_tag (Link tag edge from to size) e = absurd (cc e)
step_tag (Unlink tag edge from to name) e = absurd (cc e)
step_tag (Delete tag id name) e = absurd (cc e)
step_tag (Restore tag job) e = absurd (cc e)
step_tag (Expire id) e = refl
step_tag (Cut job edge from to) e = refl
step_tag (Erase job id) e = refl
step_tag (Put job i) e = refl
step_tag (Purge job) e = refl

-- the entry of a step has none
pub step_maker : (s : State) (moment : ℕ) (what : What) → is_legal_step s moment what ≡ true → seat_of_tag (tag_of what) ≡ None
step_maker s moment what legal =
    ap seat_of_tag (step_tag what (and_parts (is_step what) (is_legal s (record { moment = moment; what = what })) legal).0)
