-- What a call is answered, from the refusal of its entry.
use Rattle.std.proofs.Common.{◌≡◌, ℕ, Option, Some, sym, ap, ◌∙◌}
use Rattle.delf_model.specs.declared.call.Call.{Call}
use Rattle.delf_model.specs.declared.call.Refusal.{Refusal}
use Rattle.delf_model.specs.declared.entry.Tag.{Tag}
use Rattle.delf_model.specs.declared.entry.What.{What}
use Rattle.delf_model.specs.State.{State}
use Rattle.delf_model.specs.Reply.{asked, answered, answered_by, refused, reply_at}

pub told : (s : State) (m : ℕ) (tag : Tag) (call : Call) (what : What) (x : Option Refusal) → asked s tag call ≡ Some what → x ≡ refused s m what →
    answered_by what x ≡ reply_at s m tag call
told s m tag call what x asks is = ap (answered_by what) is ∙ sym (ap (answered s m) asks)
