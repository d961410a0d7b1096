use Rattle.std.proofs.Common.{ℕ, Option, sym, ap, ◌∙◌}
use Rattle.delf_model.specs.declared.entry.What.TheVariants.{Restore}
use Rattle.delf_model.specs.Reply.{answered, answered_by, restore_of}
use Rattle.live_writes.proofs.calls.judge_restore.Goals as goal

pub returns-in-Some-refused_restore : goal.returns-in-Some-refused_restore
returns-in-Some-refused_restore c =
    λ s t i.
    ap (answered_by (Restore c.args.tag c.in-Some.job)) (c.in-Some-refused_restore.ensures s c.args.tag t i (sym (c.in-Some.ensures s t)))
    ∙ ap (λ (found : Option ℕ). answered s c.args.moment (restore_of c.args.tag found)) (c.in-Some.ensures s t)

pub returns-in-None-refused_restore : goal.returns-in-None-refused_restore
returns-in-None-refused_restore c =
    λ s t i.
    ap (answered_by (Restore c.args.tag c.in-Some.job)) (c.in-None-refused_restore.ensures s c.args.tag t i (sym (c.in-Some.ensures s t)))
    ∙ ap (λ (found : Option ℕ). answered s c.args.moment (restore_of c.args.tag found)) (c.in-Some.ensures s t)
