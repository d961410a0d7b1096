use Rattle.std.proofs.Common.{◌+◌, ◌∙◌, ap, sym, refl, arith, ℕ, None, cond}
use Rattle.std.specs.Prelude.{nat_eq}
use Rattle.std.specs.HashMap.{get}
use Rattle.job_table.specs.Parts.{OwnerPart}
use Rattle.job_table.specs.Table.{owner_among, owned_among}
use Rattle.delf_model.specs.State.{is_job}
use Rattle.job_table.proofs.Owning.{disown_fits, disown_owner, disown_owned, on_some}
use Rattle.job_table.proofs.owners.Owners.disown.Goals as goal

pub invariant_of-self : goal.invariant_of-self
invariant_of-self c =
    disown_fits c.self.inside.pairs.items c.remove-in-Some.new.self.items _ _ _ _ _ _ c.self.inside.spare c.self.invariant c.args.id c.in-Some.job c.place-i.result
    c.get-number.result c.in-Some.job c.get-number.ensures.value refl
    (λ l. on_some c.remove-in-Some.result _ _ c.remove-in-Some.ensures.items (c.remove-in-Some.ensures.succeeds (0, 0) (omega (arith, l))))
    c.place-i.ensures.before c.place-i.ensures.after (c.in-Some.ensures.value ∙ ap (λ (n : ℕ). get nat_eq c.self.inside.jobs n) c.get-number.ensures.value)
    (λ q. c.in-Some.ensures.updates.0 q ∙ ap (λ (n : ℕ). cond (nat_eq n q) None (get nat_eq c.self.inside.jobs q)) c.get-number.ensures.value)
    c.remove-in-Some.ensures.capacity c.in-Some.ensures.spare

pub returns-in-Some-clause-owner : goal.returns-in-Some-clause-owner
returns-in-Some-clause-owner c =
    λ other.
    disown_owner c.self.inside.pairs.items c.remove-in-Some.new.self.items _ (get nat_eq c.remove.new.self) _ 0 _ 0 c.self.inside.spare c.self.invariant c.args.id c.in-Some.job c.place-i.result
    c.get-number.result c.in-Some.job c.get-number.ensures.value refl
    (λ l. on_some c.remove-in-Some.result _ _ c.remove-in-Some.ensures.items (c.remove-in-Some.ensures.succeeds (0, 0) (omega (arith, l))))
    c.place-i.ensures.before c.place-i.ensures.after (c.in-Some.ensures.value ∙ ap (λ (n : ℕ). get nat_eq c.self.inside.jobs n) c.get-number.ensures.value) other
    ∙ ap (λ (m : OwnerPart). cond (nat_eq other c.args.id) None (owner_among m.list other)) c.self.view_is

pub returns-in-Some-clause-owned : goal.returns-in-Some-clause-owned
returns-in-Some-clause-owned c =
    λ job.
    ap (λ (m : OwnerPart). owned_among c.remove-in-Some.new.self.items job + cond (is_job job (owner_among m.list c.args.id)) 1 0) (sym c.self.view_is)
    ∙ disown_owned c.self.inside.pairs.items c.remove-in-Some.new.self.items _ (get nat_eq c.remove.new.self) _ 0 _ 0 c.self.inside.spare c.self.invariant c.args.id c.in-Some.job c.place-i.result
    c.get-number.result c.in-Some.job c.get-number.ensures.value refl
    (λ l. on_some c.remove-in-Some.result _ _ c.remove-in-Some.ensures.items (c.remove-in-Some.ensures.succeeds (0, 0) (omega (arith, l))))
    c.place-i.ensures.before c.place-i.ensures.after (c.in-Some.ensures.value ∙ ap (λ (n : ℕ). get nat_eq c.self.inside.jobs n) c.get-number.ensures.value) job
    ∙ ap (λ (m : OwnerPart). owned_among m.list job) c.self.view_is
