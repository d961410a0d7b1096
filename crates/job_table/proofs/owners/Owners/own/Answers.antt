use Rattle.std.proofs.Common.{◌≡◌, ◌∙◌, ap, arith, ℕ, Some, None, cond, length}
use Rattle.std.specs.Prelude.{nat_eq}
use Rattle.std.specs.HashMap.{get}
use Rattle.job_table.specs.Parts.{OwnerPart}
use Rattle.job_table.specs.Table.{owner_among}
use Rattle.job_table.proofs.Owning.{own_fits, own_gains, gains_from}
use Rattle.job_table.proofs.owners.Owners.own.Goals as goal

pub invariant_of-self : goal.invariant_of-self
invariant_of-self c =
    let free : owner_among c.self.inside.pairs.items c.args.id ≡ None = ap (λ (m : OwnerPart). owner_among m.list c.args.id) c.self.view_is ∙ c.requires.free in
    let spare : c.self.inside.spare ≡ c.args.self.now.spare = ap (λ (m : OwnerPart). m.spare) c.self.view_is in
    let len : length c.self.inside.pairs.items ≡ length c.args.self.now.list = ap (λ (m : OwnerPart). length m.list) c.self.view_is in
    own_fits c.self.inside.pairs.items c.insert.new.self.items _ _ _ _ _ _ c.self.inside.spare c.self.invariant c.args.id c.args.job c.place-i.result c.get.result c.job.inside.0
    c.get.ensures.value c.job.view_is c.in-Ok.ensures.items c.place-i.ensures.bound c.place-i.ensures.before c.place-i.ensures.after free
    (λ q. c.in-Ok-insert.ensures.updates.0 q ∙ ap (λ (n : ℕ). cond (nat_eq n q) (Some c.job-2.inside.0) (get nat_eq c.self.inside.jobs q)) c.get-2.ensures.value
    ∙ ap (λ (n : ℕ). cond (nat_eq c.args.id q) (Some n) (get nat_eq c.self.inside.jobs q)) c.job-2.view_is)
    c.in-Ok.ensures.capacity c.in-Ok-insert.ensures.spare (omega (arith, spare, c.requires.spare)) (omega (arith, len, c.requires.fits))

pub returns-clause-gains : goal.returns-clause-gains
returns-clause-gains c =
    let free : owner_among c.self.inside.pairs.items c.args.id ≡ None = ap (λ (m : OwnerPart). owner_among m.list c.args.id) c.self.view_is ∙ c.requires.free in
    gains_from c.self.inside.pairs.items c.args.self.now.list _ c.args.id c.args.job (ap (λ (m : OwnerPart). m.list) c.self.view_is)
    (own_gains c.self.inside.pairs.items c.insert.new.self.items c.args.id c.args.job c.place-i.result c.in-Ok.ensures.items free)
