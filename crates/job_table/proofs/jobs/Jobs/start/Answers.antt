use Rattle.std.proofs.Common.{◌≡◌, ◌∙◌, sym, ap, arith, length, refl, ℕ, Some, cond}
use Rattle.std.specs.Prelude.{nat_eq}
use Rattle.std.specs.HashMap.{get}
use Rattle.delf_model.specs.State.{same_name}
use Rattle.delf_model.specs.declared.ids.JobName.TheVariants.{Named, Expiry}
use Rattle.job_table.specs.Parts.{JobPart, row_of}
use Rattle.job_table.proofs.Naming.{started_fits}
use Rattle.job_table.proofs.Places.{map_length}
use Rattle.job_table.proofs.WaitingJobs.{started_waits}
use Rattle.job_table.proofs.jobs.Jobs.start.Goals as goal

pub invariant_of-self : goal.invariant_of-self
invariant_of-self c =
    let len : length c.args.self.now.list ≡ length c.self.inside.rows.items = ap (λ (m : JobPart). length m.list) (sym c.self.view_is) ∙ map_length row_of c.self.inside.rows.items in
    let spare : c.self.inside.spare ≡ c.args.self.now.spare = ap (λ (m : JobPart). m.spare) c.self.view_is in (
      started_fits c.self.inside.rows.items _ _ _ _ _ c.self.inside.spare c.self.invariant.0 c.push_reserved.new.self.items c.args.self.now.list _ _ _ _ _ c.args.start c.args.root c.args.name _
          (ap (λ (m : JobPart). m.list) c.self.view_is) c.requires.rise c.requires.below c.push_reserved.ensures.items refl (omega (arith, c.requires.fits, len)) (omega (arith, c.requires.spare, spare))
          (λ k. c.note_name.ensures.named k ∙ ap (λ (n : ℕ). cond (same_name c.args.name (Named k)) (Some n) (get nat_eq c.self.inside.named k)) c.start.view_is)
          (λ k. c.note_name.ensures.expiries k ∙ ap (λ (n : ℕ). cond (same_name c.args.name (Expiry k)) (Some n) (get nat_eq c.self.inside.expiries k)) c.start.view_is)
          c.note_name.ensures.named_spare c.note_name.ensures.expiries_spare c.push_reserved.ensures.capacity,
      started_waits c.self.inside.rows.items c.self.inside.waiting.items _ _ c.self.inside.spare c.self.invariant.1 c.push_reserved.new.self.items c.args.self.now.list c.args.start _
          (ap (λ (m : JobPart). m.list) c.self.view_is) c.requires.rise c.push_reserved.ensures.items refl refl,
    )
