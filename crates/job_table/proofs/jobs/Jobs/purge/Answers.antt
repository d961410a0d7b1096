use Rattle.job_table.specs.declared.jobs.Row.{Row}
use Rattle.std.proofs.Common.{List, length, get_or, ◌∙◌, arith, Bool, true, cond, sym, refl, ap}
use Rattle.delf_model.specs.Step.{purged_if}
use Rattle.job_table.specs.Parts.{row_of}
use Rattle.job_table.proofs.Naming.{changed_fits, set_length}
use Rattle.job_table.proofs.Places.{change_some, change_none}
use Rattle.job_table.proofs.WaitingJobs.{waits_at, changed_waits, same_row}
use Rattle.job_table.proofs.jobs.Jobs.purge.Goals as goal

pub invariant_of-self : goal.invariant_of-self
invariant_of-self c = (
  changed_fits c.self.inside.rows.items _ _ _ _ _ _ c.self.invariant.0 c.deref.result.now c.args.job c.in-Some.i c.index_mut.result.now (record c.index_mut.result.now { purged = true })
      c.deref.ensures.value c.in-Some.ensures c.index_mut.ensures.value refl refl,
  changed_waits c.self.inside.rows.items c.self.inside.waiting.items _ _ _ c.self.invariant.1 c.deref.result.now c.leave_purged.new.waiting.items _ c.first_kept-self-inside.result _ c.args.job c.in-Some.i
      (record c.index_mut.result.now { purged = true }) c.index.result.now c.deref.ensures.value c.in-Some.ensures c.index.ensures
      (ap (λ (r : Row). r.start) (sym (same_row c.self.inside.rows.items c.deref.result.now c.args.job c.in-Some.i c.index.result.now c.index_mut.result.now c.deref.ensures.value c.in-Some.ensures c.index.ensures c.index_mut.ensures.value)))
      c.leave_purged.ensures.rise c.leave_purged.ensures.apart c.leave_purged.ensures.value (omega (arith, c.leave_purged.ensures.len)) (omega (arith, c.leave_purged.ensures.capacity))
      (omega (arith, c.first_kept-self-inside.ensures.within, ap (λ (xs : List Row). length xs) c.deref-in-Some.ensures.value, set_length c.self.inside.rows.items c.in-Some.i (record c.index_mut.result.now { purged = true })))
      (λ k d h. ap (λ (xs : List Row). (get_or xs k d).purged) (sym c.deref-in-Some.ensures.value) ∙ c.first_kept-self-inside.ensures.purged k d h),
)

pub leave_purged-requires-clause-found : goal.leave_purged-requires-clause-found
leave_purged-requires-clause-found c =
    waits_at c.self.inside.rows.items c.self.inside.waiting.items _ _ _ c.self.invariant.1 c.deref.result.now c.args.job c.in-Some.i c.index.result.now c.deref.ensures.value c.in-Some.ensures c.index.ensures

pub returns-in-Some-clause-list : goal.returns-in-Some-clause-list
returns-in-Some-clause-list c =
    change_some c.self.inside.rows.items c.deref.result.now c.args.self.now _ c.args.job c.in-Some.i c.index_mut.result.now
    (record c.index_mut.result.now { purged = true }) (purged_if c.args.job)
    c.deref.ensures.value c.self.view_is c.in-Some.ensures c.index_mut.ensures.value
    (λ h. sym (ap (λ (b : Bool). cond b (record (row_of c.index_mut.result.now) { purged = true }) (row_of c.index_mut.result.now)) h))

pub returns-in-None-clause-list : goal.returns-in-None-clause-list
returns-in-None-clause-list c =
    change_none c.self.inside.rows.items c.deref.result.now c.args.self.now _ c.args.job (purged_if c.args.job) c.deref.ensures.value c.self.view_is c.in-None.ensures
