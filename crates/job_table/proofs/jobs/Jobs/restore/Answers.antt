use Rattle.std.proofs.Common.{Bool, cond, Some, sym, refl, ap}
use Rattle.delf_model.specs.Step.{row_restored_at}
use Rattle.job_table.specs.Parts.{row_of}
use Rattle.job_table.proofs.Naming.{changed_fits}
use Rattle.job_table.proofs.Places.{change_some, change_none}
use Rattle.job_table.proofs.WaitingJobs.{same_waits}
use Rattle.job_table.proofs.jobs.Jobs.restore.Goals as goal

pub invariant_of-self : goal.invariant_of-self
invariant_of-self c = (
  changed_fits c.self.inside.rows.items _ _ _ _ _ _ c.self.invariant.0 c.deref.result.now c.args.job c.in-Some.i c.index_mut.result.now (record c.index_mut.result.now { restored = Some c.args.at })
      c.deref.ensures.value c.in-Some.ensures c.index_mut.ensures.value refl refl,
  same_waits c.self.inside.rows.items c.self.inside.waiting.items _ _ _ c.self.invariant.1 c.deref.result.now c.args.job c.in-Some.i (record c.index_mut.result.now { restored = Some c.args.at }) c.index_mut.result.now
      c.deref.ensures.value c.in-Some.ensures c.index_mut.ensures.value refl refl (λ h. h),
)

pub returns-in-Some-clause-list : goal.returns-in-Some-clause-list
returns-in-Some-clause-list c =
    change_some c.self.inside.rows.items c.deref.result.now c.args.self.now _ c.args.job c.in-Some.i c.index_mut.result.now
    (record c.index_mut.result.now { restored = Some c.args.at }) (row_restored_at c.args.job c.args.at)
    c.deref.ensures.value c.self.view_is c.in-Some.ensures c.index_mut.ensures.value
    (λ h. sym (ap (λ (b : Bool). cond b (record (row_of c.index_mut.result.now) { restored = Some c.args.at }) (row_of c.index_mut.result.now)) h))

pub returns-in-None-clause-list : goal.returns-in-None-clause-list
returns-in-None-clause-list c =
    change_none c.self.inside.rows.items c.deref.result.now c.args.self.now _ c.args.job (row_restored_at c.args.job c.args.at) c.deref.ensures.value c.self.view_is c.in-None.ensures
