use Rattle.std.proofs.Common.{◌≡◌, ◌∙◌, ◌-◌, Bool, cond, set, Some, sym, refl, ap, arith}
use Rattle.std.specs.Prelude.{nat_eq}
use Rattle.job_table.specs.declared.jobs.Row.{Row}
use Rattle.job_table.specs.Table.{owner_among}
use Rattle.job_table.specs.Waits.{waits_of, erased_row}
use Rattle.delf_model.specs.Step.{erased_at}
use Rattle.job_table.specs.Parts.{JobPart, row_of}
use Rattle.job_table.proofs.Naming.{changed_fits, fewer_fits}
use Rattle.job_table.proofs.Places.{change_some, change_none}
use Rattle.job_table.proofs.WaitingJobs.{waits_at, changed_waits, still_purged, same_row}
use Rattle.job_table.proofs.jobs.Jobs.erase.Goals as goal

pub invariant_of-self : goal.invariant_of-self
invariant_of-self c =
    let spare : c.self.inside.spare ≡ c.args.self.now.spare = ap (λ (m : JobPart). m.spare) c.self.view_is in
    let same : c.index.result.now ≡ c.index_mut.result.now =
    same_row c.self.inside.rows.items c.deref.result.now c.args.job c.in-Some.i c.index.result.now c.index_mut.result.now c.deref.ensures.value c.in-Some.ensures c.index.ensures c.index_mut.ensures.value in (
      fewer_fits (set c.self.inside.rows.items c.in-Some.i (record c.index_mut.result.now { last = Some c.args.moment })) _ _ _ _ _ c.self.inside.spare
          (changed_fits c.self.inside.rows.items _ _ _ _ _ _ c.self.invariant.0 c.deref.result.now c.args.job c.in-Some.i c.index_mut.result.now (record c.index_mut.result.now { last = Some c.args.moment })
          c.deref.ensures.value c.in-Some.ensures c.index_mut.ensures.value refl refl),
      changed_waits c.self.inside.rows.items c.self.inside.waiting.items _ _ _ c.self.invariant.1 c.deref.result.now c.wait_anew.new.waiting.items _ c.self.inside.front (c.self.inside.spare - 1) c.args.job c.in-Some.i
          (record c.index_mut.result.now { last = Some c.args.moment }) c.index.result.now c.deref.ensures.value c.in-Some.ensures c.index.ensures (ap (λ (r : Row). r.start) (sym same))
          c.wait_anew.ensures.rise c.wait_anew.ensures.apart
          (λ q. c.wait_anew.ensures.value q ∙ ap (λ (r : Row). cond (nat_eq q c.index.result.now.start) (waits_of (erased_row c.args.moment r)) (owner_among c.self.inside.waiting.items q)) same)
          (omega (arith, c.wait_anew.ensures.len, spare, c.requires)) c.wait_anew.ensures.capacity c.self.invariant.1.within
          (still_purged c.self.inside.rows.items c.self.inside.waiting.items _ _ _ c.self.invariant.1 c.in-Some.i (record c.index_mut.result.now { last = Some c.args.moment }) c.index.result.now c.index.ensures
          (λ h. ap (λ (r : Row). r.purged) (sym same) ∙ h)),
    )

pub wait_anew-requires-clause-found : goal.wait_anew-requires-clause-found
wait_anew-requires-clause-found c =
    waits_at c.self.inside.rows.items c.self.inside.waiting.items _ _ _ c.self.invariant.1 c.deref.result.now c.args.job c.in-Some.i c.index.result.now c.deref.ensures.value c.in-Some.ensures c.index.ensures

pub wait_anew-requires-clause-room : goal.wait_anew-requires-clause-room
wait_anew-requires-clause-room c =
    let spare : c.self.inside.spare ≡ c.args.self.now.spare = ap (λ (m : JobPart). m.spare) c.self.view_is in
    omega (arith, c.self.invariant.1.room, spare, c.requires)

pub returns-in-Some-clause-list : goal.returns-in-Some-clause-list
returns-in-Some-clause-list c =
    change_some c.self.inside.rows.items c.deref.result.now c.args.self.now _ c.args.job c.in-Some.i c.index_mut.result.now
    (record c.index_mut.result.now { last = Some c.args.moment }) (erased_at c.args.job c.args.moment)
    c.deref.ensures.value c.self.view_is c.in-Some.ensures c.index_mut.ensures.value
    (λ h. sym (ap (λ (b : Bool). cond b (record (row_of c.index_mut.result.now) { last = Some c.args.moment }) (row_of c.index_mut.result.now)) h))

pub returns-in-None-clause-list : goal.returns-in-None-clause-list
returns-in-None-clause-list c =
    change_none c.self.inside.rows.items c.deref.result.now c.args.self.now _ c.args.job (erased_at c.args.job c.args.moment) c.deref.ensures.value c.self.view_is c.in-None.ensures
