use Rattle.std.proofs.Common.{ℕ, inl, inr, sym, ap, subst}
use Rattle.delf_disk.specs.Causes.{Rose}
use Rattle.delf_book.proofs.Owned.{still_as}
use Rattle.script_runner.proofs.Endings.{put_ended, down_ended}
use Rattle.script_runner.proofs.LoadSteps.{loaded_end, was_down_end, fell_load}
use Rattle.script_runner.proofs.loading.finish_load.Goals.{in-Ok, in-Err-Down, in-Err-DiskFault}
use Rattle.script_runner.proofs.loading.finish_load.Goals as goal

pub returns-clause-text : goal.returns-clause-text
returns-clause-text g c = λ told plain e stands.
    let old = c.args.store.book in
    let clock = c.args.store.clock in
    elim c.match-settle.branch [
      | in-Ok w ↦ rw w.status-is (rw w.sink-is (
          let at = w.in-Ok in
          loaded_end g.R.Disk.may_leave g.R.Disk.faults c.args.n old c.settle.new.self c.into_disk.result clock e _ _ w.put_loaded-status.result c.into_disk.ensures
          at.ensures.answer.1 c.len-len.ensures.legal at.ensures.answer.0 at.ensures.cause (at.ensures.settled plain)
          (still_as g.R.Disk.seen g.R.Disk.moment g.R.Disk.may_leave g.R.Disk.left_since old c.settle.new.self e
          (record { legal = c.len-len.ensures.legal; image = g.met.R.Disk.reads_as_image old.rig plain; holds = c.standing.ensures.holds plain }) at.ensures.answer.0 (stands.rests at.ensures.answer.0) (at.ensures.crash plain at.ensures.answer.0)) stands (w.put_loaded-status.ensures.text told)))
      | in-Err-Down w ↦ rw w.status-is (rw w.sink-is (
          let at = w.in-Err-Down in
          let answer = rw at.field-0-is at at.ensures.answer in
          was_down_end g.R.Disk.may_leave g.R.Disk.faults c.args.n old c.settle.new.self c.into_disk.result clock at.len e _ _ _ w.put_down-status.result c.into_disk.ensures answer stands
          (w.put_down-status.ensures.text told) w.put_down-status.ensures.cause))
      | in-Err-DiskFault w ↦ rw w.status-is (rw w.sink-is (
          let at = w.in-Err-DiskFault in
          let answer = rw at.field-0-is at at.ensures.answer in
          let cause = rw at.field-0-is at at.ensures.cause in
          fell_load g.R.Disk.may_leave g.R.Disk.faults c.args.n old c.settle.new.self.rig c.into_disk.result clock at.len e _ _ _ w.put_down-status-in-Err-DiskFault.result c.into_disk.ensures
          c.len-len.ensures.legal answer.0 cause.0 cause.1 answer.2 (still_as g.R.Disk.seen g.R.Disk.moment g.R.Disk.may_leave g.R.Disk.left_since old c.settle.new.self e
          (record { legal = c.len-len.ensures.legal; image = g.met.R.Disk.reads_as_image old.rig plain; holds = c.standing.ensures.holds plain }) answer.0 (stands.rests answer.0) (at.ensures.crash plain answer.0)) stands
          (w.put_down-status-in-Err-DiskFault.ensures.text told) w.put_down-status-in-Err-DiskFault.ensures.cause))
    ]

pub returns-clause-cause : goal.returns-clause-cause
returns-clause-cause g c =
    let before = g.R.Disk.faults c.args.store.book.rig in
    elim c.match-settle.branch [
      | in-Ok w ↦ rw w.status-is (rw w.sink-is (put_ended 0 _ _ w.put_loaded-status.result w.put_loaded-status.ensures.cause))
      | in-Err-Down w ↦ rw w.status-is (rw w.sink-is (
          let at = w.in-Err-Down in
          let answer = rw at.field-0-is at at.ensures.answer in
          down_ended at.len 0 _ _ w.put_down-status.result (inl answer.0) w.put_down-status.ensures.cause))
      | in-Err-DiskFault w ↦ rw w.status-is (rw w.sink-is (
          let at = w.in-Err-DiskFault in
          let cause = rw at.field-0-is at at.ensures.cause in
          let rose : Rose before (g.R.Disk.faults c.into_disk.result) =
          subst (λ (k : ℕ). Rose before k) (sym (ap g.R.Disk.faults c.into_disk.ensures)) cause.1 in
          down_ended at.len 0 _ _ w.put_down-status-in-Err-DiskFault.result (inr rose) w.put_down-status-in-Err-DiskFault.ensures.cause))
    ]
