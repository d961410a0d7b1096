use Rattle.std.proofs.Common.{refl, inl}
use Rattle.script_runner.specs.Worlds.{world_of}
use Rattle.delf_book.proofs.Owned.{still_as}
use Rattle.script_runner.proofs.Endings.{settled_end, down_end, fell_end, fell_text}
use Rattle.script_runner.proofs.program.finish.Goals.{in-Ok, in-Err-Down, in-Err-DiskFault}
use Rattle.script_runner.proofs.program.finish.Goals as goal

pub returns-clause-text : goal.returns-clause-text
returns-clause-text g c = λ told plain e stands.
    let old = c.args.store.book in
    let clock = c.args.store.clock in
    elim c.match-settle.branch [
      | in-Ok w ↦ rw w.status-is (rw w.sink-is (
          let at = w.in-Ok in (
            settled_end g.R.Disk.may_leave g.R.Disk.faults old c.settle.new.self.rig c.into_disk.result clock e c.into_disk.ensures
                at.ensures.answer.0 at.ensures.cause (at.ensures.settled plain) (still_as g.R.Disk.seen g.R.Disk.moment g.R.Disk.may_leave g.R.Disk.left_since old c.settle.new.self e
                (record { legal = c.len-len.ensures.legal; image = g.met.R.Disk.reads_as_image old.rig plain; holds = c.standing.ensures.holds plain }) at.ensures.answer.0 (stands.rests at.ensures.answer.0) (at.ensures.crash plain at.ensures.answer.0)),
            refl,
          )))
      | in-Err-Down w ↦ rw w.status-is (rw w.sink-is (
          let at = w.in-Err-Down in
          let answer = rw at.field-0-is at at.ensures.answer in
          inl (down_end g.R.Disk.may_leave g.R.Disk.faults old c.settle.new.self c.into_disk.result clock at.len e c.into_disk.ensures answer stands, answer.1, refl)))
      | in-Err-DiskFault w ↦ rw w.status-is (rw w.sink-is (
          let at = w.in-Err-DiskFault in
          let answer = rw at.field-0-is at at.ensures.answer in
          let cause = rw at.field-0-is at at.ensures.cause in
          fell_text (world_of old clock e) at.len c.args.done _ _ _ _ _ _ w.put_down-status.result answer.2
          (fell_end g.R.Disk.may_leave g.R.Disk.faults old c.settle.new.self.rig c.into_disk.result clock e c.into_disk.ensures c.len-len.ensures.legal answer.0 cause.0 cause.1
          (still_as g.R.Disk.seen g.R.Disk.moment g.R.Disk.may_leave g.R.Disk.left_since old c.settle.new.self e
          (record { legal = c.len-len.ensures.legal; image = g.met.R.Disk.reads_as_image old.rig plain; holds = c.standing.ensures.holds plain }) answer.0 (stands.rests answer.0) (at.ensures.crash plain answer.0)) stands)
          (w.put_down-status.ensures.text told) w.put_down-status.ensures.cause))
    ]
