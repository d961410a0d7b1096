use Rattle.std.proofs.Common.{sym, subst}
use Rattle.delf_disk.specs.declared.area.Area.{Area}
use Rattle.delf_disk.specs.Areas.{Areas}
use Rattle.delf_disk.specs.Images.{Only}
use Rattle.delf_disk.proofs.Flags.{was_plain}
use Rattle.gate_log.specs.Logs.{StandIn}
use Rattle.lane_tests.proofs.histories.read_history.Goals as goal

pub read_entries-requires : goal.read_entries-requires
read_entries-requires g c = λ plain.
    let there = was_plain c.start.ensures.kind plain in
    let first = was_plain c.sync.ensures.kind there in
    let only = subst (λ (x : Areas). Only x (g.D.Disk.may_leave c.sync.new.self)) (sym (c.sync.ensures.seen first)) (c.in_ok-sync.ensures.stable first) in
    subst (λ (a : Area). StandIn a c.in_ok-log.log.sizes (g.D.Disk.may_leave c.start.new.disk)) (sym c.in_ok-log.ensures.area) (c.in_ok-log.ensures.stands there only)
