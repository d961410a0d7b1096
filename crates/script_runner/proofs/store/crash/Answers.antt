use Rattle.std.proofs.Common.{sym, ◌∙◌}
use Rattle.script_runner.proofs.Calls.{if_ok, ok_is, if_err, err_is}
use Rattle.script_runner.proofs.Crashes.{starved_crash, crash_opened, crash_stops}
use Rattle.script_runner.proofs.Moves.{plain_then, plain_as}
use Rattle.script_runner.proofs.store.crash.Goals as goal

pub returns-in_default-clause-stops : goal.returns-in_default-clause-stops
returns-in_default-clause-stops g c = λ plain e stands.
    starved_crash g.R.Disk.may_leave c.args.pick c.args.store.book c.into_disk-rig.result c.args.store.clock e c.len-len.ensures.legal c.into_disk-rig.ensures stands

pub returns-clause-serves : goal.returns-clause-serves
returns-clause-serves g c = if_ok _ c.open.result (λ next is plain e stands.
    let rig = c.into_disk-rig.result in
    let cut = c.cut_power.new.self in
    let here = plain_as (g.R.Disk.told) (g.R.Disk.honest) c.args.store.book.rig rig (sym c.into_disk-rig.ensures) plain in
    let there = plain_then (g.R.Disk.told rig) (g.R.Disk.honest rig) (g.R.Disk.told cut) (g.R.Disk.honest cut) c.cut_power.ensures.telling.tells c.cut_power.ensures.telling.keeps_word here in
    crash_opened g.R.Disk.seen g.R.Disk.may_leave g.R.Disk.faults c.args.schema.now c.args.pick c.args.store.book next.book rig cut
    c.in-Ok.rules c.args.store.clock next.clock e c.into_disk-rig.ensures (c.in-Ok.ensures.value ∙ sym c.requires.rules) (ok_is _ c.open.result next is c.open.ensures.clock)
    c.len-len.ensures.legal (ok_is _ c.open.result next is c.open.ensures.legal) (ok_is _ c.open.result next is c.open.ensures.rules) (ok_is _ c.open.result next is c.open.ensures.up)
    (ok_is _ c.open.result next is c.open.ensures.beside) (ok_is _ c.open.result next is c.open.ensures.ok_count) c.cut_power.ensures.count
    (c.cut_power.ensures.one here) (ok_is _ c.open.result next is c.open.ensures.opened there) stands)

pub returns-clause-stops : goal.returns-clause-stops
returns-clause-stops g c = if_err _ c.open.result (λ it is plain e.
    let rig = c.into_disk-rig.result in
    let cut = c.cut_power.new.self in
    let here = plain_as (g.R.Disk.told) (g.R.Disk.honest) c.args.store.book.rig rig (sym c.into_disk-rig.ensures) plain in
    let there = plain_then (g.R.Disk.told rig) (g.R.Disk.honest rig) (g.R.Disk.told cut) (g.R.Disk.honest cut) c.cut_power.ensures.telling.tells c.cut_power.ensures.telling.keeps_word here in
    crash_stops g.R.Disk.seen g.R.Disk.may_leave c.args.pick c.args.store.book rig cut it.1 it.0 c.in-Ok.rules c.args.store.clock e
    c.into_disk-rig.ensures (c.in-Ok.ensures.value ∙ sym c.requires.rules) c.len-len.ensures.legal
    (c.cut_power.ensures.one here) (c.cut_power.ensures.images here).follows (err_is _ c.open.result it is c.open.ensures.never there)
    (err_is _ c.open.result it is c.open.ensures.held there))
