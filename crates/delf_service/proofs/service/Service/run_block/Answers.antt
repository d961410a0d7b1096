use Rattle.std.proofs.Common.{Some, length, refl}
use Rattle.seat_lock.specs.Locks.{start_of}
use Rattle.delf_service.specs.Standings.{standing_in, standing_of}
use Rattle.delf_service.proofs.Blocks.{has_behind, block_behind, told_behind, still_none, moved_behind, moved_rests}
use Rattle.delf_service.proofs.service.Service.run_block.Goals as goal

pub returns-then-not-fed-clause-kept : goal.returns-then-not-fed-clause-kept
returns-then-not-fed-clause-kept g c =
    let first = standing_of g.R.Disk (start_of c.args.self.lock).book (start_of c.args.self.lock).moment in
    let last = standing_of g.R.Disk c.run_and_close-book.result.0 (Some c.args.now) in
    let final = standing_of g.R.Disk c.finish-finished.new.self.book (Some c.args.now) in
    let end = c.finish-finished.new.self in
    let behind = c.finish-finished.ensures.behind in
    let none = still_none last (standing_in g.R.Disk end.book end.moment end.lanes) refl behind in
    has_behind first last final (moved_behind (λ m k. standing_in g.R.Disk end.book m k) end.moment (Some c.args.now) end.lanes c.finish-finished.ensures.moment none last behind)
    (length c.args.lanes.now) c.run_and_close-book.ensures.has

pub returns-in-Ok-clause-kept : goal.returns-in-Ok-clause-kept
returns-in-Ok-clause-kept g c =
    let first = standing_of g.R.Disk (start_of c.args.self.lock).book (start_of c.args.self.lock).moment in
    let last = standing_of g.R.Disk c.run_and_close-book.result.0 (Some c.args.now) in
    let final = standing_of g.R.Disk c.finish-finished.new.self.book (Some c.args.now) in
    let end = c.finish-finished.new.self in
    let behind = c.finish-finished.ensures.behind in
    let none = still_none last (standing_in g.R.Disk end.book end.moment end.lanes) refl behind in
    has_behind first last final (moved_behind (λ m k. standing_in g.R.Disk end.book m k) end.moment (Some c.args.now) end.lanes c.finish-finished.ensures.moment none last behind)
    (length c.args.lanes.now) c.run_and_close-book.ensures.has

pub returns-in-Err-clause-kept : goal.returns-in-Err-clause-kept
returns-in-Err-clause-kept g c =
    let first = standing_of g.R.Disk (start_of c.args.self.lock).book (start_of c.args.self.lock).moment in
    let last = standing_of g.R.Disk c.run_and_close-book.result.0 (Some c.args.now) in
    let final = standing_of g.R.Disk c.finish-finished.new.self.book (Some c.args.now) in
    let end = c.finish-finished.new.self in
    let behind = c.finish-finished.ensures.behind in
    let none = still_none last (standing_in g.R.Disk end.book end.moment end.lanes) refl behind in
    has_behind first last final (moved_behind (λ m k. standing_in g.R.Disk end.book m k) end.moment (Some c.args.now) end.lanes c.finish-finished.ensures.moment none last behind)
    (length c.args.lanes.now) c.run_and_close-book.ensures.has

pub returns-in-Ok-clause-block : goal.returns-in-Ok-clause-block
returns-in-Ok-clause-block g c =
    let first = standing_of g.R.Disk (start_of c.args.self.lock).book (start_of c.args.self.lock).moment in
    let last = standing_of g.R.Disk c.run_and_close-book.result.0 (Some c.args.now) in
    let final = standing_of g.R.Disk c.finish-finished.new.self.book (Some c.args.now) in
    let end = c.finish-finished.new.self in
    let behind = c.finish-finished.ensures.behind in
    let none = still_none last (standing_in g.R.Disk end.book end.moment end.lanes) refl behind in
    block_behind first last final (moved_behind (λ m k. standing_in g.R.Disk end.book m k) end.moment (Some c.args.now) end.lanes c.finish-finished.ensures.moment none last behind)
    c.args.now c.args.lanes.now c.run_and_close-book.result.2.items c.run_and_close-book.result.1 c.run_and_close-book.ensures c.if-not-fed.false
    (moved_rests (λ m k. standing_in g.R.Disk end.book m k) end.moment (Some c.args.now) end.lanes c.finish-finished.ensures.moment none c.args.now c.in-Ok.ensures.rests)

pub returns-then-not-fed-clause-told : goal.returns-then-not-fed-clause-told
returns-then-not-fed-clause-told g c =
    let first = standing_of g.R.Disk (start_of c.args.self.lock).book (start_of c.args.self.lock).moment in
    let last = standing_of g.R.Disk c.run_and_close-book.result.0 (Some c.args.now) in
    let final = standing_of g.R.Disk c.finish-finished.new.self.book (Some c.args.now) in
    let end = c.finish-finished.new.self in
    let behind = c.finish-finished.ensures.behind in
    let none = still_none last (standing_in g.R.Disk end.book end.moment end.lanes) refl behind in
    let outs = c.run_and_close-book.result.2.items in (
      outs,
      told_behind first last final (moved_behind (λ m k. standing_in g.R.Disk end.book m k) end.moment (Some c.args.now) end.lanes c.finish-finished.ensures.moment none last behind)
          c.args.now c.args.lanes.now outs c.run_and_close-book.ensures.told,
    )

pub returns-in-Ok-clause-told : goal.returns-in-Ok-clause-told
returns-in-Ok-clause-told g c =
    let first = standing_of g.R.Disk (start_of c.args.self.lock).book (start_of c.args.self.lock).moment in
    let last = standing_of g.R.Disk c.run_and_close-book.result.0 (Some c.args.now) in
    let final = standing_of g.R.Disk c.finish-finished.new.self.book (Some c.args.now) in
    let end = c.finish-finished.new.self in
    let behind = c.finish-finished.ensures.behind in
    let none = still_none last (standing_in g.R.Disk end.book end.moment end.lanes) refl behind in
    let outs = c.run_and_close-book.result.2.items in (
      outs,
      told_behind first last final (moved_behind (λ m k. standing_in g.R.Disk end.book m k) end.moment (Some c.args.now) end.lanes c.finish-finished.ensures.moment none last behind)
          c.args.now c.args.lanes.now outs c.run_and_close-book.ensures.told,
    )

pub returns-in-Err-clause-told : goal.returns-in-Err-clause-told
returns-in-Err-clause-told g c =
    let first = standing_of g.R.Disk (start_of c.args.self.lock).book (start_of c.args.self.lock).moment in
    let last = standing_of g.R.Disk c.run_and_close-book.result.0 (Some c.args.now) in
    let final = standing_of g.R.Disk c.finish-finished.new.self.book (Some c.args.now) in
    let end = c.finish-finished.new.self in
    let behind = c.finish-finished.ensures.behind in
    let none = still_none last (standing_in g.R.Disk end.book end.moment end.lanes) refl behind in
    let outs = c.run_and_close-book.result.2.items in (
      outs,
      told_behind first last final (moved_behind (λ m k. standing_in g.R.Disk end.book m k) end.moment (Some c.args.now) end.lanes c.finish-finished.ensures.moment none last behind)
          c.args.now c.args.lanes.now outs c.run_and_close-book.ensures.told,
    )
