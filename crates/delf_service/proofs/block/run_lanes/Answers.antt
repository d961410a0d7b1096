use Rattle.std.proofs.Common.{Some, length, sym, subst}
use Rattle.delf_service.specs.Blocks.{AreToldLanes, HasLanes}
use Rattle.delf_service.specs.Standings.{standing_of}
use Rattle.delf_service.proofs.Blocks.{has_none, told_silent}
use Rattle.delf_service.proofs.block.run_lanes.Goals as goal

pub returns-in_default-clause-kept : goal.returns-in_default-clause-kept
returns-in_default-clause-kept g c =
    let first = standing_of g.R.Disk c.args.book (Some c.args.now) in
    subst (λ b. HasLanes first (standing_of g.R.Disk b (Some c.args.now)) (length c.args.lanes.now)) (sym c.unclaimed.ensures)
    (has_none first (length c.args.lanes.now) c.len-len.ensures.legal c.standing.ensures.fell)

pub returns-in_default-clause-told : goal.returns-in_default-clause-told
returns-in_default-clause-told g c =
    let first = standing_of g.R.Disk c.args.book (Some c.args.now) in
    subst (λ b. AreToldLanes first (standing_of g.R.Disk b (Some c.args.now)) c.args.now c.args.lanes.now) (sym c.unclaimed.ensures) (told_silent first c.args.now c.args.lanes.now)

pub returns-in-Err-clause-kept : goal.returns-in-Err-clause-kept
returns-in-Err-clause-kept g c =
    let first = standing_of g.R.Disk c.args.book (Some c.args.now) in
    subst (λ b. HasLanes first (standing_of g.R.Disk b (Some c.args.now)) (length c.args.lanes.now)) (sym c.unclaimed-in-Err.ensures)
    (subst (λ b. HasLanes first (standing_of g.R.Disk b (Some c.args.now)) (length c.args.lanes.now)) (sym c.in-Err.ensures.err)
    (has_none first (length c.args.lanes.now) c.len-len.ensures.legal c.standing.ensures.fell))

pub returns-in-Err-clause-told : goal.returns-in-Err-clause-told
returns-in-Err-clause-told g c =
    let first = standing_of g.R.Disk c.args.book (Some c.args.now) in
    subst (λ b. AreToldLanes first (standing_of g.R.Disk b (Some c.args.now)) c.args.now c.args.lanes.now) (sym c.unclaimed-in-Err.ensures)
    (subst (λ b. AreToldLanes first (standing_of g.R.Disk b (Some c.args.now)) c.args.now c.args.lanes.now) (sym c.in-Err.ensures.err) (told_silent first c.args.now c.args.lanes.now))
