use Rattle.std.proofs.Common.{refl, ap, ◌∙◌}
use Rattle.delf_service.specs.FollowLaws.{Follows-itself, Follows-chain}
use Rattle.delf_service.specs.Standings.{standing_in}
use Rattle.delf_service.proofs.Blocks.{is_moment}
use Rattle.delf_service.proofs.Claimed.{idle_rests, ends_rests}
use Rattle.delf_service.proofs.Turns.{is_behind, steps_follow, steps_all}
use Rattle.delf_service.proofs.held.Held.finish.Goals as goal

pub loop-turned-init : goal.loop-turned-init
loop-turned-init g c = record {
  moment = refl;
  later = Follows-itself (standing_in g.R.Disk c.args.self.now.book c.args.self.now.moment c.args.self.now.lanes);
  only = λ n. refl;
}

pub loop-turned-preserved : goal.loop-turned-preserved
loop-turned-preserved g c =
    let first = standing_in g.R.Disk c.args.self.now.book c.args.self.now.moment c.args.self.now.lanes in
    let x = standing_in g.R.Disk c.loop-turned.self.book c.loop-turned.self.moment c.loop-turned.self.lanes in
    let y = standing_in g.R.Disk c.work-outcome.new.self.book c.work-outcome.new.self.moment c.work-outcome.new.self.lanes in
    let was = c.loop-turned.invariant in
    let steps = c.work-outcome.ensures.turns.steps in
    let follows = steps_follow x y c.args.now (is_moment x.key c.args.now (was.moment ∙ c.requires.moment)) c.work-outcome.result steps in
    record {
      moment = ap (λ k. k.moment) follows.key ∙ was.moment;
      later = Follows-chain y x first follows was.later;
      only = λ n. steps_all x y c.args.now c.work-outcome.result steps n ∙ was.only n;
    }

pub returns-in-Idle-clause-rests : goal.returns-in-Idle-clause-rests
returns-in-Idle-clause-rests g c =
    idle_rests (standing_in g.R.Disk c.loop-turned.self.book c.loop-turned.self.moment c.loop-turned.self.lanes) (standing_in g.R.Disk c.work-outcome.new.self.book c.work-outcome.new.self.moment c.work-outcome.new.self.lanes)
    c.args.now c.in-Idle.len c.work-outcome.result c.in-Ok.turned c.in-Ok.is c.in-Idle.is c.work-outcome.ensures.turns

pub returns-in-Err-clause-rests : goal.returns-in-Err-clause-rests
returns-in-Err-clause-rests g c =
    ends_rests (standing_in g.R.Disk c.loop-turned.self.book c.loop-turned.self.moment c.loop-turned.self.lanes) (standing_in g.R.Disk c.work-outcome.new.self.book c.work-outcome.new.self.moment c.work-outcome.new.self.lanes)
    c.args.now c.work-outcome.result c.in-Err.fault c.last.result c.in-Err.is c.last.ensures c.work-outcome.ensures.turns c.work-outcome.ensures.first

pub returns-in-Err-clause-behind : goal.returns-in-Err-clause-behind
returns-in-Err-clause-behind g c =
    is_behind (standing_in g.R.Disk c.args.self.now.book c.args.self.now.moment c.args.self.now.lanes) (standing_in g.R.Disk c.loop-turned.self.book c.loop-turned.self.moment c.loop-turned.self.lanes)
    (standing_in g.R.Disk c.work-outcome.new.self.book c.work-outcome.new.self.moment c.work-outcome.new.self.lanes) c.args.now c.work-outcome.result c.loop-turned.invariant.later c.loop-turned.invariant.only
    (is_moment (standing_in g.R.Disk c.loop-turned.self.book c.loop-turned.self.moment c.loop-turned.self.lanes).key c.args.now (c.loop-turned.invariant.moment ∙ c.requires.moment)) c.work-outcome.ensures.turns c.len-len.ensures.legal c.standing.ensures.fell
