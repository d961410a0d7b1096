use Rattle.std.proofs.Common.{List, [], ◌∷◌, length, refl, sym, ap, ◌∙◌, subst, arith, length-append}
use Rattle.std.proofs.lemmas.Option.{slice_get_read}
use Rattle.seat_lock.specs.Locks.{view}
use Rattle.delf_service.specs.declared.replies.LaneReply.{LaneReply}
use Rattle.delf_service.specs.FollowLaws.{Follows-itself, Follows-chain}
use Rattle.delf_service.specs.Lanes.{LaneTold}
use Rattle.delf_service.proofs.Lanes.{told_none, told_next, told_stops, ended_by, fed_more, fed_none, later_command, not_starved}
use Rattle.delf_service.proofs.Seeing.{keeps_itself, keeps_chain}
use Rattle.delf_service.proofs.Workers.{more_made}
use Rattle.delf_service.proofs.service.Service.run_lane.Goals as goal

pub loop-command-init : goal.loop-command-init
loop-command-init g c =
    let v = view c.args.seat.now in
    record {
      ours = c.requires.ours;
      same = (refl, refl, refl);
      later = Follows-itself v.seen.state;
      count = ap (λ (l : List LaneReply). length l) c.requires.first.1;
      room = refl;
      keeps = keeps_itself v;
      turns = (0, refl);
      fed = fed_none c.args.replies.now.items c.requires.first.1;
      told = subst (λ (l : List LaneReply). LaneTold v.remembers v.seen.state c.args.now v.number v.made c.args.commands.now l) (sym c.requires.first.1)
          (told_none c.args.now v.number c.args.commands.now v.remembers v.seen.state v.made c.requires.first.0);
    }

pub make-requires-clause-numbers : goal.make-requires-clause-numbers
make-requires-clause-numbers g c =
    let at = c.loop-command in
    let there = slice_get_read c.args.commands.now (length c.args.commands.now) at.command-index c.command-item.result refl c.loop-command-test.true c.command-item.is in
    later_command (view at.seat).seen.state (view c.args.seat.now).seen.state c.command-item.result at.invariant.later (c.requires.numbers at.command-index c.command-item.result there)

pub returns-in_default-clause-later : goal.returns-in_default-clause-later
returns-in_default-clause-later g c =
    Follows-chain (view c.make.new.seat).seen.state (view c.loop-command.seat).seen.state (view c.args.seat.now).seen.state c.in_default.ensures.stopped.later c.loop-command.invariant.later

pub returns-in_default-clause-told : goal.returns-in_default-clause-told
returns-in_default-clause-told g c =
    let v = view c.loop-command.seat in
    let w = view c.make.new.seat in
    let stopped = c.in_default.ensures.stopped in
    told_stops c.args.now (view c.args.seat.now).number c.args.commands.now v w c.loop-command.replies.items c.loop-command.invariant.told stopped.later stopped.keeps stopped.made_is

pub returns-in_default-clause-keeps : goal.returns-in_default-clause-keeps
returns-in_default-clause-keeps g c = keeps_chain (view c.args.seat.now) (view c.loop-command.seat) (view c.make.new.seat) c.loop-command.invariant.keeps c.in_default.ensures.stopped.keeps

pub returns-in_default-clause-turns : goal.returns-in_default-clause-turns
returns-in_default-clause-turns g c =
    more_made (view c.args.seat.now).seen.state (view c.loop-command.seat).seen.state (view c.make.new.seat).seen.state c.loop-command.invariant.turns c.in_default.ensures.stopped.leaves

pub returns-then-ends-clause-keeps : goal.returns-then-ends-clause-keeps
returns-then-ends-clause-keeps g c = keeps_chain (view c.args.seat.now) (view c.loop-command.seat) (view c.make.new.seat) c.loop-command.invariant.keeps c.in-Some.ensures.made.keeps

pub returns-then-ends-clause-turns : goal.returns-then-ends-clause-turns
returns-then-ends-clause-turns g c =
    more_made (view c.args.seat.now).seen.state (view c.loop-command.seat).seen.state (view c.make.new.seat).seen.state c.loop-command.invariant.turns c.in-Some.ensures.made.leaves

pub returns-then-ends-clause-later : goal.returns-then-ends-clause-later
returns-then-ends-clause-later g c =
    Follows-chain (view c.make.new.seat).seen.state (view c.loop-command.seat).seen.state (view c.args.seat.now).seen.state c.in-Some.ensures.made.later c.loop-command.invariant.later

pub returns-then-ends-clause-told : goal.returns-then-ends-clause-told
returns-then-ends-clause-told g c =
    let at = c.loop-command in
    let v = view at.seat in
    let w = view c.make.new.seat in
    let there = slice_get_read c.args.commands.now (length c.args.commands.now) at.command-index c.command-item.result refl c.loop-command-test.true c.command-item.is in
    told_next c.args.now (view c.args.seat.now).number at.command-index c.args.commands.now v w at.replies.items c.push_reserved.new.self.items c.command-item.result c.in-Some.reply
    at.invariant.told at.invariant.fed at.invariant.count there at.invariant.same.0 c.in-Some.ensures.made c.push_reserved.ensures.items

pub returns-then-ends-clause-end : goal.returns-then-ends-clause-end
returns-then-ends-clause-end g c = λ ended.
    ended_by c.args.commands.now c.loop-command.replies.items c.push_reserved.new.self.items c.in-Some.reply c.push_reserved.ensures.items (c.is_starved-ends.ensures.0 c.if-ends.true)

pub loop-command-preserved : goal.loop-command-preserved
loop-command-preserved g c =
    let at = c.loop-command in
    let v = view at.seat in
    let w = view c.make.new.seat in
    let there = slice_get_read c.args.commands.now (length c.args.commands.now) at.command-index c.command-item.result refl c.loop-command-test.true c.command-item.is in
    let same = c.make.ensures.same in
    let was = at.invariant.same in
    let long = ap (λ (l : List LaneReply). length l) c.push_reserved.ensures.items in
    let one = length-append at.replies.items (c.in-Some.reply ∷ []) in
    let count = at.invariant.count in
    record {
      ours = c.make.ensures.ours;
      same = (same.0 ∙ was.0, same.1 ∙ was.1, same.2 ∙ was.2);
      later = Follows-chain w.seen.state v.seen.state (view c.args.seat.now).seen.state c.in-Some.ensures.made.later at.invariant.later;
      count = omega (arith, long, one, count);
      room = c.push_reserved.ensures.capacity ∙ at.invariant.room;
      keeps = keeps_chain (view c.args.seat.now) v w at.invariant.keeps c.in-Some.ensures.made.keeps;
      turns = more_made (view c.args.seat.now).seen.state v.seen.state w.seen.state at.invariant.turns c.in-Some.ensures.made.leaves;
      fed = fed_more at.replies.items c.push_reserved.new.self.items c.in-Some.reply at.invariant.fed c.push_reserved.ensures.items (not_starved c.is_starved-ends.result _ c.is_starved-ends.ensures c.if-ends.false);
      told = told_next c.args.now (view c.args.seat.now).number at.command-index c.args.commands.now v w at.replies.items c.push_reserved.new.self.items c.command-item.result c.in-Some.reply
          at.invariant.told at.invariant.fed at.invariant.count there at.invariant.same.0 c.in-Some.ensures.made c.push_reserved.ensures.items;
    }
