-- What every legal history keeps, and what follows at each of its positions.
use Rattle.std.proofs.Common.{◌≡◌, ℕ, ◌≤◌, true, List, [], ◌∷◌, ◌++◌, take, ap, ◌∙◌, arith}
use Rattle.delf_model.specs.declared.entry.Entry.{Entry}
use Rattle.delf_model.specs.RuleSet.{RuleSet}
use Rattle.delf_model.specs.State.{State, start, owner}
use Rattle.delf_model.specs.Step.{step, after}
use Rattle.delf_model.specs.Store.{EndsStand}
use Rattle.delf_model.specs.Legal.{is_legal, Legal}
use Rattle.delf_model.specs.Room.{room, room_limit, greatest_moment}
use Rattle.delf_model.specs.Sound.{LeavesByOwner, ObjectsLeave, EdgesLeave, KeepsRoom, RaisesNot}
use Rattle.delf_model.proofs.Runs.{each_step, good_run, good_take, after_push}
use Rattle.delf_model.proofs.Lines.{allowed_of, moment_within}
use Rattle.delf_model.proofs.Leaves.{objects_leave}
use Rattle.delf_model.proofs.Edges.{edges_leave}
use Rattle.delf_model.proofs.Owners.{OwnedStand, owned_stand_step}
use Rattle.delf_model.proofs.Plain.{plain_owner, owner_plain}
use Rattle.delf_model.proofs.Ends.{ends_step}
use Rattle.delf_model.proofs.Jobs.{JobsBelow, below_step, Idle, idle_step}
use Rattle.delf_model.proofs.Room.{no_rise, within_step}
use Rattle.delf_model.proofs.Places.{Fresh, fresh_step, OnePlace, one_place_step, HandledRestored, handled_step, Once, once_step}

-- what each legal step keeps
pub record Good (s : State) : Type 0 where
  pub within : room s ≤ room_limit
  pub moment : s.moment ≤ greatest_moment
  pub jobs_below : JobsBelow s
  pub idle : Idle s
  pub owned_stand : OwnedStand s
  pub ends : EndsStand s.graph
  pub fresh : Fresh s
  pub one_place : OnePlace s
  pub handled : HandledRestored s
  pub once : Once s

pub good_start : (rules : RuleSet) → Good (start rules)
good_start rules = record {
  within = omega arith;
  moment = omega arith;
  jobs_below = λ job some. absurd (cc some);
  idle = λ job id restored own. absurd (cc own);
  owned_stand = λ id job own. absurd (cc own);
  ends = record { source = λ key stood. absurd (cc stood); target = λ key stood. absurd (cc stood) };
  fresh = λ birth later. omega arith;
  one_place = λ birth. omega arith;
  handled = tt;
  once = λ job id birth. omega arith;
}

pub good_step : (s : State) (e : Entry) → Good s → is_legal s e ≡ true → Good (step s e)
good_step s e good legal = record {
  within = within_step s e.moment e.what legal good.owned_stand good.ends good.idle good.within;
  moment = moment_within s e legal;
  jobs_below = below_step s e good.jobs_below;
  idle = idle_step s e legal good.jobs_below good.idle;
  owned_stand = owned_stand_step s e;
  ends = ends_step s e.moment e.what (allowed_of s e legal) good.ends;
  fresh = fresh_step s e legal good.fresh;
  one_place = one_place_step s e legal good.fresh good.one_place;
  handled = handled_step s e.moment e.what (allowed_of s e legal) good.handled;
  once = once_step s e.moment e.what (allowed_of s e legal) good.idle good.handled good.one_place good.once;
}

-- the state after a legal history is good, and so is that after each part of it
pub good_after : (rules : RuleSet) (h : List Entry) → Legal rules h → Good (after rules h)
good_after rules h legal = good_run Good good_step (start rules) h (good_start rules) legal

pub good_at : (rules : RuleSet) (h : List Entry) (p : ℕ) → Legal rules h → Good (after rules (take p h))
good_at rules h p legal = good_take Good good_step (start rules) h p (good_start rules) legal

-- the owner of an id after a history with one legal entry more
pub owners_push : (rules : RuleSet) (h : List Entry) (e : Entry) (id : ℕ) → Legal rules h → is_legal (after rules h) e ≡ true →
    owner (after rules (h ++ e ∷ [])) id ≡ plain_owner (after rules h) e.what id
owners_push rules h e id legal next =
    ap (λ (s : State). owner s id) (after_push rules h e) ∙
    owner_plain (after rules h) e.moment e.what next (good_after rules h legal).owned_stand (good_after rules h legal).ends id

pub leaves_by_owner : (rules : RuleSet) (h : List Entry) → Legal rules h → LeavesByOwner rules h
leaves_by_owner rules h legal = record {
  objects = each_step Good good_step ObjectsLeave (λ s e good line. objects_leave s e line) rules h (good_start rules) legal;
  edges = each_step Good good_step EdgesLeave (λ s e good line. edges_leave s e line) rules h (good_start rules) legal;
}

pub keeps_room : (rules : RuleSet) (h : List Entry) → Legal rules h → KeepsRoom rules h
keeps_room rules h legal = record {
  within = λ p within. (good_at rules h p legal).within;
  quiet = each_step Good good_step RaisesNot (λ s e good line quiet. no_rise s e.moment e.what line good.owned_stand good.ends good.idle quiet) rules h (good_start rules) legal;
}
