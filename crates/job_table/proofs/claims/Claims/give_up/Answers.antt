use Rattle.job_table.proofs.Places.{give_up_some, give_up_none}
use Rattle.job_table.proofs.claims.Claims.give_up.Goals as goal

pub returns-in-Some-clause-list : goal.returns-in-Some-clause-list
returns-in-Some-clause-list c =
    give_up_some c.self.inside.steps.items c.deref.result.now c.remove.new.self.items c.args.self.now _ c.in-Some.i c.args.step.now c.args.step.now
    c.deref.ensures.value c.self.view_is c.in-Some.ensures c.remove.ensures.items

pub returns-in-None-clause-list : goal.returns-in-None-clause-list
returns-in-None-clause-list c =
    give_up_none c.self.inside.steps.items c.deref.result.now c.args.self.now _ c.args.step.now c.deref.ensures.value c.self.view_is c.in-None.ensures
