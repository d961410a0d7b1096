use Rattle.std.proofs.Common.{Ok, Err, sym, subst}
use Rattle.std.specs.Prelude.{Contains}
use Rattle.delete_step.specs.Claims.{ClaimView}
use Rattle.delf_book.specs.declared.answers.StepFault.{StepFault}
use Rattle.delf_service.specs.Standings.{standing_in}
use Rattle.delf_service.specs.Works.{StepsIn}
use Rattle.delf_service.proofs.Books.{end_at, ended_by}
use Rattle.delf_service.proofs.Claimed.{claimed_is_legal, turned}
use Rattle.delf_service.proofs.held.Held.end.Goals as goal

pub returns-in-Ok : goal.returns-in-Ok
returns-in-Ok g c =
    let claims = c.args.self.now.book.held in
    let at : Contains claims c.args.prepared = subst (λ (x : ClaimView). Contains claims x) c.claim.ensures (c.holds.ensures.0 c.if-not-holds.false) in
    let x = standing_in g.R.Disk c.args.self.now.book c.args.self.now.moment c.args.self.now.lanes in
    let y = standing_in g.R.Disk c.finish-outcome.new.self c.args.self.now.moment c.args.self.now.lanes in
    let legal = claimed_is_legal c.args.self.now.book.rules c.args.self.now.book.history claims c.args.prepared c.args.now c.len-len.ensures.legal c.claims-claims.ensures.held at in
    turned x y c.args.now (ended_by (Ok c.in-Ok.position)) c.len-len.ensures.legal
    (end_at g.R.Disk c.args.self.now.moment c.args.self.now.lanes c.args.self.now.book c.finish-outcome.new.self c.args.now c.standing.ensures.sealed c.args.prepared
    c.finish-outcome.result (Ok c.in-Ok.position) c.in-Ok.is legal
    c.finish-outcome.ensures.answer c.finish-outcome.ensures.payloads c.finish-outcome.ensures.cause c.finish-outcome.ensures.kind)
    c.standing-2.ensures.fell

pub returns-in-Err : goal.returns-in-Err
returns-in-Err g c =
    let claims = c.args.self.now.book.held in
    let at : Contains claims c.args.prepared = subst (λ (x : ClaimView). Contains claims x) c.claim.ensures (c.holds.ensures.0 c.if-not-holds.false) in
    let x = standing_in g.R.Disk c.args.self.now.book c.args.self.now.moment c.args.self.now.lanes in
    let y = standing_in g.R.Disk c.finish-outcome.new.self c.args.self.now.moment c.args.self.now.lanes in
    let legal = claimed_is_legal c.args.self.now.book.rules c.args.self.now.book.history claims c.args.prepared c.args.now c.len-len.ensures.legal c.claims-claims.ensures.held at in
    turned x y c.args.now (Err c.fault_of.result) c.len-len.ensures.legal
    (subst (λ (f : StepFault). StepsIn x y c.args.now (Err f)) (sym c.fault_of.ensures)
    (end_at g.R.Disk c.args.self.now.moment c.args.self.now.lanes c.args.self.now.book c.finish-outcome.new.self c.args.now c.standing.ensures.sealed c.args.prepared
    c.finish-outcome.result (Err c.in-Err.fault) c.in-Err.is legal
    c.finish-outcome.ensures.answer c.finish-outcome.ensures.payloads c.finish-outcome.ensures.cause c.finish-outcome.ensures.kind))
    c.standing-2.ensures.fell
