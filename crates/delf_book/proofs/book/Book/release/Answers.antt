use Rattle.std.proofs.Common.{◌≡◌, ◌∙◌, sym, ap, subst, List, vec_len, vec_capacity, length, arith}
use Rattle.std.specs.Prelude.{Contains}
use Rattle.delf_model.specs.declared.entry.What.{What}
use Rattle.delf_model.specs.Order.{is_held}
use Rattle.delf_model.specs.Step.{after}
use Rattle.delf_book.specs.Claims.{room_for, taken_by, step_of, steps_of, IsRead}
use Rattle.delf_book.specs.Keeping.{payloads_in}
use Rattle.delf_book.proofs.Claiming.{claim_held, claims_less, each_less, without_fewer, less_room}
use Rattle.delf_book.proofs.book.Book.release.Goals as goal

pub give_up-requires : goal.give_up-requires
give_up-requires g c =
    let step : c.taken_by-step.result ≡ step_of c.args.claim = c.taken_by-step.ensures ∙ ap taken_by c.item.ensures.item in
    ap (λ (l : List What). is_held l c.taken_by-step.result) c.self.invariant.5.steps ∙ ap (is_held (steps_of c.self.inside.claims.items)) step
    ∙ claim_held c.self.inside.claims.items c.args.claim (subst (λ b. Contains b.held c.args.claim) (sym c.self.view_is) c.requires)

pub invariant_of-self : goal.invariant_of-self
invariant_of-self g c =
    let l = c.self.inside.ledger in
    let claims = c.self.inside.claims in
    let new = c.leave.new.claims in
    let step : c.taken_by-step.result ≡ step_of c.args.claim = c.taken_by-step.ensures ∙ ap taken_by c.item.ensures.item in
    rw c.give_up.ensures.same (
      λ up.
          let kept = c.self.invariant.0 up in
          let fewer = without_fewer c.args.claim claims.items in
          let long = ap length c.leave.ensures.items in
          let was = claims.ok.0 in
          let is = new.ok.0 in
          record {
            logs = kept.logs;
            carried = kept.carried;
            room = less_room (room_for c.self.inside.spare (vec_len claims)) (room_for c.self.inside.spare (vec_len new)) l.spare c.self.inside.logs.journal c.self.inside.logs.vault _ _
                (omega (arith, fewer, long, was, is)) kept.room;
            areas = kept.areas;
          },
      c.self.invariant.1,
      c.self.invariant.2,
      c.self.invariant.3,
      c.self.invariant.4,
      claims_less l.rules l.history l.held c.self.inside.spare claims.items new.items (vec_capacity claims) (vec_capacity new) c.args.claim c.taken_by-step.result
          step c.leave.ensures.items c.leave.ensures.capacity c.self.invariant.5,
      λ plain. rw c.leave.ensures.items (each_less (IsRead (payloads_in (after l.rules l.history) (g.R.Disk.seen c.self.inside.rested.value))) c.args.claim claims.items (c.self.invariant.6 plain)),
    )
