-- What a commit does to a gate, told of the log's records.
use Rattle.std.proofs.Common.{◌≡◌, ◌<◌, ◌≤◌, ◌+◌, ℕ, [], ◌∷◌, List, length, refl, sym, ◌∙◌, ap, subst, arith, length-append}
use Rattle.delf_disk.specs.Areas.{Areas}
use Rattle.delf_disk.specs.Moments.{Runs}
use Rattle.delf_disk.proofs.Moments.{widened}
use Rattle.gate_log.specs.Records.{body, IsBounded}
use Rattle.gate_log.specs.Logs.{Stands, StandIn}
use Rattle.gate_log.specs.Steps.{MayAdd, Adds}
use Rattle.gate_log.specs.Places.{sizes_at}
use Rattle.gate_log.specs.View.{LogView}
use Rattle.gate_log.proofs.Rows.{length-body, stand_shut, may_add, adds, added_stands}
use Rattle.gate_log.proofs.Kept.{sizes_at-push, tied_pushed}
use Rattle.gate_log.proofs.log.GateLog.append.Goals as goal

bounded : (head payload : List ℕ) → length head ≤ 128 → length payload ≤ 65535 → IsBounded head payload
bounded head payload short small = record { head_length = omega arith; body_length = omega arith }

pub commit-requires-clause-shut : goal.commit-requires-clause-shut
commit-requires-clause-shut g c = λ plain.
    let stands = c.requires.stands plain in
    let at_view = subst (λ (v : LogView). StandIn v.area v.sizes (g.D.Disk.may_leave c.args.disk.now)) (sym c.self.view_is) stands in
    stand_shut c.self.inside.area (sizes_at c.self.inside.places.items) c.self.inside.end _ c.self.invariant.tied.end_is at_view

pub returns-in_err-commit-clause-any_moment : goal.returns-in_err-commit-clause-any_moment
returns-in_err-commit-clause-any_moment g c = λ plain.
    let a = c.args in
    let fits = bounded a.head.now a.payload.now c.requires.head c.requires.payload in
    subst (λ (v : LogView). Runs g.D.Disk.moment g.D.Disk.may_leave g.D.Disk.left_since (MayAdd v.area v.sizes a.head.now a.payload.now) a.disk.now c.commit.new.disk) c.self.view_is
    (widened (c.commit.ensures.any_moment plain) (λ d x image opens. may_add c.self.inside.area (sizes_at c.self.inside.places.items) c.self.inside.end a.head.now a.payload.now c.deref.result.now c.self.invariant.tied.end_is
    (c.deref.ensures.value ∙ c.lay.ensures.items) fits d x opens))

pub returns-clause-any_moment : goal.returns-clause-any_moment
returns-clause-any_moment g c = λ plain.
    let a = c.args in
    let fits = bounded a.head.now a.payload.now c.requires.head c.requires.payload in
    subst (λ (v : LogView). Runs g.D.Disk.moment g.D.Disk.may_leave g.D.Disk.left_since (MayAdd v.area v.sizes a.head.now a.payload.now) a.disk.now c.commit.new.disk) c.self.view_is
    (widened (c.commit.ensures.any_moment plain) (λ d x image opens. may_add c.self.inside.area (sizes_at c.self.inside.places.items) c.self.inside.end a.head.now a.payload.now c.deref.result.now c.self.invariant.tied.end_is
    (c.deref.ensures.value ∙ c.lay.ensures.items) fits d x opens))

pub returns-clause-added : goal.returns-clause-added
returns-clause-added g c = λ plain.
    let a = c.args in
    let fits = bounded a.head.now a.payload.now c.requires.head c.requires.payload in
    subst (λ (v : LogView). Adds v.area v.sizes a.head.now a.payload.now (g.D.Disk.seen a.disk.now) (g.D.Disk.seen c.commit.new.disk)) c.self.view_is
    (adds c.self.inside.area (sizes_at c.self.inside.places.items) c.self.inside.end a.head.now a.payload.now c.deref.result.now c.self.invariant.tied.end_is
    (c.deref.ensures.value ∙ c.lay.ensures.items) fits _ _ (c.in_ok-commit.ensures.opens plain))

pub returns-clause-stands : goal.returns-clause-stands
returns-clause-stands g c = λ plain x image.
    let a = c.args in
    let fits = bounded a.head.now a.payload.now c.requires.head c.requires.payload in
    let added = adds c.self.inside.area (sizes_at c.self.inside.places.items) c.self.inside.end a.head.now a.payload.now c.deref.result.now c.self.invariant.tied.end_is
    (c.deref.ensures.value ∙ c.lay.ensures.items) fits _ _ (c.in_ok-commit.ensures.opens plain) in
    let at_view = subst (λ (v : LogView). StandIn v.area v.sizes (g.D.Disk.may_leave a.disk.now)) (sym c.self.view_is) (c.requires.stands plain) in
    let stood = at_view (g.D.Disk.seen a.disk.now) (g.met.D.Disk.reads_as_image a.disk.now plain) in
    let now = added_stands c.self.inside.area (sizes_at c.self.inside.places.items) a.head.now a.payload.now _ _ added stood in
    let is = c.in_ok-commit.ensures.durable plain x image in
    subst (λ (y : Areas). Stands c.self.inside.area (sizes_at c.push_reserved.new.self.items) y) (sym is)
    (subst (λ (l : List (ℕ × ℕ)). Stands c.self.inside.area l (g.D.Disk.seen c.commit.new.disk)) (sym (sizes_at-push _ _ _ c.push_reserved.ensures.items)) now)

pub invariant_of-self-2 : goal.invariant_of-self-2
invariant_of-self-2 g c =
    let a = c.args in
    let s = c.self.invariant in
    let spare : 0 < c.self.inside.spare = omega (arith, c.requires.spare, ap (λ (v : LogView). v.spare) c.self.view_is) in
    let size : c.len.result ≡ 7 + length a.head.now + length a.payload.now =
    omega (arith, c.len.ensures, c.lay.new.line.ok.0, ap length c.lay.ensures.items, length-append (body a.head.now a.payload.now) (0 ∷ []), length-body a.head.now a.payload.now) in
    record {
      tied = tied_pushed _ _ _ c.self.inside.end _ c.push_reserved.ensures.items refl (ap (λ (k : ℕ). c.self.inside.end + k) size) s.tied;
      room = omega (arith, s.room, c.push_reserved.ensures.len, c.push_reserved.ensures.capacity);
      count = omega (arith, s.count, c.push_reserved.ensures.len);
      reach = omega (arith, s.reach);
      buffer = λ more. omega (arith, s.buffer spare, c.lay.ensures.capacity);
    }
