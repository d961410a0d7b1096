-- A blank area gets its first gate.
use Rattle.std.proofs.Common.{◌≡◌, [], ◌∷◌, ◌++◌, refl, sym, ◌∙◌, ap, subst, arith}
use Rattle.std.proofs.lemmas.Result.{err_from_is_err_and}
use Rattle.delf_disk.specs.Areas.{Areas, area_of, rest_of}
use Rattle.delf_disk.specs.Images.{Same}
use Rattle.delf_disk.proofs.Flags.{stays_plain}
use Rattle.delf_disk.proofs.Moments.{started, kept, same_then}
use Rattle.delf_disk.proofs.Writes.{torn_same}
use Rattle.gate_log.specs.Opening.{IsBroken}
use Rattle.gate_log.proofs.Fronts.{empty_log, no_sizes}
use Rattle.gate_log.proofs.log.GateLog.start.Goals as goal

pub returns-in_err-begin-clause-any_moment_blank : goal.returns-in_err-begin-clause-any_moment_blank
returns-in_err-begin-clause-any_moment_blank g c = λ plain blank.
    let a = c.args in
    let at_start = started a.disk.now Same (λ x left. g.met.D.Disk.only_now a.disk.now x plain left) (λ x image. refl) in
    same_then (kept at_start (c.len.ensures.images plain)) (c.begin.ensures.any_moment (stays_plain c.len.ensures.kind plain)) (λ x image. torn_same a.area 0 9 x)

pub returns-then-len-le-BLANK-clause-any_moment_blank : goal.returns-then-len-le-BLANK-clause-any_moment_blank
returns-then-len-le-BLANK-clause-any_moment_blank g c = λ plain blank.
    let a = c.args in
    let at_start = started a.disk.now Same (λ x left. g.met.D.Disk.only_now a.disk.now x plain left) (λ x image. refl) in
    same_then (kept at_start (c.len.ensures.images plain)) (c.begin.ensures.any_moment (stays_plain c.len.ensures.kind plain)) (λ x image. torn_same a.area 0 9 x)

pub returns-then-len-le-BLANK-clause-starts : goal.returns-then-len-le-BLANK-clause-starts
returns-then-len-le-BLANK-clause-starts g c = λ plain.
    let a = c.args in
    let plain_1 = stays_plain c.len.ensures.kind plain in
    let begun = c.in_ok-begin.ensures.begun plain_1 in
    let none = no_sizes c.over.result.sizes c.new.result.items c.over.ensures.sizes c.new.ensures.items in
    record {
      other = c.in_ok-begin.ensures.other plain_1 ∙ ap (rest_of a.area) (c.len.ensures.seen plain);
      blank = λ short. (none, begun);
      longer = λ long. absurd (omega (arith, long, c.in_ok-len.ensures.value plain, c.if-len-le-BLANK.true));
      records = [];
      sized = sym none;
      log = empty_log a.mark _ c.begin.ensures.eight begun;
    }

pub returns-then-len-le-BLANK-clause-stands : goal.returns-then-len-le-BLANK-clause-stands
returns-then-len-le-BLANK-clause-stands g c = λ plain only x image.
    let a = c.args in
    let plain_1 = stays_plain c.len.ensures.kind plain in
    let is = c.in_ok-begin.ensures.durable plain_1 x image in
    let begun : area_of a.area x ≡ a.mark ++ 0 ∷ [] = ap (area_of a.area) is ∙ c.in_ok-begin.ensures.begun plain_1 in
    record {
      mark = a.mark;
      records = [];
      sized = sym (no_sizes c.over.result.sizes c.new.result.items c.over.ensures.sizes c.new.ensures.items);
      log = empty_log a.mark (area_of a.area x) c.begin.ensures.eight begun;
    }

pub returns-clause-broken : goal.returns-clause-broken
returns-clause-broken g c = λ plain at broken.
    let a = c.args in
    c.in_ok-scan.ensures.broken (stays_plain c.len.ensures.kind plain) at (subst (λ (x : Areas). IsBroken a.mark (area_of a.area x) at) (sym (c.len.ensures.seen plain)) broken)

pub returns-in_err-scan-clause-broken : goal.returns-in_err-scan-clause-broken
returns-in_err-scan-clause-broken g c = λ plain at broken.
    let a = c.args in
    let told = c.in_err-scan.ensures.broken (stays_plain c.len.ensures.kind plain) at (subst (λ (x : Areas). IsBroken a.mark (area_of a.area x) at) (sym (c.len.ensures.seen plain)) broken) in
    let p = err_from_is_err_and c.from_residual-in_err-scan.result c.from_residual-in_err-scan.ensures.1 in
    rw (p.1, p.2) told
