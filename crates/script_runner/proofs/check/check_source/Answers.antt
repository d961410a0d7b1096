use Rattle.std.proofs.Common.{◌≡◌, ◌++◌, ℕ, List, sym, subst, arith}
use Rattle.script_runner.proofs.Checks.{check_text, check_cause}
use Rattle.script_runner.proofs.Sources.{reads_all}
use Rattle.script_runner.proofs.check.check_source.Goals as goal

pub returns-in-Ok-clause-cause : goal.returns-in-Ok-clause-cause
returns-in-Ok-clause-cause g c =
    let read : List ℕ = c.as_slice.result.now in
    let left = g.S.Source.left c.args.source.now in
    let rest = g.S.Source.left c.read_at_most.new.source in
    check_cause c.args.blocks (g.S.Source.told c.args.source.now) left read rest _ _ c.check_bytes.result
    (λ told. subst (λ (t : List ℕ). left ≡ t ++ rest) (sym c.as_slice.ensures.value) (c.in-Ok.ensures.taken told))
    (λ told short. c.in-Ok.ensures.whole told (omega (arith, c.as_slice.ensures.len))) c.check_bytes.ensures.cause

pub returns-in-Ok-clause-text : goal.returns-in-Ok-clause-text
returns-in-Ok-clause-text g c = λ sunk.
    let read : List ℕ = c.as_slice.result.now in
    let left = g.S.Source.left c.args.source.now in
    let rest = g.S.Source.left c.read_at_most.new.source in
    check_text c.args.blocks (g.S.Source.told c.args.source.now) left read rest _ _ c.check_bytes.result
    (λ told. subst (λ (t : List ℕ). left ≡ t ++ rest) (sym c.as_slice.ensures.value) (c.in-Ok.ensures.taken told))
    (λ told short. c.in-Ok.ensures.whole told (omega (arith, c.as_slice.ensures.len))) (c.check_bytes.ensures.text sunk)

pub returns-in-Ok-clause-whole : goal.returns-in-Ok-clause-whole
returns-in-Ok-clause-whole g c = λ told.
    let read : List ℕ = c.as_slice.result.now in
    let left = g.S.Source.left c.args.source.now in
    let rest = g.S.Source.left c.read_at_most.new.source in
    reads_all left read rest c.check_bytes.result (subst (λ (t : List ℕ). left ≡ t ++ rest) (sym c.as_slice.ensures.value) (c.in-Ok.ensures.taken told))
    (λ short. c.in-Ok.ensures.whole told (omega (arith, c.as_slice.ensures.len)))
