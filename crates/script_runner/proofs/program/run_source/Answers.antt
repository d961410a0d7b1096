use Rattle.std.proofs.Common.{◌≡◌, ◌++◌, ℕ, List, sym, subst, arith}
use Rattle.delf_disk.specs.Plain.{Plain}
use Rattle.script_runner.specs.Outcomes.{DocumentText}
use Rattle.documents.specs.Requests.{moment_of_start}
use Rattle.script_runner.proofs.Sources.{source_text, source_cause, source_orders, reads_all}
use Rattle.script_runner.proofs.program.run_source.Goals as goal

pub returns-in-Ok-clause-cause : goal.returns-in-Ok-clause-cause
returns-in-Ok-clause-cause g c =
    let read : List ℕ = c.as_slice.result.now in
    let left = g.S.Source.left c.args.source.now in
    let rest = g.S.Source.left c.read_at_most.new.source in
    source_cause g.B.Blocks.served (g.S.Source.told c.args.source.now) left read rest _ _ _ _ c.run_bytes.result.0
    (λ told. subst (λ (t : List ℕ). left ≡ t ++ rest) (sym c.as_slice.ensures.value) (c.in-Ok.ensures.taken told))
    (λ told short. c.in-Ok.ensures.whole told (omega (arith, c.as_slice.ensures.len))) c.run_bytes.ensures.cause

pub returns-in-Ok-clause-text : goal.returns-in-Ok-clause-text
returns-in-Ok-clause-text g c = λ sunk.
    let read : List ℕ = c.as_slice.result.now in
    let left = g.S.Source.left c.args.source.now in
    let rest = g.S.Source.left c.read_at_most.new.source in
    source_text g.B.Blocks.served (g.S.Source.told c.args.source.now) left read rest (c.run_bytes.result.1 ≡ c.args.rig)
    (λ document status. Plain (g.R.Disk.told c.args.rig) (g.R.Disk.honest c.args.rig) → DocumentText document (moment_of_start c.args.start (g.C.Clock.last_answer c.run_bytes.new.clock))
    (g.R.Disk.seen c.args.rig) (g.R.Disk.may_leave c.args.rig) (g.R.Disk.faults c.args.rig) (g.R.Disk.faults c.run_bytes.result.1) (g.R.Disk.may_leave c.run_bytes.result.1)
    (g.K.Sink.held c.args.sink.now) (g.K.Sink.held c.run_bytes.new.sink) status) (g.K.Sink.held c.args.sink.now) (g.K.Sink.held c.run_bytes.new.sink) c.run_bytes.result.0
    (λ told. subst (λ (t : List ℕ). left ≡ t ++ rest) (sym c.as_slice.ensures.value) (c.in-Ok.ensures.taken told))
    (λ told short. c.in-Ok.ensures.whole told (omega (arith, c.as_slice.ensures.len))) (c.run_bytes.ensures.text sunk)

pub returns-in-Ok-clause-orders : goal.returns-in-Ok-clause-orders
returns-in-Ok-clause-orders g c = λ told.
    let read : List ℕ = c.as_slice.result.now in
    let left = g.S.Source.left c.args.source.now in
    let rest = g.S.Source.left c.read_at_most.new.source in
    source_orders g.B.Blocks.served left read rest _ _ _ _ c.run_bytes.result.0
    (subst (λ (t : List ℕ). left ≡ t ++ rest) (sym c.as_slice.ensures.value) (c.in-Ok.ensures.taken told))
    (λ short. c.in-Ok.ensures.whole told (omega (arith, c.as_slice.ensures.len))) c.run_bytes.ensures.orders

pub returns-in-Ok-clause-whole : goal.returns-in-Ok-clause-whole
returns-in-Ok-clause-whole g c = λ told.
    let read : List ℕ = c.as_slice.result.now in
    let left = g.S.Source.left c.args.source.now in
    let rest = g.S.Source.left c.read_at_most.new.source in
    reads_all left read rest c.run_bytes.result.0 (subst (λ (t : List ℕ). left ≡ t ++ rest) (sym c.as_slice.ensures.value) (c.in-Ok.ensures.taken told))
    (λ short. c.in-Ok.ensures.whole told (omega (arith, c.as_slice.ensures.len)))
