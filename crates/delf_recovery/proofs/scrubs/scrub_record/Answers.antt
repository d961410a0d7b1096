use Rattle.std.proofs.Common.{◌∙◌, sym}
use Rattle.std.proofs.lemmas.Bool.{false≢true}
use Rattle.delf_book.proofs.Writes.{on_ok}
use Rattle.delf_recovery.proofs.DeadPayloads.{scrub_leaves, scrub_zero}
use Rattle.delf_recovery.proofs.scrubs.scrub_record.Goals as goal

pub returns-clause-crash : goal.returns-clause-crash
returns-clause-crash g c = λ plain e rests.
    let f = c.args.fold.now in
    let log = c.args.log.now in
    scrub_leaves f.rules f.history e c.args.i c.args.area log.area log.sizes c.requires.area (λ live. false≢true (sym c.if-keeps.false ∙ c.keeps.ensures.1 live))
    rests (c.requires.stands plain) (c.scrub.ensures.any_moment plain)

pub returns-clause-zero : goal.returns-clause-zero
returns-clause-zero g c =
    let f = c.args.fold.now in
    let log = c.args.log.now in
    on_ok c.scrub.result (λ scrubs again plain dead.
    let resting = c.requires.rests plain in
    (scrub_zero f.rules f.history resting.payloads c.args.i c.args.area log.area log.sizes c.requires.area dead
    (g.D.Disk.may_leave c.args.disk.now) (g.D.Disk.seen c.args.disk.now) (g.D.Disk.seen c.scrub.new.disk) (g.met.D.Disk.reads_as_image c.args.disk.now plain)
    resting.rests (c.requires.stands plain) (scrubs plain)).0)
    c.scrub.ensures.scrubbed c.scrub.ensures.scrubbed

pub returns-clause-others : goal.returns-clause-others
returns-clause-others g c =
    let f = c.args.fold.now in
    let log = c.args.log.now in
    on_ok c.scrub.result (λ scrubs again plain.
    let resting = c.requires.rests plain in
    (scrub_zero f.rules f.history resting.payloads c.args.i c.args.area log.area log.sizes c.requires.area (λ live. false≢true (sym c.if-keeps.false ∙ c.keeps.ensures.1 live))
    (g.D.Disk.may_leave c.args.disk.now) (g.D.Disk.seen c.args.disk.now) (g.D.Disk.seen c.scrub.new.disk) (g.met.D.Disk.reads_as_image c.args.disk.now plain)
    resting.rests (c.requires.stands plain) (scrubs plain)).1)
    c.scrub.ensures.scrubbed c.scrub.ensures.scrubbed

pub returns-clause-stays_zero : goal.returns-clause-stays_zero
returns-clause-stays_zero g c =
    let f = c.args.fold.now in
    let log = c.args.log.now in
    on_ok c.scrub.result (λ scrubs again plain zeros.
    let resting = c.requires.rests plain in
    (scrub_zero f.rules f.history resting.payloads c.args.i c.args.area log.area log.sizes c.requires.area (λ live. false≢true (sym c.if-keeps.false ∙ c.keeps.ensures.1 live))
    (g.D.Disk.may_leave c.args.disk.now) (g.D.Disk.seen c.args.disk.now) (g.D.Disk.seen c.scrub.new.disk) (g.met.D.Disk.reads_as_image c.args.disk.now plain)
    resting.rests (c.requires.stands plain) (scrubs plain)).0)
    c.scrub.ensures.scrubbed c.scrub.ensures.scrubbed
