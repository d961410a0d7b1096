use Rattle.std.proofs.Common.{sym, subst, arith}
use Rattle.delf_disk.specs.declared.area.Area.{Area}
use Rattle.delf_disk.proofs.Moments.{leaves_started}
use Rattle.gate_log.specs.Steps.{MayDrop, Drops}
use Rattle.delf_disk.specs.Moments.{Runs}
use Rattle.ledger.specs.Ledgers.{state_of}
use Rattle.delf_book.specs.Writing.{Rests}
use Rattle.delf_book.proofs.Writes.{on_ok}
use Rattle.store_laws.specs.Stores.{StandBut}
use Rattle.delf_recovery.proofs.ItemRecords.{item_inside}
use Rattle.delf_recovery.proofs.VaultJudged.{item_there, item_gone}
use Rattle.delf_recovery.proofs.Mended.{stands_in, rests_exact, drop_leaves, dropped_rests, drop_zeros, exact_sizes, dropped_sizes}
use Rattle.delf_recovery.proofs.mending.drop_extra.Goals as goal

pub returns-then-count-eq0-clause-sizes : goal.returns-then-count-eq0-clause-sizes
returns-then-count-eq0-clause-sizes g c =
    let f = c.args.fold.now in
    exact_sizes f.rules f.history c.args.vault.now.sizes c.requires.items (omega (arith, c.if-count-eq0.true, c.count-count.ensures))

pub returns-then-count-eq0-clause-crash : goal.returns-then-count-eq0-clause-crash
returns-then-count-eq0-clause-crash g c = λ plain e but.
    let f = c.args.fold.now in
    leaves_started c.args.disk.now (StandBut f.rules f.history e) (λ x left. g.met.D.Disk.only_now c.args.disk.now x plain left)
    (λ x image. subst (StandBut f.rules f.history e) (sym (c.requires.only plain x image)) but)

pub returns-then-count-eq0-clause-rests : goal.returns-then-count-eq0-clause-rests
returns-then-count-eq0-clause-rests g c = λ plain e but x image.
    let f = c.args.fold.now in
    subst (Rests f.rules f.history e) (sym (c.requires.only plain x image))
    (rests_exact f.rules f.history (g.D.Disk.seen c.args.disk.now) c.args.vault.now.sizes (c.requires.standing plain) (c.requires.sized plain) c.requires.items
    (omega (arith, c.if-count-eq0.true, c.count-count.ensures)) e but)

pub returns-then-has_item-clause-sizes : goal.returns-then-has_item-clause-sizes
returns-then-has_item-clause-sizes g c =
    let f = c.args.fold.now in
    let there = item_there (state_of f) _ c.has_item.result c.has_item.ensures c.if-has_item.true in
    exact_sizes f.rules f.history c.args.vault.now.sizes c.requires.items
    (omega (arith, c.count-count.ensures, c.if-count-eq0.false, item_inside (state_of f).items _ there.0 there.1))

pub returns-then-has_item-clause-crash : goal.returns-then-has_item-clause-crash
returns-then-has_item-clause-crash g c = λ plain e but.
    let f = c.args.fold.now in
    leaves_started c.args.disk.now (StandBut f.rules f.history e) (λ x left. g.met.D.Disk.only_now c.args.disk.now x plain left)
    (λ x image. subst (StandBut f.rules f.history e) (sym (c.requires.only plain x image)) but)

pub returns-then-has_item-clause-rests : goal.returns-then-has_item-clause-rests
returns-then-has_item-clause-rests g c = λ plain e but x image.
    let f = c.args.fold.now in
    let there = item_there (state_of f) _ c.has_item.result c.has_item.ensures c.if-has_item.true in
    subst (Rests f.rules f.history e) (sym (c.requires.only plain x image))
    (rests_exact f.rules f.history (g.D.Disk.seen c.args.disk.now) c.args.vault.now.sizes (c.requires.standing plain) (c.requires.sized plain) c.requires.items
    (omega (arith, c.count-count.ensures, c.if-count-eq0.false, item_inside (state_of f).items _ there.0 there.1)) e but)

pub drop_last-requires-clause-stands : goal.drop_last-requires-clause-stands
drop_last-requires-clause-stands g c = λ plain.
    let f = c.args.fold.now in
    stands_in f.rules f.history (g.D.Disk.seen c.args.disk.now) c.args.vault.now.sizes (c.requires.standing plain) (c.requires.sized plain) c.requires.items
    c.args.vault.now.area (g.D.Disk.may_leave c.args.disk.now) c.requires.area (c.requires.only plain)

pub returns-clause-sizes : goal.returns-clause-sizes
returns-clause-sizes g c =
    let f = c.args.fold.now in
    let gone = item_gone (state_of f) _ c.has_item.result c.has_item.ensures c.if-has_item.false in
    on_ok c.drop_last.result (λ is again. dropped_sizes f.rules f.history c.args.vault.now.sizes c.drop_last.new.self.sizes c.requires.items (omega (arith, gone, c.count-count.ensures, c.if-count-eq0.false)) is)
    c.drop_last.ensures.sizes c.drop_last.ensures.sizes

pub returns-clause-crash : goal.returns-clause-crash
returns-clause-crash g c = λ plain e but.
    let f = c.args.fold.now in
    let gone = item_gone (state_of f) _ c.has_item.result c.has_item.ensures c.if-has_item.false in
    drop_leaves f.rules f.history (g.D.Disk.seen c.args.disk.now) c.args.vault.now.sizes (c.requires.standing plain) (c.requires.sized plain) c.requires.items
    c.requires.legal (omega (arith, gone, c.count-count.ensures, c.if-count-eq0.false)) e but (c.requires.only plain)
    (subst (λ (a : Area). Runs g.D.Disk.moment g.D.Disk.may_leave g.D.Disk.left_since (MayDrop a c.args.vault.now.sizes) c.args.disk.now c.drop_last.new.disk) c.requires.area (c.drop_last.ensures.any_moment plain))

pub returns-clause-rests : goal.returns-clause-rests
returns-clause-rests g c =
    let f = c.args.fold.now in
    let gone = item_gone (state_of f) _ c.has_item.result c.has_item.ensures c.if-has_item.false in
    on_ok c.drop_last.result (λ dropped only plain e but x image.
    subst (Rests f.rules f.history e) (sym (only plain x image))
    (dropped_rests f.rules f.history (g.D.Disk.seen c.args.disk.now) c.args.vault.now.sizes (c.requires.standing plain) (c.requires.sized plain) c.requires.items
    c.requires.legal (omega (arith, gone, c.count-count.ensures, c.if-count-eq0.false)) e but (g.D.Disk.seen c.drop_last.new.disk)
    (subst (λ (a : Area). Drops a c.args.vault.now.sizes (g.D.Disk.seen c.args.disk.now) (g.D.Disk.seen c.drop_last.new.disk)) c.requires.area (dropped plain))))
    c.drop_last.ensures.dropped c.drop_last.ensures.durable

pub returns-clause-zeros : goal.returns-clause-zeros
returns-clause-zeros g c =
    let f = c.args.fold.now in
    let gone = item_gone (state_of f) _ c.has_item.result c.has_item.ensures c.if-has_item.false in
    on_ok c.drop_last.result (λ dropped again plain.
    let standing = c.requires.standing plain in
    drop_zeros f.rules f.history (g.D.Disk.seen c.args.disk.now) c.args.vault.now.sizes standing (c.requires.sized plain) c.requires.items
    c.requires.legal (omega (arith, gone, c.count-count.ensures, c.if-count-eq0.false)) standing.payloads standing.stand (g.D.Disk.seen c.drop_last.new.disk)
    (subst (λ (a : Area). Drops a c.args.vault.now.sizes (g.D.Disk.seen c.args.disk.now) (g.D.Disk.seen c.drop_last.new.disk)) c.requires.area (dropped plain)))
    c.drop_last.ensures.dropped c.drop_last.ensures.dropped
