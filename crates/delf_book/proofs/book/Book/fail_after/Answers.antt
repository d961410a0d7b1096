use Rattle.std.proofs.Common.{sym, subst}
use Rattle.delf_disk.specs.Areas.{Areas}
use Rattle.delf_disk.proofs.Flags.{told_plain}
use Rattle.delf_model.specs.Step.{after}
use Rattle.store_laws.specs.Stores.{Rest, Hold, journal_of, vault_of}
use Rattle.delf_book.specs.Holding.{StandsBeside}
use Rattle.delf_book.specs.Keeping.{KeepsAreas, KeepsPayloads, payloads_in}
use Rattle.delf_book.proofs.Payloads.{opening_told}
use Rattle.delf_book.proofs.book.Book.fail_after.Goals as goal

pub invariant_of-self : goal.invariant_of-self
invariant_of-self g c =
    let l = c.self.inside.ledger in
    let r = c.fail_after.ensures in
    let new = c.fail_after.new.self in
    let e = payloads_in (after l.rules l.history) (g.R.Disk.seen c.self.inside.rested.value) in (
      λ up.
          let base = c.self.invariant.0 up in
          record {
            logs = base.logs;
            carried = base.carried;
            room = base.room;
            areas = λ plain.
                let here = told_plain r.telling plain in
                let kept = base.areas here in
                subst (λ (a : Areas). KeepsAreas l.rules l.history a (g.R.Disk.may_leave new)) (sym (r.seen here)) (record {
                  rests = λ x image.
                      let from = (r.images here).follows x image in
                      subst (λ (y : Areas). Rest l.rules l.history y × Hold l.rules l.history (payloads_in (after l.rules l.history) (g.R.Disk.seen c.self.inside.rig)) (journal_of y) (vault_of y)) (sym from.2) (kept.rests from.0 from.1);
                  clean = kept.clean;
                });
          },
      c.self.invariant.1,
      λ down plain x image.
          let here = told_plain r.telling plain in
          let from = (r.images here).follows x image in
          subst (λ (y : Areas). StandsBeside l.rules l.history e c.self.inside.beside y) (sym from.2) (c.self.invariant.2 down here from.0 from.1),
      λ plain.
          let here = told_plain r.telling plain in
          subst (λ (a : Areas). KeepsPayloads l.rules l.history e c.self.inside.down a (g.R.Disk.seen c.self.inside.opened.value)) (sym (r.seen here)) (c.self.invariant.3 here),
      opening_told c.self.invariant.4 r.telling r.count,
      c.self.invariant.5,
      λ plain. c.self.invariant.6 (told_plain r.telling plain),
    )
