use Rattle.std.proofs.Common.{List, [], ◌∷◌, ◌++◌}
use Rattle.delf_model.specs.declared.entry.Entry.{Entry}
use Rattle.delf_model.specs.RuleSet.{RuleSet}
use Rattle.delf_book.specs.Keeping.{KeepsLogs, KeepsCarriers, KeepsAreas}
use Rattle.delf_book.proofs.Plainly.{at_ledger}
use Rattle.delf_book.proofs.putting.write_back.Goals as goal

pub returns-clause-carriers : goal.returns-clause-carriers
returns-clause-carriers g c =
    let l = c.args.ledger.now in
    at_ledger (λ (r : RuleSet) (h : List Entry). KeepsCarriers r h c.carry.new.carriers.items) l.rules _ (l.history ++ c.args.entry.now ∷ []) _ c.enter.ensures.rules c.enter.ensures.history
    c.carry.ensures.carriers

pub returns-clause-logs : goal.returns-clause-logs
returns-clause-logs g c =
    let l = c.args.ledger.now in
    at_ledger (λ (r : RuleSet) (h : List Entry). KeepsLogs r h c.write_put.new.journal c.write_put.new.vault) l.rules _ (l.history ++ c.args.entry.now ∷ []) _
    c.enter.ensures.rules c.enter.ensures.history c.in_ok-write_put.ensures.logs

pub returns-clause-areas : goal.returns-clause-areas
returns-clause-areas g c = λ plain.
    let l = c.args.ledger.now in
    at_ledger (λ (r : RuleSet) (h : List Entry). KeepsAreas r h (g.D.Disk.seen c.write_put.new.disk) (g.D.Disk.may_leave c.write_put.new.disk)) l.rules _ (l.history ++ c.args.entry.now ∷ []) _
    c.enter.ensures.rules c.enter.ensures.history (c.in_ok-write_put.ensures.areas plain)
