use Rattle.std.proofs.Common.{ℕ, ◌++◌, ◌∷◌, [], List, Some, None, length, sym, ap, ◌∙◌, subst, arith}
use Rattle.std.specs.Prelude.{slice_set}
use Rattle.delf_book.specs.Keeping.{KeepsCarriers}
use Rattle.delf_book.proofs.PutBacks.{back_below, carriers_next}
use Rattle.delf_book.proofs.carried.carry.Goals as goal

pub index_mut-requires : goal.index_mut-requires
index_mut-requires g c =
    let l = c.args.ledger.now in
    let below = back_below l.rules l.history c.args.entry.now c.args.carriers.now.items c.len-position.ensures.legal c.requires.legal c.requires.carriers c.in-Some.at (sym c.in-Some.ensures) in
    omega (arith, below, c.requires.carriers.many, c.push_reserved.ensures.len)

pub returns-in-Some-clause-carriers : goal.returns-in-Some-clause-carriers
returns-in-Some-clause-carriers g c =
    let l = c.args.ledger.now in
    let at = c.in-Some.at in
    let next = carriers_next l.rules l.history c.args.entry.now c.args.carriers.now.items c.len-position.ensures.legal c.requires.legal c.requires.carriers in
    subst (λ (n : ℕ). KeepsCarriers l.rules (l.history ++ c.args.entry.now ∷ []) (slice_set c.push_reserved.new.self.items at n)) (sym c.len-position.ensures.value)
    (subst (λ (items : List ℕ). KeepsCarriers l.rules (l.history ++ c.args.entry.now ∷ []) (slice_set items at (length l.history)))
    (sym (c.push_reserved.ensures.items ∙ ap (λ (n : ℕ). c.args.carriers.now.items ++ n ∷ []) c.len-position.ensures.value))
    (next (Some at) (sym c.in-Some.ensures)))

pub returns-in-None-clause-carriers : goal.returns-in-None-clause-carriers
returns-in-None-clause-carriers g c =
    let l = c.args.ledger.now in
    let next = carriers_next l.rules l.history c.args.entry.now c.args.carriers.now.items c.len-position.ensures.legal c.requires.legal c.requires.carriers in
    subst (λ (items : List ℕ). KeepsCarriers l.rules (l.history ++ c.args.entry.now ∷ []) items)
    (sym (c.push_reserved.ensures.items ∙ ap (λ (n : ℕ). c.args.carriers.now.items ++ n ∷ []) c.len-position.ensures.value))
    (next None (sym c.in-None.ensures))
