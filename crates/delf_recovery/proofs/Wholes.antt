-- The payloads of an opened store, and where it stands whole.
use Rattle.std.proofs.Common.{◌≡◌, List, sym, subst}
use Rattle.delf_disk.specs.Areas.{Areas}
use Rattle.delf_model.specs.declared.entry.Entry.{Entry}
use Rattle.delf_model.specs.RuleSet.{RuleSet}
use Rattle.delf_model.specs.Step.{after}
use Rattle.delf_model.specs.Legal.{Legal}
use Rattle.delf_model.specs.Payloads.{Payloads}
use Rattle.store_laws.specs.Stores.{AreSealed, Rest, Hold, journal_of, vault_of}
use Rattle.store_laws.proofs.Appends.{rest_stand}
use Rattle.opening_laws.specs.Entries.{SamePayloads}
use Rattle.opening_laws.proofs.Unique.{one_payloads}
use Rattle.delf_book.specs.Holding.{StandWhole}
use Rattle.delf_book.specs.Keeping.{payloads_in}
use Rattle.delf_book.proofs.Held.{holds_itself}

read_as : (rules : RuleSet) (h : List Entry) (e : Payloads) (c : Areas) → Legal rules h → Rest rules h c × Hold rules h e (journal_of c) (vault_of c) → SamePayloads (payloads_in (after rules h) c) e
read_as rules h e c legal rests =
    one_payloads rules h (payloads_in (after rules h) c) e c (rest_stand rules h (payloads_in (after rules h) c) c legal rests.0 (holds_itself rules h c legal rests.0.spell))
    (rest_stand rules h e c legal rests.0 rests.1)

-- what areas hold that rest is what they are known to hold
pub same_read : (rules now_rules : RuleSet) (h now : List Entry) (e : Payloads) (c : Areas) → now_rules ≡ rules → now ≡ h → Legal rules now → Rest rules h c × Hold rules h e (journal_of c) (vault_of c) →
    SamePayloads (payloads_in (after now_rules now) c) e
same_read rules now_rules h now e c same_rules same legal rests =
    subst (λ (r : RuleSet). SamePayloads (payloads_in (after r now) c) e) (sym same_rules)
    (subst (λ (l : List Entry). SamePayloads (payloads_in (after rules l) c) e) (sym same) (read_as rules h e c (subst (Legal rules) same legal) rests))

-- areas that rest stand whole where their seals are those of their payloads
pub whole_now : (rules : RuleSet) (h now : List Entry) (e : Payloads) (c : Areas) → now ≡ h → Legal rules now → Rest rules h c × Hold rules h e (journal_of c) (vault_of c) →
    AreSealed rules h e → StandWhole rules c
whole_now rules h now e c same legal rests sealed = (h, (e, record { but = rest_stand rules h e c (subst (Legal rules) same legal) rests.0 rests.1; sealed = sealed }))
