-- Areas with one vault record past the items, and what a drop of it makes of them.
use Rattle.std.proofs.Common.{◌≡◌, ℕ, zero, suc, ◌+◌, List, [], ◌∷◌, ◌++◌, length, take, refl, sym, ap, ◌∙◌, subst, arith, inl, inr}
use Rattle.std.proofs.lemmas.List.{take_all}
use Rattle.std.specs.Prelude.{map}
use Rattle.delf_disk.specs.Areas.{Areas}
use Rattle.delf_disk.specs.declared.area.Area.TheVariants as area
use Rattle.gate_log.specs.Records.{Record, size_of}
use Rattle.gate_log.specs.Logs.{Log}
use Rattle.gate_log.specs.Steps.{MayDrop, Drops}
use Rattle.delf_model.specs.declared.entry.Entry.{Entry}
use Rattle.delf_model.specs.RuleSet.{RuleSet}
use Rattle.delf_model.specs.Step.{after}
use Rattle.delf_model.specs.Legal.{Legal}
use Rattle.delf_model.specs.Payloads.{Payloads}
use Rattle.store_laws.specs.Logged.{held, IsLog}
use Rattle.store_laws.specs.Stores.{Hold, StandBut, Rest, journal_mark, vault_mark, journal_of, vault_of, vault_for}
use Rattle.store_laws.specs.Steps.{Ahead}
use Rattle.store_laws.proofs.Spelled.{told_log, log_told}
use Rattle.store_laws.proofs.Appends.{ahead_stand, rest_stand}

last_of : (xs : List Record) (n : ℕ) → length xs ≡ n + 1 → (x : Record) × (xs ≡ take n xs ++ x ∷ [])
last_of [] n long = absurd (omega (arith, long))
last_of (x ∷ []) zero long = (x, refl)
last_of (x ∷ y ∷ xs) zero long = absurd (omega (arith, long))
last_of (x ∷ xs) (suc n) long =
    let rest = last_of xs n (omega (arith, long)) in
    (rest.0, ap (λ (l : List Record). x ∷ l) rest.1)

module _ (rules : RuleSet) (h : List Entry) (e : Payloads) (c : Areas) (but : StandBut rules h e c) (journal : IsLog journal_mark c.journal) (vault : IsLog vault_mark c.vault) where
  pub stands_rests : length (vault_of c) ≡ length (after rules h).items → Rest rules h c × Hold rules h e (journal_of c) (vault_of c)
  stands_rests long =
      let hold : Hold rules h e (journal_of c) (vault_of c) =
      subst (λ (v : List Record). Hold rules h e (journal_of c) v) (take_all (length (after rules h).items) (vault_of c) (omega (arith, long))) but.hold in
      (record { journal = journal; vault = vault; spell = hold.spell }, hold)

  pub stands_ahead : length (vault_of c) ≡ length (after rules h).items + 1 → (added : Record) × Ahead rules h e (added ∷ []) c
  stands_ahead long =
      let last = last_of (vault_of c) (length (after rules h).items) long in
      (last.0, record { journal = journal; vault = vault; more = last.1; hold = but.hold })

module _ (rules : RuleSet) (h : List Entry) (e : Payloads) (added : Record) (sizes : List (ℕ × ℕ)) (c d : Areas)
    (ahead : Ahead rules h e (added ∷ []) c) (sized : map size_of (vault_of c) ≡ sizes) where
  abbrev firsts : List Record
  firsts = vault_for rules h c

  log_before : Log vault_mark (firsts ++ added ∷ []) c.vault
  log_before = subst (λ (v : List Record). Log vault_mark v c.vault) ahead.more (log_told vault_mark c.vault ahead.vault)

  sized_before : map size_of (firsts ++ added ∷ []) ≡ sizes
  sized_before = ap (map size_of) (sym ahead.more) ∙ sized

  gone : d.journal ≡ c.journal → Log vault_mark firsts d.vault → Rest rules h d × Hold rules h e (journal_of d) (vault_of d)
  gone same log =
      let told = told_log vault_mark firsts d.vault log in
      let now : Hold rules h e (journal_of d) (vault_of d) =
      subst (λ (v : List Record). Hold rules h e (journal_of d) v) (sym told.1) (subst (λ (j : List Record). Hold rules h e j firsts) (sym (ap held same)) ahead.hold) in
      (record { journal = subst (λ (j : List ℕ). IsLog journal_mark j) (sym same) ahead.journal; vault = told.0; spell = now.spell }, now)

  there : d.journal ≡ c.journal → Log vault_mark (firsts ++ added ∷ []) d.vault → Ahead rules h e (added ∷ []) d
  there same log =
      let told = told_log vault_mark (firsts ++ added ∷ []) d.vault log in
      let vaults : vault_of d ≡ vault_of c = told.1 ∙ sym ahead.more in
      let kept : vault_for rules h d ≡ firsts = ap (take (length (after rules h).items)) vaults in
      record {
        journal = subst (λ (j : List ℕ). IsLog journal_mark j) (sym same) ahead.journal;
        vault = told.0;
        more = told.1 ∙ ap (λ (l : List Record). l ++ added ∷ []) (sym kept);
        hold = subst (λ (v : List Record). Hold rules h e (journal_of d) v) (sym kept) (subst (λ (j : List Record). Hold rules h e j firsts) (sym (ap held same)) ahead.hold);
      }

  pub drops : Drops area.Vault sizes c d → Rest rules h d × Hold rules h e (journal_of d) (vault_of d)
  drops step = gone step.other (step.here vault_mark firsts added sized_before log_before)

pub may_drop : (rules : RuleSet) (h : List Entry) (e : Payloads) (added : Record) (sizes : List (ℕ × ℕ)) (c d : Areas)
    → Legal rules h → Ahead rules h e (added ∷ []) c → map size_of (vault_of c) ≡ sizes → MayDrop area.Vault sizes c d → StandBut rules h e d
may_drop rules h e added sizes c d legal ahead sized may =
    elim (may.here vault_mark (vault_for rules h c) added (sized_before rules h e added sizes c d ahead sized) (log_before rules h e added sizes c d ahead sized)) [
      | inl kept ↦ ahead_stand rules h e (added ∷ []) d (omega arith) legal (there rules h e added sizes c d ahead sized may.other kept)
      | inr dropped ↦
          (let now = gone rules h e added sizes c d ahead sized may.other dropped in
          rest_stand rules h e d legal now.0 now.1)
    ]
