-- What a scrub of a payload that is not needed makes of the areas.
use Rattle.std.proofs.Common.{◌≡◌, ℕ, zero, suc, List, [], ◌∷◌, length, refl, sym, ap, ◌∙◌, subst}
use Rattle.std.proofs.lemmas.List.{length-replicate}
use Rattle.std.specs.Prelude.{map, replicate}
use Rattle.delf_disk.specs.Areas.{Areas}
use Rattle.delf_disk.specs.declared.area.Area.TheVariants as area
use Rattle.gate_log.specs.Records.{Record, size_of, payload_of, replaced}
use Rattle.gate_log.specs.Logs.{Log}
use Rattle.gate_log.specs.Steps.{MayScrub, Scrubs}
use Rattle.delf_model.specs.declared.entry.Entry.{Entry}
use Rattle.delf_model.specs.RuleSet.{RuleSet}
use Rattle.delf_model.specs.Step.{after}
use Rattle.delf_model.specs.Payloads.{Payloads, Journal, Vault}
use Rattle.payload_laws.specs.Holders.{IsLive}
use Rattle.store_laws.specs.Logged.{held, IsLog}
use Rattle.store_laws.specs.Stores.{Hold, Rest, journal_mark, vault_mark, journal_of, vault_of, payload_in}
use Rattle.store_laws.specs.Steps.{IsZeroed, KeepsOthers}
use Rattle.store_laws.proofs.Spelled.{told_log, log_told}
use Rattle.store_laws.proofs.Dead.{journal_dead, vault_dead, journal_other, vault_other}

replaced_zeros : (xs : List Record) (i : ℕ) → payload_of (replaced xs i (replicate (length (payload_of xs i)) 0)) i ≡ replicate (length (payload_of xs i)) 0
replaced_zeros [] i = refl
replaced_zeros (x ∷ xs) zero = refl
replaced_zeros (x ∷ xs) (suc i) = replaced_zeros xs i

module _ (rules : RuleSet) (h : List Entry) (e : Payloads) (i : ℕ) (sizes : List (ℕ × ℕ)) (c d : Areas) (rest : Rest rules h c) (hold : Hold rules h e (journal_of c) (vault_of c)) where
  -- the journal with another payload there

  module _ (dead : IsLive (after rules h) (Journal i) → ⊥) (sized : map size_of (journal_of c) ≡ sizes) where
    journal_now : (payload : List ℕ) → length payload ≡ length (payload_of (journal_of c) i) → d.vault ≡ c.vault → Log journal_mark (replaced (journal_of c) i payload) d.journal →
        Rest rules h d × Hold rules h e (journal_of d) (vault_of d) × KeepsOthers (Journal i) c d × (journal_of d ≡ replaced (journal_of c) i payload)
    journal_now payload long same log = (
      record {
        journal = told.0;
        vault = subst (λ (v : List ℕ). IsLog vault_mark v) (sym same) rest.vault;
        spell = now.spell;
      },
      now,
      λ other apart.
          ap (λ (j : List Record). payload_in j (vault_of d) other) told.1 ∙
          (ap (λ (v : List ℕ). payload_in (replaced (journal_of c) i payload) (held v) other) same ∙ journal_other (journal_of c) (vault_of c) i payload other apart),
      told.1,
    )
      where
        told : IsLog journal_mark d.journal × (journal_of d ≡ replaced (journal_of c) i payload)
        told = told_log journal_mark (replaced (journal_of c) i payload) d.journal log

        now : Hold rules h e (journal_of d) (vault_of d)
        now =
            subst (λ (v : List ℕ). Hold rules h e (journal_of d) (held v)) (sym same)
            (subst (λ (j : List Record). Hold rules h e j (vault_of c)) (sym told.1) (journal_dead rules h e (journal_of c) (vault_of c) i payload hold dead long))

    pub journal_may : MayScrub area.Journal sizes i c d → Rest rules h d × Hold rules h e (journal_of d) (vault_of d) × KeepsOthers (Journal i) c d
    journal_may may =
        let step = may.here journal_mark (journal_of c) sized (log_told journal_mark c.journal rest.journal) in
        let now = journal_now step.0 step.1 may.other step.2.log_now in
        (now.0, now.1, now.2)

    pub journal_scrubs : Scrubs area.Journal sizes i c d → Rest rules h d × Hold rules h e (journal_of d) (vault_of d) × IsZeroed (Journal i) c d × KeepsOthers (Journal i) c d
    journal_scrubs scrubs =
        let step = scrubs.here journal_mark (journal_of c) sized (log_told journal_mark c.journal rest.journal) in
        let now = journal_now (replicate (length (payload_of (journal_of c) i)) 0) (length-replicate (length (payload_of (journal_of c) i)) 0) scrubs.other step.log_now in
        (now.0, now.1, ap (λ (j : List Record). payload_of j i) now.3 ∙ replaced_zeros (journal_of c) i, now.2)

  -- the vault

  module _ (dead : IsLive (after rules h) (Vault i) → ⊥) (sized : map size_of (vault_of c) ≡ sizes) where
    vault_now : (payload : List ℕ) → length payload ≡ length (payload_of (vault_of c) i) → d.journal ≡ c.journal → Log vault_mark (replaced (vault_of c) i payload) d.vault →
        Rest rules h d × Hold rules h e (journal_of d) (vault_of d) × KeepsOthers (Vault i) c d × (vault_of d ≡ replaced (vault_of c) i payload)
    vault_now payload long same log = (
      record {
        journal = subst (λ (j : List ℕ). IsLog journal_mark j) (sym same) rest.journal;
        vault = told.0;
        spell = now.spell;
      },
      now,
      λ other apart.
          ap (λ (v : List Record). payload_in (journal_of d) v other) told.1 ∙
          (ap (λ (j : List ℕ). payload_in (held j) (replaced (vault_of c) i payload) other) same ∙ vault_other (journal_of c) (vault_of c) i payload other apart),
      told.1,
    )
      where
        told : IsLog vault_mark d.vault × (vault_of d ≡ replaced (vault_of c) i payload)
        told = told_log vault_mark (replaced (vault_of c) i payload) d.vault log

        now : Hold rules h e (journal_of d) (vault_of d)
        now =
            subst (λ (j : List ℕ). Hold rules h e (held j) (vault_of d)) (sym same)
            (subst (λ (v : List Record). Hold rules h e (journal_of c) v) (sym told.1) (vault_dead rules h e (journal_of c) (vault_of c) i payload hold dead long))

    pub vault_may : MayScrub area.Vault sizes i c d → Rest rules h d × Hold rules h e (journal_of d) (vault_of d) × KeepsOthers (Vault i) c d
    vault_may may =
        let step = may.here vault_mark (vault_of c) sized (log_told vault_mark c.vault rest.vault) in
        let now = vault_now step.0 step.1 may.other step.2.log_now in
        (now.0, now.1, now.2)

    pub vault_scrubs : Scrubs area.Vault sizes i c d → Rest rules h d × Hold rules h e (journal_of d) (vault_of d) × IsZeroed (Vault i) c d × KeepsOthers (Vault i) c d
    vault_scrubs scrubs =
        let step = scrubs.here vault_mark (vault_of c) sized (log_told vault_mark c.vault rest.vault) in
        let now = vault_now (replicate (length (payload_of (vault_of c) i)) 0) (length-replicate (length (payload_of (vault_of c) i)) 0) scrubs.other step.log_now in
        (now.0, now.1, ap (λ (v : List Record). payload_of v i) now.3 ∙ replaced_zeros (vault_of c) i, now.2)
