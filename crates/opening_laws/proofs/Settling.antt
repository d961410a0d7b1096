-- What a step over the bytes behind a closed gate makes of the areas.
use Rattle.std.proofs.Common.{◌≡◌, ℕ, zero, suc, ◌+◌, true, List, ◌∷◌, ◌++◌, length, drop, refl, sym, ap, ◌∙◌, subst, arith, length-append}
use Rattle.std.proofs.lemmas.List.{drop_at}
use Rattle.std.specs.Prelude.{map, replicate, IsTrue}
use Rattle.delf_disk.specs.Areas.{Areas}
use Rattle.delf_disk.specs.declared.area.Area.{Area}
use Rattle.delf_disk.specs.declared.area.Area.TheVariants as area
use Rattle.gate_log.specs.Records.{Record, size_of, spelled}
use Rattle.gate_log.specs.Logs.{Log}
use Rattle.gate_log.specs.Steps.{MaySettle, Settles}
use Rattle.delf_model.specs.declared.entry.Entry.{Entry}
use Rattle.delf_model.specs.RuleSet.{RuleSet}
use Rattle.delf_model.specs.Step.{after}
use Rattle.delf_model.specs.Payloads.{Payloads}
use Rattle.store_laws.specs.Logged.{held, IsLog, behind, are_zeros}
use Rattle.store_laws.specs.Stores.{Hold, Rest, Spell, Clean, Settled, AreScrubbed, journal_mark, vault_mark, journal_of, vault_of}
use Rattle.store_laws.proofs.Spelled.{told_log, log_told, held_log}

pub settled_may : (it : Area) (sizes : List (ℕ × ℕ)) (c d : Areas) → Settles it sizes c d → MaySettle it sizes c d
settled_may it sizes c d settles = record {
  other = settles.other;
  here = λ mark records sized log. let now = settles.here mark records sized log in (now.0, now.1);
}

pub holds_same : (rules : RuleSet) (h : List Entry) (e : Payloads) (c d : Areas) → Hold rules h e (journal_of c) (vault_of c) → journal_of d ≡ journal_of c → vault_of d ≡ vault_of c → Hold rules h e (journal_of d) (vault_of d)
holds_same rules h e c d hold journals vaults =
    subst (λ (v : List Record). Hold rules h e (journal_of d) v) (sym vaults) (subst (λ (j : List Record). Hold rules h e j (vault_of c)) (sym journals) hold)

spells_same : (rules : RuleSet) (h : List Entry) (c d : Areas) → Spell rules h (journal_of c) (vault_of c) → journal_of d ≡ journal_of c → vault_of d ≡ vault_of c → Spell rules h (journal_of d) (vault_of d)
spells_same rules h c d spell journals vaults =
    subst (λ (v : List Record). Spell rules h (journal_of d) v) (sym vaults) (subst (λ (j : List Record). Spell rules h j (vault_of c)) (sym journals) spell)

scrubs_same : (rules : RuleSet) (h : List Entry) (c d : Areas) → AreScrubbed (after rules h) (journal_of c) (vault_of c) → journal_of d ≡ journal_of c → vault_of d ≡ vault_of c → AreScrubbed (after rules h) (journal_of d) (vault_of d)
scrubs_same rules h c d scrubbed journals vaults =
    subst (λ (v : List Record). AreScrubbed (after rules h) (journal_of d) v) (sym vaults) (subst (λ (j : List Record). AreScrubbed (after rules h) j (vault_of c)) (sym journals) scrubbed)

-- the same records stand, in both areas
module _ (rules : RuleSet) (h : List Entry) (c d : Areas) (rest : Rest rules h c) where
  journal_kept : d.vault ≡ c.vault → Log journal_mark (journal_of c) d.journal → Rest rules h d × (journal_of d ≡ journal_of c) × (vault_of d ≡ vault_of c)
  journal_kept same log = (
    record {
      journal = told.0;
      vault = subst (λ (v : List ℕ). IsLog vault_mark v) (sym same) rest.vault;
      spell = spells_same rules h c d rest.spell told.1 (ap held same);
    },
    told.1,
    ap held same,
  )
    where
      told : IsLog journal_mark d.journal × (journal_of d ≡ journal_of c)
      told = told_log journal_mark (journal_of c) d.journal log

  vault_kept : d.journal ≡ c.journal → Log vault_mark (vault_of c) d.vault → Rest rules h d × (journal_of d ≡ journal_of c) × (vault_of d ≡ vault_of c)
  vault_kept same log = (
    record {
      journal = subst (λ (j : List ℕ). IsLog journal_mark j) (sym same) rest.journal;
      vault = told.0;
      spell = spells_same rules h c d rest.spell (ap held same) told.1;
    },
    ap held same,
    told.1,
  )
    where
      told : IsLog vault_mark d.vault × (vault_of d ≡ vault_of c)
      told = told_log vault_mark (vault_of c) d.vault log

  pub journal_may : (sizes : List (ℕ × ℕ)) → map size_of (journal_of c) ≡ sizes → MaySettle area.Journal sizes c d → Rest rules h d × (journal_of d ≡ journal_of c) × (vault_of d ≡ vault_of c)
  journal_may sizes sized may = journal_kept may.other (may.here journal_mark (journal_of c) sized (log_told journal_mark c.journal rest.journal)).0

  pub vault_may : (sizes : List (ℕ × ℕ)) → map size_of (vault_of c) ≡ sizes → MaySettle area.Vault sizes c d → Rest rules h d × (journal_of d ≡ journal_of c) × (vault_of d ≡ vault_of c)
  vault_may sizes sized may = vault_kept may.other (may.here vault_mark (vault_of c) sized (log_told vault_mark c.vault rest.vault)).0

-- zeros behind a closed gate

zeros_are : (n : ℕ) → are_zeros (replicate n 0) ≡ true
zeros_are zero = refl
zeros_are (suc n) = zeros_are n

behind_log : (mark : List ℕ) (rs : List Record) (bytes : List ℕ) → (log : Log mark rs bytes) → behind bytes ≡ log.gate ∷ log.tail
behind_log mark rs bytes log =
    ap (λ (l : List Record). drop (8 + length (spelled l)) bytes) (held_log mark rs bytes log) ∙
    (ap (λ (l : List ℕ). drop (8 + length (spelled rs)) l) log.split ∙
    drop_at (mark ++ spelled rs) (log.gate ∷ log.tail) (8 + length (spelled rs)) (omega (arith, log.eight, length-append mark (spelled rs))))

zeros_behind : (mark : List ℕ) (rs : List Record) (bytes : List ℕ) (n : ℕ) → (log : Log mark rs bytes) → log.tail ≡ replicate n 0 → IsTrue (are_zeros (drop 1 (behind bytes)))
zeros_behind mark rs bytes n log is =
    ap (λ (l : List ℕ). are_zeros (drop 1 l)) (behind_log mark rs bytes log) ∙ (ap are_zeros is ∙ zeros_are n)

module _ (rules : RuleSet) (h : List Entry) (sizes : List (ℕ × ℕ)) (c d : Areas) (clean : Clean rules h c) where
  clean_on : Rest rules h d × (journal_of d ≡ journal_of c) × (vault_of d ≡ vault_of c) → Clean rules h d
  clean_on kept = record { rest = kept.0; scrubbed = scrubs_same rules h c d clean.scrubbed kept.1 kept.2 }

  pub journal_settles : map size_of (journal_of c) ≡ sizes → Settles area.Journal sizes c d → Clean rules h d × IsTrue (are_zeros (drop 1 (behind d.journal)))
  journal_settles sized settles =
      let log = log_told journal_mark c.journal clean.rest.journal in
      let now = settles.here journal_mark (journal_of c) sized log in (
        clean_on (journal_may rules h c d clean.rest sizes sized (settled_may area.Journal sizes c d settles)),
        zeros_behind journal_mark (journal_of c) d.journal (length log.tail) now.0 now.2,
      )

  pub vault_settles : IsTrue (are_zeros (drop 1 (behind c.journal))) → map size_of (vault_of c) ≡ sizes → Settles area.Vault sizes c d → Settled rules h d
  vault_settles before sized settles =
      let log = log_told vault_mark c.vault clean.rest.vault in
      let now = settles.here vault_mark (vault_of c) sized log in
      record {
        clean = clean_on (vault_may rules h c d clean.rest sizes sized (settled_may area.Vault sizes c d settles));
        journal_tail = subst (λ (j : List ℕ). IsTrue (are_zeros (drop 1 (behind j)))) (sym settles.other) before;
        vault_tail = zeros_behind vault_mark (vault_of c) d.vault (length log.tail) now.0 now.2;
      }
