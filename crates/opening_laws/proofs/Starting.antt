-- What a start of a log makes of the areas.
use Rattle.std.proofs.Common.{◌≡◌, ℕ, ◌<◌, ◌≤◌, Bool, true, false, leb, List, [], length, take, refl, sym, ap, ◌∙◌, subst, arith, inl, inr, ◌⊎◌}
use Rattle.std.proofs.lemmas.Bool.{false≢true, le-leb, leb-true, leb-false, cond-true}
use Rattle.std.proofs.lemmas.List.{length-map, nil_from_length}
use Rattle.std.specs.Prelude.{map}
use Rattle.delf_disk.specs.Areas.{Areas}
use Rattle.delf_disk.specs.Images.{TornAt, Torn}
use Rattle.delf_disk.specs.declared.area.Area.TheVariants as area
use Rattle.gate_log.specs.Records.{Record, size_of}
use Rattle.gate_log.specs.Logs.{records}
use Rattle.gate_log.specs.Opening.{Starts}
use Rattle.delf_model.specs.declared.entry.Entry.{Entry}
use Rattle.delf_model.specs.RuleSet.{RuleSet}
use Rattle.delf_model.specs.Step.{after}
use Rattle.delf_model.specs.Payloads.{Payloads, no_payloads}
use Rattle.store_laws.specs.Logged.{held, IsLog, IsArea}
use Rattle.store_laws.specs.Stores.{Hold, StandBut, journal_mark, vault_mark, journal_of, vault_of, vault_for}
use Rattle.store_laws.proofs.Spelled.{told_log}

-- an area that was never written whole

blank_held : (bytes : List ℕ) → length bytes ≤ 9 → held bytes ≡ []
blank_held bytes few = cond-true (leb (length bytes) 9) [] (records bytes) (le-leb (length bytes) 9 few)

blank_area : (mark bytes : List ℕ) → length bytes ≤ 9 → IsArea mark bytes
blank_area mark bytes few written = absurd (false≢true (sym written ∙ le-leb (length bytes) 9 few))

torn_few : (old new : List ℕ) → length old ≤ 9 → TornAt 0 9 old new → length new ≤ 9
torn_few old new few torn = omega (arith, few, torn.no_longer)

empty_held : (rules : RuleSet) → Hold rules [] no_payloads [] []
empty_held rules = record {
  spell = record { entries = tt; heads = refl; sizes = refl; items = refl; item_sizes = refl };
  reads = λ p needed. absurd (false≢true needed);
  seals = refl;
  alone = λ p unneeded. refl;
}

pub blank_stands : (rules : RuleSet) (c : Areas) → length c.journal ≤ 9 → length c.vault ≤ 9 → StandBut rules [] no_payloads c
blank_stands rules c journal vault = record {
  legal = refl;
  journal = blank_area journal_mark c.journal journal;
  vault = blank_area vault_mark c.vault vault;
  one = omega (arith, ap length (blank_held c.vault vault));
  hold =
      subst (λ (j : List Record). Hold rules [] no_payloads j (take 0 (vault_of c))) (sym (blank_held c.journal journal))
      (subst (λ (v : List Record). Hold rules [] no_payloads [] (take 0 v)) (sym (blank_held c.vault vault)) (empty_held rules));
}

-- areas with the same records stand for the same
module _ (rules : RuleSet) (h : List Entry) (e : Payloads) (c d : Areas) (but : StandBut rules h e c) where
  same_records : IsArea journal_mark d.journal → IsArea vault_mark d.vault → journal_of d ≡ journal_of c → vault_of d ≡ vault_of c → StandBut rules h e d
  same_records journal vault journals vaults = record {
    legal = but.legal;
    journal = journal;
    vault = vault;
    one = omega (arith, but.one, ap length vaults);
    hold =
        subst (λ (v : List Record). Hold rules h e (journal_of d) (take (length (after rules h).items) v)) (sym vaults)
        (subst (λ (j : List Record). Hold rules h e j (vault_for rules h c)) (sym journals) but.hold);
  }

  journal_area_same : d.journal ≡ c.journal → IsArea journal_mark d.journal
  journal_area_same same = subst (λ (j : List ℕ). IsArea journal_mark j) (sym same) but.journal

  vault_area_same : d.vault ≡ c.vault → IsArea vault_mark d.vault
  vault_area_same same = subst (λ (v : List ℕ). IsArea vault_mark v) (sym same) but.vault

  pub journal_torn : length c.journal ≤ 9 → Torn area.Journal 0 9 c d → StandBut rules h e d
  journal_torn few torn =
      let now : length d.journal ≤ 9 = torn_few c.journal d.journal few torn.here in
      same_records (blank_area journal_mark d.journal now) (vault_area_same torn.other) (blank_held d.journal now ∙ sym (blank_held c.journal few)) (ap held torn.other)

  pub vault_torn : length c.vault ≤ 9 → Torn area.Vault 0 9 c d → StandBut rules h e d
  vault_torn few torn =
      let now : length d.vault ≤ 9 = torn_few c.vault d.vault few torn.here in
      same_records (journal_area_same torn.other) (blank_area vault_mark d.vault now) (ap held torn.other) (blank_held d.vault now ∙ sym (blank_held c.vault few))

-- a started log holds the records that the area held

none_sized : (rs : List Record) (sizes : List (ℕ × ℕ)) → map size_of rs ≡ sizes → sizes ≡ [] → rs ≡ []
none_sized rs sizes sized none = nil_from_length rs (sym (length-map rs size_of) ∙ ap length (sized ∙ none))

small_or_not : (n : ℕ) → (n ≤ 9) ⊎ (9 < n)
small_or_not n = by_test (leb n 9) refl
  where
    by_test : (b : Bool) → leb n 9 ≡ b → (n ≤ 9) ⊎ (9 < n)
    by_test true is = inl (leb-true n 9 is)
    by_test false is = inr (leb-false n 9 is)

module _ (rules : RuleSet) (h : List Entry) (e : Payloads) (sizes : List (ℕ × ℕ)) (c d : Areas) (but : StandBut rules h e c) where
  pub journal_starts : Starts area.Journal journal_mark sizes c d →
      StandBut rules h e d × IsLog journal_mark d.journal × (map size_of (journal_of d) ≡ sizes) × (journal_of d ≡ journal_of c) × (d.vault ≡ c.vault)
  journal_starts starts =
      (same_records rules h e c d but (λ written. told.0) (vault_area_same rules h e c d but starts.other) same (ap held starts.other), told.0, ap (map size_of) told.1 ∙ starts.sized, same, starts.other)
    where
      told : IsLog journal_mark d.journal × (journal_of d ≡ starts.records)
      told = told_log journal_mark starts.records d.journal starts.log

      by_size : (length c.journal ≤ 9) ⊎ (9 < length c.journal) → journal_of d ≡ journal_of c
      by_size (inl few) = told.1 ∙ (none_sized starts.records sizes starts.sized (starts.blank few).0 ∙ sym (blank_held c.journal few))
      by_size (inr many) = ap held (starts.longer many)

      same : journal_of d ≡ journal_of c
      same = by_size (small_or_not (length c.journal))

  pub vault_starts : Starts area.Vault vault_mark sizes c d →
      StandBut rules h e d × IsLog vault_mark d.vault × (map size_of (vault_of d) ≡ sizes) × (d.journal ≡ c.journal) × (vault_of d ≡ vault_of c)
  vault_starts starts =
      (same_records rules h e c d but (journal_area_same rules h e c d but starts.other) (λ written. told.0) (ap held starts.other) same, told.0, ap (map size_of) told.1 ∙ starts.sized, starts.other, same)
    where
      told : IsLog vault_mark d.vault × (vault_of d ≡ starts.records)
      told = told_log vault_mark starts.records d.vault starts.log

      by_size : (length c.vault ≤ 9) ⊎ (9 < length c.vault) → vault_of d ≡ vault_of c
      by_size (inl few) = told.1 ∙ (none_sized starts.records sizes starts.sized (starts.blank few).0 ∙ sym (blank_held c.vault few))
      by_size (inr many) = ap held (starts.longer many)

      same : vault_of d ≡ vault_of c
      same = by_size (small_or_not (length c.vault))
