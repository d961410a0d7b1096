-- Whatever stands in a payload that is not needed, the records hold the same.
use Rattle.std.proofs.Common.{◌≡◌, ℕ, List, [], length, refl, sym, ap, ◌∙◌}
use Rattle.delf_model.specs.declared.entry.Entry.{Entry}
use Rattle.delf_model.specs.RuleSet.{RuleSet}
use Rattle.delf_model.specs.Step.{after}
use Rattle.delf_model.specs.Payloads.{Payloads, Carrier, Journal, Vault, last_carrier}
use Rattle.gate_log.specs.Records.{Record, payload_of, replaced}
use Rattle.payload_laws.specs.Holders.{IsLive}
use Rattle.store_laws.specs.Stores.{seal_in, seals_of, payload_in, item_heads, Hold}
use Rattle.store_laws.proofs.Places.{replaced_other, replaced_heads, replaced_lengths}

pub journal_other : (journal vault : List Record) (i : ℕ) (payload : List ℕ) (c : Carrier) → (c ≡ Journal i → ⊥) → payload_in (replaced journal i payload) vault c ≡ payload_in journal vault c
journal_other journal vault i payload (Journal q) apart = replaced_other journal i payload q (λ same. apart (ap Journal same))
journal_other journal vault i payload (Vault q) apart = refl

pub vault_other : (journal vault : List Record) (i : ℕ) (payload : List ℕ) (c : Carrier) → (c ≡ Vault i → ⊥) → payload_in journal (replaced vault i payload) c ≡ payload_in journal vault c
vault_other journal vault i payload (Journal q) apart = refl
vault_other journal vault i payload (Vault q) apart = replaced_other vault i payload q (λ same. apart (ap Vault same))

pub journal_dead : (rules : RuleSet) (h : List Entry) (e : Payloads) (journal vault : List Record) (i : ℕ) (payload : List ℕ) →
    Hold rules h e journal vault → (IsLive (after rules h) (Journal i) → ⊥) → length payload ≡ length (payload_of journal i) → Hold rules h e (replaced journal i payload) vault
journal_dead rules h e journal vault i payload hold dead same = record {
  spell = record {
    entries = hold.spell.entries;
    heads = replaced_heads (λ (l : List ℕ). l) journal i payload ∙ hold.spell.heads;
    sizes = replaced_lengths journal i payload same ∙ hold.spell.sizes;
    items = hold.spell.items;
    item_sizes = hold.spell.item_sizes;
  };
  reads = λ p needed. journal_other journal vault i payload (last_carrier (after rules h) p) (λ here. dead (p, needed, here)) ∙ hold.reads p needed;
  seals = hold.seals;
  alone = hold.alone;
}

pub vault_dead : (rules : RuleSet) (h : List Entry) (e : Payloads) (journal vault : List Record) (i : ℕ) (payload : List ℕ) →
    Hold rules h e journal vault → (IsLive (after rules h) (Vault i) → ⊥) → length payload ≡ length (payload_of vault i) → Hold rules h e journal (replaced vault i payload)
vault_dead rules h e journal vault i payload hold dead same = record {
  spell = record {
    entries = hold.spell.entries;
    heads = hold.spell.heads;
    sizes = hold.spell.sizes;
    items = replaced_heads (λ (l : List ℕ). l) vault i payload ∙ (hold.spell.items ∙ ap (item_heads (after rules h).items) (sym seals));
    item_sizes = replaced_lengths vault i payload same ∙ hold.spell.item_sizes;
  };
  reads = λ p needed. vault_other journal vault i payload (last_carrier (after rules h) p) (λ here. dead (p, needed, here)) ∙ hold.reads p needed;
  seals = seals ∙ hold.seals;
  alone = hold.alone;
}
  where
    seals : seals_of (replaced vault i payload) ≡ seals_of vault
    seals = replaced_heads (λ (l : List ℕ). seal_in (record { head = l; payload = [] })) vault i payload
