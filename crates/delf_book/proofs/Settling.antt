-- What a settled area holds.
use Rattle.std.proofs.Common.{◌≡◌, ℕ, zero, suc, ◌+◌, true, List, ◌∷◌, ◌++◌, length, map, drop, replicate, refl, sym, ap, ◌∙◌, subst, arith, length-append}
use Rattle.std.proofs.lemmas.List.{drop_at}
use Rattle.std.specs.Prelude.{IsTrue}
use Rattle.delf_disk.specs.Areas.{Areas, rest_of}
use Rattle.delf_disk.specs.Images.{After}
use Rattle.delf_disk.specs.declared.area.Area.{Area}
use Rattle.delf_disk.specs.declared.area.Area.TheVariants as area
use Rattle.delf_disk.specs.Moments.{Runs, Leaves}
use Rattle.delf_disk.proofs.Moments.{leaves_first}
use Rattle.gate_log.specs.Records.{Record, size_of, spelled}
use Rattle.gate_log.specs.Logs.{Log, Stands, StandIn}
use Rattle.gate_log.specs.Steps.{MaySettle, Settles}
use Rattle.delf_model.specs.declared.entry.Entry.{Entry}
use Rattle.delf_model.specs.RuleSet.{RuleSet}
use Rattle.delf_model.specs.Step.{after}
use Rattle.delf_model.specs.Payloads.{Payloads}
use Rattle.store_laws.specs.Logged.{held, behind, are_zeros, IsLog}
use Rattle.store_laws.specs.Stores.{Hold, Clean, Settled, AreScrubbed, journal_mark, vault_mark, journal_of, vault_of}
use Rattle.store_laws.specs.Moves.{RestIn}
use Rattle.store_laws.proofs.Spelled.{told_log, log_told}
use Rattle.store_laws.proofs.Appends.{journal_sizes, vault_sizes}
use Rattle.delf_book.specs.Writing.{Rests}

zeros : (n : ℕ) → are_zeros (replicate n 0) ≡ true
zeros zero = refl
zeros (suc n) = zeros n

-- zeros in the tail of a log are those behind its closed gate
tail_zeros : (mark : List ℕ) (rs : List Record) (bytes : List ℕ) (n : ℕ) (log : Log mark rs bytes) → log.tail ≡ replicate n 0 → are_zeros (drop 1 (behind bytes)) ≡ true
tail_zeros mark rs bytes n log is =
    let long : length (mark ++ spelled rs) ≡ 8 + length (spelled rs) = omega (arith, log.eight, length-append mark (spelled rs)) in
    let there : behind bytes ≡ log.gate ∷ log.tail =
    ap (λ (l : List Record). drop (8 + length (spelled l)) bytes) (told_log mark rs bytes log).1 ∙
    (ap (λ (l : List ℕ). drop (8 + length (spelled rs)) l) log.split ∙ drop_at (mark ++ spelled rs) (log.gate ∷ log.tail) (8 + length (spelled rs)) long) in
    ap (λ (l : List ℕ). are_zeros (drop 1 l)) there ∙ (ap are_zeros is ∙ zeros n)

-- the same records in both areas
module _ (rules : RuleSet) (h : List Entry) (e : Payloads) (c d : Areas) (rests : Rests rules h e c) where
  pub same_journal : d.vault ≡ c.vault → Log journal_mark (journal_of c) d.journal → Rests rules h e d × (journal_of d ≡ journal_of c)
  same_journal same log =
      let told = told_log journal_mark (journal_of c) d.journal log in
      let hold : Hold rules h e (journal_of d) (vault_of d) =
      subst (λ (v : List ℕ). Hold rules h e (journal_of d) (held v)) (sym same) (subst (λ (j : List Record). Hold rules h e j (vault_of c)) (sym told.1) rests.1) in
      ((record { journal = told.0; vault = subst (λ (v : List ℕ). IsLog vault_mark v) (sym same) rests.0.vault; spell = hold.spell }, hold), told.1)

  pub same_vault : d.journal ≡ c.journal → Log vault_mark (vault_of c) d.vault → Rests rules h e d × (vault_of d ≡ vault_of c)
  same_vault same log =
      let told = told_log vault_mark (vault_of c) d.vault log in
      let hold : Hold rules h e (journal_of d) (vault_of d) =
      subst (λ (j : List ℕ). Hold rules h e (held j) (vault_of d)) (sym same) (subst (λ (v : List Record). Hold rules h e (journal_of c) v) (sym told.1) rests.1) in
      ((record { journal = subst (λ (j : List ℕ). IsLog journal_mark j) (sym same) rests.0.journal; vault = told.0; spell = hold.spell }, hold), told.1)

module _ (rules : RuleSet) (h : List Entry) (e : Payloads) (place : Area) (sizes : List (ℕ × ℕ)) where
  pub journal_settles : {D : Type 0} {moment : D → ℕ} {may_leave : D → Areas → Type 0} {left_since : D → ℕ → Areas → Type 0} {old new : D} → place ≡ area.Journal →
      RestIn rules h e (may_leave old) → StandIn place sizes (may_leave old) → Runs moment may_leave left_since (MaySettle place sizes) old new →
      Leaves moment may_leave left_since (Rests rules h e) old new
  journal_settles {may_leave} {old} is rests stand run =
      leaves_first run (λ c d image may.
      let here = rests c image in
      let may' = subst (λ (a : Area). MaySettle a sizes c d) is may in
      let step = may'.here journal_mark (journal_of c) (journal_sizes c sizes (subst (λ (a : Area). StandIn a sizes (may_leave old)) is stand c image)) (log_told journal_mark c.journal here.0.journal) in
      (same_journal rules h e c d here may'.other step.0).0)

  pub vault_settles : {D : Type 0} {moment : D → ℕ} {may_leave : D → Areas → Type 0} {left_since : D → ℕ → Areas → Type 0} {old new : D} → place ≡ area.Vault →
      RestIn rules h e (may_leave old) → StandIn place sizes (may_leave old) → Runs moment may_leave left_since (MaySettle place sizes) old new →
      Leaves moment may_leave left_since (Rests rules h e) old new
  vault_settles {may_leave} {old} is rests stand run =
      leaves_first run (λ c d image may.
      let here = rests c image in
      let may' = subst (λ (a : Area). MaySettle a sizes c d) is may in
      let step = may'.here vault_mark (vault_of c) (vault_sizes c sizes (subst (λ (a : Area). StandIn a sizes (may_leave old)) is stand c image)) (log_told vault_mark c.vault here.0.vault) in
      (same_vault rules h e c d here may'.other step.0).0)

-- both areas, one after the other
module _ (rules : RuleSet) (h : List Entry) (e : Payloads) (c m d : Areas) (journal_place vault_place : Area) (journal_long vault_long : List (ℕ × ℕ))
    (journal_is : journal_place ≡ area.Journal) (vault_is : vault_place ≡ area.Vault) (here : Rests rules h e c) (mid : Rests rules h e m) (clean : Clean rules h c)
    (journal_sized : map size_of (journal_of c) ≡ journal_long) (vault_sized : map size_of (vault_of m) ≡ vault_long) where
  pub both_settled : Settles journal_place journal_long c m → Settles vault_place vault_long m d → Settled rules h d
  both_settled first second =
      let one = subst (λ (a : Area). Settles a journal_long c m) journal_is first in
      let two = subst (λ (a : Area). Settles a vault_long m d) vault_is second in
      let journal = one.here journal_mark (journal_of c) journal_sized (log_told journal_mark c.journal here.0.journal) in
      let vault = two.here vault_mark (vault_of m) vault_sized (log_told vault_mark m.vault mid.0.vault) in
      let at_mid = same_journal rules h e c m here one.other journal.0 in
      let at_end = same_vault rules h e m d mid two.other vault.0 in
      let journals : journal_of d ≡ journal_of c = ap held two.other ∙ at_mid.1 in
      let vaults : vault_of d ≡ vault_of c = at_end.1 ∙ ap held one.other in
      record {
        clean = record {
          rest = at_end.0.0;
          scrubbed =
              subst (λ (j : List Record). AreScrubbed (after rules h) j (vault_of d)) (sym journals)
              (subst (λ (v : List Record). AreScrubbed (after rules h) (journal_of c) v) (sym vaults) clean.scrubbed);
        };
        journal_tail = subst (λ (j : List ℕ). IsTrue (are_zeros (drop 1 (behind j)))) (sym two.other) (tail_zeros journal_mark (journal_of c) m.journal _ journal.0 journal.2);
        vault_tail = tail_zeros vault_mark (vault_of m) d.vault _ vault.0 vault.2;
      }

-- the other area stands for what it stood for
vault_same : (sizes : List (ℕ × ℕ)) (d x : Areas) → x.vault ≡ d.vault → Stands area.Vault sizes d → Stands area.Vault sizes x
vault_same sizes d x same stood = record {
  mark = stood.mark;
  records = stood.records;
  sized = stood.sized;
  log = subst (λ (v : List ℕ). Log stood.mark stood.records v) (sym same) stood.log;
}

pub vault_stays : (place journal_place : Area) (sizes : List (ℕ × ℕ)) (d x : Areas) → place ≡ area.Vault → journal_place ≡ area.Journal → rest_of journal_place x ≡ rest_of journal_place d →
    Stands place sizes d → Stands place sizes x
vault_stays place journal_place sizes d x is journal_is same stood =
    subst (λ (a : Area). Stands a sizes x) (sym is)
    (vault_same sizes d x (subst (λ (a : Area). rest_of a x ≡ rest_of a d) journal_is same) (subst (λ (a : Area). Stands a sizes d) is stood))

pub vault_stand_after : (place journal_place : Area) (sizes journal_long : List (ℕ × ℕ)) (old : Areas → Type 0) (x : Areas) → place ≡ area.Vault → journal_place ≡ area.Journal →
    StandIn place sizes old → After (MaySettle journal_place journal_long) old x → Stands place sizes x
vault_stand_after place journal_place sizes journal_long old x is journal_is stand after =
    vault_stays place journal_place sizes after.0 x is journal_is after.2.other (stand after.0 after.1)

pub journal_sized_at : (place : Area) (sizes : List (ℕ × ℕ)) (c : Areas) → place ≡ area.Journal → Stands place sizes c → map size_of (journal_of c) ≡ sizes
journal_sized_at place sizes c is stood = journal_sizes c sizes (subst (λ (a : Area). Stands a sizes c) is stood)

pub vault_sized_at : (place : Area) (sizes : List (ℕ × ℕ)) (c : Areas) → place ≡ area.Vault → Stands place sizes c → map size_of (vault_of c) ≡ sizes
vault_sized_at place sizes c is stood = vault_sizes c sizes (subst (λ (a : Area). Stands a sizes c) is stood)
