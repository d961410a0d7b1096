-- Areas of which nothing was written but the marks of blank ones.
use Rattle.std.proofs.Common.{◌≡◌, ℕ, ◌<◌, ◌≤◌, leb, List, length, refl, sym, ◌∙◌, subst, arith, inl, inr, ◌⊎◌}
use Rattle.std.proofs.lemmas.Bool.{false≢true, le-leb}
use Rattle.delf_disk.specs.declared.area.Area.{Area}
use Rattle.delf_disk.specs.declared.area.Area.TheVariants as area
use Rattle.delf_disk.specs.Areas.{Areas, area_of}
use Rattle.delf_disk.specs.Images.{TornAt, Torn, Same, Only}
use Rattle.delf_disk.specs.Moments.{Runs, Leaves}
use Rattle.delf_disk.proofs.Moments.{leaves_first, leaves_widened}
use Rattle.gate_log.specs.Records.{Record}
use Rattle.delf_model.specs.declared.entry.Entry.{Entry}
use Rattle.delf_model.specs.RuleSet.{RuleSet}
use Rattle.delf_model.specs.State.{Logged, start}
use Rattle.delf_model.specs.Step.{after}
use Rattle.store_laws.specs.Logged.{held, IsArea}
use Rattle.store_laws.specs.Stores.{journal_mark}
use Rattle.opening_laws.specs.Places.{AreRecordsOf, BadJournal, BadVault, BadPlace, ReadsJournal}
use Rattle.delf_book.proofs.Writes.{leaves_joined}
use Rattle.delf_recovery.specs.declared.fault.OpenFault.{OpenFault}
use Rattle.delf_recovery.specs.declared.fault.OpenFault.TheVariants.{DiskFault, OutOfMemory, BadStore}
use Rattle.delf_recovery.specs.Opening.{IsKept, KeepsLonger, StaysBad, IsBadAt, StaysAsRead, WantLeaves}
use Rattle.delf_recovery.specs.Reading.{IsOfReading}
use Rattle.delf_recovery.proofs.Started.{small_or_not, blank_held}

same_kept : (old new : List ℕ) → new ≡ old → IsKept old new
same_kept old new same = record { longer = λ many. same; blank = λ few. omega (arith, few, length_same old new same) }
  where
    length_same : (a b : List ℕ) → b ≡ a → length b ≡ length a
    length_same a b is = subst (λ (x : List ℕ). length b ≡ length x) is refl

torn_kept : (old new : List ℕ) → length old ≤ 9 → TornAt 0 9 old new → IsKept old new
torn_kept old new few torn = record { longer = λ many. absurd (omega (arith, few, many)); blank = λ again. omega (arith, few, torn.no_longer) }

kept_on : (a b c : List ℕ) → IsKept a b → IsKept b c → IsKept a c
kept_on a b c one two = record {
  longer = λ many. two.longer (subst (λ (x : List ℕ). 9 < length x) (sym (one.longer many)) many) ∙ one.longer many;
  blank = λ few. two.blank (one.blank few);
}

pub keeps_same : (c d : Areas) → d ≡ c → KeepsLonger c d
keeps_same c d same = subst (KeepsLonger c) (sym same) (record { journal = same_kept c.journal c.journal refl; vault = same_kept c.vault c.vault refl })

pub keeps_on : (a b c : Areas) → KeepsLonger a b → KeepsLonger b c → KeepsLonger a c
keeps_on a b c one two = record {
  journal = kept_on a.journal b.journal c.journal one.journal two.journal;
  vault = kept_on a.vault b.vault c.vault one.vault two.vault;
}

torn_keeps : (it : Area) (c d : Areas) → length (area_of it c) ≤ 9 → Torn it 0 9 c d → KeepsLonger c d
torn_keeps area.Journal c d few torn = record { journal = torn_kept c.journal d.journal few torn.here; vault = same_kept c.vault d.vault torn.other }
torn_keeps area.Vault c d few torn = record { journal = same_kept c.journal d.journal torn.other; vault = torn_kept c.vault d.vault few torn.here }

-- a bad place stays where it is

blank_area : (mark bytes : List ℕ) → length bytes ≤ 9 → IsArea mark bytes
blank_area mark bytes few written = absurd (false≢true (sym written ∙ le-leb (length bytes) 9 few))

journal_there : (rules : RuleSet) (c d : List ℕ) (at : ℕ) → IsKept c d → BadJournal rules c at → BadJournal rules d at
journal_there rules c d at kept (inl foreign) = subst (λ (x : List ℕ). BadJournal rules x at) (sym (kept.longer foreign.0.longer)) (inl foreign)
journal_there rules c d at kept (inr bad) = subst (λ (x : List ℕ). BadJournal rules x at) (sym (kept.longer bad.begins.longer)) (inr bad)

vault_there : (items : List Logged) (c d : List ℕ) (at : ℕ) → IsKept c d → BadVault items c at → BadVault items d at
vault_there items c d at kept (inl foreign) = subst (λ (x : List ℕ). BadVault items x at) (sym (kept.longer foreign.0.longer)) (inl foreign)
vault_there items c d at kept (inr (inl blank)) = inr (inl (kept.blank blank.0, blank.1, blank.2))
vault_there items c d at kept (inr (inr bad)) = subst (λ (x : List ℕ). BadVault items x at) (sym (kept.longer bad.begins.longer)) (inr (inr bad))

reads_there : (rules : RuleSet) (h : List Entry) (c d : List ℕ) → IsKept c d → ReadsJournal rules h c → ReadsJournal rules h d
reads_there rules h c d kept reads = by_size (small_or_not (length c))
  where
    by_size : (length c ≤ 9) ⊎ (9 < length c) → ReadsJournal rules h d
    by_size (inl few) = record {
      journal = blank_area journal_mark d (kept.blank few);
      records = subst (λ (rs : List Record). AreRecordsOf (start rules) h rs) (blank_held c few ∙ sym (blank_held d (kept.blank few))) reads.records;
    }
    by_size (inr many) = subst (ReadsJournal rules h) (sym (kept.longer many)) reads

pub bad_there : (rules : RuleSet) (c d : Areas) (it : Area) (at : ℕ) → KeepsLonger c d → BadPlace rules c it at → BadPlace rules d it at
bad_there rules c d area.Journal at keeps bad = journal_there rules c.journal d.journal at keeps.journal bad
bad_there rules c d area.Vault at keeps bad =
    (bad.0, reads_there rules bad.0 c.journal d.journal keeps.journal bad.1, vault_there (after rules bad.0).items c.vault d.vault at keeps.vault bad.2)

pub stays_bad : (rules : RuleSet) (c d : Areas) (it : Area) (at : ℕ) → KeepsLonger c d → BadPlace rules c it at → StaysBad rules it at c d
stays_bad rules c d it at keeps bad = record { kept = keeps; bad = bad_there rules c d it at keeps bad }

-- what the answer tells of what a crash leaves then
pub as_read : {R : Type 0} (rules : RuleSet) (c : Areas) (may_leave : R → Areas → Type 0) (rig : R) (fault : OpenFault) → IsBadAt rules c fault →
    (IsOfReading fault → (x : Areas) → may_leave rig x → KeepsLonger c x) → StaysAsRead rules c may_leave rig fault
as_read rules c may_leave rig DiskFault bad keeps = tt
as_read rules c may_leave rig OutOfMemory bad keeps = keeps tt
as_read rules c may_leave rig (BadStore it at) bad keeps = λ x image. stays_bad rules c x it at (keeps tt x image) bad

pub want_leaves : {R : Type 0} (may_leave : R → Areas → Type 0) (P : Areas → Type 0) (rig : R) (fault : OpenFault) →
    (IsOfReading fault → (x : Areas) → may_leave rig x → P x) → WantLeaves may_leave P rig fault
want_leaves may_leave P rig DiskFault has = tt
want_leaves may_leave P rig OutOfMemory has = has tt
want_leaves may_leave P rig (BadStore it at) has = tt

module _ {D : Type 0} {moment : D → ℕ} {may_leave : D → Areas → Type 0} {left_since : D → ℕ → Areas → Type 0} where
  -- the start of a log
  pub start_keeps : {old new : D} (it : Area) (c : Areas) → Only c (may_leave old) →
      (length (area_of it c) ≤ 9 → Runs moment may_leave left_since (Torn it 0 9) old new) → (9 < length (area_of it c) → Runs moment may_leave left_since Same old new) →
      Leaves moment may_leave left_since (KeepsLonger c) old new
  start_keeps {old} {new} it c only blank longer = by_size (small_or_not (length (area_of it c)))
    where
      by_size : (length (area_of it c) ≤ 9) ⊎ (9 < length (area_of it c)) → Leaves moment may_leave left_since (KeepsLonger c) old new
      by_size (inl few) = leaves_first (blank few) (λ m x image torn. torn_keeps it c x few (subst (λ (y : Areas). Torn it 0 9 y x) (only m image) torn))
      by_size (inr many) = leaves_first (longer many) (λ m x image same. keeps_same c x (same ∙ only m image))

  -- one part of an opening, and then another
  pub keeps_joined : {old mid new : D} (a b : Areas) → Leaves moment may_leave left_since (KeepsLonger a) old mid → KeepsLonger a b →
      Leaves moment may_leave left_since (KeepsLonger b) mid new → Leaves moment may_leave left_since (KeepsLonger a) old new
  keeps_joined a b one here two = leaves_joined one (leaves_widened two (λ x keeps. keeps_on a b x here keeps))
