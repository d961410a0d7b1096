-- What the records of the journal tell of the whole of it.
use Rattle.std.proofs.Common.{◌≡◌, ℕ, ◌<◌, ◌≤◌, Bool, true, false, List, ◌∷◌, ◌++◌, length, take, refl, sym, ap, ◌∙◌, subst, arith, inl, inr, ◌⊎◌}
use Rattle.std.proofs.lemmas.Bool.{cases_lt, false≢true}
use Rattle.std.proofs.lemmas.List.{take_all}
use Rattle.std.specs.Prelude.{map}
use Rattle.delf_disk.specs.declared.area.Area.TheVariants as area
use Rattle.delf_disk.specs.Areas.{Areas}
use Rattle.gate_log.specs.Records.{Record, size_of, spelled, AreBounded}
use Rattle.gate_log.specs.Logs.{Front}
use Rattle.gate_log.specs.Opening.{Starts, BreaksOff}
use Rattle.gate_log.specs.Places.{gate_from}
use Rattle.delf_model.specs.declared.entry.Entry.{Entry}
use Rattle.delf_model.specs.RuleSet.{RuleSet}
use Rattle.delf_model.specs.State.{start}
use Rattle.store_laws.specs.Logged.{held}
use Rattle.store_laws.specs.Stores.{journal_mark}
use Rattle.opening_laws.specs.Places.{AreRecordsOf, BadRecord, BadJournal, ReadsJournal}
use Rattle.delf_recovery.specs.declared.fault.OpenFault.{OpenFault}
use Rattle.delf_recovery.specs.declared.fault.OpenFault.TheVariants.{DiskFault, OutOfMemory, BadStore}
use Rattle.delf_recovery.specs.Opening.{IsNotBad}
use Rattle.delf_recovery.specs.Reading.{ShowsBadJournal, ReadsEntries, EndsWrong, record_at}
use Rattle.delf_recovery.proofs.Records.{many_records}
use Rattle.delf_recovery.proofs.Gates.{gate_place, stood, stood_end}
use Rattle.delf_recovery.proofs.Started.{small_or_not, held_before, area_before}

module _ (plain : Type 0) (sizes : List (ℕ × ℕ)) (rules : RuleSet) (h : List Entry) (n : ℕ) (c d : Areas) (is : plain) (read : ReadsEntries plain area.Journal sizes d rules h n) where
  -- a whole journal with all its records
  pub reads_journal : Starts area.Journal journal_mark sizes c d → length sizes ≤ n → ReadsJournal rules h c.journal
  reads_journal starts all =
      let front : Front journal_mark starts.records d.journal =
      record { eight = starts.log.eight; bounded = starts.log.bounded; gate = starts.log.gate; rest = starts.log.tail; split = starts.log.split } in
      let of = read.read is journal_mark starts.records starts.sized front in
      let whole : take n starts.records ≡ held c.journal =
      take_all n starts.records (omega (arith, all, many_records starts.records sizes starts.sized)) ∙ sym (held_before area.Journal journal_mark sizes c d starts) in
      record { journal = area_before area.Journal journal_mark sizes c d starts; records = subst (AreRecordsOf (start rules) h) whole of }

  module _ (rs : List Record) (sized : map size_of rs ≡ sizes) (gate : ℕ) (tail : List ℕ) (longer : 9 < length c.journal) (same : d ≡ c) (bounded : AreBounded rs)
      (split : c.journal ≡ journal_mark ++ spelled rs ++ gate ∷ tail) where
    front_there : Front journal_mark rs d.journal
    front_there = record { eight = refl; bounded = bounded; gate = gate; rest = tail; split = ap (λ (x : Areas). x.journal) same ∙ split }

    -- the first record that is wrong
    wrong_record : n < length sizes → EndsWrong plain area.Journal sizes d rules h n → BadRecord rules c.journal (gate_from 8 sizes n)
    wrong_record inside wrong =
        let many = many_records rs sizes sized in
        let at = stood journal_mark rs gate tail c.journal longer bounded split n (omega (arith, inside, many)) in
        record {
          history = h;
          front = take n rs;
          rest = at.rest;
          records = read.read is journal_mark rs sized front_there;
          begins = at.begins;
          place = gate_place rs sizes n sized (omega (arith, inside, many));
          bad = inr (record_at rs n, at.fits, wrong inside is journal_mark rs sized front_there);
        }

  -- a journal that breaks off behind its records
  broken_off : BreaksOff journal_mark sizes c.journal → d ≡ c → length sizes ≤ n → BadRecord rules c.journal (gate_from 8 sizes n)
  broken_off b same all =
      let many = many_records b.records sizes b.sized in
      record {
        history = h;
        front = take n b.records;
        rest = b.rest;
        records = read.read is journal_mark b.records b.sized (front_there b.records b.sized 165 b.rest b.longer same b.bounded b.split);
        begins = stood_end journal_mark b.records 165 b.rest c.journal b.longer b.bounded b.split n (omega (arith, all, many, read.few));
        place = gate_place b.records sizes n b.sized (omega (arith, many, read.few));
        bad = inl b.unfit;
      }

  module _ (whole : Bool) (starts : whole ≡ true → Starts area.Journal journal_mark sizes c d) (breaks : whole ≡ false → BreaksOff journal_mark sizes c.journal)
      (unwritten : 9 < length c.journal → d ≡ c) (wrong : EndsWrong plain area.Journal sizes d rules h n) where
    pub bad_journal : (n < length sizes) ⊎ (whole ≡ false) → BadJournal rules c.journal (gate_from 8 sizes n)
    bad_journal why = inr (by_whole whole refl why)
      where
        longer_by : (s : Starts area.Journal journal_mark sizes c d) → n < length sizes → 9 < length c.journal
        longer_by s inside = by_size (small_or_not (length c.journal))
          where
            by_size : (length c.journal ≤ 9) ⊎ (9 < length c.journal) → 9 < length c.journal
            by_size (inl few) = absurd (omega (arith, inside, ap length (s.blank few).0))
            by_size (inr many) = many

        first_wrong : (s : Starts area.Journal journal_mark sizes c d) → n < length sizes → BadRecord rules c.journal (gate_from 8 sizes n)
        first_wrong s inside =
            let long = longer_by s inside in
            wrong_record s.records s.sized s.log.gate s.log.tail long (unwritten long) s.log.bounded (sym (s.longer long) ∙ s.log.split) inside wrong

        by_place : BreaksOff journal_mark sizes c.journal → (n < length sizes) ⊎ (length sizes ≤ n) → BadRecord rules c.journal (gate_from 8 sizes n)
        by_place b (inl inside) = wrong_record b.records b.sized 165 b.rest b.longer (unwritten b.longer) b.bounded b.split inside wrong
        by_place b (inr all) = broken_off b (unwritten b.longer) all

        by_whole : (b : Bool) → whole ≡ b → (n < length sizes) ⊎ (whole ≡ false) → BadRecord rules c.journal (gate_from 8 sizes n)
        by_whole true is_whole (inl inside) = first_wrong (starts is_whole) inside
        by_whole true is_whole (inr off) = absurd (false≢true (sym off ∙ is_whole))
        by_whole false off why = by_place (breaks off) (cases_lt n (length sizes))

-- a fault that tells of no bad place
pub not_bad_journal : (rules : RuleSet) (bytes : List ℕ) (fault : OpenFault) → IsNotBad fault → ShowsBadJournal rules bytes fault
not_bad_journal rules bytes DiskFault none = tt
not_bad_journal rules bytes OutOfMemory none = tt
not_bad_journal rules bytes (BadStore it at) none = absurd none
