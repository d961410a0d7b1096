-- What a start of a log tells of an area, and what it may leave meanwhile.
use Rattle.std.proofs.Common.{◌≡◌, ℕ, ◌<◌, ◌≤◌, Bool, true, false, leb, List, [], length, refl, sym, ap, ◌∙◌, subst, inl, inr, ◌⊎◌}
use Rattle.std.proofs.lemmas.Bool.{le-leb, leb-true, leb-false, cond-true}
use Rattle.std.proofs.lemmas.List.{length-map, nil_from_length}
use Rattle.std.specs.Prelude.{map}
use Rattle.delf_disk.specs.declared.area.Area.{Area}
use Rattle.delf_disk.specs.declared.area.Area.TheVariants as area
use Rattle.delf_disk.specs.Areas.{Areas, area_of}
use Rattle.delf_disk.specs.Images.{Torn, Same, Only}
use Rattle.delf_disk.specs.Moments.{Runs, Leaves}
use Rattle.delf_disk.proofs.Moments.{leaves_first, leaves_next}
use Rattle.gate_log.specs.Records.{Record, size_of}
use Rattle.gate_log.specs.Logs.{records, Fronts}
use Rattle.gate_log.specs.Opening.{Starts, BreaksOff}
use Rattle.delf_model.specs.declared.entry.Entry.{Entry}
use Rattle.delf_model.specs.RuleSet.{RuleSet}
use Rattle.delf_model.specs.Payloads.{Payloads}
use Rattle.store_laws.specs.Logged.{held, IsLog, IsArea}
use Rattle.store_laws.specs.Stores.{StandBut}
use Rattle.store_laws.proofs.Spelled.{told_log}
use Rattle.opening_laws.proofs.Starting.{journal_torn, vault_torn}

pub small_or_not : (n : ℕ) → (n ≤ 9) ⊎ (9 < n)
small_or_not n = by_test (leb n 9) refl
  where
    by_test : (b : Bool) → leb n 9 ≡ b → (n ≤ 9) ⊎ (9 < n)
    by_test true is = inl (leb-true n 9 is)
    by_test false is = inr (leb-false n 9 is)

pub blank_held : (bytes : List ℕ) → length bytes ≤ 9 → held bytes ≡ []
blank_held bytes few = cond-true (leb (length bytes) 9) [] (records bytes) (le-leb (length bytes) 9 few)

none_sized : (rs : List Record) (sizes : List (ℕ × ℕ)) → map size_of rs ≡ sizes → sizes ≡ [] → rs ≡ []
none_sized rs sizes sized none = nil_from_length rs (sym (length-map rs size_of) ∙ ap length (sized ∙ none))

module _ (it : Area) (mark : List ℕ) (sizes : List (ℕ × ℕ)) (c d : Areas) (starts : Starts it mark sizes c d) where
  -- it is a log now, of these records
  pub log_now : IsLog mark (area_of it d) × (held (area_of it d) ≡ starts.records)
  log_now = told_log mark starts.records (area_of it d) starts.log

  -- and it held them before
  pub held_before : held (area_of it c) ≡ starts.records
  held_before = by_size (small_or_not (length (area_of it c)))
    where
      by_size : (length (area_of it c) ≤ 9) ⊎ (9 < length (area_of it c)) → held (area_of it c) ≡ starts.records
      by_size (inl few) = blank_held (area_of it c) few ∙ sym (none_sized starts.records sizes starts.sized (starts.blank few).0)
      by_size (inr many) = ap held (sym (starts.longer many)) ∙ log_now.1

  pub area_before : IsArea mark (area_of it c)
  area_before written = subst (IsLog mark) (starts.longer (leb-false (length (area_of it c)) 9 written)) log_now.0

module _ (it : Area) (mark : List ℕ) (sizes : List (ℕ × ℕ)) (c d : Areas) (eight : length mark ≡ 8) (whole : Bool)
    (starts : whole ≡ true → Starts it mark sizes c d) (breaks : whole ≡ false → BreaksOff mark sizes (area_of it c)) (unwritten : 9 < length (area_of it c) → d ≡ c) where
  -- the records stand at its front
  pub fronts_now : Fronts it sizes d
  fronts_now = by_whole whole refl
    where
      by_whole : (b : Bool) → whole ≡ b → Fronts it sizes d
      by_whole true is =
          let s = starts is in
          record {
            mark = mark;
            records = s.records;
            sized = s.sized;
            front = record { eight = s.log.eight; bounded = s.log.bounded; gate = s.log.gate; rest = s.log.tail; split = s.log.split };
          }
      by_whole false is =
          let b = breaks is in
          record {
            mark = mark;
            records = b.records;
            sized = b.sized;
            front = record { eight = eight; bounded = b.bounded; gate = 165; rest = b.rest; split = ap (area_of it) (unwritten b.longer) ∙ b.split };
          }

-- what may be left meanwhile stands for the same

torn_stands : (rules : RuleSet) (h : List Entry) (e : Payloads) (it : Area) (c d : Areas) → StandBut rules h e c → length (area_of it c) ≤ 9 → Torn it 0 9 c d → StandBut rules h e d
torn_stands rules h e area.Journal c d but few torn = journal_torn rules h e c d but few torn
torn_stands rules h e area.Vault c d but few torn = vault_torn rules h e c d but few torn

module _ {D : Type 0} {moment : D → ℕ} {may_leave : D → Areas → Type 0} {left_since : D → ℕ → Areas → Type 0} {old new : D} where
  pub start_leaves : (rules : RuleSet) (h : List Entry) (e : Payloads) (it : Area) (c : Areas) → Only c (may_leave old) → StandBut rules h e c →
      (length (area_of it c) ≤ 9 → Runs moment may_leave left_since (Torn it 0 9) old new) → (9 < length (area_of it c) → Runs moment may_leave left_since Same old new) →
      Leaves moment may_leave left_since (StandBut rules h e) old new
  start_leaves rules h e it c only but blank longer = by_size (small_or_not (length (area_of it c)))
    where
      by_size : (length (area_of it c) ≤ 9) ⊎ (9 < length (area_of it c)) → Leaves moment may_leave left_since (StandBut rules h e) old new
      by_size (inl few) = leaves_first (blank few) (λ m x image torn. torn_stands rules h e it c x but few (subst (λ (y : Areas). Torn it 0 9 y x) (only m image) torn))
      by_size (inr many) = leaves_first (longer many) (λ m x image same. subst (StandBut rules h e) (sym (same ∙ only m image)) but)

-- calls that change nothing
pub leaves_still : {D : Type 0} {moment : D → ℕ} {may_leave : D → Areas → Type 0} {left_since : D → ℕ → Areas → Type 0} {P : Areas → Type 0} {old mid new : D} →
    Leaves moment may_leave left_since P old mid → Runs moment may_leave left_since Same mid new → Leaves moment may_leave left_since P old new
leaves_still {P} so_far run = leaves_next so_far run (λ d c image same. subst P (sym same) (so_far.now d image))

-- and nothing else may be left
pub only_still : {D : Type 0} {moment : D → ℕ} {may_leave : D → Areas → Type 0} {left_since : D → ℕ → Areas → Type 0} {old new : D} (c d : Areas) →
    Only c (may_leave old) → Runs moment may_leave left_since Same old new → d ≡ c → Only d (may_leave new)
only_still c d only run same = λ x image. let from = run.now x image in from.2 ∙ (only from.0 from.1 ∙ sym same)
