-- What each write of a commit makes of an area.
use Rattle.std.proofs.Common.{◌≡◌, ◌≢◌, ◌⊎◌, inl, inr, ℕ, ◌+◌, ◌≤◌, List, [], ◌∷◌, ◌++◌, length, drop, refl, sym, ◌∙◌, ap, subst, arith, append_assoc, length-append}
use Rattle.std.proofs.lemmas.Bool.{cases_eq}
use Rattle.delf_disk.specs.declared.area.Area.{Area}
use Rattle.delf_disk.specs.Areas.{Areas, area_of}
use Rattle.delf_disk.specs.Images.{overwritten, TornAt, Torn, Written}
use Rattle.delf_disk.proofs.Writes.{torn_split, written_split}
use Rattle.gate_log.specs.Gates.{Shut, Open, MayOpen, Opens, MayChange, Closes}

-- a closed gate with the line behind it
pub record Staged (front line bytes : List ℕ) : Type 0 where
  pub value : ℕ
  pub closed : value ≢ 165
  pub tail : List ℕ
  pub split : bytes ≡ front ++ value ∷ (line ++ tail)

pushed : (front : List ℕ) (value : ℕ) (tail : List ℕ) → front ++ value ∷ tail ≡ (front ++ value ∷ []) ++ tail
pushed front value tail = sym (append_assoc front (value ∷ []) tail)

-- the closed gate stands, whatever a write behind it leaves
pub torn_behind : (gate n : ℕ) (front old new : List ℕ) → Shut gate front old → TornAt (gate + 1) n old new → Shut gate front new
torn_behind gate n front old new shut torn =
    let long : length (front ++ shut.value ∷ []) ≡ gate + 1 = omega (arith, length-append front (shut.value ∷ []), shut.place) in
    let parts = torn_split (gate + 1) n (front ++ shut.value ∷ []) shut.tail new long (subst (λ (l : List ℕ). TornAt (gate + 1) n l new) (shut.split ∙ pushed front shut.value shut.tail) torn) in
    record {
      place = shut.place;
      value = shut.value;
      closed = shut.closed;
      tail = parts.tail;
      split = parts.is ∙ sym (pushed front shut.value parts.tail);
    }

pub written_behind : (gate : ℕ) (line front old new : List ℕ) → Shut gate front old → new ≡ overwritten (gate + 1) line old → Staged front line new
written_behind gate line front old new shut is =
    let long : length (front ++ shut.value ∷ []) ≡ gate + 1 = omega (arith, length-append front (shut.value ∷ []), shut.place) in
    let rest = drop (length line) shut.tail in
    record {
      value = shut.value;
      closed = shut.closed;
      tail = rest;
      split = is ∙ ap (λ (l : List ℕ). overwritten (gate + 1) line l) (shut.split ∙ pushed front shut.value shut.tail)
          ∙ written_split (gate + 1) (front ++ shut.value ∷ []) shut.tail line long ∙ sym (pushed front shut.value (line ++ rest));
    }

-- a list that is not shorter than one that begins with x, and equal behind the first
headed : (x : ℕ) (back tail : List ℕ) → drop 1 tail ≡ drop 1 (x ∷ back) → length (x ∷ back) ≤ length tail → (v : ℕ) × (tail ≡ v ∷ back)
headed x back [] behind longer = absurd (omega (arith, longer))
headed x back (v ∷ tail) behind longer = (v, ap (λ (l : List ℕ). v ∷ l) behind)

-- the gate is closed, or it is open with the line behind it
pub torn_gate : (gate : ℕ) (line front old new : List ℕ) → length front ≡ gate → Staged front line old → TornAt gate 1 old new → Shut gate front new ⊎ Open front line new
torn_gate gate line front old new place staged torn =
    let back = line ++ staged.tail in
    let parts = torn_split gate 1 front (staged.value ∷ back) new place (subst (λ (l : List ℕ). TornAt gate 1 l new) staged.split torn) in
    let first = headed staged.value back parts.tail parts.behind parts.no_shorter in
    let is : new ≡ front ++ first.0 ∷ back = parts.is ∙ ap (λ (l : List ℕ). front ++ l) first.1 in
    elim (cases_eq first.0 165) [
      | inl opened ↦ inr (record { tail = staged.tail; split = is ∙ ap (λ (v : ℕ). front ++ v ∷ back) opened })
      | inr shut ↦ inl (record { place = place; value = first.0; closed = shut; tail = back; split = is })
    ]

pub written_gate : (gate : ℕ) (line front old new : List ℕ) → length front ≡ gate → Staged front line old → new ≡ overwritten gate (165 ∷ []) old → Open front line new
written_gate gate line front old new place staged is = record {
  tail = staged.tail;
  split = is ∙ ap (λ (l : List ℕ). overwritten gate (165 ∷ []) l) staged.split ∙ written_split gate front (staged.value ∷ (line ++ staged.tail)) (165 ∷ []) place;
}

module _ (area : Area) (gate : ℕ) (line : List ℕ) where
  -- a commit that has not begun
  pub may_open_same : (c : Areas) → MayOpen area gate line c c
  may_open_same c = record { other = refl; here = λ front shut. inl shut }

  pub may_open_behind : (n : ℕ) (old new : Areas) → Torn area (gate + 1) n old new → MayOpen area gate line old new
  may_open_behind n old new torn = record {
    other = torn.other;
    here = λ front shut. inl (torn_behind gate n front (area_of area old) (area_of area new) shut torn.here);
  }

  pub may_open_gate : (old mid new : Areas) → Written area (gate + 1) line old mid → Torn area gate 1 mid new → MayOpen area gate line old new
  may_open_gate old mid new written torn = record {
    other = torn.other ∙ written.other;
    here = λ front shut. torn_gate gate line front (area_of area mid) (area_of area new) shut.place
        (written_behind gate line front (area_of area old) (area_of area mid) shut written.here) torn.here;
  }

  pub opens : (old mid new : Areas) → Written area (gate + 1) line old mid → Written area gate (165 ∷ []) mid new → Opens area gate line old new
  opens old mid new first second = record {
    other = second.other ∙ first.other;
    here = λ front shut. written_gate gate line front (area_of area mid) (area_of area new) shut.place
        (written_behind gate line front (area_of area old) (area_of area mid) shut first.here) second.here;
  }

module _ (area : Area) (gate : ℕ) where
  -- one torn byte
  pub may_change : (old new : Areas) → Torn area gate 1 old new → MayChange area gate old new
  may_change old new torn = record {
    other = torn.other;
    here = λ front value tail place split.
        let parts = torn_split gate 1 front (value ∷ tail) (area_of area new) place (subst (λ (l : List ℕ). TornAt gate 1 l (area_of area new)) split torn.here) in
        let first = headed value tail parts.tail parts.behind parts.no_shorter in
        (first.0, parts.is ∙ ap (λ (l : List ℕ). front ++ l) first.1);
  }

  pub unchanged : (c : Areas) → MayChange area gate c c
  unchanged c = record { other = refl; here = λ front value tail place split. (value, split) }

  pub closes : (old new : Areas) → Written area gate (0 ∷ []) old new → Closes area gate old new
  closes old new written = record {
    other = written.other;
    here = λ front value tail place split.
        written.here ∙ ap (λ (l : List ℕ). overwritten gate (0 ∷ []) l) split ∙ written_split gate front (value ∷ tail) (0 ∷ []) place;
  }
