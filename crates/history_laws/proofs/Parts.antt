-- The premises of the inverse are met.
use Rattle.std.proofs.Common.{◌≡◌, ℕ, zero, suc, ◌≤◌, ◌<◌, Bool, true, false, cond, ◌||◌, eqb, List, [], ◌∷◌, ◌++◌, length, take, Some, None, refl, sym, ◌∙◌, subst, arith, inl, inr, ◌⊎◌}
use Rattle.std.proofs.lemmas.Bool.{and_parts, eqb-true, false≢true, or_cases}
use Rattle.std.specs.Prelude.{is_some, slice_get}
use Rattle.std.specs.List.{list_all}
use Rattle.delf_model.specs.declared.rows.EdgeKey.{EdgeKey}
use Rattle.delf_model.specs.declared.entry.Entry.{Entry}
use Rattle.delf_model.specs.Graph.{edge_stands, same_key}
use Rattle.delf_model.specs.State.{State, Logged, owner}
use Rattle.delf_model.specs.Step.{step, run, after}
use Rattle.delf_model.specs.Owners.{key_of}
use Rattle.delf_model.specs.Closure.{has, Calm, LeavesAlone}
use Rattle.delf_model.specs.Sound.{is_own_entry}
use Rattle.delf_model.specs.Worked.{example_rules, owning, edge}
use Rattle.delf_model.proofs.Graphs.{same_key_is}
use Rattle.reach_laws.proofs.Kept.{false_of}
use Rattle.history_laws.specs.Parts.{IsRestored, IsRestoredAlone, deleted, alone, amid_others, alone_history, shared_history}

abbrev ids : List ℕ
ids = 1 ∷ 2 ∷ []

abbrev begun : State
begun = after example_rules deleted

-- the ids are 1 and 2
which : (id : ℕ) → has ids id ≡ true → (1 ≡ id) ⊎ (2 ≡ id)
which id held =
    elim (or_cases (eqb 1 id) (eqb 2 id || false) held) [
      | inl one ↦ inl (eqb-true 1 id one)
      | inr rest ↦ elim (or_cases (eqb 2 id) false rest) [ inl two ↦ inr (eqb-true 2 id two) | inr none ↦ absurd (false≢true none) ]
    ]

-- another id is none of them
apart : (other : ℕ) → has ids other ≡ false → (id : ℕ) → has ids id ≡ true → eqb other id ≡ false
apart other outside id held = false_of (eqb other id) (λ same. false≢true (sym outside ∙ subst (λ (n : ℕ). has ids n ≡ true) (sym (eqb-true other id same)) held))

-- each entry of a list leaves the ids alone
abbrev EachQuiet : State → List Entry → Type 0
EachQuiet s [] = Unit {0}
EachQuiet s (e ∷ es) = LeavesAlone 4 ids s e.what × EachQuiet (step s e) es

quiet_at : (s : State) (es : List Entry) (k : ℕ) (e : Entry) → EachQuiet s es → slice_get es k ≡ Some e → LeavesAlone 4 ids (run s (take k es)) e.what
quiet_at s [] k e each at = absurd (cc at)
quiet_at s (x ∷ xs) zero e each at = let same : x ≡ e = cc in subst (λ (y : Entry). LeavesAlone 4 ids s y.what) same each.0
quiet_at s (x ∷ xs) (suc k) e each at = quiet_at (step s x) xs k e each.1 at

none_below : (a : ℕ) → 4 < a → a ≤ 4 → ⊥
none_below a less most = omega arith

quiet_from : (es : List Entry) → EachQuiet begun es → (p : ℕ) (e : Entry) → 4 < p → slice_get (deleted ++ es) p ≡ Some e → LeavesAlone 4 ids (after example_rules (take p (deleted ++ es))) e.what
quiet_from es each zero e later at = absurd (none_below 0 later (omega arith))
quiet_from es each (suc zero) e later at = absurd (none_below 1 later (omega arith))
quiet_from es each (suc (suc zero)) e later at = absurd (none_below 2 later (omega arith))
quiet_from es each (suc (suc (suc zero))) e later at = absurd (none_below 3 later (omega arith))
quiet_from es each (suc (suc (suc (suc zero)))) e later at = absurd (none_below 4 later (omega arith))
quiet_from es each (suc (suc (suc (suc (suc k))))) e later at = quiet_at begun es k e each at

one_edge : (key : EdgeKey) → edge_stands begun.graph key ≡ true → has ids key.from ≡ has ids key.to
one_edge key stood = by_key (same_key (key_of owning 1 2) key) refl stood
  where
    by_key : (b : Bool) → same_key (key_of owning 1 2) key ≡ b → is_some (cond b (Some (edge owning 1 2 2)) None) ≡ true → has ids key.from ≡ has ids key.to
    by_key true same stood = subst (λ (k : EdgeKey). has ids k.from ≡ has ids k.to) (same_key_is (key_of owning 1 2) key same) refl
    by_key false other stood = absurd (false≢true stood)

only_root : (id other : ℕ) → has ids id ≡ true → owner begun id ≡ Some other → id ≡ 1
only_root id other held own =
    elim (which id held) [
      | inl one ↦ sym one
      | inr two ↦ absurd (let none : None ≡ Some other = subst (λ (n : ℕ). owner begun n ≡ Some other) (sym two) own in cc none)
    ]

calm_of : (es : List Entry) (q : ℕ) → 4 < q → q ≤ length (deleted ++ es) → EachQuiet begun es → Calm example_rules (deleted ++ es) 4 1 q ids
calm_of es q later within each = record {
  later = later;
  within = within;
  begun = refl;
  held = refl;
  free = only_root;
  whole = one_edge;
  quiet = λ p e after_start before_end at. quiet_from es each p e after_start at;
}

all_at : (xs : List Logged) → list_all (λ l. is_some l.handled) xs ≡ true → (i : ℕ) (l : Logged) → slice_get xs i ≡ Some l → is_some l.handled ≡ true
all_at [] all i l at = absurd (cc at)
all_at (x ∷ xs) all zero l at =
    let same : x ≡ l = cc in
    subst (λ (y : Logged). is_some y.handled ≡ true) same (and_parts (is_some x.handled) (list_all (λ l. is_some l.handled) xs) all).0
all_at (x ∷ xs) all (suc i) l at = all_at xs (and_parts (is_some x.handled) (list_all (λ l. is_some l.handled) xs) all).1 i l at

-- the job's own entries alone

own_at : (es : List Entry) → list_all (λ e. is_own_entry 4 e.what) es ≡ true → (k : ℕ) (e : Entry) → slice_get es k ≡ Some e → is_own_entry 4 e.what ≡ true
own_at [] all k e at = absurd (cc at)
own_at (x ∷ xs) all zero e at =
    let same : x ≡ e = cc in
    subst (λ (y : Entry). is_own_entry 4 y.what ≡ true) same (and_parts (is_own_entry 4 x.what) (list_all (λ y. is_own_entry 4 y.what) xs) all).0
own_at (x ∷ xs) all (suc k) e at = own_at xs (and_parts (is_own_entry 4 x.what) (list_all (λ y. is_own_entry 4 y.what) xs) all).1 k e at

own_from : (es : List Entry) → list_all (λ e. is_own_entry 4 e.what) es ≡ true → (p : ℕ) (e : Entry) → 4 < p → slice_get (deleted ++ es) p ≡ Some e → is_own_entry 4 e.what ≡ true
own_from es all zero e later at = absurd (none_below 0 later (omega arith))
own_from es all (suc zero) e later at = absurd (none_below 1 later (omega arith))
own_from es all (suc (suc zero)) e later at = absurd (none_below 2 later (omega arith))
own_from es all (suc (suc (suc zero))) e later at = absurd (none_below 3 later (omega arith))
own_from es all (suc (suc (suc (suc zero)))) e later at = absurd (none_below 4 later (omega arith))
own_from es all (suc (suc (suc (suc (suc k))))) e later at = own_at es all k e at

silent : (id : ℕ) → has ids id ≡ true → false ≡ false
silent id held = refl

pub restored_alone : IsRestoredAlone example_rules alone_history 4 1 12 ids
restored_alone = record {
  restored = record {
    legal = refl;
    calm = calm_of alone 12 (omega arith) (omega arith) (inl refl, (inl refl, (inl refl, (inr silent, (inl refl, (inl refl, (inl refl, tt)))))));
    handled = λ i l at mine. all_at (after example_rules (take 12 alone_history)).items refl i l at;
  };
  own = λ p e later less at. own_from alone refl p e later at;
}

pub restored_amid_others : IsRestored example_rules shared_history 4 1 17 ids
restored_amid_others = record {
  legal = refl;
  calm =
      calm_of amid_others 17 (omega arith) (omega arith)
      (inl refl, (inr (apart 8 refl), (inr (apart 9 refl), (inl refl, (inr (apart 9 refl), (inl refl, (inr silent, (inr silent, (inl refl, (inr (apart 9 refl), (inl refl, (inl refl, tt))))))))))));
  handled = λ i l at mine. all_at (after example_rules (take 17 shared_history)).items refl i l at;
}
