-- A calm part with a reference and an edge of an object that is not deleted.
use Rattle.std.proofs.Common.{◌≡◌, ℕ, zero, suc, ◌<◌, Bool, true, false, cond, ◌||◌, eqb, List, [], ◌∷◌, ◌++◌, Option, Some, None, refl, sym, subst, arith, inl, inr, ◌⊎◌}
use Rattle.std.proofs.lemmas.Bool.{and_parts, eqb-true, false≢true, or_cases}
use Rattle.std.specs.Prelude.{is_some, slice_get}
use Rattle.std.specs.List.{list_all}
use Rattle.delf_model.specs.declared.rows.EdgeKey.{EdgeKey}
use Rattle.delf_model.specs.declared.entry.Entry.{Entry}
use Rattle.delf_model.specs.RuleSet.{is_deep, is_refcount}
use Rattle.delf_model.specs.Graph.{edge_stands, same_key, object_at, has_refs}
use Rattle.delf_model.specs.State.{State, owner}
use Rattle.delf_model.specs.Step.{after}
use Rattle.delf_model.specs.Owners.{key_of}
use Rattle.delf_model.specs.Closure.{has, IsClosed, Calm, is_step_of}
use Rattle.delf_model.specs.Sound.{TookClosure}
use Rattle.delf_model.specs.Worked.{example_rules, liking, holding, edge}
use Rattle.delf_model.proofs.Graphs.{same_key_is}
use Rattle.reach_laws.proofs.Calm.{order_does_not_matter}
use Rattle.law_examples.specs.Cases.{held_photo, photo_taken, photo_left, stranger_taken}

abbrev begun : State
begun = after example_rules held_photo

-- each edge is the user's or the album's
either : (P : EdgeKey → Type 0) → P (key_of liking 9 3) → P (key_of holding 5 3) → (key : EdgeKey) → edge_stands begun.graph key ≡ true → P key
either P likes holds key stood = by_key (same_key (key_of liking 9 3) key) (same_key (key_of holding 5 3) key) refl refl stood
  where
    by_key : (a b : Bool) → same_key (key_of liking 9 3) key ≡ a → same_key (key_of holding 5 3) key ≡ b →
        is_some (cond a (Some (edge liking 9 3 4)) (cond b (Some (edge holding 5 3 3)) None)) ≡ true → P key
    by_key true b one two stands_here = subst P (same_key_is (key_of liking 9 3) key one) likes
    by_key false true one two stands_here = subst P (same_key_is (key_of holding 5 3) key two) holds
    by_key false false one two stands_here = absurd (false≢true stands_here)

-- the ids are 5, 3 and 9
only_root : (id other : ℕ) → has (5 ∷ 3 ∷ 9 ∷ []) id ≡ true → owner begun id ≡ Some other → id ≡ 5
only_root id other held own =
    elim (or_cases (eqb 5 id) (eqb 3 id || (eqb 9 id || false)) held) [
      | inl five ↦ sym (eqb-true 5 id five)
      | inr rest ↦
          elim (or_cases (eqb 3 id) (eqb 9 id || false) rest) [
            | inl three ↦ absurd (let none : None ≡ Some other = subst (λ (n : ℕ). owner begun n ≡ Some other) (sym (eqb-true 3 id three)) own in cc none)
            | inr last ↦
                elim (or_cases (eqb 9 id) false last) [
                  | inl nine ↦ absurd (let none : None ≡ Some other = subst (λ (n : ℕ). owner begun n ≡ Some other) (sym (eqb-true 9 id nine)) own in cc none)
                  | inr none ↦ absurd (false≢true none)
                ]
          ]
    ]

step_at : (es : List Entry) → list_all (λ e. is_step_of 5 e.what) es ≡ true → (k : ℕ) (e : Entry) → slice_get es k ≡ Some e → is_step_of 5 e.what ≡ true
step_at [] all k e at = absurd (cc at)
step_at (x ∷ xs) all zero e at =
    let same : x ≡ e = cc in
    subst (λ (y : Entry). is_step_of 5 y.what ≡ true) same (and_parts (is_step_of 5 x.what) (list_all (λ y. is_step_of 5 y.what) xs) all).0
step_at (x ∷ xs) all (suc k) e at = step_at xs (and_parts (is_step_of 5 x.what) (list_all (λ y. is_step_of 5 y.what) xs) all).1 k e at

steps_from : (p : ℕ) (e : Entry) → 5 < p → slice_get (held_photo ++ photo_taken) p ≡ Some e → is_step_of 5 e.what ≡ true
steps_from zero e later at = absurd (let lt : 5 < 0 = later in omega arith)
steps_from (suc zero) e later at = absurd (let lt : 5 < 1 = later in omega arith)
steps_from (suc (suc zero)) e later at = absurd (let lt : 5 < 2 = later in omega arith)
steps_from (suc (suc (suc zero))) e later at = absurd (let lt : 5 < 3 = later in omega arith)
steps_from (suc (suc (suc (suc zero)))) e later at = absurd (let lt : 5 < 4 = later in omega arith)
steps_from (suc (suc (suc (suc (suc zero))))) e later at = absurd (let lt : 5 < 5 = later in omega arith)
steps_from (suc (suc (suc (suc (suc (suc k)))))) e later at = step_at photo_taken refl k e at

pub calm : Calm example_rules (held_photo ++ photo_taken) 5 5 10 (5 ∷ 3 ∷ 9 ∷ [])
calm = record {
  later = omega arith;
  within = omega arith;
  begun = refl;
  held = refl;
  free = only_root;
  whole = either (λ (key : EdgeKey). has (5 ∷ 3 ∷ 9 ∷ []) key.from ≡ has (5 ∷ 3 ∷ 9 ∷ []) key.to) refl refl;
  quiet = λ p e after_start before_end at. inl (steps_from p e after_start at);
}

pub exact : TookClosure example_rules begun.graph 5 5 (after example_rules (held_photo ++ photo_taken))
exact = (order_does_not_matter example_rules (held_photo ++ photo_taken) refl).closure 5 5 10 (5 ∷ 3 ∷ 9 ∷ []) calm refl

pub left : TookClosure example_rules begun.graph 5 5 (after example_rules photo_left) → ⊥
left took =
    false≢true (took.all 3 (λ ids closed held. closed.counted 3 refl refl
    (λ key stood counts to.
    either (λ (k : EdgeKey). is_refcount example_rules k.edge ≡ true → has ids k.from ≡ true) (λ is. absurd (false≢true is)) (λ is. held) key stood counts)))

pair_closed : IsClosed example_rules begun.graph (5 ∷ 3 ∷ [])
pair_closed = record {
  objects = λ id held.
      elim (or_cases (eqb 5 id) (eqb 3 id || false) held) [
        | inl five ↦ subst (λ (n : ℕ). is_some (object_at begun.graph n) ≡ true) (eqb-true 5 id five) refl
        | inr rest ↦
            elim (or_cases (eqb 3 id) false rest) [
              | inl three ↦ subst (λ (n : ℕ). is_some (object_at begun.graph n) ≡ true) (eqb-true 3 id three) refl
              | inr none ↦ absurd (false≢true none)
            ]
      ];
  deep = λ key stood deep held.
      either (λ (k : EdgeKey). is_deep example_rules k.edge ≡ true → has (5 ∷ 3 ∷ []) k.to ≡ true) (λ is. refl) (λ is. refl) key stood deep;
  counted = λ id some refs all. held_id id refs;
}
  where
    held_id : (id : ℕ) → (eqb 3 id || false) ≡ true → has (5 ∷ 3 ∷ []) id ≡ true
    held_id id refs =
        elim (or_cases (eqb 3 id) false refs) [
          | inl three ↦ subst (λ (n : ℕ). has (5 ∷ 3 ∷ []) n ≡ true) (eqb-true 3 id three) refl
          | inr none ↦ absurd (false≢true none)
        ]

pub more : TookClosure example_rules begun.graph 5 5 (after example_rules stranger_taken) → ⊥
more took = false≢true (took.erased 9 refl (5 ∷ 3 ∷ []) pair_closed refl)
