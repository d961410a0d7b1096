-- What the examples give, where it takes more than computing.
use Rattle.std.proofs.Common.{◌≡◌, ℕ, zero, suc, ◌<◌, Bool, true, false, cond, ◌||◌, eqb, List, [], ◌∷◌, ◌++◌, length, drop, Some, None, refl, sym, ap, ◌∙◌, subst, arith, inl, inr, ◌⊎◌}
use Rattle.std.proofs.lemmas.Bool.{and_parts, eqb-true, false≢true, or_cases}
use Rattle.std.specs.Prelude.{is_some, slice_get}
use Rattle.std.specs.List.{list_all}
use Rattle.delf_model.specs.declared.rows.ObjectRow.{ObjectRow}
use Rattle.delf_model.specs.declared.rows.EdgeKey.{EdgeKey}
use Rattle.delf_model.specs.declared.rows.EdgeRow.{EdgeRow}
use Rattle.delf_model.specs.declared.rows.Item.{Item}
use Rattle.delf_model.specs.declared.rows.Item.TheVariants as item
use Rattle.delf_model.specs.declared.entry.Entry.{Entry}
use Rattle.delf_model.specs.declared.entry.What.TheVariants.{Erase, Put, Delete}
use Rattle.delf_model.specs.Graph.{object_at, same_key}
use Rattle.delf_model.specs.Step.{step, after}
use Rattle.delf_model.specs.Owners.{key_of}
use Rattle.delf_model.specs.Closure.{has, IsClosed, Calm}
use Rattle.delf_model.specs.Sound.{ObjectsLeave, DoneErasesReached, TookClosure, PutsAreJudged, DistinctIds, object_id_of, OnlyPuts, is_put_by, RestoreIsUnion, PutBack}
use Rattle.delf_model.specs.Worked.{example_rules, owning, edge}
use Rattle.delf_model.proofs.Graphs.{same_key_is}
use Rattle.reach_laws.proofs.Calm.{order_does_not_matter}
use Rattle.history_laws.proofs.Parts.{restored_alone}
use Rattle.history_laws.specs.Parts.{tag, at_zero, alone_history}
use Rattle.history_laws.specs.Examples.{deleted_graph, left_behind, took_too_much, puts, edge_first, put_twice, erased_twice, photo_retaken, other_size, two_deletions}

-- the closure

pub exact : TookClosure example_rules deleted_graph 1 4 (after example_rules alone_history)
exact = (order_does_not_matter example_rules alone_history refl).closure 4 1 12 (1 ∷ 2 ∷ []) restored_alone.restored.calm refl

pub left : TookClosure example_rules deleted_graph 1 4 (after example_rules left_behind) → ⊥
left took = false≢true (took.all 2 (λ ids closed held. closed.deep (key_of owning 1 2) refl refl held))

which : (id : ℕ) → has (1 ∷ 2 ∷ []) id ≡ true → (1 ≡ id) ⊎ (2 ≡ id)
which id held =
    elim (or_cases (eqb 1 id) (eqb 2 id || false) held) [
      | inl one ↦ inl (eqb-true 1 id one)
      | inr rest ↦ elim (or_cases (eqb 2 id) false rest) [ inl two ↦ inr (eqb-true 2 id two) | inr none ↦ absurd (false≢true none) ]
    ]

pair_closed : IsClosed example_rules deleted_graph (1 ∷ 2 ∷ [])
pair_closed = record {
  objects = λ id held.
      elim (which id held) [
        | inl one ↦ subst (λ (n : ℕ). is_some (object_at deleted_graph n) ≡ true) one refl
        | inr two ↦ subst (λ (n : ℕ). is_some (object_at deleted_graph n) ≡ true) two refl
      ];
  deep = λ key stood deep held. by_key key (same_key (key_of owning 1 2) key) refl stood;
  counted = λ id some refs all. absurd (false≢true refs);
}
  where
    by_key : (key : EdgeKey) (b : Bool) → same_key (key_of owning 1 2) key ≡ b → is_some (cond b (Some (edge owning 1 2 2)) None) ≡ true → has (1 ∷ 2 ∷ []) key.to ≡ true
    by_key key true same stood = subst (λ (k : EdgeKey). has (1 ∷ 2 ∷ []) k.to ≡ true) (same_key_is (key_of owning 1 2) key same) refl
    by_key key false other stood = absurd (false≢true stood)

pub more : TookClosure example_rules deleted_graph 1 4 (after example_rules took_too_much) → ⊥
more took = false≢true (took.erased 9 refl (1 ∷ 2 ∷ []) pair_closed refl)

-- only puts

puts_from : (job r : ℕ) (h : List Entry) → list_all (λ e. is_put_by job e.what) (drop (suc r) h) ≡ true → (p : ℕ) (e : Entry) → r < p → slice_get h p ≡ Some e → is_put_by job e.what ≡ true
puts_from job r [] all p e later at = absurd (cc at)
puts_from job r (x ∷ xs) all zero e later at = absurd (none r later)
  where
    none : (a : ℕ) → a < 0 → ⊥
    none a less = omega arith
puts_from job zero (x ∷ xs) all (suc p) e later at = each xs all p at
  where
    each : (ys : List Entry) → list_all (λ e. is_put_by job e.what) ys ≡ true → (k : ℕ) → slice_get ys k ≡ Some e → is_put_by job e.what ≡ true
    each [] one k there = absurd (cc there)
    each (y ∷ ys) one zero there =
        let same : y ≡ e = cc in
        subst (λ (z : Entry). is_put_by job z.what ≡ true) same (and_parts (is_put_by job y.what) (list_all (λ e. is_put_by job e.what) ys) one).0
    each (y ∷ ys) one (suc k) there = each ys (and_parts (is_put_by job y.what) (list_all (λ e. is_put_by job e.what) ys) one).1 k there
puts_from job (suc r) (x ∷ xs) all (suc p) e later at = puts_from job r xs all p e (fewer r p later) at
  where
    fewer : (a b : ℕ) → suc a < suc b → a < b
    fewer a b less = omega arith

-- an edge and two objects have distinct ids where those of the objects differ
three_distinct : (job one two : ℕ) (row : EdgeRow) (a b : ObjectRow) → (a.id ≡ b.id → ⊥) → DistinctIds (item.Edge job row one two ∷ item.Object job a ∷ item.Object job b ∷ [])
three_distinct job one two row a b differ i j id x y at_x at_y id_x id_y = by_places i j at_x at_y
  where
    none_of : item.Edge job row one two ≡ x → ⊥
    none_of is = let none : None ≡ Some id = ap object_id_of is ∙ id_x in cc none

    none_of' : item.Edge job row one two ≡ y → ⊥
    none_of' is = let none : None ≡ Some id = ap object_id_of is ∙ id_y in cc none

    some_id : (m n : ℕ) → Some m ≡ Some n → m ≡ n
    some_id m n is = cc

    id_of : (z : Item) (r : ObjectRow) → item.Object job r ≡ z → object_id_of z ≡ Some id → r.id ≡ id
    id_of z r is has_id = some_id r.id id (ap object_id_of is ∙ has_id)

    is_item : (u v : Item) → Some u ≡ Some v → u ≡ v
    is_item u v is = cc

    by_places : (m n : ℕ) → slice_get (item.Edge job row one two ∷ item.Object job a ∷ item.Object job b ∷ []) m ≡ Some x → slice_get (item.Edge job row one two ∷ item.Object job a ∷ item.Object job b ∷ []) n ≡ Some y → m ≡ n
    by_places zero n first second = absurd (none_of (is_item (item.Edge job row one two) x first))
    by_places (suc m) zero first second = absurd (none_of' (is_item (item.Edge job row one two) y second))
    by_places (suc zero) (suc zero) first second = refl
    by_places (suc zero) (suc (suc zero)) first second =
        absurd (differ (id_of x a (is_item (item.Object job a) x first) id_x ∙ sym (id_of y b (is_item (item.Object job b) y second) id_y)))
    by_places (suc zero) (suc (suc (suc n))) first second = absurd (cc second)
    by_places (suc (suc zero)) (suc zero) first second =
        absurd (differ (id_of y a (is_item (item.Object job a) y second) id_y ∙ sym (id_of x b (is_item (item.Object job b) x first) id_x)))
    by_places (suc (suc zero)) (suc (suc zero)) first second = refl
    by_places (suc (suc zero)) (suc (suc (suc n))) first second = absurd (cc second)
    by_places (suc (suc (suc m))) (suc n) first second = absurd (cc first)

two_is_not_one : ◌≡◌ {A = ℕ} 2 1 → ⊥
two_is_not_one is = omega (arith, is)

pub premises : OnlyPuts example_rules (photo_retaken ++ puts) 4 9 13
premises = record {
  later = omega arith;
  within = omega arith;
  entry = _;
  there = refl;
  tag = _;
  restores = refl;
  puts = λ p e later before at. puts_from 4 9 (photo_retaken ++ puts) refl p e later at;
  handled = refl;
  distinct = three_distinct 4 0 1 _ _ _ two_is_not_one;
}

edge_first_puts : OnlyPuts example_rules edge_first 4 8 12
edge_first_puts = record {
  later = omega arith;
  within = omega arith;
  entry = _;
  there = refl;
  tag = _;
  restores = refl;
  puts = λ p e later before at. puts_from 4 8 edge_first refl p e later at;
  handled = refl;
  distinct = three_distinct 4 0 1 _ _ _ two_is_not_one;
}

pub lost : RestoreIsUnion example_rules edge_first → ⊥
lost joined =
    let same : ◌≡◌ {A = ℕ} 0 1 = ap (λ (g : _). length g.edges) (joined.union_is 4 8 12 edge_first_puts) in omega (arith, same)

-- two deletions

pub second : (q : ℕ) (ids : List ℕ) → Calm example_rules two_deletions 6 9 q ids → ⊥
second q ids calm =
    let held : has ids 1 ≡ true = calm.whole (key_of owning 1 2) refl ∙ (sym (calm.whole (key_of owning 9 2) refl) ∙ calm.held) in
    let root : ◌≡◌ {A = ℕ} 1 9 = calm.free 1 5 held refl in omega (arith, root)

pub first : (q : ℕ) (ids : List ℕ) → 6 < q → Calm example_rules two_deletions 5 1 q ids → ⊥
first q ids later calm =
    let held : has ids 9 ≡ true = calm.whole (key_of owning 9 2) refl ∙ (sym (calm.whole (key_of owning 1 2) refl) ∙ calm.held) in
    elim (calm.quiet 6 (at_zero (Delete (tag 6) 9 41)) (omega arith) later refl) [
      | inl own ↦ false≢true own
      | inr unnamed ↦ false≢true (sym (unnamed 9 held))
    ]

-- who leaves

pub other : ObjectsLeave (after example_rules two_deletions) (Erase 5 9) (step (after example_rules two_deletions) (at_zero (Erase 5 9))) → ⊥
other leaves =
    let gone = leaves 9 1 refl refl in
    let owns : 6 ≡ gone.0 = some_id 6 gone.0 gone.1 in
    let erases : 5 ≡ gone.0 = erase_job 5 gone.0 gone.2 in
    differ gone.0 owns erases
  where
    some_id : (m n : ℕ) → Some m ≡ Some n → m ≡ n
    some_id m n is = cc

    erase_job : (m n : ℕ) → Erase m 9 ≡ Erase n 9 → m ≡ n
    erase_job m n is = cc

    differ : (n : ℕ) → 6 ≡ n → 5 ≡ n → ⊥
    differ n one two = omega (arith, one, two)

-- twice

pub erased_two : DoneErasesReached example_rules erased_twice → ⊥
erased_two done =
    let one : ◌≡◌ {A = ℕ} 2 1 = (done.reached 4 refl refl).all 1 0 (record { at = 5; within = omega arith; stood = refl; owned = refl }) in two_is_not_one one

pub put_two : PutsAreJudged example_rules put_twice → ⊥
put_two judged =
    let same : ◌≡◌ {A = ℕ} 9 10 = (judged.one 2 _ _ refl refl).only 9 4 (at_zero (Put 4 2)) refl refl in omega (arith, same)

-- rows

some_row : (a b : ObjectRow) → Some a ≡ Some b → a.size ≡ b.size
some_row a b is = let same : a ≡ b = cc in ap (λ (r : ObjectRow). r.size) same

pub size : PutBack deleted_graph other_size (after example_rules alone_history) 4 (1 ∷ 2 ∷ []) → ⊥
size back = two_is_not_one (some_row _ _ (back.objects 1 refl))

pub listed : PutBack deleted_graph deleted_graph (after example_rules (photo_retaken ++ puts)) 4 (1 ∷ 2 ∷ []) → ⊥
listed back = false≢true (sym (back.unlisted 1 _ refl refl))
