-- Elements of a list, and what a change of the list keeps of them.
use Rattle.std.proofs.Common.{◌≡◌, ℕ, zero, suc, Bool, true, false, cond, ◌||◌, eqb, ltb, List, [], ◌∷◌, Option, Some, None, refl, sym, ap, ◌∙◌, subst, inl, inr, ◌⊎◌}
use Rattle.std.proofs.lemmas.Bool.{false≢true, eqb-true, or_left, or_right}
use Rattle.std.specs.Prelude.{find, filter, map, slice_get}
use Rattle.std.specs.List.{list_any}
use Rattle.delf_model.specs.declared.rows.ObjectRow.{ObjectRow}
use Rattle.delf_model.specs.declared.rows.EdgeRow.{EdgeRow}
use Rattle.delf_model.specs.Graph.{key_before, same_key, put_object, put_edge}
use Rattle.delf_model.proofs.Graphs.{same_key_is}

abbrev pub In : {A : Type 0} → List A → A → Type 0
In [] x = ⊥
In (y ∷ ys) x = (y ≡ x) ⊎ In ys x

pub some_is : {A : Type 0} {a b : A} → Some a ≡ Some b → a ≡ b
some_is is = cc

-- a test that some element passes

pub any_in : {A : Type 0} (q : A → Bool) (xs : List A) → list_any q xs ≡ true → (x : A) × In xs x × (q x ≡ true)
any_in {A = A} q [] any = absurd (false≢true any)
any_in {A = A} q (x ∷ xs) any = by_hit (q x) refl any (any_in q xs)
  where
    by_hit : (b : Bool) → q x ≡ b → (b || list_any q xs) ≡ true → (list_any q xs ≡ true → (y : A) × In xs y × (q y ≡ true)) → (y : A) × In (x ∷ xs) y × (q y ≡ true)
    by_hit true is all IH = (x, inl refl, is)
    by_hit false is all IH = let rest = IH all in (rest.0, inr rest.1, rest.2)

pub in_any : {A : Type 0} (q : A → Bool) (xs : List A) (x : A) → In xs x → q x ≡ true → list_any q xs ≡ true
in_any q [] x here passes = absurd here
in_any q (y ∷ ys) x (inl same) passes = or_left (q y) (list_any q ys) (ap q same ∙ passes)
in_any q (y ∷ ys) x (inr rest) passes = or_right (q y) (list_any q ys) (in_any q ys x rest passes)

pub any_at : {A : Type 0} (q : A → Bool) (xs : List A) → list_any q xs ≡ true → (i : ℕ) × ((x : A) × (slice_get xs i ≡ Some x) × (q x ≡ true))
any_at {A = A} q [] any = absurd (false≢true any)
any_at {A = A} q (x ∷ xs) any = by_hit (q x) refl any (any_at q xs)
  where
    by_hit : (b : Bool) → q x ≡ b → (b || list_any q xs) ≡ true → (list_any q xs ≡ true → (i : ℕ) × ((y : A) × (slice_get xs i ≡ Some y) × (q y ≡ true))) →
        (i : ℕ) × ((y : A) × (slice_get (x ∷ xs) i ≡ Some y) × (q y ≡ true))
    by_hit true is all IH = (zero, (x, refl, is))
    by_hit false is all IH = let rest = IH all in (suc rest.0, rest.1)

pub at_any : {A : Type 0} (q : A → Bool) (xs : List A) (i : ℕ) (x : A) → slice_get xs i ≡ Some x → q x ≡ true → list_any q xs ≡ true
at_any q [] i x at passes = absurd (cc at)
at_any q (y ∷ ys) zero x at passes = or_left (q y) (list_any q ys) (ap q (some_is at) ∙ passes)
at_any q (y ∷ ys) (suc i) x at passes = or_right (q y) (list_any q ys) (at_any q ys i x at passes)

-- what a look-up finds

pub found_in : {A : Type 0} (q : A → Bool) (xs : List A) (x : A) → find q xs ≡ Some x → In xs x
found_in q [] x found = absurd (cc found)
found_in q (y ∷ ys) x found = by_hit (q y) found (found_in q ys x)
  where
    by_hit : (b : Bool) → cond b (Some y) (find q ys) ≡ Some x → (find q ys ≡ Some x → In ys x) → In (y ∷ ys) x
    by_hit true here IH = inl (some_is here)
    by_hit false here IH = inr (IH here)

pub in_found : {A : Type 0} (q : A → Bool) (xs : List A) (x : A) → In xs x → q x ≡ true → (y : A) × (find q xs ≡ Some y)
in_found {A = A} q [] x here passes = absurd here
in_found {A = A} q (y ∷ ys) x (inl same) passes = (y, ap (λ (b : Bool). cond b (Some y) (find q ys)) (ap q same ∙ passes))
in_found {A = A} q (y ∷ ys) x (inr rest) passes = by_hit (q y) (in_found q ys x rest passes)
  where
    by_hit : (b : Bool) → (z : A) × (find q ys ≡ Some z) → (z : A) × (cond b (Some y) (find q ys) ≡ Some z)
    by_hit true IH = (y, refl)
    by_hit false IH = IH

-- an element that passes is not where nothing is found
pub none_found : {A : Type 0} (q : A → Bool) (xs : List A) (x : A) → find q xs ≡ None → In xs x → q x ≡ true → ⊥
none_found {A = A} q xs x none here passes = let there = in_found q xs x here passes in not_both (find q xs) there.0 none there.1
  where
    not_both : (o : Option A) (y : A) → o ≡ None → o ≡ Some y → ⊥
    not_both None y one two = cc two
    not_both (Some z) y one two = cc one

-- filters and maps

pub in_filter : {A : Type 0} (q : A → Bool) (xs : List A) (x : A) → In (filter q xs) x → In xs x × (q x ≡ true)
in_filter {A = A} q [] x here = absurd here
in_filter {A = A} q (y ∷ ys) x here = by_kept (q y) refl here (in_filter q ys x)
  where
    by_kept : (b : Bool) → q y ≡ b → In (cond b (y ∷ filter q ys) (filter q ys)) x → (In (filter q ys) x → In ys x × (q x ≡ true)) → In (y ∷ ys) x × (q x ≡ true)
    by_kept true is (inl same) IH = (inl same, subst (λ (z : A). q z ≡ true) same is)
    by_kept true is (inr rest) IH = let old = IH rest in (inr old.0, old.1)
    by_kept false is rest IH = let old = IH rest in (inr old.0, old.1)

pub in_kept : {A : Type 0} (q : A → Bool) (xs : List A) (x : A) → In xs x → q x ≡ true → In (filter q xs) x
in_kept {A = A} q [] x here passes = absurd here
in_kept {A = A} q (y ∷ ys) x (inl same) passes = subst (λ (b : Bool). In (cond b (y ∷ filter q ys) (filter q ys)) x) (sym (ap q same ∙ passes)) (inl same)
in_kept {A = A} q (y ∷ ys) x (inr rest) passes = by_kept (q y) (in_kept q ys x rest passes)
  where
    by_kept : (b : Bool) → In (filter q ys) x → In (cond b (y ∷ filter q ys) (filter q ys)) x
    by_kept true IH = inr IH
    by_kept false IH = IH

pub in_map : {A : Type 0} (f : A → A) (xs : List A) (y : A) → In (map f xs) y → (x : A) × In xs x × (f x ≡ y)
in_map f [] y here = absurd here
in_map f (x ∷ xs) y (inl same) = (x, inl refl, same)
in_map f (x ∷ xs) y (inr rest) = let old = in_map f xs y rest in (old.0, inr old.1, old.2)

pub in_mapped : {A : Type 0} (f : A → A) (xs : List A) (x : A) → In xs x → In (map f xs) (f x)
in_mapped f [] x here = absurd here
in_mapped f (y ∷ ys) x (inl same) = inl (ap f same)
in_mapped f (y ∷ ys) x (inr rest) = inr (in_mapped f ys x rest)

-- a row that is put into its place

pub in_put_object : (row : ObjectRow) (xs : List ObjectRow) (y : ObjectRow) → In (put_object row xs) y → (row ≡ y) ⊎ In xs y
in_put_object row [] y here = here
in_put_object row (x ∷ xs) y here = by_order (ltb row.id x.id) (eqb row.id x.id) here (in_put_object row xs y)
  where
    by_order : (before same : Bool) → In (cond before (row ∷ (x ∷ xs)) (cond same (row ∷ xs) (x ∷ put_object row xs))) y → (In (put_object row xs) y → (row ≡ y) ⊎ In xs y) →
        (row ≡ y) ⊎ In (x ∷ xs) y
    by_order true same here IH = here
    by_order false true (inl is) IH = inl is
    by_order false true (inr rest) IH = inr (inr rest)
    by_order false false (inl is) IH = inr (inl is)
    by_order false false (inr rest) IH = elim (IH rest) [ inl new ↦ inl new | inr old ↦ inr (inr old) ]

pub put_object_there : (row : ObjectRow) (xs : List ObjectRow) → In (put_object row xs) row
put_object_there row [] = inl refl
put_object_there row (x ∷ xs) = by_order (ltb row.id x.id) (eqb row.id x.id) (put_object_there row xs)
  where
    by_order : (before same : Bool) → In (put_object row xs) row → In (cond before (row ∷ (x ∷ xs)) (cond same (row ∷ xs) (x ∷ put_object row xs))) row
    by_order true same IH = inl refl
    by_order false true IH = inl refl
    by_order false false IH = inr IH

pub put_object_keeps : (row : ObjectRow) (xs : List ObjectRow) (y : ObjectRow) → In xs y → (y.id ≡ row.id → ⊥) → In (put_object row xs) y
put_object_keeps row [] y here apart = absurd here
put_object_keeps row (x ∷ xs) y here apart = by_order (ltb row.id x.id) (eqb row.id x.id) refl here (λ rest. put_object_keeps row xs y rest apart)
  where
    by_order : (before same : Bool) → eqb row.id x.id ≡ same → In (x ∷ xs) y → (In xs y → In (put_object row xs) y) →
        In (cond before (row ∷ (x ∷ xs)) (cond same (row ∷ xs) (x ∷ put_object row xs))) y
    by_order true same is here IH = inr here
    by_order false true is (inl first) IH = absurd (apart (ap (λ (r : ObjectRow). r.id) (sym first) ∙ sym (eqb-true row.id x.id is)))
    by_order false true is (inr rest) IH = inr rest
    by_order false false is (inl first) IH = inl first
    by_order false false is (inr rest) IH = inr (IH rest)

pub in_put_edge : (row : EdgeRow) (xs : List EdgeRow) (y : EdgeRow) → In (put_edge row xs) y → (row ≡ y) ⊎ In xs y
in_put_edge row [] y here = here
in_put_edge row (x ∷ xs) y here = by_order (key_before row.key x.key) (same_key row.key x.key) here (in_put_edge row xs y)
  where
    by_order : (before same : Bool) → In (cond before (row ∷ (x ∷ xs)) (cond same (row ∷ xs) (x ∷ put_edge row xs))) y → (In (put_edge row xs) y → (row ≡ y) ⊎ In xs y) →
        (row ≡ y) ⊎ In (x ∷ xs) y
    by_order true same here IH = here
    by_order false true (inl is) IH = inl is
    by_order false true (inr rest) IH = inr (inr rest)
    by_order false false (inl is) IH = inr (inl is)
    by_order false false (inr rest) IH = elim (IH rest) [ inl new ↦ inl new | inr old ↦ inr (inr old) ]

pub put_edge_there : (row : EdgeRow) (xs : List EdgeRow) → In (put_edge row xs) row
put_edge_there row [] = inl refl
put_edge_there row (x ∷ xs) = by_order (key_before row.key x.key) (same_key row.key x.key) (put_edge_there row xs)
  where
    by_order : (before same : Bool) → In (put_edge row xs) row → In (cond before (row ∷ (x ∷ xs)) (cond same (row ∷ xs) (x ∷ put_edge row xs))) row
    by_order true same IH = inl refl
    by_order false true IH = inl refl
    by_order false false IH = inr IH

pub put_edge_keeps : (row : EdgeRow) (xs : List EdgeRow) (y : EdgeRow) → In xs y → (y.key ≡ row.key → ⊥) → In (put_edge row xs) y
put_edge_keeps row [] y here apart = absurd here
put_edge_keeps row (x ∷ xs) y here apart = by_order (key_before row.key x.key) (same_key row.key x.key) refl here (λ rest. put_edge_keeps row xs y rest apart)
  where
    by_order : (before same : Bool) → same_key row.key x.key ≡ same → In (x ∷ xs) y → (In xs y → In (put_edge row xs) y) →
        In (cond before (row ∷ (x ∷ xs)) (cond same (row ∷ xs) (x ∷ put_edge row xs))) y
    by_order true same is here IH = inr here
    by_order false true is (inl first) IH = absurd (apart (ap (λ (r : EdgeRow). r.key) (sym first) ∙ sym (same_key_is row.key x.key is)))
    by_order false true is (inr rest) IH = inr rest
    by_order false false is (inl first) IH = inl first
    by_order false false is (inr rest) IH = inr (IH rest)
