-- Look-ups after each change of a graph.
use Rattle.std.proofs.Common.{◌≡◌, ℕ, Bool, true, false, cond, not, ◌&&◌, eqb, List, [], ◌∷◌, Option, Some, None, refl, sym, ap, ◌∙◌, arith}
use Rattle.std.proofs.lemmas.Bool.Decides.{nat_tests}
use Rattle.std.proofs.lemmas.Bool.{and_parts, and_from, eqb-true, eq-eqb, false≢true}
use Rattle.std.proofs.lemmas.Grind.{common_steps}
use Rattle.std.specs.Prelude.{find, filter, map}
use Rattle.std.specs.Option.{option_map}
use Rattle.delf_model.specs.declared.rows.ObjectRow.{ObjectRow}
use Rattle.delf_model.specs.declared.rows.EdgeKey.{EdgeKey}
use Rattle.delf_model.specs.declared.rows.EdgeRow.{EdgeRow}
use Rattle.delf_model.specs.Graph.{same_key, key_before, has_id, has_key, put_object, put_edge, is_other_object, is_other_edge, rewritten}
use Rattle.delf_model.specs.Owners.{key_of}

pub find-put_object : (row : ObjectRow) (rows : List ObjectRow) (id : ℕ) →
    find (has_id id) (put_object row rows) ≡ cond (eqb row.id id) (Some row) (find (has_id id) rows)
find-put_object row [] id = refl
find-put_object row (x ∷ xs) id = grind (arith, nat_tests, common_steps, find-put_object row xs id)

pub find-filter_object : (gone : ℕ) (rows : List ObjectRow) (id : ℕ) →
    find (has_id id) (filter (is_other_object gone) rows) ≡ cond (eqb gone id) None (find (has_id id) rows)
find-filter_object gone [] id = grind (arith, nat_tests)
find-filter_object gone (x ∷ xs) id = grind (arith, nat_tests, common_steps, find-filter_object gone xs id)

pub find-rewritten : (target at size : ℕ) (rows : List ObjectRow) (id : ℕ) →
    find (has_id id) (map (rewritten target at size) rows) ≡ option_map (rewritten target at size) (find (has_id id) rows)
find-rewritten target at size [] id = refl
find-rewritten target at size (x ∷ xs) id = grind (arith, nat_tests, common_steps, find-rewritten target at size xs id)

-- equal keys are one key
pub same_key_is : (a b : EdgeKey) → same_key a b ≡ true → a ≡ b
same_key_is a b same =
    let first = and_parts (eqb a.edge b.edge && eqb a.from b.from) (eqb a.to b.to) same in
    let second = and_parts (eqb a.edge b.edge) (eqb a.from b.from) first.0 in
    let edges : a.edge ≡ b.edge = eqb-true a.edge b.edge second.0 in
    let froms : a.from ≡ b.from = eqb-true a.from b.from second.1 in
    let tos : a.to ≡ b.to = eqb-true a.to b.to first.1 in
    ap (λ (e : ℕ). key_of e a.from a.to) edges ∙ (ap (λ (f : ℕ). key_of b.edge f a.to) froms ∙ ap (λ (t : ℕ). key_of b.edge b.from t) tos)

pub same_key_refl : (a : EdgeKey) → same_key a a ≡ true
same_key_refl a =
    and_from (eqb a.edge a.edge && eqb a.from a.from) (eqb a.to a.to)
    (and_from (eqb a.edge a.edge) (eqb a.from a.from) (eq-eqb a.edge a.edge refl) (eq-eqb a.from a.from refl)) (eq-eqb a.to a.to refl)

pub same_key_sym : (a b : EdgeKey) → same_key a b ≡ same_key b a
same_key_sym a b = grind (arith, nat_tests)

-- two keys that are one are the same beside a third
pub same_key_along : (a b c : EdgeKey) → same_key a b ≡ true → same_key a c ≡ same_key b c
same_key_along a b c same = ap (λ (k : EdgeKey). same_key k c) (same_key_is a b same)

pub cond_same : {A : Type 0} (b : Bool) (x : A) → cond b x x ≡ x
cond_same true x = refl
cond_same false x = refl

-- a row that another key finds is none of this one
put_over : {A : Type 0} (here put : Bool) (x row found : A) → (here ≡ true → put ≡ true → ⊥) →
    cond here x (cond put row found) ≡ cond put row (cond here x found)
put_over true true x row found apart = absurd (apart refl refl)
put_over true false x row found apart = refl
put_over false true x row found apart = refl
put_over false false x row found apart = refl

twice_over : {A : Type 0} (hit here : Bool) (row x found : A) → hit ≡ here → cond hit row found ≡ cond hit row (cond here x found)
twice_over true here row x found is = refl
twice_over false true row x found is = absurd (false≢true is)
twice_over false false row x found is = refl

put_edge_case : (row x : EdgeRow) (xs rest : List EdgeRow) (key : EdgeKey) (before same : Bool) → same_key row.key x.key ≡ same →
    find (has_key key) rest ≡ cond (same_key row.key key) (Some row) (find (has_key key) xs) →
    find (has_key key) (cond before (row ∷ (x ∷ xs)) (cond same (row ∷ xs) (x ∷ rest))) ≡
    cond (same_key row.key key) (Some row) (cond (same_key x.key key) (Some x) (find (has_key key) xs))
put_edge_case row x xs rest key true same is IH = refl
put_edge_case row x xs rest key false true is IH =
    twice_over (same_key row.key key) (same_key x.key key) (Some row) (Some x) (find (has_key key) xs) (same_key_along row.key x.key key is)
put_edge_case row x xs rest key false false is IH =
    ap (λ (o : Option EdgeRow). cond (same_key x.key key) (Some x) o) IH ∙
    put_over (same_key x.key key) (same_key row.key key) (Some x) (Some row) (find (has_key key) xs)
    (λ one two. false≢true (sym is ∙ (ap (λ (k : EdgeKey). same_key row.key k) (same_key_is x.key key one) ∙ two)))

pub find-put_edge : (row : EdgeRow) (rows : List EdgeRow) (key : EdgeKey) →
    find (has_key key) (put_edge row rows) ≡ cond (same_key row.key key) (Some row) (find (has_key key) rows)
find-put_edge row [] key = refl
find-put_edge row (x ∷ xs) key =
    put_edge_case row x xs (put_edge row xs) key (key_before row.key x.key) (same_key row.key x.key) refl (find-put_edge row xs key)

filter_edge_case : (gone : EdgeKey) (x : EdgeRow) (xs rest : List EdgeRow) (key : EdgeKey) (here : Bool) → same_key x.key gone ≡ here →
    find (has_key key) rest ≡ cond (same_key gone key) None (find (has_key key) xs) →
    find (has_key key) (cond (not here) (x ∷ rest) rest) ≡ cond (same_key gone key) None (cond (same_key x.key key) (Some x) (find (has_key key) xs))
filter_edge_case gone x xs rest key true is IH =
    IH ∙ twice_over (same_key gone key) (same_key x.key key) None (Some x) (find (has_key key) xs) (sym (same_key_along x.key gone key is))
filter_edge_case gone x xs rest key false is IH =
    ap (λ (o : Option EdgeRow). cond (same_key x.key key) (Some x) o) IH ∙
    put_over (same_key x.key key) (same_key gone key) (Some x) None (find (has_key key) xs)
    (λ one two. false≢true (sym is ∙ (ap (λ (k : EdgeKey). same_key k gone) (same_key_is x.key key one) ∙ (same_key_sym key gone ∙ two))))

pub find-filter_edge : (gone : EdgeKey) (rows : List EdgeRow) (key : EdgeKey) →
    find (has_key key) (filter (is_other_edge gone) rows) ≡ cond (same_key gone key) None (find (has_key key) rows)
find-filter_edge gone [] key = sym (cond_same (same_key gone key) None)
find-filter_edge gone (x ∷ xs) key =
    filter_edge_case gone x xs (filter (is_other_edge gone) xs) key (same_key x.key gone) refl (find-filter_edge gone xs key)
