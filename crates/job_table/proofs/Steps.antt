-- What stays of a graph and its owners along an entry.
use Rattle.std.proofs.Common.{◌≡◌, ℕ, ◌+◌, Bool, true, false, cond, not, ◌&&◌, ◌||◌, List, [], ◌∷◌, map, Option, Some, None, is_some, refl, sym, ◌∙◌, ap, subst, arith, eqb}
use Rattle.std.specs.Prelude.{find, filter, option_and_then, nat_eq, nat_lt, count_by}
use Rattle.std.specs.List.{list_all, list_any}
use Rattle.std.proofs.lemmas.Bool.Decides.{nat_tests}
use Rattle.std.proofs.lemmas.Grind.{common_steps}
use Rattle.std.proofs.lemmas.List.Sums.{sum_by-cons}
use Rattle.delf_model.specs.declared.rows.ObjectRow.{ObjectRow}
use Rattle.delf_model.specs.declared.rows.EdgeKey.{EdgeKey}
use Rattle.delf_model.specs.declared.rows.EdgeRow.{EdgeRow}
use Rattle.delf_model.specs.RuleSet.{RuleSet, is_refcount, is_deep}
use Rattle.delf_model.specs.Graph.{Graph, TakesEdge, changed, has_id, has_key, same_key, object_at, edge_at, edge_stands, stands, is_born_at, objects_rise, edges_rise, is_other_edge, is_reference, has_refs}
use Rattle.delf_model.specs.Store.{EndsStand, counted_refs, is_counted}
use Rattle.delf_model.specs.State.{Owners, owner_in}
use Rattle.delf_model.specs.Owners.{next_owner, owned_row, owners_after, root_owner, first_passed, condemns}
use Rattle.std.specs.Option.{option_or}
use Rattle.job_table.specs.Table.{id_of_owner, id_of}
use Rattle.job_table.proofs.Lookups.{find_is, same_key_is, find-filter_edge, same_key_self, found_after_take}
use Rattle.job_table.proofs.Passing.{find-owned_rows, no_owner, first_passed_none, first_passed_one, passed_by, one_if}
use Rattle.job_table.proofs.Sums.{sum_by-filter_edge, sum_by-same}

-- what every stored graph keeps
pub record Ordered (g : Graph) : Type 0 where
  pub objects : objects_rise g.objects ≡ true
  pub edges : edges_rise g.edges ≡ true
  pub ends : EndsStand g

-- each object of the first graph is in the second with its birth
abbrev pub ObjectsStay : Graph → Graph → Type 0
ObjectsStay g now = (id : ℕ) (row : ObjectRow) → object_at g id ≡ Some row → (next : ObjectRow) × (object_at now id ≡ Some next) × (next.birth ≡ row.birth)

-- each edge of the first graph is in the second
abbrev pub EdgesStay : Graph → Graph → Type 0
EdgesStay g now = list_all (λ row. edge_stands now row.key) g.edges ≡ true

pub stay_same : (g now : Graph) → now.objects ≡ g.objects → ObjectsStay g now
stay_same g now e id row f = (row, ap (find (has_id id)) e ∙ f, refl)

pub eqb_self : (n : ℕ) → eqb n n ≡ true
eqb_self n = grind (arith, nat_tests)

pub eqb_is : (a b : ℕ) → eqb a b ≡ true → a ≡ b
eqb_is a b h = grind (arith, nat_tests)

pub owner_new : (rules : RuleSet) (g now : Graph) (root : Option ℕ) (p : ℕ) (owners : Owners) (id : ℕ) → object_at g id ≡ None →
    owner_in (owners_after rules g now root p owners) id ≡ None
owner_new rules g now root p owners id n = find-owned_rows rules g now root p owners id now.objects ∙ go (object_at now id) refl
  where
    off : (b : Bool) (v : Option ℕ) → b ≡ false → cond b v None ≡ None
    off true v e = absurd (cc e)
    off false v e = refl

    go : (o : Option ObjectRow) → object_at now id ≡ o → option_and_then (next_owner rules g now root p owners) o ≡ None
    go None e = refl
    go (Some row) e =
        off (stands g row.id row.birth) (option_or (owner_in owners row.id) (option_or (root_owner root p row.id) (first_passed rules now owners row.id g.edges)))
        (ap (λ (k : ℕ). is_born_at row.birth (object_at g k)) (find_is id row now.objects e) ∙ ap (is_born_at row.birth) n)

pub owner_kept : (rules : RuleSet) (g now : Graph) (root : Option ℕ) (p : ℕ) (owners : Owners) (id : ℕ) (row next : ObjectRow) →
    object_at g id ≡ Some row → object_at now id ≡ Some next → next.birth ≡ row.birth →
    owner_in (owners_after rules g now root p owners) id ≡
    option_or (owner_in owners id) (option_or (root_owner root p id) (first_passed rules now owners id g.edges))
owner_kept rules g now root p owners id row next e f b =
    find-owned_rows rules g now root p owners id now.objects
    ∙ ap (option_and_then (next_owner rules g now root p owners)) f
    ∙ on (stands g next.id next.birth) (option_or (owner_in owners next.id) (option_or (root_owner root p next.id) (first_passed rules now owners next.id g.edges))) born
    ∙ ap (λ (k : ℕ). option_or (owner_in owners k) (option_or (root_owner root p k) (first_passed rules now owners k g.edges))) (find_is id next now.objects f)
  where
    on : (t : Bool) (v : Option ℕ) → t ≡ true → cond t v None ≡ v
    on true v h = refl
    on false v h = absurd (cc h)

    born : stands g next.id next.birth ≡ true
    born = ap (λ (k : ℕ). is_born_at next.birth (object_at g k)) (find_is id next now.objects f) ∙ ap (is_born_at next.birth) e ∙ ap (eqb row.birth) b ∙ eqb_self row.birth

pub first_with_none : (o : Option ℕ) → option_or o None ≡ o
first_with_none None = refl
first_with_none (Some n) = refl

-- where nothing starts and no edge passes an owner on, each owner stays
pub owner_unpassed : (rules : RuleSet) (g now : Graph) (p : ℕ) (owners : Owners) → map id_of_owner owners ≡ map id_of g.objects →
    ObjectsStay g now → ((id : ℕ) → first_passed rules now owners id g.edges ≡ None) → (id : ℕ) →
    owner_in (owners_after rules g now None p owners) id ≡ owner_in owners id
owner_unpassed rules g now p owners ids stay edges id = go (object_at g id) refl
  where
    go : (o : Option ObjectRow) → object_at g id ≡ o → owner_in (owners_after rules g now None p owners) id ≡ owner_in owners id
    go None e = owner_new rules g now None p owners id e ∙ sym (no_owner id owners g.objects ids e)
    go (Some row) e =
        let found = stay id row e in
        owner_kept rules g now None p owners id row found.0 e found.1 found.2
        ∙ ap (option_or (owner_in owners id)) (edges id)
        ∙ first_with_none (owner_in owners id)

pub owner_same : (rules : RuleSet) (g now : Graph) (p : ℕ) (owners : Owners) → map id_of_owner owners ≡ map id_of g.objects →
    ObjectsStay g now → EdgesStay g now → (id : ℕ) → owner_in (owners_after rules g now None p owners) id ≡ owner_in owners id
owner_same rules g now p owners ids stay edges =
    owner_unpassed rules g now p owners ids stay (λ id. first_passed_none rules now owners id g.edges edges)

-- an object that is not in the graph afterwards has no owner
pub owner_lost : (rules : RuleSet) (g now : Graph) (root : Option ℕ) (p : ℕ) (owners : Owners) (id : ℕ) → object_at now id ≡ None →
    owner_in (owners_after rules g now root p owners) id ≡ None
owner_lost rules g now root p owners id n =
    find-owned_rows rules g now root p owners id now.objects ∙ ap (option_and_then (next_owner rules g now root p owners)) n

-- an object that stays keeps its owner where nothing starts or passes
pub owner_staying : (rules : RuleSet) (g now : Graph) (p : ℕ) (owners : Owners) (id : ℕ) → map id_of_owner owners ≡ map id_of g.objects →
    object_at now id ≡ object_at g id → EdgesStay g now → owner_in (owners_after rules g now None p owners) id ≡ owner_in owners id
owner_staying rules g now p owners id ids same edges = go (object_at g id) refl
  where
    go : (o : Option ObjectRow) → object_at g id ≡ o → owner_in (owners_after rules g now None p owners) id ≡ owner_in owners id
    go None e = owner_new rules g now None p owners id e ∙ sym (no_owner id owners g.objects ids e)
    go (Some row) e =
        owner_kept rules g now None p owners id row row e (same ∙ e) refl
        ∙ ap (option_or (owner_in owners id)) (first_passed_none rules now owners id g.edges edges)
        ∙ first_with_none (owner_in owners id)

-- a job that starts owns its root
pub owner_root : (rules : RuleSet) (g now : Graph) (root p : ℕ) (owners : Owners) (row : ObjectRow) → ObjectsStay g now →
    object_at g root ≡ Some row → owner_in owners root ≡ None → owner_in (owners_after rules g now (Some root) p owners) root ≡ Some p
owner_root rules g now root p owners row stay e n =
    let found = stay root row e in
    owner_kept rules g now (Some root) p owners root row found.0 e found.1 found.2
    ∙ ap (λ (o : Option ℕ). option_or o (option_or (root_owner (Some root) p root) (first_passed rules now owners root g.edges))) n
    ∙ ap (λ (b : Bool). option_or (cond b (Some p) None) (first_passed rules now owners root g.edges)) (eqb_self root)

pub owner_root_other : (rules : RuleSet) (g now : Graph) (root p : ℕ) (owners : Owners) → map id_of_owner owners ≡ map id_of g.objects →
    ObjectsStay g now → ((id : ℕ) → first_passed rules now owners id g.edges ≡ None) → (id : ℕ) → (id ≡ root → ⊥) →
    owner_in (owners_after rules g now (Some root) p owners) id ≡ owner_in owners id
owner_root_other rules g now root p owners ids stay edges id ne = go (object_at g id) refl
  where
    off : (b : Bool) → eqb root id ≡ b → cond b (Some p) None ≡ None
    off true e = absurd (ne (sym (eqb_is root id e)))
    off false e = refl

    go : (o : Option ObjectRow) → object_at g id ≡ o → owner_in (owners_after rules g now (Some root) p owners) id ≡ owner_in owners id
    go None e = owner_new rules g now (Some root) p owners id e ∙ sym (no_owner id owners g.objects ids e)
    go (Some row) e =
        let found = stay id row e in
        owner_kept rules g now (Some root) p owners id row found.0 e found.1 found.2
        ∙ ap (λ (o : Option ℕ). option_or (owner_in owners id) (option_or o (first_passed rules now owners id g.edges))) (off (eqb root id) refl)
        ∙ ap (option_or (owner_in owners id)) (edges id)
        ∙ first_with_none (owner_in owners id)

-- the ids of the owners after an entry
pub ids_after : (rules : RuleSet) (g now : Graph) (root : Option ℕ) (p : ℕ) (owners : Owners) (rows : List ObjectRow) →
    map id_of_owner (map (owned_row rules g now root p owners) rows) ≡ map id_of rows
ids_after rules g now root p owners [] = refl
ids_after rules g now root p owners (x ∷ xs) = ap (λ (l : List ℕ). x.id ∷ l) (ids_after rules g now root p owners xs)

-- what an edge that is taken passes on

pub gone : (g : Graph) (key : EdgeKey) → edge_stands (changed g (TakesEdge key)) key ≡ false
gone g key = ap is_some (find-filter_edge key key g.edges) ∙ ap (λ (b : Bool). is_some (cond b None (find (has_key key) g.edges))) (same_key_self key)

pub passed_by_taken : (rules : RuleSet) (g : Graph) (owners : Owners) (id : ℕ) (key : EdgeKey) → edge_stands g key ≡ true →
    first_passed rules (changed g (TakesEdge key)) owners id g.edges ≡ passed_by rules (changed g (TakesEdge key)) owners id key
passed_by_taken rules g owners id key e =
    first_passed_one rules (changed g (TakesEdge key)) owners id key g.edges (gone g key) (found_after_take key g.edges)
    ∙ ap (λ (b : Bool). cond b (passed_by rules (changed g (TakesEdge key)) owners id key) None) e

pub passed_none : (b : Bool) → cond {A = Option ℕ} b None None ≡ None
passed_none true = refl
passed_none false = refl

-- where the source has no owner nothing is passed
pub nothing_passed : (rules : RuleSet) (g : Graph) (owners : Owners) (key : EdgeKey) → edge_stands g key ≡ true → owner_in owners key.from ≡ None →
    (id : ℕ) → first_passed rules (changed g (TakesEdge key)) owners id g.edges ≡ None
nothing_passed rules g owners key e n id =
    passed_by_taken rules g owners id key e
    ∙ ap (λ (o : Option ℕ). cond (nat_eq key.to id && condemns rules (changed g (TakesEdge key)) key) o None) n
    ∙ passed_none (nat_eq key.to id && condemns rules (changed g (TakesEdge key)) key)

-- the owner after a cut
pub owner_cut : (rules : RuleSet) (g : Graph) (p : ℕ) (owners : Owners) (key : EdgeKey) → map id_of_owner owners ≡ map id_of g.objects →
    edge_stands g key ≡ true → is_some (object_at g key.to) ≡ true → (id : ℕ) →
    owner_in (owners_after rules g (changed g (TakesEdge key)) None p owners) id ≡
    option_or (owner_in owners id) (passed_by rules (changed g (TakesEdge key)) owners id key)
owner_cut rules g p owners key ids e t id = go (object_at g id) refl
  where
    now : Graph
    now = changed g (TakesEdge key)

    off : (b d : Bool) (v : Option ℕ) → (b ≡ true → ⊥) → cond (b && d) v None ≡ None
    off true d v h = absurd (h refl)
    off false d v h = refl

    lost : object_at g id ≡ None → eqb key.to id ≡ true → ⊥
    lost n h = let q : object_at g key.to ≡ object_at g id = ap (object_at g) (eqb_is key.to id h) in cc (ap is_some q, ap is_some n, t)

    go : (o : Option ObjectRow) → object_at g id ≡ o →
        owner_in (owners_after rules g (changed g (TakesEdge key)) None p owners) id ≡
        option_or (owner_in owners id) (passed_by rules (changed g (TakesEdge key)) owners id key)
    go None n =
        owner_new rules g (changed g (TakesEdge key)) None p owners id n
        ∙ sym (ap (λ (o : Option ℕ). option_or o (passed_by rules (changed g (TakesEdge key)) owners id key)) (no_owner id owners g.objects ids n)
        ∙ off (eqb key.to id) (condemns rules (changed g (TakesEdge key)) key) (owner_in owners key.from) (lost n))
    go (Some row) f =
        owner_kept rules g (changed g (TakesEdge key)) None p owners id row row f f refl
        ∙ ap (option_or (owner_in owners id)) (passed_by_taken rules g owners id key e)

-- whether a cut condemns its target, by the count of references before it

any_step : (b q : Bool) (m n : ℕ) → n ≡ one_if b + m → q ≡ nat_lt 0 m → (b || q) ≡ nat_lt 0 n
any_step b q m n e f = grind (arith, nat_tests, common_steps)

pub any_is_count : (p : EdgeRow → Bool) (xs : List EdgeRow) → list_any p xs ≡ nat_lt 0 (count_by p xs)
any_is_count p [] = refl
any_is_count p (x ∷ xs) =
    any_step (p x) (list_any p xs) (count_by p xs) (count_by p (x ∷ xs)) (sum_by-cons (λ r. one_if (p r)) x xs) (any_is_count p xs)

pub edge_key_is : (key : EdgeKey) (row : EdgeRow) (xs : List EdgeRow) → find (has_key key) xs ≡ Some row → row.key ≡ key
edge_key_is key row [] e = absurd (cc e)
edge_key_is key row (x ∷ xs) e = go (same_key x.key key) refl e (edge_key_is key row xs)
  where
    go : (b : Bool) → same_key x.key key ≡ b → cond b (Some x) (find (has_key key) xs) ≡ Some row →
        (find (has_key key) xs ≡ Some row → row.key ≡ key) → row.key ≡ key
    go true s f more = let at : x ≡ row = cc f in subst (λ (r : EdgeRow). r.key ≡ key) at (same_key_is x.key key s)
    go false s f more = more f

condemns_case : (d r any : Bool) (left all : ℕ) → (r ≡ true → left + 1 ≡ all) → any ≡ nat_lt 0 left →
    (d || (r && not any)) ≡ (d || (r && nat_eq all 1))
condemns_case true r any left all f e = refl
condemns_case false false any left all f e = refl
condemns_case false true any left all f e = let q : left + 1 ≡ all = f refl in grind (arith, nat_tests, common_steps)

pub condemns_by_count : (rules : RuleSet) (counts : ℕ → Bool) (g : Graph) (key : EdgeKey) (row : EdgeRow) →
    ((edge : ℕ) → counts edge ≡ is_refcount rules edge) → edges_rise g.edges ≡ true → edge_at g key ≡ Some row →
    condemns rules (changed g (TakesEdge key)) key ≡
    (is_deep rules key.edge || (is_refcount rules key.edge && nat_eq (counted_refs counts g key.to) 1))
condemns_by_count rules counts g key row c o e =
    condemns_case (is_deep rules key.edge) (is_refcount rules key.edge) (has_refs rules (changed g (TakesEdge key)) key.to)
    (count_by (is_reference rules key.to) (filter (is_other_edge key) g.edges)) (counted_refs counts g key.to)
    (λ h. omega (arith, sum_by-filter_edge (λ r. one_if (is_reference rules key.to r)) key row g.edges o e, same, one h))
    (any_is_count (is_reference rules key.to) (filter (is_other_edge key) g.edges))
  where
    same : counted_refs counts g key.to ≡ count_by (is_reference rules key.to) g.edges
    same = sum_by-same (λ r. one_if (is_counted counts key.to r)) (λ r. one_if (is_reference rules key.to r)) g.edges (λ r. ap (λ (b : Bool). one_if (b && nat_eq r.key.to key.to)) (c r.key.edge))

    one : is_refcount rules key.edge ≡ true → one_if (is_reference rules key.to row) ≡ 1
    one h =
        ap (λ (k : EdgeKey). one_if (is_refcount rules k.edge && nat_eq k.to key.to)) (edge_key_is key row g.edges e)
        ∙ ap (λ (b : Bool). one_if (b && nat_eq key.to key.to)) h
        ∙ ap one_if (eqb_self key.to)

pub last_by_count : (rules : RuleSet) (counts : ℕ → Bool) (g : Graph) (key : EdgeKey) (row : EdgeRow) →
    ((edge : ℕ) → counts edge ≡ is_refcount rules edge) → edges_rise g.edges ≡ true → edge_at g key ≡ Some row →
    (is_refcount rules key.edge && not (has_refs rules (changed g (TakesEdge key)) key.to)) ≡
    (is_refcount rules key.edge && nat_eq (counted_refs counts g key.to) 1)
last_by_count rules counts g key row c o e =
    condemns_case false (is_refcount rules key.edge) (has_refs rules (changed g (TakesEdge key)) key.to)
    (count_by (is_reference rules key.to) (filter (is_other_edge key) g.edges)) (counted_refs counts g key.to)
    (λ h. omega (arith, sum_by-filter_edge (λ r. one_if (is_reference rules key.to r)) key row g.edges o e, same, one h))
    (any_is_count (is_reference rules key.to) (filter (is_other_edge key) g.edges))
  where
    same : counted_refs counts g key.to ≡ count_by (is_reference rules key.to) g.edges
    same = sum_by-same (λ r. one_if (is_counted counts key.to r)) (λ r. one_if (is_reference rules key.to r)) g.edges (λ r. ap (λ (b : Bool). one_if (b && nat_eq r.key.to key.to)) (c r.key.edge))

    one : is_refcount rules key.edge ≡ true → one_if (is_reference rules key.to row) ≡ 1
    one h =
        ap (λ (k : EdgeKey). one_if (is_refcount rules k.edge && nat_eq k.to key.to)) (edge_key_is key row g.edges e)
        ∙ ap (λ (b : Bool). one_if (b && nat_eq key.to key.to)) h
        ∙ ap one_if (eqb_self key.to)
