-- The owner of an object after an entry, and whether an edge passes it on.
use Rattle.std.proofs.Common.{◌≡◌, ℕ, ◌<◌, Bool, true, false, cond, not, ◌&&◌, ◌||◌, List, [], ◌∷◌, map, Option, Some, None, is_some, refl, sym, ◌∙◌, ap, subst, inl, inr, ◌⊎◌, arith, eqb}
use Rattle.std.specs.Prelude.{find, option_and_then, nat_eq, sum_by, count_by}
use Rattle.std.specs.List.{list_all}
use Rattle.std.proofs.lemmas.Bool.Decides.{nat_tests}
use Rattle.std.proofs.lemmas.Grind.{common_steps}
use Rattle.std.proofs.lemmas.List.Sums.{sum_by-cons}
use Rattle.delf_model.specs.declared.rows.ObjectRow.{ObjectRow}
use Rattle.delf_model.specs.declared.rows.EdgeKey.{EdgeKey}
use Rattle.delf_model.specs.declared.rows.EdgeRow.{EdgeRow}
use Rattle.delf_model.specs.RuleSet.{RuleSet}
use Rattle.delf_model.specs.Graph.{Graph, has_id, has_key, same_key, edge_stands, objects_rise}
use Rattle.delf_model.specs.State.{Owners, owns_of, owner_in, owner_of_pair, is_job, is_pair_of}
use Rattle.delf_model.specs.Owners.{next_owner, owned_row, first_passed, condemns}
use Rattle.std.specs.Option.{option_or}
use Rattle.job_table.specs.Table.{id_of_owner, id_of}
use Rattle.job_table.proofs.Lookups.{same_key_is, both}
use Rattle.job_table.proofs.Sums.{sum_by-same_after, rises_tail}

-- the owner of an object after an entry is that of its row

pub find-owned_rows : (rules : RuleSet) (before now : Graph) (root : Option ℕ) (position : ℕ) (owners : Owners) (id : ℕ) (rows : List ObjectRow) →
    owner_in (map (owned_row rules before now root position owners) rows) id ≡
    option_and_then (next_owner rules before now root position owners) (find (has_id id) rows)
find-owned_rows rules before now root position owners id [] = refl
find-owned_rows rules before now root position owners id (x ∷ xs) =
    go (eqb x.id id) (find-owned_rows rules before now root position owners id xs)
  where
    go : (b : Bool) →
        owner_in (map (owned_row rules before now root position owners) xs) id ≡
        option_and_then (next_owner rules before now root position owners) (find (has_id id) xs) →
        option_and_then owner_of_pair (cond b (Some (owned_row rules before now root position owners x)) (find (owns_of id) (map (owned_row rules before now root position owners) xs))) ≡
        option_and_then (next_owner rules before now root position owners) (cond b (Some x) (find (has_id id) xs))
    go true more = refl
    go false more = more

-- an owned object is in the graph
pub find-ids : (id : ℕ) (pairs : Owners) (rows : List ObjectRow) → map id_of_owner pairs ≡ map id_of rows →
    is_some (find (owns_of id) pairs) ≡ is_some (find (has_id id) rows)
find-ids id [] [] e = refl
find-ids id [] (x ∷ xs) e = absurd (cc e)
find-ids id (p ∷ ps) [] e = absurd (cc e)
find-ids id (p ∷ ps) (x ∷ xs) e =
    let tail : map id_of_owner ps ≡ map id_of xs = cc e in
    let head : p.0 ≡ x.id = cc e in
    let more = find-ids id ps xs tail in
    grind (arith, nat_tests, common_steps, more, head)

pub no_owner : (id : ℕ) (pairs : Owners) (rows : List ObjectRow) → map id_of_owner pairs ≡ map id_of rows →
    find (has_id id) rows ≡ None → owner_in pairs id ≡ None
no_owner id pairs rows e n = go (find (owns_of id) pairs) refl (find-ids id pairs rows e ∙ ap is_some n)
  where
    go : (o : Option (ℕ × Option ℕ)) → find (owns_of id) pairs ≡ o → is_some o ≡ false → option_and_then owner_of_pair o ≡ None
    go None s h = refl
    go (Some p) s h = absurd (cc h)

-- counting owned objects over the graph
abbrev pub one_if : Bool → ℕ
one_if b = cond b 1 0

abbrev pub counted : ℕ → Owners → ObjectRow → ℕ
counted job pairs row = one_if (is_job job (owner_in pairs row.id))

pub owner_in_rest : (p : ℕ × Option ℕ) (ps : Owners) (id : ℕ) → p.0 < id → owner_in (p ∷ ps) id ≡ owner_in ps id
owner_in_rest p ps id h = grind (arith, nat_tests, common_steps)

pub owned_is : (job : ℕ) (pairs : Owners) (rows : List ObjectRow) → map id_of_owner pairs ≡ map id_of rows → objects_rise rows ≡ true →
    count_by (is_pair_of job) pairs ≡ sum_by (counted job pairs) rows
owned_is job [] [] e o = refl
owned_is job [] (x ∷ xs) e o = absurd (cc e)
owned_is job (p ∷ ps) [] e o = absurd (cc e)
owned_is job (p ∷ ps) (x ∷ xs) e o =
    let tail : map id_of_owner ps ≡ map id_of xs = cc e in
    let head : p.0 ≡ x.id = cc e in
    let more = owned_is job ps xs tail (rises_tail x.id xs o) in
    let rest : sum_by (counted job (p ∷ ps)) xs ≡ sum_by (counted job ps) xs =
    sum_by-same_after (counted job (p ∷ ps)) (counted job ps) x.id xs o
    (λ y h. ap (λ (v : Option ℕ). one_if (is_job job v)) (owner_in_rest p ps y.id (subst (λ (n : ℕ). n < y.id) (sym head) h))) in
    let first : counted job (p ∷ ps) x ≡ one_if (is_pair_of job p) = grind (arith, nat_tests, common_steps, head) in
    omega (arith, sum_by-cons (λ (q : ℕ × Option ℕ). one_if (is_pair_of job q)) p ps, sum_by-cons (counted job (p ∷ ps)) x xs, more, rest, first)

-- what an edge that is gone passes on

pub first_passed_none : (rules : RuleSet) (now : Graph) (owners : Owners) (id : ℕ) (rows : List EdgeRow) →
    list_all (λ row. edge_stands now row.key) rows ≡ true → first_passed rules now owners id rows ≡ None
first_passed_none rules now owners id [] h = refl
first_passed_none rules now owners id (x ∷ xs) h =
    go (nat_eq x.key.to id) (edge_stands now x.key) (condemns rules now x.key) (first_passed_none rules now owners id xs) h
  where
    go : (a b d : Bool) →
        (list_all (λ row. edge_stands now row.key) xs ≡ true → first_passed rules now owners id xs ≡ None) → (b && list_all (λ row. edge_stands now row.key) xs) ≡ true →
        option_or (cond (a && not b && d) (owner_in owners x.key.from) None) (first_passed rules now owners id xs) ≡ None
    go a false d more h = absurd (cc h)
    go true true d more h = more h
    go false true d more h = more h

pub first_of_same : {A : Type 0} (v w : Option A) → (w ≡ v) ⊎ (w ≡ None) → option_or v w ≡ v
first_of_same (Some a) w h = refl
first_of_same None w (inl e) = e
first_of_same None w (inr e) = e

-- what an edge with this key would pass on
abbrev pub passed_by : RuleSet → Graph → Owners → ℕ → EdgeKey → Option ℕ
passed_by rules now owners id key = cond (nat_eq key.to id && condemns rules now key) (owner_in owners key.from) None

abbrev passed_of : RuleSet → Graph → Owners → ℕ → EdgeKey → Option ℕ
passed_of rules now owners id key =
    cond (nat_eq key.to id && not (edge_stands now key) && condemns rules now key) (owner_in owners key.from) None

passed_gone : (a s d : Bool) (o : Option ℕ) → s ≡ false → cond (a && not s && d) o None ≡ cond (a && d) o None
passed_gone a true d o e = absurd (cc e)
passed_gone true false d o e = refl
passed_gone false false d o e = refl

passed_there : (a s d : Bool) (o : Option ℕ) → s ≡ true → cond (a && not s && d) o None ≡ None
passed_there a false d o e = absurd (cc e)
passed_there true true d o e = refl
passed_there false true d o e = refl

choice : (t : Bool) (v w : Option ℕ) → w ≡ cond t v None → (w ≡ v) ⊎ (w ≡ None)
choice true v w e = inl e
choice false v w e = inr e

one_step : (b s t : Bool) (v p w : Option ℕ) → (b ≡ true → p ≡ v) → (s ≡ true → p ≡ None) → (b || s) ≡ true → w ≡ cond t v None →
    option_or p w ≡ cond (b || t) v None
one_step true s t v p w f g h e =
    ap (λ (o : Option ℕ). option_or o w) (f refl) ∙ first_of_same v w (choice t v w e)
one_step false true t v p w f g h e = ap (λ (o : Option ℕ). option_or o w) (g refl) ∙ e
one_step false false t v p w f g h e = absurd (cc h)

found_or : (b : Bool) (x : EdgeRow) (o : Option EdgeRow) → is_some (cond b (Some x) o) ≡ (b || is_some o)
found_or true x o = refl
found_or false x o = refl

-- what the edges pass on where only those with one key may be gone: what that key passes, where it stood
pub first_passed_one : (rules : RuleSet) (now : Graph) (owners : Owners) (id : ℕ) (key : EdgeKey) (rows : List EdgeRow) →
    edge_stands now key ≡ false →
    list_all (λ row. same_key row.key key || edge_stands now row.key) rows ≡ true →
    first_passed rules now owners id rows ≡ cond (is_some (find (has_key key) rows)) (passed_by rules now owners id key) None
first_passed_one rules now owners id key [] gone h = refl
first_passed_one rules now owners id key (x ∷ xs) gone h =
    let parts = both (same_key x.key key || edge_stands now x.key) (list_all (λ row. same_key row.key key || edge_stands now row.key) xs) h in
    one_step (same_key x.key key) (edge_stands now x.key) (is_some (find (has_key key) xs)) (passed_by rules now owners id key)
    (passed_of rules now owners id x.key) (first_passed rules now owners id xs)
    (λ e. ap (passed_of rules now owners id) (same_key_is x.key key e) ∙ passed_gone (nat_eq key.to id) (edge_stands now key) (condemns rules now key) (owner_in owners key.from) gone)
    (λ e. passed_there (nat_eq x.key.to id) (edge_stands now x.key) (condemns rules now x.key) (owner_in owners x.key.from) e)
    parts.0 (first_passed_one rules now owners id key xs gone parts.1)
    ∙ sym (ap (λ (b : Bool). cond b (passed_by rules now owners id key) None) (found_or (same_key x.key key) x (find (has_key key) xs)))
