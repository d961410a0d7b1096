-- How owners move with an entry.
use Rattle.std.proofs.Common.{◌≡◌, ℕ, ◌+◌, Bool, true, false, cond, ◌&&◌, List, [], ◌∷◌, ◌++◌, map, Option, Some, None, is_some, refl, sym, ◌∙◌, ap, arith}
use Rattle.std.specs.Prelude.{find, filter, option_map, nat_eq, is_none}
use Rattle.std.proofs.lemmas.Bool.Decides.{nat_tests}
use Rattle.std.proofs.lemmas.Grind.{common_steps}
use Rattle.delf_model.specs.declared.rows.ObjectRow.{ObjectRow}
use Rattle.delf_model.specs.declared.rows.EdgeKey.{EdgeKey}
use Rattle.delf_model.specs.RuleSet.{RuleSet}
use Rattle.delf_model.specs.Graph.{Graph, TakesEdge, TakesObject, PutsObject, RewritesObject, changed, object_at, edge_stands, objects_rise, put_object, is_other_object, rewritten}
use Rattle.delf_model.specs.State.{Owners, owner_in}
use Rattle.delf_model.specs.Owners.{owners_after, first_passed, condemns}
use Rattle.std.specs.Option.{option_or}
use Rattle.job_table.specs.Table.{id_of_owner, id_of, is_of_id, job_of_pair, owner_among}
use Rattle.job_table.proofs.Passing.{no_owner, passed_by}
use Rattle.job_table.proofs.Steps.{ObjectsStay, EdgesStay, stay_same, owner_same, owner_root, owner_root_other, owner_cut, owner_unpassed, owner_lost, owner_staying, eqb_self, eqb_is, first_with_none}
use Rattle.job_table.proofs.Totals.{total, total_same, total_put, total_rewritten, total_filter, total_change, none_left}
use Rattle.job_table.proofs.Lookups.{find-rewritten, find-put_object, find-filter_object, all_found}

-- how owners move: each owner stays, and the objects are the same
pub record Same (before : Owners) (rows : List ObjectRow) (after : Owners) (next : List ObjectRow) : Type 0 where
  pub owner : (id : ℕ) → owner_in after id ≡ owner_in before id
  pub weight : (h : Option ℕ → ℕ) → total h after next ≡ total h before rows

-- an object without owner comes
pub record Added (before : Owners) (rows : List ObjectRow) (after : Owners) (next : List ObjectRow) : Type 0 where
  pub owner : (id : ℕ) → owner_in after id ≡ owner_in before id
  pub weight : (h : Option ℕ → ℕ) → total h after next ≡ total h before rows + h None

-- an object gets its owner
pub record Gained (id job : ℕ) (before : Owners) (rows : List ObjectRow) (after : Owners) (next : List ObjectRow) : Type 0 where
  pub free : owner_in before id ≡ None
  pub owner : owner_in after id ≡ Some job
  pub others : (other : ℕ) → (other ≡ id → ⊥) → owner_in after other ≡ owner_in before other
  pub weight : (h : Option ℕ → ℕ) → total h after next + h None ≡ total h before rows + h (Some job)

-- an owned object goes
pub record Dropped (id job : ℕ) (before : Owners) (rows : List ObjectRow) (after : Owners) (next : List ObjectRow) : Type 0 where
  pub owned : owner_in before id ≡ Some job
  pub owner : owner_in after id ≡ None
  pub others : (other : ℕ) → (other ≡ id → ⊥) → owner_in after other ≡ owner_in before other
  pub weight : (h : Option ℕ → ℕ) → total h after next + h (Some job) ≡ total h before rows

pub same_moved : (rules : RuleSet) (g now : Graph) (p : ℕ) (owners : Owners) → map id_of_owner owners ≡ map id_of g.objects →
    now.objects ≡ g.objects → EdgesStay g now → Same owners g.objects (owners_after rules g now None p owners) now.objects
same_moved rules g now p owners ids e edges = record {
  owner = owner_same rules g now p owners ids (stay_same g now e) edges;
  weight = λ h.
      ap (λ (rows : List ObjectRow). total h (owners_after rules g now None p owners) rows) e
      ∙ total_same h owners (owners_after rules g now None p owners) g.objects (owner_same rules g now p owners ids (stay_same g now e) edges);
}

pub gained_moved : (rules : RuleSet) (g now : Graph) (root p : ℕ) (owners : Owners) (row : ObjectRow) → map id_of_owner owners ≡ map id_of g.objects →
    objects_rise g.objects ≡ true → now.objects ≡ g.objects → object_at g root ≡ Some row → owner_in owners root ≡ None →
    ((id : ℕ) → first_passed rules now owners id g.edges ≡ None) →
    Gained root p owners g.objects (owners_after rules g now (Some root) p owners) now.objects
gained_moved rules g now root p owners row ids rise e f n edges = record {
  free = n;
  owner = at;
  others = rest;
  weight = λ h.
      let a = ap (λ (rows : List ObjectRow). total h (owners_after rules g now (Some root) p owners) rows) e in
      let b = total_change h owners (owners_after rules g now (Some root) p owners) root row g.objects rise f rest in
      let k : h (owner_in owners root) ≡ h None = ap h n in
      let l : h (owner_in (owners_after rules g now (Some root) p owners) root) ≡ h (Some p) = ap h at in
      omega (arith, a, b, k, l);
}
  where
    at : owner_in (owners_after rules g now (Some root) p owners) root ≡ Some p
    at = owner_root rules g now root p owners row (stay_same g now e) f n

    rest : (id : ℕ) → (id ≡ root → ⊥) → owner_in (owners_after rules g now (Some root) p owners) id ≡ owner_in owners id
    rest = owner_root_other rules g now root p owners ids (stay_same g now e) edges

-- the objects are the same, nothing starts, and no edge passes an owner on
pub unpassed_moved : (rules : RuleSet) (g now : Graph) (p : ℕ) (owners : Owners) → map id_of_owner owners ≡ map id_of g.objects →
    now.objects ≡ g.objects → ((id : ℕ) → first_passed rules now owners id g.edges ≡ None) →
    Same owners g.objects (owners_after rules g now None p owners) now.objects
unpassed_moved rules g now p owners ids e edges = record {
  owner = owner_unpassed rules g now p owners ids (stay_same g now e) edges;
  weight = λ h.
      ap (λ (rows : List ObjectRow). total h (owners_after rules g now None p owners) rows) e
      ∙ total_same h owners (owners_after rules g now None p owners) g.objects (owner_unpassed rules g now p owners ids (stay_same g now e) edges);
}

-- a row is rewritten
pub rewritten_moved : (rules : RuleSet) (g : Graph) (id at size p : ℕ) (owners : Owners) → map id_of_owner owners ≡ map id_of g.objects →
    Same owners g.objects (owners_after rules g (changed g (RewritesObject id at size)) None p owners) (map (rewritten id at size) g.objects)
rewritten_moved rules g id at size p owners ids = record {
  owner = same;
  weight = λ h. total_rewritten h owners (owners_after rules g (changed g (RewritesObject id at size)) None p owners) id at size g.objects same;
}
  where
    birth : (row : ObjectRow) → (rewritten id at size row).birth ≡ row.birth
    birth row = go (nat_eq row.id id)
      where
        go : (b : Bool) → (cond b (record row { at = at; size = size }) row).birth ≡ row.birth
        go true = refl
        go false = refl

    stay : ObjectsStay g (changed g (RewritesObject id at size))
    stay other row e = (rewritten id at size row, find-rewritten id at size other g.objects ∙ ap (option_map (rewritten id at size)) e, birth row)

    same : (other : ℕ) → owner_in (owners_after rules g (changed g (RewritesObject id at size)) None p owners) other ≡ owner_in owners other
    same = owner_same rules g (changed g (RewritesObject id at size)) p owners ids stay (all_found g.edges)

-- a row is put whose id is free
pub added_moved : (rules : RuleSet) (g : Graph) (row : ObjectRow) (p : ℕ) (owners : Owners) → map id_of_owner owners ≡ map id_of g.objects →
    object_at g row.id ≡ None → Added owners g.objects (owners_after rules g (changed g (PutsObject row)) None p owners) (put_object row g.objects)
added_moved rules g row p owners ids n = record {
  owner = same;
  weight = λ h. total_put h owners (owners_after rules g (changed g (PutsObject row)) None p owners) row g.objects n same (no_owner row.id owners g.objects ids n);
}
  where
    other_row : (b : Bool) (id : ℕ) (found : ObjectRow) → nat_eq row.id id ≡ b → object_at g id ≡ Some found → cond b (Some row) (object_at g id) ≡ Some found
    other_row true id found h e = absurd (let q : object_at g row.id ≡ object_at g id = ap (object_at g) (eqb_is row.id id h) in cc (q, n, e))
    other_row false id found h e = e

    stay : ObjectsStay g (changed g (PutsObject row))
    stay id found e = (found, find-put_object row id g.objects ∙ other_row (nat_eq row.id id) id found refl e, refl)

    same : (id : ℕ) → owner_in (owners_after rules g (changed g (PutsObject row)) None p owners) id ≡ owner_in owners id
    same = owner_same rules g (changed g (PutsObject row)) p owners ids stay (all_found g.edges)

-- an owned object is taken
pub dropped_moved : (rules : RuleSet) (g : Graph) (id job p : ℕ) (owners : Owners) (row : ObjectRow) → map id_of_owner owners ≡ map id_of g.objects →
    objects_rise g.objects ≡ true → object_at g id ≡ Some row → owner_in owners id ≡ Some job →
    Dropped id job owners g.objects (owners_after rules g (changed g (TakesObject id)) None p owners) (filter (is_other_object id) g.objects)
dropped_moved rules g id job p owners row ids rise f own = record {
  owned = own;
  owner = owner_lost rules g (changed g (TakesObject id)) None p owners id (none_left id g.objects);
  others = rest;
  weight = λ h.
      let a = total_filter h owners (owners_after rules g (changed g (TakesObject id)) None p owners) id row g.objects rise f rest in
      let b : h (owner_in owners id) ≡ h (Some job) = ap h own in
      omega (arith, a, b);
}
  where
    off : (b : Bool) (other : ℕ) → nat_eq id other ≡ b → (other ≡ id → ⊥) → cond b None (object_at g other) ≡ object_at g other
    off true other h ne = absurd (ne (sym (eqb_is id other h)))
    off false other h ne = refl

    rest : (other : ℕ) → (other ≡ id → ⊥) → owner_in (owners_after rules g (changed g (TakesObject id)) None p owners) other ≡ owner_in owners other
    rest other ne =
        owner_staying rules g (changed g (TakesObject id)) p owners other ids
        (find-filter_object id other g.objects ∙ off (nat_eq id other) other refl ne) (all_found g.edges)

-- a cut that passes its job on to the target
pub cut_gained : (rules : RuleSet) (g : Graph) (key : EdgeKey) (job p : ℕ) (owners : Owners) (row : ObjectRow) → map id_of_owner owners ≡ map id_of g.objects →
    objects_rise g.objects ≡ true → edge_stands g key ≡ true → object_at g key.to ≡ Some row →
    owner_in owners key.to ≡ None → owner_in owners key.from ≡ Some job → condemns rules (changed g (TakesEdge key)) key ≡ true →
    Gained key.to job owners g.objects (owners_after rules g (changed g (TakesEdge key)) None p owners) g.objects
cut_gained rules g key job p owners row ids rise e f n from c = record {
  free = n;
  owner = at;
  others = rest;
  weight = λ h.
      let b = total_change h owners (owners_after rules g (changed g (TakesEdge key)) None p owners) key.to row g.objects rise f rest in
      let k : h (owner_in owners key.to) ≡ h None = ap h n in
      let l : h (owner_in (owners_after rules g (changed g (TakesEdge key)) None p owners) key.to) ≡ h (Some job) = ap h at in
      omega (arith, b, k, l);
}
  where
    law : (id : ℕ) → owner_in (owners_after rules g (changed g (TakesEdge key)) None p owners) id ≡
        option_or (owner_in owners id) (passed_by rules (changed g (TakesEdge key)) owners id key)
    law = owner_cut rules g p owners key ids e (ap is_some f)

    at : owner_in (owners_after rules g (changed g (TakesEdge key)) None p owners) key.to ≡ Some job
    at = law key.to ∙ ap (λ (o : Option ℕ). option_or o (passed_by rules (changed g (TakesEdge key)) owners key.to key)) n
        ∙ ap (λ (b : Bool). cond (b && condemns rules (changed g (TakesEdge key)) key) (owner_in owners key.from) None) (eqb_self key.to)
        ∙ ap (λ (b : Bool). cond b (owner_in owners key.from) None) c ∙ from

    off : (b d : Bool) (v : Option ℕ) → (b ≡ true → ⊥) → cond (b && d) v None ≡ None
    off true d v h = absurd (h refl)
    off false d v h = refl

    rest : (id : ℕ) → (id ≡ key.to → ⊥) → owner_in (owners_after rules g (changed g (TakesEdge key)) None p owners) id ≡ owner_in owners id
    rest id ne =
        law id ∙ ap (option_or (owner_in owners id)) (off (nat_eq key.to id) (condemns rules (changed g (TakesEdge key)) key) (owner_in owners key.from) (λ h. ne (sym (eqb_is key.to id h))))
        ∙ first_with_none (owner_in owners id)

-- a cut that passes nothing on
pub cut_same : (rules : RuleSet) (g : Graph) (key : EdgeKey) (p : ℕ) (owners : Owners) → map id_of_owner owners ≡ map id_of g.objects →
    edge_stands g key ≡ true → is_some (object_at g key.to) ≡ true →
    (is_none (owner_in owners key.to) && condemns rules (changed g (TakesEdge key)) key) ≡ false →
    Same owners g.objects (owners_after rules g (changed g (TakesEdge key)) None p owners) g.objects
cut_same rules g key p owners ids e t n = record {
  owner = same;
  weight = λ h. total_same h owners (owners_after rules g (changed g (TakesEdge key)) None p owners) g.objects same;
}
  where
    keep : (o : Option ℕ) (d : Bool) (v : Option ℕ) → (is_none o && d) ≡ false → option_or o (cond d v None) ≡ o
    keep None true v h = absurd (cc h)
    keep None false v h = refl
    keep (Some j) d v h = refl

    pass : (b : Bool) (id : ℕ) → nat_eq key.to id ≡ b →
        option_or (owner_in owners id) (cond (b && condemns rules (changed g (TakesEdge key)) key) (owner_in owners key.from) None) ≡ owner_in owners id
    pass true id h =
        keep (owner_in owners id) (condemns rules (changed g (TakesEdge key)) key) (owner_in owners key.from)
        (ap (λ (k : ℕ). is_none (owner_in owners k) && condemns rules (changed g (TakesEdge key)) key) (sym (eqb_is key.to id h)) ∙ n)
    pass false id h = first_with_none (owner_in owners id)

    same : (id : ℕ) → owner_in (owners_after rules g (changed g (TakesEdge key)) None p owners) id ≡ owner_in owners id
    same id = owner_cut rules g p owners key ids e t id ∙ pass (nat_eq key.to id) id refl

-- what the moves do to a table's pairs

pub owner_among-push : (id job other : ℕ) (pairs : List (ℕ × ℕ)) → owner_among pairs id ≡ None →
    owner_among (pairs ++ (id, job) ∷ []) other ≡ cond (nat_eq id other) (Some job) (owner_among pairs other)
owner_among-push id job other [] n = go (nat_eq id other)
  where
    go : (b : Bool) → option_map job_of_pair (cond b (Some (id, job)) None) ≡ cond b (Some job) None
    go true = refl
    go false = refl
owner_among-push id job other (x ∷ xs) n =
    go (nat_eq x.0 other) refl (nat_eq x.0 id) refl n (owner_among-push id job other xs)
  where
    apart : (a b d : ℕ) → nat_eq a d ≡ true → nat_eq a b ≡ false → nat_eq b d ≡ false
    apart a b d e f = grind (arith, nat_tests, common_steps)

    go : (b : Bool) → nat_eq x.0 other ≡ b → (d : Bool) → nat_eq x.0 id ≡ d →
        option_map job_of_pair (cond d (Some x) (find (is_of_id id) xs)) ≡ None →
        (owner_among xs id ≡ None → owner_among (xs ++ (id, job) ∷ []) other ≡ cond (nat_eq id other) (Some job) (owner_among xs other)) →
        option_map job_of_pair (cond b (Some x) (find (is_of_id other) (xs ++ (id, job) ∷ []))) ≡
        cond (nat_eq id other) (Some job) (option_map job_of_pair (cond b (Some x) (find (is_of_id other) xs)))
    go b e true f m more = absurd (cc m)
    go false e false f m more = more m
    go true e false f m more = sym (ap (λ (q : Bool). cond q (Some job) (Some (job_of_pair x))) (apart x.0 id other e f))

pub same_pairs : (before after : Owners) (rows next : List ObjectRow) (pairs : List (ℕ × ℕ)) → Same before rows after next →
    ((id : ℕ) → owner_among pairs id ≡ owner_in before id) → (id : ℕ) → owner_among pairs id ≡ owner_in after id
same_pairs before after rows next pairs m e id = e id ∙ sym (m.owner id)

pub added_pairs : (before after : Owners) (rows next : List ObjectRow) (pairs : List (ℕ × ℕ)) → Added before rows after next →
    ((id : ℕ) → owner_among pairs id ≡ owner_in before id) → (id : ℕ) → owner_among pairs id ≡ owner_in after id
added_pairs before after rows next pairs m e id = e id ∙ sym (m.owner id)

pub gained_pairs : (id job : ℕ) (before after : Owners) (rows next : List ObjectRow) (pairs : List (ℕ × ℕ)) → Gained id job before rows after next →
    ((other : ℕ) → owner_among pairs other ≡ owner_in before other) → (other : ℕ) →
    owner_among (pairs ++ (id, job) ∷ []) other ≡ owner_in after other
gained_pairs id job before after rows next pairs m e other = owner_among-push id job other pairs (e id ∙ m.free) ∙ go (nat_eq id other) refl
  where
    go : (b : Bool) → nat_eq id other ≡ b → cond b (Some job) (owner_among pairs other) ≡ owner_in after other
    go true h = sym (ap (owner_in after) (sym (eqb_is id other h)) ∙ m.owner)
    go false h = e other ∙ sym (m.others other (λ q. absurd (let k : nat_eq id other ≡ true = ap (nat_eq id) q ∙ eqb_self id in cc (k, h))))

pub dropped_pairs : (id job : ℕ) (before after : Owners) (rows next : List ObjectRow) (pairs left : List (ℕ × ℕ)) → Dropped id job before rows after next →
    ((other : ℕ) → owner_among pairs other ≡ owner_in before other) →
    ((other : ℕ) → owner_among left other ≡ cond (nat_eq other id) None (owner_among pairs other)) → (other : ℕ) →
    owner_among left other ≡ owner_in after other
dropped_pairs id job before after rows next pairs left m e f other = f other ∙ go (nat_eq other id) refl
  where
    go : (b : Bool) → nat_eq other id ≡ b → cond b None (owner_among pairs other) ≡ owner_in after other
    go true h = sym (ap (owner_in after) (eqb_is other id h) ∙ m.owner)
    go false h = e other ∙ sym (m.others other (λ q. absurd (let k : nat_eq other id ≡ true = ap (λ (n : ℕ). nat_eq n id) q ∙ eqb_self id in cc (k, h))))
