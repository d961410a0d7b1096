-- The owner map after one entry.
use Rattle.std.proofs.Common.{◌≡◌, ℕ, Bool, true, false, cond, eqb, List, [], ◌∷◌, Option, Some, None, refl, sym, ap, ◌∙◌, subst, inl, inr, ◌⊎◌}
use Rattle.std.proofs.lemmas.Bool.{eqb-true, eq-eqb}
use Rattle.std.specs.Prelude.{find, map, is_some}
use Rattle.std.specs.Prelude.{option_and_then}
use Rattle.delf_model.specs.declared.rows.ObjectRow.{ObjectRow}
use Rattle.delf_model.specs.declared.rows.EdgeKey.{EdgeKey}
use Rattle.delf_model.specs.declared.rows.EdgeRow.{EdgeRow}
use Rattle.delf_model.specs.declared.entry.Entry.{Entry}
use Rattle.delf_model.specs.RuleSet.{RuleSet}
use Rattle.delf_model.specs.Graph.{Graph, has_id, has_key, same_key, object_at, stands, is_born_at}
use Rattle.delf_model.proofs.Graphs.{same_key_is}
use Rattle.delf_model.specs.State.{State, Owners, owner, owner_in, owns_of, owner_of_pair}
use Rattle.delf_model.specs.Step.{step, graph_after}
use Rattle.delf_model.specs.Owners.{root_of_start, start_of, root_owner, next_owner, first_passed, passed_owner}
use Rattle.std.specs.Option.{option_or}

-- the owner in a list that gives each row its owner
pub owner_in-map : (f : ObjectRow → Option ℕ) (rows : List ObjectRow) (id : ℕ) →
    owner_in (map (λ row. (row.id, f row)) rows) id ≡ option_and_then f (find (has_id id) rows)
owner_in-map f [] id = refl
owner_in-map f (x ∷ xs) id = by_hit (eqb x.id id) (owner_in-map f xs id)
  where
    by_hit : (hit : Bool) → owner_in (map (λ row. (row.id, f row)) xs) id ≡ option_and_then f (find (has_id id) xs) →
        option_and_then owner_of_pair (cond hit (Some (x.id, f x)) (find (owns_of id) (map (λ row. (row.id, f row)) xs))) ≡
        option_and_then f (cond hit (Some x) (find (has_id id) xs))
    by_hit true IH = refl
    by_hit false IH = IH

abbrev pub next_at : State → Entry → ObjectRow → Option ℕ
next_at s e row =
    next_owner s.rules s.graph (graph_after s e.moment e.what) (root_of_start (start_of s e.what)) s.len s.owners row

-- the owner of an id after an entry is that of its row
pub owner_step : (s : State) (e : Entry) (id : ℕ) →
    owner (step s e) id ≡ option_and_then (next_at s e) (object_at (graph_after s e.moment e.what) id)
owner_step s e id = owner_in-map (next_at s e) (graph_after s e.moment e.what).objects id

-- what is owned stands
pub stands_of : (g : Graph) (id : ℕ) (row : ObjectRow) → object_at g id ≡ Some row → stands g id row.birth ≡ true
stands_of g id row at = ap (λ (o : Option ObjectRow). is_born_at row.birth o) at ∙ eq-eqb row.birth row.birth refl

-- a row that an id finds has this id, and an edge that a key finds this key

find_id : (hit : Bool) (id : ℕ) (x row : ObjectRow) (o : Option ObjectRow) → eqb x.id id ≡ hit → cond hit (Some x) o ≡ Some row →
    (o ≡ Some row → row.id ≡ id) → row.id ≡ id
find_id true id x row o is found IH = let same : x ≡ row = cc in subst (λ (r : ObjectRow). r.id ≡ id) same (eqb-true x.id id is)
find_id false id x row o is found IH = IH found

pub found_id : (rows : List ObjectRow) (id : ℕ) (row : ObjectRow) → find (has_id id) rows ≡ Some row → row.id ≡ id
found_id [] id row found = absurd (cc found)
found_id (x ∷ xs) id row found = find_id (eqb x.id id) id x row (find (has_id id) xs) refl found (found_id xs id row)

find_key : (hit : Bool) (key : EdgeKey) (x row : EdgeRow) (o : Option EdgeRow) → same_key x.key key ≡ hit → cond hit (Some x) o ≡ Some row →
    (o ≡ Some row → row.key ≡ key) → row.key ≡ key
find_key true key x row o is found IH = let same : x ≡ row = cc in subst (λ (r : EdgeRow). r.key ≡ key) same (same_key_is x.key key is)
find_key false key x row o is found IH = IH found

pub found_key : (rows : List EdgeRow) (key : EdgeKey) (row : EdgeRow) → find (has_key key) rows ≡ Some row → row.key ≡ key
found_key [] key row found = absurd (cc found)
found_key (x ∷ xs) key row found = find_key (same_key x.key key) key x row (find (has_key key) xs) refl found (found_key xs key row)

-- the owner of an object after an entry: of one that stood before, of one that is new, of one that is gone

abbrev pub passed_to : State → Entry → ℕ → Option ℕ
passed_to s e id =
    option_or (owner s id)
    (option_or (root_owner (root_of_start (start_of s e.what)) s.len id)
    (first_passed s.rules (graph_after s e.moment e.what) s.owners id s.graph.edges))

next_of : (s : State) (e : Entry) (id : ℕ) (row : ObjectRow) (stood : Bool) → row.id ≡ id → stands s.graph id row.birth ≡ stood →
    next_at s e row ≡ cond stood (passed_to s e id) None
next_of s e id row stood same is =
    subst (λ (n : ℕ). stands s.graph n row.birth ≡ stood → next_at s e row ≡ cond stood (passed_to s e n) None) same
    (λ (at : stands s.graph row.id row.birth ≡ stood). ap (λ (b : Bool). cond b (passed_to s e row.id) None) at) is

pub owner_kept : (s : State) (e : Entry) (id : ℕ) (row : ObjectRow) → object_at (graph_after s e.moment e.what) id ≡ Some row →
    stands s.graph id row.birth ≡ true → owner (step s e) id ≡ passed_to s e id
owner_kept s e id row at stood =
    owner_step s e id ∙ (ap (option_and_then (next_at s e)) at ∙ next_of s e id row true (found_id (graph_after s e.moment e.what).objects id row at) stood)

pub owner_new : (s : State) (e : Entry) (id : ℕ) (row : ObjectRow) → object_at (graph_after s e.moment e.what) id ≡ Some row →
    stands s.graph id row.birth ≡ false → owner (step s e) id ≡ None
owner_new s e id row at stood =
    owner_step s e id ∙ (ap (option_and_then (next_at s e)) at ∙ next_of s e id row false (found_id (graph_after s e.moment e.what).objects id row at) stood)

pub owner_gone : (s : State) (e : Entry) (id : ℕ) → object_at (graph_after s e.moment e.what) id ≡ None → owner (step s e) id ≡ None
owner_gone s e id at = owner_step s e id ∙ ap (option_and_then (next_at s e)) at

-- an owner stays as long as the object stays, whatever the entry
pub owner_stays : (s : State) (e : Entry) (id job : ℕ) (row : ObjectRow) → object_at (graph_after s e.moment e.what) id ≡ Some row →
    stands s.graph id row.birth ≡ true → owner s id ≡ Some job → owner (step s e) id ≡ Some job
owner_stays s e id job row at stood own =
    owner_kept s e id row at stood ∙
    ap (λ (o : Option ℕ). option_or o (option_or (root_owner (root_of_start (start_of s e.what)) s.len id)
    (first_passed s.rules (graph_after s e.moment e.what) s.owners id s.graph.edges))) own

-- what is owned stands in the graph
abbrev pub OwnedStand : State → Type 0
OwnedStand s = (id job : ℕ) → owner s id ≡ Some job → is_some (object_at s.graph id) ≡ true

owned_some : {A : Type 0} (f : A → Option ℕ) (o : Option A) (job : ℕ) → option_and_then f o ≡ Some job → is_some o ≡ true
owned_some f None job own = absurd (cc own)
owned_some f (Some x) job own = refl

pub owned_stand_step : (s : State) (e : Entry) → OwnedStand (step s e)
owned_stand_step s e id job own =
    owned_some (next_at s e) (object_at (graph_after s e.moment e.what) id) job (sym (owner_step s e id) ∙ own)

-- an object that is owned after an entry stood before it
pub owned_stood : (s : State) (e : Entry) (id job : ℕ) (row : ObjectRow) → object_at (graph_after s e.moment e.what) id ≡ Some row →
    owner (step s e) id ≡ Some job → stands s.graph id row.birth ≡ true
owned_stood s e id job row at own = by_stood (stands s.graph id row.birth) refl
  where
    by_stood : (stood : Bool) → stands s.graph id row.birth ≡ stood → stood ≡ true
    by_stood true is = refl
    by_stood false is = absurd (let none : None ≡ Some job = sym (owner_new s e id row at is) ∙ own in cc none)

passed_from : (rules : RuleSet) (now : Graph) (owners : Owners) (id job : ℕ) (row : EdgeRow) (b : Bool) →
    cond b (owner_in owners row.key.from) None ≡ Some job → owner_in owners row.key.from ≡ Some job
passed_from rules now owners id job row true own = own
passed_from rules now owners id job row false own = absurd (cc own)

first_from : (o p : Option ℕ) (job : ℕ) → option_or o p ≡ Some job → (o ≡ Some job) ⊎ (p ≡ Some job)
first_from None p job own = inr own
first_from (Some x) p job own = inl own

-- what an edge passes was the owner of some object
pub first_passed_from : (rules : RuleSet) (now : Graph) (owners : Owners) (id job : ℕ) (rows : List EdgeRow) →
    first_passed rules now owners id rows ≡ Some job → (x : ℕ) × (owner_in owners x ≡ Some job)
first_passed_from rules now owners id job [] own = absurd (cc own)
first_passed_from rules now owners id job (row ∷ rows) own =
    elim (first_from (passed_owner rules now owners id row) (first_passed rules now owners id rows) job own) [
      | inl here ↦ (row.key.from, passed_from rules now owners id job row _ here)
      | inr later ↦ first_passed_from rules now owners id job rows later
    ]

root_is : (o : Option ℕ) (position id job : ℕ) → root_owner o position id ≡ Some job → job ≡ position
root_is None position id job own = absurd (cc own)
root_is (Some root) position id job own = by_hit (eqb root id) own
  where
    by_hit : (hit : Bool) → cond hit (Some position) None ≡ Some job → job ≡ position
    by_hit true is = cc
    by_hit false is = absurd (cc is)

-- an owner after an entry owned some object before it, or starts here
pub owner_from : (s : State) (e : Entry) (id job : ℕ) → owner (step s e) id ≡ Some job → ((x : ℕ) × (owner s x ≡ Some job)) ⊎ (job ≡ s.len)
owner_from s e id job own = by_row (object_at (graph_after s e.moment e.what) id) refl
  where
    by_passed : passed_to s e id ≡ Some job → ((x : ℕ) × (owner s x ≡ Some job)) ⊎ (job ≡ s.len)
    by_passed passed =
        elim (first_from (owner s id) _ job passed) [
          | inl kept ↦ inl (id, kept)
          | inr other ↦
              elim (first_from (root_owner (root_of_start (start_of s e.what)) s.len id) _ job other) [
                | inl root ↦ inr (root_is (root_of_start (start_of s e.what)) s.len id job root)
                | inr edge ↦ inl (first_passed_from s.rules (graph_after s e.moment e.what) s.owners id job s.graph.edges edge)
              ]
        ]

    by_row : (o : Option ObjectRow) → object_at (graph_after s e.moment e.what) id ≡ o → ((x : ℕ) × (owner s x ≡ Some job)) ⊎ (job ≡ s.len)
    by_row None at = absurd (let none : None ≡ Some job = sym (owner_gone s e id at) ∙ own in cc none)
    by_row (Some row) at = by_passed (sym (owner_kept s e id row at (owned_stood s e id job row at own)) ∙ own)
