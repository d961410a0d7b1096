-- The least object that a job owns.
use Rattle.std.proofs.Common.{◌≡◌, ℕ, ◌<◌, ◌≤◌, Bool, true, false, cond, ◌&&◌, ◌||◌, not, List, ◌∷◌, [], map, Option, Some, None, refl, sym, ◌∙◌, ap, arith, ltb}
use Rattle.std.specs.Prelude.{nat_eq, find, option_map, option_and_then}
use Rattle.std.specs.List.{list_any}
use Rattle.std.proofs.lemmas.Bool.Decides.{nat_tests}
use Rattle.delf_model.specs.declared.rows.ObjectRow.{ObjectRow}
use Rattle.delf_model.specs.Graph.{objects_rise, rises_after}
use Rattle.delf_model.specs.State.{Owners, owner_in, owns_of, owner_of_pair, is_pair_of, is_job}
use Rattle.job_table.specs.Table.{owner_among, is_of_id, is_of_owner, job_of_pair, id_of_owner, id_of}
use Rattle.job_table.specs.Apart.{are_apart}
use Rattle.job_table.proofs.Steps.{eqb_is, eqb_self}
use Rattle.job_table.proofs.Passing.{no_owner, owner_in_rest}
use Rattle.job_table.proofs.Sums.{none_after, rises_tail}
use Rattle.job_table.proofs.Erasures.{owner_is}

-- the job owns this id, among the pairs of a table
abbrev pub has_pair : ℕ → ℕ → List (ℕ × ℕ) → Bool
has_pair job id pairs = list_any (λ x. is_of_id id x && is_of_owner job x) pairs

pub has_owner : (job id : ℕ) (pairs : List (ℕ × ℕ)) → owner_among pairs id ≡ Some job → has_pair job id pairs ≡ true
has_owner job id [] e = absurd (cc e)
has_owner job id (x ∷ xs) e = go (nat_eq x.0 id) e (has_owner job id xs)
  where
    go : (b : Bool) → option_map job_of_pair (cond b (Some x) (find (is_of_id id) xs)) ≡ Some job →
        (owner_among xs id ≡ Some job → has_pair job id xs ≡ true) → ((b && nat_eq x.1 job) || has_pair job id xs) ≡ true
    go true h more = let q : x.1 ≡ job = cc h in ap (λ (b : Bool). b || has_pair job id xs) (ap (λ (n : ℕ). nat_eq n job) q ∙ eqb_self job)
    go false h more = more h

apart_parts : (x : ℕ × ℕ) (xs : List (ℕ × ℕ)) → are_apart (x ∷ xs) ≡ true → (list_any (is_of_id x.0) xs ≡ false) × (are_apart xs ≡ true)
apart_parts x xs h = go (list_any (is_of_id x.0) xs) h
  where
    go : (b : Bool) → (not b && are_apart xs) ≡ true → (b ≡ false) × (are_apart xs ≡ true)
    go true e = absurd (cc e)
    go false e = (refl, e)

pair_any : (job id : ℕ) (xs : List (ℕ × ℕ)) → has_pair job id xs ≡ true → list_any (is_of_id id) xs ≡ true
pair_any job id [] h = absurd (cc h)
pair_any job id (x ∷ xs) h = go (nat_eq x.0 id) (nat_eq x.1 job) h (pair_any job id xs)
  where
    go : (a b : Bool) → ((a && b) || has_pair job id xs) ≡ true → (has_pair job id xs ≡ true → list_any (is_of_id id) xs ≡ true) → (a || list_any (is_of_id id) xs) ≡ true
    go true b e more = refl
    go false b e more = more e

pub owner_has : (job id : ℕ) (pairs : List (ℕ × ℕ)) → are_apart pairs ≡ true → has_pair job id pairs ≡ true → owner_among pairs id ≡ Some job
owner_has job id [] a h = absurd (cc h)
owner_has job id (x ∷ xs) a h =
    let parts = apart_parts x xs a in
    go (nat_eq x.0 id) refl (nat_eq x.1 job) refl h (owner_has job id xs parts.1) parts.0
  where
    go : (b : Bool) → nat_eq x.0 id ≡ b → (d : Bool) → nat_eq x.1 job ≡ d → ((b && d) || has_pair job id xs) ≡ true →
        (has_pair job id xs ≡ true → owner_among xs id ≡ Some job) → list_any (is_of_id x.0) xs ≡ false →
        option_map job_of_pair (cond b (Some x) (find (is_of_id id) xs)) ≡ Some job
    go true p true q e more n = ap (λ (k : ℕ). Some k) (eqb_is x.1 job q)
    go true p false q e more n =
        absurd (let z : list_any (is_of_id x.0) xs ≡ true = ap (λ (k : ℕ). list_any (is_of_id k) xs) (eqb_is x.0 id p) ∙ pair_any job id xs e in cc (z, n))
    go false p d q e more n = more e

-- the first pair of the job, by rising id

pub owner_above : (low id job : ℕ) (pairs : Owners) (rows : List ObjectRow) → map id_of_owner pairs ≡ map id_of rows → rises_after low rows ≡ true →
    owner_in pairs id ≡ Some job → low < id
owner_above low id job pairs rows e r o = go (ltb low id) refl
  where
    go : (b : Bool) → ltb low id ≡ b → low < id
    go true t = grind (arith, nat_tests, t)
    go false t =
        let below : id ≤ low = grind (arith, nat_tests, t) in
        absurd (let n = no_owner id pairs rows e (none_after low id rows r below) in cc (n, o))

pub found_owner : (job : ℕ) (pair : ℕ × Option ℕ) (pairs : Owners) (rows : List ObjectRow) → map id_of_owner pairs ≡ map id_of rows → objects_rise rows ≡ true →
    find (is_pair_of job) pairs ≡ Some pair → owner_in pairs pair.0 ≡ Some job
found_owner job pair [] rows e r f = absurd (cc f)
found_owner job pair (p ∷ ps) [] e r f = absurd (cc e)
found_owner job pair (p ∷ ps) (x ∷ xs) e r f =
    let tail : map id_of_owner ps ≡ map id_of xs = cc e in
    let head : p.0 ≡ x.id = cc e in
    go (is_pair_of job p) refl f (found_owner job pair ps xs tail (rises_tail x.id xs r))
    (λ o. owner_above x.id pair.0 job ps xs tail r o) head
  where
    mine : (o : Option ℕ) → is_job job o ≡ true → o ≡ Some job
    mine o h = owner_is job o h

    go : (b : Bool) → is_pair_of job p ≡ b → cond b (Some p) (find (is_pair_of job) ps) ≡ Some pair →
        (find (is_pair_of job) ps ≡ Some pair → owner_in ps pair.0 ≡ Some job) → (owner_in ps pair.0 ≡ Some job → x.id < pair.0) → p.0 ≡ x.id →
        owner_in (p ∷ ps) pair.0 ≡ Some job
    go true t h more above head =
        let at : p ≡ pair = cc h in
        ap (λ (q : ℕ × Option ℕ). owner_in (p ∷ ps) q.0) (sym at)
        ∙ ap (λ (b : Bool). option_and_then owner_of_pair (cond b (Some p) (find (owns_of p.0) ps))) (eqb_self p.0) ∙ mine p.1 t
    go false t h more above head =
        let o = more h in
        let l = above o in
        owner_in_rest p ps pair.0 (omega (arith, l, head)) ∙ o

pub found_least : (job id : ℕ) (pair : ℕ × Option ℕ) (pairs : Owners) (rows : List ObjectRow) → map id_of_owner pairs ≡ map id_of rows → objects_rise rows ≡ true →
    find (is_pair_of job) pairs ≡ Some pair → owner_in pairs id ≡ Some job → pair.0 ≤ id
found_least job id pair [] rows e r f o = absurd (cc f)
found_least job id pair (p ∷ ps) [] e r f o = absurd (cc e)
found_least job id pair (p ∷ ps) (x ∷ xs) e r f o =
    let tail : map id_of_owner ps ≡ map id_of xs = cc e in
    let head : p.0 ≡ x.id = cc e in
    go (is_pair_of job p) refl f (nat_eq p.0 id) refl o (found_least job id pair ps xs tail (rises_tail x.id xs r))
    (λ q. owner_above x.id id job ps xs tail r q) head
  where
    go : (b : Bool) → is_pair_of job p ≡ b → cond b (Some p) (find (is_pair_of job) ps) ≡ Some pair →
        (d : Bool) → nat_eq p.0 id ≡ d → option_and_then owner_of_pair (cond d (Some p) (find (owns_of id) ps)) ≡ Some job →
        (find (is_pair_of job) ps ≡ Some pair → owner_in ps id ≡ Some job → pair.0 ≤ id) → (owner_in ps id ≡ Some job → x.id < id) → p.0 ≡ x.id → pair.0 ≤ id
    go true t h true q w more above head = let at : p.0 ≡ pair.0 = cc h in let s = eqb_is p.0 id q in omega (arith, at, s)
    go true t h false q w more above head = let at : p.0 ≡ pair.0 = cc h in let l = above w in omega (arith, at, l, head)
    go false t h true q w more above head = absurd (let z : is_job job p.1 ≡ true = ap (is_job job) w ∙ eqb_self job in cc (z, t))
    go false t h false q w more above head = more h w

pub none_owned : (job id : ℕ) (pairs : Owners) → find (is_pair_of job) pairs ≡ None → owner_in pairs id ≡ Some job → ⊥
none_owned job id [] f o = cc o
none_owned job id (p ∷ ps) f o = go (is_pair_of job p) refl f (nat_eq p.0 id) o (none_owned job id ps)
  where
    go : (b : Bool) → is_pair_of job p ≡ b → cond b (Some p) (find (is_pair_of job) ps) ≡ None → (d : Bool) →
        option_and_then owner_of_pair (cond d (Some p) (find (owns_of id) ps)) ≡ Some job →
        (find (is_pair_of job) ps ≡ None → owner_in ps id ≡ Some job → ⊥) → ⊥
    go true t h d w more = cc h
    go false t h true w more = let z : is_job job p.1 ≡ true = ap (is_job job) w ∙ eqb_self job in cc (z, t)
    go false t h false w more = more h w
