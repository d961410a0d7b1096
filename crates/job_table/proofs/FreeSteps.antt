-- Steps that no claim holds, found among the edges of an object.
use Rattle.std.proofs.Common.{◌≡◌, ℕ, zero, suc, ◌+◌, ◌<◌, ◌≤◌, Bool, true, false, cond, not, ◌&&◌, ◌||◌, List, [], ◌∷◌, drop, length, Option, Some, None, refl, sym, ap, ◌∙◌, subst, arith}
use Rattle.std.specs.Prelude.{find, filter, is_some, slice_get, nat_eq, option_map, option_and_then}
use Rattle.std.specs.List.{list_any}
use Rattle.delf_model.specs.declared.rows.EdgeRow.{EdgeRow}
use Rattle.delf_model.specs.declared.entry.What.{What}
use Rattle.delf_model.specs.declared.entry.What.TheVariants.{Cut, Erase}
use Rattle.delf_model.specs.Graph.{Graph, has_key, edge_at, edge_stands, same_key, touches_row, is_touched, out_edges, in_edges, leaves_from, leads_to}
use Rattle.delf_model.specs.State.{State, owner, is_owned_by, is_job}
use Rattle.delf_model.specs.Owners.{key_of}
use Rattle.std.specs.Option.{option_or}
use Rattle.delf_model.specs.Legal.{is_allowed}
use Rattle.delf_model.specs.Order.{is_step, is_held}
use Rattle.job_table.specs.Table.{owner_among, is_of_id, job_of_pair}
use Rattle.job_table.specs.Apart.{are_apart}
use Rattle.job_table.specs.Free.{cut_of, is_free_edge, free_cut, free_erase, free_step, has_free, free_among}
use Rattle.job_table.proofs.Lookups.{both, same_key_self}
use Rattle.job_table.proofs.Steps.{eqb_self, eqb_is, edge_key_is}
use Rattle.job_table.proofs.Leasts.{has_pair, owner_has}
use Rattle.job_table.proofs.Erasures.{owner_is}

-- what find finds passes, and where it finds none nothing passes

pub found_passes : {A : Type 0} (p : A → Bool) (xs : List A) (row : A) → find p xs ≡ Some row → p row ≡ true
found_passes p [] row f = absurd (cc f)
found_passes p (x ∷ xs) row f = go (p x) refl f (found_passes p xs row)
  where
    go : (b : Bool) → p x ≡ b → cond b (Some x) (find p xs) ≡ Some row → (find p xs ≡ Some row → p row ≡ true) → p row ≡ true
    go true is h more = let same : x ≡ row = cc h in ap p (sym same) ∙ is
    go false is h more = more h

pub none_passes : {A : Type 0} (p q : A → Bool) (xs : List A) (row : A) → find p xs ≡ None → find q xs ≡ Some row → p row ≡ false
none_passes p q [] row n f = absurd (cc f)
none_passes p q (x ∷ xs) row n f = go (p x) refl n (q x) f (none_passes p q xs row)
  where
    go : (b : Bool) → p x ≡ b → cond b (Some x) (find p xs) ≡ None → (c : Bool) → cond c (Some x) (find q xs) ≡ Some row →
        (find p xs ≡ None → find q xs ≡ Some row → p row ≡ false) → p row ≡ false
    go true is h c k more = absurd (cc h)
    go false is h true k more = let same : x ≡ row = cc k in ap p (sym same) ∙ is
    go false is h false k more = more h k

pub found_place : {A : Type 0} (p : A → Bool) (xs : List A) (row : A) → find p xs ≡ Some row → (i : ℕ) × (slice_get xs i ≡ Some row)
found_place p [] row f = absurd (cc f)
found_place p (x ∷ xs) row f = go (p x) f (found_place p xs row)
  where
    go : (b : Bool) → cond b (Some x) (find p xs) ≡ Some row → (find p xs ≡ Some row → (i : ℕ) × (slice_get xs i ≡ Some row)) →
        (i : ℕ) × (slice_get (x ∷ xs) i ≡ Some row)
    go true h more = (0, h)
    go false h more = let r = more h in (suc r.0, r.1)

-- a loop over the edges of an object

pub drop_get : {A : Type 0} (xs : List A) (i : ℕ) (x : A) → Some x ≡ slice_get xs i → drop i xs ≡ x ∷ drop (i + 1) xs
drop_get [] i x e = absurd (cc e)
drop_get (y ∷ ys) zero x e = let same : x ≡ y = cc e in ap (λ (z : _). z ∷ ys) (sym same)
drop_get (y ∷ ys) (suc i) x e =
    let next : suc i + 1 ≡ suc (i + 1) = omega arith in
    drop_get ys i x e ∙ ap (λ (n : ℕ). x ∷ drop n (y ∷ ys)) (sym next)

drop_past : {A : Type 0} (xs : List A) (i : ℕ) → None ≡ slice_get xs i → drop i xs ≡ []
drop_past [] zero e = refl
drop_past [] (suc i) e = refl
drop_past (y ∷ ys) zero e = absurd (cc e)
drop_past (y ∷ ys) (suc i) e = drop_past ys i e

pub within : {A : Type 0} (xs : List A) (i : ℕ) (x : A) → Some x ≡ slice_get xs i → i < length xs
within [] i x e = absurd (cc e)
within (y ∷ ys) zero x e = omega arith
within (y ∷ ys) (suc i) x e = let l = within ys i x e in omega arith

pub edge_free : (held : List What) (job i : ℕ) (rows : List EdgeRow) (row : EdgeRow) (step : What) (b : Bool) → free_cut held job rows ≡ free_cut held job (drop i rows) →
    Some row ≡ slice_get rows i → step ≡ cut_of job row → b ≡ is_held held step → b ≡ false → Some step ≡ free_cut held job rows
edge_free held job i rows row step b rest e s h f =
    let test : is_free_edge held job row ≡ true = ap not (ap (is_held held) (sym s) ∙ sym h ∙ f) in
    ap (λ (w : What). Some w) s
    ∙ sym (rest ∙ ap (free_cut held job) (drop_get rows i row e)
    ∙ ap (λ (c : Bool). option_map (cut_of job) (cond c (Some row) (find (is_free_edge held job) (drop (i + 1) rows)))) test)

pub edge_held : (held : List What) (job i : ℕ) (rows : List EdgeRow) (row : EdgeRow) (step : What) (b : Bool) → free_cut held job rows ≡ free_cut held job (drop i rows) →
    Some row ≡ slice_get rows i → step ≡ cut_of job row → b ≡ is_held held step → b ≡ true → free_cut held job rows ≡ free_cut held job (drop (i + 1) rows)
edge_held held job i rows row step b rest e s h t =
    let test : is_free_edge held job row ≡ false = ap not (ap (is_held held) (sym s) ∙ sym h ∙ t) in
    rest ∙ ap (free_cut held job) (drop_get rows i row e)
    ∙ ap (λ (c : Bool). option_map (cut_of job) (cond c (Some row) (find (is_free_edge held job) (drop (i + 1) rows)))) test

pub edges_over : (held : List What) (job i : ℕ) (rows : List EdgeRow) → free_cut held job rows ≡ free_cut held job (drop i rows) →
    None ≡ slice_get rows i → None ≡ free_cut held job rows
edges_over held job i rows rest e = sym (rest ∙ ap (free_cut held job) (drop_past rows i e))

pub filter_fits : {A : Type 0} (p : A → Bool) (xs : List A) → length (filter p xs) ≤ length xs
filter_fits p [] = omega arith
filter_fits p (x ∷ xs) = go (p x) (filter_fits p xs)
  where
    go : (b : Bool) → length (filter p xs) ≤ length xs → length (cond b (x ∷ filter p xs) (filter p xs)) ≤ length (x ∷ xs)
    go true l = omega arith
    go false l = omega arith

-- an object is touched where an edge leaves it or leads to it

pub touched_by : (id : ℕ) (rows : List EdgeRow) →
    list_any (touches_row id) rows ≡ (is_some (slice_get (filter (leaves_from id) rows) 0) || is_some (slice_get (filter (leads_to id) rows) 0))
touched_by id [] = refl
touched_by id (x ∷ xs) = go (nat_eq x.key.from id) (nat_eq x.key.to id) (touched_by id xs)
  where
    or_true : (a : Bool) → true ≡ (a || true)
    or_true true = refl
    or_true false = refl

    go : (a b : Bool) → list_any (touches_row id) xs ≡ (is_some (slice_get (filter (leaves_from id) xs) 0) || is_some (slice_get (filter (leads_to id) xs) 0)) →
        ((a || b) || list_any (touches_row id) xs) ≡
        (is_some (slice_get (cond a (x ∷ filter (leaves_from id) xs) (filter (leaves_from id) xs)) 0) ||
        is_some (slice_get (cond b (x ∷ filter (leads_to id) xs) (filter (leads_to id) xs)) 0))
    go true b e = refl
    go false true e = or_true (is_some (slice_get (filter (leaves_from id) xs) 0))
    go false false e = e

pub touched_out : (id : ℕ) (rows : List EdgeRow) (o : Option EdgeRow) (b : Bool) → o ≡ slice_get (filter (leaves_from id) rows) 0 → b ≡ is_some o → b ≡ true →
    b ≡ list_any (touches_row id) rows
touched_out id rows o b e f t =
    let out : is_some (slice_get (filter (leaves_from id) rows) 0) ≡ true = ap is_some (sym e) ∙ sym f ∙ t in
    t ∙ sym (touched_by id rows ∙ ap (λ (c : Bool). c || is_some (slice_get (filter (leads_to id) rows) 0)) out)

pub touched_in : (id : ℕ) (rows : List EdgeRow) (o q : Option EdgeRow) (b c : Bool) → o ≡ slice_get (filter (leaves_from id) rows) 0 → b ≡ is_some o → b ≡ false →
    q ≡ slice_get (filter (leads_to id) rows) 0 → c ≡ is_some q → c ≡ list_any (touches_row id) rows
touched_in id rows o q b c e f n g h =
    let out : is_some (slice_get (filter (leaves_from id) rows) 0) ≡ false = ap is_some (sym e) ∙ sym f ∙ n in
    h ∙ ap is_some g ∙ sym (touched_by id rows ∙ ap (λ (d : Bool). d || is_some (slice_get (filter (leads_to id) rows) 0)) out)

-- a loop that looks for the first element that passes

pub find_here : {A : Type 0} (p : A → Bool) (xs : List A) (i : ℕ) (x : A) → find p xs ≡ find p (drop i xs) → Some x ≡ slice_get xs i → p x ≡ true → Some x ≡ find p xs
find_here p xs i x rest e t =
    sym (rest ∙ ap (find p) (drop_get xs i x e) ∙ ap (λ (b : Bool). cond b (Some x) (find p (drop (i + 1) xs))) t)

pub find_past : {A : Type 0} (p : A → Bool) (xs : List A) (i : ℕ) (x : A) → find p xs ≡ find p (drop i xs) → Some x ≡ slice_get xs i → p x ≡ false →
    find p xs ≡ find p (drop (i + 1) xs)
find_past p xs i x rest e t = rest ∙ ap (find p) (drop_get xs i x e) ∙ ap (λ (b : Bool). cond b (Some x) (find p (drop (i + 1) xs))) t

pub find_over : {A : Type 0} (p : A → Bool) (xs : List A) (i : ℕ) → find p xs ≡ find p (drop i xs) → None ≡ slice_get xs i → None ≡ find p xs
find_over p xs i rest e = sym (rest ∙ ap (find p) (drop_past xs i e))

-- the first owned object with a free step

pub free_here : (g : Graph) (held : List What) (pairs : List (ℕ × ℕ)) (i : ℕ) (pair : ℕ × ℕ) (step : Option What) (b : Bool) →
    find (has_free g held) pairs ≡ find (has_free g held) (drop i pairs) → Some pair ≡ slice_get pairs i → step ≡ free_step g held pair → b ≡ is_some step → b ≡ true →
    step ≡ free_among g held pairs
free_here g held pairs i pair step b rest e is f t =
    let passes : has_free g held pair ≡ true = ap is_some (sym is) ∙ sym f ∙ t in
    is ∙ ap (option_and_then (free_step g held)) (find_here (has_free g held) pairs i pair rest e passes)

pub free_past : (g : Graph) (held : List What) (pairs : List (ℕ × ℕ)) (i : ℕ) (pair : ℕ × ℕ) (step : Option What) (b : Bool) →
    find (has_free g held) pairs ≡ find (has_free g held) (drop i pairs) → Some pair ≡ slice_get pairs i → step ≡ free_step g held pair → b ≡ is_some step → b ≡ false →
    find (has_free g held) pairs ≡ find (has_free g held) (drop (i + 1) pairs)
free_past g held pairs i pair step b rest e is f t =
    let fails : has_free g held pair ≡ false = ap is_some (sym is) ∙ sym f ∙ t in
    find_past (has_free g held) pairs i pair rest e fails

pub free_over : (g : Graph) (held : List What) (pairs : List (ℕ × ℕ)) (i : ℕ) → find (has_free g held) pairs ≡ find (has_free g held) (drop i pairs) → None ≡ slice_get pairs i →
    None ≡ free_among g held pairs
free_over g held pairs i rest e = ap (option_and_then (free_step g held)) (find_over (has_free g held) pairs i rest e)

-- rows of a filtered list

kept_row : (p q : EdgeRow → Bool) (xs : List EdgeRow) (row : EdgeRow) → find p (filter q xs) ≡ Some row → (q row ≡ true) × (is_some (find (has_key row.key) xs) ≡ true)
kept_row p q [] row f = absurd (cc f)
kept_row p q (x ∷ xs) row f = go (q x) refl f (kept_row p q xs row)
  where
    more : (b : Bool) → is_some (find (has_key row.key) xs) ≡ true → is_some (cond b (Some x) (find (has_key row.key) xs)) ≡ true
    more true h = refl
    more false h = h

    hit : (b : Bool) → cond b (Some x) (find p (filter q xs)) ≡ Some row → q x ≡ true →
        (find p (filter q xs) ≡ Some row → (q row ≡ true) × (is_some (find (has_key row.key) xs) ≡ true)) →
        (q row ≡ true) × (is_some (find (has_key row.key) (x ∷ xs)) ≡ true)
    hit true h at IH =
        let same : x ≡ row = cc h in (
          ap q (sym same) ∙ at,
          ap (λ (b : Bool). is_some (cond b (Some x) (find (has_key row.key) xs))) (ap (λ (r : EdgeRow). same_key r.key row.key) same ∙ same_key_self row.key),
        )
    hit false h at IH = let r = IH h in (r.0, more (has_key row.key x) r.1)

    go : (b : Bool) → q x ≡ b → find p (cond b (x ∷ filter q xs) (filter q xs)) ≡ Some row →
        (find p (filter q xs) ≡ Some row → (q row ≡ true) × (is_some (find (has_key row.key) xs) ≡ true)) →
        (q row ≡ true) × (is_some (find (has_key row.key) (x ∷ xs)) ≡ true)
    go true at h IH = hit (p x) h at IH
    go false at h IH = let r = IH h in (r.0, more (has_key row.key x) r.1)

none_kept : (p q r : EdgeRow → Bool) (xs : List EdgeRow) (row : EdgeRow) → find p (filter q xs) ≡ None → find r xs ≡ Some row → q row ≡ true → p row ≡ false
none_kept p q r [] row n f t = absurd (cc f)
none_kept p q r (x ∷ xs) row n f t = go (q x) refl n (p x) refl (r x) f (λ m k. none_kept p q r xs row m k t)
  where
    rest : (b : Bool) → cond b (Some x) (find p (filter q xs)) ≡ None → (b ≡ false) × (find p (filter q xs) ≡ None)
    rest true h = absurd (cc h)
    rest false h = (refl, h)

    here : q x ≡ false → x ≡ row → p row ≡ false
    here is same = absurd (let z : q x ≡ true = ap q same ∙ t in cc (z, is))

    go : (a : Bool) → q x ≡ a → find p (cond a (x ∷ filter q xs) (filter q xs)) ≡ None → (b : Bool) → p x ≡ b → (c : Bool) →
        cond c (Some x) (find r xs) ≡ Some row → (find p (filter q xs) ≡ None → find r xs ≡ Some row → p row ≡ false) → p row ≡ false
    go true is h b at true k IH = let same : x ≡ row = cc k in ap p (sym same) ∙ (rest (p x) h).0
    go true is h b at false k IH = IH (rest (p x) h).1 k
    go false is h b at true k IH = here is (cc k)
    go false is h b at false k IH = IH h k

mapped_none : (job : ℕ) (o : Option EdgeRow) → option_map (cut_of job) o ≡ None → o ≡ None
mapped_none job None h = refl
mapped_none job (Some row) h = absurd (cc h)

both_none : {A : Type 0} (a b : Option A) → option_or a b ≡ None → (a ≡ None) × (b ≡ None)
both_none None b h = (refl, h)
both_none (Some x) b h = absurd (cc h)

is_none_of : (o : Option What) → is_some o ≡ false → o ≡ None
is_none_of None h = refl
is_none_of (Some w) h = absurd (cc h)

held_again : (b : Bool) → not b ≡ false → b ≡ true
held_again true h = refl
held_again false h = absurd (cc h)

free_again : (b : Bool) → not b ≡ true → b ≡ false
free_again true h = absurd (cc h)
free_again false h = refl

or_left : (a b : Bool) → a ≡ true → (a || b) ≡ true
or_left true b h = refl
or_left false b h = absurd (cc h)

or_right : (a b : Bool) → b ≡ true → (a || b) ≡ true
or_right true b h = refl
or_right false b h = h

-- a step that every history may take, and that is not held
abbrev pub IsOpenStep : State → List What → What → Type 0
IsOpenStep s held w = (is_step w ≡ true) × ((m : ℕ) → is_allowed s m w ≡ true) × (is_held held w ≡ false)

module _ (s : State) (held : List What) where
  owned_here : (job id : ℕ) → owner s id ≡ Some job → is_owned_by s job id ≡ true
  owned_here job id e = ap (is_job job) e ∙ eqb_self job

  out_step : (job id : ℕ) (row : EdgeRow) → owner s id ≡ Some job → find (is_free_edge held job) (out_edges s.graph id) ≡ Some row → IsOpenStep s held (cut_of job row)
  out_step job id row o f =
      let r = kept_row (is_free_edge held job) (leaves_from id) s.graph.edges row f in
      let end : is_owned_by s job row.key.from ≡ true = ap (is_owned_by s job) (eqb_is row.key.from id r.0) ∙ owned_here job id o in (
        refl,
        λ m. ap (λ (b : Bool). b && (is_owned_by s job row.key.from || is_owned_by s job row.key.to)) r.1 ∙ or_left _ _ end,
        free_again (is_held held (cut_of job row)) (found_passes (is_free_edge held job) (out_edges s.graph id) row f),
      )

  in_step : (job id : ℕ) (row : EdgeRow) → owner s id ≡ Some job → find (is_free_edge held job) (in_edges s.graph id) ≡ Some row → IsOpenStep s held (cut_of job row)
  in_step job id row o f =
      let r = kept_row (is_free_edge held job) (leads_to id) s.graph.edges row f in
      let end : is_owned_by s job row.key.to ≡ true = ap (is_owned_by s job) (eqb_is row.key.to id r.0) ∙ owned_here job id o in (
        refl,
        λ m. ap (λ (b : Bool). b && (is_owned_by s job row.key.from || is_owned_by s job row.key.to)) r.1 ∙ or_right _ _ end,
        free_again (is_held held (cut_of job row)) (found_passes (is_free_edge held job) (in_edges s.graph id) row f),
      )

  erase_step : (job id : ℕ) (w : What) → owner s id ≡ Some job → free_erase s.graph held job id ≡ Some w → IsOpenStep s held w
  erase_step job id w o f = go (is_touched s.graph id) refl (is_held held (Erase job id)) refl f
    where
      go : (a : Bool) → is_touched s.graph id ≡ a → (b : Bool) → is_held held (Erase job id) ≡ b → cond (a || b) None (Some (Erase job id)) ≡ Some w → IsOpenStep s held w
      go true t b h e = absurd (cc e)
      go false t true h e = absurd (cc e)
      go false t false h e =
          let same : Erase job id ≡ w = cc e in
          subst (IsOpenStep s held) same (refl, λ m. ap (λ (b : Bool). b && not (is_touched s.graph id)) (owned_here job id o) ∙ ap not t, h)

  step_open : (pair : ℕ × ℕ) (w : What) → owner s pair.0 ≡ Some pair.1 → free_step s.graph held pair ≡ Some w → IsOpenStep s held w
  step_open pair w o f = by_out (find (is_free_edge held pair.1) (out_edges s.graph pair.0)) refl f
    where
      by_in : (q : Option EdgeRow) → find (is_free_edge held pair.1) (in_edges s.graph pair.0) ≡ q →
          option_or (option_map (cut_of pair.1) q) (free_erase s.graph held pair.1 pair.0) ≡ Some w → IsOpenStep s held w
      by_in (Some row) at e = let same : cut_of pair.1 row ≡ w = cc e in subst (IsOpenStep s held) same (in_step pair.1 pair.0 row o at)
      by_in None at e = erase_step pair.1 pair.0 w o e

      by_out : (q : Option EdgeRow) → find (is_free_edge held pair.1) (out_edges s.graph pair.0) ≡ q →
          option_or (option_map (cut_of pair.1) q)
          (option_or (free_cut held pair.1 (in_edges s.graph pair.0)) (free_erase s.graph held pair.1 pair.0)) ≡ Some w → IsOpenStep s held w
      by_out (Some row) at e = let same : cut_of pair.1 row ≡ w = cc e in subst (IsOpenStep s held) same (out_step pair.1 pair.0 row o at)
      by_out None at e = by_in (find (is_free_edge held pair.1) (in_edges s.graph pair.0)) refl e

-- what a pair that find finds owns
pub found_owns : (p : ℕ × ℕ → Bool) (pairs : List (ℕ × ℕ)) (pair : ℕ × ℕ) → find p pairs ≡ Some pair → has_pair pair.1 pair.0 pairs ≡ true
found_owns p [] pair f = absurd (cc f)
found_owns p (x ∷ xs) pair f = go (p x) f (found_owns p xs pair)
  where
    go : (b : Bool) → cond b (Some x) (find p xs) ≡ Some pair → (find p xs ≡ Some pair → has_pair pair.1 pair.0 xs ≡ true) → has_pair pair.1 pair.0 (x ∷ xs) ≡ true
    go true h more =
        let same : x ≡ pair = cc h in
        or_left (nat_eq x.0 pair.0 && nat_eq x.1 pair.1) (has_pair pair.1 pair.0 xs)
        (ap (λ (y : ℕ × ℕ). nat_eq y.0 pair.0 && nat_eq y.1 pair.1) same ∙ ap (λ (b : Bool). b && nat_eq pair.1 pair.1) (eqb_self pair.0) ∙ eqb_self pair.1)
    go false h more = or_right (nat_eq x.0 pair.0 && nat_eq x.1 pair.1) (has_pair pair.1 pair.0 xs) (more h)

module _ (s : State) (held : List What) (pairs : List (ℕ × ℕ)) (owners : (id : ℕ) → owner_among pairs id ≡ owner s id) where
  pub among_open : (w : What) → are_apart pairs ≡ true → free_among s.graph held pairs ≡ Some w → IsOpenStep s held w
  among_open w apart f = go (find (has_free s.graph held) pairs) refl f
    where
      go : (o : Option (ℕ × ℕ)) → find (has_free s.graph held) pairs ≡ o → option_and_then (free_step s.graph held) o ≡ Some w → IsOpenStep s held w
      go None at e = absurd (cc e)
      go (Some pair) at e =
          step_open s held pair w (sym (owners pair.0) ∙ owner_has pair.1 pair.0 pairs apart (found_owns (has_free s.graph held) pairs pair at)) e

  nothing_free : free_among s.graph held pairs ≡ None → find (has_free s.graph held) pairs ≡ None
  nothing_free n = go (find (has_free s.graph held) pairs) refl n
    where
      go : (o : Option (ℕ × ℕ)) → find (has_free s.graph held) pairs ≡ o → option_and_then (free_step s.graph held) o ≡ None → o ≡ None
      go None at e = refl
      go (Some pair) at e =
          absurd (let t : has_free s.graph held pair ≡ true = found_passes (has_free s.graph held) pairs pair at in let z : has_free s.graph held pair ≡ false = ap is_some e in cc (t, z))

  -- an owned object has no free step
  owned_shut : (job id : ℕ) → free_among s.graph held pairs ≡ None → owner s id ≡ Some job → free_step s.graph held (id, job) ≡ None
  owned_shut job id n o = go (find (is_of_id id) pairs) refl (owners id ∙ o)
    where
      go : (f : Option (ℕ × ℕ)) → find (is_of_id id) pairs ≡ f → option_map job_of_pair f ≡ Some job → free_step s.graph held (id, job) ≡ None
      go None at e = absurd (cc e)
      go (Some pair) at e =
          let first : pair.0 ≡ id = eqb_is pair.0 id (found_passes (is_of_id id) pairs pair at) in
          let second : pair.1 ≡ job = cc e in
          let shut : has_free s.graph held pair ≡ false = none_passes (has_free s.graph held) (is_of_id id) pairs pair (nothing_free n) at in
          is_none_of (free_step s.graph held (id, job))
          (ap (λ (k : ℕ). has_free s.graph held (k, job)) (sym first) ∙ ap (λ (k : ℕ). has_free s.graph held (pair.0, k)) (sym second) ∙ shut)

  edge_row : (key : _) → edge_stands s.graph key ≡ true → (row : EdgeRow) × (edge_at s.graph key ≡ Some row)
  edge_row key e = go (edge_at s.graph key) refl e
    where
      go : (o : Option EdgeRow) → edge_at s.graph key ≡ o → is_some o ≡ true → (row : EdgeRow) × (edge_at s.graph key ≡ Some row)
      go None at h = absurd (cc h)
      go (Some row) at h = (row, at)

  held_cut : (job edge from to : ℕ) (row : EdgeRow) → edge_at s.graph (key_of edge from to) ≡ Some row → is_free_edge held job row ≡ false →
      is_held held (Cut job edge from to) ≡ true
  held_cut job edge from to row at shut =
      let key = edge_key_is (key_of edge from to) row s.graph.edges at in
      ap (λ (k : _). is_held held (Cut job k.edge k.from k.to)) (sym key) ∙ held_again (is_held held (cut_of job row)) shut

  -- where no owned object has a free step, each legal Cut and Erase is held

  pub cut_held : (m job edge from to : ℕ) → free_among s.graph held pairs ≡ None → is_allowed s m (Cut job edge from to) ≡ true → is_held held (Cut job edge from to) ≡ true
  cut_held m job edge from to n a =
      let parts = both (edge_stands s.graph (key_of edge from to)) (is_owned_by s job from || is_owned_by s job to) a in
      let row = edge_row (key_of edge from to) parts.0 in
      let key = edge_key_is (key_of edge from to) row.0 s.graph.edges row.1 in
      go row.0 row.1 key (is_owned_by s job from) refl (is_owned_by s job to) refl parts.1
    where
      go : (row : EdgeRow) → edge_at s.graph (key_of edge from to) ≡ Some row → row.key ≡ key_of edge from to →
          (a : Bool) → is_owned_by s job from ≡ a → (b : Bool) → is_owned_by s job to ≡ b → (a || b) ≡ true → is_held held (Cut job edge from to) ≡ true
      go row at key true p b q h =
          let shut = owned_shut job from n (owner_is job (owner s from) p) in
          let first = (both_none (free_cut held job (out_edges s.graph from)) _ shut).0 in
          let leaves : leaves_from from row ≡ true = ap (λ (k : _). nat_eq k.from from) key ∙ eqb_self from in
          held_cut job edge from to row at
          (none_kept (is_free_edge held job) (leaves_from from) (has_key (key_of edge from to)) s.graph.edges row (mapped_none job _ first) at leaves)
      go row at key false p true q h =
          let shut = owned_shut job to n (owner_is job (owner s to) q) in
          let second = (both_none (free_cut held job (in_edges s.graph to)) _ (both_none (free_cut held job (out_edges s.graph to)) _ shut).1).0 in
          let leads : leads_to to row ≡ true = ap (λ (k : _). nat_eq k.to to) key ∙ eqb_self to in
          held_cut job edge from to row at
          (none_kept (is_free_edge held job) (leads_to to) (has_key (key_of edge from to)) s.graph.edges row (mapped_none job _ second) at leads)
      go row at key false p false q h = absurd (cc h)

  pub erase_held : (m job id : ℕ) → free_among s.graph held pairs ≡ None → is_allowed s m (Erase job id) ≡ true → is_held held (Erase job id) ≡ true
  erase_held m job id n a =
      let parts = both (is_owned_by s job id) (not (is_touched s.graph id)) a in
      let shut = owned_shut job id n (owner_is job (owner s id) parts.0) in
      let third = (both_none (free_cut held job (in_edges s.graph id)) _ (both_none (free_cut held job (out_edges s.graph id)) _ shut).1).1 in
      go (is_touched s.graph id) (is_held held (Erase job id)) (free_again (is_touched s.graph id) parts.1) third
    where
      go : (a b : Bool) → a ≡ false → cond (a || b) None (Some (Erase job id)) ≡ None → b ≡ true
      go true b t e = absurd (cc t)
      go false true t e = refl
      go false false t e = absurd (cc e)
