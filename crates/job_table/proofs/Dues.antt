-- The objects that expire, by rising id.
use Rattle.std.proofs.Common.{◌≡◌, ℕ, ◌<◌, ◌≤◌, Bool, true, false, cond, ◌&&◌, not, List, ◌∷◌, [], Option, Some, None, is_some, refl, sym, ◌∙◌, ap, subst, arith, ltb}
use Rattle.std.specs.Prelude.{nat_lt, nat_le, find, is_none}
use Rattle.std.proofs.lemmas.Bool.Decides.{nat_tests}
use Rattle.delf_model.specs.declared.rows.ObjectRow.{ObjectRow}
use Rattle.delf_model.specs.declared.entry.What.TheVariants.{Expire}
use Rattle.delf_model.specs.Graph.{objects_rise, rises_after}
use Rattle.delf_model.specs.Store.{is_above, is_due_after, id_of_row, least_due}
use Rattle.delf_model.specs.State.{State, owner}
use Rattle.delf_model.specs.Order.{expires, expiry_of}
use Rattle.job_table.proofs.Lookups.{both}

-- an object above this id that expires
abbrev pub expires_after : State → ℕ → Option ℕ → ObjectRow → Bool
expires_after s moment low row = is_above low row.id && expires s moment row

abbrev pub low_of : Option ℕ → ℕ
low_of None = 0
low_of (Some id) = id

-- the three tests, by their parts
late : (a l u o : Bool) → ((a && l) && u) ≡ false → (a && ((l && u) && o)) ≡ false
late false l u o h = refl
late true false u o h = refl
late true true false o h = refl
late true true true o h = absurd (cc h)

ripe : (a l u o : Bool) → ((a && l) && u) ≡ true → o ≡ true → (a && ((l && u) && o)) ≡ true
ripe false l u o h e = absurd (cc h)
ripe true false u o h e = absurd (cc h)
ripe true true false o h e = absurd (cc h)
ripe true true true o h e = e

kept : (a l u o : Bool) → o ≡ false → (a && ((l && u) && o)) ≡ false
kept false l u o e = refl
kept true false u o e = refl
kept true true false o e = refl
kept true true true o e = e

upper : (a l u : Bool) → ((a && l) && u) ≡ true → a ≡ true
upper true l u h = refl
upper false l u h = absurd (cc h)

pub found_above : (p : ObjectRow → Bool) (low : ℕ) (row : ObjectRow) (rows : List ObjectRow) → rises_after low rows ≡ true → find p rows ≡ Some row → low < row.id
found_above p low row [] r f = absurd (cc f)
found_above p low row (x ∷ xs) r f =
    let parts = both (ltb low x.id) (rises_after x.id xs) r in
    let up : low < x.id = grind (arith, nat_tests, parts.0) in
    go (p x) f (λ e. found_above p x.id row xs parts.1 e) up
  where
    go : (b : Bool) → cond b (Some x) (find p xs) ≡ Some row → (find p xs ≡ Some row → x.id < row.id) → low < x.id → low < row.id
    go true e more up = let same : x ≡ row = cc e in subst (λ (y : ObjectRow). low < y.id) same up
    go false e more up = let l = more e in omega (arith, l, up)

pub none_due : (s : State) (moment : ℕ) (low : Option ℕ) (rows : List ObjectRow) → find (is_due_after moment low) rows ≡ None → find (expires_after s moment low) rows ≡ None
none_due s moment low [] f = refl
none_due s moment low (x ∷ xs) f = go (is_due_after moment low x) refl f (none_due s moment low xs)
  where
    go : (b : Bool) → is_due_after moment low x ≡ b → cond b (Some x) (find (is_due_after moment low) xs) ≡ None →
        (find (is_due_after moment low) xs ≡ None → find (expires_after s moment low) xs ≡ None) → find (expires_after s moment low) (x ∷ xs) ≡ None
    go true t e more = absurd (cc e)
    go false t e more =
        ap (λ (b : Bool). cond b (Some x) (find (expires_after s moment low) xs)) (late (is_above low x.id) (nat_lt 0 x.due) (nat_le x.due moment) (is_none (owner s x.id)) t) ∙ more e

pub due_expires : (s : State) (moment : ℕ) (low : Option ℕ) (row : ObjectRow) (rows : List ObjectRow) → find (is_due_after moment low) rows ≡ Some row →
    is_none (owner s row.id) ≡ true → find (expires_after s moment low) rows ≡ Some row
due_expires s moment low row [] f n = absurd (cc f)
due_expires s moment low row (x ∷ xs) f n = go (is_due_after moment low x) refl f (λ e. due_expires s moment low row xs e n)
  where
    go : (b : Bool) → is_due_after moment low x ≡ b → cond b (Some x) (find (is_due_after moment low) xs) ≡ Some row →
        (find (is_due_after moment low) xs ≡ Some row → find (expires_after s moment low) xs ≡ Some row) → find (expires_after s moment low) (x ∷ xs) ≡ Some row
    go true t e more =
        let same : x ≡ row = cc e in
        let o : is_none (owner s x.id) ≡ true = ap (λ (y : ObjectRow). is_none (owner s y.id)) same ∙ n in
        ap (λ (b : Bool). cond b (Some x) (find (expires_after s moment low) xs)) (ripe (is_above low x.id) (nat_lt 0 x.due) (nat_le x.due moment) (is_none (owner s x.id)) t o) ∙ e
    go false t e more =
        ap (λ (b : Bool). cond b (Some x) (find (expires_after s moment low) xs)) (late (is_above low x.id) (nat_lt 0 x.due) (nat_le x.due moment) (is_none (owner s x.id)) t) ∙ more e

above_higher : (low : Option ℕ) (a b : ℕ) → is_above low a ≡ true → a < b → is_above low b ≡ true
above_higher None a b h l = refl
above_higher (Some n) a b h l = grind (arith, nat_tests, h, l)

-- past an id that the bound lets through, both bounds let through the same
pub same_past : (s : State) (moment id floor : ℕ) (low : Option ℕ) (rows : List ObjectRow) → rises_after floor rows ≡ true → id ≤ floor → is_above low id ≡ true →
    find (expires_after s moment (Some id)) rows ≡ find (expires_after s moment low) rows
same_past s moment id floor low [] r l a = refl
same_past s moment id floor low (x ∷ xs) r l a =
    let parts = both (ltb floor x.id) (rises_after x.id xs) r in
    let up : id < x.id = grind (arith, nat_tests, parts.0, l) in
    let one : nat_lt id x.id ≡ true = grind (arith, nat_tests, up) in
    let two : is_above low x.id ≡ true = above_higher low id x.id a up in
    let tail = same_past s moment id x.id low xs parts.1 (omega (arith, up)) a in
    ap (λ (b : Bool). cond (b && expires s moment x) (Some x) (find (expires_after s moment (Some id)) xs)) (one ∙ sym two)
    ∙ ap (λ (o : Option ObjectRow). cond (is_above low x.id && expires s moment x) (Some x) o) tail

-- an owned object that is due is passed over
pub due_passes : (s : State) (moment : ℕ) (low : Option ℕ) (row : ObjectRow) (rows : List ObjectRow) → objects_rise rows ≡ true → find (is_due_after moment low) rows ≡ Some row →
    is_none (owner s row.id) ≡ false → find (expires_after s moment (Some row.id)) rows ≡ find (expires_after s moment low) rows
due_passes s moment low row [] r f n = absurd (cc f)
due_passes s moment low row (x ∷ xs) r f n =
    go (is_due_after moment low x) refl f (λ e. due_passes s moment low row xs (tail x.id xs r) e n) (λ e. found_above (is_due_after moment low) x.id row xs r e)
  where
    tail : (low : ℕ) (ys : List ObjectRow) → rises_after low ys ≡ true → objects_rise ys ≡ true
    tail low [] h = refl
    tail low (y ∷ ys) h = (both (ltb low y.id) (rises_after y.id ys) h).1

    shut : (id : ℕ) (d : Bool) → id ≡ id → (nat_lt id id && d) ≡ false
    shut id d e = let t : nat_lt id id ≡ false = grind (arith, nat_tests) in ap (λ (b : Bool). b && d) t

    below : (a b : ℕ) (d : Bool) → a < b → (nat_lt b a && d) ≡ false
    below a b d l = let t : nat_lt b a ≡ false = grind (arith, nat_tests, l) in ap (λ (c : Bool). c && d) t

    go : (b : Bool) → is_due_after moment low x ≡ b → cond b (Some x) (find (is_due_after moment low) xs) ≡ Some row →
        (find (is_due_after moment low) xs ≡ Some row → find (expires_after s moment (Some row.id)) xs ≡ find (expires_after s moment low) xs) →
        (find (is_due_after moment low) xs ≡ Some row → x.id < row.id) →
        find (expires_after s moment (Some row.id)) (x ∷ xs) ≡ find (expires_after s moment low) (x ∷ xs)
    go true t e more up =
        let same : x ≡ row = cc e in
        let o : is_none (owner s x.id) ≡ false = ap (λ (y : ObjectRow). is_none (owner s y.id)) same ∙ n in
        let a : is_above low x.id ≡ true = upper (is_above low x.id) (nat_lt 0 x.due) (nat_le x.due moment) t in
        ap (λ (y : ObjectRow). find (expires_after s moment (Some y.id)) (x ∷ xs)) (sym same)
        ∙ ap (λ (b : Bool). cond b (Some x) (find (expires_after s moment (Some x.id)) xs)) (shut x.id (expires s moment x) refl)
        ∙ same_past s moment x.id x.id low xs r (omega arith) a
        ∙ sym (ap (λ (b : Bool). cond b (Some x) (find (expires_after s moment low) xs)) (kept (is_above low x.id) (nat_lt 0 x.due) (nat_le x.due moment) (is_none (owner s x.id)) o))
    go false t e more up =
        ap (λ (b : Bool). cond b (Some x) (find (expires_after s moment (Some row.id)) xs)) (below x.id row.id (expires s moment x) (up e))
        ∙ more e
        ∙ sym (ap (λ (b : Bool). cond b (Some x) (find (expires_after s moment low) xs)) (late (is_above low x.id) (nat_lt 0 x.due) (nat_le x.due moment) (is_none (owner s x.id)) t))

-- the same, by the ids that a graph tells

row_of_id : (o : Option ObjectRow) (id : ℕ) → Some id ≡ id_of_row o → (row : ObjectRow) × (o ≡ Some row) × (row.id ≡ id)
row_of_id None id e = absurd (cc e)
row_of_id (Some row) id e = (row, refl, cc e)

no_row : (o : Option ObjectRow) → None ≡ id_of_row o → o ≡ None
no_row None e = refl
no_row (Some row) e = absurd (cc e)

pub told_none : (s : State) (moment : ℕ) (low : Option ℕ) (rows : List ObjectRow) → None ≡ least_due moment low rows →
    find (expires_after s moment low) rows ≡ find (expires s moment) rows → None ≡ expiry_of (find (expires s moment) rows)
told_none s moment low rows e same =
    ap expiry_of (sym (none_due s moment low rows (no_row (find (is_due_after moment low) rows) e)) ∙ same)

pub told_expires : (s : State) (moment id : ℕ) (low : Option ℕ) (rows : List ObjectRow) → Some id ≡ least_due moment low rows →
    find (expires_after s moment low) rows ≡ find (expires s moment) rows → is_none (owner s id) ≡ true → Some (Expire id) ≡ expiry_of (find (expires s moment) rows)
told_expires s moment id low rows e same n =
    let r = row_of_id (find (is_due_after moment low) rows) id e in
    let o : is_none (owner s r.0.id) ≡ true = ap (λ (k : ℕ). is_none (owner s k)) r.2 ∙ n in
    ap (λ (k : ℕ). Some (Expire k)) (sym r.2) ∙ ap expiry_of (sym (due_expires s moment low r.0 rows r.1 o) ∙ same)

pub told_passes : (s : State) (moment id : ℕ) (low : Option ℕ) (rows : List ObjectRow) → objects_rise rows ≡ true → Some id ≡ least_due moment low rows →
    find (expires_after s moment low) rows ≡ find (expires s moment) rows → is_none (owner s id) ≡ false →
    find (expires_after s moment (Some id)) rows ≡ find (expires s moment) rows
told_passes s moment id low rows rise e same n =
    let r = row_of_id (find (is_due_after moment low) rows) id e in
    let o : is_none (owner s r.0.id) ≡ false = ap (λ (k : ℕ). is_none (owner s k)) r.2 ∙ n in
    ap (λ (k : ℕ). find (expires_after s moment (Some k)) rows) (sym r.2) ∙ due_passes s moment low r.0 rows rise r.1 o ∙ same

pub told_above : (moment id : ℕ) (low : Option ℕ) (rows : List ObjectRow) → Some id ≡ least_due moment low rows → 0 < id → low_of low < id
told_above moment id low rows e pos = go low (higher (find (is_due_after moment low) rows) refl e)
  where
    pick : (row : ObjectRow) (xs : List ObjectRow) → find (is_due_after moment low) xs ≡ Some row → is_due_after moment low row ≡ true
    pick row [] f = absurd (cc f)
    pick row (x ∷ xs) f = step (is_due_after moment low x) refl f (pick row xs)
      where
        step : (b : Bool) → is_due_after moment low x ≡ b → cond b (Some x) (find (is_due_after moment low) xs) ≡ Some row →
            (find (is_due_after moment low) xs ≡ Some row → is_due_after moment low row ≡ true) → is_due_after moment low row ≡ true
        step true t f more = let same : x ≡ row = cc f in subst (λ (y : ObjectRow). is_due_after moment low y ≡ true) same t
        step false t f more = more f

    higher : (o : Option ObjectRow) → find (is_due_after moment low) rows ≡ o → Some id ≡ id_of_row o → is_above low id ≡ true
    higher None f h = absurd (cc h)
    higher (Some row) f h =
        let same : row.id ≡ id = cc h in
        ap (is_above low) (sym same) ∙ upper (is_above low row.id) (nat_lt 0 row.due) (nat_le row.due moment) (pick row rows f)

    go : (l : Option ℕ) → is_above l id ≡ true → low_of l < id
    go None h = pos
    go (Some n) h = grind (arith, nat_tests, h)

pub none_told : (o p : Option ℕ) (r b : Bool) → p ≡ o → is_some p ≡ not r → r ≡ b → is_none o ≡ b
none_told o p r b e f g = ap is_none (sym e) ∙ turn p r f ∙ g
  where
    turn : (q : Option ℕ) (c : Bool) → is_some q ≡ not c → is_none q ≡ c
    turn None true h = refl
    turn None false h = absurd (cc h)
    turn (Some n) true h = absurd (cc h)
    turn (Some n) false h = refl
