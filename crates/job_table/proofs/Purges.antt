-- Whether a job may be purged, by the queue of those whose window runs.
use Rattle.std.proofs.Common.{◌≡◌, ℕ, zero, suc, ◌+◌, ◌<◌, ◌≤◌, Bool, true, false, cond, not, ◌&&◌, ◌||◌, List, [], ◌∷◌, map, length, get_or, Option, Some, None, refl, sym, ap, ◌∙◌, arith}
use Rattle.std.specs.Prelude.{find, nat_eq, nat_lt, slice_get, is_some, is_none}
use Rattle.std.specs.List.{position, list_any, position_or_len}
use Rattle.std.proofs.lemmas.Bool.Decides.{nat_tests}
use Rattle.std.proofs.lemmas.List.Sums.{position_or_len_is}
use Rattle.delf_model.specs.State.{last_erasure_or_zero}
use Rattle.delf_model.specs.State.{State, JobRow, Logged, owned, left, job_row}
use Rattle.delf_model.specs.Order.{purges, purge_of, first_purge}
use Rattle.job_table.specs.declared.jobs.Row.{Row}
use Rattle.job_table.specs.Parts.{row_of}
use Rattle.job_table.specs.Serial.{purges_in, left_in}
use Rattle.job_table.specs.Fresh.{is_fresh_row, is_fresh, FreshOwn}
use Rattle.job_table.specs.Table.{Table, IsTableOf, owned_among}
use Rattle.job_table.proofs.Lefts.{row_at_place}
use Rattle.job_table.specs.Waits.{has_waited}
use Rattle.job_table.proofs.Rising.{position_at, position_past}
use Rattle.job_table.proofs.Places.{get_map}

-- a walk that looks for the first element that passes

get_any : {A : Type 0} (xs : List A) (i : ℕ) (a b : A) → i < length xs → get_or xs i a ≡ get_or xs i b
get_any [] i a b l = absurd (omega arith)
get_any (x ∷ xs) zero a b l = refl
get_any (x ∷ xs) (suc i) a b l = get_any xs i a b (omega arith)

module _ {A : Type 0} (p : A → Bool) (xs : List A) (i : ℕ) (early : (k : ℕ) (d : A) → k < i → p (get_or xs k d) ≡ false) where
  pub passes_here : (got : A) → i < length xs → got ≡ get_or xs i got → p got ≡ true → Some i ≡ position p xs
  passes_here got l g e =
      position_at p xs i (position_or_len_is p xs i got (omega (arith, l)) (λ k h. early k got h) (λ h. ap p (sym g) ∙ e)) l

  pub fails_here : (got : A) → i < length xs → got ≡ get_or xs i got → p got ≡ false → (k : ℕ) (d : A) → k < i + 1 → p (get_or xs k d) ≡ false
  fails_here got l g e k d h = go (nat_lt k i) refl
    where
      go : (b : Bool) → nat_lt k i ≡ b → p (get_or xs k d) ≡ false
      go true q = let less : k < i = grind (arith, nat_tests, q) in early k d less
      go false q = let same : k ≡ i = grind (arith, nat_tests, q, h) in ap (λ (n : ℕ). p (get_or xs n d)) same ∙ ap p (get_any xs i d got l ∙ sym g) ∙ e

  pub none_passes : length xs ≤ i → None ≡ position p xs
  none_passes l = position_past p xs (nowhere xs (λ k d h. early k d (omega (arith, l, h))))
    where
      nowhere : (ys : List A) → ((k : ℕ) (d : A) → k < length ys → p (get_or ys k d) ≡ false) → position_or_len p ys ≡ length ys
      nowhere [] each = refl
      nowhere (y ∷ ys) each = position_or_len_is p (y ∷ ys) (length (y ∷ ys)) y (omega arith) (λ k h. each k y h) (λ h. absurd (omega (arith, h)))

-- where no window is over, no job may be purged: one that has erased nothing still owns an object
pub none_over : (s : State) (t : Table) (window moment : ℕ) → IsTableOf s t → window ≡ s.rules.window → FreshOwn t.jobs t.owners → list_any (has_waited window moment) t.jobs ≡ false → None ≡ first_purge s moment
none_over s t window moment h w own n =
    sym (ap purge_of (nowhere s.jobs (λ k row e. row_at_place 0 s.len k row s.jobs h.keeps.starts e)
    (ap (λ (l : List JobRow). list_any (has_waited s.rules.window moment) l) (sym h.jobs) ∙ ap (λ (k : ℕ). list_any (has_waited k moment) t.jobs) (sym w) ∙ n)))
  where
    fails : (a b c d e : Bool) → (b && e && d) ≡ false → (e ≡ false → a ≡ false) → (a && b && c && d) ≡ false
    fails false b c d e h f = refl
    fails true false c d e h f = refl
    fails true true false d e h f = refl
    fails true true true d true h f = h
    fails true true true d false h f = absurd (let z = f refl in cc z)

    owns : (x : JobRow) (o : Option ℕ) → x.last ≡ o → job_row s.jobs x.start ≡ Some x → is_some o ≡ false → nat_eq (owned s x.start) 0 ≡ false
    owns x (Some last) e r g = absurd (cc g)
    owns x None e r g =
        let fresh : is_fresh t.jobs x.start ≡ true = ap (λ (l : List JobRow). is_fresh l x.start) h.jobs ∙ ap is_fresh_row r ∙ ap is_none e in
        let some = own x.start fresh in
        let is = h.owned x.start in
        grind (arith, nat_tests, some, is)

    nowhere : (xs : List JobRow) → ((k : ℕ) (row : JobRow) → slice_get xs k ≡ Some row → job_row s.jobs row.start ≡ Some row) → list_any (has_waited s.rules.window moment) xs ≡ false → find (purges s moment) xs ≡ None
    nowhere [] r g = refl
    nowhere (x ∷ xs) r g = go (has_waited s.rules.window moment x) refl g (nowhere xs (λ k row e. r (suc k) row e))
      where
        go : (b : Bool) → has_waited s.rules.window moment x ≡ b → (b || list_any (has_waited s.rules.window moment) xs) ≡ false → (list_any (has_waited s.rules.window moment) xs ≡ false → find (purges s moment) xs ≡ None) →
            cond (purges s moment x) (Some x) (find (purges s moment) xs) ≡ None
        go true f q more = absurd (cc q)
        go false f q more =
            ap (λ (b : Bool). cond b (Some x) (find (purges s moment) xs))
            (fails (nat_eq (owned s x.start) 0) (not x.purged) (nat_eq (left s x.start) 0) (nat_lt (last_erasure_or_zero x.last + s.rules.window) moment) (is_some x.last) f (owns x x.last refl (r 0 x refl)))
            ∙ more q

-- a purged job is not purged once more
pub front_over : (rows : List Row) (list : List JobRow) (pairs : List (ℕ × ℕ)) (items : List Logged) (window moment front : ℕ) → map row_of rows ≡ list →
    ((k : ℕ) (d : Row) → k < front → (get_or list k (row_of d)).purged ≡ true) → (k : ℕ) (d : Row) → k < front → purges_in pairs items window moment (get_or rows k d) ≡ false
front_over rows list pairs items window moment front e f k d h =
    go (nat_eq (owned_among pairs (get_or rows k d).start) 0) (get_or rows k d).purged
    (ap (λ (j : JobRow). j.purged) (sym (get_map row_of rows k d)) ∙ ap (λ (l : List JobRow). (get_or l k (row_of d)).purged) e ∙ f k d h)
  where
    go : (a b : Bool) → b ≡ true → (a && not b && nat_eq (left_in items (get_or rows k d)) 0 && nat_lt (last_erasure_or_zero (get_or rows k d).last + window) moment) ≡ false
    go false b g = refl
    go true true g = refl
    go true false g = absurd (cc g)
