-- Rows of jobs by rising start, and the place of a start.
use Rattle.std.proofs.Common.{◌≡◌, ℕ, zero, suc, ◌+◌, ◌<◌, ◌≤◌, Bool, true, false, cond, not, ◌&&◌, List, [], ◌∷◌, ◌++◌, map, length, get_or, set, Some, None, refl, sym, ap, ◌∙◌, arith}
use Rattle.std.specs.Prelude.{nat_eq, nat_lt}
use Rattle.std.specs.List.{position, position_or_len}
use Rattle.std.proofs.lemmas.Bool.Decides.{nat_tests}
use Rattle.std.proofs.lemmas.List.Quantifiers.{position-Some}
use Rattle.std.proofs.lemmas.List.Sums.{position_or_len_is}
use Rattle.delf_model.specs.declared.ids.JobName.{JobName}
use Rattle.delf_model.specs.State.{State, JobRow}
use Rattle.delf_model.specs.Step.{new_job}
use Rattle.job_table.specs.declared.jobs.Row.{Row}
use Rattle.job_table.specs.Table.{Table, IsTableOf, starts_rise}
use Rattle.job_table.specs.Parts.{row_of, is_start, starts_before}
use Rattle.job_table.proofs.Lookups.{both}
use Rattle.job_table.proofs.Rows.{starts_wider, starts_push}

-- rows by rising start

heads : (low len : ℕ) (x : Row) (xs : List Row) → starts_rise low len (map row_of (x ∷ xs)) ≡ true → (low ≤ x.start) × (starts_rise (suc x.start) len (map row_of xs) ≡ true)
heads low len x xs r =
    let parts = both (not (nat_lt x.start low) && nat_lt x.start len) (starts_rise (suc x.start) len (map row_of xs)) r in
    let first = both (not (nat_lt x.start low)) (nat_lt x.start len) parts.0 in
    (bound (nat_lt x.start low) refl first.0, parts.1)
  where
    bound : (b : Bool) → nat_lt x.start low ≡ b → not b ≡ true → low ≤ x.start
    bound true e h = absurd (cc h)
    bound false e h = grind (arith, nat_tests, e)

starts_from : (low len k : ℕ) (d : Row) (xs : List Row) → starts_rise low len (map row_of xs) ≡ true → k < length xs → low ≤ (get_or xs k d).start
starts_from low len k d [] r l = absurd (omega arith)
starts_from low len zero d (x ∷ xs) r l = (heads low len x xs r).0
starts_from low len (suc k) d (x ∷ xs) r l =
    let h = heads low len x xs r in
    let more = starts_from (suc x.start) len k d xs h.1 (omega arith) in
    let first = h.0 in omega (arith, first, more)

starts_grow : (low len i k : ℕ) (d : Row) (xs : List Row) → starts_rise low len (map row_of xs) ≡ true → i < k → k < length xs → (get_or xs i d).start < (get_or xs k d).start
starts_grow low len i k d [] r l m = absurd (omega arith)
starts_grow low len i zero d (x ∷ xs) r l m = absurd (omega arith)
starts_grow low len zero (suc k) d (x ∷ xs) r l m =
    let h = heads low len x xs r in
    let more = starts_from (suc x.start) len k d xs h.1 (omega arith) in omega (arith, more)
starts_grow low len (suc i) (suc k) d (x ∷ xs) r l m =
    let h = heads low len x xs r in starts_grow (suc x.start) len i k d xs h.1 (omega arith) (omega arith)

pub starts_parted : (len job : ℕ) (xs : List Row) → starts_rise 0 len (map row_of xs) ≡ true → (i j : ℕ) (d : Row) → i ≤ j → j < length xs →
    starts_before job (get_or xs j d) ≡ true → starts_before job (get_or xs i d) ≡ true
starts_parted len job xs r i j d l m h = go (nat_lt i j) refl
  where
    go : (b : Bool) → nat_lt i j ≡ b → starts_before job (get_or xs i d) ≡ true
    go true e =
        let less : i < j = grind (arith, nat_tests, e) in
        let up = starts_grow 0 len i j d xs r less m in
        grind (arith, nat_tests, h, up)
    go false e =
        let same : i ≡ j = grind (arith, nat_tests, e, l) in ap (λ (n : ℕ). starts_before job (get_or xs n d)) same ∙ h

-- the place of a start

pub position_at : {A : Type 0} (p : A → Bool) (xs : List A) (i : ℕ) → position_or_len p xs ≡ i → i < length xs → Some i ≡ position p xs
position_at p xs i e l = sym (go (nat_lt (position_or_len p xs) (length xs)) (grind (arith, nat_tests, e, l)))
  where
    go : (b : Bool) → b ≡ true → cond b (Some (position_or_len p xs)) None ≡ Some i
    go true h = ap (λ (n : ℕ). Some n) e
    go false h = absurd (cc h)

pub position_past : {A : Type 0} (p : A → Bool) (xs : List A) → position_or_len p xs ≡ length xs → None ≡ position p xs
position_past p xs e = sym (go (nat_lt (position_or_len p xs) (length xs)) (grind (arith, nat_tests, e)))
  where
    go : (b : Bool) → b ≡ false → cond b (Some (position_or_len p xs)) None ≡ None
    go true h = absurd (cc h)
    go false h = refl

module _ (len job i : ℕ) (xs : List Row) (r : starts_rise 0 len (map row_of xs) ≡ true)
    (before : (k : ℕ) (d : Row) → k < i → starts_before job (get_or xs k d) ≡ true)
    (after : (k : ℕ) (d : Row) → i ≤ k → k < length xs → starts_before job (get_or xs k d) ≡ false) where
  early : (k : ℕ) (d : Row) → k < i → is_start job (get_or xs k d) ≡ false
  early k d l = let b = before k d l in grind (arith, nat_tests, b)

  pub start_found : (got : Row) → i < length xs → got ≡ get_or xs i got → nat_eq got.start job ≡ true → Some i ≡ position (is_start job) xs
  start_found got l g e =
      position_at (is_start job) xs i
      (position_or_len_is (is_start job) xs i got (omega (arith, l)) (λ k h. early k got h) (λ h. ap (is_start job) (sym g) ∙ e)) l

  pub start_past : length xs ≤ i → None ≡ position (is_start job) xs
  start_past l = position_past (is_start job) xs (nowhere xs (λ k d h. early k d (omega (arith, l, h))))
    where
      nowhere : (ys : List Row) → ((k : ℕ) (d : Row) → k < length ys → is_start job (get_or ys k d) ≡ false) → position_or_len (is_start job) ys ≡ length ys
      nowhere [] each = refl
      nowhere (y ∷ ys) each = position_or_len_is (is_start job) (y ∷ ys) (length (y ∷ ys)) y (omega arith) (λ k h. each k y h) (λ h. absurd (omega (arith, h)))

  pub start_missing : (got : Row) → i < length xs → got ≡ get_or xs i got → nat_eq got.start job ≡ false → None ≡ position (is_start job) xs
  start_missing got l g e =
      position_past (is_start job) xs
      (position_or_len_is (is_start job) xs (length xs) got (omega arith) (λ k h. each k h (nat_lt k i) refl (nat_lt i k) refl) (λ h. absurd (omega (arith, h))))
    where
      each : (k : ℕ) → k < length xs → (a : Bool) → nat_lt k i ≡ a → (b : Bool) → nat_lt i k ≡ b → is_start job (get_or xs k got) ≡ false
      each k h true p b q = let less : k < i = grind (arith, nat_tests, p) in early k got less
      each k h false p true q =
          let less : i < k = grind (arith, nat_tests, q) in
          let up = starts_grow 0 len i k got xs r less h in
          let low = after i got (omega arith) l in
          grind (arith, nat_tests, up, low)
      each k h false p false q =
          let same : k ≡ i = grind (arith, nat_tests, p, q) in ap (λ (n : ℕ). is_start job (get_or xs n got)) same ∙ ap (is_start job) (sym g) ∙ e

-- rows that stay by rising start

pub starts_set : (low len i : ℕ) (y d : Row) (xs : List Row) → i < length xs → y.start ≡ (get_or xs i d).start →
    starts_rise low len (map row_of (set xs i y)) ≡ starts_rise low len (map row_of xs)
starts_set low len i y d [] l e = absurd (omega arith)
starts_set low len zero y d (x ∷ xs) l e =
    ap (λ (n : ℕ). (not (nat_lt n low) && nat_lt n len) && starts_rise (suc n) len (map row_of xs)) e
starts_set low len (suc i) y d (x ∷ xs) l e =
    ap (λ (b : Bool). (not (nat_lt x.start low) && nat_lt x.start len) && b) (starts_set (suc x.start) len i y d xs (omega arith) e)

pub rise_changed : (rows slice : List Row) (job i : ℕ) (old y : Row) → slice ≡ rows → Some i ≡ position (is_start job) slice → old ≡ get_or rows i old → y.start ≡ old.start →
    starts_rise 0 4294967296 (map row_of rows) ≡ true → starts_rise 0 4294967296 (map row_of (set rows i y)) ≡ true
rise_changed rows slice job i old y e p g s r =
    let facts = position-Some (is_start job) rows i old (sym (p ∙ ap (position (is_start job)) e)) in
    starts_set 0 4294967296 i y old rows facts.0 (s ∙ ap (λ (x : Row). x.start) g) ∙ r

pub map_push : (xs : List Row) (y : Row) → map row_of (xs ++ y ∷ []) ≡ map row_of xs ++ row_of y ∷ []
map_push [] y = refl
map_push (x ∷ xs) y = ap (λ (l : List JobRow). row_of x ∷ l) (map_push xs y)

pub starts_pushed : (rows after : List Row) (list : List JobRow) (start root : ℕ) (name : JobName) (y : Row) → map row_of rows ≡ list → starts_rise 0 start list ≡ true → start < 4294967296 →
    after ≡ rows ++ y ∷ [] → row_of y ≡ new_job start root name → starts_rise 0 4294967296 (map row_of after) ≡ true
starts_pushed rows after list start root name y v r l a e =
    ap (λ (xs : List Row). starts_rise 0 4294967296 (map row_of xs)) a
    ∙ ap (starts_rise 0 4294967296) (map_push rows y ∙ ap (λ (xs : List JobRow). xs ++ row_of y ∷ []) v ∙ ap (λ (row : JobRow). list ++ row ∷ []) e)
    ∙ starts_wider 0 (start + 1) 4294967296 (list ++ new_job start root name ∷ []) (omega (arith, l)) (starts_push 0 start root name list (omega arith) r)

-- the rows of a table start below its length
pub rise_told : (s : State) (t : Table) → IsTableOf s t → starts_rise 0 t.len t.jobs ≡ true
rise_told s t h = ap (λ (n : ℕ). starts_rise 0 n t.jobs) h.len ∙ ap (starts_rise 0 s.len) h.jobs ∙ h.keeps.starts
