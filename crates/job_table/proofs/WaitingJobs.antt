-- The jobs that wait for the end of their window, after a row changed.
use Rattle.std.proofs.Common.{◌≡◌, ℕ, zero, suc, ◌+◌, ◌-◌, ◌<◌, ◌≤◌, Bool, true, false, cond, not, ◌&&◌, ◌||◌, List, [], ◌∷◌, ◌++◌, map, length, get_or, set, Option, Some, None, refl, sym, ap, ◌∙◌, arith}
use Rattle.std.specs.Prelude.{insert, remove, find, nat_eq, nat_lt, option_map, option_and_then, slice_get, is_some}
use Rattle.std.specs.List.{position, list_any}
use Rattle.std.proofs.lemmas.Bool.Decides.{nat_tests}
use Rattle.std.proofs.lemmas.List.Quantifiers.{position-Some}
use Rattle.delf_model.specs.State.{last_erasure_or_zero}
use Rattle.delf_model.specs.State.{JobRow, job_row, starts_at}
use Rattle.job_table.specs.declared.jobs.Row.{Row}
use Rattle.job_table.specs.Owning.{is_before, rise_after, pairs_rise}
use Rattle.job_table.specs.Parts.{row_of, is_start}
use Rattle.job_table.specs.Table.{owner_among, is_of_id, job_of_pair, starts_rise}
use Rattle.job_table.specs.Waits.{waits_of, waits_in, has_waited, WaitsFit}
use Rattle.job_table.proofs.Lefts.{row_at_place}
use Rattle.job_table.proofs.Owning.{found_after, insert_rises, insert_apart, insert_owner, taken_at, without_rises}
use Rattle.job_table.specs.Apart.{are_apart}
use Rattle.job_table.proofs.Places.{get_map, find_map, find_at_place, without, apart_without, owner_without}
use Rattle.job_table.proofs.Rows.{none_starts_past}
use Rattle.job_table.proofs.Naming.{set_length, got_same}

-- a changed row is found in the place of the one that it was

pub find_changed : (job other i : ℕ) (y d : Row) (xs : List Row) → i < length xs → ((k : ℕ) → k < i → is_start job (get_or xs k d) ≡ false) → is_start job (get_or xs i d) ≡ true → is_start job y ≡ true →
    find (is_start other) (set xs i y) ≡ cond (nat_eq other job) (Some y) (find (is_start other) xs)
find_changed job other i y d [] l before at is = absurd (omega arith)
find_changed job other zero y d (x ∷ xs) l before at is = go (nat_eq y.start other) refl (nat_eq other job) refl (nat_eq x.start other) refl
  where
    go : (a : Bool) → nat_eq y.start other ≡ a → (b : Bool) → nat_eq other job ≡ b → (e : Bool) → nat_eq x.start other ≡ e →
        cond a (Some y) (find (is_start other) xs) ≡ cond b (Some y) (cond e (Some x) (find (is_start other) xs))
    go true f true g e h = refl
    go true f false g e h = absurd (grind (arith, nat_tests, f, g, is))
    go false f true g e h = absurd (grind (arith, nat_tests, f, g, is))
    go false f false g true h = absurd (grind (arith, nat_tests, g, h, at))
    go false f false g false h = refl
find_changed job other (suc i) y d (x ∷ xs) l before at is =
    go (nat_eq x.start other) refl (nat_eq other job) refl (find_changed job other i y d xs (omega arith) (λ k h. before (suc k) (omega arith)) at is)
  where
    first : nat_eq x.start job ≡ false
    first = before zero (omega arith)

    go : (a : Bool) → nat_eq x.start other ≡ a → (b : Bool) → nat_eq other job ≡ b → find (is_start other) (set xs i y) ≡ cond (nat_eq other job) (Some y) (find (is_start other) xs) →
        cond a (Some x) (find (is_start other) (set xs i y)) ≡ cond b (Some y) (cond a (Some x) (find (is_start other) xs))
    go true f true g more = absurd (grind (arith, nat_tests, f, g, first))
    go true f false g more = refl
    go false f b g more = more ∙ ap (λ (c : Bool). cond c (Some y) (find (is_start other) xs)) g

-- a row that is added is found where none with its start was before
pub find_added : (other : ℕ) (y : Row) (xs : List Row) → find (is_start y.start) xs ≡ None → find (is_start other) (xs ++ y ∷ []) ≡ cond (nat_eq other y.start) (Some y) (find (is_start other) xs)
find_added other y [] n = go (nat_eq y.start other) refl (nat_eq other y.start) refl
  where
    go : (a : Bool) → nat_eq y.start other ≡ a → (b : Bool) → nat_eq other y.start ≡ b → ◌≡◌ {A = Option Row} (cond a (Some y) None) (cond b (Some y) None)
    go true f true g = refl
    go true f false g = absurd (grind (arith, nat_tests, f, g))
    go false f true g = absurd (grind (arith, nat_tests, f, g))
    go false f false g = refl
find_added other y (x ∷ xs) n = by (nat_eq x.start y.start) refl n (nat_eq x.start other) refl (nat_eq other y.start) refl (λ m. find_added other y xs m)
  where
    by : (e : Bool) → nat_eq x.start y.start ≡ e → cond e (Some x) (find (is_start y.start) xs) ≡ None → (a : Bool) → nat_eq x.start other ≡ a → (b : Bool) → nat_eq other y.start ≡ b →
        (find (is_start y.start) xs ≡ None → find (is_start other) (xs ++ y ∷ []) ≡ cond (nat_eq other y.start) (Some y) (find (is_start other) xs)) →
        cond a (Some x) (find (is_start other) (xs ++ y ∷ [])) ≡ cond b (Some y) (cond a (Some x) (find (is_start other) xs))
    by true f m a g b h more = absurd (cc m)
    by false f m true g true h more = absurd (grind (arith, nat_tests, f, g, h))
    by false f m true g false h more = refl
    by false f m false g b h more = more m ∙ ap (λ (c : Bool). cond c (Some y) (find (is_start other) xs)) h

-- what the jobs wait for after a row is changed
pub waits_changed : (job i : ℕ) (y old : Row) (rows slice : List Row) → slice ≡ rows → Some i ≡ position (is_start job) slice → old ≡ get_or rows i old → is_start job y ≡ true → (other : ℕ) →
    waits_in (set rows i y) other ≡ cond (nat_eq other job) (waits_of y) (waits_in rows other)
waits_changed job i y old rows slice e p g is other =
    let facts = position-Some (is_start job) rows i old (sym (p ∙ ap (position (is_start job)) e)) in
    ap (option_and_then waits_of) (find_changed job other i y old rows facts.0 facts.2 facts.1 is) ∙ go (nat_eq other job)
  where
    go : (b : Bool) → option_and_then waits_of (cond b (Some y) (find (is_start other) rows)) ≡ cond b (waits_of y) (waits_in rows other)
    go true = refl
    go false = refl

-- a row that waits as before changes nothing
pub waits_same : (job i : ℕ) (y old : Row) (rows slice : List Row) → slice ≡ rows → Some i ≡ position (is_start job) slice → old ≡ get_or rows i old → is_start job y ≡ true → waits_of y ≡ waits_of old → (other : ℕ) →
    waits_in (set rows i y) other ≡ waits_in rows other
waits_same job i y old rows slice e p g is same other = waits_changed job i y old rows slice e p g is other ∙ go (nat_eq other job) refl
  where
    found : waits_in rows job ≡ waits_of old
    found =
        let facts = position-Some (is_start job) rows i old (sym (p ∙ ap (position (is_start job)) e)) in
        ap (option_and_then waits_of) (find_at_place (is_start job) rows i old facts.0 facts.2 facts.1) ∙ ap waits_of (sym g)

    go : (b : Bool) → nat_eq other job ≡ b → cond b (waits_of y) (waits_in rows other) ≡ waits_in rows other
    go true h = let is : other ≡ job = grind (arith, nat_tests, h) in same ∙ sym found ∙ ap (waits_in rows) (sym is)
    go false h = refl

-- a job that comes, and one that goes

module _ (pairs after : List (ℕ × ℕ)) (id job i id' : ℕ) (same : id' ≡ id) (r : pairs_rise pairs ≡ true) (a : are_apart pairs ≡ true)
    (before : (k : ℕ) (d : ℕ × ℕ) → k < i → is_before job id' (get_or pairs k d) ≡ true)
    (behind : (k : ℕ) (d : ℕ × ℕ) → i ≤ k → k < length pairs → is_before job id' (get_or pairs k d) ≡ false) where
  before' : (k : ℕ) (d : ℕ × ℕ) → k < i → is_before job id (get_or pairs k d) ≡ true
  before' k d h = ap (λ (n : ℕ). is_before job n (get_or pairs k d)) (sym same) ∙ before k d h

  behind' : (k : ℕ) (d : ℕ × ℕ) → i ≤ k → k < length pairs → is_before job id (get_or pairs k d) ≡ false
  behind' k d h m = ap (λ (n : ℕ). is_before job n (get_or pairs k d)) (sym same) ∙ behind k d h m

  module _ (is : after ≡ insert pairs i (id, job)) (l : i ≤ length pairs) (free : owner_among pairs id ≡ None) where
    pub put_rises : pairs_rise after ≡ true
    put_rises = ap pairs_rise is ∙ insert_rises id job pairs i r l before' behind' free

    pub put_apart : are_apart after ≡ true
    put_apart = ap are_apart is ∙ insert_apart id job pairs i free a

    pub put_told : (q : ℕ) → owner_among after q ≡ cond (nat_eq q id) (Some job) (owner_among pairs q)
    put_told q = ap (λ (xs : List (ℕ × ℕ)). owner_among xs q) is ∙ insert_owner id job q pairs i free

  module _ (is : i < length pairs → after ≡ remove pairs i) (found : owner_among pairs id ≡ Some job) where
    taken : (remove pairs i ≡ without id pairs) × (i < length pairs)
    taken = taken_at id job pairs i r found before' behind'

    pub left_within : i < length pairs
    left_within = taken.1

    left_is : after ≡ without id pairs
    left_is = is taken.1 ∙ taken.0

    pub left_rises : pairs_rise after ≡ true
    left_rises = ap pairs_rise left_is ∙ without_rises id pairs r

    pub left_apart : are_apart after ≡ true
    left_apart = ap are_apart left_is ∙ apart_without id pairs a

    pub left_told : (q : ℕ) → owner_among after q ≡ cond (nat_eq q id) None (owner_among pairs q)
    left_told q = ap (λ (xs : List (ℕ × ℕ)). owner_among xs q) left_is ∙ owner_without id q pairs a

-- the part as rows come and change

get_front : (xs : List Row) (y d : Row) (k : ℕ) → k < length xs → get_or (xs ++ y ∷ []) k d ≡ get_or xs k d
get_front [] y d k l = absurd (omega arith)
get_front (x ∷ xs) y d zero l = refl
get_front (x ∷ xs) y d (suc k) l = get_front xs y d k (omega arith)

get_changed : (xs : List Row) (i k : ℕ) (y old d : Row) → k < length xs → old ≡ get_or xs i old → (old.purged ≡ true → y.purged ≡ true) → (get_or xs k d).purged ≡ true → (get_or (set xs i y) k d).purged ≡ true
get_changed [] i k y old d l e up h = absurd (omega arith)
get_changed (x ∷ xs) zero zero y old d l e up h = up (ap (λ (r : Row). r.purged) e ∙ h)
get_changed (x ∷ xs) zero (suc k) y old d l e up h = h
get_changed (x ∷ xs) (suc i) zero y old d l e up h = h
get_changed (x ∷ xs) (suc i) (suc k) y old d l e up h = get_changed xs i k y old d (omega arith) e up h

-- where no job starts at a place yet
pub none_started : (rows : List Row) (list : List JobRow) (start : ℕ) → map row_of rows ≡ list → starts_rise 0 start list ≡ true → find (is_start start) rows ≡ None
none_started rows list start e r =
    none_left (find (is_start start) rows) (sym (find_map row_of (starts_at start) rows) ∙ ap (λ (l : List JobRow). job_row l start) e ∙ none_starts_past 0 start start list r (omega arith))
  where
    none_left : (o : Option Row) → option_map row_of o ≡ None → o ≡ None
    none_left None h = refl
    none_left (Some x) h = absurd (cc h)

module _ (rows : List Row) (pairs : List (ℕ × ℕ)) (capacity front spare : ℕ) (fit : WaitsFit rows pairs capacity front spare) where
  pub waits_at : (slice : List Row) (job i : ℕ) (old : Row) → slice ≡ rows → Some i ≡ position (is_start job) slice → old ≡ get_or rows i old → owner_among pairs old.start ≡ waits_of old
  waits_at slice job i old e p g =
      let facts = position-Some (is_start job) rows i old (sym (p ∙ ap (position (is_start job)) e)) in
      let is : is_start job old ≡ true = ap (is_start job) g ∙ facts.1 in
      let at : old.start ≡ job = grind (arith, nat_tests, is) in
      ap (owner_among pairs) at ∙ fit.waits job ∙ ap (option_and_then waits_of) (find_at_place (is_start job) rows i old facts.0 facts.2 facts.1) ∙ ap waits_of (sym g)

  pub still_purged : (i : ℕ) (y old : Row) → old ≡ get_or rows i old → (old.purged ≡ true → y.purged ≡ true) → (k : ℕ) (d : Row) → k < front → (get_or (set rows i y) k d).purged ≡ true
  still_purged i y old e up k d h = get_changed rows i k y old d (omega (arith, h, fit.within)) e up (fit.purged k d h)

  pub started_waits : (after : List Row) (list : List JobRow) (start : ℕ) (y : Row) → map row_of rows ≡ list → starts_rise 0 start list ≡ true → after ≡ rows ++ y ∷ [] → y.start ≡ start → waits_of y ≡ None →
      WaitsFit after pairs capacity front (spare - 1)
  started_waits after list start y v r a s w = record {
    rise = fit.rise;
    apart = fit.apart;
    waits = λ q.
        fit.waits q
        ∙ sym (ap (λ (xs : List Row). waits_in xs q) a ∙ ap (option_and_then waits_of) (find_added q y rows (ap (λ (n : ℕ). find (is_start n) rows) s ∙ none_started rows list start v r))
        ∙ ap (λ (n : ℕ). option_and_then waits_of (cond (nat_eq q n) (Some y) (find (is_start q) rows))) s ∙ into q (nat_eq q start) refl);
    room = omega (arith, fit.room);
    within = let n = longer in omega (arith, n, fit.within);
    purged = λ k d h. ap (λ (xs : List Row). (get_or xs k d).purged) a ∙ ap (λ (x : Row). x.purged) (get_front rows y d k (omega (arith, h, fit.within))) ∙ fit.purged k d h;
  }
    where
      longer : length after ≡ length rows + 1
      longer = ap (λ (xs : List Row). length xs) a ∙ grown rows
        where
          grown : (xs : List Row) → length (xs ++ y ∷ []) ≡ length xs + 1
          grown [] = refl
          grown (z ∷ zs) = let more = grown zs in omega (arith, more)

      into : (q : ℕ) (b : Bool) → nat_eq q start ≡ b → option_and_then waits_of (cond b (Some y) (find (is_start q) rows)) ≡ waits_in rows q
      into q true h =
          let same : start ≡ q = grind (arith, nat_tests, h) in
          w ∙ sym (ap (λ (n : ℕ). waits_in rows n) (sym same) ∙ ap (option_and_then waits_of) (none_started rows list start v r))
      into q false h = refl

  pub changed_waits : (slice : List Row) (pairs' : List (ℕ × ℕ)) (capacity' front' spare' job i : ℕ) (y old : Row) → slice ≡ rows → Some i ≡ position (is_start job) slice → old ≡ get_or rows i old → y.start ≡ old.start →
      pairs_rise pairs' ≡ true → are_apart pairs' ≡ true → ((q : ℕ) → owner_among pairs' q ≡ cond (nat_eq q old.start) (waits_of y) (owner_among pairs q)) → length pairs' + spare' ≤ length pairs + spare → capacity ≤ capacity' →
      front' ≤ length rows → ((k : ℕ) (d : Row) → k < front' → (get_or (set rows i y) k d).purged ≡ true) →
      WaitsFit (set rows i y) pairs' capacity' front' spare'
  changed_waits slice pairs' capacity' front' spare' job i y old e p g s rises apart told len cap within purged = record {
    rise = rises;
    apart = apart;
    waits = λ q.
        told q ∙ ap (λ (n : ℕ). cond (nat_eq q n) (waits_of y) (owner_among pairs q)) at ∙ ap (λ (o : Option ℕ). cond (nat_eq q job) (waits_of y) o) (fit.waits q)
        ∙ sym (waits_changed job i y old rows slice e p g (ap (λ (n : ℕ). nat_eq n job) s ∙ is) q);
    room = omega (arith, fit.room, len, cap);
    within = omega (arith, within, set_length rows i y);
    purged = purged;
  }
    where
      is : is_start job old ≡ true
      is = let facts = position-Some (is_start job) rows i old (sym (p ∙ ap (position (is_start job)) e)) in ap (is_start job) g ∙ facts.1

      at : old.start ≡ job
      at = let h = is in grind (arith, nat_tests, h)

  pub same_waits : (slice : List Row) (job i : ℕ) (y old : Row) → slice ≡ rows → Some i ≡ position (is_start job) slice → old ≡ get_or rows i old → y.start ≡ old.start → waits_of y ≡ waits_of old → (old.purged ≡ true → y.purged ≡ true) →
      WaitsFit (set rows i y) pairs capacity front spare
  same_waits slice job i y old e p g s w up = record {
    rise = fit.rise;
    apart = fit.apart;
    waits = λ q. fit.waits q ∙ sym (waits_same job i y old rows slice e p g (ap (λ (n : ℕ). nat_eq n job) s ∙ is) w q);
    room = fit.room;
    within = omega (arith, fit.within, set_length rows i y);
    purged = still_purged i y old g up;
  }
    where
      is : is_start job old ≡ true
      is = let facts = position-Some (is_start job) rows i old (sym (p ∙ ap (position (is_start job)) e)) in ap (is_start job) g ∙ facts.1

-- no job has waited where the first of those that wait has not

first_least : (x : ℕ × ℕ) (xs : List (ℕ × ℕ)) (start last : ℕ) → rise_after x xs ≡ true → owner_among (x ∷ xs) start ≡ Some last → x.1 ≤ last
first_least x xs start last r o = go (nat_eq x.0 start) o
  where
    behind : (f : Option (ℕ × ℕ)) → find (is_of_id start) xs ≡ f → option_map job_of_pair f ≡ Some last → x.1 ≤ last
    behind None e h = absurd (cc h)
    behind (Some pair) e h =
        let up = found_after (is_of_id start) x pair xs r e in
        let is : pair.1 ≡ last = cc h in
        grind (arith, nat_tests, up, is)

    go : (b : Bool) → option_map job_of_pair (cond b (Some x) (find (is_of_id start) xs)) ≡ Some last → x.1 ≤ last
    go true h = let is : x.1 ≡ last = cc h in omega (arith, is)
    go false h = behind (find (is_of_id start) xs) refl h

least_of : (pairs : List (ℕ × ℕ)) (pair : ℕ × ℕ) (start last : ℕ) → pairs_rise pairs ≡ true → Some pair ≡ slice_get pairs 0 → owner_among pairs start ≡ Some last → pair.1 ≤ last
least_of [] pair start last r f o = absurd (cc o)
least_of (x ∷ xs) pair start last r f o =
    let is : pair.1 ≡ x.1 = let same : pair ≡ x = cc f in ap (λ (p : ℕ × ℕ). p.1) same in
    let l = first_least x xs start last r o in
    omega (arith, is, l)

none_passes : {A B : Type 0} (g : A → B) (p : B → Bool) (xs : List A) → ((k : ℕ) (d : A) → k < length xs → p (g (get_or xs k d)) ≡ false) → list_any p (map g xs) ≡ false
none_passes g p [] h = refl
none_passes g p (x ∷ xs) h = ap (λ (b : Bool). b || list_any p (map g xs)) (h 0 x (omega arith)) ∙ none_passes g p xs (λ k d l. h (suc k) d (omega arith))

place_of : {A B : Type 0} (g : A → B) (xs : List A) (k : ℕ) (d : A) → k < length xs → slice_get (map g xs) k ≡ Some (g (get_or xs k d))
place_of g [] k d l = absurd (omega arith)
place_of g (x ∷ xs) zero d l = refl
place_of g (x ∷ xs) (suc k) d l = place_of g xs k d (omega arith)

module _ (rows : List Row) (pairs : List (ℕ × ℕ)) (capacity front spare : ℕ) (fit : WaitsFit rows pairs capacity front spare) (r : starts_rise 0 4294967296 (map row_of rows) ≡ true) where
  waits_here : (k : ℕ) (d : Row) → k < length rows → owner_among pairs (get_or rows k d).start ≡ waits_of (get_or rows k d)
  waits_here k d l =
      fit.waits (get_or rows k d).start
      ∙ through (find (is_start (get_or rows k d).start) rows)
      (sym (find_map row_of (starts_at (get_or rows k d).start) rows) ∙ row_at_place 0 4294967296 k (row_of (get_or rows k d)) (map row_of rows) r (place_of row_of rows k d l))
    where
      through : (o : Option Row) → option_map row_of o ≡ Some (row_of (get_or rows k d)) → option_and_then waits_of o ≡ waits_of (get_or rows k d)
      through None h = absurd (cc h)
      through (Some x) h = let same : row_of x ≡ row_of (get_or rows k d) = cc h in ap (λ (j : JobRow). cond {A = Option ℕ} j.purged None j.last) same

  pub none_has_waited : (window moment : ℕ) → ((start last : ℕ) → owner_among pairs start ≡ Some last → nat_lt (last + window) moment ≡ false) → list_any (has_waited window moment) (map row_of rows) ≡ false
  none_has_waited window moment late = none_passes row_of (has_waited window moment) rows (λ k d l. go (get_or rows k d) (get_or rows k d).purged refl (waits_here k d l))
    where
      by : (row : Row) (o : Option ℕ) → row.last ≡ o → owner_among pairs row.start ≡ o → (is_some o && nat_lt (last_erasure_or_zero o + window) moment) ≡ false
      by row None e o = refl
      by row (Some last) e o = late row.start last o

      go : (row : Row) (b : Bool) → row.purged ≡ b → owner_among pairs row.start ≡ cond row.purged None row.last →
          (not row.purged && is_some row.last && nat_lt (last_erasure_or_zero row.last + window) moment) ≡ false
      go row true h o = ap (λ (c : Bool). not c && is_some row.last && nat_lt (last_erasure_or_zero row.last + window) moment) h
      go row false h o =
          ap (λ (c : Bool). not c && is_some row.last && nat_lt (last_erasure_or_zero row.last + window) moment) h
          ∙ by row row.last refl (o ∙ ap (λ (c : Bool). cond {A = Option ℕ} c None row.last) h)

  pub none_past_first : (pair : ℕ × ℕ) (window moment : ℕ) (past : Bool) → Some pair ≡ slice_get pairs 0 → past ≡ nat_lt (pair.1 + window) moment → past ≡ false → list_any (has_waited window moment) (map row_of rows) ≡ false
  none_past_first pair window moment past f e n =
      none_has_waited window moment (λ start last o. later start last (least_of pairs pair start last fit.rise f o))
    where
      later : (start last : ℕ) → pair.1 ≤ last → nat_lt (last + window) moment ≡ false
      later start last l = let h : nat_lt (pair.1 + window) moment ≡ false = sym e ∙ n in grind (arith, nat_tests, h, l)

  pub none_waits : (window moment : ℕ) → None ≡ slice_get pairs 0 → list_any (has_waited window moment) (map row_of rows) ≡ false
  none_waits window moment n = none_has_waited window moment (λ start last o. absurd (nothing start last pairs n o))
    where
      nothing : (start last : ℕ) (xs : List (ℕ × ℕ)) → None ≡ slice_get xs 0 → owner_among xs start ≡ Some last → ⊥
      nothing start last [] h o = cc o
      nothing start last (x ∷ xs) h o = cc h

-- the front over the rows as they are told
pub front_purged : (rows : List Row) (list : List JobRow) (front : ℕ) → map row_of rows ≡ list → front ≤ length rows → ((k : ℕ) (d : Row) → k < front → (get_or rows k d).purged ≡ true) →
    (k : ℕ) (d : Row) → k < front → (get_or list k (row_of d)).purged ≡ true
front_purged rows list front e w p k d h = ap (λ (l : List JobRow). (get_or l k (row_of d)).purged) (sym e) ∙ ap (λ (j : JobRow). j.purged) (get_map row_of rows k d) ∙ p k d h

-- two reads of a row in one place
pub same_row : (rows slice : List Row) (job i : ℕ) (a b : Row) → slice ≡ rows → Some i ≡ position (is_start job) slice → a ≡ get_or rows i a → b ≡ get_or rows i b → a ≡ b
same_row rows slice job i a b e p g h =
    let facts = position-Some (is_start job) rows i a (sym (p ∙ ap (position (is_start job)) e)) in
    got_same rows i a b facts.0 g h
