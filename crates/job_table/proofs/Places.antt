-- Places in lists, and the change of an element at one.
use Rattle.std.proofs.Common.{◌≡◌, ℕ, zero, suc, ◌+◌, ◌<◌, ◌≤◌, Bool, true, false, cond, ◌&&◌, ◌||◌, not, List, ◌∷◌, ◌++◌, [], map, length, get_or, take, set, Option, Some, None, refl, sym, ◌∙◌, ap, subst, arith, add-one}
use Rattle.std.specs.Prelude.{nat_eq, nat_lt, max, find, option_map, sum_by}
use Rattle.std.specs.List.{remove, position, position_or_len, list_any}
use Rattle.std.proofs.lemmas.List.Quantifiers.{position-Some}
use Rattle.std.proofs.lemmas.Bool.Decides.{nat_tests}
use Rattle.std.proofs.lemmas.List.Sums.{sum_by-cons, fails_before_first}
use Rattle.delf_model.specs.declared.entry.What.{What}
use Rattle.delf_model.specs.declared.ids.JobName.{JobName}
use Rattle.delf_model.specs.State.{JobRow, Logged, Handled, job_row, starts_at, find_job, last_of, named_start, same_name, is_job}
use Rattle.delf_model.specs.Step.{handled_at}
use Rattle.delf_model.specs.Order.{erases_same}
use Rattle.job_table.specs.Table.{given_up, greatest, owner_among, owned_among, is_of_id, is_of_owner, job_of_pair}
use Rattle.job_table.specs.Parts.{changed_first, row_of, is_start, logged_of, handled_of, ItemPart, JobPart, ClaimPart}
use Rattle.job_table.specs.declared.items.Kept.{Kept}
use Rattle.job_table.specs.declared.items.Handling.{Handling}
use Rattle.job_table.specs.declared.jobs.Row.{Row}
use Rattle.job_table.specs.Apart.{are_apart}

-- a place below the length of a longer list

pub less_tail : {A : Type 0} (i : ℕ) (x : A) (xs : List A) → suc i < length (x ∷ xs) → i < length xs
less_tail i x xs h = omega arith

-- the change of the first element that passes

pub changed_at : {A B : Type 0} (g : A → B) (p : B → Bool) (f : B → B) (xs : List A) (i : ℕ) (y d : A) → i < length xs →
    ((k : ℕ) → k < i → p (g (get_or xs k d)) ≡ false) → p (g (get_or xs i d)) ≡ true → g y ≡ f (g (get_or xs i d)) →
    map g (set xs i y) ≡ changed_first p f (map g xs)
changed_at g p f [] i y d l before at e = absurd (omega arith)
changed_at g p f (x ∷ xs) zero y d l before at e =
    ap (λ (v : _). v ∷ map g xs) e ∙ sym (ap (λ (b : Bool). cond b (f (g x) ∷ map g xs) (g x ∷ changed_first p f (map g xs))) at)
changed_at g p f (x ∷ xs) (suc i) y d l before at e =
    ap (λ (v : List _). g x ∷ v) (changed_at g p f xs i y d (less_tail i x xs l) (λ k h. before (suc k) (omega arith)) at e)
    ∙ sym (ap (λ (b : Bool). cond b (f (g x) ∷ map g xs) (g x ∷ changed_first p f (map g xs))) (before 0 (omega arith)))

pub changed_nowhere : {A B : Type 0} (g : A → B) (p : B → Bool) (f : B → B) (xs : List A) →
    ((k : ℕ) (d : A) → k < length xs → p (g (get_or xs k d)) ≡ false) → map g xs ≡ changed_first p f (map g xs)
changed_nowhere g p f [] h = refl
changed_nowhere g p f (x ∷ xs) h =
    ap (λ (v : List _). g x ∷ v) (changed_nowhere g p f xs (λ k d l. h (suc k) d (omega arith)))
    ∙ sym (ap (λ (b : Bool). cond b (f (g x) ∷ map g xs) (g x ∷ changed_first p f (map g xs))) (h 0 x (omega arith)))

-- an item that is handled

pub handled_set : {A : Type 0} (g : A → Logged) (xs : List A) (i : ℕ) (y d : A) (how : Handled) → i < length xs →
    g y ≡ record { item = (g (get_or xs i d)).item; handled = Some how } → map g (set xs i y) ≡ handled_at (map g xs) i how
handled_set g [] i y d how l e = absurd (omega arith)
handled_set g (x ∷ xs) zero y d how l e = ap (λ (v : Logged). v ∷ map g xs) e
handled_set g (x ∷ xs) (suc i) y d how l e = ap (λ (v : List Logged). g x ∷ v) (handled_set g xs i y d how (less_tail i x xs l) e)

pub handled_past : (xs : List Logged) (i : ℕ) (how : Handled) → length xs ≤ i → xs ≡ handled_at xs i how
handled_past [] i how h = refl
handled_past (x ∷ xs) zero how h = absurd (omega arith)
handled_past (x ∷ xs) (suc i) how h = ap (λ (v : List Logged). x ∷ v) (handled_past xs i how (omega arith))

-- a step that is given up

pub given_up_at : (step : What) (xs : List What) (i : ℕ) (d : What) → i < length xs →
    ((k : ℕ) → k < i → erases_same step (get_or xs k d) ≡ false) → erases_same step (get_or xs i d) ≡ true →
    remove xs i ≡ given_up step xs
given_up_at step [] i d l before at = absurd (omega arith)
given_up_at step (x ∷ xs) zero d l before at = sym (ap (λ (b : Bool). cond b xs (x ∷ given_up step xs)) at)
given_up_at step (x ∷ xs) (suc i) d l before at =
    ap (λ (v : List What). x ∷ v) (given_up_at step xs i d (less_tail i x xs l) (λ k h. before (suc k) (omega arith)) at)
    ∙ sym (ap (λ (b : Bool). cond b xs (x ∷ given_up step xs)) (before 0 (omega arith)))

pub given_up_nowhere : (step : What) (xs : List What) → ((k : ℕ) (d : What) → k < length xs → erases_same step (get_or xs k d) ≡ false) →
    xs ≡ given_up step xs
given_up_nowhere step [] h = refl
given_up_nowhere step (x ∷ xs) h =
    ap (λ (v : List What). x ∷ v) (given_up_nowhere step xs (λ k d l. h (suc k) d (omega arith)))
    ∙ sym (ap (λ (b : Bool). cond b xs (x ∷ given_up step xs)) (h 0 x (omega arith)))

-- the first that passes

pub find_map : {A B : Type 0} (g : A → B) (p : B → Bool) (xs : List A) → find p (map g xs) ≡ option_map g (find (λ x. p (g x)) xs)
find_map g p [] = refl
find_map g p (x ∷ xs) = go (p (g x)) (find_map g p xs)
  where
    go : (b : Bool) → find p (map g xs) ≡ option_map g (find (λ y. p (g y)) xs) →
        cond b (Some (g x)) (find p (map g xs)) ≡ option_map g (cond b (Some x) (find (λ y. p (g y)) xs))
    go true e = refl
    go false e = e

pub find_at_place : {A : Type 0} (p : A → Bool) (xs : List A) (i : ℕ) (d : A) → i < length xs →
    ((k : ℕ) → k < i → p (get_or xs k d) ≡ false) → p (get_or xs i d) ≡ true → find p xs ≡ Some (get_or xs i d)
find_at_place p [] i d l before at = absurd (omega arith)
find_at_place p (x ∷ xs) zero d l before at = ap (λ (b : Bool). cond b (Some x) (find p xs)) at
find_at_place p (x ∷ xs) (suc i) d l before at =
    ap (λ (b : Bool). cond b (Some x) (find p xs)) (before 0 (omega arith))
    ∙ find_at_place p xs i d (less_tail i x xs l) (λ k h. before (suc k) (omega arith)) at

pub find_nowhere : {A : Type 0} (p : A → Bool) (xs : List A) → ((k : ℕ) (d : A) → k < length xs → p (get_or xs k d) ≡ false) → find p xs ≡ None
find_nowhere p [] h = refl
find_nowhere p (x ∷ xs) h =
    ap (λ (b : Bool). cond b (Some x) (find p xs)) (h 0 x (omega arith)) ∙ find_nowhere p xs (λ k d l. h (suc k) d (omega arith))

-- no place passes
pub position_none : {A : Type 0} (p : A → Bool) (xs : List A) → None ≡ position p xs → (k : ℕ) (d : A) → k < length xs → p (get_or xs k d) ≡ false
position_none p xs e k d l = fails_before_first p xs k d (go (nat_lt (position_or_len p xs) (length xs)) refl e)
  where
    go : (b : Bool) → nat_lt (position_or_len p xs) (length xs) ≡ b → None ≡ cond b (Some (position_or_len p xs)) None → k < position_or_len p xs
    go true h f = absurd (cc f)
    go false h f = grind (arith, nat_tests, h, l)

-- the calls of the parts, over their lists

pub row_some : (rows slice : List Row) (now : JobPart) (spare job i : ℕ) (got : Row) → slice ≡ rows →
    record { list = map row_of rows; spare = spare } ≡ now → Some i ≡ position (is_start job) slice → got ≡ get_or rows i got →
    Some (row_of got) ≡ job_row now.list job
row_some rows slice now spare job i got e v p g =
    let q : Some i ≡ position (is_start job) rows = p ∙ ap (position (is_start job)) e in
    let facts = position-Some (is_start job) rows i got (sym q) in
    ap (λ (r : Row). Some (row_of r)) g
    ∙ sym (ap (λ (n : JobPart). job_row n.list job) (sym v) ∙ find_map row_of (starts_at job) rows ∙ ap (option_map row_of) (find_at_place (is_start job) rows i got facts.0 facts.2 facts.1))

pub row_none : (rows slice : List Row) (now : JobPart) (spare job : ℕ) → slice ≡ rows →
    record { list = map row_of rows; spare = spare } ≡ now → None ≡ position (is_start job) slice → None ≡ job_row now.list job
row_none rows slice now spare job e v p =
    let q : None ≡ position (is_start job) rows = p ∙ ap (position (is_start job)) e in
    sym (ap (λ (n : JobPart). job_row n.list job) (sym v) ∙ find_map row_of (starts_at job) rows ∙ ap (option_map row_of) (find_nowhere (is_start job) rows (position_none (is_start job) rows q)))

pub change_some : (rows slice : List Row) (now : JobPart) (spare job i : ℕ) (old y : Row) (f : JobRow → JobRow) → slice ≡ rows →
    record { list = map row_of rows; spare = spare } ≡ now → Some i ≡ position (is_start job) slice → old ≡ get_or rows i old →
    (nat_eq old.start job ≡ true → row_of y ≡ f (row_of old)) →
    map row_of (set rows i y) ≡ changed_first (starts_at job) f now.list
change_some rows slice now spare job i old y f e v p g h =
    let q : Some i ≡ position (is_start job) rows = p ∙ ap (position (is_start job)) e in
    let facts = position-Some (is_start job) rows i old (sym q) in
    let at : is_start job old ≡ true = ap (is_start job) g ∙ facts.1 in
    changed_at row_of (starts_at job) f rows i y old facts.0 facts.2 facts.1 (h at ∙ ap (λ (r : Row). f (row_of r)) g)
    ∙ ap (λ (n : JobPart). changed_first (starts_at job) f n.list) v

pub change_none : (rows slice : List Row) (now : JobPart) (spare job : ℕ) (f : JobRow → JobRow) → slice ≡ rows →
    record { list = map row_of rows; spare = spare } ≡ now → None ≡ position (is_start job) slice →
    now.list ≡ changed_first (starts_at job) f now.list
change_none rows slice now spare job f e v p =
    let q : None ≡ position (is_start job) rows = p ∙ ap (position (is_start job)) e in
    subst (λ (n : JobPart). n.list ≡ changed_first (starts_at job) f n.list) v
    (changed_nowhere row_of (starts_at job) f rows (position_none (is_start job) rows q))

pub give_up_some : (steps slice after : List What) (now : ClaimPart) (spare i : ℕ) (step d : What) → slice ≡ steps →
    record { list = steps; spare = spare } ≡ now → Some i ≡ position (erases_same step) slice → after ≡ remove steps i → after ≡ given_up step now.list
give_up_some steps slice after now spare i step d e v p a =
    let q : Some i ≡ position (erases_same step) steps = p ∙ ap (position (erases_same step)) e in
    let facts = position-Some (erases_same step) steps i d (sym q) in
    a ∙ given_up_at step steps i d facts.0 facts.2 facts.1 ∙ ap (λ (n : ClaimPart). given_up step n.list) v

pub give_up_none : (steps slice : List What) (now : ClaimPart) (spare : ℕ) (step : What) → slice ≡ steps →
    record { list = steps; spare = spare } ≡ now → None ≡ position (erases_same step) slice → now.list ≡ given_up step now.list
give_up_none steps slice now spare step e v p =
    let q : None ≡ position (erases_same step) steps = p ∙ ap (position (erases_same step)) e in
    subst (λ (n : ClaimPart). n.list ≡ given_up step n.list) v (given_up_nowhere step steps (position_none (erases_same step) steps q))

-- the pairs without one id

abbrev pub without : ℕ → List (ℕ × ℕ) → List (ℕ × ℕ)
without id [] = []
without id (x ∷ xs) = cond (is_of_id id x) xs (x ∷ without id xs)

not_any : (id : ℕ) (xs : List (ℕ × ℕ)) → list_any (is_of_id id) xs ≡ false → owner_among xs id ≡ None
not_any id [] h = refl
not_any id (x ∷ xs) h = go (nat_eq x.0 id) h (not_any id xs)
  where
    go : (b : Bool) → (b || list_any (is_of_id id) xs) ≡ false → (list_any (is_of_id id) xs ≡ false → owner_among xs id ≡ None) →
        option_map job_of_pair (cond b (Some x) (find (is_of_id id) xs)) ≡ None
    go true e more = absurd (cc e)
    go false e more = more e

apart_head : (x : ℕ × ℕ) (xs : List (ℕ × ℕ)) → are_apart (x ∷ xs) ≡ true → (list_any (is_of_id x.0) xs ≡ false) × (are_apart xs ≡ true)
apart_head x xs h = go (list_any (is_of_id x.0) xs) h
  where
    go : (b : Bool) → (not b && are_apart xs) ≡ true → (b ≡ false) × (are_apart xs ≡ true)
    go true e = absurd (cc e)
    go false e = (refl, e)

pub owner_without : (id other : ℕ) (xs : List (ℕ × ℕ)) → are_apart xs ≡ true →
    owner_among (without id xs) other ≡ cond (nat_eq other id) None (owner_among xs other)
owner_without id other [] h = go (nat_eq other id)
  where
    go : (b : Bool) → ◌≡◌ {A = Option ℕ} None (cond {A = Option ℕ} b None None)
    go true = refl
    go false = refl
owner_without id other (x ∷ xs) h =
    let parts = apart_head x xs h in
    go (nat_eq x.0 id) refl (nat_eq x.0 other) refl (nat_eq other id) refl (not_any x.0 xs parts.0) (owner_without id other xs parts.1)
  where
    go : (a : Bool) → nat_eq x.0 id ≡ a → (b : Bool) → nat_eq x.0 other ≡ b → (d : Bool) → nat_eq other id ≡ d → owner_among xs x.0 ≡ None →
        owner_among (without id xs) other ≡ cond (nat_eq other id) None (owner_among xs other) →
        owner_among (cond a xs (x ∷ without id xs)) other ≡ cond d None (option_map job_of_pair (cond b (Some x) (find (is_of_id other) xs)))
    go true e true f true g n more = let s : x.0 ≡ other = grind (arith, nat_tests, f) in ap (owner_among xs) (sym s) ∙ n
    go true e true f false g n more = absurd (grind (arith, nat_tests, e, f, g))
    go true e false f true g n more = absurd (grind (arith, nat_tests, e, f, g))
    go true e false f false g n more = refl
    go false e true f true g n more = absurd (grind (arith, nat_tests, e, f, g))
    go false e true f false g n more = ap (λ (b : Bool). option_map job_of_pair (cond b (Some x) (find (is_of_id other) (without id xs)))) f
    go false e false f d g n more = ap (λ (b : Bool). option_map job_of_pair (cond b (Some x) (find (is_of_id other) (without id xs)))) f ∙ more ∙ ap (λ (b : Bool). cond b None (owner_among xs other)) g

pub owned_without : (id job : ℕ) (xs : List (ℕ × ℕ)) →
    owned_among (without id xs) job + cond (is_job job (owner_among xs id)) 1 0 ≡ owned_among xs job
owned_without id job [] = omega arith
owned_without id job (x ∷ xs) = go (nat_eq x.0 id) (owned_without id job xs)
  where
    one : Bool → ℕ
    one b = cond b 1 0

    go : (a : Bool) → owned_among (without id xs) job + cond (is_job job (owner_among xs id)) 1 0 ≡ owned_among xs job →
        owned_among (cond a xs (x ∷ without id xs)) job + cond (is_job job (option_map job_of_pair (cond a (Some x) (find (is_of_id id) xs)))) 1 0 ≡ owned_among (x ∷ xs) job
    go true more = omega (arith, sum_by-cons (λ (p : ℕ × ℕ). one (is_of_owner job p)) x xs)
    go false more = omega (arith, sum_by-cons (λ (p : ℕ × ℕ). one (is_of_owner job p)) x xs, sum_by-cons (λ (p : ℕ × ℕ). one (is_of_owner job p)) x (without id xs), more)

any_without : (id other : ℕ) (xs : List (ℕ × ℕ)) → list_any (is_of_id other) xs ≡ false → list_any (is_of_id other) (without id xs) ≡ false
any_without id other [] h = refl
any_without id other (x ∷ xs) h = go (is_of_id id x) (nat_eq x.0 other) refl h (any_without id other xs)
  where
    go : (a b : Bool) → nat_eq x.0 other ≡ b → (b || list_any (is_of_id other) xs) ≡ false →
        (list_any (is_of_id other) xs ≡ false → list_any (is_of_id other) (without id xs) ≡ false) →
        list_any (is_of_id other) (cond a xs (x ∷ without id xs)) ≡ false
    go a true q e more = absurd (cc e)
    go true false q e more = ap (λ (b : Bool). list_any (is_of_id other) xs) q ∙ e
    go false false q e more = ap (λ (b : Bool). b || list_any (is_of_id other) (without id xs)) q ∙ more e

pub apart_without : (id : ℕ) (xs : List (ℕ × ℕ)) → are_apart xs ≡ true → are_apart (without id xs) ≡ true
apart_without id [] h = refl
apart_without id (x ∷ xs) h =
    let parts = apart_head x xs h in
    go (is_of_id id x) parts.1 (any_without id x.0 xs parts.0) (apart_without id xs parts.1)
  where
    go : (a : Bool) → are_apart xs ≡ true → list_any (is_of_id x.0) (without id xs) ≡ false → are_apart (without id xs) ≡ true →
        are_apart (cond a xs (x ∷ without id xs)) ≡ true
    go true e f g = e
    go false e f g = ap (λ (b : Bool). not b && are_apart (without id xs)) f ∙ g

pub map_push : {A B : Type 0} (g : A → B) (xs : List A) (y : A) → map g (xs ++ y ∷ []) ≡ map g xs ++ g y ∷ []
map_push g [] y = refl
map_push g (x ∷ xs) y = ap (λ (l : List _). g x ∷ l) (map_push g xs y)

pub absent_owner : (l : List (ℕ × ℕ)) (id other : ℕ) → None ≡ owner_among l id → owner_among l other ≡ cond (nat_eq other id) None (owner_among l other)
absent_owner l id other n = go (nat_eq other id) refl
  where
    go : (b : Bool) → nat_eq other id ≡ b → owner_among l other ≡ cond b None (owner_among l other)
    go true h = let s : other ≡ id = grind (arith, nat_tests, h) in ap (owner_among l) s ∙ sym n
    go false h = refl

pub absent_owned : (l : List (ℕ × ℕ)) (id job : ℕ) → None ≡ owner_among l id → owned_among l job + cond (is_job job (owner_among l id)) 1 0 ≡ owned_among l job
absent_owned l id job n = ap (λ (o : Option ℕ). owned_among l job + cond (is_job job o) 1 0) (sym n) ∙ omega arith

-- an item is handled, over the list of the part

pub handle_in : (kept : List Kept) (now : ItemPart) (spare i : ℕ) (old : Kept) (how : Handling) → record { list = map logged_of kept; spare = spare } ≡ now →
    i < length kept → old ≡ get_or kept i old →
    map logged_of (set kept i (record { item = old.item; handled = Some how })) ≡ handled_at now.list i (handled_of how)
handle_in kept now spare i old how v l g =
    handled_set logged_of kept i (record { item = old.item; handled = Some how }) old (handled_of how) l
    (ap (λ (k : Kept). record { item = k.item; handled = Some (handled_of how) }) g)
    ∙ ap (λ (n : ItemPart). handled_at n.list i (handled_of how)) v

-- the latest job of a name

pub find_job_push : (name : JobName) (rows : List JobRow) (row : JobRow) →
    find_job (rows ++ row ∷ []) name ≡ cond (same_name row.name name) (Some row.start) (find_job rows name)
find_job_push name [] row = go (same_name row.name name)
  where
    go : (b : Bool) → last_of (cond b (Some row.start) None) None ≡ cond b (Some row.start) None
    go true = refl
    go false = refl
find_job_push name (x ∷ xs) row = ap (last_of (named_start name x)) (find_job_push name xs row) ∙ go (same_name row.name name) (named_start name x)
  where
    go : (b : Bool) (o : Option ℕ) → last_of o (cond b (Some row.start) (find_job xs name)) ≡ cond b (Some row.start) (last_of o (find_job xs name))
    go true None = refl
    go true (Some n) = refl
    go false o = refl

pub greatest_push : (xs : List ℕ) (x : ℕ) → greatest (xs ++ x ∷ []) ≡ max (greatest xs) x
greatest_push [] x = omega arith
greatest_push (y ∷ xs) x = omega (arith, greatest_push xs x)

pub map_sum : {A B : Type 0} (g : A → B) (f : B → ℕ) (xs : List A) → sum_by f (map g xs) ≡ sum_by (λ x. f (g x)) xs
map_sum g f [] = refl
map_sum g f (x ∷ xs) = omega (arith, sum_by-cons f (g x) (map g xs), sum_by-cons (λ y. f (g y)) x xs, map_sum g f xs)

pub map_length : {A B : Type 0} (g : A → B) (xs : List A) → length (map g xs) ≡ length xs
map_length g [] = refl
map_length g (x ∷ xs) = ap suc (map_length g xs)

-- one element more

take_next : {A : Type 0} (xs : List A) (i : ℕ) (d : A) → i < length xs → take (suc i) xs ≡ take i xs ++ get_or xs i d ∷ []
take_next [] i d l = absurd (omega arith)
take_next (x ∷ xs) zero d l = refl
take_next (x ∷ xs) (suc i) d l = ap (λ (v : List _). x ∷ v) (take_next xs i d (less_tail i x xs l))

pub take_one : {A : Type 0} (xs : List A) (i : ℕ) (d : A) → i < length xs → take (i + 1) xs ≡ take i xs ++ get_or xs i d ∷ []
take_one xs i d l = ap (λ (n : ℕ). take n xs) (add-one i) ∙ take_next xs i d l

pub get_map : {A B : Type 0} (g : A → B) (xs : List A) (i : ℕ) (d : A) → get_or (map g xs) i (g d) ≡ g (get_or xs i d)
get_map g [] i d = refl
get_map g (x ∷ xs) zero d = refl
get_map g (x ∷ xs) (suc i) d = get_map g xs i d

pub given_up_len : (step : What) (xs : List What) → length (given_up step xs) ≤ length xs
given_up_len step [] = omega arith
given_up_len step (x ∷ xs) = go (erases_same step x) (given_up_len step xs)
  where
    go : (b : Bool) → length (given_up step xs) ≤ length xs → length (cond b xs (x ∷ given_up step xs)) ≤ length (x ∷ xs)
    go true h = omega arith
    go false h = omega (arith, h)
