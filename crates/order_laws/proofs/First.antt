-- The first step of the serial order is legal, and where there is none no step is.
use Rattle.std.proofs.Common.{◌≡◌, ℕ, zero, suc, ◌+◌, ◌≤◌, ◌<◌, Bool, true, false, cond, not, ◌&&◌, ◌||◌, eqb, ltb, leb, List, [], ◌∷◌, ◌++◌, Option, Some, None, refl, sym, ap, ◌∙◌, subst, arith, inl, inr, ◌⊎◌}
use Rattle.std.proofs.lemmas.Bool.{and_parts, and_from, eqb-true, eq-eqb, false≢true, ltb-true, lt-ltb, le-leb, leb-true, leb-false, or_cases}
use Rattle.std.proofs.lemmas.List.Sums.{sum_by-cons}
use Rattle.std.specs.Prelude.{find, filter, is_some, is_none, slice_get, count_by, option_and_then}
use Rattle.std.specs.List.{list_any, list_all}
use Rattle.delf_model.specs.declared.rows.ObjectRow.{ObjectRow}
use Rattle.delf_model.specs.declared.rows.EdgeKey.{EdgeKey}
use Rattle.delf_model.specs.declared.rows.EdgeRow.{EdgeRow}
use Rattle.delf_model.specs.declared.rows.Item.{Item}
use Rattle.delf_model.specs.declared.rows.Item.TheVariants as item
use Rattle.delf_model.specs.declared.entry.Entry.{Entry}
use Rattle.delf_model.specs.declared.entry.Tag.{Tag}
use Rattle.delf_model.specs.declared.entry.What.{What}
use Rattle.delf_model.specs.declared.entry.What.TheVariants.{Create, Update, Link, Unlink, Delete, Restore, Expire, Cut, Erase, Put, Purge}
use Rattle.delf_model.specs.RuleSet.{RuleSet}
use Rattle.delf_model.specs.Graph.{Graph, has_id, has_key, object_at, edge_at, edge_stands, same_key, touches, touches_row, is_touched, out_edges, in_edges, leaves_from, leads_to}
use Rattle.delf_model.specs.State.{State, Logged, Handled, JobRow, Owners, owner, owner_in, owns_of, owner_of_pair, owned, is_pair_of, is_owned_by, is_job, job_row, starts_at, job_of, is_restored, is_restored_row, is_open, is_open_of, left}
use Rattle.delf_model.specs.Step.{after}
use Rattle.delf_model.specs.Owners.{key_of}
use Rattle.std.specs.Option.{option_or}
use Rattle.delf_model.specs.Legal.{is_legal, is_allowed, Legal, is_due_row, may_put, may_purge, may_expire, is_end_item, is_handled_end, end_handled, ends_handled}
use Rattle.delf_model.specs.Room.{greatest_moment, may_come}
use Rattle.delf_model.proofs.Lines.{first_in, none_in, may_come_parts, may_come_of}
use Rattle.delf_model.specs.Order.{is_step, is_legal_step, is_restoring, is_oldest_restoring, is_no_older, last_place, put_of, put_of_job, first_put, owns_some, cut_or_erase, erasure_of_pair, erasure_of_job, first_erasure, expires, expiry_of, first_expiry, purges, purge_of, first_purge, first_in_order, first_step}
use Rattle.delf_model.specs.Sound.{FirstIsLegal}
use Rattle.delf_model.proofs.Graphs.{same_key_refl}
use Rattle.delf_model.proofs.Leaves.{owner_is}
use Rattle.delf_model.proofs.Owners.{found_id}
use Rattle.delf_model.proofs.Jobs.{owned_positive}
use Rattle.delf_model.proofs.Places.{EachItem, each_at, MayPut, may_put_of}
use Rattle.order_laws.proofs.Ordered.{Ordered, ordered_after, Above, Rising, OwnersAbove, OwnersRising, StartsAbove, StartsRising, is_end_of, EndsApart}

-- what find finds passes, and where it finds none nothing passes

found_passes : {A : Type 0} (p : A → Bool) (xs : List A) (row : A) → find p xs ≡ Some row → p row ≡ true
found_passes p [] row found = absurd (cc found)
found_passes p (x ∷ xs) row found = by_hit (p x) refl found (found_passes p xs row)
  where
    by_hit : (b : Bool) → p x ≡ b → cond b (Some x) (find p xs) ≡ Some row → (find p xs ≡ Some row → p row ≡ true) → p row ≡ true
    by_hit true is here IH = let same : x ≡ row = cc in ap p (sym same) ∙ is
    by_hit false is here IH = IH here

none_passes : {A : Type 0} (p q : A → Bool) (xs : List A) (row : A) → find p xs ≡ None → find q xs ≡ Some row → p row ≡ false
none_passes p q [] row none found = absurd (cc found)
none_passes p q (x ∷ xs) row none found = by_hit (p x) refl none (q x) refl found (none_passes p q xs row)
  where
    by_hit : (b : Bool) → p x ≡ b → cond b (Some x) (find p xs) ≡ None → (c : Bool) → q x ≡ c → cond c (Some x) (find q xs) ≡ Some row →
        (find p xs ≡ None → find q xs ≡ Some row → p row ≡ false) → p row ≡ false
    by_hit true is nothing c at here IH = absurd (cc nothing)
    by_hit false is nothing true at here IH = let same : x ≡ row = cc in ap p (sym same) ∙ is
    by_hit false is nothing false at here IH = IH nothing here

contradicts : {A : Type 0} (b : Bool) → b ≡ true → b ≡ false → A
contradicts b one two = absurd (false≢true (sym two ∙ one))

-- in rising lists a row that any test finds is the one that its own key finds

above_none : (id : ℕ) (xs : List ObjectRow) → Above id xs → find (has_id id) xs ≡ None
above_none id [] above = refl
above_none id (x ∷ xs) above = by_hit (eqb x.id id) refl (above_none id xs above.1)
  where
    by_hit : (b : Bool) → eqb x.id id ≡ b → find (has_id id) xs ≡ None → cond b (Some x) (find (has_id id) xs) ≡ None
    by_hit true is IH = absurd (let same : x.id ≡ id = eqb-true x.id id is in let less : id < x.id = above.0 in omega arith)
    by_hit false is IH = IH

own_object : (p : ObjectRow → Bool) (xs : List ObjectRow) (row : ObjectRow) → Rising xs → find p xs ≡ Some row → find (has_id row.id) xs ≡ Some row
own_object p [] row rises found = absurd (cc found)
own_object p (x ∷ xs) row rises found = by_hit (p x) found (own_object p xs row rises.1)
  where
    above_at : (xs : List ObjectRow) → Above x.id xs → find p xs ≡ Some row → x.id < row.id
    above_at [] above found = absurd (cc found)
    above_at (y ∷ ys) above found = by_here (p y) found (above_at ys above.1)
      where
        by_here : (b : Bool) → cond b (Some y) (find p ys) ≡ Some row → (find p ys ≡ Some row → x.id < row.id) → x.id < row.id
        by_here true here IH = let same : y ≡ row = cc in subst (λ (r : ObjectRow). x.id < r.id) same above.0
        by_here false here IH = IH here

    by_hit : (b : Bool) → cond b (Some x) (find p xs) ≡ Some row → (find p xs ≡ Some row → find (has_id row.id) xs ≡ Some row) → cond (eqb x.id row.id) (Some x) (find (has_id row.id) xs) ≡ Some row
    by_hit true here IH =
        let same : x ≡ row = cc in
        ap (λ (b : Bool). cond b (Some x) (find (has_id row.id) xs)) (eq-eqb x.id row.id (ap (λ (r : ObjectRow). r.id) same)) ∙ ap (λ (r : ObjectRow). Some r) same
    by_hit false here IH = skip (eqb x.id row.id) refl
      where
        skip : (b : Bool) → eqb x.id row.id ≡ b → cond b (Some x) (find (has_id row.id) xs) ≡ Some row
        skip true is = absurd (let same : x.id ≡ row.id = eqb-true x.id row.id is in let less : x.id < row.id = above_at xs rises.0 here in omega arith)
        skip false is = IH here

own_pair : (p : ℕ × Option ℕ → Bool) (xs : Owners) (pair : ℕ × Option ℕ) → OwnersRising xs → find p xs ≡ Some pair → find (owns_of pair.0) xs ≡ Some pair
own_pair p [] pair rises found = absurd (cc found)
own_pair p (x ∷ xs) pair rises found = by_hit (p x) found (own_pair p xs pair rises.1)
  where
    above_at : (xs : Owners) → OwnersAbove x.0 xs → find p xs ≡ Some pair → x.0 < pair.0
    above_at [] above found = absurd (cc found)
    above_at (y ∷ ys) above found = by_here (p y) found (above_at ys above.1)
      where
        by_here : (b : Bool) → cond b (Some y) (find p ys) ≡ Some pair → (find p ys ≡ Some pair → x.0 < pair.0) → x.0 < pair.0
        by_here true here IH = let same : y ≡ pair = cc in subst (λ (r : ℕ × Option ℕ). x.0 < r.0) same above.0
        by_here false here IH = IH here

    by_hit : (b : Bool) → cond b (Some x) (find p xs) ≡ Some pair → (find p xs ≡ Some pair → find (owns_of pair.0) xs ≡ Some pair) → cond (eqb x.0 pair.0) (Some x) (find (owns_of pair.0) xs) ≡ Some pair
    by_hit true here IH =
        let same : x ≡ pair = cc in
        ap (λ (b : Bool). cond b (Some x) (find (owns_of pair.0) xs)) (eq-eqb x.0 pair.0 (ap (λ (r : ℕ × Option ℕ). r.0) same)) ∙ ap (λ (r : ℕ × Option ℕ). Some r) same
    by_hit false here IH = skip (eqb x.0 pair.0) refl
      where
        skip : (b : Bool) → eqb x.0 pair.0 ≡ b → cond b (Some x) (find (owns_of pair.0) xs) ≡ Some pair
        skip true is = absurd (let same : x.0 ≡ pair.0 = eqb-true x.0 pair.0 is in let less : x.0 < pair.0 = above_at xs rises.0 here in omega arith)
        skip false is = IH here

own_job : (len : ℕ) (p : JobRow → Bool) (xs : List JobRow) (row : JobRow) → StartsRising len xs → find p xs ≡ Some row → find (starts_at row.start) xs ≡ Some row
own_job len p [] row rises found = absurd (cc found)
own_job len p (x ∷ xs) row rises found = by_hit (p x) found (own_job len p xs row rises.2)
  where
    above_at : (xs : List JobRow) → StartsAbove x.start xs → find p xs ≡ Some row → x.start < row.start
    above_at [] above found = absurd (cc found)
    above_at (y ∷ ys) above found = by_here (p y) found (above_at ys above.1)
      where
        by_here : (b : Bool) → cond b (Some y) (find p ys) ≡ Some row → (find p ys ≡ Some row → x.start < row.start) → x.start < row.start
        by_here true here IH = let same : y ≡ row = cc in subst (λ (r : JobRow). x.start < r.start) same above.0
        by_here false here IH = IH here

    by_hit : (b : Bool) → cond b (Some x) (find p xs) ≡ Some row → (find p xs ≡ Some row → find (starts_at row.start) xs ≡ Some row) → cond (eqb x.start row.start) (Some x) (find (starts_at row.start) xs) ≡ Some row
    by_hit true here IH =
        let same : x ≡ row = cc in
        ap (λ (b : Bool). cond b (Some x) (find (starts_at row.start) xs)) (eq-eqb x.start row.start (ap (λ (r : JobRow). r.start) same)) ∙ ap (λ (r : JobRow). Some r) same
    by_hit false here IH = skip (eqb x.start row.start) refl
      where
        skip : (b : Bool) → eqb x.start row.start ≡ b → cond b (Some x) (find (starts_at row.start) xs) ≡ Some row
        skip true is = absurd (let same : x.start ≡ row.start = eqb-true x.start row.start is in let less : x.start < row.start = above_at xs rises.1 here in omega arith)
        skip false is = IH here

-- what a legal step is

legal_step : (s : State) (moment : ℕ) → s.moment ≤ moment → moment ≤ greatest_moment → (allowed : Bool) → allowed ≡ true →
    (leb s.moment moment && leb moment greatest_moment && true && true && allowed) ≡ true
legal_step s moment one two allowed line =
    and_from (leb s.moment moment && leb moment greatest_moment && true && true) allowed
    (and_from (leb s.moment moment && leb moment greatest_moment && true) true
    (and_from (leb s.moment moment && leb moment greatest_moment) true
    (and_from (leb s.moment moment) (leb moment greatest_moment) (le-leb s.moment moment one) (le-leb moment greatest_moment two)) refl) refl) line

step_parts : (s : State) (moment : ℕ) (what : What) → s.moment ≤ moment → moment ≤ greatest_moment → is_step what ≡ true → is_allowed s moment what ≡ true → is_legal_step s moment what ≡ true
step_parts s moment (Create tag kind id size) one two step line = absurd (false≢true step)
step_parts s moment (Update tag id size) one two step line = absurd (false≢true step)
step_parts s moment (Link tag edge from to size) one two step line = absurd (false≢true step)
step_parts s moment (Unlink tag edge from to name) one two step line = absurd (false≢true step)
step_parts s moment (Delete tag id name) one two step line = absurd (false≢true step)
step_parts s moment (Restore tag job) one two step line = absurd (false≢true step)
step_parts s moment (Expire id) one two step line = legal_step s moment one two _ line
step_parts s moment (Cut job edge from to) one two step line = legal_step s moment one two _ line
step_parts s moment (Erase job id) one two step line = legal_step s moment one two _ line
step_parts s moment (Put job i) one two step line = legal_step s moment one two _ line
step_parts s moment (Purge job) one two step line = legal_step s moment one two _ line

-- 1. the put of the oldest restore

-- the last open item, with the ends of it handled
pub record LastOpen (job : ℕ) (jobs : List JobRow) (items : List Logged) (k : ℕ) : Type 0 where
  pub logged : Logged
  pub at : slice_get items k ≡ Some logged
  pub opened : is_open_of job jobs logged ≡ true
  pub ends : ends_handled items logged.item ≡ true

-- an item of a restored job that is not open is handled
closed_handled : (job id birth : ℕ) (jobs : List JobRow) (l : Logged) → is_restored jobs job ≡ true → is_open_of job jobs l ≡ false → is_handled_end job id birth l ≡ true
closed_handled job id birth jobs l restored closed = by_end (is_end_item job id birth l.item) refl
  where
    of_job : (it : Item) → is_end_item job id birth it ≡ true → job_of it ≡ job
    of_job (item.Object other row) is =
        eqb-true other job (and_parts (eqb other job) (eqb row.id id) (and_parts (eqb other job && eqb row.id id) (eqb row.birth birth) is).0).0
    of_job (item.Edge other row from_birth to_birth) is = absurd (false≢true is)

    by_handled : (o : Option Handled) → l.handled ≡ o → is_end_item job id birth l.item ≡ true → is_some o ≡ true
    by_handled (Some how) at is = refl
    by_handled None at is =
        contradicts (is_open_of job jobs l)
        (and_from (eqb (job_of l.item) job) (is_open jobs l) (eq-eqb (job_of l.item) job (of_job l.item is))
        (and_from (is_none l.handled) (is_restored jobs (job_of l.item)) (ap (λ (h : Option Handled). is_none h) at)
        (subst (λ (j : ℕ). is_restored jobs j ≡ true) (sym (of_job l.item is)) restored)))
        closed

    by_end : (b : Bool) → is_end_item job id birth l.item ≡ b → (not b || is_some l.handled) ≡ true
    by_end false is = refl
    by_end true is = by_handled l.handled refl is

-- where no place is open, every item is handled
none_open : (job id birth : ℕ) (jobs : List JobRow) (n : ℕ) (items : List Logged) → is_restored jobs job ≡ true → last_place (is_open_of job jobs) n items ≡ None →
    list_all (is_handled_end job id birth) items ≡ true
none_open job id birth jobs n [] restored none = refl
none_open job id birth jobs n (x ∷ xs) restored none =
    by_later (last_place (is_open_of job jobs) (n + 1) xs) refl none (λ here. none_open job id birth jobs (n + 1) xs restored here)
  where
    by_here : (b : Bool) → is_open_of job jobs x ≡ b → cond b (Some n) None ≡ None → b ≡ false
    by_here true is here = absurd (cc here)
    by_here false is here = refl

    by_later : (o : Option ℕ) → last_place (is_open_of job jobs) (n + 1) xs ≡ o → option_or o (cond (is_open_of job jobs x) (Some n) None) ≡ None →
        (last_place (is_open_of job jobs) (n + 1) xs ≡ None → list_all (is_handled_end job id birth) xs ≡ true) → list_all (is_handled_end job id birth) (x ∷ xs) ≡ true
    by_later (Some i) is here IH = absurd (cc here)
    by_later None is here IH =
        and_from (is_handled_end job id birth x) (list_all (is_handled_end job id birth) xs)
        (closed_handled job id birth jobs x restored (by_here (is_open_of job jobs x) refl here))
        (IH is)

-- an item before an edge item of which it is no end
apart_end : (job id birth : ℕ) (x : Logged) → is_end_item job id birth x.item ≡ false → is_handled_end job id birth x ≡ true
apart_end job id birth x apart = by_end (is_end_item job id birth x.item) apart
  where
    by_end : (b : Bool) → b ≡ false → (not b || is_some x.handled) ≡ true
    by_end true is = absurd (false≢true (sym is))
    by_end false is = refl

or_first : (a b : Bool) → (a || b) ≡ false → a ≡ false
or_first true b none = absurd (false≢true (sym none))
or_first false b none = refl

or_second : (a b : Bool) → (a || b) ≡ false → b ≡ false
or_second true b none = absurd (false≢true (sym none))
or_second false b none = none

ends_more : (x : Logged) (xs : List Logged) (it : Item) → is_end_of it x.item ≡ false → ends_handled xs it ≡ true → ends_handled (x ∷ xs) it ≡ true
ends_more x xs (item.Object job row) apart ends = refl
ends_more x xs (item.Edge job row from_birth to_birth) apart ends =
    let both = and_parts (end_handled xs job row.key.from from_birth) (end_handled xs job row.key.to to_birth) ends in
    and_from (end_handled (x ∷ xs) job row.key.from from_birth) (end_handled (x ∷ xs) job row.key.to to_birth)
    (and_from (is_handled_end job row.key.from from_birth x) (end_handled xs job row.key.from from_birth)
    (apart_end job row.key.from from_birth x (or_first _ _ apart)) both.0)
    (and_from (is_handled_end job row.key.to to_birth x) (end_handled xs job row.key.to to_birth)
    (apart_end job row.key.to to_birth x (or_second _ _ apart)) both.1)

-- the last open one of a list has all behind it handled
ends_here : (job : ℕ) (jobs : List JobRow) (n : ℕ) (x : Logged) (xs : List Logged) (it : Item) → x.item ≡ it → job_of it ≡ job → is_restored jobs job ≡ true →
    last_place (is_open_of job jobs) n xs ≡ None → ends_handled (x ∷ xs) it ≡ true
ends_here job jobs n x xs (item.Object other row) same is restored none = refl
ends_here job jobs n x xs (item.Edge other row from_birth to_birth) same is restored none =
    and_from (end_handled (x ∷ xs) other row.key.from from_birth) (end_handled (x ∷ xs) other row.key.to to_birth)
    (one row.key.from from_birth) (one row.key.to to_birth)
  where
    edge_no_end : (id birth : ℕ) → is_end_item other id birth x.item ≡ false
    edge_no_end id birth = ap (is_end_item other id birth) same

    one : (id birth : ℕ) → end_handled (x ∷ xs) other id birth ≡ true
    one id birth =
        and_from (is_handled_end other id birth x) (end_handled xs other id birth) (apart_end other id birth x (edge_no_end id birth))
        (subst (λ (j : ℕ). list_all (is_handled_end j id birth) xs ≡ true) (sym is) (none_open job id birth jobs n xs restored none))

last_open : (job : ℕ) (jobs : List JobRow) (n i : ℕ) (items : List Logged) → is_restored jobs job ≡ true → EndsApart items → last_place (is_open_of job jobs) n items ≡ Some i →
    (k : ℕ) × (i ≡ n + k) × LastOpen job jobs items k
last_open job jobs n i [] restored apart found = absurd (cc found)
last_open job jobs n i (x ∷ xs) restored apart found = by_later (last_place (is_open_of job jobs) (n + 1) xs) refl found (λ here. last_open job jobs (n + 1) i xs restored apart.1 here)
  where
    Result : Type 0
    Result = (k : ℕ) × (i ≡ n + k) × LastOpen job jobs (x ∷ xs) k

    later : (k : ℕ) × (i ≡ n + 1 + k) × LastOpen job jobs xs k → Result
    later rest = (
      suc rest.0,
      next (rest.0) rest.1,
      record {
        logged = rest.2.logged;
        at = rest.2.at;
        opened = rest.2.opened;
        ends = ends_more x xs rest.2.logged.item (each_at (λ y. is_end_of y.item x.item ≡ false) xs rest.0 rest.2.logged apart.0 rest.2.at) rest.2.ends;
      },
    )
      where
        next : (k : ℕ) → i ≡ n + 1 + k → i ≡ n + suc k
        next k is = omega arith

    here : (b : Bool) → is_open_of job jobs x ≡ b → last_place (is_open_of job jobs) (n + 1) xs ≡ None → cond b (Some n) None ≡ Some i → Result
    here false is none at = absurd (cc at)
    here true is none at = (
      0,
      (let same : n ≡ i = cc in first_is same),
      record {
        logged = x;
        at = refl;
        opened = is;
        ends = ends_here job jobs (n + 1) x xs x.item refl (eqb-true (job_of x.item) job (and_parts (eqb (job_of x.item) job) (is_open jobs x) is).0) restored none;
      },
    )
      where
        first_is : n ≡ i → i ≡ n + 0
        first_is same = omega arith

    by_later : (o : Option ℕ) → last_place (is_open_of job jobs) (n + 1) xs ≡ o → option_or o (cond (is_open_of job jobs x) (Some n) None) ≡ Some i →
        (last_place (is_open_of job jobs) (n + 1) xs ≡ Some i → (k : ℕ) × (i ≡ n + 1 + k) × LastOpen job jobs xs k) → Result
    by_later None is at IH = here (is_open_of job jobs x) refl is at
    by_later (Some j) is at IH = later (IH (is ∙ at))

put_may : (s : State) (job i : ℕ) → LastOpen job s.jobs s.items i → may_put s job (slice_get s.items i) ≡ true
put_may s job i last =
    let parts = and_parts (eqb (job_of last.logged.item) job) (is_open s.jobs last.logged) last.opened in
    ap (may_put s job) last.at ∙
    and_from (eqb (job_of last.logged.item) job && is_open s.jobs last.logged) (ends_handled s.items last.logged.item)
    (and_from (eqb (job_of last.logged.item) job) (is_open s.jobs last.logged) parts.0 parts.1) last.ends

restored_of_row : (s : State) (row : JobRow) → job_row s.jobs row.start ≡ Some row → is_some row.restored ≡ true → is_restored s.jobs row.start ≡ true
restored_of_row s row at some = ap is_restored_row at ∙ some

put_found : (s : State) → Ordered s → (what : What) → first_put s ≡ Some what → (is_step what ≡ true) × ((moment : ℕ) → is_allowed s moment what ≡ true)
put_found s ordered what found = by_row (find (is_oldest_restoring s) s.jobs) refl found
  where
    by_place : (row : JobRow) → find (is_oldest_restoring s) s.jobs ≡ Some row → (o : Option ℕ) → last_place (is_open_of row.start s.jobs) 0 s.items ≡ o → put_of row.start o ≡ Some what →
        (is_step what ≡ true) × ((moment : ℕ) → is_allowed s moment what ≡ true)
    by_place row at None is here = absurd (cc here)
    by_place row at (Some i) is here =
        let same : Put row.start i ≡ what = cc in
        let oldest = found_passes (is_oldest_restoring s) s.jobs row at in
        let restoring = (and_parts (is_restoring s row) _ oldest).0 in
        let restored : is_restored s.jobs row.start ≡ true =
        restored_of_row s row (own_job s.len (is_oldest_restoring s) s.jobs row ordered.starts at) (and_parts (is_some row.restored) (ltb 0 (left s row.start)) restoring).0 in
        let last = last_open row.start s.jobs 0 i s.items restored ordered.apart is in
        let place : last.0 ≡ i = zero_first last.0 last.1 in
        let may : may_put s row.start (slice_get s.items i) ≡ true = put_may s row.start i (subst (λ (n : ℕ). LastOpen row.start s.jobs s.items n) place last.2) in
        (subst (λ (w : What). is_step w ≡ true) same refl, λ moment. subst (λ (w : What). is_allowed s moment w ≡ true) same may)
      where
        zero_first : (k : ℕ) → i ≡ 0 + k → k ≡ i
        zero_first k is = omega arith

    by_row : (o : Option JobRow) → find (is_oldest_restoring s) s.jobs ≡ o → put_of_job s o ≡ Some what → (is_step what ≡ true) × ((moment : ℕ) → is_allowed s moment what ≡ true)
    by_row None at here = absurd (cc here)
    by_row (Some row) at here = by_place row at (last_place (is_open_of row.start s.jobs) 0 s.items) refl here

-- 2. the erasure of the oldest job that owns

first_kept : (p : EdgeRow → Bool) (xs rest : List EdgeRow) (row : EdgeRow) → filter p xs ≡ row ∷ rest → (p row ≡ true) × (find p xs ≡ Some row)
first_kept p [] rest row is = absurd (cc is)
first_kept p (x ∷ xs) rest row is = by_hit (p x) refl is (first_kept p xs rest row)
  where
    by_hit : (b : Bool) → p x ≡ b → cond b (x ∷ filter p xs) (filter p xs) ≡ row ∷ rest → (filter p xs ≡ row ∷ rest → (p row ≡ true) × (find p xs ≡ Some row)) →
        (p row ≡ true) × (cond b (Some x) (find p xs) ≡ Some row)
    by_hit true at here IH = let same : x ≡ row = cc in (ap p (sym same) ∙ at, ap (λ (r : EdgeRow). Some r) same)
    by_hit false at here IH = IH here

-- a row of the list stands
row_stands : (p : EdgeRow → Bool) (xs : List EdgeRow) (row : EdgeRow) → find p xs ≡ Some row → is_some (find (has_key row.key) xs) ≡ true
row_stands p [] row found = absurd (cc found)
row_stands p (x ∷ xs) row found = by_hit (p x) found (row_stands p xs row)
  where
    some_more : (b : Bool) → is_some (find (has_key row.key) xs) ≡ true → is_some (cond b (Some x) (find (has_key row.key) xs)) ≡ true
    some_more true some = refl
    some_more false some = some

    by_hit : (b : Bool) → cond b (Some x) (find p xs) ≡ Some row → (find p xs ≡ Some row → is_some (find (has_key row.key) xs) ≡ true) → is_some (find (has_key row.key) (x ∷ xs)) ≡ true
    by_hit true here IH =
        let same : x ≡ row = cc in
        ap (λ (b : Bool). is_some (cond b (Some x) (find (has_key row.key) xs))) (ap (λ (r : EdgeRow). same_key r.key row.key) same ∙ same_key_refl row.key)
    by_hit false here IH = some_more (same_key x.key row.key) (IH here)

untouched_none : (id : ℕ) (xs : List EdgeRow) → filter (leaves_from id) xs ≡ [] → filter (leads_to id) xs ≡ [] → list_any (touches_row id) xs ≡ false
untouched_none id [] one two = refl
untouched_none id (x ∷ xs) one two = by_hits (eqb x.key.from id) (eqb x.key.to id) one two (untouched_none id xs)
  where
    by_hits : (a b : Bool) → cond a (x ∷ filter (leaves_from id) xs) (filter (leaves_from id) xs) ≡ [] → cond b (x ∷ filter (leads_to id) xs) (filter (leads_to id) xs) ≡ [] →
        (filter (leaves_from id) xs ≡ [] → filter (leads_to id) xs ≡ [] → list_any (touches_row id) xs ≡ false) → ((a || b) || list_any (touches_row id) xs) ≡ false
    by_hits true b here there IH = absurd (cc here)
    by_hits false true here there IH = absurd (cc there)
    by_hits false false here there IH = IH here there

job_is : (job : ℕ) (o : Option ℕ) → is_job job o ≡ true → o ≡ Some job
job_is job None is = absurd (false≢true is)
job_is job (Some other) is = ap (λ (n : ℕ). Some n) (eqb-true other job is)

owned_here : (s : State) (job id : ℕ) → owner s id ≡ Some job → is_owned_by s job id ≡ true
owned_here s job id own = ap (is_job job) own ∙ eq-eqb job job refl

or_left : (a b : Bool) → a ≡ true → (a || b) ≡ true
or_left true b is = refl
or_left false b is = absurd (false≢true is)

or_right : (a b : Bool) → b ≡ true → (a || b) ≡ true
or_right true b is = refl
or_right false b is = is

erasure_allowed : (s : State) (job id : ℕ) → owner s id ≡ Some job → (outs ins : List EdgeRow) → out_edges s.graph id ≡ outs → in_edges s.graph id ≡ ins →
    (is_step (cut_or_erase job id outs ins) ≡ true) × ((moment : ℕ) → is_allowed s moment (cut_or_erase job id outs ins) ≡ true)
erasure_allowed s job id own (row ∷ rest) ins out_is in_is =
    let first = first_kept (leaves_from id) s.graph.edges rest row out_is in (
      refl,
      λ moment.
          and_from (edge_stands s.graph (key_of row.key.edge row.key.from row.key.to)) _ (row_stands (leaves_from id) s.graph.edges row first.1)
          (or_left _ _ (subst (λ (n : ℕ). is_owned_by s job n ≡ true) (sym (eqb-true row.key.from id first.0)) (owned_here s job id own))),
    )
erasure_allowed s job id own [] (row ∷ rest) out_is in_is =
    let first = first_kept (leads_to id) s.graph.edges rest row in_is in (
      refl,
      λ moment.
          and_from (edge_stands s.graph (key_of row.key.edge row.key.from row.key.to)) _ (row_stands (leads_to id) s.graph.edges row first.1)
          (or_right _ _ (subst (λ (n : ℕ). is_owned_by s job n ≡ true) (sym (eqb-true row.key.to id first.0)) (owned_here s job id own))),
    )
erasure_allowed s job id own [] [] out_is in_is =
    (refl, λ moment. and_from (is_owned_by s job id) (not (is_touched s.graph id)) (owned_here s job id own) (ap not (untouched_none id s.graph.edges out_is in_is)))

pair_owner : (s : State) (job : ℕ) (pair : ℕ × Option ℕ) → OwnersRising s.owners → find (is_pair_of job) s.owners ≡ Some pair → owner s pair.0 ≡ Some job
pair_owner s job pair rises found =
    ap (option_and_then owner_of_pair) (own_pair (is_pair_of job) s.owners pair rises found) ∙ job_is job pair.1 (found_passes (is_pair_of job) s.owners pair found)

erasure_found : (s : State) → Ordered s → (what : What) → first_erasure s ≡ Some what → (is_step what ≡ true) × ((moment : ℕ) → is_allowed s moment what ≡ true)
erasure_found s ordered what found = by_row (find (owns_some s) s.jobs) found
  where
    by_pair : (job : ℕ) (o : Option (ℕ × Option ℕ)) → find (is_pair_of job) s.owners ≡ o → erasure_of_pair s job o ≡ Some what → (is_step what ≡ true) × ((moment : ℕ) → is_allowed s moment what ≡ true)
    by_pair job None at here = absurd (cc here)
    by_pair job (Some pair) at here =
        let same : cut_or_erase job pair.0 (out_edges s.graph pair.0) (in_edges s.graph pair.0) ≡ what = cc in
        let allowed = erasure_allowed s job pair.0 (pair_owner s job pair ordered.owners at) (out_edges s.graph pair.0) (in_edges s.graph pair.0) refl refl in
        (subst (λ (w : What). is_step w ≡ true) same allowed.0, λ moment. subst (λ (w : What). is_allowed s moment w ≡ true) same (allowed.1 moment))

    by_row : (o : Option JobRow) → erasure_of_job s o ≡ Some what → (is_step what ≡ true) × ((moment : ℕ) → is_allowed s moment what ≡ true)
    by_row None here = absurd (cc here)
    by_row (Some row) here = by_pair row.start (find (is_pair_of row.start) s.owners) refl here

-- 3. and 4.

expiry_found : (s : State) (moment : ℕ) → Ordered s → (what : What) → first_expiry s moment ≡ Some what → (is_step what ≡ true) × (is_allowed s moment what ≡ true)
expiry_found s moment ordered what found = by_row (find (expires s moment) s.graph.objects) refl found
  where
    by_row : (o : Option ObjectRow) → find (expires s moment) s.graph.objects ≡ o → expiry_of o ≡ Some what → (is_step what ≡ true) × (is_allowed s moment what ≡ true)
    by_row None at here = absurd (cc here)
    by_row (Some row) at here =
        let same : Expire row.id ≡ what = cc in
        let parts = and_parts (is_due_row moment (Some row)) (is_none (owner s row.id)) (found_passes (expires s moment) s.graph.objects row at) in
        let own : object_at s.graph row.id ≡ Some row = own_object (expires s moment) s.graph.objects row ordered.ids at in (
          subst (λ (w : What). is_step w ≡ true) same refl,
          subst (λ (w : What). is_allowed s moment w ≡ true) same
              (and_from (is_due_row moment (object_at s.graph row.id)) (is_none (owner s row.id)) (ap (is_due_row moment) own ∙ parts.0) parts.1),
        )

purge_found : (s : State) (moment : ℕ) → Ordered s → (what : What) → first_purge s moment ≡ Some what → (is_step what ≡ true) × (is_allowed s moment what ≡ true)
purge_found s moment ordered what found = by_row (find (purges s moment) s.jobs) refl found
  where
    by_row : (o : Option JobRow) → find (purges s moment) s.jobs ≡ o → purge_of o ≡ Some what → (is_step what ≡ true) × (is_allowed s moment what ≡ true)
    by_row None at here = absurd (cc here)
    by_row (Some row) at here =
        let same : Purge row.start ≡ what = cc in
        let own : job_row s.jobs row.start ≡ Some row = own_job s.len (purges s moment) s.jobs row ordered.starts at in (
          subst (λ (w : What). is_step w ≡ true) same refl,
          subst (λ (w : What). is_allowed s moment w ≡ true) same (ap (may_purge s moment) own ∙ found_passes (purges s moment) s.jobs row at),
        )

-- where there is no step

none_left : {A : Type 0} (a b : Option A) → option_or a b ≡ None → (a ≡ None) × (b ≡ None)
none_left None b none = (refl, none)
none_left (Some x) b none = absurd (cc none)

-- of restoring jobs one has no older one
oldest_exists : (s : State) (n : ℕ) (row : JobRow) (position : ℕ) → position < n → find (starts_at row.start) s.jobs ≡ Some row → row.restored ≡ Some position → is_restoring s row ≡ true →
    StartsRising s.len s.jobs → find (is_oldest_restoring s) s.jobs ≡ None → ⊥
oldest_exists s zero row position less at is restoring rises none = omega arith
oldest_exists s (suc n) row position less at is restoring rises none =
    by_all (list_all (λ other. not (is_restoring s other) || is_no_older row.restored other.restored) s.jobs) refl
    (λ other q lower here there restores. oldest_exists s n other q lower here there restores rises none)
  where
    not_oldest : is_oldest_restoring s row ≡ false
    not_oldest = none_passes (is_oldest_restoring s) (starts_at row.start) s.jobs row none at

    -- a job that fails the test is an older restoring one
    older : (xs : List JobRow) → list_all (λ other. not (is_restoring s other) || is_no_older row.restored other.restored) xs ≡ false →
        (other : JobRow) × (find (λ o. not (not (is_restoring s o) || is_no_older row.restored o.restored)) xs ≡ Some other)
    older [] all = absurd (false≢true (sym all))
    older (x ∷ xs) all = by_test (not (is_restoring s x) || is_no_older row.restored x.restored) all (older xs)
      where
        by_test : (b : Bool) → (b && list_all (λ other. not (is_restoring s other) || is_no_older row.restored other.restored) xs) ≡ false →
            (list_all (λ other. not (is_restoring s other) || is_no_older row.restored other.restored) xs ≡ false →
            (other : JobRow) × (find (λ o. not (not (is_restoring s o) || is_no_older row.restored o.restored)) xs ≡ Some other)) →
            (other : JobRow) × (cond (not b) (Some x) (find (λ o. not (not (is_restoring s o) || is_no_older row.restored o.restored)) xs) ≡ Some other)
        by_test true rest IH = IH rest
        by_test false rest IH = (x, refl)

    older_parts : (a b : Bool) → not (not a || b) ≡ true → (a ≡ true) × (b ≡ false)
    older_parts true true h = absurd (false≢true h)
    older_parts true false h = (refl, refl)
    older_parts false b h = absurd (false≢true h)

    position_of : (o : Option ℕ) → is_some o ≡ true → is_no_older (Some position) o ≡ false → (q : ℕ) × (o ≡ Some q) × (q < position)
    position_of None some later = absurd (false≢true some)
    position_of (Some q) some later = (q, refl, leb-less later)
      where
        leb-less : leb position q ≡ false → q < position
        leb-less h = leb-false position q h

    by_all : (b : Bool) → list_all (λ other. not (is_restoring s other) || is_no_older row.restored other.restored) s.jobs ≡ b →
        ((other : JobRow) (q : ℕ) → q < n → find (starts_at other.start) s.jobs ≡ Some other → other.restored ≡ Some q → is_restoring s other ≡ true → ⊥) → ⊥
    by_all true all again = contradicts (is_oldest_restoring s row) (and_from (is_restoring s row) _ restoring all) not_oldest
    by_all false all again =
        let found = older s.jobs all in
        let parts = older_parts (is_restoring s found.0) (is_no_older row.restored found.0.restored)
        (found_passes (λ o. not (not (is_restoring s o) || is_no_older row.restored o.restored)) s.jobs found.0 found.1) in
        let earlier = position_of found.0.restored (and_parts (is_some found.0.restored) _ parts.0).0 (subst (λ (o : Option ℕ). is_no_older o found.0.restored ≡ false) is parts.1) in
        let lower : earlier.0 < n = below earlier.0 earlier.2 in
        again found.0 earlier.0 lower (own_job s.len (λ o. not (not (is_restoring s o) || is_no_older row.restored o.restored)) s.jobs found.0 rises found.1) earlier.1 parts.0
      where
        below : (q : ℕ) → q < position → q < n
        below q h = omega arith

-- a place that passes is counted, and there is a last one
counted_place : (q : Logged → Bool) (xs : List Logged) (n : ℕ) → last_place q n xs ≡ None → count_by q xs ≡ 0
counted_place q [] n none = refl
counted_place q (x ∷ xs) n none =
    let both = none_left (last_place q (n + 1) xs) (cond (q x) (Some n) None) none in
    omega (arith, sum_by-cons (λ y. one_if (q y)) x xs, counted_place q xs (n + 1) both.0, fails (q x) both.1)
  where
    one_if : Bool → ℕ
    one_if b = cond b 1 0

    fails : (b : Bool) → cond b (Some n) None ≡ None → cond b 1 0 ≡ zero
    fails true here = absurd (cc here)
    fails false here = refl

open_counted : (q : Logged → Bool) (xs : List Logged) (i : ℕ) (l : Logged) → slice_get xs i ≡ Some l → q l ≡ true → 0 < count_by q xs
open_counted q [] i l at one = absurd (cc at)
open_counted q (x ∷ xs) zero l at one =
    let same : x ≡ l = cc in omega (arith, sum_by-cons (λ y. cond (q y) 1 0) x xs, counts (q x) (ap q same ∙ one))
  where
    counts : (b : Bool) → b ≡ true → cond b 1 0 ≡ suc zero
    counts true is = refl
    counts false is = absurd (false≢true is)
open_counted q (x ∷ xs) (suc i) l at one = omega (arith, sum_by-cons (λ y. cond (q y) 1 0) x xs, open_counted q xs i l at one)

restored_row : (o : Option JobRow) → is_restored_row o ≡ true → (row : JobRow) × (o ≡ Some row) × (is_some row.restored ≡ true)
restored_row None is = absurd (false≢true is)
restored_row (Some row) is = (row, refl, is)

some_number : (o : Option ℕ) → is_some o ≡ true → (n : ℕ) × (o ≡ Some n)
some_number None some = absurd (false≢true some)
some_number (Some n) some = (n, refl)

start_is : (xs : List JobRow) (j : ℕ) (row : JobRow) → find (starts_at j) xs ≡ Some row → row.start ≡ j
start_is xs j row found = eqb-true row.start j (found_passes (starts_at j) xs row found)

no_put : (s : State) (job i : ℕ) → Ordered s → first_put s ≡ None → may_put s job (slice_get s.items i) ≡ true → ⊥
no_put s job i ordered none line =
    let may = may_put_of s job i (slice_get s.items i) refl line in
    let found = restored_row (job_row s.jobs (job_of may.logged.item)) may.restored in
    let start : found.0.start ≡ job_of may.logged.item = start_is s.jobs (job_of may.logged.item) found.0 found.1 in
    let open_now : is_open_of found.0.start s.jobs may.logged ≡ true =
    and_from (eqb (job_of may.logged.item) found.0.start) (is_open s.jobs may.logged) (eq-eqb (job_of may.logged.item) found.0.start (sym start))
    (and_from (is_none may.logged.handled) (is_restored s.jobs (job_of may.logged.item)) may.waiting may.restored) in
    let some_left : 0 < left s found.0.start = open_counted (is_open_of found.0.start s.jobs) s.items i may.logged may.at open_now in
    let restoring : is_restoring s found.0 ≡ true = and_from (is_some found.0.restored) (ltb 0 (left s found.0.start)) found.2 (lt-ltb 0 (left s found.0.start) some_left) in
    let position = some_number found.0.restored found.2 in
    by_row (find (is_oldest_restoring s) s.jobs) refl none
    (λ nothing. oldest_exists s (suc position.0) found.0 position.0 (next position.0)
    (subst (λ (n : ℕ). find (starts_at n) s.jobs ≡ Some found.0) (sym start) found.1) position.1 restoring ordered.starts nothing)
  where
    next : (n : ℕ) → n < suc n
    next n = omega arith

    by_place : (row : JobRow) → is_restoring s row ≡ true → (o : Option ℕ) → last_place (is_open_of row.start s.jobs) 0 s.items ≡ o → put_of row.start o ≡ None → ⊥
    by_place row restoring None is here =
        let zero_left : left s row.start ≡ 0 = counted_place (is_open_of row.start s.jobs) s.items 0 is in
        let some_left : 0 < left s row.start = ltb-true 0 (left s row.start) (and_parts (is_some row.restored) (ltb 0 (left s row.start)) restoring).1 in
        omega arith
    by_place row restoring (Some k) is here = cc here

    by_row : (o : Option JobRow) → find (is_oldest_restoring s) s.jobs ≡ o → put_of_job s o ≡ None → (find (is_oldest_restoring s) s.jobs ≡ None → ⊥) → ⊥
    by_row None at here impossible = impossible at
    by_row (Some row) at here impossible =
        by_place row (and_parts (is_restoring s row) _ (found_passes (is_oldest_restoring s) s.jobs row at)).0 (last_place (is_open_of row.start s.jobs) 0 s.items) refl here

some_row : (o : Option JobRow) → is_some o ≡ true → (row : JobRow) × (o ≡ Some row)
some_row None some = absurd (false≢true some)
some_row (Some row) some = (row, refl)

pair_counted : (job : ℕ) (xs : Owners) → find (is_pair_of job) xs ≡ None → count_by (is_pair_of job) xs ≡ 0
pair_counted job [] none = refl
pair_counted job (x ∷ xs) none = by_hit (is_pair_of job x) refl none (pair_counted job xs)
  where
    by_hit : (b : Bool) → is_pair_of job x ≡ b → cond b (Some x) (find (is_pair_of job) xs) ≡ None → (find (is_pair_of job) xs ≡ None → count_by (is_pair_of job) xs ≡ 0) → count_by (is_pair_of job) (x ∷ xs) ≡ 0
    by_hit true is here IH = absurd (cc here)
    by_hit false is here IH = omega (arith, sum_by-cons (λ y. cond (is_pair_of job y) 1 0) x xs, IH here, counts (is_pair_of job x) is)
      where
        counts : (b : Bool) → b ≡ false → cond b 1 0 ≡ zero
        counts true at = absurd (false≢true (sym at))
        counts false at = refl

no_owner : (s : State) (id job : ℕ) → Ordered s → first_erasure s ≡ None → owner s id ≡ Some job → ⊥
no_owner s id job ordered none own =
    let found = some_row (job_row s.jobs job) (ordered.have_jobs id job own) in
    let start : found.0.start ≡ job = start_is s.jobs job found.0 found.1 in
    let positive : 0 < owned s job = owned_positive s id job own in
    let owns : owns_some s found.0 ≡ true = subst (λ (n : ℕ). ltb 0 (owned s n) ≡ true) (sym start) (lt-ltb 0 (owned s job) positive) in
    by_row (find (owns_some s) s.jobs) refl none (λ nothing. contradicts (owns_some s found.0) owns (none_passes (owns_some s) (starts_at job) s.jobs found.0 nothing found.1))
  where
    by_pair : (j : ℕ) (o : Option (ℕ × Option ℕ)) → find (is_pair_of j) s.owners ≡ o → 0 < owned s j → erasure_of_pair s j o ≡ None → ⊥
    by_pair j None at positive here = let zero_owned : owned s j ≡ 0 = pair_counted j s.owners at in omega arith
    by_pair j (Some pair) at positive here = cc here

    by_row : (o : Option JobRow) → find (owns_some s) s.jobs ≡ o → erasure_of_job s o ≡ None → (find (owns_some s) s.jobs ≡ None → ⊥) → ⊥
    by_row None at here impossible = impossible at
    by_row (Some row) at here impossible =
        by_pair row.start (find (is_pair_of row.start) s.owners) refl (ltb-true 0 (owned s row.start) (found_passes (owns_some s) s.jobs row at)) here

none_expiry : (o : Option ObjectRow) → expiry_of o ≡ None → o ≡ None
none_expiry None is = refl
none_expiry (Some row) is = absurd (cc is)

none_purge : (o : Option JobRow) → purge_of o ≡ None → o ≡ None
none_purge None is = refl
none_purge (Some row) is = absurd (cc is)

no_expiry : (s : State) (moment id : ℕ) → first_expiry s moment ≡ None → may_expire s moment id ≡ true → ⊥
no_expiry s moment id none line = by_row (object_at s.graph id) refl (and_parts (is_due_row moment (object_at s.graph id)) (is_none (owner s id)) line)
  where
    by_row : (o : Option ObjectRow) → object_at s.graph id ≡ o → (is_due_row moment o ≡ true) × (is_none (owner s id) ≡ true) → ⊥
    by_row None at parts = false≢true parts.0
    by_row (Some row) at parts =
        contradicts (expires s moment row)
        (and_from (is_due_row moment (Some row)) (is_none (owner s row.id)) parts.0 (subst (λ (n : ℕ). is_none (owner s n) ≡ true) (sym (found_id s.graph.objects id row at)) parts.1))
        (none_passes (expires s moment) (has_id id) s.graph.objects row (none_expiry (find (expires s moment) s.graph.objects) none) at)

no_purge : (s : State) (moment job : ℕ) → first_purge s moment ≡ None → may_purge s moment (job_row s.jobs job) ≡ true → ⊥
no_purge s moment job none line = by_row (job_row s.jobs job) refl line
  where
    by_row : (o : Option JobRow) → job_row s.jobs job ≡ o → may_purge s moment o ≡ true → ⊥
    by_row None at may = false≢true may
    by_row (Some row) at may =
        contradicts (purges s moment row) may (none_passes (purges s moment) (starts_at job) s.jobs row (none_purge (find (purges s moment) s.jobs) none) at)

refuted : (b : Bool) → (b ≡ true → ⊥) → b ≡ false
refuted true no_way = absurd (no_way refl)
refuted false no_way = refl

-- nothing is legal where there is no first step
none_allowed : (s : State) (moment : ℕ) (what : What) → Ordered s → first_in_order s moment ≡ None → is_step what ≡ true → is_allowed s moment what ≡ true → ⊥
none_allowed s moment what ordered none step line =
    let puts = none_left (first_put s) _ none in
    let erasures = none_left (first_erasure s) _ puts.1 in
    let rest = none_left (first_expiry s moment) (first_purge s moment) erasures.1 in
    by_what what step line puts.0 erasures.0 rest.0 rest.1
  where
    by_what : (w : What) → is_step w ≡ true → is_allowed s moment w ≡ true → first_put s ≡ None → first_erasure s ≡ None → first_expiry s moment ≡ None → first_purge s moment ≡ None → ⊥
    by_what (Create tag kind id size) step line a b c d = false≢true step
    by_what (Update tag id size) step line a b c d = false≢true step
    by_what (Link tag edge from to size) step line a b c d = false≢true step
    by_what (Unlink tag edge from to name) step line a b c d = false≢true step
    by_what (Delete tag id name) step line a b c d = false≢true step
    by_what (Restore tag job) step line a b c d = false≢true step
    by_what (Expire id) step line a b c d = no_expiry s moment id c line
    by_what (Cut job edge from to) step line a b c d =
        elim (or_cases (is_owned_by s job from) (is_owned_by s job to) (and_parts (edge_stands s.graph (key_of edge from to)) (is_owned_by s job from || is_owned_by s job to) line).1) [
          | inl own ↦ no_owner s from job ordered b (owner_is s job from own)
          | inr own ↦ no_owner s to job ordered b (owner_is s job to own)
        ]
    by_what (Erase job id) step line a b c d = no_owner s id job ordered b (owner_is s job id (and_parts (is_owned_by s job id) _ line).0)
    by_what (Put job i) step line a b c d = no_put s job i ordered a line
    by_what (Purge job) step line a b c d = no_purge s moment job d line

come_of : (s : State) (moment : ℕ) (what : What) → is_legal_step s moment what ≡ true → may_come s moment ≡ true
come_of s moment what is =
    may_come_of s (record { moment = moment; what = what })
    (and_parts (is_step what) (is_legal s (record { moment = moment; what = what })) is).1

allowed_part : (s : State) (moment : ℕ) (what : What) → is_legal_step s moment what ≡ true → (is_step what ≡ true) × (is_allowed s moment what ≡ true)
allowed_part s moment what is =
    let parts = and_parts (is_step what) (is_legal s (record { moment = moment; what = what })) is in
    (parts.0, (and_parts _ (is_allowed s moment what) parts.1).1)

first_cases : {A : Type 0} (a b : Option A) (x : A) → option_or a b ≡ Some x → (a ≡ Some x) ⊎ (b ≡ Some x)
first_cases None b x is = inr is
first_cases (Some y) b x is = inl is

first_allowed : (s : State) (moment : ℕ) → Ordered s → (what : What) → first_in_order s moment ≡ Some what → (is_step what ≡ true) × (is_allowed s moment what ≡ true)
first_allowed s moment ordered what found =
    elim (first_cases (first_put s) _ what found) [
      | inl put ↦ (let both = put_found s ordered what put in (both.0, both.1 moment))
      | inr later ↦
          elim (first_cases (first_erasure s) _ what later) [
            | inl erasure ↦ (let both = erasure_found s ordered what erasure in (both.0, both.1 moment))
            | inr rest ↦
                elim (first_cases (first_expiry s moment) (first_purge s moment) what rest) [
                  | inl expiry ↦ expiry_found s moment ordered what expiry
                  | inr purge ↦ purge_found s moment ordered what purge
                ]
          ]
    ]

pub first_is_legal : (rules : RuleSet) (h : List Entry) (moment : ℕ) → Legal rules h → FirstIsLegal (after rules h) moment
first_is_legal rules h moment legal = record {
  legal = λ what found.
      let come = first_in (after rules h) moment what found in
      let time = may_come_parts (after rules h) moment come.0 in
      let both = first_allowed (after rules h) moment (ordered_after rules h legal) what come.1 in
      step_parts (after rules h) moment what time.0 time.1 both.0 both.1;
  none = λ none what.
      refuted (is_legal_step (after rules h) moment what)
      (λ is.
      let both = allowed_part (after rules h) moment what is in
      none_allowed (after rules h) moment what (ordered_after rules h legal)
      (none_in (after rules h) moment none (come_of (after rules h) moment what is)) both.0 both.1);
}
