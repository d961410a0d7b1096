-- Where an object with a birth is: in the graph, or in one item that is not handled. It is never in two places, so no
-- job logs it twice.
use Rattle.std.proofs.Common.{◌≡◌, ℕ, zero, suc, ◌+◌, ◌≤◌, ◌<◌, Bool, true, false, cond, ◌&&◌, eqb, List, [], ◌∷◌, ◌++◌, Option, Some, None, refl, sym, ap, ◌∙◌, subst, arith}
use Rattle.std.proofs.lemmas.Bool.{and_parts, and_from, eqb-true, false≢true}
use Rattle.std.proofs.lemmas.List.Sums.{sum_by-cons, sum_by-append}
use Rattle.std.specs.Prelude.{filter, sum_by, count_by, is_some, is_none, slice_get}
use Rattle.std.specs.Option.{option_map}
use Rattle.delf_model.specs.declared.rows.ObjectRow.{ObjectRow}
use Rattle.delf_model.specs.declared.rows.EdgeRow.{EdgeRow}
use Rattle.delf_model.specs.declared.rows.Item.{Item}
use Rattle.delf_model.specs.declared.rows.Item.TheVariants as item
use Rattle.delf_model.specs.declared.call.Cause.{Cause}
use Rattle.delf_model.specs.declared.entry.Entry.{Entry}
use Rattle.delf_model.specs.declared.entry.What.{What}
use Rattle.delf_model.specs.declared.entry.What.TheVariants.{Create, Update, Link, Unlink, Delete, Restore, Expire, Cut, Erase, Put, Purge}
use Rattle.delf_model.specs.Graph.{Graph, has_id, object_at, edge_at, rewritten, is_other_object, changed}
use Rattle.delf_model.specs.State.{State, Logged, Handled, JobRow, job_row, is_restored, is_restored_row, is_open, job_of, is_owned_by}
use Rattle.delf_model.specs.Step.{step, jobs_after, items_after, edge_item, object_item, handled_at, outcome, unhandled, put_change, put_unless, birth_of, row_restored_at, new_object}
use Rattle.delf_model.specs.Owners.{key_of}
use Rattle.delf_model.specs.Puts.{judged}
use Rattle.delf_model.specs.Legal.{is_legal, is_allowed, may_put, ends_handled, is_end_item}
use Rattle.delf_model.specs.Sound.{is_erasure_of, erasures}
use Rattle.delf_model.proofs.Lines.{allowed_of}
use Rattle.delf_model.proofs.Leaves.{owner_is}
use Rattle.delf_model.proofs.Jobs.{Idle, restored_same, is_restore_of, job_row-restored}
use Rattle.delf_model.proofs.Sums.{sum_put_object, sum_filter, sum_without, sum_no_more, sum_map, sum_handled, count_found}

abbrev pub one_if : Bool → ℕ
one_if b = cond b 1 0

abbrev pub has_birth : ℕ → ObjectRow → Bool
has_birth birth row = eqb row.birth birth

abbrev pub is_object_born : ℕ → Item → Bool
is_object_born birth (item.Object job row) = eqb row.birth birth
is_object_born birth (item.Edge job row from_birth to_birth) = false

-- an item that waits: an object with this birth that is not handled
abbrev pub waits : ℕ → Logged → Bool
waits birth logged = is_none logged.handled && is_object_born birth logged.item

-- in how many places an object with this birth is
abbrev pub places : State → ℕ → ℕ
places s birth = count_by (has_birth birth) s.graph.objects + count_by (waits birth) s.items

apart_from : (a b c d n : ℕ) → a ≤ n + b → c ≤ d → a + c ≤ b + d + n
apart_from a b c d n one two = omega arith

even : (a b c d n : ℕ) → a ≤ b → c ≤ d → a + c ≤ b + d + n
even a b c d n one two = omega arith

traded : (a b c d n k : ℕ) → k + a ≤ b → c ≤ d + k → a + c ≤ b + d + n
traded a b c d n k one two = omega arith

returned : (a b c d n k : ℕ) → a ≤ k + b → c + k ≤ d → a + c ≤ b + d + n
returned a b c d n k one two = omega arith

no_more : (n : ℕ) → n ≤ n
no_more n = omega arith

rewritten_birth : (target at size birth : ℕ) (row : ObjectRow) → one_if (has_birth birth (rewritten target at size row)) ≤ one_if (has_birth birth row)
rewritten_birth target at size birth row = by_hit (eqb row.id target)
  where
    by_hit : (b : Bool) → one_if (has_birth birth (cond b (record row { at = at; size = size }) row)) ≤ one_if (has_birth birth row)
    by_hit true = omega arith
    by_hit false = omega arith

edge_waits : (g : Graph) (job birth : ℕ) (o : Option EdgeRow) → count_by (waits birth) (edge_item g job o) ≤ 0
edge_waits g job birth None = omega arith
edge_waits g job birth (Some row) =
    omega (arith, sum_by-cons (λ l. one_if (waits birth l)) (unhandled (item.Edge job row (birth_of g row.key.from) (birth_of g row.key.to))) [])

erase_places : (s : State) (job gone birth n : ℕ) (o : Option ObjectRow) → object_at s.graph gone ≡ o →
    count_by (has_birth birth) (filter (is_other_object gone) s.graph.objects) + count_by (waits birth) (s.items ++ object_item job o) ≤ places s birth + n
erase_places s job gone birth n None at =
    even _ _ _ _ n (sum_filter (λ r. one_if (has_birth birth r)) (is_other_object gone) s.graph.objects) (omega (arith, sum_by-append (λ l. one_if (waits birth l)) s.items []))
erase_places s job gone birth n (Some row) at =
    traded _ _ _ _ n (one_if (has_birth birth row)) (sum_without (λ r. one_if (has_birth birth r)) (has_id gone) row s.graph.objects at)
    (omega (
      arith,
      sum_by-append (λ l. one_if (waits birth l)) s.items (unhandled (item.Object job row) ∷ []),
      sum_by-cons (λ l. one_if (waits birth l)) (unhandled (item.Object job row)) [],
    ))

-- what a put adds to the graph it takes from the items
put_places_item : (s : State) (birth : ℕ) (it : Item) (o : Option Cause) →
    count_by (has_birth birth) (changed s.graph (put_unless o it)).objects ≤ one_if (is_object_born birth it) + count_by (has_birth birth) s.graph.objects
put_places_item s birth it (Some c) = omega arith
put_places_item s birth (item.Object job row) None = sum_put_object (λ r. one_if (has_birth birth r)) row s.graph.objects
put_places_item s birth (item.Edge job row from_birth to_birth) None = omega arith

open_parts : (s : State) (job : ℕ) (logged : Logged) → may_put s job (Some logged) ≡ true → (job_of logged.item ≡ job) × (is_none logged.handled ≡ true) × (is_restored s.jobs (job_of logged.item) ≡ true)
open_parts s job logged may =
    let front = and_parts (eqb (job_of logged.item) job && is_open s.jobs logged) (ends_handled s.items logged.item) may in
    let both = and_parts (eqb (job_of logged.item) job) (is_open s.jobs logged) front.0 in
    let opened = and_parts (is_none logged.handled) (is_restored s.jobs (job_of logged.item)) both.1 in
    (eqb-true (job_of logged.item) job both.0, opened.0, opened.1)

-- the facts of a legal put
pub record MayPut (s : State) (job i : ℕ) : Type 0 where
  pub logged : Logged
  pub at : slice_get s.items i ≡ Some logged
  pub of_job : job_of logged.item ≡ job
  pub waiting : is_none logged.handled ≡ true
  pub restored : is_restored s.jobs (job_of logged.item) ≡ true
  pub ends : ends_handled s.items logged.item ≡ true

pub may_put_of : (s : State) (job i : ℕ) (o : Option Logged) → slice_get s.items i ≡ o → may_put s job o ≡ true → MayPut s job i
may_put_of s job i None at may = absurd (false≢true may)
may_put_of s job i (Some logged) at may =
    let parts = open_parts s job logged may in
    record {
      logged = logged;
      at = at;
      of_job = parts.0;
      waiting = parts.1;
      restored = parts.2;
      ends = (and_parts (eqb (job_of logged.item) job && is_open s.jobs logged) (ends_handled s.items logged.item) may).1;
    }

put_places : (s : State) (moment job i birth n : ℕ) → MayPut s job i → places (step s (record { moment = moment; what = Put job i })) birth ≤ places s birth + n
put_places s moment job i birth n may =
    returned _ _ _ _ n (one_if (is_object_born birth may.logged.item))
    (subst (λ (o : Option Logged). count_by (has_birth birth) (changed s.graph (put_change s o)).objects ≤ one_if (is_object_born birth may.logged.item) + count_by (has_birth birth) s.graph.objects)
    (sym may.at) (put_places_item s birth may.logged.item (judged s may.logged.item)))
    (taken_off _ _ _ _ (sum_handled (λ l. one_if (waits birth l)) s.items i (outcome s (slice_get s.items i)) may.logged may.at)
    (waits_open (is_none may.logged.handled) (is_object_born birth may.logged.item) may.waiting))
  where
    taken_off : (d' f d k : ℕ) → d' + f ≡ d + 0 → k ≤ f → d' + k ≤ d
    taken_off d' f d k one two = omega arith

    waits_open : (a b : Bool) → a ≡ true → one_if b ≤ one_if (a && b)
    waits_open true b is = omega arith
    waits_open false b is = absurd (false≢true is)

pub places_step : (s : State) (moment : ℕ) (what : What) → is_allowed s moment what ≡ true → (birth : ℕ) →
    places (step s (record { moment = moment; what = what })) birth ≤ places s birth + one_if (eqb s.len birth)
places_step s moment (Create tag kind new size) line birth =
    apart_from _ _ _ _ (one_if (eqb s.len birth)) (sum_put_object (λ r. one_if (has_birth birth r)) (new_object s moment kind new size) s.graph.objects) (no_more _)
places_step s moment (Update tag target size) line birth =
    even _ _ _ _ (one_if (eqb s.len birth))
    (omega (
      arith,
      sum_map (λ r. one_if (has_birth birth r)) (rewritten target s.len size) s.graph.objects,
      sum_no_more (λ r. one_if (has_birth birth (rewritten target s.len size r))) (λ r. one_if (has_birth birth r)) s.graph.objects (rewritten_birth target s.len size birth),
    ))
    (no_more _)
places_step s moment (Link tag edge from to size) line birth = omega arith
places_step s moment (Unlink tag edge from to name) line birth = omega arith
places_step s moment (Delete tag root name) line birth = omega arith
places_step s moment (Restore tag job) line birth = omega arith
places_step s moment (Expire root) line birth = omega arith
places_step s moment (Cut job edge from to) line birth =
    even _ _ _ _ (one_if (eqb s.len birth)) (no_more _)
    (omega (
      arith,
      sum_by-append (λ l. one_if (waits birth l)) s.items (edge_item s.graph job (edge_at s.graph (key_of edge from to))),
      edge_waits s.graph job birth (edge_at s.graph (key_of edge from to)),
    ))
places_step s moment (Erase job gone) line birth = erase_places s job gone birth (one_if (eqb s.len birth)) (object_at s.graph gone) refl
places_step s moment (Put job i) line birth = put_places s moment job i birth (one_if (eqb s.len birth)) (may_put_of s job i (slice_get s.items i) refl line)
places_step s moment (Purge job) line birth = omega arith

abbrev pub Fresh : State → Type 0
Fresh s = (birth : ℕ) → s.len ≤ birth → places s birth ≤ 0

abbrev pub OnePlace : State → Type 0
OnePlace s = (birth : ℕ) → places s birth ≤ 1

pub fresh_step : (s : State) (e : Entry) → is_legal s e ≡ true → Fresh s → Fresh (step s e)
fresh_step s e legal fresh birth later =
    by_here (eqb s.len birth) refl (places_step s e.moment e.what (allowed_of s e legal) birth)
  where
    by_here : (b : Bool) → eqb s.len birth ≡ b → places (step s e) birth ≤ places s birth + one_if b → places (step s e) birth ≤ 0
    by_here true is less = absurd (let same : s.len ≡ birth = eqb-true s.len birth is in omega arith)
    by_here false is less = let none : places s birth ≤ 0 = fresh birth (omega arith) in omega arith

pub one_place_step : (s : State) (e : Entry) → is_legal s e ≡ true → Fresh s → OnePlace s → OnePlace (step s e)
one_place_step s e legal fresh one birth =
    by_here (eqb s.len birth) refl (places_step s e.moment e.what (allowed_of s e legal) birth)
  where
    by_here : (b : Bool) → eqb s.len birth ≡ b → places (step s e) birth ≤ places s birth + one_if b → places (step s e) birth ≤ 1
    by_here true is less =
        let same : s.len ≡ birth = eqb-true s.len birth is in
        let none : places s birth ≤ 0 = fresh birth (omega arith) in omega arith
    by_here false is less = let here : places s birth ≤ 1 = one birth in omega arith

-- a fact of each item

abbrev pub EachItem : (Logged → Type 0) → List Logged → Type 0
EachItem P [] = Unit {0}
EachItem P (x ∷ xs) = P x × EachItem P xs

pub each_append : (P : Logged → Type 0) (xs ys : List Logged) → EachItem P xs → EachItem P ys → EachItem P (xs ++ ys)
each_append P [] ys one two = two
each_append P (x ∷ xs) ys one two = (one.0, each_append P xs ys one.1 two)

pub each_weaken : (P Q : Logged → Type 0) (xs : List Logged) → ((x : Logged) → P x → Q x) → EachItem P xs → EachItem Q xs
each_weaken P Q [] more each = tt
each_weaken P Q (x ∷ xs) more each = (more x each.0, each_weaken P Q xs more each.1)

pub each_handled : (P : Logged → Type 0) (xs : List Logged) (i : ℕ) (how : Handled) (logged : Logged) → slice_get xs i ≡ Some logged →
    P (record { item = logged.item; handled = Some how }) → EachItem P xs → EachItem P (handled_at xs i how)
each_handled P [] i how logged at new each = tt
each_handled P (x ∷ xs) zero how logged at new each =
    let same : logged ≡ x = cc in (subst (λ (l : Logged). P (record { item = l.item; handled = Some how })) same new, each.1)
each_handled P (x ∷ xs) (suc i) how logged at new each = (each.0, each_handled P xs i how logged at new each.1)

pub each_at : (P : Logged → Type 0) (xs : List Logged) (i : ℕ) (logged : Logged) → EachItem P xs → slice_get xs i ≡ Some logged → P logged
each_at P [] i logged each at = absurd (cc at)
each_at P (x ∷ xs) zero logged each at = let same : x ≡ logged = cc in subst P same each.0
each_at P (x ∷ xs) (suc i) logged each at = each_at P xs i logged each.1 at

-- handled items are of restored jobs

abbrev pub HandledOf : List JobRow → Logged → Type 0
HandledOf jobs logged = is_some logged.handled ≡ true → is_restored jobs (job_of logged.item) ≡ true

restore_stays : (s : State) (moment : ℕ) (what : What) (job : ℕ) → is_restored s.jobs job ≡ true → is_restored (jobs_after s moment what) job ≡ true
restore_stays s moment what job was = by_kind (is_restore_of job what) refl
  where
    by_kind : (b : Bool) → is_restore_of job what ≡ b → is_restored (jobs_after s moment what) job ≡ true
    by_kind true is = again what is
      where
        stays_row : (which : ℕ) (o : Option JobRow) → is_restored_row o ≡ true → is_restored_row (option_map (row_restored_at which s.len) o) ≡ true
        stays_row which None restored = absurd (false≢true restored)
        stays_row which (Some row) restored = by_hit (eqb row.start which)
          where
            by_hit : (b : Bool) → is_restored_row (Some (cond b (record row { restored = Some s.len }) row)) ≡ true
            by_hit true = refl
            by_hit false = restored

        again : (w : What) → is_restore_of job w ≡ true → is_restored (jobs_after s moment w) job ≡ true
        again (Create tag kind id size) r = absurd (false≢true r)
        again (Update tag id size) r = absurd (false≢true r)
        again (Link tag edge from to size) r = absurd (false≢true r)
        again (Unlink tag edge from to name) r = absurd (false≢true r)
        again (Delete tag id name) r = absurd (false≢true r)
        again (Restore tag which) r = ap is_restored_row (job_row-restored s.jobs which s.len job) ∙ stays_row which (job_row s.jobs job) was
        again (Expire id) r = absurd (false≢true r)
        again (Cut which edge from to) r = absurd (false≢true r)
        again (Erase which id) r = absurd (false≢true r)
        again (Put which i) r = absurd (false≢true r)
        again (Purge which) r = absurd (false≢true r)
    by_kind false is = restored_same s moment what job is ∙ was

abbrev pub HandledRestored : State → Type 0
HandledRestored s = EachItem (HandledOf s.jobs) s.items

unhandled_edge : (P : Logged → Type 0) (g : Graph) (job : ℕ) (o : Option EdgeRow) → ((it : Item) → P (unhandled it)) → EachItem P (edge_item g job o)
unhandled_edge P g job None new = tt
unhandled_edge P g job (Some row) new = (new (item.Edge job row (birth_of g row.key.from) (birth_of g row.key.to)), tt)

unhandled_object : (P : Logged → Type 0) (job : ℕ) (o : Option ObjectRow) → ((it : Item) → P (unhandled it)) → EachItem P (object_item job o)
unhandled_object P job None new = tt
unhandled_object P job (Some row) new = (new (item.Object job row), tt)

pub handled_step : (s : State) (moment : ℕ) (what : What) → is_allowed s moment what ≡ true → HandledRestored s → EachItem (HandledOf (jobs_after s moment what)) (items_after s what)
handled_step s moment what line each = by_what what line (each_weaken (HandledOf s.jobs) (HandledOf (jobs_after s moment what)) s.items
    (λ logged was handled. restore_stays s moment what (job_of logged.item) (was handled)) each)
  where
    none_handled : (jobs : List JobRow) (it : Item) → HandledOf jobs (unhandled it)
    none_handled jobs it handled = absurd (false≢true handled)

    by_what : (w : What) → is_allowed s moment w ≡ true → EachItem (HandledOf (jobs_after s moment w)) s.items → EachItem (HandledOf (jobs_after s moment w)) (items_after s w)
    by_what (Create tag kind id size) line old = old
    by_what (Update tag id size) line old = old
    by_what (Link tag edge from to size) line old = old
    by_what (Unlink tag edge from to name) line old = old
    by_what (Delete tag id name) line old = old
    by_what (Restore tag which) line old = old
    by_what (Expire id) line old = old
    by_what (Cut which edge from to) line old =
        each_append _ s.items _ old (unhandled_edge (HandledOf (jobs_after s moment (Cut which edge from to))) s.graph which (edge_at s.graph (key_of edge from to)) (none_handled _))
    by_what (Erase which id) line old =
        each_append _ s.items _ old (unhandled_object (HandledOf (jobs_after s moment (Erase which id))) which (object_at s.graph id) (none_handled _))
    by_what (Put which i) line old =
        let may = may_put_of s which i (slice_get s.items i) refl line in
        each_handled (HandledOf s.jobs) s.items i (outcome s (slice_get s.items i)) may.logged may.at (λ handled. may.restored) old
    by_what (Purge which) line old = old

-- no job logs an object with a birth twice

sum_each : (f g : Logged → ℕ) (xs : List Logged) → EachItem (λ x. f x ≤ g x) xs → sum_by f xs ≤ sum_by g xs
sum_each f g [] each = omega arith
sum_each f g (x ∷ xs) each = let here : f x ≤ g x = each.0 in omega (arith, sum_by-cons f x xs, sum_by-cons g x xs, sum_each f g xs each.1)

abbrev pub Once : State → Type 0
Once s = (job id birth : ℕ) → erasures s job id birth ≤ 1

erased_born : (job id birth : ℕ) (it : Item) → is_end_item job id birth it ≡ true → (job_of it ≡ job) × (is_object_born birth it ≡ true)
erased_born job id birth (item.Object other row) is =
    let all = and_parts (eqb other job && eqb row.id id) (eqb row.birth birth) is in
    (eqb-true other job (and_parts (eqb other job) (eqb row.id id) all.0).0, all.1)
erased_born job id birth (item.Edge other row from_birth to_birth) is = absurd (false≢true is)

-- what a job that is not restored has erased waits
erased_waits : (s : State) (job id birth : ℕ) → is_restored s.jobs job ≡ false → HandledRestored s → erasures s job id birth ≤ count_by (waits birth) s.items
erased_waits s job id birth none each =
    sum_each (λ l. one_if (is_erasure_of job id birth l)) (λ l. one_if (waits birth l)) s.items
    (each_weaken (HandledOf s.jobs) (λ l. one_if (is_erasure_of job id birth l) ≤ one_if (waits birth l)) s.items one each)
  where
    one : (l : Logged) → HandledOf s.jobs l → one_if (is_erasure_of job id birth l) ≤ one_if (waits birth l)
    one l handled = by_erased (is_erasure_of job id birth l) refl
      where
        by_handled : (h : Option Handled) → (is_some h ≡ true → is_restored s.jobs (job_of l.item) ≡ true) → is_restored s.jobs (job_of l.item) ≡ false → is_none h ≡ true
        by_handled None was not_now = refl
        by_handled (Some how) was not_now = absurd (false≢true (sym not_now ∙ was refl))

        by_erased : (b : Bool) → is_erasure_of job id birth l ≡ b → one_if b ≤ one_if (waits birth l)
        by_erased false is = omega arith
        by_erased true is =
            let parts = erased_born job id birth l.item is in
            at_least (waits birth l)
            (and_from (is_none l.handled) (is_object_born birth l.item)
            (by_handled l.handled handled (subst (λ (j : ℕ). is_restored s.jobs j ≡ false) (sym parts.0) none)) parts.1)
          where
            at_least : (b : Bool) → b ≡ true → one_if true ≤ one_if b
            at_least true is = omega arith
            at_least false is = absurd (false≢true is)

same_erasures : (s : State) (job id birth : ℕ) (more : List Logged) → count_by (is_erasure_of job id birth) more ≤ 0 → erasures s job id birth ≤ 1 →
    count_by (is_erasure_of job id birth) (s.items ++ more) ≤ 1
same_erasures s job id birth more none once = omega (arith, sum_by-append (λ l. one_if (is_erasure_of job id birth l)) s.items more)

edge_erasures : (g : Graph) (which job id birth : ℕ) (o : Option EdgeRow) → count_by (is_erasure_of job id birth) (edge_item g which o) ≤ 0
edge_erasures g which job id birth None = omega arith
edge_erasures g which job id birth (Some row) =
    omega (arith, sum_by-cons (λ l. one_if (is_erasure_of job id birth l)) (unhandled (item.Edge which row (birth_of g row.key.from) (birth_of g row.key.to))) [])

-- an object that its owner erases was not erased by it before
erase_once : (s : State) (which gone job id birth : ℕ) → is_owned_by s which gone ≡ true → Idle s → HandledRestored s → OnePlace s → Once s →
    (o : Option ObjectRow) → object_at s.graph gone ≡ o → count_by (is_erasure_of job id birth) (s.items ++ object_item which o) ≤ 1
erase_once s which gone job id birth own idle handled one once None at =
    omega (arith, sum_by-append (λ l. one_if (is_erasure_of job id birth l)) s.items [], once job id birth)
erase_once s which gone job id birth own idle handled one once (Some row) at = by_same (is_end_item job id birth (item.Object which row)) refl
  where
    push : count_by (is_erasure_of job id birth) (s.items ++ unhandled (item.Object which row) ∷ []) ≡ erasures s job id birth + one_if (is_end_item job id birth (item.Object which row))
    push =
        omega (
          arith,
          sum_by-append (λ l. one_if (is_erasure_of job id birth l)) s.items (unhandled (item.Object which row) ∷ []),
          sum_by-cons (λ l. one_if (is_erasure_of job id birth l)) (unhandled (item.Object which row)) [],
        )

    idle_now : is_restored s.jobs which ≡ false
    idle_now = by_case (is_restored s.jobs which) refl
      where
        by_case : (b : Bool) → is_restored s.jobs which ≡ b → b ≡ false
        by_case true is = absurd (idle which gone is (owner_is s which gone own))
        by_case false is = refl

    total : (a b c n : ℕ) → a ≡ b + n → b + n ≤ 1 → a ≤ 1
    total a b c n one two = omega arith

    by_same : (b : Bool) → is_end_item job id birth (item.Object which row) ≡ b → count_by (is_erasure_of job id birth) (s.items ++ unhandled (item.Object which row) ∷ []) ≤ 1
    by_same false is =
        let here : erasures s job id birth ≤ 1 = once job id birth in
        total _ (erasures s job id birth) 0 (one_if (is_end_item job id birth (item.Object which row))) push (let none : one_if (is_end_item job id birth (item.Object which row)) ≡ 0 = ap one_if is in omega arith)
    by_same true is =
        let parts = erased_born job id birth (item.Object which row) is in
        let none : is_restored s.jobs job ≡ false = subst (λ (j : ℕ). is_restored s.jobs j ≡ false) parts.0 idle_now in
        let wait : erasures s job id birth ≤ count_by (waits birth) s.items = erased_waits s job id birth none handled in
        let stood : 0 < count_by (has_birth birth) s.graph.objects = count_found (has_id gone) (has_birth birth) row s.graph.objects at parts.1 in
        let places_one : places s birth ≤ 1 = one birth in
        total _ (erasures s job id birth) 0 (one_if (is_end_item job id birth (item.Object which row))) push (let is_one : one_if (is_end_item job id birth (item.Object which row)) ≡ 1 = ap one_if is in omega arith)

pub handled_erasures : (s : State) (i job id birth : ℕ) (how : Handled) (logged : Logged) → slice_get s.items i ≡ Some logged →
    count_by (is_erasure_of job id birth) (handled_at s.items i how) ≡ erasures s job id birth
handled_erasures s i job id birth how logged at = cancel _ _ _ (sum_handled (λ l. one_if (is_erasure_of job id birth l)) s.items i how logged at)
  where
    cancel : (a b c : ℕ) → a + c ≡ b + c → a ≡ b
    cancel a b c is = omega arith

pub once_step : (s : State) (moment : ℕ) (what : What) → is_allowed s moment what ≡ true → Idle s → HandledRestored s → OnePlace s → Once s →
    Once (step s (record { moment = moment; what = what }))
once_step s moment (Create tag kind x size) line idle handled one once job id birth = once job id birth
once_step s moment (Update tag x size) line idle handled one once job id birth = once job id birth
once_step s moment (Link tag edge from to size) line idle handled one once job id birth = once job id birth
once_step s moment (Unlink tag edge from to name) line idle handled one once job id birth = once job id birth
once_step s moment (Delete tag x name) line idle handled one once job id birth = once job id birth
once_step s moment (Restore tag which) line idle handled one once job id birth = once job id birth
once_step s moment (Expire x) line idle handled one once job id birth = once job id birth
once_step s moment (Cut which edge from to) line idle handled one once job id birth =
    same_erasures s job id birth (edge_item s.graph which (edge_at s.graph (key_of edge from to))) (edge_erasures s.graph which job id birth (edge_at s.graph (key_of edge from to))) (once job id birth)
once_step s moment (Erase which gone) line idle handled one once job id birth =
    erase_once s which gone job id birth (and_parts (is_owned_by s which gone) _ line).0 idle handled one once (object_at s.graph gone) refl
once_step s moment (Put which i) line idle handled one once job id birth =
    let may = may_put_of s which i (slice_get s.items i) refl line in
    let same : count_by (is_erasure_of job id birth) (handled_at s.items i (outcome s (slice_get s.items i))) ≡ erasures s job id birth =
    handled_erasures s i job id birth (outcome s (slice_get s.items i)) may.logged may.at in
    let here : erasures s job id birth ≤ 1 = once job id birth in below same here
  where
    below : {a b : ℕ} → a ≡ b → b ≤ 1 → a ≤ 1
    below one two = omega arith
once_step s moment (Purge which) line idle handled one once job id birth = once job id birth

-- an erasure that is logged stays logged
pub erasures_stay : (s : State) (moment : ℕ) (what : What) → is_allowed s moment what ≡ true → (job id birth : ℕ) →
    erasures s job id birth ≤ erasures (step s (record { moment = moment; what = what })) job id birth
erasures_stay s moment (Create tag kind x size) line job id birth = no_more _
erasures_stay s moment (Update tag x size) line job id birth = no_more _
erasures_stay s moment (Link tag edge from to size) line job id birth = no_more _
erasures_stay s moment (Unlink tag edge from to name) line job id birth = no_more _
erasures_stay s moment (Delete tag x name) line job id birth = no_more _
erasures_stay s moment (Restore tag which) line job id birth = no_more _
erasures_stay s moment (Expire x) line job id birth = no_more _
erasures_stay s moment (Cut which edge from to) line job id birth =
    omega (arith, sum_by-append (λ l. one_if (is_erasure_of job id birth l)) s.items (edge_item s.graph which (edge_at s.graph (key_of edge from to))))
erasures_stay s moment (Erase which gone) line job id birth =
    omega (arith, sum_by-append (λ l. one_if (is_erasure_of job id birth l)) s.items (object_item which (object_at s.graph gone)))
erasures_stay s moment (Put which i) line job id birth =
    let may = may_put_of s which i (slice_get s.items i) refl line in
    same _ _ (handled_erasures s i job id birth (outcome s (slice_get s.items i)) may.logged may.at)
  where
    same : (a b : ℕ) → a ≡ b → b ≤ a
    same a b is = omega arith
erasures_stay s moment (Purge which) line job id birth = no_more _
