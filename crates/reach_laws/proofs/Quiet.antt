-- What an entry leaves alone that names none of certain ids.
use Rattle.std.proofs.Common.{◌≡◌, ℕ, zero, suc, ◌+◌, ◌≤◌, ◌<◌, Bool, true, false, cond, not, ◌&&◌, ◌||◌, eqb, List, [], ◌∷◌, ◌++◌, Option, Some, None, refl, sym, ap, ◌∙◌, subst, arith, inl, inr, ◌⊎◌}
use Rattle.std.proofs.lemmas.Bool.{and_parts, and_from, eqb-true, eq-eqb, false≢true, or_cases}
use Rattle.std.specs.Prelude.{find, is_some, is_none, slice_get}
use Rattle.std.specs.List.{list_any}
use Rattle.std.specs.Option.{option_map}
use Rattle.delf_model.specs.declared.rows.ObjectRow.{ObjectRow}
use Rattle.delf_model.specs.declared.rows.EdgeKey.{EdgeKey}
use Rattle.delf_model.specs.declared.rows.EdgeRow.{EdgeRow}
use Rattle.delf_model.specs.declared.rows.Item.{Item}
use Rattle.delf_model.specs.declared.rows.Item.TheVariants as item
use Rattle.delf_model.specs.declared.call.Cause.{Cause}
use Rattle.delf_model.specs.declared.entry.Entry.{Entry}
use Rattle.delf_model.specs.declared.entry.Tag.{Tag}
use Rattle.delf_model.specs.declared.entry.What.{What}
use Rattle.delf_model.specs.declared.entry.What.TheVariants.{Create, Update, Link, Unlink, Delete, Restore, Expire, Cut, Erase, Put, Purge}
use Rattle.delf_model.specs.Graph.{Graph, Change, PutsObject, TakesObject, RewritesObject, PutsEdge, TakesEdge, changed, has_id, has_key, same_key, object_at, edge_at, edge_stands, touches, rewritten}
use Rattle.delf_model.specs.State.{State, Logged, Handled, owner, is_owned_by, job_of}
use Rattle.delf_model.specs.Step.{step, graph_after, items_after, edge_item, object_item, handled_at, outcome, put_change, put_unless, unhandled, birth_of, new_object, new_edge}
use Rattle.delf_model.specs.Owners.{key_of, unlink_start}
use Rattle.delf_model.specs.Puts.{judged}
use Rattle.delf_model.specs.Legal.{is_legal, is_allowed}
use Rattle.delf_model.specs.Closure.{has, names, item_names, logged_names, is_step_of, erased_item, cut_item, has_erased, has_cut}
use Rattle.delf_model.proofs.Graphs.{find-put_object, find-filter_object, find-rewritten, find-put_edge, find-filter_edge, same_key_is}
use Rattle.delf_model.proofs.Lines.{allowed_of}
use Rattle.delf_model.proofs.Leaves.{owner_is}
use Rattle.delf_model.proofs.Owners.{found_id}
use Rattle.delf_model.proofs.Plain.{plain_owner, owner_plain}
use Rattle.delf_model.proofs.Places.{EachItem, may_put_of}

pub or_first : (a b : Bool) → (a || b) ≡ false → a ≡ false
or_first true b none = absurd (false≢true (sym none))
or_first false b none = refl

pub or_second : (a b : Bool) → (a || b) ≡ false → b ≡ false
or_second true b none = absurd (false≢true (sym none))
or_second false b none = none

pub or_nothing : (b : Bool) → (b || false) ≡ b
or_nothing true = refl
or_nothing false = refl

pub miss : {A : Type 0} (b : Bool) (x y : A) → b ≡ false → cond b x y ≡ y
miss true x y is = absurd (false≢true (sym is))
miss false x y is = refl

rewritten_miss : (target at size id : ℕ) (o : Option ObjectRow) → ((row : ObjectRow) → o ≡ Some row → row.id ≡ id) → eqb target id ≡ false → option_map (rewritten target at size) o ≡ o
rewritten_miss target at size id None found other = refl
rewritten_miss target at size id (Some row) found other = ap (λ (r : ObjectRow). Some r) (miss (eqb row.id target) (record row { at = at; size = size }) row (apart (eqb row.id target) refl))
  where
    apart : (b : Bool) → eqb row.id target ≡ b → b ≡ false
    apart true is = absurd (false≢true (sym other ∙ eq-eqb target id (sym (eqb-true row.id target is) ∙ found row refl)))
    apart false is = refl

put_item_object : (s : State) (it : Item) (o : Option Cause) (id : ℕ) → item_names id it ≡ false → object_at (changed s.graph (put_unless o it)) id ≡ object_at s.graph id
put_item_object s it (Some c) id unnamed = refl
put_item_object s (item.Object job row) None id unnamed = find-put_object row s.graph.objects id ∙ miss (eqb row.id id) (Some row) (object_at s.graph id) unnamed
put_item_object s (item.Edge job row from_birth to_birth) None id unnamed = refl

put_object_named : (s : State) (o : Option Logged) (id : ℕ) → logged_names id o ≡ false → object_at (changed s.graph (put_change s o)) id ≡ object_at s.graph id
put_object_named s None id unnamed = refl
put_object_named s (Some logged) id unnamed = put_item_object s logged.item (judged s logged.item) id unnamed

-- an object that is not named stays as it is
pub object_left : (s : State) (moment : ℕ) (what : What) (id : ℕ) → names s what id ≡ false → object_at (graph_after s moment what) id ≡ object_at s.graph id
object_left s moment (Create tag kind new size) id unnamed =
    find-put_object (new_object s moment kind new size) s.graph.objects id ∙ miss (eqb new id) (Some (new_object s moment kind new size)) (object_at s.graph id) unnamed
object_left s moment (Update tag target size) id unnamed =
    find-rewritten target s.len size s.graph.objects id ∙ rewritten_miss target s.len size id (object_at s.graph id) (λ row at. found_id s.graph.objects id row at) unnamed
object_left s moment (Link tag edge from to size) id unnamed = refl
object_left s moment (Unlink tag edge from to name) id unnamed = refl
object_left s moment (Delete tag root name) id unnamed = refl
object_left s moment (Restore tag job) id unnamed = refl
object_left s moment (Expire root) id unnamed = refl
object_left s moment (Cut job edge from to) id unnamed = refl
object_left s moment (Erase job gone) id unnamed = find-filter_object gone s.graph.objects id ∙ miss (eqb gone id) None (object_at s.graph id) unnamed
object_left s moment (Put job i) id unnamed = put_object_named s (slice_get s.items i) id unnamed
object_left s moment (Purge job) id unnamed = refl

-- keys that touch an id, where another key doesn't, differ
other_key : (id : ℕ) (key other : EdgeKey) → touches id key ≡ true → touches id other ≡ false → same_key other key ≡ false
other_key id key other touched untouched = by_same (same_key other key) refl
  where
    by_same : (b : Bool) → same_key other key ≡ b → b ≡ false
    by_same true is = absurd (false≢true (sym untouched ∙ (ap (λ (k : EdgeKey). touches id k) (same_key_is other key is) ∙ touched)))
    by_same false is = refl

put_item_edge : (s : State) (it : Item) (o : Option Cause) (id : ℕ) (key : EdgeKey) → touches id key ≡ true → item_names id it ≡ false → edge_at (changed s.graph (put_unless o it)) key ≡ edge_at s.graph key
put_item_edge s it (Some c) id key touched unnamed = refl
put_item_edge s (item.Object job row) None id key touched unnamed = refl
put_item_edge s (item.Edge job row from_birth to_birth) None id key touched unnamed =
    find-put_edge row s.graph.edges key ∙ miss (same_key row.key key) (Some row) (edge_at s.graph key) (other_key id key row.key touched unnamed)

put_edge_named : (s : State) (o : Option Logged) (id : ℕ) (key : EdgeKey) → touches id key ≡ true → logged_names id o ≡ false → edge_at (changed s.graph (put_change s o)) key ≡ edge_at s.graph key
put_edge_named s None id key touched unnamed = refl
put_edge_named s (Some logged) id key touched unnamed = put_item_edge s logged.item (judged s logged.item) id key touched unnamed

taken_named : (g : Graph) (id : ℕ) (key gone : EdgeKey) → touches id key ≡ true → touches id gone ≡ false → edge_at (changed g (TakesEdge gone)) key ≡ edge_at g key
taken_named g id key gone touched unnamed = find-filter_edge gone g.edges key ∙ miss (same_key gone key) None (edge_at g key) (other_key id key gone touched unnamed)

-- an edge of an id that is not named stays as it is
pub edge_left : (s : State) (moment : ℕ) (what : What) (id : ℕ) (key : EdgeKey) → touches id key ≡ true → names s what id ≡ false → edge_at (graph_after s moment what) key ≡ edge_at s.graph key
edge_left s moment (Create tag kind new size) id key touched unnamed = refl
edge_left s moment (Update tag target size) id key touched unnamed = refl
edge_left s moment (Link tag edge from to size) id key touched unnamed =
    find-put_edge (new_edge s edge from to size) s.graph.edges key ∙ miss (same_key (key_of edge from to) key) (Some (new_edge s edge from to size)) (edge_at s.graph key) (other_key id key (key_of edge from to) touched unnamed)
edge_left s moment (Unlink tag edge from to name) id key touched unnamed = taken_named s.graph id key (key_of edge from to) touched unnamed
edge_left s moment (Delete tag root name) id key touched unnamed = refl
edge_left s moment (Restore tag job) id key touched unnamed = refl
edge_left s moment (Expire root) id key touched unnamed = refl
edge_left s moment (Cut job edge from to) id key touched unnamed = taken_named s.graph id key (key_of edge from to) touched unnamed
edge_left s moment (Erase job gone) id key touched unnamed = refl
edge_left s moment (Put job i) id key touched unnamed = put_edge_named s (slice_get s.items i) id key touched unnamed
edge_left s moment (Purge job) id key touched unnamed = refl

miss_and : (a b c : Bool) (x : ℕ) (o : Option ℕ) → a ≡ false → cond (a && b && c) (Some x) o ≡ o
miss_and true b c x o is = absurd (false≢true (sym is))
miss_and false b c x o is = refl

miss_second : (a b : Bool) (x : ℕ) (o : Option ℕ) → b ≡ false → cond (a && b) (Some x) o ≡ o
miss_second true b x o is = miss b (Some x) o is
miss_second false b x o is = refl

-- the owner of an id that is not named stays
pub owner_left : (s : State) (what : What) (id : ℕ) → names s what id ≡ false → plain_owner s what id ≡ owner s id
owner_left s (Create tag kind new size) id unnamed = refl
owner_left s (Update tag target size) id unnamed = refl
owner_left s (Link tag edge from to size) id unnamed = refl
owner_left s (Unlink tag edge from to name) id unnamed = miss_second (is_some (unlink_start s edge from to name)) (eqb to id) s.len (owner s id) (or_second (eqb from id) (eqb to id) unnamed)
owner_left s (Delete tag root name) id unnamed = miss (eqb root id) (Some s.len) (owner s id) unnamed
owner_left s (Restore tag job) id unnamed = refl
owner_left s (Expire root) id unnamed = miss (eqb root id) (Some s.len) (owner s id) unnamed
owner_left s (Cut job edge from to) id unnamed = miss_and (eqb to id) _ _ job (owner s id) (or_second (eqb from id) (eqb to id) unnamed)
owner_left s (Erase job gone) id unnamed = miss (eqb gone id) None (owner s id) unnamed
owner_left s (Put job i) id unnamed = refl
owner_left s (Purge job) id unnamed = refl

-- a Cut or Erase of the job
abbrev pub takes_for : ℕ → What → Bool
takes_for job (Cut which edge from to) = eqb which job
takes_for job (Erase which id) = eqb which job
takes_for job what = false

hit_number : (b : Bool) (n job : ℕ) (o : Option ℕ) → cond b (Some n) o ≡ Some job → (n ≡ job) ⊎ (o ≡ Some job)
hit_number true n job o is = inl (let same : n ≡ job = cc in same)
hit_number false n job o is = inr is

-- only its own steps give a job an owner after its start
pub owner_not_new : (s : State) (what : What) (job id : ℕ) → job < s.len → takes_for job what ≡ false → plain_owner s what id ≡ Some job → owner s id ≡ Some job
owner_not_new s (Create tag kind new size) job id below none own = own
owner_not_new s (Update tag target size) job id below none own = own
owner_not_new s (Link tag edge from to size) job id below none own = own
owner_not_new s (Unlink tag edge from to name) job id below none own =
    elim (hit_number (is_some (unlink_start s edge from to name) && eqb to id) s.len job (owner s id) own) [ inl same ↦ absurd (omega (arith, same, below)) | inr old ↦ old ]
owner_not_new s (Delete tag root name) job id below none own =
    elim (hit_number (eqb root id) s.len job (owner s id) own) [ inl same ↦ absurd (omega (arith, same, below)) | inr old ↦ old ]
owner_not_new s (Restore tag which) job id below none own = own
owner_not_new s (Expire root) job id below none own =
    elim (hit_number (eqb root id) s.len job (owner s id) own) [ inl same ↦ absurd (omega (arith, same, below)) | inr old ↦ old ]
owner_not_new s (Cut which edge from to) job id below none own =
    elim (hit_number _ which job (owner s id) own) [ inl same ↦ absurd (false≢true (sym none ∙ eq-eqb which job same)) | inr old ↦ old ]
owner_not_new s (Erase which gone) job id below none own = left (eqb gone id) own
  where
    left : (b : Bool) → cond b None (owner s id) ≡ Some job → owner s id ≡ Some job
    left true is = absurd (cc is)
    left false is = is
owner_not_new s (Put which i) job id below none own = own
owner_not_new s (Purge which) job id below none own = own

-- what a job took, by a test that only items of the job pass

pub any_append : (q : Logged → Bool) (xs ys : List Logged) → list_any q (xs ++ ys) ≡ (list_any q xs || list_any q ys)
any_append q [] ys = refl
any_append q (x ∷ xs) ys = ap (λ (b : Bool). q x || b) (any_append q xs ys) ∙ assoc (q x) (list_any q xs) (list_any q ys)
  where
    assoc : (a b c : Bool) → (a || (b || c)) ≡ ((a || b) || c)
    assoc true b c = refl
    assoc false b c = refl

any_handled : (q : Item → Bool) (xs : List Logged) (i : ℕ) (how : Handled) → list_any (λ l. q l.item) (handled_at xs i how) ≡ list_any (λ l. q l.item) xs
any_handled q [] i how = refl
any_handled q (x ∷ xs) zero how = refl
any_handled q (x ∷ xs) (suc i) how = ap (λ (b : Bool). q x.item || b) (any_handled q xs i how)

edge_foreign : (q : Item → Bool) (g : Graph) (which : ℕ) (o : Option EdgeRow) → ((it : Item) → job_of it ≡ which → q it ≡ false) → list_any (λ l. q l.item) (edge_item g which o) ≡ false
edge_foreign q g which None foreign = refl
edge_foreign q g which (Some row) foreign = or_nothing _ ∙ foreign (item.Edge which row (birth_of g row.key.from) (birth_of g row.key.to)) refl

object_foreign : (q : Item → Bool) (which : ℕ) (o : Option ObjectRow) → ((it : Item) → job_of it ≡ which → q it ≡ false) → list_any (λ l. q l.item) (object_item which o) ≡ false
object_foreign q which None foreign = refl
object_foreign q which (Some row) foreign = or_nothing _ ∙ foreign (item.Object which row) refl

or_false : (a b : Bool) → b ≡ false → (a || b) ≡ a
or_false a true is = absurd (false≢true (sym is))
or_false a false is = or_nothing a

-- an entry that takes nothing for the job adds no item of it
pub took_same : (s : State) (what : What) (job : ℕ) (q : Item → Bool) → takes_for job what ≡ false → ((it : Item) → eqb (job_of it) job ≡ false → q it ≡ false) →
    list_any (λ l. q l.item) (items_after s what) ≡ list_any (λ l. q l.item) s.items
took_same s (Create tag kind new size) job q none foreign = refl
took_same s (Update tag target size) job q none foreign = refl
took_same s (Link tag edge from to size) job q none foreign = refl
took_same s (Unlink tag edge from to name) job q none foreign = refl
took_same s (Delete tag root name) job q none foreign = refl
took_same s (Restore tag which) job q none foreign = refl
took_same s (Expire root) job q none foreign = refl
took_same s (Cut which edge from to) job q none foreign =
    any_append (λ l. q l.item) s.items (edge_item s.graph which (edge_at s.graph (key_of edge from to))) ∙
    or_false _ _ (edge_foreign q s.graph which (edge_at s.graph (key_of edge from to)) (λ it is. foreign it (ap (λ (n : ℕ). eqb n job) is ∙ none)))
took_same s (Erase which gone) job q none foreign =
    any_append (λ l. q l.item) s.items (object_item which (object_at s.graph gone)) ∙
    or_false _ _ (object_foreign q which (object_at s.graph gone) (λ it is. foreign it (ap (λ (n : ℕ). eqb n job) is ∙ none)))
took_same s (Put which i) job q none foreign = any_handled q s.items i (outcome s (slice_get s.items i))
took_same s (Purge which) job q none foreign = refl

pub foreign_erased : (job id : ℕ) (it : Item) → eqb (job_of it) job ≡ false → erased_item job id it ≡ false
foreign_erased job id (item.Object other row) apart = ap (λ (b : Bool). b && eqb row.id id) apart
foreign_erased job id (item.Edge other row from_birth to_birth) apart = refl

pub foreign_cut : (job : ℕ) (key : EdgeKey) (it : Item) → eqb (job_of it) job ≡ false → cut_item job key it ≡ false
foreign_cut job key (item.Object other row) apart = refl
foreign_cut job key (item.Edge other row from_birth to_birth) apart = ap (λ (b : Bool). b && same_key row.key key) apart

pub erased_same : (s : State) (what : What) (job id : ℕ) → takes_for job what ≡ false → list_any (λ l. erased_item job id l.item) (items_after s what) ≡ has_erased s job id
erased_same s what job id none = took_same s what job (erased_item job id) none (foreign_erased job id)

pub cut_same : (s : State) (what : What) (job : ℕ) (key : EdgeKey) → takes_for job what ≡ false → list_any (λ l. cut_item job key l.item) (items_after s what) ≡ has_cut s job key
cut_same s what job key none = took_same s what job (cut_item job key) none (foreign_cut job key)

-- the same of a fact of each item of the job

each_push : (P : Logged → Type 0) (xs : List Logged) (y : Logged) → EachItem P xs → P y → EachItem P (xs ++ y ∷ [])
each_push P [] y each new = (new, tt)
each_push P (x ∷ xs) y each new = (each.0, each_push P xs y each.1 new)

each_nil : (P : Logged → Type 0) (xs : List Logged) → EachItem P xs → EachItem P (xs ++ [])
each_nil P [] each = tt
each_nil P (x ∷ xs) each = (each.0, each_nil P xs each.1)

pub each_edge : (P : Logged → Type 0) (g : Graph) (which : ℕ) (xs : List Logged) (o : Option EdgeRow) → EachItem P xs → ((row : EdgeRow) → o ≡ Some row → P (unhandled (item.Edge which row (birth_of g row.key.from) (birth_of g row.key.to)))) →
    EachItem P (xs ++ edge_item g which o)
each_edge P g which xs None each new = each_nil P xs each
each_edge P g which xs (Some row) each new = each_push P xs (unhandled (item.Edge which row (birth_of g row.key.from) (birth_of g row.key.to))) each (new row refl)

pub each_object : (P : Logged → Type 0) (which : ℕ) (xs : List Logged) (o : Option ObjectRow) → EachItem P xs → ((row : ObjectRow) → o ≡ Some row → P (unhandled (item.Object which row))) → EachItem P (xs ++ object_item which o)
each_object P which xs None each new = each_nil P xs each
each_object P which xs (Some row) each new = each_push P xs (unhandled (item.Object which row)) each (new row refl)

each_handled_item : (P : Item → Type 0) (xs : List Logged) (i : ℕ) (how : Handled) → EachItem (λ l. P l.item) xs → EachItem (λ l. P l.item) (handled_at xs i how)
each_handled_item P [] i how each = tt
each_handled_item P (x ∷ xs) zero how each = each
each_handled_item P (x ∷ xs) (suc i) how each = (each.0, each_handled_item P xs i how each.1)

-- a fact of the job's items alone stays where none is added
pub each_same : (s : State) (what : What) (job : ℕ) (P : Item → Type 0) → takes_for job what ≡ false → ((it : Item) → eqb (job_of it) job ≡ false → P it) →
    EachItem (λ l. P l.item) s.items → EachItem (λ l. P l.item) (items_after s what)
each_same s (Create tag kind new size) job P none foreign each = each
each_same s (Update tag target size) job P none foreign each = each
each_same s (Link tag edge from to size) job P none foreign each = each
each_same s (Unlink tag edge from to name) job P none foreign each = each
each_same s (Delete tag root name) job P none foreign each = each
each_same s (Restore tag which) job P none foreign each = each
each_same s (Expire root) job P none foreign each = each
each_same s (Cut which edge from to) job P none foreign each =
    each_edge (λ l. P l.item) s.graph which s.items (edge_at s.graph (key_of edge from to)) each (λ row at. foreign (item.Edge which row (birth_of s.graph row.key.from) (birth_of s.graph row.key.to)) none)
each_same s (Erase which gone) job P none foreign each =
    each_object (λ l. P l.item) which s.items (object_at s.graph gone) each (λ row at. foreign (item.Object which row) none)
each_same s (Put which i) job P none foreign each = each_handled_item P s.items i (outcome s (slice_get s.items i)) each
each_same s (Purge which) job P none foreign each = each
