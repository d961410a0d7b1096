-- Each row of a legal history has the number of a type that the rules have.
use Rattle.std.proofs.Common.{◌≡◌, ℕ, zero, suc, ◌+◌, ◌<◌, Bool, true, false, cond, eqb, ltb, Option, Some, None, List, [], ◌∷◌, ◌++◌, length, get_or, take, refl, sym, subst, arith}
use Rattle.std.proofs.lemmas.Bool.{ltb-true}
use Rattle.std.specs.Prelude.{find, filter, map, slice_get}
use Rattle.std.specs.List.{AllByRecursion}
use Rattle.delf_model.specs.declared.rows.ObjectRow.{ObjectRow}
use Rattle.delf_model.specs.declared.rows.EdgeRow.{EdgeRow}
use Rattle.delf_model.specs.declared.rows.EdgeKey.{EdgeKey}
use Rattle.delf_model.specs.declared.rows.Item.{Item}
use Rattle.delf_model.specs.declared.rows.Item.TheVariants as item
use Rattle.delf_model.specs.declared.call.Cause.{Cause}
use Rattle.delf_model.specs.declared.entry.Entry.{Entry}
use Rattle.delf_model.specs.declared.entry.What.{What}
use Rattle.delf_model.specs.declared.entry.What.TheVariants.{Create, Update, Link, Unlink, Delete, Restore, Expire, Cut, Erase, Put, Purge}
use Rattle.delf_model.specs.RuleSet.{RuleSet}
use Rattle.delf_model.specs.Graph.{Graph, Change, Same, PutsObject, TakesObject, RewritesObject, PutsEdge, TakesEdge, changed, put_object, put_edge, rewritten, key_before, same_key, has_id, has_key, object_at, edge_at, is_other_object, is_other_edge}
use Rattle.delf_model.specs.State.{State, Logged, Handled, start}
use Rattle.delf_model.specs.Step.{step, run, after, change_of, put_change, put_unless, items_after, handled_at, edge_item, object_item, outcome}
use Rattle.delf_model.specs.Puts.{judged}
use Rattle.delf_model.specs.Owners.{key_of}
use Rattle.delf_model.specs.Legal.{Legal, is_legal, is_numbered}
use Rattle.delf_model.specs.Report.{listed_from, listed_by, listed_with, is_of_job}
use Rattle.delf_model.proofs.Lines.{numbered_of}
use Rattle.delf_model.proofs.Runs.{good_run}
use Rattle.script_runner.specs.Names.{IsNumberedObject, IsNumberedEdge, IsNumberedItem, IsNumberedListed}

abbrev pub IsNumberedLogged : RuleSet → Logged → Type 0
IsNumberedLogged rules logged = IsNumberedItem rules logged.item

pub record Numbered (s : State) : Type 0 where
  pub objects : AllByRecursion (IsNumberedObject s.rules) s.graph.objects
  pub edges : AllByRecursion (IsNumberedEdge s.rules) s.graph.edges
  pub items : AllByRecursion (IsNumberedLogged s.rules) s.items

-- lists of which each element has a property

all_cond : {A : Type 0} (P : A → Type 0) (b : Bool) (xs ys : List A) → AllByRecursion P xs → AllByRecursion P ys → AllByRecursion P (cond b xs ys)
all_cond P true xs ys one other = one
all_cond P false xs ys one other = other

all_append : {A : Type 0} (P : A → Type 0) (xs ys : List A) → AllByRecursion P xs → AllByRecursion P ys → AllByRecursion P (xs ++ ys)
all_append P [] ys one other = other
all_append P (x ∷ xs) ys one other = (one.0, all_append P xs ys one.1 other)

all_filter : {A : Type 0} (P : A → Type 0) (p : A → Bool) (xs : List A) → AllByRecursion P xs → AllByRecursion P (filter p xs)
all_filter P p [] all = tt
all_filter P p (x ∷ xs) all =
    all_cond P (p x) (x ∷ filter p xs) (filter p xs) (all.0, all_filter P p xs all.1) (all_filter P p xs all.1)

found : {A : Type 0} (P : A → Type 0) (b : Bool) (x y : A) (rest : Option A) → P x → (rest ≡ Some y → P y) → cond b (Some x) rest ≡ Some y → P y
found P true x y rest here more is = let same : x ≡ y = cc in subst P same here
found P false x y rest here more is = more is

pub all_found : {A : Type 0} (P : A → Type 0) (p : A → Bool) (xs : List A) (y : A) → AllByRecursion P xs → find p xs ≡ Some y → P y
all_found P p [] y all is = absurd (cc is)
all_found P p (x ∷ xs) y all is = found P (p x) x y (find p xs) all.0 (all_found P p xs y all.1) is

pub all_at : {A : Type 0} (P : A → Type 0) (xs : List A) (i : ℕ) (x : A) → AllByRecursion P xs → slice_get xs i ≡ Some x → P x
all_at P [] i x all is = absurd (cc is)
all_at P (y ∷ ys) zero x all is = let same : y ≡ x = cc in subst P same all.0
all_at P (y ∷ ys) (suc i) x all is = all_at P ys i x all.1 is

pub all_index : {A : Type 0} (P : A → Type 0) (xs : List A) (i : ℕ) (x : A) → AllByRecursion P xs → i < length xs → x ≡ get_or xs i x → P x
all_index P [] i x all below is = absurd (omega arith)
all_index P (y ∷ ys) zero x all below is = subst P (sym is) all.0
all_index P (y ∷ ys) (suc i) x all below is = all_index P ys i x all.1 (omega arith) is

-- rows put into their places

all_put_object : (P : ObjectRow → Type 0) (row : ObjectRow) (xs : List ObjectRow) → P row → AllByRecursion P xs → AllByRecursion P (put_object row xs)
all_put_object P row [] here all = (here, tt)
all_put_object P row (x ∷ xs) here all =
    all_cond P (ltb row.id x.id) (row ∷ (x ∷ xs)) (cond (eqb row.id x.id) (row ∷ xs) (x ∷ put_object row xs)) (here, all)
    (all_cond P (eqb row.id x.id) (row ∷ xs) (x ∷ put_object row xs) (here, all.1) (all.0, all_put_object P row xs here all.1))

all_put_edge : (P : EdgeRow → Type 0) (row : EdgeRow) (xs : List EdgeRow) → P row → AllByRecursion P xs → AllByRecursion P (put_edge row xs)
all_put_edge P row [] here all = (here, tt)
all_put_edge P row (x ∷ xs) here all =
    all_cond P (key_before row.key x.key) (row ∷ (x ∷ xs)) (cond (same_key row.key x.key) (row ∷ xs) (x ∷ put_edge row xs)) (here, all)
    (all_cond P (same_key row.key x.key) (row ∷ xs) (x ∷ put_edge row xs) (here, all.1) (all.0, all_put_edge P row xs here all.1))

rewritten_kind : (rules : RuleSet) (b : Bool) (at size : ℕ) (row : ObjectRow) → IsNumberedObject rules row →
    IsNumberedObject rules (cond b (record row { at = at; size = size }) row)
rewritten_kind rules true at size row here = here
rewritten_kind rules false at size row here = here

all_rewritten : (rules : RuleSet) (id at size : ℕ) (xs : List ObjectRow) → AllByRecursion (IsNumberedObject rules) xs →
    AllByRecursion (IsNumberedObject rules) (map (rewritten id at size) xs)
all_rewritten rules id at size [] all = tt
all_rewritten rules id at size (x ∷ xs) all = (rewritten_kind rules (eqb x.id id) at size x all.0, all_rewritten rules id at size xs all.1)

-- a change that puts only rows with such numbers

abbrev FitsChange : RuleSet → Change → Type 0
FitsChange rules Same = Unit {0}
FitsChange rules (PutsObject row) = IsNumberedObject rules row
FitsChange rules (TakesObject id) = Unit {0}
FitsChange rules (RewritesObject id at size) = Unit {0}
FitsChange rules (PutsEdge row) = IsNumberedEdge rules row
FitsChange rules (TakesEdge key) = Unit {0}

objects_changed : (rules : RuleSet) (g : Graph) (c : Change) → FitsChange rules c → AllByRecursion (IsNumberedObject rules) g.objects →
    AllByRecursion (IsNumberedObject rules) (changed g c).objects
objects_changed rules g Same fits all = all
objects_changed rules g (PutsObject row) fits all = all_put_object (IsNumberedObject rules) row g.objects fits all
objects_changed rules g (TakesObject id) fits all = all_filter (IsNumberedObject rules) (is_other_object id) g.objects all
objects_changed rules g (RewritesObject id at size) fits all = all_rewritten rules id at size g.objects all
objects_changed rules g (PutsEdge row) fits all = all
objects_changed rules g (TakesEdge key) fits all = all

edges_changed : (rules : RuleSet) (g : Graph) (c : Change) → FitsChange rules c → AllByRecursion (IsNumberedEdge rules) g.edges →
    AllByRecursion (IsNumberedEdge rules) (changed g c).edges
edges_changed rules g Same fits all = all
edges_changed rules g (PutsObject row) fits all = all
edges_changed rules g (TakesObject id) fits all = all
edges_changed rules g (RewritesObject id at size) fits all = all
edges_changed rules g (PutsEdge row) fits all = all_put_edge (IsNumberedEdge rules) row g.edges fits all
edges_changed rules g (TakesEdge key) fits all = all_filter (IsNumberedEdge rules) (is_other_edge key) g.edges all

fits_unless : (rules : RuleSet) (cause : Option Cause) (it : Item) → IsNumberedItem rules it → FitsChange rules (put_unless cause it)
fits_unless rules None (item.Object job row) here = here
fits_unless rules None (item.Edge job row from_birth to_birth) here = here
fits_unless rules (Some cause) it here = tt

fits_put : (s : State) (i : ℕ) (o : Option Logged) → slice_get s.items i ≡ o → AllByRecursion (IsNumberedLogged s.rules) s.items → FitsChange s.rules (put_change s o)
fits_put s i None is all = tt
fits_put s i (Some logged) is all = fits_unless s.rules (judged s logged.item) logged.item (all_at (IsNumberedLogged s.rules) s.items i logged all is)

fits_change : (s : State) (moment : ℕ) (what : What) → AllByRecursion (IsNumberedLogged s.rules) s.items → is_numbered s.rules what ≡ true →
    FitsChange s.rules (change_of s moment what)
fits_change s moment (Create tag kind id size) all is = ltb-true kind (length s.rules.objects) is
fits_change s moment (Update tag id size) all is = tt
fits_change s moment (Link tag edge from to size) all is = ltb-true edge (length s.rules.edges) is
fits_change s moment (Unlink tag edge from to name) all is = tt
fits_change s moment (Delete tag id name) all is = tt
fits_change s moment (Restore tag job) all is = tt
fits_change s moment (Expire id) all is = tt
fits_change s moment (Cut job edge from to) all is = tt
fits_change s moment (Erase job id) all is = tt
fits_change s moment (Put job i) all is = fits_put s i (slice_get s.items i) refl all
fits_change s moment (Purge job) all is = tt

-- items are logged from rows of the graph

all_handled : (rules : RuleSet) (xs : List Logged) (i : ℕ) (how : Handled) → AllByRecursion (IsNumberedLogged rules) xs →
    AllByRecursion (IsNumberedLogged rules) (handled_at xs i how)
all_handled rules [] i how all = tt
all_handled rules (x ∷ xs) zero how all = (all.0, all.1)
all_handled rules (x ∷ xs) (suc i) how all = (all.0, all_handled rules xs i how all.1)

edge_logged : (s : State) (job : ℕ) (key : EdgeKey) (o : Option EdgeRow) → edge_at s.graph key ≡ o → AllByRecursion (IsNumberedEdge s.rules) s.graph.edges →
    AllByRecursion (IsNumberedLogged s.rules) (edge_item s.graph job o)
edge_logged s job key None is all = tt
edge_logged s job key (Some row) is all = (all_found (IsNumberedEdge s.rules) (has_key key) s.graph.edges row all is, tt)

object_logged : (s : State) (job id : ℕ) (o : Option ObjectRow) → object_at s.graph id ≡ o → AllByRecursion (IsNumberedObject s.rules) s.graph.objects →
    AllByRecursion (IsNumberedLogged s.rules) (object_item job o)
object_logged s job id None is all = tt
object_logged s job id (Some row) is all = (all_found (IsNumberedObject s.rules) (has_id id) s.graph.objects row all is, tt)

items_logged : (s : State) (what : What) → Numbered s → AllByRecursion (IsNumberedLogged s.rules) (items_after s what)
items_logged s (Create tag kind id size) all = all.items
items_logged s (Update tag id size) all = all.items
items_logged s (Link tag edge from to size) all = all.items
items_logged s (Unlink tag edge from to name) all = all.items
items_logged s (Delete tag id name) all = all.items
items_logged s (Restore tag job) all = all.items
items_logged s (Expire id) all = all.items
items_logged s (Cut job edge from to) all =
    all_append (IsNumberedLogged s.rules) s.items (edge_item s.graph job (edge_at s.graph (key_of edge from to))) all.items
    (edge_logged s job (key_of edge from to) (edge_at s.graph (key_of edge from to)) refl all.edges)
items_logged s (Erase job id) all =
    all_append (IsNumberedLogged s.rules) s.items (object_item job (object_at s.graph id)) all.items
    (object_logged s job id (object_at s.graph id) refl all.objects)
items_logged s (Put job i) all = all_handled s.rules s.items i (outcome s (slice_get s.items i)) all.items
items_logged s (Purge job) all = all.items

numbered_step : (s : State) (e : Entry) → Numbered s → is_legal s e ≡ true → Numbered (step s e)
numbered_step s e all legal =
    let fits = fits_change s e.moment e.what all.items (numbered_of s e legal) in
    record {
      objects = objects_changed s.rules s.graph (change_of s e.moment e.what) fits all.objects;
      edges = edges_changed s.rules s.graph (change_of s e.moment e.what) fits all.edges;
      items = items_logged s e.what all;
    }

run_rules : (s : State) (es : List Entry) → (run s es).rules ≡ s.rules
run_rules s [] = refl
run_rules s (e ∷ es) = run_rules (step s e) es

pub rules_after : (rules : RuleSet) (h : List Entry) → (after rules h).rules ≡ rules
rules_after rules h = run_rules (start rules) h

pub numbered_after : (rules : RuleSet) (h : List Entry) → Legal rules h → Numbered (after rules h)
numbered_after rules h legal = good_run Numbered numbered_step (start rules) h (record { objects = tt; edges = tt; items = tt }) legal

pub objects_numbered : (rules : RuleSet) (h : List Entry) → Legal rules h → AllByRecursion (IsNumberedObject rules) (after rules h).graph.objects
objects_numbered rules h legal =
    subst (λ (r : RuleSet). AllByRecursion (IsNumberedObject r) (after rules h).graph.objects) (rules_after rules h) (numbered_after rules h legal).objects

pub edges_numbered : (rules : RuleSet) (h : List Entry) → Legal rules h → AllByRecursion (IsNumberedEdge rules) (after rules h).graph.edges
edges_numbered rules h legal =
    subst (λ (r : RuleSet). AllByRecursion (IsNumberedEdge r) (after rules h).graph.edges) (rules_after rules h) (numbered_after rules h legal).edges

items_numbered : (rules : RuleSet) (h : List Entry) → Legal rules h → AllByRecursion (IsNumberedLogged rules) (after rules h).items
items_numbered rules h legal =
    subst (λ (r : RuleSet). AllByRecursion (IsNumberedLogged r) (after rules h).items) (rules_after rules h) (numbered_after rules h legal).items

-- what is listed is a logged row

all_listed_with : (rules : RuleSet) (i : ℕ) (it : Item) (cause : Option Cause) → IsNumberedItem rules it → AllByRecursion (IsNumberedListed rules) (listed_with i it cause)
all_listed_with rules i it None here = tt
all_listed_with rules i it (Some cause) here = (here, tt)

all_listed_by : (rules : RuleSet) (i : ℕ) (it : Item) (how : Option Handled) → IsNumberedItem rules it → AllByRecursion (IsNumberedListed rules) (listed_by i it how)
all_listed_by rules i it None here = tt
all_listed_by rules i it (Some how) here = all_listed_with rules i it how.cause here

all_listed : (rules : RuleSet) (job i : ℕ) (xs : List Logged) → AllByRecursion (IsNumberedLogged rules) xs → AllByRecursion (IsNumberedListed rules) (listed_from job i xs)
all_listed rules job i [] all = tt
all_listed rules job i (x ∷ xs) all =
    all_append (IsNumberedListed rules) (listed_from job (i + 1) xs) (cond (is_of_job job x) (listed_by i x.item x.handled) [])
    (all_listed rules job (i + 1) xs all.1)
    (all_cond (IsNumberedListed rules) (is_of_job job x) (listed_by i x.item x.handled) [] (all_listed_by rules i x.item x.handled all.0) tt)

all_front : (rules : RuleSet) (n : ℕ) (xs : List Logged) → AllByRecursion (IsNumberedLogged rules) xs → AllByRecursion (IsNumberedLogged rules) (take n xs)
all_front rules zero xs all = tt
all_front rules (suc n) [] all = tt
all_front rules (suc n) (x ∷ xs) all = (all.0, all_front rules n xs all.1)

pub listed_numbered : (rules : RuleSet) (h : List Entry) (job below : ℕ) → Legal rules h →
    AllByRecursion (IsNumberedListed rules) (listed_from job 0 (take below (after rules h).items))
listed_numbered rules h job below legal =
    all_listed rules job 0 (take below (after rules h).items) (all_front rules below (after rules h).items (items_numbered rules h legal))
