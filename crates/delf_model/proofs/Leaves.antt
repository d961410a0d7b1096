-- What leaves the graph, and by which entry.
use Rattle.std.proofs.Common.{◌≡◌, ℕ, Bool, true, false, cond, ◌||◌, eqb, Option, Some, None, refl, sym, ap, ◌∙◌, subst}
use Rattle.std.proofs.lemmas.Bool.{and_parts, eqb-true, false≢true}
use Rattle.std.specs.Prelude.{is_some, slice_get}
use Rattle.std.specs.Option.{option_map}
use Rattle.delf_model.specs.declared.rows.ObjectRow.{ObjectRow}
use Rattle.delf_model.specs.declared.rows.EdgeKey.{EdgeKey}
use Rattle.delf_model.specs.declared.rows.EdgeRow.{EdgeRow}
use Rattle.delf_model.specs.declared.rows.Item.{Item}
use Rattle.delf_model.specs.declared.rows.Item.TheVariants as item
use Rattle.delf_model.specs.declared.call.Cause.{Cause}
use Rattle.delf_model.specs.declared.entry.Entry.{Entry}
use Rattle.delf_model.specs.declared.entry.What.{What}
use Rattle.delf_model.specs.declared.entry.What.TheVariants.{Create, Update, Link, Unlink, Delete, Restore, Expire, Cut, Erase, Put, Purge}
use Rattle.delf_model.specs.Graph.{Graph, PutsObject, TakesObject, RewritesObject, PutsEdge, TakesEdge, changed, object_at, edge_at, edge_stands, stands, is_born_at, same_key, rewritten}
use Rattle.delf_model.specs.State.{State, Logged, owner, is_owned_by, is_job}
use Rattle.delf_model.specs.Step.{step, put_change, put_unless, new_object, new_edge}
use Rattle.delf_model.specs.Puts.{judged, taken}
use Rattle.delf_model.specs.Owners.{key_of}
use Rattle.delf_model.specs.Legal.{is_legal, is_allowed}
use Rattle.delf_model.specs.Reply.{refusals}
use Rattle.delf_model.specs.Sound.{ObjectsLeave}
use Rattle.delf_model.proofs.Graphs.{find-put_object, find-filter_object, find-rewritten, find-put_edge, find-filter_edge, same_key_is}
use Rattle.delf_model.proofs.Lines.{none_of, allowed_of, name_free}

-- a fact about an option that holds of both of its cases
born_found : (birth : ℕ) (o p : Option ObjectRow) → o ≡ p → is_born_at birth o ≡ is_born_at birth p
born_found birth o p e = ap (is_born_at birth) e

hit_free : (birth id : ℕ) (row : ObjectRow) (hit : Bool) (o : Option ObjectRow) → (hit ≡ true → o ≡ None) →
    is_born_at birth o ≡ true → is_born_at birth (cond hit (Some row) o) ≡ true
hit_free birth id row true o free stood = absurd (false≢true (sym (ap (is_born_at birth) (free refl)) ∙ stood))
hit_free birth id row false o free stood = stood

-- what stands still stands where a row was put to a free id
pub stands_put : (g : Graph) (row : ObjectRow) (id birth : ℕ) → object_at g row.id ≡ None → stands g id birth ≡ true →
    stands (changed g (PutsObject row)) id birth ≡ true
stands_put g row id birth free stood =
    born_found birth _ _ (find-put_object row g.objects id) ∙
    hit_free birth id row (eqb row.id id) (object_at g id)
    (λ hit. subst (λ (n : ℕ). object_at g n ≡ None) (eqb-true row.id id hit) free) stood

rewritten_birth : (target at size : ℕ) (row : ObjectRow) → (rewritten target at size row).birth ≡ row.birth
rewritten_birth target at size row = by_hit (eqb row.id target)
  where
    by_hit : (hit : Bool) → (cond hit (record row { at = at; size = size }) row).birth ≡ row.birth
    by_hit true = refl
    by_hit false = refl

born_rewritten : (birth target at size : ℕ) (o : Option ObjectRow) → is_born_at birth (option_map (rewritten target at size) o) ≡ is_born_at birth o
born_rewritten birth target at size None = refl
born_rewritten birth target at size (Some row) = ap (λ (n : ℕ). eqb n birth) (rewritten_birth target at size row)

-- a new payload changes nothing of who stands
pub stands_rewritten : (g : Graph) (target at size id birth : ℕ) → stands (changed g (RewritesObject target at size)) id birth ≡ stands g id birth
stands_rewritten g target at size id birth =
    born_found birth _ _ (find-rewritten target at size g.objects id) ∙ born_rewritten birth target at size (object_at g id)

hit_gone : (birth : ℕ) (hit : Bool) (o : Option ObjectRow) → is_born_at birth o ≡ true → is_born_at birth (cond hit None o) ≡ false → hit ≡ true
hit_gone birth true o stood gone = refl
hit_gone birth false o stood gone = absurd (false≢true (sym gone ∙ stood))

-- only the object that is taken leaves
pub stands_taken : (g : Graph) (gone id birth : ℕ) → stands g id birth ≡ true → stands (changed g (TakesObject gone)) id birth ≡ false → gone ≡ id
stands_taken g gone id birth stood left =
    eqb-true gone id (hit_gone birth (eqb gone id) (object_at g id) stood (sym (born_found birth _ _ (find-filter_object gone g.objects id)) ∙ left))

none_judged : (o : Option ObjectRow) → taken o ≡ None → o ≡ None
none_judged None free = refl
none_judged (Some row) free = absurd (cc free)

-- what stands still stands after a put
pub stands_put_item : (s : State) (it : Item) (cause : Option Cause) → judged s it ≡ cause → (id birth : ℕ) → stands s.graph id birth ≡ true →
    stands (changed s.graph (put_unless cause it)) id birth ≡ true
stands_put_item s it (Some cause) is id birth stood = stood
stands_put_item s (item.Object job row) None is id birth stood = stands_put s.graph row id birth (none_judged (object_at s.graph row.id) is) stood
stands_put_item s (item.Edge job row from_birth to_birth) None is id birth stood = stood

pub stands_put_change : (s : State) (o : Option Logged) (id birth : ℕ) → stands s.graph id birth ≡ true → stands (changed s.graph (put_change s o)) id birth ≡ true
stands_put_change s None id birth stood = stood
stands_put_change s (Some logged) id birth stood = stands_put_item s logged.item (judged s logged.item) refl id birth stood

owned_is : (job : ℕ) (o : Option ℕ) → is_job job o ≡ true → o ≡ Some job
owned_is job None own = absurd (false≢true own)
owned_is job (Some other) own = ap Some (eqb-true other job own)

-- who is owned by a job has it as owner
pub owner_is : (s : State) (job id : ℕ) → is_owned_by s job id ≡ true → owner s id ≡ Some job
owner_is s job id own = owned_is job (owner s id) own

contradicts : {A : Type 0} (b : Bool) → b ≡ true → b ≡ false → A
contradicts b one two = absurd (false≢true (sym two ∙ one))

leaves_by : (s : State) (moment : ℕ) (what : What) → is_allowed s moment what ≡ true → ObjectsLeave s what (step s (record { moment = moment; what = what }))
leaves_by s moment (Create tag kind new size) line id birth stood left =
    contradicts _ (stands_put s.graph (new_object s moment kind new size) id birth (name_free s new (none_of (refusals s moment (Create tag kind new size)) line).1.0) stood) left
leaves_by s moment (Update tag target size) line id birth stood left =
    contradicts _ (stands_rewritten s.graph target s.len size id birth ∙ stood) left
leaves_by s moment (Link tag edge from to size) line id birth stood left = contradicts _ stood left
leaves_by s moment (Unlink tag edge from to name) line id birth stood left = contradicts _ stood left
leaves_by s moment (Delete tag root name) line id birth stood left = contradicts _ stood left
leaves_by s moment (Restore tag job) line id birth stood left = contradicts _ stood left
leaves_by s moment (Expire root) line id birth stood left = contradicts _ stood left
leaves_by s moment (Cut job edge from to) line id birth stood left = contradicts _ stood left
leaves_by s moment (Erase job gone) line id birth stood left =
    let same : gone ≡ id = stands_taken s.graph gone id birth stood left in
    (job, subst (λ (n : ℕ). owner s n ≡ Some job) same (owner_is s job gone (and_parts (is_owned_by s job gone) _ line).0), ap (λ (n : ℕ). Erase job n) same)
leaves_by s moment (Put job i) line id birth stood left = contradicts _ (stands_put_change s (slice_get s.items i) id birth stood) left
leaves_by s moment (Purge job) line id birth stood left = contradicts _ stood left

-- an object that leaves has an owner, and the entry is the erasure by that owner
pub objects_leave : (s : State) (e : Entry) → is_legal s e ≡ true → ObjectsLeave s e.what (step s e)
objects_leave s e legal = leaves_by s e.moment e.what (allowed_of s e legal)

-- edges

hit_edge_free : (row : EdgeRow) (hit : Bool) (o : Option EdgeRow) → is_some o ≡ true → is_some (cond hit (Some row) o) ≡ true
hit_edge_free row true o stood = refl
hit_edge_free row false o stood = stood

pub edge_stands_put : (g : Graph) (row : EdgeRow) (key : EdgeKey) → edge_stands g key ≡ true → edge_stands (changed g (PutsEdge row)) key ≡ true
edge_stands_put g row key stood =
    ap (λ (o : Option EdgeRow). is_some o) (find-put_edge row g.edges key) ∙ hit_edge_free row (same_key row.key key) (edge_at g key) stood

pub edge_stands_put_item : (s : State) (it : Item) (cause : Option Cause) (key : EdgeKey) → edge_stands s.graph key ≡ true →
    edge_stands (changed s.graph (put_unless cause it)) key ≡ true
edge_stands_put_item s it (Some cause) key stood = stood
edge_stands_put_item s (item.Object job row) None key stood = stood
edge_stands_put_item s (item.Edge job row from_birth to_birth) None key stood = edge_stands_put s.graph row key stood
