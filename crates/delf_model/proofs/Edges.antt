-- Which edges leave the graph, each meant by its key and birth.
use Rattle.std.proofs.Common.{◌≡◌, ℕ, Bool, true, false, cond, ◌||◌, eqb, List, Option, Some, None, refl, sym, ap, ◌∙◌, subst}
use Rattle.std.proofs.lemmas.Bool.{and_parts, false≢true}
use Rattle.std.specs.Prelude.{slice_get}
use Rattle.delf_model.specs.declared.rows.EdgeKey.{EdgeKey}
use Rattle.delf_model.specs.declared.rows.EdgeRow.{EdgeRow}
use Rattle.delf_model.specs.declared.rows.Item.{Item}
use Rattle.delf_model.specs.declared.rows.Item.TheVariants as item
use Rattle.delf_model.specs.declared.call.Cause.{Cause}
use Rattle.delf_model.specs.declared.entry.Entry.{Entry}
use Rattle.delf_model.specs.declared.entry.What.{What}
use Rattle.delf_model.specs.declared.entry.What.TheVariants.{Create, Update, Link, Unlink, Delete, Restore, Expire, Cut, Erase, Put, Purge}
use Rattle.delf_model.specs.Graph.{Graph, PutsEdge, TakesEdge, changed, edge_at, edge_stands, edge_stands_born, is_edge_born_at, same_key}
use Rattle.delf_model.specs.State.{State, Logged, is_owned_by}
use Rattle.delf_model.specs.Step.{step, put_change, put_unless, new_edge}
use Rattle.delf_model.specs.Puts.{judged}
use Rattle.delf_model.specs.Owners.{key_of}
use Rattle.delf_model.specs.Legal.{is_legal, is_allowed}
use Rattle.delf_model.specs.Reply.{refusals}
use Rattle.delf_model.specs.Sound.{EdgesLeave, ByUnlink, ByCut}
use Rattle.delf_model.proofs.Graphs.{find-put_edge, find-filter_edge, same_key_is}
use Rattle.delf_model.proofs.Lines.{none_of, allowed_of, key_free}
use Rattle.delf_model.proofs.Ends.{fits_of}

contradicts : {A : Type 0} (b : Bool) → b ≡ true → b ≡ false → A
contradicts b one two = absurd (false≢true (sym two ∙ one))

-- an edge that is put to a free key takes no place
born_put : (g : Graph) (new : EdgeRow) (key : EdgeKey) (birth : ℕ) → edge_at g new.key ≡ None → edge_stands_born g key birth ≡ true →
    edge_stands_born (changed g (PutsEdge new)) key birth ≡ true
born_put g new key birth free stood = ap (is_edge_born_at birth) (find-put_edge new g.edges key) ∙ by_hit (same_key new.key key) refl
  where
    by_hit : (hit : Bool) → same_key new.key key ≡ hit → is_edge_born_at birth (cond hit (Some new) (edge_at g key)) ≡ true
    by_hit true is =
        absurd (false≢true (sym (ap (is_edge_born_at birth) (sym (ap (λ (k : EdgeKey). edge_at g k) (same_key_is new.key key is)) ∙ free)) ∙ stood))
    by_hit false is = stood

-- only the edge that is taken leaves
born_taken : (g : Graph) (gone key : EdgeKey) (birth : ℕ) → edge_stands_born g key birth ≡ true → edge_stands_born (changed g (TakesEdge gone)) key birth ≡ false →
    gone ≡ key
born_taken g gone key birth stood left = by_hit (same_key gone key) refl (sym (ap (is_edge_born_at birth) (find-filter_edge gone g.edges key)) ∙ left)
  where
    by_hit : (hit : Bool) → same_key gone key ≡ hit → is_edge_born_at birth (cond hit None (edge_at g key)) ≡ false → gone ≡ key
    by_hit true is now = same_key_is gone key is
    by_hit false is now = absurd (false≢true (sym now ∙ stood))

born_put_item : (s : State) (it : Item) (o : Option Cause) (key : EdgeKey) (birth : ℕ) → judged s it ≡ o → edge_stands_born s.graph key birth ≡ true →
    edge_stands_born (changed s.graph (put_unless o it)) key birth ≡ true
born_put_item s it (Some c) key birth is stood = stood
born_put_item s (item.Object job row) None key birth is stood = stood
born_put_item s (item.Edge job row from_birth to_birth) None key birth is stood =
    born_put s.graph row key birth (fits_of s job row from_birth to_birth is).key_is_free stood

born_put_change : (s : State) (o : Option Logged) (key : EdgeKey) (birth : ℕ) → edge_stands_born s.graph key birth ≡ true →
    edge_stands_born (changed s.graph (put_change s o)) key birth ≡ true
born_put_change s None key birth stood = stood
born_put_change s (Some logged) key birth stood = born_put_item s logged.item (judged s logged.item) key birth refl stood

born_by : (s : State) (moment : ℕ) (what : What) → is_allowed s moment what ≡ true → EdgesLeave s what (step s (record { moment = moment; what = what }))
born_by s moment (Create tag kind new size) line key birth stood left = contradicts _ stood left
born_by s moment (Update tag target size) line key birth stood left = contradicts _ stood left
born_by s moment (Link tag edge from to size) line key birth stood left =
    contradicts _
    (born_put s.graph (new_edge s edge from to size) key birth
    (key_free s (key_of edge from to) (none_of (refusals s moment (Link tag edge from to size)) line).1.1.1.1.1.1.1.0) stood) left
born_by s moment (Unlink tag edge from to name) line key birth stood left =
    let same : key_of edge from to ≡ key = born_taken s.graph (key_of edge from to) key birth stood left in
    ByUnlink tag name (ap (λ (k : EdgeKey). Unlink tag k.edge k.from k.to name) same)
born_by s moment (Delete tag root name) line key birth stood left = contradicts _ stood left
born_by s moment (Restore tag job) line key birth stood left = contradicts _ stood left
born_by s moment (Expire root) line key birth stood left = contradicts _ stood left
born_by s moment (Cut job edge from to) line key birth stood left =
    let same : key_of edge from to ≡ key = born_taken s.graph (key_of edge from to) key birth stood left in
    ByCut job (ap (λ (k : EdgeKey). Cut job k.edge k.from k.to) same)
    (subst (λ (k : EdgeKey). (is_owned_by s job k.from || is_owned_by s job k.to) ≡ true) same
    (and_parts (edge_stands s.graph (key_of edge from to)) (is_owned_by s job from || is_owned_by s job to) line).1)
born_by s moment (Erase job gone) line key birth stood left = contradicts _ stood left
born_by s moment (Put job i) line key birth stood left = contradicts _ (born_put_change s (slice_get s.items i) key birth stood) left
born_by s moment (Purge job) line key birth stood left = contradicts _ stood left

-- an edge that leaves is unlinked, or cut by a job that owns an end of it
pub edges_leave : (s : State) (e : Entry) → is_legal s e ≡ true → EdgesLeave s e.what (step s e)
edges_leave s e line = born_by s e.moment e.what (allowed_of s e line)
