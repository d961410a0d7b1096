-- Why each owned object is owned, over every legal history under checked rules.
use Rattle.std.proofs.Common.{◌≡◌, ℕ, zero, suc, ◌+◌, ◌<◌, ◌≤◌, Bool, true, false, cond, not, ◌&&◌, ◌||◌, eqb, ltb, leb, List, [], ◌∷◌, ◌++◌, length, take, drop, Option, Some, None, refl, sym, ap, ◌∙◌, subst, arith, inl, inr, ◌⊎◌, IsTrue}
use Rattle.std.proofs.lemmas.Bool.{and_parts, eqb-true, eq-eqb, false≢true, ltb-true, leb-true}
use Rattle.std.specs.Prelude.{find, is_some, is_none, slice_get}
use Rattle.std.specs.Option.{option_map}
use Rattle.delf_model.specs.declared.rows.ObjectRow.{ObjectRow}
use Rattle.delf_model.specs.declared.rows.EdgeKey.{EdgeKey}
use Rattle.delf_model.specs.declared.rows.Item.{Item}
use Rattle.delf_model.specs.declared.rows.Item.TheVariants as item
use Rattle.delf_model.specs.declared.call.Cause.{Cause}
use Rattle.delf_model.specs.declared.call.Refusal.TheVariants.{NotDirect}
use Rattle.delf_model.specs.declared.schema.ObjectRule.{ObjectRule}
use Rattle.delf_model.specs.declared.schema.ObjectRule.TheVariants.{Directly, DirectlyOnly, ByAny, ShortTtl, NotDeleted}
use Rattle.delf_model.specs.declared.schema.EdgeShape.{EdgeShape}
use Rattle.delf_model.specs.declared.schema.EdgeRule.{EdgeRule}
use Rattle.delf_model.specs.declared.schema.EdgeRule.TheVariants.{Deep, Shallow, Refcount}
use Rattle.delf_model.specs.declared.ids.JobName.{JobName}
use Rattle.delf_model.specs.declared.ids.JobName.TheVariants.{Named}
use Rattle.delf_model.specs.declared.entry.Entry.{Entry}
use Rattle.delf_model.specs.declared.entry.Tag.{Tag}
use Rattle.delf_model.specs.declared.entry.What.{What}
use Rattle.delf_model.specs.declared.entry.What.TheVariants.{Create, Update, Link, Unlink, Delete, Restore, Expire, Cut, Erase, Put, Purge}
use Rattle.delf_model.specs.RuleSet.{RuleSet, is_deep, is_refcount, is_deep_shape, is_refcount_shape, is_deep_rule, is_refcount_rule}
use Rattle.delf_model.specs.Checked.{KeepsRules, takes, takes_type, may_condemn, shape_may_condemn, rule_may_condemn, target_of, shape_to}
use Rattle.delf_model.specs.Graph.{Graph, PutsObject, TakesObject, RewritesObject, TakesEdge, changed, object_at, edge_stands, stands, is_born_at, rewritten, has_refs, has_kind, IsGraph}
use Rattle.delf_model.specs.State.{State, Logged, start, owner, is_owned_by}
use Rattle.delf_model.specs.Step.{step, run, after, graph_after, new_object, put_change, put_unless}
use Rattle.delf_model.specs.Owners.{key_of, unlink_start, condemns as passes_on}
use Rattle.delf_model.specs.Puts.{judged, taken}
use Rattle.delf_model.specs.Legal.{is_legal, is_legal_from, is_allowed, is_due_row, Legal}
use Rattle.delf_model.specs.Reply.{refusals, is_direct, not_direct_rule, not_direct_row, not_direct}
use Rattle.delf_model.specs.Sound.{ObjectsLeave}
use Rattle.delf_model.proofs.Graphs.{find-put_object, find-filter_object, find-rewritten}
use Rattle.delf_model.proofs.Lines.{none_of, allowed_of, numbered_of, name_free, edge_there}
use Rattle.delf_model.proofs.Leaves.{owner_is, objects_leave}
use Rattle.delf_model.proofs.Owners.{OwnedStand, stands_of}
use Rattle.delf_model.proofs.Plain.{plain_owner, owner_plain}
use Rattle.delf_model.proofs.Good.{Good, good_start, good_step, good_after}
use Rattle.delf_model.proofs.Runs.{legal_take, legal_drop, legal_at, run-take-drop}
use Rattle.order_laws.proofs.Ordered.{objects_rise_after}
use Rattle.history_laws.proofs.SameGraph.{edges_rise_after}
use Rattle.graph_laws.specs.Kinds.{WhyOwned, ByDelete, ByExpiry, ByUnlink, ThroughEdge, OwnedForCause, IsNotDeleted, NotDeletedStays, DirectlyOnlyIsRoot}
use Rattle.graph_laws.proofs.Typed.{Typed, RowTyped, EndsOf, AllEnds, typed_step, is_short_ttl}

-- a row of an object that stood before has the same type and due moment

abbrev pub SameRow : ObjectRow → ObjectRow → Type 0
SameRow old row = (old.kind ≡ row.kind) × (old.due ≡ row.due) × (old.birth ≡ row.birth)

same : (old row : ObjectRow) → Some old ≡ Some row → SameRow old row
same old row is = let one : old ≡ row = cc in (ap (λ (r : ObjectRow). r.kind) one, ap (λ (r : ObjectRow). r.due) one, ap (λ (r : ObjectRow). r.birth) one)

row_put : (g : Graph) (new : ObjectRow) (id : ℕ) (old row : ObjectRow) → object_at g new.id ≡ None → object_at g id ≡ Some old →
    object_at (changed g (PutsObject new)) id ≡ Some row → SameRow old row
row_put g new id old row free was now = by_hit (eqb new.id id) refl (sym (find-put_object new g.objects id) ∙ now)
  where
    by_hit : (hit : Bool) → eqb new.id id ≡ hit → cond hit (Some new) (object_at g id) ≡ Some row → SameRow old row
    by_hit true is found = absurd (let none : None ≡ Some old = sym free ∙ (ap (λ (n : ℕ). object_at g n) (eqb-true new.id id is) ∙ was) in cc none)
    by_hit false is found = same old row (sym was ∙ found)

row_taken : (g : Graph) (gone id : ℕ) (old row : ObjectRow) → object_at g id ≡ Some old → object_at (changed g (TakesObject gone)) id ≡ Some row → SameRow old row
row_taken g gone id old row was now = by_hit (eqb gone id) (sym (find-filter_object gone g.objects id) ∙ now)
  where
    by_hit : (hit : Bool) → cond hit None (object_at g id) ≡ Some row → SameRow old row
    by_hit true found = absurd (cc found)
    by_hit false found = same old row (sym was ∙ found)

row_rewritten : (g : Graph) (target at size id : ℕ) (old row : ObjectRow) → object_at g id ≡ Some old → object_at (changed g (RewritesObject target at size)) id ≡ Some row → SameRow old row
row_rewritten g target at size id old row was now =
    let is : Some (rewritten target at size old) ≡ Some row = sym (ap (option_map (rewritten target at size)) was) ∙ (sym (find-rewritten target at size g.objects id) ∙ now) in
    let one : SameRow (rewritten target at size old) row = same (rewritten target at size old) row is in
    by_hit (eqb old.id target) one
  where
    by_hit : (hit : Bool) → SameRow (cond hit (record old { at = at; size = size }) old) row → SameRow old row
    by_hit true one = (one.0, one.1, one.2)
    by_hit false one = one

free_of : (o : Option ObjectRow) → taken o ≡ None → o ≡ None
free_of None none = refl
free_of (Some row) none = absurd (cc none)

row_put_item : (s : State) (it : Item) (o : Option Cause) (id : ℕ) (old row : ObjectRow) → judged s it ≡ o → object_at s.graph id ≡ Some old →
    object_at (changed s.graph (put_unless o it)) id ≡ Some row → SameRow old row
row_put_item s it (Some c) id old row is was now = same old row (sym was ∙ now)
row_put_item s (item.Object job new) None id old row is was now = row_put s.graph new id old row (free_of (object_at s.graph new.id) is) was now
row_put_item s (item.Edge job new from_birth to_birth) None id old row is was now = same old row (sym was ∙ now)

row_put_change : (s : State) (o : Option Logged) (id : ℕ) (old row : ObjectRow) → object_at s.graph id ≡ Some old →
    object_at (changed s.graph (put_change s o)) id ≡ Some row → SameRow old row
row_put_change s None id old row was now = same old row (sym was ∙ now)
row_put_change s (Some logged) id old row was now = row_put_item s logged.item (judged s logged.item) id old row refl was now

pub row_was : (s : State) (moment : ℕ) (what : What) → is_allowed s moment what ≡ true → (id : ℕ) (old row : ObjectRow) → object_at s.graph id ≡ Some old →
    object_at (graph_after s moment what) id ≡ Some row → SameRow old row
row_was s moment (Create tag kind new size) line id old row was now =
    row_put s.graph (new_object s moment kind new size) id old row (name_free s new (none_of (refusals s moment (Create tag kind new size)) line).1.0) was now
row_was s moment (Update tag target size) line id old row was now = row_rewritten s.graph target s.len size id old row was now
row_was s moment (Link tag edge from to size) line id old row was now = same old row (sym was ∙ now)
row_was s moment (Unlink tag edge from to name) line id old row was now = same old row (sym was ∙ now)
row_was s moment (Delete tag root name) line id old row was now = same old row (sym was ∙ now)
row_was s moment (Restore tag job) line id old row was now = same old row (sym was ∙ now)
row_was s moment (Expire root) line id old row was now = same old row (sym was ∙ now)
row_was s moment (Cut job edge from to) line id old row was now = same old row (sym was ∙ now)
row_was s moment (Erase job gone) line id old row was now = row_taken s.graph gone id old row was now
row_was s moment (Put job i) line id old row was now = row_put_change s (slice_get s.items i) id old row was now
row_was s moment (Purge job) line id old row was now = same old row (sym was ∙ now)

-- why an object is owned

abbrev pub Owned : List Entry → State → Type 0
Owned h s = (id job : ℕ) (row : ObjectRow) → object_at s.graph id ≡ Some row → owner s id ≡ Some job → WhyOwned s.rules h job id row.kind row.due

stood : (o : Option ObjectRow) → is_some o ≡ true → (row : ObjectRow) × (o ≡ Some row)
stood None some = absurd (false≢true some)
stood (Some row) some = (row, refl)

-- an owner from before
kept : (h : List Entry) (s : State) (moment : ℕ) (what : What) → is_allowed s moment what ≡ true → OwnedStand s → Owned h s → (id job : ℕ) (row : ObjectRow) →
    object_at (graph_after s moment what) id ≡ Some row → owner s id ≡ Some job → WhyOwned s.rules h job id row.kind row.due
kept h s moment what line stand old id job row now own =
    let was = stood (object_at s.graph id) (stand id job own) in
    let one = row_was s moment what line id was.0 row was.1 now in
    subst (λ (n : ℕ). WhyOwned s.rules h job id row.kind n) one.1 (subst (λ (n : ℕ). WhyOwned s.rules h job id n was.0.due) one.0 (old id job was.0 was.1 own))

direct_of : (o : Option ObjectRule) → is_some o ≡ true → not_direct_rule o ≡ None → (rule : ObjectRule) × (o ≡ Some rule) × (is_direct rule ≡ true)
direct_of None some none = absurd (false≢true some)
direct_of (Some rule) some none = (rule, refl, by_hit (is_direct rule) none)
  where
    by_hit : (b : Bool) → cond b None (Some (NotDirect rule)) ≡ None → b ≡ true
    by_hit true is = refl
    by_hit false is = absurd (cc is)

ttl_of : (o : Option ObjectRule) → is_short_ttl o ≡ true → (seconds : ℕ) × (o ≡ Some (ShortTtl seconds))
ttl_of None is = absurd (false≢true is)
ttl_of (Some Directly) is = absurd (false≢true is)
ttl_of (Some DirectlyOnly) is = absurd (false≢true is)
ttl_of (Some ByAny) is = absurd (false≢true is)
ttl_of (Some (ShortTtl seconds)) is = (seconds, refl)
ttl_of (Some NotDeleted) is = absurd (false≢true is)

-- an edge type that condemns
rule_condemns : (rule : EdgeRule) (b : Bool) → (is_deep_rule rule || (is_refcount_rule rule && b)) ≡ true → rule_may_condemn rule ≡ true
rule_condemns Deep b is = refl
rule_condemns Shallow b is = is
rule_condemns Refcount b is = refl

condemns_of : (o : Option EdgeShape) (b : Bool) → (is_deep_shape o || (is_refcount_shape o && b)) ≡ true → shape_may_condemn o ≡ true
condemns_of None b is = is
condemns_of (Some shape) b is = rule_condemns shape.rule b is

count_condemns : (rule : EdgeRule) → is_refcount_rule rule ≡ true → rule_may_condemn rule ≡ true
count_condemns Deep is = refl
count_condemns Shallow is = is
count_condemns Refcount is = refl

refcount_condemns : (o : Option EdgeShape) → is_refcount_shape o ≡ true → shape_may_condemn o ≡ true
refcount_condemns None is = is
refcount_condemns (Some shape) is = count_condemns shape.rule is

-- the target of an edge whose type condemns is of a type that edges may condemn
taken_target : (s : State) → KeepsRules s.rules → AllEnds s.rules s.graph → (key : EdgeKey) → edge_stands s.graph key ≡ true → may_condemn s.rules key.edge ≡ true →
    (row : ObjectRow) → object_at s.graph key.to ≡ Some row → takes s.rules row.kind ≡ true
taken_target s checked ends key there passes row at =
    let end = ends key there in
    let one : end.3.0 ≡ row = some_is (sym end.3.1 ∙ at) in
    let kind_is : row.kind ≡ end.0.to = ap (λ (r : ObjectRow). r.kind) (sym one) ∙ end.3.2 in
    let to_is : target_of s.rules key.edge ≡ end.0.to = ap shape_to end.1 in
    ap (takes s.rules) (kind_is ∙ sym to_is) ∙ checked.taken key.edge passes
  where
    some_is : {a b : ObjectRow} → Some a ≡ Some b → a ≡ b
    some_is is = cc

unlinks : (s : State) (edge from to name : ℕ) → is_some (unlink_start s edge from to name) ≡ true → is_refcount s.rules edge ≡ true
unlinks s edge from to name some = by_hit (is_refcount s.rules edge) (not (has_refs s.rules (changed s.graph (TakesEdge (key_of edge from to))) to)) some
  where
    by_hit : (a b : Bool) → is_some {T = ℕ × JobName} (cond (a && b) (Some (to, Named name)) None) ≡ true → a ≡ true
    by_hit true b is = refl
    by_hit false b is = absurd (false≢true is)

hit_or_old : (hit : Bool) (x : ℕ) (o : Option ℕ) (job : ℕ) → cond hit (Some x) o ≡ Some job → ((hit ≡ true) × (x ≡ job)) ⊎ (o ≡ Some job)
hit_or_old true x o job is = inl (refl, (let one : x ≡ job = cc in one))
hit_or_old false x o job is = inr is

owner_or_none : (hit : Bool) (o : Option ℕ) (job : ℕ) → cond hit None o ≡ Some job → o ≡ Some job
owner_or_none true o job is = absurd (cc is)
owner_or_none false o job is = is

-- one entry more: an owner from before, or one that this entry gives
why_by : (f : ℕ → ℕ) (h : List Entry) (s : State) (moment : ℕ) (what : What) → slice_get h s.len ≡ Some (record { moment = moment; what = what }) → is_allowed s moment what ≡ true →
    KeepsRules s.rules → OwnedStand s → Typed f s → Owned h s → (id job : ℕ) (row : ObjectRow) → object_at (graph_after s moment what) id ≡ Some row →
    plain_owner s what id ≡ Some job → WhyOwned s.rules h job id row.kind row.due
why_by f h s moment (Create tag kind new size) there line checked stand typed old id job row now own =
    kept h s moment (Create tag kind new size) line stand old id job row now own
why_by f h s moment (Update tag target size) there line checked stand typed old id job row now own =
    kept h s moment (Update tag target size) line stand old id job row now own
why_by f h s moment (Link tag edge from to size) there line checked stand typed old id job row now own =
    kept h s moment (Link tag edge from to size) line stand old id job row now own
why_by f h s moment (Unlink tag edge from to name) there line checked stand typed old id job row now own =
    elim (hit_or_old (is_some (unlink_start s edge from to name) && eqb to id) s.len (owner s id) job own) [
      | inl new ↦ here (and_parts (is_some (unlink_start s edge from to name)) (eqb to id) new.0) new.1
      | inr was ↦ kept h s moment (Unlink tag edge from to name) line stand old id job row now was
    ]
  where
    here : (is_some (unlink_start s edge from to name) ≡ true) × (eqb to id ≡ true) → s.len ≡ job → WhyOwned s.rules h job id row.kind row.due
    here parts at =
        let counts = unlinks s edge from to name parts.0 in
        let one : to ≡ id = eqb-true to id parts.1 in
        ByUnlink (record { moment = moment; what = Unlink tag edge from to name }) tag edge from name
        (subst (λ (n : ℕ). slice_get h n ≡ Some (record { moment = moment; what = Unlink tag edge from to name })) at there)
        (ap (λ (n : ℕ). Unlink tag edge from n name) one) counts
        (taken_target s checked typed.ends (key_of edge from to)
        (edge_there s (key_of edge from to) (none_of (refusals s moment (Unlink tag edge from to name)) line).1.1.1.1.0)
        (refcount_condemns (slice_get s.rules.edges edge) counts) row (ap (λ (n : ℕ). object_at s.graph n) one ∙ now))
why_by f h s moment (Delete tag root name) there line checked stand typed old id job row now own =
    elim (hit_or_old (eqb root id) s.len (owner s id) job own) [
      | inl new ↦ here (eqb-true root id new.0) new.1
      | inr was ↦ kept h s moment (Delete tag root name) line stand old id job row now was
    ]
  where
    here : root ≡ id → s.len ≡ job → WhyOwned s.rules h job id row.kind row.due
    here one at =
        let refused = none_of (refusals s moment (Delete tag root name)) line in
        let at_root : object_at s.graph root ≡ Some row = ap (λ (n : ℕ). object_at s.graph n) one ∙ now in
        let direct = direct_of (slice_get s.rules.objects row.kind) (typed.rows id row now).declared (sym (ap (not_direct_row s.rules) at_root) ∙ refused.1.1.0) in
        ByDelete (record { moment = moment; what = Delete tag root name }) tag name direct.0
        (subst (λ (n : ℕ). slice_get h n ≡ Some (record { moment = moment; what = Delete tag root name })) at there)
        (ap (λ (n : ℕ). Delete tag n name) one) direct.1 direct.2
why_by f h s moment (Restore tag which) there line checked stand typed old id job row now own =
    kept h s moment (Restore tag which) line stand old id job row now own
why_by f h s moment (Expire root) there line checked stand typed old id job row now own =
    elim (hit_or_old (eqb root id) s.len (owner s id) job own) [
      | inl new ↦ here (eqb-true root id new.0) new.1
      | inr was ↦ kept h s moment (Expire root) line stand old id job row now was
    ]
  where
    here : root ≡ id → s.len ≡ job → WhyOwned s.rules h job id row.kind row.due
    here one at =
        let at_root : object_at s.graph root ≡ Some row = ap (λ (n : ℕ). object_at s.graph n) one ∙ now in
        let due : (ltb 0 row.due && leb row.due moment) ≡ true =
        sym (ap (is_due_row moment) at_root) ∙ (and_parts (is_due_row moment (object_at s.graph root)) (is_none (owner s root)) line).0 in
        let parts = and_parts (ltb 0 row.due) (leb row.due moment) due in
        let ttl = ttl_of (slice_get s.rules.objects row.kind) ((typed.rows id row now).expires parts.0) in
        ByExpiry (record { moment = moment; what = Expire root }) ttl.0
        (subst (λ (n : ℕ). slice_get h n ≡ Some (record { moment = moment; what = Expire root })) at there)
        (ap (λ (n : ℕ). Expire n) one) ttl.1 (ltb-true 0 row.due parts.0) (leb-true row.due moment parts.1)
why_by f h s moment (Cut which edge from to) there line checked stand typed old id job row now own =
    elim (hit_or_old (eqb to id && is_none (owner s to) && passes_on s.rules (changed s.graph (TakesEdge (key_of edge from to))) (key_of edge from to)) which (owner s id) job own) [
      | inl new ↦ here new.0 new.1
      | inr was ↦ kept h s moment (Cut which edge from to) line stand old id job row now was
    ]
  where
    here : (eqb to id && is_none (owner s to) && passes_on s.rules (changed s.graph (TakesEdge (key_of edge from to))) (key_of edge from to)) ≡ true → which ≡ job →
        WhyOwned s.rules h job id row.kind row.due
    here hit at =
        let parts = and_parts (eqb to id && is_none (owner s to)) (passes_on s.rules (changed s.graph (TakesEdge (key_of edge from to))) (key_of edge from to)) hit in
        let one : to ≡ id = eqb-true to id (and_parts (eqb to id) (is_none (owner s to)) parts.0).0 in
        let passes : may_condemn s.rules edge ≡ true =
        condemns_of (slice_get s.rules.edges edge) (not (has_refs s.rules (changed s.graph (TakesEdge (key_of edge from to))) to)) parts.1 in
        ThroughEdge s.len (record { moment = moment; what = Cut which edge from to }) edge from there
        (ap (λ (n : ℕ). Cut n edge from to) at ∙ ap (λ (n : ℕ). Cut job edge from n) one) passes
        (taken_target s checked typed.ends (key_of edge from to) (and_parts (edge_stands s.graph (key_of edge from to)) (is_owned_by s which from || is_owned_by s which to) line).0
        passes row (ap (λ (n : ℕ). object_at s.graph n) one ∙ now))
why_by f h s moment (Erase which gone) there line checked stand typed old id job row now own =
    kept h s moment (Erase which gone) line stand old id job row now (owner_or_none (eqb gone id) (owner s id) job own)
why_by f h s moment (Put which i) there line checked stand typed old id job row now own = kept h s moment (Put which i) line stand old id job row now own
why_by f h s moment (Purge which) there line checked stand typed old id job row now own = kept h s moment (Purge which) line stand old id job row now own

-- runs of a history

abbrev pub kind_of : What → ℕ
kind_of (Create tag kind id size) = kind
kind_of (Update tag id size) = 0
kind_of (Link tag edge from to size) = 0
kind_of (Unlink tag edge from to name) = 0
kind_of (Delete tag id name) = 0
kind_of (Restore tag job) = 0
kind_of (Expire id) = 0
kind_of (Cut job edge from to) = 0
kind_of (Erase job id) = 0
kind_of (Put job i) = 0
kind_of (Purge job) = 0

abbrev pub kind_of_entry : Option Entry → ℕ
kind_of_entry None = 0
kind_of_entry (Some e) = kind_of e.what

-- the type that the entry at this position gives a new object
abbrev pub kind_in : List Entry → ℕ → ℕ
kind_in h p = kind_of_entry (slice_get h p)

-- the entries from the state's length on are those of the history
abbrev pub Goes : List Entry → State → List Entry → Type 0
Goes h s es = (j : ℕ) (e : Entry) → slice_get es j ≡ Some e → slice_get h (s.len + j) ≡ Some e

here_of : (h : List Entry) (s : State) (e : Entry) (es : List Entry) → Goes h s (e ∷ es) → slice_get h s.len ≡ Some e
here_of h s e es goes = subst (λ (n : ℕ). slice_get h n ≡ Some e) (no_more s.len) (goes 0 e refl)
  where
    no_more : (n : ℕ) → n + 0 ≡ n
    no_more n = omega arith

rest_of : (h : List Entry) (s : State) (e : Entry) (es : List Entry) → Goes h s (e ∷ es) → Goes h (step s e) es
rest_of h s e es goes j x at = subst (λ (n : ℕ). slice_get h n ≡ Some x) (sym (moved s.len j)) (goes (suc j) x at)
  where
    moved : (a b : ℕ) → a + 1 + b ≡ a + suc b
    moved a b = omega arith

goes_start : (rules : RuleSet) (h : List Entry) → Goes h (start rules) h
goes_start rules h j e at = subst (λ (n : ℕ). slice_get h n ≡ Some e) (sym (from_zero j)) at
  where
    from_zero : (n : ℕ) → 0 + n ≡ n
    from_zero n = omega arith

typed_next : (h : List Entry) (s : State) (e : Entry) → slice_get h s.len ≡ Some e → is_legal s e ≡ true → Typed (kind_in h) s → Typed (kind_in h) (step s e)
typed_next h s e there legal old =
    typed_step (kind_in h) s e.moment e.what (numbered_of s e legal) (allowed_of s e legal) (λ tag kind id size is. ap kind_of_entry there ∙ ap kind_of is) old

typed_run : (h : List Entry) (s : State) (es : List Entry) → Goes h s es → is_legal_from s es ≡ true → Typed (kind_in h) s → Typed (kind_in h) (run s es)
typed_run h s [] goes legal old = old
typed_run h s (e ∷ es) goes legal old =
    let parts = and_parts (is_legal s e) (is_legal_from (step s e) es) legal in
    typed_run h (step s e) es (rest_of h s e es goes) parts.1 (typed_next h s e (here_of h s e es goes) parts.0 old)

typed_start : (f : ℕ → ℕ) (rules : RuleSet) → Typed f (start rules)
typed_start f rules = record { rows = λ id row at. absurd (cc at); ends = λ key stands. absurd (cc stands); items = tt }

rules_run : (s : State) (es : List Entry) → (run s es).rules ≡ s.rules
rules_run s [] = refl
rules_run s (e ∷ es) = rules_run (step s e) es

pub typed_after : (rules : RuleSet) (h : List Entry) → Legal rules h → Typed (kind_in h) (after rules h)
typed_after rules h legal = typed_run h (start rules) h (goes_start rules h) legal (typed_start (kind_in h) rules)

pub graph_of_rules : (rules : RuleSet) (h : List Entry) → Legal rules h → IsGraph rules (after rules h).graph
graph_of_rules rules h legal = record {
  objects_in_order = objects_rise_after rules h legal;
  edges_in_order = edges_rise_after rules h legal;
  ends = subst (λ (r : RuleSet). AllEnds r (after rules h).graph) (rules_run (start rules) h) (typed_after rules h legal).ends;
}

-- all that is kept under checked rules
record Known (h : List Entry) (s : State) : Type 0 where
  pub good : Good s
  pub checked : KeepsRules s.rules
  pub typed : Typed (kind_in h) s
  pub owned : Owned h s

known_step : (h : List Entry) (s : State) (e : Entry) → slice_get h s.len ≡ Some e → is_legal s e ≡ true → Known h s → Known h (step s e)
known_step h s e there legal old = record {
  good = good_step s e old.good legal;
  checked = old.checked;
  typed = typed_next h s e there legal old.typed;
  owned = λ id job row now own.
      why_by (kind_in h) h s e.moment e.what there (allowed_of s e legal) old.checked old.good.owned_stand old.typed old.owned id job row now
      (sym (owner_plain s e.moment e.what legal old.good.owned_stand old.good.ends id) ∙ own);
}

known_run : (h : List Entry) (s : State) (es : List Entry) → Goes h s es → is_legal_from s es ≡ true → Known h s → Known h (run s es)
known_run h s [] goes legal old = old
known_run h s (e ∷ es) goes legal old =
    let parts = and_parts (is_legal s e) (is_legal_from (step s e) es) legal in
    known_run h (step s e) es (rest_of h s e es goes) parts.1 (known_step h s e (here_of h s e es goes) parts.0 old)

known_start : (h : List Entry) (rules : RuleSet) → KeepsRules rules → Known h (start rules)
known_start h rules checked = record {
  good = good_start rules;
  checked = checked;
  typed = typed_start (kind_in h) rules;
  owned = λ id job row at own. absurd (cc at);
}

known_after : (rules : RuleSet) (h : List Entry) → KeepsRules rules → Legal rules h → Known h (after rules h)
known_after rules h checked legal = known_run h (start rules) h (goes_start rules h) legal (known_start h rules checked)

why_after : (rules : RuleSet) (h : List Entry) → KeepsRules rules → Legal rules h → (id job : ℕ) (row : ObjectRow) → object_at (after rules h).graph id ≡ Some row →
    owner (after rules h) id ≡ Some job → WhyOwned rules h job id row.kind row.due
why_after rules h checked legal id job row at own =
    subst (λ (r : RuleSet). WhyOwned r h job id row.kind row.due) (rules_run (start rules) h) ((known_after rules h checked legal).owned id job row at own)

pub owned_for_cause : (rules : RuleSet) (h : List Entry) → KeepsRules rules → Legal rules h → OwnedForCause rules h
owned_for_cause rules h checked legal = record { why = why_after rules h checked legal }

-- types that no edge condemns

rule_is : {a b : ObjectRule} → Some a ≡ Some b → a ≡ b
rule_is is = cc

never : (rules : RuleSet) (h : List Entry) (job id kind due : ℕ) → slice_get rules.objects kind ≡ Some NotDeleted → WhyOwned rules h job id kind due → ⊥
never rules h job id kind due is (ByDelete e tag name rule at what found direct) = false≢true (sym (ap is_direct (rule_is (sym found ∙ is))) ∙ direct)
never rules h job id kind due is (ByExpiry e seconds at what found later passed) = let both : Some (ShortTtl seconds) ≡ Some NotDeleted = sym found ∙ is in cc both
never rules h job id kind due is (ByUnlink e tag edge from name at what counts takes_it) = false≢true (sym (ap takes_type is) ∙ takes_it)
never rules h job id kind due is (ThroughEdge p e edge from at what passes takes_it) = false≢true (sym (ap takes_type is) ∙ takes_it)

root_alone : (rules : RuleSet) (h : List Entry) (job id kind due : ℕ) → slice_get rules.objects kind ≡ Some DirectlyOnly → WhyOwned rules h job id kind due →
    (e : Entry) × (tag : Tag) × (name : ℕ) × (slice_get h job ≡ Some e) × (e.what ≡ Delete tag id name)
root_alone rules h job id kind due is (ByDelete e tag name rule at what found direct) = (e, tag, name, at, what)
root_alone rules h job id kind due is (ByExpiry e seconds at what found later passed) = absurd (let both : Some (ShortTtl seconds) ≡ Some DirectlyOnly = sym found ∙ is in cc both)
root_alone rules h job id kind due is (ByUnlink e tag edge from name at what counts takes_it) = absurd (false≢true (sym (ap takes_type is) ∙ takes_it))
root_alone rules h job id kind due is (ThroughEdge p e edge from at what passes takes_it) = absurd (false≢true (sym (ap takes_type is) ∙ takes_it))

pub directly_only_is_root : (rules : RuleSet) (h : List Entry) → KeepsRules rules → Legal rules h → DirectlyOnlyIsRoot rules h
directly_only_is_root rules h checked legal id job row at is own = root_alone rules h job id row.kind row.due is (why_after rules h checked legal id job row at own)

no_owner : (o : Option ℕ) → ((job : ℕ) → o ≡ Some job → ⊥) → o ≡ None
no_owner None apart = refl
no_owner (Some job) apart = absurd (apart job refl)

unowned : (rules : RuleSet) (h : List Entry) → KeepsRules rules → Legal rules h → (id : ℕ) (row : ObjectRow) → object_at (after rules h).graph id ≡ Some row →
    IsNotDeleted rules row → owner (after rules h) id ≡ None
unowned rules h checked legal id row at is =
    no_owner (owner (after rules h) id) (λ job own. never rules h job id row.kind row.due is (why_after rules h checked legal id job row at own))

erased_none : (s : State) (e : Entry) (job id : ℕ) → is_legal s e ≡ true → e.what ≡ Erase job id → owner s id ≡ Some job
erased_none s e job id legal is =
    owner_is s job id (and_parts (is_owned_by s job id) _ (subst (λ (w : What). is_allowed s e.moment w ≡ true) is (allowed_of s e legal))).0

-- what stands with a birth of a type that is never deleted stands after one entry more
stays_step : (h : List Entry) (s : State) (e : Entry) (id birth : ℕ) → is_legal s e ≡ true → Known h s → slice_get s.rules.objects (kind_in h birth) ≡ Some NotDeleted →
    stands s.graph id birth ≡ true → stands (step s e).graph id birth ≡ true
stays_step h s e id birth legal known is stood_here = by_stood (stands (step s e).graph id birth) refl
  where
    owned_row : (o : Option ObjectRow) → object_at s.graph id ≡ o → is_born_at birth o ≡ true → (job : ℕ) → owner s id ≡ Some job → ⊥
    owned_row None at born job own = false≢true born
    owned_row (Some row) at born job own =
        let kind_is : kind_in h birth ≡ row.kind = ap (kind_in h) (sym (eqb-true row.birth birth born)) ∙ (known.typed.rows id row at).of_birth in
        never s.rules h job id row.kind row.due (subst (λ (n : ℕ). slice_get s.rules.objects n ≡ Some NotDeleted) kind_is is) (known.owned id job row at own)

    by_stood : (b : Bool) → stands (step s e).graph id birth ≡ b → b ≡ true
    by_stood true now = refl
    by_stood false now = absurd (let left = objects_leave s e legal id birth stood_here now in owned_row (object_at s.graph id) refl stood_here left.0 left.1)

stays_run : (h : List Entry) (s : State) (es : List Entry) (id birth : ℕ) → Goes h s es → is_legal_from s es ≡ true → Known h s →
    slice_get s.rules.objects (kind_in h birth) ≡ Some NotDeleted → stands s.graph id birth ≡ true → stands (run s es).graph id birth ≡ true
stays_run h s [] id birth goes legal known is here = here
stays_run h s (e ∷ es) id birth goes legal known is here =
    let parts = and_parts (is_legal s e) (is_legal_from (step s e) es) legal in
    stays_run h (step s e) es id birth (rest_of h s e es goes) parts.1 (known_step h s e (here_of h s e es goes) parts.0 known) is
    (stays_step h s e id birth parts.0 known is here)

stays_here : (h : List Entry) (s : State) (es : List Entry) (id : ℕ) (row : ObjectRow) → Goes h s es → is_legal_from s es ≡ true → Known h s →
    object_at s.graph id ≡ Some row → IsNotDeleted s.rules row → stands (run s es).graph id row.birth ≡ true
stays_here h s es id row goes legal known at is =
    stays_run h s es id row.birth goes legal known (subst (λ (n : ℕ). slice_get s.rules.objects n ≡ Some NotDeleted) (sym (known.typed.rows id row at).of_birth) is)
    (stands_of s.graph id row at)

stays_from : (h : List Entry) (s : State) (es : List Entry) (p id : ℕ) (row : ObjectRow) → Goes h s es → is_legal_from s es ≡ true → Known h s →
    object_at (run s (take p es)).graph id ≡ Some row → IsNotDeleted s.rules row → stands (run s es).graph id row.birth ≡ true
stays_from h s es zero id row goes legal known at is = stays_here h s es id row goes legal known at is
stays_from h s [] (suc p) id row goes legal known at is = stays_here h s [] id row goes legal known at is
stays_from h s (e ∷ es) (suc p) id row goes legal known at is =
    let parts = and_parts (is_legal s e) (is_legal_from (step s e) es) legal in
    stays_from h (step s e) es p id row (rest_of h s e es goes) parts.1 (known_step h s e (here_of h s e es goes) parts.0 known) at is

pub not_deleted_stays : (rules : RuleSet) (h : List Entry) → KeepsRules rules → Legal rules h → NotDeletedStays rules h
not_deleted_stays rules h checked legal = record {
  never_owned = λ p id row at is. unowned rules (take p h) checked (legal_take (start rules) h p legal) id row at is;
  never_erased = λ p job id e row there what at is.
      (let none : None ≡ Some job =
      sym (unowned rules (take p h) checked (legal_take (start rules) h p legal) id row at is) ∙
      erased_none (after rules (take p h)) e job id (legal_at (start rules) h p e legal there) what in cc none);
  stays = λ p id row at is. stays_from h (start rules) h p id row (goes_start rules h) legal (known_start h rules checked) at is;
}
