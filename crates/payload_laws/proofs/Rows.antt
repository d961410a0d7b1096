-- What an entry does to the rows of the graph and to the items.
use Rattle.std.proofs.Common.{◌≡◌, ℕ, Bool, true, false, cond, eqb, Option, Some, None, refl, sym, ap, ◌∙◌, subst, inl, inr, ◌⊎◌}
use Rattle.std.proofs.lemmas.Bool.{and_from, eqb-true, eq-eqb, false≢true, not-true, not_from_false}
use Rattle.std.specs.Prelude.{map, slice_get, is_none}
use Rattle.delf_model.specs.declared.rows.ObjectRow.{ObjectRow}
use Rattle.delf_model.specs.declared.rows.EdgeKey.{EdgeKey}
use Rattle.delf_model.specs.declared.rows.EdgeRow.{EdgeRow}
use Rattle.delf_model.specs.declared.rows.Item.{Item}
use Rattle.delf_model.specs.declared.rows.Item.TheVariants as item
use Rattle.delf_model.specs.declared.call.Cause.{Cause}
use Rattle.delf_model.specs.declared.entry.What.{What}
use Rattle.delf_model.specs.declared.entry.What.TheVariants.{Create, Update, Link, Unlink, Delete, Restore, Expire, Cut, Erase, Put, Purge}
use Rattle.delf_model.specs.Graph.{Graph, Change, Same, PutsObject, TakesObject, RewritesObject, PutsEdge, TakesEdge, changed, has_id, has_key, same_key, is_other_object, is_other_edge, rewritten, object_at, edge_at}
use Rattle.delf_model.specs.State.{State, Logged, Handled, position_of, size_of, job_of, is_restored, is_open}
use Rattle.delf_model.specs.Step.{graph_after, change_of, put_change, put_unless, put_of_item}
use Rattle.delf_model.specs.Owners.{key_of}
use Rattle.delf_model.specs.Puts.{judged, taken, end_cause, key_taken}
use Rattle.std.specs.Option.{option_or}
use Rattle.delf_model.specs.Legal.{is_allowed}
use Rattle.delf_model.specs.Reply.{refusals}
use Rattle.delf_model.proofs.Graphs.{same_key_is, same_key_refl}
use Rattle.delf_model.proofs.Lines.{none_of, name_free, key_free}
use Rattle.delf_model.proofs.Places.{MayPut, may_put_of}
use Rattle.payload_laws.specs.Holders.{record_size, brings}
use Rattle.payload_laws.proofs.Members.{In, none_found, in_filter, in_kept, in_map, in_mapped, in_put_object, put_object_keeps, in_put_edge, put_edge_keeps}

-- what a payload belongs to, and what the entry at a position serves
pub data Source : Type 0 where
  OfNone : Source
  OfObject : (id : ℕ) → Source
  OfEdge : (key : EdgeKey) → Source
  OfPut : (item : ℕ) → Source

pub object_is : {a b : ℕ} → OfObject a ≡ OfObject b → a ≡ b
object_is is = cc

pub edge_is : {a b : EdgeKey} → OfEdge a ≡ OfEdge b → a ≡ b
edge_is is = cc

-- the source that an entry serves
abbrev pub source_of : What → Source
source_of (Create tag kind id size) = OfObject id
source_of (Update tag id size) = OfObject id
source_of (Link tag edge from to size) = OfEdge (key_of edge from to)
source_of (Unlink tag edge from to name) = OfNone
source_of (Delete tag id name) = OfNone
source_of (Restore tag job) = OfNone
source_of (Expire id) = OfNone
source_of (Cut job edge from to) = OfNone
source_of (Erase job id) = OfNone
source_of (Put job i) = OfPut i
source_of (Purge job) = OfNone

-- the source whose payload an entry takes from the graph
abbrev pub gone_of : What → Source
gone_of (Create tag kind id size) = OfNone
gone_of (Update tag id size) = OfObject id
gone_of (Link tag edge from to size) = OfNone
gone_of (Unlink tag edge from to name) = OfEdge (key_of edge from to)
gone_of (Delete tag id name) = OfNone
gone_of (Restore tag job) = OfNone
gone_of (Expire id) = OfNone
gone_of (Cut job edge from to) = OfEdge (key_of edge from to)
gone_of (Erase job id) = OfObject id
gone_of (Put job i) = OfNone
gone_of (Purge job) = OfNone

abbrev pub source_of_item : Item → Source
source_of_item (item.Object job row) = OfObject row.id
source_of_item (item.Edge job row from_birth to_birth) = OfEdge row.key

-- a row of the graph holds a payload of this size, given at this position
pub data Holds (g : Graph) (source : Source) (p size : ℕ) : Type 0 where
  ByObject : (row : ObjectRow) → In g.objects row → source ≡ OfObject row.id → p ≡ row.at → size ≡ row.size → Holds g source p size
  ByEdge : (row : EdgeRow) → In g.edges row → source ≡ OfEdge row.key → p ≡ row.birth → size ≡ row.size → Holds g source p size

pub not_none : (g : Graph) (source : Source) (p size : ℕ) → Holds g source p size → OfNone ≡ source → ⊥
not_none g source p size (ByObject row here is at sized) none = cc (none, is)
not_none g source p size (ByEdge row here is at sized) none = cc (none, is)

pub not_put : (g : Graph) (source : Source) (p size i : ℕ) → Holds g source p size → source ≡ OfPut i → ⊥
not_put g source p size i (ByObject row here is at sized) put = cc (put, is)
not_put g source p size i (ByEdge row here is at sized) put = cc (put, is)

pub item_not_none : (it : Item) → OfNone ≡ source_of_item it → ⊥
item_not_none (item.Object job row) none = cc none
item_not_none (item.Edge job row from_birth to_birth) none = cc none

pub item_not_put : (it : Item) (i : ℕ) → source_of_item it ≡ OfPut i → ⊥
item_not_put (item.Object job row) i put = cc put
item_not_put (item.Edge job row from_birth to_birth) i put = cc put

-- the graph after a change

abbrev pub gone_by : Change → Source
gone_by Same = OfNone
gone_by (PutsObject row) = OfNone
gone_by (TakesObject id) = OfObject id
gone_by (RewritesObject id at size) = OfObject id
gone_by (PutsEdge row) = OfNone
gone_by (TakesEdge key) = OfEdge key

abbrev pub put_source : Change → Source
put_source Same = OfNone
put_source (PutsObject row) = OfObject row.id
put_source (TakesObject id) = OfNone
put_source (RewritesObject id at size) = OfNone
put_source (PutsEdge row) = OfEdge row.key
put_source (TakesEdge key) = OfNone

-- what a change puts
abbrev pub PutOf : Change → Source → ℕ → ℕ → Type 0
PutOf Same source p size = ⊥
PutOf (PutsObject row) source p size = (source ≡ OfObject row.id) × (p ≡ row.at) × (size ≡ row.size)
PutOf (TakesObject id) source p size = ⊥
PutOf (RewritesObject id at given) source p size = (source ≡ OfObject id) × (p ≡ at) × (size ≡ given)
PutOf (PutsEdge row) source p size = (source ≡ OfEdge row.key) × (p ≡ row.birth) × (size ≡ row.size)
PutOf (TakesEdge key) source p size = ⊥

abbrev pub Kept : Graph → Change → Source → ℕ → ℕ → Type 0
Kept g c source p size = Holds g source p size × (gone_by c ≡ source → ⊥)

kept_same : (g : Graph) (c : Change) (source : Source) (p size : ℕ) → gone_by c ≡ OfNone → Holds g source p size → Kept g c source p size
kept_same g c source p size none held = (held, λ gone. not_none g source p size held (sym none ∙ gone))

rewritten_now : (g : Graph) (id at given : ℕ) (source : Source) (p size : ℕ) (old row : ObjectRow) → In g.objects old → rewritten id at given old ≡ row →
    source ≡ OfObject row.id → p ≡ row.at → size ≡ row.size → Kept g (RewritesObject id at given) source p size ⊎ PutOf (RewritesObject id at given) source p size
rewritten_now g id at given source p size old row here made is position sized = by_hit (eqb old.id id) refl made
  where
    by_hit : (b : Bool) → eqb old.id id ≡ b → cond b (record old { at = at; size = given }) old ≡ row →
        Kept g (RewritesObject id at given) source p size ⊎ PutOf (RewritesObject id at given) source p size
    by_hit true hit new =
        inr (
          is ∙ ap (λ (r : ObjectRow). OfObject r.id) (sym new) ∙ ap OfObject (eqb-true old.id id hit),
          position ∙ ap (λ (r : ObjectRow). r.at) (sym new),
          sized ∙ ap (λ (r : ObjectRow). r.size) (sym new),
        )
    by_hit false hit new =
        inl (
          ByObject old here (is ∙ ap (λ (r : ObjectRow). OfObject r.id) (sym new)) (position ∙ ap (λ (r : ObjectRow). r.at) (sym new)) (sized ∙ ap (λ (r : ObjectRow). r.size) (sym new)),
          λ gone. false≢true (sym hit ∙ eq-eqb old.id id (sym (object_is (gone ∙ (is ∙ ap (λ (r : ObjectRow). OfObject r.id) (sym new)))))),
        )

-- a row after a change is an old one that the change did not take, or what it puts
changed_now : (g : Graph) (c : Change) (source : Source) (p size : ℕ) → Holds (changed g c) source p size → Kept g c source p size ⊎ PutOf c source p size
changed_now g Same source p size held = inl (kept_same g Same source p size refl held)
changed_now g (PutsObject new) source p size (ByObject row here is at sized) =
    elim (in_put_object new g.objects row here) [
      | inl same ↦
          inr (
            is ∙ ap (λ (r : ObjectRow). OfObject r.id) (sym same),
            at ∙ ap (λ (r : ObjectRow). r.at) (sym same),
            sized ∙ ap (λ (r : ObjectRow). r.size) (sym same),
          )
      | inr old ↦ inl (kept_same g (PutsObject new) source p size refl (ByObject row old is at sized))
    ]
changed_now g (PutsObject new) source p size (ByEdge row here is at sized) = inl (kept_same g (PutsObject new) source p size refl (ByEdge row here is at sized))
changed_now g (TakesObject id) source p size (ByObject row here is at sized) =
    let old = in_filter (is_other_object id) g.objects row here in
    inl (ByObject row old.0 is at sized, λ gone. false≢true (sym (not-true (eqb row.id id) old.1) ∙ eq-eqb row.id id (sym (object_is (gone ∙ is)))))
changed_now g (TakesObject id) source p size (ByEdge row here is at sized) = inl (ByEdge row here is at sized, λ gone. cc (gone, is))
changed_now g (RewritesObject id new given) source p size (ByObject row here is at sized) =
    let old = in_map (rewritten id new given) g.objects row here in
    rewritten_now g id new given source p size old.0 row old.1 old.2 is at sized
changed_now g (RewritesObject id new given) source p size (ByEdge row here is at sized) = inl (ByEdge row here is at sized, λ gone. cc (gone, is))
changed_now g (PutsEdge new) source p size (ByObject row here is at sized) = inl (kept_same g (PutsEdge new) source p size refl (ByObject row here is at sized))
changed_now g (PutsEdge new) source p size (ByEdge row here is at sized) =
    elim (in_put_edge new g.edges row here) [
      | inl same ↦
          inr (
            is ∙ ap (λ (r : EdgeRow). OfEdge r.key) (sym same),
            at ∙ ap (λ (r : EdgeRow). r.birth) (sym same),
            sized ∙ ap (λ (r : EdgeRow). r.size) (sym same),
          )
      | inr old ↦ inl (kept_same g (PutsEdge new) source p size refl (ByEdge row old is at sized))
    ]
changed_now g (TakesEdge key) source p size (ByObject row here is at sized) = inl (ByObject row here is at sized, λ gone. cc (gone, is))
changed_now g (TakesEdge key) source p size (ByEdge row here is at sized) =
    let old = in_filter (is_other_edge key) g.edges row here in
    inl (
      ByEdge row old.0 is at sized,
      λ gone. false≢true (sym (not-true (same_key row.key key) old.1) ∙ (ap (λ (k : EdgeKey). same_key row.key k) (edge_is (gone ∙ is)) ∙ same_key_refl row.key)),
    )

rewritten_kept : (g : Graph) (id at given : ℕ) (source : Source) (p size : ℕ) (row : ObjectRow) → In g.objects row → source ≡ OfObject row.id → p ≡ row.at → size ≡ row.size →
    Holds (changed g (RewritesObject id at given)) source p size ⊎ (OfObject id ≡ source)
rewritten_kept g id at given source p size row here is position sized = by_hit (eqb row.id id) refl (in_mapped (rewritten id at given) g.objects row here)
  where
    by_hit : (b : Bool) → eqb row.id id ≡ b → In (map (rewritten id at given) g.objects) (cond b (record row { at = at; size = given }) row) →
        Holds (changed g (RewritesObject id at given)) source p size ⊎ (OfObject id ≡ source)
    by_hit true hit there = inr (sym (is ∙ ap OfObject (eqb-true row.id id hit)))
    by_hit false hit there = inl (ByObject row there is position sized)

-- a row stays, but for what the change takes and where it puts another over it
changed_keeps : (g : Graph) (c : Change) (source : Source) (p size : ℕ) → Holds g source p size → (put_source c ≡ source → ⊥) →
    Holds (changed g c) source p size ⊎ (gone_by c ≡ source)
changed_keeps g Same source p size held apart = inl held
changed_keeps g (PutsObject new) source p size (ByObject row here is at sized) apart =
    inl (ByObject row (put_object_keeps new g.objects row here (λ same. apart (sym (is ∙ ap OfObject same)))) is at sized)
changed_keeps g (PutsObject new) source p size (ByEdge row here is at sized) apart = inl (ByEdge row here is at sized)
changed_keeps g (TakesObject id) source p size (ByObject row here is at sized) apart = by_hit (eqb row.id id) refl
  where
    by_hit : (b : Bool) → eqb row.id id ≡ b → Holds (changed g (TakesObject id)) source p size ⊎ (OfObject id ≡ source)
    by_hit true hit = inr (sym (is ∙ ap OfObject (eqb-true row.id id hit)))
    by_hit false hit = inl (ByObject row (in_kept (is_other_object id) g.objects row here (not_from_false (eqb row.id id) hit)) is at sized)
changed_keeps g (TakesObject id) source p size (ByEdge row here is at sized) apart = inl (ByEdge row here is at sized)
changed_keeps g (RewritesObject id new given) source p size (ByObject row here is at sized) apart = rewritten_kept g id new given source p size row here is at sized
changed_keeps g (RewritesObject id new given) source p size (ByEdge row here is at sized) apart = inl (ByEdge row here is at sized)
changed_keeps g (PutsEdge new) source p size (ByObject row here is at sized) apart = inl (ByObject row here is at sized)
changed_keeps g (PutsEdge new) source p size (ByEdge row here is at sized) apart =
    inl (ByEdge row (put_edge_keeps new g.edges row here (λ same. apart (sym (is ∙ ap OfEdge same)))) is at sized)
changed_keeps g (TakesEdge key) source p size (ByObject row here is at sized) apart = inl (ByObject row here is at sized)
changed_keeps g (TakesEdge key) source p size (ByEdge row here is at sized) apart = by_hit (same_key row.key key) refl
  where
    by_hit : (b : Bool) → same_key row.key key ≡ b → Holds (changed g (TakesEdge key)) source p size ⊎ (OfEdge key ≡ source)
    by_hit true hit = inr (sym (is ∙ ap OfEdge (same_key_is row.key key hit)))
    by_hit false hit = inl (ByEdge row (in_kept (is_other_edge key) g.edges row here (not_from_false (same_key row.key key) hit)) is at sized)

-- the change of an entry

gone_put : (s : State) (o : Option Logged) → gone_by (put_change s o) ≡ OfNone
gone_put s None = refl
gone_put s (Some l) = by_cause (judged s l.item) l.item
  where
    by_cause : (c : Option Cause) (it : Item) → gone_by (put_unless c it) ≡ OfNone
    by_cause (Some cause) it = refl
    by_cause None (item.Object job row) = refl
    by_cause None (item.Edge job row from_birth to_birth) = refl

gone_is : (s : State) (moment : ℕ) (w : What) → gone_by (change_of s moment w) ≡ gone_of w
gone_is s moment (Put job i) = gone_put s (slice_get s.items i)
gone_is s moment what = refl

-- an entry puts no row over another

object_free : (g : Graph) (id : ℕ) (source : Source) (p size : ℕ) → object_at g id ≡ None → Holds g source p size → OfObject id ≡ source → ⊥
object_free g id source p size none (ByObject row here is at sized) same = none_found (has_id id) g.objects row none here (eq-eqb row.id id (sym (object_is (same ∙ is))))
object_free g id source p size none (ByEdge row here is at sized) same = cc (same, is)

edge_free : (g : Graph) (key : EdgeKey) (source : Source) (p size : ℕ) → edge_at g key ≡ None → Holds g source p size → OfEdge key ≡ source → ⊥
edge_free g key source p size none (ByObject row here is at sized) same = cc (same, is)
edge_free g key source p size none (ByEdge row here is at sized) same =
    none_found (has_key key) g.edges row none here (ap (λ (k : EdgeKey). same_key row.key k) (edge_is (same ∙ is)) ∙ same_key_refl row.key)

first_none : {A : Type 0} (a b : Option A) → option_or a b ≡ None → b ≡ None
first_none None b none = none
first_none (Some x) b none = absurd (cc none)

taken_none : (o : Option ObjectRow) → taken o ≡ None → o ≡ None
taken_none None none = refl
taken_none (Some row) none = absurd (cc none)

key_none : (o : Option EdgeRow) → key_taken o ≡ None → o ≡ None
key_none None none = refl
key_none (Some row) none = absurd (cc none)

item_free : (s : State) (it : Item) (source : Source) (p size : ℕ) → judged s it ≡ None → Holds s.graph source p size → source_of_item it ≡ source → ⊥
item_free s (item.Object job row) source p size none held same = object_free s.graph row.id source p size (taken_none (object_at s.graph row.id) none) held same
item_free s (item.Edge job row from_birth to_birth) source p size none held same =
    edge_free s.graph row.key source p size
    (key_none (edge_at s.graph row.key)
    (first_none (end_cause s row.key.to to_birth) (key_taken (edge_at s.graph row.key))
    (first_none (end_cause s row.key.from from_birth) (option_or (end_cause s row.key.to to_birth) (key_taken (edge_at s.graph row.key))) none))) held same

put_item_source : (it : Item) → put_source (put_of_item it) ≡ source_of_item it
put_item_source (item.Object job row) = refl
put_item_source (item.Edge job row from_birth to_birth) = refl

put_free : (s : State) (o : Option Logged) (source : Source) (p size : ℕ) → Holds s.graph source p size → put_source (put_change s o) ≡ source → ⊥
put_free s None source p size held same = not_none s.graph source p size held same
put_free s (Some l) source p size held same = by_cause (judged s l.item) refl same
  where
    by_cause : (c : Option Cause) → judged s l.item ≡ c → put_source (put_unless c l.item) ≡ source → ⊥
    by_cause (Some cause) is here = not_none s.graph source p size held here
    by_cause None is here = item_free s l.item source p size is held (sym (put_item_source l.item) ∙ here)

pub source_free : (s : State) (moment : ℕ) (w : What) → is_allowed s moment w ≡ true → (source : Source) (p size : ℕ) → Holds s.graph source p size →
    put_source (change_of s moment w) ≡ source → ⊥
source_free s moment (Create tag kind id given) line source p size held same =
    object_free s.graph id source p size (name_free s id (none_of (refusals s moment (Create tag kind id given)) line).1.0) held same
source_free s moment (Link tag edge from to given) line source p size held same =
    edge_free s.graph (key_of edge from to) source p size
    (key_free s (key_of edge from to) (none_of (refusals s moment (Link tag edge from to given)) line).1.1.1.1.1.1.1.0) held same
source_free s moment (Put job i) line source p size held same = put_free s (slice_get s.items i) source p size held same
source_free s moment what line source p size held same = not_none s.graph source p size held same

-- a row after an entry: an old one that the entry did not take, one whose payload it brings, or one that it puts back

-- an item that an entry puts back
pub record PutsBack (s : State) (w : What) (i : ℕ) (l : Logged) : Type 0 where
  pub job : ℕ
  pub puts : w ≡ Put job i
  pub there : slice_get s.items i ≡ Some l
  pub waits : l.handled ≡ None
  pub opened : is_open s.jobs l ≡ true
  pub free : judged s l.item ≡ None

pub data RowNow (s : State) (w : What) (source : Source) (p size : ℕ) : Type 0 where
  Old : Holds s.graph source p size → (gone_of w ≡ source → ⊥) → RowNow s w source p size
  New : p ≡ s.len → source_of w ≡ source → record_size s w ≡ size → brings w ≡ true → ((q n : ℕ) → Holds s.graph source q n → gone_of w ≡ source) → RowNow s w source p size
  Back : (i : ℕ) (l : Logged) → PutsBack s w i l → source ≡ source_of_item l.item → p ≡ position_of l.item → size ≡ size_of l.item →
      ((q n : ℕ) → Holds s.graph source q n → ⊥) → RowNow s w source p size

pub none_handled : (o : Option Handled) → is_none o ≡ true → o ≡ None
none_handled None none = refl
none_handled (Some how) none = absurd (false≢true none)

pub may_open : (s : State) (job i : ℕ) (may : MayPut s job i) → is_open s.jobs may.logged ≡ true
may_open s job i may = and_from (is_none may.logged.handled) (is_restored s.jobs (job_of may.logged.item)) may.waiting may.restored

put_of_source : (it : Item) (source : Source) (p size : ℕ) → PutOf (put_of_item it) source p size → (source ≡ source_of_item it) × (p ≡ position_of it) × (size ≡ size_of it)
put_of_source (item.Object job row) source p size put = put
put_of_source (item.Edge job row from_birth to_birth) source p size put = put

row_back : (s : State) (job i : ℕ) (source : Source) (p size : ℕ) (may : MayPut s job i) → PutOf (put_change s (Some may.logged)) source p size → RowNow s (Put job i) source p size
row_back s job i source p size may put = by_cause (judged s may.logged.item) refl put
  where
    by_cause : (c : Option Cause) → judged s may.logged.item ≡ c → PutOf (put_unless c may.logged.item) source p size → RowNow s (Put job i) source p size
    by_cause (Some cause) is here = absurd here
    by_cause None is here =
        let parts = put_of_source may.logged.item source p size here in
        Back i may.logged (record {
          job = job;
          puts = refl;
          there = may.at;
          waits = none_handled may.logged.handled may.waiting;
          opened = may_open s job i may;
          free = is;
        }) parts.0 parts.1 parts.2 (λ q n held. item_free s may.logged.item source q n is held (sym parts.0))

row_put : (s : State) (moment : ℕ) (w : What) → is_allowed s moment w ≡ true → (source : Source) (p size : ℕ) → PutOf (change_of s moment w) source p size → RowNow s w source p size
row_put s moment (Create tag kind id given) line source p size put =
    New put.1 (sym put.0) (sym put.2) refl (λ q n held. absurd (source_free s moment (Create tag kind id given) line source q n held (sym put.0)))
row_put s moment (Update tag id given) line source p size put = New put.1 (sym put.0) (sym put.2) refl (λ q n held. sym put.0)
row_put s moment (Link tag edge from to given) line source p size put =
    New put.1 (sym put.0) (sym put.2) refl (λ q n held. absurd (source_free s moment (Link tag edge from to given) line source q n held (sym put.0)))
row_put s moment (Put job i) line source p size put =
    let may = may_put_of s job i (slice_get s.items i) refl line in
    row_back s job i source p size may (subst (λ (o : Option Logged). PutOf (put_change s o) source p size) may.at put)
row_put s moment what line source p size put = absurd put

pub row_now : (s : State) (moment : ℕ) (w : What) → is_allowed s moment w ≡ true → (source : Source) (p size : ℕ) → Holds (graph_after s moment w) source p size →
    RowNow s w source p size
row_now s moment w line source p size held =
    elim (changed_now s.graph (change_of s moment w) source p size held) [
      | inl kept ↦ Old kept.0 (λ gone. kept.1 (gone_is s moment w ∙ gone))
      | inr put ↦ row_put s moment w line source p size put
    ]

pub row_goes : (s : State) (moment : ℕ) (w : What) → is_allowed s moment w ≡ true → (source : Source) (p size : ℕ) → Holds s.graph source p size →
    Holds (graph_after s moment w) source p size ⊎ (gone_of w ≡ source)
row_goes s moment w line source p size held =
    elim (changed_keeps s.graph (change_of s moment w) source p size held (λ same. source_free s moment w line source p size held same)) [
      | inl kept ↦ inl kept
      | inr gone ↦ inr (sym (gone_is s moment w) ∙ gone)
    ]
