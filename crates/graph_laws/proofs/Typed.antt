-- The types of rows, and with them of the ends of edges, over every legal history.
use Rattle.std.proofs.Common.{◌≡◌, ℕ, zero, suc, ◌+◌, ◌<◌, ◌≤◌, Bool, true, false, cond, not, ◌&&◌, ◌||◌, eqb, ltb, List, [], ◌∷◌, ◌++◌, length, Option, Some, None, refl, sym, ap, ◌∙◌, subst, arith, inl, inr, ◌⊎◌}
use Rattle.std.proofs.lemmas.Bool.{and_parts, eqb-true, eq-eqb, false≢true, ltb-true}
use Rattle.std.specs.Prelude.{find, is_some, slice_get}
use Rattle.std.specs.Option.{option_map}
use Rattle.delf_model.specs.declared.rows.ObjectRow.{ObjectRow}
use Rattle.delf_model.specs.declared.rows.EdgeKey.{EdgeKey}
use Rattle.delf_model.specs.declared.rows.EdgeRow.{EdgeRow}
use Rattle.delf_model.specs.declared.rows.Item.{Item}
use Rattle.delf_model.specs.declared.rows.Item.TheVariants as item
use Rattle.delf_model.specs.declared.call.Cause.{Cause}
use Rattle.delf_model.specs.declared.call.Refusal.TheVariants.{WrongEnd}
use Rattle.delf_model.specs.declared.schema.ObjectRule.{ObjectRule}
use Rattle.delf_model.specs.declared.schema.ObjectRule.TheVariants.{Directly, DirectlyOnly, ByAny, ShortTtl, NotDeleted}
use Rattle.delf_model.specs.declared.schema.EdgeShape.{EdgeShape}
use Rattle.delf_model.specs.declared.entry.Entry.{Entry}
use Rattle.delf_model.specs.declared.entry.Tag.{Tag}
use Rattle.delf_model.specs.declared.entry.What.{What}
use Rattle.delf_model.specs.declared.entry.What.TheVariants.{Create, Update, Link, Unlink, Delete, Restore, Expire, Cut, Erase, Put, Purge}
use Rattle.delf_model.specs.RuleSet.{RuleSet}
use Rattle.delf_model.specs.Graph.{Graph, PutsObject, TakesObject, RewritesObject, PutsEdge, TakesEdge, changed, object_at, edge_at, edge_stands, stands, is_born_at, touches, is_touched, rewritten, has_kind}
use Rattle.delf_model.specs.State.{State, Logged, Handled, is_owned_by}
use Rattle.delf_model.specs.Step.{step, graph_after, items_after, new_object, new_edge, due_of, edge_item, object_item, unhandled, handled_at, outcome, put_change, put_unless, birth_of, birth_of_row}
use Rattle.delf_model.specs.Owners.{key_of}
use Rattle.delf_model.specs.Puts.{judged, taken}
use Rattle.delf_model.specs.Legal.{is_legal, is_allowed, is_numbered}
use Rattle.delf_model.specs.Reply.{refusals, kind_differs, wrong_source, wrong_target}
use Rattle.delf_model.proofs.Graphs.{find-put_object, find-filter_object, find-rewritten}
use Rattle.delf_model.proofs.Lines.{none_of, allowed_of, numbered_of, there, name_free}
use Rattle.delf_model.proofs.Ends.{Fits, fits_of, edge_came, edge_was, untouched}
use Rattle.delf_model.proofs.Owners.{found_key}
use Rattle.delf_model.proofs.Places.{EachItem, each_append, each_at}

abbrev pub is_short_ttl : Option ObjectRule → Bool
is_short_ttl None = false
is_short_ttl (Some Directly) = false
is_short_ttl (Some DirectlyOnly) = false
is_short_ttl (Some ByAny) = false
is_short_ttl (Some (ShortTtl seconds)) = true
is_short_ttl (Some NotDeleted) = false

-- a row's type is that of its birth and is declared, and only a type that expires gives a due moment
pub record RowTyped (f : ℕ → ℕ) (rules : RuleSet) (row : ObjectRow) : Type 0 where
  pub of_birth : f row.birth ≡ row.kind
  pub declared : is_some (slice_get rules.objects row.kind) ≡ true
  pub expires : ltb 0 row.due ≡ true → is_short_ttl (slice_get rules.objects row.kind) ≡ true

-- the births of an edge's ends are of the types that the edge type names
pub record EdgeTyped (f : ℕ → ℕ) (rules : RuleSet) (edge from_birth to_birth : ℕ) : Type 0 where
  pub shape : EdgeShape
  pub is : slice_get rules.edges edge ≡ Some shape
  pub source : f from_birth ≡ shape.from
  pub target : f to_birth ≡ shape.to

abbrev pub ItemTyped : (ℕ → ℕ) → RuleSet → Item → Type 0
ItemTyped f rules (item.Object job row) = RowTyped f rules row
ItemTyped f rules (item.Edge job row from_birth to_birth) = EdgeTyped f rules row.key.edge from_birth to_birth

-- both ends of the key stand with their types
abbrev pub EndsOf : RuleSet → Graph → EdgeKey → Type 0
EndsOf rules g key = (shape : EdgeShape) × (slice_get rules.edges key.edge ≡ Some shape) × has_kind g key.from shape.from × has_kind g key.to shape.to

abbrev pub Rows : (ObjectRow → Type 0) → Graph → Type 0
Rows P g = (id : ℕ) (row : ObjectRow) → object_at g id ≡ Some row → P row

abbrev pub AllEnds : RuleSet → Graph → Type 0
AllEnds rules g = (key : EdgeKey) → edge_stands g key ≡ true → EndsOf rules g key

pub record Typed (f : ℕ → ℕ) (s : State) : Type 0 where
  pub rows : Rows (RowTyped f s.rules) s.graph
  pub ends : AllEnds s.rules s.graph
  pub items : EachItem (λ (l : Logged). ItemTyped f s.rules l.item) s.items

-- rows after a change

rows_put : (P : ObjectRow → Type 0) (g : Graph) (new : ObjectRow) → P new → Rows P g → Rows P (changed g (PutsObject new))
rows_put P g new this old id row at = by_hit (eqb new.id id) (sym (find-put_object new g.objects id) ∙ at)
  where
    by_hit : (hit : Bool) → cond hit (Some new) (object_at g id) ≡ Some row → P row
    by_hit true is = let same : new ≡ row = cc in subst P same this
    by_hit false is = old id row is

rows_taken : (P : ObjectRow → Type 0) (g : Graph) (gone : ℕ) → Rows P g → Rows P (changed g (TakesObject gone))
rows_taken P g gone old id row at = by_hit (eqb gone id) (sym (find-filter_object gone g.objects id) ∙ at)
  where
    by_hit : (hit : Bool) → cond hit None (object_at g id) ≡ Some row → P row
    by_hit true is = absurd (cc is)
    by_hit false is = old id row is

rows_rewritten : (P : ObjectRow → Type 0) (g : Graph) (target at size : ℕ) → ((row : ObjectRow) → P row → P (rewritten target at size row)) → Rows P g →
    Rows P (changed g (RewritesObject target at size))
rows_rewritten P g target at size keeps old id row is = by_row (object_at g id) refl (sym (find-rewritten target at size g.objects id) ∙ is)
  where
    by_row : (o : Option ObjectRow) → object_at g id ≡ o → option_map (rewritten target at size) o ≡ Some row → P row
    by_row None found now = absurd (cc now)
    by_row (Some x) found now = let same : rewritten target at size x ≡ row = cc in subst P same (keeps x (old id x found))

typed_rewritten : (f : ℕ → ℕ) (rules : RuleSet) (target at size : ℕ) (row : ObjectRow) → RowTyped f rules row → RowTyped f rules (rewritten target at size row)
typed_rewritten f rules target at size row typed = by_hit (eqb row.id target)
  where
    by_hit : (hit : Bool) → RowTyped f rules (cond hit (record row { at = at; size = size }) row)
    by_hit true = record { of_birth = typed.of_birth; declared = typed.declared; expires = typed.expires }
    by_hit false = typed

-- the type of an object after a change

kind_put : (g : Graph) (new : ObjectRow) (id kind : ℕ) → object_at g new.id ≡ None → has_kind g id kind → has_kind (changed g (PutsObject new)) id kind
kind_put g new id kind free old = (old.0, find-put_object new g.objects id ∙ by_hit (eqb new.id id) refl, old.2)
  where
    by_hit : (hit : Bool) → eqb new.id id ≡ hit → cond hit (Some new) (object_at g id) ≡ Some old.0
    by_hit true is = absurd (let none : None ≡ Some old.0 = sym free ∙ (ap (λ (n : ℕ). object_at g n) (eqb-true new.id id is) ∙ old.1) in cc none)
    by_hit false is = old.1

kind_taken : (g : Graph) (gone id kind : ℕ) → eqb gone id ≡ false → has_kind g id kind → has_kind (changed g (TakesObject gone)) id kind
kind_taken g gone id kind other old =
    (old.0, find-filter_object gone g.objects id ∙ (ap (λ (b : Bool). cond b None (object_at g id)) other ∙ old.1), old.2)

kind_rewritten : (g : Graph) (target at size id kind : ℕ) → has_kind g id kind → has_kind (changed g (RewritesObject target at size)) id kind
kind_rewritten g target at size id kind old =
    (rewritten target at size old.0, find-rewritten target at size g.objects id ∙ ap (option_map (rewritten target at size)) old.1, by_hit (eqb old.0.id target) ∙ old.2)
  where
    by_hit : (hit : Bool) → (cond hit (record old.0 { at = at; size = size }) old.0).kind ≡ old.0.kind
    by_hit true = refl
    by_hit false = refl

-- ends after a change

ends_more : (rules : RuleSet) (g now : Graph) (key : EdgeKey) → ((id kind : ℕ) → (eqb key.from id || eqb key.to id) ≡ true → has_kind g id kind → has_kind now id kind) → EndsOf rules g key → EndsOf rules now key
ends_more rules g now key keeps old = (
  old.0,
  old.1,
  keeps key.from old.0.from (ap (λ (b : Bool). b || eqb key.to key.from) (eq-eqb key.from key.from refl)) old.2,
  keeps key.to old.0.to (or_true (eqb key.from key.to) (eqb key.to key.to) (eq-eqb key.to key.to refl)) old.3,
)
  where
    or_true : (a b : Bool) → b ≡ true → (a || b) ≡ true
    or_true true b is = refl
    or_true false b is = is

ends_put : (rules : RuleSet) (g : Graph) (new : ObjectRow) → object_at g new.id ≡ None → AllEnds rules g → AllEnds rules (changed g (PutsObject new))
ends_put rules g new free old key stood = ends_more rules g (changed g (PutsObject new)) key (λ id kind here was. kind_put g new id kind free was) (old key stood)

ends_rewritten : (rules : RuleSet) (g : Graph) (target at size : ℕ) → AllEnds rules g → AllEnds rules (changed g (RewritesObject target at size))
ends_rewritten rules g target at size old key stood =
    ends_more rules g (changed g (RewritesObject target at size)) key (λ id kind here was. kind_rewritten g target at size id kind was) (old key stood)

ends_taken : (rules : RuleSet) (g : Graph) (gone : ℕ) → is_touched g gone ≡ false → AllEnds rules g → AllEnds rules (changed g (TakesObject gone))
ends_taken rules g gone none old key stood =
    ends_more rules g (changed g (TakesObject gone)) key (λ id kind here was. kind_taken g gone id kind (apart id here (eqb gone id) refl) was) (old key stood)
  where
    apart : (id : ℕ) → (eqb key.from id || eqb key.to id) ≡ true → (b : Bool) → eqb gone id ≡ b → b ≡ false
    apart id here false is = refl
    apart id here true is =
        absurd (false≢true (sym (untouched g gone key none stood) ∙ subst (λ (n : ℕ). touches n key ≡ true) (sym (eqb-true gone id is)) here))

ends_put_edge : (rules : RuleSet) (g : Graph) (row : EdgeRow) → EndsOf rules g row.key → AllEnds rules g → AllEnds rules (changed g (PutsEdge row))
ends_put_edge rules g row this old key stood =
    elim (edge_came g row key stood) [
      | inl same ↦ subst (λ (k : EdgeKey). EndsOf rules g k) same this
      | inr was ↦ old key was
    ]

ends_taken_edge : (rules : RuleSet) (g : Graph) (gone : EdgeKey) → AllEnds rules g → AllEnds rules (changed g (TakesEdge gone))
ends_taken_edge rules g gone old key stood = old key (edge_was g gone key stood)

-- what a legal Link says of the types of its ends

kind_is : (id kind : ℕ) (o : Option ObjectRow) → is_some o ≡ true → kind_differs id kind o ≡ None → (row : ObjectRow) × (o ≡ Some row) × (row.kind ≡ kind)
kind_is id kind None some none = absurd (false≢true some)
kind_is id kind (Some row) some none = (row, refl, by_hit (eqb row.kind kind) refl none)
  where
    by_hit : (hit : Bool) → eqb row.kind kind ≡ hit → cond hit None (Some (WrongEnd id row.kind)) ≡ None → row.kind ≡ kind
    by_hit true is here = eqb-true row.kind kind is
    by_hit false is here = absurd (cc here)

pub slice_some : {A : Type 0} (xs : List A) (k : ℕ) → k < length xs → is_some (slice_get xs k) ≡ true
slice_some [] k lt = absurd (omega arith)
slice_some (x ∷ xs) zero lt = refl
slice_some (x ∷ xs) (suc k) lt = slice_some xs k (omega arith)

link_ends : (s : State) (edge from to : ℕ) (o : Option EdgeShape) → slice_get s.rules.edges edge ≡ o → is_some o ≡ true →
    is_some (object_at s.graph from) ≡ true → is_some (object_at s.graph to) ≡ true →
    wrong_source s from o ≡ None → wrong_target s to o ≡ None → EndsOf s.rules s.graph (key_of edge from to)
link_ends s edge from to None is some one two a b = absurd (false≢true some)
link_ends s edge from to (Some shape) is some one two a b =
    (shape, is, kind_is from shape.from (object_at s.graph from) one a, kind_is to shape.to (object_at s.graph to) two b)

-- the type of what stands with a birth
born_kind : (f : ℕ → ℕ) (rules : RuleSet) (g : Graph) (id birth kind : ℕ) → Rows (RowTyped f rules) g → stands g id birth ≡ true → f birth ≡ kind → has_kind g id kind
born_kind f rules g id birth kind rows stood is = by_row (object_at g id) refl stood
  where
    by_row : (o : Option ObjectRow) → object_at g id ≡ o → is_born_at birth o ≡ true → has_kind g id kind
    by_row None at born = absurd (false≢true born)
    by_row (Some row) at born = (row, at, sym (rows id row at).of_birth ∙ (ap f (eqb-true row.birth birth born) ∙ is))

-- the type of the birth that an end has
kind_of_birth : (f : ℕ → ℕ) (rules : RuleSet) (g : Graph) (id kind : ℕ) → Rows (RowTyped f rules) g → has_kind g id kind → f (birth_of g id) ≡ kind
kind_of_birth f rules g id kind rows here =
    ap (λ (o : Option ObjectRow). f (birth_of_row o)) here.1 ∙ ((rows id here.0 here.1).of_birth ∙ here.2)

-- a put of an item

free_of : (o : Option ObjectRow) → taken o ≡ None → o ≡ None
free_of None none = refl
free_of (Some row) none = absurd (cc none)

put_rows : (f : ℕ → ℕ) (s : State) (it : Item) (o : Option Cause) → ItemTyped f s.rules it → Rows (RowTyped f s.rules) s.graph →
    Rows (RowTyped f s.rules) (changed s.graph (put_unless o it))
put_rows f s it (Some c) this old = old
put_rows f s (item.Object job row) None this old = rows_put (RowTyped f s.rules) s.graph row this old
put_rows f s (item.Edge job row from_birth to_birth) None this old = old

put_ends : (f : ℕ → ℕ) (s : State) (it : Item) (o : Option Cause) → judged s it ≡ o → ItemTyped f s.rules it → Rows (RowTyped f s.rules) s.graph →
    AllEnds s.rules s.graph → AllEnds s.rules (changed s.graph (put_unless o it))
put_ends f s it (Some c) is this rows old = old
put_ends f s (item.Object job row) None is this rows old = ends_put s.rules s.graph row (free_of (object_at s.graph row.id) is) old
put_ends f s (item.Edge job row from_birth to_birth) None is this rows old =
    let fits = fits_of s job row from_birth to_birth is in
    ends_put_edge s.rules s.graph row (
      this.shape,
      this.is,
      born_kind f s.rules s.graph row.key.from from_birth this.shape.from rows fits.source this.source,
      born_kind f s.rules s.graph row.key.to to_birth this.shape.to rows fits.target this.target,
    ) old

put_change_rows : (f : ℕ → ℕ) (s : State) (i : ℕ) (o : Option Logged) → slice_get s.items i ≡ o → Typed f s → Rows (RowTyped f s.rules) (changed s.graph (put_change s o))
put_change_rows f s i None at old = old.rows
put_change_rows f s i (Some logged) at old =
    put_rows f s logged.item (judged s logged.item) (each_at (λ (l : Logged). ItemTyped f s.rules l.item) s.items i logged old.items at) old.rows

put_change_ends : (f : ℕ → ℕ) (s : State) (i : ℕ) (o : Option Logged) → slice_get s.items i ≡ o → Typed f s → AllEnds s.rules (changed s.graph (put_change s o))
put_change_ends f s i None at old = old.ends
put_change_ends f s i (Some logged) at old =
    put_ends f s logged.item (judged s logged.item) refl (each_at (λ (l : Logged). ItemTyped f s.rules l.item) s.items i logged old.items at) old.rows old.ends

-- items

same_items : (P : Item → Type 0) (xs : List Logged) (i : ℕ) (how : Handled) → EachItem (λ (l : Logged). P l.item) xs → EachItem (λ (l : Logged). P l.item) (handled_at xs i how)
same_items P [] i how each = tt
same_items P (x ∷ xs) zero how each = (each.0, each.1)
same_items P (x ∷ xs) (suc i) how each = (each.0, same_items P xs i how each.1)

object_typed : (f : ℕ → ℕ) (s : State) (job id : ℕ) (o : Option ObjectRow) → object_at s.graph id ≡ o → Typed f s →
    EachItem (λ (l : Logged). ItemTyped f s.rules l.item) (object_item job o)
object_typed f s job id None at old = tt
object_typed f s job id (Some row) at old = (old.rows id row at, tt)

edge_typed : (f : ℕ → ℕ) (s : State) (job : ℕ) (key : EdgeKey) (o : Option EdgeRow) → edge_at s.graph key ≡ o → Typed f s →
    EachItem (λ (l : Logged). ItemTyped f s.rules l.item) (edge_item s.graph job o)
edge_typed f s job key None at old = tt
edge_typed f s job key (Some row) at old = (subst (λ (k : EdgeKey). EdgeTyped f s.rules k.edge (birth_of s.graph k.from) (birth_of s.graph k.to)) (sym (found_key s.graph.edges key row at)) typed, tt)
  where
    ends : EndsOf s.rules s.graph key
    ends = old.ends key (ap (λ (o : Option EdgeRow). is_some o) at)

    typed : EdgeTyped f s.rules key.edge (birth_of s.graph key.from) (birth_of s.graph key.to)
    typed = record {
      shape = ends.0;
      is = ends.1;
      source = kind_of_birth f s.rules s.graph key.from ends.0.from old.rows ends.2;
      target = kind_of_birth f s.rules s.graph key.to ends.0.to old.rows ends.3;
    }

-- the due moment of a new object
due_short : (o : Option ObjectRule) (moment : ℕ) → ltb 0 (due_of o moment) ≡ true → is_short_ttl o ≡ true
due_short None moment due = absurd (cc due)
due_short (Some Directly) moment due = absurd (cc due)
due_short (Some DirectlyOnly) moment due = absurd (cc due)
due_short (Some ByAny) moment due = absurd (cc due)
due_short (Some (ShortTtl seconds)) moment due = refl
due_short (Some NotDeleted) moment due = absurd (cc due)

not_true : (b : Bool) → not b ≡ true → b ≡ false
not_true true is = absurd (false≢true is)
not_true false is = refl

-- one entry more
pub typed_step : (f : ℕ → ℕ) (s : State) (moment : ℕ) (what : What) → is_numbered s.rules what ≡ true → is_allowed s moment what ≡ true →
    ((tag : Tag) (kind id size : ℕ) → what ≡ Create tag kind id size → f s.len ≡ kind) → Typed f s → Typed f (step s (record { moment = moment; what = what }))
typed_step f s moment (Create tag kind new size) numbered line births old =
    let row = new_object s moment kind new size in
    let free = name_free s new (none_of (refusals s moment (Create tag kind new size)) line).1.0 in
    record {
      rows = rows_put (RowTyped f s.rules) s.graph row (record {
        of_birth = births tag kind new size refl;
        declared = slice_some s.rules.objects kind (ltb-true kind (length s.rules.objects) numbered);
        expires = due_short (slice_get s.rules.objects kind) moment;
      }) old.rows;
      ends = ends_put s.rules s.graph row free old.ends;
      items = old.items;
    }
typed_step f s moment (Update tag target size) numbered line births old = record {
  rows = rows_rewritten (RowTyped f s.rules) s.graph target s.len size (typed_rewritten f s.rules target s.len size) old.rows;
  ends = ends_rewritten s.rules s.graph target s.len size old.ends;
  items = old.items;
}
typed_step f s moment (Link tag edge from to size) numbered line births old =
    let refused = none_of (refusals s moment (Link tag edge from to size)) line in
    record {
      rows = old.rows;
      ends = ends_put_edge s.rules s.graph (new_edge s edge from to size)
          (link_ends s edge from to (slice_get s.rules.edges edge) refl (slice_some s.rules.edges edge (ltb-true edge (length s.rules.edges) numbered))
          (there s from refused.1.0) (there s to refused.1.1.0) refused.1.1.1.1.1.0 refused.1.1.1.1.1.1.0) old.ends;
      items = old.items;
    }
typed_step f s moment (Unlink tag edge from to name) numbered line births old =
    record { rows = old.rows; ends = ends_taken_edge s.rules s.graph (key_of edge from to) old.ends; items = old.items }
typed_step f s moment (Delete tag root name) numbered line births old = record { rows = old.rows; ends = old.ends; items = old.items }
typed_step f s moment (Restore tag job) numbered line births old = record { rows = old.rows; ends = old.ends; items = old.items }
typed_step f s moment (Expire root) numbered line births old = record { rows = old.rows; ends = old.ends; items = old.items }
typed_step f s moment (Cut job edge from to) numbered line births old = record {
  rows = old.rows;
  ends = ends_taken_edge s.rules s.graph (key_of edge from to) old.ends;
  items = each_append (λ (l : Logged). ItemTyped f s.rules l.item) s.items (edge_item s.graph job (edge_at s.graph (key_of edge from to))) old.items
      (edge_typed f s job (key_of edge from to) (edge_at s.graph (key_of edge from to)) refl old);
}
typed_step f s moment (Erase job gone) numbered line births old = record {
  rows = rows_taken (RowTyped f s.rules) s.graph gone old.rows;
  ends = ends_taken s.rules s.graph gone (not_true (is_touched s.graph gone) (and_parts (is_owned_by s job gone) (not (is_touched s.graph gone)) line).1) old.ends;
  items = each_append (λ (l : Logged). ItemTyped f s.rules l.item) s.items (object_item job (object_at s.graph gone)) old.items
      (object_typed f s job gone (object_at s.graph gone) refl old);
}
typed_step f s moment (Put job i) numbered line births old = record {
  rows = put_change_rows f s i (slice_get s.items i) refl old;
  ends = put_change_ends f s i (slice_get s.items i) refl old;
  items = same_items (ItemTyped f s.rules) s.items i (outcome s (slice_get s.items i)) old.items;
}
typed_step f s moment (Purge job) numbered line births old = record { rows = old.rows; ends = old.ends; items = old.items }
