-- Both ends of each edge stand, after every legal entry; and what the judgement of a put says.
use Rattle.std.proofs.Common.{◌≡◌, ℕ, Bool, true, false, cond, not, ◌||◌, eqb, List, [], ◌∷◌, Option, Some, None, refl, sym, ap, ◌∙◌, subst, arith, inl, inr, ◌⊎◌}
use Rattle.std.proofs.lemmas.Bool.{and_parts, false≢true}
use Rattle.std.specs.Prelude.{find, is_some, slice_get}
use Rattle.std.proofs.lemmas.Bool.Decides.{nat_tests}
use Rattle.std.specs.List.{list_any}
use Rattle.std.specs.Option.{option_map}
use Rattle.delf_model.specs.declared.rows.ObjectRow.{ObjectRow}
use Rattle.delf_model.specs.declared.rows.EdgeKey.{EdgeKey}
use Rattle.delf_model.specs.declared.rows.EdgeRow.{EdgeRow}
use Rattle.delf_model.specs.declared.rows.Item.{Item}
use Rattle.delf_model.specs.declared.rows.Item.TheVariants as item
use Rattle.delf_model.specs.declared.call.Cause.{Cause}
use Rattle.delf_model.specs.declared.call.Cause.TheVariants as cause
use Rattle.delf_model.specs.declared.entry.What.{What}
use Rattle.delf_model.specs.declared.entry.What.TheVariants.{Create, Update, Link, Unlink, Delete, Restore, Expire, Cut, Erase, Put, Purge}
use Rattle.delf_model.specs.Graph.{Graph, PutsObject, TakesObject, RewritesObject, PutsEdge, TakesEdge, changed, has_key, same_key, object_at, edge_at, edge_stands, stands, is_born_at, touches, touches_row, is_touched, rewritten}
use Rattle.delf_model.specs.State.{State, Logged, owner, is_owned_by}
use Rattle.delf_model.specs.Step.{graph_after, put_change, put_unless, new_object, new_edge}
use Rattle.std.specs.Option.{option_or}
use Rattle.delf_model.specs.Owners.{key_of}
use Rattle.delf_model.specs.Puts.{judged, end_cause, end_condemned, key_taken}
use Rattle.delf_model.specs.Store.{EndsStand}
use Rattle.delf_model.specs.Legal.{is_allowed}
use Rattle.delf_model.specs.Reply.{refusals}
use Rattle.delf_model.proofs.Graphs.{same_key_is, find-put_object, find-filter_object, find-rewritten, find-put_edge, find-filter_edge}
use Rattle.delf_model.proofs.Lines.{none_of, there}

-- what the judgement of a put says where it is put back

first_left : {A : Type 0} (a b : Option A) → option_or a b ≡ None → a ≡ None
first_left None b none = refl
first_left (Some x) b none = absurd (cc none)

first_right : {A : Type 0} (a b : Option A) → option_or a b ≡ None → b ≡ None
first_right None b none = none
first_right (Some x) b none = absurd (cc none)

no_cause : (id : ℕ) (stood : Bool) (own : Option ℕ) → cond stood (end_condemned id own) (Some (cause.EndMissing id)) ≡ None → (stood ≡ true) × (own ≡ None)
no_cause id true None none = (refl, refl)
no_cause id true (Some job) none = absurd (cc none)
no_cause id false own none = absurd (cc none)

key_not_taken : (o : Option EdgeRow) → key_taken o ≡ None → o ≡ None
key_not_taken None none = refl
key_not_taken (Some row) none = absurd (cc none)

-- an edge that is put back: its ends stand with their logged births and without owner, and its key is free
pub record Fits (s : State) (row : EdgeRow) (from_birth to_birth : ℕ) : Type 0 where
  pub source : stands s.graph row.key.from from_birth ≡ true
  pub source_free : owner s row.key.from ≡ None
  pub target : stands s.graph row.key.to to_birth ≡ true
  pub target_free : owner s row.key.to ≡ None
  pub key_is_free : edge_at s.graph row.key ≡ None

pub fits_of : (s : State) (job : ℕ) (row : EdgeRow) (from_birth to_birth : ℕ) → judged s (item.Edge job row from_birth to_birth) ≡ None → Fits s row from_birth to_birth
fits_of s job row from_birth to_birth none =
    let rest = first_right (end_cause s row.key.from from_birth) _ none in
    let source_is = no_cause row.key.from (stands s.graph row.key.from from_birth) (owner s row.key.from) (first_left (end_cause s row.key.from from_birth) _ none) in
    let target_is = no_cause row.key.to (stands s.graph row.key.to to_birth) (owner s row.key.to) (first_left (end_cause s row.key.to to_birth) _ rest) in
    record {
      source = source_is.0;
      source_free = source_is.1;
      target = target_is.0;
      target_free = target_is.1;
      key_is_free = key_not_taken (edge_at s.graph row.key) (first_right (end_cause s row.key.to to_birth) (key_taken (edge_at s.graph row.key)) rest);
    }

-- what stands with a birth stands
born_there : (birth : ℕ) (o : Option ObjectRow) → is_born_at birth o ≡ true → is_some o ≡ true
born_there birth None born = absurd (false≢true born)
born_there birth (Some row) born = refl

pub stands_there : (g : Graph) (id birth : ℕ) → stands g id birth ≡ true → is_some (object_at g id) ≡ true
stands_there g id birth stood = born_there birth (object_at g id) stood

-- objects after a change

some_hit : {A : Type 0} (row : A) (hit : Bool) (o : Option A) → is_some o ≡ true → is_some (cond hit (Some row) o) ≡ true
some_hit row true o some = refl
some_hit row false o some = some

pub there_put : (g : Graph) (row : ObjectRow) (id : ℕ) → is_some (object_at g id) ≡ true → is_some (object_at (changed g (PutsObject row)) id) ≡ true
there_put g row id some = ap (λ (o : Option ObjectRow). is_some o) (find-put_object row g.objects id) ∙ some_hit row (eqb row.id id) (object_at g id) some

some_map : (f : ObjectRow → ObjectRow) (o : Option ObjectRow) → is_some (option_map f o) ≡ is_some o
some_map f None = refl
some_map f (Some row) = refl

pub there_rewritten : (g : Graph) (target at size id : ℕ) → is_some (object_at (changed g (RewritesObject target at size)) id) ≡ is_some (object_at g id)
there_rewritten g target at size id =
    ap (λ (o : Option ObjectRow). is_some o) (find-rewritten target at size g.objects id) ∙ some_map (rewritten target at size) (object_at g id)

some_kept : (hit : Bool) (o : Option ObjectRow) → hit ≡ false → is_some (cond hit None o) ≡ is_some o
some_kept true o is = absurd (false≢true (sym is))
some_kept false o is = refl

pub there_taken : (g : Graph) (gone id : ℕ) → eqb gone id ≡ false → is_some (object_at (changed g (TakesObject gone)) id) ≡ is_some (object_at g id)
there_taken g gone id other =
    ap (λ (o : Option ObjectRow). is_some o) (find-filter_object gone g.objects id) ∙ some_kept (eqb gone id) (object_at g id) other

-- an edge after a put is the one that was put, or stood before
edge_hit : (row : EdgeRow) (key : EdgeKey) (hit : Bool) (o : Option EdgeRow) → same_key row.key key ≡ hit → is_some (cond hit (Some row) o) ≡ true → (row.key ≡ key) ⊎ (is_some o ≡ true)
edge_hit row key true o is some = inl (same_key_is row.key key is)
edge_hit row key false o is some = inr some

pub edge_came : (g : Graph) (row : EdgeRow) (key : EdgeKey) → edge_stands (changed g (PutsEdge row)) key ≡ true → (row.key ≡ key) ⊎ (edge_stands g key ≡ true)
edge_came g row key stood =
    edge_hit row key (same_key row.key key) (edge_at g key) refl (sym (ap (λ (o : Option EdgeRow). is_some o) (find-put_edge row g.edges key)) ∙ stood)

edge_left : (hit : Bool) (o : Option EdgeRow) → is_some (cond hit None o) ≡ true → is_some o ≡ true
edge_left true o some = absurd (false≢true some)
edge_left false o some = some

pub edge_was : (g : Graph) (gone key : EdgeKey) → edge_stands (changed g (TakesEdge gone)) key ≡ true → edge_stands g key ≡ true
edge_was g gone key stood =
    edge_left (same_key gone key) (edge_at g key) (sym (ap (λ (o : Option EdgeRow). is_some o) (find-filter_edge gone g.edges key)) ∙ stood)

-- no edge touches what is untouched

untouched_row : (id : ℕ) (key : EdgeKey) (x : EdgeRow) (hit : Bool) (o : Option EdgeRow) → same_key x.key key ≡ hit → is_some (cond hit (Some x) o) ≡ true →
    touches id x.key ≡ false → (is_some o ≡ true → touches id key ≡ false) → touches id key ≡ false
untouched_row id key x true o is some untouched IH = ap (λ (k : EdgeKey). touches id k) (sym (same_key_is x.key key is)) ∙ untouched
untouched_row id key x false o is some untouched IH = IH some

or_first : (a b : Bool) → (a || b) ≡ false → a ≡ false
or_first true b none = absurd (false≢true (sym none))
or_first false b none = refl

or_second : (a b : Bool) → (a || b) ≡ false → b ≡ false
or_second true b none = absurd (false≢true (sym none))
or_second false b none = none

untouched_rows : (id : ℕ) (rows : List EdgeRow) (key : EdgeKey) → list_any (touches_row id) rows ≡ false → is_some (find (has_key key) rows) ≡ true → touches id key ≡ false
untouched_rows id [] key none some = absurd (false≢true some)
untouched_rows id (x ∷ xs) key none some =
    untouched_row id key x (same_key x.key key) (find (has_key key) xs) refl some (or_first (touches id x.key) (list_any (touches_row id) xs) none)
    (untouched_rows id xs key (or_second (touches id x.key) (list_any (touches_row id) xs) none))

pub untouched : (g : Graph) (id : ℕ) (key : EdgeKey) → is_touched g id ≡ false → edge_stands g key ≡ true → touches id key ≡ false
untouched g id key none some = untouched_rows id g.edges key none some

-- ends after a change that loses no object

ends_kept : (g now : Graph) → ((id : ℕ) → is_some (object_at g id) ≡ true → is_some (object_at now id) ≡ true) →
    ((key : EdgeKey) → edge_stands now key ≡ true →
    (edge_stands g key ≡ true) ⊎ ((is_some (object_at now key.from) ≡ true) × (is_some (object_at now key.to) ≡ true))) →
    EndsStand g → EndsStand now
ends_kept g now kept came ends = record {
  source = λ key stood. elim (came key stood) [ inl old ↦ kept key.from (ends.source key old) | inr new ↦ new.0 ];
  target = λ key stood. elim (came key stood) [ inl old ↦ kept key.to (ends.target key old) | inr new ↦ new.1 ];
}

ends_put_edge : (g : Graph) (row : EdgeRow) → is_some (object_at g row.key.from) ≡ true → is_some (object_at g row.key.to) ≡ true →
    EndsStand g → EndsStand (changed g (PutsEdge row))
ends_put_edge g row source target ends =
    ends_kept g (changed g (PutsEdge row)) (λ id some. some)
    (λ key stood. elim (edge_came g row key stood) [
      | inl same ↦ inr (subst (λ (k : EdgeKey). is_some (object_at g k.from) ≡ true) same source, subst (λ (k : EdgeKey). is_some (object_at g k.to) ≡ true) same target)
      | inr old ↦ inl old
    ])
    ends

ends_taken_edge : (g : Graph) (gone : EdgeKey) → EndsStand g → EndsStand (changed g (TakesEdge gone))
ends_taken_edge g gone ends = ends_kept g (changed g (TakesEdge gone)) (λ id some. some) (λ key stood. inl (edge_was g gone key stood)) ends

ends_erased : (g : Graph) (gone : ℕ) → is_touched g gone ≡ false → EndsStand g → EndsStand (changed g (TakesObject gone))
ends_erased g gone none ends = record {
  source = λ key stood.
      there_taken g gone key.from (eqb_sym key.from gone ∙ or_first (eqb key.from gone) (eqb key.to gone) (untouched g gone key none stood)) ∙ ends.source key stood;
  target = λ key stood.
      there_taken g gone key.to (eqb_sym key.to gone ∙ or_second (eqb key.from gone) (eqb key.to gone) (untouched g gone key none stood)) ∙ ends.target key stood;
}
  where
    eqb_sym : (a b : ℕ) → eqb b a ≡ eqb a b
    eqb_sym a b = grind (arith, nat_tests)

ends_put_item : (s : State) (it : Item) (o : Option Cause) → judged s it ≡ o → EndsStand s.graph → EndsStand (changed s.graph (put_unless o it))
ends_put_item s it (Some c) is ends = ends
ends_put_item s (item.Object job row) None is ends =
    ends_kept s.graph (changed s.graph (PutsObject row)) (there_put s.graph row) (λ key stood. inl stood) ends
ends_put_item s (item.Edge job row from_birth to_birth) None is ends =
    let fits = fits_of s job row from_birth to_birth is in
    ends_put_edge s.graph row (stands_there s.graph row.key.from from_birth fits.source) (stands_there s.graph row.key.to to_birth fits.target) ends

ends_put_change : (s : State) (o : Option Logged) → EndsStand s.graph → EndsStand (changed s.graph (put_change s o))
ends_put_change s None ends = ends
ends_put_change s (Some logged) ends = ends_put_item s logged.item (judged s logged.item) refl ends

-- both ends of each edge stand after a legal entry
pub ends_step : (s : State) (moment : ℕ) (what : What) → is_allowed s moment what ≡ true → EndsStand s.graph → EndsStand (graph_after s moment what)
ends_step s moment (Create tag kind new size) line ends =
    ends_kept s.graph (graph_after s moment (Create tag kind new size)) (there_put s.graph (new_object s moment kind new size)) (λ key stood. inl stood) ends
ends_step s moment (Update tag target size) line ends =
    ends_kept s.graph (graph_after s moment (Update tag target size)) (λ id some. there_rewritten s.graph target s.len size id ∙ some) (λ key stood. inl stood) ends
ends_step s moment (Link tag edge from to size) line ends =
    let refused = none_of (refusals s moment (Link tag edge from to size)) line in
    ends_put_edge s.graph (new_edge s edge from to size) (there s from refused.1.0) (there s to refused.1.1.0) ends
ends_step s moment (Unlink tag edge from to name) line ends = ends_taken_edge s.graph (key_of edge from to) ends
ends_step s moment (Delete tag root name) line ends = ends
ends_step s moment (Restore tag job) line ends = ends
ends_step s moment (Expire root) line ends = ends
ends_step s moment (Cut job edge from to) line ends = ends_taken_edge s.graph (key_of edge from to) ends
ends_step s moment (Erase job gone) line ends =
    ends_erased s.graph gone (not_true (is_touched s.graph gone) (and_parts (is_owned_by s job gone) (not (is_touched s.graph gone)) line).1) ends
  where
    not_true : (b : Bool) → not b ≡ true → b ≡ false
    not_true true is = absurd (false≢true is)
    not_true false is = refl
ends_step s moment (Put job i) line ends = ends_put_change s (slice_get s.items i) ends
ends_step s moment (Purge job) line ends = ends
