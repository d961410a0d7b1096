-- Where a restore is followed by the puts of its job alone, the graph at their end is the union.
use Rattle.std.proofs.Common.{◌≡◌, ℕ, zero, suc, ◌+◌, ◌≤◌, ◌<◌, Bool, true, false, cond, not, ◌&&◌, eqb, List, [], ◌∷◌, length, take, Option, Some, None, refl, sym, ap, ◌∙◌, subst, arith, add-one}
use Rattle.std.proofs.lemmas.Bool.{and_parts, and_from, eqb-true, eq-eqb, false≢true}
use Rattle.std.specs.Prelude.{is_some, is_none, slice_get}
use Rattle.std.specs.Option.{option_map}
use Rattle.delf_model.specs.declared.rows.ObjectRow.{ObjectRow}
use Rattle.delf_model.specs.declared.rows.EdgeKey.{EdgeKey}
use Rattle.delf_model.specs.declared.rows.EdgeRow.{EdgeRow}
use Rattle.delf_model.specs.declared.rows.Item.{Item}
use Rattle.delf_model.specs.declared.rows.Item.TheVariants as item
use Rattle.delf_model.specs.declared.call.Cause.{Cause}
use Rattle.delf_model.specs.declared.call.Cause.TheVariants as cause
use Rattle.delf_model.specs.declared.entry.Entry.{Entry}
use Rattle.delf_model.specs.declared.entry.Tag.{Tag}
use Rattle.delf_model.specs.declared.entry.What.{What}
use Rattle.delf_model.specs.declared.entry.What.TheVariants.{Restore, Put}
use Rattle.delf_model.specs.RuleSet.{RuleSet}
use Rattle.delf_model.specs.Graph.{Graph, same_key, object_at, edge_at, edge_stands, stands, is_born_at, put_object, put_edge, changed}
use Rattle.delf_model.specs.State.{State, Logged, Handled, JobRow, start, owner, job_row, job_of, is_restored, is_restored_row}
use Rattle.delf_model.specs.Step.{step, after, handled_at, outcome, put_change, put_unless, row_restored_at}
use Rattle.delf_model.specs.Puts.{judged, taken, end_cause, end_condemned, key_taken}
use Rattle.std.specs.Option.{option_or}
use Rattle.delf_model.specs.Legal.{is_legal, is_allowed, Legal, end_handled, ends_handled, is_named_so}
use Rattle.delf_model.specs.Reply.{refusals, restored_before, restored_by, refused}
use Rattle.delf_model.specs.Closure.{items_of_job, with_objects, with_edges, joined_objects, edge_fits, end_fits, union}
use Rattle.delf_model.specs.Report.{is_of_job}
use Rattle.delf_model.specs.Sound.{object_id_of, DistinctIds, OnlyPuts, RestoreIsUnion, is_put_by}
use Rattle.delf_model.proofs.Runs.{legal_take, legal_at, run-take_suc}
use Rattle.delf_model.proofs.Graphs.{same_key_is, same_key_refl, find-put_object, find-put_edge}
use Rattle.delf_model.proofs.Lines.{allowed_of, none_of}
use Rattle.delf_model.proofs.Ends.{Fits, fits_of}
use Rattle.delf_model.proofs.Plain.{owner_plain}
use Rattle.delf_model.proofs.Jobs.{job_row-restored}
use Rattle.delf_model.proofs.Places.{MayPut, may_put_of, each_at, HandledOf}
use Rattle.delf_model.proofs.Good.{Good, good_at}
use Rattle.put_laws.proofs.Puts.{judged_puts}
use Rattle.history_laws.proofs.SameGraph.{Sorted, object_before, edge_before, put_object_sorted, put_edge_sorted, objects_sorted_after_history, edges_sorted_after_history, same_graph}
use Rattle.history_laws.proofs.Twins.{Told, told_at, is_twin, twins_never}
use Rattle.history_laws.proofs.Values.{first_of, first_item, is_done, first_items, same_items, first_none, marked_none, marked_some, before_none, all_done, Only, object_val, edge_val, find-with_objects, find-with_edges, object_value, taken_none, EdgeValue, edge_value, Apart, places_apart, born_same}

-- between a restore and the end of its puts

-- the objects of the state and all items of the job
abbrev pub among : State → ℕ → Graph
among s job = joined_objects s (items_of_job job s.items)

-- the rows of a graph are those of the state and the values of the handled items
pub record Rows (s : State) (job : ℕ) (now : Graph) (items : List Logged) : Type 0 where
  pub objects : (id : ℕ) → object_at now id ≡ option_or (first_of (object_val s.graph id) (is_done job) items) (object_at s.graph id)
  pub edges : (key : EdgeKey) → edge_at now key ≡ option_or (first_of (edge_val s (among s job) key) (is_done job) items) (edge_at s.graph key)

pub record Between (s : State) (job : ℕ) (t : State) : Type 0 where
  pub same : items_of_job job t.items ≡ items_of_job job s.items
  pub owners : (id : ℕ) → owner t id ≡ owner s id
  pub rows : Rows s job t.graph t.items

-- a put in between
pub record PutHere (s : State) (job : ℕ) (t : State) (i : ℕ) : Type 0 where
  pub between : Between s job t
  pub told : Told t
  pub apart : Apart job t.items
  pub may : MayPut t job i

-- the ends of an edge

right_none : {A : Type 0} (o : Option A) → option_or o None ≡ o
right_none None = refl
right_none (Some x) = refl

among_at : (s : State) (job : ℕ) (t : State) → Between s job t → (id : ℕ) →
    object_at (among s job) id ≡ option_or (first_of (object_val s.graph id) (is_of_job job) t.items) (object_at s.graph id)
among_at s job t between id =
    find-with_objects s.graph (items_of_job job s.items) id ∙
    (ap (λ (items : List Item). option_or (first_item (object_val s.graph id) items) (object_at s.graph id)) (sym between.same) ∙
    ap (λ (o : Option ObjectRow). option_or o (object_at s.graph id)) (first_items (object_val s.graph id) job t.items))

-- an end whose object items are handled stands exactly where it stands among all
ends_same : (s : State) (job : ℕ) (t : State) → Between s job t → Apart job t.items → (id birth : ℕ) → end_handled t.items job id birth ≡ true →
    stands t.graph id birth ≡ stands (among s job) id birth
ends_same s job t between apart id birth handled =
    ap (is_born_at birth) (between.rows.objects id) ∙
    (by_row (object_at s.graph id) refl ∙ ap (is_born_at birth) (sym (among_at s job t between id)))
  where
    by_row : (o : Option ObjectRow) → object_at s.graph id ≡ o →
        is_born_at birth (option_or (first_of (object_val s.graph id) (is_done job) t.items) (object_at s.graph id)) ≡
        is_born_at birth (option_or (first_of (object_val s.graph id) (is_of_job job) t.items) (object_at s.graph id))
    by_row None at =
        ap (λ (o : Option ObjectRow). is_born_at birth (option_or (first_of (object_val s.graph id) (is_done job) t.items) o)) at ∙
        (ap (is_born_at birth) (right_none (first_of (object_val s.graph id) (is_done job) t.items)) ∙
        (born_same s.graph job id birth t.items apart handled ∙
        (ap (is_born_at birth) (sym (right_none (first_of (object_val s.graph id) (is_of_job job) t.items))) ∙
        ap (λ (o : Option ObjectRow). is_born_at birth (option_or (first_of (object_val s.graph id) (is_of_job job) t.items) o)) (sym at))))
    by_row (Some row) at =
        ap (λ (o : Option ObjectRow). is_born_at birth (option_or o (object_at s.graph id)))
        (first_none (object_val s.graph id) (is_done job) t.items (λ j y there passes. taken_none s.graph id y.item (ap (λ (o : Option ObjectRow). is_some o) at)) ∙
        sym (first_none (object_val s.graph id) (is_of_job job) t.items (λ j y there passes. taken_none s.graph id y.item (ap (λ (o : Option ObjectRow). is_some o) at))))

-- an item without a value is handled, and the rows stay
kept_rows : (s : State) (job : ℕ) (now : Graph) (items : List Logged) (i : ℕ) (how : Handled) (l : Logged) → Rows s job now items → slice_get items i ≡ Some l →
    ((id : ℕ) → object_val s.graph id l.item ≡ None) → ((key : EdgeKey) → edge_val s (among s job) key l.item ≡ None) → Rows s job now (handled_at items i how)
kept_rows s job now items i how l rows at no_object no_edge = record {
  objects = λ id. rows.objects id ∙ ap (λ (o : Option ObjectRow). option_or o (object_at s.graph id)) (sym (marked_none (object_val s.graph id) job items i how l at (no_object id)));
  edges = λ key. rows.edges key ∙ ap (λ (o : Option EdgeRow). option_or o (edge_at s.graph key)) (sym (marked_none (edge_val s (among s job) key) job items i how l at (no_edge key)));
}

-- the put of an object

object_put : (s : State) (job : ℕ) (t : State) (i : ℕ) (how : Handled) (which : ℕ) (row : ObjectRow) → (here : PutHere s job t i) → here.may.logged.item ≡ item.Object which row →
    Rows s job (changed t.graph (put_unless (judged t (item.Object which row)) (item.Object which row))) (handled_at t.items i how)
object_put s job t i how which row here is = by_free (object_at s.graph row.id) refl
  where
    mine : is_of_job job here.may.logged ≡ true
    mine = eq-eqb (job_of here.may.logged.item) job here.may.of_job

    only : (id : ℕ) → row.id ≡ id → Only (object_val s.graph id) job t.items i
    only id same j y there of_job differ = by_value (object_val s.graph id y.item) refl
      where
        by_value : (o : Option ObjectRow) → object_val s.graph id y.item ≡ o → o ≡ None
        by_value None value = refl
        by_value (Some r) value =
            absurd (differ (here.apart j i id y here.may.logged there here.may.at of_job mine (object_value s.graph id y.item r value).0
            (ap object_id_of is ∙ ap (λ (n : ℕ). Some n) same)))

    before : object_at t.graph row.id ≡ object_at s.graph row.id
    before =
        here.between.rows.objects row.id ∙
        ap (λ (o : Option ObjectRow). option_or o (object_at s.graph row.id))
        (before_none (object_val s.graph row.id) job t.items i here.may.logged here.may.at here.may.waiting (only row.id refl))

    value_is : (id : ℕ) (o : Option ObjectRow) → object_at s.graph row.id ≡ o → (hit : Bool) → eqb row.id id ≡ hit → object_val s.graph id here.may.logged.item ≡ cond (is_some o) None (cond hit (Some row) None)
    value_is id o at hit found =
        ap (object_val s.graph id) is ∙
        (ap (λ (p : Option ObjectRow). cond (is_some p) None (cond (eqb row.id id) (Some row) None)) at ∙ ap (λ (b : Bool). cond (is_some o) None (cond b (Some row) None)) found)

    by_hit : object_at s.graph row.id ≡ None → (id : ℕ) (hit : Bool) → eqb row.id id ≡ hit →
        cond hit (Some row) (object_at t.graph id) ≡ option_or (first_of (object_val s.graph id) (is_done job) (handled_at t.items i how)) (object_at s.graph id)
    by_hit at id true found =
        sym (ap (λ (o : Option ObjectRow). option_or o (object_at s.graph id))
        (marked_some (object_val s.graph id) job t.items i how here.may.logged row here.may.at mine (value_is id None at true found) (only id (eqb-true row.id id found))))
    by_hit at id false found =
        here.between.rows.objects id ∙
        ap (λ (o : Option ObjectRow). option_or o (object_at s.graph id)) (sym (marked_none (object_val s.graph id) job t.items i how here.may.logged here.may.at (value_is id None at false found)))

    by_free : (o : Option ObjectRow) → object_at s.graph row.id ≡ o → Rows s job (changed t.graph (put_unless (taken (object_at t.graph row.id)) (item.Object which row))) (handled_at t.items i how)
    by_free (Some r) at =
        subst (λ (o : Option ObjectRow). Rows s job (changed t.graph (put_unless (taken o) (item.Object which row))) (handled_at t.items i how)) (sym (before ∙ at))
        (kept_rows s job t.graph t.items i how here.may.logged here.between.rows here.may.at (λ id. value_is id (Some r) at (eqb row.id id) refl) (λ key. ap (edge_val s (among s job) key) is))
    by_free None at =
        subst (λ (o : Option ObjectRow). Rows s job (changed t.graph (put_unless (taken o) (item.Object which row))) (handled_at t.items i how)) (sym (before ∙ at))
        (record {
          objects = λ id. find-put_object row t.graph.objects id ∙ by_hit at id (eqb row.id id) refl;
          edges = λ key.
              here.between.rows.edges key ∙
              ap (λ (o : Option EdgeRow). option_or o (edge_at s.graph key)) (sym (marked_none (edge_val s (among s job) key) job t.items i how here.may.logged here.may.at (ap (edge_val s (among s job) key) is)));
        })

-- what it says that an edge fits

pub record FitParts (s : State) (g : Graph) (key : EdgeKey) (from_birth to_birth : ℕ) : Type 0 where
  pub key_is_free : edge_at s.graph key ≡ None
  pub source : stands g key.from from_birth ≡ true
  pub source_free : owner s key.from ≡ None
  pub target : stands g key.to to_birth ≡ true
  pub target_free : owner s key.to ≡ None

not_some : {A : Type 0} (o : Option A) → not (is_some o) ≡ true → o ≡ None
not_some None free = refl
not_some (Some x) free = absurd (false≢true free)

none_is : {A : Type 0} (o : Option A) → is_none o ≡ true → o ≡ None
none_is None free = refl
none_is (Some x) free = absurd (false≢true free)

fit_parts : (s : State) (g : Graph) (key : EdgeKey) (from_birth to_birth : ℕ) → edge_fits s g key from_birth to_birth ≡ true → FitParts s g key from_birth to_birth
fit_parts s g key from_birth to_birth fits =
    let all = and_parts (not (edge_stands s.graph key) && end_fits s g key.from from_birth) (end_fits s g key.to to_birth) fits in
    let two = and_parts (not (edge_stands s.graph key)) (end_fits s g key.from from_birth) all.0 in
    let source = and_parts (stands g key.from from_birth) (is_none (owner s key.from)) two.1 in
    let target = and_parts (stands g key.to to_birth) (is_none (owner s key.to)) all.1 in
    record {
      key_is_free = not_some (edge_at s.graph key) two.0;
      source = source.0;
      source_free = none_is (owner s key.from) source.1;
      target = target.0;
      target_free = none_is (owner s key.to) target.1;
    }

fit_from : (s : State) (g : Graph) (key : EdgeKey) (from_birth to_birth : ℕ) → FitParts s g key from_birth to_birth → edge_fits s g key from_birth to_birth ≡ true
fit_from s g key from_birth to_birth parts =
    and_from (not (edge_stands s.graph key) && end_fits s g key.from from_birth) (end_fits s g key.to to_birth)
    (and_from (not (edge_stands s.graph key)) (end_fits s g key.from from_birth) (ap (λ (o : Option EdgeRow). not (is_some o)) parts.key_is_free)
    (and_from (stands g key.from from_birth) (is_none (owner s key.from)) parts.source (ap (λ (o : Option ℕ). is_none o) parts.source_free)))
    (and_from (stands g key.to to_birth) (is_none (owner s key.to)) parts.target (ap (λ (o : Option ℕ). is_none o) parts.target_free))

-- the judgement of an edge whose ends stand without an owner and whose key is free
end_cause_none : (t : State) (id birth : ℕ) → stands t.graph id birth ≡ true → owner t id ≡ None → end_cause t id birth ≡ None
end_cause_none t id birth stood own =
    ap (λ (b : Bool). cond b (end_condemned id (owner t id)) (Some (cause.EndMissing id))) stood ∙ ap (end_condemned id) own

judged_none : (t : State) (which : ℕ) (row : EdgeRow) (from_birth to_birth : ℕ) → FitParts t t.graph row.key from_birth to_birth → judged t (item.Edge which row from_birth to_birth) ≡ None
judged_none t which row from_birth to_birth parts =
    ap (λ (o : Option Cause). option_or o (option_or (end_cause t row.key.to to_birth) (key_taken (edge_at t.graph row.key))))
    (end_cause_none t row.key.from from_birth parts.source parts.source_free) ∙
    (ap (λ (o : Option Cause). option_or o (key_taken (edge_at t.graph row.key))) (end_cause_none t row.key.to to_birth parts.target parts.target_free) ∙
    ap key_taken parts.key_is_free)

twin_is : (a b : ℕ) (x y : EdgeRow) (from to from' to' : ℕ) → a ≡ b → x.key ≡ y.key → from ≡ from' → to ≡ to' → is_twin (item.Edge a x from to) (item.Edge b y from' to') ≡ true
twin_is a b x y from to from' to' same_job same_keys same_from same_to =
    and_from (eqb a b && same_key x.key y.key && eqb from from') (eqb to to')
    (and_from (eqb a b && same_key x.key y.key) (eqb from from')
    (and_from (eqb a b) (same_key x.key y.key) (eq-eqb a b same_job) (subst (λ (k : EdgeKey). same_key x.key k ≡ true) same_keys (same_key_refl x.key))) (eq-eqb from from' same_from))
    (eq-eqb to to' same_to)

born_both : (one two : ℕ) (o : Option ObjectRow) → is_born_at one o ≡ true → is_born_at two o ≡ true → one ≡ two
born_both one two None a b = absurd (false≢true a)
born_both one two (Some row) a b = sym (eqb-true row.birth one a) ∙ eqb-true row.birth two b

second_none : {A : Type 0} (o p : Option A) → option_or o p ≡ None → p ≡ None
second_none None p none = none
second_none (Some x) p none = absurd (cc none)

-- the put of an edge

edge_put : (s : State) (job : ℕ) (t : State) (i : ℕ) (how : Handled) (which : ℕ) (row : EdgeRow) (from_birth to_birth : ℕ) → (here : PutHere s job t i) → here.may.logged.item ≡ item.Edge which row from_birth to_birth →
    Rows s job (changed t.graph (put_unless (judged t (item.Edge which row from_birth to_birth)) (item.Edge which row from_birth to_birth))) (handled_at t.items i how)
edge_put s job t i how which row from_birth to_birth here is = by_fit (edge_fits s (among s job) row.key from_birth to_birth) refl
  where
    mine : is_of_job job here.may.logged ≡ true
    mine = eq-eqb (job_of here.may.logged.item) job here.may.of_job

    which_is : which ≡ job
    which_is = ap job_of (sym is) ∙ here.may.of_job

    ends : (end_handled t.items job row.key.from from_birth ≡ true) × (end_handled t.items job row.key.to to_birth ≡ true)
    ends =
        subst (λ (n : ℕ). (end_handled t.items n row.key.from from_birth ≡ true) × (end_handled t.items n row.key.to to_birth ≡ true)) which_is
        (and_parts (end_handled t.items which row.key.from from_birth) (end_handled t.items which row.key.to to_birth) (subst (λ (x : Item). ends_handled t.items x ≡ true) is here.may.ends))

    source_same : stands t.graph row.key.from from_birth ≡ stands (among s job) row.key.from from_birth
    source_same = ends_same s job t here.between here.apart row.key.from from_birth ends.0

    target_same : stands t.graph row.key.to to_birth ≡ stands (among s job) row.key.to to_birth
    target_same = ends_same s job t here.between here.apart row.key.to to_birth ends.1

    no_object : (id : ℕ) → object_val s.graph id here.may.logged.item ≡ None
    no_object id = ap (object_val s.graph id) is

    value_is : (key : EdgeKey) (fit : Bool) → edge_fits s (among s job) row.key from_birth to_birth ≡ fit → (hit : Bool) → same_key row.key key ≡ hit →
        edge_val s (among s job) key here.may.logged.item ≡ cond fit (cond hit (Some row) None) None
    value_is key fit fits hit found =
        ap (edge_val s (among s job) key) is ∙
        (ap (λ (b : Bool). cond b (cond (same_key row.key key) (Some row) None) None) fits ∙ ap (λ (b : Bool). cond fit (cond b (Some row) None) None) found)

    -- another item of the job with a value would be a twin
    clash : (key : EdgeKey) → same_key row.key key ≡ true → edge_fits s (among s job) row.key from_birth to_birth ≡ true →
        (j : ℕ) (y : Logged) → slice_get t.items j ≡ Some y → is_of_job job y ≡ true → (j ≡ i → ⊥) → EdgeValue s (among s job) key y.item → ⊥
    clash key found fits j y there of_job differ v =
        let mine_parts = fit_parts s (among s job) row.key from_birth to_birth fits in
        let its_parts = fit_parts s (among s job) v.row.key v.from_birth v.to_birth v.fits in
        let same : row.key ≡ v.row.key = same_key_is row.key key found ∙ sym (same_key_is v.row.key key v.same) in
        let same_job : which ≡ v.job = which_is ∙ (sym (eqb-true (job_of y.item) job of_job) ∙ ap job_of v.is) in
        let same_from : from_birth ≡ v.from_birth =
        born_both from_birth v.from_birth (object_at (among s job) row.key.from) mine_parts.source
        (subst (λ (k : EdgeKey). stands (among s job) k.from v.from_birth ≡ true) (sym same) its_parts.source) in
        let same_to : to_birth ≡ v.to_birth =
        born_both to_birth v.to_birth (object_at (among s job) row.key.to) mine_parts.target
        (subst (λ (k : EdgeKey). stands (among s job) k.to v.to_birth ≡ true) (sym same) its_parts.target) in
        let one : is_twin (item.Edge which row from_birth to_birth) (item.Edge v.job v.row v.from_birth v.to_birth) ≡ true =
        twin_is which v.job row v.row from_birth to_birth v.from_birth v.to_birth same_job same same_from same_to in
        let two : is_twin (item.Edge v.job v.row v.from_birth v.to_birth) (item.Edge which row from_birth to_birth) ≡ true =
        twin_is v.job which v.row row v.from_birth v.to_birth from_birth to_birth (sym same_job) (sym same) (sym same_from) (sym same_to) in
        twins_never t.items j i y here.may.logged here.told.twins there here.may.at differ
        (subst (λ (x : Item). is_twin y.item x ≡ true) (sym is) (subst (λ (x : Item). is_twin x (item.Edge which row from_birth to_birth) ≡ true) (sym v.is) two))
        (subst (λ (x : Item). is_twin x y.item ≡ true) (sym is) (subst (λ (x : Item). is_twin (item.Edge which row from_birth to_birth) x ≡ true) (sym v.is) one))

    only : edge_fits s (among s job) row.key from_birth to_birth ≡ true → (key : EdgeKey) → same_key row.key key ≡ true → Only (edge_val s (among s job) key) job t.items i
    only fits key found j y there of_job differ = by_value (edge_val s (among s job) key y.item) refl
      where
        by_value : (o : Option EdgeRow) → edge_val s (among s job) key y.item ≡ o → o ≡ None
        by_value None value = refl
        by_value (Some r) value = absurd (clash key found fits j y there of_job differ (edge_value s (among s job) key y.item (ap (λ (o : Option EdgeRow). is_some o) value)))

    fits_now : edge_fits s (among s job) row.key from_birth to_birth ≡ true → FitParts t t.graph row.key from_birth to_birth
    fits_now fits =
        let parts = fit_parts s (among s job) row.key from_birth to_birth fits in
        record {
          key_is_free =
              here.between.rows.edges row.key ∙
              (ap (λ (o : Option EdgeRow). option_or o (edge_at s.graph row.key))
              (before_none (edge_val s (among s job) row.key) job t.items i here.may.logged here.may.at here.may.waiting (only fits row.key (same_key_refl row.key))) ∙ parts.key_is_free);
          source = source_same ∙ parts.source;
          source_free = here.between.owners row.key.from ∙ parts.source_free;
          target = target_same ∙ parts.target;
          target_free = here.between.owners row.key.to ∙ parts.target_free;
        }

    fitted : Fits t row from_birth to_birth → edge_fits s (among s job) row.key from_birth to_birth ≡ true
    fitted fits =
        fit_from s (among s job) row.key from_birth to_birth (record {
          key_is_free = second_none (first_of (edge_val s (among s job) row.key) (is_done job) t.items) (edge_at s.graph row.key) (sym (here.between.rows.edges row.key) ∙ fits.key_is_free);
          source = sym source_same ∙ fits.source;
          source_free = sym (here.between.owners row.key.from) ∙ fits.source_free;
          target = sym target_same ∙ fits.target;
          target_free = sym (here.between.owners row.key.to) ∙ fits.target_free;
        })

    by_hit : edge_fits s (among s job) row.key from_birth to_birth ≡ true → (key : EdgeKey) (hit : Bool) → same_key row.key key ≡ hit →
        cond hit (Some row) (edge_at t.graph key) ≡ option_or (first_of (edge_val s (among s job) key) (is_done job) (handled_at t.items i how)) (edge_at s.graph key)
    by_hit fits key true found =
        sym (ap (λ (o : Option EdgeRow). option_or o (edge_at s.graph key))
        (marked_some (edge_val s (among s job) key) job t.items i how here.may.logged row here.may.at mine (value_is key true fits true found) (only fits key found)))
    by_hit fits key false found =
        here.between.rows.edges key ∙
        ap (λ (o : Option EdgeRow). option_or o (edge_at s.graph key)) (sym (marked_none (edge_val s (among s job) key) job t.items i how here.may.logged here.may.at (value_is key true fits false found)))

    by_judged : edge_fits s (among s job) row.key from_birth to_birth ≡ false → (o : Option Cause) → judged t (item.Edge which row from_birth to_birth) ≡ o →
        Rows s job (changed t.graph (put_unless o (item.Edge which row from_birth to_birth))) (handled_at t.items i how)
    by_judged fits (Some c) judgement =
        kept_rows s job t.graph t.items i how here.may.logged here.between.rows here.may.at no_object (λ key. value_is key false fits (same_key row.key key) refl)
    by_judged fits None judgement = absurd (false≢true (sym fits ∙ fitted (fits_of t which row from_birth to_birth judgement)))

    by_fit : (b : Bool) → edge_fits s (among s job) row.key from_birth to_birth ≡ b →
        Rows s job (changed t.graph (put_unless (judged t (item.Edge which row from_birth to_birth)) (item.Edge which row from_birth to_birth))) (handled_at t.items i how)
    by_fit false fits = by_judged fits (judged t (item.Edge which row from_birth to_birth)) refl
    by_fit true fits =
        subst (λ (o : Option Cause). Rows s job (changed t.graph (put_unless o (item.Edge which row from_birth to_birth))) (handled_at t.items i how))
        (sym (judged_none t which row from_birth to_birth (fits_now fits)))
        (record {
          objects = λ id.
              here.between.rows.objects id ∙
              ap (λ (o : Option ObjectRow). option_or o (object_at s.graph id)) (sym (marked_none (object_val s.graph id) job t.items i how here.may.logged here.may.at (no_object id)));
          edges = λ key. find-put_edge row t.graph.edges key ∙ by_hit fits key (same_key row.key key) refl;
        })

item_put : (s : State) (job : ℕ) (t : State) (i : ℕ) (how : Handled) (it : Item) → (here : PutHere s job t i) → here.may.logged.item ≡ it →
    Rows s job (changed t.graph (put_unless (judged t it) it)) (handled_at t.items i how)
item_put s job t i how (item.Object which row) here is = object_put s job t i how which row here is
item_put s job t i how (item.Edge which row from_birth to_birth) here is = edge_put s job t i how which row from_birth to_birth here is

between_put : (s : State) (job : ℕ) (t : State) (moment i : ℕ) → DistinctIds (items_of_job job s.items) → Told t → is_legal t (record { moment = moment; what = Put job i }) ≡ true → Between s job t →
    Between s job (step t (record { moment = moment; what = Put job i }))
between_put s job t moment i distinct told legal between =
    let may = may_put_of t job i (slice_get t.items i) refl (allowed_of t (record { moment = moment; what = Put job i }) legal) in
    record {
      same = same_items job t.items i (outcome t (slice_get t.items i)) ∙ between.same;
      owners = λ id. owner_plain t moment (Put job i) legal told.good.owned_stand told.good.ends id ∙ between.owners id;
      rows =
          subst (λ (o : Option Logged). Rows s job (changed t.graph (put_change t o)) (handled_at t.items i (outcome t (slice_get t.items i)))) (sym may.at)
          (item_put s job t i (outcome t (slice_get t.items i)) may.logged.item (record {
            between = between;
            told = told;
            apart = places_apart job t.items (subst (λ (items : List Item). DistinctIds items) (sym between.same) distinct);
            may = may;
          }) refl);
    }

-- the entries of the stretch are puts of the job

put_is : (job : ℕ) (what : What) → is_put_by job what ≡ true → (i : ℕ) × (what ≡ Put job i)
put_is job (Put other i) puts = (i, ap (λ (n : ℕ). Put n i) (eqb-true other job puts))
put_is job what puts = absurd (false≢true puts)

abbrev PutStep : ℕ → (State → Type 0) → Type 0
PutStep job P = (t : State) (moment i : ℕ) → Told t → is_legal t (record { moment = moment; what = Put job i }) ≡ true → P t → P (step t (record { moment = moment; what = Put job i }))

step_of : (P : State → Type 0) (job : ℕ) (t : State) (e : Entry) → PutStep job P → Told t → is_legal t e ≡ true → is_put_by job e.what ≡ true → P t → P (step t e)
step_of P job t e keeps told legal puts before =
    let put = put_is job e.what puts in
    subst (λ (w : What). P (step t (record { moment = e.moment; what = w }))) (sym put.1)
    (keeps t e.moment put.0 told (subst (λ (w : What). is_legal t (record { moment = e.moment; what = w }) ≡ true) put.1 legal) before)

-- an entry stands at each place below the length
entry_at : (h : List Entry) (n : ℕ) → n < length h → (e : Entry) × (slice_get h n ≡ Some e)
entry_at [] n less = absurd (none n less)
  where
    none : (a : ℕ) → a < 0 → ⊥
    none a h = omega arith
entry_at (x ∷ xs) zero less = (x, refl)
entry_at (x ∷ xs) (suc n) less = entry_at xs n (fewer n (length xs) less)
  where
    fewer : (a b : ℕ) → suc a < suc b → a < b
    fewer a b h = omega arith

-- what each put of the job keeps
stretch : (P : State → Type 0) (rules : RuleSet) (h : List Entry) (job r q d n : ℕ) → n + d ≡ q → q ≤ length h → r < n → Legal rules h →
    ((p : ℕ) (e : Entry) → r < p → p < q → slice_get h p ≡ Some e → is_put_by job e.what ≡ true) → PutStep job P →
    P (after rules (take n h)) → P (after rules (take q h))
stretch P rules h job r q zero n sum within later legal puts keeps before = subst (λ (m : ℕ). P (after rules (take m h))) (last n q sum) before
  where
    last : (a b : ℕ) → a + 0 ≡ b → a ≡ b
    last a b is = omega arith
stretch P rules h job r q (suc d) n sum within later legal puts keeps before =
    let found = entry_at h n (below n d q (length h) sum within) in
    stretch P rules h job r q d (suc n) (next n d q sum) within (above r n later) legal puts keeps
    (subst (λ (t : State). P t) (sym (run-take_suc (start rules) h n found.0 found.1))
    (step_of P job (after rules (take n h)) found.0 keeps (told_at rules h n legal) (legal_at (start rules) h n found.0 legal found.1)
    (puts n found.0 later (inside n d q sum) found.1) before))
  where
    below : (a b c l : ℕ) → a + suc b ≡ c → c ≤ l → a < l
    below a b c l one two = omega arith

    next : (a b c : ℕ) → a + suc b ≡ c → suc a + b ≡ c
    next a b c one = omega arith

    above : (a b : ℕ) → a < b → a < suc b
    above a b one = omega arith

    inside : (a b c : ℕ) → a + suc b ≡ c → a < c
    inside a b c one = omega arith

-- the restore

-- after a restore the job is restored, and none of its items is handled
pub record Restored (s : State) (job : ℕ) : Type 0 where
  pub restored : is_restored s.jobs job ≡ true
  pub waiting : (j : ℕ) (y : Logged) → slice_get s.items j ≡ Some y → is_done job y ≡ true → ⊥

found_start : (job : ℕ) (jobs : List JobRow) (row : JobRow) → job_row jobs job ≡ Some row → eqb row.start job ≡ true
found_start job [] row at = absurd (cc at)
found_start job (x ∷ xs) row at = by_hit (eqb x.start job) refl at (found_start job xs row)
  where
    by_hit : (b : Bool) → eqb x.start job ≡ b → cond b (Some x) (job_row xs job) ≡ Some row → (job_row xs job ≡ Some row → eqb row.start job ≡ true) → eqb row.start job ≡ true
    by_hit true is here IH = let same : x ≡ row = cc in subst (λ (z : JobRow). eqb z.start job ≡ true) same is
    by_hit false is here IH = IH here

restored_free : (o : Option JobRow) → restored_before o ≡ None → is_restored_row o ≡ false
restored_free None none = refl
restored_free (Some row) none = by_position row.restored none
  where
    by_position : (o : Option ℕ) → restored_by o ≡ None → is_some o ≡ false
    by_position None here = refl
    by_position (Some n) here = absurd (cc here)

is_restored_now : (job len : ℕ) (jobs : List JobRow) (o : Option JobRow) → job_row jobs job ≡ o → is_some o ≡ true → is_restored_row (option_map (row_restored_at job len) o) ≡ true
is_restored_now job len jobs None at some = absurd (false≢true some)
is_restored_now job len jobs (Some row) at some =
    ap (λ (b : Bool). is_restored_row (Some (cond b (record row { restored = Some len }) row))) (found_start job jobs row at)

named_some : (s : State) (job : ℕ) (o : Option JobRow) → is_named_so s job o ≡ true → is_some o ≡ true
named_some s job None named = absurd (false≢true named)
named_some s job (Some row) named = refl

restored_now : (s : State) (moment : ℕ) (tag : Tag) (job : ℕ) → Good s → is_allowed s moment (Restore tag job) ≡ true → Restored (step s (record { moment = moment; what = Restore tag job })) job
restored_now s moment tag job good line =
    let parts = and_parts (is_named_so s job (job_row s.jobs job)) (is_none (refused s moment (Restore tag job))) line in
    let none = none_of (refusals s moment (Restore tag job)) parts.1 in
    record {
      restored =
          ap is_restored_row (job_row-restored s.jobs job s.len job) ∙
          is_restored_now job s.len s.jobs (job_row s.jobs job) refl (named_some s job (job_row s.jobs job) parts.0);
      waiting = λ j y at done.
          let both = and_parts (is_of_job job y) (is_some y.handled) done in
          false≢true (sym (restored_free (job_row s.jobs job) none.1.1.0) ∙
          subst (λ (n : ℕ). is_restored s.jobs n ≡ true) (eqb-true (job_of y.item) job both.0) (each_at (HandledOf s.jobs) s.items j y good.handled at both.1));
    }

restored_at_entry : (rules : RuleSet) (h : List Entry) (job r : ℕ) (e : Entry) (tag : Tag) → Legal rules h → slice_get h r ≡ Some e → e.what ≡ Restore tag job → Restored (after rules (take (r + 1) h)) job
restored_at_entry rules h job r e tag legal there is =
    subst (λ (n : ℕ). Restored (after rules (take n h)) job) (sym (add-one r))
    (subst (λ (t : State). Restored t job) (sym (run-take_suc (start rules) h r e there))
    (subst (λ (w : What). Restored (step (after rules (take r h)) (record { moment = e.moment; what = w })) job) (sym is)
    (restored_now (after rules (take r h)) e.moment tag job (good_at rules h r legal)
    (subst (λ (w : What). is_allowed (after rules (take r h)) e.moment w ≡ true) is (allowed_of (after rules (take r h)) e (legal_at (start rules) h r e legal there))))))

between_start : (s : State) (job : ℕ) → Restored s job → Between s job s
between_start s job restored = record {
  same = refl;
  owners = λ id. refl;
  rows = record {
    objects = λ id.
        sym (ap (λ (o : Option ObjectRow). option_or o (object_at s.graph id))
        (first_none (object_val s.graph id) (is_done job) s.items (λ j y at done. absurd (restored.waiting j y at done))));
    edges = λ key.
        sym (ap (λ (o : Option EdgeRow). option_or o (edge_at s.graph key))
        (first_none (edge_val s (among s job) key) (is_done job) s.items (λ j y at done. absurd (restored.waiting j y at done))));
  };
}

-- the union is in order

with_objects_sorted : (g : Graph) (items : List Item) → Sorted object_before g.objects → Sorted object_before (with_objects g items)
with_objects_sorted g [] sorted = sorted
with_objects_sorted g (item.Edge job row from_birth to_birth ∷ rest) sorted = with_objects_sorted g rest sorted
with_objects_sorted g (item.Object job row ∷ rest) sorted = by_free (is_some (object_at g row.id)) (with_objects_sorted g rest sorted)
  where
    by_free : (b : Bool) → Sorted object_before (with_objects g rest) → Sorted object_before (cond b (with_objects g rest) (put_object row (with_objects g rest)))
    by_free true IH = IH
    by_free false IH = put_object_sorted row (with_objects g rest) IH

with_edges_sorted : (s : State) (g : Graph) (items : List Item) → Sorted edge_before s.graph.edges → Sorted edge_before (with_edges s g items)
with_edges_sorted s g [] sorted = sorted
with_edges_sorted s g (item.Object job row ∷ rest) sorted = with_edges_sorted s g rest sorted
with_edges_sorted s g (item.Edge job row from_birth to_birth ∷ rest) sorted = by_fit (edge_fits s g row.key from_birth to_birth) (with_edges_sorted s g rest sorted)
  where
    by_fit : (b : Bool) → Sorted edge_before (with_edges s g rest) → Sorted edge_before (cond b (put_edge row (with_edges s g rest)) (with_edges s g rest))
    by_fit true IH = put_edge_sorted row (with_edges s g rest) IH
    by_fit false IH = IH

-- the end

at_end : (s : State) (job : ℕ) (t : State) → Between s job t → ((j : ℕ) (y : Logged) → slice_get t.items j ≡ Some y → is_of_job job y ≡ true → is_some y.handled ≡ true) →
    Sorted object_before s.graph.objects → Sorted edge_before s.graph.edges → Sorted object_before t.graph.objects → Sorted edge_before t.graph.edges →
    t.graph ≡ union s (items_of_job job t.items)
at_end s job t between handled s_objects s_edges t_objects t_edges =
    same_graph t.graph (union s (items_of_job job s.items)) t_objects t_edges
    (with_objects_sorted s.graph (items_of_job job s.items) s_objects) (with_edges_sorted s (among s job) (items_of_job job s.items) s_edges)
    (λ id.
    between.rows.objects id ∙
    (ap (λ (o : Option ObjectRow). option_or o (object_at s.graph id)) (all_done (object_val s.graph id) job t.items handled) ∙ sym (among_at s job t between id)))
    (λ key.
    between.rows.edges key ∙
    (ap (λ (o : Option EdgeRow). option_or o (edge_at s.graph key)) (all_done (edge_val s (among s job) key) job t.items handled) ∙
    (ap (λ (o : Option EdgeRow). option_or o (edge_at s.graph key)) (sym (first_items (edge_val s (among s job) key) job t.items)) ∙
    (ap (λ (items : List Item). option_or (first_item (edge_val s (among s job) key) items) (edge_at s.graph key)) between.same ∙
    sym (find-with_edges s (among s job) (items_of_job job s.items) key))))) ∙
    ap (union s) (sym between.same)

rest_of : (r q : ℕ) → r < q → (d : ℕ) × (r + 1 + d ≡ q)
rest_of zero zero less = absurd (omega (arith, less))
rest_of zero (suc q) less = (q, omega arith)
rest_of (suc r) zero less = absurd (omega (arith, less))
rest_of (suc r) (suc q) less =
    let rest = rest_of r q (fewer r q less) in (rest.0, more r rest.0 q rest.1)
  where
    fewer : (a b : ℕ) → suc a < suc b → a < b
    fewer a b is = omega arith

    more : (a d b : ℕ) → a + 1 + d ≡ b → suc a + 1 + d ≡ suc b
    more a d b is = omega arith

next_above : (r : ℕ) → r < r + 1
next_above r = omega arith

pub restore_is_union : (rules : RuleSet) (h : List Entry) → Legal rules h → RestoreIsUnion rules h
restore_is_union rules h legal = record { union_is = λ job r q only. from_parts job r q only (rest_of r q only.later) }
  where
    from_parts : (job r q : ℕ) → OnlyPuts rules h job r q → (d : ℕ) × (r + 1 + d ≡ q) →
        (after rules (take q h)).graph ≡ union (after rules (take (r + 1) h)) (items_of_job job (after rules (take q h)).items)
    from_parts job r q only rest =
        at_end (after rules (take (r + 1) h)) job (after rules (take q h)) between handled
        (objects_sorted_after_history rules (take (r + 1) h) (legal_take (start rules) h (r + 1) legal)) (edges_sorted_after_history rules (take (r + 1) h) (legal_take (start rules) h (r + 1) legal))
        (objects_sorted_after_history rules (take q h) (legal_take (start rules) h q legal)) (edges_sorted_after_history rules (take q h) (legal_take (start rules) h q legal))
      where
        begun : Restored (after rules (take (r + 1) h)) job
        begun = restored_at_entry rules h job r only.entry only.tag legal only.there only.restores

        same : items_of_job job (after rules (take q h)).items ≡ items_of_job job (after rules (take (r + 1) h)).items
        same =
            stretch (λ (t : State). items_of_job job t.items ≡ items_of_job job (after rules (take (r + 1) h)).items) rules h job r q rest.0 (r + 1) rest.1 only.within (next_above r) legal only.puts
            (λ t moment i told line before. same_items job t.items i (outcome t (slice_get t.items i)) ∙ before) refl

        distinct : DistinctIds (items_of_job job (after rules (take (r + 1) h)).items)
        distinct = subst (λ (items : List Item). DistinctIds items) same only.distinct

        between : Between (after rules (take (r + 1) h)) job (after rules (take q h))
        between =
            stretch (Between (after rules (take (r + 1) h)) job) rules h job r q rest.0 (r + 1) rest.1 only.within (next_above r) legal only.puts
            (λ t moment i told line before. between_put (after rules (take (r + 1) h)) job t moment i distinct told line before) (between_start (after rules (take (r + 1) h)) job begun)

        restored : is_restored (after rules (take q h)).jobs job ≡ true
        restored =
            stretch (λ (t : State). is_restored t.jobs job ≡ true) rules h job r q rest.0 (r + 1) rest.1 only.within (next_above r) legal only.puts
            (λ t moment i told line before. before) begun.restored

        handled : (j : ℕ) (y : Logged) → slice_get (after rules (take q h)).items j ≡ Some y → is_of_job job y ≡ true → is_some y.handled ≡ true
        handled j y at mine =
            (judged_puts rules (take q h) (legal_take (start rules) h q legal)).handled job restored only.handled j y at (eqb-true (job_of y.item) job mine)
