-- An erasure of the job in a calm part, and what the job took once it owns nothing.
use Rattle.std.proofs.Common.{◌≡◌, ℕ, zero, suc, ◌+◌, ◌≤◌, ◌<◌, Bool, true, false, cond, not, ◌&&◌, ◌||◌, eqb, List, [], ◌∷◌, ◌++◌, Option, Some, None, refl, sym, ap, ◌∙◌, subst, arith, inl, inr, ◌⊎◌}
use Rattle.std.proofs.lemmas.Bool.{and_parts, and_from, eqb-true, eq-eqb, false≢true, or_cases}
use Rattle.std.specs.Prelude.{find, filter, map, is_some, is_none, slice_get}
use Rattle.std.specs.List.{list_any}
use Rattle.delf_model.specs.declared.rows.ObjectRow.{ObjectRow}
use Rattle.delf_model.specs.declared.rows.EdgeKey.{EdgeKey}
use Rattle.delf_model.specs.declared.rows.EdgeRow.{EdgeRow}
use Rattle.delf_model.specs.declared.rows.Item.{Item}
use Rattle.delf_model.specs.declared.rows.Item.TheVariants as item
use Rattle.delf_model.specs.declared.entry.Entry.{Entry}
use Rattle.delf_model.specs.declared.entry.What.{What}
use Rattle.delf_model.specs.declared.entry.What.TheVariants.{Cut, Erase}
use Rattle.delf_model.specs.RuleSet.{RuleSet, is_deep, is_refcount}
use Rattle.delf_model.specs.Graph.{Graph, TakesObject, changed, has_id, object_at, edge_at, edge_stands, stands, touches, is_touched, has_refs}
use Rattle.delf_model.specs.State.{State, Logged, owner, is_owned_by, is_job, job_of}
use Rattle.delf_model.specs.Step.{step, run, items_after, object_item, unhandled}
use Rattle.delf_model.specs.Store.{EndsStand}
use Rattle.delf_model.specs.Legal.{is_legal, is_legal_from, is_allowed}
use Rattle.delf_model.specs.Closure.{has, IsClosed, Closure, erased_item, cut_item, has_erased, has_cut}
use Rattle.delf_model.specs.Sound.{IsRowOf, TookClosure}
use Rattle.delf_model.proofs.Graphs.{find-filter_object}
use Rattle.delf_model.proofs.Lines.{allowed_of}
use Rattle.delf_model.proofs.Leaves.{owner_is}
use Rattle.delf_model.proofs.Owners.{found_id}
use Rattle.delf_model.proofs.Plain.{plain_owner, owner_plain}
use Rattle.delf_model.proofs.Places.{EachItem, each_at}
use Rattle.delf_model.proofs.Good.{Good, good_step}
use Rattle.reach_laws.proofs.Quiet.{or_nothing, any_append, each_object, takes_for, erased_same, cut_same, each_same}
use Rattle.reach_laws.proofs.Kept.{Part, Whole, had, RowOf, Kept, Running, false_of, had_same, job_is, is_mine, same_bool, Reference, refs_from, refs_to, touches_to, touches_from}
use Rattle.reach_laws.proofs.Reach.{OwnsNone, not_owned, none_run}

or_left : (a b : Bool) → a ≡ true → (a || b) ≡ true
or_left true b is = refl
or_left false b is = absurd (false≢true is)

or_right : (a b : Bool) → b ≡ true → (a || b) ≡ true
or_right true b is = refl
or_right false b is = is

some_object : (o : Option ObjectRow) → is_some o ≡ true → (row : ObjectRow) × (o ≡ Some row)
some_object None some = absurd (false≢true some)
some_object (Some row) some = (row, refl)

-- the state after the job erased this object
abbrev pub erased_state : Part → State → ℕ → ℕ → State
erased_state f s moment gone = step s (record { moment = moment; what = Erase f.job gone })

object_push : (q : Item → Bool) (job : ℕ) (xs : List Logged) (o : Option ObjectRow) (row : ObjectRow) → o ≡ Some row →
    list_any (λ l. q l.item) (xs ++ object_item job o) ≡ (list_any (λ l. q l.item) xs || q (item.Object job row))
object_push q job xs o row at =
    ap (λ (x : Option ObjectRow). list_any (λ l. q l.item) (xs ++ object_item job x)) at ∙
    (any_append (λ l. q l.item) xs (unhandled (item.Object job row) ∷ []) ∙
    ap (λ (b : Bool). list_any (λ l. q l.item) xs || b) (or_nothing (q (item.Object job row))))

and_one : (a b : Bool) → a ≡ true → (a && b) ≡ b
and_one true b is = refl
and_one false b is = absurd (false≢true is)

twice_none : {A : Type 0} (a b : Bool) (o : Option A) → cond a None (cond b None o) ≡ cond (b || a) None o
twice_none true true o = refl
twice_none true false o = refl
twice_none false true o = refl
twice_none false false o = refl

stood_cond : {A : Type 0} (b : Bool) (o p : Option A) → p ≡ cond b None o → is_some p ≡ true → (b ≡ false) × (o ≡ p)
stood_cond true o p is some = absurd (false≢true (sym (ap (λ (x : Option _). is_some x) is) ∙ some))
stood_cond false o p is some = (refl, sym is)

left_owner : (b : Bool) (job : ℕ) (o : Option ℕ) → cond b None o ≡ Some job → o ≡ Some job
left_owner true job o own = absurd (cc own)
left_owner false job o own = own

-- a job's erasure, with what it finds
pub record EraseHere (f : Part) (s : State) (gone : ℕ) : Type 0 where
  pub row : ObjectRow
  pub at : object_at s.graph gone ≡ Some row
  pub own : owner s gone ≡ Some f.job
  pub held : has f.ids gone ≡ true
  pub in_part : object_at f.graph gone ≡ Some row

erase_here : (f : Part) (s : State) (gone : ℕ) → Good s → Kept f s → is_owned_by s f.job gone ≡ true → EraseHere f s gone
erase_here f s gone good kept own =
    let mine = owner_is s f.job gone own in
    let found = some_object (object_at s.graph gone) (good.owned_stand gone f.job mine) in
    let held = kept.mine gone mine in
    let was = stood_cond (has_erased s f.job gone) (object_at f.graph gone) (object_at s.graph gone) (kept.objects gone held) (ap (λ (o : Option ObjectRow). is_some o) found.1) in
    record { row = found.0; at = found.1; own = mine; held = held; in_part = was.1 ∙ found.1 }

erased_pushed : (f : Part) (s : State) (moment gone : ℕ) → EraseHere f s gone → (id : ℕ) → has_erased (erased_state f s moment gone) f.job id ≡ (has_erased s f.job id || eqb gone id)
erased_pushed f s moment gone here id =
    object_push (erased_item f.job id) f.job s.items (object_at s.graph gone) here.row here.at ∙
    ap (λ (b : Bool). has_erased s f.job id || b)
    (and_one (eqb f.job f.job) (eqb here.row.id id) (eq-eqb f.job f.job refl) ∙ ap (λ (n : ℕ). eqb n id) (found_id s.graph.objects gone here.row here.at))

cut_pushed : (f : Part) (s : State) (moment gone : ℕ) → EraseHere f s gone → (k : EdgeKey) → has_cut (erased_state f s moment gone) f.job k ≡ has_cut s f.job k
cut_pushed f s moment gone here k =
    object_push (cut_item f.job k) f.job s.items (object_at s.graph gone) here.row here.at ∙ or_nothing (has_cut s f.job k)

erase_owner : (f : Part) (s : State) (moment gone : ℕ) → Good s → is_legal s (record { moment = moment; what = Erase f.job gone }) ≡ true → (id : ℕ) →
    owner (erased_state f s moment gone) id ≡ cond (eqb gone id) None (owner s id)
erase_owner f s moment gone good legal id = owner_plain s moment (Erase f.job gone) legal good.owned_stand good.ends id

-- what the job has had stays the same: what it owned it erased
erase_had : (f : Part) (s : State) (moment gone : ℕ) → Good s → is_legal s (record { moment = moment; what = Erase f.job gone }) ≡ true → EraseHere f s gone → (id : ℕ) →
    had f (erased_state f s moment gone) id ≡ had f s id
erase_had f s moment gone good legal here id =
    had_same _ _ _ _ (ap (is_job f.job) (erase_owner f s moment gone good legal id)) (erased_pushed f s moment gone here id) ∙ by_hit (eqb gone id) refl
  where
    both : (a b : Bool) → a ≡ true → (false || (b || true)) ≡ (a || b)
    both true true is = refl
    both true false is = refl
    both false b is = absurd (false≢true is)

    by_hit : (b : Bool) → eqb gone id ≡ b → (is_job f.job (cond b None (owner s id)) || (has_erased s f.job id || b)) ≡ had f s id
    by_hit true at =
        both (is_owned_by s f.job id) (has_erased s f.job id)
        (is_mine f.job (owner s id) (subst (λ (n : ℕ). owner s n ≡ Some f.job) (eqb-true gone id at) here.own))
    by_hit false at = ap (λ (b : Bool). is_owned_by s f.job id || b) (or_nothing (has_erased s f.job id))

erase_kept : (f : Part) (s : State) (moment gone : ℕ) → Good s → is_legal s (record { moment = moment; what = Erase f.job gone }) ≡ true → EraseHere f s gone → Kept f s → Kept f (erased_state f s moment gone)
erase_kept f s moment gone good legal here kept = record {
  below = later f.job s.len kept.below;
  objects = λ id held.
      find-filter_object gone s.graph.objects id ∙
      (ap (λ (o : Option ObjectRow). cond (eqb gone id) None o) (kept.objects id held) ∙
      (twice_none (eqb gone id) (has_erased s f.job id) (object_at f.graph id) ∙
      ap (λ (b : Bool). cond b None (object_at f.graph id)) (sym (erased_pushed f s moment gone here id))));
  edges = λ k id held touched. kept.edges k id held touched ∙ ap (λ (b : Bool). cond b None (edge_at f.graph k)) (sym (cut_pushed f s moment gone here k));
  erased = λ id now.
      elim (or_cases (has_erased s f.job id) (eqb gone id) (sym (erased_pushed f s moment gone here id) ∙ now)) [
        | inl old ↦ kept.erased id old
        | inr new ↦ (
          subst (λ (n : ℕ). has f.ids n ≡ true) (eqb-true gone id new) here.held,
          subst (λ (n : ℕ). is_some (object_at f.graph n) ≡ true) (eqb-true gone id new) (ap (λ (o : Option ObjectRow). is_some o) here.in_part),
        )
      ];
  cut = λ k now.
      let was = kept.cut k (sym (cut_pushed f s moment gone here k) ∙ now) in
      (was.0, had_same _ _ _ _ (erase_had f s moment gone good legal here k.from) (erase_had f s moment gone good legal here k.to) ∙ was.1);
  other = λ id k held own. kept.other id k held (left_owner (eqb gone id) k (owner s id) (sym (erase_owner f s moment gone good legal id) ∙ own));
  mine = λ id own. kept.mine id (left_owner (eqb gone id) f.job (owner s id) (sym (erase_owner f s moment gone good legal id) ∙ own));
  rows = each_object (λ l. RowOf f l.item) f.job s.items (object_at s.graph gone) kept.rows (λ row at same_job. new_row row (some_is row here.row (sym at ∙ here.at)));
}
  where
    later : (a b : ℕ) → a < b → a < b + 1
    later a b h = omega arith

    some_is : (a b : ObjectRow) → Some a ≡ Some b → a ≡ b
    some_is a b h = cc

    new_row : (row : ObjectRow) → row ≡ here.row → object_at f.graph row.id ≡ Some row
    new_row row same =
        subst (λ (n : ℕ). object_at f.graph n ≡ Some row) (sym (ap (λ (r : ObjectRow). r.id) same ∙ found_id s.graph.objects gone here.row here.at))
        (here.in_part ∙ ap (λ (r : ObjectRow). Some r) (sym same))

pub erase_running : (f : Part) (s : State) (moment gone : ℕ) → Good s → is_legal s (record { moment = moment; what = Erase f.job gone }) ≡ true → Running f s → Running f (erased_state f s moment gone)
erase_running f s moment gone good legal running =
    let here = erase_here f s gone good running.kept (and_parts (is_owned_by s f.job gone) _ (allowed_of s (record { moment = moment; what = Erase f.job gone }) legal)).0 in
    record {
      kept = erase_kept f s moment gone good legal here running.kept;
      rules = running.rules;
      begun = erase_had f s moment gone good legal here f.root ∙ running.begun;
      within = λ id now. running.within id (sym (erase_had f s moment gone good legal here id) ∙ now);
      deep = λ k now is. erase_had f s moment gone good legal here k.to ∙ running.deep k (sym (cut_pushed f s moment gone here k) ∙ now) is;
      refs = λ id held some not_had. running.refs id held some (sym (erase_had f s moment gone good legal here id) ∙ not_had);
    }

-- the ids of what the job erased, as a list

abbrev pub erased_row : Part → State → ObjectRow → Bool
erased_row f t row = has_erased t f.job row.id

abbrev pub id_of : ObjectRow → ℕ
id_of row = row.id

abbrev pub erased_ids : Part → State → List ℕ
erased_ids f t = map id_of (filter (erased_row f t) f.graph.objects)

-- it holds an id exactly where the job erased an object of the graph with it
ids_from : (f : Part) (t : State) (id : ℕ) (xs : List ObjectRow) → has (map id_of (filter (erased_row f t) xs)) id ≡ true → (has_erased t f.job id ≡ true) × (is_some (find (has_id id) xs) ≡ true)
ids_from f t id [] held = absurd (false≢true held)
ids_from f t id (x ∷ xs) held = by_kept (erased_row f t x) refl held (ids_from f t id xs)
  where
    some_more : (b : Bool) → is_some (find (has_id id) xs) ≡ true → is_some (cond b (Some x) (find (has_id id) xs)) ≡ true
    some_more true some = refl
    some_more false some = some

    by_kept : (b : Bool) → erased_row f t x ≡ b → has (map id_of (cond b (x ∷ filter (erased_row f t) xs) (filter (erased_row f t) xs))) id ≡ true →
        (has (map id_of (filter (erased_row f t) xs)) id ≡ true → (has_erased t f.job id ≡ true) × (is_some (find (has_id id) xs) ≡ true)) →
        (has_erased t f.job id ≡ true) × (is_some (find (has_id id) (x ∷ xs)) ≡ true)
    by_kept false is here IH = (let rest = IH here in (rest.0, some_more (eqb x.id id) rest.1))
    by_kept true is here IH =
        elim (or_cases (eqb x.id id) (has (map id_of (filter (erased_row f t) xs)) id) here) [
          | inl same ↦
              (subst (λ (n : ℕ). has_erased t f.job n ≡ true) (eqb-true x.id id same) is, ap (λ (b : Bool). is_some (cond b (Some x) (find (has_id id) xs))) same)
          | inr later ↦ (let rest = IH later in (rest.0, some_more (eqb x.id id) rest.1))
        ]

ids_to : (f : Part) (t : State) (id : ℕ) (xs : List ObjectRow) → has_erased t f.job id ≡ true → is_some (find (has_id id) xs) ≡ true → has (map id_of (filter (erased_row f t) xs)) id ≡ true
ids_to f t id [] gone some = absurd (false≢true some)
ids_to f t id (x ∷ xs) gone some = by_hit (eqb x.id id) refl some (erased_row f t x) refl (ids_to f t id xs gone)
  where
    by_hit : (b : Bool) → eqb x.id id ≡ b → is_some (cond b (Some x) (find (has_id id) xs)) ≡ true → (c : Bool) → erased_row f t x ≡ c →
        (is_some (find (has_id id) xs) ≡ true → has (map id_of (filter (erased_row f t) xs)) id ≡ true) → has (map id_of (cond c (x ∷ filter (erased_row f t) xs) (filter (erased_row f t) xs))) id ≡ true
    by_hit true is here true kept IH = or_left (eqb x.id id) _ is
    by_hit true is here false kept IH = absurd (false≢true (sym kept ∙ subst (λ (n : ℕ). has_erased t f.job n ≡ true) (sym (eqb-true x.id id is)) gone))
    by_hit false is here true kept IH = or_right (eqb x.id id) _ (IH here)
    by_hit false is here false kept IH = IH here

-- where the job owns nothing

-- what it had it erased
all_erased : (f : Part) (t : State) → OwnsNone f.job t → (id : ℕ) → had f t id ≡ true → has_erased t f.job id ≡ true
all_erased f t none id was =
    elim (or_cases (is_owned_by t f.job id) (has_erased t f.job id) was) [ inl own ↦ absurd (false≢true (sym (not_owned t f.job id none) ∙ own)) | inr gone ↦ gone ]

-- what it erased stands no longer
gone_now : (f : Part) (t : State) → Kept f t → (id : ℕ) → has_erased t f.job id ≡ true → is_some (object_at t.graph id) ≡ false
gone_now f t kept id gone =
    ap (λ (o : Option ObjectRow). is_some o) (kept.objects id (kept.erased id gone).0 ∙ ap (λ (b : Bool). cond b None (object_at f.graph id)) gone)

-- and each edge of it was cut
edge_cut : (f : Part) (t : State) → Good t → Kept f t → (key : EdgeKey) (id : ℕ) → edge_stands f.graph key ≡ true → has_erased t f.job id ≡ true → touches id key ≡ true → has_cut t f.job key ≡ true
edge_cut f t good kept key id stood gone touched = by_cut (has_cut t f.job key) refl
  where
    stands_now : has_cut t f.job key ≡ false → edge_stands t.graph key ≡ true
    stands_now none =
        ap (λ (o : Option EdgeRow). is_some o) (kept.edges key id (kept.erased id gone).0 touched ∙ ap (λ (b : Bool). cond b None (edge_at f.graph key)) none) ∙ stood

    no_end : edge_stands t.graph key ≡ true → ⊥
    no_end now =
        elim (or_cases (eqb key.from id) (eqb key.to id) touched) [
          | inl from ↦ false≢true (sym (gone_now f t kept id gone) ∙ subst (λ (n : ℕ). is_some (object_at t.graph n) ≡ true) (eqb-true key.from id from) (good.ends.source key now))
          | inr to ↦ false≢true (sym (gone_now f t kept id gone) ∙ subst (λ (n : ℕ). is_some (object_at t.graph n) ≡ true) (eqb-true key.to id to) (good.ends.target key now))
        ]

    by_cut : (b : Bool) → has_cut t f.job key ≡ b → b ≡ true
    by_cut true is = refl
    by_cut false is = absurd (no_end (stands_now is))

-- the erased ids are a closed list
erased_closed : (f : Part) (t : State) → Whole f → Good t → Running f t → OwnsNone f.job t → IsClosed f.rules f.graph (erased_ids f t)
erased_closed f t whole good running none = record {
  objects = λ id held. (ids_from f t id f.graph.objects held).1;
  deep = λ key stood is held.
      let from = (ids_from f t key.from f.graph.objects held).0 in
      let gone = all_erased f t none key.to (running.deep key (edge_cut f t good running.kept key key.from stood from (touches_from key key.from refl)) is) in
      ids_to f t key.to f.graph.objects gone (running.kept.erased key.to gone).1;
  counted = λ id some refs all. ids_to f t id f.graph.objects (by_had id some refs all (had f t id) refl) some;
}
  where
    by_had : (id : ℕ) → is_some (object_at f.graph id) ≡ true → has_refs f.rules f.graph id ≡ true →
        ((key : EdgeKey) → edge_stands f.graph key ≡ true → is_refcount f.rules key.edge ≡ true → key.to ≡ id → has (erased_ids f t) key.from ≡ true) →
        (b : Bool) → had f t id ≡ b → has_erased t f.job id ≡ true
    by_had id some refs all true was = all_erased f t none id was
    by_had id some refs all false was = absurd (no_ref (refs_from f.rules t.graph id (running.refs id held refs was)))
      where
        first : Reference f.rules f.graph id
        first = refs_from f.rules f.graph id refs

        held : has f.ids id ≡ true
        held =
            let from = (ids_from f t first.key.from f.graph.objects (all first.key first.stood first.counted first.to)).0 in
            subst (λ (n : ℕ). has f.ids n ≡ true) first.to (sym (whole.edges first.key first.stood) ∙ (running.kept.erased first.key.from from).0)

        no_ref : Reference f.rules t.graph id → ⊥
        no_ref ref =
            let was_there = stood_cond (has_cut t f.job ref.key) (edge_at f.graph ref.key) (edge_at t.graph ref.key) (running.kept.edges ref.key id held (touches_to ref.key id ref.to)) ref.stood in
            let stood : edge_stands f.graph ref.key ≡ true = ap (λ (o : Option EdgeRow). is_some o) was_there.1 ∙ ref.stood in
            let from = (ids_from f t ref.key.from f.graph.objects (all ref.key stood ref.counted ref.to)).0 in
            false≢true (sym was_there.0 ∙ edge_cut f t good running.kept ref.key ref.key.from stood from (touches_from ref.key ref.key.from refl))

-- the job took exactly the closure of its root
pub took : (f : Part) (t : State) → Whole f → Good t → Running f t → OwnsNone f.job t → TookClosure f.rules f.graph f.root f.job t
took f t whole good running none = record {
  erased = λ id gone. running.within id (or_right _ _ gone);
  all = λ id closed. (ids_from f t id f.graph.objects (closed (erased_ids f t) (erased_closed f t whole good running none) root_held)).0;
  cut = λ key gone.
      let was = running.kept.cut key gone in (
        was.0,
        elim (or_cases (had f t key.from) (had f t key.to) was.1) [
          | inl from ↦ (key.from, running.within key.from from, touches_from key key.from refl)
          | inr to ↦ (key.to, running.within key.to to, touches_to key key.to refl)
        ],
      );
  all_cut = λ key id stood closed touched.
      edge_cut f t good running.kept key id stood (ids_from f t id f.graph.objects (closed (erased_ids f t) (erased_closed f t whole good running none) root_held)).0 touched;
  rows = λ i l at same. each_at (λ x. RowOf f x.item) t.items i l running.kept.rows at (eq-eqb (job_of l.item) f.job same);
}
  where
    root_held : has (erased_ids f t) f.root ≡ true
    root_held =
        let gone = all_erased f t none f.root running.begun in ids_to f t f.root f.graph.objects gone (running.kept.erased f.root gone).1

-- once it owns nothing, nothing more is taken for the job

none_takes : (s : State) (moment : ℕ) (what : What) (job : ℕ) → is_allowed s moment what ≡ true → OwnsNone job s → takes_for job what ≡ false
none_takes s moment what job line none = false_of (takes_for job what) (by_what what line)
  where
    by_what : (w : What) → is_allowed s moment w ≡ true → takes_for job w ≡ true → ⊥
    by_what (Cut which edge from to) line takes =
        let same : which ≡ job = eqb-true which job takes in
        elim (or_cases (is_owned_by s which from) (is_owned_by s which to) (and_parts _ (is_owned_by s which from || is_owned_by s which to) line).1) [
          | inl own ↦ none.1 from (owner_is s which from own ∙ ap (λ (n : ℕ). Some n) same)
          | inr own ↦ none.1 to (owner_is s which to own ∙ ap (λ (n : ℕ). Some n) same)
        ]
    by_what (Erase which gone) line takes =
        none.1 gone (owner_is s which gone (and_parts (is_owned_by s which gone) _ line).0 ∙ ap (λ (n : ℕ). Some n) (eqb-true which job takes))
    by_what what line takes = false≢true takes

pub took_step : (f : Part) (s : State) (e : Entry) → is_legal s e ≡ true → OwnsNone f.job s → EachItem (λ l. RowOf f l.item) s.items → TookClosure f.rules f.graph f.root f.job s →
    TookClosure f.rules f.graph f.root f.job (step s e) × EachItem (λ l. RowOf f l.item) (step s e).items
took_step f s e legal none rows taken = (
  record {
    erased = λ id gone. taken.erased id (sym (erased_same s e.what f.job id quiet) ∙ gone);
    all = λ id closed. erased_same s e.what f.job id quiet ∙ taken.all id closed;
    cut = λ key gone. taken.cut key (sym (cut_same s e.what f.job key quiet) ∙ gone);
    all_cut = λ key id stood closed touched. cut_same s e.what f.job key quiet ∙ taken.all_cut key id stood closed touched;
    rows = λ i l at same. each_at (λ x. RowOf f x.item) (step s e).items i l next at (eq-eqb (job_of l.item) f.job same);
  },
  next,
)
  where
    quiet : takes_for f.job e.what ≡ false
    quiet = none_takes s e.moment e.what f.job (allowed_of s e legal) none

    next : EachItem (λ l. RowOf f l.item) (step s e).items
    next = each_same s e.what f.job (RowOf f) quiet (λ it apart same. absurd (false≢true (sym apart ∙ same))) rows

pub took_run : (f : Part) (s : State) (es : List Entry) → is_legal_from s es ≡ true → OwnsNone f.job s → EachItem (λ l. RowOf f l.item) s.items → TookClosure f.rules f.graph f.root f.job s →
    TookClosure f.rules f.graph f.root f.job (run s es)
took_run f s [] legal none rows taken = taken
took_run f s (e ∷ es) legal none rows taken =
    let parts = and_parts (is_legal s e) (is_legal_from (step s e) es) legal in
    let next = took_step f s e parts.0 none rows taken in
    took_run f (step s e) es parts.1 (none_run s (e ∷ []) f.job none) next.1 next.0
