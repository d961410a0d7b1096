-- A cut and an erasure of the job in a calm part.
use Rattle.std.proofs.Common.{◌≡◌, ℕ, zero, suc, ◌+◌, ◌≤◌, ◌<◌, Bool, true, false, cond, not, ◌&&◌, ◌||◌, eqb, List, [], ◌∷◌, ◌++◌, Option, Some, None, refl, sym, ap, ◌∙◌, subst, arith, inl, inr, ◌⊎◌}
use Rattle.std.proofs.lemmas.Bool.{and_parts, and_from, eqb-true, eq-eqb, false≢true, or_cases}
use Rattle.std.specs.Prelude.{find, is_some, is_none, slice_get}
use Rattle.std.specs.List.{list_any}
use Rattle.delf_model.specs.declared.rows.ObjectRow.{ObjectRow}
use Rattle.delf_model.specs.declared.rows.EdgeKey.{EdgeKey}
use Rattle.delf_model.specs.declared.rows.EdgeRow.{EdgeRow}
use Rattle.delf_model.specs.declared.rows.Item.{Item}
use Rattle.delf_model.specs.declared.rows.Item.TheVariants as item
use Rattle.delf_model.specs.declared.entry.Entry.{Entry}
use Rattle.delf_model.specs.declared.entry.What.{What}
use Rattle.delf_model.specs.declared.entry.What.TheVariants.{Cut, Erase}
use Rattle.delf_model.specs.RuleSet.{RuleSet, is_deep, is_refcount}
use Rattle.delf_model.specs.Graph.{Graph, TakesEdge, TakesObject, changed, has_id, has_key, same_key, object_at, edge_at, edge_stands, stands, is_born_at, touches, has_refs}
use Rattle.delf_model.specs.State.{State, Logged, owner, is_owned_by, is_job, job_of}
use Rattle.delf_model.specs.Step.{step, graph_after, items_after, edge_item, object_item, unhandled, birth_of, birth_of_row}
use Rattle.delf_model.specs.Owners.{key_of, condemns}
use Rattle.delf_model.specs.Legal.{is_legal, is_allowed}
use Rattle.delf_model.specs.Closure.{has, IsClosed, Closure, erased_item, cut_item, has_erased, has_cut}
use Rattle.delf_model.specs.Sound.{IsRowOf}
use Rattle.delf_model.proofs.Graphs.{find-filter_object, find-filter_edge, same_key_is, same_key_refl}
use Rattle.delf_model.proofs.Lines.{allowed_of}
use Rattle.delf_model.proofs.Leaves.{owner_is}
use Rattle.delf_model.proofs.Owners.{found_id, found_key, stands_of}
use Rattle.delf_model.proofs.Plain.{plain_owner, owner_plain}
use Rattle.delf_model.proofs.Places.{EachItem}
use Rattle.delf_model.proofs.Good.{Good}
use Rattle.reach_laws.proofs.Quiet.{or_nothing, any_append, each_edge, each_object, or_first, or_second, miss}
use Rattle.reach_laws.proofs.Kept.{Part, Whole, had, RowOf, Kept, Running, false_of, had_same, job_is, is_mine, Reference, refs_from, refs_to, touches_to, touches_from}

-- what stands was not cut, and stood before
stood_cond : {A : Type 0} (b : Bool) (o p : Option A) → p ≡ cond b None o → is_some p ≡ true → (b ≡ false) × (o ≡ p)
stood_cond true o p is some = absurd (false≢true (sym (ap (λ (x : Option _). is_some x) is) ∙ some))
stood_cond false o p is some = (refl, sym is)

or_left : (a b : Bool) → a ≡ true → (a || b) ≡ true
or_left true b is = refl
or_left false b is = absurd (false≢true is)

or_right : (a b : Bool) → b ≡ true → (a || b) ≡ true
or_right true b is = refl
or_right false b is = is

twice_none : {A : Type 0} (a b : Bool) (o : Option A) → cond a None (cond b None o) ≡ cond (b || a) None o
twice_none true true o = refl
twice_none true false o = refl
twice_none false true o = refl
twice_none false false o = refl

some_edge : (o : Option EdgeRow) → is_some o ≡ true → (row : EdgeRow) × (o ≡ Some row)
some_edge None some = absurd (false≢true some)
some_edge (Some row) some = (row, refl)

some_object : (o : Option ObjectRow) → is_some o ≡ true → (row : ObjectRow) × (o ≡ Some row)
some_object None some = absurd (false≢true some)
some_object (Some row) some = (row, refl)

-- a cut of the job, with what it finds
pub record CutHere (f : Part) (s : State) (key : EdgeKey) : Type 0 where
  pub row : EdgeRow
  pub at : edge_at s.graph key ≡ Some row
  pub in_part : edge_at f.graph key ≡ Some row
  pub source : has f.ids key.from ≡ true
  pub target : has f.ids key.to ≡ true
  pub end_owned : (is_owned_by s f.job key.from || is_owned_by s f.job key.to) ≡ true

cut_here : (f : Part) (s : State) (key : EdgeKey) → Whole f → Kept f s → edge_stands s.graph key ≡ true → (is_owned_by s f.job key.from || is_owned_by s f.job key.to) ≡ true → CutHere f s key
cut_here f s key whole kept stood own =
    elim (or_cases (is_owned_by s f.job key.from) (is_owned_by s f.job key.to) own) [
      | inl from ↦ by_end key.from (kept.mine key.from (owner_is s f.job key.from from)) (touches_from key key.from refl)
      | inr to ↦ by_end key.to (kept.mine key.to (owner_is s f.job key.to to)) (touches_to key key.to refl)
    ]
  where
    by_end : (id : ℕ) → has f.ids id ≡ true → touches id key ≡ true → CutHere f s key
    by_end id held touched =
        let found = some_edge (edge_at s.graph key) stood in
        let was = stood_cond (has_cut s f.job key) (edge_at f.graph key) (edge_at s.graph key) (kept.edges key id held touched) stood in
        let in_part : edge_at f.graph key ≡ Some found.0 = was.1 ∙ found.1 in
        let same : has f.ids key.from ≡ has f.ids key.to = whole.edges key (ap (λ (o : Option EdgeRow). is_some o) in_part) in
        let ends = both id (eqb key.from id) refl (eqb key.to id) refl held touched same in
        record { row = found.0; at = found.1; in_part = in_part; source = ends.0; target = ends.1; end_owned = own }
      where
        both : (x : ℕ) (a : Bool) → eqb key.from x ≡ a → (b : Bool) → eqb key.to x ≡ b → has f.ids x ≡ true → (a || b) ≡ true → has f.ids key.from ≡ has f.ids key.to →
            (has f.ids key.from ≡ true) × (has f.ids key.to ≡ true)
        both x true at b to held touched same =
            let one : has f.ids key.from ≡ true = subst (λ (n : ℕ). has f.ids n ≡ true) (sym (eqb-true key.from x at)) held in (one, sym same ∙ one)
        both x false at true to held touched same =
            let one : has f.ids key.to ≡ true = subst (λ (n : ℕ). has f.ids n ≡ true) (sym (eqb-true key.to x to)) held in (same ∙ one, one)
        both x false at false to held touched same = absurd (false≢true touched)

-- the state after a cut of this edge by the job
abbrev pub cut_state : Part → State → ℕ → EdgeKey → State
cut_state f s moment key = step s (record { moment = moment; what = Cut f.job key.edge key.from key.to })

edge_push : (q : Item → Bool) (g : Graph) (job : ℕ) (xs : List Logged) (o : Option EdgeRow) (row : EdgeRow) → o ≡ Some row →
    list_any (λ l. q l.item) (xs ++ edge_item g job o) ≡ (list_any (λ l. q l.item) xs || q (item.Edge job row (birth_of g row.key.from) (birth_of g row.key.to)))
edge_push q g job xs o row at =
    ap (λ (x : Option EdgeRow). list_any (λ l. q l.item) (xs ++ edge_item g job x)) at ∙
    (any_append (λ l. q l.item) xs (unhandled (item.Edge job row (birth_of g row.key.from) (birth_of g row.key.to)) ∷ []) ∙
    ap (λ (b : Bool). list_any (λ l. q l.item) xs || b) (or_nothing (q (item.Edge job row (birth_of g row.key.from) (birth_of g row.key.to)))))

cut_pushed : (f : Part) (s : State) (moment : ℕ) (key : EdgeKey) → CutHere f s key → (k : EdgeKey) → has_cut (cut_state f s moment key) f.job k ≡ (has_cut s f.job k || same_key key k)
cut_pushed f s moment key here k =
    edge_push (cut_item f.job k) s.graph f.job s.items (edge_at s.graph (key_of key.edge key.from key.to)) here.row here.at ∙
    ap (λ (b : Bool). has_cut s f.job k || b)
    (and_one (eqb f.job f.job) (same_key here.row.key k) (eq-eqb f.job f.job refl) ∙ ap (λ (x : EdgeKey). same_key x k) (found_key s.graph.edges key here.row here.at))
  where
    and_one : (a b : Bool) → a ≡ true → (a && b) ≡ b
    and_one true b is = refl
    and_one false b is = absurd (false≢true is)

erased_pushed : (f : Part) (s : State) (moment : ℕ) (key : EdgeKey) → CutHere f s key → (id : ℕ) → has_erased (cut_state f s moment key) f.job id ≡ has_erased s f.job id
erased_pushed f s moment key here id =
    edge_push (erased_item f.job id) s.graph f.job s.items (edge_at s.graph (key_of key.edge key.from key.to)) here.row here.at ∙ or_nothing (has_erased s f.job id)

-- the owners after it
abbrev pub gets_owner : Part → State → EdgeKey → Bool
gets_owner f s key = is_none (owner s key.to) && condemns s.rules (changed s.graph (TakesEdge key)) key

cut_owner : (f : Part) (s : State) (moment : ℕ) (key : EdgeKey) → Good s → is_legal s (record { moment = moment; what = Cut f.job key.edge key.from key.to }) ≡ true → (id : ℕ) →
    owner (cut_state f s moment key) id ≡ cond (eqb key.to id && gets_owner f s key) (Some f.job) (owner s id)
cut_owner f s moment key good legal id =
    owner_plain s moment (Cut f.job key.edge key.from key.to) legal good.owned_stand good.ends id ∙
    ap (λ (b : Bool). cond b (Some f.job) (owner s id)) (assoc (eqb key.to id) (is_none (owner s key.to)) (condemns s.rules (changed s.graph (TakesEdge key)) key))
  where
    assoc : (a b c : Bool) → ((a && b) && c) ≡ (a && (b && c))
    assoc true b c = refl
    assoc false b c = refl

over_owned : (b : Bool) (job : ℕ) (o : Option ℕ) → is_job job o ≡ true → is_job job (cond b (Some job) o) ≡ true
over_owned true job o own = eq-eqb job job refl
over_owned false job o own = own

cut_had : (f : Part) (s : State) (moment : ℕ) (key : EdgeKey) → Good s → is_legal s (record { moment = moment; what = Cut f.job key.edge key.from key.to }) ≡ true → CutHere f s key → (id : ℕ) →
    had f s id ≡ true → had f (cut_state f s moment key) id ≡ true
cut_had f s moment key good legal here id was =
    elim (or_cases (is_owned_by s f.job id) (has_erased s f.job id) was) [
      | inl own ↦ or_left _ _ (ap (is_job f.job) (cut_owner f s moment key good legal id) ∙ over_owned (eqb key.to id && gets_owner f s key) f.job (owner s id) own)
      | inr gone ↦ or_right _ _ (erased_pushed f s moment key here id ∙ gone)
    ]

hit_or_old : (b : Bool) (job : ℕ) (o : Option ℕ) → is_job job (cond b (Some job) o) ≡ true → (b ≡ true) ⊎ (is_job job o ≡ true)
hit_or_old true job o own = inl refl
hit_or_old false job o own = inr own

-- what the job has had after a cut it had before, or it is the target, which gets its owner here
cut_new : (f : Part) (s : State) (moment : ℕ) (key : EdgeKey) → Good s → is_legal s (record { moment = moment; what = Cut f.job key.edge key.from key.to }) ≡ true → CutHere f s key → (id : ℕ) →
    had f (cut_state f s moment key) id ≡ true → (had f s id ≡ true) ⊎ ((key.to ≡ id) × (gets_owner f s key ≡ true))
cut_new f s moment key good legal here id now =
    elim (or_cases (is_owned_by (cut_state f s moment key) f.job id) (has_erased (cut_state f s moment key) f.job id) now) [
      | inl own ↦
          elim (hit_or_old (eqb key.to id && gets_owner f s key) f.job (owner s id) (sym (ap (is_job f.job) (cut_owner f s moment key good legal id)) ∙ own)) [
            | inl hit ↦ (let parts = and_parts (eqb key.to id) (gets_owner f s key) hit in inr (eqb-true key.to id parts.0, parts.1))
            | inr old ↦ inl (or_left _ _ old)
          ]
      | inr gone ↦ inl (or_right _ _ (sym (erased_pushed f s moment key here id) ∙ gone))
    ]

-- an end stands in the part as it was after the start
end_stands : (f : Part) (s : State) (id : ℕ) → Kept f s → has f.ids id ≡ true → is_some (object_at s.graph id) ≡ true → stands f.graph id (birth_of s.graph id) ≡ true
end_stands f s id kept held some =
    let was = stood_cond (has_erased s f.job id) (object_at f.graph id) (object_at s.graph id) (kept.objects id held) some in
    let found = some_object (object_at s.graph id) some in
    subst (λ (n : ℕ). stands f.graph id n ≡ true) (sym (ap birth_of_row found.1)) (stands_of f.graph id found.0 (was.1 ∙ found.1))

cut_kept : (f : Part) (s : State) (moment : ℕ) (key : EdgeKey) → Whole f → Good s → is_legal s (record { moment = moment; what = Cut f.job key.edge key.from key.to }) ≡ true → CutHere f s key → Kept f s → Kept f (cut_state f s moment key)
cut_kept f s moment key whole good legal here kept = record {
  below = later f.job s.len kept.below;
  objects = λ id held. kept.objects id held ∙ ap (λ (b : Bool). cond b None (object_at f.graph id)) (sym (erased_pushed f s moment key here id));
  edges = λ k id held touched.
      find-filter_edge key s.graph.edges k ∙
      (ap (λ (o : Option EdgeRow). cond (same_key key k) None o) (kept.edges k id held touched) ∙
      (twice_none (same_key key k) (has_cut s f.job k) (edge_at f.graph k) ∙
      ap (λ (b : Bool). cond b None (edge_at f.graph k)) (sym (cut_pushed f s moment key here k))));
  erased = λ id gone. kept.erased id (sym (erased_pushed f s moment key here id) ∙ gone);
  cut = λ k gone.
      elim (or_cases (has_cut s f.job k) (same_key key k) (sym (cut_pushed f s moment key here k) ∙ gone)) [
        | inl old ↦
            (let was = kept.cut k old in (
              was.0,
              elim (or_cases (had f s k.from) (had f s k.to) was.1) [
                | inl from ↦ or_left _ _ (cut_had f s moment key good legal here k.from from)
                | inr to ↦ or_right _ _ (cut_had f s moment key good legal here k.to to)
              ],
            ))
        | inr new ↦
            (let same : key ≡ k = same_key_is key k new in (
              subst (λ (x : EdgeKey). edge_stands f.graph x ≡ true) same (ap (λ (o : Option EdgeRow). is_some o) here.in_part),
              subst (λ (x : EdgeKey). (had f (cut_state f s moment key) x.from || had f (cut_state f s moment key) x.to) ≡ true) same
                  (elim (or_cases (is_owned_by s f.job key.from) (is_owned_by s f.job key.to) here.end_owned) [
                    | inl from ↦ or_left _ _ (cut_had f s moment key good legal here key.from (or_left _ _ from))
                    | inr to ↦ or_right _ _ (cut_had f s moment key good legal here key.to (or_left _ _ to))
                  ]),
            ))
      ];
  other = λ id k held own. by_hit id k held (eqb key.to id && gets_owner f s key) (sym (cut_owner f s moment key good legal id) ∙ own);
  mine = λ id own. mine_hit id (eqb key.to id && gets_owner f s key) refl (sym (cut_owner f s moment key good legal id) ∙ own);
  rows = each_edge (λ l. RowOf f l.item) s.graph f.job s.items (edge_at s.graph (key_of key.edge key.from key.to)) kept.rows
      (λ row at same_job. new_row row (some_is row here.row (sym at ∙ here.at)));
}
  where
    later : (a b : ℕ) → a < b → a < b + 1
    later a b h = omega arith

    some_is : (a b : EdgeRow) → Some a ≡ Some b → a ≡ b
    some_is a b h = cc

    by_hit : (id k : ℕ) → has f.ids id ≡ true → (b : Bool) → cond b (Some f.job) (owner s id) ≡ Some k → k ≡ f.job
    by_hit id k held true own = let same : f.job ≡ k = cc in sym same
    by_hit id k held false own = kept.other id k held own

    mine_hit : (id : ℕ) (b : Bool) → (eqb key.to id && gets_owner f s key) ≡ b → cond b (Some f.job) (owner s id) ≡ Some f.job → has f.ids id ≡ true
    mine_hit id true is own = subst (λ (n : ℕ). has f.ids n ≡ true) (eqb-true key.to id (and_parts (eqb key.to id) (gets_owner f s key) is).0) here.target
    mine_hit id false is own = kept.mine id own

    new_row : (row : EdgeRow) → row ≡ here.row → IsRowOf f.graph (item.Edge f.job row (birth_of s.graph row.key.from) (birth_of s.graph row.key.to))
    new_row row same =
        let is_key : row.key ≡ key = ap (λ (r : EdgeRow). r.key) same ∙ found_key s.graph.edges key here.row here.at in (
          subst (λ (k : EdgeKey). edge_at f.graph k ≡ Some row) (sym is_key) (here.in_part ∙ ap (λ (r : EdgeRow). Some r) (sym same)),
          subst (λ (k : EdgeKey). stands f.graph k.from (birth_of s.graph k.from) ≡ true) (sym is_key) (end_stands f s key.from kept here.source (good.ends.source key (ap (λ (o : Option EdgeRow). is_some o) here.at))),
          subst (λ (k : EdgeKey). stands f.graph k.to (birth_of s.graph k.to) ≡ true) (sym is_key) (end_stands f s key.to kept here.target (good.ends.target key (ap (λ (o : Option EdgeRow). is_some o) here.at))),
        )

-- a cut's target that has no owner has the job as its source's owner
source_owned : (f : Part) (s : State) (key : EdgeKey) → CutHere f s key → is_none (owner s key.to) ≡ true → is_owned_by s f.job key.from ≡ true
source_owned f s key here none =
    elim (or_cases (is_owned_by s f.job key.from) (is_owned_by s f.job key.to) here.end_owned) [
      | inl from ↦ from
      | inr to ↦ absurd (not_both (owner s key.to) none to)
    ]
  where
    not_both : (o : Option ℕ) → is_none o ≡ true → is_job f.job o ≡ true → ⊥
    not_both None one two = false≢true two
    not_both (Some x) one two = false≢true one

none_is : (o : Option ℕ) → is_none o ≡ true → o ≡ None
none_is None is = refl
none_is (Some x) is = absurd (false≢true is)

-- the target of a cut that condemns belongs to the closure
target_within : (f : Part) (s : State) (moment : ℕ) (key : EdgeKey) → Good s → CutHere f s key → Running f s → gets_owner f s key ≡ true → Closure f.rules f.graph f.root key.to
target_within f s moment key good here running gets =
    let parts = and_parts (is_none (owner s key.to)) (condemns s.rules (changed s.graph (TakesEdge key)) key) gets in
    let source : had f s key.from ≡ true = or_left _ _ (source_owned f s key here parts.0) in
    let in_part : edge_stands f.graph key ≡ true = ap (λ (o : Option EdgeRow). is_some o) here.in_part in
    elim (or_cases (is_deep s.rules key.edge) (is_refcount s.rules key.edge && not (has_refs s.rules (changed s.graph (TakesEdge key)) key.to)) parts.1) [
      | inl deep ↦
          (λ ids closed root. closed.deep key in_part (subst (λ (r : RuleSet). is_deep r key.edge ≡ true) running.rules deep) (running.within key.from source ids closed root))
      | inr counted ↦
          (let both = and_parts (is_refcount s.rules key.edge) (not (has_refs s.rules (changed s.graph (TakesEdge key)) key.to)) counted in
          let is_counted : is_refcount f.rules key.edge ≡ true = subst (λ (r : RuleSet). is_refcount r key.edge ≡ true) running.rules both.0 in
          let none_left : has_refs f.rules (changed s.graph (TakesEdge key)) key.to ≡ false =
          subst (λ (r : RuleSet). has_refs r (changed s.graph (TakesEdge key)) key.to ≡ false) running.rules (not_true _ both.1) in
          λ ids closed root.
          closed.counted key.to there_to (refs_to f.rules f.graph key.to (record { key = key; stood = in_part; counted = is_counted; to = refl }))
          (λ k stood is to. from_of k stood is to none_left (same_key key k) refl ids closed root))
    ]
  where
    not_true : (b : Bool) → not b ≡ true → b ≡ false
    not_true true is = absurd (false≢true is)
    not_true false is = refl

    there_to : is_some (object_at f.graph key.to) ≡ true
    there_to =
        let some : is_some (object_at s.graph key.to) ≡ true = good.ends.target key (ap (λ (o : Option EdgeRow). is_some o) here.at) in
        let was = stood_cond (has_erased s f.job key.to) (object_at f.graph key.to) (object_at s.graph key.to) (running.kept.objects key.to here.target) some in
        ap (λ (o : Option ObjectRow). is_some o) was.1 ∙ some

    not_had_to : (k : EdgeKey) → k.to ≡ key.to → is_none (owner s key.to) ≡ true → had f s k.to ≡ true → ⊥
    not_had_to k same none was =
        let some : is_some (object_at s.graph key.to) ≡ true = good.ends.target key (ap (λ (o : Option EdgeRow). is_some o) here.at) in
        let not_gone = (stood_cond (has_erased s f.job key.to) (object_at f.graph key.to) (object_at s.graph key.to) (running.kept.objects key.to here.target) some).0 in
        elim (or_cases (is_owned_by s f.job key.to) (has_erased s f.job key.to) (subst (λ (n : ℕ). had f s n ≡ true) same was)) [
          | inl own ↦ (let mine : owner s key.to ≡ Some f.job = owner_is s f.job key.to own in
              let both : None ≡ Some f.job = sym (none_is (owner s key.to) none) ∙ mine in cc both)
          | inr gone ↦ false≢true (sym not_gone ∙ gone)
        ]

    -- each other reference was cut before, by the job that had its source
    from_of : (k : EdgeKey) → edge_stands f.graph k ≡ true → is_refcount f.rules k.edge ≡ true → k.to ≡ key.to → has_refs f.rules (changed s.graph (TakesEdge key)) key.to ≡ false →
        (b : Bool) → same_key key k ≡ b → (ids : List ℕ) → IsClosed f.rules f.graph ids → has ids f.root ≡ true → has ids k.from ≡ true
    from_of k stood is to none_left true same ids closed root =
        subst (λ (x : EdgeKey). has ids x.from ≡ true) (same_key_is key k same)
        (running.within key.from (or_left _ _ (source_owned f s key here (and_parts (is_none (owner s key.to)) _ gets).0)) ids closed root)
    from_of k stood is to none_left false same ids closed root =
        let gone : edge_stands s.graph k ≡ false =
        false_of (edge_stands s.graph k)
        (λ stands_now. false≢true (sym none_left ∙
        refs_to f.rules (changed s.graph (TakesEdge key)) key.to (record {
          key = k;
          counted = is;
          to = to;
          stood = ap (λ (o : Option EdgeRow). is_some o) (find-filter_edge key s.graph.edges k ∙ miss (same_key key k) None (edge_at s.graph k) same) ∙ stands_now;
        }))) in
        let was_cut : has_cut s f.job k ≡ true = cut_of (has_cut s f.job k) refl gone in
        let was = running.kept.cut k was_cut in
        elim (or_cases (had f s k.from) (had f s k.to) was.1) [
          | inl from ↦ running.within k.from from ids closed root
          | inr target ↦ absurd (not_had_to k to (and_parts (is_none (owner s key.to)) _ gets).0 target)
        ]
      where
        cut_of : (b : Bool) → has_cut s f.job k ≡ b → edge_stands s.graph k ≡ false → b ≡ true
        cut_of true at gone = refl
        cut_of false at gone =
            absurd (false≢true (sym gone ∙
            (ap (λ (o : Option EdgeRow). is_some o)
            (running.kept.edges k key.to here.target (touches_to k key.to to) ∙ ap (λ (b : Bool). cond b None (edge_at f.graph k)) at) ∙ stood)))

pub cut_running : (f : Part) (s : State) (moment : ℕ) (key : EdgeKey) → Whole f → Good s → is_legal s (record { moment = moment; what = Cut f.job key.edge key.from key.to }) ≡ true → Running f s → Running f (cut_state f s moment key)
cut_running f s moment key whole good legal running = by_here (cut_here f s key whole running.kept line.0 line.1)
  where
    line : (edge_stands s.graph key ≡ true) × ((is_owned_by s f.job key.from || is_owned_by s f.job key.to) ≡ true)
    line = and_parts (edge_stands s.graph key) (is_owned_by s f.job key.from || is_owned_by s f.job key.to) (allowed_of s (record { moment = moment; what = Cut f.job key.edge key.from key.to }) legal)

    by_here : CutHere f s key → Running f (cut_state f s moment key)
    by_here here = record {
      kept = cut_kept f s moment key whole good legal here running.kept;
      rules = running.rules;
      begun = cut_had f s moment key good legal here f.root running.begun;
      within = λ id now.
          elim (cut_new f s moment key good legal here id now) [
            | inl old ↦ running.within id old
            | inr new ↦ subst (λ (n : ℕ). Closure f.rules f.graph f.root n) new.0 (target_within f s moment key good here running new.1)
          ];
      deep = λ k gone is.
          elim (or_cases (has_cut s f.job k) (same_key key k) (sym (cut_pushed f s moment key here k) ∙ gone)) [
            | inl old ↦ cut_had f s moment key good legal here k.to (running.deep k old is)
            | inr new ↦ deep_new k (same_key_is key k new) is (is_none (owner s key.to)) refl
          ];
      refs = λ id held some not_had. refs_left id held some not_had;
    }
      where
        target_had : (id : ℕ) → key.to ≡ id → gets_owner f s key ≡ true → had f (cut_state f s moment key) id ≡ true
        target_had id same gets =
            or_left _ _ (ap (is_job f.job) (cut_owner f s moment key good legal id ∙
            ap (λ (b : Bool). cond b (Some f.job) (owner s id)) (and_from (eqb key.to id) (gets_owner f s key) (eq-eqb key.to id same) gets)) ∙ eq-eqb f.job f.job refl)

        owned_other : (o : Option ℕ) → owner s key.to ≡ o → is_none o ≡ false → had f s key.to ≡ true
        owned_other None at none = absurd (false≢true (sym none))
        owned_other (Some k) at none = or_left _ _ (ap (is_job f.job) at ∙ eq-eqb k f.job (running.kept.other key.to k here.target at))

        deep_new : (k : EdgeKey) → key ≡ k → is_deep f.rules k.edge ≡ true → (none : Bool) → is_none (owner s key.to) ≡ none → had f (cut_state f s moment key) k.to ≡ true
        deep_new k same is true at =
            target_had k.to (ap (λ (x : EdgeKey). x.to) same)
            (and_from (is_none (owner s key.to)) (condemns s.rules (changed s.graph (TakesEdge key)) key) at
            (or_left _ _ (subst (λ (r : RuleSet). is_deep r key.edge ≡ true) (sym running.rules) (subst (λ (x : EdgeKey). is_deep f.rules x.edge ≡ true) (sym same) is))))
        deep_new k same is false at =
            subst (λ (x : EdgeKey). had f (cut_state f s moment key) x.to ≡ true) same (cut_had f s moment key good legal here key.to (owned_other (owner s key.to) refl at))

        not_had_before : (id : ℕ) → had f (cut_state f s moment key) id ≡ false → had f s id ≡ false
        not_had_before id not_now = false_of (had f s id) (λ was. false≢true (sym not_now ∙ cut_had f s moment key good legal here id was))

        refs_left : (id : ℕ) → has f.ids id ≡ true → has_refs f.rules f.graph id ≡ true → had f (cut_state f s moment key) id ≡ false → has_refs f.rules (changed s.graph (TakesEdge key)) id ≡ true
        refs_left id held some not_now = by_left (has_refs f.rules (changed s.graph (TakesEdge key)) id) refl
          where
            ref : Reference f.rules s.graph id
            ref = refs_from f.rules s.graph id (running.refs id held some (not_had_before id not_now))

            unowned : (o : Option ℕ) → owner s id ≡ o → is_none o ≡ true
            unowned None at = refl
            unowned (Some k) at =
                absurd (false≢true (sym (not_had_before id not_now) ∙ or_left _ _ (ap (is_job f.job) at ∙ eq-eqb k f.job (running.kept.other id k held at))))

            by_same : (b : Bool) → same_key key ref.key ≡ b → has_refs f.rules (changed s.graph (TakesEdge key)) id ≡ false → ⊥
            by_same false apart none =
                false≢true (sym none ∙
                refs_to f.rules (changed s.graph (TakesEdge key)) id (record {
                  key = ref.key;
                  counted = ref.counted;
                  to = ref.to;
                  stood = ap (λ (o : Option EdgeRow). is_some o) (find-filter_edge key s.graph.edges ref.key ∙ miss (same_key key ref.key) None (edge_at s.graph ref.key) apart) ∙ ref.stood;
                }))
            by_same true same none =
                let is_key : key ≡ ref.key = same_key_is key ref.key same in
                let to_is : key.to ≡ id = ap (λ (x : EdgeKey). x.to) is_key ∙ ref.to in
                let gets : gets_owner f s key ≡ true =
                and_from (is_none (owner s key.to)) (condemns s.rules (changed s.graph (TakesEdge key)) key)
                (subst (λ (n : ℕ). is_none (owner s n) ≡ true) (sym to_is) (unowned (owner s id) refl))
                (or_right _ _
                (and_from (is_refcount s.rules key.edge) (not (has_refs s.rules (changed s.graph (TakesEdge key)) key.to))
                (subst (λ (r : RuleSet). is_refcount r key.edge ≡ true) (sym running.rules) (subst (λ (x : EdgeKey). is_refcount f.rules x.edge ≡ true) (sym is_key) ref.counted))
                (ap not (subst (λ (r : RuleSet). has_refs r (changed s.graph (TakesEdge key)) key.to ≡ false) (sym running.rules)
                (subst (λ (n : ℕ). has_refs f.rules (changed s.graph (TakesEdge key)) n ≡ false) (sym to_is) none))))) in
                false≢true (sym not_now ∙ target_had id to_is gets)

            by_left : (b : Bool) → has_refs f.rules (changed s.graph (TakesEdge key)) id ≡ b → b ≡ true
            by_left true at = refl
            by_left false at = absurd (by_same (same_key key ref.key) refl at)
