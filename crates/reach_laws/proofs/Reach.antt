-- A job that owns nothing has erased exactly what it reached.
use Rattle.std.proofs.Common.{◌≡◌, ℕ, zero, suc, ◌+◌, ◌≤◌, ◌<◌, Bool, true, false, cond, not, ◌&&◌, ◌||◌, eqb, List, [], ◌∷◌, ◌++◌, length, take, drop, Option, Some, None, refl, sym, ap, ◌∙◌, subst, arith, inl, inr, ◌⊎◌}
use Rattle.std.proofs.lemmas.Bool.{and_parts, and_from, eqb-true, eq-eqb, false≢true}
use Rattle.std.proofs.lemmas.List.Sums.{sum_by-cons, sum_by-append}
use Rattle.std.specs.Prelude.{is_some, is_none, slice_get, count_by, find}
use Rattle.std.specs.Option.{option_map}
use Rattle.delf_model.specs.declared.rows.ObjectRow.{ObjectRow}
use Rattle.delf_model.specs.declared.rows.EdgeRow.{EdgeRow}
use Rattle.delf_model.specs.declared.rows.Item.{Item}
use Rattle.delf_model.specs.declared.rows.Item.TheVariants as item
use Rattle.delf_model.specs.declared.ids.JobName.{JobName}
use Rattle.delf_model.specs.declared.ids.JobName.TheVariants.{Named, Expiry}
use Rattle.delf_model.specs.declared.entry.Entry.{Entry}
use Rattle.delf_model.specs.declared.entry.Tag.{Tag}
use Rattle.delf_model.specs.declared.entry.What.{What}
use Rattle.delf_model.specs.declared.entry.What.TheVariants.{Create, Update, Link, Unlink, Delete, Restore, Expire, Cut, Erase, Put, Purge}
use Rattle.delf_model.specs.RuleSet.{RuleSet}
use Rattle.delf_model.specs.Graph.{Graph, object_at, edge_at, stands, is_born_at}
use Rattle.delf_model.specs.State.{State, Logged, JobRow, start, owner, owned, is_owned_by, is_job, job_row, starts_at}
use Rattle.delf_model.specs.Step.{step, run, after, graph_after, jobs_after, items_after, new_job, started_job, row_restored_at, purged_if, erased_at, edge_item, object_item, unhandled, birth_of, handled_at, outcome}
use Rattle.delf_model.specs.Owners.{start_of, unlink_start, root_of_start, key_of}
use Rattle.std.specs.Option.{option_or}
use Rattle.delf_model.specs.Legal.{is_legal, is_legal_from, is_allowed, Legal, is_end_item}
use Rattle.delf_model.specs.Closure.{root_of, root_of_row}
use Rattle.delf_model.specs.Sound.{Reached, erasures, is_erasure_of, ErasedReached, DoneErasesReached}
use Rattle.delf_model.proofs.Runs.{legal_take, legal_drop, run-take-drop, good_run}
use Rattle.delf_model.proofs.Lines.{allowed_of}
use Rattle.delf_model.proofs.Leaves.{objects_leave, owner_is}
use Rattle.delf_model.proofs.Owners.{OwnedStand, owner_stays, owner_from, stands_of, found_id}
use Rattle.delf_model.proofs.Plain.{plain_owner, owner_plain}
use Rattle.delf_model.proofs.Jobs.{owned_positive, job_row-started, job_row-restored, job_row-purged, job_row-erased}
use Rattle.delf_model.proofs.Places.{one_if, may_put_of, erasures_stay, handled_erasures}
use Rattle.delf_model.proofs.Good.{Good, good_start, good_step, good_after, good_at}

-- once owned, then owned or erased

erased_here : (s : State) (job id birth : ℕ) (row : ObjectRow) → row.id ≡ id → row.birth ≡ birth →
    0 < count_by (is_erasure_of job id birth) (s.items ++ unhandled (item.Object job row) ∷ [])
erased_here s job id birth row same_id same_birth =
    let one : one_if (is_end_item job id birth (item.Object job row)) ≡ 1 =
    ap one_if (and_from (eqb job job && eqb row.id id) (eqb row.birth birth) (and_from (eqb job job) (eqb row.id id) (eq-eqb job job refl) (eq-eqb row.id id same_id)) (eq-eqb row.birth birth same_birth)) in
    omega (
      arith,
      sum_by-append (λ l. one_if (is_erasure_of job id birth l)) s.items (unhandled (item.Object job row) ∷ []),
      sum_by-cons (λ l. one_if (is_erasure_of job id birth l)) (unhandled (item.Object job row)) [],
      one,
    )

born_row : (birth : ℕ) (o : Option ObjectRow) → is_born_at birth o ≡ true → (row : ObjectRow) × (o ≡ Some row) × (row.birth ≡ birth)
born_row birth None born = absurd (false≢true born)
born_row birth (Some row) born = (row, refl, eqb-true row.birth birth born)

-- what a job owns after a step it owns still, or has erased
abbrev pub HeldOrErased : State → ℕ → ℕ → ℕ → Type 0
HeldOrErased s job id birth = ((owner s id ≡ Some job) × (stands s.graph id birth ≡ true)) ⊎ (0 < erasures s job id birth)

erase_counts : (s : State) (moment job id birth : ℕ) (what : What) → what ≡ Erase job id → stands s.graph id birth ≡ true →
    0 < erasures (step s (record { moment = moment; what = what })) job id birth
erase_counts s moment job id birth what is stood =
    let found = born_row birth (object_at s.graph id) stood in
    subst (λ (w : What). 0 < count_by (is_erasure_of job id birth) (items_after s w)) (sym is)
    (subst (λ (o : Option ObjectRow). 0 < count_by (is_erasure_of job id birth) (s.items ++ object_item job o)) (sym found.1)
    (erased_here s job id birth found.0 (found_id s.graph.objects id found.0 found.1) found.2))

held_step : (s : State) (e : Entry) → is_legal s e ≡ true → (job id birth : ℕ) → owner s id ≡ Some job → stands s.graph id birth ≡ true → HeldOrErased (step s e) job id birth
held_step s e legal job id birth own stood = by_stood (stands (step s e).graph id birth) refl
  where
    by_stood : (b : Bool) → stands (step s e).graph id birth ≡ b → HeldOrErased (step s e) job id birth
    by_stood true is =
        let found = born_row birth (object_at (graph_after s e.moment e.what) id) is in
        inl (owner_stays s e id job found.0 found.1 (subst (λ (n : ℕ). stands s.graph id n ≡ true) (sym found.2) stood) own, is)
    by_stood false is =
        let gone = objects_leave s e legal id birth stood is in
        let same : gone.0 ≡ job = some_is gone.0 job (sym gone.1 ∙ own) in
        inr (erase_counts s e.moment job id birth e.what (gone.2 ∙ ap (λ (n : ℕ). Erase n id) same) stood)
      where
        some_is : (a b : ℕ) → Some a ≡ Some b → a ≡ b
        some_is a b h = cc

pub progress : (s : State) (es : List Entry) (job id birth : ℕ) → is_legal_from s es ≡ true → HeldOrErased s job id birth → HeldOrErased (run s es) job id birth
progress s [] job id birth legal held = held
progress s (e ∷ es) job id birth legal held =
    let parts = and_parts (is_legal s e) (is_legal_from (step s e) es) legal in
    progress (step s e) es job id birth parts.1
    (elim held [
      | inl now ↦ held_step s e parts.0 job id birth now.0 now.1
      | inr gone ↦ inr (more _ _ gone (erasures_stay s e.moment e.what (allowed_of s e parts.0) job id birth))
    ])
  where
    more : (a b : ℕ) → 0 < a → a ≤ b → 0 < b
    more a b one two = omega arith

-- what is erased was owned where it was erased

abbrev pub OwnedAt : State → ℕ → ℕ → ℕ → Type 0
OwnedAt s job id birth = (owner s id ≡ Some job) × (stands s.graph id birth ≡ true)

end_parts : (job id birth which : ℕ) (row : ObjectRow) → is_end_item job id birth (item.Object which row) ≡ true → (which ≡ job) × (row.id ≡ id) × (row.birth ≡ birth)
end_parts job id birth which row is =
    let all = and_parts (eqb which job && eqb row.id id) (eqb row.birth birth) is in
    let two = and_parts (eqb which job) (eqb row.id id) all.0 in
    (eqb-true which job two.0, eqb-true row.id id two.1, eqb-true row.birth birth all.1)

erase_new : (s : State) (which gone job id birth : ℕ) → is_owned_by s which gone ≡ true → (o : Option ObjectRow) → object_at s.graph gone ≡ o →
    0 < count_by (is_erasure_of job id birth) (s.items ++ object_item which o) → (0 < erasures s job id birth) ⊎ OwnedAt s job id birth
erase_new s which gone job id birth own None at here =
    inl (omega (arith, sum_by-append (λ l. one_if (is_erasure_of job id birth l)) s.items [], here))
erase_new s which gone job id birth own (Some row) at here = by_same (is_end_item job id birth (item.Object which row)) refl
  where
    push : count_by (is_erasure_of job id birth) (s.items ++ unhandled (item.Object which row) ∷ []) ≡ erasures s job id birth + one_if (is_end_item job id birth (item.Object which row))
    push =
        omega (
          arith,
          sum_by-append (λ l. one_if (is_erasure_of job id birth l)) s.items (unhandled (item.Object which row) ∷ []),
          sum_by-cons (λ l. one_if (is_erasure_of job id birth l)) (unhandled (item.Object which row)) [],
        )

    before : (a b n : ℕ) → 0 < a → a ≡ b + n → n ≡ 0 → 0 < b
    before a b n one two three = omega arith

    by_same : (b : Bool) → is_end_item job id birth (item.Object which row) ≡ b → (0 < erasures s job id birth) ⊎ OwnedAt s job id birth
    by_same false is = inl (before _ _ (one_if (is_end_item job id birth (item.Object which row))) here push (ap one_if is))
    by_same true is =
        let parts = end_parts job id birth which row is in
        let same : gone ≡ id = sym (found_id s.graph.objects gone row at) ∙ parts.1 in
        inr (
          subst (λ (n : ℕ). owner s n ≡ Some job) same (owner_is s which gone own ∙ ap Some parts.0),
          subst (λ (n : ℕ). stands s.graph n birth ≡ true) same (subst (λ (n : ℕ). stands s.graph gone n ≡ true) parts.2 (stands_of s.graph gone row at)),
        )

edge_erasures : (g : Graph) (which job id birth : ℕ) (o : Option EdgeRow) → count_by (is_erasure_of job id birth) (edge_item g which o) ≤ 0
edge_erasures g which job id birth None = omega arith
edge_erasures g which job id birth (Some row) =
    omega (arith, sum_by-cons (λ l. one_if (is_erasure_of job id birth l)) (unhandled (item.Edge which row (birth_of g row.key.from) (birth_of g row.key.to))) [])

erased_new : (s : State) (moment : ℕ) (what : What) → is_allowed s moment what ≡ true → (job id birth : ℕ) →
    0 < erasures (step s (record { moment = moment; what = what })) job id birth → (0 < erasures s job id birth) ⊎ OwnedAt s job id birth
erased_new s moment (Create tag kind x size) line job id birth here = inl here
erased_new s moment (Update tag x size) line job id birth here = inl here
erased_new s moment (Link tag edge from to size) line job id birth here = inl here
erased_new s moment (Unlink tag edge from to name) line job id birth here = inl here
erased_new s moment (Delete tag x name) line job id birth here = inl here
erased_new s moment (Restore tag which) line job id birth here = inl here
erased_new s moment (Expire x) line job id birth here = inl here
erased_new s moment (Cut which edge from to) line job id birth here =
    inl (omega (
      arith,
      sum_by-append (λ l. one_if (is_erasure_of job id birth l)) s.items (edge_item s.graph which (edge_at s.graph (key_of edge from to))),
      edge_erasures s.graph which job id birth (edge_at s.graph (key_of edge from to)),
      here,
    ))
erased_new s moment (Erase which gone) line job id birth here =
    erase_new s which gone job id birth (and_parts (is_owned_by s which gone) _ line).0 (object_at s.graph gone) refl here
erased_new s moment (Put which i) line job id birth here =
    let may = may_put_of s which i (slice_get s.items i) refl line in
    inl (subst (λ (n : ℕ). 0 < n) (handled_erasures s i job id birth (outcome s (slice_get s.items i)) may.logged may.at) here)
erased_new s moment (Purge which) line job id birth here = inl here

-- somewhere on a run this holds
pub record Somewhere (s : State) (es : List Entry) (P : State → Type 0) : Type 0 where
  pub at : ℕ
  pub within : at ≤ length es
  pub here : P (run s (take at es))

later : (s : State) (e : Entry) (es : List Entry) (P : State → Type 0) → Somewhere (step s e) es P → Somewhere s (e ∷ es) P
later s e es P some = record { at = suc some.at; within = suc_within some.at (length es) some.within; here = some.here }
  where
    suc_within : (a b : ℕ) → a ≤ b → suc a ≤ suc b
    suc_within a b h = omega arith

pub erased_on : (s : State) (es : List Entry) (job id birth : ℕ) → is_legal_from s es ≡ true → 0 < erasures (run s es) job id birth →
    (0 < erasures s job id birth) ⊎ Somewhere s es (λ t. OwnedAt t job id birth)
erased_on s [] job id birth legal here = inl here
erased_on s (e ∷ es) job id birth legal here =
    let parts = and_parts (is_legal s e) (is_legal_from (step s e) es) legal in
    elim (erased_on (step s e) es job id birth parts.1 here) [
      | inl now ↦
          elim (erased_new s e.moment e.what (allowed_of s e parts.0) job id birth now) [
            | inl old ↦ inl old
            | inr own ↦ inr (record { at = 0; within = omega arith; here = own })
          ]
      | inr some ↦ inr (later s e es (λ t. OwnedAt t job id birth) some)
    ]

-- the root of a job was owned by it after its start

mapped_root : (f : JobRow → JobRow) (o : Option JobRow) → ((row : JobRow) → (f row).root ≡ row.root) → root_of_row (option_map f o) ≡ root_of_row o
mapped_root f None same = refl
mapped_root f (Some row) same = ap Some (same row)

restored_root : (which position : ℕ) (row : JobRow) → (row_restored_at which position row).root ≡ row.root
restored_root which position row = by_hit (eqb row.start which)
  where
    by_hit : (b : Bool) → (cond b (record row { restored = Some position }) row).root ≡ row.root
    by_hit true = refl
    by_hit false = refl

purged_root : (which : ℕ) (row : JobRow) → (purged_if which row).root ≡ row.root
purged_root which row = by_hit (eqb row.start which)
  where
    by_hit : (b : Bool) → (cond b (record row { purged = true }) row).root ≡ row.root
    by_hit true = refl
    by_hit false = refl

erased_root : (which moment : ℕ) (row : JobRow) → (erased_at which moment row).root ≡ row.root
erased_root which moment row = by_hit (eqb row.start which)
  where
    by_hit : (b : Bool) → (cond b (record row { last = Some moment }) row).root ≡ row.root
    by_hit true = refl
    by_hit false = refl

started_root : (len : ℕ) (o : Option (ℕ × JobName)) (job id : ℕ) → root_of_row (job_row (started_job len o) job) ≡ Some id → (job ≡ len) × (root_of_start o ≡ Some id)
started_root len None job id is = absurd (cc is)
started_root len (Some pair) job id is = by_hit (eqb len job) refl is
  where
    by_hit : (b : Bool) → eqb len job ≡ b → root_of_row (cond b (Some (new_job len pair.0 pair.1)) None) ≡ Some id → (job ≡ len) × (Some pair.0 ≡ Some id)
    by_hit true at here = (sym (eqb-true len job at), here)
    by_hit false at here = absurd (cc here)

grown_root : (jobs : List JobRow) (len : ℕ) (o : Option (ℕ × JobName)) (job id : ℕ) → root_of_row (job_row (jobs ++ started_job len o) job) ≡ Some id →
    (root_of_row (job_row jobs job) ≡ Some id) ⊎ ((job ≡ len) × (root_of_start o ≡ Some id))
grown_root jobs len o job id is = by_row (job_row jobs job) (sym (ap root_of_row (job_row-started jobs len o job)) ∙ is)
  where
    by_row : (r : Option JobRow) → root_of_row (option_or r (job_row (started_job len o) job)) ≡ Some id → (root_of_row r ≡ Some id) ⊎ ((job ≡ len) × (root_of_start o ≡ Some id))
    by_row None here = inr (started_root len o job id here)
    by_row (Some row) here = inl here

pub root_new : (s : State) (moment : ℕ) (what : What) (job id : ℕ) → root_of_row (job_row (jobs_after s moment what) job) ≡ Some id →
    (root_of s job ≡ Some id) ⊎ ((job ≡ s.len) × (root_of_start (start_of s what) ≡ Some id))
root_new s moment (Create tag kind x size) job id is = inl is
root_new s moment (Update tag x size) job id is = inl is
root_new s moment (Link tag edge from to size) job id is = inl is
root_new s moment (Unlink tag edge from to name) job id is = grown_root s.jobs s.len (unlink_start s edge from to name) job id is
root_new s moment (Delete tag x name) job id is = grown_root s.jobs s.len (Some (x, Named name)) job id is
root_new s moment (Restore tag which) job id is =
    inl (sym (mapped_root (row_restored_at which s.len) (job_row s.jobs job) (restored_root which s.len)) ∙ (sym (ap root_of_row (job_row-restored s.jobs which s.len job)) ∙ is))
root_new s moment (Expire x) job id is = grown_root s.jobs s.len (Some (x, Expiry x)) job id is
root_new s moment (Cut which edge from to) job id is =
    inl (sym (mapped_root (erased_at which moment) (job_row s.jobs job) (erased_root which moment)) ∙ (sym (ap root_of_row (job_row-erased s.jobs which moment job)) ∙ is))
root_new s moment (Erase which x) job id is =
    inl (sym (mapped_root (erased_at which moment) (job_row s.jobs job) (erased_root which moment)) ∙ (sym (ap root_of_row (job_row-erased s.jobs which moment job)) ∙ is))
root_new s moment (Put which i) job id is = inl is
root_new s moment (Purge which) job id is =
    inl (sym (mapped_root (purged_if which) (job_row s.jobs job) (purged_root which)) ∙ (sym (ap root_of_row (job_row-purged s.jobs which job)) ∙ is))

over_hit : (n : ℕ) (b : Bool) (o : Option ℕ) → b ≡ true → cond b (Some n) o ≡ Some n
over_hit n true o is = refl
over_hit n false o is = absurd (false≢true is)

-- the root of a start is owned by it right afterwards
pub start_owner : (s : State) (what : What) (id : ℕ) → root_of_start (start_of s what) ≡ Some id → plain_owner s what id ≡ Some s.len
start_owner s (Create tag kind x size) id is = absurd (cc is)
start_owner s (Update tag x size) id is = absurd (cc is)
start_owner s (Link tag edge from to size) id is = absurd (cc is)
start_owner s (Unlink tag edge from to name) id is = over_hit s.len (is_some (unlink_start s edge from to name) && eqb to id) (owner s id) (by_start (unlink_start s edge from to name) refl is)
  where
    to_is : (starts : Bool) (pair : ℕ × JobName) → cond starts (Some (to, Named name)) None ≡ Some pair → to ≡ pair.0
    to_is true pair h = let same : (to, Named name) ≡ pair = cc in ap (λ (p : ℕ × JobName). p.0) same
    to_is false pair h = absurd (cc h)

    by_start : (o : Option (ℕ × JobName)) → unlink_start s edge from to name ≡ o → root_of_start o ≡ Some id → (is_some o && eqb to id) ≡ true
    by_start None at h = absurd (cc h)
    by_start (Some pair) at h = eq-eqb to id (to_is _ pair at ∙ (let same : pair.0 ≡ id = cc in same))
start_owner s (Delete tag x name) id is = over_hit s.len (eqb x id) (owner s id) (eq-eqb x id (let same : x ≡ id = cc in same))
start_owner s (Restore tag which) id is = absurd (cc is)
start_owner s (Expire x) id is = over_hit s.len (eqb x id) (owner s id) (eq-eqb x id (let same : x ≡ id = cc in same))
start_owner s (Cut which edge from to) id is = absurd (cc is)
start_owner s (Erase which x) id is = absurd (cc is)
start_owner s (Put which i) id is = absurd (cc is)
start_owner s (Purge which) id is = absurd (cc is)

some_row : (o : Option ObjectRow) → is_some o ≡ true → (row : ObjectRow) × (o ≡ Some row)
some_row None some = absurd (false≢true some)
some_row (Some row) some = (row, refl)

-- the job owns the object, which stands with some birth
abbrev pub OwnsIt : ℕ → ℕ → State → Type 0
OwnsIt job id t = (birth : ℕ) × OwnedAt t job id birth

owns_it : (t : State) (job id : ℕ) → OwnedStand t → owner t id ≡ Some job → OwnsIt job id t
owns_it t job id stand own =
    let found = some_row (object_at t.graph id) (stand id job own) in
    (found.0.birth, (own, stands_of t.graph id found.0 found.1))

pub root_on : (s : State) (es : List Entry) (job id : ℕ) → Good s → is_legal_from s es ≡ true → root_of (run s es) job ≡ Some id →
    (root_of s job ≡ Some id) ⊎ Somewhere s es (OwnsIt job id)
root_on s [] job id good legal is = inl is
root_on s (e ∷ es) job id good legal is =
    let parts = and_parts (is_legal s e) (is_legal_from (step s e) es) legal in
    elim (root_on (step s e) es job id (good_step s e good parts.0) parts.1 is) [
      | inl now ↦
          elim (root_new s e.moment e.what job id now) [
            | inl old ↦ inl old
            | inr new ↦
                inr (later s e es (OwnsIt job id) (record {
                  at = 0;
                  within = omega arith;
                  here =
                      owns_it (step s e) job id (good_step s e good parts.0).owned_stand
                      (owner_plain s e.moment e.what parts.0 good.owned_stand good.ends id ∙ (start_owner s e.what id new.1 ∙ ap Some (sym new.0)));
                }))
          ]
      | inr some ↦ inr (later s e es (OwnsIt job id) some)
    ]

-- a job that owns nothing never owns again

abbrev pub OwnsNone : ℕ → State → Type 0
OwnsNone job s = (job < s.len) × ((id : ℕ) → owner s id ≡ Some job → ⊥)

none_step : (s : State) (e : Entry) (job : ℕ) → OwnsNone job s → OwnsNone job (step s e)
none_step s e job none = (omega (arith, none.0), λ id own. elim (owner_from s e id job own) [ inl old ↦ none.1 old.0 old.1 | inr new ↦ (let lt : job < s.len = none.0 in omega arith) ])

pub none_run : (s : State) (es : List Entry) (job : ℕ) → OwnsNone job s → OwnsNone job (run s es)
none_run s [] job none = none
none_run s (e ∷ es) job none = none_run (step s e) es job (none_step s e job none)

pub not_owned : (s : State) (job id : ℕ) → OwnsNone job s → is_owned_by s job id ≡ false
not_owned s job id none = by_owner (owner s id) refl
  where
    by_owner : (o : Option ℕ) → owner s id ≡ o → is_job job o ≡ false
    by_owner None at = refl
    by_owner (Some other) at = by_hit (eqb other job) refl
      where
        by_hit : (b : Bool) → eqb other job ≡ b → b ≡ false
        by_hit true is = absurd (none.1 id (at ∙ ap Some (eqb-true other job is)))
        by_hit false is = refl

none_of_count : (s : State) (job : ℕ) → owned s job ≡ 0 → (id : ℕ) → owner s id ≡ Some job → ⊥
none_of_count s job none id own = let positive : 0 < owned s job = owned_positive s id job own in omega arith

exactly_one : (n : ℕ) → 0 < n → n ≤ 1 → n ≡ 1
exactly_one n one two = omega arith

-- a job that owns nothing has erased exactly what it reached, and owns nothing from then on
pub done_erases_reached : (rules : RuleSet) (h : List Entry) → Legal rules h → DoneErasesReached rules h
done_erases_reached rules h legal = record {
  reached = λ job row none. record {
    all = λ id birth reach.
        exactly_one (erasures (after rules h) job id birth)
        (elim (subst (λ (t : State). HeldOrErased t job id birth) (run-take-drop (start rules) h reach.at)
        (progress (after rules (take reach.at h)) (drop reach.at h) job id birth (legal_drop (start rules) h reach.at legal) (inl (reach.owned, reach.stood)))) [
          | inl held ↦ absurd (none_of_count (after rules h) job none id held.0)
          | inr gone ↦ gone
        ])
        ((good_after rules h legal).once job id birth);
    only = λ id birth some.
        elim (erased_on (start rules) h job id birth legal some) [
          | inl before ↦ absurd (nothing_yet before)
          | inr here ↦ record { at = here.at; within = here.within; stood = here.here.1; owned = here.here.0 }
        ];
    root = λ id is.
        elim (root_on (start rules) h job id (good_start rules) legal is) [
          | inl before ↦ absurd (cc before)
          | inr here ↦ (here.here.0, record { at = here.at; within = here.within; stood = here.here.1.1; owned = here.here.1.0 })
        ];
  };
  for_good = λ job p within row none id.
      not_owned (after rules h) job id
      (subst (λ (t : State). OwnsNone job t) (run-take-drop (start rules) h p)
      (none_run (after rules (take p h)) (drop p h) job
      ((good_at rules h p legal).jobs_below job row, none_of_count (after rules (take p h)) job none)));
}
  where
    nothing_yet : 0 < 0 → ⊥
    nothing_yet h = omega arith
