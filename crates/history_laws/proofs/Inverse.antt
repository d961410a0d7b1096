-- A restore puts back what its deletion took.
use Rattle.std.proofs.Common.{◌≡◌, ℕ, zero, suc, ◌+◌, ◌-◌, ◌≤◌, ◌<◌, Bool, true, false, cond, ◌&&◌, ◌||◌, eqb, List, [], ◌∷◌, length, take, Option, Some, None, refl, sym, ap, ◌∙◌, subst, arith, inl, inr}
use Rattle.std.proofs.lemmas.Bool.{eqb-true, eq-eqb, false≢true, or_cases}
use Rattle.std.specs.Prelude.{is_some, is_none, slice_get}
use Rattle.std.specs.List.{list_any}
use Rattle.delf_model.specs.declared.rows.ObjectRow.{ObjectRow}
use Rattle.delf_model.specs.declared.rows.EdgeKey.{EdgeKey}
use Rattle.delf_model.specs.declared.rows.EdgeRow.{EdgeRow}
use Rattle.delf_model.specs.declared.rows.Item.{Item}
use Rattle.delf_model.specs.declared.rows.Item.TheVariants as item
use Rattle.delf_model.specs.declared.call.Cause.{Cause}
use Rattle.delf_model.specs.declared.entry.Entry.{Entry}
use Rattle.delf_model.specs.RuleSet.{RuleSet}
use Rattle.delf_model.specs.Graph.{Graph, object_at, edge_at, edge_stands, same_key, touches}
use Rattle.delf_model.specs.State.{State, Logged, Handled, start, job_of, is_owned_by}
use Rattle.delf_model.specs.Step.{step, after}
use Rattle.delf_model.specs.Legal.{Legal}
use Rattle.delf_model.specs.Report.{was_put, was_listed}
use Rattle.delf_model.specs.Payloads.{is_needed, object_needs, edge_needs, item_needs}
use Rattle.delf_model.specs.Closure.{has, Calm, erased_item, cut_item, has_erased, has_cut}
use Rattle.delf_model.specs.Sound.{Inverse, PutBack, AllHandled, is_own_entry}
use Rattle.delf_model.proofs.Runs.{legal_take, legal_at, run-take_suc}
use Rattle.delf_model.proofs.Graphs.{same_key_refl}
use Rattle.delf_model.proofs.Leaves.{owner_is}
use Rattle.delf_model.proofs.Places.{EachItem, each_at, each_weaken}
use Rattle.delf_model.proofs.Good.{good_at}
use Rattle.reach_laws.proofs.Quiet.{foreign_erased, foreign_cut, or_first, or_second}
use Rattle.reach_laws.proofs.Kept.{Part, Whole, Kept, had, false_of, touches_to, touches_from}
use Rattle.reach_laws.proofs.Calm.{part_of, calm_start, whole_of}
use Rattle.history_laws.proofs.SameGraph.{same_graph, objects_sorted_after_history, edges_sorted_after_history}
use Rattle.history_laws.proofs.Items.{opens, passes, OnlyOf, none_open, none_any, none_sole}
use Rattle.history_laws.proofs.Back.{OwnItem, Back, back_step}
use Rattle.history_laws.proofs.Outside.{Outside, outside_start, outside_step, needs_rest}

-- right after the start the job has taken nothing

none_erased : (f : Part) (t : State) → t.graph ≡ f.graph → Kept f t → (id : ℕ) → has_erased t f.job id ≡ false
none_erased f t same kept id =
    false_of (has_erased t f.job id)
    (λ gone.
    let was = kept.erased id gone in
    false≢true
    (sym (ap (λ (o : Option ObjectRow). is_some o) (kept.objects id was.0 ∙ ap (λ (b : Bool). cond b None (object_at f.graph id)) gone)) ∙
    (ap (λ (g : Graph). is_some (object_at g id)) same ∙ was.1)))

none_cut : (f : Part) (t : State) → t.graph ≡ f.graph → Kept f t → (key : EdgeKey) → has_cut t f.job key ≡ false
none_cut f t same kept key = false_of (has_cut t f.job key) never
  where
    held : (id : ℕ) → had f t id ≡ true → has f.ids id ≡ true
    held id was =
        elim (or_cases (is_owned_by t f.job id) (has_erased t f.job id) was) [
          | inl own ↦ kept.mine id (owner_is t f.job id own)
          | inr gone ↦ (kept.erased id gone).0
        ]

    by_end : (id : ℕ) → has_cut t f.job key ≡ true → edge_stands f.graph key ≡ true → has f.ids id ≡ true → touches id key ≡ true → ⊥
    by_end id gone stood inside touched =
        false≢true
        (sym (ap (λ (o : Option EdgeRow). is_some o) (kept.edges key id inside touched ∙ ap (λ (b : Bool). cond b None (edge_at f.graph key)) gone)) ∙
        (ap (λ (g : Graph). edge_stands g key) same ∙ stood))

    never : has_cut t f.job key ≡ true → ⊥
    never gone =
        let was = kept.cut key gone in
        elim (or_cases (had f t key.from) (had f t key.to) was.1) [
          | inl from ↦ by_end key.from gone was.0 (held key.from from) (touches_from key key.from refl)
          | inr to ↦ by_end key.to gone was.0 (held key.to to) (touches_to key key.to refl)
        ]

no_items : (job : ℕ) (xs : List Logged) → ((id : ℕ) → list_any (passes (erased_item job id)) xs ≡ false) → ((key : EdgeKey) → list_any (passes (cut_item job key)) xs ≡ false) →
    EachItem (λ l. eqb (job_of l.item) job ≡ false) xs
no_items job [] erased cut = tt
no_items job (x ∷ xs) erased cut = (
  by_item x.item (λ id. or_first (erased_item job id x.item) (list_any (passes (erased_item job id)) xs) (erased id)) (λ key. or_first (cut_item job key x.item) (list_any (passes (cut_item job key)) xs) (cut key)),
  no_items job xs (λ id. or_second (erased_item job id x.item) (list_any (passes (erased_item job id)) xs) (erased id))
      (λ key. or_second (cut_item job key x.item) (list_any (passes (cut_item job key)) xs) (cut key)),
)
  where
    first : (a b : Bool) → (a && b) ≡ false → b ≡ true → a ≡ false
    first true b none one = absurd (false≢true (sym none ∙ one))
    first false b none one = refl

    by_item : (it : Item) → ((id : ℕ) → erased_item job id it ≡ false) → ((key : EdgeKey) → cut_item job key it ≡ false) → eqb (job_of it) job ≡ false
    by_item (item.Object other row) erased cut = first (eqb other job) (eqb row.id row.id) (erased row.id) (eq-eqb row.id row.id refl)
    by_item (item.Edge other row from_birth to_birth) erased cut = first (eqb other job) (same_key row.key row.key) (cut row.key) (same_key_refl row.key)

start_items : (f : Part) (t : State) → t.graph ≡ f.graph → Kept f t → EachItem (λ l. eqb (job_of l.item) f.job ≡ false) t.items
start_items f t same kept = no_items f.job t.items (none_erased f t same kept) (none_cut f t same kept)

back_start : (f : Part) (t : State) → t.graph ≡ f.graph → Kept f t → Back f t
back_start f t same kept = record {
  below = kept.below;
  objects = λ id inside.
      ap (λ (g : Graph). object_at g id) same ∙
      sym (ap (λ (b : Bool). cond b None (object_at f.graph id)) (none_open (erased_item f.job id) t.items (none_erased f t same kept id)));
  edges = λ key id inside touched.
      ap (λ (g : Graph). edge_at g key) same ∙
      sym (ap (λ (b : Bool). cond b None (edge_at f.graph key)) (none_open (cut_item f.job key) t.items (none_cut f t same kept key)));
  other = kept.other;
  mine = kept.mine;
  items = each_weaken (λ l. eqb (job_of l.item) f.job ≡ false) (OwnItem f) t.items (λ l apart mine. absurd (false≢true (sym apart ∙ mine))) (start_items f t same kept);
  one_object = λ id. none_sole (erased_item f.job id) t.items (none_erased f t same kept id);
  one_edge = λ key. none_sole (cut_item f.job key) t.items (none_cut f t same kept key);
}

-- a fact that each entry of a stretch keeps

entry_at : (h : List Entry) (n : ℕ) → n < length h → (e : Entry) × (slice_get h n ≡ Some e)
entry_at [] n less = absurd (none n less)
  where
    none : (a : ℕ) → a < 0 → ⊥
    none a h = omega arith
entry_at (x ∷ xs) zero less = (x, refl)
entry_at (x ∷ xs) (suc n) less = entry_at xs n (fewer n (length xs) less)
  where
    fewer : (a b : ℕ) → suc a < suc b → a < b
    fewer a b h = omega arith

stretch : (P : State → Type 0) (rules : RuleSet) (h : List Entry) (low q d n : ℕ) → n + d ≡ q → q ≤ length h → low < n →
    ((p : ℕ) (e : Entry) → low < p → p < q → slice_get h p ≡ Some e → P (after rules (take p h)) → P (step (after rules (take p h)) e)) →
    P (after rules (take n h)) → P (after rules (take q h))
stretch P rules h low q zero n sum within later keeps now = subst (λ (m : ℕ). P (after rules (take m h))) (last n q sum) now
  where
    last : (a b : ℕ) → a + 0 ≡ b → a ≡ b
    last a b h = omega arith
stretch P rules h low q (suc d) n sum within later keeps now =
    let found = entry_at h n (below n d q (length h) sum within) in
    stretch P rules h low q d (suc n) (next n d q sum) within (above low n later) keeps
    (subst P (sym (run-take_suc (start rules) h n found.0 found.1)) (keeps n found.0 later (inside n d q sum) found.1 now))
  where
    below : (a b c l : ℕ) → a + suc b ≡ c → c ≤ l → a < l
    below a b c l one two = omega arith

    next : (a b c : ℕ) → a + suc b ≡ c → suc a + b ≡ c
    next a b c one = omega arith

    above : (a b : ℕ) → a < b → a < suc b
    above a b one = omega arith

    inside : (a b c : ℕ) → a + suc b ≡ c → a < c
    inside a b c one = omega arith

rest_of : (a b : ℕ) → a < b → a + 1 + (b - (a + 1)) ≡ b
rest_of a b h = omega arith

after_it : (a : ℕ) → a < a + 1
after_it a = omega arith

-- the facts at the end of a calm part

back_at : (rules : RuleSet) (h : List Entry) (job root q : ℕ) (ids : List ℕ) → Legal rules h → Calm rules h job root q ids → Back (part_of rules h job root ids) (after rules (take q h))
back_at rules h job root q ids legal calm =
    stretch (λ (t : State). Back f t) rules h job q (q - (job + 1)) (job + 1) (rest_of job q calm.later) calm.within (after_it job)
    (λ p e later less there back. back_step f (after rules (take p h)) e (whole_of rules h job root q ids legal calm) (good_at rules h p legal) (legal_at (start rules) h p e legal there) (calm.quiet p e later less there) back)
    (back_start f (after rules (take (job + 1) h)) refl (calm_start rules h job root q ids legal calm).kept)
  where
    f : Part
    f = part_of rules h job root ids

-- everything was put back

each_from : (P : Logged → Type 0) (xs : List Logged) → ((i : ℕ) (l : Logged) → slice_get xs i ≡ Some l → P l) → EachItem P xs
each_from P [] all = tt
each_from P (x ∷ xs) all = (all 0 x refl, each_from P xs (λ i l at. all (suc i) l at))

none_left : (t : State) (job : ℕ) (q : Item → Bool) → OnlyOf job q → AllHandled t job → list_any (opens q) t.items ≡ false
none_left t job q only handled = none_any (opens q) t.items (each_from (λ l. opens q l ≡ false) t.items one)
  where
    one : (i : ℕ) (l : Logged) → slice_get t.items i ≡ Some l → opens q l ≡ false
    one i l at = by_job (eqb (job_of l.item) job) refl
      where
        done : (h : Option Handled) (b : Bool) → is_some h ≡ true → (is_none h && b) ≡ false
        done None b some = absurd (false≢true some)
        done (Some how) b some = refl

        missed : (a b : Bool) → b ≡ false → (a && b) ≡ false
        missed true b is = is
        missed false b is = refl

        by_job : (b : Bool) → eqb (job_of l.item) job ≡ b → opens q l ≡ false
        by_job true is = done l.handled (q l.item) (handled i l at (eqb-true (job_of l.item) job is))
        by_job false is = missed (is_none l.handled) (q l.item) (only l.item is)

put_back_of : (f : Part) (t : State) → Back f t → AllHandled t f.job → PutBack f.graph t.graph t f.job f.ids
put_back_of f t back handled = record {
  unlisted = λ i l at mine. (each_at (OwnItem f) t.items i l back.items at (eq-eqb (job_of l.item) f.job mine)).2;
  objects = λ id inside.
      back.objects id inside ∙ ap (λ (b : Bool). cond b None (object_at f.graph id)) (none_left t f.job (erased_item f.job id) (foreign_erased f.job id) handled);
  edges = λ key id inside touched.
      back.edges key id inside touched ∙ ap (λ (b : Bool). cond b None (edge_at f.graph key)) (none_left t f.job (cut_item f.job key) (foreign_cut f.job key) handled);
}

-- and nothing else changed

-- each item of the job was put back
all_put : (f : Part) (t : State) → Back f t → AllHandled t f.job → EachItem (λ l. eqb (job_of l.item) f.job ≡ true → was_put l.handled ≡ true) t.items
all_put f t back handled = each_from (λ l. eqb (job_of l.item) f.job ≡ true → was_put l.handled ≡ true) t.items one
  where
    put_of : (h : Option Handled) → is_some h ≡ true → was_listed h ≡ false → was_put h ≡ true
    put_of None some unlisted = absurd (false≢true some)
    put_of (Some how) some unlisted = by_cause (how.cause) unlisted
      where
        by_cause : (o : Option Cause) → is_some o ≡ false → is_none o ≡ true
        by_cause None none = refl
        by_cause (Some x) none = absurd (false≢true (sym none))

    one : (i : ℕ) (l : Logged) → slice_get t.items i ≡ Some l → eqb (job_of l.item) f.job ≡ true → was_put l.handled ≡ true
    one i l at mine = put_of l.handled (handled i l at (eqb-true (job_of l.item) f.job mine)) (each_at (OwnItem f) t.items i l back.items at mine).2

same_everywhere : (f : Part) (begun t : State) → begun.graph ≡ f.graph → Back f t → AllHandled t f.job → Outside f begun t →
    ((id : ℕ) → object_at t.graph id ≡ object_at begun.graph id) × ((key : EdgeKey) → edge_at t.graph key ≡ edge_at begun.graph key)
same_everywhere f begun t same back handled out = (
  λ id. object_by id (has f.ids id) refl,
  λ key. edge_by key (has f.ids key.from) refl,
)
  where
    put : PutBack f.graph t.graph t f.job f.ids
    put = put_back_of f t back handled

    object_by : (id : ℕ) (b : Bool) → has f.ids id ≡ b → object_at t.graph id ≡ object_at begun.graph id
    object_by id true inside = put.objects id inside ∙ ap (λ (g : Graph). object_at g id) (sym same)
    object_by id false outside = out.objects id outside

    edge_by : (key : EdgeKey) (b : Bool) → has f.ids key.from ≡ b → edge_at t.graph key ≡ edge_at begun.graph key
    edge_by key true inside = put.edges key key.from inside (touches_from key key.from refl) ∙ ap (λ (g : Graph). edge_at g key) (sym same)
    edge_by key false outside = out.edges key outside

needed_same : (f : Part) (begun t : State) → t.graph ≡ begun.graph → EachItem (λ l. eqb (job_of l.item) f.job ≡ false) begun.items → Back f t → AllHandled t f.job → Outside f begun t →
    (p : ℕ) → is_needed t p ≡ is_needed begun p
needed_same f begun t same none back handled out p =
    ap (λ (g : Graph). list_any (object_needs p) g.objects || list_any (edge_needs p) g.edges || list_any (item_needs t.jobs p) t.items) same ∙
    ap (λ (b : Bool). list_any (object_needs p) begun.graph.objects || list_any (edge_needs p) begun.graph.edges || b)
    (needs_rest f.job begun.jobs t.jobs p t.items out.purged (all_put f t back handled) ∙
    (out.others p ∙
    sym (needs_rest f.job begun.jobs begun.jobs p begun.items (λ k. refl)
    (each_weaken (λ l. eqb (job_of l.item) f.job ≡ false) (λ l. eqb (job_of l.item) f.job ≡ true → was_put l.handled ≡ true) begun.items
    (λ l apart mine. absurd (false≢true (sym apart ∙ mine))) none))))

outside_at : (rules : RuleSet) (h : List Entry) (job root q : ℕ) (ids : List ℕ) → Legal rules h → Calm rules h job root q ids →
    ((p : ℕ) (e : Entry) → job < p → p < q → slice_get h p ≡ Some e → is_own_entry job e.what ≡ true) →
    Back (part_of rules h job root ids) (after rules (take q h)) × Outside (part_of rules h job root ids) (after rules (take (job + 1) h)) (after rules (take q h))
outside_at rules h job root q ids legal calm own =
    stretch (λ (t : State). Back f t × Outside f begun t) rules h job q (q - (job + 1)) (job + 1) (rest_of job q calm.later) calm.within (after_it job)
    (λ p e later less there both. (
      back_step f (after rules (take p h)) e whole (good_at rules h p legal) (legal_at (start rules) h p e legal there) (calm.quiet p e later less there) both.0,
      outside_step f begun (after rules (take p h)) e whole (good_at rules h p legal) (legal_at (start rules) h p e legal there) both.0 (own p e later less there) both.1,
    ))
    (back_start f begun refl (calm_start rules h job root q ids legal calm).kept, outside_start f begun)
  where
    f : Part
    f = part_of rules h job root ids

    begun : State
    begun = after rules (take (job + 1) h)

    whole : Whole f
    whole = whole_of rules h job root q ids legal calm

graph_same : (rules : RuleSet) (h : List Entry) (a b : ℕ) → Legal rules h →
    ((id : ℕ) → object_at (after rules (take a h)).graph id ≡ object_at (after rules (take b h)).graph id) ×
    ((key : EdgeKey) → edge_at (after rules (take a h)).graph key ≡ edge_at (after rules (take b h)).graph key) →
    (after rules (take a h)).graph ≡ (after rules (take b h)).graph
graph_same rules h a b legal same =
    same_graph (after rules (take a h)).graph (after rules (take b h)).graph
    (objects_sorted_after_history rules (take a h) (legal_take (start rules) h a legal))
    (edges_sorted_after_history rules (take a h) (legal_take (start rules) h a legal))
    (objects_sorted_after_history rules (take b h) (legal_take (start rules) h b legal))
    (edges_sorted_after_history rules (take b h) (legal_take (start rules) h b legal))
    same.0 same.1

-- a restore is the inverse of its deletion
pub restore_is_inverse : (rules : RuleSet) (h : List Entry) → Legal rules h → Inverse rules h
restore_is_inverse rules h legal = record {
  rows = λ job root q ids calm handled. put_back_of (part_of rules h job root ids) (after rules (take q h)) (back_at rules h job root q ids legal calm) handled;
  alone = λ job root q ids calm handled own.
      let f = part_of rules h job root ids in
      let begun = after rules (take (job + 1) h) in
      let now = after rules (take q h) in
      let both = outside_at rules h job root q ids legal calm own in
      let same : now.graph ≡ begun.graph = graph_same rules h q (job + 1) legal (same_everywhere f begun now refl both.0 handled both.1) in
      (same, needed_same f begun now same (start_items f begun refl (calm_start rules h job root q ids legal calm).kept) both.0 handled both.1);
}
