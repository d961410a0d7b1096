-- No job holds two edge items of one key between the same births.
use Rattle.std.proofs.Common.{◌≡◌, ℕ, zero, suc, ◌≤◌, ◌<◌, Bool, true, false, cond, ◌&&◌, ◌||◌, eqb, List, [], ◌∷◌, ◌++◌, take, Option, Some, None, refl, sym, ap, ◌∙◌, subst, arith, inl, inr, ◌⊎◌}
use Rattle.std.proofs.lemmas.Bool.{and_parts, and_from, eqb-true, eq-eqb, false≢true, or_cases}
use Rattle.std.proofs.lemmas.List.Sums.{sum_by-cons}
use Rattle.std.specs.Prelude.{is_some, is_none, slice_get, count_by, find}
use Rattle.delf_model.specs.declared.rows.ObjectRow.{ObjectRow}
use Rattle.delf_model.specs.declared.rows.EdgeKey.{EdgeKey}
use Rattle.delf_model.specs.declared.rows.EdgeRow.{EdgeRow}
use Rattle.delf_model.specs.declared.rows.Item.{Item}
use Rattle.delf_model.specs.declared.rows.Item.TheVariants as item
use Rattle.delf_model.specs.declared.call.Cause.{Cause}
use Rattle.delf_model.specs.declared.entry.Entry.{Entry}
use Rattle.delf_model.specs.declared.entry.What.{What}
use Rattle.delf_model.specs.declared.entry.What.TheVariants.{Link, Unlink, Restore, Cut, Erase, Put}
use Rattle.delf_model.specs.RuleSet.{RuleSet}
use Rattle.delf_model.specs.Graph.{Graph, has_id, same_key, object_at, edge_at, edge_stands, stands, is_born_at, changed}
use Rattle.delf_model.specs.State.{State, Logged, Handled, JobRow, start, owner, is_owned_by, job_of, is_restored, is_restored_row}
use Rattle.delf_model.specs.Step.{step, after, graph_after, jobs_after, items_after, edge_item, object_item, unhandled, handled_at, outcome, put_change, put_unless, birth_of, birth_of_row, row_restored_at, new_edge}
use Rattle.delf_model.specs.Owners.{key_of}
use Rattle.delf_model.specs.Puts.{judged}
use Rattle.delf_model.specs.Legal.{is_legal, is_allowed, Legal, is_end_item}
use Rattle.delf_model.specs.Reply.{refusals}
use Rattle.delf_model.specs.Sound.{is_erasure_of, erasures}
use Rattle.std.specs.Option.{option_map}
use Rattle.delf_model.proofs.Runs.{good_take}
use Rattle.delf_model.proofs.Graphs.{same_key_is, same_key_refl, find-filter_edge, find-filter_object}
use Rattle.delf_model.proofs.Lines.{allowed_of, none_of, free}
use Rattle.delf_model.proofs.Leaves.{objects_leave, owner_is}
use Rattle.delf_model.proofs.Owners.{found_key, stands_of}
use Rattle.delf_model.proofs.Ends.{fits_of, edge_came, edge_was}
use Rattle.delf_model.proofs.Jobs.{restored_same, job_row-restored}
use Rattle.delf_model.proofs.Sums.{count_found}
use Rattle.delf_model.proofs.Places.{one_if, waits, has_birth, is_object_born, places, EachItem, each_append, each_weaken, each_at, HandledOf}
use Rattle.delf_model.proofs.Good.{Good, good_start, good_step}
use Rattle.reach_laws.proofs.Kept.{false_of}
use Rattle.reach_laws.proofs.Quiet.{each_edge, each_object}
use Rattle.reach_laws.proofs.Reach.{HeldOrErased, progress}

-- items of a state with one entry more

each_marked : (P : Item → Type 0) (xs : List Logged) (i : ℕ) (how : Handled) → EachItem (λ (l : Logged). P l.item) xs → EachItem (λ (l : Logged). P l.item) (handled_at xs i how)
each_marked P [] i how each = tt
each_marked P (x ∷ xs) zero how each = (each.0, each.1)
each_marked P (x ∷ xs) (suc i) how each = (each.0, each_marked P xs i how each.1)

-- what an entry logs: an edge that its job cuts, or an object
pub data IsNew (s : State) (what : What) (it : Item) : Type 0 where
  NewEdge : (which edge from to : ℕ) (row : EdgeRow) → what ≡ Cut which edge from to → edge_at s.graph (key_of edge from to) ≡ Some row →
      it ≡ item.Edge which row (birth_of s.graph row.key.from) (birth_of s.graph row.key.to) → IsNew s what it
  NewObject : (which : ℕ) (row : ObjectRow) → it ≡ item.Object which row → IsNew s what it

each_after : (P : Item → Type 0) (s : State) (what : What) → EachItem (λ (l : Logged). P l.item) s.items → ((it : Item) → IsNew s what it → P it) →
    EachItem (λ (l : Logged). P l.item) (items_after s what)
each_after P s (Cut which edge from to) old new =
    each_edge (λ (l : Logged). P l.item) s.graph which s.items (edge_at s.graph (key_of edge from to)) old (λ row at. new _ (IsNew.NewEdge which edge from to row refl at refl))
each_after P s (Erase which id) old new =
    each_object (λ (l : Logged). P l.item) which s.items (object_at s.graph id) old (λ row at. new _ (IsNew.NewObject which row refl))
each_after P s (Put which i) old new = each_marked P s.items i (outcome s (slice_get s.items i)) old
each_after P s what old new = old

-- a job that is not restored after an entry was not before

row_was : (which len : ℕ) (o : Option JobRow) → is_restored_row (option_map (row_restored_at which len) o) ≡ false → is_restored_row o ≡ false
row_was which len None free = refl
row_was which len (Some row) free = by_hit (eqb row.start which) free
  where
    by_hit : (b : Bool) → is_restored_row (Some (cond b (record row { restored = Some len }) row)) ≡ false → is_restored_row (Some row) ≡ false
    by_hit true is = absurd (false≢true (sym is))
    by_hit false is = is

was_free : (s : State) (moment : ℕ) (what : What) (job : ℕ) → is_restored (jobs_after s moment what) job ≡ false → is_restored s.jobs job ≡ false
was_free s moment (Restore tag which) job free = row_was which s.len (job_row_of job) (sym (ap is_restored_row (job_row-restored s.jobs which s.len job)) ∙ free)
  where
    job_row_of : ℕ → Option JobRow
    job_row_of n = find (λ (row : JobRow). eqb row.start n) s.jobs
was_free s moment what job free = sym (restored_same s moment what job refl) ∙ free

-- what a job that is not restored erased does not stand

erased_waits_one : (jobs : List JobRow) (job id birth : ℕ) → is_restored jobs job ≡ false → (l : Logged) → HandledOf jobs l → one_if (is_erasure_of job id birth l) ≤ one_if (waits birth l)
erased_waits_one jobs job id birth none l handled = by_item l.item refl
  where
    by_handled : (h : Option Handled) → (is_some h ≡ true → is_restored jobs job ≡ true) → is_none h ≡ true
    by_handled None was = refl
    by_handled (Some how) was = absurd (false≢true (sym none ∙ was refl))

    at_least : (b : Bool) → b ≡ true → 1 ≤ one_if b
    at_least true is = omega arith
    at_least false is = absurd (false≢true is)

    by_born : (other : ℕ) (row : ObjectRow) (b : Bool) → (eqb other job && eqb row.id id && eqb row.birth birth) ≡ b → l.item ≡ item.Object other row → one_if b ≤ one_if (waits birth l)
    by_born other row false is at = omega arith
    by_born other row true is at =
        let parts = and_parts (eqb other job && eqb row.id id) (eqb row.birth birth) is in
        let mine : other ≡ job = eqb-true other job (and_parts (eqb other job) (eqb row.id id) parts.0).0 in
        at_least (waits birth l)
        (and_from (is_none l.handled) (is_object_born birth l.item)
        (by_handled l.handled (λ some. subst (λ (n : ℕ). is_restored jobs n ≡ true) (ap job_of at ∙ mine) (handled some)))
        (ap (is_object_born birth) at ∙ parts.1))

    by_item : (it : Item) → l.item ≡ it → one_if (is_end_item job id birth l.item) ≤ one_if (waits birth l)
    by_item (item.Object other row) at =
        subst (λ (x : Item). one_if (is_end_item job id birth x) ≤ one_if (waits birth l)) (sym at) (by_born other row (eqb other job && eqb row.id id && eqb row.birth birth) refl at)
    by_item (item.Edge other row from_birth to_birth) at =
        subst (λ (x : Item). one_if (is_end_item job id birth x) ≤ one_if (waits birth l)) (sym at) (omega arith)

erased_wait : (jobs : List JobRow) (job id birth : ℕ) → is_restored jobs job ≡ false → (xs : List Logged) → EachItem (HandledOf jobs) xs → count_by (is_erasure_of job id birth) xs ≤ count_by (waits birth) xs
erased_wait jobs job id birth none [] each = omega arith
erased_wait jobs job id birth none (x ∷ xs) each =
    omega (
      arith,
      sum_by-cons (λ l. one_if (is_erasure_of job id birth l)) x xs,
      sum_by-cons (λ l. one_if (waits birth l)) x xs,
      erased_waits_one jobs job id birth none x each.0,
      erased_wait jobs job id birth none xs each.1,
    )

born_row : (birth : ℕ) (o : Option ObjectRow) → is_born_at birth o ≡ true → (row : ObjectRow) × (o ≡ Some row) × (row.birth ≡ birth)
born_row birth None born = absurd (false≢true born)
born_row birth (Some row) born = (row, refl, eqb-true row.birth birth born)

erased_gone : (s : State) (job id birth : ℕ) → Good s → is_restored s.jobs job ≡ false → 0 < erasures s job id birth → stands s.graph id birth ≡ true → ⊥
erased_gone s job id birth good none erased stood =
    let found = born_row birth (object_at s.graph id) stood in
    let here : 0 < count_by (has_birth birth) s.graph.objects = count_found (has_id id) (has_birth birth) found.0 s.graph.objects found.1 (eq-eqb found.0.birth birth found.2) in
    let wait : erasures s job id birth ≤ count_by (waits birth) s.items = erased_wait s.jobs job id birth none s.items good.handled in
    let one : places s birth ≤ 1 = good.one_place birth in
    omega arith

-- an object that stands keeps its birth over an entry

birth_kept : (s : State) (e : Entry) (id birth : ℕ) → is_legal s e ≡ true → is_some (object_at s.graph id) ≡ true → stands (step s e).graph id birth ≡ true → stands s.graph id birth ≡ true
birth_kept s e id birth legal some now = by_row (object_at s.graph id) refl
  where
    gone : (which : ℕ) → e.what ≡ Erase which id → ⊥
    gone which is =
        let none : object_at (graph_after s e.moment e.what) id ≡ None =
        ap (λ (w : What). object_at (graph_after s e.moment w) id) is ∙
        (find-filter_object id s.graph.objects id ∙ ap (λ (b : Bool). cond b None (object_at s.graph id)) (eq-eqb id id refl)) in
        false≢true (sym (ap (is_born_at birth) none) ∙ now)

    both : (one two : ℕ) (o : Option ObjectRow) → is_born_at one o ≡ true → is_born_at two o ≡ true → one ≡ two
    both one two None a b = absurd (false≢true a)
    both one two (Some row) a b = sym (eqb-true row.birth one a) ∙ eqb-true row.birth two b

    by_stood : (row : ObjectRow) → object_at s.graph id ≡ Some row → (b : Bool) → stands (step s e).graph id row.birth ≡ b → stands s.graph id birth ≡ true
    by_stood row at true is =
        subst (λ (n : ℕ). stands s.graph id n ≡ true) (both row.birth birth (object_at (step s e).graph id) is now) (stands_of s.graph id row at)
    by_stood row at false is =
        let left = objects_leave s e legal id row.birth (stands_of s.graph id row at) is in
        absurd (gone left.0 left.2)

    by_row : (o : Option ObjectRow) → object_at s.graph id ≡ o → stands s.graph id birth ≡ true
    by_row None at = absurd (false≢true (sym (ap (λ (o : Option ObjectRow). is_some o) at) ∙ some))
    by_row (Some row) at = by_stood row at (stands (step s e).graph id row.birth) refl

-- an edge comes between objects that stand without an owner

pub record Came (s : State) (now : Graph) (key : EdgeKey) : Type 0 where
  pub objects : (id : ℕ) → object_at now id ≡ object_at s.graph id
  pub source_free : owner s key.from ≡ None
  pub target_free : owner s key.to ≡ None

came_with : (s : State) (now : Graph) (row : EdgeRow) (key : EdgeKey) → row.key ≡ key → ((id : ℕ) → object_at now id ≡ object_at s.graph id) → owner s row.key.from ≡ None → owner s row.key.to ≡ None → Came s now key
came_with s now row key same objects source target = record {
  objects = objects;
  source_free = subst (λ (k : EdgeKey). owner s k.from ≡ None) same source;
  target_free = subst (λ (k : EdgeKey). owner s k.to ≡ None) same target;
}

both_ways : {A : Type 0} (b : Bool) → b ≡ false → b ≡ true → A
both_ways b one two = absurd (false≢true (sym one ∙ two))

put_item_comes : (s : State) (it : Item) (cause : Option Cause) → judged s it ≡ cause → (key : EdgeKey) → edge_stands s.graph key ≡ false →
    edge_stands (changed s.graph (put_unless cause it)) key ≡ true → Came s (changed s.graph (put_unless cause it)) key
put_item_comes s it (Some cause) is key before now = both_ways _ before now
put_item_comes s (item.Object job row) None is key before now = both_ways _ before now
put_item_comes s (item.Edge job row from_birth to_birth) None is key before now =
    let fits = fits_of s job row from_birth to_birth is in
    elim (edge_came s.graph row key now) [
      | inl same ↦ came_with s _ row key same (λ id. refl) fits.source_free fits.target_free
      | inr stood ↦ both_ways _ before stood
    ]

put_change_comes : (s : State) (o : Option Logged) (key : EdgeKey) → edge_stands s.graph key ≡ false →
    edge_stands (changed s.graph (put_change s o)) key ≡ true → Came s (changed s.graph (put_change s o)) key
put_change_comes s None key before now = both_ways _ before now
put_change_comes s (Some logged) key before now = put_item_comes s logged.item (judged s logged.item) refl key before now

edge_comes : (s : State) (moment : ℕ) (what : What) → is_allowed s moment what ≡ true → (key : EdgeKey) → edge_stands s.graph key ≡ false →
    edge_stands (graph_after s moment what) key ≡ true → Came s (graph_after s moment what) key
edge_comes s moment (Link tag edge from to size) line key before now =
    let none = none_of (refusals s moment (Link tag edge from to size)) line in
    elim (edge_came s.graph (new_edge s edge from to size) key now) [
      | inl same ↦ came_with s _ (new_edge s edge from to size) key same (λ id. refl) (free s from none.1.1.1.0) (free s to none.1.1.1.1.0)
      | inr stood ↦ both_ways _ before stood
    ]
edge_comes s moment (Unlink tag edge from to name) line key before now = both_ways _ before (edge_was s.graph (key_of edge from to) key now)
edge_comes s moment (Cut which edge from to) line key before now = both_ways _ before (edge_was s.graph (key_of edge from to) key now)
edge_comes s moment (Put which i) line key before now = put_change_comes s (slice_get s.items i) key before now
edge_comes s moment what line key before now = both_ways _ before now

-- the facts of an edge item: an end of its birth is owned by the job or erased by it, and while the job is not restored
-- the edge does not stand between its births

pub record EdgeHeld (s : State) (job : ℕ) (row : EdgeRow) (from_birth to_birth : ℕ) : Type 0 where
  pub held : HeldOrErased s job row.key.from from_birth ⊎ HeldOrErased s job row.key.to to_birth
  pub never : is_restored s.jobs job ≡ false → edge_stands s.graph row.key ≡ true → stands s.graph row.key.from from_birth ≡ true → stands s.graph row.key.to to_birth ≡ true → ⊥

abbrev pub ItemHeld : State → Item → Type 0
ItemHeld s (item.Object job row) = Unit {0}
ItemHeld s (item.Edge job row from_birth to_birth) = EdgeHeld s job row from_birth to_birth

progress_one : (s : State) (e : Entry) (job id birth : ℕ) → is_legal s e ≡ true → HeldOrErased s job id birth → HeldOrErased (step s e) job id birth
progress_one s e job id birth legal held = progress s (e ∷ []) job id birth (and_from (is_legal s e) true legal refl) held

-- an end that is held is owned, or does not stand
held_apart : (s : State) (job id birth : ℕ) → Good s → is_restored s.jobs job ≡ false → owner s id ≡ None → stands s.graph id birth ≡ true → HeldOrErased s job id birth → ⊥
held_apart s job id birth good none own stood held =
    elim held [
      | inl now ↦ owned_none now.0
      | inr gone ↦ erased_gone s job id birth good none gone stood
    ]
  where
    owned_none : owner s id ≡ Some job → ⊥
    owned_none is = let clash : None ≡ Some job = sym own ∙ is in cc clash

edge_held_step : (s : State) (e : Entry) (job : ℕ) (row : EdgeRow) (from_birth to_birth : ℕ) → Good s → is_legal s e ≡ true → EdgeHeld s job row from_birth to_birth → EdgeHeld (step s e) job row from_birth to_birth
edge_held_step s e job row from_birth to_birth good legal edge = record {
  held =
      elim edge.held [
        | inl source ↦ inl (progress_one s e job row.key.from from_birth legal source)
        | inr target ↦ inr (progress_one s e job row.key.to to_birth legal target)
      ];
  never = λ none now source target. by_stood none now source target (edge_stands s.graph row.key) refl;
}
  where
    by_stood : is_restored (step s e).jobs job ≡ false → edge_stands (step s e).graph row.key ≡ true → stands (step s e).graph row.key.from from_birth ≡ true → stands (step s e).graph row.key.to to_birth ≡ true →
        (b : Bool) → edge_stands s.graph row.key ≡ b → ⊥
    by_stood none now source target true is =
        edge.never (was_free s e.moment e.what job none) is
        (birth_kept s e row.key.from from_birth legal (good.ends.source row.key is) source)
        (birth_kept s e row.key.to to_birth legal (good.ends.target row.key is) target)
    by_stood none now source target false is =
        let came = edge_comes s e.moment e.what (allowed_of s e legal) row.key is now in
        elim edge.held [
          | inl held ↦
              held_apart s job row.key.from from_birth good (was_free s e.moment e.what job none) came.source_free
              (ap (is_born_at from_birth) (sym (came.objects row.key.from)) ∙ source) held
          | inr held ↦
              held_apart s job row.key.to to_birth good (was_free s e.moment e.what job none) came.target_free
              (ap (is_born_at to_birth) (sym (came.objects row.key.to)) ∙ target) held
        ]

item_held_step : (s : State) (e : Entry) → Good s → is_legal s e ≡ true → (it : Item) → ItemHeld s it → ItemHeld (step s e) it
item_held_step s e good legal (item.Object job row) held = tt
item_held_step s e good legal (item.Edge job row from_birth to_birth) held = edge_held_step s e job row from_birth to_birth good legal held

-- the item of a cut

birth_stands : (g : Graph) (id : ℕ) → is_some (object_at g id) ≡ true → stands g id (birth_of g id) ≡ true
birth_stands g id some = by_row (object_at g id) some
  where
    by_row : (o : Option ObjectRow) → is_some o ≡ true → is_born_at (birth_of_row o) o ≡ true
    by_row None is = absurd (false≢true is)
    by_row (Some row) is = eq-eqb row.birth row.birth refl

-- what holds where a job cuts an edge
pub record CutFacts (s : State) (which : ℕ) (row : EdgeRow) : Type 0 where
  pub stood : edge_stands s.graph row.key ≡ true
  pub source : stands s.graph row.key.from (birth_of s.graph row.key.from) ≡ true
  pub target : stands s.graph row.key.to (birth_of s.graph row.key.to) ≡ true
  pub owns : (owner s row.key.from ≡ Some which) ⊎ (owner s row.key.to ≡ Some which)
  pub idle : is_restored s.jobs which ≡ false

cut_facts : (s : State) (moment which edge from to : ℕ) (row : EdgeRow) → Good s → is_allowed s moment (Cut which edge from to) ≡ true → edge_at s.graph (key_of edge from to) ≡ Some row → CutFacts s which row
cut_facts s moment which edge from to row good line at =
    let parts = and_parts (edge_stands s.graph (key_of edge from to)) (is_owned_by s which from || is_owned_by s which to) line in
    let same : key_of edge from to ≡ row.key = sym (found_key s.graph.edges (key_of edge from to) row at) in
    let here : edge_stands s.graph row.key ≡ true = subst (λ (k : EdgeKey). edge_stands s.graph k ≡ true) same parts.0 in
    record {
      stood = here;
      source = birth_stands s.graph row.key.from (good.ends.source row.key here);
      target = birth_stands s.graph row.key.to (good.ends.target row.key here);
      owns = subst (λ (k : EdgeKey). (owner s k.from ≡ Some which) ⊎ (owner s k.to ≡ Some which)) same (owner_of_end parts.1);
      idle = not_restored (owner_of_end parts.1);
    }
  where
    owner_of_end : (is_owned_by s which from || is_owned_by s which to) ≡ true → (owner s from ≡ Some which) ⊎ (owner s to ≡ Some which)
    owner_of_end one =
        elim (or_cases (is_owned_by s which from) (is_owned_by s which to) one) [
          | inl own ↦ inl (owner_is s which from own)
          | inr own ↦ inr (owner_is s which to own)
        ]

    not_restored : (owner s from ≡ Some which) ⊎ (owner s to ≡ Some which) → is_restored s.jobs which ≡ false
    not_restored own = false_of (is_restored s.jobs which) (λ is. elim own [ inl source ↦ good.idle which from is source | inr target ↦ good.idle which to is target ])

new_held : (s : State) (e : Entry) (it : Item) → Good s → is_legal s e ≡ true → IsNew s e.what it → ItemHeld (step s e) it
new_held s e it good legal (IsNew.NewObject which row is) = subst (λ (x : Item). ItemHeld (step s e) x) (sym is) tt
new_held s e it good legal (IsNew.NewEdge which edge from to row cuts at is) =
    subst (λ (x : Item). ItemHeld (step s e) x) (sym is) (record {
      held =
          elim facts.owns [
            | inl own ↦ inl (progress_one s e which row.key.from (birth_of s.graph row.key.from) legal (inl (own, facts.source)))
            | inr own ↦ inr (progress_one s e which row.key.to (birth_of s.graph row.key.to) legal (inl (own, facts.target)))
          ];
      never = λ none now source target. false≢true (sym gone ∙ now);
    })
  where
    facts : CutFacts s which row
    facts = cut_facts s e.moment which edge from to row good (subst (λ (w : What). is_allowed s e.moment w ≡ true) cuts (allowed_of s e legal)) at

    gone : edge_stands (graph_after s e.moment e.what) row.key ≡ false
    gone =
        ap (λ (w : What). edge_stands (graph_after s e.moment w) row.key) cuts ∙
        (ap (λ (o : Option EdgeRow). is_some o) (find-filter_edge (key_of edge from to) s.graph.edges row.key) ∙
        ap (λ (b : Bool). is_some (cond b None (edge_at s.graph row.key)))
        (ap (λ (k : EdgeKey). same_key k row.key) (sym (found_key s.graph.edges (key_of edge from to) row at)) ∙ same_key_refl row.key))

-- no two edge items of one job have one key and the same births

abbrev pub is_twin : Item → Item → Bool
is_twin (item.Object job row) it = false
is_twin (item.Edge job row from_birth to_birth) (item.Object other row') = false
is_twin (item.Edge job row from_birth to_birth) (item.Edge other row' from_birth' to_birth') =
    eqb job other && same_key row.key row'.key && eqb from_birth from_birth' && eqb to_birth to_birth'

abbrev pub TwinsApart : List Logged → Type 0
TwinsApart [] = Unit {0}
TwinsApart (x ∷ xs) = EachItem (λ (y : Logged). is_twin x.item y.item ≡ false) xs × TwinsApart xs

twins_push : (xs : List Logged) (y : Logged) → EachItem (λ (x : Logged). is_twin x.item y.item ≡ false) xs → TwinsApart xs → TwinsApart (xs ++ y ∷ [])
twins_push [] y each apart = (tt, tt)
twins_push (x ∷ xs) y each apart = (each_append (λ (z : Logged). is_twin x.item z.item ≡ false) xs (y ∷ []) apart.0 (each.0, tt), twins_push xs y each.1 apart.1)

twins_marked : (xs : List Logged) (i : ℕ) (how : Handled) → TwinsApart xs → TwinsApart (handled_at xs i how)
twins_marked [] i how apart = tt
twins_marked (x ∷ xs) zero how apart = apart
twins_marked (x ∷ xs) (suc i) how apart = (each_marked (λ (y : Item). is_twin x.item y ≡ false) xs i how apart.0, twins_marked xs i how apart.1)

no_object_twin : (job : ℕ) (row : ObjectRow) (it : Item) → is_twin it (item.Object job row) ≡ false
no_object_twin job row (item.Object other row') = refl
no_object_twin job row (item.Edge other row' from_birth to_birth) = refl

object_apart : (job : ℕ) (row : ObjectRow) (xs : List Logged) → EachItem (λ (x : Logged). is_twin x.item (item.Object job row) ≡ false) xs
object_apart job row [] = tt
object_apart job row (x ∷ xs) = (no_object_twin job row x.item, object_apart job row xs)

-- the item of a cut has no twin
cut_apart : (s : State) (which : ℕ) (row : EdgeRow) → CutFacts s which row → (it : Item) → ItemHeld s it →
    is_twin it (item.Edge which row (birth_of s.graph row.key.from) (birth_of s.graph row.key.to)) ≡ false
cut_apart s which row facts (item.Object other row') held = refl
cut_apart s which row facts (item.Edge other row' from_birth to_birth) held = false_of _ clash
  where
    clash : (eqb other which && same_key row'.key row.key && eqb from_birth (birth_of s.graph row.key.from) && eqb to_birth (birth_of s.graph row.key.to)) ≡ true → ⊥
    clash is =
        let one = and_parts (eqb other which && same_key row'.key row.key && eqb from_birth (birth_of s.graph row.key.from)) (eqb to_birth (birth_of s.graph row.key.to)) is in
        let two = and_parts (eqb other which && same_key row'.key row.key) (eqb from_birth (birth_of s.graph row.key.from)) one.0 in
        let three = and_parts (eqb other which) (same_key row'.key row.key) two.0 in
        let same_job : which ≡ other = sym (eqb-true other which three.0) in
        let same : row.key ≡ row'.key = sym (same_key_is row'.key row.key three.1) in
        let source : birth_of s.graph row.key.from ≡ from_birth = sym (eqb-true from_birth (birth_of s.graph row.key.from) two.1) in
        let target : birth_of s.graph row.key.to ≡ to_birth = sym (eqb-true to_birth (birth_of s.graph row.key.to) one.1) in
        held.never (subst (λ (n : ℕ). is_restored s.jobs n ≡ false) same_job facts.idle)
        (subst (λ (k : EdgeKey). edge_stands s.graph k ≡ true) same facts.stood)
        (subst (λ (k : EdgeKey). stands s.graph k.from from_birth ≡ true) same (subst (λ (n : ℕ). stands s.graph row.key.from n ≡ true) source facts.source))
        (subst (λ (k : EdgeKey). stands s.graph k.to to_birth ≡ true) same (subst (λ (n : ℕ). stands s.graph row.key.to n ≡ true) target facts.target))

twins_cut : (s : State) (which edge from to moment : ℕ) → Good s → is_allowed s moment (Cut which edge from to) ≡ true → EachItem (λ (l : Logged). ItemHeld s l.item) s.items → TwinsApart s.items →
    (o : Option EdgeRow) → edge_at s.graph (key_of edge from to) ≡ o → TwinsApart (s.items ++ edge_item s.graph which o)
twins_cut s which edge from to moment good line held apart None at =
    absurd (false≢true (sym (ap (λ (r : Option EdgeRow). is_some r) at) ∙ (and_parts (edge_stands s.graph (key_of edge from to)) (is_owned_by s which from || is_owned_by s which to) line).0))
twins_cut s which edge from to moment good line held apart (Some row) at =
    twins_push s.items (unhandled (item.Edge which row (birth_of s.graph row.key.from) (birth_of s.graph row.key.to)))
    (each_weaken (λ (l : Logged). ItemHeld s l.item) (λ (l : Logged). is_twin l.item (item.Edge which row (birth_of s.graph row.key.from) (birth_of s.graph row.key.to)) ≡ false) s.items
    (λ l one. cut_apart s which row (cut_facts s moment which edge from to row good line at) l.item one) held)
    apart

twins_erase : (s : State) (which id : ℕ) → TwinsApart s.items → (o : Option ObjectRow) → object_at s.graph id ≡ o → is_some o ≡ true → TwinsApart (s.items ++ object_item which o)
twins_erase s which id apart None at some = absurd (false≢true some)
twins_erase s which id apart (Some row) at some = twins_push s.items (unhandled (item.Object which row)) (object_apart which row s.items) apart

twins_step : (s : State) (moment : ℕ) (what : What) → Good s → is_allowed s moment what ≡ true → EachItem (λ (l : Logged). ItemHeld s l.item) s.items → TwinsApart s.items → TwinsApart (items_after s what)
twins_step s moment (Cut which edge from to) good line held apart = twins_cut s which edge from to moment good line held apart (edge_at s.graph (key_of edge from to)) refl
twins_step s moment (Erase which id) good line held apart =
    twins_erase s which id apart (object_at s.graph id) refl (good.owned_stand id which (owner_is s which id (and_parts (is_owned_by s which id) _ line).0))
twins_step s moment (Put which i) good line held apart = twins_marked s.items i (outcome s (slice_get s.items i)) apart
twins_step s moment what good line held apart = apart

-- what each legal step keeps
pub record Told (s : State) : Type 0 where
  pub good : Good s
  pub held : EachItem (λ (l : Logged). ItemHeld s l.item) s.items
  pub twins : TwinsApart s.items

pub told_start : (rules : RuleSet) → Told (start rules)
told_start rules = record { good = good_start rules; held = tt; twins = tt }

pub told_step : (s : State) (e : Entry) → Told s → is_legal s e ≡ true → Told (step s e)
told_step s e told legal = record {
  good = good_step s e told.good legal;
  held =
      each_after (ItemHeld (step s e)) s e.what
      (each_weaken (λ (l : Logged). ItemHeld s l.item) (λ (l : Logged). ItemHeld (step s e) l.item) s.items (λ l one. item_held_step s e told.good legal l.item one) told.held)
      (λ it new. new_held s e it told.good legal new);
  twins = twins_step s e.moment e.what told.good (allowed_of s e legal) told.held told.twins;
}

pub told_at : (rules : RuleSet) (h : List Entry) (p : ℕ) → Legal rules h → Told (after rules (take p h))
told_at rules h p legal = good_take Told told_step (start rules) h p (told_start rules) legal

-- two places do not hold twins
pub twins_never : (xs : List Logged) (i j : ℕ) (x y : Logged) → TwinsApart xs → slice_get xs i ≡ Some x → slice_get xs j ≡ Some y → (i ≡ j → ⊥) →
    is_twin x.item y.item ≡ true → is_twin y.item x.item ≡ true → ⊥
twins_never [] i j x y apart at_x at_y differ one two = cc at_x
twins_never (z ∷ zs) zero zero x y apart at_x at_y differ one two = differ refl
twins_never (z ∷ zs) zero (suc j) x y apart at_x at_y differ one two =
    let same : z ≡ x = cc in
    false≢true (sym (each_at (λ (l : Logged). is_twin z.item l.item ≡ false) zs j y apart.0 at_y) ∙ subst (λ (l : Logged). is_twin l.item y.item ≡ true) (sym same) one)
twins_never (z ∷ zs) (suc i) zero x y apart at_x at_y differ one two =
    let same : z ≡ y = cc in
    false≢true (sym (each_at (λ (l : Logged). is_twin z.item l.item ≡ false) zs i x apart.0 at_x) ∙ subst (λ (l : Logged). is_twin l.item x.item ≡ true) (sym same) two)
twins_never (z ∷ zs) (suc i) (suc j) x y apart at_x at_y differ one two =
    twins_never zs i j x y apart.1 at_x at_y (λ same. differ (ap (λ (n : ℕ). suc n) same)) one two
