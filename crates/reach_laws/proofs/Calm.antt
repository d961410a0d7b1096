-- In a calm part a deletion takes exactly the closure of its root, whatever the order of its steps.
use Rattle.std.proofs.Common.{◌≡◌, ℕ, zero, suc, ◌+◌, ◌-◌, ◌≤◌, ◌<◌, Bool, true, false, cond, not, ◌&&◌, ◌||◌, eqb, List, [], ◌∷◌, ◌++◌, length, take, drop, Option, Some, None, refl, sym, ap, ◌∙◌, subst, arith, add-one, inl, inr, ◌⊎◌}
use Rattle.std.proofs.lemmas.Bool.{and_parts, and_from, eqb-true, eq-eqb, false≢true, or_cases}
use Rattle.std.specs.Prelude.{is_some, slice_get}
use Rattle.std.specs.List.{list_any}
use Rattle.delf_model.specs.declared.rows.ObjectRow.{ObjectRow}
use Rattle.delf_model.specs.declared.rows.EdgeKey.{EdgeKey}
use Rattle.delf_model.specs.declared.rows.EdgeRow.{EdgeRow}
use Rattle.delf_model.specs.declared.rows.Item.{Item}
use Rattle.delf_model.specs.declared.rows.Item.TheVariants as item
use Rattle.delf_model.specs.declared.ids.JobName.{JobName}
use Rattle.delf_model.specs.declared.ids.JobName.TheVariants.{Named, Expiry}
use Rattle.delf_model.specs.declared.entry.Entry.{Entry}
use Rattle.delf_model.specs.declared.entry.Tag.{Tag}
use Rattle.delf_model.specs.declared.entry.What.{What}
use Rattle.delf_model.specs.declared.entry.What.TheVariants.{Create, Update, Link, Unlink, Delete, Restore, Expire, Cut, Erase, Put, Purge}
use Rattle.delf_model.specs.RuleSet.{RuleSet}
use Rattle.delf_model.specs.Graph.{Graph, object_at, edge_at, edge_stands, has_refs}
use Rattle.delf_model.specs.State.{State, Logged, Handled, JobRow, start, owner, owned, is_owned_by, is_job, job_row, job_of, is_restored}
use Rattle.delf_model.specs.Step.{step, run, after, items_after, edge_item, object_item, handled_at, outcome, birth_of}
use Rattle.delf_model.specs.Owners.{key_of, unlink_start, root_of_start, start_of}
use Rattle.delf_model.specs.Store.{EndsStand}
use Rattle.delf_model.specs.Legal.{is_legal, is_legal_from, is_allowed, Legal}
use Rattle.delf_model.specs.Closure.{has, Closure, Calm, LeavesAlone, names, is_step_of, erased_item, cut_item, has_erased, has_cut, root_of, root_of_row}
use Rattle.delf_model.specs.Sound.{TookClosure, OrderDoesNotMatter}
use Rattle.delf_model.proofs.Runs.{good_take, legal_at, legal_drop, run-take-drop, run-take_suc}
use Rattle.delf_model.proofs.Lines.{allowed_of}
use Rattle.delf_model.proofs.Leaves.{owner_is}
use Rattle.delf_model.proofs.Owners.{owner_from}
use Rattle.delf_model.proofs.Plain.{plain_owner, owner_plain}
use Rattle.delf_model.proofs.Jobs.{owned_positive}
use Rattle.delf_model.proofs.Places.{EachItem, each_weaken, may_put_of}
use Rattle.delf_model.proofs.Good.{Good, good_start, good_step, good_at}
use Rattle.reach_laws.proofs.Quiet.{each_edge, each_object}
use Rattle.reach_laws.proofs.Kept.{Part, Whole, had, RowOf, Kept, Running, quiet_step}
use Rattle.reach_laws.proofs.Taken.{cut_running}
use Rattle.reach_laws.proofs.Gone.{erase_running, took, took_step, took_run}
use Rattle.reach_laws.proofs.Reach.{OwnsNone, root_new, start_owner}

-- owners and items are of jobs that began earlier

abbrev pub OwnersBelow : State → Type 0
OwnersBelow s = (id k : ℕ) → owner s id ≡ Some k → k < s.len

owners_below_step : (s : State) (e : Entry) → OwnersBelow s → OwnersBelow (step s e)
owners_below_step s e below id k own =
    elim (owner_from s e id k own) [ inl old ↦ (let lt : k < s.len = below old.0 k old.1 in omega arith) | inr new ↦ omega arith ]

handled_below : (n : ℕ) (xs : List Logged) (i : ℕ) (how : Handled) → EachItem (λ l. job_of l.item < n) xs → EachItem (λ l. job_of l.item < n) (handled_at xs i how)
handled_below n [] i how each = tt
handled_below n (x ∷ xs) zero how each = each
handled_below n (x ∷ xs) (suc i) how each = (each.0, handled_below n xs i how each.1)

-- the items after an entry are of jobs that began before it
items_below : (s : State) (moment : ℕ) (what : What) → is_allowed s moment what ≡ true → OwnersBelow s → EachItem (λ l. job_of l.item < s.len) s.items → EachItem (λ l. job_of l.item < s.len) (items_after s what)
items_below s moment (Create tag kind id size) line below each = each
items_below s moment (Update tag id size) line below each = each
items_below s moment (Link tag edge from to size) line below each = each
items_below s moment (Unlink tag edge from to name) line below each = each
items_below s moment (Delete tag id name) line below each = each
items_below s moment (Restore tag which) line below each = each
items_below s moment (Expire id) line below each = each
items_below s moment (Cut which edge from to) line below each =
    each_edge (λ l. job_of l.item < s.len) s.graph which s.items (edge_at s.graph (key_of edge from to)) each
    (λ row at.
    elim (or_cases (is_owned_by s which from) (is_owned_by s which to) (and_parts (edge_stands s.graph (key_of edge from to)) (is_owned_by s which from || is_owned_by s which to) line).1) [
      | inl own ↦ below from which (owner_is s which from own)
      | inr own ↦ below to which (owner_is s which to own)
    ])
items_below s moment (Erase which id) line below each =
    each_object (λ l. job_of l.item < s.len) which s.items (object_at s.graph id) each (λ row at. below id which (owner_is s which id (and_parts (is_owned_by s which id) _ line).0))
items_below s moment (Put which i) line below each = handled_below s.len s.items i (outcome s (slice_get s.items i)) each
items_below s moment (Purge which) line below each = each

pub record Begun (s : State) : Type 0 where
  pub good : Good s
  pub owners : OwnersBelow s
  pub items : EachItem (λ l. job_of l.item < s.len) s.items

begun_start : (rules : RuleSet) → Begun (start rules)
begun_start rules = record { good = good_start rules; owners = λ id k own. absurd (cc own); items = tt }

begun_step : (s : State) (e : Entry) → Begun s → is_legal s e ≡ true → Begun (step s e)
begun_step s e begun legal = record {
  good = good_step s e begun.good legal;
  owners = owners_below_step s e begun.owners;
  items = each_weaken (λ l. job_of l.item < s.len) (λ l. job_of l.item < s.len + 1) (items_after s e.what) (λ l less. more (job_of l.item) s.len less)
      (items_below s e.moment e.what (allowed_of s e legal) begun.owners begun.items);
}
  where
    more : (a b : ℕ) → a < b → a < b + 1
    more a b h = omega arith

-- the state right after the start of a job

any_none : (q : Item → Bool) (xs : List Logged) → EachItem (λ l. q l.item ≡ false) xs → list_any (λ l. q l.item) xs ≡ false
any_none q [] each = refl
any_none q (x ∷ xs) each = both (q x.item) (list_any (λ l. q l.item) xs) each.0 (any_none q xs each.1)
  where
    both : (a b : Bool) → a ≡ false → b ≡ false → (a || b) ≡ false
    both true b one two = one
    both false b one two = two

other_job : (n job : ℕ) → n < job → eqb n job ≡ false
other_job n job less = by_same (eqb n job) refl
  where
    by_same : (b : Bool) → eqb n job ≡ b → b ≡ false
    by_same true is = absurd (let same : n ≡ job = eqb-true n job is in omega arith)
    by_same false is = refl

no_erased : (job id : ℕ) (it : Item) → job_of it < job → erased_item job id it ≡ false
no_erased job id (item.Object other row) less = first (eqb other job) (eqb row.id id) (other_job other job less)
  where
    first : (a b : Bool) → a ≡ false → (a && b) ≡ false
    first true b is = absurd (false≢true (sym is))
    first false b is = refl
no_erased job id (item.Edge other row from_birth to_birth) less = refl

no_cut : (job : ℕ) (key : EdgeKey) (it : Item) → job_of it < job → cut_item job key it ≡ false
no_cut job key (item.Object other row) less = refl
no_cut job key (item.Edge other row from_birth to_birth) less = first (eqb other job) _ (other_job other job less)
  where
    first : (a b : Bool) → a ≡ false → (a && b) ≡ false
    first true b is = absurd (false≢true (sym is))
    first false b is = refl

hit_or_old : (b : Bool) (n job : ℕ) (o : Option ℕ) → cond b (Some n) o ≡ Some job → ((b ≡ true) × (n ≡ job)) ⊎ (o ≡ Some job)
hit_or_old true n job o is = inl (refl, (let same : n ≡ job = cc in same))
hit_or_old false n job o is = inr is

start_to : (s : State) (edge from to name : ℕ) → is_some (unlink_start s edge from to name) ≡ true → root_of_start (unlink_start s edge from to name) ≡ Some to
start_to s edge from to name some = by_start _ some
  where
    by_start : (b : Bool) → is_some {T = ℕ × JobName} (cond b (Some (to, Named name)) None) ≡ true → root_of_start (cond b (Some (to, Named name)) None) ≡ Some to
    by_start true h = refl
    by_start false h = absurd (false≢true h)

-- who gets an owner of the present position is the root of a start
started_owner : (s : State) (moment : ℕ) (what : What) → is_allowed s moment what ≡ true → OwnersBelow s → (id : ℕ) → plain_owner s what id ≡ Some s.len → root_of_start (start_of s what) ≡ Some id
started_owner s moment what line below id own = by_what what line own
  where
    never : {A : Type 0} → owner s id ≡ Some s.len → A
    never old = absurd (let less : s.len < s.len = below id s.len old in omega arith)

    by_what : (w : What) → is_allowed s moment w ≡ true → plain_owner s w id ≡ Some s.len → root_of_start (start_of s w) ≡ Some id
    by_what (Create tag kind x size) line own = never own
    by_what (Update tag x size) line own = never own
    by_what (Link tag edge from to size) line own = never own
    by_what (Unlink tag edge from to name) line own =
        elim (hit_or_old (is_some (unlink_start s edge from to name) && eqb to id) s.len s.len (owner s id) own) [
          | inl hit ↦ (let parts = and_parts (is_some (unlink_start s edge from to name)) (eqb to id) hit.0 in start_to s edge from to name parts.0 ∙ ap (λ (n : ℕ). Some n) (eqb-true to id parts.1))
          | inr old ↦ never old
        ]
    by_what (Delete tag root name) line own =
        elim (hit_or_old (eqb root id) s.len s.len (owner s id) own) [ inl hit ↦ ap (λ (n : ℕ). Some n) (eqb-true root id hit.0) | inr old ↦ never old ]
    by_what (Restore tag which) line own = never own
    by_what (Expire root) line own =
        elim (hit_or_old (eqb root id) s.len s.len (owner s id) own) [ inl hit ↦ ap (λ (n : ℕ). Some n) (eqb-true root id hit.0) | inr old ↦ never old ]
    by_what (Cut which edge from to) line own =
        elim (hit_or_old _ which s.len (owner s id) own) [
          | inl hit ↦
              elim (or_cases (is_owned_by s which from) (is_owned_by s which to) (and_parts (edge_stands s.graph (key_of edge from to)) (is_owned_by s which from || is_owned_by s which to) line).1) [
                | inl end_own ↦ absurd (let less : which < s.len = below from which (owner_is s which from end_own) in omega (arith, hit.1))
                | inr end_own ↦ absurd (let less : which < s.len = below to which (owner_is s which to end_own) in omega (arith, hit.1))
              ]
          | inr old ↦ never old
        ]
    by_what (Erase which gone) line own = never (left (eqb gone id) own)
      where
        left : (b : Bool) → cond b None (owner s id) ≡ Some s.len → owner s id ≡ Some s.len
        left true is = absurd (cc is)
        left false is = is
    by_what (Put which i) line own = never own
    by_what (Purge which) line own = never own

row_some : (o : Option JobRow) (id : ℕ) → root_of_row o ≡ Some id → is_some o ≡ true
row_some None id is = absurd (cc is)
row_some (Some row) id is = refl

number_is : (a b : ℕ) → Some a ≡ Some b → a ≡ b
number_is a b h = cc

-- the facts of a calm part hold right after the start
running_start : (f : Part) (s : State) (e : Entry) → Begun s → is_legal s e ≡ true → f.job ≡ s.len → f.graph ≡ (step s e).graph → f.rules ≡ s.rules →
    root_of (step s e) f.job ≡ Some f.root → has f.ids f.root ≡ true → ((id other : ℕ) → has f.ids id ≡ true → owner (step s e) id ≡ Some other → id ≡ f.root) → Running f (step s e)
running_start f s e begun legal job_is graph_is rules_is root held free = record {
  kept = record {
    below = omega (arith, job_is);
    objects = λ id is_held. ap (λ (g : Graph). object_at g id) (sym graph_is) ∙ ap (λ (b : Bool). cond b None (object_at f.graph id)) (sym (none_erased id));
    edges = λ key id is_held touched. ap (λ (g : Graph). edge_at g key) (sym graph_is) ∙ ap (λ (b : Bool). cond b None (edge_at f.graph key)) (sym (none_cut key));
    erased = λ id gone. absurd (false≢true (sym (none_erased id) ∙ gone));
    cut = λ key gone. absurd (false≢true (sym (none_cut key) ∙ gone));
    other = λ id k is_held own. number_is k f.job (sym own ∙ (ap (λ (n : ℕ). owner (step s e) n) (free id k is_held own) ∙ owned_root));
    mine = λ id own. subst (λ (n : ℕ). has f.ids n ≡ true) (sym (only_root id own)) held;
    rows = each_weaken (λ l. job_of l.item < s.len) (λ l. RowOf f l.item) (items_after s e.what)
        (λ l less same. absurd (false≢true (sym (other_job (job_of l.item) f.job (subst (λ (n : ℕ). job_of l.item < n) (sym job_is) less)) ∙ same))) items;
  };
  rules = sym rules_is;
  begun = or_left (is_owned_by (step s e) f.job f.root) (has_erased (step s e) f.job f.root) (owned_true f.root owned_root);
  within = λ id was. subst (λ (n : ℕ). Closure f.rules f.graph f.root n) (sym (only_root id (had_owned id was))) (λ ids closed root_held. root_held);
  deep = λ key gone is. absurd (false≢true (sym (none_cut key) ∙ gone));
  refs = λ id is_held some not_had. subst (λ (g : Graph). has_refs f.rules g id ≡ true) graph_is some;
}
  where
    or_left : (a b : Bool) → a ≡ true → (a || b) ≡ true
    or_left true b is = refl
    or_left false b is = absurd (false≢true is)

    items : EachItem (λ l. job_of l.item < s.len) (items_after s e.what)
    items = items_below s e.moment e.what (allowed_of s e legal) begun.owners begun.items

    none_erased : (id : ℕ) → has_erased (step s e) f.job id ≡ false
    none_erased id =
        any_none (erased_item f.job id) (items_after s e.what)
        (each_weaken (λ l. job_of l.item < s.len) (λ l. erased_item f.job id l.item ≡ false) (items_after s e.what)
        (λ l less. no_erased f.job id l.item (subst (λ (n : ℕ). job_of l.item < n) (sym job_is) less)) items)

    none_cut : (key : EdgeKey) → has_cut (step s e) f.job key ≡ false
    none_cut key =
        any_none (cut_item f.job key) (items_after s e.what)
        (each_weaken (λ l. job_of l.item < s.len) (λ l. cut_item f.job key l.item ≡ false) (items_after s e.what)
        (λ l less. no_cut f.job key l.item (subst (λ (n : ℕ). job_of l.item < n) (sym job_is) less)) items)

    start_root : root_of_start (start_of s e.what) ≡ Some f.root
    start_root =
        elim (root_new s e.moment e.what f.job f.root root) [
          | inl old ↦ absurd (let less : f.job < s.len = begun.good.jobs_below f.job (row_some (job_row s.jobs f.job) f.root old) in omega (arith, job_is))
          | inr new ↦ new.1
        ]

    plain : (id : ℕ) → owner (step s e) id ≡ plain_owner s e.what id
    plain id = owner_plain s e.moment e.what legal begun.good.owned_stand begun.good.ends id

    owned_root : owner (step s e) f.root ≡ Some f.job
    owned_root = plain f.root ∙ (start_owner s e.what f.root start_root ∙ ap (λ (n : ℕ). Some n) (sym job_is))

    only_root : (id : ℕ) → owner (step s e) id ≡ Some f.job → id ≡ f.root
    only_root id own =
        number_is id f.root (sym (started_owner s e.moment e.what (allowed_of s e legal) begun.owners id (sym (plain id) ∙ (own ∙ ap (λ (n : ℕ). Some n) job_is))) ∙ start_root)

    owned_true : (id : ℕ) → owner (step s e) id ≡ Some f.job → is_owned_by (step s e) f.job id ≡ true
    owned_true id own = ap (is_job f.job) own ∙ eq-eqb f.job f.job refl

    had_owned : (id : ℕ) → had f (step s e) id ≡ true → owner (step s e) id ≡ Some f.job
    had_owned id was =
        elim (or_cases (is_owned_by (step s e) f.job id) (has_erased (step s e) f.job id) was) [
          | inl own ↦ owner_is (step s e) f.job id own
          | inr gone ↦ absurd (false≢true (sym (none_erased id) ∙ gone))
        ]

-- the part, entry by entry: running, or done

abbrev pub IsDone : Part → State → Type 0
IsDone f s = OwnsNone f.job s × TookClosure f.rules f.graph f.root f.job s × EachItem (λ l. RowOf f l.item) s.items

abbrev pub Phase : Part → State → Type 0
Phase f s = Running f s ⊎ IsDone f s

done_from : (f : Part) (s : State) → Whole f → Good s → Running f s → ((id : ℕ) → owner s id ≡ Some f.job → ⊥) → IsDone f s
done_from f s whole good running none =
    ((running.kept.below, none), took f s whole good running (running.kept.below, none), running.kept.rows)

none_more : (s : State) (e : Entry) (job : ℕ) → OwnsNone job s → OwnsNone job (step s e)
none_more s e job none = (more job s.len none.0, λ id own. elim (owner_from s e id job own) [ inl old ↦ none.1 old.0 old.1 | inr new ↦ (let less : job < s.len = none.0 in omega arith) ])
  where
    more : (a b : ℕ) → a < b → a < b + 1
    more a b h = omega arith

done_step : (f : Part) (s : State) (e : Entry) → is_legal s e ≡ true → IsDone f s → IsDone f (step s e)
done_step f s e legal done =
    let next = took_step f s e legal done.0 done.2 done.1 in (none_more s e f.job done.0, next.0, next.1)

-- a step of the job while the part runs
own_step : (f : Part) (s : State) (moment : ℕ) (what : What) → Whole f → Good s → is_legal s (record { moment = moment; what = what }) ≡ true → Running f s → is_step_of f.job what ≡ true → Phase f (step s (record { moment = moment; what = what }))
own_step f s moment (Create tag kind id size) whole good legal running is = absurd (false≢true is)
own_step f s moment (Update tag id size) whole good legal running is = absurd (false≢true is)
own_step f s moment (Link tag edge from to size) whole good legal running is = absurd (false≢true is)
own_step f s moment (Unlink tag edge from to name) whole good legal running is = absurd (false≢true is)
own_step f s moment (Delete tag id name) whole good legal running is = absurd (false≢true is)
own_step f s moment (Restore tag which) whole good legal running is = absurd (false≢true is)
own_step f s moment (Expire id) whole good legal running is = absurd (false≢true is)
own_step f s moment (Cut which edge from to) whole good legal running is =
    let same : f.job ≡ which = sym (eqb-true which f.job is) in
    subst (λ (j : ℕ). is_legal s (record { moment = moment; what = Cut j edge from to }) ≡ true → Phase f (step s (record { moment = moment; what = Cut j edge from to }))) same
    (λ line. inl (cut_running f s moment (key_of edge from to) whole good line running)) legal
own_step f s moment (Erase which gone) whole good legal running is =
    let same : f.job ≡ which = sym (eqb-true which f.job is) in
    subst (λ (j : ℕ). is_legal s (record { moment = moment; what = Erase j gone }) ≡ true → Phase f (step s (record { moment = moment; what = Erase j gone }))) same
    (λ line. inl (erase_running f s moment gone good line running)) legal
own_step f s moment (Put which i) whole good legal running is =
    let may = may_put_of s which i (slice_get s.items i) refl (allowed_of s (record { moment = moment; what = Put which i }) legal) in
    let restored : is_restored s.jobs f.job ≡ true = subst (λ (j : ℕ). is_restored s.jobs j ≡ true) (may.of_job ∙ eqb-true which f.job is) may.restored in
    inr (done_step f s (record { moment = moment; what = Put which i }) legal (done_from f s whole good running (λ id own. good.idle f.job id restored own)))
own_step f s moment (Purge which) whole good legal running is = absurd (false≢true is)

phase_step : (f : Part) (s : State) (e : Entry) → Whole f → Good s → is_legal s e ≡ true → LeavesAlone f.job f.ids s e.what → Phase f s → Phase f (step s e)
phase_step f s e whole good legal alone phase =
    elim phase [
      | inr done ↦ inr (done_step f s e legal done)
      | inl running ↦
          elim alone [
            | inl own ↦ own_step f s e.moment e.what whole good legal running own
            | inr unnamed ↦ inl (quiet_step f s e good legal running unnamed)
          ]
    ]

-- an entry stands at each place below the length
entry_at : (h : List Entry) (n : ℕ) → n < length h → (e : Entry) × (slice_get h n ≡ Some e)
entry_at [] n less = absurd (none n less)
  where
    none : (a : ℕ) → a < 0 → ⊥
    none a h = omega arith
entry_at (x ∷ xs) zero less = (x, refl)
entry_at (x ∷ xs) (suc n) less = entry_at xs n (fewer n (length xs) less)
  where
    fewer : (a b : ℕ) → suc a < suc b → a < b
    fewer a b h = omega arith

pub calm_run : (f : Part) (rules : RuleSet) (h : List Entry) (q d n : ℕ) → n + d ≡ q → q ≤ length h → f.job < n → Legal rules h → Whole f →
    ((p : ℕ) (e : Entry) → f.job < p → p < q → slice_get h p ≡ Some e → LeavesAlone f.job f.ids (after rules (take p h)) e.what) →
    Phase f (after rules (take n h)) → Phase f (after rules (take q h))
calm_run f rules h q zero n sum within later legal whole quiet phase = subst (λ (m : ℕ). Phase f (after rules (take m h))) (last n q sum) phase
  where
    last : (a b : ℕ) → a + 0 ≡ b → a ≡ b
    last a b h = omega arith
calm_run f rules h q (suc d) n sum within later legal whole quiet phase =
    let found = entry_at h n (below n d q (length h) sum within) in
    calm_run f rules h q d (suc n) (next n d q sum) within (above f.job n later) legal whole quiet
    (subst (λ (t : State). Phase f t) (sym (run-take_suc (start rules) h n found.0 found.1))
    (phase_step f (after rules (take n h)) found.0 whole (good_at rules h n legal) (legal_at (start rules) h n found.0 legal found.1)
    (quiet n found.0 later (inside n d q sum) found.1) phase))
  where
    below : (a b c l : ℕ) → a + suc b ≡ c → c ≤ l → a < l
    below a b c l one two = omega arith

    next : (a b c : ℕ) → a + suc b ≡ c → suc a + b ≡ c
    next a b c one = omega arith

    above : (a b : ℕ) → a < b → a < suc b
    above a b one = omega arith

    inside : (a b c : ℕ) → a + suc b ≡ c → a < c
    inside a b c one = omega arith

none_of_count : (s : State) (job : ℕ) → owned s job ≡ 0 → (id : ℕ) → owner s id ≡ Some job → ⊥
none_of_count s job none id own = let positive : 0 < owned s job = owned_positive s id job own in omega arith

rules_run : (s : State) (es : List Entry) → (run s es).rules ≡ s.rules
rules_run s [] = refl
rules_run s (e ∷ es) = rules_run (step s e) es

len_take : (s : State) (es : List Entry) (k : ℕ) → k ≤ length es → (run s (take k es)).len ≡ s.len + k
len_take s es zero within = omega arith
len_take s [] (suc k) within = absurd (omega (arith, within))
len_take s (x ∷ xs) (suc k) within = omega (arith, len_take (step s x) xs k (fewer k (length xs) within))
  where
    fewer : (a b : ℕ) → suc a ≤ suc b → a ≤ b
    fewer a b h = omega arith

-- the part that a calm stretch is about
abbrev pub part_of : RuleSet → List Entry → ℕ → ℕ → List ℕ → Part
part_of rules h job root ids = record { rules = rules; graph = (after rules (take (job + 1) h)).graph; job = job; root = root; ids = ids }

-- right after the start
pub calm_start : (rules : RuleSet) (h : List Entry) (job root q : ℕ) (ids : List ℕ) → Legal rules h → Calm rules h job root q ids → Running (part_of rules h job root ids) (after rules (take (job + 1) h))
calm_start rules h job root q ids legal calm =
    let found = entry_at h job (below job q (length h) calm.later calm.within) in
    let before = after rules (take job h) in
    let stepped : after rules (take (job + 1) h) ≡ step before found.0 = ap (λ (n : ℕ). after rules (take n h)) (add-one job) ∙ run-take_suc (start rules) h job found.0 found.1 in
    subst (λ (t : State). Running (part_of rules h job root ids) t) (sym stepped)
    (running_start (part_of rules h job root ids) before found.0
    (good_take Begun begun_step (start rules) h job (begun_start rules) legal)
    (legal_at (start rules) h job found.0 legal found.1)
    (sym (zero_first (len_take (start rules) h job (at_most job q (length h) calm.later calm.within))))
    (ap (λ (t : State). t.graph) stepped)
    (sym (rules_run (start rules) (take job h)))
    (ap (λ (t : State). root_of t job) (sym stepped) ∙ calm.begun)
    calm.held
    (λ id other held own. calm.free id other held (ap (λ (t : State). owner t id) stepped ∙ own)))
  where
    below : (a b c : ℕ) → a < b → b ≤ c → a < c
    below a b c one two = omega arith

    at_most : (a b c : ℕ) → a < b → b ≤ c → a ≤ c
    at_most a b c one two = omega arith

    zero_first : {a : ℕ} → a ≡ 0 + job → a ≡ job
    zero_first one = omega arith

pub whole_of : (rules : RuleSet) (h : List Entry) (job root q : ℕ) (ids : List ℕ) → Legal rules h → Calm rules h job root q ids → Whole (part_of rules h job root ids)
whole_of rules h job root q ids legal calm = record { edges = calm.whole; ends = (good_at rules h (job + 1) legal).ends }

pub calm_phase : (rules : RuleSet) (h : List Entry) (job root q : ℕ) (ids : List ℕ) → Legal rules h → Calm rules h job root q ids → Phase (part_of rules h job root ids) (after rules (take q h))
calm_phase rules h job root q ids legal calm =
    calm_run (part_of rules h job root ids) rules h q (q - (job + 1)) (job + 1) (rest job q calm.later) calm.within (next job) legal (whole_of rules h job root q ids legal calm) calm.quiet
    (inl (calm_start rules h job root q ids legal calm))
  where
    rest : (a b : ℕ) → a < b → a + 1 + (b - (a + 1)) ≡ b
    rest a b h = omega arith

    next : (a : ℕ) → a < a + 1
    next a = omega arith

-- the order of steps does not matter
pub order_does_not_matter : (rules : RuleSet) (h : List Entry) → Legal rules h → OrderDoesNotMatter rules h
order_does_not_matter rules h legal = record {
  closure = λ job root q ids calm none.
      let f = part_of rules h job root ids in
      let done : IsDone f (after rules (take q h)) =
      (elim (calm_phase rules h job root q ids legal calm) [
        | inl running ↦ done_from f (after rules (take q h)) (whole_of rules h job root q ids legal calm) (good_at rules h q legal) running (none_of_count (after rules (take q h)) job none)
        | inr done ↦ done
      ]) in
      subst (λ (t : State). TookClosure rules f.graph root job t) (run-take-drop (start rules) h q)
      (took_run f (after rules (take q h)) (drop q h) (legal_drop (start rules) h q legal) done.0 done.2 done.1);
}
