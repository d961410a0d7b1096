-- Where only the job's own entries stand in a calm part: what is outside the part stays as it is.
use Rattle.std.proofs.Common.{◌≡◌, ℕ, zero, suc, Bool, true, false, cond, not, ◌&&◌, ◌||◌, eqb, List, [], ◌∷◌, Option, Some, None, refl, sym, ap, ◌∙◌, subst, inl, inr}
use Rattle.std.proofs.lemmas.Bool.{and_parts, eqb-true, false≢true}
use Rattle.std.specs.Prelude.{slice_get}
use Rattle.std.specs.List.{list_any}
use Rattle.std.specs.Option.{option_map}
use Rattle.delf_model.specs.declared.rows.EdgeKey.{EdgeKey}
use Rattle.delf_model.specs.declared.rows.Item.{Item}
use Rattle.delf_model.specs.declared.rows.Item.TheVariants as item
use Rattle.delf_model.specs.declared.entry.Entry.{Entry}
use Rattle.delf_model.specs.declared.entry.What.{What}
use Rattle.delf_model.specs.declared.entry.What.TheVariants.{Create, Update, Link, Unlink, Delete, Restore, Expire, Cut, Erase, Put, Purge}
use Rattle.delf_model.specs.Graph.{object_at, edge_at, edge_stands}
use Rattle.delf_model.specs.State.{State, Logged, Handled, JobRow, is_owned_by, job_of, job_row}
use Rattle.delf_model.specs.Step.{step, items_after, jobs_after, unhandled, handled_at, row_restored_at, erased_at}
use Rattle.delf_model.specs.Owners.{key_of}
use Rattle.delf_model.specs.Legal.{is_legal, is_allowed}
use Rattle.delf_model.specs.Report.{was_put}
use Rattle.delf_model.specs.Payloads.{is_purged, is_purged_row, item_needs}
use Rattle.delf_model.specs.Closure.{has, names, item_names, logged_names}
use Rattle.delf_model.specs.Sound.{is_own_entry, is_put_by}
use Rattle.delf_model.proofs.Lines.{allowed_of}
use Rattle.delf_model.proofs.Jobs.{job_row-restored, job_row-erased}
use Rattle.delf_model.proofs.Places.{EachItem, may_put_of}
use Rattle.delf_model.proofs.Good.{Good}
use Rattle.reach_laws.proofs.Quiet.{object_left, edge_left, takes_for}
use Rattle.reach_laws.proofs.Kept.{Part, Whole, false_of, touches_from}
use Rattle.history_laws.proofs.Items.{ItemsChange, items_change, any_push_miss, any_same}
use Rattle.history_laws.proofs.Back.{InPart, Back, cut_now, erase_now, put_now}

-- own entries name ids of the part alone

other_id : (f : Part) (a id : ℕ) → has f.ids a ≡ true → has f.ids id ≡ false → eqb a id ≡ false
other_id f a id inside outside =
    false_of (eqb a id) (λ same. false≢true (sym outside ∙ subst (λ (n : ℕ). has f.ids n ≡ true) (eqb-true a id same) inside))

or_false : (a b : Bool) → a ≡ false → b ≡ false → (a || b) ≡ false
or_false true b one two = one
or_false false b one two = two

item_own : (f : Part) (it : Item) (id : ℕ) → InPart f it → has f.ids id ≡ false → item_names id it ≡ false
item_own f (item.Object job row) id inside outside = other_id f row.id id inside outside
item_own f (item.Edge job row from_birth to_birth) id inside outside =
    or_false (eqb row.key.from id) (eqb row.key.to id) (other_id f row.key.from id inside.0 outside) (other_id f row.key.to id inside.1 outside)

names_own : (f : Part) (s : State) (moment : ℕ) (what : What) → Whole f → Good s → is_allowed s moment what ≡ true → Back f s → is_own_entry f.job what ≡ true → (id : ℕ) → has f.ids id ≡ false → names s what id ≡ false
names_own f s moment (Create tag kind x size) whole good line back own id outside = absurd (false≢true own)
names_own f s moment (Update tag x size) whole good line back own id outside = absurd (false≢true own)
names_own f s moment (Link tag edge from to size) whole good line back own id outside = absurd (false≢true own)
names_own f s moment (Unlink tag edge from to name) whole good line back own id outside = absurd (false≢true own)
names_own f s moment (Delete tag x name) whole good line back own id outside = absurd (false≢true own)
names_own f s moment (Restore tag which) whole good line back own id outside = refl
names_own f s moment (Expire x) whole good line back own id outside = absurd (false≢true own)
names_own f s moment (Cut which edge from to) whole good line back own id outside =
    let same : which ≡ f.job = eqb-true which f.job own in
    let parts = and_parts (edge_stands s.graph (key_of edge from to)) (is_owned_by s f.job from || is_owned_by s f.job to)
    (subst (λ (j : ℕ). is_allowed s moment (Cut j edge from to) ≡ true) same line) in
    let now = cut_now f s (key_of edge from to) whole good back parts.0 parts.1 in
    or_false (eqb from id) (eqb to id) (other_id f from id now.here.source outside) (other_id f to id now.here.target outside)
names_own f s moment (Erase which gone) whole good line back own id outside =
    let same : which ≡ f.job = eqb-true which f.job own in
    let mine = (and_parts (is_owned_by s f.job gone) _ (subst (λ (j : ℕ). is_allowed s moment (Erase j gone) ≡ true) same line)).0 in
    other_id f gone id (erase_now f s gone good back mine).here.held outside
names_own f s moment (Put which i) whole good line back own id outside =
    let same : which ≡ f.job = eqb-true which f.job own in
    let now = put_now f s i good back (may_put_of s f.job i (slice_get s.items i) refl (subst (λ (j : ℕ). is_allowed s moment (Put j i) ≡ true) same line)) in
    ap (logged_names id) now.at ∙ item_own f now.logged.item id now.in_part outside
names_own f s moment (Purge which) whole good line back own id outside = absurd (false≢true own)

-- own entries purge nothing

purged_restored : (job position : ℕ) (o : Option JobRow) → is_purged_row (option_map (row_restored_at job position) o) ≡ is_purged_row o
purged_restored job position None = refl
purged_restored job position (Some row) = by_hit (eqb row.start job)
  where
    by_hit : (b : Bool) → (cond b (record row { restored = Some position }) row).purged ≡ row.purged
    by_hit true = refl
    by_hit false = refl

purged_erased : (job moment : ℕ) (o : Option JobRow) → is_purged_row (option_map (erased_at job moment) o) ≡ is_purged_row o
purged_erased job moment None = refl
purged_erased job moment (Some row) = by_hit (eqb row.start job)
  where
    by_hit : (b : Bool) → (cond b (record row { last = Some moment }) row).purged ≡ row.purged
    by_hit true = refl
    by_hit false = refl

purged_same : (s : State) (moment : ℕ) (what : What) (job k : ℕ) → is_own_entry job what ≡ true → is_purged (jobs_after s moment what) k ≡ is_purged s.jobs k
purged_same s moment (Restore tag which) job k own = ap is_purged_row (job_row-restored s.jobs which s.len k) ∙ purged_restored which s.len (job_row s.jobs k)
purged_same s moment (Cut which edge from to) job k own = ap is_purged_row (job_row-erased s.jobs which moment k) ∙ purged_erased which moment (job_row s.jobs k)
purged_same s moment (Erase which gone) job k own = ap is_purged_row (job_row-erased s.jobs which moment k) ∙ purged_erased which moment (job_row s.jobs k)
purged_same s moment (Put which i) job k own = refl
purged_same s moment what job k own = absurd (false≢true own)

-- own entries change items of the job alone

taken_own : (what : What) (which job : ℕ) → is_own_entry job what ≡ true → takes_for which what ≡ true → eqb which job ≡ true
taken_own (Cut other edge from to) which job own takes = subst (λ (n : ℕ). eqb n job ≡ true) (eqb-true other which takes) own
taken_own (Erase other id) which job own takes = subst (λ (n : ℕ). eqb n job ≡ true) (eqb-true other which takes) own
taken_own what which job own takes = absurd (false≢true takes)

put_own : (what : What) (which job : ℕ) → is_own_entry job what ≡ true → is_put_by which what ≡ true → eqb which job ≡ true
put_own (Put other i) which job own puts = subst (λ (n : ℕ). eqb n job ≡ true) (eqb-true other which puts) own
put_own what which job own puts = absurd (false≢true puts)

any_marked : (r : Logged → Bool) (xs : List Logged) (i : ℕ) (how : Handled) (l : Logged) → slice_get xs i ≡ Some l → r l ≡ false → r (record { item = l.item; handled = Some how }) ≡ false →
    list_any r (handled_at xs i how) ≡ list_any r xs
any_marked r [] i how l at before now = refl
any_marked r (x ∷ xs) zero how l at before now =
    let same : x ≡ l = cc in
    ap (λ (b : Bool). b || list_any r xs) (ap (λ (y : Logged). r (record { item = y.item; handled = Some how })) same ∙ (now ∙ sym (ap r same ∙ before)))
any_marked r (x ∷ xs) (suc i) how l at before now = ap (λ (b : Bool). r x || b) (any_marked r xs i how l at before now)

others_same : (s : State) (what : What) (job : ℕ) (r : Logged → Bool) → ItemsChange s what → is_own_entry job what ≡ true → ((l : Logged) → eqb (job_of l.item) job ≡ true → r l ≡ false) →
    list_any r (items_after s what) ≡ list_any r s.items
others_same s what job r change own foreign =
    elim change [
      | inl same ↦ ap (λ (xs : List Logged). list_any r xs) same
      | inr (inl added) ↦
          ap (λ (xs : List Logged). list_any r xs) added.now ∙
          any_push_miss r s.items (unhandled added.new_item) (foreign (unhandled added.new_item) (taken_own what (job_of added.new_item) job own added.taken))
      | inr (inr marked) ↦
          (let mine = put_own what (job_of marked.logged.item) job own marked.put in
          ap (λ (xs : List Logged). list_any r xs) marked.now ∙
          any_marked r s.items marked.place marked.how marked.logged marked.there (foreign marked.logged mine) (foreign (record { item = marked.logged.item; handled = Some marked.how }) mine))
    ]

-- what an item of another job needs
abbrev pub rest_needs : ℕ → List JobRow → ℕ → Logged → Bool
rest_needs job jobs p l = not (eqb (job_of l.item) job) && item_needs jobs p l

rest_own : (job : ℕ) (jobs : List JobRow) (p : ℕ) (l : Logged) → eqb (job_of l.item) job ≡ true → rest_needs job jobs p l ≡ false
rest_own job jobs p l mine = ap (λ (b : Bool). not b && item_needs jobs p l) mine

-- outside the part all is as in the state after the start
pub record Outside (f : Part) (begun t : State) : Type 0 where
  pub objects : (id : ℕ) → has f.ids id ≡ false → object_at t.graph id ≡ object_at begun.graph id
  pub edges : (key : EdgeKey) → has f.ids key.from ≡ false → edge_at t.graph key ≡ edge_at begun.graph key
  pub purged : (k : ℕ) → is_purged t.jobs k ≡ is_purged begun.jobs k
  pub others : (p : ℕ) → list_any (rest_needs f.job begun.jobs p) t.items ≡ list_any (rest_needs f.job begun.jobs p) begun.items

pub outside_start : (f : Part) (begun : State) → Outside f begun begun
outside_start f begun = record {
  objects = λ id outside. refl;
  edges = λ key outside. refl;
  purged = λ k. refl;
  others = λ p. refl;
}

pub outside_step : (f : Part) (begun s : State) (e : Entry) → Whole f → Good s → is_legal s e ≡ true → Back f s → is_own_entry f.job e.what ≡ true → Outside f begun s → Outside f begun (step s e)
outside_step f begun s e whole good legal back own out = record {
  objects = λ id outside. object_left s e.moment e.what id (unnamed id outside) ∙ out.objects id outside;
  edges = λ key outside. edge_left s e.moment e.what key.from key (touches_from key key.from refl) (unnamed key.from outside) ∙ out.edges key outside;
  purged = λ k. purged_same s e.moment e.what f.job k own ∙ out.purged k;
  others = λ p.
      others_same s e.what f.job (rest_needs f.job begun.jobs p) (items_change s e.moment e.what (allowed_of s e legal) good.owned_stand) own
      (λ l mine. rest_own f.job begun.jobs p l mine) ∙ out.others p;
}
  where
    unnamed : (id : ℕ) → has f.ids id ≡ false → names s e.what id ≡ false
    unnamed id outside = names_own f s e.moment e.what whole good (allowed_of s e legal) back own id outside

-- what the items need, where every item of the job was put back, and where there was none

pub needs_rest : (job : ℕ) (jobs now : List JobRow) (p : ℕ) (xs : List Logged) → ((k : ℕ) → is_purged now k ≡ is_purged jobs k) →
    EachItem (λ l. eqb (job_of l.item) job ≡ true → was_put l.handled ≡ true) xs → list_any (item_needs now p) xs ≡ list_any (rest_needs job jobs p) xs
needs_rest job jobs now p xs purged each = any_same (item_needs now p) (rest_needs job jobs p) xs (each_need xs each)
  where
    one : (l : Logged) → (eqb (job_of l.item) job ≡ true → was_put l.handled ≡ true) → item_needs now p l ≡ rest_needs job jobs p l
    one l put = by_job (eqb (job_of l.item) job) (was_put l.handled) (is_purged now (job_of l.item)) (is_purged jobs (job_of l.item)) _ put (purged (job_of l.item))
      where
        by_job : (mine back a b c : Bool) → (mine ≡ true → back ≡ true) → a ≡ b → ((not a && not back) && c) ≡ (not mine && ((not b && not back) && c))
        by_job true true true b c put same = refl
        by_job true true false b c put same = refl
        by_job true false a b c put same = absurd (false≢true (put refl))
        by_job false back a b c put same = ap (λ (x : Bool). (not x && not back) && c) same

    each_need : (ys : List Logged) → EachItem (λ l. eqb (job_of l.item) job ≡ true → was_put l.handled ≡ true) ys → EachItem (λ l. item_needs now p l ≡ rest_needs job jobs p l) ys
    each_need [] all = tt
    each_need (y ∷ ys) all = (one y all.0, each_need ys all.1)
