-- A calm part, entry by entry: what the graph of the part is, and what the job had.
use Rattle.std.proofs.Common.{◌≡◌, ℕ, zero, suc, ◌+◌, ◌≤◌, ◌<◌, Bool, true, false, cond, not, ◌&&◌, ◌||◌, eqb, List, [], ◌∷◌, ◌++◌, Option, Some, None, refl, sym, ap, ◌∙◌, subst, arith, inl, inr, ◌⊎◌}
use Rattle.std.proofs.lemmas.Bool.{and_parts, and_from, eqb-true, eq-eqb, false≢true, or_cases}
use Rattle.std.specs.Prelude.{find, is_some, is_none, slice_get}
use Rattle.std.specs.List.{list_any}
use Rattle.delf_model.specs.declared.rows.ObjectRow.{ObjectRow}
use Rattle.delf_model.specs.declared.rows.EdgeKey.{EdgeKey}
use Rattle.delf_model.specs.declared.rows.EdgeRow.{EdgeRow}
use Rattle.delf_model.specs.declared.rows.Item.{Item}
use Rattle.delf_model.specs.declared.rows.Item.TheVariants as item
use Rattle.delf_model.specs.declared.entry.Entry.{Entry}
use Rattle.delf_model.specs.declared.entry.What.{What}
use Rattle.delf_model.specs.declared.entry.What.TheVariants.{Cut, Erase}
use Rattle.delf_model.specs.RuleSet.{RuleSet, is_deep, is_refcount}
use Rattle.delf_model.specs.Graph.{Graph, TakesEdge, TakesObject, changed, has_id, has_key, same_key, object_at, edge_at, edge_stands, stands, is_born_at, touches, is_touched, has_refs, is_reference, is_other_edge}
use Rattle.delf_model.specs.State.{State, Logged, owner, is_owned_by, is_job, job_of}
use Rattle.delf_model.specs.Step.{step, graph_after, items_after, edge_item, object_item, unhandled, birth_of, birth_of_row}
use Rattle.delf_model.specs.Owners.{key_of, condemns}
use Rattle.delf_model.specs.Store.{EndsStand}
use Rattle.delf_model.specs.Legal.{is_legal, is_allowed}
use Rattle.delf_model.specs.Closure.{has, IsClosed, Closure, names, erased_item, cut_item, has_erased, has_cut}
use Rattle.delf_model.specs.Sound.{IsRowOf}
use Rattle.delf_model.proofs.Graphs.{find-filter_object, find-filter_edge, same_key_is, same_key_refl}
use Rattle.delf_model.proofs.Lines.{allowed_of}
use Rattle.delf_model.proofs.Leaves.{owner_is}
use Rattle.delf_model.proofs.Owners.{found_id, found_key, stands_of}
use Rattle.delf_model.proofs.Plain.{plain_owner, owner_plain}
use Rattle.delf_model.proofs.Places.{EachItem}
use Rattle.delf_model.proofs.Good.{Good}
use Rattle.reach_laws.proofs.Quiet.{or_nothing, object_left, edge_left, owner_left, takes_for, owner_not_new, erased_same, cut_same, each_same, each_edge, each_object}

-- what a part is calm about: the rules and the graph after the start, the job and its root, and the ids
pub record Part : Type 0 where
  pub rules : RuleSet
  pub graph : Graph
  pub job : ℕ
  pub root : ℕ
  pub ids : List ℕ

-- what holds of it throughout
pub record Whole (f : Part) : Type 0 where
  pub edges : (key : EdgeKey) → edge_stands f.graph key ≡ true → has f.ids key.from ≡ has f.ids key.to
  pub ends : EndsStand f.graph

-- the job owns the object, or erased it
abbrev pub had : Part → State → ℕ → Bool
had f t id = is_owned_by t f.job id || has_erased t f.job id

abbrev pub RowOf : Part → Item → Type 0
RowOf f it = eqb (job_of it) f.job ≡ true → IsRowOf f.graph it

-- the graph of the part is that after the start, without what the job erased and cut
pub record Kept (f : Part) (t : State) : Type 0 where
  pub below : f.job < t.len
  pub objects : (id : ℕ) → has f.ids id ≡ true → object_at t.graph id ≡ cond (has_erased t f.job id) None (object_at f.graph id)
  pub edges : (key : EdgeKey) (id : ℕ) → has f.ids id ≡ true → touches id key ≡ true → edge_at t.graph key ≡ cond (has_cut t f.job key) None (edge_at f.graph key)
  pub erased : (id : ℕ) → has_erased t f.job id ≡ true → (has f.ids id ≡ true) × (is_some (object_at f.graph id) ≡ true)
  pub cut : (key : EdgeKey) → has_cut t f.job key ≡ true → (edge_stands f.graph key ≡ true) × ((had f t key.from || had f t key.to) ≡ true)
  pub other : (id k : ℕ) → has f.ids id ≡ true → owner t id ≡ Some k → k ≡ f.job
  pub mine : (id : ℕ) → owner t id ≡ Some f.job → has f.ids id ≡ true
  pub rows : EachItem (λ l. RowOf f l.item) t.items

-- the job had the root, and only objects of the closure; each deep edge that it cut leads to one that it had, and a
-- counted object that it has not had has a reference left
pub record Running (f : Part) (t : State) : Type 0 where
  pub kept : Kept f t
  pub rules : t.rules ≡ f.rules
  pub begun : had f t f.root ≡ true
  pub within : (id : ℕ) → had f t id ≡ true → Closure f.rules f.graph f.root id
  pub deep : (key : EdgeKey) → has_cut t f.job key ≡ true → is_deep f.rules key.edge ≡ true → had f t key.to ≡ true
  pub refs : (id : ℕ) → has f.ids id ≡ true → has_refs f.rules f.graph id ≡ true → had f t id ≡ false → has_refs f.rules t.graph id ≡ true

-- an entry that takes nothing for the job and names none of the ids

same_owned : (s t : State) (job id : ℕ) → owner t id ≡ owner s id → is_owned_by t job id ≡ is_owned_by s job id
same_owned s t job id same = ap (is_job job) same

pub job_is : (job : ℕ) (o : Option ℕ) → is_job job o ≡ true → o ≡ Some job
job_is job None is = absurd (false≢true is)
job_is job (Some x) is = ap (λ (n : ℕ). Some n) (eqb-true x job is)

pub is_mine : (job : ℕ) (o : Option ℕ) → o ≡ Some job → is_job job o ≡ true
is_mine job None is = absurd (cc is)
is_mine job (Some x) is = eq-eqb x job (let same : x ≡ job = cc in same)

pub false_of : (b : Bool) → (b ≡ true → ⊥) → b ≡ false
false_of true no_way = absurd (no_way refl)
false_of false no_way = refl

-- an entry that takes for the job names one of its ids
mine_named : (f : Part) (s : State) (moment : ℕ) (what : What) → is_allowed s moment what ≡ true → Kept f s → ((id : ℕ) → has f.ids id ≡ true → names s what id ≡ false) → takes_for f.job what ≡ false
mine_named f s moment what line kept unnamed = false_of (takes_for f.job what) (by_what what line unnamed)
  where
    or_true : (a b : Bool) → (a ≡ true) ⊎ (b ≡ true) → (a || b) ≡ true
    or_true true b h = refl
    or_true false b h = elim h [ inl one ↦ absurd (false≢true one) | inr two ↦ two ]

    by_what : (w : What) → is_allowed s moment w ≡ true → ((id : ℕ) → has f.ids id ≡ true → names s w id ≡ false) → takes_for f.job w ≡ true → ⊥
    by_what (Cut which edge from to) line unnamed takes =
        let same : which ≡ f.job = eqb-true which f.job takes in
        let parts = and_parts (edge_stands s.graph (key_of edge from to)) (is_owned_by s which from || is_owned_by s which to) line in
        elim (or_cases (is_owned_by s which from) (is_owned_by s which to) parts.1) [
          | inl own ↦
              false≢true (sym (unnamed from (kept.mine from (owner_is s which from own ∙ ap (λ (n : ℕ). Some n) same))) ∙ or_true (eqb from from) (eqb to from) (inl (eq-eqb from from refl)))
          | inr own ↦
              false≢true (sym (unnamed to (kept.mine to (owner_is s which to own ∙ ap (λ (n : ℕ). Some n) same))) ∙ or_true (eqb from to) (eqb to to) (inr (eq-eqb to to refl)))
        ]
    by_what (Erase which gone) line unnamed takes =
        let same : which ≡ f.job = eqb-true which f.job takes in
        let own = (and_parts (is_owned_by s which gone) _ line).0 in
        false≢true (sym (unnamed gone (kept.mine gone (owner_is s which gone own ∙ ap (λ (n : ℕ). Some n) same))) ∙ eq-eqb gone gone refl)
    by_what what line unnamed takes = false≢true takes

pub had_same : (a b c d : Bool) → a ≡ b → c ≡ d → (a || c) ≡ (b || d)
had_same a b c d one two = ap (λ (x : Bool). x || c) one ∙ ap (λ (x : Bool). b || x) two

pub same_bool : (a b : Bool) → (a ≡ true → b ≡ true) → (b ≡ true → a ≡ true) → a ≡ b
same_bool true b one two = sym (one refl)
same_bool false true one two = two refl
same_bool false false one two = refl

-- a quiet entry: nothing that the facts speak of changes
pub record IsQuiet (f : Part) (s t : State) : Type 0 where
  pub later : s.len ≤ t.len
  pub objects : (id : ℕ) → has f.ids id ≡ true → object_at t.graph id ≡ object_at s.graph id
  pub edges : (key : EdgeKey) (id : ℕ) → has f.ids id ≡ true → touches id key ≡ true → edge_at t.graph key ≡ edge_at s.graph key
  pub owners : (id : ℕ) → has f.ids id ≡ true → owner t id ≡ owner s id
  pub no_new : (id : ℕ) → owner t id ≡ Some f.job → owner s id ≡ Some f.job
  pub erased : (id : ℕ) → has_erased t f.job id ≡ has_erased s f.job id
  pub cut : (key : EdgeKey) → has_cut t f.job key ≡ has_cut s f.job key

quiet_had : (f : Part) (s t : State) → Kept f s → IsQuiet f s t → (id : ℕ) → had f t id ≡ had f s id
quiet_had f s t kept quiet id =
    had_same _ _ _ _
    (same_bool (is_owned_by t f.job id) (is_owned_by s f.job id)
    (λ own. is_mine f.job (owner s id) (quiet.no_new id (job_is f.job (owner t id) own)))
    (λ own. ap (is_job f.job) (quiet.owners id (kept.mine id (job_is f.job (owner s id) own))) ∙ own))
    (quiet.erased id)

quiet_kept : (f : Part) (s t : State) → Kept f s → IsQuiet f s t → EachItem (λ l. RowOf f l.item) t.items → Kept f t
quiet_kept f s t kept quiet rows = record {
  below = omega (arith, kept.below, quiet.later);
  objects = λ id held. quiet.objects id held ∙ (kept.objects id held ∙ ap (λ (b : Bool). cond b None (object_at f.graph id)) (sym (quiet.erased id)));
  edges = λ key id held touched. quiet.edges key id held touched ∙ (kept.edges key id held touched ∙ ap (λ (b : Bool). cond b None (edge_at f.graph key)) (sym (quiet.cut key)));
  erased = λ id gone. kept.erased id (sym (quiet.erased id) ∙ gone);
  cut = λ key gone.
      let was = kept.cut key (sym (quiet.cut key) ∙ gone) in
      (was.0, had_same _ _ _ _ (quiet_had f s t kept quiet key.from) (quiet_had f s t kept quiet key.to) ∙ was.1);
  other = λ id k held own. kept.other id k held (sym (quiet.owners id held) ∙ own);
  mine = λ id own. kept.mine id (quiet.no_new id own);
  rows = rows;
}

pub any_refs : (rules : RuleSet) (id : ℕ) (xs : List EdgeRow) → list_any (is_reference rules id) xs ≡ true → (row : EdgeRow) × (find (is_reference rules id) xs ≡ Some row) × (is_reference rules id row ≡ true)
any_refs rules id [] some = absurd (false≢true some)
any_refs rules id (x ∷ xs) some = by_hit (is_reference rules id x) refl some (any_refs rules id xs)
  where
    by_hit : (b : Bool) → is_reference rules id x ≡ b → (b || list_any (is_reference rules id) xs) ≡ true →
        (list_any (is_reference rules id) xs ≡ true → (row : EdgeRow) × (find (is_reference rules id) xs ≡ Some row) × (is_reference rules id row ≡ true)) →
        (row : EdgeRow) × (cond b (Some x) (find (is_reference rules id) xs) ≡ Some row) × (is_reference rules id row ≡ true)
    by_hit true is here IH = (x, refl, is)
    by_hit false is here IH = IH here

pub row_found : (p : EdgeRow → Bool) (xs : List EdgeRow) (row : EdgeRow) → find p xs ≡ Some row → is_some (find (has_key row.key) xs) ≡ true
row_found p [] row found = absurd (cc found)
row_found p (x ∷ xs) row found = by_hit (p x) found (row_found p xs row)
  where
    some_more : (b : Bool) → is_some (find (has_key row.key) xs) ≡ true → is_some (cond b (Some x) (find (has_key row.key) xs)) ≡ true
    some_more true some = refl
    some_more false some = some

    by_hit : (b : Bool) → cond b (Some x) (find p xs) ≡ Some row → (find p xs ≡ Some row → is_some (find (has_key row.key) xs) ≡ true) → is_some (find (has_key row.key) (x ∷ xs)) ≡ true
    by_hit true here IH =
        let same : x ≡ row = cc in
        ap (λ (b : Bool). is_some (cond b (Some x) (find (has_key row.key) xs))) (ap (λ (r : EdgeRow). same_key r.key row.key) same ∙ same_key_refl row.key)
    by_hit false here IH = some_more (same_key x.key row.key) (IH here)

-- a reference is an edge that stands, and the other way round
pub record Reference (rules : RuleSet) (g : Graph) (id : ℕ) : Type 0 where
  pub key : EdgeKey
  pub stood : edge_stands g key ≡ true
  pub counted : is_refcount rules key.edge ≡ true
  pub to : key.to ≡ id

pub refs_from : (rules : RuleSet) (g : Graph) (id : ℕ) → has_refs rules g id ≡ true → Reference rules g id
refs_from rules g id some =
    let found = any_refs rules id g.edges some in
    let parts = and_parts (is_refcount rules found.0.key.edge) (eqb found.0.key.to id) found.2 in
    record { key = found.0.key; stood = row_found (is_reference rules id) g.edges found.0 found.1; counted = parts.0; to = eqb-true found.0.key.to id parts.1 }

refs_in : (rules : RuleSet) (id : ℕ) (key : EdgeKey) (xs : List EdgeRow) → is_some (find (has_key key) xs) ≡ true → is_refcount rules key.edge ≡ true → key.to ≡ id → list_any (is_reference rules id) xs ≡ true
refs_in rules id key [] some counted to = absurd (false≢true some)
refs_in rules id key (x ∷ xs) some counted to = by_hit (same_key x.key key) refl some (refs_in rules id key xs)
  where
    or_left : (a b : Bool) → a ≡ true → (a || b) ≡ true
    or_left true b is = refl
    or_left false b is = absurd (false≢true is)

    or_right : (a b : Bool) → b ≡ true → (a || b) ≡ true
    or_right true b is = refl
    or_right false b is = is

    by_hit : (b : Bool) → same_key x.key key ≡ b → is_some (cond b (Some x) (find (has_key key) xs)) ≡ true →
        (is_some (find (has_key key) xs) ≡ true → is_refcount rules key.edge ≡ true → key.to ≡ id → list_any (is_reference rules id) xs ≡ true) → list_any (is_reference rules id) (x ∷ xs) ≡ true
    by_hit true is here IH =
        or_left (is_reference rules id x) _
        (subst (λ (k : EdgeKey). (is_refcount rules k.edge && eqb k.to id) ≡ true) (sym (same_key_is x.key key is)) (and_from (is_refcount rules key.edge) (eqb key.to id) counted (eq-eqb key.to id to)))
    by_hit false is here IH = or_right (is_reference rules id x) _ (IH here counted to)

pub refs_to : (rules : RuleSet) (g : Graph) (id : ℕ) → Reference rules g id → has_refs rules g id ≡ true
refs_to rules g id ref = refs_in rules id ref.key g.edges ref.stood ref.counted ref.to

pub touches_to : (key : EdgeKey) (id : ℕ) → key.to ≡ id → touches id key ≡ true
touches_to key id is = or_right (eqb key.from id) (eqb key.to id) (eq-eqb key.to id is)
  where
    or_right : (a b : Bool) → b ≡ true → (a || b) ≡ true
    or_right true b h = refl
    or_right false b h = h

pub touches_from : (key : EdgeKey) (id : ℕ) → key.from ≡ id → touches id key ≡ true
touches_from key id is = or_left (eqb key.from id) (eqb key.to id) (eq-eqb key.from id is)
  where
    or_left : (a b : Bool) → a ≡ true → (a || b) ≡ true
    or_left true b h = refl
    or_left false b h = absurd (false≢true h)

pub quiet_running : (f : Part) (s t : State) → Running f s → IsQuiet f s t → t.rules ≡ s.rules → EachItem (λ l. RowOf f l.item) t.items → Running f t
quiet_running f s t running quiet same rows = record {
  kept = quiet_kept f s t running.kept quiet rows;
  rules = same ∙ running.rules;
  begun = quiet_had f s t running.kept quiet f.root ∙ running.begun;
  within = λ id held. running.within id (sym (quiet_had f s t running.kept quiet id) ∙ held);
  deep = λ key gone is. quiet_had f s t running.kept quiet key.to ∙ running.deep key (sym (quiet.cut key) ∙ gone) is;
  refs = λ id held some not_had.
      let ref = refs_from f.rules s.graph id (running.refs id held some (sym (quiet_had f s t running.kept quiet id) ∙ not_had)) in
      refs_to f.rules t.graph id (record {
        key = ref.key;
        counted = ref.counted;
        to = ref.to;
        stood = ap (λ (o : Option EdgeRow). is_some o) (quiet.edges ref.key id held (touches_to ref.key id ref.to)) ∙ ref.stood;
      });
}

-- an entry that names none of the ids is quiet
pub quiet_step : (f : Part) (s : State) (e : Entry) → Good s → is_legal s e ≡ true → Running f s → ((id : ℕ) → has f.ids id ≡ true → names s e.what id ≡ false) → Running f (step s e)
quiet_step f s e good legal running unnamed =
    quiet_running f s (step s e) running
    (record {
      later = later s.len;
      objects = λ id held. object_left s e.moment e.what id (unnamed id held);
      edges = λ key id held touched. edge_left s e.moment e.what id key touched (unnamed id held);
      owners = λ id held. plain id ∙ owner_left s e.what id (unnamed id held);
      no_new = λ id own. owner_not_new s e.what f.job id running.kept.below quiet (sym (plain id) ∙ own);
      erased = λ id. erased_same s e.what f.job id quiet;
      cut = λ key. cut_same s e.what f.job key quiet;
    })
    refl
    (each_same s e.what f.job (RowOf f) quiet (λ it apart same. absurd (false≢true (sym apart ∙ same))) running.kept.rows)
  where
    later : (n : ℕ) → n ≤ n + 1
    later n = omega arith

    quiet : takes_for f.job e.what ≡ false
    quiet = mine_named f s e.moment e.what (allowed_of s e legal) running.kept unnamed

    plain : (id : ℕ) → owner (step s e) id ≡ plain_owner s e.what id
    plain id = owner_plain s e.moment e.what legal good.owned_stand good.ends id
