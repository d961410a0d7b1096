-- A calm part, entry by entry: the graph of the part is that after the start, without what the job took and has not put back.
use Rattle.std.proofs.Common.{◌≡◌, ℕ, ◌+◌, ◌<◌, Bool, true, false, cond, not, ◌&&◌, ◌||◌, eqb, List, [], ◌∷◌, ◌++◌, Option, Some, None, refl, sym, ap, ◌∙◌, subst, arith, inl, inr}
use Rattle.std.proofs.lemmas.Bool.{and_parts, and_from, eqb-true, eq-eqb, false≢true, or_cases}
use Rattle.std.specs.Prelude.{is_some, is_none, slice_get}
use Rattle.std.specs.List.{list_any, list_all}
use Rattle.delf_model.specs.declared.rows.ObjectRow.{ObjectRow}
use Rattle.delf_model.specs.declared.rows.EdgeKey.{EdgeKey}
use Rattle.delf_model.specs.declared.rows.EdgeRow.{EdgeRow}
use Rattle.delf_model.specs.declared.rows.Item.{Item}
use Rattle.delf_model.specs.declared.rows.Item.TheVariants as item
use Rattle.delf_model.specs.declared.call.Cause.{Cause}
use Rattle.delf_model.specs.declared.call.Cause.TheVariants as cause
use Rattle.delf_model.specs.declared.entry.Entry.{Entry}
use Rattle.delf_model.specs.declared.entry.What.{What}
use Rattle.delf_model.specs.declared.entry.What.TheVariants.{Create, Update, Link, Unlink, Delete, Restore, Expire, Cut, Erase, Put, Purge}
use Rattle.delf_model.specs.Graph.{Graph, TakesEdge, changed, same_key, object_at, edge_at, edge_stands, stands, is_born_at, touches}
use Rattle.delf_model.specs.State.{State, Logged, Handled, owner, is_owned_by, job_of, is_restored}
use Rattle.delf_model.specs.Step.{step, items_after, edge_item, object_item, unhandled, handled_at, outcome, put_of_item, put_unless, put_change, birth_of, birth_of_row}
use Rattle.delf_model.specs.Owners.{key_of, condemns}
use Rattle.delf_model.specs.Puts.{judged, taken, end_cause, end_condemned, key_taken}
use Rattle.std.specs.Option.{option_or}
use Rattle.delf_model.specs.Legal.{is_legal, is_handled_end, end_handled, ends_handled}
use Rattle.delf_model.specs.Report.{was_listed}
use Rattle.delf_model.specs.Closure.{has, LeavesAlone, names, is_step_of, erased_item, cut_item}
use Rattle.delf_model.specs.Sound.{IsRowOf}
use Rattle.delf_model.proofs.Graphs.{find-put_object, find-filter_object, find-put_edge, find-filter_edge, same_key_is, same_key_refl}
use Rattle.delf_model.proofs.Lines.{allowed_of}
use Rattle.delf_model.proofs.Leaves.{owner_is}
use Rattle.delf_model.proofs.Owners.{found_id, found_key, stands_of}
use Rattle.delf_model.proofs.Plain.{plain_owner, owner_plain}
use Rattle.delf_model.proofs.Places.{EachItem, each_at, each_handled, each_weaken, HandledOf, MayPut, may_put_of}
use Rattle.delf_model.proofs.Good.{Good}
use Rattle.reach_laws.proofs.Quiet.{object_left, edge_left, owner_left, owner_not_new, foreign_erased, foreign_cut}
use Rattle.reach_laws.proofs.Kept.{Part, Whole, false_of, touches_to, touches_from}
use Rattle.reach_laws.proofs.Taken.{CutHere, cut_state}
use Rattle.reach_laws.proofs.Gone.{EraseHere, erased_state}
use Rattle.history_laws.proofs.Items.{ItemsChange, opens, passes, OnlyOf, Sole, items_change, any_push, any_push_miss, any_at, opens_other, opens_sole, sole_push, sole_handled, each_push, no_take, opens_same, sole_same, each_other}

-- an item of the job with this id, or with this key, that is not handled

abbrev pub open_object : State → ℕ → ℕ → Bool
open_object t job id = list_any (opens (erased_item job id)) t.items

abbrev pub open_edge : State → ℕ → EdgeKey → Bool
open_edge t job key = list_any (opens (cut_item job key)) t.items

-- the ids of an item are of the part
abbrev pub InPart : Part → Item → Type 0
InPart f (item.Object job row) = has f.ids row.id ≡ true
InPart f (item.Edge job row from_birth to_birth) = (has f.ids row.key.from ≡ true) × (has f.ids row.key.to ≡ true)

-- an item of the job is a row of the graph after the start, of the part, and is not listed
abbrev pub OwnItem : Part → Logged → Type 0
OwnItem f l = eqb (job_of l.item) f.job ≡ true → IsRowOf f.graph l.item × InPart f l.item × (was_listed l.handled ≡ false)

pub record Back (f : Part) (t : State) : Type 0 where
  pub below : f.job < t.len
  pub objects : (id : ℕ) → has f.ids id ≡ true → object_at t.graph id ≡ cond (open_object t f.job id) None (object_at f.graph id)
  pub edges : (key : EdgeKey) (id : ℕ) → has f.ids id ≡ true → touches id key ≡ true → edge_at t.graph key ≡ cond (open_edge t f.job key) None (edge_at f.graph key)
  pub other : (id k : ℕ) → has f.ids id ≡ true → owner t id ≡ Some k → k ≡ f.job
  pub mine : (id : ℕ) → owner t id ≡ Some f.job → has f.ids id ≡ true
  pub items : EachItem (OwnItem f) t.items
  pub one_object : (id : ℕ) → Sole (erased_item f.job id) t.items
  pub one_edge : (key : EdgeKey) → Sole (cut_item f.job key) t.items

-- an entry that is no step of the job and names none of the ids
quiet_back : (f : Part) (s : State) (e : Entry) → Good s → is_legal s e ≡ true → Back f s → is_step_of f.job e.what ≡ false → ((id : ℕ) → has f.ids id ≡ true → names s e.what id ≡ false) → Back f (step s e)
quiet_back f s e good legal back none unnamed = record {
  below = later f.job s.len back.below;
  objects = λ id held.
      object_left s e.moment e.what id (unnamed id held) ∙
      (back.objects id held ∙ ap (λ (b : Bool). cond b None (object_at f.graph id)) (sym (opens_same s e.what f.job (erased_item f.job id) change none (foreign_erased f.job id))));
  edges = λ key id held touched.
      edge_left s e.moment e.what id key touched (unnamed id held) ∙
      (back.edges key id held touched ∙ ap (λ (b : Bool). cond b None (edge_at f.graph key)) (sym (opens_same s e.what f.job (cut_item f.job key) change none (foreign_cut f.job key))));
  other = λ id k held own. back.other id k held (sym (plain id ∙ owner_left s e.what id (unnamed id held)) ∙ own);
  mine = λ id own. back.mine id (owner_not_new s e.what f.job id back.below (no_take e.what f.job none) (sym (plain id) ∙ own));
  items = each_other s e.what f.job (OwnItem f) change none (λ l apart same. absurd (false≢true (sym apart ∙ same))) back.items;
  one_object = λ id. sole_same s e.what f.job (erased_item f.job id) change none (foreign_erased f.job id) (back.one_object id);
  one_edge = λ key. sole_same s e.what f.job (cut_item f.job key) change none (foreign_cut f.job key) (back.one_edge key);
}
  where
    later : (a b : ℕ) → a < b → a < b + 1
    later a b h = omega arith

    change : ItemsChange s e.what
    change = items_change s e.moment e.what (allowed_of s e legal) good.owned_stand

    plain : (id : ℕ) → owner (step s e) id ≡ plain_owner s e.what id
    plain id = owner_plain s e.moment e.what legal good.owned_stand good.ends id

-- what the job took while it is not restored is not handled

any_opens : (q : Item → Bool) (xs : List Logged) → EachItem (λ l. q l.item ≡ true → is_none l.handled ≡ true) xs → list_any (passes q) xs ≡ true → list_any (opens q) xs ≡ true
any_opens q [] each some = absurd (false≢true some)
any_opens q (x ∷ xs) each some = both (is_none x.handled) (q x.item) (list_any (passes q) xs) (list_any (opens q) xs) each.0 (any_opens q xs each.1) some
  where
    both : (h a b c : Bool) → (a ≡ true → h ≡ true) → (b ≡ true → c ≡ true) → (a || b) ≡ true → ((h && a) || c) ≡ true
    both true true b c one IH some = refl
    both false true b c one IH some = absurd (false≢true (one refl))
    both true false b c one IH some = IH some
    both false false b c one IH some = IH some

not_handled : (s : State) (job : ℕ) (q : Item → Bool) → Good s → is_restored s.jobs job ≡ false → OnlyOf job q → EachItem (λ l. q l.item ≡ true → is_none l.handled ≡ true) s.items
not_handled s job q good idle only = each_weaken (HandledOf s.jobs) (λ l. q l.item ≡ true → is_none l.handled ≡ true) s.items one good.handled
  where
    one : (l : Logged) → HandledOf s.jobs l → q l.item ≡ true → is_none l.handled ≡ true
    one l handled hit = by_job (eqb (job_of l.item) job) refl
      where
        by_handled : (h : Option Handled) → (is_some h ≡ true → is_restored s.jobs (job_of l.item) ≡ true) → job_of l.item ≡ job → is_none h ≡ true
        by_handled None was same = refl
        by_handled (Some how) was same = absurd (false≢true (sym idle ∙ subst (λ (j : ℕ). is_restored s.jobs j ≡ true) same (was refl)))

        by_job : (b : Bool) → eqb (job_of l.item) job ≡ b → is_none l.handled ≡ true
        by_job true is = by_handled l.handled handled (eqb-true (job_of l.item) job is)
        by_job false is = absurd (false≢true (sym (only l.item is) ∙ hit))

idle_now : (s : State) (job id : ℕ) → Good s → owner s id ≡ Some job → is_restored s.jobs job ≡ false
idle_now s job id good own = false_of (is_restored s.jobs job) (λ restored. good.idle job id restored own)

-- while the job owns something, what is not open was not taken
not_taken : (s : State) (job id : ℕ) (q : Item → Bool) → Good s → owner s id ≡ Some job → OnlyOf job q → list_any (opens q) s.items ≡ false → list_any (passes q) s.items ≡ false
not_taken s job id q good own only none =
    false_of (list_any (passes q) s.items) (λ some. false≢true (sym none ∙ any_opens q s.items (not_handled s job q good (idle_now s job id good own) only) some))

stood_cond : {A : Type 0} (b : Bool) (o p : Option A) → p ≡ cond b None o → is_some p ≡ true → (b ≡ false) × (o ≡ p)
stood_cond true o p is some = absurd (false≢true (sym (ap (λ (x : Option _). is_some x) is) ∙ some))
stood_cond false o p is some = (refl, sym is)

some_edge : (o : Option EdgeRow) → is_some o ≡ true → (row : EdgeRow) × (o ≡ Some row)
some_edge None some = absurd (false≢true some)
some_edge (Some row) some = (row, refl)

some_object : (o : Option ObjectRow) → is_some o ≡ true → (row : ObjectRow) × (o ≡ Some row)
some_object None some = absurd (false≢true some)
some_object (Some row) some = (row, refl)

twice_none : {A : Type 0} (a b : Bool) (o : Option A) → cond a None (cond b None o) ≡ cond (b || a) None o
twice_none true true o = refl
twice_none true false o = refl
twice_none false true o = refl
twice_none false false o = refl

and_one : (a b : Bool) → a ≡ true → (a && b) ≡ b
and_one true b is = refl
and_one false b is = absurd (false≢true is)

-- a cut of the job

-- the edge was not cut before
pub record CutNow (f : Part) (s : State) (key : EdgeKey) : Type 0 where
  pub here : CutHere f s key
  pub first : list_any (passes (cut_item f.job key)) s.items ≡ false

pub cut_now : (f : Part) (s : State) (key : EdgeKey) → Whole f → Good s → Back f s → edge_stands s.graph key ≡ true → (is_owned_by s f.job key.from || is_owned_by s f.job key.to) ≡ true → CutNow f s key
cut_now f s key whole good back stood own =
    elim (or_cases (is_owned_by s f.job key.from) (is_owned_by s f.job key.to) own) [
      | inl from ↦ by_end key.from (owner_is s f.job key.from from) (touches_from key key.from refl)
      | inr to ↦ by_end key.to (owner_is s f.job key.to to) (touches_to key key.to refl)
    ]
  where
    by_end : (id : ℕ) → owner s id ≡ Some f.job → touches id key ≡ true → CutNow f s key
    by_end id mine touched =
        let held = back.mine id mine in
        let found = some_edge (edge_at s.graph key) stood in
        let was = stood_cond (open_edge s f.job key) (edge_at f.graph key) (edge_at s.graph key) (back.edges key id held touched) stood in
        let in_part : edge_at f.graph key ≡ Some found.0 = was.1 ∙ found.1 in
        let same : has f.ids key.from ≡ has f.ids key.to = whole.edges key (ap (λ (o : Option EdgeRow). is_some o) in_part) in
        let ends = both id (eqb key.from id) refl (eqb key.to id) refl held touched same in
        record {
          here = record { row = found.0; at = found.1; in_part = in_part; source = ends.0; target = ends.1; end_owned = own };
          first = not_taken s f.job id (cut_item f.job key) good mine (foreign_cut f.job key) was.0;
        }
      where
        both : (x : ℕ) (a : Bool) → eqb key.from x ≡ a → (b : Bool) → eqb key.to x ≡ b → has f.ids x ≡ true → (a || b) ≡ true → has f.ids key.from ≡ has f.ids key.to →
            (has f.ids key.from ≡ true) × (has f.ids key.to ≡ true)
        both x true at b to held touched same =
            let one : has f.ids key.from ≡ true = subst (λ (n : ℕ). has f.ids n ≡ true) (sym (eqb-true key.from x at)) held in (one, sym same ∙ one)
        both x false at true to held touched same =
            let one : has f.ids key.to ≡ true = subst (λ (n : ℕ). has f.ids n ≡ true) (sym (eqb-true key.to x to)) held in (same ∙ one, one)
        both x false at false to held touched same = absurd (false≢true touched)

-- an end stands in the part as it did after the start
end_stands : (f : Part) (s : State) (id : ℕ) → Back f s → has f.ids id ≡ true → is_some (object_at s.graph id) ≡ true → stands f.graph id (birth_of s.graph id) ≡ true
end_stands f s id back held some =
    let was = stood_cond (open_object s f.job id) (object_at f.graph id) (object_at s.graph id) (back.objects id held) some in
    let found = some_object (object_at s.graph id) some in
    subst (λ (n : ℕ). stands f.graph id n ≡ true) (sym (ap birth_of_row found.1)) (stands_of f.graph id found.0 (was.1 ∙ found.1))

cut_back : (f : Part) (s : State) (moment : ℕ) (key : EdgeKey) → Good s → is_legal s (record { moment = moment; what = Cut f.job key.edge key.from key.to }) ≡ true → CutNow f s key → Back f s → Back f (cut_state f s moment key)
cut_back f s moment key good legal now back = record {
  below = later f.job s.len back.below;
  objects = λ id held. back.objects id held ∙ ap (λ (b : Bool). cond b None (object_at f.graph id)) (sym (object_pushed id));
  edges = λ k id held touched.
      find-filter_edge key s.graph.edges k ∙
      (ap (λ (o : Option EdgeRow). cond (same_key key k) None o) (back.edges k id held touched) ∙
      (twice_none (same_key key k) (open_edge s f.job k) (edge_at f.graph k) ∙ ap (λ (b : Bool). cond b None (edge_at f.graph k)) (sym (edge_pushed k))));
  other = λ id k held own. by_hit id k held (gets id) (sym (plain id) ∙ own);
  mine = λ id own. mine_hit id (gets id) refl (sym (plain id) ∙ own);
  items = subst (λ (xs : List Logged). EachItem (OwnItem f) xs) (sym pushed) (each_push (OwnItem f) s.items (unhandled new_item) back.items (λ same. (row_of, in_part, refl)));
  one_object = λ id.
      subst (λ (xs : List Logged). Sole (erased_item f.job id) xs) (sym pushed)
      (sole_push (erased_item f.job id) s.items (unhandled new_item) (λ is. absurd (false≢true is)) (back.one_object id));
  one_edge = λ k.
      subst (λ (xs : List Logged). Sole (cut_item f.job k) xs) (sym pushed)
      (sole_push (cut_item f.job k) s.items (unhandled new_item) (λ is. first_of k (sym (hits k) ∙ is)) (back.one_edge k));
}
  where
    later : (a b : ℕ) → a < b → a < b + 1
    later a b h = omega arith

    row : EdgeRow
    row = now.here.row

    row_key : now.here.row.key ≡ key
    row_key = found_key s.graph.edges key now.here.row now.here.at

    new_item : Item
    new_item = item.Edge f.job now.here.row (birth_of s.graph now.here.row.key.from) (birth_of s.graph now.here.row.key.to)

    pushed : items_after s (Cut f.job key.edge key.from key.to) ≡ s.items ++ unhandled new_item ∷ []
    pushed = ap (λ (o : Option EdgeRow). s.items ++ edge_item s.graph f.job o) now.here.at

    hits : (k : EdgeKey) → cut_item f.job k new_item ≡ same_key key k
    hits k = and_one (eqb f.job f.job) (same_key now.here.row.key k) (eq-eqb f.job f.job refl) ∙ ap (λ (x : EdgeKey). same_key x k) row_key

    edge_pushed : (k : EdgeKey) → open_edge (cut_state f s moment key) f.job k ≡ (open_edge s f.job k || same_key key k)
    edge_pushed k =
        ap (λ (xs : List Logged). list_any (opens (cut_item f.job k)) xs) pushed ∙
        (any_push (opens (cut_item f.job k)) s.items (unhandled new_item) ∙ ap (λ (b : Bool). open_edge s f.job k || b) (hits k))

    object_pushed : (id : ℕ) → open_object (cut_state f s moment key) f.job id ≡ open_object s f.job id
    object_pushed id =
        ap (λ (xs : List Logged). list_any (opens (erased_item f.job id)) xs) pushed ∙ any_push_miss (opens (erased_item f.job id)) s.items (unhandled new_item) refl

    first_of : (k : EdgeKey) → same_key key k ≡ true → list_any (passes (cut_item f.job k)) s.items ≡ false
    first_of k same = subst (λ (x : EdgeKey). list_any (passes (cut_item f.job x)) s.items ≡ false) (same_key_is key k same) now.first

    stands_now : edge_stands s.graph key ≡ true
    stands_now = ap (λ (o : Option EdgeRow). is_some o) now.here.at

    row_of : IsRowOf f.graph new_item
    row_of = (
      subst (λ (k : EdgeKey). edge_at f.graph k ≡ Some now.here.row) (sym row_key) now.here.in_part,
      subst (λ (k : EdgeKey). stands f.graph k.from (birth_of s.graph k.from) ≡ true) (sym row_key) (end_stands f s key.from back now.here.source (good.ends.source key stands_now)),
      subst (λ (k : EdgeKey). stands f.graph k.to (birth_of s.graph k.to) ≡ true) (sym row_key) (end_stands f s key.to back now.here.target (good.ends.target key stands_now)),
    )

    in_part : InPart f new_item
    in_part = (
      subst (λ (k : EdgeKey). has f.ids k.from ≡ true) (sym row_key) now.here.source,
      subst (λ (k : EdgeKey). has f.ids k.to ≡ true) (sym row_key) now.here.target,
    )

    gets : ℕ → Bool
    gets id = eqb key.to id && is_none (owner s key.to) && condemns s.rules (changed s.graph (TakesEdge key)) key

    plain : (id : ℕ) → owner (cut_state f s moment key) id ≡ cond (gets id) (Some f.job) (owner s id)
    plain id = owner_plain s moment (Cut f.job key.edge key.from key.to) legal good.owned_stand good.ends id

    by_hit : (id k : ℕ) → has f.ids id ≡ true → (b : Bool) → cond b (Some f.job) (owner s id) ≡ Some k → k ≡ f.job
    by_hit id k held true own = let same : f.job ≡ k = cc in sym same
    by_hit id k held false own = back.other id k held own

    mine_hit : (id : ℕ) (b : Bool) → gets id ≡ b → cond b (Some f.job) (owner s id) ≡ Some f.job → has f.ids id ≡ true
    mine_hit id true is own =
        let front = and_parts (eqb key.to id && is_none (owner s key.to)) (condemns s.rules (changed s.graph (TakesEdge key)) key) is in
        subst (λ (n : ℕ). has f.ids n ≡ true) (eqb-true key.to id (and_parts (eqb key.to id) (is_none (owner s key.to)) front.0).0) now.here.target
    mine_hit id false is own = back.mine id own

-- an erasure of the job

-- the object was not erased before
pub record EraseNow (f : Part) (s : State) (gone : ℕ) : Type 0 where
  pub here : EraseHere f s gone
  pub first : list_any (passes (erased_item f.job gone)) s.items ≡ false

pub erase_now : (f : Part) (s : State) (gone : ℕ) → Good s → Back f s → is_owned_by s f.job gone ≡ true → EraseNow f s gone
erase_now f s gone good back own =
    let mine = owner_is s f.job gone own in
    let found = some_object (object_at s.graph gone) (good.owned_stand gone f.job mine) in
    let held = back.mine gone mine in
    let was = stood_cond (open_object s f.job gone) (object_at f.graph gone) (object_at s.graph gone) (back.objects gone held) (ap (λ (o : Option ObjectRow). is_some o) found.1) in
    record {
      here = record { row = found.0; at = found.1; own = mine; held = held; in_part = was.1 ∙ found.1 };
      first = not_taken s f.job gone (erased_item f.job gone) good mine (foreign_erased f.job gone) was.0;
    }

erase_back : (f : Part) (s : State) (moment gone : ℕ) → Good s → is_legal s (record { moment = moment; what = Erase f.job gone }) ≡ true → EraseNow f s gone → Back f s → Back f (erased_state f s moment gone)
erase_back f s moment gone good legal now back = record {
  below = later f.job s.len back.below;
  objects = λ id held.
      find-filter_object gone s.graph.objects id ∙
      (ap (λ (o : Option ObjectRow). cond (eqb gone id) None o) (back.objects id held) ∙
      (twice_none (eqb gone id) (open_object s f.job id) (object_at f.graph id) ∙ ap (λ (b : Bool). cond b None (object_at f.graph id)) (sym (object_pushed id))));
  edges = λ k id held touched. back.edges k id held touched ∙ ap (λ (b : Bool). cond b None (edge_at f.graph k)) (sym (edge_pushed k));
  other = λ id k held own. back.other id k held (left (eqb gone id) k (owner s id) (sym (plain id) ∙ own));
  mine = λ id own. back.mine id (left (eqb gone id) f.job (owner s id) (sym (plain id) ∙ own));
  items = subst (λ (xs : List Logged). EachItem (OwnItem f) xs) (sym pushed) (each_push (OwnItem f) s.items (unhandled new_item) back.items (λ same. (row_of, in_part, refl)));
  one_object = λ id.
      subst (λ (xs : List Logged). Sole (erased_item f.job id) xs) (sym pushed)
      (sole_push (erased_item f.job id) s.items (unhandled new_item) (λ is. first_of id (eqb-true gone id (sym (hits id) ∙ is))) (back.one_object id));
  one_edge = λ k.
      subst (λ (xs : List Logged). Sole (cut_item f.job k) xs) (sym pushed)
      (sole_push (cut_item f.job k) s.items (unhandled new_item) (λ is. absurd (false≢true is)) (back.one_edge k));
}
  where
    later : (a b : ℕ) → a < b → a < b + 1
    later a b h = omega arith

    left : (b : Bool) (job : ℕ) (o : Option ℕ) → cond b None o ≡ Some job → o ≡ Some job
    left true job o own = absurd (cc own)
    left false job o own = own

    row_id : now.here.row.id ≡ gone
    row_id = found_id s.graph.objects gone now.here.row now.here.at

    new_item : Item
    new_item = item.Object f.job now.here.row

    pushed : items_after s (Erase f.job gone) ≡ s.items ++ unhandled new_item ∷ []
    pushed = ap (λ (o : Option ObjectRow). s.items ++ object_item f.job o) now.here.at

    hits : (id : ℕ) → erased_item f.job id new_item ≡ eqb gone id
    hits id = and_one (eqb f.job f.job) (eqb now.here.row.id id) (eq-eqb f.job f.job refl) ∙ ap (λ (n : ℕ). eqb n id) row_id

    object_pushed : (id : ℕ) → open_object (erased_state f s moment gone) f.job id ≡ (open_object s f.job id || eqb gone id)
    object_pushed id =
        ap (λ (xs : List Logged). list_any (opens (erased_item f.job id)) xs) pushed ∙
        (any_push (opens (erased_item f.job id)) s.items (unhandled new_item) ∙ ap (λ (b : Bool). open_object s f.job id || b) (hits id))

    edge_pushed : (k : EdgeKey) → open_edge (erased_state f s moment gone) f.job k ≡ open_edge s f.job k
    edge_pushed k =
        ap (λ (xs : List Logged). list_any (opens (cut_item f.job k)) xs) pushed ∙ any_push_miss (opens (cut_item f.job k)) s.items (unhandled new_item) refl

    first_of : (id : ℕ) → gone ≡ id → list_any (passes (erased_item f.job id)) s.items ≡ false
    first_of id same = subst (λ (n : ℕ). list_any (passes (erased_item f.job n)) s.items ≡ false) same now.first

    row_of : object_at f.graph now.here.row.id ≡ Some now.here.row
    row_of = subst (λ (n : ℕ). object_at f.graph n ≡ Some now.here.row) (sym row_id) now.here.in_part

    in_part : has f.ids now.here.row.id ≡ true
    in_part = subst (λ (n : ℕ). has f.ids n ≡ true) (sym row_id) now.here.held

    plain : (id : ℕ) → owner (erased_state f s moment gone) id ≡ cond (eqb gone id) None (owner s id)
    plain id = owner_plain s moment (Erase f.job gone) legal good.owned_stand good.ends id

-- a put of the job

-- an end whose object items are handled stands as it did after the start
end_closed : (f : Part) (id birth : ℕ) (xs : List Logged) → stands f.graph id birth ≡ true → end_handled xs f.job id birth ≡ true → EachItem (OwnItem f) xs → list_any (opens (erased_item f.job id)) xs ≡ false
end_closed f id birth [] stood all each = refl
end_closed f id birth (x ∷ xs) stood all each =
    let parts = and_parts (is_handled_end f.job id birth x) (list_all (is_handled_end f.job id birth) xs) all in
    both (opens (erased_item f.job id) x) (list_any (opens (erased_item f.job id)) xs) (by_item x.item x.handled parts.0 each.0) (end_closed f id birth xs stood parts.1 each.1)
  where
    both : (a b : Bool) → a ≡ false → b ≡ false → (a || b) ≡ false
    both true b one two = one
    both false b one two = two

    by_handled : (a b c : Bool) (h : Option Handled) → (a ≡ true → b ≡ true → c ≡ true) → (not (a && b && c) || is_some h) ≡ true → (is_none h && (a && b)) ≡ false
    by_handled a b c (Some how) born all = refl
    by_handled false b c None born all = refl
    by_handled true false c None born all = refl
    by_handled true true true None born all = absurd (false≢true all)
    by_handled true true false None born all = absurd (false≢true (born refl refl))

    by_item : (it : Item) (h : Option Handled) → is_handled_end f.job id birth (record { item = it; handled = h }) ≡ true → OwnItem f (record { item = it; handled = h }) →
        opens (erased_item f.job id) (record { item = it; handled = h }) ≡ false
    by_item (item.Object job row) h all own = by_handled (eqb job f.job) (eqb row.id id) (eqb row.birth birth) h (λ is here. born is here) all
      where
        born : eqb job f.job ≡ true → eqb row.id id ≡ true → eqb row.birth birth ≡ true
        born is here =
            let at : object_at f.graph id ≡ Some row = subst (λ (n : ℕ). object_at f.graph n ≡ Some row) (eqb-true row.id id here) (own is).0 in
            sym (ap (λ (o : Option ObjectRow). is_born_at birth o) at) ∙ stood
    by_item (item.Edge job row from_birth to_birth) None all own = refl
    by_item (item.Edge job row from_birth to_birth) (Some how) all own = refl

-- what a put of the job finds: its item, which is put back
pub record PutNow (f : Part) (s : State) (i : ℕ) : Type 0 where
  pub logged : Logged
  pub at : slice_get s.items i ≡ Some logged
  pub mine : eqb (job_of logged.item) f.job ≡ true
  pub row_of : IsRowOf f.graph logged.item
  pub in_part : InPart f logged.item
  pub fits : judged s logged.item ≡ None

no_object : (o : Option ObjectRow) → o ≡ None → taken o ≡ None
no_object None is = refl
no_object (Some row) is = absurd (cc is)

no_edge : (o : Option EdgeRow) → o ≡ None → key_taken o ≡ None
no_edge None is = refl
no_edge (Some row) is = absurd (cc is)

no_end : (s : State) (id birth : ℕ) → stands s.graph id birth ≡ true → owner s id ≡ None → end_cause s id birth ≡ None
no_end s id birth stood free =
    ap (λ (b : Bool). cond b (end_condemned id (owner s id)) (Some (cause.EndMissing id))) stood ∙ ap (end_condemned id) free

no_cause : (a b c : Option Cause) → a ≡ None → b ≡ None → c ≡ None → option_or a (option_or b c) ≡ None
no_cause None None c one two three = three
no_cause None (Some x) c one two three = two
no_cause (Some x) b c one two three = one

no_owner : (f : Part) (s : State) (id : ℕ) → Back f s → ((x : ℕ) → owner s x ≡ Some f.job → ⊥) → has f.ids id ≡ true → owner s id ≡ None
no_owner f s id back none held = by_owner (owner s id) refl
  where
    by_owner : (o : Option ℕ) → owner s id ≡ o → o ≡ None
    by_owner None is = refl
    by_owner (Some k) is = absurd (none id (is ∙ ap (λ (n : ℕ). Some n) (back.other id k held is)))

-- an item that is open is put back
item_fits : (f : Part) (s : State) (i : ℕ) (it : Item) (h : Option Handled) → slice_get s.items i ≡ Some (record { item = it; handled = h }) → is_none h ≡ true → eqb (job_of it) f.job ≡ true →
    IsRowOf f.graph it → InPart f it → ends_handled s.items it ≡ true → Back f s → ((x : ℕ) → owner s x ≡ Some f.job → ⊥) → judged s it ≡ None
item_fits f s i (item.Object job row) h at waits same row_of in_part ends back none =
    no_object (object_at s.graph row.id)
    (back.objects row.id in_part ∙
    ap (λ (b : Bool). cond b None (object_at f.graph row.id))
    (any_at (opens (erased_item f.job row.id)) s.items i (record { item = item.Object job row; handled = h }) at
    (and_from (is_none h) (eqb job f.job && eqb row.id row.id) waits (and_from (eqb job f.job) (eqb row.id row.id) same (eq-eqb row.id row.id refl)))))
item_fits f s i (item.Edge job row from_birth to_birth) h at waits same row_of in_part ends back none =
    let parts = and_parts (end_handled s.items job row.key.from from_birth) (end_handled s.items job row.key.to to_birth) ends in
    no_cause (end_cause s row.key.from from_birth) (end_cause s row.key.to to_birth) (key_taken (edge_at s.graph row.key))
    (no_end s row.key.from from_birth (stands_now row.key.from from_birth in_part.0 row_of.1 parts.0) (no_owner f s row.key.from back none in_part.0))
    (no_end s row.key.to to_birth (stands_now row.key.to to_birth in_part.1 row_of.2 parts.1) (no_owner f s row.key.to back none in_part.1))
    (no_edge (edge_at s.graph row.key)
    (back.edges row.key row.key.from in_part.0 (touches_from row.key row.key.from refl) ∙
    ap (λ (b : Bool). cond b None (edge_at f.graph row.key))
    (any_at (opens (cut_item f.job row.key)) s.items i (record { item = item.Edge job row from_birth to_birth; handled = h }) at
    (and_from (is_none h) (eqb job f.job && same_key row.key row.key) waits (and_from (eqb job f.job) (same_key row.key row.key) same (same_key_refl row.key))))))
  where
    stands_now : (id birth : ℕ) → has f.ids id ≡ true → stands f.graph id birth ≡ true → end_handled s.items job id birth ≡ true → stands s.graph id birth ≡ true
    stands_now id birth held stood all =
        let closed : open_object s f.job id ≡ false = end_closed f id birth s.items stood (subst (λ (j : ℕ). end_handled s.items j id birth ≡ true) (eqb-true job f.job same) all) back.items in
        ap (λ (o : Option ObjectRow). is_born_at birth o) (back.objects id held ∙ ap (λ (b : Bool). cond b None (object_at f.graph id)) closed) ∙ stood

pub put_now : (f : Part) (s : State) (i : ℕ) → Good s → Back f s → MayPut s f.job i → PutNow f s i
put_now f s i good back may =
    let same : eqb (job_of may.logged.item) f.job ≡ true = eq-eqb (job_of may.logged.item) f.job may.of_job in
    let own = each_at (OwnItem f) s.items i may.logged back.items may.at same in
    let restored : is_restored s.jobs f.job ≡ true = subst (λ (j : ℕ). is_restored s.jobs j ≡ true) may.of_job may.restored in
    record {
      logged = may.logged;
      at = may.at;
      mine = same;
      row_of = own.0;
      in_part = own.1;
      fits = item_fits f s i may.logged.item may.logged.handled may.at may.waiting same own.0 own.1 may.ends back (λ x mine. good.idle f.job x restored mine);
    }

-- the state after the job's put
abbrev pub put_state : Part → State → ℕ → ℕ → State
put_state f s moment i = step s (record { moment = moment; what = Put f.job i })

put_graph : (s : State) (i : ℕ) (l : Logged) → slice_get s.items i ≡ Some l → judged s l.item ≡ None → changed s.graph (put_change s (slice_get s.items i)) ≡ changed s.graph (put_of_item l.item)
put_graph s i l at fits =
    ap (λ (o : Option Logged). changed s.graph (put_change s o)) at ∙ ap (λ (o : Option Cause). changed s.graph (put_unless o l.item)) fits

-- a look-up by a test that the put item passes, or not
by_put : {A : Type 0} (hit before now : Bool) (row now_at was_at in_part : Option A) → now_at ≡ cond hit row was_at → was_at ≡ cond before None in_part →
    (hit ≡ true → (now ≡ false) × (in_part ≡ row)) → (hit ≡ false → now ≡ before) → now_at ≡ cond now None in_part
by_put true before now row now_at was_at in_part at was put apart =
    let here = put refl in at ∙ (sym here.1 ∙ ap (λ (b : Bool). cond b None in_part) (sym here.0))
by_put false before now row now_at was_at in_part at was put apart = at ∙ (was ∙ ap (λ (b : Bool). cond b None in_part) (sym (apart refl)))

put_objects : (f : Part) (s : State) (i : ℕ) (how : Handled) (it : Item) (h : Option Handled) → slice_get s.items i ≡ Some (record { item = it; handled = h }) → eqb (job_of it) f.job ≡ true → IsRowOf f.graph it → Back f s →
    (id : ℕ) → has f.ids id ≡ true → object_at (changed s.graph (put_of_item it)) id ≡ cond (list_any (opens (erased_item f.job id)) (handled_at s.items i how)) None (object_at f.graph id)
put_objects f s i how (item.Edge job row from_birth to_birth) h at same row_of back id held =
    back.objects id held ∙
    ap (λ (b : Bool). cond b None (object_at f.graph id)) (sym (opens_other (erased_item f.job id) s.items i how (record { item = item.Edge job row from_birth to_birth; handled = h }) at refl))
put_objects f s i how (item.Object job row) h at same row_of back id held =
    by_put (eqb row.id id) (open_object s f.job id) (list_any (opens (erased_item f.job id)) (handled_at s.items i how)) (Some row) _ (object_at s.graph id) (object_at f.graph id)
    (find-put_object row s.graph.objects id) (back.objects id held)
    (λ is. (
      opens_sole (erased_item f.job id) s.items i how (record { item = item.Object job row; handled = h }) at (and_from (eqb job f.job) (eqb row.id id) same is) (back.one_object id),
      subst (λ (n : ℕ). object_at f.graph n ≡ Some row) (eqb-true row.id id is) row_of,
    ))
    (λ is. opens_other (erased_item f.job id) s.items i how (record { item = item.Object job row; handled = h }) at (and_one (eqb job f.job) (eqb row.id id) same ∙ is))

put_edges : (f : Part) (s : State) (i : ℕ) (how : Handled) (it : Item) (h : Option Handled) → slice_get s.items i ≡ Some (record { item = it; handled = h }) → eqb (job_of it) f.job ≡ true → IsRowOf f.graph it → Back f s →
    (key : EdgeKey) (id : ℕ) → has f.ids id ≡ true → touches id key ≡ true → edge_at (changed s.graph (put_of_item it)) key ≡ cond (list_any (opens (cut_item f.job key)) (handled_at s.items i how)) None (edge_at f.graph key)
put_edges f s i how (item.Object job row) h at same row_of back key id held touched =
    back.edges key id held touched ∙
    ap (λ (b : Bool). cond b None (edge_at f.graph key)) (sym (opens_other (cut_item f.job key) s.items i how (record { item = item.Object job row; handled = h }) at refl))
put_edges f s i how (item.Edge job row from_birth to_birth) h at same row_of back key id held touched =
    by_put (same_key row.key key) (open_edge s f.job key) (list_any (opens (cut_item f.job key)) (handled_at s.items i how)) (Some row) _ (edge_at s.graph key) (edge_at f.graph key)
    (find-put_edge row s.graph.edges key) (back.edges key id held touched)
    (λ is. (
      opens_sole (cut_item f.job key) s.items i how (record { item = item.Edge job row from_birth to_birth; handled = h }) at (and_from (eqb job f.job) (same_key row.key key) same is) (back.one_edge key),
      subst (λ (k : EdgeKey). edge_at f.graph k ≡ Some row) (same_key_is row.key key is) row_of.0,
    ))
    (λ is. opens_other (cut_item f.job key) s.items i how (record { item = item.Edge job row from_birth to_birth; handled = h }) at (and_one (eqb job f.job) (same_key row.key key) same ∙ is))

put_back : (f : Part) (s : State) (moment i : ℕ) → Good s → is_legal s (record { moment = moment; what = Put f.job i }) ≡ true → PutNow f s i → Back f s → Back f (put_state f s moment i)
put_back f s moment i good legal now back = record {
  below = later f.job s.len back.below;
  objects = λ id held.
      ap (λ (g : Graph). object_at g id) graph_is ∙ put_objects f s i how now.logged.item now.logged.handled now.at now.mine now.row_of back id held;
  edges = λ key id held touched.
      ap (λ (g : Graph). edge_at g key) graph_is ∙ put_edges f s i how now.logged.item now.logged.handled now.at now.mine now.row_of back key id held touched;
  other = λ id k held own. back.other id k held (sym (plain id) ∙ own);
  mine = λ id own. back.mine id (sym (plain id) ∙ own);
  items = each_handled (OwnItem f) s.items i how now.logged now.at (λ same. (now.row_of, now.in_part, unlisted)) back.items;
  one_object = λ id. sole_handled (erased_item f.job id) s.items i how (back.one_object id);
  one_edge = λ key. sole_handled (cut_item f.job key) s.items i how (back.one_edge key);
}
  where
    later : (a b : ℕ) → a < b → a < b + 1
    later a b h = omega arith

    how : Handled
    how = outcome s (slice_get s.items i)

    graph_is : changed s.graph (put_change s (slice_get s.items i)) ≡ changed s.graph (put_of_item now.logged.item)
    graph_is = put_graph s i now.logged now.at now.fits

    unlisted : was_listed (Some (outcome s (slice_get s.items i))) ≡ false
    unlisted = ap (λ (o : Option Logged). was_listed (Some (outcome s o))) now.at ∙ ap (λ (o : Option Cause). is_some o) now.fits

    plain : (id : ℕ) → owner (put_state f s moment i) id ≡ owner s id
    plain id = owner_plain s moment (Put f.job i) legal good.owned_stand good.ends id

-- a step of the job
own_back : (f : Part) (s : State) (moment : ℕ) (what : What) → Whole f → Good s → is_legal s (record { moment = moment; what = what }) ≡ true → Back f s → is_step_of f.job what ≡ true → Back f (step s (record { moment = moment; what = what }))
own_back f s moment (Create tag kind id size) whole good legal back is = absurd (false≢true is)
own_back f s moment (Update tag id size) whole good legal back is = absurd (false≢true is)
own_back f s moment (Link tag edge from to size) whole good legal back is = absurd (false≢true is)
own_back f s moment (Unlink tag edge from to name) whole good legal back is = absurd (false≢true is)
own_back f s moment (Delete tag id name) whole good legal back is = absurd (false≢true is)
own_back f s moment (Restore tag which) whole good legal back is = absurd (false≢true is)
own_back f s moment (Expire id) whole good legal back is = absurd (false≢true is)
own_back f s moment (Cut which edge from to) whole good legal back is =
    let same : f.job ≡ which = sym (eqb-true which f.job is) in
    subst (λ (j : ℕ). is_legal s (record { moment = moment; what = Cut j edge from to }) ≡ true → Back f (step s (record { moment = moment; what = Cut j edge from to }))) same
    (λ line.
    let parts = and_parts (edge_stands s.graph (key_of edge from to)) (is_owned_by s f.job from || is_owned_by s f.job to) (allowed_of s (record { moment = moment; what = Cut f.job edge from to }) line) in
    cut_back f s moment (key_of edge from to) good line (cut_now f s (key_of edge from to) whole good back parts.0 parts.1) back)
    legal
own_back f s moment (Erase which gone) whole good legal back is =
    let same : f.job ≡ which = sym (eqb-true which f.job is) in
    subst (λ (j : ℕ). is_legal s (record { moment = moment; what = Erase j gone }) ≡ true → Back f (step s (record { moment = moment; what = Erase j gone }))) same
    (λ line.
    erase_back f s moment gone good line
    (erase_now f s gone good back (and_parts (is_owned_by s f.job gone) _ (allowed_of s (record { moment = moment; what = Erase f.job gone }) line)).0) back)
    legal
own_back f s moment (Put which i) whole good legal back is =
    let same : f.job ≡ which = sym (eqb-true which f.job is) in
    subst (λ (j : ℕ). is_legal s (record { moment = moment; what = Put j i }) ≡ true → Back f (step s (record { moment = moment; what = Put j i }))) same
    (λ line.
    put_back f s moment i good line
    (put_now f s i good back (may_put_of s f.job i (slice_get s.items i) refl (allowed_of s (record { moment = moment; what = Put f.job i }) line))) back)
    legal
own_back f s moment (Purge which) whole good legal back is = absurd (false≢true is)

pub back_step : (f : Part) (s : State) (e : Entry) → Whole f → Good s → is_legal s e ≡ true → LeavesAlone f.job f.ids s e.what → Back f s → Back f (step s e)
back_step f s e whole good legal alone back = by_own (is_step_of f.job e.what) refl
  where
    by_own : (b : Bool) → is_step_of f.job e.what ≡ b → Back f (step s e)
    by_own true is = own_back f s e.moment e.what whole good legal back is
    by_own false is =
        elim alone [ inl own ↦ absurd (false≢true (sym is ∙ own)) | inr unnamed ↦ quiet_back f s e good legal back is unnamed ]
