-- The first value of a job's items, before and after one of them is handled.
use Rattle.std.proofs.Common.{◌≡◌, ℕ, zero, suc, Bool, true, false, cond, not, ◌&&◌, ◌||◌, eqb, List, [], ◌∷◌, Option, Some, None, refl, sym, ap, ◌∙◌, subst, arith}
use Rattle.std.proofs.lemmas.Bool.{and_parts, and_from, eqb-true, eq-eqb, false≢true}
use Rattle.std.specs.Prelude.{is_some, is_none, slice_get, find}
use Rattle.std.specs.List.{list_all}
use Rattle.delf_model.specs.declared.rows.ObjectRow.{ObjectRow}
use Rattle.delf_model.specs.declared.rows.EdgeKey.{EdgeKey}
use Rattle.delf_model.specs.declared.rows.EdgeRow.{EdgeRow}
use Rattle.delf_model.specs.declared.rows.Item.{Item}
use Rattle.delf_model.specs.declared.rows.Item.TheVariants as item
use Rattle.delf_model.specs.Graph.{Graph, has_id, has_key, same_key, object_at, edge_at, is_born_at, put_object, put_edge}
use Rattle.delf_model.specs.State.{State, Logged, Handled, job_of}
use Rattle.delf_model.specs.Step.{handled_at}
use Rattle.std.specs.Option.{option_or}
use Rattle.delf_model.specs.Legal.{is_end_item, is_handled_end, end_handled}
use Rattle.delf_model.specs.Closure.{items_of_job, with_objects, with_edges, edge_fits}
use Rattle.delf_model.specs.Report.{is_of_job}
use Rattle.delf_model.specs.Sound.{object_id_of, DistinctIds}
use Rattle.delf_model.proofs.Graphs.{find-put_object, find-put_edge}
use Rattle.reach_laws.proofs.Kept.{false_of}

-- the first value among items that pass, and among all of a list
abbrev pub first_of : {A : Type 0} → (Item → Option A) → (Logged → Bool) → List Logged → Option A
first_of val p [] = None
first_of val p (x ∷ xs) = option_or (cond (p x) (val x.item) None) (first_of val p xs)

abbrev pub first_item : {A : Type 0} → (Item → Option A) → List Item → Option A
first_item val [] = None
first_item val (x ∷ xs) = option_or (val x) (first_item val xs)

abbrev pub is_done : ℕ → Logged → Bool
is_done job logged = is_of_job job logged && is_some logged.handled

pub first_items : {A : Type 0} (val : Item → Option A) (job : ℕ) (xs : List Logged) → first_item val (items_of_job job xs) ≡ first_of val (is_of_job job) xs
first_items val job [] = refl
first_items val job (x ∷ xs) = by_job (eqb (job_of x.item) job) (first_items val job xs)
  where
    by_job : (b : Bool) → first_item val (items_of_job job xs) ≡ first_of val (is_of_job job) xs →
        first_item val (cond b (x.item ∷ items_of_job job xs) (items_of_job job xs)) ≡ option_or (cond b (val x.item) None) (first_of val (is_of_job job) xs)
    by_job true IH = ap (option_or (val x.item)) IH
    by_job false IH = IH

-- handling an item changes no item
pub same_items : (job : ℕ) (xs : List Logged) (i : ℕ) (how : Handled) → items_of_job job (handled_at xs i how) ≡ items_of_job job xs
same_items job [] i how = refl
same_items job (x ∷ xs) zero how = refl
same_items job (x ∷ xs) (suc i) how = ap (λ (ys : List Item). cond (eqb (job_of x.item) job) (x.item ∷ ys) ys) (same_items job xs i how)

no_suc : (n : ℕ) → 0 ≡ suc n → ⊥
no_suc n is = omega arith

one_less : (a b : ℕ) → suc a ≡ suc b → a ≡ b
one_less a b is = omega arith

-- where no value is

pub first_none : {A : Type 0} (val : Item → Option A) (p : Logged → Bool) (xs : List Logged) →
    ((j : ℕ) (y : Logged) → slice_get xs j ≡ Some y → p y ≡ true → val y.item ≡ None) → first_of val p xs ≡ None
first_none val p [] none = refl
first_none val p (x ∷ xs) none = by_head (p x) refl (first_none val p xs (λ j y at passes. none (suc j) y at passes))
  where
    by_head : (b : Bool) → p x ≡ b → first_of val p xs ≡ None → option_or (cond b (val x.item) None) (first_of val p xs) ≡ None
    by_head true is rest = ap (λ (o : Option _). option_or o (first_of val p xs)) (none 0 x refl is) ∙ rest
    by_head false is rest = rest

no_value : {A : Type 0} (b c : Bool) (o : Option A) → o ≡ None → cond b o None ≡ cond c o None
no_value true true o is = refl
no_value true false o is = is
no_value false true o is = sym is
no_value false false o is = refl

-- an item without a value may be handled
pub marked_none : {A : Type 0} (val : Item → Option A) (job : ℕ) (xs : List Logged) (i : ℕ) (how : Handled) (l : Logged) → slice_get xs i ≡ Some l → val l.item ≡ None →
    first_of val (is_done job) (handled_at xs i how) ≡ first_of val (is_done job) xs
marked_none val job [] i how l at none = refl
marked_none val job (x ∷ xs) zero how l at none =
    let same : l ≡ x = cc in
    ap (λ (o : Option _). option_or o (first_of val (is_done job) xs))
    (no_value (is_done job (record { item = x.item; handled = Some how })) (is_done job x) (val x.item) (subst (λ (y : Logged). val y.item ≡ None) same none))
marked_none val job (x ∷ xs) (suc i) how l at none =
    ap (option_or (cond (is_done job x) (val x.item) None)) (marked_none val job xs i how l at none)

-- no other item of the job has a value
abbrev pub Only : {A : Type 0} → (Item → Option A) → ℕ → List Logged → ℕ → Type 0
Only val job xs i = (j : ℕ) (y : Logged) → slice_get xs j ≡ Some y → is_of_job job y ≡ true → (j ≡ i → ⊥) → val y.item ≡ None

pub before_none : {A : Type 0} (val : Item → Option A) (job : ℕ) (xs : List Logged) (i : ℕ) (l : Logged) → slice_get xs i ≡ Some l → is_none l.handled ≡ true → Only val job xs i →
    first_of val (is_done job) xs ≡ None
before_none val job xs i l at waiting only = first_none val (is_done job) xs none
  where
    logged_is : (a b : Logged) → Some a ≡ Some b → a ≡ b
    logged_is a b h = cc

    not_both : (o : Option Handled) → is_some o ≡ true → is_none o ≡ true → ⊥
    not_both None one two = false≢true one
    not_both (Some h) one two = false≢true two

    none : (j : ℕ) (y : Logged) → slice_get xs j ≡ Some y → is_done job y ≡ true → val y.item ≡ None
    none j y there passes = by_place (eqb j i) refl
      where
        parts : (is_of_job job y ≡ true) × (is_some y.handled ≡ true)
        parts = and_parts (is_of_job job y) (is_some y.handled) passes

        by_place : (b : Bool) → eqb j i ≡ b → val y.item ≡ None
        by_place true is =
            let same : l ≡ y = logged_is l y (sym at ∙ (ap (slice_get xs) (sym (eqb-true j i is)) ∙ there)) in
            absurd (not_both y.handled parts.1 (subst (λ (z : Logged). is_none z.handled ≡ true) same waiting))
        by_place false is = only j y there parts.0 (λ same. false≢true (sym is ∙ eq-eqb j i same))

pub marked_some : {A : Type 0} (val : Item → Option A) (job : ℕ) (xs : List Logged) (i : ℕ) (how : Handled) (l : Logged) (v : A) → slice_get xs i ≡ Some l → is_of_job job l ≡ true → val l.item ≡ Some v → Only val job xs i →
    first_of val (is_done job) (handled_at xs i how) ≡ Some v
marked_some val job [] i how l v at mine some only = absurd (cc at)
marked_some val job (x ∷ xs) zero how l v at mine some only =
    let same : l ≡ x = cc in
    ap (λ (b : Bool). option_or (cond b (val x.item) None) (first_of val (is_done job) xs))
    (and_from (eqb (job_of x.item) job) true (subst (λ (y : Logged). is_of_job job y ≡ true) same mine) refl) ∙
    ap (λ (o : Option _). option_or o (first_of val (is_done job) xs)) (subst (λ (y : Logged). val y.item ≡ Some v) same some)
marked_some val job (x ∷ xs) (suc i) how l v at mine some only =
    by_head (is_done job x) refl (marked_some val job xs i how l v at mine some (λ j y there of_job apart. only (suc j) y there of_job (λ same. apart (one_less j i same))))
  where
    by_head : (b : Bool) → is_done job x ≡ b → first_of val (is_done job) (handled_at xs i how) ≡ Some v → option_or (cond b (val x.item) None) (first_of val (is_done job) (handled_at xs i how)) ≡ Some v
    by_head true is rest =
        ap (λ (o : Option _). option_or o (first_of val (is_done job) (handled_at xs i how)))
        (only 0 x refl (and_parts (is_of_job job x) (is_some x.handled) is).0 (no_suc i)) ∙ rest
    by_head false is rest = rest

-- where all is handled
pub all_done : {A : Type 0} (val : Item → Option A) (job : ℕ) (xs : List Logged) → ((j : ℕ) (y : Logged) → slice_get xs j ≡ Some y → is_of_job job y ≡ true → is_some y.handled ≡ true) →
    first_of val (is_done job) xs ≡ first_of val (is_of_job job) xs
all_done val job [] all = refl
all_done val job (x ∷ xs) all =
    ap (λ (b : Bool). option_or (cond b (val x.item) None) (first_of val (is_done job) xs)) (by_job (is_of_job job x) refl) ∙
    ap (option_or (cond (is_of_job job x) (val x.item) None)) (all_done val job xs (λ j y at mine. all (suc j) y at mine))
  where
    by_job : (b : Bool) → is_of_job job x ≡ b → (b && is_some x.handled) ≡ b
    by_job true is = all 0 x refl is
    by_job false is = refl

-- the values of objects

abbrev pub object_val : Graph → ℕ → Item → Option ObjectRow
object_val g id (item.Object job row) = cond (is_some (object_at g row.id)) None (cond (eqb row.id id) (Some row) None)
object_val g id (item.Edge job row from_birth to_birth) = None

pub find-with_objects : (g : Graph) (items : List Item) (id : ℕ) → find (has_id id) (with_objects g items) ≡ option_or (first_item (object_val g id) items) (object_at g id)
find-with_objects g [] id = refl
find-with_objects g (item.Edge job row from_birth to_birth ∷ rest) id = find-with_objects g rest id
find-with_objects g (item.Object job row ∷ rest) id = by_free (is_some (object_at g row.id)) (find-with_objects g rest id)
  where
    by_hit : (hit : Bool) → find (has_id id) (with_objects g rest) ≡ option_or (first_item (object_val g id) rest) (object_at g id) →
        cond hit (Some row) (find (has_id id) (with_objects g rest)) ≡ option_or (option_or (cond hit (Some row) None) (first_item (object_val g id) rest)) (object_at g id)
    by_hit true IH = refl
    by_hit false IH = IH

    by_free : (b : Bool) → find (has_id id) (with_objects g rest) ≡ option_or (first_item (object_val g id) rest) (object_at g id) →
        find (has_id id) (cond b (with_objects g rest) (put_object row (with_objects g rest))) ≡
        option_or (option_or (cond b None (cond (eqb row.id id) (Some row) None)) (first_item (object_val g id) rest)) (object_at g id)
    by_free true IH = IH
    by_free false IH = find-put_object row (with_objects g rest) id ∙ by_hit (eqb row.id id) IH

-- an item with a value is an object of that id
pub object_value : (g : Graph) (id : ℕ) (it : Item) (row : ObjectRow) → object_val g id it ≡ Some row → (object_id_of it ≡ Some id) × (it ≡ item.Object (job_of it) row) × (row.id ≡ id)
object_value g id (item.Edge job row' from_birth to_birth) row is = absurd (cc is)
object_value g id (item.Object job row') row is = by_free (is_some (object_at g row'.id)) is
  where
    by_hit : (b : Bool) → eqb row'.id id ≡ b → cond b (Some row') None ≡ Some row → (object_id_of (item.Object job row') ≡ Some id) × (item.Object job row' ≡ item.Object job row) × (row.id ≡ id)
    by_hit true hit here =
        let same : row' ≡ row = cc in
        let same_id : row'.id ≡ id = eqb-true row'.id id hit in
        (ap (λ (n : ℕ). Some n) same_id, ap (λ (r : ObjectRow). item.Object job r) same, ap (λ (r : ObjectRow). r.id) (sym same) ∙ same_id)
    by_hit false hit here = absurd (cc here)

    by_free : (b : Bool) → cond b None (cond (eqb row'.id id) (Some row') None) ≡ Some row → (object_id_of (item.Object job row') ≡ Some id) × (item.Object job row' ≡ item.Object job row) × (row.id ≡ id)
    by_free true here = absurd (cc here)
    by_free false here = by_hit (eqb row'.id id) refl here

-- where the id is taken no item has a value for it
pub taken_none : (g : Graph) (id : ℕ) (it : Item) → is_some (object_at g id) ≡ true → object_val g id it ≡ None
taken_none g id (item.Edge job row from_birth to_birth) some = refl
taken_none g id (item.Object job row) some = by_hit (eqb row.id id) refl
  where
    by_hit : (b : Bool) → eqb row.id id ≡ b → cond (is_some (object_at g row.id)) None (cond b (Some row) None) ≡ None
    by_hit true hit =
        ap (λ (b : Bool). cond b None (Some row)) (subst (λ (n : ℕ). is_some (object_at g n) ≡ true) (sym (eqb-true row.id id hit)) some)
    by_hit false hit = both (is_some (object_at g row.id))
      where
        both : (b : Bool) → cond b None (cond false (Some row) None) ≡ None
        both true = refl
        both false = refl

-- the values of edges

abbrev pub edge_val : State → Graph → EdgeKey → Item → Option EdgeRow
edge_val s among key (item.Object job row) = None
edge_val s among key (item.Edge job row from_birth to_birth) =
    cond (edge_fits s among row.key from_birth to_birth) (cond (same_key row.key key) (Some row) None) None

pub find-with_edges : (s : State) (among : Graph) (items : List Item) (key : EdgeKey) → find (has_key key) (with_edges s among items) ≡ option_or (first_item (edge_val s among key) items) (edge_at s.graph key)
find-with_edges s among [] key = refl
find-with_edges s among (item.Object job row ∷ rest) key = find-with_edges s among rest key
find-with_edges s among (item.Edge job row from_birth to_birth ∷ rest) key = by_fit (edge_fits s among row.key from_birth to_birth) (find-with_edges s among rest key)
  where
    by_hit : (hit : Bool) → find (has_key key) (with_edges s among rest) ≡ option_or (first_item (edge_val s among key) rest) (edge_at s.graph key) →
        cond hit (Some row) (find (has_key key) (with_edges s among rest)) ≡ option_or (option_or (cond hit (Some row) None) (first_item (edge_val s among key) rest)) (edge_at s.graph key)
    by_hit true IH = refl
    by_hit false IH = IH

    by_fit : (b : Bool) → find (has_key key) (with_edges s among rest) ≡ option_or (first_item (edge_val s among key) rest) (edge_at s.graph key) →
        find (has_key key) (cond b (put_edge row (with_edges s among rest)) (with_edges s among rest)) ≡
        option_or (option_or (cond b (cond (same_key row.key key) (Some row) None) None) (first_item (edge_val s among key) rest)) (edge_at s.graph key)
    by_fit true IH = find-put_edge row (with_edges s among rest) key ∙ by_hit (same_key row.key key) IH
    by_fit false IH = IH

-- an item with a value is an edge of that key that fits
pub record EdgeValue (s : State) (among : Graph) (key : EdgeKey) (it : Item) : Type 0 where
  pub job : ℕ
  pub row : EdgeRow
  pub from_birth : ℕ
  pub to_birth : ℕ
  pub is : it ≡ item.Edge job row from_birth to_birth
  pub fits : edge_fits s among row.key from_birth to_birth ≡ true
  pub same : same_key row.key key ≡ true

pub edge_value : (s : State) (among : Graph) (key : EdgeKey) (it : Item) → is_some (edge_val s among key it) ≡ true → EdgeValue s among key it
edge_value s among key (item.Object job row) some = absurd (false≢true some)
edge_value s among key (item.Edge job row from_birth to_birth) some =
    by_fit (edge_fits s among row.key from_birth to_birth) refl (same_key row.key key) refl some
  where
    by_fit : (b : Bool) → edge_fits s among row.key from_birth to_birth ≡ b → (c : Bool) → same_key row.key key ≡ c → is_some (cond b (cond c (Some row) None) None) ≡ true →
        EdgeValue s among key (item.Edge job row from_birth to_birth)
    by_fit true fit true hit here = record { job = job; row = row; from_birth = from_birth; to_birth = to_birth; is = refl; fits = fit; same = hit }
    by_fit true fit false hit here = absurd (false≢true here)
    by_fit false fit c hit here = absurd (false≢true here)

-- the place of an item among those of its job

abbrev rank : ℕ → List Logged → ℕ → ℕ
rank job [] i = 0
rank job (x ∷ xs) zero = 0
rank job (x ∷ xs) (suc i) = cond (eqb (job_of x.item) job) (suc (rank job xs i)) (rank job xs i)

rank_at : (job : ℕ) (xs : List Logged) (i : ℕ) (x : Logged) → slice_get xs i ≡ Some x → is_of_job job x ≡ true → slice_get (items_of_job job xs) (rank job xs i) ≡ Some x.item
rank_at job [] i x at mine = absurd (cc at)
rank_at job (z ∷ zs) zero x at mine =
    let same : x ≡ z = cc in
    ap (λ (b : Bool). slice_get (cond b (z.item ∷ items_of_job job zs) (items_of_job job zs)) 0) (subst (λ (y : Logged). is_of_job job y ≡ true) same mine) ∙
    ap (λ (y : Logged). Some y.item) (sym same)
rank_at job (z ∷ zs) (suc i) x at mine = by_job (eqb (job_of z.item) job) (rank_at job zs i x at mine)
  where
    by_job : (b : Bool) → slice_get (items_of_job job zs) (rank job zs i) ≡ Some x.item →
        slice_get (cond b (z.item ∷ items_of_job job zs) (items_of_job job zs)) (cond b (suc (rank job zs i)) (rank job zs i)) ≡ Some x.item
    by_job true IH = IH
    by_job false IH = IH

rank_one : (job : ℕ) (xs : List Logged) (i j : ℕ) (x y : Logged) → slice_get xs i ≡ Some x → slice_get xs j ≡ Some y → is_of_job job x ≡ true → is_of_job job y ≡ true →
    rank job xs i ≡ rank job xs j → i ≡ j
rank_one job [] i j x y at_x at_y mine_x mine_y same = absurd (cc at_x)
rank_one job (z ∷ zs) zero zero x y at_x at_y mine_x mine_y same = refl
rank_one job (z ∷ zs) zero (suc j) x y at_x at_y mine_x mine_y same =
    let is : x ≡ z = cc in
    absurd (no_suc (rank job zs j) (same ∙ ap (λ (b : Bool). cond b (suc (rank job zs j)) (rank job zs j)) (subst (λ (l : Logged). is_of_job job l ≡ true) is mine_x)))
rank_one job (z ∷ zs) (suc i) zero x y at_x at_y mine_x mine_y same =
    let is : y ≡ z = cc in
    absurd (no_suc (rank job zs i) (sym same ∙ ap (λ (b : Bool). cond b (suc (rank job zs i)) (rank job zs i)) (subst (λ (l : Logged). is_of_job job l ≡ true) is mine_y)))
rank_one job (z ∷ zs) (suc i) (suc j) x y at_x at_y mine_x mine_y same =
    ap (λ (n : ℕ). suc n) (rank_one job zs i j x y at_x at_y mine_x mine_y (by_job (eqb (job_of z.item) job) same))
  where
    by_job : (b : Bool) → cond b (suc (rank job zs i)) (rank job zs i) ≡ cond b (suc (rank job zs j)) (rank job zs j) → rank job zs i ≡ rank job zs j
    by_job true is = one_less (rank job zs i) (rank job zs j) is
    by_job false is = is

-- no two places of the job hold objects of one id

abbrev pub Apart : ℕ → List Logged → Type 0
Apart job xs =
    (i j id : ℕ) (x y : Logged) → slice_get xs i ≡ Some x → slice_get xs j ≡ Some y → is_of_job job x ≡ true → is_of_job job y ≡ true →
    object_id_of x.item ≡ Some id → object_id_of y.item ≡ Some id → i ≡ j

pub places_apart : (job : ℕ) (xs : List Logged) → DistinctIds (items_of_job job xs) → Apart job xs
places_apart job xs distinct i j id x y at_x at_y mine_x mine_y id_x id_y =
    rank_one job xs i j x y at_x at_y mine_x mine_y
    (distinct (rank job xs i) (rank job xs j) id x.item y.item (rank_at job xs i x at_x mine_x) (rank_at job xs j y at_y mine_y) id_x id_y)

apart_rest : (job : ℕ) (z : Logged) (zs : List Logged) → Apart job (z ∷ zs) → Apart job zs
apart_rest job z zs apart i j id x y at_x at_y mine_x mine_y id_x id_y = one_less i j (apart (suc i) (suc j) id x y at_x at_y mine_x mine_y id_x id_y)

-- where the objects of a birth are handled, the first value has it exactly where the first value of all has it
pub born_same : (g : Graph) (job id birth : ℕ) (xs : List Logged) → Apart job xs → end_handled xs job id birth ≡ true →
    is_born_at birth (first_of (object_val g id) (is_done job) xs) ≡ is_born_at birth (first_of (object_val g id) (is_of_job job) xs)
born_same g job id birth [] apart handled = refl
born_same g job id birth (x ∷ xs) apart handled =
    by_job (is_of_job job x) refl
    (born_same g job id birth xs (apart_rest job x xs apart) (and_parts (is_handled_end job id birth x) (list_all (is_handled_end job id birth) xs) handled).1)
  where
    here : is_handled_end job id birth x ≡ true
    here = (and_parts (is_handled_end job id birth x) (list_all (is_handled_end job id birth) xs) handled).0

    rest_none : is_of_job job x ≡ true → (row : ObjectRow) → object_val g id x.item ≡ Some row → first_of (object_val g id) (is_done job) xs ≡ None
    rest_none mine row is = first_none (object_val g id) (is_done job) xs none
      where
        none : (j : ℕ) (y : Logged) → slice_get xs j ≡ Some y → is_done job y ≡ true → object_val g id y.item ≡ None
        none j y at passes = by_value (object_val g id y.item) refl
          where
            by_value : (o : Option ObjectRow) → object_val g id y.item ≡ o → o ≡ None
            by_value None here = refl
            by_value (Some r) here =
                absurd (no_suc j (apart 0 (suc j) id x y refl at mine (and_parts (is_of_job job y) (is_some y.handled) passes).0
                (object_value g id x.item row is).0 (object_value g id y.item r here).0))

    ended : is_of_job job x ≡ true → (row : ObjectRow) → object_val g id x.item ≡ Some row → eqb row.birth birth ≡ true → is_end_item job id birth x.item ≡ true
    ended mine row is born =
        let value = object_value g id x.item row is in
        ap (is_end_item job id birth) value.1 ∙
        and_from (eqb (job_of x.item) job && eqb row.id id) (eqb row.birth birth) (and_from (eqb (job_of x.item) job) (eqb row.id id) mine (eq-eqb row.id id value.2)) born

    must : (a b : Bool) → (not a || b) ≡ true → a ≡ true → b ≡ true
    must true b one two = one
    must false b one two = absurd (false≢true two)

    by_handled : is_of_job job x ≡ true → (row : ObjectRow) → object_val g id x.item ≡ Some row → (h : Bool) → is_some x.handled ≡ h →
        is_born_at birth (option_or (cond h (Some row) None) (first_of (object_val g id) (is_done job) xs)) ≡ eqb row.birth birth
    by_handled mine row is true h = refl
    by_handled mine row is false h =
        ap (is_born_at birth) (rest_none mine row is) ∙
        sym (false_of (eqb row.birth birth) (λ born. false≢true (sym h ∙ must (is_end_item job id birth x.item) (is_some x.handled) here (ended mine row is born))))

    by_value : is_born_at birth (first_of (object_val g id) (is_done job) xs) ≡ is_born_at birth (first_of (object_val g id) (is_of_job job) xs) →
        is_of_job job x ≡ true → (o : Option ObjectRow) → object_val g id x.item ≡ o →
        is_born_at birth (option_or (cond (is_some x.handled) o None) (first_of (object_val g id) (is_done job) xs)) ≡
        is_born_at birth (option_or o (first_of (object_val g id) (is_of_job job) xs))
    by_value IH mine None is = ap (λ (o : Option ObjectRow). is_born_at birth (option_or o (first_of (object_val g id) (is_done job) xs))) (no_value (is_some x.handled) true None refl) ∙ IH
    by_value IH mine (Some row) is = by_handled mine row is (is_some x.handled) refl

    by_job : (b : Bool) → is_of_job job x ≡ b →
        is_born_at birth (first_of (object_val g id) (is_done job) xs) ≡ is_born_at birth (first_of (object_val g id) (is_of_job job) xs) →
        is_born_at birth (option_or (cond (b && is_some x.handled) (object_val g id x.item) None) (first_of (object_val g id) (is_done job) xs)) ≡
        is_born_at birth (option_or (cond b (object_val g id x.item) None) (first_of (object_val g id) (is_of_job job) xs))
    by_job true mine IH = by_value IH mine (object_val g id x.item) refl
    by_job false mine IH = IH
