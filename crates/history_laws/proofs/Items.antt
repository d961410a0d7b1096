-- What an entry does to the items, and tests that only items of one job pass.
use Rattle.std.proofs.Common.{◌≡◌, ℕ, zero, suc, Bool, true, false, ◌&&◌, ◌||◌, eqb, List, [], ◌∷◌, ◌++◌, Option, Some, None, refl, sym, ap, ◌∙◌, subst, inl, inr, ◌⊎◌}
use Rattle.std.proofs.lemmas.Bool.{and_parts, eqb-true, eq-eqb, false≢true}
use Rattle.std.specs.Prelude.{is_some, is_none, slice_get}
use Rattle.std.specs.List.{list_any}
use Rattle.delf_model.specs.declared.rows.ObjectRow.{ObjectRow}
use Rattle.delf_model.specs.declared.rows.EdgeRow.{EdgeRow}
use Rattle.delf_model.specs.declared.rows.Item.{Item}
use Rattle.delf_model.specs.declared.rows.Item.TheVariants as item
use Rattle.delf_model.specs.declared.entry.What.{What}
use Rattle.delf_model.specs.declared.entry.What.TheVariants.{Create, Update, Link, Unlink, Delete, Restore, Expire, Cut, Erase, Put, Purge}
use Rattle.delf_model.specs.Graph.{object_at, edge_at, edge_stands}
use Rattle.delf_model.specs.State.{State, Logged, Handled, job_of, is_owned_by}
use Rattle.delf_model.specs.Step.{items_after, edge_item, object_item, unhandled, handled_at, outcome, birth_of}
use Rattle.delf_model.specs.Owners.{key_of}
use Rattle.delf_model.specs.Legal.{is_allowed}
use Rattle.delf_model.specs.Closure.{is_step_of}
use Rattle.delf_model.specs.Sound.{is_put_by}
use Rattle.delf_model.proofs.Leaves.{owner_is}
use Rattle.delf_model.proofs.Owners.{OwnedStand}
use Rattle.delf_model.proofs.Places.{EachItem, each_append, each_handled, may_put_of}
use Rattle.reach_laws.proofs.Quiet.{or_nothing, any_append, takes_for}

-- one item more, of the job that took it
pub record Added (s : State) (what : What) : Type 0 where
  pub new_item : Item
  pub taken : takes_for (job_of new_item) what ≡ true
  pub now : items_after s what ≡ s.items ++ unhandled new_item ∷ []

-- one item handled, by a put of its job
pub record Marked (s : State) (what : What) : Type 0 where
  pub place : ℕ
  pub logged : Logged
  pub there : slice_get s.items place ≡ Some logged
  pub put : is_put_by (job_of logged.item) what ≡ true
  pub how : Handled
  pub now : items_after s what ≡ handled_at s.items place how

abbrev pub ItemsChange : State → What → Type 0
ItemsChange s what = (items_after s what ≡ s.items) ⊎ (Added s what ⊎ Marked s what)

added_edge : (s : State) (which edge from to : ℕ) (o : Option EdgeRow) → edge_at s.graph (key_of edge from to) ≡ o → is_some o ≡ true → ItemsChange s (Cut which edge from to)
added_edge s which edge from to None at some = absurd (false≢true some)
added_edge s which edge from to (Some row) at some =
    inr (inl (record {
      new_item = item.Edge which row (birth_of s.graph row.key.from) (birth_of s.graph row.key.to);
      taken = eq-eqb which which refl;
      now = ap (λ (o : Option EdgeRow). s.items ++ edge_item s.graph which o) at;
    }))

added_object : (s : State) (which id : ℕ) (o : Option ObjectRow) → object_at s.graph id ≡ o → is_some o ≡ true → ItemsChange s (Erase which id)
added_object s which id None at some = absurd (false≢true some)
added_object s which id (Some row) at some =
    inr (inl (record { new_item = item.Object which row; taken = eq-eqb which which refl; now = ap (λ (o : Option ObjectRow). s.items ++ object_item which o) at }))

-- the items stay, or get one more, or one of them is handled
pub items_change : (s : State) (moment : ℕ) (what : What) → is_allowed s moment what ≡ true → OwnedStand s → ItemsChange s what
items_change s moment (Create tag kind id size) line stand = inl refl
items_change s moment (Update tag id size) line stand = inl refl
items_change s moment (Link tag edge from to size) line stand = inl refl
items_change s moment (Unlink tag edge from to name) line stand = inl refl
items_change s moment (Delete tag id name) line stand = inl refl
items_change s moment (Restore tag job) line stand = inl refl
items_change s moment (Expire id) line stand = inl refl
items_change s moment (Cut which edge from to) line stand =
    added_edge s which edge from to (edge_at s.graph (key_of edge from to)) refl
    (and_parts (edge_stands s.graph (key_of edge from to)) (is_owned_by s which from || is_owned_by s which to) line).0
items_change s moment (Erase which id) line stand =
    added_object s which id (object_at s.graph id) refl (stand id which (owner_is s which id (and_parts (is_owned_by s which id) _ line).0))
items_change s moment (Put which i) line stand =
    let may = may_put_of s which i (slice_get s.items i) refl line in
    inr (inr (record {
      place = i;
      logged = may.logged;
      there = may.at;
      put = eq-eqb which (job_of may.logged.item) (sym may.of_job);
      how = outcome s (slice_get s.items i);
      now = refl;
    }))
items_change s moment (Purge which) line stand = inl refl

-- tests of items

-- an item that passes and is not handled
abbrev pub opens : (Item → Bool) → Logged → Bool
opens q l = is_none l.handled && q l.item

abbrev pub passes : (Item → Bool) → Logged → Bool
passes q l = q l.item

-- a test that only items of the job pass
abbrev pub OnlyOf : ℕ → (Item → Bool) → Type 0
OnlyOf job q = (it : Item) → eqb (job_of it) job ≡ false → q it ≡ false

-- at most one item passes
abbrev pub Sole : (Item → Bool) → List Logged → Type 0
Sole q [] = Unit {0}
Sole q (x ∷ xs) = (q x.item ≡ true → list_any (passes q) xs ≡ false) × Sole q xs

pub any_push : (q : Logged → Bool) (xs : List Logged) (y : Logged) → list_any q (xs ++ y ∷ []) ≡ (list_any q xs || q y)
any_push q xs y = any_append q xs (y ∷ []) ∙ ap (λ (b : Bool). list_any q xs || b) (or_nothing (q y))

pub any_push_miss : (q : Logged → Bool) (xs : List Logged) (y : Logged) → q y ≡ false → list_any q (xs ++ y ∷ []) ≡ list_any q xs
any_push_miss q xs y miss = any_push q xs y ∙ (ap (λ (b : Bool). list_any q xs || b) miss ∙ or_nothing (list_any q xs))

pub any_at : (q : Logged → Bool) (xs : List Logged) (i : ℕ) (l : Logged) → slice_get xs i ≡ Some l → q l ≡ true → list_any q xs ≡ true
any_at q [] i l at one = absurd (cc at)
any_at q (x ∷ xs) zero l at one = let same : x ≡ l = cc in first (q x) (list_any q xs) (ap q same ∙ one)
  where
    first : (a b : Bool) → a ≡ true → (a || b) ≡ true
    first true b is = refl
    first false b is = absurd (false≢true is)
any_at q (x ∷ xs) (suc i) l at one = second (q x) (list_any q xs) (any_at q xs i l at one)
  where
    second : (a b : Bool) → b ≡ true → (a || b) ≡ true
    second true b is = refl
    second false b is = is

pub none_any : (q : Logged → Bool) (xs : List Logged) → EachItem (λ l. q l ≡ false) xs → list_any q xs ≡ false
none_any q [] each = refl
none_any q (x ∷ xs) each = both (q x) (list_any q xs) each.0 (none_any q xs each.1)
  where
    both : (a b : Bool) → a ≡ false → b ≡ false → (a || b) ≡ false
    both true b one two = one
    both false b one two = two

pub any_same : (p q : Logged → Bool) (xs : List Logged) → EachItem (λ l. p l ≡ q l) xs → list_any p xs ≡ list_any q xs
any_same p q [] each = refl
any_same p q (x ∷ xs) each = ap (λ (b : Bool). b || list_any p xs) each.0 ∙ ap (λ (b : Bool). q x || b) (any_same p q xs each.1)

and_false : (a b : Bool) → b ≡ false → (a && b) ≡ false
and_false true b is = is
and_false false b is = refl

-- an item that doesn't pass is handled
pub opens_other : (q : Item → Bool) (xs : List Logged) (i : ℕ) (how : Handled) (l : Logged) → slice_get xs i ≡ Some l → q l.item ≡ false →
    list_any (opens q) (handled_at xs i how) ≡ list_any (opens q) xs
opens_other q [] i how l at miss = refl
opens_other q (x ∷ xs) zero how l at miss =
    let same : x ≡ l = cc in
    ap (λ (b : Bool). b || list_any (opens q) xs) (sym (and_false (is_none x.handled) (q x.item) (ap (λ (y : Logged). q y.item) same ∙ miss)))
opens_other q (x ∷ xs) (suc i) how l at miss = ap (λ (b : Bool). opens q x || b) (opens_other q xs i how l at miss)

pub none_open : (q : Item → Bool) (xs : List Logged) → list_any (passes q) xs ≡ false → list_any (opens q) xs ≡ false
none_open q [] none = refl
none_open q (x ∷ xs) none = both (is_none x.handled) (q x.item) (list_any (passes q) xs) (list_any (opens q) xs) none (none_open q xs)
  where
    both : (h a b c : Bool) → (a || b) ≡ false → (b ≡ false → c ≡ false) → ((h && a) || c) ≡ false
    both h true b c none IH = absurd (false≢true (sym none))
    both true false b c none IH = IH none
    both false false b c none IH = IH none

-- the one item that passes is handled
pub opens_sole : (q : Item → Bool) (xs : List Logged) (i : ℕ) (how : Handled) (l : Logged) → slice_get xs i ≡ Some l → q l.item ≡ true → Sole q xs →
    list_any (opens q) (handled_at xs i how) ≡ false
opens_sole q [] i how l at hit sole = refl
opens_sole q (x ∷ xs) zero how l at hit sole =
    let same : x ≡ l = cc in none_open q xs (sole.0 (ap (λ (y : Logged). q y.item) same ∙ hit))
opens_sole q (x ∷ xs) (suc i) how l at hit sole =
    both (is_none x.handled) (q x.item) (list_any (opens q) (handled_at xs i how)) (λ is. false≢true (sym (sole.0 is) ∙ any_at (passes q) xs i l at hit))
    (opens_sole q xs i how l at hit sole.1)
  where
    both : (h a c : Bool) → (a ≡ true → ⊥) → c ≡ false → ((h && a) || c) ≡ false
    both h true c apart IH = absurd (apart refl)
    both true false c apart IH = IH
    both false false c apart IH = IH

pub sole_push : (q : Item → Bool) (xs : List Logged) (y : Logged) → (q y.item ≡ true → list_any (passes q) xs ≡ false) → Sole q xs → Sole q (xs ++ y ∷ [])
sole_push q [] y new sole = ((λ is. refl), tt)
sole_push q (x ∷ xs) y new sole = (
  λ is. any_push_miss (passes q) xs y (apart (q y.item) (q x.item) new is) ∙ sole.0 is,
  sole_push q xs y (λ is. second (q x.item) (list_any (passes q) xs) (new is)) sole.1,
)
  where
    apart : (a b : Bool) → (a ≡ true → (b || list_any (passes q) xs) ≡ false) → b ≡ true → a ≡ false
    apart true true none is = absurd (false≢true (sym (none refl)))
    apart true false none is = absurd (false≢true is)
    apart false b none is = refl

    second : (a b : Bool) → (a || b) ≡ false → b ≡ false
    second true b none = absurd (false≢true (sym none))
    second false b none = none

any_handled : (q : Item → Bool) (xs : List Logged) (i : ℕ) (how : Handled) → list_any (passes q) (handled_at xs i how) ≡ list_any (passes q) xs
any_handled q [] i how = refl
any_handled q (x ∷ xs) zero how = refl
any_handled q (x ∷ xs) (suc i) how = ap (λ (b : Bool). q x.item || b) (any_handled q xs i how)

pub sole_handled : (q : Item → Bool) (xs : List Logged) (i : ℕ) (how : Handled) → Sole q xs → Sole q (handled_at xs i how)
sole_handled q [] i how sole = tt
sole_handled q (x ∷ xs) zero how sole = sole
sole_handled q (x ∷ xs) (suc i) how sole = ((λ is. any_handled q xs i how ∙ sole.0 is), sole_handled q xs i how sole.1)

pub none_sole : (q : Item → Bool) (xs : List Logged) → list_any (passes q) xs ≡ false → Sole q xs
none_sole q [] none = tt
none_sole q (x ∷ xs) none = ((λ is. second (q x.item) (list_any (passes q) xs) none), none_sole q xs (second (q x.item) (list_any (passes q) xs) none))
  where
    second : (a b : Bool) → (a || b) ≡ false → b ≡ false
    second true b none = absurd (false≢true (sym none))
    second false b none = none

pub each_push : (P : Logged → Type 0) (xs : List Logged) (y : Logged) → EachItem P xs → P y → EachItem P (xs ++ y ∷ [])
each_push P xs y each new = each_append P xs (y ∷ []) each (new, tt)

-- an entry that is no step of the job

-- adds no item of it
pub taken_apart : (what : What) (which job : ℕ) → is_step_of job what ≡ false → takes_for which what ≡ true → eqb which job ≡ false
taken_apart (Cut other edge from to) which job none takes = subst (λ (n : ℕ). eqb n job ≡ false) (eqb-true other which takes) none
taken_apart (Erase other id) which job none takes = subst (λ (n : ℕ). eqb n job ≡ false) (eqb-true other which takes) none
taken_apart what which job none takes = absurd (false≢true takes)

-- handles no item of it
pub put_apart : (what : What) (which job : ℕ) → is_step_of job what ≡ false → is_put_by which what ≡ true → eqb which job ≡ false
put_apart (Put other i) which job none puts = subst (λ (n : ℕ). eqb n job ≡ false) (eqb-true other which puts) none
put_apart what which job none puts = absurd (false≢true puts)

-- takes nothing for it
pub no_take : (what : What) (job : ℕ) → is_step_of job what ≡ false → takes_for job what ≡ false
no_take (Cut other edge from to) job none = none
no_take (Erase other id) job none = none
no_take what job none = refl

pub opens_same : (s : State) (what : What) (job : ℕ) (q : Item → Bool) → ItemsChange s what → is_step_of job what ≡ false → OnlyOf job q →
    list_any (opens q) (items_after s what) ≡ list_any (opens q) s.items
opens_same s what job q change none only =
    elim change [
      | inl same ↦ ap (λ (xs : List Logged). list_any (opens q) xs) same
      | inr (inl added) ↦
          ap (λ (xs : List Logged). list_any (opens q) xs) added.now ∙
          any_push_miss (opens q) s.items (unhandled added.new_item) (only added.new_item (taken_apart what (job_of added.new_item) job none added.taken))
      | inr (inr marked) ↦
          ap (λ (xs : List Logged). list_any (opens q) xs) marked.now ∙
          opens_other q s.items marked.place marked.how marked.logged marked.there (only marked.logged.item (put_apart what (job_of marked.logged.item) job none marked.put))
    ]

pub sole_same : (s : State) (what : What) (job : ℕ) (q : Item → Bool) → ItemsChange s what → is_step_of job what ≡ false → OnlyOf job q → Sole q s.items → Sole q (items_after s what)
sole_same s what job q change none only sole =
    elim change [
      | inl same ↦ subst (λ (xs : List Logged). Sole q xs) (sym same) sole
      | inr (inl added) ↦
          subst (λ (xs : List Logged). Sole q xs) (sym added.now)
          (sole_push q s.items (unhandled added.new_item)
          (λ is. absurd (false≢true (sym (only added.new_item (taken_apart what (job_of added.new_item) job none added.taken)) ∙ is))) sole)
      | inr (inr marked) ↦ subst (λ (xs : List Logged). Sole q xs) (sym marked.now) (sole_handled q s.items marked.place marked.how sole)
    ]

pub each_other : (s : State) (what : What) (job : ℕ) (P : Logged → Type 0) → ItemsChange s what → is_step_of job what ≡ false →
    ((l : Logged) → eqb (job_of l.item) job ≡ false → P l) → EachItem P s.items → EachItem P (items_after s what)
each_other s what job P change none foreign each =
    elim change [
      | inl same ↦ subst (λ (xs : List Logged). EachItem P xs) (sym same) each
      | inr (inl added) ↦
          subst (λ (xs : List Logged). EachItem P xs) (sym added.now)
          (each_push P s.items (unhandled added.new_item) each (foreign (unhandled added.new_item) (taken_apart what (job_of added.new_item) job none added.taken)))
      | inr (inr marked) ↦
          subst (λ (xs : List Logged). EachItem P xs) (sym marked.now)
          (each_handled P s.items marked.place marked.how marked.logged marked.there
          (foreign (record { item = marked.logged.item; handled = Some marked.how }) (put_apart what (job_of marked.logged.item) job none marked.put)) each)
    ]
