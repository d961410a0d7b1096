-- Each handled item has one put.
use Rattle.std.proofs.Common.{◌≡◌, ℕ, zero, suc, ◌+◌, ◌≤◌, ◌<◌, Bool, true, false, cond, not, ◌&&◌, ◌||◌, eqb, List, [], ◌∷◌, ◌++◌, length, take, drop, Option, Some, None, refl, sym, ap, ◌∙◌, subst, arith, add-one, inl, inr, ◌⊎◌}
use Rattle.std.proofs.lemmas.Bool.{and_parts, and_from, eqb-true, eq-eqb, false≢true}
use Rattle.std.proofs.lemmas.List.Sums.{sum_by-cons}
use Rattle.std.specs.Prelude.{is_some, is_none, slice_get, count_by}
use Rattle.delf_model.specs.declared.rows.ObjectRow.{ObjectRow}
use Rattle.delf_model.specs.declared.rows.EdgeRow.{EdgeRow}
use Rattle.delf_model.specs.declared.rows.Item.{Item}
use Rattle.delf_model.specs.declared.rows.Item.TheVariants as item
use Rattle.delf_model.specs.declared.entry.Entry.{Entry}
use Rattle.delf_model.specs.declared.entry.Tag.{Tag}
use Rattle.delf_model.specs.declared.entry.What.{What}
use Rattle.delf_model.specs.declared.entry.What.TheVariants.{Create, Update, Link, Unlink, Delete, Restore, Expire, Cut, Erase, Put, Purge}
use Rattle.delf_model.specs.RuleSet.{RuleSet}
use Rattle.delf_model.specs.Graph.{Graph, object_at, edge_at}
use Rattle.delf_model.specs.State.{State, Logged, Handled, JobRow, start, job_of, is_restored, is_open, is_open_of, left}
use Rattle.delf_model.specs.Step.{step, run, after, items_after, edge_item, object_item, unhandled, handled_at, outcome, birth_of}
use Rattle.delf_model.specs.Owners.{key_of}
use Rattle.delf_model.specs.Puts.{judged}
use Rattle.delf_model.specs.Legal.{is_legal, is_legal_from, is_allowed, Legal}
use Rattle.delf_model.specs.Sound.{HasOnePut, PutsAreJudged}
use Rattle.delf_model.proofs.Runs.{legal_take, legal_drop, legal_at, run-take-drop, run-take_suc}
use Rattle.delf_model.proofs.Lines.{allowed_of}
use Rattle.delf_model.proofs.Places.{MayPut, may_put_of}

-- an item after an entry

-- a place in a longer list is one of the first part, or one of the rest
place_of : (xs ys : List Logged) (i : ℕ) (l : Logged) → slice_get (xs ++ ys) i ≡ Some l → (slice_get xs i ≡ Some l) ⊎ ((j : ℕ) × (slice_get ys j ≡ Some l))
place_of [] ys i l at = inr (i, at)
place_of (x ∷ xs) ys zero l at = inl at
place_of (x ∷ xs) ys (suc i) l at = place_of xs ys i l at

place_kept : (xs ys : List Logged) (i : ℕ) (l : Logged) → slice_get xs i ≡ Some l → slice_get (xs ++ ys) i ≡ Some l
place_kept [] ys i l at = absurd (cc at)
place_kept (x ∷ xs) ys zero l at = at
place_kept (x ∷ xs) ys (suc i) l at = place_kept xs ys i l at

-- the item that was handled, and every other as it was
place_handled : (xs : List Logged) (k : ℕ) (how : Handled) (i : ℕ) (l : Logged) → slice_get (handled_at xs k how) i ≡ Some l →
    (slice_get xs i ≡ Some l) ⊎ ((i ≡ k) × ((x : Logged) × (slice_get xs k ≡ Some x) × (l ≡ record { item = x.item; handled = Some how })))
place_handled [] k how i l at = absurd (cc at)
place_handled (x ∷ xs) zero how zero l at = inr (refl, (x, refl, (let same : record { item = x.item; handled = Some how } ≡ l = some_is _ l at in sym same)))
  where
    some_is : (a b : Logged) → Some a ≡ Some b → a ≡ b
    some_is a b is = cc
place_handled (x ∷ xs) zero how (suc i) l at = inl at
place_handled (x ∷ xs) (suc k) how zero l at = inl at
place_handled (x ∷ xs) (suc k) how (suc i) l at =
    elim (place_handled xs k how i l at) [ inl old ↦ inl old | inr new ↦ inr (ap (λ (n : ℕ). suc n) new.0, new.1) ]

place_handled_kept : (xs : List Logged) (k : ℕ) (how : Handled) (i : ℕ) (l : Logged) → slice_get xs i ≡ Some l → (i ≡ k → ⊥) → slice_get (handled_at xs k how) i ≡ Some l
place_handled_kept [] k how i l at apart = absurd (cc at)
place_handled_kept (x ∷ xs) zero how zero l at apart = absurd (apart refl)
place_handled_kept (x ∷ xs) zero how (suc i) l at apart = at
place_handled_kept (x ∷ xs) (suc k) how zero l at apart = at
place_handled_kept (x ∷ xs) (suc k) how (suc i) l at apart = place_handled_kept xs k how i l at (λ same. apart (ap (λ (n : ℕ). suc n) same))

place_handled_now : (xs : List Logged) (k : ℕ) (how : Handled) (x : Logged) → slice_get xs k ≡ Some x → slice_get (handled_at xs k how) k ≡ Some (record { item = x.item; handled = Some how })
place_handled_now [] k how x at = absurd (cc at)
place_handled_now (y ∷ ys) zero how x at = let same : y ≡ x = cc in ap (λ (l : Logged). Some (record { item = l.item; handled = Some how })) same
place_handled_now (y ∷ ys) (suc k) how x at = place_handled_now ys k how x at

-- what was added is not handled
edge_unhandled : (g : Graph) (job : ℕ) (o : Option EdgeRow) (j : ℕ) (l : Logged) (how : Handled) → slice_get (edge_item g job o) j ≡ Some l → l.handled ≡ Some how → ⊥
edge_unhandled g job None j l how at is = cc at
edge_unhandled g job (Some row) zero l how at is =
    let same : unhandled (item.Edge job row (birth_of g row.key.from) (birth_of g row.key.to)) ≡ l = cc in
    let none : None ≡ Some how = ap (λ (x : Logged). x.handled) same ∙ is in cc none
edge_unhandled g job (Some row) (suc j) l how at is = cc at

object_unhandled : (job : ℕ) (o : Option ObjectRow) (j : ℕ) (l : Logged) (how : Handled) → slice_get (object_item job o) j ≡ Some l → l.handled ≡ Some how → ⊥
object_unhandled job None j l how at is = cc at
object_unhandled job (Some row) zero l how at is =
    let same : unhandled (item.Object job row) ≡ l = cc in
    let none : None ≡ Some how = ap (λ (x : Logged). x.handled) same ∙ is in cc none
object_unhandled job (Some row) (suc j) l how at is = cc at

-- an entry that handles the item, with this outcome
pub record HandlesHere (s : State) (what : What) (i : ℕ) (l : Logged) (how : Handled) : Type 0 where
  pub puts : what ≡ Put (job_of l.item) i
  pub at : how.put ≡ s.len
  pub judgement : how.cause ≡ judged s l.item

put_new : (s : State) (job k i : ℕ) (l : Logged) (how : Handled) → MayPut s job k → slice_get (handled_at s.items k (outcome s (slice_get s.items k))) i ≡ Some l → l.handled ≡ Some how →
    (slice_get s.items i ≡ Some l) ⊎ HandlesHere s (Put job k) i l how
put_new s job k i l how may at is =
    elim (place_handled s.items k (outcome s (slice_get s.items k)) i l at) [
      | inl old ↦ inl old
      | inr new ↦ inr (here new.0 new.1.0 new.1.1 new.1.2)
    ]
  where
    some_is : (a b : Handled) → Some a ≡ Some b → a ≡ b
    some_is a b h = cc

    logged_is : (a b : Logged) → Some a ≡ Some b → a ≡ b
    logged_is a b h = cc

    here : i ≡ k → (x : Logged) → slice_get s.items k ≡ Some x → l ≡ record { item = x.item; handled = Some (outcome s (slice_get s.items k)) } → HandlesHere s (Put job k) i l how
    here same x found made =
        let item_is : l.item ≡ may.logged.item = ap (λ (y : Logged). y.item) made ∙ ap (λ (y : Logged). y.item) (logged_is x may.logged (sym found ∙ may.at)) in
        let how_is : how ≡ outcome s (slice_get s.items k) = sym (some_is (outcome s (slice_get s.items k)) how (sym (ap (λ (y : Logged). y.handled) made) ∙ is)) in
        let outcome_is : outcome s (slice_get s.items k) ≡ record { put = s.len; cause = judged s may.logged.item } = ap (outcome s) may.at in
        record {
          puts = ap (λ (j : ℕ). Put j k) (sym may.of_job ∙ ap job_of (sym item_is)) ∙ ap (λ (n : ℕ). Put (job_of l.item) n) (sym same);
          at = ap (λ (h : Handled). h.put) (how_is ∙ outcome_is);
          judgement = ap (λ (h : Handled). h.cause) (how_is ∙ outcome_is) ∙ ap (judged s) (sym item_is);
        }

handled_new : (s : State) (moment : ℕ) (what : What) → is_allowed s moment what ≡ true → (i : ℕ) (l : Logged) (how : Handled) →
    slice_get (items_after s what) i ≡ Some l → l.handled ≡ Some how → (slice_get s.items i ≡ Some l) ⊎ HandlesHere s what i l how
handled_new s moment (Create tag kind x size) line i l how at is = inl at
handled_new s moment (Update tag x size) line i l how at is = inl at
handled_new s moment (Link tag edge from to size) line i l how at is = inl at
handled_new s moment (Unlink tag edge from to name) line i l how at is = inl at
handled_new s moment (Delete tag x name) line i l how at is = inl at
handled_new s moment (Restore tag which) line i l how at is = inl at
handled_new s moment (Expire x) line i l how at is = inl at
handled_new s moment (Cut which edge from to) line i l how at is =
    elim (place_of s.items (edge_item s.graph which (edge_at s.graph (key_of edge from to))) i l at) [
      | inl old ↦ inl old
      | inr new ↦ absurd (edge_unhandled s.graph which (edge_at s.graph (key_of edge from to)) new.0 l how new.1 is)
    ]
handled_new s moment (Erase which x) line i l how at is =
    elim (place_of s.items (object_item which (object_at s.graph x)) i l at) [
      | inl old ↦ inl old
      | inr new ↦ absurd (object_unhandled which (object_at s.graph x) new.0 l how new.1 is)
    ]
handled_new s moment (Put which k) line i l how at is = put_new s which k i l how (may_put_of s which k (slice_get s.items k) refl line) at is
handled_new s moment (Purge which) line i l how at is = inl at

-- a handled item stays as it is
handled_stays : (s : State) (moment : ℕ) (what : What) → is_allowed s moment what ≡ true → (i : ℕ) (l : Logged) →
    slice_get s.items i ≡ Some l → is_some l.handled ≡ true → slice_get (items_after s what) i ≡ Some l
handled_stays s moment (Create tag kind x size) line i l at is = at
handled_stays s moment (Update tag x size) line i l at is = at
handled_stays s moment (Link tag edge from to size) line i l at is = at
handled_stays s moment (Unlink tag edge from to name) line i l at is = at
handled_stays s moment (Delete tag x name) line i l at is = at
handled_stays s moment (Restore tag which) line i l at is = at
handled_stays s moment (Expire x) line i l at is = at
handled_stays s moment (Cut which edge from to) line i l at is = place_kept s.items (edge_item s.graph which (edge_at s.graph (key_of edge from to))) i l at
handled_stays s moment (Erase which x) line i l at is = place_kept s.items (object_item which (object_at s.graph x)) i l at
handled_stays s moment (Put which k) line i l at is =
    let may = may_put_of s which k (slice_get s.items k) refl line in
    place_handled_kept s.items k (outcome s (slice_get s.items k)) i l at (λ same. apart may same)
  where
    not_both : (o : Option Handled) → is_some o ≡ true → is_none o ≡ true → ⊥
    not_both None one two = false≢true one
    not_both (Some h) one two = false≢true two

    logged_is : (a b : Logged) → Some a ≡ Some b → a ≡ b
    logged_is a b h = cc

    apart : MayPut s which k → i ≡ k → ⊥
    apart may same =
        let one : l ≡ may.logged = logged_is l may.logged (sym at ∙ (ap (λ (n : ℕ). slice_get s.items n) same ∙ may.at)) in
        not_both l.handled is (subst (λ (y : Logged). is_none y.handled ≡ true) (sym one) may.waiting)
handled_stays s moment (Purge which) line i l at is = at

stays_run : (s : State) (es : List Entry) → is_legal_from s es ≡ true → (i : ℕ) (l : Logged) → slice_get s.items i ≡ Some l → is_some l.handled ≡ true → slice_get (run s es).items i ≡ Some l
stays_run s [] legal i l at is = at
stays_run s (e ∷ es) legal i l at is =
    let parts = and_parts (is_legal s e) (is_legal_from (step s e) es) legal in
    stays_run (step s e) es parts.1 i l (handled_stays s e.moment e.what (allowed_of s e parts.0) i l at is) is

-- a place in a list of entries where an item is handled
pub record PutPlace (s : State) (es : List Entry) (i : ℕ) (l : Logged) (how : Handled) : Type 0 where
  pub k : ℕ
  pub entry : Entry
  pub there : slice_get es k ≡ Some entry
  pub here : HandlesHere (run s (take k es)) entry.what i l how

handled_from : (s : State) (es : List Entry) → is_legal_from s es ≡ true → (i : ℕ) (l : Logged) (how : Handled) → slice_get (run s es).items i ≡ Some l → l.handled ≡ Some how →
    (slice_get s.items i ≡ Some l) ⊎ PutPlace s es i l how
handled_from s [] legal i l how at is = inl at
handled_from s (e ∷ es) legal i l how at is =
    let parts = and_parts (is_legal s e) (is_legal_from (step s e) es) legal in
    elim (handled_from (step s e) es parts.1 i l how at is) [
      | inl now ↦
          elim (handled_new s e.moment e.what (allowed_of s e parts.0) i l how now is) [
            | inl old ↦ inl old
            | inr here ↦ inr (record { k = 0; entry = e; there = refl; here = here })
          ]
      | inr place ↦ inr (record { k = suc place.k; entry = place.entry; there = place.there; here = place.here })
    ]

-- the length counts the entries
len_take : (s : State) (es : List Entry) (k : ℕ) (e : Entry) → slice_get es k ≡ Some e → (run s (take k es)).len ≡ s.len + k
len_take s [] k e at = absurd (cc at)
len_take s (x ∷ xs) zero e at = omega arith
len_take s (x ∷ xs) (suc k) e at = omega (arith, len_take (step s x) xs k e at)

some_handled : (o : Option Handled) (how : Handled) → o ≡ Some how → is_some o ≡ true
some_handled None how is = absurd (cc is)
some_handled (Some h) how is = refl

-- a put leaves its position in the item
put_leaves : (s : State) (e : Entry) (job i : ℕ) → is_legal s e ≡ true → e.what ≡ Put job i → (l : Logged) × (slice_get (step s e).items i ≡ Some l) × (is_some l.handled ≡ true) × ((how : Handled) → l.handled ≡ Some how → how.put ≡ s.len)
put_leaves s e job i legal is =
    let may = may_put_of s job i (slice_get s.items i) refl (subst (λ (w : What). is_allowed s e.moment w ≡ true) is (allowed_of s e legal)) in (
      record { item = may.logged.item; handled = Some (outcome s (slice_get s.items i)) },
      ap (λ (w : What). slice_get (items_after s w) i) is ∙ place_handled_now s.items i (outcome s (slice_get s.items i)) may.logged may.at,
      refl,
      λ how same. ap (λ (h : Handled). h.put) (sym (some_is (outcome s (slice_get s.items i)) how same)) ∙ put_len (slice_get s.items i),
    )
  where
    some_is : (a b : Handled) → Some a ≡ Some b → a ≡ b
    some_is a b h = cc

    put_len : (o : Option Logged) → (outcome s o).put ≡ s.len
    put_len None = refl
    put_len (Some x) = refl

put_at : (s : State) (es : List Entry) (p : ℕ) (e : Entry) (job i : ℕ) → is_legal_from s es ≡ true → slice_get es p ≡ Some e → e.what ≡ Put job i →
    (l : Logged) (how : Handled) → slice_get (run s es).items i ≡ Some l → l.handled ≡ Some how → how.put ≡ s.len + p
put_at s es p e job i legal there is l how at handled =
    let here = put_leaves (run s (take p es)) e job i (legal_at s es p e legal there) is in
    let after_put : slice_get (run s (take (suc p) es)).items i ≡ Some here.0 = ap (λ (t : State). slice_get t.items i) (run-take_suc s es p e there) ∙ here.1 in
    let later : slice_get (run s es).items i ≡ Some here.0 =
    subst (λ (t : State). slice_get t.items i ≡ Some here.0) (run-take-drop s es (suc p))
    (stays_run (run s (take (suc p) es)) (drop (suc p) es) (legal_drop s es (suc p) legal) i here.0 after_put here.2) in
    let same : here.0 ≡ l = logged_is here.0 l (sym later ∙ at) in
    here.3 how (ap (λ (y : Logged). y.handled) same ∙ handled) ∙ len_take s es p e there
  where
    logged_is : (a b : Logged) → Some a ≡ Some b → a ≡ b
    logged_is a b h = cc

-- a count is above 0 where an element passes
count_at : (q : Logged → Bool) (xs : List Logged) (i : ℕ) (l : Logged) → slice_get xs i ≡ Some l → q l ≡ true → 0 < count_by q xs
count_at q [] i l at one = absurd (cc at)
count_at q (x ∷ xs) zero l at one =
    let same : x ≡ l = cc in
    let here : one_if (q x) ≡ 1 = ap one_if (ap q same ∙ one) in
    omega (arith, sum_by-cons (λ y. one_if (q y)) x xs, here)
  where
    one_if : Bool → ℕ
    one_if b = cond b 1 0
count_at q (x ∷ xs) (suc i) l at one = omega (arith, sum_by-cons (λ y. cond (q y) 1 0) x xs, count_at q xs i l at one)

-- no unhandled item is left of a restored job whose count of them is none
all_handled : (s : State) (job : ℕ) → is_restored s.jobs job ≡ true → left s job ≡ 0 → (i : ℕ) (l : Logged) → slice_get s.items i ≡ Some l → job_of l.item ≡ job → is_some l.handled ≡ true
all_handled s job restored none i l at is = by_handled l.handled refl
  where
    by_handled : (o : Option Handled) → l.handled ≡ o → is_some o ≡ true
    by_handled (Some how) h = refl
    by_handled None h =
        absurd (let positive : 0 < left s job =
        count_at (is_open_of job s.jobs) s.items i l at
        (and_from (eqb (job_of l.item) job) (is_open s.jobs l) (eq-eqb (job_of l.item) job is)
        (and_from (is_none l.handled) (is_restored s.jobs (job_of l.item)) (ap (λ (o : Option Handled). is_none o) h)
        (subst (λ (j : ℕ). is_restored s.jobs j ≡ true) (sym is) restored))) in
        omega arith)

from_zero : (a b : ℕ) → a ≡ 0 + b → a ≡ b
from_zero a b is = omega arith

pub judged_puts : (rules : RuleSet) (h : List Entry) → Legal rules h → PutsAreJudged rules h
judged_puts rules h legal = record {
  one = λ i l how at is.
      elim (handled_from (start rules) h legal i l how at is) [
        | inl before ↦ absurd (cc before)
        | inr place ↦ one_put i l how at is place
      ];
  handled = λ job restored none i l at is. all_handled (after rules h) job restored none i l at is;
}
  where
    one_put : (i : ℕ) (l : Logged) (how : Handled) → slice_get (after rules h).items i ≡ Some l → l.handled ≡ Some how → PutPlace (start rules) h i l how → HasOnePut rules h i l how
    one_put i l how at is place =
        let place_is : how.put ≡ place.k = place.here.at ∙ from_zero _ _ (len_take (start rules) h place.k place.entry place.there) in
        record {
          entry = place.entry;
          there = subst (λ (n : ℕ). slice_get h n ≡ Some place.entry) (sym place_is) place.there;
          puts = place.here.puts;
          judgement = subst (λ (n : ℕ). how.cause ≡ judged (after rules (take n h)) l.item) (sym place_is) place.here.judgement;
          only = λ p job e there puts. sym (from_zero _ _ (put_at (start rules) h p e job i legal there puts l how at is));
        }
