-- Walks over the items of a job, from the last one down.
use Rattle.std.proofs.Common.{◌≡◌, ℕ, zero, suc, ◌+◌, ◌<◌, ◌≤◌, Bool, true, false, cond, not, ◌&&◌, ◌||◌, List, [], ◌∷◌, ◌++◌, map, length, get_or, take, Option, Some, None, is_some, refl, sym, ap, ◌∙◌, arith}
use Rattle.std.specs.Prelude.{nat_eq, nat_lt, slice_get, is_none}
use Rattle.std.specs.List.{list_all}
use Rattle.std.proofs.lemmas.Bool.Decides.{nat_tests}
use Rattle.delf_model.specs.declared.call.Listed.{Listed}
use Rattle.delf_model.specs.declared.rows.Item.{Item}
use Rattle.delf_model.specs.declared.rows.Item.TheVariants.{Object, Edge}
use Rattle.delf_model.specs.State.{Logged, job_of}
use Rattle.std.specs.Option.{option_or}
use Rattle.delf_model.specs.Legal.{is_handled_end, is_end_item}
use Rattle.delf_model.specs.Order.{last_place}
use Rattle.delf_model.specs.Report.{is_of_job, listed_from, listed_by}
use Rattle.job_table.specs.declared.items.Kept.{Kept}
use Rattle.job_table.specs.declared.spans.Span.{Span}
use Rattle.job_table.specs.Items.{is_unhandled_of}
use Rattle.job_table.specs.Parts.{logged_of, ItemPart}
use Rattle.job_table.specs.Spans.{Spans}

-- what holds of each element from this number on, and of each element before it

abbrev pub FailsFrom : (Logged → Bool) → List Logged → ℕ → Type 0
FailsFrom p xs n = (k : ℕ) (x : Logged) → slice_get xs k ≡ Some x → n ≤ k → p x ≡ false

abbrev pub FailsBefore : (Logged → Bool) → List Logged → ℕ → Type 0
FailsBefore p xs n = (k : ℕ) (x : Logged) → slice_get xs k ≡ Some x → k < n → p x ≡ false

pub one_more : (p : Logged → Bool) (xs : List Logged) (i : ℕ) (x : Logged) → FailsFrom p xs (i + 1) → slice_get xs i ≡ Some x → p x ≡ false → FailsFrom p xs i
one_more p xs i x f e n k y g l = go (nat_lt i k) refl
  where
    go : (b : Bool) → nat_lt i k ≡ b → p y ≡ false
    go true h = f k y g (grind (arith, nat_tests, h))
    go false h =
        let same : k ≡ i = grind (arith, nat_tests, h, l) in
        let here : Some y ≡ Some x = sym g ∙ ap (slice_get xs) same ∙ e in
        let is : y ≡ x = cc here in ap p is ∙ n

pub one_more_below : (p : Logged → Bool) (xs : List Logged) (i high : ℕ) (x : Logged) → ((k : ℕ) (y : Logged) → slice_get xs k ≡ Some y → i + 1 ≤ k → k < high → p y ≡ false) → slice_get xs i ≡ Some x → p x ≡ false →
    (k : ℕ) (y : Logged) → slice_get xs k ≡ Some y → i ≤ k → k < high → p y ≡ false
one_more_below p xs i high x f e n k y g l m = go (nat_lt i k) refl
  where
    go : (b : Bool) → nat_lt i k ≡ b → p y ≡ false
    go true h = f k y g (grind (arith, nat_tests, h)) m
    go false h =
        let same : k ≡ i = grind (arith, nat_tests, h, l) in
        let here : Some y ≡ Some x = sym g ∙ ap (slice_get xs) same ∙ e in
        let is : y ≡ x = cc here in ap p is ∙ n

all_fail : (p : Logged → Bool) (xs : List Logged) (n i : ℕ) → FailsFrom p xs n → FailsBefore p xs i → n ≤ i → (k : ℕ) (x : Logged) → slice_get xs k ≡ Some x → p x ≡ false
all_fail p xs n i from before l k x e = go (nat_lt k i) refl
  where
    go : (b : Bool) → nat_lt k i ≡ b → p x ≡ false
    go true h = before k x e (grind (arith, nat_tests, h))
    go false h = from k x e (grind (arith, nat_tests, h, l))

-- the greatest place that passes

last_none : (p : Logged → Bool) (n : ℕ) (xs : List Logged) → ((k : ℕ) (x : Logged) → slice_get xs k ≡ Some x → p x ≡ false) → last_place p n xs ≡ None
last_none p n [] h = refl
last_none p n (x ∷ xs) h =
    ap (λ (o : Option ℕ). option_or o (cond (p x) (Some n) None)) (last_none p (n + 1) xs (λ k y e. h (suc k) y e)) ∙ ap (λ (b : Bool). cond {A = Option ℕ} b (Some n) None) (h zero x refl)

last_here : (p : Logged → Bool) (n : ℕ) (xs : List Logged) (i : ℕ) (x : Logged) → slice_get xs i ≡ Some x → p x ≡ true → FailsFrom p xs (i + 1) → last_place p n xs ≡ Some (n + i)
last_here p n [] i x e t f = absurd (cc e)
last_here p n (y ∷ ys) zero x e t f =
    let same : y ≡ x = cc e in
    let is : p y ≡ true = ap p same ∙ t in
    let at : n ≡ n + 0 = omega arith in
    ap (λ (o : Option ℕ). option_or o (cond (p y) (Some n) None)) (last_none p (n + 1) ys (λ k z g. f (suc k) z g (omega arith))) ∙ ap (λ (b : Bool). cond {A = Option ℕ} b (Some n) None) is ∙ ap (λ (m : ℕ). Some m) at
last_here p n (y ∷ ys) (suc i) x e t f =
    let at : (n + 1) + i ≡ n + suc i = omega arith in
    ap (λ (o : Option ℕ). option_or o (cond (p y) (Some n) None)) (last_here p (n + 1) ys i x e t (λ k z g l. f (suc k) z g (omega (arith, l)))) ∙ ap (λ (m : ℕ). Some m) at

pub found_last : (p : Logged → Bool) (xs : List Logged) (i : ℕ) (x : Logged) → slice_get xs i ≡ Some x → p x ≡ true → FailsFrom p xs (i + 1) → Some i ≡ last_place p 0 xs
found_last p xs i x e t f = let at : i ≡ 0 + i = omega arith in ap (λ (m : ℕ). Some m) at ∙ sym (last_here p 0 xs i x e t f)

pub found_none : (p : Logged → Bool) (xs : List Logged) (n i : ℕ) → FailsFrom p xs n → FailsBefore p xs i → n ≤ i → None ≡ last_place p 0 xs
found_none p xs n i from before l = sym (last_none p 0 xs (all_fail p xs n i from before l))

-- the listed items

listed_nothing : (job j : ℕ) (xs : List Logged) → ((k : ℕ) (x : Logged) → slice_get xs k ≡ Some x → is_of_job job x ≡ false) → listed_from job j xs ≡ []
listed_nothing job j [] h = refl
listed_nothing job j (x ∷ xs) h =
    ap (λ (l : List Listed). l ++ cond (is_of_job job x) (listed_by j x.item x.handled) []) (listed_nothing job (j + 1) xs (λ k y e. h (suc k) y e)) ∙ ap (λ (b : Bool). cond b (listed_by j x.item x.handled) []) (h zero x refl)

pub listed_past : (job j n : ℕ) (xs : List Logged) → FailsFrom (is_of_job job) xs n → listed_from job j (take n xs) ≡ listed_from job j xs
listed_past job j zero [] f = refl
listed_past job j zero (x ∷ xs) f = sym (listed_nothing job j (x ∷ xs) (λ k y e. f k y e (omega arith)))
listed_past job j (suc n) [] f = refl
listed_past job j (suc n) (x ∷ xs) f =
    ap (λ (l : List Listed). l ++ cond (is_of_job job x) (listed_by j x.item x.handled) []) (listed_past job (j + 1) n xs (λ k y e l. f (suc k) y e (omega (arith, l))))

pub listed_front : (job j i : ℕ) (xs : List Logged) → FailsBefore (is_of_job job) xs i → listed_from job j (take i xs) ≡ []
listed_front job j zero xs f = refl
listed_front job j (suc i) [] f = refl
listed_front job j (suc i) (x ∷ xs) f =
    ap (λ (l : List Listed). l ++ cond (is_of_job job x) (listed_by j x.item x.handled) []) (listed_front job (j + 1) i xs (λ k y e l. f (suc k) y e (omega (arith, l))))
    ∙ ap (λ (b : Bool). cond b (listed_by j x.item x.handled) []) (f zero x refl (omega arith))

pub before_less : (p : Logged → Bool) (xs : List Logged) (m n : ℕ) → m ≤ n → FailsBefore p xs n → FailsBefore p xs m
before_less p xs m n l f k x e h = f k x e (omega (arith, h, l))

-- every element passes

pub each_handled : (q : Logged → Bool) (xs : List Logged) → ((k : ℕ) (x : Logged) → slice_get xs k ≡ Some x → not (q x) ≡ false) → true ≡ list_all q xs
each_handled q [] h = refl
each_handled q (x ∷ xs) h = go (q x) (h zero x refl) (each_handled q xs (λ k y e. h (suc k) y e))
  where
    go : (b : Bool) → not b ≡ false → true ≡ list_all q xs → true ≡ (b && list_all q xs)
    go true n more = more
    go false n more = absurd (cc n)

pub all_handled : (q : Logged → Bool) (xs : List Logged) (n i : ℕ) → FailsFrom (λ x. not (q x)) xs n → FailsBefore (λ x. not (q x)) xs i → n ≤ i → true ≡ list_all q xs
all_handled q xs n i from before l = each_handled q xs (all_fail (λ x. not (q x)) xs n i from before l)

pub one_left : (q : Logged → Bool) (xs : List Logged) (i : ℕ) (x : Logged) → slice_get xs i ≡ Some x → q x ≡ false → false ≡ list_all q xs
one_left q [] i x e h = absurd (cc e)
one_left q (y ∷ ys) zero x e h = let same : y ≡ x = cc e in sym (ap (λ (b : Bool). b && list_all q ys) (ap q same ∙ h))
one_left q (y ∷ ys) (suc i) x e h = go (q y) (one_left q ys i x e h)
  where
    go : (b : Bool) → false ≡ list_all q ys → false ≡ (b && list_all q ys)
    go true more = more
    go false more = refl

-- the lesser of two numbers is within what the second is
pub lesser_within : (b : Bool) (n end m most : ℕ) → nat_lt n end ≡ b → m ≡ cond (nat_lt n end) n end → end ≤ most → m ≤ most
lesser_within b n end m most h e l = go b h
  where
    go : (c : Bool) → nat_lt n end ≡ c → m ≤ most
    go true k = let is : m ≡ n = e ∙ ap (λ (d : Bool). cond d n end) k in let less : n < end = grind (arith, nat_tests, k) in omega (arith, is, less, l)
    go false k = let is : m ≡ end = e ∙ ap (λ (d : Bool). cond d n end) k in omega (arith, is, l)

-- what a span says

module _ (xs : List Logged) (job : ℕ) (span : Span) (spans : Spans xs job span) where
  pub others_from : FailsFrom (is_of_job job) xs span.end
  others_from k x e l = go (nat_eq (job_of x.item) job) refl
    where
      go : (b : Bool) → nat_eq (job_of x.item) job ≡ b → nat_eq (job_of x.item) job ≡ false
      go true h = absurd (let at : job_of x.item ≡ job = grind (arith, nat_tests, h) in let s = spans k x e at in let d = s.end in omega (arith, d, l))
      go false h = h

  pub others_before : FailsBefore (is_of_job job) xs span.first
  others_before k x e l = go (nat_eq (job_of x.item) job) refl
    where
      go : (b : Bool) → nat_eq (job_of x.item) job ≡ b → nat_eq (job_of x.item) job ≡ false
      go true h = absurd (let at : job_of x.item ≡ job = grind (arith, nat_tests, h) in let s = spans k x e at in let d = s.first in omega (arith, d, l))
      go false h = h

  pub listed_within : (n : ℕ) → n ≡ span.end → listed_from job 0 (take n xs) ≡ listed_from job 0 xs
  listed_within n e = ap (λ (m : ℕ). listed_from job 0 (take m xs)) e ∙ listed_past job 0 span.end xs others_from

  pub listed_upto : (n m : ℕ) → m ≡ cond (nat_lt n span.end) n span.end → listed_from job 0 (take m xs) ≡ listed_from job 0 (take n xs)
  listed_upto n m e = ap (λ (k : ℕ). listed_from job 0 (take k xs)) e ∙ go (nat_lt n span.end) refl
    where
      go : (b : Bool) → nat_lt n span.end ≡ b → listed_from job 0 (take (cond b n span.end) xs) ≡ listed_from job 0 (take n xs)
      go true h = refl
      go false h =
          let up : span.end ≤ n = grind (arith, nat_tests, h) in
          listed_past job 0 span.end xs others_from ∙ sym (listed_past job 0 n xs (λ k x f l. others_from k x f (omega (arith, up, l))))

  pub listed_end : (i : ℕ) → i ≤ span.first → listed_from job 0 (take i xs) ≡ []
  listed_end i l = listed_front job 0 i xs (before_less (is_of_job job) xs i span.first l others_before)

  pub handled_from : FailsFrom (is_unhandled_of job) xs span.left
  handled_from k x e l = go (nat_eq (job_of x.item) job) refl (is_none x.handled) refl
    where
      go : (a : Bool) → nat_eq (job_of x.item) job ≡ a → (b : Bool) → is_none x.handled ≡ b → (a && b) ≡ false
      go true h true g = absurd (let at : job_of x.item ≡ job = grind (arith, nat_tests, h) in let s = spans k x e at in let d = s.left g in omega (arith, d, l))
      go true h false g = refl
      go false h b g = refl

  pub not_before : FailsBefore (is_unhandled_of job) xs span.first
  not_before k x e l = ap (λ (b : Bool). b && is_none x.handled) (others_before k x e l)

  ends : (id birth : ℕ) (x : Logged) → is_of_job job x ≡ false → not (is_handled_end job id birth x) ≡ false
  ends id birth x h = go x.item h
    where
      go : (it : Item) → nat_eq (job_of it) job ≡ false → not (not (is_end_item job id birth it) || is_some x.handled) ≡ false
      go (Object other row) n = ap (λ (b : Bool). not (not (b && nat_eq row.id id && nat_eq row.birth birth) || is_some x.handled)) n
      go (Edge other row a b) n = refl

  pub ends_from : (id birth : ℕ) → FailsFrom (λ x. not (is_handled_end job id birth x)) xs span.end
  ends_from id birth k x e l = ends id birth x (others_from k x e l)

  pub ends_before : (id birth : ℕ) → FailsBefore (λ x. not (is_handled_end job id birth x)) xs span.first
  ends_before id birth k x e l = ends id birth x (others_before k x e l)

-- a kept item at its place
pub item_here : (kept : List Kept) (now : ItemPart) (spare i : ℕ) (got : Kept) → record { list = map logged_of kept; spare = spare } ≡ now → i < length kept → got ≡ get_or kept i got → slice_get now.list i ≡ Some (logged_of got)
item_here kept now spare i got v l g = ap (λ (n : ItemPart). slice_get n.list i) (sym v) ∙ at kept i l ∙ ap (λ (k : Kept). Some (logged_of k)) (sym g)
  where
    at : (xs : List Kept) (k : ℕ) → k < length xs → slice_get (map logged_of xs) k ≡ Some (logged_of (get_or xs k got))
    at [] k h = absurd (omega arith)
    at (x ∷ xs) zero h = refl
    at (x ∷ xs) (suc k) h = at xs k (omega arith)
