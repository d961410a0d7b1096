-- The listed items of a job, by place.
use Rattle.std.proofs.Common.{◌≡◌, ℕ, zero, suc, ◌+◌, ◌-◌, ◌<◌, ◌≤◌, Bool, true, false, cond, ◌&&◌, List, ◌∷◌, ◌++◌, [], map, length, get_or, take, Option, Some, None, is_some, refl, sym, ◌∙◌, ap, arith, append_assoc}
use Rattle.std.specs.Prelude.{nat_eq, slice_get}
use Rattle.delf_model.specs.declared.call.Listed.{Listed}
use Rattle.delf_model.specs.declared.call.Cause.{Cause}
use Rattle.delf_model.specs.State.{Logged, Handled}
use Rattle.delf_model.specs.Report.{listed_from, listed_by, listed_with, is_of_job}
use Rattle.job_table.specs.Parts.{logged_of, ItemPart}
use Rattle.job_table.specs.Items.{listing_of, listing_by, listing_with}
use Rattle.job_table.specs.declared.items.Kept.{Kept}
use Rattle.job_table.proofs.Begins.{append_none}
use Rattle.job_table.proofs.Places.{take_one, get_map, map_length}

abbrev pub list_of : Option Listed → List Listed
list_of None = []
list_of (Some x) = x ∷ []

listing_is : (job n : ℕ) (y : Logged) → cond (is_of_job job y) (listed_by n y.item y.handled) [] ≡ list_of (listing_of job n y)
listing_is job n y = go (is_of_job job y) y.handled
  where
    inner : (h : Option Cause) → listed_with n y.item h ≡ list_of (listing_with n y.item h)
    inner None = refl
    inner (Some c) = refl

    by : (h : Option Handled) → listed_by n y.item h ≡ list_of (listing_by n y.item h)
    by None = refl
    by (Some how) = inner how.cause

    go : (b : Bool) (h : Option Handled) → cond b (listed_by n y.item h) [] ≡ list_of (cond b (listing_by n y.item h) None)
    go true h = by h
    go false h = refl

listed_push : (job j : ℕ) (xs : List Logged) (y : Logged) →
    listed_from job j (xs ++ y ∷ []) ≡ list_of (listing_of job (j + length xs) y) ++ listed_from job j xs
listed_push job j [] y =
    let same : j ≡ j + 0 = omega arith in
    listing_is job j y ∙ ap (λ (n : ℕ). list_of (listing_of job n y)) same ∙ sym (append_none (list_of (listing_of job (j + 0) y)))
listed_push job j (x ∷ xs) y =
    let same : (j + 1) + length xs ≡ j + length (x ∷ xs) = omega arith in
    ap (λ (l : List Listed). l ++ cond (is_of_job job x) (listed_by j x.item x.handled) []) (listed_push job (j + 1) xs y ∙ ap (λ (n : ℕ). list_of (listing_of job n y) ++ listed_from job (j + 1) xs) same)
    ∙ append_assoc (list_of (listing_of job (j + length (x ∷ xs)) y)) (listed_from job (j + 1) xs) (cond (is_of_job job x) (listed_by j x.item x.handled) [])

pub length_take : {A : Type 0} (xs : List A) (i : ℕ) → i ≤ length xs → length (take i xs) ≡ i
length_take xs zero l = refl
length_take [] (suc i) l = absurd (omega arith)
length_take (x ∷ xs) (suc i) l = ap suc (length_take xs i (omega arith))

-- the listed items up to one item more
pub listed_more : (job i : ℕ) (xs : List Logged) (y : Logged) → i < length xs → get_or xs i y ≡ y →
    listed_from job 0 (take (i + 1) xs) ≡ list_of (listing_of job i y) ++ listed_from job 0 (take i xs)
listed_more job i xs y l g =
    let count : 0 + length (take i xs) ≡ i = let c = length_take xs i (omega arith) in omega (arith, c) in
    ap (listed_from job 0) (take_one xs i y l ∙ ap (λ (v : Logged). take i xs ++ v ∷ []) g)
    ∙ listed_push job 0 (take i xs) y ∙ ap (λ (n : ℕ). list_of (listing_of job n y) ++ listed_from job 0 (take i xs)) count

pub found_first : (found : Option Listed) (rest : List Listed) (left : ℕ) (answer : Option Listed) → slice_get (list_of found ++ rest) left ≡ answer →
    is_some found ≡ true → left ≡ 0 → found ≡ answer
found_first None rest left answer e s z = absurd (cc s)
found_first (Some x) rest left answer e s z = sym (ap (slice_get (x ∷ rest)) z) ∙ e

pub found_later : (found : Option Listed) (rest : List Listed) (left : ℕ) (answer : Option Listed) → slice_get (list_of found ++ rest) left ≡ answer →
    (is_some found && nat_eq left 0) ≡ false → slice_get rest (cond (is_some found) (left - 1) left) ≡ answer
found_later None rest left answer e s = e
found_later (Some x) rest zero answer e s = absurd (cc s)
found_later (Some x) rest (suc left) answer e s = let same : suc left - 1 ≡ left = omega arith in ap (slice_get rest) same ∙ e

pub found_not : (found : Option Listed) (rest : List Listed) (left : ℕ) (answer : Option Listed) → slice_get (list_of found ++ rest) left ≡ answer → is_some found ≡ false → slice_get rest left ≡ answer
found_not None rest left answer e n = e
found_not (Some x) rest left answer e n = absurd (cc n)

-- an item of the part at its place
pub kept_at : (kept items : List Kept) (now : ItemPart) (spare i : ℕ) (got : Kept) → record { list = map logged_of kept; spare = spare } ≡ now → got ≡ get_or kept i got →
    get_or now.list i (logged_of got) ≡ logged_of got
kept_at kept items now spare i got v g =
    ap (λ (n : ItemPart). get_or n.list i (logged_of got)) (sym v) ∙ get_map logged_of kept i got ∙ ap logged_of (sym g)

pub kept_len : (kept : List Kept) (now : ItemPart) (spare : ℕ) → record { list = map logged_of kept; spare = spare } ≡ now → length now.list ≡ length kept
kept_len kept now spare v = ap (λ (n : ItemPart). length n.list) (sym v) ∙ map_length logged_of kept

-- one item further down
pub listed_step : (kept : List Kept) (now : ItemPart) (spare job n left : ℕ) (got : Kept) (found answer : Option Listed) → record { list = map logged_of kept; spare = spare } ≡ now →
    0 < n → n ≤ length now.list → got ≡ get_or kept (n - 1) got → found ≡ listing_of job (n - 1) (logged_of got) →
    slice_get (listed_from job 0 (take n now.list)) left ≡ answer →
    slice_get (list_of found ++ listed_from job 0 (take (n - 1) now.list)) left ≡ answer
listed_step kept now spare job n left got found answer v some within g f e =
    let up : n ≡ (n - 1) + 1 = omega arith in
    let short : n - 1 < length now.list = omega arith in
    ap (λ (o : Option Listed). slice_get (list_of o ++ listed_from job 0 (take (n - 1) now.list)) left) f
    ∙ sym (ap (λ (l : List Listed). slice_get l left) (listed_more job (n - 1) now.list (logged_of got) short (kept_at kept kept now spare (n - 1) got v g)))
    ∙ ap (λ (k : ℕ). slice_get (listed_from job 0 (take k now.list)) left) (sym up) ∙ e
