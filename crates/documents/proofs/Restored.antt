-- How many of the first jobs were restored.
use Rattle.std.proofs.Common.{◌≡◌, ℕ, ◌+◌, ◌≤◌, ◌<◌, Bool, true, false, cond, List, [], ◌∷◌, ◌++◌, length, length-append, get_or, take, refl, sym, ap, ◌∙◌, arith}
use Rattle.std.specs.List.{filter}
use Rattle.std.proofs.lemmas.List.{take_more}
use Rattle.std.proofs.lemmas.List.Elements.{filter-append}
use Rattle.delf_model.specs.declared.call.JobLine.{JobLine}
use Rattle.documents.specs.Loads.{is_restored, restored_count}
use Rattle.documents.proofs.Places.{take_past}

one_of : (line : JobLine) (b : Bool) → length (cond b (line ∷ []) []) ≡ cond b 1 0
one_of line true = refl
one_of line false = refl

count_next : (lines : List JobLine) (i : ℕ) (line : JobLine) → i < length lines → line ≡ get_or lines i line →
    restored_count (take (i + 1) lines) ≡ restored_count (take i lines) + cond (is_restored line) 1 0
count_next lines i line below is =
    ap restored_count (take_more lines i line below ∙ ap (λ (x : JobLine). take i lines ++ x ∷ []) (sym is))
    ∙ ap length (filter-append is_restored (take i lines) (line ∷ []))
    ∙ length-append (filter is_restored (take i lines)) (cond (is_restored line) (line ∷ []) [])
    ∙ ap (λ (n : ℕ). restored_count (take i lines) + n) (one_of line (is_restored line))

pub count_grows : (lines : List JobLine) (i before : ℕ) (line : JobLine) → i < length lines → line ≡ get_or lines i line → is_restored line ≡ true →
    before ≡ restored_count (take i lines) → before + 1 ≡ restored_count (take (i + 1) lines)
count_grows lines i before line below is restored so_far =
    ap (λ (n : ℕ). n + 1) so_far ∙ ap (λ (b : Bool). restored_count (take i lines) + cond b 1 0) (sym restored) ∙ sym (count_next lines i line below is)

pub count_stays : (lines : List JobLine) (i before : ℕ) (line : JobLine) → i < length lines → line ≡ get_or lines i line → is_restored line ≡ false →
    before ≡ restored_count (take i lines) → before ≡ restored_count (take (i + 1) lines)
count_stays lines i before line below is unrestored so_far =
    let more : restored_count (take (i + 1) lines) ≡ restored_count (take i lines) + 0 =
    count_next lines i line below is ∙ ap (λ (b : Bool). restored_count (take i lines) + cond b 1 0) unrestored in
    omega (arith, so_far)

pub count_all : (lines : List JobLine) (i count : ℕ) → length lines ≤ i → count ≡ restored_count (take i lines) → count ≡ restored_count lines
count_all lines i count past so_far = so_far ∙ ap restored_count (take_past lines i past)
