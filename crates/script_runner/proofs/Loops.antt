-- A text that grows line by line, and the lines of jobs by age.
use Rattle.std.proofs.Common.{◌≡◌, ℕ, zero, suc, ◌+◌, ◌≤◌, ◌<◌, Option, Some, None, List, [], ◌∷◌, ◌++◌, length, get_or, take, flat_map, refl, sym, ap, ◌∙◌, arith, add-one, append-nil}
use Rattle.std.proofs.lemmas.List.{take_more, flat_map_more, length-take, length-map}
use Rattle.std.specs.Prelude.{map, slice_get, option_to_list}
use Rattle.delf_model.specs.declared.call.JobLine.{JobLine}
use Rattle.delf_model.specs.State.{State, JobRow}
use Rattle.delf_model.specs.Report.{job_line, job_at, line_of_row}
use Rattle.documents.proofs.Places.{slice_past, take_past}

-- an element more, known by its place

slice_suc : {A : Type 0} (xs : List A) (i : ℕ) (x : A) → slice_get xs i ≡ Some x → take (suc i) xs ≡ take i xs ++ x ∷ []
slice_suc [] i x is = absurd (cc is)
slice_suc (y ∷ ys) zero x is = let same : y ≡ x = cc in ap (λ (z : _). z ∷ []) same
slice_suc (y ∷ ys) (suc i) x is = ap (λ (zs : List _). y ∷ zs) (slice_suc ys i x is)

slice_more : {A : Type 0} (xs : List A) (i : ℕ) (x : A) → slice_get xs i ≡ Some x → take (i + 1) xs ≡ take i xs ++ x ∷ []
slice_more xs i x is = ap (λ (n : ℕ). take n xs) (add-one i) ∙ slice_suc xs i x is

flat_map-snoc : {A : Type 0} (f : A → List ℕ) (xs : List A) (x : A) → flat_map f (xs ++ x ∷ []) ≡ flat_map f xs ++ f x
flat_map-snoc f xs x = sym (flat_map_more f [] xs x)

-- the text with the line of one element more
pub text_grows : {A : Type 0} (f : A → List ℕ) (xs : List A) (i : ℕ) (x : A) (before after line : List ℕ) → i < length xs → x ≡ get_or xs i x →
    before ≡ flat_map f (take i xs) → line ≡ f x → after ≡ before ++ line → after ≡ flat_map f (take (i + 1) xs)
text_grows f xs i x before after line below is so_far said grown =
    grown ∙ ap (λ (t : List ℕ). t ++ line) so_far ∙ ap (λ (t : List ℕ). flat_map f (take i xs) ++ t) said
    ∙ sym (flat_map-snoc f (take i xs) x)
    ∙ ap (flat_map f) (sym (take_more xs i x below ∙ ap (λ (y : _). take i xs ++ y ∷ []) (sym is)))

pub text_grows_at : {A : Type 0} (f : A → List ℕ) (xs : List A) (i : ℕ) (x : A) (before after line : List ℕ) → slice_get xs i ≡ Some x →
    before ≡ flat_map f (take i xs) → line ≡ f x → after ≡ before ++ line → after ≡ flat_map f (take (i + 1) xs)
text_grows_at f xs i x before after line is so_far said grown =
    grown ∙ ap (λ (t : List ℕ). t ++ line) so_far ∙ ap (λ (t : List ℕ). flat_map f (take i xs) ++ t) said
    ∙ sym (flat_map-snoc f (take i xs) x) ∙ ap (flat_map f) (sym (slice_more xs i x is))

-- job lines

line_at : (s : State) (rows : List JobRow) (i : ℕ) (line : JobLine) → line_of_row s (slice_get rows i) ≡ Some line → slice_get (map (job_line s) rows) i ≡ Some line
line_at s [] i line is = is
line_at s (x ∷ xs) zero line is = is
line_at s (x ∷ xs) (suc i) line is = line_at s xs i line is

past_at : (s : State) (o : Option JobRow) → line_of_row s o ≡ None → o ≡ None
past_at s None is = refl
past_at s (Some row) is = absurd (cc is)

-- the lines so far with one more
pub lines_grow : (s : State) (i : ℕ) (line : JobLine) (before after : List JobLine) → Some line ≡ job_at s i →
    before ≡ take i (map (job_line s) s.jobs) → after ≡ before ++ line ∷ [] → after ≡ take (i + 1) (map (job_line s) s.jobs)
lines_grow s i line before after is so_far grown =
    grown ∙ ap (λ (ls : List JobLine). ls ++ line ∷ []) so_far ∙ sym (slice_more (map (job_line s) s.jobs) i line (line_at s s.jobs i line (sym is)))

map_past : (s : State) (rows : List JobRow) (i : ℕ) → slice_get rows i ≡ None → slice_get (map (job_line s) rows) i ≡ None
map_past s [] i is = refl
map_past s (x ∷ xs) zero is = absurd (cc is)
map_past s (x ∷ xs) (suc i) is = map_past s xs i is

-- past the last job there is none to add
pub lines_past : (s : State) (i : ℕ) (before : List JobLine) → None ≡ job_at s i → before ≡ take i (map (job_line s) s.jobs) →
    before ≡ take (i + 1) (map (job_line s) s.jobs)
lines_past s i before is so_far =
    let all = map (job_line s) s.jobs in
    let past : take i all ≡ all = slice_past all i (map_past s s.jobs i (past_at s (slice_get s.jobs i) (sym is))) in
    so_far ∙ past ∙ sym (take_past all (i + 1) (longer all i past))
  where
    longer : (all : List JobLine) (i : ℕ) → take i all ≡ all → length all ≤ i + 1
    longer all i past = omega (arith, ap length past, length-take i all)

pub lines_next : (s : State) (i : ℕ) (o : Option JobLine) (before after : List JobLine) → o ≡ job_at s i → before ≡ take i (map (job_line s) s.jobs) →
    after ≡ before ++ option_to_list o → after ≡ take (i + 1) (map (job_line s) s.jobs)
lines_next s i None before after is so_far next = next ∙ append-nil before ∙ lines_past s i before is so_far
lines_next s i (Some line) before after is so_far next = lines_grow s i line before after is so_far next

pub lines_all : (s : State) (n : ℕ) (lines : List JobLine) → length s.jobs ≤ n → lines ≡ take n (map (job_line s) s.jobs) → lines ≡ map (job_line s) s.jobs
lines_all s n lines few so_far =
    so_far ∙ take_past (map (job_line s) s.jobs) n (omega (arith, length-map s.jobs (job_line s)))
