-- Histories: one entry more, a part of one, and what holds at each position.
use Rattle.std.proofs.Common.{◌≡◌, ℕ, zero, suc, true, List, [], ◌∷◌, ◌++◌, take, drop, Some, refl, sym, ap, subst, add-one}
use Rattle.std.proofs.lemmas.Bool.{and_parts, and_from}
use Rattle.std.specs.Prelude.{slice_get}
use Rattle.delf_model.specs.declared.entry.Entry.{Entry}
use Rattle.delf_model.specs.declared.entry.What.{What}
use Rattle.delf_model.specs.RuleSet.{RuleSet}
use Rattle.delf_model.specs.State.{State, start}
use Rattle.delf_model.specs.Step.{step, run, after}
use Rattle.delf_model.specs.Legal.{is_legal, is_legal_from, Legal, EachStep}

pub run-append : (s : State) (es fs : List Entry) → run s (es ++ fs) ≡ run (run s es) fs
run-append s [] fs = refl
run-append s (e ∷ es) fs = run-append (step s e) es fs

-- the state after a history with one entry more is one step of the state before
pub after_push : (rules : RuleSet) (h : List Entry) (e : Entry) → after rules (h ++ e ∷ []) ≡ step (after rules h) e
after_push rules h e = run-append (start rules) h (e ∷ [])

pub legal-append : (s : State) (es fs : List Entry) → is_legal_from s es ≡ true → is_legal_from (run s es) fs ≡ true → is_legal_from s (es ++ fs) ≡ true
legal-append s [] fs one two = two
legal-append s (e ∷ es) fs one two =
    and_from (is_legal s e) (is_legal_from (step s e) (es ++ fs)) (and_parts (is_legal s e) (is_legal_from (step s e) es) one).0
    (legal-append (step s e) es fs (and_parts (is_legal s e) (is_legal_from (step s e) es) one).1 two)

-- a legal history stays legal with a legal entry
pub Legal_push : (rules : RuleSet) (h : List Entry) (e : Entry) → Legal rules h → is_legal (after rules h) e ≡ true → Legal rules (h ++ e ∷ [])
Legal_push rules h e legal next =
    legal-append (start rules) h (e ∷ []) legal (and_from (is_legal (after rules h) e) true next refl)

-- the first part of a legal list is legal, and the rest is legal from there
pub legal_first : (s : State) (es fs : List Entry) → is_legal_from s (es ++ fs) ≡ true → is_legal_from s es ≡ true
legal_first s [] fs legal = refl
legal_first s (e ∷ es) fs legal =
    and_from (is_legal s e) (is_legal_from (step s e) es) (and_parts (is_legal s e) (is_legal_from (step s e) (es ++ fs)) legal).0
    (legal_first (step s e) es fs (and_parts (is_legal s e) (is_legal_from (step s e) (es ++ fs)) legal).1)

pub legal_rest : (s : State) (es fs : List Entry) → is_legal_from s (es ++ fs) ≡ true → is_legal_from (run s es) fs ≡ true
legal_rest s [] fs legal = legal
legal_rest s (e ∷ es) fs legal =
    legal_rest (step s e) es fs (and_parts (is_legal s e) (is_legal_from (step s e) (es ++ fs)) legal).1

pub legal_take : (s : State) (es : List Entry) (p : ℕ) → is_legal_from s es ≡ true → is_legal_from s (take p es) ≡ true
legal_take s es zero legal = refl
legal_take s [] (suc p) legal = refl
legal_take s (e ∷ es) (suc p) legal =
    and_from (is_legal s e) (is_legal_from (step s e) (take p es)) (and_parts (is_legal s e) (is_legal_from (step s e) es) legal).0
    (legal_take (step s e) es p (and_parts (is_legal s e) (is_legal_from (step s e) es) legal).1)

pub legal_drop : (s : State) (es : List Entry) (p : ℕ) → is_legal_from s es ≡ true → is_legal_from (run s (take p es)) (drop p es) ≡ true
legal_drop s es zero legal = legal
legal_drop s [] (suc p) legal = refl
legal_drop s (e ∷ es) (suc p) legal =
    legal_drop (step s e) es p (and_parts (is_legal s e) (is_legal_from (step s e) es) legal).1

pub run-take-drop : (s : State) (es : List Entry) (p : ℕ) → run (run s (take p es)) (drop p es) ≡ run s es
run-take-drop s es zero = refl
run-take-drop s [] (suc p) = refl
run-take-drop s (e ∷ es) (suc p) = run-take-drop (step s e) es p

-- the state after one entry more of a list
pub run-take_suc : (s : State) (es : List Entry) (p : ℕ) (e : Entry) → slice_get es p ≡ Some e → run s (take (suc p) es) ≡ step (run s (take p es)) e
run-take_suc s [] p e at = absurd (cc at)
run-take_suc s (x ∷ xs) zero e at = let is : x ≡ e = cc in ap (λ y. step s y) is
run-take_suc s (x ∷ xs) (suc p) e at = run-take_suc (step s x) xs p e at

-- an entry of a legal list is legal where it stands
pub legal_at : (s : State) (es : List Entry) (p : ℕ) (e : Entry) → is_legal_from s es ≡ true → slice_get es p ≡ Some e → is_legal (run s (take p es)) e ≡ true
legal_at s [] p e legal at = absurd (cc at)
legal_at s (x ∷ xs) zero e legal at =
    let is : x ≡ e = cc in subst (λ y. is_legal s y ≡ true) is (and_parts (is_legal s x) (is_legal_from (step s x) xs) legal).0
legal_at s (x ∷ xs) (suc p) e legal at =
    legal_at (step s x) xs p e (and_parts (is_legal s x) (is_legal_from (step s x) xs) legal).1 at

-- what each legal step keeps holds after each part of a legal list
pub good_run : (Good : State → Type 0) → ((s : State) (e : Entry) → Good s → is_legal s e ≡ true → Good (step s e)) →
    (s : State) (es : List Entry) → Good s → is_legal_from s es ≡ true → Good (run s es)
good_run Good keeps s [] good legal = good
good_run Good keeps s (e ∷ es) good legal =
    good_run Good keeps (step s e) es (keeps s e good (and_parts (is_legal s e) (is_legal_from (step s e) es) legal).0)
    (and_parts (is_legal s e) (is_legal_from (step s e) es) legal).1

pub good_take : (Good : State → Type 0) → ((s : State) (e : Entry) → Good s → is_legal s e ≡ true → Good (step s e)) →
    (s : State) (es : List Entry) (p : ℕ) → Good s → is_legal_from s es ≡ true → Good (run s (take p es))
good_take Good keeps s es p good legal = good_run Good keeps s (take p es) good (legal_take s es p legal)

-- a fact of each legal step from a good state holds at each position of a legal history
pub each_step : (Good : State → Type 0) → ((s : State) (e : Entry) → Good s → is_legal s e ≡ true → Good (step s e)) →
    (P : State → What → State → Type 0) → ((s : State) (e : Entry) → Good s → is_legal s e ≡ true → P s e.what (step s e)) →
    (rules : RuleSet) (h : List Entry) → Good (start rules) → Legal rules h → EachStep P rules h
each_step Good keeps P fact rules h good legal p e at =
    subst (λ n. P (run (start rules) (take p h)) e.what (run (start rules) (take n h))) (sym (add-one p))
    (subst (λ s. P (run (start rules) (take p h)) e.what s) (sym (run-take_suc (start rules) h p e at))
    (fact (run (start rules) (take p h)) e (good_take Good keeps (start rules) h p good legal)
    (legal_at (start rules) h p e legal at)))
