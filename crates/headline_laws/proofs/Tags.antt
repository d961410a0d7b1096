-- No tag stands twice in a legal history.
use Rattle.std.proofs.Common.{◌≡◌, ℕ, zero, suc, ◌+◌, ◌<◌, ◌≤◌, Bool, true, false, cond, Option, Some, None, List, [], ◌∷◌, ◌++◌, refl, sym, ap, subst, ◌∙◌, arith}
use Rattle.std.proofs.lemmas.Bool.{and_parts, eqb-true, eq-eqb}
use Rattle.std.proofs.lemmas.List.Sums.{sum_by_push}
use Rattle.std.specs.Prelude.{slice_get, count_by, nat_eq, nat_le}
use Rattle.delf_model.specs.declared.entry.Entry.{Entry}
use Rattle.delf_model.specs.declared.entry.Tag.{Tag}
use Rattle.delf_model.specs.State.{State}
use Rattle.delf_model.specs.Step.{step, run, tag_of, seats_with}
use Rattle.delf_model.specs.Legal.{is_legal, is_legal_from, is_tag}
use Rattle.delf_model.specs.Reply.{seat_entries}
use Rattle.delf_model.proofs.Lines.{tagged_of}

-- how many entries a seat has

count_one : (seat other : ℕ) (seats : List ℕ) → count_by (λ x. nat_eq x seat) (seats ++ other ∷ []) ≡ count_by (λ x. nat_eq x seat) seats + cond (nat_eq other seat) 1 0
count_one seat other seats = sum_by_push (λ x. cond (nat_eq x seat) 1 0) seats other

seats_grow : (seat : ℕ) (seats : List ℕ) (o : Option Tag) → count_by (λ x. nat_eq x seat) seats ≤ count_by (λ x. nat_eq x seat) (seats_with seats o)
seats_grow seat seats None = omega arith
seats_grow seat seats (Some tag) = omega (arith, count_one seat tag.seat seats)

own_counts : (tag : Tag) (seats : List ℕ) → count_by (λ x. nat_eq x tag.seat) (seats ++ tag.seat ∷ []) ≡ count_by (λ x. nat_eq x tag.seat) seats + 1
own_counts tag seats =
    count_one tag.seat tag.seat seats ∙ ap (λ (b : Bool). count_by (λ x. nat_eq x tag.seat) seats + cond b 1 0) (eq-eqb tag.seat tag.seat refl)

grows : (s : State) (e : Entry) (seat : ℕ) → seat_entries s seat ≤ seat_entries (step s e) seat
grows s e seat = seats_grow seat s.seats (tag_of e.what)

grows_own : (s : State) (e : Entry) (tag : Tag) → tag_of e.what ≡ Some tag → seat_entries (step s e) tag.seat ≡ seat_entries s tag.seat + 1
grows_own s e tag is = ap (λ (o : Option Tag). count_by (λ x. nat_eq x tag.seat) (seats_with s.seats o)) is ∙ own_counts tag s.seats

-- the number of a tag is that of the entries before it
tag_number : (s : State) (e : Entry) (tag : Tag) → is_legal s e ≡ true → tag_of e.what ≡ Some tag → tag.k ≡ seat_entries s tag.seat
tag_number s e tag line is =
    let tagged : is_tag s (Some tag) ≡ true = subst (λ (o : Option Tag). is_tag s o ≡ true) is (tagged_of s e line) in
    eqb-true tag.k (seat_entries s tag.seat) (and_parts (nat_eq tag.k (seat_entries s tag.seat)) _ tagged).0

-- a tag of a later entry has no lower number than its seat has entries
no_lower : (s : State) (es : List Entry) (q : ℕ) (e : Entry) (tag : Tag) → is_legal_from s es ≡ true → slice_get es q ≡ Some e → tag_of e.what ≡ Some tag →
    seat_entries s tag.seat ≤ tag.k
no_lower s [] q e tag legal there is = absurd (cc there)
no_lower s (x ∷ xs) zero e tag legal there is =
    let same : x ≡ e = cc there in
    let number = tag_number s x tag (and_parts (is_legal s x) (is_legal_from (step s x) xs) legal).0 (ap (λ (y : Entry). tag_of y.what) same ∙ is) in
    omega (arith, number)
no_lower s (x ∷ xs) (suc q) e tag legal there is =
    let more = no_lower (step s x) xs q e tag (and_parts (is_legal s x) (is_legal_from (step s x) xs) legal).1 there is in
    omega (arith, more, grows s x tag.seat)

-- the first entry's tag does not come again
first_apart : (s : State) (x : Entry) (xs : List Entry) (q : ℕ) (e : Entry) (tag : Tag) → is_legal_from s (x ∷ xs) ≡ true → slice_get xs q ≡ Some e →
    tag_of x.what ≡ Some tag → tag_of e.what ≡ Some tag → ⊥
first_apart s x xs q e tag legal there first second =
    let parts = and_parts (is_legal s x) (is_legal_from (step s x) xs) legal in
    let more = no_lower (step s x) xs q e tag parts.1 there second in
    omega (arith, more, grows_own s x tag first, tag_number s x tag parts.0 first)

pub tag_once : (s : State) (es : List Entry) (p q : ℕ) (a b : Entry) (tag : Tag) → is_legal_from s es ≡ true → slice_get es p ≡ Some a → slice_get es q ≡ Some b →
    tag_of a.what ≡ Some tag → tag_of b.what ≡ Some tag → p ≡ q
tag_once s [] p q a b tag legal one two first second = absurd (cc one)
tag_once s (x ∷ xs) zero zero a b tag legal one two first second = refl
tag_once s (x ∷ xs) zero (suc q) a b tag legal one two first second =
    let same : x ≡ a = cc one in absurd (first_apart s x xs q b tag legal two (ap (λ (y : Entry). tag_of y.what) same ∙ first) second)
tag_once s (x ∷ xs) (suc p) zero a b tag legal one two first second =
    let same : x ≡ b = cc two in absurd (first_apart s x xs p a tag legal one (ap (λ (y : Entry). tag_of y.what) same ∙ second) first)
tag_once s (x ∷ xs) (suc p) (suc q) a b tag legal one two first second =
    ap suc (tag_once (step s x) xs p q a b tag (and_parts (is_legal s x) (is_legal_from (step s x) xs) legal).1 one two first second)
