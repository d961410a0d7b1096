-- The numbers of the seats of a history.
use Rattle.std.proofs.Common.{◌≡◌, ℕ, ◌+◌, ◌*◌, ◌<◌, ◌≤◌, Bool, true, false, cond, List, [], ◌∷◌, length, Option, Some, None, refl, ap, ◌∙◌, arith, ne_eqb, nat_le}
use Rattle.std.proofs.lemmas.Bool.{and_parts}
use Rattle.delf_model.specs.declared.entry.Entry.{Entry}
use Rattle.delf_model.specs.declared.entry.Tag.{Tag}
use Rattle.delf_model.specs.RuleSet.{RuleSet}
use Rattle.delf_model.specs.State.{State, start}
use Rattle.delf_model.specs.Step.{tag_of, seats_with, step, run, after}
use Rattle.delf_model.specs.Legal.{is_legal, is_legal_from, Legal, is_tag}
use Rattle.delf_model.proofs.Lines.{tagged_of}
use Rattle.job_table.specs.Table.{greatest, top_seat}
use Rattle.job_table.proofs.Places.{greatest_push}
use Rattle.seat_lock.specs.Promises.{NoneFrom}
use Rattle.seat_lock.specs.Views.{made_by, is_maker}
use Rattle.delf_service.specs.Standings.{seat_of, seat_of_tag}

grown_one : (xs : List ℕ) (o : Option Tag) → greatest xs ≤ greatest (seats_with xs o)
grown_one xs None = omega arith
grown_one xs (Some tag) = let h = greatest_push xs tag.seat in omega (arith, h)

grown : (s : State) (es : List Entry) → greatest s.seats ≤ greatest (run s es).seats
grown s [] = omega arith
grown s (e ∷ es) = let one = grown_one s.seats (tag_of e.what) in let rest = grown (step s e) es in omega (arith, one, rest)

not_maker : (n top : ℕ) (xs : List ℕ) (o : Option Tag) → greatest (seats_with xs o) ≤ top → top < n → is_maker n (seat_of_tag o) ≡ false
not_maker n top xs None le less = refl
not_maker n top xs (Some tag) le less = let h = greatest_push xs tag.seat in ne_eqb tag.seat n (λ same. absurd (omega (arith, same, le, less, h)))

none_past : (s : State) (es : List Entry) (n : ℕ) → greatest (run s es).seats < n → made_by seat_of n es ≡ []
none_past s [] n less = refl
none_past s (e ∷ es) n less =
    let rest = none_past (step s e) es n less in
    let not = not_maker n (greatest (run (step s e) es).seats) s.seats (tag_of e.what) (grown (step s e) es) less in
    ap (λ (b : Bool). cond b (e ∷ made_by seat_of n es) (made_by seat_of n es)) not ∙ rest

pub fresh_from : (rules : RuleSet) (h : List Entry) → NoneFrom seat_of (top_seat (after rules h) + 1) h
fresh_from rules h n le = none_past (start rules) h n (omega (arith, le))

low_one : (s : State) (o : Option Tag) (n : ℕ) → is_tag s o ≡ true → greatest s.seats ≤ n → 64 * (s.len + 1) ≤ n → greatest (seats_with s.seats o) ≤ n
low_one s None n is le more = le
low_one s (Some tag) n is le more =
    let h = greatest_push s.seats tag.seat in
    let p = (and_parts _ (nat_le tag.seat (64 * (s.len + 1))) is).1 in
    let q : tag.seat ≤ 64 * (s.len + 1) = grind (arith, p) in
    omega (arith, h, q, le, more)

low_run : (s : State) (es : List Entry) (n : ℕ) → is_legal_from s es ≡ true → greatest s.seats ≤ n → 64 * (s.len + length es) ≤ n → greatest (run s es).seats ≤ n
low_run s [] n legal le more = le
low_run s (e ∷ es) n legal le more =
    let parts = and_parts (is_legal s e) (is_legal_from (step s e) es) legal in
    low_run (step s e) es n parts.1 (low_one s (tag_of e.what) n (tagged_of s e parts.0) le (omega (arith, more))) (omega (arith, more))

pub low_top : (rules : RuleSet) (h : List Entry) → Legal rules h → top_seat (after rules h) ≤ 64 * length h
low_top rules h legal = low_run (start rules) h (64 * length h) legal (omega arith) (omega arith)
