-- What an entry, a step more and a step less leave of the held steps.
use Rattle.std.proofs.Common.{◌≡◌, ℕ, ◌≤◌, Bool, true, false, cond, ◌||◌, eqb, List, [], ◌∷◌, ◌++◌, refl, sym, ap, ◌∙◌, arith}
use Rattle.std.proofs.lemmas.Bool.{or_parts, or_from, false≢true}
use Rattle.std.proofs.lemmas.Bool.Decides.{nat_tests}
use Rattle.std.proofs.lemmas.List.Folds.{list_any-append}
use Rattle.delf_model.specs.declared.rows.EdgeKey.{EdgeKey}
use Rattle.delf_model.specs.declared.entry.Entry.{Entry}
use Rattle.delf_model.specs.declared.entry.What.{What}
use Rattle.delf_model.specs.declared.entry.What.TheVariants.{Cut, Erase}
use Rattle.delf_model.specs.RuleSet.{RuleSet}
use Rattle.delf_model.specs.Graph.{same_key}
use Rattle.delf_model.specs.State.{State}
use Rattle.delf_model.specs.Step.{step, after}
use Rattle.delf_model.specs.Owners.{key_of}
use Rattle.delf_model.specs.Legal.{is_legal}
use Rattle.delf_model.specs.Room.{greatest_moment}
use Rattle.delf_model.specs.Order.{erases_same, is_held}
use Rattle.delf_model.proofs.Graphs.{same_key_is, same_key_refl, same_key_along}
use Rattle.job_table.specs.Table.{given_up, is_erasing}
use Rattle.held_laws.specs.Held.{takes_row, HeldStepsStay}
use Rattle.ledger.specs.Held.{MayBeHeld, AreHeld, IsOnceLegal}

-- two steps take one row, in either order

same_key_sym : (a b : EdgeKey) → same_key a b ≡ same_key b a
same_key_sym a b = by_both (same_key a b) (same_key b a) refl refl
  where
    by_both : (x y : Bool) → same_key a b ≡ x → same_key b a ≡ y → same_key a b ≡ same_key b a
    by_both true true one two = one ∙ sym two
    by_both false false one two = one ∙ sym two
    by_both true false one two = absurd (false≢true (sym two ∙ (ap (same_key b) (same_key_is a b one) ∙ same_key_refl b)))
    by_both false true one two = absurd (false≢true (sym one ∙ (ap (same_key a) (same_key_is b a two) ∙ same_key_refl a)))

eqb_sym : (a b : ℕ) → eqb a b ≡ eqb b a
eqb_sym a b = grind (arith, nat_tests)

pub erases_same_sym : (a b : What) → erases_same a b ≡ erases_same b a
erases_same_sym (Cut job edge from to) (Cut other edge' from' to') = same_key_sym (key_of edge from to) (key_of edge' from' to')
erases_same_sym (Cut job edge from to) b = refl
erases_same_sym (Erase job id) (Erase other id') = eqb_sym id id'
erases_same_sym (Erase job id) b = refl
erases_same_sym a (Cut other edge' from' to') = refl
erases_same_sym a (Erase other id') = refl
erases_same_sym a b = refl

-- a step that is legal once may be held
pub may_be_held : (rules : RuleSet) (h : List Entry) (what : What) → HeldStepsStay rules h → takes_row what ≡ true → IsOnceLegal (after rules h) what →
    MayBeHeld (after rules h) what
may_be_held rules h what law takes once = record { takes = takes; legal = (law.many what once.0 [] takes once.1 refl refl).legal }

-- an entry that takes the row of no held step leaves them all
pub are_held_on : (rules : RuleSet) (h : List Entry) (e : Entry) (held : List What) → HeldStepsStay rules h → (after rules h).moment ≤ greatest_moment →
    is_legal (after rules h) e ≡ true → is_held held e.what ≡ false → AreHeld (after rules h) held → AreHeld (step (after rules h) e) held
are_held_on rules h e [] law within line free are = tt
are_held_on rules h e (x ∷ xs) law within line free are =
    let parts = or_parts (erases_same e.what x) (is_held xs e.what) free in
    let now : (after rules h).moment ≤ (after rules h).moment = omega arith in (
      record {
        takes = are.0.takes;
        legal = (law.one x (after rules h).moment e are.0.takes (are.0.legal (after rules h).moment now within) line (erases_same_sym x e.what ∙ parts.0)).legal;
      },
      are.1,
      are_held_on rules h e xs law within line parts.1 are.2,
    )

-- a step more

held_apart : (x what : What) (xs : List What) → is_held xs x ≡ false → erases_same x what ≡ false → is_held (xs ++ what ∷ []) x ≡ false
held_apart x what xs free apart =
    list_any-append (erases_same x) xs (what ∷ []) ∙ or_from (is_held xs x) (erases_same x what || false) free (or_from (erases_same x what) false apart refl)

pub are_held_more : (s : State) (held : List What) (what : What) → MayBeHeld s what → is_held held what ≡ false → AreHeld s held → AreHeld s (held ++ what ∷ [])
are_held_more s [] what may free are = (may, refl, tt)
are_held_more s (x ∷ xs) what may free are =
    let parts = or_parts (erases_same what x) (is_held xs what) free in
    (are.0, held_apart x what xs are.1 (erases_same_sym x what ∙ parts.0), are_held_more s xs what may parts.1 are.2)

-- a step less

held_less : (x what : What) (xs : List What) → is_held xs x ≡ false → is_held (given_up what xs) x ≡ false
held_less x what [] free = refl
held_less x what (y ∷ ys) free =
    let parts = or_parts (erases_same x y) (is_held ys x) free in
    by_hit parts.0 parts.1 (held_less x what ys parts.1) (erases_same what y)
  where
    by_hit : erases_same x y ≡ false → is_held ys x ≡ false → is_held (given_up what ys) x ≡ false → (b : Bool) → is_held (cond b ys (y ∷ given_up what ys)) x ≡ false
    by_hit apart rest less true = rest
    by_hit apart rest less false = or_from (erases_same x y) (is_held (given_up what ys) x) apart less

pub are_held_less : (s : State) (held : List What) (what : What) → AreHeld s held → AreHeld s (given_up what held)
are_held_less s [] what are = tt
are_held_less s (x ∷ xs) what are = by_hit (are_held_less s xs what are.2) (erases_same what x)
  where
    by_hit : AreHeld s (given_up what xs) → (b : Bool) → AreHeld s (cond b xs (x ∷ given_up what xs))
    by_hit less true = are.2
    by_hit less false = (are.0, held_less x what xs are.1, less)

-- a cut or an erasure takes the row that it takes
pub is_erasing_of : (what : What) → takes_row what ≡ true → is_erasing what ≡ true
is_erasing_of (Cut job edge from to) takes = same_key_refl (key_of edge from to)
is_erasing_of (Erase job id) takes = grind (arith, nat_tests)
is_erasing_of what takes = absurd (false≢true takes)

-- what is given up is held no more, and nothing else goes

eqb_along : (a b c : ℕ) → eqb a b ≡ true → eqb a c ≡ eqb b c
eqb_along a b c same = grind (arith, nat_tests, same)

erases_along : (a b c : What) → erases_same a b ≡ true → erases_same a c ≡ erases_same b c
erases_along (Cut job edge from to) (Cut job' edge' from' to') (Cut other edge'' from'' to'') same =
    same_key_along (key_of edge from to) (key_of edge' from' to') (key_of edge'' from'' to'') same
erases_along (Cut job edge from to) (Cut job' edge' from' to') c same = refl
erases_along (Cut job edge from to) b c same = absurd (false≢true same)
erases_along (Erase job id) (Erase job' id') (Erase other id'') same = eqb_along id id' id'' same
erases_along (Erase job id) (Erase job' id') c same = refl
erases_along (Erase job id) b c same = absurd (false≢true same)
erases_along a b c same = absurd (false≢true same)

held_along : (a b : What) (held : List What) → erases_same a b ≡ true → is_held held a ≡ is_held held b
held_along a b [] same = refl
held_along a b (x ∷ xs) same = ap (λ (t : Bool). t || is_held xs a) (erases_along a b x same) ∙ ap (λ (t : Bool). erases_same b x || t) (held_along a b xs same)

pub given_up_free : (s : State) (held : List What) (what : What) → AreHeld s held → is_held (given_up what held) what ≡ false
given_up_free s [] what are = refl
given_up_free s (x ∷ xs) what are = by_hit (given_up_free s xs what are.2) (erases_same what x) refl
  where
    by_hit : is_held (given_up what xs) what ≡ false → (b : Bool) → erases_same what x ≡ b → is_held (cond b xs (x ∷ given_up what xs)) what ≡ false
    by_hit less true hit = held_along what x xs hit ∙ are.1
    by_hit less false miss = or_from (erases_same what x) (is_held (given_up what xs) what) miss less

pub given_up_others : (held : List What) (what other : What) → erases_same what other ≡ false → is_held (given_up what held) other ≡ is_held held other
given_up_others [] what other apart = refl
given_up_others (x ∷ xs) what other apart = by_hit (given_up_others xs what other apart) (erases_same what x) refl
  where
    by_hit : is_held (given_up what xs) other ≡ is_held xs other → (b : Bool) → erases_same what x ≡ b → is_held (cond b xs (x ∷ given_up what xs)) other ≡ is_held (x ∷ xs) other
    by_hit less true hit =
        let missed : erases_same other x ≡ false = erases_same_sym other x ∙ (sym (erases_along what x other hit) ∙ apart) in
        sym (ap (λ (t : Bool). t || is_held xs other) missed)
    by_hit less false miss = ap (λ (t : Bool). erases_same other x || t) less
