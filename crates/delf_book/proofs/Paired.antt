-- One pair for each needed position.
use Rattle.std.proofs.Common.{◌≡◌, ℕ, zero, suc, ◌≤◌, ◌<◌, Bool, true, false, cond, eqb, List, [], ◌∷◌, ◌++◌, Option, refl, sym, ap, subst, ◌∙◌, arith, ⊎_elim}
use Rattle.std.proofs.lemmas.Bool.{eqb-true, eq-eqb, ne_eqb, cond-true, cond-false, false≢true}
use Rattle.std.proofs.lemmas.List.Elements.{filter-append, Contains-append_left, Contains-append_right, Contains-append_cases, Contains-push, Contains-push_cases}
use Rattle.std.specs.Prelude.{filter}
use Rattle.std.specs.List.{Contains}
use Rattle.delf_disk.specs.Areas.{Areas}
use Rattle.delf_model.specs.declared.entry.Entry.{Entry}
use Rattle.delf_model.specs.RuleSet.{RuleSet}
use Rattle.delf_model.specs.State.{State}
use Rattle.delf_model.specs.Step.{after}
use Rattle.delf_model.specs.Legal.{Legal}
use Rattle.delf_model.specs.Payloads.{Payloads, is_needed, is_at, bytes_of_pair, payload_at}
use Rattle.payload_laws.proofs.Moves.{payloads_held}
use Rattle.store_laws.specs.Stores.{journal_of, vault_of}
use Rattle.delf_book.specs.Keeping.{pair_if, pairs_below, held_at, payloads_in}
use Rattle.delf_book.specs.Holding.{ArePaired}
use Rattle.delf_book.proofs.Held.{pair_found}

-- a pair of another position is left out
left_out : (taken : Bool) (n p : ℕ) (bytes : List ℕ) → (n ≡ p → ⊥) → filter (is_at p) (pair_if taken n bytes) ≡ []
left_out true n p bytes apart = cond-false (eqb n p) ((n, bytes) ∷ []) [] (ne_eqb n p apart)
left_out false n p bytes apart = refl

module _ (taken : ℕ → Bool) (bytes : ℕ → List ℕ) where
  step_out : (p n : ℕ) → (n ≡ p → ⊥) → filter (is_at p) (pairs_below taken bytes n) ≡ [] → filter (is_at p) (pairs_below taken bytes (suc n)) ≡ []
  step_out p n apart none =
      filter-append (is_at p) (pairs_below taken bytes n) (pair_if (taken n) n (bytes n)) ∙
      (ap (λ (l : List (ℕ × List ℕ)). l ++ filter (is_at p) (pair_if (taken n) n (bytes n))) none ∙ left_out (taken n) n p (bytes n) apart)

  none_past : (p n : ℕ) → n ≤ p → filter (is_at p) (pairs_below taken bytes n) ≡ []
  none_past p zero past = refl
  none_past p (suc n) past = step_out p n (λ same. omega (arith, past, same)) (none_past p n (omega (arith, past)))

  none_there : (p n : ℕ) → taken p ≡ false → filter (is_at p) (pairs_below taken bytes n) ≡ []
  none_there p zero not = refl
  none_there p (suc n) not =
      filter-append (is_at p) (pairs_below taken bytes n) (pair_if (taken n) n (bytes n)) ∙
      (ap (λ (l : List (ℕ × List ℕ)). l ++ filter (is_at p) (pair_if (taken n) n (bytes n))) (none_there p n not) ∙ by_taken (taken n) refl)
    where
      by_taken : (b : Bool) → taken n ≡ b → filter (is_at p) (pair_if b n (bytes n)) ≡ []
      by_taken true is = left_out true n p (bytes n) (λ same. false≢true (sym not ∙ (ap taken (sym same) ∙ is)))
      by_taken false is = refl

  one_there : (p n : ℕ) → p < n → taken p ≡ true → filter (is_at p) (pairs_below taken bytes n) ≡ (p, bytes p) ∷ []
  one_there p zero below is = absurd (omega (arith, below))
  one_there p (suc n) below is =
      filter-append (is_at p) (pairs_below taken bytes n) (pair_if (taken n) n (bytes n)) ∙ by_place (λ other. one_there p n (omega (arith, below, other)) is) (eqb n p) refl
    where
      by_place : ((n ≡ p → ⊥) → filter (is_at p) (pairs_below taken bytes n) ≡ (p, bytes p) ∷ []) → (b : Bool) → eqb n p ≡ b →
          filter (is_at p) (pairs_below taken bytes n) ++ filter (is_at p) (pair_if (taken n) n (bytes n)) ≡ (p, bytes p) ∷ []
      by_place earlier true same =
          let here : n ≡ p = eqb-true n p same in
          ap (λ (l : List (ℕ × List ℕ)). l ++ filter (is_at p) (pair_if (taken n) n (bytes n))) (none_past p n (omega (arith, here))) ∙
          (ap (λ (b : Bool). filter (is_at p) (pair_if b n (bytes n))) (ap taken here ∙ is) ∙
          (cond-true (eqb n p) ((n, bytes n) ∷ []) [] same ∙ ap (λ (k : ℕ). (k, bytes k) ∷ []) here))
      by_place earlier false apart =
          let other : n ≡ p → ⊥ = λ same. false≢true (sym apart ∙ eq-eqb n p same) in
          ap (λ (l : List (ℕ × List ℕ)). l ++ filter (is_at p) (pair_if (taken n) n (bytes n))) (earlier other) ∙
          ap (λ (l : List (ℕ × List ℕ)). (p, bytes p) ∷ l) (left_out (taken n) n p (bytes n) other)

-- so each has, of what a history needs, whatever areas are read
pub are_paired : (rules : RuleSet) (h : List Entry) (c : Areas) → Legal rules h → ArePaired (after rules h) (payloads_in (after rules h) c)
unfolding payloads_in
are_paired rules h c legal p = by_need (is_needed (after rules h) p) refl where
  by_need : (b : Bool) → is_needed (after rules h) p ≡ b →
      filter (is_at p) (payloads_in (after rules h) c).bytes ≡ cond b ((p, payload_at (payloads_in (after rules h) c) p) ∷ []) []
  by_need true needed =
      let below : p < (after rules h).len = (payloads_held rules h legal).held.below p needed in
      one_there (is_needed (after rules h)) (held_at (after rules h) (journal_of c) (vault_of c)) p (after rules h).len below needed ∙
      sym (ap (λ (o : Option (ℕ × List ℕ)). (p, bytes_of_pair o) ∷ [])
      (pair_found (is_needed (after rules h)) (held_at (after rules h) (journal_of c) (vault_of c)) p (after rules h).len below needed))
  by_need false unneeded = none_there (is_needed (after rules h)) (held_at (after rules h) (journal_of c) (vault_of c)) p (after rules h).len unneeded

-- pairs that are among those from before

in_filter : {A : Type 0} (keep : A → Bool) (xs : List A) (x : A) → keep x ≡ true → Contains xs x → Contains (filter keep xs) x
in_filter keep [] x kept there = there
in_filter {A = A} keep (y ∷ ys) x kept there =
    ⊎_elim (λ one. at_head (⊎_elim (λ none. absurd (none_in none)) (λ same. same) (Contains-push_cases [] y x one)))
    (λ more. behind (keep y) (in_filter keep ys x kept more)) (Contains-append_cases (y ∷ []) ys x there)
  where
    none_in : Contains {X = A} [] x → ⊥
    none_in none = let less = none.1 in omega (arith, less)

    at_head : y ≡ x → Contains (cond (keep y) (y ∷ filter keep ys) (filter keep ys)) x
    at_head same =
        subst (λ (l : List A). Contains l x) (sym (cond-true (keep y) (y ∷ filter keep ys) (filter keep ys) (ap keep same ∙ kept)))
        (Contains-append_left (y ∷ []) (filter keep ys) x (subst (λ (z : A). Contains (y ∷ []) z) same (Contains-push [] y)))

    behind : (b : Bool) → Contains (filter keep ys) x → Contains (cond b (y ∷ filter keep ys) (filter keep ys)) x
    behind true here = Contains-append_right (y ∷ []) (filter keep ys) x here
    behind false here = here

out_of_filter : {A : Type 0} (keep : A → Bool) (xs : List A) (x : A) → Contains (filter keep xs) x → Contains xs x
out_of_filter keep [] x there = there
out_of_filter {A = A} keep (y ∷ ys) x there = by_head (keep y) (λ more. out_of_filter keep ys x more) there where
  by_head : (b : Bool) → (Contains (filter keep ys) x → Contains ys x) → Contains (cond b (y ∷ filter keep ys) (filter keep ys)) x → Contains (y ∷ ys) x
  by_head true from here = ⊎_elim (λ one. Contains-append_left (y ∷ []) ys x one) (λ more. Contains-append_right (y ∷ []) ys x (from more))
      (Contains-append_cases (y ∷ []) (filter keep ys) x here)
  by_head false from here = Contains-append_right (y ∷ []) ys x (from here)

-- the one pair of a needed position
pub the_pair : (s : State) (e : Payloads) (p : ℕ) → ArePaired s e → is_needed s p ≡ true → filter (is_at p) e.bytes ≡ (p, payload_at e p) ∷ []
the_pair s e p paired needed = paired p ∙ cond-true (is_needed s p) ((p, payload_at e p) ∷ []) [] needed

-- a position that is needed before and after keeps its bytes, where its pairs from after stood before
pub same_bytes : (s t : State) (d e : Payloads) (p : ℕ) → ArePaired s d → ArePaired t e → is_needed s p ≡ true → is_needed t p ≡ true →
    ((bytes : List ℕ) → Contains {X = ℕ × List ℕ} e.bytes (p, bytes) → Contains {X = ℕ × List ℕ} d.bytes (p, bytes)) → payload_at e p ≡ payload_at d p
same_bytes s t d e p old now needed still stood = sym (ap (λ (q : ℕ × List ℕ). q.1) one) where
  after_it : Contains {X = ℕ × List ℕ} e.bytes (p, payload_at e p)
  after_it = out_of_filter (is_at p) e.bytes (p, payload_at e p)
      (subst (λ (l : List (ℕ × List ℕ)). Contains {X = ℕ × List ℕ} l (p, payload_at e p)) (sym (the_pair t e p now still)) (Contains-push [] (p, payload_at e p)))

  before_it : Contains {X = ℕ × List ℕ} ((p, payload_at d p) ∷ []) (p, payload_at e p)
  before_it = subst (λ (l : List (ℕ × List ℕ)). Contains {X = ℕ × List ℕ} l (p, payload_at e p)) (the_pair s d p old needed)
      (in_filter (is_at p) d.bytes (p, payload_at e p) (eq-eqb p p refl) (stood (payload_at e p) after_it))

  mine : ℕ × List ℕ
  mine = (p, payload_at e p)

  other : ℕ × List ℕ
  other = (p, payload_at d p)

  one : other ≡ mine
  one = ⊎_elim (λ none. let less = none.1 in absurd (omega (arith, less))) (λ same. same) (Contains-push_cases [] (p, payload_at d p) (p, payload_at e p) before_it)
