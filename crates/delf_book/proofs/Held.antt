-- The payloads that the records of a state hold.
use Rattle.std.proofs.Common.{◌≡◌, ℕ, zero, suc, ◌≤◌, ◌<◌, Bool, true, false, eqb, List, [], ◌∷◌, ◌++◌, Option, Some, None, refl, sym, ap, ◌∙◌, arith}
use Rattle.std.proofs.lemmas.Bool.{eqb-true, eq-eqb, ne_eqb, cond-true, cond-false, false≢true}
use Rattle.std.proofs.lemmas.List.Elements.{filter-append}
use Rattle.std.proofs.lemmas.List.Folds.{find-append}
use Rattle.std.specs.Prelude.{find, filter}
use Rattle.std.specs.Option.{option_or}
use Rattle.delf_disk.specs.Areas.{Areas}
use Rattle.gate_log.specs.Records.{Record}
use Rattle.delf_model.specs.declared.entry.Entry.{Entry}
use Rattle.delf_model.specs.RuleSet.{RuleSet}
use Rattle.delf_model.specs.Step.{after}
use Rattle.delf_model.specs.Legal.{Legal}
use Rattle.delf_model.specs.Payloads.{Payloads, is_needed, is_at, bytes_of_pair}
use Rattle.payload_laws.proofs.Moves.{payloads_held}
use Rattle.store_laws.specs.Stores.{Spell, Hold, journal_of, vault_of}
use Rattle.store_laws.specs.Moves.{RestIn}
use Rattle.delf_book.specs.Keeping.{pair_if, pairs_below, held_at, payloads_in}

-- what stands in a list of pairs by rising position

pair_apart : (taken : Bool) (n p : ℕ) (bytes : List ℕ) → (n ≡ p → ⊥) → find (is_at p) (pair_if taken n bytes) ≡ None
pair_apart true n p bytes apart = cond-false (eqb n p) (Some (n, bytes)) None (ne_eqb n p apart)
pair_apart false n p bytes apart = refl

module _ (taken : ℕ → Bool) (bytes : ℕ → List ℕ) where
  -- none stands past the end
  pub pairs_end : (p n : ℕ) → n ≤ p → find (is_at p) (pairs_below taken bytes n) ≡ None
  pairs_end p zero past = refl
  pairs_end p (suc n) past =
      find-append (is_at p) (pairs_below taken bytes n) (pair_if (taken n) n (bytes n)) ∙
      (ap (λ (o : Option (ℕ × List ℕ)). option_or o (find (is_at p) (pair_if (taken n) n (bytes n)))) (pairs_end p n (omega (arith, past))) ∙
      pair_apart (taken n) n p (bytes n) (λ same. omega (arith, past, same)))

  pub pair_found : (p n : ℕ) → p < n → taken p ≡ true → find (is_at p) (pairs_below taken bytes n) ≡ Some (p, bytes p)
  pair_found p zero below is = absurd (omega (arith, below))
  pair_found p (suc n) below is =
      find-append (is_at p) (pairs_below taken bytes n) (pair_if (taken n) n (bytes n)) ∙ by_place (λ other. pair_found p n (omega (arith, below, other)) is) (eqb n p) refl
    where
      by_place : ((n ≡ p → ⊥) → find (is_at p) (pairs_below taken bytes n) ≡ Some (p, bytes p)) → (b : Bool) → eqb n p ≡ b → option_or (find (is_at p) (pairs_below taken bytes n)) (find (is_at p) (pair_if (taken n) n (bytes n))) ≡ Some (p, bytes p)
      by_place earlier true same =
          let here : n ≡ p = eqb-true n p same in
          ap (λ (o : Option (ℕ × List ℕ)). option_or o (find (is_at p) (pair_if (taken n) n (bytes n)))) (pairs_end p n (omega (arith, here))) ∙
          (ap (λ (b : Bool). find (is_at p) (pair_if b n (bytes n))) (ap taken here ∙ is) ∙
          (cond-true (eqb n p) (Some (n, bytes n)) None same ∙ ap (λ (k : ℕ). Some (k, bytes k)) here))
      by_place earlier false apart =
          ap (λ (o : Option (ℕ × List ℕ)). option_or o (find (is_at p) (pair_if (taken n) n (bytes n)))) (earlier (λ same. false≢true (sym apart ∙ eq-eqb n p same)))

  pub pair_none : (p n : ℕ) → taken p ≡ false → find (is_at p) (pairs_below taken bytes n) ≡ None
  pair_none p zero not = refl
  pair_none p (suc n) not =
      find-append (is_at p) (pairs_below taken bytes n) (pair_if (taken n) n (bytes n)) ∙
      (ap (λ (o : Option (ℕ × List ℕ)). option_or o (find (is_at p) (pair_if (taken n) n (bytes n)))) (pair_none p n not) ∙ by_taken (taken n) refl)
    where
      by_taken : (b : Bool) → taken n ≡ b → find (is_at p) (pair_if b n (bytes n)) ≡ None
      by_taken true is = pair_apart true n p (bytes n) (λ same. false≢true (sym not ∙ (ap taken (sym same) ∙ is)))
      by_taken false is = refl

-- the same bytes at each position that is taken
pub pairs_same : (taken : ℕ → Bool) (one two : ℕ → List ℕ) (n : ℕ) → ((p : ℕ) → p < n → taken p ≡ true → one p ≡ two p) → pairs_below taken one n ≡ pairs_below taken two n
pairs_same taken one two zero same = refl
pairs_same taken one two (suc n) same =
    ap (λ (l : List (ℕ × List ℕ)). l ++ pair_if (taken n) n (one n)) (pairs_same taken one two n (λ p below is. same p (omega (arith, below)) is)) ∙
    ap (λ (l : List (ℕ × List ℕ)). pairs_below taken two n ++ l) (by_taken (taken n) refl)
  where
    by_taken : (b : Bool) → taken n ≡ b → pair_if b n (one n) ≡ pair_if b n (two n)
    by_taken true is = ap (λ (l : List ℕ). (n, l) ∷ []) (same n (omega arith) is)
    by_taken false is = refl

-- fewer positions
abbrev pub is_taken : (ℕ → Bool) → ℕ × List ℕ → Bool
is_taken taken pair = taken pair.0

pub pairs_kept : (taken now : ℕ → Bool) (bytes : ℕ → List ℕ) (n : ℕ) → ((p : ℕ) → p < n → now p ≡ true → taken p ≡ true) →
    filter (is_taken now) (pairs_below taken bytes n) ≡ pairs_below now bytes n
pairs_kept taken now bytes zero was = refl
pairs_kept taken now bytes (suc n) was =
    filter-append (is_taken now) (pairs_below taken bytes n) (pair_if (taken n) n (bytes n)) ∙
    (ap (λ (l : List (ℕ × List ℕ)). l ++ filter (is_taken now) (pair_if (taken n) n (bytes n))) (pairs_kept taken now bytes n (λ p below is. was p (omega (arith, below)) is)) ∙
    ap (λ (l : List (ℕ × List ℕ)). pairs_below now bytes n ++ l) (by_both (taken n) (now n) refl refl))
  where
    by_both : (b k : Bool) → taken n ≡ b → now n ≡ k → filter (is_taken now) (pair_if b n (bytes n)) ≡ pair_if (now n) n (bytes n)
    by_both true k is kept = refl
    by_both false true is kept = absurd (false≢true (sym is ∙ was n (omega arith) kept))
    by_both false false is kept = ap (λ (b : Bool). pair_if b n (bytes n)) (sym kept)

-- what reads holds the payloads that are read there
pub holds_itself : (rules : RuleSet) (h : List Entry) (c : Areas) → Legal rules h → Spell rules h (journal_of c) (vault_of c) →
    Hold rules h (payloads_in (after rules h) c) (journal_of c) (vault_of c)
unfolding payloads_in
holds_itself rules h c legal spell = record {
  spell = spell;
  reads = λ p needed.
      sym (ap bytes_of_pair (pair_found (is_needed (after rules h)) (held_at (after rules h) (journal_of c) (vault_of c)) p (after rules h).len
      ((payloads_held rules h legal).held.below p needed) needed));
  seals = refl;
  alone = λ p unneeded. pair_none (is_needed (after rules h)) (held_at (after rules h) (journal_of c) (vault_of c)) p (after rules h).len unneeded;
}

-- records that hold one and the same payloads as others hold all that those hold
pub hold_moves : (rules : RuleSet) (h : List Entry) (e other : Payloads) (j v journal vault : List Record) → Hold rules h e j v → Hold rules h other j v →
    Hold rules h e journal vault → Hold rules h other journal vault
hold_moves rules h e other j v journal vault one two here = record {
  spell = here.spell;
  reads = λ p needed. here.reads p needed ∙ (sym (one.reads p needed) ∙ two.reads p needed);
  seals = here.seals ∙ (sym one.seals ∙ two.seals);
  alone = two.alone;
}

-- what each image holds, it also holds as what reads
pub rest_as_read : (rules : RuleSet) (h : List Entry) (e : Payloads) (seen : Areas) (images : Areas → Type 0) → Legal rules h → images seen → RestIn rules h e images →
    RestIn rules h (payloads_in (after rules h) seen) images
rest_as_read rules h e seen images legal now rests = λ c image.
    let here = rests seen now in
    let there = rests c image in (
      there.0,
      hold_moves rules h e (payloads_in (after rules h) seen) (journal_of seen) (vault_of seen) (journal_of c) (vault_of c) here.1
          (holds_itself rules h seen legal here.0.spell) there.1,
    )
