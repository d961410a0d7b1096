-- By position, the journal record that carries the payload of a row, after one entry more.
use Rattle.std.proofs.Common.{◌≡◌, ℕ, zero, suc, ◌+◌, ◌<◌, true, List, [], ◌∷◌, ◌++◌, length, get_or, Some, refl, sym, ap, ◌∙◌, subst, arith, length-append}
use Rattle.std.specs.Prelude.{slice_get}
use Rattle.std.proofs.lemmas.Option.{same_Some, slice_get_within}
use Rattle.delf_model.specs.declared.rows.ObjectRow.{ObjectRow}
use Rattle.delf_model.specs.declared.rows.EdgeKey.{EdgeKey}
use Rattle.delf_model.specs.declared.rows.EdgeRow.{EdgeRow}
use Rattle.delf_model.specs.Graph.{has_id, has_key, object_at, edge_at}
use Rattle.payload_laws.proofs.Members.{found_in}
use Rattle.payload_laws.proofs.Taken.{row_needed, edge_needed}
use Rattle.delf_model.specs.declared.entry.Entry.{Entry}
use Rattle.delf_model.specs.RuleSet.{RuleSet}
use Rattle.delf_model.specs.State.{State}
use Rattle.delf_model.specs.Step.{step, after}
use Rattle.delf_model.specs.Legal.{Legal, is_legal}
use Rattle.delf_model.specs.Payloads.{is_needed, Journal, last_carrier}
use Rattle.delf_model.proofs.Runs.{after_push}
use Rattle.payload_laws.specs.Holders.{Carried, Stays, Brought, Taken, PutBack}
use Rattle.payload_laws.proofs.Moves.{payloads_held}
use Rattle.payload_laws.proofs.Carriers.{journal_is, vault_journal}
use Rattle.store_laws.proofs.Items.{run-len}
use Rattle.delf_model.specs.State.{start}
use Rattle.delf_book.specs.Keeping.{KeepsCarriers, PutsBack}

pub len_is : (rules : RuleSet) (h : List Entry) → (after rules h).len ≡ length h
len_is rules h = let is : (after rules h).len ≡ 0 + length h = run-len (start rules) h in omega (arith, is)

pub inside : (xs ys : List ℕ) (i : ℕ) (x : ℕ) → slice_get xs i ≡ Some x → slice_get (xs ++ ys) i ≡ Some x
inside [] ys i x at = absurd (cc at)
inside (y ∷ xs) ys zero x at = at
inside (y ∷ xs) ys (suc i) x at = inside xs ys i x at

pub behind : (xs : List ℕ) (x i : ℕ) → i ≡ length xs → slice_get (xs ++ x ∷ []) i ≡ Some x
behind [] x zero is = refl
behind [] x (suc i) is = absurd (omega (arith, is))
behind (y ∷ xs) x zero is = absurd (omega (arith, is))
behind (y ∷ xs) x (suc i) is = behind xs x i (omega (arith, is))

module _ (rules : RuleSet) (h : List Entry) (entry : Entry) (carriers : List ℕ) (legal : Legal rules h) (line : is_legal (after rules h) entry ≡ true)
    (kept : KeepsCarriers rules h carriers) where
  carried_by : (PutsBack (after rules h) entry.what → ⊥) → (p q : ℕ) → last_carrier (step (after rules h) entry) p ≡ Journal q → Carried (after rules h) entry p →
      slice_get (carriers ++ length h ∷ []) p ≡ Some q
  carried_by not_put p q at (Stays was same) = inside carriers (length h ∷ []) p q (kept.carried p q was (sym same ∙ at))
  carried_by not_put p q at (Brought here own same) =
      behind carriers (length h) p (here ∙ (len_is rules h ∙ sym kept.many)) ∙ ap Some (sym (len_is rules h) ∙ journal_is (sym same ∙ at))
  carried_by not_put p q at (Taken taken was same) = vault_journal (length (after rules h).items) q (sym same ∙ at)
  carried_by not_put p q at (PutBack job i logged puts there free position was carried same) = absurd (not_put (job, i, (logged, (puts, there, free))))

  pub carriers_longer : (PutsBack (after rules h) entry.what → ⊥) → KeepsCarriers rules (h ++ entry ∷ []) (carriers ++ length h ∷ [])
  carriers_longer not_put = record {
    many = length-append carriers (length h ∷ []) ∙ (ap (λ (n : ℕ). n + 1) kept.many ∙ sym (length-append h (entry ∷ [])));
    carried =
        subst (λ (s : State). (p q : ℕ) → is_needed s p ≡ true → last_carrier s p ≡ Journal q → slice_get (carriers ++ length h ∷ []) p ≡ Some q) (sym (after_push rules h entry))
        (λ p q needed at. carried_by not_put p q at (((payloads_held rules h legal).moves entry line).carried p needed));
  }

-- the journal record that carries the payload of a row of the graph
pub record RowCarried (rules : RuleSet) (h : List Entry) (carriers : List ℕ) (p : ℕ) : Type 0 where
  pub q : ℕ
  pub there : slice_get carriers p ≡ Some q
  pub carried : last_carrier (after rules h) p ≡ Journal q
  pub below : q < length h

pub object_carried : (rules : RuleSet) (h : List Entry) (carriers : List ℕ) → Legal rules h → KeepsCarriers rules h carriers → (id : ℕ) (row : ObjectRow) →
    object_at (after rules h).graph id ≡ Some row → RowCarried rules h carriers row.at
object_carried rules h carriers legal kept id row at =
    let held = (payloads_held rules h legal).held.objects id row at in
    let needed = row_needed (after rules h) row.at row (found_in (has_id id) (after rules h).graph.objects row at) refl in
    record { q = held.0; there = kept.carried row.at held.0 needed held.2; carried = held.2; below = omega (arith, held.1, len_is rules h) }

pub edge_carried : (rules : RuleSet) (h : List Entry) (carriers : List ℕ) → Legal rules h → KeepsCarriers rules h carriers → (key : EdgeKey) (row : EdgeRow) →
    edge_at (after rules h).graph key ≡ Some row → RowCarried rules h carriers row.birth
edge_carried rules h carriers legal kept key row at =
    let held = (payloads_held rules h legal).held.edges key row at in
    let needed = edge_needed (after rules h) row.birth row (found_in (has_key key) (after rules h).graph.edges row at) refl in
    record { q = held.0; there = kept.carried row.birth held.0 needed held.2; carried = held.2; below = omega (arith, held.1, len_is rules h) }

pub carried_index : (carriers : List ℕ) (p q i : ℕ) → slice_get carriers p ≡ Some q → i ≡ get_or carriers p 0 → i ≡ q
carried_index [] p q i there is = absurd (cc there)
carried_index (x ∷ xs) zero q i there is = is ∙ same_Some x q there
carried_index (x ∷ xs) (suc p) q i there is = carried_index xs p q i there is

pub carried_within : (carriers : List ℕ) (p q : ℕ) → slice_get carriers p ≡ Some q → p < length carriers
carried_within carriers p q there = slice_get_within carriers p q there
