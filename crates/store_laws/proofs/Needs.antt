-- Needed positions: their carriers stand, and a row that is taken was needed.
use Rattle.std.proofs.Common.{◌≡◌, ℕ, ◌<◌, true, ◌||◌, not, List, length, Option, Some, None, refl, sym, ◌∙◌, subst, inl, inr}
use Rattle.std.proofs.lemmas.Bool.{and_parts, eq-eqb, or_left, or_right, cases_Bool, false≢true}
use Rattle.std.proofs.lemmas.Option.{slice_get_within, same_Some}
use Rattle.std.specs.Prelude.{is_some}
use Rattle.std.specs.List.{list_any}
use Rattle.delf_model.specs.declared.rows.ObjectRow.{ObjectRow}
use Rattle.delf_model.specs.declared.rows.EdgeRow.{EdgeRow}
use Rattle.delf_model.specs.declared.entry.Entry.{Entry}
use Rattle.delf_model.specs.declared.entry.What.{What}
use Rattle.delf_model.specs.declared.entry.What.TheVariants.{Cut, Erase}
use Rattle.delf_model.specs.RuleSet.{RuleSet}
use Rattle.delf_model.specs.Graph.{has_id, has_key, object_at, edge_at, edge_stands, is_touched}
use Rattle.delf_model.specs.State.{State, is_owned_by}
use Rattle.delf_model.specs.Step.{after}
use Rattle.delf_model.specs.Owners.{key_of}
use Rattle.delf_model.specs.Legal.{Legal, is_allowed}
use Rattle.delf_model.specs.Report.{was_put}
use Rattle.delf_model.specs.Payloads.{is_needed, object_needs, edge_needs, item_needs, Carrier, Journal, Vault, last_carrier, position_of_object, position_of_edge}
use Rattle.delf_model.proofs.Leaves.{owner_is}
use Rattle.delf_model.proofs.Owners.{OwnedStand}
use Rattle.payload_laws.specs.Holders.{position_taken, PositionsHeld}
use Rattle.payload_laws.proofs.Members.{found_in, in_any, In}
use Rattle.payload_laws.proofs.Carriers.{held_or_not, carrier_unheld, carrier_held, unput_vault, put_by, put_journal, HeldLast, PutBy}
use Rattle.payload_laws.proofs.Placed.{placed_after}

-- a carrier that stands among the records of a state
abbrev pub Inside : State → Carrier → Type 0
Inside s (Journal q) = q < s.len
Inside s (Vault i) = i < length s.items

-- the carrier of each needed position does
pub needed_inside : (rules : RuleSet) (h : List Entry) → Legal rules h → PositionsHeld (after rules h) → (p : ℕ) → is_needed (after rules h) p ≡ true → Inside (after rules h) (last_carrier (after rules h) p)
needed_inside rules h legal held p needed =
    elim (held_or_not p s.items) [
      | inl none ↦ subst (Inside s) (sym (carrier_unheld s p none)) (held.below p needed)
      | inr last ↦
          elim (cases_Bool (was_put last.1.logged.handled)) [
            | inl put ↦
                let by = put_by last.1.logged.handled put in
                subst (Inside s) (sym (carrier_held s p last.0 last.1 ∙ put_journal last.0 last.1.logged.handled by)) (below last.0 last.1 by)
            | inr waits ↦
                subst (Inside s) (sym (carrier_held s p last.0 last.1 ∙ unput_vault last.0 last.1.logged.handled waits)) (slice_get_within s.items last.0 last.1.logged last.1.there)
          ]
    ]
  where
    s : State
    s = after rules h

    below : (i : ℕ) (last : HeldLast p (after rules h).items i) (by : PutBy last.logged.handled) → by.how.put < (after rules h).len
    below i last by = ((placed_after rules h legal).puts i last.logged by.how last.there by.is by.back).below
