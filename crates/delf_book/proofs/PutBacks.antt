-- By position, the journal record that carries the payload of a row, after an entry that may put one back.
use Rattle.std.proofs.Common.{◌≡◌, ℕ, zero, suc, ◌+◌, ◌<◌, true, false, cond, List, [], ◌∷◌, ◌++◌, length, Option, Some, None, refl, sym, ap, ◌∙◌, subst, arith, length-append}
use Rattle.std.specs.Prelude.{slice_get, slice_set, is_none}
use Rattle.std.proofs.lemmas.Bool.{false≢true}
use Rattle.std.proofs.lemmas.Option.{same_Some}
use Rattle.std.proofs.lemmas.List.{length-set}
use Rattle.delf_model.specs.declared.call.Cause.{Cause}
use Rattle.delf_model.specs.declared.rows.Item.{Item}
use Rattle.delf_model.specs.declared.entry.Entry.{Entry}
use Rattle.delf_model.specs.declared.entry.What.{What}
use Rattle.delf_model.specs.declared.entry.What.TheVariants.{Put}
use Rattle.delf_model.specs.RuleSet.{RuleSet}
use Rattle.delf_model.specs.State.{State, Logged, position_of}
use Rattle.delf_model.specs.Step.{step, after}
use Rattle.delf_model.specs.Puts.{judged}
use Rattle.delf_model.specs.Legal.{Legal, is_legal, is_allowed}
use Rattle.delf_model.specs.Report.{was_put}
use Rattle.delf_model.specs.Payloads.{is_needed, Journal, Vault, last_carrier}
use Rattle.delf_model.proofs.Lines.{allowed_of}
use Rattle.delf_model.proofs.Places.{may_put_of}
use Rattle.delf_model.proofs.Runs.{after_push}
use Rattle.job_table.specs.Table.{item_at}
use Rattle.payload_laws.specs.Holders.{Carried, Stays, Brought, Taken, PutBack, brings}
use Rattle.payload_laws.proofs.Carriers.{journal_is, vault_journal}
use Rattle.payload_laws.proofs.Moves.{payloads_held}
use Rattle.payload_laws.proofs.Placed.{placed_after}
use Rattle.payload_laws.proofs.Rows.{none_handled}
use Rattle.delf_book.specs.Keeping.{KeepsCarriers}
use Rattle.ledger.specs.Ledgers.{position_back, position_of_put}
use Rattle.delf_book.proofs.Carrying.{len_is, inside, behind}

-- the list with the record at the position that is put back
abbrev pub set_back : Option ℕ → ℕ → List ℕ → List ℕ
set_back None n xs = xs
set_back (Some p) n xs = slice_set xs p n

set_here : (xs : List ℕ) (p n : ℕ) → p < length xs → slice_get (slice_set xs p n) p ≡ Some n
set_here [] p n within = absurd (omega arith)
set_here (x ∷ xs) zero n within = refl
set_here (x ∷ xs) (suc p) n within = set_here xs p n (omega arith)

set_other : (xs : List ℕ) (p n q : ℕ) → (q ≡ p → ⊥) → slice_get (slice_set xs p n) q ≡ slice_get xs q
set_other [] p n q other = refl
set_other (x ∷ xs) zero n zero other = absurd (other refl)
set_other (x ∷ xs) zero n (suc q) other = refl
set_other (x ∷ xs) (suc p) n zero other = refl
set_other (x ∷ xs) (suc p) n (suc q) other = set_other xs p n q (λ same. other (ap suc same))

-- an item whose row comes back
record BackAt (s : State) (what : What) (p : ℕ) : Type 0 where
  job : ℕ
  item : ℕ
  logged : Logged
  puts : what ≡ Put job item
  there : slice_get s.items item ≡ Some logged
  free : judged s logged.item ≡ None
  at : p ≡ position_of logged.item
  waits : was_put logged.handled ≡ false

by_cause : (c : Option Cause) (q p : ℕ) → cond (is_none c) (Some q) None ≡ Some p → (c ≡ None) × (p ≡ q)
by_cause None q p is = (refl, sym (same_Some q p is))
by_cause (Some cause) q p is = absurd (cc is)

back_at : (s : State) (moment : ℕ) (what : What) (p : ℕ) → is_allowed s moment what ≡ true → position_back s what ≡ Some p → BackAt s what p
back_at s moment (Put job i) p line is =
    let may = may_put_of s job i (slice_get s.items i) refl line in
    let item : item_at s i ≡ Some may.logged.item = ap (λ (o : Option Logged). option_item o) may.at in
    let cause = by_cause (judged s may.logged.item) (position_of may.logged.item) p (sym (ap (position_of_put s) item) ∙ is) in
    record {
      job = job;
      item = i;
      logged = may.logged;
      puts = refl;
      there = may.at;
      free = cause.0;
      at = cause.1;
      waits = ap was_put (none_handled may.logged.handled may.waiting);
    }
  where
    option_item : Option Logged → Option Item
    option_item None = None
    option_item (Some logged) = Some logged.item
back_at s moment what p line is = absurd (cc is)

-- a put whose row comes back is that of a position
back_of : (s : State) (what : What) (job i : ℕ) (logged : Logged) → what ≡ Put job i → slice_get s.items i ≡ Some logged → judged s logged.item ≡ None →
    position_back s what ≡ Some (position_of logged.item)
back_of s what job i logged puts there free = cc

module _ (rules : RuleSet) (h : List Entry) (entry : Entry) (carriers : List ℕ) (legal : Legal rules h) (line : is_legal (after rules h) entry ≡ true)
    (kept : KeepsCarriers rules h carriers) where
  more : List ℕ
  more = carriers ++ length h ∷ []

  length_more : length more ≡ length h + 1
  unfolding more
  length_more = length-append carriers (length h ∷ []) ∙ ap (λ (n : ℕ). n + 1) kept.many

  pub back_below : (p : ℕ) → position_back (after rules h) entry.what ≡ Some p → p < length h
  back_below p is =
      let back = back_at (after rules h) entry.moment entry.what p (allowed_of (after rules h) entry line) is in
      let below = ((placed_after rules h legal).items back.item back.logged back.there).below in
      omega (arith, below, back.at, len_is rules h)

  -- before the entry, the item's own record carries it
  in_vault : (p : ℕ) (back : BackAt (after rules h) entry.what p) → last_carrier (after rules h) p ≡ Vault back.item
  in_vault p back = ap (last_carrier (after rules h)) back.at ∙ (payloads_held rules h legal).held.items back.item back.logged back.there back.waits

  no_put : {A : Type 0} → (position_back (after rules h) entry.what ≡ None) → (job i : ℕ) (logged : Logged) → entry.what ≡ Put job i → slice_get (after rules h).items i ≡ Some logged →
      judged (after rules h) logged.item ≡ None → A
  no_put none job i logged puts there free = absurd (let back = back_of (after rules h) entry.what job i logged puts there free in cc)

  none_back : position_back (after rules h) entry.what ≡ None → (p q : ℕ) → last_carrier (step (after rules h) entry) p ≡ Journal q → Carried (after rules h) entry p → slice_get more p ≡ Some q
  unfolding more
  none_back none p q at (Stays was same) = inside carriers (length h ∷ []) p q (kept.carried p q was (sym same ∙ at))
  none_back none p q at (Brought here own same) =
      behind carriers (length h) p (here ∙ (len_is rules h ∙ sym kept.many)) ∙ ap Some (sym (len_is rules h) ∙ journal_is (sym same ∙ at))
  none_back none p q at (Taken taken was same) = vault_journal (length (after rules h).items) q (sym same ∙ at)
  none_back none p q at (PutBack job i logged puts there free position was carried same) = no_put none job i logged puts there free

  some_back : (b : ℕ) → position_back (after rules h) entry.what ≡ Some b → BackAt (after rules h) entry.what b → (p q : ℕ) → last_carrier (step (after rules h) entry) p ≡ Journal q →
      Carried (after rules h) entry p → slice_get (slice_set more b (length h)) p ≡ Some q
  unfolding more
  some_back b is back p q at (Stays was same) =
      set_other more b (length h) p (λ here. vault_journal back.item q (sym (in_vault b back) ∙ (ap (last_carrier (after rules h)) (sym here) ∙ (sym same ∙ at)))) ∙
      inside carriers (length h ∷ []) p q (kept.carried p q was (sym same ∙ at))
  some_back b is back p q at (Brought here own same) = absurd (false≢true (ap brings (sym back.puts) ∙ own))
  some_back b is back p q at (Taken taken was same) = vault_journal (length (after rules h).items) q (sym same ∙ at)
  some_back b is back p q at (PutBack job i logged puts there free position was carried same) =
      let here : p ≡ b = position ∙ same_Some (position_of logged.item) b (sym (back_of (after rules h) entry.what job i logged puts there free) ∙ is) in
      let set = set_here more b (length h) (let below = back_below b is in omega (arith, below, length_more)) in
      ap (slice_get (slice_set more b (length h))) here ∙ (set ∙ ap Some (sym (len_is rules h) ∙ journal_is (sym same ∙ at)))

  carried_next : (o : Option ℕ) → position_back (after rules h) entry.what ≡ o → (p q : ℕ) → is_needed (step (after rules h) entry) p ≡ true →
      last_carrier (step (after rules h) entry) p ≡ Journal q → slice_get (set_back o (length h) (carriers ++ length h ∷ [])) p ≡ Some q
  unfolding more
  carried_next None is p q needed at = none_back is p q at (((payloads_held rules h legal).moves entry line).carried p needed)
  carried_next (Some b) is p q needed at =
      some_back b is (back_at (after rules h) entry.moment entry.what b (allowed_of (after rules h) entry line) is) p q at (((payloads_held rules h legal).moves entry line).carried p needed)

  length_next : (o : Option ℕ) → length (set_back o (length h) (carriers ++ length h ∷ [])) ≡ length h + 1
  unfolding more
  length_next None = length_more
  length_next (Some b) = length-set (carriers ++ length h ∷ []) b (length h) ∙ length_more

  pub carriers_next : (o : Option ℕ) → position_back (after rules h) entry.what ≡ o → KeepsCarriers rules (h ++ entry ∷ []) (set_back o (length h) (carriers ++ length h ∷ []))
  carriers_next o is = record {
    many = length_next o ∙ sym (length-append h (entry ∷ []));
    carried =
        subst (λ (s : State). (p q : ℕ) → is_needed s p ≡ true → last_carrier s p ≡ Journal q → slice_get (set_back o (length h) (carriers ++ length h ∷ [])) p ≡ Some q) (sym (after_push rules h entry))
        (carried_next o is);
  }
