-- Payloads and seals along scripts.
use Rattle.std.proofs.Common.{◌≡◌, ℕ, zero, suc, ◌+◌, ◌<◌, ◌≤◌, Bool, true, false, Option, Some, None, List, [], ◌∷◌, ◌++◌, length, refl, sym, ap, subst, ◌∙◌, arith, length-append, append_assoc, append-nil}
use Rattle.std.proofs.lemmas.Bool.{and_parts, false≢true}
use Rattle.std.specs.Prelude.{slice_get, is_some, find}
use Rattle.delf_model.specs.declared.schema.Schema.{Schema}
use Rattle.delf_model.specs.declared.call.Call.{Call}
use Rattle.delf_model.specs.declared.rows.ObjectRow.{ObjectRow}
use Rattle.delf_model.specs.declared.rows.EdgeRow.{EdgeRow}
use Rattle.delf_model.specs.declared.entry.Entry.{Entry}
use Rattle.delf_model.specs.declared.entry.What.{What}
use Rattle.delf_model.specs.declared.entry.What.TheVariants.{Create, Update, Link, Unlink, Delete, Restore, Expire, Cut, Erase, Put, Purge}
use Rattle.delf_model.specs.declared.script.Command.{Command}
use Rattle.delf_model.specs.declared.script.Command.TheVariants.{Submit}
use Rattle.delf_model.specs.declared.script.Lane.{Lane}
use Rattle.delf_model.specs.RuleSet.{RuleSet}
use Rattle.delf_model.specs.Graph.{Graph, object_at, edge_at}
use Rattle.delf_model.specs.State.{State, Logged, Handled, start, position_of}
use Rattle.delf_model.specs.Owners.{key_of}
use Rattle.delf_model.specs.Step.{step, after, items_after, edge_item, object_item, handled_at, outcome}
use Rattle.delf_model.specs.Legal.{Legal, is_legal, is_legal_from, is_allowed}
use Rattle.delf_model.specs.Payloads.{Payloads, is_needed, is_at, payload_at, sealed, payloads_after, Vault, last_carrier, IsDamaged}
use Rattle.delf_model.proofs.Runs.{after_push, legal_first, legal_rest}
use Rattle.delf_model.proofs.Lines.{allowed_of}
use Rattle.delf_model.proofs.Good.{good_after}
use Rattle.delf_model.proofs.Owners.{OwnedStand}
use Rattle.payload_laws.specs.Holders.{position_taken, brings, Carried, Stays, Brought, Taken, PutBack, PositionsHeld, PayloadsMove}
use Rattle.payload_laws.proofs.Moves.{payloads_held}
use Rattle.payload_laws.proofs.Carriers.{vault_is, vault_journal}
use Rattle.payload_laws.proofs.Damage.{damaged_at_put}
use Rattle.payload_laws.proofs.Taken.{cut_there, erase_there}
use Rattle.store_laws.specs.Stores.{digest, AreSealed}
use Rattle.store_laws.proofs.Carry.{payload_kept, payload_brought, next_alone}
use Rattle.store_laws.proofs.Sealed.{SealedIn}
use Rattle.store_laws.proofs.Items.{run-len}
use Rattle.delf_book.specs.Parts.{Interrupted}
use Rattle.delf_book.specs.Books.{given_by}
use Rattle.delf_service.specs.Follows.{LeadTo}
use Rattle.delf_service.specs.Standings.{payloads_of, state_at}
use Rattle.opening_laws.specs.Entries.{SamePayloads}
use Rattle.job_report.specs.declared.work.WorkEnd.{WorkEnd}
use Rattle.job_report.specs.declared.work.WorkEnd.TheVariants as work_end
use Rattle.script_runner.specs.Blocks.{RunsLanes}
use Rattle.script_runner.specs.Serial.{Script, StepsTo, StepsEnd, PutsDamaged, MakesSteps, next_step}
use Rattle.script_runner.specs.Serial as serial
use Rattle.script_runner.specs.Worlds.{World, state_of, entry_now, interrupted, entered, with_entry, fallen, mended, later}
use Rattle.headline_laws.specs.Onward.{GoesOn}
use Rattle.headline_laws.specs.Places.{MadeAt, IsAcknowledged}
use Rattle.headline_laws.specs.Kept.{HasOnlyNeeded, KeepsPayloads, IsSealed}
use Rattle.headline_laws.proofs.Legal.{step_first}
use Rattle.headline_laws.proofs.Moves as moves
use Rattle.headline_laws.proofs.Moves.{Move, script_keeps, steps_keep}
use Rattle.headline_laws.proofs.Finding.{same_sealed_in}
use Rattle.headline_laws.proofs.Onward.{move_goes_on, legal_back, history_goes_on, block_rules, all_known}
use Rattle.headline_laws.proofs.Placing.{inside}

-- nothing need be known of the commands
abbrev Any : Command → Type 0
Any command = Unit {0}

-- where the last history is legal, what each move to a legal one keeps a script keeps
module _ (schema : Schema) (Q : World → Type 0) (keeps : (w next : World) → Move schema Any w next → Legal next.rules next.history → Q w → Q next) where
  abbrev Held : World → Type 0
  Held x = Legal x.rules x.history → Q x

  held_keeps : (w next : World) → Move schema Any w next → Held w → Held next
  held_keeps w next move so_far legal = keeps w next move legal (so_far (legal_back w next (move_goes_on schema Any w next move) legal))

  legal_script_keeps : (w next : World) (commands : List Command) (before now : ℕ) (text : List ℕ) →
      Script schema w commands before now text next → Legal next.rules next.history → Q w → Q next
  legal_script_keeps w next commands before now text script legal q =
      script_keeps schema Any Held held_keeps w next commands before now text (all_known commands) script (λ was. q) legal

  legal_steps_keep : (n : ℕ) (w next : World) → MakesSteps n w next → Legal next.rules next.history → Q w → Q next
  legal_steps_keep n w next steps legal q = steps_keep schema Any Held held_keeps n w next steps (λ was. q) legal

-- the last entry of a legal history is legal
pub last_line : (rules : RuleSet) (h : List Entry) (e : Entry) → Legal rules (h ++ e ∷ []) → is_legal (after rules h) e ≡ true
last_line rules h e legal = (and_parts (is_legal (after rules h) e) true (legal_rest (start rules) h (e ∷ []) legal)).0

-- what holds with each entry more
abbrev pub KeepsEntry : (World → Type 0) → Type 0
KeepsEntry Q = (w : World) (it : Interrupted) → Legal w.rules w.history → is_legal (state_of w) it.entry ≡ true → Q w → Q (entered w it)

-- behind a block
abbrev pub KeepsBlock : Schema → (World → Type 0) → Type 0
KeepsBlock schema Q = (w next : World) (quiet : Bool) (lanes : List Lane) (before now : ℕ) (text : List ℕ) → RunsLanes schema w quiet lanes before now text next →
    Legal next.rules next.history → Q w → Q next

-- of each world with the same history and payloads that read the same
abbrev pub KeepsAlike : (World → Type 0) → Type 0
KeepsAlike Q = (x y : World) → x.rules ≡ y.rules → x.history ≡ y.history → SamePayloads x.payloads y.payloads → Q x → Q y

-- what holds with each entry more, behind each block, and of the same history and payloads, a script keeps
module _ (schema : Schema) (Q : World → Type 0) (more : KeepsEntry Q) (block : KeepsBlock schema Q)
    (same : (w : World) (clock : ℕ) (down : Bool) (beside : Option Interrupted) → Q w → Q (record w { clock = clock; down = down; beside = beside })) where
  enters : (w next : World) (it : Interrupted) → next ≡ entered w it → Legal next.rules next.history → Q w → Q next
  enters w next it is legal q =
      let whole : Legal w.rules (w.history ++ it.entry ∷ []) = subst (λ (x : World). Legal x.rules x.history) is legal in
      subst Q (sym is) (more w it (legal_first (start w.rules) w.history (it.entry ∷ []) whole) (last_line w.rules w.history it.entry whole) q)

  move_carries : (w next : World) → Move schema Any w next → Legal next.rules next.history → Q w → Q next
  move_carries w next (moves.Stays is) legal q = subst Q (sym is) q
  move_carries w next (moves.Ticks seconds is) legal q = subst Q (sym is) (same w (later w seconds).clock w.down w.beside q)
  move_carries w next (moves.Calls asked what known answered is) legal q = enters w next (interrupted w what (given_by asked)) is legal q
  move_carries w next (moves.Steps steps) legal q = enters w next (interrupted w steps.what []) steps.is_next legal q
  move_carries w next (moves.FallsInCall asked what known answered is) legal q =
      subst Q (sym is) (same w w.clock true (Some (interrupted w what (given_by asked))) q)
  move_carries w next (moves.FallsInStep what first is) legal q = subst Q (sym is) (same w w.clock true (Some (interrupted w what [])) q)
  move_carries w next (moves.FallsReading is) legal q = subst Q (sym is) (same w w.clock true None q)
  move_carries w next (moves.Mends is) legal q = subst Q (sym is) (same w w.clock false None q)
  move_carries w next (moves.Enters it down beside line is) legal q = enters w next it is legal q
  move_carries w next (moves.Runs quiet workers turns lanes before now text known runs) legal q = block w next quiet lanes before now text runs legal q

-- a block adds its entries one after the other
module _ (Q : World → Type 0) (more : KeepsEntry Q) where
  -- a world with these entries more, and these payloads
  pub record Led (w : World) (es : List Entry) (e : Payloads) : Type 0 where
    pub last : World
    pub rules : last.rules ≡ w.rules
    pub history : last.history ≡ w.history ++ es
    pub payloads : last.payloads ≡ e
    pub holds : Q last

  led_on : (w : World) (x : Entry) (es : List Entry) (e : Payloads) (it : Interrupted) → it.entry ≡ x → Led (entered w it) es e → Led w (x ∷ es) e
  led_on w x es e it is led = record {
    last = led.last;
    rules = led.rules;
    history = led.history ∙ (append_assoc w.history (it.entry ∷ []) es ∙ ap (λ (y : Entry). w.history ++ y ∷ es) is);
    payloads = led.payloads;
    holds = led.holds;
  }

  pub leads_to : (es : List Entry) (w : World) (e : Payloads) → Legal w.rules (w.history ++ es) → LeadTo (state_of w) es w.payloads e → Q w → Led w es e
  leads_to [] w e legal lead q = record { last = w; rules = refl; history = sym (append-nil w.history); payloads = sym lead; holds = q }
  leads_to (x ∷ es) w e legal lead q =
      let it : Interrupted = record { entry = x; payload = lead.0 } in
      let longer : Legal w.rules ((w.history ++ x ∷ []) ++ es) = subst (λ (h : List Entry). Legal w.rules h) (sym (append_assoc w.history (x ∷ []) es)) legal in
      let whole : Legal w.rules (w.history ++ x ∷ []) = legal_first (start w.rules) (w.history ++ x ∷ []) es longer in
      led_on w x es e it refl (leads_to es (entered w it) e longer
      (subst (λ (s : State). LeadTo s es (payloads_after digest (state_of w) x lead.0 w.payloads) e) (sym (after_push w.rules w.history x)) lead.1)
      (more w it (legal_first (start w.rules) w.history (x ∷ []) whole) (last_line w.rules w.history x whole) q))

same_back : (d e : Payloads) → SamePayloads d e → SamePayloads e d
same_back d e same = record { bytes = λ p. sym (same.bytes p); seals = sym same.seals }

module _ (schema : Schema) (Q : World → Type 0) (more : KeepsEntry Q) (alike : KeepsAlike Q) where
  pub block_carries : KeepsBlock schema Q
  block_carries w next quiet lanes before now text runs legal q =
      let on = runs.has.later.history in
      let start_at : World = record w { payloads = payloads_of runs.first } in
      let rules = block_rules schema w next quiet lanes before now text runs in
      let history : next.history ≡ w.history ++ on.0 =
      sym runs.shows_final.history ∙ (on.1 ∙ ap (λ (h : List Entry). h ++ on.0) runs.shows_first.history) in
      let found : state_at runs.first ≡ state_of w =
      ap (λ (r : RuleSet). after r runs.first.history) runs.shows_first.rules ∙ ap (λ (h : List Entry). after w.rules h) runs.shows_first.history in
      let led = leads_to Q more on.0 start_at (payloads_of runs.final)
      (subst (λ (r : RuleSet). Legal r (w.history ++ on.0)) rules (subst (λ (h : List Entry). Legal next.rules h) history legal))
      (subst (λ (s : State). LeadTo s on.0 (payloads_of runs.first) (payloads_of runs.final)) found (runs.has.later.grown runs.shows_final.plain))
      (alike w start_at refl refl (same_back (payloads_of runs.first) w.payloads runs.shows_first.payloads) q) in
      alike led.last next (led.rules ∙ sym rules) (led.history ∙ sym history)
      (subst (λ (e : Payloads). SamePayloads e next.payloads) (sym led.payloads) runs.shows_final.payloads) led.holds

-- the state of worlds with one history
pub one_state : (x y : World) → x.rules ≡ y.rules → x.history ≡ y.history → state_of x ≡ state_of y
one_state x y rules history = ap (λ (r : RuleSet). after r x.history) rules ∙ ap (λ (h : List Entry). after y.rules h) history

-- seals

handled_length : (items : List Logged) (i : ℕ) (how : Handled) → length (handled_at items i how) ≡ length items
handled_length [] i how = refl
handled_length (x ∷ xs) zero how = refl
handled_length (x ∷ xs) (suc i) how = ap suc (handled_length xs i how)

one_edge : (g : Graph) (job : ℕ) (o : Option EdgeRow) → is_some o ≡ true → length (edge_item g job o) ≡ 1
one_edge g job None some = absurd (false≢true some)
one_edge g job (Some row) some = refl

one_object : (job : ℕ) (o : Option ObjectRow) → is_some o ≡ true → length (object_item job o) ≡ 1
one_object job None some = absurd (false≢true some)
one_object job (Some row) some = refl

plain_count : (a b : ℕ) → a ≡ b → a + 0 ≡ b
plain_count a b is = omega arith

-- an entry adds a seal for each item that it logs
seal_count : (s : State) (e : Payloads) (moment : ℕ) (w : What) → OwnedStand s → is_allowed s moment w ≡ true → length e.seals ≡ length s.items →
    length (e.seals ++ sealed digest s e w) ≡ length (items_after s w)
seal_count s e moment w owned line count = length-append e.seals (sealed digest s e w) ∙ by_kind w line
  where
    by_kind : (w : What) → is_allowed s moment w ≡ true → length e.seals + length (sealed digest s e w) ≡ length (items_after s w)
    by_kind (Create tag kind id size) line = plain_count _ _ count
    by_kind (Update tag id size) line = plain_count _ _ count
    by_kind (Link tag edge from to size) line = plain_count _ _ count
    by_kind (Unlink tag edge from to name) line = plain_count _ _ count
    by_kind (Delete tag id name) line = plain_count _ _ count
    by_kind (Restore tag job) line = plain_count _ _ count
    by_kind (Expire id) line = plain_count _ _ count
    by_kind (Cut job edge from to) line =
        let one = one_edge s.graph job (edge_at s.graph (key_of edge from to)) (cut_there s moment job edge from to line) in
        omega (arith, count, one, length-append s.items (edge_item s.graph job (edge_at s.graph (key_of edge from to))))
    by_kind (Erase job id) line =
        let one = one_object job (object_at s.graph id) (erase_there s moment job id owned line) in
        omega (arith, count, one, length-append s.items (object_item job (object_at s.graph id)))
    by_kind (Put job i) line = plain_count _ _ (count ∙ sym (handled_length s.items i (outcome s (slice_get s.items i))))
    by_kind (Purge job) line = plain_count _ _ count

behind : (xs : List (List ℕ)) (x : List ℕ) (i : ℕ) → i ≡ length xs → slice_get (xs ++ x ∷ []) i ≡ Some x
behind [] x zero is = refl
behind [] x (suc i) is = absurd (omega (arith, is))
behind (y ∷ xs) x zero is = absurd (omega (arith, is))
behind (y ∷ xs) x (suc i) is = behind xs x i (omega (arith, is))

sealed_taken : (s : State) (e : Payloads) (w : What) (p : ℕ) → position_taken s w ≡ Some p → sealed digest s e w ≡ digest (payload_at e p) ∷ []
sealed_taken s e (Cut job edge from to) p taken = let same : _ ≡ p = cc taken in ap (λ (n : ℕ). digest (payload_at e n) ∷ []) same
sealed_taken s e (Erase job id) p taken = let same : _ ≡ p = cc taken in ap (λ (n : ℕ). digest (payload_at e n) ∷ []) same
sealed_taken s e w p taken = absurd (cc taken)

module _ (s : State) (e : Payloads) (entry : Entry) (given : List ℕ) (held : PositionsHeld s) (moves_on : PayloadsMove s entry) where
  abbrev next : Payloads
  next = payloads_after digest s entry given e

  not_next : (p : ℕ) → is_needed s p ≡ true → p ≡ s.len → ⊥
  not_next p was same = let lt : p < s.len = held.below p was in omega (arith, lt, same)

  kept : (p : ℕ) → is_needed s p ≡ true → is_needed (step s entry) p ≡ true → payload_at next p ≡ payload_at e p
  kept p was needed = payload_kept s e entry given p needed (not_next p was)

  -- a position is needed after an entry that was needed before, or is the entry's own, which brings a payload
  data NeededNow (p : ℕ) : Type 0 where
    Was : is_needed s p ≡ true → NeededNow p
    Own : p ≡ s.len → brings entry.what ≡ true → NeededNow p

  by_carried : (p : ℕ) → Carried s entry p → NeededNow p
  by_carried p (Stays was same) = Was was
  by_carried p (Brought here own same) = Own here own
  by_carried p (Taken taken was same) = Was was
  by_carried p (PutBack job i logged puts there free at was carried same) = Was was

  needed_now : (p : ℕ) → is_needed (step s entry) p ≡ true → NeededNow p
  needed_now p needed = by_carried p (moves_on.carried p needed)

  sealed_by : (p i : ℕ) → length e.seals ≡ length s.items → SealedIn s e → is_needed (step s entry) p ≡ true → last_carrier (step s entry) p ≡ Vault i → Carried s entry p →
      slice_get next.seals i ≡ Some (digest (payload_at next p))
  sealed_by p i long before needed at (Stays was same) =
      inside e.seals (sealed digest s e entry.what) i (digest (payload_at e p)) (before p i was (sym same ∙ at)) ∙ ap (λ (l : List ℕ). Some (digest l)) (sym (kept p was needed))
  sealed_by p i long before needed at (Brought here own same) = vault_journal i s.len (sym at ∙ same)
  sealed_by p i long before needed at (Taken taken was same) =
      ap (λ (l : List (List ℕ)). slice_get (e.seals ++ l) i) (sealed_taken s e entry.what p taken) ∙
      (behind e.seals (digest (payload_at e p)) i (vault_is (sym at ∙ same) ∙ sym long) ∙ ap (λ (l : List ℕ). Some (digest l)) (sym (kept p was needed)))
  sealed_by p i long before needed at (PutBack job j logged puts there free position was carried same) = vault_journal i s.len (sym at ∙ same)

  sealed_next : length e.seals ≡ length s.items → SealedIn s e → SealedIn (step s entry) next
  sealed_next long before p i needed at = sealed_by p i long before needed at (moves_on.carried p needed)

entered_sealed : (w : World) (it : Interrupted) → Legal w.rules w.history → is_legal (state_of w) it.entry ≡ true → IsSealed w → IsSealed (entered w it)
entered_sealed w it legal line q =
    let laws = payloads_held w.rules w.history legal in
    let e = payloads_after digest (state_of w) it.entry it.payload w.payloads in
    let push = after_push w.rules w.history it.entry in
    record {
      sealed = subst (λ (s : State). SealedIn s e) (sym push) (sealed_next (state_of w) w.payloads it.entry it.payload laws.held (laws.moves it.entry line) q.count q.sealed);
      count = seal_count (state_of w) w.payloads it.entry.moment it.entry.what (good_after w.rules w.history legal).owned_stand (allowed_of (state_of w) it.entry line) q.count ∙
          ap (λ (s : State). length s.items) (sym push);
    }

same_sealed : (w : World) (clock : ℕ) (down : Bool) (beside : Option Interrupted) → IsSealed w → IsSealed (record w { clock = clock; down = down; beside = beside })
same_sealed w clock down beside q = record { sealed = q.sealed; count = q.count }

alike_sealed : KeepsAlike IsSealed
alike_sealed x y rules history same q = record {
  sealed = subst (λ (r : RuleSet). AreSealed r y.history y.payloads) rules
      (subst (λ (h : List Entry). AreSealed x.rules h y.payloads) history (same_sealed_in x.rules x.history x.payloads y.payloads same q.sealed));
  count = ap length (sym same.seals) ∙ (q.count ∙ ap (λ (s : State). length s.items) (one_state x y rules history));
}

sealed_moves : (schema : Schema) (w next : World) → Move schema Any w next → Legal next.rules next.history → IsSealed w → IsSealed next
sealed_moves schema = move_carries schema IsSealed entered_sealed (block_carries schema IsSealed entered_sealed alike_sealed) same_sealed

pub stays_sealed : (schema : Schema) (first : World) (commands : List Command) (before now : ℕ) (text : List ℕ) (last : World) → IsSealed first →
    Script schema first commands before now text last → Legal last.rules last.history → IsSealed last
stays_sealed schema first commands before now text last sealed script legal =
    legal_script_keeps schema IsSealed (sealed_moves schema) first last commands before now text script legal sealed

-- no step of a sealed world would put back a damaged item

pub undamaged : (w : World) (what : What) (item : ℕ) → IsSealed w → Legal w.rules w.history → next_step w ≡ Some what → PutsDamaged w what item → ⊥
undamaged w what item sealed legal first damaged =
    let hurt = damaged_at_put digest w.rules w.history w.payloads (entry_now w what) damaged.puts.job item damaged.logged legal (step_first w what legal first).1 damaged.puts.is_put
    damaged.puts.there damaged.differs in
    hurt.differs (sealed.sealed (position_of hurt.logged.item) item hurt.needed hurt.carried)

end_undamaged : (schema : Schema) (n : ℕ) (w : World) (before now made : ℕ) (end : WorkEnd) (item : ℕ) (next : World) → IsSealed w → Legal next.rules next.history →
    end ≡ work_end.Damaged item → StepsEnd n w before now made end next → ⊥
end_undamaged schema n w before now made end item next sealed legal is (serial.StepsEnd.MakesAll all count steps end_is) = cc (is, end_is)
end_undamaged schema n w before now made end item next sealed legal is (serial.StepsEnd.Idles below count steps idle end_is) = cc (is, end_is)
end_undamaged schema n w before now made end item next sealed legal is (serial.StepsEnd.MeetsDamage other what below count steps first damaged end_is) =
    undamaged next what other
    (legal_steps_keep schema IsSealed (sealed_moves schema) made w next steps legal sealed) legal first damaged
end_undamaged schema n w before now made end item next sealed legal is (serial.StepsEnd.Falls here what below rose steps first end_is fallen_is) = cc (is, end_is)

pub never_damaged : (schema : Schema) (n : ℕ) (w : World) (before now made item : ℕ) (next : World) → IsSealed w → Legal next.rules next.history →
    StepsEnd n w before now made (work_end.Damaged item) next → ⊥
never_damaged schema n w before now made item next sealed legal ends = end_undamaged schema n w before now made (work_end.Damaged item) item next sealed legal refl ends

-- payloads

pub entered_only : (w : World) (it : Interrupted) → Legal w.rules w.history → is_legal (state_of w) it.entry ≡ true → HasOnlyNeeded w → HasOnlyNeeded (entered w it)
entered_only w it legal line only =
    let e = payloads_after digest (state_of w) it.entry it.payload w.payloads in
    subst (λ (s : State). (p : ℕ) → is_needed s p ≡ false → find (is_at p) e.bytes ≡ None) (sym (after_push w.rules w.history it.entry))
    (next_alone (state_of w) w.payloads it.entry it.payload)

pub stays_only : (schema : Schema) (first : World) (commands : List Command) (before now : ℕ) (text : List ℕ) (last : World) → HasOnlyNeeded first →
    Script schema first commands before now text last → Legal last.rules last.history → HasOnlyNeeded last
stays_only schema first commands before now text last only script legal =
    legal_script_keeps schema HasOnlyNeeded
    (move_carries schema HasOnlyNeeded entered_only (λ w next quiet lanes before now text runs so_far q. runs.alone) (λ w clock down beside q. q))
    first last commands before now text script legal only

-- the payloads of a first world, at its own positions
pub record Since (first w : World) : Type 0 where
  pub onward : GoesOn first w
  pub kept : KeepsPayloads first w

longer : (first w : World) → GoesOn first w → length first.history ≤ length w.history
longer first w onward = omega (arith, ap length onward.history.1, length-append first.history onward.history.0)

len_is : (w : World) → (state_of w).len ≡ length w.history
len_is w = let is : (state_of w).len ≡ 0 + length w.history = run-len (start w.rules) w.history in omega (arith, is)

module _ (first w : World) (it : Interrupted) (legal : Legal w.rules w.history) (line : is_legal (state_of w) it.entry ≡ true) (since : Since first w) where
  abbrev after_it : Payloads
  after_it = payloads_after digest (state_of w) it.entry it.payload w.payloads

  earlier : (p : ℕ) → p < length first.history → p ≡ (state_of w).len → ⊥
  earlier p below same = omega (arith, below, same, len_is w, longer first w since.onward)

  was_needed : (p : ℕ) → p < length first.history → NeededNow (state_of w) w.payloads it.entry it.payload (payloads_held w.rules w.history legal).held ((payloads_held w.rules w.history legal).moves it.entry line) p →
      is_needed (state_of w) p ≡ true
  was_needed p below (Was was) = was
  was_needed p below (Own here own) = absurd (earlier p below here)

  needed_before : (p : ℕ) → p < length first.history → is_needed (step (state_of w) it.entry) p ≡ true → is_needed (state_of w) p ≡ true
  needed_before p below needed =
      let laws = payloads_held w.rules w.history legal in
      was_needed p below (needed_now (state_of w) w.payloads it.entry it.payload laws.held (laws.moves it.entry line) p needed)

  stepped : (s : State) → s ≡ step (state_of w) it.entry → (p : ℕ) → is_needed s p ≡ true → is_needed (step (state_of w) it.entry) p ≡ true
  stepped s is p needed = subst (λ (x : State). is_needed x p ≡ true) is needed

  pub entered_since : Since first (entered w it)
  entered_since =
      let push = after_push w.rules w.history it.entry in
      record {
        onward = record { rules = since.onward.rules; history = (since.onward.history.0 ++ it.entry ∷ [], ap (λ (h : List Entry). h ++ it.entry ∷ []) since.onward.history.1 ∙ append_assoc first.history since.onward.history.0 (it.entry ∷ [])) };
        kept = record {
          needed = λ p below needed. since.kept.needed p below (needed_before p below (stepped (state_of (entered w it)) push p needed));
          bytes = λ p below needed.
              let now = stepped (state_of (entered w it)) push p needed in
              payload_kept (state_of w) w.payloads it.entry it.payload p now (earlier p below) ∙ since.kept.bytes p below (needed_before p below now);
        };
      }

same_since : (first w : World) (clock : ℕ) (down : Bool) (beside : Option Interrupted) → Since first w → Since first (record w { clock = clock; down = down; beside = beside })
same_since first w clock down beside since = record {
  onward = record { rules = since.onward.rules; history = since.onward.history };
  kept = record { needed = since.kept.needed; bytes = since.kept.bytes };
}

pub since_itself : (w : World) → Since w w
since_itself w = record {
  onward = record { rules = refl; history = ([], sym (append-nil w.history)) };
  kept = record { needed = λ p below needed. needed; bytes = λ p below needed. refl };
}

pub alike_since : (first : World) → KeepsAlike (Since first)
alike_since first x y rules history same since =
    let needed_in : (p : ℕ) → is_needed (state_of y) p ≡ true → is_needed (state_of x) p ≡ true =
    λ p needed. subst (λ (s : State). is_needed s p ≡ true) (sym (one_state x y rules history)) needed in
    record {
      onward = record { rules = sym rules ∙ since.onward.rules; history = (since.onward.history.0, sym history ∙ since.onward.history.1) };
      kept = record {
        needed = λ p below needed. since.kept.needed p below (needed_in p needed);
        bytes = λ p below needed. sym (same.bytes p) ∙ since.kept.bytes p below (needed_in p needed);
      };
    }

since_moves : (schema : Schema) (first w next : World) → Move schema Any w next → Legal next.rules next.history → Since first w → Since first next
since_moves schema first =
    move_carries schema (Since first) (entered_since first) (block_carries schema (Since first) (entered_since first) (alike_since first)) (same_since first)

pub keeps_payloads : (schema : Schema) (first : World) (commands : List Command) (before now : ℕ) (text : List ℕ) (last : World) →
    Script schema first commands before now text last → Legal last.rules last.history → KeepsPayloads first last
keeps_payloads schema first commands before now text last script legal =
    (legal_script_keeps schema (Since first) (since_moves schema first) first last commands before now text script legal (since_itself first)).kept

-- what a call gave

whole_before : (w left : World) (it : Interrupted) → left ≡ entered w it → Legal left.rules left.history → Legal w.rules (w.history ++ it.entry ∷ [])
whole_before w left it is legal = subst (λ (x : World). Legal x.rules x.history) is legal

legal_before : (w left : World) (it : Interrupted) → left ≡ entered w it → Legal left.rules left.history → Legal w.rules w.history
legal_before w left it is legal = legal_first (start w.rules) w.history (it.entry ∷ []) (whole_before w left it is legal)

module _ (w left : World) (it : Interrupted) (is : left ≡ entered w it) (legal : Legal w.rules w.history) (line : is_legal (state_of w) it.entry ≡ true) (only : HasOnlyNeeded w) where
  abbrev Needed : ℕ → Type 0
  Needed p = NeededNow (state_of w) w.payloads it.entry it.payload (payloads_held w.rules w.history legal).held ((payloads_held w.rules w.history legal).moves it.entry line) p

  not_own : is_needed (state_of w) (state_of w).len ≡ true → ⊥
  not_own was = let lt : (state_of w).len < (state_of w).len = (payloads_held w.rules w.history legal).held.below (state_of w).len was in omega (arith, lt)

  own_needed : is_needed (state_of left) (length w.history) ≡ true → is_needed (step (state_of w) it.entry) (state_of w).len ≡ true
  own_needed needed =
      subst (λ (n : ℕ). is_needed (step (state_of w) it.entry) n ≡ true) (sym (len_is w))
      (subst (λ (s : State). is_needed s (length w.history) ≡ true) (after_push w.rules w.history it.entry)
      (subst (λ (x : World). is_needed (state_of x) (length w.history) ≡ true) is needed))

  unneeded : (b : Bool) → is_needed (state_of w) (state_of w).len ≡ b → find (is_at (state_of w).len) w.payloads.bytes ≡ None
  unneeded true was = absurd (not_own was)
  unneeded false was = only (state_of w).len was

  own_brings : Needed (state_of w).len → brings it.entry.what ≡ true
  own_brings (Was was) = absurd (not_own was)
  own_brings (Own here own) = own

  pub own_payload : is_needed (state_of left) (length w.history) ≡ true → payload_at left.payloads (length w.history) ≡ it.payload
  own_payload needed =
      let laws = payloads_held w.rules w.history legal in
      let now = own_needed needed in
      let brought = own_brings (needed_now (state_of w) w.payloads it.entry it.payload laws.held (laws.moves it.entry line) (state_of w).len now) in
      ap (λ (x : World). payload_at x.payloads (length w.history)) is ∙
      (ap (λ (n : ℕ). payload_at (payloads_after digest (state_of w) it.entry it.payload w.payloads) n) (sym (len_is w)) ∙
      payload_brought (state_of w) w.payloads it.entry it.payload (state_of w).len now (unneeded (is_needed (state_of w) (state_of w).len) refl) refl brought)

pub given_stands : (schema : Schema) (first : World) (commands : List Command) (before now : ℕ) (text : List ℕ) (last : World) (asked : Call) (what : What) → HasOnlyNeeded first →
    Legal last.rules last.history → (at : MadeAt schema first commands before now text last (Submit asked)) →
    IsAcknowledged schema at.found asked at.found_count at.left_count at.line at.left what → is_needed (state_of last) (length at.found.history) ≡ true →
    payload_at last.payloads (length at.found.history) ≡ given_by asked
given_stands schema first commands before now text last asked what only legal at is needed =
    let legal_left = legal_back at.left last (history_goes_on schema at.left at.later at.left_count now at.back last at.goes_on) legal in
    let it = interrupted at.found what (given_by asked) in
    let legal_found = legal_before at.found at.left it is.left_is legal_left in
    let line = last_line at.found.rules at.found.history it.entry (whole_before at.found at.left it is.left_is legal_left) in
    let only_found = stays_only schema first at.earlier before at.found_count at.front at.found only at.leads legal_found in
    let later_on = keeps_payloads schema at.left at.later at.left_count now at.back last at.goes_on legal in
    let grown : length at.left.history ≡ length at.found.history + 1 =
    ap (λ (x : World). length x.history) is.left_is ∙ length-append at.found.history (it.entry ∷ []) in
    let below : length at.found.history < length at.left.history = omega (arith, grown) in
    later_on.bytes (length at.found.history) below needed ∙
    own_payload at.found at.left it is.left_is legal_found line only_found (later_on.needed (length at.found.history) below needed)
