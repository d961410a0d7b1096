-- The records of one entry more hold the longer history and its payloads.
use Rattle.std.proofs.Common.{◌≡◌, ℕ, ◌+◌, ◌<◌, Bool, true, false, cond, eqb, List, [], ◌∷◌, ◌++◌, length, take, Option, Some, None, refl, sym, ap, ◌∙◌, subst, arith}
use Rattle.std.proofs.lemmas.Bool.{eqb-true, eq-eqb, ne_eqb, cond-true, cond-false, false≢true}
use Rattle.std.proofs.lemmas.List.{length-map, map-append, nil_from_length}
use Rattle.std.proofs.lemmas.List.Folds.{find-append}
use Rattle.std.specs.Prelude.{map, find, filter}
use Rattle.std.specs.Option.{option_or}
use Rattle.delf_model.specs.declared.entry.Entry.{Entry}
use Rattle.delf_model.specs.declared.entry.What.{What}
use Rattle.delf_model.specs.declared.entry.What.TheVariants.{Create, Update, Link, Unlink, Delete, Restore, Expire, Cut, Erase, Put, Purge}
use Rattle.delf_model.specs.RuleSet.{RuleSet}
use Rattle.delf_model.specs.State.{State, Logged, start}
use Rattle.delf_model.specs.Step.{step, after, items_after}
use Rattle.delf_model.specs.Legal.{Legal, is_legal}
use Rattle.delf_model.specs.Payloads.{Payloads, is_needed, is_needed_pair, is_at, payload_at, bytes_of_pair, brought, sealed, payloads_after, Carrier, Journal, Vault, last_carrier}
use Rattle.delf_model.proofs.Runs.{after_push}
use Rattle.delf_model.proofs.Lines.{allowed_of}
use Rattle.delf_model.proofs.Good.{good_after}
use Rattle.gate_log.specs.Records.{Record}
use Rattle.entry_codec.specs.EntryHead.{entry_head, AreEntries, IsEntry}
use Rattle.payload_laws.specs.Holders.{brings, position_taken, Carried, Stays, Brought, Taken, PutBack, PayloadsMove, PositionsHeld}
use Rattle.payload_laws.proofs.Moves.{payloads_held}
use Rattle.store_laws.specs.Stores.{digest, head_in, length_in, seal_in, seals_of, payload_in, record_sizes, item_heads, logged_size, Spell, Hold}
use Rattle.store_laws.specs.Moves.{IsEntryRecord, AreItemRecords, new_items}
use Rattle.store_laws.proofs.Places.{payload_inside, payload_behind}
use Rattle.store_laws.proofs.Items.{item_in, item_heads_same, sizes_same, item_heads-append, kept_items, new_none, items_split, record_sizes-append, run-len}
use Rattle.store_laws.proofs.Needs.{Inside, needed_inside}
use Rattle.payload_laws.proofs.Taken.{taken_needed}

abbrev pub Reads : State → Payloads → List Record → List Record → Type 0
Reads s e journal vault = (p : ℕ) → is_needed s p ≡ true → payload_in journal vault (last_carrier s p) ≡ payload_at e p

abbrev pub Alone : State → Payloads → Type 0
Alone s e = (p : ℕ) → is_needed s p ≡ false → find (is_at p) e.bytes ≡ None

-- what a filter finds

find_kept : {A : Type 0} (q keep : A → Bool) → ((x : A) → q x ≡ true → keep x ≡ true) → (xs : List A) → find q (filter keep xs) ≡ find q xs
find_kept {A = A} q keep keeps [] = refl
find_kept {A = A} q keep keeps (x ∷ xs) = by_both (keep x) (q x) refl refl (find_kept q keep keeps xs)
  where
    by_both : (k b : Bool) → keep x ≡ k → q x ≡ b → find q (filter keep xs) ≡ find q xs → find q (cond k (x ∷ filter keep xs) (filter keep xs)) ≡ cond b (Some x) (find q xs)
    by_both true true kept hit IH = cond-true (q x) (Some x) (find q (filter keep xs)) hit
    by_both true false kept hit IH = cond-false (q x) (Some x) (find q (filter keep xs)) hit ∙ IH
    by_both false true kept hit IH = absurd (false≢true (sym kept ∙ keeps x hit))
    by_both false false kept hit IH = IH

find_dropped : {A : Type 0} (q keep : A → Bool) → ((x : A) → q x ≡ true → keep x ≡ false) → (xs : List A) → find q (filter keep xs) ≡ None
find_dropped {A = A} q keep drops [] = refl
find_dropped {A = A} q keep drops (x ∷ xs) = by_both (keep x) (q x) refl refl (find_dropped q keep drops xs)
  where
    by_both : (k b : Bool) → keep x ≡ k → q x ≡ b → find q (filter keep xs) ≡ None → find q (cond k (x ∷ filter keep xs) (filter keep xs)) ≡ None
    by_both true true kept hit IH = absurd (false≢true (sym (drops x hit) ∙ kept))
    by_both true false kept hit IH = cond-false (q x) (Some x) (find q (filter keep xs)) hit ∙ IH
    by_both false b kept hit IH = IH

needed_kept : (s : State) (p : ℕ) (pairs : List (ℕ × List ℕ)) → is_needed s p ≡ true → find (is_at p) (filter (is_needed_pair s) pairs) ≡ find (is_at p) pairs
needed_kept s p pairs needed =
    find_kept (is_at p) (is_needed_pair s) (λ x at. ap (is_needed s) (eqb-true x.0 p at) ∙ needed) pairs

unneeded_dropped : (s : State) (p : ℕ) (pairs : List (ℕ × List ℕ)) → is_needed s p ≡ false → find (is_at p) (filter (is_needed_pair s) pairs) ≡ None
unneeded_dropped s p pairs unneeded =
    find_dropped (is_at p) (is_needed_pair s) (λ x at. ap (is_needed s) (eqb-true x.0 p at) ∙ unneeded) pairs

-- what an entry brings

brought_none : (n p : ℕ) (given : List ℕ) → (p ≡ n → ⊥) → find (is_at p) ((n, given) ∷ []) ≡ None
brought_none n p given apart = cond-false (eqb n p) (Some (n, given)) None (ne_eqb n p (λ same. apart (sym same)))

brought_other : (n p : ℕ) (w : What) (given : List ℕ) → (p ≡ n → ⊥) → find (is_at p) (brought n w given) ≡ None
brought_other n p (Create tag kind id size) given apart = brought_none n p given apart
brought_other n p (Update tag id size) given apart = brought_none n p given apart
brought_other n p (Link tag edge from to size) given apart = brought_none n p given apart
brought_other n p (Unlink tag edge from to name) given apart = refl
brought_other n p (Delete tag id name) given apart = refl
brought_other n p (Restore tag job) given apart = refl
brought_other n p (Expire id) given apart = refl
brought_other n p (Cut job edge from to) given apart = refl
brought_other n p (Erase job id) given apart = refl
brought_other n p (Put job i) given apart = refl
brought_other n p (Purge job) given apart = refl

brought_one : (n p : ℕ) (given : List ℕ) → p ≡ n → bytes_of_pair (find (is_at p) ((n, given) ∷ [])) ≡ given
brought_one n p given same = ap bytes_of_pair (cond-true (eqb n p) (Some (n, given)) None (eq-eqb n p (sym same)))

brought_own : (n p : ℕ) (w : What) (given : List ℕ) → p ≡ n → brings w ≡ true → bytes_of_pair (find (is_at p) (brought n w given)) ≡ given
brought_own n p (Create tag kind id size) given same own = brought_one n p given same
brought_own n p (Update tag id size) given same own = brought_one n p given same
brought_own n p (Link tag edge from to size) given same own = brought_one n p given same
brought_own n p w given same own = absurd (false≢true own)

option_or_none : {A : Type 0} (o other : Option A) → other ≡ None → option_or o other ≡ o
option_or_none None other none = none
option_or_none (Some x) other none = refl

module _ (s : State) (e : Payloads) (entry : Entry) (given : List ℕ) where
  abbrev next : Payloads
  next = payloads_after digest s entry given e

  pub payload_kept : (p : ℕ) → is_needed (step s entry) p ≡ true → (p ≡ s.len → ⊥) → payload_at next p ≡ payload_at e p
  payload_kept p needed apart =
      ap bytes_of_pair
      (needed_kept (step s entry) p (e.bytes ++ brought s.len entry.what given) needed ∙
      (find-append (is_at p) e.bytes (brought s.len entry.what given) ∙ option_or_none (find (is_at p) e.bytes) (find (is_at p) (brought s.len entry.what given)) (brought_other s.len p entry.what given apart)))

  pub payload_brought : (p : ℕ) → is_needed (step s entry) p ≡ true → find (is_at p) e.bytes ≡ None → p ≡ s.len → brings entry.what ≡ true → payload_at next p ≡ given
  payload_brought p needed none same own =
      ap bytes_of_pair
      (needed_kept (step s entry) p (e.bytes ++ brought s.len entry.what given) needed ∙
      (find-append (is_at p) e.bytes (brought s.len entry.what given) ∙ ap (λ (o : Option (ℕ × List ℕ)). option_or o (find (is_at p) (brought s.len entry.what given))) none)) ∙
      brought_own s.len p entry.what given same own

  pub next_alone : Alone (step s entry) next
  next_alone p unneeded = unneeded_dropped (step s entry) p (e.bytes ++ brought s.len entry.what given) unneeded

-- the payloads of the longer history stand at their last carriers
module _ (s : State) (e : Payloads) (entry : Entry) (given : List ℕ) (journal vault : List Record) (r : Record) (added : List Record)
    (held : PositionsHeld s) (moves : PayloadsMove s entry) (inside : (p : ℕ) → is_needed s p ≡ true → Inside s (last_carrier s p))
    (journal_long : length journal ≡ s.len) (vault_long : length vault ≡ length s.items)
    (reads : Reads s e journal vault) (alone : Alone s e)
    (one : IsEntryRecord s vault entry given r) (more : AreItemRecords s journal vault entry.what added) where
  longer : (c : Carrier) → Inside s c → payload_in (journal ++ r ∷ []) (vault ++ added) c ≡ payload_in journal vault c
  longer (Journal q) within = payload_inside journal (r ∷ []) q (omega (arith, within, journal_long))
  longer (Vault i) within = payload_inside vault added i (omega (arith, within, vault_long))

  not_next : (p : ℕ) → is_needed s p ≡ true → p ≡ s.len → ⊥
  not_next p needed same = let lt : p < s.len = held.below p needed in omega (arith, lt, same)

  read_by : (p : ℕ) → is_needed (step s entry) p ≡ true → Carried s entry p → payload_in (journal ++ r ∷ []) (vault ++ added) (last_carrier (step s entry) p) ≡ payload_at (payloads_after digest s entry given e) p
  read_by p needed (Stays was same) =
      ap (payload_in (journal ++ r ∷ []) (vault ++ added)) same ∙
      (longer (last_carrier s p) (inside p was) ∙ (reads p was ∙ sym (payload_kept s e entry given p needed (not_next p was))))
  read_by p needed (Brought at own same) =
      ap (payload_in (journal ++ r ∷ []) (vault ++ added)) same ∙
      (payload_behind journal (r ∷ []) s.len (sym journal_long) ∙ (one.brought own ∙ sym (payload_brought s e entry given p needed (unheld (is_needed s p) refl) at own)))
    where
      unheld : (b : Bool) → is_needed s p ≡ b → find (is_at p) e.bytes ≡ None
      unheld true was = absurd (not_next p was at)
      unheld false was = alone p was
  read_by p needed (Taken taken was same) =
      ap (payload_in (journal ++ r ∷ []) (vault ++ added)) same ∙
      (payload_behind vault added (length s.items) (sym vault_long) ∙ (more.payload p taken ∙ (reads p was ∙ sym (payload_kept s e entry given p needed (not_next p was)))))
  read_by p needed (PutBack job i logged puts there free at was carried same) =
      ap (payload_in (journal ++ r ∷ []) (vault ++ added)) same ∙
      (payload_behind journal (r ∷ []) s.len (sym journal_long) ∙
      (one.put job i logged puts there free ∙
      (ap (payload_in journal vault) (sym carried) ∙ (reads p was ∙ sym (payload_kept s e entry given p needed (not_next p was))))))

  pub next_reads : Reads (step s entry) (payloads_after digest s entry given e) (journal ++ r ∷ []) (vault ++ added)
  next_reads p needed = read_by p needed (moves.carried p needed)

-- the records of what an entry logs, and their seals

pub none_added : (s : State) (journal vault : List Record) (w : What) (added : List Record) → AreItemRecords s journal vault w added → position_taken s w ≡ None → added ≡ []
none_added s journal vault w added more none =
    nil_from_length added (omega (arith, ap length more.sizes, length-map added length_in, length-map (new_items s w) logged_size, ap length (new_none s w none)))

module _ (s : State) (e : Payloads) (journal vault added : List Record) (reads : Reads s e journal vault) where
  abbrev TakenNeeded : What → Type 0
  TakenNeeded w = (p : ℕ) → position_taken s w ≡ Some p → is_needed s p ≡ true

  seal_taken : (w : What) → AreItemRecords s journal vault w added → TakenNeeded w → (p : ℕ) → position_taken s w ≡ Some p → seals_of added ≡ digest (payload_at e p) ∷ []
  seal_taken w more needs p taken = more.seals p taken ∙ ap (λ (l : List ℕ). digest l ∷ []) (reads p (needs p taken))

  no_seals : (w : What) → AreItemRecords s journal vault w added → position_taken s w ≡ None → seals_of added ≡ []
  no_seals w more none = ap seals_of (none_added s journal vault w added more none)

  pub added_seals : (w : What) → AreItemRecords s journal vault w added → TakenNeeded w → seals_of added ≡ sealed digest s e w
  added_seals (Create tag kind id size) more needs = no_seals (Create tag kind id size) more refl
  added_seals (Update tag id size) more needs = no_seals (Update tag id size) more refl
  added_seals (Link tag edge from to size) more needs = no_seals (Link tag edge from to size) more refl
  added_seals (Unlink tag edge from to name) more needs = no_seals (Unlink tag edge from to name) more refl
  added_seals (Delete tag id name) more needs = no_seals (Delete tag id name) more refl
  added_seals (Restore tag job) more needs = no_seals (Restore tag job) more refl
  added_seals (Expire id) more needs = no_seals (Expire id) more refl
  added_seals (Cut job edge from to) more needs = seal_taken (Cut job edge from to) more needs _ refl
  added_seals (Erase job id) more needs = seal_taken (Erase job id) more needs _ refl
  added_seals (Put job i) more needs = no_seals (Put job i) more refl
  added_seals (Purge job) more needs = no_seals (Purge job) more refl

-- lengths

pub journal_length : (rules : RuleSet) (h : List Entry) (journal vault : List Record) → Spell rules h journal vault → length journal ≡ (after rules h).len
journal_length rules h journal vault spell =
    let is : (after rules h).len ≡ 0 + length h = run-len (start rules) h in
    omega (arith, is, ap length spell.heads, length-map journal head_in, length-map h entry_head)

pub vault_length : (rules : RuleSet) (h : List Entry) (journal vault : List Record) → Spell rules h journal vault → length vault ≡ length (after rules h).items
vault_length rules h journal vault spell =
    omega (arith, ap length spell.item_sizes, length-map vault length_in, length-map (after rules h).items logged_size)

-- heads and sizes

module _ (s : State) (w : What) (journal vault added : List Record) (more : AreItemRecords s journal vault w added) (vault_long : length vault ≡ length s.items) where
  kept_length : length (take (length s.items) (items_after s w)) ≡ length s.items
  kept_length =
      omega (arith, ap length (kept_items s w), length-map (take (length s.items) (items_after s w)) item_in, length-map s.items item_in)

  pub next_heads : map head_in vault ≡ item_heads s.items (seals_of vault) → map head_in (vault ++ added) ≡ item_heads (items_after s w) (seals_of (vault ++ added))
  next_heads heads =
      map-append head_in vault added ∙
      (ap (λ (l : List (List ℕ)). l ++ map head_in added) (heads ∙ sym (item_heads_same (take (length s.items) (items_after s w)) s.items (seals_of vault) (kept_items s w))) ∙
      (ap (λ (l : List (List ℕ)). item_heads (take (length s.items) (items_after s w)) (seals_of vault) ++ l) more.heads ∙
      (sym (item_heads-append (take (length s.items) (items_after s w)) (new_items s w) (seals_of vault) (seals_of added)
      (omega (arith, kept_length, vault_long, length-map vault seal_in))) ∙
      (ap (λ (l : List Logged). item_heads l (seals_of vault ++ seals_of added)) (sym (items_split s w)) ∙
      ap (item_heads (items_after s w)) (sym (map-append seal_in vault added))))))

  pub next_sizes : map length_in vault ≡ map logged_size s.items → map length_in (vault ++ added) ≡ map logged_size (items_after s w)
  next_sizes sizes =
      map-append length_in vault added ∙
      (ap (λ (l : List ℕ). l ++ map length_in added) (sizes ∙ sym (sizes_same (take (length s.items) (items_after s w)) s.items (kept_items s w))) ∙
      (ap (λ (l : List ℕ). map logged_size (take (length s.items) (items_after s w)) ++ l) more.sizes ∙
      (sym (map-append logged_size (take (length s.items) (items_after s w)) (new_items s w)) ∙
      ap (map logged_size) (sym (items_split s w)))))

pub entries_push : (h : List Entry) (entry : Entry) → AreEntries h → IsEntry entry → AreEntries (h ++ entry ∷ [])
entries_push [] entry all one = (one, tt)
entries_push (x ∷ xs) entry all one = (all.0, entries_push xs entry all.1 one)

spell_on : (rules : RuleSet) (h : List Entry) (entry : Entry) (given : List ℕ) (journal vault : List Record) (r : Record) (added : List Record) → Spell rules h journal vault →
    IsEntryRecord (after rules h) vault entry given r → AreItemRecords (after rules h) journal vault entry.what added → Spell rules (h ++ entry ∷ []) (journal ++ r ∷ []) (vault ++ added)
spell_on rules h entry given journal vault r added spell one more = record {
  entries = entries_push h entry spell.entries one.entry_spelled;
  heads = map-append head_in journal (r ∷ []) ∙ (ap (λ (l : List (List ℕ)). l ++ r.head ∷ []) spell.heads ∙
      (ap (λ (l : List ℕ). map entry_head h ++ l ∷ []) one.head ∙ sym (map-append entry_head h (entry ∷ []))));
  sizes = map-append length_in journal (r ∷ []) ∙ (ap (λ (l : List ℕ). l ++ length r.payload ∷ []) spell.sizes ∙
      (ap (λ (n : ℕ). record_sizes (start rules) h ++ n ∷ []) one.size ∙ sym (record_sizes-append (start rules) h entry)));
  items = next_heads (after rules h) entry.what journal vault added more (vault_length rules h journal vault spell) spell.items ∙
      ap (λ (s : State). item_heads s.items (seals_of (vault ++ added))) (sym (after_push rules h entry));
  item_sizes = next_sizes (after rules h) entry.what journal vault added more (vault_length rules h journal vault spell) spell.item_sizes ∙
      ap (λ (s : State). map logged_size s.items) (sym (after_push rules h entry));
}

pub carry_on : (rules : RuleSet) (h : List Entry) (e : Payloads) (entry : Entry) (given : List ℕ) (journal vault : List Record) (r : Record) (added : List Record) →
    Legal rules h → is_legal (after rules h) entry ≡ true → Hold rules h e journal vault →
    IsEntryRecord (after rules h) vault entry given r → AreItemRecords (after rules h) journal vault entry.what added →
    Hold rules (h ++ entry ∷ []) (payloads_after digest (after rules h) entry given e) (journal ++ r ∷ []) (vault ++ added)
carry_on rules h e entry given journal vault r added legal line hold one more = record {
  spell = spell_on rules h entry given journal vault r added hold.spell one more;
  reads = subst (λ (t : State). Reads t (payloads_after digest (after rules h) entry given e) (journal ++ r ∷ []) (vault ++ added)) (sym (after_push rules h entry))
      (next_reads (after rules h) e entry given journal vault r added (payloads_held rules h legal).held ((payloads_held rules h legal).moves entry line)
      (needed_inside rules h legal (payloads_held rules h legal).held) (journal_length rules h journal vault hold.spell) (vault_length rules h journal vault hold.spell)
      hold.reads hold.alone one more);
  seals = map-append seal_in vault added ∙ (ap (λ (l : List (List ℕ)). l ++ seals_of added) hold.seals ∙
      ap (λ (l : List (List ℕ)). e.seals ++ l)
      (added_seals (after rules h) e journal vault added hold.reads entry.what more
      (taken_needed (after rules h) entry.moment entry.what (good_after rules h legal).owned_stand (allowed_of (after rules h) entry line))));
  alone = subst (λ (t : State). Alone t (payloads_after digest (after rules h) entry given e)) (sym (after_push rules h entry)) (next_alone (after rules h) e entry given);
}
