-- The record of a row in the vault, and what the entry that takes the row is over the images that have it.
use Rattle.std.proofs.Common.{◌≡◌, ℕ, ◌+◌, ◌-◌, true, List, [], ◌∷◌, ◌++◌, length, drop, Some, None, inl, refl, sym, ap, ◌∙◌, subst, arith, length-append}
use Rattle.std.proofs.lemmas.List.{drop_at}
use Rattle.std.proofs.lemmas.Option.{same_Some}
use Rattle.std.specs.Prelude.{map}
use Rattle.delf_disk.specs.Areas.{Areas}
use Rattle.delf_disk.specs.declared.area.Area.{Area}
use Rattle.delf_disk.specs.declared.area.Area.TheVariants as area
use Rattle.gate_log.specs.Records.{Record, size_of, payload_of}
use Rattle.gate_log.specs.Logs.{Stands}
use Rattle.gate_log.specs.Steps.{PayloadRead}
use Rattle.delf_disk.specs.Images.{Same}
use Rattle.delf_disk.specs.Moments.{Runs, Leaves}
use Rattle.delf_disk.proofs.Moments.{leaves_first}
use Rattle.entry_codec.specs.Field.{spelled}
use Rattle.entry_codec.specs.ItemHead.{item_fields, item_head, item_size, IsItemHead}
use Rattle.delf_model.specs.declared.rows.Item.{Item}
use Rattle.delf_model.specs.declared.rows.Item.TheVariants as item
use Rattle.delf_model.specs.declared.entry.Entry.{Entry}
use Rattle.delf_model.specs.declared.entry.What.{What}
use Rattle.delf_model.specs.declared.entry.What.TheVariants.{Cut, Erase, Put}
use Rattle.delf_model.specs.RuleSet.{RuleSet}
use Rattle.delf_model.specs.State.{State, Logged, position_of, size_of as item_payload}
use Rattle.delf_model.specs.Step.{after}
use Rattle.delf_model.specs.Legal.{Legal, is_legal}
use Rattle.delf_model.specs.Payloads.{Payloads, Journal, last_carrier, payload_at, is_needed}
use Rattle.delf_model.proofs.Good.{good_after}
use Rattle.delf_model.proofs.Lines.{allowed_of}
use Rattle.payload_laws.specs.Holders.{position_taken, scrubbed_by, record_size}
use Rattle.store_laws.specs.Logged.{IsLog}
use Rattle.store_laws.specs.Stores.{digest, Hold, journal_mark, journal_of, vault_of, vault_for, payload_in, seal_in, seals_of, item_heads, logged_size, AreScrubbed}
use Rattle.store_laws.specs.Moves.{AreItemRecords, RestIn, StandsFor, new_items}
use Rattle.store_laws.proofs.Appends.{journal_stands, journal_sizes, rest_stand}
use Rattle.store_laws.proofs.Spelled.{log_told}
use Rattle.payload_laws.proofs.Taken.{taken_needed}
use Rattle.delete_step.specs.Claims.{ClaimView}
use Rattle.delete_step.specs.Records.{head_of}
use Rattle.delf_book.specs.Keeping.{PutsBack, item_sizes}
use Rattle.delf_book.specs.Taken.{TakesItem}
use Rattle.delf_book.specs.Writing.{Writes, HasItem, Rests}
use Rattle.delf_book.proofs.Taking.{carried_at}

-- the head of the record, and the digest at its end

pub head_digest : (claim : ClaimView) → head_of claim ≡ item_head claim.item (digest claim.payload)
unfolding digest
head_digest claim = refl

pub digest_long : (claim : ClaimView) (seal head : List ℕ) (n : ℕ) → IsItemHead claim.item seal head n → head ≡ head_of claim → length (digest claim.payload) ≡ 32
digest_long claim seal head n is same =
    let front : List ℕ = spelled (item_fields claim.item) in
    let both : front ++ seal ≡ front ++ digest claim.payload = sym is.spelling ∙ (same ∙ head_digest claim) in
    omega (arith, is.digest_length, ap length both, length-append front seal, length-append front (digest claim.payload))

seal_behind : (front seal head : List ℕ) → length seal ≡ 32 → head ≡ front ++ seal → drop (length head - 32) head ≡ seal
seal_behind front seal head long is =
    let at : length front ≡ length head - 32 = omega (arith, long, ap length is, length-append front seal) in
    ap (λ (l : List ℕ). drop (length head - 32) l) is ∙ drop_at front seal (length head - 32) at

same_size : (it : Item) → item_size it ≡ item_payload it
same_size (item.Object job row) = refl
same_size (item.Edge job row from_birth to_birth) = refl

-- the lengths of that record are those of the item
pub row_sizes : (s : State) (w : What) (claim : ClaimView) (head payload : List ℕ) → TakesItem s w claim.item → length claim.payload ≡ item_size claim.item → head ≡ head_of claim →
    payload ≡ claim.payload → length (digest claim.payload) ≡ 32 → (length head, length payload) ∷ [] ≡ map item_sizes (new_items s w)
row_sizes s w claim head payload takes size is same long =
    let front : List ℕ = spelled (item_fields claim.item) in
    let head_long : length head ≡ length front + 32 = ap length (is ∙ head_digest claim) ∙ (length-append front (digest claim.payload) ∙ ap (λ (n : ℕ). length front + n) long) in
    let payload_long : length payload ≡ item_payload claim.item = ap length same ∙ (size ∙ same_size claim.item) in
    ap (λ (n : ℕ). (n, length payload) ∷ []) head_long ∙ (ap (λ (n : ℕ). (length front + 32, n) ∷ []) payload_long ∙ ap (map item_sizes) (sym takes.items))

-- a taken row makes the entry one without a payload of its own

no_size : (s : State) (w : What) (p : ℕ) → position_taken s w ≡ Some p → 0 ≡ record_size s w
no_size s (Cut job edge from to) p taken = refl
no_size s (Erase job id) p taken = refl
no_size s w p taken = absurd (cc taken)

pub no_put : (s : State) (w : What) (p job i : ℕ) → position_taken s w ≡ Some p → w ≡ Put job i → ⊥
no_put s w p job i taken puts = let no : None ≡ Some p = sym (ap (position_taken s) puts) ∙ taken in cc no

-- over the records that each image has
module _ (rules : RuleSet) (h : List Entry) (e : Payloads) (entry : Entry) (claim : ClaimView) (added : Record) (q : ℕ) (old : Areas)
    (legal : Legal rules h) (line : is_legal (after rules h) entry ≡ true)
    (takes : TakesItem (after rules h) entry.what claim.item) (size : length claim.payload ≡ item_size claim.item)
    (carrier : Journal q ∷ [] ≡ scrubbed_by (after rules h) entry.what)
    (hold : Hold rules h e (journal_of old) (vault_of old)) (read : claim.payload ≡ payload_of (journal_of old) q)
    (head : added.head ≡ head_of claim) (payload : added.payload ≡ claim.payload) (long : length (digest claim.payload) ≡ 32) where
  abbrev p : ℕ
  p = position_of claim.item

  needed : is_needed (after rules h) p ≡ true
  needed = taken_needed (after rules h) entry.moment entry.what (good_after rules h legal).owned_stand (allowed_of (after rules h) entry line) p takes.position

  -- what was read is the payload that stands at the position of the row
  stood : claim.payload ≡ payload_at e p
  stood =
      read ∙ (ap (payload_in (journal_of old) (vault_of old)) (sym (carried_at (after rules h) entry.what claim.item q takes carrier)) ∙ hold.reads p needed)

  sealed : seal_in added ≡ digest claim.payload
  sealed = seal_behind (spelled (item_fields claim.item)) (digest claim.payload) added.head long (head ∙ head_digest claim)

  module _ (c : Areas) (has : HasItem rules h e added old c) where
    here : payload_in (journal_of c) (vault_for rules h c) (last_carrier (after rules h) p) ≡ claim.payload
    here = has.0.hold.reads p needed ∙ sym stood

    there : (n : ℕ) → position_taken (after rules h) entry.what ≡ Some n → payload_in (journal_of c) (vault_for rules h c) (last_carrier (after rules h) n) ≡ claim.payload
    there n taken =
        subst (λ (k : ℕ). payload_in (journal_of c) (vault_for rules h c) (last_carrier (after rules h) k) ≡ claim.payload) (same_Some p n (sym takes.position ∙ taken)) here

    item_records : AreItemRecords (after rules h) (journal_of c) (vault_for rules h c) entry.what (added ∷ [])
    item_records = record {
      heads =
          ap (λ (l : List ℕ). l ∷ []) (head ∙ head_digest claim) ∙
          (ap (λ (seal : List ℕ). item_head claim.item seal ∷ []) (sym sealed) ∙ ap (λ (l : List Logged). item_heads l (seals_of (added ∷ []))) (sym takes.items));
      sizes =
          ap (λ (n : ℕ). n ∷ []) (ap length payload ∙ (size ∙ same_size claim.item)) ∙ ap (map logged_size) (sym takes.items);
      payload = λ n taken. payload ∙ sym (there n taken);
      seals = λ n taken. ap (λ (seal : List ℕ). seal ∷ []) (sealed ∙ ap digest (sym (there n taken)));
    }

  pub row_writes : (images : Areas → Type 0) → ((c : Areas) → images c → HasItem rules h e added old c) → Writes rules h e entry [] (added ∷ []) [] images
  row_writes images has = record {
    legal = legal;
    line = line;
    few = omega arith;
    ahead = λ c image. (has c image).0;
    one = λ c image spelled. record {
      entry_spelled = spelled;
      head = refl;
      size = no_size (after rules h) entry.what p takes.position;
      brought = λ own. refl;
      put = λ job i logged puts there free. absurd (no_put (after rules h) entry.what p job i takes.position puts);
    };
    more = λ c image. item_records c (has c image);
  }

-- the journal has the records that it had
pub journal_stays : (rules : RuleSet) (h : List Entry) (e : Payloads) (added : Record) (place : Area) (sizes : List (ℕ × ℕ)) (old c : Areas) → place ≡ area.Journal → Stands place sizes old →
    HasItem rules h e added old c → Stands place sizes c
journal_stays rules h e added place sizes old c is stands has =
    let here : Stands area.Journal sizes old = subst (λ (a : Area). Stands a sizes old) is stands in
    let now : Stands area.Journal sizes c = subst (λ (l : List (ℕ × ℕ)). Stands area.Journal l c) (ap (map size_of) has.1 ∙ journal_sizes old sizes here) (journal_stands c has.0.journal) in
    subst (λ (a : Area). Stands a sizes c) (sym is) now

-- zeros stand where they stood
pub scrubbed_stays : (rules : RuleSet) (h : List Entry) (e : Payloads) (added : Record) (old c : Areas) → HasItem rules h e added old c → AreScrubbed (after rules h) (journal_of old) (vault_of old) →
    AreScrubbed (after rules h) (journal_of c) (vault_for rules h c)
scrubbed_stays rules h e added old c has clean =
    subst (λ (v : List Record). AreScrubbed (after rules h) (journal_of c) v) (sym has.2)
    (subst (λ (j : List Record). AreScrubbed (after rules h) j (vault_of old)) (sym has.1) clean)

-- the read of the payload changes nothing

module _ (rules : RuleSet) (h : List Entry) (e : Payloads) {D : Type 0} {moment : D → ℕ} {may_leave : D → Areas → Type 0} {left_since : D → ℕ → Areas → Type 0} {old new : D} where
  pub read_leaves : (entry : Entry) (given : List ℕ) → Legal rules h → RestIn rules h e (may_leave old) → Runs moment may_leave left_since Same old new →
      Leaves moment may_leave left_since (StandsFor rules h e entry given) old new
  read_leaves entry given legal rests run =
      leaves_first run (λ d c image same.
      subst (λ (x : Areas). StandsFor rules h e entry given x) (sym same) (inl (rest_stand rules h e d legal (rests d image).0 (rests d image).1)))

  pub read_rests : RestIn rules h e (may_leave old) → Runs moment may_leave left_since Same old new → RestIn rules h e (may_leave new)
  read_rests rests run = λ c image.
      let was = run.now c image in
      subst (λ (x : Areas). Rests rules h e x) (sym was.2) (rests was.0 was.1)

pub read_there : (place : Area) (sizes : List (ℕ × ℕ)) (q : ℕ) (bytes : List ℕ) (old mid : Areas) → place ≡ area.Journal → Stands place sizes old → IsLog journal_mark old.journal →
    PayloadRead place sizes q old bytes → mid ≡ old → bytes ≡ payload_of (journal_of mid) q
read_there place sizes q bytes old mid is stands log read same =
    let here : PayloadRead area.Journal sizes q old bytes = subst (λ (a : Area). PayloadRead a sizes q old bytes) is read in
    here journal_mark (journal_of old) (journal_sizes old sizes (subst (λ (a : Area). Stands a sizes old) is stands)) (log_told journal_mark old.journal log) ∙
    ap (λ (x : Areas). payload_of (journal_of x) q) (sym same)

pub puts_none : (s : State) (w : What) (it : Item) → TakesItem s w it → PutsBack s w → ⊥
puts_none s w it takes puts = no_put s w (position_of it) puts.0 puts.1 takes.position puts.2.1.0

pub takes_no_size : (s : State) (w : What) (it : Item) → TakesItem s w it → 0 ≡ record_size s w
takes_no_size s w it takes = no_size s w (position_of it) takes.position
