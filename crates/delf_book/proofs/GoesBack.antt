-- A put that puts its item back.
use Rattle.std.proofs.Common.{◌≡◌, ℕ, ◌<◌, true, false, cond, not, ◌||◌, eqb, List, [], ◌∷◌, length, Some, None, refl, sym, ap, ◌∙◌, subst, arith}
use Rattle.std.proofs.lemmas.Bool.{and_from, eq-eqb, or_right, false≢true, not_from_false}
use Rattle.std.proofs.lemmas.Option.{same_Some, slice_get_within}
use Rattle.std.proofs.lemmas.List.{length-map}
use Rattle.std.specs.Prelude.{Option, option_map, slice_get, is_none, map}
use Rattle.std.specs.List.{list_any}
use Rattle.delf_disk.specs.Areas.{Areas}
use Rattle.gate_log.specs.Records.{Record, payload_of}
use Rattle.entry_codec.specs.EntryHead.{IsBounded}
use Rattle.delf_model.specs.declared.call.Cause.{Cause}
use Rattle.delf_model.specs.declared.entry.Entry.{Entry}
use Rattle.delf_model.specs.declared.entry.What.{What}
use Rattle.delf_model.specs.declared.entry.What.TheVariants.{Put}
use Rattle.delf_model.specs.RuleSet.{RuleSet}
use Rattle.delf_model.specs.State.{State, Logged, size_of, position_of}
use Rattle.delf_model.specs.Step.{after}
use Rattle.delf_model.specs.Puts.{judged}
use Rattle.delf_model.specs.Legal.{Legal, is_legal, is_allowed}
use Rattle.delf_model.specs.Report.{was_put}
use Rattle.delf_model.specs.Payloads.{Payloads, Vault, is_needed, is_purged, object_needs, edge_needs, item_needs, keeps_payload}
use Rattle.delf_model.specs.State.{job_of, is_open}
use Rattle.delf_model.proofs.Lines.{allowed_of}
use Rattle.delf_model.proofs.Places.{MayPut, may_put_of}
use Rattle.payload_laws.specs.Holders.{record_size, put_size, scrubbed_by, carrier_of_put, position_taken, brings}
use Rattle.payload_laws.proofs.Members.{at_any}
use Rattle.payload_laws.proofs.Moves.{payloads_held}
use Rattle.payload_laws.proofs.Placed.{placed_after}
use Rattle.payload_laws.proofs.Rows.{none_handled, may_open}
use Rattle.store_laws.specs.Stores.{journal_of, vault_of, vault_for}
use Rattle.store_laws.specs.Moves.{RestIn}
use Rattle.store_laws.proofs.Appends.{ahead_of, no_items}
use Rattle.delf_book.specs.Keeping.{item_sizes}
use Rattle.job_table.specs.Table.{item_of_logged}
use Rattle.ledger.specs.Ledgers.{position_back, position_of_put}
use Rattle.delf_book.specs.Stepping.{Waits, PutsBackItem, IsPutOf, IsSizeOf, IsPayloadOf}
use Rattle.delf_book.specs.Writing.{Writes}
use Rattle.delf_book.proofs.Fetching.{payload_there}

same_item : (what : What) (job i k j : ℕ) → what ≡ Put job i → what ≡ Put k j → i ≡ j
same_item what job i k j one two = cc

-- what the entry writes and leaves
module _ (s : State) (what : What) (i : ℕ) (puts : PutsBackItem s what i) where
  pub dead_of_put : Vault i ∷ [] ≡ scrubbed_by s what
  dead_of_put =
      sym (ap (scrubbed_by s) puts.1.is_put ∙ (ap (carrier_of_put s i) puts.1.there ∙ ap (λ (c : Option Cause). cond (is_none c) (Vault i ∷ []) []) puts.1.back))

  pub size_of_put : (n : ℕ) → IsSizeOf s i n → n ≡ record_size s what
  size_of_put n is =
      is puts.0 puts.1.there ∙
      sym (ap (record_size s) puts.1.is_put ∙ (ap (put_size s) puts.1.there ∙ ap (λ (c : Option Cause). cond (is_none c) (size_of puts.0.item) 0) puts.1.back))

  pub none_taken : position_taken s what ≡ None
  none_taken = ap (position_taken s) puts.1.is_put

  pub bounded_put : IsBounded what
  bounded_put = subst IsBounded (sym puts.1.is_put) tt

-- the payload of an item that may be put stands in the item's record

module _ (rules : RuleSet) (h : List Entry) (legal : Legal rules h) (entry : Entry) (line : is_legal (after rules h) entry ≡ true) (i : ℕ) (puts : PutsBackItem (after rules h) entry.what i) where
  may : MayPut (after rules h) puts.1.job i
  may =
      may_put_of (after rules h) puts.1.job i (slice_get (after rules h).items i) refl
      (subst (λ (w : What). is_allowed (after rules h) entry.moment w ≡ true) puts.1.is_put (allowed_of (after rules h) entry line))

  open_item : (puts.0.handled ≡ None) × (is_open (after rules h).jobs puts.0 ≡ true)
  open_item =
      subst (λ (l : Logged). (l.handled ≡ None) × (is_open (after rules h).jobs l ≡ true)) (same_Some may.logged puts.0 (sym may.at ∙ puts.1.there))
      (none_handled may.logged.handled may.waiting, may_open (after rules h) puts.1.job i may)

  unput : was_put puts.0.handled ≡ false
  unput = ap was_put open_item.0

  needed_item : is_needed (after rules h) (position_of puts.0.item) ≡ true
  needed_item =
      let s : State = after rules h in
      let p : ℕ = position_of puts.0.item in
      let unpurged : is_purged s.jobs (job_of puts.0.item) ≡ false = (placed_after rules h legal).unpurged i puts.0 puts.1.there open_item.1 in
      or_right (list_any (object_needs p) s.graph.objects || list_any (edge_needs p) s.graph.edges) (list_any (item_needs s.jobs p) s.items)
      (at_any (item_needs s.jobs p) s.items i puts.0 puts.1.there
      (and_from (keeps_payload s.jobs puts.0) (eqb p p)
      (and_from (not (is_purged s.jobs (job_of puts.0.item))) (not (was_put puts.0.handled)) (not_from_false (is_purged s.jobs (job_of puts.0.item)) unpurged) (not_from_false (was_put puts.0.handled) unput))
      (eq-eqb p p refl)))

  pub waits_put : Waits (after rules h) i
  waits_put = record {
    logged = puts.0;
    there = puts.1.there;
    needed = needed_item;
    carried = (payloads_held rules h legal).held.items i puts.0 puts.1.there unput;
  }

-- the journal record of the put
pub put_writes : (rules : RuleSet) (h : List Entry) (e : Payloads) (entry : Entry) (payload : List ℕ) (images : Areas → Type 0) (i : ℕ) → Legal rules h → is_legal (after rules h) entry ≡ true →
    PutsBackItem (after rules h) entry.what i → IsSizeOf (after rules h) i (length payload) → IsPayloadOf (after rules h) i e payload → RestIn rules h e images →
    Writes rules h e entry [] [] payload images
put_writes rules h e entry payload images i legal line puts size is rests = record {
  legal = legal;
  line = line;
  few = omega arith;
  ahead = λ c image. (ahead_of rules h e c (rests c image).0 (rests c image).1).0;
  one = λ c image spelled. record {
    entry_spelled = spelled;
    head = refl;
    size = size_of_put (after rules h) entry.what i puts (length payload) size;
    brought = λ own. absurd (false≢true (sym (ap brings puts.1.is_put) ∙ own));
    put = λ job j logged put there free.
        let waits = waits_put rules h legal entry line i puts in
        let here : payload ≡ payload_of (vault_of c) i = is waits.logged waits.there ∙ sym (payload_there rules h e c (rests c image) i waits) in
        here ∙ (ap (payload_of (vault_of c)) (same_item entry.what puts.1.job i job j puts.1.is_put put) ∙
        ap (λ (v : List Record). payload_of v j) (sym (ahead_of rules h e c (rests c image).0 (rests c image).1).1));
  };
  more = λ c image. no_items (after rules h) (journal_of c) (vault_for rules h c) entry.what (none_taken (after rules h) entry.what i puts);
}

-- the item is one of those that the restoration log has
pub inside_vault : (items : List Logged) (sizes : List (ℕ × ℕ)) (i : ℕ) (logged : Logged) → sizes ≡ map item_sizes items → slice_get items i ≡ Some logged → i < length sizes
inside_vault items sizes i logged are there =
    let within : i < length items = slice_get_within items i logged there in
    omega (arith, within, ap length are, length-map items item_sizes)

-- what the position of a put says of its item

at_item : (s : State) (o : Option Logged) (p : ℕ) → position_of_put s (option_map item_of_logged o) ≡ Some p → (logged : Logged) × (o ≡ Some logged) × (judged s logged.item ≡ None)
at_item s None p is = absurd (cc is)
at_item s (Some logged) p is = by_cause (judged s logged.item) refl is
  where
    by_cause : (c : Option Cause) → judged s logged.item ≡ c → cond (is_none c) (Some (position_of logged.item)) None ≡ Some p → (l : Logged) × (Some logged ≡ Some l) × (judged s l.item ≡ None)
    by_cause None back is = (logged, refl, back)
    by_cause (Some cause) listed is = absurd (cc is)

pub goes_back : (s : State) (what : What) (i p : ℕ) → IsPutOf what i → Some p ≡ position_back s what → PutsBackItem s what i
goes_back s what i p put is =
    let found = at_item s (slice_get s.items i) p (sym (ap (position_back s) put.1) ∙ sym is) in
    (found.0, record { job = put.0; is_put = put.1; there = found.1; back = found.2 })

-- a put that lists its item
module _ (s : State) (what : What) (i : ℕ) (put : IsPutOf what i) (none : None ≡ position_back s what) where
  stays : (o : Option Logged) → slice_get s.items i ≡ o → None ≡ position_of_put s (option_map item_of_logged o)
  stays o at = none ∙ (ap (position_back s) put.1 ∙ ap (λ (x : Option Logged). position_of_put s (option_map item_of_logged x)) at)

  listed_by : (o : Option Logged) → slice_get s.items i ≡ o → (put_size s o ≡ 0) × (carrier_of_put s i o ≡ [])
  listed_by None at = (refl, refl)
  listed_by (Some logged) at = by_judged (judged s logged.item) refl
    where
      by_judged : (cause : Option Cause) → judged s logged.item ≡ cause → (put_size s (Some logged) ≡ 0) × (carrier_of_put s i (Some logged) ≡ [])
      by_judged None back = absurd (let not = stays (Some logged) at ∙ ap (λ (c : Option Cause). cond (is_none c) (Some (position_of logged.item)) None) back in cc not)
      by_judged (Some cause) listed =
          (ap (λ (c : Option Cause). cond (is_none c) (size_of logged.item) 0) listed, ap (λ (c : Option Cause). cond (is_none c) (Vault i ∷ []) []) listed)

  pub no_size : 0 ≡ record_size s what
  no_size = sym (ap (record_size s) put.1 ∙ (listed_by (slice_get s.items i) refl).0)

  pub no_dead : [] ≡ scrubbed_by s what
  no_dead = sym (ap (scrubbed_by s) put.1 ∙ (listed_by (slice_get s.items i) refl).1)

  pub goes_not : (job j : ℕ) (logged : Logged) → what ≡ Put job j → slice_get s.items j ≡ Some logged → judged s logged.item ≡ None → ⊥
  goes_not job j logged puts there back =
      let item : i ≡ j = same_item what put.0 i job j put.1 puts in
      let not : None ≡ Some (position_of logged.item) = stays (Some logged) (ap (slice_get s.items) item ∙ there) ∙ ap (λ (c : Option Cause). cond (is_none c) (Some (position_of logged.item)) None) back in
      cc not
