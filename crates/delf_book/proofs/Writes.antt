-- What the journal record of an entry makes of each image.
use Rattle.std.proofs.Common.{◌≡◌, ℕ, true, arith, List, [], ◌∷◌, ◌++◌, refl, sym, ap, ◌∙◌, subst, ⊎_elim, inr}
use Rattle.std.specs.Prelude.{Result, Ok, Err, OnOk, Contains}
use Rattle.delf_disk.specs.declared.area.Area.{Area}
use Rattle.delf_disk.specs.Moments.{Runs, Leaves}
use Rattle.delf_disk.proofs.Moments.{leaves_first}
use Rattle.delf_disk.specs.Areas.{Areas}
use Rattle.delf_disk.specs.declared.area.Area.TheVariants as area
use Rattle.gate_log.specs.Records.{Record}
use Rattle.gate_log.specs.Logs.{StandIn}
use Rattle.gate_log.specs.Steps.{MayAdd, Adds, MayScrub, Scrubs}
use Rattle.entry_codec.specs.EntryHead.{entry_head, IsEntry}
use Rattle.delf_model.specs.declared.entry.Entry.{Entry}
use Rattle.delf_model.specs.RuleSet.{RuleSet}
use Rattle.delf_model.specs.State.{State}
use Rattle.delf_model.specs.Step.{after}
use Rattle.delf_model.specs.Legal.{Legal, is_legal}
use Rattle.delf_model.specs.Payloads.{Payloads, Carrier, Journal, Vault}
use Rattle.payload_laws.specs.Holders.{IsLive, scrubbed_by}
use Rattle.store_laws.specs.Stores.{journal_of, vault_of, vault_for, journal_mark, StandBut, AreScrubbed}
use Rattle.store_laws.specs.Logged.{held}
use Rattle.store_laws.specs.Steps.{AreScrubbedBut}
use Rattle.store_laws.proofs.Remain.{remain_after, remain_less, remain_none}
use Rattle.store_laws.specs.Moves.{StandsFor, RestIn}
use Rattle.store_laws.proofs.Spelled.{log_told, told_log}
use Rattle.delf_model.proofs.Runs.{after_push, Legal_push}
use Rattle.payload_laws.proofs.Moves.{payloads_held}
use Rattle.store_laws.proofs.Appends.{journal_sizes, vault_sizes, rest_stand, stands_for, with_entry, vault_may as item_may, vault_adds as item_adds}
use Rattle.store_laws.proofs.Scrubs.{journal_may, journal_scrubs, vault_may, vault_scrubs}
use Rattle.delf_book.specs.Writing.{Writes, record_of, longer, next_payloads, Rests, IsScrubbed, HasItem}

module _ (rules : RuleSet) (h : List Entry) (e : Payloads) (entry : Entry) (given : List ℕ) (added : List Record) (payload : List ℕ) (images : Areas → Type 0)
    (writes : Writes rules h e entry given added payload images) (spelled : IsEntry entry) (sizes : List (ℕ × ℕ)) (stand : StandIn area.Journal sizes images) where
  pub may_write : (c d : Areas) → images c → MayAdd area.Journal sizes (entry_head entry) payload c d → StandsFor rules h e entry given d
  may_write c d image may =
      let ahead = writes.ahead c image in
      stands_for rules h e entry given (record_of entry payload) added c d writes.legal writes.line ahead (writes.one c image spelled) (writes.more c image) may.other writes.few
      (may.here journal_mark (journal_of c) (journal_sizes c sizes (stand c image)) (log_told journal_mark c.journal ahead.journal))

  pub written : (c d : Areas) → images c → Adds area.Journal sizes (entry_head entry) payload c d → Rests rules (longer h entry) (next_payloads rules h e entry given) d
  written c d image adds =
      let ahead = writes.ahead c image in
      with_entry rules h e entry given (record_of entry payload) added c d writes.legal writes.line ahead (writes.one c image spelled) (writes.more c image) adds.other
      (adds.here journal_mark (journal_of c) (journal_sizes c sizes (stand c image)) (log_told journal_mark c.journal ahead.journal))

  -- zeros stand in all that is not needed, but for what the entry leaves to be scrubbed
  pub remains : (c d : Areas) → images c → AreScrubbed (after rules h) (journal_of c) (vault_for rules h c) → Adds area.Journal sizes (entry_head entry) payload c d →
      AreScrubbedBut (after rules (longer h entry)) (scrubbed_by (after rules h) entry.what) (journal_of d) (vault_of d)
  remains c d image clean adds =
      let ahead = writes.ahead c image in
      let told = told_log journal_mark (journal_of c ++ record_of entry payload ∷ []) d.journal
      (adds.here journal_mark (journal_of c) (journal_sizes c sizes (stand c image)) (log_told journal_mark c.journal ahead.journal)) in
      let vaults : vault_of d ≡ vault_for rules h c ++ added = ap held adds.other ∙ ahead.more in
      let but = remain_after rules h e entry given (journal_of c) (vault_for rules h c) (record_of entry payload) added writes.legal writes.line ahead.hold clean (writes.one c image spelled) (writes.more c image) in
      subst (λ (v : List Record). AreScrubbedBut (after rules (longer h entry)) (scrubbed_by (after rules h) entry.what) (journal_of d) v) (sym vaults)
      (subst (λ (j : List Record). AreScrubbedBut (after rules (longer h entry)) (scrubbed_by (after rules h) entry.what) j (vault_for rules h c ++ added)) (sym told.1) but)

pub on_ok : {T E A B C : Type 0} (r : Result T E) → (A → B → C) → OnOk r A → OnOk r B → OnOk r C
on_ok (Ok x) f a b = f a b
on_ok (Err x) f a b = tt

module _ (rules : RuleSet) (h : List Entry) (e : Payloads) (entry : Entry) (given : List ℕ) (added : List Record) (payload head : List ℕ) (place : Area) (sizes : List (ℕ × ℕ))
    (is_journal : place ≡ area.Journal) (is_head : head ≡ entry_head entry) (spelled : IsEntry entry) where
  pub may_add : (c d : Areas) → MayAdd place sizes head payload c d → MayAdd area.Journal sizes (entry_head entry) payload c d
  may_add c d may = subst (λ (a : Area). MayAdd a sizes (entry_head entry) payload c d) is_journal (subst (λ (l : List ℕ). MayAdd place sizes l payload c d) is_head may)

  pub adds_there : (c d : Areas) → Adds place sizes head payload c d → Adds area.Journal sizes (entry_head entry) payload c d
  adds_there c d adds = subst (λ (a : Area). Adds a sizes (entry_head entry) payload c d) is_journal (subst (λ (l : List ℕ). Adds place sizes l payload c d) is_head adds)

  module _ {D : Type 0} {moment : D → ℕ} {may_leave : D → Areas → Type 0} {left_since : D → ℕ → Areas → Type 0} {old new : D} where
    pub write_leaves : Writes rules h e entry given added payload (may_leave old) → StandIn place sizes (may_leave old) →
        Runs moment may_leave left_since (MayAdd place sizes head payload) old new → Leaves moment may_leave left_since (StandsFor rules h e entry given) old new
    write_leaves writes stand run =
        leaves_first run (λ c d image may. may_write rules h e entry given added payload (may_leave old) writes spelled sizes
        (subst (λ (a : Area). StandIn a sizes (may_leave old)) is_journal stand) c d image (may_add c d may))

  pub write_rests : (before now : Areas → Type 0) → Writes rules h e entry given added payload before → StandIn place sizes before → (seen next : Areas) → before seen →
      Adds place sizes head payload seen next → ((c : Areas) → now c → c ≡ next) → RestIn rules (longer h entry) (next_payloads rules h e entry given) now
  write_rests before now writes stand seen next image adds only = λ c left.
      subst (λ (x : Areas). Rests rules (longer h entry) (next_payloads rules h e entry given) x) (sym (only c left))
      (written rules h e entry given added payload before writes spelled sizes (subst (λ (a : Area). StandIn a sizes before) is_journal stand) seen next image (adds_there seen next adds))

  pub write_remains : (before : Areas → Type 0) → Writes rules h e entry given added payload before → StandIn place sizes before → (seen next : Areas) → before seen →
      AreScrubbed (after rules h) (journal_of seen) (vault_for rules h seen) → Adds place sizes head payload seen next →
      AreScrubbedBut (after rules (longer h entry)) (scrubbed_by (after rules h) entry.what) (journal_of next) (vault_of next)
  write_remains before writes stand seen next image clean adds =
      remains rules h e entry given added payload before writes spelled sizes (subst (λ (a : Area). StandIn a sizes before) is_journal stand) seen next image clean (adds_there seen next adds)

-- a scrub of a payload that nothing needs

stands_at : (a b : Area) (sizes : List (ℕ × ℕ)) (images : Areas → Type 0) → a ≡ b → StandIn a sizes images → StandIn b sizes images
stands_at a b sizes images is stand = subst (λ (x : Area). StandIn x sizes images) is stand

module _ (rules : RuleSet) (h : List Entry) (e : Payloads) (i : ℕ) (place : Area) (sizes : List (ℕ × ℕ)) where
  module _ (is : place ≡ area.Journal) (dead : IsLive (after rules h) (Journal i) → ⊥) where
    pub entry_scrub_leaves : {D : Type 0} {moment : D → ℕ} {may_leave : D → Areas → Type 0} {left_since : D → ℕ → Areas → Type 0} {old new : D} →
        RestIn rules h e (may_leave old) → StandIn place sizes (may_leave old) → Runs moment may_leave left_since (MayScrub place sizes i) old new →
        Leaves moment may_leave left_since (Rests rules h e) old new
    entry_scrub_leaves {may_leave} {old} rests stand run =
        leaves_first run (λ c d image may.
        let here = rests c image in
        let now = journal_may rules h e i sizes c d here.0 here.1 dead (journal_sizes c sizes (stands_at place area.Journal sizes (may_leave old) is stand c image))
        (subst (λ (a : Area). MayScrub a sizes i c d) is may) in
        (now.0, now.1))

    pub entry_scrubbed : (before : Areas → Type 0) (seen next : Areas) → before seen → RestIn rules h e before → StandIn place sizes before → Scrubs place sizes i seen next →
        IsScrubbed (Journal i) seen next
    entry_scrubbed before seen next image rests stand scrubs =
        let here = rests seen image in
        let now = journal_scrubs rules h e i sizes seen next here.0 here.1 dead (journal_sizes seen sizes (stands_at place area.Journal sizes before is stand seen image))
        (subst (λ (a : Area). Scrubs a sizes i seen next) is scrubs) in
        (now.2, now.3)

  module _ (is : place ≡ area.Vault) (dead : IsLive (after rules h) (Vault i) → ⊥) where
    pub item_scrub_leaves : {D : Type 0} {moment : D → ℕ} {may_leave : D → Areas → Type 0} {left_since : D → ℕ → Areas → Type 0} {old new : D} →
        RestIn rules h e (may_leave old) → StandIn place sizes (may_leave old) → Runs moment may_leave left_since (MayScrub place sizes i) old new →
        Leaves moment may_leave left_since (Rests rules h e) old new
    item_scrub_leaves {may_leave} {old} rests stand run =
        leaves_first run (λ c d image may.
        let here = rests c image in
        let now = vault_may rules h e i sizes c d here.0 here.1 dead (vault_sizes c sizes (stands_at place area.Vault sizes (may_leave old) is stand c image))
        (subst (λ (a : Area). MayScrub a sizes i c d) is may) in
        (now.0, now.1))

    pub item_scrubbed : (before : Areas → Type 0) (seen next : Areas) → before seen → RestIn rules h e before → StandIn place sizes before → Scrubs place sizes i seen next →
        IsScrubbed (Vault i) seen next
    item_scrubbed before seen next image rests stand scrubs =
        let here = rests seen image in
        let now = vault_scrubs rules h e i sizes seen next here.0 here.1 dead (vault_sizes seen sizes (stands_at place area.Vault sizes before is stand seen image))
        (subst (λ (a : Area). Scrubs a sizes i seen next) is scrubs) in
        (now.2, now.3)

-- the vault record of an item
module _ (rules : RuleSet) (h : List Entry) (e : Payloads) (added : Record) (place : Area) (sizes : List (ℕ × ℕ)) (is : place ≡ area.Vault) (legal : Legal rules h) where
  pub item_leaves : {D : Type 0} {moment : D → ℕ} {may_leave : D → Areas → Type 0} {left_since : D → ℕ → Areas → Type 0} {old new : D} →
      RestIn rules h e (may_leave old) → StandIn place sizes (may_leave old) → Runs moment may_leave left_since (MayAdd place sizes added.head added.payload) old new →
      Leaves moment may_leave left_since (StandBut rules h e) old new
  item_leaves {may_leave} {old} rests stand run =
      leaves_first run (λ c d image may.
      let here = rests c image in
      item_may rules h e added sizes c d legal here.0 here.1 (vault_sizes c sizes (stands_at place area.Vault sizes (may_leave old) is stand c image))
      (subst (λ (a : Area). MayAdd a sizes added.head added.payload c d) is may))

  pub item_there : (before now : Areas → Type 0) (seen next : Areas) → before seen → RestIn rules h e before → StandIn place sizes before →
      Adds place sizes added.head added.payload seen next → ((c : Areas) → now c → c ≡ next) → (c : Areas) → now c → HasItem rules h e added seen c
  item_there before now seen next image rests stand adds only = λ c left.
      let here = rests seen image in
      subst (λ (x : Areas). HasItem rules h e added seen x) (sym (only c left))
      (item_adds rules h e added sizes seen next legal here.0 here.1 (vault_sizes seen sizes (stands_at place area.Vault sizes before is stand seen image))
      (subst (λ (a : Area). Adds a sizes added.head added.payload seen next) is adds))

-- the entry's record, and then a scrub of what it leaves unneeded

pub leaves_joined : {D : Type 0} {moment : D → ℕ} {may_leave : D → Areas → Type 0} {left_since : D → ℕ → Areas → Type 0} {P : Areas → Type 0} {old mid new : D} →
    Leaves moment may_leave left_since P old mid → Leaves moment may_leave left_since P mid new → Leaves moment may_leave left_since P old new
leaves_joined {moment} {old} one two = record {
  later = omega (arith, one.later, two.later);
  now = two.now;
  each = λ c left. ⊎_elim (one.each c) (λ here. here) (two.before (moment old) c one.later left);
  before = λ t c le left. ⊎_elim (one.before t c le) inr (two.before t c (omega (arith, le, one.later)) left);
}

-- what the longer history holds stands for it
pub rests_stand : (rules : RuleSet) (h : List Entry) (e : Payloads) (entry : Entry) (given : List ℕ) → Legal rules h → is_legal (after rules h) entry ≡ true → (c : Areas) →
    Rests rules (longer h entry) (next_payloads rules h e entry given) c → StandsFor rules h e entry given c
rests_stand rules h e entry given legal line c rests = inr (rest_stand rules (longer h entry) (next_payloads rules h e entry given) c (Legal_push rules h entry legal line) rests.0 rests.1)

-- what an entry leaves to be scrubbed is not needed after it
pub dead_after : (rules : RuleSet) (h : List Entry) (entry : Entry) → Legal rules h → is_legal (after rules h) entry ≡ true → (carrier : Carrier) →
    Contains (scrubbed_by (after rules h) entry.what) carrier → IsLive (after rules (longer h entry)) carrier → ⊥
dead_after rules h entry legal line carrier among live =
    ((payloads_held rules h legal).moves entry line).dead carrier among (subst (λ (s : State). IsLive s carrier) (after_push rules h entry) live)

pub dead_one : (rules : RuleSet) (h : List Entry) (entry : Entry) → Legal rules h → is_legal (after rules h) entry ≡ true → (carrier : Carrier) →
    carrier ∷ [] ≡ scrubbed_by (after rules h) entry.what → IsLive (after rules (longer h entry)) carrier → ⊥
dead_one rules h entry legal line carrier is =
    dead_after rules h entry legal line carrier (subst (λ (l : List Carrier). Contains l carrier) is (0, omega arith, refl))

-- nothing is left
pub clean_none : (s : State) (left : List Carrier) (c : Areas) → [] ≡ left → AreScrubbedBut s left (journal_of c) (vault_of c) → AreScrubbed s (journal_of c) (vault_of c)
clean_none s left c is but = remain_none s (journal_of c) (vault_of c) (subst (λ (l : List Carrier). AreScrubbedBut s l (journal_of c) (vault_of c)) (sym is) but)

pub clean_one : (s : State) (carrier : Carrier) (left : List Carrier) (c d : Areas) → carrier ∷ [] ≡ left → AreScrubbedBut s left (journal_of c) (vault_of c) → IsScrubbed carrier c d →
    AreScrubbed s (journal_of d) (vault_of d)
clean_one s carrier left c d is but scrubbed =
    remain_none s (journal_of d) (vault_of d)
    (remain_less s carrier [] c d (subst (λ (l : List Carrier). AreScrubbedBut s l (journal_of c) (vault_of c)) (sym is) but) scrubbed.0 scrubbed.1)
