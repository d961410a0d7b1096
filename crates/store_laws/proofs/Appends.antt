-- What an append to either log makes of the areas.
use Rattle.std.proofs.Common.{◌≡◌, ℕ, ◌+◌, ◌≤◌, true, List, [], ◌∷◌, ◌++◌, length, take, Some, None, refl, sym, ap, ◌∙◌, subst, arith, inl, inr, ◌⊎◌, length-append, append-nil}
use Rattle.std.proofs.lemmas.List.{take_all, take_at}
use Rattle.std.specs.Prelude.{map}
use Rattle.delf_disk.specs.Areas.{Areas}
use Rattle.delf_disk.specs.declared.area.Area.TheVariants as area
use Rattle.gate_log.specs.Records.{Record, size_of}
use Rattle.gate_log.specs.Logs.{Log, Stands}
use Rattle.gate_log.specs.Steps.{MayAdd, Adds}
use Rattle.delf_model.specs.declared.entry.Entry.{Entry}
use Rattle.delf_model.specs.declared.entry.What.{What}
use Rattle.delf_model.specs.RuleSet.{RuleSet}
use Rattle.delf_model.specs.State.{State, Logged}
use Rattle.delf_model.specs.Step.{after}
use Rattle.delf_model.specs.Legal.{Legal, is_legal}
use Rattle.delf_model.specs.Payloads.{Payloads, payloads_after}
use Rattle.delf_model.proofs.Runs.{Legal_push}
use Rattle.payload_laws.specs.Holders.{position_taken}
use Rattle.store_laws.specs.Logged.{held, IsLog}
use Rattle.store_laws.specs.Stores.{digest, Hold, StandBut, Rest, journal_mark, vault_mark, journal_of, vault_of, vault_for, item_heads, logged_size}
use Rattle.store_laws.specs.Moves.{IsEntryRecord, AreItemRecords, StandsFor}
use Rattle.store_laws.specs.Steps.{Ahead}
use Rattle.store_laws.proofs.Spelled.{told_log, log_told}
use Rattle.store_laws.proofs.Items.{new_none}
use Rattle.store_laws.proofs.Carry.{vault_length, carry_on}

-- a log by its bytes, and one that stands for records

pub journal_stands : (c : Areas) → IsLog journal_mark c.journal → Stands area.Journal (map size_of (journal_of c)) c
journal_stands c log = record { mark = journal_mark; records = journal_of c; sized = refl; log = log_told journal_mark c.journal log }

pub vault_stands : (c : Areas) → IsLog vault_mark c.vault → Stands area.Vault (map size_of (vault_of c)) c
vault_stands c log = record { mark = vault_mark; records = vault_of c; sized = refl; log = log_told vault_mark c.vault log }

pub journal_sizes : (c : Areas) (sizes : List (ℕ × ℕ)) → Stands area.Journal sizes c → map size_of (journal_of c) ≡ sizes
journal_sizes c sizes stands = ap (map size_of) (told_log stands.mark stands.records c.journal stands.log).1 ∙ stands.sized

pub vault_sizes : (c : Areas) (sizes : List (ℕ × ℕ)) → Stands area.Vault sizes c → map size_of (vault_of c) ≡ sizes
vault_sizes c sizes stands = ap (map size_of) (told_log stands.mark stands.records c.vault stands.log).1 ∙ stands.sized

-- what stands

pub rest_stand : (rules : RuleSet) (h : List Entry) (e : Payloads) (c : Areas) → Legal rules h → Rest rules h c → Hold rules h e (journal_of c) (vault_of c) → StandBut rules h e c
rest_stand rules h e c legal rest hold =
    let long : length (vault_of c) ≡ length (after rules h).items = vault_length rules h (journal_of c) (vault_of c) hold.spell in
    record {
      legal = legal;
      journal = λ written. rest.journal;
      vault = λ written. rest.vault;
      one = omega (arith, long);
      hold = subst (λ (v : List Record). Hold rules h e (journal_of c) v) (sym (take_all (length (after rules h).items) (vault_of c) (omega (arith, long)))) hold;
    }

pub ahead_stand : (rules : RuleSet) (h : List Entry) (e : Payloads) (added : List Record) (c : Areas) → length added ≤ 1 → Legal rules h → Ahead rules h e added c → StandBut rules h e c
ahead_stand rules h e added c few legal ahead = record {
  legal = legal;
  journal = λ written. ahead.journal;
  vault = λ written. ahead.vault;
  one =
      (let long : length (vault_for rules h c) ≡ length (after rules h).items = vault_length rules h (journal_of c) (vault_for rules h c) ahead.hold.spell in
      let both : length (vault_of c) ≡ length (vault_for rules h c) + length added = ap length ahead.more ∙ length-append (vault_for rules h c) added in
      omega (arith, few, long, both));
  hold = ahead.hold;
}

pub ahead_of : (rules : RuleSet) (h : List Entry) (e : Payloads) (c : Areas) → Rest rules h c → Hold rules h e (journal_of c) (vault_of c) → Ahead rules h e [] c × (vault_for rules h c ≡ vault_of c)
ahead_of rules h e c rest hold = (
  record {
    journal = rest.journal;
    vault = rest.vault;
    more = sym (append-nil (vault_for rules h c) ∙ all);
    hold = subst (λ (v : List Record). Hold rules h e (journal_of c) v) (sym all) hold;
  },
  all,
)
  where
    long : length (vault_of c) ≡ length (after rules h).items
    long = vault_length rules h (journal_of c) (vault_of c) hold.spell

    all : vault_for rules h c ≡ vault_of c
    all = take_all (length (after rules h).items) (vault_of c) (omega (arith, long))

-- the journal after a step that may add a record to it, over areas whose vault may be ahead
module _ (rules : RuleSet) (h : List Entry) (e : Payloads) (entry : Entry) (given : List ℕ) (r : Record) (added : List Record) (c d : Areas)
    (legal : Legal rules h) (line : is_legal (after rules h) entry ≡ true) (ahead : Ahead rules h e added c)
    (one : IsEntryRecord (after rules h) (vault_for rules h c) entry given r)
    (more : AreItemRecords (after rules h) (journal_of c) (vault_for rules h c) entry.what added)
    (vault_same : d.vault ≡ c.vault) where
  abbrev longer : List Entry
  longer = h ++ entry ∷ []

  abbrev next : Payloads
  next = payloads_after digest (after rules h) entry given e

  pub with_entry : Log journal_mark (journal_of c ++ r ∷ []) d.journal → Rest rules longer d × Hold rules longer next (journal_of d) (vault_of d)
  with_entry log = (
    record {
      journal = told.0;
      vault = subst (λ (v : List ℕ). IsLog vault_mark v) (sym vault_same) ahead.vault;
      spell = hold.spell;
    },
    hold,
  )
    where
      told : IsLog journal_mark d.journal × (journal_of d ≡ journal_of c ++ r ∷ [])
      told = told_log journal_mark (journal_of c ++ r ∷ []) d.journal log

      hold : Hold rules longer next (journal_of d) (vault_of d)
      hold =
          subst (λ (v : List Record). Hold rules longer next (journal_of d) v) (sym (ap held vault_same ∙ ahead.more))
          (subst (λ (j : List Record). Hold rules longer next j (vault_for rules h c ++ added)) (sym told.1)
          (carry_on rules h e entry given (journal_of c) (vault_for rules h c) r added legal line ahead.hold one more))

  without_entry : Log journal_mark (journal_of c) d.journal → Ahead rules h e added d
  without_entry log =
      let told = told_log journal_mark (journal_of c) d.journal log in
      let vaults : vault_of d ≡ vault_of c = ap held vault_same in
      let firsts : vault_for rules h d ≡ vault_for rules h c = ap (take (length (after rules h).items)) vaults in
      record {
        journal = told.0;
        vault = subst (λ (v : List ℕ). IsLog vault_mark v) (sym vault_same) ahead.vault;
        more = vaults ∙ (ahead.more ∙ ap (λ (l : List Record). l ++ added) (sym firsts));
        hold = subst (λ (v : List Record). Hold rules h e (journal_of d) v) (sym firsts) (subst (λ (j : List Record). Hold rules h e j (vault_for rules h c)) (sym told.1) ahead.hold);
      }

  pub stands_for : length added ≤ 1 → Log journal_mark (journal_of c) d.journal ⊎ Log journal_mark (journal_of c ++ r ∷ []) d.journal → StandsFor rules h e entry given d
  stands_for few (inl old) = inl (ahead_stand rules h e added d few legal (without_entry old))
  stands_for few (inr new) = let now = with_entry new in inr (rest_stand rules longer next d (Legal_push rules h entry legal line) now.0 now.1)

-- an entry that logs no item
pub no_items : (s : State) (journal vault : List Record) (w : What) → position_taken s w ≡ None → AreItemRecords s journal vault w []
no_items s journal vault w none = record {
  heads = ap (λ (l : List Logged). item_heads l []) (sym (new_none s w none));
  sizes = ap (map logged_size) (sym (new_none s w none));
  payload = λ p taken. absurd (let is : None ≡ Some p = sym none ∙ taken in cc is);
  seals = λ p taken. absurd (let is : None ≡ Some p = sym none ∙ taken in cc is);
}

module _ (rules : RuleSet) (h : List Entry) (e : Payloads) (entry : Entry) (given : List ℕ) (r : Record) (sizes : List (ℕ × ℕ)) (c d : Areas)
    (legal : Legal rules h) (line : is_legal (after rules h) entry ≡ true) (none : position_taken (after rules h) entry.what ≡ None)
    (rest : Rest rules h c) (hold : Hold rules h e (journal_of c) (vault_of c)) (one : IsEntryRecord (after rules h) (vault_of c) entry given r)
    (sized : map size_of (journal_of c) ≡ sizes) where
  all : vault_for rules h c ≡ vault_of c
  all = (ahead_of rules h e c rest hold).1

  one_here : IsEntryRecord (after rules h) (vault_for rules h c) entry given r
  one_here = subst (λ (v : List Record). IsEntryRecord (after rules h) v entry given r) (sym all) one

  pub journal_may : MayAdd area.Journal sizes r.head r.payload c d → StandsFor rules h e entry given d
  journal_may may =
      stands_for rules h e entry given r [] c d legal line (ahead_of rules h e c rest hold).0 one_here (no_items (after rules h) (journal_of c) (vault_for rules h c) entry.what none) may.other
      (omega arith) (may.here journal_mark (journal_of c) sized (log_told journal_mark c.journal rest.journal))

  pub journal_adds : Adds area.Journal sizes r.head r.payload c d →
      Rest rules (h ++ entry ∷ []) d × Hold rules (h ++ entry ∷ []) (payloads_after digest (after rules h) entry given e) (journal_of d) (vault_of d)
  journal_adds adds =
      with_entry rules h e entry given r [] c d legal line (ahead_of rules h e c rest hold).0 one_here (no_items (after rules h) (journal_of c) (vault_for rules h c) entry.what none) adds.other
      (adds.here journal_mark (journal_of c) sized (log_told journal_mark c.journal rest.journal))

-- an entry whose item has its record
module _ (rules : RuleSet) (h : List Entry) (e : Payloads) (entry : Entry) (given : List ℕ) (r added : Record) (sizes : List (ℕ × ℕ)) (c d : Areas)
    (legal : Legal rules h) (line : is_legal (after rules h) entry ≡ true) (ahead : Ahead rules h e (added ∷ []) c)
    (one : IsEntryRecord (after rules h) (vault_for rules h c) entry given r)
    (more : AreItemRecords (after rules h) (journal_of c) (vault_for rules h c) entry.what (added ∷ []))
    (sized : map size_of (journal_of c) ≡ sizes) where
  pub follow_may : MayAdd area.Journal sizes r.head r.payload c d → StandsFor rules h e entry given d
  follow_may may =
      stands_for rules h e entry given r (added ∷ []) c d legal line ahead one more may.other
      (omega arith) (may.here journal_mark (journal_of c) sized (log_told journal_mark c.journal ahead.journal))

  pub follow_adds : Adds area.Journal sizes r.head r.payload c d →
      Rest rules (h ++ entry ∷ []) d × Hold rules (h ++ entry ∷ []) (payloads_after digest (after rules h) entry given e) (journal_of d) (vault_of d)
  follow_adds adds =
      with_entry rules h e entry given r (added ∷ []) c d legal line ahead one more adds.other
      (adds.here journal_mark (journal_of c) sized (log_told journal_mark c.journal ahead.journal))

-- the vault after a step that may add a record to it
module _ (rules : RuleSet) (h : List Entry) (e : Payloads) (added : Record) (sizes : List (ℕ × ℕ)) (c d : Areas)
    (legal : Legal rules h) (rest : Rest rules h c) (hold : Hold rules h e (journal_of c) (vault_of c)) (sized : map size_of (vault_of c) ≡ sizes) where
  with_record : d.journal ≡ c.journal → Log vault_mark (vault_of c ++ added ∷ []) d.vault →
      Ahead rules h e (added ∷ []) d × (journal_of d ≡ journal_of c) × (vault_for rules h d ≡ vault_of c)
  with_record same log = (
    record {
      journal = subst (λ (j : List ℕ). IsLog journal_mark j) (sym same) rest.journal;
      vault = told.0;
      more = told.1 ∙ ap (λ (l : List Record). l ++ added ∷ []) (sym firsts);
      hold = subst (λ (v : List Record). Hold rules h e (journal_of d) v) (sym firsts) (subst (λ (j : List Record). Hold rules h e j (vault_of c)) (sym (ap held same)) hold);
    },
    ap held same,
    firsts,
  )
    where
      told : IsLog vault_mark d.vault × (vault_of d ≡ vault_of c ++ added ∷ [])
      told = told_log vault_mark (vault_of c ++ added ∷ []) d.vault log

      firsts : vault_for rules h d ≡ vault_of c
      firsts =
          ap (take (length (after rules h).items)) told.1 ∙
          take_at (vault_of c) (added ∷ []) (length (after rules h).items) (vault_length rules h (journal_of c) (vault_of c) hold.spell)

  without_record : d.journal ≡ c.journal → Log vault_mark (vault_of c) d.vault → StandBut rules h e d
  without_record same log =
      let told = told_log vault_mark (vault_of c) d.vault log in
      let now : Hold rules h e (journal_of d) (vault_of d) =
      subst (λ (v : List Record). Hold rules h e (journal_of d) v) (sym told.1) (subst (λ (j : List Record). Hold rules h e j (vault_of c)) (sym (ap held same)) hold) in
      rest_stand rules h e d legal (record { journal = subst (λ (j : List ℕ). IsLog journal_mark j) (sym same) rest.journal; vault = told.0; spell = now.spell }) now

  pub vault_may : MayAdd area.Vault sizes added.head added.payload c d → StandBut rules h e d
  vault_may may =
      elim (may.here vault_mark (vault_of c) sized (log_told vault_mark c.vault rest.vault)) [
        | inl old ↦ without_record may.other old
        | inr new ↦ ahead_stand rules h e (added ∷ []) d (omega arith) legal (with_record may.other new).0
      ]

  pub vault_adds : Adds area.Vault sizes added.head added.payload c d → Ahead rules h e (added ∷ []) d × (journal_of d ≡ journal_of c) × (vault_for rules h d ≡ vault_of c)
  vault_adds adds = with_record adds.other (adds.here vault_mark (vault_of c) sized (log_told vault_mark c.vault rest.vault))
