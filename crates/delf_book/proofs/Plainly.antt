-- An entry that logs no item and puts nothing back.
use Rattle.std.proofs.Common.{◌≡◌, ℕ, ◌≤◌, ◌<◌, Bool, true, inl, List, [], length, None, refl, sym, ap, ◌∙◌, subst, arith}
use Rattle.std.specs.Prelude.{Option, IfSome, Result, Ok, Err}
use Rattle.delf_book.specs.declared.faults.EntryFault.{EntryFault}
use Rattle.delf_book.specs.declared.faults.EntryFault.TheVariants.{OutOfMemory, Failed}
use Rattle.delf_disk.specs.Areas.{Areas}
use Rattle.gate_log.specs.Records.{Record}
use Rattle.delf_model.specs.declared.entry.Entry.{Entry}
use Rattle.delf_model.specs.RuleSet.{RuleSet}
use Rattle.delf_model.specs.Step.{after}
use Rattle.delf_model.specs.Legal.{Legal, is_legal}
use Rattle.delf_model.specs.Payloads.{Payloads}
use Rattle.delf_model.proofs.Runs.{Legal_push}
use Rattle.payload_laws.specs.Holders.{record_size, position_taken}
use Rattle.store_laws.specs.Stores.{Clean, AreScrubbed, journal_of, vault_of, vault_for}
use Rattle.store_laws.specs.Moves.{RestIn}
use Rattle.store_laws.proofs.Appends.{ahead_of, no_items}
use Rattle.gate_log.specs.View.{LogView}
use Rattle.delf_disk.proofs.Moments.{leaves_started}
use Rattle.store_laws.specs.Moves.{StandsFor}
use Rattle.store_laws.proofs.Appends.{rest_stand}
use Rattle.delf_book.specs.Books.{IsCrashSafe, UnlessFailed}
use Rattle.delf_book.specs.Keeping.{KeepsAreas, KeepsLogs, KeepsCarriers, KeepsUp, HasRoom, PutsBack}
use Rattle.delf_book.specs.Writing.{Writes, longer, next_payloads}
use Rattle.delf_book.proofs.Held.{rest_as_read}

pub plain_writes : (rules : RuleSet) (h : List Entry) (e : Payloads) (entry : Entry) (payload : List ℕ) (images : Areas → Type 0) → Legal rules h → is_legal (after rules h) entry ≡ true →
    position_taken (after rules h) entry.what ≡ None → (PutsBack (after rules h) entry.what → ⊥) → length payload ≡ record_size (after rules h) entry.what →
    RestIn rules h e images → Writes rules h e entry payload [] payload images
plain_writes rules h e entry payload images legal line none not_put size rests = record {
  legal = legal;
  line = line;
  few = omega arith;
  ahead = λ c image. (ahead_of rules h e c (rests c image).0 (rests c image).1).0;
  one = λ c image spelled. record {
    entry_spelled = spelled;
    head = refl;
    size = size;
    brought = λ own. refl;
    put = λ job i logged puts there free. absurd (not_put (job, i, (logged, (puts, there, free))));
  };
  more = λ c image. no_items (after rules h) (journal_of c) (vault_for rules h c) entry.what none;
}

-- what reads is clean in the vault's records of the history too
pub clean_for : (rules : RuleSet) (h : List Entry) (e : Payloads) (c : Areas) (images : Areas → Type 0) → images c → RestIn rules h e images → Clean rules h c →
    AreScrubbed (after rules h) (journal_of c) (vault_for rules h c)
clean_for rules h e c images image rests clean =
    subst (λ (v : List Record). AreScrubbed (after rules h) (journal_of c) v) (sym (ahead_of rules h e c (rests c image).0 (rests c image).1).1) clean.scrubbed

-- the areas of the longer history
pub areas_longer : (rules : RuleSet) (h : List Entry) (entry : Entry) (given : List ℕ) (e : Payloads) (seen : Areas) (images : Areas → Type 0) → Legal rules h → is_legal (after rules h) entry ≡ true →
    images seen → RestIn rules (longer h entry) (next_payloads rules h e entry given) images → AreScrubbed (after rules (longer h entry)) (journal_of seen) (vault_of seen) →
    KeepsAreas rules (longer h entry) seen images
areas_longer rules h entry given e seen images legal line image rests scrubbed = record {
  rests = rest_as_read rules (longer h entry) (next_payloads rules h e entry given) seen images (Legal_push rules h entry legal line) image rests;
  clean = record { rest = (rests seen image).0; scrubbed = scrubbed };
}

-- a fact of a ledger's rules and history, told of those that it has now
pub at_ledger : (P : RuleSet → List Entry → Type 0) (rules now_rules : RuleSet) (h now : List Entry) → now_rules ≡ rules → now ≡ h → P rules h → P now_rules now
at_ledger P rules now_rules h now same_rules same fact =
    subst (λ (r : RuleSet). P r now) (sym same_rules) (subst (λ (l : List Entry). P rules l) (sym same) fact)

pub if_below : (o : Option ℕ) (n m : ℕ) → n ≡ m → IfSome o (λ i. i < n) → IfSome o (λ i. i < m)
if_below o n m same inside = subst (λ (k : ℕ). IfSome o (λ i. i < k)) same inside

-- no disk call
pub unmoved : {D : Type 0} {moment : D → ℕ} {may_leave : D → Areas → Type 0} {left_since : D → ℕ → Areas → Type 0} (rules : RuleSet) (h : List Entry) (entry : Entry) (given : List ℕ) (old : D) →
    Legal rules h → ((c : Areas) → left_since old (moment old) c → may_leave old c) → IsCrashSafe moment may_leave left_since rules h entry given old old
unmoved {may_leave} rules h entry given old legal only e rests =
    leaves_started old (StandsFor rules h e entry given) only (λ c image. inl (rest_stand rules h e c legal (rests c image).0 (rests c image).1))

-- what a book keeps, with more room
pub keeps_same : (rules now_rules : RuleSet) (h now : List Entry) (spare ledger now_ledger : ℕ) (journal vault now_journal now_vault : LogView) (carriers now_carriers : List ℕ)
    (capacity now_capacity : ℕ) (told honest : Bool) (seen : Areas) (images : Areas → Type 0) → now_rules ≡ rules → now ≡ h → now_journal.area ≡ journal.area → now_journal.sizes ≡ journal.sizes →
    now_vault.area ≡ vault.area → now_vault.sizes ≡ vault.sizes → now_carriers ≡ carriers →
    (HasRoom spare ledger journal vault (length carriers) capacity → HasRoom spare now_ledger now_journal now_vault (length now_carriers) now_capacity) →
    KeepsUp rules h spare ledger journal vault carriers capacity told honest seen images → KeepsUp now_rules now spare now_ledger now_journal now_vault now_carriers now_capacity told honest seen images
keeps_same rules now_rules h now spare ledger now_ledger journal vault now_journal now_vault carriers now_carriers capacity now_capacity told honest seen images
    same_rules same journal_area journal_sizes vault_area vault_sizes same_carriers room kept =
    record {
      logs = at_ledger (λ (r : RuleSet) (l : List Entry). KeepsLogs r l now_journal now_vault) rules now_rules h now same_rules same
          (record {
            journal_area = journal_area ∙ kept.logs.journal_area;
            vault_area = vault_area ∙ kept.logs.vault_area;
            journal_is = journal_sizes ∙ kept.logs.journal_is;
            vault_is = vault_sizes ∙ kept.logs.vault_is;
          });
      carried = at_ledger (λ (r : RuleSet) (l : List Entry). KeepsCarriers r l now_carriers) rules now_rules h now same_rules same
          (subst (λ (l : List ℕ). KeepsCarriers rules h l) (sym same_carriers) kept.carried);
      room = room kept.room;
      areas = λ plain. at_ledger (λ (r : RuleSet) (l : List Entry). KeepsAreas r l seen images) rules now_rules h now same_rules same (kept.areas plain);
    }

pub unless_failed : {T P : Type 0} (r : Result T EntryFault) → P → UnlessFailed r P
unless_failed (Ok x) holds = holds
unless_failed (Err OutOfMemory) holds = holds
unless_failed (Err Failed) holds = tt

-- room in logs that lose none
pub room_lists : (n ledger : ℕ) (journal vault now_journal now_vault : LogView) (carriers now_carriers : List ℕ) (capacity now_capacity : ℕ) → journal.spare ≤ now_journal.spare → vault.spare ≤ now_vault.spare →
    now_carriers ≡ carriers → now_capacity ≡ capacity → HasRoom n ledger journal vault (length carriers) capacity → HasRoom n ledger now_journal now_vault (length now_carriers) now_capacity
room_lists n ledger journal vault now_journal now_vault carriers now_carriers capacity now_capacity one two same same_capacity room = record {
  in_ledger = room.in_ledger;
  in_journal = omega (arith, room.in_journal, one);
  in_vault = omega (arith, room.in_vault, two);
  in_carriers = omega (arith, room.in_carriers, ap length same, same_capacity);
}

-- what holds where memory was wanting
pub starved_is : (P : Type 0) (f : EntryFault) → f ≡ OutOfMemory → UnlessFailed {T = Unit {0}} (Err f) P → P
starved_is P f is fact = subst (λ (x : EntryFault). UnlessFailed {T = Unit {0}} (Err x) P) is fact
