-- What the drop of a vault record and the scrubs make of both areas.
use Rattle.std.proofs.Common.{◌≡◌, ℕ, ◌+◌, ◌-◌, ◌<◌, ◌≤◌, List, length, take, sym, ap, ◌∙◌, subst, arith}
use Rattle.std.specs.Prelude.{map}
use Rattle.std.proofs.lemmas.List.{take_all}
use Rattle.delf_disk.specs.declared.area.Area.{Area}
use Rattle.delf_disk.specs.declared.area.Area.TheVariants as area
use Rattle.delf_disk.specs.Areas.{Areas}
use Rattle.delf_disk.specs.Images.{Only}
use Rattle.delf_disk.specs.Moments.{Runs, Leaves}
use Rattle.delf_disk.proofs.Moments.{leaves_first, leaves_widened}
use Rattle.gate_log.specs.Records.{Record, size_of}
use Rattle.gate_log.specs.Logs.{Stands, StandIn}
use Rattle.gate_log.specs.Steps.{MayDrop, Drops}
use Rattle.delf_model.specs.declared.entry.Entry.{Entry}
use Rattle.delf_model.specs.RuleSet.{RuleSet}
use Rattle.delf_model.specs.Step.{after}
use Rattle.delf_model.specs.Legal.{Legal}
use Rattle.delf_model.specs.Payloads.{Payloads, Carrier, Journal, Vault}
use Rattle.payload_laws.specs.Holders.{IsLive}
use Rattle.store_laws.specs.Logged.{held}
use Rattle.store_laws.specs.Stores.{StandBut, Clean, AreScrubbed, journal_of, vault_of}
use Rattle.store_laws.proofs.Appends.{vault_stands, rest_stand}
use Rattle.opening_laws.proofs.Dropping.{stands_rests, stands_ahead, drops, may_drop}
use Rattle.delf_book.specs.Keeping.{item_sizes}
use Rattle.delf_book.specs.Writing.{Rests}
use Rattle.delf_book.proofs.Writes.{leaves_joined}
use Rattle.delf_recovery.specs.Mending.{Standing, IsZero}
use Rattle.delf_recovery.specs.Reading.{HasItems}
use Rattle.delf_recovery.proofs.Records.{many_records}
use Rattle.delf_recovery.proofs.Notes.{dropped_zero}

module _ (rules : RuleSet) (h : List Entry) (c : Areas) (sizes : List (ℕ × ℕ)) (standing : Standing rules h c) (sized : map size_of (vault_of c) ≡ sizes) (has : HasItems (after rules h).items sizes) where
  pub stands_in : (place : Area) (images : Areas → Type 0) → place ≡ area.Vault → Only c images → StandIn place sizes images
  stands_in place images is only x image =
      subst (λ (a : Area). Stands a sizes x) (sym is) (subst (Stands area.Vault sizes) (sym (only x image)) (subst (λ (l : List (ℕ × ℕ)). Stands area.Vault l c) sized (vault_stands c standing.vault)))

  many : length (vault_of c) ≡ length sizes
  many = many_records (vault_of c) sizes sized

  -- one record an item
  pub rests_exact : length sizes ≤ length (after rules h).items → (e : Payloads) → StandBut rules h e c → Rests rules h e c
  rests_exact none e but = stands_rests rules h e c but standing.journal standing.vault (omega (arith, many, none, has.some))

  -- one more
  module _ (legal : Legal rules h) (one : length (after rules h).items < length sizes) (e : Payloads) (but : StandBut rules h e c) where
    long : length (vault_of c) ≡ length (after rules h).items + 1
    long = omega (arith, many, one, has.few)

    may_stand : (d : Areas) → MayDrop area.Vault sizes c d → StandBut rules h e d
    may_stand d may = let a = stands_ahead rules h e c but standing.journal standing.vault long in may_drop rules h e a.0 sizes c d legal a.1 sized may

    pub dropped_rests : (d : Areas) → Drops area.Vault sizes c d → Rests rules h e d
    dropped_rests d step = let a = stands_ahead rules h e c but standing.journal standing.vault long in drops rules h e a.0 sizes c d a.1 sized step

    pub drop_leaves : {D : Type 0} {moment : D → ℕ} {may_leave : D → Areas → Type 0} {left_since : D → ℕ → Areas → Type 0} {old new : D} → Only c (may_leave old) →
        Runs moment may_leave left_since (MayDrop area.Vault sizes) old new → Leaves moment may_leave left_since (StandBut rules h e) old new
    drop_leaves only run = leaves_first run (λ m x image may. may_stand x (subst (λ (y : Areas). MayDrop area.Vault sizes y x) (only m image) may))

    pub drop_zeros : (d : Areas) → Drops area.Vault sizes c d → (carrier : Carrier) → IsZero carrier c → IsZero carrier d
    drop_zeros d step = let a = stands_ahead rules h e c but standing.journal standing.vault long in dropped_zero rules h a.0 sizes c d a.1.more sized standing.vault step

pub exact_sizes : (rules : RuleSet) (h : List Entry) (sizes : List (ℕ × ℕ)) → HasItems (after rules h).items sizes → length sizes ≤ length (after rules h).items → sizes ≡ map item_sizes (after rules h).items
exact_sizes rules h sizes has none = sym (take_all (length (after rules h).items) sizes none) ∙ has.sized

pub dropped_sizes : (rules : RuleSet) (h : List Entry) (sizes next : List (ℕ × ℕ)) → HasItems (after rules h).items sizes → length (after rules h).items < length sizes →
    next ≡ take (length sizes - 1) sizes → next ≡ map item_sizes (after rules h).items
dropped_sizes rules h sizes next has one is =
    let n : length sizes - 1 ≡ length (after rules h).items = omega (arith, one, has.few) in
    is ∙ (ap (λ (k : ℕ). take k sizes) n ∙ has.sized)

-- what rests stands
pub rests_leave : {D : Type 0} {moment : D → ℕ} {may_leave : D → Areas → Type 0} {left_since : D → ℕ → Areas → Type 0} {old mid new : D} (rules : RuleSet) (h : List Entry) (e : Payloads) → Legal rules h →
    Leaves moment may_leave left_since (StandBut rules h e) old mid → Leaves moment may_leave left_since (Rests rules h e) mid new → Leaves moment may_leave left_since (StandBut rules h e) old new
rests_leave rules h e legal one two = leaves_joined one (leaves_widened two (λ x rests. rest_stand rules h e x legal rests.0 rests.1))

-- zeros in both areas
pub clean_now : (rules : RuleSet) (h : List Entry) (e : Payloads) (c d : Areas) → Rests rules h e d → ((p : ℕ) → (IsLive (after rules h) (Journal p) → ⊥) → IsZero (Journal p) c) → d.journal ≡ c.journal →
    ((i : ℕ) → (IsLive (after rules h) (Vault i) → ⊥) → IsZero (Vault i) d) → Clean rules h d
clean_now rules h e c d rests journals same vaults = record { rest = rests.0; scrubbed = scrubbed }
  where
    there : AreScrubbed (after rules h) (journal_of c) (vault_of d)
    there (Journal p) dead = journals p dead
    there (Vault i) dead = vaults i dead

    scrubbed : AreScrubbed (after rules h) (journal_of d) (vault_of d)
    scrubbed = subst (λ (j : List Record). AreScrubbed (after rules h) j (vault_of d)) (ap held (sym same)) there
