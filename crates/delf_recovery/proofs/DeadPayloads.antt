-- A scrub of a payload that is not needed, in either area.
use Rattle.std.proofs.Common.{◌≡◌, ℕ, zero, suc, ◌+◌, ◌<◌, ◌≤◌, Bool, List, [], ◌∷◌, length, replicate, refl, sym, ap, ◌∙◌, subst, arith, inl, inr, ◌⊎◌}
use Rattle.std.proofs.lemmas.Bool.{cases_lt}
use Rattle.std.proofs.lemmas.List.{length-replicate}
use Rattle.delf_disk.specs.declared.area.Area.{Area}
use Rattle.delf_disk.specs.declared.area.Area.TheVariants as area
use Rattle.delf_disk.specs.Areas.{Areas, rest_of}
use Rattle.delf_disk.specs.Moments.{Runs, Leaves}
use Rattle.delf_disk.proofs.Moments.{leaves_first}
use Rattle.gate_log.specs.Records.{Record, payload_of}
use Rattle.gate_log.specs.Logs.{Stands, StandIn}
use Rattle.gate_log.specs.Steps.{PayloadRead, MayScrub, Scrubs}
use Rattle.delf_model.specs.declared.entry.Entry.{Entry}
use Rattle.delf_model.specs.RuleSet.{RuleSet}
use Rattle.delf_model.specs.State.{State}
use Rattle.delf_model.specs.Step.{after}
use Rattle.delf_model.specs.Payloads.{Payloads, Carrier}
use Rattle.payload_laws.specs.Holders.{IsLive}
use Rattle.store_laws.specs.Stores.{journal_of, vault_of}
use Rattle.store_laws.specs.Steps.{payload_here, IsZeroed, KeepsOthers}
use Rattle.store_laws.specs.Moves.{RestIn}
use Rattle.store_laws.proofs.Appends.{journal_sizes, vault_sizes}
use Rattle.store_laws.proofs.Spelled.{told_log}
use Rattle.store_laws.proofs.Scrubs.{journal_may, journal_scrubs, vault_may, vault_scrubs}
use Rattle.delf_book.specs.Reads.{carrier_in}
use Rattle.delf_book.specs.Writing.{Rests}
use Rattle.delf_recovery.specs.Mending.{IsZero, AreNoted}
use Rattle.delf_recovery.proofs.Records.{many_records}

module _ (rules : RuleSet) (h : List Entry) (e : Payloads) (i : ℕ) (sizes : List (ℕ × ℕ)) where
  may_rest : (it : Area) (c d : Areas) → Rests rules h e c → (IsLive (after rules h) (carrier_in it i) → ⊥) → Stands it sizes c → MayScrub it sizes i c d → Rests rules h e d
  may_rest area.Journal c d here dead stood may =
      let now = journal_may rules h e i sizes c d here.0 here.1 dead (journal_sizes c sizes stood) may in (now.0, now.1)
  may_rest area.Vault c d here dead stood may =
      let now = vault_may rules h e i sizes c d here.0 here.1 dead (vault_sizes c sizes stood) may in (now.0, now.1)

  zeroed : (it : Area) (c d : Areas) → Rests rules h e c → (IsLive (after rules h) (carrier_in it i) → ⊥) → Stands it sizes c → Scrubs it sizes i c d →
      IsZeroed (carrier_in it i) c d × KeepsOthers (carrier_in it i) c d
  zeroed area.Journal c d here dead stood scrubs =
      let now = journal_scrubs rules h e i sizes c d here.0 here.1 dead (journal_sizes c sizes stood) scrubs in (now.2, now.3)
  zeroed area.Vault c d here dead stood scrubs =
      let now = vault_scrubs rules h e i sizes c d here.0 here.1 dead (vault_sizes c sizes stood) scrubs in (now.2, now.3)

-- zeros are zeros of their own length
zero_now : (carrier : Carrier) (c d : Areas) → IsZeroed carrier c d → IsZero carrier d
zero_now carrier c d is = is ∙ ap (λ (n : ℕ). replicate n 0) (sym (length-replicate (length (payload_here c carrier)) 0) ∙ sym (ap length is))

zero_stays : (carrier : Carrier) (c d : Areas) → payload_here d carrier ≡ payload_here c carrier → IsZero carrier c → IsZero carrier d
zero_stays carrier c d same is = subst (λ (p : List ℕ). p ≡ replicate (length p) 0) (sym same) is

module _ (rules : RuleSet) (h : List Entry) (e : Payloads) (i : ℕ) (it place : Area) (sizes : List (ℕ × ℕ)) (is : place ≡ it) (dead : IsLive (after rules h) (carrier_in it i) → ⊥) where
  pub scrub_leaves : {D : Type 0} {moment : D → ℕ} {may_leave : D → Areas → Type 0} {left_since : D → ℕ → Areas → Type 0} {old new : D} →
      RestIn rules h e (may_leave old) → StandIn place sizes (may_leave old) → Runs moment may_leave left_since (MayScrub place sizes i) old new →
      Leaves moment may_leave left_since (Rests rules h e) old new
  scrub_leaves {may_leave} {old} rests stand run =
      leaves_first run (λ c d image may. may_rest rules h e i sizes it c d (rests c image) dead (subst (λ (a : Area). Stands a sizes c) is (stand c image))
      (subst (λ (a : Area). MayScrub a sizes i c d) is may))

  pub scrub_zero : (before : Areas → Type 0) (seen next : Areas) → before seen → RestIn rules h e before → StandIn place sizes before → Scrubs place sizes i seen next →
      IsZero (carrier_in it i) next × KeepsOthers (carrier_in it i) seen next × (rest_of it next ≡ rest_of it seen)
  scrub_zero before seen next image rests stand scrubs =
      let here = subst (λ (a : Area). Scrubs a sizes i seen next) is scrubs in
      let now = zeroed rules h e i sizes it seen next (rests seen image) dead (subst (λ (a : Area). Stands a sizes seen) is (stand seen image)) here in
      (zero_now (carrier_in it i) seen next now.0, now.1, here.other)

-- zeros that were read are zeros of the payload

zeros_there : (n : ℕ) (payload : List ℕ) → replicate n 0 ≡ payload → payload ≡ replicate (length payload) 0
zeros_there n payload read = sym read ∙ ap (λ (k : ℕ). replicate k 0) (sym (length-replicate n 0) ∙ ap length read)

pub blank_zero : (i n : ℕ) (it : Area) (sizes : List (ℕ × ℕ)) (c : Areas) → Stands it sizes c → PayloadRead it sizes i c (replicate n 0) → IsZero (carrier_in it i) c
blank_zero i n area.Journal sizes c stood read =
    let told = told_log stood.mark stood.records c.journal stood.log in
    zeros_there n (payload_of (journal_of c) i) (read stood.mark stood.records stood.sized stood.log ∙ ap (λ (rs : List Record). payload_of rs i) (sym told.1))
blank_zero i n area.Vault sizes c stood read =
    let told = told_log stood.mark stood.records c.vault stood.log in
    zeros_there n (payload_of (vault_of c) i) (read stood.mark stood.records stood.sized stood.log ∙ ap (λ (rs : List Record). payload_of rs i) (sym told.1))

-- one record further

apart : (it : Area) (k i : ℕ) → k < i → carrier_in it k ≡ carrier_in it i → ⊥
apart area.Journal k i below same = let e : k ≡ i = cc same in omega (arith, e, below)
apart area.Vault k i below same = let e : k ≡ i = cc same in omega (arith, e, below)

pub zero_further : (s : State) (it : Area) (i : ℕ) (c d : Areas) → ((k : ℕ) → k < i → (IsLive s (carrier_in it k) → ⊥) → IsZero (carrier_in it k) c) →
    ((IsLive s (carrier_in it i) → ⊥) → IsZero (carrier_in it i) d) → KeepsOthers (carrier_in it i) c d →
    (k : ℕ) → k < i + 1 → (IsLive s (carrier_in it k) → ⊥) → IsZero (carrier_in it k) d
zero_further s it i c d before one others k inside dead =
    by_place (cases_lt k i)
  where
    by_place : (k < i) ⊎ (i ≤ k) → IsZero (carrier_in it k) d
    by_place (inl below) = zero_stays (carrier_in it k) c d (others (carrier_in it k) (apart it k i below)) (before k below dead)
    by_place (inr there) =
        let same : i ≡ k = omega (arith, there, inside) in
        subst (λ (j : ℕ). IsZero (carrier_in it j) d) same (one (subst (λ (j : ℕ). IsLive s (carrier_in it j) → ⊥) (sym same) dead))

-- what was noted stays zeros
pub noted_further : (it : Area) (i : ℕ) (notes : List Bool) (c d : Areas) → AreNoted it c notes → (IsZero (carrier_in it i) c → IsZero (carrier_in it i) d) →
    KeepsOthers (carrier_in it i) c d → AreNoted it d notes
noted_further it i notes c d noted stays others k is = by_place (cases_lt k i) (cases_lt i k)
  where
    by_place : (k < i) ⊎ (i ≤ k) → (i < k) ⊎ (k ≤ i) → IsZero (carrier_in it k) d
    by_place (inl below) other = zero_stays (carrier_in it k) c d (others (carrier_in it k) (apart it k i below)) (noted k is)
    by_place (inr there) (inl above) = zero_stays (carrier_in it k) c d (others (carrier_in it k) (λ same. apart it i k above (sym same))) (noted k is)
    by_place (inr there) (inr here) =
        let same : i ≡ k = omega (arith, there, here) in
        subst (λ (j : ℕ). IsZero (carrier_in it j) d) same (stays (subst (λ (j : ℕ). IsZero (carrier_in it j) c) (sym same) (noted k is)))

-- and behind the last record there is no payload

none_behind : (rs : List Record) (i : ℕ) → length rs ≤ i → payload_of rs i ≡ []
none_behind [] i all = refl
none_behind (r ∷ rs) zero all = absurd (omega arith)
none_behind (r ∷ rs) (suc i) all = none_behind rs i (omega arith)

behind_zero : (it : Area) (sizes : List (ℕ × ℕ)) (i : ℕ) (c : Areas) → Stands it sizes c → length sizes ≤ i → IsZero (carrier_in it i) c
behind_zero area.Journal sizes i c stood all =
    let none = none_behind (journal_of c) i (omega (arith, all, many_records (journal_of c) sizes (journal_sizes c sizes stood))) in
    subst (λ (p : List ℕ). p ≡ replicate (length p) 0) (sym none) refl
behind_zero area.Vault sizes i c stood all =
    let none = none_behind (vault_of c) i (omega (arith, all, many_records (vault_of c) sizes (vault_sizes c sizes stood))) in
    subst (λ (p : List ℕ). p ≡ replicate (length p) 0) (sym none) refl

pub zero_all : (s : State) (it place : Area) (sizes : List (ℕ × ℕ)) (n : ℕ) (c : Areas) → place ≡ it → Stands place sizes c → n ≡ length sizes →
    ((k : ℕ) → k < n → (IsLive s (carrier_in it k) → ⊥) → IsZero (carrier_in it k) c) → (k : ℕ) → (IsLive s (carrier_in it k) → ⊥) → IsZero (carrier_in it k) c
zero_all s it place sizes n c is stood long before k dead = by_place (cases_lt k n)
  where
    by_place : (k < n) ⊎ (n ≤ k) → IsZero (carrier_in it k) c
    by_place (inl below) = before k below dead
    by_place (inr behind) = behind_zero it sizes k c (subst (λ (a : Area). Stands a sizes c) is stood) (omega (arith, behind, long))
