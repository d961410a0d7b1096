-- Which payloads are noted as zeros.
use Rattle.std.proofs.Common.{◌≡◌, ℕ, zero, suc, Bool, true, false, List, [], ◌∷◌, ◌++◌, length, replicate, Some, refl, sym, ap, ◌∙◌, subst, inl, inr, ◌⊎◌, ⊎_elim}
use Rattle.std.specs.Prelude.{map, set, slice_get}
use Rattle.std.proofs.lemmas.Bool.{false≢true}
use Rattle.std.proofs.lemmas.Option.{same_Some}
use Rattle.delf_disk.specs.declared.area.Area.{Area}
use Rattle.delf_disk.specs.declared.area.Area.TheVariants as area
use Rattle.delf_disk.specs.Areas.{Areas, area_of}
use Rattle.delf_disk.specs.Images.{Same, Only}
use Rattle.delf_disk.specs.Moments.{Runs}
use Rattle.gate_log.specs.Records.{Record, size_of, payload_of}
use Rattle.gate_log.specs.Logs.{Log, Stands, StandIn}
use Rattle.gate_log.specs.Opening.{Starts}
use Rattle.gate_log.specs.Steps.{Drops}
use Rattle.delf_model.specs.declared.entry.Entry.{Entry}
use Rattle.delf_model.specs.RuleSet.{RuleSet}
use Rattle.delf_model.specs.Payloads.{Carrier, Journal, Vault}
use Rattle.store_laws.specs.Logged.{held, IsLog}
use Rattle.store_laws.specs.Stores.{vault_mark, vault_of, vault_for}
use Rattle.store_laws.proofs.Spelled.{log_told, told_log}
use Rattle.delf_book.specs.Reads.{carrier_in}
use Rattle.delf_recovery.specs.Mending.{IsZero, AreNoted}

-- no note yet
none_true : (n k : ℕ) → slice_get (replicate n false) k ≡ Some true → ⊥
none_true zero k is = absurd (cc is)
none_true (suc n) zero is = false≢true (same_Some false true is)
none_true (suc n) (suc k) is = none_true n k is

pub none_noted : (it : Area) (c : Areas) (n : ℕ) → AreNoted it c (replicate n false)
none_noted it c n k is = absurd (none_true n k is)

-- one note more
set_true : (notes : List Bool) (i : ℕ) (b : Bool) (k : ℕ) → slice_get (set notes i b) k ≡ Some true → (slice_get notes k ≡ Some true) ⊎ ((k ≡ i) × (b ≡ true))
set_true [] i b k is = inl is
set_true (x ∷ xs) zero b zero is = inr (refl, same_Some b true is)
set_true (x ∷ xs) zero b (suc k) is = inl is
set_true (x ∷ xs) (suc i) b zero is = inl is
set_true (x ∷ xs) (suc i) b (suc k) is = ⊎_elim (λ before. inl before) (λ here. inr (ap suc here.0, here.1)) (set_true xs i b k is)

pub noted_more : (it : Area) (c : Areas) (notes : List Bool) (i : ℕ) (b : Bool) → (b ≡ true → IsZero (carrier_in it i) c) → AreNoted it c notes → AreNoted it c (set notes i b)
noted_more it c notes i b zeros noted k is =
    ⊎_elim (λ before. noted k before) (λ here. subst (λ (j : ℕ). IsZero (carrier_in it j) c) (sym here.0) (zeros here.1)) (set_true notes i b k is)

-- notes of an area hold where that area is as it was
pub noted_there : (it : Area) (c d : Areas) (notes : List Bool) → area_of it d ≡ area_of it c → AreNoted it c notes → AreNoted it d notes
noted_there area.Journal c d notes same noted k is =
    subst (λ (bytes : List ℕ). payload_of (held bytes) k ≡ replicate (length (payload_of (held bytes) k)) 0) (sym same) (noted k is)
noted_there area.Vault c d notes same noted k is =
    subst (λ (bytes : List ℕ). payload_of (held bytes) k ≡ replicate (length (payload_of (held bytes) k)) 0) (sym same) (noted k is)

-- an area that was started whole stands in every image
pub stands_whole : (it : Area) (mark : List ℕ) (sizes : List (ℕ × ℕ)) (c d : Areas) (images : Areas → Type 0) → Starts it mark sizes c d → Only d images → StandIn it sizes images
stands_whole it mark sizes c d images starts only x image =
    subst (Stands it sizes) (sym (only x image)) (record { mark = mark; records = starts.records; sized = starts.sized; log = starts.log })

-- and still does after calls that change nothing
pub stands_still : {D : Type 0} {moment : D → ℕ} {may_leave : D → Areas → Type 0} {left_since : D → ℕ → Areas → Type 0} {old new : D} (it : Area) (sizes : List (ℕ × ℕ)) →
    Runs moment may_leave left_since Same old new → StandIn it sizes (may_leave old) → StandIn it sizes (may_leave new)
stands_still it sizes run stand x image = let from = run.now x image in subst (Stands it sizes) (sym from.2) (stand from.0 from.1)

-- the drop of a vault record keeps the payloads of the others

front_zero : (rs : List Record) (last : Record) (i : ℕ) → payload_of (rs ++ last ∷ []) i ≡ replicate (length (payload_of (rs ++ last ∷ []) i)) 0
    → payload_of rs i ≡ replicate (length (payload_of rs i)) 0
front_zero [] last i zeros = refl
front_zero (r ∷ rs) last zero zeros = zeros
front_zero (r ∷ rs) last (suc i) zeros = front_zero rs last i zeros

pub dropped_zero : (rules : RuleSet) (h : List Entry) (added : Record) (sizes : List (ℕ × ℕ)) (c d : Areas) → (vault_of c ≡ vault_for rules h c ++ added ∷ []) →
    map size_of (vault_of c) ≡ sizes → IsLog vault_mark c.vault → Drops area.Vault sizes c d → (carrier : Carrier) → IsZero carrier c → IsZero carrier d
dropped_zero rules h added sizes c d more sized log drops (Journal p) zeros =
    subst (λ (bytes : List ℕ). payload_of (held bytes) p ≡ replicate (length (payload_of (held bytes) p)) 0) (sym drops.other) zeros
dropped_zero rules h added sizes c d more sized log drops (Vault i) zeros =
    let firsts = vault_for rules h c in
    let now = drops.here vault_mark firsts added (ap (map size_of) (sym more) ∙ sized) (subst (λ (rs : List Record). Log vault_mark rs c.vault) more (log_told vault_mark c.vault log)) in
    subst (λ (rs : List Record). payload_of rs i ≡ replicate (length (payload_of rs i)) 0) (sym (told_log vault_mark firsts d.vault now).1)
    (front_zero firsts added i (subst (λ (rs : List Record). payload_of rs i ≡ replicate (length (payload_of rs i)) 0) more zeros))
