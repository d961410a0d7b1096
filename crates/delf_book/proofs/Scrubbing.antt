-- The scrubs of the items of a purged job, one after another.
use Rattle.std.proofs.Common.{◌≡◌, ℕ, zero, suc, ◌+◌, ◌<◌, ◌≤◌, Bool, true, false, cond, Some, None, List, [], ◌∷◌, length, drop, refl, sym, ap, ◌∙◌, subst, arith}
use Rattle.std.proofs.lemmas.Option.{same_Some}
use Rattle.std.specs.Prelude.{Contains, map}
use Rattle.delf_disk.specs.Areas.{Areas}
use Rattle.delf_disk.specs.declared.area.Area.{Area}
use Rattle.delf_disk.specs.declared.area.Area.TheVariants as area
use Rattle.gate_log.specs.Logs.{Stands, StandIn}
use Rattle.gate_log.specs.View.{LogView}
use Rattle.delf_model.specs.declared.entry.Entry.{Entry}
use Rattle.delf_model.specs.declared.entry.What.{What}
use Rattle.delf_model.specs.declared.entry.What.TheVariants.{Purge}
use Rattle.delf_model.specs.RuleSet.{RuleSet}
use Rattle.delf_model.specs.State.{State, Logged}
use Rattle.delf_model.specs.Step.{after}
use Rattle.delf_model.specs.Legal.{Legal, is_legal}
use Rattle.delf_model.proofs.Runs.{after_push}
use Rattle.delf_model.specs.Payloads.{Payloads, Carrier, Vault}
use Rattle.payload_laws.specs.Holders.{IsLive, unput_of, scrubbed_by, position_taken, record_size}
use Rattle.store_laws.specs.Moves.{RestIn}
use Rattle.store_laws.specs.Steps.{AreScrubbedBut}
use Rattle.store_laws.specs.Stores.{AreScrubbed, journal_of, vault_of}
use Rattle.store_laws.proofs.Remain.{remain_less, remain_none}
use Rattle.job_table.specs.Unput.{is_unput, next_unput}
use Rattle.delf_book.specs.Dead.{AreDead}
use Rattle.delf_book.specs.Writing.{Writes, IsScrubbed, longer}
use Rattle.delf_book.specs.Keeping.{KeepsLogs, PutsBack, item_sizes}
use Rattle.delf_book.proofs.Plainly.{plain_writes}
use Rattle.delf_book.proofs.Sizes.{sizes_kept, vault_rests}
use Rattle.delf_book.proofs.Writes.{dead_after}

-- the next item that was not put back

record Ahead (job k : ℕ) (xs : List Logged) (i : ℕ) : Type 0 where
  pub n : ℕ
  pub place : i ≡ k + n
  pub below : n < length xs
  pub split : unput_of job k xs ≡ Vault i ∷ unput_of job (i + 1) (drop (n + 1) xs)

next_ahead : (job k : ℕ) (xs : List Logged) (i : ℕ) → next_unput job k xs ≡ Some i → Ahead job k xs i
next_ahead job k [] i is = absurd (cc is)
next_ahead job k (x ∷ xs) i is = by_hit (is_unput job x) refl is (λ later. next_ahead job (k + 1) xs i later)
  where
    here : k ≡ i → is_unput job x ≡ true → Ahead job k (x ∷ xs) i
    here same hit = record {
      n = 0;
      place = omega (arith, same);
      below = omega arith;
      split = ap (λ (b : Bool). cond b (Vault k ∷ unput_of job (k + 1) xs) (unput_of job (k + 1) xs)) hit ∙ ap (λ (j : ℕ). Vault j ∷ unput_of job (j + 1) xs) same;
    }

    there : is_unput job x ≡ false → Ahead job (k + 1) xs i → Ahead job k (x ∷ xs) i
    there hit later =
        let next : later.n + 1 ≡ suc later.n = omega arith in
        record {
          n = suc later.n;
          place = omega (arith, later.place);
          below = omega (arith, later.below);
          split =
              ap (λ (b : Bool). cond b (Vault k ∷ unput_of job (k + 1) xs) (unput_of job (k + 1) xs)) hit ∙
              (later.split ∙ ap (λ (l : List Logged). Vault i ∷ unput_of job (i + 1) l) (more later.n));
        }
      where
        more : (n : ℕ) → drop (n + 1) xs ≡ drop (suc n + 1) (x ∷ xs)
        more n = let next : suc n + 1 ≡ suc (n + 1) = omega arith in sym (ap (λ (m : ℕ). drop m (x ∷ xs)) next)

    by_hit : (b : Bool) → is_unput job x ≡ b → cond b (Some k) (next_unput job (k + 1) xs) ≡ Some i → (next_unput job (k + 1) xs ≡ Some i → Ahead job (k + 1) xs i) → Ahead job k (x ∷ xs) i
    by_hit true hit found IH = here (same_Some k i found) hit
    by_hit false hit found IH = there hit (IH found)

drop_none : (n : ℕ) → drop {A = Logged} n [] ≡ []
drop_none zero = refl
drop_none (suc n) = refl

drop_more : (k n : ℕ) (xs : List Logged) → drop n (drop k xs) ≡ drop (k + n) xs
drop_more zero n xs = let is : n ≡ 0 + n = omega arith in ap (λ (m : ℕ). drop m xs) is
drop_more (suc k) n [] = drop_none n ∙ sym (drop_none (suc k + n))
drop_more (suc k) n (x ∷ xs) = let is : suc (k + n) ≡ suc k + n = omega arith in drop_more k n xs ∙ ap (λ (m : ℕ). drop m (x ∷ xs)) is

length_drop : (k : ℕ) (xs : List Logged) (n : ℕ) → n < length (drop k xs) → k + n < length xs
length_drop zero xs n below = omega (arith, below)
length_drop (suc k) [] n below = absurd (omega (arith, below))
length_drop (suc k) (x ∷ xs) n below = omega (arith, length_drop k xs n below)

pub record Next (job from : ℕ) (items : List Logged) (i : ℕ) : Type 0 where
  pub low : from ≤ i
  pub below : i < length items
  pub split : unput_of job from (drop from items) ≡ Vault i ∷ unput_of job (i + 1) (drop (i + 1) items)

pub next_of : (job from : ℕ) (items : List Logged) (i : ℕ) → next_unput job from (drop from items) ≡ Some i → Next job from items i
next_of job from items i is =
    let a = next_ahead job from (drop from items) i is in
    let place : from + (a.n + 1) ≡ i + 1 = omega (arith, a.place) in
    record {
      low = omega (arith, a.place);
      below = omega (arith, a.place, length_drop from items a.n a.below);
      split = a.split ∙ ap (λ (l : List Logged). Vault i ∷ unput_of job (i + 1) l) (drop_more from (a.n + 1) items ∙ ap (λ (m : ℕ). drop m items) place);
    }

no_next : (job k : ℕ) (xs : List Logged) → next_unput job k xs ≡ None → unput_of job k xs ≡ []
no_next job k [] is = refl
no_next job k (x ∷ xs) is = by_hit (is_unput job x) is (no_next job (k + 1) xs)
  where
    by_hit : (b : Bool) → cond b (Some k) (next_unput job (k + 1) xs) ≡ None → (next_unput job (k + 1) xs ≡ None → unput_of job (k + 1) xs ≡ []) →
        cond b (Vault k ∷ unput_of job (k + 1) xs) (unput_of job (k + 1) xs) ≡ []
    by_hit true found IH = absurd (cc found)
    by_hit false found IH = IH found

-- the records that are left

abbrev pub Among : List Carrier → List Carrier → Type 0
Among some all = (carrier : Carrier) → Contains some carrier → Contains all carrier

first_among : (x : Carrier) (xs : List Carrier) → Contains (x ∷ xs) x
first_among x xs = (0, omega arith, refl)

rest_among : (x : Carrier) (xs : List Carrier) → Among xs (x ∷ xs)
rest_among x xs carrier among = (suc among.0, omega (arith, among.1), among.2)

module _ (job from : ℕ) (items : List Logged) (i : ℕ) (all : List Carrier) (next : Next job from items i) (among : Among (unput_of job from (drop from items)) all) where
  split_among : Among (Vault i ∷ unput_of job (i + 1) (drop (i + 1) items)) all
  split_among = subst (λ (l : List Carrier). Among l all) next.split among

  pub next_among : Among (unput_of job (i + 1) (drop (i + 1) items)) all
  next_among carrier here = split_among carrier (rest_among (Vault i) (unput_of job (i + 1) (drop (i + 1) items)) carrier here)

  pub next_dead : (s : State) → AreDead s all → IsLive s (Vault i) → ⊥
  next_dead s dead = dead (Vault i) (split_among (Vault i) (first_among (Vault i) (unput_of job (i + 1) (drop (i + 1) items))))

  pub next_left : (s : State) (c d : Areas) → AreScrubbedBut s (unput_of job from (drop from items)) (journal_of c) (vault_of c) → IsScrubbed (Vault i) c d →
      AreScrubbedBut s (unput_of job (i + 1) (drop (i + 1) items)) (journal_of d) (vault_of d)
  next_left s c d but scrubbed =
      remain_less s (Vault i) (unput_of job (i + 1) (drop (i + 1) items)) c d
      (subst (λ (l : List Carrier). AreScrubbedBut s l (journal_of c) (vault_of c)) next.split but) scrubbed.0 scrubbed.1

pub none_left : (job from : ℕ) (items : List Logged) (s : State) (c : Areas) → next_unput job from (drop from items) ≡ None → AreScrubbedBut s (unput_of job from (drop from items)) (journal_of c) (vault_of c) →
    AreScrubbed s (journal_of c) (vault_of c)
none_left job from items s c is but =
    remain_none s (journal_of c) (vault_of c) (subst (λ (l : List Carrier). AreScrubbedBut s l (journal_of c) (vault_of c)) (no_next job from (drop from items) is) but)

-- a purge: it logs no item, and puts nothing back

pub record Purges (s : State) (w : What) (job : ℕ) : Type 0 where
  pub no_item : position_taken s w ≡ None
  pub no_put : PutsBack s w → ⊥
  pub size : 0 ≡ record_size s w
  pub scrubs : unput_of job 0 s.items ≡ scrubbed_by s w

purges_job : (s : State) (job : ℕ) → Purges s (Purge job) job
purges_job s job = record {
  no_item = refl;
  no_put = λ puts. (let no = puts.2.1.0 in cc no);
  size = refl;
  scrubs = refl;
}

pub purges_of : (s : State) (w : What) (job : ℕ) → w ≡ Purge job → Purges s w job
purges_of s w job is = subst (λ (v : What). Purges s v job) (sym is) (purges_job s job)

module _ (rules : RuleSet) (h : List Entry) (entry : Entry) (job : ℕ) (legal : Legal rules h) (line : is_legal (after rules h) entry ≡ true) (purges : Purges (after rules h) entry.what job) where
  pub purge_writes : (e : Payloads) (images : Areas → Type 0) → RestIn rules h e images → Writes rules h e entry [] [] [] images
  purge_writes e images rests = plain_writes rules h e entry [] images legal line purges.no_item purges.no_put purges.size rests

  pub purge_dead : AreDead (after rules (longer h entry)) (unput_of job 0 (after rules h).items)
  purge_dead carrier among = dead_after rules h entry legal line carrier (subst (λ (l : List Carrier). Contains l carrier) purges.scrubs among)

  pub purge_left : (c : Areas) → AreScrubbedBut (after rules (longer h entry)) (scrubbed_by (after rules h) entry.what) (journal_of c) (vault_of c) →
      AreScrubbedBut (after rules (longer h entry)) (unput_of job 0 (after rules h).items) (journal_of c) (vault_of c)
  purge_left c but = subst (λ (l : List Carrier). AreScrubbedBut (after rules (longer h entry)) l (journal_of c) (vault_of c)) (sym purges.scrubs) but

  -- the vault has the records that it had
  pub vault_stays : (journal vault : LogView) (e : Payloads) (images : Areas → Type 0) → KeepsLogs rules h journal vault → RestIn rules (longer h entry) e images →
      StandIn vault.area vault.sizes images
  vault_stays journal vault e images logs rests = λ c image.
      let sizes : map item_sizes (after rules (longer h entry)).items ≡ vault.sizes =
      ap (λ (s : State). map item_sizes s.items) (after_push rules h entry) ∙ (sizes_kept (after rules h) entry.what purges.no_item ∙ sym logs.vault_is) in
      subst (λ (a : Area). Stands a vault.sizes c) (sym logs.vault_area)
      (subst (λ (l : List (ℕ × ℕ)). Stands area.Vault l c) sizes (vault_rests rules (longer h entry) c (rests c image).0))
