-- What an entry makes of the payloads that areas hold, and what a book keeps of its payloads and of its opening.
use Rattle.std.proofs.Common.{◌≡◌, ℕ, ◌≤◌, ◌<◌, Bool, true, false, List, [], ◌∷◌, ◌++◌, Some, refl, sym, ap, ◌∙◌, subst, add-one, arith}
use Rattle.std.proofs.lemmas.Bool.{false≢true}
use Rattle.std.proofs.lemmas.List.Elements.{filter-append}
use Rattle.std.specs.Prelude.{filter, slice_get}
use Rattle.delf_disk.specs.Areas.{Areas}
use Rattle.delf_disk.specs.Causes.{Rose}
use Rattle.delf_disk.specs.Plain.{SameKind, SameTelling}
use Rattle.delf_disk.specs.declared.area.Order.{Order}
use Rattle.gate_log.specs.Records.{Record}
use Rattle.delf_model.specs.declared.entry.Entry.{Entry}
use Rattle.delf_model.specs.declared.entry.What.{What}
use Rattle.delf_model.specs.declared.entry.What.TheVariants.{Create, Update, Link}
use Rattle.delf_model.specs.RuleSet.{RuleSet}
use Rattle.delf_model.specs.State.{State}
use Rattle.delf_model.specs.Step.{step, after}
use Rattle.delf_model.specs.Legal.{Legal, is_legal}
use Rattle.delf_model.specs.Payloads.{Payloads, is_needed, bytes_of_pair, brought, payloads_after}
use Rattle.delf_model.proofs.Runs.{after_push}
use Rattle.payload_laws.specs.Holders.{brings, Carried, Stays, Brought, Taken, PutBack, PayloadsMove, PositionsHeld}
use Rattle.payload_laws.proofs.Moves.{payloads_held}
use Rattle.store_laws.specs.Stores.{digest, AreSealed, Hold, StandBut, journal_of, vault_of}
use Rattle.store_laws.specs.Moves.{RestIn}
use Rattle.store_laws.proofs.Appends.{rest_stand}
use Rattle.store_laws.proofs.Carry.{Reads, payload_kept, payload_brought}
use Rattle.store_laws.proofs.Sealed.{sealed_on}
use Rattle.opening_laws.proofs.Unique.{one_history, one_payloads}
use Rattle.delf_book.specs.Holding.{StandWhole}
use Rattle.delf_book.specs.Keeping.{pair_if, pairs_below, held_at, payloads_in, KeepsAreas, KeepsPayloads, KeepsOpening}
use Rattle.delf_book.proofs.Held.{pairs_end, pair_found, pairs_same, is_taken, pairs_kept}

same_payloads : (d e : Payloads) → d.bytes ≡ e.bytes → d.seals ≡ e.seals → d ≡ e
same_payloads d e bytes seals =
    ap (λ (l : List (ℕ × List ℕ)). let made : Payloads = record { bytes = l; seals = d.seals } in made) bytes ∙
    ap (λ (l : List (List ℕ)). let made : Payloads = record { bytes = e.bytes; seals = l } in made) seals

-- what is taken of the bytes that an entry brings

none_taken : (taken : Bool) (n : ℕ) (given : List ℕ) → (taken ≡ true → ⊥) → [] ≡ pair_if taken n given
none_taken true n given not = absurd (not refl)
none_taken false n given not = refl

brought_taken : (taken : ℕ → Bool) (n : ℕ) (w : What) (given : List ℕ) → (taken n ≡ true → brings w ≡ true) → filter (is_taken taken) (brought n w given) ≡ pair_if (taken n) n given
brought_taken taken n (Create tag kind id size) given own = refl
brought_taken taken n (Update tag id size) given own = refl
brought_taken taken n (Link tag edge from to size) given own = refl
brought_taken taken n w given own = none_taken (taken n) n given (λ is. false≢true (own is))

module _ (s : State) (entry : Entry) (given : List ℕ) (journal vault journal_now vault_now : List Record) (seals : List (List ℕ)) (held : PositionsHeld s) (moves : PayloadsMove s entry) where
  abbrev old : Payloads
  old = record { bytes = pairs_below (is_needed s) (held_at s journal vault) s.len; seals = seals }

  abbrev next : Payloads
  next = payloads_after digest s entry given old

  abbrev now : ℕ → Bool
  now = is_needed (step s entry)

  abbrev before : ℕ → List ℕ
  before = held_at s journal vault

  abbrev behind : ℕ → List ℕ
  behind = held_at (step s entry) journal_now vault_now

  was_needed : (p : ℕ) → p < s.len → now p ≡ true → is_needed s p ≡ true
  was_needed p below needed = by_way (moves.carried p needed)
    where
      by_way : Carried s entry p → is_needed s p ≡ true
      by_way (Stays was same) = was
      by_way (Brought at own same) = absurd (omega (arith, below, at))
      by_way (Taken taken was same) = was
      by_way (PutBack job i logged puts there free at was carried same) = was

  brings_last : now s.len ≡ true → brings entry.what ≡ true
  brings_last needed = by_way (moves.carried s.len needed)
    where
      past : is_needed s s.len ≡ true → ⊥
      past was = let below : s.len < s.len = held.below s.len was in omega (arith, below)

      by_way : Carried s entry s.len → brings entry.what ≡ true
      by_way (Stays was same) = absurd (past was)
      by_way (Brought at own same) = own
      by_way (Taken taken was same) = absurd (past was)
      by_way (PutBack job i logged puts there free at was carried same) = absurd (past was)

  module _ (reads : Reads (step s entry) next journal_now vault_now) where
    reads_before : (p : ℕ) → p < s.len → now p ≡ true → behind p ≡ before p
    reads_before p below needed =
        reads p needed ∙ (payload_kept s old entry given p needed (λ same. omega (arith, below, same)) ∙
        ap bytes_of_pair (pair_found (is_needed s) before p s.len below (was_needed p below needed)))

    reads_last : (b : Bool) → now s.len ≡ b → pair_if b s.len (behind s.len) ≡ pair_if b s.len given
    reads_last true needed =
        ap (λ (l : List ℕ). (s.len, l) ∷ [])
        (reads s.len needed ∙ payload_brought s old entry given s.len needed (pairs_end (is_needed s) before s.len s.len (omega arith)) refl (brings_last needed))
    reads_last false needed = refl

    bytes_longer : pairs_below now behind (step s entry).len ≡ next.bytes
    bytes_longer =
        ap (λ (n : ℕ). pairs_below now behind n) (add-one s.len) ∙
        (ap (λ (l : List (ℕ × List ℕ)). l ++ pair_if (now s.len) s.len (behind s.len)) (pairs_same now behind before s.len reads_before) ∙
        (ap (λ (l : List (ℕ × List ℕ)). pairs_below now before s.len ++ l) (reads_last (now s.len) refl) ∙
        sym
        (filter-append (is_taken now) old.bytes (brought s.len entry.what given) ∙
        (ap (λ (l : List (ℕ × List ℕ)). l ++ filter (is_taken now) (brought s.len entry.what given)) (pairs_kept (is_needed s) now before s.len was_needed) ∙
        ap (λ (l : List (ℕ × List ℕ)). pairs_below now before s.len ++ l) (brought_taken now s.len entry.what given brings_last)))))

-- areas that hold the payloads after an entry hold just those
pub payloads_longer : (rules : RuleSet) (h : List Entry) (entry : Entry) (given : List ℕ) (c d : Areas) → Legal rules h → is_legal (after rules h) entry ≡ true →
    Hold rules (h ++ entry ∷ []) (payloads_after digest (after rules h) entry given (payloads_in (after rules h) c)) (journal_of d) (vault_of d) →
    payloads_in (after rules (h ++ entry ∷ [])) d ≡ payloads_after digest (after rules h) entry given (payloads_in (after rules h) c)
unfolding payloads_in
payloads_longer rules h entry given c d legal line hold =
    let s = after rules h in
    let held = payloads_held rules h legal in
    let next = payloads_after digest s entry given (payloads_in s c) in
    let reads = subst (λ (t : State). Reads t next (journal_of d) (vault_of d)) (after_push rules h entry) hold.reads in
    subst (λ (t : State). payloads_in t d ≡ next) (sym (after_push rules h entry))
    (same_payloads (payloads_in (step s entry) d) next
    (bytes_longer s entry given (journal_of c) (vault_of c) (journal_of d) (vault_of d) (payloads_in s c).seals held.held (held.moves entry line) reads) hold.seals)

-- areas that hold what others hold
pub payloads_still : (rules : RuleSet) (h : List Entry) (c d : Areas) → Hold rules h (payloads_in (after rules h) c) (journal_of d) (vault_of d) →
    payloads_in (after rules h) d ≡ payloads_in (after rules h) c
unfolding payloads_in
payloads_still rules h c d hold =
    let s = after rules h in
    same_payloads (payloads_in s d) (payloads_in s c)
    (pairs_same (is_needed s) (held_at s (journal_of d) (vault_of d)) (held_at s (journal_of c) (vault_of c)) s.len
    (λ p below needed. hold.reads p needed ∙ ap bytes_of_pair (pair_found (is_needed s) (held_at s (journal_of c) (vault_of c)) p s.len below needed))) hold.seals

-- what a book keeps of its payloads

module _ (rules : RuleSet) (h : List Entry) (e : Payloads) (down : Bool) (seen opened : Areas) (up : down ≡ false) (kept : KeepsPayloads rules h e down seen opened) where
  -- the images rest with them
  pub rests_with : (images : Areas → Type 0) → RestIn rules h (payloads_in (after rules h) seen) images → RestIn rules h e images
  rests_with images rests = subst (λ (d : Payloads). RestIn rules h d images) (sym (kept.reads up)) rests

  -- after a call that adds no entry
  pub keeps_still : (now : Areas) → Hold rules h (payloads_in (after rules h) seen) (journal_of now) (vault_of now) → KeepsPayloads rules h e down now opened
  keeps_still now hold = record { reads = λ same. kept.reads same ∙ sym (payloads_still rules h seen now hold); sealed = kept.sealed }

  -- after one that adds this entry
  module _ (entry : Entry) (given : List ℕ) (now : Areas) (images fresh : Areas → Type 0) (legal : Legal rules h) (line : is_legal (after rules h) entry ≡ true)
      (image : images seen) (next : fresh now) (rests : RestIn rules h (payloads_in (after rules h) seen) images)
      (durable : RestIn rules (h ++ entry ∷ []) (payloads_after digest (after rules h) entry given (payloads_in (after rules h) seen)) fresh) where
    pub grew_by : payloads_in (after rules (h ++ entry ∷ [])) now ≡ payloads_after digest (after rules h) entry given e
    grew_by = payloads_longer rules h entry given seen now legal line (durable now next).1 ∙ ap (payloads_after digest (after rules h) entry given) (sym (kept.reads up))

    pub keeps_longer : KeepsPayloads rules (h ++ entry ∷ []) (payloads_in (after rules (h ++ entry ∷ [])) now) down now opened
    keeps_longer = record {
      reads = λ same. refl;
      sealed = λ whole.
          subst (AreSealed rules (h ++ entry ∷ [])) (sym grew_by)
          (sealed_on rules h e entry given (journal_of seen) (vault_of seen) legal line (rests_with images rests seen image).1 (kept.sealed whole));
    }

-- after one that met a fault
pub keeps_fallen : (rules : RuleSet) (h : List Entry) (e : Payloads) (down : Bool) (seen now opened : Areas) → KeepsPayloads rules h e down seen opened → KeepsPayloads rules h e true now opened
keeps_fallen rules h e down seen now opened kept = record { reads = λ up. absurd (false≢true (sym up)); sealed = kept.sealed }

-- at the opening
pub keeps_opened : (rules : RuleSet) (h : List Entry) (seen : Areas) (images : Areas → Type 0) → Legal rules h → images seen → KeepsAreas rules h seen images →
    KeepsPayloads rules h (payloads_in (after rules h) seen) false seen seen
keeps_opened rules h seen images legal image kept = record { reads = λ up. refl; sealed = sealed }
  where
    mine : StandBut rules h (payloads_in (after rules h) seen) seen
    mine = rest_stand rules h (payloads_in (after rules h) seen) seen legal (kept.rests seen image).0 (kept.rests seen image).1

    sealed : StandWhole rules seen → AreSealed rules h (payloads_in (after rules h) seen)
    sealed (g, (e, stand)) =
        let same : g ≡ h = one_history rules g h e (payloads_in (after rules h) seen) seen stand.but mine in
        let but : StandBut rules h e seen = subst (λ (l : List Entry). StandBut rules l e seen) same stand.but in
        let whole : AreSealed rules h e = subst (λ (l : List Entry). AreSealed rules l e) same stand.sealed in
        let one = one_payloads rules h e (payloads_in (after rules h) seen) seen but mine in
        λ p i needed carried.
        ap (λ (l : List (List ℕ)). slice_get l i) (sym one.seals) ∙ (whole p i needed carried ∙ ap (λ (l : List ℕ). Some (digest l)) (one.bytes p))

-- what it keeps of its opening

module _ {R : Type 0} {told honest : R → Bool} {faults : R → ℕ} {down : Bool} {opened old new : R} (kept : KeepsOpening told honest faults down opened old) where
  pub opening_told : SameTelling told honest old new → faults new ≡ faults old → KeepsOpening told honest faults down opened new
  opening_told telling same = record {
    telling = record { tells = telling.tells ∙ kept.telling.tells; keeps_word = telling.keeps_word ∙ kept.telling.keeps_word };
    later = subst (λ (n : ℕ). faults opened ≤ n) (sym same) kept.later;
    rose = λ is. subst (λ (n : ℕ). Rose (faults opened) n) (sym same) (kept.rose is);
  }

  module _ {order : R → Order} {orders : R → ℕ} (kind : SameKind told honest order orders old new) where
    pub opening_still : faults new ≡ faults old → KeepsOpening told honest faults down opened new
    opening_still same = opening_told (record { tells = kind.tells; keeps_word = kind.keeps_word }) same

    pub opening_fell : faults old ≤ faults new → Rose (faults old) (faults new) → KeepsOpening told honest faults true opened new
    opening_fell later rose = record {
      telling = record { tells = kind.tells ∙ kept.telling.tells; keeps_word = kind.keeps_word ∙ kept.telling.keeps_word };
      later = let before = kept.later in omega (arith, before, later);
      rose = λ is. let before = kept.later in omega (arith, before, rose);
    }
