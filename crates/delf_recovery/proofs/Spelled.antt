-- Areas that were read stand for the history, and areas that stand for one are read as it.
use Rattle.std.proofs.Common.{◌≡◌, ℕ, zero, suc, ◌<◌, ◌≤◌, Bool, true, false, cond, List, [], ◌∷◌, ◌++◌, length, map, take, Option, Some, None, refl, sym, ap, ◌∙◌, subst, arith, inl, inr, ◌⊎◌}
use Rattle.std.specs.Prelude.{slice_get, is_none}
use Rattle.std.proofs.lemmas.Bool.{and_parts, leb-true}
use Rattle.delf_disk.specs.Areas.{Areas}
use Rattle.gate_log.specs.Records.{Record, spelled as spelled_records, AreBounded}
use Rattle.gate_log.specs.Logs.{Log}
use Rattle.entry_codec.specs.Field.{spelled}
use Rattle.entry_codec.specs.declared.limits.TheConstants.{LARGEST_PAYLOAD}
use Rattle.entry_codec.specs.EntryHead.{AreEntries, IsEntry, HasPayload, entry_head}
use Rattle.entry_codec.specs.ItemHead.{item_head, item_fields}
use Rattle.delf_model.specs.declared.entry.Entry.{Entry}
use Rattle.delf_model.specs.declared.entry.What.{What}
use Rattle.delf_model.specs.declared.entry.What.TheVariants.{Create, Update, Link, Unlink, Delete, Restore, Expire, Cut, Erase, Put, Purge}
use Rattle.delf_model.specs.RuleSet.{RuleSet}
use Rattle.delf_model.specs.State.{State, Logged, start, size_of}
use Rattle.delf_model.specs.Step.{step, after}
use Rattle.delf_model.specs.Puts.{judged}
use Rattle.delf_model.specs.Legal.{Legal, is_legal, is_legal_from}
use Rattle.delf_model.specs.Payloads.{Payloads}
use Rattle.delf_model.proofs.Runs.{after_push}
use Rattle.payload_laws.specs.Holders.{record_size, put_size}
use Rattle.birth_laws.proofs.Rows.{rows_made}
use Rattle.store_laws.specs.Logged.{held, IsArea, is_blank}
use Rattle.store_laws.specs.Stores.{Spell, Hold, StandBut, vault_mark, journal_of, head_in, length_in, seal_in, seals_of, item_heads, logged_size, record_sizes}
use Rattle.store_laws.proofs.Spelled.{told_log, log_told}
use Rattle.delf_book.specs.Keeping.{payloads_in}
use Rattle.delf_book.proofs.Held.{holds_itself}
use Rattle.opening_laws.specs.Places.{IsRecordOf, AreRecordsOf, ReadsJournal, AreRecordsOfItems}
use Rattle.delf_recovery.specs.Reading.{ReadsVault}
use Rattle.delf_recovery.proofs.ItemRecords.{own_seal, same_item_size, made_bounded, length_take}
use Rattle.delf_recovery.proofs.Started.{small_or_not, blank_held}
use Rattle.delf_recovery.proofs.Gates.{bounded_front}

-- from records to what they spell

journal_spells : (s : State) (es : List Entry) (rs : List Record) → AreRecordsOf s es rs → (map head_in rs ≡ map entry_head es) × (map length_in rs ≡ record_sizes s es)
journal_spells s [] [] of = (refl, refl)
journal_spells s [] (r ∷ rs) of = absurd of
journal_spells s (e ∷ es) [] of = absurd of
journal_spells s (e ∷ es) (r ∷ rs) of =
    let rest = journal_spells (step s e) es rs of.1 in
    let head : r.head ≡ entry_head e = of.0.head.spelling in
    let size : length r.payload ≡ record_size s e.what = of.0.size in (
      ap (λ (l : List ℕ). l ∷ map head_in rs) head ∙ ap (λ (l : List (List ℕ)). entry_head e ∷ l) rest.0,
      ap (λ (n : ℕ). n ∷ map length_in rs) size ∙ ap (λ (l : List ℕ). record_size s e.what ∷ l) rest.1,
    )

vault_spells : (items : List Logged) (rs : List Record) → AreRecordsOfItems items rs → length rs ≡ length items → (map head_in rs ≡ item_heads items (seals_of rs)) × (map length_in rs ≡ map logged_size items)
vault_spells [] [] of long = (refl, refl)
vault_spells [] (r ∷ rs) of long = absurd (omega (arith, long))
vault_spells (x ∷ items) [] of long = absurd (omega (arith, long))
vault_spells (x ∷ items) (r ∷ rs) of long =
    let rest = vault_spells items rs of.1 (omega (arith, long)) in
    let one = of.0 in
    let sealed : seal_in r ≡ one.seal = own_seal (spelled (item_fields x.item)) one.seal r.head one.head.digest_length one.head.spelling in
    let head : r.head ≡ item_head x.item (seal_in r) = one.head.spelling ∙ ap (item_head x.item) (sym sealed) in
    let size : length r.payload ≡ logged_size x = one.head.payload ∙ sym (same_item_size x.item) in (
      ap (λ (l : List ℕ). l ∷ map head_in rs) head ∙ ap (λ (l : List (List ℕ)). item_head x.item (seal_in r) ∷ l) rest.0,
      ap (λ (n : ℕ). n ∷ map length_in rs) size ∙ ap (λ (l : List ℕ). logged_size x ∷ l) rest.1,
    )

items_front : (items : List Logged) (rs : List Record) (n : ℕ) → AreRecordsOfItems items rs → AreRecordsOfItems items (take n rs)
items_front [] rs n of = tt
items_front (x ∷ items) [] zero of = tt
items_front (x ∷ items) [] (suc n) of = tt
items_front (x ∷ items) (r ∷ rs) zero of = tt
items_front (x ∷ items) (r ∷ rs) (suc n) of = (of.0, items_front items rs n of.1)

held_bounded : (mark bytes : List ℕ) → IsArea mark bytes → AreBounded (held bytes)
held_bounded mark bytes area = by_blank (is_blank bytes) refl
  where
    by_blank : (b : Bool) → is_blank bytes ≡ b → AreBounded (held bytes)
    by_blank true is = by_size (small_or_not (length bytes))
      where
        by_size : (length bytes ≤ 9) ⊎ (9 < length bytes) → AreBounded (held bytes)
        by_size (inl few) = subst AreBounded (sym (blank_held bytes few)) tt
        by_size (inr many) = absurd (let few = leb-true (length bytes) 9 is in omega (arith, few, many))
    by_blank false is = (log_told mark bytes (area is)).bounded

pub reads_stand : (rules : RuleSet) (h : List Entry) (c : Areas) → Legal rules h → AreEntries h → ReadsJournal rules h c.journal → ReadsVault (after rules h).items c.vault → (e : Payloads) × StandBut rules h e c
reads_stand rules h c legal entries journal vault =
    let n = length (after rules h).items in
    let vs = take (length (after rules h).items) (held c.vault) in
    let long : length (take (length (after rules h).items) (held c.vault)) ≡ length (after rules h).items = length_take (held c.vault) (length (after rules h).items) vault.some in
    let told = journal_spells (start rules) h (journal_of c) journal.records in
    let item = vault_spells (after rules h).items vs (items_front (after rules h).items (held c.vault) n vault.records) long in
    let cut : List ℕ = vault_mark ++ spelled_records (take (length (after rules h).items) (held c.vault)) ++ 0 ∷ [] in
    let log : Log vault_mark (take (length (after rules h).items) (held c.vault)) (vault_mark ++ spelled_records (take (length (after rules h).items) (held c.vault)) ++ 0 ∷ []) =
    record { eight = refl; bounded = bounded_front (held c.vault) n (held_bounded vault_mark c.vault vault.vault); gate = 0; closed = omega arith; tail = []; split = refl } in
    let same = (told_log vault_mark vs cut log).1 in
    let spell : Spell rules h (journal_of c) (take (length (after rules h).items) (held c.vault)) = record { entries = entries; heads = told.0; sizes = told.1; items = item.0; item_sizes = item.1 } in
    let beside : Areas = record { journal = c.journal; vault = cut } in
    let hold = holds_itself rules h beside legal (subst (Spell rules h (journal_of c)) (sym same) spell) in (
      payloads_in (after rules h) beside,
      record {
        legal = legal;
        journal = journal.journal;
        vault = vault.vault;
        one = vault.few;
        hold = subst (Hold rules h (payloads_in (after rules h) beside) (journal_of c)) same hold;
      },
    )

-- from what records spell to the records

put_few : (rules : RuleSet) (h : List Entry) (i : ℕ) (found : Option Logged) → AreEntries h → slice_get (after rules h).items i ≡ found → put_size (after rules h) found ≤ LARGEST_PAYLOAD
put_few rules h i None all is = omega arith
put_few rules h i (Some logged) all is = by_judgement (is_none (judged (after rules h) logged.item))
  where
    few : size_of logged.item ≤ LARGEST_PAYLOAD
    few = omega (arith, (made_bounded h logged.item all ((rows_made rules h).items i logged is)).size, same_item_size logged.item)

    by_judgement : (b : Bool) → cond b (size_of logged.item) 0 ≤ LARGEST_PAYLOAD
    by_judgement true = few
    by_judgement false = omega arith

carries : (rules : RuleSet) (h : List Entry) (w : What) (n : ℕ) → AreEntries h → n ≡ record_size (after rules h) w → HasPayload w n
carries rules h (Create tag type id size) n all is = is
carries rules h (Update tag id size) n all is = is
carries rules h (Link tag edge from to size) n all is = is
carries rules h (Unlink tag edge from to name) n all is = is
carries rules h (Delete tag id name) n all is = is
carries rules h (Restore tag job) n all is = is
carries rules h (Expire id) n all is = is
carries rules h (Cut job edge from to) n all is = is
carries rules h (Erase job id) n all is = is
carries rules h (Put job i) n all is = omega (arith, is, put_few rules h i (slice_get (after rules h).items i) all refl)
carries rules h (Purge job) n all is = is

push_entries : (es : List Entry) (e : Entry) → AreEntries es → IsEntry e → AreEntries (es ++ e ∷ [])
push_entries [] e all one = (one, tt)
push_entries (x ∷ es) e all one = (all.0, push_entries es e all.1 one)

records_of : (rules : RuleSet) (done es : List Entry) (rs : List Record) → AreEntries done → AreEntries es → is_legal_from (after rules done) es ≡ true →
    map head_in rs ≡ map entry_head es → map length_in rs ≡ record_sizes (after rules done) es → AreRecordsOf (after rules done) es rs
records_of rules done [] [] before all legal heads sizes = tt
records_of rules done [] (r ∷ rs) before all legal heads sizes = absurd (cc heads)
records_of rules done (e ∷ es) [] before all legal heads sizes = absurd (cc heads)
records_of rules done (e ∷ es) (r ∷ rs) before all legal heads sizes =
    let s = after rules done in
    let head : r.head ≡ entry_head e = cc heads in
    let other_heads : map head_in rs ≡ map entry_head es = cc heads in
    let size : length r.payload ≡ record_size (after rules done) e.what = cc sizes in
    let other_sizes : map length_in rs ≡ record_sizes (step (after rules done) e) es = cc sizes in
    let both = and_parts (is_legal (after rules done) e) (is_legal_from (step (after rules done) e) es) legal in
    let one : IsRecordOf (after rules done) e r = record { head = record { entry = all.0; payload = carries rules done e.what (length r.payload) before size; spelling = head }; line = both.0; size = size } in
    let next = after_push rules done e in
    let rest = records_of rules (done ++ e ∷ []) es rs (push_entries done e before all.0) all.1
    (ap (λ (x : State). is_legal_from x es) next ∙ both.1) other_heads (other_sizes ∙ ap (λ (x : State). record_sizes x es) (sym next)) in
    (one, subst (λ (x : State). AreRecordsOf x es rs) next rest)

pub stand_reads : (rules : RuleSet) (h : List Entry) (e : Payloads) (c : Areas) → StandBut rules h e c → ReadsJournal rules h c.journal
stand_reads rules h e c but = record {
  journal = but.journal;
  records = records_of rules [] h (journal_of c) tt but.hold.spell.entries but.legal but.hold.spell.heads but.hold.spell.sizes;
}
