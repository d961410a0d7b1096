-- The lengths of the records of a history.
use Rattle.std.proofs.Common.{◌≡◌, ℕ, suc, ◌+◌, ◌-◌, ◌<◌, List, [], ◌∷◌, ◌++◌, length, take, drop, None, refl, sym, ap, ◌∙◌, subst, arith, length-append, length-drop, append-nil}
use Rattle.std.specs.Prelude.{map}
use Rattle.std.proofs.lemmas.List.{map-append}
use Rattle.delf_disk.specs.Areas.{Areas}
use Rattle.delf_disk.specs.declared.area.Area.{Area}
use Rattle.delf_disk.specs.declared.area.Area.TheVariants as area
use Rattle.gate_log.specs.Records.{Record, size_of}
use Rattle.gate_log.specs.Logs.{Stands, StandIn}
use Rattle.gate_log.specs.View.{LogView}
use Rattle.entry_codec.specs.EntryHead.{entry_head}
use Rattle.entry_codec.specs.ItemHead.{item_head, item_fields}
use Rattle.entry_codec.specs.Field.{spelled}
use Rattle.delf_model.specs.declared.entry.Entry.{Entry}
use Rattle.delf_model.specs.declared.entry.What.{What}
use Rattle.delf_model.specs.declared.rows.Item.{Item}
use Rattle.delf_model.specs.RuleSet.{RuleSet}
use Rattle.delf_model.specs.State.{State, Logged, start}
use Rattle.delf_model.specs.Step.{step, run, after, items_after}
use Rattle.delf_model.specs.Payloads.{Payloads}
use Rattle.delf_model.proofs.Runs.{after_push}
use Rattle.payload_laws.specs.Holders.{record_size, position_taken}
use Rattle.store_laws.specs.Stores.{Rest, head_in, length_in, seal_in, seals_of, item_heads, logged_size, record_sizes, journal_of, vault_of}
use Rattle.store_laws.specs.Moves.{RestIn, new_items}
use Rattle.store_laws.proofs.Appends.{journal_stands, vault_stands}
use Rattle.store_laws.proofs.Items.{item_in, kept_items, new_none, items_split}
use Rattle.delf_book.specs.Keeping.{journal_sizes, item_sizes, KeepsLogs}

pub journal_sizes-push : (s : State) (es : List Entry) (e : Entry) → journal_sizes s (es ++ e ∷ []) ≡ journal_sizes s es ++ (length (entry_head e), record_size (run s es) e.what) ∷ []
journal_sizes-push s [] e = refl
journal_sizes-push s (x ∷ xs) e = ap (λ (l : List (ℕ × ℕ)). (length (entry_head x), record_size s x.what) ∷ l) (journal_sizes-push (step s x) xs e)

pub length_journal_sizes : (s : State) (es : List Entry) → length (journal_sizes s es) ≡ length es
length_journal_sizes s [] = refl
length_journal_sizes s (e ∷ es) = ap (λ (n : ℕ). suc n) (length_journal_sizes (step s e) es)

journal_sized : (js : List Record) (s : State) (es : List Entry) → map head_in js ≡ map entry_head es → map length_in js ≡ record_sizes s es → map size_of js ≡ journal_sizes s es
journal_sized [] s [] heads sizes = refl
journal_sized [] s (e ∷ es) heads sizes = absurd (cc sizes)
journal_sized (j ∷ js) s [] heads sizes = absurd (cc sizes)
journal_sized (j ∷ js) s (e ∷ es) heads sizes =
    let h : j.head ≡ entry_head e = cc heads in
    let hs : map head_in js ≡ map entry_head es = cc heads in
    let z : length j.payload ≡ record_size s e.what = cc sizes in
    let zs : map length_in js ≡ record_sizes (step s e) es = cc sizes in
    ap (λ (l : List (ℕ × ℕ)). (length j.head, length j.payload) ∷ l) (journal_sized js (step s e) es hs zs) ∙
    (ap (λ (l : List ℕ). (length l, length j.payload) ∷ journal_sizes (step s e) es) h ∙ ap (λ (n : ℕ). (length (entry_head e), n) ∷ journal_sizes (step s e) es) z)

-- a head that ends with its own last 32 bytes has 32 more than what stands before them
sealed_length : (front head : List ℕ) → 0 < length front → head ≡ front ++ drop (length head - 32) head → length head ≡ length front + 32
sealed_length front head some is =
    omega (arith, some, ap length is, length-append front (drop (length head - 32) head), length-drop (length head - 32) head)

some_field : (it : Item) → 0 < length (spelled (item_fields it))
some_field it = omega arith

vault_sized : (vs : List Record) (xs : List Logged) → map head_in vs ≡ item_heads xs (seals_of vs) → map length_in vs ≡ map logged_size xs → map size_of vs ≡ map item_sizes xs
vault_sized [] [] heads sizes = refl
vault_sized [] (x ∷ xs) heads sizes = absurd (cc sizes)
vault_sized (v ∷ vs) [] heads sizes = absurd (cc sizes)
vault_sized (v ∷ vs) (x ∷ xs) heads sizes =
    let h : v.head ≡ item_head x.item (seal_in v) = cc heads in
    let hs : map head_in vs ≡ item_heads xs (seals_of vs) = cc heads in
    let z : length v.payload ≡ logged_size x = cc sizes in
    let zs : map length_in vs ≡ map logged_size xs = cc sizes in
    let long : length v.head ≡ length (spelled (item_fields x.item)) + 32 = sealed_length (spelled (item_fields x.item)) v.head (some_field x.item) h in
    ap (λ (l : List (ℕ × ℕ)). (length v.head, length v.payload) ∷ l) (vault_sized vs xs hs zs) ∙
    (ap (λ (n : ℕ). (n, length v.payload) ∷ map item_sizes xs) long ∙ ap (λ (n : ℕ). (length (spelled (item_fields x.item)) + 32, n) ∷ map item_sizes xs) z)

-- the logs of a history stand in areas that rest

pub journal_rests : (rules : RuleSet) (h : List Entry) (c : Areas) → Rest rules h c → Stands area.Journal (journal_sizes (start rules) h) c
journal_rests rules h c rest =
    subst (λ (l : List (ℕ × ℕ)). Stands area.Journal l c) (journal_sized (journal_of c) (start rules) h rest.spell.heads rest.spell.sizes) (journal_stands c rest.journal)

pub vault_rests : (rules : RuleSet) (h : List Entry) (c : Areas) → Rest rules h c → Stands area.Vault (map item_sizes (after rules h).items) c
vault_rests rules h c rest =
    subst (λ (l : List (ℕ × ℕ)). Stands area.Vault l c) (vault_sized (vault_of c) (after rules h).items rest.spell.items rest.spell.item_sizes) (vault_stands c rest.vault)

module _ (rules : RuleSet) (h : List Entry) (journal vault : LogView) (images : Areas → Type 0) (logs : KeepsLogs rules h journal vault) (e : Payloads) (rests : RestIn rules h e images) where
  pub journal_in : StandIn journal.area journal.sizes images
  journal_in c image =
      subst (λ (a : Area). Stands a journal.sizes c) (sym logs.journal_area)
      (subst (λ (l : List (ℕ × ℕ)). Stands area.Journal l c) (sym logs.journal_is) (journal_rests rules h c (rests c image).0))

  pub vault_in : StandIn vault.area vault.sizes images
  vault_in c image =
      subst (λ (a : Area). Stands a vault.sizes c) (sym logs.vault_area)
      (subst (λ (l : List (ℕ × ℕ)). Stands area.Vault l c) (sym logs.vault_is) (vault_rests rules h c (rests c image).0))

-- sizes read the items alone
item_sizes_same : (xs ys : List Logged) → map item_in xs ≡ map item_in ys → map item_sizes xs ≡ map item_sizes ys
item_sizes_same [] [] same = refl
item_sizes_same [] (y ∷ ys) same = absurd (cc same)
item_sizes_same (x ∷ xs) [] same = absurd (cc same)
item_sizes_same (x ∷ xs) (y ∷ ys) same =
    let first : x.item ≡ y.item = cc same in
    let rest : map item_in xs ≡ map item_in ys = cc same in
    ap (λ (it : Item). item_sizes (record { item = it; handled = None }) ∷ map item_sizes xs) first ∙
    ap (λ (l : List (ℕ × ℕ)). item_sizes y ∷ l) (item_sizes_same xs ys rest)

pub sizes_after : (s : State) (w : What) → map item_sizes (items_after s w) ≡ map item_sizes s.items ++ map item_sizes (new_items s w)
sizes_after s w =
    ap (map item_sizes) (items_split s w) ∙ (map-append item_sizes (take (length s.items) (items_after s w)) (new_items s w) ∙
    ap (λ (l : List (ℕ × ℕ)). l ++ map item_sizes (new_items s w)) (item_sizes_same (take (length s.items) (items_after s w)) s.items (kept_items s w)))

pub sizes_kept : (s : State) (w : What) → position_taken s w ≡ None → map item_sizes (items_after s w) ≡ map item_sizes s.items
sizes_kept s w none =
    sizes_after s w ∙ (ap (λ (l : List Logged). map item_sizes s.items ++ map item_sizes l) (new_none s w none) ∙ append-nil (map item_sizes s.items))

-- the logs of the longer history
module _ (rules : RuleSet) (h : List Entry) (entry : Entry) (journal vault next_journal next_vault : LogView) (logs : KeepsLogs rules h journal vault)
    (journal_same : next_journal.area ≡ journal.area) (vault_same : next_vault.area ≡ vault.area)
    (n : ℕ) (size : n ≡ record_size (after rules h) entry.what)
    (one_more : next_journal.sizes ≡ journal.sizes ++ (length (entry_head entry), n) ∷ []) where
  abbrev longer : List Entry
  longer = h ++ entry ∷ []

  journal_longer : next_journal.sizes ≡ journal_sizes (start rules) longer
  journal_longer =
      one_more ∙ (ap (λ (l : List (ℕ × ℕ)). l ++ (length (entry_head entry), n) ∷ []) logs.journal_is ∙
      (ap (λ (k : ℕ). journal_sizes (start rules) h ++ (length (entry_head entry), k) ∷ []) size ∙ sym (journal_sizes-push (start rules) h entry)))

  pub logs_longer : next_vault.sizes ≡ vault.sizes → position_taken (after rules h) entry.what ≡ None → KeepsLogs rules longer next_journal next_vault
  logs_longer same none = record {
    journal_area = journal_same ∙ logs.journal_area;
    vault_area = vault_same ∙ logs.vault_area;
    journal_is = journal_longer;
    vault_is = same ∙ (logs.vault_is ∙ (sym (sizes_kept (after rules h) entry.what none) ∙ ap (λ (s : State). map item_sizes s.items) (sym (after_push rules h entry))));
  }

  pub logs_taken : (item : ℕ × ℕ) → next_vault.sizes ≡ vault.sizes ++ item ∷ [] → map item_sizes (new_items (after rules h) entry.what) ≡ item ∷ [] → KeepsLogs rules longer next_journal next_vault
  logs_taken item added is = record {
    journal_area = journal_same ∙ logs.journal_area;
    vault_area = vault_same ∙ logs.vault_area;
    journal_is = journal_longer;
    vault_is =
        added ∙ (ap (λ (l : List (ℕ × ℕ)). l ++ item ∷ []) logs.vault_is ∙ (ap (λ (l : List (ℕ × ℕ)). map item_sizes (after rules h).items ++ l) (sym is) ∙
        (sym (sizes_after (after rules h) entry.what) ∙ ap (λ (s : State). map item_sizes s.items) (sym (after_push rules h entry)))));
  }
