-- Areas stand for one history.
use Rattle.std.proofs.Common.{◌≡◌, ℕ, ◌≤◌, Bool, true, false, List, [], ◌∷◌, refl, sym, ap, ◌∙◌, subst, arith}
use Rattle.std.proofs.lemmas.Bool.{false≢true}
use Rattle.std.specs.Prelude.{map}
use Rattle.delf_disk.specs.Areas.{Areas}
use Rattle.delf_model.specs.declared.entry.Entry.{Entry}
use Rattle.delf_model.specs.declared.entry.What.{What}
use Rattle.delf_model.specs.declared.entry.What.TheVariants.{Create, Update, Link, Unlink, Delete, Restore, Expire, Cut, Erase, Put, Purge}
use Rattle.delf_model.specs.RuleSet.{RuleSet}
use Rattle.delf_model.specs.State.{State, start}
use Rattle.delf_model.specs.Step.{step, after}
use Rattle.delf_model.specs.Payloads.{Payloads, payload_at, is_needed, bytes_of_pair}
use Rattle.entry_codec.specs.EntryHead.{entry_head, named_size, HasPayload, IsEntry, AreEntries}
use Rattle.entry_codec.specs.declared.limits.TheConstants.{LARGEST_PAYLOAD}
use Rattle.entry_codec.proofs.Entries.{one_entry}
use Rattle.payload_laws.specs.Holders.{record_size}
use Rattle.store_laws.specs.Stores.{StandBut, record_sizes}
use Rattle.opening_laws.specs.Entries.{SamePayloads}

abbrev is_put : What → Bool
is_put (Put job i) = true
is_put what = false

own_payload : (w : What) → HasPayload w (named_size w)
own_payload (Create tag type id size) = refl
own_payload (Update tag id size) = refl
own_payload (Link tag edge from to size) = refl
own_payload (Unlink tag edge from to name) = refl
own_payload (Delete tag id name) = refl
own_payload (Restore tag job) = refl
own_payload (Expire id) = refl
own_payload (Cut job edge from to) = refl
own_payload (Erase job id) = refl
own_payload (Put job i) = omega arith
own_payload (Purge job) = refl

put_payload : (w : What) (n : ℕ) → is_put w ≡ true → n ≤ LARGEST_PAYLOAD → HasPayload w n
put_payload (Put job i) n put few = few
put_payload w n put few = absurd (false≢true put)

named_record : (s : State) (w : What) → is_put w ≡ false → record_size s w ≡ named_size w
named_record s (Put job i) put = absurd (false≢true (sym put))
named_record s w put = refl

-- two entries of one head whose records have payloads of one size
module _ (s : State) (a b : Entry) (first : IsEntry a) (second : IsEntry b) (heads : entry_head a ≡ entry_head b) (sizes : record_size s a.what ≡ record_size s b.what) where
  with_size : (n : ℕ) → HasPayload a.what n → HasPayload b.what n → a ≡ b
  with_size n one two =
      one_entry a b (entry_head a) n (record { entry = first; payload = one; spelling = refl }) (record { entry = second; payload = two; spelling = heads })

  by_kind : (k j : Bool) → is_put a.what ≡ k → is_put b.what ≡ j → a ≡ b
  by_kind true j put any = with_size (named_size b.what) (put_payload a.what (named_size b.what) put second.size) (own_payload b.what)
  by_kind false true none put = with_size (named_size a.what) (own_payload a.what) (put_payload b.what (named_size a.what) put first.size)
  by_kind false false none nor =
      with_size (named_size a.what) (own_payload a.what)
      (subst (HasPayload b.what) (sym (named_record s b.what nor) ∙ (sym sizes ∙ named_record s a.what none)) (own_payload b.what))

  same_entry : a ≡ b
  same_entry = by_kind (is_put a.what) (is_put b.what) refl refl

same_entries : (s : State) (h g : List Entry) → AreEntries h → AreEntries g → map entry_head h ≡ map entry_head g → record_sizes s h ≡ record_sizes s g → h ≡ g
same_entries s [] [] one two heads sizes = refl
same_entries s [] (b ∷ g) one two heads sizes = absurd (cc heads)
same_entries s (a ∷ h) [] one two heads sizes = absurd (cc heads)
same_entries s (a ∷ h) (b ∷ g) one two heads sizes =
    let head : entry_head a ≡ entry_head b = cc heads in
    let rest_heads : map entry_head h ≡ map entry_head g = cc heads in
    let size : record_size s a.what ≡ record_size s b.what = cc sizes in
    let rest_sizes : record_sizes (step s a) h ≡ record_sizes (step s b) g = cc sizes in
    let first : a ≡ b = same_entry s a b one.0 two.0 head size in
    let rest : h ≡ g = same_entries (step s a) h g one.1 two.1 rest_heads (rest_sizes ∙ ap (λ (x : Entry). record_sizes (step s x) g) (sym first)) in
    ap (λ (x : Entry). x ∷ h) first ∙ ap (λ (l : List Entry). b ∷ l) rest

pub one_history : (rules : RuleSet) (h g : List Entry) (d e : Payloads) (c : Areas) → StandBut rules h d c → StandBut rules g e c → h ≡ g
one_history rules h g d e c one two =
    same_entries (start rules) h g one.hold.spell.entries two.hold.spell.entries (sym one.hold.spell.heads ∙ two.hold.spell.heads) (sym one.hold.spell.sizes ∙ two.hold.spell.sizes)

pub one_payloads : (rules : RuleSet) (h : List Entry) (d e : Payloads) (c : Areas) → StandBut rules h d c → StandBut rules h e c → SamePayloads d e
one_payloads rules h d e c one two = record {
  bytes = λ p. by_need p (is_needed (after rules h) p) refl;
  seals = sym one.hold.seals ∙ two.hold.seals;
}
  where
    by_need : (p : ℕ) (b : Bool) → is_needed (after rules h) p ≡ b → payload_at d p ≡ payload_at e p
    by_need p true needed = sym (one.hold.reads p needed) ∙ two.hold.reads p needed
    by_need p false unneeded = ap bytes_of_pair (one.hold.alone p unneeded ∙ sym (two.hold.alone p unneeded))
