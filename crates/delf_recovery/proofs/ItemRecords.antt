-- Records of the vault as items.
use Rattle.std.proofs.Common.{◌≡◌, ◌≢◌, ◌↔◌, ℕ, zero, suc, ◌+◌, ◌-◌, ◌<◌, ◌≤◌, Bool, true, false, List, [], ◌∷◌, ◌++◌, length, map, take, drop, Option, Some, None, IsTrue, refl, sym, ap, ◌∙◌, subst, arith, inl, inr, ◌⊎◌, length-append}
use Rattle.std.specs.Prelude.{slice_get}
use Rattle.std.proofs.lemmas.List.{drop-take, drop_at, map-append}
use Rattle.std.proofs.lemmas.Option.{same_Some}
use Rattle.delf_disk.specs.declared.area.Area.{Area}
use Rattle.delf_disk.specs.Areas.{Areas, area_of}
use Rattle.gate_log.specs.Records.{Record, head_of}
use Rattle.gate_log.specs.Logs.{Front}
use Rattle.gate_log.specs.Places.{size_in}
use Rattle.gate_log.specs.Steps.{FrontHeadRead}
use Rattle.entry_codec.specs.declared.limits.TheConstants.{TYPE_COUNT, LARGEST_PAYLOAD}
use Rattle.entry_codec.specs.Field.{spelled, AreFields}
use Rattle.entry_codec.specs.EntryHead.{AreEntries, IsEntry, what_fields, named_size}
use Rattle.entry_codec.specs.ItemHead.{IsItem, item_head, item_fields, item_size, IsTypeBounded}
use Rattle.delf_model.specs.declared.entry.Entry.{Entry}
use Rattle.delf_model.specs.declared.entry.Tag.{Tag}
use Rattle.delf_model.specs.declared.entry.What.{What}
use Rattle.delf_model.specs.declared.entry.What.TheVariants.{Create}
use Rattle.delf_model.specs.declared.rows.Item.{Item}
use Rattle.delf_model.specs.declared.rows.Item.TheVariants.{Object, Edge}
use Rattle.delf_model.specs.declared.rows.ObjectRow.{ObjectRow}
use Rattle.delf_model.specs.RuleSet.{RuleSet}
use Rattle.delf_model.specs.State.{State, Logged, size_of as size_of_item}
use Rattle.delf_model.specs.Step.{after}
use Rattle.birth_laws.specs.Made.{ItemMade, Gives, ByCreate, ByUpdate}
use Rattle.birth_laws.proofs.Rows.{rows_made}
use Rattle.job_table.specs.Table.{item_at}
use Rattle.delf_book.specs.Keeping.{item_sizes}
use Rattle.opening_laws.specs.Places.{IsRecordOfItem, AreRecordsOfItems}
use Rattle.delf_recovery.specs.Reading.{SpellsItem, IsItemThere, JudgesItem, ReadsItems, EndsUnspelled, record_at}
use Rattle.delf_recovery.proofs.Records.{sized_at, many_records, next_front, next_sizes}

-- the lengths of a head

fields_short : (it : Item) → length (spelled (item_fields it)) ≤ 34
fields_short (Object job row) = omega arith
fields_short (Edge job row from_birth to_birth) = omega arith

pub some_field : (it : Item) → 0 < length (spelled (item_fields it))
some_field it = omega arith

pub length-item_head : (it : Item) (seal : List ℕ) → length seal ≡ 32 → length (item_head it seal) ≡ length (spelled (item_fields it)) + 32
length-item_head it seal long = omega (arith, length-append (spelled (item_fields it)) seal, long)

-- a head that ends with its own last 32 bytes
pub own_seal : (front seal head : List ℕ) → length seal ≡ 32 → head ≡ front ++ seal → drop (length head - 32) head ≡ seal
own_seal front seal head long is =
    let place : length head - 32 ≡ length front = omega (arith, ap length is, length-append front seal, long) in
    ap (λ (k : ℕ). drop k head) place ∙ (ap (λ (l : List ℕ). drop (length front) l) is ∙ drop_at front seal (length front) refl)

-- the last 32 of the bytes that were read
pub seal_of_read : (buffer stored : List ℕ) (len : ℕ) → 32 ≤ len → length (take len buffer) ≡ len → stored ≡ take (len - (len - 32)) (drop (len - 32) buffer)
    → stored ≡ drop (length (take len buffer) - 32) (take len buffer)
seal_of_read buffer stored len enough long is =
    let whole : (len - 32) + (len - (len - 32)) ≡ len = omega arith in
    is ∙ (sym (drop-take (len - 32) (len - (len - 32)) buffer) ∙ (ap (λ (k : ℕ). drop (len - 32) (take k buffer)) whole ∙ ap (λ (k : ℕ). drop (k - 32) (take len buffer)) (sym long)))

module _ (plain : Type 0) (area : Area) (sizes : List (ℕ × ℕ)) (i : ℕ) (areas : Areas) (inside : i < length sizes) (it : Item) where
  -- lengths that are not the item's
  pub other_sizes : (128 < (size_in sizes i).0) ⊎ ((size_in sizes i).0 < 32) ⊎ ((size_in sizes i).1 ≢ item_size it) → JudgesItem plain area sizes i areas it false
  other_sizes why is mark rs sized front (seal, long, head, size) =
      by_length why
    where
      here : length (head_of rs i) ≡ (size_in sizes i).0
      here = (sized_at rs sizes i sized inside).head

      by_length : (128 < (size_in sizes i).0) ⊎ ((size_in sizes i).0 < 32) ⊎ ((size_in sizes i).1 ≢ item_size it) → ⊥
      by_length (inl many) = omega (arith, many, here, ap length head, length-item_head it seal long, fields_short it)
      by_length (inr (inl few)) = omega (arith, few, here, ap length head, length-item_head it seal long)
      by_length (inr (inr other)) = other (sym (sized_at rs sizes i sized inside).payload ∙ size)

  -- the head that was read, held against the item's with the digest that it ends with
  module _ (bytes seal wanted : List ℕ) (long : length bytes ≡ (size_in sizes i).0) (read : plain → FrontHeadRead area sizes i areas bytes) (size : (size_in sizes i).1 ≡ item_size it)
      (sealed : seal ≡ drop (length bytes - 32) bytes) (seal_long : length seal ≡ 32) (head : wanted ≡ item_head it seal) (item : IsItem it) where
    is_there : bytes ≡ wanted → IsItemThere plain area sizes i areas it
    is_there same =
        let of : bytes ≡ item_head it seal = same ∙ head in
        let first : (size_in sizes i).0 ≡ length (spelled (item_fields it)) + 32 = sym long ∙ (ap length of ∙ length-item_head it seal seal_long) in
        record {
          item = item;
          size = ap (λ (k : ℕ). (k, (size_in sizes i).1)) first ∙ ap (λ (k : ℕ). (length (spelled (item_fields it)) + 32, k)) size;
          read = λ is mark rs sized front. (seal, seal_long, sym (read is mark rs sized front) ∙ of, (sized_at rs sizes i sized inside).payload ∙ size);
        }

    is_not_there : (bytes ≡ wanted → ⊥) → JudgesItem plain area sizes i areas it false
    is_not_there apart is mark rs sized front (other, other_long, spelling, other_size) =
        let of : bytes ≡ item_head it other = read is mark rs sized front ∙ spelling in
        let same : seal ≡ other = sealed ∙ own_seal (spelled (item_fields it)) other bytes other_long of in
        apart (of ∙ (ap (item_head it) (sym same) ∙ sym head))

    pub judges_item : (same : Bool) → IsTrue same ↔ (bytes ≡ wanted) → JudgesItem plain area sizes i areas it same
    judges_item true tells = is_there (tells.0 refl)
    judges_item false tells = is_not_there (λ is. false_not (tells.1 is))
      where
        false_not : IsTrue false → ⊥
        false_not is = cc is

-- an item of a history of entries that have a spelling has a type and a size within their bounds

entry_there : (h : List Entry) (p : ℕ) (e : Entry) → AreEntries h → slice_get h p ≡ Some e → IsEntry e
entry_there [] p e all there = absurd (cc there)
entry_there (x ∷ h) zero e all there = subst IsEntry (same_Some x e there) all.0
entry_there (x ∷ h) (suc p) e all there = entry_there h p e all.1 there

pub record IsBounded (it : Item) : Type 0 where
  pub types : IsTypeBounded it
  pub size : item_size it ≤ LARGEST_PAYLOAD

create_kind : (e : Entry) (tag : Tag) (kind id size : ℕ) → IsEntry e → e.what ≡ Create tag kind id size → kind < TYPE_COUNT
create_kind e tag kind id size entry is = let f = subst (λ (w : What). AreFields (what_fields w)) is entry.fields.1.1 in f.1.1.0

given_size : (h : List Entry) (row : ObjectRow) (e : Entry) → IsEntry e → Gives row e.what → row.size ≤ LARGEST_PAYLOAD
given_size h row e entry (ByCreate tag is) = subst (λ (w : What). named_size w ≤ LARGEST_PAYLOAD) is entry.size
given_size h row e entry (ByUpdate tag is) = subst (λ (w : What). named_size w ≤ LARGEST_PAYLOAD) is entry.size

pub made_bounded : (h : List Entry) (it : Item) → AreEntries h → ItemMade h it → IsBounded it
made_bounded h (Object job row) all made =
    let born = made.born in
    let given = made.given in
    record {
      types = create_kind born.entry born.tag row.kind row.id born.size (entry_there h row.birth born.entry all born.there) born.creates;
      size = given_size h row given.entry (entry_there h row.at given.entry all given.there) given.gives;
    }
made_bounded h (Edge job row from_birth to_birth) all made =
    let entry = entry_there h row.birth made.entry all made.there in
    record {
      types = tt;
      size = subst (λ (w : What). named_size w ≤ LARGEST_PAYLOAD) made.links entry.size;
    }

-- the item with a number

pub record Found (items : List Logged) (i : ℕ) (it : Item) : Type 0 where
  pub logged : Logged
  pub there : slice_get items i ≡ Some logged
  pub same : logged.item ≡ it

pub found : (s : State) (i : ℕ) (it : Item) → item_at s i ≡ Some it → Found s.items i it
found s i it is = by_found (slice_get s.items i) refl
  where
    by_found : (o : Option Logged) → slice_get s.items i ≡ o → Found s.items i it
    by_found None none = absurd (let e : None ≡ Some it = rw none at is in cc e)
    by_found (Some logged) there = record { logged = logged; there = there; same = let e : Some logged.item ≡ Some it = rw there at is in same_Some logged.item it e }

pub none_found : (s : State) (i : ℕ) → item_at s i ≡ None → slice_get s.items i ≡ None
none_found s i is = by_found (slice_get s.items i) refl
  where
    by_found : (o : Option Logged) → slice_get s.items i ≡ o → slice_get s.items i ≡ None
    by_found None none = none
    by_found (Some logged) there = absurd (let e : Some logged.item ≡ None = rw there at is in cc e)

pub found_bounded : (rules : RuleSet) (h : List Entry) (i : ℕ) (it : Item) → AreEntries h → item_at (after rules h) i ≡ Some it → IsBounded it
found_bounded rules h i it all is =
    let f = found (after rules h) i it is in
    subst IsBounded f.same (made_bounded h f.logged.item all ((rows_made rules h).items i f.logged f.there))

-- one item more

pub item_inside : (items : List Logged) (i : ℕ) (x : Logged) → slice_get items i ≡ Some x → i < length items
item_inside [] i x there = absurd (cc there)
item_inside (y ∷ items) zero x there = omega arith
item_inside (y ∷ items) (suc i) x there = omega (arith, item_inside items i x there)

pub none_inside : (items : List Logged) (i : ℕ) → slice_get items i ≡ None → length items ≤ i
none_inside [] i none = omega arith
none_inside (y ∷ items) zero none = absurd (cc none)
none_inside (y ∷ items) (suc i) none = omega (arith, none_inside items i none)

items_suc : (items : List Logged) (i : ℕ) (x : Logged) → slice_get items i ≡ Some x → take (suc i) items ≡ take i items ++ x ∷ []
items_suc [] i x there = absurd (cc there)
items_suc (y ∷ items) zero x there = ap (λ (z : Logged). z ∷ []) (same_Some y x there)
items_suc (y ∷ items) (suc i) x there = ap (λ (l : List Logged). y ∷ l) (items_suc items i x there)

pub none_held : (items : List Logged) → AreRecordsOfItems items []
none_held [] = tt
none_held (x ∷ items) = tt

records_push : (items : List Logged) (rs : List Record) (x : Logged) (r : Record) → AreRecordsOfItems items rs → slice_get items (length rs) ≡ Some x → IsRecordOfItem x r → AreRecordsOfItems items (rs ++ r ∷ [])
records_push [] rs x r all there one = absurd (cc there)
records_push (y ∷ items) [] x r all there one = (subst (λ (l : Logged). IsRecordOfItem l r) (sym (same_Some y x there)) one, none_held items)
records_push (y ∷ items) (q ∷ rs) x r all there one = (all.0, records_push items rs x r all.1 there one)

pub same_item_size : (it : Item) → size_of_item it ≡ item_size it
same_item_size (Object job row) = refl
same_item_size (Edge job row from_birth to_birth) = refl

spells_record : (logged : Logged) (r : Record) → IsItem logged.item → SpellsItem logged.item r → IsRecordOfItem logged r
spells_record logged r item (seal, long, head, size) = record { seal = seal; head = record { item = item; payload = size; digest_length = long; spelling = head } }

pub length_take : (rs : List Record) (i : ℕ) → i ≤ length rs → length (take i rs) ≡ i
length_take [] zero inside = refl
length_take [] (suc i) inside = absurd (omega arith)
length_take (r ∷ rs) zero inside = refl
length_take (r ∷ rs) (suc i) inside = ap suc (length_take rs i (omega arith))

module _ (plain now : Type 0) (area : Area) (sizes : List (ℕ × ℕ)) (i : ℕ) (areas areas_now : Areas) (s : State) (it : Item) (still : plain → now) (same : plain → areas_now ≡ areas)
    (inside : i < length sizes) (is : item_at s i ≡ Some it) (told : Bool) (judged : JudgesItem now area sizes i areas_now it told) where
  pub more_items : told ≡ true → ReadsItems plain area sizes areas s.items i → ReadsItems plain area sizes areas s.items (i + 1)
  more_items is_told so_far =
      let there = subst (JudgesItem now area sizes i areas_now it) is_told judged in
      more (found s i it is) there
    where
      more : Found s.items i it → IsItemThere now area sizes i areas_now it → ReadsItems plain area sizes areas s.items (i + 1)
      more f there =
          let one_more : i + 1 ≡ suc i = omega arith in
          let taken : take (i + 1) s.items ≡ take i s.items ++ f.logged ∷ [] = ap (λ (k : ℕ). take k s.items) one_more ∙ items_suc s.items i f.logged f.there in
          let sized_one : size_in sizes i ≡ item_sizes f.logged =
          there.size ∙ (ap (λ (x : Item). (length (spelled (item_fields x)) + 32, item_size x)) (sym f.same) ∙
          ap (λ (k : ℕ). (length (spelled (item_fields f.logged.item)) + 32, k)) (sym (same_item_size f.logged.item))) in
          record {
            few = omega (arith, inside);
            some = omega (arith, item_inside s.items i f.logged f.there);
            sized = next_sizes sizes i inside ∙ (ap (λ (l : List (ℕ × ℕ)). l ++ size_in sizes i ∷ []) so_far.sized ∙
                (ap (λ (x : ℕ × ℕ). map item_sizes (take i s.items) ++ x ∷ []) sized_one ∙
                (sym (map-append item_sizes (take i s.items) (f.logged ∷ [])) ∙ ap (map item_sizes) (sym taken))));
            read = λ holds mark rs sized front.
                let many = many_records rs sizes sized in
                let front_now = subst (λ (x : Areas). Front mark rs (area_of area x)) (sym (same holds)) front in
                let of : IsRecordOfItem f.logged (record_at rs i) =
                spells_record f.logged (record_at rs i) (subst IsItem (sym f.same) there.item) (subst (λ (x : Item). SpellsItem x (record_at rs i)) (sym f.same) (there.read (still holds) mark rs sized front_now)) in
                let place : slice_get s.items (length (take i rs)) ≡ Some f.logged = ap (slice_get s.items) (length_take rs i (omega (arith, inside, many))) ∙ f.there in
                subst (AreRecordsOfItems s.items) (sym (next_front rs i (omega (arith, inside, many))))
                (records_push s.items (take i rs) f.logged (record_at rs i) (so_far.read holds mark rs sized front) place of);
          }

  pub ends_unspelled : told ≡ false → EndsUnspelled plain area sizes areas s.items i
  ends_unspelled is_told within logged there holds mark rs sized front spells =
      let f = found s i it is in
      let one : f.logged ≡ logged = same_Some f.logged logged (sym f.there ∙ there) in
      let item : logged.item ≡ it = ap (λ (x : Logged). x.item) (sym one) ∙ f.same in
      let front_now = subst (λ (x : Areas). Front mark rs (area_of area x)) (sym (same holds)) front in
      let none = subst (JudgesItem now area sizes i areas_now it) is_told judged in
      none (still holds) mark rs sized front_now (subst (λ (x : Item). SpellsItem x (record_at rs i)) item spells)

pub ends_there : (plain : Type 0) (area : Area) (sizes : List (ℕ × ℕ)) (i : ℕ) (areas : Areas) (s : State) → item_at s i ≡ None → EndsUnspelled plain area sizes areas s.items i
ends_there plain area sizes i areas s none within logged there = absurd (let e = none_found s i none in let clash : None ≡ Some logged = sym e ∙ there in cc clash)

pub reads_none : (plain : Type 0) (area : Area) (sizes : List (ℕ × ℕ)) (areas : Areas) (items : List Logged) → ReadsItems plain area sizes areas items 0
reads_none plain area sizes areas items = record {
  few = omega arith;
  some = omega arith;
  sized = no_sizes sizes ∙ ap (map item_sizes) (sym (no_items items));
  read = λ is mark rs sized front. subst (AreRecordsOfItems items) (sym (no_records rs)) (none_held items);
}
  where
    no_sizes : (l : List (ℕ × ℕ)) → take 0 l ≡ []
    no_sizes [] = refl
    no_sizes (x ∷ l) = refl

    no_items : (l : List Logged) → take 0 l ≡ []
    no_items [] = refl
    no_items (x ∷ l) = refl

    no_records : (l : List Record) → take 0 l ≡ []
    no_records [] = refl
    no_records (x ∷ l) = refl
