-- What is read behind the kind of an item, and the item as a whole.
use Rattle.std.proofs.Common.{◌≡◌, ℕ, ◌<◌, ◌≤◌, List, [], ◌∷◌, ◌++◌, length, get_or, Option, Some, None, refl, sym, ap, ◌∙◌, append_assoc, arith}
use Rattle.std.specs.Prelude.{IfSome, IfNone}
use Rattle.std.specs.Int.{w8, to_be_bytes}
use Rattle.std.proofs.lemmas.List.{append-nil}
use Rattle.delf_model.specs.declared.rows.EdgeKey.{EdgeKey}
use Rattle.delf_model.specs.declared.rows.EdgeRow.{EdgeRow}
use Rattle.delf_model.specs.declared.rows.ObjectRow.{ObjectRow}
use Rattle.delf_model.specs.declared.rows.Item.{Item}
use Rattle.delf_model.specs.declared.rows.Item.TheVariants.{Object, Edge}
use Rattle.entry_codec.specs.declared.limits.TheConstants.{LARGEST_PAYLOAD}
use Rattle.entry_codec.specs.Field.{Kind, Field, spelled}
use Rattle.entry_codec.specs.ItemHead.{item_kind, row_fields, item_head, item_size, IsItem, IsRowHead, IsItemHead}
use Rattle.entry_codec.specs.Reading.{number_at, fields_at, item_sorts, ReadsRow, IsRowRead, IsItemRead}
use Rattle.entry_codec.proofs.Fields.{IsBytes, sorts, some_parts, number_takes, number_again, fields_take, fields_again, number_prefix, spelled_prefix, number_of}

sorts-row_fields : (i : Item) → sorts (row_fields i) ≡ item_sorts (item_kind i)
sorts-row_fields (Object job row) = refl
sorts-row_fields (Edge job row from_birth to_birth) = refl

-- fields that are there are read
row_again : (i : Item) (digest : List ℕ) (kind : ℕ) (bytes : List ℕ) (size : ℕ) → IsRowHead i digest kind bytes size → fields_at 32 (item_sorts kind) bytes ≡ Some (row_fields i, digest)
row_again i digest kind bytes size h =
    let again : fields_at 32 (sorts (row_fields i)) (spelled (row_fields i) ++ digest) ≡ Some (row_fields i, digest) = fields_again (row_fields i) digest 32 h.fields h.digest_length in
    let same_sorts : item_sorts kind ≡ sorts (row_fields i) = ap item_sorts (sym h.same_kind) ∙ sym (sorts-row_fields i) in
    ap (λ (t : List ℕ). fields_at 32 (item_sorts kind) t) h.spelling ∙ ap (λ ss. fields_at 32 ss (spelled (row_fields i) ++ digest)) same_sorts ∙ again

-- what a reader of one kind finds is all that the bytes can spell
pub row_read : (kind at : ℕ) (bytes : List ℕ) (size : ℕ) (r : Option (Item × List ℕ)) → IsBytes bytes → size ≤ LARGEST_PAYLOAD → at ≡ kind → ReadsRow kind bytes size r → IsRowRead at bytes size r
row_read kind at bytes size None fits le e h = λ i digest head.
    let again = row_again i digest at bytes size head in
    let none : fields_at 32 (item_sorts at) bytes ≡ None = ap (λ k. fields_at 32 (item_sorts k) bytes) e ∙ h in
    absurd cc
row_read kind at bytes size (Some found) fits le e h =
    let taken = fields_take 32 (item_sorts kind) bytes (row_fields found.0, found.1) fits h.2 in
    record {
      same_kind = h.0 ∙ sym e;
      fields = taken.1;
      bounded = omega (arith, h.1);
      payload = sym h.1;
      digest_length = taken.2;
      spelling = taken.0.parts;
    }

-- ---- the item

pub large_payload : (size : ℕ) (head : List ℕ) → LARGEST_PAYLOAD < size → (i : Item) (digest : List ℕ) → IsItemHead i digest head size → ⊥
large_payload size head lt i digest h = omega (arith, h.item.size, h.payload)

kind_again : (i : Item) (digest head : List ℕ) (size : ℕ) → IsItemHead i digest head size → number_at Kind head ≡ Some (item_kind i, spelled (row_fields i) ++ digest)
kind_again i digest head size h =
    ap (number_at Kind) (h.spelling ∙ append_assoc (to_be_bytes w8 (item_kind i)) (spelled (row_fields i)) digest) ∙ number_again Kind (item_kind i) (spelled (row_fields i) ++ digest) h.item.fields.0

pub no_kind : (head : List ℕ) (size : ℕ) → number_at Kind head ≡ None → (i : Item) (digest : List ℕ) → IsItemHead i digest head size → ⊥
no_kind head size none i digest h = let again = kind_again i digest head size h in cc

item_from_row : (head : List ℕ) (size kind : ℕ) (bytes : List ℕ) (i : Item) (digest : List ℕ) → IsBytes head → number_at Kind head ≡ Some (kind, bytes) → IsRowHead i digest kind bytes size → IsItemHead i digest head size
item_from_row head size kind bytes i digest fits first h =
    let a = number_takes Kind head (kind, bytes) fits first in
    let parts : head ≡ to_be_bytes w8 (item_kind i) ++ (spelled (row_fields i) ++ digest) =
    a.0.parts ∙ ap (λ (t : List ℕ). to_be_bytes w8 kind ++ t) h.spelling ∙ ap (λ (k : ℕ). to_be_bytes w8 k ++ (spelled (row_fields i) ++ digest)) (sym h.same_kind) in
    record {
      item = record { fields = (omega (arith, a.1, h.same_kind), h.fields); size = h.bounded };
      payload = h.payload;
      digest_length = h.digest_length;
      spelling = parts ∙ sym (append_assoc (to_be_bytes w8 (item_kind i)) (spelled (row_fields i)) digest);
    }

row_from_item : (head : List ℕ) (size kind : ℕ) (bytes : List ℕ) (i : Item) (digest : List ℕ) → number_at Kind head ≡ Some (kind, bytes) → IsItemHead i digest head size → IsRowHead i digest kind bytes size
row_from_item head size kind bytes i digest first h =
    let again = kind_again i digest head size h in
    let parts = some_parts (kind, bytes) (item_kind i, spelled (row_fields i) ++ digest) (sym first ∙ again) in
    record {
      same_kind = sym parts.0;
      fields = h.item.fields.1;
      bounded = h.item.size;
      payload = h.payload;
      digest_length = h.digest_length;
      spelling = parts.1;
    }

pub item_read : (head : List ℕ) (size kind : ℕ) (bytes : List ℕ) (r : Option (Item × List ℕ)) → IsBytes head → number_at Kind head ≡ Some (kind, bytes) → IsRowRead kind bytes size r → IsItemRead head size r
item_read head size kind bytes None fits first none = λ i digest h. none i digest (row_from_item head size kind bytes i digest first h)
item_read head size kind bytes (Some found) fits first h = item_from_row head size kind bytes found.0 found.1 fits first h

-- ---- one spelling

-- an item, by its kind, its fields and the size of its payload
remade : ℕ → List Field → ℕ → Item
remade kind fs size =
    let n : ℕ → ℕ = number_of fs in
    let object : ObjectRow = record { id = n 1; kind = n 2; birth = n 3; due = n 4; at = n 5; size = size } in
    let key : EdgeKey = record { edge = n 1; from = n 2; to = n 3 } in
    let edge : EdgeRow = record { key = key; birth = n 4; size = size } in
    get_or (Object 0 object ∷ Object (n 0) object ∷ Edge (n 0) edge (n 5) (n 6) ∷ []) kind (Object 0 object)

remade-fields : (i : Item) (size : ℕ) → size ≡ item_size i → remade (item_kind i) (row_fields i) size ≡ i
unfolding remade
remade-fields (Object job row) n h = ap (λ (t : ℕ). Object job (record row { size = t })) h
remade-fields (Edge job row from_birth to_birth) n h = ap (λ (t : ℕ). Edge job (record row { size = t }) from_birth to_birth) h

pub record SameItemHead (a b : Item) (c d x y : List ℕ) : Type 0 where
  pub kind : item_kind a ≡ item_kind b
  pub fields : row_fields a ≡ row_fields b
  pub digest : c ≡ d
  pub after : x ≡ y

-- equal fronts of one length
fronts : (c d x y : List ℕ) → length c ≡ length d → c ++ x ≡ d ++ y → (c ≡ d) × (x ≡ y)
fronts [] [] x y len e = (refl, e)
fronts [] (w ∷ d) x y len e = absurd (omega arith)
fronts (v ∷ c) [] x y len e = absurd (omega arith)
fronts (v ∷ c) (w ∷ d) x y len e =
    let rest_len : length c ≡ length d = omega arith in
    let rest : c ++ x ≡ d ++ y = cc in
    let first : v ≡ w = cc in
    let others = fronts c d x y rest_len rest in
    (let front : c ≡ d = others.0 in cc, others.1)

pub item_head_prefix : (a b : Item) (c d x y : List ℕ) → IsItem a → IsItem b → length c ≡ 32 → length d ≡ 32 → item_head a c ++ x ≡ item_head b d ++ y → SameItemHead a b c d x y
item_head_prefix a b c d x y ha hb hc hd e =
    let kind : Item → List ℕ = λ i. to_be_bytes w8 (item_kind i) in
    let regrouped : (i : Item) (z w : List ℕ) → ((kind i ++ spelled (row_fields i)) ++ z) ++ w ≡ kind i ++ (spelled (row_fields i) ++ (z ++ w)) =
    λ i z w. append_assoc (kind i ++ spelled (row_fields i)) z w ∙ append_assoc (kind i) (spelled (row_fields i)) (z ++ w) in
    let kinds = number_prefix Kind (item_kind a) (item_kind b) (spelled (row_fields a) ++ (c ++ x)) (spelled (row_fields b) ++ (d ++ y)) ha.fields.0 hb.fields.0 (sym (regrouped a c x) ∙ e ∙ regrouped b d y) in
    let same_sorts : sorts (row_fields a) ≡ sorts (row_fields b) = sorts-row_fields a ∙ ap item_sorts kinds.0 ∙ sym (sorts-row_fields b) in
    let rows = spelled_prefix (row_fields a) (row_fields b) (c ++ x) (d ++ y) same_sorts ha.fields.1 hb.fields.1 kinds.1 in
    let rest = fronts c d x y (hc ∙ sym hd) rows.1 in
    record { kind = kinds.0; fields = rows.0; digest = rest.0; after = rest.1 }

pub same_item_head : (a b : Item) (c d x y : List ℕ) → SameItemHead a b c d x y → item_head a c ≡ item_head b d
same_item_head a b c d x y s =
    ap (λ (k : ℕ). (to_be_bytes w8 k ++ spelled (row_fields a)) ++ c) s.kind
    ∙ ap (λ (fs : List Field). (to_be_bytes w8 (item_kind b) ++ spelled fs) ++ c) s.fields
    ∙ ap (λ (t : List ℕ). item_head b t) s.digest

-- a head with a payload is that of one item with one digest
pub one_item : (a b : Item) (c d : List ℕ) (head : List ℕ) (size : ℕ) → IsItemHead a c head size → IsItemHead b d head size → (a ≡ b) × (c ≡ d)
one_item a b c d head size ha hb =
    let same = item_head_prefix a b c d [] [] ha.item hb.item ha.digest_length hb.digest_length (append-nil (item_head a c) ∙ sym ha.spelling ∙ hb.spelling ∙ sym (append-nil (item_head b d))) in (
      sym (remade-fields a size ha.payload) ∙ ap (λ (k : ℕ). remade k (row_fields a) size) same.kind
          ∙ ap (λ (fs : List Field). remade (item_kind b) fs size) same.fields ∙ remade-fields b size hb.payload,
      same.digest,
    )

-- what read_item answers, in the form that its callers use
pub item_found : (r : Option (Item × List ℕ)) (head : List ℕ) (size : ℕ) → IsItemRead head size r → IfSome r (λ f. IsItemHead f.0 f.1 head size)
item_found (Some f) head size h = h
item_found None head size h = tt

pub item_none : (r : Option (Item × List ℕ)) (head : List ℕ) (size : ℕ) → IsItemRead head size r → IfNone r ((i : Item) (digest : List ℕ) → IsItemHead i digest head size → ⊥)
item_none (Some f) head size h = tt
item_none None head size h = h

pub item_only : (r : Option (Item × List ℕ)) (head : List ℕ) (size : ℕ) → IsItemRead head size r → (i : Item) (digest : List ℕ) → IsItemHead i digest head size → r ≡ Some (i, digest)
item_only (Some f) head size h i digest is =
    let same = one_item f.0 i f.1 digest head size h is in
    ap (λ (t : Item). Some (t, f.1)) same.0 ∙ ap (λ (t : List ℕ). Some (i, t)) same.1
item_only None head size h i digest is = absurd (h i digest is)
