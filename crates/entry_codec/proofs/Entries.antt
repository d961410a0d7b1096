-- What is read behind the moment and the kind, and the entry as a whole.
use Rattle.std.proofs.Common.{◌≡◌, ℕ, ◌<◌, ◌≤◌, List, [], ◌∷◌, ◌++◌, get_or, Option, Some, None, refl, sym, ap, subst, ◌∙◌, arith}
use Rattle.std.specs.Prelude.{IfSome, IfNone}
use Rattle.std.specs.Int.{w8, w64, to_be_bytes}
use Rattle.std.proofs.lemmas.List.{append-nil, nil_from_length}
use Rattle.delf_model.specs.declared.entry.Entry.{Entry}
use Rattle.delf_model.specs.declared.entry.Tag.{Tag}
use Rattle.delf_model.specs.declared.entry.What.{What}
use Rattle.delf_model.specs.declared.entry.What.TheVariants.{Create, Update, Link, Unlink, Delete, Restore, Expire, Cut, Erase, Put, Purge}
use Rattle.entry_codec.specs.declared.limits.TheConstants.{LARGEST_PAYLOAD}
use Rattle.entry_codec.specs.Field.{Kind, Moment, Field, spelled}
use Rattle.entry_codec.specs.EntryHead.{entry_kind, what_fields, entry_head, named_size, HasPayload, IsEntry, IsWhatHead, IsEntryHead}
use Rattle.entry_codec.specs.Reading.{number_at, fields_at, fields_of, entry_sorts, ReadsWhat, IsWhatRead, IsEntryRead}
use Rattle.entry_codec.proofs.Fields.{IsBytes, sorts, some_parts, number_takes, number_again, fields_take, fields_again, number_prefix, spelled_prefix, number_of}

pub sorts-what_fields : (w : What) → sorts (what_fields w) ≡ entry_sorts (entry_kind w)
sorts-what_fields (Create tag type id size) = refl
sorts-what_fields (Update tag id size) = refl
sorts-what_fields (Link tag edge from to size) = refl
sorts-what_fields (Unlink tag edge from to name) = refl
sorts-what_fields (Delete tag id name) = refl
sorts-what_fields (Restore tag job) = refl
sorts-what_fields (Expire id) = refl
sorts-what_fields (Cut job edge from to) = refl
sorts-what_fields (Erase job id) = refl
sorts-what_fields (Put job item) = refl
sorts-what_fields (Purge job) = refl

-- the size that an entry names is not above that of its payload
named_size-le : (w : What) (n : ℕ) → HasPayload w n → named_size w ≤ n
named_size-le (Create tag type id size) n h = omega arith
named_size-le (Update tag id size) n h = omega arith
named_size-le (Link tag edge from to size) n h = omega arith
named_size-le (Unlink tag edge from to name) n h = omega arith
named_size-le (Delete tag id name) n h = omega arith
named_size-le (Restore tag job) n h = omega arith
named_size-le (Expire id) n h = omega arith
named_size-le (Cut job edge from to) n h = omega arith
named_size-le (Erase job id) n h = omega arith
named_size-le (Put job item) n h = omega arith
named_size-le (Purge job) n h = omega arith

-- the payload of an entry that has a spelling is not too large
payload-le : (w : What) (n : ℕ) → named_size w ≤ LARGEST_PAYLOAD → HasPayload w n → n ≤ LARGEST_PAYLOAD
payload-le (Create tag type id size) n le h = omega arith
payload-le (Update tag id size) n le h = omega arith
payload-le (Link tag edge from to size) n le h = omega arith
payload-le (Unlink tag edge from to name) n le h = omega arith
payload-le (Delete tag id name) n le h = omega arith
payload-le (Restore tag job) n le h = omega arith
payload-le (Expire id) n le h = omega arith
payload-le (Cut job edge from to) n le h = omega arith
payload-le (Erase job id) n le h = omega arith
payload-le (Put job item) n le h = h
payload-le (Purge job) n le h = omega arith

-- the fields, where they were read to the end
fields_of_some : (r : Option (List Field × List ℕ)) (fs : List Field) → fields_of r ≡ Some fs → (rest : List ℕ) × (r ≡ Some (fs, rest))
fields_of_some (Some x) fs e = let first : x.0 ≡ fs = cc in (x.1, ap (λ (gs : List Field). Some (gs, x.1)) first)
fields_of_some None fs e = absurd cc

-- fields that are there are read
what_again : (w : What) (kind : ℕ) (bytes : List ℕ) (size : ℕ) → IsWhatHead w kind bytes size → fields_at 0 (entry_sorts kind) bytes ≡ Some (what_fields w, [])
what_again w kind bytes size h =
    let again : fields_at 0 (sorts (what_fields w)) (spelled (what_fields w) ++ []) ≡ Some (what_fields w, []) = fields_again (what_fields w) [] 0 h.fields refl in
    let same_sorts : entry_sorts kind ≡ sorts (what_fields w) = ap entry_sorts (sym h.same_kind) ∙ sym (sorts-what_fields w) in
    let same_bytes : bytes ≡ spelled (what_fields w) ++ [] = h.spelling ∙ sym (append-nil (spelled (what_fields w))) in
    ap (λ (t : List ℕ). fields_at 0 (entry_sorts kind) t) same_bytes ∙ ap (λ ss. fields_at 0 ss (spelled (what_fields w) ++ [])) same_sorts ∙ again

-- what a reader of one kind finds is all that the bytes can spell
pub what_read : (kind at : ℕ) (bytes : List ℕ) (size : ℕ) (r : Option What) → IsBytes bytes → size ≤ LARGEST_PAYLOAD → at ≡ kind → ReadsWhat kind bytes size r → IsWhatRead at bytes size r
what_read kind at bytes size None fits le e h = λ w head.
    let again = what_again w at bytes size head in
    let none : fields_at 0 (entry_sorts at) bytes ≡ None = ap (λ k. fields_at 0 (entry_sorts k) bytes) e ∙ h in
    absurd cc
what_read kind at bytes size (Some w) fits le e h =
    let read = fields_of_some (fields_at 0 (entry_sorts kind) bytes) (what_fields w) h.2 in
    let taken = fields_take 0 (entry_sorts kind) bytes (what_fields w, read.0) fits read.1 in
    let nothing : read.0 ≡ [] = nil_from_length read.0 taken.2 in
    record {
      same_kind = h.0 ∙ sym e;
      fields = taken.1;
      bounded = omega (arith, named_size-le w size h.1);
      payload = h.1;
      spelling = taken.0.parts ∙ ap (λ (t : List ℕ). spelled (what_fields w) ++ t) nothing ∙ append-nil (spelled (what_fields w));
    }

-- the same for the kinds that have no payload
pub bare_read : (kind at : ℕ) (bytes : List ℕ) (size : ℕ) (r : Option What) → IsBytes bytes → size ≤ 0 → at ≡ kind → ReadsWhat kind bytes 0 r → IsWhatRead at bytes size r
bare_read kind at bytes size r fits le e h =
    let none : 0 ≡ size = omega arith in
    subst (λ (n : ℕ). IsWhatRead at bytes n r) none (what_read kind at bytes 0 r fits (omega arith) e h)

-- ---- the entry

-- too large a payload
pub large_payload : (size : ℕ) (head : List ℕ) → LARGEST_PAYLOAD < size → (e : Entry) → IsEntryHead e head size → ⊥
large_payload size head lt e h = omega (arith, payload-le e.what size h.entry.size h.payload)

-- the moment at the front
moment_again : (e : Entry) (head : List ℕ) (size : ℕ) → IsEntryHead e head size → number_at Moment head ≡ Some (e.moment, to_be_bytes w8 (entry_kind e.what) ++ spelled (what_fields e.what))
moment_again e head size h = ap (number_at Moment) h.spelling ∙ number_again Moment e.moment (to_be_bytes w8 (entry_kind e.what) ++ spelled (what_fields e.what)) h.entry.fields.0

kind_again : (e : Entry) (head : List ℕ) (size : ℕ) → IsEntryHead e head size → number_at Kind (to_be_bytes w8 (entry_kind e.what) ++ spelled (what_fields e.what)) ≡ Some (entry_kind e.what, spelled (what_fields e.what))
kind_again e head size h = number_again Kind (entry_kind e.what) (spelled (what_fields e.what)) h.entry.fields.1.0

pub no_moment : (head : List ℕ) (size : ℕ) → number_at Moment head ≡ None → (e : Entry) → IsEntryHead e head size → ⊥
no_moment head size none e h = let again = moment_again e head size h in cc

pub no_kind : (head : List ℕ) (size moment : ℕ) (rest : List ℕ) → number_at Moment head ≡ Some (moment, rest) → number_at Kind rest ≡ None → (e : Entry) → IsEntryHead e head size → ⊥
no_kind head size moment rest first none e h =
    let again = moment_again e head size h in
    let kind = kind_again e head size h in
    let behind : List ℕ = to_be_bytes w8 (entry_kind e.what) ++ spelled (what_fields e.what) in
    let same : rest ≡ behind = (some_parts (moment, rest) (e.moment, behind) (sym first ∙ again)).1 in
    let found : number_at Kind rest ≡ Some (entry_kind e.what, spelled (what_fields e.what)) = ap (number_at Kind) same ∙ kind in
    cc

pub no_what : (head : List ℕ) (size moment : ℕ) (rest : List ℕ) (kind : ℕ) (bytes : List ℕ) → number_at Moment head ≡ Some (moment, rest) → number_at Kind rest ≡ Some (kind, bytes)
    → ((what : What) → IsWhatHead what kind bytes size → ⊥) → (e : Entry) → IsEntryHead e head size → ⊥
no_what head size moment rest kind bytes first second none e h =
    let again = moment_again e head size h in
    let behind : List ℕ = to_be_bytes w8 (entry_kind e.what) ++ spelled (what_fields e.what) in
    let same : rest ≡ behind = (some_parts (moment, rest) (e.moment, behind) (sym first ∙ again)).1 in
    let found : number_at Kind rest ≡ Some (entry_kind e.what, spelled (what_fields e.what)) = ap (number_at Kind) same ∙ kind_again e head size h in
    let parts = some_parts (kind, bytes) (entry_kind e.what, spelled (what_fields e.what)) (sym second ∙ found) in
    none e.what record {
      same_kind = sym parts.0;
      fields = h.entry.fields.1.1;
      bounded = h.entry.size;
      payload = h.payload;
      spelling = parts.1;
    }

pub entry_found : (head : List ℕ) (size moment : ℕ) (rest : List ℕ) (kind : ℕ) (bytes : List ℕ) (what : What) → IsBytes head → number_at Moment head ≡ Some (moment, rest) → number_at Kind rest ≡ Some (kind, bytes)
    → IsWhatHead what kind bytes size → IsEntryHead (record { moment = moment; what = what }) head size
entry_found head size moment rest kind bytes what fits first second h =
    let a = number_takes Moment head (moment, rest) fits first in
    let b = number_takes Kind rest (kind, bytes) a.0.rest_fits second in
    let kind_is : entry_kind what ≡ kind = h.same_kind in
    let rest-is : rest ≡ to_be_bytes w8 (entry_kind what) ++ spelled (what_fields what) =
    b.0.parts ∙ ap (λ (t : List ℕ). to_be_bytes w8 kind ++ t) h.spelling ∙ ap (λ (k : ℕ). to_be_bytes w8 k ++ spelled (what_fields what)) (sym kind_is) in
    record {
      entry = record { fields = (a.1, (omega (arith, b.1), h.fields)); size = h.bounded };
      payload = h.payload;
      spelling = a.0.parts ∙ ap (λ (t : List ℕ). to_be_bytes w64 moment ++ t) rest-is;
    }

-- ---- one spelling

-- what an entry notes, by its kind, its fields and the size of its payload
remade : ℕ → List Field → ℕ → What
remade kind fs size =
    let n : ℕ → ℕ = number_of fs in
    let tag : Tag = record { seat = n 0; k = n 1 } in
    get_or (Purge 0
    ∷ Create tag (n 2) (n 3) size
    ∷ Update tag (n 2) size
    ∷ Link tag (n 2) (n 3) (n 4) size
    ∷ Unlink tag (n 2) (n 3) (n 4) (n 5)
    ∷ Delete tag (n 2) (n 3)
    ∷ Restore tag (n 2)
    ∷ Expire (n 0)
    ∷ Cut (n 0) (n 1) (n 2) (n 3)
    ∷ Erase (n 0) (n 1)
    ∷ Put (n 0) (n 1)
    ∷ Purge (n 0)
    ∷ []) kind (Purge 0)

remade-fields : (w : What) (size : ℕ) → HasPayload w size → remade (entry_kind w) (what_fields w) size ≡ w
unfolding remade
remade-fields (Create tag type id size) n h = ap (λ (t : ℕ). Create tag type id t) h
remade-fields (Update tag id size) n h = ap (λ (t : ℕ). Update tag id t) h
remade-fields (Link tag edge from to size) n h = ap (λ (t : ℕ). Link tag edge from to t) h
remade-fields (Unlink tag edge from to name) n h = refl
remade-fields (Delete tag id name) n h = refl
remade-fields (Restore tag job) n h = refl
remade-fields (Expire id) n h = refl
remade-fields (Cut job edge from to) n h = refl
remade-fields (Erase job id) n h = refl
remade-fields (Put job item) n h = refl
remade-fields (Purge job) n h = refl

pub record SameEntryHead (a b : Entry) (x y : List ℕ) : Type 0 where
  pub moment : a.moment ≡ b.moment
  pub kind : entry_kind a.what ≡ entry_kind b.what
  pub fields : what_fields a.what ≡ what_fields b.what
  pub after : x ≡ y

pub entry_head_prefix : (a b : Entry) (x y : List ℕ) → IsEntry a → IsEntry b → entry_head a ++ x ≡ entry_head b ++ y → SameEntryHead a b x y
entry_head_prefix a b x y ha hb e =
    let moments : a.moment ≡ b.moment × ((to_be_bytes w8 (entry_kind a.what) ++ spelled (what_fields a.what)) ++ x ≡ (to_be_bytes w8 (entry_kind b.what) ++ spelled (what_fields b.what)) ++ y) =
    number_prefix Moment a.moment b.moment ((to_be_bytes w8 (entry_kind a.what) ++ spelled (what_fields a.what)) ++ x) ((to_be_bytes w8 (entry_kind b.what) ++ spelled (what_fields b.what)) ++ y) ha.fields.0 hb.fields.0 e in
    let kinds : entry_kind a.what ≡ entry_kind b.what × (spelled (what_fields a.what) ++ x ≡ spelled (what_fields b.what) ++ y) =
    number_prefix Kind (entry_kind a.what) (entry_kind b.what) (spelled (what_fields a.what) ++ x) (spelled (what_fields b.what) ++ y) ha.fields.1.0 hb.fields.1.0 moments.1 in
    let same_sorts : sorts (what_fields a.what) ≡ sorts (what_fields b.what) =
    sorts-what_fields a.what ∙ ap entry_sorts kinds.0 ∙ sym (sorts-what_fields b.what) in
    let rest = spelled_prefix (what_fields a.what) (what_fields b.what) x y same_sorts ha.fields.1.1 hb.fields.1.1 kinds.1 in
    record { moment = moments.0; kind = kinds.0; fields = rest.0; after = rest.1 }

pub same_entry_head : (a b : Entry) (x y : List ℕ) → SameEntryHead a b x y → entry_head a ≡ entry_head b
same_entry_head a b x y s =
    ap (λ (m : ℕ). to_be_bytes w64 m ++ (to_be_bytes w8 (entry_kind a.what) ++ spelled (what_fields a.what))) s.moment
    ∙ ap (λ (k : ℕ). to_be_bytes w64 b.moment ++ (to_be_bytes w8 k ++ spelled (what_fields a.what))) s.kind
    ∙ ap (λ (fs : List Field). to_be_bytes w64 b.moment ++ (to_be_bytes w8 (entry_kind b.what) ++ spelled fs)) s.fields

-- a head with a payload is that of one entry
pub one_entry : (a b : Entry) (head : List ℕ) (size : ℕ) → IsEntryHead a head size → IsEntryHead b head size → a ≡ b
one_entry a b head size ha hb =
    let same = entry_head_prefix a b [] [] ha.entry hb.entry (append-nil (entry_head a) ∙ sym ha.spelling ∙ hb.spelling ∙ sym (append-nil (entry_head b))) in
    let what : a.what ≡ b.what =
    sym (remade-fields a.what size ha.payload) ∙ ap (λ (k : ℕ). remade k (what_fields a.what) size) same.kind
    ∙ ap (λ (fs : List Field). remade (entry_kind b.what) fs size) same.fields ∙ remade-fields b.what size hb.payload in
    ap (λ (m : ℕ). record { moment = m; what = a.what }) same.moment ∙ ap (λ (w : What). record { moment = b.moment; what = w }) what

-- what read_entry answers, in the form that its callers use
pub read_found : (r : Option Entry) (head : List ℕ) (size : ℕ) → IsEntryRead head size r → IfSome r (λ e. IsEntryHead e head size)
read_found (Some e) head size h = h
read_found None head size h = tt

pub read_none : (r : Option Entry) (head : List ℕ) (size : ℕ) → IsEntryRead head size r → IfNone r ((e : Entry) → IsEntryHead e head size → ⊥)
read_none (Some e) head size h = tt
read_none None head size h = h

pub read_only : (r : Option Entry) (head : List ℕ) (size : ℕ) → IsEntryRead head size r → (e : Entry) → IsEntryHead e head size → r ≡ Some e
read_only (Some a) head size h e is = ap (λ (t : Entry). Some t) (one_entry a e head size h is)
read_only None head size h e is = absurd (h e is)
