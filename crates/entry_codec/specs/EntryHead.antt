-- The head of an entry: its moment, its kind, and the fields of that kind.
use Rattle.std.specs.Prelude.{◌≡◌, ℕ, ◌<◌, ◌≤◌, List, [], ◌∷◌}
use Rattle.delf_model.specs.declared.entry.Entry.{Entry}
use Rattle.delf_model.specs.declared.entry.What.{What}
use Rattle.delf_model.specs.declared.entry.What.TheVariants.{Create, Update, Link, Unlink, Delete, Restore, Expire, Cut, Erase, Put, Purge}
use Rattle.entry_codec.specs.declared.limits.TheConstants.{TYPE_COUNT, LARGEST_PAYLOAD}
use Rattle.entry_codec.specs.Field.{Field, kind, type_number, edge_number, word, moment, object_id, spelled, AreFields}

abbrev pub entry_kind : What → ℕ
entry_kind (Create tag type id size) = 1
entry_kind (Update tag id size) = 2
entry_kind (Link tag edge from to size) = 3
entry_kind (Unlink tag edge from to name) = 4
entry_kind (Delete tag id name) = 5
entry_kind (Restore tag job) = 6
entry_kind (Expire id) = 7
entry_kind (Cut job edge from to) = 8
entry_kind (Erase job id) = 9
entry_kind (Put job item) = 10
entry_kind (Purge job) = 11

-- what stands behind the moment and the kind
abbrev pub what_fields : What → List Field
what_fields (Create tag type id size) = word tag.seat ∷ word tag.k ∷ type_number type ∷ object_id id ∷ []
what_fields (Update tag id size) = word tag.seat ∷ word tag.k ∷ object_id id ∷ []
what_fields (Link tag edge from to size) =
    word tag.seat ∷ word tag.k ∷ edge_number edge ∷ object_id from ∷ object_id to ∷ []
what_fields (Unlink tag edge from to name) =
    word tag.seat ∷ word tag.k ∷ edge_number edge ∷ object_id from ∷ object_id to ∷ word name ∷ []
what_fields (Delete tag id name) = word tag.seat ∷ word tag.k ∷ object_id id ∷ word name ∷ []
what_fields (Restore tag job) = word tag.seat ∷ word tag.k ∷ word job ∷ []
what_fields (Expire id) = object_id id ∷ []
what_fields (Cut job edge from to) = word job ∷ edge_number edge ∷ object_id from ∷ object_id to ∷ []
what_fields (Erase job id) = word job ∷ object_id id ∷ []
what_fields (Put job item) = word job ∷ word item ∷ []
what_fields (Purge job) = word job ∷ []

abbrev pub entry_fields : Entry → List Field
entry_fields e = moment e.moment ∷ kind (entry_kind e.what) ∷ what_fields e.what

-- the one spelling of the entry
abbrev pub entry_head : Entry → List ℕ
entry_head e = spelled (entry_fields e)

-- the size that an entry names; 0 where it names none
abbrev pub named_size : What → ℕ
named_size (Create tag type id size) = size
named_size (Update tag id size) = size
named_size (Link tag edge from to size) = size
named_size (Unlink tag edge from to name) = 0
named_size (Delete tag id name) = 0
named_size (Restore tag job) = 0
named_size (Expire id) = 0
named_size (Cut job edge from to) = 0
named_size (Erase job id) = 0
named_size (Put job item) = 0
named_size (Purge job) = 0

-- an entry goes with a payload of this size. A put goes with that of its item, or with none.
abbrev pub HasPayload : What → ℕ → Type 0
HasPayload (Create tag type id size) n = n ≡ size
HasPayload (Update tag id size) n = n ≡ size
HasPayload (Link tag edge from to size) n = n ≡ size
HasPayload (Unlink tag edge from to name) n = n ≡ 0
HasPayload (Delete tag id name) n = n ≡ 0
HasPayload (Restore tag job) n = n ≡ 0
HasPayload (Expire id) n = n ≡ 0
HasPayload (Cut job edge from to) n = n ≡ 0
HasPayload (Erase job id) n = n ≡ 0
HasPayload (Put job item) n = n ≤ LARGEST_PAYLOAD
HasPayload (Purge job) n = n ≡ 0

-- an entry that has a spelling: each field holds a number that it may hold, and the payload is not too large
pub record IsEntry (e : Entry) : Type 0 where
  pub fields : AreFields (entry_fields e)
  pub size : named_size e.what ≤ LARGEST_PAYLOAD

-- entries that have a spelling: each number is one that its field may hold
abbrev pub AreEntries : List Entry → Type 0
AreEntries [] = Unit {0}
AreEntries (e ∷ es) = IsEntry e × AreEntries es

-- numbers of object types and sizes within their bounds, which the types themselves do not keep
abbrev pub IsBounded : What → Type 0
IsBounded (Create tag type id size) = (type < TYPE_COUNT) × (size ≤ LARGEST_PAYLOAD)
IsBounded (Update tag id size) = size ≤ LARGEST_PAYLOAD
IsBounded (Link tag edge from to size) = size ≤ LARGEST_PAYLOAD
IsBounded (Unlink tag edge from to name) = Unit {0}
IsBounded (Delete tag id name) = Unit {0}
IsBounded (Restore tag job) = Unit {0}
IsBounded (Expire id) = Unit {0}
IsBounded (Cut job edge from to) = Unit {0}
IsBounded (Erase job id) = Unit {0}
IsBounded (Put job item) = Unit {0}
IsBounded (Purge job) = Unit {0}

-- behind the moment and the kind, these bytes and a payload of this size are what the entry notes
pub record IsWhatHead (what : What) (kind : ℕ) (bytes : List ℕ) (size : ℕ) : Type 0 where
  pub same_kind : entry_kind what ≡ kind
  pub fields : AreFields (what_fields what)
  pub bounded : named_size what ≤ LARGEST_PAYLOAD
  pub payload : HasPayload what size
  pub spelling : bytes ≡ spelled (what_fields what)

-- the entry is that of this head with a payload of this size
pub record IsEntryHead (e : Entry) (head : List ℕ) (size : ℕ) : Type 0 where
  pub entry : IsEntry e
  pub payload : HasPayload e.what size
  pub spelling : head ≡ entry_head e
