-- Records and their spelling.
use Rattle.std.specs.Prelude.{ℕ, zero, suc, ◌+◌, ◌^◌, ◌<◌, List, [], ◌∷◌, ◌++◌, length}
use Rattle.std.specs.Int.{w16, w32, to_be_bytes}

-- what a record holds
pub record Record : Type 0 where
  pub head : List ℕ
  pub payload : List ℕ

-- the lengths of its head and payload
abbrev pub size_of : Record → ℕ × ℕ
size_of r = (length r.head, length r.payload)

-- the bytes behind the gate of a record: body length, head length, head and payload
unfoldable pub body : List ℕ → List ℕ → List ℕ
body head payload =
    to_be_bytes w32 (2 + length head + length payload) ++ to_be_bytes w16 (length head) ++ head ++ payload

-- records one after another, each behind an open gate
abbrev pub spelled : List Record → List ℕ
spelled [] = []
spelled (r ∷ rs) = 165 ∷ (body r.head r.payload ++ spelled rs)

-- both lengths of a record fit their fields
pub record IsBounded (head payload : List ℕ) : Type 0 where
  pub head_length : length head < 2 ^ 16
  pub body_length : 2 + length head + length payload < 2 ^ 32

abbrev pub AreBounded : List Record → Type 0
AreBounded [] = Unit {0}
AreBounded (r ∷ rs) = IsBounded r.head r.payload × AreBounded rs

-- the head and the payload of record i
abbrev pub head_of : List Record → ℕ → List ℕ
head_of [] i = []
head_of (r ∷ rs) zero = r.head
head_of (r ∷ rs) (suc i) = head_of rs i

abbrev pub payload_of : List Record → ℕ → List ℕ
payload_of [] i = []
payload_of (r ∷ rs) zero = r.payload
payload_of (r ∷ rs) (suc i) = payload_of rs i

-- the same records, with another payload in record i
abbrev pub replaced : List Record → ℕ → List ℕ → List Record
replaced [] i payload = []
replaced (r ∷ rs) zero payload = record { head = r.head; payload = payload } ∷ rs
replaced (r ∷ rs) (suc i) payload = r ∷ replaced rs i payload
