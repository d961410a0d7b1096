-- The record of the restoration log.
use Rattle.std.specs.Prelude.{◌≡◌, ℕ, ◌≤◌, List, length}
use Rattle.sha2.specs.Sha256.{sha256}
use Rattle.entry_codec.specs.ItemHead.{item_head, IsItemHead}
use Rattle.delete_step.specs.Claims.{ClaimView}

-- its head: the spelling of the item with the digest of the payload
abbrev pub head_of : ClaimView → List ℕ
head_of claim = item_head claim.item (sha256 claim.payload)

-- a head of this length is that of the claim, and is read again as its item
pub record IsRecord (claim : ClaimView) (head : List ℕ) (len : ℕ) : Type 0 where
  pub spelled : head ≡ head_of claim
  pub within : len ≤ 66
  pub read : IsItemHead claim.item (sha256 claim.payload) head (length claim.payload)
