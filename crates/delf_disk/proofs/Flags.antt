-- A call keeps what kind of disk it is.
use Rattle.std.proofs.Common.{◌≡◌, ℕ, Bool, IsTrue, sym, ◌∙◌, subst}
use Rattle.delf_disk.specs.declared.area.Order.{Order}
use Rattle.delf_disk.specs.Plain.{Plain, SameKind, SameTelling}

pub still_plain : {a b c d : Bool} → b ≡ a → d ≡ c → Plain a c → Plain b d
still_plain e f plain = (subst IsTrue (sym e) plain.0, subst IsTrue (sym f) plain.1)

module _ {D : Type 0} {told honest : D → Bool} {order : D → Order} {orders : D → ℕ} {old new : D} where
  pub stays_plain : SameKind told honest order orders old new → Plain (told old) (honest old) → Plain (told new) (honest new)
  stays_plain kind plain = still_plain kind.tells kind.keeps_word plain

  pub was_plain : SameKind told honest order orders old new → Plain (told new) (honest new) → Plain (told old) (honest old)
  was_plain kind plain = still_plain (sym kind.tells) (sym kind.keeps_word) plain

module _ {D : Type 0} {told honest : D → Bool} {old new : D} where
  pub tells_plain : SameTelling told honest old new → Plain (told old) (honest old) → Plain (told new) (honest new)
  tells_plain kind plain = still_plain kind.tells kind.keeps_word plain

  pub told_plain : SameTelling told honest old new → Plain (told new) (honest new) → Plain (told old) (honest old)
  told_plain kind plain = still_plain (sym kind.tells) (sym kind.keeps_word) plain

-- two calls in a row
module _ {D : Type 0} {told honest : D → Bool} {order : D → Order} {orders : D → ℕ} {old mid new : D} where
  pub same_kinds : SameKind told honest order orders old mid → SameKind told honest order orders mid new → SameKind told honest order orders old new
  same_kinds first second = record {
    tells = second.tells ∙ first.tells;
    keeps_word = second.keeps_word ∙ first.keeps_word;
    last_order = second.last_order ∙ first.last_order;
    order_count = second.order_count ∙ first.order_count;
  }
