-- The size of the payload in the record of a put, from the item that the table has.
use Rattle.std.proofs.Common.{◌≡◌, ℕ, cond, Option, Some, None, refl, ap, ◌∙◌}
use Rattle.std.specs.Prelude.{is_none}
use Rattle.std.specs.Option.{option_map}
use Rattle.std.proofs.lemmas.Option.{same_Some}
use Rattle.delf_model.specs.declared.rows.Item.{Item}
use Rattle.delf_model.specs.State.{State, Logged, size_of}
use Rattle.delf_model.specs.Puts.{judged}
use Rattle.job_table.specs.Table.{item_of_logged}
use Rattle.payload_laws.specs.Holders.{put_size}

pub size_of_item : (s : State) (found : Option Logged) (it : Item) (n : ℕ) → Some it ≡ option_map item_of_logged found → n ≡ cond (is_none (judged s it)) (size_of it) 0 → n ≡ put_size s found
size_of_item s None it n there is = absurd (cc there)
size_of_item s (Some logged) it n there is = is ∙ ap (λ (x : Item). cond (is_none (judged s x)) (size_of x) 0) (same_Some it logged.item there)

pub size_of_none : (s : State) (found : Option Logged) → None ≡ option_map item_of_logged found → 0 ≡ put_size s found
size_of_none s None there = refl
size_of_none s (Some logged) there = absurd (cc there)
