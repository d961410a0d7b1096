use Rattle.entry_codec.proofs.Items.{one_item, item_head_prefix, same_item_head}
use Rattle.entry_codec.proofs.laws.item_heads.Goals as goal

pub returns-clause-one_item : goal.returns-clause-one_item
returns-clause-one_item c = one_item

pub returns-clause-no_prefix : goal.returns-clause-no_prefix
returns-clause-no_prefix c = λ a b c d x y ha hb hc hd e. (same_item_head a b c d x y (item_head_prefix a b c d x y ha hb hc hd e), (item_head_prefix a b c d x y ha hb hc hd e).after)
