use Rattle.entry_codec.proofs.Entries.{one_entry, entry_head_prefix, same_entry_head}
use Rattle.entry_codec.proofs.laws.entry_heads.Goals as goal

pub returns-clause-one_entry : goal.returns-clause-one_entry
returns-clause-one_entry c = one_entry

pub returns-clause-no_prefix : goal.returns-clause-no_prefix
returns-clause-no_prefix c = λ a b x y ha hb e. (same_entry_head a b x y (entry_head_prefix a b x y ha hb e), (entry_head_prefix a b x y ha hb e).after)
