use Rattle.entry_codec.proofs.Items.{item_found, item_only, item_none}
use Rattle.entry_codec.proofs.item_reader.read_item.Goals as goal

pub returns-clause-found : goal.returns-clause-found
returns-clause-found c = item_found c.item_at.result c.args.head.now c.args.size c.item_at.ensures

pub returns-clause-only : goal.returns-clause-only
returns-clause-only c = item_only c.item_at.result c.args.head.now c.args.size c.item_at.ensures

pub returns-clause-none : goal.returns-clause-none
returns-clause-none c = item_none c.item_at.result c.args.head.now c.args.size c.item_at.ensures
