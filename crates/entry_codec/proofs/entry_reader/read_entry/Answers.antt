use Rattle.entry_codec.proofs.Entries.{read_found, read_only, read_none}
use Rattle.entry_codec.proofs.entry_reader.read_entry.Goals as goal

pub returns-clause-found : goal.returns-clause-found
returns-clause-found c = read_found c.entry_at.result c.args.head.now c.args.size c.entry_at.ensures

pub returns-clause-only : goal.returns-clause-only
returns-clause-only c = read_only c.entry_at.result c.args.head.now c.args.size c.entry_at.ensures

pub returns-clause-none : goal.returns-clause-none
returns-clause-none c = read_none c.entry_at.result c.args.head.now c.args.size c.entry_at.ensures
