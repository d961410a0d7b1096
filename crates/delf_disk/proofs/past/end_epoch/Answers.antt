use Rattle.std.proofs.Common.{Vec, Global, refl, ap}
use Rattle.delf_disk.specs.declared.past.Write.{Write}
use Rattle.delf_disk.proofs.past.end_epoch.Goals as goal

pub returns-clause-past : goal.returns-clause-past
returns-clause-past c =
    (record { writes = c.replace-writes.result; end = c.args.end }, ap (λ (v : Vec Write Global). v.items) c.replace-writes.ensures.value, refl, c.push_reserved.ensures.items)
