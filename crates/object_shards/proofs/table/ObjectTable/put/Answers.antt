use Rattle.std.proofs.Common.{◌≡◌, ◌<◌, ℕ, Some, sym, ap, subst, ◌∙◌, cond}
use Rattle.std.specs.Prelude.{Result, Ok, Err, IsOk, OnOk, nat_eq}
use Rattle.object_shards.specs.declared.table.Kept.{Kept}
use Rattle.object_shards.specs.Table.{TableSeen, found, kept_of}
use Rattle.object_shards.proofs.ById.{by_id_rise, by_id_put}
use Rattle.object_shards.proofs.table.ObjectTable.put.Goals as goal

when_ok : {A E : Type 0} (result : Result A E) (P : Type 0) → IsOk result → OnOk result P → P
when_ok (Ok value) P is told = told
when_ok (Err error) P is told = absurd (cc)

pub returns-clause-rows : goal.returns-clause-rows
returns-clause-rows c =
    let room = subst (λ (seen : TableSeen). 0 < seen.room) (sym c.self.view_is) c.requires in
    let updates = when_ok c.insert.result _ (c.insert.ensures.succeeds room) c.insert.ensures.updates in
    rw (← c.self.view_is)
    (by_id_put c.self.inside.entries.entries c.insert.new.self.entries c.args.row.now
    (λ q. updates.0 q ∙ ap (λ (kept : Kept). cond (nat_eq c.args.row.now.id q) (Some kept) (found c.self.inside.entries.entries q)) c.kept_with.ensures))

pub returns-clause-rose : goal.returns-clause-rose
returns-clause-rose c = rw (← c.self.view_is) (by_id_rise c.self.inside.entries.entries)
