use Rattle.std.proofs.Common.{refl, sym, subst, ◌∙◌, arith}
use Rattle.documents.specs.Loads.{IsStill}
use Rattle.script_runner.specs.Worlds.{world_of}
use Rattle.script_runner.proofs.Calls.{ok_is, err_of}
use Rattle.script_runner.proofs.LoadSteps.{still_orders, leads_none, leads_more, leads_all, falls_none, falls_then}
use Rattle.script_runner.proofs.Moves.{plain_then, kind_stays}
use Rattle.script_runner.proofs.Texts.{starved_in}
use Rattle.script_runner.proofs.loading.make_all.Goals as goal

pub loop-command-init : goal.loop-command-init
loop-command-init g c = record {
  rules = refl;
  kind = kind_stays g.R.Disk.told g.R.Disk.honest g.R.Disk.order g.R.Disk.orders c.args.store.book.rig;
  falls = falls_none g.R.Disk.faults c.args.store.book;
  leads = λ plain e stands. leads_none g.R.Disk.may_leave g.R.Disk.faults c.args.schema.now c.args.store.book c.args.store.clock e stands;
}

pub returns-in-Err-clause-starves : goal.returns-in-Err-clause-starves
returns-in-Err-clause-starves g c = λ plain e stands.
    let inv = c.loop-command.invariant in
    let old = c.args.store in
    let here = plain_then (g.R.Disk.told old.book.rig) (g.R.Disk.honest old.book.rig) (g.R.Disk.told c.loop-command.store.book.rig)
    (g.R.Disk.honest c.loop-command.store.book.rig) inv.kind.tells inv.kind.keeps_word plain in
    let leads = inv.leads plain e stands in (
      c.loop-command.command-index,
      starved_in g.R.Disk.may_leave g.R.Disk.faults c.args.schema.now (world_of old.book old.clock e) c.args.commands.now
          (g.R.Disk.faults old.book.rig) c.loop-command.command-index c.command-item.result c.loop-command.store.book c.loop-command.store.clock c.serve-next.result.0.book.rig leads.0
          (omega arith) c.command-item.is c.serve-next.ensures.cause.later leads.1 (err_of c.serve-next.result.1 _ c.in-Err.is c.serve-next.ensures.halts here leads.1.payloads leads.1.stands),
    )

pub loop-command-preserved : goal.loop-command-preserved
loop-command-preserved g c =
    let inv = c.loop-command.invariant in
    let old = c.args.store in
    let before = c.loop-command.store.book.rig in
    let now = c.serve-next.result.0.book.rig in
    let still : IsStill c.command-item.result =
    subst IsStill (sym c.command-item.is) (c.requires.still c.loop-command.command-index c.command-item.result (omega arith)) in
    let orders = still_orders c.command-item.result (g.R.Disk.order before) (g.R.Disk.order now) (g.R.Disk.orders before) (g.R.Disk.orders now) still c.serve-next.ensures.orders in
    record {
      rules = c.serve-next.ensures.rules ∙ inv.rules;
      kind = record {
        tells = c.serve-next.ensures.telling.tells ∙ inv.kind.tells;
        keeps_word = c.serve-next.ensures.telling.keeps_word ∙ inv.kind.keeps_word;
        last_order = orders.0 ∙ inv.kind.last_order;
        order_count = orders.1 ∙ inv.kind.order_count;
      };
      falls = falls_then g.R.Disk.faults old.book c.loop-command.store.book c.serve-next.result.0.book inv.falls c.serve-next.ensures.cause;
      leads = λ plain e stands.
          let here = plain_then (g.R.Disk.told old.book.rig) (g.R.Disk.honest old.book.rig) (g.R.Disk.told before) (g.R.Disk.honest before) inv.kind.tells inv.kind.keeps_word plain in
          let leads = inv.leads plain e stands in
          leads_more g.R.Disk.may_leave g.R.Disk.faults c.args.schema.now (world_of old.book old.clock e) c.args.commands.now (g.R.Disk.faults old.book.rig)
          c.loop-command.command-index c.command-item.result c.loop-command.store.book c.serve-next.result.0.book c.loop-command.store.clock c.serve-next.result.0.clock c.in-Ok.field-0
          (omega arith) c.command-item.is leads (ok_is _ c.serve-next.result.1 _ c.in-Ok.is c.serve-next.ensures.serves here leads.1.payloads leads.1.stands);
    }

pub returns-in-Err-clause-kind : goal.returns-in-Err-clause-kind
returns-in-Err-clause-kind g c =
    let inv = c.loop-command.invariant in
    let before = c.loop-command.store.book.rig in
    let now = c.serve-next.result.0.book.rig in
    let still : IsStill c.command-item.result =
    subst IsStill (sym c.command-item.is) (c.requires.still c.loop-command.command-index c.command-item.result (omega arith)) in
    let orders = still_orders c.command-item.result (g.R.Disk.order before) (g.R.Disk.order now) (g.R.Disk.orders before) (g.R.Disk.orders now) still c.serve-next.ensures.orders in
    record {
      tells = c.serve-next.ensures.telling.tells ∙ inv.kind.tells;
      keeps_word = c.serve-next.ensures.telling.keeps_word ∙ inv.kind.keeps_word;
      last_order = orders.0 ∙ inv.kind.last_order;
      order_count = orders.1 ∙ inv.kind.order_count;
    }

pub returns-in-Err-clause-cause : goal.returns-in-Err-clause-cause
returns-in-Err-clause-cause g c =
    falls_then g.R.Disk.faults c.args.store.book c.loop-command.store.book c.serve-next.result.0.book c.loop-command.invariant.falls c.serve-next.ensures.cause

pub returns-clause-made : goal.returns-clause-made
returns-clause-made g c = λ plain e stands.
    leads_all g.R.Disk.may_leave g.R.Disk.faults c.args.schema.now (world_of c.args.store.book c.args.store.clock e) c.args.commands.now (g.R.Disk.faults c.args.store.book.rig)
    c.loop-command.command-index c.loop-command.store.book c.loop-command.store.clock (omega arith) (c.loop-command.invariant.leads plain e stands)
