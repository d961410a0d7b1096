use denote.Param.{param}
use denote.Param.Send.{param_send, arg_send, recorded_sync, struct_sync, shr_sync, shr_slice_sync, plain_sync}
use denote.Exit.{no}
use denote.RattleType.{RattleType}
use denote.Struct.Declared.{shape}
use denote.Struct.Field as field
use denote.Struct.Tuple.{field_at, type_at}
use mathlib.Core.List.{List}
use mir.Syntax.{named}
use Rattle.std.specs.Prelude.{ℕ}
use Rattle.std.specs.contracts.alloc.Global as global
use Rattle.std.proofs.alloc.Global.TheSendSync as allocator
use Rattle.delf_model.specs.contracts.entry.Entry as entry
use Rattle.delf_model.specs.contracts.script.Lane as lane
use Rattle.delf_model.proofs.script.Lane.TheSendSync as lanes
use Rattle.delf_service.specs.contracts.held.Held as held
use Rattle.delf_service.specs.contracts.held.HeldCounted.TheImpl as counted
use Rattle.delf_service.specs.contracts.service.Service as service
use Rattle.delf_service.specs.contracts.standing.Standing as standing
use Rattle.delf_service.proofs.Crossing.{held_send, service_sync}
use Rattle.delf_service.proofs.rows.Row.TheSendSync as row
use Rattle.delf_service.proofs.service.Service.run_rows.Lts as lts
use Rattle.delf_service.proofs.service.Service.run_rows.Goals as goal

pub for_each_mut-requires-send-T : goal.for_each_mut-requires-send-T
for_each_mut-requires-send-T g c κs within =
    param_send 1 _ (arg_send _ no _ (row.the_send (held.the_row (param 0 g.row.G) (param 1 g.row.R) g.G.GraphStore g.R.Disk) standing.the_row entry.the_row
    (counted.ghosts (param 0 g.row.G) (param 1 g.row.R) g.G.GraphStore counted.no_dict g.R.Rig counted.no_dict g.R.Disk counted.no_dict)
    (held_send (param 0 g.row.G) (param 1 g.row.R) g.G.GraphStore g.R.Disk c.type_bounds.send-G c.type_bounds.send-R)))

pub for_each_mut-requires-sync-F : goal.for_each_mut-requires-sync-F
for_each_mut-requires-sync-F g c κs within =
    let name : List ℕ = lts.name-12 g.row.G g.row.R g.row.W g.row.Q g.G.laws g.R.laws g.W.laws g.Q.laws g.G.GraphStore g.G.GraphStore-dict g.R.Rig g.R.Rig-dict g.R.Disk g.R.Disk-dict g.W.Threads g.W.Threads-dict g.W.Wait g.W.Wait-dict g.Q.Gate g.Q.Gate-dict in
    let fields : List RattleType = lts.of-2 g.row.G g.row.R g.row.W g.row.Q g.G.laws g.R.laws g.W.laws g.Q.laws g.G.GraphStore g.G.GraphStore-dict g.R.Rig g.R.Rig-dict g.R.Disk g.R.Disk-dict g.W.Threads g.W.Threads-dict g.W.Wait g.W.Wait-dict g.Q.Gate g.Q.Gate-dict
    (record { mir = named 6; lft = κs.1.1.1.1.1.1.0 }) (record { mir = named 7; lft = κs.1.1.1.1.1.1.1.0 }) (record { mir = named 8; lft = κs.1.1.1.1.1.1.1.1.0 }) (record { mir = named 9; lft = κs.1.1.1.1.1.1.1.1.1.0 }) (record { mir = named 10; lft = κs.1.1.1.1.1.1.1.1.1.1.0 }) (record { mir = named 11; lft = κs.1.1.1.1.1.1.1.1.1.1.1.0 }) (record { mir = named 12; lft = κs.1.1.1.1.1.1.1.1.1.1.1.1.0 }) in
    let shared = recorded_sync (field_at name fields).row _ _ (type_at name fields).to_one (struct_sync (shape (type_at name fields)) (
      shr_sync _ _ (service.the_row (param 0 g.row.G) (param 1 g.row.R) g.G.GraphStore g.R.Rig g.R.Disk)
          (service_sync (param 0 g.row.G) (param 1 g.row.R) g.G.GraphStore g.R.Rig g.R.Disk c.type_bounds.send-G c.type_bounds.send-R),
      (
        shr_sync _ _ (param 2 g.row.W) c.type_bounds.sync-W,
        (
          shr_sync _ _ global.the_row allocator.the_sync,
          (
            shr_sync _ _ field.u64-field.row (plain_sync _ _ _ _ _),
            (
              shr_slice_sync _ _ lane.the_row lanes.the_sync,
              (
                shr_sync _ _ field.u32-field.row (plain_sync _ _ _ _ _),
                (shr_sync _ _ (param 3 g.row.Q) c.type_bounds.sync-Q, tt),
              ),
            ),
          ),
        ),
      ),
    )) in
    record { shared = shared.shared }
