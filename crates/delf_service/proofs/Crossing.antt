-- A book may go to another thread where its graph and its disk may.
use denote.RattleType.{RattleType}
use denote.Param.Send.{IsSend, IsSync, sendable, recorded_sync, struct_sync}
use denote.Struct.Declared.{shape}
use Rattle.std.proofs.Crossing.{crosses}
use Rattle.std.proofs.MapsCrossing as maps
use Rattle.delf_model.specs.declared.graph_store.GraphStore as graph
use Rattle.delf_disk.specs.declared.disk.Disk as disk
use Rattle.delf_disk.specs.declared.disk.Rig as rigs
use Rattle.delf_book.specs.contracts.book.Book as book
use Rattle.delf_model.specs.contracts.entry.Entry as entry
use Rattle.delf_service.specs.contracts.held.Held as held
use Rattle.delf_service.specs.contracts.held.HeldCounted.TheImpl as counted
use Rattle.delf_service.specs.contracts.standing.Standing as standing
use Rattle.delf_service.specs.contracts.service.Service as service
use Rattle.seat_lock.proofs.lock.SeatLock.TheSendSync as lock
use Rattle.ledger.specs.contracts.ledger.Ledger as ledger
use Rattle.job_table.specs.contracts.table.JobTable as jobs
use Rattle.delf_model.specs.contracts.rules.Rules as rules
use Rattle.delete_step.specs.contracts.claim.Claim as claim

pub jobs_send : IsSend jobs.the_row
jobs_send = search (maps.crosses, crosses, sendable) depth 60 fits 20000

pub rules_send : IsSend rules.the_row
rules_send = search (maps.crosses, crosses, sendable) depth 60 fits 20000

pub claim_send : IsSend claim.the_row
claim_send = search (maps.crosses, crosses, sendable) depth 60 fits 20000

pub ledger_send : (G : RattleType) (g : graph.Ghosts G.Denot) → IsSend G → IsSend (ledger.the_row G g)
ledger_send G g graph = search (jobs_send, rules_send, maps.crosses, crosses, sendable) depth 60 fits 20000

pub book_send : (G R : RattleType) (g : graph.Ghosts G.Denot) (d : disk.Ghosts R.Denot) → IsSend G → IsSend R → IsSend (book.the_row G R g d)
book_send G R g d graph rig = search (ledger_send, claim_send, maps.crosses, crosses, sendable) depth 60 fits 20000

pub held_send : (G R : RattleType) (g : graph.Ghosts G.Denot) (d : disk.Ghosts R.Denot) → IsSend G → IsSend R → IsSend (held.the_row G R g d)
held_send G R g d graph rig = search (book_send, maps.crosses, crosses, sendable) depth 60 fits 20000

pub service_sync : (G R : RattleType) (g : graph.Ghosts G.Denot) (r : rigs.Ghosts R.Denot) (d : disk.Ghosts R.Denot) → IsSend G → IsSend R → IsSync (service.the_row G R g r d)
service_sync G R g r d graph rig =
    recorded_sync (service.the_field G R g r d).row _ _ (service.the_type G R g r d).to_one
    (struct_sync (shape (service.the_type G R g r d))
    (lock.the_field_sync (held.the_row G R g d) standing.the_row entry.the_row (counted.ghosts G R g counted.no_dict r counted.no_dict d counted.no_dict) (held_send G R g d graph rig), tt))
