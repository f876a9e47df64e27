-- Workers and their scripts may go to another thread.
use denote.Param.Send.{IsSend, IsSync, sendable}
use Rattle.std.proofs.MapsCrossing.{crosses as map_crosses}
use Rattle.std.proofs.Crossing.{crosses}
use Rattle.std.specs.contracts.vec.Vec.{the_row as vec_row}
use Rattle.std.specs.contracts.alloc.Global.{the_row as global_row}
use Rattle.std.specs.contracts.impls.GlobalAllocator.TheImpl.{ghosts as global_ghosts}
use Rattle.line_workers.specs.contracts.orders.Order.{the_row as order_row}
use Rattle.line_workers.specs.contracts.refusals.DrillError.{the_row as fault_row}

order_sync : IsSync order_row
order_sync = search (sendable, crosses, map_crosses) depth 120 fits 20000

pub fault_send : IsSend fault_row
fault_send = search (sendable, crosses, map_crosses) depth 120 fits 20000

pub script_sync : IsSync (vec_row order_row global_row global_ghosts)
script_sync = search (sendable, crosses, map_crosses, order_sync) depth 120 fits 20000
