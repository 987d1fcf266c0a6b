-- The boxes may be shared, and a pass may go to another thread, where parcels may.
use denote.RattleType.{RattleType}
use denote.Param.Send.{IsSend, IsSync, sendable}
use Rattle.std.proofs.Crossing as heap
use Rattle.std.proofs.MapsCrossing as maps
use Rattle.atomic_table.proofs.send_lease.SendLease.TheSendSync as lease
use Rattle.atomic_table.proofs.shared.Seat.TheSendSync as seat
use Rattle.atomic_table.proofs.shared.Shared.TheSendSync as shared
use Rattle.post_box.specs.contracts.boxes.PostBox as boxes
use Rattle.post_box.specs.contracts.pass.BoxPass as pass

pub pass_send : (T : RattleType) → IsSend T → IsSend (pass.the_row T)
pass_send T s = search (heap.crosses, maps.crosses, sendable, seat.the_send) depth 100 fits 100000

pub boxes_sync : (T : RattleType) → IsSend T → IsSync (boxes.the_row T)
boxes_sync T s = search (heap.crosses, maps.crosses, sendable, shared.the_sync, lease.the_sync) depth 100 fits 100000
