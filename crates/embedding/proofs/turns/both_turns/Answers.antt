use denote.Param.Send.{IsSend, IsSync, sendable}
use Rattle.std.proofs.Crossing as heap
use Rattle.std.proofs.MapsCrossing as maps
use Rattle.lease_table.specs.contracts.pass.LeasePass as pass
use Rattle.lease_table.specs.contracts.table.LeaseTable as table
use Rattle.lease_table.proofs.SendLaws.{pass_send, table_sync}
use Rattle.embedding.proofs.turns.both_turns.Goals as goal

pub join-one-requires-send-F : goal.join-one-requires-send-F
join-one-requires-send-F g c κs within =
    let p : IsSend pass.the_row = pass_send in
    let t : IsSync table.the_row = table_sync in
    search (heap.crosses, maps.crosses, sendable) depth 100 fits 100000

pub join-one-requires-send-A : goal.join-one-requires-send-A
join-one-requires-send-A g c κs within =
    let p : IsSend pass.the_row = pass_send in
    let t : IsSync table.the_row = table_sync in
    search (heap.crosses, maps.crosses, sendable) depth 100 fits 100000
