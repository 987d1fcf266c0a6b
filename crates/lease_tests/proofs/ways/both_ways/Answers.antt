use denote.Param.Send.{IsSend, IsSync, sendable}
use Rattle.std.proofs.Crossing as heap
use Rattle.std.proofs.MapsCrossing as maps
use Rattle.lease_table.specs.contracts.pass.LeasePass as pass
use Rattle.lease_table.specs.contracts.pass.Note as note
use Rattle.lease_table.specs.contracts.table.LeaseTable as table
use Rattle.lease_table.proofs.SendLaws.{pass_send, note_send, table_sync}
use Rattle.lease_tests.proofs.ways.both_ways.Goals as goal

pub join-shown-requires-send-F : goal.join-shown-requires-send-F
join-shown-requires-send-F g c κs within =
    let p : IsSend pass.the_row = pass_send in
    let n : IsSend note.the_row = note_send in
    let t : IsSync table.the_row = table_sync in
    search (heap.crosses, maps.crosses, sendable) depth 100 fits 100000

pub join-shown-requires-send-A : goal.join-shown-requires-send-A
join-shown-requires-send-A g c κs within =
    let p : IsSend pass.the_row = pass_send in
    let n : IsSend note.the_row = note_send in
    let t : IsSync table.the_row = table_sync in
    search (heap.crosses, maps.crosses, sendable) depth 100 fits 100000
