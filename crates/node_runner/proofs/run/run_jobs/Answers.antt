use denote.Param.{param}
use denote.Param.Send.{IsSend, IsSync, sendable}
use Rattle.std.proofs.Crossing as heap
use Rattle.std.proofs.MapsCrossing as maps
use Rattle.yard_model.specs.contracts.charter.Charter as charter
use Rattle.lease_table.specs.contracts.table.LeaseTable as table
use Rattle.lease_table.specs.contracts.pass.LeasePass as pass
use Rattle.lease_table.proofs.SendLaws.{pass_send}
use Rattle.post_box.specs.contracts.boxes.PostBox as boxes
use Rattle.post_box.proofs.SendLaws.{boxes_sync}
use Rattle.node_runner.specs.contracts.parcel.Parcel as parcel
use Rattle.node_runner.specs.contracts.roster.Roster as roster
use Rattle.node_runner.specs.contracts.run.Job as job
use Rattle.node_runner.proofs.CrossLaws.{table_sync, charter_sync, roster_send, job_send}
use Rattle.node_runner.proofs.SendLaws.{parcel_send}
use Rattle.node_runner.proofs.run.run_jobs.Goals as goal

pub map_vec-requires-send-J : goal.map_vec-requires-send-J
map_vec-requires-send-J g c κs within =
    let s : IsSend (parcel.the_row (param 0 g.row.J) g.J.Run) = parcel_send (param 0 g.row.J) g.J.Run c.type_bounds.send-J in
    let j : IsSend (job.the_row (parcel.the_row (param 0 g.row.J) g.J.Run)) = job_send (parcel.the_row (param 0 g.row.J) g.J.Run) s in
    search (heap.crosses, maps.crosses, sendable) depth 100 fits 100000

pub map_vec-requires-send-X : goal.map_vec-requires-send-X
map_vec-requires-send-X g c κs within =
    let p : IsSend pass.the_row = pass_send in
    search (heap.crosses, maps.crosses, sendable) depth 100 fits 100000

pub map_vec-requires-sync-F : goal.map_vec-requires-sync-F
map_vec-requires-sync-F g c κs within =
    let s : IsSend (parcel.the_row (param 0 g.row.J) g.J.Run) = parcel_send (param 0 g.row.J) g.J.Run c.type_bounds.send-J in
    let t : IsSync table.the_row = table_sync in
    let b : IsSync (boxes.the_row (parcel.the_row (param 0 g.row.J) g.J.Run)) = boxes_sync (parcel.the_row (param 0 g.row.J) g.J.Run) s in
    let o : IsSend (roster.the_row (param 0 g.row.J) g.J.Run) = roster_send (param 0 g.row.J) g.J.Run c.type_bounds.send-J in
    let k : IsSync charter.the_row = charter_sync in
    let sr = c.type_bounds.sync-R in
    let sb = c.type_bounds.sync-B in
    let sg = c.type_bounds.sync-G in
    search (heap.crosses, maps.crosses, sendable) depth 100 fits 100000
