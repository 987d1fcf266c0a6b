-- A table of leases and a script may be shared by threads, and a job and a roster may go to another.
use denote.RattleType.{RattleType}
use denote.Enum.Declared as enum
use denote.Struct.Declared as struct
use denote.Param.Send.{IsSend, IsSync, enum_sync, struct_send, struct_sync, recorded_send, recorded_sync, sendable}
use Rattle.std.proofs.Crossing as heap
use Rattle.std.proofs.MapsCrossing as maps
use Rattle.atomic_table.proofs.send_lease.SendLease.TheSendSync as lease
use Rattle.atomic_table.proofs.shared.Shared.TheSendSync as shared
use Rattle.yard_model.specs.contracts.charter.Charter as charter
use Rattle.yard_model.specs.contracts.charter.Kept as kept
use Rattle.yard_model.specs.contracts.charter.Line as line
use Rattle.yard_model.specs.contracts.charter.Order as order
use Rattle.yard_model.specs.contracts.charter.Sending as sending
use Rattle.yard_model.specs.contracts.counts.Counts as counts
use Rattle.yard_model.specs.contracts.counts.Row as row
use Rattle.yard_model.specs.contracts.event.Command as command
use Rattle.yard_model.specs.contracts.name.EntityName as name
use Rattle.coordinator_state.specs.contracts.store.CoordStore as coordinator
use Rattle.durable_queue.specs.contracts.store.QueueStore as queue
use Rattle.entity_journal.specs.contracts.past.Past as past
use Rattle.entity_journal.proofs.SendLaws.{past_sync}
use Rattle.shard_store.specs.contracts.shelf.ShardStore as shelf
use Rattle.shard_store.specs.contracts.store.Store as store
use Rattle.shard_store.proofs.SendLaws.{store_send}
use Rattle.members_by_age.specs.contracts.by_age.ByAge as by_age
use Rattle.lease_table.specs.contracts.table.LeaseTable as table
use Rattle.lease_table.specs.contracts.pass.LeasePass as pass
use Rattle.lease_table.proofs.SendLaws.{pass_send}
use Rattle.post_box.specs.contracts.pass.BoxPass as box_pass
use Rattle.post_box.proofs.SendLaws as holders
use Rattle.node_runner.specs.declared.parcel.Run.{Ghosts}
use Rattle.node_runner.specs.contracts.roster.Roster as roster
use Rattle.node_runner.specs.contracts.run.Job as job

shelf_sync : IsSync shelf.the_field.row
shelf_sync = let p : IsSync past.the_row = past_sync in search (heap.crosses, maps.crosses, sendable) depth 100 fits 100000

coordinator_sync : IsSync coordinator.the_field.row
coordinator_sync = search (heap.crosses, maps.crosses, sendable) depth 100 fits 100000

queue_sync : IsSync queue.the_field.row
queue_sync = search (heap.crosses, maps.crosses, sendable) depth 100 fits 100000

pub store_sync : IsSync store.the_row
store_sync = recorded_sync store.the_field.row _ _ store.the_type.to_one (enum_sync (enum.shape store.the_type) ((shelf_sync, tt), ((coordinator_sync, tt), ((queue_sync, tt), tt))))

pub table_sync : IsSync table.the_row
table_sync =
    let s : IsSend store.the_row = store_send in
    let y : IsSync store.the_row = store_sync in
    search (heap.crosses, maps.crosses, sendable, shared.the_sync, lease.the_sync) depth 100 fits 100000

-- a script, order by order
command_sync : IsSync command.the_field.row
command_sync = enum_sync (enum.shape command.the_type) ((search (heap.crosses, maps.crosses, sendable) depth 100 fits 100000, tt), (tt, (tt, ((search (heap.crosses, maps.crosses, sendable) depth 100 fits 100000, tt), ((search (heap.crosses, maps.crosses, sendable) depth 100 fits 100000, tt), ((search (heap.crosses, maps.crosses, sendable) depth 100 fits 100000, (search (heap.crosses, maps.crosses, sendable) depth 100 fits 100000, tt)), ((search (heap.crosses, maps.crosses, sendable) depth 100 fits 100000, (search (heap.crosses, maps.crosses, sendable) depth 100 fits 100000, tt)), (tt, (tt, ((search (heap.crosses, maps.crosses, sendable) depth 100 fits 100000, tt), ((search (heap.crosses, maps.crosses, sendable) depth 100 fits 100000, tt), ((search (heap.crosses, maps.crosses, sendable) depth 100 fits 100000, tt), (tt, tt)))))))))))))

order_sync : IsSync order.the_field.row
order_sync = enum_sync (enum.shape order.the_type) ((search (heap.crosses, maps.crosses, sendable) depth 100 fits 100000, tt), ((search (heap.crosses, maps.crosses, sendable) depth 100 fits 100000, tt), ((search (heap.crosses, maps.crosses, sendable) depth 100 fits 100000, tt), ((search (heap.crosses, maps.crosses, sendable) depth 100 fits 100000, tt), ((search (heap.crosses, maps.crosses, sendable) depth 100 fits 100000, (search (heap.crosses, maps.crosses, sendable) depth 100 fits 100000, tt)), ((search (heap.crosses, maps.crosses, sendable) depth 100 fits 100000, tt), ((search (heap.crosses, maps.crosses, sendable) depth 100 fits 100000, (search (heap.crosses, maps.crosses, sendable) depth 100 fits 100000, (command_sync, tt))), ((search (heap.crosses, maps.crosses, sendable) depth 100 fits 100000, tt), ((search (heap.crosses, maps.crosses, sendable) depth 100 fits 100000, (search (heap.crosses, maps.crosses, sendable) depth 100 fits 100000, tt)), ((search (heap.crosses, maps.crosses, sendable) depth 100 fits 100000, tt), ((search (heap.crosses, maps.crosses, sendable) depth 100 fits 100000, tt), ((search (heap.crosses, maps.crosses, sendable) depth 100 fits 100000, tt), (tt, ((search (heap.crosses, maps.crosses, sendable) depth 100 fits 100000, tt), (tt, ((search (heap.crosses, maps.crosses, sendable) depth 100 fits 100000, tt), tt))))))))))))))))

line_sync : IsSync line.the_field.row
line_sync = struct_sync (struct.shape line.the_type) (search (heap.crosses, maps.crosses, sendable) depth 100 fits 100000, (order_sync, tt))

sending_sync : IsSync sending.the_field.row
sending_sync = struct_sync (struct.shape sending.the_type) (search (heap.crosses, maps.crosses, sendable) depth 100 fits 100000, (search (heap.crosses, maps.crosses, sendable) depth 100 fits 100000, (command_sync, tt)))

name_sync : IsSync name.the_row
name_sync = search (heap.crosses, maps.crosses, sendable) depth 100 fits 100000

row_sync : IsSync row.the_row
row_sync = search (heap.crosses, maps.crosses, sendable) depth 100 fits 100000

counts_sync : IsSync counts.the_row
counts_sync =
    let n : IsSync name.the_row = name_sync in
    let r : IsSync row.the_row = row_sync in
    search (heap.crosses, maps.crosses, sendable) depth 100 fits 100000

kept_sync : IsSync kept.the_row
kept_sync =
    let o : IsSync order.the_field.row = order_sync in
    let k : IsSync command.the_field.row = command_sync in
    let l : IsSync line.the_field.row = line_sync in
    let s : IsSync sending.the_field.row = sending_sync in
    let c : IsSync counts.the_row = counts_sync in
    search (heap.crosses, maps.crosses, sendable) depth 100 fits 100000

name_send : IsSend name.the_row
name_send = search (heap.crosses, maps.crosses, sendable) depth 100 fits 100000

row_send : IsSend row.the_row
row_send = search (heap.crosses, maps.crosses, sendable) depth 100 fits 100000

counts_send : IsSend counts.the_row
counts_send =
    let n : IsSend name.the_row = name_send in
    let r : IsSend row.the_row = row_send in
    search (heap.crosses, maps.crosses, sendable) depth 100 fits 100000

kept_send : IsSend kept.the_row
kept_send =
    let c : IsSend counts.the_row = counts_send in
    search (heap.crosses, maps.crosses, sendable) depth 100 fits 100000

pub charter_sync : IsSync charter.the_row
charter_sync =
    let o : IsSync order.the_field.row = order_sync in
    let k : IsSync command.the_field.row = command_sync in
    let l : IsSync line.the_field.row = line_sync in
    let s : IsSync sending.the_field.row = sending_sync in
    let e : IsSync kept.the_row = kept_sync in
    let f : IsSend kept.the_row = kept_send in
    search (heap.crosses, maps.crosses, sendable) depth 100 fits 100000

by_age_send : IsSend by_age.the_row
by_age_send = search (heap.crosses, maps.crosses, sendable) depth 100 fits 100000

pub roster_send : (T : RattleType) (g : Ghosts T.Denot) → IsSend T → IsSend (roster.the_row T g)
roster_send T g s =
    let b : IsSend by_age.the_row = by_age_send in
    recorded_send (roster.the_field T g).row _ _ (roster.the_type T g).to_one (struct_send (struct.shape (roster.the_type T g)) (b, (search (heap.crosses, maps.crosses, sendable) depth 100 fits 100000, (search (heap.crosses, maps.crosses, sendable) depth 100 fits 100000, (search (heap.crosses, maps.crosses, sendable) depth 100 fits 100000, tt)))))

pub job_send : (T : RattleType) → IsSend T → IsSend (job.the_row T)
job_send T s =
    let p : IsSend pass.the_row = pass_send in
    let b : IsSend (box_pass.the_row T) = holders.pass_send T s in
    search (heap.crosses, maps.crosses, sendable) depth 100 fits 100000
