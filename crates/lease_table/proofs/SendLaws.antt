-- A pass and a note may go to another thread, and a table may be shared by threads.
use denote.Enum.Declared as enum
use denote.Param.Send.{IsSend, IsSync, enum_sync, recorded_sync, sendable}
use Rattle.std.proofs.Crossing as heap
use Rattle.std.proofs.MapsCrossing as maps
use Rattle.coordinator_state.specs.contracts.store.CoordStore as coordinator
use Rattle.durable_queue.specs.contracts.store.QueueStore as queue
use Rattle.entity_journal.specs.contracts.past.Past as past
use Rattle.entity_journal.proofs.SendLaws.{past_sync}
use Rattle.shard_store.specs.contracts.shelf.ShardStore as shelf
use Rattle.shard_store.specs.contracts.store.Store as store
use Rattle.shard_store.proofs.SendLaws.{store_send}
use Rattle.atomic_table.proofs.send_lease.SendLease.TheSendSync as lease
use Rattle.atomic_table.proofs.shared.Seat.TheSendSync as seat
use Rattle.atomic_table.proofs.shared.Shared.TheSendSync as shared
use Rattle.lease_table.specs.contracts.pass.LeasePass as pass
use Rattle.lease_table.specs.contracts.pass.Note as note
use Rattle.lease_table.specs.contracts.table.LeaseTable as table

pub pass_send : IsSend pass.the_row
pass_send = let s : IsSend store.the_row = store_send in search (heap.crosses, maps.crosses, sendable, seat.the_send) depth 100 fits 100000

pub note_send : IsSend note.the_row
note_send = let s : IsSend store.the_row = store_send in search (heap.crosses, maps.crosses, sendable, seat.the_send) depth 100 fits 100000

shelf_sync : IsSync shelf.the_field.row
shelf_sync = let p : IsSync past.the_row = past_sync in search (heap.crosses, maps.crosses, sendable) depth 100 fits 100000

coordinator_sync : IsSync coordinator.the_field.row
coordinator_sync = search (heap.crosses, maps.crosses, sendable) depth 100 fits 100000

queue_sync : IsSync queue.the_field.row
queue_sync = search (heap.crosses, maps.crosses, sendable) depth 100 fits 100000

pub store_sync : IsSync store.the_row
store_sync = recorded_sync store.the_field.row _ _ store.the_type.to_one (enum_sync (enum.shape store.the_type) ((shelf_sync, tt), ((coordinator_sync, tt), ((queue_sync, tt), tt))))

pub table_sync : IsSync table.the_row
table_sync =
    let s : IsSend store.the_row = store_send in
    let y : IsSync store.the_row = store_sync in
    search (heap.crosses, maps.crosses, sendable, shared.the_sync, lease.the_sync) depth 100 fits 100000
